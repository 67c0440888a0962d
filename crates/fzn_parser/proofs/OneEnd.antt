-- Tokens end in one tree or fault and no other.
use Rattle.std.proofs.Common.{◌≡◌, ◌⊎◌, ℕ, ◌≤◌, Bool, true, false, cond, List, [], ◌∷◌, ◌++◌, Option, Some, None, Result, Ok, Err, sym, refl, ap, ◌∙◌, subst, arith, ltb, inl, inr}
use Rattle.std.proofs.lemmas.Bool.{cond-true, lt-ltb}
use Rattle.std.proofs.lemmas.List.{append-nil}
use Rattle.std.specs.Prelude.{option_and_then}
use Rattle.fzn_parser.specs.declared.faults.What.{What}
use Rattle.fzn_parser.specs.declared.faults.SyntaxFault.{SyntaxFault}
use Rattle.fzn_parser.specs.declared.faults.SyntaxFault.TheVariants as faults
use Rattle.fzn_parser.specs.declared.tree.Tree.{Tree}
use Rattle.fzn_parser.specs.Grammar.{Sign}
use Rattle.fzn_parser.specs.ToCome as part
use Rattle.fzn_parser.specs.ToCome.{Part, may_be_missing, after_one, after_all, to_come, brackets, brackets_in}
use Rattle.fzn_parser.specs.Faults.{IsModel, BeginsModel, IsShallow, IsUnexpected, IsCut, IsTooDeep, IsFirstSyntaxFault, ParseEndsIn}
use Rattle.fzn_parser.proofs.Tracks.{Outcome, complete, cut, unexpected, deep, finish, on_next, scan, outcome_of}
use Rattle.fzn_parser.proofs.Completions.{peak_of, peak, scan_front, begins, no_fault}
use Rattle.fzn_parser.proofs.LastParts.{Well, all_well, finished}
use Rattle.fzn_parser.proofs.Walks.{Low}
use Rattle.fzn_parser.proofs.TextEnds.{FaultEnds}
use Rattle.fzn_parser.proofs.Endings.{nothing_to_come, model_where_nothing, begun_rest, after_all-append, one_after, same_tree}

abbrev all : List Part
all = part.items ∷ []

-- ---- tokens that nest no deeper are followed

peak_step : (limit : ℕ) (parts : List Part) (x : Sign) (xs : List Sign) (o : Option (List Part)) → after_one parts x.kind ≡ o → Low limit parts (x ∷ xs) → ((rest : List Part) → Low limit rest xs → peak xs rest ≤ limit) → peak_of (peak xs) o ≤ limit
peak_step limit parts x xs None is low go = omega arith
peak_step limit parts x xs (Some rest) is low go =
    let one : brackets rest ≤ limit = subst (λ o. brackets_in (option_and_then (λ (r : List Part). Some r) o) ≤ limit) is (low (x ∷ []) xs refl) in
    let more : peak xs rest ≤ limit = go rest (λ front back e. subst (λ o. brackets_in (option_and_then (λ r. after_all r front) o) ≤ limit) is (low (x ∷ front) back (ap (λ zs. x ∷ zs) e))) in
    omega arith

peak_low : (limit : ℕ) (xs : List Sign) (parts : List Part) → Low limit parts xs → peak xs parts ≤ limit
peak_low limit [] parts low = omega arith
peak_low limit (x ∷ xs) parts low = peak_step limit parts x xs (after_one parts x.kind) refl low (λ rest k. peak_low limit xs rest k)

scan_low : (xs ys : List Sign) (rest : List Part) → to_come xs ≡ Some rest → IsShallow xs → scan 100 all (xs ++ ys) ≡ scan 100 rest ys
scan_low xs ys rest is low = scan_front 100 xs ys all rest is (peak_low 100 xs all low)

scan_whole : (xs : List Sign) (rest : List Part) → to_come xs ≡ Some rest → IsShallow xs → scan 100 all xs ≡ finish rest
scan_whole xs rest is low = ap (scan 100 all) (sym (append-nil xs)) ∙ scan_low xs [] rest is low

-- ---- faults

cannot_come : (before : List Sign) (x : Sign) (rest : List Part) (o : Option (List Part)) → to_come before ≡ Some rest → (BeginsModel (before ++ x ∷ []) → ⊥) → after_one rest x.kind ≡ o → after_one rest x.kind ≡ None
cannot_come before x rest None is ends one = one
cannot_come before x rest (Some next) is ends one = absurd (ends (begins (before ++ x ∷ []) next (one_after before x rest (Some next) is one)))

unexpected_outcome : (xs : List Sign) (at : ℕ) (what : What) → IsUnexpected xs at what → scan 100 all xs ≡ unexpected at what
unexpected_outcome xs at what u =
    ap (scan 100 all) u.split.is
    ∙ (scan_low u.before (u.x ∷ u.split.behind) u.rest u.left_open u.shallow
    ∙ (ap (on_next (λ rest. scan 100 rest u.split.behind) 100 u.x.at u.rest) (cannot_come u.before u.x u.rest (after_one u.rest u.x.kind) u.left_open u.ends refl)
    ∙ (ap (λ p. unexpected p (part.expected u.rest)) (sym u.place) ∙ ap (λ w. unexpected at w) (sym u.named))))

either_end : (parts : List Part) → (finish parts ≡ complete) ⊎ (finish parts ≡ cut)
either_end [] = inl refl
either_end (p ∷ rest) = by_missing (may_be_missing p) (either_end rest)
  where
    by_missing : (b : Bool) → (finish rest ≡ complete) ⊎ (finish rest ≡ cut) → (cond b (finish rest) cut ≡ complete) ⊎ (cond b (finish rest) cut ≡ cut)
    by_missing true h = h
    by_missing false h = inr refl

cut_end : (xs : List Sign) (rest : List Part) → to_come xs ≡ Some rest → (IsModel xs → ⊥) → (finish rest ≡ complete) ⊎ (finish rest ≡ cut) → finish rest ≡ cut
cut_end xs rest is none (inl h) = absurd (none (model_where_nothing xs (is ∙ ap (λ (ps : List Part). Some ps) (finished rest (subst Well is (all_well xs all refl)) h))))
cut_end xs rest is none (inr h) = h

cut_outcome : (xs : List Sign) → IsCut xs → scan 100 all xs ≡ cut
cut_outcome xs c =
    let r = begun_rest xs c.begins in
    scan_whole xs r.0 r.1 c.shallow ∙ cut_end xs r.0 r.1 c.none (either_end r.0)

came : (rest : List Part) (x : Sign) (next : List Part) (o : Option (List Part)) → option_and_then (λ (r : List Part). Some r) o ≡ Some next → after_one rest x.kind ≡ o → after_one rest x.kind ≡ Some next
came rest x next None h is = absurd (cc)
came rest x next (Some ps) h is = is ∙ h

front_rest : (o : Option (List Part)) (x : Sign) (next : List Part) → option_and_then (λ r. after_all r (x ∷ [])) o ≡ Some next → (rest : List Part) × (o ≡ Some rest)
front_rest None x next h = absurd (cc)
front_rest (Some rest) x next h = (rest, refl)

deep_next : (at : ℕ) (next rest : List Part) (go : List Part → Outcome) → brackets next ≡ 101 → on_next go 100 at rest (Some next) ≡ deep at
deep_next at next rest go h = cond-true (ltb 100 (brackets next)) (deep at) (go next) (lt-ltb 100 (brackets next) (omega arith))

deep_outcome : (xs : List Sign) (at : ℕ) → IsTooDeep xs at → scan 100 all xs ≡ deep at
deep_outcome xs at d =
    let n = begun_rest (d.before ++ d.x ∷ []) d.begins in
    let r = front_rest (to_come d.before) d.x n.0 (sym (after_all-append d.before (d.x ∷ []) all) ∙ n.1) in
    let one : after_one r.0 d.x.kind ≡ Some n.0 = came r.0 d.x n.0 (after_one r.0 d.x.kind) (sym (one_after d.before d.x r.0 (after_one r.0 d.x.kind) r.1 refl) ∙ n.1) refl in
    let high : brackets n.0 ≡ 101 = sym (ap brackets_in n.1) ∙ d.deep in
    ap (scan 100 all) d.split.is
    ∙ (scan_low d.before (d.x ∷ d.split.behind) r.0 r.1 d.shallow
    ∙ (ap (on_next (λ rest. scan 100 rest d.split.behind) 100 d.x.at r.0) one ∙ (deep_next d.x.at n.0 r.0 (λ rest. scan 100 rest d.split.behind) high ∙ ap (λ p. deep p) (sym d.place))))

fault_outcome : (n : ℕ) (xs : List Sign) (e : SyntaxFault) → IsFirstSyntaxFault n xs e → scan 100 all xs ≡ outcome_of e
fault_outcome n xs (faults.Expected at what) h = unexpected_outcome xs at what h
fault_outcome n xs (faults.EndOfFile at) h = cut_outcome xs h.1
fault_outcome n xs (faults.TooDeep at) h = deep_outcome xs at h
fault_outcome n xs faults.Memory h = absurd h

fault_end : (n : ℕ) (xs : List Sign) (e : SyntaxFault) → IsFirstSyntaxFault n xs e → FaultEnds n e
fault_end n xs (faults.Expected at what) h = tt
fault_end n xs (faults.EndOfFile at) h = h.0
fault_end n xs (faults.TooDeep at) h = tt
fault_end n xs faults.Memory h = absurd h

same_fault : (n : ℕ) (e f : SyntaxFault) → FaultEnds n e → FaultEnds n f → outcome_of e ≡ outcome_of f → e ≡ f
same_fault n (faults.Expected a v) (faults.Expected b w) h k o = let places : a ≡ b = cc in let names : v ≡ w = cc in ap (λ p. faults.Expected p v) places ∙ ap (λ z. faults.Expected b z) names
same_fault n (faults.Expected a v) (faults.EndOfFile b) h k o = absurd (cc)
same_fault n (faults.Expected a v) (faults.TooDeep b) h k o = absurd (cc)
same_fault n (faults.EndOfFile a) (faults.Expected b w) h k o = absurd (cc)
same_fault n (faults.EndOfFile a) (faults.EndOfFile b) h k o = ap (λ p. faults.EndOfFile p) (h ∙ sym k)
same_fault n (faults.EndOfFile a) (faults.TooDeep b) h k o = absurd (cc)
same_fault n (faults.TooDeep a) (faults.Expected b w) h k o = absurd (cc)
same_fault n (faults.TooDeep a) (faults.EndOfFile b) h k o = absurd (cc)
same_fault n (faults.TooDeep a) (faults.TooDeep b) h k o = let places : a ≡ b = cc in ap (λ p. faults.TooDeep p) places
same_fault n faults.Memory f h k o = absurd h
same_fault n e faults.Memory h k o = absurd k

-- ---- the one end

tree_outcome : (xs : List Sign) → IsModel xs → IsShallow xs → scan 100 all xs ≡ complete
tree_outcome xs m low = scan_whole xs [] (nothing_to_come xs m) low

apart : (n : ℕ) (xs : List Sign) (e : SyntaxFault) → IsModel xs → IsShallow xs → IsFirstSyntaxFault n xs e → ⊥
apart n xs e m low h = no_fault e (sym (fault_outcome n xs e h) ∙ tree_outcome xs m low)

pub one_end : (n : ℕ) (xs : List Sign) (a b : Result Tree SyntaxFault) → ParseEndsIn n xs a → ParseEndsIn n xs b → a ≡ b
one_end n xs (Ok s) (Ok t) h k = ap (λ (v : Tree). Ok v) (same_tree xs s t h.spelled k.spelled)
one_end n xs (Ok s) (Err e) h k = absurd (apart n xs e (record { tree = s; spelled = h.spelled }) h.shallow k)
one_end n xs (Err e) (Ok t) h k = absurd (apart n xs e (record { tree = t; spelled = k.spelled }) k.shallow h)
one_end n xs (Err e) (Err f) h k = ap (λ (v : SyntaxFault). Err v) (same_fault n e f (fault_end n xs e h) (fault_end n xs f k) (sym (fault_outcome n xs e h) ∙ fault_outcome n xs f k))
