-- What the reading of a whole model ends in is what its tokens end in: the tree, or the first fault.
use Rattle.std.proofs.Common.{◌≡◌, ◌↔◌, ℕ, suc, ◌<◌, ◌≤◌, length, List, [], ◌∷◌, ◌++◌, Option, Some, None, Result, Ok, Err, sym, refl, ap, ◌∙◌, subst, arith}
use Rattle.std.specs.Prelude.{option_and_then}
use Rattle.std.specs.Option.{IsSome}
use Rattle.std.proofs.lemmas.Bool.{ltb-true}
use Rattle.std.proofs.lemmas.List.{append-nil}
use Rattle.fzn_parser.specs.declared.faults.SyntaxFault.{SyntaxFault}
use Rattle.fzn_parser.specs.declared.faults.SyntaxFault.TheVariants as faults
use Rattle.fzn_parser.specs.declared.tree.Item.{Item}
use Rattle.fzn_parser.specs.declared.tree.Tree.{Tree}
use Rattle.fzn_parser.specs.Grammar.{Sign, Spells}
use Rattle.fzn_parser.specs.ToCome as part
use Rattle.fzn_parser.specs.ToCome.{Part, after_one, after_all, to_come, brackets, brackets_in, nesting}
use Rattle.fzn_parser.specs.Faults.{IsModel, BeginsModel, IsFirstSyntaxFault, IsTreeOf, ParseEndsIn}
use Rattle.fzn_parser.specs.Reading.{model}
use Rattle.fzn_parser.proofs.Tracks.{complete, cut, finish, scan, outcome_of}
use Rattle.fzn_parser.proofs.TracksItems.{outcome_of_all, model_tracks}
use Rattle.fzn_parser.proofs.SoundsAnnotations.{annotations_says}
use Rattle.fzn_parser.proofs.SoundsItems.{SaysAll, model_says}
use Rattle.fzn_parser.proofs.Completions.{Usual, all_kept, peak, scan_front, is_model, begins}
use Rattle.fzn_parser.proofs.Openings.{one_more_bracket}
use Rattle.fzn_parser.proofs.LastParts.{Well, all_well, finished}
use Rattle.fzn_parser.proofs.Walks.{Through, Stuck, Deep, Walked, walk}
use Rattle.fzn_parser.proofs.TextEnds.{FaultEnds, Ends, model_ends}
use Rattle.fzn_parser.proofs.AgainItems.{model_again}

-- all that is to come at the beginning
abbrev all : List Part
all = part.items ∷ []

-- ---- models

abbrev whole_by : (xs : List Sign) → Through (length xs) all xs complete → to_come xs ≡ Some []
whole_by xs w = w.is ∙ ap (λ (ps : List Part). Some ps) (finished w.rest (subst Well w.is (all_well xs all refl)) w.end)

pub nothing_to_come : (xs : List Sign) → IsModel xs → to_come xs ≡ Some []
nothing_to_come xs m =
    let d : ℕ = length xs in
    let read : model 0 d xs ≡ Ok m.tree.items = model_again 0 d m.tree.items xs (omega arith) m.spelled in
    let done : scan d all xs ≡ complete = model_tracks d 0 d (omega arith) xs ∙ ap outcome_of_all read in
    whole_by xs (subst (Walked d all xs) done (walk d all xs (omega arith)))

pub model_where_nothing : (xs : List Sign) → to_come xs ≡ Some [] → IsModel xs
model_where_nothing xs h =
    let limit : ℕ = peak xs all in
    subst IsModel (append-nil xs) (is_model limit (xs ++ []) (scan_front limit xs [] all [] h (omega arith)))

-- ---- beginnings

append_step : (xs ys : List Sign) (o : Option (List Part)) → ((r : List Part) → after_all r (xs ++ ys) ≡ option_and_then (λ s. after_all s ys) (after_all r xs))
    → option_and_then (λ r. after_all r (xs ++ ys)) o ≡ option_and_then (λ s. after_all s ys) (option_and_then (λ r. after_all r xs) o)
append_step xs ys None go = refl
append_step xs ys (Some r) go = go r

pub after_all-append : (xs ys : List Sign) (parts : List Part) → after_all parts (xs ++ ys) ≡ option_and_then (λ r. after_all r ys) (after_all parts xs)
after_all-append [] ys parts = refl
after_all-append (x ∷ xs) ys parts = append_step xs ys (after_one parts x.kind) (λ r. after_all-append xs ys r)

some_rest : (o : Option (List Part)) (ys : List Sign) → option_and_then (λ r. after_all r ys) o ≡ Some [] → (rest : List Part) × (o ≡ Some rest)
some_rest None ys h = absurd (cc)
some_rest (Some rest) ys h = (rest, refl)

pub begun_rest : (xs : List Sign) → BeginsModel xs → (rest : List Part) × (to_come xs ≡ Some rest)
begun_rest xs b = some_rest (to_come xs) b.more (sym (after_all-append xs b.more all) ∙ nothing_to_come (xs ++ b.more) b.model)

-- one more token
pub one_after : (before : List Sign) (x : Sign) (rest : List Part) (o : Option (List Part)) → to_come before ≡ Some rest → after_one rest x.kind ≡ o → to_come (before ++ x ∷ []) ≡ option_and_then (λ r. Some r) o
one_after before x rest o is one =
    after_all-append before (x ∷ []) all ∙ (ap (option_and_then (λ r. after_all r (x ∷ []))) is ∙ ap (option_and_then (λ (r : List Part). Some r)) one)

begins_no_more : (before : List Sign) (x : Sign) (rest : List Part) → to_come before ≡ Some rest → after_one rest x.kind ≡ None → BeginsModel (before ++ x ∷ []) → ⊥
begins_no_more before x rest is none b =
    let r = begun_rest (before ++ x ∷ []) b in
    let bad : Some r.0 ≡ None = sym r.1 ∙ one_after before x rest None is none in cc

-- ---- what reading ends in

module _ (n : ℕ) (xs : List Sign) where
  stuck_fault : (at : ℕ) (what : _) → Stuck 100 all xs at what → IsFirstSyntaxFault n xs (faults.Expected at what)
  stuck_fault at what w = record {
    before = w.before;
    x = w.x;
    split = record { behind = w.behind; is = w.split };
    place = w.place;
    begins = begins w.before w.rest w.is;
    ends = begins_no_more w.before w.x w.rest w.is w.none;
    shallow = w.low;
    rest = w.rest;
    left_open = w.is;
    named = w.named;
  }

  no_model : Through 100 all xs cut → IsModel xs → ⊥
  no_model w m =
      let same : Some w.rest ≡ Some [] = sym w.is ∙ nothing_to_come xs m in
      let none : w.rest ≡ [] = cc in
      let bad : complete ≡ cut = subst (λ r. finish r ≡ cut) none w.end in cc

  cut_fault : (at : ℕ) → at ≡ n → Through 100 all xs cut → IsFirstSyntaxFault n xs (faults.EndOfFile at)
  cut_fault at place w = (place, record { begins = begins xs w.rest w.is; none = no_model w; shallow = w.low })

  deep_fault : (at : ℕ) → Deep 100 all xs at → IsFirstSyntaxFault n xs (faults.TooDeep at)
  deep_fault at w =
      let next : to_come (w.before ++ w.x ∷ []) ≡ Some w.next = one_after w.before w.x w.rest (Some w.next) w.is w.one in
      let one : brackets w.next ≤ suc (brackets w.rest) = subst (λ o. brackets_in o ≤ suc (brackets w.rest)) w.one (one_more_bracket w.rest w.x.kind (subst Usual w.is (all_kept w.before all refl))) in
      let high : 100 < brackets w.next = ltb-true 100 (brackets w.next) w.high in
      let low : brackets w.rest ≤ 100 = subst (λ o. brackets_in o ≤ 100) w.is (w.low w.before [] (sym (append-nil w.before))) in
      let exact : brackets w.next ≡ 101 = omega arith in
      record {
        before = w.before;
        x = w.x;
        split = record { behind = w.behind; is = w.split };
        place = w.place;
        begins = begins (w.before ++ w.x ∷ []) w.next next;
        shallow = w.low;
        deep = ap brackets_in next ∙ exact;
      }

  by_fault : (e : SyntaxFault) → FaultEnds n e → Walked 100 all xs (outcome_of e) → IsFirstSyntaxFault n xs e
  by_fault (faults.Expected at what) h w = stuck_fault at what w
  by_fault (faults.EndOfFile at) h w = cut_fault at h w
  by_fault (faults.TooDeep at) h w = deep_fault at w
  by_fault faults.Memory h w = absurd h

  pub fault_read : (e : SyntaxFault) → model n 100 xs ≡ Err e → IsFirstSyntaxFault n xs e
  fault_read e read =
      by_fault e (subst (Ends n) read (model_ends n 100 xs)) (subst (Walked 100 all xs) (model_tracks 100 n 100 (omega arith) xs ∙ ap outcome_of_all read) (walk 100 all xs (omega arith)))

  abbrev tree_by : (items : List Item) → Spells xs (record { items = items }) → Through 100 all xs complete → IsTreeOf xs (record { items = items })
  tree_by items spelled w = record { spelled = spelled; shallow = w.low }

  pub tree_read : (items : List Item) → model n 100 xs ≡ Ok items → IsTreeOf xs (record { items = items })
  tree_read items read =
      tree_by items (subst (SaysAll n 100 (annotations_says n 100) xs) read (model_says n 100 (annotations_says n 100) xs))
      (subst (Walked 100 all xs) (model_tracks 100 n 100 (omega arith) xs ∙ ap outcome_of_all read) (walk 100 all xs (omega arith)))

-- ---- laws

pub same_tree : (xs : List Sign) (a b : Tree) → Spells xs a → Spells xs b → a ≡ b
same_tree xs a b h k =
    let d : ℕ = length xs in
    let both : ◌≡◌ {A = Result (List Item) SyntaxFault} (Ok a.items) (Ok b.items) = sym (model_again 0 d a.items xs (omega arith) h) ∙ model_again 0 d b.items xs (omega arith) k in
    let same : a.items ≡ b.items = cc in
    ap (λ (is : List Item). let t : Tree = record { items = is } in t) same

pub models : (xs : List Sign) → IsModel xs ↔ (to_come xs ≡ Some [])
models xs = (nothing_to_come xs, model_where_nothing xs)

is_some : (o : Option (List Part)) (rest : List Part) → o ≡ Some rest → IsSome o
is_some o rest h = subst IsSome (sym h) refl

rest_of : (o : Option (List Part)) → IsSome o → (rest : List Part) × (o ≡ Some rest)
rest_of None h = absurd (cc)
rest_of (Some rest) h = (rest, refl)

begun_from : (xs : List Sign) → IsSome (to_come xs) → BeginsModel xs
begun_from xs h = let r = rest_of (to_come xs) h in begins xs r.0 r.1

begun_to : (xs : List Sign) → BeginsModel xs → IsSome (to_come xs)
begun_to xs b = let r = begun_rest xs b in is_some (to_come xs) r.0 r.1

pub begun : (xs : List Sign) → BeginsModel xs ↔ IsSome (to_come xs)
begun xs = (begun_to xs, begun_from xs)

end_of : (n : ℕ) (xs : List Sign) (r : Result (List Item) SyntaxFault) → model n 100 xs ≡ r → (e : Result Tree SyntaxFault) × ParseEndsIn n xs e
end_of n xs (Ok items) h = (Ok (record { items = items }), tree_read n xs items h)
end_of n xs (Err e) h = (Err e, fault_read n xs e h)

pub some_end : (n : ℕ) (xs : List Sign) → (e : Result Tree SyntaxFault) × ParseEndsIn n xs e
some_end n xs = end_of n xs (model n 100 xs) refl
