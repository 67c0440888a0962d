-- Parts lead from the beginning of a text to the place that is read so far, and no others do.
use Rattle.std.proofs.Common.{◌≡◌, ℕ, ◌+◌, ◌-◌, ◌<◌, ◌≤◌, List, [], ◌∷◌, ◌++◌, length, drop, take, Option, Some, None, ⊎_elim, ◌⊎◌, inl, inr, sym, refl, ap, ◌∙◌, subst, arith, length-drop}
use Rattle.std.specs.Prelude.{Result, Ok, Err}
use Rattle.std.proofs.lemmas.Bool.{cases_order}
use Rattle.std.proofs.lemmas.List.{append-nil}
use Rattle.std.proofs.lemmas.List.Elements.{filter_map-append}
use Rattle.fzn_reader.specs.declared.tokens.TokenKind.{TokenKind}
use Rattle.fzn_reader.specs.declared.tokens.Token.{Token}
use Rattle.fzn_reader.specs.declared.pieces.Piece.{Piece}
use Rattle.fzn_reader.specs.declared.pieces.Piece.TheVariants as pieces
use Rattle.fzn_reader.specs.declared.lexer.LexFault.{LexFault}
use Rattle.fzn_reader.specs.declared.lexer.LexFault.TheVariants as faults
use Rattle.fzn_reader.specs.Pieces.{piece_of, IsLongestPiece, BeginsNoPiece}
use Rattle.fzn_reader.specs.Front.{IsTaken, IsRefused, HasCause}
use Rattle.fzn_reader.proofs.FaultCauses.{lacks_digits, open_string}
use Rattle.fzn_reader.specs.Scan.{Part, piece_of_part, LeadFrom, token_of_kind, tokens_of, AreTokensOf, IsReached, IsFirstLexFault, EndsIn, LieBetween, HaveTheirForms}

-- ---- the longest piece is one

pub same_piece : (text : List ℕ) (n m : ℕ) (p q : Piece) → IsLongestPiece text n p → IsLongestPiece text m q → (n ≡ m) × (p ≡ q)
same_piece text n m p q a b =
    ⊎_elim
    (λ same. (same, let e : Some p ≡ Some q = sym a.form ∙ ap (λ k. piece_of (take k text)) same ∙ b.form in cc))
    (λ apart. ⊎_elim (λ less. let none = a.longest m less b.within in absurd (let e : None ≡ Some q = sym none ∙ b.form in cc)) (λ more. let none = b.longest n more a.within in absurd (let e : None ≡ Some p = sym none ∙ a.form in cc)) apart)
    (cases_order n m)

same_kind : (k l : Option TokenKind) → piece_of_part k ≡ piece_of_part l → k ≡ l
same_kind None None h = refl
same_kind None (Some l) h = absurd (cc)
same_kind (Some k) None h = absurd (cc)
same_kind (Some k) (Some l) h = cc

-- ---- parts that lead to a place where neither a token nor a gap begins

abbrev pub StopsAt : List ℕ → ℕ → Type 0
StopsAt text at = (n : ℕ) (kind : Option TokenKind) → IsLongestPiece (drop at text) n (piece_of_part kind) → ⊥

same_part : (text : List ℕ) (at : ℕ) (p q : Part) → p.from ≡ at → q.from ≡ at → IsLongestPiece (drop p.from text) (p.to - p.from) (piece_of_part p.kind) → IsLongestPiece (drop q.from text) (q.to - q.from) (piece_of_part q.kind) → p ≡ q
same_part text at p q p_at q_at p_is q_is =
    let there : IsLongestPiece (drop p.from text) (q.to - q.from) (piece_of_part q.kind) = subst (λ (k : ℕ). IsLongestPiece (drop k text) (q.to - q.from) (piece_of_part q.kind)) (q_at ∙ sym p_at) q_is in
    let same = same_piece (drop p.from text) (p.to - p.from) (q.to - q.from) (piece_of_part p.kind) (piece_of_part q.kind) p_is there in
    let kind : p.kind ≡ q.kind = same_kind p.kind q.kind same.1 in
    let from : p.from ≡ q.from = p_at ∙ sym q_at in
    let to : p.to ≡ q.to = omega (arith, same.0, p_is.some, q_is.some) in
    λ k. record { kind = kind k; from = from k; to = to k }

pub same_lead : (text : List ℕ) (at : ℕ) (ps qs : List Part) (a b : ℕ) → LeadFrom text at ps a → LeadFrom text at qs b → StopsAt text a → StopsAt text b → (ps ≡ qs) × (a ≡ b)
same_lead text at [] [] a b p q stop_a stop_b = (refl, sym p ∙ q)
same_lead text at [] (r ∷ qs) a b p q stop_a stop_b = absurd (stop_a (r.to - r.from) r.kind (subst (λ (k : ℕ). IsLongestPiece (drop k text) (r.to - r.from) (piece_of_part r.kind)) (q.0 ∙ p) q.1))
same_lead text at (r ∷ ps) [] a b p q stop_a stop_b = absurd (stop_b (r.to - r.from) r.kind (subst (λ (k : ℕ). IsLongestPiece (drop k text) (r.to - r.from) (piece_of_part r.kind)) (p.0 ∙ q) p.1))
same_lead text at (r ∷ ps) (s ∷ qs) a b p q stop_a stop_b =
    let same : r ≡ s = same_part text at r s p.0 q.0 p.1 q.1 in
    let rest = same_lead text r.to ps qs a b p.2 (subst (λ (x : Part). LeadFrom text x.to qs b) (sym same) q.2) stop_a stop_b in
    (λ k. same k ∷ rest.0 k, rest.1)

stops_at_end : (text : List ℕ) → StopsAt text (length text)
stops_at_end text n kind h = absurd (omega (arith, h.some, h.within, length-drop (length text) text))

stops_at_none : (text : List ℕ) (at : ℕ) → BeginsNoPiece (drop at text) → StopsAt text at
stops_at_none text at none n kind h = let e : None ≡ Some (piece_of_part kind) = sym (none.none n h.some h.within) ∙ h.form in absurd (cc)

-- ---- where a fault stands

-- the longest piece at a place, or that there is none
abbrev Stands : List ℕ → ℕ → Option Piece → Type 0
Stands text at None = BeginsNoPiece (drop at text)
Stands text at (Some piece) = (n : ℕ) × IsLongestPiece (drop at text) n piece

same_standing : (text : List ℕ) (at : ℕ) (o p : Option Piece) → Stands text at o → Stands text at p → o ≡ p
same_standing text at None None h k = refl
same_standing text at None (Some q) h k = let e : None ≡ Some q = sym (h.none k.0 k.1.some k.1.within) ∙ k.1.form in absurd (cc)
same_standing text at (Some p) None h k = let e : None ≡ Some p = sym (k.none h.0 h.1.some h.1.within) ∙ h.1.form in absurd (cc)
same_standing text at (Some p) (Some q) h k = let e : p ≡ q = (same_piece (drop at text) h.0 k.0 p q h.1 k.1).1 in ap (λ x. Some x) e

abbrev place_of : LexFault → ℕ
place_of (faults.BadByte at) = at
place_of (faults.BadNumber at) = at
place_of (faults.OpenString at) = at
place_of faults.Memory = 0

abbrev piece_of_fault : LexFault → Option Piece
piece_of_fault (faults.BadByte at) = None
piece_of_fault (faults.BadNumber at) = Some pieces.NoDigits
piece_of_fault (faults.OpenString at) = Some pieces.OpenQuote
piece_of_fault faults.Memory = None

abbrev fault_with : ℕ → Option Piece → LexFault
fault_with at None = faults.BadByte at
fault_with at (Some pieces.NoDigits) = faults.BadNumber at
fault_with at (Some pieces.OpenQuote) = faults.OpenString at
fault_with at (Some pieces.Gap) = faults.Memory
fault_with at (Some (pieces.Token kind)) = faults.Memory

again : (text : List ℕ) (f : LexFault) → IsFirstLexFault text f → fault_with (place_of f) (piece_of_fault f) ≡ f
again text (faults.BadByte at) h = refl
again text (faults.BadNumber at) h = refl
again text (faults.OpenString at) h = refl
again text faults.Memory h = absurd h

reached : (text : List ℕ) (f : LexFault) → IsFirstLexFault text f → IsReached text (place_of f)
reached text (faults.BadByte at) h = h.0
reached text (faults.BadNumber at) h = h.0
reached text (faults.OpenString at) h = h.0
reached text faults.Memory h = absurd h

stands : (text : List ℕ) (f : LexFault) → IsFirstLexFault text f → Stands text (place_of f) (piece_of_fault f)
stands text (faults.BadByte at) h = h.1
stands text (faults.BadNumber at) h = lacks_digits (drop at text) h.1
stands text (faults.OpenString at) h = open_string (drop at text) h.1
stands text faults.Memory h = absurd h

not_a_part : (kind : Option TokenKind) (f : LexFault) → Some (piece_of_part kind) ≡ piece_of_fault f → ⊥
not_a_part None (faults.BadByte at) e = absurd (cc)
not_a_part None (faults.BadNumber at) e = absurd (cc)
not_a_part None (faults.OpenString at) e = absurd (cc)
not_a_part None faults.Memory e = absurd (cc)
not_a_part (Some kind) (faults.BadByte at) e = absurd (cc)
not_a_part (Some kind) (faults.BadNumber at) e = absurd (cc)
not_a_part (Some kind) (faults.OpenString at) e = absurd (cc)
not_a_part (Some kind) faults.Memory e = absurd (cc)

stops_at_fault : (text : List ℕ) (f : LexFault) → IsFirstLexFault text f → StopsAt text (place_of f)
stops_at_fault text f h n kind is =
    not_a_part kind f (same_standing text (place_of f) (Some (piece_of_part kind)) (piece_of_fault f) (n, is) (stands text f h))

-- ---- a scan has one end

same_faults : (text : List ℕ) (f g : LexFault) → IsFirstLexFault text f → IsFirstLexFault text g → f ≡ g
same_faults text f g h k =
    let there = reached text f h in
    let here = reached text g k in
    let at : place_of f ≡ place_of g = (same_lead text 0 there.parts here.parts (place_of f) (place_of g) there.lead here.lead (stops_at_fault text f h) (stops_at_fault text g k)).1 in
    let piece : piece_of_fault f ≡ piece_of_fault g = same_standing text (place_of g) (piece_of_fault f) (piece_of_fault g) (subst (λ (x : ℕ). Stands text x (piece_of_fault f)) at (stands text f h)) (stands text g k) in
    sym (again text f h) ∙ (λ k. fault_with (at k) (piece k)) ∙ again text g k

no_fault : (text : List ℕ) (ts : List Token) (f : LexFault) → AreTokensOf text ts → IsFirstLexFault text f → ⊥
no_fault text ts f h k =
    let here = reached text f k in
    let at : length text ≡ place_of f = (same_lead text 0 h.parts here.parts (length text) (place_of f) h.lead here.lead (stops_at_end text) (stops_at_fault text f k)).1 in
    absurd (omega (arith, here.within))

pub one_end : (text : List ℕ) (a b : Result (List Token) LexFault) → EndsIn text a → EndsIn text b → a ≡ b
one_end text (Ok ts) (Ok us) h k =
    let same : h.parts ≡ k.parts = (same_lead text 0 h.parts k.parts (length text) (length text) h.lead k.lead (stops_at_end text) (stops_at_end text)).0 in
    ap (λ x. Ok x) (h.tokens_are ∙ ap tokens_of same ∙ sym k.tokens_are)
one_end text (Ok ts) (Err g) h k = absurd (no_fault text ts g h k)
one_end text (Err f) (Ok us) h k = absurd (no_fault text us f k h)
one_end text (Err f) (Err g) h k = ap (λ x. Err x) (same_faults text f g h k)

-- ---- the scan up to a place

pub record ReadsTo (text : List ℕ) (tokens : List Token) (from : ℕ) : Type 0 where
  pub parts : List Part
  pub lead : LeadFrom text 0 parts from
  pub tokens_are : tokens ≡ tokens_of parts
  pub within : from ≤ length text

pub reads_to_start : (text : List ℕ) → ReadsTo text [] 0
reads_to_start text = record { parts = []; lead = refl; tokens_are = refl; within = omega arith }

pub lead_more : (text : List ℕ) (at : ℕ) (ps : List Part) (p : Part) (from : ℕ) → LeadFrom text at ps from → p.from ≡ from → IsLongestPiece (drop p.from text) (p.to - p.from) (piece_of_part p.kind) → LeadFrom text at (ps ++ p ∷ []) p.to
lead_more text at [] p from lead is longest = (is ∙ sym lead, longest, refl)
lead_more text at (q ∷ ps) p from lead is longest = (lead.0, lead.1, lead_more text q.to ps p from lead.2 is longest)

reads_part : (text : List ℕ) (tokens new : List Token) (from len : ℕ) (kind : Option TokenKind) → ReadsTo text tokens from → IsLongestPiece (drop from text) len (piece_of_part kind) → new ≡ tokens ++ tokens_of (record { kind = kind; from = from; to = from + len } ∷ []) → ReadsTo text new (from + len)
reads_part text tokens new from len kind read longest is =
    let p : Part = record { kind = kind; from = from; to = from + len } in
    let size : len ≡ from + len - from = omega arith in
    record {
      parts = read.parts ++ p ∷ [];
      lead = lead_more text 0 read.parts p from read.lead refl (subst (λ (n : ℕ). IsLongestPiece (drop from text) n (piece_of_part kind)) size longest);
      tokens_are = is ∙ ap (λ ts. ts ++ tokens_of (p ∷ [])) read.tokens_are ∙ sym (filter_map-append (λ (q : Part). token_of_kind q.kind q.from q.to) read.parts (p ∷ []));
      within = omega (arith, longest.within, read.within, length-drop from text);
    }

pub reads_to_more : (text : List ℕ) (tokens new : List Token) (from len : ℕ) (piece : Piece) → ReadsTo text tokens from → IsLongestPiece (drop from text) len piece → IsTaken piece from (from + len) tokens new → ReadsTo text new (from + len)
reads_to_more text tokens new from len (pieces.Token kind) read longest taken = reads_part text tokens new from len (Some kind) read longest taken
reads_to_more text tokens new from len pieces.Gap read longest taken = reads_part text tokens new from len None read longest (taken ∙ sym (append-nil tokens))
reads_to_more text tokens new from len pieces.NoDigits read longest taken = absurd taken
reads_to_more text tokens new from len pieces.OpenQuote read longest taken = absurd taken

-- ---- the end of the scan

pub tokens_at_end : (text : List ℕ) (tokens : List Token) (from : ℕ) → ReadsTo text tokens from → length text ≤ from → AreTokensOf text tokens
tokens_at_end text tokens from read ended =
    let at : from ≡ length text = omega (arith, read.within) in
    record { parts = read.parts; lead = subst (λ (x : ℕ). LeadFrom text 0 read.parts x) at read.lead; tokens_are = read.tokens_are }

is_reached : (text : List ℕ) (tokens : List Token) (from : ℕ) → ReadsTo text tokens from → from < length text → IsReached text from
is_reached text tokens from read more = record { parts = read.parts; lead = read.lead; within = more }

pub bad_byte : (text : List ℕ) (tokens : List Token) (from : ℕ) → ReadsTo text tokens from → from < length text → BeginsNoPiece (drop from text) → IsFirstLexFault text (faults.BadByte from)
bad_byte text tokens from read more none = (is_reached text tokens from read more, none)

pub bad_piece : (text : List ℕ) (tokens : List Token) (from : ℕ) (piece : Piece) (e : LexFault) → ReadsTo text tokens from → from < length text → HasCause (drop from text) piece → (e ≡ faults.Memory) ⊎ IsRefused piece from e → (e ≡ faults.Memory) ⊎ IsFirstLexFault text e
bad_piece text tokens from piece e read more cause (inl memory) = inl memory
bad_piece text tokens from (pieces.Token kind) e read more cause (inr refused) = absurd refused
bad_piece text tokens from pieces.Gap e read more cause (inr refused) = absurd refused
bad_piece text tokens from pieces.NoDigits e read more cause (inr refused) = inr (subst (λ (f : LexFault). IsFirstLexFault text f) (sym refused) (is_reached text tokens from read more, cause))
bad_piece text tokens from pieces.OpenQuote e read more cause (inr refused) = inr (subst (λ (f : LexFault). IsFirstLexFault text f) (sym refused) (is_reached text tokens from read more, cause))

-- ---- where tokens lie

between_from : (a b : ℕ) (ts : List Token) (n : ℕ) → a ≤ b → LieBetween b ts n → LieBetween a ts n
between_from a b [] n h k = omega arith
between_from a b (t ∷ ts) n h k = (omega (arith, k.0), k.1, k.2)

between_part : (p : Part) (ps : List Part) (n : ℕ) → p.from < p.to → LieBetween p.to (tokens_of ps) n → LieBetween p.from (tokens_of (p ∷ ps)) n
between_part p ps n some rest = go p.kind
  where
    go : (kind : Option TokenKind) → LieBetween p.from (tokens_of (record { kind = kind; from = p.from; to = p.to } ∷ ps)) n
    go None = between_from p.from p.to (tokens_of ps) n (omega arith) rest
    go (Some kind) = (omega arith, some, rest)

lie_between : (text : List ℕ) (at : ℕ) (ps : List Part) (end : ℕ) → LeadFrom text at ps end → LieBetween at (tokens_of ps) end
lie_between text at [] end lead = omega (arith, lead)
lie_between text at (p ∷ ps) end lead =
    let rest = lie_between text p.to ps end lead.2 in
    between_from at p.from (tokens_of (p ∷ ps)) end (omega (arith, lead.0)) (between_part p ps end (omega (arith, lead.1.some)) rest)

pub in_order : (text : List ℕ) (tokens : List Token) → AreTokensOf text tokens → LieBetween 0 tokens (length text)
in_order text tokens h = subst (λ (ts : List Token). LieBetween 0 ts (length text)) (sym h.tokens_are) (lie_between text 0 h.parts (length text) h.lead)

forms_of_part : (text : List ℕ) (kind : Option TokenKind) (from to : ℕ) (ps : List Part) → IsLongestPiece (drop from text) (to - from) (piece_of_part kind) → HaveTheirForms text (tokens_of ps) → HaveTheirForms text (tokens_of (record { kind = kind; from = from; to = to } ∷ ps))
forms_of_part text None from to ps longest rest = rest
forms_of_part text (Some kind) from to ps longest rest = (longest.form, rest)

forms_of_parts : (text : List ℕ) (at : ℕ) (ps : List Part) (end : ℕ) → LeadFrom text at ps end → HaveTheirForms text (tokens_of ps)
forms_of_parts text at [] end lead = tt
forms_of_parts text at (p ∷ ps) end lead = forms_of_part text p.kind p.from p.to ps lead.1 (forms_of_parts text p.to ps end lead.2)

pub forms : (text : List ℕ) (tokens : List Token) → AreTokensOf text tokens → HaveTheirForms text tokens
forms text tokens h = subst (λ (ts : List Token). HaveTheirForms text ts) (sym h.tokens_are) (forms_of_parts text 0 h.parts (length text) h.lead)
