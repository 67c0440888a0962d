-- Refs over one list of bits are told apart by a word over it.
use Rattle.std.proofs.Common.{◌≡◌, ◌≢◌, ℕ, Bool, true, false, zero, suc, List, [], ◌∷◌, length, map, ◌⊎◌, refl, sym, ◌∙◌, ap, inl, inr, arith}
use Rattle.std.proofs.lemmas.Bool.{cases_Bool}
use Rattle.std.proofs.lemmas.List.{length-map}
use Rattle.diagram_arena.specs.declared.nodes.Ref.{Ref}
use Rattle.diagram_arena.specs.declared.nodes.Ref.TheVariants.{Zero, Node}
use Rattle.diagram_arena.specs.Table.{Word, Table, has, IsLive}
use Rattle.diagram_arena.specs.Reach.{among, ReachesOnly}
use Rattle.diagram_view.specs.Words.{word_over}
use Rattle.diagram_view.proofs.Over.{list_words}
use Rattle.diagram_view.specs.Steps.{Laws}
use Rattle.diagram_view.proofs.Over.{IsOver}
use Rattle.diagram_view.proofs.Bits.{spelled}
use Rattle.diagram_view.proofs.Stepping.{follow-zero}

-- two sets of words of length k differ at some word, or at none
pub record Tells (k : ℕ) (V U : List Bool → Bool) : Type 0 where
  pub word : List Bool
  pub long : length word ≡ k
  pub differ : V word ≢ U word

bools : (a b : Bool) → (a ≡ b) ⊎ (a ≢ b)
bools true true = inl refl
bools true false = inr (λ e. cc)
bools false true = inr (λ e. cc)
bools false false = inl refl

nil_only : (V U : List Bool → Bool) → V [] ≡ U [] → (vs : List Bool) → length vs ≡ 0 → V vs ≡ U vs
nil_only V U e [] long = e
nil_only V U e (v ∷ vs) long = absurd (omega arith)

cons_only : (k : ℕ) (V U : List Bool → Bool) → ((v : Bool) (vs : List Bool) → length vs ≡ k → V (v ∷ vs) ≡ U (v ∷ vs)) → (vs : List Bool) → length vs ≡ suc k → V vs ≡ U vs
cons_only k V U same [] long = absurd (omega arith)
cons_only k V U same (v ∷ vs) long = same v vs (omega arith)

pub tell : (k : ℕ) (V U : List Bool → Bool) → Tells k V U ⊎ ((vs : List Bool) → length vs ≡ k → V vs ≡ U vs)
tell zero V U = elim (bools (V []) (U [])) [ inl e ↦ inr (nil_only V U e) | inr ne ↦ inl (record { word = []; long = refl; differ = ne }) ]
tell (suc k) V U =
    elim (tell k (λ vs. V (false ∷ vs)) (λ vs. U (false ∷ vs))) [
      | inl d ↦ inl (record { word = false ∷ d.word; long = ap suc d.long; differ = d.differ })
      | inr lo ↦ elim (tell k (λ vs. V (true ∷ vs)) (λ vs. U (true ∷ vs))) [
        | inl d ↦ inl (record { word = true ∷ d.word; long = ap suc d.long; differ = d.differ })
        | inr hi ↦ inr (cons_only k V U (λ v vs long. elim v as (λ x. V (x ∷ vs) ≡ U (x ∷ vs)) [ true ↦ hi vs long | false ↦ lo vs long ]))
      ]
    ]

-- a word is in a ref where its values at the bits of the ref are
pub has-values : (t : Table) → Laws t → (bs : List ℕ) (r : Ref) → IsLive t r → ReachesOnly t (among bs) r → (w : Word) → has t r w ≡ list_words t r bs (map w bs)
has-values t ok bs r live only w = (ok.reach r live (among bs)).0 only w (word_over bs (map w bs)) (λ c on. sym (spelled w bs c on))

-- refs with the same words over a list of bits are one
pub same_ref : (t : Table) → Laws t → (bs : List ℕ) (r s : Ref) → IsLive t r → IsLive t s → ReachesOnly t (among bs) r → ReachesOnly t (among bs) s
    → ((vs : List Bool) → length vs ≡ length bs → list_words t r bs vs ≡ list_words t s bs vs) → r ≡ s
same_ref t ok bs r s live live' only only' same =
    ok.same_words r s live live' (λ w. has-values t ok bs r live only w ∙ same (map w bs) (length-map bs w) ∙ sym (has-values t ok bs s live' only' w))

pub told_apart : (t : Table) → Laws t → (bs : List ℕ) (r s : Ref) → IsOver t r bs → IsOver t s bs → r ≢ s → Tells (length bs) (list_words t r bs) (list_words t s bs)
told_apart t ok bs r s over over' ne =
    elim (tell (length bs) (list_words t r bs) (list_words t s bs)) [ inl d ↦ d | inr same ↦ absurd (ne (same_ref t ok bs r s over.live over'.live over.reaches over'.reaches same)) ]

pub over_zero : (t : Table) (r : Ref) (bs : List ℕ) → IsOver t r bs → IsOver t Zero bs
over_zero t r bs over = record { live = tt; rises = over.rises; reaches = λ path i n at is. let no : Zero ≡ Node i = sym (follow-zero t path) ∙ at in absurd (cc) }

-- a ref other than Zero has a word
pub some_word : (t : Table) → Laws t → (bs : List ℕ) (r : Ref) → IsOver t r bs → r ≢ Zero → (vs : List Bool) × (length vs ≡ length bs) × (list_words t r bs vs ≡ true)
some_word t ok bs r over ne =
    let d = told_apart t ok bs r Zero over (over_zero t r bs over) ne in
    elim (cases_Bool (list_words t r bs d.word)) [
      | inl on ↦ (d.word, d.long, on)
      | inr off ↦ absurd (d.differ (off ∙ sym (ok.zero (word_over bs d.word))))
    ]
