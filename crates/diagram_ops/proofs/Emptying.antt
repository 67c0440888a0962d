-- Whether a product has some word.
use Rattle.std.proofs.Common.{◌≡◌, ℕ, ◌+◌, ◌-◌, ◌<◌, ◌≤◌, arith, Bool, true, false, not, IsTrue, List, refl, sym, ◌∙◌, ap, subst, inl, inr}
use Rattle.std.specs.Prelude.{◌↔◌, MatchBool}
use Rattle.diagram_arena.specs.declared.nodes.Ref.{Ref}
use Rattle.diagram_arena.specs.declared.nodes.Ref.TheVariants.{Zero}
use Rattle.diagram_arena.specs.Table.{Word, Words, Table, bit_end, IsReduced}
use Rattle.diagram_arena.specs.Part.{with_front}
use Rattle.diagram_arena.proofs.Meaning.{has-zero}
use Rattle.diagram_ops.specs.declared.product.Product.{Product}
use Rattle.diagram_ops.specs.declared.product.Product.TheVariants.{Single}
use Rattle.diagram_ops.specs.declared.product.Pair.{Pair}
use Rattle.diagram_ops.specs.Words.{HasNone, HasSome}
use Rattle.diagram_ops.specs.Meanings.{first_of, Means, IsThere, Extends, front_of, side_of, AreSidesOf}
use Rattle.diagram_ops.proofs.Insides.{has_word}
use Rattle.diagram_ops.proofs.Meant.{of_single, first_more, first_within}

pub zero_none : (t : Table) (ps : List Pair) (p : Product) (V : Words) → p ≡ Single Zero → Means t ps p V → HasNone V
zero_none t ps p V e means =
    let is = (of_single t ps Zero V (subst (λ x. Means t ps x V) e means)).1 in
    subst HasNone (sym is) (has-zero t)

pub single_some : (t : Table) → IsReduced t → (ps : List Pair) (p : Product) (V : Words) (r : Ref) (zero : Bool) → p ≡ Single r → (IsTrue zero ↔ (r ≡ Zero)) → Means t ps p V
    → MatchBool (not zero) (HasSome V) (HasNone V)
single_some t ok ps p V r true e zero means = zero_none t ps p V (e ∙ ap Single (zero.0 refl)) means
single_some t ok ps p V r false e zero means =
    let is = of_single t ps r V (subst (λ x. Means t ps x V) e means) in
    elim (has_word t ok r is.0) [
      | inl at ↦ let wrong : false ≡ true = zero.1 at in absurd (cc)
      | inr found ↦ subst HasSome (sym is.1) found
    ]

-- a word of a side is one of the whole, once its first bits are those of the side
pub front_some : (V : Words) (bit : ℕ) (v : Bool) → HasSome (front_of V bit v) → HasSome V
front_some V bit v found = (with_front (bit + 1) (λ _. v) found.0, found.1)

by_side : (V : Words) (bit : ℕ) → HasNone (front_of V bit false) → HasNone (front_of V bit true) → (v : Bool) (w : Word) → front_of V bit v w ≡ false
by_side V bit los his true w = his w
by_side V bit los his false w = los w

pub fronts_none : (t : Table) (ps qs : List Pair) (p : Product) (bit : ℕ) (lo hi : Product) → AreSidesOf t ps qs p bit lo hi → (V : Words) → Means t ps p V
    → HasNone (front_of V bit false) → HasNone (front_of V bit true) → HasNone V
fronts_none t ps qs p bit lo hi sides V means los his w = sides.words V means w ∙ by_side V bit los his (w bit) w

pub not_some : (V : Words) (some : Bool) → MatchBool some (HasSome V) (HasNone V) → MatchBool (not some) (HasNone V) (HasSome V)
not_some V true is = is
not_some V false is = is

-- a call for one side goes down
pub goes_down : (t : Table) → IsReduced t → (ps qs rs : List Pair) (p : Product) (bit : ℕ) (lo hi : Product) → AreSidesOf t ps qs p bit lo hi → IsThere t ps p → bit ≡ first_of t ps p
    → Extends qs rs → (v : Bool) → bit_end - first_of t rs (side_of lo hi v) < bit_end - first_of t ps p
goes_down t ok ps qs rs p bit lo hi sides there at more v =
    let means = sides.means there.0 there.1 v in
    let same = first_more t qs rs more (side_of lo hi v) (front_of there.0 bit v) means in
    let within = first_within t ok qs (side_of lo hi v) (front_of there.0 bit v) means in
    let far = sides.deeper v in
    fall bit_end (first_of t ps p) (first_of t qs (side_of lo hi v)) (first_of t rs (side_of lo hi v)) bit at far same within where
      fall : (end here step there bit : ℕ) → bit ≡ here → bit < step → there ≡ step → step ≤ end → end - there < end - here
      fall end here step there bit at deeper same within = omega arith
