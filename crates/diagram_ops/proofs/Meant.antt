-- What products mean: one set each, the same in a table that grows and with more pairs.
use Rattle.std.proofs.Common.{◌≡◌, ℕ, ◌+◌, ◌<◌, ◌≤◌, min, Bool, true, false, ◌&&◌, cond, List, [], ◌∷◌, ◌++◌, length, Some, refl, sym, ◌∙◌, ap, subst, arith}
use Rattle.std.specs.Prelude.{slice_get}
use Rattle.std.specs.Option.{option_map_or}
use Rattle.std.proofs.Math.ListN.{get_or-append}
use Rattle.std.proofs.Math.Seq.{get_or-append_seam}
use Rattle.std.proofs.lemmas.List.{length-append}
use Rattle.std.proofs.lemmas.Option.{slice_get_within, slice_get-get_or, get_or_from_slice_get}
use mathlib.Core.Path.{fun_ext}
use Rattle.diagram_arena.specs.declared.nodes.Ref.{Ref}
use Rattle.diagram_arena.specs.Table.{Word, Words, Table, bit_end, has, IsLive, IsReduced}
use Rattle.diagram_arena.specs.Arena.{Grows}
use Rattle.diagram_arena.proofs.Meaning.{depth_within}
use Rattle.diagram_arena.proofs.Canonical.{has-agree}
use Rattle.diagram_ops.specs.declared.product.Product.{Product}
use Rattle.diagram_ops.specs.declared.product.Product.TheVariants.{Single, Both}
use Rattle.diagram_ops.specs.declared.product.Pair.{Pair}
use Rattle.diagram_ops.specs.Words.{both}
use Rattle.diagram_ops.specs.Meanings.{first_of, IsEarlier, IsPair, Means, of_ref, of_pair, IsThere, Extends, front_of}
use Rattle.diagram_ops.proofs.Splits.{has-front}

-- the parts of what a pair means
pub record Parts (t : Table) (pairs : List Pair) (i : ℕ) (V : Words) : Type 0 where
  pub pair : Pair
  pub on_left : Words
  pub on_right : Words
  pub is : IsPair t pairs i pair
  pub left_means : Means t pairs pair.left on_left
  pub right_means : Means t pairs pair.right on_right
  pub whole : V ≡ both on_left on_right

abbrev Opened : Table → List Pair → Product → Words → Type 0
Opened t pairs (Single r) V = IsLive t r × (V ≡ has t r)
Opened t pairs (Both i) V = Parts t pairs i V

opened : (t : Table) (pairs : List Pair) (p : Product) (V : Words) → Means t pairs p V → Opened t pairs p V
opened t pairs p V (of_ref r live) = (live, refl)
opened t pairs p V (of_pair i q A B is a b) = record { pair = q; on_left = A; on_right = B; is = is; left_means = a; right_means = b; whole = refl }

pub of_single : (t : Table) (pairs : List Pair) (r : Ref) (V : Words) → Means t pairs (Single r) V → IsLive t r × (V ≡ has t r)
of_single t pairs r V means = opened t pairs (Single r) V means

pub of_both : (t : Table) (pairs : List Pair) (i : ℕ) (V : Words) → Means t pairs (Both i) V → Parts t pairs i V
of_both t pairs i V means = opened t pairs (Both i) V means

-- in a table that grows
pub first_grows : (t u : Table) → Grows t u → (pairs : List Pair) (p : Product) (V : Words) → Means t pairs p V → first_of u pairs p ≡ first_of t pairs p
first_grows t u grown pairs p V (of_ref r live) = grown.depths r live
first_grows t u grown pairs p V (of_pair i q A B is a b) = refl

pub means_grows : (t u : Table) → Grows t u → (pairs : List Pair) (p : Product) (V : Words) → Means t pairs p V → Means u pairs p V
means_grows t u grown pairs p V (of_ref r live) = subst (Means u pairs (Single r)) (fun_ext (grown.words r live)) (of_ref r (grown.live r live))
means_grows t u grown pairs p V (of_pair i q A B is a b) =
    let left = first_grows t u grown pairs q.left A a in
    let right = first_grows t u grown pairs q.right B b in
    of_pair i q A B (record {
      at = is.at;
      left_earlier = is.left_earlier;
      right_earlier = is.right_earlier;
      first = is.first ∙ (λ k. min (sym left k) (sym right k));
    }) (means_grows t u grown pairs q.left A a) (means_grows t u grown pairs q.right B b)

-- with more pairs
pub first_more : (t : Table) (ps qs : List Pair) → Extends ps qs → (p : Product) (V : Words) → Means t ps p V → first_of t qs p ≡ first_of t ps p
first_more t ps qs more p V (of_ref r live) = refl
first_more t ps qs more p V (of_pair i q A B is a b) = ap (λ o. option_map_or (λ (x : Pair). x.bit) o 0) (more i q is.at ∙ sym is.at)

pub means_more : (t : Table) (ps qs : List Pair) → Extends ps qs → (p : Product) (V : Words) → Means t ps p V → Means t qs p V
means_more t ps qs more p V (of_ref r live) = of_ref r live
means_more t ps qs more p V (of_pair i q A B is a b) =
    let left = first_more t ps qs more q.left A a in
    let right = first_more t ps qs more q.right B b in
    of_pair i q A B (record {
      at = more i q is.at;
      left_earlier = is.left_earlier;
      right_earlier = is.right_earlier;
      first = is.first ∙ (λ k. min (sym left k) (sym right k));
    }) (means_more t ps qs more q.left A a) (means_more t ps qs more q.right B b)

pub there_more : (t : Table) (ps qs : List Pair) → Extends ps qs → (p : Product) → IsThere t ps p → IsThere t qs p
there_more t ps qs more p there = (there.0, means_more t ps qs more p there.0 there.1)

pub extends_then : (a b c : List Pair) → Extends a b → Extends b c → Extends a c
extends_then a b c first second i p is = second i p (first i p is)

pub extends_self : (a : List Pair) → Extends a a
extends_self a i p is = is

-- one pair more
one_longer : (ps : List Pair) (x : Pair) → length (ps ++ x ∷ []) ≡ length ps + 1
one_longer ps x = length-append ps (x ∷ [])

pub extends_push : (ps : List Pair) (x : Pair) → Extends ps (ps ++ x ∷ [])
extends_push ps x i p is =
    let within = slice_get_within ps i p is in
    let long = one_longer ps x in
    slice_get-get_or (ps ++ x ∷ []) i p (omega (arith, within, long)) ∙ ap Some (get_or-append ps (x ∷ []) p i within ∙ get_or_from_slice_get ps i p p is)

pub last_pushed : (ps : List Pair) (x : Pair) → slice_get (ps ++ x ∷ []) (length ps) ≡ Some x
last_pushed ps x =
    let long = one_longer ps x in
    slice_get-get_or (ps ++ x ∷ []) (length ps) x (omega (arith, long)) ∙ ap Some (get_or-append_seam ps x [] x)

-- a product means one set
pub means_once : (t : Table) (pairs : List Pair) (p : Product) (V W : Words) → Means t pairs p V → Means t pairs p W → V ≡ W
means_once t pairs p V W (of_ref r live) other = sym (of_single t pairs r W other).1
means_once t pairs p V W (of_pair i q A B is a b) other =
    let parts = of_both t pairs i W other in
    let at : Some q ≡ Some parts.pair = sym is.at ∙ parts.is.at in
    let same : parts.pair ≡ q = (cc) in
    let left : A ≡ parts.on_left = means_once t pairs q.left A parts.on_left a (subst (λ (x : Pair). Means t pairs x.left parts.on_left) same parts.left_means) in
    let right : B ≡ parts.on_right = means_once t pairs q.right B parts.on_right b (subst (λ (x : Pair). Means t pairs x.right parts.on_right) same parts.right_means) in
    (λ k. both (left k) (right k)) ∙ sym parts.whole

-- the first bit of a pair is the one that it holds
pub first_is : (t : Table) (pairs : List Pair) (i : ℕ) (q : Pair) → slice_get pairs i ≡ Some q → first_of t pairs (Both i) ≡ q.bit
first_is t pairs i q at = ap (λ o. option_map_or (λ (x : Pair). x.bit) o 0) at

pub first_within : (t : Table) → IsReduced t → (pairs : List Pair) (p : Product) (V : Words) → Means t pairs p V → first_of t pairs p ≤ bit_end
first_within t ok pairs p V (of_ref r live) = depth_within t ok r live
first_within t ok pairs p V (of_pair i q A B is a b) =
    let here = first_is t pairs i q is.at in
    let least = is.first in
    let left = first_within t ok pairs q.left A a in
    omega (arith, here, least, left)

-- a product does not read the bits before its first
pub means_free : (t : Table) → IsReduced t → (pairs : List Pair) (bit : ℕ) (v : Bool) (w : Word) (p : Product) (V : Words) → Means t pairs p V → bit < first_of t pairs p
    → front_of V bit v w ≡ V w
means_free t ok pairs bit v w p V (of_ref r live) above = has-front t ok r live bit above v w
means_free t ok pairs bit v w p V (of_pair i q A B is a b) above =
    let here = first_is t pairs i q is.at in
    let least = is.first in
    let left = means_free t ok pairs bit v w q.left A a (omega (arith, here, least, above)) in
    let right = means_free t ok pairs bit v w q.right B b (omega (arith, here, least, above)) in
    λ k. left k && right k

-- the parts of a pair were made before it
pub within_all : (t : Table) (pairs : List Pair) (p : Product) → IsThere t pairs p → IsEarlier (length pairs) p
within_all t pairs (Single r) there = omega arith
within_all t pairs (Both i) there =
    let parts = of_both t pairs i there.0 there.1 in
    let within = slice_get_within pairs i parts.pair parts.is.at in
    omega (arith, within)

-- a product reads no bit before its first
pub means_agree : (t : Table) → IsReduced t → (pairs : List Pair) (w u : Word) (p : Product) (V : Words) → Means t pairs p V → ((b : ℕ) → first_of t pairs p ≤ b → w b ≡ u b) → V w ≡ V u
means_agree t ok pairs w u p V (of_ref r live) agree = has-agree t ok r live w u agree
means_agree t ok pairs w u p V (of_pair i q A B is a b) agree =
    let here = first_is t pairs i q is.at in
    let least = is.first in
    let left = means_agree t ok pairs w u q.left A a (λ c far. agree c (omega (arith, here, least, far))) in
    let right = means_agree t ok pairs w u q.right B b (λ c far. agree c (omega (arith, here, least, far))) in
    λ k. left k && right k

pub extends_pushed : (ps qs : List Pair) (x : Pair) (b : Bool) → qs ≡ cond b (ps ++ x ∷ []) ps → Extends ps qs
extends_pushed ps qs x true e = subst (Extends ps) (sym e) (extends_push ps x)
extends_pushed ps qs x false e = subst (Extends ps) (sym e) (extends_self ps)
