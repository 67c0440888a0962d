-- Lists of values with one value put in place.
use Rattle.std.proofs.Common.{◌≡◌, ℕ, zero, suc, ◌<◌, List, [], ◌∷◌, length, set, Some, refl, ap, inl, inr, arith}
use Rattle.std.specs.Prelude.{◌⊎◌, slice_get}
use Rattle.std.proofs.lemmas.Bool.{cases_order}

pub at_put : {X : Type 0} (xs : List X) (v : ℕ) (x : X) → v < length xs → slice_get (set xs v x) v ≡ Some x
at_put [] v x within = absurd (omega (arith, within))
at_put (y ∷ ys) zero x within = refl
at_put (y ∷ ys) (suc v) x within = at_put ys v x (omega (arith, within))

pub beside_put : {X : Type 0} (xs : List X) (v k : ℕ) (x : X) → (v ≡ k → ⊥) → slice_get (set xs v x) k ≡ slice_get xs k
beside_put [] v k x other = refl
beside_put (y ∷ ys) zero zero x other = absurd (other refl)
beside_put (y ∷ ys) zero (suc k) x other = refl
beside_put (y ∷ ys) (suc v) zero x other = refl
beside_put (y ∷ ys) (suc v) (suc k) x other = beside_put ys v k x (λ e. other (ap suc e))

pub length_put : {X : Type 0} (xs : List X) (v : ℕ) (x : X) → length (set xs v x) ≡ length xs
length_put [] v x = refl
length_put (y ∷ ys) zero x = refl
length_put (y ∷ ys) (suc v) x = ap suc (length_put ys v x)

pub same_or_other : (v k : ℕ) → (v ≡ k) ⊎ (v ≡ k → ⊥)
same_or_other v k = elim (cases_order v k) [
  | inl e ↦ inl e
  | inr (inl less) ↦ inr (λ e. omega (arith, less, e))
  | inr (inr more) ↦ inr (λ e. omega (arith, more, e))
]
