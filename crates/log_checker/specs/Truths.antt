-- The comparison of Booleans tells them apart, as a shape needs of its states.
use Rattle.std.specs.Prelude.{◌≡◌, Bool, true, false}
use Rattle.std.proofs.Common.{refl}
use Rattle.std.specs.Bool.{beq}

pub truths_equal : (p q : Bool) → beq p q ≡ true → p ≡ q
truths_equal false false is = refl
truths_equal false true is = absurd (let e : false ≡ true = is in cc)
truths_equal true false is = absurd (let e : false ≡ true = is in cc)
truths_equal true true is = refl
