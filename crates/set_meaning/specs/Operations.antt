-- Words of this crate's private helpers; the meaning is in Relations. This project's own: that one value is the
-- result of an operation on two others, for Booleans, integers and sets.
use Rattle.std.specs.Prelude.{◌≡◌, ◌≢◌, ◌↔◌, ℤ, ◌+ℤ◌, ◌*ℤ◌, Bool, ◌&&◌, ◌||◌, List, IsTrue}
use Rattle.set_meaning.specs.declared.sets.SetOperation.{SetOperation}
use Rattle.set_meaning.specs.declared.sets.SetOperation.TheVariants.{Union, Intersection, Difference, SymmetricDifference}
use Rattle.set_meaning.specs.declared.meaning.integers.IntOperation.{IntOperation}
use Rattle.set_meaning.specs.declared.meaning.integers.IntOperation.TheVariants.{Plus, Times, Min, Max}
use Rattle.set_meaning.specs.declared.meaning.booleans.BoolOperation.{BoolOperation}
use Rattle.set_meaning.specs.declared.meaning.booleans.BoolOperation.TheVariants.{And, Or, Xor}
use Rattle.set_meaning.specs.Sets.{Has, EitherHas, BothHave, OnlyFirstHas, JustOneHas, IsUnion, IsIntersection, IsDifference, IsSymmetricDifference}
use Rattle.set_meaning.specs.Integers.{IsMinimum, IsMaximum}

abbrev pub IsBoolResult : BoolOperation → Bool → Bool → Bool → Type 0
IsBoolResult And a b c = c ≡ (a && b)
IsBoolResult Or a b c = c ≡ (a || b)
IsBoolResult Xor a b c = IsTrue c ↔ (a ≢ b)

abbrev pub IsIntResult : IntOperation → ℤ → ℤ → ℤ → Type 0
IsIntResult Plus a b c = (a +ℤ b) ≡ c
IsIntResult Times a b c = (a *ℤ b) ≡ c
IsIntResult Min a b c = IsMinimum a b c
IsIntResult Max a b c = IsMaximum a b c

-- x is an element of what the operation gives
abbrev pub ResultHas : SetOperation → List ℤ → List ℤ → ℤ → Type 0
ResultHas Union a b x = EitherHas a b x
ResultHas Intersection a b x = BothHave a b x
ResultHas Difference a b x = OnlyFirstHas a b x
ResultHas SymmetricDifference a b x = JustOneHas a b x

-- the set c has x just where the operation gives it
unfoldable pub AgreesAt : SetOperation → List ℤ → List ℤ → List ℤ → ℤ → Type 0
AgreesAt operation a b c x = Has c x ↔ ResultHas operation a b x

abbrev pub IsSetResult : SetOperation → List ℤ → List ℤ → List ℤ → Type 0
IsSetResult Union a b c = IsUnion a b c
IsSetResult Intersection a b c = IsIntersection a b c
IsSetResult Difference a b c = IsDifference a b c
IsSetResult SymmetricDifference a b c = IsSymmetricDifference a b c
