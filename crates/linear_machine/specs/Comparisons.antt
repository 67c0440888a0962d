-- The comparison of states tells them apart, as a machine needs.
use Rattle.std.specs.Prelude.{◌≡◌, true, ℤ}
use Rattle.std.specs.Ordering.{int_eq}
use Rattle.std.proofs.Common.{ap}
use Rattle.std.proofs.lemmas.Bool.Decides.{Decides-int_eq}
use Rattle.bit_machine.specs.Comparisons.{beq-true}
use Rattle.linear_machine.specs.declared.state.State.{State}
use Rattle.linear_machine.specs.declared.state.State.TheVariants.{Open, Settled}
use Rattle.linear_machine.specs.contracts.state.StatePartialEq.TheImpl.{eq-value}

int_eq-true : (x y : ℤ) → int_eq x y ≡ true → x ≡ y
int_eq-true x y is = (Decides-int_eq x y).0 is

-- the derived `==`, under the name that the toolchain gives it
pub state_true : (p q : State) → eq-value.it p q ≡ true → p ≡ q
state_true (Open x) (Open y) is = ap Open (int_eq-true x y is)
state_true (Open x) (Settled b) is = cc
state_true (Settled a) (Open y) is = cc
state_true (Settled a) (Settled b) is = ap Settled (beq-true a b is)
