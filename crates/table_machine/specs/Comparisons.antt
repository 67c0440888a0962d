-- States that compare as equal are one, as a machine needs of its states.
use Rattle.std.proofs.Common.{◌≡◌, Bool, true, ◌==◌, refl, ap, ◌∙◌}
use Rattle.std.proofs.lemmas.Bool.{eqb-true, and_parts}
use Rattle.table_machine.specs.declared.states.State.{State}
use Rattle.table_machine.specs.declared.states.State.TheVariants.{Free, Lost, Within}
use Rattle.table_machine.specs.contracts.states.StatePartialEq.TheImpl.{eq-value}

-- the derived `==`, under the name that the toolchain gives it
abbrev pub derived : State → State → Bool
derived = eq-value.it

pub state_true : (p q : State) → derived p q ≡ true → p ≡ q
state_true Free Free is = refl
state_true Free Lost is = cc
state_true Free (Within i j) is = cc
state_true Lost Free is = cc
state_true Lost Lost is = refl
state_true Lost (Within i j) is = cc
state_true (Within from to) Free is = cc
state_true (Within from to) Lost is = cc
state_true (Within from to) (Within i j) is =
    let parts = and_parts (from == i) (to == j) is in
    ap (λ n. Within n to) (eqb-true from i parts.0) ∙ ap (λ n. Within i n) (eqb-true to j parts.1)
