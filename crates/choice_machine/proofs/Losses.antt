-- States of the machines below from which nothing is accepted.
use Rattle.std.proofs.Common.{◌≡◌, ℕ, ◌+◌, Bool, true, false, not, ◌&&◌, List, [], ◌∷◌, Some, None, Option, refl, sym, ◌∙◌, ap, subst}
use Rattle.std.specs.Prelude.{slice_get}
use Rattle.std.specs.Option.{option_map_or}
use Rattle.diagram_arena.specs.Table.{Word}
use Rattle.bit_machine.specs.Rules.{Rules, run, side_by_side}
use Rattle.linear_machine.specs.declared.state.State.{State as SumState}
use Rattle.linear_machine.specs.declared.state.State.TheVariants.{Settled}
use Rattle.linear_machine.specs.Sums.{LinearState}
use Rattle.linear_machine.specs.Steps as linear
use Rattle.table_machine.specs.declared.states.State.{State as TableState}
use Rattle.table_machine.specs.declared.states.State.TheVariants.{Lost}
use Rattle.table_machine.specs.declared.states.Reading.{Reading}
use Rattle.table_machine.specs.declared.states.Reading.TheVariants.{Passed, First, Next}
use Rattle.table_machine.specs.Tables as tables
use Rattle.table_machine.specs.Tables.{Tables}
use Rattle.choice_machine.specs.Choices.{IsLost}

-- a state that each bit leaves as it is, and that does not accept
stuck_stays : {Q : Type 0} (rules : Rules Q) (q : Q) → ((at : ℕ) (v : Bool) → rules.step at q v ≡ q) → (at : ℕ) (bits : List ℕ) (w : Word) → run rules at q bits w ≡ q
stuck_stays rules q stays at [] w = refl
stuck_stays rules q stays at (b ∷ bs) w = ap (λ p. run rules (at + 1) p bs w) (stays at (w b)) ∙ stuck_stays rules q stays (at + 1) bs w

pub stuck_lost : {Q : Type 0} (rules : Rules Q) (q : Q) → ((at : ℕ) (v : Bool) → rules.step at q v ≡ q) → rules.accept q ≡ false → (at : ℕ) → IsLost rules at q
stuck_lost rules q stays refused at bits w = ap rules.accept (stuck_stays rules q stays at bits w) ∙ refused

-- a sum that is settled stays so
pub settled_is_lost : (m : LinearState) (at : ℕ) (q : SumState) (answer : Bool) → q ≡ Settled answer → not answer ≡ true → IsLost (linear.rules_of m) at q
settled_is_lost m at q true is refused = absurd (let e : false ≡ true = refused in cc)
settled_is_lost m at q false is refused = subst (IsLost (linear.rules_of m) at) (sym is) (stuck_lost (linear.rules_of m) (Settled false) (λ k v. refl) refl at)

-- a word that is not listed stays so
lost_after : (words : List ℕ) (r : Reading) (v : Bool) → tables.after words r Lost v ≡ Lost
lost_after words Passed v = refl
lost_after words (First from to rest) v = refl
lost_after words (Next rest) v = refl

lost_step : (words : List ℕ) (o : Option Reading) (v : Bool) → option_map_or (λ r. tables.after words r Lost v) o Lost ≡ Lost
lost_step words None v = refl
lost_step words (Some r) v = lost_after words r v

pub lost_is_lost : (t : Tables) (at : ℕ) (q : TableState) → q ≡ Lost → IsLost (tables.rules t) at q
lost_is_lost t at q is = subst (IsLost (tables.rules t) at) (sym is) (stuck_lost (tables.rules t) Lost (λ k v. lost_step t.words (slice_get t.readings k) v) refl at)

-- two machines side by side
run-side_by_side : {P Q : Type 0} (join : Bool → Bool → Bool) (first : Rules P) (second : Rules Q) (at : ℕ) (p : P) (q : Q) (bits : List ℕ) (w : Word)
    → run (side_by_side join first second) at (p, q) bits w ≡ (run first at p bits w, run second at q bits w)
run-side_by_side join first second at p q [] w = refl
run-side_by_side join first second at p q (b ∷ bs) w = run-side_by_side join first second (at + 1) (first.step at p (w b)) (second.step at q (w b)) bs w

and_false : (a : Bool) → (a && false) ≡ false
and_false true = refl
and_false false = refl

pub first_lost : {P Q : Type 0} (first : Rules P) (second : Rules Q) (at : ℕ) (q : P × Q) → IsLost first at q.0 → IsLost (side_by_side ◌&&◌ first second) at q
first_lost first second at q lost bits w =
    ap (side_by_side ◌&&◌ first second).accept (run-side_by_side ◌&&◌ first second at q.0 q.1 bits w)
    ∙ ap (λ a. a && second.accept (run second at q.1 bits w)) (lost bits w)

pub second_lost : {P Q : Type 0} (first : Rules P) (second : Rules Q) (at : ℕ) (q : P × Q) → IsLost second at q.1 → IsLost (side_by_side ◌&&◌ first second) at q
second_lost first second at q lost bits w =
    ap (side_by_side ◌&&◌ first second).accept (run-side_by_side ◌&&◌ first second at q.0 q.1 bits w)
    ∙ ap (λ b. first.accept (run first at q.0 bits w) && b) (lost bits w) ∙ and_false (first.accept (run first at q.0 bits w))
