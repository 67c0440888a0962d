-- A machine of equality that has met an element of just one set accepts nothing any more.
use Rattle.std.proofs.Common.{◌≡◌, ℕ, ◌+◌, Bool, true, false, not, List, [], ◌∷◌, length, drop, Option, Some, None, refl, sym, ap, ◌∙◌, subst}
use Rattle.std.specs.Prelude.{slice_get, slice_index_or}
use Rattle.diagram_arena.specs.Table.{Word}
use Rattle.bit_machine.specs.Rules.{run}
use Rattle.bit_machine.specs.Comparisons.{beq}
use Rattle.choice_machine.specs.Choices.{IsLost}
use Rattle.element_machine.specs.declared.marks.Marks.{Marks}
use Rattle.element_machine.specs.declared.marks.Entry.{Entry}
use Rattle.element_machine.specs.Rules.{joined, when, after}
use Rattle.element_machine.specs.Reading.{by_elements, closed, between, first_element, no_entry}
use Rattle.set_shapes.specs.declared.tests_of_elements.ElementTest.TheVariants.{Equal}
use Rattle.set_shapes.specs.Tests.{all_pass}
use Rattle.set_shapes.specs.Passing.{passing, step_by}

after_false : (ms : List Marks) → after (all_pass Equal true) false ms ≡ false
after_false [] = refl
after_false (m ∷ ms) = after_false ms

closed_false : (seen : Marks) (cs : List Marks) → (closed (all_pass Equal true) false seen cs).0 ≡ false
closed_false seen [] = refl
closed_false seen (c ∷ cs) = after_false cs

module _ (constants : List Marks) (entries : List Entry) where
  step_false : (o : Option (Option ℕ)) (q : Bool × Marks) (v : Bool) → q.0 ≡ false → (step_by (by_elements (all_pass Equal true) constants entries) o q v).0 ≡ false
  step_false None q v is = is
  step_false (Some None) q v is = is
  step_false (Some (Some place)) q v is =
      let e = slice_index_or entries place no_entry in
      let cs = between constants e.element (first_element (length constants) (drop (place + 1) entries)) in
      ap (λ p. (closed (all_pass Equal true) p (joined q.1 (when v e.marks)) cs).0) is ∙ closed_false (joined q.1 (when v e.marks)) cs

  run_false : (places : List (Option ℕ)) (at : ℕ) (q : Bool × Marks) (bits : List ℕ) (w : Word) → q.0 ≡ false → (run (passing places (by_elements (all_pass Equal true) constants entries)) at q bits w).0 ≡ false
  run_false places at q [] w is = is
  run_false places at q (b ∷ bs) w is =
      run_false places (at + 1) (step_by (by_elements (all_pass Equal true) constants entries) (slice_get places at) q (w b)) bs w (step_false (slice_get places at) q (w b) is)

is_false : (b : Bool) → not b ≡ true → b ≡ false
is_false true h = sym h
is_false false h = refl

pub equality_lost : (places : List (Option ℕ)) (constants : List Marks) (entries : List Entry) (at : ℕ) (q : Bool × Marks) → not q.0 ≡ true → IsLost (passing places (by_elements (all_pass Equal true) constants entries)) at q
equality_lost places constants entries at q h bits w = ap (λ b. beq b true) (run_false constants entries places at q bits w (is_false q.0 h))
