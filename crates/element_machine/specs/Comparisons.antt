-- Marks that compare as equal are one, as a machine needs of its states.
use Rattle.std.proofs.Common.{◌≡◌, Bool, true, ◌&&◌}
use Rattle.std.proofs.lemmas.Bool.{and_parts}
use Rattle.bit_machine.specs.Comparisons.{beq, beq-true}
use Rattle.element_machine.specs.declared.marks.Marks.{Marks}

abbrev pub same_marks : Marks → Marks → Bool
same_marks a b = beq a.first b.first && (beq a.second b.second && beq a.third b.third)

pub marks_true : (a b : Marks) → same_marks a b ≡ true → a ≡ b
marks_true a b is =
    let parts = and_parts (beq a.first b.first) (beq a.second b.second && beq a.third b.third) is in
    let rest = and_parts (beq a.second b.second) (beq a.third b.third) parts.1 in
    let first = beq-true a.first b.first parts.0 in
    let second = beq-true a.second b.second rest.0 in
    let third = beq-true a.third b.third rest.1 in
    λ i. record { first = first i; second = second i; third = third i }
