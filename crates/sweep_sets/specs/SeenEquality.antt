-- What is kept and compares as equal is one, as a sweep needs of its states.
use Rattle.std.proofs.Common.{◌≡◌, Bool, true, ◌&&◌, refl, sym, ap, false}
use Rattle.std.proofs.lemmas.Bool.{and_parts}
use Rattle.std.proofs.Math.Bool.{beq}
use Rattle.sweep_sets.specs.declared.marks.Marks.{Marks}
use Rattle.sweep_sets.specs.declared.rules.Progress.{Progress}
use Rattle.sweep_sets.specs.declared.rules.Progress.TheVariants.{Same, FirstHasMore, SecondHasMore, Settled}
use Rattle.sweep_sets.specs.declared.reading.Seen.{Seen}
use Rattle.sweep_sets.specs.contracts.rules.ProgressPartialEq.TheImpl.{eq-value as derived}

beq-one : (a b : Bool) → beq a b ≡ true → a ≡ b
beq-one true true is = refl
beq-one true false is = sym is
beq-one false true is = is
beq-one false false is = refl

abbrev pub same_marks : Marks → Marks → Bool
same_marks a b = beq a.first b.first && (beq a.second b.second && beq a.third b.third)

pub marks_true : (a b : Marks) → same_marks a b ≡ true → a ≡ b
marks_true a b is =
    let parts = and_parts (beq a.first b.first) (beq a.second b.second && beq a.third b.third) is in
    let rest = and_parts (beq a.second b.second) (beq a.third b.third) parts.1 in
    let first = beq-one a.first b.first parts.0 in
    let second = beq-one a.second b.second rest.0 in
    let third = beq-one a.third b.third rest.1 in
    λ i. record { first = first i; second = second i; third = third i }

pub progress_true : (p q : Progress) → derived.it p q ≡ true → p ≡ q
progress_true Same Same e = refl
progress_true Same FirstHasMore e = cc
progress_true Same SecondHasMore e = cc
progress_true Same (Settled b) e = cc
progress_true FirstHasMore Same e = cc
progress_true FirstHasMore FirstHasMore e = refl
progress_true FirstHasMore SecondHasMore e = cc
progress_true FirstHasMore (Settled b) e = cc
progress_true SecondHasMore Same e = cc
progress_true SecondHasMore FirstHasMore e = cc
progress_true SecondHasMore SecondHasMore e = refl
progress_true SecondHasMore (Settled b) e = cc
progress_true (Settled a) Same e = cc
progress_true (Settled a) FirstHasMore e = cc
progress_true (Settled a) SecondHasMore e = cc
progress_true (Settled a) (Settled b) e = ap Settled (beq-one a b e)

pub seen_true : (p q : Seen) → (derived.it p.progress q.progress && same_marks p.marks q.marks) ≡ true → p ≡ q
seen_true p q is =
    let parts = and_parts (derived.it p.progress q.progress) (same_marks p.marks q.marks) is in
    let progress = progress_true p.progress q.progress parts.0 in
    let marks = marks_true p.marks q.marks parts.1 in
    λ i. record { progress = progress i; marks = marks i }
