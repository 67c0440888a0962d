-- What is known of an order and compares as equal is one, as a machine needs of its states.
use Rattle.std.proofs.Common.{◌≡◌, true, refl, ap}
use Rattle.bit_machine.specs.Comparisons.{beq-true}
use Rattle.set_shapes.specs.declared.progress.Progress.{Progress}
use Rattle.set_shapes.specs.declared.progress.Progress.TheVariants.{Same, FirstHasMore, SecondHasMore, Settled}
use Rattle.set_shapes.specs.contracts.progress.ProgressPartialEq.TheImpl.{eq-value as derived}

pub progress_true : (p q : Progress) → derived.it p q ≡ true → p ≡ q
progress_true Same Same e = refl
progress_true Same FirstHasMore e = cc
progress_true Same SecondHasMore e = cc
progress_true Same (Settled b) e = cc
progress_true FirstHasMore Same e = cc
progress_true FirstHasMore FirstHasMore e = refl
progress_true FirstHasMore SecondHasMore e = cc
progress_true FirstHasMore (Settled b) e = cc
progress_true SecondHasMore Same e = cc
progress_true SecondHasMore FirstHasMore e = cc
progress_true SecondHasMore SecondHasMore e = refl
progress_true SecondHasMore (Settled b) e = cc
progress_true (Settled a) Same e = cc
progress_true (Settled a) FirstHasMore e = cc
progress_true (Settled a) SecondHasMore e = cc
progress_true (Settled a) (Settled b) e = ap Settled (beq-true a b e)
