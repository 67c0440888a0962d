use Rattle.std.proofs.Common.{[], ◌∷◌, refl}
use Rattle.diagram_arena.specs.Reach.{Bits, among}
use Rattle.diagram_tests.proofs.Built.{joined, zero_depends, one_depends}
use Rattle.diagram_tests.proofs.views.one_word.Goals as goal

pub returns-clause-holds : goal.returns-clause-holds
returns-clause-holds c =
    let bits : Bits = among (2 ∷ 5 ∷ 9 ∷ []) in
    let law = c.zero_and_one.ensures in
    let last = joined bits _ _ 9 _ _ _ c.in_ok-last.ensures.joins refl (zero_depends bits _ law.zero) (one_depends bits _ law.one) in
    let middle = joined bits _ _ 5 _ _ _ c.in_ok-middle.ensures.joins refl last (zero_depends bits _ law.zero) in
    (c.reaches_what_words_depend_on.ensures bits).1 (joined bits _ _ 2 _ _ _ c.in_ok-root.ensures.joins refl (zero_depends bits _ law.zero) middle)
