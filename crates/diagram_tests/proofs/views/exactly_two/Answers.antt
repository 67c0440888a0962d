use Rattle.std.proofs.Common.{[], ◌∷◌, refl}
use Rattle.diagram_arena.specs.Reach.{Bits, among}
use Rattle.diagram_tests.proofs.Built.{joined, grown, zero_depends, one_depends}
use Rattle.diagram_tests.proofs.views.exactly_two.Goals as goal

pub returns-clause-holds : goal.returns-clause-holds
returns-clause-holds c =
    let bits : Bits = among (0 ∷ 1 ∷ 2 ∷ []) in
    let law = c.zero_and_one.ensures in
    let on = c.in_ok-on.ensures.joins in
    let off = c.in_ok-off.ensures.joins in
    let one_left = c.in_ok-one_left.ensures.joins in
    let two_left = c.in_ok-two_left.ensures.joins in
    let on_1 = joined bits _ _ 2 _ _ _ on refl (zero_depends bits _ law.zero) (one_depends bits _ law.one) in
    let on_2 = grown bits _ _ _ c.make-2.ensures.grows on.live on_1 in
    let off_2 = joined bits _ _ 2 _ _ _ off refl (one_depends bits _ law.one) (zero_depends bits _ law.zero) in
    let one_left_3 = joined bits _ _ 1 _ _ _ one_left refl on_2 off_2 in
    let on_2_live = c.make-2.ensures.grows.live _ on.live in
    let on_3 = grown bits _ _ _ c.make-3.ensures.grows on_2_live on_2 in
    let two_left_4 = joined bits _ _ 1 _ _ _ two_left refl (zero_depends bits _ law.zero) on_3 in
    let one_left_4 = grown bits _ _ _ c.make-4.ensures.grows one_left.live one_left_3 in
    (c.reaches_what_words_depend_on.ensures bits).1 (joined bits _ _ 0 _ _ _ c.in_ok-root.ensures.joins refl two_left_4 one_left_4)
