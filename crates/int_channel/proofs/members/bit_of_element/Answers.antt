use Rattle.std.proofs.Common.{rules, ◌<◌, length, subst}
use Rattle.std.proofs.lemmas.Int.{to_z-of_z}
use Rattle.std.specs.Prelude.{FitsSigned}
use mir.Syntax.{w64}
use Rattle.int_channel.proofs.Membership.{kind_here, known_set, only_set, lacks_here, within_here, element_here}
use Rattle.int_channel.proofs.members.bit_of_element.Goals as goal

pub bounds-bits_of-place : goal.bounds-bits_of-place
bounds-bits_of-place c =
    let fits : FitsSigned w64 c.args.element = c.ranges.element in
    let at = kind_here c.args.layout.now c.args.kinds.now c.args.set.0 c.index-kinds-set.result c.requires.kinds (subst (λ ks. c.args.set.0 < length ks) c.requires.kinds (known_set c.args.layout.now.kinds c.args.set.0 c.requires.set)) c.index-kinds-set.is in
    within_here c.args.layout.now c.args.set _ c.in-Set.universe c.elements.result.now c.in-Some.place c.args.element c.bits_of.result.now at c.in-Set.is c.elements.ensures.same (simp to_z-of_z at c.in-Some.ensures.here) c.bits_of.ensures

pub returns-in-Bool : goal.returns-in-Bool
returns-in-Bool c =
    let at = kind_here c.args.layout.now c.args.kinds.now c.args.set.0 c.index-kinds-set.result c.requires.kinds (subst (λ ks. c.args.set.0 < length ks) c.requires.kinds (known_set c.args.layout.now.kinds c.args.set.0 c.requires.set)) c.index-kinds-set.is in
    absurd (only_set c.args.layout.now.kinds c.args.set.0 _ _ at c.in-Bool.is c.requires.set)

pub returns-in-Int : goal.returns-in-Int
returns-in-Int c =
    let at = kind_here c.args.layout.now c.args.kinds.now c.args.set.0 c.index-kinds-set.result c.requires.kinds (subst (λ ks. c.args.set.0 < length ks) c.requires.kinds (known_set c.args.layout.now.kinds c.args.set.0 c.requires.set)) c.index-kinds-set.is in
    absurd (only_set c.args.layout.now.kinds c.args.set.0 _ _ at c.in-Int.is c.requires.set)

pub returns-in-Some : goal.returns-in-Some
returns-in-Some c =
    let fits : FitsSigned w64 c.args.element = c.ranges.element in
    let at = kind_here c.args.layout.now c.args.kinds.now c.args.set.0 c.index-kinds-set.result c.requires.kinds (subst (λ ks. c.args.set.0 < length ks) c.requires.kinds (known_set c.args.layout.now.kinds c.args.set.0 c.requires.set)) c.index-kinds-set.is in
    element_here c.args.layout.now c.args.set _ c.in-Set.universe c.elements.result.now c.in-Some.place c.args.element c.bits_of.result.now at c.in-Set.is c.elements.ensures.same (simp to_z-of_z at c.in-Some.ensures.here) c.bits_of.ensures

pub returns-in-None : goal.returns-in-None
returns-in-None c =
    let fits : FitsSigned w64 c.args.element = c.ranges.element in
    let at = kind_here c.args.layout.now c.args.kinds.now c.args.set.0 c.index-kinds-set.result c.requires.kinds (subst (λ ks. c.args.set.0 < length ks) c.requires.kinds (known_set c.args.layout.now.kinds c.args.set.0 c.requires.set)) c.index-kinds-set.is in
    lacks_here c.args.layout.now.kinds c.args.set.0 _ c.in-Set.universe c.elements.result.now c.args.element at c.in-Set.is c.elements.ensures.same (simp to_z-of_z at c.in-None.ensures.none)
