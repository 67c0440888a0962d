use Rattle.std.proofs.Common.{◌≡◌, ◌≤◌, ◌&&◌, min, ℕ, List, length, ◌∙◌, ap, sym, subst, arith}
use Rattle.std.specs.List.Sorted.{IsStrictlyIncreasing}
use Rattle.diagram_arena.specs.Part.{IsPartOf}
use Rattle.diagram_ops.proofs.Steps.{no_news}
use Rattle.bit_machine.specs.Rules.{most_bits}
use Rattle.scope_words.specs.Words.{variables_in}
use Rattle.int_channel.specs.Machines.{IsMachineOf}
use Rattle.int_channel.proofs.Ends.{of_ok, own_made, least_of, diagram_made, bits_pass}
use Rattle.int_channel.proofs.shapes.built.Goals as goal

pub build-requires-clause-ascend : goal.build-requires-clause-ascend
build-requires-clause-ascend g c =
    let own = of_ok _ _ _ c.in-Ok.is c.requires.machine in
    subst (λ (bs : List ℕ). IsStrictlyIncreasing bs) (sym c.as_slice.ensures.value) own.bits_are.ascending

pub build-requires-clause-few : goal.build-requires-clause-few
build-requires-clause-few g c =
    let own = of_ok _ _ _ c.in-Ok.is c.requires.machine in
    subst (λ (bs : List ℕ). length bs ≤ most_bits) (sym c.as_slice.ensures.value) (c.requires.few _ own.bits_are)

pub build-requires-clause-places : goal.build-requires-clause-places
build-requires-clause-places g c =
    let own = of_ok _ _ _ c.in-Ok.is c.requires.machine in
    let places = of_ok _ _ _ c.in-Ok.is c.requires.places in
    least_of _ _ _ (own.readings_long ∙ ap length (sym c.as_slice.ensures.value)) (places ∙ ap length (sym c.as_slice.ensures.value))

pub build-requires-clause-valid : goal.build-requires-clause-valid
build-requires-clause-valid g c =
    let own = of_ok _ _ _ c.in-Ok.is c.requires.machine in
    (own.tables, of_ok _ _ _ c.in-Ok.is c.requires.valid)

pub returns-in-Ok-clause-diagram : goal.returns-in-Ok-clause-diagram
returns-in-Ok-clause-diagram g c =
    let own = own_made c.args.layout.now c.args.relation c.args.args.now _ c.as_slice.result.now _ _ c.as_slice.ensures.value (of_ok _ _ _ c.in-Ok.is c.requires.machine) in
    diagram_made c.args.layout.now _ _ _ _ c.build.result own.words c.build.ensures.words

pub returns-in-Ok-clause-parts : goal.returns-in-Ok-clause-parts
returns-in-Ok-clause-parts g c =
    let own = own_made c.args.layout.now c.args.relation c.args.args.now _ c.as_slice.result.now _ _ c.as_slice.ensures.value (of_ok _ _ _ c.in-Ok.is c.requires.machine) in
    (_, own.words, c.build.ensures.parts)

pub returns-in-Ok-clause-reach : goal.returns-in-Ok-clause-reach
returns-in-Ok-clause-reach g c set all =
    let own = own_made c.args.layout.now c.args.relation c.args.args.now _ c.as_slice.result.now _ _ c.as_slice.ensures.value (of_ok _ _ _ c.in-Ok.is c.requires.machine) in
    c.build.ensures.reach set (bits_pass c.args.layout.now _ _ set own.bits_are all)

pub returns-in-Err-clause-parts : goal.returns-in-Err-clause-parts
returns-in-Err-clause-parts g c =
    let there = c.relations_have_sets.ensures c.args.layout.now c.args.relation c.args.args.now c.obeys_order.ensures c.requires.shape in
    (there.0, there.1, no_news _ (λ V. IsPartOf V there.0))
