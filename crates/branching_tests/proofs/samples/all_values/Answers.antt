use Rattle.std.proofs.Common.{◌<◌, [], ◌∷◌, sym, subst, length}
use Rattle.std.proofs.lemmas.List.Elements.{All-from_recursion}
use Rattle.set_meaning.specs.declared.problems.VarId.{VarId}
use Rattle.bit_machine.specs.Rules.{accepts}
use Rattle.diagram_arena.specs.Arena.{table}
use Rattle.scope_words.specs.Words.{AreBitsOf}
use Rattle.scope_words.proofs.Bits.{bits_from}
use Rattle.table_machine.specs.Tables.{rules}
use Rattle.exact_steps.proofs.Wanted.{bits_of_one}
use Rattle.branching_tests.proofs.KindSamples.{initial_made}
use Rattle.branching_tests.proofs.samples.all_values.Goals as goal

pub initial_values-requires-clause-bits : goal.initial_values-requires-clause-bits
initial_values-requires-clause-bits c = (
  c.args.v ∷ [],
  subst (AreBitsOf c.args.layout.now (c.args.v ∷ [])) (sym (bits_from c.args.layout.now c.args.v c.bits_of-bits.result.now c.bits_of-bits.ensures.long c.bits_of-bits.ensures.each))
      (bits_of_one c.args.layout.now c.args.v c.obeys_order.ensures),
)

pub returns-clause-domain : goal.returns-clause-domain
returns-clause-domain c =
    let l = c.args.layout.now in
    let own = subst (AreBitsOf l (c.args.v ∷ [])) (sym (bits_from l c.args.v c.bits_of-bits.result.now c.bits_of-bits.ensures.long c.bits_of-bits.ensures.each)) (bits_of_one l c.args.v c.obeys_order.ensures) in
    initial_made c.values_fit_together.ensures l (table c.build.new.ops.arena) c.args.v (accepts (rules c.in_ok-machine.machine) c.bits_of-bits.result.now) c.build.result c.obeys_order.ensures c.requires.known
    (λ w. c.in_ok-machine.ensures.accepts (c.args.v ∷ []) w own (All-from_recursion (λ (u : VarId). u.0 < length l.kinds) (c.args.v ∷ []) (c.requires.known, tt))) c.build.ensures.words
