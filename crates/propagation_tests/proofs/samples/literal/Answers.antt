use Rattle.std.proofs.Common.{[], ◌∷◌, sym, subst, Contains}
use Rattle.std.proofs.lemmas.Result.{IfOk-weaker}
use Rattle.bit_layout.proofs.Finding.{stands_cases}
use Rattle.bit_layout.proofs.Rising.{in_head}
use Rattle.diagram_arena.specs.Arena.{table}
use Rattle.diagram_ops.specs.Words.{words_with, Denotes}
use Rattle.scope_words.proofs.Bits.{is_bit_of}
use Rattle.value_sets.specs.Sets.{IsValueSet}
use Rattle.propagation_tests.proofs.SetSamples.{one_values, literal_values}
use Rattle.propagation_tests.proofs.samples.literal.Goals as goal

pub returns-then-width-eq0-clause-set : goal.returns-then-width-eq0-clause-set
returns-then-width-eq0-clause-set c = one_values c.args.layout.now (table c.args.ops.now.arena) c.args.v c.obeys_order.ensures c.requires.sets c.requires.known

pub returns-clause-set : goal.returns-clause-set
returns-clause-set c =
    let p = stands_cases c.args.layout.now c.bit.result c.args.v 0 c.bit.ensures.place in
    let of = is_bit_of c.args.layout.now (c.args.v ∷ []) c.bit.result p.0 p.1 (subst (Contains (c.args.v ∷ [])) (sym p.2) (in_head c.args.v [])) in
    IfOk-weaker c.literal.result (Denotes (table c.literal.new.self.arena) (words_with c.bit.result c.args.has)) (IsValueSet c.args.layout.now (table c.literal.new.self.arena) c.args.v)
    (λ r is. literal_values c.args.layout.now (table c.literal.new.self.arena) c.args.v c.bit.result c.args.has r c.obeys_order.ensures c.requires.sets c.requires.known of is) c.literal.ensures.words
