use Rattle.std.proofs.Common.{List, ℕ, Bool, length, w64, rules, sym, ap, ◌∙◌, subst}
use Rattle.std.specs.Prelude.{FitsSigned}
use Rattle.std.proofs.lemmas.Int.{to_z-of_z}
use Rattle.diagram_arena.specs.Table.{Words}
use Rattle.diagram_arena.specs.Part.{IsPartOf}
use Rattle.diagram_arena.specs.Arena.{table}
use Rattle.bit_layout.specs.Order.{word_at, IsValueAt}
use Rattle.set_meaning.specs.declared.kinds.Value.TheVariants as value
use Rattle.scope_words.specs.Words.{bits_at}
use Rattle.diagram_ops.proofs.Steps.{no_news}
use Rattle.objective_sides.specs.Work.{cut_words, Cuts}
use Rattle.objective_sides.proofs.Beyond.{over_bits, word_there, word_long, cut_parts, cut_reach, cut_set}
use Rattle.objective_sides.proofs.sides.values_beyond.Goals as goal

pub cut-requires-clause-long : goal.cut-requires-clause-long
cut-requires-clause-long c = ap length c.as_slice.ensures.value ∙ word_long c.args.layout.now c.args.v c.in-Ok.word.items c.args.bound c.obeys_order.ensures (let here : FitsSigned w64 c.args.bound = search rules in subst (λ z. IsValueAt c.args.layout.now c.args.v c.in-Ok.word.items (value.Int z)) (to_z-of_z w64 c.args.bound here) c.in-Ok.ensures.is) ∙ sym (ap length c.bits_of.ensures.bits)

pub cut-requires-clause-over : goal.cut-requires-clause-over
cut-requires-clause-over c = over_bits c.args.layout.now (table c.args.ops.now.arena) c.args.v c.args.f c.bits_of.result.now c.obeys_order.ensures
    (λ set. (c.reduced_tables.ensures.reach _ c.pool.ensures.reduced c.args.f c.requires.set.live set).1) c.requires.set c.bits_of.ensures.bits c.bits_of.ensures.ascending

pub returns-in-Ok-clause-set : goal.returns-in-Ok-clause-set
returns-in-Ok-clause-set c =
    let cuts = subst (λ (bs : List ℕ). Cuts c.args.ops.now c.cut.new.ops c.args.f bs c.in-Ok.word.items c.args.sense c.cut.result) c.bits_of.ensures.bits
    (subst (λ (w : List Bool). Cuts c.args.ops.now c.cut.new.ops c.args.f c.bits_of.result.now w c.args.sense c.cut.result) c.as_slice.ensures.value c.cut.ensures) in
    cut_set c.args.layout.now c.args.v (table c.args.ops.now.arena) (table c.cut.new.ops.arena) c.args.f c.in-Ok.word.items c.args.bound c.args.sense c.cut.result c.obeys_order.ensures (let here : FitsSigned w64 c.args.bound = search rules in subst (λ z. IsValueAt c.args.layout.now c.args.v c.in-Ok.word.items (value.Int z)) (to_z-of_z w64 c.args.bound here) c.in-Ok.ensures.is) c.requires.set cuts.words

pub returns-in-Ok-clause-parts : goal.returns-in-Ok-clause-parts
returns-in-Ok-clause-parts c =
    let cuts = subst (λ (bs : List ℕ). Cuts c.args.ops.now c.cut.new.ops c.args.f bs c.in-Ok.word.items c.args.sense c.cut.result) c.bits_of.ensures.bits
    (subst (λ (w : List Bool). Cuts c.args.ops.now c.cut.new.ops c.args.f c.bits_of.result.now w c.args.sense c.cut.result) c.as_slice.ensures.value c.cut.ensures) in
    cut_parts c.args.layout.now c.args.v (table c.args.ops.now.arena) (table c.cut.new.ops.arena) c.args.f c.in-Ok.word.items c.args.bound c.args.sense c.obeys_order.ensures (let here : FitsSigned w64 c.args.bound = search rules in subst (λ z. IsValueAt c.args.layout.now c.args.v c.in-Ok.word.items (value.Int z)) (to_z-of_z w64 c.args.bound here) c.in-Ok.ensures.is) c.requires.set cuts.parts

pub returns-in-Ok-clause-reach : goal.returns-in-Ok-clause-reach
returns-in-Ok-clause-reach c =
    let cuts = subst (λ (bs : List ℕ). Cuts c.args.ops.now c.cut.new.ops c.args.f bs c.in-Ok.word.items c.args.sense c.cut.result) c.bits_of.ensures.bits
    (subst (λ (w : List Bool). Cuts c.args.ops.now c.cut.new.ops c.args.f c.bits_of.result.now w c.args.sense c.cut.result) c.as_slice.ensures.value c.cut.ensures) in
    cut_reach c.args.layout.now c.args.v (table c.args.ops.now.arena) (table c.cut.new.ops.arena) c.args.f c.in-Ok.word.items c.args.bound c.args.sense c.obeys_order.ensures (let here : FitsSigned w64 c.args.bound = search rules in subst (λ z. IsValueAt c.args.layout.now c.args.v c.in-Ok.word.items (value.Int z)) (to_z-of_z w64 c.args.bound here) c.in-Ok.ensures.is) c.requires.set cuts.stays.reduced cuts.parts

pub returns-in-Err-clause-parts : goal.returns-in-Err-clause-parts
returns-in-Err-clause-parts c =
    let l = c.args.layout.now in
    let t = table c.args.ops.now.arena in
    let word = word_at l c.args.v (value.Int c.args.bound) in
    cut_parts l c.args.v t t c.args.f word c.args.bound c.args.sense c.obeys_order.ensures (word_there l c.args.v c.args.bound c.requires.known) c.requires.set
    (no_news t (λ (W : Words). IsPartOf W (cut_words t c.args.f (bits_at l c.args.v) word c.args.sense)))
