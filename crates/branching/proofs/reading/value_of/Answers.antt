use Rattle.std.proofs.Common.{List, Bool, ap, subst, sym, ◌∙◌, length}
use Rattle.diagram_arena.specs.Arena.{table}
use Rattle.set_meaning.specs.declared.kinds.Value.{Value}
use Rattle.bit_layout.specs.Order.{IsValueAt}
use Rattle.scope_words.proofs.Bits.{length-bits_at}
use Rattle.branching.proofs.Options.{from_none}
use Rattle.branching.proofs.Reciting.{value_found, value_there}
use Rattle.branching.proofs.reading.value_of.Goals as goal

pub value_of-requires-clause-long : goal.value_of-requires-clause-long
value_of-requires-clause-long c = ap length c.as_slice.ensures.value ∙ c.requires.word.long ∙ length-bits_at c.args.layout.now c.args.v

pub unreachable-requires : goal.unreachable-requires
unreachable-requires c =
    let l = c.args.layout.now in
    let v = c.args.v in
    let x = value_there l (table c.args.ops.now.arena) v c.args.domain c.args.word.now.items c.obeys_order.ensures c.requires.domain c.requires.word in
    let none = from_none c.in_ok-found.found ((x : Value) → IsValueAt l v c.as_slice.result.now x → ⊥) c.in-None.is c.in_ok-found.ensures.none in
    none x.0 (subst (λ (w : List Bool). IsValueAt l v w x.0) (sym c.as_slice.ensures.value) x.1)

pub returns : goal.returns
returns c =
    let l = c.args.layout.now in
    let v = c.args.v in
    let at = (c.in_ok-found.ensures.value c.in-Some.value).0 c.in-Some.is in
    value_found l (table c.args.ops.now.arena) v c.args.domain c.args.word.now.items c.in-Some.value c.obeys_order.ensures c.requires.domain c.requires.word
    (subst (λ (w : List Bool). IsValueAt l v w c.in-Some.value) c.as_slice.ensures.value at)
