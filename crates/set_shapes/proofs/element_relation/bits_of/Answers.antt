use Rattle.std.proofs.Common.{◌<◌, List, length, All, ◌∙◌, sym, subst}
use Rattle.set_meaning.specs.declared.kinds.Kind.{Kind}
use Rattle.set_meaning.specs.declared.problems.VarId.{VarId}
use Rattle.scope_words.specs.Words.{AreBitsOf}
use Rattle.set_shapes.proofs.ElementEnds.{element_scope}
use Rattle.set_shapes.proofs.element_relation.bits_of.Goals as goal

pub scope_bits-requires : goal.scope_bits-requires
scope_bits-requires c =
    let own = element_scope c.args.kinds.now c.args.args.now c.requires.fits in
    let there = subst (All (λ (v : VarId). v.0 < length c.args.kinds.now)) (sym (c.as_slice.ensures.value ∙ c.in_ok-scope.ensures)) own in
    subst (λ (ks : List Kind). All (λ (v : VarId). v.0 < length ks) c.as_slice.result.now) (sym c.requires.kinds) there

pub returns : goal.returns
returns c = subst (λ vs. AreBitsOf c.args.layout.now vs c.in_ok-bits.bits.items) (c.as_slice.ensures.value ∙ c.in_ok-scope.ensures) c.in_ok-bits.ensures
