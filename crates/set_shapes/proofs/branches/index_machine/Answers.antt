use Rattle.std.proofs.Common.{◌∙◌, List, FitsSigned, sym, subst}
use Rattle.std.specs.Int.{w128}
use Rattle.std.proofs.lemmas.Int.{to_z-of_z, fits_signed_from_abs}
use Rattle.set_meaning.specs.declared.kinds.Kind.{Kind}
use Rattle.set_meaning.specs.declared.rows.Sort.TheVariants.{Integer}
use Rattle.set_meaning.specs.Rows.{HasSort}
use Rattle.set_shapes.proofs.OneBranch.{index_listed, index_ok}
use Rattle.set_shapes.proofs.branches.index_machine.Goals as goal

pub linear_over-requires-clause-listed : goal.linear_over-requires-clause-listed
linear_over-requires-clause-listed c =
    index_listed c.scopes_have_the_bits_of_terms.ensures c.args.layout.now c.args.bits.now c.args.index.now c.as_slice.result.now c.obeys_order.ensures (c.as_slice.ensures.value ∙ c.in_ok-terms.ensures) c.requires.bits.0 c.requires.bits.1

pub returns-clause-tells : goal.returns-clause-tells
returns-clause-tells c =
    let fits : FitsSigned w128 c.index_constant.result = fits_signed_from_abs w128 c.index_constant.result (let size = c.index_constant.ensures.size in omega (Rattle.std.proofs.Common.arith, size)) in
    let sort : HasSort c.args.layout.now.kinds Integer c.args.index.now = subst (λ (ks : List Kind). HasSort ks Integer c.args.index.now) (sym c.requires.kinds) c.requires.index in
    index_ok c.linear_over.result c.args.layout.now c.args.bits.now c.args.index.now c.args.number c.as_slice.result.now _ sort (c.as_slice.ensures.value ∙ c.in_ok-terms.ensures) (simp to_z-of_z c.index_constant.ensures.value) c.linear_over.ensures.accepts
