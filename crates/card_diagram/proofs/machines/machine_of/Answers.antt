use Rattle.std.proofs.Common.{FitsSigned, sym, subst}
use Rattle.std.specs.Int.{w128}
use Rattle.std.proofs.lemmas.Int.{to_z-of_z, fits_signed_from_abs}
use Rattle.card_diagram.proofs.Cards.{FitsCard}
use Rattle.card_diagram.proofs.Ends.{lent_known, lent_small, lent_listed, machine_made}
use Rattle.card_diagram.proofs.machines.machine_of.Goals as goal

pub linear_over-requires-clause-known : goal.linear_over-requires-clause-known
linear_over-requires-clause-known c = lent_known c.args.kinds.now c.args.args.now c.in_ok-sum.sum.terms.items _ c.requires.fits c.in_ok-sum.ensures.terms c.as_slice-4.ensures.value

pub linear_over-requires-clause-listed : goal.linear_over-requires-clause-listed
linear_over-requires-clause-listed c =
    lent_listed c.scopes_have_the_bits_of_terms.ensures c.args.layout.now c.in_ok-sum.sum.terms.items _ c.in_ok-scope.scope.items _ c.in_ok-bits.bits.items _ c.obeys_order.ensures c.in_ok-scope.ensures c.as_slice.ensures.value c.in_ok-bits.ensures
    c.as_slice-3.ensures.value c.as_slice-4.ensures.value

pub linear_over-requires-clause-small : goal.linear_over-requires-clause-small
linear_over-requires-clause-small c =
    let fits : FitsSigned w128 c.in_ok-sum.sum.constant = fits_signed_from_abs w128 c.in_ok-sum.sum.constant (omega (Rattle.std.proofs.Common.arith, c.in_ok-sum.ensures.size)) in
    simp to_z-of_z (lent_small c.args.kinds.now c.args.args.now c.in_ok-sum.sum.terms.items _ c.in_ok-sum.sum.constant c.requires.fits c.in_ok-sum.ensures.terms c.as_slice-4.ensures.value c.in_ok-sum.ensures.size)

pub returns : goal.returns
returns c =
    let fits : FitsSigned w128 c.in_ok-sum.sum.constant = fits_signed_from_abs w128 c.in_ok-sum.sum.constant (omega (Rattle.std.proofs.Common.arith, c.in_ok-sum.ensures.size)) in
    machine_made c.relations_have_words.ensures c.args.layout.now c.args.args.now c.in_ok-sum.sum.terms.items c.as_slice-4.result.now _ c.in_ok-scope.scope.items _ c.in_ok-bits.bits.items _ _ _ _ c.obeys_order.ensures
    (subst (λ ks. FitsCard ks c.args.args.now) (sym c.requires.kinds) c.requires.fits)
    c.in_ok-sum.ensures.terms (simp to_z-of_z c.in_ok-sum.ensures.constant) c.in_ok-scope.ensures c.as_slice.ensures.value c.in_ok-bits.ensures c.as_slice-2.ensures.value c.as_slice-3.ensures.value c.as_slice-4.ensures.value
    c.in_ok-first.ensures.valid c.in_ok-first.ensures.places c.in_ok-first.ensures.accepts c.in_ok-second.ensures.places c.in_ok-second.ensures.accepts
