use Rattle.std.proofs.Common.{◌<◌, List, length, All, sym, subst}
use Rattle.set_meaning.specs.declared.kinds.Kind.{Kind}
use Rattle.set_meaning.specs.declared.problems.VarId.{VarId}
use Rattle.set_meaning.specs.Rows.{row_of, shapes_of}
use Rattle.scope_words.specs.Words.{variables_in}
use Rattle.int_channel.specs.Forms.{IsSumOf}
use Rattle.int_channel.proofs.Scopes.{scope_known, terms_known, terms_listed}
use Rattle.int_channel.proofs.Made.{sum_made}
use Rattle.int_channel.proofs.machines.sum_over.Goals as goal

pub initial_values-requires-clause-bits : goal.initial_values-requires-clause-bits
initial_values-requires-clause-bits c = (variables_in c.args.args.now, c.requires.bits)

pub sum_machine-requires-clause-known : goal.sum_machine-requires-clause-known
sum_machine-requires-clause-known c =
    let own = scope_known c.args.kinds.now (shapes_of (row_of c.args.relation)) c.args.args.now c.requires.fits in
    let known = subst (λ (ks : List Kind). All (λ (v : VarId). v.0 < length ks) (variables_in c.args.args.now)) (sym c.requires.kinds) own in
    terms_known c.args.layout.now.kinds (variables_in c.args.args.now) c.in_ok-sum.sum.terms known c.in_ok-sum.ensures.variables

pub sum_machine-requires-clause-listed : goal.sum_machine-requires-clause-listed
sum_machine-requires-clause-listed c =
    terms_listed c.args.layout.now (variables_in c.args.args.now) c.args.bits.now c.in_ok-sum.sum.terms c.obeys_order.ensures c.requires.bits c.in_ok-sum.ensures.variables

pub returns-clause-machine : goal.returns-clause-machine
returns-clause-machine c =
    let own = scope_known c.args.kinds.now (shapes_of (row_of c.args.relation)) c.args.args.now c.requires.fits in
    let known = subst (λ (ks : List Kind). All (λ (v : VarId). v.0 < length ks) (variables_in c.args.args.now)) (sym c.requires.kinds) own in
    let means = subst (λ (ks : List Kind). IsSumOf ks c.args.relation c.args.args.now c.in_ok-sum.sum) (sym c.requires.kinds) c.in_ok-sum.ensures in
    sum_made c.relations_have_words.ensures c.args.layout.now c.args.relation c.args.args.now c.args.bits.now c.in_ok-first.first c.in_ok-sum.sum c.in_ok-second.second c.obeys_order.ensures c.requires.bits known
    c.in_ok-first.ensures.valid c.in_ok-first.ensures.places c.in_ok-first.ensures.accepts means c.in_ok-second.ensures.accepts
