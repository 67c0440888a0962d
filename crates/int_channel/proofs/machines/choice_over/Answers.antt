use Rattle.std.proofs.Common.{◌≡◌, ◌↔◌, ◌<◌, ◌≤◌, min, true, List, length, All, refl, sym, subst}
use Rattle.std.specs.Prelude.{Any}
use Rattle.set_meaning.specs.declared.kinds.Kind.{Kind}
use Rattle.set_meaning.specs.declared.problems.VarId.{VarId}
use Rattle.set_meaning.specs.Rows.{row_of, shapes_of}
use Rattle.bit_machine.specs.Rules.{accepts}
use Rattle.scope_words.specs.Words.{variables_in}
use Rattle.choice_machine.specs.Choices.{rules_of}
use Rattle.int_channel.specs.Forms.{AreBranchesOf}
use Rattle.int_channel.specs.Machines.{IsBranchReadBy}
use Rattle.int_channel.proofs.Scopes.{scope_known, branches_read}
use Rattle.int_channel.proofs.Made.{Pair, AreMachines, Accepted, choice_made, pairs_long}
use Rattle.int_channel.proofs.machines.choice_over.Goals as goal

pub initial_values-requires-clause-bits : goal.initial_values-requires-clause-bits
initial_values-requires-clause-bits c = (variables_in c.args.args.now, c.requires.bits)

pub branch_machines-requires-clause-reads : goal.branch_machines-requires-clause-reads
branch_machines-requires-clause-reads c =
    let l = c.args.layout.now in
    let own = scope_known c.args.kinds.now (shapes_of (row_of c.args.relation)) c.args.args.now c.requires.fits in
    let known = subst (λ (ks : List Kind). All (λ (v : VarId). v.0 < length ks) (variables_in c.args.args.now)) (sym c.requires.kinds) own in
    let means = subst (λ (ks : List Kind). AreBranchesOf ks c.args.relation c.args.args.now c.in_ok-branches.branches.items) (sym c.requires.kinds) c.in_ok-branches.ensures in
    subst (All (IsBranchReadBy l c.args.bits.now)) (sym c.as_slice.ensures.value)
    (branches_read l (variables_in c.args.args.now) c.args.bits.now c.in_ok-branches.branches.items c.obeys_order.ensures c.requires.bits known means.branches)

pub choice_of-requires-clause-valid : goal.choice_of-requires-clause-valid
choice_of-requires-clause-valid c k d within = (tt, tt)

pub choice_of-requires-clause-places : goal.choice_of-requires-clause-places
choice_of-requires-clause-places c =
    let l = c.args.layout.now in
    let long = pairs_long l c.args.bits.now c.as_slice.result.now c.in_ok-machines.machines.items c.in_ok-machines.ensures in
    subst (All (λ (m : Pair). length c.args.bits.now ≤ min (length m.first.weights) (length m.second.weights))) (sym c.as_slice-2.ensures.value) long

pub returns-clause-machine : goal.returns-clause-machine
returns-clause-machine c =
    let l = c.args.layout.now in
    let bits = c.args.bits.now in
    let own = scope_known c.args.kinds.now (shapes_of (row_of c.args.relation)) c.args.args.now c.requires.fits in
    let known = subst (λ (ks : List Kind). All (λ (v : VarId). v.0 < length ks) (variables_in c.args.args.now)) (sym c.requires.kinds) own in
    let means = subst (λ (ks : List Kind). AreBranchesOf ks c.args.relation c.args.args.now c.in_ok-branches.branches.items) (sym c.requires.kinds) c.in_ok-branches.ensures in
    let made = subst (λ bs. AreMachines l bits bs c.in_ok-machines.machines.items) c.as_slice.ensures.value c.in_ok-machines.ensures in
    choice_made c.relations_have_words.ensures l c.args.relation c.args.args.now bits c.in_ok-first.first c.in_ok-branches.branches.items c.in_ok-machines.machines.items (rules_of c.in_ok-second.second)
    c.obeys_order.ensures c.requires.bits known c.in_ok-first.ensures.valid c.in_ok-first.ensures.places c.in_ok-first.ensures.accepts means made
    (λ w. subst (λ (ms : List Pair). (accepts (rules_of c.in_ok-second.second) bits w ≡ true) ↔ Any (Accepted bits w) ms) c.as_slice-2.ensures.value (c.in_ok-second.ensures.accepts bits w refl))
