-- What is put is the draft of the items with one more.
use Rattle.std.proofs.Common.{◌≡◌, ◌≤◌, ◌<◌, ◌^◌, length, refl, sym, arith, rules}
use Rattle.fzn_model.proofs.building.put_item.Goals as goal
use Rattle.fzn_model.proofs.Meant.{AreKnown}
use Rattle.fzn_model.proofs.Steps.{kinds_are_few}
use Rattle.fzn_model.proofs.Shortness.{short_item, short_kind}
use Rattle.fzn_model.proofs.NextDraft.{can_be_put, next}

pub overflow_cast-number : goal.overflow_cast-number
overflow_cast-number c =
    let few : length c.args.draft.now.so_far.kinds.items ≤ 1048576 = kinds_are_few c.args.before.now c.args.draft.now c.requires.draft in
    let count : c.len-number.result ≡ length c.args.draft.now.so_far.kinds.items = search rules in
    omega (arith, few, count)

pub pieces_of-requires-clause-expressions : goal.pieces_of-requires-clause-expressions
pieces_of-requires-clause-expressions c = short_item c.args.before.now c.args.item.now.at c.args.item.now.form c.requires.faultless

pub pieces_of-requires-clause-kinds : goal.pieces_of-requires-clause-kinds
pieces_of-requires-clause-kinds c =
    let known : AreKnown c.args.before.now c.args.draft.now.so_far.kinds.items = record { names = c.requires.draft.state.declared; sorts = c.requires.draft.sorts } in
    short_kind c.args.before.now c.args.draft.now.so_far.kinds.items known (length c.args.draft.now.so_far.kinds.items) refl c.args.item.now.at c.args.item.now.form c.requires.faultless

pub put-requires : goal.put-requires
put-requires c =
    let count : c.len-number.result ≡ length c.args.draft.now.so_far.kinds.items = search rules in
    can_be_put c.args.before.now c.args.draft.now c.requires.draft c.len-number.result count c.args.item.now.at c.args.item.now.form c.requires.faultless
    c.in_ok-pieces.pieces c.in_ok-pieces.ensures

pub returns : goal.returns
returns c =
    let count : c.len-number.result ≡ length c.args.draft.now.so_far.kinds.items = search rules in
    next c.args.before.now c.args.draft.now c.requires.draft c.len-number.result count c.args.item.now.at c.args.item.now.form c.requires.faultless
    c.in_ok-pieces.pieces c.in_ok-pieces.ensures c.put.new.self c.in_ok-put.ensures
