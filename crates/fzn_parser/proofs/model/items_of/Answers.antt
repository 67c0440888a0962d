-- Each turn reads an item; behind the solve item the text must end.
use Rattle.std.proofs.Common.{length, sym, subst, ◌∙◌, ap, List}
use Rattle.std.proofs.lemmas.Result.{err_from_is_err_and}
use Rattle.fzn_parser.specs.declared.tree.Item.{Item}
use Rattle.fzn_parser.specs.Grammar.{signs}
use Rattle.fzn_parser.specs.Reading.{Gives, with_items, model, at_end}
use Rattle.fzn_parser.proofs.Readers.{stopped, signs_less}
use Rattle.fzn_parser.proofs.Models.{item_stops, item_ends, item_more, item_less}
use Rattle.fzn_parser.proofs.model.items_of.Goals as goal

pub returns-in_err-item : goal.returns-in_err-item
returns-in_err-item c =
    let p = err_from_is_err_and c.from_residual.result c.from_residual.ensures.1 in
    let text = c.args.text.now in
    stopped _ c.from_residual.result _ c.in_err-item.field-0.0 p.0 p.1 (cc (p.2))
    (λ keep. sym c.items.invariant ∙ item_stops (length text) 100 c.items.items.items (signs text c.items.tokens.now) c.in_err-item.field-0.0 (c.in_err-item.ensures keep))

pub returns-then-is_last : goal.returns-then-is_last
returns-then-is_last c =
    let text = c.args.text.now in
    subst (Gives _ c.end_at.result)
    (ap (λ (zs : List Item). with_items zs (at_end (signs text c.in_ok-item.rest.now))) c.in_ok-push.ensures.items
    ∙ sym (item_ends (length text) 100 c.items.items.items (signs text c.items.tokens.now) c.in_ok-item.item (signs text c.in_ok-item.rest.now) c.in_ok-item.ensures (sym c.is_solve-is_last.ensures ∙ c.if-is_last.true))
    ∙ c.items.invariant)
    c.end_at.ensures

pub items-smaller : goal.items-smaller
items-smaller c =
    let text = c.args.text.now in
    signs_less text c.in_ok-item.rest.now c.items.tokens.now (item_less (length text) 100 (signs text c.items.tokens.now) c.in_ok-item.item (signs text c.in_ok-item.rest.now) c.in_ok-item.ensures)

pub items-preserved : goal.items-preserved
items-preserved c =
    let text = c.args.text.now in
    ap (λ (zs : List Item). with_items zs (model (length text) 100 (signs text c.in_ok-item.rest.now))) c.in_ok-push.ensures.items
    ∙ sym (item_more (length text) 100 c.items.items.items (signs text c.items.tokens.now) c.in_ok-item.item (signs text c.in_ok-item.rest.now) c.in_ok-item.ensures (sym c.is_solve-is_last.ensures ∙ c.if-is_last.false))
    ∙ c.items.invariant
