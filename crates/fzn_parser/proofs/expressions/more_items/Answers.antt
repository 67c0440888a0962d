-- Each turn reads a comma and a part, or the closing bracket, or stops.
use Rattle.std.proofs.Common.{◌≡◌, length, sym, ◌∙◌, ap, Ok, true, false, List, Bool}
use Rattle.std.proofs.lemmas.Result.{err_from_is_err_and}
use Rattle.fzn_reader.specs.declared.tokens.Symbol.TheVariants.{CloseSquare}
use Rattle.fzn_parser.specs.declared.faults.What.TheVariants.{CommaOrSquare}
use Rattle.fzn_parser.specs.declared.tree.Basic.{Basic}
use Rattle.fzn_parser.specs.Grammar.{signs}
use Rattle.fzn_parser.specs.Reading.{with_front, more, basic}
use Rattle.fzn_parser.proofs.Readers.{stopped, signs_less}
use Rattle.fzn_parser.proofs.Leaves.{takes_shrinks, basic_takes}
use Rattle.fzn_parser.proofs.Lists.{list_ends, list_stops, part_stops, list_takes, turn_less}
use Rattle.fzn_parser.proofs.expressions.more_items.Goals as goal

pub returns-in_err-goes_on : goal.returns-in_err-goes_on
returns-in_err-goes_on c =
    let p = err_from_is_err_and c.from_residual.result c.from_residual.ensures.1 in
    let n = length c.args.text.now in
    stopped _ c.from_residual.result _ c.in_err-goes_on.field-0.0 p.0 p.1 (cc (p.2))
    (λ keep. sym c.items.invariant ∙ list_stops n (basic n) CloseSquare CommaOrSquare (takes_shrinks (basic n) (basic_takes n)) c.items.items.items (signs c.args.text.now c.items.tokens.now) c.in_err-goes_on.field-0.0 (c.in_err-goes_on.ensures keep))

pub returns-then-not-goes_on : goal.returns-then-not-goes_on
returns-then-not-goes_on c =
    let n = length c.args.text.now in
    let text = c.args.text.now in
    let is : c.in_ok-goes_on.goes_on ≡ false = c.if-not-goes_on.true in
    sym c.items.invariant ∙ list_ends n (basic n) CloseSquare CommaOrSquare (takes_shrinks (basic n) (basic_takes n)) c.items.items.items (signs text c.items.tokens.now) (signs text c.in_ok-goes_on.rest.now)
    (c.in_ok-goes_on.ensures ∙ ap (λ (b : Bool). Ok (b, signs text c.in_ok-goes_on.rest.now)) is)

pub returns-in_err-item : goal.returns-in_err-item
returns-in_err-item c =
    let p = err_from_is_err_and c.from_residual-in_err-item.result c.from_residual-in_err-item.ensures.1 in
    let n = length c.args.text.now in
    let text = c.args.text.now in
    let is : c.in_ok-goes_on.goes_on ≡ true = c.if-not-goes_on.false in
    stopped _ c.from_residual-in_err-item.result _ c.in_err-item.field-0.0 p.0 p.1 (cc (p.2))
    (λ keep. sym c.items.invariant ∙ part_stops n (basic n) CloseSquare CommaOrSquare (takes_shrinks (basic n) (basic_takes n)) c.items.items.items (signs text c.items.tokens.now) (signs text c.in_ok-goes_on.rest.now) c.in_err-item.field-0.0 (c.in_ok-goes_on.ensures ∙ ap (λ (b : Bool). Ok (b, signs text c.in_ok-goes_on.rest.now)) is) (c.in_err-item.ensures keep))

pub items-smaller : goal.items-smaller
items-smaller c =
    let n = length c.args.text.now in
    let text = c.args.text.now in
    let is : c.in_ok-goes_on.goes_on ≡ true = c.if-not-goes_on.false in
    signs_less text c.in_ok-item.rest.now c.items.tokens.now (turn_less n (basic n) CloseSquare CommaOrSquare (takes_shrinks (basic n) (basic_takes n)) (signs text c.items.tokens.now) (signs text c.in_ok-goes_on.rest.now) c.in_ok-item.item (signs text c.in_ok-item.rest.now) (c.in_ok-goes_on.ensures ∙ ap (λ (b : Bool). Ok (b, signs text c.in_ok-goes_on.rest.now)) is) c.in_ok-item.ensures)

pub items-preserved : goal.items-preserved
items-preserved c =
    let n = length c.args.text.now in
    let text = c.args.text.now in
    let is : c.in_ok-goes_on.goes_on ≡ true = c.if-not-goes_on.false in
    ap (λ (zs : List Basic). with_front zs (more n (basic n) CloseSquare CommaOrSquare (signs text c.in_ok-item.rest.now))) c.in_ok-push.ensures.items
    ∙ sym (list_takes n (basic n) CloseSquare CommaOrSquare (takes_shrinks (basic n) (basic_takes n)) c.items.items.items (signs text c.items.tokens.now) (signs text c.in_ok-goes_on.rest.now) c.in_ok-item.item (signs text c.in_ok-item.rest.now) (c.in_ok-goes_on.ensures ∙ ap (λ (b : Bool). Ok (b, signs text c.in_ok-goes_on.rest.now)) is) c.in_ok-item.ensures)
    ∙ c.items.invariant
