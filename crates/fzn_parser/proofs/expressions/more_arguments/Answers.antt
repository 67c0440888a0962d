-- Each turn reads a comma and a part, or the closing bracket, or stops.
use Rattle.std.proofs.Common.{◌≡◌, length, sym, ◌∙◌, ap, Ok, true, false, List, Bool}
use Rattle.std.proofs.lemmas.Result.{err_from_is_err_and}
use Rattle.fzn_reader.specs.declared.tokens.Symbol.TheVariants.{CloseRound}
use Rattle.fzn_parser.specs.declared.faults.What.TheVariants.{CommaOrRound}
use Rattle.fzn_parser.specs.declared.tree.Expr.{Expr}
use Rattle.fzn_parser.specs.Grammar.{signs}
use Rattle.fzn_parser.specs.Reading.{with_front, more, expression}
use Rattle.fzn_parser.proofs.Readers.{stopped, signs_less}
use Rattle.fzn_parser.proofs.Leaves.{takes_shrinks, expression_takes}
use Rattle.fzn_parser.proofs.Lists.{list_ends, list_stops, part_stops, list_takes, turn_less}
use Rattle.fzn_parser.proofs.expressions.more_arguments.Goals as goal

pub returns-in_err-goes_on : goal.returns-in_err-goes_on
returns-in_err-goes_on c =
    let p = err_from_is_err_and c.from_residual.result c.from_residual.ensures.1 in
    let n = length c.args.text.now in
    stopped _ c.from_residual.result _ c.in_err-goes_on.field-0.0 p.0 p.1 (cc (p.2))
    (λ keep. sym c.arguments.invariant ∙ list_stops n (expression n) CloseRound CommaOrRound (takes_shrinks (expression n) (expression_takes n)) c.arguments.arguments.items (signs c.args.text.now c.arguments.tokens.now) c.in_err-goes_on.field-0.0 (c.in_err-goes_on.ensures keep))

pub returns-then-not-goes_on : goal.returns-then-not-goes_on
returns-then-not-goes_on c =
    let n = length c.args.text.now in
    let text = c.args.text.now in
    let is : c.in_ok-goes_on.goes_on ≡ false = c.if-not-goes_on.true in
    sym c.arguments.invariant ∙ list_ends n (expression n) CloseRound CommaOrRound (takes_shrinks (expression n) (expression_takes n)) c.arguments.arguments.items (signs text c.arguments.tokens.now) (signs text c.in_ok-goes_on.rest.now)
    (c.in_ok-goes_on.ensures ∙ ap (λ (b : Bool). Ok (b, signs text c.in_ok-goes_on.rest.now)) is)

pub returns-in_err-argument : goal.returns-in_err-argument
returns-in_err-argument c =
    let p = err_from_is_err_and c.from_residual-in_err-argument.result c.from_residual-in_err-argument.ensures.1 in
    let n = length c.args.text.now in
    let text = c.args.text.now in
    let is : c.in_ok-goes_on.goes_on ≡ true = c.if-not-goes_on.false in
    stopped _ c.from_residual-in_err-argument.result _ c.in_err-argument.field-0.0 p.0 p.1 (cc (p.2))
    (λ keep. sym c.arguments.invariant ∙ part_stops n (expression n) CloseRound CommaOrRound (takes_shrinks (expression n) (expression_takes n)) c.arguments.arguments.items (signs text c.arguments.tokens.now) (signs text c.in_ok-goes_on.rest.now) c.in_err-argument.field-0.0 (c.in_ok-goes_on.ensures ∙ ap (λ (b : Bool). Ok (b, signs text c.in_ok-goes_on.rest.now)) is) (c.in_err-argument.ensures keep))

pub arguments-smaller : goal.arguments-smaller
arguments-smaller c =
    let n = length c.args.text.now in
    let text = c.args.text.now in
    let is : c.in_ok-goes_on.goes_on ≡ true = c.if-not-goes_on.false in
    signs_less text c.in_ok-argument.rest.now c.arguments.tokens.now (turn_less n (expression n) CloseRound CommaOrRound (takes_shrinks (expression n) (expression_takes n)) (signs text c.arguments.tokens.now) (signs text c.in_ok-goes_on.rest.now) c.in_ok-argument.argument (signs text c.in_ok-argument.rest.now) (c.in_ok-goes_on.ensures ∙ ap (λ (b : Bool). Ok (b, signs text c.in_ok-goes_on.rest.now)) is) c.in_ok-argument.ensures)

pub arguments-preserved : goal.arguments-preserved
arguments-preserved c =
    let n = length c.args.text.now in
    let text = c.args.text.now in
    let is : c.in_ok-goes_on.goes_on ≡ true = c.if-not-goes_on.false in
    ap (λ (zs : List Expr). with_front zs (more n (expression n) CloseRound CommaOrRound (signs text c.in_ok-argument.rest.now))) c.in_ok-push.ensures.items
    ∙ sym (list_takes n (expression n) CloseRound CommaOrRound (takes_shrinks (expression n) (expression_takes n)) c.arguments.arguments.items (signs text c.arguments.tokens.now) (signs text c.in_ok-goes_on.rest.now) c.in_ok-argument.argument (signs text c.in_ok-argument.rest.now) (c.in_ok-goes_on.ensures ∙ ap (λ (b : Bool). Ok (b, signs text c.in_ok-goes_on.rest.now)) is) c.in_ok-argument.ensures)
    ∙ c.arguments.invariant
