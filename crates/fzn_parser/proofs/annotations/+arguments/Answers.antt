-- Each turn of the loop reads a comma and an argument, or the closing bracket, or stops; a bracket is too deep where
-- none may be opened.
use Rattle.std.proofs.Common.{◌≡◌, length, sym, subst, ◌∙◌, ap, Ok, true, false, List, Bool}
use Rattle.std.proofs.lemmas.Result.{err_from_is_err_and}
use Rattle.fzn_parser.specs.declared.tree.AnnArg.{AnnArg}
use Rattle.fzn_parser.specs.Grammar.{signs}
use Rattle.fzn_parser.specs.Reading.{with_front, more, argument, nested, with_seen, Gives}
use Rattle.fzn_parser.proofs.Nested.{nested_none, nested_some}
use Rattle.fzn_parser.proofs.Readers.{stopped, signs_less}
use Rattle.fzn_parser.proofs.Leaves.{takes_shrinks, nested_takes}
use Rattle.fzn_parser.proofs.Lists.{list_ends, list_stops, part_stops, list_takes, turn_less}
use Rattle.fzn_parser.proofs.annotations.+arguments.Goals as goal

pub more_arguments-returns-in_err-goes_on : goal.more_arguments-returns-in_err-goes_on
more_arguments-returns-in_err-goes_on t c =
    let p = err_from_is_err_and c.from_residual.result c.from_residual.ensures.1 in
    let n = length c.args.text.now in
    stopped _ c.from_residual.result _ c.in_err-goes_on.field-0.0 p.0 p.1 (cc (p.2))
    (λ keep. sym c.arguments.invariant ∙ list_stops n (argument n (nested n c.args.depth)) c.args.close c.args.what (takes_shrinks (argument n (nested n c.args.depth)) (nested_takes n c.args.depth)) c.arguments.arguments.items (signs c.args.text.now c.arguments.tokens.now) c.in_err-goes_on.field-0.0 (c.in_err-goes_on.ensures keep))

pub more_arguments-returns-then-not-goes_on : goal.more_arguments-returns-then-not-goes_on
more_arguments-returns-then-not-goes_on t c =
    let n = length c.args.text.now in
    let text = c.args.text.now in
    let is : c.in_ok-goes_on.goes_on ≡ false = c.if-not-goes_on.true in
    sym c.arguments.invariant ∙ list_ends n (argument n (nested n c.args.depth)) c.args.close c.args.what (takes_shrinks (argument n (nested n c.args.depth)) (nested_takes n c.args.depth)) c.arguments.arguments.items (signs text c.arguments.tokens.now) (signs text c.in_ok-goes_on.rest.now)
    (c.in_ok-goes_on.ensures ∙ ap (λ (b : Bool). Ok (b, signs text c.in_ok-goes_on.rest.now)) is)

pub more_arguments-returns-in_err-argument : goal.more_arguments-returns-in_err-argument
more_arguments-returns-in_err-argument t c =
    let p = err_from_is_err_and c.from_residual-in_err-argument.result c.from_residual-in_err-argument.ensures.1 in
    let n = length c.args.text.now in
    let text = c.args.text.now in
    let is : c.in_ok-goes_on.goes_on ≡ true = c.if-not-goes_on.false in
    stopped _ c.from_residual-in_err-argument.result _ c.in_err-argument.field-0.0 p.0 p.1 (cc (p.2))
    (λ keep. sym c.arguments.invariant ∙ part_stops n (argument n (nested n c.args.depth)) c.args.close c.args.what (takes_shrinks (argument n (nested n c.args.depth)) (nested_takes n c.args.depth)) c.arguments.arguments.items (signs text c.arguments.tokens.now) (signs text c.in_ok-goes_on.rest.now) c.in_err-argument.field-0.0 (c.in_ok-goes_on.ensures ∙ ap (λ (b : Bool). Ok (b, signs text c.in_ok-goes_on.rest.now)) is) (c.in_err-argument.ensures keep))

pub more_arguments-arguments-smaller : goal.more_arguments-arguments-smaller
more_arguments-arguments-smaller t c =
    let n = length c.args.text.now in
    let text = c.args.text.now in
    let is : c.in_ok-goes_on.goes_on ≡ true = c.if-not-goes_on.false in
    signs_less text c.in_ok-argument.rest.now c.arguments.tokens.now (turn_less n (argument n (nested n c.args.depth)) c.args.close c.args.what (takes_shrinks (argument n (nested n c.args.depth)) (nested_takes n c.args.depth)) (signs text c.arguments.tokens.now) (signs text c.in_ok-goes_on.rest.now) c.in_ok-argument.argument (signs text c.in_ok-argument.rest.now) (c.in_ok-goes_on.ensures ∙ ap (λ (b : Bool). Ok (b, signs text c.in_ok-goes_on.rest.now)) is) c.in_ok-argument.ensures)

pub more_arguments-arguments-preserved : goal.more_arguments-arguments-preserved
more_arguments-arguments-preserved t c =
    let n = length c.args.text.now in
    let text = c.args.text.now in
    let is : c.in_ok-goes_on.goes_on ≡ true = c.if-not-goes_on.false in
    ap (λ (zs : List AnnArg). with_front zs (more n (argument n (nested n c.args.depth)) c.args.close c.args.what (signs text c.in_ok-argument.rest.now))) c.in_ok-push.ensures.items
    ∙ sym (list_takes n (argument n (nested n c.args.depth)) c.args.close c.args.what (takes_shrinks (argument n (nested n c.args.depth)) (nested_takes n c.args.depth)) c.arguments.arguments.items (signs text c.arguments.tokens.now) (signs text c.in_ok-goes_on.rest.now) c.in_ok-argument.argument (signs text c.in_ok-argument.rest.now) (c.in_ok-goes_on.ensures ∙ ap (λ (b : Bool). Ok (b, signs text c.in_ok-goes_on.rest.now)) is) c.in_ok-argument.ensures)
    ∙ c.arguments.invariant

pub nested_at-returns-then-depth-eq0 : goal.nested_at-returns-then-depth-eq0
nested_at-returns-then-depth-eq0 t c = λ keep. nested_none (length c.args.text.now) c.args.depth c.args.close c.args.what c.args.at (signs c.args.text.now c.args.tokens.now) c.if-depth-eq0.true

pub nested_at-returns : goal.nested_at-returns
nested_at-returns t c =
    let text = c.args.text.now in
    let n = length text in
    subst (Gives (with_seen text) c.arguments_at.result) (sym (nested_some n c.args.depth c.args.close c.args.what c.args.at (signs text c.args.tokens.now) c.if-depth-eq0.false)) c.arguments_at.ensures
