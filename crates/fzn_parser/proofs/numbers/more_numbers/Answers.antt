-- Each turn reads a comma and a number, or the closing brace, or stops.
use Rattle.std.proofs.Common.{◌≡◌, length, sym, ◌∙◌, ap, Ok, true, false, List, Bool}
use Rattle.std.proofs.lemmas.Result.{err_from_is_err_and}
use Rattle.fzn_reader.specs.declared.tokens.Symbol.TheVariants.{CloseCurly}
use Rattle.fzn_parser.specs.declared.faults.What.TheVariants.{CommaOrCurly}
use Rattle.fzn_parser.specs.declared.tree.Number.{Number}
use Rattle.fzn_parser.specs.Grammar.{signs}
use Rattle.fzn_parser.specs.Reading.{with_front, more, number}
use Rattle.fzn_parser.proofs.Readers.{stopped, signs_less}
use Rattle.fzn_parser.proofs.Leaves.{takes_shrinks, number_takes}
use Rattle.fzn_parser.proofs.Lists.{list_ends, list_stops, part_stops, list_takes, turn_less}
use Rattle.fzn_parser.proofs.numbers.more_numbers.Goals as goal

pub returns-in_err-goes_on : goal.returns-in_err-goes_on
returns-in_err-goes_on c =
    let p = err_from_is_err_and c.from_residual.result c.from_residual.ensures.1 in
    let n = length c.args.text.now in
    stopped _ c.from_residual.result _ c.in_err-goes_on.field-0.0 p.0 p.1 (cc (p.2))
    (λ keep. sym c.numbers.invariant ∙ list_stops n (number n) CloseCurly CommaOrCurly (takes_shrinks (number n) (number_takes n)) c.numbers.numbers.items (signs c.args.text.now c.numbers.tokens.now) c.in_err-goes_on.field-0.0 (c.in_err-goes_on.ensures keep))

pub returns-then-not-goes_on : goal.returns-then-not-goes_on
returns-then-not-goes_on c =
    let n = length c.args.text.now in
    let text = c.args.text.now in
    let is : c.in_ok-goes_on.goes_on ≡ false = c.if-not-goes_on.true in
    sym c.numbers.invariant ∙ list_ends n (number n) CloseCurly CommaOrCurly (takes_shrinks (number n) (number_takes n)) c.numbers.numbers.items (signs text c.numbers.tokens.now) (signs text c.in_ok-goes_on.rest.now)
    (c.in_ok-goes_on.ensures ∙ ap (λ (b : Bool). Ok (b, signs text c.in_ok-goes_on.rest.now)) is)

pub returns-in_err-number : goal.returns-in_err-number
returns-in_err-number c =
    let p = err_from_is_err_and c.from_residual-in_err-number.result c.from_residual-in_err-number.ensures.1 in
    let n = length c.args.text.now in
    let text = c.args.text.now in
    let is : c.in_ok-goes_on.goes_on ≡ true = c.if-not-goes_on.false in
    stopped _ c.from_residual-in_err-number.result _ c.in_err-number.field-0.0 p.0 p.1 (cc (p.2))
    (λ keep. sym c.numbers.invariant ∙ part_stops n (number n) CloseCurly CommaOrCurly (takes_shrinks (number n) (number_takes n)) c.numbers.numbers.items (signs text c.numbers.tokens.now) (signs text c.in_ok-goes_on.rest.now) c.in_err-number.field-0.0 (c.in_ok-goes_on.ensures ∙ ap (λ (b : Bool). Ok (b, signs text c.in_ok-goes_on.rest.now)) is) (c.in_err-number.ensures keep))

pub numbers-smaller : goal.numbers-smaller
numbers-smaller c =
    let n = length c.args.text.now in
    let text = c.args.text.now in
    let is : c.in_ok-goes_on.goes_on ≡ true = c.if-not-goes_on.false in
    signs_less text c.in_ok-number.rest.now c.numbers.tokens.now (turn_less n (number n) CloseCurly CommaOrCurly (takes_shrinks (number n) (number_takes n)) (signs text c.numbers.tokens.now) (signs text c.in_ok-goes_on.rest.now) c.in_ok-number.number (signs text c.in_ok-number.rest.now) (c.in_ok-goes_on.ensures ∙ ap (λ (b : Bool). Ok (b, signs text c.in_ok-goes_on.rest.now)) is) c.in_ok-number.ensures)

pub numbers-preserved : goal.numbers-preserved
numbers-preserved c =
    let n = length c.args.text.now in
    let text = c.args.text.now in
    let is : c.in_ok-goes_on.goes_on ≡ true = c.if-not-goes_on.false in
    ap (λ (zs : List Number). with_front zs (more n (number n) CloseCurly CommaOrCurly (signs text c.in_ok-number.rest.now))) c.in_ok-push.ensures.items
    ∙ sym (list_takes n (number n) CloseCurly CommaOrCurly (takes_shrinks (number n) (number_takes n)) c.numbers.numbers.items (signs text c.numbers.tokens.now) (signs text c.in_ok-goes_on.rest.now) c.in_ok-number.number (signs text c.in_ok-number.rest.now) (c.in_ok-goes_on.ensures ∙ ap (λ (b : Bool). Ok (b, signs text c.in_ok-goes_on.rest.now)) is) c.in_ok-number.ensures)
    ∙ c.numbers.invariant
