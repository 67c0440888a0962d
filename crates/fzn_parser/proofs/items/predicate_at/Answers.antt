-- Each turn passes over a token, up to the semicolon.
use Rattle.std.proofs.Common.{length, sym, ◌∙◌}
use Rattle.std.proofs.lemmas.Result.{err_from_is_err_and}
use Rattle.fzn_parser.specs.Grammar.{sign_of, signs}
use Rattle.fzn_parser.proofs.Readers.{stopped, signs_less, first_less}
use Rattle.fzn_parser.proofs.Predicates.{predicate_stops, predicate_ends, predicate_on}
use Rattle.fzn_parser.proofs.items.predicate_at.Goals as goal

pub returns-in_err-token : goal.returns-in_err-token
returns-in_err-token c =
    let p = err_from_is_err_and c.from_residual.result c.from_residual.ensures.1 in
    let text = c.args.text.now in
    stopped _ c.from_residual.result _ c.in_err-token.field-0.0 p.0 p.1 (cc (p.2))
    (λ keep. sym c.tokens.invariant ∙ predicate_stops (length text) (signs text c.tokens.tokens.now) c.in_err-token.field-0.0 (c.in_err-token.ensures keep))

pub returns-then-same_kind : goal.returns-then-same_kind
returns-then-same_kind c =
    let text = c.args.text.now in
    sym c.tokens.invariant ∙ predicate_ends (length text) (signs text c.tokens.tokens.now) (sign_of text c.in_ok-token.token) (signs text c.in_ok-token.rest.now) c.in_ok-token.ensures (sym c.same_kind.ensures ∙ c.if-same_kind.true)

pub tokens-smaller : goal.tokens-smaller
tokens-smaller c =
    let text = c.args.text.now in
    signs_less text c.in_ok-token.rest.now c.tokens.tokens.now (first_less (length text) (signs text c.tokens.tokens.now) (sign_of text c.in_ok-token.token, signs text c.in_ok-token.rest.now) c.in_ok-token.ensures)

pub tokens-preserved : goal.tokens-preserved
tokens-preserved c =
    let text = c.args.text.now in
    sym (predicate_on (length text) (signs text c.tokens.tokens.now) (sign_of text c.in_ok-token.token) (signs text c.in_ok-token.rest.now) c.in_ok-token.ensures (sym c.same_kind.ensures ∙ c.if-same_kind.false)) ∙ c.tokens.invariant
