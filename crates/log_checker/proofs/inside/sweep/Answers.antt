use Rattle.std.proofs.Common.{sym, ap, ◌∙◌, length, ◌++◌, ◌∷◌, []}
use Rattle.sweep_rules.specs.Rules.{accepts, both}
use Rattle.log_checker.proofs.Passing.{own_long, occur_at, width_min, sweep_answer}
use Rattle.log_checker.proofs.inside.sweep.Goals as goal

pub read_through-requires-clause-count : goal.read_through-requires-clause-count
read_through-requires-clause-count g c = ap length c.in_ok-side.ensures.2 ∙ own_long _ ∙ sym c.width-width.ensures

pub some_accepts-yes-requires-clause-occur : goal.some_accepts-yes-requires-clause-occur
some_accepts-yes-requires-clause-occur g c =
    occur_at (λ at q. g.D.Shape.occurs c.args.domain at q.0 × g.S.Shape.occurs c.args.shape at q.1) _ _ _ _ c.as_slice-2.ensures.value
    (width_min _ _ _ _ c.width-width.ensures c.requires.domain_places c.requires.places) c.in_ok-ends.ensures.occur

pub returns : goal.returns
returns g c =
    sweep_answer c.sides_accept.ensures c.args.kind.now c.args.table.now c.args.inside (both (g.D.Shape.rules c.args.domain) (g.S.Shape.rules c.args.shape)) _ _ _ _ _ _ _ _ _
    (accepts (g.D.Shape.rules c.args.domain)) (accepts (g.S.Shape.rules c.args.shape))
    c.in_ok-side.ensures.0 c.in_ok-side.ensures.1 c.in_ok-side.ensures.2 c.obeys_rules.ensures c.requires.inside c.requires.fits c.width-width.ensures
    (c.as_slice.ensures.value ∙ c.in_ok-push.ensures.items ∙ (λ i. c.new-states.ensures.items i ++ c.start.ensures.state i ∷ [])) c.as_slice-2.ensures.value
    (sym (width_min _ _ _ _ c.width-width.ensures c.requires.domain_places c.requires.places)) c.some_accepts-yes.ensures c.in_ok-ends.ensures.leads
    c.requires.values (λ word. c.both_accept.ensures c.args.domain c.args.shape word) (λ x h. c.values_have_words.ensures.long _ x h)
