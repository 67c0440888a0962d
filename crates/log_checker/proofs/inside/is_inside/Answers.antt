use Rattle.log_checker.proofs.Passing.{min_long, inside_answer}
use Rattle.log_checker.proofs.inside.is_inside.Goals as goal

pub some_value-requires-clause-places : goal.some_value-requires-clause-places
some_value-requires-clause-places c = min_long _ _ _ c.in_ok-out_first.ensures.2 c.in_ok-out_second.ensures.2

pub returns : goal.returns
returns c =
    inside_answer c.sides_accept.ensures c.args.kind.now c.args.table.now c.args.inside c.args.first c.args.second _ _ _ _ _ _ _ c.in_ok-leaves.leaves
    c.in_ok-out_first.ensures.0 c.in_ok-out_first.ensures.1 c.in_ok-out_first.ensures.2 c.in_ok-out_second.ensures.0 c.in_ok-out_second.ensures.1 c.in_ok-out_second.ensures.2
    c.obeys_rules.ensures c.requires.first c.requires.second c.requires.fits_first c.requires.fits_second (λ x h. c.values_have_words.ensures.long _ x h)
    (λ word. c.both_accept.ensures c.in_ok-out_first.out_first c.in_ok-out_second.out_second word) c.in_ok-leaves.ensures
