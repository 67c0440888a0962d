use Rattle.std.proofs.Common.{sym, ◌∙◌}
use Rattle.set_meaning.specs.Arguments.{bool_of_term}
use Rattle.set_meaning.proofs.Readings.{one_more, one_missing, all_read}
use Rattle.set_meaning.proofs.meaning.terms.each_bool.Goals as goal

pub loop-term-preserved : goal.loop-term-preserved
loop-term-preserved c =
    one_more (bool_of_term c.args.values.now) c.args.terms.now _ _ _ _ _ c.loop-term-test.true c.term-item.is (sym c.in-Some.is ∙ c.bool_of_term.ensures) c.in_ok-push-in-Some.ensures.items c.loop-term.invariant

pub returns-in-None : goal.returns-in-None
returns-in-None c =
    sym (one_missing (bool_of_term c.args.values.now) c.args.terms.now _ _ _ c.loop-term-test.true c.term-item.is (sym c.in-None.is ∙ c.bool_of_term.ensures) c.loop-term.invariant)

pub returns : goal.returns
returns c = sym (all_read (bool_of_term c.args.values.now) c.args.terms.now _ _ c.loop-term-test.false c.loop-term.invariant)
