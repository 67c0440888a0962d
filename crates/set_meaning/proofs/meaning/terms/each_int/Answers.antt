use Rattle.std.proofs.Common.{◌≡◌, [], ◌∷◌, ◌++◌, FitsSigned, w64, rules, sym, ◌∙◌}
use Rattle.std.proofs.lemmas.Int.{to_z-of_z}
use Rattle.set_meaning.specs.Arguments.{int_of_term}
use Rattle.set_meaning.proofs.Readings.{one_more, one_missing, all_read}
use Rattle.set_meaning.proofs.meaning.terms.each_int.Goals as goal

pub loop-term-preserved : goal.loop-term-preserved
loop-term-preserved c =
    let fits : FitsSigned w64 c.in-Some.number = search rules in
    let pushed : c.push.new.self.items ≡ c.loop-term.numbers.items ++ c.in-Some.number ∷ [] = simp to_z-of_z at c.in_ok-push-in-Some.ensures.items in
    one_more (int_of_term c.args.values.now) c.args.terms.now _ _ _ _ _ c.loop-term-test.true c.term-item.is (sym c.in-Some.is ∙ c.int_of_term.ensures) pushed c.loop-term.invariant

pub returns-in-None : goal.returns-in-None
returns-in-None c =
    sym (one_missing (int_of_term c.args.values.now) c.args.terms.now _ _ _ c.loop-term-test.true c.term-item.is (sym c.in-None.is ∙ c.int_of_term.ensures) c.loop-term.invariant)

pub returns : goal.returns
returns c = sym (all_read (int_of_term c.args.values.now) c.args.terms.now _ _ c.loop-term-test.false c.loop-term.invariant)
