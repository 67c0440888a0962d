use Rattle.std.proofs.Common.{◌≡◌, subst, sym}
use Rattle.std.specs.Prelude.{None, IsSome, All}
use Rattle.set_meaning.specs.declared.problems.Arg.{Arg}
use Rattle.set_meaning.specs.Arguments.{set_of_term, sets_of}
use Rattle.set_meaning.proofs.Members.{never}
use Rattle.set_meaning.proofs.Readings.{missing}
use Rattle.set_meaning.proofs.meaning.terms.set_terms.Goals as goal

pub returns-else-are_sets-clause-none : goal.returns-else-are_sets-clause-none
returns-else-are_sets-clause-none c =
    let P : Arg → Type 0 = λ a. sets_of c.args.values.now a ≡ None in
    subst P (sym c.in-Many.is) (missing (set_of_term c.args.values.now) _ (λ all. never (c.if-are_sets.ensures.1 (subst (All (λ t. IsSome (set_of_term c.args.values.now t))) (sym c.items.ensures) all))))
