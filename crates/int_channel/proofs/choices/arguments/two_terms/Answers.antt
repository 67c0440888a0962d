use Rattle.std.proofs.Common.{◌≡◌, [], ◌∷◌, rules}
use Rattle.set_meaning.specs.declared.problems.Arg.TheVariants.{One}
use Rattle.int_channel.proofs.ChoiceArguments.{small_two}
use Rattle.int_channel.proofs.choices.arguments.two_terms.Goals as goal

pub returns-clause-first : goal.returns-clause-first
returns-clause-first c =
    let is : c.args.args.now ≡ One c.term.result.now ∷ One c.term-in-len2.result.now ∷ [] = search rules in
    (small_two c.args.args.now c.term.result.now c.term-in-len2.result.now is c.requires.small).0

pub returns-clause-second : goal.returns-clause-second
returns-clause-second c =
    let is : c.args.args.now ≡ One c.term.result.now ∷ One c.term-in-len2.result.now ∷ [] = search rules in
    (small_two c.args.args.now c.term.result.now c.term-in-len2.result.now is c.requires.small).1
