use Rattle.std.proofs.Common.{◌≡◌, [], ◌∷◌, rules}
use Rattle.set_meaning.specs.declared.problems.Arg.TheVariants.{One}
use Rattle.int_channel.proofs.ChoiceArguments.{small_three}
use Rattle.int_channel.proofs.choices.arguments.three_terms.Goals as goal

pub returns-clause-first : goal.returns-clause-first
returns-clause-first c =
    let is : c.args.args.now ≡ One c.term.result.now ∷ One c.term-in-len3.result.now ∷ One c.term-in-len3-2.result.now ∷ [] = search rules in
    (small_three c.args.args.now c.term.result.now c.term-in-len3.result.now c.term-in-len3-2.result.now is c.requires.small).0

pub returns-clause-second : goal.returns-clause-second
returns-clause-second c =
    let is : c.args.args.now ≡ One c.term.result.now ∷ One c.term-in-len3.result.now ∷ One c.term-in-len3-2.result.now ∷ [] = search rules in
    (small_three c.args.args.now c.term.result.now c.term-in-len3.result.now c.term-in-len3-2.result.now is c.requires.small).1

pub returns-clause-third : goal.returns-clause-third
returns-clause-third c =
    let is : c.args.args.now ≡ One c.term.result.now ∷ One c.term-in-len3.result.now ∷ One c.term-in-len3-2.result.now ∷ [] = search rules in
    (small_three c.args.args.now c.term.result.now c.term-in-len3.result.now c.term-in-len3-2.result.now is c.requires.small).2
