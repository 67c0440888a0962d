use Rattle.std.proofs.Common.{◌≡◌, ◌∙◌, rules, ap, Some, None, codes}
use Rattle.clap.specs.Words.{found_of, first_value}
use Rattle.solve_top.proofs.Asked.{command_is}
use Rattle.solve_top.proofs.words.asked.Goals as goal

pub returns-in-Some : goal.returns-in-Some
returns-in-Some c =
    let found : Some c.in-Some.name.now ≡ first_value (found_of c.args.matches.now) (codes "model") = search rules in
    ap (λ t. Some (t, c.in-Some.name.now)) c.task_of.ensures ∙ command_is (found_of c.args.matches.now) (Some c.in-Some.name.now) found

pub returns-in-None : goal.returns-in-None
returns-in-None c =
    let found : None ≡ first_value (found_of c.args.matches.now) (codes "model") = search rules in
    command_is (found_of c.args.matches.now) None found
