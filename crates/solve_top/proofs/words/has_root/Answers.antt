use Rattle.std.proofs.Common.{◌≡◌, ◌∙◌, rules, Some, None, codes}
use Rattle.std.specs.Str.{bytes_eq}
use Rattle.clap.specs.Words.{found_of, first_value}
use Rattle.solve_top.proofs.Asked.{flag_is}
use Rattle.solve_top.proofs.words.has_root.Goals as goal

pub returns-in-Some : goal.returns-in-Some
returns-in-Some c =
    let found : Some c.in-Some.text.now ≡ first_value (found_of c.args.matches.now) (codes "root") = search rules in
    let same : c.eq.result ≡ bytes_eq c.in-Some.text.now (codes "true") = search rules in
    same ∙ flag_is (found_of c.args.matches.now) (Some c.in-Some.text.now) found

pub returns-in-None : goal.returns-in-None
returns-in-None c =
    let found : None ≡ first_value (found_of c.args.matches.now) (codes "root") = search rules in
    flag_is (found_of c.args.matches.now) None found
