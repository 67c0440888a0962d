use Rattle.std.proofs.Common.{◌≡◌, List, map, ap, subst}
use Rattle.std.specs.Prelude.{IfOk, string_bytes}
use Rattle.std.specs.Option.{option_map}
use Rattle.clap.specs.Words.{App, Text, app_of, fault_of, is_simple_and_free, kind_of, matches_of}
use Rattle.solve_top.specs.Words.{setsolve, command_by}
use Rattle.solve_top.proofs.Asked.{refused_words}
use Rattle.solve_top.proofs.words.read_words.Goals as goal

pub returns-in-Err : goal.returns-in-Err
returns-in-Err c =
    let words : List Text = map string_bytes c.args.words.now in
    let app : App = app_of c.in_ok-command.command in
    let app_is : app ≡ setsolve = c.in_ok-command.ensures in
    let P : App → Type 0 = λ a. IfOk c.refused.result (λ r. option_map (λ p. (p.0, p.1.now)) r ≡ command_by (fault_of a words) (matches_of a words)) in
    let fails = c.in-Err.ensures.kinds (ap is_simple_and_free app_is) in
    subst P app_is (refused_words (fault_of app words) (matches_of app words) (kind_of c.in-Err.error) c.refused.result fails c.refused.ensures.none c.refused.ensures.memory)
