use Rattle.std.proofs.Common.{◌-◌, List, ℕ, length, take, drop, subst}
use Rattle.std.specs.Prelude.{Some, None}
use Rattle.memchr.specs.Find.{IsFirstByte, is_byte}
use Rattle.desk.specs.Lines.{unread}
use Rattle.desk.proofs.Newlines.{found_behind, none_behind}
use Rattle.desk.proofs.lines.Lines.newline_behind.Goals as goal

pub returns-in-Some-clause-some : goal.returns-in-Some-clause-some
returns-in-Some-clause-some c =
    let P : List ℕ → Type 0 = λ u. IsFirstByte (is_byte 10) (take (length u - c.args.searched) (drop c.args.searched u)) (Some c.in-Some.n) in
    (found_behind (unread c.args.self.now) c.args.searched c.in-Some.n c.requires.passed (subst P c.unread.ensures c.in-Some.ensures)).0

pub returns-in-None-clause-none : goal.returns-in-None-clause-none
returns-in-None-clause-none c =
    let P : List ℕ → Type 0 = λ u. IsFirstByte (is_byte 10) (take (length u - c.args.searched) (drop c.args.searched u)) None in
    none_behind (unread c.args.self.now) c.args.searched c.requires.passed (subst P c.unread.ensures c.in-None.ensures)
