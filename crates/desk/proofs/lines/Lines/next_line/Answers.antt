use Rattle.std.proofs.Common.{Option, ℕ, subst}
use Rattle.desk.specs.State.{reading}
use Rattle.desk.specs.Lines.{unread, EndsAt}
use Rattle.desk.proofs.Newlines.{gives_line, gives_rest, passes_still, line_counts, rest_counts}
use Rattle.desk.proofs.lines.Lines.next_line.Goals as goal

pub returns-in-Ok-Some-clause-ok : goal.returns-in-Ok-Some-clause-ok
returns-in-Ok-Some-clause-ok g c =
    let now = g.D.Desk.state c.find_end.new.desk in
    let E : Option ℕ → Type 0 = λ end. EndsAt end (unread c.find_end.new.self) (reading c.args.slot now).left in
    gives_line c.args.slot _ now _ (unread c.find_end.new.self) _ _ c.in-Ok-Some.len c.in-Ok-Some.ensures.left
    (subst E c.in-Ok-Some.field-0-is c.in-Ok-Some.ensures.ok) c.give_line.ensures.line c.give_line.ensures.unread

pub returns-in-Ok-None-clause-ok : goal.returns-in-Ok-None-clause-ok
returns-in-Ok-None-clause-ok g c =
    let now = g.D.Desk.state c.find_end.new.desk in
    let E : Option ℕ → Type 0 = λ end. EndsAt end (unread c.find_end.new.self) (reading c.args.slot now).left in
    gives_rest c.give_rest.result c.args.slot _ now _ (unread c.find_end.new.self) _ _ c.give_rest.ensures.end
    c.in-Ok-None.ensures.left (subst E c.in-Ok-None.field-0-is c.in-Ok-None.ensures.ok) c.give_rest.ensures.line c.give_rest.ensures.unread

pub returns-in-Ok-Some-clause-passes : goal.returns-in-Ok-Some-clause-passes
returns-in-Ok-Some-clause-passes g c =
    let E : Option ℕ → Type 0 = λ end. EndsAt end (unread c.find_end.new.self) (reading c.args.slot (g.D.Desk.state c.find_end.new.desk)).left in
    let at = subst E c.in-Ok-Some.field-0-is c.in-Ok-Some.ensures.ok in
    passes_still c.args.slot _ _ _ _ _ c.in-Ok-Some.ensures.passes
    (line_counts (unread c.find_end.new.self) _ _ c.in-Ok-Some.len at.1 c.give_line.ensures.line c.give_line.ensures.unread)

pub returns-in-Ok-None-clause-passes : goal.returns-in-Ok-None-clause-passes
returns-in-Ok-None-clause-passes g c =
    passes_still c.args.slot _ _ _ _ _ c.in-Ok-None.ensures.passes
    (rest_counts c.give_rest.result (unread c.find_end.new.self) _ _ c.give_rest.ensures.end c.give_rest.ensures.line c.give_rest.ensures.unread)
