use Rattle.std.proofs.Common.{◌≡◌, ℕ, ◌+◌, ◌≤◌, List, length, refl, sym, ap, ◌∙◌, subst, arith}
use Rattle.std.specs.Prelude.{Option}
use Rattle.desk.specs.declared.outside.Slot.TheVariants as slot
use Rattle.desk.specs.Lines.{unread, left_for}
use Rattle.check_top.proofs.LogsRead.{read_none, read_one_more, says, number_grows, takes_both, takes_nothing, begins_with, none_unread}
use Rattle.check_top.proofs.judging.judge.Goals as goal

pub loop-verdict-init : goal.loop-verdict-init
loop-verdict-init g c = record {
  so_far = read_none c.args.problem (g.D.Desk.state c.args.desk.now).log_read.left
      (left_for slot.Log (g.D.Desk.state c.args.desk.now) (unread c.new-lines.result)) c.in-Ok.checker
      c.logs_grow_by_lines.ensures.start c.in-Ok.ensures
      (begins_with (g.D.Desk.state c.args.desk.now) (unread c.new-lines.result) c.new-lines.ensures.unread);
  takes = takes_nothing (g.D.Desk.state c.args.desk.now);
  counts = none_unread (unread c.new-lines.result) (g.D.Desk.state c.args.desk.now).log_read.given c.new-lines.ensures.unread;
  faults = refl;
}

pub returns-in-Some-clause-says : goal.returns-in-Some-clause-says
returns-in-Some-clause-says g c =
    says c.args.problem (g.D.Desk.state c.args.desk.now).log_read.left
    (left_for slot.Log (g.D.Desk.state c.loop-verdict.desk) (unread c.loop-verdict.lines)) c.loop-verdict.checker
    c.loop-verdict.number c.in-Some.verdict c.valid_logs_are_sound.ensures.answers c.logs_grow_by_lines.ensures.end
    c.loop-verdict.invariant.so_far c.in-Some.ensures.judged

pub returns-in-Some-clause-takes : goal.returns-in-Some-clause-takes
returns-in-Some-clause-takes g c =
    takes_both (g.D.Desk.state c.args.desk.now) (g.D.Desk.state c.loop-verdict.desk) (g.D.Desk.state c.judge_next.new.desk)
    c.loop-verdict.invariant.takes c.judge_next.ensures.takes

pub loop-verdict-preserved : goal.loop-verdict-preserved
loop-verdict-preserved g c = record {
  so_far = read_one_more c.args.problem (g.D.Desk.state c.args.desk.now).log_read.left
      (left_for slot.Log (g.D.Desk.state c.loop-verdict.desk) (unread c.loop-verdict.lines))
      (left_for slot.Log (g.D.Desk.state c.judge_next.new.desk) (unread c.judge_next.new.lines)) c.loop-verdict.checker
      c.judge_next.new.checker c.loop-verdict.number c.logs_grow_by_lines.ensures.state
      c.logs_grow_by_lines.ensures.one_more c.loop-verdict.invariant.so_far c.in-None.ensures.taken;
  takes = takes_both (g.D.Desk.state c.args.desk.now) (g.D.Desk.state c.loop-verdict.desk)
      (g.D.Desk.state c.judge_next.new.desk) c.loop-verdict.invariant.takes c.judge_next.ensures.takes;
  counts = number_grows (g.D.Desk.state c.loop-verdict.desk) (g.D.Desk.state c.judge_next.new.desk)
      (length (unread c.loop-verdict.lines)) (length (unread c.judge_next.new.lines)) c.loop-verdict.number
      c.in-None.ensures.passes c.loop-verdict.invariant.counts;
  faults = c.in-None.ensures.quiet ∙ c.loop-verdict.invariant.faults;
}
