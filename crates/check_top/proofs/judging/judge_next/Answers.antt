use Rattle.check_top.proofs.LogsRead.{given_line, given_unended, given_end, line_taken, line_judged, unended_judged, end_judged}
use Rattle.check_top.proofs.judging.judge_next.Goals as goal

pub returns-in-Ok-Line-clause-taken : goal.returns-in-Ok-Line-clause-taken
returns-in-Ok-Line-clause-taken g c =
    line_taken _ _ _ _ c.line.result.now _ (given_line _ _ _ _ _ c.in-Ok-Line.field-0-is c.line.ensures c.in-Ok-Line.ensures.ok) c.judge_line.ensures.taken

pub returns-in-Ok-Line-clause-judged : goal.returns-in-Ok-Line-clause-judged
returns-in-Ok-Line-clause-judged g c =
    line_judged _ _ _ c.line.result.now _ _ (given_line _ _ _ _ _ c.in-Ok-Line.field-0-is c.line.ensures c.in-Ok-Line.ensures.ok) c.judge_line.ensures.refused

pub returns-in-Ok-Unended-clause-judged : goal.returns-in-Ok-Unended-clause-judged
returns-in-Ok-Unended-clause-judged g c =
    unended_judged _ _ _ _ _ _ (given_unended _ _ _ _ c.in-Ok-Unended.field-0-is c.in-Ok-Unended.ensures.ok) c.refuse_bytes.ensures

pub returns-in-Ok-End-clause-judged : goal.returns-in-Ok-End-clause-judged
returns-in-Ok-End-clause-judged g c =
    end_judged _ _ _ _ _ _ (given_end _ _ _ _ c.in-Ok-End.field-0-is c.in-Ok-End.ensures.ok) c.judge_end.ensures
