use Rattle.std.proofs.Common.{ap, ◌∙◌, arith, length}
use Rattle.desk.specs.Lines.{unread}
use Rattle.desk.proofs.Newlines.{when_none, line_is_long, left_same, searched_more, length_more, passes_more}
use Rattle.desk.proofs.lines.Lines.find_end.Goals as goal

pub returns-in-Some-clause-too_long : goal.returns-in-Some-clause-too_long
returns-in-Some-clause-too_long g c = λ long.
    line_is_long c.args.slot _ (g.D.Desk.state c.loop-len.desk) _ (unread c.loop-len.self) c.loop-len.invariant.left
    (omega (arith, c.in-Some.ensures.some, c.within_limit.ensures.too_long long))

pub returns-then-searched-gt-LINE_LIMIT-clause-too_long : goal.returns-then-searched-gt-LINE_LIMIT-clause-too_long
returns-then-searched-gt-LINE_LIMIT-clause-too_long g c = λ _.
    let none = when_none _ _ c.in_default.not-Some c.newline_behind.ensures.none in
    line_is_long c.args.slot _ (g.D.Desk.state c.loop-len.desk) _ (unread c.loop-len.self) c.loop-len.invariant.left
    (omega (arith, none, ap length c.unread-searched.ensures, c.if-searched-gt-LINE_LIMIT.true))

pub loop-len-preserved : goal.loop-len-preserved
loop-len-preserved g c =
    let now = g.D.Desk.state c.loop-len.desk in
    let new = g.D.Desk.state c.read_more.new.desk in
    let before = unread c.loop-len.self in
    let after = unread c.read_more.new.self in
    let none = when_none _ _ c.in_default.not-Some c.newline_behind.ensures.none in
    let n = c.in_ok-count.count in
    let reads = c.in_ok-count.ensures.ok in
    record {
      within = omega (arith, ap length c.unread-searched.ensures, length_more c.args.slot now new before after n reads);
      passed = omega (arith, ap length c.unread-searched.ensures, searched_more c.args.slot now new before after n reads none);
      left = left_same c.args.slot now new before after n reads ∙ c.loop-len.invariant.left;
      line = c.read_more.ensures.no_line;
      passes = passes_more c.args.slot _ now new _ _ n c.loop-len.invariant.passes reads.state (length_more c.args.slot now new before after n reads);
      faults = c.in_ok-count.ensures.cause.kept ∙ c.loop-len.invariant.faults;
    }
