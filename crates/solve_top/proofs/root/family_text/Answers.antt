use Rattle.std.proofs.Common.{inl, inr}
use Rattle.solve_top.proofs.Lines.{lines_go_on, no_more_names, no_more_rows}
use Rattle.solve_top.proofs.root.family_text.Goals as goal

pub loop-name-preserved : goal.loop-name-preserved
loop-name-preserved c =
    lines_go_on c.args.names.now c.args.rows.now c.in-Some.name.now c.in-Some.row.now _ _ _ _ c.loop-name.out.items c.push_line.new.out.items
    c.in-Some.ensures.steps.0 c.in-Some.ensures.steps.1 c.in_ok-push_line.ensures c.loop-name.invariant

pub returns : goal.returns
returns c = elim c.in-None.ensures.steps [
  | inl a ↦ no_more_names _ _ _ _ a.1.0 c.loop-name.invariant
  | inr b ↦ no_more_rows _ _ _ _ b.1.0 c.loop-name.invariant
]
