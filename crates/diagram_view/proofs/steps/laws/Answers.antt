use Rattle.diagram_view.proofs.steps.laws.Goals as goal

pub returns : goal.returns
returns c = record {
  reduced = c.len.ensures.reduced;
  stands = c.reduced_tables.ensures.stands _ c.len.ensures.reduced;
  same_words = c.reduced_tables.ensures.same_words _ c.len.ensures.reduced;
  reach = c.reduced_tables.ensures.reach _ c.len.ensures.reduced;
  zero = c.zero_and_one.ensures.zero _;
  one = c.zero_and_one.ensures.one _;
}
