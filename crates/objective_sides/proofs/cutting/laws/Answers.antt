use Rattle.objective_sides.proofs.cutting.laws.Goals as goal

pub returns : goal.returns
returns c = record {
  reduced = c.pool.ensures.reduced;
  stands = c.reduced_tables.ensures.stands _ c.pool.ensures.reduced;
  same_words = c.reduced_tables.ensures.same_words _ c.pool.ensures.reduced;
  reach = c.reduced_tables.ensures.reach _ c.pool.ensures.reduced;
  zero = c.zero_and_one.ensures.zero _;
  one = c.zero_and_one.ensures.one _;
}
