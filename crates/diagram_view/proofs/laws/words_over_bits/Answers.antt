use Rattle.diagram_arena.specs.Table.{Table, IsReduced}
use Rattle.diagram_view.specs.Steps.{Laws}
use Rattle.diagram_view.proofs.Tell.{has-values, same_ref}
use Rattle.diagram_view.proofs.laws.words_over_bits.Goals as goal

laws : goal.After-zero_and_one → (t : Table) → IsReduced t → Laws t
laws c t ok = record {
  reduced = ok;
  stands = c.reduced_tables.ensures.stands t ok;
  same_words = c.reduced_tables.ensures.same_words t ok;
  reach = c.reduced_tables.ensures.reach t ok;
  zero = c.zero_and_one.ensures.zero t;
  one = c.zero_and_one.ensures.one t;
}

pub returns-clause-values : goal.returns-clause-values
returns-clause-values c t f bits ok live only w = has-values t (laws c t ok) bits f live only w

pub returns-clause-same : goal.returns-clause-same
returns-clause-same c t f g bits ok f_live g_live f_only g_only same = same_ref t (laws c t ok) bits f g f_live g_live f_only g_only same
