use Rattle.sweep_states.proofs.Distinct.{distinct_same}
use Rattle.sweep_states.proofs.states.make_distinct.Goals as goal

pub returns : goal.returns
returns g c = record {
  same = distinct_same g.X.PartialEq.eq g.met.X.Eq.laws c.requires.identical c.args.states.now.items c.sort_unstable.new.self.items c.dedup.new.self.items
      c.sort_unstable.ensures.permutation c.dedup.ensures.filtered;
}
