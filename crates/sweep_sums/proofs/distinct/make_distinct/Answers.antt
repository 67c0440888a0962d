use Rattle.std.proofs.lemmas.Bool.Decides.{Decides-int_eq}
use Rattle.std.proofs.lemmas.Cmp.{int_eq_equiv}
use Rattle.std.specs.Ordering.{int_eq}
use Rattle.sweep_sums.proofs.Once.{distinct_same}
use Rattle.sweep_sums.proofs.distinct.make_distinct.Goals as goal

pub returns : goal.returns
returns c =
    distinct_same int_eq int_eq_equiv (λ p q e. (Decides-int_eq p q).0 e) c.args.numbers.now.items c.sort_unstable.new.self.items c.dedup.new.self.items c.sort_unstable.ensures.permutation
    c.dedup.ensures.filtered
