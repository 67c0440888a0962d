use Rattle.set_meaning.proofs.Members.{IsSubset-from_all, all_from_IsSubset}
use Rattle.set_meaning.proofs.sets.SetValue.is_subset.Goals as goal

pub returns : goal.returns
returns c =
    let each = rw c.elements.ensures.same at c.all_in.ensures in
    (λ yes. IsSubset-from_all c.args.self.now c.args.other.now (each.0 yes), λ sub. each.1 (all_from_IsSubset c.args.self.now c.args.other.now sub))
