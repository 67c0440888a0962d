-- One more item without faults.
use Rattle.std.proofs.Common.{subst}
use Rattle.fzn_model.proofs.building.add.Goals as goal
use Rattle.fzn_model.specs.FaultsOf.{IsFaultAfter}
use Rattle.fzn_model.specs.FirstFault.{IsFirstOf}
use Rattle.fzn_model.proofs.FirstOfTree.{one_more}

pub returns-in_ok-put_item-in-None-clause-built : goal.returns-in_ok-put_item-in-None-clause-built
returns-in_ok-put_item-in-None-clause-built c = record {
  draft_is = c.in_ok-put_item-in-None.ensures;
  faultless = one_more c.args.before.now c.args.item.now c.requires.faultless
      (subst (λ o. IsFirstOf (IsFaultAfter c.args.before.now c.args.item.now) o) c.in-None.is c.in_ok-found.ensures);
}
