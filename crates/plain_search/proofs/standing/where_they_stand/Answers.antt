use Rattle.std.proofs.Common.{ℕ, List, ◌∷◌, take, refl, sym, subst}
use Rattle.search_rules.specs.Trail.{Entry}
use Rattle.plain_steps.specs.Sets.{family}
use Rattle.plain_search.specs.State.{entry_of, entries_of}
use Rattle.plain_search.specs.Moves.{IsStanding}
use Rattle.plain_search.specs.declared.standing.Standing.{Standing}
use Rattle.plain_search.proofs.ListLemmas.{entries_more}
use Rattle.plain_search.proofs.StandingLemmas.{standing_skip}
use Rattle.plain_search.proofs.standing.where_they_stand.Goals as goal
use Rattle.plain_search.proofs.standing.where_they_stand.Goals.{then-matters, else-matters}

pub loop-change-preserved : goal.loop-change-preserved
loop-change-preserved c =
    let before : List (Entry ℕ) = entries_of (take c.loop-change.change-index c.args.changes.now) in
    subst (λ (es : List (Entry ℕ)). IsStanding es (family c.args.sides.now) c.if-matters.found)
    (sym (entries_more c.args.changes.now c.loop-change.change-index c.change-item.result c.loop-change-test.true c.change-item.is))
    (elim c.if-matters.branch [
      | then-matters w ↦
          subst (λ (s : Standing). IsStanding (entry_of c.change-item.result ∷ before) (family c.args.sides.now) s) (sym w.found-is)
          (w.with_entry-found.ensures before (family c.args.sides.now) (entry_of c.change-item.result) refl refl w.if-matters.ensures
          c.loop-change.invariant)
      | else-matters w ↦
          subst (λ (s : Standing). IsStanding (entry_of c.change-item.result ∷ before) (family c.args.sides.now) s) (sym w.found-is)
          (standing_skip before (family c.args.sides.now) (entry_of c.change-item.result) c.loop-change.found w.if-matters.ensures
          c.loop-change.invariant)
    ])
