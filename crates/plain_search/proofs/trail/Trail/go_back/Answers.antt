use Rattle.std.proofs.Common.{ℕ, ◌<◌, ◌∙◌, subst}
use Rattle.std.specs.List.{All}
use Rattle.plain_search.specs.State.{Fits}
use Rattle.plain_search.proofs.TurnLemmas.{taken_over}
use Rattle.plain_search.proofs.trail.Trail.go_back.Goals as goal

pub loop-self-preserved : goal.loop-self-preserved
loop-self-preserved c =
    let over = taken_over c.loop-self.self c.undo.new.self c.undo.result c.args.level c.undo.ensures.undone
    (subst (λ (t : ℕ). c.args.level < t) c.level.ensures c.loop-self-test.true) in
    record {
      entries = over.0 ∙ c.loop-self.invariant.entries;
      family_is = over.1 ∙ c.loop-self.invariant.family_is;
      sets = c.undo.ensures.sets ∙ c.loop-self.invariant.sets;
      fit = subst (λ (n : ℕ). All (Fits n) c.undo.new.self.changes.items) c.loop-self.invariant.sets c.undo.ensures.fit;
    }
