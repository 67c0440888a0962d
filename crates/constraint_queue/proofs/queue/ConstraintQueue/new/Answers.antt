use Rattle.std.proofs.Common.{◌≡◌, false, List, length, replicate, ap, subst, ◌∙◌}
use Rattle.std.proofs.lemmas.List.{length-replicate}
use Rattle.set_meaning.specs.declared.problems.VarId.{VarId}
use Rattle.constraint_queue.specs.Waiting.{AreReaders}
use Rattle.constraint_queue.proofs.queue.ConstraintQueue.new.Goals as goal

pub invariant_of-result : goal.invariant_of-result
invariant_of-result c = record {
  few = c.requires.few;
  long = ap length c.in_ok-flags.ensures ∙ length-replicate c.len.result false ∙ c.len.ensures ∙ c.args.scopes.ok.0;
  readers = subst (λ (ss : List (List VarId)). AreReaders ss c.in_ok-readers.readers.items) c.as_slice.ensures.value c.in_ok-readers.ensures;
}
