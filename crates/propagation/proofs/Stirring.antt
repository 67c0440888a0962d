-- The flags of constraints, as those that read narrowed variables are set.
use Rattle.std.proofs.Common.{◌≡◌, ℕ, ◌+◌, ◌<◌, List, [], ◌∷◌, ◌++◌, get_or, length, take, Option, refl, sym, ◌∙◌, subst, inl, inr, Contains}
use Rattle.std.proofs.lemmas.List.{map_more}
use Rattle.std.proofs.lemmas.List.Elements.{Contains-push_cases}
use Rattle.set_meaning.specs.declared.problems.VarId.{VarId}
use Rattle.set_meaning.specs.declared.problems.ConId.{ConId}
use Rattle.bit_layout.proofs.Rising.{nothing_in_empty}
use Rattle.diagram_arena.specs.declared.nodes.Ref.{Ref}
use Rattle.exact_steps.specs.Steps.{narrowed_in}
use Rattle.constraint_queue.specs.Queue.{QueueState, Reads, HasFlaggedReaders}
use Rattle.propagation.specs.Work.{numbered, AreStirred}

pub none_stirred : (q : QueueState) (but : Option ConId) → AreStirred q q but []
none_stirred q but = record { scopes = refl; long = refl; still = λ d h. h; readers = λ v d h. absurd (nothing_in_empty v h) }

pub more_stirred : (q0 q1 q2 : QueueState) (but : Option ConId) (kept : List (VarId × Ref)) (i : ℕ) (e : VarId × Ref) → i < length kept → AreStirred q0 q1 but (take i kept) → HasFlaggedReaders q1 q2 (get_or kept i e).0 but
    → AreStirred q0 q2 but (take (i + 1) kept)
more_stirred q0 q1 q2 but kept i e within first more = record {
  scopes = more.scopes ∙ first.scopes;
  long = more.long ∙ first.long;
  still = λ d had. (more.flags (numbered d)).1 (inl (first.still d had));
  readers = λ v d there reads other.
      let split : narrowed_in (take (i + 1) kept) ≡ narrowed_in (take i kept) ++ (get_or kept i e).0 ∷ [] = map_more (λ (x : VarId × Ref). x.0) kept i e within in
      elim (Contains-push_cases (narrowed_in (take i kept)) (get_or kept i e).0 v (subst (λ vs. Contains vs v) split there)) [
        | inl before ↦ (more.flags (numbered d)).1 (inl (first.readers v d before reads other))
        | inr is ↦ (more.flags (numbered d)).1 (inr (
          subst (λ (w : VarId). Reads q1 d w) (sym is) (subst (λ (ss : List (List VarId)). Contains (get_or ss d []) v) (sym first.scopes) reads),
          other,
        ))
      ];
}
