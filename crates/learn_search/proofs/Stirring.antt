-- The queue as it is made of the compiled scopes, and as the readers of narrowed variables are flagged.
use Rattle.std.proofs.Common.{◌≡◌, ◌≢◌, ℕ, ◌+◌, ◌<◌, ◌≤◌, List, [], ◌∷◌, ◌++◌, length, get_or, take, Some, refl, sym, ap, ◌∙◌, subst, inl, inr, Contains}
use Rattle.std.specs.Prelude.{slice_get}
use Rattle.std.specs.List.{All}
use Rattle.std.proofs.lemmas.List.{take_more, take_all, map_more}
use Rattle.std.proofs.lemmas.List.Elements.{Contains-push_cases}
use Rattle.std.proofs.lemmas.Option.{slice_get_within, get_or_from_slice_get}
use Rattle.set_meaning.specs.declared.problems.VarId.{VarId}
use Rattle.set_meaning.specs.declared.problems.ConId.{ConId}
use Rattle.set_meaning.specs.declared.problems.Problem.{Problem}
use Rattle.set_meaning.specs.Relations.{IsScope}
use Rattle.bit_layout.specs.Order.{LayoutState}
use Rattle.bit_layout.proofs.Rising.{nothing_in_empty}
use Rattle.diagram_arena.specs.declared.nodes.Ref.{Ref}
use Rattle.diagram_arena.specs.Table.{Table}
use Rattle.exact_steps.specs.Steps.{narrowed_in}
use Rattle.propagators.specs.Compiled.{CompiledState, IsCompiled}
use Rattle.constraint_queue.specs.Queue.{QueueState, Reads, HasFlaggedReaders}
use Rattle.learn_search.specs.Way.{AreStirred}
use Rattle.learn_search.proofs.Taking.{there, zip_lengths}

-- ---- the queue is made

pub scope_more : (scopes : List (List VarId)) (i : ℕ) (scope : List VarId) (front : List (List VarId)) → slice_get scopes i ≡ Some scope → front ≡ take i scopes → front ++ scope ∷ [] ≡ take (i + 1) scopes
scope_more scopes i scope front at is =
    ap (λ (ss : List (List VarId)). ss ++ scope ∷ []) is
    ∙ ap (λ (s : List VarId). take i scopes ++ s ∷ []) (sym (get_or_from_slice_get scopes i scope [] at))
    ∙ sym (take_more scopes i [] (slice_get_within scopes i scope at))

-- there are as many scopes as constraints
pub scopes_count : (l : LayoutState) (p : Problem) (t : Table) (k : CompiledState) → IsCompiled l p t k → length k.scopes ≡ length p.constraints
scopes_count l p t k is = sym (zip_lengths IsScope p.constraints k.scopes is.scopes)

-- the scopes have variables of the problem
pub scopes_known : (l : LayoutState) (p : Problem) (t : Table) (k : CompiledState) → IsCompiled l p t k → length k.scopes ≡ length p.constraints → All (All (λ (v : VarId). v.0 < length p.kinds)) k.scopes
scopes_known l p t k is long i d within =
    let e = there l p t k i is (subst (λ n. i < n) long within) in
    subst (All (λ (v : VarId). v.0 < length p.kinds)) (sym (get_or_from_slice_get k.scopes i e.scope d e.scope_at))
    (subst (λ kinds. All (λ (v : VarId). v.0 < length kinds) e.scope) is.kinds e.entry_is.known)

-- all scopes are there at the end
pub scopes_all : (p : Problem) (k : CompiledState) (n : ℕ) (items : List (List VarId)) → length k.scopes ≡ length p.constraints → length p.constraints ≤ n → items ≡ take n k.scopes → items ≡ k.scopes
scopes_all p k n items count past is = is ∙ take_all n k.scopes (subst (λ m. m ≤ n) (sym count) past)

-- ---- readers are flagged

pub none_stirred : (q : QueueState) (c : ℕ) → AreStirred q q c []
none_stirred q c = record { scopes = refl; long = refl; still = λ d h. h; readers = λ v d h. absurd (nothing_in_empty v h) }

abbrev number : ℕ → ConId
number n = record { 0 = n }

other_named : (c : ConId) (d : ℕ) → d ≢ c.0 → Some c ≢ Some (number d)
other_named c d other e = other (sym (let is : c ≡ number d = cc in ap (λ (x : ConId). x.0) is))

pub more_stirred : (q0 q1 q2 : QueueState) (c : ConId) (kept : List (VarId × Ref)) (i : ℕ) (e : VarId × Ref) → i < length kept → AreStirred q0 q1 c.0 (take i kept) → HasFlaggedReaders q1 q2 (get_or kept i e).0 (Some c)
    → AreStirred q0 q2 c.0 (take (i + 1) kept)
more_stirred q0 q1 q2 c kept i e within first more = record {
  scopes = more.scopes ∙ first.scopes;
  long = more.long ∙ first.long;
  still = λ d had. (more.flags (number d)).1 (inl (first.still d had));
  readers = λ v d there reads other.
      let split : narrowed_in (take (i + 1) kept) ≡ narrowed_in (take i kept) ++ (get_or kept i e).0 ∷ [] = map_more (λ (x : VarId × Ref). x.0) kept i e within in
      elim (Contains-push_cases (narrowed_in (take i kept)) (get_or kept i e).0 v (subst (λ vs. Contains vs v) split there)) [
        | inl before ↦ (more.flags (number d)).1 (inl (first.readers v d before reads other))
        | inr is ↦ (more.flags (number d)).1 (inr (
          subst (λ (w : VarId). Reads q1 d w) (sym is) (subst (λ (ss : List (List VarId)). Contains (get_or ss d []) v) (sym first.scopes) reads),
          other_named c d other,
        ))
      ];
}
