-- The turn of a conflict, in the lists of the code.
use Rattle.std.proofs.Common.{◌≡◌, ℕ, ◌<◌, Bool, List, [], ◌∷◌, ◌++◌, length, sym, ap, ◌∙◌, subst}
use Rattle.std.specs.List.{All}
use Rattle.std.proofs.lemmas.List.Elements.{All-same, All-push}
use Rattle.search_rules.specs.Family.{put, without}
use Rattle.search_rules.specs.Trail.{Entry, Stored, ByBox, back, cut, narrowing_entry}
use Rattle.search_rules.specs.Walk.{IsConflictBox, Derives, DerivesAtRoot}
use Rattle.search_rules.specs.State.{IsLegal}
use Rattle.search_rules.specs.Measure.{measure}
use Rattle.plain_steps.specs.Sets.{family}
use Rattle.plain_steps.specs.Task.{Plain, problem_of}
use Rattle.plain_search.specs.State.{entries_of, stored_of, boxes_of, Fits, IsState}
use Rattle.plain_search.specs.Moves.{IsStopped, IsPassed, IsTakenUp, IsFurther, IsDone}
use Rattle.plain_search.specs.declared.trail.Trail.{Trail}
use Rattle.plain_search.specs.declared.walking.Derived.{Derived}
use Rattle.plain_search.proofs.ListLemmas.{boxes-push}
use Rattle.plain_search.proofs.TurnLemmas.{further}

-- the conflict's box is one of the trail and the boxes
abbrev pub IsConflict : Plain → List (List (List ℕ)) → Trail → List (List ℕ) → Type 0
IsConflict p boxes from first = IsConflictBox (problem_of p) (boxes_of boxes) (family from.domains.items) (family first)

abbrev pub derives : (p : Plain) (boxes : List (List (List ℕ))) (from : Trail) (first : List (List ℕ)) (to : Trail) (d : Derived)
    → IsConflict p boxes from first → (stopped : IsStopped p from first to d)
    → Derives (problem_of p) (boxes_of boxes) (entries_of from.changes.items) (family from.domains.items) (family d.sides.items) stopped.level d.var
derives p boxes from first to d conflict stopped = record {
  first = family first;
  conflict = conflict;
  rest = entries_of to.changes.items;
  reached = family to.domains.items;
  walk = stopped.walk;
  stops = stopped.stops;
}

pub derives_at_root : (p : Plain) (boxes : List (List (List ℕ))) (from : Trail) (first : List (List ℕ)) → IsConflict p boxes from first
    → (passed : IsPassed p from first)
    → DerivesAtRoot (problem_of p) (boxes_of boxes) (entries_of from.changes.items) (family from.domains.items) passed.last
derives_at_root p boxes from first conflict passed =
    record { first = family first; conflict = conflict; reached = passed.reached; walk = passed.walk }

-- the conflict's walk that passes the first entry shows that nothing is left
pub done : (p : Plain) (boxes : List (List (List ℕ))) (from : Trail) (first : List (List ℕ)) → IsState p boxes from
    → IsConflict p boxes from first → IsPassed p from first → IsDone p boxes
done p boxes from first state conflict passed = record {
  box = passed.last;
  root = record {
    entries = entries_of from.changes.items;
    family = family from.domains.items;
    trail = state.legal.trail;
    last = passed.last;
    derives = derives_at_root p boxes from first conflict passed;
    alike = λ a within. ((λ has. has), (λ has. has));
  };
}

-- the entries and the family after going back and narrowing by a box
abbrev pub entries_after : ℕ → List (Entry ℕ) → (ℕ → ℕ → Bool) → ℕ → (ℕ → ℕ → Bool) → List (Entry ℕ)
entries_after k es f v b = narrowing_entry (cut k es) (back k es f) v (ByBox b) ∷ cut k es

abbrev pub family_after : ℕ → List (Entry ℕ) → (ℕ → ℕ → Bool) → ℕ → (ℕ → ℕ → Bool) → ℕ → ℕ → Bool
family_after k es f v b = put (back k es f) v (without (back k es f v) (b v))

pub learned_further : (p : Plain) (boxes learned : List (List (List ℕ))) (from to after : Trail) (d : Derived)
    → IsState p boxes from → (taken : IsTakenUp to d boxes after learned) → length d.sides.items ≡ length p.sets
    → length to.domains.items ≡ length from.domains.items
    → back taken.level (entries_of to.changes.items) (family to.domains.items)
    ≡ back taken.level (entries_of from.changes.items) (family from.domains.items)
    → cut taken.level (entries_of to.changes.items) ≡ cut taken.level (entries_of from.changes.items)
    → IsLegal (problem_of p) [] (stored_of d.sides.items ∷ boxes_of boxes)
    (entries_after taken.level (entries_of from.changes.items) (family from.domains.items) d.var (family d.sides.items))
    (family_after taken.level (entries_of from.changes.items) (family from.domains.items) d.var (family d.sides.items))
    → measure (problem_of p)
    (entries_after taken.level (entries_of from.changes.items) (family from.domains.items) d.var (family d.sides.items))
    (family_after taken.level (entries_of from.changes.items) (family from.domains.items) d.var (family d.sides.items))
    < measure (problem_of p) (entries_of from.changes.items) (family from.domains.items)
    → All (Fits (length p.sets)) after.changes.items → IsFurther p from learned after
learned_further p boxes learned from to after d state taken long same back_is cut_is legal falls fits =
    further p learned from after
    (entries_after taken.level (entries_of from.changes.items) (family from.domains.items) d.var (family d.sides.items))
    (family_after taken.level (entries_of from.changes.items) (family from.domains.items) d.var (family d.sides.items))
    (taken.entries
    ∙ (ap (λ (xs : List (Entry ℕ)). narrowing_entry xs (back taken.level (entries_of to.changes.items) (family to.domains.items)) d.var (ByBox (family d.sides.items)) ∷ xs) cut_is
    ∙ ap (λ (f : ℕ → ℕ → Bool). narrowing_entry (cut taken.level (entries_of from.changes.items)) f d.var (ByBox (family d.sides.items)) ∷ cut taken.level (entries_of from.changes.items)) back_is))
    (taken.family_is ∙ ap (λ (f : ℕ → ℕ → Bool). put f d.var (without (f d.var) (family d.sides.items d.var))) back_is)
    (subst (λ (ss : List (Stored ℕ)). IsLegal (problem_of p) [] ss
    (entries_after taken.level (entries_of from.changes.items) (family from.domains.items) d.var (family d.sides.items))
    (family_after taken.level (entries_of from.changes.items) (family from.domains.items) d.var (family d.sides.items)))
    (sym (ap boxes_of taken.added ∙ boxes-push boxes d.sides.items)) legal)
    falls (taken.sets ∙ (same ∙ state.sets)) fits
    (All-same (λ (b : List (List ℕ)). length b ≡ length p.sets) learned (boxes ++ d.sides.items ∷ []) taken.added
    (All-push (λ (b : List (List ℕ)). length b ≡ length p.sets) boxes d.sides.items state.sides long))
