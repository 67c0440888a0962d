-- What the parts of a turn leave of the trail.
use Rattle.std.proofs.Common.{◌≡◌, ℕ, ◌<◌, Bool, not, List, [], ◌∷◌, ◌++◌, length, get_or, set, sym, ap, ◌∙◌, subst, arith}
use Rattle.std.specs.List.{All, filter}
use Rattle.std.specs.Prelude.{Option, Some, None, MatchOption}
use Rattle.search_rules.specs.Family.{without}
use Rattle.search_rules.specs.Trail.{Entry, top, back, cut}
use Rattle.search_rules.specs.State.{IsLegal}
use Rattle.search_rules.specs.Measure.{measure}
use Rattle.search_rules.proofs.TrailLemmas.{back-over, cut-over}
use Rattle.plain_steps.specs.Sets.{has, family}
use Rattle.plain_steps.specs.Task.{Plain, problem_of}
use Rattle.plain_steps.proofs.StepLemmas.{family-is, family-set, has-without}
use Rattle.plain_search.specs.State.{reason_of, entry_of, entries_of, boxes_of, Fits}
use Rattle.plain_search.specs.Moves.{IsUndone, IsFurther}
use Rattle.plain_search.specs.declared.trail.Change.{Change}
use Rattle.plain_search.specs.declared.trail.Trail.{Trail}
use Rattle.plain_search.specs.declared.trail.Undone.{Undone}
use Rattle.plain_search.proofs.ListLemmas.{entries-push}

pub undone : (from to : Trail) (u : Undone) (e : Change) → from.changes.items ≡ to.changes.items ++ e ∷ [] → e.var ≡ u.var
    → e.cause ≡ u.cause → u.kept ≡ get_or from.domains.items e.var [] → to.domains.items ≡ set from.domains.items e.var e.before
    → e.var < length from.domains.items → IsUndone from to u
undone from to u e newest var cause kept sets lt = record {
  entry = entry_of e;
  newest = ap entries_of newest ∙ entries-push to.changes.items e;
  var = var;
  reason = ap reason_of cause;
  kept = subst (λ v. family from.domains.items v ≡ has u.kept) var (family-is from.domains.items e.var lt ∙ ap has (sym kept));
  family_is = ap family sets ∙ family-set from.domains.items e.var e.before lt;
}

-- below the newest level nothing changes by taking the newest entry back
pub undone_over : (from to : Trail) (u : Undone) (k : ℕ) → IsUndone from to u → k < top (entries_of from.changes.items)
    → (cut k (entries_of to.changes.items) ≡ cut k (entries_of from.changes.items))
    × (back k (entries_of to.changes.items) (family to.domains.items) ≡ back k (entries_of from.changes.items) (family from.domains.items))
undone_over from to u k is lt =
    let below : k < is.entry.level = subst (λ (es : List (Entry ℕ)). k < top es) is.newest lt in (
      sym (ap (cut k) is.newest ∙ cut-over k is.entry (entries_of to.changes.items) below),
      ap (λ (f : ℕ → ℕ → Bool). back k (entries_of to.changes.items) f) is.family_is
          ∙ sym (ap (λ (es : List (Entry ℕ)). back k es (family from.domains.items)) is.newest
          ∙ back-over k is.entry (entries_of to.changes.items) (family from.domains.items) below),
    )

-- the same of a call that found an entry, since there is one
pub taken_over : (from to : Trail) (r : Option Undone) (k : ℕ) → MatchOption r (from.changes.items ≡ []) (IsUndone from to)
    → k < top (entries_of from.changes.items)
    → (cut k (entries_of to.changes.items) ≡ cut k (entries_of from.changes.items))
    × (back k (entries_of to.changes.items) (family to.domains.items) ≡ back k (entries_of from.changes.items) (family from.domains.items))
taken_over from to None k none lt =
    let never : k < 0 = subst (λ (es : List Change). k < top (entries_of es)) none lt in
    absurd (omega arith)
taken_over from to (Some u) k is lt = undone_over from to u k is lt

-- what a box leaves of a set
pub without_is : (f b : List (List ℕ)) (v : ℕ) (kept : List ℕ) → v < length f → v < length b
    → kept ≡ filter (λ x. not (has (get_or b v []) x)) (get_or f v []) → has kept ≡ without (family f v) (family b v)
without_is f b v kept lt below is =
    ap has is ∙ (has-without (get_or f v []) (get_or b v [])
    ∙ (ap (λ (t : ℕ → Bool). without t (has (get_or b v []))) (sym (family-is f v lt))
    ∙ ap (λ (t : ℕ → Bool). without (family f v) t) (sym (family-is b v below))))

-- the state after a move, by the rules' words for it
pub further : (p : Plain) (boxes : List (List (List ℕ))) (before after : Trail) (es : List (Entry ℕ)) (f : ℕ → ℕ → Bool)
    → entries_of after.changes.items ≡ es → family after.domains.items ≡ f
    → IsLegal (problem_of p) [] (boxes_of boxes) es f
    → measure (problem_of p) es f < measure (problem_of p) (entries_of before.changes.items) (family before.domains.items)
    → length after.domains.items ≡ length p.sets → All (Fits (length p.sets)) after.changes.items
    → All (λ b. length b ≡ length p.sets) boxes → IsFurther p before boxes after
further p boxes before after es f entries family_is legal falls sets fits sides = record {
  state = record {
    sets = sets;
    fits = fits;
    sides = sides;
    legal = subst (λ (xs : List (Entry ℕ)). IsLegal (problem_of p) [] (boxes_of boxes) xs (family after.domains.items)) (sym entries)
        (subst (λ (g : ℕ → ℕ → Bool). IsLegal (problem_of p) [] (boxes_of boxes) es g) (sym family_is) legal);
  };
  falls = subst (λ (xs : List (Entry ℕ)). measure (problem_of p) xs (family after.domains.items)
      < measure (problem_of p) (entries_of before.changes.items) (family before.domains.items)) (sym entries)
      (subst (λ (g : ℕ → ℕ → Bool). measure (problem_of p) es g
      < measure (problem_of p) (entries_of before.changes.items) (family before.domains.items)) (sym family_is) falls);
}
