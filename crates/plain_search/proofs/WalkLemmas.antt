-- One step of the walk, in the lists of the code.
use Rattle.std.proofs.Common.{◌≡◌, ℕ, Bool, List, [], ◌⊎◌, length, sym, ap, ◌∙◌, subst, inl, inr}
use Rattle.std.specs.List.{All}
use Rattle.search_rules.specs.Family.{Lies, Leaves}
use Rattle.search_rules.specs.Box.{resolvent}
use Rattle.search_rules.specs.Trail.{Reason, Entry, undo}
use Rattle.search_rules.specs.Walk.{reason_box, GoesOn, Walk, pass, resolve}
use Rattle.search_rules.proofs.FamilyLemmas.{put-same}
use Rattle.plain_steps.specs.Sets.{has, family}
use Rattle.plain_steps.specs.Steps.{IsBox}
use Rattle.plain_steps.specs.Task.{Plain, problem_of}
use Rattle.plain_search.specs.State.{reason_of, entries_of, Fits}
use Rattle.plain_search.specs.Moves.{IsUndone, IsPassed}
use Rattle.plain_search.specs.declared.trail.Change.{Change}
use Rattle.plain_search.specs.declared.trail.Trail.{Trail}
use Rattle.plain_search.specs.declared.trail.Undone.{Undone}

-- the running box, resolved with the reason box of an entry
abbrev pub resolved_with : Plain → (ℕ → ℕ → Bool) → Reason ℕ → (ℕ → ℕ → Bool) → ℕ → (ℕ → Bool) → ℕ → ℕ → Bool
resolved_with p b r f v s = resolvent b (reason_box (problem_of p) r f v s) v

-- what `running_beyond` says of the next running box
abbrev pub IsBeyond : Plain → List (List ℕ) → Undone → List (List ℕ) → List (List ℕ) → Type 0
IsBeyond p sets u running next =
    (Lies (family sets u.var) (family running u.var) × (next ≡ running))
    ⊎ (Leaves (family sets u.var) (family running u.var)
    × IsBox next (length p.sets) (resolved_with p (family running) (reason_of u.cause) (family sets) u.var (has u.kept)))

pub set_before : (from to : Trail) (u : Undone) → (is : IsUndone from to u) → family to.domains.items u.var ≡ is.entry.before
set_before from to u is =
    sym (ap (family to.domains.items) is.var)
    ∙ (ap (λ (f : ℕ → ℕ → Bool). f is.entry.var) is.family_is
    ∙ put-same (family from.domains.items) is.entry.var is.entry.before)

pub same_box : (p : Plain) (from to : Trail) (u : Undone) (b : ℕ → ℕ → Bool) → (is : IsUndone from to u)
    → resolved_with p b is.entry.reason (undo (family from.domains.items) is.entry) is.entry.var (family from.domains.items is.entry.var)
    ≡ resolved_with p b (reason_of u.cause) (family to.domains.items) u.var (has u.kept)
same_box p from to u b is =
    ap (λ (r : Reason ℕ). resolved_with p b r (undo (family from.domains.items) is.entry) is.entry.var (family from.domains.items is.entry.var)) is.reason
    ∙ (ap (λ (f : ℕ → ℕ → Bool). resolved_with p b (reason_of u.cause) f is.entry.var (family from.domains.items is.entry.var)) (sym is.family_is)
    ∙ (ap (λ (v : ℕ). resolved_with p b (reason_of u.cause) (family to.domains.items) v (family from.domains.items v)) is.var
    ∙ ap (λ (s : ℕ → Bool). resolved_with p b (reason_of u.cause) (family to.domains.items) u.var s) is.kept))

pub walk_on : (p : Plain) (es : List (Entry ℕ)) (f first : ℕ → ℕ → Bool) (from to : Trail) (u : Undone) (running next : List (List ℕ))
    → Walk (problem_of p) es f first (entries_of from.changes.items) (family from.domains.items) (family running)
    → GoesOn (entries_of from.changes.items) (family running) → IsUndone from to u → IsBeyond p to.domains.items u running next
    → Walk (problem_of p) es f first (entries_of to.changes.items) (family to.domains.items) (family next)
walk_on p es f first from to u running next walk on is (inl (lies, same)) =
    subst (λ (b : List (List ℕ)). Walk (problem_of p) es f first (entries_of to.changes.items) (family to.domains.items) (family b)) (sym same)
    (subst (λ (g : ℕ → ℕ → Bool). Walk (problem_of p) es f first (entries_of to.changes.items) g (family running)) (sym is.family_is)
    (pass
    (subst (λ (xs : List (Entry ℕ)). Walk (problem_of p) es f first xs (family from.domains.items) (family running)) is.newest walk)
    (subst (λ (xs : List (Entry ℕ)). GoesOn xs (family running)) is.newest on)
    (subst (λ (v : ℕ). Lies is.entry.before (family running v)) (sym is.var)
    (subst (λ (s : ℕ → Bool). Lies s (family running u.var)) (set_before from to u is) lies))))
walk_on p es f first from to u running next walk on is (inr (leaves, box)) =
    subst (λ (b : ℕ → ℕ → Bool). Walk (problem_of p) es f first (entries_of to.changes.items) (family to.domains.items) b) (sym box.same)
    (subst (λ (b : ℕ → ℕ → Bool). Walk (problem_of p) es f first (entries_of to.changes.items) (family to.domains.items) b)
    (same_box p from to u (family running) is)
    (subst (λ (g : ℕ → ℕ → Bool). Walk (problem_of p) es f first (entries_of to.changes.items) g
    (resolved_with p (family running) is.entry.reason (undo (family from.domains.items) is.entry) is.entry.var (family from.domains.items is.entry.var)))
    (sym is.family_is)
    (resolve
    (subst (λ (xs : List (Entry ℕ)). Walk (problem_of p) es f first xs (family from.domains.items) (family running)) is.newest walk)
    (subst (λ (xs : List (Entry ℕ)). GoesOn xs (family running)) is.newest on)
    (subst (λ (v : ℕ). Leaves is.entry.before (family running v)) (sym is.var)
    (subst (λ (s : ℕ → Bool). Leaves s (family running u.var)) (set_before from to u is) leaves)))))

pub beyond_long : (p : Plain) (to : Trail) (u : Undone) (running next : List (List ℕ)) → IsBeyond p to.domains.items u running next
    → length running ≡ length p.sets → length next ≡ length p.sets
beyond_long p to u running next (inl (lies, same)) long = ap length same ∙ long
beyond_long p to u running next (inr (leaves, box)) long = box.long

-- the walk from the conflict's box `first` is at the trail `here`
pub record IsOnTheWay (p : Plain) (from : Trail) (first : List (List ℕ)) (here : Trail) (running : List (List ℕ)) : Type 0 where
  pub walk : Walk (problem_of p) (entries_of from.changes.items) (family from.domains.items) (family first)
      (entries_of here.changes.items) (family here.domains.items) (family running)
  pub sets : length here.domains.items ≡ length from.domains.items
  pub fits : All (Fits (length p.sets)) here.changes.items
  pub long : length running ≡ length p.sets

pub way_on : (p : Plain) (from : Trail) (first : List (List ℕ)) (here to : Trail) (u : Undone) (running next : List (List ℕ))
    (shown : List Change) (box sets : List (List ℕ)) → shown ≡ here.changes.items → box ≡ running → sets ≡ to.domains.items
    → IsOnTheWay p from first here running → GoesOn (entries_of shown) (family box) → IsUndone here to u
    → IsBeyond p sets u running next → length to.domains.items ≡ length here.domains.items
    → All (Fits (length here.domains.items)) to.changes.items → length from.domains.items ≡ length p.sets
    → IsOnTheWay p from first to next
way_on p from first here to u running next shown box sets shown_is box_is sets_is way on is beyond same fits long =
    let next_is = subst (λ (ds : List (List ℕ)). IsBeyond p ds u running next) sets_is beyond in
    record {
      walk = walk_on p (entries_of from.changes.items) (family from.domains.items) (family first) here to u running next way.walk
          (subst (λ (b : List (List ℕ)). GoesOn (entries_of here.changes.items) (family b)) box_is
          (subst (λ (cs : List Change). GoesOn (entries_of cs) (family box)) shown_is on))
          is next_is;
      sets = same ∙ way.sets;
      fits = subst (λ (n : ℕ). All (Fits n) to.changes.items) (way.sets ∙ long) fits;
      long = beyond_long p to u running next next_is way.long;
    }

pub passed : (p : Plain) (from : Trail) (first : List (List ℕ)) (changes : List Change) (g b : ℕ → ℕ → Bool)
    → Walk (problem_of p) (entries_of from.changes.items) (family from.domains.items) (family first) (entries_of changes) g b
    → changes ≡ [] → IsPassed p from first
passed p from first changes g b walk none = record {
  reached = g;
  last = b;
  walk = subst (λ (cs : List Change). Walk (problem_of p) (entries_of from.changes.items) (family from.domains.items) (family first)
      (entries_of cs) g b) none walk;
}
