-- The walk beyond the newest entry that matters.
use Rattle.std.proofs.Common.{◌≡◌, ◌≢◌, ℕ, ◌+◌, ◌-◌, Bool, List, [], ◌∷◌, ◌++◌, length, take, map, Some, refl, sym, ap, ◌∙◌, subst, arith}
use Rattle.std.specs.Prelude.{slice_get}
use Rattle.std.proofs.lemmas.List.{get_or-take, length-take-le, append_assoc}
use Rattle.std.proofs.lemmas.List.Elements.{Contains-append_left, Contains-append_right}
use Rattle.std.proofs.lemmas.Option.{get_or_from_slice_get, slice_get_within, slice_get-get_or}
use Rattle.set_meaning.specs.declared.kinds.Value.{Value}
use Rattle.set_meaning.specs.declared.problems.Problem.{Problem}
use Rattle.bit_layout.specs.Order.{LayoutState}
use Rattle.diagram_arena.specs.declared.nodes.Ref.{Ref}
use Rattle.diagram_arena.specs.Table.{Table}
use Rattle.node_reclaim.specs.Holders.{MeansTheSame}
use Rattle.search_rules.specs.Box.{resolvent}
use Rattle.search_rules.specs.Trail as rules
use Rattle.search_rules.specs.Walk.{Matters as MattersTo, GoesOn, Walk, reason_box}
use Rattle.exact_steps.specs.Domains.{family}
use Rattle.problem_rules.specs.Posed.{problem_of}
use Rattle.domain_trail.specs.declared.entries.Entry.{Entry}
use Rattle.domain_trail.specs.declared.entries.Reason.TheVariants as why
use Rattle.domain_trail.specs.Trail.{TrailState, newest_first, befores, held, IsUndone}
use Rattle.box_clauses.specs.declared.store.StoredBox.{StoredBox}
use Rattle.box_clauses.specs.Stored.{stored_sets}
use Rattle.search_state.specs.Readings.{boxes_of, entry_of, entries_of, reason_of, IsTrailOf}
use Rattle.running_boxes.specs.Running.{IsRunning, IsResolved}
use Rattle.running_boxes.specs.Running.{IsNewest as IsNewestOf}
use Rattle.running_boxes.proofs.Newest.{newest_from}
use Rattle.explain.specs.Scans.{Matters, IsNewest}
use Rattle.explain.specs.Ways.{IsCutFrom}
use Rattle.explain.specs.Work.{IsOnWalk}
use Rattle.explain.specs.WalkLaws.{GoingLaws, StayingLaws}
use Rattle.explain.proofs.Undoing.{one_taken}
use Rattle.explain.proofs.Passing.{IsPassing}

-- ---- the newest entry

one_newest : (s : TrailState) (e f : Entry) → IsNewestOf s e → IsNewestOf s f → e ≡ f
one_newest s e f first second = let same : e ∷ first.0 ≡ f ∷ second.0 = sym first.1 ∙ second.1 in cc

pub undone_newest : (mid new : TrailState) → (undone : IsUndone mid new) → IsNewestOf mid undone.entry
undone_newest mid new undone = (newest_first new, undone.newest)

module _ (l : LayoutState) (t : Table) (running : List Ref) (place : ℕ) (old mid : TrailState) (newest : IsNewest l t running old.entries place)
    (left : mid.entries ≡ take (place + 1) old.entries) where
  long : length mid.entries ≡ place + 1
  long =
      let within = slice_get_within old.entries place newest.entry newest.there in
      ap length left ∙ length-take-le (place + 1) old.entries (omega (arith, within))

  there : slice_get (take (place + 1) old.entries) place ≡ Some newest.entry
  there =
      let size : length (take (place + 1) old.entries) ≡ place + 1 = sym (ap length left) ∙ long in
      slice_get-get_or (take (place + 1) old.entries) place newest.entry (omega (arith, size))
      ∙ ap (λ (e : Entry). Some e) (get_or-take (place + 1) old.entries place newest.entry (omega arith) ∙ get_or_from_slice_get old.entries place newest.entry newest.entry newest.there)

  pub newest_left : IsNewestOf mid newest.entry
  newest_left =
      let last : length mid.entries - 1 ≡ place = let n = long in omega (arith, n) in
      newest_from mid newest.entry (ap (slice_get mid.entries) last ∙ ap (λ (es : List Entry). slice_get es place) left ∙ there)

  pub newest_matters : (e : Entry) → IsNewestOf mid e → Matters l t running e
  newest_matters e is = subst (Matters l t running) (one_newest mid newest.entry e newest_left is) newest.matters

-- ---- the walk at the newest entry, which matters

module _ (p : Problem) (going : GoingLaws p) (staying : StayingLaws p) (l : LayoutState) (t u : Table) (stored : List StoredBox) (old mid : TrailState) (running : List Ref)
    (begun : IsTrailOf p l t stored old) (h : IsPassing p l t stored old mid running) where
  -- it is no decision
  pub no_decision : (e : Entry) → IsNewestOf mid e → Matters l t running e → e.reason ≢ why.Decision
  no_decision e (rest, is) matters decided =
      let reads : entries_of l t stored mid.entries ≡ entry_of l t stored e ∷ map (entry_of l t stored) rest = ap (map (entry_of l t stored)) is in
      going.no_decision (boxes_of l t stored) (entry_of l t stored e) (entries_of l t stored old.entries) (map (entry_of l t stored) rest)
      (family l t old.domains) (family l t running) (family l t mid.domains) (family l t running)
      begun.trail
      (subst (λ (xs : List (rules.Entry Value)). Walk (problem_of p) (entries_of l t stored old.entries) (family l t old.domains) (family l t running) xs (family l t mid.domains) (family l t running)) reads h.walk)
      (subst (λ (xs : List (rules.Entry Value)). GoesOn xs (family l t running)) reads h.on)
      matters (ap (reason_of l t stored) decided)

  module _ (cut : IsCutFrom old mid) (held_means : MeansTheSame t u (held mid)) (boxes_mean : MeansTheSame t u (stored_sets stored)) (after : List Ref) where
    abbrev Came : List (rules.Entry Value) → (ℕ → Value → Bool) → (ℕ → Value → Bool) → Type 0
    Came = Walk (problem_of p) (entries_of l t stored old.entries) (family l t old.domains) (family l t running)

    trail_there : IsTrailOf p l u stored mid
    trail_there = staying.trail l t u stored mid held_means boxes_mean h.trail

    entries_there : entries_of l u stored mid.entries ≡ entries_of l t stored mid.entries
    entries_there = staying.entries l t u stored mid.entries (λ r is. held_means r (Contains-append_right mid.domains (befores mid.entries) r is)) boxes_mean

    family_there : family l u mid.domains ≡ family l t mid.domains
    family_there = staying.families l t u mid.domains (λ r is. held_means r (Contains-append_left mid.domains (befores mid.entries) r is))

    walk_there : Came (entries_of l u stored mid.entries) (family l u mid.domains) (family l t running)
    walk_there =
        subst (λ (xs : List (rules.Entry Value)). Came xs (family l u mid.domains) (family l t running)) (sym entries_there)
        (subst (λ (g : ℕ → Value → Bool). Came (entries_of l t stored mid.entries) g (family l t running)) (sym family_there) h.walk)

    on_there : GoesOn (entries_of l u stored mid.entries) (family l t running)
    on_there = subst (λ (xs : List (rules.Entry Value)). GoesOn xs (family l t running)) (sym entries_there) h.on

    -- there was no room
    pub stays_there : IsRunning l u (family l t running) after → IsOnWalk p l t u stored old mid (family l t running) after
    stays_there is = record {
      running_is = is.sets;
      walk = record {
        trail = trail_there;
        left = cut;
        boxes = staying.boxes l t u stored boxes_mean;
        walk = subst (Came (entries_of l u stored mid.entries) (family l u mid.domains)) (sym is.values) walk_there;
      };
      partly = h.partly;
    }

    module _ (new : TrailState) (undone : IsUndone mid new) (matters : Matters l t running undone.entry) (is : IsResolved p l t u stored mid running after) where
      entry_there : entry_of l u stored undone.entry ≡ entry_of l t stored undone.entry
      entry_there =
          let both : entry_of l u stored undone.entry ∷ entries_of l u stored new.entries ≡ entry_of l t stored undone.entry ∷ entries_of l t stored new.entries
          = sym (going.entries l u stored mid new undone) ∙ entries_there ∙ going.entries l t stored mid new undone in cc

      matters_there : MattersTo (entry_of l u stored undone.entry) (family l t running)
      matters_there = subst (λ (x : rules.Entry Value). MattersTo x (family l t running)) (sym entry_there) matters

      abbrev resolved : (ℕ → Value → Bool) → rules.Entry Value → ℕ → Value → Bool
      resolved g x = resolvent (family l t running) (reason_box (problem_of p) x.reason (rules.undo g x) x.var (g x.var)) x.var

      resolvent_there : resolved (family l u mid.domains) (entry_of l u stored undone.entry) ≡ family l u after
      resolvent_there =
          ap (λ (g : ℕ → Value → Bool). resolved g (entry_of l u stored undone.entry)) family_there
          ∙ ap (resolved (family l t mid.domains)) entry_there
          ∙ sym (is.values undone.entry (undone_newest mid new undone))

      pub comes_beyond : IsOnWalk p l t u stored old new (family l t running) after
      comes_beyond = record {
        running_is = is.sets;
        walk = record {
          trail = going.trail l u stored mid new undone trail_there;
          left = (undone.entry ∷ cut.0, cut.1 ∙ ap (λ (xs : List Entry). xs ++ cut.0) (one_taken mid new undone.entry undone refl) ∙ append_assoc new.entries (undone.entry ∷ []) cut.0);
          boxes = staying.boxes l t u stored boxes_mean;
          walk = subst (Came (entries_of l u stored new.entries) (family l u new.domains)) resolvent_there
              (going.resolved l u stored mid new (entries_of l t stored old.entries) (family l t old.domains) (family l t running) (family l t running)
              trail_there.readable undone walk_there on_there matters_there);
        };
        partly = going.further l t stored old mid new h.trail undone h.partly;
      }
