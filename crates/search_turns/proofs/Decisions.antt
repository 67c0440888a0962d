-- A decision, and what it leaves where everything was quiet.
use Rattle.std.proofs.Common.{◌≡◌, ℕ, ◌+◌, ◌<◌, Bool, List, length, Some, None, Ok, Err, refl, sym, ap, ◌∙◌, subst}
use Rattle.std.proofs.lemmas.Bool.{both_ways}
use Rattle.std.proofs.lemmas.List.Elements.{Contains-append_left, Contains-append_right}
use Rattle.set_meaning.specs.declared.kinds.Value.{Value}
use Rattle.set_meaning.specs.declared.problems.VarId.{VarId}
use Rattle.set_meaning.specs.declared.problems.Problem.{Problem}
use Rattle.bit_layout.specs.Order.{LayoutState}
use Rattle.diagram_arena.specs.declared.nodes.Ref.{Ref}
use Rattle.diagram_arena.specs.Table.{Table}
use Rattle.diagram_arena.specs.Arena.{ArenaState, table, Grows}
use Rattle.node_reclaim.specs.Pool.{PoolState}
use Rattle.node_reclaim.specs.Growth.{IsFull, NewAre}
use Rattle.node_reclaim.specs.Holders.{AreHeld, MeansTheSame}
use Rattle.pin_lists.specs.Units.{UnitsLeave}
use Rattle.search_rules.specs.Family.{put}
use Rattle.search_rules.specs.Problem.{IsLeft}
use Rattle.search_rules.specs.Box.{IsBoxSame}
use Rattle.search_rules.specs.Trail as rules
use Rattle.search_rules.specs.Trail.{IsPart}
use Rattle.search_rules.specs.Measure.{measure}
use Rattle.exact_steps.specs.Domains.{values_in, family}
use Rattle.problem_rules.specs.Branching.{IsDecision}
use Rattle.problem_rules.specs.Posed.{problem_of}
use Rattle.propagators.specs.Compiled.{CompiledState, pinned_by}
use Rattle.domain_trail.specs.declared.entries.Reason.TheVariants as why
use Rattle.domain_trail.specs.Trail.{TrailState, narrowed, befores, held}
use Rattle.box_clauses.specs.declared.store.StoredBox.{StoredBox}
use Rattle.box_clauses.specs.Stored.{stored_sets}
use Rattle.search_state.specs.Readings.{boxes_of, entries_of, IsTrailOf, IsLegalState}
use Rattle.search_state.specs.Turns.{measure_of, CanNarrow}
use Rattle.running_boxes.specs.Nodes.{IsOfVariable}
use Rattle.branching.specs.Decisions.{HaveOneValueBelow, IsDecided, IsPartOfDecision}
use Rattle.propagation.specs.Quiet.{IsQuietAt, AreAllQuiet}
use Rattle.search_turns.specs.Laws.{LowerLaws, TurnLaws}
use Rattle.search_turns.specs.States.{held_by_search, HoldWithoutVariables, IsStanding, IsLegalForSome, IsFurther}
use Rattle.search_turns.specs.Outcomes.{IsSingleState}
use Rattle.search_turns.specs.Nodes.{IsOfSearch}
use Rattle.search_turns.specs.Work.{IsReadyToDecide, IsOpened, IsDecisionTaken, TurnLeaves}
use Rattle.search_turns.specs.declared.outcomes.Turn.TheVariants as turn
use Rattle.search_turns.specs.declared.outcomes.Found.TheVariants as found
use Rattle.search_turns.specs.declared.outcomes.FindStop.TheVariants as stop
use Rattle.search_turns.proofs.Pins.{only_first, only_last, with_boxes_alone}
use Rattle.search_turns.proofs.Further.{further_trail, standing_after}
use Rattle.search_turns.proofs.Turns.{of_search}
use Rattle.search_turns.proofs.Units.{Keeps}

-- ---- the unit

pub news_of_decision : (l : LayoutState) (t u : Table) (domains : List Ref) → NewAre t u (IsPartOfDecision l t domains) → NewAre t u (IsOfVariable l)
news_of_decision l t u domains parts i fresh live =
    let is = parts i fresh live in
    record { variable = is.variable; known = is.known; values = is.values; part = record { set = is.set; words = is.words; part = is.part } }

module _ (laws : LowerLaws) (l : LayoutState) (a b : PoolState) (trail : TrailState) (ready : IsReadyToDecide l a trail) (keeps : Keeps a b) where
  held_domains : AreHeld a trail.domains
  held_domains = only_first a trail.domains (befores trail.entries) ready.pinned

  family_same : family l (table b.arena) trail.domains ≡ family l (table a.arena) trail.domains
  family_same = laws.family_stays l (table a.arena) (table b.arena) trail.domains (keeps trail.domains held_domains)

  pub none_open : HaveOneValueBelow (length l.kinds) (family l (table a.arena) trail.domains) → IsDecisionTaken l (table b.arena) trail trail None
  none_open one = (refl, subst (HaveOneValueBelow (length l.kinds)) (sym family_same) one)

  pub opened : (d : PoolState) (v : VarId) (to : Ref) (new : TrailState) → d.arena ≡ b.arena → IsDecided l (table a.arena) (table b.arena) trail.domains 0 v to
      → new ≡ narrowed (record trail { level = trail.level + 1 }) v to why.Decision → IsDecisionTaken l (table d.arena) trail new (Some v)
  opened d v to new same is path = subst (λ (x : ArenaState). IsOpened l (table x) trail new v) (sym same) (record {
    to = to;
    is = path;
    known = is.known;
    domain = is.domain;
    part = subst (λ (f : ℕ → Value → Bool). IsPart (values_in l (table b.arena) v to) (f v.0)) (sym family_same) is.part;
    decision = subst (λ (f : ℕ → Value → Bool). IsDecision l.kinds f v.0 (values_in l (table b.arena) v to)) (sym family_same) is.decision;
  })

  pub within_domains : (v : VarId) → v.0 < length l.kinds → v.0 < length trail.domains
  within_domains v within = subst (λ n. v.0 < n) (sym ready.domains_are.long) within

  pub ready_still : ((rs : List Ref) → AreHeld a rs → AreHeld b rs) → (now : TrailState) → now ≡ trail → IsReadyToDecide l b now
  ready_still still now same = subst (IsReadyToDecide l b) (sym same) (record {
    domains_are = laws.domains_stay l (table a.arena) (table b.arena) trail.domains (keeps trail.domains held_domains) ready.domains_are;
    pinned = still (held trail) ready.pinned;
  })

pub ready_to_decide : (p : Problem) (l : LayoutState) (a : PoolState) (k : CompiledState) (stored : List StoredBox) (trail : TrailState) → IsStanding p l a k stored trail → IsReadyToDecide l a trail
ready_to_decide p l a k stored trail standing = record {
  domains_are = standing.trail_is.readable.domains;
  pinned = only_first a (held trail) (stored_sets stored) (only_last a (pinned_by k) (held_by_search trail stored) standing.pinned);
}

-- ---- where everything is quiet

grows_itself : (t : Table) → Grows t t
grows_itself t = record { kept = λ i n h. h; live = λ r h. h; depths = λ r h. refl; words = λ r h w. refl }

module _ (laws : LowerLaws) (p : Problem) (turns : TurnLaws p) (l : LayoutState) (k : CompiledState) (a b : PoolState) (stored : List StoredBox) (trail new : TrailState) (standing : IsStanding p l a k stored trail)
    (left : UnitsLeave (IsOfVariable l) a b (held trail) (held new)) (keeps : Keeps a b) where
  abbrev t : Table
  t = table a.arena

  abbrev u : Table
  u = table b.arena

  of_trail : MeansTheSame t u (held trail)
  of_trail = keeps (held trail) (only_first a (held trail) (stored_sets stored) (only_last a (pinned_by k) (held_by_search trail stored) standing.pinned))

  of_boxes : MeansTheSame t u (stored_sets stored)
  of_boxes = keeps (stored_sets stored) (only_last a (held trail) (stored_sets stored) (only_last a (pinned_by k) (held_by_search trail stored) standing.pinned))

  family_at : family l u trail.domains ≡ family l t trail.domains
  family_at = laws.family_stays l t u trail.domains (λ r h. of_trail r (Contains-append_left trail.domains (befores trail.entries) r h))

  boxes_at : boxes_of l u stored ≡ boxes_of l t stored
  boxes_at = laws.boxes_stay l t u stored of_boxes

  entries_at : entries_of l u stored trail.entries ≡ entries_of l t stored trail.entries
  entries_at = laws.entries_stay l t u stored trail.entries (λ r h. of_trail r (Contains-append_right trail.domains (befores trail.entries) r h)) of_boxes

  all : UnitsLeave (IsOfSearch p l) a b (held_by_search trail stored) (held_by_search new stored)
  all = of_search p l a b (held_by_search trail stored) (held_by_search new stored) (with_boxes_alone (IsOfVariable l) a b (held trail) (held new) (stored_sets stored) left)

  same_further : new ≡ trail → IsFurther p l t u stored trail stored new
  same_further same = further_trail p l t u stored trail new boxes_at
      (λ answers state. subst (IsLegalState p l u answers stored) (sym same) (laws.state_stays p l t u answers stored trail of_trail of_boxes state))

  -- a refusal
  pub full_branch : new ≡ trail → IsFull b → TurnLeaves p l k a b stored trail stored new (Err stop.Full)
  full_branch same full = record { turned = tt; further = same_further same; standing = tt; left = all; full = λ e. full }

  pub memory_branch : TurnLeaves p l k a b stored trail stored new (Err stop.Memory)
  memory_branch = record { turned = tt; further = tt; standing = tt; left = all; full = λ e. absurd (cc) }

  module _ (quiet : AreAllQuiet p l t stored trail.domains) where
    -- constraints without variables hold
    pub quiet_grounded : HoldWithoutVariables p
    quiet_grounded c within none x =
        let at : IsQuietAt p (family l t trail.domains) c = quiet.constraints c within in
        (problem_of p).reads c at.values x (λ v scoped. absurd (both_ways ((problem_of p).scope c v) (none v) scoped)) at.holds

    quiet_at : (g : ℕ → Value → Bool) (bs : List (rules.Stored Value)) → g ≡ family l t trail.domains → bs ≡ boxes_of l t stored
        → ((c : ℕ) → c < length p.constraints → IsQuietAt p g c) × ((x : ℕ → Value → Bool) → rules.IsStored bs x → IsBoxSame x g)
    quiet_at g bs same alike = (
      λ c within. subst (λ (f : ℕ → Value → Bool). IsQuietAt p f c) (sym same) (quiet.constraints c within),
      λ x in_store. subst (λ (f : ℕ → Value → Bool). IsBoxSame x f) (sym same) (quiet.boxes x (subst (λ ys. rules.IsStored ys x) alike in_store)),
    )

    pub single_branch : IsDecisionTaken l u trail new None → TurnLeaves p l k a b stored trail stored new (Ok (turn.Ended found.Single))
    single_branch none =
        let same = none.0 in
        let here = quiet_at (family l u trail.domains) (boxes_of l u stored) family_at boxes_at in
        record {
          turned = subst (IsSingleState p l u stored) (sym same) (record { single = none.1; quiet = record { constraints = here.0; boxes = here.1 } });
          further = same_further same;
          standing = standing_after laws (IsOfSearch p l) p l a b k stored stored trail new standing all
              (subst (IsTrailOf p l u stored) (sym same) (laws.trail_stays p l t u stored trail of_trail of_boxes standing.trail_is)) standing.few (λ h. quiet_grounded);
          left = all;
          full = λ e. absurd (cc);
        }

    module _ (v : VarId) (is : IsOpened l u trail new v) where
      measure_at : measure_of p l u stored trail ≡ measure_of p l t stored trail
      measure_at =
          ap (λ (es : List (rules.Entry Value)). measure (problem_of p) es (family l u trail.domains)) entries_at
          ∙ ap (λ (f : ℕ → Value → Bool). measure (problem_of p) (entries_of l t stored trail.entries) f) family_at

      opened_now : (answers : List (ℕ → Value)) → IsLegalState p l t answers stored trail → IsLegalState p l u answers stored new × (measure_of p l u stored new < measure_of p l t stored trail)
      opened_now answers state =
          let here = quiet_at (family l u trail.domains) (boxes_of l u stored) family_at boxes_at in
          let can : CanNarrow l u trail v is.to = record { known = is.known; domain = is.domain; part = is.part } in
          let still : rules.IsQuiet (problem_of p) (boxes_of l u stored) (family l u trail.domains) =
          record { constraints = λ c within. (here.0 c within).stays; learned = λ x h. here.1 x (turns.learned_are_stored l u stored x h) } in
          let rule : IsDecision p.kinds (family l u trail.domains) v.0 (values_in l u v is.to) = subst (λ kinds. IsDecision kinds (family l u trail.domains) v.0 (values_in l u v is.to)) standing.compiled.kinds is.decision in
          let made = turns.decided l u answers stored trail v is.to standing.compiled.kinds (laws.state_stays p l t u answers stored trail of_trail of_boxes state) can rule still in
          subst (λ (s : TrailState). IsLegalState p l u answers stored s × (measure_of p l u stored s < measure_of p l t stored trail)) (sym is.is)
          (made.0, subst (λ n. measure_of p l u stored (narrowed (record trail { level = trail.level + 1 }) v is.to why.Decision) < n) measure_at made.1)

      family_new : family l u new.domains ≡ put (family l u trail.domains) v.0 (values_in l u v is.to)
      family_new =
          let readable = laws.readable_stays l t u stored trail of_trail of_boxes standing.trail_is.readable in
          let within : v.0 < length trail.domains = subst (λ n. v.0 < n) (sym readable.domains.long) is.known in
          ap (λ (s : TrailState). family l u s.domains) is.is ∙ laws.family_put l u u trail.domains v is.to (grows_itself u) readable.domains within

      pub opened_branch : IsLegalForSome p l t stored trail → TurnLeaves p l k a b stored trail stored new (Ok (turn.Narrowed v))
      opened_branch some =
          let here = quiet_at (family l u trail.domains) (boxes_of l u stored) family_at boxes_at in
          let state = (opened_now some.0 some.1).0 in
          record {
            turned = record {
              falls = (opened_now some.0 some.1).1;
              settled = λ c within apart. subst (λ (g : ℕ → Value → Bool). IsLeft (problem_of p) c g) (sym family_new)
                  (turns.left_outside c (family l u trail.domains) v.0 (values_in l u v is.to) apart (here.0 c within).stays);
              grounded = quiet_grounded;
            };
            further = further_trail p l t u stored trail new boxes_at (λ answers h. (opened_now answers h).0);
            standing = standing_after laws (IsOfSearch p l) p l a b k stored stored trail new standing all (record { readable = state.readable; level = state.level; trail = state.legal.trail }) standing.few (λ h. quiet_grounded);
            left = all;
            full = λ e. absurd (cc);
          }
