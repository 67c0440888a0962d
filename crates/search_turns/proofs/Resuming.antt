-- Going on after an answer.
use Rattle.std.proofs.Common.{◌≡◌, ℕ, ◌<◌, ◌≤◌, ◌^◌, Bool, true, false, List, [], ◌∷◌, ◌++◌, length, get_or, Result, sym, ap, ◌∙◌, subst, arith, inl, inr, append_assoc, length-append}
use Rattle.std.specs.Prelude.{IfOk, All}
use Rattle.std.specs.Option.{option_map_or}
use Rattle.std.proofs.lemmas.Bool.{cases_lt}
use Rattle.std.proofs.lemmas.List.{ext_get_or}
use Rattle.std.proofs.lemmas.List.FromFn.{length-map-range_with_len, get_or-map-range_with_len}
use Rattle.std.proofs.lemmas.List.Elements.{All-weaker}
use Rattle.std.proofs.lemmas.Option.{slice_get_past}
use Rattle.std.proofs.lemmas.Result.{IfOk-weaker}
use Rattle.set_meaning.specs.declared.kinds.Value.{Value}
use Rattle.set_meaning.specs.declared.kinds.Value.TheVariants as value
use Rattle.set_meaning.specs.declared.problems.BoxId.{BoxId}
use Rattle.set_meaning.specs.declared.problems.Goal.TheVariants as goals
use Rattle.set_meaning.specs.declared.problems.Problem.{Problem}
use Rattle.set_meaning.specs.Solutions.{CoversBy, told_apart_by}
use Rattle.bit_layout.specs.Order.{LayoutState}
use Rattle.diagram_arena.specs.declared.nodes.Ref.{Ref}
use Rattle.diagram_arena.specs.Table.{Table, IsLive, IsReduced}
use Rattle.diagram_arena.specs.Arena.{table}
use Rattle.node_reclaim.specs.Pool.{PoolState}
use Rattle.node_reclaim.specs.Holders.{Gains}
use Rattle.pin_lists.specs.Units.{PinnedAreLive, Moves, UnitsLeave}
use Rattle.pin_lists.proofs.Counting.{times-append}
use Rattle.pin_lists.proofs.Leaving.{units_then, pins_leave}
use Rattle.search_rules.specs.Family.{AllLie}
use Rattle.search_rules.specs.Problem.{IsSingle}
use Rattle.search_rules.specs.Trail as rules
use Rattle.search_rules.specs.State.{IsSafe}
use Rattle.exact_steps.specs.Domains.{variable, values_in, AreDomains, family}
use Rattle.exact_steps.specs.Rules.{listed}
use Rattle.problem_rules.specs.Parts.{values_of}
use Rattle.problem_rules.specs.Posed.{problem_of}
use Rattle.propagators.specs.Compiled.{CompiledState}
use Rattle.domain_trail.specs.Trail.{TrailState, held}
use Rattle.box_clauses.specs.declared.sides.Side.{Side}
use Rattle.box_clauses.specs.declared.store.StoredBox.{StoredBox}
use Rattle.box_clauses.specs.Sides.{sets_of}
use Rattle.box_clauses.specs.Boxes.{box_of, IsSide, AreSides}
use Rattle.box_clauses.specs.Stored.{stored as stored_box, stored_sets}
use Rattle.search_state.specs.Readings.{sides_at, stored_of, boxes_of, IsLegalState}
use Rattle.running_boxes.specs.Running.{AreRunning}
use Rattle.search_turns.specs.Laws.{LowerLaws, TurnLaws}
use Rattle.search_turns.specs.States.{held_by_search, IsStanding, IsLegalForSome, IsFurther}
use Rattle.search_turns.specs.Outcomes.{UnlessMemory, IsFoundFrom}
use Rattle.search_turns.specs.Answers.{IsLegalAtAnswer, IsResumed, IsFoundAfter}
use Rattle.search_turns.specs.Nodes.{IsOfSearch}
use Rattle.search_turns.specs.Work.{FindLeaves, HasStoredDomains}
use Rattle.search_turns.specs.declared.outcomes.Found.{Found}
use Rattle.search_turns.specs.declared.outcomes.Found.TheVariants as found
use Rattle.search_turns.specs.declared.outcomes.FindStop.{FindStop}
use Rattle.search_turns.proofs.Results.{unless_weaker}
use Rattle.search_turns.proofs.Further.{boxes_split, boxes_before, standing_after}
use Rattle.search_turns.proofs.Asserting.{sides_newest}

-- ---- the box of domains

pub domains_run : (l : LayoutState) (t : Table) (domains : List Ref) → AreDomains l t domains → AreRunning l t domains
domains_run l t domains are = record { long = are.long; each = λ v r at. (are.each v r at).diagram }

pub sides_live : (l : LayoutState) (t : Table) (sides : List Side) → AreSides l t sides → All (λ (s : Side). IsLive t s.set) sides
sides_live l t sides are = All-weaker (IsSide l t) (λ (s : Side). IsLive t s.set) (λ s is. is.set.live) sides are.each

pub moved_stored : (a b c : PoolState) (stored now : List StoredBox) (sides : List Side) → Gains a b (sets_of sides) → Moves b c (stored_sets stored ++ sets_of sides) (stored_sets now) → Moves a c (stored_sets stored) (stored_sets now)
moved_stored a b c stored now sides gained moved i =
    let g = gained i in
    let m = moved i in
    let e = times-append i (stored_sets stored) (sets_of sides) in
    omega (arith, g, m, e)

-- ---- single values

abbrev none : Value
none = value.Bool false

listed_long : (n : ℕ) (x : ℕ → Value) → length (listed n x) ≡ n
listed_long n x = length-map-range_with_len x 0 n

listed_at : (n : ℕ) (x : ℕ → Value) (i : ℕ) → i < n → get_or (listed n x) i none ≡ x i
listed_at n x i within = get_or-map-range_with_len x 0 n i i none within (omega arith)

listed_alike : (n : ℕ) (x y : ℕ → Value) → ((v : ℕ) → v < n → x v ≡ y v) → listed n x ≡ listed n y
listed_alike n x y same = ext_get_or none (listed n x) (listed n y) (listed_long n x ∙ sym (listed_long n y)) (λ i within.
    let long = listed_long n x in
    let below : i < n = omega (arith, long, within) in
    listed_at n x i below ∙ same i below ∙ sym (listed_at n y i below))

listed_same : (n : ℕ) (x y : ℕ → Value) → listed n x ≡ listed n y → (v : ℕ) → v < n → x v ≡ y v
listed_same n x y same v within = sym (listed_at n x v within) ∙ ap (λ xs. get_or xs v none) same ∙ listed_at n y v within

family_beyond : (l : LayoutState) (t : Table) (domains : List Ref) (v : ℕ) (x : Value) → length domains ≤ v → family l t domains v x ≡ true
family_beyond l t domains v x past = ap (λ o. option_map_or (λ (r : Ref). values_in l t (variable v) r x) o true) (slice_get_past domains v past)

later_stored : (xs ys : List (rules.Stored Value)) (g : ℕ → Value → Bool) → rules.IsStored ys g → rules.IsStored (xs ++ ys) g
later_stored [] ys g h = h
later_stored (x ∷ xs) ys g h = inr (later_stored xs ys g h)

-- ---- after the box of an answer was stored

pub left_moved : (p : Problem) (l : LayoutState) (a m : PoolState) (stored now : List StoredBox) (trail : TrailState) → m ≡ record a { counts = m.counts } → Moves a m (stored_sets stored) (stored_sets now) → PinnedAreLive a
    → IsReduced (table a.arena) → UnitsLeave (IsOfSearch p l) a m (held_by_search trail stored) (held_by_search trail now)
left_moved p l a m stored now trail only moved pinned reduced =
    pins_leave (IsOfSearch p l) a m (held_by_search trail stored) (held_by_search trail now) pinned reduced (ap (λ (s : PoolState). s.arena) only) (λ i.
    let d = moved i in
    let e = times-append i (held trail) (stored_sets stored) in
    let g = times-append i (held trail) (stored_sets now) in
    omega (arith, d, e, g))

module _ (laws : LowerLaws) (p : Problem) (turns : TurnLaws p) (l : LayoutState) (k : CompiledState) (a m : PoolState) (stored now : List StoredBox) (trail : TrailState) (id : BoxId) (satisfy : p.goal ≡ goals.Satisfy)
    (standing : IsStanding p l a k stored trail) (has : HasStoredDomains l (table a.arena) stored trail now id) (few : length now < 2 ^ 32) (only : m ≡ record a { counts = m.counts })
    (moved : Moves a m (stored_sets stored) (stored_sets now)) (pinned : PinnedAreLive a) (reduced : IsReduced (table a.arena)) where
  abbrev t : Table
  t = table a.arena

  abbrev f : ℕ → Value → Bool
  f = family l t trail.domains

  abbrev b : StoredBox
  b = stored_box has.sides 0 false

  same_table : table m.arena ≡ t
  same_table = ap (λ (s : PoolState). table s.arena) only

  same_values : (x y : ℕ → Value) → ((v : ℕ) → v < length p.kinds → x v ≡ y v) → (problem_of p).covers x y
  same_values x y same = subst (λ g. CoversBy (told_apart_by p) g (values_of p x) (values_of p y)) (sym satisfy) (ap (told_apart_by p) (listed_alike (length p.kinds) x y same))

  values_same : (x y : ℕ → Value) → (problem_of p).covers x y → (v : ℕ) → v < length p.kinds → x v ≡ y v
  values_same x y covers = listed_same (length p.kinds) x y (subst (λ g. CoversBy (told_apart_by p) g (values_of p x) (values_of p y)) satisfy covers)

  -- the box is safe once the answer is given
  safe_box : (answers : List (ℕ → Value)) (x : ℕ → Value) → IsSingle (problem_of p) f x → IsSafe (problem_of p) (x ∷ answers) (box_of l t has.sides)
  safe_box answers x single = turns.safe_of_answer answers x (box_of l t has.sides) (λ y solves within.
      same_values x y (λ v below. sym (single.only v (y v) below (subst (λ (g : ℕ → Value → Bool). g v (y v) ≡ true) has.are.values (within v)))))

  pub legal_stored : (answers : List (ℕ → Value)) (x : ℕ → Value) → IsSingle (problem_of p) f x → IsLegalState p l t (x ∷ answers) stored trail → IsLegalState p l (table m.arena) (x ∷ answers) now trail
  legal_stored answers x single state =
      subst (λ (bs : List StoredBox). IsLegalState p l (table m.arena) (x ∷ answers) bs trail) (sym has.added)
      (subst (λ u. IsLegalState p l u (x ∷ answers) (stored ++ b ∷ []) trail) (sym same_table)
      (turns.safe l t (x ∷ answers) stored trail has.sides 0 state has.are.ascending (safe_box answers x single)))

  left_stored : UnitsLeave (IsOfSearch p l) a m (held_by_search trail stored) (held_by_search trail now)
  left_stored = left_moved p l a m stored now trail only moved pinned reduced

  pub some_stored : IsLegalAtAnswer p l t stored trail → IsLegalForSome p l (table m.arena) now trail
  some_stored answered = (answered.last ∷ answered.answers, legal_stored answered.answers answered.last answered.single answered.legal)

  pub standing_stored : IsLegalAtAnswer p l t stored trail → IsStanding p l m k now trail
  standing_stored answered =
      let state = legal_stored answered.answers answered.last answered.single answered.legal in
      standing_after laws (IsOfSearch p l) p l a m k stored now trail trail standing left_stored (record { readable = state.readable; level = state.level; trail = state.legal.trail }) few standing.grounded

  pub known_stored : id.0 < length now
  known_stored = let e = ap length has.added ∙ length-append stored (b ∷ []) in let n = has.newest in omega (arith, e, n)

  box_at : box_of l t (sides_at now id.0) ≡ f
  box_at =
      ap (λ (bs : List StoredBox). box_of l t (sides_at bs id.0)) has.added
      ∙ ap (λ (ss : List Side). box_of l t ss) (sides_newest stored b id.0 has.newest) ∙ has.are.values

  pub inside_stored : AllLie (family l (table m.arena) trail.domains) (box_of l (table m.arena) (sides_at now id.0))
  inside_stored = subst (λ u. AllLie (family l u trail.domains) (box_of l u (sides_at now id.0))) (sym same_table) (subst (λ (g : ℕ → Value → Bool). AllLie f g) (sym box_at) (λ v x h. h))

  -- ---- the search went on from there

  module _ (c : PoolState) (after : List StoredBox) (new : TrailState) where
    module _ (further : IsFurther p l (table m.arena) (table c.arena) now trail after new) where
      boxes_first : boxes_of l (table c.arena) stored ≡ boxes_of l t stored
      boxes_first = boxes_before l (table m.arena) (table c.arena) stored (b ∷ []) now has.added further.boxes ∙ ap (λ u. boxes_of l u stored) same_table

      -- the stored box among the later ones
      in_store : rules.IsStored (boxes_of l (table c.arena) after) f
      in_store =
          let is : boxes_of l (table c.arena) after ≡ boxes_of l (table c.arena) further.added ++ boxes_of l (table m.arena) now =
          ap (boxes_of l (table c.arena)) further.grown ∙ boxes_split l (table c.arena) now further.added ∙ ap (λ bs. boxes_of l (table c.arena) further.added ++ bs) further.boxes in
          let whole : boxes_of l (table m.arena) now ≡ stored_of l t b ∷ boxes_of l t stored =
          ap (λ u. boxes_of l u now) same_table ∙ ap (boxes_of l t) has.added ∙ laws.boxes_added l t stored b in
          let first : rules.IsStored (boxes_of l (table m.arena) now) f = subst (λ bs. rules.IsStored bs f) (sym whole) (inl has.are.values) in
          subst (λ bs. rules.IsStored bs f) (sym is) (later_stored (boxes_of l (table c.arena) further.added) (boxes_of l (table m.arena) now) f first)

      pub resumed : IsResumed p l t (table c.arena) stored trail after new
      resumed = record {
        added = b ∷ further.added;
        grown = further.grown ∙ ap (λ bs. bs ++ further.added) has.added ∙ append_assoc stored (b ∷ []) further.added;
        boxes = boxes_first;
        legal = λ answers x single state. further.legal (x ∷ answers) (legal_stored answers x single state);
        has_box = λ x single. record {
          sides = f;
          stored = in_store;
          holds = λ y solves covers v. elim (cases_lt v (length p.kinds)) [
            | inl below ↦ subst (λ z. f v z ≡ true) (values_same x y covers v below) (single.within v)
            | inr past ↦ family_beyond l t trail.domains v (y v) (subst (λ n. n ≤ v) (sym (standing.trail_is.readable.domains.long ∙ ap length standing.compiled.kinds)) past)
          ];
        };
      }

    module _ (r : Result Found FindStop) (leaves : FindLeaves p l k m c now trail after new r) where
      pub found_after : IfOk r (IsFoundAfter p l t (table c.arena) stored trail after new)
      found_after = IfOk-weaker r (IsFoundFrom p l (table m.arena) (table c.arena) now trail after new) (IsFoundAfter p l t (table c.arena) stored trail after new) by_found leaves.found
        where
          by_found : (x : Found) → IsFoundFrom p l (table m.arena) (table c.arena) now trail after new x → IsFoundAfter p l t (table c.arena) stored trail after new x
          by_found found.Single h = h
          by_found found.Complete h = λ answers x single state. h (x ∷ answers) (legal_stored answers x single state)

      pub resumed_after : UnlessMemory r (IsResumed p l t (table c.arena) stored trail after new)
      resumed_after = unless_weaker r (IsFurther p l (table m.arena) (table c.arena) now trail after new) (IsResumed p l t (table c.arena) stored trail after new) resumed leaves.further

      pub left_after : UnitsLeave (IsOfSearch p l) a c (held_by_search trail stored) (held_by_search new after)
      left_after = units_then (IsOfSearch p l) a m c (held_by_search trail stored) (held_by_search trail now) (held_by_search new after) left_stored leaves.left
