-- The newest entry of a trail: what is known of it, and what is pinned for it.
use Rattle.std.proofs.Common.{◌≡◌, ℕ, ◌+◌, ◌-◌, ◌<◌, ◌&&◌, Bool, true, false, cond, List, [], ◌∷◌, ◌++◌, length, map, reverse, get_or, Option, None, Some, refl, sym, ap, ◌∙◌, subst, inl, inr, arith, Contains, eq-eqb}
use Rattle.std.specs.Prelude.{slice_get, IsSomeAnd}
use Rattle.std.specs.List.{All, list_any}
use Rattle.std.specs.Option.{option_map_or}
use Rattle.std.proofs.lemmas.List.{length-append, reverse-reverse, reverse-append, get_or_push}
use Rattle.std.proofs.lemmas.List.Elements.{All-contains, Contains-append_left, Contains-append_right, Contains-get_or}
use Rattle.std.proofs.lemmas.Option.{slice_get_cases, get_or_from_slice_get}
use Rattle.set_meaning.specs.declared.kinds.Kind.{Kind}
use Rattle.set_meaning.specs.declared.kinds.Value.{Value}
use Rattle.set_meaning.specs.declared.problems.VarId.{VarId}
use Rattle.set_meaning.specs.declared.problems.ConId.{ConId}
use Rattle.set_meaning.specs.declared.problems.BoxId.{BoxId}
use Rattle.set_meaning.specs.declared.problems.Problem.{Problem}
use Rattle.set_meaning.specs.Kinds.{initial_values}
use Rattle.bit_layout.specs.Order.{LayoutState}
use Rattle.bit_layout.proofs.Rising.{nothing_in_empty, in_cons, in_head, in_tail}
use Rattle.diagram_arena.specs.declared.nodes.Ref.{Ref}
use Rattle.diagram_arena.specs.Table.{Table, has}
use Rattle.node_reclaim.specs.Pool.{PoolState, IsPinned}
use Rattle.node_reclaim.specs.Holders.{AreHeld}
use Rattle.pin_lists.proofs.Counting.{held_at}
use Rattle.search_rules.specs.Trail as rules
use Rattle.search_rules.specs.Box.{IsBoxNarrowed}
use Rattle.exact_steps.specs.Domains.{same_value, word_of_value, values_in, family}
use Rattle.problem_rules.specs.Parts.{initial_set}
use Rattle.problem_rules.specs.Posed.{problem_of}
use Rattle.propagators.specs.Compiled.{CompiledState, pinned_by}
use Rattle.domain_trail.specs.declared.entries.Entry.{Entry}
use Rattle.domain_trail.specs.declared.entries.Reason.TheVariants as why
use Rattle.domain_trail.specs.Trail.{TrailState, befores, held}
use Rattle.box_clauses.specs.declared.sides.Side.{Side}
use Rattle.box_clauses.specs.declared.store.StoredBox.{StoredBox}
use Rattle.box_clauses.specs.Sides.{sets_of}
use Rattle.box_clauses.specs.Boxes.{box_of, AreSides}
use Rattle.box_clauses.specs.Stored.{box_at, stored_sets}
use Rattle.search_state.specs.Readings.{sides_at, reason_of, entry_of, boxes_of, IsKnown, IsEntry, IsTrailOf}
use Rattle.running_boxes.specs.Running.{IsNewest}
use Rattle.running_boxes.specs.Work.{NoneIsOf, IsReady}
use Rattle.running_boxes.proofs.Sides.{box_beside}

-- ---- the entry

pub newest_from : (s : TrailState) (e : Entry) → slice_get s.entries (length s.entries - 1) ≡ Some e → IsNewest s e
newest_from s e at = last (reverse s.entries) refl
  where
    last : (back : List Entry) → reverse s.entries ≡ back → (rest : List Entry) × (reverse s.entries ≡ e ∷ rest)
    last [] is =
        let none : s.entries ≡ [] = sym (reverse-reverse s.entries) ∙ ap reverse is in
        let clash : None ≡ Some e = sym (ap (λ (es : List Entry). slice_get es (length es - 1)) none) ∙ at in absurd (cc)
    last (x ∷ back) is =
        let whole : s.entries ≡ reverse back ++ x ∷ [] = sym (reverse-reverse s.entries) ∙ ap reverse is ∙ reverse-append (x ∷ []) back in
        let long : length s.entries ≡ length (reverse back) + 1 = ap length whole ∙ length-append (reverse back) (x ∷ []) in
        let place : length (reverse back) ≡ length s.entries - 1 = omega (arith, long) in
        let there : get_or s.entries (length s.entries - 1) e ≡ x = ap (λ xs. get_or xs (length s.entries - 1) e) whole ∙ get_or_push (reverse back) x e (length s.entries - 1) place in
        let value : get_or s.entries (length s.entries - 1) e ≡ e = get_or_from_slice_get s.entries (length s.entries - 1) e e at in
        (back, is ∙ ap (λ y. y ∷ back) (sym there ∙ value))

pub newest_listed : (s : TrailState) (e : Entry) → IsNewest s e → Contains s.entries e
newest_listed s e newest =
    let whole : s.entries ≡ reverse newest.0 ++ e ∷ [] = sym (reverse-reverse s.entries) ∙ ap reverse newest.1 ∙ reverse-append (e ∷ []) newest.0 in
    subst (λ es. Contains es e) (sym whole) (Contains-append_right (reverse newest.0) (e ∷ []) e (in_head e []))

-- ---- boxes in store

pub stored_at : (stored : List StoredBox) (b : ℕ) → b < length stored → (x : StoredBox) × Contains stored x × (slice_get stored b ≡ Some x)
stored_at stored b within = elim (slice_get_cases stored b).1 [
  | inl is ↦ (is.0, subst (Contains stored) is.3 (Contains-get_or stored b is.0 within), is.2)
  | inr past ↦ absurd (omega (arith, within, past.0))
]

pub sides_in_store : (l : LayoutState) (t : Table) (stored : List StoredBox) (b : ℕ) → All (λ (x : StoredBox). AreSides l t x.sides) stored → b < length stored → AreSides l t (sides_at stored b)
sides_in_store l t stored b each within =
    let r = stored_at stored b within in
    subst (AreSides l t) (sym (ap (λ (o : Option StoredBox). option_map_or (λ (x : StoredBox). x.sides) o []) r.2)) (All-contains (λ (x : StoredBox). AreSides l t x.sides) stored r.0 each r.1)

-- what is read of a box in store
pub sides_read : (stored : List StoredBox) (b : ℕ) (sides : List Side) → IsSomeAnd (box_at stored b) (λ (x : StoredBox). x.sides ≡ sides) → sides_at stored b ≡ sides
sides_read stored b sides h = read (box_at stored b) h
  where
    read : (o : Option StoredBox) → IsSomeAnd o (λ (x : StoredBox). x.sides ≡ sides) → option_map_or (λ (x : StoredBox). x.sides) o [] ≡ sides
    read None h = absurd h
    read (Some x) h = h

-- a value of a set is an initial value
initial_value : (l : LayoutState) (t : Table) (v : VarId) (r : Ref) (x : Value) → values_in l t v r x ≡ true → initial_set l.kinds v.0 x ≡ true
initial_value l t v r x h = at (slice_get l.kinds v.0) (has t r (word_of_value l v x)) h
  where
    at : (o : Option Kind) (b : Bool) → (option_map_or (λ (k : Kind). list_any (same_value x) (initial_values k)) o false && b) ≡ true → option_map_or (λ (k : Kind). list_any (same_value x) (initial_values k)) o true ≡ true
    at None b h = refl
    at (Some k) b h = first (list_any (same_value x) (initial_values k)) b h
      where
        first : (a b : Bool) → (a && b) ≡ true → a ≡ true
        first true b h = refl
        first false b h = h

-- ---- why it was made

module _ (p : Problem) (l : LayoutState) (t : Table) (stored : List StoredBox) (s : TrailState) (e : Entry) (trail : IsTrailOf p l t stored s) (newest : IsNewest s e) where
  pub newest_entry : IsEntry l t stored e
  newest_entry = All-contains (IsEntry l t stored) s.entries e trail.readable.entries (newest_listed s e newest)

  pub newest_reason : rules.IsReason (problem_of p) (boxes_of l t stored) (reason_of l t stored e.reason) (rules.undo (family l t s.domains) (entry_of l t stored e)) e.var.0 (family l t s.domains e.var.0)
  newest_reason =
      let reasons : rules.HaveReasons (problem_of p) (boxes_of l t stored) (map (entry_of l t stored) (e ∷ newest.0)) (family l t s.domains) =
      subst (λ es. rules.HaveReasons (problem_of p) (boxes_of l t stored) (map (entry_of l t stored) es) (family l t s.domains)) newest.1 trail.trail.reasons in
      reasons.0.made

  -- ---- made by a constraint

  pub scoped_by : (c : ConId) → e.reason ≡ why.Constraint c → (problem_of p).scope c.0 e.var.0 ≡ true
  scoped_by c by =
      let made : rules.IsReason (problem_of p) (boxes_of l t stored) (rules.ByConstraint c.0) (rules.undo (family l t s.domains) (entry_of l t stored e)) e.var.0 (family l t s.domains e.var.0)
      = subst (λ r. rules.IsReason (problem_of p) (boxes_of l t stored) (reason_of l t stored r) (rules.undo (family l t s.domains) (entry_of l t stored e)) e.var.0 (family l t s.domains e.var.0)) by newest_reason in
      made.1.scoped

  pub known_constraint : (c : ConId) → e.reason ≡ why.Constraint c → c.0 < length p.constraints
  known_constraint c by =
      let made : rules.IsReason (problem_of p) (boxes_of l t stored) (rules.ByConstraint c.0) (rules.undo (family l t s.domains) (entry_of l t stored e)) e.var.0 (family l t s.domains e.var.0)
      = subst (λ r. rules.IsReason (problem_of p) (boxes_of l t stored) (reason_of l t stored r) (rules.undo (family l t s.domains) (entry_of l t stored e)) e.var.0 (family l t s.domains e.var.0)) by newest_reason in
      made.0

  -- ---- made by a box

  module _ (b : BoxId) (by : e.reason ≡ why.Box b) where
    pub known_box : b.0 < length stored
    known_box = subst (IsKnown stored) by newest_entry.reason

    pub stored_sides : AreSides l t (sides_at stored b.0)
    stored_sides = sides_in_store l t stored b.0 trail.readable.boxes known_box

    narrowed_by : IsBoxNarrowed (box_of l t (sides_at stored b.0)) (rules.undo (family l t s.domains) (entry_of l t stored e)) e.var.0 (family l t s.domains e.var.0)
    narrowed_by =
        let made : rules.IsReason (problem_of p) (boxes_of l t stored) (rules.ByBox (box_of l t (sides_at stored b.0))) (rules.undo (family l t s.domains) (entry_of l t stored e)) e.var.0 (family l t s.domains e.var.0)
        = subst (λ r. rules.IsReason (problem_of p) (boxes_of l t stored) (reason_of l t stored r) (rules.undo (family l t s.domains) (entry_of l t stored e)) e.var.0 (family l t s.domains e.var.0)) by newest_reason in
        made.1

    -- the box does not have all initial values of the narrowed variable
    pub narrowed_side : NoneIsOf e.var.0 (sides_at stored b.0) → ⊥
    narrowed_side none =
        let out = narrowed_by.outside in
        let before : values_in l t e.var e.before out.0 ≡ true = sym (ap (λ q. cond q (values_in l t e.var e.before) (family l t s.domains e.var.0) out.0) (eq-eqb e.var.0 e.var.0 refl)) ∙ out.1 in
        let initial : initial_set l.kinds e.var.0 out.0 ≡ true = initial_value l t e.var e.before out.0 before in
        let not_there : initial_set l.kinds e.var.0 out.0 ≡ false = sym (ap (λ (g : Value → Bool). g out.0) (box_beside l t (sides_at stored b.0) stored_sides e.var.0 none)) ∙ out.2 in
        let clash : true ≡ false = sym initial ∙ not_there in cc

-- ---- what is pinned

pub held_pinned : (s : PoolState) (rs : List Ref) (r : Ref) → AreHeld s rs → Contains rs r → IsPinned s r
held_pinned s rs r held h = subst (IsPinned s) h.2 (held_at s rs h.0 r h.1 held)

pub in_befores : (es : List Entry) (e : Entry) → Contains es e → Contains (befores es) e.before
in_befores [] e h = absurd (nothing_in_empty e h)
in_befores (x ∷ es) e h = elim (in_cons x es e h) [
  | inl same ↦ subst (λ (y : Entry). Contains (befores (x ∷ es)) y.before) same (in_head x.before (befores es))
  | inr later ↦ in_tail x.before (befores es) e.before (in_befores es e later)
]

in_sets : (sides : List Side) (s : Side) → Contains sides s → Contains (sets_of sides) s.set
in_sets [] s h = absurd (nothing_in_empty s h)
in_sets (x ∷ sides) s h = elim (in_cons x sides s h) [
  | inl same ↦ subst (λ (y : Side). Contains (sets_of (x ∷ sides)) y.set) same (in_head x.set (sets_of sides))
  | inr later ↦ in_tail x.set (sets_of sides) s.set (in_sets sides s later)
]

in_stored : (stored : List StoredBox) (b : StoredBox) (r : Ref) → Contains stored b → Contains (sets_of b.sides) r → Contains (stored_sets stored) r
in_stored [] b r h there = absurd (nothing_in_empty b h)
in_stored (x ∷ stored) b r h there = elim (in_cons x stored b h) [
  | inl same ↦ Contains-append_left (sets_of x.sides) (stored_sets stored) r (subst (λ (y : StoredBox). Contains (sets_of y.sides) r) (sym same) there)
  | inr later ↦ Contains-append_right (sets_of x.sides) (stored_sets stored) r (in_stored stored b r later there)
]

module _ (p : Problem) (l : LayoutState) (s : PoolState) (k : CompiledState) (trail : TrailState) (stored : List StoredBox) (running : List Ref) (ready : IsReady p l s k trail stored running) where
  pinned_in : (r : Ref) → Contains (pinned_by k ++ (held trail ++ (stored_sets stored ++ running))) r → IsPinned s r
  pinned_in r h = held_pinned s (pinned_by k ++ (held trail ++ (stored_sets stored ++ running))) r ready.pinned h

  pub running_pinned : (r : Ref) → Contains running r → IsPinned s r
  running_pinned r h = pinned_in r (Contains-append_right (pinned_by k) (held trail ++ (stored_sets stored ++ running)) r
      (Contains-append_right (held trail) (stored_sets stored ++ running) r (Contains-append_right (stored_sets stored) running r h)))

  held_in : (r : Ref) → Contains (held trail) r → IsPinned s r
  held_in r h = pinned_in r (Contains-append_right (pinned_by k) (held trail ++ (stored_sets stored ++ running)) r (Contains-append_left (held trail) (stored_sets stored ++ running) r h))

  pub domain_pinned : (r : Ref) → Contains trail.domains r → IsPinned s r
  domain_pinned r h = held_in r (Contains-append_left trail.domains (befores trail.entries) r h)

  pub before_pinned : (e : Entry) → IsNewest trail e → IsPinned s e.before
  before_pinned e newest = held_in e.before (Contains-append_right trail.domains (befores trail.entries) e.before (in_befores trail.entries e (newest_listed trail e newest)))

  pub side_pinned : (b : ℕ) (side : Side) → b < length stored → Contains (sides_at stored b) side → IsPinned s side.set
  side_pinned b side within h =
      let r = stored_at stored b within in
      let there : Contains (sets_of r.0.sides) side.set = in_sets r.0.sides side (subst (λ xs. Contains xs side) (ap (λ (o : Option StoredBox). option_map_or (λ (x : StoredBox). x.sides) o []) r.2) h) in
      pinned_in side.set (Contains-append_right (pinned_by k) (held trail ++ (stored_sets stored ++ running)) side.set
      (Contains-append_right (held trail) (stored_sets stored ++ running) side.set (Contains-append_left (stored_sets stored) running side.set (in_stored stored r.0 side.set r.1 there))))
