-- Boxes that are added, and the trail of initial domains, for the tests.
use Rattle.std.proofs.Common.{◌≡◌, ℕ, ◌+◌, ◌<◌, ◌≤◌, false, List, [], ◌∷◌, ◌++◌, length, get_or, refl, sym, ap, ◌∙◌, subst, append-nil, arith}
use Rattle.std.specs.Prelude.{slice_get}
use Rattle.std.specs.List.{All, flat_map}
use Rattle.std.specs.List.Sorted.{IsStrictlySortedBy}
use Rattle.std.specs.Option.{unwrap_or}
use Rattle.std.specs.FinMap as map
use Rattle.std.proofs.lemmas.List.Concat.{flat_map-append}
use Rattle.std.proofs.lemmas.Option.{slice_get-get_or}
use Rattle.std.proofs.lemmas.List.Elements.{All-nil, All-push, All-weaker, All-from_recursion}
use Rattle.set_meaning.specs.declared.problems.VarId.{VarId}
use Rattle.set_meaning.specs.declared.problems.Problem.{Problem}
use Rattle.bit_layout.specs.Order.{LayoutState}
use Rattle.diagram_arena.specs.declared.nodes.NodeId.{NodeId}
use Rattle.diagram_arena.specs.declared.nodes.Ref.{Ref}
use Rattle.diagram_arena.specs.Table.{Table, id_cmp, IsLive}
use Rattle.diagram_arena.specs.Arena.{table, Grows}
use Rattle.node_reclaim.specs.Pool.{PoolState, pins_of, times}
use Rattle.node_reclaim.specs.Growth.{Stays}
use Rattle.node_reclaim.specs.Holders.{Gains, AreHeld}
use Rattle.pin_lists.proofs.Counting.{times-append}
use Rattle.exact_steps.specs.Domains.{variable, values_in, AreDomains, family}
use Rattle.problem_rules.specs.Posed.{problem_of}
use Rattle.value_sets.specs.Sets.{IsValueSet}
use Rattle.propagators.specs.Compiled.{CompiledState, pinned_by, IsCompiled}
use Rattle.constraint_queue.specs.Queue.{QueueState, HasFlag}
use Rattle.domain_trail.specs.Trail.{TrailState, held}
use Rattle.box_clauses.specs.declared.sides.Side.{Side}
use Rattle.box_clauses.specs.declared.store.StoredBox.{StoredBox}
use Rattle.box_clauses.specs.Sides.{sets_of}
use Rattle.box_clauses.specs.Boxes.{IsSide, AreSides}
use Rattle.box_clauses.specs.Stored.{stored, stored_sets}
use Rattle.search_state.specs.Readings.{IsEntry, IsTrailOf}
use Rattle.propagation_tests.specs.Filled.{IsFilled}

-- ---- three sides

abbrev side : ℕ → Ref → Side
side n r = record { var = variable n; set = r }

pub three_sides : (l : LayoutState) (t : Table) (sides : List Side) (a b c : Ref) → length l.kinds ≡ 3 → IsValueSet l t (variable 0) a → IsValueSet l t (variable 1) b → IsValueSet l t (variable 2) c
    → sides ≡ side 0 a ∷ side 1 b ∷ side 2 c ∷ [] → AreSides l t sides
unfolding IsStrictlySortedBy
three_sides l t sides a b c three first second third is = subst (AreSides l t) (sym is) (record {
  ascending = ((refl, (refl, tt)), ((refl, tt), (tt, tt)));
  each = All-from_recursion (IsSide l t) (side 0 a ∷ side 1 b ∷ side 2 c ∷ [])
      (record { known = omega (arith, three); set = first }, (record { known = omega (arith, three); set = second }, (record { known = omega (arith, three); set = third }, tt)));
})

-- ---- one more box

-- value sets stay as nodes are added
abbrev pub SetsStay : Type 0
SetsStay = (l : LayoutState) (t u : Table) (v : VarId) (r : Ref) → Grows t u → IsValueSet l t v r → IsValueSet l u v r × (values_in l u v r ≡ values_in l t v r)

abbrev pub CompiledStays : Type 0
CompiledStays = (l : LayoutState) (p : Problem) (t u : Table) (k : CompiledState) → Grows t u → IsCompiled l p t k → IsCompiled l p u k

sides_grow : SetsStay → (l : LayoutState) (t u : Table) (sides : List Side) → Grows t u → AreSides l t sides → AreSides l u sides
sides_grow law l t u sides grows are = record {
  ascending = are.ascending;
  each = All-weaker (IsSide l t) (IsSide l u) (λ s is. record { known = is.known; set = (law l t u s.var s.set grows is.set).0 }) sides are.each;
}

pub filled_more : SetsStay → CompiledStays → (p : Problem) (l : LayoutState) (a b c d : PoolState) (k : CompiledState) (old new : List StoredBox) (sides kept : List Side) → IsFilled p l a k old → Stays a b → AreSides l (table b.arena) sides
    → kept ≡ sides → c ≡ record b { counts = c.counts } → Gains b c (sets_of sides) → d ≡ c → new ≡ old ++ stored kept 0 false ∷ [] → IsFilled p l d k new
filled_more sets law p l a b c d k old new sides kept is stays are same only gained unchanged added =
    subst (λ (s : PoolState). IsFilled p l s k new) (sym unchanged) (record {
      compiled = subst (λ (s : PoolState). IsCompiled l p (table s.arena) k) (sym only) (law l p (table a.arena) (table b.arena) k stays.grows is.compiled);
      boxes = subst (λ (bs : List StoredBox). All (λ (x : StoredBox). AreSides l (table c.arena) x.sides) bs) (sym added)
          (subst (λ (s : PoolState). All (λ (x : StoredBox). AreSides l (table s.arena) x.sides) (old ++ stored kept 0 false ∷ [])) (sym only) all_are);
      pinned = λ i.
          let h = is.pinned i in
          let g = gained i in
          let e = ap (λ (m : map.FinMap id_cmp ℕ). unwrap_or (map.get m i) 0) stays.counts in
          let one = times-append i (pinned_by k) (stored_sets old) in
          let two = times-append i (pinned_by k) (stored_sets new) in
          let three : times i (stored_sets new) ≡ times i (stored_sets old) + times i (sets_of sides)
          = ap (times i) (ap stored_sets added ∙ flat_map-append (λ (x : StoredBox). sets_of x.sides) old (stored kept 0 false ∷ [])
          ∙ ap (λ rs. stored_sets old ++ rs) (append-nil (sets_of kept)) ∙ ap (λ ss. stored_sets old ++ sets_of ss) same)
          ∙ times-append i (stored_sets old) (sets_of sides) in
          omega (arith, h, g, e, one, two, three);
    })
  where
    all_are : All (λ (x : StoredBox). AreSides l (table b.arena) x.sides) (old ++ stored kept 0 false ∷ [])
    all_are = All-push (λ (x : StoredBox). AreSides l (table b.arena) x.sides) old (stored kept 0 false)
        (All-weaker (λ (x : StoredBox). AreSides l (table a.arena) x.sides) (λ (x : StoredBox). AreSides l (table b.arena) x.sides)
        (λ x h. sides_grow sets l (table a.arena) (table b.arena) x.sides stays.grows h) old is.boxes)
        (subst (AreSides l (table b.arena)) (sym same) are)

pub filled_none : (p : Problem) (l : LayoutState) (a b : PoolState) (k : CompiledState) (store : List StoredBox) → store ≡ [] → IsCompiled l p (table b.arena) k → Gains a b (pinned_by k) → IsFilled p l b k store
filled_none p l a b k store none is gained = subst (IsFilled p l b k) (sym none) (record {
  compiled = is;
  boxes = All-nil (λ (x : StoredBox). AreSides l (table b.arena) x.sides);
  pinned = λ i. let g = gained i in let e = times-append i (pinned_by k) [] in omega (arith, g, e);
})

-- ---- the trail at the beginning

abbrev pub begun_with : List Ref → TrailState
begun_with start = record { domains = start; entries = []; level = 0 }

pub trail_begun : (p : Problem) (l : LayoutState) (t : Table) (boxes : List StoredBox) (start : List Ref) (s : TrailState) → s ≡ begun_with start → AreDomains l t start
    → family l t start ≡ (problem_of p).initial → All (λ (x : StoredBox). AreSides l t x.sides) boxes → IsTrailOf p l t boxes s
trail_begun p l t boxes start s is are initial each = subst (IsTrailOf p l t boxes) (sym is) (record {
  readable = record { domains = are; entries = All-nil (IsEntry l t boxes); boxes = each };
  level = refl;
  trail = record { replays = initial; reasons = tt };
})

pub held_begun : (a b : PoolState) (k : CompiledState) (boxes : List StoredBox) (s : TrailState) → s ≡ begun_with k.start → AreHeld a (pinned_by k ++ stored_sets boxes) → Gains a b k.start
    → AreHeld b (pinned_by k ++ (held s ++ stored_sets boxes))
held_begun a b k boxes s is h gained = subst (λ (x : TrailState). AreHeld b (pinned_by k ++ (held x ++ stored_sets boxes))) (sym is) (λ i.
    let m = h i in
    let g = gained i in
    let one = times-append i (pinned_by k) (stored_sets boxes) in
    let two = times-append i (pinned_by k) ((k.start ++ []) ++ stored_sets boxes) in
    let three = times-append i (k.start ++ []) (stored_sets boxes) in
    let four = times-append i k.start [] in
    omega (arith, m, g, one, two, three, four))

pub start_live : (l : LayoutState) (t : Table) (lent start : List Ref) → lent ≡ start → AreDomains l t start → All (IsLive t) lent
start_live l t lent start is are = subst (All (IsLive t)) (sym is) (λ i d within. (are.each (variable i) (get_or start i d) (slice_get-get_or start i d within)).diagram.live)
