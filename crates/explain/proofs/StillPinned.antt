-- What a running box pins is a side of it, or one of the initial domains.
use Rattle.std.proofs.Common.{◌≡◌, ◌≢◌, ◌⊎◌, ℕ, zero, suc, ◌+◌, ◌<◌, ◌≤◌, ◌^◌, Bool, true, false, List, [], ◌∷◌, ◌++◌, length, get_or, Option, Some, sym, ap, ◌∙◌, subst, inl, inr, arith, Contains}
use Rattle.std.specs.Prelude.{slice_get}
use Rattle.std.specs.List.{list_any, sum_by}
use Rattle.std.specs.Option.{option_map_or}
use Rattle.std.proofs.lemmas.Bool.{cases_eq}
use Rattle.std.proofs.lemmas.List.Elements.{All-cons, All-nil, All-contains}
use Rattle.std.proofs.lemmas.Option.{slice_get-get_or, slice_get_cases, slice_get_within, get_or_from_slice_get}
use Rattle.set_meaning.specs.declared.kinds.Kind.{Kind}
use Rattle.set_meaning.specs.declared.kinds.Value.{Value}
use Rattle.set_meaning.specs.declared.problems.VarId.{VarId}
use Rattle.set_meaning.specs.Kinds.{initial_values}
use Rattle.bit_layout.specs.Order.{LayoutState, IsLayout}
use Rattle.bit_layout.specs.Limits.{counted_bits}
use Rattle.bit_layout.proofs.Listing.{as_many_as_bits}
use Rattle.bit_layout.proofs.Rising.{in_head, in_tail}
use Rattle.diagram_arena.specs.declared.nodes.NodeId.{NodeId}
use Rattle.diagram_arena.specs.declared.nodes.Ref.{Ref}
use Rattle.diagram_arena.specs.declared.nodes.Ref.TheVariants.{Zero, One, Node}
use Rattle.diagram_arena.specs.Table.{Table, IsReduced}
use Rattle.node_reclaim.specs.Pool.{PoolState, pins_of, times, IsPinned}
use Rattle.node_reclaim.specs.Holders.{Gains, AreHeld}
use Rattle.pin_lists.proofs.Counting.{times-append}
use Rattle.exact_steps.specs.Domains.{variable, values_in, is_initial, same_value}
use Rattle.problem_rules.specs.Parts.{initial_set}
use Rattle.value_sets.specs.Sets.{IsValueSet}
use Rattle.propagators.specs.Compiled.{AreInitialDomains}
use Rattle.box_clauses.specs.declared.sides.Side.{Side}
use Rattle.box_clauses.specs.Boxes.{IsSide}
use Rattle.box_clauses.specs.Sides.{sets_of}
use Rattle.running_boxes.specs.Running.{AreRunning, AreSidesOfRunning}
use Rattle.running_boxes.specs.Work.{NoneIsOf}
use Rattle.running_boxes.proofs.Places.{family_here}
use Rattle.running_boxes.proofs.Sides.{box_here, box_beside}
use Rattle.running_boxes.proofs.Resolvents.{whole_is}
use Rattle.explain.proofs.Counting.{none_or_some, times_listed, listed_times}

-- ---- few variables

pub few_running : (l : LayoutState) (t : Table) (running : List Ref) → IsLayout l → AreRunning l t running → length running < 2 ^ 32
few_running l t running ok are =
    let long = are.long in
    let most : sum_by counted_bits l.kinds ≤ 1048576 = ok.limits.bits in
    let few = as_many_as_bits l.kinds in
    omega (arith, long, most, few)

-- ---- sets that are listed

set_listed : (sides : List Side) (s : Side) → Contains sides s → Contains (sets_of sides) s.set
set_listed sides s h = at sides h.0 h.1 h.2
  where
    at : (sides : List Side) (k : ℕ) → k < length sides → get_or sides k s ≡ s → Contains (sets_of sides) s.set
    at [] k within e = absurd (let none : k < 0 = within in omega (arith, none))
    at (x ∷ sides) zero within e = subst (λ (y : Side). Contains (sets_of (y ∷ sides)) s.set) (sym e) (in_head s.set (sets_of sides))
    at (x ∷ sides) (suc k) within e =
        let less : k < length sides = omega (arith, within) in
        in_tail x.set (sets_of sides) s.set (at sides k less e)

listed_at : (rs : List Ref) (v : ℕ) (r : Ref) → slice_get rs v ≡ Some r → Contains rs r
listed_at rs v r e = (v, slice_get_within rs v r e, get_or_from_slice_get rs v r r e)

-- sets of the same values are one
abbrev pub SetsAreOne : Type 0
SetsAreOne =
    (l : LayoutState) (t : Table) (v : VarId) (f g : Ref) → IsLayout l → IsReduced t → IsValueSet l t v f → IsValueSet l t v g
    → ((x : Value) → values_in l t v f x ≡ values_in l t v g x) → f ≡ g

-- a side of the variable, or none
side_or_none : (sides : List Side) (v : ℕ) → ((s : Side) × Contains sides s × (s.var.0 ≡ v)) ⊎ NoneIsOf v sides
side_or_none [] v = inr (All-nil (λ (s : Side). s.var.0 ≢ v))
side_or_none (s ∷ sides) v = elim (cases_eq s.var.0 v) [
  | inl same ↦ inl (s, in_head s sides, same)
  | inr other ↦ elim (side_or_none sides v) [
    | inl is ↦ inl (is.0, in_tail s sides is.0 is.1, is.2)
    | inr none ↦ inr (All-cons (λ (x : Side). x.var.0 ≢ v) s sides other none)
  ]
]

-- within the variables both words on initial values say the same
initial_within : (l : LayoutState) (v : ℕ) → v < length l.kinds → is_initial l (variable v) ≡ initial_set l.kinds v
initial_within l v within = elim (slice_get_cases l.kinds v).1 [
  | inl is ↦
      ap (λ (q : Option Kind). λ x. option_map_or (λ (k : Kind). list_any (same_value x) (initial_values k)) q false) is.2
      ∙ sym (ap (λ (q : Option Kind). λ x. option_map_or (λ (k : Kind). list_any (same_value x) (initial_values k)) q true) is.2)
  | inr past ↦ absurd (let p = past.0 in omega (arith, p, within))
]

module _ (one : SetsAreOne) (l : LayoutState) (t : Table) (ok : IsLayout l) (reduced : IsReduced t) (start running : List Ref)
    (initial : AreInitialDomains l t start) (are : AreRunning l t running) (sides : List Side) (of : AreSidesOfRunning l t running sides) where
  same_side : (s : Side) → Contains sides s → (r : Ref) → slice_get running s.var.0 ≡ Some r → s.set ≡ r
  same_side s h r at =
      let same : values_in l t s.var s.set ≡ values_in l t s.var r
      = sym (box_here l t sides of.ascending s h) ∙ ap (λ (b : ℕ → Value → Bool). b s.var.0) of.values ∙ family_here l t running s.var r at in
      one l t s.var s.set r ok reduced (All-contains (IsSide l t) sides s of.ascending.each h).set (are.each s.var r at) (λ x. ap (λ (f : Value → Bool). f x) same)

  same_start : (v : ℕ) (r : Ref) → slice_get running v ≡ Some r → NoneIsOf v sides → Contains start r
  same_start v r at none =
      let long = are.long in
      let here : v < length running = slice_get_within running v r at in
      let within : v < length l.kinds = omega (arith, long, here) in
      let q : Ref = get_or start v Zero in
      let there : slice_get start v ≡ Some q = slice_get-get_or start v Zero (subst (λ n. v < n) (sym initial.long) within) in
      let own : values_in l t (variable v) q ≡ values_in l t (variable v) r
      = whole_is l t (variable v) q (initial.each (variable v) q there) ∙ initial_within l v within ∙ sym (box_beside l t sides of.ascending v none)
      ∙ ap (λ (b : ℕ → Value → Bool). b v) of.values ∙ family_here l t running (variable v) r at in
      let same : q ≡ r
      = one l t (variable v) q r ok reduced (initial.each (variable v) q there).domain.diagram (are.each (variable v) r at) (λ x. ap (λ (f : Value → Bool). f x) own) in
      subst (Contains start) same (listed_at start v q there)

  held_still : (r : Ref) → Contains running r → Contains (sets_of sides) r ⊎ Contains start r
  held_still r h =
      let at : slice_get running h.0 ≡ Some r = slice_get-get_or running h.0 r h.1 ∙ ap (λ (q : Ref). Some q) h.2 in
      elim (side_or_none sides h.0) [
        | inl is ↦ inl (subst (Contains (sets_of sides)) (same_side is.0 is.1 r (subst (λ k. slice_get running k ≡ Some r) (sym is.2) at)) (set_listed sides is.0 is.1))
        | inr none ↦ inr (same_start h.0 r at none)
      ]

  -- ---- pins

  module _ (a b c : PoolState) (held : AreHeld a (start ++ running)) (gained : Gains a b (sets_of sides)) (lost : (i : NodeId) → pins_of b i ≡ pins_of c i + times i running) where
    at_node : (i : NodeId) → 0 < pins_of a i → 0 < pins_of c i
    at_node i p =
        let g = gained i in
        let m = lost i in
        let h = held i in
        let e = times-append i start running in
        elim (none_or_some (times i running)) [
          | inl none ↦ omega (arith, p, g, m, none)
          | inr some ↦ elim (held_still (Node i) (listed_times i running some)) [
            | inl side ↦ let s = times_listed i (sets_of sides) side in omega (arith, p, g, m, h, e, s)
            | inr first ↦ let s = times_listed i start first in omega (arith, p, g, m, h, e, s)
          ]
        ]

    pub still_pinned : (r : Ref) → IsPinned a r → IsPinned c r
    still_pinned Zero p = tt
    still_pinned One p = tt
    still_pinned (Node i) p = at_node i p
