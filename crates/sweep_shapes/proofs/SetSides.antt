-- The sides of set variables, each as the node of one slot.
use Rattle.std.proofs.Common.{◌≡◌, ◌⊎◌, ℕ, zero, suc, ◌<◌, ◌≤◌, ◌==◌, Bool, true, false, not, ◌||◌, ◌&&◌, cond, List, [], ◌∷◌, length, get_or, Contains, Some, None, refl, sym, ap, ◌∙◌, subst, inl, inr, arith}
use Rattle.std.specs.Prelude.{slice_get, IsSomeAnd, All}
use Rattle.std.specs.List.{list_all}
use Rattle.std.specs.Ordering.{nat_cmp}
use Rattle.std.specs.List.Sorted.{IsStrictlySortedBy}
use Rattle.std.specs.declared.cmp.Ordering.TheVariants.{Less}
use Rattle.std.proofs.lemmas.Bool.{eqb-true, cases_lt}
use Rattle.std.proofs.lemmas.List.Elements.{All-head, All-tail, All-from_recursion}
use Rattle.std.proofs.lemmas.Map.Keys.{sorted_head, sorted_tail}
use Rattle.std.proofs.lemmas.Option.{slice_get-get_or}
use Rattle.set_meaning.specs.declared.kinds.Kind.{Kind}
use Rattle.set_meaning.specs.declared.kinds.Value.{Value}
use Rattle.set_meaning.specs.declared.problems.VarId.{VarId}
use Rattle.set_meaning.specs.Problems.{IsKind}
use Rattle.bit_layout.specs.declared.places.Place.{Place}
use Rattle.bit_layout.specs.Words.{width_of}
use Rattle.log_rules.specs.declared.nodes.Node.{Node}
use Rattle.log_rules.specs.Tables.{next_node, walk, Tests, here, by_lo, by_hi}
use Rattle.log_rules.specs.Boxes.{Sides, word_at, side_of, FitsWidth, IsSide, AreSides}
use Rattle.log_rules.proofs.Walks.{walk_of_an_end}
use Rattle.sweep_rules.specs.SetPlaces.{AreSetPlaces}
use Rattle.sweep_table.specs.Sides.{CountFrom, own_count}
use Rattle.sweep_scopes.specs.declared.meeting.Slot.{Slot}
use Rattle.sweep_scopes.specs.Meetings.{Fits, places_in}
use Rattle.sweep_shapes.specs.Slots.{node_in, IsSlot}
use Rattle.sweep_shapes.proofs.Opening.{not_less}
use Rattle.sweep_shapes.proofs.Satisfying.{unnamed}

-- ---- the node of a side

-- the walk of a value's word from the node is the side's answer
pub side_walks : (kinds : List Kind) (table : List Node) (sides : Sides) (v : ℕ) (x : Value) → IsStrictlySortedBy (λ a b. nat_cmp a.0 b.0) sides
    → walk table (node_in sides v) (word_at kinds v x) ≡ side_of kinds table sides v x
unfolding side_of
side_walks kinds table [] v x up = walk_of_an_end table 1 (word_at kinds v x) (omega arith)
side_walks kinds table (s ∷ sides) v x up = by (s.0 == v) refl (side_walks kinds table sides v x (sorted_tail (λ (a b : ℕ × ℕ). nat_cmp a.0 b.0) s sides up))
  where
    later_others : (s.0 == v) ≡ true → All (λ side. side.0 ≡ v → ⊥) sides
    later_others e i d within same =
        let less = All-from_recursion (λ (z : ℕ × ℕ). nat_cmp s.0 z.0 ≡ Less) sides (sorted_head (λ (a b : ℕ × ℕ). nat_cmp a.0 b.0) s sides up) i d within in
        not_less s.0 (get_or sides i d).0 (eqb-true s.0 v e ∙ sym same) less

    by : (b : Bool) → (s.0 == v) ≡ b → walk table (node_in sides v) (word_at kinds v x) ≡ list_all (λ side. not (side.0 == v) || walk table side.1 (word_at kinds v x)) sides
        → walk table (cond b s.1 (node_in sides v)) (word_at kinds v x) ≡ ((not b || walk table s.1 (word_at kinds v x)) && list_all (λ side. not (side.0 == v) || walk table side.1 (word_at kinds v x)) sides)
    by true e rest =
        let all : list_all (λ side. not (side.0 == v) || walk table side.1 (word_at kinds v x)) sides ≡ true = unnamed kinds table sides v x (later_others e) in
        and_true (walk table s.1 (word_at kinds v x)) (list_all (λ side. not (side.0 == v) || walk table side.1 (word_at kinds v x)) sides) all
      where
        and_true : (a b : Bool) → b ≡ true → a ≡ (a && b)
        and_true true b e = sym e
        and_true false b e = refl
    by false e rest = rest

-- from node 1 nothing is tested
nothing_tested : (table : List Node) (place : ℕ) → Tests table 1 place → ⊥
nothing_tested table place (here {node = node} is) = let clash : None ≡ Some node = is in cc
nothing_tested table place (by_lo {node = node} is rest) = let clash : None ≡ Some node = is in cc
nothing_tested table place (by_hi {node = node} is rest) = let clash : None ≡ Some node = is in cc

record FitsKind (table : List Node) (k : Kind) (n : ℕ) : Type 0 where
  there : n < next_node table
  width : FitsWidth table n (width_of k)

one_fits : (table : List Node) (k : Kind) → FitsKind table k 1
unfolding FitsWidth
one_fits table k = record { there = omega arith; width = λ place t. absurd (nothing_tested table place t) }

node_fits : (kinds : List Kind) (table : List Node) (sides : Sides) (v : ℕ) (k : Kind) → All (IsSide kinds table) sides → slice_get kinds v ≡ Some k → FitsKind table k (node_in sides v)
node_fits kinds table [] v k each is = one_fits table k
node_fits kinds table (s ∷ sides) v k each is = by (s.0 == v) refl (node_fits kinds table sides v k (All-tail (IsSide kinds table) s sides each) is)
  where
    first : IsSide kinds table s
    first = All-head (IsSide kinds table) s sides each

    by : (b : Bool) → (s.0 == v) ≡ b → FitsKind table k (node_in sides v) → FitsKind table k (cond b s.1 (node_in sides v))
    by true e rest =
        let at : slice_get kinds s.0 ≡ Some k = ap (slice_get kinds) (eqb-true s.0 v e) ∙ is in
        record { there = first.node; width = subst (λ o. IsSomeAnd o (λ k. FitsWidth table s.1 (width_of k))) at first.variable }
    by false e rest = rest

-- ---- slots

-- the slot is of a listed variable, with its side or with node 1
pub record IsOfVariable (sides : Sides) (variables : List VarId) (slot : Slot) : Type 0 where
  pub among : Contains variables slot.variable
  pub root : (slot.root ≡ node_in sides slot.variable.0) ⊎ (slot.root ≡ 1)

at_index : (variables : List VarId) (i : ℕ) (v : VarId) → slice_get variables i ≡ Some v → Contains variables v
at_index [] i v is = let clash : None ≡ Some v = is in absurd (cc)
at_index (u ∷ us) zero v is = let e : u ≡ v = (let both : Some u ≡ Some v = is in cc) in (0, omega arith, e)
at_index (u ∷ us) (suc i) v is = let r = at_index us i v is in (suc r.0, (let w : r.0 < length us = r.1 in omega (arith, w)), r.2)

pub slot_of : (sides : Sides) (variables : List VarId) (i : ℕ) (slot : Slot) → IsSlot sides variables i slot → IsOfVariable sides variables slot
slot_of sides variables i slot is = elim (cases_lt i (length variables)) [
  | inl within ↦ record { among = at_index variables i slot.variable (is.variable within); root = inl (is.side within) }
  | inr past ↦ record { among = at_index variables 0 slot.variable (is.spare past); root = inr (is.everything past) }
]

-- each of at most three variables has a slot with its side
pub record HasSlot (sides : Sides) (first second third : Slot) (v : VarId) : Type 0 where
  pub slot : Slot
  pub one_of : (slot ≡ first) ⊎ ((slot ≡ second) ⊎ (slot ≡ third))
  pub variable : slot.variable ≡ v
  pub root : slot.root ≡ node_in sides v.0

in_slot : (sides : Sides) (variables : List VarId) (i : ℕ) (slot : Slot) (v : VarId) → IsSlot sides variables i slot → i < length variables → get_or variables i v ≡ v
    → (slot.variable ≡ v) × (slot.root ≡ node_in sides v.0)
in_slot sides variables i slot v is within at =
    let both : Some slot.variable ≡ Some v = sym (is.variable within) ∙ slice_get-get_or variables i v within ∙ ap Some at in
    let same : slot.variable ≡ v = cc in
    (same, is.side within ∙ ap (λ (u : VarId). node_in sides u.0) same)

pub has_slot : (sides : Sides) (variables : List VarId) (first second third : Slot) (v : VarId) → length variables ≤ 3 → IsSlot sides variables 0 first → IsSlot sides variables 1 second → IsSlot sides variables 2 third
    → Contains variables v → HasSlot sides first second third v
has_slot sides variables first second third v few is_first is_second is_third h = by h.0 h.1 h.2
  where
    by : (i : ℕ) → i < length variables → get_or variables i v ≡ v → HasSlot sides first second third v
    by zero within at = let r = in_slot sides variables 0 first v is_first within at in record { slot = first; one_of = inl refl; variable = r.0; root = r.1 }
    by (suc zero) within at = let r = in_slot sides variables 1 second v is_second within at in record { slot = second; one_of = inr (inl refl); variable = r.0; root = r.1 }
    by (suc (suc zero)) within at = let r = in_slot sides variables 2 third v is_third within at in record { slot = third; one_of = inr (inr refl); variable = r.0; root = r.1 }
    by (suc (suc (suc i))) within at = absurd (omega (arith, within, few))

-- the law on the places of a variable
abbrev pub AreCounted : Type 0
AreCounted = (kinds : List Kind) (sets : List VarId) (places : List Place) (v : VarId) (k : Kind) → AreSetPlaces kinds sets places → Contains sets v → slice_get kinds v.0 ≡ Some k → IsKind k
    → CountFrom 0 (places_in places v) × (own_count (places_in places v) ≡ width_of k)

pub slot_fits : AreCounted → (kinds : List Kind) (table : List Node) (sides : Sides) (variables : List VarId) (places : List Place) (slot : Slot) (k : Kind) → AreSetPlaces kinds variables places
    → AreSides kinds table sides → IsOfVariable sides variables slot → slice_get kinds slot.variable.0 ≡ Some k → IsKind k → Fits table places slot
slot_fits law kinds table sides variables places slot k are ok of is legal =
    let counts = law kinds variables places slot.variable k are of.among is legal in
    let node = elim of.root as (λ _. FitsKind table k slot.root) [
      | inl e ↦ subst (FitsKind table k) (sym e) (node_fits kinds table sides slot.variable.0 k ok.each is)
      | inr e ↦ subst (FitsKind table k) (sym e) (one_fits table k)
    ] in
    record { there = node.there; counted = counts.0; width = subst (FitsWidth table slot.root) (sym counts.1) node.width }
