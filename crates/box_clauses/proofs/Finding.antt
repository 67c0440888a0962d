-- The side of a variable among ascending sides, and the box that the sides make.
use Rattle.std.proofs.Common.{◌≡◌, ◌≢◌, ◌⊎◌, ℕ, ◌<◌, ◌≤◌, ◌==◌, Bool, true, false, List, [], ◌∷◌, length, get_or, Option, Some, None, refl, sym, ap, ◌∙◌, subst, inl, inr, arith, eq-eqb}
use Rattle.std.specs.Prelude.{slice_get, find, All}
use Rattle.std.specs.declared.cmp.Ordering.{Ordering}
use Rattle.std.specs.declared.cmp.Ordering.TheVariants.{Less}
use Rattle.std.specs.Ordering.{nat_cmp}
use Rattle.std.specs.List.{list_any, position_or_len}
use Rattle.std.specs.List.Sorted.{IsStrictlySortedBy}
use Rattle.std.specs.Option.{option_map_or}
use Rattle.std.proofs.lemmas.Bool.{eqb-true, ne_eqb}
use Rattle.std.proofs.lemmas.Bool.Decides.{nat_tests}
use Rattle.std.proofs.lemmas.Option.{slice_get-get_or, slice_get_cases, get_or_from_slice_get}
use Rattle.std.proofs.lemmas.List.Folds.{find_at}
use Rattle.std.proofs.lemmas.List.Sums.{position_or_len_is, passes_at_first}
use Rattle.std.proofs.lemmas.Map.Keys.{Less-from_sorted}
use Rattle.set_meaning.specs.declared.kinds.Kind.{Kind}
use Rattle.set_meaning.specs.declared.kinds.Value.{Value}
use Rattle.set_meaning.specs.Kinds.{initial_values}
use Rattle.bit_layout.specs.Order.{LayoutState}
use Rattle.diagram_arena.specs.declared.nodes.Ref.{Ref}
use Rattle.diagram_arena.specs.Table.{Table, has}
use Rattle.search_rules.specs.Family.{Lies}
use Rattle.exact_steps.specs.Domains.{variable, same_value, is_initial, word_of_value, values_in, AreDomains, family}
use Rattle.exact_steps.proofs.Values.{both_are}
use Rattle.problem_rules.specs.Parts.{initial_set}
use Rattle.box_clauses.specs.declared.sides.Side.{Side}
use Rattle.box_clauses.specs.Boxes.{box_of, AreSides}
use Rattle.box_clauses.specs.Work.{IsHeld}

-- ---- orders

abbrev pub order : Side → Side → Ordering
order s u = nat_cmp s.var.0 u.var.0

less_from : (m n : ℕ) → nat_cmp m n ≡ Less → m < n
less_from m n e = grind (arith, nat_tests)

-- a side before another is of a lesser variable
pub earlier : (sides : List Side) (i j : ℕ) (s u : Side) → IsStrictlySortedBy order sides → i < j → slice_get sides i ≡ Some s → slice_get sides j ≡ Some u → s.var.0 < u.var.0
earlier sides i j s u up below at to =
    let within = place_within sides j u to in
    let e = Less-from_sorted order sides i j u up below within in
    let first : get_or sides i u ≡ s = get_or_from_slice_get sides i s u at in
    let second : get_or sides j u ≡ u = get_or_from_slice_get sides j u u to in
    less_from s.var.0 u.var.0 (subst (λ x. order x u ≡ Less) first (subst (λ y. order (get_or sides i u) y ≡ Less) second e))
  where
    place_within : (sides : List Side) (j : ℕ) (u : Side) → slice_get sides j ≡ Some u → j < length sides
    place_within sides j u to = elim (slice_get_cases sides j).1 [
      | inl is ↦ is.1
      | inr past ↦ absurd (let e : Some u ≡ None = sym to ∙ past.1 in cc)
    ]

-- ---- what is found

abbrev pub is_of : ℕ → Side → Bool
is_of v s = s.var.0 == v

-- the side that is found has a place, and is of the variable
pub found_at : (sides : List Side) (v : ℕ) (s : Side) → find (is_of v) sides ≡ Some s → (k : ℕ) × (k < length sides) × (slice_get sides k ≡ Some s) × (s.var.0 ≡ v)
found_at sides v s e =
    let k : ℕ = position_or_len (is_of v) sides in
    let at : slice_get sides k ≡ Some s = sym (find_at (is_of v) sides) ∙ e in
    elim (slice_get_cases sides k).1 [
      | inl is ↦
          let passes = passes_at_first (is_of v) sides s is.1 in
          (k, is.1, at, eqb-true s.var.0 v (subst (λ (u : Side). is_of v u ≡ true) (get_or_from_slice_get sides k s s at) passes))
      | inr past ↦ absurd (let f : Some s ≡ None = sym at ∙ past.1 in cc)
    ]

-- of ascending sides the one at a place is found by its variable
pub find_of : (sides : List Side) (k : ℕ) (s : Side) → IsStrictlySortedBy order sides → k < length sides → slice_get sides k ≡ Some s → find (is_of s.var.0) sides ≡ Some s
find_of sides k s up within at =
    let here : get_or sides k s ≡ s = get_or_from_slice_get sides k s s at in
    let place : position_or_len (is_of s.var.0) sides ≡ k =
    position_or_len_is (is_of s.var.0) sides k s (omega (arith, within))
    (λ j below.
    let u : Side = get_or sides j s in
    let whole : j < length sides = omega (arith, below, within) in
    let less = earlier sides j k u s up below (slice_get-get_or sides j s whole) at in
    ne_eqb u.var.0 s.var.0 (λ e. let less' : s.var.0 < s.var.0 = subst (λ n. n < s.var.0) e less in omega (arith, less')))
    (λ _. subst (λ (u : Side). is_of s.var.0 u ≡ true) (sym here) (eq-eqb s.var.0 s.var.0 refl)) in
    find_at (is_of s.var.0) sides ∙ ap (slice_get sides) place ∙ at

-- ---- the box

module _ (l : LayoutState) (t : Table) (sides : List Side) where
  abbrev read : ℕ → Option Side → Value → Bool
  read v o x = option_map_or (λ (s : Side). values_in l t (variable v) s.set x) o (initial_set l.kinds v x)

  -- a side's values are those of the box at its variable
  pub box_at : (k : ℕ) (s : Side) → AreSides l t sides → k < length sides → slice_get sides k ≡ Some s → box_of l t sides s.var.0 ≡ values_in l t s.var s.set
  box_at k s are within at = ap (read s.var.0) (find_of sides k s are.ascending within at)

  pub box_without : (v : ℕ) → find (is_of v) sides ≡ None → box_of l t sides v ≡ initial_set l.kinds v
  box_without v e = ap (read v) e

  -- where the side of the variable, if it has one, holds its domain, the box does
  pub held_by_box : (domains : List Ref) (v : ℕ) → AreDomains l t domains
      → ((k : ℕ) (s : Side) → k < length sides → slice_get sides k ≡ Some s → s.var.0 ≡ v → IsHeld l t domains s) → Lies (family l t domains v) (box_of l t sides v)
  held_by_box domains v are held =
      elim (find (is_of v) sides) as (λ o. find (is_of v) sides ≡ o → Lies (family l t domains v) (box_of l t sides v)) [
        | None ↦ λ e. subst (Lies (family l t domains v)) (sym (box_without v e)) (initial_family l t domains v are)
        | Some s ↦ λ e.
            let f = found_at sides v s e in
            let own = held f.0 s f.1 f.2 f.3 in
            subst (Lies (family l t domains v)) (sym (ap (read v) e)) (subst (λ n. Lies (family l t domains n) (values_in l t (variable n) s.set)) f.3 own)
      ] refl
    where
      -- the domain of each variable has initial values only; beyond the last variable every value is one
      initial_family : (l : LayoutState) (t : Table) (domains : List Ref) (v : ℕ) → AreDomains l t domains → Lies (family l t domains v) (initial_set l.kinds v)
      initial_family l t domains v are x on =
          elim (slice_get l.kinds v) as (λ o. slice_get l.kinds v ≡ o → option_map_or (λ k. list_any (same_value x) (initial_values k)) o true ≡ true) [
            | None ↦ λ e. refl
            | Some k ↦ λ e. known k e
          ] refl
        where
          known : (k : Kind) → slice_get l.kinds v ≡ Some k → list_any (same_value x) (initial_values k) ≡ true
          known k e = elim (slice_get_cases domains v).1 [
            | inl is ↦
                let on' : values_in l t (variable v) is.0 x ≡ true = subst (λ o. option_map_or (λ r. values_in l t (variable v) r x) o true ≡ true) is.2 on in
                let initial = (both_are (is_initial l (variable v) x) (has t is.0 (word_of_value l (variable v) x)) on').0 in
                subst (λ o. option_map_or (λ k. list_any (same_value x) (initial_values k)) o false ≡ true) e initial
            | inr past ↦ absurd (elim (slice_get_cases l.kinds v).1 [
              | inl is ↦ let m = past.0 in let n = is.1 in let long = are.long in omega (arith, m, n, long)
              | inr none ↦ let f : Some k ≡ None = sym e ∙ none.1 in cc
            ])
          ]
