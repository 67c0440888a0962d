-- What is left of a domain outside one side.
use Rattle.std.proofs.Common.{◌≡◌, ◌≢◌, ◌⊎◌, ℕ, ◌+◌, ◌<◌, ◌≤◌, nat_lt, Bool, true, false, not, ◌&&◌, List, [], ◌∷◌, length, get_or, Some, None, refl, sym, ap, ◌∙◌, subst, inl, inr, arith}
use Rattle.std.specs.Prelude.{slice_get, All}
use Rattle.std.specs.Option.{option_map_or}
use Rattle.std.proofs.lemmas.Bool.{ltb-true, ltb-false}
use Rattle.std.proofs.lemmas.Option.{get_or_from_slice_get, slice_get_cases}
use Rattle.std.proofs.lemmas.List.Elements.{All-get_or}
use Rattle.set_meaning.specs.declared.kinds.Value.{Value}
use Rattle.set_meaning.specs.declared.kinds.Value.TheVariants as value
use Rattle.set_meaning.specs.declared.problems.VarId.{VarId}
use Rattle.bit_layout.specs.Order.{LayoutState, IsLayout}
use Rattle.diagram_arena.specs.declared.nodes.Ref.{Ref}
use Rattle.diagram_arena.specs.declared.nodes.Ref.TheVariants.{Node}
use Rattle.diagram_arena.specs.Table.{Table, has, IsReduced}
use Rattle.diagram_arena.specs.Arena.{Grows}
use Rattle.search_rules.specs.Family.{Lies, Leaves, Meets, HasValue, AllLie, without}
use Rattle.search_rules.specs.Trail.{IsPart}
use Rattle.search_rules.specs.Box.{IsBoxStep, IsBoxNarrowed}
use Rattle.scope_words.specs.Words.{AreWordsOf, NewReachOnlyScope}
use Rattle.exact_steps.specs.Domains.{variable, AtVariable, values_in, IsDomain, AreDomains, family}
use Rattle.exact_steps.proofs.Values.{same_some, both_are, both_from}
use Rattle.value_sets.specs.Sets.{IsValueSet, IsSetOf, NewArePartsOfValues}
use Rattle.box_clauses.specs.declared.sides.Side.{Side}
use Rattle.box_clauses.specs.declared.stepping.BoxResult.TheVariants as answer
use Rattle.box_clauses.specs.Boxes.{box_of, IsSide, AreSides, step_of, GivesDomain, NewArePartsOutside}
use Rattle.box_clauses.specs.Work.{IsHeld, IsOutside, AreHeldFrom, IsFirstOutside, IsOnlyOutside}
use Rattle.box_clauses.specs.Laws.{SetLaws}
use Rattle.box_clauses.proofs.Finding.{earlier, box_at, held_by_box}

-- ---- truth values

kept_apart : (a b : Bool) → (a ≡ true → b ≡ false) → (a && not b) ≡ a
kept_apart true b apart = ap not (apart refl)
kept_apart false b apart = refl

off_where : (a b : Bool) → b ≡ true → (a && not b) ≡ false
off_where true true on = refl
off_where true false on = cc
off_where false b on = refl

not_true : (b : Bool) → not b ≡ true → b ≡ false
not_true true h = sym h
not_true false h = refl

not_from : (b : Bool) → b ≡ false → not b ≡ true
not_from true off = sym off
not_from false off = refl

-- ---- sides

pub side_at : (l : LayoutState) (t : Table) (sides : List Side) (k : ℕ) (s : Side) → AreSides l t sides → k < length sides → slice_get sides k ≡ Some s → IsSide l t s
side_at l t sides k s are within at =
    subst (IsSide l t) (get_or_from_slice_get sides k s s at) (All-get_or (IsSide l t) sides k s within are.each)

pub family_at : (l : LayoutState) (t : Table) (domains : List Ref) (v : VarId) (d : Ref) → slice_get domains v.0 ≡ Some d → family l t domains v.0 ≡ values_in l t v d
family_at l t domains v d e = ap (λ o. λ x. option_map_or (λ r. values_in l t v r x) o true) e

-- the family has a value for each variable
pub family_has_values : (l : LayoutState) (t : Table) (domains : List Ref) → AreDomains l t domains → (v : ℕ) → HasValue (family l t domains v)
family_has_values l t domains are v =
    elim (slice_get domains v) as (λ o. slice_get domains v ≡ o → HasValue (λ x. option_map_or (λ r. values_in l t (variable v) r x) o true)) [
      | None ↦ λ e. (value.Bool false, refl)
      | Some d ↦ λ e. (are.each (variable v) d e).some
    ] refl

-- ---- which sides hold their domains

module _ (l : LayoutState) (t : Table) (sides : List Side) (domains : List Ref) (are : AreSides l t sides) (domained : AreDomains l t domains) where
  -- all sides do: all of the family lies in the box
  pub all_lie : AreHeldFrom l t domains sides 0 (length sides) → AllLie (family l t domains) (box_of l t sides)
  all_lie held v = held_by_box l t sides domains v domained (λ k s within at same. held k s (omega arith) within at)

  outside_box : (k : ℕ) (s : Side) → k < length sides → slice_get sides k ≡ Some s → IsOutside l t domains s → Leaves (family l t domains s.var.0) (box_of l t sides s.var.0)
  outside_box k s within at out = subst (Leaves (family l t domains s.var.0)) (sym (box_at l t sides k s are within at)) out

  -- two do not
  pub two_outside : (i j : ℕ) (s u : Side) → i < j → j < length sides → slice_get sides i ≡ Some s → slice_get sides j ≡ Some u → IsOutside l t domains s → IsOutside l t domains u
      → IsBoxStep (box_of l t sides) (family l t domains) (step_of l t answer.Same)
  two_outside i j s u below within at to out out' = inl (record {
    one = s.var.0;
    other = u.var.0;
    apart = λ e. let less = earlier sides i j s u are.ascending below at to in omega (arith, less, e);
    one_outside = outside_box i s (omega (arith, below, within)) at out;
    other_outside = outside_box j u within to out';
  })

  at_place : (k : ℕ) → k < length sides → (s : Side) × (slice_get sides k ≡ Some s)
  at_place k within = elim (slice_get_cases sides k).1 [
    | inl is ↦ (is.0, is.2)
    | inr past ↦ absurd (let beyond = past.0 in omega (arith, beyond, within))
  ]

  pub step_two : (at other : ℕ) → IsFirstOutside l t domains sides 0 (Some at) → IsFirstOutside l t domains sides (at + 1) (Some other)
      → IsBoxStep (box_of l t sides) (family l t domains) (step_of l t answer.Same)
  step_two at other first second =
      let s = at_place at first.1 in
      let u = at_place other second.1 in
      let after = second.0 in
      two_outside at other s.0 u.0 (omega (arith, after)) second.1 s.1 u.1 (first.2 s.0 s.1) (second.2 u.0 u.1)

  order_of : (m n : ℕ) → (m < n) ⊎ (n ≤ m)
  order_of m n = elim (nat_lt m n) as (λ b. nat_lt m n ≡ b → (m < n) ⊎ (n ≤ m)) [ true ↦ λ e. inl (ltb-true m n e) | false ↦ λ e. inr (ltb-false m n e) ] refl

  within_list : (k : ℕ) (s : Side) → slice_get sides k ≡ Some s → k < length sides
  within_list k s e = elim (slice_get_cases sides k).1 [
    | inl is ↦ is.1
    | inr past ↦ absurd (let f : Some s ≡ None = sym e ∙ past.1 in cc)
  ]

  -- after one that does not, all others do
  pub only_one : (at : ℕ) → IsFirstOutside l t domains sides 0 (Some at) → IsFirstOutside l t domains sides (at + 1) None → IsOnlyOutside l t domains sides at
  only_one at first rest = record {
    within = first.1;
    outside = first.2;
    others = λ k s ne e. elim (order_of k at) [
      | inl less ↦ first.3 k s (omega arith) less e
      | inr more ↦ rest k s (omega (arith, more, ne)) (within_list k s e) e
    ];
  }

-- ---- the side that does not hold its domain

module _ (laws : SetLaws) (l : LayoutState) (t u : Table) (sides : List Side) (domains : List Ref) (at : ℕ) (s : Side) (d r : Ref) (ok : IsLayout l) (reduced : IsReduced u) (grows : Grows t u)
    (are : AreSides l t sides) (domained : AreDomains l t domains) (only : IsOnlyOutside l t domains sides at) (here : slice_get sides at ≡ Some s) (there : slice_get domains s.var.0 ≡ Some d)
    (made : IsSetOf l u s.var (without (values_in l t s.var d) (values_in l t s.var s.set)) r) where
  abbrev b : ℕ → Value → Bool
  b = box_of l t sides

  abbrev f : ℕ → Value → Bool
  f = family l t domains

  abbrev v : ℕ
  v = s.var.0

  f_is : f v ≡ values_in l t s.var d
  f_is = family_at l t domains s.var d there

  b_is : b v ≡ values_in l t s.var s.set
  b_is = box_at l t sides at s are only.within here

  pub cut : values_in l u s.var r ≡ without (f v) (b v)
  cut = made.values ∙ ap (λ (g : Value → Bool). without g (values_in l t s.var s.set)) (sym f_is) ∙ ap (without (f v)) (sym b_is)

  outside : Leaves (f v) (b v)
  outside = subst (Leaves (f v)) (sym b_is) (only.outside s here)

  others : (n : ℕ) → n ≢ v → Lies (f n) (b n)
  others n ne = held_by_box l t sides domains n domained (λ k q within e same. only.others k q
      (λ j.
      let one : s ≡ q = same_some (slice_get sides at) s q here (subst (λ m. slice_get sides m ≡ Some q) j e) in
      ne (sym same ∙ ap (λ (x : Side). x.var.0) (sym one))) e)

  domain_set : IsValueSet l t s.var d
  domain_set = ((laws.domains l t s.var d).0 (domained.each s.var d there)).0

  left_at : (x : Value) → values_in l u s.var r x ≡ (values_in l t s.var d x && not (values_in l t s.var s.set x))
  left_at x = ap (λ (g : Value → Bool). g x) made.values

  domain_stays : values_in l u s.var d ≡ values_in l t s.var d
  domain_stays = (laws.grown l t u s.var d grows domain_set).1

  -- something was taken away: the two have a common value
  inside : r ≢ d → Meets (f v) (b v)
  inside ne = elim (laws.meet l t s.var d s.set) [
    | inl met ↦ subst (λ g. Meets g (b v)) (sym f_is) (subst (Meets (values_in l t s.var d)) (sym b_is) met)
    | inr apart ↦ absurd (ne (laws.one l u s.var r d ok reduced made.set (laws.grown l t u s.var d grows domain_set).0
        (λ x. left_at x ∙ kept_apart (values_in l t s.var d x) (values_in l t s.var s.set x) (apart x) ∙ sym (ap (λ (g : Value → Bool). g x) domain_stays))))
  ]

  pub step_narrowed : r ≢ d → IsBoxStep b f (step_of l u (answer.Narrowed s.var r))
  step_narrowed ne = record { others = others; outside = outside; inside = inside ne; stays = cut }

  -- nothing was: no value of the domain is in the side
  pub step_same : r ≡ d → IsBoxStep b f (step_of l u answer.Same)
  step_same e = inr (record {
    one = v;
    outside = outside;
    misses = λ x on.
        let in_domain : values_in l t s.var d x ≡ true = sym (ap (λ (g : Value → Bool). g x) f_is) ∙ on in
        let kept : values_in l u s.var r x ≡ true = subst (λ q. values_in l u s.var q x ≡ true) (sym e) (ap (λ (g : Value → Bool). g x) domain_stays ∙ in_domain) in
        let off = (both_are (values_in l t s.var d x) (not (values_in l t s.var s.set x)) (sym (left_at x) ∙ kept)).1 in
        ap (λ (g : Value → Bool). g x) b_is ∙ not_true (values_in l t s.var s.set x) off;
  })

  left_value : HasValue (without (f v) (b v))
  left_value = let o = outside in (o.0, both_from (f v o.0) (not (b v o.0)) o.1 (not_from (b v o.0) o.2))

  pub gives_domain : r ≢ d → GivesDomain l u f (answer.Narrowed s.var r)
  gives_domain ne =
      let m = inside ne in (
        (side_at l t sides at s are only.within here).known,
        (laws.domains l u s.var r).1 (made.set, subst HasValue (sym cut) left_value),
        subst (λ g. IsPart g (f v)) (sym cut) (record {
          lies = λ x on. (both_are (f v x) (not (b v x)) on).0;
          proper = (m.0, m.1, off_where (f v m.0) (b v m.0) m.2);
          has_value = left_value;
        }),
      )

-- the new nodes, whatever came of the call
pub parts_outside : (l : LayoutState) (t u : Table) (sides : List Side) (domains : List Ref) (at : ℕ) (s : Side) (d : Ref) → AreSides l t sides → at < length sides → slice_get sides at ≡ Some s
    → slice_get domains s.var.0 ≡ Some d → NewArePartsOfValues l s.var (without (values_in l t s.var d) (values_in l t s.var s.set)) t u → NewReachOnlyScope l (s.var ∷ []) t u
    → NewArePartsOutside l (box_of l t sides) (family l t domains) t u
parts_outside l t u sides domains at s d are within here there parts reach i none live = record {
  var = s.var;
  set = parts.0;
  words = subst (λ g. AreWordsOf l (s.var ∷ []) (AtVariable s.var (λ x. without g (box_of l t sides s.var.0) x ≡ true)) parts.0) (sym (family_at l t domains s.var d there))
      (subst (λ g. AreWordsOf l (s.var ∷ []) (AtVariable s.var (λ x. without (values_in l t s.var d) g x ≡ true)) parts.0) (sym (box_at l t sides at s are within here)) parts.1);
  part = parts.2 i none live;
  reach = λ bits covers. reach bits covers i none live;
}
