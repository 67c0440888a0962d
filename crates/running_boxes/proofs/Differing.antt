-- The sides of a running box that differ from the initial domains, place by place.
use Rattle.std.proofs.Common.{◌≡◌, ◌≢◌, ◌⊎◌, ℕ, ◌+◌, ◌<◌, ◌≤◌, true, false, List, [], ◌∷◌, ◌++◌, length, get_or, Option, None, Some, sym, ap, ◌∙◌, subst, inl, inr, arith, Contains}
use Rattle.std.specs.Prelude.{slice_get}
use Rattle.std.specs.List.{All, AllByRecursion, list_any}
use Rattle.std.specs.Option.{option_map_or}
use Rattle.std.specs.Ordering.{nat_cmp}
use Rattle.std.specs.List.Sorted.{IsStrictlySortedBy}
use Rattle.std.specs.declared.cmp.Ordering.TheVariants.{Less}
use Rattle.std.proofs.Math.Path.{fun_ext}
use Rattle.std.proofs.lemmas.Bool.{cases_eq}
use Rattle.std.proofs.lemmas.Bool.Decides.{nat_tests}
use Rattle.std.proofs.lemmas.List.Elements.{All-weaker, All-head, All-tail, All-cons, All-nil, All-append, All-contains}
use Rattle.std.proofs.lemmas.Option.{slice_get-get_or, slice_get_cases, slice_get_past}
use Rattle.set_meaning.specs.declared.kinds.Kind.{Kind}
use Rattle.set_meaning.specs.Kinds.{initial_values}
use Rattle.bit_layout.specs.Order.{LayoutState}
use Rattle.bit_layout.proofs.Rising.{in_head, in_tail}
use Rattle.diagram_arena.specs.declared.nodes.Ref.{Ref}
use Rattle.diagram_arena.specs.declared.nodes.Ref.TheVariants.{Zero}
use Rattle.diagram_arena.specs.Table.{Table}
use Rattle.exact_steps.specs.Domains.{variable, same_value, values_in, family}
use Rattle.problem_rules.specs.Parts.{initial_set}
use Rattle.propagators.specs.Compiled.{AreInitialDomains}
use Rattle.box_clauses.specs.declared.sides.Side.{Side}
use Rattle.box_clauses.specs.Boxes.{box_of, IsSide, AreSides}
use Rattle.running_boxes.specs.Running.{AreRunning, AreSidesOfRunning}
use Rattle.running_boxes.specs.Work.{NoneIsOf}
use Rattle.running_boxes.proofs.Lists.{ascend}
use Rattle.running_boxes.proofs.Places.{family_here}
use Rattle.running_boxes.proofs.Sides.{box_here, box_beside}
use Rattle.running_boxes.proofs.Resolvents.{whole_is}

-- the side is the running box's at its variable, which is below n
pub record IsListed (running : List Ref) (n : ℕ) (s : Side) : Type 0 where
  pub below : s.var.0 < n
  pub at : slice_get running s.var.0 ≡ Some s.set

-- the sides that differ among the first n variables
pub record AreListed (start running : List Ref) (n : ℕ) (sides : List Side) : Type 0 where
  pub ascending : IsStrictlySortedBy ascend sides
  pub each : All (IsListed running n) sides
  pub others : (v : ℕ) → v < n → NoneIsOf v sides → slice_get running v ≡ slice_get start v

-- ---- one place more

is_less : (x s : Side) → x.var.0 < s.var.0 → ascend x s ≡ Less
is_less x s less = at x.var.0 s.var.0 less
  where
    at : (m n : ℕ) → m < n → nat_cmp m n ≡ Less
    at m n h = grind (arith, nat_tests)

push_less : (P : Side → Type 0) (xs : List Side) (s : Side) → AllByRecursion P xs → P s → AllByRecursion P (xs ++ s ∷ [])
push_less P [] s h p = (p, tt)
push_less P (x ∷ xs) s h p = (h.0, push_less P xs s h.1 p)

pub push_ascends : (sides : List Side) (s : Side) → IsStrictlySortedBy ascend sides → All (λ (x : Side). x.var.0 < s.var.0) sides → IsStrictlySortedBy ascend (sides ++ s ∷ [])
unfolding IsStrictlySortedBy
push_ascends [] s up below = (tt, tt)
push_ascends (x ∷ sides) s up below =
    let less : ascend x s ≡ Less = is_less x s (All-head (λ (x : Side). x.var.0 < s.var.0) x sides below) in
    (push_less (λ y. ascend x y ≡ Less) sides s up.0 less, push_ascends sides s up.1 (All-tail (λ (x : Side). x.var.0 < s.var.0) x sides below))

none_front : (sides : List Side) (s : Side) (v : ℕ) → NoneIsOf v (sides ++ s ∷ []) → NoneIsOf v sides × (s.var.0 ≢ v)
none_front [] s v none = (All-nil (λ (x : Side). x.var.0 ≢ v), All-head (λ (x : Side). x.var.0 ≢ v) s [] none)
none_front (x ∷ sides) s v none =
    let rest = none_front sides s v (All-tail (λ (x : Side). x.var.0 ≢ v) x (sides ++ s ∷ []) none) in
    (All-cons (λ (x : Side). x.var.0 ≢ v) x sides (All-head (λ (x : Side). x.var.0 ≢ v) x (sides ++ s ∷ []) none) rest.0, rest.1)

module _ (start running : List Ref) (n : ℕ) (sides : List Side) (are : AreListed start running n sides) where
  pub listed_more : (s : Side) → s.var.0 ≡ n → slice_get running n ≡ Some s.set → AreListed start running (n + 1) (sides ++ s ∷ [])
  listed_more s place at = record {
    ascending = push_ascends sides s are.ascending (All-weaker (IsListed running n) (λ (x : Side). x.var.0 < s.var.0) (λ x is. let b = is.below in omega (arith, b, place)) sides are.each);
    each =
        All-append (IsListed running (n + 1)) sides (s ∷ []) (All-weaker (IsListed running n) (IsListed running (n + 1)) (λ x is. record { below = let b = is.below in omega (arith, b); at = is.at }) sides are.each)
        (All-cons (IsListed running (n + 1)) s [] (record { below = omega (arith, place); at = subst (λ k. slice_get running k ≡ Some s.set) (sym place) at }) (All-nil (IsListed running (n + 1))));
    others = λ v within none. let two = none_front sides s v none in let other = two.1 in are.others v (omega (arith, within, place, other)) two.0;
  }

  pub listed_same : slice_get running n ≡ slice_get start n → AreListed start running (n + 1) sides
  listed_same same = record {
    ascending = are.ascending;
    each = All-weaker (IsListed running n) (IsListed running (n + 1)) (λ x is. record { below = let b = is.below in omega (arith, b); at = is.at }) sides are.each;
    others = λ v within none. elim (cases_eq v n) [
      | inl here ↦ subst (λ k. slice_get running k ≡ slice_get start k) (sym here) same
      | inr other ↦ are.others v (omega (arith, within, other)) none
    ];
  }

pub listed_none : (start running : List Ref) → AreListed start running 0 []
unfolding IsStrictlySortedBy
listed_none start running = record { ascending = tt; each = All-nil (IsListed running 0); others = λ v within none. absurd (omega (arith, within)) }

-- ---- all places

-- a side of the variable, or none
cases_listed : (sides : List Side) (v : ℕ) → ((s : Side) × Contains sides s × (s.var.0 ≡ v)) ⊎ NoneIsOf v sides
cases_listed [] v = inr (All-nil (λ (s : Side). s.var.0 ≢ v))
cases_listed (s ∷ sides) v = elim (cases_eq s.var.0 v) [
  | inl same ↦ inl (s, in_head s sides, same)
  | inr other ↦ elim (cases_listed sides v) [
    | inl is ↦ inl (is.0, in_tail s sides is.0 is.1, is.2)
    | inr none ↦ inr (All-cons (λ (s : Side). s.var.0 ≢ v) s sides other none)
  ]
]

module _ (l : LayoutState) (t : Table) (start running : List Ref) (initial : AreInitialDomains l t start) (are : AreRunning l t running) where
  initial_at : (v : ℕ) → family l t start v ≡ initial_set l.kinds v
  initial_at v = elim (slice_get_cases l.kinds v).1 [
    | inl is ↦
        let within : v < length start = subst (λ n. v < n) (sym initial.long) is.1 in
        let r : Ref = get_or start v Zero in
        let there : slice_get start v ≡ Some r = slice_get-get_or start v Zero within in
        family_here l t start (variable v) r there ∙ whole_is l t (variable v) r (initial.each (variable v) r there)
        ∙ ap (λ (q : Option Kind). λ x. option_map_or (λ (k : Kind). list_any (same_value x) (initial_values k)) q false) is.2
        ∙ sym (ap (λ (q : Option Kind). λ x. option_map_or (λ (k : Kind). list_any (same_value x) (initial_values k)) q true) is.2)
    | inr past ↦
        let none : slice_get start v ≡ None = slice_get_past start v (subst (λ n. n ≤ v) (sym initial.long) past.0) in
        ap (λ o. λ x. option_map_or (λ r. values_in l t (variable v) r x) o true) none
        ∙ sym (ap (λ (q : Option Kind). λ x. option_map_or (λ (k : Kind). list_any (same_value x) (initial_values k)) q true) past.1)
  ]

  module _ (n : ℕ) (sides : List Side) (whole : n ≡ length running) (listed : AreListed start running n sides) where
    is_side : (s : Side) → IsListed running n s → IsSide l t s
    is_side s is = record { known = subst (λ k. s.var.0 < k) (whole ∙ are.long) is.below; set = are.each s.var s.set is.at }

    sides_are : AreSides l t sides
    sides_are = record { ascending = listed.ascending; each = All-weaker (IsListed running n) (IsSide l t) is_side sides listed.each }

    same_elsewhere : (v : ℕ) → NoneIsOf v sides → slice_get running v ≡ slice_get start v
    same_elsewhere v none = elim (slice_get_cases running v).1 [
      | inl is ↦ listed.others v (subst (λ k. v < k) (sym whole) is.1) none
      | inr past ↦ past.1 ∙ sym (slice_get_past start v (subst (λ k. k ≤ v) (are.long ∙ sym initial.long) past.0))
    ]

    at : (v : ℕ) → box_of l t sides v ≡ family l t running v
    at v = elim (cases_listed sides v) [
      | inl is ↦ subst (λ k. box_of l t sides k ≡ family l t running k) is.2
          (box_here l t sides sides_are is.0 is.1 ∙ sym (family_here l t running is.0.var is.0.set (All-contains (IsListed running n) sides is.0 listed.each is.1).at))
      | inr none ↦ box_beside l t sides sides_are v none ∙ sym (initial_at v) ∙ sym (ap (λ o. λ x. option_map_or (λ r. values_in l t (variable v) r x) o true) (same_elsewhere v none))
    ]

    pub sides_of_running : AreSidesOfRunning l t running sides
    sides_of_running = record { ascending = sides_are; values = fun_ext at }
