-- The sides of stored boxes, of conflicts and of reasons.
use Rattle.std.proofs.Common.{◌≡◌, ◌≢◌, ◌⊎◌, ℕ, ◌<◌, ◌==◌, Bool, true, false, cond, not, ◌&&◌, List, [], ◌∷◌, length, map, Option, Some, refl, sym, ap, ◌∙◌, subst, inl, inr, Contains, eq-eqb}
use Rattle.std.specs.Prelude.{slice_get, slice_index_or, if◌then◌else◌}
use Rattle.std.specs.Option.{option_map_or}
use Rattle.std.proofs.lemmas.Bool.{cases_eq, ne_eqb}
use Rattle.std.proofs.lemmas.List.Elements.{All-contains, All-map, All-head, All-tail}
use Rattle.std.proofs.lemmas.Option.{slice_get-get_or}
use Rattle.set_meaning.specs.declared.kinds.Value.{Value}
use Rattle.set_meaning.specs.declared.problems.VarId.{VarId}
use Rattle.set_meaning.specs.declared.problems.Constraint.{Constraint}
use Rattle.set_meaning.specs.declared.problems.Problem.{Problem}
use Rattle.set_meaning.specs.Relations.{Holds}
use Rattle.bit_layout.specs.Order.{LayoutState}
use Rattle.bit_layout.proofs.Rising.{nothing_in_empty, in_cons}
use Rattle.diagram_arena.specs.declared.nodes.Ref.{Ref}
use Rattle.diagram_arena.specs.declared.nodes.Ref.TheVariants.{Zero}
use Rattle.diagram_arena.specs.Table.{Table}
use Rattle.search_rules.specs.Family.{without, put}
use Rattle.search_rules.specs.Walk.{conflict_box, narrowing_box}
use Rattle.exact_steps.specs.Domains.{variable, values_in, family}
use Rattle.exact_steps.specs.Rules.{IsConstraintOf}
use Rattle.problem_rules.specs.Parts.{initial_set}
use Rattle.problem_rules.specs.Posed.{problem_of}
use Rattle.value_sets.specs.Sets.{IsSetOf}
use Rattle.box_clauses.specs.declared.sides.Side.{Side}
use Rattle.box_clauses.specs.Boxes.{box_of, IsSide, AreSides}
use Rattle.running_boxes.specs.Running.{AreRunning}
use Rattle.running_boxes.specs.Work.{side_with, domain_sides, removed_sides, IsSideOf, NoneIsOf, AreSidesOf}
use Rattle.running_boxes.proofs.Lists.{all_from, found, found_none}
use Rattle.running_boxes.proofs.Places.{family_here}

-- ---- a box in store

module _ (l : LayoutState) (t : Table) (sides : List Side) (are : AreSides l t sides) where
  pub box_here : (s : Side) → Contains sides s → box_of l t sides s.var.0 ≡ values_in l t s.var s.set
  box_here s h = ap (λ (o : Option Side). λ x. option_map_or (λ (q : Side). values_in l t s.var q.set x) o (initial_set l.kinds s.var.0 x)) (found sides s are.ascending h)

  pub box_beside : (v : ℕ) → NoneIsOf v sides → box_of l t sides v ≡ initial_set l.kinds v
  box_beside v none = ap (λ (o : Option Side). λ x. option_map_or (λ (q : Side). values_in l t (variable v) q.set x) o (initial_set l.kinds v x)) (found_none sides v none)

  pub sides_of_box : AreSidesOf l t (box_of l t sides) sides
  sides_of_box = record {
    each = all_from (IsSideOf l t (box_of l t sides)) sides (λ s h. record { side = All-contains (IsSide l t) sides s are.each h; values = sym (box_here s h) });
    others = box_beside;
  }

-- ---- sides of the variables of a scope

-- of a list made of the variables, one is of each
none_of_scope : (f : VarId → Side) (vs : List VarId) (v : VarId) → ((u : VarId) → (f u).var ≡ u) → NoneIsOf v.0 (map f vs) → Contains vs v → ⊥
none_of_scope f [] v own none h = nothing_in_empty v h
none_of_scope f (u ∷ vs) v own none h = elim (in_cons u vs v h) [
  | inl same ↦ All-head (λ (s : Side). s.var.0 ≢ v.0) (f u) (map f vs) none (ap (λ (z : VarId). z.0) (own u ∙ same))
  | inr later ↦ none_of_scope f vs v own (All-tail (λ (s : Side). s.var.0 ≢ v.0) (f u) (map f vs) none) later
]

module _ (p : Problem) (l : LayoutState) (t : Table) (c : ℕ) (con : Constraint) (scope : List VarId) (domains : List Ref) (same : l.kinds ≡ p.kinds) (is : IsConstraintOf (problem_of p) c l scope (Holds con))
    (are : AreRunning l t domains) where
  known : (v : VarId) → Contains scope v → v.0 < length l.kinds
  known v h = subst (λ kinds. v.0 < length kinds) (sym same) ((problem_of p).scoped c v.0 ((is.scoped v.0).1 h))

  at_domain : (v : VarId) → v.0 < length l.kinds → slice_get domains v.0 ≡ Some (slice_index_or domains v.0 Zero)
  at_domain v within = slice_get-get_or domains v.0 Zero (subst (λ n. v.0 < n) (sym are.long) within)

  domain_side : (v : VarId) → v.0 < length l.kinds → IsSide l t (side_with v (slice_index_or domains v.0 Zero))
  domain_side v within = record { known = within; set = (are.each v (slice_index_or domains v.0 Zero) (at_domain v within)) }

  out_of_scope : (v : ℕ) → (Contains scope (variable v) → ⊥) → (problem_of p).scope c v ≡ false
  out_of_scope v none = elim ((problem_of p).scope c v) as (λ b. (problem_of p).scope c v ≡ b → (problem_of p).scope c v ≡ false) [
    | true ↦ λ on. absurd (none ((is.scoped v).0 on))
    | false ↦ λ off. off
  ] refl

  initial_same : (problem_of p).initial ≡ initial_set l.kinds
  initial_same = ap initial_set (sym same)

  conflict_in : (f : ℕ → Value → Bool) (v : VarId) → Contains scope v → conflict_box (problem_of p) c f v.0 ≡ f v.0
  conflict_in f v h = ap (λ b. λ x. cond b (f v.0 x) ((problem_of p).initial v.0 x)) ((is.scoped v.0).1 h)

  conflict_out : (f : ℕ → Value → Bool) (v : ℕ) → (Contains scope (variable v) → ⊥) → conflict_box (problem_of p) c f v ≡ initial_set l.kinds v
  conflict_out f v none =
      ap (λ b. λ x. cond b (f v x) ((problem_of p).initial v x)) (out_of_scope v none) ∙ ap (λ (g : ℕ → Value → Bool). g v) initial_same

  -- ---- the box of a violated constraint

  pub sides_of_conflict : AreSidesOf l t (conflict_box (problem_of p) c (family l t domains)) (domain_sides domains scope)
  sides_of_conflict = record {
    each = All-map (IsSideOf l t (conflict_box (problem_of p) c (family l t domains))) (λ (v : VarId). side_with v (slice_index_or domains v.0 Zero)) scope
        (all_from (λ (v : VarId). IsSideOf l t (conflict_box (problem_of p) c (family l t domains)) (side_with v (slice_index_or domains v.0 Zero))) scope (λ v h. record {
          side = domain_side v (known v h);
          values = sym (conflict_in (family l t domains) v h ∙ family_here l t domains v (slice_index_or domains v.0 Zero) (at_domain v (known v h)));
        }));
    others = λ v none. conflict_out (family l t domains) v (none_of_scope (λ (u : VarId). side_with u (slice_index_or domains u.0 Zero)) scope (variable v) (λ u. refl) none);
  }

  -- ---- the reason box of a narrowing

  module _ (v : VarId) (s : Value → Bool) (removed : Ref) (within : v.0 < length l.kinds) (made : IsSetOf l t v (without s (family l t domains v.0)) removed) where
    abbrev reason : ℕ → Value → Bool
    reason = narrowing_box (problem_of p) c (put (family l t domains) v.0 s) v.0 (family l t domains v.0)

    abbrev side_at : VarId → Side
    side_at u = side_with u (if u.0 == v.0 then removed else slice_index_or domains u.0 Zero)

    reason_here : reason v.0 ≡ without s (family l t domains v.0)
    reason_here =
        let on : (v.0 == v.0) ≡ true = eq-eqb v.0 v.0 refl in
        ap (λ b. λ x. cond b ((cond b s (family l t domains v.0)) x && not (family l t domains v.0 x)) (conflict_box (problem_of p) c (put (family l t domains) v.0 s) v.0 x)) on

    reason_other : (u : ℕ) → (u ≡ v.0 → ⊥) → reason u ≡ conflict_box (problem_of p) c (family l t domains) u
    reason_other u ne =
        let off : (u == v.0) ≡ false = ne_eqb u v.0 ne in
        ap (λ b. λ x. cond b ((cond b s (family l t domains u)) x && not (family l t domains v.0 x)) (cond ((problem_of p).scope c u) ((cond b s (family l t domains u)) x) ((problem_of p).initial u x))) off

    side_is : (u : VarId) → Contains scope u → IsSideOf l t reason (side_at u)
    side_is u h = elim (cases_eq u.0 v.0) [
      | inl same ↦
          let u_is : v ≡ u = ap variable (sym same) in
          subst (λ (z : VarId). IsSideOf l t reason (side_at z)) u_is (subst (λ b. IsSideOf l t reason (side_with v (if b then removed else slice_index_or domains v.0 Zero))) (sym (eq-eqb v.0 v.0 refl))
          (record { side = record { known = within; set = made.set }; values = made.values ∙ sym reason_here }))
      | inr other ↦
          subst (λ b. IsSideOf l t reason (side_with u (if b then removed else slice_index_or domains u.0 Zero))) (sym (ne_eqb u.0 v.0 other)) (record {
            side = domain_side u (known u h);
            values = sym (reason_other u.0 other ∙ conflict_in (family l t domains) u h ∙ family_here l t domains u (slice_index_or domains u.0 Zero) (at_domain u (known u h)));
          })
    ]

    -- v is of the scope
    module _ (scoped : (problem_of p).scope c v.0 ≡ true) where
      pub sides_of_reason : AreSidesOf l t reason (removed_sides domains v removed scope)
      sides_of_reason = record {
        each = All-map (IsSideOf l t reason) side_at scope (all_from (λ (u : VarId). IsSideOf l t reason (side_at u)) scope side_is);
        others = λ u none.
            let out : Contains scope (variable u) → ⊥ = none_of_scope side_at scope (variable u) (λ z. refl) none in
            reason_other u (λ e. out (subst (λ z. Contains scope (variable z)) (sym e) ((is.scoped v.0).0 scoped))) ∙ conflict_out (family l t domains) u out;
      }

      pub narrowed_listed : NoneIsOf v.0 (removed_sides domains v removed scope) → ⊥
      narrowed_listed none = none_of_scope side_at scope v (λ z. refl) none ((is.scoped v.0).0 scoped)

-- a side of the reason box is that of the removed values, or that of a domain
pub removed_cases : (domains : List Ref) (v : VarId) (removed : Ref) (scope : List VarId) (s : Side) → Contains (removed_sides domains v removed scope) s
    → (s ≡ side_with v removed) ⊎ (s.set ≡ slice_index_or domains s.var.0 Zero)
removed_cases domains v removed [] s h = absurd (nothing_in_empty s h)
removed_cases domains v removed (u ∷ scope) s h = elim (in_cons (side_with u (if u.0 == v.0 then removed else slice_index_or domains u.0 Zero)) (removed_sides domains v removed scope) s h) [
  | inl is ↦ elim (cases_eq u.0 v.0) [
    | inl same ↦ inl (sym is ∙ ap (λ b. side_with u (if b then removed else slice_index_or domains u.0 Zero)) (eq-eqb u.0 v.0 same) ∙ ap (λ (n : ℕ). side_with (variable n) removed) same)
    | inr other ↦ inr (sym (ap (λ (x : Side). x.set) is) ∙ ap (λ b. if b then removed else slice_index_or domains u.0 Zero) (ne_eqb u.0 v.0 other) ∙ ap (λ (x : Side). slice_index_or domains x.var.0 Zero) is)
  ]
  | inr later ↦ removed_cases domains v removed scope s later
]
