-- The scope of a constraint here and in the problem.
use Rattle.std.proofs.Common.{◌≡◌, ℕ, zero, suc, ◌<◌, ◌==◌, nat_lt, Bool, true, false, List, [], ◌∷◌, ◌++◌, length, Option, Some, None, refl, sym, ap, ◌∙◌, subst, inl, inr, Contains, IsTrue}
use Rattle.std.specs.Prelude.{slice_get, IsSomeAnd, option_map, option_to_list, IfSome, All}
use Rattle.std.specs.List.{list_any, filter_map, flat_map, AllZip}
use Rattle.std.specs.Option.{option_map_or}
use Rattle.std.proofs.lemmas.Bool.{ltb-true, ltb-false, lt-ltb, or_cases, eqb-true, eq-eqb}
use Rattle.std.proofs.lemmas.Option.{slice_get_past}
use Rattle.std.proofs.lemmas.List.Elements.{All-head, All-tail}
use Rattle.set_meaning.specs.declared.kinds.Kind.{Kind}
use Rattle.set_meaning.specs.declared.problems.VarId.{VarId}
use Rattle.set_meaning.specs.declared.problems.Term.{Term}
use Rattle.set_meaning.specs.declared.problems.Term.TheVariants.{Const, Var}
use Rattle.set_meaning.specs.declared.problems.Arg.{Arg}
use Rattle.set_meaning.specs.declared.problems.Arg.TheVariants.{One, Many}
use Rattle.set_meaning.specs.declared.problems.Constraint.{Constraint}
use Rattle.set_meaning.specs.declared.problems.Problem.{Problem}
use Rattle.set_meaning.specs.declared.rows.Sort.{Sort}
use Rattle.set_meaning.specs.declared.rows.Sort.TheVariants.{Boolean}
use Rattle.set_meaning.specs.declared.rows.Shape.{Shape}
use Rattle.set_meaning.specs.declared.rows.Shape.TheVariants.{OneOf, ManyOf, ConstantOf, ConstantsOf}
use Rattle.set_meaning.specs.Problems.{IsProblem}
use Rattle.set_meaning.specs.Rows.{sort_of_kind, HasSort, IsConstantOf, HasShape, shapes_of, row_of, FitsRow}
use Rattle.set_meaning.specs.Relations.{Holds, terms_of, variable_of, variables_of, IsScope}
use Rattle.bit_layout.specs.Order.{LayoutState}
use Rattle.bit_layout.proofs.Rising.{nothing_in_empty, in_cons, in_head, in_tail}
use Rattle.exact_steps.specs.Domains.{variable}
use Rattle.exact_steps.specs.Rules.{listed, IsConstraintOf}
use Rattle.exact_steps.proofs.Values.{both_are, both_from, or_left, or_right}
use Rattle.problem_rules.specs.Parts.{values_of, stands_in}
use Rattle.problem_rules.specs.Readings.{Each}
use Rattle.problem_rules.specs.Posed.{problem_of}

-- ---- members as a test

found : (vs : List VarId) (v : VarId) → list_any (λ u. u.0 == v.0) vs ≡ true → Contains vs v
found [] v h = absurd (let e : false ≡ true = h in cc)
found (u ∷ vs) v h = elim (or_cases (u.0 == v.0) (list_any (λ u. u.0 == v.0) vs) h) [
  | inl here ↦ subst (λ w. Contains (u ∷ vs) w) (ap variable (eqb-true u.0 v.0 here)) (in_head u vs)
  | inr later ↦ in_tail u vs v (found vs v later)
]

finds : (vs : List VarId) (v : VarId) → Contains vs v → list_any (λ u. u.0 == v.0) vs ≡ true
finds [] v h = absurd (nothing_in_empty v h)
finds (u ∷ vs) v h = elim (in_cons u vs v h) [
  | inl here ↦ or_left (u.0 == v.0) (list_any (λ u. u.0 == v.0) vs) (eq-eqb u.0 v.0 (ap (λ (w : VarId). w.0) here))
  | inr later ↦ or_right (u.0 == v.0) (list_any (λ u. u.0 == v.0) vs) (finds vs v later)
]

-- ---- the variables of a constraint that fits its row are variables of the problem

module _ (kinds : List Kind) where
  abbrev Known : VarId → Type 0
  Known v = v.0 < length kinds

  known_sort : (sort : Sort) (v : VarId) → option_map sort_of_kind (slice_get kinds v.0) ≡ Some sort → Known v
  known_sort sort v h = elim (nat_lt v.0 (length kinds)) as (λ t. nat_lt v.0 (length kinds) ≡ t → Known v) [
    | true ↦ λ is. ltb-true v.0 (length kinds) is
    | false ↦ λ is. absurd (let past = slice_get_past kinds v.0 (ltb-false v.0 (length kinds) is) in
        let e : None ≡ Some sort = sym (ap (option_map sort_of_kind) past) ∙ h in cc)
  ] refl

  known_term : (sort : Sort) (t : Term) (ts : List Term) → HasSort kinds sort t → Each Known (filter_map variable_of ts) → Each Known (filter_map variable_of (t ∷ ts))
  known_term sort (Const x) ts h rest = rest
  known_term sort (Var v) ts h rest = (known_sort sort v h, rest)

  known_many : (sort : Sort) (ts : List Term) → All (HasSort kinds sort) ts → Each Known (filter_map variable_of ts)
  known_many sort [] h = tt
  known_many sort (t ∷ ts) h = known_term sort t ts (All-head (HasSort kinds sort) t ts h) (known_many sort ts (All-tail (HasSort kinds sort) t ts h))

  constant_term : (sort : Sort) (t : Term) (ts : List Term) → IsConstantOf sort t → Each Known (filter_map variable_of ts) → Each Known (filter_map variable_of (t ∷ ts))
  constant_term sort (Const x) ts h rest = rest
  constant_term sort (Var v) ts h rest = absurd h

  known_constants : (sort : Sort) (ts : List Term) → All (IsConstantOf sort) ts → Each Known (filter_map variable_of ts)
  known_constants sort [] h = tt
  known_constants sort (t ∷ ts) h = constant_term sort t ts (All-head (IsConstantOf sort) t ts h) (known_constants sort ts (All-tail (IsConstantOf sort) t ts h))

  known_arg : (shape : Shape) (a : Arg) → HasShape kinds shape a → Each Known (filter_map variable_of (terms_of a))
  known_arg (OneOf sort) (One t) h = known_term sort t [] h tt
  known_arg (OneOf sort) (Many ts) h = absurd h
  known_arg (ManyOf sort) (One t) h = absurd h
  known_arg (ManyOf sort) (Many ts) h = known_many sort ts h
  known_arg (ConstantOf sort) (One t) h = constant_term sort t [] h tt
  known_arg (ConstantOf sort) (Many ts) h = absurd h
  known_arg (ConstantsOf sort) (One t) h = absurd h
  known_arg (ConstantsOf sort) (Many ts) h = known_constants sort ts h

  both_known : (ts us : List Term) → Each Known (filter_map variable_of ts) → Each Known (filter_map variable_of us) → Each Known (filter_map variable_of (ts ++ us))
  both_known [] us h k = k
  both_known (Const x ∷ ts) us h k = both_known ts us h k
  both_known (Var v ∷ ts) us h k = (h.0, both_known ts us h.1 k)

  known_args : (shapes : List Shape) (args : List Arg) → AllZip (HasShape kinds) shapes args → Each Known (filter_map variable_of (flat_map terms_of args))
  known_args [] [] h = tt
  known_args [] (a ∷ args) h = absurd h
  known_args (s ∷ shapes) [] h = absurd h
  known_args (s ∷ shapes) (a ∷ args) h = both_known (terms_of a) (flat_map terms_of args) (known_arg s a h.0) (known_args shapes args h.1)

  known_reif : (reifiable : Bool) (reif : Option Term) → IfSome reif (λ t. IsTrue reifiable × HasSort kinds Boolean t) → Each Known (filter_map variable_of (option_to_list reif))
  known_reif reifiable None h = tt
  known_reif reifiable (Some t) h = known_term Boolean t [] h.1 tt

  variables_known : (c : Constraint) → FitsRow kinds c → Each Known (variables_of c)
  variables_known c fits = both_known (flat_map terms_of c.args) (option_to_list c.reif)
      (known_args (shapes_of (row_of c.relation)) c.args fits.args) (known_reif (row_of c.relation).reifiable c.reif fits.reif)

each_in : (P : VarId → Type 0) (vs : List VarId) (v : VarId) → Each P vs → Contains vs v → P v
each_in P [] v h k = absurd (nothing_in_empty v k)
each_in P (u ∷ vs) v h k = elim (in_cons u vs v k) [
  | inl here ↦ subst P here h.0
  | inr later ↦ each_in P vs v h.1 later
]

-- a constraint that fits its row speaks of variables of the problem
pub variable_known : (kinds : List Kind) (c : Constraint) (v : VarId) → FitsRow kinds c → Contains (variables_of c) v → v.0 < length kinds
variable_known kinds c v fits h = each_in (λ (v : VarId). v.0 < length kinds) (variables_of c) v (variables_known kinds c fits) h

-- ---- the law

fits_at : (kinds : List Kind) (cs : List Constraint) (c : ℕ) (k : Constraint) → All (FitsRow kinds) cs → slice_get cs c ≡ Some k → FitsRow kinds k
fits_at kinds [] c k all e = absurd (let f : None ≡ Some k = e in cc)
fits_at kinds (x ∷ cs) zero k all e = subst (FitsRow kinds) (let f : Some x ≡ Some k = e in cc) (All-head (FitsRow kinds) x cs all)
fits_at kinds (x ∷ cs) (suc c) k all e = fits_at kinds cs c k (All-tail (FitsRow kinds) x cs all) e

pub constraint_here : (p : Problem) (l : LayoutState) (c : ℕ) (k : Constraint) (scope : List VarId) → IsProblem p → l.kinds ≡ p.kinds → slice_get p.constraints c ≡ Some k → IsScope k scope
    → IsConstraintOf (problem_of p) c l scope (Holds k)
constraint_here p l c k scope legal same at is = record {
  scoped = λ v. (
    λ h. let two = both_are (option_map_or (stands_in v) (slice_get p.constraints c) false) (nat_lt v (length p.kinds)) h in
        (is.members (variable v)).1 (found (variables_of k) (variable v) (sym (ap (λ o. option_map_or (stands_in v) o false) at) ∙ two.0)),
    λ h. let stands = (is.members (variable v)).0 h in
        both_from (option_map_or (stands_in v) (slice_get p.constraints c) false) (nat_lt v (length p.kinds))
        (ap (λ o. option_map_or (stands_in v) o false) at ∙ finds (variables_of k) (variable v) stands)
        (lt-ltb v (length p.kinds) (variable_known p.kinds k (variable v) (fits_at p.kinds p.constraints c k legal.constraints at) stands)),
  );
  holds = λ a. (
    λ h. subst (λ kinds. Holds k (listed (length kinds) a)) (sym same) (subst (λ o. IsSomeAnd o (λ k. Holds k (values_of p a))) at h),
    λ h. subst (λ o. IsSomeAnd o (λ k. Holds k (values_of p a))) (sym at) (subst (λ kinds. Holds k (listed (length kinds) a)) same h),
  );
}
