-- The variables of a constraint that fits its row.
use Rattle.std.proofs.Common.{◌≡◌, ◌<◌, get_or, nat_lt, true, false, List, [], ◌∷◌, ◌++◌, length, Option, Some, None, refl, sym, ap, ◌∙◌, subst, inl, inr, Contains, IsTrue, Bool}
use Rattle.std.specs.Prelude.{slice_get, option_map, option_to_list, IfSome, All}
use Rattle.std.specs.List.{filter_map, flat_map, AllZip}
use Rattle.std.proofs.lemmas.Bool.{ltb-true, ltb-false}
use Rattle.std.proofs.lemmas.Option.{slice_get_past}
use Rattle.std.proofs.lemmas.List.Elements.{All-head, All-tail, Contains-get_or}
use Rattle.set_meaning.specs.declared.kinds.Kind.{Kind}
use Rattle.set_meaning.specs.declared.problems.VarId.{VarId}
use Rattle.set_meaning.specs.declared.problems.Term.{Term}
use Rattle.set_meaning.specs.declared.problems.Term.TheVariants.{Const, Var}
use Rattle.set_meaning.specs.declared.problems.Arg.{Arg}
use Rattle.set_meaning.specs.declared.problems.Arg.TheVariants.{One, Many}
use Rattle.set_meaning.specs.declared.problems.Constraint.{Constraint}
use Rattle.set_meaning.specs.declared.rows.Sort.{Sort}
use Rattle.set_meaning.specs.declared.rows.Sort.TheVariants.{Boolean}
use Rattle.set_meaning.specs.declared.rows.Shape.{Shape}
use Rattle.set_meaning.specs.declared.rows.Shape.TheVariants.{OneOf, ManyOf, ConstantOf, ConstantsOf}
use Rattle.set_meaning.specs.Rows.{sort_of_kind, HasSort, IsConstantOf, HasShape, shapes_of, row_of, FitsRow}
use Rattle.set_meaning.specs.Relations.{IsScope, terms_of, variable_of, variables_of}
use Rattle.bit_layout.proofs.Rising.{nothing_in_empty, in_cons}
use Rattle.sweep_shapes.proofs.Alike.{Each}

-- ---- the variables of a constraint that fits its row are variables of the problem

module _ (kinds : List Kind) where
  abbrev Known : VarId → Type 0
  Known v = v.0 < length kinds

  known_sort : (sort : Sort) (v : VarId) → option_map sort_of_kind (slice_get kinds v.0) ≡ Some sort → Known v
  known_sort sort v h = elim (nat_lt v.0 (length kinds)) as (λ t. nat_lt v.0 (length kinds) ≡ t → Known v) [
    | true ↦ λ is. ltb-true v.0 (length kinds) is
    | false ↦ λ is. absurd (let past = slice_get_past kinds v.0 (ltb-false v.0 (length kinds) is) in
        let e : None ≡ Some sort = sym (ap (option_map sort_of_kind) past) ∙ h in cc)
  ] refl

  known_term : (sort : Sort) (t : Term) (ts : List Term) → HasSort kinds sort t → Each Known (filter_map variable_of ts) → Each Known (filter_map variable_of (t ∷ ts))
  known_term sort (Const x) ts h rest = rest
  known_term sort (Var v) ts h rest = (known_sort sort v h, rest)

  known_many : (sort : Sort) (ts : List Term) → All (HasSort kinds sort) ts → Each Known (filter_map variable_of ts)
  known_many sort [] h = tt
  known_many sort (t ∷ ts) h = known_term sort t ts (All-head (HasSort kinds sort) t ts h) (known_many sort ts (All-tail (HasSort kinds sort) t ts h))

  constant_term : (sort : Sort) (t : Term) (ts : List Term) → IsConstantOf sort t → Each Known (filter_map variable_of ts) → Each Known (filter_map variable_of (t ∷ ts))
  constant_term sort (Const x) ts h rest = rest
  constant_term sort (Var v) ts h rest = absurd h

  known_constants : (sort : Sort) (ts : List Term) → All (IsConstantOf sort) ts → Each Known (filter_map variable_of ts)
  known_constants sort [] h = tt
  known_constants sort (t ∷ ts) h = constant_term sort t ts (All-head (IsConstantOf sort) t ts h) (known_constants sort ts (All-tail (IsConstantOf sort) t ts h))

  known_arg : (shape : Shape) (a : Arg) → HasShape kinds shape a → Each Known (filter_map variable_of (terms_of a))
  known_arg (OneOf sort) (One t) h = known_term sort t [] h tt
  known_arg (OneOf sort) (Many ts) h = absurd h
  known_arg (ManyOf sort) (One t) h = absurd h
  known_arg (ManyOf sort) (Many ts) h = known_many sort ts h
  known_arg (ConstantOf sort) (One t) h = constant_term sort t [] h tt
  known_arg (ConstantOf sort) (Many ts) h = absurd h
  known_arg (ConstantsOf sort) (One t) h = absurd h
  known_arg (ConstantsOf sort) (Many ts) h = known_constants sort ts h

  both_known : (ts us : List Term) → Each Known (filter_map variable_of ts) → Each Known (filter_map variable_of us) → Each Known (filter_map variable_of (ts ++ us))
  both_known [] us h k = k
  both_known (Const x ∷ ts) us h k = both_known ts us h k
  both_known (Var v ∷ ts) us h k = (h.0, both_known ts us h.1 k)

  known_args : (shapes : List Shape) (args : List Arg) → AllZip (HasShape kinds) shapes args → Each Known (filter_map variable_of (flat_map terms_of args))
  known_args [] [] h = tt
  known_args [] (a ∷ args) h = absurd h
  known_args (s ∷ shapes) [] h = absurd h
  known_args (s ∷ shapes) (a ∷ args) h = both_known (terms_of a) (flat_map terms_of args) (known_arg s a h.0) (known_args shapes args h.1)

  known_reif : (reifiable : Bool) (reif : Option Term) → IfSome reif (λ t. IsTrue reifiable × HasSort kinds Boolean t) → Each Known (filter_map variable_of (option_to_list reif))
  known_reif reifiable None h = tt
  known_reif reifiable (Some t) h = known_term Boolean t [] h.1 tt

  variables_known : (c : Constraint) → FitsRow kinds c → Each Known (variables_of c)
  variables_known c fits = both_known (flat_map terms_of c.args) (option_to_list c.reif)
      (known_args (shapes_of (row_of c.relation)) c.args fits.args) (known_reif (row_of c.relation).reifiable c.reif fits.reif)

each_in : (P : VarId → Type 0) (vs : List VarId) (v : VarId) → Each P vs → Contains vs v → P v
each_in P [] v h k = absurd (nothing_in_empty v k)
each_in P (u ∷ vs) v h k = elim (in_cons u vs v k) [
  | inl here ↦ subst P here h.0
  | inr later ↦ each_in P vs v h.1 later
]

-- a constraint that fits its row speaks of variables of the problem
pub variable_known : (kinds : List Kind) (c : Constraint) (v : VarId) → FitsRow kinds c → Contains (variables_of c) v → v.0 < length kinds
variable_known kinds c v fits h = each_in (λ (v : VarId). v.0 < length kinds) (variables_of c) v (variables_known kinds c fits) h

pub scope_known : (kinds : List Kind) (c : Constraint) (scope : List VarId) → FitsRow kinds c → IsScope c scope → All (λ (v : VarId). v.0 < length kinds) scope
scope_known kinds c scope fits is i d within =
    let v = get_or scope i d in
    variable_known kinds c v fits ((is.members v).0 (Contains-get_or scope i d within))
