-- A constraint keeps the arguments of its relation when a variable is given one of its values.
use Rattle.std.proofs.Common.{◌≡◌, ◌==◌, Bool, true, false, cond, List, [], ◌∷◌, length, map, Option, Some, None, refl, sym, ap, ◌∙◌, subst, IsTrue}
use Rattle.std.specs.Prelude.{slice_get, option_map, IfSome, All}
use Rattle.std.specs.List.{AllZip}
use Rattle.std.proofs.lemmas.List.{length-map}
use Rattle.std.proofs.lemmas.Bool.{eqb-true}
use Rattle.std.proofs.lemmas.List.Elements.{All-head, All-tail, All-nil, All-cons}
use Rattle.set_meaning.specs.declared.kinds.Kind.{Kind}
use Rattle.set_meaning.specs.declared.kinds.Kind.TheVariants as kind
use Rattle.set_meaning.specs.declared.kinds.Value.{Value}
use Rattle.set_meaning.specs.declared.kinds.Value.TheVariants as value
use Rattle.set_meaning.specs.declared.problems.VarId.{VarId}
use Rattle.set_meaning.specs.declared.problems.Term.{Term}
use Rattle.set_meaning.specs.declared.problems.Term.TheVariants.{Const, Var}
use Rattle.set_meaning.specs.declared.problems.Arg.{Arg}
use Rattle.set_meaning.specs.declared.problems.Arg.TheVariants.{One, Many}
use Rattle.set_meaning.specs.declared.problems.Constraint.{Constraint}
use Rattle.set_meaning.specs.declared.rows.Sort.{Sort}
use Rattle.set_meaning.specs.declared.rows.Sort.TheVariants.{Boolean, Integer, IntegerSet}
use Rattle.set_meaning.specs.declared.rows.Shape.{Shape}
use Rattle.set_meaning.specs.declared.rows.Shape.TheVariants.{OneOf, ManyOf, ConstantOf, ConstantsOf}
use Rattle.set_meaning.specs.Kinds.{InKind}
use Rattle.set_meaning.specs.Rows.{sort_of_kind, IsValueOf, HasSort, IsConstantOf, HasShape, shapes_of, row_of, AreOfOneLength, ArePaired, FitsRow}
use Rattle.sweep_fixing.specs.Fixing.{fixed_term, fixed_arg, fixed}

-- a value of a kind is of the kind's sort
value_of_sort : (k : Kind) (x : Value) → InKind k x → IsValueOf (sort_of_kind k) x
unfolding InKind
value_of_sort kind.Bool (value.Bool b) h = tt
value_of_sort kind.Bool (value.Int n) h = absurd h
value_of_sort kind.Bool (value.Set s) h = absurd h
value_of_sort (kind.Int numbers) (value.Bool b) h = absurd h
value_of_sort (kind.Int numbers) (value.Int n) h = tt
value_of_sort (kind.Int numbers) (value.Set s) h = absurd h
value_of_sort (kind.Set u) (value.Bool b) h = absurd h
value_of_sort (kind.Set u) (value.Int n) h = absurd h
value_of_sort (kind.Set u) (value.Set s) h = h.ascending

module _ (kinds : List Kind) (v : VarId) (k : Kind) (x : Value) (is : slice_get kinds v.0 ≡ Some k) (within : InKind k x) where
  term_fits : (sort : Sort) (t : Term) → HasSort kinds sort t → HasSort kinds sort (fixed_term v x t)
  term_fits sort (Const y) h = h
  term_fits sort (Var u) h = by (u.0 == v.0) refl
    where
      by : (b : Bool) → (u.0 == v.0) ≡ b → HasSort kinds sort (cond b (Const x) (Var u))
      by true e =
          let at : option_map sort_of_kind (slice_get kinds u.0) ≡ Some (sort_of_kind k) = ap (λ i. option_map sort_of_kind (slice_get kinds i)) (eqb-true u.0 v.0 e) ∙ ap (option_map sort_of_kind) is in
          let both : Some (sort_of_kind k) ≡ Some sort = sym at ∙ h in
          let same : sort_of_kind k ≡ sort = cc in
          subst (λ s. IsValueOf s x) same (value_of_sort k x within)
      by false e = h

  terms_fit : (sort : Sort) (ts : List Term) → All (HasSort kinds sort) ts → All (HasSort kinds sort) (map (fixed_term v x) ts)
  terms_fit sort [] h = All-nil (HasSort kinds sort)
  terms_fit sort (t ∷ ts) h =
      All-cons (HasSort kinds sort) (fixed_term v x t) (map (fixed_term v x) ts) (term_fits sort t (All-head (HasSort kinds sort) t ts h)) (terms_fit sort ts (All-tail (HasSort kinds sort) t ts h))

  constant_fits : (sort : Sort) (t : Term) → IsConstantOf sort t → IsConstantOf sort (fixed_term v x t)
  constant_fits sort (Const y) h = h
  constant_fits sort (Var u) h = absurd h

  constants_fit : (sort : Sort) (ts : List Term) → All (IsConstantOf sort) ts → All (IsConstantOf sort) (map (fixed_term v x) ts)
  constants_fit sort [] h = All-nil (IsConstantOf sort)
  constants_fit sort (t ∷ ts) h =
      All-cons (IsConstantOf sort) (fixed_term v x t) (map (fixed_term v x) ts) (constant_fits sort t (All-head (IsConstantOf sort) t ts h)) (constants_fit sort ts (All-tail (IsConstantOf sort) t ts h))

  arg_fits : (shape : Shape) (a : Arg) → HasShape kinds shape a → HasShape kinds shape (fixed_arg v x a)
  arg_fits (OneOf sort) (One t) h = term_fits sort t h
  arg_fits (OneOf sort) (Many ts) h = absurd h
  arg_fits (ManyOf sort) (One t) h = absurd h
  arg_fits (ManyOf sort) (Many ts) h = terms_fit sort ts h
  arg_fits (ConstantOf sort) (One t) h = constant_fits sort t h
  arg_fits (ConstantOf sort) (Many ts) h = absurd h
  arg_fits (ConstantsOf sort) (One t) h = absurd h
  arg_fits (ConstantsOf sort) (Many ts) h = constants_fit sort ts h

  args_fit : (shapes : List Shape) (args : List Arg) → AllZip (HasShape kinds) shapes args → AllZip (HasShape kinds) shapes (map (fixed_arg v x) args)
  args_fit [] [] h = tt
  args_fit [] (a ∷ args) h = absurd h
  args_fit (s ∷ shapes) [] h = absurd h
  args_fit (s ∷ shapes) (a ∷ args) h = (arg_fits s a h.0, args_fit shapes args h.1)

  one_length : (a b : Arg) → AreOfOneLength a b → AreOfOneLength (fixed_arg v x a) (fixed_arg v x b)
  one_length (One t) b h = absurd h
  one_length (Many ts) (One t) h = absurd h
  one_length (Many ts) (Many us) h = length-map ts (fixed_term v x) ∙ h ∙ sym (length-map us (fixed_term v x))

  paired : (args : List Arg) → ArePaired args → ArePaired (map (fixed_arg v x) args)
  paired [] h = absurd h
  paired (a ∷ []) h = absurd h
  paired (a ∷ b ∷ args) h = one_length a b h

  truth_fits : (reifiable : Bool) (reif : Option Term) → IfSome reif (λ t. IsTrue reifiable × HasSort kinds Boolean t)
      → IfSome (option_map (fixed_term v x) reif) (λ t. IsTrue reifiable × HasSort kinds Boolean t)
  truth_fits reifiable None h = tt
  truth_fits reifiable (Some t) h = (h.0, term_fits Boolean t h.1)

  pub row_fits : (c : Constraint) → FitsRow kinds c → FitsRow kinds (fixed v x c)
  row_fits c fits = record {
    args = args_fit (shapes_of (row_of c.relation)) c.args fits.args;
    paired = λ asked. paired c.args (fits.paired asked);
    reif = truth_fits (row_of c.relation).reifiable c.reif fits.reif;
  }
