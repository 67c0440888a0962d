-- The variables of arguments that fit a row are variables of the problem.
use Rattle.std.proofs.Common.{◌≡◌, ◌<◌, List, [], ◌∷◌, ◌++◌, length, Some, None, refl}
use Rattle.std.specs.Prelude.{slice_get, option_map, filter_map, ⊤}
use Rattle.std.specs.List.{All, AllZip, flat_map}
use Rattle.std.proofs.lemmas.Option.{slice_get_within}
use Rattle.std.proofs.lemmas.List.Elements.{All-cons, All-head, All-tail, All-nil, All-append, All-weaker}
use Rattle.set_meaning.specs.declared.kinds.Kind.{Kind}
use Rattle.set_meaning.specs.declared.problems.VarId.{VarId}
use Rattle.set_meaning.specs.declared.problems.Term.{Term}
use Rattle.set_meaning.specs.declared.problems.Term.TheVariants.{Const, Var}
use Rattle.set_meaning.specs.declared.problems.Arg.{Arg}
use Rattle.set_meaning.specs.declared.problems.Arg.TheVariants.{One, Many}
use Rattle.set_meaning.specs.declared.rows.Sort.{Sort}
use Rattle.set_meaning.specs.declared.rows.Shape.{Shape}
use Rattle.set_meaning.specs.declared.rows.Shape.TheVariants.{OneOf, ManyOf, ConstantOf, ConstantsOf}
use Rattle.set_meaning.specs.Rows.{HasSort, HasShape, IsConstantOf, sort_of_kind}
use Rattle.set_meaning.specs.Relations.{terms_of, variable_of}
use Rattle.scope_words.specs.Words.{variables_in}

-- ---- the variables of arguments are known

-- the term's variable, where it is one, is one of the problem's
abbrev IsKnown : List Kind → Term → Type 0
IsKnown kinds (Const v) = ⊤
IsKnown kinds (Var x) = x.0 < length kinds

sort_known : (kinds : List Kind) (sort : Sort) (t : Term) → HasSort kinds sort t → IsKnown kinds t
sort_known kinds sort (Const v) h = tt
sort_known kinds sort (Var x) h =
    elim (slice_get kinds x.0) as (λ o. slice_get kinds x.0 ≡ o → option_map sort_of_kind o ≡ Some sort → x.0 < length kinds) [
      | None ↦ λ e h. absurd (let f : None ≡ Some sort = h in cc)
      | Some k ↦ λ e h. slice_get_within kinds x.0 k e
    ] refl h

constant_known : (kinds : List Kind) (sort : Sort) (t : Term) → IsConstantOf sort t → IsKnown kinds t
constant_known kinds sort (Const v) h = tt
constant_known kinds sort (Var x) h = absurd h

arg_known : (kinds : List Kind) (shape : Shape) (a : Arg) → HasShape kinds shape a → All (IsKnown kinds) (terms_of a)
arg_known kinds (OneOf sort) (One t) h = All-cons (IsKnown kinds) t [] (sort_known kinds sort t h) (All-nil (IsKnown kinds))
arg_known kinds (ManyOf sort) (Many ts) h = All-weaker (HasSort kinds sort) (IsKnown kinds) (sort_known kinds sort) ts h
arg_known kinds (ConstantOf sort) (One t) h = All-cons (IsKnown kinds) t [] (constant_known kinds sort t h) (All-nil (IsKnown kinds))
arg_known kinds (ConstantsOf sort) (Many ts) h = All-weaker (IsConstantOf sort) (IsKnown kinds) (constant_known kinds sort) ts h
arg_known kinds (OneOf sort) (Many ts) h = absurd h
arg_known kinds (ManyOf sort) (One t) h = absurd h
arg_known kinds (ConstantOf sort) (Many ts) h = absurd h
arg_known kinds (ConstantsOf sort) (One t) h = absurd h

args_known : (kinds : List Kind) (shapes : List Shape) (args : List Arg) → AllZip (HasShape kinds) shapes args → All (IsKnown kinds) (flat_map terms_of args)
args_known kinds [] [] h = All-nil (IsKnown kinds)
args_known kinds [] (a ∷ args) h = absurd h
args_known kinds (shape ∷ shapes) [] h = absurd h
args_known kinds (shape ∷ shapes) (a ∷ args) h = All-append (IsKnown kinds) (terms_of a) (flat_map terms_of args) (arg_known kinds shape a h.0) (args_known kinds shapes args h.1)

variables_known : (kinds : List Kind) (ts : List Term) → All (IsKnown kinds) ts → All (λ (v : VarId). v.0 < length kinds) (filter_map variable_of ts)
variables_known kinds [] h = All-nil (λ (v : VarId). v.0 < length kinds)
variables_known kinds (Const v ∷ ts) h = variables_known kinds ts (All-tail (IsKnown kinds) (Const v) ts h)
variables_known kinds (Var x ∷ ts) h =
    All-cons (λ (v : VarId). v.0 < length kinds) x (filter_map variable_of ts) (All-head (IsKnown kinds) (Var x) ts h) (variables_known kinds ts (All-tail (IsKnown kinds) (Var x) ts h))

pub scope_known : (kinds : List Kind) (shapes : List Shape) (args : List Arg) → AllZip (HasShape kinds) shapes args → All (λ (v : VarId). v.0 < length kinds) (variables_in args)
scope_known kinds shapes args h = variables_known kinds (flat_map terms_of args) (args_known kinds shapes args h)
