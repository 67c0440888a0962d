-- What a constraint says of its relation, and of its sets.
use Rattle.std.proofs.Common.{◌≡◌, ◌↔◌, Bool, true, false, ℤ, List, [], ◌∷◌, ◌++◌, Contains, Option, Some, None, IsTrue, refl, sym, ap, ◌∙◌, subst, append-nil}
use Rattle.std.specs.Prelude.{option_to_list, IsSomeAnd}
use Rattle.std.specs.List.{filter_map, flat_map, AllZip}
use Rattle.std.proofs.lemmas.List.Elements.{filter_map-append}
use Rattle.set_meaning.specs.declared.kinds.Kind.{Kind}
use Rattle.set_meaning.specs.declared.kinds.Value.{Value}
use Rattle.set_meaning.specs.declared.kinds.Value.TheVariants as value
use Rattle.set_meaning.specs.declared.problems.VarId.{VarId}
use Rattle.set_meaning.specs.declared.problems.Term.{Term}
use Rattle.set_meaning.specs.declared.problems.Term.TheVariants.{Const, Var}
use Rattle.set_meaning.specs.declared.problems.Arg.TheVariants.{One}
use Rattle.set_meaning.specs.declared.problems.Relation.TheVariants.{SetIn}
use Rattle.set_meaning.specs.declared.problems.Constraint.{Constraint}
use Rattle.set_meaning.specs.declared.rows.Sort.TheVariants.{IntegerSet}
use Rattle.set_meaning.specs.Rows.{HasSort, HasShape, shapes_of, row_of, FitsRow}
use Rattle.set_meaning.specs.Sets.{Has}
use Rattle.set_meaning.specs.Arguments.{set_of_term, OfTwo}
use Rattle.set_meaning.specs.Relations.{HoldsOf, HoldsAs, Holds, IsScope, terms_of, variable_of, variables_of}
use Rattle.bit_layout.proofs.Rising.{in_head}
use Rattle.sweep_sets.specs.Shapes.{HasTruth, HasMember, IsSetAmong}
use Rattle.sweep_shapes.specs.Slots.{AsksFor, IsReading, IsMembership}

-- ---- the variables

-- a truth value that is asked for is no variable
no_variable : (truth : Bool) (reif : Option Term) → AsksFor truth reif → filter_map variable_of (option_to_list reif) ≡ []
no_variable truth None h = refl
no_variable truth (Some (Const (value.Bool b))) h = refl
no_variable truth (Some (Const (value.Int x))) h = absurd h
no_variable truth (Some (Const (value.Set s))) h = absurd h
no_variable truth (Some (Var v)) h = absurd h

only_args : (c : Constraint) (truth : Bool) → AsksFor truth c.reif → variables_of c ≡ filter_map variable_of (flat_map terms_of c.args)
only_args c truth asks =
    filter_map-append variable_of (flat_map terms_of c.args) (option_to_list c.reif)
    ∙ ap (λ vs. filter_map variable_of (flat_map terms_of c.args) ++ vs) (no_variable truth c.reif asks) ∙ append-nil (filter_map variable_of (flat_map terms_of c.args))

-- then the variables are those of the arguments
pub args_in_variables : (c : Constraint) (truth : Bool) (v : VarId) → AsksFor truth c.reif → Contains (filter_map variable_of (flat_map terms_of c.args)) v → Contains (variables_of c) v
args_in_variables c truth v asks h = subst (λ vs. Contains vs v) (sym (only_args c truth asks)) h

-- ---- what holds

as_asked : (truth : Bool) (reif : Option Term) (P : Type 0) (values : List Value) → AsksFor truth reif → HasTruth truth P ↔ HoldsAs reif values P
as_asked truth None P values h = subst (λ t. HasTruth t P ↔ P) (sym h) (λ p. p, λ p. p)
as_asked truth (Some (Const (value.Bool b))) P values h = subst (λ t. HasTruth t P ↔ (IsTrue b ↔ P)) h (by b)
  where
    by : (b : Bool) → HasTruth b P ↔ (IsTrue b ↔ P)
    by true = (λ p. (λ _. p, λ _. refl), λ both. both.0 refl)
    by false = (λ refuted. (λ clash. absurd (let e : false ≡ true = clash in cc), λ p. absurd (refuted p)), λ both p. let e : false ≡ true = both.1 p in absurd (cc))
as_asked truth (Some (Const (value.Int x))) P values h = absurd h
as_asked truth (Some (Const (value.Set s))) P values h = absurd h
as_asked truth (Some (Var v)) P values h = absurd h

-- the constraint says that its relation has the truth value that it asks for
pub asked_holds : (c : Constraint) (truth : Bool) (values : List Value) → AsksFor truth c.reif → HasTruth truth (HoldsOf c.relation c.args values) ↔ Holds c values
unfolding Holds
asked_holds c truth values asks = as_asked truth c.reif (HoldsOf c.relation c.args values) values asks

-- a constraint as it stands
pub read_plainly : (kinds : List Kind) (c : Constraint) (variables : List VarId) (truth : Bool) → FitsRow kinds c → IsScope c variables → AsksFor truth c.reif → IsReading kinds c variables c truth
read_plainly kinds c variables truth fits scope asks = record {
  fits = fits;
  among = λ v h. (scope.members v).1 (args_in_variables c truth v asks h);
  same = λ values assignment. asked_holds c truth values asks;
}

pub truth_alike : (truth : Bool) (P Q : Type 0) → P ↔ Q → HasTruth truth P ↔ HasTruth truth Q
truth_alike true P Q both = both
truth_alike false P Q both = (λ h q. h (both.1 q), λ h p. h (both.0 p))

-- ---- memberships

-- what fits the row of a membership of a constant
fits_membership : (kinds : List Kind) (c : Constraint) (x : ℤ) (set : Term) → FitsRow kinds c → IsMembership c x set → HasSort kinds IntegerSet set
fits_membership kinds c x set fits is =
    let args = subst (λ args. AllZip (HasShape kinds) (shapes_of (row_of SetIn)) args) is.args (subst (λ r. AllZip (HasShape kinds) (shapes_of (row_of r)) c.args) is.relation fits.args) in
    args.1.0

-- the set of a membership is a constant, or a listed set variable
pub set_among : (kinds : List Kind) (c read : Constraint) (truth : Bool) (x : ℤ) (set : Term) (variables : List VarId) → IsReading kinds c variables read truth → IsMembership read x set
    → IsSetAmong kinds variables set
set_among kinds c read truth x set variables reading is = by set (fits_membership kinds read x set reading.fits is) is.args
  where
    by : (t : Term) → HasSort kinds IntegerSet t → read.args ≡ One (Const (value.Int x)) ∷ One t ∷ [] → IsSetAmong kinds variables t
    by (Const y) h e = h
    by (Var u) h e = (h, reading.among u (subst (λ args. Contains (filter_map variable_of (flat_map terms_of args)) u) (sym e) (in_head u [])))

pub member_holds : (read : Constraint) (truth : Bool) (x : ℤ) (set : Term) (values : List Value) → IsMembership read x set → HasTruth truth (HasMember x set values) ↔ HasTruth truth (HoldsOf read.relation read.args values)
unfolding HoldsOf
member_holds read truth x set values is =
    let same : HoldsOf read.relation read.args values ≡ HoldsOf SetIn (One (Const (value.Int x)) ∷ One set ∷ []) values = ap (λ r. HoldsOf r read.args values) is.relation ∙ ap (λ args. HoldsOf SetIn args values) is.args in
    let first = truth_alike truth (HasMember x set values) (HoldsOf SetIn (One (Const (value.Int x)) ∷ One set ∷ []) values) (by (set_of_term values set)) in
    (λ h. subst (HasTruth truth) (sym same) (first.0 h), λ h. first.1 (subst (HasTruth truth) same h))
  where
    by : (o : Option (List ℤ)) → IsSomeAnd o (λ s. Has s x) ↔ OfTwo (λ y a. Has a y) (Some x) o
    by None = (λ h. h, λ h. h)
    by (Some s) = (λ h. h, λ h. h)
