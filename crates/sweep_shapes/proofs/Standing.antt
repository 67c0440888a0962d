-- Variables that stand in a constraint, and lists of set variables.
use Rattle.std.proofs.Common.{◌≡◌, ℕ, zero, suc, ◌+◌, ◌<◌, ◌≤◌, List, [], ◌∷◌, ◌++◌, length, take, get_or, Contains, Option, Some, None, sym, ap, ◌∙◌, subst, inl, inr}
use Rattle.std.specs.Prelude.{slice_get, option_to_list, IfSome}
use Rattle.std.specs.List.{filter_map, flat_map}
use Rattle.std.proofs.lemmas.List.{take_more, take_all}
use Rattle.std.proofs.lemmas.List.Elements.{Contains-append_left, Contains-append_right, Contains-push_cases}
use Rattle.std.proofs.lemmas.Option.{slice_get-get_or}
use Rattle.set_meaning.specs.declared.kinds.Kind.{Kind}
use Rattle.set_meaning.specs.declared.problems.VarId.{VarId}
use Rattle.set_meaning.specs.declared.problems.Term.{Term}
use Rattle.set_meaning.specs.declared.problems.Term.TheVariants.{Const, Var}
use Rattle.set_meaning.specs.declared.problems.Arg.{Arg}
use Rattle.set_meaning.specs.declared.problems.Arg.TheVariants.{One}
use Rattle.set_meaning.specs.declared.problems.Constraint.{Constraint}
use Rattle.set_meaning.specs.Relations.{terms_of, variable_of, variables_of}
use Rattle.bit_layout.proofs.Rising.{nothing_in_empty, in_cons, in_head, in_tail}
use Rattle.sweep_shapes.specs.Slots.{AreSetVariables, IsSetVariable}

-- ---- variables among terms

pub variable_term : (ts : List Term) (v : VarId) → Contains (filter_map variable_of ts) v → Contains ts (Var v)
variable_term [] v h = absurd (nothing_in_empty v h)
variable_term (Const y ∷ ts) v h = in_tail (Const y) ts (Var v) (variable_term ts v h)
variable_term (Var u ∷ ts) v h = elim (in_cons u (filter_map variable_of ts) v h) [
  | inl e ↦ subst (λ w. Contains (Var u ∷ ts) (Var w)) e (in_head (Var u) ts)
  | inr later ↦ in_tail (Var u) ts (Var v) (variable_term ts v later)
]

pub term_variable : (ts : List Term) (v : VarId) → Contains ts (Var v) → Contains (filter_map variable_of ts) v
term_variable [] v h = absurd (nothing_in_empty (Var v) h)
term_variable (Const y ∷ ts) v h = elim (in_cons (Const y) ts (Var v) h) [ inl e ↦ absurd (cc) | inr later ↦ term_variable ts v later ]
term_variable (Var u ∷ ts) v h = elim (in_cons (Var u) ts (Var v) h) [
  | inl e ↦ let same : u ≡ v = cc in subst (Contains (u ∷ filter_map variable_of ts)) same (in_head u (filter_map variable_of ts))
  | inr later ↦ in_tail u (filter_map variable_of ts) v (term_variable ts v later)
]

pub term_of_argument : (args : List Arg) (i : ℕ) (a : Arg) (t : Term) → slice_get args i ≡ Some a → Contains (terms_of a) t → Contains (flat_map terms_of args) t
term_of_argument [] i a t is h = let clash : None ≡ Some a = is in absurd (cc)
term_of_argument (b ∷ bs) zero a t is h =
    let same : b ≡ a = (let both : Some b ≡ Some a = is in cc) in
    Contains-append_left (terms_of b) (flat_map terms_of bs) t (subst (λ x. Contains (terms_of x) t) (sym same) h)
term_of_argument (b ∷ bs) (suc i) a t is h = Contains-append_right (terms_of b) (flat_map terms_of bs) t (term_of_argument bs i a t is h)

-- ---- variables of a constraint

-- a variable that stands in an argument
pub argument_named : (c : Constraint) (args : List Arg) (i : ℕ) (a : Arg) (o : Option VarId) → args ≡ c.args → i < length args → a ≡ get_or args i a → IfSome o (λ v. a ≡ One (Var v))
    → IfSome o (Contains (variables_of c))
argument_named c args i a None same within item h = tt
argument_named c args i a (Some v) same within item h =
    let is : slice_get args i ≡ Some a = slice_get-get_or args i a within ∙ ap Some (sym item) in
    let there : Contains (flat_map terms_of c.args) (Var v) = subst (λ xs. Contains (flat_map terms_of xs) (Var v)) same
    (term_of_argument args i a (Var v) is (subst (λ x. Contains (terms_of x) (Var v)) (sym h) (in_head (Var v) []))) in
    term_variable (flat_map terms_of c.args ++ option_to_list c.reif) v (Contains-append_left (flat_map terms_of c.args) (option_to_list c.reif) (Var v) there)

-- the variable that names the truth value
pub truth_named : (c : Constraint) (t : Term) (o : Option VarId) → c.reif ≡ Some t → IfSome o (λ v. t ≡ Var v) → IfSome o (Contains (variables_of c))
truth_named c t None is h = tt
truth_named c t (Some v) is h =
    let there : Contains (option_to_list c.reif) (Var v) = subst (λ (r : Option Term). Contains (option_to_list r) (Var v)) (sym (is ∙ ap Some h)) (in_head (Var v) []) in
    term_variable (flat_map terms_of c.args ++ option_to_list c.reif) v (Contains-append_right (flat_map terms_of c.args) (option_to_list c.reif) (Var v) there)

-- ---- set variables

pub no_sets : (kinds : List Kind) → AreSetVariables kinds []
no_sets kinds v h = absurd (nothing_in_empty v h)

pub one_more_set : (kinds : List Kind) (variables : List VarId) (i : ℕ) (v : VarId) → i < length variables → v ≡ get_or variables i v → IsSetVariable kinds v → AreSetVariables kinds (take i variables)
    → AreSetVariables kinds (take (i + 1) variables)
one_more_set kinds variables i v within is set before u h =
    let e : take (i + 1) variables ≡ take i variables ++ v ∷ [] = take_more variables i v within ∙ ap (λ w. take i variables ++ w ∷ []) (sym is) in
    elim (Contains-push_cases (take i variables) v u (subst (λ vs. Contains vs u) e h)) [
      | inl earlier ↦ before u earlier
      | inr same ↦ subst (IsSetVariable kinds) same set
    ]

pub all_are_sets : (kinds : List Kind) (variables : List VarId) (i : ℕ) → length variables ≤ i → AreSetVariables kinds (take i variables) → AreSetVariables kinds variables
all_are_sets kinds variables i past all = subst (AreSetVariables kinds) (take_all i variables past) all
