-- The variables of a list of terms, gathered term by term.
use Rattle.std.proofs.Common.{Bool, true, nat_eq, subst, ◌≡◌, ℕ, ◌+◌, ◌<◌, ◌≤◌, List, [], ◌∷◌, ◌++◌, length, get_or, take, sym, ap, ◌∙◌, append_assoc, append-nil}
use Rattle.std.specs.List.{filter_map, flat_map}
use Rattle.std.specs.Prelude.{Option, Some, None, MatchOption, option_to_list}
use Rattle.std.specs.List.{dedup}
use Rattle.std.specs.List.Retain.{IsFiltered, DiffersFromLast}
use Rattle.std.specs.List.Sorted.{IsSorted, IsPermutation}
use Rattle.std.specs.Ordering.{nat_cmp}
use Rattle.std.specs.Cmp.{nat_cmp_total, nat_eq_equiv, on_total, on_equiv, unsigned_tied}
use Rattle.std.proofs.lemmas.Bool.{eqb-true}
use Rattle.std.proofs.lemmas.Grind.{flat_map-append}
use Rattle.std.proofs.lemmas.List.Filters.{dedup_is}
use Rattle.std.proofs.lemmas.List.Kept.{Contains-dedup, Contains-from_dedup, IsStrictlySortedBy-dedup}
use Rattle.std.proofs.lemmas.List.Sorted.{IsPermutation-sym, Contains-permutation}
use Rattle.std.proofs.lemmas.List.{take_more, take_all}
use Rattle.std.proofs.lemmas.List.Elements.{filter_map-append}
use Rattle.set_meaning.specs.declared.kinds.Value.{Value}
use Rattle.set_meaning.specs.declared.problems.VarId.{VarId}
use Rattle.set_meaning.specs.declared.problems.Term.{Term}
use Rattle.set_meaning.specs.declared.problems.Term.TheVariants.{Const, Var}
use Rattle.set_meaning.specs.declared.problems.Arg.{Arg}
use Rattle.set_meaning.specs.declared.problems.Constraint.{Constraint}
use Rattle.set_meaning.specs.Relations.{IsScope, variable_of, variables_of, terms_of}

one_more : (terms : List Term) (i : ℕ) (t : Term) → i < length terms → t ≡ get_or terms i t
    → filter_map variable_of (take (i + 1) terms) ≡ filter_map variable_of (take i terms) ++ filter_map variable_of (t ∷ [])
one_more terms i t within at =
    ap (filter_map variable_of) (take_more terms i t within ∙ ap (λ u. take i terms ++ u ∷ []) (sym at)) ∙ filter_map-append variable_of (take i terms) (t ∷ [])

-- a step at a variable
pub variable_pushed : (terms : List Term) (i : ℕ) (t : Term) (v : VarId) (start before after : List VarId) → i < length terms → t ≡ get_or terms i t → t ≡ Var v
    → before ≡ start ++ filter_map variable_of (take i terms) → after ≡ before ++ v ∷ [] → after ≡ start ++ filter_map variable_of (take (i + 1) terms)
variable_pushed terms i t v start before after within at is so_far push =
    let more : filter_map variable_of (take (i + 1) terms) ≡ filter_map variable_of (take i terms) ++ v ∷ [] =
    one_more terms i t within at ∙ ap (λ u. filter_map variable_of (take i terms) ++ filter_map variable_of (u ∷ [])) is in
    push ∙ ap (λ vs. vs ++ v ∷ []) so_far ∙ append_assoc start (filter_map variable_of (take i terms)) (v ∷ []) ∙ ap (λ vs. start ++ vs) (sym more)

-- a step at a constant
pub constant_passed : (terms : List Term) (i : ℕ) (t : Term) (k : Value) (start before : List VarId) → i < length terms → t ≡ get_or terms i t → t ≡ Const k
    → before ≡ start ++ filter_map variable_of (take i terms) → before ≡ start ++ filter_map variable_of (take (i + 1) terms)
constant_passed terms i t k start before within at is so_far =
    let more : filter_map variable_of (take (i + 1) terms) ≡ filter_map variable_of (take i terms) =
    one_more terms i t within at ∙ ap (λ u. filter_map variable_of (take i terms) ++ filter_map variable_of (u ∷ [])) is ∙ append-nil _ in
    so_far ∙ ap (λ vs. start ++ vs) (sym more)

-- a step at an argument
pub argument_pushed : (args : List Arg) (i : ℕ) (a : Arg) (before after : List VarId) → i < length args → a ≡ get_or args i a
    → before ≡ filter_map variable_of (flat_map terms_of (take i args)) → after ≡ before ++ filter_map variable_of (terms_of a)
    → after ≡ filter_map variable_of (flat_map terms_of (take (i + 1) args))
argument_pushed args i a before after within at so_far push =
    let more : flat_map terms_of (take (i + 1) args) ≡ flat_map terms_of (take i args) ++ terms_of a =
    ap (flat_map terms_of) (take_more args i a within ∙ ap (λ u. take i args ++ u ∷ []) (sym at))
    ∙ flat_map-append terms_of (take i args) (a ∷ []) ∙ ap (λ ts. flat_map terms_of (take i args) ++ ts) (append-nil (terms_of a)) in
    push ∙ ap (λ vs. vs ++ filter_map variable_of (terms_of a)) so_far
    ∙ sym (ap (filter_map variable_of) more ∙ filter_map-append variable_of (flat_map terms_of (take i args)) (terms_of a))

pub items_of_option : (reif : Option Term) (terms : List Term) → MatchOption reif (terms ≡ []) (λ t. terms ≡ t ∷ []) → terms ≡ option_to_list reif
items_of_option None terms h = h
items_of_option (Some t) terms h = h

-- the last step, at the term that names the truth value
pub reif_pushed : (args : List Arg) (reif : Option Term) (n : ℕ) (terms : List Term) (before after : List VarId) → length args ≤ n
    → before ≡ filter_map variable_of (flat_map terms_of (take n args)) → terms ≡ option_to_list reif → after ≡ before ++ filter_map variable_of terms
    → after ≡ filter_map variable_of (flat_map terms_of args ++ option_to_list reif)
reif_pushed args reif n terms before after all so_far are push =
    push ∙ ap (λ vs. vs ++ filter_map variable_of terms) (so_far ∙ ap (λ xs. filter_map variable_of (flat_map terms_of xs)) (take_all n args all))
    ∙ ap (λ ts. filter_map variable_of (flat_map terms_of args) ++ filter_map variable_of ts) are
    ∙ sym (filter_map-append variable_of (flat_map terms_of args) (option_to_list reif))

-- ---- the distinct ones, in order

same_ids : (v w : VarId) → nat_eq v.0 w.0 ≡ true → v ≡ w
same_ids v w e = let id : ℕ → VarId = λ n. record { 0 = n } in ap id (eqb-true v.0 w.0 e)

-- what a sort and a `dedup` leave
pub scope_from_sort : (c : Constraint) (sorted scope : List VarId) → IsPermutation (variables_of c) sorted → IsSorted (λ v w. nat_cmp v.0 w.0) sorted
    → IsFiltered (DiffersFromLast (λ v w. nat_eq v.0 w.0)) [] sorted scope → IsScope c scope
scope_from_sort c sorted scope moved up kept =
    let same : VarId → VarId → Bool = λ v w. nat_eq v.0 w.0 in
    let id : VarId → ℕ = λ v. v.0 in
    let e : scope ≡ dedup same sorted = dedup_is same sorted scope kept in
    let P : List VarId → Type 0 = λ s. IsScope c s in
    subst P (sym e) record {
      ascending = IsStrictlySortedBy-dedup (on_total id nat_cmp_total) (λ v w. sym (unsigned_tied v.0 w.0)) sorted up;
      members = λ v. (
        λ h. Contains-permutation sorted (variables_of c) v (IsPermutation-sym (variables_of c) sorted moved) (Contains-from_dedup same sorted v h),
        λ h. Contains-dedup (on_equiv id nat_eq_equiv) same_ids sorted v (Contains-permutation (variables_of c) sorted v moved h),
      );
    }
