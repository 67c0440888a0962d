-- The bits of a constraint's arguments are no more than those of its scope, of which there are few.
use Rattle.std.proofs.Common.{◌≡◌, ℕ, ◌+◌, ◌<◌, ◌≤◌, List, [], ◌∷◌, ◌++◌, length, get_or, sym, subst, inl, inr, eqb, zero, suc, arith, Contains}
use Rattle.std.specs.Prelude.{filter_map, option_to_list, sum_by}
use Rattle.std.specs.List.{flat_map, IsDistinct}
use Rattle.std.specs.List.Sorted.{IsStrictlyIncreasing}
use Rattle.std.proofs.Math.Path.{fun_ext}
use Rattle.std.specs.Cmp.{nat_eq_equiv}
use Rattle.std.proofs.lemmas.Bool.{ne_eqb, cases_order}
use Rattle.std.proofs.lemmas.List.{get_or_default}
use Rattle.std.proofs.lemmas.List.Concat.{length-flat_map}
use Rattle.std.proofs.lemmas.List.Elements.{Contains-append_left}
use Rattle.std.proofs.lemmas.Map.Keys.{IsDistinct-from_apart}
use Rattle.std.proofs.lemmas.Map.Made.{length-le_from_is_member}
use Rattle.set_meaning.specs.declared.kinds.Kind.{Kind}
use Rattle.set_meaning.specs.declared.problems.VarId.{VarId}
use Rattle.set_meaning.specs.declared.problems.Term.{Term}
use Rattle.set_meaning.specs.declared.problems.Term.TheVariants.{Const, Var}
use Rattle.set_meaning.specs.declared.problems.Constraint.{Constraint}
use Rattle.set_meaning.specs.Relations.{terms_of, variable_of, variables_of, IsScope}
use Rattle.bit_layout.specs.Order.{LayoutState, IsLayout, width_at}
use Rattle.bit_layout.proofs.Rising.{nothing_in_empty, in_cons, in_head, in_tail}
use Rattle.scope_words.specs.Words.{variables_in, bits_at, AreBitsOf}
use Rattle.scope_words.proofs.Bits.{flat_map_has, length-bits_at, bits_at_has, place_of_bit, place_within}
use Rattle.exact_steps.proofs.Sets.{among_contains, contains_among}
use Rattle.problem_limits.specs.Limits.{width_in, IsWithinLimits}
use Rattle.propagators.proofs.Scopes.{in_variables}

-- ---- the variables of the arguments are variables of the constraint

pub term_variable : (ts : List Term) (v : VarId) → Contains ts (Var v) → Contains (filter_map variable_of ts) v
term_variable [] v h = absurd (nothing_in_empty (Var v) h)
term_variable (Const x ∷ ts) v h = elim (in_cons (Const x) ts (Var v) h) [
  | inl e ↦ absurd (cc)
  | inr later ↦ term_variable ts v later
]
term_variable (Var u ∷ ts) v h = elim (in_cons (Var u) ts (Var v) h) [
  | inl e ↦ let same : u ≡ v = cc in subst (Contains (u ∷ filter_map variable_of ts)) same (in_head u (filter_map variable_of ts))
  | inr later ↦ in_tail u (filter_map variable_of ts) v (term_variable ts v later)
]

pub argument_variable : (c : Constraint) (v : VarId) → Contains (variables_in c.args) v → Contains (variables_of c) v
argument_variable c v h =
    term_variable (flat_map terms_of c.args ++ option_to_list c.reif) v
    (Contains-append_left (flat_map terms_of c.args) (option_to_list c.reif) (Var v) (in_variables (flat_map terms_of c.args) v h))

-- ---- numbers that ascend

rises : (xs : List ℕ) → IsStrictlyIncreasing xs → (i j : ℕ) → i < j → j < length xs → get_or xs i 0 < get_or xs j 0
rises xs up i zero less within = absurd (omega (arith, less))
rises xs up i (suc j) less within =
    let e : j + 1 ≡ suc j = omega arith in
    let step : get_or xs j 0 < get_or xs (j + 1) 0 = up j (omega (arith, within)) in
    let P : ℕ → Type 0 = λ k. get_or xs j 0 < get_or xs k 0 in
    let next = subst P e step in
    elim (cases_order i j) [
      | inl same ↦ let Q : ℕ → Type 0 = λ k. get_or xs k 0 < get_or xs (suc j) 0 in subst Q (sym same) next
      | inr (inl before) ↦ let first = rises xs up i j before (omega (arith, within)) in omega (arith, first, next)
      | inr (inr after) ↦ absurd (omega (arith, less, after))
    ]

distinct : (xs : List ℕ) → IsStrictlyIncreasing xs → IsDistinct eqb xs
distinct xs up = IsDistinct-from_apart eqb xs (λ i j d less within.
    ne_eqb (get_or xs i d) (get_or xs j d) (λ e.
    let first = get_or_default xs i 0 d (omega (arith, less, within)) in
    let second = get_or_default xs j 0 d within in
    let up = rises xs up i j less within in
    omega (arith, first, second, up, e)))

-- a list that ascends is no longer than one that has its numbers
pub no_longer : (xs ys : List ℕ) → IsStrictlyIncreasing xs → ((x : ℕ) → Contains xs x → Contains ys x) → length xs ≤ length ys
no_longer xs ys up within = length-le_from_is_member nat_eq_equiv xs ys (distinct xs up) (λ q on. contains_among ys q (within q (among_contains xs q on)))

-- ---- bits

pub few_bits : (l : LayoutState) (kinds : List Kind) (c : Constraint) (scope : List VarId) (bits : List ℕ) → IsLayout l → l.kinds ≡ kinds → IsWithinLimits kinds c → IsScope c scope → AreBitsOf l (variables_in c.args) bits
    → length bits ≤ 2048
few_bits l kinds c scope bits ok same limits is are =
    let all : List ℕ = flat_map (bits_at l) scope in
    let shorter = no_longer bits all are.ascending (λ b h.
    let r = place_of_bit l (variables_in c.args) b ((are.members b).0 h) in
    let s = place_within l b r.0 ok r.1 in
    flat_map_has (bits_at l) scope r.0.variable b ((is.members r.0.variable).1 (argument_variable c r.0.variable r.2))
    (subst (Contains (bits_at l r.0.variable)) s.1 (bits_at_has l r.0.variable r.0.position s.0))) in
    let P : (VarId → ℕ) → Type 0 = λ f. length all ≡ sum_by f scope in
    let Q : List Kind → Type 0 = λ ks. sum_by (width_in ks) scope ≤ 2048 in
    let sum = subst P (fun_ext (length-bits_at l)) (length-flat_map (bits_at l) scope) in
    let few : sum_by (width_at l) scope ≤ 2048 = subst Q (sym same) (limits.scope scope is) in
    omega (arith, shorter, sum, few)
