-- The facts that a problem of search_rules carries: initial values are listed, scopes have variables of the problem, and a constraint
-- reads these alone.
use Rattle.std.proofs.Common.{◌≡◌, ℕ, ◌<◌, ◌≤◌, ◌==◌, nat_lt, true, false, ◌&&◌, List, [], ◌∷◌, length, get_or, Some, None, refl, sym, ap, ◌∙◌, subst, inl, inr, zero-add}
use Rattle.std.specs.Prelude.{slice_get, IsSomeAnd}
use Rattle.std.specs.List.{list_any}
use Rattle.std.specs.Option.{option_map_or}
use Rattle.std.proofs.lemmas.Bool.{both_ways, ltb-true, lt-ltb, or_cases, ltb-false, eq-eqb}
use Rattle.std.proofs.lemmas.Option.{slice_get-get_or, slice_get_past}
use Rattle.std.proofs.lemmas.List.FromFn.{length-map-range_with_len, get_or-map-range_with_len}
use Rattle.set_meaning.specs.declared.kinds.Kind.{Kind}
use Rattle.set_meaning.specs.declared.kinds.Kind.TheVariants as kind
use Rattle.set_meaning.specs.declared.kinds.Value.{Value}
use Rattle.set_meaning.specs.declared.kinds.Value.TheVariants as value
use Rattle.set_meaning.specs.declared.problems.VarId.{VarId}
use Rattle.set_meaning.specs.declared.problems.Problem.{Problem}
use Rattle.set_meaning.specs.Kinds.{initial_values}
use Rattle.set_meaning.specs.Relations.{Holds, variables_of}
use Rattle.search_rules.specs.Problem.{IsAmong}
use Rattle.exact_steps.specs.Domains.{same_value}
use Rattle.exact_steps.specs.Rules.{listed}
use Rattle.exact_steps.proofs.Values.{values_equal, both_are, both_from, or_left, or_right}
use Rattle.problem_rules.specs.Parts.{initial_set, values_at, values_of, stands_in, is_scoped, HoldsAt}
use Rattle.problem_rules.specs.Readings.{Each, Agree, holds_alike}

-- ---- initial values

among_from : (ys : List Value) (x : Value) → list_any (same_value x) ys ≡ true → IsAmong x ys
among_from [] x h = absurd (both_ways false refl h)
among_from (y ∷ ys) x h = elim (or_cases (same_value x y) (list_any (same_value x) ys) h) [
  | inl here ↦ inl (values_equal x y here)
  | inr later ↦ inr (among_from ys x later)
]

pub initial_listed : (kinds : List Kind) (v : ℕ) (x : Value) → v < length kinds → initial_set kinds v x ≡ true → IsAmong x (values_at kinds v)
initial_listed kinds v x within h =
    let k : Kind = get_or kinds v kind.Bool in
    subst (λ o. option_map_or (λ k. list_any (same_value x) (initial_values k)) o true ≡ true → IsAmong x (option_map_or initial_values o []))
    (sym (slice_get-get_or kinds v kind.Bool within)) (among_from (initial_values k) x) h

-- ---- scopes

pub scoped_known : (p : Problem) (c v : ℕ) → is_scoped p c v ≡ true → v < length p.kinds
scoped_known p c v h = ltb-true v (length p.kinds) (both_are (option_map_or (stands_in v) (slice_get p.constraints c) false) (nat_lt v (length p.kinds)) h).1

-- ---- what a constraint reads

pub at_listed : (n : ℕ) (a : ℕ → Value) (v : ℕ) → v < n → slice_get (listed n a) v ≡ Some (a v)
at_listed n a v within =
    let long = length-map-range_with_len a 0 n in
    slice_get-get_or (listed n a) v (value.Bool false) (subst (λ m. v < m) (sym long) within) ∙ ap Some (get_or-map-range_with_len a 0 n v v (value.Bool false) within (zero-add v))

-- the two assignments give the variable the same value, if it is one of the first n
same_at : (n : ℕ) (a b : ℕ → Value) (v : VarId) → (v.0 < n → a v.0 ≡ b v.0) → Agree (listed n a) (listed n b) v
same_at n a b v same = elim (nat_lt v.0 n) as (λ t. nat_lt v.0 n ≡ t → Agree (listed n a) (listed n b) v) [
  | true ↦ λ is. let within = ltb-true v.0 n is in at_listed n a v.0 within ∙ ap Some (same within) ∙ sym (at_listed n b v.0 within)
  | false ↦ λ is. let beyond = ltb-false v.0 n is in
      let la = length-map-range_with_len a 0 n in
      let lb = length-map-range_with_len b 0 n in
      slice_get_past (listed n a) v.0 (subst (λ m. m ≤ v.0) (sym la) beyond) ∙ sym (slice_get_past (listed n b) v.0 (subst (λ m. m ≤ v.0) (sym lb) beyond))
] refl

each_same : (n : ℕ) (a b : ℕ → Value) (vs : List VarId) → ((v : ℕ) → list_any (λ u. u.0 == v) vs ≡ true → v < n → a v ≡ b v) → Each (Agree (listed n a) (listed n b)) vs
each_same n a b [] same = tt
each_same n a b (v ∷ vs) same = (
  same_at n a b v (λ within. same v.0 (or_left (v.0 == v.0) (list_any (λ u. u.0 == v.0) vs) (eq-eqb v.0 v.0 refl)) within),
  each_same n a b vs (λ u h within. same u (or_right (v.0 == u) (list_any (λ w. w.0 == u) vs) h) within),
)

pub holds_reads : (p : Problem) (c : ℕ) (a b : ℕ → Value) → ((v : ℕ) → is_scoped p c v ≡ true → a v ≡ b v) → HoldsAt p c a → HoldsAt p c b
holds_reads p c a b same h =
    elim (slice_get p.constraints c) as (λ o. ((v : ℕ) → (option_map_or (stands_in v) o false && nat_lt v (length p.kinds)) ≡ true → a v ≡ b v)
    → IsSomeAnd o (λ k. Holds k (values_of p a)) → IsSomeAnd o (λ k. Holds k (values_of p b))) [
      | None ↦ λ same h. h
      | Some k ↦ λ same h. holds_alike k (values_of p a) (values_of p b)
          (each_same (length p.kinds) a b (variables_of k) (λ v stands within. same v (both_from (stands_in v k) (nat_lt v (length p.kinds)) stands (lt-ltb v (length p.kinds) within)))) h
    ] same h
