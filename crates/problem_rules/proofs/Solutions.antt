-- Solutions here and in the problem.
use Rattle.std.proofs.Common.{◌≡◌, ℕ, zero, suc, ◌<◌, ◌≤◌, nat_lt, ◌↔◌, true, false, List, [], ◌∷◌, length, get_or, Some, refl, sym, ap, ◌∙◌, subst, arith}
use Rattle.std.specs.Prelude.{slice_get, IsSomeAnd, All}
use Rattle.std.specs.List.{list_any, AllZip}
use Rattle.std.specs.Option.{option_map_or}
use Rattle.std.proofs.lemmas.Bool.{ltb-true, ltb-false}
use Rattle.std.proofs.lemmas.Option.{slice_get-get_or, slice_get_past}
use Rattle.std.proofs.lemmas.List.{ext_get_or}
use Rattle.std.proofs.lemmas.List.FromFn.{length-map-range_with_len, get_or-map-range_with_len}
use Rattle.std.proofs.lemmas.List.Elements.{All-get_or}
use Rattle.set_meaning.specs.declared.kinds.Kind.{Kind}
use Rattle.set_meaning.specs.declared.kinds.Kind.TheVariants as kind
use Rattle.set_meaning.specs.declared.kinds.Value.{Value}
use Rattle.set_meaning.specs.declared.kinds.Value.TheVariants as value
use Rattle.set_meaning.specs.declared.problems.Constraint.{Constraint}
use Rattle.set_meaning.specs.declared.problems.Problem.{Problem}
use Rattle.set_meaning.specs.Kinds.{initial_values, InKind, IsAssignment}
use Rattle.set_meaning.specs.Problems.{IsKind, IsProblem}
use Rattle.set_meaning.specs.Relations.{Holds}
use Rattle.set_meaning.specs.Solutions as meaning
use Rattle.search_rules.specs.Problem as rules
use Rattle.exact_steps.specs.Domains.{same_value}
use Rattle.exact_steps.specs.Rules.{listed}
use Rattle.exact_steps.proofs.Values.{kind_values, found_in, found_from}
use Rattle.problem_rules.specs.Parts.{initial_set, values_of}
use Rattle.problem_rules.specs.Posed.{problem_of}

-- ---- pairs of two lists, by index

zip_from : {A B : Type 0} (R : A → B → Type 0) (xs : List A) (ys : List B) (x : A) (y : B) → length xs ≡ length ys
    → ((i : ℕ) → i < length xs → R (get_or xs i x) (get_or ys i y)) → AllZip R xs ys
zip_from R [] [] x y e h = tt
zip_from R [] (b ∷ ys) x y e h = absurd (let f : 0 ≡ suc (length ys) = e in omega arith)
zip_from R (a ∷ xs) [] x y e h = absurd (let f : suc (length xs) ≡ 0 = e in omega arith)
zip_from R (a ∷ xs) (b ∷ ys) x y e h = (h 0 (omega arith), zip_from R xs ys x y (let f : suc (length xs) ≡ suc (length ys) = e in omega arith) (λ i within. h (suc i) (omega (arith, within))))

zip_at : {A B : Type 0} (R : A → B → Type 0) (xs : List A) (ys : List B) (x : A) (y : B) (i : ℕ) → AllZip R xs ys → i < length xs → R (get_or xs i x) (get_or ys i y)
zip_at R [] ys x y i h within = absurd (let f : i < 0 = within in omega arith)
zip_at R (a ∷ xs) [] x y i h within = absurd h
zip_at R (a ∷ xs) (b ∷ ys) x y zero h within = h.0
zip_at R (a ∷ xs) (b ∷ ys) x y (suc i) h within = zip_at R xs ys x y i h.1 (let f : suc i < suc (length xs) = within in omega arith)

zip_length : {A B : Type 0} (R : A → B → Type 0) (xs : List A) (ys : List B) → AllZip R xs ys → length xs ≡ length ys
zip_length R [] [] h = refl
zip_length R [] (b ∷ ys) h = absurd h
zip_length R (a ∷ xs) [] h = absurd h
zip_length R (a ∷ xs) (b ∷ ys) h = ap suc (zip_length R xs ys h.1)

-- ---- values of assignments

abbrev none : Value
none = value.Bool false

long : (n : ℕ) (a : ℕ → Value) → length (listed n a) ≡ n
long n a = length-map-range_with_len a 0 n

at : (n : ℕ) (a : ℕ → Value) (i : ℕ) → i < n → get_or (listed n a) i none ≡ a i
at n a i within = get_or-map-range_with_len a 0 n i i none within (omega arith)

-- each solution is the values of an assignment
pub values_again : (p : Problem) (values : List Value) → IsAssignment p.kinds values → values_of p (λ v. get_or values v none) ≡ values
values_again p values legal =
    let n = length p.kinds in
    let a : ℕ → Value = λ v. get_or values v none in
    let long_a = long n a in
    let long_values = zip_length InKind p.kinds values legal in
    ext_get_or none (listed n a) values (long_a ∙ long_values) (λ i within. at n a i (omega (arith, within, long_a)))

-- ---- initial values

initial_at : (kinds : List Kind) (v : ℕ) (x : Value) (k : Kind) → slice_get kinds v ≡ Some k → IsKind k → (initial_set kinds v x ≡ true) ↔ InKind k x
initial_at kinds v x k e ok = (
  λ h. (kind_values k ok x).1 (found_in x (initial_values k) (sym (ap (λ o. option_map_or (λ k. list_any (same_value x) (initial_values k)) o true) e) ∙ h)),
  λ h. ap (λ o. option_map_or (λ k. list_any (same_value x) (initial_values k)) o true) e ∙ found_from x (initial_values k) ((kind_values k ok x).0 h),
)

initial_past : (kinds : List Kind) (v : ℕ) (x : Value) → length kinds ≤ v → initial_set kinds v x ≡ true
initial_past kinds v x past = ap (λ o. option_map_or (λ k. list_any (same_value x) (initial_values k)) o true) (slice_get_past kinds v past)

module _ (p : Problem) (a : ℕ → Value) (legal : IsProblem p) where
  initial_here : (i : ℕ) → i < length p.kinds → (initial_set p.kinds i (a i) ≡ true) ↔ InKind (get_or p.kinds i kind.Bool) (a i)
  initial_here i within = initial_at p.kinds i (a i) (get_or p.kinds i kind.Bool) (slice_get-get_or p.kinds i kind.Bool within) (All-get_or IsKind p.kinds i kind.Bool within legal.kinds)

  assigned : ((v : ℕ) → initial_set p.kinds v (a v) ≡ true) → IsAssignment p.kinds (values_of p a)
  assigned h = zip_from InKind p.kinds (values_of p a) kind.Bool none (sym (long (length p.kinds) a)) (λ i within.
      subst (InKind (get_or p.kinds i kind.Bool)) (sym (at (length p.kinds) a i within)) ((initial_here i within).0 (h i)))

  within_initial : IsAssignment p.kinds (values_of p a) → (v : ℕ) → initial_set p.kinds v (a v) ≡ true
  within_initial h v = elim (nat_lt v (length p.kinds)) as (λ t. nat_lt v (length p.kinds) ≡ t → initial_set p.kinds v (a v) ≡ true) [
    | true ↦ λ is. let within = ltb-true v (length p.kinds) is in
        (initial_here v within).1 (subst (InKind (get_or p.kinds v kind.Bool)) (at (length p.kinds) a v within) (zip_at InKind p.kinds (values_of p a) kind.Bool none v h within))
    | false ↦ λ is. initial_past p.kinds v (a v) (ltb-false v (length p.kinds) is)
  ] refl

  -- ---- constraints

  all_hold : (cs : List Constraint) → ((c : ℕ) → c < length cs → IsSomeAnd (slice_get cs c) (λ k. Holds k (values_of p a))) → All (λ k. Holds k (values_of p a)) cs
  all_hold cs h i d within = subst (λ o. IsSomeAnd o (λ k. Holds k (values_of p a))) (slice_get-get_or cs i d within) (h i within)

  each_holds : (cs : List Constraint) → All (λ k. Holds k (values_of p a)) cs → (c : ℕ) → c < length cs → IsSomeAnd (slice_get cs c) (λ k. Holds k (values_of p a))
  each_holds [] all c within = absurd (let f : c < 0 = within in omega arith)
  each_holds (k ∷ cs) all c within = subst (λ o. IsSomeAnd o (λ k. Holds k (values_of p a))) (sym (slice_get-get_or (k ∷ cs) c k within)) (all c k within)

  pub solutions_same : rules.IsSolution (problem_of p) a ↔ meaning.IsSolution p (values_of p a)
  solutions_same = (
    λ s. record { assignment = assigned s.initial; constraints = all_hold p.constraints s.holds },
    λ s. record { initial = within_initial s.assignment; holds = each_holds p.constraints s.constraints },
  )
