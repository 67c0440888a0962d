-- The variables of a constraint have few bits.
use Rattle.std.proofs.Common.{◌≡◌, ◌⊎◌, ℕ, zero, suc, ◌+◌, ◌<◌, ◌≤◌, List, [], ◌∷◌, ◌++◌, length, option_to_list, refl, inl, inr, arith}
use Rattle.std.specs.Prelude.{All, slice_get, sum_by, filter_map}
use Rattle.std.specs.List.{flat_map}
use Rattle.std.specs.Option.{option_map_or}
use Rattle.std.specs.Ordering.{nat_cmp}
use Rattle.std.specs.declared.cmp.Ordering.TheVariants.{Less}
use Rattle.std.specs.List.Sorted.{IsStrictlySortedBy}
use Rattle.std.proofs.lemmas.Bool.Decides.{nat_tests}
use Rattle.std.proofs.lemmas.List.Sums.{sum_by-cons}
use Rattle.std.proofs.lemmas.List.Elements.{All-cons, All-contains, All-head, All-nil, All-tail, All-weaker}
use Rattle.std.proofs.lemmas.Map.Keys.{sorted_tail}
use Rattle.std.proofs.lemmas.Map.Views.{All-after_first}
use Rattle.set_meaning.specs.declared.kinds.Kind.{Kind}
use Rattle.set_meaning.specs.declared.problems.VarId.{VarId}
use Rattle.set_meaning.specs.declared.problems.Term.{Term}
use Rattle.set_meaning.specs.declared.problems.Term.TheVariants.{Const, Var}
use Rattle.set_meaning.specs.declared.problems.Constraint.{Constraint}
use Rattle.set_meaning.specs.Relations.{IsScope, terms_of, variable_of, variables_of}
use Rattle.bit_layout.specs.Words.{width_of}
use Rattle.problem_limits.specs.Limits.{IsSmallTerm, IsWithinLimits, width_in}
use Rattle.fzn_model.specs.FaultsOf.{bits_at}
use Rattle.fzn_model.proofs.Among.{all_from_members}
use Rattle.model_limits.proofs.FineTerms.{IsFine}
use Rattle.model_limits.proofs.FineConstraints.{HasFineTerms, IsGood, count_terms}
use Rattle.model_limits.proofs.Splits.{all_front}

abbrev pub IsBefore : ℕ → VarId → Type 0
IsBefore n v = v.0 < n

-- ---- variables are among the first

variables_before : (n : ℕ) (ts : List Term) → All (IsFine n) ts → All (IsBefore n) (filter_map variable_of ts)
variables_before n [] h = All-nil (IsBefore n)
variables_before n (Const v ∷ ts) h = variables_before n ts (All-tail (IsFine n) (Const v) ts h)
variables_before n (Var x ∷ ts) h =
    let own : IsFine n (Var x) = All-head (IsFine n) (Var x) ts h in
    All-cons (IsBefore n) x (filter_map variable_of ts) own.below (variables_before n ts (All-tail (IsFine n) (Var x) ts h))

scope_before : (n : ℕ) (c : Constraint) (scope : List VarId) → HasFineTerms n c → IsScope c scope → All (IsBefore n) scope
scope_before n c scope fine is =
    all_from_members (IsBefore n) scope (λ v h. All-contains (IsBefore n) (variables_of c) v
    (variables_before n (flat_map terms_of c.args ++ option_to_list c.reif) fine) ((is.members v).0 h))

pub small_terms : (n : ℕ) (c : Constraint) → HasFineTerms n c → All IsSmallTerm (flat_map terms_of c.args)
small_terms n c fine =
    All-weaker (IsFine n) IsSmallTerm (λ t h. h.small) (flat_map terms_of c.args)
    (all_front (IsFine n) (flat_map terms_of c.args) (option_to_list c.reif) fine)

-- ---- more kinds leave the bits as they are

same_bits_at : (kinds more : List Kind) (i : ℕ) → i < length kinds
    → sum_by width_of (option_to_list (slice_get kinds i)) ≡ option_map_or width_of (slice_get (kinds ++ more) i) 0
same_bits_at [] more i h = absurd (omega arith)
same_bits_at (k ∷ kinds) more zero h =
    let e : sum_by width_of (k ∷ []) ≡ width_of k + sum_by width_of [] = sum_by-cons width_of k [] in
    omega (arith, e)
same_bits_at (k ∷ kinds) more (suc i) h = same_bits_at kinds more i (omega arith)

same_sum : (kinds more : List Kind) (vs : List VarId) → All (IsBefore (length kinds)) vs → sum_by (bits_at kinds) vs ≡ sum_by (width_in (kinds ++ more)) vs
same_sum kinds more [] h = refl
same_sum kinds more (v ∷ vs) h =
    let one : bits_at kinds v ≡ width_in (kinds ++ more) v = same_bits_at kinds more v.0 (All-head (IsBefore (length kinds)) v vs h) in
    let rest : sum_by (bits_at kinds) vs ≡ sum_by (width_in (kinds ++ more)) vs = same_sum kinds more vs (All-tail (IsBefore (length kinds)) v vs h) in
    let a : sum_by (bits_at kinds) (v ∷ vs) ≡ bits_at kinds v + sum_by (bits_at kinds) vs = sum_by-cons (bits_at kinds) v vs in
    let b : sum_by (width_in (kinds ++ more)) (v ∷ vs) ≡ width_in (kinds ++ more) v + sum_by (width_in (kinds ++ more)) vs =
    sum_by-cons (width_in (kinds ++ more)) v vs in
    omega (arith, one, rest, a, b)

-- a constraint whose scope is not too wide, over more kinds
pub within_more : (kinds more : List Kind) (most : ℕ) (c : Constraint) → IsGood (length kinds) most c → most ≤ 4194304
    → ((scope : List VarId) → IsScope c scope → sum_by (bits_at kinds) scope ≤ 2048) → IsWithinLimits (kinds ++ more) c
within_more kinds more most c good few narrow = record {
  constants = small_terms (length kinds) c good.fine;
  terms = let t : count_terms c.args ≤ most = good.few in omega (arith, t, few);
  scope = λ scope is.
      let same : sum_by (bits_at kinds) scope ≡ sum_by (width_in (kinds ++ more)) scope =
      same_sum kinds more scope (scope_before (length kinds) c scope good.fine is) in
      let old : sum_by (bits_at kinds) scope ≤ 2048 = narrow scope is in
      omega (arith, same, old);
}

-- ---- two variables

abbrev pub IsThin : Kind → Type 0
IsThin k = width_of k ≤ 512

thin_at : (kinds : List Kind) (i : ℕ) → All IsThin kinds → option_map_or width_of (slice_get kinds i) 0 ≤ 512
thin_at [] i h = omega arith
thin_at (k ∷ kinds) zero h = let t : width_of k ≤ 512 = All-head IsThin k kinds h in t
thin_at (k ∷ kinds) (suc i) h = thin_at kinds i (All-tail IsThin k kinds h)

abbrev pub IsEither : VarId → VarId → VarId → Type 0
IsEither a b v = (v.0 ≡ a.0) ⊎ (v.0 ≡ b.0)

below : (v w : VarId) → nat_cmp v.0 w.0 ≡ Less → v.0 < w.0
below v w e = grind (arith, nat_tests)

-- of three in order one is another than either
not_three : (a b x y z : VarId) → x.0 < y.0 → y.0 < z.0 → IsEither a b x → IsEither a b y → IsEither a b z → ⊥
not_three a b x y z p q (inl e) (inl f) g = omega arith
not_three a b x y z p q (inl e) (inr f) (inl g) = omega arith
not_three a b x y z p q (inl e) (inr f) (inr g) = omega arith
not_three a b x y z p q (inr e) (inl f) (inl g) = omega arith
not_three a b x y z p q (inr e) (inl f) (inr g) = omega arith
not_three a b x y z p q (inr e) (inr f) g = omega arith

pub two_narrow : (kinds : List Kind) → All IsThin kinds → (a b : VarId) (scope : List VarId) → IsStrictlySortedBy (λ v w. nat_cmp v.0 w.0) scope
    → All (IsEither a b) scope → sum_by (width_in kinds) scope ≤ 1024
two_narrow kinds thin a b [] sorted h = omega arith
two_narrow kinds thin a b (x ∷ []) sorted h =
    let one : sum_by (width_in kinds) (x ∷ []) ≡ width_in kinds x + sum_by (width_in kinds) [] = sum_by-cons (width_in kinds) x [] in
    let w : width_in kinds x ≤ 512 = thin_at kinds x.0 thin in
    omega (arith, one, w)
two_narrow kinds thin a b (x ∷ y ∷ []) sorted h =
    let one : sum_by (width_in kinds) (x ∷ y ∷ []) ≡ width_in kinds x + sum_by (width_in kinds) (y ∷ []) = sum_by-cons (width_in kinds) x (y ∷ []) in
    let two : sum_by (width_in kinds) (y ∷ []) ≡ width_in kinds y + sum_by (width_in kinds) [] = sum_by-cons (width_in kinds) y [] in
    let v : width_in kinds x ≤ 512 = thin_at kinds x.0 thin in
    let w : width_in kinds y ≤ 512 = thin_at kinds y.0 thin in
    omega (arith, one, two, v, w)
two_narrow kinds thin a b (x ∷ y ∷ z ∷ scope) sorted h =
    let all_x = All-after_first (λ (v w : VarId). nat_cmp v.0 w.0) x (y ∷ z ∷ scope) sorted in
    let p = below x y (All-head (λ (w : VarId). nat_cmp x.0 w.0 ≡ Less) y (z ∷ scope) all_x) in
    let all_y = All-after_first (λ (v w : VarId). nat_cmp v.0 w.0) y (z ∷ scope) (tail_sorted x (y ∷ z ∷ scope) sorted) in
    let q = below y z (All-head (λ (w : VarId). nat_cmp y.0 w.0 ≡ Less) z scope all_y) in
    let hx = All-head (IsEither a b) x (y ∷ z ∷ scope) h in
    let hy = All-head (IsEither a b) y (z ∷ scope) (All-tail (IsEither a b) x (y ∷ z ∷ scope) h) in
    let hz = All-head (IsEither a b) z scope (All-tail (IsEither a b) y (z ∷ scope) (All-tail (IsEither a b) x (y ∷ z ∷ scope) h)) in
    absurd (not_three a b x y z p q hx hy hz)
  where
    tail_sorted : (v : VarId) (vs : List VarId) → IsStrictlySortedBy (λ v w. nat_cmp v.0 w.0) (v ∷ vs) → IsStrictlySortedBy (λ v w. nat_cmp v.0 w.0) vs
    tail_sorted v vs s = sorted_tail (λ (v w : VarId). nat_cmp v.0 w.0) v vs s
