-- The summands of each relation, and how its sum is made of them.
use Rattle.std.proofs.Common.{◌≡◌, ◌+◌, ◌*◌, ◌<◌, ◌≤◌, ◌^◌, ℕ, zero, suc, ℤ, pos, negsuc, unsigned_abs, List, [], ◌∷◌, ◌++◌, length, get_or, All, Contains, flat_map, sym, ap, subst, length-append, arith}
use Rattle.std.proofs.lemmas.List.{length-map}
use Rattle.std.proofs.lemmas.List.Elements.{All-nil, All-append, All-weaker, All-contains, All-contains_itself, Contains-append_left, Contains-append_right}
use Rattle.set_meaning.specs.declared.problems.Term.{Term}
use Rattle.set_meaning.specs.declared.problems.Arg.{Arg}
use Rattle.set_meaning.specs.declared.problems.Relation.{Relation}
use Rattle.set_meaning.specs.declared.problems.Relation.TheVariants.{IntEq, IntNe, IntLe, IntLt, IntLinEq, IntLinLe, IntLinNe, IntPlus, BoolEq, BoolLe, BoolLt, BoolNot, BoolClause, Bool2Int}
use Rattle.set_meaning.specs.Relations.{terms_of}
use Rattle.problem_limits.specs.Limits.{IsSmallTerm}
use Rattle.sweep_sums.specs.declared.comparison.Comparison.{Comparison}
use Rattle.sweep_sums.specs.declared.comparison.Comparison.TheVariants.{Equal}
use Rattle.sweep_sums.specs.declared.forms.LinearSum.{LinearSum}
use Rattle.sweep_sums.specs.declared.sums.adding.PartialSum.{PartialSum}
use Rattle.sweep_sums.specs.SumTables.{Summand, times, each_times, products, of_two, of_plus, of_linear, summands_of, Adds, IsSumOver}
use Rattle.sweep_sums.proofs.SumTerms.{IsOver, each_over, products_over, products_few, adds_both, sum_made}

-- ---- of which variables, and how large

pub record IsMadeOf (terms : List Term) (ss : List Summand) : Type 0 where
  pub over : All (IsOver terms) ss
  pub few : length ss ≤ length terms

nothing_made : (terms : List Term) → IsMadeOf terms []
nothing_made terms = record { over = All-nil (IsOver terms); few = omega arith }

two_made : (c d : ℤ) (args : List Arg) → unsigned_abs c ≤ 1000000000 → unsigned_abs d ≤ 1000000000 → IsMadeOf (flat_map terms_of args) (of_two c d args)
two_made c d [] p q = nothing_made []
two_made c d (a ∷ []) p q = nothing_made (flat_map terms_of (a ∷ []))
two_made c d (a ∷ b ∷ []) p q =
    let terms = terms_of a ++ (terms_of b ++ []) in
    record {
      over = All-append (IsOver terms) (each_times c a) (each_times d b) (each_over terms c (terms_of a) p (λ t i. Contains-append_left (terms_of a) (terms_of b ++ []) t i))
          (each_over terms d (terms_of b) q (λ t i. Contains-append_right (terms_of a) (terms_of b ++ []) t (Contains-append_left (terms_of b) [] t i)));
      few =
          let first = length-map (terms_of a) (times c) in
          let second = length-map (terms_of b) (times d) in
          let whole = length-append (each_times c a) (each_times d b) in
          let all = length-append (terms_of a) (terms_of b ++ []) in
          let rest = length-append (terms_of b) [] in
          omega (arith, first, second, whole, all, rest);
    }
two_made c d (a ∷ b ∷ x ∷ args) p q = nothing_made (flat_map terms_of (a ∷ b ∷ x ∷ args))

plus_made : (args : List Arg) → IsMadeOf (flat_map terms_of args) (of_plus args)
plus_made [] = nothing_made []
plus_made (a ∷ []) = nothing_made (flat_map terms_of (a ∷ []))
plus_made (a ∷ b ∷ []) = nothing_made (flat_map terms_of (a ∷ b ∷ []))
plus_made (a ∷ b ∷ c ∷ []) =
    let last = terms_of c ++ [] in
    let terms = terms_of a ++ (terms_of b ++ last) in
    record {
      over = All-append (IsOver terms) (each_times (pos 1) a ++ each_times (pos 1) b) (each_times (negsuc 0) c)
          (All-append (IsOver terms) (each_times (pos 1) a) (each_times (pos 1) b) (each_over terms (pos 1) (terms_of a) (omega arith) (λ t i. Contains-append_left (terms_of a) (terms_of b ++ last) t i))
          (each_over terms (pos 1) (terms_of b) (omega arith) (λ t i. Contains-append_right (terms_of a) (terms_of b ++ last) t (Contains-append_left (terms_of b) last t i))))
          (each_over terms (negsuc 0) (terms_of c) (omega arith) (λ t i. Contains-append_right (terms_of a) (terms_of b ++ last) t (Contains-append_right (terms_of b) last t (Contains-append_left (terms_of c) [] t i))));
      few =
          let first = length-map (terms_of a) (times (pos 1)) in
          let second = length-map (terms_of b) (times (pos 1)) in
          let third = length-map (terms_of c) (times (negsuc 0)) in
          let front = length-append (each_times (pos 1) a) (each_times (pos 1) b) in
          let whole = length-append (each_times (pos 1) a ++ each_times (pos 1) b) (each_times (negsuc 0) c) in
          let all = length-append (terms_of a) (terms_of b ++ last) in
          let rest = length-append (terms_of b) last in
          let end = length-append (terms_of c) [] in
          omega (arith, first, second, third, front, whole, all, rest, end);
    }
plus_made (a ∷ b ∷ c ∷ x ∷ args) = nothing_made (flat_map terms_of (a ∷ b ∷ c ∷ x ∷ args))

linear_made : (args : List Arg) → All IsSmallTerm (flat_map terms_of args) → IsMadeOf (flat_map terms_of args) (of_linear args)
linear_made [] small = nothing_made []
linear_made (a ∷ []) small = nothing_made (flat_map terms_of (a ∷ []))
linear_made (a ∷ b ∷ []) small = nothing_made (flat_map terms_of (a ∷ b ∷ []))
linear_made (a ∷ b ∷ c ∷ []) small =
    let last = terms_of c ++ [] in
    let terms = terms_of a ++ (terms_of b ++ last) in
    let coefficients : All IsSmallTerm (terms_of a) = All-weaker (Contains (terms_of a)) IsSmallTerm (λ t i. All-contains IsSmallTerm terms t small (Contains-append_left (terms_of a) (terms_of b ++ last) t i))
    (terms_of a) (All-contains_itself (terms_of a)) in
    record {
      over = All-append (IsOver terms) (products (terms_of a) (terms_of b)) (each_times (negsuc 0) c)
          (products_over terms (terms_of a) (terms_of b) coefficients (λ t i. Contains-append_right (terms_of a) (terms_of b ++ last) t (Contains-append_left (terms_of b) last t i)))
          (each_over terms (negsuc 0) (terms_of c) (omega arith) (λ t i. Contains-append_right (terms_of a) (terms_of b ++ last) t (Contains-append_right (terms_of b) last t (Contains-append_left (terms_of c) [] t i))));
      few =
          let first = products_few (terms_of a) (terms_of b) in
          let second = length-map (terms_of c) (times (negsuc 0)) in
          let whole = length-append (products (terms_of a) (terms_of b)) (each_times (negsuc 0) c) in
          let all = length-append (terms_of a) (terms_of b ++ last) in
          let rest = length-append (terms_of b) last in
          let end = length-append (terms_of c) [] in
          omega (arith, first, second, whole, all, rest, end);
    }
linear_made (a ∷ b ∷ c ∷ x ∷ args) small = nothing_made (flat_map terms_of (a ∷ b ∷ c ∷ x ∷ args))

pub table_made : (relation : Relation) (args : List Arg) → All IsSmallTerm (flat_map terms_of args) → IsMadeOf (flat_map terms_of args) (summands_of relation args)
table_made IntEq args small = two_made (pos 1) (negsuc 0) args (omega arith) (omega arith)
table_made IntNe args small = two_made (pos 1) (negsuc 0) args (omega arith) (omega arith)
table_made IntLe args small = two_made (pos 1) (negsuc 0) args (omega arith) (omega arith)
table_made IntLt args small = two_made (pos 1) (negsuc 0) args (omega arith) (omega arith)
table_made IntLinEq args small = linear_made args small
table_made IntLinLe args small = linear_made args small
table_made IntLinNe args small = linear_made args small
table_made IntPlus args small = plus_made args
table_made BoolEq args small = two_made (pos 1) (negsuc 0) args (omega arith) (omega arith)
table_made BoolLe args small = two_made (pos 1) (negsuc 0) args (omega arith) (omega arith)
table_made BoolLt args small = two_made (pos 1) (negsuc 0) args (omega arith) (omega arith)
table_made BoolNot args small = two_made (pos 1) (pos 1) args (omega arith) (omega arith)
table_made BoolClause args small = two_made (negsuc 0) (pos 1) args (omega arith) (omega arith)
table_made Bool2Int args small = two_made (pos 1) (negsuc 0) args (omega arith) (omega arith)
table_made _ args small = nothing_made (flat_map terms_of args)

-- ---- arguments of a slice

pub two_args : (args : List Arg) (a b : Arg) → 2 ≤ length args → length args < 3 → a ≡ get_or args 0 a → b ≡ get_or args 1 b → args ≡ a ∷ b ∷ []
two_args [] a b low high p q = absurd (omega arith)
two_args (x ∷ []) a b low high p q = absurd (omega arith)
two_args (x ∷ y ∷ []) a b low high p q = cc
two_args (x ∷ y ∷ z ∷ zs) a b low high p q = absurd (omega arith)

pub three_args : (args : List Arg) (a b c : Arg) → 3 ≤ length args → length args < 4 → a ≡ get_or args 0 a → b ≡ get_or args 1 b → c ≡ get_or args 2 c → args ≡ a ∷ b ∷ c ∷ []
three_args [] a b c low high p q r = absurd (omega arith)
three_args (x ∷ []) a b c low high p q r = absurd (omega arith)
three_args (x ∷ y ∷ []) a b c low high p q r = absurd (omega arith)
three_args (x ∷ y ∷ z ∷ []) a b c low high p q r = cc
three_args (x ∷ y ∷ z ∷ w ∷ ws) a b c low high p q r = absurd (omega arith)

front_small : (xs ys : List Term) → All IsSmallTerm (xs ++ ys) → All IsSmallTerm xs
front_small xs ys h = All-weaker (Contains xs) IsSmallTerm (λ t i. All-contains IsSmallTerm (xs ++ ys) t h (Contains-append_left xs ys t i)) xs (All-contains_itself xs)

rest_small : (xs ys : List Term) → All IsSmallTerm (xs ++ ys) → All IsSmallTerm ys
rest_small xs ys h = All-weaker (Contains ys) IsSmallTerm (λ t i. All-contains IsSmallTerm (xs ++ ys) t h (Contains-append_right xs ys t i)) ys (All-contains_itself ys)

-- the constants of one argument are small, as all are
pub argument_small : (args : List Arg) (k : ℕ) (a : Arg) → k < length args → a ≡ get_or args k a → All IsSmallTerm (flat_map terms_of args) → All IsSmallTerm (terms_of a)
argument_small [] k a within at h = absurd (omega (arith, within))
argument_small (x ∷ args) zero a within at h = subst (λ y. All IsSmallTerm (terms_of y)) (sym at) (front_small (terms_of x) (flat_map terms_of args) h)
argument_small (x ∷ args) (suc k) a within at h = argument_small args k a (omega (arith, within)) at (rest_small (terms_of x) (flat_map terms_of args) h)

-- what was made of the summands is the sum
pub record IsMadeSum (offset : ℤ) (compared : Comparison) (start end : PartialSum) (s : LinearSum) : Type 0 where
  pub empty : start.terms.items ≡ []
  pub begun : start.constant ≡ offset
  pub small : unsigned_abs offset ≤ 1000000000
  pub terms : s.terms ≡ end.terms.items
  pub constant : s.constant ≡ end.constant
  pub comparison : s.comparison ≡ compared

pub two_summed : (c d offset : ℤ) (compared : Comparison) (args : List Arg) (a b : Arg) (start mid end : PartialSum) (s : LinearSum) → args ≡ a ∷ b ∷ [] → unsigned_abs c ≤ 1000000000 → unsigned_abs d ≤ 1000000000
    → length (flat_map terms_of args) ≤ 4194304 → Adds (each_times c a) start mid → Adds (each_times d b) mid end → IsMadeSum offset compared start end s → IsSumOver (of_two c d args) offset compared s
two_summed c d offset compared args a b start mid end s is p q few first second made =
    let long = (two_made c d args p q).few in
    let added : Adds (of_two c d args) start end = subst (λ as'. Adds (of_two c d as') start end) (sym is) (adds_both (each_times c a) (each_times d b) start mid end first second) in
    sum_made (of_two c d args) offset compared start end s made.empty made.begun added made.terms made.constant made.comparison made.small (omega (arith, long, few))

pub plus_summed : (args : List Arg) (a b c : Arg) (start first second end : PartialSum) (s : LinearSum) → args ≡ a ∷ b ∷ c ∷ [] → length (flat_map terms_of args) ≤ 4194304
    → Adds (each_times (pos 1) a) start first → Adds (each_times (pos 1) b) first second → Adds (each_times (negsuc 0) c) second end → IsMadeSum (pos 0) Equal start end s
    → IsSumOver (of_plus args) (pos 0) Equal s
plus_summed args a b c start first second end s is few one two three made =
    let long = (plus_made args).few in
    let front = adds_both (each_times (pos 1) a) (each_times (pos 1) b) start first second one two in
    let added : Adds (of_plus args) start end = subst (λ as'. Adds (of_plus as') start end) (sym is) (adds_both (each_times (pos 1) a ++ each_times (pos 1) b) (each_times (negsuc 0) c) start second end front three) in
    sum_made (of_plus args) (pos 0) Equal start end s made.empty made.begun added made.terms made.constant made.comparison made.small (omega (arith, long, few))

pub linear_summed : (compared : Comparison) (args : List Arg) (a b c : Arg) (start mid end : PartialSum) (s : LinearSum) → args ≡ a ∷ b ∷ c ∷ [] → All IsSmallTerm (flat_map terms_of args)
    → length (flat_map terms_of args) ≤ 4194304 → Adds (products (terms_of a) (terms_of b)) start mid → Adds (each_times (negsuc 0) c) mid end → IsMadeSum (pos 0) compared start end s
    → IsSumOver (of_linear args) (pos 0) compared s
linear_summed compared args a b c start mid end s is small few first second made =
    let long = (linear_made args small).few in
    let added : Adds (of_linear args) start end = subst (λ as'. Adds (of_linear as') start end) (sym is) (adds_both (products (terms_of a) (terms_of b)) (each_times (negsuc 0) c) start mid end first second) in
    sum_made (of_linear args) (pos 0) compared start end s made.empty made.begun added made.terms made.constant made.comparison made.small (omega (arith, long, few))

-- what the products leave of the room
pub room_after_products : (args : List Arg) (a b c : Arg) (xs ys : List Term) (start mid : PartialSum) → args ≡ a ∷ b ∷ c ∷ [] → length (flat_map terms_of args) ≤ 4194304 → unsigned_abs start.constant ≤ 1000000000
    → ys ≡ terms_of b → Adds (products xs ys) start mid → unsigned_abs mid.constant + length (terms_of c) * 1000000000000000000 ≤ 2 ^ 100
room_after_products args a b c xs ys start mid is few begun at added =
    let size = added.size in
    let some = products_few xs ys in
    let same = ap length at in
    let whole = ap (λ as'. length (flat_map terms_of as')) is in
    let all = length-append (terms_of a) (terms_of b ++ (terms_of c ++ [])) in
    let rest = length-append (terms_of b) (terms_of c ++ []) in
    let end = length-append (terms_of c) [] in
    omega (arith, size, some, same, whole, all, rest, end, few, begun)
