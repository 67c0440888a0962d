-- The number that digits are: a longer run of them is no smaller a number, and a large number is cut off.
use Rattle.std.proofs.Common.{◌≡◌, ℕ, ◌+◌, ◌*◌, ◌<◌, ◌≤◌, min, Bool, cond, List, [], ◌∷◌, take, zero, suc, sym, arith, pos, neg_ℤ}
use Rattle.std.specs.Prelude.{nat_le}
use Rattle.std.specs.Char.{digit_value}
use Rattle.std.specs.Str.Parse.{digits_value, digits_value_after}
use Rattle.std.proofs.Math.Nat.{le-mul_of_pos_right}
use Rattle.std.proofs.lemmas.Bool.{le-leb, lt-leb, cond-true, cond-false}
use Rattle.fzn_reader.specs.declared.tokens.TokenKind.TheVariants as kinds
use Rattle.fzn_reader.specs.declared.tokens.TheConstants.{INT_LIMIT}
use Rattle.fzn_reader.specs.Pieces.{int_kind, int_limit}

after_ge : (base n : ℕ) (ds : List ℕ) → 0 < base → n ≤ digits_value_after base n ds
after_ge base n [] some = omega arith
after_ge base n (d ∷ ds) some = omega (arith, after_ge base (n * base + digit_value d) ds some, le-mul_of_pos_right n some)

after_front : (base n k : ℕ) (ds : List ℕ) → 0 < base → digits_value_after base n (take k ds) ≤ digits_value_after base n ds
after_front base n zero ds some = after_ge base n ds some
after_front base n (suc k) [] some = omega arith
after_front base n (suc k) (d ∷ ds) some = after_front base (n * base + digit_value d) k ds some

pub digits_value_front : (base k : ℕ) (ds : List ℕ) → 0 < base → digits_value base (take k ds) ≤ digits_value base ds
digits_value_front base k ds some = after_front base 0 k ds some

-- the token of a number, by its size
pub large_int : (negative : Bool) (n : ℕ) → INT_LIMIT < min n (INT_LIMIT + 1) → kinds.LargeInt ≡ int_kind negative n
large_int negative n large =
    sym (cond-false (nat_le n int_limit) (kinds.Int (cond negative (neg_ℤ (pos n)) (pos n))) kinds.LargeInt (lt-leb n int_limit (omega arith)))

small_int : (negative : Bool) (n : ℕ) → n ≤ INT_LIMIT → kinds.Int (cond negative (neg_ℤ (pos n)) (pos n)) ≡ int_kind negative n
small_int negative n small =
    sym (cond-true (nat_le n int_limit) (kinds.Int (cond negative (neg_ℤ (pos n)) (pos n))) kinds.LargeInt (le-leb n int_limit small))
