-- How integers and floats are written. A `-` before them is left out here.
-- Source: the FlatZinc grammar of the MiniZinc Handbook; that no number begins at a `0x` or `0o` without digits is this
-- project's own.
use Rattle.std.specs.Prelude.{ℕ, Bool, true, false, ◌&&◌, ◌||◌, ◌==◌, nat_lt, if◌then◌else◌, List, [], ◌∷◌, drop, Option, Some, None}
use Rattle.std.specs.List.{list_all, prefix_len}
use Rattle.std.specs.Char.{is_digit}
use Rattle.std.specs.Str.Parse.{digits_value}

-- a digit of this base, a letter being small or capital
abbrev pub is_digit_in : ℕ → ℕ → Bool
is_digit_in base b = is_digit b base

-- one digit or more, and nothing else
abbrev pub are_digits : ℕ → List ℕ → Bool
are_digits base [] = false
are_digits base (b ∷ bytes) = list_all (is_digit_in base) (b ∷ bytes)

-- how a number is written: as an integer, as a float, or as `0x` or `0o` with no digit, which is no number
pub data Numeral : Type 0 where
  integer : ℕ → Numeral
  float : Numeral
  no_digits : Numeral

-- the base that `0x` or `0o` names; 48 is `0`, 120 is `x` and 111 is `o`
abbrev pub base_of_letter : ℕ → Option ℕ
base_of_letter b = if b == 120 then Some 16 else (if b == 111 then Some 8 else None)

-- the base that the first two bytes name
abbrev pub base_of : List ℕ → Option ℕ
base_of [] = None
base_of (a ∷ []) = None
base_of (a ∷ b ∷ bytes) = if a == 48 then base_of_letter b else None

-- what the bytes after `0x` or `0o` make of it: no digits where there are none, an integer where all are digits of
-- the base
abbrev pub number_in : ℕ → List ℕ → Option Numeral
number_in base [] = Some no_digits
number_in base (b ∷ bytes) =
    if are_digits base (b ∷ bytes) then Some (integer (digits_value base (b ∷ bytes))) else None

-- what follows the decimal digits at the front
abbrev pub without_digits : List ℕ → List ℕ
without_digits bytes = drop (prefix_len (is_digit_in 10) bytes) bytes

-- whether a decimal digit is at the front
abbrev pub begins_with_digit : List ℕ → Bool
begins_with_digit bytes = nat_lt 0 (prefix_len (is_digit_in 10) bytes)

-- what follows the sign at the front, if there is one; 43 is `+` and 45 is `-`
abbrev pub without_sign : List ℕ → List ℕ
without_sign [] = []
without_sign (b ∷ bytes) = if (b == 43) || (b == 45) then bytes else b ∷ bytes

-- `e` or `E`
abbrev pub is_exponent_letter : ℕ → Bool
is_exponent_letter b = (b == 101) || (b == 69)

-- `e` or `E`, a sign or none, and digits
abbrev pub is_exponent : List ℕ → Bool
is_exponent [] = false
is_exponent (b ∷ bytes) = is_exponent_letter b && are_digits 10 (without_sign bytes)

-- nothing, or an exponent
abbrev pub is_exponent_or_nothing : List ℕ → Bool
is_exponent_or_nothing [] = true
is_exponent_or_nothing (b ∷ bytes) = is_exponent (b ∷ bytes)

-- `.`, which is 46, and digits, or an exponent, or both
abbrev pub is_float_ending : List ℕ → Bool
is_float_ending [] = false
is_float_ending (b ∷ bytes) =
    if b == 46 then begins_with_digit bytes && is_exponent_or_nothing (without_digits bytes) else is_exponent (b ∷ bytes)

-- decimal digits and such an ending
abbrev pub is_float : List ℕ → Bool
is_float bytes = begins_with_digit bytes && is_float_ending (without_digits bytes)

-- the number without a prefix that has exactly these bytes
abbrev pub decimal_of : List ℕ → Option Numeral
decimal_of bytes =
    if are_digits 10 bytes then Some (integer (digits_value 10 bytes)) else (if is_float bytes then Some float else None)

-- the number that has exactly these bytes, by the base that their prefix names, if they have one
abbrev pub number_of_base : Option ℕ → List ℕ → Option Numeral
number_of_base None bytes = decimal_of bytes
number_of_base (Some base) bytes = number_in base (drop 2 bytes)

-- the same, the prefix read from the bytes
abbrev pub number_of : List ℕ → Option Numeral
number_of bytes = number_of_base (base_of bytes) bytes
