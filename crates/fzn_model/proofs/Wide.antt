-- An ascending list of integers reaches as far as it has elements.
use Rattle.std.proofs.Common.{◌≡◌, ℕ, zero, suc, ◌+◌, ◌-◌, ◌<◌, ◌≤◌, List, [], ◌∷◌, length, get_or, ℤ, pos, ◌+ℤ◌, ◌-ℤ◌, refl, sym, ap, ◌∙◌, subst, arith}
use Rattle.std.specs.Prelude.{◌≤ℤ◌, ◌<ℤ◌}
use Rattle.std.specs.declared.cmp.Ordering.TheVariants.{Less}
use Rattle.std.specs.Ordering.{int_cmp}
use Rattle.std.specs.Cmp.{int_ranked}
use Rattle.std.proofs.lemmas.Int.{ints}
use Rattle.std.proofs.lemmas.List.Elements.{Contains-get_or}
use Rattle.std.proofs.lemmas.Map.Keys.{Less-from_sorted}
use Rattle.set_meaning.specs.Sets.{IsAscending}
use Rattle.bit_layout.specs.Words.{distance, greatest, least, span}
use Rattle.bit_layout.proofs.Elements.{distance_up, greatest_is_greatest, ends_in_order}

below : (x y : ℤ) → int_cmp x y ≡ Less → x <ℤ y
below x y e = int_ranked x y Less (sym e)

climbs : (xs : List ℤ) (d : ℤ) → IsAscending xs → (i : ℕ) → i < length xs → (get_or xs 0 d +ℤ pos i) ≤ℤ get_or xs i d
climbs xs d up zero within = omega (arith, ints)
climbs xs d up (suc i) within =
    let before : (get_or xs 0 d +ℤ pos i) ≤ℤ get_or xs i d = climbs xs d up i (omega arith) in
    let less : get_or xs i d <ℤ get_or xs (suc i) d = below (get_or xs i d) (get_or xs (suc i) d) (Less-from_sorted int_cmp xs i (suc i) d up (omega arith) within) in
    omega (arith, ints)

pub reaches : (xs : List ℤ) → IsAscending xs → length xs ≤ span xs + 1
reaches [] up = omega arith
reaches (y ∷ ys) up =
    let climb : (y +ℤ pos (length ys)) ≤ℤ get_or (y ∷ ys) (length ys) y = climbs (y ∷ ys) y up (length ys) (omega arith) in
    let last : get_or (y ∷ ys) (length ys) y ≤ℤ greatest (y ∷ ys) = greatest_is_greatest (y ∷ ys) (get_or (y ∷ ys) (length ys) y) up (Contains-get_or (y ∷ ys) (length ys) y (omega arith)) in
    let apart : pos (distance y (greatest (y ∷ ys))) ≡ greatest (y ∷ ys) -ℤ y = distance_up y (greatest (y ∷ ys)) (ends_in_order (y ∷ ys) up) in
    let far : length ys ≤ distance y (greatest (y ∷ ys)) = omega (arith, ints, climb, last, apart) in
    (let total : length (y ∷ ys) ≤ distance y (greatest (y ∷ ys)) + 1 = omega arith in total)
