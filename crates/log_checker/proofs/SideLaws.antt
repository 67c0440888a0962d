-- Whether sides are in order and fit.
use Rattle.std.proofs.Common.{◌≡◌, ◌↔◌, ℕ, ◌<◌, ◌≤◌, nat_lt, Bool, true, false, List, [], ◌∷◌, None, Some, refl, sym, ◌∙◌, inl, inr, arith}
use Rattle.std.specs.Prelude.{◌⊎◌, ◌≢◌, IsTrue}
use Rattle.std.proofs.Math.Dec.{eqb}
use Rattle.std.proofs.lemmas.Bool.Decides.{eqb_tells}
use Rattle.std.specs.List.{AllByRecursion}
use Rattle.std.specs.List.Sorted.{IsStrictlySortedBy}
use Rattle.std.specs.Ordering.{nat_cmp}
use Rattle.std.specs.Cmp.{nat_cmp_is}
use Rattle.std.specs.declared.cmp.Ordering.TheVariants.{Less, Equal, Greater}
use Rattle.std.proofs.lemmas.Bool.{ltb-true, ltb-false, lt-ltb}
use Rattle.log_rules.specs.declared.nodes.Node.{Node}
use Rattle.log_rules.specs.Tables.{Tests}
use Rattle.log_rules.specs.Boxes.{Sides, FitsWidth}
use Rattle.log_checker.specs.Words.{Ascends}
use Rattle.sweep_table.specs.Depths.{IsDeepest}

pub deepest_fits : (table : List Node) (n place width w : ℕ) → IsDeepest table n place → w ≡ width → IsTrue (nat_lt place w) ↔ FitsWidth table n width
unfolding FitsWidth
deepest_fits table n place width w is same = (
  (λ h q tests. let below : place < w = ltb-true place w h in let up : q ≤ place = is.latest q tests in omega arith),
  (λ fits. lt-ltb place w (let below : place < width = fits place is.tested in omega arith)),
)

pub untested_fits : (table : List Node) (n width : ℕ) → ((place : ℕ) → Tests table n place → ⊥) → IsTrue true ↔ FitsWidth table n width
unfolding FitsWidth
untested_fits table n width none = ((λ h q tests. absurd (none q tests)), (λ fits. refl))

-- ---- order

less_from : (x y : ℕ) → nat_cmp x y ≡ Less → x < y
less_from x y less = by (nat_lt x y) refl (eqb_tells x y)
  where
    by : (b : Bool) → nat_lt x y ≡ b → ((eqb x y ≡ true) × (x ≡ y)) ⊎ ((eqb x y ≡ false) × (x ≢ y)) → x < y
    by true e h = ltb-true x y e
    by false e (inl h) = let f : Equal ≡ Less = nat_cmp_is x y Equal h.1 ∙ less in absurd (cc)
    by false e (inr h) =
        let up : y ≤ x = ltb-false x y e in
        let apart : x ≡ y → ⊥ = h.1 in
        let above : y < x = grind arith in
        let f : Greater ≡ Less = nat_cmp_is x y Greater above ∙ less in absurd (cc)

less_to : (x y : ℕ) → x < y → nat_cmp x y ≡ Less
less_to x y h = sym (nat_cmp_is x y Less h)

all_above : (a b : ℕ) (xs : Sides) → a < b → AllByRecursion (λ y. nat_cmp b y.0 ≡ Less) xs → AllByRecursion (λ y. nat_cmp a y.0 ≡ Less) xs
all_above a b [] h all = tt
all_above a b (x ∷ xs) h all = (less_to a x.0 (let k : b < x.0 = less_from b x.0 all.0 in omega arith), all_above a b xs h all.1)

above : (a : ℕ) (xs : Sides) → Ascends (Some a) xs → AllByRecursion (λ y. nat_cmp a y.0 ≡ Less) xs × IsStrictlySortedBy (λ x y. nat_cmp x.0 y.0) xs
unfolding IsStrictlySortedBy
above a [] h = (tt, tt)
above a (s ∷ xs) h = let r = above s.0 xs h.1 in ((less_to a s.0 h.0, all_above a s.0 xs h.0 r.0), r)

back : (a : ℕ) (xs : Sides) → AllByRecursion (λ y. nat_cmp a y.0 ≡ Less) xs → IsStrictlySortedBy (λ x y. nat_cmp x.0 y.0) xs → Ascends (Some a) xs
unfolding IsStrictlySortedBy
back a [] all sorted = tt
back a (s ∷ xs) all sorted = (less_from a s.0 all.0, back s.0 xs sorted.0 sorted.1)

pub ascends_to : (xs : Sides) → Ascends None xs → IsStrictlySortedBy (λ x y. nat_cmp x.0 y.0) xs
unfolding IsStrictlySortedBy
ascends_to [] h = tt
ascends_to (s ∷ xs) h = above s.0 xs h.1

pub ascends_from : (xs : Sides) → IsStrictlySortedBy (λ x y. nat_cmp x.0 y.0) xs → Ascends None xs
unfolding IsStrictlySortedBy
ascends_from [] h = tt
ascends_from (s ∷ xs) h = (tt, back s.0 xs h.0 h.1)
