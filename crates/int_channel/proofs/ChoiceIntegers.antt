-- The less and the greater of two integers, and absolute values, as choices.
use Rattle.std.proofs.Common.{◌≡◌, ◌↔◌, ◌⊎◌, ◌≤◌, ◌<◌, ℕ, ℤ, pos, negsuc, ◌+ℤ◌, ◌*ℤ◌, ◌≤ℤ◌, unsigned_abs, List, [], ◌∷◌, length, Option, Some, refl, sym, subst, inl, inr, arith, Contains}
use Rattle.std.specs.Prelude.{filter_map}
use Rattle.std.specs.List.{All, AllZip}
use Rattle.std.proofs.lemmas.Int.{ints, by_lt_z}
use Rattle.set_meaning.specs.declared.kinds.Kind.{Kind}
use Rattle.set_meaning.specs.declared.kinds.Value.{Value}
use Rattle.set_meaning.specs.declared.problems.Term.{Term}
use Rattle.set_meaning.specs.declared.problems.Arg.{Arg}
use Rattle.set_meaning.specs.declared.problems.Arg.TheVariants.{One, Many}
use Rattle.set_meaning.specs.declared.problems.Relation.TheVariants.{IntMin, IntMax, IntAbs}
use Rattle.set_meaning.specs.declared.rows.Sort.TheVariants.{Integer}
use Rattle.set_meaning.specs.Arguments.{int_of_term, OfTwo, OfThree}
use Rattle.set_meaning.specs.Integers.{IsMinimum, IsMaximum, IsAbsoluteValue}
use Rattle.set_meaning.specs.Relations.{HoldsOf, variable_of}
use Rattle.set_meaning.specs.Rows.{HasSort, HasShape, row_of, shapes_of}
use Rattle.bit_layout.proofs.Rising.{in_head, in_tail}
use Rattle.linear_machine.specs.declared.comparison.Comparison.TheVariants.{Equal, AtMost}
use Rattle.int_channel.specs.declared.forms.Atom.{Atom}
use Rattle.int_channel.specs.Forms.{HaveValues, AreBranchesOf}
use Rattle.int_channel.specs.Choices.{number_of_term, AreAmong, IsAtomWhere, ComparesSum, AreBranchesFor}
use Rattle.int_channel.proofs.ChoiceTerms.{IsKnown, known, int_known}
use Rattle.int_channel.proofs.ChoiceBranches.{branch, two_branches}

-- ---- what the relations say of numbers

pub of_two_known : {X Y : Type 0} (R : X → Y → Type 0) (p : Option X) (q : Option Y) (x : X) (y : Y) → p ≡ Some x → q ≡ Some y → (P : Type 0) → R x y ↔ P → OfTwo R p q ↔ P
of_two_known R p q x y e f P h = subst (λ p. OfTwo R p q ↔ P) (sym e) (subst (λ q. OfTwo R (Some x) q ↔ P) (sym f) h)

pub of_three_known : {X Y Z : Type 0} (R : X → Y → Z → Type 0) (p : Option X) (q : Option Y) (r : Option Z) (x : X) (y : Y) (z : Z) → p ≡ Some x → q ≡ Some y → r ≡ Some z
    → (P : Type 0) → R x y z ↔ P → OfThree R p q r ↔ P
of_three_known R p q r x y z e f g P h =
    subst (λ p. OfThree R p q r ↔ P) (sym e) (subst (λ q. OfThree R (Some x) q r ↔ P) (sym f) (subst (λ r. OfThree R (Some x) (Some y) r ↔ P) (sym g) h))

minimum_plain : (a b c : ℤ) → IsMinimum a b c ↔ (((a ≤ℤ b) × (c ≡ a)) ⊎ ((b ≤ℤ a) × (c ≡ b)))
minimum_plain a b c = (
  λ h. let low = h.first in let less = h.second in elim h.attained [ inl e ↦ inl (omega (arith, ints), e) | inr e ↦ inr (omega (arith, ints), e) ],
  λ h. elim h [
    | inl both ↦ let less = both.0 in let e = both.1 in record { first = omega (arith, ints); second = omega (arith, ints); attained = inl e }
    | inr both ↦ let less = both.0 in let e = both.1 in record { first = omega (arith, ints); second = omega (arith, ints); attained = inr e }
  ],
)

maximum_plain : (a b c : ℤ) → IsMaximum a b c ↔ (((b ≤ℤ a) × (c ≡ a)) ⊎ ((a ≤ℤ b) × (c ≡ b)))
maximum_plain a b c = (
  λ h. let low = h.first in let less = h.second in elim h.attained [ inl e ↦ inl (omega (arith, ints), e) | inr e ↦ inr (omega (arith, ints), e) ],
  λ h. elim h [
    | inl both ↦ let less = both.0 in let e = both.1 in record { first = omega (arith, ints); second = omega (arith, ints); attained = inl e }
    | inr both ↦ let less = both.0 in let e = both.1 in record { first = omega (arith, ints); second = omega (arith, ints); attained = inr e }
  ],
)

abbrev AbsoluteChoice : ℤ → ℤ → Type 0
AbsoluteChoice a b =
    (((pos 0 +ℤ ((negsuc 0 *ℤ a) +ℤ pos 0)) ≤ℤ pos 0) × (b ≡ a)) ⊎ (((pos 0 +ℤ ((pos 1 *ℤ a) +ℤ pos 0)) ≤ℤ pos 0) × ((pos 0 +ℤ ((pos 1 *ℤ a) +ℤ ((pos 1 *ℤ b) +ℤ pos 0))) ≡ pos 0))

absolute_plain : (a b : ℤ) → IsAbsoluteValue a b ↔ AbsoluteChoice a b
absolute_plain (pos n) b = (
  λ h. inl (omega (arith, ints), h),
  λ h. elim h [ inl both ↦ both.1 | inr both ↦ let low = both.0 in let e = both.1 in omega (arith, ints) ],
)
absolute_plain (negsuc n) b = (
  λ h. inr (omega (arith, ints), omega (arith, ints)),
  λ h. elim h [ inl both ↦ let low = both.0 in absurd (omega (arith, ints)) | inr both ↦ let e = both.1 in omega (arith, ints) ],
)

-- ---- the terms of the arguments

pub at_first : {X : Type 0} (a b c : X) → Contains (a ∷ b ∷ c ∷ []) a
at_first a b c = in_head a (b ∷ c ∷ [])

pub at_second : {X : Type 0} (a b c : X) → Contains (a ∷ b ∷ c ∷ []) b
at_second a b c = in_tail a (b ∷ c ∷ []) b (in_head b (c ∷ []))

pub at_third : {X : Type 0} (a b c : X) → Contains (a ∷ b ∷ c ∷ []) c
at_third a b c = in_tail a (b ∷ c ∷ []) c (in_tail b (c ∷ []) c (in_head c []))

pub minimum_branches : (a b c : Term) (p q r s : Atom)
    → IsAtomWhere (a ∷ b ∷ []) (λ values. number_of_term values a ≤ℤ number_of_term values b) p → IsAtomWhere (c ∷ a ∷ []) (λ values. number_of_term values c ≡ number_of_term values a) q
    → IsAtomWhere (b ∷ a ∷ []) (λ values. number_of_term values b ≤ℤ number_of_term values a) r → IsAtomWhere (c ∷ b ∷ []) (λ values. number_of_term values c ≡ number_of_term values b) s
    → AreBranchesFor IntMin (One a ∷ One b ∷ One c ∷ []) (branch p q ∷ branch r s ∷ [])
unfolding HoldsOf
minimum_branches a b c p q r s first second third fourth kinds fits =
    let terms : List Term = a ∷ b ∷ c ∷ [] in
    let in_a = at_first a b c in
    let in_b = at_second a b c in
    let in_c = at_third a b c in
    two_branches kinds IntMin (One a ∷ One b ∷ One c ∷ []) terms (a ∷ b ∷ []) (c ∷ a ∷ []) (b ∷ a ∷ []) (c ∷ b ∷ [])
    (λ values. number_of_term values a ≤ℤ number_of_term values b) (λ values. number_of_term values c ≡ number_of_term values a)
    (λ values. number_of_term values b ≤ℤ number_of_term values a) (λ values. number_of_term values c ≡ number_of_term values b) p q r s refl
    first second third fourth (in_a, (in_b, tt)) (in_c, (in_a, tt)) (in_b, (in_a, tt)) (in_c, (in_b, tt))
    (λ values have.
    let x = number_of_term values a in
    let y = number_of_term values b in
    let z = number_of_term values c in
    of_three_known IsMinimum (int_of_term values a) (int_of_term values b) (int_of_term values c) x y z
    (int_known kinds values a fits.0 (known kinds terms values a have in_a)) (int_known kinds values b fits.1.0 (known kinds terms values b have in_b))
    (int_known kinds values c fits.1.1.0 (known kinds terms values c have in_c)) (((x ≤ℤ y) × (z ≡ x)) ⊎ ((y ≤ℤ x) × (z ≡ y))) (minimum_plain x y z))

pub maximum_branches : (a b c : Term) (p q r s : Atom)
    → IsAtomWhere (b ∷ a ∷ []) (λ values. number_of_term values b ≤ℤ number_of_term values a) p → IsAtomWhere (c ∷ a ∷ []) (λ values. number_of_term values c ≡ number_of_term values a) q
    → IsAtomWhere (a ∷ b ∷ []) (λ values. number_of_term values a ≤ℤ number_of_term values b) r → IsAtomWhere (c ∷ b ∷ []) (λ values. number_of_term values c ≡ number_of_term values b) s
    → AreBranchesFor IntMax (One a ∷ One b ∷ One c ∷ []) (branch p q ∷ branch r s ∷ [])
unfolding HoldsOf
maximum_branches a b c p q r s first second third fourth kinds fits =
    let terms : List Term = a ∷ b ∷ c ∷ [] in
    let in_a = at_first a b c in
    let in_b = at_second a b c in
    let in_c = at_third a b c in
    two_branches kinds IntMax (One a ∷ One b ∷ One c ∷ []) terms (b ∷ a ∷ []) (c ∷ a ∷ []) (a ∷ b ∷ []) (c ∷ b ∷ [])
    (λ values. number_of_term values b ≤ℤ number_of_term values a) (λ values. number_of_term values c ≡ number_of_term values a)
    (λ values. number_of_term values a ≤ℤ number_of_term values b) (λ values. number_of_term values c ≡ number_of_term values b) p q r s refl
    first second third fourth (in_b, (in_a, tt)) (in_c, (in_a, tt)) (in_a, (in_b, tt)) (in_c, (in_b, tt))
    (λ values have.
    let x = number_of_term values a in
    let y = number_of_term values b in
    let z = number_of_term values c in
    of_three_known IsMaximum (int_of_term values a) (int_of_term values b) (int_of_term values c) x y z
    (int_known kinds values a fits.0 (known kinds terms values a have in_a)) (int_known kinds values b fits.1.0 (known kinds terms values b have in_b))
    (int_known kinds values c fits.1.1.0 (known kinds terms values c have in_c)) (((y ≤ℤ x) × (z ≡ x)) ⊎ ((x ≤ℤ y) × (z ≡ y))) (maximum_plain x y z))

pub absolute_branches : (a b : Term) (p q r s : Atom)
    → IsAtomWhere (a ∷ []) (ComparesSum AtMost (pos 0) ((negsuc 0, a) ∷ [])) p → IsAtomWhere (b ∷ a ∷ []) (λ values. number_of_term values b ≡ number_of_term values a) q
    → IsAtomWhere (a ∷ []) (ComparesSum AtMost (pos 0) ((pos 1, a) ∷ [])) r → IsAtomWhere (a ∷ b ∷ []) (ComparesSum Equal (pos 0) ((pos 1, a) ∷ (pos 1, b) ∷ [])) s
    → AreBranchesFor IntAbs (One a ∷ One b ∷ []) (branch p q ∷ branch r s ∷ [])
unfolding HoldsOf
absolute_branches a b p q r s first second third fourth kinds fits =
    let terms : List Term = a ∷ b ∷ [] in
    let in_a : Contains terms a = in_head a (b ∷ []) in
    let in_b : Contains terms b = in_tail a (b ∷ []) b (in_head b []) in
    two_branches kinds IntAbs (One a ∷ One b ∷ []) terms (a ∷ []) (b ∷ a ∷ []) (a ∷ []) (a ∷ b ∷ [])
    (ComparesSum AtMost (pos 0) ((negsuc 0, a) ∷ [])) (λ values. number_of_term values b ≡ number_of_term values a)
    (ComparesSum AtMost (pos 0) ((pos 1, a) ∷ [])) (ComparesSum Equal (pos 0) ((pos 1, a) ∷ (pos 1, b) ∷ [])) p q r s refl
    first second third fourth (in_a, tt) (in_b, (in_a, tt)) (in_a, tt) (in_a, (in_b, tt))
    (λ values have.
    let x = number_of_term values a in
    let y = number_of_term values b in
    of_two_known IsAbsoluteValue (int_of_term values a) (int_of_term values b) x y
    (int_known kinds values a fits.0 (known kinds terms values a have in_a)) (int_known kinds values b fits.1.0 (known kinds terms values b have in_b))
    (AbsoluteChoice x y) (absolute_plain x y))
