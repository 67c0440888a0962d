-- Operations on two Booleans as choices.
use Rattle.std.proofs.Common.{◌≡◌, ◌≢◌, ◌↔◌, ◌⊎◌, ◌≤◌, ◌<◌, ℕ, ℤ, pos, negsuc, ◌+ℤ◌, ◌*ℤ◌, ◌≤ℤ◌, Bool, true, false, List, [], ◌∷◌, length, Option, Some, IsTrue, refl, sym, subst, inl, inr, arith, Contains}
use Rattle.std.specs.Prelude.{filter_map, ◌&&◌, ◌||◌, ⊤}
use Rattle.std.specs.List.{All, AllZip}
use Rattle.std.proofs.lemmas.Int.{ints}
use Rattle.set_meaning.specs.declared.kinds.Kind.{Kind}
use Rattle.set_meaning.specs.declared.kinds.Value.{Value}
use Rattle.set_meaning.specs.declared.problems.Term.{Term}
use Rattle.set_meaning.specs.declared.problems.Arg.{Arg}
use Rattle.set_meaning.specs.declared.problems.Arg.TheVariants.{One, Many}
use Rattle.set_meaning.specs.declared.problems.Relation.TheVariants.{BoolAnd, BoolOr, BoolXor}
use Rattle.set_meaning.specs.Arguments.{bool_of_term, OfThree}
use Rattle.set_meaning.specs.Relations.{HoldsOf, variable_of}
use Rattle.set_meaning.specs.Rows.{HasSort, HasShape, row_of, shapes_of}
use Rattle.linear_machine.specs.declared.comparison.Comparison.TheVariants.{Equal, AtMost}
use Rattle.int_channel.specs.declared.forms.Atom.{Atom}
use Rattle.int_channel.specs.Forms.{HaveValues, AreBranchesOf}
use Rattle.int_channel.specs.Choices.{number_of_term, AreAmong, IsAtomWhere, ComparesSum, AreBranchesFor}
use Rattle.int_channel.proofs.ChoiceTerms.{IsKnown, known, bool_known, bit}
use Rattle.int_channel.proofs.ChoiceBranches.{branch, one_branch, two_branches}
use Rattle.int_channel.proofs.ChoiceIntegers.{of_three_known, at_first, at_second, at_third}

-- a fact of three bits is one of three numbers that are these bits
at_numbers : (T : Type 0) (F : ℤ → ℤ → ℤ → Type 0) (l m n x y z : ℤ) → l ≡ x → m ≡ y → n ≡ z → T ↔ F x y z → T ↔ F l m n
at_numbers T F l m n x y z e f g h = subst (λ (l : ℤ). T ↔ F l m n) (sym e) (subst (λ (m : ℤ). T ↔ F x m n) (sym f) (subst (λ (n : ℤ). T ↔ F x y n) (sym g) h))

abbrev AndSums : ℤ → ℤ → ℤ → Type 0
AndSums x y z = ((pos 0 +ℤ ((pos 2 *ℤ z) +ℤ ((negsuc 0 *ℤ x) +ℤ ((negsuc 0 *ℤ y) +ℤ pos 0)))) ≤ℤ pos 0) × ((negsuc 0 +ℤ ((pos 1 *ℤ x) +ℤ ((pos 1 *ℤ y) +ℤ ((negsuc 0 *ℤ z) +ℤ pos 0)))) ≤ℤ pos 0)

and_plain : (x y z : Bool) → (z ≡ (x && y)) ↔ AndSums (bit x) (bit y) (bit z)
and_plain true true true = (λ e. (omega (arith, ints), omega (arith, ints)), λ h. refl)
and_plain true true false = (λ e. absurd (cc), λ h. let broken = h.1 in absurd (omega (arith, ints)))
and_plain true false true = (λ e. absurd (cc), λ h. let broken = h.0 in absurd (omega (arith, ints)))
and_plain true false false = (λ e. (omega (arith, ints), omega (arith, ints)), λ h. refl)
and_plain false true true = (λ e. absurd (cc), λ h. let broken = h.0 in absurd (omega (arith, ints)))
and_plain false true false = (λ e. (omega (arith, ints), omega (arith, ints)), λ h. refl)
and_plain false false true = (λ e. absurd (cc), λ h. let broken = h.0 in absurd (omega (arith, ints)))
and_plain false false false = (λ e. (omega (arith, ints), omega (arith, ints)), λ h. refl)

pub and_branches : (a b c : Term) (p q : Atom) → IsAtomWhere (c ∷ a ∷ b ∷ []) (ComparesSum AtMost (pos 0) ((pos 2, c) ∷ (negsuc 0, a) ∷ (negsuc 0, b) ∷ [])) p → IsAtomWhere (a ∷ b ∷ c ∷ []) (ComparesSum AtMost (negsuc 0) ((pos 1, a) ∷ (pos 1, b) ∷ (negsuc 0, c) ∷ [])) q
    → AreBranchesFor BoolAnd (One a ∷ One b ∷ One c ∷ []) (branch p q ∷ [])
unfolding HoldsOf
and_branches a b c p q first second kinds fits =
    let terms : List Term = a ∷ b ∷ c ∷ [] in
    let in_a = at_first a b c in
    let in_b = at_second a b c in
    let in_c = at_third a b c in
    one_branch kinds BoolAnd (One a ∷ One b ∷ One c ∷ []) terms (c ∷ a ∷ b ∷ []) (a ∷ b ∷ c ∷ []) (ComparesSum AtMost (pos 0) ((pos 2, c) ∷ (negsuc 0, a) ∷ (negsuc 0, b) ∷ [])) (ComparesSum AtMost (negsuc 0) ((pos 1, a) ∷ (pos 1, b) ∷ (negsuc 0, c) ∷ [])) p q refl first second
    (in_c, (in_a, (in_b, tt))) (in_a, (in_b, (in_c, tt)))
    (λ values have.
    let x = bool_known kinds values a fits.0 (known kinds terms values a have in_a) in
    let y = bool_known kinds values b fits.1.0 (known kinds terms values b have in_b) in
    let z = bool_known kinds values c fits.1.1.0 (known kinds terms values c have in_c) in
    let R : Bool → Bool → Bool → Type 0 = λ a b c. c ≡ (a && b) in
    of_three_known R (bool_of_term values a) (bool_of_term values b) (bool_of_term values c) x.0 y.0 z.0 x.1 y.1 z.1
    (AndSums (number_of_term values a) (number_of_term values b) (number_of_term values c))
    (at_numbers (R x.0 y.0 z.0) AndSums (number_of_term values a) (number_of_term values b) (number_of_term values c) (bit x.0) (bit y.0) (bit z.0) x.2 y.2 z.2 (and_plain x.0 y.0 z.0)))

abbrev OrSums : ℤ → ℤ → ℤ → Type 0
OrSums x y z = ((pos 0 +ℤ ((pos 1 *ℤ z) +ℤ ((negsuc 0 *ℤ x) +ℤ ((negsuc 0 *ℤ y) +ℤ pos 0)))) ≤ℤ pos 0) × ((pos 0 +ℤ ((pos 1 *ℤ x) +ℤ ((pos 1 *ℤ y) +ℤ ((negsuc 1 *ℤ z) +ℤ pos 0)))) ≤ℤ pos 0)

or_plain : (x y z : Bool) → (z ≡ (x || y)) ↔ OrSums (bit x) (bit y) (bit z)
or_plain true true true = (λ e. (omega (arith, ints), omega (arith, ints)), λ h. refl)
or_plain true true false = (λ e. absurd (cc), λ h. let broken = h.1 in absurd (omega (arith, ints)))
or_plain true false true = (λ e. (omega (arith, ints), omega (arith, ints)), λ h. refl)
or_plain true false false = (λ e. absurd (cc), λ h. let broken = h.1 in absurd (omega (arith, ints)))
or_plain false true true = (λ e. (omega (arith, ints), omega (arith, ints)), λ h. refl)
or_plain false true false = (λ e. absurd (cc), λ h. let broken = h.1 in absurd (omega (arith, ints)))
or_plain false false true = (λ e. absurd (cc), λ h. let broken = h.0 in absurd (omega (arith, ints)))
or_plain false false false = (λ e. (omega (arith, ints), omega (arith, ints)), λ h. refl)

pub or_branches : (a b c : Term) (p q : Atom) → IsAtomWhere (c ∷ a ∷ b ∷ []) (ComparesSum AtMost (pos 0) ((pos 1, c) ∷ (negsuc 0, a) ∷ (negsuc 0, b) ∷ [])) p → IsAtomWhere (a ∷ b ∷ c ∷ []) (ComparesSum AtMost (pos 0) ((pos 1, a) ∷ (pos 1, b) ∷ (negsuc 1, c) ∷ [])) q
    → AreBranchesFor BoolOr (One a ∷ One b ∷ One c ∷ []) (branch p q ∷ [])
unfolding HoldsOf
or_branches a b c p q first second kinds fits =
    let terms : List Term = a ∷ b ∷ c ∷ [] in
    let in_a = at_first a b c in
    let in_b = at_second a b c in
    let in_c = at_third a b c in
    one_branch kinds BoolOr (One a ∷ One b ∷ One c ∷ []) terms (c ∷ a ∷ b ∷ []) (a ∷ b ∷ c ∷ []) (ComparesSum AtMost (pos 0) ((pos 1, c) ∷ (negsuc 0, a) ∷ (negsuc 0, b) ∷ [])) (ComparesSum AtMost (pos 0) ((pos 1, a) ∷ (pos 1, b) ∷ (negsuc 1, c) ∷ [])) p q refl first second
    (in_c, (in_a, (in_b, tt))) (in_a, (in_b, (in_c, tt)))
    (λ values have.
    let x = bool_known kinds values a fits.0 (known kinds terms values a have in_a) in
    let y = bool_known kinds values b fits.1.0 (known kinds terms values b have in_b) in
    let z = bool_known kinds values c fits.1.1.0 (known kinds terms values c have in_c) in
    let R : Bool → Bool → Bool → Type 0 = λ a b c. c ≡ (a || b) in
    of_three_known R (bool_of_term values a) (bool_of_term values b) (bool_of_term values c) x.0 y.0 z.0 x.1 y.1 z.1
    (OrSums (number_of_term values a) (number_of_term values b) (number_of_term values c))
    (at_numbers (R x.0 y.0 z.0) OrSums (number_of_term values a) (number_of_term values b) (number_of_term values c) (bit x.0) (bit y.0) (bit z.0) x.2 y.2 z.2 (or_plain x.0 y.0 z.0)))

abbrev XorSums : ℤ → ℤ → ℤ → Type 0
XorSums x y z = (((pos 0 +ℤ ((pos 1 *ℤ x) +ℤ ((pos 1 *ℤ y) +ℤ ((pos 1 *ℤ z) +ℤ pos 0)))) ≡ pos 0) × ⊤) ⊎ (((negsuc 1 +ℤ ((pos 1 *ℤ x) +ℤ ((pos 1 *ℤ y) +ℤ ((pos 1 *ℤ z) +ℤ pos 0)))) ≡ pos 0) × ⊤)

xor_plain : (x y z : Bool) → (IsTrue z ↔ (x ≢ y)) ↔ XorSums (bit x) (bit y) (bit z)
xor_plain true true true = (λ e. absurd (e.0 refl refl), λ h. elim h [ inl none ↦ let e = none.0 in absurd (omega (arith, ints)) | inr two ↦ let e = two.0 in absurd (omega (arith, ints)) ])
xor_plain true true false = (λ e. inr (omega (arith, ints), tt), λ h. (λ t. absurd (cc), λ ne. absurd (ne refl)))
xor_plain true false true = (λ e. inr (omega (arith, ints), tt), λ h. (λ _. λ e. absurd (cc), λ _. refl))
xor_plain true false false = (λ e. let never : false ≡ true = e.1 (λ same. absurd (cc)) in absurd (cc), λ h. elim h [ inl none ↦ let e = none.0 in absurd (omega (arith, ints)) | inr two ↦ let e = two.0 in absurd (omega (arith, ints)) ])
xor_plain false true true = (λ e. inr (omega (arith, ints), tt), λ h. (λ _. λ e. absurd (cc), λ _. refl))
xor_plain false true false = (λ e. let never : false ≡ true = e.1 (λ same. absurd (cc)) in absurd (cc), λ h. elim h [ inl none ↦ let e = none.0 in absurd (omega (arith, ints)) | inr two ↦ let e = two.0 in absurd (omega (arith, ints)) ])
xor_plain false false true = (λ e. absurd (e.0 refl refl), λ h. elim h [ inl none ↦ let e = none.0 in absurd (omega (arith, ints)) | inr two ↦ let e = two.0 in absurd (omega (arith, ints)) ])
xor_plain false false false = (λ e. inl (omega (arith, ints), tt), λ h. (λ t. absurd (cc), λ ne. absurd (ne refl)))

pub xor_branches : (a b c : Term) (p q r s : Atom) → IsAtomWhere (a ∷ b ∷ c ∷ []) (ComparesSum Equal (pos 0) ((pos 1, a) ∷ (pos 1, b) ∷ (pos 1, c) ∷ [])) p → IsAtomWhere [] (λ values. ⊤) q
    → IsAtomWhere (a ∷ b ∷ c ∷ []) (ComparesSum Equal (negsuc 1) ((pos 1, a) ∷ (pos 1, b) ∷ (pos 1, c) ∷ [])) r → IsAtomWhere [] (λ values. ⊤) s → AreBranchesFor BoolXor (One a ∷ One b ∷ One c ∷ []) (branch p q ∷ branch r s ∷ [])
unfolding HoldsOf
xor_branches a b c p q r s first second third fourth kinds fits =
    let terms : List Term = a ∷ b ∷ c ∷ [] in
    let in_a = at_first a b c in
    let in_b = at_second a b c in
    let in_c = at_third a b c in
    two_branches kinds BoolXor (One a ∷ One b ∷ One c ∷ []) terms terms [] terms [] (ComparesSum Equal (pos 0) ((pos 1, a) ∷ (pos 1, b) ∷ (pos 1, c) ∷ [])) (λ values. ⊤) (ComparesSum Equal (negsuc 1) ((pos 1, a) ∷ (pos 1, b) ∷ (pos 1, c) ∷ [])) (λ values. ⊤) p q r s refl first second third fourth
    (in_a, (in_b, (in_c, tt))) tt (in_a, (in_b, (in_c, tt))) tt
    (λ values have.
    let x = bool_known kinds values a fits.0 (known kinds terms values a have in_a) in
    let y = bool_known kinds values b fits.1.0 (known kinds terms values b have in_b) in
    let z = bool_known kinds values c fits.1.1.0 (known kinds terms values c have in_c) in
    let R : Bool → Bool → Bool → Type 0 = λ a b c. IsTrue c ↔ (a ≢ b) in
    of_three_known R (bool_of_term values a) (bool_of_term values b) (bool_of_term values c) x.0 y.0 z.0 x.1 y.1 z.1
    (XorSums (number_of_term values a) (number_of_term values b) (number_of_term values c))
    (at_numbers (R x.0 y.0 z.0) XorSums (number_of_term values a) (number_of_term values b) (number_of_term values c) (bit x.0) (bit y.0) (bit z.0) x.2 y.2 z.2 (xor_plain x.0 y.0 z.0)))
