-- What sums of one or two multiples say.
use Rattle.std.proofs.Common.{◌≡◌, ◌↔◌, ℤ, pos, negsuc, ◌+ℤ◌, ◌*ℤ◌, ◌≤ℤ◌, List, [], ◌∷◌, arith}
use Rattle.std.proofs.lemmas.Int.{ints}
use Rattle.set_meaning.specs.declared.kinds.Value.{Value}
use Rattle.set_meaning.specs.declared.problems.Term.{Term}
use Rattle.linear_machine.specs.declared.comparison.Comparison.TheVariants.{Equal, AtMost}
use Rattle.int_channel.specs.declared.forms.Atom.{Atom}
use Rattle.int_channel.specs.Choices.{number_of_term, IsAtomWhere, ComparesSum}
use Rattle.int_channel.proofs.ChoiceSums.{same_atom}

at_most_plain : (x y : ℤ) → ((pos 0 +ℤ ((pos 1 *ℤ x) +ℤ ((negsuc 0 *ℤ y) +ℤ pos 0))) ≤ℤ pos 0) ↔ (x ≤ℤ y)
at_most_plain x y = (λ h. omega (arith, ints), λ h. omega (arith, ints))

pub at_most_is : (a b : Term) (atom : Atom) → IsAtomWhere (a ∷ b ∷ []) (ComparesSum AtMost (pos 0) ((pos 1, a) ∷ (negsuc 0, b) ∷ [])) atom
    → IsAtomWhere (a ∷ b ∷ []) (λ values. number_of_term values a ≤ℤ number_of_term values b) atom
at_most_is a b atom h =
    same_atom (a ∷ b ∷ []) (ComparesSum AtMost (pos 0) ((pos 1, a) ∷ (negsuc 0, b) ∷ [])) (λ values. number_of_term values a ≤ℤ number_of_term values b) atom
    (λ values. at_most_plain (number_of_term values a) (number_of_term values b)) h

equal_plain : (x y : ℤ) → ((pos 0 +ℤ ((pos 1 *ℤ x) +ℤ ((negsuc 0 *ℤ y) +ℤ pos 0))) ≡ pos 0) ↔ (x ≡ y)
equal_plain x y = (λ h. omega (arith, ints), λ h. omega (arith, ints))

pub equal_is : (a b : Term) (atom : Atom) → IsAtomWhere (a ∷ b ∷ []) (ComparesSum Equal (pos 0) ((pos 1, a) ∷ (negsuc 0, b) ∷ [])) atom
    → IsAtomWhere (a ∷ b ∷ []) (λ values. number_of_term values a ≡ number_of_term values b) atom
equal_is a b atom h =
    same_atom (a ∷ b ∷ []) (ComparesSum Equal (pos 0) ((pos 1, a) ∷ (negsuc 0, b) ∷ [])) (λ values. number_of_term values a ≡ number_of_term values b) atom
    (λ values. equal_plain (number_of_term values a) (number_of_term values b)) h

number_plain : (n x : ℤ) → ((n +ℤ ((negsuc 0 *ℤ x) +ℤ pos 0)) ≡ pos 0) ↔ (x ≡ n)
number_plain n x = (λ h. omega (arith, ints), λ h. omega (arith, ints))

pub number_is : (a : Term) (n : ℤ) (atom : Atom) → IsAtomWhere (a ∷ []) (ComparesSum Equal n ((negsuc 0, a) ∷ [])) atom → IsAtomWhere (a ∷ []) (λ values. number_of_term values a ≡ n) atom
number_is a n atom h =
    same_atom (a ∷ []) (ComparesSum Equal n ((negsuc 0, a) ∷ [])) (λ values. number_of_term values a ≡ n) atom (λ values. number_plain n (number_of_term values a)) h

product_plain : (p y : ℤ) → ((pos 0 +ℤ (p +ℤ ((negsuc 0 *ℤ y) +ℤ pos 0))) ≡ pos 0) ↔ (p ≡ y)
product_plain p y = (λ h. omega (arith, ints), λ h. omega (arith, ints))

pub product_is : (n : ℤ) (a b : Term) (atom : Atom) → IsAtomWhere (a ∷ b ∷ []) (ComparesSum Equal (pos 0) ((n, a) ∷ (negsuc 0, b) ∷ [])) atom
    → IsAtomWhere (a ∷ b ∷ []) (λ values. (n *ℤ number_of_term values a) ≡ number_of_term values b) atom
product_is n a b atom h =
    same_atom (a ∷ b ∷ []) (ComparesSum Equal (pos 0) ((n, a) ∷ (negsuc 0, b) ∷ [])) (λ values. (n *ℤ number_of_term values a) ≡ number_of_term values b) atom
    (λ values. product_plain (n *ℤ number_of_term values a) (number_of_term values b)) h
