-- A tree has one first fault at most.
use Rattle.std.proofs.Common.{◌≡◌, ◌⊎◌, ℕ, ◌<◌, ◌≤◌, List, [], ◌∷◌, get_or, refl, sym, ap, ◌∙◌, inl, inr, arith}
use Rattle.fzn_parser.specs.declared.tree.Tree.{Tree}
use Rattle.fzn_model.specs.declared.faults.ModelFault.{ModelFault}
use Rattle.fzn_model.specs.declared.faults.ModelFault.TheVariants as faults
use Rattle.fzn_model.specs.FaultsOf.{HasNoFault, IsFirstFault, IsToldBefore, number_of, place_of_fault}

-- the faults of a place, by their numbers
abbrev faults_at : ℕ → List ModelFault
faults_at at =
    faults.Memory
    ∷ faults.Undeclared at
    ∷ faults.DeclaredTwice at
    ∷ faults.WrongType at
    ∷ faults.UnknownConstraint at
    ∷ faults.WrongCount at
    ∷ faults.Unbounded at
    ∷ faults.Float at
    ∷ faults.NumberTooLarge at
    ∷ faults.EmptyDomain at
    ∷ faults.IntTooWide at
    ∷ faults.SetTooWide at
    ∷ faults.ElementRange at
    ∷ faults.ScopeTooWide at
    ∷ faults.TooManyBits at
    ∷ faults.TooManyConstraints at
    ∷ faults.BadOutput at
    ∷ faults.ObjectiveNotInt at
    ∷ []

abbrev fault_at : ℕ → ℕ → ModelFault
fault_at number at = get_or (faults_at at) number faults.Memory

fault_at-number : (f : ModelFault) → fault_at (number_of f) (place_of_fault f) ≡ f
fault_at-number (faults.Undeclared at) = refl
fault_at-number (faults.DeclaredTwice at) = refl
fault_at-number (faults.WrongType at) = refl
fault_at-number (faults.UnknownConstraint at) = refl
fault_at-number (faults.WrongCount at) = refl
fault_at-number (faults.Unbounded at) = refl
fault_at-number (faults.Float at) = refl
fault_at-number (faults.NumberTooLarge at) = refl
fault_at-number (faults.EmptyDomain at) = refl
fault_at-number (faults.IntTooWide at) = refl
fault_at-number (faults.SetTooWide at) = refl
fault_at-number (faults.ElementRange at) = refl
fault_at-number (faults.ScopeTooWide at) = refl
fault_at-number (faults.TooManyBits at) = refl
fault_at-number (faults.TooManyConstraints at) = refl
fault_at-number (faults.BadOutput at) = refl
fault_at-number (faults.ObjectiveNotInt at) = refl
fault_at-number faults.Memory = refl

-- two numbers, and two more that are compared where the first are equal
same_both : (p q n m : ℕ) → (p < q) ⊎ ((p ≡ q) × (n ≤ m)) → (q < p) ⊎ ((q ≡ p) × (m ≤ n)) → (p ≡ q) × (n ≡ m)
same_both p q n m (inl a) (inl b) = (omega arith, omega arith)
same_both p q n m (inl a) (inr b) = let e = b.0 in (omega arith, omega arith)
same_both p q n m (inr a) (inl b) = let e = a.0 in (omega arith, omega arith)
same_both p q n m (inr a) (inr b) = let l = a.1 in let r = b.1 in (a.0, omega arith)

one_fault : (f g : ModelFault) → IsToldBefore f g → IsToldBefore g f → f ≡ g
one_fault f g a b =
    let s : (place_of_fault f ≡ place_of_fault g) × (number_of f ≡ number_of g)
    = same_both (place_of_fault f) (place_of_fault g) (number_of f) (number_of g) a b in
    sym (fault_at-number f)
    ∙ (ap (λ n. fault_at n (place_of_fault f)) s.1 ∙ (ap (λ p. fault_at (number_of g) p) s.0 ∙ fault_at-number g))

pub one : (tree : Tree) (f g : ModelFault) → IsFirstFault tree f → IsFirstFault tree g → f ≡ g
one tree f g a b = one_fault f g (a.first g b.has) (b.first f a.has)

pub apart : (tree : Tree) (f : ModelFault) → IsFirstFault tree f → HasNoFault tree → ⊥
apart tree f a none = none f a.has
