-- Sums of multiples of terms, and lists of branches; words of this crate's private helpers.
use Rattle.std.specs.Prelude.{◌≡◌, ◌↔◌, ℕ, ◌+◌, ◌*◌, ◌≤◌, ℤ, pos, ◌+ℤ◌, ◌*ℤ◌, ◌≤ℤ◌, unsigned_abs, if◌then◌else◌, List, [], ◌∷◌, length, All, Any, Contains, map, filter_map, slice_get, IsSomeAnd, ⊤}
use Rattle.std.specs.List.{AllZip}
use Rattle.std.specs.Option.{option_map_or}
use Rattle.set_meaning.specs.declared.kinds.Kind.{Kind}
use Rattle.set_meaning.specs.declared.kinds.Kind.TheVariants as kind
use Rattle.set_meaning.specs.declared.kinds.Value.{Value}
use Rattle.set_meaning.specs.declared.kinds.Value.TheVariants as value
use Rattle.set_meaning.specs.declared.problems.VarId.{VarId}
use Rattle.set_meaning.specs.declared.problems.Term.{Term}
use Rattle.set_meaning.specs.declared.problems.Term.TheVariants.{Const, Var}
use Rattle.set_meaning.specs.declared.problems.Arg.{Arg}
use Rattle.set_meaning.specs.declared.problems.Arg.TheVariants.{One, Many}
use Rattle.set_meaning.specs.declared.problems.Relation.{Relation}
use Rattle.set_meaning.specs.Relations.{variable_of}
use Rattle.set_meaning.specs.Rows.{HasShape, row_of, shapes_of}
use Rattle.set_meaning.specs.Arguments.{value_of}
use Rattle.scope_words.specs.Words.{IsSetKind}
use Rattle.linear_machine.specs.declared.comparison.Comparison.{Comparison}
use Rattle.linear_machine.specs.Sums.{Compares}
use Rattle.linear_terms.specs.declared.terms.LinearTerm.{LinearTerm}
use Rattle.linear_terms.specs.Terms.{number_at, linear_sum}
use Rattle.int_channel.specs.declared.forms.Atom.{Atom}
use Rattle.int_channel.specs.declared.forms.Branch.{Branch}
use Rattle.int_channel.specs.declared.choices.amounts.Amount.{Amount}
use Rattle.int_channel.specs.Forms.{HasElement, AtomHolds, BranchHolds, IsAtomOver, IsBranchOver, AreBranchesOf}

-- ---- what a term counts

-- 0 or 1 for a Boolean, an integer itself; a set does not count
abbrev pub number_of_constant : Value → ℤ
number_of_constant (value.Bool b) = if b then pos 1 else pos 0
number_of_constant (value.Int x) = x
number_of_constant (value.Set s) = pos 0

abbrev pub number_of_term : List Value → Term → ℤ
number_of_term values (Const v) = number_of_constant v
number_of_term values (Var x) = number_at values x

-- what is the same of it for all values
abbrev pub constant_part : Term → ℤ
constant_part (Const v) = number_of_constant v
constant_part (Var x) = pos 0

-- what a variable adds to the terms of a sum
abbrev pub variable_part : ℤ → Term → List LinearTerm
variable_part coefficient (Const v) = []
variable_part coefficient (Var x) = record { coefficient = coefficient; variable = x } ∷ []

-- ---- sums of multiples of terms

-- a coefficient and the term before which it stands
abbrev pub Multiple : Type 0
Multiple = ℤ × Term

-- each of the terms, under one coefficient
abbrev pub multiples_of : ℤ → List Term → List Multiple
multiples_of k ts = map (λ t. (k, t)) ts

-- the sum of the multiples, where the variables have these values
abbrev pub sum_of_multiples : List Value → List Multiple → ℤ
sum_of_multiples values [] = pos 0
sum_of_multiples values (m ∷ ms) = (m.0 *ℤ number_of_term values m.1) +ℤ sum_of_multiples values ms

-- each of the others is one of the terms
abbrev pub AreAmong : List Term → List Term → Type 0
AreAmong terms [] = ⊤
AreAmong terms (t ∷ ts) = Contains terms t × AreAmong terms ts

abbrev pub terms_of_multiples : List Multiple → List Term
terms_of_multiples ms = map (λ m. m.1) ms

-- the amount is the base and the multiples together, and speaks of their variables alone
pub record IsAmount (base : ℤ) (ms : List Multiple) (a : Amount) : Type 0 where
  pub value : (values : List Value) → a.constant +ℤ linear_sum a.terms.items values ≡ base +ℤ sum_of_multiples values ms
  pub over : (terms : List Term) → AreAmong terms (terms_of_multiples ms) → All (λ t. Contains (filter_map variable_of terms) t.variable) a.terms.items
  pub coefficients : All (λ t. unsigned_abs t.coefficient ≤ 1000000000) a.terms.items
  pub few : length a.terms.items ≤ length ms
  pub size : unsigned_abs a.constant ≤ (length ms + 1) * 1000000000000000000

-- ---- atoms and branches

-- the atom holds just where Q does, and speaks of these terms' variables alone
pub record IsAtomWhere (ts : List Term) (Q : List Value → Type 0) (atom : Atom) : Type 0 where
  pub meaning : (values : List Value) → Q values ↔ AtomHolds values atom
  pub over : (kinds : List Kind) (terms : List Term) → AreAmong terms ts → IsAtomOver kinds (filter_map variable_of terms) atom

-- the base and the multiples together compare so with 0
abbrev pub ComparesSum : Comparison → ℤ → List Multiple → List Value → Type 0
ComparesSum compared base ms values = Compares compared (base +ℤ sum_of_multiples values ms)

-- the branch holds just where Q does, and speaks of these terms' variables alone
pub record IsBranchWhere (kinds : List Kind) (ts : List Term) (Q : List Value → Type 0) (b : Branch) : Type 0 where
  pub meaning : (values : List Value) → Q values ↔ BranchHolds values b
  pub over : (terms : List Term) → AreAmong terms ts → IsBranchOver kinds (filter_map variable_of terms) b

-- some branch holds just where P does, and they speak of these terms' variables alone
pub record AreChoicesOf (kinds : List Kind) (ts : List Term) (P : List Value → Type 0) (bs : List Branch) : Type 0 where
  pub meaning : (values : List Value) → P values ↔ Any (BranchHolds values) bs
  pub over : (terms : List Term) → AreAmong terms ts → All (IsBranchOver kinds (filter_map variable_of terms)) bs

-- the term is one of the numbers, and Q is true of it
abbrev pub IsOneOf : Term → List ℤ → (ℤ → List Value → Type 0) → List Value → Type 0
IsOneOf t numbers Q values = Any (λ n. (number_of_term values t ≡ n) × Q n values) numbers

-- ---- numbers

abbrev pub numbers_in : Kind → List ℤ
numbers_in kind.Bool = []
numbers_in (kind.Int numbers) = numbers
numbers_in (kind.Set universe) = []

abbrev pub numbers_of_constant : Value → List ℤ
numbers_of_constant (value.Bool b) = []
numbers_of_constant (value.Int x) = x ∷ []
numbers_of_constant (value.Set s) = []

-- the integers that a term can be
abbrev pub numbers_of : List Kind → Term → List ℤ
numbers_of kinds (Const v) = numbers_of_constant v
numbers_of kinds (Var x) = option_map_or numbers_in (slice_get kinds x.0) []

-- the elements that a set term can have
abbrev pub elements_in : Kind → List ℤ
elements_in kind.Bool = []
elements_in (kind.Int numbers) = []
elements_in (kind.Set universe) = universe

abbrev pub elements_of_constant : Value → List ℤ
elements_of_constant (value.Bool b) = []
elements_of_constant (value.Int x) = []
elements_of_constant (value.Set s) = s

abbrev pub elements_of : List Kind → Term → List ℤ
elements_of kinds (Const v) = elements_of_constant v
elements_of kinds (Var x) = option_map_or elements_in (slice_get kinds x.0) []

-- the set term has the element
abbrev pub TermHas : List Value → Term → ℤ → Type 0
TermHas values t e = IsSomeAnd (value_of t values) (HasElement e)

-- a set variable, or a constant that has the element
abbrev pub MayHave : List Kind → ℤ → Term → Type 0
MayHave kinds e (Const v) = HasElement e v
MayHave kinds e (Var x) = IsSomeAnd (slice_get kinds x.0) IsSetKind

-- from 1 to the length
abbrev pub IsPlace : ℕ → ℤ → Type 0
IsPlace length n = (pos 1 ≤ℤ n) × (n ≤ℤ pos length)

-- ---- arguments

abbrev pub IsOneTerm : Arg → Type 0
IsOneTerm (One t) = ⊤
IsOneTerm (Many ts) = ⊥

abbrev pub AreManyTerms : Arg → Type 0
AreManyTerms (One t) = ⊥
AreManyTerms (Many ts) = ⊤

abbrev pub AreTwoTerms : List Arg → Type 0
AreTwoTerms (a ∷ b ∷ []) = IsOneTerm a × IsOneTerm b
AreTwoTerms _ = ⊥

abbrev pub AreThreeTerms : List Arg → Type 0
AreThreeTerms (a ∷ b ∷ c ∷ []) = IsOneTerm a × IsOneTerm b × IsOneTerm c
AreThreeTerms _ = ⊥

abbrev pub AreItemsAndTerm : List Arg → Type 0
AreItemsAndTerm (a ∷ b ∷ []) = AreManyTerms a × IsOneTerm b
AreItemsAndTerm _ = ⊥

abbrev pub ArePlaceItemsAndTerm : List Arg → Type 0
ArePlaceItemsAndTerm (a ∷ b ∷ c ∷ []) = IsOneTerm a × AreManyTerms b × IsOneTerm c
ArePlaceItemsAndTerm _ = ⊥

-- whatever kinds the arguments fit, these are branches of the relation
abbrev pub AreBranchesFor : Relation → List Arg → List Branch → Type 0
AreBranchesFor relation args bs = (kinds : List Kind) → AllZip (HasShape kinds) (shapes_of (row_of relation)) args → AreBranchesOf kinds relation args bs
