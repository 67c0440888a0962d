-- Words of this crate's private helpers; the meaning is in log_rules. What a check of one line answers, and sides by their nodes.
use Rattle.std.specs.Prelude.{◌≡◌, ℕ, ◌<◌, ◌==◌, ◌||◌, Bool, true, false, ℤ, ◌≤ℤ◌, List, [], ◌∷◌, Option, None, Some, slice_get, cond, IfSome, ⊤}
use Rattle.set_meaning.specs.declared.kinds.Kind.{Kind}
use Rattle.set_meaning.specs.declared.kinds.Value.{Value}
use Rattle.set_meaning.specs.declared.kinds.Value.TheVariants as value
use Rattle.set_meaning.specs.declared.problems.VarId.{VarId}
use Rattle.set_meaning.specs.Arguments.{int_at}
use Rattle.set_meaning.specs.declared.problems.Constraint.{Constraint}
use Rattle.set_meaning.specs.declared.problems.Problem.{Problem}
use Rattle.bit_layout.specs.Words.{width_of}
use Rattle.log_text.specs.declared.line.Line.{Line}
use Rattle.log_rules.specs.declared.nodes.Node.{Node}
use Rattle.log_rules.specs.declared.reasons.Reason.{Reason}
use Rattle.log_rules.specs.Numbers.{turn_of}
use Rattle.log_rules.specs.Tables.{IsTable, next_node, walk}
use Rattle.log_rules.specs.Boxes.{Sides, AreSides, FitsWidth, IsInitial, word_at, side_of, resolvent}
use Rattle.log_rules.specs.States.{LogState}
use Rattle.log_rules.specs.Rules.{Keeps, IsValidAfter, IsFirstReason, StandsIn}

-- ---- verdicts

-- the line keeps each rule whose turn is before this one
unfoldable pub KeepsBefore : Problem → LogState → Line → ℕ → Type 0
KeepsBefore p s line turn = (q : Reason) → turn_of q < turn → Keeps p s q (Some line)

-- the first rule that the line breaks, or none
abbrev pub IsVerdict : Problem → LogState → Line → Option Reason → Type 0
IsVerdict p s line None = IsValidAfter p s line
IsVerdict p s line (Some r) = IsFirstReason p s (Some line) r

-- ---- what is known of the lines before

pub record AreKept (p : Problem) (s : LogState) : Type 0 where
  pub table : IsTable s.table
  pub sides : (k : ℕ) (b : Sides) → slice_get s.boxes k ≡ Some b → AreSides p.kinds s.table b

-- ---- sides

-- the variables ascend strictly, all of them above the last one before
abbrev pub Ascends : Option ℕ → Sides → Type 0
Ascends last [] = ⊤
Ascends last (side ∷ sides) = IfSome last (λ v. v < side.0) × Ascends (Some side.0) sides

-- the node of the side of the variable; node 1 where there is no such side
abbrev pub node_of : Sides → ℕ → ℕ
node_of [] v = 1
node_of (side ∷ sides) v = cond (side.0 == v) side.1 (node_of sides v)

-- the node may be that of a side of the variable
pub record FitsAt (kinds : List Kind) (table : List Node) (v n : ℕ) : Type 0 where
  pub there : n < next_node table
  pub fits : IfSome (slice_get kinds v) (λ k. FitsWidth table n (width_of k))

-- each initial value of the variable that the first node accepts is accepted by one of the others
unfoldable pub LiesAt : List Kind → List Node → ℕ → ℕ → ℕ → ℕ → Type 0
LiesAt kinds table v inside first second = (x : Value) → IsInitial kinds v x → walk table inside (word_at kinds v x) ≡ true
    → (walk table first (word_at kinds v x) || walk table second (word_at kinds v x)) ≡ true

-- what the rule on resolvents asks of one variable
unfoldable pub IsResolvedAt : List Kind → List Node → Sides → Sides → Sides → ℕ → ℕ → Type 0
IsResolvedAt kinds table sides first second pivot v = (x : Value) → IsInitial kinds v x → side_of kinds table sides v x ≡ true
    → resolvent (side_of kinds table first) (side_of kinds table second) pivot v x ≡ true

-- the side is of a variable that stands in the constraint
unfoldable pub SideStands : Constraint → ℕ × ℕ → Type 0
SideStands c side = StandsIn c side.0

-- the box has no initial value of the variable but the listed one
unfoldable pub IsOnlyAt : List Kind → List Node → Sides → List Value → ℕ → Type 0
IsOnlyAt kinds table sides values v = (x : Value) → IsInitial kinds v x → side_of kinds table sides v x ≡ true → slice_get values v ≡ Some x

-- the first is as good an objective as the second
abbrev pub IsAsGood : Bool → ℤ → ℤ → Type 0
IsAsGood false a x = a ≤ℤ x
IsAsGood true a x = x ≤ℤ a

-- where the node accepts the integer as a value of the variable, the bound is as good
unfoldable pub IsFit : List Kind → List Node → ℕ → ℕ → ℤ → Bool → ℤ → Type 0
IsFit kinds table v n bound greatest x = walk table n (word_at kinds v (value.Int x)) ≡ true → IsAsGood greatest bound x

-- so is the integer of this number
unfoldable pub IsFitAt : List Kind → List Node → ℕ → ℕ → ℤ → Bool → List ℤ → ℕ → Type 0
IsFitAt kinds table v n bound greatest numbers i = (x : ℤ) → slice_get numbers i ≡ Some x → IsFit kinds table v n bound greatest x

-- the box has no value of the objective that is better than the bound
unfoldable pub NoneIsBeyond : List Kind → List Node → Sides → VarId → ℤ → Bool → Type 0
NoneIsBeyond kinds table sides o bound greatest = (x : ℤ) → IsInitial kinds o.0 (value.Int x) → side_of kinds table sides o.0 (value.Int x) ≡ true → IsAsGood greatest bound x

-- the box has no better value of the objective
unfoldable pub NoneIsBetter : List Kind → List Node → Sides → List Value → VarId → Bool → Type 0
NoneIsBetter kinds table sides values o greatest = (x : ℤ) → IsInitial kinds o.0 (value.Int x) → side_of kinds table sides o.0 (value.Int x) ≡ true
    → IfSome (int_at o values) (λ a. IsAsGood greatest a x)
