-- The rules of a valid line of a log, after the lines before it and for a problem. The format and its rules are this project's own;
-- that a log of derived nogoods is checked line by line is as with clausal proofs (Goldberg and Novikov, DATE 2003).
use Rattle.std.specs.Prelude.{◌≡◌, ℕ, ℤ, ◌<◌, ◌≤ℤ◌, Bool, true, false, List, [], map, length, Option, None, Some, IsSome, IsSomeAnd, IfSome, slice_get, All, Any, ⊤}
use Rattle.set_meaning.specs.declared.kinds.Value.{Value}
use Rattle.set_meaning.specs.declared.kinds.Value.TheVariants as value
use Rattle.set_meaning.specs.declared.kinds.Kind.{Kind}
use Rattle.set_meaning.specs.declared.problems.Constraint.{Constraint}
use Rattle.set_meaning.specs.declared.problems.Goal.{Goal}
use Rattle.set_meaning.specs.declared.problems.Goal.TheVariants.{Satisfy, Minimize, Maximize}
use Rattle.set_meaning.specs.declared.problems.Problem.{Problem}
use Rattle.set_meaning.specs.Arguments.{int_at}
use Rattle.set_meaning.specs.Relations.{variables_of}
use Rattle.set_meaning.specs.Solutions.{IsAnswer}
use Rattle.log_text.specs.declared.line.Line.{Line}
use Rattle.log_text.specs.declared.line.Line.TheVariants as lines
use Rattle.log_text.specs.Spelling.{HasSpelling, spelling}
use Rattle.log_rules.specs.declared.reasons.Reason.{Reason}
use Rattle.log_rules.specs.declared.reasons.Reason.TheVariants as reason
use Rattle.log_rules.specs.Numbers.{turn_of}
use Rattle.log_rules.specs.Tables.{next_node, IsNext}
use Rattle.log_rules.specs.Boxes.{Sides, IsInitial, side_of, LiesIn, resolvent, everything, SomeSatisfy, AreSides}
use Rattle.log_rules.specs.States.{LogState, box_in, box_at, value_in}

-- ---- what each rule asks of a line

-- the header is the first line, and no other line is
abbrev pub IsInPlace : LogState → Line → Type 0
IsInPlace s lines.Header = s.begun ≡ false
IsInPlace s line = s.begun ≡ true

-- a new node, or a new box, has the next number
abbrev pub HasNextNumber : LogState → Line → Type 0
HasNextNumber s (lines.Node number place lo hi) = number ≡ next_node s.table
HasNextNumber s (lines.Axiom number constraint sides) = number ≡ length s.boxes
HasNextNumber s (lines.Answer number values sides) = number ≡ length s.boxes
HasNextNumber s (lines.Resolvent number left right pivot sides) = number ≡ length s.boxes
HasNextNumber s line = ⊤

-- the children of a node are earlier nodes which test later places
abbrev pub HasChildren : LogState → Line → Type 0
HasChildren s (lines.Node number place lo hi) = IsNext s.table (record { place = place; lo = lo; hi = hi })
HasChildren s line = ⊤

-- the variable on which boxes are resolved
abbrev pub pivot_in : Line → Option ℕ
pivot_in (lines.Resolvent number left right pivot sides) = Some pivot
pivot_in line = None

-- the sides are in order, and what they name is there; so is the variable on which boxes are resolved
pub record HasSides (p : Problem) (s : LogState) (line : Line) : Type 0 where
  pub sides : IfSome (box_in line) (AreSides p.kinds s.table)
  pub pivot : IfSome (pivot_in line) (λ v. v < length p.kinds)

-- the variable stands in the constraint
abbrev pub StandsIn : Constraint → ℕ → Type 0
StandsIn c v = Any (λ u. u.0 ≡ v) (variables_of c)

-- an axiom's constraint is there, and each side is of a variable that stands in it
abbrev pub HasScope : Problem → Line → Type 0
HasScope p (lines.Axiom number constraint sides) = IsSomeAnd (slice_get p.constraints constraint) (λ c. All (λ side. StandsIn c side.0) sides)
HasScope p line = ⊤

-- no initial values in an axiom's sides satisfy its constraint
abbrev pub IsAxiom : Problem → LogState → Line → Type 0
IsAxiom p s (lines.Axiom number constraint sides) = IfSome (slice_get p.constraints constraint) (λ c. SomeSatisfy p.kinds s.table sides c → ⊥)
IsAxiom p s line = ⊤

abbrev pub IsBox : LogState → ℕ → Type 0
IsBox s k = IsSome (box_at s k)

-- the boxes that the line names are there
abbrev pub NamesBoxes : LogState → Line → Type 0
NamesBoxes s (lines.Resolvent number left right pivot sides) = IsBox s left × IsBox s right
NamesBoxes s (lines.Learned number) = IsBox s number
NamesBoxes s (lines.Close number) = IsBox s number
NamesBoxes s line = ⊤

-- the box lies in the resolvent of the two that it names
abbrev pub IsResolved : Problem → LogState → Line → Type 0
IsResolved p s (lines.Resolvent number left right pivot sides) =
    (b c : Sides) → box_at s left ≡ Some b → box_at s right ≡ Some c
    → LiesIn p.kinds (side_of p.kinds s.table sides) (resolvent (side_of p.kinds s.table b) (side_of p.kinds s.table c) pivot)
IsResolved p s line = ⊤

-- the values are a solution that the earlier answers do not cover
abbrev pub IsNewAnswer : Problem → LogState → Line → Type 0
IsNewAnswer p s (lines.Answer number values sides) = IsAnswer p s.answers (map value_in values)
IsNewAnswer p s line = ⊤

-- Each initial value in a side is the answer's; where an objective is optimised, each in its side is no better than the answer's.
abbrev pub IsBoxOf : List Kind → Goal → List Value → (ℕ → Value → Bool) → Type 0
IsBoxOf kinds Satisfy values box = (v : ℕ) (x : Value) → IsInitial kinds v x → box v x ≡ true → slice_get values v ≡ Some x
IsBoxOf kinds (Minimize o) values box = (x : ℤ) → IsInitial kinds o.0 (value.Int x) → box o.0 (value.Int x) ≡ true → IfSome (int_at o values) (λ a. a ≤ℤ x)
IsBoxOf kinds (Maximize o) values box = (x : ℤ) → IsInitial kinds o.0 (value.Int x) → box o.0 (value.Int x) ≡ true → IfSome (int_at o values) (λ a. x ≤ℤ a)

-- an answer covers what is in its box
abbrev pub IsAnswerBox : Problem → LogState → Line → Type 0
IsAnswerBox p s (lines.Answer number values sides) = IsBoxOf p.kinds p.goal (map value_in values) (side_of p.kinds s.table sides)
IsAnswerBox p s line = ⊤

-- the box that closes the log has every initial value of every variable
abbrev pub HoldsEverything : Problem → LogState → Line → Type 0
HoldsEverything p s (lines.Close number) = (b : Sides) → box_at s number ≡ Some b → LiesIn p.kinds everything (side_of p.kinds s.table b)
HoldsEverything p s line = ⊤

-- ---- reasons

-- What was read, a line or nothing, keeps the rule that goes with the reason.
abbrev pub Keeps : Problem → LogState → Reason → Option Line → Type 0
Keeps p s reason.Form reading = IsSomeAnd reading (IsInPlace s)
Keeps p s reason.Number reading = IfSome reading (HasNextNumber s)
Keeps p s reason.Children reading = IfSome reading (HasChildren s)
Keeps p s reason.Sides reading = IfSome reading (HasSides p s)
Keeps p s reason.Scope reading = IfSome reading (HasScope p)
Keeps p s reason.Axiom reading = IfSome reading (IsAxiom p s)
Keeps p s reason.Boxes reading = IfSome reading (NamesBoxes s)
Keeps p s reason.Resolvent reading = IfSome reading (IsResolved p s)
Keeps p s reason.Answer reading = IfSome reading (IsNewAnswer p s)
Keeps p s reason.AnswerBox reading = IfSome reading (IsAnswerBox p s)
Keeps p s reason.Close reading = IfSome reading (HoldsEverything p s)
Keeps p s reason.End reading = s.ends ≡ []

-- the line keeps every rule
unfoldable pub IsValidAfter : Problem → LogState → Line → Type 0
IsValidAfter p s line = (r : Reason) → Keeps p s r (Some line)

-- the rule is broken, and each that is tried before it is kept
pub record IsFirstReason (p : Problem) (s : LogState) (reading : Option Line) (r : Reason) : Type 0 where
  pub broken : Keeps p s r reading → ⊥
  pub kept : (q : Reason) → turn_of q < turn_of r → Keeps p s q reading

-- ---- texts

-- the text spells this line, or none
abbrev pub Reads : List ℕ → Option Line → Type 0
Reads text (Some line) = HasSpelling line × (text ≡ spelling line)
Reads text None = (line : Line) → HasSpelling line → text ≡ spelling line → ⊥

-- the text, without its newline, is refused for this reason
pub record IsRefusedFor (p : Problem) (s : LogState) (text : List ℕ) (r : Reason) : Type 0 where
  pub reading : Option Line
  pub reads : Reads text reading
  pub first : IsFirstReason p s reading r
