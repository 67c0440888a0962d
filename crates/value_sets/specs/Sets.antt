-- Sets of values of one variable as diagrams.
-- Source: the set domains of Hawkins, Lagoon and Stuckey, JAIR 2005, in this project's words.
use Rattle.std.specs.Prelude.{◌≡◌, ◌&&◌, ◌||◌, Bool, true, false, [], ◌∷◌}
use Rattle.set_meaning.specs.declared.kinds.Value.{Value}
use Rattle.set_meaning.specs.declared.problems.VarId.{VarId}
use Rattle.bit_layout.specs.Order.{LayoutState}
use Rattle.diagram_arena.specs.declared.nodes.Ref.{Ref}
use Rattle.diagram_arena.specs.Table.{Table}
use Rattle.scope_words.specs.Words.{IsDiagramOf, NewArePartsOfWords}
use Rattle.exact_steps.specs.Domains.{AtVariable, values_in}

-- r is the diagram of some of the variable's initial values, perhaps of none
abbrev pub IsValueSet : LayoutState → Table → VarId → Ref → Type 0
IsValueSet l t v r = IsDiagramOf l (v ∷ []) (AtVariable v (λ x. values_in l t v r x ≡ true)) t r

-- r is the diagram of just these values
pub record IsSetOf (l : LayoutState) (t : Table) (v : VarId) (s : Value → Bool) (r : Ref) : Type 0 where
  pub set : IsValueSet l t v r
  pub values : values_in l t v r ≡ s

-- the values that are in both sets, and those that are in one of them
abbrev pub both : (Value → Bool) → (Value → Bool) → Value → Bool
both s t = λ x. s x && t x

abbrev pub either : (Value → Bool) → (Value → Bool) → Value → Bool
either s t = λ x. s x || t x

-- no value is in the set
abbrev pub HasNoValue : (Value → Bool) → Type 0
HasNoValue s = (x : Value) → s x ≡ false

-- no value is in both
abbrev pub AreApart : (Value → Bool) → (Value → Bool) → Type 0
AreApart s t = (x : Value) → s x ≡ true → t x ≡ false

-- each new node is a part of the set of the words of these values of the variable
abbrev pub NewArePartsOfValues : LayoutState → VarId → (Value → Bool) → Table → Table → Type 0
NewArePartsOfValues l v s old new = NewArePartsOfWords l (v ∷ []) (AtVariable v (λ x. s x ≡ true)) old new
