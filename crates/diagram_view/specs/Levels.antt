-- For this crate's proofs: the refs that are left once the first bits have values, bit by bit.
use Rattle.std.specs.Prelude.{◌≡◌, ◌≢◌, ◌⊎◌, ℕ, Bool, true, false, not, List, Contains}
use Rattle.diagram_arena.specs.declared.nodes.Ref.{Ref}
use Rattle.diagram_arena.specs.declared.nodes.Ref.TheVariants.{Zero}
use Rattle.diagram_arena.specs.Table.{Table}
use Rattle.diagram_view.specs.Words.{ListWords}
use Rattle.diagram_view.specs.Bounds.{IsLeast, IsGreatest}
use Rattle.diagram_view.specs.Steps.{side}

-- s was added, if it is not Zero
pub record Adds (old new : List Ref) (s : Ref) : Type 0 where
  pub kept : (q : Ref) → Contains old q → Contains new q
  pub here : s ≢ Zero → Contains new s
  pub from : (q : Ref) → Contains new q → Contains old q ⊎ ((s ≡ q) × (s ≢ Zero))

-- next has the sides of the refs at a bit, but for Zero
pub record IsNextLevel (t : Table) (refs : List Ref) (b : ℕ) (next : List Ref) : Type 0 where
  pub sound : (s : Ref) → Contains next s → (s ≢ Zero) × ((r : Ref) × Contains refs r × ((v : Bool) × (side t r b v ≡ s)))
  pub whole : (r : Ref) (v : Bool) → Contains refs r → side t r b v ≢ Zero → Contains next (side t r b v)

-- the first word in the order of words, or in its reverse
abbrev pub IsFirst : Bool → ListWords → List Bool → Type 0
IsFirst false W vs = IsLeast W vs
IsFirst true W vs = IsGreatest W vs

-- the value v is the wanted one, or the other where the wanted one leaves Zero
abbrev pub IsPreferred : Table → Ref → ℕ → Bool → Bool → Type 0
IsPreferred t r b wanted v = ((v ≡ wanted) × (side t r b wanted ≢ Zero)) ⊎ ((v ≡ not wanted) × (side t r b wanted ≡ Zero))
