-- What a build makes from a place and a state on.
use Rattle.std.specs.Prelude.{◌≡◌, ◌==◌, ℕ, ◌^◌, ◌≤◌, Bool, ◌&&◌, List, drop, Result, Some, Err, IfOk}
use Rattle.std.specs.List.{All}
use Rattle.std.specs.Map.{lookup}
use Rattle.diagram_arena.specs.declared.nodes.Ref.{Ref}
use Rattle.diagram_arena.specs.declared.nodes.Stop.{Stop}
use Rattle.diagram_arena.specs.declared.nodes.Stop.TheVariants.{Full}
use Rattle.diagram_arena.specs.Table.{Words, Table, depth}
use Rattle.diagram_arena.specs.Arena.{table}
use Rattle.node_reclaim.specs.Pool.{PoolState}
use Rattle.node_reclaim.specs.Growth.{IsFull, Stays, NewArePartsOf}
use Rattle.diagram_ops.specs.Words.{Denotes}
use Rattle.bit_machine.specs.Rules.{Rules, run}

-- r asks no bit before those of the list
abbrev pub AsksNoneBefore : Table → List ℕ → Ref → Type 0
AsksNoneBefore t bits r = (b : ℕ) → b ≤ 2 ^ 32 → All (λ c. b ≤ c) bits → b ≤ depth t r

-- the words that are accepted if the machine is in state q when it comes to place `at`
abbrev pub accepts_from : {Q : Type 0} → Rules Q → List ℕ → ℕ → Q → Words
accepts_from rules bits at q = λ w. rules.accept (run rules at q (drop at bits) w)

-- r is the diagram from a place and a state on
pub record IsBuilt {Q : Type 0} (t : Table) (rules : Rules Q) (bits : List ℕ) (at : ℕ) (q : Q) (r : Ref) : Type 0 where
  pub denotes : Denotes t (accepts_from rules bits at q) r
  pub deep : AsksNoneBefore t (drop at bits) r

-- whether two places with their states are one, by a comparison of states
abbrev pub same_position : {Q : Type 0} → (Q → Q → Bool) → ℕ × Q → ℕ × Q → Bool
same_position same j k = (j.0 == k.0) && same j.1 k.1

-- each entry of a table of diagrams, by place and state, is right
abbrev pub AreBuilt : {Q : Type 0} → Table → Rules Q → List ℕ → (Q → Q → Bool) → List ((ℕ × Q) × Ref) → Type 0
AreBuilt {Q} t rules bits same entries = (at : ℕ) (q : Q) (r : Ref) → lookup (same_position same (at, q)) entries ≡ Some r → IsBuilt t rules bits at q r

-- what a build from a place and a state on leaves, whatever it answers
pub record BuiltFrom {Q : Type 0} (old new : PoolState) (rules : Rules Q) (bits : List ℕ) (at : ℕ) (q : Q) (result : Result Ref Stop) : Type 0 where
  pub built : IfOk result (IsBuilt (table new.arena) rules bits at q)
  pub stays : Stays old new
  pub full : result ≡ Err Full → IsFull new
  pub parts : NewArePartsOf (table old.arena) (table new.arena) (accepts_from rules bits at q)
