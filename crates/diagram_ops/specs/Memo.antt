-- The memo: results that are known from call to call, each right in the table as it stands.
use Rattle.std.specs.Prelude.{List, Contains}
use Rattle.diagram_arena.specs.declared.nodes.Ref.{Ref}
use Rattle.diagram_arena.specs.Table.{Table, IsReduced}
use Rattle.diagram_arena.specs.Arena.{table}
use Rattle.diagram_ops.specs.declared.question.Question.{Question}
use Rattle.diagram_ops.specs.declared.operations.Ops.TheInside.{Inside}
use Rattle.diagram_ops.specs.Steps.{IsAnswer}

-- each entry is the answer to its question, of refs that are there
abbrev pub IsMemo : Table → List (Question × Ref) → Type 0
IsMemo t entries = (q : Question) (r : Ref) → Contains {X = Question × Ref} entries (q, r) → IsAnswer t q r

pub record IsOps (a : Inside) : Type 0 where
  pub reduced : IsReduced (table a.pool.arena)
  pub memo : IsMemo (table a.pool.arena) a.memo.entries
