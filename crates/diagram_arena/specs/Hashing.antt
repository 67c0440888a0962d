-- What is hashed of a ref: one number. Refs that are one have the same number.
use Rattle.std.specs.Prelude.{◌≡◌, ℕ, ◌+◌, true, refl}
use Rattle.std.specs.Hash as fed
use mathlib.Core.Path.{sym, ap}
use mathlib.Core.Bool.{true≢false}
use borrow.Author.Tests.{eqb-true}
use Rattle.diagram_arena.specs.declared.nodes.Ref.{Ref}
use Rattle.diagram_arena.specs.declared.nodes.Ref.TheVariants.{Zero, One, Node}
use Rattle.diagram_arena.specs.contracts.nodes.RefPartialEq.TheImpl.{eq-value as of_refs}

-- 0 of Zero, 1 of One, and the numbers from 2 on of nodes
abbrev pub number : Ref → ℕ
number Zero = 0
number One = 1
number (Node i) = i.0 + 2

abbrev pub ref_input : Ref → fed.HashWrites
ref_input r = fed.u64 (number r)

pub ref_respects : (r s : Ref) → of_refs.it r s ≡ true → ref_input r ≡ ref_input s
ref_respects Zero Zero e = refl
ref_respects Zero One e = absurd (true≢false (sym e))
ref_respects Zero (Node j) e = absurd (true≢false (sym e))
ref_respects One Zero e = absurd (true≢false (sym e))
ref_respects One One e = refl
ref_respects One (Node j) e = absurd (true≢false (sym e))
ref_respects (Node i) Zero e = absurd (true≢false (sym e))
ref_respects (Node i) One e = absurd (true≢false (sym e))
ref_respects (Node i) (Node j) e = ap (λ k. fed.u64 (k + 2)) (eqb-true i.0 j.0 e)
