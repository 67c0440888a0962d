use Rattle.std.proofs.Common.{◌≡◌, ◌↔◌, true, ℤ, ◌+ℤ◌, List, map, All, FitsSigned, to_z, of_z, refl, sym, subst}
use Rattle.std.specs.Int.{w128}
use Rattle.std.proofs.lemmas.Int.{to_z-of_z, fits_signed_from_abs}
use Rattle.std.specs.Prelude.{IfOk}
use Rattle.set_meaning.specs.declared.kinds.Value.{Value}
use Rattle.diagram_arena.specs.Table.{Word}
use Rattle.bit_machine.specs.Rules.{accepts}
use Rattle.scope_words.specs.Words.{Gives}
use Rattle.linear_machine.specs.Sums.{Compares, LinearState}
use Rattle.linear_machine.specs.Steps.{rules_of}
use Rattle.linear_terms.specs.declared.terms.LinearTerm.{LinearTerm}
use Rattle.linear_terms.specs.Terms.{HasBitsOf, linear_sum}
use Rattle.int_channel.proofs.branches.sum_machine.Goals as goal

pub linear_over-requires-clause-listed : goal.linear_over-requires-clause-listed
linear_over-requires-clause-listed c = subst (All (λ (t : LinearTerm). HasBitsOf c.args.layout.now c.args.bits.now t.variable)) (sym c.items.ensures) c.requires.listed

pub returns-clause-accepts : goal.returns-clause-accepts
returns-clause-accepts c =
    let s = c.args.sum.now in
    let fits : FitsSigned w128 s.constant = fits_signed_from_abs w128 s.constant (let size = c.requires.small.constant_size in omega (Rattle.std.proofs.Common.arith, size)) in
    let same : to_z w128 (of_z w128 s.constant) ≡ s.constant = simp to_z-of_z refl in
    let P : List LinearTerm → ℤ → Type 0 = λ ts constant. IfOk c.linear_over.result (λ (m : LinearState). (values : List Value) (w : Word) → Gives c.args.layout.now (map (λ t. t.variable) ts) values w
    → (accepts (rules_of m) c.args.bits.now w ≡ true) ↔ Compares s.comparison (constant +ℤ linear_sum ts values)) in
    subst (λ ts. P ts s.constant) c.items.ensures (subst (P c.items.result.now) same c.linear_over.ensures.accepts)
