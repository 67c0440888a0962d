use Rattle.std.proofs.Common.{rules, ◌≡◌, ◌↔◌, true, ℤ, List, FitsSigned, to_z, of_z, refl, sym, subst}
use Rattle.std.specs.Prelude.{IfOk, IsSomeAnd, slice_get, ◌∷◌, []}
use Rattle.std.proofs.lemmas.Int.{to_z-of_z}
use mir.Syntax.{w64}
use Rattle.set_meaning.specs.declared.kinds.Value.{Value}
use Rattle.diagram_arena.specs.Table.{Word}
use Rattle.bit_machine.specs.Rules.{accepts}
use Rattle.scope_words.specs.Words.{Gives}
use Rattle.linear_machine.specs.Sums.{LinearState}
use Rattle.linear_machine.specs.Steps.{rules_of}
use Rattle.int_channel.specs.declared.forms.Atom.{Atom}
use Rattle.int_channel.specs.Forms.{AtomHolds, HasElement}
use Rattle.int_channel.specs.Machines.{variables_of_atom}
use Rattle.int_channel.proofs.branches.atom_machine.Goals as goal

pub returns-in-Sum-clause-accepts : goal.returns-in-Sum-clause-accepts
returns-in-Sum-clause-accepts c =
    let P : Atom → Type 0 = λ a. IfOk c.sum_machine.result (λ (m : LinearState). (values : List Value) (w : Word) → Gives c.args.layout.now (variables_of_atom a) values w
    → (accepts (rules_of m) c.args.bits.now w ≡ true) ↔ AtomHolds values a) in
    subst P (sym c.in-Sum.is) c.sum_machine.ensures.accepts

pub returns-in-Member-clause-accepts : goal.returns-in-Member-clause-accepts
returns-in-Member-clause-accepts c =
    let fits : FitsSigned w64 c.in-Member.element = search rules in
    let same : to_z w64 (of_z w64 c.in-Member.element) ≡ c.in-Member.element = simp to_z-of_z refl in
    let Q : ℤ → Type 0 = λ e. IfOk c.member_machine.result (λ (m : LinearState). (values : List Value) (w : Word) → Gives c.args.layout.now (c.in-Member.set ∷ []) values w
    → (accepts (rules_of m) c.args.bits.now w ≡ true) ↔ IsSomeAnd (slice_get values c.in-Member.set.0) (HasElement e)) in
    let P : Atom → Type 0 = λ a. IfOk c.member_machine.result (λ (m : LinearState). (values : List Value) (w : Word) → Gives c.args.layout.now (variables_of_atom a) values w
    → (accepts (rules_of m) c.args.bits.now w ≡ true) ↔ AtomHolds values a) in
    subst P (sym c.in-Member.is) (subst Q same c.member_machine.ensures.accepts)
