use Rattle.std.proofs.Common.{rules, ◌≡◌, ◌+◌, ◌∙◌, subst, sym, FitsSigned, arith}
use Rattle.std.specs.Int.{w128}
use Rattle.std.proofs.lemmas.Int.{ints, to_z-of_z}
use Rattle.linear_machine.specs.declared.state.State.{State}
use Rattle.linear_machine.specs.Steps.{step_of}
use Rattle.linear_machine.specs.Body.{Occurs}
use Rattle.linear_machine.proofs.Places.{ready, step_told, step_occurs}
use Rattle.linear_machine.proofs.linear.LinearMachine.step.Goals as goal

pub settled-requires-clause-low : goal.settled-requires-clause-low
settled-requires-clause-low c =
    let fits : FitsSigned w128 c.in-Open.sum = search rules in
    let r = ready c.self.inside c.args.self.now c.args.at c.args.state c.in-Open.sum c.index.result.now c.self.view_is c.self.invariant c.requires.within c.index.ensures c.requires.from c.in-Open.is in
    let h = r.low in
    omega (arith, ints)

pub settled-requires-clause-high : goal.settled-requires-clause-high
settled-requires-clause-high c =
    let fits : FitsSigned w128 c.in-Open.sum = search rules in
    let r = ready c.self.inside c.args.self.now c.args.at c.args.state c.in-Open.sum c.index.result.now c.self.view_is c.self.invariant c.requires.within c.index.ensures c.requires.from c.in-Open.is in
    let h = r.high in
    omega (arith, ints)

pub settled-requires-clause-least : goal.settled-requires-clause-least
settled-requires-clause-least c =
    (ready c.self.inside c.args.self.now c.args.at c.args.state c.in-Open.sum c.index.result.now c.self.view_is c.self.invariant c.requires.within c.index.ensures c.requires.from c.in-Open.is).least

pub settled-requires-clause-greatest : goal.settled-requires-clause-greatest
settled-requires-clause-greatest c =
    (ready c.self.inside c.args.self.now c.args.at c.args.state c.in-Open.sum c.index.result.now c.self.view_is c.self.invariant c.requires.within c.index.ensures c.requires.from c.in-Open.is).greatest

pub returns-in-Open-clause-state : goal.returns-in-Open-clause-state
returns-in-Open-clause-state c =
    let fits : FitsSigned w128 c.in-Open.sum = search rules in
    simp to_z-of_z at c.settled.ensures ∙ step_told c.self.inside c.args.self.now c.args.at c.args.state c.in-Open.sum c.args.value c.index.result.now c.self.view_is c.self.invariant c.requires.within c.index.ensures c.in-Open.is

pub returns-in-Open-clause-to : goal.returns-in-Open-clause-to
returns-in-Open-clause-to c =
    let fits : FitsSigned w128 c.in-Open.sum = search rules in
    let is : c.settled.result ≡ step_of c.args.self.now c.args.at c.args.state c.args.value = simp to_z-of_z at c.settled.ensures ∙ step_told c.self.inside c.args.self.now c.args.at c.args.state c.in-Open.sum c.args.value c.index.result.now c.self.view_is c.self.invariant c.requires.within c.index.ensures c.in-Open.is in
    let P : State → Type 0 = λ q. Occurs c.args.self.now (c.args.at + 1) q in
    subst P (sym is) (step_occurs c.args.self.now c.args.at c.args.state c.args.value c.requires.within c.requires.from)
