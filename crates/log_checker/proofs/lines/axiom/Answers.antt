use Rattle.std.proofs.Common.{refl, rules, sym, subst, ◌∙◌, ◌≡◌, ◌↔◌, ◌<◌, ◌≤◌, ◌^◌, true, false, arith, length}
use Rattle.std.specs.Prelude.{All, IsTrue}
use Rattle.log_text.specs.declared.line.Line.TheVariants as lines
use Rattle.log_rules.specs.declared.reasons.Reason.TheVariants as reason
use Rattle.log_rules.specs.Boxes.{AreSides, SomeSatisfy}
use Rattle.log_rules.specs.Rules.{HasScope, StandsIn}
use Rattle.log_checker.specs.Body.{log_of}
use Rattle.log_checker.proofs.Verdicts.{is_first, one_more, all_kept, axiom_children, axiom_rest, never, scope_within, scope_stands, axiom_broken, axiom_holds}
use Rattle.log_checker.proofs.lines.axiom.Goals as goal

pub returns-then-not-is_next_box : goal.returns-then-not-is_next_box
returns-then-not-is_next_box c = is_first _ _ _ reason.Number c.requires.before (λ h. never (c.if-not-is_next_box.ensures.1 h))

pub returns-then-not-are_sides : goal.returns-then-not-are_sides
returns-then-not-are_sides c =
    is_first _ _ _ reason.Sides (axiom_children _ _ _ _ _ (one_more _ _ _ reason.Number c.requires.before (c.if-not-is_next_box.ensures.0 refl)))
    (λ h. never (c.if-not-are_sides.ensures.1 (subst (AreSides c.args.check.now.problem.now.kinds c.args.check.now.earlier.now.table) (sym c.items.ensures) h.sides)))

pub returns-then-not-branch : goal.returns-then-not-branch
returns-then-not-branch c =
    is_first _ _ _ reason.Scope
    (one_more _ _ _ reason.Sides (axiom_children _ _ _ _ _ (one_more _ _ _ reason.Number c.requires.before (c.if-not-is_next_box.ensures.0 refl)))
    (record { sides = subst (AreSides c.args.check.now.problem.now.kinds c.args.check.now.earlier.now.table) c.items.ensures (c.if-not-are_sides.ensures.0 refl); pivot = tt }))
    (λ h.
    let on : c.in_ok-has_scope.field-0 ≡ true = c.in_ok-has_scope.ensures.1 (subst (λ z. HasScope c.args.check.now.problem.now (lines.Axiom 0 c.args.constraint z)) (sym c.items-2.ensures) h) in
    let off : c.in_ok-has_scope.field-0 ≡ false = search rules in
    let e : false ≡ true = sym off ∙ on in absurd (cc))

pub overflow_cast-c : goal.overflow_cast-c
overflow_cast-c c =
    let on : IsTrue c.in_ok-has_scope.field-0 = search rules in
    let within : c.args.constraint < length c.args.check.now.problem.now.constraints = scope_within c.args.check.now.problem.now c.args.constraint c.items-2.result.now (c.in_ok-has_scope.ensures.0 on) in
    let few : length c.args.check.now.problem.now.constraints ≤ 100000 = c.requires.ready.limits.few in
    let e : c.args.constraint < 2 ^ 32 = omega arith in search rules

pub possible-requires-clause-there : goal.possible-requires-clause-there
possible-requires-clause-there c =
    let on : IsTrue c.in_ok-has_scope.field-0 = search rules in scope_within c.args.check.now.problem.now c.args.constraint c.items-2.result.now (c.in_ok-has_scope.ensures.0 on)

pub possible-requires-clause-scope : goal.possible-requires-clause-scope
possible-requires-clause-scope c =
    let on : IsTrue c.in_ok-has_scope.field-0 = search rules in
    λ k is. subst (λ z. All (λ side. StandsIn k side.0) z) (c.items-2.ensures ∙ sym c.items-3.ensures) (scope_stands c.args.check.now.problem.now c.args.constraint c.items-2.result.now (c.in_ok-has_scope.ensures.0 on) k is)

pub returns-then-branch : goal.returns-then-branch
returns-then-branch c =
    let on : IsTrue c.in_ok-has_scope.field-0 = search rules in
    let scope = subst (λ z. HasScope c.args.check.now.problem.now (lines.Axiom 0 c.args.constraint z)) c.items-2.ensures (c.in_ok-has_scope.ensures.0 on) in
    let some : IsTrue c.in_ok-possible.field-0 = search rules in
    is_first _ _ _ reason.Axiom
    (one_more _ _ _ reason.Scope (one_more _ _ _ reason.Sides (axiom_children _ _ _ _ _ (one_more _ _ _ reason.Number c.requires.before (c.if-not-is_next_box.ensures.0 refl)))
    (record { sides = subst (AreSides c.args.check.now.problem.now.kinds c.args.check.now.earlier.now.table) c.items.ensures (c.if-not-are_sides.ensures.0 refl); pivot = tt })) scope)
    (λ h. axiom_broken c.args.check.now.problem.now (log_of c.args.check.now.earlier.now) c.args.number c.args.constraint c.args.sides.now c.in_ok-possible.field-0 scope
    (λ k is. subst (λ z. IsTrue c.in_ok-possible.field-0 ↔ SomeSatisfy c.args.check.now.problem.now.kinds c.args.check.now.earlier.now.table z k) c.items-3.ensures (c.in_ok-possible.ensures k is)) some h)

pub returns : goal.returns
returns c =
    let on : IsTrue c.in_ok-has_scope.field-0 = search rules in
    let scope = subst (λ z. HasScope c.args.check.now.problem.now (lines.Axiom 0 c.args.constraint z)) c.items-2.ensures (c.in_ok-has_scope.ensures.0 on) in
    let off : c.in_ok-possible.field-0 ≡ false = search rules in
    all_kept _ _ _ (axiom_rest _ _ _ _ _ (one_more _ _ _ reason.Axiom
    (one_more _ _ _ reason.Scope (one_more _ _ _ reason.Sides (axiom_children _ _ _ _ _ (one_more _ _ _ reason.Number c.requires.before (c.if-not-is_next_box.ensures.0 refl)))
    (record { sides = subst (AreSides c.args.check.now.problem.now.kinds c.args.check.now.earlier.now.table) c.items.ensures (c.if-not-are_sides.ensures.0 refl); pivot = tt })) scope)
    (axiom_holds c.args.check.now.problem.now (log_of c.args.check.now.earlier.now) c.args.number c.args.constraint c.args.sides.now c.in_ok-possible.field-0
    (λ k is. subst (λ z. IsTrue c.in_ok-possible.field-0 ↔ SomeSatisfy c.args.check.now.problem.now.kinds c.args.check.now.earlier.now.table z k) c.items-3.ensures (c.in_ok-possible.ensures k is)) off)))
