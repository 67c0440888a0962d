use Rattle.std.proofs.Common.{sym, subst}
use Rattle.log_rules.specs.Rules.{IsValidAfter}
use Rattle.log_checker.specs.States.{CheckerState}
use Rattle.log_checker.specs.Body.{log_of}
use Rattle.log_checker.proofs.Taking.{next_of, open_before, taken_after}
use Rattle.log_checker.proofs.checker.Checker.keep.Goals as goal

pub add-requires-clause-next : goal.add-requires-clause-next
add-requires-clause-next c = next_of c.self.inside.problem (log_of c.self.inside.earlier) c.args.line
    (subst (λ (v : CheckerState). IsValidAfter v.problem v.log c.args.line) (sym c.self.view_is) c.requires.valid)

pub add-requires-clause-open : goal.add-requires-clause-open
add-requires-clause-open c = open_before c.self.inside.problem c.self.inside.earlier c.args.line
    (subst (λ (v : CheckerState). IsValidAfter v.problem v.log c.args.line) (sym c.self.view_is) c.requires.valid)

pub invariant_of-self : goal.invariant_of-self
invariant_of-self c =
    let t = taken_after c.self.inside.problem c.self.invariant.lines (log_of c.self.inside.earlier) (log_of c.add.new.self) c.args.line c.add.result
    c.self.invariant.valid c.self.invariant.made (subst (λ (v : CheckerState). IsValidAfter v.problem v.log c.args.line) (sym c.self.view_is) c.requires.valid)
    c.add.ensures.added c.add.ensures.same c.logs_grow_by_lines.ensures.state c.logs_grow_by_lines.ensures.one_more in
    record { limits = c.self.invariant.limits; layout = c.self.invariant.layout; lines = t.lines; valid = t.valid; made = t.made }
