use Rattle.std.proofs.Common.{refl, sym, subst}
use Rattle.exact_steps.specs.declared.steps.StepResult.TheVariants as step
use Rattle.box_clauses.specs.declared.stepping.BoxResult.{BoxResult}
use Rattle.propagation.specs.Work.{IsListed}
use Rattle.propagation.proofs.stepping.in_list.Goals as goal

pub returns-in_ok-kept-in-Narrowed : goal.returns-in_ok-kept-in-Narrowed
returns-in_ok-kept-in-Narrowed c =
    subst (λ (a : BoxResult). IsListed a (step.Narrowed c.in_ok-kept-in-Narrowed.kept)) (sym c.in-Narrowed.is) (c.in_ok-kept-in-Narrowed.kept, refl, c.in_ok-kept-in-Narrowed.ensures.items)
