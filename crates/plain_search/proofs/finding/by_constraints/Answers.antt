use Rattle.std.proofs.Common.{ℕ, ◌<◌, List, [], subst, inl, inr, sym, arith}
use Rattle.std.proofs.lemmas.Bool.{cases_eq}
use Rattle.search_rules.specs.Problem.{IsLeft}
use Rattle.plain_steps.specs.Sets.{family}
use Rattle.plain_steps.specs.Task.{Plain, problem_of, IsSatisfiable}
use Rattle.plain_search.specs.Moves.{IsFound}
use Rattle.plain_search.specs.declared.finding.Found.{Found}
use Rattle.plain_search.proofs.FindLemmas.{found_other}
use Rattle.plain_search.proofs.finding.by_constraints.Goals as goal

-- the constraint's step leaves the family as it is, which has values that satisfy the constraint
abbrev IsStill : Plain → List (List ℕ) → ℕ → Type 0
IsStill p f c = IsLeft (problem_of p) c (family f) × IsSatisfiable p c f

pub returns-in_default : goal.returns-in_default
returns-in_default g c boxes =
    let p = g.T.Task.plain c.args.task.now in
    found_other p boxes (family c.args.family.now) (IsStill p c.args.family.now c.loop-constraint.constraint)
    ((k : ℕ) → k < p.count → IsStill p c.args.family.now k) c.in_ok-found.found c.in_default.not-Quiet (c.in_ok-found.ensures boxes)

pub loop-constraint-preserved : goal.loop-constraint-preserved
loop-constraint-preserved g c k lt =
    let p = g.T.Task.plain c.args.task.now in
    elim (cases_eq k c.loop-constraint.constraint) [
      | inl same ↦
          subst (λ (j : ℕ). IsStill p c.args.family.now j) (sym same)
          (subst (λ (found : Found). IsFound p [] (family c.args.family.now) (IsStill p c.args.family.now c.loop-constraint.constraint) found)
          c.in-Quiet.is (c.in_ok-found.ensures []))
      | inr apart ↦ let below : k < c.loop-constraint.constraint = omega arith in c.loop-constraint.invariant k below
    ]

pub returns : goal.returns
returns g c boxes k lt =
    let below : k < c.loop-constraint.constraint = omega (arith, c.count-constraint-end.ensures) in
    c.loop-constraint.invariant k below
