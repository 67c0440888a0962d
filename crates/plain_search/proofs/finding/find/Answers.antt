use Rattle.std.proofs.Common.{ℕ, ◌<◌, Bool, List, [], subst}
use Rattle.std.proofs.lemmas.Result.{IfOk-weaker}
use Rattle.search_rules.specs.Box.{IsBoxSame}
use Rattle.search_rules.specs.Problem.{IsLeft}
use Rattle.search_rules.specs.Trail.{IsLearned, IsQuiet}
use Rattle.plain_steps.specs.Sets.{family}
use Rattle.plain_steps.specs.Task.{Plain, problem_of, IsSatisfiable}
use Rattle.plain_search.specs.State.{boxes_of}
use Rattle.plain_search.specs.Moves.{IsFound}
use Rattle.plain_search.specs.declared.finding.Found.{Found}
use Rattle.plain_search.proofs.FindLemmas.{found_other, found_more}
use Rattle.plain_search.proofs.finding.find.Goals as goal

-- each constraint's step leaves the family as it is, which has values that satisfy the constraint
abbrev AllStill : Plain → List (List ℕ) → Type 0
AllStill p f = (c : ℕ) → c < p.count → IsLeft (problem_of p) c (family f) × IsSatisfiable p c f

-- each learned box leaves the family as it is
abbrev BoxesSame : List (List (List ℕ)) → List (List ℕ) → Type 0
BoxesSame boxes f = (b : ℕ → ℕ → Bool) → IsLearned (boxes_of boxes) b → IsBoxSame b (family f)

abbrev AllQuiet : Plain → List (List (List ℕ)) → List (List ℕ) → Type 0
AllQuiet p boxes f = IsQuiet (problem_of p) (boxes_of boxes) (family f) × ((c : ℕ) → c < p.count → IsSatisfiable p c f)

pub returns-in-Quiet : goal.returns-in-Quiet
returns-in-Quiet g c =
    let p = g.T.Task.plain c.args.task.now in
    let still : AllStill p c.args.family.now =
    subst (λ (found : Found). IsFound p [] (family c.args.family.now) (AllStill p c.args.family.now) found) c.in-Quiet.is
    (c.in_ok-found.ensures []) in
    IfOk-weaker c.by_boxes.result
    (IsFound p (boxes_of c.args.boxes.now) (family c.args.family.now) (BoxesSame c.args.boxes.now c.args.family.now))
    (IsFound p (boxes_of c.args.boxes.now) (family c.args.family.now) (AllQuiet p c.args.boxes.now c.args.family.now))
    (found_more p (boxes_of c.args.boxes.now) (family c.args.family.now) (BoxesSame c.args.boxes.now c.args.family.now)
    (AllQuiet p c.args.boxes.now c.args.family.now)
    (λ same. (record { constraints = λ k lt. (still k lt).0; learned = same }, λ k lt. (still k lt).1)))
    c.by_boxes.ensures

pub returns-in_default : goal.returns-in_default
returns-in_default g c =
    let p = g.T.Task.plain c.args.task.now in
    found_other p (boxes_of c.args.boxes.now) (family c.args.family.now) (AllStill p c.args.family.now)
    (AllQuiet p c.args.boxes.now c.args.family.now) c.in_ok-found.found c.in_default.not-Quiet
    (c.in_ok-found.ensures (boxes_of c.args.boxes.now))
