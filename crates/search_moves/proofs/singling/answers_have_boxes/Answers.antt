use Rattle.std.proofs.Common.{◌∷◌, inl, inr}
use Rattle.std.proofs.lemmas.List.Elements.{All-cons, All-weaker}
use Rattle.search_moves.specs.Answers.{HasBox}
use Rattle.search_moves.proofs.singling.answers_have_boxes.Goals as goal

pub returns-clause-safe : goal.returns-clause-safe
returns-clause-safe g c answers answer b covers a solution within = inl (covers a solution within)

pub returns-clause-stored : goal.returns-clause-stored
returns-clause-stored g c answers boxes s have =
    let p = g.P.Rules.problem c.args.problem.now in
    All-weaker (HasBox p boxes) (HasBox p (s ∷ boxes)) (λ y h. record { sides = h.sides; stored = inr h.stored; holds = h.holds }) answers have

pub returns-clause-answered : goal.returns-clause-answered
returns-clause-answered g c answers boxes answer has have =
    All-cons (HasBox (g.P.Rules.problem c.args.problem.now) boxes) answer answers has have
