-- One answer is a list of answers.
use Rattle.std.proofs.Common.{◌≡◌, List, [], ◌∷◌, length, ℕ, refl, sym, ap, subst, ◌∙◌, inl, inr, arith, length-append}
use Rattle.std.proofs.lemmas.List.{append-nil}
use Rattle.set_meaning.specs.declared.kinds.Value.{Value}
use Rattle.set_meaning.specs.declared.problems.Problem.{Problem}
use Rattle.set_meaning.specs.Solutions.{IsAnswer, AreAnswers, CoverAll}
use Rattle.fzn_printer.specs.Block.{block}
use Rattle.solve_top.specs.Answers.{IsOutText}
use Rattle.solve_top.specs.Lines.{no_solution}

one_answer : (p : Problem) (v : List Value) → IsAnswer p [] v → AreAnswers p (v ∷ [])
unfolding AreAnswers
one_answer p v s [] after values e =
    let same : v ≡ values = cc in
    subst (IsAnswer p []) same s
one_answer p v s (b ∷ before) after values e = absurd (omega (arith, ap length e, length-append before (values ∷ after)))

-- the block of an answer
pub block_answers : (p : Problem) (v : List Value) (out : List ℕ) → IsAnswer p [] v → out ≡ block p v → IsOutText p out
block_answers p v out s e = inl ((v ∷ []), record { are = one_answer p v s; asked = refl; text = e ∙ sym (append-nil (block p v)) })

-- that there is none
pub no_solution_answers : (p : Problem) (out : List ℕ) → CoverAll p [] → out ≡ no_solution → IsOutText p out
no_solution_answers p out none e = inr (record { covered = none; text = e })
