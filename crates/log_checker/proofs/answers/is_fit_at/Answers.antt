use Rattle.std.proofs.Common.{rules, sym, ◌∙◌, ap, Some}
use Rattle.std.specs.Int.{w64}
use Rattle.std.specs.Prelude.{FitsSigned}
use Rattle.std.proofs.lemmas.Int.{to_z-of_z}
use Rattle.log_checker.proofs.AnswerLaws.{fit_here, fit_back, number_initial}
use Rattle.log_checker.proofs.answers.is_fit_at.Goals as goal

pub is_fit-requires : goal.is_fit-requires
is_fit-requires c =
    let x : FitsSigned w64 c.number_at-x.result = search rules in
    record { initial = number_initial c.args.check.now.layout.now.kinds c.args.o.0 c.args.numbers.now c.args.i _ c.requires.kind (c.number_at-x.ensures ∙ ap Some (sym (to_z-of_z w64 c.number_at-x.result x))) }

pub returns : goal.returns
returns c =
    let b : FitsSigned w64 c.args.bound = search rules in
    let x : FitsSigned w64 c.number_at-x.result = search rules in
    fit_here c.args.check.now.layout.now.kinds c.args.check.now.earlier.now.table c.args.o.0 c.args.node c.args.bound c.number_at-x.result c.args.greatest c.args.numbers.now c.args.i _ c.number_at-x.ensures
    (fit_back _ _ _ _ _ _ _ _ _ _ (to_z-of_z w64 c.args.bound b) (to_z-of_z w64 c.number_at-x.result x) c.in_ok-yes.ensures)
