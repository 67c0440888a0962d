use Rattle.std.proofs.Common.{rules, ◌↔◌, ℕ, ◌<◌, ℤ, length, sym, subst, ap, ◌∙◌, Some, true}
use Rattle.std.specs.Prelude.{IsTrue}
use Rattle.std.specs.Int.{w64}
use Rattle.std.specs.Prelude.{FitsSigned}
use Rattle.std.proofs.lemmas.Int.{to_z-of_z}
use Rattle.set_meaning.specs.declared.kinds.Kind.{Kind}
use Rattle.set_meaning.specs.declared.kinds.Value.TheVariants as value
use Rattle.set_meaning.specs.Kinds.{InKind}
use Rattle.log_checker.specs.Words.{IsFit, IsFitAt}
use Rattle.log_checker.proofs.AnswerLaws.{fits_bool, fits_set, fits_all}
use Rattle.log_checker.proofs.answers.kind_has_none.Goals as goal

pub all_fit-requires : goal.all_fit-requires
all_fit-requires c = record { kind = c.requires.kind ∙ ap Some c.in-Int.is }

pub returns-in-Bool : goal.returns-in-Bool
returns-in-Bool c = subst (λ (k : Kind). IsTrue true ↔ ((x : ℤ) → InKind k (value.Int x) → IsFit c.args.check.now.layout.now.kinds c.args.check.now.earlier.now.table c.args.o.0 c.args.node c.args.bound c.args.greatest x)) (sym c.in-Bool.is) (fits_bool (IsFit c.args.check.now.layout.now.kinds c.args.check.now.earlier.now.table c.args.o.0 c.args.node c.args.bound c.args.greatest))

pub returns-in_ok-yes-in-Int : goal.returns-in_ok-yes-in-Int
returns-in_ok-yes-in-Int c =
    let b : FitsSigned w64 c.args.bound = search rules in
    let test = subst (λ (z : ℤ). IsTrue c.in_ok-yes-in-Int.yes ↔ ((i : ℕ) → i < length c.in-Int.numbers → IsFitAt c.args.check.now.layout.now.kinds c.args.check.now.earlier.now.table c.args.o.0 c.args.node z c.args.greatest c.in-Int.numbers i))
    (to_z-of_z w64 c.args.bound b) c.in_ok-yes-in-Int.ensures in
    subst (λ (k : Kind). IsTrue c.in_ok-yes-in-Int.yes ↔ ((x : ℤ) → InKind k (value.Int x) → IsFit c.args.check.now.layout.now.kinds c.args.check.now.earlier.now.table c.args.o.0 c.args.node c.args.bound c.args.greatest x)) (sym c.in-Int.is)
    (fits_all c.args.check.now.layout.now.kinds c.args.check.now.earlier.now.table c.args.o.0 c.args.node c.args.bound c.args.greatest c.in-Int.numbers c.in_ok-yes-in-Int.yes test)

pub returns-in-Set : goal.returns-in-Set
returns-in-Set c = subst (λ (k : Kind). IsTrue true ↔ ((x : ℤ) → InKind k (value.Int x) → IsFit c.args.check.now.layout.now.kinds c.args.check.now.earlier.now.table c.args.o.0 c.args.node c.args.bound c.args.greatest x)) (sym c.in-Set.is) (fits_set _ (IsFit c.args.check.now.layout.now.kinds c.args.check.now.earlier.now.table c.args.o.0 c.args.node c.args.bound c.args.greatest))
