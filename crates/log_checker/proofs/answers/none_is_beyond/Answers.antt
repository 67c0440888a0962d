use Rattle.std.proofs.Common.{rules, ◌≡◌, ◌↔◌, ℕ, ℤ, ◌∙◌, ap, subst, Some, None}
use Rattle.std.specs.Prelude.{IsTrue, slice_get}
use Rattle.std.specs.Int.{w64}
use Rattle.std.specs.Prelude.{FitsSigned}
use Rattle.std.proofs.lemmas.Int.{to_z-of_z}
use Rattle.set_meaning.specs.declared.kinds.Value.TheVariants as value
use Rattle.set_meaning.specs.Kinds.{InKind}
use Rattle.log_checker.specs.Words.{IsFit, node_of}
use Rattle.log_checker.proofs.AnswerLaws.{none_beyond, no_kind}
use Rattle.log_checker.proofs.answers.none_is_beyond.Goals as goal

pub kind_has_none-requires : goal.kind_has_none-requires
kind_has_none-requires c = record {
  kind = ap (λ ks. slice_get ks c.args.o.0) c.requires.ready.layout ∙ subst (λ (n : ℕ). slice_get c.args.check.now.problem.now.kinds n ≡ Some c.in-Some.kind.now) c.from-v.ensures c.in-Some.ensures.some;
}

pub returns-in_ok-yes-in-Some : goal.returns-in_ok-yes-in-Some
returns-in_ok-yes-in-Some c =
    let b : FitsSigned w64 c.args.bound = search rules in
    none_beyond c.args.check.now.problem.now.kinds c.args.check.now.layout.now.kinds c.args.check.now.earlier.now.table (λ word. c.walks_go_to_children.ensures.everything c.args.check.now.earlier.now.table word) c.args.sides.now c.args.o c.node_of-node.result c.in-Some.kind.now c.args.bound c.args.greatest c.in_ok-yes-in-Some.yes
    c.requires.sides c.requires.ready.layout (subst (λ (n : ℕ). slice_get c.args.check.now.problem.now.kinds n ≡ Some c.in-Some.kind.now) c.from-v.ensures c.in-Some.ensures.some)
    (c.node_of-node.ensures ∙ ap (node_of c.args.sides.now) c.from-v.ensures)
    (subst (λ (z : ℤ). IsTrue c.in_ok-yes-in-Some.yes ↔ ((x : ℤ) → InKind c.in-Some.kind.now (value.Int x) → IsFit c.args.check.now.layout.now.kinds c.args.check.now.earlier.now.table c.args.o.0 c.node_of-node.result z c.args.greatest x))
    (to_z-of_z w64 c.args.bound b) c.in_ok-yes-in-Some.ensures)

pub returns-in-None : goal.returns-in-None
returns-in-None c = no_kind c.args.check.now.problem.now.kinds c.args.check.now.earlier.now.table c.args.sides.now c.args.o c.args.bound c.args.greatest (subst (λ (n : ℕ). slice_get c.args.check.now.problem.now.kinds n ≡ None) c.from-v.ensures c.in-None.ensures.none)
