use Rattle.std.proofs.Common.{◌≡◌, ◌↔◌, ℤ, List, Vec, Global, Contains, Option, Some, None, [], rules, ap, sym, subst, ◌∙◌}
use Rattle.std.specs.Prelude.{IfOk, slice_get}
use Rattle.std.specs.Option.{option_map_or}
use Rattle.set_meaning.specs.declared.kinds.Kind.{Kind}
use Rattle.set_meaning.specs.declared.problems.Term.{Term}
use Rattle.set_meaning.specs.Sets.{Has}
use Rattle.int_channel.specs.Choices.{elements_of, elements_in}
use Rattle.int_channel.proofs.ChoiceLoops.{nothing_kept}
use Rattle.int_channel.proofs.choices.members.shared.Goals as goal

pub returns-in-Const : goal.returns-in-Const
returns-in-Const c =
    subst (λ (s : Term). IfOk c.shared_with_constant.result (λ (shared : Vec ℤ Global). (n : ℤ) → Contains shared.items n ↔ (Contains c.args.numbers.now n × Has (elements_of c.args.kinds.now s) n)))
    (sym c.in-Const.is) c.shared_with_constant.ensures

pub returns-in-Some : goal.returns-in-Some
returns-in-Some c =
    let kinds = c.args.kinds.now in
    let found : slice_get kinds c.in-Var.variable.0 ≡ Some c.in-Some.kind.now = sym c.in-Some.ensures in
    let same : elements_of kinds c.args.set.now ≡ elements_in c.in-Some.kind.now = ap (elements_of kinds) c.in-Var.is ∙ ap (λ (o : Option Kind). option_map_or elements_in o []) found in
    subst (λ (es : List ℤ). IfOk c.shared_with_kind.result (λ (shared : Vec ℤ Global). (n : ℤ) → Contains shared.items n ↔ (Contains c.args.numbers.now n × Has es n))) (sym same)
    c.shared_with_kind.ensures

pub returns-in-None : goal.returns-in-None
returns-in-None c =
    let kinds = c.args.kinds.now in
    let missing : slice_get kinds c.in-Var.variable.0 ≡ None = sym c.in-None.ensures in
    let same : elements_of kinds c.args.set.now ≡ [] = ap (elements_of kinds) c.in-Var.is ∙ ap (λ (o : Option Kind). option_map_or elements_in o []) missing in
    nothing_kept c.args.numbers.now (elements_of kinds c.args.set.now) c.new.result.items c.new.ensures.items same
