use Rattle.std.proofs.Common.{◌≡◌, ℤ, pos, List, [], ◌∷◌, get_or, rules, to_z, of_z, FitsSigned, w64, sym, subst}
use Rattle.std.proofs.lemmas.Int.{to_z-of_z}
use Rattle.std.proofs.lemmas.List.Elements.{All-get_or}
use Rattle.set_meaning.specs.declared.kinds.Value.{Value}
use Rattle.int_channel.specs.Choices.{MayHave, TermHas}
use Rattle.int_channel.proofs.ChoiceLoops.{one_choice_more, all_choices}
use Rattle.int_channel.proofs.choices.members.members.Goals as goal

pub member-requires-clause-may : goal.member-requires-clause-may
member-requires-clause-may c =
    let numbers = c.args.numbers.now in
    let i = c.loop-number.number-index in
    let n = get_or numbers i (pos 0) in
    let fits : FitsSigned w64 n = search rules in
    let M : ℤ → Type 0 = λ n. MayHave c.args.kinds.now n c.args.set.now in
    subst M (sym (to_z-of_z w64 n fits)) (All-get_or M numbers i (pos 0) c.loop-number-test.true c.requires.may)

pub loop-number-preserved : goal.loop-number-preserved
loop-number-preserved c =
    let term = c.args.term.now in
    let set = c.args.set.now in
    let numbers = c.args.numbers.now in
    let i = c.loop-number.number-index in
    let n = get_or numbers i (pos 0) in
    let fits : FitsSigned w64 n = search rules in
    let Q : ℤ → List Value → Type 0 = λ n values. TermHas values set n in
    one_choice_more c.args.kinds.now (term ∷ set ∷ []) term numbers Q i (to_z w64 (of_z w64 n)) c.loop-number.branches.items c.push.new.self.items c.in_ok-member.field-0 c.loop-number-test.true
    (to_z-of_z w64 n fits) c.in_ok-push.ensures.items c.loop-number.invariant c.in_ok-member.ensures

pub returns : goal.returns
returns c =
    let set = c.args.set.now in
    let Q : ℤ → List Value → Type 0 = λ n values. TermHas values set n in
    all_choices c.args.kinds.now (c.args.term.now ∷ set ∷ []) c.args.term.now c.args.numbers.now Q c.loop-number.number-index c.loop-number.branches.items c.loop-number-test.false c.loop-number.invariant
