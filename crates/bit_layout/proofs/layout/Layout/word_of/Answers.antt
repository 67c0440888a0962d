use Rattle.std.proofs.Common.{◌<◌, length, refl, Vec, Global, Bool}
use Rattle.std.proofs.lemmas.Option.{slice_get_read}
use Rattle.std.proofs.lemmas.Result.{IfOk-weaker}
use Rattle.bit_layout.specs.Body.{state}
use Rattle.bit_layout.proofs.ValuesAt.{value_of_word, long_word, known_value, kind_value}
use Rattle.bit_layout.proofs.layout.Layout.word_of.Goals as goal

pub returns-clause-long : goal.returns-clause-long
returns-clause-long c =
    let l = state c.self.inside in
    let inside = rw (← c.self.view_is) at c.requires in
    let known : c.args.v.0 < length c.self.inside.kinds.items = known_value l c.args.v c.args.value.now inside in
    let at = slice_get_read c.self.inside.kinds.items _ c.args.v.0 c.index.result.now refl known c.index.ensures in
    rw (← c.self.view_is)
    (IfOk-weaker _ _ _ (λ (word : Vec Bool Global) is. long_word l c.args.v c.index.result.now c.args.value.now word.items at (kind_value l c.args.v c.index.result.now c.args.value.now at inside) is) c.word_of.ensures)

pub returns-clause-back : goal.returns-clause-back
returns-clause-back c =
    let l = state c.self.inside in
    let inside = rw (← c.self.view_is) at c.requires in
    let known : c.args.v.0 < length c.self.inside.kinds.items = known_value l c.args.v c.args.value.now inside in
    let at = slice_get_read c.self.inside.kinds.items _ c.args.v.0 c.index.result.now refl known c.index.ensures in
    rw (← c.self.view_is)
    (IfOk-weaker _ _ _ (λ (word : Vec Bool Global) is. value_of_word l c.args.v c.index.result.now c.args.value.now word.items at (kind_value l c.args.v c.index.result.now c.args.value.now at inside) is) c.word_of.ensures)
