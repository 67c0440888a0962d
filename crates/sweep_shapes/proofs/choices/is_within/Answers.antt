use Rattle.std.proofs.Common.{◌==◌, not, ◌||◌, ◌∙◌, List, Bool, ap}
use Rattle.std.specs.List.{list_all}
use Rattle.log_rules.specs.Tables.{walk}
use Rattle.log_rules.specs.Boxes.{side_of}
use Rattle.sweep_shapes.proofs.choices.is_within.Goals as goal

pub returns : goal.returns
unfolding side_of
returns c =
    c.accept_all-within.ensures
    ∙ ap (λ (word : List Bool). list_all (λ side. not (side.0 == c.args.v.0) || walk c.args.table.now side.1 word) c.args.sides.now) (c.as_slice.ensures.value ∙ c.in_ok-word.ensures.word)
