use Rattle.std.proofs.Common.{true, refl}
use Rattle.fzn_model.proofs.TheObjective.{int_suits, large_suits}
use Rattle.fzn_model.proofs.objectives.is_integer_number.Goals as goal

pub returns-in-Int : goal.returns-in-Int
returns-in-Int c = int_suits c.args.num c.in-Int.field-0 c.in-Int.is true refl

pub returns-in-Large : goal.returns-in-Large
returns-in-Large c = large_suits c.args.num c.in-Large.is true refl
