use Rattle.std.proofs.Common.{◌↔◌, ℤ, take, Contains}
use Rattle.set_meaning.specs.Sets.{Has}
use Rattle.int_channel.proofs.choices.members.shared_with_set.Given as goal

abbrev pub invariant-loop-number : goal.invariant-loop-number
invariant-loop-number l = (n : ℤ) → Contains l.shared.items n ↔ (Contains (take l.number-index l.numbers) n × Has l.set n)
