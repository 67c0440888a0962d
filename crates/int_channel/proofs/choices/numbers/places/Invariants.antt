use Rattle.std.proofs.Common.{◌↔◌, ℤ, take, Contains}
use Rattle.int_channel.specs.Choices.{IsPlace}
use Rattle.int_channel.proofs.choices.numbers.places.Given as goal

abbrev pub invariant-loop-number : goal.invariant-loop-number
invariant-loop-number l = (n : ℤ) → Contains l.places.items n ↔ (Contains (take l.number-index l.numbers) n × IsPlace l.length n)
