use Rattle.std.proofs.Common.{[], ◌∷◌, take}
use Rattle.int_channel.specs.Choices.{AreChoicesOf, IsOneOf, TermHas}
use Rattle.int_channel.proofs.choices.members.members.Given as goal

abbrev pub invariant-loop-number : goal.invariant-loop-number
invariant-loop-number l = AreChoicesOf l.kinds (l.term ∷ l.set ∷ []) (IsOneOf l.term (take l.number-index l.numbers) (λ n values. TermHas values l.set n)) l.branches.items
