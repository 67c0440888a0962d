use Rattle.std.proofs.Common.{◌≡◌, ◌*ℤ◌, List, [], ◌∷◌, take}
use Rattle.set_meaning.specs.declared.kinds.Kind.{Kind}
use Rattle.int_channel.specs.Choices.{number_of_term, AreChoicesOf, IsOneOf}
use Rattle.int_channel.proofs.choices.products.multiples.Given as goal

abbrev pub invariant-loop-number : goal.invariant-loop-number
invariant-loop-number l = (kinds : List Kind)
    → AreChoicesOf kinds (l.a ∷ l.b ∷ l.c ∷ []) (IsOneOf l.a (take l.number-index l.numbers) (λ n values. (n *ℤ number_of_term values l.b) ≡ number_of_term values l.c)) l.branches.items
