use Rattle.std.proofs.Common.{List, [], ◌∷◌, ◌++◌, take, map}
use Rattle.set_meaning.specs.declared.kinds.Kind.{Kind}
use Rattle.set_meaning.specs.Elements.{IsItem}
use Rattle.int_channel.specs.Choices.{number_of_term, AreChoicesOf, IsOneOf}
use Rattle.int_channel.proofs.choices.elements.items_at.Given as goal

abbrev pub invariant-loop-number : goal.invariant-loop-number
invariant-loop-number l = (kinds : List Kind)
    → AreChoicesOf kinds (l.place ∷ l.items ++ l.item ∷ []) (IsOneOf l.place (take l.number-index l.places) (λ n values. IsItem n (map (number_of_term values) l.items) (number_of_term values l.item))) l.branches.items
