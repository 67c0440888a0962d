-- Which of two sets is before the other, read element by element. This project's own order of sets, lexicographic on their ascending
-- lists, is set_meaning's `IsBefore`.
use Rattle.std.specs.Prelude.{◌≡◌, ◌⊎◌, Bool, true, false, ℤ, List, if◌then◌else◌}
use Rattle.set_meaning.specs.Sets.{IsBefore}
use Rattle.element_machine.specs.declared.marks.Marks.{Marks}
use Rattle.element_machine.specs.Rules.{ElementRules}
use Rattle.set_shapes.specs.declared.progress.Progress.{Progress}
use Rattle.set_shapes.specs.declared.progress.Progress.TheVariants.{Same, FirstHasMore, SecondHasMore, Settled}

-- a is before b, or they are equal and this is allowed
abbrev pub in_order : Bool → List ℤ → List ℤ → Type 0
in_order true a b = IsBefore a b ⊎ (a ≡ b)
in_order false a b = IsBefore a b

-- after one more element of a front that both sets have in common
abbrev pub parted : Bool → Bool → Progress
parted true true = Same
parted true false = FirstHasMore
parted false true = SecondHasMore
parted false false = Same

abbrev pub compare_next : Progress → Marks → Progress
compare_next Same m = parted m.first m.second
compare_next FirstHasMore m = if m.second then Settled true else FirstHasMore
compare_next SecondHasMore m = if m.first then Settled false else SecondHasMore
compare_next (Settled first_is_before) m = Settled first_is_before

-- once all elements are read: equal sets are in order where this is allowed, and a proper prefix is before the longer set
abbrev pub in_order_after : Bool → Progress → Bool
in_order_after equal Same = equal
in_order_after equal FirstHasMore = false
in_order_after equal SecondHasMore = true
in_order_after equal (Settled first_is_before) = first_is_before

abbrev pub compared : Bool → ElementRules Progress
compared equal = record { start = Same; close = compare_next; accept = in_order_after equal }
