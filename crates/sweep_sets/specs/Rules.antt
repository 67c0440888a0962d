-- Relations of up to three sets, read element by element in ascending order by a small state. This project's own; the
-- order of sets is set_meaning's `IsBefore`, lexicographic on ascending lists.
use Rattle.std.specs.Prelude.{◌≡◌, ◌⊎◌, Bool, true, false, not, ◌&&◌, ◌||◌, if◌then◌else◌, ℤ, List, [], ◌∷◌}
use Rattle.std.proofs.Math.Bool.{beq}
use Rattle.bit_layout.specs.Words.{lists}
use Rattle.set_meaning.specs.Sets.{IsSubset, IsUnion, IsIntersection, IsDifference, IsSymmetricDifference, IsBefore}
use Rattle.sweep_sets.specs.declared.marks.Marks.{Marks}
use Rattle.sweep_sets.specs.declared.rules.Rule.{Rule}
use Rattle.sweep_sets.specs.declared.rules.Rule.TheVariants.{Equal, Subset, Superset, Union, Intersection, Difference, SymmetricDifference, Before, AtMost}
use Rattle.sweep_sets.specs.declared.rules.Progress.{Progress}
use Rattle.sweep_sets.specs.declared.rules.Progress.TheVariants.{Same, FirstHasMore, SecondHasMore, Settled}

-- ---- marks

-- an element that no set has
abbrev pub unmarked : Marks
unmarked = record { first = false; second = false; third = false }

-- what is marked by either
abbrev pub joined : Marks → Marks → Marks
joined m n = record { first = m.first || n.first; second = m.second || n.second; third = m.third || n.third }

-- these marks where the bit is true
abbrev pub when : Bool → Marks → Marks
when v m = if v then m else unmarked

-- which of three sets have x
abbrev pub marks_in : List ℤ → List ℤ → List ℤ → ℤ → Marks
marks_in a b c x = record { first = lists a x; second = lists b x; third = lists c x }

-- ---- what each relation says of three sets

abbrev pub Relates : Rule → List ℤ → List ℤ → List ℤ → Type 0
Relates Equal a b c = a ≡ b
Relates Subset a b c = IsSubset a b
Relates Superset a b c = IsSubset b a
Relates Union a b c = IsUnion a b c
Relates Intersection a b c = IsIntersection a b c
Relates Difference a b c = IsDifference a b c
Relates SymmetricDifference a b c = IsSymmetricDifference a b c
Relates Before a b c = IsBefore a b
Relates AtMost a b c = IsBefore a b ⊎ (a ≡ b)

-- ---- how each is read

-- whether an element that these sets have speaks for the relation
abbrev pub passes : Rule → Marks → Bool
passes Equal m = beq m.first m.second
passes Subset m = not m.first || m.second
passes Superset m = not m.second || m.first
passes Union m = beq m.third (m.first || m.second)
passes Intersection m = beq m.third (m.first && m.second)
passes Difference m = beq m.third (m.first && not m.second)
passes SymmetricDifference m = beq m.third (not (beq m.first m.second))
passes Before m = true
passes AtMost m = true

-- after an element that passes its test or does not
abbrev pub checked : Bool → Progress → Progress
checked passed Same = if passed then Same else Settled false
checked passed FirstHasMore = FirstHasMore
checked passed SecondHasMore = SecondHasMore
checked passed (Settled holds) = Settled holds

-- after one more element of a front that both sets have in common
abbrev pub parted : Bool → Bool → Progress
parted true true = Same
parted true false = FirstHasMore
parted false true = SecondHasMore
parted false false = Same

abbrev pub compared : Progress → Marks → Progress
compared Same m = parted m.first m.second
compared FirstHasMore m = if m.second then Settled true else FirstHasMore
compared SecondHasMore m = if m.first then Settled false else SecondHasMore
compared (Settled first_is_before) m = Settled first_is_before

-- after one more element, which these sets have
abbrev pub close : Rule → Progress → Marks → Progress
close Before q m = compared q m
close AtMost q m = compared q m
close rule q m = checked (passes rule m) q

-- whether equal sets are in the relation
abbrev pub holds_of_same : Rule → Bool
holds_of_same Before = false
holds_of_same rule = true

-- once all elements are read: a proper prefix is before the longer set
abbrev pub verdict : Rule → Progress → Bool
verdict rule Same = holds_of_same rule
verdict rule FirstHasMore = false
verdict rule SecondHasMore = true
verdict rule (Settled holds) = holds

-- what is known after these elements, in order
abbrev pub after : Rule → Progress → List Marks → Progress
after rule q [] = q
after rule q (m ∷ ms) = after rule (close rule q m) ms

-- whether the relation is found to hold of these elements
abbrev pub decided : Rule → List Marks → Bool
decided rule ms = verdict rule (after rule Same ms)
