-- The words of a variable's initial values, read bit by bit. An integer's word is its offset from the least value in binary, so the offsets
-- that begin with the digits read so far follow each other; once all of them are listed, or none is, no digit matters any more. This
-- project's own.
use Rattle.std.specs.Prelude.{◌≡◌, ℕ, ◌+◌, ◌-◌, ◌*◌, ◌^◌, ◌≤◌, ◌==◌, nat_lt, Bool, true, false, cond, List, [], ◌∷◌, map, IsTrue, ◌↔◌, ⊤}
use Rattle.set_meaning.specs.declared.kinds.Kind.{Kind}
use Rattle.set_meaning.specs.declared.kinds.Kind.TheVariants as kind
use Rattle.bit_layout.specs.Words.{IsValueOf, distance, least}
use Rattle.sweep_rules.specs.Rules.{Rules}
use Rattle.sweep_values.specs.declared.part.Part.{Part}
use Rattle.sweep_values.specs.declared.part.Part.TheVariants.{Every, Partly, Nothing}

-- how many of the numbers are below k
abbrev pub below : List ℕ → ℕ → ℕ
below [] k = 0
below (x ∷ xs) k = cond (nat_lt x k) 1 0 + below xs k

-- which of the offsets that begin with these digits are listed, where so many digits are to come, and n of the offsets are
abbrev pub by_count : ℕ → ℕ → ℕ → Part
by_count count n prefix = cond (n == count) Every (cond (n == 0) Nothing (Partly prefix))

abbrev pub settle : List ℕ → ℕ → ℕ → Part
settle offsets left prefix = by_count (2 ^ left) (below offsets (prefix * 2 ^ left + 2 ^ left) - below offsets (prefix * 2 ^ left)) prefix

abbrev pub step_of : List ℕ → ℕ → ℕ → Part → Bool → Part
step_of offsets width at (Partly prefix) b = settle offsets (width - (at + 1)) (2 * prefix + cond b 1 0)
step_of offsets width at Every b = Every
step_of offsets width at Nothing b = Nothing

abbrev pub is_every : Part → Bool
is_every Every = true
is_every (Partly prefix) = false
is_every Nothing = false

-- The shape of the words of so many bits: all, or those whose number is listed.
abbrev pub domain_rules : List ℕ → ℕ → Bool → Rules Part
domain_rules offsets width free = record { start = cond free Every (settle offsets width 0); step = step_of offsets width; accept = is_every }

-- each number is below those after it
abbrev pub IsBelowAll : ℕ → List ℕ → Type 0
IsBelowAll x [] = ⊤
IsBelowAll x (y ∷ ys) = (nat_lt x y ≡ true) × IsBelowAll x ys

abbrev pub Rises : List ℕ → Type 0
Rises [] = ⊤
Rises (x ∷ xs) = IsBelowAll x xs × Rises xs

-- the offsets of an integer variable's values; none for the other kinds
abbrev pub offsets_of : Kind → List ℕ
offsets_of kind.Bool = []
offsets_of (kind.Int numbers) = map (distance (least numbers)) numbers
offsets_of (kind.Set universe) = []

-- whether each word is that of an initial value
abbrev pub is_free : Kind → Bool
is_free kind.Bool = true
is_free (kind.Int numbers) = false
is_free (kind.Set universe) = true

-- the digits read so far and any that are to come are at most 16
abbrev pub OccursAt : ℕ → ℕ → Part → Type 0
OccursAt width at (Partly prefix) = (prefix + 1) * 2 ^ (width - at) ≤ 2 ^ 16
OccursAt width at Every = ⊤
OccursAt width at Nothing = ⊤
