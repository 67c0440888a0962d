-- Machines that read some of the bits, and pass over the others. This project's own.
use Rattle.std.specs.Prelude.{ℕ, ◌+◌, ◌==◌, Bool, List, [], ◌∷◌, Option, Some, None, slice_get, if◌then◌else◌}
use Rattle.bit_machine.specs.Rules.{Rules}

-- for each bit its place among those that are read, which are numbered from j on; both lists ascend
abbrev pub places_among : ℕ → List ℕ → List ℕ → List (Option ℕ)
places_among j own [] = []
places_among j [] (b ∷ bits) = None ∷ places_among j [] bits
places_among j (r ∷ own) (b ∷ bits) = if b == r then Some j ∷ places_among (j + 1) own bits else None ∷ places_among j (r ∷ own) bits

-- the place of a bit, where it is the first of those that are read after j of them, and how many have been met after it
abbrev pub met : ℕ → Option ℕ → ℕ → Option ℕ × ℕ
met j None b = (None, j)
met j (Some r) b = if b == r then (Some j, j + 1) else (None, j)

-- the state after a bit that has this place among those that are read, or none
abbrev pub step_by : {Q : Type 0} → Rules Q → Option (Option ℕ) → Q → Bool → Q
step_by rules (Some (Some place)) q v = rules.step place q v
step_by rules (Some None) q v = q
step_by rules None q v = q

-- the machine that reads those of its bits that have a place, and passes over the others
abbrev pub passing : {Q : Type 0} → List (Option ℕ) → Rules Q → Rules Q
passing places rules = record { start = rules.start; step = λ at q v. step_by rules (slice_get places at) q v; accept = rules.accept }
