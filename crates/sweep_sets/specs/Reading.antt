-- How the bits of elements are read one by one: each bit has an entry, which says into which sets it puts its element
-- where it is true, and the number of that element; the bits of one element follow each other. This project's own.
use Rattle.std.specs.Prelude.{ℕ, ◌+◌, ◌-◌, ◌<◌, ◌≤◌, ◌==◌, ◌&&◌, Bool, List, [], ◌∷◌, take, drop, length, slice_index_or, ⊤}
use Rattle.std.proofs.Math.Bool.{beq}
use Rattle.sweep_rules.specs.Rules.{Rules}
use Rattle.sweep_sets.specs.declared.marks.Marks.{Marks}
use Rattle.sweep_sets.specs.declared.rules.Rule.{Rule}
use Rattle.sweep_sets.specs.declared.rules.Progress.TheVariants.{Same}
use Rattle.sweep_sets.specs.declared.reading.Entry.{Entry}
use Rattle.sweep_sets.specs.declared.reading.Seen.{Seen}
use Rattle.sweep_sets.specs.Rules.{unmarked, joined, when, close, after, verdict}

-- ---- what bits say

-- the element of the first bit; where there are no more bits, the end
abbrev pub first_element : ℕ → List Entry → ℕ
first_element end [] = end
first_element end (e ∷ es) = e.element

-- elements never fall from bit to bit, and each is before the end
abbrev pub AreGrouped : ℕ → List Entry → Type 0
AreGrouped end [] = ⊤
AreGrouped end (e ∷ es) = (e.element < end) × (e.element ≤ first_element end es) × AreGrouped end es

-- into which sets these bits put the element number j
abbrev pub marked : List Entry → List Bool → ℕ → Marks
marked (e ∷ es) (b ∷ bs) j = joined (when ((e.element == j) && b) e.marks) (marked es bs j)
marked _ _ j = unmarked

-- for each element from number j on which sets have it: by their constants, and by what is seen
abbrev pub elements_from : (ℕ → Marks) → ℕ → List Marks → List Marks
elements_from seen j [] = []
elements_from seen j (c ∷ cs) = joined (seen j) c ∷ elements_from seen (j + 1) cs

-- for each element which sets have it: those whose constant has it, and those into which the bits put it
abbrev pub elements_of : List Marks → List Entry → List Bool → List Marks
elements_of constants entries bits = elements_from (marked entries bits) 0 constants

-- ---- how they are read

-- once the elements with these constants are closed
abbrev pub closed : Rule → Seen → List Marks → Seen
closed rule q [] = q
closed rule q (c ∷ cs) =
    record { progress = after rule (close rule q.progress (joined q.marks c)) cs; marks = unmarked }

-- the elements with numbers from `from` to before `to`
abbrev pub between : List Marks → ℕ → ℕ → List Marks
between constants from to = take (to - from) (drop from constants)

abbrev pub no_entry : Entry
no_entry = record { marks = unmarked; element = 0 }

-- after a bit with this entry, before bits with those: what is seen of an element is gathered, and after its last bit
-- it is closed, and with it the elements up to that of the next bit, which have no bits
abbrev pub step_as : Rule → List Marks → Entry → List Entry → Seen → Bool → Seen
step_as rule constants e next q b =
    closed rule record { progress = q.progress; marks = joined q.marks (when b e.marks) }
    (between constants e.element (first_element (length constants) next))

-- before any bit: the elements before the first one that has bits are closed
abbrev pub started : Rule → List Marks → List Entry → Seen
started rule constants entries =
    closed rule record { progress = Same; marks = unmarked } (between constants 0 (first_element (length constants) entries))

-- the automaton that reads the bits and accepts where the rule's verdict is the truth value that is asked, as it steps;
-- what it accepts is said by `IsExact`
abbrev pub by_elements : Rule → Bool → List Marks → List Entry → Rules Seen
by_elements rule truth constants entries = record {
  start = started rule constants entries;
  step = λ at q b. step_as rule constants (slice_index_or entries at no_entry) (drop (at + 1) entries) q b;
  accept = λ q. beq (verdict rule q.progress) truth;
}
