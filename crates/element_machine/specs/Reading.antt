-- How the bits of elements are read one by one: a table says for each bit which sets have its element where the bit is true, and the
-- number of the element. This project's own.
use Rattle.std.specs.Prelude.{◌≡◌, ℕ, ◌+◌, ◌-◌, ◌<◌, ◌≤◌, ◌==◌, ◌&&◌, List, [], ◌∷◌, length, take, drop, slice_index_or, ⊤}
use Rattle.diagram_arena.specs.Table.{Word}
use Rattle.bit_machine.specs.Rules.{Rules}
use Rattle.element_machine.specs.declared.marks.Marks.{Marks}
use Rattle.element_machine.specs.declared.marks.Entry.{Entry}
use Rattle.element_machine.specs.Rules.{unmarked, joined, when, ElementRules, after}

-- the element of the first bit; where there are no more bits, the end
abbrev pub first_element : ℕ → List Entry → ℕ
first_element end [] = end
first_element end (e ∷ es) = e.element

-- elements never fall from bit to bit, and each is before the end
abbrev pub AreGrouped : ℕ → List Entry → Type 0
AreGrouped end [] = ⊤
AreGrouped end (e ∷ es) = (e.element < end) × (e.element ≤ first_element end es) × AreGrouped end es

-- which sets a word puts the element number j into, by its bits
abbrev pub marked : List Entry → List ℕ → Word → ℕ → Marks
marked (e ∷ es) (b ∷ bs) w j = joined (when ((e.element == j) && w b) e.marks) (marked es bs w j)
marked _ _ w j = unmarked

-- for each element from number j on which sets have it: by their constants, and by what is seen
abbrev pub elements_from : (ℕ → Marks) → ℕ → List Marks → List Marks
elements_from seen j [] = []
elements_from seen j (c ∷ cs) = joined (seen j) c ∷ elements_from seen (j + 1) cs

-- for each element which sets have it: those whose constant has it, and those into which the word puts it
abbrev pub elements_of : List Marks → List Entry → List ℕ → Word → List Marks
elements_of constants entries bits w = elements_from (marked entries bits w) 0 constants

-- the state, and what is seen of the next element, once the elements with these constants are closed
abbrev pub closed : {Q : Type 0} → ElementRules Q → Q → Marks → List Marks → Q × Marks
closed rules q seen [] = (q, seen)
closed rules q seen (c ∷ cs) = (after rules (rules.close q (joined seen c)) cs, unmarked)

-- the elements with numbers from `from` to before `to`
abbrev pub between : List Marks → ℕ → ℕ → List Marks
between constants from to = take (to - from) (drop from constants)

abbrev pub no_entry : Entry
no_entry = record { marks = unmarked; element = 0 }

-- the machine that reads the bits, as it steps; what it accepts is said by `elements_of` and the law that stands over both. It gathers what is seen of an element, and closes the element after its last bit, and with it the
-- elements up to that of the next bit, which have no bits
abbrev pub by_elements : {Q : Type 0} → ElementRules Q → List Marks → List Entry → Rules (Q × Marks)
by_elements rules constants entries = record {
  start = closed rules rules.start unmarked (between constants 0 (first_element (length constants) entries));
  step = λ at q v. let e = slice_index_or entries at no_entry in closed rules q.0 (joined q.1 (when v e.marks)) (between constants e.element (first_element (length constants) (drop (at + 1) entries)));
  accept = λ q. rules.accept q.0;
}
