-- Machines that read the bits of a word one after another, over plain values: finite automata whose step may
-- differ from place to place. This project's own; a diagram whose levels are the places is Bryant's (1986).
use Rattle.std.specs.Prelude.{ℕ, ◌+◌, ◌==◌, Bool, false, not, if◌then◌else◌, List, [], ◌∷◌}
use Rattle.diagram_arena.specs.Table.{Word, Words}

-- the state at the start, the state after the bit at a place, and which states accept at the end
pub record Rules (Q : Type 0) : Type 0 where
  pub start : Q
  pub step : ℕ → Q → Bool → Q
  pub accept : Q → Bool

-- the state after the word's bits of a list are read in order, the first of them at place `at`
abbrev pub run : {Q : Type 0} → Rules Q → ℕ → Q → List ℕ → Word → Q
run rules at q [] w = q
run rules at q (b ∷ bs) w = run rules (at + 1) (rules.step at q (w b)) bs w

-- the words that are accepted once their bits of the list are read
abbrev pub accepts : {Q : Type 0} → Rules Q → List ℕ → Words
accepts rules bits = λ w. rules.accept (run rules 0 rules.start bits w)

-- two machines side by side (their product), which accept by what each would answer
abbrev pub side_by_side : {P Q : Type 0} → (Bool → Bool → Bool) → Rules P → Rules Q → Rules (P × Q)
side_by_side join first second = record {
  start = (first.start, second.start);
  step = λ at q v. (first.step at q.0 v, second.step at q.1 v);
  accept = λ q. join (first.accept q.0) (second.accept q.1);
}

-- the complement of a machine, which accepts what it does not
abbrev pub complemented : {Q : Type 0} → Rules Q → Rules Q
complemented rules = record { start = rules.start; step = rules.step; accept = λ q. not (rules.accept q) }

-- a machine that accepts where the bit at one place is true
abbrev pub bit_at : ℕ → Rules Bool
bit_at place = record { start = false; step = λ at q v. if at == place then v else q; accept = λ q. q }

-- the most bits that the scope of a constraint may have
abbrev pub most_bits : ℕ
most_bits = 2048
