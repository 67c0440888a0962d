-- How many bits are true, counted as they are read. This project's own.
use Rattle.std.specs.Prelude.{ℕ, ◌+◌, ◌==◌, if◌then◌else◌}
use Rattle.sweep_rules.specs.Rules.{Rules}

-- the automaton that accepts where just so many bits are true
abbrev pub count_rules : ℕ → Rules ℕ
count_rules size = record { start = 0; step = λ at q b. if b then q + 1 else q; accept = λ q. q == size }
