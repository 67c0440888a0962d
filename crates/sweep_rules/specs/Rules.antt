-- How a relation is read bit by bit, over plain values: a deterministic finite automaton (Rabin and Scott, 1959) whose step may
-- differ from place to place.
use Rattle.std.specs.Prelude.{ℕ, ◌+◌, ◌-◌, nat_lt, nat_le, Bool, ◌&&◌, if◌then◌else◌, List, [], ◌∷◌}

-- the state at the start, the state after the bit at a place, and which states accept at the end
pub record Rules (Q : Type 0) : Type 0 where
  pub start : Q
  pub step : ℕ → Q → Bool → Q
  pub accept : Q → Bool

-- the state after these bits are read, the first of them at place `at`
abbrev pub run : {Q : Type 0} → Rules Q → ℕ → Q → List Bool → Q
run rules at q [] = q
run rules at q (b ∷ bs) = run rules (at + 1) (rules.step at q b) bs

-- whether these bits, all that there are, are accepted
abbrev pub accepts : {Q : Type 0} → Rules Q → List Bool → Bool
accepts rules bits = rules.accept (run rules 0 rules.start bits)

-- two side by side, which accept where both do
abbrev pub both : {P Q : Type 0} → Rules P → Rules Q → Rules (P × Q)
both first second = record {
  start = (first.start, second.start);
  step = λ at q b. (first.step at q.0 b, second.step at q.1 b);
  accept = λ q. first.accept q.0 && second.accept q.1;
}

-- whether a place is one of `long` from `skip` on
abbrev pub is_in_span : ℕ → ℕ → ℕ → Bool
is_in_span skip long at = nat_le skip at && nat_lt (at - skip) long

-- one that reads a span of the bits, `long` from place `skip` on, and passes over the others
abbrev pub span_of : {Q : Type 0} → ℕ → ℕ → Rules Q → Rules Q
span_of skip long rules = record {
  start = rules.start;
  step = λ at q b. if is_in_span skip long at then rules.step (at - skip) q b else q;
  accept = rules.accept;
}
