-- The limits on sizes. This project's own.
use Rattle.std.specs.Prelude.{ℕ}

-- the most elements of the universe of a set variable
abbrev pub universe_limit : ℕ
universe_limit = 512

-- how far the greatest value of an integer variable may be above the least
abbrev pub span_limit : ℕ
span_limit = 65535

-- the most elements of a constant set
abbrev pub constant_set_limit : ℕ
constant_set_limit = 65536

-- the most elements of all constant sets in constraints, each occurrence counted
abbrev pub all_constant_sets_limit : ℕ
all_constant_sets_limit = 16777216

-- the largest size of an element of a universe or of a constant set
abbrev pub element_limit : ℕ
element_limit = 1000000

-- the most bits of the variables of one constraint
abbrev pub scope_limit : ℕ
scope_limit = 2048

-- the most bits of all variables, each counted as at least one
abbrev pub bit_limit : ℕ
bit_limit = 1048576

-- the most initial values of all integer variables together
abbrev pub value_limit : ℕ
value_limit = 67108864

-- the most constraints
abbrev pub constraint_limit : ℕ
constraint_limit = 100000

-- the most terms of all constraints together
abbrev pub term_limit : ℕ
term_limit = 4194304

-- the most dimensions of a shown array
abbrev pub dimension_limit : ℕ
dimension_limit = 6
