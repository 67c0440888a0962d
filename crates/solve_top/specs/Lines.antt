-- The lines of setsolve whose text depends on nothing (this project's own).
use Rattle.std.specs.Prelude.{ℕ, List, codes}

-- there is no solution
abbrev pub no_solution : List ℕ
no_solution = codes "=====UNSATISFIABLE=====\n"

abbrev pub usage_line : List ℕ
usage_line = codes "% usage: setsolve [--root] MODEL\n"

abbrev pub too_long_line : List ℕ
too_long_line = codes "% error: text too long\n"

abbrev pub not_built_line : List ℕ
not_built_line = codes "% error: not built yet\n"

abbrev pub read_fault_line : List ℕ
read_fault_line = codes "% read fault\n"

abbrev pub nodes_lines : List ℕ
nodes_lines = codes "=====UNKNOWN=====\n% limit nodes\n"

abbrev pub memory_lines : List ℕ
memory_lines = codes "=====UNKNOWN=====\n% memory\n"
