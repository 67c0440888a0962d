-- The line of a variable of a root family. The form is this project's own; values are printed as in an answer's block.
use Rattle.std.specs.Prelude.{ℕ, List, ◌++◌, codes}
use Rattle.std.specs.Fmt.{decimal}
use Rattle.set_meaning.specs.declared.problems.Bounds.{Bounds}
use Rattle.set_meaning.specs.declared.problems.Bounds.TheVariants as bounds
use Rattle.fzn_printer.specs.Block.{bool_text, range_text, set_text}

-- `LOW..HIGH`: the least and the greatest value, or the elements in every value and those in some value
abbrev pub bounds_text : Bounds → List ℕ
bounds_text (bounds.Bool least greatest) = bool_text least ++ codes ".." ++ bool_text greatest
bounds_text (bounds.Int least greatest) = range_text least greatest
bounds_text (bounds.Set every some) = set_text every ++ codes ".." ++ set_text some

-- `% root NAME LOW..HIGH nodes N`, and the end of the line
abbrev pub root_line : List ℕ → Bounds → ℕ → List ℕ
root_line name bounds nodes = codes "% root " ++ name ++ codes " " ++ bounds_text bounds ++ codes " nodes " ++ decimal nodes ++ codes "\n"
