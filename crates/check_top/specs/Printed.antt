-- The lines that a check prints (this project's own).
use Rattle.std.specs.Prelude.{ℕ, List, ◌++◌, codes}
use Rattle.std.specs.Fmt.{decimal}
use Rattle.log_rules.specs.declared.reasons.Reason.{Reason}
use Rattle.log_rules.specs.declared.reasons.End.{End}
use Rattle.log_rules.specs.declared.reasons.End.TheVariants.{Complete, Open}
use Rattle.log_rules.specs.Numbers.{number_of}

abbrev pub usage_line : List ℕ
usage_line = codes "% usage: setcheck MODEL LOG\n"

abbrev pub read_fault_line : List ℕ
read_fault_line = codes "% read fault\n"

abbrev pub memory_line : List ℕ
memory_line = codes "% memory\n"

abbrev pub end_word : End → List ℕ
end_word Complete = codes "complete"
end_word Open = codes "open"

unfoldable pub accepted_head : End → List ℕ
accepted_head end = codes "% accepted " ++ end_word end ++ codes " answers "

unfoldable pub refused_words : List ℕ
refused_words = codes "% refused line "

unfoldable pub refused_head : ℕ → List ℕ
refused_head number = refused_words ++ decimal number

unfoldable pub reason_part : Reason → List ℕ
reason_part r = codes " reason " ++ decimal (number_of r)

-- `% accepted complete answers 3`
unfoldable pub accepted_line : End → ℕ → List ℕ
accepted_line end answers = accepted_head end ++ decimal answers ++ codes "\n"

-- `% refused line 15 reason 6`
unfoldable pub refused_line : ℕ → Reason → List ℕ
refused_line number r = refused_head number ++ reason_part r ++ codes "\n"
