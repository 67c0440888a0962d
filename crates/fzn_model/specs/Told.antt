-- What is told of a text that has no problem, by the fault of the stage that found it. Words of private helpers.
use Rattle.std.specs.Prelude.{◌≡◌, ◌⊎◌, ℕ, Bool, true, false, if◌then◌else◌, List}
use Rattle.fzn_reader.specs.declared.lexer.LexFault.{LexFault}
use Rattle.fzn_reader.specs.declared.lexer.LexFault.TheVariants as lexical
use Rattle.fzn_parser.specs.declared.faults.SyntaxFault.{SyntaxFault}
use Rattle.fzn_parser.specs.declared.faults.SyntaxFault.TheVariants as syntaxes
use Rattle.fzn_model.specs.declared.faults.ModelFault.{ModelFault}
use Rattle.fzn_model.specs.declared.faults.ModelFault.TheVariants as models
use Rattle.fzn_model.specs.declared.faults.FileFault.{FileFault}
use Rattle.fzn_model.specs.declared.faults.FileFault.TheVariants as faults
use Rattle.fzn_model.specs.Printed.{StandsIn}
use Rattle.fzn_model.specs.Files.{IsFaultOf}

-- want of memory, or the first fault of the text, which stands in it or at its end
abbrev pub IsTold : List ℕ → FileFault → Type 0
IsTold text fault = (fault ≡ faults.Memory) ⊎ (IsFaultOf text fault × StandsIn text fault)

abbrev pub is_lexical_memory : LexFault → Bool
is_lexical_memory lexical.Memory = true
is_lexical_memory _ = false

abbrev pub is_syntax_memory : SyntaxFault → Bool
is_syntax_memory syntaxes.Memory = true
is_syntax_memory _ = false

abbrev pub is_model_memory : ModelFault → Bool
is_model_memory models.Memory = true
is_model_memory _ = false

-- want of memory of a stage is that of the whole
abbrev pub of_lexical : LexFault → FileFault
of_lexical fault = if is_lexical_memory fault then faults.Memory else faults.Lex fault

abbrev pub of_syntax : SyntaxFault → FileFault
of_syntax fault = if is_syntax_memory fault then faults.Memory else faults.Syntax fault

abbrev pub of_model : ModelFault → FileFault
of_model fault = if is_model_memory fault then faults.Memory else faults.Model fault
