-- The first words of lines.
use Rattle.std.specs.Prelude.{List, ℕ, codes}
use Rattle.log_text.specs.declared.kind.Kind.{Kind}
use Rattle.log_text.specs.declared.kind.Kind.TheVariants as kinds

abbrev pub kind_word : Kind → List ℕ
kind_word kinds.Header = codes "setlog"
kind_word kinds.Node = codes "n"
kind_word kinds.Axiom = codes "a"
kind_word kinds.Answer = codes "s"
kind_word kinds.Resolvent = codes "r"
kind_word kinds.Learned = codes "k"
kind_word kinds.Close = codes "q"
kind_word kinds.End = codes "e"
