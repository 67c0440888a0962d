-- Words of private helpers; the meaning is in Limits.
use Rattle.std.specs.Prelude.{List, All}
use Rattle.set_meaning.specs.declared.kinds.Kind.{Kind}
use Rattle.set_meaning.specs.declared.problems.Term.{Term}
use Rattle.set_meaning.specs.declared.problems.Arg.{Arg}
use Rattle.set_meaning.specs.Relations.{terms_of}
use Rattle.set_meaning.specs.Rows.{IsTerm}
use Rattle.problem_limits.specs.Limits.{IsSmallTerm}

-- the term has some sort
unfoldable pub HasSomeSort : List Kind → Term → Type 0
HasSomeSort kinds t = IsTerm kinds t

-- the integer constants of the argument are small
unfoldable pub AreSmallIn : Arg → Type 0
AreSmallIn arg = All IsSmallTerm (terms_of arg)
