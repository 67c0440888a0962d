-- What the reading of a text ends in: its problem, or the first fault of the first stage that has one. This project's
-- own.
use Rattle.std.specs.Prelude.{◌≡◌, ℕ, List, length, Result, Ok, Err, Some}
use Rattle.fzn_reader.specs.declared.tokens.Token.{Token}
use Rattle.fzn_reader.specs.Scan.{AreTokensOf, IsFirstLexFault}
use Rattle.fzn_parser.specs.declared.tree.Tree.{Tree}
use Rattle.fzn_parser.specs.Grammar.{Spells, signs}
use Rattle.fzn_parser.specs.Faults.{IsTreeOf, IsFirstSyntaxFault}
use Rattle.fzn_parser.specs.declared.faults.SyntaxFault.{SyntaxFault}
use Rattle.set_meaning.specs.declared.problems.Problem.{Problem}
use Rattle.fzn_model.specs.declared.faults.ModelFault.{ModelFault}
use Rattle.fzn_model.specs.declared.faults.FileFault.{FileFault}
use Rattle.fzn_model.specs.declared.faults.FileFault.TheVariants as faults
use Rattle.fzn_model.specs.ProblemOf.{problem_of}
use Rattle.fzn_model.specs.FaultsOf.{HasNoFault, IsFirstFault}

-- the tokens of the text spell the tree
pub record IsTreeOfText (text : List ℕ) (tree : Tree) : Type 0 where
  pub tokens : List Token
  pub scanned : AreTokensOf text tokens
  pub spelled : IsTreeOf (signs text tokens) tree

-- the tokens of some text spell the tree, however deep its annotations are
pub record IsSpelled (tree : Tree) : Type 0 where
  pub text : List ℕ
  pub tokens : List Token
  pub scanned : AreTokensOf text tokens
  pub spelled : Spells (signs text tokens) tree

-- a tree without faults, and its problem
pub record IsProblemOfTree (tree : Tree) (p : Problem) : Type 0 where
  pub faultless : HasNoFault tree
  pub problem : problem_of tree ≡ Some p

-- what a tree comes to: its problem, or its first fault
abbrev pub ComesTo : Tree → Result Problem ModelFault → Type 0
ComesTo tree (Ok p) = IsProblemOfTree tree p
ComesTo tree (Err fault) = IsFirstFault tree fault

-- the problem of a text
pub record IsProblemOf (text : List ℕ) (p : Problem) : Type 0 where
  pub tree : Tree
  pub spelled : IsTreeOfText text tree
  pub problem : IsProblemOfTree tree p

-- the text has tokens, and they have this syntax fault
pub record IsSyntaxFaultOf (text : List ℕ) (fault : SyntaxFault) : Type 0 where
  pub tokens : List Token
  pub scanned : AreTokensOf text tokens
  pub first : IsFirstSyntaxFault (length text) (signs text tokens) fault

-- the text has a tree, and it has this fault
pub record IsModelFaultOf (text : List ℕ) (fault : ModelFault) : Type 0 where
  pub tree : Tree
  pub spelled : IsTreeOfText text tree
  pub first : IsFirstFault tree fault

-- the first fault of a text. Want of memory is no fault of a text
abbrev pub IsFaultOf : List ℕ → FileFault → Type 0
IsFaultOf text (faults.Lex fault) = IsFirstLexFault text fault
IsFaultOf text (faults.Syntax fault) = IsSyntaxFaultOf text fault
IsFaultOf text (faults.Model fault) = IsModelFaultOf text fault
IsFaultOf text faults.Memory = ⊥

-- what the reading of a text ends in
abbrev pub EndsIn : List ℕ → Result Problem FileFault → Type 0
EndsIn text (Ok p) = IsProblemOf text p
EndsIn text (Err fault) = IsFaultOf text fault
