-- The first syntax fault of tokens; this project's own.
use Rattle.std.specs.Prelude.{◌≡◌, ℕ, ◌≤◌, List, [], ◌∷◌, ◌++◌, Some, Result, Ok, Err}
use Rattle.fzn_parser.specs.declared.faults.What.{What}
use Rattle.fzn_parser.specs.declared.faults.SyntaxFault.{SyntaxFault}
use Rattle.fzn_parser.specs.declared.faults.SyntaxFault.TheVariants as faults
use Rattle.fzn_parser.specs.declared.tree.Tree.{Tree}
use Rattle.fzn_parser.specs.Grammar.{Sign, Spells}
use Rattle.fzn_parser.specs.ToCome.{Part, to_come, expected, nesting}

-- the tokens spell some tree
pub record IsModel (xs : List Sign) : Type 0 where
  pub tree : Tree
  pub spelled : Spells xs tree

-- some list of tokens that starts with these is a model
pub record BeginsModel (xs : List Sign) : Type 0 where
  pub more : List Sign
  pub model : IsModel (xs ++ more)

-- no more than 100 brackets of annotations are ever open
abbrev pub IsShallow : List Sign → Type 0
IsShallow xs = (front back : List Sign) → xs ≡ front ++ back → nesting front ≤ 100

-- a token with those before and behind it
pub record IsSplit (xs before : List Sign) (x : Sign) : Type 0 where
  pub behind : List Sign
  pub is : xs ≡ before ++ x ∷ behind

-- the first token with which the tokens so far begin no model, and what is expected there
pub record IsUnexpected (xs : List Sign) (at : ℕ) (what : What) : Type 0 where
  pub before : List Sign
  pub x : Sign
  pub split : IsSplit xs before x
  pub place : at ≡ x.at
  pub begins : BeginsModel before
  pub ends : BeginsModel (before ++ x ∷ []) → ⊥
  pub shallow : IsShallow before
  pub rest : List Part
  pub left_open : to_come before ≡ Some rest
  pub named : what ≡ expected rest

-- the tokens begin a model and are none
pub record IsCut (xs : List Sign) : Type 0 where
  pub begins : BeginsModel xs
  pub none : IsModel xs → ⊥
  pub shallow : IsShallow xs

-- the first bracket of an annotation that is the 101st open one
pub record IsTooDeep (xs : List Sign) (at : ℕ) : Type 0 where
  pub before : List Sign
  pub x : Sign
  pub split : IsSplit xs before x
  pub place : at ≡ x.at
  pub begins : BeginsModel (before ++ x ∷ [])
  pub shallow : IsShallow before
  pub deep : nesting (before ++ x ∷ []) ≡ 101

-- the first fault of these tokens of a text of n bytes. Want of memory is no fault of a text.
abbrev pub IsFirstSyntaxFault : ℕ → List Sign → SyntaxFault → Type 0
IsFirstSyntaxFault n xs (faults.Expected at what) = IsUnexpected xs at what
IsFirstSyntaxFault n xs (faults.EndOfFile at) = (at ≡ n) × IsCut xs
IsFirstSyntaxFault n xs (faults.TooDeep at) = IsTooDeep xs at
IsFirstSyntaxFault n xs faults.Memory = ⊥

-- the tokens spell this tree, and no annotation in it is too deep
pub record IsTreeOf (xs : List Sign) (tree : Tree) : Type 0 where
  pub spelled : Spells xs tree
  pub shallow : IsShallow xs

-- what the parse of these tokens ends in: the tree, or the first fault
abbrev pub ParseEndsIn : ℕ → List Sign → Result Tree SyntaxFault → Type 0
ParseEndsIn n xs (Ok tree) = IsTreeOf xs tree
ParseEndsIn n xs (Err fault) = IsFirstSyntaxFault n xs fault
