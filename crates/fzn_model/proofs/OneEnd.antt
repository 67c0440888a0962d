-- A tree comes to one thing at most, and so does a text.
use Rattle.std.proofs.Common.{◌≡◌, ℕ, List, length, sym, subst, ◌∙◌}
use Rattle.std.specs.Prelude.{Result, Ok, Err, Some}
use Rattle.std.proofs.lemmas.Option.{same_Some}
use Rattle.fzn_reader.specs.declared.tokens.Token.{Token}
use Rattle.fzn_reader.specs.declared.lexer.LexFault.{LexFault}
use Rattle.fzn_reader.specs.Scan as scan
use Rattle.fzn_parser.specs.declared.tree.Tree.{Tree}
use Rattle.fzn_parser.specs.declared.faults.SyntaxFault.{SyntaxFault}
use Rattle.fzn_parser.specs.Grammar.{Sign, signs}
use Rattle.fzn_parser.specs.Faults.{IsFirstSyntaxFault, IsTreeOf, ParseEndsIn}
use Rattle.set_meaning.specs.declared.problems.Problem.{Problem}
use Rattle.fzn_model.specs.declared.faults.ModelFault.{ModelFault}
use Rattle.fzn_model.specs.declared.faults.FileFault.{FileFault}
use Rattle.fzn_model.specs.declared.faults.FileFault.TheVariants as faults
use Rattle.fzn_model.specs.FaultsOf.{IsFirstFault}
use Rattle.fzn_model.specs.Files.{ComesTo, EndsIn, IsModelFaultOf, IsProblemOf, IsProblemOfTree, IsSyntaxFaultOf, IsTreeOfText}
use Rattle.fzn_model.proofs.FirstFaults.{apart, one}

-- ---- trees

pub of_tree : (tree : Tree) (a b : Result Problem ModelFault) → ComesTo tree a → ComesTo tree b → a ≡ b
of_tree tree (Ok p) (Ok q) h k = let e : p ≡ q = same_Some p q (sym h.problem ∙ k.problem) in cc
of_tree tree (Ok p) (Err g) h k = absurd (apart tree g k h.faultless)
of_tree tree (Err f) (Ok q) h k = absurd (apart tree f h k.faultless)
of_tree tree (Err f) (Err g) h k = let e : f ≡ g = one tree f g h k in cc

-- ---- texts

module _ (scans : (text : List ℕ) (a b : Result (List Token) LexFault) → scan.EndsIn text a → scan.EndsIn text b → a ≡ b)
    (parses : (n : ℕ) (xs : List Sign) (a b : Result Tree SyntaxFault) → ParseEndsIn n xs a → ParseEndsIn n xs b → a ≡ b) where
  tokens_one : (text : List ℕ) (xs ys : List Token) → scan.AreTokensOf text xs → scan.AreTokensOf text ys → xs ≡ ys
  tokens_one text xs ys h k = let e = scans text (Ok xs) (Ok ys) h k in cc

  lexical_one : (text : List ℕ) (f g : LexFault) → scan.IsFirstLexFault text f → scan.IsFirstLexFault text g → f ≡ g
  lexical_one text f g h k = let e = scans text (Err f) (Err g) h k in cc

  scanned : (text : List ℕ) (xs : List Token) (f : LexFault) → scan.AreTokensOf text xs → scan.IsFirstLexFault text f → ⊥
  scanned text xs f h k = let e = scans text (Ok xs) (Err f) h k in cc

  tree_one : (text : List ℕ) (s t : Tree) → IsTreeOfText text s → IsTreeOfText text t → s ≡ t
  tree_one text s t h k =
      let spelled : IsTreeOf (signs text h.tokens) t =
      subst (λ ts. IsTreeOf (signs text ts) t) (tokens_one text k.tokens h.tokens k.scanned h.scanned) k.spelled in
      let e = parses 0 (signs text h.tokens) (Ok s) (Ok t) h.spelled spelled in cc

  syntax_one : (text : List ℕ) (f g : SyntaxFault) → IsSyntaxFaultOf text f → IsSyntaxFaultOf text g → f ≡ g
  syntax_one text f g h k =
      let first : IsFirstSyntaxFault (length text) (signs text h.tokens) g =
      subst (λ ts. IsFirstSyntaxFault (length text) (signs text ts) g) (tokens_one text k.tokens h.tokens k.scanned h.scanned) k.first in
      let e = parses (length text) (signs text h.tokens) (Err f) (Err g) h.first first in cc

  parsed : (text : List ℕ) (t : Tree) (f : SyntaxFault) → IsTreeOfText text t → IsSyntaxFaultOf text f → ⊥
  parsed text t f h k =
      let first : IsFirstSyntaxFault (length text) (signs text h.tokens) f =
      subst (λ ts. IsFirstSyntaxFault (length text) (signs text ts) f) (tokens_one text k.tokens h.tokens k.scanned h.scanned) k.first in
      let e = parses (length text) (signs text h.tokens) (Ok t) (Err f) h.spelled first in cc

  model_one : (text : List ℕ) (f g : ModelFault) → IsModelFaultOf text f → IsModelFaultOf text g → f ≡ g
  model_one text f g h k =
      one h.tree f g h.first (subst (λ t. IsFirstFault t g) (tree_one text k.tree h.tree k.spelled h.spelled) k.first)

  problem_one : (text : List ℕ) (p q : Problem) → IsProblemOf text p → IsProblemOf text q → p ≡ q
  problem_one text p q h k =
      let same : IsProblemOfTree h.tree q = subst (λ t. IsProblemOfTree t q) (tree_one text k.tree h.tree k.spelled h.spelled) k.problem in
      same_Some p q (sym h.problem.problem ∙ same.problem)

  faultless : (text : List ℕ) (p : Problem) (f : ModelFault) → IsProblemOf text p → IsModelFaultOf text f → ⊥
  faultless text p f h k =
      apart h.tree f (subst (λ t. IsFirstFault t f) (tree_one text k.tree h.tree k.spelled h.spelled) k.first) h.problem.faultless

  -- a text with a problem has no fault
  sound : (text : List ℕ) (p : Problem) (f : FileFault) → IsProblemOf text p → EndsIn text (Err f) → ⊥
  sound text p (faults.Lex f) h k = scanned text h.spelled.tokens f h.spelled.scanned k
  sound text p (faults.Syntax f) h k = parsed text h.tree f h.spelled k
  sound text p (faults.Model f) h k = faultless text p f h k
  sound text p faults.Memory h k = absurd k

  fault_one : (text : List ℕ) (f g : FileFault) → EndsIn text (Err f) → EndsIn text (Err g) → f ≡ g
  fault_one text (faults.Lex f) (faults.Lex g) h k = let e : f ≡ g = lexical_one text f g h k in cc
  fault_one text (faults.Lex f) (faults.Syntax g) h k = absurd (scanned text k.tokens f k.scanned h)
  fault_one text (faults.Lex f) (faults.Model g) h k = absurd (scanned text k.spelled.tokens f k.spelled.scanned h)
  fault_one text (faults.Syntax f) (faults.Lex g) h k = absurd (scanned text h.tokens g h.scanned k)
  fault_one text (faults.Syntax f) (faults.Syntax g) h k = let e : f ≡ g = syntax_one text f g h k in cc
  fault_one text (faults.Syntax f) (faults.Model g) h k = absurd (parsed text k.tree f k.spelled h)
  fault_one text (faults.Model f) (faults.Lex g) h k = absurd (scanned text h.spelled.tokens g h.spelled.scanned k)
  fault_one text (faults.Model f) (faults.Syntax g) h k = absurd (parsed text h.tree g h.spelled k)
  fault_one text (faults.Model f) (faults.Model g) h k = let e : f ≡ g = model_one text f g h k in cc
  fault_one text faults.Memory g h k = absurd h
  fault_one text f faults.Memory h k = absurd k

  pub of_text : (text : List ℕ) (a b : Result Problem FileFault) → EndsIn text a → EndsIn text b → a ≡ b
  of_text text (Ok p) (Ok q) h k = let e : p ≡ q = problem_one text p q h k in cc
  of_text text (Ok p) (Err g) h k = absurd (sound text p g h k)
  of_text text (Err f) (Ok q) h k = absurd (sound text q f k h)
  of_text text (Err f) (Err g) h k = let e : f ≡ g = fault_one text f g h k in cc
