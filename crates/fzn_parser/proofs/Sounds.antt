-- What is read is spelled so: the tokens up to those that are left fit the patterns of what was read.
use Rattle.std.proofs.Common.{◌≡◌, ℕ, zero, suc, Bool, true, false, cond, List, [], ◌∷◌, ◌++◌, length, Result, Ok, Err, sym, refl, ap, ◌∙◌, subst, append_assoc}
use Rattle.std.specs.List.{flat_map}
use Rattle.fzn_reader.specs.declared.tokens.TokenKind.{TokenKind}
use Rattle.fzn_reader.specs.declared.tokens.TokenKind.TheVariants as kinds
use Rattle.fzn_reader.specs.declared.tokens.Word.{Word}
use Rattle.fzn_reader.specs.declared.tokens.Symbol.{Symbol}
use Rattle.fzn_reader.specs.declared.tokens.Symbol.TheVariants as symbols
use Rattle.fzn_parser.specs.declared.faults.What.{What}
use Rattle.fzn_parser.specs.declared.faults.What.TheVariants as whats
use Rattle.fzn_parser.specs.declared.faults.SyntaxFault.{SyntaxFault}
use Rattle.fzn_parser.specs.declared.faults.SyntaxFault.TheVariants as faults
use Rattle.fzn_parser.specs.declared.tree.Number.{Number}
use Rattle.fzn_parser.specs.declared.tree.SetForm.{SetForm}
use Rattle.fzn_parser.specs.declared.tree.SetForm.TheVariants as sets
use Rattle.fzn_parser.specs.Grammar as spell
use Rattle.fzn_parser.specs.Grammar.{Sign, Pattern, token, named, placed, Match, begun_at, closed}
use Rattle.fzn_parser.specs.ToCome.{same_kind, is_symbol}
use Rattle.fzn_parser.specs.Reading.{◌>>=◌, Reader, first, after, after_symbol, goes_on, one_more, more_in, more, from_first, a_list, number_by, number, integer_by, integer, range_from, braced, ident_by, ident}
use Rattle.fzn_parser.proofs.SameKinds.{symbol_is, word_is}

abbrev pub Says : {A : Type 0} → List Sign → (A → List Pattern) → Result (A × List Sign) SyntaxFault → Type 0
Says zs spelled (Ok q) = (qs : List Pattern) → Match qs q.1 → Match (spelled q.0 ++ qs) zs
Says zs spelled (Err e) = Unit {0}

-- the patterns of what was read, before any that fit the tokens that are left
abbrev pub Back : {A : Type 0} → List Sign → (A → List Pattern) → A × List Sign → Type 0
Back zs spelled q = (qs : List Pattern) → Match qs q.1 → Match (spelled q.0 ++ qs) zs

pub says_bind : {A B : Type 0} (zs xs : List Sign) (a : A → List Pattern) (b : B → List Pattern) (r : Result (A × List Sign) SyntaxFault) (f : A × List Sign → Result (B × List Sign) SyntaxFault)
    → Says xs a r → ((q : A × List Sign) → Back xs a q → Says zs b (f q)) → Says zs b (r >>= f)
says_bind zs xs a b (Ok q) f h g = g q h
says_bind zs xs a b (Err e) f h g = tt

abbrev pub sign : ℕ → TokenKind → List ℕ → Sign
sign at kind bytes = record { at = at; kind = kind; bytes = bytes }

-- ---- single tokens

symbol_step : (s : Symbol) (what : What) (x : Sign) (xs : List Sign) (b : Bool) → is_symbol s x.kind ≡ b
    → Says (x ∷ xs) (λ (at : ℕ). placed at (spell.symbol s) ∷ []) (cond b (Ok (x.at, xs)) (Err (faults.Expected x.at what)))
symbol_step s what x xs true is = λ qs m. ((refl, symbol_is s x.kind is), m)
symbol_step s what x xs false is = tt

pub symbol_says : (n : ℕ) (s : Symbol) (what : What) (xs : List Sign) → Says xs (λ (at : ℕ). placed at (spell.symbol s) ∷ []) (after_symbol n s what xs)
unfolding after first
symbol_says n s what [] = tt
symbol_says n s what (x ∷ xs) = symbol_step s what x xs (is_symbol s x.kind) refl

word_step : (w : Word) (what : What) (x : Sign) (xs : List Sign) (b : Bool) → same_kind (kinds.Word w) x.kind ≡ b
    → Says (x ∷ xs) (λ (at : ℕ). placed at (spell.word w) ∷ []) (cond b (Ok (x.at, xs)) (Err (faults.Expected x.at what)))
word_step w what x xs true is = λ qs m. ((refl, word_is w x.kind is), m)
word_step w what x xs false is = tt

pub word_says : (n : ℕ) (w : Word) (what : What) (xs : List Sign) → Says xs (λ (at : ℕ). placed at (spell.word w) ∷ []) (after n (kinds.Word w) what xs)
unfolding after first
word_says n w what [] = tt
word_says n w what (x ∷ xs) = word_step w what x xs (same_kind (kinds.Word w) x.kind) refl

-- the place may be left out
pub unplaced : (kind : TokenKind) (at : ℕ) (qs : List Pattern) (xs : List Sign) → Match (placed at (token kind) ∷ qs) xs → Match (token kind ∷ qs) xs
unplaced kind at qs [] m = absurd m
unplaced kind at qs (x ∷ xs) m = (m.0.1, m.1)

number_step : (at : ℕ) (kind : TokenKind) (bytes : List ℕ) (xs : List Sign) → Says (sign at kind bytes ∷ xs) spell.number (number_by kind at >>= (λ v. Ok (v, xs)))
number_step at (kinds.Int z) bytes xs = λ qs m. ((refl, refl), m)
number_step at kinds.LargeInt bytes xs = λ qs m. ((refl, refl), m)
number_step at kinds.Float bytes xs = λ qs m. ((refl, refl), m)
number_step at _ bytes xs = tt

pub number_says : (n : ℕ) (xs : List Sign) → Says xs spell.number (number n xs)
unfolding number first
number_says n [] = tt
number_says n (x ∷ xs) = number_step x.at x.kind x.bytes xs

integer_step : (at : ℕ) (kind : TokenKind) (bytes : List ℕ) (xs : List Sign) → Says (sign at kind bytes ∷ xs) spell.integer (integer_by kind at >>= (λ v. Ok (v, xs)))
integer_step at (kinds.Int z) bytes xs = λ qs m. ((refl, refl), m)
integer_step at kinds.LargeInt bytes xs = λ qs m. ((refl, refl), m)
integer_step at _ bytes xs = tt

pub integer_says : (n : ℕ) (xs : List Sign) → Says xs spell.integer (integer n xs)
unfolding integer first
integer_says n [] = tt
integer_says n (x ∷ xs) = integer_step x.at x.kind x.bytes xs

ident_step : (what : What) (at : ℕ) (kind : TokenKind) (bytes : List ℕ) (xs : List Sign) → Says (sign at kind bytes ∷ xs) spell.ident (ident_by what kind at bytes >>= (λ v. Ok (v, xs)))
ident_step what at kinds.Name bytes xs = λ qs m. ((refl, (refl, refl)), m)
ident_step what at _ bytes xs = tt

pub ident_says : (n : ℕ) (what : What) (xs : List Sign) → Says xs spell.ident (ident n what xs)
unfolding ident first
ident_says n what [] = tt
ident_says n what (x ∷ xs) = ident_step what x.at x.kind x.bytes xs

-- ---- lists

module _ {A : Type 0} (n : ℕ) (read : Reader A) (close : Symbol) (what : What) (spelled : A → List Pattern) (says : (xs : List Sign) → Says xs spelled (read xs)) where
  -- the parts after one of them, and the bracket
  abbrev pub further : List A → List Pattern
  further ys = flat_map (λ y. spell.symbol symbols.Comma ∷ spelled y) ys ++ spell.symbol close ∷ []

  regroup : (y : A) (ys : List A) (qs : List Pattern) → spelled y ++ (further ys ++ qs) ≡ ((spelled y ++ flat_map (λ y. spell.symbol symbols.Comma ∷ spelled y) ys) ++ spell.symbol close ∷ []) ++ qs
  regroup y ys qs =
      sym (append_assoc (spelled y) (further ys) qs)
      ∙ ap (λ ps. ps ++ qs) (sym (append_assoc (spelled y) (flat_map (λ y. spell.symbol symbols.Comma ∷ spelled y) ys) (spell.symbol close ∷ [])))

  turn_says : (turns : ℕ) (x : Sign) (xs : List Sign) (ends comma : Bool) → is_symbol close x.kind ≡ ends → is_symbol symbols.Comma x.kind ≡ comma
      → ((ys : List Sign) → Says ys further (more_in n read close what turns ys))
      → Says (x ∷ xs) further (cond ends (Ok (false, xs)) (cond comma (Ok (true, xs)) (Err (faults.Expected x.at what))) >>= one_more read (more_in n read close what turns))
  turn_says turns x xs true comma is also rest = λ qs m. (symbol_is close x.kind is, m)
  turn_says turns x xs false true is also rest =
      says_bind (x ∷ xs) xs spelled further (read xs) (λ y. more_in n read close what turns y.1 >>= (λ r. Ok (y.0 ∷ r.0, r.1))) (says xs)
      (λ y back. says_bind (x ∷ xs) y.1 further further (more_in n read close what turns y.1) (λ r. Ok (y.0 ∷ r.0, r.1)) (rest y.1)
      (λ r again qs m. (symbol_is symbols.Comma x.kind also, subst (λ ps. Match ps xs) (regroup y.0 r.0 qs) (back (further r.0 ++ qs) (again qs m)))))
  turn_says turns x xs false false is also rest = tt

  more_says : (turns : ℕ) (xs : List Sign) → Says xs further (more_in n read close what turns xs)
  unfolding more_in goes_on first
  more_says zero xs = tt
  more_says (suc turns) [] = tt
  more_says (suc turns) (x ∷ xs) = turn_says turns x xs (is_symbol close x.kind) (is_symbol symbols.Comma x.kind) refl refl (more_says turns)

  first_says : (xs : List Sign) → Says xs (λ ys. closed spelled ys close) (from_first n read close what xs)
  unfolding from_first more
  first_says xs =
      says_bind xs xs spelled (λ ys. closed spelled ys close) (read xs) (λ y. more n read close what y.1 >>= (λ r. Ok (y.0 ∷ r.0, r.1))) (says xs)
      (λ y back. says_bind xs y.1 further (λ ys. closed spelled ys close) (more n read close what y.1) (λ r. Ok (y.0 ∷ r.0, r.1)) (more_says (length y.1) y.1)
      (λ r again qs m. subst (λ ps. Match ps xs) (regroup y.0 r.0 qs) (back (further r.0 ++ qs) (again qs m))))

  list_step : (x : Sign) (xs : List Sign) (ends : Bool) → is_symbol close x.kind ≡ ends → Says (x ∷ xs) (λ ys. closed spelled ys close) (cond ends (Ok ([], xs)) (from_first n read close what (x ∷ xs)))
  list_step x xs true is = λ qs m. (symbol_is close x.kind is, m)
  list_step x xs false is = first_says (x ∷ xs)

  pub list_says : (xs : List Sign) → Says xs (λ ys. closed spelled ys close) (a_list n read close what xs)
  unfolding a_list first
  list_says [] = tt
  list_says (x ∷ xs) = list_step x xs (is_symbol close x.kind) refl

-- ---- set literals

-- what follows the lower end of a range
abbrev pub to_high : SetForm → List Pattern
to_high (sets.Range low high) = spell.symbol symbols.DotDot ∷ spell.number high
to_high (sets.List ns) = []

pub range_says : (n : ℕ) (low : Number) (zs xs : List Sign) → ((qs : List Pattern) → Match qs xs → Match (spell.number low ++ qs) zs) → Says zs spell.set_literal (range_from n low xs)
unfolding range_from
range_says n low zs xs front =
    says_bind zs xs (λ (at : ℕ). placed at (spell.symbol symbols.DotDot) ∷ []) spell.set_literal (after n (kinds.Symbol symbols.DotDot) whats.Range xs) _ (symbol_says n symbols.DotDot whats.Range xs)
    (λ d dots. says_bind zs d.1 spell.number spell.set_literal (number n d.1) _ (number_says n d.1)
    (λ h high qs m. front (spell.symbol symbols.DotDot ∷ (spell.number h.0 ++ qs)) (unplaced (kinds.Symbol symbols.DotDot) d.0 (spell.number h.0 ++ qs) xs (dots (spell.number h.0 ++ qs) (high qs m)))))

pub braced_says : (n : ℕ) (x : Sign) (xs : List Sign) → x.kind ≡ kinds.Symbol symbols.OpenCurly → Says (x ∷ xs) spell.set_literal (braced n xs)
unfolding braced
braced_says n x xs is =
    says_bind (x ∷ xs) xs (λ ns. closed spell.number ns symbols.CloseCurly) spell.set_literal (a_list n (number n) symbols.CloseCurly whats.CommaOrCurly xs) _
    (list_says n (number n) symbols.CloseCurly whats.CommaOrCurly spell.number (number_says n) xs)
    (λ r back qs m. (is, back qs m))
