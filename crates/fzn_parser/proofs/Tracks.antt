-- What is to come, followed over tokens to the first one that cannot come or opens too deep, and that each reader
-- follows just this: it reads on where the tokens go on, and stops where they stop, with the same fault.
use Rattle.std.proofs.Common.{◌≡◌, ℕ, zero, suc, ◌≤◌, Bool, true, false, cond, List, [], ◌∷◌, ◌++◌, length, Option, Some, None, Result, Ok, Err, sym, refl, ap, ◌∙◌, subst, arith, append_assoc, ltb}
use Rattle.std.specs.Option.{option_map, option_or}
use Rattle.std.proofs.lemmas.Bool.{cond-false, le-ltb}
use Rattle.fzn_reader.specs.declared.tokens.TokenKind.{TokenKind}
use Rattle.fzn_reader.specs.declared.tokens.TokenKind.TheVariants as kinds
use Rattle.fzn_reader.specs.declared.tokens.Symbol.{Symbol}
use Rattle.fzn_reader.specs.declared.tokens.Symbol.TheVariants as symbols
use Rattle.fzn_parser.specs.declared.faults.What.{What}
use Rattle.fzn_parser.specs.declared.faults.What.TheVariants as whats
use Rattle.fzn_parser.specs.declared.faults.SyntaxFault.{SyntaxFault}
use Rattle.fzn_parser.specs.declared.faults.SyntaxFault.TheVariants as faults
use Rattle.fzn_parser.specs.declared.tree.Number.{Number}
use Rattle.fzn_parser.specs.Grammar.{Sign}
use Rattle.fzn_parser.specs.ToCome.{Part, must, a_name, an_integer, a_number, list_of, more_of, same_kind, is_symbol, follows, after_one, may_be_missing, name_of, expected, brackets}
use Rattle.fzn_parser.specs.Reading.{◌>>=◌, Reader, first, after, goes_on, one_more, more_in, more, from_first, a_list, number_by, number, integer_by, integer, range_from, braced, ident_by, ident}
use Rattle.fzn_parser.proofs.Leaves.{Keeps, Leaves, number_keeps}

-- how tokens end where some parts were to come: the parts are all there, some are lacking, a token cannot come, or a
-- bracket is too deep
pub data Outcome : Type 0 where
  complete : Outcome
  cut : Outcome
  unexpected : ℕ → What → Outcome
  deep : ℕ → Outcome

abbrev pub finish : List Part → Outcome
finish [] = complete
finish (part ∷ rest) = cond (may_be_missing part) (finish rest) cut

abbrev pub on_next : (List Part → Outcome) → ℕ → ℕ → List Part → Option (List Part) → Outcome
on_next go limit at parts None = unexpected at (expected parts)
on_next go limit at parts (Some rest) = cond (ltb limit (brackets rest)) (deep at) (go rest)

-- the tokens followed from parts that are to come, no more than this many brackets of annotations being open
abbrev pub scan : ℕ → List Part → List Sign → Outcome
scan limit parts [] = finish parts
scan limit parts (x ∷ xs) = on_next (λ rest. scan limit rest xs) limit x.at parts (after_one parts x.kind)

abbrev pub outcome_of : SyntaxFault → Outcome
outcome_of (faults.Expected at what) = unexpected at what
outcome_of (faults.EndOfFile at) = cut
outcome_of (faults.TooDeep at) = deep at
outcome_of faults.Memory = cut

-- the tokens that a reader leaves followed, or its fault
abbrev pub follow : {A : Type 0} → ℕ → List Part → Result (A × List Sign) SyntaxFault → Outcome
follow limit g (Ok q) = scan limit g q.1
follow limit g (Err e) = outcome_of e

-- ---- one reader after another

pub follow_bind : {A B : Type 0} (limit : ℕ) (h g : List Part) (r : Result (A × List Sign) SyntaxFault) (f : A × List Sign → Result (B × List Sign) SyntaxFault)
    → ((q : A × List Sign) → r ≡ Ok q → scan limit h q.1 ≡ follow limit g (f q)) → follow limit h r ≡ follow limit g (r >>= f)
follow_bind limit h g (Ok q) f same = same q refl
follow_bind limit h g (Err e) f same = refl

-- a value made of what was read
pub follow_with : {A B : Type 0} (limit : ℕ) (g : List Part) (r : Result (A × List Sign) SyntaxFault) (f : A → B) → follow limit g r ≡ follow limit g (r >>= (λ q. Ok (f q.0, q.1)))
follow_with limit g (Ok q) f = refl
follow_with limit g (Err e) f = refl

-- brackets within the limit
pub passes : (limit : ℕ) (g : List Part) (a b : Outcome) → brackets g ≤ limit → cond (ltb limit (brackets g)) a b ≡ b
passes limit g a b fits = cond-false (ltb limit (brackets g)) a b (le-ltb limit (brackets g) fits)

-- ---- single tokens

must_step : (limit : ℕ) (kind : TokenKind) (what : What) (g : List Part) (at : ℕ) (xs : List Sign) (b : Bool) → brackets g ≤ limit
    → on_next (λ rest. scan limit rest xs) limit at (must kind what ∷ g) (option_or (option_map (λ ps. ps ++ g) (cond b (Some []) None)) None)
    ≡ follow limit g (cond b (Ok (at, xs)) (Err (faults.Expected at what)))
must_step limit kind what g at xs true fits = passes limit g (deep at) (scan limit g xs) fits
must_step limit kind what g at xs false fits = refl

pub must_tracks : (limit n : ℕ) (kind : TokenKind) (what : What) (g : List Part) (xs : List Sign) → brackets g ≤ limit → scan limit (must kind what ∷ g) xs ≡ follow limit g (after n kind what xs)
unfolding after first
must_tracks limit n kind what g [] fits = refl
must_tracks limit n kind what g (x ∷ xs) fits = must_step limit kind what g x.at xs (same_kind kind x.kind) fits

number_step : (limit : ℕ) (g : List Part) (kind : TokenKind) (at : ℕ) (xs : List Sign) → brackets g ≤ limit
    → on_next (λ rest. scan limit rest xs) limit at (a_number ∷ g) (after_one (a_number ∷ g) kind) ≡ follow limit g (number_by kind at >>= (λ v. Ok (v, xs)))
number_step limit g (kinds.Int z) at xs fits = passes limit g (deep at) (scan limit g xs) fits
number_step limit g kinds.LargeInt at xs fits = passes limit g (deep at) (scan limit g xs) fits
number_step limit g kinds.Float at xs fits = passes limit g (deep at) (scan limit g xs) fits
number_step limit g _ at xs fits = refl

pub number_tracks : (limit n : ℕ) (g : List Part) (xs : List Sign) → brackets g ≤ limit → scan limit (a_number ∷ g) xs ≡ follow limit g (number n xs)
unfolding number first
number_tracks limit n g [] fits = refl
number_tracks limit n g (x ∷ xs) fits = number_step limit g x.kind x.at xs fits

integer_step : (limit : ℕ) (g : List Part) (kind : TokenKind) (at : ℕ) (xs : List Sign) → brackets g ≤ limit
    → on_next (λ rest. scan limit rest xs) limit at (an_integer ∷ g) (after_one (an_integer ∷ g) kind) ≡ follow limit g (integer_by kind at >>= (λ v. Ok (v, xs)))
integer_step limit g (kinds.Int z) at xs fits = passes limit g (deep at) (scan limit g xs) fits
integer_step limit g kinds.LargeInt at xs fits = passes limit g (deep at) (scan limit g xs) fits
integer_step limit g _ at xs fits = refl

pub integer_tracks : (limit n : ℕ) (g : List Part) (xs : List Sign) → brackets g ≤ limit → scan limit (an_integer ∷ g) xs ≡ follow limit g (integer n xs)
unfolding integer first
integer_tracks limit n g [] fits = refl
integer_tracks limit n g (x ∷ xs) fits = integer_step limit g x.kind x.at xs fits

name_step : (limit : ℕ) (g : List Part) (kind : TokenKind) (at : ℕ) (bytes : List ℕ) (xs : List Sign) → brackets g ≤ limit
    → on_next (λ rest. scan limit rest xs) limit at (a_name ∷ g) (after_one (a_name ∷ g) kind) ≡ follow limit g (ident_by whats.Name kind at bytes >>= (λ i. Ok (i, xs)))
name_step limit g kinds.Name at bytes xs fits = passes limit g (deep at) (scan limit g xs) fits
name_step limit g _ at bytes xs fits = refl

pub name_tracks : (limit n : ℕ) (g : List Part) (xs : List Sign) → brackets g ≤ limit → scan limit (a_name ∷ g) xs ≡ follow limit g (ident n whats.Name xs)
unfolding ident first
name_tracks limit n g [] fits = refl
name_tracks limit n g (x ∷ xs) fits = name_step limit g x.kind x.at x.bytes xs fits

-- ---- lists

module _ {A : Type 0} (limit n : ℕ) (part : Part) (read : Reader A) (close : Symbol) (what : What) (g : List Part) (keeps : Keeps read)
    (there : may_be_missing part ≡ false)
    (tracks : (xs : List Sign) → scan limit (part ∷ more_of part close what ∷ g) xs ≡ follow limit (more_of part close what ∷ g) (read xs))
    (fits : brackets g ≤ limit) (fits_more : brackets (part ∷ more_of part close what ∷ g) ≤ limit) where
  more_step : (turns : ℕ) (at : ℕ) (xs : List Sign) (ends comma : Bool)
      → (scan limit (part ∷ more_of part close what ∷ g) xs ≡ follow limit g (one_more read (more_in n read close what turns) (true, xs)))
      → on_next (λ rest. scan limit rest xs) limit at (more_of part close what ∷ g) (option_or (option_map (λ ps. ps ++ g) (cond ends (Some []) (cond comma (Some (part ∷ more_of part close what ∷ [])) None))) None)
      ≡ follow limit g (cond ends (Ok (false, xs)) (cond comma (Ok (true, xs)) (Err (faults.Expected at what))) >>= one_more read (more_in n read close what turns))
  more_step turns at xs true comma next = passes limit g (deep at) (scan limit g xs) fits
  more_step turns at xs false true next = passes limit (part ∷ more_of part close what ∷ g) (deep at) (scan limit (part ∷ more_of part close what ∷ g) xs) fits_more ∙ next
  more_step turns at xs false false next = refl

  kept : (k : ℕ) (xs : List Sign) (q : A × List Sign) → read xs ≡ Ok q → length xs ≤ k → length q.1 ≤ k
  kept k xs q h l = subst (Leaves k) h (keeps k xs l)

  pub more_tracks : (turns : ℕ) (xs : List Sign) → length xs ≤ turns → scan limit (more_of part close what ∷ g) xs ≡ follow limit g (more_in n read close what turns xs)
  unfolding more_in goes_on first
  more_tracks zero [] l = refl
  more_tracks zero (x ∷ xs) l = absurd (omega arith)
  more_tracks (suc turns) [] l = refl
  more_tracks (suc turns) (x ∷ xs) l =
      more_step turns x.at xs (is_symbol close x.kind) (is_symbol symbols.Comma x.kind)
      (tracks xs ∙ follow_bind limit (more_of part close what ∷ g) g (read xs) (λ y. more_in n read close what turns y.1 >>= (λ rest. Ok (y.0 ∷ rest.0, rest.1)))
      (λ y h. more_tracks turns y.1 (kept turns xs y h (omega arith)) ∙ follow_with limit g (more_in n read close what turns y.1) (λ rest. y.0 ∷ rest)))

  first_tracks : (xs : List Sign) → scan limit (part ∷ more_of part close what ∷ g) xs ≡ follow limit g (from_first n read close what xs)
  unfolding from_first more
  first_tracks xs =
      tracks xs ∙ follow_bind limit (more_of part close what ∷ g) g (read xs) (λ y. more n read close what y.1 >>= (λ rest. Ok (y.0 ∷ rest.0, rest.1)))
      (λ y h. more_tracks (length y.1) y.1 (omega arith) ∙ follow_with limit g (more_in n read close what (length y.1) y.1) (λ rest. y.0 ∷ rest))

  regrouped : (o : Option (List Part)) → option_map (λ ps. ps ++ g) (option_map (λ ps. ps ++ more_of part close what ∷ []) o) ≡ option_map (λ ps. ps ++ (more_of part close what ∷ g)) o
  regrouped None = refl
  regrouped (Some ps) = ap (λ qs. Some qs) (append_assoc ps (more_of part close what ∷ []) g)

  -- where the list does not end, its first part is to come
  same_after : (k : TokenKind) → option_or (option_map (λ ps. ps ++ g) (option_map (λ ps. ps ++ more_of part close what ∷ []) (follows part k))) None ≡ after_one (part ∷ more_of part close what ∷ g) k
  same_after k =
      ap (λ o. option_or o None) (regrouped (follows part k))
      ∙ ap (λ o. option_or (option_map (λ ps. ps ++ (more_of part close what ∷ g)) (follows part k)) o) (sym (cond-false (may_be_missing part) (after_one (more_of part close what ∷ g) k) None there))

  same_expected : expected (list_of part close what ∷ g) ≡ expected (part ∷ more_of part close what ∷ g)
  same_expected = sym (cond-false (may_be_missing part) (expected (more_of part close what ∷ g)) (name_of part) there)

  same_next : (go : List Part → Outcome) (at : ℕ) (o : Option (List Part)) → on_next go limit at (list_of part close what ∷ g) o ≡ on_next go limit at (part ∷ more_of part close what ∷ g) o
  same_next go at None = ap (unexpected at) same_expected
  same_next go at (Some rest) = refl

  list_step : (x : Sign) (xs : List Sign) (ends : Bool)
      → on_next (λ rest. scan limit rest xs) limit x.at (list_of part close what ∷ g) (option_or (option_map (λ ps. ps ++ g) (cond ends (Some []) (option_map (λ ps. ps ++ more_of part close what ∷ []) (follows part x.kind)))) None)
      ≡ follow limit g (cond ends (Ok ([], xs)) (from_first n read close what (x ∷ xs)))
  list_step x xs true = passes limit g (deep x.at) (scan limit g xs) fits
  list_step x xs false =
      ap (on_next (λ rest. scan limit rest xs) limit x.at (list_of part close what ∷ g)) (same_after x.kind)
      ∙ same_next (λ rest. scan limit rest xs) x.at (after_one (part ∷ more_of part close what ∷ g) x.kind)
      ∙ first_tracks (x ∷ xs)

  pub list_tracks : (xs : List Sign) → scan limit (list_of part close what ∷ g) xs ≡ follow limit g (a_list n read close what xs)
  unfolding a_list first
  list_tracks [] = refl
  list_tracks (x ∷ xs) = list_step x xs (is_symbol close x.kind)

-- ---- numbers and set literals

pub range_tracks : (limit n : ℕ) (low : Number) (g : List Part) (xs : List Sign) → brackets g ≤ limit
    → scan limit (must (kinds.Symbol symbols.DotDot) whats.Range ∷ a_number ∷ g) xs ≡ follow limit g (range_from n low xs)
unfolding range_from
range_tracks limit n low g xs fits =
    must_tracks limit n (kinds.Symbol symbols.DotDot) whats.Range (a_number ∷ g) xs fits
    ∙ follow_bind limit (a_number ∷ g) g (after n (kinds.Symbol symbols.DotDot) whats.Range xs) _
    (λ d h. number_tracks limit n g d.1 fits ∙ follow_bind limit g g (number n d.1) _ (λ r k. refl))

pub braced_tracks : (limit n : ℕ) (g : List Part) (xs : List Sign) → brackets g ≤ limit
    → scan limit (list_of a_number symbols.CloseCurly whats.CommaOrCurly ∷ g) xs ≡ follow limit g (braced n xs)
unfolding braced
braced_tracks limit n g xs fits =
    list_tracks limit n a_number (number n) symbols.CloseCurly whats.CommaOrCurly g (number_keeps n) refl
    (λ ys. number_tracks limit n (more_of a_number symbols.CloseCurly whats.CommaOrCurly ∷ g) ys fits) fits fits xs
    ∙ follow_bind limit g g (a_list n (number n) symbols.CloseCurly whats.CommaOrCurly xs) _ (λ r k. refl)
