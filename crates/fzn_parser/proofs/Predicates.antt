-- Passing over the tokens of a predicate item.
use Rattle.std.proofs.Common.{◌≡◌, ℕ, true, false, List, [], ◌∷◌, Result, Ok, Err, ap, ◌∙◌}
use Rattle.std.proofs.lemmas.Bool.{cond-true, cond-false}
use Rattle.fzn_reader.specs.declared.tokens.Symbol.TheVariants as symbols
use Rattle.fzn_parser.specs.declared.faults.SyntaxFault.{SyntaxFault}
use Rattle.fzn_parser.specs.declared.faults.SyntaxFault.TheVariants as faults
use Rattle.fzn_parser.specs.declared.tree.Form.TheVariants as forms
use Rattle.fzn_parser.specs.Grammar.{Sign}
use Rattle.fzn_parser.specs.ToCome.{is_symbol}
use Rattle.fzn_parser.specs.Reading.{first, predicate}
use Rattle.fzn_parser.proofs.Readers.{ok_is}

-- the first token and those behind it
pub first_is : (n : ℕ) (xs : List Sign) (x : Sign) (ys : List Sign) → first n xs ≡ Ok (x, ys) → xs ≡ x ∷ ys
unfolding first
first_is n [] x ys h = absurd (cc)
first_is n (z ∷ zs) x ys h = ap (λ (q : Sign × List Sign). q.0 ∷ q.1) (ok_is (z, zs) (x, ys) h)

pub predicate_stops : (n : ℕ) (xs : List Sign) (e : SyntaxFault) → first n xs ≡ Err e → predicate n xs ≡ Err e
unfolding first predicate
predicate_stops n [] e h = let same : ◌≡◌ {A = Result (Sign × List Sign) SyntaxFault} (Err (faults.EndOfFile n)) (Err e) = h in let fault : faults.EndOfFile n ≡ e = cc in ap (λ z. Err z) fault
predicate_stops n (x ∷ xs) e h = absurd (cc)

pub predicate_ends : (n : ℕ) (xs : List Sign) (x : Sign) (ys : List Sign) → first n xs ≡ Ok (x, ys) → is_symbol symbols.Semicolon x.kind ≡ true → predicate n xs ≡ Ok (forms.Predicate, ys)
unfolding predicate
predicate_ends n xs x ys h is = ap (predicate n) (first_is n xs x ys h) ∙ cond-true (is_symbol symbols.Semicolon x.kind) (Ok (forms.Predicate, ys)) (predicate n ys) is

pub predicate_on : (n : ℕ) (xs : List Sign) (x : Sign) (ys : List Sign) → first n xs ≡ Ok (x, ys) → is_symbol symbols.Semicolon x.kind ≡ false → predicate n xs ≡ predicate n ys
unfolding predicate
predicate_on n xs x ys h is = ap (predicate n) (first_is n xs x ys h) ∙ cond-false (is_symbol symbols.Semicolon x.kind) (Ok (forms.Predicate, ys)) (predicate n ys) is
