-- Arrays and expressions are read again.
use Rattle.std.proofs.Common.{◌≡◌, Option, Some, None, ℕ, true, false, List, [], ◌∷◌, ◌++◌, length, arith, Ok, sym, refl, ap, ◌∙◌}
use Rattle.std.proofs.lemmas.Bool.{cond-true, cond-false}
use Rattle.std.specs.List.{flat_map}
use Rattle.fzn_reader.specs.declared.tokens.TokenKind.TheVariants as kinds
use Rattle.fzn_reader.specs.declared.tokens.Symbol.{Symbol}
use Rattle.fzn_reader.specs.declared.tokens.Symbol.TheVariants as symbols
use Rattle.fzn_parser.specs.declared.faults.What.TheVariants as whats
use Rattle.fzn_parser.specs.declared.tree.Num.TheVariants as nums
use Rattle.fzn_parser.specs.declared.tree.SetForm.TheVariants as sets
use Rattle.fzn_parser.specs.declared.tree.Basic.{Basic}
use Rattle.fzn_parser.specs.declared.tree.BasicForm.{BasicForm}
use Rattle.fzn_parser.specs.declared.tree.BasicForm.TheVariants as basics
use Rattle.fzn_parser.specs.declared.tree.Expr.{Expr}
use Rattle.fzn_parser.specs.declared.tree.Expr.TheVariants as exprs
use Rattle.fzn_parser.specs.Grammar as spell
use Rattle.fzn_parser.specs.Grammar.{Sign, Pattern, Match, begun_at, closed}
use Rattle.fzn_parser.specs.ToCome.{is_symbol}
use Rattle.fzn_parser.specs.Reading.{◌>>=◌, first, basic, array, array_expression, basic_expression, expression, value, a_list}
use Rattle.fzn_parser.proofs.Leaves.{takes_keeps, basic_takes, expression_takes}
use Rattle.fzn_parser.proofs.Again.{Again, Avoids, behind_none, behind_some, list_again}
use Rattle.fzn_parser.proofs.AgainParts.{basic_again}

-- the first token of these is no such symbol
abbrev pub BeginsOther : Symbol → List Sign → Type 0
BeginsOther s zs = (x : Sign) × (rest : List Sign) × (zs ≡ x ∷ rest) × (is_symbol s x.kind ≡ false)

num_other : (s : Symbol) (num : nums.the_data) (x : Sign) → spell.Fits (spell.num num) x → is_symbol s x.kind ≡ false
num_other s (nums.Int z) x f = ap (is_symbol s) f
num_other s nums.Large x f = ap (is_symbol s) f
num_other s nums.Float x f = ap (is_symbol s) f

form_begins : (s : Symbol) → is_symbol s (kinds.Symbol symbols.OpenCurly) ≡ false → (at : ℕ) (form : BasicForm) (ps : List Pattern) (zs : List Sign) → Match (begun_at at (spell.basic_form form) ++ ps) zs → BeginsOther s zs
form_begins s other at (basics.Bool true) ps [] m = absurd m
form_begins s other at (basics.Bool true) ps (x ∷ xs) m = (x, xs, refl, ap (is_symbol s) m.0.1)
form_begins s other at (basics.Bool false) ps [] m = absurd m
form_begins s other at (basics.Bool false) ps (x ∷ xs) m = (x, xs, refl, ap (is_symbol s) m.0.1)
form_begins s other at (basics.Num num) ps [] m = absurd m
form_begins s other at (basics.Num num) ps (x ∷ xs) m = (x, xs, refl, num_other s num x m.0.1)
form_begins s other at (basics.Set (sets.Range low high)) ps [] m = absurd m
form_begins s other at (basics.Set (sets.Range low high)) ps (x ∷ xs) m = (x, xs, refl, num_other s low.num x m.0.1.1)
form_begins s other at (basics.Set (sets.List ns)) ps [] m = absurd m
form_begins s other at (basics.Set (sets.List ns)) ps (x ∷ xs) m = (x, xs, refl, ap (is_symbol s) m.0.1 ∙ other)
form_begins s other at (basics.Name bytes) ps [] m = absurd m
form_begins s other at (basics.Name bytes) ps (x ∷ xs) m = (x, xs, refl, ap (is_symbol s) m.0.1.0)

items_follow : (ys : List Basic) (qs : List Pattern) → Avoids symbols.DotDot ((flat_map (λ y. spell.symbol symbols.Comma ∷ spell.basic y) ys ++ spell.symbol symbols.CloseSquare ∷ []) ++ qs)
items_follow [] qs = λ y ys m. ap (is_symbol symbols.DotDot) m.0
items_follow (z ∷ zs) qs = λ y ys m. ap (is_symbol symbols.DotDot) m.0

pub array_again : (n : ℕ) (items : List Basic) (qs : List Pattern) (xs : List Sign) → Match (closed spell.basic items symbols.CloseSquare ++ qs) xs → Again (array n xs) items qs
array_again n items qs xs m =
    list_again n (basic n) symbols.CloseSquare whats.CommaOrSquare spell.basic (takes_keeps (basic n) (basic_takes n)) (length xs) (Avoids symbols.DotDot) (λ v ps zs l f k. basic_again n v ps zs f k) refl items_follow items xs qs (omega arith)
    (λ v ps zs k. form_begins symbols.CloseSquare refl v.at v.form ps zs k) m

one_again : (n : ℕ) (b : Basic) (qs : List Pattern) (xs : List Sign) → Again (basic n xs) b qs → BeginsOther symbols.OpenSquare xs → Again (expression n xs) (exprs.One b) qs
unfolding expression first basic_expression
one_again n b qs xs h other = record {
  ys = h.ys;
  read = ap (expression n) other.2
      ∙ (cond-false (is_symbol symbols.OpenSquare other.0.kind) (array_expression n other.0.at other.1) (basic_expression n (other.0 ∷ other.1)) other.3
      ∙ (ap (basic_expression n) (sym other.2) ∙ ap (λ q. q >>= (λ v. Ok (exprs.One v.0, v.1))) h.read));
  fits = h.fits;
}

list_expression : (n at : ℕ) (items : List Basic) (qs : List Pattern) (xs : List Sign) → Match (begun_at at (spell.array items) ++ qs) xs → Again (expression n xs) (exprs.List at items) qs
unfolding expression first array_expression
list_expression n at items qs [] m = absurd m
list_expression n at items qs (x ∷ xs) m =
    let h = array_again n items qs xs m.1 in
    record {
      ys = h.ys;
      read = cond-true (is_symbol symbols.OpenSquare x.kind) (array_expression n x.at xs) (basic_expression n (x ∷ xs)) (ap (is_symbol symbols.OpenSquare) m.0.1)
          ∙ (ap (λ p. array_expression n p xs) m.0.0 ∙ ap (λ q. q >>= (λ v. Ok (exprs.List at v.0, v.1))) h.read);
      fits = h.fits;
    }

pub expression_again : (n : ℕ) (e : Expr) (qs : List Pattern) (xs : List Sign) → Avoids symbols.DotDot qs → Match (spell.expression e ++ qs) xs → Again (expression n xs) e qs
expression_again n (exprs.One b) qs xs avoids m = one_again n b qs xs (basic_again n b qs xs avoids m) (form_begins symbols.OpenSquare refl b.at b.form qs xs m)
expression_again n (exprs.List at items) qs xs avoids m = list_expression n at items qs xs m

expression_begins : (s : Symbol) → is_symbol s (kinds.Symbol symbols.OpenCurly) ≡ false → is_symbol s (kinds.Symbol symbols.OpenSquare) ≡ false → (e : Expr) (ps : List Pattern) (zs : List Sign) → Match (spell.expression e ++ ps) zs → BeginsOther s zs
expression_begins s curly square (exprs.One b) ps zs m = form_begins s curly b.at b.form ps zs m
expression_begins s curly square (exprs.List at items) ps [] m = absurd m
expression_begins s curly square (exprs.List at items) ps (x ∷ xs) m = (x, xs, refl, ap (is_symbol s) m.0.1 ∙ square)

arguments_follow : (ys : List Expr) (qs : List Pattern) → Avoids symbols.DotDot ((flat_map (λ y. spell.symbol symbols.Comma ∷ spell.expression y) ys ++ spell.symbol symbols.CloseRound ∷ []) ++ qs)
arguments_follow [] qs = λ y ys m. ap (is_symbol symbols.DotDot) m.0
arguments_follow (z ∷ zs) qs = λ y ys m. ap (is_symbol symbols.DotDot) m.0

pub arguments_again : (n : ℕ) (es : List Expr) (qs : List Pattern) (xs : List Sign) → Match (closed spell.expression es symbols.CloseRound ++ qs) xs → Again (a_list n (expression n) symbols.CloseRound whats.CommaOrRound xs) es qs
arguments_again n es qs xs m =
    list_again n (expression n) symbols.CloseRound whats.CommaOrRound spell.expression (takes_keeps (expression n) (expression_takes n)) (length xs) (Avoids symbols.DotDot) (λ v ps zs l f k. expression_again n v ps zs f k) refl arguments_follow es xs qs (omega arith)
    (λ v ps zs k. expression_begins symbols.CloseRound refl refl v ps zs k) m

pub value_again : (n : ℕ) (v : Option Expr) (qs : List Pattern) (xs : List Sign) → Avoids symbols.Equals qs → Avoids symbols.DotDot qs → Match (spell.value v ++ qs) xs → Again (value n xs) v qs
unfolding value
value_again n None qs xs equals dots m = behind_none symbols.Equals (λ _. expression n) qs xs equals m
value_again n (Some e) qs xs equals dots m = behind_some symbols.Equals (λ _. expression n) e (spell.expression e) qs xs (λ at ys l k. expression_again n e qs ys dots k) m
