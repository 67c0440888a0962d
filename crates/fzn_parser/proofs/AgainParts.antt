-- Set literals and basic expressions are read again.
use Rattle.std.proofs.Common.{◌≡◌, ℕ, true, false, List, [], ◌∷◌, ◌++◌, length, arith, Some, None, Ok, sym, refl, ap, ◌∙◌, subst}
use Rattle.fzn_reader.specs.declared.tokens.TokenKind.{TokenKind}
use Rattle.fzn_reader.specs.declared.tokens.TokenKind.TheVariants as kinds
use Rattle.fzn_reader.specs.declared.tokens.Word.TheVariants as words
use Rattle.fzn_reader.specs.declared.tokens.Symbol.{Symbol}
use Rattle.fzn_reader.specs.declared.tokens.Symbol.TheVariants as symbols
use Rattle.fzn_parser.specs.declared.faults.What.TheVariants as whats
use Rattle.fzn_parser.specs.declared.tree.Num.TheVariants as nums
use Rattle.fzn_parser.specs.declared.tree.Number.{Number}
use Rattle.fzn_parser.specs.declared.tree.SetForm.TheVariants as sets
use Rattle.fzn_parser.specs.declared.tree.Basic.{Basic}
use Rattle.fzn_parser.specs.declared.tree.BasicForm.{BasicForm}
use Rattle.fzn_parser.specs.declared.tree.BasicForm.TheVariants as basics
use Rattle.fzn_parser.specs.Grammar as spell
use Rattle.fzn_parser.specs.Grammar.{Sign, Pattern, Match, begun_at, closed}
use Rattle.fzn_parser.specs.ToCome.{is_symbol}
use Rattle.fzn_parser.specs.Reading.{◌>>=◌, first, after, a_list, number, range_from, braced, upper_end, number_or_range, braced_form, basic_by, basic}
use Rattle.fzn_parser.proofs.Leaves.{number_keeps}
use Rattle.fzn_parser.proofs.Again.{Again, again_bind, kind_again, number_again, Avoids, behind_none, behind_some, list_again}

-- a number begins with no symbol
number_begins : (s : Symbol) (v : Number) (ps : List Pattern) (zs : List Sign) → Match (spell.number v ++ ps) zs → (x : Sign) × (rest : List Sign) × (zs ≡ x ∷ rest) × (is_symbol s x.kind ≡ false)
number_begins s v ps [] m = absurd m
number_begins s v ps (x ∷ xs) m = (x, xs, refl, no_symbol v.num m.0.1)
  where
    no_symbol : (num : nums.the_data) → spell.Fits (spell.num num) x → is_symbol s x.kind ≡ false
    no_symbol (nums.Int z) f = ap (is_symbol s) f
    no_symbol nums.Large f = ap (is_symbol s) f
    no_symbol nums.Float f = ap (is_symbol s) f

numbers_again : (n : ℕ) (ns : List Number) (qs : List Pattern) (xs : List Sign) → Match (closed spell.number ns symbols.CloseCurly ++ qs) xs → Again (a_list n (number n) symbols.CloseCurly whats.CommaOrCurly xs) ns qs
numbers_again n ns qs xs m =
    list_again n (number n) symbols.CloseCurly whats.CommaOrCurly spell.number (number_keeps n) (length xs) (λ ps. Unit {0}) (λ v ps zs l f k. number_again n v ps zs k) refl (λ ys ps. tt) ns xs qs (omega arith)
    (λ v ps zs k. number_begins symbols.CloseCurly v ps zs k) m

pub braced_again : (n : ℕ) (ns : List Number) (qs : List Pattern) (xs : List Sign) → Match (closed spell.number ns symbols.CloseCurly ++ qs) xs → Again (braced n xs) (sets.List ns) qs
unfolding braced
braced_again n ns qs xs m =
    again_bind (a_list n (number n) symbols.CloseCurly whats.CommaOrCurly xs) _ ns (sets.List ns) qs qs (numbers_again n ns qs xs m) (λ ys h k. record { ys = ys; read = refl; fits = k })

pub range_again : (n : ℕ) (low high : Number) (qs : List Pattern) (xs : List Sign) → Match (spell.symbol symbols.DotDot ∷ (spell.number high ++ qs)) xs → Again (range_from n low xs) (sets.Range low high) qs
unfolding range_from
range_again n low high qs [] m = absurd m
range_again n low high qs (x ∷ xs) m =
    again_bind (after n (kinds.Symbol symbols.DotDot) whats.Range (x ∷ xs)) _ x.at (sets.Range low high) (spell.number high ++ qs) qs (kind_again n (kinds.Symbol symbols.DotDot) whats.Range x xs (spell.number high ++ qs) m.0 m.1)
    (λ ys h k. again_bind (number n ys) _ high (sets.Range low high) qs qs (number_again n high qs ys k) (λ zs i l. record { ys = zs; read = refl; fits = l }))

pub no_upper_again : (n : ℕ) (qs : List Pattern) (xs : List Sign) → Avoids symbols.DotDot qs → Match qs xs → Again (upper_end n xs) None qs
unfolding upper_end
no_upper_again n qs xs avoids m = behind_none symbols.DotDot (λ _. number n) qs xs avoids m

pub upper_again : (n : ℕ) (high : Number) (qs : List Pattern) (xs : List Sign) → Match (spell.symbol symbols.DotDot ∷ (spell.number high ++ qs)) xs → Again (upper_end n xs) (Some high) qs
unfolding upper_end
upper_again n high qs xs m = behind_some symbols.DotDot (λ _. number n) high (spell.number high) qs xs (λ at ys l k. number_again n high qs ys k) m

-- ---- basic expressions

num_again : (n : ℕ) (low : Number) (qs : List Pattern) (xs : List Sign) → Avoids symbols.DotDot qs → Match qs xs → Again (number_or_range n low xs) (basics.Num low.num) qs
unfolding number_or_range
num_again n low qs xs avoids m =
    again_bind (upper_end n xs) _ None (basics.Num low.num) qs qs (no_upper_again n qs xs avoids m) (λ ys h k. record { ys = ys; read = refl; fits = k })

to_again : (n : ℕ) (low high : Number) (qs : List Pattern) (xs : List Sign) → Match (spell.symbol symbols.DotDot ∷ (spell.number high ++ qs)) xs → Again (number_or_range n low xs) (basics.Set (sets.Range low high)) qs
unfolding number_or_range
to_again n low high qs xs m =
    again_bind (upper_end n xs) _ (Some high) (basics.Set (sets.Range low high)) qs qs (upper_again n high qs xs m) (λ ys h k. record { ys = ys; read = refl; fits = k })

braces_again : (n : ℕ) (ns : List Number) (qs : List Pattern) (xs : List Sign) → Match (closed spell.number ns symbols.CloseCurly ++ qs) xs → Again (braced_form n xs) (basics.Set (sets.List ns)) qs
unfolding braced_form
braces_again n ns qs xs m = again_bind (braced n xs) _ (sets.List ns) (basics.Set (sets.List ns)) qs qs (braced_again n ns qs xs m) (λ ys h k. record { ys = ys; read = refl; fits = k })

abbrev basic_of : ℕ → BasicForm → Basic
basic_of at form = record { at = at; form = form }

by_kind : (n : ℕ) (x : Sign) (xs : List Sign) (kind : TokenKind) (at : ℕ) (form : BasicForm) (qs : List Pattern) → x.kind ≡ kind → x.at ≡ at → Again (basic_by n kind at x.bytes xs) form qs → Again (basic n (x ∷ xs)) (basic_of at form) qs
unfolding basic first
by_kind n x xs kind at form qs is place h = record {
  ys = h.ys;
  read = ap (λ k. basic_by n k x.at x.bytes xs >>= (λ f. Ok (basic_of x.at f.0, f.1))) is
      ∙ (ap (λ p. basic_by n kind p x.bytes xs >>= (λ f. Ok (basic_of p f.0, f.1))) place ∙ ap (λ q. q >>= (λ f. Ok (basic_of at f.0, f.1))) h.read);
  fits = h.fits;
}

range_form : (n : ℕ) (x : Sign) (xs : List Sign) (at low_at : ℕ) (num : nums.the_data) (high : Number) (qs : List Pattern) → x.at ≡ at → x.at ≡ low_at → spell.Fits (spell.num num) x
    → Match (spell.symbol symbols.DotDot ∷ (spell.number high ++ qs)) xs → Again (basic n (x ∷ xs)) (basic_of at (basics.Set (sets.Range (record { at = low_at; num = num }) high))) qs
range_form n x xs at low_at num high qs place low_place f m =
    subst (λ p. Again (basic n (x ∷ xs)) (basic_of at (basics.Set (sets.Range (record { at = p; num = num }) high))) qs) (sym place ∙ low_place) (one num f)
  where
    one : (num : nums.the_data) → spell.Fits (spell.num num) x → Again (basic n (x ∷ xs)) (basic_of at (basics.Set (sets.Range (record { at = at; num = num }) high))) qs
    one (nums.Int z) g = by_kind n x xs (kinds.Int z) at (basics.Set (sets.Range (record { at = at; num = nums.Int z }) high)) qs g place (to_again n (record { at = at; num = nums.Int z }) high qs xs m)
    one nums.Large g = by_kind n x xs kinds.LargeInt at (basics.Set (sets.Range (record { at = at; num = nums.Large }) high)) qs g place (to_again n (record { at = at; num = nums.Large }) high qs xs m)
    one nums.Float g = by_kind n x xs kinds.Float at (basics.Set (sets.Range (record { at = at; num = nums.Float }) high)) qs g place (to_again n (record { at = at; num = nums.Float }) high qs xs m)

basic_form_again : (n at : ℕ) (form : BasicForm) (qs : List Pattern) (xs : List Sign) → Avoids symbols.DotDot qs → Match (begun_at at (spell.basic_form form) ++ qs) xs → Again (basic n xs) (basic_of at form) qs
basic_form_again n at (basics.Bool true) qs [] avoids m = absurd m
basic_form_again n at (basics.Bool true) qs (x ∷ xs) avoids m = by_kind n x xs (kinds.Word words.True) at (basics.Bool true) qs m.0.1 m.0.0 (record { ys = xs; read = refl; fits = m.1 })
basic_form_again n at (basics.Bool false) qs [] avoids m = absurd m
basic_form_again n at (basics.Bool false) qs (x ∷ xs) avoids m = by_kind n x xs (kinds.Word words.False) at (basics.Bool false) qs m.0.1 m.0.0 (record { ys = xs; read = refl; fits = m.1 })
basic_form_again n at (basics.Num (nums.Int z)) qs [] avoids m = absurd m
basic_form_again n at (basics.Num (nums.Int z)) qs (x ∷ xs) avoids m = by_kind n x xs (kinds.Int z) at (basics.Num (nums.Int z)) qs m.0.1 m.0.0 (num_again n (record { at = at; num = nums.Int z }) qs xs avoids m.1)
basic_form_again n at (basics.Num nums.Large) qs [] avoids m = absurd m
basic_form_again n at (basics.Num nums.Large) qs (x ∷ xs) avoids m = by_kind n x xs kinds.LargeInt at (basics.Num nums.Large) qs m.0.1 m.0.0 (num_again n (record { at = at; num = nums.Large }) qs xs avoids m.1)
basic_form_again n at (basics.Num nums.Float) qs [] avoids m = absurd m
basic_form_again n at (basics.Num nums.Float) qs (x ∷ xs) avoids m = by_kind n x xs kinds.Float at (basics.Num nums.Float) qs m.0.1 m.0.0 (num_again n (record { at = at; num = nums.Float }) qs xs avoids m.1)
basic_form_again n at (basics.Set (sets.Range low high)) qs [] avoids m = absurd m
basic_form_again n at (basics.Set (sets.Range low high)) qs (x ∷ xs) avoids m = range_form n x xs at low.at low.num high qs m.0.0 m.0.1.0 m.0.1.1 m.1
basic_form_again n at (basics.Set (sets.List ns)) qs [] avoids m = absurd m
basic_form_again n at (basics.Set (sets.List ns)) qs (x ∷ xs) avoids m = by_kind n x xs (kinds.Symbol symbols.OpenCurly) at (basics.Set (sets.List ns)) qs m.0.1 m.0.0 (braces_again n ns qs xs m.1)
basic_form_again n at (basics.Name bytes) qs [] avoids m = absurd m
basic_form_again n at (basics.Name bytes) qs (x ∷ xs) avoids m =
    subst (λ b. Again (basic n (x ∷ xs)) (basic_of at (basics.Name b)) qs) m.0.1.1 (by_kind n x xs kinds.Name at (basics.Name x.bytes) qs m.0.1.0 m.0.0 (record { ys = xs; read = refl; fits = m.1 }))

pub basic_again : (n : ℕ) (b : Basic) (qs : List Pattern) (xs : List Sign) → Avoids symbols.DotDot qs → Match (spell.basic b ++ qs) xs → Again (basic n xs) b qs
basic_again n b qs xs avoids m = basic_form_again n b.at b.form qs xs avoids m
