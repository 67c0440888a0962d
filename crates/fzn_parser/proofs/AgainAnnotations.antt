-- Annotations are read again, where no more tokens are there than brackets may be open.
use Rattle.std.proofs.Common.{◌≡◌, ℕ, zero, suc, ◌<◌, ◌≤◌, true, false, List, [], ◌∷◌, ◌++◌, length, arith, Option, Some, None, Result, Ok, sym, refl, ap, ◌∙◌, subst, append_assoc}
use Rattle.std.proofs.lemmas.Bool.{cond-true, cond-false}
use Rattle.std.specs.List.{flat_map}
use Rattle.fzn_reader.specs.declared.tokens.TokenKind.{TokenKind}
use Rattle.fzn_reader.specs.declared.tokens.TokenKind.TheVariants as kinds
use Rattle.fzn_reader.specs.declared.tokens.Word.TheVariants as words
use Rattle.fzn_reader.specs.declared.tokens.Symbol.{Symbol}
use Rattle.fzn_reader.specs.declared.tokens.Symbol.TheVariants as symbols
use Rattle.fzn_parser.specs.declared.faults.What.{What}
use Rattle.fzn_parser.specs.declared.faults.What.TheVariants as whats
use Rattle.fzn_parser.specs.declared.faults.SyntaxFault.{SyntaxFault}
use Rattle.fzn_parser.specs.declared.tree.Num.TheVariants as nums
use Rattle.fzn_parser.specs.declared.tree.Number.{Number}
use Rattle.fzn_parser.specs.declared.tree.SetForm.TheVariants as sets
use Rattle.fzn_parser.specs.declared.tree.Ident.{Ident}
use Rattle.fzn_parser.specs.declared.tree.Ann.{Ann, roll-Ann, out-Ann, roll-out-Ann}
use Rattle.fzn_parser.specs.declared.tree.AnnArg.{AnnArg, roll-AnnArg, out-AnnArg, roll-out-AnnArg}
use Rattle.fzn_parser.specs.declared.tree.AnnForm.{AnnForm, roll-AnnForm, out-AnnForm, roll-out-AnnForm}
use Rattle.fzn_parser.specs.declared.tree.AnnForm.TheVariants as args
use Rattle.fzn_parser.specs.declared.tree.AnnForm.TheOpen.{AnnForm-F}
use Rattle.fzn_parser.specs.Grammar as spell
use Rattle.fzn_parser.specs.Grammar.{Sign, Pattern, Match, Fits, begun_at, closed, annotation, token, named, placed}
use Rattle.fzn_parser.specs.ToCome.{is_symbol}
use Rattle.fzn_parser.specs.Reading as R
use Rattle.fzn_parser.specs.Reading.{◌>>=◌, Nest, first, after_if, braced, upper_end, ident, number_argument, number_argument_at, braced_argument, call_argument, list_argument, argument_by, nested, one_annotation, annotations_in, a_list}
use Rattle.fzn_parser.proofs.Leaves.{leaves_at, ident_keeps, takes_keeps, nested_takes, annotation_takes}
use Rattle.fzn_parser.proofs.Again.{Again, again_bind, ident_again, Avoids, behind_none, behind_some, list_again}
use Rattle.fzn_parser.proofs.AgainParts.{braced_again, no_upper_again, upper_again}
use Rattle.fzn_parser.proofs.AgainExpressions.{BeginsOther}
use Rattle.fzn_parser.proofs.SoundsAnnotations.{argument, argument_form, argument_roll, form_bool, form_num, form_set, form_str, form_call, form_list, closed_map, call_patterns, annotation_is}

-- ---- an argument by its form

abbrev Layer : Type 0
Layer = AnnForm-F AnnForm Ann AnnArg

abbrev form_of : Layer → AnnForm
form_of (AnnForm-F.Bool b) = args.Bool b
form_of (AnnForm-F.Num v) = args.Num v
form_of (AnnForm-F.Set s) = args.Set s
form_of AnnForm-F.Str = args.Str
form_of (AnnForm-F.Call a) = args.Call a
form_of (AnnForm-F.List list) = args.List list

rolled : (l : Layer) → roll-AnnForm l ≡ form_of l
rolled (AnnForm-F.Bool b) = args.rolls-Bool b
rolled (AnnForm-F.Num v) = args.rolls-Num v
rolled (AnnForm-F.Set s) = args.rolls-Set s
rolled AnnForm-F.Str = args.rolls-Str
rolled (AnnForm-F.Call a) = args.rolls-Call a
rolled (AnnForm-F.List list) = args.rolls-List list

abbrev argument_of : ℕ → AnnForm → AnnArg
argument_of at form = roll-AnnArg (record { at = at; form = form })

abbrev layer_of : AnnArg → Layer
layer_of v = out-AnnForm ((out-AnnArg v).form)

opened : (v : AnnArg) → argument_of ((out-AnnArg v).at) (form_of (layer_of v)) ≡ v
opened v = ap (argument_of ((out-AnnArg v).at)) (sym (rolled (layer_of v)) ∙ roll-out-AnnForm ((out-AnnArg v).form)) ∙ roll-out-AnnArg v

-- the patterns of a form
abbrev layer_patterns : Layer → List Pattern
layer_patterns (AnnForm-F.Bool b) = spell.truth b ∷ []
layer_patterns (AnnForm-F.Num v) = spell.num v ∷ []
layer_patterns (AnnForm-F.Set s) = spell.set_literal s
layer_patterns AnnForm-F.Str = token kinds.Text ∷ []
layer_patterns (AnnForm-F.Call a) = annotation a
layer_patterns (AnnForm-F.List list) = spell.symbol symbols.OpenSquare ∷ closed argument list symbols.CloseSquare

layer_is : (l : Layer) → argument_form (form_of l) ≡ layer_patterns l
layer_is (AnnForm-F.Bool b) = form_bool b
layer_is (AnnForm-F.Num v) = form_num v
layer_is (AnnForm-F.Set s) = form_set s
layer_is AnnForm-F.Str = form_str
layer_is (AnnForm-F.Call a) = form_call a
layer_is (AnnForm-F.List list) = form_list list ∙ ap (λ (ps : List Pattern). spell.symbol symbols.OpenSquare ∷ ps) (closed_map list symbols.CloseSquare)

argument_is : (at : ℕ) (l : Layer) → argument (argument_of at (form_of l)) ≡ begun_at at (layer_patterns l)
argument_is at l = argument_roll at (form_of l) ∙ ap (begun_at at) (layer_is l)

-- an annotation by its parts
abbrev annotation_of : ℕ → List ℕ → Option (List AnnArg) → Ann
annotation_of at name list = roll-Ann (record { at = at; name = name; args = list })

opened_annotation : (a : Ann) → annotation_of ((out-Ann a).at) ((out-Ann a).name) ((out-Ann a).args) ≡ a
opened_annotation a = roll-out-Ann a

-- ---- the first token of an argument

num_other : (s : Symbol) (num : nums.the_data) (x : Sign) → Fits (spell.num num) x → is_symbol s x.kind ≡ false
num_other s (nums.Int z) x f = ap (is_symbol s) f
num_other s nums.Large x f = ap (is_symbol s) f
num_other s nums.Float x f = ap (is_symbol s) f

layer_begins : (s : Symbol) → is_symbol s (kinds.Symbol symbols.OpenCurly) ≡ false → is_symbol s (kinds.Symbol symbols.OpenSquare) ≡ false
    → (at : ℕ) (l : Layer) (ps : List Pattern) (zs : List Sign) → Match (begun_at at (layer_patterns l) ++ ps) zs → BeginsOther s zs
layer_begins s curly square at (AnnForm-F.Bool true) ps [] m = absurd m
layer_begins s curly square at (AnnForm-F.Bool true) ps (x ∷ xs) m = (x, xs, refl, ap (is_symbol s) m.0.1)
layer_begins s curly square at (AnnForm-F.Bool false) ps [] m = absurd m
layer_begins s curly square at (AnnForm-F.Bool false) ps (x ∷ xs) m = (x, xs, refl, ap (is_symbol s) m.0.1)
layer_begins s curly square at (AnnForm-F.Num num) ps [] m = absurd m
layer_begins s curly square at (AnnForm-F.Num num) ps (x ∷ xs) m = (x, xs, refl, num_other s num x m.0.1)
layer_begins s curly square at (AnnForm-F.Set (sets.Range low high)) ps [] m = absurd m
layer_begins s curly square at (AnnForm-F.Set (sets.Range low high)) ps (x ∷ xs) m = (x, xs, refl, num_other s low.num x m.0.1.1)
layer_begins s curly square at (AnnForm-F.Set (sets.List ns)) ps [] m = absurd m
layer_begins s curly square at (AnnForm-F.Set (sets.List ns)) ps (x ∷ xs) m = (x, xs, refl, ap (is_symbol s) m.0.1 ∙ curly)
layer_begins s curly square at AnnForm-F.Str ps [] m = absurd m
layer_begins s curly square at AnnForm-F.Str ps (x ∷ xs) m = (x, xs, refl, ap (is_symbol s) m.0.1)
layer_begins s curly square at (AnnForm-F.Call a) ps zs m = by_call ((out-Ann a).at) ((out-Ann a).name) ((out-Ann a).args) zs (subst (λ b. Match (begun_at at (annotation b) ++ ps) zs) (sym (opened_annotation a)) m)
  where
    named_first : (c : ℕ) (name : List ℕ) (rest : List Pattern) (ys : List Sign) → Match (placed at (placed c (named name)) ∷ rest) ys → BeginsOther s ys
    named_first c name rest [] k = absurd k
    named_first c name rest (x ∷ xs) k = (x, xs, refl, ap (is_symbol s) k.0.1.1.0)

    by_call : (c : ℕ) (name : List ℕ) (list : Option (List AnnArg)) (ys : List Sign) → Match (begun_at at (annotation (annotation_of c name list)) ++ ps) ys → BeginsOther s ys
    by_call c name list ys k = named_first c name (call_patterns list ++ ps) ys (subst (λ (rs : List Pattern). Match (begun_at at rs ++ ps) ys) (annotation_is c name list) k)
layer_begins s curly square at (AnnForm-F.List list) ps [] m = absurd m
layer_begins s curly square at (AnnForm-F.List list) ps (x ∷ xs) m = (x, xs, refl, ap (is_symbol s) m.0.1 ∙ square)

-- the patterns of an argument, opened
open_argument : (v : AnnArg) (ps : List Pattern) (zs : List Sign) → Match (argument v ++ ps) zs → Match (begun_at ((out-AnnArg v).at) (layer_patterns (layer_of v)) ++ ps) zs
open_argument v ps zs m = subst (λ (rs : List Pattern). Match (rs ++ ps) zs) (ap argument (sym (opened v)) ∙ argument_is ((out-AnnArg v).at) (layer_of v)) m

argument_begins : (s : Symbol) → is_symbol s (kinds.Symbol symbols.OpenCurly) ≡ false → is_symbol s (kinds.Symbol symbols.OpenSquare) ≡ false
    → (v : AnnArg) (ps : List Pattern) (zs : List Sign) → Match (argument v ++ ps) zs → BeginsOther s zs
argument_begins s curly square v ps zs m = layer_begins s curly square ((out-AnnArg v).at) (layer_of v) ps zs (open_argument v ps zs m)

-- ---- arguments

-- a bracket that closes a list of arguments is none that an argument goes on or begins with
abbrev Closes : Symbol → Type 0
Closes close =
    (is_symbol close (kinds.Symbol symbols.Comma) ≡ false) × (is_symbol close (kinds.Symbol symbols.OpenCurly) ≡ false) × (is_symbol close (kinds.Symbol symbols.OpenSquare) ≡ false)
    × (is_symbol symbols.DotDot (kinds.Symbol close) ≡ false) × (is_symbol symbols.OpenRound (kinds.Symbol close) ≡ false)

-- lists of arguments are read again, of fewer tokens than this
abbrev NestAgain : Nest → ℕ → Type 0
NestAgain nest k = (close : Symbol) (what : What) (at : ℕ) (list : List AnnArg) (qs : List Pattern) (xs : List Sign) → length xs < k → Closes close
    → Match (closed argument list close ++ qs) xs → Again (nest close what at xs) list qs

-- nothing that an argument goes on with
abbrev Free : List Pattern → Type 0
Free qs = Avoids symbols.DotDot qs × Avoids symbols.OpenRound qs

again_as : {A : Type 0} (r s : Result (A × List Sign) SyntaxFault) (x : A) (qs : List Pattern) → r ≡ s → Again s x qs → Again r x qs
again_as r s x qs e h = record { ys = h.ys; read = e ∙ h.read; fits = h.fits }

module _ (n : ℕ) (nest : Nest) (k : ℕ) (again : NestAgain nest k) where
  call_again : (list : Option (List AnnArg)) (qs : List Pattern) (xs : List Sign) → length xs ≤ k → Avoids symbols.OpenRound qs → Match (call_patterns list ++ qs) xs → Again (R.call nest xs) list qs
  unfolding R.call
  call_again None qs xs l avoids m = behind_none symbols.OpenRound (nest symbols.CloseRound whats.CommaOrRound) qs xs avoids m
  call_again (Some list) qs xs l avoids m =
      behind_some symbols.OpenRound (nest symbols.CloseRound whats.CommaOrRound) list (closed argument list symbols.CloseRound) qs xs
      (λ at ys less h. again symbols.CloseRound whats.CommaOrRound at list qs ys (omega arith) (refl, refl, refl, refl, refl) h) m

  by_kind : (x : Sign) (xs : List Sign) (kind : TokenKind) (at : ℕ) (form : AnnForm) (qs : List Pattern) → x.kind ≡ kind → x.at ≡ at → Again (argument_by n nest kind at x.bytes xs) form qs → Again (R.argument n nest (x ∷ xs)) (argument_of at form) qs
  unfolding R.argument first
  by_kind x xs kind at form qs is place h = record {
    ys = h.ys;
    read = ap (λ c. argument_by n nest c x.at x.bytes xs >>= (λ f. Ok (argument_of x.at f.0, f.1))) is
        ∙ (ap (λ p. argument_by n nest kind p x.bytes xs >>= (λ f. Ok (argument_of p f.0, f.1))) place ∙ ap (λ q. q >>= (λ f. Ok (argument_of at f.0, f.1))) h.read);
    fits = h.fits;
  }

  num_form : (low : Number) (qs : List Pattern) (xs : List Sign) → Avoids symbols.DotDot qs → Match qs xs → Again (number_argument_at n low xs) (args.Num low.num) qs
  unfolding number_argument_at
  num_form low qs xs avoids m =
      again_bind (upper_end n xs) _ None (args.Num low.num) qs qs (no_upper_again n qs xs avoids m) (λ ys h f. record { ys = ys; read = refl; fits = f })

  range_form : (low high : Number) (qs : List Pattern) (xs : List Sign) → Match (spell.symbol symbols.DotDot ∷ (spell.number high ++ qs)) xs → Again (number_argument_at n low xs) (args.Set (sets.Range low high)) qs
  unfolding number_argument_at
  range_form low high qs xs m =
      again_bind (upper_end n xs) _ (Some high) (args.Set (sets.Range low high)) qs qs (upper_again n high qs xs m) (λ ys h f. record { ys = ys; read = refl; fits = f })

  braces_form : (ns : List Number) (qs : List Pattern) (xs : List Sign) → Match (closed spell.number ns symbols.CloseCurly ++ qs) xs → Again (braced_argument n xs) (args.Set (sets.List ns)) qs
  unfolding braced_argument
  braces_form ns qs xs m = again_bind (braced n xs) _ (sets.List ns) (args.Set (sets.List ns)) qs qs (braced_again n ns qs xs m) (λ ys h f. record { ys = ys; read = refl; fits = f })

  range_again : (x : Sign) (xs : List Sign) (at low_at : ℕ) (num : nums.the_data) (high : Number) (qs : List Pattern) → x.at ≡ at → x.at ≡ low_at → Fits (spell.num num) x
      → Match (spell.symbol symbols.DotDot ∷ (spell.number high ++ qs)) xs → Again (R.argument n nest (x ∷ xs)) (argument_of at (args.Set (sets.Range (record { at = low_at; num = num }) high))) qs
  range_again x xs at low_at num high qs place low_place f m =
      subst (λ p. Again (R.argument n nest (x ∷ xs)) (argument_of at (args.Set (sets.Range (record { at = p; num = num }) high))) qs) (sym place ∙ low_place) (one num f)
    where
      one : (num : nums.the_data) → Fits (spell.num num) x → Again (R.argument n nest (x ∷ xs)) (argument_of at (args.Set (sets.Range (record { at = at; num = num }) high))) qs
      one (nums.Int z) g = by_kind x xs (kinds.Int z) at (args.Set (sets.Range (record { at = at; num = nums.Int z }) high)) qs g place (range_form (record { at = at; num = nums.Int z }) high qs xs m)
      one nums.Large g = by_kind x xs kinds.LargeInt at (args.Set (sets.Range (record { at = at; num = nums.Large }) high)) qs g place (range_form (record { at = at; num = nums.Large }) high qs xs m)
      one nums.Float g = by_kind x xs kinds.Float at (args.Set (sets.Range (record { at = at; num = nums.Float }) high)) qs g place (range_form (record { at = at; num = nums.Float }) high qs xs m)

  call_form : (at : ℕ) (name : List ℕ) (list : Option (List AnnArg)) (qs : List Pattern) (xs : List Sign) → length xs ≤ k → Avoids symbols.OpenRound qs → Match (call_patterns list ++ qs) xs
      → Again (call_argument nest at name xs) (args.Call (annotation_of at name list)) qs
  unfolding call_argument
  call_form at name list qs xs l avoids m =
      again_bind (R.call nest xs) _ list (args.Call (annotation_of at name list)) qs qs (call_again list qs xs l avoids m) (λ ys h f. record { ys = ys; read = refl; fits = f })

  list_form : (at : ℕ) (list : List AnnArg) (qs : List Pattern) (xs : List Sign) → length xs < k → Match (closed argument list symbols.CloseSquare ++ qs) xs → Again (list_argument nest at xs) (args.List list) qs
  unfolding list_argument
  list_form at list qs xs l m =
      again_bind (nest symbols.CloseSquare whats.CommaOrSquare at xs) _ list (args.List list) qs qs (again symbols.CloseSquare whats.CommaOrSquare at list qs xs l (refl, refl, refl, refl, refl) m) (λ ys h f. record { ys = ys; read = refl; fits = f })

  -- a call whose name has the place of the argument
  named_again : (x : Sign) (xs : List Sign) (at c : ℕ) (name : List ℕ) (list : Option (List AnnArg)) (qs : List Pattern) → length xs ≤ k → Avoids symbols.OpenRound qs → x.at ≡ at → x.at ≡ c → x.kind ≡ kinds.Name → x.bytes ≡ name
      → Match (call_patterns list ++ qs) xs → Again (R.argument n nest (x ∷ xs)) (argument_of at (args.Call (annotation_of c name list))) qs
  named_again x xs at c name list qs l avoids place same is bytes m =
      subst (λ p. Again (R.argument n nest (x ∷ xs)) (argument_of at (args.Call (annotation_of p name list))) qs) (sym place ∙ same)
      (subst (λ b. Again (R.argument n nest (x ∷ xs)) (argument_of at (args.Call (annotation_of at b list))) qs) bytes
      (by_kind x xs kinds.Name at (args.Call (annotation_of at x.bytes list)) qs is place (call_form at x.bytes list qs xs l avoids m)))

  calls_again : (at c : ℕ) (name : List ℕ) (list : Option (List AnnArg)) (qs : List Pattern) (xs : List Sign) → length xs ≤ k → Avoids symbols.OpenRound qs
      → Match (placed at (placed c (named name)) ∷ (call_patterns list ++ qs)) xs → Again (R.argument n nest xs) (argument_of at (args.Call (annotation_of c name list))) qs
  calls_again at c name list qs [] l avoids m = absurd m
  calls_again at c name list qs (x ∷ xs) l avoids m = named_again x xs at c name list qs (omega arith) avoids m.0.0 m.0.1.0 m.0.1.1.0 m.0.1.1.1 m.1

  layer_again : (at : ℕ) (form : Layer) (qs : List Pattern) (xs : List Sign) → length xs ≤ k → Free qs → Match (begun_at at (layer_patterns form) ++ qs) xs → Again (R.argument n nest xs) (argument_of at (form_of form)) qs
  layer_again at (AnnForm-F.Bool true) qs [] l free m = absurd m
  layer_again at (AnnForm-F.Bool true) qs (x ∷ xs) l free m = by_kind x xs (kinds.Word words.True) at (args.Bool true) qs m.0.1 m.0.0 (record { ys = xs; read = refl; fits = m.1 })
  layer_again at (AnnForm-F.Bool false) qs [] l free m = absurd m
  layer_again at (AnnForm-F.Bool false) qs (x ∷ xs) l free m = by_kind x xs (kinds.Word words.False) at (args.Bool false) qs m.0.1 m.0.0 (record { ys = xs; read = refl; fits = m.1 })
  layer_again at (AnnForm-F.Num (nums.Int z)) qs [] l free m = absurd m
  layer_again at (AnnForm-F.Num (nums.Int z)) qs (x ∷ xs) l free m = by_kind x xs (kinds.Int z) at (args.Num (nums.Int z)) qs m.0.1 m.0.0 (num_form (record { at = at; num = nums.Int z }) qs xs free.0 m.1)
  layer_again at (AnnForm-F.Num nums.Large) qs [] l free m = absurd m
  layer_again at (AnnForm-F.Num nums.Large) qs (x ∷ xs) l free m = by_kind x xs kinds.LargeInt at (args.Num nums.Large) qs m.0.1 m.0.0 (num_form (record { at = at; num = nums.Large }) qs xs free.0 m.1)
  layer_again at (AnnForm-F.Num nums.Float) qs [] l free m = absurd m
  layer_again at (AnnForm-F.Num nums.Float) qs (x ∷ xs) l free m = by_kind x xs kinds.Float at (args.Num nums.Float) qs m.0.1 m.0.0 (num_form (record { at = at; num = nums.Float }) qs xs free.0 m.1)
  layer_again at (AnnForm-F.Set (sets.Range low high)) qs [] l free m = absurd m
  layer_again at (AnnForm-F.Set (sets.Range low high)) qs (x ∷ xs) l free m = range_again x xs at low.at low.num high qs m.0.0 m.0.1.0 m.0.1.1 m.1
  layer_again at (AnnForm-F.Set (sets.List ns)) qs [] l free m = absurd m
  layer_again at (AnnForm-F.Set (sets.List ns)) qs (x ∷ xs) l free m = by_kind x xs (kinds.Symbol symbols.OpenCurly) at (args.Set (sets.List ns)) qs m.0.1 m.0.0 (braces_form ns qs xs m.1)
  layer_again at AnnForm-F.Str qs [] l free m = absurd m
  layer_again at AnnForm-F.Str qs (x ∷ xs) l free m = by_kind x xs kinds.Text at args.Str qs m.0.1 m.0.0 (record { ys = xs; read = refl; fits = m.1 })
  layer_again at (AnnForm-F.Call a) qs xs l free m =
      let c : ℕ = (out-Ann a).at in let name : List ℕ = (out-Ann a).name in let list : Option (List AnnArg) = (out-Ann a).args in
      subst (λ b. Again (R.argument n nest xs) (argument_of at (args.Call b)) qs) (opened_annotation a)
      (calls_again at c name list qs xs l free.1 (subst (λ (rs : List Pattern). Match (begun_at at rs ++ qs) xs) (ap annotation (sym (opened_annotation a)) ∙ annotation_is c name list) m))
  layer_again at (AnnForm-F.List list) qs [] l free m = absurd m
  layer_again at (AnnForm-F.List list) qs (x ∷ xs) l free m = by_kind x xs (kinds.Symbol symbols.OpenSquare) at (args.List list) qs m.0.1 m.0.0 (list_form at list qs xs (omega arith) m.1)

  argument_again : (v : AnnArg) (qs : List Pattern) (xs : List Sign) → length xs ≤ k → Free qs → Match (argument v ++ qs) xs → Again (R.argument n nest xs) v qs
  argument_again v qs xs l free m =
      subst (λ w. Again (R.argument n nest xs) w qs) (opened v) (layer_again ((out-AnnArg v).at) (layer_of v) qs xs l free (open_argument v qs xs m))

follow_free : (close : Symbol) → Closes close → (ys : List AnnArg) (qs : List Pattern) → Free ((flat_map (λ y. spell.symbol symbols.Comma ∷ argument y) ys ++ spell.symbol close ∷ []) ++ qs)
follow_free close c [] qs = (λ y ys m. ap (is_symbol symbols.DotDot) m.0 ∙ c.3, λ y ys m. ap (is_symbol symbols.OpenRound) m.0 ∙ c.4)
follow_free close c (z ∷ zs) qs = (λ y ys m. ap (is_symbol symbols.DotDot) m.0, λ y ys m. ap (is_symbol symbols.OpenRound) m.0)

nested_again : (n depth : ℕ) → NestAgain (nested n depth) depth
unfolding nested
nested_again n zero close what at list qs xs l c m = absurd (omega arith)
nested_again n (suc depth) close what at list qs xs l c m =
    list_again n (R.argument n (nested n depth)) close what argument (takes_keeps (R.argument n (nested n depth)) (nested_takes n depth)) depth Free
    (λ v ps zs k free h. argument_again n (nested n depth) depth (nested_again n depth) v ps zs k free h) c.0 (follow_free close c) list xs qs (omega arith)
    (λ v ps zs h. argument_begins close c.1 c.2 v ps zs h) m

-- ---- annotations

named_first : (n depth at : ℕ) (name : List ℕ) (list : Option (List AnnArg)) (qs : List Pattern) (xs : List Sign) → length xs ≤ depth → Avoids symbols.OpenRound qs
    → Match (placed at (named name) ∷ (call_patterns list ++ qs)) xs → Again (R.annotation n depth xs) (annotation_of at name list) qs
unfolding R.annotation
named_first n depth at name list qs xs l avoids m =
    let i : Ident = record { at = at; name = name } in
    again_bind (ident n whats.Annotation xs) _ i (annotation_of at name list) (call_patterns list ++ qs) qs (ident_again n whats.Annotation i (call_patterns list ++ qs) xs m)
    (λ ys h f. again_bind (R.call (nested n depth) ys) _ list (annotation_of at name list) qs qs
    (call_again n (nested n depth) depth (nested_again n depth) list qs ys (leaves_at depth (ident n whats.Annotation xs) (i, ys) h (ident_keeps n whats.Annotation depth xs l)) avoids f) (λ zs g e. record { ys = zs; read = refl; fits = e }))

annotation_again : (n depth : ℕ) (a : Ann) (qs : List Pattern) (xs : List Sign) → length xs ≤ depth → Avoids symbols.OpenRound qs → Match (annotation a ++ qs) xs → Again (R.annotation n depth xs) a qs
annotation_again n depth a qs xs l avoids m =
    let at : ℕ = (out-Ann a).at in let name : List ℕ = (out-Ann a).name in let list : Option (List AnnArg) = (out-Ann a).args in
    subst (λ b. Again (R.annotation n depth xs) b qs) (opened_annotation a)
    (named_first n depth at name list qs xs l avoids (subst (λ (rs : List Pattern). Match (rs ++ qs) xs) (ap annotation (sym (opened_annotation a)) ∙ annotation_is at name list) m))

no_bracket : (anns : List Ann) (qs : List Pattern) → Avoids symbols.OpenRound qs → Avoids symbols.OpenRound (spell.annotations anns ++ qs)
no_bracket [] qs avoids = avoids
no_bracket (a ∷ anns) qs avoids = λ y ys m. ap (is_symbol symbols.OpenRound) m.0

annotations_in_again : (n depth : ℕ) (anns : List Ann) (turns : ℕ) (qs : List Pattern) (xs : List Sign) → length xs ≤ turns → length xs ≤ depth → Avoids symbols.ColonColon qs → Avoids symbols.OpenRound qs
    → Match (spell.annotations anns ++ qs) xs → Again (annotations_in n depth turns xs) anns qs
unfolding annotations_in after_if
annotations_in_again n depth [] zero qs xs t l colons avoids m = record { ys = xs; read = refl; fits = m }
annotations_in_again n depth [] (suc turns) qs [] t l colons avoids m = record { ys = []; read = refl; fits = m }
annotations_in_again n depth [] (suc turns) qs (x ∷ xs) t l colons avoids m = record {
  ys = x ∷ xs;
  read = ap (one_annotation (R.annotation n depth) (annotations_in n depth turns) (x ∷ xs)) (cond-false (is_symbol symbols.ColonColon x.kind) (Some (x.at, xs)) None (colons x xs m));
  fits = m;
}
annotations_in_again n depth (a ∷ anns) turns qs [] t l colons avoids m = absurd m
annotations_in_again n depth (a ∷ anns) zero qs (x ∷ xs) t l colons avoids m = absurd (omega arith)
annotations_in_again n depth (a ∷ anns) (suc turns) qs (x ∷ xs) t l colons avoids m =
    let one = annotation_again n depth a (spell.annotations anns ++ qs) xs (omega arith) (no_bracket anns qs avoids) (subst (λ ps. Match ps xs) (append_assoc (annotation a) (spell.annotations anns) qs) m.1) in
    let less : length one.ys ≤ length xs = leaves_at (length xs) (R.annotation n depth xs) (a, one.ys) one.read (takes_keeps (R.annotation n depth) (annotation_takes n depth) (length xs) xs (omega arith)) in
    let rest = annotations_in_again n depth anns turns qs one.ys (omega arith) (omega arith) colons avoids one.fits in
    record {
      ys = rest.ys;
      read = ap (one_annotation (R.annotation n depth) (annotations_in n depth turns) (x ∷ xs)) (cond-true (is_symbol symbols.ColonColon x.kind) (Some (x.at, xs)) None (ap (is_symbol symbols.ColonColon) m.0))
          ∙ (ap (λ q. q >>= (λ z. annotations_in n depth turns z.1 >>= (λ r. Ok (z.0 ∷ r.0, r.1)))) one.read ∙ ap (λ q. q >>= (λ r. Ok (a ∷ r.0, r.1))) rest.read);
      fits = rest.fits;
    }

pub annotations_again : (n depth : ℕ) (anns : List Ann) (qs : List Pattern) (xs : List Sign) → length xs ≤ depth → Avoids symbols.ColonColon qs → Avoids symbols.OpenRound qs
    → Match (spell.annotations anns ++ qs) xs → Again (R.annotations n depth xs) anns qs
unfolding R.annotations
annotations_again n depth anns qs xs l colons avoids m = annotations_in_again n depth anns (length xs) qs xs (omega arith) l colons avoids m
