-- What is to come can always come: each part has tokens that fill it, so every beginning goes on to a model.
use Rattle.std.proofs.Common.{◌≡◌, ℕ, suc, ◌≤◌, max, Bool, true, false, cond, not, List, [], ◌∷◌, ◌++◌, Option, Some, None, Result, Ok, Err, sym, refl, ap, ◌∙◌, subst, arith, ltb}
use Rattle.std.specs.Prelude.{option_and_then}
use Rattle.std.specs.Option.{option_map, option_or}
use Rattle.std.specs.List.{flat_map}
use Rattle.std.specs.Str.{bytes_eq}
use Rattle.std.proofs.lemmas.Slice.Eq.{bytes_eq-Decides}
use Rattle.std.proofs.lemmas.Bool.Decides.{Decides-int_eq}
use Rattle.fzn_reader.specs.declared.tokens.TokenKind.{TokenKind}
use Rattle.fzn_reader.specs.declared.tokens.TokenKind.TheVariants as kinds
use Rattle.fzn_reader.specs.declared.tokens.Word.TheVariants as words
use Rattle.fzn_reader.specs.declared.tokens.Symbol.TheVariants as symbols
use Rattle.fzn_reader.specs.Text.{word_text, symbol_text}
use Rattle.fzn_parser.specs.declared.faults.SyntaxFault.{SyntaxFault}
use Rattle.fzn_parser.specs.declared.faults.SyntaxFault.TheVariants as faults
use Rattle.fzn_parser.specs.declared.tree.Item.{Item}
use Rattle.fzn_parser.specs.Grammar.{Sign}
use Rattle.fzn_parser.specs.ToCome as part
use Rattle.fzn_parser.specs.ToCome.{Part, same_kind, is_symbol, follows, may_be_missing, after_one, after_all, to_come, brackets}
use Rattle.fzn_parser.specs.Faults.{IsModel, BeginsModel}
use Rattle.fzn_parser.specs.Reading.{model}
use Rattle.fzn_parser.proofs.Tracks.{Outcome, complete, deep, on_next, scan, outcome_of, passes}
use Rattle.fzn_parser.proofs.TracksItems.{outcome_of_all, model_tracks}
use Rattle.fzn_parser.proofs.SoundsAnnotations.{annotations_says}
use Rattle.fzn_parser.proofs.SoundsItems.{SaysAll, model_says}

-- ---- a part that no `::` fills first

-- no list
abbrev pub plain : Part → Bool
plain (part.must kind what) = not (is_symbol symbols.ColonColon kind)
plain (part.list_of p close what) = false
plain (part.more_of p close what) = false
plain _ = true

-- a list has parts that are none
abbrev pub usual : Part → Bool
usual (part.must kind what) = not (is_symbol symbols.ColonColon kind)
usual (part.list_of p close what) = cond (is_symbol symbols.ColonColon (kinds.Symbol close)) false (plain p)
usual (part.more_of p close what) = cond (is_symbol symbols.ColonColon (kinds.Symbol close)) false (plain p)
usual _ = true

pub plain_usual : (p : Part) → plain p ≡ true → usual p ≡ true
plain_usual (part.must kind what) h = h
plain_usual (part.list_of p close what) h = absurd (cc)
plain_usual (part.more_of p close what) h = absurd (cc)
plain_usual _ h = refl

abbrev pub all_usual : List Part → Bool
all_usual [] = true
all_usual (p ∷ ps) = cond (usual p) (all_usual ps) false

abbrev pub Usual : Option (List Part) → Type 0
Usual None = Unit {0}
Usual (Some ps) = all_usual ps ≡ true

pub split_cond : (b c : Bool) → cond b c false ≡ true → (b ≡ true) × (c ≡ true)
split_cond true c h = (refl, h)
split_cond false c h = absurd (cc)

join_cond : (b c : Bool) → b ≡ true → c ≡ true → cond b c false ≡ true
join_cond b c h k = ap (λ z. cond z c false) h ∙ k

usual-append : (ps qs : List Part) → all_usual ps ≡ true → all_usual qs ≡ true → all_usual (ps ++ qs) ≡ true
usual-append [] qs a b = b
usual-append (p ∷ ps) qs a b = let h = split_cond (usual p) (all_usual ps) a in join_cond (usual p) (all_usual (ps ++ qs)) h.0 (usual-append ps qs h.1 b)

then_more : (o : Option (List Part)) (m : Part) → Usual o → usual m ≡ true → Usual (option_map (λ ps. ps ++ m ∷ []) o)
then_more None m h u = tt
then_more (Some ps) m h u = usual-append ps (m ∷ []) h (join_cond (usual m) true u refl)

if_usual : (b : Bool) (o : Option (List Part)) → Usual o → Usual (cond b (Some []) o)
if_usual true o h = refl
if_usual false o h = h

if_some : (b : Bool) (ps : List Part) → all_usual ps ≡ true → Usual (cond b (Some ps) None)
if_some true ps h = h
if_some false ps h = tt

pub list_parts : (b u : Bool) → cond b false u ≡ true → u ≡ true
list_parts true u h = absurd (cc)
list_parts false u h = h

kept : (p : Part) (kind : TokenKind) → usual p ≡ true → Usual (follows p kind)
kept (part.must k what) kind u = if_usual (same_kind k kind) None tt
kept part.a_name kinds.Name u = refl
kept part.an_integer (kinds.Int z) u = refl
kept part.an_integer kinds.LargeInt u = refl
kept part.a_number (kinds.Int z) u = refl
kept part.a_number kinds.LargeInt u = refl
kept part.a_number kinds.Float u = refl
kept part.items (kinds.Word words.Predicate) u = refl
kept part.items (kinds.Word words.Bool) u = refl
kept part.items (kinds.Word words.Int) u = refl
kept part.items (kinds.Word words.Float) u = refl
kept part.items (kinds.Word words.Set) u = refl
kept part.items (kinds.Word words.Var) u = refl
kept part.items (kinds.Word words.Array) u = refl
kept part.items (kinds.Word words.Constraint) u = refl
kept part.items (kinds.Word words.Solve) u = refl
kept part.to_semicolon (kinds.Symbol symbols.Semicolon) u = refl
kept part.to_semicolon _ u = refl
kept part.a_type (kinds.Word words.Bool) u = refl
kept part.a_type (kinds.Word words.Int) u = refl
kept part.a_type (kinds.Word words.Float) u = refl
kept part.a_type (kinds.Word words.Set) u = refl
kept part.a_type (kinds.Word words.Var) u = refl
kept part.a_var_type (kinds.Word words.Bool) u = refl
kept part.a_var_type (kinds.Word words.Int) u = refl
kept part.a_var_type (kinds.Word words.Float) u = refl
kept part.a_var_type (kinds.Word words.Set) u = refl
kept part.a_var_type (kinds.Int z) u = refl
kept part.a_var_type kinds.LargeInt u = refl
kept part.a_var_type kinds.Float u = refl
kept part.a_var_type (kinds.Symbol symbols.OpenCurly) u = refl
kept part.a_set_type (kinds.Word words.Int) u = refl
kept part.a_set_type (kinds.Int z) u = refl
kept part.a_set_type kinds.LargeInt u = refl
kept part.a_set_type kinds.Float u = refl
kept part.a_set_type (kinds.Symbol symbols.OpenCurly) u = refl
kept part.goal (kinds.Word words.Satisfy) u = refl
kept part.goal (kinds.Word words.Minimize) u = refl
kept part.goal (kinds.Word words.Maximize) u = refl
kept part.basic (kinds.Word words.True) u = refl
kept part.basic (kinds.Word words.False) u = refl
kept part.basic (kinds.Int z) u = refl
kept part.basic kinds.LargeInt u = refl
kept part.basic kinds.Float u = refl
kept part.basic (kinds.Symbol symbols.OpenCurly) u = refl
kept part.basic kinds.Name u = refl
kept part.expression (kinds.Word words.True) u = refl
kept part.expression (kinds.Word words.False) u = refl
kept part.expression (kinds.Int z) u = refl
kept part.expression kinds.LargeInt u = refl
kept part.expression kinds.Float u = refl
kept part.expression (kinds.Symbol symbols.OpenCurly) u = refl
kept part.expression kinds.Name u = refl
kept part.expression (kinds.Symbol symbols.OpenSquare) u = refl
kept part.annotation kinds.Name u = refl
kept part.argument (kinds.Word words.True) u = refl
kept part.argument (kinds.Word words.False) u = refl
kept part.argument (kinds.Int z) u = refl
kept part.argument kinds.LargeInt u = refl
kept part.argument kinds.Float u = refl
kept part.argument (kinds.Symbol symbols.OpenCurly) u = refl
kept part.argument kinds.Text u = refl
kept part.argument kinds.Name u = refl
kept part.argument (kinds.Symbol symbols.OpenSquare) u = refl
kept part.annotations (kinds.Symbol symbols.ColonColon) u = refl
kept part.call (kinds.Symbol symbols.OpenRound) u = refl
kept part.upper_end (kinds.Symbol symbols.DotDot) u = refl
kept part.value (kinds.Symbol symbols.Equals) u = refl
kept (part.list_of p close what) kind u =
    if_usual (is_symbol close kind) (option_map (λ ps. ps ++ part.more_of p close what ∷ []) (follows p kind)) (then_more (follows p kind) (part.more_of p close what) (kept p kind (plain_usual p (list_parts (is_symbol symbols.ColonColon (kinds.Symbol close)) (plain p) u))) u)
kept (part.more_of p close what) kind u =
    if_usual (is_symbol close kind) (cond (is_symbol symbols.Comma kind) (Some (p ∷ part.more_of p close what ∷ [])) None)
    (if_some (is_symbol symbols.Comma kind) (p ∷ part.more_of p close what ∷ []) (join_cond (usual p) (cond (usual (part.more_of p close what)) true false) (plain_usual p (list_parts (is_symbol symbols.ColonColon (kinds.Symbol close)) (plain p) u)) (join_cond (usual (part.more_of p close what)) true u refl)))
kept _ _ u = tt

or_usual : (a b : Option (List Part)) → Usual a → Usual b → Usual (option_or a b)
or_usual None b h k = k
or_usual (Some ps) b h k = h

before_rest : (o : Option (List Part)) (rest : List Part) → Usual o → all_usual rest ≡ true → Usual (option_map (λ ps. ps ++ rest) o)
before_rest None rest h u = tt
before_rest (Some ps) rest h u = usual-append ps rest h u

choose_usual : (b : Bool) (o : Option (List Part)) → Usual o → Usual (cond b o None)
choose_usual true o h = h
choose_usual false o h = tt

one_usual : (parts : List Part) (kind : TokenKind) → all_usual parts ≡ true → Usual (after_one parts kind)
one_usual [] kind u = tt
one_usual (p ∷ rest) kind u =
    let h = split_cond (usual p) (all_usual rest) u in
    or_usual (option_map (λ ps. ps ++ rest) (follows p kind)) (cond (may_be_missing p) (after_one rest kind) None) (before_rest (follows p kind) rest (kept p kind h.0) h.1)
    (choose_usual (may_be_missing p) (after_one rest kind) (one_usual rest kind h.1))

all_of_one : (o : Option (List Part)) (xs : List Sign) → Usual o → ((rest : List Part) → all_usual rest ≡ true → Usual (after_all rest xs)) → Usual (option_and_then (λ rest. after_all rest xs) o)
all_of_one None xs u f = tt
all_of_one (Some rest) xs u f = f rest u

pub all_kept : (xs : List Sign) (parts : List Part) → all_usual parts ≡ true → Usual (after_all parts xs)
all_kept [] parts u = u
all_kept (x ∷ xs) parts u = all_of_one (after_one parts x.kind) xs (one_usual parts x.kind u) (λ rest h. all_kept xs rest h)

-- ---- tokens that fill a part

abbrev a : TokenKind → Sign
a kind = record { at = 0; kind = kind; bytes = [] }

abbrev round_brackets : List Sign
round_brackets = a (kinds.Symbol symbols.OpenRound) ∷ a (kinds.Symbol symbols.CloseRound) ∷ []

abbrev fill : Part → List Sign
fill (part.must kind what) = a kind ∷ []
fill part.a_name = a kinds.Name ∷ []
fill part.an_integer = a kinds.LargeInt ∷ []
fill part.a_number = a kinds.LargeInt ∷ []
fill part.items = a (kinds.Word words.Solve) ∷ a (kinds.Word words.Satisfy) ∷ a (kinds.Symbol symbols.Semicolon) ∷ []
fill part.to_semicolon = a (kinds.Symbol symbols.Semicolon) ∷ []
fill part.a_type = a (kinds.Word words.Bool) ∷ []
fill part.a_var_type = a (kinds.Word words.Bool) ∷ []
fill part.a_set_type = a (kinds.Word words.Int) ∷ []
fill part.goal = a (kinds.Word words.Satisfy) ∷ []
fill part.expression = a (kinds.Word words.True) ∷ []
fill part.basic = a (kinds.Word words.True) ∷ []
fill part.annotation = a kinds.Name ∷ round_brackets
fill part.argument = a (kinds.Word words.True) ∷ []
fill (part.list_of p close what) = a (kinds.Symbol close) ∷ []
fill (part.more_of p close what) = a (kinds.Symbol close) ∷ []
fill part.annotations = []
fill part.call = round_brackets
fill part.upper_end = a (kinds.Symbol symbols.DotDot) ∷ a kinds.LargeInt ∷ []
fill part.value = a (kinds.Symbol symbols.Equals) ∷ a (kinds.Word words.True) ∷ []

abbrev fill_all : List Part → List Sign
fill_all parts = flat_map fill parts

bytes_eq-refl : (bytes : List ℕ) → bytes_eq bytes bytes ≡ true
bytes_eq-refl bytes = (bytes_eq-Decides bytes bytes).1 refl

pub same_kind-refl : (kind : TokenKind) → same_kind kind kind ≡ true
same_kind-refl kinds.Name = refl
same_kind-refl (kinds.Word w) = bytes_eq-refl (word_text w)
same_kind-refl (kinds.Int z) = (Decides-int_eq z z).1 refl
same_kind-refl kinds.LargeInt = refl
same_kind-refl kinds.Float = refl
same_kind-refl kinds.Text = refl
same_kind-refl (kinds.Symbol s) = bytes_eq-refl (symbol_text s)

-- the first token is no `::`
abbrev NotColons : List Sign → Type 0
NotColons [] = Unit {0}
NotColons (x ∷ xs) = is_symbol symbols.ColonColon x.kind ≡ false

not_true : (b : Bool) → not b ≡ true → b ≡ false
not_true true h = absurd (cc)
not_true false h = refl

close_not : (b u : Bool) → cond b false u ≡ true → b ≡ false
close_not true u h = absurd (cc)
close_not false u h = refl

filled_not : (parts : List Part) → all_usual parts ≡ true → NotColons (fill_all parts)
filled_not [] u = tt
filled_not (part.must kind what ∷ rest) u = not_true (is_symbol symbols.ColonColon kind) ((split_cond (not (is_symbol symbols.ColonColon kind)) (all_usual rest) u).0)
filled_not (part.list_of p close what ∷ rest) u = close_not (is_symbol symbols.ColonColon (kinds.Symbol close)) (plain p) ((split_cond (usual (part.list_of p close what)) (all_usual rest) u).0)
filled_not (part.more_of p close what ∷ rest) u = close_not (is_symbol symbols.ColonColon (kinds.Symbol close)) (plain p) ((split_cond (usual (part.more_of p close what)) (all_usual rest) u).0)
filled_not (part.annotations ∷ rest) u = filled_not rest u
filled_not (_ ∷ rest) u = refl

no_annotation : (kind : TokenKind) → is_symbol symbols.ColonColon kind ≡ false → follows part.annotations kind ≡ None
no_annotation (kinds.Symbol symbols.ColonColon) h = absurd (cc)
no_annotation kind h = refl

skip_annotations : (go : List Part → Outcome) (limit at : ℕ) (rest : List Part) (o p : Option (List Part)) → o ≡ None
    → on_next go limit at (part.annotations ∷ rest) (option_or (option_map (λ ps. ps ++ rest) o) p) ≡ on_next go limit at rest p
skip_annotations go limit at rest o None h = ap (λ z. on_next go limit at (part.annotations ∷ rest) (option_or (option_map (λ ps. ps ++ rest) z) None)) h
skip_annotations go limit at rest o (Some ps) h = ap (λ z. on_next go limit at (part.annotations ∷ rest) (option_or (option_map (λ ps. ps ++ rest) z) (Some ps))) h

module _ (limit : ℕ) where
  annotations_none : (rest : List Part) (ys : List Sign) → NotColons ys → scan limit (part.annotations ∷ rest) ys ≡ scan limit rest ys
  annotations_none rest [] nc = refl
  annotations_none rest (y ∷ ys) nc = skip_annotations (λ ps. scan limit ps ys) limit y.at rest (follows part.annotations y.kind) (after_one rest y.kind) (no_annotation y.kind nc)

  take_one : (p : Part) (at : ℕ) (rest : List Part) (ys : List Sign) (b : Bool) (o : Option (List Part)) → b ≡ true → brackets rest ≤ limit
      → on_next (λ ps. scan limit ps ys) limit at (p ∷ rest) (option_or (option_map (λ ps. ps ++ rest) (cond b (Some []) o)) None) ≡ scan limit rest ys
  take_one p at rest ys b o h fits =
      ap (λ z. on_next (λ ps. scan limit ps ys) limit at (p ∷ rest) (option_or (option_map (λ ps. ps ++ rest) (cond z (Some []) o)) None)) h ∙ passes limit rest (deep at) (scan limit rest ys) fits

  pass : (parts : List Part) (x : Sign) (ys : List Sign) → brackets parts ≤ limit → cond (ltb limit (brackets parts)) (deep x.at) (scan limit parts ys) ≡ scan limit parts ys
  pass parts x ys fits = passes limit parts (deep x.at) (scan limit parts ys) fits

  take_brackets : (rest : List Part) (x : Sign) (ys : List Sign) → suc (brackets rest) ≤ limit
      → cond (ltb limit (brackets (part.round part.argument ∷ rest))) (deep x.at) (scan limit (part.round part.argument ∷ rest) (a (kinds.Symbol symbols.CloseRound) ∷ ys)) ≡ scan limit rest ys
  take_brackets rest x ys fits = pass (part.round part.argument ∷ rest) x (a (kinds.Symbol symbols.CloseRound) ∷ ys) fits ∙ pass rest (a (kinds.Symbol symbols.CloseRound)) ys (omega arith)

  fills_one : (p : Part) (rest : List Part) (ys : List Sign) → NotColons ys → suc (brackets rest) ≤ limit → scan limit (p ∷ rest) (fill p ++ ys) ≡ scan limit rest ys
  fills_one (part.must kind what) rest ys nc fits = take_one (part.must kind what) 0 rest ys (same_kind kind kind) None (same_kind-refl kind) (omega arith)
  fills_one part.a_name rest ys nc fits = pass rest (a kinds.Name) ys (omega arith)
  fills_one part.an_integer rest ys nc fits = pass rest (a kinds.Name) ys (omega arith)
  fills_one part.a_number rest ys nc fits = pass rest (a kinds.Name) ys (omega arith)
  fills_one part.items rest ys nc fits =
      pass (part.annotations ∷ part.goal ∷ part.semicolon ∷ rest) (a kinds.Name) (a (kinds.Word words.Satisfy) ∷ a (kinds.Symbol symbols.Semicolon) ∷ ys) (omega arith)
      ∙ (pass (part.semicolon ∷ rest) (a kinds.Name) (a (kinds.Symbol symbols.Semicolon) ∷ ys) (omega arith) ∙ pass rest (a kinds.Name) ys (omega arith))
  fills_one part.to_semicolon rest ys nc fits = pass rest (a kinds.Name) ys (omega arith)
  fills_one part.a_type rest ys nc fits = pass rest (a kinds.Name) ys (omega arith)
  fills_one part.a_var_type rest ys nc fits = pass rest (a kinds.Name) ys (omega arith)
  fills_one part.a_set_type rest ys nc fits = pass rest (a kinds.Name) ys (omega arith)
  fills_one part.goal rest ys nc fits = pass rest (a kinds.Name) ys (omega arith)
  fills_one part.expression rest ys nc fits = pass rest (a kinds.Name) ys (omega arith)
  fills_one part.basic rest ys nc fits = pass rest (a kinds.Name) ys (omega arith)
  fills_one part.annotation rest ys nc fits = pass (part.call ∷ rest) (a kinds.Name) (round_brackets ++ ys) (omega arith) ∙ take_brackets rest (a kinds.Name) ys fits
  fills_one part.argument rest ys nc fits = pass rest (a kinds.Name) ys (omega arith)
  fills_one (part.list_of p close what) rest ys nc fits =
      take_one (part.list_of p close what) 0 rest ys (is_symbol close (kinds.Symbol close)) (option_map (λ ps. ps ++ part.more_of p close what ∷ []) (follows p (kinds.Symbol close))) (same_kind-refl (kinds.Symbol close)) (omega arith)
  fills_one (part.more_of p close what) rest ys nc fits =
      take_one (part.more_of p close what) 0 rest ys (is_symbol close (kinds.Symbol close)) (cond (is_symbol symbols.Comma (kinds.Symbol close)) (Some (p ∷ part.more_of p close what ∷ [])) None) (same_kind-refl (kinds.Symbol close)) (omega arith)
  fills_one part.annotations rest ys nc fits = annotations_none rest ys nc
  fills_one part.call rest ys nc fits = take_brackets rest (a kinds.Name) ys fits
  fills_one part.upper_end rest ys nc fits = pass (part.a_number ∷ rest) (a kinds.Name) (a kinds.LargeInt ∷ ys) (omega arith) ∙ pass rest (a kinds.Name) ys (omega arith)
  fills_one part.value rest ys nc fits = pass (part.expression ∷ rest) (a kinds.Name) (a (kinds.Word words.True) ∷ ys) (omega arith) ∙ pass rest (a kinds.Name) ys (omega arith)

  more_brackets : (b : Bool) (k : ℕ) → suc (cond b (suc k) k) ≤ limit → suc k ≤ limit
  more_brackets true k h = omega arith
  more_brackets false k h = h

  fills : (parts : List Part) → all_usual parts ≡ true → suc (brackets parts) ≤ limit → scan limit parts (fill_all parts) ≡ complete
  fills [] u fits = refl
  fills (p ∷ rest) u fits =
      let h = split_cond (usual p) (all_usual rest) u in
      let room : suc (brackets rest) ≤ limit = more_brackets (part.closes_annotation p) (brackets rest) fits in
      fills_one p rest (fill_all rest) (filled_not rest h.1) room ∙ fills rest h.1 room

-- ---- the brackets that are open at the most

abbrev pub peak_of : (List Part → ℕ) → Option (List Part) → ℕ
peak_of f None = 0
peak_of f (Some parts) = max (brackets parts) (f parts)

abbrev pub peak : List Sign → List Part → ℕ
peak [] parts = 0
peak (x ∷ xs) parts = peak_of (peak xs) (after_one parts x.kind)

front_step : (limit at : ℕ) (parts : List Part) (xs ys : List Sign) (rest : List Part) (o : Option (List Part)) → option_and_then (λ ps. after_all ps xs) o ≡ Some rest → peak_of (peak xs) o ≤ limit
    → ((ps : List Part) → after_all ps xs ≡ Some rest → peak xs ps ≤ limit → scan limit ps (xs ++ ys) ≡ scan limit rest ys)
    → on_next (λ ps. scan limit ps (xs ++ ys)) limit at parts o ≡ scan limit rest ys
front_step limit at parts xs ys rest None h l next = absurd (cc)
front_step limit at parts xs ys rest (Some ps) h l next =
    passes limit ps (deep at) (scan limit ps (xs ++ ys)) (omega arith) ∙ next ps h (omega arith)

pub scan_front : (limit : ℕ) (xs ys : List Sign) (parts rest : List Part) → after_all parts xs ≡ Some rest → peak xs parts ≤ limit → scan limit parts (xs ++ ys) ≡ scan limit rest ys
scan_front limit [] ys parts rest h l = let same : parts ≡ rest = cc in ap (λ ps. scan limit ps ys) same
scan_front limit (x ∷ xs) ys parts rest h l = front_step limit x.at parts xs ys rest (after_one parts x.kind) h l (λ ps k m. scan_front limit xs ys ps rest k m)

-- ---- models

pub no_fault : (e : SyntaxFault) → outcome_of e ≡ complete → ⊥
no_fault (faults.Expected at what) h = cc
no_fault (faults.EndOfFile at) h = cc
no_fault (faults.TooDeep at) h = cc
no_fault faults.Memory h = cc

read_model : (limit : ℕ) (zs : List Sign) (r : Result (List Item) SyntaxFault) → outcome_of_all r ≡ complete → SaysAll 0 limit (annotations_says 0 limit) zs r → IsModel zs
read_model limit zs (Ok items) h s = record { tree = record { items = items }; spelled = s }
read_model limit zs (Err e) h s = absurd (no_fault e h)

-- tokens that end where nothing more is to come are a model
pub is_model : (limit : ℕ) (zs : List Sign) → scan limit (part.items ∷ []) zs ≡ complete → IsModel zs
is_model limit zs whole = read_model limit zs (model 0 limit zs) (sym (model_tracks limit 0 limit (omega arith) zs) ∙ whole) (model_says 0 limit (annotations_says 0 limit) zs)

begins_at : (limit : ℕ) (xs : List Sign) (rest : List Part) → peak xs (part.items ∷ []) ≤ limit → suc (brackets rest) ≤ limit → to_come xs ≡ Some rest → BeginsModel xs
begins_at limit xs rest high room h = record {
  more = fill_all rest;
  model = is_model limit (xs ++ fill_all rest)
      (scan_front limit xs (fill_all rest) (part.items ∷ []) rest h high ∙ fills limit rest (subst Usual h (all_kept xs (part.items ∷ []) refl)) room);
}

-- tokens that some parts may follow begin a model
pub begins : (xs : List Sign) (rest : List Part) → to_come xs ≡ Some rest → BeginsModel xs
begins xs rest h = begins_at (max (peak xs (part.items ∷ [])) (suc (brackets rest))) xs rest (omega arith) (omega arith) h
