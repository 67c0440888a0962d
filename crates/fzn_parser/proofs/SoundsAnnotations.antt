-- The patterns of an annotation by those of its arguments.
use Rattle.std.proofs.Common.{◌≡◌, ℕ, zero, suc, Bool, true, false, cond, List, [], ◌∷◌, ◌++◌, length, map, Option, Some, None, Ok, sym, refl, ap, ◌∙◌, subst, append_assoc}
use Rattle.std.specs.List.{flat_map}
use Rattle.fzn_reader.specs.declared.tokens.TokenKind.{TokenKind}
use Rattle.fzn_reader.specs.declared.tokens.TokenKind.TheVariants as kinds
use Rattle.fzn_reader.specs.declared.tokens.Word.TheVariants as words
use Rattle.fzn_reader.specs.declared.tokens.Symbol.{Symbol}
use Rattle.fzn_reader.specs.declared.tokens.Symbol.TheVariants as symbols
use Rattle.fzn_parser.specs.declared.faults.What.{What}
use Rattle.fzn_parser.specs.declared.faults.What.TheVariants as whats
use Rattle.fzn_parser.specs.declared.tree.Num.TheVariants as nums
use Rattle.fzn_parser.specs.declared.tree.Number.{Number}
use Rattle.fzn_parser.specs.declared.tree.SetForm.{SetForm}
use Rattle.fzn_parser.specs.declared.tree.SetForm.TheVariants as sets
use Rattle.fzn_parser.specs.ToCome.{is_symbol}
use Rattle.fzn_parser.specs.Grammar as spell
use Rattle.fzn_parser.specs.Reading as R
use Rattle.fzn_parser.specs.Reading.{◌>>=◌, Nest, first, after_if, braced, upper_end, ident, number_argument, number_argument_at, braced_argument, call_argument, list_argument, argument_by, nested, one_annotation, annotations_in}
use Rattle.fzn_parser.proofs.SameKinds.{symbol_is}
use Rattle.fzn_parser.proofs.Sounds.{Says, says_bind, sign, ident_says, list_says}
use Rattle.fzn_parser.proofs.SoundsParts.{optional, behind_says, upper_says, braced_begun, says_as}
use Rattle.fzn_parser.specs.declared.tree.Ann.{Ann, roll-Ann}
use Rattle.fzn_parser.specs.declared.tree.AnnArg.{AnnArg, roll-AnnArg}
use Rattle.fzn_parser.specs.declared.tree.AnnForm.{AnnForm}
use Rattle.fzn_parser.specs.declared.tree.AnnForm.TheVariants as args
use Rattle.fzn_parser.specs.declared.tree.AnnForm.TheOpen.{AnnForm-F}
use Rattle.fzn_parser.specs.declared.tree.AnnForm.TheFolds.{fold-AnnForm, fold-AnnArg, fold-roll-Ann, fold-roll-AnnArg, fold-roll-AnnForm}
use Rattle.fzn_parser.specs.Grammar.{Sign, Pattern, Match, Fits, token, placed, named, closed, truth, begun_at, call, ann_level, argument_form_level, argument_level, annotation}

abbrev pub argument : AnnArg → List Pattern
argument = fold-AnnArg (List Pattern) (List Pattern) (List Pattern) argument_form_level ann_level argument_level

abbrev pub argument_form : AnnForm → List Pattern
argument_form = fold-AnnForm (List Pattern) (List Pattern) (List Pattern) argument_form_level ann_level argument_level

pub annotation_none : (at : ℕ) (name : List ℕ) → annotation (roll-Ann (record { at = at; name = name; args = None })) ≡ placed at (named name) ∷ []
annotation_none at name = fold-roll-Ann (List Pattern) (List Pattern) (List Pattern) argument_form_level ann_level argument_level (record { at = at; name = name; args = None })

pub annotation_some : (at : ℕ) (name : List ℕ) (list : List AnnArg) → annotation (roll-Ann (record { at = at; name = name; args = Some list })) ≡ placed at (named name) ∷ call (Some (map argument list))
annotation_some at name list = fold-roll-Ann (List Pattern) (List Pattern) (List Pattern) argument_form_level ann_level argument_level (record { at = at; name = name; args = Some list })

pub argument_roll : (at : ℕ) (form : AnnForm) → argument (roll-AnnArg (record { at = at; form = form })) ≡ begun_at at (argument_form form)
argument_roll at form = fold-roll-AnnArg (List Pattern) (List Pattern) (List Pattern) argument_form_level ann_level argument_level (record { at = at; form = form })

pub form_bool : (b : Bool) → argument_form (args.Bool b) ≡ truth b ∷ []
form_bool b = ap argument_form (sym (args.rolls-Bool b)) ∙ fold-roll-AnnForm (List Pattern) (List Pattern) (List Pattern) argument_form_level ann_level argument_level (AnnForm-F.Bool b)

pub form_num : (v : nums.the_data) → argument_form (args.Num v) ≡ spell.num v ∷ []
form_num v = ap argument_form (sym (args.rolls-Num v)) ∙ fold-roll-AnnForm (List Pattern) (List Pattern) (List Pattern) argument_form_level ann_level argument_level (AnnForm-F.Num v)

pub form_set : (v : SetForm) → argument_form (args.Set v) ≡ spell.set_literal v
form_set v = ap argument_form (sym (args.rolls-Set v)) ∙ fold-roll-AnnForm (List Pattern) (List Pattern) (List Pattern) argument_form_level ann_level argument_level (AnnForm-F.Set v)

pub form_str : argument_form args.Str ≡ token kinds.Text ∷ []
form_str = ap argument_form (sym args.rolls-Str) ∙ fold-roll-AnnForm (List Pattern) (List Pattern) (List Pattern) argument_form_level ann_level argument_level AnnForm-F.Str

pub form_call : (a : Ann) → argument_form (args.Call a) ≡ annotation a
form_call a = ap argument_form (sym (args.rolls-Call a)) ∙ fold-roll-AnnForm (List Pattern) (List Pattern) (List Pattern) argument_form_level ann_level argument_level (AnnForm-F.Call a)

pub form_list : (list : List AnnArg) → argument_form (args.List list) ≡ spell.symbol symbols.OpenSquare ∷ closed (λ ps. ps) (map argument list) symbols.CloseSquare
form_list list = ap argument_form (sym (args.rolls-List list)) ∙ fold-roll-AnnForm (List Pattern) (List Pattern) (List Pattern) argument_form_level ann_level argument_level (AnnForm-F.List list)

-- lists of patterns, and lists by their patterns

further_map : (xs : List AnnArg) → flat_map (λ y. spell.symbol symbols.Comma ∷ y) (map argument xs) ≡ flat_map (λ y. spell.symbol symbols.Comma ∷ argument y) xs
further_map [] = refl
further_map (x ∷ xs) = ap (λ (ps : List Pattern). (spell.symbol symbols.Comma ∷ argument x) ++ ps) (further_map xs)

pub closed_map : (xs : List AnnArg) (close : Symbol) → closed (λ ps. ps) (map argument xs) close ≡ closed argument xs close
closed_map [] close = refl
closed_map (x ∷ xs) close = ap (λ (ps : List Pattern). (argument x ++ ps) ++ spell.symbol close ∷ []) (further_map xs)

abbrev pub call_patterns : Option (List AnnArg) → List Pattern
call_patterns None = []
call_patterns (Some list) = spell.symbol symbols.OpenRound ∷ closed argument list symbols.CloseRound

pub annotation_is : (at : ℕ) (name : List ℕ) (list : Option (List AnnArg)) → annotation (roll-Ann (record { at = at; name = name; args = list })) ≡ placed at (named name) ∷ call_patterns list
annotation_is at name None = annotation_none at name
annotation_is at name (Some list) = annotation_some at name list ∙ ap (λ (ps : List Pattern). placed at (named name) ∷ spell.symbol symbols.OpenRound ∷ ps) (closed_map list symbols.CloseRound)

abbrev form_begun : ℕ → AnnForm → List Pattern
form_begun at form = begun_at at (argument_form form)

as_form : (at : ℕ) (zs : List Sign) (form : AnnForm) (ps qs : List Pattern) → argument_form form ≡ ps → Match (begun_at at ps ++ qs) zs → Match (form_begun at form ++ qs) zs
as_form at zs form ps qs is m = subst (λ rs. Match (begun_at at rs ++ qs) zs) (sym is) m

number_end : (at : ℕ) (kind : TokenKind) (bytes : List ℕ) (num : nums.the_data) (xs ys : List Sign) (o : Option Number) → Fits (spell.num num) (sign at kind bytes)
    → ((qs : List Pattern) → Match qs ys → Match (optional symbols.DotDot spell.number o ++ qs) xs) → (qs : List Pattern) → Match qs ys → Match (form_begun at (number_argument (record { at = at; num = num }) o) ++ qs) (sign at kind bytes ∷ xs)
number_end at kind bytes num xs ys None e back qs m = as_form at (sign at kind bytes ∷ xs) (args.Num num) (spell.num num ∷ []) qs (form_num num) ((refl, e), back qs m)
number_end at kind bytes num xs ys (Some h) e back qs m =
    let low : Number = record { at = at; num = num } in
    as_form at (sign at kind bytes ∷ xs) (args.Set (sets.Range low h)) (spell.set_literal (sets.Range low h)) qs (form_set (sets.Range low h)) ((refl, (refl, e)), back qs m)

number_says_form : (n at : ℕ) (kind : TokenKind) (bytes : List ℕ) (num : nums.the_data) (xs : List Sign) → Fits (spell.num num) (sign at kind bytes)
    → Says (sign at kind bytes ∷ xs) (form_begun at) (number_argument_at n (record { at = at; num = num }) xs)
unfolding number_argument_at
number_says_form n at kind bytes num xs e =
    says_bind (sign at kind bytes ∷ xs) xs (optional symbols.DotDot spell.number) (form_begun at) (upper_end n xs) _ (upper_says n xs) (λ h back. number_end at kind bytes num xs h.1 h.0 e back)

-- a reader of lists of arguments reads what is spelled so
abbrev pub NestSays : Nest → Type 0
NestSays nest = (close : Symbol) (what : What) (at : ℕ) (xs : List Sign) → Says xs (λ list. closed argument list close) (nest close what at xs)

call_is : (o : Option (List AnnArg)) → optional symbols.OpenRound (λ list. closed argument list symbols.CloseRound) o ≡ call_patterns o
call_is None = refl
call_is (Some list) = refl

module _ (n : ℕ) (nest : Nest) (says : NestSays nest) where
  call_says : (xs : List Sign) → Says xs call_patterns (R.call nest xs)
  unfolding R.call
  call_says xs =
      says_as xs (optional symbols.OpenRound (λ list. closed argument list symbols.CloseRound)) call_patterns (R.call nest xs) call_is
      (behind_says symbols.OpenRound (nest symbols.CloseRound whats.CommaOrRound) (λ list. closed argument list symbols.CloseRound) xs (λ at ys. says symbols.CloseRound whats.CommaOrRound at ys))

  form_says : (at : ℕ) (kind : TokenKind) (bytes : List ℕ) (xs : List Sign) → Says (sign at kind bytes ∷ xs) (form_begun at) (argument_by n nest kind at bytes xs)
  unfolding braced_argument call_argument list_argument
  form_says at (kinds.Word words.True) bytes xs = λ qs m. as_form at (sign at (kinds.Word words.True) bytes ∷ xs) (args.Bool true) (truth true ∷ []) qs (form_bool true) ((refl, refl), m)
  form_says at (kinds.Word words.False) bytes xs = λ qs m. as_form at (sign at (kinds.Word words.False) bytes ∷ xs) (args.Bool false) (truth false ∷ []) qs (form_bool false) ((refl, refl), m)
  form_says at (kinds.Int z) bytes xs = number_says_form n at (kinds.Int z) bytes (nums.Int z) xs refl
  form_says at kinds.LargeInt bytes xs = number_says_form n at kinds.LargeInt bytes nums.Large xs refl
  form_says at kinds.Float bytes xs = number_says_form n at kinds.Float bytes nums.Float xs refl
  form_says at (kinds.Symbol symbols.OpenCurly) bytes xs =
      let zs : List Sign = sign at (kinds.Symbol symbols.OpenCurly) bytes ∷ xs in
      says_bind zs zs (λ s. begun_at at (spell.set_literal s)) (form_begun at) (braced n xs) _ (braced_begun n (sign at (kinds.Symbol symbols.OpenCurly) bytes) xs refl)
      (λ r back qs m. as_form at zs (args.Set r.0) (spell.set_literal r.0) qs (form_set r.0) (back qs m))
  form_says at kinds.Text bytes xs = λ qs m. as_form at (sign at kinds.Text bytes ∷ xs) args.Str (token kinds.Text ∷ []) qs form_str ((refl, refl), m)
  form_says at kinds.Name bytes xs =
      let zs : List Sign = sign at kinds.Name bytes ∷ xs in
      says_bind zs xs call_patterns (form_begun at) (R.call nest xs) _ (call_says xs)
      (λ r back qs m. as_form at zs (args.Call (roll-Ann (record { at = at; name = bytes; args = r.0 }))) (placed at (named bytes) ∷ call_patterns r.0) qs
      (form_call (roll-Ann (record { at = at; name = bytes; args = r.0 })) ∙ annotation_is at bytes r.0) ((refl, (refl, (refl, refl))), back qs m))
  form_says at (kinds.Symbol symbols.OpenSquare) bytes xs =
      let zs : List Sign = sign at (kinds.Symbol symbols.OpenSquare) bytes ∷ xs in
      says_bind zs xs (λ list. closed argument list symbols.CloseSquare) (form_begun at) (nest symbols.CloseSquare whats.CommaOrSquare at xs) _ (says symbols.CloseSquare whats.CommaOrSquare at xs)
      (λ r back qs m. as_form at zs (args.List r.0) (spell.symbol symbols.OpenSquare ∷ closed argument r.0 symbols.CloseSquare) qs
      (form_list r.0 ∙ ap (λ (ps : List Pattern). spell.symbol symbols.OpenSquare ∷ ps) (closed_map r.0 symbols.CloseSquare)) ((refl, refl), back qs m))
  form_says at _ bytes xs = tt

  argument_says : (xs : List Sign) → Says xs argument (R.argument n nest xs)
  unfolding R.argument first
  argument_says [] = tt
  argument_says (x ∷ xs) =
      says_bind (x ∷ xs) (x ∷ xs) (form_begun x.at) argument (argument_by n nest x.kind x.at x.bytes xs) _ (form_says x.at x.kind x.bytes xs)
      (λ r back qs m. subst (λ (ps : List Pattern). Match (ps ++ qs) (x ∷ xs)) (sym (argument_roll x.at r.0)) (back qs m))

pub nested_says : (n depth : ℕ) → NestSays (nested n depth)
unfolding nested
nested_says n zero close what at xs = tt
nested_says n (suc depth) close what at xs = list_says n (R.argument n (nested n depth)) close what argument (argument_says n (nested n depth) (nested_says n depth)) xs

pub annotation_says : (n depth : ℕ) (xs : List Sign) → Says xs annotation (R.annotation n depth xs)
unfolding R.annotation
annotation_says n depth xs =
    says_bind xs xs spell.ident annotation (ident n whats.Annotation xs) _ (ident_says n whats.Annotation xs)
    (λ i b_i. says_bind xs i.1 call_patterns annotation (R.call (nested n depth) i.1) _ (call_says n (nested n depth) (nested_says n depth) i.1)
    (λ r b_r qs m. subst (λ (ps : List Pattern). Match (ps ++ qs) xs) (sym (annotation_is i.0.at i.0.name r.0)) (b_i (call_patterns r.0 ++ qs) (b_r qs m))))

turn_says : (n depth turns : ℕ) (x : Sign) (xs : List Sign) (b : Bool) → is_symbol symbols.ColonColon x.kind ≡ b → ((ys : List Sign) → Says ys spell.annotations (annotations_in n depth turns ys))
    → Says (x ∷ xs) spell.annotations (one_annotation (R.annotation n depth) (annotations_in n depth turns) (x ∷ xs) (cond b (Some (x.at, xs)) None))
turn_says n depth turns x xs true is rest =
    says_bind (x ∷ xs) xs annotation spell.annotations (R.annotation n depth xs) (λ a. annotations_in n depth turns a.1 >>= (λ more. Ok (a.0 ∷ more.0, more.1))) (annotation_says n depth xs)
    (λ a b_a. says_bind (x ∷ xs) a.1 spell.annotations spell.annotations (annotations_in n depth turns a.1) (λ more. Ok (a.0 ∷ more.0, more.1)) (rest a.1)
    (λ r b_r qs m. (symbol_is symbols.ColonColon x.kind is, subst (λ ps. Match ps xs) (sym (append_assoc (annotation a.0) (spell.annotations r.0) qs)) (b_a (spell.annotations r.0 ++ qs) (b_r qs m)))))
turn_says n depth turns x xs false is rest = λ qs m. m

annotations_in_says : (n depth turns : ℕ) (xs : List Sign) → Says xs spell.annotations (annotations_in n depth turns xs)
unfolding annotations_in after_if
annotations_in_says n depth zero xs = λ qs m. m
annotations_in_says n depth (suc turns) [] = λ qs m. m
annotations_in_says n depth (suc turns) (x ∷ xs) = turn_says n depth turns x xs (is_symbol symbols.ColonColon x.kind) refl (annotations_in_says n depth turns)

pub annotations_says : (n depth : ℕ) (xs : List Sign) → Says xs spell.annotations (R.annotations n depth xs)
unfolding R.annotations
annotations_says n depth xs = annotations_in_says n depth (length xs) xs
