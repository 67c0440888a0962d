-- A token opens one bracket of an annotation at the most.
use Rattle.std.proofs.Common.{◌≡◌, ℕ, suc, ◌+◌, ◌≤◌, Bool, true, false, cond, List, [], ◌∷◌, ◌++◌, Option, Some, None, refl, arith}
use Rattle.std.specs.Option.{option_map, option_or}
use Rattle.fzn_reader.specs.declared.tokens.TokenKind.{TokenKind}
use Rattle.fzn_reader.specs.declared.tokens.TokenKind.TheVariants as kinds
use Rattle.fzn_reader.specs.declared.tokens.Word.TheVariants as words
use Rattle.fzn_reader.specs.declared.tokens.Symbol.{Symbol}
use Rattle.fzn_reader.specs.declared.tokens.Symbol.TheVariants as symbols
use Rattle.fzn_parser.specs.declared.faults.What.{What}
use Rattle.fzn_parser.specs.ToCome as part
use Rattle.fzn_parser.specs.ToCome.{Part, same_kind, is_symbol, follows, may_be_missing, after_one, closes_annotation, brackets, brackets_in}
use Rattle.fzn_parser.proofs.Completions.{plain, usual, all_usual, split_cond, list_parts, plain_usual}

-- the bracket that a part ends in
abbrev own : Part → ℕ
own p = cond (closes_annotation p) 1 0

counted : (b : Bool) (k : ℕ) → cond b (suc k) k ≡ cond b 1 0 + k
counted true k = omega arith
counted false k = omega arith

brackets-cons : (p : Part) (rest : List Part) → brackets (p ∷ rest) ≡ own p + brackets rest
brackets-cons p rest = counted (closes_annotation p) (brackets rest)

brackets-append : (ps qs : List Part) → brackets (ps ++ qs) ≡ brackets ps + brackets qs
brackets-append [] qs = omega arith
brackets-append (p ∷ ps) qs =
    let a : brackets (p ∷ ps ++ qs) ≡ own p + brackets (ps ++ qs) = brackets-cons p (ps ++ qs) in
    let b : brackets (p ∷ ps) ≡ own p + brackets ps = brackets-cons p ps in
    let c : brackets (ps ++ qs) ≡ brackets ps + brackets qs = brackets-append ps qs in
    omega arith

plain_own : (p : Part) → plain p ≡ true → own p ≡ 0
plain_own (part.list_of p close what) h = absurd (cc)
plain_own (part.more_of p close what) h = absurd (cc)
plain_own _ h = refl

list_own : (p : Part) (close : Symbol) (what : What) → own (part.list_of p close what) ≡ own (part.more_of p close what)
list_own part.argument close what = refl
list_own _ close what = refl

if_few : (b : Bool) (k : ℕ) (o : Option (List Part)) → brackets_in o ≤ k → brackets_in (cond b (Some []) o) ≤ k
if_few true k o h = omega arith
if_few false k o h = h

if_some_few : (b : Bool) (k : ℕ) (ps : List Part) → brackets ps ≤ k → brackets_in (cond b (Some ps) None) ≤ k
if_some_few true k ps h = h
if_some_few false k ps h = omega arith

then_few : (k : ℕ) (o : Option (List Part)) (qs : List Part) → brackets_in o ≤ k → brackets_in (option_map (λ ps. ps ++ qs) o) ≤ k + brackets qs
then_few k None qs h = omega arith
then_few k (Some ps) qs h = let same : brackets (ps ++ qs) ≡ brackets ps + brackets qs = brackets-append ps qs in omega arith

opens_one : (p : Part) (kind : TokenKind) → usual p ≡ true → brackets_in (follows p kind) ≤ suc (own p)
opens_one (part.must k what) kind u = if_few (same_kind k kind) 1 None (omega arith)
opens_one (part.list_of p close what) kind u =
    let flat : own p ≡ 0 = plain_own p (list_parts (is_symbol symbols.ColonColon (kinds.Symbol close)) (plain p) u) in
    let same : own (part.list_of p close what) ≡ own (part.more_of p close what) = list_own p close what in
    let one : brackets_in (follows p kind) ≤ suc (own p) = opens_one p kind (plain_usual p (list_parts (is_symbol symbols.ColonColon (kinds.Symbol close)) (plain p) u)) in
    let last : brackets (part.more_of p close what ∷ []) ≡ own (part.more_of p close what) + 0 = brackets-cons (part.more_of p close what) [] in
    let more : brackets_in (option_map (λ ps. ps ++ part.more_of p close what ∷ []) (follows p kind)) ≤ suc (own p) + brackets (part.more_of p close what ∷ []) = then_few (suc (own p)) (follows p kind) (part.more_of p close what ∷ []) one in
    if_few (is_symbol close kind) (suc (own (part.list_of p close what))) (option_map (λ ps. ps ++ part.more_of p close what ∷ []) (follows p kind)) (omega arith)
opens_one (part.more_of p close what) kind u =
    let flat : own p ≡ 0 = plain_own p (list_parts (is_symbol symbols.ColonColon (kinds.Symbol close)) (plain p) u) in
    let last : brackets (part.more_of p close what ∷ []) ≡ own (part.more_of p close what) + 0 = brackets-cons (part.more_of p close what) [] in
    let both : brackets (p ∷ part.more_of p close what ∷ []) ≡ own p + brackets (part.more_of p close what ∷ []) = brackets-cons p (part.more_of p close what ∷ []) in
    if_few (is_symbol close kind) (suc (own (part.more_of p close what))) (cond (is_symbol symbols.Comma kind) (Some (p ∷ part.more_of p close what ∷ [])) None)
    (if_some_few (is_symbol symbols.Comma kind) (suc (own (part.more_of p close what))) (p ∷ part.more_of p close what ∷ []) (omega arith))
opens_one part.a_name kinds.Name u = omega arith
opens_one part.an_integer (kinds.Int z) u = omega arith
opens_one part.an_integer kinds.LargeInt u = omega arith
opens_one part.a_number (kinds.Int z) u = omega arith
opens_one part.a_number kinds.LargeInt u = omega arith
opens_one part.a_number kinds.Float u = omega arith
opens_one part.items (kinds.Word words.Predicate) u = omega arith
opens_one part.items (kinds.Word words.Bool) u = omega arith
opens_one part.items (kinds.Word words.Int) u = omega arith
opens_one part.items (kinds.Word words.Float) u = omega arith
opens_one part.items (kinds.Word words.Set) u = omega arith
opens_one part.items (kinds.Word words.Var) u = omega arith
opens_one part.items (kinds.Word words.Array) u = omega arith
opens_one part.items (kinds.Word words.Constraint) u = omega arith
opens_one part.items (kinds.Word words.Solve) u = omega arith
opens_one part.to_semicolon (kinds.Symbol symbols.Semicolon) u = omega arith
opens_one part.to_semicolon _ u = omega arith
opens_one part.a_type (kinds.Word words.Bool) u = omega arith
opens_one part.a_type (kinds.Word words.Int) u = omega arith
opens_one part.a_type (kinds.Word words.Float) u = omega arith
opens_one part.a_type (kinds.Word words.Set) u = omega arith
opens_one part.a_type (kinds.Word words.Var) u = omega arith
opens_one part.a_var_type (kinds.Word words.Bool) u = omega arith
opens_one part.a_var_type (kinds.Word words.Int) u = omega arith
opens_one part.a_var_type (kinds.Word words.Float) u = omega arith
opens_one part.a_var_type (kinds.Word words.Set) u = omega arith
opens_one part.a_var_type (kinds.Int z) u = omega arith
opens_one part.a_var_type kinds.LargeInt u = omega arith
opens_one part.a_var_type kinds.Float u = omega arith
opens_one part.a_var_type (kinds.Symbol symbols.OpenCurly) u = omega arith
opens_one part.a_set_type (kinds.Word words.Int) u = omega arith
opens_one part.a_set_type (kinds.Int z) u = omega arith
opens_one part.a_set_type kinds.LargeInt u = omega arith
opens_one part.a_set_type kinds.Float u = omega arith
opens_one part.a_set_type (kinds.Symbol symbols.OpenCurly) u = omega arith
opens_one part.goal (kinds.Word words.Satisfy) u = omega arith
opens_one part.goal (kinds.Word words.Minimize) u = omega arith
opens_one part.goal (kinds.Word words.Maximize) u = omega arith
opens_one part.basic (kinds.Word words.True) u = omega arith
opens_one part.basic (kinds.Word words.False) u = omega arith
opens_one part.basic (kinds.Int z) u = omega arith
opens_one part.basic kinds.LargeInt u = omega arith
opens_one part.basic kinds.Float u = omega arith
opens_one part.basic (kinds.Symbol symbols.OpenCurly) u = omega arith
opens_one part.basic kinds.Name u = omega arith
opens_one part.expression (kinds.Word words.True) u = omega arith
opens_one part.expression (kinds.Word words.False) u = omega arith
opens_one part.expression (kinds.Int z) u = omega arith
opens_one part.expression kinds.LargeInt u = omega arith
opens_one part.expression kinds.Float u = omega arith
opens_one part.expression (kinds.Symbol symbols.OpenCurly) u = omega arith
opens_one part.expression kinds.Name u = omega arith
opens_one part.expression (kinds.Symbol symbols.OpenSquare) u = omega arith
opens_one part.annotation kinds.Name u = omega arith
opens_one part.argument (kinds.Word words.True) u = omega arith
opens_one part.argument (kinds.Word words.False) u = omega arith
opens_one part.argument (kinds.Int z) u = omega arith
opens_one part.argument kinds.LargeInt u = omega arith
opens_one part.argument kinds.Float u = omega arith
opens_one part.argument (kinds.Symbol symbols.OpenCurly) u = omega arith
opens_one part.argument kinds.Text u = omega arith
opens_one part.argument kinds.Name u = omega arith
opens_one part.argument (kinds.Symbol symbols.OpenSquare) u = omega arith
opens_one part.annotations (kinds.Symbol symbols.ColonColon) u = omega arith
opens_one part.call (kinds.Symbol symbols.OpenRound) u = omega arith
opens_one part.upper_end (kinds.Symbol symbols.DotDot) u = omega arith
opens_one part.value (kinds.Symbol symbols.Equals) u = omega arith
opens_one _ _ u = omega arith

or_few : (k : ℕ) (a b : Option (List Part)) → brackets_in a ≤ k → brackets_in b ≤ k → brackets_in (option_or a b) ≤ k
or_few k None b h g = g
or_few k (Some ps) b h g = h

choose_few : (k : ℕ) (b : Bool) (o : Option (List Part)) → brackets_in o ≤ k → brackets_in (cond b o None) ≤ k
choose_few k true o h = h
choose_few k false o h = omega arith

pub one_more_bracket : (parts : List Part) (kind : TokenKind) → all_usual parts ≡ true → brackets_in (after_one parts kind) ≤ suc (brackets parts)
one_more_bracket [] kind u = omega arith
one_more_bracket (p ∷ rest) kind u =
    let h = split_cond (usual p) (all_usual rest) u in
    let whole : brackets (p ∷ rest) ≡ own p + brackets rest = brackets-cons p rest in
    let first : brackets_in (option_map (λ ps. ps ++ rest) (follows p kind)) ≤ suc (own p) + brackets rest = then_few (suc (own p)) (follows p kind) rest (opens_one p kind h.0) in
    let later : brackets_in (after_one rest kind) ≤ suc (brackets rest) = one_more_bracket rest kind h.1 in
    or_few (suc (brackets (p ∷ rest))) (option_map (λ ps. ps ++ rest) (follows p kind)) (cond (may_be_missing p) (after_one rest kind) None) (omega arith)
    (choose_few (suc (brackets (p ∷ rest))) (may_be_missing p) (after_one rest kind) (omega arith))
