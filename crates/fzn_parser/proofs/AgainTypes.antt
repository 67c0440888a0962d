-- Types are read again.
use Rattle.std.proofs.Common.{◌≡◌, ℕ, ◌≤◌, length, arith, Bool, true, false, List, [], ◌∷◌, ◌++◌, Result, sym, refl, ap, ◌∙◌, subst}
use Rattle.fzn_reader.specs.declared.tokens.TokenKind.{TokenKind}
use Rattle.fzn_reader.specs.declared.tokens.TokenKind.TheVariants as kinds
use Rattle.fzn_reader.specs.declared.tokens.Word.TheVariants as words
use Rattle.fzn_reader.specs.declared.tokens.Symbol.TheVariants as symbols
use Rattle.fzn_parser.specs.declared.faults.What.{What}
use Rattle.fzn_parser.specs.declared.faults.What.TheVariants as whats
use Rattle.fzn_parser.specs.declared.faults.SyntaxFault.{SyntaxFault}
use Rattle.fzn_parser.specs.declared.tree.Num.TheVariants as nums
use Rattle.fzn_parser.specs.declared.tree.Number.{Number}
use Rattle.fzn_parser.specs.declared.tree.SetForm.{SetForm}
use Rattle.fzn_parser.specs.declared.tree.SetForm.TheVariants as sets
use Rattle.fzn_parser.specs.declared.tree.TypeExpr.{TypeExpr}
use Rattle.fzn_parser.specs.declared.tree.TypeForm.{TypeForm}
use Rattle.fzn_parser.specs.declared.tree.TypeForm.TheVariants as types
use Rattle.fzn_parser.specs.Grammar as spell
use Rattle.fzn_parser.specs.Grammar.{Sign, Pattern, Match, Fits, begun_at, closed, token, placed}
use Rattle.fzn_parser.specs.Reading.{◌>>=◌, Reader, first, after, braced, range_from, set_of_int, range_within, braces_within, set_type_by, set_type, var_type_by, var_type, var_element, set_element, element_by, element_type}
use Rattle.fzn_parser.proofs.Leaves.{Keeps, leaves_at, after_keeps}
use Rattle.fzn_parser.proofs.Again.{Again, again_bind, kind_again}
use Rattle.fzn_parser.proofs.AgainParts.{braced_again, range_again}
use Rattle.fzn_parser.proofs.SoundsParts.{var_rest}

-- ---- one reader after another, with no more tokens left than there were

pub must_bind : {B : Type 0} (n k : ℕ) (kind : TokenKind) (what : What) (f : ℕ × List Sign → Result (B × List Sign) SyntaxFault) (b : B) (ps qs : List Pattern) (xs : List Sign) → length xs ≤ k
    → Match (token kind ∷ ps) xs → ((at : ℕ) (ys : List Sign) → length ys ≤ k → Match ps ys → Again (f (at, ys)) b qs) → Again (after n kind what xs >>= f) b qs
must_bind n k kind what f b ps qs [] l m g = absurd m
must_bind n k kind what f b ps qs (x ∷ xs) l m g =
    again_bind (after n kind what (x ∷ xs)) f x.at b ps qs (kind_again n kind what x xs ps m.0 m.1)
    (λ ys h fits. g x.at ys (leaves_at k (after n kind what (x ∷ xs)) (x.at, ys) h (after_keeps n kind what k (x ∷ xs) l)) fits)

-- the same for a token whose place is told
pub placed_bind : {B : Type 0} (n k : ℕ) (at : ℕ) (kind : TokenKind) (what : What) (f : ℕ × List Sign → Result (B × List Sign) SyntaxFault) (b : B) (ps qs : List Pattern) (xs : List Sign) → length xs ≤ k
    → Match (placed at (token kind) ∷ ps) xs → ((ys : List Sign) → length ys ≤ k → Match ps ys → Again (f (at, ys)) b qs) → Again (after n kind what xs >>= f) b qs
placed_bind n k at kind what f b ps qs [] l m g = absurd m
placed_bind n k at kind what f b ps qs (x ∷ xs) l m g =
    again_bind (after n kind what (x ∷ xs)) f x.at b ps qs (kind_again n kind what x xs ps m.0.1 m.1)
    (λ ys h fits. subst (λ p. Again (f (p, ys)) b qs) (sym m.0.0) (g ys (leaves_at k (after n kind what (x ∷ xs)) (x.at, ys) h (after_keeps n kind what k (x ∷ xs) l)) fits))

pub read_bind : {A B : Type 0} (k : ℕ) (read : Reader A) (f : A × List Sign → Result (B × List Sign) SyntaxFault) (a : A) (b : B) (ps qs : List Pattern) (xs : List Sign) → Keeps read → length xs ≤ k
    → Again (read xs) a ps → ((ys : List Sign) → length ys ≤ k → Match ps ys → Again (f (a, ys)) b qs) → Again (read xs >>= f) b qs
read_bind k read f a b ps qs xs keeps l h g =
    again_bind (read xs) f a b ps qs h (λ ys e fits. g ys (leaves_at k (read xs) (a, ys) e (keeps k xs l)) fits)

-- ---- set literals as types

abbrev pub type_of : ℕ → TypeForm → TypeExpr
type_of at form = record { at = at; form = form }

range_type : (n : ℕ) (form : SetForm → TypeForm) (at : ℕ) (num : nums.the_data) (high : Number) (qs : List Pattern) (xs : List Sign) → Match (spell.symbol symbols.DotDot ∷ (spell.number high ++ qs)) xs
    → Again (range_within n form (record { at = at; num = num }) xs) (type_of at (form (sets.Range (record { at = at; num = num }) high))) qs
unfolding range_within
range_type n form at num high qs xs m =
    let low : Number = record { at = at; num = num } in
    again_bind (range_from n low xs) _ (sets.Range low high) (type_of at (form (sets.Range low high))) qs qs (range_again n low high qs xs m) (λ ys h k. record { ys = ys; read = refl; fits = k })

braces_type : (n : ℕ) (form : SetForm → TypeForm) (at : ℕ) (ns : List Number) (qs : List Pattern) (xs : List Sign) → Match (closed spell.number ns symbols.CloseCurly ++ qs) xs
    → Again (braces_within n form at xs) (type_of at (form (sets.List ns))) qs
unfolding braces_within
braces_type n form at ns qs xs m = again_bind (braced n xs) _ (sets.List ns) (type_of at (form (sets.List ns))) qs qs (braced_again n ns qs xs m) (λ ys h k. record { ys = ys; read = refl; fits = k })

abbrev num_kind : nums.the_data → TokenKind
num_kind (nums.Int z) = kinds.Int z
num_kind nums.Large = kinds.LargeInt
num_kind nums.Float = kinds.Float

kind_of_num : (num : nums.the_data) (x : Sign) → Fits (spell.num num) x → x.kind ≡ num_kind num
kind_of_num (nums.Int z) x f = f
kind_of_num nums.Large x f = f
kind_of_num nums.Float x f = f

-- what a token tells of a type
abbrev By : Type 0
By = TokenKind → ℕ → List Sign → Result (TypeExpr × List Sign) SyntaxFault

by_as : (by : By) (x : Sign) (xs : List Sign) (kind : TokenKind) (at : ℕ) (t : TypeExpr) (qs : List Pattern) → x.kind ≡ kind → x.at ≡ at → Again (by kind at xs) t qs → Again (by x.kind x.at xs) t qs
by_as by x xs kind at t qs is place h = record { ys = h.ys; read = ap (λ c. by c x.at xs) is ∙ (ap (λ p. by kind p xs) place ∙ h.read); fits = h.fits }

module _ (n : ℕ) (by : By) (form : SetForm → TypeForm)
    (by_num : (num : nums.the_data) (at : ℕ) (xs : List Sign) → by (num_kind num) at xs ≡ range_within n form (record { at = at; num = num }) xs)
    (by_curly : (at : ℕ) (xs : List Sign) → by (kinds.Symbol symbols.OpenCurly) at xs ≡ braces_within n form at xs) where
  literal_again : (at : ℕ) (s : SetForm) (qs : List Pattern) (x : Sign) (xs : List Sign) → Match (begun_at at (spell.set_literal s) ++ qs) (x ∷ xs) → Again (by x.kind x.at xs) (type_of at (form s)) qs
  literal_again at (sets.Range low high) qs x xs m =
      subst (λ (v : Number). Again (by x.kind x.at xs) (type_of at (form (sets.Range v high))) qs) (ap (λ p. let v : Number = record { at = p; num = low.num } in v) (sym m.0.0 ∙ m.0.1.0))
      (by_as by x xs (num_kind low.num) at (type_of at (form (sets.Range (record { at = at; num = low.num }) high))) qs (kind_of_num low.num x m.0.1.1) m.0.0
      (let h = range_type n form at low.num high qs xs m.1 in record { ys = h.ys; read = by_num low.num at xs ∙ h.read; fits = h.fits }))
  literal_again at (sets.List ns) qs x xs m =
      by_as by x xs (kinds.Symbol symbols.OpenCurly) at (type_of at (form (sets.List ns))) qs m.0.1 m.0.0
      (let h = braces_type n form at ns qs xs m.1 in record { ys = h.ys; read = by_curly at xs ∙ h.read; fits = h.fits })

-- ---- after "set"

pub set_of_int_again : (n : ℕ) (at : ℕ) (qs : List Pattern) (xs : List Sign) → Match (spell.word words.Of ∷ placed at (spell.word words.Int) ∷ qs) xs → Again (set_of_int n xs) (type_of at types.SetOfInt) qs
unfolding set_of_int
set_of_int_again n at qs xs m =
    must_bind n (length xs) (kinds.Word words.Of) whats.Of _ (type_of at types.SetOfInt) (placed at (spell.word words.Int) ∷ qs) qs xs (omega arith) m
    (λ o ys l h. placed_bind n (length xs) at (kinds.Word words.Int) whats.TypeWord _ (type_of at types.SetOfInt) qs qs ys l h (λ zs k f. record { ys = zs; read = refl; fits = f }))

set_num : (n : ℕ) (num : nums.the_data) (at : ℕ) (xs : List Sign) → set_type_by n (num_kind num) at xs ≡ range_within n types.SetWithin (record { at = at; num = num }) xs
set_num n (nums.Int z) at xs = refl
set_num n nums.Large at xs = refl
set_num n nums.Float at xs = refl

var_num : (n : ℕ) (num : nums.the_data) (at : ℕ) (xs : List Sign) → var_type_by n (num_kind num) at xs ≡ range_within n types.Within (record { at = at; num = num }) xs
var_num n (nums.Int z) at xs = refl
var_num n nums.Large at xs = refl
var_num n nums.Float at xs = refl

set_int : (n : ℕ) (at : ℕ) (qs : List Pattern) (xs : List Sign) → Match (placed at (spell.word words.Int) ∷ qs) xs → Again (first n xs >>= (λ r. set_type_by n r.0.kind r.0.at r.1)) (type_of at types.SetOfInt) qs
unfolding first
set_int n at qs [] m = absurd m
set_int n at qs (x ∷ xs) m = by_as (set_type_by n) x xs (kinds.Word words.Int) at (type_of at types.SetOfInt) qs m.0.1 m.0.0 (record { ys = xs; read = refl; fits = m.1 })

no_set : (at : ℕ) (s : SetForm) (qs : List Pattern) → Match (begun_at at (spell.set_literal s) ++ qs) [] → ⊥
no_set at (sets.Range low high) qs m = m
no_set at (sets.List ns) qs m = m

set_literal : (n : ℕ) (at : ℕ) (s : SetForm) (qs : List Pattern) (xs : List Sign) → Match (begun_at at (spell.set_literal s) ++ qs) xs → Again (first n xs >>= (λ r. set_type_by n r.0.kind r.0.at r.1)) (type_of at (types.SetWithin s)) qs
unfolding first
set_literal n at s qs [] m = absurd (no_set at s qs m)
set_literal n at s qs (x ∷ xs) m = literal_again n (set_type_by n) types.SetWithin (set_num n) (λ at xs. refl) at s qs x xs m

-- ---- after "var"

abbrev type_form_again : ℕ → ℕ → TypeForm → List Pattern → List Sign → Type 0
type_form_again n at form qs xs = Again (var_type n xs) (type_of at form) qs

var_form_again : (n at : ℕ) (form : TypeForm) (qs : List Pattern) (xs : List Sign) → Match (spell.var_type_form at form ++ qs) xs → Again (var_type n xs) (type_of at form) qs
unfolding var_type set_type first
var_form_again n at types.Bool qs [] m = absurd m
var_form_again n at types.Bool qs (x ∷ xs) m = by_as (var_type_by n) x xs (kinds.Word words.Bool) at (type_of at types.Bool) qs m.0.1 m.0.0 (record { ys = xs; read = refl; fits = m.1 })
var_form_again n at types.Int qs [] m = absurd m
var_form_again n at types.Int qs (x ∷ xs) m = by_as (var_type_by n) x xs (kinds.Word words.Int) at (type_of at types.Int) qs m.0.1 m.0.0 (record { ys = xs; read = refl; fits = m.1 })
var_form_again n at types.Float qs [] m = absurd m
var_form_again n at types.Float qs (x ∷ xs) m = by_as (var_type_by n) x xs (kinds.Word words.Float) at (type_of at types.Float) qs m.0.1 m.0.0 (record { ys = xs; read = refl; fits = m.1 })
var_form_again n at types.SetOfInt qs [] m = absurd m
var_form_again n at types.SetOfInt qs (x ∷ xs) m =
    by_as (var_type_by n) x xs (kinds.Word words.Set) x.at (type_of at types.SetOfInt) qs m.0 refl
    (must_bind n (length xs) (kinds.Word words.Of) whats.Of _ (type_of at types.SetOfInt) (placed at (spell.word words.Int) ∷ qs) qs xs (omega arith) m.1 (λ o ys l h. set_int n at qs ys h))
var_form_again n at (types.Within s) qs [] m = absurd (no_set at s qs m)
var_form_again n at (types.Within s) qs (x ∷ xs) m = literal_again n (var_type_by n) types.Within (var_num n) (λ at xs. refl) at s qs x xs m
var_form_again n at (types.SetWithin s) qs [] m = absurd m
var_form_again n at (types.SetWithin s) qs (x ∷ xs) m =
    by_as (var_type_by n) x xs (kinds.Word words.Set) x.at (type_of at (types.SetWithin s)) qs m.0 refl
    (must_bind n (length xs) (kinds.Word words.Of) whats.Of _ (type_of at (types.SetWithin s)) (begun_at at (spell.set_literal s) ++ qs) qs xs (omega arith) m.1 (λ o ys l h. set_literal n at s qs ys h))

pub var_type_again : (n : ℕ) (t : TypeExpr) (qs : List Pattern) (xs : List Sign) → Match (var_rest t ++ qs) xs → Again (var_type n xs) t qs
var_type_again n t qs xs m = var_form_again n t.at t.form qs xs m

-- ---- the types of elements

abbrev ByElement : Type 0
ByElement = TokenKind → ℕ → List Sign → Result ((Bool × TypeExpr) × List Sign) SyntaxFault

element_as : (by : ByElement) (x : Sign) (xs : List Sign) (kind : TokenKind) (at : ℕ) (t : Bool × TypeExpr) (qs : List Pattern) → x.kind ≡ kind → x.at ≡ at → Again (by kind at xs) t qs → Again (by x.kind x.at xs) t qs
element_as by x xs kind at t qs is place h = record { ys = h.ys; read = ap (λ c. by c x.at xs) is ∙ (ap (λ p. by kind p xs) place ∙ h.read); fits = h.fits }

element_form : (n : ℕ) (is_var : Bool) (at : ℕ) (form : TypeForm) (qs : List Pattern) (xs : List Sign) → Match (spell.element_type is_var (type_of at form) ++ qs) xs → Again (element_type n xs) (is_var, type_of at form) qs
unfolding element_type first var_element set_element
element_form n true at form qs [] m = absurd m
element_form n true at form qs (x ∷ xs) m =
    element_as (element_by n) x xs (kinds.Word words.Var) x.at (true, type_of at form) qs m.0 refl
    (again_bind (var_type n xs) _ (type_of at form) (true, type_of at form) qs qs (var_form_again n at form qs xs m.1) (λ ys h k. record { ys = ys; read = refl; fits = k }))
element_form n false at types.Bool qs [] m = absurd m
element_form n false at types.Bool qs (x ∷ xs) m = element_as (element_by n) x xs (kinds.Word words.Bool) at (false, type_of at types.Bool) qs m.0.1 m.0.0 (record { ys = xs; read = refl; fits = m.1 })
element_form n false at types.Int qs [] m = absurd m
element_form n false at types.Int qs (x ∷ xs) m = element_as (element_by n) x xs (kinds.Word words.Int) at (false, type_of at types.Int) qs m.0.1 m.0.0 (record { ys = xs; read = refl; fits = m.1 })
element_form n false at types.Float qs [] m = absurd m
element_form n false at types.Float qs (x ∷ xs) m = element_as (element_by n) x xs (kinds.Word words.Float) at (false, type_of at types.Float) qs m.0.1 m.0.0 (record { ys = xs; read = refl; fits = m.1 })
element_form n false at types.SetOfInt qs [] m = absurd m
element_form n false at types.SetOfInt qs (x ∷ xs) m =
    element_as (element_by n) x xs (kinds.Word words.Set) x.at (false, type_of at types.SetOfInt) qs m.0 refl
    (again_bind (set_of_int n xs) _ (type_of at types.SetOfInt) (false, type_of at types.SetOfInt) qs qs (set_of_int_again n at qs xs m.1) (λ ys h k. record { ys = ys; read = refl; fits = k }))
element_form n false at (types.Within s) qs [] m = absurd m
element_form n false at (types.Within s) qs (x ∷ xs) m = absurd m.0
element_form n false at (types.SetWithin s) qs [] m = absurd m
element_form n false at (types.SetWithin s) qs (x ∷ xs) m = absurd m.0

pub element_type_again : (n : ℕ) (is_var : Bool) (t : TypeExpr) (qs : List Pattern) (xs : List Sign) → Match (spell.element_type is_var t ++ qs) xs → Again (element_type n xs) (is_var, t) qs
element_type_again n is_var t qs xs m = element_form n is_var t.at t.form qs xs m
