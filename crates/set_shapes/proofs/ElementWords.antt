-- There is a set of the words of the element relation, whether or not a machine could be made: the words of initial values are told by a test, and
-- whether the relation holds of their values is decided.
use Rattle.std.proofs.Common.{◌≡◌, ◌⊎◌, Bool, true, false, ◌||◌, ◌&&◌, ℤ, List, [], ◌∷◌, length, Option, Some, None, refl, sym, ap, ◌∙◌, subst, inl, inr, arith, Contains}
use Rattle.std.specs.Prelude.{slice_get, IsSomeAnd}
use Rattle.std.specs.Option.{option_map_or}
use Rattle.std.proofs.lemmas.Bool.{and_parts}
use Rattle.diagram_arena.specs.Table.{Word, Words}
use Rattle.set_meaning.specs.declared.kinds.Kind.{Kind}
use Rattle.set_meaning.specs.declared.kinds.Kind.TheVariants as kind
use Rattle.set_meaning.specs.declared.kinds.Value.{Value}
use Rattle.set_meaning.specs.declared.kinds.Value.TheVariants as value
use Rattle.set_meaning.specs.declared.problems.VarId.{VarId}
use Rattle.set_meaning.specs.declared.problems.Arg.{Arg}
use Rattle.set_meaning.specs.declared.problems.Relation.TheVariants.{ArraySetElement}
use Rattle.set_meaning.specs.Kinds.{InKind}
use Rattle.set_meaning.specs.Sets.{Has}
use Rattle.set_meaning.specs.Relations.{HoldsOf}
use Rattle.bit_machine.specs.Comparisons.{beq, beq-true}
use Rattle.bit_layout.specs.Words.{width_of, word_of, IsValueOf}
use Rattle.bit_layout.specs.Order.{LayoutState, IsLayout, width_at, IsValueAt}
use Rattle.bit_layout.proofs.Rising.{nothing_in_empty, in_cons, in_head, in_tail}
use Rattle.scope_words.specs.Words.{read, Gives, AreWordsOf, variables_in}
use Rattle.table_machine.specs.Values.{GivesInitialValues}
use Rattle.set_shapes.proofs.ElementDecided.{decided, depends}

-- ---- truth values

or_cases : (a b : Bool) → (a || b) ≡ true → (a ≡ true) ⊎ (b ≡ true)
or_cases true b h = inl refl
or_cases false b h = inr h

or_left : (a b : Bool) → a ≡ true → (a || b) ≡ true
or_left a b h = ap (λ x. x || b) h

or_right : (a b : Bool) → b ≡ true → (a || b) ≡ true
or_right true b h = refl
or_right false b h = h

and_from : (a b : Bool) → a ≡ true → b ≡ true → (a && b) ≡ true
and_from a b p q = ap (λ x. x && b) p ∙ q

-- ---- the word of one of some numbers

same_bits : List Bool → List Bool → Bool
same_bits [] [] = true
same_bits [] (c ∷ cs) = false
same_bits (b ∷ bs) [] = false
same_bits (b ∷ bs) (c ∷ cs) = beq b c && same_bits bs cs

bits_are_same : (bs cs : List Bool) → same_bits bs cs ≡ true → bs ≡ cs
unfolding same_bits
bits_are_same [] [] h = refl
bits_are_same [] (c ∷ cs) h = absurd (let e : false ≡ true = h in cc)
bits_are_same (b ∷ bs) [] h = absurd (let e : false ≡ true = h in cc)
bits_are_same (b ∷ bs) (c ∷ cs) h =
    let parts = and_parts (beq b c) (same_bits bs cs) h in
    let first = beq-true b c parts.0 in
    let rest = bits_are_same bs cs parts.1 in
    ap (λ x. x ∷ bs) first ∙ ap (λ xs. c ∷ xs) rest

beq_itself : (b : Bool) → beq b b ≡ true
beq_itself true = refl
beq_itself false = refl

same_as_itself : (bs : List Bool) → same_bits bs bs ≡ true
unfolding same_bits
same_as_itself [] = refl
same_as_itself (b ∷ bs) = and_from (beq b b) (same_bits bs bs) (beq_itself b) (same_as_itself bs)

has_word : List ℤ → List ℤ → List Bool → Bool
has_word numbers [] word = false
has_word numbers (x ∷ xs) word = same_bits (word_of (kind.Int numbers) (value.Int x)) word || has_word numbers xs word

word_is_had : (numbers xs : List ℤ) (word : List Bool) → has_word numbers xs word ≡ true → (x : ℤ) × Contains xs x × (word_of (kind.Int numbers) (value.Int x) ≡ word)
unfolding has_word
word_is_had numbers [] word h = absurd (let e : false ≡ true = h in cc)
word_is_had numbers (x ∷ xs) word h =
    elim (or_cases (same_bits (word_of (kind.Int numbers) (value.Int x)) word) (has_word numbers xs word) h) [
      | inl here ↦ (x, in_head x xs, bits_are_same (word_of (kind.Int numbers) (value.Int x)) word here)
      | inr later ↦ let r = word_is_had numbers xs word later in (r.0, in_tail x xs r.0 r.1, r.2)
    ]

had_word : (numbers xs : List ℤ) (x : ℤ) → Contains xs x → has_word numbers xs (word_of (kind.Int numbers) (value.Int x)) ≡ true
unfolding has_word
had_word numbers [] x h = absurd (nothing_in_empty x h)
had_word numbers (y ∷ xs) x h =
    let own : ℤ → List Bool = λ z. word_of (kind.Int numbers) (value.Int z) in
    elim (in_cons y xs x h) [
      | inl here ↦ or_left (same_bits (own y) (own x)) (has_word numbers xs (own x)) (ap (λ z. same_bits (own y) (own z)) (sym here) ∙ same_as_itself (own y))
      | inr later ↦ or_right (same_bits (own y) (own x)) (has_word numbers xs (own x)) (had_word numbers xs x later)
    ]

-- ---- the word of an initial value of each variable

kind_has : Kind → List Bool → Bool
kind_has kind.Bool word = true
kind_has (kind.Int numbers) word = has_word numbers numbers word
kind_has (kind.Set universe) word = true

variable_has : LayoutState → Word → VarId → Bool
variable_has l w v = option_map_or (λ k. kind_has k (read l v w)) (slice_get l.kinds v.0) false

all_have : LayoutState → Word → List VarId → Bool
all_have l w [] = true
all_have l w (v ∷ vs) = variable_has l w v && all_have l w vs

-- the laws of the crates below
abbrev pub HaveLengths : Type 0
HaveLengths = (l : LayoutState) (v : VarId) (w : Word) → length (read l v w) ≡ width_at l v

abbrev pub SetsHaveValues : Type 0
SetsHaveValues = (l : LayoutState) (v : VarId) (universe : List ℤ) (word : List Bool) → IsLayout l → slice_get l.kinds v.0 ≡ Some (kind.Set universe) → length word ≡ length universe → (set : List ℤ) × IsValueAt l v word (value.Set set)

abbrev pub ValuesFit : Type 0
ValuesFit = (l : LayoutState) (scope : List VarId) (w : Word) → IsLayout l → ((v : VarId) → Contains scope v → (x : Value) × IsValueAt l v (read l v w) x) → GivesInitialValues l scope w

abbrev pub OneValue : Type 0
OneValue = (l : LayoutState) (scope : List VarId) (xs ys : List Value) (w : Word) (v : VarId) → IsLayout l → Gives l scope xs w → Gives l scope ys w → Contains scope v → slice_get xs v.0 ≡ slice_get ys v.0

value_at : (l : LayoutState) (v : VarId) (word : List Bool) (x : Value) (k : Kind) → slice_get l.kinds v.0 ≡ Some k → IsValueOf k word x → IsValueAt l v word x
value_at l v word x k e h = let P : Option Kind → Type 0 = λ o. IsSomeAnd o (λ k. IsValueOf k word x) in subst P (sym e) h

bool_value : (word : List Bool) → length word ≡ 1 → (x : Value) × IsValueOf kind.Bool word x
unfolding InKind
bool_value [] h = absurd (omega (arith, h))
bool_value (b ∷ []) h = (value.Bool b, record { in_kind = tt; is_word = refl })
bool_value (b ∷ c ∷ bs) h = absurd (omega (arith, h))

int_value : (numbers : List ℤ) (word : List Bool) → has_word numbers numbers word ≡ true → (x : Value) × IsValueOf (kind.Int numbers) word x
unfolding InKind Has
int_value numbers word h = let r = word_is_had numbers numbers word h in (value.Int r.0, record { in_kind = r.1; is_word = r.2 })

kind_value : HaveLengths → SetsHaveValues → (l : LayoutState) (v : VarId) (w : Word) (k : Kind) → IsLayout l → slice_get l.kinds v.0 ≡ Some k → kind_has k (read l v w) ≡ true → (x : Value) × IsValueAt l v (read l v w) x
unfolding kind_has
kind_value long sets l v w kind.Bool ok e h =
    let wide : length (read l v w) ≡ 1 = long l v w ∙ ap (λ o. option_map_or width_of o 0) e in
    let r = bool_value (read l v w) wide in
    (r.0, value_at l v (read l v w) r.0 kind.Bool e r.1)
kind_value long sets l v w (kind.Int numbers) ok e h =
    let r = int_value numbers (read l v w) h in
    (r.0, value_at l v (read l v w) r.0 (kind.Int numbers) e r.1)
kind_value long sets l v w (kind.Set universe) ok e h =
    let wide : length (read l v w) ≡ length universe = long l v w ∙ ap (λ o. option_map_or width_of o 0) e in
    let r = sets l v universe (read l v w) ok e wide in
    (value.Set r.0, r.1)

variable_value : HaveLengths → SetsHaveValues → (l : LayoutState) (v : VarId) (w : Word) → IsLayout l → variable_has l w v ≡ true → (x : Value) × IsValueAt l v (read l v w) x
unfolding variable_has
variable_value long sets l v w ok h =
    elim (slice_get l.kinds v.0) as (λ o. slice_get l.kinds v.0 ≡ o → option_map_or (λ k. kind_has k (read l v w)) o false ≡ true → (x : Value) × IsValueAt l v (read l v w) x) [
      | None ↦ λ e h. absurd (let f : false ≡ true = h in cc)
      | Some k ↦ λ e h. kind_value long sets l v w k ok e h
    ] refl h

each_value : HaveLengths → SetsHaveValues → (l : LayoutState) (w : Word) (vs : List VarId) → IsLayout l → all_have l w vs ≡ true → (v : VarId) → Contains vs v → (x : Value) × IsValueAt l v (read l v w) x
unfolding all_have
each_value long sets l w [] ok h v m = absurd (nothing_in_empty v m)
each_value long sets l w (u ∷ vs) ok h v m =
    let parts = and_parts (variable_has l w u) (all_have l w vs) h in
    elim (in_cons u vs v m) [
      | inl here ↦ let P : VarId → Type 0 = λ z. (x : Value) × IsValueAt l z (read l z w) x in subst P here (variable_value long sets l u w ok parts.0)
      | inr later ↦ each_value long sets l w vs ok parts.1 v later
    ]

kind_had : (k : Kind) (word : List Bool) (x : Value) → IsValueOf k word x → kind_has k word ≡ true
unfolding kind_has InKind Has
kind_had kind.Bool word x h = refl
kind_had (kind.Int numbers) word (value.Bool b) h = absurd h.in_kind
kind_had (kind.Int numbers) word (value.Int x) h = ap (has_word numbers numbers) (sym h.is_word) ∙ had_word numbers numbers x h.in_kind
kind_had (kind.Int numbers) word (value.Set s) h = absurd h.in_kind
kind_had (kind.Set universe) word x h = refl

variable_had : (l : LayoutState) (v : VarId) (w : Word) (x : Value) → IsValueAt l v (read l v w) x → variable_has l w v ≡ true
unfolding variable_has
variable_had l v w x h =
    elim (slice_get l.kinds v.0) as (λ o. IsSomeAnd o (λ k. IsValueOf k (read l v w) x) → option_map_or (λ k. kind_has k (read l v w)) o false ≡ true) [
      | None ↦ λ h. absurd h
      | Some k ↦ λ h. kind_had k (read l v w) x h
    ] h

given_had : (l : LayoutState) (v : VarId) (w : Word) (o : Option Value) → IsSomeAnd o (IsValueAt l v (read l v w)) → variable_has l w v ≡ true
given_had l v w None h = absurd h
given_had l v w (Some x) h = variable_had l v w x h

all_had : (l : LayoutState) (values : List Value) (w : Word) (vs : List VarId) → Gives l vs values w → all_have l w vs ≡ true
unfolding all_have
all_had l values w [] g = refl
all_had l values w (v ∷ vs) g =
    and_from (variable_has l w v) (all_have l w vs) (given_had l v w (slice_get values v.0) (g v (in_head v vs))) (all_had l values w vs (λ u m. g u (in_tail v vs u m)))

-- ---- the words of a relation

-- a test that is asked only where another is true
told : (b : Bool) → (b ≡ true → Bool) → Bool
told true f = f refl
told false f = false

told_both : (b : Bool) (f : b ≡ true → Bool) → told b f ≡ true → (h : b ≡ true) × (f h ≡ true)
unfolding told
told_both true f e = (refl, e)
told_both false f e = absurd (let g : false ≡ true = e in cc)

told_from : (b : Bool) (f : b ≡ true → Bool) → b ≡ true → ((h : b ≡ true) → f h ≡ true) → told b f ≡ true
unfolding told
told_from true f h each = each refl
told_from false f h each = absurd (let g : false ≡ true = h in cc)

pub words_there : HaveLengths → SetsHaveValues → ValuesFit → OneValue → (l : LayoutState) (args : List Arg) → IsLayout l → (set : Words) × AreWordsOf l (variables_in args) (HoldsOf ArraySetElement args) set
words_there long sets fit once l args ok =
    let scope : List VarId = variables_in args in
    let given : (w : Word) → all_have l w scope ≡ true → GivesInitialValues l scope w = λ w h. fit l scope w ok (each_value long sets l w scope ok h) in
    let holds : (w : Word) → all_have l w scope ≡ true → Bool = λ w h. (decided args (given w h).0).0 in (
      λ w. told (all_have l w scope) (holds w),
      record {
        sound = λ w e.
            let r = told_both (all_have l w scope) (holds w) e in
            let values = given w r.0 in
            (values.0, values.1, values.2, (decided args values.0).1.0 r.1);
        whole = λ w values gives h.
            told_from (all_have l w scope) (holds w) (all_had l values w scope gives)
            (λ e. let own = given w e in (decided args own.0).1.1 (depends args values own.0 (λ v m. once l scope values own.0 w v ok gives own.2 m) h));
      },
    )
