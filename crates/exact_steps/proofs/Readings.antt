-- What words have at the bits of variables: the words of values and of assignments, read back.
use Rattle.std.proofs.Common.{◌≡◌, ℕ, ◌<◌, true, false, List, [], ◌∷◌, length, get_or, Some, sym, ap, ◌∙◌, subst, inl, inr, arith, Contains}
use Rattle.std.specs.Prelude.{slice_get, IsSomeAnd, slice_index_or}
use Rattle.std.specs.Option.{option_map_or}
use Rattle.std.proofs.lemmas.List.{ext_get_or}
use Rattle.set_meaning.specs.declared.kinds.Kind.{Kind}
use Rattle.set_meaning.specs.declared.kinds.Value.{Value}
use Rattle.set_meaning.specs.declared.problems.VarId.{VarId}
use Rattle.set_meaning.specs.Kinds.{InKind}
use Rattle.diagram_arena.specs.Table.{Word}
use Rattle.bit_layout.specs.declared.places.Place.{Place}
use Rattle.bit_layout.specs.Words.{word_of}
use Rattle.bit_layout.specs.Order.{LayoutState, IsLayout, width_at, bit_at, word_at, IsValueAt}
use Rattle.bit_layout.proofs.KindWords.{length-word_of}
use Rattle.bit_layout.proofs.Finding.{bit_stands, stands_cases}
use Rattle.bit_layout.proofs.Rising.{nothing_in_empty, in_cons}
use Rattle.bit_layout.proofs.ValuesAt.{width_is, value_of_word}
use Rattle.scope_words.specs.Words.{read, Gives, bit_of_values, word_of_values}
use Rattle.scope_words.proofs.Words.{length-read, read-at, value_given}
use Rattle.exact_steps.specs.Domains.{is_initial, word_of_value}
use Rattle.exact_steps.proofs.Values.{some_and, some_and_from, initial_kind}

-- a list of one variable
pub one_of : (v u : VarId) → Contains (v ∷ []) u → v ≡ u
one_of v u h = elim (in_cons v [] u h) [ inl e ↦ e | inr none ↦ absurd (nothing_in_empty u none) ]

-- a word that has the bits of a value's word has the value
value_read : (l : LayoutState) (v : VarId) (k : Kind) (x : Value) (w : Word) → slice_get l.kinds v.0 ≡ Some k → InKind k x
    → ((i : ℕ) → i < width_at l v → w (bit_at l v i) ≡ get_or (word_at l v x) i false) → IsValueAt l v (read l v w) x
value_read l v k x w e legal bits =
    let is : word_at l v x ≡ word_of k x = ap (λ o. option_map_or (λ k. word_of k x) o []) e in
    let long : length (word_at l v x) ≡ width_at l v = ap length is ∙ length-word_of k x legal ∙ sym (width_is l v k e) in
    let other = length-read l v w in
    let same : read l v w ≡ word_at l v x = ext_get_or false (read l v w) (word_at l v x) (other ∙ sym long) (λ i within.
    let inside : i < width_at l v = omega (arith, other, within) in
    read-at l v w i false inside ∙ bits i inside) in
    value_of_word l v k x (read l v w) e legal (same ∙ is)

bit_of_value : (l : LayoutState) (v : VarId) (x : Value) (i : ℕ) → IsLayout l → i < width_at l v → word_of_value l v x (bit_at l v i) ≡ get_or (word_at l v x) i false
bit_of_value l v x i ok within =
    let r = stands_cases l (bit_at l v i) v i (bit_stands l v i ok.order within) in
    ap (λ o. option_map_or (λ (p : Place). slice_index_or (word_at l v x) p.position false) o false) r.1 ∙ ap (λ j. slice_index_or (word_at l v x) j false) r.3

bit_in_word : (l : LayoutState) (values : List Value) (v : VarId) (x : Value) (i : ℕ) → IsLayout l → slice_get values v.0 ≡ Some x → i < width_at l v
    → word_of_values l values (bit_at l v i) ≡ get_or (word_at l v x) i false
bit_in_word l values v x i ok e within =
    let r = stands_cases l (bit_at l v i) v i (bit_stands l v i ok.order within) in
    let p : Place = r.0 in
    let at : (p : Place) → p.variable ≡ v → p.position ≡ i → bit_of_values l values p ≡ option_map_or (λ x. slice_index_or (word_at l v x) i false) (slice_get values v.0) false =
    λ p f g. ap (λ u. option_map_or (λ x. slice_index_or (word_at l u x) p.position false) (slice_get values u.0) false) f ∙ ap (λ j. option_map_or (λ x. slice_index_or (word_at l v x) j false) (slice_get values v.0) false) g in
    ap (λ o. option_map_or (bit_of_values l values) o false) r.1
    ∙ at p r.2 r.3
    ∙ ap (λ o. option_map_or (λ x. slice_index_or (word_at l v x) i false) o false) e

-- the word of a value has it
pub value_in_word : (l : LayoutState) (v : VarId) (x : Value) → IsLayout l → is_initial l v x ≡ true → IsValueAt l v (read l v (word_of_value l v x)) x
value_in_word l v x ok initial =
    let k = initial_kind l v x ok initial in
    value_read l v k.0 x (word_of_value l v x) k.1 k.2 (λ i within. bit_of_value l v x i ok within)

-- the word of values that some word gives, gives them
pub gives_own : (l : LayoutState) (scope : List VarId) (values : List Value) (w : Word) → IsLayout l → Gives l scope values w → Gives l scope values (word_of_values l values)
gives_own l scope values w ok given v h =
    let r = value_given l values v (read l v w) (given v h) in
    some_and_from (slice_get values v.0) (IsValueAt l v (read l v (word_of_values l values))) r.0 r.2
    (value_read l v r.1 r.0 (word_of_values l values) r.3 r.4.in_kind (λ i within. bit_in_word l values v r.0 i ok r.2 within))

-- a value that the values have at the variable
pub gives_value : (l : LayoutState) (v : VarId) (values : List Value) (x : Value) (w : Word) → slice_get values v.0 ≡ Some x → IsValueAt l v (read l v w) x → Gives l (v ∷ []) values w
gives_value l v values x w e h u one =
    subst (λ (u : VarId). IsSomeAnd (slice_get values u.0) (IsValueAt l u (read l u w))) (one_of v u one) (some_and_from (slice_get values v.0) (IsValueAt l v (read l v w)) x e h)

pub given_at : (l : LayoutState) (scope : List VarId) (values : List Value) (w : Word) (v : VarId) → Gives l scope values w → Contains scope v → (x : Value) × (slice_get values v.0 ≡ Some x) × IsValueAt l v (read l v w) x
given_at l scope values w v given h = some_and (slice_get values v.0) (IsValueAt l v (read l v w)) (given v h)

-- the values given to a variable of the scope
pub gives_one : (l : LayoutState) (scope : List VarId) (values : List Value) (w : Word) (v : VarId) → Gives l scope values w → Contains scope v → Gives l (v ∷ []) values w
gives_one l scope values w v given h = let r = given_at l scope values w v given h in gives_value l v values r.0 w r.1 r.2

-- the word of values that are initial at the scope gives them
pub gives_initial : (l : LayoutState) (scope : List VarId) (values : List Value) → IsLayout l → ((v : VarId) → Contains scope v → (x : Value) × (slice_get values v.0 ≡ Some x) × (is_initial l v x ≡ true))
    → Gives l scope values (word_of_values l values)
gives_initial l scope values ok each v h =
    let r = each v h in
    let k = initial_kind l v r.0 ok r.2 in
    some_and_from (slice_get values v.0) (IsValueAt l v (read l v (word_of_values l values))) r.0 r.1
    (value_read l v k.0 r.0 (word_of_values l values) k.1 k.2 (λ i within. bit_in_word l values v r.0 i ok r.1 within))
