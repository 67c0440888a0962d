-- Words of values, read back.
use Rattle.std.proofs.Common.{◌≡◌, ℕ, zero, suc, ◌<◌, Bool, true, false, List, [], ◌∷◌, length, get_or, Option, Some, None, refl, sym, ap, ◌∙◌, subst, arith, Contains}
use Rattle.std.specs.Prelude.{slice_get, IsSomeAnd, slice_index_or}
use Rattle.std.specs.List.{All, AllPass}
use Rattle.std.specs.Option.{option_map_or}
use Rattle.std.proofs.lemmas.List.{ext_get_or, length-map, get_or-map}
use Rattle.std.proofs.lemmas.List.Elements.{All-contains, Contains-get_or}
use Rattle.std.proofs.lemmas.Option.{slice_get-get_or}
use Rattle.set_meaning.specs.declared.kinds.Kind.{Kind}
use Rattle.set_meaning.specs.declared.kinds.Value.{Value}
use Rattle.set_meaning.specs.declared.problems.VarId.{VarId}
use Rattle.set_meaning.specs.Kinds.{InKind, IsAssignment}
use Rattle.diagram_arena.specs.Table.{Word, Words}
use Rattle.diagram_arena.specs.Reach.{Bits, DependsOn}
use Rattle.bit_layout.specs.declared.places.Place.{Place}
use Rattle.bit_layout.specs.Words.{width_of, word_of, IsValueOf}
use Rattle.bit_layout.specs.Order.{LayoutState, IsLayout, width_at, bit_at, word_at, IsValueAt}
use Rattle.bit_layout.proofs.KindWords.{length-word_of, one_value}
use Rattle.bit_layout.proofs.Finding.{bit_stands, stands_cases, legal_kind}
use Rattle.bit_layout.proofs.ValuesAt.{width_is}
use Rattle.scope_words.specs.Words.{bits_at, read, Gives, bit_of_values, word_of_values, AreBitsOf, AreWordsOf}
use Rattle.scope_words.proofs.Bits.{length-bits_at, bits_at-at, bit_is_of, place_of_bit, place_within}

-- ---- reading

pub length-read : (l : LayoutState) (v : VarId) (w : Word) → length (read l v w) ≡ width_at l v
length-read l v w = length-map (bits_at l v) w ∙ length-bits_at l v

pub read-at : (l : LayoutState) (v : VarId) (w : Word) (i : ℕ) (d : Bool) → i < width_at l v → get_or (read l v w) i d ≡ w (bit_at l v i)
read-at l v w i d within =
    let long = length-bits_at l v in
    get_or-map w (bits_at l v) i 0 d (omega (arith, long, within)) ∙ ap w (bits_at-at l v i 0 within)

pub read_position : (l : LayoutState) (v : VarId) (w : Word) (i : ℕ) → i < width_at l v → slice_get (read l v w) i ≡ Some (w (bit_at l v i))
read_position l v w i within =
    let long = length-read l v w in
    slice_get-get_or (read l v w) i false (omega (arith, long, within)) ∙ ap Some (read-at l v w i false within)

pub same_reading : (l : LayoutState) (v : VarId) (w u : Word) → ((i : ℕ) → i < width_at l v → w (bit_at l v i) ≡ u (bit_at l v i)) → read l v w ≡ read l v u
same_reading l v w u agree =
    let long = length-read l v w in
    ext_get_or false (read l v w) (read l v u) (length-read l v w ∙ sym (length-read l v u)) (λ i within.
    let inside : i < width_at l v = omega (arith, long, within) in
    read-at l v w i false inside ∙ agree i inside ∙ sym (read-at l v u i false inside))

-- reading looks at the bits of the scope alone
pub reading_agrees : (l : LayoutState) (scope : List VarId) (bits : List ℕ) (w u : Word) (v : VarId) → IsLayout l → AreBitsOf l scope bits → All (λ b. w b ≡ u b) bits → Contains scope v → read l v w ≡ read l v u
reading_agrees l scope bits w u v ok are agree h =
    same_reading l v w u (λ i within. All-contains (λ b. w b ≡ u b) bits (bit_at l v i) agree ((are.members (bit_at l v i)).1 (bit_is_of l scope v i ok h within)))

pub gives_agree : (l : LayoutState) (scope : List VarId) (bits : List ℕ) (values : List Value) (w u : Word) → IsLayout l → AreBitsOf l scope bits → All (λ b. w b ≡ u b) bits → Gives l scope values w → Gives l scope values u
gives_agree l scope bits values w u ok are agree given v h =
    let P : List Bool → Type 0 = λ word. IsSomeAnd (slice_get values v.0) (IsValueAt l v word) in
    subst P (reading_agrees l scope bits w u v ok are agree h) (given v h)

-- ---- the value at a variable

pub value_given : (l : LayoutState) (values : List Value) (v : VarId) (word : List Bool) → IsSomeAnd (slice_get values v.0) (IsValueAt l v word)
    → (x : Value) × (k : Kind) × (slice_get values v.0 ≡ Some x) × (slice_get l.kinds v.0 ≡ Some k) × IsValueOf k word x
value_given l values v word h =
    elim (slice_get values v.0) as (λ o. slice_get values v.0 ≡ o → IsSomeAnd o (IsValueAt l v word) → (x : Value) × (k : Kind) × (slice_get values v.0 ≡ Some x) × (slice_get l.kinds v.0 ≡ Some k) × IsValueOf k word x) [
      | None ↦ λ e h. absurd h
      | Some x ↦ λ e h. (elim (slice_get l.kinds v.0) as (λ o. slice_get l.kinds v.0 ≡ o → IsSomeAnd o (λ k. IsValueOf k word x) → (x : Value) × (k : Kind) × (slice_get values v.0 ≡ Some x) × (slice_get l.kinds v.0 ≡ Some k) × IsValueOf k word x) [
        | None ↦ λ f g. absurd g
        | Some k ↦ λ f g. (x, k, e, f, g)
      ]) refl h
    ] refl h

pub value_gives : (l : LayoutState) (values : List Value) (v : VarId) (word : List Bool) (x : Value) (k : Kind) → slice_get values v.0 ≡ Some x → slice_get l.kinds v.0 ≡ Some k → IsValueOf k word x
    → IsSomeAnd (slice_get values v.0) (IsValueAt l v word)
value_gives l values v word x k e f h =
    let P : Option Value → Type 0 = λ o. IsSomeAnd o (IsValueAt l v word) in
    let Q : Option Kind → Type 0 = λ o. IsSomeAnd o (λ k. IsValueOf k word x) in
    subst P (sym e) (subst Q (sym f) h)

same_some : {X : Type 0} (o : Option X) (x y : X) → o ≡ Some x → o ≡ Some y → x ≡ y
same_some o x y e f = let g : Some x ≡ Some y = sym e ∙ f in cc

-- a word gives one value at most
pub given_once : (l : LayoutState) (scope : List VarId) (xs ys : List Value) (w : Word) (v : VarId) → IsLayout l → Gives l scope xs w → Gives l scope ys w → Contains scope v → slice_get xs v.0 ≡ slice_get ys v.0
given_once l scope xs ys w v ok first second h =
    let a = value_given l xs v (read l v w) (first v h) in
    let b = value_given l ys v (read l v w) (second v h) in
    let same : b.1 ≡ a.1 = same_some (slice_get l.kinds v.0) b.1 a.1 b.3 a.3 in
    let other : IsValueOf a.1 (read l v w) b.0 = let P : Kind → Type 0 = λ k. IsValueOf k (read l v w) b.0 in subst P same b.4 in
    a.2 ∙ ap Some (one_value a.1 (read l v w) a.0 b.0 (legal_kind l v.0 a.1 ok a.3) a.4 other) ∙ sym b.2

-- the same values stand at the scope's bits as the same word
pub given_words : (l : LayoutState) (scope : List VarId) (values : List Value) (w u : Word) (v : VarId) → Gives l scope values w → Gives l scope values u → Contains scope v → read l v w ≡ read l v u
given_words l scope values w u v first second h =
    let a = value_given l values v (read l v w) (first v h) in
    let b = value_given l values v (read l v u) (second v h) in
    let x : a.0 ≡ b.0 = same_some (slice_get values v.0) a.0 b.0 a.2 b.2 in
    let k : a.1 ≡ b.1 = same_some (slice_get l.kinds v.0) a.1 b.1 a.3 b.3 in
    sym a.4.is_word ∙ ap (word_of a.1) x ∙ ap (λ k. word_of k b.0) k ∙ b.4.is_word

pub given_bits : (l : LayoutState) (scope : List VarId) (values : List Value) (w u : Word) (b : ℕ) → IsLayout l → Gives l scope values w → Gives l scope values u → (p : Place) → slice_get l.places b ≡ Some p → Contains scope p.variable → w b ≡ u b
given_bits l scope values w u b ok first second p at h =
    let s = place_within l b p ok at in
    let same : read l p.variable w ≡ read l p.variable u = given_words l scope values w u p.variable first second h in
    ap w (sym s.1) ∙ sym (read-at l p.variable w p.position false s.0) ∙ ap (λ xs. get_or xs p.position false) same ∙ read-at l p.variable u p.position false s.0 ∙ ap u s.1

-- ---- the word of an assignment

pub kind_of_value : (kinds : List Kind) (values : List Value) (i : ℕ) (x : Value) → IsAssignment kinds values → slice_get values i ≡ Some x → (k : Kind) × (slice_get kinds i ≡ Some k) × InKind k x
kind_of_value [] [] i x h e = absurd (let f : None ≡ Some x = e in cc)
kind_of_value [] (y ∷ ys) i x h e = absurd h
kind_of_value (k ∷ ks) [] i x h e = absurd h
kind_of_value (k ∷ ks) (y ∷ ys) zero x h e = (k, refl, let f : Some y ≡ Some x = e in let g : y ≡ x = cc in subst (InKind k) g h.0)
kind_of_value (k ∷ ks) (y ∷ ys) (suc i) x h e = kind_of_value ks ys i x h.1 e

pub value_of_kind : (kinds : List Kind) (values : List Value) (i : ℕ) (k : Kind) → IsAssignment kinds values → slice_get kinds i ≡ Some k → (x : Value) × (slice_get values i ≡ Some x) × InKind k x
value_of_kind [] values i k h e = absurd (let f : None ≡ Some k = e in cc)
value_of_kind (j ∷ ks) [] i k h e = absurd h
value_of_kind (j ∷ ks) (y ∷ ys) zero k h e = (y, refl, let f : Some j ≡ Some k = e in let g : j ≡ k = cc in let P : Kind → Type 0 = λ k. InKind k y in subst P g h.0)
value_of_kind (j ∷ ks) (y ∷ ys) (suc i) k h e = value_of_kind ks ys i k h.1 e

bit_in_word : (l : LayoutState) (values : List Value) (v : VarId) (x : Value) (i : ℕ) → IsLayout l → slice_get values v.0 ≡ Some x → i < width_at l v → i < length (word_at l v x)
    → word_of_values l values (bit_at l v i) ≡ get_or (word_at l v x) i false
bit_in_word l values v x i ok e within inside =
    let r = stands_cases l (bit_at l v i) v i (bit_stands l v i ok.order within) in
    let p : Place = r.0 in
    let at : (p : Place) → p.variable ≡ v → p.position ≡ i → bit_of_values l values p ≡ option_map_or (λ x. slice_index_or (word_at l v x) i false) (slice_get values v.0) false =
    λ p f g. ap (λ u. option_map_or (λ x. slice_index_or (word_at l u x) p.position false) (slice_get values u.0) false) f ∙ ap (λ j. option_map_or (λ x. slice_index_or (word_at l v x) j false) (slice_get values v.0) false) g in
    ap (λ o. option_map_or (bit_of_values l values) o false) r.1
    ∙ at p r.2 r.3
    ∙ ap (λ o. option_map_or (λ x. slice_index_or (word_at l v x) i false) o false) e

pub read_back : (l : LayoutState) (values : List Value) (v : VarId) (x : Value) → IsLayout l → IsAssignment l.kinds values → slice_get values v.0 ≡ Some x → read l v (word_of_values l values) ≡ word_at l v x
read_back l values v x ok assigned e =
    let w : Word = word_of_values l values in
    let k = kind_of_value l.kinds values v.0 x assigned e in
    let is : word_at l v x ≡ word_of k.0 x = ap (λ o. option_map_or (λ k. word_of k x) o []) k.1 in
    let wide : width_at l v ≡ width_of k.0 = width_is l v k.0 k.1 in
    let long : length (word_at l v x) ≡ width_at l v = ap length is ∙ length-word_of k.0 x k.2 ∙ sym wide in
    let other = length-read l v w in
    ext_get_or false (read l v w) (word_at l v x) (other ∙ sym long) (λ i within.
    let inside : i < width_at l v = omega (arith, other, within) in
    read-at l v w i false inside ∙ bit_in_word l values v x i ok e inside (omega (arith, long, inside)))

pub assignment_given : (l : LayoutState) (scope : List VarId) (values : List Value) → IsLayout l → IsAssignment l.kinds values → All (λ v. v.0 < length l.kinds) scope → Gives l scope values (word_of_values l values)
assignment_given l scope values ok assigned known v h =
    let within : v.0 < length l.kinds = All-contains (λ (v : VarId). v.0 < length l.kinds) scope v known h in
    let k : Kind = get_or l.kinds v.0 (Rattle.set_meaning.specs.declared.kinds.Kind.TheVariants.Bool) in
    let at : slice_get l.kinds v.0 ≡ Some k = slice_get-get_or l.kinds v.0 (Rattle.set_meaning.specs.declared.kinds.Kind.TheVariants.Bool) within in
    let x = value_of_kind l.kinds values v.0 k assigned at in
    value_gives l values v (read l v (word_of_values l values)) x.0 k x.1 at record {
      in_kind = x.2;
      is_word = ap (λ o. option_map_or (λ k. word_of k x.0) o []) (sym at) ∙ sym (read_back l values v x.0 ok assigned x.1);
    }

-- ---- sets of words

true_both : (a b : Bool) → (a ≡ true → b ≡ true) → (b ≡ true → a ≡ true) → a ≡ b
true_both true b f g = sym (f refl)
true_both false true f g = g refl
true_both false false f g = refl

pub words_once : (l : LayoutState) (scope : List VarId) (C : List Value → Type 0) (V W : Words) → AreWordsOf l scope C V → AreWordsOf l scope C W → (w : Word) → V w ≡ W w
words_once l scope C V W first second w =
    true_both (V w) (W w) (λ e. let r = first.sound w e in second.whole w r.0 r.2 r.3) (λ e. let r = second.sound w e in first.whole w r.0 r.2 r.3)

pub words_depend : (l : LayoutState) (scope : List VarId) (C : List Value → Type 0) (V : Words) (bits : List ℕ) (set : Bits) → IsLayout l → AreBitsOf l scope bits → AreWordsOf l scope C V → AllPass set bits → DependsOn set V
words_depend l scope C V bits set ok are words all w u agree =
    let over : All (λ b. w b ≡ u b) bits = λ i d within. agree (get_or bits i d) (all i d within) in
    let back : All (λ b. u b ≡ w b) bits = λ i d within. sym (over i d within) in
    true_both (V w) (V u)
    (λ e. let r = words.sound w e in words.whole u r.0 (gives_agree l scope bits r.0 w u ok are over r.2) r.3)
    (λ e. let r = words.sound u e in words.whole w r.0 (gives_agree l scope bits r.0 u w ok are back r.2) r.3)

pub scope_bits_given : (l : LayoutState) (scope : List VarId) (bits : List ℕ) (values : List Value) (w u : Word) → IsLayout l → AreBitsOf l scope bits → Gives l scope values w → Gives l scope values u → All (λ b. w b ≡ u b) bits
scope_bits_given l scope bits values w u ok are first second i d within =
    let b : ℕ = get_or bits i d in
    let r = place_of_bit l scope b ((are.members b).0 (Contains-get_or bits i d within)) in
    given_bits l scope values w u b ok first second r.0 r.1 r.2
