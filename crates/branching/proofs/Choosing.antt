-- The words of a domain and its values: what opens and settled positions say of values, and what a true bit keeps.
use Rattle.std.proofs.Common.{◌≡◌, ℕ, ◌<◌, Bool, true, false, ◌&&◌, List, [], ◌∷◌, Some, get_or, length, refl, sym, ◌∙◌, ap, subst}
use Rattle.std.specs.Prelude.{slice_get, slice_index_or, IsSomeAnd}
use Rattle.std.specs.Option.{option_map_or}
use Rattle.std.proofs.Math.Path.{fun_ext}
use Rattle.std.proofs.lemmas.Option.{slice_get-get_or, get_or_from_slice_get, slice_get_within}
use Rattle.std.proofs.lemmas.List.{ext_get_or}
use Rattle.set_meaning.specs.declared.kinds.Kind.{Kind}
use Rattle.set_meaning.specs.declared.kinds.Kind.TheVariants as kind
use Rattle.set_meaning.specs.declared.kinds.Value.{Value}
use Rattle.set_meaning.specs.declared.problems.VarId.{VarId}
use Rattle.bit_layout.specs.declared.places.Place.{Place}
use Rattle.bit_layout.specs.Words.{word_of, IsValueOf}
use Rattle.bit_layout.specs.Order.{LayoutState, IsLayout, bit_at, width_at, word_at, IsValueAt}
use Rattle.bit_layout.proofs.Finding.{bit_stands, stands_cases}
use Rattle.bit_layout.proofs.Rising.{in_head}
use Rattle.bit_layout.proofs.ValuesAt.{one_value_at}
use Rattle.diagram_arena.specs.declared.nodes.Ref.{Ref}
use Rattle.diagram_arena.specs.Table.{Word, Words, Table, has}
use Rattle.diagram_ops.specs.Words as words
use Rattle.diagram_view.specs.Words.{IsOpen, IsSettled, AreSettled}
use Rattle.scope_words.specs.Words.{read}
use Rattle.scope_words.proofs.Bits.{length-bits_at}
use Rattle.scope_words.proofs.Words.{read_position}
use Rattle.exact_steps.specs.Domains.{is_initial, word_of_value, values_in}
use Rattle.exact_steps.proofs.Values.{some_and, some_and_from, same_some, both_are, both_from}
use Rattle.exact_steps.proofs.Readings.{given_at}
use Rattle.problem_rules.specs.Branching.{bit_of, Occurs}
use Rattle.value_sets.proofs.SetWords.{HasWords}
use Rattle.branching.specs.Work.{kept, domain_words, HaveValues, HasOneValue}

-- ---- bits of values

pub kind_at : (kinds : List Kind) (v : ℕ) → v < length kinds → (k : Kind) × (slice_get kinds v ≡ Some k)
kind_at kinds v within = (get_or kinds v kind.Bool, slice_get-get_or kinds v kind.Bool within)

word_is : (l : LayoutState) (v : VarId) (k : Kind) (word : List Bool) (x : Value) → slice_get l.kinds v.0 ≡ Some k → IsValueAt l v word x → word_of k x ≡ word
word_is l v k word x e h =
    let is : IsValueOf k word x = subst (λ o. IsSomeAnd o (λ k. IsValueOf k word x)) e h in
    is.is_word

bit_is : (l : LayoutState) (v : VarId) (k : Kind) (word : List Bool) (x : Value) (i : ℕ) (b : Bool) → slice_get l.kinds v.0 ≡ Some k → IsValueAt l v word x → slice_get word i ≡ Some b → bit_of k i x ≡ b
bit_is l v k word x i b e h at = ap (λ w. slice_index_or w i false) (word_is l v k word x e h) ∙ get_or_from_slice_get word i b false at

-- the bit of a value's word in the word over all bits
bit_of_value : (l : LayoutState) (v : VarId) (k : Kind) (x : Value) (i : ℕ) → IsLayout l → slice_get l.kinds v.0 ≡ Some k → i < width_at l v → word_of_value l v x (bit_at l v i) ≡ bit_of k i x
bit_of_value l v k x i ok e within =
    let r = stands_cases l (bit_at l v i) v i (bit_stands l v i ok.order within) in
    ap (λ o. option_map_or (λ (p : Place). slice_index_or (word_at l v x) p.position false) o false) r.1
    ∙ ap (λ j. slice_index_or (word_at l v x) j false) r.3
    ∙ ap (λ o. slice_index_or (option_map_or (λ k. word_of k x) o []) i false) e

-- ---- positions

module _ (l : LayoutState) (t : Table) (v : VarId) (r : Ref) (k : Kind) (kind : slice_get l.kinds v.0 ≡ Some k) (have : HaveValues l v (values_in l t v r) (domain_words l t v r)) where
  pub occurs : (i : ℕ) (b : Bool) → IsOpen (domain_words l t v r) i → Occurs (values_in l t v r) k i b
  occurs i b opens =
      let s = opens b in
      let x = have.valued s.word s.is in
      (x.0, x.2, bit_is l v k s.word x.0 i b kind x.1 s.at)

  pub same_bit : (i : ℕ) (x y : Value) → IsSettled (domain_words l t v r) i → values_in l t v r x ≡ true → values_in l t v r y ≡ true → bit_of k i x ≡ bit_of k i y
  same_bit i x y settled on also =
      let a = have.spelled x on in
      let b = have.spelled y also in
      bit_is l v k a.0 x i settled.0 kind a.2 (settled.1 a.0 a.1) ∙ sym (bit_is l v k b.0 y i settled.0 kind b.2 (settled.1 b.0 b.1))

  -- two values of an opens domain differ
  pub never_one : (i : ℕ) → IsOpen (domain_words l t v r) i → HasOneValue (values_in l t v r) → ⊥
  never_one i opens one =
      let x = occurs i true opens in
      let y = occurs i false opens in
      let e : true ≡ false = sym x.2 ∙ ap (bit_of k i) (one x.0 y.0 x.1 y.1) ∙ y.2 in
      cc

-- where each position is settled there is one value
pub one_value : (l : LayoutState) (t : Table) (v : VarId) (r : Ref) → IsLayout l → HaveValues l v (values_in l t v r) (domain_words l t v r) → AreSettled (domain_words l t v r) → HasOneValue (values_in l t v r)
one_value l t v r ok have settled x y on also =
    let a = have.spelled x on in
    let b = have.spelled y also in
    let long_a = a.1.long in
    let long_b = b.1.long in
    let same : a.0 ≡ b.0 = ext_get_or false a.0 b.0 (long_a ∙ sym long_b) (λ i within.
    let s = settled i (subst (λ n. i < n) long_a within) in
    get_or_from_slice_get a.0 i s.0 false (s.1 a.0 a.1) ∙ sym (get_or_from_slice_get b.0 i s.0 false (s.1 b.0 b.1))) in
    one_value_at l v a.0 x y ok a.2 (subst (λ w. IsValueAt l v w y) (sym same) b.2)

pub position_within : (l : LayoutState) (t : Table) (v : VarId) (r : Ref) (i : ℕ) → IsOpen (domain_words l t v r) i → i < width_at l v
position_within l t v r i opens =
    let s = opens true in
    let inside : i < length s.word = slice_get_within s.word i true s.at in
    subst (λ n. i < n) (s.is.long ∙ length-bits_at l v) inside

-- ---- what a true bit keeps

-- the values of a set with a true bit at a position
abbrev pub with_bit_on : (Value → Bool) → Kind → ℕ → Value → Bool
with_bit_on s k i = λ x. s x && bit_of k i x

kept_spread : (a b c d : Bool) → c ≡ (b && d) → (a && c) ≡ ((a && b) && d)
kept_spread true b c d e = e
kept_spread false b c d e = refl

module _ (l : LayoutState) (v : VarId) (k : Kind) (i : ℕ) (ok : IsLayout l) (kind : slice_get l.kinds v.0 ≡ Some k) (within : i < width_at l v) where
  bit_given : (values : List Value) (w : Word) (x : Value) (y : Value) → slice_get values v.0 ≡ Some y → IsValueAt l v (read l v w) y → slice_get values v.0 ≡ Some x → bit_of k i x ≡ w (bit_at l v i)
  bit_given values w x y here value at =
      let same : y ≡ x = same_some (slice_get values v.0) y x here at in
      bit_is l v k (read l v w) x i (w (bit_at l v i)) kind (subst (IsValueAt l v (read l v w)) same value) (read_position l v w i within)

  pub kept_words : (s : Value → Bool) (V : Words) → HasWords l v s V → HasWords l v (with_bit_on s k i) (words.both V (words.words_with (bit_at l v i) true))
  kept_words s V are = record {
    sound = λ w h.
        let two = both_are (V w) (w (bit_at l v i)) h in
        let a = are.sound w two.0 in
        let x = some_and (slice_get a.0 v.0) (λ x. s x ≡ true) a.3 in
        let here = given_at l (v ∷ []) a.0 w v a.2 (in_head v []) in
        let on : bit_of k i x.0 ≡ true = bit_given a.0 w x.0 here.0 here.1 here.2 x.1 ∙ two.1 in
        (a.0, a.1, a.2, some_and_from (slice_get a.0 v.0) (λ x. (s x && bit_of k i x) ≡ true) x.0 x.1 (both_from (s x.0) (bit_of k i x.0) x.2 on));
    whole = λ w values given h.
        let x = some_and (slice_get values v.0) (λ x. (s x && bit_of k i x) ≡ true) h in
        let two = both_are (s x.0) (bit_of k i x.0) x.2 in
        let here = given_at l (v ∷ []) values w v given (in_head v []) in
        let on : w (bit_at l v i) ≡ true = sym (bit_given values w x.0 here.0 here.1 here.2 x.1) ∙ two.1 in
        both_from (V w) (w (bit_at l v i)) (are.whole w values given (some_and_from (slice_get values v.0) (λ x. s x ≡ true) x.0 x.1 two.0)) on;
  }

  pub kept_values : (t u : Table) (r q : Ref) → words.Denotes u (kept t r (bit_at l v i)) q → values_in l u v q ≡ with_bit_on (values_in l t v r) k i
  kept_values t u r q is = fun_ext (λ x.
      let w : Word = word_of_value l v x in
      kept_spread (is_initial l v x) (has t r w) (has u q w) (bit_of k i x)
      (is.words w ∙ ap (λ b. has t r w && b) (bit_of_value l v k x i ok kind within)))
