-- Sets of words of what satisfies a condition: of one variable, and projected to a variable.
use Rattle.std.proofs.Common.{◌≡◌, ℕ, ◌<◌, Bool, true, false, ◌&&◌, List, [], ◌∷◌, ◌++◌, length, get_or, Some, sym, ap, ◌∙◌, subst, inl, inr, Contains}
use Rattle.std.specs.Prelude.{slice_get, IsSomeAnd}
use Rattle.std.specs.List.{All}
use Rattle.std.specs.Cmp.{nat_eq_equiv}
use Rattle.std.proofs.lemmas.Bool.{eqb-true}
use Rattle.std.proofs.lemmas.Map.Views.{Contains-from_any, list_any-from_Contains}
use Rattle.std.proofs.lemmas.List.Elements.{Contains-append_cases, Contains-append_left, Contains-append_right}
use Rattle.set_meaning.specs.declared.kinds.Value.{Value}
use Rattle.set_meaning.specs.declared.problems.VarId.{VarId}
use Rattle.set_meaning.specs.Kinds.{IsAssignment}
use Rattle.diagram_arena.specs.Table.{Word, Words}
use Rattle.diagram_arena.specs.Reach.{among}
use Rattle.diagram_ops.specs.Words.{both, IsProjection}
use Rattle.bit_layout.specs.Order.{LayoutState, IsLayout, bit_at, IsValueAt}
use Rattle.bit_layout.proofs.Rising.{nothing_in_empty, in_head}
use Rattle.bit_layout.proofs.ValuesAt.{one_value_at}
use Rattle.scope_words.specs.Words.{read, Gives, word_of_values, AreWordsOf, bits_at}
use Rattle.scope_words.proofs.Bits.{bits_at_has, in_bits_at}
use Rattle.scope_words.proofs.Words.{value_given, given_once, given_words, assignment_given, read-at, same_reading}
use Rattle.exact_steps.specs.Domains.{is_initial, word_of_value, AtVariable}
use Rattle.exact_steps.specs.Steps.{AreWithin, Extends}
use Rattle.exact_steps.specs.Parts.{Within}
use Rattle.exact_steps.proofs.Values.{some_and, some_and_from, same_some, both_are, both_from, initial_from, some_list}
use Rattle.exact_steps.proofs.Readings.{one_of, value_in_word, gives_value, given_at, gives_one}

-- ---- sets of words of one variable

-- a value whose word is in the set: an assignment that satisfies the condition has it
pub value_sound : (l : LayoutState) (v : VarId) (C : List Value → Type 0) (V : Words) (x : Value) → IsLayout l → AreWordsOf l (v ∷ []) C V → is_initial l v x ≡ true → V (word_of_value l v x) ≡ true
    → (values : List Value) × IsAssignment l.kinds values × (slice_get values v.0 ≡ Some x) × C values
value_sound l v C V x ok words initial h =
    let r = words.sound (word_of_value l v x) h in
    let at = given_at l (v ∷ []) r.0 (word_of_value l v x) v r.2 (in_head v []) in
    let same : at.0 ≡ x = one_value_at l v (read l v (word_of_value l v x)) at.0 x ok at.2 (value_in_word l v x ok initial) in
    (r.0, r.1, at.1 ∙ ap Some same, r.3)

pub value_whole : (l : LayoutState) (v : VarId) (C : List Value → Type 0) (V : Words) (values : List Value) (x : Value) → IsLayout l → AreWordsOf l (v ∷ []) C V → is_initial l v x ≡ true
    → slice_get values v.0 ≡ Some x → C values → V (word_of_value l v x) ≡ true
value_whole l v C V values x ok words initial at holds =
    words.whole (word_of_value l v x) values (gives_value l v values x (word_of_value l v x) at (value_in_word l v x ok initial)) holds

-- the values that a set of words of one variable has
pub values_sound : (l : LayoutState) (v : VarId) (P : Value → Type 0) (V : Words) (x : Value) → IsLayout l → AreWordsOf l (v ∷ []) (AtVariable v P) V → is_initial l v x ≡ true → V (word_of_value l v x) ≡ true → P x
values_sound l v P V x ok words initial h =
    let r = value_sound l v (AtVariable v P) V x ok words initial h in
    let s = some_and (slice_get r.0 v.0) P r.3 in
    subst P (same_some (slice_get r.0 v.0) s.0 x s.1 r.2) s.2

pub values_whole : (l : LayoutState) (v : VarId) (P : Value → Type 0) (V : Words) (x : Value) → IsLayout l → AreWordsOf l (v ∷ []) (AtVariable v P) V → is_initial l v x ≡ true → P x → V (word_of_value l v x) ≡ true
values_whole l v P V x ok words initial h =
    let s = some_list v.0 x in
    value_whole l v (AtVariable v P) V s.0 x ok words initial s.1 (some_and_from (slice_get s.0 v.0) P x s.1 h)

-- an initial value stands at the bits
pub initial_at : (l : LayoutState) (v : VarId) (values : List Value) (word : List Bool) (x : Value) → IsLayout l → slice_get values v.0 ≡ Some x → IsValueAt l v word x → is_initial l v x ≡ true
initial_at l v values word x ok e h =
    let r = value_given l values v word (some_and_from (slice_get values v.0) (IsValueAt l v word) x e h) in
    subst (λ y. is_initial l v y ≡ true) (same_some (slice_get values v.0) r.0 x r.2 e) (initial_from l v r.1 r.0 ok r.3 r.4.in_kind)

-- the words of one variable are those of the values that the set has
pub own_words : (l : LayoutState) (v : VarId) (C : List Value → Type 0) (V : Words) → IsLayout l → AreWordsOf l (v ∷ []) C V
    → AreWordsOf l (v ∷ []) (AtVariable v (λ x. (is_initial l v x && V (word_of_value l v x)) ≡ true)) V
own_words l v C V ok words = record {
  sound = λ w h.
      let r = words.sound w h in
      let at = given_at l (v ∷ []) r.0 w v r.2 (in_head v []) in
      let initial : is_initial l v at.0 ≡ true = initial_at l v r.0 (read l v w) at.0 ok at.1 at.2 in
      let inside : V (word_of_value l v at.0) ≡ true = value_whole l v C V r.0 at.0 ok words initial at.1 r.3 in (
        r.0,
        r.1,
        r.2,
        some_and_from (slice_get r.0 v.0) (λ x. (is_initial l v x && V (word_of_value l v x)) ≡ true) at.0 at.1 (both_from (is_initial l v at.0) (V (word_of_value l v at.0)) initial inside),
      );
  whole = λ w values given h.
      let at = some_and (slice_get values v.0) (λ x. (is_initial l v x && V (word_of_value l v x)) ≡ true) h in
      let two = both_are (is_initial l v at.0) (V (word_of_value l v at.0)) at.2 in
      let r = value_sound l v C V at.0 ok words two.0 two.1 in
      let here = given_at l (v ∷ []) values w v given (in_head v []) in
      let same : here.0 ≡ at.0 = same_some (slice_get values v.0) here.0 at.0 here.1 at.1 in
      words.whole w r.0 (gives_value l v r.0 at.0 w r.2 (subst (IsValueAt l v (read l v w)) same here.2)) r.3;
}

-- ---- the projection to a variable

pub among_contains : (bits : List ℕ) (b : ℕ) → among bits b ≡ true → Contains bits b
among_contains bits b on = Contains-from_any eqb-true b bits on

pub contains_among : (bits : List ℕ) (b : ℕ) → Contains bits b → among bits b ≡ true
contains_among bits b h = list_any-from_Contains nat_eq_equiv b bits h

-- words that give a variable the same value have the same bits there
agree_at : (l : LayoutState) (v : VarId) (w u : Word) → read l v w ≡ read l v u → (b : ℕ) → among (bits_at l v) b ≡ true → w b ≡ u b
agree_at l v w u same b on =
    let r = in_bits_at l v b (among_contains (bits_at l v) b on) in
    ap w (sym r.2) ∙ sym (read-at l v w r.0 false r.1) ∙ ap (λ xs. get_or xs r.0 false) same ∙ read-at l v u r.0 false r.1 ∙ ap u r.2

pub extending_words : (l : LayoutState) (scope : List VarId) (C : List Value → Type 0) (f : ℕ → Value → Bool) (v : VarId) (V P : Words) → IsLayout l → All (λ v. v.0 < length l.kinds) scope → Contains scope v
    → AreWordsOf l scope (Within C f scope) V → IsProjection (among (bits_at l v)) V P → AreWordsOf l (v ∷ []) (AtVariable v (Extends l scope C f v)) P
extending_words l scope C f v V P ok known scoped words projection = record {
  sound = λ w h.
      let p = projection.sound w h in
      let r = words.sound p.0 p.1 in
      let at = given_at l scope r.0 p.0 v r.2 scoped in
      let same : read l v p.0 ≡ read l v w = same_reading l v p.0 w (λ i within. sym (p.2 (bit_at l v i) (contains_among (bits_at l v) (bit_at l v i) (bits_at_has l v i within)))) in (
        r.0,
        r.1,
        gives_value l v r.0 at.0 w at.1 (subst (λ word. IsValueAt l v word at.0) same at.2),
        some_and_from (slice_get r.0 v.0) (Extends l scope C f v) at.0 at.1 (record {
          values = r.0;
          scoped = scoped;
          at = at.1;
          support = record { initial = r.1; within = r.3.1; holds = r.3.0 };
        }),
      );
  whole = λ w values given h.
      let e = some_and (slice_get values v.0) (Extends l scope C f v) h in
      let s = e.2.values in
      let u : Word = word_of_values l s in
      let own = assignment_given l scope s ok e.2.support.initial known in
      let one = gives_one l scope s u v own scoped in
      let here = given_at l (v ∷ []) values w v given (in_head v []) in
      let same : here.0 ≡ e.0 = same_some (slice_get values v.0) here.0 e.0 here.1 e.1 in
      let mine : Gives l (v ∷ []) s w = gives_value l v s e.0 w e.2.at (subst (IsValueAt l v (read l v w)) same here.2) in
      projection.whole w u (words.whole u s own (e.2.support.holds, e.2.support.within)) (agree_at l v w u (given_words l (v ∷ []) s w u v mine one (in_head v [])));
}
