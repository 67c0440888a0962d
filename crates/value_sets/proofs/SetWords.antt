-- Sets of words of one variable, and the values that they have.
use Rattle.std.proofs.Common.{◌≡◌, ◌⊎◌, Bool, true, false, not, ◌&&◌, ◌||◌, List, [], ◌∷◌, refl, sym, ◌∙◌, ap, subst, inl, inr}
use Rattle.std.specs.Prelude.{MatchBool, slice_get}
use Rattle.std.proofs.Math.Path.{fun_ext}
use Rattle.std.proofs.lemmas.Bool.{or_cases}
use Rattle.set_meaning.specs.declared.kinds.Value.{Value}
use Rattle.set_meaning.specs.declared.problems.VarId.{VarId}
use Rattle.bit_layout.specs.Order.{LayoutState, IsLayout}
use Rattle.bit_layout.proofs.Rising.{in_head}
use Rattle.diagram_arena.specs.declared.nodes.Ref.{Ref}
use Rattle.diagram_arena.specs.Table.{Word, Words, Table, has, IsLive, IsReduced}
use Rattle.diagram_arena.specs.Reach.{Bits, ReachesOnly}
use Rattle.diagram_ops.specs.Words as words
use Rattle.search_rules.specs.Family.{Lies, Leaves, without}
use Rattle.scope_words.specs.Words.{AreWordsOf, IsBitOf}
use Rattle.exact_steps.specs.Domains.{AtVariable, is_initial, word_of_value, values_in}
use Rattle.exact_steps.proofs.Values.{some_and, some_and_from, same_some, both_are, both_from, or_left, or_right, same_truth}
use Rattle.exact_steps.proofs.Wanted.{words_depend}
use Rattle.value_sets.specs.Sets.{IsValueSet, IsSetOf, both, either}
use Rattle.value_sets.specs.Laws.{WordLaws}

pub truth_or : (b : Bool) → (b ≡ true) ⊎ (b ≡ false)
truth_or true = inl refl
truth_or false = inr refl

not_both : (b : Bool) → b ≡ true → not b ≡ true → {X : Type 0} → X
not_both true on off = let e : false ≡ true = off in cc
not_both false on off = cc

pub clash : (b : Bool) → b ≡ true → b ≡ false → {X : Type 0} → X
clash true on off = cc
clash false on off = cc

not_from : (b : Bool) → b ≡ false → not b ≡ true
not_from true off = absurd (cc)
not_from false off = refl

-- the set of the words of these values of the variable
abbrev pub HasWords : LayoutState → VarId → (Value → Bool) → Words → Type 0
HasWords l v s V = AreWordsOf l (v ∷ []) (AtVariable v (λ x. s x ≡ true)) V

-- ---- the operations on sets of words

module _ (laws : WordLaws) (l : LayoutState) (v : VarId) (s t : Value → Bool) (V W : Words) (ok : IsLayout l) (first : HasWords l v s V) (second : HasWords l v t W) where
  pub both_words : HasWords l v (both s t) (words.both V W)
  both_words = record {
    sound = λ w h.
        let two = both_are (V w) (W w) h in
        let a = first.sound w two.0 in
        let b = second.sound w two.1 in
        let x = some_and (slice_get a.0 v.0) (λ x. s x ≡ true) a.3 in
        let y = some_and (slice_get b.0 v.0) (λ x. t x ≡ true) b.3 in
        let one = laws.once l (v ∷ []) a.0 b.0 w v ok a.2 b.2 (in_head v []) in
        let same : x.0 ≡ y.0 = same_some (slice_get a.0 v.0) x.0 y.0 x.1 (one ∙ y.1) in
        (a.0, a.1, a.2, some_and_from (slice_get a.0 v.0) (λ x. (s x && t x) ≡ true) x.0 x.1 (both_from (s x.0) (t x.0) x.2 (subst (λ z. t z ≡ true) (sym same) y.2)));
    whole = λ w values given h.
        let x = some_and (slice_get values v.0) (λ x. (s x && t x) ≡ true) h in
        let two = both_are (s x.0) (t x.0) x.2 in
        both_from (V w) (W w) (first.whole w values given (some_and_from (slice_get values v.0) (λ x. s x ≡ true) x.0 x.1 two.0))
        (second.whole w values given (some_and_from (slice_get values v.0) (λ x. t x ≡ true) x.0 x.1 two.1));
  }

  pub either_words : HasWords l v (either s t) (words.either V W)
  either_words = record {
    sound = λ w h. elim (or_cases (V w) (W w) h) [
      | inl on ↦
          let a = first.sound w on in
          let x = some_and (slice_get a.0 v.0) (λ x. s x ≡ true) a.3 in
          (a.0, a.1, a.2, some_and_from (slice_get a.0 v.0) (λ x. (s x || t x) ≡ true) x.0 x.1 (or_left (s x.0) (t x.0) x.2))
      | inr on ↦
          let b = second.sound w on in
          let y = some_and (slice_get b.0 v.0) (λ x. t x ≡ true) b.3 in
          (b.0, b.1, b.2, some_and_from (slice_get b.0 v.0) (λ x. (s x || t x) ≡ true) y.0 y.1 (or_right (s y.0) (t y.0) y.2))
    ];
    whole = λ w values given h.
        let x = some_and (slice_get values v.0) (λ x. (s x || t x) ≡ true) h in
        elim (or_cases (s x.0) (t x.0) x.2) [
          | inl on ↦ or_left (V w) (W w) (first.whole w values given (some_and_from (slice_get values v.0) (λ x. s x ≡ true) x.0 x.1 on))
          | inr on ↦ or_right (V w) (W w) (second.whole w values given (some_and_from (slice_get values v.0) (λ x. t x ≡ true) x.0 x.1 on))
        ];
  }

  pub without_words : HasWords l v (without s t) (words.without V W)
  without_words = record {
    sound = λ w h.
        let two = both_are (V w) (not (W w)) h in
        let a = first.sound w two.0 in
        let x = some_and (slice_get a.0 v.0) (λ x. s x ≡ true) a.3 in
        let off : not (t x.0) ≡ true = elim (truth_or (t x.0)) [
          | inl on ↦ not_both (W w) (second.whole w a.0 a.2 (some_and_from (slice_get a.0 v.0) (λ x. t x ≡ true) x.0 x.1 on)) two.1
          | inr off ↦ not_from (t x.0) off
        ] in
        (a.0, a.1, a.2, some_and_from (slice_get a.0 v.0) (λ x. (s x && not (t x)) ≡ true) x.0 x.1 (both_from (s x.0) (not (t x.0)) x.2 off));
    whole = λ w values given h.
        let x = some_and (slice_get values v.0) (λ x. (s x && not (t x)) ≡ true) h in
        let two = both_are (s x.0) (not (t x.0)) x.2 in
        let off : not (W w) ≡ true = elim (truth_or (W w)) [
          | inl on ↦
              let b = second.sound w on in
              let y = some_and (slice_get b.0 v.0) (λ x. t x ≡ true) b.3 in
              let one = laws.once l (v ∷ []) values b.0 w v ok given b.2 (in_head v []) in
              let same : x.0 ≡ y.0 = same_some (slice_get values v.0) x.0 y.0 x.1 (one ∙ y.1) in
              not_both (t x.0) (subst (λ z. t z ≡ true) (sym same) y.2) two.1
          | inr off ↦ not_from (W w) off
        ] in
        both_from (V w) (not (W w)) (first.whole w values given (some_and_from (slice_get values v.0) (λ x. s x ≡ true) x.0 x.1 two.0)) off;
  }

  -- a word of the first set that is not in the second shows such a value
  pub leaves_values : words.Leaves V W → Leaves s t
  leaves_values h =
      let a = first.sound h.0 h.1 in
      let x = some_and (slice_get a.0 v.0) (λ x. s x ≡ true) a.3 in (
        x.0,
        x.2,
        elim (truth_or (t x.0)) [
          | inl on ↦ clash (W h.0) (second.whole h.0 a.0 a.2 (some_and_from (slice_get a.0 v.0) (λ x. t x ≡ true) x.0 x.1 on)) h.2
          | inr off ↦ off
        ],
      )

  -- where each value of the first is one of the second, so is each word
  pub words_lie : Lies s t → (w : Word) → V w ≡ true → W w ≡ true
  words_lie lies w on =
      let a = first.sound w on in
      let x = some_and (slice_get a.0 v.0) (λ x. s x ≡ true) a.3 in
      second.whole w a.0 a.2 (some_and_from (slice_get a.0 v.0) (λ x. t x ≡ true) x.0 x.1 (lies x.0 x.2))

-- ---- the values

both_spread : (i a b c : Bool) → c ≡ (a && b) → (i && c) ≡ ((i && a) && (i && b))
both_spread true a b c e = e
both_spread false a b c e = refl

either_spread : (i a b c : Bool) → c ≡ (a || b) → (i && c) ≡ ((i && a) || (i && b))
either_spread true a b c e = e
either_spread false a b c e = refl

without_spread : (i a b c : Bool) → c ≡ (a && not b) → (i && c) ≡ ((i && a) && not (i && b))
without_spread true a b c e = e
without_spread false a b c e = refl

module _ (l : LayoutState) (v : VarId) (t u : Table) (f g r : Ref) where
  pub both_values : ((w : Word) → has u r w ≡ words.both (has t f) (has t g) w) → values_in l u v r ≡ both (values_in l t v f) (values_in l t v g)
  both_values e = fun_ext (λ x. let w : Word = word_of_value l v x in both_spread (is_initial l v x) (has t f w) (has t g w) (has u r w) (e w))

  pub either_values : ((w : Word) → has u r w ≡ words.either (has t f) (has t g) w) → values_in l u v r ≡ either (values_in l t v f) (values_in l t v g)
  either_values e = fun_ext (λ x. let w : Word = word_of_value l v x in either_spread (is_initial l v x) (has t f w) (has t g w) (has u r w) (e w))

  pub without_values : ((w : Word) → has u r w ≡ words.without (has t f) (has t g) w) → values_in l u v r ≡ without (values_in l t v f) (values_in l t v g)
  without_values e = fun_ext (λ x. let w : Word = word_of_value l v x in without_spread (is_initial l v x) (has t f w) (has t g w) (has u r w) (e w))

-- r is the diagram of the values whose words it has
pub set_of_values : (l : LayoutState) (v : VarId) (u : Table) (s : Value → Bool) (V : Words) (r : Ref) → HasWords l v s V → words.Denotes u V r → values_in l u v r ≡ s → IsSetOf l u v s r
set_of_values l v u s V r are is e = record {
  set = record { live = is.live; words = subst (λ z. HasWords l v z (has u r)) (sym e) (subst (HasWords l v s) (sym (fun_ext is.words)) are) };
  values = e;
}

-- ---- where they lie

pub lies_values : (l : LayoutState) (v : VarId) (t : Table) (f g : Ref) → words.Lies (has t f) (has t g) → Lies (values_in l t v f) (values_in l t v g)
lies_values l v t f g lies x h =
    let two = both_are (is_initial l v x) (has t f (word_of_value l v x)) h in
    both_from (is_initial l v x) (has t g (word_of_value l v x)) two.0 (lies (word_of_value l v x) two.1)

pub compared : (laws : WordLaws) (l : LayoutState) (v : VarId) (t : Table) (f g : Ref) (holds : Bool) → IsLayout l → IsValueSet l t v f → IsValueSet l t v g
    → MatchBool holds (words.Lies (has t f) (has t g)) (words.Leaves (has t f) (has t g)) → MatchBool holds (Lies (values_in l t v f) (values_in l t v g)) (Leaves (values_in l t v f) (values_in l t v g))
compared laws l v t f g true ok first second is = lies_values l v t f g is
compared laws l v t f g false ok first second is =
    leaves_values laws l v (values_in l t v f) (values_in l t v g) (has t f) (has t g) ok first.words second.words is

-- a value set reaches only bits of its variable
pub reaches : (laws : WordLaws) (l : LayoutState) (v : VarId) (t : Table) (f : Ref) (bits : Bits) → IsLayout l → IsReduced t → IsValueSet l t v f
    → ((b : _) → IsBitOf l (v ∷ []) b → bits b ≡ true) → ReachesOnly t bits f
reaches laws l v t f bits ok reduced is covers =
    (laws.reach t reduced f is.live bits).1 (words_depend l (v ∷ []) (AtVariable v (λ x. values_in l t v f x ≡ true)) (has t f) bits ok is.words covers)

-- ---- one set, one ref

pub canonical : (laws : WordLaws) (l : LayoutState) (t : Table) (v : VarId) (f g : Ref) → IsLayout l → IsReduced t → IsValueSet l t v f → IsValueSet l t v g
    → ((x : Value) → values_in l t v f x ≡ values_in l t v g x) → f ≡ g
canonical laws l t v f g ok reduced first second same =
    laws.same_words t reduced f g first.live second.live (λ w. same_truth (has t f w) (has t g w)
    (words_lie laws l v (values_in l t v f) (values_in l t v g) (has t f) (has t g) ok first.words second.words (λ x h. sym (same x) ∙ h) w)
    (words_lie laws l v (values_in l t v g) (values_in l t v f) (has t g) (has t f) ok second.words first.words (λ x h. same x ∙ h) w))
