-- Values on one side of a bound, and their words.
use Rattle.std.proofs.Common.{◌≡◌, ℕ, Bool, true, false, T, ◌&&◌, List, [], ◌∷◌, length, ℤ, refl, sym, ap, ◌∙◌, subst, arith, Result}
use Rattle.std.specs.Prelude.{◌≤ℤ◌, int_le, slice_get, IsSomeAnd, IfOk}
use Rattle.std.proofs.Math.Path.{fun_ext}
use Rattle.std.proofs.lemmas.Int.{ints}
use Rattle.std.proofs.lemmas.List.{length-map}
use Rattle.std.specs.Int.Signed.{le_z_yes}
use Rattle.std.specs.Option.{option_map_or}
use Rattle.std.specs.List.Sorted.{IsStrictlyIncreasing}
use Rattle.set_meaning.specs.declared.kinds.Value.{Value}
use Rattle.set_meaning.specs.declared.kinds.Value.TheVariants as value
use Rattle.set_meaning.specs.declared.kinds.Kind.{Kind}
use Rattle.set_meaning.specs.declared.kinds.Kind.TheVariants as kind
use Rattle.set_meaning.specs.declared.problems.VarId.{VarId}
use Rattle.set_meaning.specs.Kinds.{InKind}
use Rattle.bit_layout.specs.Words.{word_of, IsValueOf}
use Rattle.bit_layout.specs.Order.{LayoutState, IsLayout, word_at, IsValueAt}
use Rattle.bit_layout.proofs.Rising.{in_head}
use Rattle.bit_layout.proofs.ValuesAt.{long_word}
use Rattle.std.proofs.lemmas.Result.{IfOk-weaker}
use Rattle.node_reclaim.specs.Growth.{NewArePartsOf}
use Rattle.diagram_ops.proofs.Steps.{news_reach}
use Rattle.diagram_arena.specs.declared.nodes.Ref.{Ref}
use Rattle.diagram_arena.specs.Table.{Word, Words, Table, has, IsReduced}
use Rattle.diagram_arena.specs.Reach.{Bits, among, ReachesOnly, DependsOn}
use Rattle.diagram_ops.specs.Words as words
use Rattle.diagram_view.specs.Bounds.{IsAtMost}
use Rattle.diagram_view.proofs.Over.{IsOver}
use Rattle.diagram_view.proofs.Stepping.{over_from}
use Rattle.scope_words.specs.Words.{bits_at, read, NewReachOnlyScope}
use Rattle.scope_words.proofs.Bits.{length-bits_at}
use Rattle.exact_steps.specs.Domains.{AtVariable, is_initial, word_of_value, values_in}
use Rattle.exact_steps.proofs.Values.{some_and, some_and_from, same_some, both_are, both_from}
use Rattle.exact_steps.proofs.Readings.{value_in_word, given_at}
use Rattle.exact_steps.proofs.Sets.{contains_among}
use Rattle.exact_steps.proofs.Wanted.{bits_of_one, words_depend}
use Rattle.value_bounds.proofs.Orders.{numbers_in_order}
use Rattle.value_sets.specs.Sets.{IsValueSet, IsSetOf, both, NewArePartsOfValues}
use Rattle.value_sets.proofs.SetWords.{HasWords, set_of_values}
use Rattle.objective_sides.specs.declared.sense.Sense.{Sense}
use Rattle.objective_sides.specs.declared.sense.Sense.TheVariants as sense
use Rattle.objective_sides.specs.Sides.{is_beyond}
use Rattle.objective_sides.specs.Work.{goes, cut_words}

-- ---- words in order

goes_up : (vs us : List Bool) → length vs ≡ length us → goes sense.AtLeast vs us ≡ true → IsAtMost vs us
goes_up [] us long on = tt
goes_up (v ∷ vs) [] long on = absurd (omega (arith, long))
goes_up (false ∷ vs) (false ∷ us) long on = goes_up vs us (omega (arith, long)) on
goes_up (true ∷ vs) (true ∷ us) long on = goes_up vs us (omega (arith, long)) on
goes_up (false ∷ vs) (true ∷ us) long on = tt
goes_up (true ∷ vs) (false ∷ us) long on = absurd (let e : false ≡ true = on in cc)

not_up : (vs us : List Bool) → goes sense.AtLeast vs us ≡ false → IsAtMost us vs
not_up [] us off = absurd (let e : true ≡ false = off in cc)
not_up (v ∷ vs) [] off = tt
not_up (false ∷ vs) (false ∷ us) off = not_up vs us off
not_up (true ∷ vs) (true ∷ us) off = not_up vs us off
not_up (false ∷ vs) (true ∷ us) off = absurd (let e : true ≡ false = off in cc)
not_up (true ∷ vs) (false ∷ us) off = tt

goes_down : (vs us : List Bool) → length vs ≡ length us → goes sense.AtMost vs us ≡ true → IsAtMost us vs
goes_down [] [] long on = tt
goes_down [] (u ∷ us) long on = absurd (omega (arith, long))
goes_down (v ∷ vs) [] long on = tt
goes_down (false ∷ vs) (false ∷ us) long on = goes_down vs us (omega (arith, long)) on
goes_down (true ∷ vs) (true ∷ us) long on = goes_down vs us (omega (arith, long)) on
goes_down (false ∷ vs) (true ∷ us) long on = absurd (let e : false ≡ true = on in cc)
goes_down (true ∷ vs) (false ∷ us) long on = tt

not_down : (vs us : List Bool) → goes sense.AtMost vs us ≡ false → IsAtMost vs us
not_down [] us off = tt
not_down (v ∷ vs) [] off = absurd (let e : true ≡ false = off in cc)
not_down (false ∷ vs) (false ∷ us) off = not_down vs us off
not_down (true ∷ vs) (true ∷ us) off = not_down vs us off
not_down (false ∷ vs) (true ∷ us) off = tt
not_down (true ∷ vs) (false ∷ us) off = absurd (let e : true ≡ false = off in cc)

goes_itself : (s : Sense) (vs : List Bool) → goes s vs vs ≡ true
goes_itself s [] = refl
goes_itself s (true ∷ vs) = goes_itself s vs
goes_itself s (false ∷ vs) = goes_itself s vs

-- ---- numbers in order

is_so : (b : Bool) → T b → b ≡ true
is_so true h = refl
is_so false h = absurd h

le_is : (x y : ℤ) → int_le x y ≡ true → x ≤ℤ y
le_is x y h = le_z_yes (subst T (sym h) tt)

is_le : (x y : ℤ) → x ≤ℤ y → int_le x y ≡ true
is_le x y h = is_so (int_le x y) h.le

not_le : (x y : ℤ) → int_le x y ≡ false → x ≤ℤ y → {X : Type 0} → X
not_le x y off h = let on = is_le x y h in let e : true ≡ false = sym on ∙ off in cc

same_numbers : (x y : ℤ) → x ≤ℤ y → y ≤ℤ x → x ≡ y
same_numbers x y p q = omega (arith, ints, p, q)

word_once : (l : LayoutState) (v : VarId) (u w : List Bool) (x : Value) → IsValueAt l v u x → IsValueAt l v w x → u ≡ w
word_once l v u w x p q =
    let a = some_and (slice_get l.kinds v.0) (λ k. IsValueOf k u x) p in
    let b = some_and (slice_get l.kinds v.0) (λ k. IsValueOf k w x) q in
    let same : a.0 ≡ b.0 = same_some (slice_get l.kinds v.0) a.0 b.0 a.1 b.1 in
    sym a.2.is_word ∙ ap (λ k. word_of k x) same ∙ b.2.is_word

-- a value that shares its variable with an integer is one
number_beside : (k : Kind) (u w : List Bool) (x : ℤ) (y : Value) → IsValueOf k u (value.Int x) → IsValueOf k w y → (z : ℤ) × (y ≡ value.Int z)
unfolding InKind
number_beside kind.Bool u w x y p q = absurd p.in_kind
number_beside (kind.Set universe) u w x y p q = absurd p.in_kind
number_beside (kind.Int numbers) u w x (value.Bool b) p q = absurd q.in_kind
number_beside (kind.Int numbers) u w x (value.Int z) p q = (z, refl)
number_beside (kind.Int numbers) u w x (value.Set s) p q = absurd q.in_kind

-- ---- words and values on one side

module _ (l : LayoutState) (v : VarId) (word : List Bool) (bound : ℤ) (ok : IsLayout l) (is : IsValueAt l v word (value.Int bound)) where
  goes_number : (s : Sense) (u : List Bool) (x : ℤ) → length word ≡ length u → IsValueAt l v u (value.Int x) → (g : Bool) → goes s word u ≡ g → g ≡ is_beyond s bound (value.Int x)
  goes_number sense.AtLeast u x long at true e = sym (is_le bound x (numbers_in_order l v word u bound x ok is at (goes_up word u long e)))
  goes_number sense.AtLeast u x long at false e = by (int_le bound x) refl
    where
      by : (b : Bool) → int_le bound x ≡ b → false ≡ b
      by false h = refl
      by true h =
          let same : bound ≡ x = same_numbers bound x (le_is bound x h) (numbers_in_order l v u word x bound ok at is (not_up word u e)) in
          let one : word ≡ u = word_once l v word u (value.Int x) (subst (λ z. IsValueAt l v word (value.Int z)) same is) at in
          sym e ∙ ap (goes sense.AtLeast word) (sym one) ∙ goes_itself sense.AtLeast word
  goes_number sense.AtMost u x long at true e = sym (is_le x bound (numbers_in_order l v u word x bound ok at is (goes_down word u long e)))
  goes_number sense.AtMost u x long at false e = by (int_le x bound) refl
    where
      by : (b : Bool) → int_le x bound ≡ b → false ≡ b
      by false h = refl
      by true h =
          let same : bound ≡ x = same_numbers bound x (numbers_in_order l v word u bound x ok is at (not_down word u e)) (le_is x bound h) in
          let one : word ≡ u = word_once l v word u (value.Int x) (subst (λ z. IsValueAt l v word (value.Int z)) same is) at in
          sym e ∙ ap (goes sense.AtMost word) (sym one) ∙ goes_itself sense.AtMost word

  goes_beyond : (s : Sense) (u : List Bool) (x : Value) → length word ≡ length u → IsValueAt l v u x → goes s word u ≡ is_beyond s bound x
  goes_beyond s u x long at =
      let a = some_and (slice_get l.kinds v.0) (λ k. IsValueOf k word (value.Int bound)) is in
      let b = some_and (slice_get l.kinds v.0) (λ k. IsValueOf k u x) at in
      let same : a.0 ≡ b.0 = same_some (slice_get l.kinds v.0) a.0 b.0 a.1 b.1 in
      let number = number_beside b.0 word u bound x (subst (λ k. IsValueOf k word (value.Int bound)) same a.2) b.2 in
      goes_number s u number.0 long (subst (IsValueAt l v u) number.1 at) (goes s word u) refl ∙ ap (is_beyond s bound) (sym number.1)

  module _ (s : Sense) (f : Value → Bool) (V : Words) (are : HasWords l v f V) (long : length word ≡ length (bits_at l v)) where
    long_read : (w : Word) → length word ≡ length (read l v w)
    long_read w = long ∙ sym (length-map (bits_at l v) w)

    pub beyond_words : HasWords l v (both f (is_beyond s bound)) (λ w. V w && goes s word (read l v w))
    beyond_words = record {
      sound = λ w h.
          let two = both_are (V w) (goes s word (read l v w)) h in
          let a = are.sound w two.0 in
          let x = some_and (slice_get a.0 v.0) (λ x. f x ≡ true) a.3 in
          let here = given_at l (v ∷ []) a.0 w v a.2 (in_head v []) in
          let same : here.0 ≡ x.0 = same_some (slice_get a.0 v.0) here.0 x.0 here.1 x.1 in
          let on : is_beyond s bound x.0 ≡ true = sym (goes_beyond s (read l v w) x.0 (long_read w) (subst (IsValueAt l v (read l v w)) same here.2)) ∙ two.1 in
          (a.0, a.1, a.2, some_and_from (slice_get a.0 v.0) (λ x. (f x && is_beyond s bound x) ≡ true) x.0 x.1 (both_from (f x.0) (is_beyond s bound x.0) x.2 on));
      whole = λ w values given h.
          let x = some_and (slice_get values v.0) (λ x. (f x && is_beyond s bound x) ≡ true) h in
          let two = both_are (f x.0) (is_beyond s bound x.0) x.2 in
          let here = given_at l (v ∷ []) values w v given (in_head v []) in
          let same : here.0 ≡ x.0 = same_some (slice_get values v.0) here.0 x.0 here.1 x.1 in
          let on : goes s word (read l v w) ≡ true = goes_beyond s (read l v w) x.0 (long_read w) (subst (IsValueAt l v (read l v w)) same here.2) ∙ two.1 in
          both_from (V w) (goes s word (read l v w)) (are.whole w values given (some_and_from (slice_get values v.0) (λ x. f x ≡ true) x.0 x.1 two.0)) on;
    }

  pub beyond_values : (s : Sense) (t u : Table) (r q : Ref) → length word ≡ length (bits_at l v) → words.Denotes u (cut_words t r (bits_at l v) word s) q
      → values_in l u v q ≡ both (values_in l t v r) (is_beyond s bound)
  beyond_values s t u r q long denotes = fun_ext (λ x. at x (is_initial l v x) refl)
    where
      at : (x : Value) (i : Bool) → is_initial l v x ≡ i → (i && has u q (word_of_value l v x)) ≡ ((i && has t r (word_of_value l v x)) && is_beyond s bound x)
      at x false e = refl
      at x true e =
          let w : Word = word_of_value l v x in
          denotes.words w ∙ ap (λ b. has t r w && b) (goes_beyond s (read l v w) x (long ∙ sym (length-map (bits_at l v) w)) (value_in_word l v x ok e))

-- ---- the bits of a value set

pub over_bits : (l : LayoutState) (t : Table) (v : VarId) (f : Ref) (bits : List ℕ) → IsLayout l → ((set : Bits) → (DependsOn set (has t f) → ReachesOnly t set f)) → IsValueSet l t v f → bits ≡ bits_at l v
    → IsStrictlyIncreasing bits → IsOver t f bits
over_bits l t v f bits ok reach is same up =
    over_from t f bits is.live up (subst (λ (bs : List ℕ). ReachesOnly t (among bs) f) (sym same) (reach (among (bits_at l v))
    (words_depend l (v ∷ []) (AtVariable v (λ x. values_in l t v f x ≡ true)) (has t f) (among (bits_at l v)) ok is.words
    (λ b of. contains_among (bits_at l v) b (((bits_of_one l v ok).members b).1 of)))))

-- ---- where there is no word, there is one by the definitions

pub word_there : (l : LayoutState) (v : VarId) (bound : ℤ) → IsSomeAnd (slice_get l.kinds v.0) (λ k. InKind k (value.Int bound)) → IsValueAt l v (word_at l v (value.Int bound)) (value.Int bound)
word_there l v bound known =
    let k = some_and (slice_get l.kinds v.0) (λ k. InKind k (value.Int bound)) known in
    some_and_from (slice_get l.kinds v.0) (λ k. IsValueOf k (word_at l v (value.Int bound)) (value.Int bound)) k.0 k.1
    (record { in_kind = k.2; is_word = ap (λ o. option_map_or (λ k. word_of k (value.Int bound)) o []) (sym k.1) })

pub word_long : (l : LayoutState) (v : VarId) (word : List Bool) (bound : ℤ) → IsLayout l → IsValueAt l v word (value.Int bound) → length word ≡ length (bits_at l v)
word_long l v word bound ok is =
    let k = some_and (slice_get l.kinds v.0) (λ k. IsValueOf k word (value.Int bound)) is in
    long_word l v k.0 (value.Int bound) word k.1 k.2.in_kind (sym k.2.is_word) ∙ sym (length-bits_at l v)

-- what cutting a value set leaves: the set of the words of these values
pub cut_parts : (l : LayoutState) (v : VarId) (t u : Table) (f : Ref) (word : List Bool) (bound : ℤ) (s : Sense) → IsLayout l → IsValueAt l v word (value.Int bound) → IsValueSet l t v f
    → NewArePartsOf t u (cut_words t f (bits_at l v) word s) → NewArePartsOfValues l v (both (values_in l t v f) (is_beyond s bound)) t u
cut_parts l v t u f word bound s ok is set parts =
    (cut_words t f (bits_at l v) word s, beyond_words l v word bound ok is s (values_in l t v f) (has t f) set.words (word_long l v word bound ok is), parts)

pub cut_reach : (l : LayoutState) (v : VarId) (t u : Table) (f : Ref) (word : List Bool) (bound : ℤ) (s : Sense) → IsLayout l → IsValueAt l v word (value.Int bound) → IsValueSet l t v f → IsReduced u
    → NewArePartsOf t u (cut_words t f (bits_at l v) word s) → NewReachOnlyScope l (v ∷ []) t u
cut_reach l v t u f word bound s ok is set reduced parts bits covers =
    news_reach t u reduced bits (cut_words t f (bits_at l v) word s)
    (words_depend l (v ∷ []) (AtVariable v (λ x. both (values_in l t v f) (is_beyond s bound) x ≡ true)) (cut_words t f (bits_at l v) word s) bits ok
    (beyond_words l v word bound ok is s (values_in l t v f) (has t f) set.words (word_long l v word bound ok is)) covers) parts

pub cut_set : {E : Type 0} (l : LayoutState) (v : VarId) (t u : Table) (f : Ref) (word : List Bool) (bound : ℤ) (s : Sense) (o : Result Ref E) → IsLayout l → IsValueAt l v word (value.Int bound) → IsValueSet l t v f
    → IfOk o (words.Denotes u (cut_words t f (bits_at l v) word s)) → IfOk o (IsSetOf l u v (both (values_in l t v f) (is_beyond s bound)))
cut_set l v t u f word bound s o ok is set denotes =
    IfOk-weaker o (words.Denotes u (cut_words t f (bits_at l v) word s)) (IsSetOf l u v (both (values_in l t v f) (is_beyond s bound)))
    (λ r h. set_of_values l v u (both (values_in l t v f) (is_beyond s bound)) (cut_words t f (bits_at l v) word s) r
    (beyond_words l v word bound ok is s (values_in l t v f) (has t f) set.words (word_long l v word bound ok is)) h (beyond_values l v word bound ok is s t u f r (word_long l v word bound ok is) h)) denotes
