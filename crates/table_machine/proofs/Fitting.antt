-- Values fit together; and what the machine of initial values accepts.
use Rattle.std.proofs.Common.{◌≡◌, ℕ, zero, suc, ◌+◌, ◌-◌, ◌<◌, ◌≤◌, ◌↔◌, ◌&&◌, Bool, true, false, List, [], ◌∷◌, ◌++◌, length, get_or, take, drop, map, ℤ, Option, Some, None, refl, sym, ap, ◌∙◌, subst, inl, inr, arith, Contains}
use Rattle.std.specs.Prelude.{slice_get, slice_range, IsSomeAnd, Result, Ok, Err, IfOk}
use Rattle.std.specs.List.{All}
use Rattle.std.specs.List.Sorted.{IsStrictlySortedBy}
use Rattle.std.proofs.lemmas.Bool.{cases_eq, and_parts, and_from}
use Rattle.std.proofs.lemmas.List.{drop-append-le, take-append-le, length-append, length-drop, take_more}
use Rattle.std.proofs.lemmas.List.Elements.{All-head, All-tail, All-contains}
use Rattle.std.proofs.lemmas.Option.{slice_get-get_or}
use Rattle.std.proofs.lemmas.Slice.Zip.{all_zipped_more, AllZip-long}
use Rattle.set_meaning.specs.declared.kinds.Kind.{Kind}
use Rattle.set_meaning.specs.declared.kinds.Kind.TheVariants as kind
use Rattle.set_meaning.specs.declared.kinds.Value.{Value}
use Rattle.set_meaning.specs.declared.kinds.Value.TheVariants as value
use Rattle.set_meaning.specs.declared.problems.VarId.{VarId}
use Rattle.set_meaning.specs.Kinds.{InKind, IsSetWithin, IsAssignment}
use Rattle.set_meaning.specs.Problems.{IsKind}
use Rattle.set_meaning.specs.Sets.{Has, IsSubset}
use Rattle.diagram_arena.specs.Table.{Word}
use Rattle.bit_layout.specs.declared.places.Place.{Place}
use Rattle.bit_layout.specs.Words.{least, word_of, IsValueOf}
use Rattle.bit_layout.specs.Order.{LayoutState, IsLayout, width_at, bit_at, IsValueAt}
use Rattle.bit_machine.specs.Rules.{Rules, side_by_side, accepts}
use Rattle.scope_words.specs.Words.{AreWordsOf, read, Gives, AreBitsOf, IsSetKind}
use Rattle.table_machine.specs.declared.states.State.{State}
use Rattle.table_machine.specs.declared.states.State.TheVariants.{Free}
use Rattle.table_machine.specs.declared.states.Reading.{Reading}
use Rattle.table_machine.specs.Tables.{Tables, rules, AreTables, AreReadFrom, Occurs, IsBetween}
use Rattle.table_machine.specs.Values.{GivesInitialValues, AreBitsOfSome, IsReadingAt, IsReadingOf, AreReadingsOf, Grows}
use Rattle.table_machine.specs.Laws.{WordLaws}
use Rattle.table_machine.proofs.Steps.{Allows}
use Rattle.table_machine.proofs.Runs.{table_accepts}
use Rattle.table_machine.proofs.Domains.{word_long, int_in_kind}
use Rattle.table_machine.proofs.Scopes.{bit_place, one_position, IsInt, follow}
use Rattle.table_machine.proofs.ValueWords.{nothing_in_empty, in_cons, in_head, in_tail, kind_is, width_here, read_whole, HasValue, value_at, EachHasValue, meets_each}

-- ---- some assignment

some_value : Kind → Value
some_value kind.Bool = value.Bool false
some_value (kind.Int numbers) = value.Int (least numbers)
some_value (kind.Set universe) = value.Set []

some_number : (numbers : List ℤ) → (numbers ≡ [] → ⊥) → Has numbers (least numbers)
unfolding Has
some_number [] some = absurd (some refl)
some_number (x ∷ xs) some = (0, omega arith, refl)

empty_set : (universe : List ℤ) → IsSetWithin universe []
unfolding IsStrictlySortedBy IsSubset Has
empty_set universe = record { ascending = tt; within = λ x h. absurd (nothing_in_empty x h) }

some_in_kind : (k : Kind) → IsKind k → InKind k (some_value k)
unfolding some_value InKind
some_in_kind kind.Bool legal = tt
some_in_kind (kind.Int numbers) legal = some_number numbers legal.1
some_in_kind (kind.Set universe) legal = empty_set universe

some_assignment : (kinds : List Kind) → All IsKind kinds → IsAssignment kinds (map some_value kinds)
some_assignment [] legal = tt
some_assignment (k ∷ ks) legal = (some_in_kind k (All-head IsKind k ks legal), some_assignment ks (All-tail IsKind k ks legal))

-- ---- one value replaced

put : List Value → ℕ → Value → List Value
put [] i x = []
put (y ∷ ys) zero x = x ∷ ys
put (y ∷ ys) (suc i) x = y ∷ put ys i x

put_assigned : (kinds : List Kind) (ys : List Value) (i : ℕ) (k : Kind) (x : Value) → IsAssignment kinds ys → slice_get kinds i ≡ Some k → InKind k x → IsAssignment kinds (put ys i x)
unfolding put
put_assigned [] [] i k x h e is = tt
put_assigned [] (y ∷ ys) i k x h e is = absurd h
put_assigned (j ∷ ks) [] i k x h e is = absurd h
put_assigned (j ∷ ks) (y ∷ ys) zero k x h e is = (let f : Some j ≡ Some k = e in let g : j ≡ k = cc in let P : Kind → Type 0 = λ a. InKind a x in subst P (sym g) is, h.1)
put_assigned (j ∷ ks) (y ∷ ys) (suc i) k x h e is = (h.0, put_assigned ks ys i k x h.1 e is)

put_here : (kinds : List Kind) (ys : List Value) (i : ℕ) (k : Kind) (x : Value) → IsAssignment kinds ys → slice_get kinds i ≡ Some k → slice_get (put ys i x) i ≡ Some x
unfolding put
put_here [] ys i k x h e = absurd (let f : None ≡ Some k = e in cc)
put_here (j ∷ ks) [] i k x h e = absurd h
put_here (j ∷ ks) (y ∷ ys) zero k x h e = refl
put_here (j ∷ ks) (y ∷ ys) (suc i) k x h e = put_here ks ys i k x h.1 e

put_other : (ys : List Value) (i j : ℕ) (x : Value) → (i ≡ j → ⊥) → slice_get (put ys i x) j ≡ slice_get ys j
unfolding put
put_other [] i j x apart = refl
put_other (y ∷ ys) zero zero x apart = absurd (apart refl)
put_other (y ∷ ys) zero (suc j) x apart = refl
put_other (y ∷ ys) (suc i) zero x apart = refl
put_other (y ∷ ys) (suc i) (suc j) x apart = put_other ys i j x (λ e. apart (ap suc e))

-- ---- values fit together

kind_of_value : (l : LayoutState) (v : VarId) (word : List Bool) (x : Value) → IsValueAt l v word x → (k : Kind) × (slice_get l.kinds v.0 ≡ Some k) × IsValueOf k word x
kind_of_value l v word x h =
    elim (slice_get l.kinds v.0) as (λ o. slice_get l.kinds v.0 ≡ o → IsSomeAnd o (λ k. IsValueOf k word x) → (k : Kind) × (slice_get l.kinds v.0 ≡ Some k) × IsValueOf k word x) [
      | None ↦ λ e h. absurd h
      | Some k ↦ λ e h. (k, e, h)
    ] refl h

same_variable : (u v : VarId) → u.0 ≡ v.0 → u ≡ v
same_variable u v e = λ i. record { 0 = e i }

pub values_fit : (l : LayoutState) (scope : List VarId) (w : Word) → All IsKind l.kinds → ((v : VarId) → Contains scope v → HasValue l w v) → GivesInitialValues l scope w
values_fit l [] w legal has = (map some_value l.kinds, some_assignment l.kinds legal, λ v h. absurd (nothing_in_empty v h))
values_fit l (v ∷ vs) w legal has =
    let r = values_fit l vs w legal (λ u h. has u (in_tail v vs u h)) in
    let x = has v (in_head v vs v refl) in
    let k = kind_of_value l v (read l v w) x.0 x.1 in
    let values : List Value = put r.0 v.0 x.0 in
    let here : slice_get values v.0 ≡ Some x.0 = put_here l.kinds r.0 v.0 k.0 x.0 r.1 k.1 in (
      values,
      put_assigned l.kinds r.0 v.0 k.0 x.0 r.1 k.1 k.2.in_kind,
      λ u h. elim (cases_eq v.0 u.0) [
        | inl same ↦
            let e : v ≡ u = same_variable v u same in
            let P : VarId → Type 0 = λ z. IsSomeAnd (slice_get values z.0) (IsValueAt l z (read l z w)) in
            let Q : Option Value → Type 0 = λ o. IsSomeAnd o (IsValueAt l v (read l v w)) in
            subst P e (subst Q (sym here) x.1)
        | inr apart ↦
            let there : Contains vs u = (elim (in_cons v vs u h) [
              | inl e ↦ absurd (apart (ap (λ (z : VarId). z.0) e))
              | inr later ↦ later
            ]) in
            let Q : Option Value → Type 0 = λ o. IsSomeAnd o (IsValueAt l u (read l u w)) in
            subst Q (sym (put_other r.0 v.0 u.0 x.0 apart)) (r.2 u there)
      ],
    )

-- ---- each variable of the scope

no_bits : (xs ys : List Bool) → length xs ≡ 0 → length ys ≡ 0 → xs ≡ ys
no_bits [] [] p q = refl
no_bits [] (y ∷ ys) p q = absurd (omega (arith, q))
no_bits (x ∷ xs) ys p q = absurd (omega (arith, p))

bool_value : (word : List Bool) → length word ≡ 1 → (x : Value) × IsValueOf kind.Bool word x
unfolding InKind
bool_value [] long = absurd (omega (arith, long))
bool_value (b ∷ []) long = (value.Bool b, record { in_kind = tt; is_word = refl })
bool_value (b ∷ c ∷ bs) long = absurd (omega (arith, long))

given_value : (l : LayoutState) (scope : List VarId) (values : List Value) (w : Word) (v : VarId) → Gives l scope values w → Contains scope v → HasValue l w v
given_value l scope values w v given h =
    elim (slice_get values v.0) as (λ o. IsSomeAnd o (IsValueAt l v (read l v w)) → HasValue l w v) [
      | None ↦ λ h. absurd h
      | Some x ↦ λ h. (x, h)
    ] (given v h)

alone : (v u : VarId) → Contains (v ∷ []) u → v ≡ u
alone v u h =
    elim (in_cons v [] u h) [
      | inl e ↦ e
      | inr none ↦ absurd (nothing_in_empty u none)
    ]

value_by_kind : (laws : WordLaws) (l : LayoutState) (w : Word) (v : VarId) (k : Kind) → IsLayout l → slice_get l.kinds v.0 ≡ Some k → (IsInt l v → 0 < width_at l v → HasValue l w v) → HasValue l w v
value_by_kind laws l w v kind.Bool ok e ints =
    let long : length (read l v w) ≡ 1 = laws.read_long l v w ∙ width_here l v kind.Bool e in
    let x = bool_value (read l v w) long in
    value_at l w v kind.Bool x.0 e x.1
value_by_kind laws l w v (kind.Int numbers) ok e ints =
    elim (cases_eq (width_at l v) 0) [
      | inr some ↦ ints (numbers, e) (above (width_at l v) some)
      | inl none ↦
          let k = kind_is l v.0 (kind.Int numbers) ok e in
          let has = some_number numbers k.0.1 in
          let long : length (word_of (kind.Int numbers) (value.Int (least numbers))) ≡ 0 = word_long laws numbers (least numbers) has ∙ sym (width_here l v (kind.Int numbers) e) ∙ none in
          value_at l w v (kind.Int numbers) (value.Int (least numbers)) e record {
            in_kind = int_in_kind numbers (least numbers) has;
            is_word = no_bits (word_of (kind.Int numbers) (value.Int (least numbers))) (read l v w) long (laws.read_long l v w ∙ none);
          }
    ]
  where
    above : (n : ℕ) → (n ≡ 0 → ⊥) → 0 < n
    above zero some = absurd (some refl)
    above (suc n) some = omega arith
value_by_kind laws l w v (kind.Set universe) ok e ints =
    let P : Option Kind → Type 0 = λ o. IsSomeAnd o IsSetKind in
    let Q : VarId → Type 0 = λ u. IsSomeAnd (slice_get l.kinds u.0) IsSetKind in
    let given = laws.sets l (v ∷ []) w ok (λ u h. subst Q (alone v u h) (subst P (sym e) tt)) in
    given_value l (v ∷ []) given.0 w v given.2 (in_head v [] v refl)

scope_has_values : (laws : WordLaws) (l : LayoutState) (scope : List VarId) (bits : List ℕ) (w : Word) → IsLayout l → AreBitsOf l scope bits → All (λ v. v.0 < length l.kinds) scope → EachHasValue l w bits
    → (v : VarId) → Contains scope v → HasValue l w v
scope_has_values laws l scope bits w ok are known each v h =
    let within : v.0 < length l.kinds = All-contains (λ (v : VarId). v.0 < length l.kinds) scope v known h in
    let k : Kind = get_or l.kinds v.0 kind.Bool in
    value_by_kind laws l w v k ok (slice_get-get_or l.kinds v.0 kind.Bool within) (λ n some. each v n some ((are.members (bit_at l v 0)).1 (laws.of_scope l scope v 0 ok h some)))

each_has_value : (laws : WordLaws) (l : LayoutState) (scope : List VarId) (bits : List ℕ) (w : Word) → IsLayout l → AreBitsOf l scope bits → GivesInitialValues l scope w → EachHasValue l w bits
each_has_value laws l scope bits w ok are given u n some h =
    let b : ℕ = bit_at l u 0 in
    let p = bit_place l scope b ((are.members b).0 h) in
    let same = one_position laws l p.0.variable u p.0.position 0 ok (laws.within l b p.0 ok p.1) some (laws.back l b p.0 ok p.1) in
    given_value l scope given.0 w u given.2 (subst (Contains scope) same.0 p.2)

-- ---- the machine of initial values

pub initial_read : (laws : WordLaws) (l : LayoutState) (bits : List ℕ) (words : List ℕ) (readings : List Reading) → IsLayout l → AreBitsOfSome l bits → AreReadingsOf l words bits readings → AreReadFrom words 0 readings
initial_read laws l bits words readings ok are zip =
    let f = follow laws l are.0 bits ok are.1 in
    read_whole laws l words f.0 0 bits readings ok f.1 (λ none. absurd (omega (arith, none))) zip

free_between : (q : State) → q ≡ Free → IsBetween q
free_between q e = subst IsBetween (sym e) tt

pub initial_tables : (laws : WordLaws) (l : LayoutState) (bits : List ℕ) (t : Tables) → IsLayout l → AreBitsOfSome l bits → AreReadingsOf l t.words bits t.readings → t.start ≡ Free → AreTables t
initial_tables laws l bits t ok are zip free = record { start = free_between t.start free; whole = initial_read laws l bits t.words t.readings ok are zip }

pub initial_accepts : (laws : WordLaws) (l : LayoutState) (scope : List VarId) (bits : List ℕ) (t : Tables) (w : Word) → IsLayout l → AreBitsOf l scope bits → All (λ v. v.0 < length l.kinds) scope → AreReadingsOf l t.words bits t.readings
    → t.start ≡ Free → (accepts (rules t) bits w ≡ true) ↔ GivesInitialValues l scope w
initial_accepts laws l scope bits t w ok are known zip free =
    let f = follow laws l scope bits ok are in
    let read = read_whole laws l t.words f.0 0 bits t.readings ok f.1 (λ none. absurd (omega (arith, none))) zip in
    let long : length t.readings ≡ length bits = AllZip-long (IsReadingOf l t.words) bits t.readings zip in
    let O : State → Type 0 = λ q. Occurs t.words 0 q in
    let A : State → Type 0 = λ q. Allows t.words 0 q 0 in
    let table = table_accepts t bits w long read (subst O (sym free) tt) in
    let each = meets_each laws l t.words f.0 0 bits t.readings w ok f.1 (λ none. absurd (omega (arith, none))) zip in (
      λ e. values_fit l scope w ok.limits.legal (scope_has_values laws l scope bits w ok are known (each.0 (table.0 e).1)),
      λ given. table.1 (subst A (sym free) tt, each.1 (each_has_value laws l scope bits w ok are given)),
    )

-- ---- the loop that makes the readings

grown_part : (words more : List ℕ) (from to : ℕ) → from ≤ to → to ≤ length words → slice_range (words ++ more) from to ≡ slice_range words from to
grown_part words more from to up within =
    let rest : length (drop from words) ≡ length words - from = length-drop from words in
    ap (take (to - from)) (drop-append-le from words more (omega (arith, up, within))) ∙ take-append-le (to - from) (drop from words) more (omega (arith, rest, within))

grown_reading_at : (k : Kind) (words more : List ℕ) (i : ℕ) (r : Reading) → IsReadingAt k words i r → IsReadingAt k (words ++ more) i r
grown_reading_at kind.Bool words more i r h = h
grown_reading_at (kind.Int numbers) words more zero r h =
    let long = length-append words more in
    let within : h.1 ≤ length words = h.3 in
    (h.0, h.1, h.2, omega (arith, long, within), grown_part words more h.0 h.1 h.2 h.3 ∙ h.4, h.5)
grown_reading_at (kind.Int numbers) words more (suc i) r h = h
grown_reading_at (kind.Set universe) words more i r h = h

in_some : {X : Type 0} (P Q : X → Type 0) (o : Option X) → ((x : X) → P x → Q x) → IsSomeAnd o P → IsSomeAnd o Q
in_some P Q None f h = absurd h
in_some P Q (Some x) f h = f x h

grown_reading : (l : LayoutState) (words new : List ℕ) (b : ℕ) (r : Reading) → Grows words new → IsReadingOf l words b r → IsReadingOf l new b r
grown_reading l words new b r grows h =
    in_some (λ p. IsSomeAnd (slice_get l.kinds p.variable.0) (λ k. IsReadingAt k words p.position r)) (λ p. IsSomeAnd (slice_get l.kinds p.variable.0) (λ k. IsReadingAt k new p.position r)) (slice_get l.places b)
    (λ (p : Place). in_some (λ k. IsReadingAt k words p.position r) (λ k. IsReadingAt k new p.position r) (slice_get l.kinds p.variable.0)
    (λ k at. let P : List ℕ → Type 0 = λ ws. IsReadingAt k ws p.position r in subst P (sym grows.1) (grown_reading_at k words grows.0 p.position r at))) h

grown_readings : (l : LayoutState) (words new : List ℕ) (bits : List ℕ) (readings : List Reading) → Grows words new → AreReadingsOf l words bits readings → AreReadingsOf l new bits readings
grown_readings l words new [] [] grows h = tt
grown_readings l words new [] (r ∷ rs) grows h = absurd h
grown_readings l words new (b ∷ bs) [] grows h = absurd h
grown_readings l words new (b ∷ bs) (r ∷ rs) grows h = (grown_reading l words new b r grows h.0, grown_readings l words new bs rs grows h.1)

pub readings_step : (l : LayoutState) (words new : List ℕ) (bits : List ℕ) (readings pushed : List Reading) (i : ℕ) (r : Reading) → i < length bits → AreReadingsOf l words (take i bits) readings → Grows words new
    → IsReadingOf l new (get_or bits i 0) r → pushed ≡ readings ++ r ∷ [] → AreReadingsOf l new (take (i + 1) bits) pushed
readings_step l words new bits readings pushed i r within so_far grows here push =
    let b : ℕ = get_or bits i 0 in
    let P : List ℕ → Type 0 = λ bs. AreReadingsOf l new bs (readings ++ r ∷ []) in
    subst (AreReadingsOf l new (take (i + 1) bits)) (sym push) (subst P (sym (take_more bits i 0 within))
    (all_zipped_more (IsReadingOf l new) (take i bits) readings b r (grown_readings l words new (take i bits) readings grows so_far) here))

pub if_both : {T E : Type 0} (P Q R : T → Type 0) (r : Result T E) → ((t : T) → P t → Q t → R t) → IfOk r P → IfOk r Q → IfOk r R
if_both P Q R (Ok t) f p q = f t p q
if_both P Q R (Err e) f p q = tt

-- ---- a relation beside initial values

pub relation_words : {P Q : Type 0} (C : List Value → Type 0) (l : LayoutState) (scope : List VarId) (bits : List ℕ) (initial : Rules P) (relation : Rules Q) → IsLayout l
    → ((w : Word) → accepts (side_by_side ◌&&◌ initial relation) bits w ≡ (accepts initial bits w && accepts relation bits w)) → ((w : Word) → (accepts initial bits w ≡ true) ↔ GivesInitialValues l scope w)
    → ((values : List Value) (w : Word) → Gives l scope values w → (accepts relation bits w ≡ true) ↔ C values) → AreWordsOf l scope C (accepts (side_by_side ◌&&◌ initial relation) bits)
relation_words C l scope bits initial relation ok both first second = record {
  sound = λ w e.
      let parts = and_parts (accepts initial bits w) (accepts relation bits w) (sym (both w) ∙ e) in
      let given = (first w).0 parts.0 in
      (given.0, given.1, given.2, (second given.0 w given.2).0 parts.1);
  whole = λ w values given holds.
      let initial_value = values_fit l scope w ok.limits.legal (λ v h. given_value l scope values w v given h) in
      both w ∙ and_from (accepts initial bits w) (accepts relation bits w) ((first w).1 initial_value) ((second values w given).1 holds);
}
