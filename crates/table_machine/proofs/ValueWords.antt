-- The machine of initial values: its readings are whole words, each listed just where it is the word of a value.
use Rattle.std.proofs.Common.{◌≡◌, ℕ, zero, suc, ◌+◌, ◌-◌, ◌<◌, ◌≤◌, ◌↔◌, ◌⊎◌, Bool, false, List, [], ◌∷◌, length, get_or, drop, ℤ, Option, Some, refl, sym, ap, ◌∙◌, subst, inl, inr, arith, Contains}
use Rattle.std.specs.Prelude.{slice_get, slice_range, IsSomeAnd}
use Rattle.std.specs.List.{AllZip}
use Rattle.std.specs.Option.{option_map_or}
use Rattle.std.proofs.lemmas.List.{drop_more, drop_all}
use Rattle.std.proofs.lemmas.List.Elements.{All-get_or}
use Rattle.std.proofs.lemmas.Option.{get_or_from_slice_get, slice_get_within}
use Rattle.set_meaning.specs.declared.kinds.Kind.{Kind}
use Rattle.set_meaning.specs.declared.kinds.Kind.TheVariants as kind
use Rattle.set_meaning.specs.declared.kinds.Value.{Value}
use Rattle.set_meaning.specs.declared.problems.VarId.{VarId}
use Rattle.set_meaning.specs.Problems.{IsKind}
use Rattle.diagram_arena.specs.Table.{Word}
use Rattle.bit_layout.specs.declared.places.Place.{Place}
use Rattle.bit_layout.specs.Words.{number, width_of, IsValueOf}
use Rattle.bit_layout.specs.Limits.{IsNarrow}
use Rattle.bit_layout.specs.Order.{LayoutState, IsLayout, width_at, bit_at, IsValueAt}
use Rattle.scope_words.specs.Words.{read}
use Rattle.table_machine.specs.declared.states.Reading.{Reading}
use Rattle.table_machine.specs.declared.states.Reading.TheVariants.{Passed, First, Next}
use Rattle.table_machine.specs.Tables.{AreReadFrom, IsTable}
use Rattle.table_machine.specs.Values.{offsets, IsReadingAt, IsReadingOf}
use Rattle.table_machine.specs.Laws.{WordLaws}
use Rattle.table_machine.proofs.Branches.{Ends}
use Rattle.table_machine.proofs.Runs.{coming, Meets}
use Rattle.table_machine.proofs.Domains.{domain_table, listed_is_value}
use Rattle.table_machine.proofs.Scopes.{stands_place, one_position, IsInt, IsOther, not_int, Follow}

-- ---- lists

pub nothing_in_empty : {X : Type 0} (x : X) → Contains [] x → ⊥
nothing_in_empty x h = let none : h.0 < 0 = h.1 in omega (arith, none)

in_cons_at : {X : Type 0} (y : X) (ys : List X) (x : X) (k : ℕ) → k < length (y ∷ ys) → get_or (y ∷ ys) k x ≡ x → (y ≡ x) ⊎ Contains ys x
in_cons_at y ys x zero within at = inl at
in_cons_at y ys x (suc k) within at = inr (k, omega (arith, within), at)

pub in_cons : {X : Type 0} (y : X) (ys : List X) (x : X) → Contains (y ∷ ys) x → (y ≡ x) ⊎ Contains ys x
in_cons y ys x h = in_cons_at y ys x h.0 h.1 h.2

pub in_head : {X : Type 0} (y : X) (ys : List X) (x : X) → y ≡ x → Contains (y ∷ ys) x
in_head y ys x e = (0, omega arith, e)

pub in_tail : {X : Type 0} (y : X) (ys : List X) (x : X) → Contains ys x → Contains (y ∷ ys) x
in_tail y ys x h = (suc h.0, let within : h.0 < length ys = h.1 in omega (arith, within), h.2)

-- ---- kinds and readings

pub kind_is : (l : LayoutState) (v : ℕ) (k : Kind) → IsLayout l → slice_get l.kinds v ≡ Some k → IsKind k × IsNarrow k
kind_is l v k ok e =
    let within = slice_get_within l.kinds v k e in
    let here = get_or_from_slice_get l.kinds v k k e in
    let P : Kind → Type 0 = λ j. IsKind j × IsNarrow j in
    subst P here (All-get_or IsKind l.kinds v k within ok.limits.legal, All-get_or IsNarrow l.kinds v k within ok.limits.narrow)

pub width_here : (l : LayoutState) (v : VarId) (k : Kind) → slice_get l.kinds v.0 ≡ Some k → width_at l v ≡ width_of k
width_here l v k e = ap (λ o. option_map_or width_of o 0) e

reading_here : (l : LayoutState) (words : List ℕ) (b : ℕ) (r : Reading) (p : Place) (k : Kind) → slice_get l.places b ≡ Some p → slice_get l.kinds p.variable.0 ≡ Some k → IsReadingOf l words b r → IsReadingAt k words p.position r
reading_here l words b r p k e f h =
    let P : Option Place → Type 0 = λ o. IsSomeAnd o (λ p. IsSomeAnd (slice_get l.kinds p.variable.0) (λ k. IsReadingAt k words p.position r)) in
    let Q : Option Kind → Type 0 = λ o. IsSomeAnd o (λ k. IsReadingAt k words p.position r) in
    subst Q f (subst P e h)

int_reading : (laws : WordLaws) (l : LayoutState) (words : List ℕ) (b : ℕ) (r : Reading) (v : VarId) (i : ℕ) (numbers : List ℤ) → IsLayout l → slice_get l.kinds v.0 ≡ Some (kind.Int numbers) → i < width_at l v
    → b ≡ bit_at l v i → IsReadingOf l words b r → IsReadingAt (kind.Int numbers) words i r
int_reading laws l words b r v i numbers ok e within is h =
    let p = stands_place l (bit_at l v i) v i (laws.stands l v i ok within) in
    let here : slice_get l.kinds p.0.variable.0 ≡ Some (kind.Int numbers) = ap (λ (u : VarId). slice_get l.kinds u.0) p.2 ∙ e in
    let P : ℕ → Type 0 = λ j. IsReadingAt (kind.Int numbers) words j r in
    subst P p.3 (reading_here l words b r p.0 (kind.Int numbers) (ap (slice_get l.places) is ∙ p.1) here h)

other_reading : (l : LayoutState) (words : List ℕ) (b : ℕ) (r : Reading) → IsOther l b → IsReadingOf l words b r → r ≡ Passed
other_reading l words b r other h =
    elim other.2 [
      | inl bool ↦ reading_here l words b r other.0 kind.Bool other.1 bool h
      | inr set ↦ reading_here l words b r other.0 (kind.Set set.0) other.1 set.1 h
    ]

-- the first bit of a variable: its table
pub record Begins (words : List ℕ) (numbers : List ℤ) (rest : ℕ) (r : Reading) (from to : ℕ) : Type 0 where
  pub up : from ≤ to
  pub within : to ≤ length words
  pub is : slice_range words from to ≡ offsets numbers
  pub reading : r ≡ First from to rest

first_reading : (laws : WordLaws) (l : LayoutState) (words : List ℕ) (b : ℕ) (r : Reading) (u : VarId) (rest : ℕ) (numbers : List ℤ) → IsLayout l → slice_get l.kinds u.0 ≡ Some (kind.Int numbers) → width_at l u ≡ suc rest
    → b ≡ bit_at l u 0 → IsReadingOf l words b r → (from : ℕ) × (to : ℕ) × Begins words numbers rest r from to
first_reading laws l words b r u rest numbers ok e wide is h =
    let t = int_reading laws l words b r u 0 numbers ok e (omega (arith, wide)) is h in
    let w : width_of (kind.Int numbers) ≡ suc rest = sym (width_here l u (kind.Int numbers) e) ∙ wide in
    let last : width_of (kind.Int numbers) - 1 ≡ rest = less_one (width_of (kind.Int numbers)) rest w in
    (t.0, t.1, record { up = t.2; within = t.3; is = t.4; reading = t.5 ∙ ap (First t.0 t.1) last })
  where
    less_one : (w rest : ℕ) → w ≡ suc rest → w - 1 ≡ rest
    less_one w rest e = omega (arith, e)

next_reading : (laws : WordLaws) (l : LayoutState) (words : List ℕ) (b : ℕ) (r : Reading) (v : VarId) (left : ℕ) → IsLayout l → IsInt l v → suc left < width_at l v → b ≡ bit_at l v (width_at l v - suc left)
    → IsReadingOf l words b r → r ≡ Next left
next_reading laws l words b r v left ok n within is h =
    let j : ℕ = width_at l v - suc left - 1 in
    let e : width_at l v - suc left ≡ suc j = omega (arith, within) in
    let t : IsReadingAt (kind.Int n.0) words (suc j) r = int_reading laws l words b r v (suc j) n.0 ok n.1 (omega (arith, within)) (is ∙ ap (bit_at l v) e) h in
    let w : width_of (kind.Int n.0) ≡ width_at l v = sym (width_here l v (kind.Int n.0) n.1) in
    t ∙ ap Next (count (width_of (kind.Int n.0)) (width_at l v) j left w within)
  where
    count : (a w j left : ℕ) → a ≡ w → suc left < w → a - 1 - suc (w - suc left - 1) ≡ left
    count a w j left e within = omega (arith, e, within)

begun_table : (laws : WordLaws) (l : LayoutState) (words : List ℕ) (u : VarId) (rest : ℕ) (numbers : List ℤ) (r : Reading) (from to : ℕ) → IsLayout l → slice_get l.kinds u.0 ≡ Some (kind.Int numbers)
    → width_at l u ≡ suc rest → Begins words numbers rest r from to → IsTable words from to (suc rest)
begun_table laws l words u rest numbers r from to ok e wide t =
    let k = kind_is l u.0 (kind.Int numbers) ok e in
    let w : width_of (kind.Int numbers) ≡ suc rest = sym (width_here l u (kind.Int numbers) e) ∙ wide in
    subst (IsTable words from to) w (domain_table laws words numbers from to k.0.0 k.1 t.up t.within t.is)

-- ---- the readings are whole words

pub read_whole : (laws : WordLaws) (l : LayoutState) (words : List ℕ) (v : VarId) (left : ℕ) (bs : List ℕ) (rs : List Reading) → IsLayout l → Follow l v left bs → (0 < left → IsInt l v × (left < width_at l v))
    → AllZip (IsReadingOf l words) bs rs → AreReadFrom words left rs
read_whole laws l words v zero [] [] ok follow inside zip = tt
read_whole laws l words v (suc left) [] [] ok follow inside zip = absurd follow
read_whole laws l words v left [] (r ∷ rs) ok follow inside zip = absurd zip
read_whole laws l words v left (b ∷ bs) [] ok follow inside zip = absurd zip
read_whole laws l words v zero (b ∷ bs) (r ∷ rs) ok follow inside zip =
    let P : Reading → Type 0 = λ x. AreReadFrom words 0 (x ∷ rs) in
    elim follow [
      | inl other ↦ subst P (sym (other_reading l words b r other.0 zip.0)) (read_whole laws l words v zero bs rs ok other.1 inside zip.1)
      | inr first ↦
          let u : VarId = first.0 in
          let rest : ℕ = first.1 in
          let t = first_reading laws l words b r u rest first.2.0 ok first.2.1 first.3 first.4 zip.0 in
          let wide : width_at l u ≡ suc rest = first.3 in
          subst P (sym t.2.reading) (
            begun_table laws l words u rest first.2.0 r t.0 t.1 ok first.2.1 first.3 t.2,
            read_whole laws l words u rest bs rs ok first.5 (λ some. (first.2, omega (arith, wide))) zip.1,
          )
    ]
read_whole laws l words v (suc left) (b ∷ bs) (r ∷ rs) ok follow inside zip =
    let n = inside (omega arith) in
    let within : suc left < width_at l v = n.1 in
    let P : Reading → Type 0 = λ x. AreReadFrom words (suc left) (x ∷ rs) in
    subst P (sym (next_reading laws l words b r v left ok n.0 n.1 follow.0 zip.0)) (refl, read_whole laws l words v left bs rs ok follow.1 (λ some. (n.0, omega (arith, within))) zip.1)

-- ---- what is read is what stands at the variable's bits

read_get : (laws : WordLaws) (l : LayoutState) (v : VarId) (w : Word) (i : ℕ) → i < width_at l v → get_or (read l v w) i false ≡ w (bit_at l v i)
read_get laws l v w i within = get_or_from_slice_get (read l v w) i (w (bit_at l v i)) false (laws.read_at l v w i within)

read_split : (laws : WordLaws) (l : LayoutState) (v : VarId) (w : Word) (i : ℕ) → i < width_at l v → drop i (read l v w) ≡ w (bit_at l v i) ∷ drop (i + 1) (read l v w)
read_split laws l v w i within =
    let long = laws.read_long l v w in
    drop_more (read l v w) i false (omega (arith, long, within)) ∙ ap (λ x. x ∷ drop (i + 1) (read l v w)) (read_get laws l v w i within)

pub coming_is : (laws : WordLaws) (l : LayoutState) (words : List ℕ) (v : VarId) (left : ℕ) (bs : List ℕ) (rs : List Reading) (w : Word) → IsLayout l → Follow l v left bs → IsInt l v → left < width_at l v
    → AllZip (IsReadingOf l words) bs rs → coming left rs bs w ≡ drop (width_at l v - left) (read l v w)
coming_is laws l words v zero bs rs w ok follow n within zip =
    let long = laws.read_long l v w in
    sym (drop_all (width_at l v - 0) (read l v w) (omega (arith, long)))
coming_is laws l words v (suc left) [] rs w ok follow n within zip = absurd follow
coming_is laws l words v (suc left) (b ∷ bs) [] w ok follow n within zip = absurd zip
coming_is laws l words v (suc left) (b ∷ bs) (r ∷ rs) w ok follow n within zip =
    let i : ℕ = width_at l v - suc left in
    let is : r ≡ Next left = next_reading laws l words b r v left ok n within follow.0 zip.0 in
    let rest = coming_is laws l words v left bs rs w ok follow.1 n (omega (arith, within)) zip.1 in
    let at : i + 1 ≡ width_at l v - left = omega (arith, within) in
    ap (λ x. coming (suc left) (x ∷ rs) (b ∷ bs) w) is ∙ ap (λ xs. w b ∷ xs) rest ∙ ap (λ k. w b ∷ drop k (read l v w)) (sym at) ∙ ap (λ c. w c ∷ drop (i + 1) (read l v w)) follow.0
    ∙ sym (read_split laws l v w i (omega (arith, within)))

whole_word : (laws : WordLaws) (l : LayoutState) (words : List ℕ) (u : VarId) (rest : ℕ) (b : ℕ) (bs : List ℕ) (rs : List Reading) (w : Word) → IsLayout l → Follow l u rest bs → IsInt l u → width_at l u ≡ suc rest
    → b ≡ bit_at l u 0 → AllZip (IsReadingOf l words) bs rs → w b ∷ coming rest rs bs w ≡ read l u w
whole_word laws l words u rest b bs rs w ok follow n wide is zip =
    let at : width_at l u - rest ≡ 0 + 1 = omega (arith, wide) in
    ap (λ xs. w b ∷ xs) (coming_is laws l words u rest bs rs w ok follow n (omega (arith, wide)) zip) ∙ ap (λ k. w b ∷ drop k (read l u w)) at ∙ ap (λ c. w c ∷ drop (0 + 1) (read l u w)) is
    ∙ sym (read_split laws l u w 0 (omega (arith, wide)))

-- ---- values at the bits

-- at the bits of the variable stands the word of a value
abbrev pub HasValue : LayoutState → Word → VarId → Type 0
HasValue l w v = (x : Value) × IsValueAt l v (read l v w) x

pub value_at : (l : LayoutState) (w : Word) (v : VarId) (k : Kind) (x : Value) → slice_get l.kinds v.0 ≡ Some k → IsValueOf k (read l v w) x → HasValue l w v
value_at l w v k x e h = let P : Option Kind → Type 0 = λ o. IsSomeAnd o (λ k. IsValueOf k (read l v w) x) in (x, subst P (sym e) h)

pub value_of : (l : LayoutState) (w : Word) (v : VarId) (k : Kind) (x : Value) → slice_get l.kinds v.0 ≡ Some k → IsValueAt l v (read l v w) x → IsValueOf k (read l v w) x
value_of l w v k x e h = let P : Option Kind → Type 0 = λ o. IsSomeAnd o (λ k. IsValueOf k (read l v w) x) in subst P e h

int_listed : (laws : WordLaws) (l : LayoutState) (w : Word) (u : VarId) (numbers : List ℤ) → IsLayout l → slice_get l.kinds u.0 ≡ Some (kind.Int numbers)
    → Ends (offsets numbers) (width_of (kind.Int numbers)) (number (read l u w)) ↔ HasValue l w u
int_listed laws l w u numbers ok e =
    let k = kind_is l u.0 (kind.Int numbers) ok e in
    let long : length (read l u w) ≡ width_of (kind.Int numbers) = laws.read_long l u w ∙ width_here l u (kind.Int numbers) e in
    let both = listed_is_value laws numbers (read l u w) k.0.0 long in
    (λ h. let r = both.0 h in value_at l w u (kind.Int numbers) r.0 e r.1, λ h. both.1 (h.0, value_of l w u (kind.Int numbers) h.0 e h.1))

begun_listed : (laws : WordLaws) (l : LayoutState) (words : List ℕ) (u : VarId) (rest : ℕ) (b : ℕ) (bs : List ℕ) (rs : List Reading) (w : Word) (numbers : List ℤ) (r : Reading) (from to : ℕ) → IsLayout l → Follow l u rest bs
    → slice_get l.kinds u.0 ≡ Some (kind.Int numbers) → width_at l u ≡ suc rest → b ≡ bit_at l u 0 → AllZip (IsReadingOf l words) bs rs → Begins words numbers rest r from to
    → Ends (slice_range words from to) (suc rest) (number (w b ∷ coming rest rs bs w)) ↔ HasValue l w u
begun_listed laws l words u rest b bs rs w numbers r from to ok follow e wide is zip t =
    let width : width_of (kind.Int numbers) ≡ suc rest = sym (width_here l u (kind.Int numbers) e) ∙ wide in
    let P : List ℕ → Type 0 = λ xs. Ends xs (suc rest) (number (w b ∷ coming rest rs bs w)) ↔ HasValue l w u in
    let Q : List Bool → Type 0 = λ bits. Ends (offsets numbers) (suc rest) (number bits) ↔ HasValue l w u in
    let R : ℕ → Type 0 = λ n. Ends (offsets numbers) n (number (read l u w)) ↔ HasValue l w u in
    subst P (sym t.is) (subst Q (sym (whole_word laws l words u rest b bs rs w ok follow (numbers, e) wide is zip)) (subst R width (int_listed laws l w u numbers ok e)))

-- each integer variable whose first bit is listed has a value
abbrev pub EachHasValue : LayoutState → Word → List ℕ → Type 0
EachHasValue l w bs = (u : VarId) → IsInt l u → 0 < width_at l u → Contains bs (bit_at l u 0) → HasValue l w u

each_past : (l : LayoutState) (w : Word) (b : ℕ) (bs : List ℕ) → ((u : VarId) → IsInt l u → 0 < width_at l u → b ≡ bit_at l u 0 → ⊥) → EachHasValue l w bs ↔ EachHasValue l w (b ∷ bs)
each_past l w b bs none = (
  λ each u n some h. elim (in_cons b bs (bit_at l u 0) h) [
    | inl here ↦ absurd (none u n some here)
    | inr later ↦ each u n some later
  ],
  λ each u n some h. each u n some (in_tail b bs (bit_at l u 0) h),
)

each_first : (laws : WordLaws) (l : LayoutState) (w : Word) (b : ℕ) (bs : List ℕ) (v : VarId) → IsLayout l → IsInt l v → 0 < width_at l v → b ≡ bit_at l v 0 → (HasValue l w v × EachHasValue l w bs) ↔ EachHasValue l w (b ∷ bs)
each_first laws l w b bs v ok int wide is = (
  λ both u n some h. elim (in_cons b bs (bit_at l u 0) h) [
    | inl here ↦ (
        let same = one_position laws l v u 0 0 ok wide some (sym is ∙ here) in
        subst (HasValue l w) same.0 both.0)
    | inr later ↦ both.1 u n some later
  ],
  λ each. (each v int wide (in_head b bs (bit_at l v 0) is), λ u n some h. each u n some (in_tail b bs (bit_at l u 0) h)),
)

both_ways : {A B C : Type 0} → A ↔ B → B ↔ C → A ↔ C
both_ways f g = (λ a. g.0 (f.0 a), λ c. f.1 (g.1 c))

beside : {A B C D : Type 0} → A ↔ C → B ↔ D → (A × B) ↔ (C × D)
beside f g = (λ h. (f.0 h.0, g.0 h.1), λ h. (f.1 h.0, g.1 h.1))

pub meets_each : (laws : WordLaws) (l : LayoutState) (words : List ℕ) (v : VarId) (left : ℕ) (bs : List ℕ) (rs : List Reading) (w : Word) → IsLayout l → Follow l v left bs → (0 < left → IsInt l v × (left < width_at l v))
    → AllZip (IsReadingOf l words) bs rs → Meets words rs bs w ↔ EachHasValue l w bs
meets_each laws l words v left [] [] w ok follow inside zip = (λ _ u n some h. absurd (nothing_in_empty (bit_at l u 0) h), λ _. tt)
meets_each laws l words v left [] (r ∷ rs) w ok follow inside zip = absurd zip
meets_each laws l words v left (b ∷ bs) [] w ok follow inside zip = absurd zip
meets_each laws l words v zero (b ∷ bs) (r ∷ rs) w ok follow inside zip =
    let P : Reading → Type 0 = λ x. Meets words (x ∷ rs) (b ∷ bs) w ↔ EachHasValue l w (b ∷ bs) in
    elim follow [
      | inl other ↦ subst P (sym (other_reading l words b r other.0 zip.0)) (both_ways (meets_each laws l words v zero bs rs w ok other.1 inside zip.1)
          (each_past l w b bs (λ u n some is. not_int laws l b u 0 ok other.0 n some is)))
      | inr first ↦
          let u : VarId = first.0 in
          let rest : ℕ = first.1 in
          let wide : width_at l u ≡ suc rest = first.3 in
          let t = first_reading laws l words b r u rest first.2.0 ok first.2.1 first.3 first.4 zip.0 in
          let here = begun_listed laws l words u rest b bs rs w first.2.0 r t.0 t.1 ok first.5 first.2.1 first.3 first.4 zip.1 t.2 in
          let later = meets_each laws l words u rest bs rs w ok first.5 (λ some. (first.2, omega (arith, wide))) zip.1 in
          subst P (sym t.2.reading) (both_ways (beside here later) (each_first laws l w b bs u ok first.2 (omega (arith, wide)) first.4))
    ]
meets_each laws l words v (suc left) (b ∷ bs) (r ∷ rs) w ok follow inside zip =
    let n = inside (omega arith) in
    let within : suc left < width_at l v = n.1 in
    let P : Reading → Type 0 = λ x. Meets words (x ∷ rs) (b ∷ bs) w ↔ EachHasValue l w (b ∷ bs) in
    subst P (sym (next_reading laws l words b r v left ok n.0 n.1 follow.0 zip.0)) (both_ways (meets_each laws l words v left bs rs w ok follow.1 (λ some. (n.0, omega (arith, within))) zip.1)
    (each_past l w b bs (λ u m some is.
    let same = one_position laws l v u (width_at l v - suc left) 0 ok (omega (arith, within)) some (sym follow.0 ∙ is) in
    let zero_at : width_at l v - suc left ≡ 0 = same.1 in
    omega (arith, zero_at, within))))
