-- A set variable has an element just where the element's bit is true.
use Rattle.std.proofs.Common.{◌≡◌, ◌↔◌, ℕ, zero, suc, ◌+◌, ◌<◌, ◌≤◌, eqb, Bool, true, false, ℤ, pos, negsuc, ◌+ℤ◌, unsigned_abs, List, [], ◌∷◌, length, map, sum_by, get_or, Option, Some, None, refl, sym, ap, ◌∙◌, subst, inl, inr, arith, Contains}
use Rattle.std.specs.Prelude.{slice_get, IsSomeAnd, option_map, if◌then◌else◌}
use Rattle.std.specs.Option.{option_map_or}
use Rattle.std.specs.List.Sorted.{IsStrictlyIncreasing}
use Rattle.std.proofs.lemmas.Bool.{eqb-true, cases_order}
use Rattle.std.proofs.lemmas.Option.{slice_get-get_or}
use Rattle.std.proofs.lemmas.Int.{ints}
use Rattle.std.proofs.lemmas.Option.{slice_get-map, slice_get_within}
use Rattle.std.proofs.lemmas.List.Sums.{sum_by-cons}
use Rattle.set_meaning.specs.declared.kinds.Kind.{Kind}
use Rattle.set_meaning.specs.declared.kinds.Kind.TheVariants as kind
use Rattle.set_meaning.specs.declared.kinds.Value.{Value}
use Rattle.set_meaning.specs.declared.kinds.Value.TheVariants as value
use Rattle.set_meaning.specs.declared.problems.VarId.{VarId}
use Rattle.set_meaning.specs.Kinds.{InKind, IsSetWithin}
use Rattle.set_meaning.specs.Sets.{Has, IsSubset}
use Rattle.diagram_arena.specs.Table.{Word}
use Rattle.bit_layout.specs.Words.{lists, width_of, word_of, IsValueOf}
use Rattle.bit_layout.specs.Order.{LayoutState, width_at, bit_at, element_at, IsValueAt}
use Rattle.bit_layout.proofs.Rising.{nothing_in_empty, in_cons, in_head, in_tail}
use Rattle.bit_layout.proofs.Elements.{lists_true, listed_is_in}
use Rattle.scope_words.specs.Words.{read, Gives, IsSetKind, bits_at}
use Rattle.scope_words.proofs.Bits.{length-bits_at, bits_at-at}
use Rattle.linear_machine.specs.declared.comparison.Comparison.TheVariants.{Equal}
use Rattle.linear_machine.specs.Sums.{Compares, LinearState, sum_of_true}
use Rattle.int_channel.specs.Forms.{HasElement}
use Rattle.int_channel.specs.Machines.{HasNot, IsBitOfElement, weight_of}

-- ---- the sum of the weights

abbrev truth : Bool → ℤ
truth b = if b then pos 1 else pos 0

if_nothing : (t : Bool) → (if t then pos 0 else pos 0) ≡ pos 0
if_nothing true = refl
if_nothing false = refl

plus_nothing : (x y : ℤ) → x ≡ pos 0 → y ≡ pos 0 → (x +ℤ y) ≡ pos 0
plus_nothing x y e f = omega (arith, ints, e, f)

none_sum : (bits : List ℕ) (w : Word) → sum_of_true bits (map (weight_of None) bits) w ≡ pos 0
none_sum [] w = refl
none_sum (b ∷ bs) w = plus_nothing (if w b then pos 0 else pos 0) (sum_of_true bs (map (weight_of None) bs) w) (if_nothing (w b)) (none_sum bs w)

first_zero : (own b : ℕ) (t : Bool) → (own ≡ b → ⊥) → (if t then weight_of (Some own) b else pos 0) ≡ pos 0
first_zero own b t apart =
    elim (eqb own b) as (λ q. eqb own b ≡ q → (if t then (if q then pos 1 else pos 0) else pos 0) ≡ pos 0) [
      | true ↦ λ e. absurd (apart (eqb-true own b e))
      | false ↦ λ e. if_nothing t
    ] refl

first_one : (own b : ℕ) (t : Bool) → own ≡ b → (if t then weight_of (Some own) b else pos 0) ≡ truth t
first_one own b t is =
    elim (eqb own b) as (λ q. eqb own b ≡ q → (if t then (if q then pos 1 else pos 0) else pos 0) ≡ truth t) [
      | true ↦ λ e. refl
      | false ↦ λ e. absurd (grind (arith, is, e))
    ] refl

absent_sum : (own : ℕ) (bits : List ℕ) (w : Word) → (Contains bits own → ⊥) → sum_of_true bits (map (weight_of (Some own)) bits) w ≡ pos 0
absent_sum own [] w absent = refl
absent_sum own (b ∷ bs) w absent =
    plus_nothing (if w b then weight_of (Some own) b else pos 0) (sum_of_true bs (map (weight_of (Some own)) bs) w)
    (first_zero own b (w b) (λ e. absent (subst (Contains (b ∷ bs)) (sym e) (in_head b bs))))
    (absent_sum own bs w (λ h. absent (in_tail b bs own h)))

rising : (xs : List ℕ) → IsStrictlyIncreasing xs → (i j : ℕ) → i ≤ j → j < length xs → get_or xs i 0 ≤ get_or xs j 0
rising xs up i zero low high = let e : i ≡ 0 = omega (arith, low) in let P : ℕ → Type 0 = λ k. get_or xs k 0 ≤ get_or xs 0 0 in subst P (sym e) (omega arith)
rising xs up i (suc j) low high =
    elim (cases_order i (suc j)) [
      | inl same ↦ let P : ℕ → Type 0 = λ k. get_or xs k 0 ≤ get_or xs (suc j) 0 in subst P (sym same) (omega arith)
      | inr (inl less) ↦
          let before = rising xs up i j (omega (arith, less)) (omega (arith, high)) in
          let e : j + 1 ≡ suc j = omega arith in
          let step : get_or xs j 0 < get_or xs (j + 1) 0 = up j (omega (arith, high)) in
          let P : ℕ → Type 0 = λ k. get_or xs j 0 < get_or xs k 0 in
          let next = subst P e step in
          omega (arith, before, next)
      | inr (inr more) ↦ absurd (omega (arith, low, more))
    ]

default : (xs : List ℕ) (i d : ℕ) → i < length xs → get_or xs i 0 ≡ get_or xs i d
default [] i d within = absurd (omega (arith, within))
default (x ∷ xs) zero d within = refl
default (x ∷ xs) (suc i) d within = default xs i d (omega (arith, within))

tail_rises : (b : ℕ) (bs : List ℕ) → IsStrictlyIncreasing (b ∷ bs) → IsStrictlyIncreasing bs
tail_rises b bs up k within =
    let P : ℕ → Type 0 = λ n. get_or bs k 0 < get_or (b ∷ bs) n 0 in
    let e : suc k + 1 ≡ suc (k + 1) = omega arith in
    subst P e (up (suc k) (omega (arith, within)))

head_absent : (b : ℕ) (bs : List ℕ) → IsStrictlyIncreasing (b ∷ bs) → Contains bs b → ⊥
head_absent b [] up h = nothing_in_empty b h
head_absent b (c ∷ bs) up h =
    let step : b < c = up 0 (omega arith) in
    let all : get_or (c ∷ bs) 0 0 ≤ get_or (c ∷ bs) h.0 0 = rising (c ∷ bs) (tail_rises b (c ∷ bs) up) 0 h.0 (omega arith) h.1 in
    let here : get_or (c ∷ bs) h.0 0 ≡ b = default (c ∷ bs) h.0 b h.1 ∙ h.2 in
    omega (arith, step, all, here)

size_zero : (own b : ℕ) → (own ≡ b → ⊥) → unsigned_abs (weight_of (Some own) b) ≡ 0
size_zero own b apart =
    elim (eqb own b) as (λ q. eqb own b ≡ q → unsigned_abs (if q then pos 1 else pos 0) ≡ 0) [
      | true ↦ λ e. absurd (apart (eqb-true own b e))
      | false ↦ λ e. refl
    ] refl

absent_size : (own : ℕ) (bits : List ℕ) → (Contains bits own → ⊥) → sum_by unsigned_abs (map (weight_of (Some own)) bits) ≡ 0
absent_size own [] absent = refl
absent_size own (b ∷ bs) absent =
    let first = size_zero own b (λ e. absent (subst (Contains (b ∷ bs)) (sym e) (in_head b bs))) in
    let rest = absent_size own bs (λ h. absent (in_tail b bs own h)) in
    let all = sum_by-cons unsigned_abs (weight_of (Some own) b) (map (weight_of (Some own)) bs) in
    omega (arith, first, rest, all)

own_size : (own : ℕ) (bits : List ℕ) → IsStrictlyIncreasing bits → sum_by unsigned_abs (map (weight_of (Some own)) bits) ≤ 1
own_size own [] up = omega arith
own_size own (b ∷ bs) up =
    let all = sum_by-cons unsigned_abs (weight_of (Some own) b) (map (weight_of (Some own)) bs) in
    elim (eqb own b) as (λ q. eqb own b ≡ q → sum_by unsigned_abs (map (weight_of (Some own)) (b ∷ bs)) ≤ 1) [
      | true ↦ λ e.
          let first : unsigned_abs (weight_of (Some own) b) ≡ 1 = ap (λ q. unsigned_abs (if q then pos 1 else pos 0)) e in
          let rest = absent_size own bs (λ h. head_absent b bs up (subst (Contains bs) (eqb-true own b e) h)) in
          omega (arith, first, rest, all)
      | false ↦ λ e.
          let first : unsigned_abs (weight_of (Some own) b) ≡ 0 = ap (λ q. unsigned_abs (if q then pos 1 else pos 0)) e in
          let rest = own_size own bs (tail_rises b bs up) in
          omega (arith, first, rest, all)
    ] refl

none_size : (bits : List ℕ) → sum_by unsigned_abs (map (weight_of None) bits) ≡ 0
none_size [] = refl
none_size (b ∷ bs) =
    let rest = none_size bs in
    let all = sum_by-cons unsigned_abs (weight_of None b) (map (weight_of None) bs) in
    omega (arith, rest, all)

pub weights_small : (own : Option ℕ) (bits : List ℕ) → IsStrictlyIncreasing bits → sum_by unsigned_abs (map (weight_of own) bits) ≤ 1
weights_small None bits up = let none = none_size bits in omega (arith, none)
weights_small (Some own) bits up = own_size own bits up

plus_last : (x y z : ℤ) → x ≡ pos 0 → y ≡ z → (x +ℤ y) ≡ z
plus_last x y z e f = omega (arith, ints, e, f)

plus_first : (x y z : ℤ) → x ≡ z → y ≡ pos 0 → (x +ℤ y) ≡ z
plus_first x y z e f = omega (arith, ints, e, f)

own_sum : (own : ℕ) (bits : List ℕ) (w : Word) → IsStrictlyIncreasing bits → Contains bits own → sum_of_true bits (map (weight_of (Some own)) bits) w ≡ truth (w own)
own_sum own [] w up h = absurd (nothing_in_empty own h)
own_sum own (b ∷ bs) w up h =
    let first : ℤ = if w b then weight_of (Some own) b else pos 0 in
    let rest : ℤ = sum_of_true bs (map (weight_of (Some own)) bs) w in
    elim (in_cons b bs own h) [
      | inl here ↦
          let e : own ≡ b = sym here in
          plus_first first rest (truth (w own)) (first_one own b (w b) e ∙ ap (λ x. truth (w x)) here)
          (absent_sum own bs w (λ g. head_absent b bs up (subst (Contains bs) e g)))
      | inr later ↦
          plus_last first rest (truth (w own)) (first_zero own b (w b) (λ e. head_absent b bs up (subst (Contains bs) e later)))
          (own_sum own bs w (tail_rises b bs up) later)
    ]

-- ---- what a word says of the element

-- a set that is the value of a variable whose universe this is
universe_value : (universe : List ℤ) (word : List Bool) (x : Value) → IsValueOf (kind.Set universe) word x → (s : List ℤ) × (x ≡ value.Set s) × IsSetWithin universe s × (map (lists s) universe ≡ word)
unfolding InKind
universe_value universe word (value.Bool b) h = absurd h.in_kind
universe_value universe word (value.Int n) h = absurd h.in_kind
universe_value universe word (value.Set s) h = (s, refl, h.in_kind, h.is_word)

-- the law of scope_words
abbrev pub ReadsAt : Type 0
ReadsAt = (l : LayoutState) (v : VarId) (w : Word) (i : ℕ) → i < width_at l v → slice_get (read l v w) i ≡ Some (w (bit_at l v i))

same_bit : (s universe : List ℤ) (word : List Bool) (i : ℕ) (e : ℤ) (b : Bool) → map (lists s) universe ≡ word → slice_get universe i ≡ Some e → slice_get word i ≡ Some b → lists s e ≡ b
same_bit s universe word i e b same at here =
    let first : slice_get (map (lists s) universe) i ≡ Some (lists s e) = slice_get-map (lists s) universe i ∙ ap (option_map (lists s)) at in
    let both : Some (lists s e) ≡ Some b = sym first ∙ ap (λ xs. slice_get xs i) same ∙ here in
    cc

truth_compares : (b : Bool) (sum : ℤ) → sum ≡ truth b → ((negsuc 0 +ℤ sum) ≡ pos 0) ↔ (b ≡ true)
truth_compares true sum e = (λ h. refl, λ h. omega (arith, ints, e))
truth_compares false sum e = (λ h. absurd (omega (arith, ints, e, h)), λ h. absurd (let f : false ≡ true = h in cc))

in_set : (s : List ℤ) (e : ℤ) (b : Bool) (T : Type 0) → lists s e ≡ b → T ↔ (b ≡ true) → T ↔ HasElement e (value.Set s)
unfolding Has
in_set s e b T is tells = (λ h. listed_is_in s e (is ∙ tells.0 h), λ h. tells.1 (sym is ∙ lists_true s e h))

value_says : (universe : List ℤ) (word : List Bool) (x : Value) (i : ℕ) (e : ℤ) (b : Bool) (sum : ℤ) → IsValueOf (kind.Set universe) word x → slice_get universe i ≡ Some e → slice_get word i ≡ Some b → sum ≡ truth b
    → ((negsuc 0 +ℤ sum) ≡ pos 0) ↔ HasElement e x
value_says universe word x i e b sum h at here is =
    let r = universe_value universe word x h in
    let own = in_set r.0 e b ((negsuc 0 +ℤ sum) ≡ pos 0) (same_bit r.0 universe word i e b r.3 at here) (truth_compares b sum is) in
    subst (λ y. ((negsuc 0 +ℤ sum) ≡ pos 0) ↔ HasElement e y) (sym r.1) own

value_lacks : (universe : List ℤ) (word : List Bool) (x : Value) (e : ℤ) (sum : ℤ) → IsValueOf (kind.Set universe) word x → (Has universe e → ⊥) → sum ≡ pos 0
    → ((negsuc 0 +ℤ sum) ≡ pos 0) ↔ HasElement e x
unfolding IsSubset
value_lacks universe word x e sum h lacks is =
    let r = universe_value universe word x h in
    let own : ((negsuc 0 +ℤ sum) ≡ pos 0) ↔ HasElement e (value.Set r.0) = (λ h. absurd (omega (arith, ints, is, h)), λ g. absurd (lacks (r.2.within e g))) in
    subst (λ y. ((negsuc 0 +ℤ sum) ≡ pos 0) ↔ HasElement e y) (sym r.1) own

-- the kind of the set variable
kind_says : (k : Kind) (word : List Bool) (x : Value) (i : ℕ) (e : ℤ) (b : Bool) (sum : ℤ) → IsValueOf k word x → element_at k i ≡ Some e → slice_get word i ≡ Some b → sum ≡ truth b
    → ((negsuc 0 +ℤ sum) ≡ pos 0) ↔ HasElement e x
kind_says kind.Bool word x i e b sum h at here is = absurd (let f : None ≡ Some e = at in cc)
kind_says (kind.Int numbers) word x i e b sum h at here is = absurd (let f : None ≡ Some e = at in cc)
kind_says (kind.Set universe) word x i e b sum h at here is = value_says universe word x i e b sum h at here is

kind_lacks : (k : Kind) (word : List Bool) (x : Value) (e : ℤ) (sum : ℤ) → IsValueOf k word x → HasNot e k → sum ≡ pos 0 → ((negsuc 0 +ℤ sum) ≡ pos 0) ↔ HasElement e x
kind_lacks kind.Bool word x e sum h lacks is = absurd lacks
kind_lacks (kind.Int numbers) word x e sum h lacks is = absurd lacks
kind_lacks (kind.Set universe) word x e sum h lacks is = value_lacks universe word x e sum h lacks is

option_says : (o : Option Kind) (word : List Bool) (x : Value) (i : ℕ) (e : ℤ) (b : Bool) (sum : ℤ) → IsSomeAnd o (λ k. IsValueOf k word x) → IsSomeAnd o (λ k. element_at k i ≡ Some e) → slice_get word i ≡ Some b → sum ≡ truth b
    → ((negsuc 0 +ℤ sum) ≡ pos 0) ↔ HasElement e x
option_says None word x i e b sum h at here is = absurd h
option_says (Some k) word x i e b sum h at here is = kind_says k word x i e b sum h at here is

option_lacks : (o : Option Kind) (word : List Bool) (x : Value) (e : ℤ) (sum : ℤ) → IsSomeAnd o (λ k. IsValueOf k word x) → IsSomeAnd o (HasNot e) → sum ≡ pos 0 → ((negsuc 0 +ℤ sum) ≡ pos 0) ↔ HasElement e x
option_lacks None word x e sum h lacks is = absurd h
option_lacks (Some k) word x e sum h lacks is = kind_lacks k word x e sum h lacks is

-- the values of a word
values_say : (o : Option Value) (T : Type 0) (P : Value → Type 0) (e : ℤ) → IsSomeAnd o P → ((x : Value) → P x → T ↔ HasElement e x) → T ↔ IsSomeAnd o (HasElement e)
values_say None T P e h each = absurd h
values_say (Some x) T P e h each = each x h

-- the constant and the weights together are 0 just where the set has the element
pub member_sum : ReadsAt → (l : LayoutState) (v : VarId) (e : ℤ) (own : Option ℕ) (bits : List ℕ) (values : List Value) (w : Word) → IsBitOfElement l v e own → IsStrictlyIncreasing bits
    → ((i : ℕ) → i < width_at l v → Contains bits (bit_at l v i)) → Gives l (v ∷ []) values w
    → ((negsuc 0 +ℤ sum_of_true bits (map (weight_of own) bits) w) ≡ pos 0) ↔ IsSomeAnd (slice_get values v.0) (HasElement e)
member_sum law l v e None bits values w own up listed gives =
    let sum : ℤ = sum_of_true bits (map (weight_of None) bits) w in
    values_say (slice_get values v.0) ((negsuc 0 +ℤ sum) ≡ pos 0) (IsValueAt l v (read l v w)) e (gives v (in_head v []))
    (λ x h. option_lacks (slice_get l.kinds v.0) (read l v w) x e sum h own (none_sum bits w))
member_sum law l v e (Some bit) bits values w own up listed gives =
    let sum : ℤ = sum_of_true bits (map (weight_of (Some bit)) bits) w in
    let there : Contains bits bit = subst (Contains bits) own.2 (listed own.0 own.1) in
    let here : slice_get (read l v w) own.0 ≡ Some (w bit) = law l v w own.0 own.1 ∙ ap (λ b. Some (w b)) own.2 in
    values_say (slice_get values v.0) ((negsuc 0 +ℤ sum) ≡ pos 0) (IsValueAt l v (read l v w)) e (gives v (in_head v []))
    (λ x h. option_says (slice_get l.kinds v.0) (read l v w) x own.0 e (w bit) sum h own.3 here (own_sum bit bits w up there))

-- ---- the bit of the element

pub known_set : (kinds : List Kind) (v : ℕ) → IsSomeAnd (slice_get kinds v) IsSetKind → v < length kinds
known_set kinds v h =
    elim (slice_get kinds v) as (λ o. slice_get kinds v ≡ o → IsSomeAnd o IsSetKind → v < length kinds) [
      | None ↦ λ e g. absurd g
      | Some k ↦ λ e g. slice_get_within kinds v k e
    ] refl h

pub kind_here : (l : LayoutState) (kinds : List Kind) (v : ℕ) (k : Kind) → l.kinds ≡ kinds → v < length kinds → k ≡ get_or kinds v k → slice_get l.kinds v ≡ Some k
kind_here l kinds v k same within is = ap (λ ks. slice_get ks v) same ∙ slice_get-get_or kinds v k within ∙ ap Some (sym is)

pub only_set : (kinds : List Kind) (v : ℕ) (k other : Kind) → slice_get kinds v ≡ Some k → k ≡ other → IsSomeAnd (slice_get kinds v) IsSetKind → IsSetKind other
only_set kinds v k other e is h = subst (λ o. IsSomeAnd o IsSetKind) (e ∙ ap Some is) h

pub lacks_here : (kinds : List Kind) (v : ℕ) (k : Kind) (universe lent : List ℤ) (e : ℤ) → slice_get kinds v ≡ Some k → k ≡ kind.Set universe → lent ≡ universe → (Contains lent e → ⊥) → IsSomeAnd (slice_get kinds v) (HasNot e)
unfolding Has
lacks_here kinds v k universe lent e here is same lacks =
    let own : IsSomeAnd (Some (kind.Set universe)) (HasNot e) = λ h. lacks (subst (λ xs. Contains xs e) (sym same) h) in
    subst (λ o. IsSomeAnd o (HasNot e)) (sym (here ∙ ap Some is)) own

wide_here : (l : LayoutState) (v : VarId) (universe : List ℤ) → slice_get l.kinds v.0 ≡ Some (kind.Set universe) → width_at l v ≡ length universe
wide_here l v universe e = ap (λ o. option_map_or width_of o 0) e

pub within_here : (l : LayoutState) (v : VarId) (k : Kind) (universe lent : List ℤ) (place : ℕ) (e : ℤ) (own : List ℕ) → slice_get l.kinds v.0 ≡ Some k → k ≡ kind.Set universe → lent ≡ universe → slice_get lent place ≡ Some e → own ≡ bits_at l v
    → place < length own
within_here l v k universe lent place e own here is same at bits =
    let wide = wide_here l v universe (here ∙ ap Some is) in
    let within = slice_get_within universe place e (ap (λ xs. slice_get xs place) (sym same) ∙ at) in
    let long : length own ≡ width_at l v = ap length bits ∙ length-bits_at l v in
    omega (arith, wide, within, long)

pub element_here : (l : LayoutState) (v : VarId) (k : Kind) (universe lent : List ℤ) (place : ℕ) (e : ℤ) (own : List ℕ) → slice_get l.kinds v.0 ≡ Some k → k ≡ kind.Set universe → lent ≡ universe → slice_get lent place ≡ Some e → own ≡ bits_at l v
    → IsBitOfElement l v e (Some (get_or own place 0))
element_here l v k universe lent place e own here is same at bits =
    let wide = wide_here l v universe (here ∙ ap Some is) in
    let there : slice_get universe place ≡ Some e = ap (λ xs. slice_get xs place) (sym same) ∙ at in
    let within = slice_get_within universe place e there in
    let known : place < width_at l v = omega (arith, wide, within) in
    let bit : bit_at l v place ≡ get_or own place 0 = sym (ap (λ xs. get_or xs place 0) bits ∙ bits_at-at l v place 0 known) in
    (place, known, bit, subst (λ o. IsSomeAnd o (λ k. element_at k place ≡ Some e)) (sym (here ∙ ap Some is)) there)

-- ---- the machine

pub member_accepts : (m : LinearState) (bits : List ℕ) (w : Word) (weights : List ℤ) → m.weights ≡ weights → m.constant ≡ negsuc 0 → m.comparison ≡ Equal → (T S : Type 0)
    → T ↔ Compares m.comparison (m.constant +ℤ sum_of_true bits m.weights w) → ((negsuc 0 +ℤ sum_of_true bits weights w) ≡ pos 0) ↔ S → T ↔ S
member_accepts m bits w weights e f g T S law said =
    let sum : (m.constant +ℤ sum_of_true bits m.weights w) ≡ (negsuc 0 +ℤ sum_of_true bits weights w) = ap (λ x. x +ℤ sum_of_true bits m.weights w) f ∙ ap (λ xs. negsuc 0 +ℤ sum_of_true bits xs w) e in
    let own : T ↔ Compares Equal (negsuc 0 +ℤ sum_of_true bits weights w) = subst (λ x. T ↔ Compares Equal x) sum (subst (λ q. T ↔ Compares q (m.constant +ℤ sum_of_true bits m.weights w)) g law) in
    (λ t. said.0 (own.0 t), λ s. own.1 (said.1 s))
