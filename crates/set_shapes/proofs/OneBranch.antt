-- One branch of the element relation of sets: the index is a place, and the item there is the set.
use Rattle.std.proofs.Common.{◌≡◌, ◌↔◌, ℕ, suc, ◌+◌, ◌<◌, ◌≤◌, ◌^◌, eqb, cond, Bool, true, false, ◌&&◌, ℤ, pos, ◌+ℤ◌, ◌*ℤ◌, unsigned_abs, List, [], ◌∷◌, length, map, Option, Some, None, Result, Ok, Err, refl, sym, ap, ◌∙◌, subst, inl, inr, arith, Contains}
use Rattle.std.specs.Prelude.{◌-ℤ◌, slice_get, IsSomeAnd, IfOk, IfSome, option_map, option_and_then, filter_map}
use Rattle.std.specs.Option.{option_map_or}
use Rattle.std.specs.List.{All}
use Rattle.std.proofs.lemmas.Int.{ints}
use Rattle.std.proofs.lemmas.Bool.{and_parts}
use Rattle.std.proofs.lemmas.Option.{slice_get_within}
use Rattle.std.proofs.lemmas.List.Elements.{All-nil, All-cons, All-head, All-tail, All-weaker}
use Rattle.diagram_arena.specs.Table.{Word}
use Rattle.bit_machine.specs.Rules.{Rules, accepts, side_by_side}
use Rattle.set_meaning.specs.declared.kinds.Kind.{Kind}
use Rattle.set_meaning.specs.declared.kinds.Kind.TheVariants as kind
use Rattle.set_meaning.specs.declared.kinds.Value.{Value}
use Rattle.set_meaning.specs.declared.kinds.Value.TheVariants as value
use Rattle.set_meaning.specs.declared.problems.VarId.{VarId}
use Rattle.set_meaning.specs.declared.problems.Term.{Term}
use Rattle.set_meaning.specs.declared.problems.Term.TheVariants.{Const, Var}
use Rattle.set_meaning.specs.declared.rows.Sort.TheVariants.{Integer, IntegerSet}
use Rattle.set_meaning.specs.Kinds.{InKind}
use Rattle.set_meaning.specs.Sets.{IsAscending}
use Rattle.set_meaning.specs.Rows.{HasSort, sort_of_kind}
use Rattle.set_meaning.specs.Arguments.{int_in, int_of_term, set_of_term, OfTwo}
use Rattle.set_meaning.specs.Relations.{variable_of}
use Rattle.bit_layout.specs.Order.{LayoutState, IsLayout}
use Rattle.bit_layout.proofs.Rising.{nothing_in_empty, in_cons}
use Rattle.scope_words.specs.Words.{read, Gives, AreBitsOf, IsBitOf}
use Rattle.scope_words.proofs.Words.{value_given}
use Rattle.scope_words.proofs.Bits.{place_of_bit, is_bit_of}
use Rattle.linear_machine.specs.declared.comparison.Comparison.TheVariants.{Equal}
use Rattle.linear_machine.specs.declared.state.State.{State as SumState}
use Rattle.linear_machine.specs.Sums.{Compares, LinearState}
use Rattle.linear_machine.specs.Steps.{rules_of}
use Rattle.linear_terms.specs.declared.terms.LinearTerm.{LinearTerm}
use Rattle.linear_terms.specs.Terms.{AreTermsSmall, HasBitsOf, number_of, number_at, linear_sum}
use Rattle.element_machine.specs.declared.marks.Marks.{Marks}
use Rattle.element_machine.specs.declared.marks.Entry.{Entry}
use Rattle.element_machine.specs.Rules.{ElementRules}
use Rattle.element_machine.specs.Reading.{by_elements}
use Rattle.set_shapes.specs.declared.operands.Operands.{Operands}
use Rattle.set_shapes.specs.declared.passing.EqualSets.{EqualSets}
use Rattle.set_shapes.specs.declared.tests_of_elements.ElementTest.TheVariants as tests
use Rattle.set_shapes.specs.Tests.{all_pass}
use Rattle.set_shapes.specs.Operands.{IsTermOf, nothing, variables_of}
use Rattle.set_shapes.specs.Tables.{AreSets, IsTable}
use Rattle.set_shapes.specs.Passing.{places_among, passing}
use Rattle.set_shapes.specs.Elements.{index_terms, known_part, index_constant, IsAtIndex, AreEqualSets, BranchHolds, AreBitsWith, IsEqualityOver, AcceptsEquality, Branch, Accepted, Tells}
use Rattle.set_shapes.proofs.Accepting.{tests_decide, given_word, table_grouped, table_long}
use Rattle.set_shapes.proofs.PassedBits.{passing_accepts, places_long}

-- ---- the index

index_in_scope : (scope : List VarId) (t : Term) → IsTermOf scope t → (v : VarId) → Contains (map (λ (u : LinearTerm). u.variable) (index_terms t)) v → Contains scope v
index_in_scope scope (Const c) mine v m = absurd (nothing_in_empty v m)
index_in_scope scope (Var x) mine v m =
    elim (in_cons x [] v m) [
      | inl here ↦ subst (Contains scope) here mine
      | inr later ↦ absurd (nothing_in_empty v later)
    ]

index_all : (P : LinearTerm → Type 0) (t : Term) → ((x : VarId) → t ≡ Var x → P (record { coefficient = pos 1; variable = x })) → All P (index_terms t)
index_all P (Const v) each = All-nil P
index_all P (Var x) each = All-cons P (record { coefficient = pos 1; variable = x }) [] (each x refl) (All-nil P)

variable_known : (kinds : List Kind) (x : VarId) → HasSort kinds Integer (Var x) → x.0 < length kinds
variable_known kinds x h =
    elim (slice_get kinds x.0) as (λ o. slice_get kinds x.0 ≡ o → option_map sort_of_kind o ≡ Some Integer → x.0 < length kinds) [
      | None ↦ λ e h. absurd (let f : None ≡ Some Integer = h in cc)
      | Some k ↦ λ e h. slice_get_within kinds x.0 k e
    ] refl h

pub index_known : (kinds : List Kind) (t : Term) (lent : List LinearTerm) → lent ≡ index_terms t → HasSort kinds Integer t → All (λ (u : LinearTerm). u.variable.0 < length kinds) lent
index_known kinds t lent e sort =
    let P : LinearTerm → Type 0 = λ u. u.variable.0 < length kinds in
    subst (All P) (sym e) (index_all P t (λ x is. variable_known kinds x (subst (HasSort kinds Integer) is sort)))

few_terms : (t : Term) → length (index_terms t) ≤ 4194304
few_terms (Const v) = omega arith
few_terms (Var x) = omega arith

pub index_small : (t : Term) (lent : List LinearTerm) (constant : ℤ) → lent ≡ index_terms t → unsigned_abs constant ≤ 2 ^ 100 → AreTermsSmall lent constant
index_small t lent constant e size =
    subst (λ ts. AreTermsSmall ts constant) (sym e) (record {
      coefficients = index_all (λ u. unsigned_abs u.coefficient ≤ 1000000000) t (λ x is. omega arith);
      few = few_terms t;
      constant_size = size;
    })

-- the law of linear_terms on the bits of a scope
abbrev pub ScopesHaveBits : Type 0
ScopesHaveBits = (l : LayoutState) (scope : List VarId) (bits : List ℕ) (terms : List LinearTerm) → IsLayout l → AreBitsOf l scope bits → All (λ t. Contains scope t.variable) terms → All (λ t. HasBitsOf l bits t.variable) terms

pub index_listed : ScopesHaveBits → (l : LayoutState) (bits : List ℕ) (t : Term) (lent : List LinearTerm) → IsLayout l → lent ≡ index_terms t → (scope : List VarId) → AreBitsWith l scope bits (t ∷ []) → All (λ (u : LinearTerm). HasBitsOf l bits u.variable) lent
index_listed law l bits t lent ok e scope are =
    let P : LinearTerm → Type 0 = λ u. Contains scope u.variable in
    let mine : IsTermOf scope t = All-head (IsTermOf scope) t [] are.1 in
    law l scope bits lent ok are.0 (subst (All P) (sym e) (index_all P t (λ x is. subst (IsTermOf scope) is mine)))

int_in_kind : (x : Value) (k : Kind) → sort_of_kind k ≡ Integer → InKind k x → (n : ℤ) × (x ≡ value.Int n)
unfolding InKind
int_in_kind x kind.Bool e h = absurd (cc)
int_in_kind x (kind.Set u) e h = absurd (cc)
int_in_kind (value.Bool b) (kind.Int numbers) e h = absurd h
int_in_kind (value.Int n) (kind.Int numbers) e h = (n, refl)
int_in_kind (value.Set s) (kind.Int numbers) e h = absurd h

-- the sum is the index, less the place
pub index_sum : (l : LayoutState) (scope : List VarId) (values : List Value) (w : Word) (t : Term) (number : ℕ) → Gives l scope values w → IsTermOf scope t → HasSort l.kinds Integer t
    → (n : ℤ) × (int_of_term values t ≡ Some n) × ((index_constant t number +ℤ linear_sum (index_terms t) values) ≡ n -ℤ pos (suc number))
index_sum l scope values w (Const (value.Bool b)) number gives mine sort = absurd sort
index_sum l scope values w (Const (value.Set s)) number gives mine sort = absurd sort
index_sum l scope values w (Const (value.Int n)) number gives mine sort = (n, refl, constant n (pos (suc number)))
  where
    constant : (n m : ℤ) → ((n -ℤ m) +ℤ pos 0) ≡ n -ℤ m
    constant n m = omega (arith, ints)
index_sum l scope values w (Var x) number gives mine sort =
    let r = value_given l values x (read l x w) (gives x mine) in
    let sorted : Some (sort_of_kind r.1) ≡ Some Integer = ap (option_map sort_of_kind) (sym r.3) ∙ sort in
    let same : sort_of_kind r.1 ≡ Integer = cc in
    let n = int_in_kind r.0 r.1 same r.4.in_kind in
    let is : slice_get values x.0 ≡ Some (value.Int n.0) = r.2 ∙ ap Some n.1 in
    let counts : number_at values x ≡ n.0 = ap (λ o. option_map_or number_of o (pos 0)) is in
    (n.0, ap (option_and_then int_in) is, ap (λ k. (pos 0 -ℤ pos (suc number)) +ℤ ((pos 1 *ℤ k) +ℤ pos 0)) counts ∙ variable n.0 (pos (suc number)))
  where
    variable : (n m : ℤ) → ((pos 0 -ℤ m) +ℤ ((pos 1 *ℤ n) +ℤ pos 0)) ≡ n -ℤ m
    variable n m = omega (arith, ints)

is_there : (o : Option ℤ) (n m sum : ℤ) → o ≡ Some n → sum ≡ n -ℤ m → (sum ≡ pos 0) ↔ (o ≡ Some m)
is_there o n m sum is e = (
  λ h. let same : n ≡ m = omega (arith, ints, e, h) in is ∙ ap Some same,
  λ h. let f : Some n ≡ Some m = sym is ∙ h in let same : n ≡ m = cc in omega (arith, ints, e, same),
)

pub index_tells : (l : LayoutState) (bits : List ℕ) (t : Term) (number : ℕ) (lent : List LinearTerm) (constant : ℤ) (m : LinearState) → HasSort l.kinds Integer t → lent ≡ index_terms t → constant ≡ index_constant t number
    → ((values : List Value) (w : Word) → Gives l (map (λ (u : LinearTerm). u.variable) lent) values w → (accepts (rules_of m) bits w ≡ true) ↔ Compares Equal (constant +ℤ linear_sum lent values))
    → Tells l bits (t ∷ []) (λ w. accepts (rules_of m) bits w ≡ true) (IsAtIndex t number)
index_tells l bits t number lent constant m sort e f sums scope values w are gives =
    let mine : IsTermOf scope t = All-head (IsTermOf scope) t [] are.1 in
    let own : Gives l (map (λ (u : LinearTerm). u.variable) lent) values w = λ v h. gives v (index_in_scope scope t mine v (subst (λ ts. Contains (map (λ (u : LinearTerm). u.variable) ts) v) e h)) in
    let said = sums values w own in
    let r = index_sum l scope values w t number gives mine sort in
    let sum : (constant +ℤ linear_sum lent values) ≡ r.0 -ℤ pos (suc number) = (λ i. f i +ℤ linear_sum (e i) values) ∙ r.2 in
    let there = is_there (int_of_term values t) r.0 (pos (suc number)) (constant +ℤ linear_sum lent values) r.1 sum in
    (λ h. there.0 (said.0 h), λ h. said.1 (there.1 h))

pub index_ok : {E : Type 0} (r : Result LinearState E) (l : LayoutState) (bits : List ℕ) (t : Term) (number : ℕ) (lent : List LinearTerm) (constant : ℤ) → HasSort l.kinds Integer t → lent ≡ index_terms t → constant ≡ index_constant t number
    → IfOk r (λ m. (values : List Value) (w : Word) → Gives l (map (λ (u : LinearTerm). u.variable) lent) values w → (accepts (rules_of m) bits w ≡ true) ↔ Compares Equal (constant +ℤ linear_sum lent values))
    → IfOk r (λ m. Tells l bits (t ∷ []) (λ w. accepts (rules_of m) bits w ≡ true) (IsAtIndex t number))
index_ok (Ok m) l bits t number lent constant sort e f h = index_tells l bits t number lent constant m sort e f h
index_ok (Err x) l bits t number lent constant sort e f h = tt

-- ---- the equality of the sets

no_elements : IsAscending []
unfolding Rattle.std.specs.List.Sorted.IsStrictlySortedBy
no_elements = tt

pub pair_sets : (kinds : List Kind) (o : Operands) (item set : Term) → o ≡ record { first = item; second = set; third = nothing } → HasSort kinds IntegerSet item → HasSort kinds IntegerSet set → AreSets kinds o
pair_sets kinds o item set e p q = subst (AreSets kinds) (sym e) (record { first = p; second = q; third = no_elements })

pub in_scope : (scope : List VarId) (ts : List Term) → All (IsTermOf scope) ts → (v : VarId) → Contains (filter_map variable_of ts) v → Contains scope v
in_scope scope [] all v m = absurd (nothing_in_empty v m)
in_scope scope (Const c ∷ ts) all v m = in_scope scope ts (All-tail (IsTermOf scope) (Const c) ts all) v m
in_scope scope (Var x ∷ ts) all v m =
    elim (in_cons x (filter_map variable_of ts) v m) [
      | inl here ↦ subst (Contains scope) here (All-head (IsTermOf scope) (Var x) ts all)
      | inr later ↦ in_scope scope ts (All-tail (IsTermOf scope) (Var x) ts all) v later
    ]

either_below : (j n r : ℕ) (own bits : List ℕ) (v : Bool) → j + length (r ∷ own) ≤ n → All (λ (p : Option ℕ). IfSome p (λ place. place < n)) (places_among (j + 1) own bits)
    → All (λ (p : Option ℕ). IfSome p (λ place. place < n)) (places_among j (r ∷ own) bits)
    → All (λ (p : Option ℕ). IfSome p (λ place. place < n)) (cond v (Some j ∷ places_among (j + 1) own bits) (None ∷ places_among j (r ∷ own) bits))
either_below j n r own bits true low p q = All-cons (λ (p : Option ℕ). IfSome p (λ place. place < n)) (Some j) (places_among (j + 1) own bits) (omega (arith, low)) p
either_below j n r own bits false low p q = All-cons (λ (p : Option ℕ). IfSome p (λ place. place < n)) None (places_among j (r ∷ own) bits) tt q

places_below : (j n : ℕ) (own bits : List ℕ) → j + length own ≤ n → All (λ (p : Option ℕ). IfSome p (λ place. place < n)) (places_among j own bits)
places_below j n own [] low = All-nil (λ (p : Option ℕ). IfSome p (λ place. place < n))
places_below j n [] (b ∷ bits) low = All-cons (λ (p : Option ℕ). IfSome p (λ place. place < n)) None (places_among j [] bits) tt (places_below j n [] bits low)
places_below j n (r ∷ own) (b ∷ bits) low = either_below j n r own bits (eqb b r) low (places_below (j + 1) n own bits (omega (arith, low))) (places_below j n (r ∷ own) bits low)

-- ---- both

-- the law of bit_machine on machines side by side
abbrev pub SideBySide : Type 0
SideBySide = (join : Bool → Bool → Bool) (first : Rules SumState) (second : Rules (Bool × Marks)) (bits : List ℕ) (w : Word) → accepts (side_by_side join first second) bits w ≡ join (accepts first bits w) (accepts second bits w)

both_true : (a b : Bool) → a ≡ true → b ≡ true → (a && b) ≡ true
both_true a b p q = ap (λ x. x && b) p ∙ q

pub branch_tells : SideBySide → (l : LayoutState) (bits : List ℕ) (index item set : Term) (number : ℕ) (m : Branch) → Tells l bits (index ∷ []) (λ w. accepts (rules_of m.first) bits w ≡ true) (IsAtIndex index number)
    → Tells l bits (item ∷ set ∷ []) (λ w. AcceptsEquality bits w m.second) (AreEqualSets item set) → Tells l bits (index ∷ set ∷ item ∷ []) (λ w. Accepted bits w m) (BranchHolds index number item set)
branch_tells law l bits index item set number m first second scope values w are gives =
    let T = IsTermOf scope in
    let rest = All-tail T index (set ∷ item ∷ []) are.1 in
    let of_index : T index = All-head T index (set ∷ item ∷ []) are.1 in
    let of_set : T set = All-head T set (item ∷ []) rest in
    let of_item : T item = All-head T item [] (All-tail T set (item ∷ []) rest) in
    let one = first scope values w (are.0, All-cons T index [] of_index (All-nil T)) gives in
    let two = second scope values w (are.0, All-cons T item (set ∷ []) of_item (All-cons T set [] of_set (All-nil T))) gives in
    let p = accepts (rules_of m.first) bits w in
    let own = passing m.second.places.items (by_elements (all_pass tests.Equal true) m.second.table.constants.items m.second.table.entries.items) in
    let q = accepts own bits w in
    let joined = law ◌&&◌ (rules_of m.first) own bits w in (
      λ h. let parts = and_parts p q (sym joined ∙ h) in (one.0 parts.0, two.0 parts.1),
      λ h. joined ∙ both_true p q (one.1 h.0) (two.1 h.1),
    )

two_from : (p q : Option (List ℤ)) (a b : List ℤ) → p ≡ Some a → q ≡ Some b → a ≡ b → OfTwo (λ a c. a ≡ c) p q
two_from p q a b e f h =
    subst (λ p. OfTwo (λ a c. a ≡ c) p q) (sym e) (subst (λ q. OfTwo (λ a c. a ≡ c) (Some a) q) (sym f) h)

two_to : (p q : Option (List ℤ)) (a b : List ℤ) → p ≡ Some a → q ≡ Some b → OfTwo (λ a c. a ≡ c) p q → a ≡ b
two_to p q a b e f h =
    subst (λ q. OfTwo (λ a c. a ≡ c) (Some a) q) f (subst (λ p. OfTwo (λ a c. a ≡ c) p q) e h)

-- what is known of a machine of equality that was made
pub record IsMadeFor (l : LayoutState) (o : Operands) (bits lent : List ℕ) (m : EqualSets) : Type 0 where
  pub table : IsTable l o m.table.bits.items m.table.constants.items m.table.entries.items
  pub lent_is : lent ≡ m.table.bits.items
  pub places : m.places.items ≡ places_among 0 lent bits

pub equality_over : (l : LayoutState) (o : Operands) (bits lent : List ℕ) (m : EqualSets) → IsLayout l → AreSets l.kinds o → IsMadeFor l o bits lent m → IsEqualityOver (length bits) m
equality_over l o bits lent m ok sets made =
    let entries = m.table.entries.items in
    let long : length entries ≡ length m.table.bits.items = table_long l o m.table.bits.items m.table.constants.items entries made.table in
    let lent_long : length lent ≡ length m.table.bits.items = ap length made.lent_is in
    record {
      long = ap length made.places ∙ places_long 0 lent bits;
      grouped = table_grouped l o m.table.bits.items m.table.constants.items entries ok sets made.table;
      below = subst (All (λ (p : Option ℕ). IfSome p (λ place. place < length entries))) (sym made.places) (places_below 0 (length entries) lent bits (omega (arith, long, lent_long)));
    }

own_in_bits : (l : LayoutState) (scope : List VarId) (bits own : List ℕ) (o : Operands) → AreBitsOf l scope bits → ((v : VarId) → Contains (variables_of o) v → Contains scope v) → AreBitsOf l (variables_of o) own → (x : ℕ) → Contains own x → Contains bits x
own_in_bits l scope bits own o are within mine x h =
    let r = place_of_bit l (variables_of o) x ((mine.members x).0 h) in
    (are.members x).1 (is_bit_of l scope x r.0 r.1 (within r.0.variable r.2))

pub equality_tells : (l : LayoutState) (o : Operands) (item set : Term) (bits lent : List ℕ) (m : EqualSets) → IsLayout l → AreSets l.kinds o → o ≡ record { first = item; second = set; third = nothing } → IsMadeFor l o bits lent m
    → Tells l bits (item ∷ set ∷ []) (λ w. AcceptsEquality bits w m) (AreEqualSets item set)
equality_tells l o item set bits lent m ok sets e made scope values w are gives =
    let T = IsTermOf scope in
    let own = m.table.bits.items in
    let constants = m.table.constants.items in
    let entries = m.table.entries.items in
    let rules = by_elements (all_pass tests.Equal true) constants entries in
    let of_item : T item = All-head T item (set ∷ []) are.1 in
    let of_set : T set = All-head T set [] (All-tail T item (set ∷ []) are.1) in
    let three : All T (item ∷ set ∷ nothing ∷ []) = All-cons T item (set ∷ nothing ∷ []) of_item (All-cons T set (nothing ∷ []) of_set (All-cons T nothing [] tt (All-nil T))) in
    let within : (v : VarId) → Contains (variables_of o) v → Contains scope v = λ v h. in_scope scope (item ∷ set ∷ nothing ∷ []) three v (subst (λ z. Contains (variables_of z) v) e h) in
    let among = own_in_bits l scope bits own o are.0 within made.table.are_bits in
    let places : m.places.items ≡ places_among 0 own bits = made.places ∙ ap (λ bs. places_among 0 bs bits) made.lent_is in
    let passes : accepts (passing m.places.items rules) bits w ≡ accepts rules own w
    = ap (λ ps. accepts (passing ps rules) bits w) places ∙ passing_accepts rules own bits w made.table.are_bits.ascending are.0.ascending among (places_long 0 own bits) in
    let g = given_word l o own constants entries (all_pass tests.Equal true) w values ok sets made.table (λ v h. gives v (within v h)) in
    let decides = tests_decide tests.Equal true in
    let first : set_of_term values item ≡ Some g.first.set = ap (λ (z : Operands). set_of_term values z.first) (sym e) ∙ g.first.is in
    let second : set_of_term values set ≡ Some g.second.set = ap (λ (z : Operands). set_of_term values z.second) (sym e) ∙ g.second.is in (
      λ h. two_from (set_of_term values item) (set_of_term values set) g.first.set g.second.set first second
          (decides.to made.table.elements g.first.set g.second.set g.third.set made.table.are_elements.ascending g.listed g.first.ascending g.second.ascending (sym g.by_sets ∙ sym passes ∙ h)),
      λ h. passes ∙ g.by_sets ∙ decides.from made.table.elements g.first.set g.second.set g.third.set made.table.are_elements.ascending g.listed g.first.ascending g.second.ascending
          (two_to (set_of_term values item) (set_of_term values set) g.first.set g.second.set first second h),
    )
