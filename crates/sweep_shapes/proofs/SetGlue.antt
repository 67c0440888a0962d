-- Words over the places of set variables, and assignments in their sides.
use Rattle.std.proofs.Common.{◌≡◌, ◌↔◌, ℕ, suc, ◌<◌, ◌==◌, Bool, true, false, cond, ℤ, List, [], ◌∷◌, length, map, set, Contains, Option, Some, None, refl, sym, ap, ◌∙◌, subst, inl, inr, arith}
use Rattle.std.specs.Prelude.{slice_get, IsSomeAnd, All}
use Rattle.std.specs.Option.{option_map_or}
use Rattle.std.proofs.lemmas.Bool.{ne_eqb}
use Rattle.std.proofs.lemmas.List.Elements.{All-head, All-tail}
use Rattle.std.proofs.lemmas.Option.{get_or_from_slice_get, slice_get_within}
use Rattle.set_meaning.specs.declared.kinds.Kind.{Kind}
use Rattle.set_meaning.specs.declared.kinds.Kind.TheVariants as kind
use Rattle.set_meaning.specs.declared.kinds.Value.{Value}
use Rattle.set_meaning.specs.declared.kinds.Value.TheVariants as value
use Rattle.set_meaning.specs.declared.problems.VarId.{VarId}
use Rattle.set_meaning.specs.declared.problems.Constraint.{Constraint}
use Rattle.set_meaning.specs.Kinds.{InKind, IsAssignment}
use Rattle.set_meaning.specs.Problems.{IsKind}
use Rattle.set_meaning.specs.Sets.{Has, IsSubset, ascending_set}
use Rattle.set_meaning.specs.Relations.{Holds, IsScope}
use Rattle.set_meaning.proofs.Ascending.{IsSetOf-ascending_set}
use Rattle.bit_layout.specs.declared.places.Place.{Place}
use Rattle.bit_layout.specs.Words.{IsValueOf, word_of}
use Rattle.bit_layout.proofs.Elements.{chosen}
use Rattle.bit_layout.proofs.KindWords.{set_value}
use Rattle.bit_layout.proofs.Rising.{nothing_in_empty, in_cons, in_head, in_tail}
use Rattle.bit_layout.proofs.Listing.{all_zip_long}
use Rattle.log_rules.specs.declared.nodes.Node.{Node}
use Rattle.log_rules.specs.Tables.{walk}
use Rattle.log_rules.specs.Boxes.{Sides, word_at, side_of, IsWithin as IsInBox, SomeSatisfy, AreSides}
use Rattle.log_rules.specs.Rules.{StandsIn}
use Rattle.log_rules.proofs.Inside.{is_initial, value_there}
use Rattle.log_rules.proofs.Walks.{walk_of_an_end}
use Rattle.sweep_rules.specs.Rules.{Rules, accepts}
use Rattle.sweep_rules.specs.SetPlaces.{AreSetPlaces, set_bit}
use Rattle.sweep_table.specs.Sides.{own_bits, own_count}
use Rattle.sweep_scopes.specs.declared.meeting.Slot.{Slot}
use Rattle.sweep_scopes.specs.Meetings.{Meets, Walks, places_in}
use Rattle.sweep_shapes.specs.Slots.{node_in, IsSetVariable}
use Rattle.sweep_shapes.proofs.Lists.{at_put, beside_put, length_put, same_or_other}
use Rattle.sweep_shapes.proofs.Opening.{Beside, found_or_beside}
use Rattle.sweep_shapes.proofs.Satisfying.{zip_each, unnamed}
use Rattle.sweep_shapes.proofs.SetSides.{AreCounted, HasSlot, IsOfVariable, side_walks}

-- ---- lists of values

pub first_exists : (kinds : List Kind) → All IsKind kinds → (values : List Value) × IsAssignment kinds values
unfolding InKind Has IsSubset
first_exists [] legal = ([], tt)
first_exists (kind.Bool ∷ kinds) legal = let r = first_exists kinds (All-tail IsKind kind.Bool kinds legal) in (value.Bool false ∷ r.0, (tt, r.1))
first_exists (kind.Int [] ∷ kinds) legal = absurd ((All-head IsKind (kind.Int []) kinds legal).1 refl)
first_exists (kind.Int (x ∷ xs) ∷ kinds) legal = let r = first_exists kinds (All-tail IsKind (kind.Int (x ∷ xs)) kinds legal) in (value.Int x ∷ r.0, (in_head x xs, r.1))
first_exists (kind.Set u ∷ kinds) legal =
    let r = first_exists kinds (All-tail IsKind (kind.Set u) kinds legal) in
    (value.Set (ascending_set []) ∷ r.0, (record { ascending = (IsSetOf-ascending_set []).ascending; within = λ z h. absurd (nothing_in_empty z (((IsSetOf-ascending_set []).members z).0 h)) }, r.1))

abbrev overwritten : List Value → (ℕ → Value) → List VarId → List Value
overwritten base f [] = base
overwritten base f (v ∷ vs) = set (overwritten base f vs) v.0 (f v.0)

length_overwritten : (base : List Value) (f : ℕ → Value) (vs : List VarId) → length (overwritten base f vs) ≡ length base
length_overwritten base f [] = refl
length_overwritten base f (v ∷ vs) = length_put (overwritten base f vs) v.0 (f v.0) ∙ length_overwritten base f vs

overwritten_at : (base : List Value) (f : ℕ → Value) (vs : List VarId) (u : VarId) → u.0 < length base → Contains vs u → slice_get (overwritten base f vs) u.0 ≡ Some (f u.0)
overwritten_at base f [] u known h = absurd (nothing_in_empty u h)
overwritten_at base f (v ∷ vs) u known h = elim (same_or_other v.0 u.0) [
  | inl e ↦
      let there : v.0 < length (overwritten base f vs) = subst (λ n. v.0 < n) (sym (length_overwritten base f vs)) (subst (λ k. k < length base) (sym e) known) in
      ap (slice_get (overwritten base f (v ∷ vs))) (sym e) ∙ at_put (overwritten base f vs) v.0 (f v.0) there ∙ ap (λ k. Some (f k)) e
  | inr other ↦ elim (in_cons v vs u h) [
    | inl same ↦ absurd (other (ap (λ (w : VarId). w.0) same))
    | inr later ↦ beside_put (overwritten base f vs) v.0 u.0 (f v.0) other ∙ overwritten_at base f vs u known later
  ]
]

overwritten_beside : (base : List Value) (f : ℕ → Value) (vs : List VarId) (k : ℕ) → Beside vs k → slice_get (overwritten base f vs) k ≡ slice_get base k
overwritten_beside base f [] k beside = refl
overwritten_beside base f (v ∷ vs) k beside =
    beside_put (overwritten base f vs) v.0 k (f v.0) (λ e. beside v (in_head v vs) e) ∙ overwritten_beside base f vs k (λ u h e. beside u (in_tail v vs u h) e)

-- ---- bits

length-own_bits : (places : List (Option ℕ)) (bits : List Bool) → length bits ≡ length places → length (own_bits places bits) ≡ own_count places
length-own_bits [] [] long = refl
length-own_bits [] (b ∷ bits) long = absurd (omega (arith, long))
length-own_bits (p ∷ places) [] long = absurd (omega (arith, long))
length-own_bits (None ∷ places) (b ∷ bits) long = length-own_bits places bits (omega (arith, long))
length-own_bits (Some p ∷ places) (b ∷ bits) long = let r = length-own_bits places bits (omega (arith, long)) in omega (arith, r)

length-places_in : (places : List Place) (v : VarId) → length (places_in places v) ≡ length places
length-places_in [] v = refl
length-places_in (p ∷ places) v = ap suc (length-places_in places v)

length-set_bits : (values : List Value) (places : List Place) → length (map (set_bit values) places) ≡ length places
length-set_bits values [] = refl
length-set_bits values (p ∷ places) = ap suc (length-set_bits values places)

no_own_bits : (places : List Place) (v : VarId) (bits : List Bool) → ((p : Place) → Contains places p → p.variable.0 ≡ v.0 → ⊥) → own_bits (places_in places v) bits ≡ []
no_own_bits [] v [] none = refl
no_own_bits [] v (b ∷ bits) none = refl
no_own_bits (p ∷ places) v [] none = by (p.variable.0 == v.0)
  where
    by : (t : Bool) → own_bits (cond t (Some p.position) None ∷ places_in places v) [] ≡ []
    by true = refl
    by false = refl
no_own_bits (p ∷ places) v (b ∷ bits) none =
    ap (λ t. own_bits (cond t (Some p.position) None ∷ places_in places v) (b ∷ bits)) (ne_eqb p.variable.0 v.0 (none p (in_head p places)))
    ∙ no_own_bits places v bits (λ q h. none q (in_tail p places q h))

-- ---- variables and values

others_named : (c : Constraint) (scope : List VarId) (sides : Sides) (k : ℕ) → IsScope c scope → All (λ side. StandsIn c side.0) sides → Beside scope k → All (λ side. side.0 ≡ k → ⊥) sides
others_named c scope sides k is named beside i d at e =
    let stands = named i d at in
    beside stands.1 ((is.members stands.1).1 (stands.0, stands.2, stands.3)) (stands.4 ∙ e)

pub set_in_kind : (u : List ℤ) (x : Value) → InKind (kind.Set u) x → (s : List ℤ) × (x ≡ value.Set s)
unfolding InKind
set_in_kind u (value.Bool b) h = absurd h
set_in_kind u (value.Int n) h = absurd h
set_in_kind u (value.Set s) h = (s, refl)

-- ---- the laws of lower crates

abbrev pub HaveWords : Type 0
HaveWords = (kinds : List Kind) (sets : List VarId) (places : List Place) (given : List Value) (v : VarId) (universe set : List ℤ) → AreSetPlaces kinds sets places → Contains sets v
    → slice_get kinds v.0 ≡ Some (kind.Set universe) → IsKind (kind.Set universe) → slice_get given v.0 ≡ Some (value.Set set)
    → own_bits (places_in places v) (map (set_bit given) places) ≡ word_of (kind.Set universe) (value.Set set)

abbrev pub AreOne : Type 0
AreOne = (places : List Place) (xs ys : List Bool) → length xs ≡ length places → length ys ≡ length places
    → ((v : VarId) → own_bits (places_in places v) xs ≡ own_bits (places_in places v) ys) → xs ≡ ys

-- what is known of a relation between sets
pub record Task (kinds : List Kind) (table : List Node) (sides : Sides) (c : Constraint) (variables : List VarId) (places : List Place) (first second third : Slot) : Type 0 where
  pub counted : AreCounted
  pub words : HaveWords
  pub one : AreOne
  pub legal : All IsKind kinds
  pub scope : IsScope c variables
  pub are : AreSetPlaces kinds variables places
  pub ok : AreSides kinds table sides
  pub named : All (λ side. StandsIn c side.0) sides
  pub sets : (v : VarId) → Contains variables v → IsSetVariable kinds v
  pub slots : (v : VarId) → Contains variables v → HasSlot sides first second third v
  pub of_first : IsOfVariable sides variables first
  pub of_second : IsOfVariable sides variables second
  pub of_third : IsOfVariable sides variables third

pub legal_at : (kinds : List Kind) (v : ℕ) (k : Kind) → All IsKind kinds → slice_get kinds v ≡ Some k → IsKind k
legal_at kinds v k legal is = subst IsKind (get_or_from_slice_get kinds v k k is) (legal v k (slice_get_within kinds v k is))

word_is : (kinds : List Kind) (v : ℕ) (k : Kind) (x : Value) → slice_get kinds v ≡ Some k → word_at kinds v x ≡ word_of k x
word_is kinds v k x is = ap (λ (o : Option Kind). option_map_or (λ j. word_of j x) o []) is

-- ---- from values to a word

slot_walks : (kinds : List Kind) (table : List Node) (sides : Sides) (c : Constraint) (variables : List VarId) (places : List Place) (first second third : Slot) → Task kinds table sides c variables places first second third
    → (some : SomeSatisfy kinds table sides c) (slot : Slot) → IsOfVariable sides variables slot → Walks table places slot (map (set_bit some.values) places)
unfolding IsInBox
slot_walks kinds table sides c variables places first second third task some slot of =
    let v = slot.variable in
    let u = task.sets v of.among in
    let within = slice_get_within kinds v.0 (kind.Set u.0) u.1 in
    let x = value_there kinds some.values some.assignment v.0 within in
    let inside : InKind (kind.Set u.0) x.0 = subst (λ o. IsSomeAnd o (λ k. InKind k x.0)) u.1 (is_initial kinds some.values some.assignment v.0 x.0 x.1) in
    let s = set_in_kind u.0 x.0 inside in
    let given : slice_get some.values v.0 ≡ Some (value.Set s.0) = x.1 ∙ ap Some s.1 in
    let own = task.words kinds variables places some.values v u.0 s.0 task.are of.among u.1 (legal_at kinds v.0 (kind.Set u.0) task.legal u.1) given in
    let word : own_bits (places_in places v) (map (set_bit some.values) places) ≡ word_at kinds v.0 (value.Set s.0) = own ∙ sym (word_is kinds v.0 (kind.Set u.0) (value.Set s.0) u.1) in
    ap (walk table slot.root) word ∙ elim of.root as (λ _. walk table slot.root (word_at kinds v.0 (value.Set s.0)) ≡ true) [
      | inl e ↦ ap (λ n. walk table n (word_at kinds v.0 (value.Set s.0))) e ∙ side_walks kinds table sides v.0 (value.Set s.0) task.ok.ascending ∙ some.inside v.0 (value.Set s.0) given
      | inr e ↦ ap (λ n. walk table n (word_at kinds v.0 (value.Set s.0))) e ∙ walk_of_an_end table 1 (word_at kinds v.0 (value.Set s.0)) (omega arith)
    ]

satisfied_meets : {Q : Type 0} (rules : Rules Q) (kinds : List Kind) (table : List Node) (sides : Sides) (c : Constraint) (variables : List VarId) (places : List Place) (first second third : Slot)
    → Task kinds table sides c variables places first second third
    → ((values : List Value) → IsAssignment kinds values → (accepts rules (map (set_bit values) places) ≡ true) ↔ Holds c values)
    → SomeSatisfy kinds table sides c → Meets table places rules first second third
satisfied_meets rules kinds table sides c variables places first second third task exact some = record {
  word = map (set_bit some.values) places;
  long = length-set_bits some.values places;
  accepted = (exact some.values some.assignment).1 some.holds;
  first_walks = slot_walks kinds table sides c variables places first second third task some first task.of_first;
  second_walks = slot_walks kinds table sides c variables places first second third task some second task.of_second;
  third_walks = slot_walks kinds table sides c variables places first second third task some third task.of_third;
}

-- ---- from a word to values

abbrev decoded : Option Kind → List Bool → Value
decoded (Some (kind.Set u)) bits = value.Set (ascending_set (chosen u bits))
decoded _ bits = value.Bool false

abbrev value_in_word : List Kind → List Place → List Bool → ℕ → Value
value_in_word kinds places word n = decoded (slice_get kinds n) (own_bits (places_in places (record { 0 = n })) word)

-- the value that a word gives a variable
record IsGiven (kinds : List Kind) (places : List Place) (word : List Bool) (v : VarId) : Type 0 where
  universe : List ℤ
  set : List ℤ
  kind_is : slice_get kinds v.0 ≡ Some (kind.Set universe)
  value_is : value_in_word kinds places word v.0 ≡ value.Set set
  fits : IsValueOf (kind.Set universe) (own_bits (places_in places v) word) (value.Set set)

given : (kinds : List Kind) (table : List Node) (sides : Sides) (c : Constraint) (variables : List VarId) (places : List Place) (first second third : Slot) → Task kinds table sides c variables places first second third
    → (word : List Bool) → length word ≡ length places → (v : VarId) → Contains variables v → IsGiven kinds places word v
given kinds table sides c variables places first second third task word long v h =
    let u = task.sets v h in
    let bits = own_bits (places_in places v) word in
    let legal = legal_at kinds v.0 (kind.Set u.0) task.legal u.1 in
    let counts = task.counted kinds variables places v (kind.Set u.0) task.are h u.1 legal in
    let many : length bits ≡ length u.0 = length-own_bits (places_in places v) word (long ∙ sym (length-places_in places v)) ∙ counts.1 in
    record {
      universe = u.0;
      set = ascending_set (chosen u.0 bits);
      kind_is = u.1;
      value_is = ap (λ o. decoded o bits) u.1;
      fits = set_value u.0 bits (chosen u.0 bits) (ascending_set (chosen u.0 bits)) legal many refl (IsSetOf-ascending_set (chosen u.0 bits));
    }

meets_satisfied : {Q : Type 0} (rules : Rules Q) (kinds : List Kind) (table : List Node) (sides : Sides) (c : Constraint) (variables : List VarId) (places : List Place) (first second third : Slot)
    → Task kinds table sides c variables places first second third
    → ((values : List Value) → IsAssignment kinds values → (accepts rules (map (set_bit values) places) ≡ true) ↔ Holds c values)
    → Meets table places rules first second third → SomeSatisfy kinds table sides c
unfolding IsInBox
meets_satisfied rules kinds table sides c variables places first second third task exact m = record {
  values = overwritten (first_exists kinds task.legal).0 (value_in_word kinds places m.word) variables;
  assignment = legal_values;
  inside = inside;
  holds = (exact (overwritten (first_exists kinds task.legal).0 (value_in_word kinds places m.word) variables) legal_values).0
      (subst (λ w. accepts rules w ≡ true) (sym same_word) m.accepted);
} where
  base_legal : IsAssignment kinds (first_exists kinds task.legal).0
  base_legal = (first_exists kinds task.legal).1

  known : (v : VarId) → Contains variables v → v.0 < length (first_exists kinds task.legal).0
  known v h = subst (λ n. v.0 < n) (all_zip_long InKind kinds (first_exists kinds task.legal).0 base_legal) (slice_get_within kinds v.0 (kind.Set (task.sets v h).0) (task.sets v h).1)

  at : (v : VarId) → Contains variables v → slice_get (overwritten (first_exists kinds task.legal).0 (value_in_word kinds places m.word) variables) v.0 ≡ Some (value_in_word kinds places m.word v.0)
  at v h = overwritten_at (first_exists kinds task.legal).0 (value_in_word kinds places m.word) variables v (known v h) h

  gives : (v : VarId) → Contains variables v → IsGiven kinds places m.word v
  gives v h = given kinds table sides c variables places first second third task m.word m.long v h

  walked : (v : VarId) → Contains variables v → walk table (node_in sides v.0) (own_bits (places_in places v) m.word) ≡ true
  walked v h =
      let s = task.slots v h in
      let here : Walks table places s.slot m.word = elim s.one_of as (λ _. Walks table places s.slot m.word) [
        | inl e ↦ subst (λ t. Walks table places t m.word) (sym e) m.first_walks
        | inr (inl e) ↦ subst (λ t. Walks table places t m.word) (sym e) m.second_walks
        | inr (inr e) ↦ subst (λ t. Walks table places t m.word) (sym e) m.third_walks
      ] in
      sym (ap (λ n. walk table n (own_bits (places_in places v) m.word)) s.root) ∙ sym (ap (λ u. walk table s.slot.root (own_bits (places_in places u) m.word)) s.variable) ∙ here

  legal_values : IsAssignment kinds (overwritten (first_exists kinds task.legal).0 (value_in_word kinds places m.word) variables)
  legal_values = zip_each InKind kinds (overwritten (first_exists kinds task.legal).0 (value_in_word kinds places m.word) variables)
      (length_overwritten (first_exists kinds task.legal).0 (value_in_word kinds places m.word) variables ∙ sym (all_zip_long InKind kinds (first_exists kinds task.legal).0 base_legal))
      (λ k x is. elim (found_or_beside variables k) [
        | inl f ↦
            let g = gives f.0 f.1 in
            let both : Some (value_in_word kinds places m.word f.0.0) ≡ Some x = sym (at f.0 f.1) ∙ ap (slice_get (overwritten (first_exists kinds task.legal).0 (value_in_word kinds places m.word) variables)) f.2 ∙ is in
            let same : value_in_word kinds places m.word f.0.0 ≡ x = cc in
            subst (λ j. IsSomeAnd (slice_get kinds j) (λ kd. InKind kd x)) f.2
            (subst (λ o. IsSomeAnd o (λ kd. InKind kd x)) (sym g.kind_is) (subst (InKind (kind.Set g.universe)) (sym g.value_is ∙ same) g.fits.in_kind))
        | inr beside ↦ is_initial kinds (first_exists kinds task.legal).0 base_legal k x
            (sym (overwritten_beside (first_exists kinds task.legal).0 (value_in_word kinds places m.word) variables k beside) ∙ is)
      ])

  same_word : map (set_bit (overwritten (first_exists kinds task.legal).0 (value_in_word kinds places m.word) variables)) places ≡ m.word
  same_word = task.one places (map (set_bit (overwritten (first_exists kinds task.legal).0 (value_in_word kinds places m.word) variables)) places) m.word
      (length-set_bits (overwritten (first_exists kinds task.legal).0 (value_in_word kinds places m.word) variables) places) m.long
      (λ v. elim (found_or_beside variables v.0) [
        | inl f ↦
            let it : f.0 ≡ v = λ i. record { 0 = f.2 i } in
            let h : Contains variables v = subst (Contains variables) it f.1 in
            let g = gives v h in
            task.words kinds variables places (overwritten (first_exists kinds task.legal).0 (value_in_word kinds places m.word) variables) v g.universe g.set task.are h g.kind_is
            (legal_at kinds v.0 (kind.Set g.universe) task.legal g.kind_is) (at v h ∙ ap Some g.value_is)
            ∙ g.fits.is_word
        | inr beside ↦
            no_own_bits places v (map (set_bit (overwritten (first_exists kinds task.legal).0 (value_in_word kinds places m.word) variables)) places)
            (λ p there e. beside p.variable ((task.are.members p).0 there).1 e)
            ∙ sym (no_own_bits places v m.word (λ p there e. beside p.variable ((task.are.members p).0 there).1 e))
      ])

  inside : (k : ℕ) (x : Value) → slice_get (overwritten (first_exists kinds task.legal).0 (value_in_word kinds places m.word) variables) k ≡ Some x → side_of kinds table sides k x ≡ true
  inside k x is = elim (found_or_beside variables k) [
    | inl f ↦
        let v = f.0 in
        let g = gives v f.1 in
        let both : Some (value_in_word kinds places m.word v.0) ≡ Some x = sym (at v f.1) ∙ ap (slice_get (overwritten (first_exists kinds task.legal).0 (value_in_word kinds places m.word) variables)) f.2 ∙ is in
        let same : value_in_word kinds places m.word v.0 ≡ x = cc in
        let it : value.Set g.set ≡ x = sym g.value_is ∙ same in
        let word : word_at kinds v.0 (value.Set g.set) ≡ own_bits (places_in places v) m.word = word_is kinds v.0 (kind.Set g.universe) (value.Set g.set) g.kind_is ∙ g.fits.is_word in
        subst (λ j. side_of kinds table sides j x ≡ true) f.2
        (subst (λ y. side_of kinds table sides v.0 y ≡ true) it
        (sym (side_walks kinds table sides v.0 (value.Set g.set) task.ok.ascending) ∙ ap (walk table (node_in sides v.0)) word ∙ walked v f.1))
    | inr beside ↦ unnamed kinds table sides k x (others_named c variables sides k task.scope task.named beside)
  ]

pub meets_is_satisfied : {Q : Type 0} (rules : Rules Q) (kinds : List Kind) (table : List Node) (sides : Sides) (c : Constraint) (variables : List VarId) (places : List Place) (first second third : Slot)
    → Task kinds table sides c variables places first second third
    → ((values : List Value) → IsAssignment kinds values → (accepts rules (map (set_bit values) places) ≡ true) ↔ Holds c values)
    → Meets table places rules first second third ↔ SomeSatisfy kinds table sides c
meets_is_satisfied rules kinds table sides c variables places first second third task exact =
    (meets_satisfied rules kinds table sides c variables places first second third task exact, satisfied_meets rules kinds table sides c variables places first second third task exact)
