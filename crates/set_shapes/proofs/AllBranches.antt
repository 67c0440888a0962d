-- The branches of all items, and the element relation.
use Rattle.std.proofs.Common.{◌≡◌, ◌↔◌, ◌⊎◌, ℕ, zero, suc, ◌+◌, ◌<◌, ◌≤◌, ◌&&◌, Bool, true, false, ℤ, pos, List, [], ◌∷◌, ◌++◌, length, get_or, Option, Some, None, refl, sym, ap, ◌∙◌, subst, inl, inr, arith, Contains}
use Rattle.std.specs.Prelude.{slice_get, slice_index_or, Any, filter_map, flat_map}
use Rattle.std.specs.List.{All, AllZip}
use Rattle.std.proofs.lemmas.Bool.{cases_lt}
use Rattle.std.proofs.lemmas.Option.{slice_get-get_or, slice_get_within}
use Rattle.std.proofs.lemmas.List.Quantifiers.{Any-push}
use Rattle.std.proofs.lemmas.List.Elements.{All-nil, All-cons, All-head, All-tail, All-get_or, Contains-get_or}
use Rattle.diagram_arena.specs.Table.{Word}
use Rattle.bit_machine.specs.Rules.{Rules, accepts, side_by_side}
use Rattle.set_meaning.specs.declared.kinds.Kind.{Kind}
use Rattle.set_meaning.specs.declared.kinds.Value.{Value}
use Rattle.set_meaning.specs.declared.problems.VarId.{VarId}
use Rattle.set_meaning.specs.declared.problems.Term.{Term}
use Rattle.set_meaning.specs.declared.problems.Arg.{Arg}
use Rattle.set_meaning.specs.declared.problems.Arg.TheVariants.{One, Many}
use Rattle.set_meaning.specs.declared.problems.Constraint.{Constraint}
use Rattle.set_meaning.specs.declared.problems.Relation.TheVariants.{ArraySetElement}
use Rattle.set_meaning.specs.declared.rows.Sort.TheVariants.{Integer, IntegerSet}
use Rattle.set_meaning.specs.Rows.{HasSort, HasShape, row_of, shapes_of}
use Rattle.set_meaning.specs.Elements.{IsItem}
use Rattle.set_meaning.specs.Arguments.{int_of_term, set_of_term, cons_some, each_of, int_of, sets_of, set_of, OfTwo, OfThree}
use Rattle.set_meaning.specs.Relations.{Holds, HoldsOf, terms_of, variable_of}
use Rattle.bit_layout.specs.Order.{LayoutState, IsLayout}
use Rattle.bit_layout.proofs.Rising.{nothing_in_empty, in_head, in_tail}
use Rattle.scope_words.specs.Words.{variables_in, Gives, AreBitsOf, AreWordsOf}
use Rattle.scope_words.proofs.Bits.{flat_map_has}
use Rattle.table_machine.specs.declared.states.State.{State as TableState}
use Rattle.table_machine.specs.Tables.{Tables, AreTables, rules}
use Rattle.table_machine.specs.Values.{GivesInitialValues}
use Rattle.choice_machine.specs.Choices.{ChoiceState}
use Rattle.choice_machine.specs.Choices as choice
use Rattle.set_shapes.specs.Operands.{IsTermOf}
use Rattle.set_shapes.specs.Elements.{IsAtIndex, AreEqualSets, BranchHolds, AreBitsWith, Branch, IsBranchOver, Accepted, Tells, SomeBranchHolds, ArePlaceItemsAndSet, IsMachineOf}
use Rattle.set_shapes.proofs.Accepting.{HasSet, term_set}
use Rattle.set_shapes.proofs.Scopes.{variables_have}
use Rattle.set_shapes.proofs.OneBranch.{index_sum}

-- ---- some of a list

any_none : {X : Type 0} (P : X → Type 0) → Any P [] → ⊥
any_none P h = omega (arith, h.2)

any_here : {X : Type 0} (P : X → Type 0) (x : X) (xs : List X) → P x → Any P (x ∷ xs)
any_here P x xs h = (0, x, omega arith, refl, h)

any_later : {X : Type 0} (P : X → Type 0) (x : X) (xs : List X) → Any P xs → Any P (x ∷ xs)
any_later P x xs h = (suc h.0, h.1, omega (arith, h.2), h.3, h.4)

any_cases : {X : Type 0} (P : X → Type 0) (x : X) (xs : List X) → Any P (x ∷ xs) → P x ⊎ Any P xs
any_cases {X} P x xs h = at h.0 h.1 h.2 h.3 h.4
  where
    at : (k : ℕ) (y : X) → k < length (x ∷ xs) → slice_index_or (x ∷ xs) k y ≡ y → P y → P x ⊎ Any P xs
    at zero y within here h = inl (subst P (sym here) h)
    at (suc k) y within here h = inr (k, y, omega (arith, within), here, h)

any_before : {X : Type 0} (P : X → Type 0) (xs : List X) (y : X) → Any P xs → Any P (xs ++ y ∷ [])
any_before P [] y h = absurd (any_none P h)
any_before P (x ∷ xs) y h =
    elim (any_cases P x xs h) [
      | inl here ↦ any_here P x (xs ++ y ∷ []) here
      | inr later ↦ any_later P x (xs ++ y ∷ []) (any_before P xs y later)
    ]

any_pushed : {X : Type 0} (P : X → Type 0) (xs : List X) (y : X) → Any P (xs ++ y ∷ []) → Any P xs ⊎ P y
any_pushed P [] y h =
    elim (any_cases P y [] h) [
      | inl here ↦ inr here
      | inr later ↦ absurd (any_none P later)
    ]
any_pushed P (x ∷ xs) y h =
    elim (any_cases P x (xs ++ y ∷ []) h) [
      | inl here ↦ inl (any_here P x xs here)
      | inr later ↦ elim (any_pushed P xs y later) [
        | inl old ↦ inl (any_later P x xs old)
        | inr last ↦ inr last
      ]
    ]

-- ---- the bits of a scope of fewer terms

pub with_item : (l : LayoutState) (scope : List VarId) (bits : List ℕ) (index set item : Term) (items : List Term) (i : ℕ) → i < length items → item ≡ get_or items i item → AreBitsWith l scope bits (index ∷ set ∷ items)
    → AreBitsWith l scope bits (index ∷ set ∷ item ∷ [])
with_item l scope bits index set item items i within at are =
    let T = IsTermOf scope in
    let rest = All-tail T index (set ∷ items) are.1 in
    let mine : T item = subst T (sym at) (All-get_or T items i item within (All-tail T set items rest)) in
    (are.0, All-cons T index (set ∷ item ∷ []) (All-head T index (set ∷ items) are.1) (All-cons T set (item ∷ []) (All-head T set items rest) (All-cons T item [] mine (All-nil T))))

pub bits_for_item : (l : LayoutState) (bits : List ℕ) (index set item : Term) (items : List Term) (i : ℕ) → i < length items → item ≡ get_or items i item → (scope : List VarId) × AreBitsWith l scope bits (index ∷ set ∷ items)
    → (scope : List VarId) × AreBitsWith l scope bits (index ∷ set ∷ item ∷ [])
bits_for_item l bits index set item items i within at h = (h.0, with_item l h.0 bits index set item items i within at h.1)

-- ---- one branch more

abbrev pub TellSome : LayoutState → List ℕ → Term → Term → List Term → ℕ → List Branch → Type 0
TellSome l bits index set items count ms = Tells l bits (index ∷ set ∷ items) (λ w. Any (Accepted bits w) ms) (SomeBranchHolds index count items set)

pub tell_none : (l : LayoutState) (bits : List ℕ) (index set : Term) (items : List Term) → TellSome l bits index set items 0 []
tell_none l bits index set items scope values w are gives = (
  λ h. absurd (any_none (Accepted bits w) h),
  λ h. absurd (let low = h.2 in omega (arith, low)),
)

pub tell_more : (l : LayoutState) (bits : List ℕ) (index set item : Term) (items : List Term) (i : ℕ) (before after : List Branch) (m : Branch) → i < length items → item ≡ get_or items i item → after ≡ before ++ m ∷ []
    → TellSome l bits index set items i before → Tells l bits (index ∷ set ∷ item ∷ []) (λ w. Accepted bits w m) (BranchHolds index i item set) → TellSome l bits index set items (i + 1) after
tell_more l bits index set item items i before after m within at push so_far one scope values w are gives =
    let P : Branch → Type 0 = Accepted bits w in
    let old = so_far scope values w are gives in
    let own = one scope values w (with_item l scope bits index set item items i within at are) gives in
    let found : slice_get items i ≡ Some item = slice_get-get_or items i item within ∙ ap Some (sym at) in (
      λ h. elim (any_pushed P before m (subst (Any P) push h)) [
        | inl earlier ↦ let k = old.0 earlier in let low = k.2 in (k.0, k.1, omega (arith, low), k.3, k.4)
        | inr last ↦ (i, item, omega arith, found, own.0 last)
      ],
      λ h. elim (cases_lt h.0 i) [
        | inl earlier ↦ subst (Any P) (sym push) (any_before P before m (old.1 (h.0, h.1, earlier, h.3, h.4)))
        | inr late ↦
            let low = h.2 in
            let here : h.0 ≡ i = omega (arith, late, low) in
            let f : Some h.1 ≡ Some item = sym h.3 ∙ ap (slice_get items) here ∙ found in
            let same : h.1 ≡ item = cc in
            let there : BranchHolds index i item set values = subst (λ t. BranchHolds index i t set values) same (subst (λ k. BranchHolds index k h.1 set values) here h.4) in
            subst (Any P) (sym push) (Any-push P before m (own.1 there))
      ],
    )

-- ---- the relation

-- what each of the terms stands for, and that each stands for something
record AreEach {X : Type 0} (f : Term → Option X) (items : List Term) (xs : List X) : Type 0 where
  is : each_of f items ≡ Some xs
  at : (k : ℕ) (item : Term) → slice_get items k ≡ Some item → f item ≡ slice_get xs k
  back : (k : ℕ) (x : X) → slice_get xs k ≡ Some x → (item : Term) × (slice_get items k ≡ Some item)

each_nil : {X : Type 0} (f : Term → Option X) → AreEach f [] []
each_nil f = record {
  is = refl;
  at = λ k item e. absurd (cc);
  back = λ k x e. absurd (cc);
}

each_cons : {X : Type 0} (f : Term → Option X) (t : Term) (ts : List Term) (x : X) (xs : List X) → f t ≡ Some x → AreEach f ts xs → AreEach f (t ∷ ts) (x ∷ xs)
each_cons {X} f t ts x xs e rest = record {
  is = ap (λ o. cons_some o (each_of f ts)) e ∙ ap (cons_some (Some x)) rest.is;
  at = at;
  back = back;
}
  where
    at : (k : ℕ) (item : Term) → slice_get (t ∷ ts) k ≡ Some item → f item ≡ slice_get (x ∷ xs) k
    at zero item g = let same : t ≡ item = cc in ap f (sym same) ∙ e
    at (suc k) item g = rest.at k item g

    back : (k : ℕ) (y : X) → slice_get (x ∷ xs) k ≡ Some y → (item : Term) × (slice_get (t ∷ ts) k ≡ Some item)
    back zero y g = (t, refl)
    back (suc k) y g = rest.back k y g

each_there : {X : Type 0} (f : Term → Option X) (items : List Term) → ((t : Term) → Contains items t → (x : X) × (f t ≡ Some x)) → (xs : List X) × AreEach f items xs
each_there f [] has = ([], each_nil f)
each_there f (t ∷ ts) has =
    let x = has t (in_head t ts) in
    let rest = each_there f ts (λ u h. has u (in_tail t ts u h)) in
    (x.0 ∷ rest.0, each_cons f t ts x.0 rest.0 x.1 rest.1)

two_same : (p : Option (List ℤ)) (a : List ℤ) → OfTwo (λ a c. a ≡ c) p (Some a) → p ≡ Some a
two_same None a h = absurd h
two_same (Some b) a h = ap Some h

two_back : (p : Option (List ℤ)) (a : List ℤ) → p ≡ Some a → OfTwo (λ a c. a ≡ c) p (Some a)
two_back p a e = subst (λ p. OfTwo (λ a c. a ≡ c) p (Some a)) (sym e) refl

is_item : (values : List Value) (index set : Term) (items : List Term) (n : ℤ) (xs : List (List ℤ)) (a : List ℤ) → int_of_term values index ≡ Some n → set_of_term values set ≡ Some a → AreEach (set_of_term values) items xs
    → SomeBranchHolds index (length items) items set values ↔ IsItem n xs a
is_item values index set items n xs a e f each = (
  λ h.
      let g : Some n ≡ Some (pos (suc h.0)) = sym e ∙ h.4.0 in
      let counted : n ≡ pos (suc h.0) = cc in
      let equal : OfTwo (λ a c. a ≡ c) (set_of_term values h.1) (Some a) = subst (OfTwo (λ a c. a ≡ c) (set_of_term values h.1)) f h.4.1 in
      record { index = h.0; counted = counted; item = sym (each.at h.0 h.1 h.3) ∙ two_same (set_of_term values h.1) a equal },
  λ h.
      let item = each.back h.index a h.item in
      let stands : set_of_term values item.0 ≡ Some a = each.at h.index item.0 item.1 ∙ h.item in
      let equal : OfTwo (λ a c. a ≡ c) (set_of_term values item.0) (set_of_term values set) = subst (OfTwo (λ a c. a ≡ c) (set_of_term values item.0)) (sym f) (two_back (set_of_term values item.0) a stands) in
      (h.index, item.0, slice_get_within items h.index item.0 item.1, item.1, (e ∙ ap Some h.counted, equal)),
)

three_is : {A B C : Type 0} (T : Type 0) (R : A → B → C → Type 0) (p : Option A) (q : Option B) (r : Option C) (a : A) (b : B) (c : C) → p ≡ Some a → q ≡ Some b → r ≡ Some c → T ↔ R a b c → T ↔ OfThree R p q r
three_is {A} {B} {C} T R p q r a b c e f g h =
    let P : Option A → Type 0 = λ o. T ↔ OfThree R o q r in
    let Q : Option B → Type 0 = λ o. T ↔ OfThree R (Some a) o r in
    let S : Option C → Type 0 = λ o. T ↔ OfThree R (Some a) (Some b) o in
    subst P (sym e) (subst Q (sym f) (subst S (sym g) h))

abbrev pub the_args : Term → List Term → Term → List Arg
the_args index items set = One index ∷ Many items ∷ One set ∷ []

pub relation_is : (l : LayoutState) (scope : List VarId) (values : List Value) (w : Word) (index set : Term) (items : List Term) → HasSort l.kinds Integer index → All (HasSort l.kinds IntegerSet) items → HasSort l.kinds IntegerSet set
    → All (IsTermOf scope) (index ∷ set ∷ items) → Gives l scope values w → SomeBranchHolds index (length items) items set values ↔ HoldsOf ArraySetElement (the_args index items set) values
unfolding HoldsOf
relation_is l scope values w index set items of_index of_items of_set mine gives =
    let T = IsTermOf scope in
    let rest = All-tail T index (set ∷ items) mine in
    let n = index_sum l scope values w index 0 gives (All-head T index (set ∷ items) mine) of_index in
    let a = term_set l scope values w set gives (All-head T set items rest) of_set in
    let each = each_there (set_of_term values) items (λ t h.
    let s = term_set l scope values w t gives (Rattle.std.proofs.lemmas.List.Elements.All-contains T items t (All-tail T set items rest) h) (Rattle.std.proofs.lemmas.List.Elements.All-contains (HasSort l.kinds IntegerSet) items t of_items h) in
    (s.set, s.is)) in
    three_is (SomeBranchHolds index (length items) items set values) IsItem (int_of_term values index) (each_of (set_of_term values) items) (set_of_term values set) n.0 each.0 a.set n.1 each.1.is a.is
    (is_item values index set items n.0 each.0 a.set n.1 a.is each.1)

-- ---- the arguments

pub args_mine : (index set : Term) (items : List Term) → All (IsTermOf (variables_in (the_args index items set))) (index ∷ set ∷ items)
args_mine index set items =
    let args = the_args index items set in
    let ts = flat_map terms_of args in
    let T = IsTermOf (variables_in args) in
    let first : Contains args (One index) = in_head (One index) (Many items ∷ One set ∷ []) in
    let second : Contains args (Many items) = in_tail (One index) (Many items ∷ One set ∷ []) (Many items) (in_head (Many items) (One set ∷ [])) in
    let third : Contains args (One set) = in_tail (One index) (Many items ∷ One set ∷ []) (One set) (in_tail (Many items) (One set ∷ []) (One set) (in_head (One set) [])) in
    let of_index : T index = variables_have ts index (flat_map_has terms_of args (One index) index first (in_head index [])) in
    let of_set : T set = variables_have ts set (flat_map_has terms_of args (One set) set third (in_head set [])) in
    let of_items : All T items = λ k d within. variables_have ts (get_or items k d) (flat_map_has terms_of args (Many items) (get_or items k d) second (Contains-get_or items k d within)) in
    All-cons T index (set ∷ items) of_index (All-cons T set items of_set of_items)

-- the law of table_machine on relations beside initial values
abbrev pub RelationsHaveWords : Type 0
RelationsHaveWords = (condition : Constraint) (l : LayoutState) (scope : List VarId) (bits : List ℕ) (initial : Rules TableState) (relation : Rules ℕ) → IsLayout l
    → ((w : Word) → (accepts initial bits w ≡ true) ↔ GivesInitialValues l scope w)
    → ((values : List Value) (w : Word) → Gives l scope values w → (accepts relation bits w ≡ true) ↔ Holds condition values)
    → AreWordsOf l scope (Holds condition) (accepts (side_by_side ◌&&◌ initial relation) bits)

-- the constraint without a truth value
plain : List Arg → Constraint
plain args = record { relation = ArraySetElement; args = args; reif = None }

own_words : RelationsHaveWords → (l : LayoutState) (args : List Arg) (bits : List ℕ) (initial : Rules TableState) (own : Rules ℕ) → IsLayout l
    → ((w : Word) → (accepts initial bits w ≡ true) ↔ GivesInitialValues l (variables_in args) w)
    → ((values : List Value) (w : Word) → Gives l (variables_in args) values w → (accepts own bits w ≡ true) ↔ HoldsOf ArraySetElement args values)
    → AreWordsOf l (variables_in args) (HoldsOf ArraySetElement args) (accepts (side_by_side ◌&&◌ initial own) bits)
unfolding Holds plain
own_words law l args bits initial own ok first second =
    let words = law (plain args) l (variables_in args) bits initial own ok first second in
    record { sound = words.sound; whole = words.whole }

pub element_words : RelationsHaveWords → (l : LayoutState) (index set : Term) (items : List Term) (bits : List ℕ) (initial : Tables) (ms lent : List Branch) (own : ChoiceState) → IsLayout l
    → HasSort l.kinds Integer index → All (HasSort l.kinds IntegerSet) items → HasSort l.kinds IntegerSet set
    → AreBitsOf l (variables_in (the_args index items set)) bits
    → ((w : Word) → (accepts (rules initial) bits w ≡ true) ↔ GivesInitialValues l (variables_in (the_args index items set)) w)
    → TellSome l bits index set items (length items) ms → lent ≡ ms
    → ((w : Word) → (accepts (choice.rules_of own) bits w ≡ true) ↔ Any (Accepted bits w) lent)
    → AreWordsOf l (variables_in (the_args index items set)) (HoldsOf ArraySetElement (the_args index items set)) (accepts (side_by_side ◌&&◌ (rules initial) (choice.rules_of own)) bits)
element_words law l index set items bits initial ms lent own ok of_index of_items of_set are reads tells e chosen =
    let args = the_args index items set in
    let scope = variables_in args in
    let mine = args_mine index set items in
    own_words law l args bits (rules initial) (choice.rules_of own) ok reads
    (λ values w gives.
    let some = subst (λ ys. (accepts (choice.rules_of own) bits w ≡ true) ↔ Any (Accepted bits w) ys) e (chosen w) in
    let told = tells scope values w (are, mine) gives in
    let holds = relation_is l scope values w index set items of_index of_items of_set mine gives in
    (λ h. holds.0 (told.0 (some.0 h)), λ h. some.1 (told.1 (holds.1 h))))
