-- An element relation at a constant place says that the item there is the last argument.
use Rattle.std.proofs.Common.{◌≡◌, ◌↔◌, ℕ, zero, suc, Bool, true, false, ℤ, pos, List, [], ◌∷◌, ◌++◌, Contains, Option, Some, None, refl, sym, ap, ◌∙◌, subst, inl, inr}
use Rattle.std.specs.Prelude.{slice_get, option_and_then, option_map, IsSomeAnd, All}
use Rattle.std.specs.List.{AllZip, flat_map}
use Rattle.std.proofs.lemmas.List.Elements.{Contains-append_left, Contains-append_right}
use Rattle.std.proofs.lemmas.Option.{slice_get_within, get_or_from_slice_get}
use Rattle.set_meaning.specs.declared.kinds.Kind.{Kind}
use Rattle.set_meaning.specs.declared.kinds.Kind.TheVariants as kind
use Rattle.set_meaning.specs.declared.kinds.Value.{Value}
use Rattle.set_meaning.specs.declared.kinds.Value.TheVariants as value
use Rattle.set_meaning.specs.declared.problems.VarId.{VarId}
use Rattle.set_meaning.specs.declared.problems.Term.{Term}
use Rattle.set_meaning.specs.declared.problems.Term.TheVariants.{Const, Var}
use Rattle.set_meaning.specs.declared.problems.Arg.{Arg}
use Rattle.set_meaning.specs.declared.problems.Arg.TheVariants.{One, Many}
use Rattle.set_meaning.specs.declared.problems.Relation.{Relation}
use Rattle.set_meaning.specs.declared.problems.Relation.TheVariants.{SetEq, ArraySetElement, IntEq, ArrayIntElement, BoolEq, ArrayBoolElement}
use Rattle.set_meaning.specs.declared.problems.Constraint.{Constraint}
use Rattle.set_meaning.specs.declared.rows.Sort.{Sort}
use Rattle.set_meaning.specs.declared.rows.Sort.TheVariants.{Boolean, Integer, IntegerSet}
use Rattle.set_meaning.specs.Kinds.{InKind, IsAssignment}
use Rattle.set_meaning.specs.declared.rows.Shape.TheVariants.{OneOf, ManyOf}
use Rattle.set_meaning.specs.Rows.{sort_of_kind, IsValueOf, HasSort, HasShape, shapes_of, row_of, FitsRow}
use Rattle.set_meaning.specs.Arguments.{bool_in, int_in, set_in, value_of, int_of, one_of, many_of, each_of, cons_some, OfTwo, OfThree, OfThreeArgs}
use Rattle.set_meaning.specs.Relations.{Holds, HoldsOf, IsScope, terms_of}
use Rattle.set_meaning.specs.Elements.{IsItem}
use Rattle.bit_layout.proofs.Rising.{in_cons, in_tail}
use Rattle.log_rules.proofs.Inside.{is_initial, value_there}
use Rattle.sweep_shapes.specs.Slots.{AsksFor, IsReading}
use Rattle.sweep_shapes.specs.Readings.{IsItemOf, IsItemAt, IsNoPlace, IsPick, equality_of, relates}
use Rattle.sweep_shapes.proofs.Standing.{variable_term, term_variable}
use Rattle.sweep_shapes.proofs.SetKinds.{args_in_variables, asked_holds}

-- ---- lists of terms that all have values

module _ {X : Type 0} (f : Term → Option X) where
  both_some : (o : Option X) (p : Option (List X)) (x : X) (xs : List X) → o ≡ Some x → p ≡ Some xs → cons_some o p ≡ Some (x ∷ xs)
  both_some o p x xs e g = ap (λ a. cons_some a p) e ∙ ap (λ b. cons_some (Some x) b) g

  pub each_some : (ts : List Term) → ((k : ℕ) (t : Term) → slice_get ts k ≡ Some t → (x : X) × (f t ≡ Some x)) → (xs : List X) × (each_of f ts ≡ Some xs) × ((k : ℕ) (t : Term) → slice_get ts k ≡ Some t → f t ≡ slice_get xs k)
  each_some [] there = ([], refl, λ k t is. let clash : None ≡ Some t = is in absurd (cc))
  each_some (t ∷ ts) there =
      let first = there 0 t refl in
      let rest = each_some ts (λ k u is. there (suc k) u is) in
      (first.0 ∷ rest.0, both_some (f t) (each_of f ts) first.0 rest.0 first.1 rest.1, at first.0 rest.0 first.1 rest.2)
    where
      at : (x : X) (xs : List X) → f t ≡ Some x → ((k : ℕ) (u : Term) → slice_get ts k ≡ Some u → f u ≡ slice_get xs k) → (k : ℕ) (u : Term) → slice_get (t ∷ ts) k ≡ Some u → f u ≡ slice_get (x ∷ xs) k
      at x xs here later zero u is = let e : t ≡ u = (let both : Some t ≡ Some u = is in cc) in subst (λ w. f w ≡ Some x) e here
      at x xs here later (suc k) u is = later k u is

  -- the item at place k + 1 is what x stands for
  pub item_says : (k : ℕ) (ts : List Term) (t x : Term) → slice_get ts k ≡ Some t → ((j : ℕ) (u : Term) → slice_get ts j ≡ Some u → (y : X) × (f u ≡ Some y))
      → OfTwo (λ a b. a ≡ b) (f t) (f x) ↔ OfThree IsItem (Some (pos (suc k))) (each_of f ts) (f x)
  item_says k ts t x is there =
      let all = each_some ts there in
      let here = all.2 k t is in
      subst (λ o. OfTwo (λ a b. a ≡ b) (f t) (f x) ↔ OfThree IsItem (Some (pos (suc k))) o (f x)) (sym all.1)
      (subst (λ o. OfTwo (λ a b. a ≡ b) o (f x) ↔ OfThree IsItem (Some (pos (suc k))) (Some all.0) (f x)) (sym here) (by all.0 (f x)))
    where
      to : (xs : List X) (o : Option X) (b : X) → slice_get xs k ≡ o → OfTwo (λ a b. a ≡ b) o (Some b) → IsItem (pos (suc k)) xs b
      to xs None b e h = absurd h
      to xs (Some a) b e h = record { index = k; counted = refl; item = e ∙ ap Some h }

      from : (xs : List X) (b : X) → IsItem (pos (suc k)) xs b → OfTwo (λ a b. a ≡ b) (slice_get xs k) (Some b)
      from xs b h =
          let same : k ≡ h.index = (let e : pos (suc k) ≡ pos (suc h.index) = h.counted in cc) in
          subst (λ o. OfTwo (λ a b. a ≡ b) o (Some b)) (sym (ap (slice_get xs) same ∙ h.item)) refl

      none : (o : Option X) → OfTwo (λ a b. a ≡ b) o None → ⊥
      none None h = h
      none (Some a) h = h

      by : (xs : List X) (o : Option X) → OfTwo (λ a b. a ≡ b) (slice_get xs k) o ↔ OfThree IsItem (Some (pos (suc k))) (Some xs) o
      by xs None = (λ h. absurd (none (slice_get xs k) h), λ h. absurd h)
      by xs (Some b) = (to xs (slice_get xs k) b refl, from xs b)

-- ---- terms that have values under an assignment

-- the sort, what is read of values of it, and the law that terms of the sort have such values
pub record IsSortRead {X : Type 0} (sort : Sort) (g : Value → Option X) : Type 0 where
  pub kinds_have : (k : Kind) (x : Value) → sort_of_kind k ≡ sort → InKind k x → (y : X) × (g x ≡ Some y)
  pub constants_have : (x : Value) → IsValueOf sort x → (y : X) × (g x ≡ Some y)

pub read_of_bool : IsSortRead Boolean bool_in
unfolding InKind
read_of_bool = record { kinds_have = kinds_have; constants_have = constants_have } where
  kinds_have : (k : Kind) (x : Value) → sort_of_kind k ≡ Boolean → InKind k x → (y : Bool) × (bool_in x ≡ Some y)
  kinds_have kind.Bool (value.Bool b) e h = (b, refl)
  kinds_have kind.Bool (value.Int n) e h = absurd h
  kinds_have kind.Bool (value.Set s) e h = absurd h
  kinds_have (kind.Int numbers) x e h = absurd (cc)
  kinds_have (kind.Set u) x e h = absurd (cc)

  constants_have : (x : Value) → IsValueOf Boolean x → (y : Bool) × (bool_in x ≡ Some y)
  constants_have (value.Bool b) h = (b, refl)
  constants_have (value.Int n) h = absurd h
  constants_have (value.Set s) h = absurd h

read_of_int : IsSortRead Integer int_in
unfolding InKind
read_of_int = record { kinds_have = kinds_have; constants_have = constants_have } where
  kinds_have : (k : Kind) (x : Value) → sort_of_kind k ≡ Integer → InKind k x → (y : ℤ) × (int_in x ≡ Some y)
  kinds_have kind.Bool x e h = absurd (cc)
  kinds_have (kind.Int numbers) (value.Bool b) e h = absurd h
  kinds_have (kind.Int numbers) (value.Int n) e h = (n, refl)
  kinds_have (kind.Int numbers) (value.Set s) e h = absurd h
  kinds_have (kind.Set u) x e h = absurd (cc)

  constants_have : (x : Value) → IsValueOf Integer x → (y : ℤ) × (int_in x ≡ Some y)
  constants_have (value.Bool b) h = absurd h
  constants_have (value.Int n) h = (n, refl)
  constants_have (value.Set s) h = absurd h

read_of_set : IsSortRead IntegerSet set_in
unfolding InKind
read_of_set = record { kinds_have = kinds_have; constants_have = constants_have } where
  kinds_have : (k : Kind) (x : Value) → sort_of_kind k ≡ IntegerSet → InKind k x → (y : List ℤ) × (set_in x ≡ Some y)
  kinds_have kind.Bool x e h = absurd (cc)
  kinds_have (kind.Int numbers) x e h = absurd (cc)
  kinds_have (kind.Set u) (value.Bool b) e h = absurd h
  kinds_have (kind.Set u) (value.Int n) e h = absurd h
  kinds_have (kind.Set u) (value.Set s) e h = (s, refl)

  constants_have : (x : Value) → IsValueOf IntegerSet x → (y : List ℤ) × (set_in x ≡ Some y)
  constants_have (value.Bool b) h = absurd h
  constants_have (value.Int n) h = absurd h
  constants_have (value.Set s) h = (s, refl)

module _ {X : Type 0} (sort : Sort) (g : Value → Option X) (reads : IsSortRead sort g) (kinds : List Kind) (values : List Value) (legal : IsAssignment kinds values) where
  given : Term → Option X
  given t = option_and_then g (value_of t values)

  of_kind : (v : VarId) (k : Kind) → slice_get kinds v.0 ≡ Some k → sort_of_kind k ≡ sort → (y : X) × (option_and_then g (slice_get values v.0) ≡ Some y)
  of_kind v k is same =
      let x = value_there kinds values legal v.0 (slice_get_within kinds v.0 k is) in
      let inside : InKind k x.0 = subst (λ o. IsSomeAnd o (λ i. InKind i x.0)) is (is_initial kinds values legal v.0 x.0 x.1) in
      let y = reads.kinds_have k x.0 same inside in
      (y.0, ap (option_and_then g) x.1 ∙ y.1)

  pub term_there : (t : Term) → HasSort kinds sort t → (y : X) × (option_and_then g (value_of t values) ≡ Some y)
  term_there (Const x) h = reads.constants_have x h
  term_there (Var v) h = by (slice_get kinds v.0) refl h
    where
      by : (o : Option Kind) → slice_get kinds v.0 ≡ o → option_map sort_of_kind o ≡ Some sort → (y : X) × (option_and_then g (slice_get values v.0) ≡ Some y)
      by None e k = let clash : None ≡ Some sort = k in absurd (cc)
      by (Some k) e same = of_kind v k e (let both : Some (sort_of_kind k) ≡ Some sort = same in cc)

  pub terms_there : (ts : List Term) → All (HasSort kinds sort) ts → (k : ℕ) (t : Term) → slice_get ts k ≡ Some t → (y : X) × (option_and_then g (value_of t values) ≡ Some y)
  terms_there ts all k t is = term_there t (subst (HasSort kinds sort) (get_or_from_slice_get ts k t t is) (all k t (slice_get_within ts k t is)))

-- ---- the item

item_there : (items : List Term) (k : ℕ) (t : Term) → slice_get items k ≡ Some t → Contains items t
item_there items k t is = (k, slice_get_within items k t is, get_or_from_slice_get items k t t is)

-- ---- the readings

-- an element relation of the sort, and the equality of the sort
pub record IsElementSort {X : Type 0} (sort : Sort) (g : Value → Option X) (relation equality : Relation) : Type 1 where
  pub reads : IsSortRead sort g
  pub row : shapes_of (row_of relation) ≡ OneOf Integer ∷ ManyOf sort ∷ OneOf sort ∷ []
  pub equal_row : shapes_of (row_of equality) ≡ OneOf sort ∷ OneOf sort ∷ []
  pub unpaired : (row_of equality).paired ≡ false
  pub says : (args : List Arg) (values : List Value)
      → HoldsOf relation args values ≡ OfThreeArgs (int_of values) (many_of (λ t. option_and_then g (value_of t values))) (one_of (λ t. option_and_then g (value_of t values))) IsItem args
  pub equal_says : (a b : Term) (values : List Value) → HoldsOf equality (One a ∷ One b ∷ []) values ≡ OfTwo (λ x y. x ≡ y) (option_and_then g (value_of a values)) (option_and_then g (value_of b values))

pub int_elements : IsElementSort Integer int_in ArrayIntElement IntEq
unfolding HoldsOf
int_elements = record { reads = read_of_int; row = refl; equal_row = refl; unpaired = refl; says = λ args values. refl; equal_says = λ a b values. refl }

pub bool_elements : IsElementSort Boolean bool_in ArrayBoolElement BoolEq
unfolding HoldsOf
bool_elements = record { reads = read_of_bool; row = refl; equal_row = refl; unpaired = refl; says = λ args values. refl; equal_says = λ a b values. refl }

pub set_elements : IsElementSort IntegerSet set_in ArraySetElement SetEq
unfolding HoldsOf
set_elements = record { reads = read_of_set; row = refl; equal_row = refl; unpaired = refl; says = λ args values. refl; equal_says = λ a b values. refl }

pub read_element : {X : Type 0} (sort : Sort) (g : Value → Option X) (relation equality : Relation) → IsElementSort sort g relation equality → (kinds : List Kind) (c : Constraint) (variables : List VarId) (item x : Term)
    → c.relation ≡ relation → FitsRow kinds c → IsScope c variables → AsksFor true c.reif → IsItemOf c item x → IsReading kinds c variables (relates equality item x) true
read_element sort g relation equality el kinds c variables item x is fits scope asks at = record {
  fits = record {
    args = subst (λ shapes. AllZip (HasShape kinds) shapes (One item ∷ One x ∷ [])) (sym el.equal_row) (item_sort, (shaped.1.1.0, tt));
    paired = λ asked. absurd (let clash : false ≡ true = sym el.unpaired ∙ asked in cc);
    reif = tt;
  };
  among = λ v h. (scope.members v).1 (args_in_variables c true v asks (term_variable (flat_map terms_of c.args) v (there v (variable_term (item ∷ x ∷ []) v h))));
  same = λ values legal.
      let holds = asked_holds c true values asks in
      let each = terms_there sort g el.reads kinds values legal at.items shaped.1.0 in
      let both = item_says (λ t. option_and_then g (value_of t values)) at.index at.items item x at.there each in
      let whole : HoldsOf c.relation c.args values ≡ OfThree IsItem (Some (pos (suc at.index))) (each_of (λ t. option_and_then g (value_of t values)) at.items) (option_and_then g (value_of x values)) =
      ap (λ r. HoldsOf r c.args values) is ∙ el.says c.args values
      ∙ ap (OfThreeArgs (int_of values) (many_of (λ t. option_and_then g (value_of t values))) (one_of (λ t. option_and_then g (value_of t values))) IsItem) at.args in (
        λ h. holds.0 (subst (λ (T : Type 0). T) (sym whole) (both.0 (subst (λ (T : Type 0). T) (el.equal_says item x values) h))),
        λ h. subst (λ (T : Type 0). T) (sym (el.equal_says item x values)) (both.1 (subst (λ (T : Type 0). T) whole (holds.1 h))),
      );
}
  where
    shaped : AllZip (HasShape kinds) (OneOf Integer ∷ ManyOf sort ∷ OneOf sort ∷ []) (One (Const (value.Int (pos (suc at.index)))) ∷ Many at.items ∷ One x ∷ [])
    shaped = subst (AllZip (HasShape kinds) (OneOf Integer ∷ ManyOf sort ∷ OneOf sort ∷ [])) at.args
        (subst (λ shapes. AllZip (HasShape kinds) shapes c.args) (ap (λ r. shapes_of (row_of r)) is ∙ el.row) fits.args)

    item_sort : HasSort kinds sort item
    item_sort = subst (HasSort kinds sort) (get_or_from_slice_get at.items at.index item item at.there) (shaped.1.0 at.index item (slice_get_within at.items at.index item at.there))

    there : (v : VarId) → Contains (item ∷ x ∷ []) (Var v) → Contains (flat_map terms_of c.args) (Var v)
    there v h = subst (λ args. Contains (flat_map terms_of args) (Var v)) (sym at.args) (in_tail (Const (value.Int (pos (suc at.index)))) (at.items ++ (x ∷ [])) (Var v) (by h))
      where
        by : Contains (item ∷ x ∷ []) (Var v) → Contains (at.items ++ (x ∷ [])) (Var v)
        by h = elim (in_cons item (x ∷ []) (Var v) h) [
          | inl e ↦ Contains-append_left at.items (x ∷ []) (Var v) (subst (Contains at.items) e (item_there at.items at.index item at.there))
          | inr later ↦ Contains-append_right at.items (x ∷ []) (Var v) later
        ]

pub read_item : (kinds : List Kind) (c read : Constraint) (variables : List VarId) (equality : Relation) (place : ℤ) (items : List Term) (item x : Term) → equality_of c.relation ≡ Some equality → FitsRow kinds c
    → IsScope c variables → AsksFor true c.reif → IsPick c place items x → IsItemAt items place item → read ≡ relates equality item x → IsReading kinds c variables read true
read_item kinds c read variables equality place items item x is fits scope asks picked at put =
    subst (λ r. IsReading kinds c variables r true) (sym put) (by c.relation refl is)
  where
    of_item : IsItemOf c item x
    of_item = record { index = at.0; items = items; args = picked ∙ ap (λ p. One (Const (value.Int p)) ∷ Many items ∷ One x ∷ []) at.1; there = at.2 }

    by : (r : Relation) → c.relation ≡ r → equality_of r ≡ Some equality → IsReading kinds c variables (relates equality item x) true
    by ArrayIntElement e h =
        let same : IntEq ≡ equality = (let both : Some IntEq ≡ Some equality = h in cc) in
        subst (λ q. IsReading kinds c variables (relates q item x) true) same (read_element Integer int_in ArrayIntElement IntEq int_elements kinds c variables item x e fits scope asks of_item)
    by ArrayBoolElement e h =
        let same : BoolEq ≡ equality = (let both : Some BoolEq ≡ Some equality = h in cc) in
        subst (λ q. IsReading kinds c variables (relates q item x) true) same (read_element Boolean bool_in ArrayBoolElement BoolEq bool_elements kinds c variables item x e fits scope asks of_item)
    by ArraySetElement e h =
        let same : SetEq ≡ equality = (let both : Some SetEq ≡ Some equality = h in cc) in
        subst (λ q. IsReading kinds c variables (relates q item x) true) same (read_element IntegerSet set_in ArraySetElement SetEq set_elements kinds c variables item x e fits scope asks of_item)
    by _ e h = let clash : None ≡ Some equality = h in absurd (cc)

-- ---- a place that is none

missing_each : {X : Type 0} (f : Term → Option X) (ts : List Term) (xs : List X) (k : ℕ) → each_of f ts ≡ Some xs → slice_get ts k ≡ None → slice_get xs k ≡ None
missing_each f [] xs k e h = let same : [] ≡ xs = (let both : Some [] ≡ Some xs = e in cc) in subst (λ ys. slice_get ys k ≡ None) same refl
missing_each {X} f (t ∷ ts) xs k e h = by (λ j ys g m. missing_each f ts ys j g m) (f t) (each_of f ts) refl e
  where
    later : ((j : ℕ) (ys : List X) → each_of f ts ≡ Some ys → slice_get ts j ≡ None → slice_get ys j ≡ None) → (k : ℕ) (y : X) (ys : List X) → each_of f ts ≡ Some ys → slice_get (t ∷ ts) k ≡ None
        → slice_get (y ∷ ys) k ≡ None
    later again zero y ys e h = let clash : Some t ≡ None = h in absurd (cc)
    later again (suc k) y ys e h = again k ys e h

    by : ((j : ℕ) (ys : List X) → each_of f ts ≡ Some ys → slice_get ts j ≡ None → slice_get ys j ≡ None) → (o : Option X) (p : Option (List X)) → each_of f ts ≡ p → cons_some o p ≡ Some xs → slice_get xs k ≡ None
    by again None p same e = let clash : None ≡ Some xs = e in absurd (cc)
    by again (Some y) None same e = let clash : None ≡ Some xs = e in absurd (cc)
    by again (Some y) (Some ys) same e =
        let all : y ∷ ys ≡ xs = (let both : Some (y ∷ ys) ≡ Some xs = e in cc) in subst (λ zs. slice_get zs k ≡ None) all (later again k y ys same h)

no_item : {X : Type 0} (f : Term → Option X) (place : ℤ) (items : List Term) (x : Option X) → IsNoPlace items place → OfThree IsItem (Some place) (each_of f items) x → ⊥
no_item {X} f place items x missing h = by (each_of f items) x refl h
  where
    by : (o : Option (List X)) (p : Option X) → each_of f items ≡ o → OfThree IsItem (Some place) o p → ⊥
    by None p e h = h
    by (Some xs) None e h = h
    by (Some xs) (Some y) e h =
        let clash : None ≡ Some y = sym (missing_each f items xs h.index e (missing h.index h.counted)) ∙ h.item in absurd (cc)

never_element : {X : Type 0} (sort : Sort) (g : Value → Option X) (relation equality : Relation) → IsElementSort sort g relation equality → (c : Constraint) (place : ℤ) (items : List Term) (x : Term) → c.relation ≡ relation
    → AsksFor true c.reif → IsPick c place items x → IsNoPlace items place → (values : List Value) → Holds c values → ⊥
never_element sort g relation equality el c place items x is asks picked missing values h =
    let whole : HoldsOf c.relation c.args values ≡ OfThree IsItem (Some place) (each_of (λ t. option_and_then g (value_of t values)) items) (option_and_then g (value_of x values)) =
    ap (λ r. HoldsOf r c.args values) is ∙ el.says c.args values
    ∙ ap (OfThreeArgs (int_of values) (many_of (λ t. option_and_then g (value_of t values))) (one_of (λ t. option_and_then g (value_of t values))) IsItem) picked in
    no_item (λ t. option_and_then g (value_of t values)) place items (option_and_then g (value_of x values)) missing (subst (λ (T : Type 0). T) whole ((asked_holds c true values asks).1 h))

pub item_missing : (kinds : List Kind) (c : Constraint) (equality : Relation) (place : ℤ) (items : List Term) (x : Term) → equality_of c.relation ≡ Some equality → AsksFor true c.reif → IsPick c place items x
    → IsNoPlace items place → (values : List Value) → IsAssignment kinds values → Holds c values → ⊥
item_missing kinds c equality place items x is asks picked missing values legal h = by c.relation refl is
  where
    by : (r : Relation) → c.relation ≡ r → equality_of r ≡ Some equality → ⊥
    by ArrayIntElement e k = never_element Integer int_in ArrayIntElement IntEq int_elements c place items x e asks picked missing values h
    by ArrayBoolElement e k = never_element Boolean bool_in ArrayBoolElement BoolEq bool_elements c place items x e asks picked missing values h
    by ArraySetElement e k = never_element IntegerSet set_in ArraySetElement SetEq set_elements c place items x e asks picked missing values h
    by _ e k = let clash : None ≡ Some equality = k in absurd (cc)
