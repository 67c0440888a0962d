-- What terms count, where each variable has a value of its kind.
use Rattle.std.proofs.Common.{◌≡◌, ◌↔◌, ℕ, ◌<◌, ℤ, pos, Bool, true, false, List, [], ◌∷◌, ◌++◌, map, length, Option, Some, None, refl, sym, ap, ◌∙◌, subst, inl, inr, arith, Contains}
use Rattle.std.specs.Prelude.{slice_get, IsSomeAnd, option_map, option_and_then, filter_map, if◌then◌else◌, ⊤}
use Rattle.std.specs.Option.{option_map_or}
use Rattle.std.specs.List.{All, AllZip}
use Rattle.std.proofs.lemmas.List.Elements.{All-head, All-tail}
use Rattle.set_meaning.specs.declared.kinds.Kind.{Kind}
use Rattle.set_meaning.specs.declared.kinds.Kind.TheVariants as kind
use Rattle.set_meaning.specs.declared.kinds.Value.{Value}
use Rattle.set_meaning.specs.declared.kinds.Value.TheVariants as value
use Rattle.set_meaning.specs.declared.problems.VarId.{VarId}
use Rattle.set_meaning.specs.declared.problems.Term.{Term}
use Rattle.set_meaning.specs.declared.problems.Term.TheVariants.{Const, Var}
use Rattle.set_meaning.specs.declared.rows.Sort.{Sort}
use Rattle.set_meaning.specs.declared.rows.Sort.TheVariants.{Boolean, Integer, IntegerSet}
use Rattle.set_meaning.specs.Kinds.{InKind, IsSetWithin}
use Rattle.set_meaning.specs.Rows.{HasSort, sort_of_kind}
use Rattle.set_meaning.specs.Arguments.{set_in, int_in, bool_in, set_of_term, int_of_term, bool_of_term, each_of, cons_some}
use Rattle.set_meaning.specs.Relations.{variable_of}
use Rattle.linear_terms.specs.Terms.{number_of, number_at}
use Rattle.int_channel.specs.Forms.{IsInitialValue, HaveValues}
use Rattle.int_channel.specs.Choices.{number_of_term, number_of_constant, AreAmong}
use Rattle.int_channel.proofs.ChoiceSums.{variables_have}

-- ---- values of kinds

int_in_kind : (x : Value) (k : Kind) → sort_of_kind k ≡ Integer → InKind k x → (n : ℤ) × (x ≡ value.Int n)
unfolding InKind
int_in_kind x kind.Bool e h = absurd (cc)
int_in_kind x (kind.Set u) e h = absurd (cc)
int_in_kind (value.Bool b) (kind.Int numbers) e h = absurd h
int_in_kind (value.Int n) (kind.Int numbers) e h = (n, refl)
int_in_kind (value.Set s) (kind.Int numbers) e h = absurd h

bool_in_kind : (x : Value) (k : Kind) → sort_of_kind k ≡ Boolean → InKind k x → (b : Bool) × (x ≡ value.Bool b)
unfolding InKind
bool_in_kind x (kind.Int numbers) e h = absurd (cc)
bool_in_kind x (kind.Set u) e h = absurd (cc)
bool_in_kind (value.Bool b) kind.Bool e h = (b, refl)
bool_in_kind (value.Int n) kind.Bool e h = absurd h
bool_in_kind (value.Set s) kind.Bool e h = absurd h

value_in_kind : (sort : Sort) (x : Value) (o : Option Kind) → option_map sort_of_kind o ≡ Some sort → IsSomeAnd o (λ k. InKind k x) → (k : Kind) × (sort_of_kind k ≡ sort) × InKind k x
value_in_kind sort x None e h = absurd h
value_in_kind sort x (Some k) e h = (k, let f : Some (sort_of_kind k) ≡ Some sort = e in cc, h)

pub value_there : (kinds : List Kind) (x : VarId) (o : Option Value) → IsSomeAnd o (IsInitialValue kinds x) → (y : Value) × (o ≡ Some y) × IsInitialValue kinds x y
value_there kinds x None h = absurd h
value_there kinds x (Some y) h = (y, refl, h)

-- ---- what a term counts

-- a term that is among those whose variables have values
pub record IsKnown (kinds : List Kind) (values : List Value) (t : Term) : Type 0 where
  pub value : (x : VarId) → t ≡ Var x → IsSomeAnd (slice_get values x.0) (IsInitialValue kinds x)

pub known : (kinds : List Kind) (terms : List Term) (values : List Value) (t : Term) → HaveValues kinds (filter_map variable_of terms) values → Contains terms t → IsKnown kinds values t
known kinds terms values t have here = record { value = λ x is. have x (variables_have terms x (subst (Contains terms) is here)) }

pub int_known : (kinds : List Kind) (values : List Value) (t : Term) → HasSort kinds Integer t → IsKnown kinds values t → int_of_term values t ≡ Some (number_of_term values t)
int_known kinds values (Const (value.Bool b)) sort h = absurd sort
int_known kinds values (Const (value.Int n)) sort h = refl
int_known kinds values (Const (value.Set s)) sort h = absurd sort
int_known kinds values (Var x) sort h =
    let y = value_there kinds x (slice_get values x.0) (h.value x refl) in
    let k = value_in_kind Integer y.0 (slice_get kinds x.0) sort y.2 in
    let n = int_in_kind y.0 k.0 k.1 k.2 in
    let is : slice_get values x.0 ≡ Some (value.Int n.0) = y.1 ∙ ap Some n.1 in
    ap (option_and_then int_in) is ∙ sym (ap (λ o. Some (option_map_or number_of o (pos 0))) is)

abbrev pub bit : Bool → ℤ
bit b = if b then pos 1 else pos 0

pub bool_known : (kinds : List Kind) (values : List Value) (t : Term) → HasSort kinds Boolean t → IsKnown kinds values t → (b : Bool) × (bool_of_term values t ≡ Some b) × (number_of_term values t ≡ bit b)
bool_known kinds values (Const (value.Bool b)) sort h = (b, refl, refl)
bool_known kinds values (Const (value.Int n)) sort h = absurd sort
bool_known kinds values (Const (value.Set s)) sort h = absurd sort
bool_known kinds values (Var x) sort h =
    let y = value_there kinds x (slice_get values x.0) (h.value x refl) in
    let k = value_in_kind Boolean y.0 (slice_get kinds x.0) sort y.2 in
    let b = bool_in_kind y.0 k.0 k.1 k.2 in
    let is : slice_get values x.0 ≡ Some (value.Bool b.0) = y.1 ∙ ap Some b.1 in
    (b.0, ap (option_and_then bool_in) is, ap (λ o. option_map_or number_of o (pos 0)) is)

-- ---- arrays

pub ints_known : (kinds : List Kind) (values : List Value) (ts : List Term) → All (HasSort kinds Integer) ts → All (IsKnown kinds values) ts → each_of (int_of_term values) ts ≡ Some (map (number_of_term values) ts)
ints_known kinds values [] sorts h = refl
ints_known kinds values (t ∷ ts) sorts h =
    let first = int_known kinds values t (All-head (HasSort kinds Integer) t ts sorts) (All-head (IsKnown kinds values) t ts h) in
    let rest = ints_known kinds values ts (All-tail (HasSort kinds Integer) t ts sorts) (All-tail (IsKnown kinds values) t ts h) in
    ap (λ o. cons_some o (each_of (int_of_term values) ts)) first ∙ ap (cons_some (Some (number_of_term values t))) rest

pub bools_known : (kinds : List Kind) (values : List Value) (ts : List Term) → All (HasSort kinds Boolean) ts → All (IsKnown kinds values) ts
    → (bs : List Bool) × (each_of (bool_of_term values) ts ≡ Some bs) × (map (number_of_term values) ts ≡ map bit bs)
bools_known kinds values [] sorts h = ([], refl, refl)
bools_known kinds values (t ∷ ts) sorts h =
    let first = bool_known kinds values t (All-head (HasSort kinds Boolean) t ts sorts) (All-head (IsKnown kinds values) t ts h) in
    let rest = bools_known kinds values ts (All-tail (HasSort kinds Boolean) t ts sorts) (All-tail (IsKnown kinds values) t ts h) in (
      first.0 ∷ rest.0,
      ap (λ o. cons_some o (each_of (bool_of_term values) ts)) first.1 ∙ ap (cons_some (Some first.0)) rest.1,
      ap (λ x. x ∷ map (number_of_term values) ts) first.2 ∙ ap (λ xs. bit first.0 ∷ xs) rest.2,
    )
