-- What a term counts, where the variables have values of their kinds.
use Rattle.std.proofs.Common.{◌≡◌, Bool, true, false, ℤ, pos, List, [], ◌∷◌, ◌++◌, map, Option, Some, None, refl, sym, ap, ◌∙◌, subst, inl, inr, Contains}
use Rattle.std.specs.Prelude.{slice_get, IsSomeAnd, option_map, option_and_then, filter_map, if◌then◌else◌, ⊤}
use Rattle.std.specs.Option.{option_map_or}
use Rattle.std.specs.List.{flat_map}
use Rattle.set_meaning.specs.declared.kinds.Kind.{Kind}
use Rattle.set_meaning.specs.declared.kinds.Kind.TheVariants as kind
use Rattle.set_meaning.specs.declared.kinds.Value.{Value}
use Rattle.set_meaning.specs.declared.kinds.Value.TheVariants as value
use Rattle.set_meaning.specs.declared.problems.VarId.{VarId}
use Rattle.set_meaning.specs.declared.problems.Term.{Term}
use Rattle.set_meaning.specs.declared.problems.Term.TheVariants.{Const, Var}
use Rattle.set_meaning.specs.declared.rows.Sort.{Sort}
use Rattle.set_meaning.specs.declared.rows.Sort.TheVariants.{Boolean, Integer, IntegerSet}
use Rattle.set_meaning.specs.Kinds.{InKind}
use Rattle.set_meaning.specs.Rows.{HasSort, sort_of_kind}
use Rattle.set_meaning.specs.Relations.{variable_of}
use Rattle.set_meaning.specs.Arguments.{bool_in, int_in, set_in, bool_of_term, int_of_term, set_of_term}
use Rattle.bit_layout.proofs.Rising.{nothing_in_empty, in_cons, in_head, in_tail}
use Rattle.sweep_sums.specs.Forms.{number_of, number_at}
use Rattle.sweep_sums.specs.Forms.{HaveValues, IsInitialValue}

-- ---- terms over a scope

-- the term's variable, where it is one, stands in the scope
abbrev pub IsTermOver : List VarId → Term → Type 0
IsTermOver scope (Const v) = ⊤
IsTermOver scope (Var x) = Contains scope x

pub over_terms : (ts : List Term) (t : Term) → Contains ts t → IsTermOver (filter_map variable_of ts) t
over_terms ts (Const v) h = tt
over_terms [] (Var y) h = absurd (nothing_in_empty (Var y) h)
over_terms (Const v ∷ ts) (Var y) h =
    elim (in_cons (Const v) ts (Var y) h) [
      | inl same ↦ absurd (cc)
      | inr later ↦ over_terms ts (Var y) later
    ]
over_terms (Var z ∷ ts) (Var y) h =
    elim (in_cons (Var z) ts (Var y) h) [
      | inl same ↦ let e : z ≡ y = cc in subst (Contains (z ∷ filter_map variable_of ts)) e (in_head z (filter_map variable_of ts))
      | inr later ↦ in_tail z (filter_map variable_of ts) y (over_terms ts (Var y) later)
    ]

-- ---- what a term counts

abbrev pub number_of_term : List Value → Term → ℤ
number_of_term values (Const v) = number_of v
number_of_term values (Var x) = number_at values x

bool_in_kind : (x : Value) (k : Kind) → sort_of_kind k ≡ Boolean → InKind k x → (b : Bool) × (x ≡ value.Bool b)
unfolding InKind
bool_in_kind (value.Bool b) kind.Bool e h = (b, refl)
bool_in_kind (value.Int n) kind.Bool e h = absurd h
bool_in_kind (value.Set s) kind.Bool e h = absurd h
bool_in_kind x (kind.Int numbers) e h = absurd (cc)
bool_in_kind x (kind.Set u) e h = absurd (cc)

int_in_kind : (x : Value) (k : Kind) → sort_of_kind k ≡ Integer → InKind k x → (n : ℤ) × (x ≡ value.Int n)
unfolding InKind
int_in_kind x kind.Bool e h = absurd (cc)
int_in_kind x (kind.Set u) e h = absurd (cc)
int_in_kind (value.Bool b) (kind.Int numbers) e h = absurd h
int_in_kind (value.Int n) (kind.Int numbers) e h = (n, refl)
int_in_kind (value.Set s) (kind.Int numbers) e h = absurd h

set_in_kind : (x : Value) (k : Kind) → sort_of_kind k ≡ IntegerSet → InKind k x → (s : List ℤ) × (x ≡ value.Set s)
unfolding InKind
set_in_kind x kind.Bool e h = absurd (cc)
set_in_kind x (kind.Int numbers) e h = absurd (cc)
set_in_kind (value.Bool b) (kind.Set u) e h = absurd h
set_in_kind (value.Int n) (kind.Set u) e h = absurd h
set_in_kind (value.Set s) (kind.Set u) e h = (s, refl)

-- the kind of a variable of a sort, of which a value is given
kind_given : (sort : Sort) (x : Value) (o : Option Kind) → option_map sort_of_kind o ≡ Some sort → IsSomeAnd o (λ k. InKind k x) → (k : Kind) × (sort_of_kind k ≡ sort) × InKind k x
kind_given sort x None e h = absurd h
kind_given sort x (Some k) e h = (k, (let f : Some (sort_of_kind k) ≡ Some sort = e in cc), h)

-- the value of a variable of the scope
pub value_given : (kinds : List Kind) (scope : List VarId) (values : List Value) (sort : Sort) (x : VarId) → HaveValues kinds scope values → Contains scope x → HasSort kinds sort (Var x)
    → (v : Value) × (slice_get values x.0 ≡ Some v) × (k : Kind) × (sort_of_kind k ≡ sort) × InKind k v
value_given kinds scope values sort x have over h =
    elim (slice_get values x.0) as (λ o. slice_get values x.0 ≡ o → IsSomeAnd o (IsInitialValue kinds x) → (v : Value) × (slice_get values x.0 ≡ Some v) × (k : Kind) × (sort_of_kind k ≡ sort) × InKind k v) [
      | None ↦ λ e g. absurd g
      | Some v ↦ λ e g. let r = kind_given sort v (slice_get kinds x.0) h g in (v, e, r.0, r.1, r.2)
    ] refl (have x over)

pub int_term : (kinds : List Kind) (scope : List VarId) (values : List Value) (t : Term) → HaveValues kinds scope values → IsTermOver scope t → HasSort kinds Integer t → int_of_term values t ≡ Some (number_of_term values t)
int_term kinds scope values (Const (value.Bool b)) have over h = absurd h
int_term kinds scope values (Const (value.Int n)) have over h = refl
int_term kinds scope values (Const (value.Set s)) have over h = absurd h
int_term kinds scope values (Var x) have over h =
    let r = value_given kinds scope values Integer x have over h in
    let n = int_in_kind r.0 r.2 r.3 r.4 in
    let is : slice_get values x.0 ≡ Some (value.Int n.0) = r.1 ∙ ap Some n.1 in
    subst (λ o. option_and_then int_in o ≡ Some (option_map_or number_of o (pos 0))) (sym is) refl

pub bool_term : (kinds : List Kind) (scope : List VarId) (values : List Value) (t : Term) → HaveValues kinds scope values → IsTermOver scope t → HasSort kinds Boolean t
    → (b : Bool) × (bool_of_term values t ≡ Some b) × (number_of_term values t ≡ (if b then pos 1 else pos 0))
bool_term kinds scope values (Const (value.Bool b)) have over h = (b, refl, refl)
bool_term kinds scope values (Const (value.Int n)) have over h = absurd h
bool_term kinds scope values (Const (value.Set s)) have over h = absurd h
bool_term kinds scope values (Var x) have over h =
    let r = value_given kinds scope values Boolean x have over h in
    let b = bool_in_kind r.0 r.2 r.3 r.4 in
    let is : slice_get values x.0 ≡ Some (value.Bool b.0) = r.1 ∙ ap Some b.1 in
    (b.0, ap (option_and_then bool_in) is, ap (λ o. option_map_or number_of o (pos 0)) is)

pub set_term : (kinds : List Kind) (scope : List VarId) (values : List Value) (t : Term) → HaveValues kinds scope values → IsTermOver scope t → HasSort kinds IntegerSet t
    → (s : List ℤ) × (set_of_term values t ≡ Some s)
set_term kinds scope values (Const (value.Bool b)) have over h = absurd h
set_term kinds scope values (Const (value.Int n)) have over h = absurd h
set_term kinds scope values (Const (value.Set s)) have over h = (s, refl)
set_term kinds scope values (Var x) have over h =
    let r = value_given kinds scope values IntegerSet x have over h in
    let s = set_in_kind r.0 r.2 r.3 r.4 in
    let is : slice_get values x.0 ≡ Some (value.Set s.0) = r.1 ∙ ap Some s.1 in
    (s.0, ap (option_and_then set_in) is)
