-- A cardinality as a linear sum of what its arguments count.
use Rattle.std.proofs.Common.{◌≡◌, ◌<◌, ◌≤◌, ◌^◌, ◌↔◌, ℤ, pos, negsuc, ◌+ℤ◌, ◌*ℤ◌, unsigned_abs, List, [], ◌∷◌, map, length, Option, Some, None, refl, sym, ap, ◌∙◌, subst, arith}
use Rattle.std.specs.Prelude.{◌-ℤ◌, slice_get, IsSomeAnd, option_map, option_and_then, ⊤}
use Rattle.std.specs.Option.{option_map_or}
use Rattle.std.specs.List.{All, AllZip}
use Rattle.std.proofs.lemmas.Int.{ints}
use Rattle.std.proofs.lemmas.Option.{slice_get_within}
use Rattle.std.proofs.lemmas.List.Elements.{All-cons}
use Rattle.diagram_arena.specs.Table.{Word}
use Rattle.set_meaning.specs.declared.kinds.Kind.{Kind}
use Rattle.set_meaning.specs.declared.kinds.Kind.TheVariants as kind
use Rattle.set_meaning.specs.declared.kinds.Value.{Value}
use Rattle.set_meaning.specs.declared.kinds.Value.TheVariants as value
use Rattle.set_meaning.specs.declared.problems.VarId.{VarId}
use Rattle.set_meaning.specs.declared.problems.Term.{Term}
use Rattle.set_meaning.specs.declared.problems.Term.TheVariants.{Const, Var}
use Rattle.set_meaning.specs.declared.problems.Arg.{Arg}
use Rattle.set_meaning.specs.declared.problems.Arg.TheVariants.{One, Many}
use Rattle.set_meaning.specs.declared.problems.Relation.TheVariants.{SetCard}
use Rattle.set_meaning.specs.declared.rows.Sort.{Sort}
use Rattle.set_meaning.specs.declared.rows.Sort.TheVariants.{Integer, IntegerSet}
use Rattle.set_meaning.specs.Kinds.{InKind}
use Rattle.set_meaning.specs.Rows.{HasSort, HasShape, sort_of_kind, row_of, shapes_of}
use Rattle.set_meaning.specs.Arguments.{set_in, int_in, set_of_term, int_of_term, OfTwo}
use Rattle.set_meaning.specs.Relations.{HoldsOf}
use Rattle.bit_layout.specs.Words.{IsValueOf}
use Rattle.bit_layout.specs.Order.{LayoutState, IsValueAt}
use Rattle.bit_layout.proofs.Rising.{in_head, in_tail}
use Rattle.scope_words.specs.Words.{read, Gives, variables_in}
use Rattle.linear_machine.specs.declared.comparison.Comparison.TheVariants.{Equal}
use Rattle.linear_machine.specs.Sums.{Compares}
use Rattle.linear_terms.specs.declared.terms.LinearTerm.{LinearTerm}
use Rattle.linear_terms.specs.Terms.{AreTermsSmall, number_of, number_at, linear_sum}
use Rattle.card_diagram.specs.Sums.{card_terms, card_constant}

-- the arguments of a cardinality
abbrev pub FitsCard : List Kind → List Arg → Type 0
FitsCard kinds args = AllZip (HasShape kinds) (shapes_of (row_of SetCard)) args

abbrev pub variables_of_terms : List LinearTerm → List VarId
variables_of_terms terms = map (λ t. t.variable) terms

-- ---- the terms of the sum

pub card_scope : (kinds : List Kind) (args : List Arg) → FitsCard kinds args → variables_of_terms (card_terms args) ≡ variables_in args
card_scope kinds [] h = absurd h
card_scope kinds (a ∷ []) h = absurd h.1
card_scope kinds (One (Const u) ∷ One (Const v) ∷ []) h = refl
card_scope kinds (One (Const u) ∷ One (Var y) ∷ []) h = refl
card_scope kinds (One (Var x) ∷ One (Const v) ∷ []) h = refl
card_scope kinds (One (Var x) ∷ One (Var y) ∷ []) h = refl
card_scope kinds (One a ∷ Many b ∷ []) h = absurd h.1.0
card_scope kinds (Many a ∷ b ∷ []) h = absurd h.0
card_scope kinds (a ∷ b ∷ c ∷ args) h = absurd h.1.1

variable_known : (kinds : List Kind) (sort : Sort) (x : VarId) → HasSort kinds sort (Var x) → x.0 < length kinds
variable_known kinds sort x h =
    elim (slice_get kinds x.0) as (λ o. slice_get kinds x.0 ≡ o → option_map sort_of_kind o ≡ Some sort → x.0 < length kinds) [
      | None ↦ λ e h. absurd (let f : None ≡ Some sort = h in cc)
      | Some k ↦ λ e h. slice_get_within kinds x.0 k e
    ] refl h

no_terms : (P : LinearTerm → Type 0) → All P []
no_terms P k d within = absurd (omega (arith, within))

-- what holds of each term
all_terms : (P : LinearTerm → Type 0) (kinds : List Kind) (args : List Arg) → FitsCard kinds args
    → ((c : ℤ) (x : VarId) → unsigned_abs c ≤ 1 → x.0 < length kinds → P record { coefficient = c; variable = x }) → All P (card_terms args)
all_terms P kinds [] h each = absurd h
all_terms P kinds (a ∷ []) h each = absurd h.1
all_terms P kinds (One (Const u) ∷ One (Const v) ∷ []) h each = no_terms P
all_terms P kinds (One (Const u) ∷ One (Var y) ∷ []) h each =
    All-cons P record { coefficient = negsuc 0; variable = y } [] (each (negsuc 0) y (omega arith) (variable_known kinds Integer y h.1.0)) (no_terms P)
all_terms P kinds (One (Var x) ∷ One (Const v) ∷ []) h each =
    All-cons P record { coefficient = pos 1; variable = x } [] (each (pos 1) x (omega arith) (variable_known kinds IntegerSet x h.0)) (no_terms P)
all_terms P kinds (One (Var x) ∷ One (Var y) ∷ []) h each =
    All-cons P record { coefficient = pos 1; variable = x } (record { coefficient = negsuc 0; variable = y } ∷ []) (each (pos 1) x (omega arith) (variable_known kinds IntegerSet x h.0))
    (All-cons P record { coefficient = negsuc 0; variable = y } [] (each (negsuc 0) y (omega arith) (variable_known kinds Integer y h.1.0)) (no_terms P))
all_terms P kinds (One a ∷ Many b ∷ []) h each = absurd h.1.0
all_terms P kinds (Many a ∷ b ∷ []) h each = absurd h.0
all_terms P kinds (a ∷ b ∷ c ∷ args) h each = absurd h.1.1

two_terms : (kinds : List Kind) (args : List Arg) → FitsCard kinds args → length (card_terms args) ≤ 2
two_terms kinds [] h = absurd h
two_terms kinds (a ∷ []) h = absurd h.1
two_terms kinds (One (Const u) ∷ One (Const v) ∷ []) h = omega arith
two_terms kinds (One (Const u) ∷ One (Var y) ∷ []) h = omega arith
two_terms kinds (One (Var x) ∷ One (Const v) ∷ []) h = omega arith
two_terms kinds (One (Var x) ∷ One (Var y) ∷ []) h = omega arith
two_terms kinds (One a ∷ Many b ∷ []) h = absurd h.1.0
two_terms kinds (Many a ∷ b ∷ []) h = absurd h.0
two_terms kinds (a ∷ b ∷ c ∷ args) h = absurd h.1.1

pub terms_known : (kinds : List Kind) (args : List Arg) → FitsCard kinds args → All (λ (t : LinearTerm). t.variable.0 < length kinds) (card_terms args)
terms_known kinds args h = all_terms (λ t. t.variable.0 < length kinds) kinds args h (λ c x small known. known)

pub terms_small : (kinds : List Kind) (args : List Arg) (constant : ℤ) → FitsCard kinds args → unsigned_abs constant ≤ 2 ^ 100 → AreTermsSmall (card_terms args) constant
terms_small kinds args constant h size =
    let long = two_terms kinds args h in
    record {
      coefficients = all_terms (λ t. unsigned_abs t.coefficient ≤ 1000000000) kinds args h (λ c x small known. omega (arith, small));
      few = omega (arith, long);
      constant_size = size;
    }

-- ---- what a term counts

abbrev number_of_term : List Value → Term → ℤ
number_of_term values (Const v) = number_of v
number_of_term values (Var x) = number_at values x

-- the value of the term's variable, where it is one, is that of the word
abbrev IsGiven : LayoutState → List Value → Word → Term → Type 0
IsGiven l values w (Const v) = ⊤
IsGiven l values w (Var x) = IsSomeAnd (slice_get values x.0) (IsValueAt l x (read l x w))

two_given : (l : LayoutState) (values : List Value) (w : Word) (a n : Term) → Gives l (variables_in (One a ∷ One n ∷ [])) values w → IsGiven l values w a × IsGiven l values w n
two_given l values w (Const u) (Const v) g = (tt, tt)
two_given l values w (Const u) (Var y) g = (tt, g y (in_head y []))
two_given l values w (Var x) (Const v) g = (g x (in_head x []), tt)
two_given l values w (Var x) (Var y) g = (g x (in_head x (y ∷ [])), g y (in_tail x (y ∷ []) y (in_head y [])))

set_in_kind : (x : Value) (k : Kind) → sort_of_kind k ≡ IntegerSet → InKind k x → (s : List ℤ) × (x ≡ value.Set s)
unfolding InKind
set_in_kind x kind.Bool e h = absurd (cc)
set_in_kind x (kind.Int numbers) e h = absurd (cc)
set_in_kind (value.Bool b) (kind.Set u) e h = absurd h
set_in_kind (value.Int n) (kind.Set u) e h = absurd h
set_in_kind (value.Set s) (kind.Set u) e h = (s, refl)

int_in_kind : (x : Value) (k : Kind) → sort_of_kind k ≡ Integer → InKind k x → (n : ℤ) × (x ≡ value.Int n)
unfolding InKind
int_in_kind x kind.Bool e h = absurd (cc)
int_in_kind x (kind.Set u) e h = absurd (cc)
int_in_kind (value.Bool b) (kind.Int numbers) e h = absurd h
int_in_kind (value.Int n) (kind.Int numbers) e h = (n, refl)
int_in_kind (value.Set s) (kind.Int numbers) e h = absurd h

-- the kind of a variable whose value is given
value_in_kind : (sort : Sort) (word : List Rattle.std.specs.Prelude.Bool) (x : Value) (o : Option Kind) → option_map sort_of_kind o ≡ Some sort → IsSomeAnd o (λ k. IsValueOf k word x) → (k : Kind) × (sort_of_kind k ≡ sort) × InKind k x
value_in_kind sort word x None e h = absurd h
value_in_kind sort word x (Some k) e h = (k, let f : Some (sort_of_kind k) ≡ Some sort = e in cc, h.in_kind)

value_given : (l : LayoutState) (values : List Value) (w : Word) (x : VarId) (o : Option Value) → slice_get values x.0 ≡ o → IsSomeAnd o (IsValueAt l x (read l x w))
    → (y : Value) × (slice_get values x.0 ≡ Some y) × IsValueAt l x (read l x w) y
value_given l values w x None e h = absurd h
value_given l values w x (Some y) e h = (y, e, h)

set_given : (l : LayoutState) (values : List Value) (w : Word) (t : Term) → HasSort l.kinds IntegerSet t → IsGiven l values w t → (s : List ℤ) × (set_of_term values t ≡ Some s) × (number_of_term values t ≡ pos (length s))
set_given l values w (Const (value.Bool b)) sort h = absurd sort
set_given l values w (Const (value.Int n)) sort h = absurd sort
set_given l values w (Const (value.Set s)) sort h = (s, refl, refl)
set_given l values w (Var x) sort h =
    let y = value_given l values w x (slice_get values x.0) refl h in
    let k = value_in_kind IntegerSet (read l x w) y.0 (slice_get l.kinds x.0) sort y.2 in
    let s = set_in_kind y.0 k.0 k.1 k.2 in
    let is : slice_get values x.0 ≡ Some (value.Set s.0) = y.1 ∙ ap Some s.1 in
    (s.0, ap (option_and_then set_in) is, ap (λ o. option_map_or number_of o (pos 0)) is)

int_given : (l : LayoutState) (values : List Value) (w : Word) (t : Term) → HasSort l.kinds Integer t → IsGiven l values w t → (n : ℤ) × (int_of_term values t ≡ Some n) × (number_of_term values t ≡ n)
int_given l values w (Const (value.Bool b)) sort h = absurd sort
int_given l values w (Const (value.Int n)) sort h = (n, refl, refl)
int_given l values w (Const (value.Set s)) sort h = absurd sort
int_given l values w (Var x) sort h =
    let y = value_given l values w x (slice_get values x.0) refl h in
    let k = value_in_kind Integer (read l x w) y.0 (slice_get l.kinds x.0) sort y.2 in
    let n = int_in_kind y.0 k.0 k.1 k.2 in
    let is : slice_get values x.0 ≡ Some (value.Int n.0) = y.1 ∙ ap Some n.1 in
    (n.0, ap (option_and_then int_in) is, ap (λ o. option_map_or number_of o (pos 0)) is)

-- ---- the sum of a word's values

sum_of_two : (values : List Value) (a n : Term)
    → (card_constant (One a ∷ One n ∷ []) +ℤ linear_sum (card_terms (One a ∷ One n ∷ [])) values) ≡ number_of_term values a -ℤ number_of_term values n
sum_of_two values (Const u) (Const v) = none (number_of u) (number_of v)
  where
    none : (a n : ℤ) → ((a -ℤ n) +ℤ pos 0) ≡ a -ℤ n
    none a n = omega (arith, ints)
sum_of_two values (Const u) (Var y) = second (number_of u) (number_at values y)
  where
    second : (a n : ℤ) → ((a -ℤ pos 0) +ℤ ((negsuc 0 *ℤ n) +ℤ pos 0)) ≡ a -ℤ n
    second a n = omega (arith, ints)
sum_of_two values (Var x) (Const v) = first (number_at values x) (number_of v)
  where
    first : (a n : ℤ) → ((pos 0 -ℤ n) +ℤ ((pos 1 *ℤ a) +ℤ pos 0)) ≡ a -ℤ n
    first a n = omega (arith, ints)
sum_of_two values (Var x) (Var y) = both (number_at values x) (number_at values y)
  where
    both : (a n : ℤ) → ((pos 0 -ℤ pos 0) +ℤ ((pos 1 *ℤ a) +ℤ ((negsuc 0 *ℤ n) +ℤ pos 0))) ≡ a -ℤ n
    both a n = omega (arith, ints)

of_two : (T : Type 0) (p : Option (List ℤ)) (q : Option ℤ) (a : List ℤ) (n : ℤ) → p ≡ Some a → q ≡ Some n → T ↔ (n ≡ pos (length a)) → T ↔ OfTwo (λ a n. n ≡ pos (length a)) p q
of_two T p q a n e f h =
    subst (λ p. T ↔ OfTwo (λ a n. n ≡ pos (length a)) p q) (sym e) (subst (λ q. T ↔ OfTwo (λ a n. n ≡ pos (length a)) (Some a) q) (sym f) h)

is_zero : (sum a n x size : ℤ) → sum ≡ a -ℤ n → a ≡ size → n ≡ x → (sum ≡ pos 0) ↔ (x ≡ size)
is_zero sum a n x size e f g = (λ h. omega (arith, ints), λ h. omega (arith, ints))

-- for values that a word gives, the relation says that the sum is 0
pub card_is_sum : (l : LayoutState) (args : List Arg) (values : List Value) (w : Word) → FitsCard l.kinds args → Gives l (variables_in args) values w
    → Compares Equal (card_constant args +ℤ linear_sum (card_terms args) values) ↔ HoldsOf SetCard args values
unfolding HoldsOf
card_is_sum l [] values w h g = absurd h
card_is_sum l (a ∷ []) values w h g = absurd h.1
card_is_sum l (One a ∷ One n ∷ []) values w h g =
    let given = two_given l values w a n g in
    let s = set_given l values w a h.0 given.0 in
    let x = int_given l values w n h.1.0 given.1 in
    let sum = card_constant (One a ∷ One n ∷ []) +ℤ linear_sum (card_terms (One a ∷ One n ∷ [])) values in
    of_two (sum ≡ pos 0) (set_of_term values a) (int_of_term values n) s.0 x.0 s.1 x.1
    (is_zero sum (number_of_term values a) (number_of_term values n) x.0 (pos (length s.0)) (sum_of_two values a n) s.2 x.2)
card_is_sum l (One a ∷ Many b ∷ []) values w h g = absurd h.1.0
card_is_sum l (Many a ∷ b ∷ []) values w h g = absurd h.0
card_is_sum l (a ∷ b ∷ c ∷ args) values w h g = absurd h.1.1
