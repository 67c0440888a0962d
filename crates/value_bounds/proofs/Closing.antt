-- The values of the words that bound a domain are its bounds.
use Rattle.std.proofs.Common.{◌≡◌, Bool, true, List, length, ℤ, refl, sym, ap, ◌∙◌, subst, Some}
use Rattle.std.specs.Prelude.{slice_get, IsSomeAnd}
use Rattle.set_meaning.specs.declared.kinds.Value.{Value}
use Rattle.set_meaning.specs.declared.kinds.Value.TheVariants as value
use Rattle.set_meaning.specs.declared.kinds.Kind.{Kind}
use Rattle.set_meaning.specs.declared.kinds.Kind.TheVariants as kind
use Rattle.set_meaning.specs.declared.problems.VarId.{VarId}
use Rattle.set_meaning.specs.declared.problems.Bounds.{Bounds}
use Rattle.set_meaning.specs.declared.problems.Bounds.TheVariants as bounds
use Rattle.set_meaning.specs.Kinds.{InKind}
use Rattle.bit_layout.specs.Words.{IsValueOf}
use Rattle.bit_layout.specs.Order.{LayoutState, IsLayout, width_at, IsValueAt}
use Rattle.bit_layout.proofs.ValuesAt.{width_is, one_value_at, set_at}
use Rattle.diagram_view.specs.declared.word_bounds.WordBounds.{WordBounds}
use Rattle.diagram_view.specs.Words.{ListWords, IsWord}
use Rattle.exact_steps.proofs.Values.{some_and}
use Rattle.value_bounds.specs.Bounds.{AreTruthBounds, AreNumberBounds, AreSetBounds, AreBoundsOf}
use Rattle.value_bounds.specs.Work.{AreBoundsOfWords, HaveValues, HasValueAt, AreLong, AreEnds}
use Rattle.value_bounds.proofs.Orders.{truths_in_order, numbers_in_order}
use Rattle.value_bounds.proofs.Membership.{IsSetWord, HaveSets, sets_bound}

-- ---- values of a kind

truth_of : (word : List Bool) (x : Value) → IsValueOf kind.Bool word x → (b : Bool) × IsValueOf kind.Bool word (value.Bool b)
unfolding InKind
truth_of word (value.Bool b) h = (b, h)
truth_of word (value.Int x) h = absurd h.in_kind
truth_of word (value.Set s) h = absurd h.in_kind

number_of : (ns : List ℤ) (word : List Bool) (x : Value) → IsValueOf (kind.Int ns) word x → (n : ℤ) × IsValueOf (kind.Int ns) word (value.Int n)
unfolding InKind
number_of ns word (value.Bool b) h = absurd h.in_kind
number_of ns word (value.Int x) h = (x, h)
number_of ns word (value.Set s) h = absurd h.in_kind

at_kind : (l : LayoutState) (v : VarId) (k : Kind) (word : List Bool) (x : Value) → slice_get l.kinds v.0 ≡ Some k → IsValueAt l v word x → IsValueOf k word x
at_kind l v k word x e h = subst (λ o. IsSomeAnd o (λ k. IsValueOf k word x)) e h

from_kind : (l : LayoutState) (v : VarId) (k : Kind) (word : List Bool) (x : Value) → slice_get l.kinds v.0 ≡ Some k → IsValueOf k word x → IsValueAt l v word x
from_kind l v k word x e h = subst (λ o. IsSomeAnd o (λ k. IsValueOf k word x)) (sym e) h

pub truth_there : (l : LayoutState) (v : VarId) (word : List Bool) → slice_get l.kinds v.0 ≡ Some kind.Bool → HasValueAt l v word → (b : Bool) × IsValueAt l v word (value.Bool b)
truth_there l v word e h = let r = truth_of word h.0 (at_kind l v kind.Bool word h.0 e h.1) in (r.0, from_kind l v kind.Bool word (value.Bool r.0) e r.1)

pub number_there : (l : LayoutState) (v : VarId) (ns : List ℤ) (word : List Bool) → slice_get l.kinds v.0 ≡ Some (kind.Int ns) → HasValueAt l v word → (n : ℤ) × IsValueAt l v word (value.Int n)
number_there l v ns word e h = let r = number_of ns word h.0 (at_kind l v (kind.Int ns) word h.0 e h.1) in (r.0, from_kind l v (kind.Int ns) word (value.Int r.0) e r.1)

pub set_there : (l : LayoutState) (v : VarId) (u : List ℤ) (word : List Bool) → IsLayout l → slice_get l.kinds v.0 ≡ Some (kind.Set u) → length word ≡ width_at l v → (s : List ℤ) × IsValueAt l v word (value.Set s)
set_there l v u word ok e long = set_at l v u word ok e (long ∙ width_is l v (kind.Set u) e)

-- ---- values that pass

passes : (l : LayoutState) (v : VarId) (f : Value → Bool) (W : ListWords) (word : List Bool) (x : Value) → IsLayout l → HaveValues l v f W → IsWord W word → IsValueAt l v word x → f x ≡ true
passes l v f W word x ok values is at =
    let r = values.valued word is in
    subst (λ y. f y ≡ true) (one_value_at l v word r.0 x ok r.1 at) r.2

truths_bound : (l : LayoutState) (v : VarId) (f : Value → Bool) (W : ListWords) (b : WordBounds) (low high : Bool) → IsLayout l → HaveValues l v f W → AreBoundsOfWords W b
    → IsValueAt l v b.least.items (value.Bool low) → IsValueAt l v b.greatest.items (value.Bool high) → AreTruthBounds f low high
truths_bound l v f W b low high ok values are p q = record {
  low_in = passes l v f W b.least.items (value.Bool low) ok values are.least_is.is p;
  high_in = passes l v f W b.greatest.items (value.Bool high) ok values are.greatest_is.is q;
  least = λ x h. let r = values.spelled (value.Bool x) h in truths_in_order l v b.least.items r.0 low x p r.2 (are.least_is.least r.0 r.1);
  greatest = λ x h. let r = values.spelled (value.Bool x) h in truths_in_order l v r.0 b.greatest.items x high r.2 q (are.greatest_is.greatest r.0 r.1);
}

numbers_bound : (l : LayoutState) (v : VarId) (f : Value → Bool) (W : ListWords) (b : WordBounds) (low high : ℤ) → IsLayout l → HaveValues l v f W → AreBoundsOfWords W b
    → IsValueAt l v b.least.items (value.Int low) → IsValueAt l v b.greatest.items (value.Int high) → AreNumberBounds f low high
numbers_bound l v f W b low high ok values are p q = record {
  low_in = passes l v f W b.least.items (value.Int low) ok values are.least_is.is p;
  high_in = passes l v f W b.greatest.items (value.Int high) ok values are.greatest_is.is q;
  least = λ x h. let r = values.spelled (value.Int x) h in numbers_in_order l v b.least.items r.0 low x ok p r.2 (are.least_is.least r.0 r.1);
  greatest = λ x h. let r = values.spelled (value.Int x) h in numbers_in_order l v r.0 b.greatest.items x high ok r.2 q (are.greatest_is.greatest r.0 r.1);
}

-- ---- sets

universe_of : (k : Kind) (word : List Bool) (s : List ℤ) → IsValueOf k word (value.Set s) → (u : List ℤ) × (k ≡ kind.Set u)
unfolding InKind
universe_of kind.Bool word s h = absurd h.in_kind
universe_of (kind.Int ns) word s h = absurd h.in_kind
universe_of (kind.Set u) word s h = (u, refl)

set_word : (u : List ℤ) (word : List Bool) (s : List ℤ) → IsValueOf (kind.Set u) word (value.Set s) → IsSetWord u word s
unfolding InKind
set_word u word s h = record { lies = h.in_kind; bits = h.is_word }

a_set : (u : List ℤ) (word : List Bool) (x : Value) (f : Value → Bool) → IsValueOf (kind.Set u) word x → f x ≡ true → (s : List ℤ) × (f (value.Set s) ≡ true) × IsSetWord u word s
unfolding InKind
a_set u word (value.Bool b) f h passing = absurd h.in_kind
a_set u word (value.Int x) f h passing = absurd h.in_kind
a_set u word (value.Set s) f h passing = (s, passing, record { lies = h.in_kind; bits = h.is_word })

have_sets : (l : LayoutState) (v : VarId) (u : List ℤ) (f : Value → Bool) (W : ListWords) → slice_get l.kinds v.0 ≡ Some (kind.Set u) → HaveValues l v f W → HaveSets u f W
have_sets l v u f W e values = record {
  valued = λ word is. let r = values.valued word is in a_set u word r.0 f (at_kind l v (kind.Set u) word r.0 e r.1) r.2;
  spelled = λ s passing. let r = values.spelled (value.Set s) passing in (r.0, r.1, set_word u r.0 s (at_kind l v (kind.Set u) r.0 (value.Set s) e r.2));
}

sets_are_bounds : (l : LayoutState) (v : VarId) (f : Value → Bool) (W : ListWords) (b : WordBounds) (every some : List ℤ) → HaveValues l v f W → AreBoundsOfWords W b
    → IsValueAt l v b.every.items (value.Set every) → IsValueAt l v b.some.items (value.Set some) → AreSetBounds f every some
sets_are_bounds l v f W b every some values are p q =
    let k = some_and (slice_get l.kinds v.0) (λ k. IsValueOf k b.every.items (value.Set every)) p in
    let u = universe_of k.0 b.every.items every k.2 in
    let e : slice_get l.kinds v.0 ≡ Some (kind.Set u.0) = k.1 ∙ ap Some u.1 in
    let sets = have_sets l v u.0 f W e values in
    let one = sets.valued b.least.items are.least_is.is in
    sets_bound u.0 f W b.every.items b.some.items every some sets (one.0, one.1) are.every_is are.some_is
    (set_word u.0 b.every.items every (at_kind l v (kind.Set u.0) b.every.items (value.Set every) e p))
    (set_word u.0 b.some.items some (at_kind l v (kind.Set u.0) b.some.items (value.Set some) e q))

-- ---- all

pub ends_are_bounds : (l : LayoutState) (v : VarId) (f : Value → Bool) (W : ListWords) (b : WordBounds) (x : Bounds) → IsLayout l → HaveValues l v f W → AreBoundsOfWords W b → AreEnds l v b x → AreBoundsOf f x
ends_are_bounds l v f W b (bounds.Bool low high) ok values are at = truths_bound l v f W b low high ok values are at.0 at.1
ends_are_bounds l v f W b (bounds.Int low high) ok values are at = numbers_bound l v f W b low high ok values are at.0 at.1
ends_are_bounds l v f W b (bounds.Set every some) ok values are at = sets_are_bounds l v f W b every some values are at.0 at.1

-- the bounds of the words have values, and a bit for each position
pub word_has_value : (l : LayoutState) (v : VarId) (f : Value → Bool) (W : ListWords) (word : List Bool) → HaveValues l v f W → IsWord W word → HasValueAt l v word
word_has_value l v f W word values is = let r = values.valued word is in (r.0, r.1)

pub words_long : (l : LayoutState) (v : VarId) (W : ListWords) (b : WordBounds) → W.long ≡ width_at l v → AreBoundsOfWords W b → AreLong l v b
words_long l v W b long are = record {
  every_long = are.every_is.long ∙ long;
  some_long = are.some_is.long ∙ long;
  least_long = are.least_is.is.long ∙ long;
  greatest_long = are.greatest_is.is.long ∙ long;
}
