-- Words and values of one variable.
use Rattle.std.proofs.Common.{◌≡◌, ◌<◌, ◌↔◌, Bool, ℤ, List, length, Option, Some, None, refl, sym, ap, ◌∙◌, subst}
use Rattle.std.specs.Prelude.{slice_get, IsSomeAnd, Result, Ok, Err, IfOk, IfSome, IfNone}
use Rattle.std.specs.Option.{option_map_or}
use Rattle.std.proofs.lemmas.Option.{slice_get_within}
use Rattle.set_meaning.specs.declared.kinds.Kind.{Kind}
use Rattle.set_meaning.specs.declared.kinds.Kind.TheVariants as kind
use Rattle.set_meaning.specs.declared.problems.VarId.{VarId}
use Rattle.set_meaning.specs.declared.kinds.Value.{Value}
use Rattle.set_meaning.specs.declared.kinds.Value.TheVariants as value
use Rattle.set_meaning.specs.Sets.{ascending_set}
use Rattle.set_meaning.proofs.Ascending.{IsSetOf-ascending_set}
use Rattle.set_meaning.specs.Kinds.{InKind}
use Rattle.set_meaning.specs.Problems.{IsKind}
use Rattle.bit_layout.specs.Words.{width_of, word_of, IsValueOf}
use Rattle.bit_layout.specs.Order.{LayoutState, IsLayout, width_at, IsValueAt}
use Rattle.bit_layout.proofs.Elements.{chosen}
use Rattle.bit_layout.proofs.KindWords.{length-word_of, one_value, set_value}
use Rattle.bit_layout.proofs.Finding.{legal_kind}

-- ---- words of one variable

pub width_is : (l : LayoutState) (v : VarId) (k : Kind) → slice_get l.kinds v.0 ≡ Some k → width_at l v ≡ width_of k
width_is l v k e = ap (λ o. option_map_or width_of o 0) e

pub long_word : (l : LayoutState) (v : VarId) (k : Kind) (x : Value) (word : List Bool) → slice_get l.kinds v.0 ≡ Some k → InKind k x → word ≡ word_of k x → length word ≡ width_at l v
long_word l v k x word e h is = ap length is ∙ length-word_of k x h ∙ sym (width_is l v k e)

pub value_at : (k : Kind) (word : List Bool) (legal : IsKind k) (found : Option Value) → IfSome found (IsValueOf k word) → IfNone found ((x : Value) → IsValueOf k word x → ⊥) → (x : Value) → (found ≡ Some x) ↔ IsValueOf k word x
value_at k word legal None some none x = (λ e. absurd (let f : None ≡ Some x = e in cc), λ h. absurd (none x h))
value_at k word legal (Some y) some none x = (
  λ e. let same : y ≡ x = let f : Some y ≡ Some x = e in cc in subst (IsValueOf k word) same some,
  λ h. ap Some (one_value k word y x legal some h),
)

pub values_at : {E : Type 0} (l : LayoutState) (v : VarId) (k : Kind) (word : List Bool) (r : Result (Option Value) E) → IsLayout l → slice_get l.kinds v.0 ≡ Some k
    → IfOk r (λ found. IfSome found (IsValueOf k word)) → IfOk r (λ found. IfNone found ((x : Value) → IsValueOf k word x → ⊥))
    → IfOk r (λ found. (x : Value) → (found ≡ Some x) ↔ IsValueAt l v word x)
values_at l v k word (Ok found) ok e some none =
    let P : Option Kind → Type 0 = λ o. (x : Value) → (found ≡ Some x) ↔ IsSomeAnd o (λ k. IsValueOf k word x) in
    subst P (sym e) (value_at k word (legal_kind l v.0 k ok e) found some none)
values_at l v k word (Err f) ok e some none = tt

pub none_at_found : (l : LayoutState) (v : VarId) (k : Kind) (word : List Bool) (found : Option Value) → slice_get l.kinds v.0 ≡ Some k → IfNone found ((x : Value) → IsValueOf k word x → ⊥)
    → IfNone found ((x : Value) → IsValueAt l v word x → ⊥)
none_at_found l v k word None e none =
    let P : Option Kind → Type 0 = λ o. (x : Value) → IsSomeAnd o (λ k. IsValueOf k word x) → ⊥ in
    subst P (sym e) none
none_at_found l v k word (Some y) e none = tt

pub none_at : {E : Type 0} (l : LayoutState) (v : VarId) (k : Kind) (word : List Bool) (r : Result (Option Value) E) → slice_get l.kinds v.0 ≡ Some k
    → IfOk r (λ found. IfNone found ((x : Value) → IsValueOf k word x → ⊥)) → IfOk r (λ found. IfNone found ((x : Value) → IsValueAt l v word x → ⊥))
none_at l v k word (Ok found) e none = none_at_found l v k word found e none
none_at l v k word (Err f) e none = tt

-- ---- a value of the variable's kind

pub known_value : (l : LayoutState) (v : VarId) (x : Value) → IsSomeAnd (slice_get l.kinds v.0) (λ k. InKind k x) → v.0 < length l.kinds
known_value l v x h =
    elim (slice_get l.kinds v.0) as (λ o. slice_get l.kinds v.0 ≡ o → IsSomeAnd o (λ k. InKind k x) → v.0 < length l.kinds) [
      | None ↦ λ e h. absurd h
      | Some k ↦ λ e h. slice_get_within l.kinds v.0 k e
    ] refl h

pub kind_value : (l : LayoutState) (v : VarId) (k : Kind) (x : Value) → slice_get l.kinds v.0 ≡ Some k → IsSomeAnd (slice_get l.kinds v.0) (λ k. InKind k x) → InKind k x
kind_value l v k x e h = let P : Option Kind → Type 0 = λ o. IsSomeAnd o (λ k. InKind k x) in subst P e h

pub value_of_word : (l : LayoutState) (v : VarId) (k : Kind) (x : Value) (word : List Bool) → slice_get l.kinds v.0 ≡ Some k → InKind k x → word ≡ word_of k x → IsValueAt l v word x
value_of_word l v k x word e h is =
    let P : Option Kind → Type 0 = λ o. IsSomeAnd o (λ k. IsValueOf k word x) in
    subst P (sym e) record { in_kind = h; is_word = sym is }

pub one_value_at : (l : LayoutState) (v : VarId) (word : List Bool) (x y : Value) → IsLayout l → IsValueAt l v word x → IsValueAt l v word y → x ≡ y
one_value_at l v word x y ok p q =
    elim (slice_get l.kinds v.0) as (λ o. slice_get l.kinds v.0 ≡ o → IsSomeAnd o (λ k. IsValueOf k word x) → IsSomeAnd o (λ k. IsValueOf k word y) → x ≡ y) [
      | None ↦ λ e p q. absurd p
      | Some k ↦ λ e p q. one_value k word x y (legal_kind l v.0 k ok e) p q
    ] refl p q

-- each word of a set's width has a value
pub set_at : (l : LayoutState) (v : VarId) (u : List ℤ) (word : List Bool) → IsLayout l → slice_get l.kinds v.0 ≡ Some (kind.Set u) → length word ≡ length u → (set : List ℤ) × IsValueAt l v word (value.Set set)
set_at l v u word ok e long =
    let set : List ℤ = ascending_set (chosen u word) in
    let P : Option Kind → Type 0 = λ o. IsSomeAnd o (λ k. IsValueOf k word (value.Set set)) in
    (set, subst P (sym e) (set_value u word (chosen u word) set (legal_kind l v.0 (kind.Set u) ok e) long refl (IsSetOf-ascending_set (chosen u word))))
