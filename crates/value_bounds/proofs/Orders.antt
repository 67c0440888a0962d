-- Words of Booleans and of integers in the order of their values.
use Rattle.std.proofs.Common.{◌≡◌, ℕ, ◌+◌, ◌≤◌, ◌^◌, Bool, true, false, IsTrue, List, [], ◌∷◌, length, ℤ, pos, ◌+ℤ◌, refl, sym, ap, ◌∙◌, subst, arith, Some, None}
use Rattle.std.specs.Prelude.{◌≤ℤ◌, slice_get, IsSomeAnd}
use Rattle.std.proofs.lemmas.Int.{ints}
use Rattle.set_meaning.specs.declared.kinds.Value.TheVariants as value
use Rattle.set_meaning.specs.declared.kinds.Kind.{Kind}
use Rattle.set_meaning.specs.declared.kinds.Kind.TheVariants as kind
use Rattle.set_meaning.specs.declared.problems.VarId.{VarId}
use Rattle.set_meaning.specs.Kinds.{InKind}
use Rattle.set_meaning.specs.Problems.{IsKind}
use Rattle.bit_layout.specs.Words.{number, least, span, distance, bit_width, word_of, IsValueOf}
use Rattle.bit_layout.specs.Order.{LayoutState, IsLayout, IsValueAt}
use Rattle.bit_layout.proofs.Numbers.{number-below, length-binary}
use Rattle.bit_layout.proofs.KindWords.{offset_of_word}
use Rattle.bit_layout.proofs.Finding.{legal_kind}
use Rattle.diagram_view.specs.Bounds.{IsAtMost}

-- ---- Booleans

bits_in_order : (a b : Bool) → IsAtMost (a ∷ []) (b ∷ []) → IsTrue a → IsTrue b
bits_in_order true true most h = h
bits_in_order true false most h = absurd most
bits_in_order false true most h = refl
bits_in_order false false most h = h

truths_of : (k : Kind) (u w : List Bool) (a b : Bool) → IsValueOf k u (value.Bool a) → IsValueOf k w (value.Bool b) → IsAtMost u w → IsTrue a → IsTrue b
unfolding InKind
truths_of kind.Bool u w a b p q most =
    bits_in_order a b (subst (λ x. IsAtMost x (b ∷ [])) (sym p.is_word) (subst (IsAtMost u) (sym q.is_word) most))
truths_of (kind.Int numbers) u w a b p q most = absurd p.in_kind
truths_of (kind.Set universe) u w a b p q most = absurd p.in_kind

-- of words in order the values are in order
pub truths_in_order : (l : LayoutState) (v : VarId) (u w : List Bool) (a b : Bool) → IsValueAt l v u (value.Bool a) → IsValueAt l v w (value.Bool b) → IsAtMost u w → IsTrue a → IsTrue b
truths_in_order l v u w a b p q most =
    elim (slice_get l.kinds v.0) as (λ o. IsSomeAnd o (λ k. IsValueOf k u (value.Bool a)) → IsSomeAnd o (λ k. IsValueOf k w (value.Bool b)) → IsTrue a → IsTrue b) [
      | None ↦ λ p q. absurd p
      | Some k ↦ λ p q. truths_of k u w a b p q most
    ] p q

-- ---- integers

number_at_most : (u w : List Bool) → length u ≡ length w → IsAtMost u w → number u ≤ number w
number_at_most [] [] long most = omega arith
number_at_most [] (b ∷ w) long most = absurd (omega (arith, long))
number_at_most (a ∷ u) [] long most = absurd most
number_at_most (false ∷ u) (false ∷ w) long most = let h = number_at_most u w (omega (arith, long)) most in omega (arith, h)
number_at_most (false ∷ u) (true ∷ w) long most =
    let h = number-below u in
    let e : 2 ^ length u ≡ 2 ^ length w = ap (λ n. 2 ^ n) (let s : length u ≡ length w = omega (arith, long) in s) in omega (arith, h, e)
number_at_most (true ∷ u) (false ∷ w) long most = absurd most
number_at_most (true ∷ u) (true ∷ w) long most =
    let h = number_at_most u w (omega (arith, long)) most in
    let e : 2 ^ length u ≡ 2 ^ length w = ap (λ n. 2 ^ n) (let s : length u ≡ length w = omega (arith, long) in s) in omega (arith, h, e)

above_in_order : (a x y : ℤ) (m n : ℕ) → (a +ℤ pos m) ≡ x → (a +ℤ pos n) ≡ y → m ≤ n → x ≤ℤ y
above_in_order a x y m n p q le = omega (arith, ints, p, q, le)

numbers_of : (k : Kind) (u w : List Bool) (x y : ℤ) → IsKind k → IsValueOf k u (value.Int x) → IsValueOf k w (value.Int y) → IsAtMost u w → x ≤ℤ y
unfolding InKind
numbers_of kind.Bool u w x y legal p q most = absurd p.in_kind
numbers_of (kind.Set universe) u w x y legal p q most = absurd p.in_kind
numbers_of (kind.Int numbers) u w x y legal p q most =
    let wide : (z : ℤ) (word : List Bool) → word_of (kind.Int numbers) (value.Int z) ≡ word → length word ≡ bit_width (span numbers) =
    λ z word e. ap length (sym e) ∙ length-binary (bit_width (span numbers)) (distance (least numbers) z) in
    let at : (z : ℤ) (word : List Bool) → IsValueOf (kind.Int numbers) word (value.Int z) → (least numbers +ℤ pos (number word)) ≡ z =
    λ z word is. ap (λ d. least numbers +ℤ pos (number d)) (sym is.is_word) ∙ offset_of_word numbers z legal.0 is.in_kind in
    above_in_order (least numbers) x y (number u) (number w) (at x u p) (at y w q) (number_at_most u w (wide x u p.is_word ∙ sym (wide y w q.is_word)) most)

pub numbers_in_order : (l : LayoutState) (v : VarId) (u w : List Bool) (x y : ℤ) → IsLayout l → IsValueAt l v u (value.Int x) → IsValueAt l v w (value.Int y) → IsAtMost u w → x ≤ℤ y
numbers_in_order l v u w x y ok p q most =
    elim (slice_get l.kinds v.0) as (λ o. slice_get l.kinds v.0 ≡ o → IsSomeAnd o (λ k. IsValueOf k u (value.Int x)) → IsSomeAnd o (λ k. IsValueOf k w (value.Int y)) → x ≤ℤ y) [
      | None ↦ λ e p q. absurd p
      | Some k ↦ λ e p q. numbers_of k u w x y (legal_kind l v.0 k ok e) p q most
    ] refl p q
