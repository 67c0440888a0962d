-- A sum over terms is the sum of the weights times the numbers of the variables.
use Rattle.std.proofs.Common.{◌≡◌, ℕ, zero, suc, ◌==◌, Bool, true, false, cond, ℤ, pos, negsuc, ◌+ℤ◌, ◌-ℤ◌, ◌*ℤ◌, List, [], ◌∷◌, map, All, Contains, refl, sym, ap, ◌∙◌, subst, inl, inr, arith}
use Rattle.std.specs.declared.cmp.Ordering.TheVariants.{Less}
use Rattle.std.specs.Ordering.{nat_cmp}
use Rattle.std.specs.Cmp.{tied_itself, nat_cmp_total}
use Rattle.std.specs.List.Sorted.{IsStrictlySortedBy}
use Rattle.std.proofs.Math.IntN.{zero-*ℤ, suc_ℤ-*ℤ, pred_ℤ-*ℤ, *ℤ_comm}
use Rattle.std.proofs.lemmas.Int.{ints}
use Rattle.std.proofs.lemmas.Bool.{eqb-true, eqb-false, ne_eqb}
use Rattle.std.proofs.lemmas.List.Elements.{All-head, All-tail, All-from_recursion, All-weaker}
use Rattle.std.proofs.lemmas.Map.Keys.{sorted_head, sorted_tail}
use Rattle.set_meaning.specs.declared.kinds.Value.{Value}
use Rattle.set_meaning.specs.declared.problems.VarId.{VarId}
use Rattle.set_meaning.specs.LinearSums.{sum_of_products}
use Rattle.bit_layout.proofs.Rising.{nothing_in_empty, in_cons}
use Rattle.sweep_sums.specs.declared.forms.LinearTerm.{LinearTerm}
use Rattle.sweep_sums.specs.Forms.{number_at, linear_sum}
use Rattle.sweep_sums.specs.Weights.{part_of, weight_of, weights_of, numbers_at}

not_less : (a b : ℕ) → a ≡ b → nat_cmp a b ≡ Less → ⊥
not_less a b e less = let clash = sym (tied_itself nat_cmp_total a) ∙ ap (nat_cmp a) e ∙ less in absurd (cc)

-- ---- sums of products

nothing_times : (a b : ℤ) → pos zero *ℤ (a +ℤ b) ≡ (pos zero *ℤ a) +ℤ (pos zero *ℤ b)
nothing_times a b = none (pos zero *ℤ (a +ℤ b)) (pos zero *ℤ a) (pos zero *ℤ b) (zero-*ℤ (a +ℤ b)) (zero-*ℤ a) (zero-*ℤ b)
  where
    none : (p q r : ℤ) → p ≡ pos zero → q ≡ pos zero → r ≡ pos zero → p ≡ q +ℤ r
    none p q r e f g = omega (arith, ints)

times_sum : (x a b : ℤ) → x *ℤ (a +ℤ b) ≡ (x *ℤ a) +ℤ (x *ℤ b)
times_sum (pos zero) a b = nothing_times a b
times_sum (pos (suc n)) a b =
    one_more (pos (suc n) *ℤ (a +ℤ b)) (pos n *ℤ (a +ℤ b)) (pos (suc n) *ℤ a) (pos n *ℤ a) (pos (suc n) *ℤ b) (pos n *ℤ b) a b
    (suc_ℤ-*ℤ (pos n) (a +ℤ b)) (suc_ℤ-*ℤ (pos n) a) (suc_ℤ-*ℤ (pos n) b) (times_sum (pos n) a b)
  where
    one_more : (p q r s t u a b : ℤ) → p ≡ q +ℤ (a +ℤ b) → r ≡ s +ℤ a → t ≡ u +ℤ b → q ≡ s +ℤ u → p ≡ r +ℤ t
    one_more p q r s t u a b e f g h = omega (arith, ints)
times_sum (negsuc zero) a b =
    one_less (negsuc zero *ℤ (a +ℤ b)) (pos zero *ℤ (a +ℤ b)) (negsuc zero *ℤ a) (pos zero *ℤ a) (negsuc zero *ℤ b) (pos zero *ℤ b) a b
    (pred_ℤ-*ℤ (pos zero) (a +ℤ b)) (pred_ℤ-*ℤ (pos zero) a) (pred_ℤ-*ℤ (pos zero) b) (nothing_times a b)
  where
    one_less : (p q r s t u a b : ℤ) → p ≡ q -ℤ (a +ℤ b) → r ≡ s -ℤ a → t ≡ u -ℤ b → q ≡ s +ℤ u → p ≡ r +ℤ t
    one_less p q r s t u a b e f g h = omega (arith, ints)
times_sum (negsuc (suc n)) a b =
    one_less (negsuc (suc n) *ℤ (a +ℤ b)) (negsuc n *ℤ (a +ℤ b)) (negsuc (suc n) *ℤ a) (negsuc n *ℤ a) (negsuc (suc n) *ℤ b) (negsuc n *ℤ b) a b
    (pred_ℤ-*ℤ (negsuc n) (a +ℤ b)) (pred_ℤ-*ℤ (negsuc n) a) (pred_ℤ-*ℤ (negsuc n) b) (times_sum (negsuc n) a b)
  where
    one_less : (p q r s t u a b : ℤ) → p ≡ q -ℤ (a +ℤ b) → r ≡ s -ℤ a → t ≡ u -ℤ b → q ≡ s +ℤ u → p ≡ r +ℤ t
    one_less p q r s t u a b e f g h = omega (arith, ints)

sum_times : (a b x : ℤ) → (a +ℤ b) *ℤ x ≡ (a *ℤ x) +ℤ (b *ℤ x)
sum_times a b x = *ℤ_comm (a +ℤ b) x ∙ times_sum x a b ∙ ap (λ z. z +ℤ (x *ℤ b)) (*ℤ_comm x a) ∙ ap (λ z. (a *ℤ x) +ℤ z) (*ℤ_comm x b)

put_together : (p q r c d e : ℤ) → p ≡ q +ℤ r → c ≡ d +ℤ e → p +ℤ c ≡ (q +ℤ d) +ℤ (r +ℤ e)
put_together p q r c d e f h = omega (arith, ints)

-- ---- numbers of the variables, under any weights

module _ (n : VarId → ℤ) where
  abbrev pub weighed : (VarId → ℤ) → List VarId → ℤ
  weighed f vs = sum_of_products (map f vs) (map n vs)

  none_weighed : (f : VarId → ℤ) (vs : List VarId) → All (λ v. f v ≡ pos 0) vs → weighed f vs ≡ pos 0
  none_weighed f [] h = refl
  none_weighed f (v ∷ vs) h = zero_more (f v) (n v) (weighed f vs) (All-head (λ v. f v ≡ pos 0) v vs h) (none_weighed f vs (All-tail (λ v. f v ≡ pos 0) v vs h))
    where
      zero_more : (a b c : ℤ) → a ≡ pos 0 → c ≡ pos 0 → (a *ℤ b) +ℤ c ≡ pos 0
      zero_more a b c e g = ap (λ x. (x *ℤ b) +ℤ c) e ∙ plain b c g
        where
          plain : (b c : ℤ) → c ≡ pos 0 → (pos 0 *ℤ b) +ℤ c ≡ pos 0
          plain b c g = omega (arith, ints)

  both_weighed : (f g : VarId → ℤ) (vs : List VarId) → weighed (λ v. f v +ℤ g v) vs ≡ weighed f vs +ℤ weighed g vs
  both_weighed f g [] = refl
  both_weighed f g (v ∷ vs) = more (f v) (g v) (n v) (weighed (λ v. f v +ℤ g v) vs) (weighed f vs) (weighed g vs) (both_weighed f g vs)
    where
      more : (a b x c d e : ℤ) → c ≡ d +ℤ e → ((a +ℤ b) *ℤ x) +ℤ c ≡ ((a *ℤ x) +ℤ d) +ℤ ((b *ℤ x) +ℤ e)
      more a b x c d e h = put_together ((a +ℤ b) *ℤ x) (a *ℤ x) (b *ℤ x) c d e (sum_times a b x) h

  -- the parts of one term
  no_parts : (t : LinearTerm) (vs : List VarId) → All (λ v. t.variable.0 ≡ v.0 → ⊥) vs → All (λ v. part_of v t ≡ pos 0) vs
  no_parts t vs h = All-weaker (λ v. t.variable.0 ≡ v.0 → ⊥) (λ v. part_of v t ≡ pos 0) (λ v other. ap (λ b. cond b t.coefficient (pos 0)) (ne_eqb t.variable.0 v.0 other)) vs h

  others_apart : (v : VarId) (vs : List VarId) → IsStrictlySortedBy (λ v w. nat_cmp v.0 w.0) (v ∷ vs) → All (λ w. v.0 ≡ w.0 → ⊥) vs
  others_apart v vs up =
      All-weaker (λ (w : VarId). nat_cmp v.0 w.0 ≡ Less) (λ w. v.0 ≡ w.0 → ⊥) (λ w less e. not_less v.0 w.0 e less) vs
      (All-from_recursion (λ (w : VarId). nat_cmp v.0 w.0 ≡ Less) vs (sorted_head (λ (v w : VarId). nat_cmp v.0 w.0) v vs up))

  one_weighed : (t : LinearTerm) (vs : List VarId) → IsStrictlySortedBy (λ v w. nat_cmp v.0 w.0) vs → Contains vs t.variable → weighed (λ v. part_of v t) vs ≡ t.coefficient *ℤ n t.variable
  one_weighed t [] up h = absurd (nothing_in_empty t.variable h)
  one_weighed t (v ∷ vs) up h = by (t.variable.0 == v.0) refl (λ there. one_weighed t vs (sorted_tail (λ (v w : VarId). nat_cmp v.0 w.0) v vs up) there)
    where
      first : (a b c d : ℤ) → b ≡ c → d ≡ pos 0 → (a *ℤ b) +ℤ d ≡ a *ℤ c
      first a b c d e g = ap (λ x. (a *ℤ x) +ℤ d) e ∙ plain (a *ℤ c) d g
        where
          plain : (p d : ℤ) → d ≡ pos 0 → p +ℤ d ≡ p
          plain p d g = omega (arith, ints)

      later : (b c d : ℤ) → c ≡ d → (pos 0 *ℤ b) +ℤ c ≡ d
      later b c d e = omega (arith, ints)

      by : (b : Bool) → (t.variable.0 == v.0) ≡ b → (Contains vs t.variable → weighed (λ v. part_of v t) vs ≡ t.coefficient *ℤ n t.variable) → (cond b t.coefficient (pos 0) *ℤ n v) +ℤ weighed (λ v. part_of v t) vs ≡ t.coefficient *ℤ n t.variable
      by true e again =
          let same : v ≡ t.variable = λ i. record { 0 = sym (eqb-true t.variable.0 v.0 e) i } in
          let apart = All-weaker (λ w. v.0 ≡ w.0 → ⊥) (λ w. t.variable.0 ≡ w.0 → ⊥) (λ w other k. other (sym (eqb-true t.variable.0 v.0 e) ∙ k)) vs (others_apart v vs up) in
          first t.coefficient (n v) (n t.variable) (weighed (λ v. part_of v t) vs) (ap n same) (none_weighed (λ v. part_of v t) vs (no_parts t vs apart))
      by false e again = elim (in_cons v vs t.variable h) [
        | inl same ↦ absurd (eqb-false t.variable.0 v.0 e (ap (λ (w : VarId). w.0) (sym same)))
        | inr there ↦ later (n v) (weighed (λ v. part_of v t) vs) (t.coefficient *ℤ n t.variable) (again there)
      ]

nothing_before : (vs : List VarId) → All (λ v. weight_of v [] ≡ pos 0) vs
nothing_before vs = λ k d within. refl

pub sum_is_weighted : (terms : List LinearTerm) (variables : List VarId) (values : List Value) → IsStrictlySortedBy (λ v w. nat_cmp v.0 w.0) variables → All (λ t. Contains variables t.variable) terms
    → sum_of_products (weights_of terms variables) (numbers_at values variables) ≡ linear_sum terms values
sum_is_weighted [] variables values up h = none_weighed (number_at values) (λ v. weight_of v []) variables (nothing_before variables)
sum_is_weighted (t ∷ ts) variables values up h =
    both_weighed (number_at values) (λ v. part_of v t) (λ v. weight_of v ts) variables
    ∙ ap (λ x. x +ℤ weighed (number_at values) (λ v. weight_of v ts) variables) (one_weighed (number_at values) t variables up (All-head (λ t. Contains variables t.variable) t ts h))
    ∙ ap (λ x. (t.coefficient *ℤ number_at values t.variable) +ℤ x) (sum_is_weighted ts variables values up (All-tail (λ t. Contains variables t.variable) t ts h))
