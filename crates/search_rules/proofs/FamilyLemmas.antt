-- A set put into a family, and what lies in what.
use Rattle.std.proofs.Common.{◌≡◌, ◌≢◌, ℕ, eqb, Bool, refl, sym, ap, subst}
use Rattle.std.proofs.lemmas.Bool.{eq-eqb, ne_eqb, eqb-true, eqb-false, cond-true, cond-false, cond_both, both_ways}
use Rattle.std.proofs.Math.Path.{fun_ext}
use Rattle.search_rules.specs.Family.{Lies, Leaves, put, assign}

pub put-same : {X : Type 0} (f : ℕ → X → Bool) (v : ℕ) (s : X → Bool) → put f v s v ≡ s
put-same f v s = cond-true (eqb v v) s (f v) (eq-eqb v v refl)

pub put-other : {X : Type 0} (f : ℕ → X → Bool) (v : ℕ) (s : X → Bool) (u : ℕ) → u ≢ v → put f v s u ≡ f u
put-other f v s u ne = cond-false (eqb u v) s (f u) (ne_eqb u v ne)

-- putting back what was there undoes a put
pub put-put : {X : Type 0} (f : ℕ → X → Bool) (v : ℕ) (s : X → Bool) → put (put f v s) v (f v) ≡ f
put-put {X} f v s = fun_ext (λ u.
    cond_both (eqb u v) (f v) (put f v s u) (λ (t : X → Bool). t ≡ f u)
    (λ same. ap f (sym (eqb-true u v same)))
    (λ apart. put-other f v s u (eqb-false u v apart)))

-- a fact of the set put in and of the other sets holds of each set
pub put_each : {X : Type 0} (f : ℕ → X → Bool) (v : ℕ) (s : X → Bool) (P : ℕ → (X → Bool) → Type 0) → P v s
    → ((u : ℕ) → u ≢ v → P u (f u)) → (u : ℕ) → P u (put f v s u)
put_each {X} f v s P here others u =
    cond_both (eqb u v) s (f u) (λ (t : X → Bool). P u t)
    (λ same. subst (λ (w : ℕ). P w s) (sym (eqb-true u v same)) here)
    (λ apart. others u (eqb-false u v apart))

pub lies_not_leaves : {X : Type 0} (s t : X → Bool) → Lies s t → Leaves s t → ⊥
lies_not_leaves s t lies (x, here, there) = both_ways (t x) there (lies x here)

pub leaves_more : {X : Type 0} (s t u : X → Bool) → Lies s t → Leaves s u → Leaves t u
leaves_more s t u lies (x, here, there) = (x, lies x here, there)

pub assign-same : {X : Type 0} (a : ℕ → X) (v : ℕ) (x : X) → assign a v x v ≡ x
assign-same a v x = cond-true (eqb v v) x (a v) (eq-eqb v v refl)

pub assign-other : {X : Type 0} (a : ℕ → X) (v : ℕ) (x : X) (u : ℕ) → u ≢ v → assign a v x u ≡ a u
assign-other a v x u ne = cond-false (eqb u v) x (a u) (ne_eqb u v ne)

pub assign_each : {X : Type 0} (a : ℕ → X) (v : ℕ) (x : X) (P : ℕ → X → Type 0) → P v x → ((u : ℕ) → u ≢ v → P u (a u))
    → (u : ℕ) → P u (assign a v x u)
assign_each {X} a v x P here others u =
    cond_both (eqb u v) x (a u) (λ y. P u y)
    (λ same. subst (λ (w : ℕ). P w x) (sym (eqb-true u v same)) here)
    (λ apart. others u (eqb-false u v apart))
