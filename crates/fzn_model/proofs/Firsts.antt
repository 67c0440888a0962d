-- The first fault of two rules, of none, of one place, and of the same faults said in other words.
use Rattle.std.proofs.Common.{◌≡◌, ◌⊎◌, ℕ, ◌<◌, ◌≤◌, ◌==◌, ◌&&◌, ◌||◌, Bool, true, false, nat_lt, nat_le, if◌then◌else◌, Option, Some, None, refl, sym, ap, ◌∙◌, inl, inr, arith, subst}
use Rattle.std.specs.Bool.{MatchBool}
use Rattle.std.proofs.lemmas.Bool.Decides.{nat_tests}
use Rattle.fzn_model.specs.declared.faults.ModelFault.{ModelFault}
use Rattle.fzn_model.specs.FaultsOf.{IsToldBefore, number_of, place_of_fault}
use Rattle.fzn_model.specs.FirstFault.{AreNone, AtPlaces, IsFirst, IsFirstOf, first_told, is_told_before, told_first}

-- ---- the order

told_self : (f : ModelFault) → IsToldBefore f f
told_self f = inr (refl, omega arith)

told_chain_at : (p q r n m o : ℕ) → (p < q) ⊎ ((p ≡ q) × (n ≤ m)) → (q < r) ⊎ ((q ≡ r) × (m ≤ o)) → (p < r) ⊎ ((p ≡ r) × (n ≤ o))
told_chain_at p q r n m o (inl a) (inl b) = inl (omega arith)
told_chain_at p q r n m o (inl a) (inr b) = let e = b.0 in inl (omega arith)
told_chain_at p q r n m o (inr a) (inl b) = let e = a.0 in inl (omega arith)
told_chain_at p q r n m o (inr a) (inr b) = let l = a.1 in let k = b.1 in inr (a.0 ∙ b.0, omega arith)

pub told_chain : (f g h : ModelFault) → IsToldBefore f g → IsToldBefore g h → IsToldBefore f h
told_chain f g h a b =
    told_chain_at (place_of_fault f) (place_of_fault g) (place_of_fault h) (number_of f) (number_of g) (number_of h) a b

-- the test is the order, and where it fails the other is told before
decides_at : (p q n m : ℕ) (b : Bool) → nat_lt p q || ((p == q) && nat_le n m) ≡ b
    → MatchBool b ((p < q) ⊎ ((p ≡ q) × (n ≤ m))) ((q < p) ⊎ ((q ≡ p) × (m ≤ n)))
decides_at p q n m true e = grind (arith, nat_tests)
decides_at p q n m false e = grind (arith, nat_tests)

-- ---- first faults

module _ {Among : ModelFault → Type 0} where
  pub only_one : (fault : ModelFault) → Among fault → ((other : ModelFault) → Among other → other ≡ fault) → IsFirstOf Among (Some fault)
  only_one fault h one = record {
    among = h;
    first = λ other o. subst (λ x. IsToldBefore fault x) (sym (one other o)) (told_self fault);
  }

module _ {P Q : ModelFault → Type 0} (to : (f : ModelFault) → P f → Q f) (from : (f : ModelFault) → Q f → P f) where
  -- the same faults in other words
  pub same_first : (o : Option ModelFault) → IsFirstOf P o → IsFirstOf Q o
  same_first None h = λ f q. h f (from f q)
  same_first (Some f) h = record { among = to f h.among; first = λ g q. h.first g (from g q) }

module _ (P Q : ModelFault → Type 0) where
  first_by : (f g : ModelFault) → IsFirst P f → IsFirst Q g → (b : Bool) → is_told_before f g ≡ b → IsFirst (λ x. P x ⊎ Q x) (if b then f else g)
  first_by f g hf hg true e = record {
    among = inl hf.among;
    first = λ other o. elim o [ inl p ↦ hf.first other p | inr q ↦ told_chain f g other (decides_at (place_of_fault f) (place_of_fault g) (number_of f) (number_of g) true e) (hg.first other q) ];
  }
  first_by f g hf hg false e = record {
    among = inr hg.among;
    first = λ other o. elim o [ inl p ↦ told_chain g f other (decides_at (place_of_fault f) (place_of_fault g) (number_of f) (number_of g) false e) (hf.first other p) | inr q ↦ hg.first other q ];
  }

  -- the first fault of two rules is that of the two firsts which is told before the other
  pub either_first : (a b : Option ModelFault) → IsFirstOf P a → IsFirstOf Q b → IsFirstOf (λ f. P f ⊎ Q f) (first_told a b)
  either_first None None p q = λ f o. elim o [ inl x ↦ p f x | inr y ↦ q f y ]
  either_first None (Some g) p q = record {
    among = inr q.among;
    first = λ other o. elim o [ inl x ↦ absurd (p other x) | inr y ↦ q.first other y ];
  }
  either_first (Some f) None p q = record {
    among = inl p.among;
    first = λ other o. elim o [ inl x ↦ p.first other x | inr y ↦ absurd (q other y) ];
  }
  either_first (Some f) (Some g) p q = first_by f g p q (is_told_before f g) refl

module _ (rule : ℕ → ModelFault) {IsAt : ℕ → Type 0} where
  -- a rule that is broken nowhere, and one that is broken at one place at most
  pub broken_nowhere : ((at : ℕ) → IsAt at → ⊥) → IsFirstOf (AtPlaces rule IsAt) None
  broken_nowhere none = λ fault h. none h.0 h.2

  pub broken_at : (at : ℕ) → IsAt at → ((other : ℕ) → IsAt other → other ≡ at) → IsFirstOf (AtPlaces rule IsAt) (Some (rule at))
  broken_at at h one = only_one (rule at) (at, refl, h) (λ other o. o.1 ∙ ap rule (one o.0 o.2))
