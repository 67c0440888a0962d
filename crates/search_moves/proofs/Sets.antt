-- Which sets a step reads, and what a box leaves of a set.
use Rattle.std.proofs.Common.{◌≡◌, ℕ, Bool, true, false, List, ◌⊎◌, sym, subst, refl, inl, inr}
use Rattle.std.proofs.lemmas.Bool.{cases_eq, both_ways}
use Rattle.search_rules.specs.Family.{Lies, Leaves, IsWithin, put}
use Rattle.search_rules.specs.Problem.{Problem, Extends, IsLeft, IsViolated}
use Rattle.search_rules.specs.Box.{IsBoxNarrowed, IsBoxSame}
use Rattle.search_rules.specs.Trail.{Reason, Decision, ByConstraint, ByBox, Stored, IsPart, IsReason}
use Rattle.search_rules.specs.Walk.{conflict_box, reason_box}
use Rattle.search_rules.specs.State.{IsExcluded}
use Rattle.search_rules.proofs.FamilyLemmas.{put-other, lies_not_leaves}
use Rattle.search_rules.proofs.StateLemmas.{box_part}
use Rattle.search_rules.proofs.WalkLemmas.{conflict_box-scoped, narrowing_excludes}

-- ---- the scope

pub left_alike : {X : Type 0} (p : Problem X) (c : ℕ) (f g : ℕ → X → Bool) → ((v : ℕ) → p.scope c v ≡ true → f v ≡ g v)
    → IsLeft p c f → IsLeft p c g
left_alike {X} p c f g alike left v x scoped has = record {
  values = e.values;
  scoped = e.scoped;
  at = e.at;
  inside = λ u stands. subst (λ (s : X → Bool). s (e.values u) ≡ true) (alike u stands) (e.inside u stands);
  holds = e.holds;
}
  where
    e : Extends p c f v x
    e = left v x scoped (subst (λ (s : X → Bool). s x ≡ true) (sym (alike v scoped)) has)

pub violated_alike : {X : Type 0} (p : Problem X) (c : ℕ) (f g : ℕ → X → Bool) → ((v : ℕ) → p.scope c v ≡ true → f v ≡ g v)
    → IsViolated p c f → IsViolated p c g
violated_alike {X} p c f g alike violated a inside holds =
    violated a (λ u stands. subst (λ (s : X → Bool). s (a u) ≡ true) (sym (alike u stands)) (inside u stands)) holds

pub left_outside : {X : Type 0} (p : Problem X) (c : ℕ) (f : ℕ → X → Bool) (v : ℕ) (s : X → Bool) → p.scope c v ≡ false
    → IsLeft p c f → IsLeft p c (put f v s)
left_outside p c f v s out left =
    left_alike p c f (put f v s)
    (λ u stands. sym (put-other f v s u (λ same. both_ways (p.scope c u) (subst (λ w. p.scope c w ≡ false) (sym same) out) stands)))
    left

-- ---- the sides

pub same_alike : {X : Type 0} (b f g : ℕ → X → Bool) → ((v : ℕ) → (f v ≡ g v) ⊎ Lies (f v) (b v)) → IsBoxSame b f → IsBoxSame b g
same_alike {X} b f g alike same = elim same [
  | inl two ↦ inl (record {
    one = two.one;
    other = two.other;
    apart = two.apart;
    one_outside = outside two.one two.one_outside;
    other_outside = outside two.other two.other_outside;
  })
  | inr one ↦ inr (record {
    one = one.one;
    outside = outside one.one one.outside;
    misses = subst (λ (t : X → Bool). (x : X) → t x ≡ true → b one.one x ≡ false) (stays one.one one.outside) one.misses;
  })
]
  where
    stays : (v : ℕ) → Leaves (f v) (b v) → f v ≡ g v
    stays v leaves = elim (alike v) [
      | inl here ↦ here
      | inr lies ↦ absurd (lies_not_leaves (f v) (b v) lies leaves)
    ]

    outside : (v : ℕ) → Leaves (f v) (b v) → Leaves (g v) (b v)
    outside v leaves = subst (λ (t : X → Bool). Leaves t (b v)) (stays v leaves) leaves

pub same_inside : {X : Type 0} (b f : ℕ → X → Bool) (v : ℕ) (s : X → Bool) → Lies (f v) (b v) → IsBoxSame b f
    → IsBoxSame b (put f v s)
same_inside b f v s lies same =
    same_alike b f (put f v s)
    (λ u. elim (cases_eq u v) [
      | inl here ↦ inr (subst (λ w. Lies (f w) (b w)) (sym here) lies)
      | inr apart ↦ inl (sym (put-other f v s u apart))
    ])
    same

-- what the step of a box leaves is a non-empty proper part
pub narrowed_part : {X : Type 0} (b f : ℕ → X → Bool) (v : ℕ) (s : X → Bool) → IsBoxNarrowed b f v s → IsPart s (f v)
narrowed_part {X} b f v s narrowed =
    subst (λ (t : X → Bool). IsPart t (f v)) (sym narrowed.stays)
    (box_part (record { others = narrowed.others; outside = narrowed.outside; inside = narrowed.inside; stays = refl }))

-- ---- what boxes exclude

pub conflict_violates : {X : Type 0} (p : Problem X) (c : ℕ) (f : ℕ → X → Bool) (a : ℕ → X) → IsViolated p c f
    → IsWithin (conflict_box p c f) a → p.holds c a → ⊥
conflict_violates {X} p c f a violated within =
    violated a (λ u scoped. subst (λ t. t ≡ true) (conflict_box-scoped p c f u (a u) scoped) (within u))

pub reason_excludes : {X : Type 0} (p : Problem X) (boxes : List (Stored X)) (r : Reason X) (f : ℕ → X → Bool) (v : ℕ) (s : X → Bool)
    (a : ℕ → X) → IsReason p boxes r f v s → (r ≡ Decision → ⊥) → IsWithin (reason_box p r f v s) a → IsExcluded p boxes a
reason_excludes p boxes Decision f v s a reason made within = absurd (made refl)
reason_excludes p boxes (ByConstraint c) f v s a reason made within =
    inr (c, reason.0, narrowing_excludes p c f v s reason.1 a within)
reason_excludes p boxes (ByBox b) f v s a reason made within = inl (b, reason.0, within)
