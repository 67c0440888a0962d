-- What was found that is not quiet, and boxes one after another.
use Rattle.std.proofs.Common.{◌≡◌, ℕ, ◌+◌, ◌<◌, Bool, List, [], ◌∷◌, ◌++◌, length, get_or, take, drop, map, reverse, refl, sym, ap, ◌∙◌, subst, inl, inr}
use Rattle.std.proofs.lemmas.List.{take_more, take-append-drop, reverse-append, map-append}
use Rattle.search_rules.specs.Box.{IsBoxSame}
use Rattle.search_rules.specs.Trail.{Stored, IsStored, IsLearned}
use Rattle.plain_steps.specs.Sets.{family}
use Rattle.plain_steps.specs.Task.{Plain}
use Rattle.plain_search.specs.State.{stored_of, boxes_of}
use Rattle.plain_search.specs.Moves.{IsFound}
use Rattle.plain_search.specs.declared.finding.Found.{Found}
use Rattle.plain_search.specs.declared.finding.Found.TheVariants.{Conflict, Narrowing, Quiet}
use Rattle.plain_search.proofs.ListLemmas.{boxes-push}

pub found_other : (p : Plain) (boxes : List (Stored ℕ)) (f : ℕ → ℕ → Bool) (q r : Type 0) (found : Found) → (found ≡ Quiet → ⊥)
    → IsFound p boxes f q found → IsFound p boxes f r found
found_other p boxes f q r (Conflict b) not is = is
found_other p boxes f q r (Narrowing v s cause) not is = is
found_other p boxes f q r Quiet not is = absurd (not refl)

pub found_more : (p : Plain) (boxes : List (Stored ℕ)) (f : ℕ → ℕ → Bool) (q r : Type 0) → (q → r) → (found : Found)
    → IsFound p boxes f q found → IsFound p boxes f r found
found_more p boxes f q r more (Conflict b) is = is
found_more p boxes f q r more (Narrowing v s cause) is = is
found_more p boxes f q r more Quiet is = more is

pub boxes_more : (bs : List (List (List ℕ))) (i : ℕ) (b : List (List ℕ)) → i < length bs → b ≡ get_or bs i b
    → boxes_of (take (i + 1) bs) ≡ stored_of b ∷ boxes_of (take i bs)
boxes_more bs i b lt is =
    ap boxes_of (take_more bs i b lt ∙ ap (λ x. take i bs ++ x ∷ []) (sym is)) ∙ boxes-push (take i bs) b

-- one more box that leaves the family as it is
pub same_more : (bs : List (List (List ℕ))) (i : ℕ) (b : List (List ℕ)) (f : ℕ → ℕ → Bool) → i < length bs → b ≡ get_or bs i b
    → ((c : ℕ → ℕ → Bool) → IsLearned (boxes_of (take i bs)) c → IsBoxSame c f) → IsBoxSame (family b) f
    → (c : ℕ → ℕ → Bool) → IsLearned (boxes_of (take (i + 1) bs)) c → IsBoxSame c f
same_more bs i b f lt is before here c learned =
    elim (subst (λ (ss : List (Stored ℕ)). IsLearned ss c) (boxes_more bs i b lt is) learned) [
      | inl this ↦ subst (λ (d : ℕ → ℕ → Bool). IsBoxSame d f) this.1 here
      | inr earlier ↦ before c earlier
    ]

pub boxes-append : (bs cs : List (List (List ℕ))) → boxes_of (bs ++ cs) ≡ boxes_of cs ++ boxes_of bs
boxes-append bs cs = ap (map stored_of) (reverse-append bs cs) ∙ map-append stored_of (reverse cs) (reverse bs)

-- a box of the list is stored
pub stored_append : (bs cs : List (Stored ℕ)) (b : ℕ → ℕ → Bool) → IsStored cs b → IsStored (bs ++ cs) b
stored_append [] cs b stored = stored
stored_append (s ∷ bs) cs b stored = inr (stored_append bs cs b stored)

pub stored_at : (bs : List (List (List ℕ))) (i : ℕ) (b : List (List ℕ)) → i < length bs → b ≡ get_or bs i b
    → IsStored (boxes_of bs) (family b)
stored_at bs i b lt is =
    subst (λ (ss : List (Stored ℕ)). IsStored ss (family b))
    (sym (ap boxes_of (sym (take-append-drop (i + 1) bs)) ∙ boxes-append (take (i + 1) bs) (drop (i + 1) bs)))
    (stored_append (boxes_of (drop (i + 1) bs)) (boxes_of (take (i + 1) bs)) (family b)
    (subst (λ (ss : List (Stored ℕ)). IsStored ss (family b)) (sym (boxes_more bs i b lt is)) (inl refl)))
