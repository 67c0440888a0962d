-- Rounds over the stored boxes.
use Rattle.std.proofs.Common.{◌≡◌, ℕ, ◌+◌, ◌<◌, ◌≤◌, Bool, List, refl, sym, ◌∙◌, subst, inl, inr, arith}
use Rattle.std.proofs.lemmas.Bool.{cases_lt}
use Rattle.set_meaning.specs.declared.kinds.Value.{Value}
use Rattle.set_meaning.specs.declared.problems.BoxId.{BoxId}
use Rattle.set_meaning.specs.declared.problems.Problem.{Problem}
use Rattle.bit_layout.specs.Order.{LayoutState}
use Rattle.diagram_arena.specs.Table.{Table}
use Rattle.search_rules.specs.Box.{IsBoxSame}
use Rattle.exact_steps.specs.Domains.{family}
use Rattle.constraint_queue.specs.Queue.{QueueState}
use Rattle.domain_trail.specs.Trail.{TrailState}
use Rattle.box_clauses.specs.declared.store.StoredBox.{StoredBox}
use Rattle.box_clauses.specs.Boxes.{box_of}
use Rattle.search_state.specs.Readings.{sides_at}
use Rattle.running_boxes.specs.declared.beginning.Conflict.TheVariants as conflict
use Rattle.propagation.specs.Quiet.{HasNarrowed}
use Rattle.propagation.specs.Work.{joined, IsOfConflict, AreQuietApart, IsUnturned, IsTurn, AreBoxesQuiet, IsRound}
use Rattle.propagation.specs.declared.turning.Turned.{Turned}
use Rattle.propagation.specs.declared.turning.Turned.TheVariants as turned
use Rattle.propagation.proofs.Moving.{fewer_first, fewer_last}

abbrev box_at : ℕ → BoxId
box_at n = record { 0 = n }

-- ---- nothing was done

pub round_begun : (p : Problem) (l : LayoutState) (t : Table) (stored : List StoredBox) (s : TrailState) (q : QueueState) → AreQuietApart p (family l t s.domains) q → IsRound p l t t stored 0 s s q q turned.Same
round_begun p l t stored s q settled = (record { trail = refl; values = refl; queue = refl; settled = settled }, λ b less. absurd (let none : b < 0 = less in omega arith))

-- boxes stay quiet where they and the family read the same
pub boxes_read : (l : LayoutState) (t u : Table) (stored : List StoredBox) (f g : ℕ → Value → Bool) (count : ℕ) → ((id : ℕ) → box_of l u (sides_at stored id) ≡ box_of l t (sides_at stored id)) → g ≡ f
    → AreBoxesQuiet l t stored f count → AreBoxesQuiet l u stored g count
boxes_read l t u stored f g count boxes same quiet b less =
    subst (λ x. IsBoxSame x g) (sym (boxes b)) (subst (λ x. IsBoxSame (box_of l t (sides_at stored b)) x) (sym same) (quiet b less))

-- ---- one more box

module _ (p : Problem) (l : LayoutState) (t u w : Table) (stored : List StoredBox) (x y z : TrailState) (q0 q1 q2 : QueueState) where
  unturned_then : IsUnturned p l t u x y q0 q1 → IsUnturned p l u w y z q1 q2 → IsUnturned p l t w x z q0 q2
  unturned_then first second = record {
    trail = second.trail ∙ first.trail;
    values = second.values ∙ first.values;
    queue = second.queue ∙ first.queue;
    settled = second.settled;
  }

  module _ (b : ℕ) (boxes : (id : ℕ) → box_of l w (sides_at stored id) ≡ box_of l u (sides_at stored id)) (first : HasNarrowed p l t u stored x y) (second : HasNarrowed p l u w stored y z) where
    pub round_more : (so_far now : Turned) → (IsOfConflict so_far → ⊥) → IsRound p l t u stored b x y q0 q1 so_far → IsTurn p l u w stored (conflict.Box (box_at b)) y z q1 q2 now
        → IsRound p l t w stored (b + 1) x z q0 q2 (joined so_far now)
    round_more turned.Same turned.Same on round turn = (
      unturned_then round.0 turn.0,
      λ id less. elim (cases_lt id b) [
        | inl below ↦ boxes_read l u w stored (family l u y.domains) (family l w z.domains) b boxes turn.0.values round.1 id below
        | inr past ↦ subst (λ n. IsBoxSame (box_of l w (sides_at stored n)) (family l w z.domains)) (let same : b ≡ id = omega (arith, less, past) in same) turn.1
      ],
    )
    round_more turned.Narrowed turned.Same on round turn = record { fewer = fewer_first p l stored t u w x y z round.fewer second; settled = turn.0.settled }
    round_more (turned.Conflict c) turned.Same on round turn = absurd (on tt)
    round_more so_far turned.Narrowed on round turn = record { fewer = fewer_last p l stored t u w x y z first turn.fewer; settled = turn.settled }
    round_more so_far (turned.Conflict c) on round turn = turn

-- the constraints without flags are quiet, where it is no conflict
pub round_settled : (p : Problem) (l : LayoutState) (t u : Table) (stored : List StoredBox) (b : ℕ) (x y : TrailState) (q0 q1 : QueueState) (o : Turned) → (IsOfConflict o → ⊥) → IsRound p l t u stored b x y q0 q1 o
    → AreQuietApart p (family l u y.domains) q1
round_settled p l t u stored b x y q0 q1 turned.Same on h = h.0.settled
round_settled p l t u stored b x y q0 q1 turned.Narrowed on h = h.settled
round_settled p l t u stored b x y q0 q1 (turned.Conflict c) on h = absurd (on tt)

-- ---- the end of a round

pub round_broken : (p : Problem) (l : LayoutState) (t u : Table) (stored : List StoredBox) (b n : ℕ) (x y : TrailState) (q0 q1 : QueueState) (o : Turned) → IsOfConflict o → IsRound p l t u stored b x y q0 q1 o
    → IsRound p l t u stored n x y q0 q1 o
round_broken p l t u stored b n x y q0 q1 turned.Same is h = absurd is
round_broken p l t u stored b n x y q0 q1 turned.Narrowed is h = absurd is
round_broken p l t u stored b n x y q0 q1 (turned.Conflict c) is h = h

pub round_ended : (p : Problem) (l : LayoutState) (t u : Table) (stored : List StoredBox) (b n : ℕ) (x y : TrailState) (q0 q1 : QueueState) (o : Turned) → n ≤ b → IsRound p l t u stored b x y q0 q1 o
    → IsRound p l t u stored n x y q0 q1 o
round_ended p l t u stored b n x y q0 q1 turned.Same past h = (h.0, λ id less. h.1 id (omega (arith, less, past)))
round_ended p l t u stored b n x y q0 q1 turned.Narrowed past h = h
round_ended p l t u stored b n x y q0 q1 (turned.Conflict c) past h = h
