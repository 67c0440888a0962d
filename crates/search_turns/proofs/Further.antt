-- States that a search goes on to, one after another.
use Rattle.std.proofs.Common.{◌≡◌, ℕ, ◌<◌, ◌^◌, Bool, List, [], ◌++◌, length, map, reverse, drop, refl, sym, ap, ◌∙◌, subst, append-nil, append_assoc}
use Rattle.std.proofs.lemmas.List.{reverse-append, map-append, length-map}
use Rattle.std.proofs.Math.Seq.{drop-append_seam}
use Rattle.set_meaning.specs.declared.kinds.Value.{Value}
use Rattle.set_meaning.specs.declared.problems.Problem.{Problem}
use Rattle.bit_layout.specs.Order.{LayoutState}
use Rattle.diagram_arena.specs.Table.{Words, Table}
use Rattle.diagram_arena.specs.Arena.{table}
use Rattle.node_reclaim.specs.Pool.{PoolState}
use Rattle.pin_lists.specs.Units.{UnitsLeave}
use Rattle.search_rules.specs.Trail as rules
use Rattle.search_rules.specs.State.{AreWalked, IsSafe}
use Rattle.problem_rules.specs.Posed.{problem_of}
use Rattle.propagators.specs.Compiled.{CompiledState, pinned_by}
use Rattle.domain_trail.specs.Trail.{TrailState}
use Rattle.box_clauses.specs.declared.store.StoredBox.{StoredBox}
use Rattle.search_state.specs.Readings.{stored_of, boxes_of, IsTrailOf, IsLegalState}
use Rattle.search_turns.specs.States.{held_by_search, HoldWithoutVariables, IsStanding, IsLegalForSome, IsFurther}
use Rattle.search_turns.specs.Laws.{LowerLaws}
use Rattle.search_turns.proofs.Pins.{held_beside_frame}

-- ---- boxes of a longer store

pub boxes_split : (l : LayoutState) (t : Table) (stored added : List StoredBox) → boxes_of l t (stored ++ added) ≡ boxes_of l t added ++ boxes_of l t stored
boxes_split l t stored added = ap (map (stored_of l t)) (reverse-append stored added) ∙ map-append (stored_of l t) (reverse added) (reverse stored)

ends_alike : {X : Type 0} (xs ys us vs : List X) → length xs ≡ length us → xs ++ ys ≡ us ++ vs → ys ≡ vs
ends_alike xs ys us vs long same =
    sym (drop-append_seam xs ys) ∙ ap (drop (length xs)) same ∙ ap (λ n. drop n (us ++ vs)) long ∙ drop-append_seam us vs

-- where a longer store reads alike, so does its beginning
pub boxes_before : (l : LayoutState) (t u : Table) (stored added now : List StoredBox) → now ≡ stored ++ added → boxes_of l u now ≡ boxes_of l t now → boxes_of l u stored ≡ boxes_of l t stored
boxes_before l t u stored added now is same =
    ends_alike (boxes_of l u added) (boxes_of l u stored) (boxes_of l t added) (boxes_of l t stored)
    (length-map (reverse added) (stored_of l u) ∙ sym (length-map (reverse added) (stored_of l t)))
    (sym (boxes_split l u stored added) ∙ subst (λ bs. boxes_of l u bs ≡ boxes_of l t bs) is same ∙ boxes_split l t stored added)

-- ---- legal states

-- another trail over boxes that read alike
pub legal_again : (p : Problem) (l : LayoutState) (t u : Table) (answers : List (ℕ → Value)) (stored : List StoredBox) (old new : TrailState) → IsTrailOf p l u stored new → boxes_of l u stored ≡ boxes_of l t stored
    → IsLegalState p l t answers stored old → IsLegalState p l u answers stored new
legal_again p l t u answers stored old new is same state = record {
  readable = is.readable;
  level = is.level;
  legal = record {
    trail = is.trail;
    safe = subst (λ bs. (b : ℕ → Value → Bool) → rules.IsStored bs b → IsSafe (problem_of p) answers b) (sym same) state.legal.safe;
    walked = subst (AreWalked (problem_of p)) (sym same) state.legal.walked;
  };
}

pub trail_of_legal : (p : Problem) (l : LayoutState) (t : Table) (stored : List StoredBox) (trail : TrailState) → IsLegalForSome p l t stored trail → IsTrailOf p l t stored trail
trail_of_legal p l t stored trail some = record { readable = some.1.readable; level = some.1.level; trail = some.1.legal.trail }

-- ---- further

pub further_itself : (p : Problem) (l : LayoutState) (t : Table) (stored : List StoredBox) (trail : TrailState) → IsFurther p l t t stored trail stored trail
further_itself p l t stored trail = record { added = []; grown = sym (append-nil stored); boxes = refl; legal = λ answers h. h }

-- on another trail over the same boxes
pub further_trail : (p : Problem) (l : LayoutState) (t u : Table) (stored : List StoredBox) (old new : TrailState) → boxes_of l u stored ≡ boxes_of l t stored
    → ((answers : List (ℕ → Value)) → IsLegalState p l t answers stored old → IsLegalState p l u answers stored new) → IsFurther p l t u stored old stored new
further_trail p l t u stored old new same legal = record { added = []; grown = sym (append-nil stored); boxes = same; legal = legal }

pub further_then : (p : Problem) (l : LayoutState) (t u w : Table) (s0 s1 s2 : List StoredBox) (t0 t1 t2 : TrailState) → IsFurther p l t u s0 t0 s1 t1 → IsFurther p l u w s1 t1 s2 t2 → IsFurther p l t w s0 t0 s2 t2
further_then p l t u w s0 s1 s2 t0 t1 t2 first second = record {
  added = first.added ++ second.added;
  grown = second.grown ∙ ap (λ bs. bs ++ second.added) first.grown ∙ append_assoc s0 first.added second.added;
  boxes = boxes_before l u w s0 first.added s1 first.grown second.boxes ∙ first.boxes;
  legal = λ answers h. second.legal answers (first.legal answers h);
}

pub some_further : (p : Problem) (l : LayoutState) (t u : Table) (s0 s1 : List StoredBox) (t0 t1 : TrailState) → IsFurther p l t u s0 t0 s1 t1 → IsLegalForSome p l t s0 t0 → IsLegalForSome p l u s1 t1
some_further p l t u s0 s1 t0 t1 further some = (some.0, further.legal some.0 some.1)

-- ---- what stands

pub standing_after : (laws : LowerLaws) (P : Words → Type 0) (p : Problem) (l : LayoutState) (a b : PoolState) (k : CompiledState) (s0 s1 : List StoredBox) (t0 t1 : TrailState) → IsStanding p l a k s0 t0
    → UnitsLeave P a b (held_by_search t0 s0) (held_by_search t1 s1) → IsTrailOf p l (table b.arena) s1 t1 → length s1 < 2 ^ 32 → (0 < t1.level → HoldWithoutVariables p) → IsStanding p l b k s1 t1
standing_after laws P p l a b k s0 s1 t0 t1 standing left trail few grounded = record {
  compiled = laws.compiled_stays l p (table a.arena) (table b.arena) k (left.kept (pinned_by k) standing.pinned) standing.compiled;
  trail_is = trail;
  few = few;
  pinned = held_beside_frame P a b (pinned_by k) (held_by_search t0 s0) (held_by_search t1 s1) left standing.pinned;
  grounded = grounded;
}
