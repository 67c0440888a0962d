-- The state that a search begins with.
use Rattle.std.proofs.Common.{◌≡◌, ℕ, ◌<◌, Bool, List, [], ◌++◌, length, sym, ap, ◌∙◌, subst, arith}
use Rattle.set_meaning.specs.declared.kinds.Value.{Value}
use Rattle.set_meaning.specs.declared.problems.Problem.{Problem}
use Rattle.bit_layout.specs.Order.{LayoutState}
use Rattle.diagram_arena.specs.declared.nodes.Ref.{Ref}
use Rattle.diagram_arena.specs.Table.{Table}
use Rattle.diagram_arena.specs.Arena.{ArenaState, table}
use Rattle.node_reclaim.specs.Pool.{PoolState}
use Rattle.node_reclaim.specs.Holders.{Gains, AreHeld}
use Rattle.pin_lists.proofs.Counting.{times-append}
use Rattle.exact_steps.specs.Domains.{AreDomains, family}
use Rattle.problem_rules.specs.Posed.{problem_of}
use Rattle.problem_rules.proofs.Starting.{initial_family}
use Rattle.propagators.specs.Compiled.{CompiledState, pinned_by, IsCompiled}
use Rattle.propagators.proofs.Moving.{initial_domains}
use Rattle.domain_trail.specs.Trail.{TrailState}
use Rattle.box_clauses.specs.declared.store.StoredBox.{StoredBox}
use Rattle.search_state.specs.Readings.{IsTrailOf, IsLegalState}
use Rattle.constraint_queue.specs.Queue.{QueueState, HasFlag}
use Rattle.propagation.specs.Quiet.{AreSettled}
use Rattle.search_turns.specs.States.{IsStanding}
use Rattle.learn_search.specs.Way.{IsQueueOf}
use Rattle.learn_search.specs.declared.beginning.Begun.{Begun}
use Rattle.learn_search.specs.Stages.{IsWholeQueue, IsBegun}
use Rattle.learn_search.proofs.Stirring.{scopes_count}

-- the trail of a search that has done nothing
abbrev pub first_trail : List Ref → TrailState
first_trail start = record { domains = start; entries = []; level = 0 }

module _ (p : Problem) (l : LayoutState) (a s : PoolState) (k : CompiledState) (lent : List Ref) (is : IsCompiled l p (table a.arena) k)
    (held_before : AreHeld a (pinned_by k)) (only : s ≡ record a { counts = s.counts }) (gained : Gains a s lent) (is_lent : lent ≡ k.start)
    (first : (l : LayoutState) (t : Table) (start : List Ref) → AreDomains l t start → family l t start ≡ (problem_of p).initial
    → IsLegalState p l t [] [] (first_trail start)) where
  same : s.arena ≡ a.arena
  same = ap (λ (x : PoolState). x.arena) only

  pub first_legal : IsLegalState p l (table s.arena) [] [] (first_trail lent)
  first_legal =
      subst (λ (x : ArenaState). IsLegalState p l (table x) [] [] (first_trail lent)) (sym same)
      (subst (λ ds. IsLegalState p l (table a.arena) [] [] (first_trail ds)) (sym is_lent)
      (first l (table a.arena) k.start (initial_domains l (table a.arena) k.start is.start)
      (initial_family p l (table a.arena) k.start is.kinds is.start.long (λ v r at x initial. (is.start.each v r at).all x initial))))

  first_pinned : AreHeld s (pinned_by k ++ ((lent ++ []) ++ []))
  first_pinned i =
      let h = held_before i in
      let g = gained i in
      let e = times-append i (pinned_by k) ((lent ++ []) ++ []) in
      let f = times-append i (lent ++ []) [] in
      let m = times-append i lent [] in
      omega (arith, h, g, e, f, m)

  pub first_standing : ((p : Problem) (l : LayoutState) (t : Table) (answers : List (ℕ → Value)) (stored : List StoredBox) (s : TrailState) → IsLegalState p l t answers stored s → IsTrailOf p l t stored s)
      → IsStanding p l s k [] (first_trail lent)
  first_standing trails = record {
    compiled = subst (λ (x : ArenaState). IsCompiled l p (table x) k) (sym same) is;
    trail_is = trails p l (table s.arena) [] [] (first_trail lent) first_legal;
    few = omega arith;
    pinned = first_pinned;
    grounded = λ above. absurd (omega (arith, above));
  }

-- ---- the queue

pub whole_queue : (p : Problem) (l : LayoutState) (t : Table) (k : CompiledState) (before after : QueueState) → IsCompiled l p t k → IsQueueOf p k before
    → after.scopes ≡ before.scopes → length after.flags ≡ length before.flags → ((c : ℕ) → c < length before.scopes → HasFlag after c) → IsWholeQueue p k after
whole_queue p l t k before after is queue scopes long flags =
    let count : length k.scopes ≡ length p.constraints = scopes_count l p t k is in
    let own : length before.scopes ≡ length k.scopes = ap length queue.scopes in
    let all : length before.flags ≡ length p.constraints = queue.long in
    record {
      queue = record { scopes = scopes ∙ queue.scopes; long = omega (arith, count, long, all) };
      flags = λ c within. flags c (omega (arith, within, count, own));
    }

pub all_settled : (p : Problem) (k : CompiledState) (f : ℕ → Value → Bool) (q : QueueState) → IsWholeQueue p k q → AreSettled p f q
all_settled p k f q whole c within none = absurd (none (whole.flags c within))

-- ---- the whole state

pub is_begun : (p : Problem) (a s : PoolState) (b : Begun) (lent : List Ref) → IsCompiled b.layout p (table a.arena) b.compiled → AreHeld a (pinned_by b.compiled)
    → s ≡ record a { counts = s.counts } → Gains a s lent → lent ≡ b.compiled.start
    → ((l : LayoutState) (t : Table) (start : List Ref) → AreDomains l t start → family l t start ≡ (problem_of p).initial → IsLegalState p l t [] [] (first_trail start))
    → ((p : Problem) (l : LayoutState) (t : Table) (answers : List (ℕ → Value)) (stored : List StoredBox) (s : TrailState) → IsLegalState p l t answers stored s → IsTrailOf p l t stored s)
    → b.trail ≡ first_trail lent → b.boxes ≡ [] → IsWholeQueue p b.compiled b.queue → IsBegun p s b
is_begun p a s b lent is held_before only gained is_lent first trails is_trail no_boxes queue =
    let standing = first_standing p b.layout a s b.compiled lent is held_before only gained is_lent first trails in
    let legal = first_legal p b.layout a s b.compiled lent is held_before only gained is_lent first in
    record {
      standing =
          subst (λ (stored : List StoredBox). IsStanding p b.layout s b.compiled stored b.trail) (sym no_boxes)
          (subst (λ (trail : TrailState). IsStanding p b.layout s b.compiled [] trail) (sym is_trail) standing);
      legal =
          subst (λ (stored : List StoredBox). IsLegalState p b.layout (table s.arena) [] stored b.trail) (sym no_boxes)
          (subst (λ (trail : TrailState). IsLegalState p b.layout (table s.arena) [] [] trail) (sym is_trail) legal);
      empty = no_boxes;
      queue = queue;
    }
