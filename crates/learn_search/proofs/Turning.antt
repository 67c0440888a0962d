-- The queue on the way to the root family: which constraints without a flag stay quiet, and that the work falls.
use Rattle.std.proofs.Common.{◌≡◌, ℕ, ◌+◌, ◌*◌, ◌<◌, ◌≤◌, Bool, true, false, List, [], length, get_or, sym, ap, ◌∙◌, subst, inl, inr, arith, Contains}
use Rattle.std.specs.Prelude.{Vec}
use Rattle.std.specs.declared.alloc.Global.{Global}
use Rattle.std.specs.List.{All}
use Rattle.std.proofs.lemmas.Bool.{cases_eq, cases_lt, both_ways}
use Rattle.std.proofs.lemmas.List.{length-set, get_or-set_other, get_or_past}
use Rattle.std.proofs.lemmas.List.Sums.{count_by-le-length}
use Rattle.std.proofs.lemmas.Option.{get_or_from_slice_get}
use Rattle.std.proofs.Math.Nat.{mul-le-mul_right}
use Rattle.set_meaning.specs.declared.kinds.Value.{Value}
use Rattle.set_meaning.specs.declared.problems.VarId.{VarId}
use Rattle.set_meaning.specs.declared.problems.ConId.{ConId}
use Rattle.set_meaning.specs.declared.problems.Problem.{Problem}
use Rattle.bit_layout.specs.Order.{LayoutState}
use Rattle.diagram_arena.specs.declared.nodes.Ref.{Ref}
use Rattle.diagram_arena.specs.Table.{Table, IsLive}
use Rattle.search_rules.specs.Measure.{total}
use Rattle.exact_steps.specs.Domains.{variable, family}
use Rattle.exact_steps.specs.Steps.{narrowed_in}
use Rattle.problem_rules.specs.Posed.{problem_of}
use Rattle.problem_rules.proofs.Variables.{constraint_here}
use Rattle.propagators.specs.Compiled.{CompiledState, IsCompiled}
use Rattle.constraint_queue.specs.Queue.{QueueState, HasFlag, Reads, flag_count, HasNoFlags, IsTakenFrom}
use Rattle.learn_search.specs.declared.narrowing.Taken.{Taken}
use Rattle.learn_search.specs.declared.narrowing.Taken.TheVariants as taken
use Rattle.learn_search.specs.Way.{IsOnWay, left, IsQuietAt, IsTaken, IsNarrowing, IsQueueOf, AreSettledBut, AreSettled, AreStirred, work, IsTurned, IsRootFamily}
use Rattle.learn_search.proofs.Settling.{left_alike, member_cases}
use Rattle.learn_search.proofs.Taking.{there, scopes_long}

-- ---- a constraint loses its flag

pub flag_known : (p : Problem) (k : CompiledState) (q : QueueState) (c : ℕ) → IsQueueOf p k q → HasFlag q c → c < length p.constraints
flag_known p k q c is had = elim (cases_lt c (length q.flags)) [
  | inl less ↦ subst (λ n. c < n) is.long less
  | inr past ↦ absurd (both_ways (get_or q.flags c false) (get_or_past q.flags c false past) had)
]

pub but_taken : (p : Problem) (f : ℕ → Value → Bool) (q0 q1 : QueueState) (c : ConId) → IsTakenFrom q0 c q1 → AreSettled p f q0 → AreSettledBut p f q1 c.0
but_taken p f q0 q1 c is settled d within other none =
    settled d within (λ had. none (subst (λ (q : QueueState). HasFlag q d) (sym is.new_is) (get_or-set_other q0.flags c.0 d false false other ∙ had)))

pub queue_taken : (p : Problem) (k : CompiledState) (q0 q1 : QueueState) (c : ConId) → IsTakenFrom q0 c q1 → IsQueueOf p k q0 → IsQueueOf p k q1
queue_taken p k q0 q1 c is queue = record {
  scopes = ap (λ (q : QueueState). q.scopes) is.new_is ∙ queue.scopes;
  long = ap (λ (q : QueueState). length q.flags) is.new_is ∙ length-set q0.flags c.0 false ∙ queue.long;
}

-- ---- the turn of a constraint

quiet_alike : (p : Problem) (c : ℕ) (f g : ℕ → Value → Bool) → ((u : ℕ) → (problem_of p).scope c u ≡ true → g u ≡ f u) → IsQuietAt p f c → IsQuietAt p g c
quiet_alike p c f g same h = record {
  stays = left_alike (problem_of p) c f g same h.stays;
  values = h.values;
  inside = λ u scoped. subst (λ (s : Value → Bool). s (h.values u) ≡ true) (sym (same u scoped)) (h.inside u scoped);
  holds = h.holds;
}

-- a constraint reads the variables of its scope
reads : (p : Problem) (l : LayoutState) (t : Table) (k : CompiledState) (q : QueueState) (d u : ℕ) → IsCompiled l p t k → IsQueueOf p k q → d < length p.constraints → (problem_of p).scope d u ≡ true → Reads q d (variable u)
reads p l t k q d u is queue within scoped =
    let e = there l p t k d is within in
    let rule = constraint_here p l d e.constraint e.scope is.legal is.kinds e.at e.entry_is.is_scope in
    let scope_is : get_or q.scopes d [] ≡ e.scope = ap (λ (ss : List (List VarId)). get_or ss d []) queue.scopes ∙ get_or_from_slice_get k.scopes d e.scope [] e.scope_at in
    subst (λ s. Contains s (variable u)) (sym scope_is) ((rule.scoped u).0 scoped)

less_work : (a b n x y : ℕ) → a < b → x ≤ n → a * (n + 1) + x ≤ b * (n + 1) + y
less_work a b n x y less most =
    let next : a + 1 ≤ b = omega (arith, less) in
    let times : (a + 1) * (n + 1) ≤ b * (n + 1) = mul-le-mul_right (n + 1) next in
    let split : (a + 1) * (n + 1) ≡ a * (n + 1) + (n + 1) = omega arith in
    omega (arith, times, split, most)

module _ (p : Problem) (l : LayoutState) (t u : Table) (k : CompiledState) (c : ℕ) (d0 d1 : List Ref) (q0 : QueueState) (queue : IsQueueOf p k q0) (settled : AreSettledBut p (family l t d0) q0 c) where
  pub quiet_turn : IsTaken p l t u c d0 d1 taken.Quiet → IsTurned p l t u k d0 d1 q0 q0
  quiet_turn h = record {
    way = h.0.way;
    queue = queue;
    settled = λ d within none. elim (cases_eq d c) [
      | inl same ↦ subst (IsQuietAt p (family l u d1)) (sym same) h.1
      | inr other ↦ subst (λ f. IsQuietAt p f d) (sym h.0.values) (settled d within other none)
    ];
    nearer =
        let same : left p l u d1 ≡ left p l t d0 = ap (total (problem_of p)) h.0.values in
        subst (λ n. n * (length p.constraints + 1) + flag_count q0 ≤ left p l t d0 * (length p.constraints + 1) + flag_count q0) (sym same) (omega arith);
  }

  pub narrowed_turn : (kept : List (VarId × Ref)) (q1 : QueueState) → IsCompiled l p t k → IsNarrowing p l t u c d0 d1 kept → AreStirred q0 q1 c kept → IsTurned p l t u k d0 d1 q0 q1
  narrowed_turn kept q1 is h stirred = record {
    way = h.way;
    queue = record { scopes = stirred.scopes ∙ queue.scopes; long = stirred.long ∙ queue.long };
    settled = λ d within none. elim (cases_eq d c) [
      | inl same ↦ subst (IsQuietAt p (family l u d1)) (sym same) h.quiet
      | inr other ↦ quiet_alike p d (family l t d0) (family l u d1)
          (λ w scoped. elim (member_cases (narrowed_in kept) (variable w)) [
            | inl narrowed ↦ absurd (none (stirred.readers (variable w) d narrowed (reads p l t k q0 d w is queue within scoped) other))
            | inr apart ↦ h.others w apart
          ])
          (settled d within other (λ had. none (stirred.still d had)))
    ];
    nearer =
        let most = count_by-le-length (λ (b : Bool). b) q1.flags in
        let long : length q1.flags ≡ length p.constraints = stirred.long ∙ queue.long in
        less_work (left p l u d1) (left p l t d0) (length p.constraints) (flag_count q1) (flag_count q0) h.fewer (subst (λ n. flag_count q1 ≤ n) long most);
  }

-- the refs of the variables that a step narrowed
pub narrowed_live : (p : Problem) (l : LayoutState) (t u : Table) (c : ℕ) (d0 d1 : List Ref) (kept : Vec (VarId × Ref) Global) (r : Taken) → r ≡ taken.Narrowed kept → IsTaken p l t u c d0 d1 r → All (λ (x : VarId × Ref). IsLive u x.1) kept.items
narrowed_live p l t u c d0 d1 kept r is h = let narrowing = subst (IsTaken p l t u c d0 d1) is h in narrowing.live

-- ---- the beginning and the end

pub queue_flagged : (p : Problem) (k : CompiledState) (q0 q1 : QueueState) → IsQueueOf p k q0 → q1.scopes ≡ q0.scopes → length q1.flags ≡ length q0.flags → IsQueueOf p k q1
queue_flagged p k q0 q1 queue scopes long = record { scopes = scopes ∙ queue.scopes; long = long ∙ queue.long }

-- where each constraint has a flag, nothing is asked
pub all_flagged : (p : Problem) (l : LayoutState) (t : Table) (k : CompiledState) (f : ℕ → Value → Bool) (q0 q1 : QueueState) → IsCompiled l p t k → q0.scopes ≡ k.scopes → ((c : ℕ) → c < length q0.scopes → HasFlag q1 c) → AreSettled p f q1
all_flagged p l t k f q0 q1 is scopes all d within none =
    absurd (none (all d (subst (λ (ss : List (List VarId)). d < length ss) (sym scopes) (scopes_long l p t k d is within))))

-- where none has a flag, the domains are those of the root family
pub root_family : (p : Problem) (l : LayoutState) (t : Table) (domains : List Ref) (q : QueueState) → IsOnWay p l t domains → AreSettled p (family l t domains) q → HasNoFlags q → IsRootFamily p l t domains
root_family p l t domains q way settled none = record { way = way; quiet = λ d within. settled d within (none d) }

-- the turn of one that has lost its flag leaves less work than there was
pub work_falls : (p : Problem) (l : LayoutState) (t u : Table) (k : CompiledState) (d0 d1 : List Ref) (q q0 q1 : QueueState) (c : ConId) → IsTakenFrom q c q0 → IsTurned p l t u k d0 d1 q0 q1 → work p l u d1 q1 < work p l t d0 q
work_falls p l t u k d0 d1 q q0 q1 c is turned = falls (work p l u d1 q1) (left p l t d0 * (length p.constraints + 1)) (flag_count q0) (flag_count q) turned.nearer is.fewer
  where
    falls : (w x m n : ℕ) → w ≤ x + m → m + 1 ≡ n → w < x + n
    falls w x m n le next = omega (arith, le, next)
