-- Which constraints stay quiet as a unit has its turn, and that the work falls.
use Rattle.std.proofs.Common.{◌≡◌, ◌≢◌, ◌⊎◌, ℕ, ◌+◌, ◌*◌, ◌<◌, ◌≤◌, Bool, true, false, List, [], ◌∷◌, length, get_or, Option, Some, None, refl, sym, ap, ◌∙◌, subst, inl, inr, arith, Contains}
use Rattle.std.proofs.lemmas.Bool.{cases_eq, cases_lt, cases_Bool, both_ways}
use Rattle.std.proofs.lemmas.List.{length-set, get_or-set_other, get_or_past}
use Rattle.std.proofs.lemmas.List.Sums.{count_by-le-length}
use Rattle.std.proofs.lemmas.Option.{get_or_from_slice_get, slice_get-get_or}
use Rattle.std.proofs.lemmas.List.Elements.{All-contains}
use Rattle.std.proofs.Math.Nat.{mul-le-mul_right}
use Rattle.std.specs.Prelude.{◌↔◌}
use Rattle.set_meaning.specs.declared.kinds.Value.{Value}
use Rattle.set_meaning.specs.declared.problems.VarId.{VarId}
use Rattle.set_meaning.specs.declared.problems.ConId.{ConId}
use Rattle.set_meaning.specs.declared.problems.Problem.{Problem}
use Rattle.bit_layout.specs.Order.{LayoutState}
use Rattle.bit_layout.proofs.Rising.{nothing_in_empty, in_head}
use Rattle.diagram_arena.specs.declared.nodes.Ref.{Ref}
use Rattle.diagram_arena.specs.declared.nodes.Ref.TheVariants.{Zero}
use Rattle.diagram_arena.specs.Table.{Table}
use Rattle.search_rules.specs.Problem as rules
use Rattle.search_rules.specs.Box.{IsBoxSame}
use Rattle.search_rules.specs.Measure.{total}
use Rattle.exact_steps.specs.Domains.{variable, AreDomains, family}
use Rattle.exact_steps.specs.Steps.{narrowed_in}
use Rattle.exact_steps.proofs.Wanted.{family_at}
use Rattle.problem_rules.specs.Posed.{problem_of}
use Rattle.problem_rules.proofs.Variables.{constraint_here}
use Rattle.propagators.specs.Compiled.{CompiledState, IsCompiled}
use Rattle.constraint_queue.specs.Queue.{QueueState, HasFlag, Reads, flag_count, HasNoFlags, IsTakenFrom}
use Rattle.domain_trail.specs.Trail.{TrailState}
use Rattle.box_clauses.specs.declared.store.StoredBox.{StoredBox}
use Rattle.running_boxes.specs.declared.beginning.Conflict.{Conflict}
use Rattle.running_boxes.specs.declared.beginning.Conflict.TheVariants as conflict
use Rattle.propagation.specs.Quiet.{IsQueueOf, IsSettledAt, AreSettled, IsQuietAt, AreAllQuiet}
use Rattle.propagation.specs.Work.{constraint_in, IsUnitQuiet, IsConstraintQuiet, values_left, HasStepped, IsStepped, numbered, AreQuietBut, AreQuietApart, AreStirred, IsUnturned, IsTurned, IsTurn, IsCalm, work, IsNearer}
use Rattle.propagation.specs.Laws.{BoxLaws}
use Rattle.propagation.specs.declared.turning.Turned.TheVariants as turned
use Rattle.exact_steps.specs.declared.steps.StepResult.TheVariants as step
use Rattle.propagation.proofs.Settling.{quiet_alike, member_cases, there, scopes_count}

-- ---- the constraint of a unit

unit_cases : (unit : Conflict) (d : ℕ) → (unit ≡ conflict.Constraint (numbered d)) ⊎ (constraint_in unit ≢ Some (numbered d))
unit_cases (conflict.Constraint c) d = elim (cases_eq c.0 d) [
  | inl same ↦ inl (ap (λ n. conflict.Constraint (numbered n)) same)
  | inr other ↦ inr (λ e. other (let is : c ≡ numbered d = cc in ap (λ (x : ConId). x.0) is))
]
unit_cases (conflict.Box b) d = inr (λ e. cc)

-- of a box nothing is left out
pub but_none : (p : Problem) (f : ℕ → Value → Bool) (q : QueueState) (unit : Conflict) → AreQuietApart p f q → AreQuietBut p f q unit
but_none p f q unit settled d within other none = settled d within none

-- ---- a constraint loses its flag

pub flag_known : (l : LayoutState) (p : Problem) (t : Table) (k : CompiledState) (q : QueueState) (c : ℕ) → IsCompiled l p t k → IsQueueOf k q → HasFlag q c → c < length p.constraints
flag_known l p t k q c is queue had = elim (cases_lt c (length q.flags)) [
  | inl less ↦ subst (λ n. c < n) (queue.long ∙ scopes_count l p t k is) less
  | inr past ↦ absurd (both_ways (get_or q.flags c false) (get_or_past q.flags c false past) had)
]

pub but_taken : (p : Problem) (f : ℕ → Value → Bool) (q0 q1 : QueueState) (c : ConId) → IsTakenFrom q0 c q1 → AreQuietApart p f q0 → AreQuietBut p f q1 (conflict.Constraint c)
but_taken p f q0 q1 c is settled d within other none =
    let apart : d ≡ c.0 → ⊥ = λ e. other (ap (λ n. Some (numbered n)) (sym e)) in
    settled d within (λ had. none (subst (λ (q : QueueState). HasFlag q d) (sym is.new_is) (get_or-set_other q0.flags c.0 d false false apart ∙ had)))

pub queue_taken : (k : CompiledState) (q0 q1 : QueueState) (c : ConId) → IsTakenFrom q0 c q1 → IsQueueOf k q0 → IsQueueOf k q1
queue_taken k q0 q1 c is queue = record {
  scopes = ap (λ (q : QueueState). q.scopes) is.new_is ∙ queue.scopes;
  long = ap (λ (q : QueueState). length q.flags) is.new_is ∙ length-set q0.flags c.0 false ∙ queue.long;
}

pub queue_stirred : (k : CompiledState) (q0 q1 : QueueState) → q1.scopes ≡ q0.scopes → length q1.flags ≡ length q0.flags → IsQueueOf k q0 → IsQueueOf k q1
queue_stirred k q0 q1 scopes long queue = record { scopes = scopes ∙ queue.scopes; long = long ∙ queue.long }

-- ---- the turn of a unit

-- a constraint reads the variables of its scope
reads : (p : Problem) (l : LayoutState) (t : Table) (k : CompiledState) (q : QueueState) (d u : ℕ) → IsCompiled l p t k → IsQueueOf k q → d < length p.constraints → (problem_of p).scope d u ≡ true → Reads q d (variable u)
reads p l t k q d u is queue within scoped =
    let e = there l p t k d is within in
    let rule = constraint_here p l d e.constraint e.scope is.legal is.kinds e.at e.entry_is.is_scope in
    let scope_is : get_or q.scopes d [] ≡ e.scope = ap (λ (ss : List (List VarId)). get_or ss d []) queue.scopes ∙ get_or_from_slice_get k.scopes d e.scope [] e.scope_at in
    subst (λ s. Contains s (variable u)) (sym scope_is) ((rule.scoped u).0 scoped)

module _ (p : Problem) (l : LayoutState) (t u : Table) (stored : List StoredBox) (unit : Conflict) (old new : TrailState) (q0 : QueueState) (settled : AreQuietBut p (family l t old.domains) q0 unit) where
  pub turned_same : IsStepped p l t u stored unit old new step.Same → IsTurn p l t u stored unit old new q0 q0 turned.Same
  turned_same h = (
    record {
      trail = h.0;
      values = h.1;
      queue = refl;
      settled = λ d within none. elim (unit_cases unit d) [
        | inl same ↦ subst (IsUnitQuiet p l u stored (family l u new.domains)) same h.2
        | inr other ↦ subst (λ f. IsQuietAt p f d) (sym h.1) (settled d within other none)
      ];
    },
    h.2,
  )

  pub turned_narrowed : (s : Table) (k : CompiledState) (kept : List (VarId × Ref)) (q1 : QueueState) → IsCompiled l p s k → IsQueueOf k q0 → HasStepped p l t u unit old new kept → AreStirred q0 q1 (constraint_in unit) kept
      → IsTurned p l t u old new q1
  turned_narrowed s k kept q1 is queue h stirred = record {
    fewer = h.fewer;
    settled = λ d within none. elim (unit_cases unit d) [
      | inl same ↦ subst (IsConstraintQuiet p (family l u new.domains)) same h.quiet
      | inr other ↦ quiet_alike p d (family l t old.domains) (family l u new.domains)
          (λ w scoped. elim (member_cases (narrowed_in kept) (variable w)) [
            | inl narrowed ↦ absurd (none (stirred.readers (variable w) d narrowed (reads p l s k q0 d w is queue within scoped) other))
            | inr apart ↦ h.others w apart
          ])
          (settled d within other (λ had. none (stirred.still d had)))
    ];
  }

-- ---- the beginning and the end

-- a constraint that is settled is quiet, where each variable has a value
module _ (l : LayoutState) (p : Problem) (t : Table) (domains : List Ref) (c : ℕ) (are : AreDomains l t domains) (h : IsSettledAt p (family l t domains) c) where
  by_scope : (scope : List VarId) → ((v : ℕ) → ((problem_of p).scope c v ≡ true) ↔ Contains scope (variable v)) → ((v : VarId) → Contains scope v → v.0 < length l.kinds) → IsQuietAt p (family l t domains) c
  by_scope [] scoped known =
      let none : (v : ℕ) → (problem_of p).scope c v ≡ false = λ v. elim (cases_Bool ((problem_of p).scope c v)) [
        | inl held ↦ absurd (nothing_in_empty (variable v) ((scoped v).0 held))
        | inr out ↦ out
      ] in
      let some = h.constant none in
      record {
        stays = h.stays;
        values = some.0;
        inside = λ v held. absurd (both_ways ((problem_of p).scope c v) (none v) held);
        holds = some.1;
      }
  by_scope (v ∷ scope) scoped known =
      let head = in_head v scope in
      let within : v.0 < length domains = subst (λ n. v.0 < n) (sym are.long) (known v head) in
      let at = slice_get-get_or domains v.0 Zero within in
      let some = (are.each v (get_or domains v.0 Zero) at).some in
      let has : family l t domains v.0 some.0 ≡ true = subst (λ (s : Value → Bool). s some.0 ≡ true) (sym (family_at l t domains v (get_or domains v.0 Zero) at)) some.1 in
      let e : rules.Extends (problem_of p) c (family l t domains) v.0 some.0 = h.stays v.0 some.0 ((scoped v.0).1 head) has in
      record { stays = h.stays; values = e.values; inside = e.inside; holds = e.holds }

pub quiet_from_settled : (l : LayoutState) (p : Problem) (t : Table) (k : CompiledState) (domains : List Ref) (c : ℕ) → IsCompiled l p t k → AreDomains l t domains → c < length p.constraints → IsSettledAt p (family l t domains) c
    → IsQuietAt p (family l t domains) c
quiet_from_settled l p t k domains c is are within h =
    let e = there l p t k c is within in
    by_scope l p t domains c are h e.scope (constraint_here p l c e.constraint e.scope is.legal is.kinds e.at e.entry_is.is_scope).scoped
    (λ v m. All-contains (λ (v : VarId). v.0 < length l.kinds) e.scope v e.entry_is.known m)

pub quiet_at_once : (l : LayoutState) (p : Problem) (t : Table) (k : CompiledState) (domains : List Ref) (q : QueueState) → IsCompiled l p t k → AreDomains l t domains → AreSettled p (family l t domains) q
    → AreQuietApart p (family l t domains) q
quiet_at_once l p t k domains q is are settled d within none = quiet_from_settled l p t k domains d is are within (settled d within none)

-- where no constraint has a flag, all is quiet
pub all_quiet : (laws : BoxLaws) (p : Problem) (l : LayoutState) (t : Table) (stored : List StoredBox) (s : TrailState) (q : QueueState) → IsCalm p l t stored s q → HasNoFlags q → AreAllQuiet p l t stored s.domains
all_quiet laws p l t stored s q calm none = record {
  constraints = λ c within. calm.settled c within (none c);
  boxes = λ b is. let at = laws.each l t stored b is in subst (λ x. IsBoxSame x (family l t s.domains)) at.2 (calm.boxes at.0 at.1);
}

-- ---- the work

less_work : (a b n x y : ℕ) → a < b → x ≤ n → a * (n + 1) + x ≤ b * (n + 1) + y
less_work a b n x y less most =
    let next : a + 1 ≤ b = omega (arith, less) in
    let times : (a + 1) * (n + 1) ≤ b * (n + 1) = mul-le-mul_right (n + 1) next in
    let split : (a + 1) * (n + 1) ≡ a * (n + 1) + (n + 1) = omega arith in
    omega (arith, times, split, most)

pub nearer_by_values : (p : Problem) (l : LayoutState) (s t u : Table) (k : CompiledState) (x y : TrailState) (q0 q1 : QueueState) → IsCompiled l p s k → IsQueueOf k q1 → values_left p l u y < values_left p l t x
    → work p l u y q1 ≤ work p l t x q0
nearer_by_values p l s t u k x y q0 q1 is queue less =
    let most = count_by-le-length (λ (b : Bool). b) q1.flags in
    let long : length q1.flags ≡ length p.constraints = queue.long ∙ scopes_count l p s k is in
    less_work (values_left p l u y) (values_left p l t x) (length p.constraints) (flag_count q1) (flag_count q0) less (subst (λ n. flag_count q1 ≤ n) long most)

pub nearer_after : (p : Problem) (l : LayoutState) (s t u : Table) (k : CompiledState) (x y : TrailState) (q0 q1 : QueueState) (o : Option Conflict) → IsCompiled l p s k → IsQueueOf k q1
    → values_left p l u y < values_left p l t x → IsNearer p l t u x y q0 q1 o
nearer_after p l s t u k x y q0 q1 None is queue less = nearer_by_values p l s t u k x y q0 q1 is queue less
nearer_after p l s t u k x y q0 q1 (Some c) is queue less = tt

pub nearer_unturned : (p : Problem) (l : LayoutState) (t u : Table) (x y : TrailState) (q0 q1 : QueueState) → IsUnturned p l t u x y q0 q1 → work p l u y q1 ≤ work p l t x q0
nearer_unturned p l t u x y q0 q1 is =
    let same : work p l u y q1 ≡ work p l t x q0
    = ap (λ f. total (problem_of p) f * (length p.constraints + 1) + flag_count q1) is.values ∙ ap (λ (q : QueueState). work p l t x q) is.queue in
    omega (arith, same)

pub work_falls : (w x m n : ℕ) → w ≤ x + m → m + 1 ≡ n → w < x + n
work_falls w x m n le next = omega (arith, le, next)
