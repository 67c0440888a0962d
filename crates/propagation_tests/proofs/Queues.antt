-- The queue as it is made of the compiled scopes, for the tests.
use Rattle.std.proofs.Common.{◌≡◌, ℕ, ◌+◌, ◌<◌, ◌≤◌, Bool, List, [], ◌∷◌, ◌++◌, length, get_or, take, Some, sym, ap, ◌∙◌, subst}
use Rattle.std.specs.Prelude.{slice_get}
use Rattle.std.specs.List.{All}
use Rattle.std.proofs.lemmas.List.{take_more, take_all}
use Rattle.std.proofs.lemmas.Option.{slice_get_within, get_or_from_slice_get}
use Rattle.set_meaning.specs.declared.kinds.Value.{Value}
use Rattle.set_meaning.specs.declared.problems.VarId.{VarId}
use Rattle.set_meaning.specs.declared.problems.Problem.{Problem}
use Rattle.bit_layout.specs.Order.{LayoutState}
use Rattle.diagram_arena.specs.Table.{Table}
use Rattle.propagators.specs.Compiled.{CompiledState, IsCompiled}
use Rattle.constraint_queue.specs.Queue.{QueueState, HasFlag}
use Rattle.propagation.specs.Quiet.{AreSettled}
use Rattle.propagation.proofs.Settling.{there}

pub scope_more : (scopes : List (List VarId)) (i : ℕ) (scope : List VarId) (front : List (List VarId)) → slice_get scopes i ≡ Some scope → front ≡ take i scopes → front ++ scope ∷ [] ≡ take (i + 1) scopes
scope_more scopes i scope front at is =
    ap (λ (ss : List (List VarId)). ss ++ scope ∷ []) is
    ∙ ap (λ (s : List VarId). take i scopes ++ s ∷ []) (sym (get_or_from_slice_get scopes i scope [] at))
    ∙ sym (take_more scopes i [] (slice_get_within scopes i scope at))

pub scopes_known : (l : LayoutState) (p : Problem) (t : Table) (k : CompiledState) → IsCompiled l p t k → length k.scopes ≡ length p.constraints → All (All (λ (v : VarId). v.0 < length p.kinds)) k.scopes
scopes_known l p t k is long i d within =
    let e = there l p t k i is (subst (λ n. i < n) long within) in
    subst (All (λ (v : VarId). v.0 < length p.kinds)) (sym (get_or_from_slice_get k.scopes i e.scope d e.scope_at))
    (subst (λ kinds. All (λ (v : VarId). v.0 < length kinds) e.scope) is.kinds e.entry_is.known)

pub scopes_all : (p : Problem) (k : CompiledState) (n : ℕ) (items : List (List VarId)) → length k.scopes ≡ length p.constraints → length p.constraints ≤ n → items ≡ take n k.scopes → items ≡ k.scopes
scopes_all p k n items count past is = is ∙ take_all n k.scopes (subst (λ m. m ≤ n) (sym count) past)

-- where each constraint has a flag, nothing is asked
pub all_flagged : (p : Problem) (f : ℕ → Value → Bool) (q : QueueState) → ((c : ℕ) → c < length p.constraints → HasFlag q c) → AreSettled p f q
all_flagged p f q all c within none = absurd (none (all c within))
