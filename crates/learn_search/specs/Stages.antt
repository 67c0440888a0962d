-- What a search stands at from its first `next` on. This project's own.
use Rattle.std.specs.Prelude.{◌≡◌, ℕ, ◌<◌, List, [], ◌∷◌, ◌++◌, map, reverse, length, Option, Some, None, Vec, ⊤}
use Rattle.std.specs.declared.alloc.Global.{Global}
use Rattle.set_meaning.specs.declared.kinds.Value.{Value}
use Rattle.set_meaning.specs.declared.problems.Problem.{Problem}
use Rattle.set_meaning.specs.Solutions.{CoverAll}
use Rattle.diagram_arena.specs.Arena.{table}
use Rattle.node_reclaim.specs.Pool.{PoolState}
use Rattle.node_reclaim.specs.Growth.{IsFull}
use Rattle.search_rules.specs.Problem.{IsSingle}
use Rattle.search_moves.specs.Answers.{HaveBoxes}
use Rattle.exact_steps.specs.Domains.{family}
use Rattle.problem_rules.specs.Parts.{values_of}
use Rattle.problem_rules.specs.Posed.{problem_of}
use Rattle.propagators.specs.Compiled.{CompiledState}
use Rattle.constraint_queue.specs.Queue.{QueueState, HasFlag}
use Rattle.search_state.specs.Readings.{boxes_of, IsLegalState}
use Rattle.propagation.specs.Quiet.{IsQueueOf}
use Rattle.search_turns.specs.States.{IsStanding, learned_count}
use Rattle.search_turns.specs.Outcomes.{IsSingleState}
use Rattle.learn_search.specs.declared.beginning.Begun.{Begun}
use Rattle.search_turns.specs.declared.outcomes.Found.{Found as Reached}
use Rattle.search_turns.specs.declared.outcomes.Found.TheVariants as reached
use Rattle.learn_search.specs.declared.search.SearchEnd.{SearchEnd}
use Rattle.learn_search.specs.declared.search.SearchEnd.TheVariants as end
use Rattle.learn_search.specs.declared.search.Found.{Found}
use Rattle.learn_search.specs.declared.search.Found.TheVariants as found

-- the queue is one of the compiled constraints, and each has its flag
pub record IsWholeQueue (p : Problem) (k : CompiledState) (q : QueueState) : Type 0 where
  pub queue : IsQueueOf k q
  pub flags : (c : ℕ) → c < length p.constraints → HasFlag q c

-- the search stands at its beginning: a legal state with no answers and no boxes, and every constraint waits
pub record IsBegun (p : Problem) (s : PoolState) (b : Begun) : Type 0 where
  pub standing : IsStanding p b.layout s b.compiled b.boxes b.trail
  pub legal : IsLegalState p b.layout (table s.arena) [] b.boxes b.trail
  pub empty : b.boxes ≡ []
  pub queue : IsWholeQueue p b.compiled b.queue

-- The answers given are those of a legal state, each with a stored box; the rules have them newest first.
pub record AreGiven (p : Problem) (s : PoolState) (b : Begun) (given : List (List Value)) : Type 0 where
  pub answers : List (ℕ → Value)
  pub are : given ≡ reverse (map (values_of p) answers)
  pub legal : IsLegalState p b.layout (table s.arena) answers b.boxes b.trail
  pub boxes : HaveBoxes (problem_of p) (boxes_of b.layout (table s.arena) b.boxes) answers

-- single values that everything leaves as they are were reached, and each answer given has its box stored
pub record IsReached (p : Problem) (s : PoolState) (b : Begun) (given : List (List Value)) : Type 0 where
  pub standing : IsStanding p b.layout s b.compiled b.boxes b.trail
  pub queue : IsQueueOf b.compiled b.queue
  pub state : IsSingleState p b.layout (table s.arena) b.boxes b.trail
  pub given_are : AreGiven p s b given

-- The search stands at its last answer: each variable's domain has just the answer's value, and everything leaves the
-- domains as they are. The answers before it have their boxes stored; its own comes with the next call.
pub record IsAtAnswer (p : Problem) (s : PoolState) (b : Begun) (given : List (List Value)) : Type 0 where
  pub before : List (List Value)
  pub reached : IsReached p s b before
  pub last : ℕ → Value
  pub single : IsSingle (problem_of p) (family b.layout (table s.arena) b.trail.domains) last
  pub are : given ≡ before ++ values_of p last ∷ []

-- what was found: such values, or that the answers given cover every solution
abbrev pub IsFoundAt : Problem → PoolState → Begun → List (List Value) → Reached → Type 0
IsFoundAt p s b given reached.Single = IsReached p s b given
IsFoundAt p s b given reached.Complete = CoverAll p given

-- before the first call, or at an answer; so many boxes are learned
abbrev pub IsStage : Problem → PoolState → Option Begun → List (List Value) → ℕ → Type 0
IsStage p s None given learned = (given ≡ []) × (learned ≡ 0)
IsStage p s (Some b) given learned = IsAtAnswer p s b given × (learned ≡ learned_count b.boxes)

-- after an answer the search stands at it
abbrev pub StandsAt : Problem → PoolState → Begun → List (List Value) → Found → Type 0
StandsAt p s b given (found.Answer values) = IsAtAnswer p s b (given ++ values.items ∷ [])
StandsAt p s b given found.Complete = ⊤

-- the values of each list
abbrev pub values_in_all : List (Vec Value Global) → List (List Value)
values_in_all answers = map (λ (values : Vec Value Global). values.items) answers

-- why a search ended
abbrev pub IsEndBy : PoolState → Option ℕ → ℕ → SearchEnd → Type 0
IsEndBy s conflicts learned end.Conflicts = conflicts ≡ Some learned
IsEndBy s conflicts learned end.Nodes = IsFull s
IsEndBy s conflicts learned end.Memory = ⊤
IsEndBy s conflicts learned end.Ended = ⊥

-- the search stands at an answer, whatever was given
abbrev pub IsAtSomeAnswer : Problem → PoolState → Begun → Type 0
IsAtSomeAnswer p s b = (given : List (List Value)) × IsAtAnswer p s b given
