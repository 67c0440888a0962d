-- A decision over diagrams, the nodes that it may make, and single values. This project's own; that a search over set
-- domains splits a domain at one bit of its diagram is of Hawkins, Lagoon and Stuckey, JAIR 2005.
use Rattle.std.specs.Prelude.{◌≡◌, ℕ, ◌<◌, ◌≤◌, Bool, true, List, [], ◌∷◌, None, length}
use Rattle.set_meaning.specs.declared.kinds.Value.{Value}
use Rattle.set_meaning.specs.declared.problems.VarId.{VarId}
use Rattle.set_meaning.specs.declared.problems.Problem.{Problem}
use Rattle.bit_layout.specs.Order.{LayoutState}
use Rattle.diagram_arena.specs.declared.nodes.NodeId.{NodeId}
use Rattle.diagram_arena.specs.declared.nodes.Ref.{Ref}
use Rattle.diagram_arena.specs.declared.nodes.Ref.TheVariants.{Node}
use Rattle.diagram_arena.specs.Table.{Words, Table, IsLive}
use Rattle.diagram_arena.specs.Part.{IsPartOf}
use Rattle.diagram_arena.specs.Reach.{Bits, ReachesOnly}
use Rattle.search_rules.specs.Trail.{IsPart}
use Rattle.search_rules.specs.Problem.{IsSingle}
use Rattle.scope_words.specs.Words.{AreWordsOf, IsBitOf}
use Rattle.exact_steps.specs.Domains.{AtVariable, values_in, IsDomain, family}
use Rattle.problem_rules.specs.Branching.{IsDecision}
use Rattle.problem_rules.specs.Parts.{values_of}
use Rattle.problem_rules.specs.Posed.{problem_of}

-- each variable below n has at most one value
abbrev pub HaveOneValueBelow : ℕ → (ℕ → Value → Bool) → Type 0
HaveOneValueBelow n f = (u : ℕ) (x y : Value) → u < n → f u x ≡ true → f u y ≡ true → x ≡ y

-- The branching rule takes `v`, at or after `from`, and `r` is the new domain of it: a proper part of what the domains
-- have there.
pub record IsDecided (l : LayoutState) (t u : Table) (domains : List Ref) (from : ℕ) (v : VarId) (r : Ref) : Type 0 where
  pub later : from ≤ v.0
  pub known : v.0 < length l.kinds
  pub domain : IsDomain l u v r
  pub part : IsPart (values_in l u v r) (family l t domains v.0)
  pub decision : IsDecision l.kinds (family l t domains) v.0 (values_in l u v r)

-- W is a part of the set of the words of the values that the decision keeps
pub record IsPartOfDecision (l : LayoutState) (t : Table) (domains : List Ref) (W : Words) : Type 0 where
  pub variable : VarId
  pub known : variable.0 < length l.kinds
  pub values : Value → Bool
  pub decision : IsDecision l.kinds (family l t domains) variable.0 values
  pub set : Words
  pub words : AreWordsOf l (variable ∷ []) (AtVariable variable (λ x. values x ≡ true)) set
  pub part : IsPartOf W set

-- each new node reaches only bits of one variable
abbrev pub NewReachOneVariable : LayoutState → Table → Table → Type 0
NewReachOneVariable l t u =
    (i : NodeId) → t i ≡ None → IsLive u (Node i)
    → (v : VarId) × ((bits : Bits) → ((b : ℕ) → IsBitOf l (v ∷ []) b → bits b ≡ true) → ReachesOnly u bits (Node i))

-- an assignment with these values takes the one value of each variable of the family, and there is one with them
pub record AreSingleValues (p : Problem) (f : ℕ → Value → Bool) (values : List Value) : Type 0 where
  pub each : (a : ℕ → Value) → values_of p a ≡ values → IsSingle (problem_of p) f a
  pub some : (a : ℕ → Value) × (values_of p a ≡ values)
