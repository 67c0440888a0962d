-- The trail of the search: its entries, newest first, beside the family that they lead to, and the stored boxes.
-- Source: this project's own (the trail of a conflict-driven search, with sets in place of literals).
use Rattle.std.specs.Prelude.{◌≡◌, ℕ, ◌+◌, ◌<◌, ◌≤◌, nat_lt, Bool, true, cond, List, [], ◌∷◌, ◌⊎◌}
use Rattle.search_rules.specs.Family.{Lies, Leaves, HasValue, put}
use Rattle.search_rules.specs.Problem.{Problem, IsNarrowed, IsLeft}
use Rattle.search_rules.specs.Box.{IsBoxNarrowed, IsBoxSame}

-- why a variable's set was made smaller
pub data Reason (X : Type 0) : Type 0 where
  Decision : Reason X
  ByConstraint : ℕ → Reason X
  ByBox : (ℕ → X → Bool) → Reason X

-- the set of the variable from before, and the decision level of the entry
pub record Entry (X : Type 0) : Type 0 where
  pub var : ℕ
  pub before : X → Bool
  pub level : ℕ
  pub reason : Reason X

pub record Stored (X : Type 0) : Type 0 where
  pub sides : ℕ → X → Bool
  pub learned : Bool

-- the box is one of the stored boxes; it is one of the learned ones
abbrev pub IsStored : {X : Type 0} → List (Stored X) → (ℕ → X → Bool) → Type 0
IsStored [] b = ⊥
IsStored (s ∷ ss) b = (s.sides ≡ b) ⊎ IsStored ss b

abbrev pub IsLearned : {X : Type 0} → List (Stored X) → (ℕ → X → Bool) → Type 0
IsLearned [] b = ⊥
IsLearned (s ∷ ss) b = ((s.learned ≡ true) × (s.sides ≡ b)) ⊎ IsLearned ss b

-- the family just before the entry
abbrev pub undo : {X : Type 0} → (ℕ → X → Bool) → Entry X → ℕ → X → Bool
undo f e = put f e.var e.before

-- the level of the newest entry, 0 where there is none
abbrev pub top : {X : Type 0} → List (Entry X) → ℕ
top [] = 0
top (e ∷ es) = e.level

-- the family at the end of level `k`, and the entries up to there
abbrev pub back : {X : Type 0} → ℕ → List (Entry X) → (ℕ → X → Bool) → ℕ → X → Bool
back k [] f = f
back k (e ∷ es) f = cond (nat_lt k e.level) (back k es (undo f e)) f

abbrev pub cut : {X : Type 0} → ℕ → List (Entry X) → List (Entry X)
cut k [] = []
cut k (e ∷ es) = cond (nat_lt k e.level) (cut k es) (e ∷ es)

-- the entry of a narrowing of `v`, at the newest level, and that of a decision, which opens a level
abbrev pub narrowing_entry : {X : Type 0} → List (Entry X) → (ℕ → X → Bool) → ℕ → Reason X → Entry X
narrowing_entry es f v r = record { var = v; before = f v; level = top es; reason = r }

abbrev pub decision_entry : {X : Type 0} → List (Entry X) → (ℕ → X → Bool) → ℕ → Entry X
decision_entry es f v = record { var = v; before = f v; level = top es + 1; reason = Decision }

-- a non-empty proper part of a set
pub record IsPart {X : Type 0} (s t : X → Bool) : Type 0 where
  pub lies : Lies s t
  pub proper : Leaves t s
  pub has_value : HasValue s

-- The entry leaves its variable a non-empty proper part of its set. Its level is that of the entry before it, or one
-- more exactly where it is a decision. So level 0 has no decision, and a decision is the first entry of its level.
pub record IsReplayed {X : Type 0} (p : Problem X) (e : Entry X) (es : List (Entry X)) (f : ℕ → X → Bool) : Type 0 where
  pub known : e.var < p.variables
  pub part : IsPart (f e.var) e.before
  pub low : top es ≤ e.level
  pub high : e.level ≤ top es + 1
  pub decided : e.reason ≡ Decision → e.level ≡ top es + 1
  pub opens : e.level ≡ top es + 1 → e.reason ≡ Decision

-- replayed from the initial family, the entries lead to `f`
abbrev pub Replays : {X : Type 0} → Problem X → List (Entry X) → (ℕ → X → Bool) → Type 0
Replays p [] f = f ≡ p.initial
Replays p (e ∷ es) f = IsReplayed p e es f × Replays p es (undo f e)

-- what the reason says of the family `g` just before and the set `s` that it left of `v`
abbrev pub IsReason : {X : Type 0} → Problem X → List (Stored X) → Reason X → (ℕ → X → Bool) → ℕ → (X → Bool) → Type 0
IsReason p boxes Decision g v s = p.decides g v s
IsReason p boxes (ByConstraint c) g v s = (c < p.constraints) × IsNarrowed p c g v s
IsReason p boxes (ByBox b) g v s = IsStored boxes b × IsBoxNarrowed b g v s

-- every constraint's step and every learned box's step leave the family as it is
pub record IsQuiet {X : Type 0} (p : Problem X) (boxes : List (Stored X)) (g : ℕ → X → Bool) : Type 0 where
  pub constraints : (c : ℕ) → c < p.constraints → IsLeft p c g
  pub learned : (b : ℕ → X → Bool) → IsLearned boxes b → IsBoxSame b g

pub record IsReasoned {X : Type 0} (p : Problem X) (boxes : List (Stored X)) (e : Entry X) (f : ℕ → X → Bool) : Type 0 where
  pub made : IsReason p boxes e.reason (undo f e) e.var (f e.var)
  pub quiet : e.reason ≡ Decision → IsQuiet p boxes (undo f e)

-- each entry has its reason, and each decision was made in a family that everything leaves as it is
abbrev pub HaveReasons : {X : Type 0} → Problem X → List (Stored X) → List (Entry X) → (ℕ → X → Bool) → Type 0
HaveReasons p boxes [] f = Unit {0}
HaveReasons p boxes (e ∷ es) f = IsReasoned p boxes e f × HaveReasons p boxes es (undo f e)

pub record IsTrail {X : Type 0} (p : Problem X) (boxes : List (Stored X)) (es : List (Entry X)) (f : ℕ → X → Bool) : Type 0 where
  pub replays : Replays p es f
  pub reasons : HaveReasons p boxes es f
