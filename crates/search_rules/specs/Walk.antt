-- The walk from a conflict back over the trail, and the box that it derives.
-- Source: this project's own (conflict analysis to a first unique implication point, with boxes in place of clauses).
use Rattle.std.specs.Prelude.{◌≡◌, ◌≢◌, ℕ, ◌<◌, ◌==◌, Bool, cond, not, ◌&&◌, List, [], ◌∷◌, ◌⊎◌}
use Rattle.search_rules.specs.Family.{Lies, Leaves, AllLie, IsWithin}
use Rattle.search_rules.specs.Problem.{Problem, IsViolated}
use Rattle.search_rules.specs.Box.{resolvent}
use Rattle.search_rules.specs.Trail.{Reason, Decision, ByConstraint, ByBox, Entry, Stored, IsStored, IsTrail, undo, back}

-- each scope variable's set as its side, the initial set elsewhere
abbrev pub conflict_box : {X : Type 0} → Problem X → ℕ → (ℕ → X → Bool) → ℕ → X → Bool
conflict_box p c f = λ u x. cond (p.scope c u) (f u x) (p.initial u x)

-- the removed values as the side of the narrowed variable, the other scope variables' sets just before the narrowing
abbrev pub narrowing_box : {X : Type 0} → Problem X → ℕ → (ℕ → X → Bool) → ℕ → (X → Bool) → ℕ → X → Bool
narrowing_box p c g v s = λ u x. cond (u == v) (g u x && not (s x)) (conflict_box p c g u x)

-- The reason box of an entry that left `s` of the set of `v` in the family `g`. A decision has none, and the walk never
-- asks for it.
abbrev pub reason_box : {X : Type 0} → Problem X → Reason X → (ℕ → X → Bool) → ℕ → (X → Bool) → ℕ → X → Bool
reason_box p Decision g v s = p.initial
reason_box p (ByConstraint c) g v s = narrowing_box p c g v s
reason_box p (ByBox b) g v s = b

-- `b` is the conflict box of a constraint that the family violates, or a stored box in whose sides the family lies
pub data IsConflictBox {X : Type 0} (p : Problem X) (boxes : List (Stored X)) (f : ℕ → X → Bool) : (ℕ → X → Bool) → Type 0 where
  of_constraint : {c : ℕ} → c < p.constraints → IsViolated p c f → IsConflictBox p boxes f (conflict_box p c f)
  of_box : {b : ℕ → X → Bool} → IsStored boxes b → AllLie f b → IsConflictBox p boxes f b

-- the set of the entry from before does not lie in the box's side
abbrev pub Matters : {X : Type 0} → Entry X → (ℕ → X → Bool) → Type 0
Matters e b = Leaves e.before (b e.var)

-- some entry of `v` at level `l` matters
abbrev pub SomeMatters : {X : Type 0} → List (Entry X) → (ℕ → X → Bool) → ℕ → ℕ → Type 0
SomeMatters [] b l v = ⊥
SomeMatters (e ∷ es) b l v = ((e.level ≡ l) × (e.var ≡ v) × Matters e b) ⊎ SomeMatters es b l v

-- each entry that matters is below level `l`, or one of `v` at that level
abbrev pub OnlyMatters : {X : Type 0} → List (Entry X) → (ℕ → X → Bool) → ℕ → ℕ → Type 0
OnlyMatters [] b l v = Unit {0}
OnlyMatters (e ∷ es) b l v =
    (Lies e.before (b e.var) ⊎ ((e.level < l) ⊎ ((e.level ≡ l) × (e.var ≡ v)))) × OnlyMatters es b l v

-- the walk stops: above level 0, all entries that matter at the highest level that still has one are of one variable
pub record Stops {X : Type 0} (es : List (Entry X)) (b : ℕ → X → Bool) (l v : ℕ) : Type 0 where
  pub above : 0 < l
  pub some : SomeMatters es b l v
  pub only : OnlyMatters es b l v

abbrev pub GoesOn : {X : Type 0} → List (Entry X) → (ℕ → X → Bool) → Type 0
GoesOn es b = (l v : ℕ) → Stops es b l v → ⊥

-- A walk that began at the entries `es`, the family `f` and the box `b` comes to further places with the entries that
-- are left, their family and the running box. An entry that matters is resolved with its reason box, another is passed.
pub data Walk {X : Type 0} (p : Problem X) (es : List (Entry X)) (f b : ℕ → X → Bool)
    : List (Entry X) → (ℕ → X → Bool) → (ℕ → X → Bool) → Type 0 where
  begin : Walk p es f b es f b
  pass : {e : Entry X} {rest : List (Entry X)} {g c : ℕ → X → Bool}
      → Walk p es f b (e ∷ rest) g c → GoesOn (e ∷ rest) c → Lies e.before (c e.var)
      → Walk p es f b rest (undo g e) c
  resolve : {e : Entry X} {rest : List (Entry X)} {g c : ℕ → X → Bool}
      → Walk p es f b (e ∷ rest) g c → GoesOn (e ∷ rest) c → Matters e c
      → Walk p es f b rest (undo g e) (resolvent c (reason_box p e.reason (undo g e) e.var (g e.var)) e.var)

-- The walk from some conflict of the trail stops with the box `b`, at the level `l` and for the variable `v`.
pub record Derives {X : Type 0} (p : Problem X) (boxes : List (Stored X)) (es : List (Entry X)) (f b : ℕ → X → Bool) (l v : ℕ)
    : Type 0 where
  pub first : ℕ → X → Bool
  pub conflict : IsConflictBox p boxes f first
  pub rest : List (Entry X)
  pub reached : ℕ → X → Bool
  pub walk : Walk p es f first rest reached b
  pub stops : Stops rest b l v

-- the walk from some conflict of the trail passes the first entry with the box `b`
pub record DerivesAtRoot {X : Type 0} (p : Problem X) (boxes : List (Stored X)) (es : List (Entry X)) (f b : ℕ → X → Bool)
    : Type 0 where
  pub first : ℕ → X → Bool
  pub conflict : IsConflictBox p boxes f first
  pub reached : ℕ → X → Bool
  pub walk : Walk p es f first [] reached b

-- `k` is the least level at which at most the set of `v` is not inside its side
pub record IsBackLevel {X : Type 0} (es : List (Entry X)) (f b : ℕ → X → Bool) (v k : ℕ) : Type 0 where
  pub others : (u : ℕ) → u ≢ v → Lies (back k es f u) (b u)
  pub least : (j : ℕ) → j < k → (u : ℕ) × (u ≢ v) × Leaves (back j es f u) (b u)

-- `k` is the level of the newest entry of another variable that matters, 0 where there is none
abbrev pub IsNewestOther : {X : Type 0} → List (Entry X) → (ℕ → X → Bool) → ℕ → ℕ → Type 0
IsNewestOther [] b v k = k ≡ 0
IsNewestOther (e ∷ es) b v k =
    ((e.var ≢ v) × Matters e b × (k ≡ e.level))
    ⊎ (((e.var ≡ v) ⊎ Lies e.before (b e.var)) × IsNewestOther es b v k)

-- the boxes hold the same assignments of initial values
abbrev pub AreAlike : {X : Type 0} → Problem X → (ℕ → X → Bool) → (ℕ → X → Bool) → Type 0
AreAlike {X} p b c = (a : ℕ → X) → IsWithin p.initial a → (IsWithin b a → IsWithin c a) × (IsWithin c a → IsWithin b a)

-- The box is walked: it holds the same assignments as the last box of a walk that stops above level 0, from a conflict of
-- some trail over these stored boxes.
pub record IsWalked {X : Type 0} (p : Problem X) (boxes : List (Stored X)) (b : ℕ → X → Bool) : Type 0 where
  pub entries : List (Entry X)
  pub family : ℕ → X → Bool
  pub trail : IsTrail p boxes entries family
  pub last : ℕ → X → Bool
  pub level : ℕ
  pub var : ℕ
  pub derives : Derives p boxes entries family last level var
  pub alike : AreAlike p b last

-- likewise for a walk that passes the first entry
pub record IsRootBox {X : Type 0} (p : Problem X) (boxes : List (Stored X)) (b : ℕ → X → Bool) : Type 0 where
  pub entries : List (Entry X)
  pub family : ℕ → X → Bool
  pub trail : IsTrail p boxes entries family
  pub last : ℕ → X → Bool
  pub derives : DerivesAtRoot p boxes entries family last
  pub alike : AreAlike p b last
