-- Several machines that are run together, and the rows for that; words of this crate's private helpers. A joint state has, for each machine that is
-- not lost, its number and its state.
use Rattle.std.specs.Prelude.{◌≡◌, ◌⊎◌, ℕ, ◌+◌, ◌<◌, ◌↔◌, Bool, true, false, List, [], ◌∷◌, ◌++◌, Some, length, slice_get, All, Any, Contains}
use Rattle.std.specs.List.{AllZip}
use Rattle.diagram_arena.specs.Table.{Word}
use Rattle.bit_machine.specs.Rules.{Rules, run, accepts}
use Rattle.choice_machine.specs.declared.rows.Row.{Row}
use Rattle.choice_machine.specs.Choices.{IsLost, IsComplete, row_rules}

-- the machine with this number is so
abbrev pub IsNumbered : {X : Type 0} → List X → ℕ → (X → Type 0) → Type 0
IsNumbered {X} ms i P = (m : X) × (slice_get ms i ≡ Some m) × P m

-- each state of a joint state may occur before the bit at a place
abbrev pub AreStatesAt : {X Q : Type 0} → (X → ℕ → Q → Type 0) → List X → ℕ → List (ℕ × Q) → Type 0
AreStatesAt occurs ms at joint = All (λ p. IsNumbered ms p.0 (λ m. occurs m at p.1)) joint

-- an item was appended, or it is lost
abbrev pub AppendsUnless : {P : Type 0} → Type 0 → List P → List P → P → Type 0
AppendsUnless lost old new p = (new ≡ old ++ p ∷ []) ⊎ ((new ≡ old) × lost)

-- the state of one machine after a bit was appended, unless it is lost
abbrev pub AppendsNext : {X Q : Type 0} → (X → Rules Q) → List X → ℕ → Bool → ℕ × Q → List (ℕ × Q) → List (ℕ × Q) → Type 0
AppendsNext rules ms at v p old new =
    IsNumbered ms p.0 (λ m. AppendsUnless (IsLost (rules m) (at + 1) ((rules m).step at p.1 v)) old new (p.0, (rules m).step at p.1 v))

-- the joint state of the first n machines at their start
pub record AreStarts {X Q : Type 0} (rules : X → Rules Q) (ms : List X) (n : ℕ) (joint : List (ℕ × Q)) : Type 0 where
  pub only : (p : ℕ × Q) → Contains joint p → IsNumbered ms p.0 (λ m. p.1 ≡ (rules m).start)
  pub every : (i : ℕ) (m : X) → i < n → slice_get ms i ≡ Some m → Contains joint (i, (rules m).start) ⊎ IsLost (rules m) 0 (rules m).start

-- the joint state after the bit at a place
pub record IsNext {X Q : Type 0} (rules : X → Rules Q) (ms : List X) (at : ℕ) (v : Bool) (joint next : List (ℕ × Q)) : Type 0 where
  pub only : (p : ℕ × Q) → Contains next p → (q : Q) × Contains joint (p.0, q) × IsNumbered ms p.0 (λ m. p.1 ≡ (rules m).step at q v)
  pub every : (i : ℕ) (q : Q) (m : X) → Contains joint (i, q) → slice_get ms i ≡ Some m
      → Contains next (i, (rules m).step at q v) ⊎ IsLost (rules m) (at + 1) ((rules m).step at q v)

-- the joint state after a word's bits, where the machines that are left out accept nothing, whatever bits of the word come after
pub record Follows {X Q : Type 0} (rules : X → Rules Q) (ms : List X) (bits : List ℕ) (w : Word) (joint : List (ℕ × Q)) : Type 0 where
  pub only : (p : ℕ × Q) → Contains joint p → IsNumbered ms p.0 (λ m. p.1 ≡ run (rules m) 0 (rules m).start bits w)
  pub every : (i : ℕ) (m : X) → slice_get ms i ≡ Some m
      → Contains joint (i, run (rules m) 0 (rules m).start bits w)
      ⊎ ((more : List ℕ) → (rules m).accept (run (rules m) (length bits) (run (rules m) 0 (rules m).start bits w) more w) ≡ false)

-- one of a joint state's machines accepts
abbrev pub SomeAccepts : {X Q : Type 0} → (X → Rules Q) → List X → List (ℕ × Q) → Type 0
SomeAccepts rules ms joint = Any (λ p. IsNumbered ms p.0 (λ m. (rules m).accept p.1 ≡ true)) joint

-- rows were appended, one for each of these items
abbrev pub AppendsRows : {J : Type 0} → (J → Row → Type 0) → List J → List Row → List Row → Type 0
AppendsRows IsRow joints old new = (rows : List Row) × (new ≡ old ++ rows) × AllZip IsRow joints rows

module _ {X Q J : Type 0} (rules : X → Rules Q) (states : J → List (ℕ × Q)) (ms : List X) where
  -- of the joint states of the next layer the one with this number is that after the bit
  abbrev pub HasNext : ℕ → Bool → List (ℕ × Q) → List J → ℕ → Type 0
  HasNext at v joint nexts k = (next : J) × (slice_get nexts k ≡ Some next) × IsNext rules ms at v joint (states next)

  -- the number of that after the bit, where the next layer's numbers begin with `base`
  abbrev pub LeadsTo : ℕ → Bool → ℕ → List (ℕ × Q) → List J → ℕ → Type 0
  LeadsTo at v base joint nexts target = (k : ℕ) × (target ≡ base + k) × HasNext at v joint nexts k

  -- the row of a joint state: where its bits lead to
  abbrev pub IsRowOf : ℕ → ℕ → List J → J → Row → Type 0
  IsRowOf at base nexts joint row = LeadsTo at false base (states joint) nexts row.on_false × LeadsTo at true base (states joint) nexts row.on_true

  -- the row of a joint state of the last layer
  abbrev pub IsEndOf : J → Row → Type 0
  IsEndOf joint row = (row.on_false ≡ 0) × (row.on_true ≡ 0) × ((row.accepts ≡ true) ↔ SomeAccepts rules ms (states joint))

  -- the layer before the bit at a place: the joint states to which the rows before it lead, with each word the joint state after its bits
  pub record IsLayer (occurs : X → ℕ → Q → Type 0) (rows : List Row) (at : ℕ) (joints : List J) : Type 0 where
    pub occur : All (λ joint. AreStatesAt occurs ms at (states joint)) joints
    pub some : 0 < length rows + length joints
    pub within : All (λ r. (r.on_false < length rows + length joints) × (r.on_true < length rows + length joints)) rows
    pub reached : (more : List Row) (bits : List ℕ) (w : Word) → length bits ≡ at
        → (k : ℕ) × (joint : J) × (slice_get joints k ≡ Some joint) × (run (row_rules (rows ++ more)) 0 0 bits w ≡ length rows + k) × Follows rules ms bits w (states joint)

-- the rows are those of an automaton that accepts, of lists of so many bits, what one of the machines accepts
pub record AreRowsOfChoice {X Q : Type 0} (rules : X → Rules Q) (ms : List X) (places : ℕ) (rows : List Row) : Type 0 where
  pub complete : IsComplete rows
  pub means : (bits : List ℕ) (w : Word) → length bits ≡ places → (accepts (row_rules rows) bits w ≡ true) ↔ Any (λ m. accepts (rules m) bits w ≡ true) ms
