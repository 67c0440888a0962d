-- The operations on sets of words, and what a call that makes nodes leaves.
use Rattle.std.specs.Prelude.{◌≡◌, ℕ, ◌≤◌, ◌==◌, Bool, true, false, not, ◌&&◌, ◌||◌, if◌then◌else◌, List, All, None}
use Rattle.std.specs.List.{list_all}
use Rattle.diagram_arena.specs.declared.nodes.NodeId.{NodeId}
use Rattle.diagram_arena.specs.declared.nodes.Ref.{Ref}
use Rattle.diagram_arena.specs.declared.nodes.Ref.TheVariants.{Node}
use Rattle.diagram_arena.specs.Table.{Word, Words, Table, has, IsLive, depth}
use Rattle.diagram_arena.specs.Part.{with_bit, IsPartOf}
use Rattle.diagram_arena.specs.Reach.{Bits}

-- intersection, union, difference and complement
abbrev pub both : Words → Words → Words
both V W = λ w. V w && W w

abbrev pub either : Words → Words → Words
either V W = λ w. V w || W w

abbrev pub without : Words → Words → Words
without V W = λ w. V w && not (W w)

abbrev pub complement : Words → Words
complement V = λ w. not (V w)

-- every word of the one set is in the other
abbrev pub Lies : Words → Words → Type 0
Lies V W = (w : Word) → V w ≡ true → W w ≡ true

-- some word of the one set is not in the other
abbrev pub Leaves : Words → Words → Type 0
Leaves V W = (w : Word) × (V w ≡ true) × (W w ≡ false)

-- a set has no word, or has one
abbrev pub HasNone : Words → Type 0
HasNone V = (w : Word) → V w ≡ false

abbrev pub HasSome : Words → Type 0
HasSome V = (w : Word) × (V w ≡ true)

-- the words that are in f and in each of gs
abbrev pub product_of : Table → Ref → List Ref → Words
product_of t f gs = λ w. has t f w && list_all (λ g. has t g w) gs

-- r asks no bit before f and gs do
abbrev pub IsAsDeepAsAll : Table → Ref → List Ref → ℕ → Type 0
IsAsDeepAsAll t f gs d = (b : ℕ) → b ≤ depth t f → All (λ g. b ≤ depth t g) gs → b ≤ d

-- all words with that value of the bit
abbrev pub words_with : ℕ → Bool → Words
words_with b v = λ w. if v then w b else not (w b)

-- the words of W whose bit is true, and those of V whose bit is false
abbrev pub joined : ℕ → Words → Words → Words
joined b V W = λ w. if w b then W w else V w

-- the words that are in V once the bit is set to this value: Bryant's restriction (1986)
abbrev pub restricted : Words → ℕ → Bool → Words
restricted V b v = λ w. V (with_bit w b v)

-- the bits of both sets; all bits of a set but one
abbrev pub common : Bits → Bits → Bits
common A B = λ b. A b && B b

abbrev pub all_but : ℕ → Bits → Bits
all_but a A = λ b. A b && not (b == a)

-- two words have the same values at these bits
abbrev pub Agree : Bits → Word → Word → Type 0
Agree bits w u = (b : ℕ) → bits b ≡ true → w b ≡ u b

-- P has just the words that agree at these bits with a word of V: the other bits are quantified existentially, as where
-- domains are narrowed (Hawkins, Lagoon and Stuckey, JAIR 2005)
pub record IsProjection (bits : Bits) (V P : Words) : Type 0 where
  pub sound : (w : Word) → P w ≡ true → (u : Word) × (V u ≡ true) × Agree bits w u
  pub whole : (w u : Word) → V u ≡ true → Agree bits w u → P w ≡ true

-- W is a part of the projection of a part of V
pub record IsPartOfProjection (bits : Bits) (W V : Words) : Type 0 where
  pub part : Words
  pub projection : Words
  pub of_part : IsPartOf part V
  pub projects : IsProjection bits part projection
  pub within : IsPartOf W projection

-- r is a ref of the table, and its words are those of V
pub record Denotes (t : Table) (V : Words) (r : Ref) : Type 0 where
  pub live : IsLive t r
  pub words : (w : Word) → has t r w ≡ V w

-- r asks no bit before f and g do
abbrev pub IsAsDeep : Table → Ref → Ref → Ref → Type 0
IsAsDeep t f g r = (b : ℕ) → b ≤ depth t f → b ≤ depth t g → b ≤ depth t r

-- each new node is a part of the projection of a part of V
abbrev pub NewArePartsOfProjections : Table → Table → Bits → Words → Type 0
NewArePartsOfProjections old new bits V = (i : NodeId) → old i ≡ None → IsLive new (Node i) → IsPartOfProjection bits (has new (Node i)) V
