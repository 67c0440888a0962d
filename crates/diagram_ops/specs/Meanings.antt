-- What products mean: the words that all their refs have in common. This project's own.
use Rattle.std.specs.Prelude.{◌≡◌, ◌⊎◌, ℕ, ◌+◌, ◌<◌, ◌≤◌, min, Bool, true, cond, List, All, Some, Result, Err, IfOk, slice_get}
use Rattle.std.specs.List.{list_all}
use Rattle.std.specs.Option.{option_map_or}
use Rattle.std.specs.Map.{lookup}
use Rattle.diagram_arena.specs.declared.nodes.Ref.{Ref}
use Rattle.diagram_arena.specs.declared.nodes.Ref.TheVariants as ref
use Rattle.diagram_arena.specs.Table.{Word, Words, Table, bit_end, has, IsLive, depth}
use Rattle.diagram_arena.specs.declared.nodes.Stop.{Stop}
use Rattle.diagram_arena.specs.declared.nodes.Stop.TheVariants.{Full}
use Rattle.diagram_arena.specs.Part.{with_front}
use Rattle.diagram_arena.specs.Reach.{among}
use Rattle.diagram_arena.specs.Arena.{table}
use Rattle.diagram_ops.specs.declared.product.Product.{Product}
use Rattle.diagram_ops.specs.declared.product.Product.TheVariants.{Single, Both}
use Rattle.diagram_ops.specs.declared.product.Pair.{Pair}
use Rattle.diagram_ops.specs.contracts.product.ProductPartialEq.TheImpl.{eq-value as same_product}
use Rattle.diagram_ops.specs.contracts.product.PairPartialEq.TheImpl.{eq-value as same_pair}
use Rattle.node_reclaim.specs.Pool.{PoolState}
use Rattle.node_reclaim.specs.Growth.{IsFull, Stays}
use Rattle.diagram_ops.specs.Words.{both, HasNone, product_of, IsAsDeepAsAll, IsProjection, NewArePartsOfProjections}
use Rattle.diagram_ops.specs.declared.question.Question.{Question}
use Rattle.diagram_ops.specs.Steps.{IsNode, AreAnswers}

-- the first bit that a product asks
abbrev pub first_of : Table → List Pair → Product → ℕ
first_of t pairs (Single r) = depth t r
first_of t pairs (Both i) = option_map_or (λ (p : Pair). p.bit) (slice_get pairs i) 0

-- all pairs of a product stand under numbers below this
abbrev pub rank : Product → ℕ
rank (Single r) = 0
rank (Both i) = i + 1

-- a part of a pair under this number: one ref, or an earlier pair
abbrev pub IsEarlier : ℕ → Product → Type 0
IsEarlier n p = rank p ≤ n

-- the pair under this number: two earlier products, and the first bit that they ask
pub record IsPair (t : Table) (pairs : List Pair) (i : ℕ) (p : Pair) : Type 0 where
  pub at : slice_get pairs i ≡ Some p
  pub left_earlier : IsEarlier i p.left
  pub right_earlier : IsEarlier i p.right
  pub first : p.bit ≡ min (first_of t pairs p.left) (first_of t pairs p.right)

-- what a product means: the words of its ref, or those that both parts of its pair mean
pub data Means (t : Table) (pairs : List Pair) : Product → Words → Type 0 where
  of_ref : (r : Ref) → IsLive t r → Means t pairs (Single r) (has t r)
  of_pair : (i : ℕ) (p : Pair) (V W : Words) → IsPair t pairs i p → Means t pairs p.left V → Means t pairs p.right W → Means t pairs (Both i) (both V W)

-- a product means something
abbrev pub IsThere : Table → List Pair → Product → Type 0
IsThere t pairs p = (V : Words) × Means t pairs p V

-- a node has to be looked at
abbrev pub IsOpen : Product → Type 0
IsOpen (Single r) = IsNode r
IsOpen (Both i) = Unit {0}

-- p is the ref, which is Zero or One
abbrev pub IsConstant : Product → Ref → Type 0
IsConstant p r = (p ≡ Single r) × ((r ≡ ref.Zero) ⊎ (r ≡ ref.One))

-- each pair stands under its number, and others may have come
abbrev pub Extends : List Pair → List Pair → Type 0
Extends old new = (i : ℕ) (p : Pair) → slice_get old i ≡ Some p → slice_get new i ≡ Some p

-- a pair of earlier products under this number
pub record IsAt (pairs : List Pair) (p : Pair) (i : ℕ) : Type 0 where
  pub there : slice_get pairs i ≡ Some p
  pub left : IsEarlier i p.left
  pub right : IsEarlier i p.right

-- each number that is found is that of the pair
abbrev pub IsIndex : List Pair → List (Pair × ℕ) → Type 0
IsIndex pairs entries = (p : Pair) (i : ℕ) → lookup (same_pair.it p) entries ≡ Some i → IsAt pairs p i

-- what is in V once the bits up to this one are v
abbrev pub front_of : Words → ℕ → Bool → Words
front_of V bit v = λ w. V (with_front (bit + 1) (λ _. v) w)

abbrev pub side_of : Product → Product → Bool → Product
side_of lo hi v = cond v hi lo

-- lo and hi are what is left of p once the bit is false and true, and ask only greater bits
pub record AreSidesOf (t : Table) (old new : List Pair) (p : Product) (bit : ℕ) (lo hi : Product) : Type 0 where
  pub means : (V : Words) → Means t old p V → (v : Bool) → Means t new (side_of lo hi v) (front_of V bit v)
  pub deeper : (v : Bool) → bit < first_of t new (side_of lo hi v)
  pub words : (V : Words) → Means t old p V → (w : Word) → V w ≡ front_of V bit (w bit) w

-- p is left and right taken together
pub record IsJoinOf (t : Table) (old new : List Pair) (left right p : Product) : Type 0 where
  pub means : (V W : Words) → Means t old left V → Means t old right W → Means t new p (both V W)
  pub deep : min (first_of t old left) (first_of t old right) ≤ first_of t new p

-- the words that all refs have
abbrev pub all_of : Table → List Ref → Words
all_of t refs = λ w. list_all (λ r. has t r w) refs

-- p is the refs taken together, and asks no bit before they do
pub record IsAllOf (t : Table) (pairs : List Pair) (refs : List Ref) (p : Product) : Type 0 where
  pub means : Means t pairs p (all_of t refs)
  pub deep : (b : ℕ) → b ≤ bit_end → All (λ r. b ≤ depth t r) refs → b ≤ first_of t pairs p

-- each of these products means a set without words
abbrev pub AreEmpty : Table → List Pair → (Product → Bool) → Type 0
AreEmpty t pairs isin = (p : Product) → isin p ≡ true → (V : Words) × Means t pairs p V × HasNone V

-- p is f and gs taken together, and asks no bit before they do
pub record IsProductOf (t : Table) (pairs : List Pair) (f : Ref) (gs : List Ref) (p : Product) : Type 0 where
  pub means : Means t pairs p (product_of t f gs)
  pub deep : IsAsDeepAsAll t f gs (first_of t pairs p)

-- r is the projection of a product, in one table
pub record IsProjectionOf (t : Table) (pairs : List Pair) (keep : List ℕ) (p : Product) (r : Ref) : Type 0 where
  pub set : Words
  pub means : Means t pairs p set
  pub live : IsLive t r
  pub deep : first_of t pairs p ≤ depth t r
  pub words : IsProjection (among keep) set (has t r)

-- each projection that is found is right
abbrev pub AreProjections : Table → List Pair → List ℕ → List (Product × Ref) → Type 0
AreProjections t pairs keep entries = (p : Product) (r : Ref) → lookup (same_product.it p) entries ≡ Some r → IsProjectionOf t pairs keep p r

-- all that is known is right: projections, products without words, unions
pub record IsKnown (t : Table) (pairs : List Pair) (keep : List ℕ) (done : List (Product × Ref)) (empty : Product → Bool) (unions : List (Question × Ref)) : Type 0 where
  pub projections : AreProjections t pairs keep done
  pub without : AreEmpty t pairs empty
  pub joined : AreAnswers t unions

-- what a projection of a set of words leaves, where the set asks no bit before d
pub record ProjectsWords (old new : PoolState) (keep : List ℕ) (V : Words) (d : ℕ) (result : Result Ref Stop) : Type 0 where
  pub live : IfOk result (IsLive (table new.arena))
  pub deep : IfOk result (λ r. d ≤ depth (table new.arena) r)
  pub words : IfOk result (λ r. IsProjection (among keep) V (has (table new.arena) r))
  pub stays : Stays old new
  pub full : result ≡ Err Full → IsFull new
  pub parts : NewArePartsOfProjections (table old.arena) (table new.arena) (among keep) V
