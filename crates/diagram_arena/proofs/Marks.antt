-- What a table means after some of its nodes were removed, and how slots and index follow.
use Rattle.std.proofs.Common.{◌≡◌, ℕ, ◌+◌, ◌<◌, ◌≤◌, Bool, true, false, cond, MutBor, zero, suc, List, [], ◌∷◌, Option, Some, None, is_some, map as each, count_by, filter, refl, sym, ◌∙◌, ap, subst, inl, inr, arith}
use Rattle.std.specs.Option.{option_map, option_map_or}
use Rattle.std.specs.Cmp.{IsEquivalence}
use Rattle.std.specs.List.{IsDistinct}
use Rattle.std.specs.Map.{lookup, keys_of}
use Rattle.std.specs.FinMap as map
use Rattle.std.proofs.lemmas.Bool.{cases_Bool}
use Rattle.std.proofs.lemmas.List.Sums.{sum_by-cons}
use Rattle.std.proofs.lemmas.Map.Entries.{option_filter, lookup-filter-values}
use mathlib.Core.Path.{fun_ext}
use Rattle.slab.specs.Slab.{RetainsFrom}
use Rattle.diagram_arena.specs.declared.nodes.NodeId.{NodeId}
use Rattle.diagram_arena.specs.declared.nodes.Ref.{Ref}
use Rattle.diagram_arena.specs.declared.nodes.Ref.TheVariants as ref
use Rattle.diagram_arena.specs.declared.nodes.Triple.{Triple}
use Rattle.diagram_arena.specs.declared.nodes.Node.{Node}
use Rattle.diagram_arena.specs.Table.{Table, child, depth, IsLive, IsReduced}
use Rattle.diagram_arena.specs.Arena.{table, triple_of, has_mark, IsMarked, MarksReachDown, unmarked, if_marked, Grows}
use Rattle.diagram_arena.specs.Body.{same_triple, state_of, marked_at, IsIndex, IsKept}
use Rattle.diagram_arena.proofs.Growth.{grows}
use Rattle.diagram_arena.proofs.Index.{derived, derived_is, lookup-derived, triple_true, triple_self}
use Rattle.diagram_arena.proofs.Kept.{slot, get-state_of, len-state_of}
use Rattle.diagram_arena.proofs.Meaning.{depth-zero, depth-one, depth-at, live_triple, live_from}
use Rattle.diagram_arena.proofs.States.{table-state_of}

-- u is t without the nodes at which `stays` is false
abbrev Drops : Table → Table → (NodeId → Bool) → Type 0
Drops t u stays = (i : NodeId) → u i ≡ cond (stays i) (t i) None

-- no node is left out that a ref names
abbrev IsSpared : (NodeId → Bool) → Ref → Type 0
IsSpared stays ref.Zero = Unit {0}
IsSpared stays ref.One = Unit {0}
IsSpared stays (ref.Node i) = stays i ≡ true

-- the children of each node that stays are spared
abbrev SparesDown : Table → (NodeId → Bool) → Type 0
SparesDown t stays = (i : NodeId) (n : Triple) (v : Bool) → t i ≡ Some n → stays i ≡ true → IsSpared stays (child n v)

dropped_from : (t u : Table) (stays : NodeId → Bool) → Drops t u stays → (i : NodeId) (n : Triple) → u i ≡ Some n → (t i ≡ Some n) × (stays i ≡ true)
dropped_from t u stays drops i n is =
    elim (cases_Bool (stays i)) [
      | inl on ↦ (sym (ap (λ b. cond b (t i) None) on) ∙ sym (drops i) ∙ is, on)
      | inr off ↦ let none : u i ≡ None = drops i ∙ ap (λ b. cond b (t i) None) off in let e : None ≡ Some n = sym none ∙ is in absurd (cc)
    ]

stays_there : (t u : Table) (stays : NodeId → Bool) → Drops t u stays → (i : NodeId) (n : Triple) → t i ≡ Some n → stays i ≡ true → u i ≡ Some n
stays_there t u stays drops i n is on = drops i ∙ ap (λ b. cond b (t i) None) on ∙ is

spared_live : (t u : Table) (stays : NodeId → Bool) → Drops t u stays → (r : Ref) → IsLive t r → IsSpared stays r → IsLive u r
spared_live t u stays drops ref.Zero live on = tt
spared_live t u stays drops ref.One live on = tt
spared_live t u stays drops (ref.Node i) live on =
    let found = live_triple t i live in live_from u i found.0 (stays_there t u stays drops i found.0 found.1 on)

spared_depth : (t u : Table) (stays : NodeId → Bool) → Drops t u stays → (r : Ref) → IsLive t r → IsSpared stays r → depth u r ≡ depth t r
spared_depth t u stays drops ref.Zero live on = depth-zero u ∙ sym (depth-zero t)
spared_depth t u stays drops ref.One live on = depth-one u ∙ sym (depth-one t)
spared_depth t u stays drops (ref.Node i) live on =
    let found = live_triple t i live in
    depth-at u i found.0 (stays_there t u stays drops i found.0 found.1 on) ∙ sym (depth-at t i found.0 found.1)

dropped_reduced : (t u : Table) (stays : NodeId → Bool) → IsReduced t → Drops t u stays → SparesDown t stays → IsReduced u
dropped_reduced t u stays ok drops down =
    let from = dropped_from t u stays drops in
    record {
      small = λ i n is. ok.small i n (from i n is).0;
      deeper = λ i n v is.
          let old = from i n is in
          let same : depth u (child n v) ≡ depth t (child n v) = spared_depth t u stays drops (child n v) (ok.live i n v old.0) (down i n v old.0 old.1) in
          let deeper : n.bit < depth t (child n v) = ok.deeper i n v old.0 in
          omega (arith, same, deeper);
      live = λ i n v is. let old = from i n is in spared_live t u stays drops (child n v) (ok.live i n v old.0) (down i n v old.0 old.1);
      differ = λ i n is. ok.differ i n (from i n is).0;
      once = λ i j n is is'. ok.once i j n (from i n is).0 (from j n is').0;
    }

dropped_grows : (t u : Table) (stays : NodeId → Bool) → IsReduced t → Drops t u stays → SparesDown t stays → Grows u t
dropped_grows t u stays ok drops down = grows u t (dropped_reduced t u stays ok drops down) ok (λ i n is. (dropped_from t u stays drops i n is).0)

-- the index by the ids that stay
equal : (n m : Triple) → derived n m ≡ true → n ≡ m
equal n m e = triple_true n m (sym (derived_is n m) ∙ e)

itself : (n : Triple) → derived n n ≡ true
itself n = derived_is n n ∙ triple_self n

derived_symm : (n m : Triple) → derived n m ≡ derived m n
derived_symm n m =
    elim (cases_Bool (derived n m)) [
      | inl there ↦ let e : n ≡ m = equal n m there in ap (derived n) (sym e) ∙ ap (λ x. derived x n) e
      | inr apart ↦ elim (cases_Bool (derived m n)) [
        | inl back ↦ let e : m ≡ n = equal m n back in ap (λ x. derived x m) (sym e) ∙ ap (derived m) e
        | inr apart' ↦ apart ∙ sym apart'
      ]
    ]

derived_equivalence : IsEquivalence derived
derived_equivalence = record {
  refl = itself;
  symm = derived_symm;
  congr = λ x y z e. ap (λ w. derived w z) (equal x y e);
}

passed_by : (p : NodeId → Bool) (o : Option NodeId) (i : NodeId) → option_filter p o ≡ Some i → (o ≡ Some i) × (p i ≡ true)
passed_by p None i e = absurd (cc)
passed_by p (Some j) i e =
    elim (cases_Bool (p j)) [
      | inl on ↦ let same : Some j ≡ Some i = sym (ap (λ b. cond b (Some j) None) on) ∙ e in let same' : j ≡ i = (cc) in (same, ap p (sym same') ∙ on)
      | inr off ↦ let no : None ≡ Some i = sym (ap (λ b. cond b (Some j) None) off) ∙ e in absurd (cc)
    ]

index_dropped : (t u : Table) (stays : NodeId → Bool) (es : List (Triple × NodeId)) → IsIndex t es → Drops t u stays → IsDistinct derived (keys_of es)
    → IsIndex u (filter (λ e. stays e.1) es)
index_dropped t u stays es index drops distinct =
    let at : (n : Triple) → lookup (same_triple n) (filter (λ (e : Triple × NodeId). stays e.1) es) ≡ option_filter stays (lookup (same_triple n) es) = λ n.
    sym (lookup-derived n (filter (λ (e : Triple × NodeId). stays e.1) es)) ∙ lookup-filter-values derived_equivalence stays n es distinct
    ∙ ap (option_filter stays) (lookup-derived n es) in
    record {
      sound = λ n i is.
          let found = passed_by stays (lookup (same_triple n) es) i (sym (at n) ∙ is) in
          stays_there t u stays drops i n (index.sound n i found.0) found.1;
      complete = λ i n is.
          let old = dropped_from t u stays drops i n is in
          at n ∙ ap (option_filter stays) (index.complete i n old.0) ∙ ap (λ b. cond b (Some i) None) old.1;
    }

-- what `retain` leaves in a slot: g of the node where p is true of it
abbrev pub sieve : (Node → Bool) → (Node → Node) → Option Node → Option Node
sieve p g None = None
sieve p g (Some n) = cond (p n) (Some (g n)) None

-- a closure that answers p of each node, leaves g of it and stays as it was
pub retained : {F : Type 0} (step : F → ℕ → MutBor Node → Bool → MutBor Node → F → Type 0) (p : Node → Bool) (g : Node → Node) (f : F)
    → ((key : ℕ) (shown : MutBor Node) (keep : Bool) (left : MutBor Node) (next : F) → step f key shown keep left next → (keep ≡ p shown.now) × (left.now ≡ g shown.now) × (next ≡ f))
    → (key : ℕ) (slots kept : List (Option Node)) → RetainsFrom step f key slots kept → kept ≡ each (sieve p g) slots
retained step p g f told key [] kept r = r
retained step p g f told key (None ∷ slots) kept r = r.1 ∙ ap (λ rest. None ∷ rest) (retained step p g f told (key + 1) slots r.0 r.2)
retained step p g f told key (Some n ∷ slots) kept r =
    let called = r.3 in
    let says = told key called.shown r.0 called.left r.2 called.called in
    let keeps : r.0 ≡ p n = says.0 ∙ ap p called.shows in
    let leaves : r.1 ≡ g n = sym called.leaves ∙ says.1 ∙ ap g called.shows in
    let rest : r.4 ≡ each (sieve p g) slots = retained step p g f told (key + 1) slots r.4 (subst (λ h. RetainsFrom step h (key + 1) slots r.4) says.2 r.6) in
    r.5 ∙ (λ i. cond (keeps i) (Some (leaves i)) None ∷ rest i)

pub slot-each : (h : Option Node → Option Node) → h None ≡ None → (slots : List (Option Node)) (k : ℕ) → slot (each h slots) k ≡ h (slot slots k)
slot-each h none [] k = sym none
slot-each h none (o ∷ slots) zero = refl
slot-each h none (o ∷ slots) (suc k) = slot-each h none slots k

abbrev weight : Option Node → ℕ
weight o = cond (is_some o) 1 0

count-each : (h : Option Node → Option Node) → ((o : Option Node) → weight (h o) ≤ weight o) → (slots : List (Option Node)) → count_by is_some (each h slots) ≤ count_by is_some slots
count-each h less [] = omega arith
count-each h less (o ∷ slots) =
    let old = sum_by-cons (λ (x : Option Node). cond (is_some x) 1 0) o slots in
    let new = sum_by-cons (λ (x : Option Node). cond (is_some x) 1 0) (h o) (each h slots) in
    let one = less o in
    let rest = count-each h less slots in
    omega (arith, old, new, one, rest)

same-count-each : (h : Option Node → Option Node) → ((o : Option Node) → weight (h o) ≡ weight o) → (slots : List (Option Node)) → count_by is_some (each h slots) ≡ count_by is_some slots
same-count-each h same [] = refl
same-count-each h same (o ∷ slots) =
    let old = sum_by-cons (λ (x : Option Node). cond (is_some x) 1 0) o slots in
    let new = sum_by-cons (λ (x : Option Node). cond (is_some x) 1 0) (h o) (each h slots) in
    let one = same o in
    let rest = same-count-each h same slots in
    omega (arith, old, new, one, rest)

-- the slots without marks
abbrev pub cleared : List (Option Node) → List (Option Node)
cleared slots = each (sieve (λ n. true) unmarked) slots

clears : (o : Option Node) → sieve (λ n. true) unmarked o ≡ option_map unmarked o
clears None = refl
clears (Some n) = refl

pub get_cleared : (slots : List (Option Node)) (limit : ℕ) (i : NodeId) → map.get (state_of (cleared slots) limit).nodes i ≡ option_map unmarked (map.get (state_of slots limit).nodes i)
get_cleared slots limit i =
    get-state_of (cleared slots) limit i ∙ slot-each (sieve (λ n. true) unmarked) refl slots i.0 ∙ clears (slot slots i.0)
    ∙ ap (option_map unmarked) (sym (get-state_of slots limit i))

pub table_cleared : (slots : List (Option Node)) (limit : ℕ) → table (state_of (cleared slots) limit) ≡ table (state_of slots limit)
table_cleared slots limit = fun_ext (λ i.
    table-state_of (cleared slots) limit i
    ∙ ap (option_map triple_of) (slot-each (sieve (λ n. true) unmarked) refl slots i.0)
    ∙ alike (slot slots i.0) ∙ sym (table-state_of slots limit i))
  where
    alike : (o : Option Node) → option_map triple_of (sieve (λ n. true) unmarked o) ≡ option_map triple_of o
    alike None = refl
    alike (Some n) = refl

count_cleared : (slots : List (Option Node)) → count_by is_some (cleared slots) ≡ count_by is_some slots
count_cleared slots = same-count-each (sieve (λ n. true) unmarked) alike slots
  where
    alike : (o : Option Node) → weight (sieve (λ n. true) unmarked o) ≡ weight o
    alike None = refl
    alike (Some n) = refl

pub len_cleared : (slots : List (Option Node)) (limit : ℕ) → map.len (state_of (cleared slots) limit).nodes ≡ map.len (state_of slots limit).nodes
len_cleared slots limit = len-state_of (cleared slots) limit ∙ count_cleared slots ∙ sym (len-state_of slots limit)

pub kept_cleared : (slots : List (Option Node)) (limit : ℕ) (es : List (Triple × NodeId)) → IsKept slots limit es → IsKept (cleared slots) limit es
kept_cleared slots limit es kept = record {
  reduced = subst IsReduced (sym (table_cleared slots limit)) kept.reduced;
  few = let same = count_cleared slots in let few = kept.few in omega (arith, same, few);
  some = kept.some;
  most = kept.most;
  indexed = subst (λ (u : Table). IsIndex u es) (sym (table_cleared slots limit)) kept.indexed;
}

-- the slots whose nodes have marks
abbrev pub marked : List (Option Node) → List (Option Node)
marked slots = each (sieve (λ (n : Node). n.mark) (λ n. n)) slots

sifts : (o : Option Node) → sieve (λ (n : Node). n.mark) (λ n. n) o ≡ if_marked o
sifts None = refl
sifts (Some n) = refl

pub get_marked : (slots : List (Option Node)) (limit : ℕ) (i : NodeId) → map.get (state_of (marked slots) limit).nodes i ≡ if_marked (map.get (state_of slots limit).nodes i)
get_marked slots limit i =
    get-state_of (marked slots) limit i ∙ slot-each (sieve (λ (n : Node). n.mark) (λ n. n)) refl slots i.0 ∙ sifts (slot slots i.0)
    ∙ ap if_marked (sym (get-state_of slots limit i))

abbrev stays_at : List (Option Node) → NodeId → Bool
stays_at slots i = marked_at slots i.0

mark-state_of : (slots : List (Option Node)) (limit : ℕ) (i : NodeId) → has_mark (state_of slots limit) i ≡ stays_at slots i
mark-state_of slots limit i = ap (λ o. option_map_or (λ (n : Node). n.mark) o false) (get-state_of slots limit i)

drops_marked : (slots : List (Option Node)) (limit : ℕ) → Drops (table (state_of slots limit)) (table (state_of (marked slots) limit)) (stays_at slots)
drops_marked slots limit i =
    table-state_of (marked slots) limit i
    ∙ ap (option_map triple_of) (slot-each (sieve (λ (n : Node). n.mark) (λ n. n)) refl slots i.0)
    ∙ alike (slot slots i.0)
    ∙ ap (λ o. cond (marked_at slots i.0) o None) (sym (table-state_of slots limit i))
  where
    by : (n : Node) (b : Bool) → option_map triple_of (cond b (Some n) None) ≡ cond b (Some (triple_of n)) None
    by n true = refl
    by n false = refl

    alike : (o : Option Node) → option_map triple_of (sieve (λ (n : Node). n.mark) (λ n. n) o) ≡ cond (option_map_or (λ (n : Node). n.mark) o false) (option_map triple_of o) None
    alike None = refl
    alike (Some n) = by n n.mark

spared_if_marked : (slots : List (Option Node)) (limit : ℕ) (r : Ref) → IsMarked (state_of slots limit) r → IsSpared (stays_at slots) r
spared_if_marked slots limit ref.Zero on = tt
spared_if_marked slots limit ref.One on = tt
spared_if_marked slots limit (ref.Node i) on = sym (mark-state_of slots limit i) ∙ on

spares : (slots : List (Option Node)) (limit : ℕ) → MarksReachDown (state_of slots limit) → SparesDown (table (state_of slots limit)) (stays_at slots)
spares slots limit down i n v is on = spared_if_marked slots limit (child n v) (down i n v is (mark-state_of slots limit i ∙ on))

pub marked_reduced : (slots : List (Option Node)) (limit : ℕ) (es : List (Triple × NodeId)) → IsKept slots limit es → MarksReachDown (state_of slots limit) → IsReduced (table (state_of (marked slots) limit))
marked_reduced slots limit es kept down = dropped_reduced _ _ (stays_at slots) kept.reduced (drops_marked slots limit) (spares slots limit down)

pub marked_grows : (slots : List (Option Node)) (limit : ℕ) (es : List (Triple × NodeId)) → IsKept slots limit es → MarksReachDown (state_of slots limit)
    → Grows (table (state_of (marked slots) limit)) (table (state_of slots limit))
marked_grows slots limit es kept down = dropped_grows _ _ (stays_at slots) kept.reduced (drops_marked slots limit) (spares slots limit down)

pub kept_marked : (slots : List (Option Node)) (limit : ℕ) (es : List (Triple × NodeId)) → IsKept slots limit es → MarksReachDown (state_of slots limit) → IsDistinct derived (keys_of es)
    → IsKept (marked slots) limit (filter (λ (e : Triple × NodeId). marked_at slots e.1.0) es)
kept_marked slots limit es kept down distinct = record {
  reduced = marked_reduced slots limit es kept down;
  few = let less = count-each (sieve (λ (n : Node). n.mark) (λ n. n)) fewer slots in let few = kept.few in omega (arith, less, few);
  some = kept.some;
  most = kept.most;
  indexed = index_dropped _ _ (stays_at slots) es kept.indexed (drops_marked slots limit) distinct;
}
  where
    by : (n : Node) (b : Bool) → weight (cond b (Some n) None) ≤ 1
    by n true = omega arith
    by n false = omega arith

    fewer : (o : Option Node) → weight (sieve (λ (n : Node). n.mark) (λ n. n) o) ≤ weight o
    fewer None = omega arith
    fewer (Some n) = by n n.mark
