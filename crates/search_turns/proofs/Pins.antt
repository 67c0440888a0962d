-- What is pinned by trail, boxes and sides, and what units leave of it, whatever the order.
use Rattle.std.proofs.Common.{◌≡◌, ℕ, ◌+◌, ◌≤◌, Bool, true, false, cond, List, [], ◌∷◌, ◌++◌, length, sym, ap, subst, arith}
use Rattle.std.proofs.lemmas.List.Sums.{count_by-le-length, sum_by_push}
use Rattle.diagram_arena.specs.declared.nodes.NodeId.{NodeId}
use Rattle.diagram_arena.specs.declared.nodes.Ref.{Ref}
use Rattle.diagram_arena.specs.Table.{Words}
use Rattle.node_reclaim.specs.Pool.{PoolState, Unpins, times}
use Rattle.node_reclaim.specs.Holders.{AreHeld}
use Rattle.pin_lists.specs.Units.{Moves, UnitsLeave}
use Rattle.pin_lists.proofs.Counting.{times-append}
use Rattle.pin_lists.proofs.Leaving.{units_frame}
use Rattle.box_clauses.specs.declared.sides.Side.{Side}
use Rattle.box_clauses.specs.declared.store.StoredBox.{StoredBox}
use Rattle.box_clauses.specs.Sides.{sets_of}
use Rattle.box_clauses.specs.Stored.{stored, stored_sets}
use Rattle.search_turns.specs.States.{learned_count}

-- ---- lists that are pinned alike

abbrev pub AreAlike : List Ref → List Ref → Type 0
AreAlike rs qs = (i : NodeId) → times i rs ≡ times i qs

pub units_alike : (P : Words → Type 0) (a b : PoolState) (before after before2 after2 : List Ref) → AreAlike before2 before → AreAlike after2 after → UnitsLeave P a b before after → UnitsLeave P a b before2 after2
units_alike P a b before after before2 after2 same same2 is = record {
  reduced = is.reduced;
  limit = is.limit;
  pins = λ i. let m = is.pins i in let e = same i in let f = same2 i in omega (arith, m, e, f);
  kept = λ rs h. is.kept rs (λ i.
      let all = h i in
      let e = times-append i rs before2 in
      let f = times-append i rs before in
      let g = same i in
      omega (arith, all, e, f, g));
  sets = is.sets;
}

pub alike_none : (rs : List Ref) → AreAlike rs (rs ++ [])
alike_none rs i = let e = times-append i rs [] in omega (arith, e)

-- ---- three lists

pub front_two : (s : PoolState) (x y z : List Ref) → AreHeld s (x ++ (y ++ z)) → AreHeld s (x ++ y)
front_two s x y z h i =
    let all = h i in
    let e = times-append i x (y ++ z) in
    let f = times-append i y z in
    let g = times-append i x y in
    omega (arith, all, e, f, g)

pub last_two : (s : PoolState) (x y z : List Ref) → AreHeld s (x ++ (y ++ z)) → AreHeld s (z ++ y)
last_two s x y z h i =
    let all = h i in
    let e = times-append i x (y ++ z) in
    let f = times-append i y z in
    let g = times-append i z y in
    omega (arith, all, e, f, g)

pub only_last : (s : PoolState) (x y : List Ref) → AreHeld s (x ++ y) → AreHeld s y
only_last s x y h i = let all = h i in let e = times-append i x y in omega (arith, all, e)

pub only_first : (s : PoolState) (x y : List Ref) → AreHeld s (x ++ y) → AreHeld s x
only_first s x y h i = let all = h i in let e = times-append i x y in omega (arith, all, e)

-- beside the frame, the first list went to another
pub held_beside_frame : (P : Words → Type 0) (a b : PoolState) (frame before after : List Ref) → UnitsLeave P a b before after → AreHeld a (frame ++ before) → AreHeld b (frame ++ after)
held_beside_frame P a b frame before after is h i =
    let all = h i in
    let m = is.pins i in
    let e = times-append i frame before in
    let f = times-append i frame after in
    omega (arith, all, m, e, f)

-- a unit on the trail's pins, as one on the pins of trail and boxes; what was gained stands last
pub with_boxes : (P : Words → Type 0) (a b : PoolState) (before after boxes more : List Ref) → UnitsLeave P a b before (after ++ more) → UnitsLeave P a b (before ++ boxes) ((after ++ boxes) ++ more)
with_boxes P a b before after boxes more is =
    units_alike P a b (boxes ++ before) (boxes ++ (after ++ more)) (before ++ boxes) ((after ++ boxes) ++ more)
    (λ i. let e = times-append i before boxes in let f = times-append i boxes before in omega (arith, e, f))
    (λ i.
    let e = times-append i (after ++ boxes) more in
    let f = times-append i after boxes in
    let g = times-append i boxes (after ++ more) in
    let h = times-append i after more in
    omega (arith, e, f, g, h))
    (units_frame P a b boxes before (after ++ more) is)

pub with_boxes_alone : (P : Words → Type 0) (a b : PoolState) (before after boxes : List Ref) → UnitsLeave P a b before after → UnitsLeave P a b (before ++ boxes) (after ++ boxes)
with_boxes_alone P a b before after boxes is =
    units_alike P a b (boxes ++ before) (boxes ++ after) (before ++ boxes) (after ++ boxes)
    (λ i. let e = times-append i before boxes in let f = times-append i boxes before in omega (arith, e, f))
    (λ i. let e = times-append i after boxes in let f = times-append i boxes after in omega (arith, e, f))
    (units_frame P a b boxes before after is)

-- ---- boxes in store

pub times_added : (i : NodeId) (boxes : List StoredBox) (b : StoredBox) → times i (stored_sets (boxes ++ b ∷ [])) ≡ times i (stored_sets boxes) + times i (sets_of b.sides)
times_added i [] b = let e = times-append i (sets_of b.sides) [] in omega (arith, e)
times_added i (x ∷ xs) b =
    let rest = times_added i xs b in
    let here = times-append i (sets_of x.sides) (stored_sets (xs ++ b ∷ [])) in
    let was = times-append i (sets_of x.sides) (stored_sets xs) in
    omega (arith, rest, here, was)

pub moved_released : (a b : PoolState) (boxes : List StoredBox) (sides : List Side) → Unpins a b (sets_of sides) → Moves a b (stored_sets boxes ++ sets_of sides) (stored_sets boxes)
moved_released a b boxes sides is i =
    let l = is.lost i in
    let e = times-append i (stored_sets boxes) (sets_of sides) in
    omega (arith, l, e)

pub moved_added : (a b : PoolState) (boxes now : List StoredBox) (sides : List Side) (line : ℕ) (learned : Bool) → b ≡ a → now ≡ boxes ++ stored sides line learned ∷ []
    → Moves a b (stored_sets boxes ++ sets_of sides) (stored_sets now)
moved_added a b boxes now sides line learned same is i =
    subst (λ (s : PoolState). Moves a s (stored_sets boxes ++ sets_of sides) (stored_sets now)) (sym same)
    (λ i.
    let e = times-append i (stored_sets boxes) (sets_of sides) in
    let f = times_added i boxes (stored sides line learned) in
    let g = ap (λ (bs : List StoredBox). times i (stored_sets bs)) is in
    omega (arith, e, f, g))
    i

-- ---- how many are learned

pub count_learned : (boxes : List StoredBox) (sides : List Side) (line : ℕ) → learned_count (boxes ++ stored sides line true ∷ []) ≡ learned_count boxes + 1
count_learned boxes sides line = sum_by_push (λ (b : StoredBox). cond b.learned 1 0) boxes (stored sides line true)

pub count_unmarked : (boxes : List StoredBox) (sides : List Side) (line : ℕ) → learned_count (boxes ++ stored sides line false ∷ []) ≡ learned_count boxes
count_unmarked boxes sides line =
    let e : learned_count (boxes ++ stored sides line false ∷ []) ≡ learned_count boxes + 0 = sum_by_push (λ (b : StoredBox). cond b.learned 1 0) boxes (stored sides line false) in
    omega (arith, e)

pub count_within : (boxes : List StoredBox) → learned_count boxes ≤ length boxes
count_within boxes = count_by-le-length (λ (b : StoredBox). b.learned) boxes
