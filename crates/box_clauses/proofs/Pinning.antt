-- Pins of sides, put one after another and spent box by box.
use Rattle.std.proofs.Common.{◌≡◌, ℕ, ◌+◌, ◌<◌, List, [], ◌∷◌, ◌++◌, length, get_or, take, append-nil, append_assoc, refl, sym, ap, ◌∙◌, subst, arith}
use Rattle.std.specs.List.{flat_map}
use Rattle.std.proofs.lemmas.List.{take_more, map-append}
use Rattle.std.proofs.lemmas.List.Concat.{flat_map-append}
use Rattle.diagram_arena.specs.declared.nodes.NodeId.{NodeId}
use Rattle.diagram_arena.specs.declared.nodes.Ref.{Ref}
use Rattle.node_reclaim.specs.Pool.{PoolState, pins_of, times, Unpins}
use Rattle.node_reclaim.specs.Holders.{Gains, AreHeld}
use Rattle.pin_lists.specs.Units.{Moves}
use Rattle.pin_lists.proofs.Counting.{times-append, AreLeft}
use Rattle.box_clauses.specs.declared.sides.Side.{Side}
use Rattle.box_clauses.specs.declared.store.StoredBox.{StoredBox}
use Rattle.box_clauses.specs.Sides.{sets_of}
use Rattle.box_clauses.specs.Stored.{stored_sets}

pub listed_more : (start : List Ref) (sides : List Side) (i : ℕ) (d : Side) (before after : List Ref) → i < length sides → before ≡ start ++ sets_of (take i sides)
    → after ≡ before ++ (get_or sides i d).set ∷ [] → after ≡ start ++ sets_of (take (i + 1) sides)
listed_more start sides i d before after within is more =
    let s : Side = get_or sides i d in
    more ∙ ap (λ rs. rs ++ s.set ∷ []) is ∙ append_assoc start (sets_of (take i sides)) (s.set ∷ [])
    ∙ ap (λ rs. start ++ rs) (sym (map-append (λ (s : Side). s.set) (take i sides) (s ∷ [])) ∙ ap sets_of (sym (take_more sides i d within)))

-- pins that were gained and spent again
pub given_up : (a b c : PoolState) (rs : List Ref) → Moves a b [] rs → Unpins b c rs → Gains a c []
given_up a b c rs moved spent i = let m = moved i in let l = spent.lost i in omega (arith, m, l)

-- ---- box by box

-- the sets of boxes with one more at the end
last_sets : (boxes : List StoredBox) (b : StoredBox) → stored_sets (boxes ++ b ∷ []) ≡ stored_sets boxes ++ sets_of b.sides
last_sets boxes b =
    flat_map-append (λ (x : StoredBox). sets_of x.sides) boxes (b ∷ []) ∙ ap (λ rs. stored_sets boxes ++ rs) (append-nil (sets_of b.sides))

split_left : (before left : List StoredBox) (b : StoredBox) → before ≡ left ++ b ∷ [] → stored_sets before ≡ stored_sets left ++ sets_of b.sides
split_left before left b e = ap stored_sets e ∙ last_sets left b

pub next_held : (initial a : PoolState) (all : List Ref) (before left : List StoredBox) (b : StoredBox) → AreLeft initial all a (stored_sets before) → before ≡ left ++ b ∷ [] → AreHeld a (sets_of b.sides)
next_held initial a all before left b is e i =
    let h = subst (AreHeld a) (split_left before left b e) is.held i in
    let app = times-append i (stored_sets left) (sets_of b.sides) in
    omega (arith, h, app)

pub next_spent : (initial a c : PoolState) (all : List Ref) (before left : List StoredBox) (b : StoredBox) → AreLeft initial all a (stored_sets before) → before ≡ left ++ b ∷ []
    → Unpins a c (sets_of b.sides) → AreLeft initial all c (stored_sets left)
next_spent initial a c all before left b is e spent = record {
  only = spent.only ∙ ap (λ (x : PoolState). record x { counts = c.counts }) is.only;
  held = λ i.
      let h = subst (AreHeld a) (split_left before left b e) is.held i in
      let app = times-append i (stored_sets left) (sets_of b.sides) in
      let lost = spent.lost i in
      omega (arith, h, app, lost);
  lost = λ i.
      let l = subst (λ rs. pins_of initial i + times i rs ≡ pins_of a i + times i all) (split_left before left b e) (is.lost i) in
      let app = times-append i (stored_sets left) (sets_of b.sides) in
      let lost = spent.lost i in
      omega (arith, l, app, lost);
}
