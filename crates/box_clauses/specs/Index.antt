-- Lists of sides that are known, by hash. Words of private helpers.
use Rattle.std.specs.Prelude.{◌≡◌, ◌==◌, ◌&&◌, Bool, List}
use Rattle.std.specs.List.{list_any}
use Rattle.std.specs.Cmp.Lexicographic.{pointwise}
use Rattle.diagram_arena.specs.contracts.nodes.RefPartialEq.TheImpl.{eq-value as of_refs}
use Rattle.box_clauses.specs.declared.sides.Side.{Side}
use Rattle.box_clauses.specs.declared.index.BoxIndex.{BoxIndex}
use Rattle.box_clauses.specs.declared.store.StoredBox.{StoredBox}

-- whether two sides are one, as the derived comparison tells
abbrev pub same_side : Side → Side → Bool
same_side s u = (s.var.0 == u.var.0) && of_refs.it s.set u.set

abbrev pub same_sides : List Side → List Side → Bool
same_sides xs ys = pointwise same_side xs ys

-- whether the index has these sides
abbrev pub knows : BoxIndex → List Side → Bool
knows index xs = list_any (λ k. same_sides xs k.items) index.lists.keys

-- whether some box has these sides
abbrev pub is_stored : List StoredBox → List Side → Bool
is_stored boxes xs = list_any (λ (b : StoredBox). same_sides xs b.sides) boxes

-- the index has just the lists of the boxes
pub record IsIndexed (boxes : List StoredBox) (index : BoxIndex) : Type 0 where
  pub same : (xs : List Side) → knows index xs ≡ is_stored boxes xs
