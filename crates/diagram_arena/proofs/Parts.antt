-- The laws of parts.
use Rattle.std.proofs.Common.{◌≡◌, ℕ, ◌+◌, ◌<◌, Bool, false, max, Some, sym, ◌∙◌, ap, arith}
use Rattle.std.proofs.lemmas.Bool.Decides.{nat_tests}
use mathlib.Core.Path.{fun_ext}
use Rattle.diagram_arena.specs.declared.nodes.NodeId.{NodeId}
use Rattle.diagram_arena.specs.declared.nodes.Ref.TheVariants.{Node}
use Rattle.diagram_arena.specs.declared.nodes.Triple.{Triple}
use Rattle.diagram_arena.specs.Table.{Word, Words, Table, child, has, depth, IsReduced}
use Rattle.diagram_arena.specs.Part.{with_front, IsPartOf}
use Rattle.diagram_arena.proofs.Meaning.{has-at}
use Rattle.diagram_arena.proofs.Canonical.{has-agree}

-- a set is a part of itself
pub part_self : (W : Words) → IsPartOf W W
part_self W = record { from = 0; front = λ _. false; same = λ w. ap W (fun_ext (λ b. grind (arith, nat_tests))) }

front-front : (i j : ℕ) (p q w : Word) (b : ℕ) → with_front j q (with_front i p w) b ≡ with_front (max i j) (with_front j q (with_front i p w)) w b
front-front i j p q w b = grind (arith, nat_tests)

front_again : (i j : ℕ) (p q w u : Word) (b : ℕ) → with_front (max i j) (with_front j q (with_front i p w)) u b ≡ with_front (max i j) (with_front j q p) u b
front_again i j p q w u b = grind (arith, nat_tests)

-- a part of a part is a part
pub part_of_part : (U V W : Words) → IsPartOf U V → IsPartOf V W → IsPartOf U W
part_of_part U V W a b = record {
  from = max a.from b.from;
  front = with_front b.from b.front a.front;
  same = λ w. a.same w ∙ b.same (with_front a.from a.front w)
      ∙ ap W (fun_ext (λ c. front-front a.from b.from a.front b.front w c ∙ front_again a.from b.from a.front b.front w w c));
}

front-at : (b : ℕ) (v : Bool) (w : Word) → with_front (b + 1) (λ _. v) w b ≡ v
front-at b v w = grind (arith, nat_tests)

front-beyond : (a b : ℕ) (v : Bool) (w : Word) → a < b → with_front (a + 1) (λ _. v) w b ≡ w b
front-beyond a b v w far = grind (arith, nat_tests)

-- a child is a part of its node
pub child_part : (t : Table) → IsReduced t → (i : NodeId) (n : Triple) → t i ≡ Some n → (v : Bool) → IsPartOf (has t (child n v)) (has t (Node i))
child_part t ok i n is v = record {
  from = n.bit + 1;
  front = λ _. v;
  same = λ w. let u : Word = with_front (n.bit + 1) (λ _. v) w in
      let deeper : n.bit < depth t (child n v) = ok.deeper i n v is in
      sym (has-at t ok i n u is
      ∙ ap (λ x. has t (child n x) u) (front-at n.bit v w)
      ∙ has-agree t ok (child n v) (ok.live i n v is) u w (λ b far. front-beyond n.bit b v w (omega arith)));
}
