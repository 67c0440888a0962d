-- A step of a projection: both sides of a product, in a pool and among pairs that grow from call to call.
use Rattle.std.proofs.Common.{◌≡◌, ℕ, ◌-◌, ◌<◌, ◌≤◌, true, false, List, ◌∙◌, subst, arith}
use Rattle.diagram_arena.specs.Table.{Word, Words, Table, bit_end, has, IsLive, IsReduced}
use Rattle.diagram_arena.specs.Arena.{Grows}
use Rattle.diagram_ops.specs.declared.product.Product.{Product}
use Rattle.diagram_ops.specs.declared.product.Pair.{Pair}
use Rattle.diagram_ops.specs.declared.projection.Step.{Step}
use Rattle.diagram_ops.specs.Words.{Lies}
use Rattle.diagram_ops.specs.Meanings.{first_of, Means, IsThere, Extends, front_of}
use Rattle.diagram_ops.specs.Work.{IsStepOf}
use Rattle.diagram_ops.proofs.Meant.{first_grows, first_more, first_within, means_grows, means_more, means_once}

-- what both sides of V mean after a step; the pairs were ps before it and are rs
pub record Sides (t : Table) (ps rs : List Pair) (p : Product) (s : Step) (V : Words) : Type 0 where
  pub at : s.bit ≡ first_of t ps p
  pub words : (w : Word) → V w ≡ front_of V s.bit (w s.bit) w
  pub lo_means : Means t rs s.lo (front_of V s.bit false)
  pub hi_means : Means t rs s.hi (front_of V s.bit true)
  pub lo_far : s.bit < first_of t rs s.lo
  pub hi_far : s.bit < first_of t rs s.hi
  pub lo_live : IsLive t s.bound_lo
  pub hi_live : IsLive t s.bound_hi
  pub over : Lies (front_of V s.bit true) (has t s.bound_hi)

pub sides_at : (t : Table) (ps qs rs : List Pair) (p : Product) (s : Step) (V : Words) → Means t ps p V → Extends ps qs → IsStepOf t qs rs p s → Sides t ps rs p s V
sides_at t ps qs rs p s V means more is =
    let there = means_more t ps qs more p V means in
    let hi = is.sides.means V there true in
    record {
      at = is.at ∙ first_more t ps qs more p V means;
      words = is.sides.words V there;
      lo_means = is.sides.means V there false;
      hi_means = hi;
      lo_far = is.sides.deeper false;
      hi_far = is.sides.deeper true;
      lo_live = is.lo_live;
      hi_live = is.hi_live;
      over = is.hi_bounded (front_of V s.bit true) hi;
    }

pub lo_falls : (t : Table) → IsReduced t → (ps rs : List Pair) (p : Product) (s : Step) (V : Words) → Sides t ps rs p s V → bit_end - first_of t rs s.lo < bit_end - first_of t ps p
lo_falls t ok ps rs p s V is =
    fall bit_end (first_of t ps p) (first_of t rs s.lo) s.bit is.at is.lo_far (first_within t ok rs s.lo (front_of V s.bit false) is.lo_means) where
      fall : (end here there bit : ℕ) → bit ≡ here → bit < there → there ≤ end → end - there < end - here
      fall end here there bit at far within = omega arith

-- the true side, once the false side is done: in the pool and among the pairs that this left
pub record Second (u : Table) (vs : List Pair) (s : Step) (V : Words) (first : ℕ) : Type 0 where
  pub means : Means u vs s.hi (front_of V s.bit true)
  pub far : s.bit < first_of u vs s.hi
  pub live : IsLive u s.bound_hi
  pub bounded : (W : Words) → Means u vs s.hi W → Lies W (has u s.bound_hi)
  pub falls : bit_end - first_of u vs s.hi < bit_end - first

pub second_at : (t u : Table) → IsReduced t → Grows t u → (ps rs vs : List Pair) (p : Product) (s : Step) (V : Words) → Sides t ps rs p s V → Extends rs vs → Second u vs s V (first_of t ps p)
second_at t u ok grown ps rs vs p s V is more =
    let H : Words = front_of V s.bit true in
    let there = means_more t rs vs more s.hi H is.hi_means in
    let means = means_grows t u grown vs s.hi H there in
    let same = first_grows t u grown vs s.hi H there in
    let same' = first_more t rs vs more s.hi H is.hi_means in
    let far = is.hi_far in
    let within = first_within t ok rs s.hi H is.hi_means in
    record {
      means = means;
      far = omega (arith, same, same', far);
      live = grown.live s.bound_hi is.hi_live;
      bounded = λ W other. subst (λ X. Lies X (has u s.bound_hi)) (means_once u vs s.hi H W means other) (λ w on. grown.words s.bound_hi is.hi_live w ∙ is.over w on);
      falls = fall bit_end (first_of t ps p) (first_of t rs s.hi) (first_of u vs s.hi) s.bit is.at far (same ∙ same') within;
    } where
      fall : (end here step there bit : ℕ) → bit ≡ here → bit < step → there ≡ step → step ≤ end → end - there < end - here
      fall end here step there bit at deeper same within = omega arith

-- what holds all words of a product holds them with more pairs
pub bounded_more : (t : Table) (ps qs : List Pair) (p : Product) (X : Words) → IsThere t ps p → Extends ps qs → ((V : Words) → Means t ps p V → Lies V X) → (V : Words) → Means t qs p V → Lies V X
bounded_more t ps qs p X there more bounded V means =
    subst (λ W. Lies W X) (means_once t qs p there.0 V (means_more t ps qs more p there.0 there.1) means) (bounded there.0 there.1)
