-- The sides of a ref at a bit.
use Rattle.std.proofs.Common.{◌≡◌, ◌≢◌, ℕ, ◌+◌, ◌<◌, ◌≤◌, ◌^◌, Bool, true, false, Some, refl, sym, ◌∙◌, ap, subst, arith}
use Rattle.std.proofs.lemmas.Bool.Decides.{nat_tests}
use mathlib.Core.Path.{fun_ext}
use Rattle.diagram_arena.specs.declared.nodes.NodeId.{NodeId}
use Rattle.diagram_arena.specs.declared.nodes.Ref.{Ref}
use Rattle.diagram_arena.specs.declared.nodes.Ref.TheVariants.{Zero, One, Node}
use Rattle.diagram_arena.specs.declared.nodes.Triple.{Triple}
use Rattle.diagram_arena.specs.Table.{Word, Table, child, bit_end, has, IsLive, depth, IsReduced}
use Rattle.diagram_arena.specs.Part.{with_bit, with_front}
use Rattle.diagram_arena.specs.Arena.{triple}
use Rattle.diagram_arena.proofs.Meaning.{bit_end_is, has-zero, has-one, depth-zero, depth-one, depth-at, has-at}
use Rattle.diagram_arena.proofs.Canonical.{has-agree}
use Rattle.diagram_ops.specs.declared.question.Op.{Op}
use Rattle.diagram_ops.specs.declared.question.Question.TheVariants.{Combine, Restrict}
use Rattle.diagram_ops.specs.Steps.{combine, side, first, AreLive, asked, IsSplit, IsStep}

front-at : (b : ℕ) (v : Bool) (w : Word) → with_front (b + 1) (λ _. v) w b ≡ v
front-at b v w = grind (arith, nat_tests)

front-beyond : (a b : ℕ) (v : Bool) (w : Word) → a < b → with_front (a + 1) (λ _. v) w b ≡ w b
front-beyond a b v w far = grind (arith, nat_tests)

-- a ref reads no bit above its own
pub has-front : (t : Table) → IsReduced t → (r : Ref) → IsLive t r → (bit : ℕ) → bit < depth t r → (v : Bool) (w : Word) → has t r (with_front (bit + 1) (λ _. v) w) ≡ has t r w
has-front t ok r live bit above v w = has-agree t ok r live _ w (λ b far. front-beyond bit b v w (omega (arith, above, far)))

both_sides : (bit : ℕ) (r : Ref) (v : Bool) → child (triple bit r r) v ≡ r
both_sides bit r true = refl
both_sides bit r false = refl

-- a ref that does not ask the bit is its own side
split_self : (t : Table) (r : Ref) → IsLive t r → (bit : ℕ) → bit < depth t r → ((v : Bool) (w : Word) → has t r (with_front (bit + 1) (λ _. v) w) ≡ has t r w) → IsSplit t r bit r r
split_self t r live bit above front = record {
  live = λ v. subst (IsLive t) (sym (both_sides bit r v)) live;
  deeper = λ v. let same = ap (depth t) (both_sides bit r v) in omega (arith, same, above);
  rises = λ v. let same = ap (depth t) (both_sides bit r v) in omega (arith, same);
  words = λ w. sym (ap (λ s. has t s w) (both_sides bit r (w bit)));
  front = λ v w. ap (λ s. has t s w) (both_sides bit r v) ∙ sym (front v w);
}

pub split_above : (t : Table) → IsReduced t → (r : Ref) → IsLive t r → (bit : ℕ) → bit < depth t r → IsSplit t r bit r r
split_above t ok r live bit above = split_self t r live bit above (has-front t ok r live bit above)

pub split_zero : (t : Table) (r : Ref) (bit : ℕ) → r ≡ Zero → bit < 2 ^ 32 → IsSplit t r bit r r
split_zero t r bit e small =
    let at : depth t Zero ≡ bit_end = depth-zero t in
    let end : bit_end ≡ 2 ^ 32 = bit_end_is in
    subst (λ s. IsSplit t s bit s s) (sym e) (split_self t Zero tt bit (rw at (rw end small)) (λ v w. has-zero t _ ∙ sym (has-zero t w)))

pub split_one : (t : Table) (r : Ref) (bit : ℕ) → r ≡ One → bit < 2 ^ 32 → IsSplit t r bit r r
split_one t r bit e small =
    let at : depth t One ≡ bit_end = depth-one t in
    let end : bit_end ≡ 2 ^ 32 = bit_end_is in
    subst (λ s. IsSplit t s bit s s) (sym e) (split_self t One tt bit (rw at (rw end small)) (λ v w. has-one t _ ∙ sym (has-one t w)))

-- a node that asks the bit has its children as sides
pub split_node : (t : Table) → IsReduced t → (i : NodeId) (n : Triple) → t i ≡ Some n → IsSplit t (Node i) n.bit n.lo n.hi
split_node t ok i n is = record {
  live = λ v. ok.live i n v is;
  deeper = λ v. ok.deeper i n v is;
  rises = λ v. let at = depth-at t i n is in let deeper = ok.deeper i n v is in omega (arith, at, deeper);
  words = λ w. has-at t ok i n w is;
  front = λ v w. let u : Word = with_front (n.bit + 1) (λ _. v) w in
      sym (has-at t ok i n u is ∙ ap (λ x. has t (child n x) u) (front-at n.bit v w)
      ∙ has-front t ok (child n v) (ok.live i n v is) n.bit (ok.deeper i n v is) v w);
}

pub split_there : (t : Table) → IsReduced t → (r : Ref) (bit : ℕ) (i : NodeId) (n : Triple) → r ≡ Node i → t i ≡ Some n → n.bit ≡ bit → IsSplit t r bit n.lo n.hi
split_there t ok r bit i n e at same = subst (λ s. IsSplit t s bit n.lo n.hi) (sym e) (subst (λ b. IsSplit t (Node i) b n.lo n.hi) same (split_node t ok i n at))

pub split_below : (t : Table) → IsReduced t → (r : Ref) (bit : ℕ) (i : NodeId) (n : Triple) → IsLive t r → r ≡ Node i → t i ≡ Some n → bit ≤ depth t r → n.bit ≢ bit → IsSplit t r bit (Node i) (Node i)
split_below t ok r bit i n live e at above differ =
    let level : depth t r ≡ n.bit = ap (depth t) e ∙ depth-at t i n at in
    let below : bit < depth t r = omega (arith, above, level, differ) in
    subst (λ s. IsSplit t r bit s s) e (split_above t ok r live bit below)

-- a step of an operation is a step of both refs
combine_live : (t : Table) (op : Op) (f g : Ref) (bit : ℕ) (f_lo f_hi g_lo g_hi : Ref) → IsSplit t f bit f_lo f_hi → IsSplit t g bit g_lo g_hi → (v : Bool)
    → AreLive t (side (Combine op f_lo g_lo) (Combine op f_hi g_hi) v)
combine_live t op f g bit f_lo f_hi g_lo g_hi fs gs true = (fs.live true, gs.live true)
combine_live t op f g bit f_lo f_hi g_lo g_hi fs gs false = (fs.live false, gs.live false)

combine_deeper : (t : Table) (op : Op) (f g : Ref) (bit : ℕ) (f_lo f_hi g_lo g_hi : Ref) → IsSplit t f bit f_lo f_hi → IsSplit t g bit g_lo g_hi → (v : Bool)
    → bit < first t (side (Combine op f_lo g_lo) (Combine op f_hi g_hi) v)
combine_deeper t op f g bit f_lo f_hi g_lo g_hi fs gs true = let a = fs.deeper true in let b = gs.deeper true in omega (arith, a, b)
combine_deeper t op f g bit f_lo f_hi g_lo g_hi fs gs false = let a = fs.deeper false in let b = gs.deeper false in omega (arith, a, b)

-- what a side asks for, from what both refs' sides have
combine_asked : (t : Table) (op : Op) (f_lo f_hi g_lo g_hi : Ref) (bit : ℕ) (v : Bool) (w : Word)
    → asked t (side (Combine op f_lo g_lo) (Combine op f_hi g_hi) v) w ≡ combine op (has t (child (triple bit f_lo f_hi) v) w) (has t (child (triple bit g_lo g_hi) v) w)
combine_asked t op f_lo f_hi g_lo g_hi bit true w = refl
combine_asked t op f_lo f_hi g_lo g_hi bit false w = refl

pub combine_step : (t : Table) (op : Op) (f g : Ref) (bit : ℕ) (f_lo f_hi g_lo g_hi : Ref) → IsSplit t f bit f_lo f_hi → IsSplit t g bit g_lo g_hi
    → IsStep t (Combine op f g) bit (Combine op f_lo g_lo) (Combine op f_hi g_hi)
combine_step t op f g bit f_lo f_hi g_lo g_hi fs gs = record {
  live = combine_live t op f g bit f_lo f_hi g_lo g_hi fs gs;
  deeper = combine_deeper t op f g bit f_lo f_hi g_lo g_hi fs gs;
  words = λ w. (λ i. combine op (fs.words w i) (gs.words w i)) ∙ sym (combine_asked t op f_lo f_hi g_lo g_hi bit (w bit) w);
  front = λ v w. combine_asked t op f_lo f_hi g_lo g_hi bit v w ∙ (λ i. combine op (fs.front v w i) (gs.front v w i));
}

-- a step of a restriction is a step of its ref, at a lesser bit
restrict_live : (t : Table) (f : Ref) (bit at : ℕ) (value : Bool) (lo hi : Ref) → IsSplit t f bit lo hi → (v : Bool) → AreLive t (side (Restrict lo at value) (Restrict hi at value) v)
restrict_live t f bit at value lo hi is true = is.live true
restrict_live t f bit at value lo hi is false = is.live false

restrict_deeper : (t : Table) (f : Ref) (bit at : ℕ) (value : Bool) (lo hi : Ref) → IsSplit t f bit lo hi → (v : Bool) → bit < first t (side (Restrict lo at value) (Restrict hi at value) v)
restrict_deeper t f bit at value lo hi is true = is.deeper true
restrict_deeper t f bit at value lo hi is false = is.deeper false

restrict_asked : (t : Table) (bit at : ℕ) (value : Bool) (lo hi : Ref) (v : Bool) (w : Word)
    → asked t (side (Restrict lo at value) (Restrict hi at value) v) w ≡ has t (child (triple bit lo hi) v) (with_bit w at value)
restrict_asked t bit at value lo hi true w = refl
restrict_asked t bit at value lo hi false w = refl

set-elsewhere : (a b : ℕ) (value : Bool) (w : Word) → a < b → with_bit w b value a ≡ w a
set-elsewhere a b value w below = grind (arith, nat_tests)

-- the first bits and a greater bit are set in either order
front-with_bit : (bit at : ℕ) (value v : Bool) (w : Word) (b : ℕ) → bit < at → with_front (bit + 1) (λ _. v) (with_bit w at value) b ≡ with_bit (with_front (bit + 1) (λ _. v) w) at value b
front-with_bit bit at value v w b below = grind (arith, nat_tests)

pub restrict_step : (t : Table) (f : Ref) (bit at : ℕ) (value : Bool) (lo hi : Ref) → bit < at → IsSplit t f bit lo hi
    → IsStep t (Restrict f at value) bit (Restrict lo at value) (Restrict hi at value)
restrict_step t f bit at value lo hi below is = record {
  live = restrict_live t f bit at value lo hi is;
  deeper = restrict_deeper t f bit at value lo hi is;
  words = λ w. let u : Word = with_bit w at value in
      is.words u ∙ ap (λ v. has t (child (triple bit lo hi) v) u) (set-elsewhere bit at value w below)
      ∙ sym (restrict_asked t bit at value lo hi (w bit) w);
  front = λ v w. restrict_asked t bit at value lo hi v w ∙ is.front v (with_bit w at value)
      ∙ ap (has t f) (fun_ext (λ b. front-with_bit bit at value v w b below));
}

-- Zero and One ask no bit
pub zero_above : (t : Table) (r : Ref) (bit : ℕ) → r ≡ Zero → bit < 2 ^ 32 → bit ≤ depth t r
zero_above t r bit e small =
    let same = ap (depth t) e in
    let at : depth t Zero ≡ bit_end = depth-zero t in
    let end : bit_end ≡ 2 ^ 32 = bit_end_is in
    omega (arith, same, at, end, small)

pub one_above : (t : Table) (r : Ref) (bit : ℕ) → r ≡ One → bit < 2 ^ 32 → bit ≤ depth t r
one_above t r bit e small =
    let same = ap (depth t) e in
    let at : depth t One ≡ bit_end = depth-one t in
    let end : bit_end ≡ 2 ^ 32 = bit_end_is in
    omega (arith, same, at, end, small)
