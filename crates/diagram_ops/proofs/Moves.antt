-- The sides of a product, and two products taken together.
use Rattle.std.proofs.Common.{◌≡◌, ℕ, ◌<◌, ◌≤◌, min, Bool, true, false, ◌&&◌, List, [], ◌∷◌, ◌++◌, length, All, Some, None, refl, sym, ◌∙◌, ap, subst, arith}
use Rattle.std.specs.Prelude.{slice_get}
use Rattle.std.proofs.lemmas.List.Folds.{list_all-append}
use Rattle.std.proofs.lemmas.List.Elements.{All-from_recursion, recursion_from_All}
use Rattle.std.specs.List.{AllByRecursion as ByRecursion}
use mathlib.Core.Path.{fun_ext}
use Rattle.diagram_arena.specs.declared.nodes.Ref.{Ref}
use Rattle.diagram_arena.specs.declared.nodes.Ref.TheVariants.{Zero, One}
use Rattle.diagram_arena.specs.Table.{Words, Table, has, IsLive, depth, IsReduced}
use Rattle.diagram_arena.proofs.Meaning.{has-zero, has-one, depth-zero, depth-one, depth_within}
use Rattle.diagram_ops.specs.declared.product.Product.{Product}
use Rattle.diagram_ops.specs.declared.product.Product.TheVariants.{Single, Both}
use Rattle.diagram_ops.specs.declared.product.Pair.{Pair}
use Rattle.diagram_ops.specs.Words.{both}
use Rattle.diagram_ops.specs.Steps.{IsSplit}
use Rattle.diagram_ops.specs.Meanings.{first_of, IsEarlier, IsPair, Means, of_ref, of_pair, IsThere, Extends, IsAt, front_of, side_of, AreSidesOf, IsJoinOf, all_of, IsAllOf, IsProductOf}
use Rattle.diagram_ops.proofs.Meant.{of_single, of_both, first_more, means_more, means_free, first_is, extends_then}

-- the sides of one ref
pub single_sides : (t : Table) (pairs : List Pair) (r : Ref) (bit : ℕ) (lo hi : Ref) → IsSplit t r bit lo hi → AreSidesOf t pairs pairs (Single r) bit (Single lo) (Single hi)
single_sides t pairs r bit lo hi is = record {
  means = λ V means v. let e = (of_single t pairs r V means).1 in
      subst (λ X. Means t pairs (side_of (Single lo) (Single hi) v) (front_of X bit v)) (sym e) (side_means t pairs r bit lo hi is v);
  deeper = λ v. side_deeper t pairs r bit lo hi is v;
  words = λ V means w. let e = (of_single t pairs r V means).1 in
      subst (λ X. X w ≡ front_of X bit (w bit) w) (sym e) (is.words w ∙ is.front (w bit) w);
} where
  side_means : (t : Table) (pairs : List Pair) (r : Ref) (bit : ℕ) (lo hi : Ref) → IsSplit t r bit lo hi → (v : Bool) → Means t pairs (side_of (Single lo) (Single hi) v) (front_of (has t r) bit v)
  side_means t pairs r bit lo hi is true = subst (Means t pairs (Single hi)) (fun_ext (is.front true)) (of_ref hi (is.live true))
  side_means t pairs r bit lo hi is false = subst (Means t pairs (Single lo)) (fun_ext (is.front false)) (of_ref lo (is.live false))

  side_deeper : (t : Table) (pairs : List Pair) (r : Ref) (bit : ℕ) (lo hi : Ref) → IsSplit t r bit lo hi → (v : Bool) → bit < first_of t pairs (side_of (Single lo) (Single hi) v)
  side_deeper t pairs r bit lo hi is true = is.deeper true
  side_deeper t pairs r bit lo hi is false = is.deeper false

-- a product that does not ask the bit is its own side
own_side : (p : Product) (v : Bool) → side_of p p v ≡ p
own_side p true = refl
own_side p false = refl

pub own_sides : (t : Table) → IsReduced t → (pairs : List Pair) (p : Product) (bit : ℕ) → bit < first_of t pairs p → AreSidesOf t pairs pairs p bit p p
own_sides t ok pairs p bit above = record {
  means = λ V means v. subst (λ x. Means t pairs x (front_of V bit v)) (sym (own_side p v))
      (subst (Means t pairs p) (fun_ext (λ w. sym (means_free t ok pairs bit v w p V means above))) means);
  deeper = λ v. subst (λ x. bit < first_of t pairs x) (sym (own_side p v)) above;
  words = λ V means w. sym (means_free t ok pairs bit (w bit) w p V means above);
}

-- the parts of what a pair means, at the pair itself
pub record PartsAt (t : Table) (pairs : List Pair) (q : Pair) (i : ℕ) (V : Words) : Type 0 where
  pub on_left : Words
  pub on_right : Words
  pub is : IsPair t pairs i q
  pub left_means : Means t pairs q.left on_left
  pub right_means : Means t pairs q.right on_right
  pub whole : V ≡ both on_left on_right

pub parts_of : (t : Table) (pairs : List Pair) (i : ℕ) (q : Pair) (V : Words) → Means t pairs (Both i) V → slice_get pairs i ≡ Some q → PartsAt t pairs q i V
parts_of t pairs i q V means at =
    let p = of_both t pairs i V means in
    let there : Some p.pair ≡ Some q = sym p.is.at ∙ at in
    let same : p.pair ≡ q = (cc) in
    subst (λ (x : Pair). PartsAt t pairs x i V) same (record {
      on_left = p.on_left;
      on_right = p.on_right;
      is = p.is;
      left_means = p.left_means;
      right_means = p.right_means;
      whole = p.whole;
    })

-- the sides of a pair: those of its parts, taken together. The pairs grow from a to e by the four calls
pub record Halves (t : Table) (a b c d e : List Pair) (q : Pair) (bit : ℕ) (ll lh rl rh lo hi : Product) : Type 0 where
  pub left : AreSidesOf t a b q.left bit ll lh
  pub then_left : Extends a b
  pub right : AreSidesOf t b c q.right bit rl rh
  pub then_right : Extends b c
  pub on_lo : IsJoinOf t c d ll rl lo
  pub then_lo : Extends c d
  pub on_hi : IsJoinOf t d e lh rh hi
  pub then_hi : Extends d e

-- what is known of both parts' sides where the lower ones are joined
pub record Meet (t : Table) (c : List Pair) (bit : ℕ) (l r : Product) (A B : Words) (v : Bool) : Type 0 where
  pub left : Means t c l (front_of A bit v)
  pub right : Means t c r (front_of B bit v)
  pub deep : bit < min (first_of t c l) (first_of t c r)

meet_lo : (t : Table) (a b c d e : List Pair) (q : Pair) (bit : ℕ) (ll lh rl rh lo hi : Product) → Halves t a b c d e q bit ll lh rl rh lo hi
    → (A B : Words) → Means t a q.left A → Means t a q.right B → Meet t c bit ll rl A B false
meet_lo t a b c d e q bit ll lh rl rh lo hi h A B on_left on_right =
    let left = h.left.means A on_left false in
    let right = h.right.means B (means_more t a b h.then_left q.right B on_right) false in
    let same = first_more t b c h.then_right ll (front_of A bit false) left in
    let far = h.left.deeper false in
    let far' = h.right.deeper false in
    record {
      left = means_more t b c h.then_right ll (front_of A bit false) left;
      right = right;
      deep = omega (arith, same, far, far');
    }

meet_hi : (t : Table) (a b c d e : List Pair) (q : Pair) (bit : ℕ) (ll lh rl rh lo hi : Product) → Halves t a b c d e q bit ll lh rl rh lo hi
    → (A B : Words) → Means t a q.left A → Means t a q.right B → Meet t d bit lh rh A B true
meet_hi t a b c d e q bit ll lh rl rh lo hi h A B on_left on_right =
    let more = extends_then b c d h.then_right h.then_lo in
    let left = h.left.means A on_left true in
    let right = h.right.means B (means_more t a b h.then_left q.right B on_right) true in
    let same = first_more t b d more lh (front_of A bit true) left in
    let same' = first_more t c d h.then_lo rh (front_of B bit true) right in
    let far = h.left.deeper true in
    let far' = h.right.deeper true in
    record {
      left = means_more t b d more lh (front_of A bit true) left;
      right = means_more t c d h.then_lo rh (front_of B bit true) right;
      deep = omega (arith, same, same', far, far');
    }

halves_mean : (t : Table) (a b c d e : List Pair) (q : Pair) (bit : ℕ) (ll lh rl rh lo hi : Product) → Halves t a b c d e q bit ll lh rl rh lo hi
    → (A B : Words) → Means t a q.left A → Means t a q.right B → (v : Bool) → Means t e (side_of lo hi v) (front_of (both A B) bit v)
halves_mean t a b c d e q bit ll lh rl rh lo hi h A B on_left on_right true =
    let meet = meet_hi t a b c d e q bit ll lh rl rh lo hi h A B on_left on_right in
    h.on_hi.means (front_of A bit true) (front_of B bit true) meet.left meet.right
halves_mean t a b c d e q bit ll lh rl rh lo hi h A B on_left on_right false =
    let meet = meet_lo t a b c d e q bit ll lh rl rh lo hi h A B on_left on_right in
    means_more t d e h.then_hi lo (both (front_of A bit false) (front_of B bit false)) (h.on_lo.means (front_of A bit false) (front_of B bit false) meet.left meet.right)

halves_deep : (t : Table) (a b c d e : List Pair) (q : Pair) (bit : ℕ) (ll lh rl rh lo hi : Product) → Halves t a b c d e q bit ll lh rl rh lo hi
    → (A B : Words) → Means t a q.left A → Means t a q.right B → (v : Bool) → bit < first_of t e (side_of lo hi v)
halves_deep t a b c d e q bit ll lh rl rh lo hi h A B on_left on_right true =
    let meet = meet_hi t a b c d e q bit ll lh rl rh lo hi h A B on_left on_right in
    let far = meet.deep in
    let deep = h.on_hi.deep in
    omega (arith, far, deep)
halves_deep t a b c d e q bit ll lh rl rh lo hi h A B on_left on_right false =
    let meet = meet_lo t a b c d e q bit ll lh rl rh lo hi h A B on_left on_right in
    let means = h.on_lo.means (front_of A bit false) (front_of B bit false) meet.left meet.right in
    let same = first_more t d e h.then_hi lo (both (front_of A bit false) (front_of B bit false)) means in
    let far = meet.deep in
    let deep = h.on_lo.deep in
    omega (arith, same, far, deep)

pub pair_sides : (t : Table) (a b c d e : List Pair) (i : ℕ) (q : Pair) (bit : ℕ) (ll lh rl rh lo hi : Product) → IsThere t a (Both i) → slice_get a i ≡ Some q
    → Halves t a b c d e q bit ll lh rl rh lo hi → AreSidesOf t a e (Both i) bit lo hi
pair_sides t a b c d e i q bit ll lh rl rh lo hi there at h = record {
  means = λ V means v. let p = parts_of t a i q V means at in
      subst (λ X. Means t e (side_of lo hi v) (front_of X bit v)) (sym p.whole) (halves_mean t a b c d e q bit ll lh rl rh lo hi h p.on_left p.on_right p.left_means p.right_means v);
  deeper = λ v. let p = parts_of t a i q there.0 there.1 at in
      halves_deep t a b c d e q bit ll lh rl rh lo hi h p.on_left p.on_right p.left_means p.right_means v;
  words = λ V means w. let p = parts_of t a i q V means at in
      let left = h.left.words p.on_left p.left_means w in
      let right = h.right.words p.on_right (means_more t a b h.then_left q.right p.on_right p.right_means) w in
      subst (λ X. X w ≡ front_of X bit (w bit) w) (sym p.whole) (λ k. left k && right k);
}

-- both parts of a pair are there, and it asks no bit after them
pub record HasParts (t : Table) (pairs : List Pair) (q : Pair) (i : ℕ) : Type 0 where
  pub left : IsThere t pairs q.left
  pub right : IsThere t pairs q.right
  pub left_earlier : IsEarlier i q.left
  pub right_earlier : IsEarlier i q.right
  pub left_deep : q.bit ≤ first_of t pairs q.left
  pub right_deep : q.bit ≤ first_of t pairs q.right
  pub first : first_of t pairs (Both i) ≡ q.bit

pub has_parts : (t : Table) (pairs : List Pair) (i : ℕ) (q : Pair) → IsThere t pairs (Both i) → slice_get pairs i ≡ Some q → HasParts t pairs q i
has_parts t pairs i q there at =
    let p = parts_of t pairs i q there.0 there.1 at in
    let least = p.is.first in
    record {
      left = (p.on_left, p.left_means);
      right = (p.on_right, p.right_means);
      left_earlier = p.is.left_earlier;
      right_earlier = p.is.right_earlier;
      left_deep = omega (arith, least);
      right_deep = omega (arith, least);
      first = first_is t pairs i q at;
    }

-- joining with Zero, and with One
pub joins_zero : (t : Table) (pairs : List Pair) (left right : Product) → left ≡ Single Zero → IsJoinOf t pairs pairs left right left
joins_zero t pairs left right e = subst (λ l. IsJoinOf t pairs pairs l right l) (sym e) (record {
  means = λ V W v w. let is = (of_single t pairs Zero V v).1 in
      subst (Means t pairs (Single Zero)) (fun_ext (λ x. has-zero t x ∙ sym (ap (λ (X : Words). X x && W x) is ∙ ap (λ b. b && W x) (has-zero t x)))) (of_ref Zero tt);
  deep = let zero = depth-zero t in omega (arith, zero);
})

pub joins_one : (t : Table) (pairs : List Pair) (left right : Product) → left ≡ Single One → IsJoinOf t pairs pairs left right right
joins_one t pairs left right e = subst (λ l. IsJoinOf t pairs pairs l right right) (sym e) (record {
  means = λ V W v w. let is = (of_single t pairs One V v).1 in
      subst (Means t pairs right) (fun_ext (λ x. sym (ap (λ (X : Words). X x && W x) is ∙ ap (λ b. b && W x) (has-one t x)))) w;
  deep = omega arith;
})

both_swap : (V W : Words) → both W V ≡ both V W
both_swap V W = fun_ext (λ x. swap (W x) (V x)) where
  swap : (a b : Bool) → a && b ≡ b && a
  swap true true = refl
  swap true false = refl
  swap false true = refl
  swap false false = refl

pub join_swaps : (t : Table) (ps qs : List Pair) (left right p : Product) → IsJoinOf t ps qs left right p → IsJoinOf t ps qs right left p
join_swaps t ps qs left right p is = record {
  means = λ V W v w. subst (Means t qs p) (both_swap V W) (is.means W V w v);
  deep = let deep = is.deep in omega (arith, deep);
}

-- a pair of both
pub joins_pair : (t : Table) (ps qs : List Pair) (q : Pair) (i : ℕ) → IsThere t ps q.left → IsThere t ps q.right → Extends ps qs → IsAt qs q i
    → q.bit ≡ min (first_of t ps q.left) (first_of t ps q.right) → IsJoinOf t ps qs q.left q.right (Both i)
joins_pair t ps qs q i left right more at least =
    let left_same = first_more t ps qs more q.left left.0 left.1 in
    let right_same = first_more t ps qs more q.right right.0 right.1 in
    record {
      means = λ V W v w. of_pair i q V W (record {
        at = at.there;
        left_earlier = at.left;
        right_earlier = at.right;
        first = least ∙ (λ k. min (sym left_same k) (sym right_same k));
      }) (means_more t ps qs more q.left V v) (means_more t ps qs more q.right W w);
      deep = let here = first_is t qs i q at.there in omega (arith, here, least);
    }

-- all refs of a list
pub all_none : (t : Table) (pairs : List Pair) (refs : List Ref) → refs ≡ [] → IsAllOf t pairs refs (Single One)
all_none t pairs refs e = subst (λ rs. IsAllOf t pairs rs (Single One)) (sym e) (record {
  means = subst (Means t pairs (Single One)) (fun_ext (λ w. has-one t w)) (of_ref One tt);
  deep = λ b within all. let one = depth-one t in omega (arith, one, within);
})

pub all_one : (t : Table) (pairs : List Pair) (r : Ref) → IsLive t r → IsAllOf t pairs (r ∷ []) (Single r)
all_one t pairs r live = record {
  means = subst (Means t pairs (Single r)) (fun_ext (λ w. and_true (has t r w))) (of_ref r live);
  deep = λ b within all. (recursion_from_All (λ x. b ≤ depth t x) (r ∷ []) all).0;
} where
  and_true : (a : Bool) → a ≡ a && true
  and_true true = refl
  and_true false = refl

-- a list of at most one ref
pub all_first : (t : Table) (pairs : List Pair) (refs : List Ref) (r : Ref) → Some r ≡ slice_get refs 0 → length refs < 2 → All (IsLive t) refs → IsAllOf t pairs refs (Single r)
all_first t pairs [] r first few live = absurd (cc)
all_first t pairs (x ∷ []) r first few live =
    let same : x ≡ r = (cc) in
    subst (λ y. IsAllOf t pairs (x ∷ []) (Single y)) same (all_one t pairs x (recursion_from_All (IsLive t) (x ∷ []) live).0)
all_first t pairs (x ∷ y ∷ rest) r first few live = absurd (omega (arith, few))

pub all_empty : (t : Table) (pairs : List Pair) (refs : List Ref) → None ≡ slice_get refs 0 → IsAllOf t pairs refs (Single One)
all_empty t pairs [] none = all_none t pairs [] refl
all_empty t pairs (x ∷ rest) none = absurd (cc)

parts_by : (P : Ref → Type 0) (xs ys : List Ref) → ByRecursion P (xs ++ ys) → ByRecursion P xs × ByRecursion P ys
parts_by P [] ys all = (tt, all)
parts_by P (x ∷ xs) ys all = let rest = parts_by P xs ys all.1 in ((all.0, rest.0), rest.1)

pub all_parts : (P : Ref → Type 0) (xs ys : List Ref) → All P (xs ++ ys) → All P xs × All P ys
all_parts P xs ys all =
    let parts = parts_by P xs ys (recursion_from_All P (xs ++ ys) all) in
    (All-from_recursion P xs parts.0, All-from_recursion P ys parts.1)

-- two halves of a list
pub all_halves : (t : Table) (a b c : List Pair) (xs ys : List Ref) (left right p : Product) → IsAllOf t a xs left → Extends a b → IsAllOf t b ys right → IsJoinOf t b c left right p
    → IsAllOf t c (xs ++ ys) p
all_halves t a b c xs ys left right p on_left more on_right is =
    let left_means = means_more t a b more left (all_of t xs) on_left.means in
    let same = first_more t a b more left (all_of t xs) on_left.means in
    record {
      means = subst (Means t c p) (fun_ext (λ w. sym (list_all-append (λ r. has t r w) xs ys))) (is.means (all_of t xs) (all_of t ys) left_means on_right.means);
      deep = λ b' within all.
          let parts = all_parts (λ r. b' ≤ depth t r) xs ys all in
          let front = on_left.deep b' within parts.0 in
          let back = on_right.deep b' within parts.1 in
          let deep = is.deep in
          omega (arith, same, front, back, deep);
    }

-- a split goes down into a pair
pub record Descends (t : Table) (pairs : List Pair) (i : ℕ) (q : Pair) (bit : ℕ) : Type 0 where
  pub there : IsThere t pairs (Both i)
  pub parts : HasParts t pairs q i
  pub above : bit ≤ q.bit

pub descends : (t : Table) (pairs : List Pair) (p : Product) (bit i : ℕ) (q : Pair) → p ≡ Both i → IsThere t pairs p → bit ≤ first_of t pairs p → slice_get pairs i ≡ Some q → Descends t pairs i q bit
descends t pairs p bit i q e there above at =
    let here = subst (IsThere t pairs) e there in
    let parts = has_parts t pairs i q here at in
    record {
      there = here;
      parts = parts;
      above = let same = ap (first_of t pairs) e in let first = parts.first in omega (arith, same, first, above);
    }

pub side_there : (t : Table) (ps qs : List Pair) (p : Product) (bit : ℕ) (lo hi : Product) → AreSidesOf t ps qs p bit lo hi → IsThere t ps p → (v : Bool) → IsThere t qs (side_of lo hi v)
side_there t ps qs p bit lo hi is there v = (front_of there.0 bit v, is.means there.0 there.1 v)

-- f and a list taken together
pub product_is : (t : Table) → IsReduced t → (ps qs : List Pair) (f : Ref) (gs : List Ref) (rest p : Product) → IsLive t f → IsAllOf t ps gs rest → IsJoinOf t ps qs (Single f) rest p
    → IsProductOf t qs f gs p
product_is t ok ps qs f gs rest p live all is = record {
  means = is.means (has t f) (all_of t gs) (of_ref f live) all.means;
  deep = λ b here each.
      let within = depth_within t ok f live in
      let far = all.deep b (omega (arith, within, here)) each in
      let deep = is.deep in
      omega (arith, here, far, deep);
}
