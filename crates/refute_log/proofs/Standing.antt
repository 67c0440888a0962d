-- Numbers that stand for refs: for Zero and One, in a table that grows, and for a node that comes with its line.
use Rattle.std.proofs.Common.{◌≡◌, ℕ, ◌+◌, ◌-◌, ◌<◌, ◌==◌, nat_lt, Bool, true, false, cond, List, [], ◌∷◌, ◌++◌, length, Option, Some, None, refl, sym, ap, ◌∙◌, subst, inl, inr, arith}
use Rattle.std.specs.Prelude.{slice_get, slice_index_or, IfSome, IsSomeAnd}
use Rattle.std.specs.Option.{option_map_or}
use Rattle.std.proofs.lemmas.Bool.{eqb-true, cases_lt}
use Rattle.std.proofs.lemmas.Bool.Decides.{nat_tests}
use Rattle.std.proofs.lemmas.List.{length-append}
use Rattle.std.proofs.lemmas.Option.{slice_get_within}
use Rattle.set_meaning.specs.declared.kinds.Kind.{Kind}
use Rattle.set_meaning.specs.declared.problems.VarId.{VarId}
use Rattle.bit_layout.specs.declared.places.Place.{Place}
use Rattle.bit_layout.specs.Words.{width_of}
use Rattle.bit_layout.specs.Order.{LayoutState, IsLayout, IsPlace, width_at, bit_at, StandsFor}
use Rattle.bit_layout.proofs.Finding.{bits_ascend, bit_once, place_is_place, stands_from}
use Rattle.diagram_arena.specs.declared.nodes.NodeId.{NodeId}
use Rattle.diagram_arena.specs.declared.nodes.Ref.{Ref}
use Rattle.diagram_arena.specs.declared.nodes.Ref.TheVariants as ref
use Rattle.diagram_arena.specs.declared.nodes.Triple.{Triple}
use Rattle.diagram_arena.specs.Table.{Table, child, has, depth}
use Rattle.diagram_arena.specs.Reach.{Bits, step, follow, ReachesOnly}
use Rattle.diagram_arena.specs.Arena.{Stands}
use Rattle.diagram_arena.proofs.Meaning.{has-zero, has-one}
use Rattle.log_rules.specs.declared.nodes.Node.{Node}
use Rattle.log_rules.specs.Tables.{node_at, next_node, walk, IsDeeper, IsNext, IsTable, Tests, here, by_lo, by_hi}
use Rattle.log_rules.specs.Boxes.{FitsWidth}
use Rattle.log_rules.proofs.Walks.{walk_of_an_end, walk_stays, walk_to_the_child, node_stays, tests_stay, table_grows}
use Rattle.refute_log.specs.Naming.{position_of, bits_of, spread, IsOfOneVariable, Names}

-- ---- what a node reaches

step_at : (t : Table) (i : NodeId) (n : Triple) (v : Bool) → t i ≡ Some n → step t (ref.Node i) v ≡ child n v
step_at t i n v is = ap (λ o. option_map_or (λ (m : Triple). child m v) o (ref.Node i)) is

pub child_reaches : (t : Table) (bits : Bits) (i : NodeId) (n : Triple) (v : Bool) → t i ≡ Some n → ReachesOnly t bits (ref.Node i) → ReachesOnly t bits (child n v)
child_reaches t bits i n v at reaches path j m end is = reaches (v ∷ path) j m (ap (λ r. follow t r path) (step_at t i n v at) ∙ end) is

pub own_bit : (t : Table) (bits : Bits) (i : NodeId) (n : Triple) → t i ≡ Some n → ReachesOnly t bits (ref.Node i) → bits n.bit ≡ true
own_bit t bits i n at reaches = reaches [] i n refl at

pub one_child : (l : LayoutState) (t : Table) (i : NodeId) (n : Triple) (r : Ref) (v : Bool) → t i ≡ Some n → r ≡ ref.Node i → IsOfOneVariable l t r → IsOfOneVariable l t (child n v)
one_child l t i n r v at is whole = let one : IsOfOneVariable l t (ref.Node i) = subst (IsOfOneVariable l t) is whole in record { variable = one.variable; reaches = child_reaches t (bits_of l one.variable) i n v at one.reaches }

-- ---- positions of bits

pub place_there : (l : LayoutState) (v : VarId) (b : ℕ) → bits_of l v b ≡ true → (p : Place) × (slice_get l.places b ≡ Some p) × (p.variable ≡ v)
place_there l v b on = by (slice_get l.places b) refl on
  where
    by : (o : Option Place) → slice_get l.places b ≡ o → option_map_or (λ (p : Place). p.variable.0 == v.0) o false ≡ true → (p : Place) × (slice_get l.places b ≡ Some p) × (p.variable ≡ v)
    by None is e = absurd (cc)
    by (Some p) is e = let same : p.variable.0 ≡ v.0 = eqb-true p.variable.0 v.0 e in (p, is, λ k. record { 0 = same k })

pub place_within : (l : LayoutState) (v : VarId) (b : ℕ) → bits_of l v b ≡ true → b < length l.places
place_within l v b on = let p = place_there l v b on in slice_get_within l.places b p.0 p.1

pub position_is : (l : LayoutState) (b : ℕ) (p : Place) → slice_get l.places b ≡ Some p → position_of l b ≡ p.position
position_is l b p is = ap (λ o. option_map_or (λ (q : Place). q.position) o 0) is

-- what a layout answers for a bit is the position for which the bit stands
pub place_position : (l : LayoutState) (b : ℕ) (v : VarId) (position : ℕ) → StandsFor l b v position → position ≡ position_of l b
place_position l b v position stands = by (slice_get l.places b) stands
  where
    by : (o : Option Place) → IsSomeAnd o (λ p. (p.variable ≡ v) × (p.position ≡ position)) → position ≡ option_map_or (λ (p : Place). p.position) o 0
    by None h = absurd h
    by (Some p) h = sym h.1

stands_there : (l : LayoutState) (v : VarId) (b : ℕ) → bits_of l v b ≡ true → StandsFor l b v (position_of l b)
stands_there l v b on = let p = place_there l v b on in stands_from l b v (position_of l b) p.0 p.1 p.2 (sym (position_is l b p.0 p.1))

pub position_within : (l : LayoutState) (v : VarId) (b : ℕ) → IsLayout l → bits_of l v b ≡ true → position_of l b < width_at l v
position_within l v b layout on =
    let p = place_there l v b on in
    let place : IsPlace l.kinds p.0 = place_is_place l b p.0 layout p.1 in
    let within : p.0.position < width_at l p.0.variable = by p.0 (slice_get l.kinds p.0.variable.0) place in
    let same : width_at l p.0.variable ≡ width_at l v = ap (width_at l) p.2 in
    let at : position_of l b ≡ p.0.position = position_is l b p.0 p.1 in
    omega (arith, within, same, at)
  where
    by : (p : Place) (o : Option Kind) → IsSomeAnd o (λ k. (p.position < width_of k) × (p.element ≡ Rattle.bit_layout.specs.Order.element_at k p.position)) → p.position < option_map_or width_of o 0
    by p None h = absurd h
    by p (Some k) h = h.0

pub positions_ascend : (l : LayoutState) (v : VarId) (b c : ℕ) → IsLayout l → bits_of l v b ≡ true → bits_of l v c ≡ true → b < c → position_of l b < position_of l c
positions_ascend l v b c layout on_b on_c less =
    let at_b : bit_at l v (position_of l b) ≡ b = bit_once l v (position_of l b) b layout.order (stands_there l v b on_b) in
    let at_c : bit_at l v (position_of l c) ≡ c = bit_once l v (position_of l c) c layout.order (stands_there l v c on_c) in
    elim (cases_lt (position_of l b) (position_of l c)) [
      | inl h ↦ h
      | inr more ↦ elim (cases_lt (position_of l c) (position_of l b)) [
        | inl h ↦ let falls = bits_ascend l v (position_of l c) (position_of l b) layout h (position_within l v b layout on_b) in absurd (omega (arith, falls, at_b, at_c, less))
        | inr back ↦
            let same : position_of l b ≡ position_of l c = omega (arith, more, back) in
            let e : b ≡ c = sym at_b ∙ ap (bit_at l v) same ∙ at_c in
            absurd (omega (arith, e, less))
      ]
    ]

-- ---- numbers of Zero and One

no_node : (nodes : List Node) (n : ℕ) → n < 2 → node_at nodes n ≡ None
no_node nodes n small = let on : nat_lt n 2 ≡ true = grind (arith, nat_tests) in ap (λ b. cond b None (slice_get nodes (n - 2))) on

fits_end : (nodes : List Node) (n width : ℕ) → n < 2 → FitsWidth nodes n width
unfolding FitsWidth
fits_end nodes n width small place tests = by n place small tests
  where
    by : (n place : ℕ) → n < 2 → Tests nodes n place → place < width
    by n place small (here {node = node} is) = let e : None ≡ Some node = sym (no_node nodes n small) ∙ is in absurd (cc)
    by n place small (by_lo {node = node} is rest) = let e : None ≡ Some node = sym (no_node nodes n small) ∙ is in absurd (cc)
    by n place small (by_hi {node = node} is rest) = let e : None ≡ Some node = sym (no_node nodes n small) ∙ is in absurd (cc)

deeper_end : (nodes : List Node) (n place : ℕ) → n < 2 → IsDeeper nodes place n
deeper_end nodes n place small = subst (λ o. IfSome o (λ node. place < node.place)) (sym (no_node nodes n small)) tt

pub names_zero : (l : LayoutState) (t : Table) (nodes : List Node) → Names l t nodes ref.Zero 0
names_zero l t nodes = record {
  known = omega arith;
  means = λ word. walk_of_an_end nodes 0 word (omega arith) ∙ sym (has-zero t (spread l word));
  fits = λ v reaches. fits_end nodes 0 (width_at l v) (omega arith);
  deeper = λ v bit reaches on above. deeper_end nodes 0 (position_of l bit) (omega arith);
}

pub names_one : (l : LayoutState) (t : Table) (nodes : List Node) → Names l t nodes ref.One 1
names_one l t nodes = record {
  known = omega arith;
  means = λ word. walk_of_an_end nodes 1 word (omega arith) ∙ sym (has-one t (spread l word));
  fits = λ v reaches. fits_end nodes 1 (width_at l v) (omega arith);
  deeper = λ v bit reaches on above. deeper_end nodes 1 (position_of l bit) (omega arith);
}

pub names_of : (l : LayoutState) (t : Table) (nodes : List Node) (r q : Ref) (n : ℕ) → r ≡ q → Names l t nodes q n → Names l t nodes r n
names_of l t nodes r q n is names = subst (λ (x : Ref). Names l t nodes x n) (sym is) names

-- ---- a table that grows

fits_more : (nodes more : List Node) (n width : ℕ) → IsTable nodes → n < next_node nodes → FitsWidth nodes n width → FitsWidth (nodes ++ more) n width
unfolding FitsWidth
fits_more nodes more n width legal known fits place tests = fits place (tests_stay nodes more legal n place known tests)

deeper_more : (nodes more : List Node) (n place : ℕ) → n < next_node nodes → IsDeeper nodes place n → IsDeeper (nodes ++ more) place n
deeper_more nodes more n place known deeper = subst (λ o. IfSome o (λ node. place < node.place)) (sym (node_stays nodes more n known)) deeper

pub names_more : (l : LayoutState) (t : Table) (nodes more : List Node) (r : Ref) (n : ℕ) → IsTable nodes → Names l t nodes r n → Names l t (nodes ++ more) r n
names_more l t nodes more r n legal names = record {
  known = (let long = length-append nodes more in let there : n < length nodes + 2 = names.known in let e : n < length (nodes ++ more) + 2 = omega arith in e);
  means = λ word. walk_stays nodes more n word names.known ∙ names.means word;
  fits = λ v reaches. fits_more nodes more n (width_at l v) legal names.known (names.fits v reaches);
  deeper = λ v bit reaches on above. deeper_more nodes more n (position_of l bit) names.known (names.deeper v bit reaches on above);
}

-- ---- a node that comes with its line

new_is : (table : List Node) (node : Node) → node_at (table ++ node ∷ []) (next_node table) ≡ Some node
new_is table node = ap (λ b. cond b None (slice_get (table ++ node ∷ []) (length table + 2 - 2))) large ∙ ap (slice_get (table ++ node ∷ [])) e ∙ last table
  where
    large : nat_lt (length table + 2) 2 ≡ false
    large = grind (arith, nat_tests)

    e : length table + 2 - 2 ≡ length table
    e = omega arith

    last : (xs : List Node) → slice_get (xs ++ node ∷ []) (length xs) ≡ Some node
    last [] = refl
    last (x ∷ xs) = last xs

abbrev pub line_of : LayoutState → Triple → ℕ → ℕ → Node
line_of l n lo hi = record { place = position_of l n.bit; lo = lo; hi = hi }

pub next_line : (l : LayoutState) (t : Table) (nodes : List Node) (i : NodeId) (n : Triple) (lo hi : ℕ) → Stands t i n → IsOfOneVariable l t (ref.Node i)
    → Names l t nodes n.lo lo → Names l t nodes n.hi hi → IsNext nodes (line_of l n lo hi)
next_line l t nodes i n lo hi stands one names_lo names_hi =
    let own = own_bit t (bits_of l one.variable) i n stands.at one.reaches in record {
      lo = record { earlier = names_lo.known; deeper = names_lo.deeper one.variable n.bit (child_reaches t (bits_of l one.variable) i n false stands.at one.reaches) own (stands.deeper false) };
      hi = record { earlier = names_hi.known; deeper = names_hi.deeper one.variable n.bit (child_reaches t (bits_of l one.variable) i n true stands.at one.reaches) own (stands.deeper true) };
    }

module _ (l : LayoutState) (t : Table) (nodes : List Node) (i : NodeId) (n : Triple) (lo hi : ℕ) (layout : IsLayout l) (legal : IsTable nodes)
    (stands : Stands t i n) (one : IsOfOneVariable l t (ref.Node i)) (names_lo : Names l t nodes n.lo lo) (names_hi : Names l t nodes n.hi hi) where
  abbrev node : Node
  node = line_of l n lo hi

  abbrev grown : List Node
  grown = nodes ++ node ∷ []

  next : IsNext nodes node
  next = next_line l t nodes i n lo hi stands one names_lo names_hi

  is : node_at grown (next_node nodes) ≡ Some node
  is = new_is nodes node

  same : (other : Node) → node_at grown (next_node nodes) ≡ Some other → node ≡ other
  same other h = let e : Some node ≡ Some other = sym is ∙ h in cc

  own_place : (word : List Bool) → spread l word n.bit ≡ slice_index_or word node.place false
  own_place word =
      let p = place_there l one.variable n.bit (own_bit t (bits_of l one.variable) i n stands.at one.reaches) in
      ap (λ o. option_map_or (λ (q : Place). slice_index_or word q.position false) o false) p.1
      ∙ ap (λ k. slice_index_or word k false) (sym (position_is l n.bit p.0 p.1))

  side_means : (word : List Bool) (v : Bool) → walk grown (cond v hi lo) word ≡ has t (child n v) (spread l word)
  side_means word true = walk_stays nodes (node ∷ []) hi word names_hi.known ∙ names_hi.means word
  side_means word false = walk_stays nodes (node ∷ []) lo word names_lo.known ∙ names_lo.means word

  means : (word : List Bool) → walk grown (next_node nodes) word ≡ has t (ref.Node i) (spread l word)
  means word =
      walk_to_the_child grown (table_grows nodes node legal next) (next_node nodes) node word is
      ∙ side_means word (slice_index_or word node.place false)
      ∙ ap (λ v. has t (child n v) (spread l word)) (sym (own_place word))
      ∙ sym (stands.words (spread l word))

  tests_within : (v : VarId) → ReachesOnly t (bits_of l v) (ref.Node i) → (place : ℕ) → Tests grown (next_node nodes) place → place < width_at l v
  unfolding FitsWidth
  tests_within v reaches place (here {node = other} h) =
      subst (λ (d : Node). d.place < width_at l v) (same other h) (position_within l v n.bit layout (own_bit t (bits_of l v) i n stands.at reaches))
  tests_within v reaches place (by_lo {node = other} h rest) =
      names_lo.fits v (child_reaches t (bits_of l v) i n false stands.at reaches) place
      (tests_stay nodes (node ∷ []) legal lo place names_lo.known (subst (λ (d : Node). Tests grown d.lo place) (sym (same other h)) rest))
  tests_within v reaches place (by_hi {node = other} h rest) =
      names_hi.fits v (child_reaches t (bits_of l v) i n true stands.at reaches) place
      (tests_stay nodes (node ∷ []) legal hi place names_hi.known (subst (λ (d : Node). Tests grown d.hi place) (sym (same other h)) rest))

  fits : (v : VarId) → ReachesOnly t (bits_of l v) (ref.Node i) → FitsWidth grown (next_node nodes) (width_at l v)
  unfolding FitsWidth
  fits v reaches = tests_within v reaches

  deeper : (v : VarId) (bit : ℕ) → ReachesOnly t (bits_of l v) (ref.Node i) → bits_of l v bit ≡ true → bit < depth t (ref.Node i) → IsDeeper grown (position_of l bit) (next_node nodes)
  deeper v bit reaches on above =
      let level = stands.level in
      let less : bit < n.bit = omega (arith, above, level) in
      subst (λ o. IfSome o (λ d. position_of l bit < d.place)) (sym is)
      (positions_ascend l v bit n.bit layout on (own_bit t (bits_of l v) i n stands.at reaches) less)

  pub names_node : Names l t grown (ref.Node i) (next_node nodes)
  names_node = record {
    known = (let long = length-append nodes (node ∷ []) in let e : length nodes + 2 < length grown + 2 = omega arith in e);
    means = means;
    fits = fits;
    deeper = deeper;
  }
