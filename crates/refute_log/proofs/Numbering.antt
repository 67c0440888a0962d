-- Lines of nodes, one after another, and the tags that are set with them.
use Rattle.std.proofs.Common.{◌≡◌, ℕ, ◌+◌, ◌-◌, ◌<◌, suc, Bool, List, [], ◌∷◌, ◌++◌, length, Option, Some, None, refl, sym, ap, ◌∙◌, subst, inl, inr, arith}
use Rattle.std.specs.Prelude.{Result, Ok, Err, IfOk, IsErr}
use Rattle.std.specs.Option.{option_map, unwrap_or}
use Rattle.std.specs.List.{AllByRecursion}
use Rattle.std.specs.FinMap as map
use Rattle.std.proofs.lemmas.List.{append_assoc, append-nil, length-append}
use Rattle.bit_layout.specs.Order.{LayoutState, IsLayout}
use Rattle.diagram_arena.specs.declared.nodes.NodeId.{NodeId}
use Rattle.diagram_arena.specs.declared.nodes.Node.{Node as Stored}
use Rattle.diagram_arena.specs.declared.nodes.Ref.{Ref}
use Rattle.diagram_arena.specs.declared.nodes.Ref.TheVariants as ref
use Rattle.diagram_arena.specs.declared.nodes.Triple.{Triple}
use Rattle.diagram_arena.specs.Table.{Table, child, bit_end, depth}
use Rattle.diagram_arena.specs.Arena.{ArenaState, table, tag_of, triple_of, Stands, ChangesNode}
use Rattle.diagram_arena.proofs.Ids.{cases_id}
use Rattle.node_reclaim.specs.Pool.{PoolState}
use Rattle.log_text.specs.declared.line.Line.{Line}
use Rattle.log_text.specs.Spelling.{HasSpelling}
use Rattle.log_rules.specs.declared.nodes.Node.{Node}
use Rattle.log_rules.specs.Tables.{next_node, IsTable}
use Rattle.log_rules.proofs.Walks.{table_grows}
use Rattle.refute_log.specs.Lines.{line_text, text_of, node_line, node_lines}
use Rattle.refute_log.specs.Naming.{position_of, IsOfOneVariable, Names, IsNumbered, number_of, untagged, ChangesTags}
use Rattle.refute_log.specs.Batches.{GoesOn, BatchState, Adds, IsNumberOf, Numbers, Builds}
use Rattle.refute_log.proofs.Standing.{names_more, names_node, next_line, line_of}

-- ---- lines one after another

pub node_lines-append : (k : ℕ) (xs ys : List Node) → node_lines k (xs ++ ys) ≡ node_lines k xs ++ node_lines (k + length xs) ys
node_lines-append k [] ys = ap (λ m. node_lines m ys) (let e : k ≡ k + 0 = omega arith in e)
node_lines-append k (x ∷ xs) ys =
    ap (λ zs. node_line k x ∷ zs) (node_lines-append (k + 1) xs ys ∙ ap (λ m. node_lines (k + 1) xs ++ node_lines m ys) (let e : k + 1 + length xs ≡ k + suc (length xs) = omega arith in e))

pub text_of-append : (xs ys : List Line) → text_of (xs ++ ys) ≡ text_of xs ++ text_of ys
text_of-append [] ys = refl
text_of-append (x ∷ xs) ys = ap (λ zs. line_text x ++ zs) (text_of-append xs ys) ∙ sym (append_assoc (line_text x) (text_of xs) (text_of ys))

pub all_append : {X : Type 0} (P : X → Type 0) (xs ys : List X) → AllByRecursion P xs → AllByRecursion P ys → AllByRecursion P (xs ++ ys)
all_append P [] ys first second = second
all_append P (x ∷ xs) ys first second = (first.0, all_append P xs ys first.1 second)

-- ---- tags

tags_same : (a : ArenaState) → ChangesTags a a
tags_same a = record { nodes = λ i. refl; table = refl; limit = refl }

tags_then : (a b c : ArenaState) → ChangesTags a b → ChangesTags b c → ChangesTags a c
tags_then a b c first second = record {
  nodes = λ i. second.nodes i ∙ first.nodes i;
  table = second.table ∙ first.table;
  limit = second.limit ∙ first.limit;
}

abbrev with_tag : ℕ → Stored → Stored
with_tag k n = record n { tag = k }

tag_set : (old new : ArenaState) (i : NodeId) (k : ℕ) → ChangesNode old new i (with_tag k) → table new ≡ table old → ChangesTags old new
tag_set old new i k changes same = record {
  nodes = λ j. elim (cases_id j i) [
    | inl e ↦ ap (λ (x : NodeId). option_map untagged (map.get new.nodes x)) e ∙ ap (option_map untagged) changes.changed ∙ by (map.get old.nodes i) ∙ sym (ap (λ (x : NodeId). option_map untagged (map.get old.nodes x)) e)
    | inr other ↦ ap (option_map untagged) (changes.others j other)
  ];
  table = same;
  limit = changes.limit;
} where
  by : (o : Option Stored) → option_map untagged (option_map (with_tag k) o) ≡ option_map untagged o
  by None = refl
  by (Some n) = refl

tag_is : (o : Option Stored) (k n : ℕ) → option_map (λ (m : Stored). m.tag) (option_map (with_tag k) o) ≡ Some n → k ≡ n
tag_is None k n e = absurd (cc)
tag_is (Some m) k n e = cc

pub numbered_more : (l : LayoutState) (a : ArenaState) (nodes more : List Node) → IsTable nodes → IsNumbered l a nodes → IsNumbered l a (nodes ++ more)
numbered_more l a nodes more legal numbered = record { each = λ i n is some. names_more l (table a) nodes more (ref.Node i) n legal (numbered.each i n is some) }

numbered_set : (l : LayoutState) (old new : ArenaState) (nodes : List Node) (i : NodeId) (k : ℕ) → ChangesNode old new i (with_tag k) → table new ≡ table old
    → IsNumbered l old nodes → Names l (table old) nodes (ref.Node i) k → IsNumbered l new nodes
numbered_set l old new nodes i k changes same numbered names = record {
  each = λ j n is some. subst (λ (t : Table). Names l t nodes (ref.Node j) n) (sym same) (elim (cases_id j i) [
    | inl e ↦ (
        let at : tag_of new i ≡ Some n = sym (ap (tag_of new) e) ∙ is in
        let value : k ≡ n = tag_is (map.get old.nodes i) k n (sym (ap (option_map (λ (m : Stored). m.tag)) changes.changed) ∙ at) in
        subst (λ (x : NodeId). Names l (table old) nodes (ref.Node x) n) (sym e) (subst (λ m. Names l (table old) nodes (ref.Node i) m) value names)
        )
    | inr other ↦ numbered.each j n (sym (ap (option_map (λ (m : Stored). m.tag)) (changes.others j other)) ∙ is) some
  ]);
}

-- ---- batches

adds_none : (s : PoolState) (a : BatchState) → Adds s s a a []
adds_none s a = record { only = refl; tags = tags_same s.arena; next = omega arith; text = sym (append-nil a.text); spelled = tt }

adds_then : (s t u : PoolState) (a b c : BatchState) (xs ys : List Node) → Adds s t a b xs → Adds t u b c ys → Adds s u a c (xs ++ ys)
adds_then s t u a b c xs ys first second = record {
  only = second.only ∙ ap (λ (p : PoolState). record p { arena = u.arena }) first.only;
  tags = tags_then s.arena t.arena u.arena first.tags second.tags;
  next = (let long = length-append xs ys in let one = first.next in let two = second.next in omega arith);
  text = second.text ∙ ap (λ (x : List ℕ). x ++ text_of (node_lines b.next ys)) first.text
      ∙ append_assoc a.text (text_of (node_lines a.next xs)) (text_of (node_lines b.next ys))
      ∙ ap (λ (x : List ℕ). a.text ++ x) (sym (text_of-append (node_lines a.next xs) (node_lines b.next ys)) ∙ ap text_of lines);
  spelled = subst (AllByRecursion HasSpelling) lines (all_append HasSpelling (node_lines a.next xs) (node_lines b.next ys) first.spelled second.spelled);
} where
  lines : node_lines a.next xs ++ node_lines b.next ys ≡ node_lines a.next (xs ++ ys)
  lines = ap (λ k. node_lines a.next xs ++ node_lines k ys) first.next ∙ sym (node_lines-append a.next xs ys)

-- the number of the next node goes on with the nodes
next_after : (nodes more : List Node) (k m : ℕ) → next_node nodes ≡ k → m ≡ k + length more → next_node (nodes ++ more) ≡ m
next_after nodes more k m is on =
    let long = length-append nodes more in
    let from : length nodes + 2 ≡ k = is in
    let e : length (nodes ++ more) + 2 ≡ m = omega arith in e

-- an answer that is none
none_given : {E : Type 0} (answer : Result ℕ E) (P : ℕ → Type 0) → IsErr answer → IfOk answer P
none_given (Ok n) P h = absurd (cc)
none_given (Err e) P h = tt

-- a node of the table is stored
stored : (a : ArenaState) (i : NodeId) (n : Triple) → table a i ≡ Some n → (m : Stored) × (map.get a.nodes i ≡ Some m)
unfolding table
stored a i n at = by (map.get a.nodes i) refl at
  where
    by : (o : Option Stored) → map.get a.nodes i ≡ o → option_map triple_of o ≡ Some n → (m : Stored) × (map.get a.nodes i ≡ Some m)
    by None is e = absurd (cc)
    by (Some m) is e = (m, is)

-- ---- one node

pub builds_none : {E : Type 0} (l : LayoutState) (s : PoolState) (a b : BatchState) (i : NodeId) (lo hi : ℕ) (answer : Result ℕ E) → IsErr answer → b ≡ a → Builds {E = E} l s s a b i lo hi answer
builds_none {E} l s a b i lo hi answer err same = subst (λ (x : BatchState). Builds {E = E} l s s a x i lo hi answer) (sym same) (record {
  more = [];
  adds = adds_none s a;
  tag = none_given answer _ err;
  goes_on = λ nodes n is legal numbered at names_lo names_hi.
      record { legal = subst IsTable (sym (append-nil nodes)) legal; numbered = subst (IsNumbered l s.arena) (sym (append-nil nodes)) numbered; number = none_given answer _ err };
})

pub builds_node : {E : Type 0} (l : LayoutState) (s u : PoolState) (a b : BatchState) (i : NodeId) (n : Triple) (lo hi k place : ℕ)
    → IsLayout l → Stands (table s.arena) i n → IsOfOneVariable l (table s.arena) (ref.Node i) → place ≡ position_of l n.bit
    → k ≡ a.next → b.next ≡ k + 1 → b.text ≡ a.text ++ line_text (node_line k (record { place = place; lo = lo; hi = hi })) → HasSpelling (node_line k (record { place = place; lo = lo; hi = hi }))
    → u ≡ record s { arena = u.arena } → ChangesNode s.arena u.arena i (with_tag k) → table u.arena ≡ table s.arena → Builds {E = E} l s u a b i lo hi (Ok k)
builds_node {E} l s u a b i n lo hi k place layout stands one at_place is on text spelled only changes same = record {
  more = node ∷ [];
  adds = record {
    only = only;
    tags = tag_set s.arena u.arena i k changes same;
    next = omega (arith, is, on);
    text = text ∙ ap (λ (x : List ℕ). a.text ++ x) (ap line_text line ∙ sym (append-nil (line_text (node_line a.next node))));
    spelled = (subst HasSpelling line spelled, tt);
  };
  tag = tag_now;
  goes_on = λ nodes m is_next legal numbered at names_lo names_hi.
      let m_is : m ≡ n = some_same m n (sym at ∙ stands.at) in
      goes nodes is_next legal numbered (subst (λ (x : Triple). Names l t nodes x.lo lo) m_is names_lo) (subst (λ (x : Triple). Names l t nodes x.hi hi) m_is names_hi);
} where
  t : Table
  t = table s.arena

  node : Node
  node = line_of l n lo hi

  line : node_line k (record { place = place; lo = lo; hi = hi }) ≡ node_line a.next node
  line = ap (λ p. node_line k (record { place = p; lo = lo; hi = hi })) at_place ∙ ap (λ m. node_line m node) is

  tag_now : number_of u.arena (ref.Node i) ≡ k
  tag_now =
      let m = stored s.arena i n stands.at in
      ap (λ o. unwrap_or (option_map (λ (x : Stored). x.tag) o) 0) (changes.changed ∙ ap (option_map (with_tag k)) m.1)

  some_same : (x y : Triple) → Some x ≡ Some y → x ≡ y
  some_same x y e = cc

  goes : (nodes : List Node) → next_node nodes ≡ a.next → IsTable nodes → IsNumbered l s.arena nodes → Names l t nodes n.lo lo → Names l t nodes n.hi hi
      → GoesOn {E = E} l u.arena (nodes ++ node ∷ []) (ref.Node i) (Ok k)
  goes nodes is_next legal numbered names_lo names_hi =
      let number : next_node nodes ≡ k = is_next ∙ sym is in
      let names : Names l t (nodes ++ node ∷ []) (ref.Node i) k =
      subst (λ m. Names l t (nodes ++ node ∷ []) (ref.Node i) m) number (names_node l t nodes i n lo hi layout legal stands one names_lo names_hi) in
      record {
        legal = table_grows nodes node legal (next_line l t nodes i n lo hi stands one names_lo names_hi);
        numbered = numbered_set l s.arena u.arena (nodes ++ node ∷ []) i k changes same (numbered_more l s.arena nodes (node ∷ []) legal numbered) names;
        number = subst (λ (x : Table). Names l x (nodes ++ node ∷ []) (ref.Node i) k) (sym same) names;
      }

-- ---- a ref

-- nothing is built where the number is there
pub numbers_there : {E : Type 0} (l : LayoutState) (s : PoolState) (a : BatchState) (r : Ref) (k : ℕ) → number_of s.arena r ≡ k
    → ((nodes : List Node) → IsNumbered l s.arena nodes → Names l (table s.arena) nodes r k) → Numbers {E = E} l s s a a r (Ok k)
numbers_there {E} l s a r k tag names = record {
  more = [];
  adds = adds_none s a;
  tag = tag;
  goes_on = λ nodes is legal numbered.
      record {
        legal = subst IsTable (sym (append-nil nodes)) legal;
        numbered = subst (IsNumbered l s.arena) (sym (append-nil nodes)) numbered;
        number = subst (λ (x : List Node). Names l (table s.arena) x r k) (sym (append-nil nodes)) (names nodes numbered);
      };
}

-- the first child has no number
pub numbers_first : {E : Type 0} (l : LayoutState) (s t : PoolState) (a b : BatchState) (r q : Ref) (e : E) (answer : Result ℕ E)
    → IsErr answer → Numbers {E = E} l s t a b q (Err e) → Numbers {E = E} l s t a b r answer
numbers_first l s t a b r q e answer err first = record {
  more = first.more;
  adds = first.adds;
  tag = none_given answer _ err;
  goes_on = λ nodes is legal numbered. let g = first.goes_on nodes is legal numbered in record { legal = g.legal; numbered = g.numbered; number = none_given answer _ err };
}

-- the second child has no number
pub numbers_second : {E : Type 0} (l : LayoutState) (s t u : PoolState) (a b c : BatchState) (r q p : Ref) (k : ℕ) (e : E) (answer : Result ℕ E)
    → IsErr answer → Numbers {E = E} l s t a b q (Ok k) → Numbers {E = E} l t u b c p (Err e) → Numbers {E = E} l s u a c r answer
numbers_second l s t u a b c r q p k e answer err first second = record {
  more = first.more ++ second.more;
  adds = adds_then s t u a b c first.more second.more first.adds second.adds;
  tag = none_given answer _ err;
  goes_on = λ nodes is legal numbered.
      let g = first.goes_on nodes is legal numbered in
      let h = second.goes_on (nodes ++ first.more) (next_after nodes first.more a.next b.next is first.adds.next) g.legal g.numbered in
      let whole = append_assoc nodes first.more second.more in
      record { legal = subst IsTable whole h.legal; numbered = subst (IsNumbered l u.arena) whole h.numbered; number = none_given answer _ err };
}

-- both children have their numbers
pub numbers_node : {E : Type 0} (l : LayoutState) (s t u v : PoolState) (a b c d : BatchState) (r : Ref) (i : NodeId) (n : Triple) (lo hi : ℕ) (answer : Result ℕ E)
    → r ≡ ref.Node i → table s.arena i ≡ Some n
    → Numbers {E = E} l s t a b n.lo (Ok lo) → Numbers {E = E} l t u b c n.hi (Ok hi) → Builds {E = E} l u v c d i lo hi answer → Numbers {E = E} l s v a d r answer
numbers_node {E} l s t u v a b c d r i n lo hi answer r_is at first second last = record {
  more = (first.more ++ second.more) ++ last.more;
  adds = adds_then s u v a c d (first.more ++ second.more) last.more (adds_then s t u a b c first.more second.more first.adds second.adds) last.adds;
  tag = subst (λ (x : Ref). IsNumberOf {E = E} v.arena x answer) (sym r_is) last.tag;
  goes_on = λ nodes is legal numbered.
      let g = first.goes_on nodes is legal numbered in
      let second_is = next_after nodes first.more a.next b.next is first.adds.next in
      let h = second.goes_on (nodes ++ first.more) second_is g.legal g.numbered in
      let last_is = next_after (nodes ++ first.more) second.more b.next c.next second_is second.adds.next in
      let same_tu : table u.arena ≡ table t.arena = second.adds.tags.table in
      let same_su : table u.arena ≡ table s.arena = same_tu ∙ first.adds.tags.table in
      let there : table u.arena i ≡ Some n = ap (λ (x : Table). x i) same_su ∙ at in
      let names_lo : Names l (table u.arena) ((nodes ++ first.more) ++ second.more) n.lo lo =
      subst (λ (x : Table). Names l x ((nodes ++ first.more) ++ second.more) n.lo lo) (sym same_tu) (names_more l (table t.arena) (nodes ++ first.more) second.more n.lo lo g.legal g.number) in
      let j = last.goes_on ((nodes ++ first.more) ++ second.more) n last_is h.legal h.numbered there names_lo h.number in
      let whole = append_assoc (nodes ++ first.more) second.more last.more ∙ append_assoc nodes first.more (second.more ++ last.more) ∙ ap (λ (x : List Node). nodes ++ x) (sym (append_assoc first.more second.more last.more)) in
      subst (λ (x : List Node). GoesOn {E = E} l v.arena x r answer) whole
      (subst (λ (x : Ref). GoesOn {E = E} l v.arena (((nodes ++ first.more) ++ second.more) ++ last.more) x answer) (sym r_is) j);
}

-- a child is deeper, also in a table that has only other tags
pub falls : (t u : Table) (i : NodeId) (n : Triple) (r : Ref) → Stands t i n → r ≡ ref.Node i → u ≡ t → (v : Bool) → bit_end - depth u (child n v) < bit_end - depth t r
falls t u i n r stands is same v =
    let deeper = stands.deeper v in
    let level = stands.level in
    let small = stands.small in
    let at : depth t r ≡ n.bit = ap (depth t) is ∙ level in
    let there : depth u (child n v) ≡ depth t (child n v) = ap (λ (x : Table). depth x (child n v)) same in
    omega (arith, deeper, small, at, there)
