-- Walks in tables of nodes: a walk goes from a node to its child, and stays as the table grows.
use Rattle.std.proofs.Common.{◌≡◌, ℕ, ◌+◌, ◌-◌, ◌<◌, ◌≤◌, ◌==◌, nat_lt, Bool, true, false, cond, List, [], ◌∷◌, ◌++◌, length, Some, None, refl, sym, ap, ◌∙◌, subst, inl, inr, arith}
use Rattle.std.specs.Prelude.{reverse, slice_get, slice_index_or, IfSome}
use Rattle.std.proofs.lemmas.List.{append_assoc, length-append, reverse-append, length-reverse}
use Rattle.std.proofs.lemmas.Bool.{ne_eqb, eq-eqb, ltb-false}
use Rattle.std.proofs.lemmas.Option.{slice_get_within}
use Rattle.log_rules.specs.declared.nodes.Node.{Node}
use Rattle.log_rules.specs.Tables.{node_at, next_node, child, walk_back, walk, IsDeeper, IsChild, IsNext, IsTable, Tests, here, by_lo, by_hi}
use Rattle.log_rules.proofs.Fronts.{front_at, cut_at, not_empty, last_or_before}

-- ---- walks from the newest node back

passed : (node : Node) (earlier : List Node) (n : ℕ) (word : List Bool) → (n ≡ next_node earlier → ⊥) → walk_back (node ∷ earlier) n word ≡ walk_back earlier n word
passed node earlier n word other = ap (λ b. walk_back earlier (cond b (child node word) n) word) (ne_eqb n (next_node earlier) other)

all_passed : (newer earlier : List Node) (n : ℕ) (word : List Bool) → n < next_node earlier → walk_back (newer ++ earlier) n word ≡ walk_back earlier n word
all_passed [] earlier n word there = refl
all_passed (node ∷ newer) earlier n word there =
    let long : length (newer ++ earlier) ≡ length newer + length earlier = length-append newer earlier in
    let small : n < length earlier + 2 = there in
    passed node (newer ++ earlier) n word (λ e. let f : n ≡ length (newer ++ earlier) + 2 = e in omega arith) ∙ all_passed newer earlier n word there

ends : (table : List Node) (n : ℕ) (word : List Bool) → n < 2 → walk_back table n word ≡ (n == 1)
ends [] n word small = refl
ends (node ∷ earlier) n word small = passed node earlier n word (λ e. let f : n ≡ length earlier + 2 = e in omega arith) ∙ ends earlier n word small

pub walk_of_an_end : (table : List Node) (n : ℕ) (word : List Bool) → n < 2 → walk table n word ≡ (n == 1)
unfolding walk
walk_of_an_end table n word small = ends (reverse table) n word small

pub walk_stays : (table more : List Node) (n : ℕ) (word : List Bool) → n < next_node table → walk (table ++ more) n word ≡ walk table n word
unfolding walk
walk_stays table more n word there =
    ap (λ xs. walk_back xs n word) (reverse-append table more) ∙ all_passed (reverse more) (reverse table) n word (subst (λ l. n < l + 2) (sym (length-reverse table)) there)

newest : (before : List Node) (node : Node) (n : ℕ) (word : List Bool) → n ≡ next_node before → walk (before ++ node ∷ []) n word ≡ walk before (child node word) word
unfolding walk
newest before node n word is =
    let long : length (reverse before) ≡ length before = length-reverse before in
    let m : n ≡ length before + 2 = is in
    ap (λ xs. walk_back xs n word) (reverse-append before (node ∷ []))
    ∙ ap (λ b. walk_back (reverse before) (cond b (child node word) n) word) (eq-eqb n (next_node (reverse before)) (let e : n ≡ length (reverse before) + 2 = omega arith in e))

-- ---- nodes by number

pub node_is : (table : List Node) (n : ℕ) (node : Node) → node_at table n ≡ Some node → (2 ≤ n) × (slice_get table (n - 2) ≡ Some node)
node_is table n node is = by (nat_lt n 2) refl is
  where
    by : (b : Bool) → nat_lt n 2 ≡ b → cond b None (slice_get table (n - 2)) ≡ Some node → (2 ≤ n) × (slice_get table (n - 2) ≡ Some node)
    by true small is = absurd (cc)
    by false large is = (ltb-false n 2 large, is)

pub node_there : (table : List Node) (n : ℕ) (node : Node) → node_at table n ≡ Some node → n < next_node table
node_there table n node is =
    let at = node_is table n node is in
    let large : 2 ≤ n = at.0 in
    let within : n - 2 < length table = slice_get_within table (n - 2) node at.1 in
    let e : n < length table + 2 = omega arith in e

pub node_stays : (table more : List Node) (n : ℕ) → n < next_node table → node_at (table ++ more) n ≡ node_at table n
node_stays table more n there = by (nat_lt n 2) refl
  where
    by : (b : Bool) → nat_lt n 2 ≡ b → cond b None (slice_get (table ++ more) (n - 2)) ≡ cond b None (slice_get table (n - 2))
    by true small = refl
    by false large =
        let from : 2 ≤ n = ltb-false n 2 large in
        let to : n < length table + 2 = there in
        front_at table more (n - 2) (omega arith)

-- ---- tables

pub empty_table : IsTable []
unfolding IsTable
empty_table before after node e = absurd (not_empty before after node e)

pub table_grows : (table : List Node) (node : Node) → IsTable table → IsNext table node → IsTable (table ++ node ∷ [])
unfolding IsTable
table_grows table node legal next before after other e = elim (last_or_before table node before after other e) [
  | inl h ↦ subst (λ t. IsNext t other) h.0 (subst (IsNext table) h.1 next)
  | inr h ↦ legal before h.rest other h.whole
]

-- a table that is cut at one of its nodes
record At (table : List Node) (n : ℕ) (node : Node) : Type 0 where
  before : List Node
  after : List Node
  whole : table ≡ before ++ node ∷ after
  number : n ≡ next_node before
  next : IsNext before node

at : (table : List Node) → IsTable table → (n : ℕ) (node : Node) → node_at table n ≡ Some node → At table n node
unfolding IsTable
at table legal n node is =
    let where_ = node_is table n node is in
    let large : 2 ≤ n = where_.0 in
    let cut = cut_at table (n - 2) node where_.1 in
    let place : length cut.before ≡ n - 2 = cut.place in
    let number : n ≡ length cut.before + 2 = omega arith in
    record { before = cut.before; after = cut.after; whole = cut.whole; number = number; next = legal cut.before cut.after node cut.whole }

child_before : (before : List Node) (node : Node) (word : List Bool) → IsNext before node → child node word < next_node before
child_before before node word next = by (slice_index_or word node.place false)
  where
    by : (b : Bool) → cond b node.hi node.lo < next_node before
    by true = next.hi.earlier
    by false = next.lo.earlier

-- the walk from a node is that from the child to which the word leads
pub walk_to_the_child : (table : List Node) → IsTable table → (n : ℕ) (node : Node) (word : List Bool) → node_at table n ≡ Some node
    → walk table n word ≡ walk table (child node word) word
walk_to_the_child table legal n node word is =
    let a = at table legal n node is in
    let one : List Node = a.before ++ node ∷ [] in
    let long : length one ≡ length a.before + 1 = length-append a.before (node ∷ []) in
    let number : n ≡ length a.before + 2 = a.number in
    let there : n < length one + 2 = omega arith in
    let parts : table ≡ one ++ a.after = a.whole ∙ sym (append_assoc a.before (node ∷ []) a.after) in
    ap (λ t. walk t n word) parts ∙ walk_stays one a.after n word there ∙ newest a.before node n word a.number
    ∙ sym (ap (λ t. walk t (child node word) word) a.whole ∙ walk_stays a.before (node ∷ a.after) (child node word) word (child_before a.before node word a.next))

-- a child, as the node's own table sees it, in the whole table
pub record IsChildBelow (table : List Node) (n place child : ℕ) : Type 0 where
  pub earlier : child < n
  pub there : child < next_node table
  pub deeper : IsDeeper table place child

below : (before rest : List Node) (n place m : ℕ) → n ≡ next_node before → IsChild before place m → IsChildBelow (before ++ rest) n place m
below before rest n place m number is =
    let long : length (before ++ rest) ≡ length before + length rest = length-append before rest in
    let small : m < length before + 2 = is.earlier in
    let at_n : n ≡ length before + 2 = number in
    let there : m < length (before ++ rest) + 2 = omega arith in
    record { earlier = omega arith; there = there; deeper = subst (λ o. IfSome o (λ node. place < node.place)) (sym (node_stays before rest m is.earlier)) is.deeper }

pub lo_below : (table : List Node) → IsTable table → (n : ℕ) (node : Node) → node_at table n ≡ Some node → IsChildBelow table n node.place node.lo
lo_below table legal n node is =
    let a = at table legal n node is in
    subst (λ t. IsChildBelow t n node.place node.lo) (sym a.whole) (below a.before (node ∷ a.after) n node.place node.lo a.number a.next.lo)

pub hi_below : (table : List Node) → IsTable table → (n : ℕ) (node : Node) → node_at table n ≡ Some node → IsChildBelow table n node.place node.hi
hi_below table legal n node is =
    let a = at table legal n node is in
    subst (λ t. IsChildBelow t n node.place node.hi) (sym a.whole) (below a.before (node ∷ a.after) n node.place node.hi a.number a.next.hi)

-- what is tested below a node stays as the table grows
pub tests_stay : (table more : List Node) → IsTable table → (n place : ℕ) → n < next_node table → Tests (table ++ more) n place → Tests table n place
tests_stay table more legal n place there (here {node = node} is) = here (sym (node_stays table more n there) ∙ is)
tests_stay table more legal n place there (by_lo {node = node} is rest) =
    let known : node_at table n ≡ Some node = sym (node_stays table more n there) ∙ is in
    by_lo known (tests_stay table more legal node.lo place (lo_below table legal n node known).there rest)
tests_stay table more legal n place there (by_hi {node = node} is rest) =
    let known : node_at table n ≡ Some node = sym (node_stays table more n there) ∙ is in
    by_hi known (tests_stay table more legal node.hi place (hi_below table legal n node known).there rest)
