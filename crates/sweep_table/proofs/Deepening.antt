-- The latest places that are tested, as the table grows.
use Rattle.std.proofs.Common.{◌≡◌, ◌⊎◌, ℕ, suc, ◌+◌, ◌-◌, ◌<◌, ◌≤◌, nat_lt, true, false, cond, max, map, List, [], ◌∷◌, ◌++◌, length, get_or, Option, Some, None, refl, sym, ap, ◌∙◌, subst, inl, inr, arith}
use Rattle.std.specs.Prelude.{slice_get}
use Rattle.std.proofs.lemmas.List.{length-append, get_or_append_left, get_or-append-add}
use Rattle.std.proofs.lemmas.Bool.{cases_lt}
use Rattle.std.specs.Option.{option_map}
use Rattle.std.proofs.lemmas.Option.{slice_get-get_or, slice_get-map, get_or_from_slice_get}
use Rattle.std.proofs.lemmas.Bool.Decides.{nat_tests}
use Rattle.log_rules.specs.declared.nodes.Node.{Node}
use Rattle.log_rules.specs.Tables.{node_at, next_node, IsNext, IsTable, Tests, here, by_lo, by_hi}
use Rattle.log_rules.proofs.Walks.{node_is, node_there, node_stays, tests_stay, table_grows, empty_table}
use Rattle.sweep_table.specs.Depths.{IsDeepest, IsDepthOver, HaveDepths, IsKept, nodes_of, depths_of}
use Rattle.sweep_table.specs.declared.table.Entry.{Entry}
use Rattle.sweep_table.specs.declared.table.Table.TheInside.{Inside}

tests_grow : (table more : List Node) (n place : ℕ) → Tests table n place → Tests (table ++ more) n place
tests_grow table more n place (here {node = node} is) = here (node_stays table more n (node_there table n node is) ∙ is)
tests_grow table more n place (by_lo {node = node} is rest) = by_lo (node_stays table more n (node_there table n node is) ∙ is) (tests_grow table more node.lo place rest)
tests_grow table more n place (by_hi {node = node} is rest) = by_hi (node_stays table more n (node_there table n node is) ∙ is) (tests_grow table more node.hi place rest)

deepest_stays : (table more : List Node) (n place : ℕ) → IsTable table → n < next_node table → IsDeepest table n place → IsDeepest (table ++ more) n place
deepest_stays table more n place legal there h = record { tested = tests_grow table more n place h.tested; latest = λ q t. h.latest q (tests_stay table more legal n q there t) }

-- from a number that is no node's nothing is tested
pub tests_nothing : (table : List Node) (n place : ℕ) → node_at table n ≡ None → Tests table n place → ⊥
tests_nothing table n place none (here {node = node} is) = let clash : None ≡ Some node = sym none ∙ is in cc
tests_nothing table n place none (by_lo {node = node} is rest) = let clash : None ≡ Some node = sym none ∙ is in cc
tests_nothing table n place none (by_hi {node = node} is rest) = let clash : None ≡ Some node = sym none ∙ is in cc

-- what is known of the depth of a child
abbrev pub IsDepth : List Node → ℕ → Option ℕ → Type 0
IsDepth table n None = (q : ℕ) → Tests table n q → ⊥
IsDepth table n (Some d) = IsDeepest table n d

abbrev pub or_zero : Option ℕ → ℕ
or_zero None = 0
or_zero (Some d) = d

one_of : (a b c : ℕ) → (max (max a b) c ≡ a) ⊎ ((max (max a b) c ≡ b) ⊎ (max (max a b) c ≡ c))
one_of a b c = elim (cases_lt a b) [
  | inl less ↦ elim (cases_lt b c) [ inl more ↦ inr (inr (omega (arith, less, more))) | inr no_more ↦ inr (inl (omega (arith, less, no_more))) ]
  | inr least ↦ elim (cases_lt a c) [ inl more ↦ inr (inr (omega (arith, least, more))) | inr no_more ↦ inl (omega (arith, least, no_more)) ]
]

pub depth_over : (table : List Node) (node : Node) (lo hi : Option ℕ) → IsDepth table node.lo lo → IsDepth table node.hi hi → IsDepthOver table node (max (max node.place (or_zero lo)) (or_zero hi))
depth_over table node lo hi is_lo is_hi = record {
  from = omega arith;
  lo = λ q t. below lo q (bound table node.lo lo q is_lo t);
  hi = λ q t. above hi q (bound table node.hi hi q is_hi t);
  tested = elim (one_of node.place (or_zero lo) (or_zero hi)) [
    | inl e ↦ inl e
    | inr (inl e) ↦ elim (reached table node.lo lo is_lo) [
      | inl zero_is ↦ inl (omega (arith, e, zero_is))
      | inr t ↦ inr (inl (subst (Tests table node.lo) (sym e) t))
    ]
    | inr (inr e) ↦ elim (reached table node.hi hi is_hi) [
      | inl zero_is ↦ inl (omega (arith, e, zero_is))
      | inr t ↦ inr (inr (subst (Tests table node.hi) (sym e) t))
    ]
  ];
} where
  bound : (table : List Node) (n : ℕ) (o : Option ℕ) (q : ℕ) → IsDepth table n o → Tests table n q → q ≤ or_zero o
  bound table n None q h t = absurd (h q t)
  bound table n (Some d) q h t = h.latest q t

  reached : (table : List Node) (n : ℕ) (o : Option ℕ) → IsDepth table n o → (or_zero o ≡ 0) ⊎ Tests table n (or_zero o)
  reached table n None h = inl refl
  reached table n (Some d) h = inr h.tested

  below : (lo : Option ℕ) (q : ℕ) → q ≤ or_zero lo → q ≤ max (max node.place (or_zero lo)) (or_zero hi)
  below lo q h = omega (arith, h)

  above : (hi : Option ℕ) (q : ℕ) → q ≤ or_zero hi → q ≤ max (max node.place (or_zero lo)) (or_zero hi)
  above hi q h = omega (arith, h)

-- ---- one node more

new_is : (table : List Node) (node : Node) → node_at (table ++ node ∷ []) (next_node table) ≡ Some node
new_is table node = ap (λ b. cond b None (slice_get (table ++ node ∷ []) (length table + 2 - 2))) large ∙ ap (slice_get (table ++ node ∷ [])) e ∙ last table
  where
    large : nat_lt (length table + 2) 2 ≡ false
    large = grind (arith, nat_tests)

    e : length table + 2 - 2 ≡ length table
    e = omega arith

    last : (xs : List Node) → slice_get (xs ++ node ∷ []) (length xs) ≡ Some node
    last [] = refl
    last (x ∷ xs) = last xs

new_deepest : (table : List Node) (node : Node) (depth : ℕ) → IsTable table → IsNext table node → IsDepthOver table node depth → IsDeepest (table ++ node ∷ []) (next_node table) depth
new_deepest table node depth legal next over = record {
  tested = elim over.tested [
    | inl e ↦ subst (Tests grown (next_node table)) (sym e) (here is)
    | inr (inl t) ↦ by_lo is (tests_grow table (node ∷ []) node.lo depth t)
    | inr (inr t) ↦ by_hi is (tests_grow table (node ∷ []) node.hi depth t)
  ];
  latest = latest;
} where
  grown : List Node
  grown = table ++ node ∷ []

  is : node_at (table ++ node ∷ []) (next_node table) ≡ Some node
  is = new_is table node

  same : (other : Node) → node_at (table ++ node ∷ []) (next_node table) ≡ Some other → node ≡ other
  same other h = let e : Some node ≡ Some other = sym (new_is table node) ∙ h in cc

  latest : (q : ℕ) → Tests (table ++ node ∷ []) (next_node table) q → q ≤ depth
  latest q (here {node = other} h) = subst (λ (d : Node). d.place ≤ depth) (same other h) over.from
  latest q (by_lo {node = other} h rest) = over.lo q (tests_stay table (node ∷ []) legal node.lo q next.lo.earlier (subst (λ (d : Node). Tests (table ++ node ∷ []) d.lo q) (sym (same other h)) rest))
  latest q (by_hi {node = other} h rest) = over.hi q (tests_stay table (node ∷ []) legal node.hi q next.hi.earlier (subst (λ (d : Node). Tests (table ++ node ∷ []) d.hi q) (sym (same other h)) rest))

pub depths_more : (nodes : List Node) (depths : List ℕ) (node : Node) (depth : ℕ) → IsTable nodes → IsNext nodes node → length depths ≡ length nodes → IsDepthOver nodes node depth → HaveDepths nodes depths
    → HaveDepths (nodes ++ node ∷ []) (depths ++ depth ∷ [])
depths_more nodes depths node depth legal next long over have n other is = elim (cases_lt n (length nodes + 2)) [
  | inl less ↦
      let known : node_at nodes n ≡ Some other = sym (node_stays nodes (node ∷ []) n less) ∙ is in
      let large : 2 ≤ n = (node_is nodes n other known).0 in
      let within : n - 2 < length depths = omega (arith, less, long, large) in
      subst (IsDeepest (nodes ++ node ∷ []) n) (sym (get_or_append_left depths (depth ∷ []) 0 (n - 2) within)) (deepest_stays nodes (node ∷ []) n (get_or depths (n - 2) 0) legal less (have n other known))
  | inr more ↦
      let there : n < length (nodes ++ node ∷ []) + 2 = node_there (nodes ++ node ∷ []) n other is in
      let grown : length (nodes ++ node ∷ []) ≡ length nodes + 1 = length-append nodes (node ∷ []) in
      let e : n ≡ length nodes + 2 = omega (arith, more, there, grown) in
      let at : n - 2 ≡ length depths + 0 = omega (arith, e, long) in
      let last : get_or (depths ++ depth ∷ []) (n - 2) 0 ≡ depth = ap (λ k. get_or (depths ++ depth ∷ []) k 0) at ∙ get_or-append-add depths (depth ∷ []) 0 0 in
      subst (λ m. IsDeepest (nodes ++ node ∷ []) m (get_or (depths ++ depth ∷ []) (n - 2) 0)) (sym e) (subst (IsDeepest (nodes ++ node ∷ []) (length nodes + 2)) (sym last) (new_deepest nodes node depth legal next over))
]

map_push : {X Y : Type 0} (f : X → Y) (xs : List X) (x : X) → map f (xs ++ x ∷ []) ≡ map f xs ++ f x ∷ []
map_push f [] x = refl
map_push f (y ∷ xs) x = ap (λ ys. f y ∷ ys) (map_push f xs x)

-- an entry more is kept
pub kept_more : (a b : Inside) (entry : Entry) → b.entries.items ≡ a.entries.items ++ entry ∷ [] → IsKept a → IsNext (nodes_of a) entry.node → IsDepthOver (nodes_of a) entry.node entry.depth → IsKept b
kept_more a b entry pushed kept next over =
    let nodes : nodes_of b ≡ nodes_of a ++ entry.node ∷ [] = ap (map (λ (e : Entry). e.node)) pushed ∙ map_push (λ (e : Entry). e.node) a.entries.items entry in
    let depths : depths_of b ≡ depths_of a ++ entry.depth ∷ [] = ap (map (λ (e : Entry). e.depth)) pushed ∙ map_push (λ (e : Entry). e.depth) a.entries.items entry in
    let long : length (depths_of a) ≡ length (nodes_of a) = length-map (λ (e : Entry). e.depth) a.entries.items ∙ sym (length-map (λ (e : Entry). e.node) a.entries.items) in
    let more = depths_more (nodes_of a) (depths_of a) entry.node entry.depth kept.legal next long over kept.depths in
    record {
      legal = subst IsTable (sym nodes) (table_grows (nodes_of a) entry.node kept.legal next);
      depths = subst (λ xs. HaveDepths xs (depths_of b)) (sym nodes) (subst (HaveDepths (nodes_of a ++ entry.node ∷ [])) (sym depths) more);
    }
  where
    length-map : {X Y : Type 0} (f : X → Y) (xs : List X) → length (map f xs) ≡ length xs
    length-map f [] = refl
    length-map f (x ∷ xs) = ap suc (length-map f xs)

pub nodes_more : (a b : Inside) (entry : Entry) → b.entries.items ≡ a.entries.items ++ entry ∷ [] → nodes_of b ≡ nodes_of a ++ entry.node ∷ []
nodes_more a b entry pushed = ap (map (λ (e : Entry). e.node)) pushed ∙ map_push (λ (e : Entry). e.node) a.entries.items entry

pub kept_none : (a : Inside) → a.entries.items ≡ [] → IsKept a
kept_none a none =
    let nodes : nodes_of a ≡ [] = ap (map (λ (e : Entry). e.node)) none in
    record {
      legal = subst IsTable (sym nodes) empty_table;
      depths = λ n node is. absurd (let h = (node_is (nodes_of a) n node is).1 in let clash : None ≡ Some node = sym (ap (λ xs. slice_get xs (n - 2)) nodes) ∙ h in cc);
    }

-- what stands beside the node of a number
pub depth_at : (a : Inside) (n : ℕ) (d : ℕ) → IsKept a → 2 ≤ n → slice_get (depths_of a) (n - 2) ≡ Some d → n < next_node (nodes_of a) → IsDeepest (nodes_of a) n d
depth_at a n d kept large is there =
    let within : n - 2 < length (nodes_of a) = omega (arith, large, there) in
    let node = get_or (nodes_of a) (n - 2) (record { place = 0; lo = 0; hi = 0 }) in
    let at : node_at (nodes_of a) n ≡ Some node = ap (λ b. cond b None (slice_get (nodes_of a) (n - 2))) (not_small n large) ∙ slice_get-get_or (nodes_of a) (n - 2) (record { place = 0; lo = 0; hi = 0 }) within in
    subst (IsDeepest (nodes_of a) n) (get_or_from_slice_get (depths_of a) (n - 2) d 0 is) (kept.depths n node at)
  where
    not_small : (n : ℕ) → 2 ≤ n → nat_lt n 2 ≡ false
    not_small n large = grind (arith, nat_tests)

pub nothing_below_two : (table : List Node) (n place : ℕ) → n < 2 → Tests table n place → ⊥
nothing_below_two table n place small t = tests_nothing table n place (ap (λ b. cond b None (slice_get table (n - 2))) is_small) t
  where
    is_small : nat_lt n 2 ≡ true
    is_small = grind (arith, nat_tests)

-- the entry that stands at the place of a number
pub deepest_here : (a : Inside) (table : List Node) (n : ℕ) (entry : Entry) → nodes_of a ≡ table → IsKept a → 2 ≤ n → n < next_node table → entry ≡ get_or a.entries.items (n - 2) entry → IsDeepest table n entry.depth
deepest_here a table n entry view kept large there is =
    let known : n < next_node (nodes_of a) = subst (λ t. n < next_node t) (sym view) there in
    let long : length (nodes_of a) ≡ length a.entries.items = length-nodes a.entries.items in
    let within : n - 2 < length a.entries.items = omega (arith, large, known, long) in
    let at : slice_get (depths_of a) (n - 2) ≡ Some entry.depth =
    slice_get-map (λ (e : Entry). e.depth) a.entries.items (n - 2) ∙ ap (option_map (λ (e : Entry). e.depth)) (slice_get-get_or a.entries.items (n - 2) entry within ∙ ap Some (sym is)) in
    subst (λ t. IsDeepest t n entry.depth) view (depth_at a n entry.depth kept large at known)
  where
    length-nodes : (xs : List Entry) → length (map (λ (e : Entry). e.node) xs) ≡ length xs
    length-nodes [] = refl
    length-nodes (x ∷ xs) = ap suc (length-nodes xs)
