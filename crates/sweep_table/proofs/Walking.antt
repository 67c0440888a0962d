-- A side, read bit by bit, walks.
use Rattle.std.proofs.Common.{◌≡◌, ℕ, zero, suc, ◌+◌, ◌-◌, ◌<◌, ◌≤◌, ◌==◌, nat_lt, Bool, true, false, cond, List, [], ◌∷◌, ◌++◌, length, drop, get_or, Option, Some, None, refl, sym, ap, ◌∙◌, subst, inl, inr, arith, append_assoc, drop-cons}
use Rattle.std.specs.Prelude.{reverse, slice_get, slice_index_or, IfSome}
use Rattle.std.specs.Option.{option_map_or}
use Rattle.std.proofs.lemmas.List.{length-append, length-reverse}
use Rattle.std.proofs.lemmas.Bool.{eqb-true, eqb-false, cases_lt, ne_eqb}
use Rattle.std.proofs.lemmas.Bool.Decides.{nat_tests}
use Rattle.std.proofs.lemmas.Option.{slice_get-get_or}
use Rattle.log_rules.specs.declared.nodes.Node.{Node}
use Rattle.log_rules.specs.Tables.{node_at, next_node, child, walk, walk_back, IsTable, here, by_lo, by_hi}
use Rattle.log_rules.specs.Boxes.{FitsWidth}
use Rattle.log_rules.proofs.Walks.{walk_of_an_end, walk_to_the_child, IsChildBelow, lo_below, hi_below}
use Rattle.sweep_rules.specs.Rules.{run, accepts}
use Rattle.sweep_table.specs.Sides.{descend, side_rules, own_bits, own_count, CountFrom}

-- ---- a run as a recursion on the places

abbrev descends : List Node → ℕ → List (Option ℕ) → List Bool → ℕ
descends table n (p ∷ places) (b ∷ bits) = descends table (option_map_or (λ place. descend table n place b) p n) places bits
descends table n _ _ = n

run_descends : (table : List Node) (root : ℕ) (places : List (Option ℕ)) (at n : ℕ) (bits : List Bool) → length bits + at ≡ length places
    → run (side_rules table root places) at n bits ≡ descends table n (drop at places) bits
run_descends table root places at n [] long = nothing (drop at places)
  where
    nothing : (rest : List (Option ℕ)) → n ≡ descends table n rest []
    nothing [] = refl
    nothing (p ∷ rest) = refl
run_descends table root places at n (b ∷ bits) long =
    let e : suc at ≡ at + 1 = omega arith in
    let here : drop at places ≡ get_or places at None ∷ drop (at + 1) places = drop-cons places at None (omega (arith, long)) ∙ ap (λ k. get_or places at None ∷ drop k places) e in
    run_descends table root places (at + 1) (option_map_or (λ place. descend table n place b) (slice_index_or places at None) n) bits (omega (arith, long))
    ∙ sym (ap (λ rest. descends table n rest (b ∷ bits)) here)

-- ---- one step

-- what is known of a node when the walk has come to a place: it is there, it tests no earlier place, and its walks stay within the width
record IsAt (table : List Node) (place width n : ℕ) : Type 0 where
  there : n < next_node table
  deep : IfSome (node_at table n) (λ node. place ≤ node.place)
  fits : FitsWidth table n width

bit_there : (front rest : List Bool) (b : Bool) (place : ℕ) → length front ≡ place → slice_index_or (front ++ b ∷ rest) place false ≡ b
bit_there [] rest b zero long = refl
bit_there [] rest b (suc place) long = absurd (omega (arith, long))
bit_there (f ∷ front) rest b zero long = absurd (omega (arith, long))
bit_there (f ∷ front) rest b (suc place) long = bit_there front rest b place (omega (arith, long))

record Steps (table : List Node) (place width n after : ℕ) (word : List Bool) : Type 0 where
  at : IsAt table (place + 1) width after
  walk_same : walk table after word ≡ walk table n word

-- the node tests this place
goes : (table : List Node) → IsTable table → (place width n : ℕ) (front rest : List Bool) (b : Bool) (node : Node) → length front ≡ place → IsAt table place width n
    → node_at table n ≡ Some node → node.place ≡ place → Steps table place width n (cond b node.hi node.lo) (front ++ b ∷ rest)
unfolding FitsWidth
goes table legal place width n front rest b node long at is tested = by b (ap (λ v. cond v node.hi node.lo) (ap (λ k. slice_index_or (front ++ b ∷ rest) k false) tested ∙ bit_there front rest b place long))
  where
    word : List Bool
    word = front ++ b ∷ rest

    deeper : (m : ℕ) (o : Option Node) → IfSome o (λ d. node.place < d.place) → IfSome o (λ d. place + 1 ≤ d.place)
    deeper m None h = h
    deeper m (Some d) h = let p : node.place ≡ place = tested in omega (arith, h, p)

    by : (v : Bool) → child node (front ++ b ∷ rest) ≡ cond v node.hi node.lo → Steps table place width n (cond v node.hi node.lo) (front ++ b ∷ rest)
    by true e = record {
      at = record { there = (hi_below table legal n node is).there; deep = deeper node.hi (node_at table node.hi) (hi_below table legal n node is).deeper; fits = λ q h. at.fits q (by_hi is h) };
      walk_same = sym (walk_to_the_child table legal n node (front ++ b ∷ rest) is ∙ ap (λ m. walk table m (front ++ b ∷ rest)) e);
    }
    by false e = record {
      at = record { there = (lo_below table legal n node is).there; deep = deeper node.lo (node_at table node.lo) (lo_below table legal n node is).deeper; fits = λ q h. at.fits q (by_lo is h) };
      walk_same = sym (walk_to_the_child table legal n node (front ++ b ∷ rest) is ∙ ap (λ m. walk table m (front ++ b ∷ rest)) e);
    }

-- the node tests another place, or there is none
stays : (table : List Node) (place width n : ℕ) (word : List Bool) → IsAt table place width n → IfSome (node_at table n) (λ node. node.place ≡ place → ⊥) → Steps table place width n n word
stays table place width n word at other = record { at = record { there = at.there; deep = by (node_at table n) at.deep other; fits = at.fits }; walk_same = refl }
  where
    by : (o : Option Node) → IfSome o (λ node. place ≤ node.place) → IfSome o (λ node. node.place ≡ place → ⊥) → IfSome o (λ node. place + 1 ≤ node.place)
    by None h k = h
    by (Some node) h k = elim (cases_lt place node.place) [ inl less ↦ omega (arith, less) | inr more ↦ absurd (k (omega (arith, h, more))) ]

steps : (table : List Node) → IsTable table → (place width n : ℕ) (front rest : List Bool) (b : Bool) → length front ≡ place → IsAt table place width n
    → Steps table place width n (descend table n place b) (front ++ b ∷ rest)
steps table legal place width n front rest b long at = by_node (node_at table n) refl
  where
    by_test : (node : Node) (v : Bool) → node_at table n ≡ Some node → (node.place == place) ≡ v → Steps table place width n (cond v (cond b node.hi node.lo) n) (front ++ b ∷ rest)
    by_test node true is same = goes table legal place width n front rest b node long at is (eqb-true node.place place same)
    by_test node false is other = stays table place width n (front ++ b ∷ rest) at (subst (λ o. IfSome o (λ node. node.place ≡ place → ⊥)) (sym is) (eqb-false node.place place other))

    by_node : (o : Option Node) → node_at table n ≡ o → Steps table place width n (option_map_or (λ node. cond (node.place == place) (cond b node.hi node.lo) n) o n) (front ++ b ∷ rest)
    by_node None is = stays table place width n (front ++ b ∷ rest) at (subst (λ o. IfSome o (λ node. node.place ≡ place → ⊥)) (sym is) tt)
    by_node (Some node) is = by_test node (node.place == place) is refl

-- ---- the end

-- a number below the next that is no node's is 0 or 1
no_node : (table : List Node) (n : ℕ) → n < next_node table → node_at table n ≡ None → n < 2
no_node table n there none = elim (cases_lt n 2) [
  | inl less ↦ less
  | inr more ↦
      let within : n - 2 < length table = omega (arith, there, more) in
      let is : node_at table n ≡ slice_get table (n - 2) = ap (λ b. cond b None (slice_get table (n - 2))) (small_not more) in
      absurd (found (slice_get table (n - 2)) (sym is ∙ none) (get_or table (n - 2) (record { place = 0; lo = 0; hi = 0 })) (slice_get-get_or table (n - 2) (record { place = 0; lo = 0; hi = 0 }) within))
]
  where
    small_not : 2 ≤ n → nat_lt n 2 ≡ false
    small_not more = grind (arith, nat_tests)

    found : (o : Option Node) → o ≡ None → (d : Node) → o ≡ Some d → ⊥
    found o e d f = let clash : None ≡ Some d = sym e ∙ f in absurd (cc)

ends : (table : List Node) (place width n : ℕ) (word : List Bool) → width ≤ place → IsAt table place width n → walk table n word ≡ (n == 1)
unfolding FitsWidth
ends table place width n word all at = walk_of_an_end table n word (small (node_at table n) refl)
  where
    small : (o : Option Node) → node_at table n ≡ o → n < 2
    small None is = no_node table n at.there is
    small (Some node) is =
        let within : node.place < width = at.fits node.place (here is) in
        let deep : place ≤ node.place = subst (λ o. IfSome o (λ node. place ≤ node.place)) is at.deep in
        absurd (omega (arith, within, deep))

-- ---- the walk

walks : (table : List Node) → IsTable table → (places : List (Option ℕ)) (place width n : ℕ) (front bits : List Bool) → length bits ≡ length places → length front ≡ place → CountFrom place places
    → place + own_count places ≡ width → IsAt table place width n → (descends table n places bits == 1) ≡ walk table n (front ++ own_bits places bits)
walks table legal [] place width n front [] long before counted whole at = sym (ends table place width n (front ++ []) (omega (arith, whole)) at)
walks table legal [] place width n front (b ∷ bits) long before counted whole at = absurd (omega (arith, long))
walks table legal (p ∷ places) place width n front [] long before counted whole at = absurd (omega (arith, long))
walks table legal (None ∷ places) place width n front (b ∷ bits) long before counted whole at = walks table legal places place width n front bits (omega (arith, long)) before counted whole at
walks table legal (Some q ∷ places) place width n front (b ∷ bits) long before counted whole at =
    let step = steps table legal place width n front (own_bits places bits) b before at in
    let longer : length (front ++ b ∷ []) ≡ place + 1 = let l = length-append front (b ∷ []) in omega (arith, l, before) in
    let own = own_bits places bits in
    let after = descend table n place b in
    ap (λ k. descends table (descend table n k b) places bits == 1) counted.0
    ∙ walks table legal places (place + 1) width after (front ++ b ∷ []) bits (omega (arith, long)) longer counted.1 (omega (arith, whole)) step.at
    ∙ ap (walk table after) (append_assoc front (b ∷ []) own)
    ∙ step.walk_same

pub side_accepts : (table : List Node) (root : ℕ) (places : List (Option ℕ)) (bits : List Bool) → IsTable table → root < next_node table → CountFrom 0 places → FitsWidth table root (own_count places)
    → length bits ≡ length places → accepts (side_rules table root places) bits ≡ walk table root (own_bits places bits)
side_accepts table root places bits legal there counted fits long =
    let start : IsAt table 0 (own_count places) root = record { there = there; deep = by (node_at table root); fits = fits } in
    ap (λ n. n == 1) (run_descends table root places 0 root bits (omega (arith, long)))
    ∙ walks table legal places 0 (own_count places) root [] bits long refl counted (omega arith) start
  where
    by : (o : Option Node) → IfSome o (λ node. 0 ≤ node.place)
    by None = tt
    by (Some node) = omega arith

-- node 0 never accepts
pub none_lost : (table : List Node) (root : ℕ) (places : List (Option ℕ)) (at : ℕ) (rest : List Bool) → (run (side_rules table root places) at 0 rest == 1) ≡ false
none_lost table root places at [] = refl
none_lost table root places at (b ∷ rest) = ap (λ n. run (side_rules table root places) (at + 1) n rest == 1) (by (slice_index_or places at None)) ∙ none_lost table root places (at + 1) rest
  where
    by : (o : Option ℕ) → option_map_or (λ place. descend table 0 place b) o 0 ≡ 0
    by None = refl
    by (Some place) = refl

-- ---- a whole word

-- from a number above all nodes the walk goes nowhere
far_back : (nodes : List Node) (n : ℕ) (word : List Bool) → length nodes + 2 ≤ n → walk_back nodes n word ≡ (n == 1)
far_back [] n word far = refl
far_back (node ∷ nodes) n word far =
    ap (λ b. walk_back nodes (cond b (child node word) n) word) (ne_eqb n (next_node nodes) (λ e. let f : n ≡ length nodes + 2 = e in omega (arith, far, f)))
    ∙ far_back nodes n word (omega (arith, far))

far_walk : (table : List Node) (n : ℕ) (word : List Bool) → next_node table ≤ n → walk table n word ≡ (n == 1)
unfolding walk
far_walk table n word far = let e : length (reverse table) ≡ length table = length-reverse table in far_back (reverse table) n word (omega (arith, far, e))

no_node_walk : (table : List Node) (n : ℕ) (word : List Bool) → node_at table n ≡ None → walk table n word ≡ (n == 1)
no_node_walk table n word none = elim (cases_lt n (next_node table)) [
  | inl there ↦ walk_of_an_end table n word (no_node table n there none)
  | inr far ↦ far_walk table n word far
]

child_below : (table : List Node) (word : List Bool) (n : ℕ) (node : Node) → IsTable table → node_at table n ≡ Some node → IsChildBelow table n node.place (child node word)
child_below table word n node legal is = by (slice_index_or word node.place false)
  where
    by : (b : Bool) → IsChildBelow table n node.place (cond b node.hi node.lo)
    by true = hi_below table legal n node is
    by false = lo_below table legal n node is

pub walk_step : (table : List Node) (word : List Bool) (from at next : ℕ) (node : Node) → IsTable table → node_at table at ≡ Some node → next ≡ child node word → walk table at word ≡ walk table from word → walk table next word ≡ walk table from word
walk_step table word from at next node legal is child_is on =
    let same : walk table next word ≡ walk table at word = ap (λ m. walk table m word) child_is ∙ sym (walk_to_the_child table legal at node word is) in
    same ∙ on

pub walk_falls : (table : List Node) (word : List Bool) (at next : ℕ) (node : Node) → IsTable table → node_at table at ≡ Some node → next ≡ child node word → next < at
walk_falls table word at next node legal is child_is = subst (λ m. m < at) (sym child_is) (child_below table word at node legal is).earlier

pub walk_ends : (table : List Node) (word : List Bool) (from at : ℕ) → node_at table at ≡ None → walk table at word ≡ walk table from word → (at == 1) ≡ walk table from word
walk_ends table word from at none on = sym (no_node_walk table at word none) ∙ on
