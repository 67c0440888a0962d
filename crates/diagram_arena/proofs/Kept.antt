-- The arena's nodes as a finite map: what a list of slots gives at an id, and when two arenas are one.
use Rattle.std.proofs.Common.{◌≡◌, ◌≢◌, ℕ, ◌+◌, ◌<◌, true, false, cond, zero, suc, List, [], ◌∷◌, length, set, Option, Some, None, is_some, count_by, refl, sym, ◌∙◌, ap, subst, inl, inr, arith}
use Rattle.std.specs.Prelude.{T, slice_index_or}
use Rattle.std.specs.Option.{option_map}
use Rattle.std.specs.Ordering.{nat_cmp, eq_by_cmp, is_eq}
use Rattle.std.specs.declared.cmp.Ordering.TheVariants.{Less}
use Rattle.std.specs.FinMap as map
use Rattle.std.specs.FinMap.Entries.{find, is_sorted, below_all}
use Rattle.std.proofs.lemmas.Bool.{cases_eq, lt-ltb}
use Rattle.std.proofs.lemmas.List.Sums.{sum_by-cons}
use Rattle.diagram_arena.specs.declared.nodes.NodeId.{NodeId}
use Rattle.diagram_arena.specs.declared.nodes.Node.{Node}
use Rattle.diagram_arena.specs.Table.{id_cmp}
use Rattle.diagram_arena.specs.Arena.{ChangesNode}
use Rattle.diagram_arena.specs.Body.{id, with_ids, state_of}
use Rattle.diagram_arena.proofs.Ids.{same_id, id_cmp_total, id_cmp-IsAntisymmetric, tied_same, tied_other}

-- what a slot holds
abbrev pub slot : List (Option Node) → ℕ → Option Node
slot slots k = slice_index_or slots k None

less_tied : (q k : ℕ) → q < k → nat_cmp q k ≡ Less
less_tied q k lt = let e = lt-ltb q k lt in rw e refl

below-with_ids : (ns : List (Option Node)) (j k : ℕ) → j < k → below_all id_cmp (id j) (with_ids k ns) ≡ true
below-with_ids [] j k lt = refl
below-with_ids (None ∷ ns) j k lt = below-with_ids ns j (k + 1) (omega arith)
below-with_ids (Some n ∷ ns) j k lt = let e = less_tied j k lt in rw e (below-with_ids ns j (k + 1) (omega arith))

sorted-with_ids : (ns : List (Option Node)) (k : ℕ) → is_sorted id_cmp (with_ids k ns) ≡ true
sorted-with_ids [] k = refl
sorted-with_ids (None ∷ ns) k = sorted-with_ids ns (k + 1)
sorted-with_ids (Some n ∷ ns) k =
    let e = below-with_ids ns k (k + 1) (omega arith) in
    let rest = sorted-with_ids ns (k + 1) in
    rw (e, rest) refl

find_before : (ns : List (Option Node)) (k : ℕ) (i : NodeId) → i.0 < k → find id_cmp i (with_ids k ns) ≡ None
find_before [] k i lt = refl
find_before (None ∷ ns) k i lt = find_before ns (k + 1) i (omega arith)
find_before (Some n ∷ ns) k i lt =
    let e : is_eq (nat_cmp i.0 k) ≡ false = tied_other i.0 k (omega arith) in
    rw e (find_before ns (k + 1) i (omega arith))

find-with_ids : (ns : List (Option Node)) (k d : ℕ) (i : NodeId) → i.0 ≡ k + d → find id_cmp i (with_ids k ns) ≡ slot ns d
find-with_ids [] k d i at = refl
find-with_ids (None ∷ ns) k zero i at = find_before ns (k + 1) i (omega arith)
find-with_ids (Some n ∷ ns) k zero i at = let e : is_eq (nat_cmp i.0 k) ≡ true = tied_same i.0 k (omega arith) in rw e refl
find-with_ids (None ∷ ns) k (suc d) i at = find-with_ids ns (k + 1) d i (omega arith)
find-with_ids (Some n ∷ ns) k (suc d) i at =
    let e : is_eq (nat_cmp i.0 k) ≡ false = tied_other i.0 k (omega arith) in
    rw e (find-with_ids ns (k + 1) d i (omega arith))

length-with_ids : (ns : List (Option Node)) (k : ℕ) → length (with_ids k ns) ≡ count_by is_some ns
length-with_ids [] k = refl
length-with_ids (None ∷ ns) k = omega (arith, length-with_ids ns (k + 1), sum_by-cons (λ (o : Option Node). cond (is_some o) 1 0) None ns)
length-with_ids (Some n ∷ ns) k = omega (arith, length-with_ids ns (k + 1), sum_by-cons (λ (o : Option Node). cond (is_some o) 1 0) (Some n) ns)

sorted : (ns : List (Option Node)) → T (is_sorted id_cmp (with_ids 0 ns))
sorted ns = subst T (sym (sorted-with_ids ns 0)) tt

pub get-state_of : (ns : List (Option Node)) (limit : ℕ) (i : NodeId) → map.get (state_of ns limit).nodes i ≡ slot ns i.0
unfolding state_of
get-state_of ns limit i = map.get-from_sorted id_cmp (with_ids 0 ns) i (sorted ns) ∙ find-with_ids ns 0 i.0 i (omega arith)

pub len-state_of : (ns : List (Option Node)) (limit : ℕ) → map.len (state_of ns limit).nodes ≡ count_by is_some ns
unfolding state_of
len-state_of ns limit =
    map.len-entries (map.from_sorted {R = id_cmp} (with_ids 0 ns))
    ∙ ap length (map.entries-from_sorted id_cmp (with_ids 0 ns) (sorted ns))
    ∙ length-with_ids ns 0

pub limit-state_of : (ns : List (Option Node)) (limit : ℕ) → (state_of ns limit).limit ≡ limit
unfolding state_of
limit-state_of ns limit = refl

pub empty-state_of : (limit : ℕ) → state_of [] limit ≡ record { nodes = map.empty; limit = limit }
unfolding state_of
empty-state_of limit = λ i. record { nodes = map.empty_of_len (map.from_sorted {R = id_cmp} (with_ids 0 [])) (len-state_of [] limit) i; limit = limit }

-- the slots ms are ns with o in the slot k
pub record Puts (ns ms : List (Option Node)) (k : ℕ) (o : Option Node) : Type 0 where
  pub changed : slot ms k ≡ o
  pub others : (j : ℕ) → j ≢ k → slot ms j ≡ slot ns j

-- a node in a slot is an insertion under its id
pub put-state_of : (ns ms : List (Option Node)) (k : ℕ) (n : Node) (limit : ℕ) → Puts ns ms k (Some n)
    → state_of ms limit ≡ record (state_of ns limit) { nodes = map.insert (state_of ns limit).nodes (id k) n }
put-state_of ns ms k n limit puts =
    let tie : (q : NodeId) → slot ms q.0 ≡ cond (eq_by_cmp id_cmp q (id k)) (Some n) (slot ns q.0) = λ q.
    elim (cases_eq q.0 k) [
      | inl e ↦ ap (slot ms) e ∙ puts.changed ∙ ap (λ b. cond b (Some n) (slot ns q.0)) (sym (tied_same q.0 k e))
      | inr ne ↦ puts.others q.0 ne ∙ ap (λ b. cond b (Some n) (slot ns q.0)) (sym (tied_other q.0 k ne))
    ] in
    let same : (state_of ms limit).nodes ≡ map.insert (state_of ns limit).nodes (id k) n =
    map.same_map id_cmp_total id_cmp-IsAntisymmetric _ _ (λ q.
    get-state_of ms limit q ∙ tie q
    ∙ sym (map.get-insert id_cmp_total (state_of ns limit).nodes (id k) n q
    ∙ ap (cond (eq_by_cmp id_cmp q (id k)) (Some n)) (get-state_of ns limit q))) in
    λ i. record { nodes = same i; limit = (limit-state_of ms limit ∙ sym (limit-state_of ns limit)) i }

-- a write changes the node under its id alone
pub changes-state_of : (ns ms : List (Option Node)) (i : NodeId) (m : Node) (limit : ℕ) (f : Node → Node) → slot ns i.0 ≡ Some m → Puts ns ms i.0 (Some (f m))
    → ChangesNode (state_of ns limit) (state_of ms limit) i f
changes-state_of ns ms i m limit f at puts = record {
  changed = get-state_of ms limit i ∙ puts.changed ∙ sym (ap (option_map f) (get-state_of ns limit i ∙ at));
  others = λ j ne. get-state_of ms limit j ∙ puts.others j.0 (λ e. ne (same_id j i e)) ∙ sym (get-state_of ns limit j);
  limit = limit-state_of ms limit ∙ sym (limit-state_of ns limit);
}

-- a write keeps their number
pub count-set : (ns : List (Option Node)) (k : ℕ) (m n : Node) → slot ns k ≡ Some m → count_by is_some (set ns k (Some n)) ≡ count_by is_some ns
count-set [] k m n at = absurd (cc)
count-set (None ∷ ns) zero m n at = absurd (cc)
count-set (Some x ∷ ns) zero m n at =
    let old = sum_by-cons (λ (o : Option Node). cond (is_some o) 1 0) (Some x) ns in
    let new = sum_by-cons (λ (o : Option Node). cond (is_some o) 1 0) (Some n) ns in
    omega (arith, old, new)
count-set (o ∷ ns) (suc k) m n at =
    let old = sum_by-cons (λ (x : Option Node). cond (is_some x) 1 0) o ns in
    let new = sum_by-cons (λ (x : Option Node). cond (is_some x) 1 0) o (set ns k (Some n)) in
    omega (arith, old, new, count-set ns k m n at)
