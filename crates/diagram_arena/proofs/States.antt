-- Arenas as they are kept: what a look-up, a write and a new node mean, and that they keep the invariant.
use Rattle.std.proofs.Common.{◌≡◌, ℕ, ◌+◌, ◌<◌, ◌≤◌, true, false, cond, List, [], set, Option, Some, None, is_some, count_by, refl, sym, ◌∙◌, ap, subst, inl, inr, arith}
use Rattle.std.specs.Prelude.{IsSome, Result, Ok, Err, IfOk, OnErr}
use Rattle.std.specs.Option.{option_map}
use Rattle.std.specs.Map.{lookup}
use Rattle.std.specs.Ordering.{nat_cmp, eq_by_cmp, is_eq}
use Rattle.std.specs.FinMap as map
use mathlib.Core.Path.{fun_ext}
use Rattle.slab.specs.Slab.{Slab, get}
use Rattle.slab.proofs.SlabLemmas.{Updates-with_value}
use Rattle.diagram_arena.specs.declared.nodes.NodeId.{NodeId}
use Rattle.diagram_arena.specs.declared.nodes.Ref.{Ref}
use Rattle.diagram_arena.specs.declared.nodes.Ref.TheVariants as ref
use Rattle.diagram_arena.specs.declared.nodes.Stop.{Stop}
use Rattle.diagram_arena.specs.declared.nodes.Triple.{Triple}
use Rattle.diagram_arena.specs.declared.nodes.Node.{Node}
use Rattle.diagram_arena.specs.Table.{Table, id_cmp, bit_end, IsLive, IsReduced}
use Rattle.diagram_arena.specs.Arena.{most_nodes, ArenaState, table, triple, triple_of, new_node, CanMake, IsNeeded, AddsNode, IsMade, node_added, KeepsNodes, NewAreUntagged, Grows, Joins, ChangesNode}
use Rattle.diagram_arena.specs.Body.{id, state_of, IsIndex, IsKept}
use Rattle.diagram_arena.proofs.Growth.{Adds, adds_reduced, adds_grows, adds_only, joins_node, grows_self}
use Rattle.diagram_arena.proofs.Ids.{same_id, cases_id, id_cmp_total, tied_same, tied_other}
use Rattle.diagram_arena.proofs.Kept.{slot, Puts, get-state_of, len-state_of, put-state_of, changes-state_of, count-set}
use Rattle.diagram_arena.proofs.Index.{derived, index_adds}

pub table-at : (a : ArenaState) (i : NodeId) → table a i ≡ option_map triple_of (map.get a.nodes i)
unfolding table
table-at a i = refl

pub table_from_get : (a : ArenaState) (i : NodeId) (n : Node) → map.get a.nodes i ≡ Some n → table a i ≡ Some (triple_of n)
table_from_get a i n is = table-at a i ∙ ap (option_map triple_of) is

pub table_none : (a : ArenaState) (i : NodeId) → map.get a.nodes i ≡ None → table a i ≡ None
table_none a i is = table-at a i ∙ ap (option_map triple_of) is

pub table-state_of : (ns : List (Option Node)) (limit : ℕ) (i : NodeId) → table (state_of ns limit) i ≡ option_map triple_of (slot ns i.0)
table-state_of ns limit i = table-at (state_of ns limit) i ∙ ap (option_map triple_of) (get-state_of ns limit i)

mapped_some : (o : Option Node) → IsSome (option_map triple_of o) → IsSome o
mapped_some None live = live
mapped_some (Some n) live = refl

some_mapped : (o : Option Node) → IsSome o → IsSome (option_map triple_of o)
some_mapped None live = live
some_mapped (Some n) live = refl

pub live_there : (ns : List (Option Node)) (limit : ℕ) (i : NodeId) → IsLive (table (state_of ns limit)) (ref.Node i) → IsSome (slot ns i.0)
live_there ns limit i live = mapped_some (slot ns i.0) (subst IsSome (table-state_of ns limit i) live)

pub there_live : (ns : List (Option Node)) (limit : ℕ) (i : NodeId) → IsSome (slot ns i.0) → IsLive (table (state_of ns limit)) (ref.Node i)
there_live ns limit i there = subst IsSome (sym (table-state_of ns limit i)) (some_mapped (slot ns i.0) there)

pub get_at : (ns : List (Option Node)) (limit : ℕ) (i : NodeId) (n : Node) → slot ns i.0 ≡ Some n → map.get (state_of ns limit).nodes i ≡ Some n
get_at ns limit i n is = get-state_of ns limit i ∙ is

-- a change that keeps bit and children keeps the table
pub changes_table : (old new : ArenaState) (i : NodeId) (f : Node → Node) → ChangesNode old new i f → ((n : Node) → triple_of (f n) ≡ triple_of n) → table new ≡ table old
changes_table old new i f changes same = fun_ext (λ j.
    elim (cases_id j i) [
      | inl e ↦ subst (λ k. table new k ≡ table old k) (sym e)
          (table-at new i ∙ ap (option_map triple_of) changes.changed ∙ mapped (map.get old.nodes i) ∙ sym (table-at old i))
      | inr ne ↦ table-at new j ∙ ap (option_map triple_of) (changes.others j ne) ∙ sym (table-at old j)
    ])
  where
    mapped : (o : Option Node) → option_map triple_of (option_map f o) ≡ option_map triple_of o
    mapped None = refl
    mapped (Some n) = ap Some (same n)

-- a write to the slot that holds m
pub puts_set : (s : Slab Node) (k : ℕ) (m n : Node) → get s k ≡ Some m → Puts s.slots (set s.slots k (Some n)) k (Some n)
puts_set s k m n at =
    let u = Updates-with_value s k n (subst IsSome (sym at) refl) in
    record { changed = u.changed; others = u.others }

pub changes_set : (s : Slab Node) (limit : ℕ) (i : NodeId) (k : ℕ) (m : Node) (f : Node → Node) → k ≡ i.0 → get s k ≡ Some m
    → ChangesNode (state_of s.slots limit) (state_of (set s.slots k (Some (f m))) limit) i f
changes_set s limit i k m f same at =
    let at' : get s i.0 ≡ Some m = ap (get s) (sym same) ∙ at in
    subst (λ j. ChangesNode (state_of s.slots limit) (state_of (set s.slots j (Some (f m))) limit) i f) (sym same)
    (changes-state_of s.slots (set s.slots i.0 (Some (f m))) i m limit f at' (puts_set s i.0 m (f m) at'))

pub len_set : (s : Slab Node) (limit k : ℕ) (m n : Node) → get s k ≡ Some m
    → map.len (state_of (set s.slots k (Some n)) limit).nodes ≡ map.len (state_of s.slots limit).nodes
len_set s limit k m n at = len-state_of (set s.slots k (Some n)) limit ∙ count-set s.slots k m n at ∙ sym (len-state_of s.slots limit)

-- a write that keeps bit and children keeps the invariant
pub kept_set : (s : Slab Node) (limit : ℕ) (es : List (Triple × NodeId)) (i : NodeId) (k : ℕ) (m : Node) (f : Node → Node) → k ≡ i.0 → IsKept s.slots limit es
    → get s k ≡ Some m → ((x : Node) → triple_of (f x) ≡ triple_of x) → IsKept (set s.slots k (Some (f m))) limit es
kept_set s limit es i k m f same kept at alike =
    let t : table (state_of (set s.slots k (Some (f m))) limit) ≡ table (state_of s.slots limit) =
    changes_table _ _ i f (changes_set s limit i k m f same at) alike in
    record {
      reduced = subst IsReduced (sym t) kept.reduced;
      few = let many = count-set s.slots k m (f m) at in omega (arith, many, kept.few);
      some = kept.some;
      most = kept.most;
      indexed = subst (λ (u : Table). IsIndex u es) (sym t) kept.indexed;
    }

-- an added node in the table
pub added_keeps : (old new : ArenaState) (bit : ℕ) (lo hi : Ref) (i : NodeId) → AddsNode old new bit lo hi i → KeepsNodes old new
added_keeps old new bit lo hi i adds j n is =
    elim (cases_id j i) [
      | inl e ↦ let no : None ≡ Some n = sym adds.free ∙ ap (map.get old.nodes) (sym e) ∙ is in absurd (cc)
      | inr ne ↦
          let tie : is_eq (nat_cmp j.0 i.0) ≡ false = tied_other j.0 i.0 (λ e. ne (same_id j i e)) in
          ap (λ (s : ArenaState). map.get s.nodes j) adds.added ∙ map.get-insert id_cmp_total old.nodes i (new_node (triple bit lo hi)) j
          ∙ ap (λ b. cond b (Some (new_node (triple bit lo hi))) (map.get old.nodes j)) tie ∙ is
    ]

pub added_untagged : (old new : ArenaState) (bit : ℕ) (lo hi : Ref) (i : NodeId) → AddsNode old new bit lo hi i → NewAreUntagged old new
added_untagged old new bit lo hi i adds j n none is =
    let m : Node = new_node (triple bit lo hi) in
    let at : map.get new.nodes j ≡ cond (eq_by_cmp id_cmp j i) (Some m) (map.get old.nodes j) =
    ap (λ (s : ArenaState). map.get s.nodes j) adds.added ∙ map.get-insert id_cmp_total old.nodes i m j in
    elim (cases_id j i) [
      | inl e ↦
          let tie : is_eq (nat_cmp j.0 i.0) ≡ true = tied_same j.0 i.0 (ap (λ (x : NodeId). x.0) e) in
          let same : Some n ≡ Some m = sym is ∙ at ∙ ap (λ b. cond b (Some m) (map.get old.nodes j)) tie in
          let same' : n ≡ m = (cc) in
          ap (λ (x : Node). x.tag) same'
      | inr ne ↦
          let tie : is_eq (nat_cmp j.0 i.0) ≡ false = tied_other j.0 i.0 (λ e. ne (same_id j i e)) in
          let no : Some n ≡ None = sym is ∙ at ∙ ap (λ b. cond b (Some m) (map.get old.nodes j)) tie ∙ none in
          absurd (cc)
    ]

pub adds_of : (old new : ArenaState) (bit : ℕ) (lo hi : Ref) (i : NodeId) → AddsNode old new bit lo hi i → Adds (table old) (table new) i (triple bit lo hi)
adds_of old new bit lo hi i adds =
    let n : Node = new_node (triple bit lo hi) in
    let at : (j : NodeId) → map.get new.nodes j ≡ cond (eq_by_cmp id_cmp j i) (Some n) (map.get old.nodes j) = λ j.
    ap (λ (s : ArenaState). map.get s.nodes j) adds.added ∙ map.get-insert id_cmp_total old.nodes i n j in
    record {
      free = table_none old i adds.free;
      here = let tie : is_eq (nat_cmp i.0 i.0) ≡ true = tied_same i.0 i.0 refl in
          table_from_get new i n (at i ∙ ap (λ b. cond b (Some n) (map.get old.nodes i)) tie);
      others = λ j ne.
          let tie : is_eq (nat_cmp j.0 i.0) ≡ false = tied_other j.0 i.0 (λ e. ne (same_id j i e)) in
          table-at new j ∙ ap (option_map triple_of) (at j ∙ ap (λ b. cond b (Some n) (map.get old.nodes j)) tie) ∙ sym (table-at old j);
    }

-- a node in a slot that was empty adds a node
pub adds_put : (ns ms : List (Option Node)) (limit k : ℕ) (bit : ℕ) (lo hi : Ref) → slot ns k ≡ None → Puts ns ms k (Some (new_node (triple bit lo hi)))
    → AddsNode (state_of ns limit) (state_of ms limit) bit lo hi (id k)
adds_put ns ms limit k bit lo hi free puts = record {
  free = get-state_of ns limit (id k) ∙ free;
  added = put-state_of ns ms k (new_node (triple bit lo hi)) limit puts;
}

-- a needed node in an empty slot, indexed under its id, keeps the invariant
pub kept_put : (ns ms : List (Option Node)) (limit k : ℕ) (es fs : List (Triple × NodeId)) (n : Triple) → IsKept ns limit es
    → slot ns k ≡ None → Puts ns ms k (Some (new_node n)) → count_by is_some ms ≡ count_by is_some ns + 1
    → CanMake (table (state_of ns limit)) n.bit n.lo n.hi → IsNeeded (table (state_of ns limit)) n.bit n.lo n.hi → n.bit < bit_end → count_by is_some ns < limit
    → ((m : Triple) → lookup (derived m) fs ≡ cond (derived n m) (Some (id k)) (lookup (derived m) es))
    → IsKept ms limit fs
kept_put ns ms limit k es fs n kept free puts more can needed small room put =
    let adds : Adds (table (state_of ns limit)) (table (state_of ms limit)) (id k) n =
    adds_of _ _ n.bit n.lo n.hi (id k) (adds_put ns ms limit k n.bit n.lo n.hi free puts) in
    record {
      reduced = adds_reduced _ _ kept.reduced (id k) n adds small can needed;
      few = omega (arith, more, room);
      some = kept.some;
      most = kept.most;
      indexed = index_adds _ _ (id k) n es fs adds kept.indexed needed.absent put;
    }

no_nodes : (limit : ℕ) (i : NodeId) (n : Triple) → table (state_of [] limit) i ≡ Some n → ⊥
no_nodes limit i n is = let none : table (state_of [] limit) i ≡ None = table-state_of [] limit i in let no : None ≡ Some n = sym none ∙ is in cc

pub kept_new : (limit : ℕ) → 0 < limit → limit ≤ most_nodes → IsKept [] limit []
kept_new limit some most = record {
  reduced = record {
    small = λ i n is. absurd (no_nodes limit i n is);
    deeper = λ i n v is. absurd (no_nodes limit i n is);
    live = λ i n v is. absurd (no_nodes limit i n is);
    differ = λ i n is. absurd (no_nodes limit i n is);
    once = λ i j n is is'. absurd (no_nodes limit i n is);
  };
  few = omega arith;
  some = some;
  most = most;
  indexed = record { sound = λ n i is. (cc); complete = λ i n is. absurd (no_nodes limit i n is) };
}

-- what a call means that added a node, or refused
pub record Added (old new : ArenaState) (bit : ℕ) (lo hi : Ref) (o : Result Ref Stop) : Type 0 where
  pub made : IfOk o (IsMade old new bit lo hi)
  pub keeps : KeepsNodes old new
  pub untagged : NewAreUntagged old new
  pub joins : IfOk o (Joins (table old) (table new) bit lo hi)
  pub only_new : (i : NodeId) → table old i ≡ None → IsLive (table new) (ref.Node i) → o ≡ Ok (ref.Node i)
  pub grown : Grows (table old) (table new)
  pub reduced : IsReduced (table new)

not_none : (t : Table) (i : NodeId) → t i ≡ None → IsLive t (ref.Node i) → ⊥
not_none t i none live = let no : IsSome {T = Triple} None = subst IsSome none live in cc

pub added : (old new : ArenaState) (bit : ℕ) (lo hi : Ref) (o : Result Ref Stop) → IsReduced (table old) → CanMake (table old) bit lo hi → IsNeeded (table old) bit lo hi → bit < bit_end
    → IfOk o (λ r. (i : NodeId) × (r ≡ ref.Node i) × AddsNode old new bit lo hi i) → OnErr o (new ≡ old) → Added old new bit lo hi o
added old new bit lo hi (Ok r) ok can needed small adds same =
    let i = adds.0 in
    let put : Adds (table old) (table new) i (triple bit lo hi) = adds_of old new bit lo hi i adds.2 in
    let ok' : IsReduced (table new) = adds_reduced _ _ ok i (triple bit lo hi) put small can needed in
    let grown : Grows (table old) (table new) = adds_grows _ _ ok i (triple bit lo hi) put ok' in
    record {
      made = node_added i needed adds.1 adds.2;
      keeps = added_keeps old new bit lo hi i adds.2;
      untagged = added_untagged old new bit lo hi i adds.2;
      joins = subst (Joins (table old) (table new) bit lo hi) (sym adds.1) (joins_node _ _ grown ok' i (triple bit lo hi) put.here can);
      only_new = λ j free live. ap Ok (adds.1 ∙ adds_only _ _ i (triple bit lo hi) put j free live);
      grown = grown;
      reduced = ok';
    }
added old new bit lo hi (Err e) ok can needed small adds same =
    let t : table new ≡ table old = ap table same in
    record {
      made = tt;
      keeps = λ i n is. subst (λ (s : ArenaState). map.get s.nodes i ≡ Some n) (sym same) is;
      untagged = λ i n none is. let no : Some n ≡ None = sym is ∙ ap (λ (s : ArenaState). map.get s.nodes i) same ∙ none in absurd (cc);
      joins = tt;
      only_new = λ j free live. absurd (not_none (table old) j free (subst (λ (u : Table). IsLive u (ref.Node j)) t live));
      grown = subst (Grows (table old)) (sym t) (grows_self (table old) ok);
      reduced = subst IsReduced (sym t) ok;
    }
