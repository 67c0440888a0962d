-- What tags say as nodes come and go: numbers stay with the sets for which they stand.
use Rattle.std.proofs.Common.{◌≡◌, ℕ, ◌<◌, List, Option, Some, None, refl, sym, ap, ◌∙◌, subst, arith}
use Rattle.std.specs.Prelude.{IsSomeAnd, slice_get, get_or, length}
use Rattle.std.specs.Option.{option_map, option_map_or}
use Rattle.std.proofs.lemmas.Option.{slice_get-get_or}
use Rattle.set_meaning.specs.declared.kinds.Kind.{Kind}
use Rattle.set_meaning.specs.declared.kinds.Kind.TheVariants as kind
use Rattle.set_meaning.specs.declared.problems.VarId.{VarId}
use Rattle.bit_layout.specs.Words.{width_of}
use Rattle.log_rules.specs.Boxes.{FitsWidth, IsSide}
use Rattle.std.specs.FinMap as map
use Rattle.bit_layout.specs.Order.{LayoutState}
use Rattle.diagram_arena.specs.declared.nodes.NodeId.{NodeId}
use Rattle.diagram_arena.specs.declared.nodes.Node.{Node as Stored}
use Rattle.diagram_arena.specs.declared.nodes.Ref.{Ref}
use Rattle.diagram_arena.specs.declared.nodes.Ref.TheVariants as ref
use Rattle.diagram_arena.specs.Table.{Word, Table, has, depth, IsLive, IsReduced}
use Rattle.diagram_arena.specs.Reach.{Bits, ReachesOnly, DependsOn}
use Rattle.diagram_arena.specs.Arena.{ArenaState, table, tag_of, unmarked}
use Rattle.diagram_arena.proofs.Reach.{reaches_only, depends_only}
use Rattle.node_reclaim.specs.Pool.{PoolState}
use Rattle.node_reclaim.specs.Growth.{Stays}
use Rattle.node_reclaim.specs.Reclaim.{Reclaims}
use Rattle.log_rules.specs.declared.nodes.Node.{Node}
use Rattle.refute_log.specs.Naming.{spread, bits_of, Names, IsNumbered}

-- ---- one ref in two tables

-- where a ref has the same words it reaches the same bits
same_reach : (t u : Table) (bits : Bits) (r : Ref) → IsReduced t → IsReduced u → IsLive t r → IsLive u r → ((w : Word) → has u r w ≡ has t r w) → ReachesOnly u bits r → ReachesOnly t bits r
same_reach t u bits r ok_t ok_u live_t live_u words reaches =
    let depends : DependsOn bits (has u r) = depends_only u ok_u bits r live_u reaches in
    reaches_only t ok_t bits r live_t (λ w v agree. sym (words w) ∙ depends w v agree ∙ words v)

pub names_same : (l : LayoutState) (t u : Table) (nodes : List Node) (r : Ref) (n : ℕ) → IsReduced t → IsReduced u → IsLive t r → IsLive u r
    → ((w : Word) → has u r w ≡ has t r w) → depth u r ≡ depth t r → Names l t nodes r n → Names l u nodes r n
names_same l t u nodes r n ok_t ok_u live_t live_u words deep names = record {
  known = names.known;
  means = λ word. names.means word ∙ sym (words (spread l word));
  fits = λ v reaches. names.fits v (same_reach t u (bits_of l v) r ok_t ok_u live_t live_u words reaches);
  deeper = λ v bit reaches on above. names.deeper v bit (same_reach t u (bits_of l v) r ok_t ok_u live_t live_u words reaches) on (subst (λ d. bit < d) deep above);
}

-- ---- nodes with tags

-- a tag is of a node that is there
tagged : (a : ArenaState) (i : NodeId) (n : ℕ) → tag_of a i ≡ Some n → (m : Stored) × (map.get a.nodes i ≡ Some m) × (m.tag ≡ n)
tagged a i n is = by (map.get a.nodes i) refl is
  where
    by : (o : Option Stored) → map.get a.nodes i ≡ o → option_map (λ (m : Stored). m.tag) o ≡ Some n → (m : Stored) × (map.get a.nodes i ≡ Some m) × (m.tag ≡ n)
    by None at e = absurd (cc)
    by (Some m) at e = let same : m.tag ≡ n = cc in (m, at, same)

live_at : (a : ArenaState) (i : NodeId) (m : Stored) → map.get a.nodes i ≡ Some m → IsLive (table a) (ref.Node i)
unfolding table
live_at a i m is = rw is refl

tag_at : (a : ArenaState) (i : NodeId) (m : Stored) → map.get a.nodes i ≡ Some m → tag_of a i ≡ Some m.tag
tag_at a i m is = ap (option_map (λ (x : Stored). x.tag)) is

pub untagged_numbered : (l : LayoutState) (a : ArenaState) (nodes : List Node) → ((i : NodeId) (n : Stored) → map.get a.nodes i ≡ Some n → n.tag ≡ 0) → IsNumbered l a nodes
untagged_numbered l a nodes none = record {
  each = λ i n is some. let m = tagged a i n is in let zero_tag = none i m.0 m.1 in let same = m.2 in absurd (omega (arith, zero_tag, same, some));
}

pub stays_numbered : (l : LayoutState) (old new : PoolState) (nodes : List Node) → IsReduced (table old.arena) → Stays old new → IsNumbered l old.arena nodes → IsNumbered l new.arena nodes
stays_numbered l old new nodes ok stays numbered = record { each = each } where
  each : (i : NodeId) (n : ℕ) → tag_of new.arena i ≡ Some n → 0 < n → Names l (table new.arena) nodes (ref.Node i) n
  each i n is some =
      let m = tagged new.arena i n is in
      by (map.get old.arena.nodes i) refl
    where
      by : (o : Option Stored) → map.get old.arena.nodes i ≡ o → Names l (table new.arena) nodes (ref.Node i) n
      by None at =
          let m = tagged new.arena i n is in
          let zero_tag = stays.untagged i m.0 at m.1 in
          let same = m.2 in absurd (omega (arith, zero_tag, same, some))
      by (Some m) at =
          let live : IsLive (table old.arena) (ref.Node i) = live_at old.arena i m at in
          let tag : tag_of new.arena i ≡ Some m.tag = tag_at new.arena i m (stays.keeps i m at) in
          let same : Some m.tag ≡ Some n = sym tag ∙ is in
          names_same l (table old.arena) (table new.arena) nodes (ref.Node i) n ok stays.reduced live (stays.grows.live (ref.Node i) live)
          (stays.grows.words (ref.Node i) live) (stays.grows.depths (ref.Node i) live) (numbered.each i n (tag_at old.arena i m at ∙ same) some)

pub reclaimed_numbered : (l : LayoutState) (old new : PoolState) (nodes : List Node) → IsReduced (table old.arena) → Reclaims old new → IsNumbered l old.arena nodes → IsNumbered l new.arena nodes
reclaimed_numbered l old new nodes ok done numbered = record {
  each = λ i n is some.
      let m = tagged new.arena i n is in
      let live : IsLive (table new.arena) (ref.Node i) = live_at new.arena i m.0 m.1 in
      let kept = done.kept i (done.only i live) in
      let tag : tag_of new.arena i ≡ Some kept.0.tag = tag_at new.arena i (unmarked kept.0) kept.2 in
      let same : Some kept.0.tag ≡ Some n = sym tag ∙ is in
      names_same l (table old.arena) (table new.arena) nodes (ref.Node i) n ok done.reduced (done.means.live (ref.Node i) live) live
      (λ w. sym (done.means.words (ref.Node i) live w)) (sym (done.means.depths (ref.Node i) live)) (numbered.each i n (tag_at old.arena i kept.0 kept.1 ∙ same) some);
}

pub stays_names : (l : LayoutState) (old new : PoolState) (nodes : List Node) (r : Ref) (n : ℕ) → IsReduced (table old.arena) → Stays old new → IsLive (table old.arena) r
    → Names l (table old.arena) nodes r n → Names l (table new.arena) nodes r n
stays_names l old new nodes r n ok stays live names =
    names_same l (table old.arena) (table new.arena) nodes r n ok stays.reduced live (stays.grows.live r live) (stays.grows.words r live) (stays.grows.depths r live) names

pub reclaimed_names : (l : LayoutState) (old new : PoolState) (nodes : List Node) (r : Ref) (n : ℕ) → IsReduced (table old.arena) → Reclaims old new → IsLive (table new.arena) r
    → Names l (table old.arena) nodes r n → Names l (table new.arena) nodes r n
reclaimed_names l old new nodes r n ok done live names =
    names_same l (table old.arena) (table new.arena) nodes r n ok done.reduced (done.means.live r live) live (λ w. sym (done.means.words r live w)) (sym (done.means.depths r live)) names

-- the number of a ref over the bits of a variable is a side of it
pub names_side : (l : LayoutState) (t : Table) (nodes : List Node) (v : VarId) (r : Ref) (n : ℕ) → v.0 < length l.kinds → ReachesOnly t (bits_of l v) r → Names l t nodes r n
    → IsSide l.kinds nodes (v.0, n)
names_side l t nodes v r n within reaches names = record { node = names.known; variable = by (slice_get l.kinds v.0) refl (names.fits v reaches) } where
  by : (o : Option Kind) → slice_get l.kinds v.0 ≡ o → FitsWidth nodes n (option_map_or width_of o 0) → IsSomeAnd o (λ k. FitsWidth nodes n (width_of k))
  by None none fits = let some : None ≡ Some (get_or l.kinds v.0 kind.Bool) = sym none ∙ slice_get-get_or l.kinds v.0 kind.Bool within in absurd (cc)
  by (Some k) is fits = fits
