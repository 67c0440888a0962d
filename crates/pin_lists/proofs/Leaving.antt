-- What units leave, one after another.
use Rattle.std.proofs.Common.{◌≡◌, ◌⊎◌, ℕ, ◌+◌, ◌<◌, Bool, List, [], ◌∷◌, ◌++◌, length, get_or, zero, suc, None, Some, refl, sym, ap, ◌∙◌, subst, inl, inr, eq-eqb, arith, Contains}
use Rattle.std.specs.Prelude.{if◌then◌else◌}
use Rattle.std.specs.Option.{unwrap_or}
use Rattle.std.specs.FinMap as map
use Rattle.std.proofs.Math.Path.{fun_ext}
use Rattle.diagram_arena.specs.declared.nodes.NodeId.{NodeId}
use Rattle.diagram_arena.specs.declared.nodes.Ref.{Ref}
use Rattle.diagram_arena.specs.declared.nodes.Ref.TheVariants.{Zero, One, Node}
use Rattle.diagram_arena.specs.Table.{Words, Table, id_cmp, has, IsLive, IsReduced}
use Rattle.diagram_arena.specs.Arena.{ArenaState, table, Grows}
use Rattle.diagram_arena.proofs.Meaning.{live_from}
use Rattle.node_reclaim.specs.Pool.{PoolState, pins_of, times}
use Rattle.node_reclaim.specs.Growth.{Stays, NewAre}
use Rattle.node_reclaim.specs.Holders.{Gains, AreHeld, MeansTheSame}
use Rattle.node_reclaim.specs.Reclaim.{Reclaims}
use Rattle.pin_lists.specs.Units.{PinnedAreLive, Moves, StoodBefore, AllAre, UnitsLeave, Collects}
use Rattle.pin_lists.proofs.Counting.{times-append}
use Rattle.pin_lists.proofs.Reached.{still_reached}

-- ---- what is held

times_listed : (i : NodeId) (rs : List Ref) → Contains rs (Node i) → 0 < times i rs
times_listed i rs h = at rs h.0 h.1 h.2
  where
    own : times i (Node i ∷ []) ≡ 1
    own = ap (λ (b : Bool). (if b then 1 else 0) + 0) (eq-eqb i.0 i.0 refl)

    at : (rs : List Ref) (k : ℕ) → k < length rs → get_or rs k (Node i) ≡ Node i → 0 < times i rs
    at [] k within e = absurd (let none : k < 0 = within in omega (arith, none))
    at (r ∷ rs) zero within e =
        let one : times i (r ∷ []) ≡ 1 = ap (λ (q : Ref). times i (q ∷ [])) e ∙ own in
        let all = times-append i (r ∷ []) rs in
        omega (arith, one, all)
    at (r ∷ rs) (suc k) within e =
        let less : k < length rs = omega (arith, within) in
        let later = at rs k less e in
        let all = times-append i (r ∷ []) rs in
        omega (arith, later, all)

pub held_live : (s : PoolState) (rs : List Ref) (r : Ref) → PinnedAreLive s → AreHeld s rs → Contains rs r → IsLive (table s.arena) r
held_live s rs Zero pinned held h = tt
held_live s rs One pinned held h = tt
held_live s rs (Node i) pinned held h = let own = times_listed i rs h in let all = held i in pinned i (omega (arith, own, all))

pub fewer_held : (s : PoolState) (rs qs : List Ref) → AreHeld s (rs ++ qs) → AreHeld s rs
fewer_held s rs qs held i = let all = held i in let e = times-append i rs qs in omega (arith, all, e)

-- ---- one step after another

pub means_itself : (s : PoolState) (rs : List Ref) → PinnedAreLive s → AreHeld s rs → MeansTheSame (table s.arena) (table s.arena) rs
means_itself s rs pinned held r h = (held_live s rs r pinned held h, λ w. refl)

pub means_grown : (s : PoolState) (u : Table) (rs : List Ref) → PinnedAreLive s → Grows (table s.arena) u → AreHeld s rs → MeansTheSame (table s.arena) u rs
means_grown s u rs pinned grows held r h = let live = held_live s rs r pinned held h in (grows.live r live, grows.words r live)

pub means_then : (t u v : Table) (rs : List Ref) → MeansTheSame t u rs → MeansTheSame u v rs → MeansTheSame t v rs
means_then t u v rs first second r h = ((second r h).0, λ w. (second r h).1 w ∙ (first r h).1 w)

same_counts : (a b : PoolState) (i : NodeId) → b.counts ≡ a.counts → pins_of b i ≡ pins_of a i
same_counts a b i e = ap (λ (m : map.FinMap id_cmp ℕ). unwrap_or (map.get m i) 0) e

stood_then : (t u : Table) (P : Words → Type 0) (W : Words) → AllAre t u P → StoodBefore u W → StoodBefore t W ⊎ P W
stood_then t u P W first h = subst (λ X. StoodBefore t X ⊎ P X) (fun_ext h.2) (first h.0 h.1)

pub all_then : (t u v : Table) (P : Words → Type 0) → AllAre t u P → AllAre u v P → AllAre t v P
all_then t u v P first second i live = elim (second i live) [
  | inl stood ↦ stood_then t u P (has v (Node i)) first stood
  | inr new ↦ inr new
]

pub all_new : (t u : Table) (P : Words → Type 0) → Grows t u → NewAre t u P → AllAre t u P
all_new t u P grows news i live =
    elim (t i) as (λ o. t i ≡ o → StoodBefore t (has u (Node i)) ⊎ P (has u (Node i))) [
      | None ↦ λ e. inr (news i e live)
      | Some n ↦ λ e. let there : IsLive t (Node i) = live_from t i n e in inl (i, there, λ w. sym (grows.words (Node i) there w))
    ] refl

pub all_itself : (t : Table) (P : Words → Type 0) → AllAre t t P
all_itself t P i live = inl (i, live, λ w. refl)

-- a unit that freed nothing
pub unit_leaves : (P : Words → Type 0) (a b : PoolState) (held : List Ref) → PinnedAreLive a → Stays a b → NewAre (table a.arena) (table b.arena) P → UnitsLeave P a b held held
unit_leaves P a b held pinned stays news = record {
  reduced = stays.reduced;
  limit = stays.limit;
  pins = λ i. let e = same_counts a b i stays.counts in omega (arith, e);
  kept = λ rs h. means_grown a (table b.arena) rs pinned stays.grows (fewer_held a rs held h);
  sets = all_new (table a.arena) (table b.arena) P stays.grows news;
}

-- nothing was done
pub units_itself : (P : Words → Type 0) (s : PoolState) (held : List Ref) → PinnedAreLive s → IsReduced (table s.arena) → UnitsLeave P s s held held
units_itself P s held pinned ok = record {
  reduced = ok;
  limit = refl;
  pins = λ i. refl;
  kept = λ rs h. means_itself s rs pinned (fewer_held s rs held h);
  sets = all_itself (table s.arena) P;
}

pub units_then : (P : Words → Type 0) (a b c : PoolState) (before mid after : List Ref) → UnitsLeave P a b before mid → UnitsLeave P b c mid after → UnitsLeave P a c before after
units_then P a b c before mid after first second = record {
  reduced = second.reduced;
  limit = second.limit ∙ first.limit;
  pins = λ i. let f = first.pins i in let s = second.pins i in omega (arith, f, s);
  kept = λ rs h.
      let there : AreHeld b (rs ++ mid) = λ i.
      let all = h i in
      let old = times-append i rs before in
      let new = times-append i rs mid in
      let moved = first.pins i in
      omega (arith, all, old, new, moved) in
      means_then (table a.arena) (table b.arena) (table c.arena) rs (first.kept rs h) (second.kept rs there);
  sets = all_then (table a.arena) (table b.arena) (table c.arena) P first.sets second.sets;
}

-- only pins have changed
pub pins_leave : (P : Words → Type 0) (a b : PoolState) (before after : List Ref) → PinnedAreLive a → IsReduced (table a.arena) → b.arena ≡ a.arena → Moves a b before after → UnitsLeave P a b before after
pins_leave P a b before after pinned ok same moved = record {
  reduced = subst (λ (x : ArenaState). IsReduced (table x)) (sym same) ok;
  limit = ap (λ (x : ArenaState). x.limit) same;
  pins = moved;
  kept = λ rs h. subst (λ (x : ArenaState). MeansTheSame (table a.arena) (table x) rs) (sym same) (means_itself a rs pinned (fewer_held a rs before h));
  sets = subst (λ (x : ArenaState). AllAre (table a.arena) (table x) P) (sym same) (all_itself (table a.arena) P);
}

-- a collection
pub collection_leaves : (P : Words → Type 0) (a b : PoolState) (held : List Ref) → Collects a b → UnitsLeave P a b held held
collection_leaves P a b held is = record {
  reduced = is.reduced;
  limit = is.limit;
  pins = λ i. let e = same_counts a b i is.counts in omega (arith, e);
  kept = λ rs h. is.kept rs (fewer_held a rs held h);
  sets = λ i live. inl (is.stood i live);
}

-- the new sets are of another property too
pub units_also : (P Q : Words → Type 0) (a b : PoolState) (before after : List Ref) → ((W : Words) → P W → Q W) → UnitsLeave P a b before after → UnitsLeave Q a b before after
units_also P Q a b before after into is = record {
  reduced = is.reduced;
  limit = is.limit;
  pins = is.pins;
  kept = is.kept;
  sets = λ i live. elim (is.sets i live) [ inl stood ↦ inl stood | inr new ↦ inr (into (has (table b.arena) (Node i)) new) ];
}

-- ---- pins that were gained

pub moved_from : (a b : PoolState) (held rs : List Ref) → Gains a b rs → Moves a b held (held ++ rs)
moved_from a b held rs gained i = let g = gained i in let e = times-append i held rs in omega (arith, g, e)

pub gained_from : (a b : PoolState) (rs : List Ref) → Moves a b [] rs → Gains a b rs
gained_from a b rs moved i = let m = moved i in omega (arith, m)

pub held_after : (a b : PoolState) (before after : List Ref) → Moves a b before after → AreHeld a before → AreHeld b after
held_after a b before after moved held i = let m = moved i in let h = held i in omega (arith, m, h)

pub held_none : (s : PoolState) → AreHeld s []
held_none s i = omega arith

pub held_beside : (s : PoolState) (rs : List Ref) → AreHeld s rs → AreHeld s (rs ++ [])
held_beside s rs held i = let h = held i in let e = times-append i rs [] in omega (arith, h, e)

-- ---- more is held

pub units_frame : (P : Words → Type 0) (a b : PoolState) (frame before after : List Ref) → UnitsLeave P a b before after → UnitsLeave P a b (frame ++ before) (frame ++ after)
units_frame P a b frame before after is = record {
  reduced = is.reduced;
  limit = is.limit;
  pins = λ i. let m = is.pins i in let f = times-append i frame before in let g = times-append i frame after in omega (arith, m, f, g);
  kept = λ rs h. is.kept rs (λ i.
      let all = h i in
      let e = times-append i rs (frame ++ before) in
      let f = times-append i frame before in
      let g = times-append i rs before in
      omega (arith, all, e, f, g));
  sets = is.sets;
}

-- ---- a unit was begun

pub pinned_begun : (a b : PoolState) → b ≡ record a { units = b.units } → PinnedAreLive a → PinnedAreLive b
pinned_begun a b e h = let P : PinnedAreLive (record a { units = b.units }) = λ i some. h i some in subst PinnedAreLive (sym e) P

pub units_begun : (P : Words → Type 0) (a b c : PoolState) (before after : List Ref) → b ≡ record a { units = b.units } → UnitsLeave P b c before after → UnitsLeave P a c before after
units_begun P a b c before after e h =
    let same : UnitsLeave P (record a { units = b.units }) c before after = subst (λ (s : PoolState). UnitsLeave P s c before after) e h in record {
      reduced = same.reduced;
      limit = same.limit;
      pins = same.pins;
      kept = same.kept;
      sets = same.sets;
    }

pub pinned_grown : (a b : PoolState) → PinnedAreLive a → Stays a b → PinnedAreLive b
pinned_grown a b pinned stays i some =
    let e = same_counts a b i stays.counts in
    stays.grows.live (Node i) (pinned i (omega (arith, e, some)))

-- ---- pins that moved one after another

pub moves_then : (a b c : PoolState) (before mid after : List Ref) → Moves a b before mid → Moves b c mid after → Moves a c before after
moves_then a b c before mid after first second i = let f = first i in let s = second i in omega (arith, f, s)

pub only_then : (a b c : PoolState) → b ≡ record a { counts = b.counts } → c ≡ record b { counts = c.counts } → c ≡ record a { counts = c.counts }
only_then a b c first second = second ∙ ap (λ (s : PoolState). record s { counts = c.counts }) first

-- ---- collections

pub collects : (a b : PoolState) → ((old new : PoolState) (rs : List Ref) → Reclaims old new → AreHeld old rs → MeansTheSame (table old.arena) (table new.arena) rs) → Reclaims a b → Collects a b
collects a b law is = record {
  reduced = is.reduced;
  limit = is.limit;
  counts = is.counts;
  kept = λ rs h. law a b rs is h;
  stood = λ i live. (i, is.means.live (Node i) live, is.means.words (Node i) live);
  swept = is.only;
  reached = λ i live. still_reached a b is i (is.only i live);
}
