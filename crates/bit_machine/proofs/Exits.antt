-- The ways in which a build ends: what has been made so far, and why it stopped.
use Rattle.std.proofs.Common.{◌≡◌, ℕ, ◌+◌, Bool, true, false, eqb, cond, List, Some, None, Result, Ok, Err, Option, refl, sym, ◌∙◌, ap, subst, inl, inr}
use Rattle.std.specs.Prelude.{IsErr, IsErrAnd, IfOk, IfSome, IsSome}
use Rattle.std.specs.FinMap as map
use Rattle.std.specs.Map.{lookup}
use Rattle.std.specs.List.{AllPass}
use Rattle.std.proofs.lemmas.Bool.{cases_Bool, eqb-true}
use Rattle.diagram_arena.specs.declared.nodes.NodeId.{NodeId}
use Rattle.diagram_arena.specs.declared.nodes.Ref.{Ref}
use Rattle.diagram_arena.specs.declared.nodes.Ref.TheVariants.{Node}
use Rattle.diagram_arena.specs.declared.nodes.Triple.{Triple}
use Rattle.diagram_arena.specs.declared.nodes.Stop.{Stop}
use Rattle.diagram_arena.specs.declared.nodes.Stop.TheVariants.{Full, Memory}
use Rattle.diagram_arena.specs.Table.{Words, Table, has, IsLive, IsReduced}
use Rattle.diagram_arena.specs.Part.{IsPartOf}
use Rattle.diagram_arena.specs.Reach.{Bits, ReachesOnly}
use Rattle.diagram_arena.specs.Arena.{table, CanMake, Grows, Joins}
use Rattle.diagram_arena.proofs.Meaning.{live_from}
use Rattle.diagram_arena.proofs.Reach.{reaches_only}
use Rattle.node_reclaim.specs.Pool.{PoolState}
use Rattle.node_reclaim.specs.Growth.{Stays, NewArePartsOf, NewReachOnly}
use Rattle.diagram_ops.proofs.Steps.{stays_self, stays_then, parts_of_part, same_part, made_part, news_reach}
use Rattle.bit_machine.specs.Rules.{Rules}
use Rattle.bit_machine.specs.Built.{accepts_from, IsBuilt, same_position, AreBuilt, BuiltFrom}
use Rattle.bit_machine.specs.Comparisons.{pair_true}
use Rattle.bit_machine.proofs.Reading.{run_depends}
use Rattle.bit_machine.proofs.Steps.{IsStep, side_part, can_join, joined_built, built_grows}

-- what was there stands, and each new node is a part of V
pub record Sofar (old new : PoolState) (V : Words) : Type 0 where
  pub stays : Stays old new
  pub parts : NewArePartsOf (table old.arena) (table new.arena) V

-- new nodes of one call after another
parts_then : (t u v : Table) (V : Words) → Grows u v → NewArePartsOf t u V → NewArePartsOf u v V → NewArePartsOf t v V
parts_then t u v V grown first second i none live =
    elim (u i) as (λ o. u i ≡ o → IsPartOf (has v (Node i)) V) [
      | None ↦ λ e. second i e live
      | Some n ↦ λ e.
          let there : IsLive u (Node i) = live_from u i n e in
          same_part _ _ V (grown.words (Node i) there) (first i none there)
    ] refl

sofar_then : (a b c : PoolState) (V : Words) → Sofar a b V → Sofar b c V → Sofar a c V
sofar_then a b c V first second = record {
  stays = stays_then a b c first.stays second.stays;
  parts = parts_then _ _ _ V second.stays.grows first.parts second.parts;
}

-- in one table there is no new node
sofar_self : (s : PoolState) (V : Words) → IsReduced (table s.arena) → Sofar s s V
sofar_self s V ok = record {
  stays = stays_self s ok;
  parts = λ i none live. let no : IsSome {T = Triple} None = subst IsSome none live in absurd (cc);
}

-- a build for one side
side_call : {Q : Type 0} (a b : PoolState) (rules : Rules Q) (bits : List ℕ) (at : ℕ) (q : Q) (bit : ℕ) (on_false on_true : Q) (v : Bool) (o : Result Ref Stop)
    → IsStep rules bits at q bit on_false on_true → BuiltFrom a b rules bits (at + 1) (cond v on_true on_false) o → Sofar a b (accepts_from rules bits at q)
side_call a b rules bits at q bit on_false on_true v o step call = record {
  stays = call.stays;
  parts = parts_of_part _ _ _ _ (side_part rules bits at q bit on_false on_true step v) call.parts;
}

-- after the build for false
pub lo_call : {Q : Type 0} (s a : PoolState) (rules : Rules Q) (bits : List ℕ) (at : ℕ) (q : Q) (bit : ℕ) (on_false on_true : Q) (o : Result Ref Stop)
    → IsStep rules bits at q bit on_false on_true → BuiltFrom s a rules bits (at + 1) on_false o → Sofar s a (accepts_from rules bits at q)
lo_call s a rules bits at q bit on_false on_true o step call = side_call s a rules bits at q bit on_false on_true false o step call

-- after the builds for both
pub hi_call : {Q : Type 0} (s a b : PoolState) (rules : Rules Q) (bits : List ℕ) (at : ℕ) (q : Q) (bit : ℕ) (on_false on_true : Q) (lo : Ref) (o : Result Ref Stop)
    → IsStep rules bits at q bit on_false on_true → BuiltFrom s a rules bits (at + 1) on_false (Ok lo) → BuiltFrom a b rules bits (at + 1) on_true o → Sofar s b (accepts_from rules bits at q)
hi_call s a b rules bits at q bit on_false on_true lo o step lo_done hi_done =
    sofar_then s a b _ (lo_call s a rules bits at q bit on_false on_true (Ok lo) step lo_done) (side_call a b rules bits at q bit on_false on_true true o step hi_done)

-- both sides are there, in the pool that the second build left
pub record Both {Q : Type 0} (s b : PoolState) (rules : Rules Q) (bits : List ℕ) (at : ℕ) (q : Q) (bit : ℕ) (on_false on_true : Q) (lo hi : Ref) : Type 0 where
  pub sofar : Sofar s b (accepts_from rules bits at q)
  pub step : IsStep rules bits at q bit on_false on_true
  pub lo_is : IsBuilt (table b.arena) rules bits (at + 1) on_false lo
  pub hi_is : IsBuilt (table b.arena) rules bits (at + 1) on_true hi

pub both_calls : {Q : Type 0} (s a b : PoolState) (rules : Rules Q) (bits : List ℕ) (at : ℕ) (q : Q) (bit : ℕ) (on_false on_true : Q) (lo hi : Ref)
    → IsStep rules bits at q bit on_false on_true → BuiltFrom s a rules bits (at + 1) on_false (Ok lo) → BuiltFrom a b rules bits (at + 1) on_true (Ok hi)
    → Both s b rules bits at q bit on_false on_true lo hi
both_calls s a b rules bits at q bit on_false on_true lo hi step lo_done hi_done = record {
  sofar = hi_call s a b rules bits at q bit on_false on_true lo (Ok hi) step lo_done hi_done;
  step = step;
  lo_is = built_grows _ _ rules bits (at + 1) on_false lo hi_done.stays.grows lo_done.built;
  hi_is = hi_done.built;
}

pub both_join : {Q : Type 0} (s b : PoolState) (rules : Rules Q) (bits : List ℕ) (at : ℕ) (q : Q) (bit : ℕ) (on_false on_true : Q) (lo hi : Ref)
    → Both s b rules bits at q bit on_false on_true lo hi → CanMake (table b.arena) bit lo hi
both_join s b rules bits at q bit on_false on_true lo hi is = can_join (table b.arena) rules bits at q bit on_false on_true lo hi is.step is.lo_is is.hi_is

-- after the node over both
pub record Joined {Q : Type 0} (s d : PoolState) (rules : Rules Q) (bits : List ℕ) (at : ℕ) (q : Q) (r : Ref) : Type 0 where
  pub sofar : Sofar s d (accepts_from rules bits at q)
  pub built : IsBuilt (table d.arena) rules bits at q r

pub both_joined : {Q : Type 0} (s b d : PoolState) (rules : Rules Q) (bits : List ℕ) (at : ℕ) (q : Q) (bit : ℕ) (on_false on_true : Q) (lo hi r : Ref) (o : Result Ref Stop)
    → Both s b rules bits at q bit on_false on_true lo hi → Stays b d → Joins (table b.arena) (table d.arena) bit lo hi r → o ≡ Ok r
    → ((i : NodeId) → table b.arena i ≡ None → IsLive (table d.arena) (Node i) → o ≡ Ok (Node i)) → Joined s d rules bits at q r
both_joined s b d rules bits at q bit on_false on_true lo hi r o is stays joins was only =
    let built = joined_built (table b.arena) (table d.arena) rules bits at q bit on_false on_true lo hi r is.step is.lo_is is.hi_is joins in
    let new : (i : NodeId) → table b.arena i ≡ None → IsLive (table d.arena) (Node i) → r ≡ Node i = λ i none live. let same : Ok r ≡ Ok (Node i) = sym was ∙ only i none live in (cc) in
    record {
      sofar = sofar_then s b d _ is.sofar (record { stays = stays; parts = made_part _ _ (accepts_from rules bits at q) r new built.denotes.words });
      built = built;
    }

pub ends_ok : {Q : Type 0} (s d : PoolState) (rules : Rules Q) (bits : List ℕ) (at : ℕ) (q : Q) (r : Ref) → Sofar s d (accepts_from rules bits at q) → IsBuilt (table d.arena) rules bits at q r
    → BuiltFrom s d rules bits at q (Ok r)
ends_ok s d rules bits at q r sofar built = record { built = built; stays = sofar.stays; full = λ e. absurd (cc); parts = sofar.parts }

pub ends_known : {Q : Type 0} (s : PoolState) (rules : Rules Q) (bits : List ℕ) (at : ℕ) (q : Q) (r : Ref) → IsReduced (table s.arena) → IsBuilt (table s.arena) rules bits at q r
    → BuiltFrom s s rules bits at q (Ok r)
ends_known s rules bits at q r ok built = ends_ok s s rules bits at q r (sofar_self s _ ok) built

pub ends_err : {Q : Type 0} (s d : PoolState) (rules : Rules Q) (bits : List ℕ) (at : ℕ) (q : Q) (o : Result Ref Stop) → IsErr o → Sofar s d (accepts_from rules bits at q)
    → (o ≡ Err Full → map.len d.arena.nodes ≡ d.arena.limit) → BuiltFrom s d rules bits at q o
ends_err s d rules bits at q (Ok r) err sofar full = absurd (cc)
ends_err s d rules bits at q (Err e) err sofar full = record { built = tt; stays = sofar.stays; full = full; parts = sofar.parts }

-- a stop that is passed on as it is; want of memory is not Full
pub passed_on : (o : Result Ref Stop) (e : Stop) (P : Type 0) → IsErrAnd o (λ x. x ≡ e) → (e ≡ Full → P) → o ≡ Err Full → P
passed_on (Ok r) e P is full at = absurd is
passed_on (Err x) e P is full at = let same : x ≡ Full = (cc) in full (sym is ∙ same)

pub not_full : (o : Result Ref Stop) (P : Type 0) → IsErrAnd o (λ x. x ≡ Memory) → o ≡ Err Full → P
not_full (Ok r) P is at = absurd is
not_full (Err x) P is at = let full : x ≡ Full = (cc) in let no : Memory ≡ Full = sym is ∙ full in absurd (cc)

-- a pool that is as it was
pub sofar_same : (s b d : PoolState) (V : Words) → d ≡ b → Sofar s b V → Sofar s d V
sofar_same s b d V e is = subst (λ x. Sofar s x V) (sym e) is

pub full_same : (b d : PoolState) → d ≡ b → map.len b.arena.nodes ≡ b.arena.limit → map.len d.arena.nodes ≡ d.arena.limit
full_same b d e is = subst (λ (x : PoolState). map.len x.arena.nodes ≡ x.arena.limit) (sym e) is

-- diagrams that are known stay right in a table that grows, and with one more
pub known_grows : {Q : Type 0} (t u : Table) (rules : Rules Q) (bits : List ℕ) (same : Q → Q → Bool) (es : List ((ℕ × Q) × Ref)) → Grows t u
    → AreBuilt t rules bits same es → AreBuilt u rules bits same es
known_grows t u rules bits same es grown known at q r is = built_grows t u rules bits at q r grown (known at q r is)

pub known_puts : {Q : Type 0} (t : Table) (rules : Rules Q) (bits : List ℕ) (same : Q → Q → Bool) (es fs : List ((ℕ × Q) × Ref)) (at : ℕ) (q : Q) (r : Ref)
    → ((p p' : Q) → same p p' ≡ true → p ≡ p') → AreBuilt t rules bits same es → IsBuilt t rules bits at q r
    → ((k : ℕ × Q) → lookup (same_position same k) fs ≡ cond (same_position same (at, q) k) (Some r) (lookup (same_position same k) es)) → AreBuilt t rules bits same fs
known_puts {Q} t rules bits same es fs at q r identical known is put at' q' s found =
    let one : ℕ × Q → ℕ × Q → Bool = same_position same in
    elim (cases_Bool (one (at, q) (at', q'))) [
      | inl equal ↦
          let here : lookup (one (at', q')) fs ≡ Some r = put (at', q') ∙ ap (λ b. cond b (Some r) (lookup (one (at', q')) es)) equal in
          let e : Some s ≡ Some r = sym found ∙ here in
          let e' : r ≡ s = (cc) in
          subst (λ (k : ℕ × Q). IsBuilt t rules bits k.0 k.1 s) (pair_true eqb same eqb-true identical (at, q) (at', q') equal) (subst (IsBuilt t rules bits at q) e' is)
      | inr other ↦
          let there : lookup (one (at', q')) fs ≡ lookup (one (at', q')) es = put (at', q') ∙ ap (λ b. cond b (Some r) (lookup (one (at', q')) es)) other in
          known at' q' s (sym there ∙ found)
    ]

pub recalled : {Q : Type 0} (t : Table) (rules : Rules Q) (bits : List ℕ) (same : Q → Q → Bool) (es : List ((ℕ × Q) × Ref)) (at : ℕ) (q : Q) (o : Option Ref)
    → AreBuilt t rules bits same es → o ≡ lookup (same_position same (at, q)) es → IfSome o (IsBuilt t rules bits at q)
recalled t rules bits same es at q None known is = tt
recalled t rules bits same es at q (Some r) known is = known at q r (sym is)

-- what the call answers
pub if_ok : (o : Result Ref Stop) (P Q : Ref → Type 0) → ((r : Ref) → P r → Q r) → IfOk o P → IfOk o Q
if_ok (Ok r) P Q f p = f r p
if_ok (Err e) P Q f p = tt

pub built_reach : {Q : Type 0} (s u : PoolState) (rules : Rules Q) (bits : List ℕ) (o : Result Ref Stop) → BuiltFrom s u rules bits 0 rules.start o
    → (set : Bits) → AllPass set bits → NewReachOnly (table s.arena) (table u.arena) set
built_reach s u rules bits o is set all =
    news_reach (table s.arena) (table u.arena) is.stays.reduced set (accepts_from rules bits 0 rules.start) (run_depends rules 0 rules.start bits set all) is.parts

pub built_asks : {Q : Type 0} (s u : PoolState) (rules : Rules Q) (bits : List ℕ) (o : Result Ref Stop) → BuiltFrom s u rules bits 0 rules.start o
    → (set : Bits) → AllPass set bits → IfOk o (ReachesOnly (table u.arena) set)
built_asks s u rules bits o is set all = if_ok o _ _ (λ r built.
    reaches_only (table u.arena) is.stays.reduced set r built.denotes.live
    (λ w v agree. built.denotes.words w ∙ run_depends rules 0 rules.start bits set all w v agree ∙ sym (built.denotes.words v))) is.built
