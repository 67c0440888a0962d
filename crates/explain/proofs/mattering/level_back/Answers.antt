use Rattle.std.proofs.Common.{◌≡◌, ◌⊎◌, ℕ, Bool, ◌+◌, ◌-◌, ◌∙◌, List, take, drop, sym, ap, subst, arith, inl, inr}
use Rattle.std.specs.List.{All}
use Rattle.std.proofs.lemmas.Bool.{MatchBool-at_false, MatchBool-at_true}
use Rattle.std.proofs.lemmas.List.Elements.{All-weaker}
use Rattle.set_meaning.specs.declared.kinds.Value.{Value}
use Rattle.diagram_arena.specs.Arena.{table}
use Rattle.node_reclaim.specs.Pool.{PoolState}
use Rattle.search_rules.specs.Trail as rules
use Rattle.search_rules.specs.Family.{Lies}
use Rattle.search_rules.specs.Walk.{IsNewestOther}
use Rattle.exact_steps.specs.Domains.{values_in, family}
use Rattle.domain_trail.specs.declared.entries.Entry.{Entry}
use Rattle.search_state.specs.Readings.{entry_of, entries_of}
use Rattle.explain.specs.Scans.{IsOld, MattersOf, PassesOrIs}
use Rattle.explain.proofs.Scanning.{scan_back, scanned_all, later_of, other_place, old_at}
use Rattle.explain.proofs.mattering.level_back.Goals as goal

pub is_other-requires-clause-entry : goal.is_other-requires-clause-entry
is_other-requires-clause-entry c =
    subst (λ (s : PoolState). IsOld c.args.layout.now (table s.arena) c.entry-entry.result) (sym c.loop-at.invariant.0)
    (old_at (IsOld c.args.layout.now (table c.args.ops.now.arena)) c.args.trail.now.entries (c.loop-at.at - 1) c.entry-entry.result c.entry-entry.ensures c.requires.entries)

pub loop-at-preserved : goal.loop-at-preserved
loop-at-preserved c =
    let l = c.args.layout.now in
    let here : PassesOrIs l (table c.loop-at.ops.arena) c.args.running.now c.args.v c.entry-entry.result = MatchBool-at_false _ _ c.if-branch.false c.in_ok-is_other.ensures.other in
    let bound = c.loop-at.invariant.1 in (
      c.in_ok-is_other.ensures.same ∙ c.loop-at.invariant.0,
      omega (arith, bound),
      scan_back (PassesOrIs l (table c.args.ops.now.arena) c.args.running.now c.args.v) c.args.trail.now.entries c.loop-at.at c.entry-entry.result c.loop-at-test.true
          c.entry-entry.ensures (subst (λ (s : PoolState). PassesOrIs l (table s.arena) c.args.running.now c.args.v c.entry-entry.result) c.loop-at.invariant.0 here)
          c.loop-at.invariant.2,
    )

pub returns-then-branch-clause-level : goal.returns-then-branch-clause-level
returns-then-branch-clause-level c stored =
    let l = c.args.layout.now in
    let t = table c.args.ops.now.arena in
    let running = c.args.running.now in
    let v = c.args.v in
    let entries = c.args.trail.now.entries in
    let e : Entry = c.entry-entry.result in
    let at = c.loop-at.at - 1 in
    let b : ℕ → Value → Bool = family l t running in
    let found : MattersOf l (table c.loop-at.ops.arena) running v e = MatchBool-at_true _ _ c.if-branch.true c.in_ok-is_other.ensures.other in
    let here : MattersOf l t running v e = subst (λ (s : PoolState). MattersOf l (table s.arena) running v e) c.loop-at.invariant.0 found in
    let later : All (PassesOrIs l t running v) (drop (at + 1) entries) = later_of (PassesOrIs l t running v) entries c.loop-at.at c.loop-at-test.true c.loop-at.invariant.2 in
    let only : All (λ (x : Entry). (x.var.0 ≡ v.0) ⊎ Lies (values_in l t x.var x.before) (b x.var.0)) (drop (at + 1) entries) =
    All-weaker (PassesOrIs l t running v) (λ (x : Entry). (x.var.0 ≡ v.0) ⊎ Lies (values_in l t x.var x.before) (b x.var.0))
    (λ x h. elim h [ inl same ↦ inl (ap (λ w. w.0) same) | inr lies ↦ inr lies ]) (drop (at + 1) entries) later in
    subst (λ (es : List (rules.Entry Value)). IsNewestOther es b v.0 e.level)
    (sym (c.entries_read_by_place.ensures.split l t stored entries at e c.entry-entry.ensures))
    (c.newest_other_by_scan.ensures.found (entries_of l t stored (drop (at + 1) entries)) (entries_of l t stored (take at entries)) (entry_of l t stored e) b v.0
    (c.scanned_entries_read_as_scanned.ensures.only_one l t stored (drop (at + 1) entries) b v.0 only) (other_place e v here.0) here.1)

pub returns-clause-level : goal.returns-clause-level
returns-clause-level c stored =
    let l = c.args.layout.now in
    let t = table c.args.ops.now.arena in
    let running = c.args.running.now in
    let v = c.args.v in
    let entries = c.args.trail.now.entries in
    let b : ℕ → Value → Bool = family l t running in
    let none : c.loop-at.at ≡ 0 = omega (arith, c.loop-at-test.false) in
    let all : All (PassesOrIs l t running v) entries = scanned_all (PassesOrIs l t running v) entries c.loop-at.at none c.loop-at.invariant.2 in
    let only : All (λ (x : Entry). (x.var.0 ≡ v.0) ⊎ Lies (values_in l t x.var x.before) (b x.var.0)) entries =
    All-weaker (PassesOrIs l t running v) (λ (x : Entry). (x.var.0 ≡ v.0) ⊎ Lies (values_in l t x.var x.before) (b x.var.0))
    (λ x h. elim h [ inl same ↦ inl (ap (λ w. w.0) same) | inr lies ↦ inr lies ]) entries all in
    c.newest_other_by_scan.ensures.none (entries_of l t stored entries) b v.0
    (c.scanned_entries_read_as_scanned.ensures.only_one l t stored entries b v.0 only)
