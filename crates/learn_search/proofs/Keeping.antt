-- What stays of the domains and of the compiled problem while units are done.
use Rattle.std.proofs.Common.{◌≡◌, ℕ, ◌<◌, Bool, true, List, [], ◌++◌, Option, None, Some, refl, sym, ap, ◌∙◌, subst, append-nil, arith}
use Rattle.std.specs.Prelude.{slice_get}
use Rattle.std.specs.Option.{option_map_or}
use Rattle.std.proofs.Math.Path.{fun_ext}
use Rattle.std.proofs.lemmas.List.Elements.{Contains-append_left, Contains-append_right}
use Rattle.set_meaning.specs.declared.kinds.Value.{Value}
use Rattle.set_meaning.specs.declared.problems.Problem.{Problem}
use Rattle.bit_layout.specs.Order.{LayoutState}
use Rattle.diagram_arena.specs.declared.nodes.Ref.{Ref}
use Rattle.diagram_arena.specs.Table.{Words, Table, IsReduced}
use Rattle.diagram_arena.specs.Arena.{table}
use Rattle.node_reclaim.specs.Pool.{PoolState}
use Rattle.node_reclaim.specs.Holders.{AreHeld, MeansTheSame}
use Rattle.pin_lists.specs.Units.{PinnedAreLive, Moves, UnitsLeave, Collects}
use Rattle.pin_lists.proofs.Counting.{times-append}
use Rattle.pin_lists.proofs.Leaving.{pins_leave, units_then, units_frame, units_begun, collection_leaves, held_beside}
use Rattle.search_rules.specs.Problem as rules
use Rattle.search_rules.specs.Measure.{total}
use Rattle.exact_steps.specs.Domains.{variable, values_in, AreDomains, family}
use Rattle.exact_steps.proofs.Wanted.{values_same, domain_same, family_at}
use Rattle.problem_rules.specs.Posed.{problem_of}
use Rattle.propagators.specs.Compiled.{CompiledState, pinned_by, IsCompiled}
use Rattle.propagators.proofs.Moving.{listed_at, compiled_same}
use Rattle.learn_search.specs.declared.narrowing.Taken.{Taken}
use Rattle.learn_search.specs.declared.narrowing.Taken.TheVariants as taken
use Rattle.learn_search.specs.Way.{IsOnWay, left, IsTaken}

-- ---- domains that mean the same

pub domains_same : (l : LayoutState) (t u : Table) (domains : List Ref) → MeansTheSame t u domains → AreDomains l t domains → AreDomains l u domains
domains_same l t u domains means are = record { long = are.long; each = λ v r e. let m = means r (listed_at domains v.0 r e) in domain_same l t u v r m.0 m.1 (are.each v r e) }

pub family_same : (l : LayoutState) (t u : Table) (domains : List Ref) → MeansTheSame t u domains → family l u domains ≡ family l t domains
family_same l t u domains means = fun_ext (λ v. at v (slice_get domains v) refl)
  where
    at : (v : ℕ) (o : Option Ref) → slice_get domains v ≡ o → family l u domains v ≡ family l t domains v
    at v None e = let same : (z : Table) → family l z domains v ≡ (λ x. true) = λ z. ap (λ o. λ x. option_map_or (λ r. values_in l z (variable v) r x) o true) e in same u ∙ sym (same t)
    at v (Some d) e = family_at l u domains (variable v) d e ∙ values_same l t u (variable v) d (means d (listed_at domains v d e)).1 ∙ sym (family_at l t domains (variable v) d e)

pub way_same : (p : Problem) (l : LayoutState) (t u : Table) (domains : List Ref) → MeansTheSame t u domains → IsOnWay p l t domains → IsOnWay p l u domains
way_same p l t u domains means way = record {
  domains_are = domains_same l t u domains means way.domains_are;
  constraints = way.constraints;
  steps = subst (rules.Steps (problem_of p) (problem_of p).initial way.constraints) (sym (family_same l t u domains means)) way.steps;
}

-- what a step did is the same, told from an earlier table in which the domains mean the same
pub taken_from : (p : Problem) (l : LayoutState) (s t u : Table) (c : ℕ) (old new : List Ref) (r : Taken) → family l t old ≡ family l s old → IsTaken p l t u c old new r → IsTaken p l s u c old new r
taken_from p l s t u c old new taken.Quiet same h = (record { same = h.0.same; way = h.0.way; values = h.0.values ∙ same }, h.1)
taken_from p l s t u c old new (taken.Narrowed kept) same h = record {
  way = h.way;
  fewer = subst (λ f. left p l u new < total (problem_of p) f) same h.fewer;
  quiet = h.quiet;
  live = h.live;
  others = λ v none. h.others v none ∙ ap (λ (f : ℕ → Value → Bool). f v) same;
}
taken_from p l s t u c old new taken.Violated same h = h

-- ---- units beside what is held

pub held_on : (a b : PoolState) (frame before after : List Ref) → Moves a b before after → AreHeld a (frame ++ before) → AreHeld b (frame ++ after)
held_on a b frame before after moved held i =
    let m = moved i in
    let h = held i in
    let e = times-append i frame before in
    let f = times-append i frame after in
    omega (arith, m, h, e, f)

pub compiled_kept : (P : Words → Type 0) (p : Problem) (l : LayoutState) (a b : PoolState) (k : CompiledState) (before after : List Ref) → UnitsLeave P a b before after → AreHeld a (pinned_by k ++ before) → IsCompiled l p (table a.arena) k
    → IsCompiled l p (table b.arena) k
compiled_kept P p l a b k before after left held is = compiled_same l p (table a.arena) (table b.arena) k (left.kept (pinned_by k) held) is

-- units that hold nothing of their own leave the meaning of all that is held
pub all_kept : (P : Words → Type 0) (a b : PoolState) (held : List Ref) → UnitsLeave P a b [] [] → AreHeld a held → MeansTheSame (table a.arena) (table b.arena) held
all_kept P a b held left is = left.kept held (held_beside a held is)

pub framed : (P : Words → Type 0) (a b : PoolState) (held : List Ref) → UnitsLeave P a b [] [] → UnitsLeave P a b held held
framed P a b held left = subst (λ hs. UnitsLeave P a b hs hs) (append-nil held) (units_frame P a b held [] [] left)

-- ---- a unit that is tried again

module _ (P : Words → Type 0) (a begun b c again : PoolState) (first : begun ≡ record a { units = begun.units }) (refused : UnitsLeave P begun b [] []) (swept : Collects b c) (second : again ≡ record c { units = again.units }) where
  -- up to the second try
  pub before_again : UnitsLeave P a c [] []
  before_again = units_then P a b c [] [] [] (units_begun P a begun b [] [] first refused) (collection_leaves P b c [] swept)

  module _ (p : Problem) (l : LayoutState) (k : CompiledState) (domains : List Ref) (held : AreHeld a (pinned_by k ++ domains)) where
    means : MeansTheSame (table a.arena) (table c.arena) (pinned_by k ++ domains)
    means = all_kept P a c (pinned_by k ++ domains) before_again held

    pub domains_mean : MeansTheSame (table a.arena) (table c.arena) domains
    domains_mean r h = means r (Contains-append_right (pinned_by k) domains r h)

    pub compiled_again : IsCompiled l p (table a.arena) k → IsCompiled l p (table again.arena) k
    compiled_again is =
        subst (λ (s : PoolState). IsCompiled l p (table s.arena) k) (sym second) (compiled_same l p (table a.arena) (table c.arena) k (λ r h. means r (Contains-append_left (pinned_by k) domains r h)) is)

    pub way_again : (now : List Ref) → now ≡ domains → IsOnWay p l (table a.arena) domains → IsOnWay p l (table again.arena) now
    way_again now same way =
        subst (IsOnWay p l (table again.arena)) (sym same) (subst (λ (s : PoolState). IsOnWay p l (table s.arena) domains) (sym second) (way_same p l (table a.arena) (table c.arena) domains domains_mean way))

    pub held_again : (now : List Ref) → now ≡ domains → AreHeld again (pinned_by k ++ now)
    held_again now same =
        subst (λ ds. AreHeld again (pinned_by k ++ ds)) (sym same)
        (subst (λ (s : PoolState). AreHeld s (pinned_by k ++ domains)) (sym second) (all_held (pinned_by k ++ domains) held))
      where
        all_held : (rs : List Ref) → AreHeld a rs → AreHeld (record c { units = again.units }) rs
        all_held rs h i = let m = before_again.pins i in let n = h i in omega (arith, m, n)

    pub family_again : family l (table again.arena) domains ≡ family l (table a.arena) domains
    family_again = ap (λ (s : PoolState). family l (table s.arena) domains) second ∙ family_same l (table a.arena) (table c.arena) domains domains_mean

    -- and where the second try was refused too
    pub way_stopped : (d : PoolState) (now after : List Ref) → now ≡ domains → after ≡ now → UnitsLeave P again d [] [] → IsOnWay p l (table a.arena) domains → IsOnWay p l (table d.arena) after
    way_stopped d now after same unchanged left way =
        subst (IsOnWay p l (table d.arena)) (sym unchanged)
        (way_same p l (table again.arena) (table d.arena) now (λ r h. all_kept P again d (pinned_by k ++ now) left (held_again now same) r (Contains-append_right (pinned_by k) now r h)) (way_again now same way))

  -- and with it
  pub after_again : (d : PoolState) (domains now after : List Ref) → now ≡ domains → UnitsLeave P again d now after → UnitsLeave P a d domains after
  after_again d domains now after same more =
      units_then P a c d domains domains after (framed P a c domains before_again) (units_begun P c again d domains after second (subst (λ ds. UnitsLeave P again d ds after) same more))

-- the domains were pinned, and then narrowed
pub found_leaves : (P : Words → Type 0) (a b c : PoolState) (none first last : List Ref) → PinnedAreLive a → IsReduced (table a.arena) → b ≡ record a { counts = b.counts } → Moves a b none first → none ≡ [] → UnitsLeave P b c first last
    → UnitsLeave P a c [] last
found_leaves P a b c none first last pinned ok only moved empty second =
    units_then P a b c [] first last (pins_leave P a b [] first pinned ok (ap (λ (s : PoolState). s.arena) only) (subst (λ ds. Moves a b ds first) empty moved)) second
