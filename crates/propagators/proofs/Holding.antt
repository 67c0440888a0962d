-- Units that are done and pinned one after another.
use Rattle.std.proofs.Common.{◌≡◌, ◌⊎◌, ℕ, zero, suc, ◌+◌, ◌<◌, ◌≤◌, List, [], ◌∷◌, ◌++◌, length, get_or, take, Some, Result, Ok, Err, refl, sym, ap, ◌∙◌, subst, inl, inr, append-nil, append_assoc, arith, Contains}
use Rattle.std.specs.Prelude.{slice_get, IfOk, OnErr}
use Rattle.std.specs.List.{AllZip}
use Rattle.std.specs.Option.{unwrap_or}
use Rattle.std.specs.FinMap as map
use Rattle.std.proofs.lemmas.List.{length-append, length-take}
use Rattle.std.proofs.lemmas.List.Elements.{Contains-append_left, Contains-append_right}
use Rattle.std.proofs.lemmas.Option.{slice_get_within}
use Rattle.std.proofs.lemmas.Slice.Zip.{AllZip-long}
use Rattle.set_meaning.specs.declared.kinds.Kind.{Kind}
use Rattle.set_meaning.specs.declared.problems.VarId.{VarId}
use Rattle.set_meaning.specs.declared.problems.Constraint.{Constraint}
use Rattle.set_meaning.specs.declared.problems.Problem.{Problem}
use Rattle.set_meaning.specs.Relations.{Holds, variables_of, IsScope}
use Rattle.bit_layout.specs.Order.{LayoutState}
use Rattle.bit_layout.proofs.Listing.{all_zip_next}
use Rattle.diagram_arena.specs.declared.nodes.Ref.{Ref}
use Rattle.diagram_arena.specs.declared.nodes.Stop.{Stop}
use Rattle.diagram_arena.specs.Table.{Table, id_cmp, IsReduced}
use Rattle.diagram_arena.specs.Arena.{ArenaState, table, Grows}
use Rattle.node_reclaim.specs.Pool.{PoolState}
use Rattle.node_reclaim.specs.Growth.{Stays}
use Rattle.exact_steps.specs.Domains.{variable}
use Rattle.node_reclaim.specs.Holders.{Gains, AreHeld, MeansTheSame}
use Rattle.pin_lists.specs.Units.{PinnedAreLive, UnitsLeave, Collects}
use Rattle.pin_lists.proofs.Counting.{times-append}
use Rattle.pin_lists.proofs.Leaving.{unit_leaves, units_itself, units_then, units_frame, units_begun, pins_leave, pinned_begun, pinned_grown, collection_leaves, moved_from, held_after, held_none, held_beside}
use Rattle.propagators.specs.Compiled.{IsInitialDomain, AreInitialDomains, IsDiagramOfConstraint}
use Rattle.propagators.specs.Units.{Anything, IsOfUnit, NewAreOfUnits, AreDone}
use Rattle.propagators.specs.Units.IsOfUnit.{of_variable, of_constraint}
use Rattle.propagators.specs.Work.{NewAreOfWords, NewAreWantedBy, LeavesUnits, AddsHeld, AreFirstDomains, HoldsConstraints, HoldsUnits}
use Rattle.exact_steps.proofs.Wanted.{diagram_same}
use Rattle.propagators.proofs.Moving.{initial_same, listed_at, all_zip_moves}

-- ---- what is left

pub units_self : (l : LayoutState) (p : Problem) (s : PoolState) → PinnedAreLive s → IsReduced (table s.arena) → LeavesUnits l p s s []
units_self l p s pinned ok = units_itself (IsOfUnit l p) s [] pinned ok

pub units_next : (l : LayoutState) (p : Problem) (a b d : PoolState) (rs qs : List Ref) → LeavesUnits l p a b rs → LeavesUnits l p b d qs → LeavesUnits l p a d (rs ++ qs)
units_next l p a b d rs qs first second =
    units_then (IsOfUnit l p) a b d [] rs (rs ++ qs) first (subst (λ xs. UnitsLeave (IsOfUnit l p) b d xs (rs ++ qs)) (append-nil rs) (units_frame (IsOfUnit l p) b d rs [] qs second))

-- what was held before and what was added
held_first : (l : LayoutState) (p : Problem) (old a : PoolState) (start rs : List Ref) → LeavesUnits l p old a rs → AreHeld old start → AreHeld a (start ++ rs)
held_first l p old a start rs left held i = let m = left.pins i in let h = held i in let e = times-append i start rs in omega (arith, m, h, e)

-- one more unit leaves their meaning
keeps_first : (l : LayoutState) (p : Problem) (a b : PoolState) (held rs : List Ref) → LeavesUnits l p a b rs → AreHeld a held → MeansTheSame (table a.arena) (table b.arena) held
keeps_first l p a b held rs left is = left.kept held (held_beside a held is)

-- after a unit's diagram was made, and its ref was pinned or not
pub adds : (l : LayoutState) (p : Problem) (old begun mid new : PoolState) (before after rs : List Ref) → PinnedAreLive old → begun ≡ record old { units = begun.units } → Stays begun mid → NewAreOfUnits l p (table begun.arena) (table mid.arena)
    → new.arena ≡ mid.arena → Gains mid new rs → after ≡ before ++ rs → AddsHeld l p old new before after rs
adds l p old begun mid new before after rs pinned first stays parts same gains held = record {
  left = units_begun (IsOfUnit l p) old begun new [] rs first (units_then (IsOfUnit l p) begun mid new [] [] rs
      (unit_leaves (IsOfUnit l p) begun mid [] (pinned_begun old begun first pinned) stays parts)
      (pins_leave (IsOfUnit l p) mid new [] rs (pinned_grown begun mid (pinned_begun old begun first pinned) stays) stays.reduced same (moved_from mid new [] rs gains)));
  held = held;
}

pub adds_none : (l : LayoutState) (p : Problem) (old begun mid : PoolState) (before after : List Ref) → PinnedAreLive old → begun ≡ record old { units = begun.units } → Stays begun mid → NewAreOfUnits l p (table begun.arena) (table mid.arena)
    → after ≡ before → AddsHeld l p old mid before after []
adds_none l p old begun mid before after pinned first stays parts held =
    adds l p old begun mid mid before after [] pinned first stays parts refl (λ i. omega arith) (held ∙ sym (append-nil before))

-- a unit that was tried again after a collection
pub adds_again : (l : LayoutState) (p : Problem) (old a b new : PoolState) (before mid after rs : List Ref) → AddsHeld l p old a before mid [] → Collects a b → AddsHeld l p b new mid after rs → AddsHeld l p old new before after rs
adds_again l p old a b new before mid after rs first swept second = record {
  left = units_then (IsOfUnit l p) old b new [] [] rs (units_then (IsOfUnit l p) old a b [] [] [] first.left (collection_leaves (IsOfUnit l p) a b [] swept)) second.left;
  held = second.held ∙ ap (λ xs. xs ++ rs) (first.held ∙ append-nil before);
}

pub variable_units : (l : LayoutState) (p : Problem) (v : VarId) (k : Kind) (a b : Table) → l.kinds ≡ p.kinds → slice_get l.kinds v.0 ≡ Some k → NewAreOfWords l (v ∷ []) Anything a b → NewAreOfUnits l p a b
variable_units l p v k a b same e parts i none live =
    let within = slice_get_within l.kinds v.0 k e in
    of_variable v (subst (λ (ks : List Kind). v.0 < length ks) same within) (parts i none live)

pub constraint_units : (l : LayoutState) (p : Problem) (c : Constraint) (a b : Table) → Contains p.constraints c → NewAreWantedBy l c a b → NewAreOfUnits l p a b
constraint_units l p c a b listed parts i none live = of_constraint c listed (parts i none live)

-- ---- the domains

slice_push : {X : Type 0} (xs : List X) (x : X) (n : ℕ) (y : X) → slice_get (xs ++ x ∷ []) n ≡ Some y → (slice_get xs n ≡ Some y) ⊎ ((n ≡ length xs) × (x ≡ y))
slice_push [] x zero y e = inr (refl, cc)
slice_push [] x (suc n) y e = absurd (cc)
slice_push (z ∷ xs) x zero y e = inl e
slice_push (z ∷ xs) x (suc n) y e = elim (slice_push xs x n y e) [
  | inl h ↦ inl h
  | inr h ↦ let same = h.0 in inr (omega (arith, same), h.1)
]

first_domains_same : (l : LayoutState) (p : Problem) (t u : Table) (domains : List Ref) → MeansTheSame t u domains → AreFirstDomains l p t domains → AreFirstDomains l p u domains
first_domains_same l p t u domains means are = record {
  few = are.few;
  each = λ v r e. let m = means r (listed_at domains v.0 r e) in initial_same l t u v r m.0 m.1 (are.each v r e);
}

first_domains_push : (l : LayoutState) (p : Problem) (t : Table) (domains : List Ref) (v : VarId) (r : Ref) → AreFirstDomains l p t domains → length domains ≡ v.0 → v.0 < length p.kinds → IsInitialDomain l t v r
    → AreFirstDomains l p t (domains ++ r ∷ [])
first_domains_push l p t domains v r are long within is = record {
  few = let more = length-append domains (r ∷ []) in omega (arith, more, long, within);
  each = λ u q e. elim (slice_push domains r u.0 q e) [
    | inl earlier ↦ are.each u q earlier
    | inr here ↦
        let number : v.0 ≡ u.0 = sym (here.0 ∙ long) in
        subst (λ (x : Ref). IsInitialDomain l t u x) here.1 (subst (λ (n : ℕ). IsInitialDomain l t (variable n) r) number is)
  ];
}

-- the first i domains, all pinned
pub record DomainsSo (l : LayoutState) (p : Problem) (old now : PoolState) (start held : List Ref) (i : ℕ) : Type 0 where
  pub done : AreFirstDomains l p (table now.arena) held
  pub left : LeavesUnits l p old now held
  pub same : held ≡ start
  pub long : length start ≡ i

pub domains_first : (l : LayoutState) (p : Problem) (s : PoolState) (start held : List Ref) → PinnedAreLive s → IsReduced (table s.arena) → start ≡ [] → held ≡ [] → DomainsSo l p s s start held 0
domains_first l p s start held pinned ok f e = subst (λ (xs : List Ref). DomainsSo l p s s xs held 0) (sym f) (subst (λ (hs : List Ref). DomainsSo l p s s [] hs 0) (sym e) (record {
  done = record { few = omega arith; each = λ v r none. absurd (cc) };
  left = units_self l p s pinned ok;
  same = refl;
  long = refl;
}))

-- what is known of the pins that are held
pub record DomainsHeld (l : LayoutState) (p : Problem) (old now : PoolState) (held : List Ref) : Type 0 where
  pub done : AreFirstDomains l p (table now.arena) held
  pub left : LeavesUnits l p old now held

pub domains_refused : (l : LayoutState) (p : Problem) (old a b : PoolState) (start held after : List Ref) (i : ℕ) → DomainsSo l p old a start held i → AddsHeld l p a b held after [] → DomainsHeld l p old b after
domains_refused l p old a b start held after i so more =
    subst (DomainsHeld l p old b) (sym (more.held ∙ append-nil held)) (record {
      done = first_domains_same l p (table a.arena) (table b.arena) held (keeps_first l p a b held [] more.left (held_after old a [] held so.left.pins (held_none old))) so.done;
      left = subst (LeavesUnits l p old b) (append-nil held) (units_next l p old a b held [] so.left more.left);
    })

pub domains_more : (l : LayoutState) (p : Problem) (old a b : PoolState) (start held after : List Ref) (i : ℕ) (v : VarId) (r : Ref) → DomainsSo l p old a start held i → i < length p.kinds → v.0 ≡ i → IsInitialDomain l (table b.arena) v r
    → AddsHeld l p a b held after (r ∷ []) → DomainsHeld l p old b after
domains_more l p old a b start held after i v r so within number is more =
    let long : length held ≡ v.0 = ap length so.same ∙ so.long ∙ sym number in
    let inside : v.0 < length p.kinds = omega (arith, number, within) in
    subst (DomainsHeld l p old b) (sym more.held) (record {
      done = first_domains_push l p (table b.arena) held v r
          (first_domains_same l p (table a.arena) (table b.arena) held (keeps_first l p a b held (r ∷ []) more.left (held_after old a [] held so.left.pins (held_none old))) so.done) long inside is;
      left = units_next l p old a b held (r ∷ []) so.left more.left;
    })

pub domains_next : (l : LayoutState) (p : Problem) (old a b : PoolState) (start new held after : List Ref) (i : ℕ) (v : VarId) (r : Ref) → DomainsSo l p old a start held i → i < length p.kinds → v.0 ≡ i → IsInitialDomain l (table b.arena) v r
    → AddsHeld l p a b held after (r ∷ []) → new ≡ start ++ r ∷ [] → DomainsSo l p old b new after (i + 1)
domains_next l p old a b start new held after i v r so within number is more pushed =
    let held_now = domains_more l p old a b start held after i v r so within number is more in record {
      done = held_now.done;
      left = held_now.left;
      same = more.held ∙ ap (λ rs. rs ++ r ∷ []) so.same ∙ sym pushed;
      long = let e = ap length pushed in let app = length-append start (r ∷ []) in let before = so.long in omega (arith, e, app, before);
    }

pub domains_end : (l : LayoutState) (p : Problem) (t : Table) (start : List Ref) → l.kinds ≡ p.kinds → length start ≡ length p.kinds → AreFirstDomains l p t start → AreInitialDomains l t start
domains_end l p t start same long are = record { long = long ∙ ap length (sym same); each = are.each }

-- ---- the constraints

-- the first i constraints, all pinned
pub record ConstraintsSo (l : LayoutState) (p : Problem) (old now : PoolState) (start held : List Ref) (scopes : List (List VarId)) (diagrams : List Ref) (i : ℕ) : Type 0 where
  pub first : AreFirstDomains l p (table now.arena) start
  pub scoped : AllZip IsScope (take i p.constraints) scopes
  pub done : AllZip (IsDiagramOfConstraint l (table now.arena)) (take i p.constraints) diagrams
  pub left : LeavesUnits l p old now diagrams
  pub all : held ≡ start ++ diagrams
  pub start_held : AreHeld old start

no_constraints : (l : LayoutState) (p : Problem) (s : PoolState) (start held : List Ref) → PinnedAreLive s → IsReduced (table s.arena) → AreFirstDomains l p (table s.arena) start → AreHeld s start → held ≡ start → ConstraintsSo l p s s start held [] [] 0
no_constraints l p s start held pinned ok are kept e = record {
  first = are;
  scoped = tt;
  done = tt;
  left = units_self l p s pinned ok;
  all = e ∙ sym (append-nil start);
  start_held = kept;
}

pub constraints_first : (l : LayoutState) (p : Problem) (s : PoolState) (start held : List Ref) (scopes : List (List VarId)) (diagrams : List Ref) → PinnedAreLive s → IsReduced (table s.arena) → scopes ≡ [] → diagrams ≡ [] → AreFirstDomains l p (table s.arena) start
    → AreHeld s start → held ≡ start → ConstraintsSo l p s s start held scopes diagrams 0
constraints_first l p s start held scopes diagrams pinned ok f g are kept e =
    subst (λ (xs : List (List VarId)). ConstraintsSo l p s s start held xs diagrams 0) (sym f) (subst (λ (rs : List Ref). ConstraintsSo l p s s start held [] rs 0) (sym g) (no_constraints l p s start held pinned ok are kept e))

diagrams_same : (l : LayoutState) (t u : Table) (cs : List Constraint) (rs : List Ref) → MeansTheSame t u rs → AllZip (IsDiagramOfConstraint l t) cs rs → AllZip (IsDiagramOfConstraint l u) cs rs
diagrams_same l t u cs rs means is =
    all_zip_moves (IsDiagramOfConstraint l t) (IsDiagramOfConstraint l u) cs rs (λ c r h d. let m = means r h in diagram_same l (variables_of c) (Holds c) t u r m.0 m.1 d) is

-- what was made before one more unit means what it meant
module _ (l : LayoutState) (p : Problem) (old a b : PoolState) (start held : List Ref) (scopes : List (List VarId)) (diagrams : List Ref) (i : ℕ) (rs : List Ref) (so : ConstraintsSo l p old a start held scopes diagrams i) (more : LeavesUnits l p a b rs) where
  all_mean : MeansTheSame (table a.arena) (table b.arena) (start ++ diagrams)
  all_mean = keeps_first l p a b (start ++ diagrams) rs more (held_first l p old a start diagrams so.left so.start_held)

  start_means : AreFirstDomains l p (table b.arena) start
  start_means = first_domains_same l p (table a.arena) (table b.arena) start (λ r h. all_mean r (Contains-append_left start diagrams r h)) so.first

  diagrams_mean : AllZip (IsDiagramOfConstraint l (table b.arena)) (take i p.constraints) diagrams
  diagrams_mean = diagrams_same l (table a.arena) (table b.arena) (take i p.constraints) diagrams (λ r h. all_mean r (Contains-append_right start diagrams r h)) so.done

counted : (l : LayoutState) (t : Table) (cs : List Constraint) (rs : List Ref) (i : ℕ) → i ≤ length cs → AllZip (IsDiagramOfConstraint l t) (take i cs) rs → AllZip (IsDiagramOfConstraint l t) (take (length rs) cs) rs
counted l t cs rs i within is =
    let long : length rs ≡ length (take i cs) = AllZip-long (IsDiagramOfConstraint l t) (take i cs) rs is in
    let front = length-take i cs in
    let number : i ≡ length rs = omega (arith, long, front, within) in
    subst (λ (n : ℕ). AllZip (IsDiagramOfConstraint l t) (take n cs) rs) number is

pub constraints_held : (l : LayoutState) (p : Problem) (old now : PoolState) (start held : List Ref) (scopes : List (List VarId)) (diagrams : List Ref) (i : ℕ) → i ≤ length p.constraints → ConstraintsSo l p old now start held scopes diagrams i
    → HoldsConstraints l p old now start held
constraints_held l p old now start held scopes diagrams i within so = record {
  diagrams = diagrams;
  done = record { variables = so.first.few; each = so.first.each; constraints = counted l (table now.arena) p.constraints diagrams i within so.done };
  left = so.left;
  all = so.all;
}

pub constraints_refused : (l : LayoutState) (p : Problem) (old a b : PoolState) (start held after : List Ref) (scopes : List (List VarId)) (diagrams : List Ref) (i : ℕ) → i ≤ length p.constraints → ConstraintsSo l p old a start held scopes diagrams i
    → AddsHeld l p a b held after [] → HoldsConstraints l p old b start after
constraints_refused l p old a b start held after scopes diagrams i within so more = record {
  diagrams = diagrams;
  done = record {
    variables = so.first.few;
    each = (start_means l p old a b start held scopes diagrams i [] so more.left).each;
    constraints = counted l (table b.arena) p.constraints diagrams i within (diagrams_mean l p old a b start held scopes diagrams i [] so more.left);
  };
  left = subst (LeavesUnits l p old b) (append-nil diagrams) (units_next l p old a b diagrams [] so.left more.left);
  all = more.held ∙ append-nil held ∙ so.all;
}

more_diagrams : (l : LayoutState) (p : Problem) (old a b : PoolState) (start held : List Ref) (scopes : List (List VarId)) (diagrams : List Ref) (i : ℕ) (c : Constraint) (r : Ref) → i < length p.constraints → c ≡ get_or p.constraints i c
    → ConstraintsSo l p old a start held scopes diagrams i → LeavesUnits l p a b (r ∷ []) → IsDiagramOfConstraint l (table b.arena) c r
    → AllZip (IsDiagramOfConstraint l (table b.arena)) (take (i + 1) p.constraints) (diagrams ++ r ∷ [])
more_diagrams l p old a b start held scopes diagrams i c r within at so more is =
    all_zip_next (IsDiagramOfConstraint l (table b.arena)) p.constraints diagrams (diagrams ++ r ∷ []) i c r within refl
    (diagrams_mean l p old a b start held scopes diagrams i (r ∷ []) so more) (subst (λ (x : Constraint). IsDiagramOfConstraint l (table b.arena) x r) at is)

pub constraints_more : (l : LayoutState) (p : Problem) (old a b : PoolState) (start held after : List Ref) (scopes : List (List VarId)) (diagrams : List Ref) (i : ℕ) (c : Constraint) (r : Ref) → i < length p.constraints → c ≡ get_or p.constraints i c
    → ConstraintsSo l p old a start held scopes diagrams i → IsDiagramOfConstraint l (table b.arena) c r → AddsHeld l p a b held after (r ∷ []) → HoldsConstraints l p old b start after
constraints_more l p old a b start held after scopes diagrams i c r within at so is more = record {
  diagrams = diagrams ++ r ∷ [];
  done = record {
    variables = so.first.few;
    each = (start_means l p old a b start held scopes diagrams i (r ∷ []) so more.left).each;
    constraints = counted l (table b.arena) p.constraints (diagrams ++ r ∷ []) (i + 1) (omega (arith, within)) (more_diagrams l p old a b start held scopes diagrams i c r within at so more.left is);
  };
  left = units_next l p old a b diagrams (r ∷ []) so.left more.left;
  all = more.held ∙ ap (λ rs. rs ++ r ∷ []) so.all ∙ append_assoc start diagrams (r ∷ []);
}

pub constraints_next : (l : LayoutState) (p : Problem) (old a b : PoolState) (start held after : List Ref) (scopes new_scopes : List (List VarId)) (diagrams new : List Ref) (i : ℕ) (c : Constraint) (scope : List VarId) (r : Ref) → i < length p.constraints
    → c ≡ get_or p.constraints i c → ConstraintsSo l p old a start held scopes diagrams i → IsScope c scope → IsDiagramOfConstraint l (table b.arena) c r → AddsHeld l p a b held after (r ∷ []) → new_scopes ≡ scopes ++ scope ∷ [] → new ≡ diagrams ++ r ∷ []
    → ConstraintsSo l p old b start after new_scopes new (i + 1)
constraints_next l p old a b start held after scopes new_scopes diagrams new i c scope r within at so is_scope is more pushed_scope pushed = record {
  first = start_means l p old a b start held scopes diagrams i (r ∷ []) so more.left;
  scoped = all_zip_next IsScope p.constraints scopes new_scopes i c scope within pushed_scope so.scoped (subst (λ (x : Constraint). IsScope x scope) at is_scope);
  done = subst (AllZip (IsDiagramOfConstraint l (table b.arena)) (take (i + 1) p.constraints)) (sym pushed) (more_diagrams l p old a b start held scopes diagrams i c r within at so more.left is);
  left = subst (LeavesUnits l p old b) (sym pushed) (units_next l p old a b diagrams (r ∷ []) so.left more.left);
  all = more.held ∙ ap (λ rs. rs ++ r ∷ []) so.all ∙ append_assoc start diagrams (r ∷ []) ∙ ap (λ rs. start ++ rs) (sym pushed);
  start_held = so.start_held;
}

-- ---- all units

pub domains_units : (l : LayoutState) (p : Problem) (old now : PoolState) (held : List Ref) → AreFirstDomains l p (table now.arena) held → LeavesUnits l p old now held → HoldsUnits l p old now held
domains_units l p old now held are left = record {
  domains = held;
  diagrams = [];
  done = record { variables = are.few; each = are.each; constraints = tt };
  left = left;
  all = sym (append-nil held);
}

pub constraints_units : (l : LayoutState) (p : Problem) (old mid now : PoolState) (start held : List Ref) → LeavesUnits l p old mid start → HoldsConstraints l p mid now start held → HoldsUnits l p old now held
constraints_units l p old mid now start held first second = record {
  domains = start;
  diagrams = second.diagrams;
  done = second.done;
  left = subst (LeavesUnits l p old now) (sym second.all) (units_next l p old mid now start second.diagrams first second.left);
  all = second.all;
}

pub compiled_start : (l : LayoutState) (p : Problem) (t : Table) (slice start diagrams : List Ref) → slice ≡ start → l.kinds ≡ p.kinds → length start ≡ length p.kinds → AreDone l p t slice diagrams → AreInitialDomains l t start
compiled_start l p t slice start diagrams e same long done = record {
  long = long ∙ ap length (sym same);
  each = subst (λ (rs : List Ref). (v : VarId) (r : Ref) → slice_get rs v.0 ≡ Some r → IsInitialDomain l t v r) e done.each;
}

pub on_err : {X E : Type 0} (r : Result X E) (P : Type 0) → P → OnErr r P
on_err (Ok x) P h = tt
on_err (Err e) P h = h

-- a unit that was tried again, whatever came of it
pub held_again : (l : LayoutState) (p : Problem) (old a b new : PoolState) (before mid after : List Ref) (result : Result Ref Stop) → AddsHeld l p old a before mid [] → Collects a b
    → IfOk result (λ r. AddsHeld l p b new mid after (r ∷ [])) → IfOk result (λ r. AddsHeld l p old new before after (r ∷ []))
held_again l p old a b new before mid after (Ok r) first swept h = adds_again l p old a b new before mid after (r ∷ []) first swept h
held_again l p old a b new before mid after (Err e) first swept h = tt

pub refused_again : (l : LayoutState) (p : Problem) (old a b new : PoolState) (before mid after : List Ref) (result : Result Ref Stop) → AddsHeld l p old a before mid [] → Collects a b
    → OnErr result (AddsHeld l p b new mid after []) → OnErr result (AddsHeld l p old new before after [])
refused_again l p old a b new before mid after (Ok r) first swept h = tt
refused_again l p old a b new before mid after (Err e) first swept h = adds_again l p old a b new before mid after [] first swept h
