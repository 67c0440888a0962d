-- What the step of a constraint does to domains on the way to the root family.
use Rattle.std.proofs.Common.{◌≡◌, ◌≢◌, ℕ, suc, ◌<◌, ◌≤◌, Bool, true, false, List, [], ◌∷◌, length, get_or, Some, refl, sym, ap, ◌∙◌, subst, inl, inr, arith, Contains}
use Rattle.std.specs.Prelude.{Vec, slice_get, slice_set}
use Rattle.std.specs.declared.alloc.Global.{Global}
use Rattle.std.specs.List.{All, AllZip}
use Rattle.std.specs.Option.{option_map_or}
use Rattle.std.proofs.lemmas.Bool.{both_ways}
use Rattle.std.proofs.lemmas.Option.{slice_get-get_or}
use Rattle.std.proofs.lemmas.List.Elements.{All-contains, All-cons, Contains-get_or}
use Rattle.set_meaning.specs.declared.kinds.Value.{Value}
use Rattle.set_meaning.specs.declared.problems.VarId.{VarId}
use Rattle.set_meaning.specs.declared.problems.ConId.{ConId}
use Rattle.set_meaning.specs.declared.problems.Constraint.{Constraint}
use Rattle.set_meaning.specs.declared.problems.Problem.{Problem}
use Rattle.set_meaning.specs.Relations.{Holds, IsScope}
use Rattle.bit_layout.specs.Order.{LayoutState, IsLayout}
use Rattle.bit_layout.proofs.Rising.{in_head, in_tail}
use Rattle.diagram_arena.specs.declared.nodes.Ref.{Ref}
use Rattle.diagram_arena.specs.declared.nodes.Ref.TheVariants.{Zero}
use Rattle.diagram_arena.specs.Table.{Table, IsLive}
use Rattle.diagram_arena.specs.Arena.{Grows}
use Rattle.search_rules.specs.Family.{AllLie, put}
use Rattle.search_rules.specs.Problem as rules
use Rattle.search_rules.specs.Problem.Steps.{next}
use Rattle.search_rules.specs.Trail.{IsPart}
use Rattle.search_rules.specs.Measure.{size_in, total}
use Rattle.search_rules.proofs.FamilyLemmas.{put-same}
use Rattle.search_rules.proofs.StepLemmas.{extends_in, narrowed_is_part, extends_narrowed, extends_before, violated_root, steps_smaller}
use Rattle.search_rules.proofs.MeasureLemmas.{size_strict, sum_strict, total_mono}
use Rattle.exact_steps.specs.declared.steps.StepResult.{StepResult}
use Rattle.exact_steps.specs.declared.steps.StepResult.TheVariants as step
use Rattle.exact_steps.specs.Domains.{variable, values_in, IsDomain, AreDomains, family}
use Rattle.exact_steps.specs.Steps.{IsStepOf, IsSatisfiable, AreNarrowed, narrowed_in}
use Rattle.exact_steps.specs.Rules.{IsConstraintOf}
use Rattle.exact_steps.specs.Parts.{NewAreWanted}
use Rattle.node_reclaim.specs.Growth.{NewAre}
use Rattle.exact_steps.proofs.Wanted.{domains_grow, family_at}
use Rattle.exact_steps.proofs.Constraints.{family_grows, rule_extends, rule_violated, rule_narrowed, rule_satisfiable, rule_left}
use Rattle.exact_steps.proofs.Replacing.{domains_replaced, family_replaced}
use Rattle.problem_rules.specs.Posed.{problem_of}
use Rattle.problem_rules.proofs.Variables.{constraint_here}
use Rattle.propagators.specs.Compiled.{CompiledState, IsCompiled, IsConstraintAt}
use Rattle.propagators.proofs.Scopes.{IsEntry, entry}
use Rattle.propagators.proofs.Moving.{listed_at}
use Rattle.learn_search.specs.declared.narrowing.Taken.TheVariants as taken
use Rattle.learn_search.specs.Nodes.{IsOfRoot}
use Rattle.learn_search.specs.Nodes.IsOfRoot.{of_step}
use Rattle.learn_search.specs.Way.{IsOnWay, left, IsQuietAt, IsNarrowing, IsTaken, put_each}
use Rattle.learn_search.proofs.Settling.{support_stays, left_after, member_cases, put_each-others, put_each-at}

-- ---- tables that grow

grows_itself : (t : Table) → Grows t t
grows_itself t = record { kept = λ i n h. h; live = λ r h. h; depths = λ r h. refl; words = λ r h w. refl }

pub way_grows : (p : Problem) (l : LayoutState) (t u : Table) (domains : List Ref) → Grows t u → IsOnWay p l t domains → IsOnWay p l u domains
way_grows p l t u domains grows way = record {
  domains_are = domains_grow l t u domains grows way.domains_are;
  constraints = way.constraints;
  steps = subst (rules.Steps (problem_of p) (problem_of p).initial way.constraints) (sym (family_grows l t u domains grows way.domains_are)) way.steps;
}

-- ---- the entries of a narrowing

-- each entry narrows its variable in the family f by constraint number c
abbrev pub AreEntries : Problem → LayoutState → Table → ℕ → (ℕ → Value → Bool) → List (VarId × Ref) → Type 0
AreEntries p l u c f [] = Unit {0}
AreEntries p l u c f ((v, r) ∷ kept) =
    (rules.IsNarrowed (problem_of p) c f v.0 (values_in l u v r) × IsDomain l u v r × (v.0 < length l.kinds)) × AreEntries p l u c f kept

module _ (p : Problem) (l : LayoutState) (u : Table) (c : ℕ) where
  narrowed_moves : (f : ℕ → Value → Bool) (v w : ℕ) (s z : Value → Bool) → rules.IsNarrowed (problem_of p) c f v s → rules.IsNarrowed (problem_of p) c f w z
      → rules.IsNarrowed (problem_of p) c (put f v s) w z
  narrowed_moves f v w s z first other = record {
    scoped = other.scoped;
    sound = λ x h. extends_narrowed first (other.sound x h);
    whole = λ x e. other.whole x (extends_before first e);
  }

  entries_move : (f : ℕ → Value → Bool) (v : ℕ) (s : Value → Bool) (kept : List (VarId × Ref)) → rules.IsNarrowed (problem_of p) c f v s → AreEntries p l u c f kept → AreEntries p l u c (put f v s) kept
  entries_move f v s [] first h = tt
  entries_move f v s ((w, r) ∷ kept) first h = ((narrowed_moves f v w.0 s (values_in l u w r) first h.0.0, h.0.1, h.0.2), entries_move f v s kept first h.1)

  within_domains : (domains : List Ref) (v : VarId) → AreDomains l u domains → v.0 < length l.kinds → v.0 < length domains
  within_domains domains v are within = subst (λ n. v.0 < n) (sym are.long) within

  module _ (known : c < length p.constraints) where
    put_one : (domains : List Ref) (v : VarId) (r : Ref) → IsOnWay p l u domains → rules.IsNarrowed (problem_of p) c (family l u domains) v.0 (values_in l u v r) → IsDomain l u v r → v.0 < length l.kinds
        → IsOnWay p l u (slice_set domains v.0 r)
    put_one domains v r way n is within =
        let inside = within_domains domains v way.domains_are within in
        record {
          domains_are = domains_replaced l u u domains v r (grows_itself u) way.domains_are inside is;
          constraints = c ∷ way.constraints;
          steps = subst (rules.Steps (problem_of p) (problem_of p).initial (c ∷ way.constraints)) (sym (family_replaced l u u domains v r (grows_itself u) way.domains_are inside))
              (next way.steps known (narrowed_is_part (problem_of p) c (family l u domains) v.0 (values_in l u v r) n));
        }

    entries_after : (domains : List Ref) (v : VarId) (r : Ref) (kept : List (VarId × Ref)) → IsOnWay p l u domains → AreEntries p l u c (family l u domains) ((v, r) ∷ kept)
        → AreEntries p l u c (family l u (slice_set domains v.0 r)) kept
    entries_after domains v r kept way h =
        subst (λ f. AreEntries p l u c f kept) (sym (family_replaced l u u domains v r (grows_itself u) way.domains_are (within_domains domains v way.domains_are h.0.2)))
        (entries_move (family l u domains) v.0 (values_in l u v r) kept h.0.0 h.1)

    pub put_way : (kept : List (VarId × Ref)) (domains : List Ref) → IsOnWay p l u domains → AreEntries p l u c (family l u domains) kept → IsOnWay p l u (put_each kept domains)
    put_way [] domains way h = way
    put_way ((v, r) ∷ kept) domains way h = put_way kept (slice_set domains v.0 r) (put_one domains v r way h.0.0 h.0.1 h.0.2) (entries_after domains v r kept way h)

    lies_one : (domains : List Ref) (v : VarId) (r : Ref) → IsOnWay p l u domains → rules.IsNarrowed (problem_of p) c (family l u domains) v.0 (values_in l u v r) → v.0 < length l.kinds
        → AllLie (family l u (slice_set domains v.0 r)) (family l u domains)
    lies_one domains v r way n within =
        subst (λ g. AllLie g (family l u domains)) (sym (family_replaced l u u domains v r (grows_itself u) way.domains_are (within_domains domains v way.domains_are within)))
        (narrowed_is_part (problem_of p) c (family l u domains) v.0 (values_in l u v r) n).smaller

    put_lies : (kept : List (VarId × Ref)) (domains : List Ref) → IsOnWay p l u domains → AreEntries p l u c (family l u domains) kept → AllLie (family l u (put_each kept domains)) (family l u domains)
    put_lies [] domains way h = λ v x has. has
    put_lies ((v, r) ∷ kept) domains way h = λ w x has. lies_one domains v r way h.0.0 h.0.2 w x
        (put_lies kept (slice_set domains v.0 r) (put_one domains v r way h.0.0 h.0.1 h.0.2) (entries_after domains v r kept way h) w x has)

    -- the first entry takes a value away
    falls : (domains : List Ref) (v : VarId) (r : Ref) → IsOnWay p l u domains → rules.IsNarrowed (problem_of p) c (family l u domains) v.0 (values_in l u v r) → v.0 < length p.kinds
        → IsPart (values_in l u v r) (family l u domains v.0)
        → total (problem_of p) (put (family l u domains) v.0 (values_in l u v r)) < total (problem_of p) (family l u domains)
    unfolding total
    falls domains v r way n within part =
        let f : ℕ → Value → Bool = family l u domains in
        let s : Value → Bool = values_in l u v r in
        let x : Value = part.proper.0 in
        let has : f v.0 x ≡ true = part.proper.1 in
        let out : s x ≡ false = part.proper.2 in
        let smaller = (narrowed_is_part (problem_of p) c f v.0 s n).smaller in
        let less : size_in s ((problem_of p).values v.0) < size_in (f v.0) ((problem_of p).values v.0) =
        size_strict s (f v.0) x ((problem_of p).values v.0) part.lies has out ((problem_of p).listed v.0 x within (steps_smaller way.steps v.0 x has)) in
        sum_strict (problem_of p) (put f v.0 s) f v.0 (length p.kinds) smaller
        (subst (λ z. size_in z ((problem_of p).values v.0) < size_in (f v.0) ((problem_of p).values v.0)) (sym (put-same f v.0 s)) less) within

    pub put_falls : (v : VarId) (r : Ref) (kept : List (VarId × Ref)) (domains : List Ref) → l.kinds ≡ p.kinds → IsOnWay p l u domains → AreEntries p l u c (family l u domains) ((v, r) ∷ kept)
        → IsPart (values_in l u v r) (family l u domains v.0) → left p l u (put_each ((v, r) ∷ kept) domains) < left p l u domains
    put_falls v r kept domains same way h part =
        let inside = within_domains domains v way.domains_are h.0.2 in
        let after : List Ref = slice_set domains v.0 r in
        let fewer : left p l u (put_each kept after) ≤ left p l u after =
        total_mono (problem_of p) (family l u (put_each kept after)) (family l u after) (put_lies kept after (put_one domains v r way h.0.0 h.0.1 h.0.2) (entries_after domains v r kept way h)) in
        let first : left p l u after < left p l u domains =
        subst (λ g. total (problem_of p) g < left p l u domains) (sym (family_replaced l u u domains v r (grows_itself u) way.domains_are inside))
        (falls domains v r way h.0.0 (subst (λ kinds. v.0 < length kinds) same h.0.2) part) in
        omega (arith, fewer, first)

-- ---- the step of a compiled constraint

pub zip_lengths : {A B : Type 0} (R : A → B → Type 0) (xs : List A) (ys : List B) → AllZip R xs ys → length xs ≡ length ys
zip_lengths R [] [] h = refl
zip_lengths R [] (y ∷ ys) h = absurd h
zip_lengths R (x ∷ xs) [] h = absurd h
zip_lengths R (x ∷ xs) (y ∷ ys) h = ap suc (zip_lengths R xs ys h.1)

-- the scope and the diagram of a constraint of the problem
pub record IsThere (l : LayoutState) (p : Problem) (t : Table) (k : CompiledState) (c : ℕ) : Type 0 where
  pub scope : List VarId
  pub diagram : Ref
  pub constraint : Constraint
  pub scope_at : slice_get k.scopes c ≡ Some scope
  pub at : slice_get p.constraints c ≡ Some constraint
  pub entry_is : IsEntry l t constraint scope diagram

pub there : (l : LayoutState) (p : Problem) (t : Table) (k : CompiledState) (c : ℕ) → IsCompiled l p t k → c < length p.constraints → IsThere l p t k c
there l p t k c is known =
    let scopes = zip_lengths IsScope p.constraints k.scopes is.scopes in
    let diagrams = zip_lengths _ p.constraints k.diagrams is.diagrams in
    let scope_at = slice_get-get_or k.scopes c [] (subst (λ n. c < n) scopes known) in
    let diagram_at = slice_get-get_or k.diagrams c Zero (subst (λ n. c < n) diagrams known) in
    let found = entry l p t k c (get_or k.scopes c []) (get_or k.diagrams c Zero) is scope_at diagram_at in
    record { scope = get_or k.scopes c []; diagram = get_or k.diagrams c Zero; constraint = found.0; scope_at = scope_at; at = found.1; entry_is = found.2 }

pub scopes_long : (l : LayoutState) (p : Problem) (t : Table) (k : CompiledState) (c : ℕ) → IsCompiled l p t k → c < length p.constraints → c < length k.scopes
scopes_long l p t k c is known = subst (λ n. c < n) (zip_lengths IsScope p.constraints k.scopes is.scopes) known

module _ (p : Problem) (l : LayoutState) (t u : Table) (k : CompiledState) (c : ℕ) (domains : List Ref) (ok : IsLayout l) (known : c < length p.constraints)
    (is : IsCompiled l p t k) (way : IsOnWay p l t domains) (grows : Grows t u) (e : IsThere l p t k c) where
  abbrev con : Constraint
  con = e.constraint

  rule : IsConstraintOf (problem_of p) c l e.scope (Holds con)
  rule = constraint_here p l c con e.scope is.legal is.kinds e.at e.entry_is.is_scope

  same : family l u domains ≡ family l t domains
  same = family_grows l t u domains grows way.domains_are

  pub quiet : IsStepOf l e.scope (Holds con) (family l t domains) u step.Same → IsQuietAt p (family l u domains) c
  quiet h =
      let some = rule_satisfiable (problem_of p) c l e.scope (Holds con) t t e.diagram domains ok e.entry_is.known e.entry_is.diagram way.domains_are rule h.0 in
      subst (λ f. IsQuietAt p f c) (sym same) (record {
        stays = rule_left (problem_of p) c l e.scope (Holds con) t t e.diagram domains ok e.entry_is.known e.entry_is.diagram way.domains_are rule h.1;
        values = some.0;
        inside = some.1;
        holds = some.2;
      })

  pub violated : IsStepOf l e.scope (Holds con) (family l t domains) u step.Empty → rules.IsRootRefuted (problem_of p)
  violated h = violated_root (problem_of p) way.constraints c (family l t domains) way.steps known
      (rule_violated (problem_of p) c l e.scope (Holds con) t t e.diagram domains ok e.entry_is.known e.entry_is.diagram way.domains_are rule h)

  entry_of : (v : VarId) (r : Ref) (kept : List (VarId × Ref)) → AreNarrowed l e.scope (Holds con) (family l t domains) u kept → Contains {X = VarId × Ref} kept (v, r)
      → rules.IsNarrowed (problem_of p) c (family l t domains) v.0 (values_in l u v r) × IsDomain l u v r × (v.0 < length l.kinds)
  entry_of v r kept are h =
      let n = are.each v r h in (
        rule_narrowed (problem_of p) c l e.scope (Holds con) t t e.diagram domains ok e.entry_is.known e.entry_is.diagram way.domains_are rule u v r n,
        n.domain,
        All-contains (λ (v : VarId). v.0 < length l.kinds) e.scope v e.entry_is.known n.scoped,
      )

  entries_of : (part : List (VarId × Ref)) → ((v : VarId) (r : Ref) → Contains {X = VarId × Ref} part (v, r)
      → rules.IsNarrowed (problem_of p) c (family l t domains) v.0 (values_in l u v r) × IsDomain l u v r × (v.0 < length l.kinds))
      → AreEntries p l u c (family l t domains) part
  entries_of [] h = tt
  entries_of ((v, r) ∷ part) h = (h v r (in_head (v, r) part), entries_of part (λ w s i. h w s (in_tail (v, r) part (w, s) i)))

  pub entries : (kept : List (VarId × Ref)) → AreNarrowed l e.scope (Holds con) (family l t domains) u kept → AreEntries p l u c (family l u domains) kept
  entries kept are = subst (λ f. AreEntries p l u c f kept) (sym same) (entries_of kept (λ v r h. entry_of v r kept are h))

  way_now : IsOnWay p l u domains
  way_now = way_grows p l t u domains grows way

  pub on_way : (kept : List (VarId × Ref)) → AreNarrowed l e.scope (Holds con) (family l t domains) u kept → IsOnWay p l u (put_each kept domains)
  on_way kept are = put_way p l u c known kept domains way_now (entries kept are)

  pub fewer : (kept : List (VarId × Ref)) → kept ≢ [] → AreNarrowed l e.scope (Holds con) (family l t domains) u kept → left p l u (put_each kept domains) < left p l t domains
  fewer [] some are = absurd (some refl)
  fewer ((v, r) ∷ kept) some are =
      let n = are.each v r (in_head (v, r) kept) in
      let less : left p l u (put_each ((v, r) ∷ kept) domains) < left p l u domains =
      put_falls p l u c known v r kept domains is.kinds way_now (entries ((v, r) ∷ kept) are) (subst (λ f. IsPart (values_in l u v r) (f v.0)) (sym same) n.part) in
      subst (λ f. left p l u (put_each ((v, r) ∷ kept) domains) < total (problem_of p) f) same less

  unchanged : (kept : List (VarId × Ref)) (v : ℕ) → (Contains (narrowed_in kept) (variable v) → ⊥) → family l u (put_each kept domains) v ≡ family l t domains v
  unchanged kept v none = ap (λ o. λ x. option_map_or (λ r. values_in l u (variable v) r x) o true) (put_each-others kept domains v none) ∙ ap (λ (f : ℕ → Value → Bool). f v) same

  -- what was put for a variable of the list
  was_put : (kept : List (VarId × Ref)) → AreNarrowed l e.scope (Holds con) (family l t domains) u kept → (v : ℕ) → Contains (narrowed_in kept) (variable v)
      → rules.IsNarrowed (problem_of p) c (family l t domains) v (family l u (put_each kept domains) v)
  was_put kept are v there =
      let at = put_each-at kept domains (variable v) (λ w r h. subst (λ n. w.0 < n) (sym way.domains_are.long) (entry_of w r kept are h).2) there in
      subst (rules.IsNarrowed (problem_of p) c (family l t domains) v) (sym (family_at l u (put_each kept domains) (variable v) at.0 at.1)) (entry_of (variable v) at.0 kept are at.2).0

  -- the domains that are put are those of the exact step
  exact : (kept : List (VarId × Ref)) → AreNarrowed l e.scope (Holds con) (family l t domains) u kept → rules.IsExactStep (problem_of p) c (family l t domains) (family l u (put_each kept domains))
  exact kept are = record {
    sound = λ v x scoped has. elim (member_cases (narrowed_in kept) (variable v)) [
      | inl there ↦ (was_put kept are v there).sound x has
      | inr none ↦ rule_extends (problem_of p) c l e.scope (Holds con) t t e.diagram domains ok e.entry_is.known e.entry_is.diagram way.domains_are rule v x
          (are.others (variable v) ((rule.scoped v).0 scoped) none x (subst (λ (s : Value → Bool). s x ≡ true) (unchanged kept v none) has))
    ];
    whole = λ v x extends. elim (member_cases (narrowed_in kept) (variable v)) [
      | inl there ↦ (was_put kept are v there).whole x extends
      | inr none ↦ subst (λ (s : Value → Bool). s x ≡ true) (sym (unchanged kept v none)) (extends_in extends)
    ];
    others = λ v out. unchanged kept v (λ there. both_ways ((problem_of p).scope c v) out (was_put kept are v there).scoped);
  }

  -- the constraint itself is quiet then
  settles : (kept : List (VarId × Ref)) → IsSatisfiable l e.scope (Holds con) (family l t domains) → AreNarrowed l e.scope (Holds con) (family l t domains) u kept → IsQuietAt p (family l u (put_each kept domains)) c
  settles kept satisfiable are =
      let some = rule_satisfiable (problem_of p) c l e.scope (Holds con) t t e.diagram domains ok e.entry_is.known e.entry_is.diagram way.domains_are rule satisfiable in
      record {
        stays = left_after (problem_of p) c (family l t domains) (family l u (put_each kept domains)) (exact kept are);
        values = some.0;
        inside = support_stays (problem_of p) c (family l t domains) (family l u (put_each kept domains)) (exact kept are) some.0 some.1 some.2;
        holds = some.2;
      }

  -- each entry names a variable with a domain
  pub within : (kept : List (VarId × Ref)) → AreNarrowed l e.scope (Holds con) (family l t domains) u kept → All (λ (x : VarId × Ref). x.0.0 < length domains) kept
  within kept are = in_all kept (entries kept are)
    where
      in_all : (part : List (VarId × Ref)) → AreEntries p l u c (family l u domains) part → All (λ (x : VarId × Ref). x.0.0 < length domains) part
      in_all [] h = λ i d lt. absurd (let none : i < 0 = lt in omega arith)
      in_all ((v, r) ∷ part) h = All-cons (λ (x : VarId × Ref). x.0.0 < length domains) (v, r) part (within_domains p l u c domains v way_now.domains_are h.0.2) (in_all part h.1)

-- ---- what is answered of the step

module _ (p : Problem) (l : LayoutState) (t u : Table) (k : CompiledState) (c : ConId) (domains : List Ref) (ok : IsLayout l) (known : c.0 < length p.constraints)
    (is : IsCompiled l p t k) (way : IsOnWay p l t domains) (grows : Grows t u) (o : StepResult)
    (lent : List Ref) (is_lent : lent ≡ domains)
    (answer : (con : Constraint) (scope : List VarId) → IsConstraintAt l t k c con scope → IsStepOf l scope (Holds con) (family l t lent) u o) where
  e : IsThere l p t k c.0
  e = there l p t k c.0 is known

  told : IsStepOf l e.scope (Holds e.constraint) (family l t domains) u o
  told = subst (λ ds. IsStepOf l e.scope (Holds e.constraint) (family l t ds) u o) is_lent
      (answer e.constraint e.scope (record { problem = p; compiled = is; at = e.at; scope_at = e.scope_at }))

  told_as : (r : StepResult) → o ≡ r → IsStepOf l e.scope (Holds e.constraint) (family l t domains) u r
  told_as r as_is = subst (IsStepOf l e.scope (Holds e.constraint) (family l t domains) u) as_is told

  pub taken_quiet : o ≡ step.Same → IsTaken p l t u c.0 domains domains taken.Quiet
  taken_quiet as_is = (
    record { same = refl; way = way_now p l t u k c.0 domains ok known is way grows e; values = same p l t u k c.0 domains ok known is way grows e },
    quiet p l t u k c.0 domains ok known is way grows e (told_as step.Same as_is),
  )

  pub taken_violated : (new : List Ref) → o ≡ step.Empty → IsTaken p l t u c.0 domains new taken.Violated
  taken_violated new as_is = violated p l t u k c.0 domains ok known is way grows e (told_as step.Empty as_is)

  pub kept_within : (kept : Vec (VarId × Ref) Global) → o ≡ step.Narrowed kept → All (λ (x : VarId × Ref). x.0.0 < length domains) kept.items
  kept_within kept as_is = within p l t u k c.0 domains ok known is way grows e kept.items (told_as (step.Narrowed kept) as_is).2

  pub kept_live : (kept : Vec (VarId × Ref) Global) → o ≡ step.Narrowed kept → All (λ (x : VarId × Ref). IsLive u x.1) kept.items
  kept_live kept as_is i d within =
      let h = told_as (step.Narrowed kept) as_is in
      (h.2.each (get_or kept.items i d).0 (get_or kept.items i d).1 (Contains-get_or kept.items i d within)).domain.diagram.live

  pub taken_narrowed : (kept : Vec (VarId × Ref) Global) (new : List Ref) → o ≡ step.Narrowed kept → new ≡ put_each kept.items domains → IsTaken p l t u c.0 domains new (taken.Narrowed kept)
  taken_narrowed kept new as_is put_is =
      let h = told_as (step.Narrowed kept) as_is in
      subst (λ new. IsNarrowing p l t u c.0 domains new kept.items) (sym put_is) (record {
        way = on_way p l t u k c.0 domains ok known is way grows e kept.items h.2;
        fewer = fewer p l t u k c.0 domains ok known is way grows e kept.items h.1 h.2;
        quiet = settles p l t u k c.0 domains ok known is way grows e kept.items h.0 h.2;
        live = kept_live kept as_is;
        others = unchanged p l t u k c.0 domains ok known is way grows e kept.items;
      })

-- each new node of a step is wanted for it, whatever came of it
pub news : (p : Problem) (l : LayoutState) (t u : Table) (k : CompiledState) (c : ConId) (domains lent : List Ref) → IsLayout l → c.0 < length p.constraints → IsCompiled l p t k → IsOnWay p l t domains → lent ≡ domains
    → ((con : Constraint) (scope : List VarId) → IsConstraintAt l t k c con scope → NewAreWanted l scope (Holds con) (family l t lent) t u) → NewAre t u (IsOfRoot p)
news p l t u k c domains lent ok known is way is_lent parts i none live =
    let e = there l p t k c.0 is known in
    of_step l ok is.kinds (record {
      constraint = e.constraint;
      listed = listed_at p.constraints c.0 e.constraint e.at;
      scope = e.scope;
      is_scope = e.entry_is.is_scope;
      family = family l t domains;
      taken = way.constraints;
      steps = way.steps;
      wanted = subst (λ ds. NewAreWanted l e.scope (Holds e.constraint) (family l t ds) t u) is_lent
          (parts e.constraint e.scope (record { problem = p; compiled = is; at = e.at; scope_at = e.scope_at })) i none live;
    })
