-- The step of a constraint, told by the rules.
use Rattle.std.proofs.Common.{◌≡◌, ℕ, ◌<◌, Bool, true, List, [], ◌∷◌, length, sym, ◌∙◌, subst, inl, inr, Contains}
use Rattle.std.specs.Ordering.{nat_cmp}
use Rattle.std.specs.declared.cmp.Ordering.{Ordering}
use Rattle.std.specs.declared.cmp.Ordering.TheVariants.{Less, Equal}
use Rattle.std.specs.Cmp.{nat_cmp_total, tied_itself}
use Rattle.std.specs.List.Sorted.{IsStrictlySortedBy}
use Rattle.std.proofs.lemmas.Bool.{both_ways}
use Rattle.std.proofs.lemmas.Map.Keys.{sorted_tail}
use Rattle.std.proofs.lemmas.Map.Views.{All-after_first}
use Rattle.std.proofs.lemmas.List.Elements.{All-contains}
use Rattle.set_meaning.specs.declared.kinds.Value.{Value}
use Rattle.set_meaning.specs.declared.problems.VarId.{VarId}
use Rattle.set_meaning.specs.declared.problems.ConId.{ConId}
use Rattle.set_meaning.specs.declared.problems.Constraint.{Constraint}
use Rattle.set_meaning.specs.declared.problems.Problem.{Problem}
use Rattle.set_meaning.specs.Relations.{Holds}
use Rattle.bit_layout.specs.Order.{LayoutState, IsLayout}
use Rattle.bit_layout.proofs.Rising.{nothing_in_empty, in_cons, in_head, in_tail}
use Rattle.diagram_arena.specs.declared.nodes.Ref.{Ref}
use Rattle.diagram_arena.specs.Table.{Table}
use Rattle.diagram_arena.specs.Arena.{Grows}
use Rattle.node_reclaim.specs.Growth.{NewAre}
use Rattle.search_rules.specs.Family.{put}
use Rattle.search_rules.specs.Problem as rules
use Rattle.search_rules.specs.Trail.{IsPart}
use Rattle.search_rules.proofs.FamilyLemmas.{put-same, put-other}
use Rattle.search_rules.proofs.StepLemmas.{extends_in, extends_narrowed, extends_before}
use Rattle.exact_steps.specs.declared.steps.StepResult.{StepResult}
use Rattle.exact_steps.specs.declared.steps.StepResult.TheVariants as step
use Rattle.exact_steps.specs.Domains.{variable, values_in, AreDomains, family}
use Rattle.exact_steps.specs.Steps.{IsStepOf, IsSatisfiable, AreNarrowed, narrowed_in}
use Rattle.exact_steps.specs.Rules.{IsConstraintOf}
use Rattle.exact_steps.specs.Parts.{NewAreWanted}
use Rattle.exact_steps.proofs.Constraints.{family_grows, rule_extends, rule_violated, rule_narrowed, rule_satisfiable, rule_left}
use Rattle.problem_rules.specs.Posed.{problem_of}
use Rattle.problem_rules.proofs.Variables.{constraint_here}
use Rattle.propagators.specs.Compiled.{CompiledState, IsCompiled, IsConstraintAt}
use Rattle.domain_trail.specs.declared.entries.Reason.TheVariants as why
use Rattle.box_clauses.specs.declared.store.StoredBox.{StoredBox}
use Rattle.running_boxes.specs.declared.beginning.Conflict.TheVariants as conflict
use Rattle.propagation.specs.Quiet.{IsQuietAt}
use Rattle.propagation.specs.Nodes.{IsOfUnit}
use Rattle.propagation.specs.Work.{CanPut, AreNarrowings, put_all, IsAnswerOf}
use Rattle.propagation.specs.Laws.{BoxLaws}
use Rattle.propagation.proofs.Narrowings.{others_stay}
use Rattle.propagation.proofs.Settling.{support_stays, left_after, member_cases, IsThere, there}

-- ---- the narrowings of one step

abbrev above : VarId → VarId → Ordering
above v w = nat_cmp v.0 w.0

module _ (p : Problem) (l : LayoutState) (u : Table) (stored : List StoredBox) (c : ConId) where
  -- each may be put
  abbrev pub AllCan : (ℕ → Value → Bool) → List (VarId × Ref) → Type 0
  AllCan f [] = Unit {0}
  AllCan f ((v, r) ∷ kept) = CanPut p l u stored (why.Constraint c) f v r × AllCan f kept

  -- once that of another variable is
  can_still : (f : ℕ → Value → Bool) (v w : VarId) (r s : Ref) → (w.0 ≡ v.0 → ⊥) → CanPut p l u stored (why.Constraint c) f v r → CanPut p l u stored (why.Constraint c) f w s
      → CanPut p l u stored (why.Constraint c) (put f v.0 (values_in l u v r)) w s
  can_still f v w r s apart first other = record {
    known = other.known;
    domain = other.domain;
    part = subst (λ (z : Value → Bool). IsPart (values_in l u w s) z) (sym (put-other f v.0 (values_in l u v r) w.0 apart)) other.part;
    made = (
      other.made.0,
      record {
        scoped = other.made.1.scoped;
        sound = λ x h. extends_narrowed first.made.1 (other.made.1.sound x h);
        whole = λ x e. other.made.1.whole x (extends_before first.made.1 e);
      },
    );
  }

  all_still : (f : ℕ → Value → Bool) (v : VarId) (r : Ref) (kept : List (VarId × Ref)) → ((w : VarId) → Contains (narrowed_in kept) w → w.0 ≡ v.0 → ⊥) → CanPut p l u stored (why.Constraint c) f v r → AllCan f kept
      → AllCan (put f v.0 (values_in l u v r)) kept
  all_still f v r [] apart first h = tt
  all_still f v r ((w, s) ∷ kept) apart first h = (
    can_still f v w r s (apart w (in_head w (narrowed_in kept))) first h.0,
    all_still f v r kept (λ z m. apart z (in_tail w (narrowed_in kept) z m)) first h.1,
  )

  later_apart : (v : VarId) (vs : List VarId) → IsStrictlySortedBy above (v ∷ vs) → (w : VarId) → Contains vs w → w.0 ≡ v.0 → ⊥
  later_apart v vs up w h same =
      let less : nat_cmp v.0 w.0 ≡ Less = All-contains (λ (z : VarId). above v z ≡ Less) vs w (All-after_first above v vs up) h in
      let there : nat_cmp v.0 v.0 ≡ Less = subst (λ n. nat_cmp v.0 n ≡ Less) same less in
      let both : Less ≡ Equal = sym there ∙ tied_itself nat_cmp_total v.0 in cc

  pub in_turn : (kept : List (VarId × Ref)) (f : ℕ → Value → Bool) → IsStrictlySortedBy above (narrowed_in kept) → AllCan f kept → AreNarrowings p l u stored (why.Constraint c) f kept
  in_turn [] f up h = tt
  in_turn ((v, r) ∷ kept) f up h = (
    h.0,
    in_turn kept (put f v.0 (values_in l u v r)) (sorted_tail above v (narrowed_in kept) up)
        (all_still f v r kept (later_apart v (narrowed_in kept) up) h.0 h.1),
  )

-- a variable of the list has one of the sets that the list gives it
put_at : (l : LayoutState) (u : Table) (kept : List (VarId × Ref)) (f : ℕ → Value → Bool) (w : VarId) → Contains (narrowed_in kept) w
    → (r : Ref) × Contains {X = VarId × Ref} kept (w, r) × (put_all l u kept f w.0 ≡ values_in l u w r)
put_at l u [] f w h = absurd (nothing_in_empty w h)
put_at l u ((v, r) ∷ kept) f w h = elim (member_cases (narrowed_in kept) w) [
  | inl later ↦
      let rest = put_at l u kept (put f v.0 (values_in l u v r)) w later in
      (rest.0, in_tail (v, r) kept (w, rest.0) rest.1, rest.2)
  | inr none ↦ elim (in_cons v (narrowed_in kept) w h) [
    | inr later ↦ absurd (none later)
    | inl here ↦ (
      r,
      subst (λ (z : VarId). Contains {X = VarId × Ref} ((v, r) ∷ kept) (z, r)) here (in_head (v, r) kept),
      others_stay l u kept (put f v.0 (values_in l u v r)) w.0 none
          ∙ subst (λ (z : VarId). put f v.0 (values_in l u v r) z.0 ≡ values_in l u z r) here (put-same f v.0 (values_in l u v r)),
    )
  ]
]

-- ---- the step of a compiled constraint

module _ (p : Problem) (l : LayoutState) (t u : Table) (k : CompiledState) (stored : List StoredBox) (c : ConId) (domains : List Ref) (ok : IsLayout l) (known : c.0 < length p.constraints)
    (is : IsCompiled l p t k) (are : AreDomains l t domains) (grows : Grows t u) where
  abbrev pub e : IsThere l p t k c.0
  e = there l p t k c.0 is known

  abbrev con : Constraint
  con = e.constraint

  abbrev f : ℕ → Value → Bool
  f = family l t domains

  rule : IsConstraintOf (problem_of p) c.0 l e.scope (Holds con)
  rule = constraint_here p l c.0 con e.scope is.legal is.kinds e.at e.entry_is.is_scope

  same : family l u domains ≡ f
  same = family_grows l t u domains grows are

  quiet : IsStepOf l e.scope (Holds con) f u step.Same → IsQuietAt p f c.0
  quiet h =
      let some = rule_satisfiable (problem_of p) c.0 l e.scope (Holds con) t t e.diagram domains ok e.entry_is.known e.entry_is.diagram are rule h.0 in
      record {
        stays = rule_left (problem_of p) c.0 l e.scope (Holds con) t t e.diagram domains ok e.entry_is.known e.entry_is.diagram are rule h.1;
        values = some.0;
        inside = some.1;
        holds = some.2;
      }

  can : (v : VarId) (r : Ref) (kept : List (VarId × Ref)) → AreNarrowed l e.scope (Holds con) f u kept → Contains {X = VarId × Ref} kept (v, r)
      → CanPut p l u stored (why.Constraint c) f v r
  can v r kept narrowed h =
      let n = narrowed.each v r h in
      record {
        known = All-contains (λ (v : VarId). v.0 < length l.kinds) e.scope v e.entry_is.known n.scoped;
        domain = n.domain;
        part = n.part;
        made = (known, rule_narrowed (problem_of p) c.0 l e.scope (Holds con) t t e.diagram domains ok e.entry_is.known e.entry_is.diagram are rule u v r n);
      }

  all_can : (part : List (VarId × Ref)) → ((v : VarId) (r : Ref) → Contains {X = VarId × Ref} part (v, r) → CanPut p l u stored (why.Constraint c) f v r) → AllCan p l u stored c f part
  all_can [] h = tt
  all_can ((v, r) ∷ part) h = (h v r (in_head (v, r) part), all_can part (λ w s i. h w s (in_tail (v, r) part (w, s) i)))

  was_put : (kept : List (VarId × Ref)) → AreNarrowed l e.scope (Holds con) f u kept → (v : ℕ) → Contains (narrowed_in kept) (variable v)
      → rules.IsNarrowed (problem_of p) c.0 f v (put_all l u kept f v)
  was_put kept narrowed v there =
      let at = put_at l u kept f (variable v) there in
      subst (rules.IsNarrowed (problem_of p) c.0 f v) (sym at.2) (can (variable v) at.0 kept narrowed at.1).made.1

  unchanged : (kept : List (VarId × Ref)) (v : ℕ) → (Contains (narrowed_in kept) (variable v) → ⊥) → put_all l u kept f v ≡ f v
  unchanged kept v none = others_stay l u kept f v none

  exact : (kept : List (VarId × Ref)) → AreNarrowed l e.scope (Holds con) f u kept → rules.IsExactStep (problem_of p) c.0 f (put_all l u kept f)
  exact kept narrowed = record {
    sound = λ v x scoped has. elim (member_cases (narrowed_in kept) (variable v)) [
      | inl there ↦ (was_put kept narrowed v there).sound x has
      | inr none ↦ rule_extends (problem_of p) c.0 l e.scope (Holds con) t t e.diagram domains ok e.entry_is.known e.entry_is.diagram are rule v x
          (narrowed.others (variable v) ((rule.scoped v).0 scoped) none x (subst (λ (s : Value → Bool). s x ≡ true) (unchanged kept v none) has))
    ];
    whole = λ v x extends. elim (member_cases (narrowed_in kept) (variable v)) [
      | inl there ↦ (was_put kept narrowed v there).whole x extends
      | inr none ↦ subst (λ (s : Value → Bool). s x ≡ true) (sym (unchanged kept v none)) (extends_in extends)
    ];
    others = λ v out. unchanged kept v (λ there. both_ways ((problem_of p).scope c.0 v) out (was_put kept narrowed v there).scoped);
  }

  settles : (kept : List (VarId × Ref)) → IsSatisfiable l e.scope (Holds con) f → AreNarrowed l e.scope (Holds con) f u kept → IsQuietAt p (put_all l u kept f) c.0
  settles kept satisfiable narrowed =
      let some = rule_satisfiable (problem_of p) c.0 l e.scope (Holds con) t t e.diagram domains ok e.entry_is.known e.entry_is.diagram are rule satisfiable in
      record {
        stays = left_after (problem_of p) c.0 f (put_all l u kept f) (exact kept narrowed);
        values = some.0;
        inside = support_stays (problem_of p) c.0 f (put_all l u kept f) (exact kept narrowed) some.0 some.1 some.2;
        holds = some.2;
      }

  answer_at_f : (laws : BoxLaws) (o : StepResult) → IsStepOf l e.scope (Holds con) f u o → IsAnswerOf p l u stored f (conflict.Constraint c) o
  answer_at_f laws step.Same h = quiet h
  answer_at_f laws (step.Narrowed kept) h = (
    h.1,
    in_turn p l u stored c kept.items f h.2.ascending (all_can kept.items (λ v r m. can v r kept.items h.2 m)),
    settles kept.items h.0 h.2,
  )
  answer_at_f laws step.Empty h = laws.of_constraint p l u stored c f known
      (rule_violated (problem_of p) c.0 l e.scope (Holds con) t t e.diagram domains ok e.entry_is.known e.entry_is.diagram are rule h)

  pub constraint_at : IsConstraintAt l t k c con e.scope
  constraint_at = record { problem = p; compiled = is; at = e.at; scope_at = e.scope_at }

  module _ (lent : List Ref) (is_lent : lent ≡ domains) where
    pub constraint_answer : (laws : BoxLaws) (o : StepResult) → IsStepOf l e.scope (Holds con) (family l t lent) u o → IsAnswerOf p l u stored (family l u domains) (conflict.Constraint c) o
    constraint_answer laws o answer =
        subst (λ g. IsAnswerOf p l u stored g (conflict.Constraint c) o) (sym same)
        (answer_at_f laws o (subst (λ ds. IsStepOf l e.scope (Holds con) (family l t ds) u o) is_lent answer))

    pub constraint_news : NewAreWanted l e.scope (Holds con) (family l t lent) t u → NewAre t u (IsOfUnit p l t stored f (conflict.Constraint c))
    constraint_news parts i none live = record {
      constraint = con;
      at = e.at;
      scope = e.scope;
      is_scope = e.entry_is.is_scope;
      wanted = subst (λ ds. NewAreWanted l e.scope (Holds con) (family l t ds) t u) is_lent parts i none live;
    }
