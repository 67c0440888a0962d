-- From the projections to what the step answers.
use Rattle.std.proofs.Common.{◌≡◌, ◌≢◌, ◌⊎◌, ℕ, ◌<◌, Bool, true, false, List, [], ◌∷◌, length, get_or, arith, Option, Some, sym, ap, ◌∙◌, subst, inl, inr, Contains}
use Rattle.std.specs.Prelude.{slice_get}
use Rattle.std.specs.Option.{option_map_or}
use Rattle.std.specs.List.{All}
use Rattle.std.proofs.Math.Seq.{take-length}
use Rattle.std.proofs.lemmas.Bool.{cases_Bool}
use Rattle.std.proofs.lemmas.Option.{slice_get-get_or}
use Rattle.std.proofs.lemmas.List.Elements.{All-contains}
use Rattle.set_meaning.specs.declared.kinds.Kind.{Kind}
use Rattle.set_meaning.specs.declared.kinds.Value.{Value}
use Rattle.set_meaning.specs.declared.problems.VarId.{VarId}
use Rattle.set_meaning.specs.Kinds.{initial_values}
use Rattle.bit_layout.specs.Order.{LayoutState, IsLayout}
use Rattle.bit_layout.proofs.Rising.{nothing_in_empty, in_cons}
use Rattle.bit_layout.proofs.Finding.{legal_kind}
use Rattle.diagram_arena.specs.declared.nodes.Ref.{Ref}
use Rattle.diagram_arena.specs.declared.nodes.Ref.TheVariants.{Zero}
use Rattle.diagram_arena.specs.Table.{Word, Words, Table, has, IsLive, IsReduced}
use Rattle.diagram_arena.specs.Reach.{among}
use Rattle.diagram_arena.specs.Arena.{table, Grows}
use Rattle.diagram_arena.proofs.Canonical.{canonical}
use Rattle.node_reclaim.specs.Pool.{PoolState}
use Rattle.diagram_ops.specs.Words.{HasNone, HasSome, product_of, IsProjection}
use Rattle.search_rules.specs.Family.{Leaves as Leaving, HasValue}
use Rattle.scope_words.specs.Words.{bits_at, word_of_values, AreWordsOf, IsDiagramOf}
use Rattle.scope_words.proofs.Words.{assignment_given}
use Rattle.exact_steps.specs.declared.steps.StepResult.{StepResult}
use Rattle.exact_steps.specs.declared.steps.StepResult.TheVariants as step
use Rattle.exact_steps.specs.Domains.{variable, AtVariable, is_initial, word_of_value, values_in, AreDomains}
use Rattle.exact_steps.specs.Steps.{Extends, IsViolated, IsSatisfiable, AllExtend, IsNarrowed, narrowed_in, AreNarrowed, IsStepOf}
use Rattle.exact_steps.specs.Parts.{Within, NewAreWanted}
use Rattle.exact_steps.specs.Work.{stated, given, domains_at, NewAreProjected, IsChanged, AreChanged, IsProjecting}
use Rattle.exact_steps.specs.Answers.{IsAnswer}
use Rattle.exact_steps.proofs.Values.{some_and, some_and_from, same_some, same_truth, both_are, both_from, initial_kind, kind_values}
use Rattle.exact_steps.proofs.Sets.{values_sound, values_whole, own_words, extending_words}
use Rattle.exact_steps.proofs.Wanted.{grows_itself, bits_of_one, family_at, family_words}
use Rattle.exact_steps.proofs.Products.{product_words}

-- ---- a value of one test that is not of another

-- a listed value passes P and not Q, or each that passes P passes Q
search_values : (P Q : Value → Bool) (xs : List Value) → ((x : Value) × (P x ≡ true) × (Q x ≡ false)) ⊎ ((x : Value) → Contains xs x → P x ≡ true → Q x ≡ true)
search_values P Q [] = inr (λ x none. absurd (nothing_in_empty x none))
search_values P Q (y ∷ ys) = elim (search_values P Q ys) [
  | inl found ↦ inl found
  | inr all ↦ elim (cases_Bool (P y)) [
    | inl p ↦ elim (cases_Bool (Q y)) [
      | inl q ↦ inr (λ x h is. elim (in_cons y ys x h) [ inl e ↦ subst (λ z. Q z ≡ true) e q | inr later ↦ all x later is ])
      | inr q ↦ inl (y, p, q)
    ]
    | inr p ↦ inr (λ x h is. elim (in_cons y ys x h) [
      | inl e ↦ absurd (let no : false ≡ true = sym (subst (λ z. P z ≡ false) e p) ∙ is in cc)
      | inr later ↦ all x later is
    ])
  ]
]

-- ---- a step's facts

-- the step's arguments and its join, over which the projections are
pub record Task (l : LayoutState) (scope : List VarId) (C : List Value → Type 0) (f : ℕ → Value → Bool) (domains : List Ref) (u : Table) (V : Words) : Type 0 where
  pub layout : IsLayout l
  pub known : All (λ v. v.0 < length l.kinds) scope
  pub reduced : IsReduced u
  pub words : AreWordsOf l scope (Within C f scope) V
  pub diagrams : (v : VarId) (d : Ref) → slice_get domains v.0 ≡ Some d → IsDiagramOf l (v ∷ []) (AtVariable v (λ x. f v.0 x ≡ true)) u d
  pub values : (v : VarId) (x : Value) → Contains scope v → f v.0 x ≡ true → is_initial l v x ≡ true
  pub there : (v : VarId) → Contains scope v → (d : Ref) × (slice_get domains v.0 ≡ Some d)

module _ (l : LayoutState) (scope : List VarId) (C : List Value → Type 0) (f : ℕ → Value → Bool) (domains : List Ref) (u : Table) (V : Words) (task : Task l scope C f domains u V) where
  satisfiable : (w : Word) → V w ≡ true → IsSatisfiable l scope C f
  satisfiable w h = let r = task.words.sound w h in (r.0, record { initial = r.1; within = r.3.1; holds = r.3.0 })

  pub violated : ((w : Word) → V w ≡ false) → IsViolated l scope C f
  violated none values s =
      let w : Word = word_of_values l values in
      let h : V w ≡ true = task.words.whole w values (assignment_given l scope values task.layout s.initial task.known) (s.holds, s.within) in
      let no : false ≡ true = sym (none w) ∙ h in cc

  -- the values of the projection that is a ref
  extending : (v : VarId) (r : Ref) → Contains scope v → IsLive u r → IsProjection (among (bits_at l v)) V (has u r)
      → IsDiagramOf l (v ∷ []) (AtVariable v (Extends l scope C f v)) u r
  extending v r scoped live is = record { live = live; words = extending_words l scope C f v V (has u r) task.layout task.known scoped task.words is }

  -- a value that extends is in the domain
  extends_within : (v : VarId) (x : Value) → Extends l scope C f v x → f v.0 x ≡ true
  extends_within v x e =
      let at = some_and (slice_get e.values v.0) (λ x. f v.0 x ≡ true) (e.support.within v e.scoped) in
      subst (λ y. f v.0 y ≡ true) (same_some (slice_get e.values v.0) at.0 x at.1 e.at) at.2

  -- and in its diagram
  extends_in : (v : VarId) (r : Ref) (x : Value) → IsDiagramOf l (v ∷ []) (AtVariable v (Extends l scope C f v)) u r → Extends l scope C f v x → values_in l u v r x ≡ true
  extends_in v r x is e =
      let initial = task.values v x e.scoped (extends_within v x e) in
      both_from (is_initial l v x) (has u r (word_of_value l v x)) initial (values_whole l v (Extends l scope C f v) (has u r) x task.layout is.words initial e)

  in_extends : (v : VarId) (r : Ref) (x : Value) → IsDiagramOf l (v ∷ []) (AtVariable v (Extends l scope C f v)) u r → values_in l u v r x ≡ true → Extends l scope C f v x
  in_extends v r x is h =
      let two = both_are (is_initial l v x) (has u r (word_of_value l v x)) h in
      values_sound l v (Extends l scope C f v) (has u r) x task.layout is.words two.0 two.1

  -- where all values extend, the diagrams are one
  same_diagram : (v : VarId) (r d : Ref) → Contains scope v → slice_get domains v.0 ≡ Some d → IsDiagramOf l (v ∷ []) (AtVariable v (Extends l scope C f v)) u r
      → ((x : Value) → f v.0 x ≡ true → values_in l u v r x ≡ true) → r ≡ d
  same_diagram v r d scoped e is all =
      let dom = task.diagrams v d e in
      canonical u task.reduced r d is.live dom.live (λ w. same_truth (has u r w) (has u d w)
      (λ h.
      let s = is.words.sound w h in
      let at = some_and (slice_get s.0 v.0) (Extends l scope C f v) s.3 in
      dom.words.whole w s.0 s.2 (some_and_from (slice_get s.0 v.0) (λ x. f v.0 x ≡ true) at.0 at.1 (extends_within v at.0 at.2)))
      (λ h.
      let s = dom.words.sound w h in
      let at = some_and (slice_get s.0 v.0) (λ x. f v.0 x ≡ true) s.3 in
      is.words.whole w s.0 s.2 (some_and_from (slice_get s.0 v.0) (Extends l scope C f v) at.0 at.1 (in_extends v r at.0 is (all at.0 at.2)))))

  -- some value goes
  leaving : (v : VarId) (r : Ref) → Contains scope v → IsDiagramOf l (v ∷ []) (AtVariable v (Extends l scope C f v)) u r → ((d : Ref) → slice_get domains v.0 ≡ Some d → r ≢ d) → Leaving (f v.0) (values_in l u v r)
  leaving v r scoped is other =
      let d = task.there v scoped in
      let k : List Value = option_map_or initial_values (slice_get l.kinds v.0) [] in
      elim (search_values (f v.0) (values_in l u v r) k) [
        | inl found ↦ found
        | inr all ↦ absurd (other d.0 d.1 (same_diagram v r d.0 scoped d.1 is (λ x h.
            let i = initial_kind l v x task.layout (task.values v x scoped h) in
            all x (subst (λ (o : Option Kind). Contains (option_map_or initial_values o []) x) (sym i.1) ((kind_values i.0 (legal_kind l v.0 i.0 task.layout i.1) x).0 i.2)) h)))
      ]

  narrowed : (v : VarId) (r : Ref) → IsSatisfiable l scope C f → IsChanged l scope domains V u v r → IsNarrowed l scope C f u v r
  narrowed v r some is =
      let diagram = extending v r is.scoped is.live is.words in
      let at = some_and (slice_get some.0 v.0) (λ x. f v.0 x ≡ true) (some.1.within v is.scoped) in
      let one : Extends l scope C f v at.0 = record { values = some.0; scoped = is.scoped; at = at.1; support = some.1 } in
      let value : HasValue (values_in l u v r) = (at.0, extends_in v r at.0 diagram one) in record {
        scoped = is.scoped;
        diagram = diagram;
        domain = record {
          diagram = record { live = is.live; words = own_words l v (AtVariable v (Extends l scope C f v)) (has u r) task.layout diagram.words };
          some = value;
        };
        part = record {
          lies = λ x h. extends_within v x (in_extends v r x diagram h);
          proper = leaving v r is.scoped diagram is.other;
          has_value = value;
        };
      }

  others_extend : (v : VarId) (d : Ref) → Contains scope v → slice_get domains v.0 ≡ Some d
      → IsProjection (among (bits_at l v)) V (has u d) → AllExtend l scope C f v
  others_extend v d scoped e is x h =
      let dom = task.diagrams v d e in
      let diagram = extending v d scoped dom.live is in
      let initial = task.values v x scoped h in
      values_sound l v (Extends l scope C f v) (has u d) x task.layout diagram.words initial (values_whole l v (λ x. f v.0 x ≡ true) (has u d) x task.layout dom.words initial h)

  pub are_narrowed : (kept : List (VarId × Ref)) → IsSatisfiable l scope C f → AreChanged l scope domains V u kept → AreNarrowed l scope C f u kept
  are_narrowed kept some is = record {
    ascending = is.ascending;
    each = λ v r h. narrowed v r some (is.each v r h);
    others = λ v scoped none. let d = task.there v scoped in others_extend v d.0 scoped d.1 (is.others v scoped none d.0 d.1);
  }

  -- what is answered by the list
  pub answered : (kept : List (VarId × Ref)) (o : StepResult) → ((w : Word) × (V w ≡ true)) → AreChanged l scope domains V u kept → IsAnswer kept o → IsStepOf l scope C f u o
  answered kept step.Same w is h =
      let some = satisfiable w.0 w.1 in
      let all = are_narrowed kept some is in
      (some, λ v scoped. all.others v scoped (λ k. nothing_in_empty v (subst (λ ks. Contains (narrowed_in ks) v) h k)))
  answered kept (step.Narrowed listed) w is h =
      let some = satisfiable w.0 w.1 in
      (some, subst (λ ks. ks ≢ []) (sym h.0) h.1, subst (AreNarrowed l scope C f u) (sym h.0) (are_narrowed kept some is))
  answered kept step.Empty w is h = absurd h

-- each new node of the projections is wanted
pub projections_wanted : (l : LayoutState) (scope : List VarId) (C : List Value → Type 0) (f : ℕ → Value → Bool) (V : Words) (a b : Table) → IsLayout l → AreWordsOf l scope (Within C f scope) V
    → NewAreProjected l scope V a b → NewAreWanted l scope C f a b
projections_wanted l scope C f V a b ok words news i none live =
    let r = news i none live in record {
      variable = r.variable;
      bits = bits_at l r.variable;
      set = V;
      scoped = r.scoped;
      bits_are = bits_of_one l r.variable ok;
      words = words;
      part = r.part;
    }

-- ---- the step

pub domains_long : (l : LayoutState) (scope : List VarId) (domains : List Ref) (t : Table) → AreDomains l t domains → All (λ v. v.0 < length l.kinds) scope → All (λ v. v.0 < length domains) scope
domains_long l scope domains t are known = subst (λ n. All (λ (v : VarId). v.0 < n) scope) (sym are.long) known

module _ (l : LayoutState) (scope : List VarId) (constraint : Ref) (domains own : List Ref) (s : PoolState) (ok : IsLayout l) (known : All (λ v. v.0 < length l.kinds) scope)
    (is : IsDiagramOf l scope (stated l s constraint) (table s.arena) constraint) (are : AreDomains l (table s.arena) domains) (listed : own ≡ domains_at domains scope) where
  there : (v : VarId) → Contains scope v → (d : Ref) × (slice_get domains v.0 ≡ Some d)
  there v scoped =
      let within : v.0 < length l.kinds = All-contains (λ (v : VarId). v.0 < length l.kinds) scope v known scoped in
      let long = are.long in
      (get_or domains v.0 Zero, slice_get-get_or domains v.0 Zero (omega (arith, within, long)))

  words : AreWordsOf l scope (Within (stated l s constraint) (given l s domains) scope) (product_of (table s.arena) constraint own)
  words = product_words l scope constraint domains own s ok there is are listed

  task : (b : Table) → IsReduced b → Grows (table s.arena) b → Task l scope (stated l s constraint) (given l s domains) domains b (product_of (table s.arena) constraint own)
  task b reduced grows = record {
    layout = ok;
    known = known;
    reduced = reduced;
    words = words;
    diagrams = λ v d e. family_words l (table s.arena) b domains v d grows are e;
    values = λ v x scoped h.
        let d = there v scoped in
        (both_are (is_initial l v x) (has (table s.arena) d.0 (word_of_value l v x)) (subst (λ D. D x ≡ true) (family_at l (table s.arena) domains v d.0 d.1) h)).0;
    there = there;
  }

  pub empty_answer : IsReduced (table s.arena) → HasNone (product_of (table s.arena) constraint own) → IsViolated l scope (stated l s constraint) (given l s domains)
  empty_answer reduced none =
      violated l scope (stated l s constraint) (given l s domains) domains (table s.arena) (product_of (table s.arena) constraint own) (task (table s.arena) reduced (grows_itself (table s.arena))) none

  pub end_answer : (b : PoolState) (kept : List (VarId × Ref)) (o : StepResult) → HasSome (product_of (table s.arena) constraint own)
      → IsProjecting l scope (product_of (table s.arena) constraint own) domains s (length scope) b kept → IsAnswer kept o → IsStepOf l scope (stated l s constraint) (given l s domains) (table b.arena) o
  end_answer b kept o some at_end h =
      answered l scope (stated l s constraint) (given l s domains) domains (table b.arena) (product_of (table s.arena) constraint own)
      (task (table b.arena) at_end.stays.reduced at_end.stays.grows) kept o some
      (subst (λ vs. AreChanged l vs domains (product_of (table s.arena) constraint own) (table b.arena) kept) (take-length scope) at_end.found) h

  pub end_parts : (b : Table) → NewAreProjected l scope (product_of (table s.arena) constraint own) (table s.arena) b → NewAreWanted l scope (stated l s constraint) (given l s domains) (table s.arena) b
  end_parts b news = projections_wanted l scope (stated l s constraint) (given l s domains) (product_of (table s.arena) constraint own) (table s.arena) b ok words news
