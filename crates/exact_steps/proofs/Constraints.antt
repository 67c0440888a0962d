-- The condition that a diagram states, beside the condition that it is the diagram of; and constraints of search_rules.
use Rattle.std.proofs.Common.{◌≡◌, ℕ, suc, ◌<◌, Bool, true, false, List, [], ◌∷◌, length, take, get_or, Option, Some, None, refl, sym, ap, ◌∙◌, subst, arith, Contains}
use Rattle.std.specs.Prelude.{slice_get, IsSomeAnd}
use Rattle.std.specs.Option.{option_map_or}
use Rattle.std.specs.List.{All}
use Rattle.std.proofs.Math.Path.{fun_ext}
use Rattle.std.proofs.lemmas.List.{ext_get_or, length-take, get_or-take}
use Rattle.std.proofs.lemmas.List.Elements.{All-contains}
use Rattle.std.proofs.lemmas.List.FromFn.{length-map-range_with_len, get_or-map-range_with_len}
use Rattle.std.proofs.lemmas.Option.{slice_get-get_or, get_or_from_slice_get}
use Rattle.set_meaning.specs.declared.kinds.Kind.{Kind}
use Rattle.set_meaning.specs.declared.kinds.Value.{Value}
use Rattle.set_meaning.specs.declared.kinds.Value.TheVariants as value
use Rattle.set_meaning.specs.declared.problems.VarId.{VarId}
use Rattle.set_meaning.specs.Kinds.{IsAssignment}
use Rattle.bit_layout.specs.Order.{LayoutState, IsLayout, IsValueAt}
use Rattle.diagram_arena.specs.declared.nodes.Ref.{Ref}
use Rattle.diagram_arena.specs.declared.nodes.Ref.TheVariants.{Node, Zero}
use Rattle.diagram_arena.specs.Arena.{Grows}
use Rattle.diagram_arena.specs.Table.{Word, Words, Table, has}
use Rattle.search_rules.specs.Problem as rules
use Rattle.scope_words.specs.Words.{read, Gives, word_of_values, AreWordsOf, IsDiagramOf}
use Rattle.scope_words.proofs.Words.{given_once, assignment_given}
use Rattle.exact_steps.specs.declared.steps.StepResult.{StepResult}
use Rattle.exact_steps.specs.declared.steps.StepResult.TheVariants as step
use Rattle.exact_steps.specs.Domains.{variable, is_initial, word_of_value, values_in, AreDomains, family}
use Rattle.exact_steps.specs.Steps.{IsInDiagram, IsSupport, Extends, IsViolated, IsSatisfiable, AllExtend, IsNarrowed, IsStepOf}
use Rattle.exact_steps.specs.Parts.{Within, IsWanted, NewAreWanted}
use Rattle.exact_steps.specs.Rules.{listed, IsConstraintOf}
use Rattle.exact_steps.proofs.Values.{some_and, some_and_from, same_some, both_are, both_from}
use Rattle.exact_steps.proofs.Readings.{gives_own, gives_initial}
use Rattle.exact_steps.proofs.Sets.{values_sound, values_whole}
use Rattle.exact_steps.proofs.Wanted.{family_at, values_grow}

-- a variable among the first ones
-- ---- the condition that a diagram states

module _ (l : LayoutState) (scope : List VarId) (C : List Value → Type 0) (t : Table) (r : Ref) (ok : IsLayout l) (known : All (λ v. v.0 < length l.kinds) scope) (is : IsDiagramOf l scope C t r) where
  stated_from : (values : List Value) → IsAssignment l.kinds values → C values → IsInDiagram l t r values
  stated_from values legal holds = is.words.whole (word_of_values l values) values (assignment_given l scope values ok legal known) holds

  -- values that satisfy C, the same at the scope
  from_stated : (values : List Value) (w : Word) → Gives l scope values w → IsInDiagram l t r values
      → (others : List Value) × IsAssignment l.kinds others × ((v : VarId) → Contains scope v → slice_get others v.0 ≡ slice_get values v.0) × C others
  from_stated values w given h =
      let s = is.words.sound (word_of_values l values) h in
      let own = gives_own l scope values w ok given in
      (s.0, s.1, (λ v k. given_once l scope s.0 values (word_of_values l values) v ok s.2 own k), s.3)

  pub stated_diagram : IsDiagramOf l scope (IsInDiagram l t r) t r
  stated_diagram = record {
    live = is.live;
    words = record {
      sound = λ w h. let s = is.words.sound w h in (s.0, s.1, s.2, stated_from s.0 s.1 s.3);
      whole = λ w values given h.
          let s = from_stated values w given h in
          is.words.whole w s.0 (λ v k. subst (λ o. IsSomeAnd o (IsValueAt l v (read l v w))) (sym (s.2 v k)) (given v k)) s.3;
    };
  }

  -- values at the scope, given by some word
  legal_given : (values : List Value) → IsAssignment l.kinds values → Gives l scope values (word_of_values l values)
  legal_given values legal = assignment_given l scope values ok legal known

  pub support_to : (f : ℕ → Value → Bool) (values : List Value) → IsSupport l scope (IsInDiagram l t r) f values → (others : List Value) × ((v : VarId) → Contains scope v → slice_get others v.0 ≡ slice_get values v.0) × IsSupport l scope C f others
  support_to f values s =
      let o = from_stated values (word_of_values l values) (legal_given values s.initial) s.holds in (
        o.0,
        o.2,
        record {
          initial = o.1;
          within = λ v k. subst (λ z. IsSomeAnd z (λ x. f v.0 x ≡ true)) (sym (o.2 v k)) (s.within v k);
          holds = o.3;
        },
      )

  pub support_from : (f : ℕ → Value → Bool) (values : List Value) → IsSupport l scope C f values → IsSupport l scope (IsInDiagram l t r) f values
  support_from f values s = record { initial = s.initial; within = s.within; holds = stated_from values s.initial s.holds }

  pub extends_to : (f : ℕ → Value → Bool) (v : VarId) (x : Value) → Extends l scope (IsInDiagram l t r) f v x → Extends l scope C f v x
  extends_to f v x e =
      let s = support_to f e.values e.support in
      record { values = s.0; scoped = e.scoped; at = s.1 v e.scoped ∙ e.at; support = s.2 }

  pub extends_from : (f : ℕ → Value → Bool) (v : VarId) (x : Value) → Extends l scope C f v x → Extends l scope (IsInDiagram l t r) f v x
  extends_from f v x e = record { values = e.values; scoped = e.scoped; at = e.at; support = support_from f e.values e.support }

  pub violated_to : (f : ℕ → Value → Bool) → IsViolated l scope (IsInDiagram l t r) f → IsViolated l scope C f
  violated_to f none values s = none values (support_from f values s)

  pub violated_from : (f : ℕ → Value → Bool) → IsViolated l scope C f → IsViolated l scope (IsInDiagram l t r) f
  violated_from f none values s = let o = support_to f values s in none o.0 o.2

  satisfiable_to : (f : ℕ → Value → Bool) → IsSatisfiable l scope (IsInDiagram l t r) f → IsSatisfiable l scope C f
  satisfiable_to f some = let o = support_to f some.0 some.1 in (o.0, o.2)

  -- the same set of words, under either condition
  words_to : (f : ℕ → Value → Bool) (vs : List VarId) (V : Words) → ((v : VarId) → Contains vs v → Contains scope v) → AreWordsOf l scope (Within (IsInDiagram l t r) f vs) V → AreWordsOf l scope (Within C f vs) V
  words_to f vs V part words = record {
    sound = λ w h.
        let s = words.sound w h in
        let o = from_stated s.0 w s.2 s.3.0 in (
          o.0,
          o.1,
          (λ v k. subst (λ z. IsSomeAnd z (IsValueAt l v (read l v w))) (sym (o.2 v k)) (s.2 v k)),
          (o.3, λ v k. subst (λ z. IsSomeAnd z (λ x. f v.0 x ≡ true)) (sym (o.2 v (part v k))) (s.3.1 v k)),
        );
    whole = λ w values given h.
        let own : IsInDiagram l t r values = is.words.whole (word_of_values l values) values (gives_own l scope values w ok given) h.0 in
        words.whole w values given (own, h.1);
  }

  wanted_to : (f : ℕ → Value → Bool) (W : Words) → IsWanted l scope (IsInDiagram l t r) f W → IsWanted l scope C f W
  wanted_to f W h = record {
    variable = h.variable;
    bits = h.bits;
    set = h.set;
    scoped = h.scoped;
    bits_are = h.bits_are;
    words = words_to f scope h.set (λ v k. k) h.words;
    part = h.part;
  }

  pub news_to : (f : ℕ → Value → Bool) (old new : Table) → NewAreWanted l scope (IsInDiagram l t r) f old new → NewAreWanted l scope C f old new
  news_to f old new news i none live = wanted_to f (has new (Node i)) (news i none live)

  narrowed_to : (f : ℕ → Value → Bool) (new : Table) (v : VarId) (s : Ref) → IsNarrowed l scope (IsInDiagram l t r) f new v s → IsNarrowed l scope C f new v s
  narrowed_to f new v s n = record {
    scoped = n.scoped;
    diagram = record {
      live = n.diagram.live;
      words = record {
        sound = λ w h. let q = n.diagram.words.sound w h in (q.0, q.1, q.2, let a = some_and (slice_get q.0 v.0) (Extends l scope (IsInDiagram l t r) f v) q.3 in some_and_from (slice_get q.0 v.0) (Extends l scope C f v) a.0 a.1 (extends_to f v a.0 a.2));
        whole = λ w values given h. n.diagram.words.whole w values given (let a = some_and (slice_get values v.0) (Extends l scope C f v) h in some_and_from (slice_get values v.0) (Extends l scope (IsInDiagram l t r) f v) a.0 a.1 (extends_from f v a.0 a.2));
      };
    };
    domain = n.domain;
    part = n.part;
  }

  pub step_to : (f : ℕ → Value → Bool) (new : Table) (o : StepResult) → IsStepOf l scope (IsInDiagram l t r) f new o → IsStepOf l scope C f new o
  step_to f new step.Same h = (satisfiable_to f h.0, λ v k x at. extends_to f v x (h.1 v k x at))
  step_to f new (step.Narrowed kept) h = (
    satisfiable_to f h.0,
    h.1,
    record {
      ascending = h.2.ascending;
      each = λ v s k. narrowed_to f new v s (h.2.each v s k);
      others = λ v k none x at. extends_to f v x (h.2.others v k none x at);
    },
  )
  step_to f new step.Empty h = violated_to f h

-- ---- constraints of search_rules

assigned_length : (kinds : List Kind) (values : List Value) → IsAssignment kinds values → length values ≡ length kinds
assigned_length [] [] h = refl
assigned_length [] (y ∷ ys) h = absurd h
assigned_length (k ∷ ks) [] h = absurd h
assigned_length (k ∷ ks) (y ∷ ys) h = ap suc (assigned_length ks ys h.1)

-- the values of a list as a function
abbrev pub value_of : List Value → ℕ → Value
value_of values v = get_or values v (value.Bool false)

listed_again : (kinds : List Kind) (values : List Value) → IsAssignment kinds values → listed (length kinds) (value_of values) ≡ values
listed_again kinds values legal =
    let n = length-map-range_with_len (value_of values) 0 (length kinds) in
    let m = assigned_length kinds values legal in
    ext_get_or (value.Bool false) (listed (length kinds) (value_of values)) values (n ∙ sym m) (λ i within.
    let inside : i < length kinds = omega (arith, n, within) in
    get_or-map-range_with_len (value_of values) 0 (length kinds) i i (value.Bool false) inside (omega arith))

at_listed : (n : ℕ) (a : ℕ → Value) (v : ℕ) → v < n → slice_get (listed n a) v ≡ Some (a v)
at_listed n a v within =
    let long = length-map-range_with_len a 0 n in
    slice_get-get_or (listed n a) v (value.Bool false) (omega (arith, long, within)) ∙ ap Some (get_or-map-range_with_len a 0 n v v (value.Bool false) within (omega arith))

-- a value of the family is an initial value
pub family_initial : (l : LayoutState) (t : Table) (domains : List Ref) (v : VarId) (x : Value) → AreDomains l t domains → v.0 < length l.kinds → family l t domains v.0 x ≡ true → is_initial l v x ≡ true
family_initial l t domains v x are within h =
    let long = are.long in
    let e = slice_get-get_or domains v.0 Zero (omega (arith, within, long)) in
    (both_are (is_initial l v x) (has t (get_or domains v.0 Zero) (word_of_value l v x)) (subst (λ D. D x ≡ true) (family_at l t domains v (get_or domains v.0 Zero) e) h)).0

module _ (p : rules.Problem Value) (c : ℕ) (l : LayoutState) (scope : List VarId) (C : List Value → Type 0) (t now : Table) (r : Ref) (domains : List Ref) (ok : IsLayout l) (known : All (λ v. v.0 < length l.kinds) scope)
    (is : IsDiagramOf l scope C t r) (are : AreDomains l now domains) (k : IsConstraintOf p c l scope C) where
  within : (v : VarId) → Contains scope v → v.0 < length l.kinds
  within v h = All-contains (λ (v : VarId). v.0 < length l.kinds) scope v known h

  inside_of : (values : List Value) → IsSupport l scope C (family l now domains) values → (u : ℕ) → p.scope c u ≡ true → family l now domains u (value_of values u) ≡ true
  inside_of values s u h =
      let at = some_and (slice_get values u) (λ x. family l now domains u x ≡ true) (s.within (variable u) ((k.scoped u).0 h)) in
      subst (λ x. family l now domains u x ≡ true) (sym (get_or_from_slice_get values u at.0 (value.Bool false) at.1)) at.2

  holds_of : (values : List Value) → IsSupport l scope C (family l now domains) values → p.holds c (value_of values)
  holds_of values s = (k.holds (value_of values)).1 (subst C (sym (listed_again l.kinds values s.initial)) s.holds)

  support_of : (a : ℕ → Value) → ((u : ℕ) → p.scope c u ≡ true → family l now domains u (a u) ≡ true) → p.holds c a
      → (values : List Value) × ((v : VarId) → Contains scope v → slice_get values v.0 ≡ Some (a v.0)) × IsSupport l scope C (family l now domains) values
  support_of a inside holds =
      let values : List Value = listed (length l.kinds) a in
      let at : (v : VarId) → Contains scope v → slice_get values v.0 ≡ Some (a v.0) = λ v h. at_listed (length l.kinds) a v.0 (within v h) in
      let in_family : (v : VarId) → Contains scope v → family l now domains v.0 (a v.0) ≡ true = λ v h. inside v.0 ((k.scoped v.0).1 h) in
      let w : Word = word_of_values l values in
      let given = gives_initial l scope values ok (λ v h. (a v.0, at v h, family_initial l now domains v (a v.0) are (within v h) (in_family v h))) in
      let s = is.words.sound w (is.words.whole w values given ((k.holds a).0 holds)) in
      let same : (v : VarId) → Contains scope v → slice_get s.0 v.0 ≡ Some (a v.0) = λ v h. given_once l scope s.0 values w v ok s.2 given h ∙ at v h in (
        s.0,
        same,
        record {
          initial = s.1;
          within = λ v h. some_and_from (slice_get s.0 v.0) (λ x. family l now domains v.0 x ≡ true) (a v.0) (same v h) (in_family v h);
          holds = s.3;
        },
      )

  pub rule_extends : (v : ℕ) (x : Value) → Extends l scope C (family l now domains) (variable v) x → rules.Extends p c (family l now domains) v x
  rule_extends v x e = record {
    values = value_of e.values;
    scoped = (k.scoped v).1 e.scoped;
    at = get_or_from_slice_get e.values v x (value.Bool false) e.at;
    inside = inside_of e.values e.support;
    holds = holds_of e.values e.support;
  }

  pub extends_rule : (v : ℕ) (x : Value) → rules.Extends p c (family l now domains) v x → Extends l scope C (family l now domains) (variable v) x
  extends_rule v x e =
      let s = support_of e.values e.inside e.holds in
      let scoped : Contains scope (variable v) = (k.scoped v).0 e.scoped in
      record { values = s.0; scoped = scoped; at = s.1 (variable v) scoped ∙ ap Some e.at; support = s.2 }

  pub rule_violated : IsViolated l scope C (family l now domains) → rules.IsViolated p c (family l now domains)
  rule_violated none a inside holds = let s = support_of a inside holds in none s.0 s.2

  pub violated_rule : rules.IsViolated p c (family l now domains) → IsViolated l scope C (family l now domains)
  violated_rule none values s = none (value_of values) (inside_of values s) (holds_of values s)

  pub rule_narrowed : (new : Table) (v : VarId) (s : Ref) → IsNarrowed l scope C (family l now domains) new v s → rules.IsNarrowed p c (family l now domains) v.0 (values_in l new v s)
  rule_narrowed new v s n = record {
    scoped = (k.scoped v.0).1 n.scoped;
    sound = λ x h.
        let two = both_are (is_initial l v x) (has new s (word_of_value l v x)) h in
        rule_extends v.0 x (values_sound l v (Extends l scope C (family l now domains) v) (has new s) x ok n.diagram.words two.0 two.1);
    whole = λ x e.
        let mine : Extends l scope C (family l now domains) v x = extends_rule v.0 x e in
        let at = some_and (slice_get mine.values v.0) (λ y. family l now domains v.0 y ≡ true) (mine.support.within v n.scoped) in
        let here : family l now domains v.0 x ≡ true = subst (λ y. family l now domains v.0 y ≡ true) (same_some (slice_get mine.values v.0) at.0 x at.1 mine.at) at.2 in
        let initial = family_initial l now domains v x are (within v n.scoped) here in
        both_from (is_initial l v x) (has new s (word_of_value l v x)) initial (values_whole l v (Extends l scope C (family l now domains) v) (has new s) x ok n.diagram.words initial mine);
  }

  pub rule_satisfiable : IsSatisfiable l scope C (family l now domains) → (a : ℕ → Value) × ((u : ℕ) → p.scope c u ≡ true → family l now domains u (a u) ≡ true) × p.holds c a
  rule_satisfiable some = (value_of some.0, inside_of some.0 some.1, holds_of some.0 some.1)

  pub rule_left : ((v : VarId) → Contains scope v → AllExtend l scope C (family l now domains) v) → rules.IsLeft p c (family l now domains)
  rule_left all v x scoped h = rule_extends v x (all (variable v) ((k.scoped v).0 scoped) x h)

  pub left_rule : rules.IsLeft p c (family l now domains) → (v : VarId) → Contains scope v → AllExtend l scope C (family l now domains) v
  left_rule left v scoped x h = extends_rule v.0 x (left v.0 x ((k.scoped v.0).1 scoped) h)

-- ---- families in tables that grow

pub family_grows : (l : LayoutState) (t u : Table) (domains : List Ref) → Grows t u → AreDomains l t domains → family l u domains ≡ family l t domains
family_grows l t u domains grows are = fun_ext (λ v. at v (slice_get domains v) refl)
  where
    at : (v : ℕ) (o : Option Ref) → slice_get domains v ≡ o → family l u domains v ≡ family l t domains v
    at v None e = let same : (z : Table) → family l z domains v ≡ (λ x. true) = λ z. ap (λ o. λ x. option_map_or (λ r. values_in l z (variable v) r x) o true) e in same u ∙ sym (same t)
    at v (Some d) e = family_at l u domains (variable v) d e ∙ values_grow l t u (variable v) d grows (are.each (variable v) d e).diagram.live ∙ sym (family_at l t domains (variable v) d e)
