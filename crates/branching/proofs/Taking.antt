-- The decision that a true bit makes of an open domain.
use Rattle.std.proofs.Common.{◌≡◌, ℕ, ◌+◌, ◌<◌, ◌≤◌, Bool, true, false, ◌&&◌, List, [], ◌∷◌, Some, length, Result, Ok, Err, refl, sym, ◌∙◌, ap, subst, arith, inl, inr, ◌⊎◌}
use Rattle.std.specs.Prelude.{slice_get, IfOk}
use Rattle.set_meaning.specs.declared.kinds.Kind.{Kind}
use Rattle.set_meaning.specs.declared.kinds.Value.{Value}
use Rattle.set_meaning.specs.declared.problems.VarId.{VarId}
use Rattle.bit_layout.specs.Order.{LayoutState, IsLayout, bit_at, width_at}
use Rattle.diagram_arena.specs.declared.nodes.Ref.{Ref}
use Rattle.diagram_arena.specs.Table.{Table, has, IsReduced}
use Rattle.node_reclaim.specs.Growth.{NewAre, NewArePartsOf}
use Rattle.diagram_ops.specs.Words.{Denotes}
use Rattle.diagram_ops.proofs.Steps.{news_reach}
use Rattle.diagram_view.specs.Words.{IsFirstOpen}
use Rattle.search_rules.specs.Family.{HasValue}
use Rattle.search_rules.specs.Trail.{IsPart}
use Rattle.exact_steps.specs.Domains.{AtVariable, values_in, IsDomain, AreDomains, family}
use Rattle.exact_steps.proofs.Values.{same_some, both_are, both_from}
use Rattle.exact_steps.proofs.Wanted.{family_at, words_depend}
use Rattle.problem_rules.specs.Branching.{bit_of, Occurs, IsDecision}
use Rattle.value_sets.proofs.SetWords.{HasWords, set_of_values}
use Rattle.branching.specs.Decisions.{HaveOneValueBelow, IsDecided, IsPartOfDecision, NewReachOneVariable}
use Rattle.branching.specs.Work.{kept, domain_words, HaveValues, HasOneValue, IsOpenAt}
use Rattle.branching.proofs.Spelling.{have_values}
use Rattle.branching.proofs.Choosing.{kind_at, occurs, same_bit, position_within, with_bit_on, kept_words, kept_values}

both_off : (a b : Bool) → b ≡ false → (a && b) ≡ false
both_off true b e = e
both_off false b e = refl

module _ (l : LayoutState) (t : Table) (domains : List Ref) (from : ℕ) (v : VarId) (i : ℕ) (r : Ref) (ok : IsLayout l) (are : AreDomains l t domains) (at_open : IsOpenAt l t domains from v i) (at : slice_get domains v.0 ≡ Some r) where
  abbrev k : Kind
  k = (kind_at l.kinds v.0 at_open.known).0

  known : slice_get l.kinds v.0 ≡ Some k
  known = (kind_at l.kinds v.0 at_open.known).1

  domain : IsDomain l t v r
  domain = are.each v r at

  have : HaveValues l v (values_in l t v r) (domain_words l t v r)
  have = have_values l t v r ok domain

  abbrev s : Value → Bool
  s = values_in l t v r

  abbrev kept_set : Value → Bool
  kept_set = with_bit_on s k i

  family_is : family l t domains v.0 ≡ s
  family_is = family_at l t domains v r at

  within : i < width_at l v
  within = position_within l t v r i (at_open.first r at).here

  occurs_here : (b : Bool) → Occurs s k i b
  occurs_here b = occurs l t v r k known have i b (at_open.first r at).here

  decision_of : (f : ℕ → Value → Bool) → HaveOneValueBelow v.0 f → f v.0 ≡ s → IsDecision l.kinds f v.0 kept_set
  decision_of f below e = record {
    single = λ u x y. below u x y;
    kind = k;
    known = known;
    position = i;
    both = λ b. subst (λ (set : Value → Bool). Occurs set k i b) (sym e) (occurs_here b);
    settled = λ j x y before on also. same_bit l t v r k known have j x y ((at_open.first r at).before j before)
        (ap (λ (set : Value → Bool). set x) (sym e) ∙ on) (ap (λ (set : Value → Bool). set y) (sym e) ∙ also);
    keeps = λ x. ap (λ (set : Value → Bool). set x && bit_of k i x) (sym e);
  }

  decision : IsDecision l.kinds (family l t domains) v.0 kept_set
  decision = decision_of (family l t domains) at_open.below family_is

  part_of : IsPart kept_set s
  part_of =
      let on = occurs_here true in
      let off = occurs_here false in
      record {
        lies = λ x h. (both_are (s x) (bit_of k i x) h).0;
        proper = (off.0, off.1, both_off (s off.0) (bit_of k i off.0) off.2);
        has_value = (on.0, both_from (s on.0) (bit_of k i on.0) on.1 on.2);
      }

  set_words : HasWords l v kept_set (kept t r (bit_at l v i))
  set_words = kept_words l v k i ok known within s (has t r) domain.diagram.words

  pub decided : (u : Table) (q : Ref) → Denotes u (kept t r (bit_at l v i)) q → IsDecided l t u domains from v q
  decided u q is =
      let e = kept_values l v k i ok known within t u r q is in
      let made = set_of_values l v u kept_set (kept t r (bit_at l v i)) q set_words is e in
      record {
        later = at_open.later;
        known = at_open.known;
        domain = record { diagram = made.set; some = subst (λ (set : Value → Bool). HasValue set) (sym e) part_of.has_value };
        part = subst (λ (set : Value → Bool). IsPart set (family l t domains v.0)) (sym e) (subst (IsPart kept_set) (sym family_is) part_of);
        decision = subst (IsDecision l.kinds (family l t domains) v.0) (sym e) decision;
      }

  pub news_of_decision : (u : Table) → NewArePartsOf t u (kept t r (bit_at l v i)) → NewAre t u (IsPartOfDecision l t domains)
  news_of_decision u parts n none live = record {
    variable = v;
    known = at_open.known;
    values = kept_set;
    decision = decision;
    set = kept t r (bit_at l v i);
    words = set_words;
    part = parts n none live;
  }

  pub news_reach_one : (u : Table) → IsReduced u → NewArePartsOf t u (kept t r (bit_at l v i)) → NewReachOneVariable l t u
  news_reach_one u reduced parts n none live = (
    v,
    λ bits covers.
        news_reach t u reduced bits (kept t r (bit_at l v i))
        (words_depend l (v ∷ []) (AtVariable v (λ x. kept_set x ≡ true)) (kept t r (bit_at l v i)) bits ok set_words covers) parts n none live,
  )

pub decided_ok : {E : Type 0} (o : Result Ref E) (P Q : Ref → Type 0) → ((q : Ref) → P q → Q q) → IfOk o P → IfOk o Q
decided_ok (Ok q) P Q to h = to q h
decided_ok (Err e) P Q to h = tt

-- ---- the scan for an open domain

cases_below : (u n : ℕ) → u < n + 1 → (u < n) ⊎ (u ≡ n)
cases_below u n below = grind arith

pub one_more : (l : LayoutState) (t : Table) (domains : List Ref) (v : VarId) (i : ℕ) (r : Ref) → v.0 ≡ i → slice_get domains v.0 ≡ Some r → HaveOneValueBelow i (family l t domains) → HasOneValue (values_in l t v r)
    → HaveOneValueBelow (i + 1) (family l t domains)
one_more l t domains v i r is at below one u x y within on also = elim (cases_below u i within) [
  | inl before ↦ below u x y before on also
  | inr last ↦
      let e : family l t domains u ≡ values_in l t v r = ap (family l t domains) (last ∙ sym is) ∙ family_at l t domains v r at in
      one x y (ap (λ (set : Value → Bool). set x) (sym e) ∙ on) (ap (λ (set : Value → Bool). set y) (sym e) ∙ also)
]

pub open_is : (l : LayoutState) (t : Table) (domains : List Ref) (from : ℕ) (v : VarId) (i p : ℕ) (r : Ref) → v.0 ≡ i → from ≤ i → i < length l.kinds → slice_get domains v.0 ≡ Some r
    → HaveOneValueBelow i (family l t domains) → IsFirstOpen (domain_words l t v r) p → IsOpenAt l t domains from v p
open_is l t domains from v i p r is later known at below first = record {
  later = subst (λ (n : ℕ). from ≤ n) (sym is) later;
  known = subst (λ (n : ℕ). n < length l.kinds) (sym is) known;
  below = subst (λ (n : ℕ). HaveOneValueBelow n (family l t domains)) (sym is) below;
  first = λ q here. subst (λ (r : Ref). IsFirstOpen (domain_words l t v r) p) (same_some (slice_get domains v.0) r q at here) first;
}

pub one_value_each : (l : LayoutState) (t : Table) (domains : List Ref) (v : VarId) (r : Ref) (n : ℕ) → v.0 < n → slice_get domains v.0 ≡ Some r → HaveOneValueBelow n (family l t domains) → HasOneValue (values_in l t v r)
one_value_each l t domains v r n within at all x y on also =
    let e = family_at l t domains v r at in
    all v.0 x y within (ap (λ (set : Value → Bool). set x) e ∙ on) (ap (λ (set : Value → Bool). set y) e ∙ also)
