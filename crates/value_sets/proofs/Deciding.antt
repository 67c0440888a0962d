-- Whether a set of initial values has a value: there are few to try.
use Rattle.std.proofs.Common.{◌≡◌, ◌⊎◌, Bool, true, false, ◌&&◌, ◌∙◌, List, [], ◌∷◌, Some, None, refl, sym, subst, inl, inr}
use Rattle.std.specs.Prelude.{MatchBool, IsTrue, ◌↔◌, slice_get}
use Rattle.std.specs.List.{list_any}
use Rattle.std.specs.Option.{option_map_or}
use Rattle.std.proofs.lemmas.Bool.{or_cases}
use Rattle.set_meaning.specs.declared.kinds.Value.{Value}
use Rattle.set_meaning.specs.declared.problems.VarId.{VarId}
use Rattle.set_meaning.specs.Kinds.{initial_values}
use Rattle.bit_layout.specs.Order.{LayoutState, IsLayout}
use Rattle.diagram_arena.specs.declared.nodes.Ref.{Ref}
use Rattle.diagram_arena.specs.declared.nodes.Ref.TheVariants.{Zero}
use Rattle.diagram_arena.specs.Table.{Word, Table, has, IsReduced}
use Rattle.search_rules.specs.Family.{HasValue, Meets}
use Rattle.exact_steps.specs.Domains.{same_value, is_initial, word_of_value, values_in}
use Rattle.exact_steps.proofs.Values.{some_and, both_are, both_from, values_equal}
use Rattle.value_sets.specs.Sets.{IsValueSet, HasNoValue, AreApart}
use Rattle.value_sets.specs.Laws.{WordLaws}
use Rattle.value_sets.proofs.SetWords.{truth_or, clash}

tried : (s : Value → Bool) (ys : List Value) → HasValue s ⊎ ((x : Value) → list_any (same_value x) ys ≡ true → s x ≡ false)
tried s [] = inr (λ x h. clash false h refl)
tried s (y ∷ ys) = elim (truth_or (s y)) [
  | inl on ↦ inl (y, on)
  | inr off ↦ elim (tried s ys) [
    | inl found ↦ inl found
    | inr none ↦ inr (λ x h. elim (or_cases (same_value x y) (list_any (same_value x) ys) h) [
      | inl same ↦ subst (λ z. s z ≡ false) (sym (values_equal x y same)) off
      | inr later ↦ none x later
    ])
  ]
]

nowhere : (s : Value → Bool) → ((x : Value) → s x ≡ true → s x ≡ false) → HasNoValue s
nowhere s no_value x = elim (truth_or (s x)) [ inl on ↦ no_value x on | inr off ↦ off ]

-- a set of initial values has a value, or it has none
pub decided : (l : LayoutState) (v : VarId) (s : Value → Bool) → ((x : Value) → s x ≡ true → is_initial l v x ≡ true) → HasValue s ⊎ HasNoValue s
decided l v s only =
    elim (slice_get l.kinds v.0) as (λ o. ((x : Value) → s x ≡ true → option_map_or (λ k. list_any (same_value x) (initial_values k)) o false ≡ true) → HasValue s ⊎ HasNoValue s) [
      | None ↦ λ only. inr (nowhere s (λ x on. clash false (only x on) refl))
      | Some k ↦ λ only. elim (tried s (initial_values k)) [
        | inl found ↦ inl found
        | inr none ↦ inr (nowhere s (λ x on. none x (only x on)))
      ]
    ] only

pub only_initial : (l : LayoutState) (t : Table) (v : VarId) (r : Ref) (x : Value) → values_in l t v r x ≡ true → is_initial l v x ≡ true
only_initial l t v r x h = (both_are (is_initial l v x) (has t r (word_of_value l v x)) h).0

-- without a value there is no word
none_empty : (laws : WordLaws) (l : LayoutState) (t : Table) (v : VarId) (r : Ref) → IsReduced t → IsValueSet l t v r → HasNoValue (values_in l t v r) → r ≡ Zero
none_empty laws l t v r reduced is none =
    laws.same_words t reduced r Zero is.live tt (λ w. elim (truth_or (has t r w)) [
      | inl on ↦
          let a = is.words.sound w on in
          let x = some_and (slice_get a.0 v.0) (λ x. values_in l t v r x ≡ true) a.3 in
          clash (values_in l t v r x.0) x.2 (none x.0)
      | inr off ↦ off ∙ sym (laws.zero t w)
    ])

both_off : (i a : Bool) → a ≡ false → (i && a) ≡ false
both_off true a off = off
both_off false a off = refl

pub empty_case : (laws : WordLaws) (l : LayoutState) (t : Table) (v : VarId) (r : Ref) (empty : Bool) → IsTrue empty ↔ (r ≡ Zero) → IsReduced t → IsValueSet l t v r
    → MatchBool empty (HasNoValue (values_in l t v r)) (HasValue (values_in l t v r))
empty_case laws l t v r true zero reduced is = λ x.
    subst (λ q. (is_initial l v x && has t q (word_of_value l v x)) ≡ false) (sym (zero.0 refl)) (both_off (is_initial l v x) (has t Zero (word_of_value l v x)) (laws.zero t (word_of_value l v x)))
empty_case laws l t v r false zero reduced is = elim (decided l v (values_in l t v r) (only_initial l t v r)) [
  | inl found ↦ found
  | inr none ↦ absurd (let e : false ≡ true = zero.1 (none_empty laws l t v r reduced is none) in cc)
]

pub met_or_apart : (l : LayoutState) (t : Table) (v : VarId) (f g : Ref) → Meets (values_in l t v f) (values_in l t v g) ⊎ AreApart (values_in l t v f) (values_in l t v g)
met_or_apart l t v f g =
    let s : Value → Bool = values_in l t v f in
    let u : Value → Bool = values_in l t v g in
    elim (decided l v (λ x. s x && u x) (λ x on. only_initial l t v f x (both_are (s x) (u x) on).0)) [
      | inl found ↦ inl (let two = both_are (s found.0) (u found.0) found.1 in (found.0, two.0, two.1))
      | inr none ↦ inr (λ x on. elim (truth_or (u x)) [
        | inl other ↦ clash (s x && u x) (both_from (s x) (u x) on other) (none x)
        | inr off ↦ off
      ])
    ]
