-- Single values as answers, and boxes of answers as the search goes on.
use Rattle.std.proofs.Common.{◌≡◌, ℕ, zero, suc, ◌<◌, Bool, true, false, List, [], ◌∷◌, ◌++◌, length, refl, sym, ap, ◌∙◌, subst, inl, inr, arith}
use Rattle.std.specs.Prelude.{◌⊎◌}
use Rattle.std.proofs.lemmas.Bool.{cases_eq, both_ways}
use Rattle.std.proofs.lemmas.List.Elements.{All-weaker}
use Rattle.set_meaning.specs.declared.kinds.Value.{Value}
use Rattle.set_meaning.specs.declared.problems.Problem.{Problem}
use Rattle.bit_layout.specs.Order.{LayoutState}
use Rattle.diagram_arena.specs.Table.{Table}
use Rattle.search_rules.specs.Trail as rules
use Rattle.search_moves.specs.Answers.{HasBox, HaveBoxes}
use Rattle.problem_rules.specs.Posed.{problem_of}
use Rattle.box_clauses.specs.declared.store.StoredBox.{StoredBox}
use Rattle.search_state.specs.Readings.{boxes_of}
use Rattle.propagation.specs.Quiet.{IsQuietAt}
use Rattle.search_turns.proofs.Further.{boxes_split}

stored_still : (xs ys : List (rules.Stored Value)) (g : ℕ → Value → Bool) → rules.IsStored ys g → rules.IsStored (xs ++ ys) g
stored_still [] ys g h = h
stored_still (x ∷ xs) ys g h = inr (stored_still xs ys g h)

-- in a longer store whose beginning reads alike
pub have_boxes_still : (p : Problem) (l : LayoutState) (t u : Table) (answers : List (ℕ → Value)) (stored added now : List StoredBox) → now ≡ stored ++ added → boxes_of l u stored ≡ boxes_of l t stored
    → HaveBoxes (problem_of p) (boxes_of l t stored) answers → HaveBoxes (problem_of p) (boxes_of l u now) answers
have_boxes_still p l t u answers stored added now is same have =
    let whole : boxes_of l u now ≡ boxes_of l u added ++ boxes_of l t stored = ap (boxes_of l u) is ∙ boxes_split l u stored added ∙ ap (λ bs. boxes_of l u added ++ bs) same in
    subst (λ bs. HaveBoxes (problem_of p) bs answers) (sym whole)
    (All-weaker (HasBox (problem_of p) (boxes_of l t stored)) (HasBox (problem_of p) (boxes_of l u added ++ boxes_of l t stored))
    (λ x h. record { sides = h.sides; stored = stored_still (boxes_of l u added) (boxes_of l t stored) h.sides h.stored; holds = h.holds }) answers have)

-- a constraint has a variable, or it holds
pub holds_or_scoped : (p : Problem) (c : ℕ) (f : ℕ → Value → Bool) (a : ℕ → Value) → IsQuietAt p f c → ((v : ℕ) × ((problem_of p).scope c v ≡ true)) ⊎ (problem_of p).holds c a
holds_or_scoped p c f a quiet = elim (below (length p.kinds)) [
  | inl found ↦ inl found
  | inr free ↦ inr ((problem_of p).reads c quiet.values a (λ v scoped. absurd (both_ways ((problem_of p).scope c v) (free v ((problem_of p).scoped c v scoped)) scoped)) quiet.holds)
]
  where
    below : (n : ℕ) → ((v : ℕ) × ((problem_of p).scope c v ≡ true)) ⊎ ((v : ℕ) → v < n → (problem_of p).scope c v ≡ false)
    below zero = inr (λ v h. absurd (omega (arith, h)))
    below (suc n) = elim (below n) [
      | inl found ↦ inl found
      | inr free ↦ elim ((problem_of p).scope c n) as (λ b. (problem_of p).scope c n ≡ b → ((v : ℕ) × ((problem_of p).scope c v ≡ true)) ⊎ ((v : ℕ) → v < suc n → (problem_of p).scope c v ≡ false)) [
        | true ↦ λ e. inl (n, e)
        | false ↦ λ e. inr (λ v h. elim (cases_eq v n) [
          | inl same ↦ subst (λ i. (problem_of p).scope c i ≡ false) (sym same) e
          | inr other ↦ free v (omega (arith, h, other))
        ])
      ] refl
    ]
