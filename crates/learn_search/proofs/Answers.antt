-- From single values to an answer, and from solutions of the rules to those of the problem.
use Rattle.std.proofs.Common.{◌≡◌, ◌↔◌, ◌⊎◌, ℕ, zero, suc, ◌<◌, List, [], ◌∷◌, ◌++◌, map, reverse, length, refl, sym, ap, ◌∙◌, subst, inl, inr, arith}
use Rattle.std.specs.Prelude.{Any, slice_index_or}
use Rattle.std.proofs.lemmas.List.{reverse-append}
use Rattle.set_meaning.specs.declared.kinds.Value.{Value}
use Rattle.set_meaning.specs.declared.problems.Problem.{Problem}
use Rattle.set_meaning.specs.Problems.{IsProblem}
use Rattle.set_meaning.specs.Solutions as meaning
use Rattle.search_rules.specs.Problem as rules
use Rattle.problem_rules.specs.Parts.{values_of}
use Rattle.problem_rules.specs.Posed.{problem_of}

-- ---- some item of a list, newest first or oldest first

abbrev Has : {X : Type 0} → (X → Type 0) → List X → Type 0
Has P [] = ⊥
Has P (x ∷ xs) = P x ⊎ Has P xs

has_at : {X : Type 0} (P : X → Type 0) (xs : List X) (k : ℕ) (x : X) → k < length xs → slice_index_or xs k x ≡ x → P x → Has P xs
has_at P [] k x within at h = absurd (let f : k < 0 = within in omega (arith, f))
has_at P (y ∷ xs) zero x within at h = inl (subst P (sym at) h)
has_at P (y ∷ xs) (suc k) x within at h = inr (has_at P xs k x (let f : suc k < suc (length xs) = within in omega (arith, f)) at h)

has_from : {X : Type 0} (P : X → Type 0) (xs : List X) → Any P xs → Has P xs
has_from P xs h = has_at P xs h.0 h.1 h.2 h.3 h.4

any_from : {X : Type 0} (P : X → Type 0) (xs : List X) → Has P xs → Any P xs
any_from P [] h = absurd h
any_from P (x ∷ xs) h = elim h [
  | inl here ↦ (0, x, omega arith, refl, here)
  | inr later ↦ let a = any_from P xs later in (suc a.0, a.1, let within : a.0 < length xs = a.2 in omega (arith, within), a.3, a.4)
]

has_left : {X : Type 0} (P : X → Type 0) (xs ys : List X) → Has P xs → Has P (xs ++ ys)
has_left P [] ys h = absurd h
has_left P (x ∷ xs) ys h = elim h [ inl here ↦ inl here | inr later ↦ inr (has_left P xs ys later) ]

has_right : {X : Type 0} (P : X → Type 0) (xs ys : List X) → Has P ys → Has P (xs ++ ys)
has_right P [] ys h = h
has_right P (x ∷ xs) ys h = inr (has_right P xs ys h)

has_either : {X : Type 0} (P : X → Type 0) (xs ys : List X) → Has P (xs ++ ys) → Has P xs ⊎ Has P ys
has_either P [] ys h = inr h
has_either P (x ∷ xs) ys h = elim h [
  | inl here ↦ inl (inl here)
  | inr later ↦ elim (has_either P xs ys later) [ inl front ↦ inl (inr front) | inr back ↦ inr back ]
]

turned : {X : Type 0} (x : X) (xs : List X) → reverse (x ∷ xs) ≡ reverse xs ++ x ∷ []
turned x xs = reverse-append (x ∷ []) xs

has_reversed : {X : Type 0} (P : X → Type 0) (xs : List X) → Has P xs → Has P (reverse xs)
has_reversed P [] h = h
has_reversed P (x ∷ xs) h = subst (Has P) (sym (turned x xs)) (elim h [
  | inl here ↦ has_right P (reverse xs) (x ∷ []) (inl here)
  | inr later ↦ has_left P (reverse xs) (x ∷ []) (has_reversed P xs later)
])

has_forward : {X : Type 0} (P : X → Type 0) (xs : List X) → Has P (reverse xs) → Has P xs
has_forward P [] h = h
has_forward P (x ∷ xs) h = elim (has_either P (reverse xs) (x ∷ []) (subst (Has P) (turned x xs) h)) [
  | inl later ↦ inr (has_forward P xs later)
  | inr last ↦ elim last [ inl here ↦ inl here | inr none ↦ absurd none ]
]

pub any_reversed : {X : Type 0} (P : X → Type 0) (xs : List X) → Any P xs → Any P (reverse xs)
any_reversed P xs h = any_from P (reverse xs) (has_reversed P xs (has_from P xs h))

pub any_forward : {X : Type 0} (P : X → Type 0) (xs : List X) → Any P (reverse xs) → Any P xs
any_forward P xs h = any_from P xs (has_forward P xs (has_from P (reverse xs) h))

-- one more answer, newest first, is one more at the end
pub one_more : (p : Problem) (given : List (List Value)) (answers : List (ℕ → Value)) (last : ℕ → Value) → given ≡ reverse (map (values_of p) answers)
    → given ++ values_of p last ∷ [] ≡ reverse (map (values_of p) (last ∷ answers))
one_more p given answers last e = ap (λ xs. xs ++ values_of p last ∷ []) e ∙ sym (turned (values_of p last) (map (values_of p) answers))

-- ---- solutions and answers of the rules, told of the problem

-- what the rules say of solutions and answers
pub record AnswerLaws : Type 0 where
  pub same : (p : Problem) (a : ℕ → Value) → IsProblem p → rules.IsSolution (problem_of p) a ↔ meaning.IsSolution p (values_of p a)
  pub each : (p : Problem) (values : List Value) → meaning.IsSolution p values → (a : ℕ → Value) × (values_of p a ≡ values)
  pub covers : (p : Problem) (answers : List (ℕ → Value)) (a : ℕ → Value)
      → rules.IsCovered (problem_of p) answers a ↔ meaning.IsCovered p (map (values_of p) answers) (values_of p a)

module _ (laws : AnswerLaws) (p : Problem) (legal : IsProblem p) (given : List (List Value)) (answers : List (ℕ → Value)) (are : given ≡ reverse (map (values_of p) answers)) where
  -- a solution that no answer covers is the next answer
  pub is_answer : (a : ℕ → Value) (values : List Value) → values_of p a ≡ values → rules.IsSolution (problem_of p) a → (rules.IsCovered (problem_of p) answers a → ⊥)
      → meaning.IsAnswer p given values
  is_answer a values e solution new = subst (meaning.IsAnswer p given) e (record {
    solution = (laws.same p a legal).0 solution;
    new = λ covered. new ((laws.covers p answers a).1 (any_forward (λ answer. meaning.Covers p answer (values_of p a)) (map (values_of p) answers)
        (subst (λ g. meaning.IsCovered p g (values_of p a)) are covered)));
  })

  -- answers that cover each solution of the rules cover each one of the problem
  pub cover_all : ((a : ℕ → Value) → rules.IsSolution (problem_of p) a → rules.IsCovered (problem_of p) answers a) → meaning.CoverAll p given
  unfolding meaning.CoverAll
  cover_all all solution is =
      let at = laws.each p solution is in
      let own : rules.IsSolution (problem_of p) at.0 = (laws.same p at.0 legal).1 (subst (meaning.IsSolution p) (sym at.1) is) in
      subst (meaning.IsCovered p given) at.1 (subst (λ g. meaning.IsCovered p g (values_of p at.0)) (sym are)
      (any_reversed (λ answer. meaning.Covers p answer (values_of p at.0)) (map (values_of p) answers) ((laws.covers p answers at.0).0 (all at.0 own))))
