-- Each box of a valid log holds no solution that the answers do not cover.
use Rattle.std.proofs.Common.{◌≡◌, ℕ, ◌<◌, true, false, List, [], ◌∷◌, ◌++◌, length, map, Option, Some, None, refl, sym, ap, ◌∙◌, subst, inl, inr}
use Rattle.std.specs.Prelude.{slice_get, IsSome, IsSomeAnd, IfSome, All}
use Rattle.std.proofs.lemmas.List.{append_assoc, append-nil}
use Rattle.std.proofs.lemmas.List.Quantifiers.{Any-push}
use Rattle.set_meaning.specs.declared.kinds.Value.{Value}
use Rattle.set_meaning.specs.declared.problems.Constraint.{Constraint}
use Rattle.set_meaning.specs.declared.problems.Problem.{Problem}
use Rattle.set_meaning.specs.Problems.{IsProblem}
use Rattle.set_meaning.specs.Relations.{Holds}
use Rattle.set_meaning.specs.Solutions.{IsSolution, Covers, IsCovered, IsAnswer, AreAnswers, CoverAll}
use Rattle.log_text.specs.declared.line.Line.{Line}
use Rattle.log_text.specs.declared.line.Line.TheVariants as lines
use Rattle.log_rules.specs.declared.nodes.Node.{Node}
use Rattle.log_rules.specs.declared.reasons.Reason.TheVariants as reason
use Rattle.log_rules.specs.declared.reasons.End.{End}
use Rattle.log_rules.specs.declared.reasons.End.TheVariants.{Complete}
use Rattle.log_rules.specs.Tables.{IsTable}
use Rattle.log_rules.specs.Boxes.{Sides, side_of, IsWithin, InBox, LiesIn, resolvent, AreSides, SomeSatisfy}
use Rattle.log_rules.specs.States.{LogState, state_of, after, box_at, value_in, end_in, answer_in, table_of, boxes_of, listed_answers, with_some}
use Rattle.log_rules.specs.Rules.{IsValidAfter, HasScope, IsAxiom, NamesBoxes, IsResolved}
use Rattle.log_rules.specs.Logs.{IsValidLine, AreValid, IsAcceptedLog}
use Rattle.log_rules.proofs.Fronts.{nothing_at, all_of, last_or_front, not_empty, last_or_before}
use Rattle.log_rules.proofs.Walks.{empty_table, table_grows}
use Rattle.log_rules.proofs.Inside.{any_more, is_initial, value_there, resolved, inside_before, sides_grow, box_covers}
use Rattle.log_rules.proofs.Growth.{state_grows, answers_grow}

-- the answers cover what the box holds
pub IsSafe : Problem → List Node → List (List Value) → Sides → Type 0
IsSafe p table answers box = (values : List Value) → IsSolution p values → InBox p.kinds table box values → IsCovered p answers values

pub record IsSound (p : Problem) (s : LogState) : Type 0 where
  pub table : IsTable s.table
  pub sides : (k : ℕ) (b : Sides) → slice_get s.boxes k ≡ Some b → AreSides p.kinds s.table b
  pub safe : (k : ℕ) (b : Sides) → slice_get s.boxes k ≡ Some b → IsSafe p s.table s.answers b
  pub answers : AreAnswers p s.answers

some_there : {X : Type 0} (o : Option X) → IsSome o → (x : X) × (o ≡ Some x)
some_there None h = absurd (let e : false ≡ true = h in cc)
some_there (Some x) h = (x, refl)

-- ---- answers

pub no_answers : (p : Problem) → AreAnswers p []
unfolding AreAnswers
no_answers p before rest values e = absurd (not_empty before rest values e)

pub one_more_answer : (p : Problem) (answers : List (List Value)) (values : List Value) → AreAnswers p answers → IsAnswer p answers values
    → AreAnswers p (answers ++ values ∷ [])
unfolding AreAnswers
one_more_answer p answers values are is before rest other e = elim (last_or_before answers values before rest other e) [
  | inl h ↦ subst (λ l. IsAnswer p l other) h.0 (subst (IsAnswer p answers) h.1 is)
  | inr h ↦ are before h.rest other h.whole
]

-- ---- the box of each kind of line

axiom_safe : (p : Problem) (s : LogState) (number constraint : ℕ) (sides : Sides) → HasScope p (lines.Axiom number constraint sides)
    → IsAxiom p s (lines.Axiom number constraint sides) → (answers : List (List Value)) → IsSafe p s.table answers sides
unfolding IsSafe
axiom_safe p s number constraint sides scope is answers values solution inside = by (slice_get p.constraints constraint) refl scope is
  where
    by : (o : Option Constraint) → slice_get p.constraints constraint ≡ o
        → IsSomeAnd o (λ c. All (λ side. Rattle.log_rules.specs.Rules.StandsIn c side.0) sides)
        → IfSome o (λ c. SomeSatisfy p.kinds s.table sides c → ⊥) → IsCovered p answers values
    by None e there no_values = absurd there
    by (Some c) e there no_values =
        absurd (no_values (record { values = values; assignment = solution.assignment; inside = inside; holds = all_of (λ k. Holds k values) p.constraints constraint c solution.constraints e }))

resolvent_safe : (p : Problem) (s : LogState) (number left right pivot : ℕ) (sides : Sides) → IsSound p s → pivot < length p.kinds
    → NamesBoxes s (lines.Resolvent number left right pivot sides) → IsResolved p s (lines.Resolvent number left right pivot sides) → IsSafe p s.table s.answers sides
unfolding IsSafe IsWithin LiesIn
resolvent_safe p s number left right pivot sides h there named lies values solution inside =
    let b = some_there (box_at s left) named.0 in
    let c = some_there (box_at s right) named.1 in
    let y = value_there p.kinds values solution.assignment pivot there in
    let within : IsWithin (resolvent (side_of p.kinds s.table b.0) (side_of p.kinds s.table c.0) pivot) values =
    λ v x at. lies b.0 c.0 b.1 c.1 v x (is_initial p.kinds values solution.assignment v x at) (inside v x at) in
    elim (resolved (side_of p.kinds s.table b.0) (side_of p.kinds s.table c.0) pivot values y.0 y.1 within) [
      | inl first ↦ h.safe left b.0 b.1 values solution first
      | inr second ↦ h.safe right c.0 c.1 values solution second
    ]

-- ---- one more line

more_covered : (p : Problem) (answers : List (List Value)) (answer values : List Value) → IsCovered p answers values → IsCovered p (answers ++ answer ∷ []) values
more_covered p answers answer values h = any_more (λ a. Covers p a values) answers answer h

one_more_box : (p : Problem) (s : LogState) (box : Sides) (answers : List (List Value)) (ends : List End) → IsSound p s → AreSides p.kinds s.table box
    → ((values : List Value) → IsCovered p s.answers values → IsCovered p answers values) → IsSafe p s.table answers box → AreAnswers p answers
    → IsSound p (record { begun = true; table = s.table; boxes = s.boxes ++ box ∷ []; answers = answers; ends = ends })
unfolding IsSafe
one_more_box p s box answers ends h sides more safe are = record {
  table = h.table;
  sides = λ k b is. elim (last_or_front s.boxes box k b is) [
    | inl old ↦ h.sides k b old
    | inr e ↦ subst (AreSides p.kinds s.table) e sides
  ];
  safe = λ k b is values solution inside. elim (last_or_front s.boxes box k b is) [
    | inl old ↦ more values (h.safe k b old values solution inside)
    | inr e ↦ safe values solution (subst (λ c. InBox p.kinds s.table c values) (sym e) inside)
  ];
  answers = are;
}

sound_after : (p : Problem) → IsProblem p → (s : LogState) (line : Line) → IsSound p s → IsValidAfter p s line → IsSound p (after s line)
unfolding IsValidAfter IsSafe
sound_after p legal s lines.Header h valid = record { table = h.table; sides = h.sides; safe = h.safe; answers = h.answers }
sound_after p legal s (lines.Node number place lo hi) h valid =
    let node : Node = record { place = place; lo = lo; hi = hi } in
    record {
      table = table_grows s.table node h.table (valid reason.Children);
      sides = λ k b is. sides_grow p.kinds s.table (node ∷ []) b h.table (h.sides k b is);
      safe = λ k b is values solution inside. h.safe k b is values solution (inside_before p.kinds s.table (node ∷ []) b values (h.sides k b is) inside);
      answers = h.answers;
    }
sound_after p legal s (lines.Axiom number constraint sides) h valid =
    one_more_box p s sides s.answers s.ends h (valid reason.Sides).sides (λ values c. c)
    (axiom_safe p s number constraint sides (valid reason.Scope) (valid reason.Axiom) s.answers) h.answers
sound_after p legal s (lines.Answer number values sides) h valid =
    let answer : List Value = map value_in values in
    let new : IsAnswer p s.answers answer = valid reason.Answer in
    one_more_box p s sides (s.answers ++ answer ∷ []) s.ends h (valid reason.Sides).sides (λ others c. more_covered p s.answers answer others c)
    (λ others solution inside. Any-push (λ a. Covers p a others) s.answers answer
    (box_covers p.kinds p.goal legal.goal answer others new.solution.assignment solution.assignment (side_of p.kinds s.table sides) (valid reason.AnswerBox) inside))
    (one_more_answer p s.answers answer h.answers new)
sound_after p legal s (lines.Resolvent number left right pivot sides) h valid =
    one_more_box p s sides s.answers s.ends h (valid reason.Sides).sides (λ values c. c)
    (resolvent_safe p s number left right pivot sides h (valid reason.Sides).pivot (valid reason.Boxes) (valid reason.Resolvent)) h.answers
sound_after p legal s (lines.Learned number) h valid = record { table = h.table; sides = h.sides; safe = h.safe; answers = h.answers }
sound_after p legal s (lines.Close number) h valid = record { table = h.table; sides = h.sides; safe = h.safe; answers = h.answers }
sound_after p legal s lines.End h valid = record { table = h.table; sides = h.sides; safe = h.safe; answers = h.answers }

-- ---- valid logs

sound_at_first : (p : Problem) → IsSound p (state_of [])
unfolding state_of table_of boxes_of listed_answers
sound_at_first p = record {
  table = empty_table;
  sides = λ k b is. absurd (nothing_at k b is);
  safe = λ k b is. absurd (nothing_at k b is);
  answers = no_answers p;
}

sound_from : (p : Problem) → IsProblem p → (rest before : List Line) → IsSound p (state_of before) → AreValid p (before ++ rest) → IsSound p (state_of (before ++ rest))
unfolding AreValid
sound_from p legal [] before h all = subst (λ l. IsSound p (state_of l)) (sym (append-nil before)) h
sound_from p legal (line ∷ rest) before h all =
    let parts : (before ++ line ∷ []) ++ rest ≡ before ++ line ∷ rest = append_assoc before (line ∷ []) rest in
    let next : IsSound p (state_of (before ++ line ∷ [])) = subst (IsSound p) (sym (state_grows before line)) (sound_after p legal (state_of before) line h (all before rest line refl)) in
    subst (λ l. IsSound p (state_of l)) parts (sound_from p legal rest (before ++ line ∷ []) next (subst (AreValid p) (sym parts) all))

pub sound : (p : Problem) → IsProblem p → (log : List Line) → AreValid p log → IsSound p (state_of log)
sound p legal log all = sound_from p legal log [] (sound_at_first p) all

-- ---- what the laws say

pub valid_table : (p : Problem) → IsProblem p → (log : List Line) → AreValid p log → IsTable (table_of log)
unfolding state_of
valid_table p legal log all = (sound p legal log all).table

pub valid_sides : (p : Problem) → IsProblem p → (log : List Line) → AreValid p log → (k : ℕ) (b : Sides) → slice_get (boxes_of log) k ≡ Some b → AreSides p.kinds (table_of log) b
unfolding state_of
valid_sides p legal log all = (sound p legal log all).sides

pub valid_boxes : (p : Problem) → IsProblem p → (log : List Line) → AreValid p log → (k : ℕ) (b : Sides) → slice_get (boxes_of log) k ≡ Some b
    → (values : List Value) → IsSolution p values → InBox p.kinds (table_of log) b values → IsCovered p (listed_answers log) values
unfolding state_of IsSafe
valid_boxes p legal log all = (sound p legal log all).safe

pub valid_answers : (p : Problem) → IsProblem p → (log : List Line) → AreValid p log → AreAnswers p (listed_answers log)
unfolding state_of
valid_answers p legal log all = (sound p legal log all).answers

-- a line that closes the log lists no answer, and what was listed covers all
closing : (p : Problem) (s : LogState) (line : Line) → end_in line ≡ Some Complete → IsSound p s → IsValidAfter p s line → CoverAll p s.answers × (answer_in line ≡ None)
unfolding IsValidAfter IsSafe CoverAll IsWithin LiesIn
closing p s lines.Header e h valid = absurd (cc)
closing p s (lines.Node number place lo hi) e h valid = absurd (cc)
closing p s (lines.Axiom number constraint sides) e h valid = absurd (cc)
closing p s (lines.Answer number values sides) e h valid = absurd (cc)
closing p s (lines.Resolvent number left right pivot sides) e h valid = absurd (cc)
closing p s (lines.Learned number) e h valid = absurd (cc)
closing p s (lines.Close number) e h valid =
    let b = some_there (box_at s number) (valid reason.Boxes) in
    ((λ values solution. h.safe number b.0 b.1 values solution (λ v x at. valid reason.Close b.0 b.1 v x (is_initial p.kinds values solution.assignment v x at) refl)), refl)
closing p s lines.End e h valid = absurd (cc)

pub closed_covers : (p : Problem) → IsProblem p → (log : List Line) → IsAcceptedLog p log Complete → CoverAll p (listed_answers log)
unfolding AreValid state_of
closed_covers p legal log accepted =
    let e = accepted.ends in
    let split : AreValid p e.before × IsValidLine p e.before e.last = (Rattle.log_rules.proofs.Growth.valid_more p e.before e.last).0 (subst (AreValid p) e.whole accepted.valid) in
    let covers = closing p (state_of e.before) e.last e.ending (sound p legal e.before split.0) split.1 in
    let same : listed_answers log ≡ listed_answers e.before = ap listed_answers e.whole ∙ answers_grow e.before e.last ∙ ap (with_some (listed_answers e.before)) covers.1 in
    subst (CoverAll p) (sym same) covers.0
