-- A log is accepted, or it is refused at one line and for one reason.
use Rattle.std.proofs.Common.{◌≡◌, ◌≢◌, ◌↔◌, ℕ, ◌+◌, ◌<◌, ◌≤◌, false, List, [], ◌∷◌, ◌++◌, length, refl, ap, sym, ◌∙◌, subst, arith, append_assoc, append-nil, length-append, length-take, get_or, drop, ◌⊎◌, inl, inr}
use Rattle.std.specs.Prelude.{Some, None, codes}
use Rattle.std.specs.List.{AllByRecursion, before_first, position_or_len}
use Rattle.std.proofs.lemmas.Bool.{ne_eqb}
use Rattle.std.proofs.lemmas.List.Elements.{recursion_from_All}
use Rattle.set_meaning.specs.declared.problems.Problem.{Problem}
use Rattle.desk.specs.Lines.{line_limit, is_newline}
use Rattle.log_text.specs.declared.line.Line.{Line}
use Rattle.log_text.specs.Spelling.{HasSpelling, spelling, IsLog}
use Rattle.log_rules.specs.declared.reasons.Reason.{Reason}
use Rattle.log_rules.specs.declared.reasons.End.{End}
use Rattle.log_rules.specs.States.{LogState, state_of, ends_of, listed_answers}
use Rattle.log_rules.specs.Rules.{Reads, IsFirstReason, IsRefusedFor, IsValidAfter}
use Rattle.log_rules.specs.Logs.{AreValid, IsValidLine, EndsAs}
use Rattle.check_top.specs.Verdicts.{AreShort, IsAccepted, IsRefusedNext, IsRefusedAt, HasBadLine, HasLongLine, HasNoNewline}
use Rattle.check_top.proofs.LogsRead.{text_of}

-- ---- bytes up to a newline

first_same : {a b : ℕ} {xs ys : List ℕ} → a ∷ xs ≡ b ∷ ys → a ≡ b
first_same {a} e = ap (λ l. get_or l 0 a) e

others_same : {a b : ℕ} {xs ys : List ℕ} → a ∷ xs ≡ b ∷ ys → xs ≡ ys
others_same e = ap (λ l. drop 1 l) e

abbrev HasNone : List ℕ → Type 0
HasNone xs = AllByRecursion (λ b. b ≢ 10) xs

cut : (x y more rest : List ℕ) → HasNone x → HasNone y → x ++ 10 ∷ more ≡ y ++ 10 ∷ rest → (x ≡ y) × (more ≡ rest)
cut [] [] more rest a b e = (refl, others_same e)
cut [] (c ∷ y) more rest a b e = absurd (b.0 (sym (first_same e)))
cut (c ∷ x) [] more rest a b e = absurd (a.0 (first_same e))
cut (c ∷ x) (d ∷ y) more rest a b e =
    let h = cut x y more rest a.1 b.1 (others_same e) in
    (ap (λ z. z ∷ x) (first_same e) ∙ ap (λ z. d ∷ z) h.0, h.1)

newline_there : (x more : List ℕ) → HasNone (x ++ 10 ∷ more) → ⊥
newline_there [] more none = none.0 refl
newline_there (c ∷ x) more none = newline_there x more none.1

line_before : (x more : List ℕ) → HasNone x → position_or_len is_newline (x ++ 10 ∷ more) ≡ length x
line_before [] more none = refl
line_before (c ∷ x) more none =
    let other : is_newline c ≡ false = ne_eqb c 10 none.0 in
    rw other (ap (λ n. 1 + n) (line_before x more none.1) ∙ omega arith)

not_long : (x more : List ℕ) → HasNone x → line_limit < length (before_first is_newline (x ++ 10 ∷ more)) → length x ≤ line_limit → ⊥
not_long x more none long short =
    omega (arith, long, short, length-take (position_or_len is_newline (x ++ 10 ∷ more)) (x ++ 10 ∷ more), line_before x more none)

some_there : (x more : List ℕ) → x ++ 10 ∷ more ≡ [] → ⊥
some_there x more e = omega (arith, ap length e, length-append x (10 ∷ more))

first_line : (l : Line) (log : List Line) (rest : List ℕ) → text_of (l ∷ log) ++ rest ≡ spelling l ++ 10 ∷ (text_of log ++ rest)
first_line l log rest =
    append_assoc (spelling l ++ codes "\n") (text_of log) rest ∙ append_assoc (spelling l) (codes "\n") (text_of log ++ rest)

module _ (p : Problem)
    (one_line : (line : Line) → HasSpelling line → AllByRecursion (λ b. b ≢ 10) (spelling line))
    (same_lines : (a b : Line) → HasSpelling a → HasSpelling b → spelling a ≡ spelling b → a ≡ b)
    (one : (s : LogState) (text : List ℕ) (first second : Reason) → IsRefusedFor p s text first → IsRefusedFor p s text second → first ≡ second)
    (not_valid : (s : LogState) (text : List ℕ) (reason : Reason) (line : Line) → IsRefusedFor p s text reason → Reads text (Some line) → IsValidAfter p s line → ⊥)
    (closed : (log : List Line) (end : End) → AreValid p log → (ends_of log ≡ end ∷ []) ↔ EndsAs log end) where
  -- ---- two fronts of the same bytes

  -- the second goes on behind the first
  abbrev GoesOn : (g v : List Line) (a b : List ℕ) → Type 0
  GoesOn g v a b = (m : Line) × ((more : List Line) × ((v ≡ g ++ m ∷ more) × (a ≡ spelling m ++ 10 ∷ (text_of more ++ b))))

  -- the second is a front of the first
  abbrev IsPart : (g v : List Line) (a b : List ℕ) → Type 0
  IsPart g v a b = (more : List Line) × ((g ≡ v ++ more) × (b ≡ text_of more ++ a))

  align : (g v : List Line) (a b : List ℕ) → AllByRecursion HasSpelling g → AllByRecursion HasSpelling v → text_of g ++ a ≡ text_of v ++ b → GoesOn g v a b ⊎ IsPart g v a b
  align [] [] a b x y e = inr ([], (refl, sym e))
  align [] (m ∷ more) a b x y e = inl (m, (more, (refl, e ∙ first_line m more b)))
  align (m ∷ more) [] a b x y e = inr (m ∷ more, (refl, sym e))
  align (l ∷ g) (k ∷ v) a b x y e =
      let h = cut (spelling l) (spelling k) (text_of g ++ a) (text_of v ++ b) (one_line l x.0) (one_line k y.0) (sym (first_line l g a) ∙ e ∙ first_line k v b) in
      let same : l ≡ k = same_lines l k x.0 y.0 h.0 in
      next same (align g v a b x.1 y.1 h.1)
    where
      next : l ≡ k → GoesOn g v a b ⊎ IsPart g v a b → GoesOn (l ∷ g) (k ∷ v) a b ⊎ IsPart (l ∷ g) (k ∷ v) a b
      next same (inl (m, (more, (is, left)))) = inl (m, (more, (ap (λ z. z ∷ v) (sym same) ∙ ap (λ z. l ∷ z) is, left)))
      next same (inr (more, (is, left))) = inr (more, (ap (λ z. z ∷ g) same ∙ ap (λ z. k ∷ z) is, left))

  -- ---- what is refused is not followed by a valid line

  no_next : (s : LogState) (rest more : List ℕ) (r : Reason) (m : Line) → IsRefusedNext p s rest r → HasSpelling m → length (spelling m) ≤ line_limit → IsValidAfter p s m
      → rest ≡ spelling m ++ 10 ∷ more → ⊥
  no_next s rest more r m (inl early) fits short valid e = some_there (spelling m) more (sym e ∙ early.none)
  no_next s rest more r m (inr (inl bad)) fits short valid e =
      let h = cut bad.line (spelling m) bad.more more (recursion_from_All (λ b. b ≢ 10) bad.line bad.whole.one) (one_line m fits) (sym bad.front ∙ e) in
      not_valid s bad.line r m bad.refused (fits, h.0) valid
  no_next s rest more r m (inr (inr (inl long))) fits short valid e =
      not_long (spelling m) more (one_line m fits) (subst (λ xs. line_limit < length (before_first is_newline xs)) e long.long) short
  no_next s rest more r m (inr (inr (inr none))) fits short valid e =
      newline_there (spelling m) more (subst (λ xs. HasNone xs) e (recursion_from_All (λ b. b ≢ 10) rest none.unended))

  at_place : (P : Line → Type 0) (g more : List Line) (m : Line) → AllByRecursion P (g ++ m ∷ more) → P m
  at_place P [] more m all = all.0
  at_place P (l ∷ g) more m all = at_place P g more m all.1

  valid_next : (v g more : List Line) (m : Line) → AreValid p v → v ≡ g ++ m ∷ more → IsValidLine p g m
  unfolding AreValid
  valid_next v g more m valid e = valid g more m e

  -- other lines in front of the same bytes are a front of those before the refused one
  stays_behind : (bytes : List ℕ) (number : ℕ) (r : Reason) (refused : IsRefusedAt p bytes number r) (v : List Line) (b : List ℕ)
      → AllByRecursion HasSpelling v → AreShort v → AreValid p v → bytes ≡ text_of v ++ b → IsPart refused.log v refused.rest b
  stays_behind bytes number r refused v b fits short valid e =
      from (align refused.log v refused.rest b refused.spelled.spelled.spelled fits
      (ap (λ f. f ++ refused.rest) (sym refused.spelled.spelled.whole) ∙ sym refused.whole ∙ e))
    where
      from : GoesOn refused.log v refused.rest b ⊎ IsPart refused.log v refused.rest b → IsPart refused.log v refused.rest b
      from (inr part) = part
      from (inl (m, (more, (is, left)))) = absurd (no_next (state_of refused.log) refused.rest (text_of more ++ b) r m refused.next
          (at_place HasSpelling refused.log more m (subst (λ z. AllByRecursion HasSpelling z) is fits))
          (at_place (λ l. length (spelling l) ≤ line_limit) refused.log more m (subst (λ z. AreShort z) is short))
          (valid_next v refused.log more m valid is) left)

  -- ---- the laws

  nothing_left : (more : List Line) (rest : List ℕ) → [] ≡ text_of more ++ rest → (more ≡ []) × (rest ≡ [])
  nothing_left [] rest e = (refl, sym e)
  nothing_left (m ∷ more) rest e = absurd (some_there (spelling m) (text_of more ++ rest) (sym (first_line m more rest) ∙ sym e))

  abbrev IsLate : LogState → List ℕ → Reason → Type 0
  IsLate s rest r = HasBadLine p s rest r ⊎ HasLongLine p s rest r ⊎ HasNoNewline p s rest r

  not_empty : (s : LogState) (rest : List ℕ) (r : Reason) → IsLate s rest r → rest ≡ [] → ⊥
  not_empty s rest r (inl bad) none = some_there bad.line bad.more (sym bad.front ∙ none)
  not_empty s rest r (inr (inl long)) none = omega (arith, long.long, ap (λ xs. length (before_first is_newline xs)) none)
  not_empty s rest r (inr (inr some)) none = omega (arith, some.some, ap length none)

  not_here : (log : List Line) (rest : List ℕ) (end : End) (r : Reason) → AreValid p log → EndsAs log end → rest ≡ [] → IsRefusedNext p (state_of log) rest r → ⊥
  unfolding state_of
  not_here log rest end r valid ends none (inl early) =
      let h : ends_of log ≡ end ∷ [] = (closed log end valid).1 ends in
      omega (arith, ap length h, ap length early.going)
  not_here log rest end r valid ends none (inr late) = not_empty (state_of log) rest r late none

  -- bytes that are no line are refused for one reason, as a newline alone is
  none_once : (s : LogState) (r q : Reason) → IsFirstReason p s None r → IsFirstReason p s None q → r ≡ q
  none_once s r q a b =
      let reads : Reads (10 ∷ []) None = λ line fits e. (subst (λ xs. HasNone xs) (sym e) (one_line line fits)).0 refl in
      one s (10 ∷ []) r q (record { reading = None; reads = reads; first = a }) (record { reading = None; reads = reads; first = b })

  bad_once : (s : LogState) (rest : List ℕ) (r q : Reason) → HasBadLine p s rest r → HasBadLine p s rest q → r ≡ q
  bad_once s rest r q a b =
      let h = cut a.line b.line a.more b.more (recursion_from_All (λ c. c ≢ 10) a.line a.whole.one) (recursion_from_All (λ c. c ≢ 10) b.line b.whole.one) (sym a.front ∙ b.front) in
      one s a.line r q a.refused (subst (λ t. IsRefusedFor p s t q) (sym h.0) b.refused)

  bad_not_long : (s : LogState) (rest : List ℕ) (r q : Reason) → HasBadLine p s rest r → HasLongLine p s rest q → ⊥
  bad_not_long s rest r q a b =
      not_long a.line a.more (recursion_from_All (λ c. c ≢ 10) a.line a.whole.one)
      (subst (λ xs. line_limit < length (before_first is_newline xs)) a.front b.long) a.whole.short

  bad_not_unended : (s : LogState) (rest : List ℕ) (r q : Reason) → HasBadLine p s rest r → HasNoNewline p s rest q → ⊥
  bad_not_unended s rest r q a b = newline_there a.line a.more (subst (λ xs. HasNone xs) a.front (recursion_from_All (λ c. c ≢ 10) rest b.unended))

  late_once : (s : LogState) (rest : List ℕ) (r q : Reason) → IsLate s rest r → IsLate s rest q → r ≡ q
  late_once s rest r q (inl a) (inl b) = bad_once s rest r q a b
  late_once s rest r q (inl a) (inr (inl b)) = absurd (bad_not_long s rest r q a b)
  late_once s rest r q (inl a) (inr (inr b)) = absurd (bad_not_unended s rest r q a b)
  late_once s rest r q (inr (inl a)) (inl b) = absurd (bad_not_long s rest q r b a)
  late_once s rest r q (inr (inl a)) (inr (inl b)) = none_once s r q a.first b.first
  late_once s rest r q (inr (inl a)) (inr (inr b)) = none_once s r q a.first b.first
  late_once s rest r q (inr (inr a)) (inl b) = absurd (bad_not_unended s rest q r b a)
  late_once s rest r q (inr (inr a)) (inr (inl b)) = none_once s r q a.first b.first
  late_once s rest r q (inr (inr a)) (inr (inr b)) = none_once s r q a.first b.first

  reason_once : (s : LogState) (rest : List ℕ) (r q : Reason) → IsRefusedNext p s rest r → IsRefusedNext p s rest q → r ≡ q
  reason_once s rest r q (inl a) (inl b) = a.reason ∙ sym b.reason
  reason_once s rest r q (inl a) (inr b) = absurd (not_empty s rest q b a.none)
  reason_once s rest r q (inr a) (inl b) = absurd (not_empty s rest r a b.none)
  reason_once s rest r q (inr a) (inr b) = late_once s rest r q a b

  pub not_both : (bytes : List ℕ) (end : End) (answers number : ℕ) (r : Reason) → IsAccepted p bytes end answers → IsRefusedAt p bytes number r → ⊥
  not_both bytes end answers number r accepted refused =
      let v = accepted.log in
      let whole : bytes ≡ text_of v ++ [] = accepted.spelled.spelled.whole ∙ sym (append-nil (text_of v)) in
      let part = stays_behind bytes number r refused v [] accepted.spelled.spelled.spelled accepted.spelled.short accepted.accepted.valid whole in
      let left = nothing_left part.0 refused.rest part.1.1 in
      let same : refused.log ≡ v = part.1.0 ∙ ap (λ m. v ++ m) left.0 ∙ append-nil v in
      let N : List Line → Type 0 = λ log. IsRefusedNext p (state_of log) refused.rest r in
      not_here v refused.rest end r accepted.accepted.valid accepted.accepted.ends left.1 (subst N same refused.next)

  no_more : (more : List Line) → length more ≡ 0 → more ≡ []
  no_more [] e = refl
  no_more (m ∷ more) e = absurd (omega (arith, e))

  part_of : (bytes : List ℕ) (number other : ℕ) (r q : Reason) (a : IsRefusedAt p bytes number r) (b : IsRefusedAt p bytes other q) → IsPart a.log b.log a.rest b.rest
  part_of bytes number other r q a b =
      stays_behind bytes number r a b.log b.rest b.spelled.spelled.spelled b.spelled.short b.valid (b.whole ∙ ap (λ f. f ++ b.rest) b.spelled.spelled.whole)

  pub refused_once : (bytes : List ℕ) (number other : ℕ) (r q : Reason) → IsRefusedAt p bytes number r → IsRefusedAt p bytes other q → (number ≡ other) × (r ≡ q)
  refused_once bytes number other r q a b =
      let there = part_of bytes number other r q a b in
      let back = part_of bytes other number q r b a in
      let none : there.0 ≡ [] = no_more there.0 (omega (arith, ap length there.1.0, ap length back.1.0, length-append b.log there.0, length-append a.log back.0)) in
      let logs : a.log ≡ b.log = there.1.0 ∙ ap (λ m. b.log ++ m) none ∙ append-nil b.log in
      let rests : b.rest ≡ a.rest = there.1.1 ∙ ap (λ m. text_of m ++ a.rest) none in
      let N : List Line → Type 0 = λ log. IsRefusedNext p (state_of log) b.rest q in
      let R : List ℕ → Type 0 = λ rest. IsRefusedNext p (state_of a.log) rest q in (
        a.place ∙ ap (λ log. length log + 1) logs ∙ sym b.place,
        reason_once (state_of a.log) a.rest r q a.next (subst R rests (subst N (sym logs) b.next)),
      )

  pub accepted_once : (bytes : List ℕ) (end last : End) (answers count : ℕ) → ((text : List ℕ) (first second : List Line) → IsLog text first → IsLog text second → first ≡ second)
      → IsAccepted p bytes end answers → IsAccepted p bytes last count → (end ≡ last) × (answers ≡ count)
  accepted_once bytes end last answers count same_logs a b =
      let logs : a.log ≡ b.log = same_logs bytes a.log b.log a.spelled.spelled b.spelled.spelled in
      let first : ends_of a.log ≡ end ∷ [] = (closed a.log end a.accepted.valid).1 a.accepted.ends in
      let second : ends_of b.log ≡ last ∷ [] = (closed b.log last b.accepted.valid).1 b.accepted.ends in
      (same_head (sym first ∙ ap ends_of logs ∙ second), a.count ∙ ap (λ log. length (listed_answers log)) logs ∙ sym b.count)
    where
      same_head : end ∷ [] ≡ last ∷ [] → end ≡ last
      same_head e = cc
