-- The memo: its entries stay right in a table that grows, and one entry more is right too.
use Rattle.std.proofs.Common.{◌≡◌, Bool, true, false, eqb, cond, ◌&&◌, List, [], Option, Some, None, Result, Ok, Err, Contains, refl, sym, ◌∙◌, ap, subst, inl, inr}
use Rattle.std.specs.Prelude.{IfSome, OnOk, OnErr}
use Rattle.lru.specs.LruCache.{LruCache, lru_cache, put_entries}
use Rattle.lru.proofs.CallerLemmas.{Contains-put_entries, Contains-lookup}
use Rattle.lru.proofs.Splits.{Contains-nil}
use mathlib.Core.Bool.{beq}
use Rattle.std.specs.Map.{lookup}
use Rattle.std.proofs.lemmas.Bool.{cases_Bool, eqb-true, and_parts}
use Rattle.diagram_arena.specs.declared.nodes.Ref.{Ref}
use Rattle.diagram_arena.specs.declared.nodes.Ref.TheVariants.{Zero, One, Node}
use Rattle.diagram_arena.specs.contracts.nodes.RefPartialEq.TheImpl.{eq-value as of_refs}
use Rattle.diagram_arena.specs.Table.{Table}
use Rattle.diagram_arena.specs.Arena.{Grows}
use Rattle.diagram_arena.proofs.Ids.{same_id}
use Rattle.diagram_ops.specs.declared.question.Op.{Op}
use Rattle.diagram_ops.specs.declared.question.Op.TheVariants.{And, Or, Diff}
use Rattle.diagram_ops.specs.declared.question.Question.{Question}
use Rattle.diagram_ops.specs.declared.question.Question.TheVariants.{Combine, Restrict}
use Rattle.diagram_ops.specs.contracts.question.OpPartialEq.TheImpl.{eq-value as of_ops}
use Rattle.diagram_ops.specs.contracts.question.QuestionPartialEq.TheImpl.{eq-value}
use Rattle.diagram_ops.specs.Steps.{IsAnswer, AreAnswers}
use Rattle.diagram_ops.specs.Memo.{IsMemo}
use Rattle.diagram_ops.proofs.Steps.{answer_grows}

-- the derived `==`, under the name that the toolchain gives it
abbrev pub derived : Question → Question → Bool
derived = eq-value.it

pub ref_true : (r s : Ref) → of_refs.it r s ≡ true → r ≡ s
ref_true Zero Zero e = refl
ref_true Zero One e = cc
ref_true Zero (Node j) e = cc
ref_true One Zero e = cc
ref_true One One e = refl
ref_true One (Node j) e = cc
ref_true (Node i) Zero e = cc
ref_true (Node i) One e = cc
ref_true (Node i) (Node j) e = ap Node (same_id i j (eqb-true i.0 j.0 e))

op_true : (a b : Op) → of_ops.it a b ≡ true → a ≡ b
op_true And And e = refl
op_true And Or e = cc
op_true And Diff e = cc
op_true Or And e = cc
op_true Or Or e = refl
op_true Or Diff e = cc
op_true Diff And e = cc
op_true Diff Or e = cc
op_true Diff Diff e = refl

bool_true : (v w : Bool) → beq v w ≡ true → v ≡ w
bool_true true true e = refl
bool_true true false e = cc
bool_true false true e = cc
bool_true false false e = refl

pub question_true : (p q : Question) → derived p q ≡ true → p ≡ q
question_true (Combine a f g) (Combine b h k) e =
    let ops = and_parts (of_ops.it a b) (of_refs.it f h && of_refs.it g k) e in
    let refs = and_parts (of_refs.it f h) (of_refs.it g k) ops.1 in
    let o : a ≡ b = op_true a b ops.0 in
    let x : f ≡ h = ref_true f h refs.0 in
    let y : g ≡ k = ref_true g k refs.1 in
    λ i. Combine (o i) (x i) (y i)
question_true (Combine a f g) (Restrict h c w) e = cc
question_true (Restrict f b v) (Combine a h k) e = cc
question_true (Restrict f b v) (Restrict h c w) e =
    let refs = and_parts (of_refs.it f h) (eqb b c && beq v w) e in
    let rest = and_parts (eqb b c) (beq v w) refs.1 in
    let x : f ≡ h = ref_true f h refs.0 in
    let y : b ≡ c = eqb-true b c rest.0 in
    let z : v ≡ w = bool_true v w rest.1 in
    λ i. Restrict (x i) (y i) (z i)

pub answers_grow : (t u : Table) (es : List (Question × Ref)) → Grows t u → AreAnswers t es → AreAnswers u es
answers_grow t u es grown known q r is = answer_grows t u grown q r (known q r is)

pub answers_put : (t : Table) (es fs : List (Question × Ref)) (p : Question) (s : Ref) → AreAnswers t es → IsAnswer t p s
    → ((q : Question) → lookup (derived q) fs ≡ cond (derived p q) (Some s) (lookup (derived q) es)) → AreAnswers t fs
answers_put t es fs p s known answer put q r is =
    elim (cases_Bool (derived p q)) [
      | inl same ↦
          let here : lookup (derived q) fs ≡ Some s = put q ∙ ap (λ b. cond b (Some s) (lookup (derived q) es)) same in
          let e : Some r ≡ Some s = sym is ∙ here in
          let e' : s ≡ r = (cc) in
          subst (λ x. IsAnswer t x r) (question_true p q same) (subst (IsAnswer t p) e' answer)
      | inr other ↦
          let there : lookup (derived q) fs ≡ lookup (derived q) es = put q ∙ ap (λ b. cond b (Some s) (lookup (derived q) es)) other in
          known q r (sym there ∙ is)
    ]

pub no_answers : (t : Table) (es : List (Question × Ref)) → es ≡ [] → AreAnswers t es
no_answers t es e = subst (AreAnswers t) (sym e) (λ q r is. let no : None ≡ Some r = is in absurd (cc))

pub memo_grows : (t u : Table) (es : List (Question × Ref)) → Grows t u → IsMemo t es → IsMemo u es
memo_grows t u es grown memo q r is = answer_grows t u grown q r (memo q r is)

-- what is found in the memo is right
pub recalled : (t : Table) (es : List (Question × Ref)) (q : Question) (o : Option Ref) → IsMemo t es → o ≡ lookup (derived q) es → IfSome o (IsAnswer t q)
recalled t es q None memo is = tt
recalled t es q (Some r) memo is =
    let found = Contains-lookup (derived q) es r (sym is) in
    subst (λ x. IsAnswer t x r) (sym (question_true q found.0 found.2)) (memo found.0 r found.1)

-- one answer more, or a memo that is as it was
pub memo_puts : {E : Type 0} (t : Table) (old new : LruCache Question Ref) (p : Question) (s : Ref) (o : Result (Option Ref) E) → IsMemo t old.entries → IsAnswer t p s
    → OnOk o (new ≡ lru_cache (put_entries derived old p s) old.cap) → OnErr o (new ≡ old) → IsMemo t new.entries
memo_puts t old new p s (Err e) memo answer put kept q r is = memo q r (subst (λ (m : LruCache Question Ref). Contains {X = Question × Ref} m.entries (q, r)) kept is)
memo_puts t old new p s (Ok x) memo answer put kept q r is =
    let there : Contains {X = Question × Ref} (put_entries derived old p s) (q, r) = subst (λ (m : LruCache Question Ref). Contains {X = Question × Ref} m.entries (q, r)) put is in
    elim (Contains-put_entries derived old p s (q, r) there) [
      | inl was ↦ memo q r was
      | inr here ↦
          let same : q ≡ p = elim here.1 [ inl e ↦ e | inr was ↦ sym (question_true p q was.2) ] in
          subst (λ x. IsAnswer t x r) (sym same) (subst (IsAnswer t p) (sym here.0) answer)
    ]

pub memo_empty : (t : Table) → IsMemo t []
memo_empty t q r is = absurd (Contains-nil {X = Question × Ref} (q, r) is)
