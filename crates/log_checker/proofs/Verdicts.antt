-- The first rule that a line breaks, rule by rule.
use Rattle.std.proofs.Common.{◌≡◌, ℕ, ◌+◌, ◌<◌, List, [], ◌∷◌, Option, Some, None, refl, sym, ap, ◌∙◌, subst, inl, inr, arith, get_or}
use Rattle.std.specs.Prelude.{◌↔◌, Bool, true, false, cond, length, map, option_to_list, slice_get, All, IfSome, IsTrue, IsSome, IsSomeAnd, is_some}
use Rattle.std.proofs.lemmas.Option.{slice_get_within}
use Rattle.std.proofs.lemmas.Bool.Decides.{eqb_tells}
use Rattle.set_meaning.specs.declared.problems.Constraint.{Constraint}
use Rattle.set_meaning.specs.declared.problems.Problem.{Problem}
use Rattle.set_meaning.specs.declared.kinds.Value.{Value}
use Rattle.set_meaning.specs.Solutions.{IsAnswer}
use Rattle.log_rules.specs.declared.reasons.End.{End}
use Rattle.log_text.specs.declared.line.Line.{Line}
use Rattle.log_text.specs.declared.line.Line.TheVariants as lines
use Rattle.log_text.specs.declared.line.LogValue.{LogValue}
use Rattle.log_rules.specs.Boxes.{Sides, LiesIn, SomeSatisfy, everything, resolvent, side_of}
use Rattle.log_rules.specs.Rules.{HasScope, IsAxiom, IsResolved, HoldsEverything, StandsIn, IsBoxOf, IsNewAnswer, IsAnswerBox}
use Rattle.log_rules.specs.declared.reasons.Reason.{Reason}
use Rattle.log_rules.specs.declared.reasons.Reason.TheVariants as reason
use Rattle.log_rules.specs.Numbers.{turn_of}
use Rattle.log_rules.specs.States.{LogState, box_at, value_in}
use Rattle.log_rules.specs.Rules.{Keeps, IsValidAfter, IsFirstReason, IsInPlace}
use Rattle.log_checker.specs.Words.{KeepsBefore, IsVerdict}

reasons : List Reason
reasons = reason.End ∷ reason.Form ∷ reason.Number ∷ reason.Children ∷ reason.Sides ∷ reason.Scope ∷ reason.Axiom ∷ reason.Boxes ∷ reason.Resolvent ∷ reason.Answer ∷ reason.AnswerBox ∷ reason.Close ∷ []

back : (r : Reason) → get_or reasons (turn_of r) reason.End ≡ r
unfolding reasons
back reason.Form = refl
back reason.Number = refl
back reason.Children = refl
back reason.Sides = refl
back reason.Scope = refl
back reason.Axiom = refl
back reason.Boxes = refl
back reason.Resolvent = refl
back reason.Answer = refl
back reason.AnswerBox = refl
back reason.Close = refl
back reason.End = refl

pub keeps_none : (p : Problem) (s : LogState) (line : Line) → KeepsBefore p s line 0
unfolding KeepsBefore
keeps_none p s line q before = absurd (omega arith)

-- one rule more is kept
pub one_more : (p : Problem) (s : LogState) (line : Line) (r : Reason) → KeepsBefore p s line (turn_of r) → Keeps p s r (Some line) → KeepsBefore p s line (turn_of r + 1)
unfolding KeepsBefore
one_more p s line r before kept q within = elim (eqb_tells (turn_of q) (turn_of r)) [
  | inl h ↦ subst (λ o. Keeps p s o (Some line)) (sym (back r) ∙ ap (λ n. get_or reasons n reason.End) (sym h.1) ∙ back q) kept
  | inr h ↦ before q (let apart : turn_of q ≡ turn_of r → ⊥ = h.1 in grind arith)
]

turns : (r : Reason) → turn_of r < 12
turns reason.Form = omega arith
turns reason.Number = omega arith
turns reason.Children = omega arith
turns reason.Sides = omega arith
turns reason.Scope = omega arith
turns reason.Axiom = omega arith
turns reason.Boxes = omega arith
turns reason.Resolvent = omega arith
turns reason.Answer = omega arith
turns reason.AnswerBox = omega arith
turns reason.Close = omega arith
turns reason.End = omega arith

pub all_kept : (p : Problem) (s : LogState) (line : Line) → KeepsBefore p s line 12 → IsValidAfter p s line
unfolding KeepsBefore IsValidAfter
all_kept p s line before r = before r (turns r)

pub is_first : (p : Problem) (s : LogState) (line : Line) (r : Reason) → KeepsBefore p s line (turn_of r) → (Keeps p s r (Some line) → ⊥) → IsFirstReason p s (Some line) r
unfolding KeepsBefore
is_first p s line r before broken = record { broken = broken; kept = before }

-- ---- rules that say nothing of a line of its kind

pub header_rest : (p : Problem) (s : LogState) → KeepsBefore p s lines.Header 2 → KeepsBefore p s lines.Header 12
header_rest p s k = one_more p s lines.Header reason.Close (one_more p s lines.Header reason.AnswerBox (one_more p s lines.Header reason.Answer (one_more p s lines.Header reason.Resolvent (one_more p s lines.Header reason.Boxes (one_more p s lines.Header reason.Axiom (one_more p s lines.Header reason.Scope (one_more p s lines.Header reason.Sides (one_more p s lines.Header reason.Children (one_more p s lines.Header reason.Number k tt) tt) (record { sides = tt; pivot = tt })) tt) tt) tt) tt) tt) tt) tt

pub end_rest : (p : Problem) (s : LogState) → KeepsBefore p s lines.End 2 → KeepsBefore p s lines.End 12
end_rest p s k = one_more p s lines.End reason.Close (one_more p s lines.End reason.AnswerBox (one_more p s lines.End reason.Answer (one_more p s lines.End reason.Resolvent (one_more p s lines.End reason.Boxes (one_more p s lines.End reason.Axiom (one_more p s lines.End reason.Scope (one_more p s lines.End reason.Sides (one_more p s lines.End reason.Children (one_more p s lines.End reason.Number k tt) tt) (record { sides = tt; pivot = tt })) tt) tt) tt) tt) tt) tt) tt

pub node_rest : (p : Problem) (s : LogState) (number place lo hi : ℕ) → KeepsBefore p s (lines.Node number place lo hi) 4 → KeepsBefore p s (lines.Node number place lo hi) 12
node_rest p s number place lo hi k = one_more p s (lines.Node number place lo hi) reason.Close (one_more p s (lines.Node number place lo hi) reason.AnswerBox (one_more p s (lines.Node number place lo hi) reason.Answer (one_more p s (lines.Node number place lo hi) reason.Resolvent (one_more p s (lines.Node number place lo hi) reason.Boxes (one_more p s (lines.Node number place lo hi) reason.Axiom (one_more p s (lines.Node number place lo hi) reason.Scope (one_more p s (lines.Node number place lo hi) reason.Sides k (record { sides = tt; pivot = tt })) tt) tt) tt) tt) tt) tt) tt

pub axiom_children : (p : Problem) (s : LogState) (number constraint : ℕ) (sides : Sides) → KeepsBefore p s (lines.Axiom number constraint sides) 3 → KeepsBefore p s (lines.Axiom number constraint sides) 4
axiom_children p s number constraint sides k = one_more p s (lines.Axiom number constraint sides) reason.Children k tt

pub axiom_rest : (p : Problem) (s : LogState) (number constraint : ℕ) (sides : Sides) → KeepsBefore p s (lines.Axiom number constraint sides) 7 → KeepsBefore p s (lines.Axiom number constraint sides) 12
axiom_rest p s number constraint sides k = one_more p s (lines.Axiom number constraint sides) reason.Close (one_more p s (lines.Axiom number constraint sides) reason.AnswerBox (one_more p s (lines.Axiom number constraint sides) reason.Answer (one_more p s (lines.Axiom number constraint sides) reason.Resolvent (one_more p s (lines.Axiom number constraint sides) reason.Boxes k tt) tt) tt) tt) tt

pub answer_children : (p : Problem) (s : LogState) (number : ℕ) (values : List LogValue) (sides : Sides) → KeepsBefore p s (lines.Answer number values sides) 3 → KeepsBefore p s (lines.Answer number values sides) 4
answer_children p s number values sides k = one_more p s (lines.Answer number values sides) reason.Children k tt

pub answer_boxes : (p : Problem) (s : LogState) (number : ℕ) (values : List LogValue) (sides : Sides) → KeepsBefore p s (lines.Answer number values sides) 5 → KeepsBefore p s (lines.Answer number values sides) 9
answer_boxes p s number values sides k = one_more p s (lines.Answer number values sides) reason.Resolvent (one_more p s (lines.Answer number values sides) reason.Boxes (one_more p s (lines.Answer number values sides) reason.Axiom (one_more p s (lines.Answer number values sides) reason.Scope k tt) tt) tt) tt

pub answer_rest : (p : Problem) (s : LogState) (number : ℕ) (values : List LogValue) (sides : Sides) → KeepsBefore p s (lines.Answer number values sides) 11 → KeepsBefore p s (lines.Answer number values sides) 12
answer_rest p s number values sides k = one_more p s (lines.Answer number values sides) reason.Close k tt

pub resolvent_children : (p : Problem) (s : LogState) (number left right pivot : ℕ) (sides : Sides) → KeepsBefore p s (lines.Resolvent number left right pivot sides) 3 → KeepsBefore p s (lines.Resolvent number left right pivot sides) 4
resolvent_children p s number left right pivot sides k = one_more p s (lines.Resolvent number left right pivot sides) reason.Children k tt

pub resolvent_axiom : (p : Problem) (s : LogState) (number left right pivot : ℕ) (sides : Sides) → KeepsBefore p s (lines.Resolvent number left right pivot sides) 5 → KeepsBefore p s (lines.Resolvent number left right pivot sides) 7
resolvent_axiom p s number left right pivot sides k = one_more p s (lines.Resolvent number left right pivot sides) reason.Axiom (one_more p s (lines.Resolvent number left right pivot sides) reason.Scope k tt) tt

pub resolvent_rest : (p : Problem) (s : LogState) (number left right pivot : ℕ) (sides : Sides) → KeepsBefore p s (lines.Resolvent number left right pivot sides) 9 → KeepsBefore p s (lines.Resolvent number left right pivot sides) 12
resolvent_rest p s number left right pivot sides k = one_more p s (lines.Resolvent number left right pivot sides) reason.Close (one_more p s (lines.Resolvent number left right pivot sides) reason.AnswerBox (one_more p s (lines.Resolvent number left right pivot sides) reason.Answer k tt) tt) tt

pub learned_first : (p : Problem) (s : LogState) (number : ℕ) → KeepsBefore p s (lines.Learned number) 2 → KeepsBefore p s (lines.Learned number) 7
learned_first p s number k = one_more p s (lines.Learned number) reason.Axiom (one_more p s (lines.Learned number) reason.Scope (one_more p s (lines.Learned number) reason.Sides (one_more p s (lines.Learned number) reason.Children (one_more p s (lines.Learned number) reason.Number k tt) tt) (record { sides = tt; pivot = tt })) tt) tt

pub learned_rest : (p : Problem) (s : LogState) (number : ℕ) → KeepsBefore p s (lines.Learned number) 8 → KeepsBefore p s (lines.Learned number) 12
learned_rest p s number k = one_more p s (lines.Learned number) reason.Close (one_more p s (lines.Learned number) reason.AnswerBox (one_more p s (lines.Learned number) reason.Answer (one_more p s (lines.Learned number) reason.Resolvent k tt) tt) tt) tt

pub close_first : (p : Problem) (s : LogState) (number : ℕ) → KeepsBefore p s (lines.Close number) 2 → KeepsBefore p s (lines.Close number) 7
close_first p s number k = one_more p s (lines.Close number) reason.Axiom (one_more p s (lines.Close number) reason.Scope (one_more p s (lines.Close number) reason.Sides (one_more p s (lines.Close number) reason.Children (one_more p s (lines.Close number) reason.Number k tt) tt) (record { sides = tt; pivot = tt })) tt) tt

pub close_answers : (p : Problem) (s : LogState) (number : ℕ) → KeepsBefore p s (lines.Close number) 8 → KeepsBefore p s (lines.Close number) 11
close_answers p s number k = one_more p s (lines.Close number) reason.AnswerBox (one_more p s (lines.Close number) reason.Answer (one_more p s (lines.Close number) reason.Resolvent k tt) tt) tt

pub never : IsTrue false → ⊥
never h = absurd (let e : false ≡ true = h in cc)

pub is_there : {X : Type 0} (o : Option X) (x : X) → o ≡ Some x → IsSome o
is_there o x is = ap is_some is

pub not_there : {X : Type 0} (o : Option X) → o ≡ None → IsSome o → ⊥
not_there o is h = let e : false ≡ true = sym (ap is_some is) ∙ h in absurd (cc)

-- the last rule that may be broken, by its test
pub last_rule : (p : Problem) (s : LogState) (line : Line) (r : Reason) (o : Option Reason) (b : Bool) → o ≡ cond b None (Some r) → KeepsBefore p s line (turn_of r)
    → IsTrue b ↔ Keeps p s r (Some line) → (KeepsBefore p s line (turn_of r + 1) → KeepsBefore p s line 12) → IsVerdict p s line o
last_rule p s line r o true e before test rest =
    subst (IsVerdict p s line) (sym e) (all_kept p s line (rest (one_more p s line r before (test.0 refl))))
last_rule p s line r o false e before test rest = subst (IsVerdict p s line) (sym e) (is_first p s line r before (λ h. never (test.1 h)))

if_some_at : {X : Type 0} (o : Option X) (P : X → Type 0) → ((x : X) → o ≡ Some x → P x) → IfSome o P
if_some_at None P f = tt
if_some_at (Some x) P f = f x refl

if_some_of : {X : Type 0} (o : Option X) (P : X → Type 0) (x : X) → o ≡ Some x → IfSome o P → P x
if_some_of o P x e h = subst (λ q. IfSome q P) e h

pub scope_at : (p : Problem) (n : ℕ) (sides : Sides) → HasScope p (lines.Axiom 0 n sides) → (c : Constraint) × (slice_get p.constraints n ≡ Some c)
scope_at p n sides h = by (slice_get p.constraints n) h
  where
    by : (o : Option Constraint) → IsSomeAnd o (λ c. All (λ side. StandsIn c side.0) sides) → (c : Constraint) × (o ≡ Some c)
    by None h = absurd h
    by (Some c) h = (c, refl)

pub scope_within : (p : Problem) (n : ℕ) (sides : Sides) → HasScope p (lines.Axiom 0 n sides) → n < length p.constraints
scope_within p n sides h = let c = scope_at p n sides h in slice_get_within p.constraints n c.0 c.1

pub scope_stands : (p : Problem) (n : ℕ) (sides : Sides) → HasScope p (lines.Axiom 0 n sides) → (k : Constraint) → slice_get p.constraints n ≡ Some k → All (λ side. StandsIn k side.0) sides
scope_stands p n sides h k is = subst (λ o. IsSomeAnd o (λ c. All (λ side. StandsIn c side.0) sides)) is h

pub axiom_broken : (p : Problem) (s : LogState) (number n : ℕ) (sides : Sides) (b : Bool) → HasScope p (lines.Axiom 0 n sides)
    → ((k : Constraint) → slice_get p.constraints n ≡ Some k → IsTrue b ↔ SomeSatisfy p.kinds s.table sides k) → IsTrue b → IsAxiom p s (lines.Axiom number n sides) → ⊥
axiom_broken p s number n sides b scope test on h =
    let c = scope_at p n sides scope in
    if_some_of (slice_get p.constraints n) (λ k. SomeSatisfy p.kinds s.table sides k → ⊥) c.0 c.1 h ((test c.0 c.1).0 on)

pub axiom_holds : (p : Problem) (s : LogState) (number n : ℕ) (sides : Sides) (b : Bool)
    → ((k : Constraint) → slice_get p.constraints n ≡ Some k → IsTrue b ↔ SomeSatisfy p.kinds s.table sides k) → b ≡ false → IsAxiom p s (lines.Axiom number n sides)
axiom_holds p s number n sides b test off =
    if_some_at (slice_get p.constraints n) (λ k. SomeSatisfy p.kinds s.table sides k → ⊥)
    (λ k is some. let e : false ≡ true = sym off ∙ (test k is).1 some in absurd (cc))

one_box : (s : LogState) (k : ℕ) (b c : Sides) → box_at s k ≡ Some b → box_at s k ≡ Some c → b ≡ c
one_box s k b c p q = let e : Some b ≡ Some c = sym p ∙ q in cc

pub resolved_test : (p : Problem) (s : LogState) (number left right pivot : ℕ) (sides first second items : Sides) (b : Bool) → items ≡ sides → box_at s left ≡ Some first → box_at s right ≡ Some second
    → IsTrue b ↔ LiesIn p.kinds (side_of p.kinds s.table items) (resolvent (side_of p.kinds s.table first) (side_of p.kinds s.table second) pivot)
    → IsTrue b ↔ IsResolved p s (lines.Resolvent number left right pivot sides)
resolved_test p s number left right pivot sides first second items b same l r test = (
  (λ on x y a c. subst (λ z. LiesIn p.kinds (side_of p.kinds s.table z) (resolvent (side_of p.kinds s.table x) (side_of p.kinds s.table y) pivot)) same
      (subst (λ z. LiesIn p.kinds (side_of p.kinds s.table items) (resolvent (side_of p.kinds s.table z) (side_of p.kinds s.table y) pivot)) (one_box s left first x l a)
      (subst (λ z. LiesIn p.kinds (side_of p.kinds s.table items) (resolvent (side_of p.kinds s.table first) (side_of p.kinds s.table z) pivot)) (one_box s right second y r c) (test.0 on)))),
  (λ h. test.1 (subst (λ z. LiesIn p.kinds (side_of p.kinds s.table z) (resolvent (side_of p.kinds s.table first) (side_of p.kinds s.table second) pivot)) (sym same) (h first second l r))),
)

pub whole_test : (p : Problem) (s : LogState) (number : ℕ) (box : Sides) (b : Bool) → box_at s number ≡ Some box
    → IsTrue b ↔ LiesIn p.kinds everything (side_of p.kinds s.table box) → IsTrue b ↔ HoldsEverything p s (lines.Close number)
whole_test p s number box b is test = (
  (λ on x a. subst (λ z. LiesIn p.kinds everything (side_of p.kinds s.table z)) (one_box s number box x is a) (test.0 on)),
  (λ h. test.1 (h box is)),
)

pub first_two : (p : Problem) (s : LogState) (line : Line) → s.ends ≡ [] → IsInPlace s line → KeepsBefore p s line 2
first_two p s line open_ place = one_more p s line reason.Form (one_more p s line reason.End (keeps_none p s line) open_) place

pub none_ends : (o : Option End) → o ≡ None → option_to_list o ≡ []
none_ends o is = ap option_to_list is

pub new_test : (p : Problem) (s : LogState) (number : ℕ) (written : List LogValue) (values : List Value) (sides : Sides) (b : Bool) → values ≡ map value_in written
    → IsTrue b ↔ IsAnswer p s.answers values → IsTrue b ↔ IsNewAnswer p s (lines.Answer number written sides)
new_test p s number written values sides b same test = subst (λ v. IsTrue b ↔ IsAnswer p s.answers v) same test

pub box_test : (p : Problem) (s : LogState) (number : ℕ) (written : List LogValue) (values : List Value) (sides items : Sides) (b : Bool) → values ≡ map value_in written → items ≡ sides
    → IsTrue b ↔ IsBoxOf p.kinds p.goal values (side_of p.kinds s.table items) → IsTrue b ↔ IsAnswerBox p s (lines.Answer number written sides)
box_test p s number written values sides items b same is test =
    subst (λ v. IsTrue b ↔ IsBoxOf p.kinds p.goal v (side_of p.kinds s.table sides)) same
    (subst (λ z. IsTrue b ↔ IsBoxOf p.kinds p.goal values (side_of p.kinds s.table z)) is test)

-- a test that fails
pub off_test : (b : Bool) (P : Type 0) → b ≡ false → IsTrue b ↔ P → P → ⊥
off_test b P off test h = let e : false ≡ true = sym off ∙ test.1 h in absurd (cc)
