-- Joint states: at the start, after one more bit, and what they accept at the end.
use Rattle.std.proofs.Common.{◌≡◌, ℕ, suc, ◌+◌, ◌<◌, ◌≤◌, ◌↔◌, Bool, true, false, List, [], ◌∷◌, ◌++◌, Some, Option, length, get_or, refl, sym, ◌∙◌, ap, subst, inl, inr, arith}
use Rattle.std.specs.Prelude.{◌⊎◌, slice_get, All, Any, Contains}
use Rattle.std.proofs.lemmas.Bool.{false≢true}
use Rattle.std.proofs.lemmas.List.{length_push}
use Rattle.std.proofs.lemmas.Option.{slice_get_within, get_or_from_slice_get, slice_get_read, same_Some}
use Rattle.std.proofs.lemmas.List.Elements.{All-push, All-contains, Contains-append_left, Contains-append_cases, Contains-push, Contains-push_cases}
use Rattle.diagram_arena.specs.Table.{Word}
use Rattle.bit_machine.specs.Rules.{Rules, run, accepts}
use Rattle.choice_machine.specs.Choices.{IsLost}
use Rattle.choice_machine.specs.Building.{IsNumbered, AreStatesAt, AppendsUnless, AppendsNext, AreStarts, IsNext, Follows, SomeAccepts}

-- ---- runs

pub run-append : {Q : Type 0} (rules : Rules Q) (at : ℕ) (q : Q) (front back : List ℕ) (w : Word)
    → run rules at q (front ++ back) w ≡ run rules (at + length front) (run rules at q front w) back w
run-append rules at q [] back w = let e : at ≡ at + 0 = omega arith in ap (λ n. run rules n q back w) e
run-append rules at q (b ∷ bs) back w =
    let q' = rules.step at q (w b) in
    let e : at + 1 + length bs ≡ at + suc (length bs) = omega arith in
    run-append rules (at + 1) q' bs back w ∙ ap (λ n. run rules n (run rules (at + 1) q' bs w) back w) e

-- one more bit
pub run-push : {Q : Type 0} (rules : Rules Q) (q : Q) (bits : List ℕ) (b : ℕ) (w : Word) (at : ℕ) → length bits ≡ at
    → run rules 0 q (bits ++ b ∷ []) w ≡ rules.step at (run rules 0 q bits w) (w b)
run-push rules q bits b w at is =
    let e : 0 + length bits ≡ at = omega (arith, is) in
    run-append rules 0 q bits (b ∷ []) w ∙ ap (λ n. rules.step n (run rules 0 q bits w) (w b)) e

-- ---- the machine with a number

pub numbered_one : {X : Type 0} (ms : List X) (i : ℕ) (m : X) (P : X → Type 0) → slice_get ms i ≡ Some m → IsNumbered ms i P → P m
numbered_one ms i m P is numbered = subst P (same_Some numbered.0 m (sym numbered.1 ∙ is)) numbered.2

pub numbered_then : {X : Type 0} (ms : List X) (i : ℕ) (P Q : X → Type 0) → ((m : X) → P m → Q m) → IsNumbered ms i P → IsNumbered ms i Q
numbered_then ms i P Q f numbered = (numbered.0, numbered.1, f numbered.0 numbered.2)

-- ---- at the start

pub starts_none : {X Q : Type 0} (rules : X → Rules Q) (ms : List X) → AreStarts rules ms 0 []
starts_none rules ms = record {
  only = λ p has. absurd (omega (arith, has.1));
  every = λ i m less is. absurd (omega (arith, less));
}

pub starts_more : {X Q : Type 0} (rules : X → Rules Q) (ms : List X) (n : ℕ) (m : X) (old new : List (ℕ × Q)) → slice_get ms n ≡ Some m
    → AreStarts rules ms n old → AppendsUnless (IsLost (rules m) 0 (rules m).start) old new (n, (rules m).start) → AreStarts rules ms (n + 1) new
starts_more {X} {Q} rules ms n m old new at so (inl pushed) = record {
  only = λ p has. elim (Contains-push_cases {X = ℕ × Q} old (n, (rules m).start) p (subst (λ l. Contains {X = ℕ × Q} l p) pushed has)) [
    | inl before ↦ so.only p before
    | inr here ↦ subst (λ r. IsNumbered ms r.0 (λ x. r.1 ≡ (rules x).start)) here (m, at, refl)
  ];
  every = λ i x less is. elim (cases_last i n less) [
    | inl before ↦ elim (so.every i x before is) [
      | inl has ↦ inl (subst (λ l. Contains {X = ℕ × Q} l (i, (rules x).start)) (sym pushed) (Contains-append_left {X = ℕ × Q} old _ _ has))
      | inr lost ↦ inr lost
    ]
    | inr here ↦
        let same : m ≡ x = same_Some m x (sym at ∙ ap (slice_get ms) (sym here) ∙ is) in
        inl (subst (λ l. Contains {X = ℕ × Q} l (i, (rules x).start)) (sym pushed)
        (subst (λ (r : ℕ × Q). Contains {X = ℕ × Q} (old ++ (n, (rules m).start) ∷ []) r) (λ j. (sym here j, (rules (same j)).start)) (Contains-push {X = ℕ × Q} old (n, (rules m).start))))
  ];
}
  where
    cases_last : (i n : ℕ) → i < n + 1 → (i < n) ⊎ (i ≡ n)
    cases_last i n less = grind arith
starts_more {X} {Q} rules ms n m old new at so (inr left_out) = record {
  only = λ p has. so.only p (subst (λ l. Contains {X = ℕ × Q} l p) left_out.0 has);
  every = λ i x less is. elim (cases_last i n less) [
    | inl before ↦ elim (so.every i x before is) [
      | inl has ↦ inl (subst (λ l. Contains {X = ℕ × Q} l (i, (rules x).start)) (sym left_out.0) has)
      | inr lost ↦ inr lost
    ]
    | inr here ↦
        let same : m ≡ x = same_Some m x (sym at ∙ ap (slice_get ms) (sym here) ∙ is) in
        inr (subst (λ y. IsLost (rules y) 0 (rules y).start) same left_out.1)
  ];
}
  where
    cases_last : (i n : ℕ) → i < n + 1 → (i < n) ⊎ (i ≡ n)
    cases_last i n less = grind arith

-- at the start no bit is read
pub follows_start : {X Q : Type 0} (rules : X → Rules Q) (ms : List X) (w : Word) (joint : List (ℕ × Q)) → AreStarts rules ms (length ms) joint → Follows rules ms [] w joint
follows_start rules ms w joint so = record {
  only = so.only;
  every = λ i m is. elim (so.every i m (slice_get_within ms i m is) is) [
    | inl has ↦ inl has
    | inr lost ↦ inr (λ more. lost more w)
  ];
}

-- ---- after one more bit

pub next_none : {X Q : Type 0} (rules : X → Rules Q) (ms : List X) (at : ℕ) (v : Bool) → IsNext rules ms at v [] []
next_none rules ms at v = record {
  only = λ p has. absurd (omega (arith, has.1));
  every = λ i q m has is. absurd (omega (arith, has.1));
}

pub next_more : {X Q : Type 0} (rules : X → Rules Q) (ms : List X) (at : ℕ) (v : Bool) (joint : List (ℕ × Q)) (p : ℕ × Q) (old new : List (ℕ × Q))
    → IsNext rules ms at v joint old → AppendsNext rules ms at v p old new → IsNext rules ms at v (joint ++ p ∷ []) new
next_more {X} {Q} rules ms at v joint p old new so (m, here, inl pushed) = record {
  only = λ r has. elim (Contains-push_cases {X = ℕ × Q} old (p.0, (rules m).step at p.1 v) r (subst (λ l. Contains {X = ℕ × Q} l r) pushed has)) [
    | inl before ↦ let from = so.only r before in (from.0, Contains-append_left {X = ℕ × Q} joint (p ∷ []) (r.0, from.0) from.1, from.2)
    | inr is ↦ subst (λ (r : ℕ × Q). (q : Q) × Contains {X = ℕ × Q} (joint ++ p ∷ []) (r.0, q) × IsNumbered ms r.0 (λ m. r.1 ≡ (rules m).step at q v)) is
        (p.1, Contains-push {X = ℕ × Q} joint p, (m, here, refl))
  ];
  every = λ i q x has is. elim (Contains-push_cases {X = ℕ × Q} joint p (i, q) has) [
    | inl before ↦ elim (so.every i q x before is) [
      | inl there ↦ inl (subst (λ l. Contains {X = ℕ × Q} l (i, (rules x).step at q v)) (sym pushed) (Contains-append_left {X = ℕ × Q} old _ _ there))
      | inr lost ↦ inr lost
    ]
    | inr same ↦
        let one : m ≡ x = same_Some m x (sym here ∙ ap (λ (r : ℕ × Q). slice_get ms r.0) same ∙ is) in
        inl (subst (λ l. Contains {X = ℕ × Q} l (i, (rules x).step at q v)) (sym pushed)
        (subst (λ (r : ℕ × Q). Contains {X = ℕ × Q} (old ++ (p.0, (rules m).step at p.1 v) ∷ []) r) (λ j. ((same j).0, (rules (one j)).step at (same j).1 v))
        (Contains-push {X = ℕ × Q} old (p.0, (rules m).step at p.1 v))))
  ];
}
next_more {X} {Q} rules ms at v joint p old new so (m, here, inr left_out) = record {
  only = λ r has. let from = so.only r (subst (λ l. Contains {X = ℕ × Q} l r) left_out.0 has) in
      (from.0, Contains-append_left {X = ℕ × Q} joint (p ∷ []) (r.0, from.0) from.1, from.2);
  every = λ i q x has is. elim (Contains-push_cases {X = ℕ × Q} joint p (i, q) has) [
    | inl before ↦ elim (so.every i q x before is) [
      | inl there ↦ inl (subst (λ l. Contains {X = ℕ × Q} l (i, (rules x).step at q v)) (sym left_out.0) there)
      | inr lost ↦ inr lost
    ]
    | inr same ↦
        let one : m ≡ x = same_Some m x (sym here ∙ ap (λ (r : ℕ × Q). slice_get ms r.0) same ∙ is) in
        inr (subst (λ (r : X × Q). IsLost (rules r.0) (at + 1) ((rules r.0).step at r.1 v)) (λ j. (one j, (same j).1)) left_out.1)
  ];
}

-- the joint state after a word's bits, and one bit more
pub follows_next : {X Q : Type 0} (rules : X → Rules Q) (ms : List X) (bits : List ℕ) (b : ℕ) (w : Word) (at : ℕ) (joint next : List (ℕ × Q)) → length bits ≡ at
    → Follows rules ms bits w joint → IsNext rules ms at (w b) joint next → Follows rules ms (bits ++ b ∷ []) w next
follows_next {X} {Q} rules ms bits b w at joint next long so step = record {
  only = λ p has.
      let from = step.only p has in
      let m = from.2.0 in
      let was : from.0 ≡ run (rules m) 0 (rules m).start bits w = numbered_one ms p.0 m (λ x. from.0 ≡ run (rules x) 0 (rules x).start bits w) from.2.1 (so.only (p.0, from.0) from.1) in
      (m, from.2.1, from.2.2 ∙ ap (λ q. (rules m).step at q (w b)) was ∙ sym (run-push (rules m) (rules m).start bits b w at long));
  every = λ i m is.
      let whole = run-push (rules m) (rules m).start bits b w at long in
      let longer : length (bits ++ b ∷ []) ≡ at + 1 = length_push bits b ∙ ap (λ n. n + 1) long in
      elim (so.every i m is) [
        | inl has ↦ elim (step.every i _ m has is) [
          | inl there ↦ inl (subst (λ q. Contains {X = ℕ × Q} next (i, q)) (sym whole) there)
          | inr lost ↦ inr (λ more. ap (λ n. (rules m).accept (run (rules m) n (run (rules m) 0 (rules m).start (bits ++ b ∷ []) w) more w)) longer
              ∙ ap (λ q. (rules m).accept (run (rules m) (at + 1) q more w)) whole ∙ lost more w)
        ]
        | inr lost ↦ inr (λ more. ap (λ n. (rules m).accept (run (rules m) n (run (rules m) 0 (rules m).start (bits ++ b ∷ []) w) more w)) longer
            ∙ ap (λ q. (rules m).accept (run (rules m) (at + 1) q more w)) whole
            ∙ sym (ap (λ n. (rules m).accept (run (rules m) n (run (rules m) 0 (rules m).start bits w) (b ∷ more) w)) long)
            ∙ lost (b ∷ more))
      ];
}

-- ---- what is accepted

pub some_accepts : {X Q : Type 0} (rules : X → Rules Q) (ms : List X) (bits : List ℕ) (w : Word) (joint : List (ℕ × Q)) → Follows rules ms bits w joint
    → SomeAccepts rules ms joint ↔ Any (λ m. accepts (rules m) bits w ≡ true) ms
some_accepts {X} {Q} rules ms bits w joint so = (to, from)
  where
    to : SomeAccepts rules ms joint → Any (λ m. accepts (rules m) bits w ≡ true) ms
    to (k, p, within, is, (m, here, yields)) =
        let was : p.1 ≡ run (rules m) 0 (rules m).start bits w = numbered_one ms p.0 m (λ x. p.1 ≡ run (rules x) 0 (rules x).start bits w) here (so.only p (k, within, is)) in
        (p.0, m, slice_get_within ms p.0 m here, get_or_from_slice_get ms p.0 m m here, ap (rules m).accept (sym was) ∙ yields)

    from : Any (λ m. accepts (rules m) bits w ≡ true) ms → SomeAccepts rules ms joint
    from (i, m, within, is, yields) =
        let here : slice_get ms i ≡ Some m = slice_get_read ms (length ms) i m refl within (sym is) in
        elim (so.every i m here) [
          | inl (k, inside, at) ↦ (k, (i, run (rules m) 0 (rules m).start bits w), inside, at, (m, here, yields))
          | inr lost ↦ absurd (false≢true (sym (lost []) ∙ yields))
        ]

-- where none accepts
pub none_accepts : {X Q : Type 0} (rules : X → Rules Q) (ms : List X) (joint : List (ℕ × Q)) → All (λ p. IsNumbered ms p.0 (λ m. (rules m).accept p.1 ≡ false)) joint → SomeAccepts rules ms joint → ⊥
none_accepts {X} {Q} rules ms joint all (k, p, within, is, (m, here, accepted)) =
    let refused : (rules m).accept p.1 ≡ false = numbered_one ms p.0 m (λ x. (rules x).accept p.1 ≡ false) here (All-contains (λ (p : ℕ × Q). IsNumbered ms p.0 (λ x. (rules x).accept p.1 ≡ false)) joint p all (k, within, is)) in
    false≢true (sym refused ∙ accepted)

-- a state that is appended where it may occur
pub occur_more : {X Q : Type 0} (occurs : X → ℕ → Q → Type 0) (ms : List X) (at : ℕ) (old new : List (ℕ × Q)) (p : ℕ × Q) (lost : Type 0) → IsNumbered ms p.0 (λ m. occurs m at p.1)
    → AppendsUnless lost old new p → AreStatesAt occurs ms at old → AreStatesAt occurs ms at new
occur_more {X} {Q} occurs ms at old new p lost here (inl pushed) all =
    subst (AreStatesAt occurs ms at) (sym pushed) (All-push (λ (r : ℕ × Q). IsNumbered ms r.0 (λ m. occurs m at r.1)) old p all here)
occur_more occurs ms at old new p lost here (inr left_out) all = subst (AreStatesAt occurs ms at) (sym left_out.0) all

-- what a call that appends says, of the machine with this number
pub appended : {X Q : Type 0} (rules : X → Rules Q) (ms : List X) (at : ℕ) (v : Bool) (p : ℕ × Q) (old new : List (ℕ × Q)) (m : X) (q : Q) → slice_get ms p.0 ≡ Some m → q ≡ (rules m).step at p.1 v
    → AppendsUnless (IsLost (rules m) (at + 1) q) old new (p.0, q) → AppendsNext rules ms at v p old new
appended {X} {Q} rules ms at v p old new m q here is so =
    (m, here, subst (λ (r : Q). AppendsUnless (IsLost (rules m) (at + 1) r) old new (p.0, r)) is so)

-- the state of the machine with this number
pub numbered : {X : Type 0} (ms : List X) (i : ℕ) (m : X) (P : X → Type 0) → slice_get ms i ≡ Some m → P m → IsNumbered ms i P
numbered ms i m P here holds = (m, here, holds)
