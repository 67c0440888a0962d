-- The values of a variable that are put in its place one after another.
use Rattle.std.proofs.Common.{◌≡◌, ◌↔◌, ℕ, ◌+◌, ◌<◌, ◌≤◌, Bool, true, false, List, [], ◌∷◌, ◌++◌, length, take, get_or, Contains, Option, Some, None, IsTrue, refl, sym, ap, ◌∙◌, subst, inl, inr, arith}
use Rattle.std.specs.Prelude.{slice_get, IsSomeAnd, All}
use Rattle.std.proofs.lemmas.List.{take_more, take_all}
use Rattle.std.proofs.lemmas.List.Elements.{Contains-push_cases, Contains-get_or}
use Rattle.set_meaning.specs.declared.kinds.Kind.{Kind}
use Rattle.set_meaning.specs.declared.kinds.Value.{Value}
use Rattle.set_meaning.specs.declared.problems.VarId.{VarId}
use Rattle.set_meaning.specs.declared.problems.Constraint.{Constraint}
use Rattle.set_meaning.specs.Kinds.{InKind}
use Rattle.set_meaning.specs.Rows.{FitsRow}
use Rattle.set_meaning.specs.Relations.{variables_of}
use Rattle.log_rules.specs.declared.nodes.Node.{Node}
use Rattle.log_rules.specs.Boxes.{Sides, AreSides, SomeSatisfy}
use Rattle.log_rules.specs.Rules.{StandsIn}
use Rattle.sweep_fixing.specs.Fixing.{fixed, others, SomeFixed}
use Rattle.sweep_shapes.specs.Trials.{IsAllowed}

-- ---- the law

-- what the law of fixing says
pub record FixingLaw : Type 0 where
  pub exact : (kinds : List Kind) (table : List Node) (sides : Sides) (c : Constraint) (v : VarId) → FitsRow kinds c → v.0 < length kinds → SomeFixed kinds table sides c v ↔ SomeSatisfy kinds table sides c
  pub fits : (kinds : List Kind) (c : Constraint) (v : VarId) (k : Kind) (x : Value) → FitsRow kinds c → slice_get kinds v.0 ≡ Some k → InKind k x → FitsRow kinds (fixed v x c)
  pub sides : (kinds : List Kind) (table : List Node) (sides : Sides) (v : VarId) → AreSides kinds table sides → AreSides kinds table (others v.0 sides)
  pub named : (sides : Sides) (c : Constraint) (v : VarId) (x : Value) → All (λ side. StandsIn c side.0) sides → All (λ side. StandsIn (fixed v x c) side.0) (others v.0 sides)
  pub fewer : (c : Constraint) (v : VarId) (x : Value) → Contains (variables_of c) v → length (variables_of (fixed v x c)) < length (variables_of c)

-- ---- one value

-- an allowed value, as it is read from the list
pub allowed_item : (kinds : List Kind) (table : List Node) (sides : Sides) (v : ℕ) (own tried : List Value) (i : ℕ) (x : Value) → ((y : Value) → Contains own y ↔ IsAllowed kinds table sides v y) → tried ≡ own
    → i < length tried → x ≡ get_or tried i x → IsAllowed kinds table sides v x
allowed_item kinds table sides v own tried i x own_is same within is =
    (own_is x).0 (subst (λ xs. Contains xs x) same (subst (Contains tried) (sym is) (Contains-get_or tried i x within)))

pub fixed_fits : FixingLaw → (kinds : List Kind) (table : List Node) (sides : Sides) (c one : Constraint) (v : VarId) (x : Value) → FitsRow kinds c → IsAllowed kinds table sides v.0 x → one ≡ fixed v x c
    → FitsRow kinds one
fixed_fits law kinds table sides c one v x fits allowed is = subst (FitsRow kinds) (sym is) (by (slice_get kinds v.0) refl allowed.0)
  where
    by : (o : Option Kind) → slice_get kinds v.0 ≡ o → IsSomeAnd o (λ k. InKind k x) → FitsRow kinds (fixed v x c)
    by None e h = absurd h
    by (Some k) e h = law.fits kinds c v k x fits e h

pub fixed_sides : FixingLaw → (kinds : List Kind) (table : List Node) (sides given left : Sides) (v : VarId) → AreSides kinds table sides → given ≡ left → left ≡ others v.0 sides → AreSides kinds table given
fixed_sides law kinds table sides given left v ok lent is = subst (AreSides kinds table) (sym (lent ∙ is)) (law.sides kinds table sides v ok)

pub fixed_named : FixingLaw → (sides given left : Sides) (c one : Constraint) (v : VarId) (x : Value) → All (λ side. StandsIn c side.0) sides → given ≡ left → left ≡ others v.0 sides → one ≡ fixed v x c
    → All (λ side. StandsIn one side.0) given
fixed_named law sides given left c one v x named lent is put =
    subst (λ k. All (λ side. StandsIn k side.0) given) (sym put) (subst (All (λ side. StandsIn (fixed v x c) side.0)) (sym (lent ∙ is)) (law.named sides c v x named))

pub fixed_fewer : FixingLaw → (c one : Constraint) (v : VarId) (x : Value) → Contains (variables_of c) v → one ≡ fixed v x c → length (variables_of one) < length (variables_of c)
fixed_fewer law c one v x there put = subst (λ k. length (variables_of k) < length (variables_of c)) (sym put) (law.fewer c v x there)

-- ---- the values so far

-- with none of these values in its place the constraint can be satisfied
pub record TriedInVain (kinds : List Kind) (table : List Node) (left : Sides) (c : Constraint) (v : VarId) (done : List Value) : Type 0 where
  pub vain : (x : Value) → Contains done x → SomeSatisfy kinds table left (fixed v x c) → ⊥

pub nothing_tried : (kinds : List Kind) (table : List Node) (left : Sides) (c : Constraint) (v : VarId) → TriedInVain kinds table left c v []
nothing_tried kinds table left c v = record { vain = λ x h some. let none : h.0 < 0 = h.1 in absurd (omega (arith, none)) }

pub tried_more : (kinds : List Kind) (table : List Node) (left : Sides) (c one : Constraint) (v : VarId) (tried : List Value) (i : ℕ) (x : Value) (found : Bool) → i < length tried → x ≡ get_or tried i x
    → one ≡ fixed v x c → IsTrue found ↔ SomeSatisfy kinds table left one → found ≡ false → TriedInVain kinds table left c v (take i tried) → TriedInVain kinds table left c v (take (i + 1) tried)
tried_more kinds table left c one v tried i x found within is put answer nothing before =
    let e : take (i + 1) tried ≡ take i tried ++ x ∷ [] = take_more tried i x within ∙ ap (λ y. take i tried ++ y ∷ []) (sym is) in
    subst (TriedInVain kinds table left c v) (sym e) (record {
      vain = λ y h some. elim (Contains-push_cases (take i tried) x y h) [
        | inl earlier ↦ before.vain y earlier some
        | inr same ↦
            let positive = answer.1 (subst (SomeSatisfy kinds table left) (sym put) (subst (λ z. SomeSatisfy kinds table left (fixed v z c)) (sym same) some)) in
            let clash : false ≡ true = sym nothing ∙ positive in absurd (cc)
      ];
    })

pub found_one : FixingLaw → (kinds : List Kind) (table : List Node) (sides given left : Sides) (c one : Constraint) (v : VarId) (x : Value) (found : Bool) → FitsRow kinds c → v.0 < length kinds
    → IsAllowed kinds table sides v.0 x → given ≡ left → left ≡ others v.0 sides → one ≡ fixed v x c → IsTrue found ↔ SomeSatisfy kinds table given one → found ≡ true
    → IsTrue true ↔ SomeSatisfy kinds table sides c
found_one law kinds table sides given left c one v x found fits known allowed lent is put answer positive = (
  λ h. (law.exact kinds table sides c v fits known).0 (record {
    value = x;
    initial = allowed.0;
    inside = allowed.1;
    satisfied = subst (λ ls. SomeSatisfy kinds table ls (fixed v x c)) (lent ∙ is) (subst (SomeSatisfy kinds table given) put (answer.0 positive));
  }),
  λ s. refl,
)

pub none_found : FixingLaw → (kinds : List Kind) (table : List Node) (sides given left : Sides) (c : Constraint) (v : VarId) (own tried : List Value) (i : ℕ) → FitsRow kinds c → v.0 < length kinds
    → ((y : Value) → Contains own y ↔ IsAllowed kinds table sides v.0 y) → tried ≡ own → given ≡ left → left ≡ others v.0 sides → length tried ≤ i
    → TriedInVain kinds table given c v (take i tried) → IsTrue false ↔ SomeSatisfy kinds table sides c
none_found law kinds table sides given left c v own tried i fits known own_is same lent is past vain = (
  λ positive. let clash : false ≡ true = positive in absurd (cc),
  λ some.
      let f = (law.exact kinds table sides c v fits known).1 some in
      let all = subst (TriedInVain kinds table given c v) (take_all i tried past) vain in
      let there : Contains tried f.value = subst (λ xs. Contains xs f.value) (sym same) ((own_is f.value).1 (f.initial, f.inside)) in
      absurd (all.vain f.value there (subst (λ ls. SomeSatisfy kinds table ls (fixed v f.value c)) (sym (lent ∙ is)) f.satisfied)),
)
