-- Values in the sides satisfy a constraint exactly where they do so for some value of one of its variables.
use Rattle.std.proofs.Common.{◌≡◌, ◌↔◌, ℕ, zero, suc, ◌+◌, ◌<◌, ◌==◌, Bool, true, false, not, ◌||◌, ◌&&◌, cond, List, [], ◌∷◌, length, set, Option, Some, None, refl, sym, ap, ◌∙◌, subst, inl, inr, arith}
use Rattle.std.specs.Prelude.{slice_get, IsSomeAnd}
use Rattle.std.specs.List.{AllZip, list_all}
use Rattle.std.proofs.lemmas.Bool.{eqb-true, eqb-false}
use Rattle.set_meaning.specs.declared.kinds.Kind.{Kind}
use Rattle.set_meaning.specs.declared.kinds.Value.{Value}
use Rattle.set_meaning.specs.declared.problems.VarId.{VarId}
use Rattle.set_meaning.specs.declared.problems.Constraint.{Constraint}
use Rattle.set_meaning.specs.Kinds.{InKind, IsAssignment}
use Rattle.set_meaning.specs.Rows.{FitsRow}
use Rattle.set_meaning.specs.Relations.{Holds}
use Rattle.bit_layout.proofs.Listing.{all_zip_long}
use Rattle.log_rules.specs.declared.nodes.Node.{Node}
use Rattle.log_rules.specs.Tables.{walk}
use Rattle.log_rules.specs.Boxes.{Sides, IsInitial, word_at, side_of, IsWithin, InBox, SomeSatisfy}
use Rattle.log_rules.proofs.Inside.{is_initial, value_there}
use Rattle.sweep_fixing.specs.Fixing.{fixed, is_other, others, SomeFixed}
use Rattle.sweep_fixing.proofs.Puts.{at_put, beside_put, length_put, put_own, same_or_other}
use Rattle.sweep_fixing.proofs.Replaced.{holds_same}

-- ---- sides

-- what each side asks of the value
abbrev asks : List Kind → List Node → ℕ → Value → ℕ × ℕ → Bool
asks kinds table v x side = not (side.0 == v) || walk table side.1 (word_at kinds v x)

both_true : (a b : Bool) → (a && b) ≡ true → (a ≡ true) × (b ≡ true)
both_true true b h = (refl, h)
both_true false b h = let clash : false ≡ true = h in absurd (cc)

-- fewer sides ask for less
fewer_ask : (kinds : List Kind) (table : List Node) (sides : Sides) (v k : ℕ) (x : Value) → list_all (asks kinds table k x) sides ≡ true → list_all (asks kinds table k x) (others v sides) ≡ true
fewer_ask kinds table [] v k x h = refl
fewer_ask kinds table (s ∷ sides) v k x h =
    let parts = both_true (asks kinds table k x s) (list_all (asks kinds table k x) sides) h in
    by (is_other v s) parts.0 (fewer_ask kinds table sides v k x parts.1)
  where
    by : (b : Bool) → asks kinds table k x s ≡ true → list_all (asks kinds table k x) (others v sides) ≡ true → list_all (asks kinds table k x) (cond b (s ∷ others v sides) (others v sides)) ≡ true
    by true first rest = ap (λ t. t && list_all (asks kinds table k x) (others v sides)) first ∙ rest
    by false first rest = rest

-- of another variable the left out sides ask nothing
others_ask : (kinds : List Kind) (table : List Node) (sides : Sides) (v k : ℕ) (x : Value) → (v ≡ k → ⊥) → list_all (asks kinds table k x) (others v sides) ≡ true → list_all (asks kinds table k x) sides ≡ true
others_ask kinds table [] v k x other h = refl
others_ask kinds table (s ∷ sides) v k x other h = by (s.0 == v) refl h (λ t. others_ask kinds table sides v k x other t)
  where
    by : (b : Bool) → (s.0 == v) ≡ b → list_all (asks kinds table k x) (cond (not b) (s ∷ others v sides) (others v sides)) ≡ true
        → (list_all (asks kinds table k x) (others v sides) ≡ true → list_all (asks kinds table k x) sides ≡ true) → (asks kinds table k x s && list_all (asks kinds table k x) sides) ≡ true
    by true e rest again =
        let beside : (s.0 == k) ≡ false = off (s.0 == k) refl in
        ap (λ t. (not t || walk table s.1 (word_at kinds k x)) && list_all (asks kinds table k x) sides) beside ∙ again rest
      where
        off : (t : Bool) → (s.0 == k) ≡ t → t ≡ false
        off true f = absurd (other (sym (eqb-true s.0 v e) ∙ eqb-true s.0 k f))
        off false f = refl
    by false e rest again =
        let parts = both_true (asks kinds table k x s) (list_all (asks kinds table k x) (others v sides)) rest in
        ap (λ t. t && list_all (asks kinds table k x) sides) parts.0 ∙ again parts.1

-- ---- values with one put in place

put_legal : (kinds : List Kind) (values : List Value) (v : ℕ) (x : Value) → IsAssignment kinds values → IsInitial kinds v x → IsAssignment kinds (set values v x)
put_legal [] [] v x legal h = tt
put_legal [] (y ∷ ys) v x legal h = absurd legal
put_legal (k ∷ ks) [] v x legal h = absurd legal
put_legal (k ∷ ks) (y ∷ ys) zero x legal h = (h, legal.1)
put_legal (k ∷ ks) (y ∷ ys) (suc v) x legal h = (legal.0, put_legal ks ys v x legal.1 h)

-- ---- both ways

fixed_satisfied : (kinds : List Kind) (table : List Node) (sides : Sides) (c : Constraint) (v : VarId) → FitsRow kinds c → v.0 < length kinds → SomeFixed kinds table sides c v → SomeSatisfy kinds table sides c
unfolding side_of IsWithin
fixed_satisfied kinds table sides c v fits known some =
    let values = some.satisfied.values in
    let within : v.0 < length values = subst (λ n. v.0 < n) (all_zip_long InKind kinds values some.satisfied.assignment) known in
    record {
      values = set values v.0 some.value;
      assignment = put_legal kinds values v.0 some.value some.satisfied.assignment some.initial;
      inside = λ k x is. elim (same_or_other v.0 k) [
        | inl e ↦
            let both : Some some.value ≡ Some x = sym (at_put values v.0 some.value within) ∙ ap (slice_get (set values v.0 some.value)) e ∙ is in
            let same : some.value ≡ x = cc in
            subst (λ j. list_all (asks kinds table j x) sides ≡ true) e (subst (λ y. list_all (asks kinds table v.0 y) sides ≡ true) same some.inside)
        | inr other ↦ others_ask kinds table sides v.0 k x other (some.satisfied.inside k x (sym (beside_put values v.0 k some.value other) ∙ is))
      ];
      holds = (holds_same values v some.value within c kinds fits).1 some.satisfied.holds;
    }

satisfied_fixed : (kinds : List Kind) (table : List Node) (sides : Sides) (c : Constraint) (v : VarId) → FitsRow kinds c → v.0 < length kinds → SomeSatisfy kinds table sides c → SomeFixed kinds table sides c v
unfolding side_of IsWithin
satisfied_fixed kinds table sides c v fits known some =
    let values = some.values in
    let within : v.0 < length values = subst (λ n. v.0 < n) (all_zip_long InKind kinds values some.assignment) known in
    let own = value_there kinds values some.assignment v.0 known in
    record {
      value = own.0;
      initial = is_initial kinds values some.assignment v.0 own.0 own.1;
      inside = some.inside v.0 own.0 own.1;
      satisfied = record {
        values = values;
        assignment = some.assignment;
        inside = λ k x is. fewer_ask kinds table sides v.0 k x (some.inside k x is);
        holds = (holds_same values v own.0 within c kinds fits).0 (subst (Holds c) (sym (put_own values v.0 own.0 own.1)) some.holds);
      };
    }

pub fixing_exact : (kinds : List Kind) (table : List Node) (sides : Sides) (c : Constraint) (v : VarId) → FitsRow kinds c → v.0 < length kinds → SomeFixed kinds table sides c v ↔ SomeSatisfy kinds table sides c
fixing_exact kinds table sides c v fits known = (fixed_satisfied kinds table sides c v fits known, satisfied_fixed kinds table sides c v fits known)
