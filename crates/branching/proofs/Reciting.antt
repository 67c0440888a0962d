-- The values of domains of one value each.
use Rattle.std.proofs.Common.{◌≡◌, ℕ, suc, ◌+◌, ◌<◌, ◌≤◌, Bool, true, false, List, [], ◌∷◌, ◌++◌, Option, Some, get_or, length, refl, sym, ◌∙◌, ap, subst, arith, inl, inr, ◌⊎◌}
use Rattle.std.specs.Prelude.{slice_get, IsSomeAnd}
use Rattle.std.specs.List.{AllZip}
use Rattle.std.specs.Option.{option_map_or}
use Rattle.std.proofs.lemmas.List.{get_or_append_left, length-append}
use Rattle.std.proofs.Math.Seq.{get_or-append_seam}
use Rattle.std.proofs.lemmas.Option.{get_or_from_slice_get, slice_get_within, slice_get_past}
use Rattle.set_meaning.specs.declared.kinds.Kind.{Kind}
use Rattle.set_meaning.specs.declared.kinds.Value.{Value}
use Rattle.set_meaning.specs.declared.kinds.Value.TheVariants as value
use Rattle.set_meaning.specs.declared.problems.VarId.{VarId}
use Rattle.set_meaning.specs.declared.problems.Problem.{Problem}
use Rattle.set_meaning.specs.Kinds.{InKind, IsAssignment}
use Rattle.bit_layout.specs.Order.{LayoutState, IsLayout, IsValueAt}
use Rattle.bit_layout.proofs.ValuesAt.{one_value_at}
use Rattle.diagram_arena.specs.declared.nodes.Ref.{Ref}
use Rattle.diagram_arena.specs.Table.{Table}
use Rattle.diagram_view.specs.Words.{IsWord, HasNoWord, HasTwoWords}
use Rattle.exact_steps.specs.Domains.{variable, values_in, IsDomain, AreDomains, family}
use Rattle.exact_steps.proofs.Values.{initial_kind}
use Rattle.exact_steps.proofs.Constraints.{family_initial}
use Rattle.problem_rules.specs.Parts.{values_of}
use Rattle.problem_rules.specs.Posing.{at_listed}
use Rattle.problem_rules.proofs.Solutions.{values_again}
use Rattle.branching.specs.Decisions.{HaveOneValueBelow, AreSingleValues}
use Rattle.branching.specs.Work.{domain_words, HasOneValue, AreValuesUpTo}
use Rattle.branching.proofs.Spelling.{have_values}
use Rattle.branching.proofs.Choosing.{kind_at, never_one}

-- ---- one domain

-- a domain of one value has one word
pub never_other : (l : LayoutState) (t : Table) (v : VarId) (r : Ref) → IsLayout l → v.0 < length l.kinds → IsDomain l t v r → HasOneValue (values_in l t v r)
    → HasNoWord (domain_words l t v r) ⊎ HasTwoWords (domain_words l t v r) → ⊥
never_other l t v r ok known domain one (inl none) =
    let have = have_values l t v r ok domain in
    let a = have.spelled domain.some.0 domain.some.1 in
    let e : true ≡ false = sym a.1.inside ∙ none a.0 a.1.long in
    cc
never_other l t v r ok known domain one (inr two) =
    let k = kind_at l.kinds v.0 known in
    never_one l t v r k.0 k.1 (have_values l t v r ok domain) two.0 two.1 one

pub value_found : (l : LayoutState) (t : Table) (v : VarId) (r : Ref) (word : List Bool) (x : Value) → IsLayout l → IsDomain l t v r → IsWord (domain_words l t v r) word → IsValueAt l v word x → values_in l t v r x ≡ true
value_found l t v r word x ok domain is at =
    let a = (have_values l t v r ok domain).valued word is in
    subst (λ (x : Value). values_in l t v r x ≡ true) (one_value_at l v word a.0 x ok a.1 at) a.2

pub value_there : (l : LayoutState) (t : Table) (v : VarId) (r : Ref) (word : List Bool) → IsLayout l → IsDomain l t v r → IsWord (domain_words l t v r) word → (x : Value) × IsValueAt l v word x
value_there l t v r word ok domain is = let a = (have_values l t v r ok domain).valued word is in (a.0, a.1)

-- ---- all domains

pub values_start : (f : ℕ → Value → Bool) (values : List Value) → values ≡ [] → AreValuesUpTo f 0 values
values_start f values e = record { long = ap length e; each = λ u below. absurd (omega (arith, below)) }

pub values_more : (f : ℕ → Value → Bool) (n m : ℕ) (values more : List Value) (x : Value) → AreValuesUpTo f n values → f n x ≡ true → more ≡ values ++ x ∷ [] → m ≡ n + 1 → AreValuesUpTo f m more
values_more f n m values more x are on e next =
    subst (λ (m : ℕ). AreValuesUpTo f m more) (sym next) (subst (AreValuesUpTo f (n + 1)) (sym e) (record {
      long = let long = are.long in let added = length-append values (x ∷ []) in omega (arith, long, added);
      each = λ u below. elim (cases_below u n below) [
        | inl before ↦
            let long = are.long in
            let inside : u < length values = omega (arith, before, long) in
            subst (λ (y : Value). f u y ≡ true) (sym (get_or_append_left values (x ∷ []) (value.Bool false) u inside)) (are.each u before)
        | inr last ↦
            let here : get_or (values ++ x ∷ []) u (value.Bool false) ≡ x = ap (λ j. get_or (values ++ x ∷ []) j (value.Bool false)) (last ∙ sym are.long) ∙ get_or-append_seam values x [] (value.Bool false) in
            subst (λ (y : Value). f u y ≡ true) (sym here) (subst (λ (j : ℕ). f j x ≡ true) (sym last) on)
      ];
    }))
  where
    cases_below : (u n : ℕ) → u < n + 1 → (u < n) ⊎ (u ≡ n)
    cases_below u n below = grind arith

zip_each : {A B : Type 0} (R : A → B → Type 0) (xs : List A) (ys : List B) → length ys ≡ length xs → ((k : ℕ) (y : B) → slice_get ys k ≡ Some y → IsSomeAnd (slice_get xs k) (λ x. R x y)) → AllZip R xs ys
zip_each R [] [] long each = tt
zip_each R [] (y ∷ ys) long each = absurd (omega (arith, long))
zip_each R (x ∷ xs) [] long each = absurd (omega (arith, long))
zip_each R (x ∷ xs) (y ∷ ys) long each = (each 0 y refl, zip_each R xs ys (omega (arith, long)) (λ k. each (suc k)))

module _ (l : LayoutState) (t : Table) (domains : List Ref) (values : List Value) (n : ℕ) (ok : IsLayout l) (domains_are : AreDomains l t domains) (values_are : AreValuesUpTo (family l t domains) n values) (all : n ≡ length l.kinds) where
  pub values_assigned : IsAssignment l.kinds values
  values_assigned = zip_each InKind l.kinds values (values_are.long ∙ all) (λ k y e.
      let inside : k < length values = slice_get_within values k y e in
      let long = values_are.long in
      let within : k < n = omega (arith, inside, long) in
      let known : k < length l.kinds = omega (arith, within, all) in
      let on : family l t domains k y ≡ true = subst (λ (x : Value). family l t domains k x ≡ true) (get_or_from_slice_get values k y (value.Bool false) e) (values_are.each k within) in
      let kind = initial_kind l (variable k) y ok (family_initial l t domains (variable k) y domains_are known on) in
      subst (λ (o : Option Kind). IsSomeAnd o (λ x. InKind x y)) (sym kind.1) kind.2)

  beyond : (v : ℕ) (x : Value) → length l.kinds ≤ v → family l t domains v x ≡ true
  beyond v x past =
      let long = domains_are.long in
      ap (λ o. option_map_or (λ r. values_in l t (variable v) r x) o true) (slice_get_past domains v (omega (arith, past, long)))

  value_at : (p : Problem) (a : ℕ → Value) → values_of p a ≡ values → length p.kinds ≡ n → (v : ℕ) → v < n → family l t domains v (a v) ≡ true
  value_at p a same count v below =
      let here : slice_get values v ≡ Some (a v) = ap (λ (vs : List Value). slice_get vs v) (sym same) ∙ at_listed (length p.kinds) a v (omega (arith, below, count)) in
      subst (λ (x : Value). family l t domains v x ≡ true) (get_or_from_slice_get values v (a v) (value.Bool false) here) (values_are.each v below)

  pub values_single : (p : Problem) → HaveOneValueBelow (length l.kinds) (family l t domains) → p.kinds ≡ l.kinds → AreSingleValues p (family l t domains) values
  values_single p one kinds =
      let count : length p.kinds ≡ n = ap length kinds ∙ sym all in
      record {
        each = λ a same.
            let at : (v : ℕ) → v < n → family l t domains v (a v) ≡ true = value_at p a same count in
            record {
              within = λ v. elim (below_or v n) [
                | inl below ↦ at v below
                | inr past ↦ beyond v (a v) (omega (arith, past, all))
              ];
              only = λ v x below on. one v x (a v) (omega (arith, below, count, all)) on (at v (omega (arith, below, count)));
            };
        some = (λ v. get_or values v (value.Bool false), values_again p values (subst (λ (ks : List Kind). IsAssignment ks values) (sym kinds) values_assigned));
      }
    where
      below_or : (v n : ℕ) → (v < n) ⊎ (n ≤ v)
      below_or v n = grind arith
