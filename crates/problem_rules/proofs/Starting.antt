-- The family of domains that have all initial values.
use Rattle.std.proofs.Common.{◌≡◌, ℕ, ◌<◌, ◌≤◌, nat_lt, ◌&&◌, Bool, true, false, List, length, get_or, Option, Some, refl, sym, ap, ◌∙◌, subst}
use Rattle.std.specs.Prelude.{slice_get}
use Rattle.std.specs.List.{list_any}
use Rattle.std.specs.Option.{option_map_or}
use Rattle.std.proofs.Math.Path.{fun_ext}
use Rattle.std.proofs.lemmas.Bool.{ltb-true, ltb-false}
use Rattle.std.proofs.lemmas.Option.{slice_get-get_or, slice_get_past}
use Rattle.set_meaning.specs.declared.kinds.Kind.{Kind}
use Rattle.set_meaning.specs.declared.kinds.Kind.TheVariants as kind
use Rattle.set_meaning.specs.declared.kinds.Value.{Value}
use Rattle.set_meaning.specs.declared.problems.VarId.{VarId}
use Rattle.set_meaning.specs.declared.problems.Problem.{Problem}
use Rattle.set_meaning.specs.Kinds.{initial_values}
use Rattle.bit_layout.specs.Order.{LayoutState}
use Rattle.diagram_arena.specs.declared.nodes.Ref.{Ref}
use Rattle.diagram_arena.specs.declared.nodes.Ref.TheVariants.{Zero}
use Rattle.diagram_arena.specs.Table.{Table, has}
use Rattle.exact_steps.specs.Domains.{variable, same_value, is_initial, word_of_value, values_in, family}
use Rattle.problem_rules.specs.Parts.{initial_set}
use Rattle.problem_rules.specs.Posed.{problem_of}

-- a test and another one, where the first implies both
whole_test : (i h : Bool) → (i ≡ true → (i && h) ≡ true) → (i && h) ≡ i
whole_test true h all = all refl
whole_test false h all = refl

values_all : (l : LayoutState) (t : Table) (v : VarId) (r : Ref) (x : Value) → (is_initial l v x ≡ true → values_in l t v r x ≡ true) → values_in l t v r x ≡ is_initial l v x
values_all l t v r x all = whole_test (is_initial l v x) (has t r (word_of_value l v x)) all

initial_within : (l : LayoutState) (v : ℕ) (x : Value) → v < length l.kinds → is_initial l (variable v) x ≡ initial_set l.kinds v x
initial_within l v x within =
    let e = slice_get-get_or l.kinds v kind.Bool within in
    let f : Option Kind → Bool → Bool = λ o d. option_map_or (λ k. list_any (same_value x) (initial_values k)) o d in
    ap (λ o. f o false) e ∙ sym (ap (λ o. f o true) e)

module _ (l : LayoutState) (t : Table) (domains : List Ref) (long : length domains ≡ length l.kinds)
    (all : (v : VarId) (r : Ref) → slice_get domains v.0 ≡ Some r → (x : Value) → is_initial l v x ≡ true → values_in l t v r x ≡ true) where
  at : (v : ℕ) (x : Value) → family l t domains v x ≡ initial_set l.kinds v x
  at v x = elim (nat_lt v (length l.kinds)) as (λ b. nat_lt v (length l.kinds) ≡ b → family l t domains v x ≡ initial_set l.kinds v x) [
    | true ↦ λ is.
        let within = ltb-true v (length l.kinds) is in
        let r : Ref = get_or domains v Zero in
        let e = slice_get-get_or domains v Zero (subst (λ n. v < n) (sym long) within) in
        ap (λ o. option_map_or (λ r. values_in l t (variable v) r x) o true) e ∙ values_all l t (variable v) r x (all (variable v) r e x) ∙ initial_within l v x within
    | false ↦ λ is.
        let past = ltb-false v (length l.kinds) is in
        ap (λ o. option_map_or (λ r. values_in l t (variable v) r x) o true) (slice_get_past domains v (subst (λ n. n ≤ v) (sym long) past))
        ∙ sym (ap (λ o. option_map_or (λ k. list_any (same_value x) (initial_values k)) o true) (slice_get_past l.kinds v past))
  ] refl

  pub family_initial : family l t domains ≡ initial_set l.kinds
  family_initial = fun_ext (λ v. fun_ext (λ x. at v x))

pub initial_family : (p : Problem) (l : LayoutState) (t : Table) (domains : List Ref) → l.kinds ≡ p.kinds → length domains ≡ length l.kinds
    → ((v : VarId) (r : Ref) → slice_get domains v.0 ≡ Some r → (x : Value) → is_initial l v x ≡ true → values_in l t v r x ≡ true)
    → family l t domains ≡ (problem_of p).initial
initial_family p l t domains same long all = family_initial l t domains long all ∙ ap initial_set same
