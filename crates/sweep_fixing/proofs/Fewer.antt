-- The variables and sides that stay when a variable is given a value.
use Rattle.std.proofs.Common.{◌≡◌, ◌≢◌, ℕ, suc, ◌+◌, ◌<◌, ◌≤◌, ◌==◌, Bool, true, false, not, cond, List, [], ◌∷◌, ◌++◌, length, map, Contains, Option, Some, None, refl, sym, ap, ◌∙◌, subst, inl, inr, arith}
use Rattle.std.specs.Prelude.{◌⊎◌, option_map, option_to_list, All, Any}
use Rattle.std.specs.Ordering.{nat_cmp}
use Rattle.std.specs.List.{filter, filter_map, flat_map}
use Rattle.std.proofs.lemmas.Bool.{eqb-true, eqb-false, ne_eqb}
use Rattle.std.proofs.lemmas.List.{map-append}
use Rattle.std.proofs.lemmas.List.Elements.{All-head, All-tail, All-nil, All-cons}
use Rattle.std.proofs.lemmas.List.Kept.{IsStrictlySortedBy-filter}
use Rattle.set_meaning.specs.declared.kinds.Kind.{Kind}
use Rattle.set_meaning.specs.declared.kinds.Value.{Value}
use Rattle.set_meaning.specs.declared.problems.VarId.{VarId}
use Rattle.set_meaning.specs.declared.problems.Term.{Term}
use Rattle.set_meaning.specs.declared.problems.Term.TheVariants.{Const, Var}
use Rattle.set_meaning.specs.declared.problems.Arg.{Arg}
use Rattle.set_meaning.specs.declared.problems.Arg.TheVariants.{One, Many}
use Rattle.set_meaning.specs.declared.problems.Constraint.{Constraint}
use Rattle.set_meaning.specs.Relations.{terms_of, variable_of, variables_of}
use Rattle.bit_layout.proofs.Rising.{nothing_in_empty, in_cons, in_head, in_tail}
use Rattle.log_rules.specs.declared.nodes.Node.{Node}
use Rattle.log_rules.specs.Boxes.{Sides, IsSide, AreSides}
use Rattle.log_rules.specs.Rules.{StandsIn}
use Rattle.sweep_fixing.specs.Fixing.{fixed_term, fixed_arg, fixed, is_other, others}

-- ---- sides

kept : (P : ℕ × ℕ → Type 0) (v : ℕ) (sides : Sides) → All P sides → All P (others v sides)
kept P v [] h = All-nil P
kept P v (s ∷ sides) h = by (is_other v s) (kept P v sides (All-tail P s sides h))
  where
    by : (b : Bool) → All P (others v sides) → All P (cond b (s ∷ others v sides) (others v sides))
    by true rest = All-cons P s (others v sides) (All-head P s sides h) rest
    by false rest = rest

pub sides_stay : (kinds : List Kind) (table : List Node) (sides : Sides) (v : VarId) → AreSides kinds table sides → AreSides kinds table (others v.0 sides)
sides_stay kinds table sides v h = record {
  ascending = IsStrictlySortedBy-filter (λ a b. nat_cmp a.0 b.0) (is_other v.0) sides h.ascending;
  each = kept (IsSide kinds table) v.0 sides h.each;
}

-- ---- variables

-- the variables of the terms, without this one
abbrev without : VarId → List VarId → List VarId
without v vs = filter (λ u. not (u.0 == v.0)) vs

fixed_variables : (v : VarId) (x : Value) (ts : List Term) → filter_map variable_of (map (fixed_term v x) ts) ≡ without v (filter_map variable_of ts)
fixed_variables v x [] = refl
fixed_variables v x (Const y ∷ ts) = fixed_variables v x ts
fixed_variables v x (Var u ∷ ts) = by (u.0 == v.0) (fixed_variables v x ts)
  where
    by : (b : Bool) → filter_map variable_of (map (fixed_term v x) ts) ≡ without v (filter_map variable_of ts) → filter_map variable_of (cond b (Const x) (Var u) ∷ map (fixed_term v x) ts) ≡ cond (not b) (u ∷ without v (filter_map variable_of ts)) (without v (filter_map variable_of ts))
    by true rest = rest
    by false rest = ap (λ us. u ∷ us) rest

terms_of_fixed : (v : VarId) (x : Value) (a : Arg) → terms_of (fixed_arg v x a) ≡ map (fixed_term v x) (terms_of a)
terms_of_fixed v x (One t) = refl
terms_of_fixed v x (Many ts) = refl

all_terms : (v : VarId) (x : Value) (args : List Arg) → flat_map terms_of (map (fixed_arg v x) args) ≡ map (fixed_term v x) (flat_map terms_of args)
all_terms v x [] = refl
all_terms v x (a ∷ args) =
    ap (λ ts. ts ++ flat_map terms_of (map (fixed_arg v x) args)) (terms_of_fixed v x a)
    ∙ ap (λ ts. map (fixed_term v x) (terms_of a) ++ ts) (all_terms v x args)
    ∙ sym (map-append (fixed_term v x) (terms_of a) (flat_map terms_of args))

named_term : (v : VarId) (x : Value) (reif : Option Term) → option_to_list (option_map (fixed_term v x) reif) ≡ map (fixed_term v x) (option_to_list reif)
named_term v x None = refl
named_term v x (Some t) = refl

variables_left : (c : Constraint) (v : VarId) (x : Value) → variables_of (fixed v x c) ≡ without v (variables_of c)
variables_left c v x =
    ap (filter_map variable_of) (
    ap (λ ts. ts ++ option_to_list (option_map (fixed_term v x) c.reif)) (all_terms v x c.args)
    ∙ ap (λ ts. map (fixed_term v x) (flat_map terms_of c.args) ++ ts) (named_term v x c.reif)
    ∙ sym (map-append (fixed_term v x) (flat_map terms_of c.args) (option_to_list c.reif)))
    ∙ fixed_variables v x (flat_map terms_of c.args ++ option_to_list c.reif)

-- another variable stays
stays : (v u : VarId) (vs : List VarId) → Contains vs u → (u.0 ≡ v.0 → ⊥) → Contains (without v vs) u
stays v u [] h other = absurd (nothing_in_empty u h)
stays v u (w ∷ vs) h other = by (w.0 == v.0) refl (λ k. stays v u vs k other)
  where
    later : (b : Bool) → (w.0 == v.0) ≡ b → w ≡ u → Contains (cond (not b) (w ∷ without v vs) (without v vs)) u
    later true e same = absurd (other (ap (λ (y : VarId). y.0) (sym same) ∙ eqb-true w.0 v.0 e))
    later false e same = subst (λ y. Contains (y ∷ without v vs) u) (sym same) (in_head u (without v vs))

    tail : (b : Bool) → Contains (without v vs) u → Contains (cond (not b) (w ∷ without v vs) (without v vs)) u
    tail true k = k
    tail false k = in_tail w (without v vs) u k

    by : (b : Bool) → (w.0 == v.0) ≡ b → (Contains vs u → Contains (without v vs) u) → Contains (cond (not b) (w ∷ without v vs) (without v vs)) u
    by b e again = elim (in_cons w vs u h) [
      | inl same ↦ later b e same
      | inr k ↦ tail b (again k)
    ]

at_most : (v : VarId) (vs : List VarId) → length (without v vs) ≤ length vs
at_most v [] = omega arith
at_most v (w ∷ vs) = by (w.0 == v.0) (at_most v vs)
  where
    by : (b : Bool) → length (without v vs) ≤ length vs → length (cond (not b) (w ∷ without v vs) (without v vs)) ≤ suc (length vs)
    by true r = omega (arith, r)
    by false r = omega (arith, r)

less : (v : VarId) (vs : List VarId) → Contains vs v → length (without v vs) < length vs
less v [] h = absurd (nothing_in_empty v h)
less v (w ∷ vs) h = by (w.0 == v.0) refl (λ k. less v vs k)
  where
    by : (b : Bool) → (w.0 == v.0) ≡ b → (Contains vs v → length (without v vs) < length vs) → length (cond (not b) (w ∷ without v vs) (without v vs)) < suc (length vs)
    by true e again = let r = at_most v vs in omega (arith, r)
    by false e again = elim (in_cons w vs v h) [
      | inl same ↦ absurd (eqb-false w.0 v.0 e (ap (λ (y : VarId). y.0) same))
      | inr k ↦ let r = again k in omega (arith, r)
    ]

pub fewer_variables : (c : Constraint) (v : VarId) (x : Value) → Contains (variables_of c) v → length (variables_of (fixed v x c)) < length (variables_of c)
fewer_variables c v x h = subst (λ vs. length vs < length (variables_of c)) (sym (variables_left c v x)) (less v (variables_of c) h)

-- ---- the sides that stay are of variables that stay

stands_still : (c : Constraint) (v : VarId) (x : Value) (k : ℕ) → (k ≡ v.0 → ⊥) → StandsIn c k → StandsIn (fixed v x c) k
stands_still c v x k other stands =
    let u = stands.1 in
    let there : Contains (variables_of c) u = (stands.0, stands.2, stands.3) in
    let left : Contains (variables_of (fixed v x c)) u = subst (λ vs. Contains vs u) (sym (variables_left c v x)) (stays v u (variables_of c) there (λ e. other (sym stands.4 ∙ e))) in
    (left.0, u, left.1, left.2, stands.4)

pub sides_named : (sides : Sides) (c : Constraint) (v : VarId) (x : Value) → All (λ side. StandsIn c side.0) sides → All (λ side. StandsIn (fixed v x c) side.0) (others v.0 sides)
sides_named [] c v x h = All-nil (λ side. StandsIn (fixed v x c) side.0)
sides_named (s ∷ sides) c v x h = by (s.0 == v.0) refl (sides_named sides c v x (All-tail (λ side. StandsIn c side.0) s sides h))
  where
    by : (b : Bool) → (s.0 == v.0) ≡ b → All (λ side. StandsIn (fixed v x c) side.0) (others v.0 sides) → All (λ side. StandsIn (fixed v x c) side.0) (cond (not b) (s ∷ others v.0 sides) (others v.0 sides))
    by true e rest = rest
    by false e rest =
        All-cons (λ side. StandsIn (fixed v x c) side.0) s (others v.0 sides)
        (stands_still c v x s.0 (eqb-false s.0 v.0 e) (All-head (λ side. StandsIn c side.0) s sides h)) rest
