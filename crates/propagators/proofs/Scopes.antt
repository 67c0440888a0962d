-- A constraint's entry in a compiled problem: its variables, its scope and its diagram.
use Rattle.std.proofs.Common.{◌≡◌, ℕ, ◌<◌, List, [], ◌∷◌, ◌++◌, length, Option, Some, None, refl, sym, subst, inl, inr, arith, Contains}
use Rattle.std.specs.Prelude.{slice_get, IsSomeAnd, MatchOption, IfSome, IsTrue, filter_map, option_to_list, option_map}
use Rattle.std.specs.List.{All, AllZip, flat_map}
use Rattle.std.proofs.lemmas.List.Elements.{All-contains, All-contains_itself, All-weaker, Contains-append_cases}
use Rattle.std.proofs.lemmas.Option.{slice_get_within}
use Rattle.std.proofs.lemmas.Slice.Zip.{AllZip-left, AllZip-right, AllZip-long}
use Rattle.set_meaning.specs.declared.kinds.Kind.{Kind}
use Rattle.set_meaning.specs.declared.kinds.Value.{Value}
use Rattle.set_meaning.specs.declared.problems.VarId.{VarId}
use Rattle.set_meaning.specs.declared.problems.ConId.{ConId}
use Rattle.set_meaning.specs.declared.problems.Term.{Term}
use Rattle.set_meaning.specs.declared.problems.Term.TheVariants.{Const, Var}
use Rattle.set_meaning.specs.declared.problems.Arg.{Arg}
use Rattle.set_meaning.specs.declared.problems.Arg.TheVariants.{One, Many}
use Rattle.set_meaning.specs.declared.problems.Constraint.{Constraint}
use Rattle.set_meaning.specs.declared.problems.Problem.{Problem}
use Rattle.set_meaning.specs.declared.rows.Sort.{Sort}
use Rattle.set_meaning.specs.declared.rows.Sort.TheVariants.{Boolean}
use Rattle.set_meaning.specs.declared.rows.Shape.{Shape}
use Rattle.set_meaning.specs.declared.rows.Shape.TheVariants.{OneOf, ManyOf, ConstantOf, ConstantsOf}
use Rattle.set_meaning.specs.Rows.{sort_of_kind, HasSort, IsConstantOf, HasShape, row_of, shapes_of, FitsRow}
use Rattle.set_meaning.specs.Relations.{Holds, terms_of, variable_of, variables_of, IsScope}
use Rattle.bit_layout.specs.Order.{LayoutState}
use Rattle.bit_layout.proofs.Rising.{nothing_in_empty, in_cons, in_head, in_tail}
use Rattle.diagram_arena.specs.declared.nodes.Ref.{Ref}
use Rattle.diagram_arena.specs.Table.{Words, Table, has}
use Rattle.scope_words.specs.Words.{AreWordsOf, IsDiagramOf}
use Rattle.scope_words.proofs.Bits.{in_flat_map}
use Rattle.exact_steps.proofs.Values.{some_and, same_some}
use Rattle.propagators.specs.Compiled.{CompiledState, IsDiagramOfConstraint, IsCompiled, IsConstraintAt}
use Rattle.propagators.proofs.Moving.{listed_at}

-- ---- the variables of a constraint are the problem's

pub in_variables : (ts : List Term) (v : VarId) → Contains (filter_map variable_of ts) v → Contains ts (Var v)
in_variables [] v h = absurd (nothing_in_empty v h)
in_variables (Const x ∷ ts) v h = in_tail (Const x) ts (Var v) (in_variables ts v h)
in_variables (Var u ∷ ts) v h = elim (in_cons u (filter_map variable_of ts) v h) [
  | inl e ↦ subst (λ (w : VarId). Contains (Var u ∷ ts) (Var w)) e (in_head (Var u) ts)
  | inr later ↦ in_tail (Var u) ts (Var v) (in_variables ts v later)
]

shape_of : (kinds : List Kind) (shapes : List Shape) (args : List Arg) (a : Arg) → AllZip (HasShape kinds) shapes args → Contains args a → (s : Shape) × HasShape kinds s a
shape_of kinds [] [] a h m = absurd (nothing_in_empty a m)
shape_of kinds [] (b ∷ args) a h m = absurd h
shape_of kinds (s ∷ shapes) [] a h m = absurd h
shape_of kinds (s ∷ shapes) (b ∷ args) a h m = elim (in_cons b args a m) [
  | inl e ↦ (s, subst (HasShape kinds s) e h.0)
  | inr later ↦ shape_of kinds shapes args a h.1 later
]

pub one_term : (t u : Term) → Contains (t ∷ []) u → t ≡ u
one_term t u h = elim (in_cons t [] u h) [ inl e ↦ e | inr none ↦ absurd (nothing_in_empty u none) ]

term_sort : (kinds : List Kind) (s : Shape) (a : Arg) (v : VarId) → HasShape kinds s a → Contains (terms_of a) (Var v) → (sort : Sort) × HasSort kinds sort (Var v)
term_sort kinds (OneOf sort) (One t) v h m = (sort, subst (HasSort kinds sort) (one_term t (Var v) m) h)
term_sort kinds (OneOf sort) (Many ts) v h m = absurd h
term_sort kinds (ManyOf sort) (One t) v h m = absurd h
term_sort kinds (ManyOf sort) (Many ts) v h m = (sort, All-contains (HasSort kinds sort) ts (Var v) h m)
term_sort kinds (ConstantOf sort) (One t) v h m = absurd (subst (IsConstantOf sort) (one_term t (Var v) m) h)
term_sort kinds (ConstantOf sort) (Many ts) v h m = absurd h
term_sort kinds (ConstantsOf sort) (One t) v h m = absurd h
term_sort kinds (ConstantsOf sort) (Many ts) v h m = absurd (All-contains (IsConstantOf sort) ts (Var v) h m)

some_kind : (o : Option Kind) (sort : Sort) → option_map sort_of_kind o ≡ Some sort → (k : Kind) × (o ≡ Some k)
some_kind None sort e = absurd (cc)
some_kind (Some k) sort e = (k, refl)

sort_known : (kinds : List Kind) (sort : Sort) (v : VarId) → HasSort kinds sort (Var v) → v.0 < length kinds
sort_known kinds sort v h = let k = some_kind (slice_get kinds v.0) sort h in slice_get_within kinds v.0 k.0 k.1

truth_sort : (kinds : List Kind) (reif : Option Term) (v : VarId) → MatchOption reif (Unit {0}) (λ t. HasSort kinds Boolean t) → Contains (option_to_list reif) (Var v) → HasSort kinds Boolean (Var v)
truth_sort kinds None v h m = absurd (nothing_in_empty (Var v) m)
truth_sort kinds (Some t) v h m = subst (HasSort kinds Boolean) (one_term t (Var v) m) h

truth_of_row : (kinds : List Kind) (c : Constraint) → FitsRow kinds c → MatchOption c.reif (Unit {0}) (λ t. HasSort kinds Boolean t)
truth_of_row kinds c fits = each c.reif fits.reif
  where
    each : (reif : Option Term) → IfSome reif (λ t. IsTrue (row_of c.relation).reifiable × HasSort kinds Boolean t) → MatchOption reif (Unit {0}) (λ t. HasSort kinds Boolean t)
    each None h = tt
    each (Some t) h = h.1

pub variable_known : (kinds : List Kind) (c : Constraint) (v : VarId) → FitsRow kinds c → Contains (variables_of c) v → v.0 < length kinds
variable_known kinds c v fits h =
    let at = in_variables (flat_map terms_of c.args ++ option_to_list c.reif) v h in
    elim (Contains-append_cases (flat_map terms_of c.args) (option_to_list c.reif) (Var v) at) [
      | inl argument ↦
          let a = in_flat_map terms_of c.args (Var v) argument in
          let s = shape_of kinds (shapes_of (row_of c.relation)) c.args a.0 fits.args a.1 in
          let sort = term_sort kinds s.0 a.0 v s.1 a.2 in
          sort_known kinds sort.0 v sort.1
      | inr truth ↦ sort_known kinds Boolean v (truth_sort kinds c.reif v (truth_of_row kinds c fits) truth)
    ]

-- ---- the same variables in another order

pub same_members_words : (l : LayoutState) (A B : List VarId) (C : List Value → Type 0) (V : Words) → ((v : VarId) → Contains A v → Contains B v) → ((v : VarId) → Contains B v → Contains A v) → AreWordsOf l A C V
    → AreWordsOf l B C V
same_members_words l A B C V there back is = record {
  sound = λ w h. let r = is.sound w h in (r.0, r.1, λ v m. r.2 v (back v m), r.3);
  whole = λ w values given h. is.whole w values (λ v m. given v (there v m)) h;
}

pub scope_diagram : (l : LayoutState) (t : Table) (c : Constraint) (scope : List VarId) (r : Ref) → IsScope c scope → IsDiagramOfConstraint l t c r → IsDiagramOf l scope (Holds c) t r
scope_diagram l t c scope r is d = record {
  live = d.live;
  words = same_members_words l (variables_of c) scope (Holds c) (has t r) (λ v h. (is.members v).1 h) (λ v h. (is.members v).0 h) d.words;
}

-- ---- an entry

-- the constraint has this scope, of variables of the problem, and this diagram
pub record IsEntry (l : LayoutState) (t : Table) (c : Constraint) (scope : List VarId) (r : Ref) : Type 0 where
  pub is_scope : IsScope c scope
  pub known : All (λ v. v.0 < length l.kinds) scope
  pub diagram : IsDiagramOf l scope (Holds c) t r

pub entry : (l : LayoutState) (p : Problem) (t : Table) (k : CompiledState) (n : ℕ) (scope : List VarId) (r : Ref) → IsCompiled l p t k → slice_get k.scopes n ≡ Some scope → slice_get k.diagrams n ≡ Some r
    → (c : Constraint) × (slice_get p.constraints n ≡ Some c) × IsEntry l t c scope r
entry l p t k n scope r is at_scope at_diagram =
    let right = AllZip-right IsScope p.constraints k.scopes is.scopes n in
    let found = some_and (slice_get p.constraints n) (λ c. IsScope c scope) (subst (λ o. MatchOption o (Unit {0}) (λ s. IsSomeAnd (slice_get p.constraints n) (λ c. IsScope c s))) at_scope right) in
    let left = AllZip-left (IsDiagramOfConstraint l t) p.constraints k.diagrams is.diagrams n in
    let other = some_and (slice_get k.diagrams n) (IsDiagramOfConstraint l t found.0) (subst (λ o. MatchOption o (Unit {0}) (λ c. IsSomeAnd (slice_get k.diagrams n) (IsDiagramOfConstraint l t c))) found.1 left) in
    let own = subst (IsDiagramOfConstraint l t found.0) (same_some (slice_get k.diagrams n) other.0 r other.1 at_diagram) other.2 in
    let fits : FitsRow p.kinds found.0 = All-contains (FitsRow p.kinds) p.constraints found.0 is.legal.constraints (listed_at p.constraints n found.0 found.1) in (
      found.0,
      found.1,
      record {
        is_scope = found.2;
        known = All-weaker (Contains scope) (λ v. v.0 < length l.kinds)
            (λ v m. subst (λ (ks : List Kind). v.0 < length ks) (sym is.kinds) (variable_known p.kinds found.0 v fits ((found.2.members v).0 m))) scope (All-contains_itself scope);
        diagram = scope_diagram l t found.0 scope r found.2 own;
      },
    )

pub entry_at : (l : LayoutState) (t : Table) (k : CompiledState) (c : ConId) (con : Constraint) (scope : List VarId) (r : Ref) → IsConstraintAt l t k c con scope → slice_get k.diagrams c.0 ≡ Some r → IsEntry l t con scope r
entry_at l t k c con scope r is e =
    let f = entry l is.problem t k c.0 scope r is.compiled is.scope_at e in
    subst (λ x. IsEntry l t x scope r) (same_some (slice_get is.problem.constraints c.0) f.0 con f.1 is.at) f.2

pub diagram_there : (l : LayoutState) (p : Problem) (t : Table) (k : CompiledState) (n : ℕ) → IsCompiled l p t k → n < length k.scopes → n < length k.diagrams
diagram_there l p t k n is within =
    let scopes : length k.scopes ≡ length p.constraints = AllZip-long IsScope p.constraints k.scopes is.scopes in
    let diagrams : length k.diagrams ≡ length p.constraints = AllZip-long (IsDiagramOfConstraint l t) p.constraints k.diagrams is.diagrams in
    omega (arith, scopes, diagrams, within)
