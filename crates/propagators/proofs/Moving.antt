-- Compiled problems in other tables.
use Rattle.std.proofs.Common.{◌≡◌, ℕ, ◌<◌, Bool, true, false, ◌&&◌, List, [], ◌∷◌, length, get_or, Option, Some, refl, sym, subst, arith, Contains}
use Rattle.std.specs.Prelude.{slice_get}
use Rattle.std.specs.List.{AllZip}
use Rattle.std.specs.Option.{option_map_or}
use Rattle.std.proofs.lemmas.List.Elements.{Contains-append_left, Contains-append_right, Contains-get_or}
use Rattle.std.proofs.lemmas.Option.{slice_get_within, slice_get-get_or, get_or_from_slice_get}
use Rattle.set_meaning.specs.declared.kinds.Value.{Value}
use Rattle.set_meaning.specs.declared.problems.VarId.{VarId}
use Rattle.set_meaning.specs.declared.problems.ConId.{ConId}
use Rattle.set_meaning.specs.declared.problems.Constraint.{Constraint}
use Rattle.set_meaning.specs.declared.problems.Problem.{Problem}
use Rattle.set_meaning.specs.Relations.{Holds, variables_of}
use Rattle.bit_layout.specs.Order.{LayoutState}
use Rattle.bit_layout.proofs.Rising.{in_head, in_tail}
use Rattle.diagram_arena.specs.declared.nodes.Ref.{Ref}
use Rattle.diagram_arena.specs.declared.nodes.Ref.TheVariants.{Zero}
use Rattle.diagram_arena.specs.Table.{Word, Table, has, IsLive}
use Rattle.diagram_arena.specs.Arena.{Grows}
use Rattle.exact_steps.specs.Domains.{variable, is_initial, word_of_value, values_in, AreDomains, family}
use Rattle.exact_steps.proofs.Wanted.{values_same, domain_same, diagram_same}
use Rattle.node_reclaim.specs.Holders.{MeansTheSame}
use Rattle.propagators.specs.Compiled.{CompiledState, pinned_by, IsInitialDomain, AreInitialDomains, IsDiagramOfConstraint, IsCompiled, IsConstraintAt}

-- ---- initial domains

pub initial_domains : (l : LayoutState) (t : Table) (start : List Ref) → AreInitialDomains l t start → AreDomains l t start
initial_domains l t start is = record { long = is.long; each = λ v r e. (is.each v r e).domain }

both_or_first : (a b : Bool) → (a ≡ true → (a && b) ≡ true) → (a && b) ≡ a
both_or_first true b h = h refl
both_or_first false b h = refl

pub initial_family : (l : LayoutState) (t : Table) (start : List Ref) (v : ℕ) (x : Value) → AreInitialDomains l t start → v < length l.kinds → family l t start v x ≡ is_initial l (variable v) x
initial_family l t start v x is within =
    let r : Ref = get_or start v Zero in
    let long = is.long in
    let short : v < length start = omega (arith, long, within) in
    let at : slice_get start v ≡ Some r = slice_get-get_or start v Zero short in
    let P : Option Ref → Type 0 = λ o. option_map_or (λ r. values_in l t (variable v) r x) o true ≡ is_initial l (variable v) x in
    subst P (sym at) (both_or_first (is_initial l (variable v) x) (has t r (word_of_value l (variable v) x)) ((is.each (variable v) r at).all x))

-- ---- the same refs in another table

pub initial_same : (l : LayoutState) (t u : Table) (v : VarId) (r : Ref) → IsLive u r → ((w : Word) → has u r w ≡ has t r w) → IsInitialDomain l t v r → IsInitialDomain l u v r
initial_same l t u v r live same is = record {
  domain = domain_same l t u v r live same is.domain;
  all = λ x h. subst (λ F. F x ≡ true) (sym (values_same l t u v r same)) (is.all x h);
}

pub initial_grows : (l : LayoutState) (t u : Table) (v : VarId) (r : Ref) → Grows t u → IsInitialDomain l t v r → IsInitialDomain l u v r
initial_grows l t u v r grows is = let live = is.domain.diagram.live in initial_same l t u v r (grows.live r live) (grows.words r live) is

pub constraint_grows : (l : LayoutState) (t u : Table) (c : Constraint) (r : Ref) → Grows t u → IsDiagramOfConstraint l t c r → IsDiagramOfConstraint l u c r
constraint_grows l t u c r grows is = diagram_same l (variables_of c) (Holds c) t u r (grows.live r is.live) (grows.words r is.live) is

pub all_zip_moves : {A B : Type 0} (P Q : A → B → Type 0) (xs : List A) (ys : List B) → ((x : A) (y : B) → Contains ys y → P x y → Q x y) → AllZip P xs ys → AllZip Q xs ys
all_zip_moves P Q [] [] f h = tt
all_zip_moves P Q [] (y ∷ ys) f h = absurd h
all_zip_moves P Q (x ∷ xs) [] f h = absurd h
all_zip_moves P Q (x ∷ xs) (y ∷ ys) f h = (f x y (in_head y ys) h.0, all_zip_moves P Q xs ys (λ a b m. f a b (in_tail y ys b m)) h.1)

pub listed_at : {X : Type 0} (xs : List X) (n : ℕ) (x : X) → slice_get xs n ≡ Some x → Contains xs x
listed_at xs n x e = subst (Contains xs) (get_or_from_slice_get xs n x x e) (Contains-get_or xs n x (slice_get_within xs n x e))

pub compiled_grows : (l : LayoutState) (p : Problem) (t u : Table) (k : CompiledState) → Grows t u → IsCompiled l p t k → IsCompiled l p u k
compiled_grows l p t u k grows is = record {
  legal = is.legal;
  kinds = is.kinds;
  start = record { long = is.start.long; each = λ v r e. initial_grows l t u v r grows (is.start.each v r e) };
  scopes = is.scopes;
  diagrams = all_zip_moves (IsDiagramOfConstraint l t) (IsDiagramOfConstraint l u) p.constraints k.diagrams (λ c r m d. constraint_grows l t u c r grows d) is.diagrams;
}

pub compiled_same : (l : LayoutState) (p : Problem) (t u : Table) (k : CompiledState) → MeansTheSame t u (pinned_by k) → IsCompiled l p t k → IsCompiled l p u k
compiled_same l p t u k means is = record {
  legal = is.legal;
  kinds = is.kinds;
  start = record {
    long = is.start.long;
    each = λ v r e. let m = means r (Contains-append_left k.start k.diagrams r (listed_at k.start v.0 r e)) in initial_same l t u v r m.0 m.1 (is.start.each v r e);
  };
  scopes = is.scopes;
  diagrams = all_zip_moves (IsDiagramOfConstraint l t) (IsDiagramOfConstraint l u) p.constraints k.diagrams
      (λ c r h d. let m = means r (Contains-append_right k.start k.diagrams r h) in diagram_same l (variables_of c) (Holds c) t u r m.0 m.1 d) is.diagrams;
}

pub constraint_at_grows : (l : LayoutState) (t u : Table) (k : CompiledState) (c : ConId) (con : Constraint) (scope : List VarId) → Grows t u → IsConstraintAt l t k c con scope → IsConstraintAt l u k c con scope
constraint_at_grows l t u k c con scope grows is = record { problem = is.problem; compiled = compiled_grows l is.problem t u k grows is.compiled; at = is.at; scope_at = is.scope_at }
