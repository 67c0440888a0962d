-- The variables of a scope are those that stand in the constraint.
use Rattle.std.proofs.Common.{◌≡◌, ◌↔◌, ℕ, List, sym, subst}
use Rattle.std.specs.Prelude.{All, Any, Contains, IsTrue, IsSomeAnd, Bool, true, false, Some, None, slice_get}
use Rattle.log_checker.specs.Words.{SideStands}
use Rattle.set_meaning.specs.declared.problems.VarId.{VarId}
use Rattle.set_meaning.specs.declared.problems.Constraint.{Constraint}
use Rattle.set_meaning.specs.Relations.{IsScope, variables_of}
use Rattle.log_rules.specs.Rules.{StandsIn}

any_from : (xs ys : List VarId) (n : ℕ) → ((v : VarId) → Contains xs v → Contains ys v) → Any (λ v. v.0 ≡ n) xs → Any (λ v. v.0 ≡ n) ys
any_from xs ys n f h =
    let there = f h.1 (h.0, h.2, h.3) in (there.0, h.1, there.1, there.2, h.4)

pub stands : (c : Constraint) (scope : List VarId) (side : ℕ × ℕ) (r : Bool) → IsScope c scope → IsTrue r ↔ Any (λ v. v.0 ≡ side.0) scope → IsTrue r ↔ SideStands c side
unfolding SideStands
stands c scope side r is h = (
  (λ t. any_from scope (variables_of c) side.0 (λ v. (is.members v).0) (h.0 t)),
  (λ s. h.1 (any_from (variables_of c) scope side.0 (λ v. (is.members v).1) s)),
)

pub scope_there : (constraints : List Constraint) (n : ℕ) (c : Constraint) (sides : List (ℕ × ℕ)) (r : Bool) → slice_get constraints n ≡ Some c
    → IsTrue r ↔ All (SideStands c) sides → IsTrue r ↔ IsSomeAnd (slice_get constraints n) (λ k. All (λ side. StandsIn k side.0) sides)
unfolding SideStands
scope_there constraints n c sides r is h = subst (λ o. IsTrue r ↔ IsSomeAnd o (λ k. All (λ side. StandsIn k side.0) sides)) (sym is) h

pub scope_not_there : (constraints : List Constraint) (n : ℕ) (sides : List (ℕ × ℕ)) → slice_get constraints n ≡ None
    → IsTrue false ↔ IsSomeAnd (slice_get constraints n) (λ k. All (λ side. StandsIn k side.0) sides)
scope_not_there constraints n sides is =
    ((λ f. absurd (let e : false ≡ true = f in cc)), (λ h. absurd (subst (λ o. IsSomeAnd o (λ k. All (λ side. StandsIn k side.0) sides)) is h)))
