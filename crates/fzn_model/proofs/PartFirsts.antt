-- First faults of one rule, of two, of some parts.
use Rattle.std.proofs.Common.{◌≡◌, ◌⊎◌, ◌+◌, List, [], ◌∷◌, ◌++◌, Option, Some, None, refl, sym, subst, inl, inr, arith}
use Rattle.std.proofs.lemmas.List.Elements.{Contains-append_left, Contains-push, Contains-push_cases}
use Rattle.std.proofs.lemmas.Option.{none-some, same_Some}
use Rattle.fzn_model.specs.declared.faults.ModelFault.{ModelFault}
use Rattle.fzn_model.specs.FirstFault.{AreNone, IsFirstOf}
use Rattle.fzn_model.specs.PartFaults.{OfSome}
use Rattle.fzn_model.proofs.Firsts.{only_one, same_first}

-- ---- of an optional fault

pub just : (o : Option ModelFault) → IsFirstOf (λ f. o ≡ Some f) o
just None = λ f e. none-some f e
just (Some g) = only_one g refl (λ other e. sym (same_Some g other e))

-- ---- of the same faults, said otherwise

pub same_faults : (P Q : ModelFault → Type 0) (r : Option ModelFault)
    → ((f : ModelFault) → P f → Q f) → ((f : ModelFault) → Q f → P f) → IsFirstOf P r → IsFirstOf Q r
same_faults P Q r to from first = same_first to from r first

-- ---- of some parts

pub some_none : {A : Type 0} (Has : A → ModelFault → Type 0) → AreNone (OfSome Has [])
some_none Has fault h = let k = h.used.1 in omega arith

pub some_left : {A : Type 0} (Has : A → ModelFault → Type 0) (xs ys : List A) (f : ModelFault) → OfSome Has xs f → OfSome Has (xs ++ ys) f
some_left Has xs ys f h = record { part = h.part; used = Contains-append_left xs ys h.part h.used; faulty = h.faulty }

pub some_last : {A : Type 0} (Has : A → ModelFault → Type 0) (xs : List A) (x : A) (f : ModelFault) → Has x f → OfSome Has (xs ++ x ∷ []) f
some_last Has xs x f h = record { part = x; used = Contains-push xs x; faulty = h }

pub push_cases : {A : Type 0} (Has : A → ModelFault → Type 0) (xs : List A) (x : A) (f : ModelFault)
    → OfSome Has (xs ++ x ∷ []) f → OfSome Has xs f ⊎ Has x f
push_cases Has xs x f h =
    elim (Contains-push_cases xs x h.part h.used) [
      | inl u ↦ inl (record { part = h.part; used = u; faulty = h.faulty })
      | inr e ↦ inr (subst (λ y. Has y f) (sym e) h.faulty)
    ]

-- of one part
pub single : {A : Type 0} (Has : A → ModelFault → Type 0) (x : A) (f : ModelFault) → OfSome Has (x ∷ []) f → Has x f
single Has x f h = elim (push_cases Has [] x f h) [ inl u ↦ absurd (some_none Has f u) | inr y ↦ y ]

pub first_single : {A : Type 0} (Has : A → ModelFault → Type 0) (x : A) (r : Option ModelFault) → IsFirstOf (Has x) r → IsFirstOf (OfSome Has (x ∷ [])) r
first_single Has x r first =
    same_faults (Has x) (OfSome Has (x ∷ [])) r (λ f h. some_last Has [] x f h) (λ f h. single Has x f h) first
