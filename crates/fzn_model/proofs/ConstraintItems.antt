-- The faults at the name of a constraint are those of its name, its arguments and the counts.
use Rattle.std.proofs.Common.{◌≡◌, ◌⊎◌, ◌↔◌, ℕ, ◌+◌, ◌<◌, true, if◌then◌else◌, List, [], ◌∷◌, ◌++◌, Option, Some, None, refl, sym, ap, ◌∙◌, subst, inl, inr, arith}
use Rattle.std.specs.Option.{IsSomeAnd}
use Rattle.std.specs.Prelude.{count_by, sum_by}
use Rattle.std.proofs.Math.Path.{fun_ext}
use Rattle.std.proofs.lemmas.Option.{same_Some}
use Rattle.std.proofs.lemmas.List.Sums.{sum_by_push}
use Rattle.fzn_parser.specs.declared.tree.Ident.{Ident}
use Rattle.fzn_parser.specs.declared.tree.Ann.{Ann}
use Rattle.fzn_parser.specs.declared.tree.TypeExpr.{TypeExpr}
use Rattle.fzn_parser.specs.declared.tree.Expr.{Expr}
use Rattle.fzn_parser.specs.declared.tree.Form.TheVariants as forms
use Rattle.fzn_parser.specs.declared.tree.Item.{Item}
use Rattle.set_meaning.specs.declared.problems.Constraint.{Constraint}
use Rattle.fzn_model.specs.declared.faults.ModelFault.{ModelFault}
use Rattle.fzn_model.specs.declared.faults.ModelFault.TheVariants as faults
use Rattle.fzn_model.specs.declared.so_far.SoFar.{SoFar}
use Rattle.fzn_model.specs.State.{AreSoFar}
use Rattle.fzn_model.specs.Lists.{sum_after}
use Rattle.fzn_model.specs.Items.{adds_constraint, constrained_in}
use Rattle.fzn_model.specs.Entities.{naming_after}
use Rattle.fzn_model.specs.ProblemOf.{constraint_named}
use Rattle.fzn_model.specs.FaultsOf.{AreTooMany, HasGoodArguments, HaveTooManyTerms, InConstraint, bits_at, own_terms, terms_after}
use Rattle.fzn_model.specs.FirstFault.{IsFirstOf}
use Rattle.fzn_model.specs.ConstraintFaults.{ArePast, Before, IsBefore, IsUnpaired, IsWide, OfConstraint, OfCounts, OfGood, before_of, term_count}
use Rattle.fzn_model.proofs.PartFirsts.{same_faults}
use Rattle.fzn_model.proofs.ConstraintRules.{sum_after_push}

-- ---- counts

one_more : (before : List Item) (item : Item) → adds_constraint item.form ≡ true
    → count_by (λ other. adds_constraint other.form) (before ++ item ∷ []) ≡ count_by (λ other. adds_constraint other.form) before + 1
one_more before item adds =
    let one : (if adds_constraint item.form then 1 else 0) ≡ 1 = rw adds refl in
    sum_by_push (λ (other : Item). if adds_constraint other.form then 1 else 0) before item
    ∙ ap (λ n. count_by (λ (other : Item). adds_constraint other.form) before + n) one

-- the counts up to an item that adds a constraint
many_to : (before : List Item) (item : Item) (b : Before) → IsBefore before b → adds_constraint item.form ≡ true
    → AreTooMany before item → 100000 < b.constraints + 1
many_to before item b is adds h = let e = one_more before item adds in let c = is.counted in omega (arith, h)

many_from : (before : List Item) (item : Item) (b : Before) → IsBefore before b → adds_constraint item.form ≡ true
    → 100000 < b.constraints + 1 → AreTooMany before item
many_from before item b is adds h = let e = one_more before item adds in let c = is.counted in omega (arith, h)

terms_up_to : (before : List Item) (item : Item) (b : Before) → IsBefore before b
    → sum_after terms_after [] (before ++ item ∷ []) ≡ b.terms + own_terms item.form + sum_by (term_count b.naming) (constrained_in item.form)
terms_up_to before item b is =
    let e = sum_after_push terms_after [] before item in
    let s = is.summed in
    let n : sum_by (term_count b.naming) (constrained_in item.form) ≡ sum_by (term_count (naming_after before)) (constrained_in item.form)
    = ap (λ naming. sum_by (term_count naming) (constrained_in item.form)) is.same_naming in
    omega (arith, e)

counts_to : (before : List Item) (item : Item) (b : Before) (IsGood : Type 0) → IsBefore before b → adds_constraint item.form ≡ true
    → (HasGoodArguments before item → IsGood) → AreTooMany before item ⊎ HaveTooManyTerms before item
    → ArePast IsGood b.constraints (b.terms + own_terms item.form + sum_by (term_count b.naming) (constrained_in item.form))
counts_to before item b IsGood is adds good (inl h) = inl (many_to before item b is adds h)
counts_to before item b IsGood is adds good (inr h) = inr (good h.good, subst (λ n. 4194304 < n) (terms_up_to before item b is) h.many)

counts_from : (before : List Item) (item : Item) (b : Before) (IsGood : Type 0) → IsBefore before b → adds_constraint item.form ≡ true
    → (IsGood → HasGoodArguments before item)
    → ArePast IsGood b.constraints (b.terms + own_terms item.form + sum_by (term_count b.naming) (constrained_in item.form))
    → AreTooMany before item ⊎ HaveTooManyTerms before item
counts_from before item b IsGood is adds good (inl h) = inl (many_from before item b is adds h)
counts_from before item b IsGood is adds good (inr h) =
    inr (record { good = good h.0; many = subst (λ n. 4194304 < n) (sym (terms_up_to before item b is)) h.1 })

-- ---- constraint items

is_at : (Has : Constraint → Type 0) (made : Option Constraint) (c : Constraint) → made ≡ Some c → Has c → IsSomeAnd made Has
is_at Has made c e h = subst (λ m. IsSomeAnd m Has) (sym e) h

is_from : (Has : Constraint → Type 0) (made : Option Constraint) → IsSomeAnd made Has → (c : Constraint) × (made ≡ Some c) × Has c
is_from Has None h = absurd h
is_from Has (Some c) h = (c, refl, h)

module _ (before : List Item) (at : ℕ) (ident : Ident) (es : List Expr) (anns : List Ann) (b : Before) (IsGood : Type 0) (is : IsBefore before b) where
  abbrev item : Item
  item = record { at = at; form = forms.Constraint ident es anns }

  made_after : constraint_named b.naming ident.name es ≡ constraint_named (naming_after before) ident.name es
  made_after = ap (λ naming. constraint_named naming ident.name es) is.same_naming

  pub constraint_to : (HasGoodArguments before item → IsGood) → (f : ModelFault) → InConstraint before item f → OfConstraint IsGood ident.at b ident.name es f
  constraint_to good (faults.UnknownConstraint p) h = inl (inl (ap faults.UnknownConstraint h.0, h.1))
  constraint_to good (faults.WrongCount p) (inl h) = inl (inr (ap faults.WrongCount h.0, (h.1, h.2)))
  constraint_to good (faults.WrongCount p) (inr h) =
      inr (inl (
        good h.good,
        inl (
          ap faults.WrongCount h.is.0,
          is_at IsUnpaired (constraint_named b.naming ident.name es) h.constraint (made_after ∙ h.is.1) (h.linear, h.unpaired),
        ),
      ))
  constraint_to good (faults.ScopeTooWide p) h =
      let kinds : h.kinds ≡ b.kinds = same_Some h.kinds b.kinds (sym h.known ∙ is.known) in
      inr (inl (
        good h.good,
        inr (
          ap faults.ScopeTooWide h.is.0,
          is_at (IsWide b.kinds) (constraint_named b.naming ident.name es) h.constraint (made_after ∙ h.is.1)
              (h.scope, h.scoped, subst (λ ks. 2048 < sum_by (bits_at ks) h.scope) kinds h.wide),
        ),
      ))
  constraint_to good (faults.TooManyConstraints p) h = inr (inr (ap faults.TooManyConstraints h.0, counts_to before item b IsGood is refl good h.1))
  constraint_to good (faults.Undeclared p) h = absurd h
  constraint_to good (faults.DeclaredTwice p) h = absurd h
  constraint_to good (faults.WrongType p) h = absurd h
  constraint_to good (faults.Unbounded p) h = absurd h
  constraint_to good (faults.Float p) h = absurd h
  constraint_to good (faults.NumberTooLarge p) h = absurd h
  constraint_to good (faults.EmptyDomain p) h = absurd h
  constraint_to good (faults.IntTooWide p) h = absurd h
  constraint_to good (faults.SetTooWide p) h = absurd h
  constraint_to good (faults.ElementRange p) h = absurd h
  constraint_to good (faults.TooManyBits p) h = absurd h
  constraint_to good (faults.BadOutput p) h = absurd h
  constraint_to good (faults.ObjectiveNotInt p) h = absurd h
  constraint_to good faults.Memory h = absurd h

  made_from : (IsGood → HasGoodArguments before item) → (f : ModelFault) → OfGood IsGood ident.at b.kinds (constraint_named b.naming ident.name es) f
      → InConstraint before item f
  made_from good f h = elim h.1 [
    | inl w ↦
        let c = is_from IsUnpaired (constraint_named b.naming ident.name es) w.1 in
        subst (λ g. InConstraint before item g) (sym w.0)
        (inr (record { good = good h.0; constraint = c.0; is = (refl, sym made_after ∙ c.1); linear = c.2.0; unpaired = c.2.1 }))
    | inr w ↦
        let c = is_from (IsWide b.kinds) (constraint_named b.naming ident.name es) w.1 in
        subst (λ g. InConstraint before item g) (sym w.0)
        (record {
          good = good h.0;
          constraint = c.0;
          is = (refl, sym made_after ∙ c.1);
          scope = c.2.0;
          scoped = c.2.1;
          kinds = b.kinds;
          known = is.known;
          wide = c.2.2;
        })
  ]

  pub constraint_from : (IsGood → HasGoodArguments before item) → (f : ModelFault) → OfConstraint IsGood ident.at b ident.name es f → InConstraint before item f
  constraint_from good f (inl (inl w)) = subst (λ g. InConstraint before item g) (sym w.0) (refl, w.1)
  constraint_from good f (inl (inr w)) = subst (λ g. InConstraint before item g) (sym w.0) (inl (refl, w.1.0, w.1.1))
  constraint_from good f (inr (inl h)) = made_from good f h
  constraint_from good f (inr (inr w)) =
      subst (λ g. InConstraint before item g) (sym w.0) (refl, counts_from before item b IsGood is refl good w.1)

-- ---- variables that are given a value

module _ (before : List Item) (at : ℕ) (t : TypeExpr) (ident : Ident) (anns : List Ann) (e : Expr) (b : Before) (IsGood : Type 0) (is : IsBefore before b) where
  abbrev given : Item
  given = record { at = at; form = forms.Variable t ident anns (Some e) }

  pub given_to : (HasGoodArguments before given → IsGood) → (f : ModelFault) → InConstraint before given f → OfCounts IsGood ident.at b 1 (e ∷ []) f
  given_to good (faults.TooManyConstraints p) h = (ap faults.TooManyConstraints h.0, counts_to before given b IsGood is refl good h.1)
  given_to good (faults.UnknownConstraint p) h = absurd h
  given_to good (faults.WrongCount p) (inl h) = absurd h
  given_to good (faults.WrongCount p) (inr h) = absurd h.is
  given_to good (faults.ScopeTooWide p) h = absurd h.is
  given_to good (faults.Undeclared p) h = absurd h
  given_to good (faults.DeclaredTwice p) h = absurd h
  given_to good (faults.WrongType p) h = absurd h
  given_to good (faults.Unbounded p) h = absurd h
  given_to good (faults.Float p) h = absurd h
  given_to good (faults.NumberTooLarge p) h = absurd h
  given_to good (faults.EmptyDomain p) h = absurd h
  given_to good (faults.IntTooWide p) h = absurd h
  given_to good (faults.SetTooWide p) h = absurd h
  given_to good (faults.ElementRange p) h = absurd h
  given_to good (faults.TooManyBits p) h = absurd h
  given_to good (faults.BadOutput p) h = absurd h
  given_to good (faults.ObjectiveNotInt p) h = absurd h
  given_to good faults.Memory h = absurd h

  pub given_from : (IsGood → HasGoodArguments before given) → (f : ModelFault) → OfCounts IsGood ident.at b 1 (e ∷ []) f → InConstraint before given f
  given_from good f w = subst (λ g. InConstraint before given g) (sym w.0) (refl, counts_from before given b IsGood is refl good w.1)

-- ---- any item

pub state_is : (before : List Item) (state : SoFar) → AreSoFar before state → IsBefore before (before_of state)
state_is before state so_far = record {
  same_naming = fun_ext so_far.naming;
  known = so_far.known;
  counted = so_far.constraints;
  summed = so_far.terms;
}

pub constraint_item : (before : List Item) (item : Item) (ident : Ident) (es : List Expr) (anns : List Ann) (b : Before) (IsGood : Type 0) (r : Option ModelFault)
    → IsBefore before b → item.form ≡ forms.Constraint ident es anns → IsGood ↔ HasGoodArguments before item
    → IsFirstOf (OfConstraint IsGood ident.at b ident.name es) r → IsFirstOf (InConstraint before item) r
constraint_item before item ident es anns b IsGood r is form good first =
    subst (λ f. (IsGood ↔ HasGoodArguments before (record { at = item.at; form = f })) → IsFirstOf (InConstraint before (record { at = item.at; form = f })) r) (sym form)
    (λ iff. same_faults (OfConstraint IsGood ident.at b ident.name es) (InConstraint before (record { at = item.at; form = forms.Constraint ident es anns })) r
    (constraint_from before item.at ident es anns b IsGood is iff.0) (constraint_to before item.at ident es anns b IsGood is iff.1) first)
    good

pub given_item : (before : List Item) (item : Item) (t : TypeExpr) (ident : Ident) (anns : List Ann) (e : Expr) (b : Before) (IsGood : Type 0) (r : Option ModelFault)
    → IsBefore before b → item.form ≡ forms.Variable t ident anns (Some e) → IsGood ↔ HasGoodArguments before item
    → IsFirstOf (OfCounts IsGood ident.at b 1 (e ∷ [])) r → IsFirstOf (InConstraint before item) r
given_item before item t ident anns e b IsGood r is form good first =
    subst (λ f. (IsGood ↔ HasGoodArguments before (record { at = item.at; form = f })) → IsFirstOf (InConstraint before (record { at = item.at; form = f })) r) (sym form)
    (λ iff. same_faults (OfCounts IsGood ident.at b 1 (e ∷ [])) (InConstraint before (record { at = item.at; form = forms.Variable t ident anns (Some e) })) r
    (given_from before item.at t ident anns e b IsGood is iff.0) (given_to before item.at t ident anns e b IsGood is iff.1) first)
    good
