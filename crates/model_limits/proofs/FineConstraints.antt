-- The constraints of an item have fine terms, and no more of them than the item counts.
use Rattle.std.proofs.Common.{◌≡◌, ℕ, ◌+◌, ◌≤◌, Bool, true, false, List, [], ◌∷◌, ◌++◌, length, reverse, if◌then◌else◌, option_to_list, Option, Some, None, refl, sym, subst, arith}
use Rattle.std.specs.Prelude.{All, sum_by}
use Rattle.std.specs.List.{flat_map}
use Rattle.std.specs.Option.{option_map, option_and_then}
use Rattle.std.proofs.lemmas.Option.{none-some, same_Some}
use Rattle.std.proofs.lemmas.List.Concat.{length-flat_map}
use Rattle.std.proofs.lemmas.List.Sums.{sum_by-cons}
use Rattle.std.proofs.lemmas.List.Elements.{All-append, All-cons, All-head, All-nil, All-tail}
use Rattle.fzn_parser.specs.declared.tree.Expr.{Expr}
use Rattle.fzn_parser.specs.declared.tree.TypeForm.{TypeForm}
use Rattle.fzn_parser.specs.Places.{numbers_in_expression}
use Rattle.set_meaning.specs.declared.problems.Arg.{Arg}
use Rattle.set_meaning.specs.declared.problems.Arg.TheVariants.{One, Many}
use Rattle.set_meaning.specs.declared.problems.Relation.{Relation}
use Rattle.set_meaning.specs.declared.problems.Constraint.{Constraint}
use Rattle.set_meaning.specs.declared.rows.Sort.{Sort}
use Rattle.set_meaning.specs.Relations.{terms_of}
use Rattle.problem_limits.proofs.Members.{all_in_parts}
use Rattle.fzn_model.specs.declared.names.ConstraintName.{ConstraintName}
use Rattle.fzn_model.specs.Lists.{each_of}
use Rattle.fzn_model.specs.Names.{named}
use Rattle.fzn_model.specs.Entities.{Naming, arg_of, sort_of, variable}
use Rattle.fzn_model.specs.ProblemOf.{constraint_named, constraint_of, equality, equality_of, reified_constraint, terms_in}
use Rattle.fzn_model.specs.FaultsOf as rules
use Rattle.fzn_model.proofs.Steps.{sum_of_reverse}
use Rattle.fzn_model.proofs.Weighed.{all_terms, expression_terms}
use Rattle.model_limits.proofs.FineTerms.{AreFine, IsFine, IsFineNaming, IsSmallAt, all_reverse, expression_fine, expressions_fine, more_fine, variable_fine}

-- ---- options

pub bind_some : {A B : Type 0} (o : Option A) (f : A → Option B) (y : B) → option_and_then f o ≡ Some y → (x : A) × (o ≡ Some x) × (f x ≡ Some y)
bind_some None f y e = absurd (none-some y e)
bind_some (Some x) f y e = (x, refl, e)

pub map_some : {A B : Type 0} (o : Option A) (f : A → B) (y : B) → option_map f o ≡ Some y → (x : A) × (o ≡ Some x) × (f x ≡ y)
map_some None f y e = absurd (none-some y e)
map_some (Some x) f y e = (x, refl, same_Some (f x) y e)

-- ---- terms

abbrev pub HasFineTerms : ℕ → Constraint → Type 0
HasFineTerms n c = All (IsFine n) (flat_map terms_of c.args ++ option_to_list c.reif)

abbrev pub count_in : Arg → ℕ
count_in a = length (terms_in a)

abbrev pub count_terms : List Arg → ℕ
count_terms args = length (flat_map terms_of args)

counted : (args : List Arg) → count_terms args ≡ sum_by count_in args
counted args = length-flat_map terms_of args

-- what is known of a constraint: fine terms, and at most so many in its arguments
pub record IsGood (n most : ℕ) (c : Constraint) : Type 0 where
  pub fine : HasFineTerms n c
  pub few : count_terms c.args ≤ most

plain : (n : ℕ) (r : Relation) (args : List Arg) → All (AreFine n) args → IsGood n (sum_by count_in args) (record { relation = r; args = args; reif = None })
plain n r args h = record {
  fine = All-append (IsFine n) (flat_map terms_of args) [] (all_in_parts (IsFine n) terms_of args h) (All-nil (IsFine n));
  few = let e : count_terms args ≡ sum_by count_in args = counted args in omega (arith, e);
}

reified : (n : ℕ) (r : Relation) (args : List Arg) (c : Constraint) → All (AreFine n) args → reified_constraint r args ≡ Some c
    → IsGood n (sum_by count_in args) c
reified n r [] c h e = absurd (none-some c e)
reified n r (Many ts ∷ args) c h e = absurd (none-some c e)
reified n r (One t ∷ args) c h e =
    let rest : All (AreFine n) (reverse args) = all_reverse (AreFine n) args (All-tail (AreFine n) (One t) args h) in
    let count : count_terms (reverse args) ≡ sum_by count_in (reverse args) = counted (reverse args) in
    let turned : sum_by count_in (reverse args) ≡ sum_by count_in args = sum_of_reverse count_in args in
    let all : sum_by count_in (One t ∷ args) ≡ count_in (One t) + sum_by count_in args = sum_by-cons count_in (One t) args in
    subst (IsGood n (sum_by count_in (One t ∷ args))) (same_Some (record { relation = r; args = reverse args; reif = Some t }) c e) (record {
      fine = All-append (IsFine n) (flat_map terms_of (reverse args)) (t ∷ []) (all_in_parts (IsFine n) terms_of (reverse args) rest)
          (All-head (AreFine n) (One t) args h);
      few = omega (arith, count, turned, all);
    })

of_arguments : (n : ℕ) (name : ConstraintName) (args : List Arg) (c : Constraint) → All (AreFine n) args → constraint_of name args ≡ Some c
    → IsGood n (sum_by count_in args) c
of_arguments n name args c h e = by name.is_reified e
  where
    by : (b : Bool) → (if b then reified_constraint name.relation (reverse args) else Some (record { relation = name.relation; args = args; reif = None })) ≡ Some c
        → IsGood n (sum_by count_in args) c
    by true q =
        let r : IsGood n (sum_by count_in (reverse args)) c = reified n name.relation (reverse args) c (all_reverse (AreFine n) args h) q in
        subst (λ m. IsGood n m c) (sum_of_reverse count_in args) r
    by false q =
        subst (IsGood n (sum_by count_in args)) (same_Some (record { relation = name.relation; args = args; reif = None }) c q) (plain n name.relation args h)

abbrev pub counted_in : Naming → Expr → ℕ
counted_in naming e = length (rules.terms_of (arg_of naming e))

-- the constraint of a name
pub named_good : (n : ℕ) (naming : Naming) → IsFineNaming n naming → (name : List ℕ) (es : List Expr) (c : Constraint) → constraint_named naming name es ≡ Some c
    → All (λ e. All IsSmallAt (numbers_in_expression e)) es → IsGood n (sum_by (counted_in naming) es) c
named_good n naming fine name es c e small =
    let a = bind_some (named name) (λ (k : ConstraintName). option_and_then (constraint_of k) (each_of (arg_of naming) es)) c e in
    let b = bind_some (each_of (arg_of naming) es) (constraint_of a.0) c a.2 in
    subst (λ m. IsGood n m c) (sym (all_terms naming es b.0 b.1)) (of_arguments n a.0 b.0 c (expressions_fine n naming fine es b.0 b.1 small) b.2)

-- a variable that is given a value
pub record IsEquality (number : ℕ) (c : Constraint) : Type 0 where
  pub relation : Relation
  pub arg : Arg
  pub is : record { relation = relation; args = variable number ∷ arg ∷ []; reif = None } ≡ c

pub equality_is : (naming : Naming) (number : ℕ) (t : TypeForm) (e : Expr) (c : Constraint) → equality_of naming number t e ≡ Some c
    → (q : IsEquality number c) × (arg_of naming e ≡ Some q.arg) × (sort : Sort) × (sort_of t ≡ Some sort)
equality_is naming number t e c h =
    let made : Sort → Arg → Constraint = λ sort arg. record { relation = equality sort; args = variable number ∷ arg ∷ []; reif = None } in
    let a = bind_some (sort_of t) (λ (sort : Sort). option_and_then (λ (arg : Arg). Some (made sort arg)) (arg_of naming e)) c h in
    let b = bind_some (arg_of naming e) (λ (arg : Arg). Some (made a.0 arg)) c a.2 in
    (record { relation = equality a.0; arg = b.0; is = same_Some (made a.0 b.0) c b.2 }, b.1, a.0, a.1)

pub equality_good : (number : ℕ) (naming : Naming) → IsFineNaming number naming → (e : Expr) (c : Constraint) (q : IsEquality number c)
    → arg_of naming e ≡ Some q.arg
    → All IsSmallAt (numbers_in_expression e) → IsGood (number + 1) (1 + sum_by (counted_in naming) (e ∷ [])) c
equality_good number naming fine e c q is small =
    let arg : AreFine (number + 1) q.arg = more_fine number (number + 1) (omega arith) q.arg (expression_fine number naming fine e q.arg is small) in
    let own : AreFine (number + 1) (variable number) = variable_fine (number + 1) number (omega arith) in
    let last : All (AreFine (number + 1)) (q.arg ∷ []) = All-cons (AreFine (number + 1)) q.arg [] arg (All-nil (AreFine (number + 1))) in
    let both : All (AreFine (number + 1)) (variable number ∷ q.arg ∷ []) = All-cons (AreFine (number + 1)) (variable number) (q.arg ∷ []) own last in
    let counts : counted_in naming e ≡ count_in q.arg = expression_terms naming e q.arg is in
    let one : sum_by (counted_in naming) (e ∷ []) ≡ counted_in naming e + sum_by (counted_in naming) [] = sum_by-cons (counted_in naming) e [] in
    let two : sum_by count_in (variable number ∷ q.arg ∷ []) ≡ count_in (variable number) + sum_by count_in (q.arg ∷ []) =
    sum_by-cons count_in (variable number) (q.arg ∷ []) in
    let three : sum_by count_in (q.arg ∷ []) ≡ count_in q.arg + sum_by count_in [] = sum_by-cons count_in q.arg [] in
    let same : sum_by count_in (variable number ∷ q.arg ∷ []) ≡ 1 + sum_by (counted_in naming) (e ∷ []) = omega (arith, counts, one, two, three) in
    subst (IsGood (number + 1) (1 + sum_by (counted_in naming) (e ∷ []))) q.is
    (subst (λ m. IsGood (number + 1) m (record { relation = q.relation; args = variable number ∷ q.arg ∷ []; reif = None })) same
    (plain (number + 1) q.relation (variable number ∷ q.arg ∷ []) both))
