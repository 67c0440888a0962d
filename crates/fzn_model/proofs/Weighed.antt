-- What a constraint counts is what the expressions of its item count.
use Rattle.std.proofs.Common.{◌≡◌, ℕ, ◌+◌, Bool, true, false, List, [], ◌∷◌, ◌++◌, length, map, reverse, if◌then◌else◌, option_to_list, Option, Some, None, refl, sym, ap, subst, ◌∙◌, arith, zero-add}
use Rattle.std.specs.Prelude.{sum_by}
use Rattle.std.specs.List.{flat_map}
use Rattle.std.specs.Option.{option_map, option_and_then}
use Rattle.std.proofs.lemmas.Option.{none-some, same_Some}
use Rattle.std.proofs.lemmas.List.{append-nil, reverse-append, reverse-reverse}
use Rattle.std.proofs.lemmas.List.Sums.{sum_by-cons, sum_by-append, sum_by_push}
use Rattle.fzn_parser.specs.declared.tree.Basic.{Basic}
use Rattle.fzn_parser.specs.declared.tree.Expr.{Expr}
use Rattle.fzn_parser.specs.declared.tree.Expr.TheVariants as exprs
use Rattle.set_meaning.specs.declared.problems.Term.{Term}
use Rattle.set_meaning.specs.declared.problems.Arg.{Arg}
use Rattle.set_meaning.specs.declared.problems.Arg.TheVariants.{One, Many}
use Rattle.set_meaning.specs.declared.problems.Relation.{Relation}
use Rattle.set_meaning.specs.declared.problems.Constraint.{Constraint}
use Rattle.set_meaning.specs.Arguments.{cons_some}
use Rattle.fzn_model.specs.declared.names.ConstraintName.{ConstraintName}
use Rattle.fzn_model.specs.Lists.{each_of}
use Rattle.fzn_model.specs.Items.{parts_of}
use Rattle.fzn_model.specs.Entities.{Naming, arg_of, arg_of_part, array_of, one_term, term_of_part}
use Rattle.fzn_model.specs.ProblemOf.{constraint_of, reified_constraint, terms_in}
use Rattle.fzn_model.specs.FaultsOf.{constant_elements, set_size, terms_of}
use Rattle.fzn_model.specs.Meanings.{elements_in}
use Rattle.fzn_model.specs.Drafts.{elements_of_constraint, terms_of_constraint}

-- ---- where all are given, each is

record AreBoth {A : Type 0} (o : Option A) (p : Option (List A)) (ys : List A) : Type 0 where
  head : A
  tail : List A
  first : o ≡ Some head
  rest : p ≡ Some tail
  all : ys ≡ head ∷ tail

both_there : {A : Type 0} (o : Option A) (p : Option (List A)) (ys : List A) → cons_some o p ≡ Some ys → AreBoth o p ys
both_there None p ys e = absurd (none-some ys e)
both_there (Some x) None ys e = absurd (none-some ys e)
both_there (Some x) (Some xs) ys e = record { head = x; tail = xs; first = refl; rest = refl; all = sym (same_Some (x ∷ xs) ys e) }

abbrev count_in : Arg → ℕ
count_in a = length (terms_in a)

-- ---- an array

one_of_arg : (a : Option Arg) (t : Term) → option_and_then one_term a ≡ Some t → a ≡ Some (One t)
one_of_arg None t e = absurd (none-some t e)
one_of_arg (Some (One u)) t e = ap (λ z. Some (One z)) (same_Some u t e)
one_of_arg (Some (Many ts)) t e = absurd (none-some t e)

part_elements : (naming : Naming) (b : Basic) (a : Arg) → arg_of_part naming b.form ≡ Some a → constant_elements naming b ≡ elements_in a
part_elements naming b a e = ap (λ o. sum_by set_size (terms_of o)) e ∙ ap (sum_by set_size) (append-nil (terms_in a))

items_elements : (naming : Naming) (items : List Basic) (ts : List Term) → each_of (term_of_part naming) items ≡ Some ts
    → sum_by (constant_elements naming) items ≡ sum_by set_size ts
items_elements naming [] ts e = ap (sum_by set_size) (same_Some [] ts e)
items_elements naming (b ∷ items) ts e =
    let h = both_there (term_of_part naming b) (each_of (term_of_part naming) items) ts e in
    let one : constant_elements naming b ≡ set_size h.head = part_elements naming b (One h.head) (one_of_arg (arg_of_part naming b.form) h.head h.first) ∙ zero-add (set_size h.head) in
    let rest : sum_by (constant_elements naming) items ≡ sum_by set_size h.tail = items_elements naming items h.tail h.rest in
    let all : sum_by set_size ts ≡ set_size h.head + sum_by set_size h.tail = ap (sum_by set_size) h.all ∙ sum_by-cons set_size h.head h.tail in
    let both : sum_by (constant_elements naming) (b ∷ items) ≡ constant_elements naming b + sum_by (constant_elements naming) items = sum_by-cons (constant_elements naming) b items in
    omega (arith, one, rest, all, both)

many_of : (o : Option (List Term)) (a : Arg) → option_map Many o ≡ Some a → (ts : List Term) × (o ≡ Some ts) × (Many ts ≡ a)
many_of None a e = absurd (none-some a e)
many_of (Some ts) a e = (ts, refl, same_Some (Many ts) a e)

-- ---- an expression

pub expression_elements : (naming : Naming) (e : Expr) (a : Arg) → arg_of naming e ≡ Some a
    → sum_by (constant_elements naming) (parts_of e) ≡ elements_in a
expression_elements naming (exprs.One b) a q = zero-add (constant_elements naming b) ∙ part_elements naming b a q
expression_elements naming (exprs.List at items) a q =
    let m = many_of (each_of (term_of_part naming) items) a q in
    items_elements naming items m.0 m.1 ∙ ap elements_in m.2

pub expression_terms : (naming : Naming) (e : Expr) (a : Arg) → arg_of naming e ≡ Some a → length (terms_of (arg_of naming e)) ≡ count_in a
expression_terms naming e a q = ap (λ o. length (terms_of o)) q ∙ ap length (append-nil (terms_in a))

-- ---- arguments

pub all_elements : (naming : Naming) (es : List Expr) (args : List Arg) → each_of (arg_of naming) es ≡ Some args
    → sum_by (constant_elements naming) (flat_map parts_of es) ≡ sum_by elements_in args
all_elements naming [] args e = ap (sum_by elements_in) (same_Some [] args e)
all_elements naming (x ∷ es) args e =
    let h = both_there (arg_of naming x) (each_of (arg_of naming) es) args e in
    let one : sum_by (constant_elements naming) (parts_of x) ≡ elements_in h.head = expression_elements naming x h.head h.first in
    let rest : sum_by (constant_elements naming) (flat_map parts_of es) ≡ sum_by elements_in h.tail = all_elements naming es h.tail h.rest in
    let all : sum_by elements_in args ≡ elements_in h.head + sum_by elements_in h.tail = ap (sum_by elements_in) h.all ∙ sum_by-cons elements_in h.head h.tail in
    let both : sum_by (constant_elements naming) (flat_map parts_of (x ∷ es)) ≡ sum_by (constant_elements naming) (parts_of x) + sum_by (constant_elements naming) (flat_map parts_of es) = sum_by-append (constant_elements naming) (parts_of x) (flat_map parts_of es) in
    omega (arith, one, rest, all, both)

abbrev terms_counted : Naming → Expr → ℕ
terms_counted naming e = length (terms_of (arg_of naming e))

pub all_terms : (naming : Naming) (es : List Expr) (args : List Arg) → each_of (arg_of naming) es ≡ Some args
    → sum_by (λ e. length (terms_of (arg_of naming e))) es ≡ sum_by (λ a. length (terms_in a)) args
all_terms naming [] args e = ap (sum_by count_in) (same_Some [] args e)
all_terms naming (x ∷ es) args e =
    let h = both_there (arg_of naming x) (each_of (arg_of naming) es) args e in
    let one : terms_counted naming x ≡ count_in h.head = expression_terms naming x h.head h.first in
    let rest : sum_by (terms_counted naming) es ≡ sum_by count_in h.tail = all_terms naming es h.tail h.rest in
    let all : sum_by count_in args ≡ count_in h.head + sum_by count_in h.tail = ap (sum_by count_in) h.all ∙ sum_by-cons count_in h.head h.tail in
    let both : sum_by (terms_counted naming) (x ∷ es) ≡ terms_counted naming x + sum_by (terms_counted naming) es = sum_by-cons (terms_counted naming) x es in
    omega (arith, one, rest, all, both)

-- ---- a constraint of some arguments

pub record CountsAs (c : Constraint) (args : List Arg) : Type 0 where
  pub in_elements : elements_of_constraint c ≡ sum_by elements_in args
  pub in_terms : terms_of_constraint c ≡ sum_by (λ a. length (terms_in a)) args

pub plain_counts : (r : Relation) (args : List Arg) → CountsAs (record { relation = r; args = args; reif = None }) args
plain_counts r args = record { in_elements = omega arith; in_terms = omega arith }

pub reified_counts_at : (r : Relation) (front : List Arg) (t : Term) → CountsAs (record { relation = r; args = front; reif = Some t }) (front ++ One t ∷ [])
reified_counts_at r front t =
    let e : sum_by elements_in (front ++ One t ∷ []) ≡ sum_by elements_in front + elements_in (One t) = sum_by_push elements_in front (One t) in
    let n : sum_by count_in (front ++ One t ∷ []) ≡ sum_by count_in front + count_in (One t) = sum_by_push count_in front (One t) in
    record { in_elements = sym e; in_terms = sym n }

pub reified_counts : (r : Relation) (front : List Arg) (t : Term) → CountsAs (record { relation = r; args = reverse (reverse front); reif = Some t }) (front ++ One t ∷ [])
reified_counts r front t =
    subst (λ (xs : List Arg). CountsAs (record { relation = r; args = xs; reif = Some t }) (front ++ One t ∷ [])) (sym (reverse-reverse front)) (reified_counts_at r front t)
