-- The terms that expressions stand for have small constants and variables that are declared before.
use Rattle.std.proofs.Common.{◌≡◌, ℕ, ◌<◌, ◌≤◌, List, [], ◌∷◌, ◌++◌, reverse, Option, Some, None, ℤ, refl, sym, ap, subst, arith}
use Rattle.std.proofs.lemmas.Int.{ints}
use Rattle.std.specs.Prelude.{All, IfSome, ⊤}
use Rattle.std.specs.List.{flat_map}
use Rattle.std.specs.Option.{option_map, option_and_then}
use Rattle.std.proofs.lemmas.Option.{none-some, same_Some}
use Rattle.std.proofs.lemmas.List.{reverse-append}
use Rattle.std.proofs.lemmas.List.Elements.{All-cons, All-head, All-nil, All-push, All-tail, All-weaker}
use Rattle.fzn_parser.specs.declared.tree.Num.TheVariants as nums
use Rattle.fzn_parser.specs.declared.tree.Number.{Number}
use Rattle.fzn_parser.specs.declared.tree.Basic.{Basic}
use Rattle.fzn_parser.specs.declared.tree.BasicForm.{BasicForm}
use Rattle.fzn_parser.specs.declared.tree.BasicForm.TheVariants as basics
use Rattle.fzn_parser.specs.declared.tree.Expr.{Expr}
use Rattle.fzn_parser.specs.declared.tree.Expr.TheVariants as exprs
use Rattle.fzn_parser.specs.Places.{IsSmall, numbers_at, numbers_in_expression, numbers_in_part}
use Rattle.set_meaning.specs.declared.kinds.Value.TheVariants as value
use Rattle.set_meaning.specs.declared.problems.Term.{Term}
use Rattle.set_meaning.specs.declared.problems.Term.TheVariants.{Const, Var}
use Rattle.set_meaning.specs.declared.problems.Arg.{Arg}
use Rattle.set_meaning.specs.declared.problems.Arg.TheVariants.{One, Many}
use Rattle.set_meaning.specs.Arguments.{cons_some}
use Rattle.problem_limits.specs.Limits.{IsSmallNumber, IsSmallTerm}
use Rattle.problem_limits.proofs.Members.{parts_of_all}
use Rattle.fzn_model.specs.Lists.{each_of}
use Rattle.fzn_model.specs.Entities.{Naming, arg_of, arg_of_part, array_of, elements_of, one_term, term_of_part}
use Rattle.fzn_model.specs.ProblemOf.{terms_in}

abbrev pub IsSmallAt : Number → Type 0
IsSmallAt n = IsSmall n.num

abbrev pub IsBelow : ℕ → Term → Type 0
IsBelow n (Const v) = ⊤
IsBelow n (Var x) = x.0 < n

-- a small constant, or one of the first n variables
pub record IsFine (n : ℕ) (t : Term) : Type 0 where
  pub small : IsSmallTerm t
  pub below : IsBelow n t

abbrev pub AreFine : ℕ → Arg → Type 0
AreFine n a = All (IsFine n) (terms_in a)

abbrev pub IsFineNaming : ℕ → Naming → Type 0
IsFineNaming n naming = (name : List ℕ) → IfSome (naming name) (λ e. AreFine n e.arg)

pub small_number : (x : ℤ) → IsSmall (nums.Int x) → IsSmallNumber x
small_number x h = let low = h.0 in let high = h.1 in omega (arith, ints)

more_fine_term : (n m : ℕ) → n ≤ m → (t : Term) → IsFine n t → IsFine m t
more_fine_term n m le (Const v) h = record { small = h.small; below = tt }
more_fine_term n m le (Var x) h = record { small = tt; below = let b : x.0 < n = h.below in omega arith }

pub more_fine : (n m : ℕ) → n ≤ m → (a : Arg) → AreFine n a → AreFine m a
more_fine n m le a h = All-weaker (IsFine n) (IsFine m) (more_fine_term n m le) (terms_in a) h

one_fine : (n : ℕ) (t : Term) → IsFine n t → AreFine n (One t)
one_fine n t h = All-cons (IsFine n) t [] h (All-nil (IsFine n))

pub variable_fine : (n : ℕ) (number : ℕ) → number < n → AreFine n (One (Var (record { 0 = number })))
variable_fine n number h = one_fine n (Var (record { 0 = number })) (record { small = tt; below = h })

set_fine : (n : ℕ) (o : Option (List ℤ)) (a : Arg) → option_map (λ xs. One (Const (value.Set xs))) o ≡ Some a → AreFine n a
set_fine n None a e = absurd (none-some a e)
set_fine n (Some xs) a e =
    subst (AreFine n) (same_Some (One (Const (value.Set xs))) a e) (one_fine n (Const (value.Set xs)) (record { small = tt; below = tt }))

-- of what a name stands for, over any type of entities, since that of fzn_model cannot be named here
named_fine : {E : Type 0} (n : ℕ) (o : Option E) (arg : E → Arg) (a : Arg) → IfSome o (λ e. AreFine n (arg e)) → option_map arg o ≡ Some a → AreFine n a
named_fine n None arg a h e = absurd (none-some a e)
named_fine n (Some z) arg a h e = subst (AreFine n) (same_Some (arg z) a e) h

-- what a part stands for
pub part_fine : (n : ℕ) (naming : Naming) → IsFineNaming n naming → (at : ℕ) (form : BasicForm) (a : Arg) → arg_of_part naming form ≡ Some a
    → All IsSmallAt (numbers_at at form) → AreFine n a
part_fine n naming fine at (basics.Bool b) a e h =
    subst (AreFine n) (same_Some (One (Const (value.Bool b))) a e) (one_fine n (Const (value.Bool b)) (record { small = tt; below = tt }))
part_fine n naming fine at (basics.Num (nums.Int x)) a e h =
    let small : IsSmall (nums.Int x) = All-head IsSmallAt (record { at = at; num = nums.Int x }) [] h in
    subst (AreFine n) (same_Some (One (Const (value.Int x))) a e) (one_fine n (Const (value.Int x)) (record { small = small_number x small; below = tt }))
part_fine n naming fine at (basics.Num nums.Large) a e h = absurd (none-some a e)
part_fine n naming fine at (basics.Num nums.Float) a e h = absurd (none-some a e)
part_fine n naming fine at (basics.Set s) a e h = set_fine n (elements_of s) a e
part_fine n naming fine at (basics.Name name) a e h = named_fine n (naming name) (λ z. z.arg) a (fine name) e

-- ---- lists of which each is given

pub record AreBoth {A : Type 0} (o : Option A) (p : Option (List A)) (ys : List A) : Type 0 where
  pub head : A
  pub tail : List A
  pub first : o ≡ Some head
  pub rest : p ≡ Some tail
  pub all : ys ≡ head ∷ tail

pub both_there : {A : Type 0} (o : Option A) (p : Option (List A)) (ys : List A) → cons_some o p ≡ Some ys → AreBoth o p ys
both_there None p ys e = absurd (none-some ys e)
both_there (Some x) None ys e = absurd (none-some ys e)
both_there (Some x) (Some xs) ys e = record { head = x; tail = xs; first = refl; rest = refl; all = sym (same_Some (x ∷ xs) ys e) }

pub one_of_arg : (a : Option Arg) (t : Term) → option_and_then one_term a ≡ Some t → a ≡ Some (One t)
one_of_arg None t e = absurd (none-some t e)
one_of_arg (Some (One u)) t e = ap (λ z. Some (One z)) (same_Some u t e)
one_of_arg (Some (Many ts)) t e = absurd (none-some t e)

front_all : {A B : Type 0} (P : B → Type 0) (f : A → List B) (x : A) (xs : List A) → All P (f x ++ flat_map f xs) → All P (f x)
front_all P f x xs h = All-head (λ y. All P (f y)) x xs (parts_of_all P f (x ∷ xs) h)

pub rest_all : {A B : Type 0} (P : B → Type 0) (f : A → List B) (xs : List A) → All P (flat_map f xs) → All (λ y. All P (f y)) xs
rest_all P f xs h = parts_of_all P f xs h

items_fine : (n : ℕ) (naming : Naming) → IsFineNaming n naming → (items : List Basic) (ts : List Term) → each_of (term_of_part naming) items ≡ Some ts
    → All (λ b. All IsSmallAt (numbers_in_part b)) items → All (IsFine n) ts
items_fine n naming fine [] ts e h = subst (All (IsFine n)) (same_Some [] ts e) (All-nil (IsFine n))
items_fine n naming fine (b ∷ items) ts e h =
    let both = both_there (term_of_part naming b) (each_of (term_of_part naming) items) ts e in
    let small = All-head (λ (c : Basic). All IsSmallAt (numbers_in_part c)) b items h in
    let one : AreFine n (One both.head) = part_fine n naming fine b.at b.form (One both.head) (one_of_arg (arg_of_part naming b.form) both.head both.first) small in
    subst (All (IsFine n)) (sym both.all)
    (All-cons (IsFine n) both.head both.tail (All-head (IsFine n) both.head [] one)
    (items_fine n naming fine items both.tail both.rest (All-tail (λ (c : Basic). All IsSmallAt (numbers_in_part c)) b items h)))

many_fine : (n : ℕ) (o : Option (List Term)) (a : Arg) → ((ts : List Term) → o ≡ Some ts → All (IsFine n) ts) → option_map Many o ≡ Some a → AreFine n a
many_fine n None a h e = absurd (none-some a e)
many_fine n (Some ts) a h e = subst (AreFine n) (same_Some (Many ts) a e) (h ts refl)

-- what an array stands for
pub array_fine : (n : ℕ) (naming : Naming) → IsFineNaming n naming → (items : List Basic) (a : Arg) → array_of naming items ≡ Some a
    → All IsSmallAt (flat_map numbers_in_part items) → AreFine n a
array_fine n naming fine items a e h =
    many_fine n (each_of (term_of_part naming) items) a
    (λ ts q. items_fine n naming fine items ts q (rest_all IsSmallAt numbers_in_part items h)) e

-- what an expression stands for
pub expression_fine : (n : ℕ) (naming : Naming) → IsFineNaming n naming → (e : Expr) (a : Arg) → arg_of naming e ≡ Some a
    → All IsSmallAt (numbers_in_expression e) → AreFine n a
expression_fine n naming fine (exprs.One b) a e h = part_fine n naming fine b.at b.form a e h
expression_fine n naming fine (exprs.List at items) a e h = array_fine n naming fine items a e h

pub expressions_fine : (n : ℕ) (naming : Naming) → IsFineNaming n naming → (es : List Expr) (args : List Arg) → each_of (arg_of naming) es ≡ Some args
    → All (λ e. All IsSmallAt (numbers_in_expression e)) es → All (AreFine n) args
expressions_fine n naming fine [] args e h = subst (All (AreFine n)) (same_Some [] args e) (All-nil (AreFine n))
expressions_fine n naming fine (x ∷ es) args e h =
    let both = both_there (arg_of naming x) (each_of (arg_of naming) es) args e in
    subst (All (AreFine n)) (sym both.all)
    (All-cons (AreFine n) both.head both.tail
    (expression_fine n naming fine x both.head both.first (All-head (λ (c : Expr). All IsSmallAt (numbers_in_expression c)) x es h))
    (expressions_fine n naming fine es both.tail both.rest (All-tail (λ (c : Expr). All IsSmallAt (numbers_in_expression c)) x es h)))

pub all_reverse : {A : Type 0} (P : A → Type 0) (xs : List A) → All P xs → All P (reverse xs)
all_reverse P [] h = All-nil P
all_reverse P (x ∷ xs) h =
    subst (All P) (sym (reverse-append (x ∷ []) xs)) (All-push P (reverse xs) x (all_reverse P xs (All-tail P x xs h)) (All-head P x xs h))
