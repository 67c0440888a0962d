-- The constant sets that names and expressions stand for are small, where no item has a fault.
use Rattle.std.proofs.Common.{◌≡◌, ℕ, ◌≤◌, Bool, true, false, List, [], ◌∷◌, ◌++◌, length, reverse, if◌then◌else◌, Option, Some, None, ℤ, refl, sym, ap, subst, ◌∙◌, inl, inr, arith}
use Rattle.std.specs.Prelude.{All, IfSome, ⊤, unsigned_abs, Contains}
use Rattle.std.specs.List.{flat_map}
use Rattle.std.specs.Option.{option_map}
use Rattle.std.proofs.lemmas.Option.{none-some, same_Some}
use Rattle.std.proofs.lemmas.List.{append-nil}
use Rattle.std.proofs.lemmas.List.Elements.{All-cons, All-head, All-nil, All-tail}
use Rattle.fzn_parser.specs.declared.tree.Num.TheVariants as nums
use Rattle.fzn_parser.specs.declared.tree.SetForm.{SetForm}
use Rattle.fzn_parser.specs.declared.tree.Basic.{Basic}
use Rattle.fzn_parser.specs.declared.tree.BasicForm.{BasicForm}
use Rattle.fzn_parser.specs.declared.tree.BasicForm.TheVariants as basics
use Rattle.fzn_parser.specs.declared.tree.Expr.{Expr}
use Rattle.fzn_parser.specs.declared.tree.Expr.TheVariants as exprs
use Rattle.fzn_parser.specs.declared.tree.TypeForm.{TypeForm}
use Rattle.fzn_parser.specs.declared.tree.TypeForm.TheVariants as types
use Rattle.fzn_parser.specs.declared.tree.Form.{Form}
use Rattle.fzn_parser.specs.declared.tree.Form.TheVariants as forms
use Rattle.fzn_parser.specs.declared.tree.Item.{Item}
use Rattle.set_meaning.specs.declared.kinds.Value.TheVariants as value
use Rattle.set_meaning.specs.declared.problems.Term.{Term}
use Rattle.set_meaning.specs.declared.problems.Term.TheVariants.{Const, Var}
use Rattle.set_meaning.specs.declared.problems.Arg.{Arg}
use Rattle.set_meaning.specs.declared.problems.Arg.TheVariants.{One, Many}
use Rattle.fzn_model.specs.declared.faults.ModelFault.TheVariants as faults
use Rattle.fzn_model.specs.Lists.{each_of}
use Rattle.fzn_model.specs.Items.{declares, parts_of}
use Rattle.fzn_model.specs.Entities.{Entity, Naming, arg_of, arg_of_part, array_of, count_variables, elements_of, entity, entity_of, naming_after, stands_for, term_of_part, variable}
use Rattle.fzn_model.specs.ProblemOf.{terms_in}
use Rattle.fzn_model.specs.FaultsOf.{IsFaultAfter, all_parts}
use Rattle.fzn_model.specs.FirstFault.{AreNone}
use Rattle.fzn_model.proofs.Among.{all_from_members}
use Rattle.fzn_model.proofs.Sound.{le_unless}
use Rattle.problem_limits.proofs.Members.{parts_of_all}
use Rattle.model_limits.specs.SetLimits.{IsSmallElement, IsSmallSet}
use Rattle.model_limits.proofs.FineTerms.{all_reverse, both_there, one_of_arg}

-- ---- literals

-- at most 65,536 elements, all of them small
abbrev AreSmall : List ℤ → Type 0
AreSmall xs = (length xs ≤ 65536) × All IsSmallElement xs

-- the part is no set literal, or its elements are not known, or they are few and small
abbrev IsGoodForm : BasicForm → Type 0
IsGoodForm (basics.Set s) = (xs : List ℤ) → elements_of s ≡ Some xs → AreSmall xs
IsGoodForm _ = ⊤

abbrev pub IsGoodPart : Basic → Type 0
IsGoodPart b = IsGoodForm b.form

abbrev pub HasGoodParts : Item → Type 0
HasGoodParts item = All IsGoodPart (all_parts item.form)

pub good_parts : (before : List Item) (item : Item) → AreNone (IsFaultAfter before item) → HasGoodParts item
good_parts before item none = all_from_members IsGoodPart (all_parts item.form) (λ b used. by b used b.form refl)
  where
    by : (b : Basic) → Contains (all_parts item.form) b → (form : BasicForm) → b.form ≡ form → IsGoodForm form
    by b used (basics.Bool t) is = tt
    by b used (basics.Num n) is = tt
    by b used (basics.Name n) is = tt
    by b used (basics.Set s) is = λ xs known. (
      le_unless 65536 (length xs) (λ w. none (faults.SetTooWide b.at) (inl (inl (record {
        elements = xs;
        constant = record { part = b; used = used; literal = s; is = is; known = known; place = refl };
        wide = w;
      })))),
      all_from_members IsSmallElement xs (λ x h. le_unless 1000000 (unsigned_abs x) (λ w. none (faults.ElementRange b.at) (inl (record {
        elements = xs;
        constant = record { part = b; used = used; literal = s; is = is; known = known; place = refl };
        large = (h.0, x, h.1, h.2, w);
      })))),
    )

-- ---- what expressions stand for

abbrev pub HasSmallSets : Arg → Type 0
HasSmallSets a = All IsSmallSet (terms_in a)

abbrev pub IsSmallNaming : Naming → Type 0
IsSmallNaming naming = (name : List ℕ) → IfSome (naming name) (λ e. HasSmallSets e.arg)

one_small : (t : Term) → IsSmallSet t → HasSmallSets (One t)
one_small t h = All-cons IsSmallSet t [] h (All-nil IsSmallSet)

set_small : (o : Option (List ℤ)) (a : Arg) → ((xs : List ℤ) → o ≡ Some xs → AreSmall xs)
    → option_map (λ xs. One (Const (value.Set xs))) o ≡ Some a → HasSmallSets a
set_small None a h e = absurd (none-some a e)
set_small (Some xs) a h e = subst HasSmallSets (same_Some (One (Const (value.Set xs))) a e) (one_small (Const (value.Set xs)) (h xs refl))

named_small : (o : Option Entity) (a : Arg) → IfSome o (λ e. HasSmallSets e.arg) → option_map (λ (e : Entity). e.arg) o ≡ Some a → HasSmallSets a
named_small None a h e = absurd (none-some a e)
named_small (Some z) a h e = subst HasSmallSets (same_Some z.arg a e) h

module _ (naming : Naming) (small : IsSmallNaming naming) where
  part_small : (form : BasicForm) (a : Arg) → arg_of_part naming form ≡ Some a → IsGoodForm form → HasSmallSets a
  part_small (basics.Bool b) a e h = subst HasSmallSets (same_Some (One (Const (value.Bool b))) a e) (one_small (Const (value.Bool b)) tt)
  part_small (basics.Num (nums.Int x)) a e h = subst HasSmallSets (same_Some (One (Const (value.Int x))) a e) (one_small (Const (value.Int x)) tt)
  part_small (basics.Num nums.Large) a e h = absurd (none-some a e)
  part_small (basics.Num nums.Float) a e h = absurd (none-some a e)
  part_small (basics.Set s) a e h = set_small (elements_of s) a h e
  part_small (basics.Name name) a e h = named_small (naming name) a (small name) e

  items_small : (items : List Basic) (ts : List Term) → each_of (term_of_part naming) items ≡ Some ts → All IsGoodPart items → All IsSmallSet ts
  items_small [] ts e h = subst (All IsSmallSet) (same_Some [] ts e) (All-nil IsSmallSet)
  items_small (b ∷ items) ts e h =
      let both = both_there (term_of_part naming b) (each_of (term_of_part naming) items) ts e in
      let one : HasSmallSets (One both.head) =
      part_small b.form (One both.head) (one_of_arg (arg_of_part naming b.form) both.head both.first) (All-head IsGoodPart b items h) in
      subst (All IsSmallSet) (sym both.all)
      (All-cons IsSmallSet both.head both.tail (All-head IsSmallSet both.head [] one) (items_small items both.tail both.rest (All-tail IsGoodPart b items h)))

  many_small : (o : Option (List Term)) (a : Arg) → ((ts : List Term) → o ≡ Some ts → All IsSmallSet ts) → option_map Many o ≡ Some a → HasSmallSets a
  many_small None a h e = absurd (none-some a e)
  many_small (Some ts) a h e = subst HasSmallSets (same_Some (Many ts) a e) (h ts refl)

  pub array_small : (items : List Basic) (a : Arg) → array_of naming items ≡ Some a → All IsGoodPart items → HasSmallSets a
  array_small items a e h = many_small (each_of (term_of_part naming) items) a (λ ts q. items_small items ts q h) e

  pub expression_small : (e : Expr) (a : Arg) → arg_of naming e ≡ Some a → All IsGoodPart (parts_of e) → HasSmallSets a
  expression_small (exprs.One b) a e h = part_small b.form a e (All-head IsGoodPart b [] h)
  expression_small (exprs.List at items) a e h = array_small items a e h

  pub expressions_small : (es : List Expr) (args : List Arg) → each_of (arg_of naming) es ≡ Some args → All (λ e. All IsGoodPart (parts_of e)) es
      → All HasSmallSets args
  expressions_small [] args e h = subst (All HasSmallSets) (same_Some [] args e) (All-nil HasSmallSets)
  expressions_small (x ∷ es) args e h =
      let both = both_there (arg_of naming x) (each_of (arg_of naming) es) args e in
      subst (All HasSmallSets) (sym both.all)
      (All-cons HasSmallSets both.head both.tail
      (expression_small x both.head both.first (All-head (λ (c : Expr). All IsGoodPart (parts_of c)) x es h))
      (expressions_small es both.tail both.rest (All-tail (λ (c : Expr). All IsGoodPart (parts_of c)) x es h)))

-- ---- what names stand for

of_arg : (t : TypeForm) (o : Option Arg) → ((a : Arg) → o ≡ Some a → HasSmallSets a) → IfSome (entity t o) (λ e. HasSmallSets e.arg)
of_arg types.Float o h = tt
of_arg types.Bool None h = tt
of_arg types.Bool (Some a) h = h a refl
of_arg types.Int None h = tt
of_arg types.Int (Some a) h = h a refl
of_arg types.SetOfInt None h = tt
of_arg types.SetOfInt (Some a) h = h a refl
of_arg (types.Within s) None h = tt
of_arg (types.Within s) (Some a) h = h a refl
of_arg (types.SetWithin s) None h = tt
of_arg (types.SetWithin s) (Some a) h = h a refl

pub variable_small : (number : ℕ) → HasSmallSets (variable number)
variable_small number = one_small (Var (record { 0 = number })) tt

entity_small : (naming : Naming) → IsSmallNaming naming → (number : ℕ) (form : Form) → All IsGoodPart (all_parts form)
    → IfSome (entity_of naming number form) (λ e. HasSmallSets e.arg)
entity_small naming small number forms.Predicate h = tt
entity_small naming small number (forms.Param t ident anns x) h =
    of_arg t.form (arg_of naming x) (λ a is. expression_small naming small x a is (subst (All IsGoodPart) (append-nil (parts_of x)) h))
entity_small naming small number (forms.Variable t ident anns x) h =
    of_arg t.form (Some (variable number)) (λ a is. subst HasSmallSets (same_Some (variable number) a is) (variable_small number))
entity_small naming small number (forms.Array len is_var t ident anns at items) h =
    of_arg t.form (array_of naming items) (λ a is. array_small naming small items a is (subst (All IsGoodPart) (append-nil items) h))
entity_small naming small number (forms.Constraint ident es anns) h = tt
entity_small naming small number (forms.Solve anns goal) h = tt

one_more_small : (item : Item) (earlier : List Item) → IsSmallNaming (stands_for earlier) → All IsGoodPart (all_parts item.form)
    → (name : List ℕ) (b : Bool)
    → IfSome (if b then entity_of (stands_for earlier) (count_variables earlier) item.form else stands_for earlier name)
    (λ e. HasSmallSets e.arg)
one_more_small item earlier rest good name true = entity_small (stands_for earlier) rest (count_variables earlier) item.form good
one_more_small item earlier rest good name false = rest name

names_small : (items : List Item) → All HasGoodParts items → IsSmallNaming (stands_for items)
names_small [] h = λ name. tt
names_small (item ∷ earlier) h =
    let rest = names_small earlier (All-tail HasGoodParts item earlier h) in
    λ name. one_more_small item earlier rest (All-head HasGoodParts item earlier h) name (declares name item.form)

-- what names stand for after these items
pub naming_small : (before : List Item) → All HasGoodParts before → IsSmallNaming (naming_after before)
naming_small before h = names_small (reverse before) (all_reverse HasGoodParts before h)
