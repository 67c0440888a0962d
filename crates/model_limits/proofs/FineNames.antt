-- What names stand for has fine terms.
use Rattle.std.proofs.Common.{◌≡◌, ℕ, ◌+◌, Bool, true, false, List, [], ◌∷◌, ◌++◌, reverse, if◌then◌else◌, Option, Some, None, refl, subst, arith}
use Rattle.std.specs.Prelude.{All, IfSome}
use Rattle.std.specs.List.{flat_map}
use Rattle.std.proofs.lemmas.List.Sums.{sum_by-cons}
use Rattle.std.proofs.lemmas.List.Elements.{All-head, All-tail}
use Rattle.fzn_parser.specs.declared.tree.TypeForm.{TypeForm}
use Rattle.fzn_parser.specs.declared.tree.TypeForm.TheVariants as types
use Rattle.fzn_parser.specs.declared.tree.Form.{Form}
use Rattle.fzn_parser.specs.declared.tree.Form.TheVariants as forms
use Rattle.fzn_parser.specs.declared.tree.Item.{Item}
use Rattle.fzn_parser.specs.Places.{numbers_in, numbers_in_expression, numbers_in_part, numbers_in_type}
use Rattle.set_meaning.specs.declared.problems.Arg.{Arg}
use Rattle.fzn_model.specs.Items.{declares, is_variable}
use Rattle.fzn_model.specs.Entities.{Naming, arg_of, array_of, count_variables, entity, entity_of, naming_after, stands_for, variable}
use Rattle.fzn_model.proofs.Steps.{sum_of_reverse}
use Rattle.model_limits.proofs.FineTerms.{AreFine, IsFineNaming, IsSmallAt, all_reverse, array_fine, expression_fine, more_fine, variable_fine}
use Rattle.model_limits.proofs.Splits.{all_back}

-- the integers of the item are small
abbrev pub AreSmallInItem : Item → Type 0
AreSmallInItem item = All IsSmallAt (numbers_in item.form)

abbrev pub one_if : Bool → ℕ
one_if b = if b then 1 else 0

of_arg : (m : ℕ) (t : TypeForm) (o : Option Arg) → ((a : Arg) → o ≡ Some a → AreFine m a) → IfSome (entity t o) (λ e. AreFine m e.arg)
of_arg m types.Float o h = tt
of_arg m types.Bool None h = tt
of_arg m types.Bool (Some a) h = h a refl
of_arg m types.Int None h = tt
of_arg m types.Int (Some a) h = h a refl
of_arg m types.SetOfInt None h = tt
of_arg m types.SetOfInt (Some a) h = h a refl
of_arg m (types.Within s) None h = tt
of_arg m (types.Within s) (Some a) h = h a refl
of_arg m (types.SetWithin s) None h = tt
of_arg m (types.SetWithin s) (Some a) h = h a refl

entity_fine : (n : ℕ) (naming : Naming) → IsFineNaming n naming → (form : Form) → All IsSmallAt (numbers_in form)
    → (m : ℕ) → m ≡ one_if (is_variable form) + n → IfSome (entity_of naming n form) (λ e. AreFine m e.arg)
entity_fine n naming fine forms.Predicate h m e = tt
entity_fine n naming fine (forms.Param t ident anns x) h m e =
    of_arg m t.form (arg_of naming x) (λ a is. more_fine n m (omega arith) a
    (expression_fine n naming fine x a is (all_back IsSmallAt (numbers_in_type t.form) (numbers_in_expression x) h)))
entity_fine n naming fine (forms.Variable t ident anns x) h m e =
    of_arg m t.form (Some (variable n)) (λ a is. subst (λ (o : Option Arg). IfSome o (AreFine m)) is (variable_fine m n (omega arith)))
entity_fine n naming fine (forms.Array len is_var t ident anns at items) h m e =
    of_arg m t.form (array_of naming items) (λ a is. more_fine n m (omega arith) a
    (array_fine n naming fine items a is
    (all_back IsSmallAt (numbers_in_type t.form) (flat_map numbers_in_part items)
    (All-tail IsSmallAt len (numbers_in_type t.form ++ flat_map numbers_in_part items) h))))
entity_fine n naming fine (forms.Constraint ident es anns) h m e = tt
entity_fine n naming fine (forms.Solve anns goal) h m e = tt

-- one more item, the last of them first
one_more : (item : Item) (earlier : List Item) → AreSmallInItem item → IsFineNaming (count_variables earlier) (stands_for earlier)
    → IsFineNaming (count_variables (item ∷ earlier)) (stands_for (item ∷ earlier))
one_more item earlier small rest name = by (declares name item.form)
  where
    counted : count_variables (item ∷ earlier) ≡ one_if (is_variable item.form) + count_variables earlier
    counted = sum_by-cons (λ (i : Item). one_if (is_variable i.form)) item earlier

    others : {E : Type 0} (o : Option E) (arg : E → Arg) → IfSome o (λ e. AreFine (count_variables earlier) (arg e))
        → IfSome o (λ e. AreFine (count_variables (item ∷ earlier)) (arg e))
    others None arg k = tt
    others (Some e) arg k = more_fine (count_variables earlier) (count_variables (item ∷ earlier)) (let c = counted in omega (arith, c)) (arg e) k

    by : (b : Bool) → IfSome (if b then entity_of (stands_for earlier) (count_variables earlier) item.form else stands_for earlier name)
        (λ e. AreFine (count_variables (item ∷ earlier)) e.arg)
    by true = entity_fine (count_variables earlier) (stands_for earlier) rest item.form small (count_variables (item ∷ earlier)) counted
    by false = others (stands_for earlier name) (λ e. e.arg) (rest name)

names_fine : (items : List Item) → All AreSmallInItem items → IsFineNaming (count_variables items) (stands_for items)
names_fine [] h name = tt
names_fine (item ∷ earlier) h name =
    one_more item earlier (All-head AreSmallInItem item earlier h) (names_fine earlier (All-tail AreSmallInItem item earlier h)) name

-- what names stand for after these items
pub naming_fine : (before : List Item) → All AreSmallInItem before → IsFineNaming (count_variables before) (naming_after before)
naming_fine before h =
    subst (λ n. IsFineNaming n (naming_after before)) (sum_of_reverse (λ (i : Item). one_if (is_variable i.form)) before)
    (names_fine (reverse before) (all_reverse AreSmallInItem before h))
