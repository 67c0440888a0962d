-- The rules on the objective together.
use Rattle.std.proofs.Common.{◌≡◌, ◌⊎◌, ◌↔◌, ℕ, ◌+◌, ◌<◌, Bool, true, cond, IsTrue, List, [], ◌∷◌, ◌++◌, ℤ, pos, ◌-ℤ◌, Option, Some, None, refl, sym, ap, ◌∙◌, subst, inl, inr, arith}
use Rattle.std.specs.Prelude.{max, sum_by, unsigned_abs}
use Rattle.std.proofs.lemmas.Int.{ints}
use Rattle.fzn_parser.specs.declared.tree.Expr.{Expr}
use Rattle.fzn_parser.specs.declared.tree.Form.{Form}
use Rattle.fzn_parser.specs.declared.tree.Form.TheVariants as forms
use Rattle.fzn_parser.specs.declared.tree.Item.{Item}
use Rattle.fzn_parser.specs.declared.tree.Num.{Num}
use Rattle.fzn_parser.specs.declared.tree.Num.TheVariants as nums
use Rattle.fzn_parser.specs.declared.tree.BasicForm.TheVariants as basics
use Rattle.set_meaning.specs.declared.kinds.Kind.{Kind}
use Rattle.set_meaning.specs.declared.kinds.Kind.TheVariants as kind
use Rattle.set_meaning.specs.declared.rows.Shape.TheVariants.{OneOf}
use Rattle.set_meaning.specs.declared.rows.Sort.TheVariants.{Integer}
use Rattle.bit_layout.specs.Words.{bit_width, span}
use Rattle.bit_layout.specs.Limits.{counted_bits}
use Rattle.fzn_model.specs.declared.faults.ModelFault.{ModelFault}
use Rattle.fzn_model.specs.declared.faults.ModelFault.TheVariants as faults
use Rattle.fzn_model.specs.Limits.{bit_limit, value_limit}
use Rattle.fzn_model.specs.Items.{place_of}
use Rattle.fzn_model.specs.Entities.{Naming, arg_of}
use Rattle.fzn_model.specs.Entities as entities
use Rattle.fzn_model.specs.Shapes.{Suits, constant}
use Rattle.fzn_model.specs.ProblemOf.{kinds_of}
use Rattle.fzn_model.specs.FaultsOf.{AreTooManyWithObjective, HaveTooManyBits, InObjective, IsIntegerPart, IsNoInteger, IsObjective, integer_values}
use Rattle.fzn_model.specs.FirstFault.{AtPlaces, IsFirstOf, first_told}
use Rattle.fzn_model.specs.Weights.{IsWeight}
use Rattle.fzn_model.specs.Objectives.{IsIntegerConstant, objective_of_item}
use Rattle.fzn_model.proofs.Declaring.{same_some, too_many_with, too_much_for}
use Rattle.fzn_model.proofs.Firsts.{either_first, same_first}
use Rattle.fzn_model.proofs.Rules.{rule_is}

-- ---- integers

pub int_suits : (num : Num) (x : ℤ) → num ≡ nums.Int x → (b : Bool) → b ≡ true
    → IsTrue b ↔ Suits (λ name. None) (OneOf Integer) (basics.Num num)
int_suits num x e b on =
    (λ t. subst (λ n. Suits (λ name. None) (OneOf Integer) (basics.Num n)) (sym e) (record { typing = constant Integer; typed = refl; asked = (refl, refl) }), λ s. on)

pub large_suits : (num : Num) → num ≡ nums.Large → (b : Bool) → b ≡ true → IsTrue b ↔ Suits (λ name. None) (OneOf Integer) (basics.Num num)
large_suits num e b on =
    (λ t. subst (λ n. Suits (λ name. None) (OneOf Integer) (basics.Num n)) (sym e) (record { typing = constant Integer; typed = refl; asked = (refl, refl) }), λ s. on)

-- ---- the weight of one value

no_width : bit_width 0 ≡ 0
unfolding bit_width
no_width = refl

one_value : (n : ℤ) → IsWeight (kind.Int (n ∷ [])) (record { bits = 1; values = 1 })
one_value n =
    let e : (n -ℤ n) ≡ pos 0 = omega (arith, ints) in
    let narrow : bit_width (span (n ∷ [])) ≡ 0 = ap (λ z. bit_width (unsigned_abs z)) e ∙ no_width in
    record { in_bits = sym (ap (max 1) narrow); in_values = refl }

-- ---- the objective of an item

is_objective : (form : Form) (e : Expr) → IsObjective form e → objective_of_item form ≡ Some e
is_objective forms.Predicate e h = absurd h
is_objective (forms.Param t ident anns v) e h = absurd h
is_objective (forms.Variable t ident anns v) e h = absurd h
is_objective (forms.Array len w t ident anns at items) e h = absurd h
is_objective (forms.Constraint ident args anns) e h = absurd h
is_objective (forms.Solve anns goal) e h = h

has_objective : (form : Form) (e : Expr) → objective_of_item form ≡ Some e → IsObjective form e
has_objective forms.Predicate e h = let wrong : None ≡ Some e = h in absurd (cc)
has_objective (forms.Param t ident anns v) e h = let wrong : None ≡ Some e = h in absurd (cc)
has_objective (forms.Variable t ident anns v) e h = let wrong : None ≡ Some e = h in absurd (cc)
has_objective (forms.Array len w t ident anns at items) e h = let wrong : None ≡ Some e = h in absurd (cc)
has_objective (forms.Constraint ident args anns) e h = let wrong : None ≡ Some e = h in absurd (cc)
has_objective (forms.Solve anns goal) e h = h

-- ---- all rules

module _ (before : List Item) (item : Item) where
  abbrev All : ModelFault → Type 0
  All f = AtPlaces faults.ObjectiveNotInt (IsNoInteger before item) f ⊎ AtPlaces faults.TooManyBits (AreTooManyWithObjective before item) f

  to_all : (f : ModelFault) → InObjective before item f → All f
  to_all (faults.Undeclared at) h = absurd h
  to_all (faults.DeclaredTwice at) h = absurd h
  to_all (faults.WrongType at) h = absurd h
  to_all (faults.UnknownConstraint at) h = absurd h
  to_all (faults.WrongCount at) h = absurd h
  to_all (faults.Unbounded at) h = absurd h
  to_all (faults.Float at) h = absurd h
  to_all (faults.NumberTooLarge at) h = absurd h
  to_all (faults.EmptyDomain at) h = absurd h
  to_all (faults.IntTooWide at) h = absurd h
  to_all (faults.SetTooWide at) h = absurd h
  to_all (faults.ElementRange at) h = absurd h
  to_all (faults.ScopeTooWide at) h = absurd h
  to_all (faults.TooManyBits at) h = inr (at, refl, h)
  to_all (faults.TooManyConstraints at) h = absurd h
  to_all (faults.BadOutput at) h = absurd h
  to_all (faults.ObjectiveNotInt at) h = inl (at, refl, h)
  to_all faults.Memory h = absurd h

  from_all : (f : ModelFault) → All f → InObjective before item f
  from_all f (inl h) = subst (InObjective before item) (sym h.1) h.2
  from_all f (inr h) = subst (InObjective before item) (sym h.1) h.2

  module _ (naming : Naming) (same : naming ≡ entities.naming_after before) (ks : List Kind) (known : kinds_of before ≡ Some ks) (bits values : ℕ)
      (in_bits : bits ≡ sum_by counted_bits ks) (in_values : values ≡ sum_by integer_values ks) (e : Expr) (is : Some e ≡ objective_of_item item.form) (p : ℕ) (at_e : p ≡ place_of e) where
    one_objective : (other : Expr) → IsObjective item.form other → other ≡ e
    one_objective other h = same_some (sym (is ∙ is_objective item.form other h))

    integer_first : (off : Bool) → (IsTrue off ↔ (IsIntegerPart naming e → ⊥)) → (a : Option ModelFault) → a ≡ cond off (Some (faults.ObjectiveNotInt p)) None
        → IsFirstOf (AtPlaces faults.ObjectiveNotInt (IsNoInteger before item)) a
    integer_first off off_is a told =
        rule_is faults.ObjectiveNotInt (IsNoInteger before item) p off a told (
          λ t. record {
            expression = e;
            objective = has_objective item.form e (sym is);
            none = λ h. off_is.0 t (subst (λ n. IsIntegerPart n e) (sym same) h);
            place = at_e;
          },
          λ m. off_is.1 (λ h. m.none (subst (λ n. IsIntegerPart n m.expression) same (subst (IsIntegerPart naming) (sym (one_objective m.expression m.objective)) h))),
        )
        (λ at m. m.place ∙ ap place_of (one_objective m.expression m.objective) ∙ sym at_e)

    constant_first : (one : Bool) → (IsTrue one ↔ (IsIntegerConstant (arg_of naming e) × ((bit_limit < bits + 1) ⊎ (value_limit < values + 1))))
        → (a : Option ModelFault) → a ≡ cond one (Some (faults.TooManyBits p)) None
        → IsFirstOf (AtPlaces faults.TooManyBits (AreTooManyWithObjective before item)) a
    constant_first one one_is a told =
        rule_is faults.TooManyBits (AreTooManyWithObjective before item) p one a told (
          λ t. let h = one_is.0 t in record {
            expression = e;
            objective = has_objective item.form e (sym is);
            number = h.0.0;
            constant = ap (λ n. arg_of n e) (sym same) ∙ h.0.1;
            kinds = ks;
            known = known;
            many = too_many_with ks (kind.Int (h.0.0 ∷ [])) (record { bits = 1; values = 1 }) bits values in_bits in_values (one_value h.0.0) h.1;
            place = at_e;
          },
          λ m.
              let here : m.expression ≡ e = one_objective m.expression m.objective in
              let kinds : m.kinds ≡ ks = same_some (sym m.known ∙ known) in
              one_is.1 (
                (m.number, ap (arg_of naming) (sym here) ∙ ap (λ n. arg_of n m.expression) same ∙ m.constant),
                too_much_for ks (kind.Int (m.number ∷ [])) (record { bits = 1; values = 1 }) bits values in_bits in_values (one_value m.number)
                    (subst (λ js. HaveTooManyBits (js ++ kind.Int (m.number ∷ []) ∷ [])) kinds m.many),
              ),
        )
        (λ at m. m.place ∙ ap place_of (one_objective m.expression m.objective) ∙ sym at_e)

    pub objective_first : (off : Bool) → (IsTrue off ↔ (IsIntegerPart naming e → ⊥)) → (a : Option ModelFault) → a ≡ cond off (Some (faults.ObjectiveNotInt p)) None
        → (one : Bool) → (IsTrue one ↔ (IsIntegerConstant (arg_of naming e) × ((bit_limit < bits + 1) ⊎ (value_limit < values + 1))))
        → (b : Option ModelFault) → b ≡ cond one (Some (faults.TooManyBits p)) None
        → (r : Option ModelFault) → r ≡ first_told a b → IsFirstOf (InObjective before item) r
    objective_first off off_is a a_told one one_is b b_told r joined =
        subst (IsFirstOf (InObjective before item)) (sym joined)
        (same_first {P = All} {Q = InObjective before item} from_all to_all (first_told a b)
        (either_first (AtPlaces faults.ObjectiveNotInt (IsNoInteger before item)) (AtPlaces faults.TooManyBits (AreTooManyWithObjective before item)) a b
        (integer_first off off_is a a_told) (constant_first one one_is b b_told)))
