-- An item without faults, behind items without faults: what its expressions stand for.
use Rattle.std.proofs.Common.{◌≡◌, ◌≢◌, ◌⊎◌, ◌↔◌, ℕ, Bool, true, false, List, [], ◌∷◌, ◌++◌, map, Option, Some, None, is_some, ℤ, refl, sym, ap, subst, ◌∙◌, inl, inr, arith}
use Rattle.std.specs.Prelude.{All, Any, Contains, IsTrue, IsSome, IfSome, ⊤}
use Rattle.std.specs.List.{AllZip, flat_map}
use Rattle.std.specs.Option.{option_map, option_and_then}
use Rattle.std.proofs.lemmas.Option.{none-some, same_Some}
use Rattle.fzn_parser.specs.declared.tree.Num.{Num}
use Rattle.fzn_parser.specs.declared.tree.Num.TheVariants as nums
use Rattle.fzn_parser.specs.declared.tree.Number.{Number}
use Rattle.fzn_parser.specs.declared.tree.SetForm.{SetForm}
use Rattle.fzn_parser.specs.declared.tree.SetForm.TheVariants as sets
use Rattle.fzn_parser.specs.declared.tree.Basic.{Basic}
use Rattle.fzn_parser.specs.declared.tree.BasicForm.{BasicForm}
use Rattle.fzn_parser.specs.declared.tree.BasicForm.TheVariants as basics
use Rattle.fzn_parser.specs.declared.tree.Expr.{Expr}
use Rattle.fzn_parser.specs.declared.tree.Expr.TheVariants as exprs
use Rattle.fzn_parser.specs.declared.tree.Item.{Item}
use Rattle.set_meaning.specs.declared.kinds.Kind.{Kind}
use Rattle.set_meaning.specs.declared.kinds.Value.TheVariants as value
use Rattle.set_meaning.specs.declared.problems.Term.{Term}
use Rattle.set_meaning.specs.declared.problems.Term.TheVariants.{Const, Var}
use Rattle.set_meaning.specs.declared.problems.Arg.{Arg}
use Rattle.set_meaning.specs.declared.problems.Arg.TheVariants.{One, Many}
use Rattle.set_meaning.specs.declared.rows.Sort.{Sort}
use Rattle.set_meaning.specs.declared.rows.Sort.TheVariants.{Boolean, Integer, IntegerSet}
use Rattle.set_meaning.specs.declared.rows.Shape.{Shape}
use Rattle.set_meaning.specs.declared.rows.Shape.TheVariants.{OneOf, ManyOf, ConstantOf, ConstantsOf}
use Rattle.set_meaning.specs.Rows.{HasShape, HasSort, IsConstantOf, IsValueOf}
use Rattle.set_meaning.specs.Sets.{IsAscending, ascending_set, integers_between}
use Rattle.set_meaning.proofs.Ascending.{IsSetOf-ascending_set}
use Rattle.set_meaning.proofs.Ranges.{IsAscending-integers_between}
use Rattle.fzn_model.specs.Entities.{Entity}
use Rattle.fzn_model.specs.declared.faults.ModelFault.{ModelFault}
use Rattle.fzn_model.specs.declared.faults.ModelFault.TheVariants as faults
use Rattle.fzn_model.specs.Lists.{each_of}
use Rattle.fzn_model.specs.Items.{declares, expressions_in, numbers_in_part, numbers_of, parts_of}
use Rattle.fzn_model.specs.Entities.{Naming, arg_of, arg_of_part, array_of, elements_of, integer_in, integer_of, naming_after, one_term, range_of, term_of_part}
use Rattle.fzn_model.specs.Shapes.{HasTyping, asked_in, asked_of_parts, typing_of, typing_of_arg}
use Rattle.fzn_model.specs.FaultsOf.{InExpressions, all_parts}
use Rattle.fzn_model.specs.FirstFault.{AreNone}
use Rattle.fzn_model.specs.Drafts.{AreSorted, IsOfSort}
use Rattle.fzn_model.proofs.Among.{in_front, in_rest, in_flat_map, in_map, each_gives, all_of_second}
use Rattle.fzn_model.proofs.Sorts.{typing_told, shape_from_typing}

-- ---- numbers

pub known_num : (n : Num) → (n ≡ nums.Large → ⊥) → (n ≡ nums.Float → ⊥) → (x : ℤ) × (n ≡ nums.Int x)
known_num (nums.Int x) large float = (x, refl)
known_num nums.Large large float = absurd (large refl)
known_num nums.Float large float = absurd (float refl)

-- the elements of a literal whose numbers are known
pub known_set : (s : SetForm) → ((n : Number) → Contains (numbers_of s) n → (x : ℤ) × (n.num ≡ nums.Int x))
    → (xs : List ℤ) × (elements_of s ≡ Some xs) × IsAscending xs
known_set (sets.Range low high) h =
    let a = h low (in_front low (high ∷ [])) in
    let b = h high (in_rest low (high ∷ []) high (in_front high [])) in
    (integers_between a.0 b.0, (λ i. range_of (integer_in (a.1 i)) (integer_in (b.1 i))), IsAscending-integers_between a.0 b.0)
known_set (sets.List ns) h =
    let r = each_gives integer_of (λ n x. ⊤) ns (λ n c. let k = h n c in (k.0, ap integer_in k.1, tt)) in
    (ascending_set r.0, ap (λ o. option_map ascending_set o) r.1, (IsSetOf-ascending_set r.0).ascending)

-- ---- the parts

-- what a part of an expression stands for, with its sort
pub record IsMeant (kinds : List Kind) (naming : Naming) (form : BasicForm) : Type 0 where
  pub arg : Arg
  pub sort : Sort
  pub is : arg_of_part naming form ≡ Some arg
  pub typed : typing_of naming form ≡ Some (typing_of_arg sort arg)
  pub sorted : IsOfSort kinds sort arg

-- what is known of the items before
pub record AreKnown (before : List Item) (kinds : List Kind) : Type 0 where
  pub names : (name : List ℕ) → IsSome (naming_after before name) ↔ Any (λ earlier. IsTrue (declares name earlier.form)) before
  pub sorts : AreSorted kinds (naming_after before)

module _ (before : List Item) (kinds : List Kind) (known : AreKnown before kinds) (item : Item) (none : AreNone (InExpressions before item)) where
  -- the numbers of a part are told
  pub known_number : (b : Basic) → Contains (all_parts item.form) b → (n : Number) → Contains (numbers_in_part b) n → (x : ℤ) × (n.num ≡ nums.Int x)
  known_number b hb n hn =
      let among = in_flat_map numbers_in_part (all_parts item.form) b n hb hn in
      known_num n.num
      (λ e. none (faults.NumberTooLarge n.at) (subst (λ (m : Num). Contains (flat_map numbers_in_part (all_parts item.form)) (record { at = n.at; num = m })) e among))
      (λ e. none (faults.Float n.at) (subst (λ (m : Num). Contains (flat_map numbers_in_part (all_parts item.form)) (record { at = n.at; num = m })) e among))

  named : (at : ℕ) (name : List ℕ) → Contains (all_parts item.form) (record { at = at; form = basics.Name name })
      → (o : Option Entity) → naming_after before name ≡ o → IsMeant kinds (naming_after before) (basics.Name name)
  named at name h (Some e) q = record {
    arg = e.arg;
    sort = e.sort;
    is = ap (λ o. option_map (λ (z : Entity). z.arg) o) q;
    typed = ap (λ o. option_map (λ (z : Entity). typing_of_arg z.sort z.arg) o) q;
    sorted = subst (λ (o : Option Entity). IfSome o (λ z. IsOfSort kinds z.sort z.arg)) q (known.sorts name);
  }
  named at name h None q = absurd (none (faults.Undeclared at) (record {
    part = record { at = at; form = basics.Name name };
    used = h;
    name = name;
    named = refl;
    declared = λ any. let s = (known.names name).1 any in let n = ap is_some q in absurd (cc);
    place = refl;
  }))

  -- each part stands for something of its sort
  pub part_meant : (at : ℕ) (form : BasicForm) → Contains (all_parts item.form) (record { at = at; form = form }) → IsMeant kinds (naming_after before) form
  part_meant at (basics.Bool b) h = record { arg = One (Const (value.Bool b)); sort = Boolean; is = refl; typed = refl; sorted = tt }
  part_meant at (basics.Num (nums.Int x)) h = record { arg = One (Const (value.Int x)); sort = Integer; is = refl; typed = refl; sorted = tt }
  part_meant at (basics.Num nums.Large) h =
      let k = known_number (record { at = at; form = basics.Num nums.Large }) h (record { at = at; num = nums.Large }) (in_front (record { at = at; num = nums.Large }) []) in
      let e = k.1 in absurd (cc)
  part_meant at (basics.Num nums.Float) h =
      let k = known_number (record { at = at; form = basics.Num nums.Float }) h (record { at = at; num = nums.Float }) (in_front (record { at = at; num = nums.Float }) []) in
      let e = k.1 in absurd (cc)
  part_meant at (basics.Set s) h =
      let r = known_set s (λ n c. known_number (record { at = at; form = basics.Set s }) h n c) in
      record {
        arg = One (Const (value.Set r.0));
        sort = IntegerSet;
        is = ap (λ o. option_map (λ xs. One (Const (value.Set xs))) o) r.1;
        typed = refl;
        sorted = r.2;
      }
  part_meant at (basics.Name name) h = named at name h (naming_after before name) refl

  -- a part of which a shape is asked has it
  pub part_fits : (shape : Shape) (b : Basic) → Contains (all_parts item.form) b
      → Contains (flat_map (λ a. asked_of_parts a.0 a.1) (asked_in item.form)) (shape, b)
      → (a : Arg) × (arg_of_part (naming_after before) b.form ≡ Some a) × HasShape kinds shape a
  part_fits shape b h asked =
      let m = part_meant b.at b.form h in
      elim (typing_told shape (typing_of_arg m.sort m.arg)) [
        | inl has ↦ (m.arg, m.is, shape_from_typing kinds shape m.sort m.arg m.sorted has)
        | inr not ↦ absurd (none (faults.WrongType b.at) (inr (record {
          shape = shape;
          part = b;
          asked = asked;
          float = λ e. none-some m.arg (sym (ap (arg_of_part (naming_after before)) e) ∙ m.is);
          suits = λ s. not (subst (HasTyping shape) (same_Some s.typing (typing_of_arg m.sort m.arg) (sym s.typed ∙ m.typed)) s.asked);
          place = refl;
        })))
      ]

  -- the term that an item of an array stands for
  term_fits : (sort : Sort) (b : Basic) (a : Arg) → arg_of_part (naming_after before) b.form ≡ Some a → HasShape kinds (OneOf sort) a
      → (t : Term) × (term_of_part (naming_after before) b ≡ Some t) × HasSort kinds sort t
  term_fits sort b (One t) e h = (t, ap (λ o. option_and_then one_term o) e, h)
  term_fits sort b (Many ts) e h = absurd h

  constant_fits : (sort : Sort) (b : Basic) (a : Arg) → arg_of_part (naming_after before) b.form ≡ Some a → HasShape kinds (ConstantOf sort) a
      → (t : Term) × (term_of_part (naming_after before) b ≡ Some t) × IsConstantOf sort t
  constant_fits sort b (One t) e h = (t, ap (λ o. option_and_then one_term o) e, h)
  constant_fits sort b (Many ts) e h = absurd h

  -- an expression of which a shape is asked has it
  pub expression_fits : (shape : Shape) (e : Expr) → Contains (expressions_in item.form) e → Contains (asked_in item.form) (shape, e)
      → (a : Arg) × (arg_of (naming_after before) e ≡ Some a) × HasShape kinds shape a
  expression_fits shape (exprs.One b) used asked =
      part_fits shape b (in_flat_map parts_of (expressions_in item.form) (exprs.One b) b used (in_front b []))
      (in_flat_map (λ a. asked_of_parts a.0 a.1) (asked_in item.form) (shape, exprs.One b) (shape, b) asked (in_front (shape, b) []))
  expression_fits (OneOf sort) (exprs.List at items) used asked =
      absurd (none (faults.WrongType at) (inl (record { shape = OneOf sort; expression = exprs.List at items; asked = asked; stray = tt; place = refl })))
  expression_fits (ConstantOf sort) (exprs.List at items) used asked =
      absurd (none (faults.WrongType at) (inl (record { shape = ConstantOf sort; expression = exprs.List at items; asked = asked; stray = tt; place = refl })))
  expression_fits (ManyOf sort) (exprs.List at items) used asked =
      let r = each_gives (term_of_part (naming_after before)) (λ b t. HasSort kinds sort t) items (λ b c.
      let f = part_fits (OneOf sort) b (in_flat_map parts_of (expressions_in item.form) (exprs.List at items) b used c)
      (in_flat_map (λ a. asked_of_parts a.0 a.1) (asked_in item.form) (ManyOf sort, exprs.List at items) (OneOf sort, b) asked (in_map (λ x. (OneOf sort, x)) items b c)) in
      term_fits sort b f.0 f.1 f.2) in
      (Many r.0, ap (λ o. option_map Many o) r.1, all_of_second (HasSort kinds sort) items r.0 r.2)
  expression_fits (ConstantsOf sort) (exprs.List at items) used asked =
      let r = each_gives (term_of_part (naming_after before)) (λ b t. IsConstantOf sort t) items (λ b c.
      let f = part_fits (ConstantOf sort) b (in_flat_map parts_of (expressions_in item.form) (exprs.List at items) b used c)
      (in_flat_map (λ a. asked_of_parts a.0 a.1) (asked_in item.form) (ConstantsOf sort, exprs.List at items) (ConstantOf sort, b) asked (in_map (λ x. (ConstantOf sort, x)) items b c)) in
      constant_fits sort b f.0 f.1 f.2) in
      (Many r.0, ap (λ o. option_map Many o) r.1, all_of_second (IsConstantOf sort) items r.0 r.2)
