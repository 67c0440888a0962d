-- No set literal of an item without faults has too many elements to be made.
use Rattle.std.proofs.Common.{◌≡◌, ℕ, ◌+◌, ◌<◌, ◌≤◌, List, [], ◌∷◌, length, option_to_list, Option, Some, None, ℤ, refl, sym, ap, subst, ◌∙◌, inl, inr, arith}
use Rattle.std.specs.Prelude.{All, Contains}
use Rattle.std.specs.List.{flat_map}
use Rattle.std.proofs.lemmas.Option.{same_Some}
use Rattle.fzn_parser.specs.declared.tree.SetForm.{SetForm}
use Rattle.fzn_parser.specs.declared.tree.Basic.{Basic}
use Rattle.fzn_parser.specs.declared.tree.BasicForm.{BasicForm}
use Rattle.fzn_parser.specs.declared.tree.BasicForm.TheVariants as basics
use Rattle.fzn_parser.specs.declared.tree.Expr.{Expr}
use Rattle.fzn_parser.specs.declared.tree.Expr.TheVariants as exprs
use Rattle.fzn_parser.specs.declared.tree.Ident.{Ident}
use Rattle.fzn_parser.specs.declared.tree.Ann.{Ann}
use Rattle.fzn_parser.specs.declared.tree.TypeExpr.{TypeExpr}
use Rattle.fzn_parser.specs.declared.tree.TypeForm.{TypeForm}
use Rattle.fzn_parser.specs.declared.tree.TypeForm.TheVariants as types
use Rattle.fzn_parser.specs.declared.tree.Form.{Form}
use Rattle.fzn_parser.specs.declared.tree.Form.TheVariants as forms
use Rattle.fzn_parser.specs.declared.tree.Item.{Item}
use Rattle.set_meaning.specs.declared.kinds.Kind.{Kind}
use Rattle.set_meaning.specs.Sets.{IsAscending}
use Rattle.bit_layout.specs.Words.{span}
use Rattle.fzn_model.specs.declared.faults.ModelFault.TheVariants as faults
use Rattle.fzn_model.specs.Limits.{constant_set_limit, span_limit, universe_limit}
use Rattle.fzn_model.specs.Items.{expressions_in, objective_in, parts_of}
use Rattle.fzn_model.specs.Entities.{elements_of}
use Rattle.fzn_model.specs.FaultsOf.{InExpressions, IsFaultAfter, all_parts}
use Rattle.fzn_model.specs.FirstFault.{AreNone}
use Rattle.fzn_model.specs.Meanings.{IsShort, IsShortForm, IsShortIfAny, IsShortItem, IsShortKind, IsShortPart, IsShortSet, IsShortType}
use Rattle.fzn_model.proofs.Among.{all_from_members, in_front, in_flat_map}
use Rattle.fzn_model.proofs.Meant.{AreKnown, known_set}
use Rattle.fzn_model.proofs.Wide.{reaches}
use Rattle.fzn_model.proofs.Sound.{le_unless, number_told}

module _ (before : List Item) (item : Item) (none : AreNone (IsFaultAfter before item)) where
  short_part : (at : ℕ) (form : BasicForm) → Contains (all_parts item.form) (record { at = at; form = form }) → IsShortForm form
  short_part at (basics.Bool b) h = tt
  short_part at (basics.Num n) h = tt
  short_part at (basics.Name n) h = tt
  short_part at (basics.Set s) h = λ xs e. le_unless constant_set_limit (length xs) (λ w.
      none (faults.SetTooWide at) (inl (inl (record {
        elements = xs;
        constant = record { part = record { at = at; form = basics.Set s }; used = h; literal = s; is = refl; known = e; place = refl };
        wide = w;
      }))))

  short : (e : Expr) → Contains (expressions_in item.form) e → IsShort e
  short e h = all_from_members IsShortPart (parts_of e) (λ b c. short_part b.at b.form (in_flat_map parts_of (expressions_in item.form) e b h c))

short_if_any : (o : Option Expr) → ((e : Expr) → Contains (option_to_list o) e → IsShort e) → IsShortIfAny o
short_if_any None h = tt
short_if_any (Some e) h = h e (in_front e [])

pub short_item : (before : List Item) (at : ℕ) (form : Form) → AreNone (IsFaultAfter before (record { at = at; form = form })) → IsShortItem form
short_item before at forms.Predicate none = tt
short_item before at (forms.Param t ident anns e) none = short before (record { at = at; form = forms.Param t ident anns e }) none e (in_front e [])
short_item before at (forms.Variable t ident anns e) none = short_if_any e (short before (record { at = at; form = forms.Variable t ident anns e }) none)
short_item before at (forms.Array len is_var t ident anns items_at items) none =
    short before (record { at = at; form = forms.Array len is_var t ident anns items_at items }) none (exprs.List items_at items) (in_front (exprs.List items_at items) [])
short_item before at (forms.Constraint ident es anns) none =
    all_from_members IsShort es (short before (record { at = at; form = forms.Constraint ident es anns }) none)
short_item before at (forms.Solve anns g) none = short_if_any (objective_in g) (short before (record { at = at; form = forms.Solve anns g }) none)

module _ (before : List Item) (kinds : List Kind) (known : AreKnown before kinds) (number : ℕ) (numbered : number ≡ length kinds) where
  short_type : (at tat : ℕ) (t : TypeForm) (ident : Ident) (anns : List Ann) (e : Option Expr)
      → AreNone (IsFaultAfter before (record { at = at; form = forms.Variable (record { at = tat; form = t }) ident anns e })) → IsShortType t
  short_type at tat types.Bool ident anns e none = tt
  short_type at tat types.Int ident anns e none = tt
  short_type at tat types.Float ident anns e none = tt
  short_type at tat types.SetOfInt ident anns e none = tt
  short_type at tat (types.Within s) ident anns e none = λ xs q.
      let item : Item = record { at = at; form = forms.Variable (record { at = tat; form = types.Within s }) ident anns e } in
      let r = known_set s (number_told before kinds known number numbered item (record { at = tat; form = types.Within s }) none refl) in
      let same : r.0 ≡ xs = same_Some r.0 xs (sym r.1 ∙ q) in
      let up : IsAscending xs = subst IsAscending same r.2 in
      let far : length xs ≤ span xs + 1 = reaches xs up in
      let near : span xs ≤ span_limit = le_unless span_limit (span xs) (λ w. none (faults.IntTooWide tat) (inr (inl (xs, (s, refl, q, refl), w)))) in
      omega (arith, far, near)
  short_type at tat (types.SetWithin s) ident anns e none = λ xs q.
      let near : length xs ≤ universe_limit = le_unless universe_limit (length xs) (λ w. none (faults.SetTooWide tat) (inr (inl (xs, (s, refl, q, refl), w)))) in
      omega (arith, near)

  pub short_kind : (at : ℕ) (form : Form) → AreNone (IsFaultAfter before (record { at = at; form = form })) → IsShortKind form
  short_kind at forms.Predicate none = tt
  short_kind at (forms.Param t ident anns e) none = tt
  short_kind at (forms.Variable t ident anns e) none = short_type at t.at t.form ident anns e none
  short_kind at (forms.Array len is_var t ident anns items_at items) none = tt
  short_kind at (forms.Constraint ident es anns) none = tt
  short_kind at (forms.Solve anns g) none = tt
