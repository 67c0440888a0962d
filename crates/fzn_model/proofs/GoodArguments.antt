-- The set literals of an item whose arguments have no fault may be made.
use Rattle.std.proofs.Common.{◌≡◌, ◌≤◌, List, length, get_or, Some, ℤ, refl, inl, inr}
use Rattle.std.specs.Prelude.{Contains, All}
use Rattle.std.proofs.lemmas.Bool.{cases_lt}
use Rattle.std.proofs.lemmas.List.Elements.{Contains-get_or}
use Rattle.fzn_parser.specs.declared.tree.SetForm.{SetForm}
use Rattle.fzn_parser.specs.declared.tree.Basic.{Basic}
use Rattle.fzn_parser.specs.declared.tree.BasicForm.{BasicForm}
use Rattle.fzn_parser.specs.declared.tree.BasicForm.TheVariants as basics
use Rattle.fzn_parser.specs.declared.tree.Expr.{Expr}
use Rattle.fzn_parser.specs.declared.tree.Item.{Item}
use Rattle.fzn_model.specs.declared.faults.ModelFault.TheVariants as faults
use Rattle.fzn_model.specs.Items.{expressions_in, parts_of}
use Rattle.fzn_model.specs.Entities.{elements_of}
use Rattle.fzn_model.specs.FaultsOf.{HasGoodArguments, all_parts}
use Rattle.fzn_model.specs.Meanings.{IsShort, IsShortForm}
use Rattle.fzn_model.proofs.OfItems.{to_flat}

short_set : (before : List Item) (item : Item) → HasGoodArguments before item → (part : Basic) (literal : SetForm) → Contains (all_parts item.form) part
    → part.form ≡ basics.Set literal → (elements : List ℤ) → elements_of literal ≡ Some elements → length elements ≤ 65536
short_set before item good part literal used is elements known =
    elim (cases_lt 65536 (length elements)) [
      | inl over ↦ absurd (good (faults.SetTooWide part.at) (inl (record {
        elements = elements;
        wide = over;
        constant = record { part = part; used = used; literal = literal; is = is; known = known; place = refl };
      })))
      | inr le ↦ le
    ]

short_form : (before : List Item) (item : Item) → HasGoodArguments before item → (part : Basic) (form : BasicForm) → Contains (all_parts item.form) part
    → part.form ≡ form → IsShortForm form
short_form before item good part (basics.Set literal) used is = short_set before item good part literal used is
short_form before item good part (basics.Bool b) used is = tt
short_form before item good part (basics.Num n) used is = tt
short_form before item good part (basics.Name n) used is = tt

short_expression : (before : List Item) (item : Item) → HasGoodArguments before item → (e : Expr) → Contains (expressions_in item.form) e → IsShort e
short_expression before item good e used = λ k d within.
    let part : Basic = get_or (parts_of e) k d in
    short_form before item good part part.form
    (to_flat parts_of (expressions_in item.form) e part used (Contains-get_or (parts_of e) k d within)) refl

pub good_is_short : (before : List Item) (item : Item) → HasGoodArguments before item → (es : List Expr) → expressions_in item.form ≡ es → All IsShort es
good_is_short before item good es same = λ k d within.
    short_expression before item good (get_or es k d) (rw same (Contains-get_or es k d within))
