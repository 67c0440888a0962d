use Rattle.std.proofs.Common.{IsTrue, List, refl, subst, sym}
use Rattle.std.specs.List.{AllZip}
use Rattle.set_meaning.specs.declared.problems.Arg.{Arg}
use Rattle.set_meaning.specs.declared.rows.Row.{Row}
use Rattle.set_meaning.specs.declared.kinds.Kind.{Kind}
use Rattle.set_meaning.specs.declared.rows.Sort.TheVariants.{Boolean}
use Rattle.set_meaning.specs.Rows.{ArePaired, FitsRow, HasShape, HasSort, shapes_of}
use Rattle.std.specs.Prelude.{IfSome}
use Rattle.set_meaning.proofs.Members.{not_so, never}
use Rattle.set_meaning.proofs.rows.fits_row.Goals as goal

-- two clauses of a fitting constraint, for any row and list of arguments
abbrev Shaped : List Kind → Row → List Arg → Type 0
Shaped kinds row args = AllZip (HasShape kinds) (shapes_of row) args

abbrev Paired : Row → List Arg → Type 0
Paired row args = IsTrue row.paired → ArePaired args

pub returns-then-not-have_shapes : goal.returns-then-not-have_shapes
returns-then-not-have_shapes c =
    let there = λ (fits : FitsRow c.args.kinds.now c.args.c.now). subst (Shaped c.args.kinds.now c.row_of-row.result) (sym c.items.ensures)
    (subst (λ row. Shaped c.args.kinds.now row c.args.c.now.args) (sym c.row_of-row.ensures) fits.args) in
    not_so _ (λ fits. never (c.if-not-have_shapes.ensures.1 (there fits)))

pub returns-then-not-fits_pairing : goal.returns-then-not-fits_pairing
returns-then-not-fits_pairing c =
    let there = λ (fits : FitsRow c.args.kinds.now c.args.c.now). subst (Paired c.row_of-row.result) (sym c.items-2.ensures)
    (subst (λ row. Paired row c.args.c.now.args) (sym c.row_of-row.ensures) fits.paired) in
    not_so _ (λ fits. never (c.if-not-fits_pairing.ensures.1 (there fits)))

pub returns : goal.returns
returns c =
    let shaped = subst (Shaped c.args.kinds.now c.row_of-row.result) c.items.ensures (c.if-not-have_shapes.ensures.0 refl) in
    let paired = subst (Paired c.row_of-row.result) c.items-2.ensures (c.if-not-fits_pairing.ensures.0 refl) in
    let Named : Row → Type 0 = λ row. IfSome c.args.c.now.reif (λ t. IsTrue row.reifiable × HasSort c.args.kinds.now Boolean t) in (
      λ yes. record {
        args = subst (λ row. Shaped c.args.kinds.now row c.args.c.now.args) c.row_of-row.ensures shaped;
        paired = subst (λ row. Paired row c.args.c.now.args) c.row_of-row.ensures paired;
        reif = subst Named c.row_of-row.ensures (c.fits_reif.ensures.0 yes);
      },
      λ fits. c.fits_reif.ensures.1 (subst Named (sym c.row_of-row.ensures) fits.reif),
    )
