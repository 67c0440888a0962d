-- Each turn reads an annotation, or there are no more.
use Rattle.std.proofs.Common.{length, sym, ◌∙◌, ap, List}
use Rattle.std.proofs.lemmas.Result.{err_from_is_err_and}
use Rattle.fzn_parser.specs.declared.tree.Ann.{Ann}
use Rattle.fzn_parser.specs.Grammar.{signs}
use Rattle.fzn_parser.specs.Reading.{with_front, annotations}
use Rattle.fzn_parser.proofs.Readers.{stopped, signs_less}
use Rattle.fzn_parser.proofs.Nested.{no_more_annotations, annotation_stops, annotation_more, annotation_less}
use Rattle.fzn_parser.proofs.annotations.more_annotations.Goals as goal

pub returns-in_err-annotation : goal.returns-in_err-annotation
returns-in_err-annotation c =
    let p = err_from_is_err_and c.from_residual.result c.from_residual.ensures.1 in
    let text = c.args.text.now in
    stopped _ c.from_residual.result _ c.in_err-annotation.field-0.0 p.0 p.1 (cc (p.2))
    (λ keep. sym c.annotations.invariant ∙ annotation_stops (length text) 100 c.annotations.annotations.items (signs text c.annotations.tokens.now) (c.in-Some.field-0-0, signs text c.in-Some.rest.now) c.in_err-annotation.field-0.0 c.in-Some.ensures (c.in_err-annotation.ensures keep))

pub annotations-smaller : goal.annotations-smaller
annotations-smaller c =
    let text = c.args.text.now in
    signs_less text c.in_ok-annotation.rest.now c.annotations.tokens.now (annotation_less (length text) 100 (signs text c.annotations.tokens.now) (c.in-Some.field-0-0, signs text c.in-Some.rest.now) c.in_ok-annotation.annotation (signs text c.in_ok-annotation.rest.now) c.in-Some.ensures c.in_ok-annotation.ensures)

pub annotations-preserved : goal.annotations-preserved
annotations-preserved c =
    let text = c.args.text.now in
    ap (λ (zs : List Ann). with_front zs (annotations (length text) 100 (signs text c.in_ok-annotation.rest.now))) c.in_ok-push.ensures.items
    ∙ sym (annotation_more (length text) 100 c.annotations.annotations.items (signs text c.annotations.tokens.now) (c.in-Some.field-0-0, signs text c.in-Some.rest.now) c.in_ok-annotation.annotation (signs text c.in_ok-annotation.rest.now) c.in-Some.ensures c.in_ok-annotation.ensures)
    ∙ c.annotations.invariant

pub returns : goal.returns
returns c =
    let text = c.args.text.now in
    sym c.annotations.invariant ∙ no_more_annotations (length text) 100 c.annotations.annotations.items (signs text c.annotations.tokens.now) c.in_default.ensures
