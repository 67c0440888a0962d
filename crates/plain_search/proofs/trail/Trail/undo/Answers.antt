use Rattle.std.proofs.Common.{refl, ◌∙◌, [], ap, Some, set}
use Rattle.std.proofs.lemmas.List.{get_or_read}
use Rattle.std.proofs.lemmas.List.Elements.{All-pop}
use Rattle.std.proofs.Common.{length}
use Rattle.plain_search.specs.State.{Fits}
use Rattle.plain_search.proofs.TurnLemmas.{undone}
use Rattle.plain_search.proofs.trail.Trail.undo.Goals as goal

pub returns-clause-undone : goal.returns-clause-undone
returns-clause-undone c =
    let fits = All-pop (Fits (length c.args.self.now.domains.items)) c.args.self.now.changes.items c.pop.new.self.items
    (Some c.in_ok-var.field-0) c.in_ok-var.ensures.items c.requires.fits in
    undone c.args.self.now _ _ c.in_ok-var.field-0 c.in_ok-var.ensures.items refl refl
    (c.replace-kept.ensures.value
    ∙ get_or_read c.args.self.now.domains.items c.in_ok-var.field-0.var c.index_mut.result.now fits.1.known c.index_mut.ensures.value [])
    (ap (set c.args.self.now.domains.items c.in_ok-var.field-0.var) c.replace-kept.ensures.after)
    fits.1.known
