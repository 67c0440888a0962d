use Rattle.std.proofs.Common.{refl}
use Rattle.fzn_model.proofs.drafts.Draft.new.Goals as goal
use Rattle.fzn_model.proofs.EmptyDraft.{empty_draft}

pub returns : goal.returns
returns c =
    empty_draft _ c.new.ensures c.new-2.ensures.items refl refl refl refl refl
    c.new-3.ensures.items c.new-4.ensures.items c.new-5.ensures.items c.new-6.ensures.items
