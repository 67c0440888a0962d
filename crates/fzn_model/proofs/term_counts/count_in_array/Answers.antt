use Rattle.std.proofs.Common.{◌≡◌, true, sym, ◌∙◌, arith}
use Rattle.fzn_model.specs.Entities.{term_of_part}
use Rattle.fzn_model.specs.State.{naming_of}
use Rattle.fzn_model.proofs.TermCounts.{count_of_all}
use Rattle.fzn_model.proofs.term_counts.count_in_array.Goals as goal

pub returns : goal.returns
returns c =
    let single : c.are_single.result ≡ true = grind arith in
    count_of_all (term_of_part (naming_of c.args.declared.now)) c.args.items.now (sym c.are_single.ensures ∙ single)
