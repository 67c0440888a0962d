use Rattle.std.proofs.Common.{ap}
use Rattle.diagram_arena.specs.Table.{has, IsReduced}
use Rattle.diagram_arena.specs.Arena.{table}
use Rattle.diagram_arena.proofs.Canonical.{canonical}
use Rattle.diagram_arena.proofs.hash_consing.Arena.have_same_words.Goals as goal

pub returns-clause-words : goal.returns-clause-words
returns-clause-words c =
    let t = table c.args.self.now in
    let ok : IsReduced t = rw (← c.self.view_is) c.self.invariant.reduced in (
      (λ e w. ap (λ r. has t r w) (c.is_same.ensures.0 e)),
      (λ same. c.is_same.ensures.1 (canonical t ok c.args.f c.args.g c.requires.f_live c.requires.g_live same)),
    )
