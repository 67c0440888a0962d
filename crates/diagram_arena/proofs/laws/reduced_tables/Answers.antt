use Rattle.diagram_arena.proofs.Growth.{stands as node_stands}
use Rattle.diagram_arena.proofs.Canonical.{canonical}
use Rattle.diagram_arena.proofs.Reach.{reaches_only, depends_only}
use Rattle.diagram_arena.proofs.laws.reduced_tables.Goals as goal

pub returns-clause-stands : goal.returns-clause-stands
returns-clause-stands c = node_stands

pub returns-clause-same_words : goal.returns-clause-same_words
returns-clause-same_words c = canonical

pub returns-clause-reach : goal.returns-clause-reach
returns-clause-reach c t ok r live bits = (depends_only t ok bits r live, reaches_only t ok bits r live)
