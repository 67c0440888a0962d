use Rattle.search_rules.proofs.StateLemmas.{learned_legal, turn_legal, turn_falls}
use Rattle.search_rules.proofs.turns.conflict_turn.Goals as goal

pub returns-clause-learned : goal.returns-clause-learned
returns-clause-learned g c answers boxes es f b l v k legal derives level = learned_legal legal derives level

pub returns-clause-narrowed : goal.returns-clause-narrowed
returns-clause-narrowed g c answers boxes es f b l v k legal derives level = turn_legal legal derives level

pub returns-clause-falls : goal.returns-clause-falls
returns-clause-falls g c answers boxes es f b l v k legal derives level = turn_falls legal derives level
