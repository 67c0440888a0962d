use Rattle.search_rules.proofs.StateLemmas.{root_holds, root_covers}
use Rattle.search_rules.proofs.walks.walk_past_the_first_entry.Goals as goal

pub returns-clause-everything : goal.returns-clause-everything
returns-clause-everything g c boxes es f b trail derives = root_holds trail derives

pub returns-clause-covered : goal.returns-clause-covered
returns-clause-covered g c answers boxes es f b legal derives = root_covers legal derives
