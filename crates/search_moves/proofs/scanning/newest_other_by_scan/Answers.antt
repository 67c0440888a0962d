use Rattle.std.proofs.Common.{◌≡◌, ◌⊎◌}
use Rattle.std.proofs.lemmas.List.Elements.{recursion_from_All}
use Rattle.search_rules.specs.Family.{Lies}
use Rattle.search_moves.proofs.Seeking.{newest_found, newest_none}
use Rattle.search_moves.proofs.scanning.newest_other_by_scan.Goals as goal

pub returns-clause-found : goal.returns-clause-found
returns-clause-found g c seen rest e b v only apart matters =
    newest_found seen rest e b v (recursion_from_All (λ d. (d.var ≡ v) ⊎ Lies d.before (b d.var)) seen only) apart matters

pub returns-clause-none : goal.returns-clause-none
returns-clause-none g c es b v only =
    newest_none es b v (recursion_from_All (λ d. (d.var ≡ v) ⊎ Lies d.before (b d.var)) es only)
