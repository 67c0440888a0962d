use Rattle.std.proofs.Common.{◌≡◌, ◌≢◌, ◌⊎◌}
use Rattle.search_rules.specs.Family.{Lies}
use Rattle.search_state.proofs.Places.{all_read, some_matters}
use Rattle.search_state.proofs.placing.scanned_entries_read_as_scanned.Goals as goal

pub returns-clause-none : goal.returns-clause-none
returns-clause-none c l t stored es b all = all_read l t stored (λ e. Lies e.before (b e.var)) es all

pub returns-clause-no_other : goal.returns-clause-no_other
returns-clause-no_other c l t stored es b k v all = all_read l t stored (λ e. e.level ≡ k → e.var ≢ v → Lies e.before (b e.var)) es all

pub returns-clause-only_one : goal.returns-clause-only_one
returns-clause-only_one c l t stored es b v all = all_read l t stored (λ e. (e.var ≡ v) ⊎ Lies e.before (b e.var)) es all

pub returns-clause-some : goal.returns-clause-some
returns-clause-some c = some_matters
