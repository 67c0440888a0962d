use Rattle.sweep_fixing.proofs.Exact.{fixing_exact}
use Rattle.sweep_fixing.proofs.Fewer.{fewer_variables, sides_named, sides_stay}
use Rattle.sweep_fixing.proofs.Rows.{row_fits}
use Rattle.sweep_fixing.proofs.laws.fixing_is_exact.Goals as goal

pub returns : goal.returns
returns c = record {
  exact = fixing_exact;
  fits = λ kinds k v kd x fits is within. row_fits kinds v kd x is within k fits;
  sides = sides_stay;
  named = sides_named;
  fewer = fewer_variables;
}
