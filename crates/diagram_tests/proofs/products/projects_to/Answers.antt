use Rattle.diagram_arena.specs.Arena.{table}
use Rattle.diagram_arena.proofs.Meaning.{has-one}
use Rattle.diagram_tests.proofs.products.projects_to.Goals as goal

pub project_product-requires-clause-bounded : goal.project_product-requires-clause-bounded
project_product-requires-clause-bounded c w is = has-one _ w
