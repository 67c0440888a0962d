use Rattle.propagators.proofs.OneKind.{one_kind}
use Rattle.propagators.proofs.relations.relations_have_one_kind.Goals as goal

pub returns : goal.returns
returns c = one_kind
