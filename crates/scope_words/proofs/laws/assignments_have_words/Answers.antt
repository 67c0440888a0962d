use Rattle.scope_words.proofs.Words.{read_back, assignment_given}
use Rattle.scope_words.proofs.laws.assignments_have_words.Goals as goal

pub returns-clause-read_back : goal.returns-clause-read_back
returns-clause-read_back c = read_back

pub returns-clause-given : goal.returns-clause-given
returns-clause-given c = assignment_given
