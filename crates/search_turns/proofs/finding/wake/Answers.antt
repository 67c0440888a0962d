use Rattle.search_turns.proofs.Rounds.{flags_readers}
use Rattle.search_turns.proofs.finding.wake.Goals as goal

pub returns : goal.returns
returns c = flags_readers c.args.queue.now c.clear.new.self c.flag_readers.new.self c.args.v c.clear.ensures.scopes c.clear.ensures.long c.flag_readers.ensures
