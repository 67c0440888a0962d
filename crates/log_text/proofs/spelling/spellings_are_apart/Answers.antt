use Rattle.log_text.proofs.LineLaws.{one_line, same_spelling, same_log}
use Rattle.log_text.proofs.spelling.spellings_are_apart.Goals as goal

pub returns : goal.returns
returns c = record { one_line = one_line; lines = same_spelling; logs = same_log }
