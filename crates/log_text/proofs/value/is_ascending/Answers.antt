use Rattle.std.proofs.Common.{rules}
use Rattle.std.proofs.lemmas.List.Sorted.{answers_always}
use Rattle.std.specs.Prelude.{int_lt}
use Rattle.log_text.proofs.ReadLaws.{ascending_answer}
use Rattle.log_text.proofs.value.is_ascending.Goals as goal

pub returns : goal.returns
returns c = ascending_answer _ _ (c.is_sorted_by.ensures.cases int_lt (answers_always _ _ _ (λ f a r f' called. search rules)))
