use Rattle.diagram_arena.specs.Table.{has}
use Rattle.scope_words.proofs.Words.{kind_of_value}
use Rattle.exact_steps.specs.Domains.{is_initial, word_of_value}
use Rattle.exact_steps.proofs.Values.{both_are, both_from, initial_from}
use Rattle.exact_steps.proofs.Sets.{own_words, value_sound, value_whole}
use Rattle.exact_steps.proofs.laws.diagrams_of_variables_are_domains.Goals as goal

pub returns-clause-own : goal.returns-clause-own
returns-clause-own g c condition l v t r ok known is = record { live = is.live; words = own_words l v (g.C.Condition.holds condition) (has t r) ok is.words }

pub returns-clause-exact : goal.returns-clause-exact
returns-clause-exact g c condition l v t r x ok known is = (
  λ h. let two = both_are (is_initial l v x) (has t r (word_of_value l v x)) h in value_sound l v (g.C.Condition.holds condition) (has t r) x ok is.words two.0 two.1,
  λ s.
      let k = kind_of_value l.kinds s.0 v.0 x s.1 s.2 in
      let initial = initial_from l v k.0 x ok k.1 k.2 in
      both_from (is_initial l v x) (has t r (word_of_value l v x)) initial (value_whole l v (g.C.Condition.holds condition) (has t r) s.0 x ok is.words initial s.2 s.3),
)
