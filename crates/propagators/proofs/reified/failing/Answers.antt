use Rattle.std.proofs.Common.{sym, ◌∙◌, subst, ap}
use Rattle.scope_words.specs.Words.{variables_in}
use Rattle.scope_words.specs.Words.{HaveFewBits}
use Rattle.propagators.proofs.Leaving.{leaves_self}
use Rattle.propagators.proofs.reified.failing.Goals as goal

pub beyond-requires-clause-few : goal.beyond-requires-clause-few
beyond-requires-clause-few c = subst (HaveFewBits c.args.layout.now) (sym (c.as_slice.ensures.value ∙ c.in-Ok.ensures ∙ ap variables_in c.items.ensures)) c.requires.few

pub beyond-requires-clause-variables : goal.beyond-requires-clause-variables
beyond-requires-clause-variables c = c.as_slice.ensures.value ∙ c.in-Ok.ensures ∙ ap variables_in c.items.ensures

pub returns-in-Err-clause-leaves : goal.returns-in-Err-clause-leaves
returns-in-Err-clause-leaves c = leaves_self c.args.layout.now c.args.c.now c.args.ops.now c.pool.ensures.reduced
