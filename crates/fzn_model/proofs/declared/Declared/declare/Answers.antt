-- A name that is declared leaves what other names stand for.
use Rattle.std.proofs.Common.{◌≡◌, ◌∙◌, rules}
use Rattle.fzn_model.proofs.declared.Declared.declare.Goals as goal
use Rattle.fzn_model.proofs.Keys.{others_kept}

pub returns-clause-others : goal.returns-clause-others
returns-clause-others c =
    let key_is : c.in_ok-key.key.items ≡ c.args.name.now = search rules in
    λ other ne. others_kept (λ k. k.items) c.in_ok-key.key other _ _ c.in_ok-insert.ensures.updates.3 (λ e. ne (e ∙ key_is))
