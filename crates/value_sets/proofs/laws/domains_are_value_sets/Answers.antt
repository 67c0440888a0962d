use Rattle.value_sets.proofs.laws.domains_are_value_sets.Goals as goal

pub returns : goal.returns
returns c l t v r = (λ is. (is.diagram, is.some), λ is. record { diagram = is.0; some = is.1 })
