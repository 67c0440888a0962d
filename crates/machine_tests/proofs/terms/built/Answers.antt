use Rattle.std.proofs.Common.{ℕ, List, All, ◌∙◌, sym, subst}
use Rattle.linear_terms.specs.declared.terms.LinearTerm.{LinearTerm}
use Rattle.linear_terms.specs.Terms.{HasBitsOf}
use Rattle.machine_tests.proofs.TermScopes.{terms_in_scope, variables_known}
use Rattle.machine_tests.proofs.terms.built.Goals as goal

pub scope_bits-requires : goal.scope_bits-requires
scope_bits-requires c =
    variables_known c.args.layout.now.kinds c.args.p.now.kinds c.args.terms.now c.as_slice.result.now (c.as_slice.ensures.value ∙ c.in_ok-scope.ensures) c.requires.kinds c.requires.known

pub linear_over-requires-clause-listed : goal.linear_over-requires-clause-listed
linear_over-requires-clause-listed c =
    let l = c.args.layout.now in
    let terms = c.args.terms.now in
    let scope = c.as_slice.result.now in
    let all = terms_in_scope terms scope (c.as_slice.ensures.value ∙ c.in_ok-scope.ensures) in
    let P : List ℕ → Type 0 = λ bits. All (λ (t : LinearTerm). HasBitsOf l bits t.variable) terms in
    subst P (sym c.as_slice-2.ensures.value) (c.scopes_have_the_bits_of_terms.ensures l scope c.in_ok-bits.bits.items terms c.obeys_order.ensures c.in_ok-bits.ensures all)
