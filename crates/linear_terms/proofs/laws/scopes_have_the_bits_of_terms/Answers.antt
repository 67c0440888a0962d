use Rattle.linear_terms.proofs.laws.scopes_have_the_bits_of_terms.Goals as goal

pub returns : goal.returns
returns c l scope bits terms ok are all k d within i below =
    (are.members _).1 (c.bits_of_a_scope_have_positions.ensures.of_scope l scope _ i ok (all k d within) below)
