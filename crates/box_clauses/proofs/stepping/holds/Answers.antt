use Rattle.std.proofs.Common.{◌≡◌, sym, subst}
use Rattle.std.specs.Prelude.{IfOk, MatchBool}
use Rattle.diagram_arena.specs.Arena.{table}
use Rattle.search_rules.specs.Family.{Lies, Leaves}
use Rattle.exact_steps.specs.Domains.{values_in}
use Rattle.box_clauses.proofs.Cutting.{family_at}
use Rattle.box_clauses.proofs.stepping.holds.Goals as goal

pub is_inside-requires-clause-first : goal.is_inside-requires-clause-first
is_inside-requires-clause-first c =
    ((c.domains_are_value_sets.ensures c.args.layout.now (table c.args.ops.now.arena) c.args.side.var c.domain_of-domain.result).0
    (c.requires.domains.each c.args.side.var c.domain_of-domain.result c.domain_of-domain.ensures)).0

pub returns-clause-holds : goal.returns-clause-holds
returns-clause-holds c =
    let l = c.args.layout.now in
    let t = table c.args.ops.now.arena in
    let s = values_in l t c.args.side.var c.args.side.set in
    subst (λ f. IfOk c.is_inside.result (λ holds. MatchBool holds (Lies f s) (Leaves f s))) (sym (family_at l t c.args.domains.now c.args.side.var c.domain_of-domain.result c.domain_of-domain.ensures))
    c.is_inside.ensures.inside
