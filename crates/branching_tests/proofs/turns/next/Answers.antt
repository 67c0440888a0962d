use Rattle.std.proofs.Common.{◌<◌, List, length, sym, subst, arith}
use Rattle.diagram_arena.specs.declared.nodes.Ref.{Ref}
use Rattle.diagram_arena.specs.Arena.{table}
use Rattle.set_meaning.specs.declared.problems.VarId.{VarId}
use Rattle.exact_steps.specs.Domains.{AreDomains, family}
use Rattle.branching.specs.Decisions.{HaveOneValueBelow, IsDecided}
use Rattle.branching.proofs.Options.{from_none}
use Rattle.branching_tests.proofs.Gathering.{from_some}
use Rattle.branching_tests.proofs.turns.next.Goals as goal

pub returns-in-None-clause-none : goal.returns-in-None-clause-none
returns-in-None-clause-none c =
    let l = c.args.layout.now in
    let t = table c.args.ops.now.arena in
    let items = c.args.domains.now.items in
    let n = length l.kinds in
    let none = from_none c.in_ok-found.found (HaveOneValueBelow n (family l t c.as_slice.result.now)) c.in-None.is c.in_ok-found.ensures.none in
    let own = subst (λ (ds : List Ref). HaveOneValueBelow n (family l t ds)) c.as_slice.ensures.value none in
    subst (HaveOneValueBelow n) (sym (c.domains_stay_as_tables_grow.ensures.same l t (table c.decision.new.ops.arena) items c.decision.ensures.stays.grows c.requires)) own

pub returns-in-Some-clause-domains : goal.returns-in-Some-clause-domains
returns-in-Some-clause-domains c =
    let l = c.args.layout.now in
    let t = table c.args.ops.now.arena in
    let u = table c.decision.new.ops.arena in
    let items = c.args.domains.now.items in
    let d = from_some {X = VarId × Ref} c.in_ok-found.found (λ d. IsDecided l t u c.as_slice.result.now 0 d.0 d.1) c.in-Some.taken c.in-Some.is c.in_ok-found.ensures.decided in
    let long = c.requires.long in
    let known = d.known in
    let within : c.in-Some.taken.0.0 < length items = omega (arith, long, known) in
    subst (AreDomains l u) (sym c.put.ensures) (c.narrowed_domains.ensures.domains l t u items c.in-Some.taken.0 c.in-Some.taken.1 c.decision.ensures.stays.grows c.requires within d.domain)
