use Rattle.std.proofs.Common.{◌≡◌, ℕ, not, [], List, get_or, ap, ◌∙◌, subst, arith}
use Rattle.std.specs.List.{filter}
use Rattle.search_rules.specs.Family.{put}
use Rattle.plain_steps.specs.Sets.{has, family}
use Rattle.plain_search.proofs.TurnLemmas.{without_is}
use Rattle.plain_search.proofs.learning.narrow_by.Goals as goal

pub returns-clause-family : goal.returns-clause-family
returns-clause-family c =
    let set_is : c.set_of.result.now ≡ get_or c.args.trail.now.domains.items c.args.derived.var [] =
    c.set_of.ensures ∙ ap (λ (f : List (List ℕ)). get_or f c.args.derived.var []) c.deref.ensures.value in
    let side_is : c.set_of-2.result.now ≡ get_or c.args.derived.sides.items c.args.derived.var [] =
    c.set_of-2.ensures ∙ ap (λ (f : List (List ℕ)). get_or f c.args.derived.var []) c.deref-2.ensures.value in
    c.in_ok-change.ensures.family
    ∙ ap (put (family c.args.trail.now.domains.items) c.args.derived.var)
    (without_is c.args.trail.now.domains.items c.args.derived.sides.items c.args.derived.var c.in_ok-kept.kept c.requires.known
    (omega arith)
    (subst (λ (side : List ℕ). c.in_ok-kept.kept ≡ filter (λ x. not (has side x)) (get_or c.args.trail.now.domains.items c.args.derived.var [])) side_is
    (subst (λ (set : List ℕ). c.in_ok-kept.kept ≡ filter (λ x. not (has c.set_of-2.result.now x)) set) set_is c.in_ok-kept.ensures)))
