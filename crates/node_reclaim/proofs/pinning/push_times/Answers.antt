use Rattle.std.proofs.Common.{◌≡◌, ◌++◌, [], ◌∷◌, replicate, sym, ◌∙◌, ap, arith, append_assoc}
use Rattle.std.proofs.lemmas.List.{append-nil}
use Rattle.node_reclaim.proofs.Counts.{replicate_more}
use Rattle.node_reclaim.proofs.pinning.push_times.Goals as goal

pub loop-init : goal.loop-init
loop-init c = sym (append-nil c.args.refs.now.items)

pub loop-preserved : goal.loop-preserved
loop-preserved c =
    c.in_ok-push.ensures.items ∙ ap (λ xs. xs ++ c.args.r ∷ []) c.loop.invariant
    ∙ append_assoc c.args.refs.now.items (replicate c.loop.counter c.args.r) (c.args.r ∷ [])
    ∙ ap (λ xs. c.args.refs.now.items ++ xs) (sym (replicate_more c.loop.counter c.args.r))

pub returns : goal.returns
returns c =
    let all : c.loop.counter ≡ c.args.count = omega arith in
    c.loop.invariant ∙ ap (λ n. c.args.refs.now.items ++ replicate n c.args.r) all
