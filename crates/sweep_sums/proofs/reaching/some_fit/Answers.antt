use Rattle.std.proofs.Common.{rules, ◌≡◌, ◌<◌, ℤ, pos, List, [], ◌∷◌, length, get_or, ap, ◌∙◌, subst, IsTrue, ◌↔◌, FitsSigned, w64, arith}
use Rattle.std.specs.Prelude.{Any}
use Rattle.std.proofs.lemmas.Int.{to_z-of_z}
use Rattle.std.proofs.lemmas.List.{length-map}
use Rattle.set_meaning.specs.declared.problems.VarId.{VarId}
use Rattle.sweep_sums.specs.Reaching.{AreReached, IsWanted}
use Rattle.sweep_sums.specs.Weights.{weight_of, weights_of}
use Rattle.sweep_sums.proofs.Reached.{carried, all_carried}
use Rattle.sweep_sums.proofs.reaching.some_fit.Goals as goal

pub loop-i-preserved : goal.loop-i-preserved
loop-i-preserved c =
    let variables = c.args.variables.now in
    let weights = weights_of c.args.sum.now.terms variables in
    let given = c.as_slice-weights.result.now in
    let i = c.loop-i.i in
    let same : given ≡ weights = c.as_slice-weights.ensures.value ∙ c.in_ok-weights.ensures.weights ∙ ap (λ ts. weights_of ts variables) c.items.ensures in
    let in_lists : i < length c.args.lists.now = c.loop-i-test.true in
    let long : length weights ≡ length variables = length-map variables (λ (v : VarId). weight_of v c.args.sum.now.terms) in
    let in_weights : i < length weights = omega (arith, long, in_lists) in
    let fits : FitsSigned w64 (get_or given i (pos 0)) = search rules in
    let reached = simp to_z-of_z at c.in_ok-sums-2.ensures.reached in
    let of_list = subst (λ ns. AreReached (get_or given i (pos 0)) ns c.as_slice.result.now c.in_ok-sums-2.sums.items) c.items-in-loop-i.ensures reached in
    let of_sums = subst (λ ss. AreReached (get_or given i (pos 0)) c.index-lists-i.result ss c.in_ok-sums-2.sums.items) c.as_slice.ensures.value of_list in
    record {
      carried = carried (IsWanted c.args.sum.now c.args.truth) weights c.args.lists.now i (get_or given i (pos 0)) (pos 0) c.index-lists-i.result (c.args.sum.now.constant ∷ []) c.loop-i.sums.items
          c.in_ok-sums-2.sums.items in_weights in_lists (ap (λ ws. get_or ws i (pos 0)) same) c.index-lists-i.is of_sums c.loop-i.invariant.carried;
      within = c.in_ok-sums-2.ensures.within;
    }

pub returns : goal.returns
returns c =
    let variables = c.args.variables.now in
    let wanted = IsWanted c.args.sum.now c.args.truth in
    all_carried wanted (weights_of c.args.sum.now.terms variables) c.args.lists.now c.loop-i.i (c.args.sum.now.constant ∷ []) c.loop-i.sums.items c.loop-i-test.false c.loop-i.invariant.carried
    (IsTrue c.some_wanted-yes.result) (subst (λ ss. IsTrue c.some_wanted-yes.result ↔ Any wanted ss) c.as_slice-2.ensures.value c.some_wanted-yes.ensures)
