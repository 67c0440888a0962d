use Rattle.std.proofs.Common.{◌≡◌, length, subst, arith, ℕ, ◌*◌, ◌-◌, ◌^◌, drop}
use Rattle.std.specs.Prelude.{min}
use Rattle.fzn_model.specs.Outputs.{size_of}
use Rattle.fzn_model.proofs.Sizes.{all_taken, one_more}
use Rattle.fzn_model.proofs.outputs.size_of.Goals as goal

pub loop-dim-preserved : goal.loop-dim-preserved
loop-dim-preserved c = record {
  in_range = omega arith;
  same_size = one_more _ c.loop-dim.size _ _ c.args.dims.now c.loop-dim.dim-index c.dim-item.result _ c.loop-dim-test.true c.dim-item.is c.size_of_dim.ensures c.saturating_mul-size.ensures c.loop-dim.invariant.same_size;
}

pub returns : goal.returns
returns c =
    let n : ℕ = length c.args.dims.now in
    let e : c.loop-dim.dim-index ≡ n = omega arith in
    let P = λ (i : ℕ). min (c.loop-dim.size * size_of (drop i c.args.dims.now)) (2 ^ 128 - 1) ≡ min (size_of c.args.dims.now) (2 ^ 128 - 1) in
    all_taken (2 ^ 128 - 1) c.loop-dim.size c.args.dims.now (min (size_of c.args.dims.now) (2 ^ 128 - 1)) c.loop-dim.invariant.in_range (subst P e c.loop-dim.invariant.same_size)
