use Rattle.std.proofs.Common.{◌<◌, ◌∙◌, length, ap, sym, subst}
use Rattle.std.specs.List.{All, flat_map}
use Rattle.set_meaning.specs.declared.problems.VarId.{VarId}
use Rattle.scope_words.specs.Words.{bits_at}
use Rattle.scope_words.proofs.Bits.{bits_from_sort, variables_known}
use Rattle.scope_words.proofs.scope.scope_bits.Goals as goal

pub listed_bits-requires : goal.listed_bits-requires
listed_bits-requires c =
    subst (All (λ (v : VarId). v.0 < length c.args.layout.now.kinds)) (sym c.as_slice.ensures.value)
    (variables_known (λ v. v.0 < length c.args.layout.now.kinds) _ _ c.in_ok-variables.ensures c.requires)

pub returns : goal.returns
returns c =
    bits_from_sort _ _ _ _ _ _ c.obeys_order.ensures c.in_ok-variables.ensures (c.in_ok-bits.ensures ∙ ap (flat_map (bits_at c.args.layout.now)) c.as_slice.ensures.value) c.sort_unstable.ensures.permutation c.sort_unstable.ensures.sorted c.dedup.ensures.filtered
