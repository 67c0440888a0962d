use Rattle.std.proofs.Common.{◌≡◌, ◌∙◌, arith, rules, pos, get_or, w64, to_z, of_z}
use Rattle.set_meaning.proofs.SubsetLists.{others, leads_others}
use Rattle.set_meaning.proofs.initial.+subsets.Goals as goal

pub subsets-requires : goal.subsets-requires
subsets-requires t c = (omega arith, others c.args.elements.now c.requires c.in-len1-up.len_at_least)

pub with_and_without-requires : goal.with_and_without-requires
with_and_without-requires t c =
    let first : to_z w64 (of_z w64 (get_or c.args.elements.now 0 (pos 0))) ≡ get_or c.args.elements.now 0 (pos 0) = search rules in
    leads_others c.args.elements.now _ c.as_slice.result.now c.requires c.in-len1-up.len_at_least first (c.as_slice.ensures.value ∙ c.in_ok-without-in-len1-up.ensures)
