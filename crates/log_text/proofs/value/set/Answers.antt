use Rattle.std.proofs.Common.{sym, ◌∙◌, subst}
use Rattle.std.specs.List.Sorted.{IsStrictlySortedBy}
use Rattle.std.specs.Ordering.{int_cmp}
use Rattle.log_text.proofs.WordLaws.{same_elements}
use Rattle.log_text.proofs.value.set.Goals as goal

pub returns-else-is_ascending-clause-bad : goal.returns-else-is_ascending-clause-bad
returns-else-is_ascending-clause-bad c = λ bad elements fits is.
    let e = same_elements elements c.in_ok-elements.elements.items fits.small c.in_ok-elements.ensures.ok.0 (sym is ∙ c.in_ok-elements.ensures.ok.1) ∙ sym c.deref.ensures.value in
    let h = c.if-is_ascending.ensures.1 (subst (IsStrictlySortedBy int_cmp) e fits.ascending) in
    cc
