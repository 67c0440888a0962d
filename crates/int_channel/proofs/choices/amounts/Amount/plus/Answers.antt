use Rattle.std.proofs.Common.{◌≡◌, ◌≤◌, ℤ, ◌+ℤ◌, ◌*ℤ◌, unsigned_abs, rules, to_z, of_z, FitsSigned, w64, ap, subst, ◌∙◌}
use Rattle.std.specs.Int.{w128}
use Rattle.std.proofs.lemmas.Int.{to_z-of_z}
use Rattle.int_channel.specs.Choices.{constant_part}
use Rattle.int_channel.proofs.ChoiceSums.{one_added}
use Rattle.int_channel.proofs.choices.amounts.Amount.plus.Goals as goal

pub returns-clause-amount : goal.returns-clause-amount
returns-clause-amount c = λ base ms h.
    let k = c.args.coefficient in
    let t = c.args.term.now in
    let was = c.args.self.now.constant in
    let fits_k : FitsSigned w64 k = c.ranges.coefficient in
    let fits_was : FitsSigned w128 was = search rules in
    let fits_part : FitsSigned w64 c.constant_part.result = search rules in
    let fits_product : FitsSigned w128 c.product.result = search rules in
    let fits_sum : FitsSigned w128 c.sum-self.result = search rules in
    let part : c.product.result ≡ k *ℤ constant_part t = (simp to_z-of_z at c.product.ensures.value) ∙ ap (λ p. k *ℤ p) c.constant_part.ensures.value in
    let sum : c.sum-self.result ≡ was +ℤ c.product.result = simp to_z-of_z at c.sum-self.ensures.value in
    let is : to_z w128 (of_z w128 c.sum-self.result) ≡ was +ℤ (k *ℤ constant_part t) = to_z-of_z w128 c.sum-self.result fits_sum ∙ sum ∙ ap (λ p. was +ℤ p) part in
    let P : ℤ → Type 0 = λ p. unsigned_abs p ≤ 1000000000000000000 in
    one_added base k t c.args.self.now record { terms = c.push_term.new.terms; constant = to_z w128 (of_z w128 c.sum-self.result) }
    (simp to_z-of_z at c.in_ok-push_term.ensures) is c.requires.coefficient (subst P part c.product.ensures.size) ms h
