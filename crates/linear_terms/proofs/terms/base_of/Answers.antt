use Rattle.std.proofs.Common.{rules, to_z, ◌≡◌, ◌+◌, ◌<◌, ◌≤◌, ◌^◌, pos, ◌+ℤ◌, ◌*ℤ◌, unsigned_abs, drop, length, get_or, FitsSigned, w64, ◌∙◌, ap, sym, arith}
use Rattle.std.specs.Int.{w128}
use Rattle.std.proofs.lemmas.Int.{ints, to_z-of_z, fits_signed_from_abs}
use Rattle.std.proofs.lemmas.List.Elements.{All-get_or}
use Rattle.linear_terms.specs.declared.terms.LinearTerm.{LinearTerm}
use Rattle.linear_terms.specs.Weights.{least_at}
use Rattle.linear_terms.proofs.Adding.{abs_add}
use Rattle.linear_terms.proofs.Weighing.{terms_from, least_turn, least_none, least_here, product_small, word_size}
use Rattle.linear_terms.proofs.terms.base_of.Goals as goal

pub overflow_add-base : goal.overflow_add-base
overflow_add-base c =
    let terms = c.args.terms.now in
    let i = c.loop-term.term-index in
    let within : i < length terms = omega arith in
    let d : LinearTerm = record { coefficient = pos 0; variable = record { 0 = 0 } } in
    let t : LinearTerm = get_or terms i d in
    let small : unsigned_abs t.coefficient ≤ 1000000000 = All-get_or (λ (u : LinearTerm). unsigned_abs u.coefficient ≤ 1000000000) terms i d within c.requires.small.coefficients in
    let fits_coefficient : FitsSigned w64 t.coefficient = fits_signed_from_abs w64 t.coefficient (omega (arith, small)) in
    let fits_least : FitsSigned w64 c.least_number.result = search rules in
    let fits_product : FitsSigned w128 c.product-base.result = search rules in
    let size = simp to_z-of_z at c.product-base.ensures.size in
    let one : unsigned_abs c.product-base.result ≤ 2 ^ 93 = product_small t.coefficient c.least_number.result (unsigned_abs c.product-base.result) size small (word_size c.least_number.result fits_least) in
    let base = to_z w128 c.loop-term.base-bits in
    let before = c.loop-term.invariant.size in
    let few = c.requires.small.few in
    let sum = abs_add base c.product-base.result in
    let fits_sum : FitsSigned w128 (base +ℤ c.product-base.result) = fits_signed_from_abs w128 (base +ℤ c.product-base.result) (omega (arith, sum, one, before, few, within)) in
    simp to_z-of_z fits_sum

pub loop-term-preserved : goal.loop-term-preserved
loop-term-preserved c =
    let terms = c.args.terms.now in
    let i = c.loop-term.term-index in
    let within : i < length terms = omega arith in
    let d : LinearTerm = record { coefficient = pos 0; variable = record { 0 = 0 } } in
    let t : LinearTerm = get_or terms i d in
    let small : unsigned_abs t.coefficient ≤ 1000000000 = All-get_or (λ (u : LinearTerm). unsigned_abs u.coefficient ≤ 1000000000) terms i d within c.requires.small.coefficients in
    let fits_coefficient : FitsSigned w64 t.coefficient = fits_signed_from_abs w64 t.coefficient (omega (arith, small)) in
    let fits_least : FitsSigned w64 c.least_number.result = search rules in
    let fits_product : FitsSigned w128 c.product-base.result = search rules in
    let size = simp to_z-of_z at c.product-base.ensures.size in
    let one : unsigned_abs c.product-base.result ≤ 2 ^ 93 = product_small t.coefficient c.least_number.result (unsigned_abs c.product-base.result) size small (word_size c.least_number.result fits_least) in
    let base = to_z w128 c.loop-term.base-bits in
    let before = c.loop-term.invariant.size in
    let few = c.requires.small.few in
    let sum = abs_add base c.product-base.result in
    let fits_sum : FitsSigned w128 (base +ℤ c.product-base.result) = fits_signed_from_abs w128 (base +ℤ c.product-base.result) (omega (arith, sum, one, before, few, within)) in
    let known : t.variable.0 < length c.args.kinds.now = All-get_or (λ (u : LinearTerm). u.variable.0 < length c.args.kinds.now) terms i d within c.requires.known in
    let fits_constant : FitsSigned w128 c.args.constant = c.ranges.constant in
    let value : c.product-base.result ≡ t.coefficient *ℤ least_at c.args.kinds.now t.variable
    = simp to_z-of_z at c.product-base.ensures.value ∙ ap (λ x. t.coefficient *ℤ x) (c.least_number.ensures ∙ sym (least_here c.args.kinds.now t.variable.0 c.index-kinds-term.result known c.index-kinds-term.is)) in
    record {
      whole = simp to_z-of_z (least_turn c.args.kinds.now (drop i terms) (drop (i + 1) terms) t base c.product-base.result _ (terms_from terms i d within) value (simp to_z-of_z at c.loop-term.invariant.whole));
      size = simp to_z-of_z (omega (arith, sum, one, before));
    }

pub returns-clause-value : goal.returns-clause-value
returns-clause-value c =
    let at_end : length c.args.terms.now ≤ c.loop-term.term-index = omega arith in
    let none = least_none c.args.kinds.now c.args.terms.now c.loop-term.term-index at_end in
    let is = c.loop-term.invariant.whole in
    omega (arith, ints, none, is)
