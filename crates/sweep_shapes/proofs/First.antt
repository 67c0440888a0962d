-- A first value of each kind.
use Rattle.std.proofs.Common.{◌≡◌, ◌≢◌, ◌↔◌, ℤ, pos, ◌≤ℤ◌, List, [], ◌∷◌, Contains, refl, sym, subst, arith}
use Rattle.std.proofs.lemmas.Int.{ints}
use Rattle.set_meaning.specs.declared.kinds.Kind.{Kind}
use Rattle.set_meaning.specs.declared.kinds.Kind.TheVariants as kind
use Rattle.set_meaning.specs.declared.kinds.Value.TheVariants as value
use Rattle.set_meaning.specs.Kinds.{InKind}
use Rattle.set_meaning.specs.Problems.{IsKind}
use Rattle.set_meaning.specs.Sets.{Has, IsAscending, IsSubset}
use Rattle.bit_layout.specs.Words.{least}
use Rattle.bit_layout.proofs.Rising.{in_head}

least_there : (numbers : List ℤ) → numbers ≢ [] → Contains numbers (least numbers)
least_there [] some = absurd (some refl)
least_there (x ∷ xs) some = in_head x xs

pub int_first : (k : Kind) (numbers elements : List ℤ) (x : ℤ) → k ≡ kind.Int numbers → elements ≡ numbers → IsKind k → x ≡ least elements → InKind k (value.Int x)
unfolding InKind Has
int_first k numbers elements x is same legal at =
    let some : IsKind (kind.Int numbers) = subst IsKind is legal in
    let there : Contains numbers x = subst (Contains numbers) (sym (subst (λ ns. x ≡ least ns) same at)) (least_there numbers some.1) in
    let here : InKind (kind.Int numbers) (value.Int x) = there in
    subst (λ j. InKind j (value.Int x)) (sym is) here

pub set_first : (k : Kind) (universe set : List ℤ) → k ≡ kind.Set universe → IsAscending set → ((x : ℤ) → Has set x ↔ ((pos 1 ≤ℤ x) × (x ≤ℤ pos 0))) → InKind k (value.Set set)
unfolding InKind IsSubset
set_first k universe set is up members =
    let here : InKind (kind.Set universe) (value.Set set) = record { ascending = up; within = λ x h. let b = (members x).0 h in absurd (nothing_between x b.0 b.1) } in
    subst (λ j. InKind j (value.Set set)) (sym is) here
  where
    nothing_between : (x : ℤ) → pos 1 ≤ℤ x → x ≤ℤ pos 0 → ⊥
    nothing_between x low high = omega (arith, ints)
