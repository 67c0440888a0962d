-- How often a node stands in a list of refs, and that it stands there.
use Rattle.std.proofs.Common.{◌≡◌, ◌≢◌, ◌⊎◌, ℕ, zero, suc, ◌+◌, ◌<◌, Bool, false, List, [], ◌∷◌, length, get_or, refl, ap, ◌∙◌, subst, inl, inr, eq-eqb, arith, Contains}
use Rattle.std.specs.Prelude.{if◌then◌else◌}
use Rattle.std.proofs.lemmas.Bool.{cases_eq}
use Rattle.std.proofs.lemmas.Bool.Decides.{nat_tests}
use Rattle.bit_layout.proofs.Rising.{in_head, in_tail}
use Rattle.diagram_arena.specs.declared.nodes.NodeId.{NodeId}
use Rattle.diagram_arena.specs.declared.nodes.Ref.{Ref}
use Rattle.diagram_arena.specs.declared.nodes.Ref.TheVariants.{Zero, One, Node}
use Rattle.diagram_arena.specs.Table.{id_eq}
use Rattle.node_reclaim.specs.Pool.{times}
use Rattle.pin_lists.proofs.Counting.{times-append}

pub none_or_some : (n : ℕ) → (n ≡ 0) ⊎ (0 < n)
none_or_some zero = inl refl
none_or_some (suc n) = inr (omega arith)

-- ---- a node that is listed

pub times_listed : (i : NodeId) (rs : List Ref) → Contains rs (Node i) → 0 < times i rs
times_listed i rs h = at rs h.0 h.1 h.2
  where
    own : times i (Node i ∷ []) ≡ 1
    own = ap (λ (b : Bool). (if b then 1 else 0) + 0) (eq-eqb i.0 i.0 refl)

    at : (rs : List Ref) (k : ℕ) → k < length rs → get_or rs k (Node i) ≡ Node i → 0 < times i rs
    at [] k within e = absurd (let none : k < 0 = within in omega (arith, none))
    at (r ∷ rs) zero within e =
        let one : times i (r ∷ []) ≡ 1 = ap (λ (q : Ref). times i (q ∷ [])) e ∙ own in
        let all = times-append i (r ∷ []) rs in
        omega (arith, one, all)
    at (r ∷ rs) (suc k) within e =
        let less : k < length rs = omega (arith, within) in
        let later = at rs k less e in
        let all = times-append i (r ∷ []) rs in
        omega (arith, later, all)

-- ---- a node that is counted

other_id : (m n : ℕ) → m ≢ n → id_eq (record { 0 = m }) (record { 0 = n }) ≡ false
other_id m n other = grind (arith, nat_tests)

pub listed_times : (i : NodeId) (rs : List Ref) → 0 < times i rs → Contains rs (Node i)
listed_times i [] some = absurd (omega (arith, some))
listed_times i (Zero ∷ rs) some = in_tail Zero rs (Node i) (listed_times i rs some)
listed_times i (One ∷ rs) some = in_tail One rs (Node i) (listed_times i rs some)
listed_times i (Node j ∷ rs) some = elim (cases_eq i.0 j.0) [
  | inl same ↦ subst (λ (n : ℕ). let k : NodeId = record { 0 = n } in Contains (Node k ∷ rs) (Node i)) same (in_head (Node i) rs)
  | inr other ↦
      let none : 0 + times i rs ≡ times i rs = omega arith in
      let rest : times i (Node j ∷ rs) ≡ times i rs = ap (λ (b : Bool). (if b then 1 else 0) + times i rs) (other_id i.0 j.0 other) ∙ none in
      in_tail (Node j) rs (Node i) (listed_times i rs (subst (λ n. 0 < n) rest some))
]
