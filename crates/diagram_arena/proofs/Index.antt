-- The index: its keys are compared as what nodes mean, and it follows the table when a node is added.
use Rattle.std.proofs.Common.{◌≡◌, ◌≢◌, Bool, true, false, cond, eqb, ◌&&◌, List, [], ◌∷◌, Some, None, refl, sym, ◌∙◌, ap, inl, inr}
use Rattle.std.specs.Map.{lookup}
use Rattle.std.proofs.lemmas.Bool.{cases_Bool, eqb-true, eq-eqb, and_parts, and_from}
use Rattle.diagram_arena.specs.declared.nodes.NodeId.{NodeId}
use Rattle.diagram_arena.specs.declared.nodes.Ref.{Ref}
use Rattle.diagram_arena.specs.declared.nodes.Ref.TheVariants.{Zero, One, Node}
use Rattle.diagram_arena.specs.declared.nodes.Triple.{Triple}
use Rattle.diagram_arena.specs.contracts.nodes.TriplePartialEq.TheImpl.{eq-value}
use Rattle.diagram_arena.specs.contracts.nodes.RefPartialEq.TheImpl.{eq-value as of_refs}
use Rattle.diagram_arena.specs.Table.{Table}
use Rattle.diagram_arena.specs.Body.{same_ref, same_triple, IsIndex}
use Rattle.diagram_arena.proofs.Growth.{Adds}
use Rattle.diagram_arena.proofs.Ids.{same_id, cases_id}

-- the derived `==`, under the name that the toolchain gives it
abbrev pub derived : Triple → Triple → Bool
derived = eq-value.it

ref_true : (r s : Ref) → same_ref r s ≡ true → r ≡ s
ref_true Zero Zero e = refl
ref_true Zero One e = cc
ref_true Zero (Node j) e = cc
ref_true One Zero e = cc
ref_true One One e = refl
ref_true One (Node j) e = cc
ref_true (Node i) Zero e = cc
ref_true (Node i) One e = cc
ref_true (Node i) (Node j) e = ap Node (same_id i j (eqb-true i.0 j.0 e))

ref_self : (r : Ref) → same_ref r r ≡ true
ref_self Zero = refl
ref_self One = refl
ref_self (Node i) = eq-eqb i.0 i.0 refl

pub triple_true : (n m : Triple) → same_triple n m ≡ true → n ≡ m
triple_true n m e =
    let bit = and_parts (eqb n.bit m.bit) (same_ref n.lo m.lo && same_ref n.hi m.hi) e in
    let sides = and_parts (same_ref n.lo m.lo) (same_ref n.hi m.hi) bit.1 in
    let b : n.bit ≡ m.bit = eqb-true n.bit m.bit bit.0 in
    let l : n.lo ≡ m.lo = ref_true n.lo m.lo sides.0 in
    let h : n.hi ≡ m.hi = ref_true n.hi m.hi sides.1 in
    λ i. record { bit = b i; lo = l i; hi = h i }

pub triple_self : (n : Triple) → same_triple n n ≡ true
triple_self n = and_from (eqb n.bit n.bit) (same_ref n.lo n.lo && same_ref n.hi n.hi) (eq-eqb n.bit n.bit refl)
    (and_from (same_ref n.lo n.lo) (same_ref n.hi n.hi) (ref_self n.lo) (ref_self n.hi))

-- so are two refs
refs_agree : (r s : Ref) → of_refs.it r s ≡ same_ref r s
refs_agree Zero Zero = refl
refs_agree Zero One = refl
refs_agree Zero (Node j) = refl
refs_agree One Zero = refl
refs_agree One One = refl
refs_agree One (Node j) = refl
refs_agree (Node i) Zero = refl
refs_agree (Node i) One = refl
refs_agree (Node i) (Node j) = refl

-- it compares what nodes mean
pub derived_is : (n m : Triple) → derived n m ≡ same_triple n m
derived_is n m = λ i. eqb n.bit m.bit && (refs_agree n.lo m.lo i && refs_agree n.hi m.hi i)

pub lookup-derived : (n : Triple) (es : List (Triple × NodeId)) → lookup (derived n) es ≡ lookup (same_triple n) es
lookup-derived n [] = refl
lookup-derived n (e ∷ es) = λ i. cond (derived_is n e.0 i) (Some e.1) (lookup-derived n es i)

-- an index of a table that holds the node n nowhere, with n added under the free id i
pub index_adds : (t u : Table) (i : NodeId) (n : Triple) (es fs : List (Triple × NodeId)) → Adds t u i n → IsIndex t es
    → ((j : NodeId) → t j ≢ Some n)
    → ((m : Triple) → lookup (derived m) fs ≡ cond (derived n m) (Some i) (lookup (derived m) es))
    → IsIndex u fs
index_adds t u i n es fs adds index absent put =
    let at : (m : Triple) → lookup (same_triple m) fs ≡ cond (same_triple n m) (Some i) (lookup (same_triple m) es) = λ m.
    sym (lookup-derived m fs) ∙ put m ∙ (λ k. cond (derived_is n m k) (Some i) (lookup-derived m es k)) in
    record {
      sound = λ m j is. elim (cases_Bool (same_triple n m)) [
        | inl same ↦
            let here : lookup (same_triple m) fs ≡ Some i = at m ∙ ap (λ b. cond b (Some i) (lookup (same_triple m) es)) same in
            let e : Some j ≡ Some i = sym is ∙ here in
            let e' : j ≡ i = (cc) in
            ap u e' ∙ adds.here ∙ ap Some (triple_true n m same)
        | inr other ↦
            let there : lookup (same_triple m) fs ≡ lookup (same_triple m) es = at m ∙ ap (λ b. cond b (Some i) (lookup (same_triple m) es)) other in
            let old : t j ≡ Some m = index.sound m j (sym there ∙ is) in
            adds.others j (λ e. let free : t j ≡ None = ap t e ∙ adds.free in let no : None ≡ Some m = sym free ∙ old in (cc)) ∙ old
      ];
      complete = λ j m is. elim (cases_id j i) [
        | inl e ↦
            let same : Some n ≡ Some m = sym adds.here ∙ sym (ap u e) ∙ is in
            let same' : n ≡ m = (cc) in
            at m ∙ ap (λ b. cond b (Some i) (lookup (same_triple m) es)) (ap (same_triple n) (sym same') ∙ triple_self n) ∙ ap Some (sym e)
        | inr ne ↦
            let old : t j ≡ Some m = sym (adds.others j ne) ∙ is in
            let other : same_triple n m ≡ false = elim (cases_Bool (same_triple n m)) [
              | inl same ↦ absurd (absent j (old ∙ ap Some (sym (triple_true n m same))))
              | inr other ↦ other
            ] in
            at m ∙ ap (λ b. cond b (Some i) (lookup (same_triple m) es)) other ∙ index.complete j m old
      ];
    }
