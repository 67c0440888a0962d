-- Visited nodes, one visit after another.
use Rattle.std.proofs.Common.{◌≡◌, ℕ, ◌-◌, ◌<◌, Bool, true, false, cond, eqb, suc, List, [], ◌∷◌, length, get_or, Some, ◌⊎◌, refl, sym, ◌∙◌, ap, subst, inl, inr, arith}
use Rattle.std.proofs.lemmas.Bool.{cases_Bool, eqb-true, eq-eqb, cond-true, cond-false, or_cases}
use Rattle.diagram_arena.specs.declared.nodes.NodeId.{NodeId}
use Rattle.diagram_arena.specs.declared.nodes.Ref.{Ref}
use Rattle.diagram_arena.specs.declared.nodes.Ref.TheVariants.{Zero, One, Node}
use Rattle.diagram_arena.specs.declared.nodes.Triple.{Triple}
use Rattle.diagram_arena.specs.Table.{Table, child, bit_end, depth, id_eq}
use Rattle.diagram_arena.specs.Reach.{follow}
use Rattle.diagram_arena.specs.Arena.{Stands}
use Rattle.diagram_view.specs.Steps.{side}
use Rattle.diagram_view.proofs.Over.{after}
use Rattle.diagram_view.specs.Visits.{was_seen, IsSeen, IsClosed, Visits}
use Rattle.diagram_view.proofs.Stepping.{step-at, side-is}

pub same_id : (i j : NodeId) → id_eq i j ≡ true → i ≡ j
same_id i j e = let p : i.0 ≡ j.0 = eqb-true i.0 j.0 e in λ k. record { 0 = p k }

-- a child is deeper
pub falls : (t : Table) (i : NodeId) (n : Triple) (r : Ref) → Stands t i n → r ≡ Node i → (v : Bool) → bit_end - depth t (child n v) < bit_end - depth t r
falls t i n r stands e v =
    let small = stands.small in
    let level : depth t r ≡ n.bit = ap (depth t) e ∙ stands.level in
    let deeper = stands.deeper v in
    omega (arith, small, level, deeper)

pub seen_stays : (old new : List NodeId) → ((i : NodeId) → was_seen old i ≡ true → was_seen new i ≡ true) → (r : Ref) → IsSeen old r → IsSeen new r
seen_stays old new kept Zero seen = tt
seen_stays old new kept One seen = tt
seen_stays old new kept (Node i) seen = kept i seen

-- nothing new where the ref was visited
pub visits_nothing : (t : Table) (r : Ref) (ids : List NodeId) → IsClosed t ids → IsSeen ids r → Visits t r ids ids
visits_nothing t r ids closed seen = record { closed = closed; kept = λ i on. on; here = seen; reached = λ i on. inl on }

pub visits_terminal : (t : Table) (r s : Ref) (ids : List NodeId) → IsClosed t ids → r ≡ s → IsSeen ids s → Visits t r ids ids
visits_terminal t r s ids closed e seen = visits_nothing t r ids closed (subst (IsSeen ids) (sym e) seen)

-- a node is visited once its children are, and it is added
pub visits_node : (t : Table) (i : NodeId) (n : Triple) (r : Ref) (first second third last : List NodeId) → Stands t i n → r ≡ Node i
    → Visits t n.lo first second → Visits t n.hi second third → ((q : NodeId) → was_seen last q ≡ cond (id_eq i q) true (was_seen third q)) → Visits t r first last
visits_node t i n r first second third last stands e lo hi put =
    let added : (q : NodeId) → id_eq i q ≡ true → was_seen last q ≡ true = λ q on. put q ∙ cond-true (id_eq i q) true (was_seen third q) on in
    let kept : (q : NodeId) → was_seen third q ≡ true → was_seen last q ≡ true = λ q on.
    elim (cases_Bool (id_eq i q)) [ inl same ↦ added q same | inr other ↦ put q ∙ cond-false (id_eq i q) true (was_seen third q) other ∙ on ] in
    let from : (q : NodeId) → was_seen last q ≡ true → (i ≡ q) ⊎ (was_seen third q ≡ true) = λ q on.
    elim (cases_Bool (id_eq i q)) [ inl same ↦ inl (same_id i q same) | inr other ↦ inr (sym (put q ∙ cond-false (id_eq i q) true (was_seen third q) other) ∙ on) ] in
    let lo_seen : IsSeen last n.lo = seen_stays third last kept n.lo (seen_stays second third hi.kept n.lo lo.here) in
    let hi_seen : IsSeen last n.hi = seen_stays third last kept n.hi hi.here in
    let below : (v : Bool) → IsSeen last (child n v) = λ v. elim v as (λ x. IsSeen last (child n x)) [ true ↦ hi_seen | false ↦ lo_seen ] in
    let here : was_seen last i ≡ true = added i (eq-eqb i.0 i.0 refl) in
    let go : (v : Bool) (path : List Bool) (q : NodeId) → follow t (child n v) path ≡ Node q → follow t r (v ∷ path) ≡ Node q = λ v path q at.
    ap (λ s. follow t s (v ∷ path)) e ∙ ap (λ s. follow t s path) (step-at t i n v stands.at) ∙ at in record {
      closed = λ q on. elim (from q on) [
        | inl same ↦ subst (λ j. (m : Triple) × (t j ≡ Some m) × ((v : Bool) → IsSeen last (child m v))) same (n, stands.at, below)
        | inr old ↦ let m = hi.closed q old in (m.0, m.1, λ v. seen_stays third last kept (child m.0 v) (m.2 v))
      ];
      kept = λ q on. kept q (hi.kept q (lo.kept q on));
      here = subst (IsSeen last) (sym e) here;
      reached = λ q on. elim (from q on) [
        | inl same ↦ inr ([], e ∙ ap Node same)
        | inr old ↦ elim (hi.reached q old) [
          | inr new ↦ inr (true ∷ new.0, go true new.0 q new.1)
          | inl older ↦ elim (lo.reached q older) [
            | inr new ↦ inr (false ∷ new.0, go false new.0 q new.1)
            | inl oldest ↦ inl oldest
          ]
        ]
      ];
    }

-- what a walk from a visited ref comes to was visited
side_seen : (t : Table) (ids : List NodeId) → IsClosed t ids → (r : Ref) (b : ℕ) (v : Bool) → IsSeen ids r → IsSeen ids (side t r b v)
side_seen t ids closed Zero b v seen = tt
side_seen t ids closed One b v seen = tt
side_seen t ids closed (Node i) b v seen =
    let n = closed i seen in
    elim (cases_Bool (eqb n.0.bit b)) [
      | inl same ↦ subst (IsSeen ids) (sym (side-is t i n.0 b v n.1 ∙ cond-true (eqb n.0.bit b) (child n.0 v) (Node i) same)) (n.2 v)
      | inr other ↦ subst (IsSeen ids) (sym (side-is t i n.0 b v n.1 ∙ cond-false (eqb n.0.bit b) (child n.0 v) (Node i) other)) seen
    ]

pub after_seen : (t : Table) (ids : List NodeId) → IsClosed t ids → (bits : List ℕ) (r : Ref) (p : List Bool) → IsSeen ids r → IsSeen ids (after t r bits p)
after_seen t ids closed [] r p seen = seen
after_seen t ids closed (b ∷ bs) r [] seen = seen
after_seen t ids closed (b ∷ bs) r (v ∷ vs) seen = after_seen t ids closed bs (side t r b v) vs (side_seen t ids closed r b v seen)

-- the place of a visited node
pub place_of : (ids : List NodeId) (i d : NodeId) → was_seen ids i ≡ true → (k : ℕ) × (k < length ids) × (get_or ids k d ≡ i)
place_of [] i d on = absurd (cc)
place_of (j ∷ js) i d on =
    elim (or_cases (id_eq i j) (was_seen js i) on) [
      | inl e ↦ (0, omega arith, sym (same_id i j e))
      | inr later ↦ let k = place_of js i d later in let far = k.1 in (suc k.0, omega (arith, far), k.2)
    ]
