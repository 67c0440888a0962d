-- In a reduced table two live refs with one set of words are one ref.
use Rattle.std.proofs.Common.{◌≡◌, ◌≢◌, ℕ, ◌+◌, ◌<◌, ◌≤◌, Bool, true, false, eqb, zero, suc, Some, refl, sym, ◌∙◌, ap, inl, inr, arith}
use Rattle.std.proofs.lemmas.Bool.{cases_order, ne_eqb, eq-eqb, false≢true}
use Rattle.diagram_arena.specs.declared.nodes.NodeId.{NodeId}
use Rattle.diagram_arena.specs.declared.nodes.Ref.{Ref}
use Rattle.diagram_arena.specs.declared.nodes.Ref.TheVariants.{Zero, One, Node}
use Rattle.diagram_arena.specs.declared.nodes.Triple.{Triple}
use Rattle.diagram_arena.specs.Table.{Word, Table, child, bit_end, has, IsLive, depth, IsReduced}
use Rattle.diagram_arena.specs.Part.{with_bit}
use Rattle.diagram_arena.proofs.Meaning.{depth-zero, depth-one, depth-at, live_triple, live_from, has-zero, has-one, has-at, induct}

-- a ref reads only the bits from its depth on
pub has-agree : (t : Table) → IsReduced t → (r : Ref) → IsLive t r → (w u : Word) → ((b : ℕ) → depth t r ≤ b → w b ≡ u b) → has t r w ≡ has t r u
has-agree t ok r live =
    induct t ok (λ s. (w u : Word) → ((b : ℕ) → depth t s ≤ b → w b ≡ u b) → has t s w ≡ has t s u)
    (λ w u agree. has-zero t w ∙ sym (has-zero t u))
    (λ w u agree. has-one t w ∙ sym (has-one t u))
    (λ i n is below w u agree.
    let at : depth t (Node i) ≡ n.bit = depth-at t i n is in
    let here : w n.bit ≡ u n.bit = agree n.bit (omega arith) in
    let deeper : n.bit < depth t (child n (w n.bit)) = ok.deeper i n (w n.bit) is in
    has-at t ok i n w is
    ∙ below (w n.bit) w u (λ b far. agree b (omega arith))
    ∙ ap (λ v. has t (child n v) u) here
    ∙ sym (has-at t ok i n u is))
    r live

with_bit-here : (w : Word) (b : ℕ) (v : Bool) → with_bit w b v b ≡ v
with_bit-here w b v = let e : eqb b b ≡ true = eq-eqb b b refl in rw e refl

with_bit-other : (w : Word) (b c : ℕ) (v : Bool) → c ≢ b → with_bit w b v c ≡ w c
with_bit-other w b c v ne = let e : eqb c b ≡ false = ne_eqb c b ne in rw e refl

-- setting a bit above a ref changes nothing
pub has-above : (t : Table) → IsReduced t → (r : Ref) → IsLive t r → (a : ℕ) → a < depth t r → (w : Word) (v : Bool) → has t r (with_bit w a v) ≡ has t r w
has-above t ok r live a above w v =
    has-agree t ok r live (with_bit w a v) w (λ b far. with_bit-other w a b v (omega arith))

-- a child's words are those of the node with the node's bit set
pub has-child : (t : Table) → IsReduced t → (i : NodeId) (n : Triple) → t i ≡ Some n → (w : Word) (v : Bool) → has t (Node i) (with_bit w n.bit v) ≡ has t (child n v) w
has-child t ok i n is w v =
    has-at t ok i n (with_bit w n.bit v) is
    ∙ ap (λ x. has t (child n x) (with_bit w n.bit v)) (with_bit-here w n.bit v)
    ∙ has-above t ok (child n v) (ok.live i n v is) n.bit (ok.deeper i n v is) w v

-- a node with the words of a ref that does not ask its bit has two children with the same words
flat : (t : Table) → IsReduced t → (i : NodeId) (n : Triple) → t i ≡ Some n → (s : Ref) → IsLive t s → n.bit < depth t s
    → ((w : Word) → has t (Node i) w ≡ has t s w) → (w : Word) → has t n.lo w ≡ has t n.hi w
flat t ok i n is s live above same w =
    sym (has-child t ok i n is w false)
    ∙ same (with_bit w n.bit false)
    ∙ has-above t ok s live n.bit above w false
    ∙ sym (has-above t ok s live n.bit above w true)
    ∙ sym (same (with_bit w n.bit true))
    ∙ has-child t ok i n is w true

-- children with the same words on either side, of two nodes with the same words that ask one bit
alike : (t : Table) → IsReduced t → (i j : NodeId) (n m : Triple) → t i ≡ Some n → t j ≡ Some m → n.bit ≡ m.bit
    → ((w : Word) → has t (Node i) w ≡ has t (Node j) w) → (v : Bool) (w : Word) → has t (child n v) w ≡ has t (child m v) w
alike t ok i j n m is is' bits same v w =
    sym (has-child t ok i n is w v)
    ∙ same (with_bit w n.bit v)
    ∙ ap (λ b. has t (Node j) (with_bit w b v)) bits
    ∙ has-child t ok j m is' w v

same_triple : (n m : Triple) → n.bit ≡ m.bit → n.lo ≡ m.lo → n.hi ≡ m.hi → n ≡ m
same_triple n m b l h = λ i. record { bit = b i; lo = l i; hi = h i }

abbrev Canonical : Table → ℕ → Type 0
Canonical t k = (r s : Ref) → IsLive t r → IsLive t s → bit_end ≤ k + depth t r → bit_end ≤ k + depth t s
    → ((w : Word) → has t r w ≡ has t s w) → r ≡ s

-- no node has the words of a ref that does not ask its bit
not_flat : (t : Table) → IsReduced t → (k : ℕ) → Canonical t k → (i : NodeId) (n : Triple) → t i ≡ Some n → bit_end ≤ suc k + n.bit
    → (s : Ref) → IsLive t s → n.bit < depth t s → ((w : Word) → has t (Node i) w ≡ has t s w) → ⊥
not_flat t ok k below i n is far s live above same =
    let lower : n.bit < depth t n.lo = ok.deeper i n false is in
    let higher : n.bit < depth t n.hi = ok.deeper i n true is in
    ok.differ i n is (below n.lo n.hi (ok.live i n false is) (ok.live i n true is) (omega arith) (omega arith)
    (flat t ok i n is s live above same))

two_nodes : (t : Table) → IsReduced t → (k : ℕ) → Canonical t k → (i j : NodeId) (n m : Triple) → t i ≡ Some n → t j ≡ Some m
    → bit_end ≤ suc k + n.bit → bit_end ≤ suc k + m.bit → ((w : Word) → has t (Node i) w ≡ has t (Node j) w) → i ≡ j
two_nodes t ok k below i j n m is is' far far' same =
    let at : depth t (Node i) ≡ n.bit = depth-at t i n is in
    let at' : depth t (Node j) ≡ m.bit = depth-at t j m is' in
    elim (cases_order n.bit m.bit) [
      | inl bits ↦
          let child_same : (v : Bool) → child n v ≡ child m v = λ v.
          let deeper : n.bit < depth t (child n v) = ok.deeper i n v is in
          let deeper' : m.bit < depth t (child m v) = ok.deeper j m v is' in
          below (child n v) (child m v) (ok.live i n v is) (ok.live j m v is') (omega arith) (omega arith)
          (alike t ok i j n m is is' bits same v) in
          ok.once i j n is (is' ∙ ap Some (sym (same_triple n m bits (child_same false) (child_same true))))
      | inr other ↦ elim other [
        | inl less ↦ absurd (not_flat t ok k below i n is far (Node j) (live_from t j m is') (omega arith) same)
        | inr more ↦ absurd (not_flat t ok k below j m is' far' (Node i) (live_from t i n is) (omega arith) (λ w. sym (same w)))
      ]
    ]

-- a node has the words of neither Zero nor One
node_apart : (t : Table) → IsReduced t → (k : ℕ) → Canonical t k → (i : NodeId) → IsLive t (Node i) → bit_end ≤ suc k + depth t (Node i)
    → (s : Ref) → IsLive t s → depth t s ≡ bit_end → ((w : Word) → has t (Node i) w ≡ has t s w) → ⊥
node_apart t ok k below i live far s live' ends same =
    let found = live_triple t i live in
    let at : depth t (Node i) ≡ found.0.bit = depth-at t i found.0 found.1 in
    let small : found.0.bit < bit_end = ok.small i found.0 found.1 in
    not_flat t ok k below i found.0 found.1 (omega arith) s live' (omega arith) same

no_steps : (t : Table) → IsReduced t → (i : NodeId) → IsLive t (Node i) → bit_end ≤ 0 + depth t (Node i) → ⊥
no_steps t ok i live far =
    let found = live_triple t i live in
    let at : depth t (Node i) ≡ found.0.bit = depth-at t i found.0 found.1 in
    let small : found.0.bit < bit_end = ok.small i found.0 found.1 in
    omega arith

canonical_below : (t : Table) → IsReduced t → (k : ℕ) → Canonical t k
canonical_below t ok k Zero Zero live live' far far' same = refl
canonical_below t ok k One One live live' far far' same = refl
canonical_below t ok k Zero One live live' far far' same =
    absurd (false≢true (sym (has-zero t (λ _. false)) ∙ same (λ _. false) ∙ has-one t (λ _. false)))
canonical_below t ok k One Zero live live' far far' same =
    absurd (false≢true (sym (has-zero t (λ _. false)) ∙ sym (same (λ _. false)) ∙ has-one t (λ _. false)))
canonical_below t ok zero (Node i) s live live' far far' same = absurd (no_steps t ok i live far)
canonical_below t ok zero Zero (Node j) live live' far far' same = absurd (no_steps t ok j live' far')
canonical_below t ok zero One (Node j) live live' far far' same = absurd (no_steps t ok j live' far')
canonical_below t ok (suc k) (Node i) Zero live live' far far' same =
    absurd (node_apart t ok k (canonical_below t ok k) i live far Zero live' (depth-zero t) same)
canonical_below t ok (suc k) (Node i) One live live' far far' same =
    absurd (node_apart t ok k (canonical_below t ok k) i live far One live' (depth-one t) same)
canonical_below t ok (suc k) Zero (Node j) live live' far far' same =
    absurd (node_apart t ok k (canonical_below t ok k) j live' far' Zero live (depth-zero t) (λ w. sym (same w)))
canonical_below t ok (suc k) One (Node j) live live' far far' same =
    absurd (node_apart t ok k (canonical_below t ok k) j live' far' One live (depth-one t) (λ w. sym (same w)))
canonical_below t ok (suc k) (Node i) (Node j) live live' far far' same =
    let found = live_triple t i live in
    let found' = live_triple t j live' in
    let at : depth t (Node i) ≡ found.0.bit = depth-at t i found.0 found.1 in
    let at' : depth t (Node j) ≡ found'.0.bit = depth-at t j found'.0 found'.1 in
    ap Node (two_nodes t ok k (canonical_below t ok k) i j found.0 found'.0 found.1 found'.1 (omega arith) (omega arith) same)

pub canonical : (t : Table) → IsReduced t → (r s : Ref) → IsLive t r → IsLive t s → ((w : Word) → has t r w ≡ has t s w) → r ≡ s
canonical t ok r s live live' same = canonical_below t ok bit_end r s live live' (omega arith) (omega arith) same
