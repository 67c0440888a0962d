-- The nodes that a ref reaches are the residuals of its words: each is what some prefix leaves, at the place of its bit; two
-- nodes leave different rests; and a prefix after which the next bit matters leaves a node.
use Rattle.std.proofs.Common.{◌≡◌, ◌≢◌, ℕ, ◌+◌, ◌<◌, Bool, true, false, eqb, zero, suc, List, [], ◌∷◌, ◌++◌, length, drop, get_or, Some, refl, sym, ◌∙◌, ap, subst, inl, inr, arith, append_assoc, length-append}
use Rattle.std.specs.List.{AllByRecursion, IsDistinct}
use Rattle.std.proofs.lemmas.Bool.{cases_eq, eq-eqb, false≢true, or_left, or_right}
use Rattle.std.proofs.lemmas.List.{drop_more, get_or_default}
use Rattle.std.proofs.lemmas.Map.Keys.{apart_from_distinct}
use Rattle.diagram_arena.specs.declared.nodes.NodeId.{NodeId}
use Rattle.diagram_arena.specs.declared.nodes.Ref.{Ref}
use Rattle.diagram_arena.specs.declared.nodes.Ref.TheVariants.{Zero, One, Node}
use Rattle.diagram_arena.specs.declared.nodes.Triple.{Triple}
use Rattle.diagram_arena.specs.Table.{Table, child, has, IsLive, id_eq}
use Rattle.diagram_arena.specs.Reach.{follow}
use Rattle.diagram_arena.specs.Reach.{among}
use Rattle.diagram_view.specs.Words.{word_over, words_over}
use Rattle.diagram_view.proofs.Over.{list_words}
use Rattle.diagram_view.specs.Residuals.{RestsDiffer, NextMatters, AreAlike, AreApart, IsResidualCount}
use Rattle.diagram_view.specs.Steps.{Laws, side}
use Rattle.diagram_view.proofs.Over.{after, Rises, IsOver}
use Rattle.diagram_view.specs.Visits.{was_seen, IsSeen, Visits}
use Rattle.diagram_view.proofs.Stepping.{live_triple, follow-zero, follow-one, step-at, same_triple_at, side-there, side-below, over_side, over_after, has-after, over_nothing}
use Rattle.diagram_view.proofs.Tell.{told_apart}
use Rattle.diagram_view.proofs.Passing.{drop_length, words-turn}
use Rattle.diagram_view.proofs.Visiting.{after_seen, place_of}

-- p leaves the node i, which asks the next bit
record IsPrefix (t : Table) (f : Ref) (bits : List ℕ) (i : NodeId) (p : List Bool) : Type 0 where
  node : Triple
  is : t i ≡ Some node
  at : after t f bits p ≡ Node i
  rest : List ℕ
  next : drop (length p) bits ≡ node.bit ∷ rest

record HasPrefix (t : Table) (f : Ref) (bits : List ℕ) (i : NodeId) : Type 0 where
  prefix : List Bool
  leaves : IsPrefix t f bits i prefix

same_node : (i j : NodeId) → Node i ≡ Node j → i ≡ j
same_node i j e = cc

-- one value more in front
longer : (t : Table) (r : Ref) (b : ℕ) (bs : List ℕ) (v : Bool) (i : NodeId) → HasPrefix t (side t r b v) bs i → HasPrefix t r (b ∷ bs) i
longer t r b bs v i h = record {
  prefix = v ∷ h.prefix;
  leaves = record { node = h.leaves.node; is = h.leaves.is; at = h.leaves.at; rest = h.leaves.rest; next = h.leaves.next };
}

-- what is reached by a path is left by a prefix
prefix_of_path : (t : Table) → Laws t → (bits : List ℕ) (r : Ref) (path : List Bool) (i : NodeId) → IsOver t r bits → follow t r path ≡ Node i → HasPrefix t r bits i
prefix_of_path t ok bits Zero path i over at = let no : Zero ≡ Node i = sym (follow-zero t path) ∙ at in absurd (cc)
prefix_of_path t ok bits One path i over at = let no : One ≡ Node i = sym (follow-one t path) ∙ at in absurd (cc)
prefix_of_path t ok [] (Node j) path i over at =
    elim (over_nothing t (Node j) over) [
      | inl e ↦ let no : Node j ≡ Zero = e in absurd (cc)
      | inr e ↦ let no : Node j ≡ One = e in absurd (cc)
    ]
prefix_of_path t ok (b ∷ bs) (Node j) [] i over at =
    let found = live_triple t j over.live in
    let m : Triple = found.0 in
    let is : t j ≡ Some m = found.1 in
    elim (cases_eq m.bit b) [
      | inl same ↦ record {
        prefix = [];
        leaves = record { node = m; is = ap t (sym (same_node j i at)) ∙ is; at = at; rest = bs; next = ap (λ c. c ∷ bs) (sym same) };
      }
      | inr other ↦ longer t (Node j) b bs false i (prefix_of_path t ok bs (side t (Node j) b false) [] i (over_side t ok (Node j) b bs false over)
          (side-below t j m b false is other ∙ at))
    ]
prefix_of_path t ok (b ∷ bs) (Node j) (v ∷ vs) i over at =
    let found = live_triple t j over.live in
    let m : Triple = found.0 in
    let is : t j ≡ Some m = found.1 in
    elim (cases_eq m.bit b) [
      | inl same ↦ longer t (Node j) b bs v i (prefix_of_path t ok bs (side t (Node j) b v) vs i (over_side t ok (Node j) b bs v over)
          (ap (λ r. follow t r vs) (side-there t j m b v is same ∙ sym (step-at t j m v is)) ∙ at))
      | inr other ↦ longer t (Node j) b bs false i (prefix_of_path t ok bs (side t (Node j) b false) (v ∷ vs) i (over_side t ok (Node j) b bs false over)
          (ap (λ r. follow t r (v ∷ vs)) (side-below t j m b false is other) ∙ at))
    ]

-- ---- the next bit matters where a node is left

-- one value behind a prefix, and what follows
turn : (t : Table) → Laws t → (bits : List ℕ) (f : Ref) (p : List Bool) (b : ℕ) (bs : List ℕ) → IsOver t f bits → drop (length p) bits ≡ b ∷ bs
    → (v : Bool) (q : List Bool) → list_words t f bits ((p ++ v ∷ []) ++ q) ≡ list_words t (side t (after t f bits p) b v) bs q
turn t ok bits f p b bs over at v q = ap (list_words t f bits) (append_assoc p (v ∷ []) q) ∙ words-turn t ok bits f p b bs over at v q

turn_long : (bits : List ℕ) (p : List Bool) (b : ℕ) (bs : List ℕ) → drop (length p) bits ≡ b ∷ bs → (v : Bool) (q : List Bool) → length q ≡ length bs → length ((p ++ v ∷ []) ++ q) ≡ length bits
turn_long bits p b bs at v q long =
    let far = drop_length bits (length p) b bs at in
    let sum = ap length (append_assoc p (v ∷ []) q) ∙ length-append p (v ∷ q) in
    omega (arith, far, sum, long)

matters : (t : Table) → Laws t → (f : Ref) (bits : List ℕ) → IsOver t f bits → (i : NodeId) (p : List Bool) → IsPrefix t f bits i p → NextMatters (words_over t f bits) p
matters t ok f bits over i p left =
    let n : Triple = left.node in
    let down : IsOver t (after t f bits p) (n.bit ∷ left.rest) = subst (IsOver t (after t f bits p)) left.next (over_after t ok bits f p over) in
    let to : (v : Bool) → side t (after t f bits p) n.bit v ≡ child n v = λ v. ap (λ r. side t r n.bit v) left.at ∙ side-there t i n n.bit v left.is refl in
    let d = told_apart t ok left.rest (side t (after t f bits p) n.bit false) (side t (after t f bits p) n.bit true)
    (over_side t ok (after t f bits p) n.bit left.rest false down) (over_side t ok (after t f bits p) n.bit left.rest true down)
    (λ e. ok.reduced.differ i n left.is (sym (to false) ∙ e ∙ to true)) in record {
      end = d.word;
      long = turn_long bits p n.bit left.rest left.next false d.word d.long;
      differ = λ e. d.differ (sym (turn t ok bits f p n.bit left.rest over left.next false d.word) ∙ e ∙ turn t ok bits f p n.bit left.rest over left.next true d.word);
    }

-- a ref with two sides asks the bit
asks : (t : Table) (r : Ref) (b : ℕ) → IsLive t r → side t r b false ≢ side t r b true → (i : NodeId) × (n : Triple) × (r ≡ Node i) × (t i ≡ Some n) × (n.bit ≡ b)
asks t Zero b live ne = absurd (ne refl)
asks t One b live ne = absurd (ne refl)
asks t (Node i) b live ne =
    let found = live_triple t i live in
    let n : Triple = found.0 in
    let is : t i ≡ Some n = found.1 in
    elim (cases_eq n.bit b) [
      | inl same ↦ (i, n, refl, is, same)
      | inr other ↦ absurd (ne (side-below t i n b false is other ∙ sym (side-below t i n b true is other)))
    ]

-- a prefix after which the next bit matters leaves a node that asks it
leaves_node : (t : Table) → Laws t → (f : Ref) (bits : List ℕ) → IsOver t f bits → (p : List Bool) → NextMatters (words_over t f bits) p → (i : NodeId) × IsPrefix t f bits i p
leaves_node t ok f bits over p d =
    let sum = ap length (append_assoc p (false ∷ []) d.end) ∙ length-append p (false ∷ d.end) in
    let long = d.long in
    let at : drop (length p) bits ≡ get_or bits (length p) 0 ∷ drop (length p + 1) bits = drop_more bits (length p) 0 (omega (arith, sum, long)) in
    let b : ℕ = get_or bits (length p) 0 in
    let bs : List ℕ = drop (length p + 1) bits in
    let r : Ref = after t f bits p in
    let a = asks t r b (over_after t ok bits f p over).live (λ e.
    d.differ (turn t ok bits f p b bs over at false d.end ∙ ap (λ s. list_words t s bs d.end) e ∙ sym (turn t ok bits f p b bs over at true d.end))) in
    (a.0, record { node = a.1; is = a.3; at = a.2; rest = bs; next = at ∙ ap (λ c. c ∷ bs) (sym a.4) })

-- ---- which prefixes have the same pair

-- a rising list has a bit at one place
among_drop : (xs : List ℕ) (k b : ℕ) (bs : List ℕ) → drop k xs ≡ b ∷ bs → among xs b ≡ true
among_drop [] zero b bs at = let no : [] ≡ b ∷ bs = at in absurd (cc)
among_drop [] (suc k) b bs at = let no : [] ≡ b ∷ bs = at in absurd (cc)
among_drop (x ∷ xs) zero b bs at = let e : x ≡ b = (cc) in or_left (eqb b x) (among xs b) (eq-eqb b x (sym e))
among_drop (x ∷ xs) (suc k) b bs at = or_right (eqb b x) (among xs b) (among_drop xs k b bs at)

once : (bits : List ℕ) → Rises bits → (k l b : ℕ) (bs cs : List ℕ) → drop k bits ≡ b ∷ bs → drop l bits ≡ b ∷ cs → k ≡ l
once [] up zero l b bs cs at at' = let no : [] ≡ b ∷ bs = at in absurd (cc)
once [] up (suc k) l b bs cs at at' = let no : [] ≡ b ∷ bs = at in absurd (cc)
once (x ∷ xs) up zero zero b bs cs at at' = refl
once (x ∷ xs) up zero (suc l) b bs cs at at' = let e : x ≡ b = (cc) in let far = up.0 b (among_drop xs l b cs at') in absurd (omega (arith, e, far))
once (x ∷ xs) up (suc k) zero b bs cs at at' = let e : x ≡ b = (cc) in let far = up.0 b (among_drop xs k b bs at) in absurd (omega (arith, e, far))
once (x ∷ xs) up (suc k) (suc l) b bs cs at at' = ap suc (once xs up.1 k l b bs cs at at')

-- prefixes that leave one node are alike
alike : (t : Table) → Laws t → (f : Ref) (bits : List ℕ) → IsOver t f bits → (i : NodeId) (p q : List Bool) → IsPrefix t f bits i p → IsPrefix t f bits i q → AreAlike (words_over t f bits) p q
alike t ok f bits over i p q left left' =
    let same : left.node ≡ left'.node = same_triple_at t i i left.node left'.node left.is left'.is refl in
    let next' : drop (length q) bits ≡ left.node.bit ∷ left'.rest = left'.next ∙ ap (λ (x : Triple). x.bit ∷ left'.rest) (sym same) in
    let lengths : length p ≡ length q = once bits over.rises (length p) (length q) left.node.bit left.rest left'.rest left.next next' in
    let far = drop_length bits (length p) left.node.bit left.rest left.next in
    let far' = drop_length bits (length q) left.node.bit left'.rest next' in record {
      lengths = lengths;
      rests = λ end long.
          has-after t ok bits f p end over (omega (arith, far))
          ∙ ap (λ r. has t r (word_over (drop (length p) bits) end)) (left.at ∙ sym left'.at)
          ∙ ap (λ k. has t (after t f bits q) (word_over (drop k bits) end)) lengths
          ∙ sym (has-after t ok bits f q end over (omega (arith, far')));
    }

-- prefixes that leave two nodes are apart
apart : (t : Table) → Laws t → (f : Ref) (bits : List ℕ) → IsOver t f bits → (i j : NodeId) (p q : List Bool) → i ≢ j → IsPrefix t f bits i p → IsPrefix t f bits j q → AreApart (words_over t f bits) p q
apart t ok f bits over i j p q ne left left' =
    elim (cases_eq (length p) (length q)) [
      | inr other ↦ inl other
      | inl same ↦ inr (ends t ok f bits over i j p q ne left left' same)
    ]
  where
    ends : (t : Table) → Laws t → (f : Ref) (bits : List ℕ) → IsOver t f bits → (i j : NodeId) (p q : List Bool) → i ≢ j → IsPrefix t f bits i p → IsPrefix t f bits j q → length p ≡ length q
        → RestsDiffer (words_over t f bits) p q
    ends t ok f bits over i j p q ne left left' same =
        let bs : List ℕ = drop (length p) bits in
        let far = drop_length bits (length p) left.node.bit left.rest left.next in
        let one = over_after t ok bits f p over in
        let two = subst (λ k. IsOver t (after t f bits q) (drop k bits)) (sym same) (over_after t ok bits f q over) in
        let d = told_apart t ok bs (after t f bits p) (after t f bits q) one two (λ e. ne (same_node i j (sym left.at ∙ e ∙ left'.at))) in
        let here = has-after t ok bits f p d.word over (omega (arith, far)) in
        let there = has-after t ok bits f q d.word over (omega (arith, far, same)) ∙ ap (λ k. has t (after t f bits q) (word_over (drop k bits) d.word)) (sym same) in
        let sum = length-append p d.word in
        let long = d.long in
        let rest = ap length left.next in record {
          end = d.word;
          long = omega (arith, far, sum, long, rest);
          differ = λ e. d.differ (sym here ∙ e ∙ there);
        }

-- ---- the list of prefixes

all_have : (t : Table) (f : Ref) (bits : List ℕ) (ids : List NodeId) → ((i : NodeId) → was_seen ids i ≡ true → HasPrefix t f bits i) → AllByRecursion (HasPrefix t f bits) ids
all_have t f bits [] find = tt
all_have t f bits (i ∷ is) find = (
  find i (or_left (id_eq i i) (was_seen is i) (eq-eqb i.0 i.0 refl)),
  all_have t f bits is (λ j on. find j (or_right (id_eq j i) (was_seen is j) on)),
)

prefixes_of : (t : Table) (f : Ref) (bits : List ℕ) (ids : List NodeId) → AllByRecursion (HasPrefix t f bits) ids → List (List Bool)
prefixes_of t f bits [] have = []
prefixes_of t f bits (i ∷ is) have = have.0.prefix ∷ prefixes_of t f bits is have.1

prefixes-length : (t : Table) (f : Ref) (bits : List ℕ) (ids : List NodeId) (have : AllByRecursion (HasPrefix t f bits) ids) → length (prefixes_of t f bits ids have) ≡ length ids
unfolding prefixes_of
prefixes-length t f bits [] have = refl
prefixes-length t f bits (i ∷ is) have = ap suc (prefixes-length t f bits is have.1)

prefix_at : (t : Table) (f : Ref) (bits : List ℕ) (ids : List NodeId) (have : AllByRecursion (HasPrefix t f bits) ids) (k : ℕ) (d : List Bool) (e : NodeId) → k < length ids
    → IsPrefix t f bits (get_or ids k e) (get_or (prefixes_of t f bits ids have) k d)
unfolding prefixes_of
prefix_at t f bits [] have k d e lt = absurd (omega arith)
prefix_at t f bits (i ∷ is) have zero d e lt = have.0.leaves
prefix_at t f bits (i ∷ is) have (suc k) d e lt = prefix_at t f bits is have.1 k d e (omega arith)

no_id : NodeId
no_id = record { 0 = 0 }

pub residual_count : (t : Table) → Laws t → (f : Ref) (bits : List ℕ) → IsOver t f bits → (ids : List NodeId) → Visits t f [] ids → IsDistinct id_eq ids
    → IsResidualCount (words_over t f bits) (length ids)
residual_count t ok f bits over ids visited distinct =
    let have = all_have t f bits ids (λ i on. elim (visited.reached i on) [
      | inl old ↦ absurd (cc)
      | inr new ↦ prefix_of_path t ok bits f new.0 i over new.1
    ]) in
    let ps : List (List Bool) = prefixes_of t f bits ids have in
    let number = prefixes-length t f bits ids have in record {
      prefixes = ps;
      number = number;
      matter = λ k d lt. matters t ok f bits over (get_or ids k no_id) (get_or ps k d) (prefix_at t f bits ids have k d no_id (omega (arith, number, lt)));
      apart = λ i j d lt within.
          let differ = apart_from_distinct id_eq ids i j no_id distinct lt (omega (arith, number, within)) in
          apart t ok f bits over (get_or ids i no_id) (get_or ids j no_id) (get_or ps i d) (get_or ps j d)
          (λ e. false≢true (sym differ ∙ ap (λ x. id_eq (get_or ids i no_id) x) (sym e) ∙ eq-eqb (get_or ids i no_id).0 (get_or ids i no_id).0 refl))
          (prefix_at t f bits ids have i d no_id (omega (arith, number, lt, within))) (prefix_at t f bits ids have j d no_id (omega (arith, number, within)));
      complete = λ p d.
          let left = leaves_node t ok f bits over p d in
          let seen : was_seen ids left.0 ≡ true = subst (IsSeen ids) left.1.at (after_seen t ids visited.closed bits f p visited.here) in
          let k = place_of ids left.0 no_id seen in
          let lt = k.1 in
          let within : k.0 < length ps = omega (arith, number, lt) in (
            k.0,
            get_or ps k.0 [],
            within,
            get_or_default ps k.0 (get_or ps k.0 []) [] within,
            alike t ok f bits over left.0 p (get_or ps k.0 []) left.1 (subst (λ j. IsPrefix t f bits j (get_or ps k.0 [])) k.2 (prefix_at t f bits ids have k.0 [] no_id k.1)),
          );
    }
