-- In a reduced table a ref reaches only the bits that its set depends on, and its set depends only on the bits
-- that it reaches. A part depends only on what the whole depends on.
use Rattle.std.proofs.Common.{◌≡◌, ℕ, Bool, true, false, cond, ltb, eqb, List, [], ◌∷◌, Some, refl, sym, ◌∙◌, ap, subst, inl, inr}
use Rattle.std.specs.Option.{option_map_or}
use Rattle.std.proofs.lemmas.Bool.{cases_Bool, cases_eq, ne_eqb}
use Rattle.diagram_arena.specs.declared.nodes.NodeId.{NodeId}
use Rattle.diagram_arena.specs.declared.nodes.Ref.{Ref}
use Rattle.diagram_arena.specs.declared.nodes.Ref.TheVariants.{Zero, One, Node}
use Rattle.diagram_arena.specs.declared.nodes.Triple.{Triple}
use Rattle.diagram_arena.specs.Table.{Word, Words, Table, child, has, IsLive, IsReduced}
use Rattle.diagram_arena.specs.Part.{with_bit, with_front, IsPartOf}
use Rattle.diagram_arena.specs.Reach.{Bits, step, follow, ReachesOnly, DependsOn}
use Rattle.diagram_arena.proofs.Meaning.{has-zero, has-one, has-at, induct}
use Rattle.diagram_arena.proofs.Canonical.{has-child, canonical}

follow-zero : (t : Table) (path : List Bool) → follow t Zero path ≡ Zero
follow-zero t [] = refl
follow-zero t (v ∷ vs) = follow-zero t vs

follow-one : (t : Table) (path : List Bool) → follow t One path ≡ One
follow-one t [] = refl
follow-one t (v ∷ vs) = follow-one t vs

step-at : (t : Table) (i : NodeId) (n : Triple) (v : Bool) → t i ≡ Some n → step t (Node i) v ≡ child n v
step-at t i n v is = ap (λ o. option_map_or (λ (m : Triple). child m v) o (Node i)) is

-- a node reaches its own bit, and what its children reach
reaches_node : (t : Table) (bits : Bits) (i : NodeId) (n : Triple) → t i ≡ Some n → bits n.bit ≡ true → ((v : Bool) → ReachesOnly t bits (child n v)) → ReachesOnly t bits (Node i)
reaches_node t bits i n is here below [] j m at is' =
    let same : i ≡ j = cc in
    let same' : Some n ≡ Some m = sym is ∙ ap t same ∙ is' in
    let e : n ≡ m = (cc) in
    subst (λ (x : Triple). bits x.bit ≡ true) e here
reaches_node t bits i n is here below (v ∷ vs) j m at is' =
    below v vs j m (ap (λ r. follow t r vs) (sym (step-at t i n v is)) ∙ at) is'

-- and a child reaches only what its node reaches
child_reaches : (t : Table) (bits : Bits) (i : NodeId) (n : Triple) → t i ≡ Some n → ReachesOnly t bits (Node i) → (v : Bool) → ReachesOnly t bits (child n v)
child_reaches t bits i n is only v path j m at is' = only (v ∷ path) j m (ap (λ r. follow t r path) (step-at t i n v is) ∙ at) is'

pub depends_only : (t : Table) → IsReduced t → (bits : Bits) (r : Ref) → IsLive t r → ReachesOnly t bits r → DependsOn bits (has t r)
depends_only t ok bits r live =
    induct t ok (λ s. ReachesOnly t bits s → DependsOn bits (has t s))
    (λ only w u agree. has-zero t w ∙ sym (has-zero t u))
    (λ only w u agree. has-one t w ∙ sym (has-one t u))
    (λ i n is below only w u agree.
    let here : w n.bit ≡ u n.bit = agree n.bit (only [] i n refl is) in
    has-at t ok i n w is
    ∙ below (w n.bit) (child_reaches t bits i n is only (w n.bit)) w u agree
    ∙ ap (λ v. has t (child n v) u) here
    ∙ sym (has-at t ok i n u is))
    r live

-- two words that differ in one bit outside a set agree on the set
with_bit-outside : (bits : Bits) (w : Word) (a : ℕ) (v x : Bool) → bits a ≡ false → (b : ℕ) → bits b ≡ true → with_bit w a v b ≡ with_bit w a x b
with_bit-outside bits w a v x out b on =
    elim (cases_eq b a) [
      | inl e ↦ let no : bits b ≡ false = ap bits e ∙ out in absurd (cc)
      | inr ne ↦ let off : eqb b a ≡ false = ne_eqb b a ne in rw off refl
    ]

child_depends : (t : Table) → IsReduced t → (bits : Bits) (i : NodeId) (n : Triple) → t i ≡ Some n → DependsOn bits (has t (Node i)) → (v : Bool) → DependsOn bits (has t (child n v))
child_depends t ok bits i n is depends v w u agree =
    sym (has-child t ok i n is w v)
    ∙ depends (with_bit w n.bit v) (with_bit u n.bit v) (λ b on. ap (cond (eqb b n.bit) v) (agree b on))
    ∙ has-child t ok i n is u v

asks_inside : (t : Table) → IsReduced t → (bits : Bits) (i : NodeId) (n : Triple) → t i ≡ Some n → DependsOn bits (has t (Node i)) → bits n.bit ≡ true
asks_inside t ok bits i n is depends =
    elim (cases_Bool (bits n.bit)) [
      | inl on ↦ on
      | inr out ↦ absurd (ok.differ i n is (canonical t ok n.lo n.hi (ok.live i n false is) (ok.live i n true is) (λ w.
          sym (has-child t ok i n is w false)
          ∙ depends (with_bit w n.bit false) (with_bit w n.bit true) (with_bit-outside bits w n.bit false true out)
          ∙ has-child t ok i n is w true)))
    ]

pub reaches_only : (t : Table) → IsReduced t → (bits : Bits) (r : Ref) → IsLive t r → DependsOn bits (has t r) → ReachesOnly t bits r
reaches_only t ok bits r live =
    induct t ok (λ s. DependsOn bits (has t s) → ReachesOnly t bits s)
    (λ depends path i n at is. let no : Zero ≡ Node i = sym (follow-zero t path) ∙ at in absurd (cc))
    (λ depends path i n at is. let no : One ≡ Node i = sym (follow-one t path) ∙ at in absurd (cc))
    (λ i n is below depends. reaches_node t bits i n is (asks_inside t ok bits i n is depends)
    (λ v. below v (child_depends t ok bits i n is depends v)))
    r live

pub part_depends : (bits : Bits) (V W : Words) → IsPartOf V W → DependsOn bits W → DependsOn bits V
part_depends bits V W part depends w u agree =
    part.same w ∙ depends (with_front part.from part.front w) (with_front part.from part.front u) (λ b on. ap (cond (ltb b part.from) (part.front b)) (agree b on))
    ∙ sym (part.same u)
