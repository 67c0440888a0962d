-- One step down a diagram, and many.
use Rattle.std.proofs.Common.{◌≡◌, ◌≢◌, ℕ, ◌<◌, ◌≤◌, Bool, true, false, cond, eqb, List, [], ◌∷◌, ◌++◌, length, drop, Option, Some, None, ◌⊎◌, refl, sym, ◌∙◌, ap, subst, inl, inr, arith}
use Rattle.std.specs.Prelude.{IsSome}
use Rattle.std.specs.Option.{option_map_or}
use Rattle.std.proofs.lemmas.Bool.{cases_eq, eq-eqb, ne_eqb, cond-true, cond-false}
use Rattle.diagram_arena.specs.declared.nodes.NodeId.{NodeId}
use Rattle.diagram_arena.specs.declared.nodes.Ref.{Ref}
use Rattle.diagram_arena.specs.declared.nodes.Ref.TheVariants.{Zero, One, Node}
use Rattle.diagram_arena.specs.declared.nodes.Triple.{Triple}
use Rattle.diagram_arena.specs.Table.{Word, Table, child, has, IsLive, depth}
use Rattle.diagram_arena.specs.Part.{with_bit}
use Rattle.diagram_arena.specs.Reach.{step, follow, ReachesOnly}
use Rattle.diagram_arena.specs.Arena.{Stands}
use Rattle.diagram_arena.specs.Reach.{among}
use Rattle.diagram_view.specs.Words.{word_over}
use Rattle.diagram_view.specs.Steps.{Laws, side}
use Rattle.diagram_view.proofs.Over.{after, IsOver}
use Rattle.std.specs.List.Sorted.{IsStrictlyIncreasing}
use Rattle.diagram_view.proofs.Bits.{among_rest, rises_from, with_bit-here, with_bit-other}

pub live_triple : (t : Table) (i : NodeId) → IsLive t (Node i) → (n : Triple) × (t i ≡ Some n)
live_triple t i h =
    elim (t i) as (λ o. t i ≡ o → IsSome o → (n : Triple) × (t i ≡ Some n)) [
      | None ↦ λ e s. cc
      | Some n ↦ λ e s. (n, e)
    ] refl h

-- ---- paths

pub follow-zero : (t : Table) (path : List Bool) → follow t Zero path ≡ Zero
follow-zero t [] = refl
follow-zero t (v ∷ vs) = follow-zero t vs

pub follow-one : (t : Table) (path : List Bool) → follow t One path ≡ One
follow-one t [] = refl
follow-one t (v ∷ vs) = follow-one t vs

pub step-at : (t : Table) (i : NodeId) (n : Triple) (v : Bool) → t i ≡ Some n → step t (Node i) v ≡ child n v
step-at t i n v is = ap (λ o. option_map_or (λ (m : Triple). child m v) o (Node i)) is

pub same_triple_at : (t : Table) (i j : NodeId) (n m : Triple) → t i ≡ Some n → t j ≡ Some m → Node i ≡ Node j → n ≡ m
same_triple_at t i j n m is is' e =
    let same : i ≡ j = cc in
    let same' : Some n ≡ Some m = sym is ∙ ap t same ∙ is' in
    cc

-- a ref reaches no bit before its own
reaches_deep : (t : Table) → Laws t → (r : Ref) → IsLive t r → (path : List Bool) (j : NodeId) (m : Triple) → follow t r path ≡ Node j → t j ≡ Some m → depth t r ≤ m.bit
reaches_deep t ok Zero live path j m at is = let no : Zero ≡ Node j = sym (follow-zero t path) ∙ at in absurd (cc)
reaches_deep t ok One live path j m at is = let no : One ≡ Node j = sym (follow-one t path) ∙ at in absurd (cc)
reaches_deep t ok (Node i) live [] j m at is =
    let found = live_triple t i live in
    let level = (ok.stands i found.0 found.1).level in
    let same : found.0 ≡ m = same_triple_at t i j found.0 m found.1 is at in
    let bits : found.0.bit ≡ m.bit = ap (λ (x : Triple). x.bit) same in
    omega (arith, level, bits)
reaches_deep t ok (Node i) live (v ∷ vs) j m at is =
    let found = live_triple t i live in
    let n : Triple = found.0 in
    let is' : t i ≡ Some n = found.1 in
    let stands : Stands t i n = ok.stands i n is' in
    let level = stands.level in
    let deeper = stands.deeper v in
    let below = reaches_deep t ok (child n v) (stands.live v) vs j m (ap (λ r. follow t r vs) (sym (step-at t i n v is')) ∙ at) is in
    omega (arith, level, deeper, below)

-- a ref below the first bit reaches only the others
narrows : (t : Table) → Laws t → (r : Ref) (b : ℕ) (bs : List ℕ) → IsLive t r → b < depth t r → ReachesOnly t (among (b ∷ bs)) r → ReachesOnly t (among bs) r
narrows t ok r b bs live below only path j m at is =
    let deep = reaches_deep t ok r live path j m at is in
    among_rest b bs m.bit (only path j m at is) (λ e. omega (arith, deep, below, e))

-- ---- one step

pub side-is : (t : Table) (i : NodeId) (n : Triple) (b : ℕ) (v : Bool) → t i ≡ Some n → side t (Node i) b v ≡ cond (eqb n.bit b) (child n v) (Node i)
side-is t i n b v is = ap (λ o. elim o as (λ (x : Option Triple). Ref) [ None ↦ Node i | Some m ↦ cond (eqb m.bit b) (child m v) (Node i) ]) is

pub side-there : (t : Table) (i : NodeId) (n : Triple) (b : ℕ) (v : Bool) → t i ≡ Some n → n.bit ≡ b → side t (Node i) b v ≡ child n v
side-there t i n b v is e = side-is t i n b v is ∙ cond-true (eqb n.bit b) (child n v) (Node i) (eq-eqb n.bit b e)

pub side-below : (t : Table) (i : NodeId) (n : Triple) (b : ℕ) (v : Bool) → t i ≡ Some n → n.bit ≢ b → side t (Node i) b v ≡ Node i
side-below t i n b v is ne = side-is t i n b v is ∙ cond-false (eqb n.bit b) (child n v) (Node i) (ne_eqb n.bit b ne)

-- what a step leaves: what is left is over the other bits, and its words are those of the ref with the value
record IsStep (t : Table) (r : Ref) (b : ℕ) (bs : List ℕ) (v : Bool) (s : Ref) : Type 0 where
  over : IsOver t s bs
  words : (w : Word) → w b ≡ v → has t r w ≡ has t s w

step_there : (t : Table) → Laws t → (i : NodeId) (n : Triple) (b : ℕ) (bs : List ℕ) (v : Bool) → t i ≡ Some n → n.bit ≡ b → IsOver t (Node i) (b ∷ bs) → IsStep t (Node i) b bs v (child n v)
step_there t ok i n b bs v is e over =
    let stands : Stands t i n = ok.stands i n is in
    let deeper : b < depth t (child n v) = subst (λ c. c < depth t (child n v)) e (stands.deeper v) in record {
      over = record {
        live = stands.live v;
        rises = over.rises.1;
        reaches = narrows t ok (child n v) b bs (stands.live v) deeper (λ path j m at is'.
            over.reaches (v ∷ path) j m (ap (λ r. follow t r path) (step-at t i n v is) ∙ at) is');
      };
      words = λ w on. stands.words w ∙ ap (λ x. has t (child n x) w) (ap w e ∙ on);
    }

step_below : (t : Table) → Laws t → (i : NodeId) (n : Triple) (b : ℕ) (bs : List ℕ) (v : Bool) → t i ≡ Some n → n.bit ≢ b → IsOver t (Node i) (b ∷ bs) → IsStep t (Node i) b bs v (Node i)
step_below t ok i n b bs v is ne over =
    let stands : Stands t i n = ok.stands i n is in
    let level = stands.level in
    let far : b < n.bit = over.rises.0 n.bit (among_rest b bs n.bit (over.reaches [] i n refl is) ne) in record {
      over = record { live = over.live; rises = over.rises.1; reaches = narrows t ok (Node i) b bs over.live (omega (arith, level, far)) over.reaches };
      words = λ w on. refl;
    }

step_any : (t : Table) → Laws t → (r : Ref) (b : ℕ) (bs : List ℕ) (v : Bool) → IsOver t r (b ∷ bs) → IsStep t r b bs v (side t r b v)
step_any t ok Zero b bs v over = record {
  over = record { live = tt; rises = over.rises.1; reaches = λ path i n at is. let no : Zero ≡ Node i = sym (follow-zero t path) ∙ at in absurd (cc) };
  words = λ w on. refl;
}
step_any t ok One b bs v over = record {
  over = record { live = tt; rises = over.rises.1; reaches = λ path i n at is. let no : One ≡ Node i = sym (follow-one t path) ∙ at in absurd (cc) };
  words = λ w on. refl;
}
step_any t ok (Node i) b bs v over =
    let found = live_triple t i over.live in
    let n : Triple = found.0 in
    let is : t i ≡ Some n = found.1 in
    elim (cases_eq n.bit b) [
      | inl e ↦ subst (IsStep t (Node i) b bs v) (sym (side-there t i n b v is e)) (step_there t ok i n b bs v is e over)
      | inr ne ↦ subst (IsStep t (Node i) b bs v) (sym (side-below t i n b v is ne)) (step_below t ok i n b bs v is ne over)
    ]

pub over_side : (t : Table) → Laws t → (r : Ref) (b : ℕ) (bs : List ℕ) (v : Bool) → IsOver t r (b ∷ bs) → IsOver t (side t r b v) bs
over_side t ok r b bs v over = (step_any t ok r b bs v over).over

-- words that agree on the bits of a list are both words of a ref over it, or neither
pub agree_over : (t : Table) → Laws t → (r : Ref) (bs : List ℕ) → IsOver t r bs → (w u : Word) → ((c : ℕ) → among bs c ≡ true → w c ≡ u c) → has t r w ≡ has t r u
agree_over t ok r bs over = (ok.reach r over.live (among bs)).0 over.reaches

pub has-side : (t : Table) → Laws t → (r : Ref) (b : ℕ) (bs : List ℕ) (v : Bool) (vs : List Bool) → IsOver t r (b ∷ bs)
    → has t r (word_over (b ∷ bs) (v ∷ vs)) ≡ has t (side t r b v) (word_over bs vs)
has-side t ok r b bs v vs over =
    let one = step_any t ok r b bs v over in
    let w : Word = word_over bs vs in
    one.words (with_bit w b v) (with_bit-here w b v)
    ∙ agree_over t ok (side t r b v) bs one.over (with_bit w b v) w (λ c on. with_bit-other w b c v (λ e. let far = over.rises.0 c on in omega (arith, far, e)))

-- ---- many steps

pub over_after : (t : Table) → Laws t → (bs : List ℕ) (r : Ref) (p : List Bool) → IsOver t r bs → IsOver t (after t r bs p) (drop (length p) bs)
over_after t ok [] r [] over = over
over_after t ok [] r (v ∷ vs) over = over
over_after t ok (b ∷ bs) r [] over = over
over_after t ok (b ∷ bs) r (v ∷ vs) over = over_after t ok bs (side t r b v) vs (over_side t ok r b bs v over)

pub has-after : (t : Table) → Laws t → (bs : List ℕ) (r : Ref) (p q : List Bool) → IsOver t r bs → length p ≤ length bs
    → has t r (word_over bs (p ++ q)) ≡ has t (after t r bs p) (word_over (drop (length p) bs) q)
has-after t ok [] r [] q over short = refl
has-after t ok [] r (v ∷ vs) q over short = absurd (omega arith)
has-after t ok (b ∷ bs) r [] q over short = refl
has-after t ok (b ∷ bs) r (v ∷ vs) q over short =
    has-side t ok r b bs v (vs ++ q) over ∙ has-after t ok bs (side t r b v) vs q (over_side t ok r b bs v over) (omega arith)

-- one step more
pub after-push : (t : Table) (bs : List ℕ) (r : Ref) (p : List Bool) (b : ℕ) (rest : List ℕ) (v : Bool) → drop (length p) bs ≡ b ∷ rest
    → after t r bs (p ++ v ∷ []) ≡ side t (after t r bs p) b v
after-push t [] r [] b rest v at = cc
after-push t [] r (x ∷ xs) b rest v at = cc
after-push t (c ∷ cs) r [] b rest v at = let e : c ≡ b = (cc) in let f : (d : ℕ) → after t (side t r d v) cs [] ≡ side t r d v = λ d. after-nil t cs (side t r d v) in f c ∙ ap (λ d. side t r d v) e
  where
    after-nil : (u : Table) (ds : List ℕ) (s : Ref) → after u s ds [] ≡ s
    after-nil u [] s = refl
    after-nil u (d ∷ ds) s = refl
after-push t (c ∷ cs) r (x ∷ xs) b rest v at = after-push t cs (side t r c x) xs b rest v at

-- at the end of the bits a ref is Zero or One
pub over_nothing : (t : Table) (r : Ref) → IsOver t r [] → (r ≡ Zero) ⊎ (r ≡ One)
over_nothing t Zero over = inl refl
over_nothing t One over = inr refl
over_nothing t (Node i) over =
    let found = live_triple t i over.live in
    let no : false ≡ true = over.reaches [] i found.0 refl found.1 in absurd (cc)

pub over_from : (t : Table) (r : Ref) (bs : List ℕ) → IsLive t r → IsStrictlyIncreasing bs → ReachesOnly t (among bs) r → IsOver t r bs
over_from t r bs live up only = record { live = live; rises = rises_from bs up; reaches = only }
