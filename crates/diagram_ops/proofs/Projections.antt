-- Projection, over plain sets of words and over refs of one table.
use Rattle.std.proofs.Common.{◌≡◌, ◌≢◌, ℕ, ◌<◌, ◌≤◌, Bool, true, false, ◌&&◌, ◌||◌, cond, eqb, refl, sym, ◌∙◌, ap, inl, inr, ◌⊎◌, arith}
use Rattle.std.proofs.lemmas.Bool.{cases_Bool, cases_eq, ne_eqb}
use Rattle.std.proofs.lemmas.Bool.Decides.{nat_tests}
use Rattle.diagram_arena.specs.Table.{Word, Words}
use Rattle.diagram_arena.specs.Part.{with_bit, with_front, IsPartOf}
use Rattle.diagram_arena.specs.Reach.{Bits, DependsOn}
use Rattle.diagram_arena.proofs.Parts.{part_of_part}
use Rattle.diagram_ops.specs.Words.{joined, either, common, Agree, IsProjection, IsPartOfProjection}
use Rattle.diagram_ops.specs.Steps.{sides_joined}

-- a set that has every word is its own projection
pub full_projection : (bits : Bits) (V : Words) → ((w : Word) → V w ≡ true) → IsProjection bits V V
full_projection bits V all = record {
  sound = λ w is. (w, is, (λ b on. refl));
  whole = λ w u is agree. all w;
}

pub front-below : (i b : ℕ) (p w : Word) → b < i → with_front i p w b ≡ p b
front-below i b p w below = grind (arith, nat_tests)

pub front-above : (i b : ℕ) (p w : Word) → i ≤ b → with_front i p w b ≡ w b
front-above i b p w above = grind (arith, nat_tests)

-- both sides of a set at a bit: neither reads the bit
pub record AreSides (V : Words) (b : ℕ) (S : Bool → Words) : Type 0 where
  pub words : (w : Word) → V w ≡ S (w b) w
  pub free : (v x : Bool) (w : Word) → S v (with_bit w b x) ≡ S v w

kept_words : (b : ℕ) (P : Bool → Words) (w : Word) → joined b (P false) (P true) w ≡ P (w b) w
kept_words b P w = elim (w b) as (λ v. cond v (P true w) (P false w) ≡ P v w) [ true ↦ refl | false ↦ refl ]

-- the bit is kept: each side's projection on its side
kept_projection : (bits : Bits) (b : ℕ) → bits b ≡ true → (V : Words) (S P : Bool → Words) → AreSides V b S → ((v : Bool) → IsProjection bits (S v) (P v))
    → IsProjection bits V (joined b (P false) (P true))
kept_projection bits b on V S P sides each = record {
  sound = λ w is.
      let found = (each (w b)).sound w (sym (kept_words b P w) ∙ is) in
      let same : found.0 b ≡ w b = sym (found.2 b on) in
      (found.0, sides.words found.0 ∙ ap (λ v. S v found.0) same ∙ found.1, found.2);
  whole = λ w u is agree.
      let same : u b ≡ w b = sym (agree b on) in
      kept_words b P w ∙ (each (w b)).whole w u (ap (λ v. S v u) (sym same) ∙ sym (sides.words u) ∙ is) agree;
}

pub bit-here : (b : ℕ) (v : Bool) (w : Word) → with_bit w b v b ≡ v
bit-here b v w = grind (arith, nat_tests)

bit-other : (b c : ℕ) (v : Bool) (w : Word) → c ≢ b → with_bit w b v c ≡ w c
bit-other b c v w ne = let e : eqb c b ≡ false = ne_eqb c b ne in rw e refl

-- a word may be given either value of a bit that is not kept
pub free_agree : (bits : Bits) (b : ℕ) → bits b ≡ false → (w u : Word) (v : Bool) → Agree bits w u → Agree bits w (with_bit u b v)
free_agree bits b off w u v agree c on =
    elim (cases_eq c b) [
      | inl e ↦ let no : true ≡ false = sym on ∙ ap bits e ∙ off in absurd (cc)
      | inr ne ↦ agree c on ∙ sym (bit-other b c v u ne)
    ]

from_side : (bits : Bits) (b : ℕ) → bits b ≡ false → (V : Words) (S P : Bool → Words) → AreSides V b S → ((v : Bool) → IsProjection bits (S v) (P v))
    → (v : Bool) (w : Word) → P v w ≡ true → (u : Word) × (V u ≡ true) × Agree bits w u
from_side bits b off V S P sides each v w is =
    let found = (each v).sound w is in
    let u : Word = with_bit found.0 b v in
    (u, sides.words u ∙ ap (λ x. S x u) (bit-here b v found.0) ∙ sides.free v v found.0 ∙ found.1, free_agree bits b off w found.0 v found.2)

or_cases : (x y : Bool) → x || y ≡ true → (x ≡ true) ⊎ (y ≡ true)
or_cases true y e = inl refl
or_cases false y e = inr e

or_either : (P : Bool → Words) (w : Word) (v : Bool) → P v w ≡ true → either (P false) (P true) w ≡ true
or_either P w false is = ap (λ x. x || P true w) is
or_either P w true is = elim (P false w) as (λ x. x || P true w ≡ true) [ true ↦ refl | false ↦ is ]

-- the bit is not kept: the union of both sides' projections
union_projection : (bits : Bits) (b : ℕ) → bits b ≡ false → (V : Words) (S P : Bool → Words) → AreSides V b S → ((v : Bool) → IsProjection bits (S v) (P v))
    → IsProjection bits V (either (P false) (P true))
union_projection bits b off V S P sides each = record {
  sound = λ w is. elim (or_cases (P false w) (P true w) is) [
    | inl lo ↦ from_side bits b off V S P sides each false w lo
    | inr hi ↦ from_side bits b off V S P sides each true w hi
  ];
  whole = λ w u is agree. or_either P w (u b) ((each (u b)).whole w u (sym (sides.words u) ∙ is) agree);
}

pub same_projection : (bits : Bits) (U V P Q : Words) → ((w : Word) → V w ≡ U w) → ((w : Word) → Q w ≡ P w) → IsProjection bits U P → IsProjection bits V Q
same_projection bits U V P Q same same' is = record {
  sound = λ w on. let found = is.sound w (sym (same' w) ∙ on) in (found.0, same found.0 ∙ found.1, found.2);
  whole = λ w u on agree. same' w ∙ is.whole w u (sym (same u) ∙ on) agree;
}

pub sides_projection : (bits : Bits) (b : ℕ) (V : Words) (S P : Bool → Words) → AreSides V b S → ((v : Bool) → IsProjection bits (S v) (P v))
    → IsProjection bits V (sides_joined bits b (P false) (P true))
sides_projection bits b V S P sides each =
    elim (cases_Bool (bits b)) [
      | inl on ↦ same_projection bits V V _ _ (λ w. refl) (λ w. ap (λ k. cond k (joined b (P false) (P true) w) (either (P false) (P true) w)) on) (kept_projection bits b on V S P sides each)
      | inr off ↦ same_projection bits V V _ _ (λ w. refl) (λ w. ap (λ k. cond k (joined b (P false) (P true) w) (either (P false) (P true) w)) off) (union_projection bits b off V S P sides each)
    ]

pub projected_part : (bits : Bits) (U V W : Words) → IsPartOfProjection bits U V → IsPartOf V W → IsPartOfProjection bits U W
projected_part bits U V W is part = record {
  part = is.part;
  projection = is.projection;
  of_part = part_of_part _ _ _ is.of_part part;
  projects = is.projects;
  within = is.within;
}

-- a projection depends only on bits that are kept and that the set depends on
both_ways : (a b : Bool) → (a ≡ true → b ≡ true) → (b ≡ true → a ≡ true) → a ≡ b
both_ways true b there back = sym (there refl)
both_ways false true there back = back refl
both_ways false false there back = refl

-- u at the bits of a set, and x elsewhere
mixed : Bits → Word → Word → Word
mixed bits u x = λ b. cond (bits b) (u b) (x b)

mixed_agrees : (keep : Bits) (u x : Word) → Agree keep u (mixed keep u x)
unfolding mixed
mixed_agrees keep u x b on = sym (ap (λ k. cond k (u b) (x b)) on)

mixed_depends : (bits keep : Bits) (w u x : Word) → Agree (common bits keep) w u → Agree keep w x → (b : ℕ) → bits b ≡ true → mixed keep u x b ≡ x b
unfolding mixed
mixed_depends bits keep w u x agree found b on =
    elim (cases_Bool (keep b)) [
      | inl kept ↦
          let both : common bits keep b ≡ true = (λ i. on i && kept i) in
          ap (λ k. cond k (u b) (x b)) kept ∙ sym (agree b both) ∙ found b kept
      | inr off ↦ ap (λ k. cond k (u b) (x b)) off
    ]

one_way : (bits keep : Bits) (V P : Words) → DependsOn bits V → IsProjection keep V P → (w u : Word) → Agree (common bits keep) w u → P w ≡ true → P u ≡ true
one_way bits keep V P depends is w u agree on =
    let found = is.sound w on in
    let x : Word = found.0 in
    is.whole u (mixed keep u x) (depends (mixed keep u x) x (mixed_depends bits keep w u x agree found.2) ∙ found.1) (mixed_agrees keep u x)

pub projection_depends : (bits keep : Bits) (V P : Words) → DependsOn bits V → IsProjection keep V P → DependsOn (common bits keep) P
projection_depends bits keep V P depends is w u agree =
    both_ways (P w) (P u) (one_way bits keep V P depends is w u agree) (one_way bits keep V P depends is u w (λ b on. sym (agree b on)))
