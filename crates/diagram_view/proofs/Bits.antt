-- Rising lists of bits, and the words that lists of values spell over them.
use Rattle.std.proofs.Common.{◌≡◌, ◌≢◌, ℕ, ◌+◌, ◌<◌, ◌≤◌, Bool, true, false, eqb, zero, suc, List, [], ◌∷◌, length, map, refl, sym, ◌∙◌, subst, inl, inr, arith, get_or}
use Rattle.std.specs.List.Sorted.{IsStrictlyIncreasing}
use Rattle.std.proofs.lemmas.Bool.{cases_eq, eqb-true, eq-eqb, ne_eqb, or_cases, or_left, or_right}
use Rattle.diagram_arena.specs.Table.{Word}
use Rattle.diagram_arena.specs.Part.{with_bit}
use Rattle.diagram_arena.specs.Reach.{among}
use Rattle.diagram_view.specs.Words.{word_over}
use Rattle.diagram_view.proofs.Over.{Rises}

among_head : (b : ℕ) (bs : List ℕ) → among (b ∷ bs) b ≡ true
among_head b bs = or_left (eqb b b) (among bs b) (eq-eqb b b refl)

pub among_tail : (b : ℕ) (bs : List ℕ) (c : ℕ) → among bs c ≡ true → among (b ∷ bs) c ≡ true
among_tail b bs c on = or_right (eqb c b) (among bs c) on

-- a bit of the list that is not its first is among the others
pub among_rest : (b : ℕ) (bs : List ℕ) (c : ℕ) → among (b ∷ bs) c ≡ true → c ≢ b → among bs c ≡ true
among_rest b bs c on ne = elim (or_cases (eqb c b) (among bs c) on) [ inl e ↦ absurd (ne (eqb-true c b e)) | inr later ↦ later ]

increasing_tail : (b : ℕ) (bs : List ℕ) → IsStrictlyIncreasing (b ∷ bs) → IsStrictlyIncreasing bs
increasing_tail b bs up k within =
    let e : suc k + 1 ≡ suc (k + 1) = omega arith in
    subst (λ n. get_or bs k 0 < get_or (b ∷ bs) n 0) e (up (suc k) (omega arith))

above_first : (b : ℕ) (bs : List ℕ) → IsStrictlyIncreasing (b ∷ bs) → (c : ℕ) → among bs c ≡ true → b < c
above_first b [] up c on = absurd (cc)
above_first b (x ∷ xs) up c on =
    let first : b < x = up 0 (omega arith) in
    elim (or_cases (eqb c x) (among xs c) on) [
      | inl e ↦ let same : c ≡ x = eqb-true c x e in omega arith
      | inr later ↦ let next : x < c = above_first x xs (increasing_tail b (x ∷ xs) up) c later in omega arith
    ]

pub rises_from : (bs : List ℕ) → IsStrictlyIncreasing bs → Rises bs
rises_from [] up = tt
rises_from (b ∷ bs) up = (above_first b bs up, rises_from bs (increasing_tail b bs up))

pub with_bit-here : (w : Word) (b : ℕ) (v : Bool) → with_bit w b v b ≡ v
with_bit-here w b v = let e : eqb b b ≡ true = eq-eqb b b refl in rw e refl

pub with_bit-other : (w : Word) (b c : ℕ) (v : Bool) → c ≢ b → with_bit w b v c ≡ w c
with_bit-other w b c v ne = let e : eqb c b ≡ false = ne_eqb c b ne in rw e refl

-- the values of a word at the bits spell a word that agrees with it there
pub spelled : (w : Word) (bs : List ℕ) (c : ℕ) → among bs c ≡ true → word_over bs (map w bs) c ≡ w c
spelled w [] c on = absurd (cc)
spelled w (b ∷ bs) c on =
    elim (cases_eq c b) [
      | inl e ↦ subst (λ x. with_bit (word_over bs (map w bs)) b (w b) x ≡ w x) (sym e) (with_bit-here (word_over bs (map w bs)) b (w b))
      | inr ne ↦ with_bit-other (word_over bs (map w bs)) b c (w b) ne ∙ spelled w bs c (among_rest b bs c on ne)
    ]

-- the k-th bit is at least k
pub place_below : (bs : List ℕ) → IsStrictlyIncreasing bs → (k : ℕ) → k < length bs → k ≤ get_or bs k 0
place_below bs up zero within = omega arith
place_below bs up (suc k) within =
    let before = place_below bs up k (omega arith) in
    let step : get_or bs k 0 < get_or bs (k + 1) 0 = up k (omega arith) in
    let e : suc k ≡ k + 1 = omega arith in
    let next : get_or bs k 0 < get_or bs (suc k) 0 = subst (λ n. get_or bs k 0 < get_or bs n 0) (sym e) step in
    omega (arith, before, next)
