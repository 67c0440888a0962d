-- Terms added up.
use Rattle.std.proofs.Common.{◌≡◌, ◌↔◌, ℕ, zero, suc, ◌+◌, ◌*◌, ◌<◌, ◌≤◌, ◌^◌, ℤ, pos, ◌+ℤ◌, ◌*ℤ◌, unsigned_abs, List, [], ◌∷◌, map, length, drop, get_or, FitsSigned, w64, negsuc, All, Contains, Some, refl, ap, sym, ◌∙◌, subst, arith, drop-cons}
use Rattle.std.specs.Prelude.{slice_get}
use Rattle.std.specs.Option.{option_map_or}
use Rattle.std.proofs.lemmas.List.{length-map, get_or-map}
use borrow.Author.Differences.{up, down}
use Rattle.std.proofs.lemmas.Int.{ints}
use Rattle.std.proofs.lemmas.Nat.{mul-le}
use Rattle.std.proofs.lemmas.Option.{slice_get-get_or}
use Rattle.std.proofs.lemmas.List.Elements.{All-from_get_or, All-map}
use Rattle.diagram_arena.specs.Table.{Word}
use Rattle.set_meaning.specs.declared.kinds.Kind.{Kind}
use Rattle.set_meaning.specs.declared.kinds.Value.{Value}
use Rattle.set_meaning.specs.declared.problems.VarId.{VarId}
use Rattle.bit_layout.specs.Order.{LayoutState, IsLayout, width_at}
use Rattle.bit_layout.proofs.Rising.{in_head, in_tail}
use Rattle.scope_words.specs.Words.{bits_at, Gives}
use Rattle.scope_words.proofs.Bits.{length-bits_at, bits_at-at}
use Rattle.linear_machine.specs.declared.comparison.Comparison.{Comparison}
use Rattle.linear_machine.specs.Sums.{Compares}
use Rattle.linear_terms.specs.declared.terms.LinearTerm.{LinearTerm}
use Rattle.linear_terms.specs.Terms.{HasBitsOf, linear_sum, number_at}
use Rattle.linear_terms.specs.Weights.{weigh, weigh_at, weighed_sum, least_at, least_number, least_sum_of}
use Rattle.linear_terms.proofs.Counting.{HaveOffsets, variable_counts}

pub terms_from : (terms : List LinearTerm) (i : ℕ) (d : LinearTerm) → i < length terms → drop i terms ≡ get_or terms i d ∷ drop (i + 1) terms
terms_from terms i d within =
    let e : suc i ≡ i + 1 = omega arith in
    drop-cons terms i d within ∙ ap (λ k. get_or terms i d ∷ drop k terms) e

-- one term more is added
pub weighed_turn : (l : LayoutState) (terms rest : List LinearTerm) (t : LinearTerm) (w : Word) (before after whole : ℤ) → terms ≡ t ∷ rest → after ≡ before +ℤ weighed_sum l (t ∷ []) w
    → (before +ℤ weighed_sum l terms w) ≡ whole → (after +ℤ weighed_sum l rest w) ≡ whole
weighed_turn l terms rest t w before after whole split more so_far =
    let e : weighed_sum l terms w ≡ (t.coefficient *ℤ pos (weigh_at l t.variable w)) +ℤ weighed_sum l rest w = ap (λ ts. weighed_sum l ts w) split in
    omega (arith, ints)

pub weighed_one : (l : LayoutState) (t : LinearTerm) (k : Kind) (w : Word) (before after : ℤ) → slice_get l.kinds t.variable.0 ≡ Some k
    → after ≡ before +ℤ (t.coefficient *ℤ pos (weigh k (bits_at l t.variable) w)) → after ≡ before +ℤ weighed_sum l (t ∷ []) w
weighed_one l t k w before after e is =
    let same : weigh_at l t.variable w ≡ weigh k (bits_at l t.variable) w = ap (λ o. option_map_or (λ j. weigh j (bits_at l t.variable) w) o 0) e in
    let times : t.coefficient *ℤ pos (weigh_at l t.variable w) ≡ t.coefficient *ℤ pos (weigh k (bits_at l t.variable) w) = ap (λ n. t.coefficient *ℤ pos n) same in
    omega (arith, ints)

pub least_turn : (kinds : List Kind) (terms rest : List LinearTerm) (t : LinearTerm) (before product whole : ℤ) → terms ≡ t ∷ rest → product ≡ t.coefficient *ℤ least_at kinds t.variable
    → (before +ℤ least_sum_of kinds terms) ≡ whole → ((before +ℤ product) +ℤ least_sum_of kinds rest) ≡ whole
least_turn kinds terms rest t before product whole split is so_far =
    let e : least_sum_of kinds terms ≡ (t.coefficient *ℤ least_at kinds t.variable) +ℤ least_sum_of kinds rest = ap (least_sum_of kinds) split in
    omega (arith, ints)

pub own_listed : (l : LayoutState) (bits : List ℕ) (v : VarId) → HasBitsOf l bits v → All (Contains bits) (bits_at l v)
own_listed l bits v has =
    let long = length-bits_at l v in
    All-from_get_or (Contains bits) (bits_at l v) 0 (λ i within.
    let here : i < width_at l v = omega (arith, long, within) in
    subst (Contains bits) (sym (bits_at-at l v i 0 here)) (has i here))

-- ---- the sum of a word's values

times_sum : (c a b : ℤ) → c *ℤ (a +ℤ b) ≡ (c *ℤ a) +ℤ (c *ℤ b)
times_sum c a b =
    let e : up (a +ℤ b) + (down a + down b) ≡ down (a +ℤ b) + (up a + up b) = omega (arith, ints) in
    let f = ap (λ n. up c * n) e in
    let g = ap (λ n. down c * n) e in
    omega (arith, ints, f, g)

pub sum_is : HaveOffsets → (l : LayoutState) (values : List Value) (terms : List LinearTerm) (w : Word) → IsLayout l → Gives l (map (λ t. t.variable) terms) values w
    → linear_sum terms values ≡ least_sum_of l.kinds terms +ℤ weighed_sum l terms w
sum_is offsets l values [] w ok gives = omega (arith, ints)
sum_is offsets l values (t ∷ ts) w ok gives =
    let rest = sum_is offsets l values ts w ok (λ v h. gives v (in_tail t.variable (map (λ u. u.variable) ts) v h)) in
    let one : number_at values t.variable ≡ least_at l.kinds t.variable +ℤ pos (weigh_at l t.variable w) = variable_counts offsets l values t.variable w ok (gives t.variable (in_head t.variable (map (λ u. u.variable) ts))) in
    let times : t.coefficient *ℤ number_at values t.variable ≡ (t.coefficient *ℤ least_at l.kinds t.variable) +ℤ (t.coefficient *ℤ pos (weigh_at l t.variable w))
    = ap (λ x. t.coefficient *ℤ x) one ∙ times_sum t.coefficient (least_at l.kinds t.variable) (pos (weigh_at l t.variable w)) in
    omega (arith, ints)

pub compares_sum : HaveOffsets → (l : LayoutState) (values : List Value) (terms : List LinearTerm) (w : Word) (comparison : Comparison) (constant base weights : ℤ) (accepted : Type 0) → IsLayout l
    → Gives l (map (λ t. t.variable) terms) values w → base ≡ constant +ℤ least_sum_of l.kinds terms → weights ≡ weighed_sum l terms w
    → accepted ↔ Compares comparison (base +ℤ weights) → accepted ↔ Compares comparison (constant +ℤ linear_sum terms values)
compares_sum offsets l values terms w comparison constant base weights accepted ok gives base_is weights_is law =
    let is = sum_is offsets l values terms w ok gives in
    let e : base +ℤ weights ≡ constant +ℤ linear_sum terms values = omega (arith, ints) in
    subst (λ x. accepted ↔ Compares comparison x) e law

pub kind_here : (l : LayoutState) (kinds : List Kind) (v : ℕ) (k : Kind) → l.kinds ≡ kinds → v < length kinds → k ≡ get_or kinds v k → slice_get l.kinds v ≡ Some k
kind_here l kinds v k same within is = ap (λ ks. slice_get ks v) same ∙ slice_get-get_or kinds v k within ∙ ap Some (sym is)

pub least_here : (kinds : List Kind) (v : ℕ) (k : Kind) → v < length kinds → k ≡ get_or kinds v k → option_map_or least_number (slice_get kinds v) (pos 0) ≡ least_number k
least_here kinds v k within is = ap (λ o. option_map_or least_number o (pos 0)) (slice_get-get_or kinds v k within ∙ ap Some (sym is))

pub own_long : (l : LayoutState) (v : VarId) (own : List ℕ) → own ≡ bits_at l v → length own ≡ width_at l v
own_long l v own is = ap length is ∙ length-bits_at l v

pub weighed_none : (l : LayoutState) (terms : List LinearTerm) (i : ℕ) (w : Word) → length terms ≤ i → weighed_sum l (drop i terms) w ≡ pos 0
weighed_none l [] zero w all = refl
weighed_none l [] (suc i) w all = refl
weighed_none l (t ∷ ts) zero w all = absurd (omega (arith, all))
weighed_none l (t ∷ ts) (suc i) w all = weighed_none l ts i w (omega (arith, all))

pub least_none : (kinds : List Kind) (terms : List LinearTerm) (i : ℕ) → length terms ≤ i → least_sum_of kinds (drop i terms) ≡ pos 0
least_none kinds [] zero all = refl
least_none kinds [] (suc i) all = refl
least_none kinds (t ∷ ts) zero all = absurd (omega (arith, all))
least_none kinds (t ∷ ts) (suc i) all = least_none kinds ts i (omega (arith, all))

-- the size of a term where all bits are false
pub product_small : (c x : ℤ) (size : ℕ) → size ≡ unsigned_abs c * unsigned_abs x → unsigned_abs c ≤ 1000000000 → unsigned_abs x ≤ 2 ^ 63 → size ≤ 2 ^ 93
product_small c x size is cs xs = let m = mul-le (unsigned_abs c) (unsigned_abs x) 1000000000 (2 ^ 63) cs xs in omega (arith, is, m)

pub word_size : (z : ℤ) → FitsSigned w64 z → unsigned_abs z ≤ 2 ^ 63
word_size (pos n) fits = let h = fits.sfits in omega arith
word_size (negsuc n) fits = let h = fits.sfits in omega arith
