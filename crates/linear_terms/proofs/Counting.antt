-- What a value counts, and what the bits of its word count.
use Rattle.std.proofs.Common.{◌≡◌, ◌⊎◌, ℕ, suc, ◌+◌, ◌<◌, ◌≤◌, ◌^◌, Bool, true, false, cond, ℤ, pos, ◌+ℤ◌, List, [], ◌∷◌, map, length, get_or, sum_by, count_by, filter, Contains, Option, Some, None, refl, ap, sym, ◌∙◌, subst, inl, inr, arith}
use Rattle.std.specs.Prelude.{slice_get, IsSomeAnd}
use Rattle.std.specs.Option.{option_map_or}
use Rattle.std.specs.Ordering.{int_cmp}
use Rattle.std.specs.Cmp.{int_cmp_total}
use Rattle.std.proofs.lemmas.Int.{ints}
use Rattle.std.proofs.lemmas.List.Sums.{sum_by-cons, length-filter, get_or-le-sum_by}
use Rattle.std.proofs.lemmas.List.Elements.{All-get_or}
use Rattle.std.proofs.lemmas.List.Kept.{IsStrictlySortedBy-filter}
use Rattle.std.proofs.lemmas.Option.{get_or_from_slice_get, slice_get_within}
use Rattle.std.proofs.Math.Nat.{pow-le-pow_right}
use Rattle.diagram_arena.specs.Table.{Word}
use Rattle.set_meaning.specs.declared.kinds.Kind.{Kind}
use Rattle.set_meaning.specs.declared.kinds.Kind.TheVariants as kind
use Rattle.set_meaning.specs.declared.kinds.Value.{Value}
use Rattle.set_meaning.specs.declared.kinds.Value.TheVariants as value
use Rattle.set_meaning.specs.declared.problems.VarId.{VarId}
use Rattle.set_meaning.specs.Kinds.{InKind}
use Rattle.set_meaning.specs.Problems.{IsKind}
use Rattle.set_meaning.specs.Sets.{Has, IsAscending, IsSubset}
use Rattle.bit_layout.specs.Words.{IsLeastWidth, bit_width, span, least, number, lists, width_of, word_of, IsValueOf}
use Rattle.bit_layout.specs.Limits.{IsNarrow, counted_bits}
use Rattle.bit_layout.specs.Order.{LayoutState, IsLayout, width_at, IsValueAt}
use Rattle.bit_layout.proofs.Elements.{lists_true, listed_is_in}
use Rattle.bit_layout.proofs.Rising.{nothing_in_empty, in_cons, in_head, in_tail, same_members}
use Rattle.scope_words.specs.Words.{bits_at, read}
use Rattle.linear_terms.specs.Terms.{number_of, number_at}
use Rattle.linear_terms.specs.Weights.{worth, weigh, least_number, weigh_at, least_at}

-- ---- a set has a true bit for each of its elements

kept_first : (p : ℤ → Bool) (x : ℤ) (xs : List ℤ) (z : ℤ) (v : Bool) → p x ≡ v → (Contains (filter p xs) z → Contains xs z × (p z ≡ true)) → Contains (cond v (x ∷ filter p xs) (filter p xs)) z → Contains (x ∷ xs) z × (p z ≡ true)
kept_first p x xs z true e later h =
    elim (in_cons x (filter p xs) z h) [
      | inl here ↦ let P : ℤ → Type 0 = λ y. Contains (x ∷ xs) y × (p y ≡ true) in subst P here (in_head x xs, e)
      | inr behind ↦ let r = later behind in (in_tail x xs z r.0, r.1)
    ]
kept_first p x xs z false e later h = let r = later h in (in_tail x xs z r.0, r.1)

kept_is_in : (p : ℤ → Bool) (xs : List ℤ) (z : ℤ) → Contains (filter p xs) z → Contains xs z × (p z ≡ true)
kept_is_in p [] z h = absurd (nothing_in_empty z h)
kept_is_in p (x ∷ xs) z h = kept_first p x xs z (p x) refl (kept_is_in p xs z) h

first_is_kept : (p : ℤ → Bool) (x : ℤ) (xs : List ℤ) (z : ℤ) (v : Bool) → p x ≡ v → p z ≡ true → (Contains xs z → Contains (filter p xs) z) → (x ≡ z) ⊎ Contains xs z → Contains (cond v (x ∷ filter p xs) (filter p xs)) z
first_is_kept p x xs z true e k later (inl here) = let P : ℤ → Type 0 = λ y. Contains (x ∷ filter p xs) y in subst P here (in_head x (filter p xs))
first_is_kept p x xs z true e k later (inr behind) = in_tail x (filter p xs) z (later behind)
first_is_kept p x xs z false e k later (inl here) = let c : false ≡ true = sym e ∙ ap p here ∙ k in cc
first_is_kept p x xs z false e k later (inr behind) = later behind

is_kept : (p : ℤ → Bool) (xs : List ℤ) (z : ℤ) → Contains xs z → p z ≡ true → Contains (filter p xs) z
is_kept p [] z h k = absurd (nothing_in_empty z h)
is_kept p (x ∷ xs) z h k = first_is_kept p x xs z (p x) refl k (λ later. is_kept p xs z later k) (in_cons x xs z h)

chosen_elements : (universe set : List ℤ) → IsAscending universe → IsAscending set → IsSubset set universe → filter (lists set) universe ≡ set
unfolding IsSubset Has
chosen_elements universe set up ascending within =
    same_members int_cmp int_cmp_total (filter (lists set) universe) set (IsStrictlySortedBy-filter int_cmp (lists set) universe up) ascending
    (λ z h. listed_is_in set z (kept_is_in (lists set) universe z h).1)
    (λ z h. is_kept (lists set) universe z (within z h) (lists_true set z h))

weigh-set : (universe : List ℤ) (f : ℤ → Bool) (elements : List ℤ) (own : List ℕ) (w : Word) → map f elements ≡ map w own → weigh (kind.Set universe) own w ≡ count_by f elements
weigh-set universe f [] [] w is = refl
weigh-set universe f [] (b ∷ bs) w is = cc
weigh-set universe f (x ∷ xs) [] w is = cc
weigh-set universe f (x ∷ xs) (b ∷ bs) w is =
    let first : f x ≡ w b = cc in
    let rest : map f xs ≡ map w bs = cc in
    let e = sum_by-cons (λ y. cond (f y) 1 0) x xs in
    ap (λ n. cond (w b) 1 0 + n) (weigh-set universe f xs bs w rest) ∙ ap (λ v. cond v 1 0 + count_by f xs) (sym first) ∙ sym e

-- ---- a number has its binary digits

length-map : (w : Word) (own : List ℕ) → length (map w own) ≡ length own
length-map w [] = refl
length-map w (b ∷ bs) = ap suc (length-map w bs)

weigh-int : (numbers : List ℤ) (own : List ℕ) (w : Word) → weigh (kind.Int numbers) own w ≡ number (map w own)
weigh-int numbers [] w = refl
weigh-int numbers (b ∷ bs) w = ap (λ n. cond (w b) (2 ^ length bs) 0 + n) (weigh-int numbers bs w) ∙ ap (λ n. cond (w b) (2 ^ n) 0 + number (map w bs)) (sym (length-map w bs))

weigh-bool : (b : Bool) (own : List ℕ) (w : Word) → b ∷ [] ≡ map w own → cond b (pos 1) (pos 0) ≡ pos 0 +ℤ pos (weigh kind.Bool own w)
weigh-bool b [] w is = cc
weigh-bool b (x ∷ y ∷ ys) w is = cc
weigh-bool b (x ∷ []) w is =
    let e : b ≡ w x = cc in
    ap (λ v. cond v (pos 1) (pos 0)) e ∙ either (w x)
  where
    either : (v : Bool) → cond v (pos 1) (pos 0) ≡ pos 0 +ℤ pos (cond v (2 ^ 0) 0 + 0)
    either true = refl
    either false = refl

-- ---- a value counts as its word does

-- the law of bit_layout on the words of integers
abbrev pub HaveOffsets : Type 0
HaveOffsets = (numbers : List ℤ) (x : ℤ) → IsAscending numbers → Has numbers x → (least numbers +ℤ pos (number (word_of (kind.Int numbers) (value.Int x)))) ≡ x

kind_counts : HaveOffsets → (k : Kind) (own : List ℕ) (w : Word) (x : Value) → IsKind k → InKind k x → word_of k x ≡ map w own → number_of x ≡ least_number k +ℤ pos (weigh k own w)
unfolding InKind
kind_counts offsets kind.Bool own w (value.Bool b) legal inside is = weigh-bool b own w is
kind_counts offsets kind.Bool own w (value.Int x) legal inside is = absurd inside
kind_counts offsets kind.Bool own w (value.Set s) legal inside is = absurd inside
kind_counts offsets (kind.Int numbers) own w (value.Bool b) legal inside is = absurd inside
kind_counts offsets (kind.Int numbers) own w (value.Int x) legal inside is =
    sym (offsets numbers x legal.0 inside) ∙ ap (λ word. least numbers +ℤ pos (number word)) is ∙ ap (λ n. least numbers +ℤ pos n) (sym (weigh-int numbers own w))
kind_counts offsets (kind.Int numbers) own w (value.Set s) legal inside is = absurd inside
kind_counts offsets (kind.Set universe) own w (value.Bool b) legal inside is = absurd inside
kind_counts offsets (kind.Set universe) own w (value.Int x) legal inside is = absurd inside
kind_counts offsets (kind.Set universe) own w (value.Set s) legal inside is =
    let count : weigh (kind.Set universe) own w ≡ length s
    = weigh-set universe (lists s) universe own w is ∙ sym (length-filter (lists s) universe) ∙ ap length (chosen_elements universe s legal inside.ascending inside.within) in
    let zero_plus : (n : ℕ) → pos n ≡ pos 0 +ℤ pos n = λ n. omega (arith, ints) in
    ap pos (sym count) ∙ zero_plus (weigh (kind.Set universe) own w)

known_kind : (l : LayoutState) (v : ℕ) (k : Kind) → IsLayout l → slice_get l.kinds v ≡ Some k → IsKind k
known_kind l v k ok e =
    subst IsKind (get_or_from_slice_get l.kinds v k k e) (All-get_or IsKind l.kinds v k (slice_get_within l.kinds v k e) ok.limits.legal)

pub variable_counts : HaveOffsets → (l : LayoutState) (values : List Value) (v : VarId) (w : Word) → IsLayout l → IsSomeAnd (slice_get values v.0) (IsValueAt l v (read l v w))
    → number_at values v ≡ least_at l.kinds v +ℤ pos (weigh_at l v w)
variable_counts offsets l values v w ok given = by_value (slice_get values v.0) refl given
  where
    by_kind : (x : Value) (o : Option Kind) → slice_get l.kinds v.0 ≡ o → IsSomeAnd o (λ k. IsValueOf k (read l v w) x)
        → number_of x ≡ option_map_or least_number o (pos 0) +ℤ pos (option_map_or (λ k. weigh k (bits_at l v) w) o 0)
    by_kind x None e h = absurd h
    by_kind x (Some k) e h = kind_counts offsets k (bits_at l v) w x (known_kind l v.0 k ok e) h.in_kind h.is_word

    by_value : (o : Option Value) → slice_get values v.0 ≡ o → IsSomeAnd o (IsValueAt l v (read l v w)) → option_map_or number_of o (pos 0) ≡ least_at l.kinds v +ℤ pos (weigh_at l v w)
    by_value None e h = absurd h
    by_value (Some x) e h = by_kind x (slice_get l.kinds v.0) refl h

-- ---- how much a bit counts at most

-- the law of bit_layout on widths
abbrev pub HaveLeastWidths : Type 0
HaveLeastWidths = (n : ℕ) → IsLeastWidth n (bit_width n)

worth_small : HaveLeastWidths → (k : Kind) (behind : ℕ) → IsNarrow k → behind < width_of k → worth k behind ≤ 2 ^ 15
worth_small widths kind.Bool behind narrow within = let e : behind ≡ 0 = omega (arith, within) in let P : ℕ → Type 0 = λ n. 2 ^ n ≤ 2 ^ 15 in subst P (sym e) (omega arith)
worth_small widths (kind.Int numbers) behind narrow within =
    let least = (widths (span numbers)).least 16 (omega (arith, narrow)) in
    pow-le-pow_right {n = 2} (omega arith) {i = behind} {j = 15} (omega (arith, within, least))
worth_small widths (kind.Set universe) behind narrow within = omega arith

pub worth_at : HaveLeastWidths → (l : LayoutState) (v : VarId) (k : Kind) (behind : ℕ) → IsLayout l → slice_get l.kinds v.0 ≡ Some k → behind < width_at l v → worth k behind ≤ 2 ^ 15
worth_at widths l v k behind ok e within =
    let width : width_at l v ≡ width_of k = ap (λ o. option_map_or width_of o 0) e in
    let narrow : IsNarrow k = subst IsNarrow (get_or_from_slice_get l.kinds v.0 k k e) (All-get_or IsNarrow l.kinds v.0 k (slice_get_within l.kinds v.0 k e) ok.limits.narrow) in
    worth_small widths k behind narrow (let P : ℕ → Type 0 = λ n. behind < n in subst P width within)

pub width_small : (l : LayoutState) (v : VarId) (k : Kind) → IsLayout l → slice_get l.kinds v.0 ≡ Some k → width_at l v ≤ 1048576
width_small l v k ok e =
    let width : width_at l v ≡ width_of k = ap (λ o. option_map_or width_of o 0) e in
    let one = get_or-le-sum_by counted_bits l.kinds v.0 k (slice_get_within l.kinds v.0 k e) in
    let here : get_or l.kinds v.0 k ≡ k = get_or_from_slice_get l.kinds v.0 k k e in
    let most : counted_bits k ≤ sum_by counted_bits l.kinds = let P : Kind → Type 0 = λ j. counted_bits j ≤ sum_by counted_bits l.kinds in subst P here one in
    let all = ok.limits.bits in
    let counted : width_of k ≤ counted_bits k = omega arith in
    omega (arith, width, most, all, counted)
