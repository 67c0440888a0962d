-- What a step of the machine keeps: which endings are still listed.
use Rattle.std.proofs.Common.{◌≡◌, ℕ, zero, suc, ◌+◌, ◌-◌, ◌/◌, ◌^◌, ◌<◌, ◌≤◌, ◌==◌, ◌↔◌, Bool, true, false, not, cond, List, ◌∷◌, length, get_or, take, drop, Some, refl, sym, ap, ◌∙◌, subst, inl, inr, arith, Contains}
use Rattle.std.specs.Prelude.{slice_range, slice_get, ⊤}
use Rattle.std.specs.List.Sorted.{IsPartitionPoint}
use Rattle.std.specs.Option.{option_map_or}
use Rattle.std.proofs.lemmas.Bool.{cases_order, eqb-true, eqb-false, not-true, not-false}
use Rattle.std.proofs.lemmas.List.{take-take, drop-drop, drop-take, length-drop, length-take-le, drop_more}
use Rattle.std.proofs.lemmas.List.Elements.{All-get_or}
use Rattle.std.proofs.lemmas.List.Sums.{position_or_len_is, prefix_len-le-length}
use Rattle.std.proofs.lemmas.Map.Keys.{sorted_from_strictly_increasing, below_from_sorted}
use Rattle.std.proofs.lemmas.Option.{slice_get-get_or}
use Rattle.std.proofs.Math.Nat.{div-eq_of_lt-le}
use Rattle.bit_layout.specs.Words.{digit}
use Rattle.table_machine.specs.declared.states.State.{State}
use Rattle.table_machine.specs.declared.states.State.TheVariants.{Free, Lost, Within}
use Rattle.table_machine.specs.declared.states.Reading.{Reading}
use Rattle.table_machine.specs.declared.states.Reading.TheVariants.{Passed, First, Next}
use Rattle.table_machine.specs.Tables.{Tables, cut, narrowed, half, after, rules, IsTable, AreReadFrom, IsPart, Occurs, OccursAt, IsCut, CanRead}
use Rattle.table_machine.proofs.Numbers.{worth}
use Rattle.table_machine.proofs.Branches.{IsBranch, Ends, branch_count, branch_full, point, branch_parted, side, side_branch, side_ends}

-- which endings are listed, in a state
abbrev pub Allows : List ℕ → ℕ → State → ℕ → Type 0
Allows words left Free m = ⊤
Allows words left Lost m = ⊥
Allows words left (Within from to) m = Ends (slice_range words from to) left m

-- ---- parts of the list

pub length-part : (words : List ℕ) (from to : ℕ) → to ≤ length words → length (slice_range words from to) ≡ to - from
length-part words from to within =
    let rest : length (drop from words) ≡ length words - from = length-drop from words in
    length-take-le (to - from) (drop from words) (omega (arith, rest, within))

pub part_branch : (words : List ℕ) (left from to : ℕ) → IsPart words left from to → IsBranch left (slice_range words from to)
part_branch words left from to p =
    let xs : List ℕ = slice_range words from to in
    let long : length xs ≡ to - from = length-part words from to p.within in
    record {
      rises = λ i j less within. below_from_sorted xs i j 0 (sorted_from_strictly_increasing xs p.ascending) less within;
      alike = λ i j a b. p.alike i j (omega (arith, long, a)) (omega (arith, long, b));
    }

none_above : (r n : ℕ) → n < 2 ^ r → n / 2 ^ r ≡ 0
none_above r n small = div-eq_of_lt-le (2 ^ r) (omega arith) (omega (arith, small))

pub table_branch : (words : List ℕ) (from to width : ℕ) → IsTable words from to width → IsBranch width (slice_range words from to)
table_branch words from to width t =
    let xs : List ℕ = slice_range words from to in
    record {
      rises = λ i j less within. below_from_sorted xs i j 0 (sorted_from_strictly_increasing xs t.ascending) less within;
      alike = λ i j a b. none_above width (get_or xs i 0) (All-get_or (λ n. n < 2 ^ width) xs i 0 a t.below) ∙ sym (none_above width (get_or xs j 0) (All-get_or (λ n. n < 2 ^ width) xs j 0 b t.below));
    }

pub cut_from_branch : (words : List ℕ) (rest from to : ℕ) → from ≤ to → to ≤ length words → suc rest ≤ 64 → IsBranch (suc rest) (slice_range words from to) → IsCut words rest from to
cut_from_branch words rest from to up within narrow b = record { up = up; within = within; narrow = omega (arith, narrow); parted = branch_parted rest (slice_range words from to) b }

-- what a search by halves finds
pub cut_found : (words : List ℕ) (rest from to found : ℕ) → found ≤ length (slice_range words from to)
    → IsPartitionPoint (λ n. not (digit n rest) ≡ true) (λ n. not (digit n rest) ≡ false) (slice_range words from to) found → from + found ≡ cut words rest from to
cut_found words rest from to found bound point =
    let xs : List ℕ = slice_range words from to in
    ap (λ n. from + n) (sym (position_or_len_is (λ n. digit n rest) xs found 0 bound
    (λ k h. not-true (digit (get_or xs k 0) rest) (point.0 k 0 (omega arith) h))
    (λ h. not-false (digit (get_or xs found 0) rest) (point.1 found 0 (omega arith) h))))

pub point_within : (r : ℕ) (xs : List ℕ) → point r xs ≤ length xs
point_within r xs = prefix_len-le-length (λ n. not (digit n r)) xs

upper_part : (words : List ℕ) (from to k : ℕ) → k ≤ to - from → slice_range words (from + k) to ≡ drop k (slice_range words from to)
upper_part words from to k h =
    let e : k + (to - (from + k)) ≡ to - from = omega (arith, h) in
    ap (λ xs. take (to - (from + k)) xs) (sym (drop-drop k from words)) ∙ sym (drop-take k (to - (from + k)) (drop from words)) ∙ ap (λ n. drop k (take n (drop from words))) e

lower_part : (words : List ℕ) (from to k : ℕ) → k ≤ to - from → slice_range words from (from + k) ≡ take k (slice_range words from to)
lower_part words from to k h =
    let e : from + k - from ≡ k = omega arith in
    ap (λ n. take n (drop from words)) e ∙ sym (take-take k (to - from) (drop from words) h)

-- ---- a part that is left

pub record Fits (words : List ℕ) (left : ℕ) (q : State) (P : ℕ → Type 0) : Type 0 where
  pub occurs : Occurs words left q
  pub allows : (m : ℕ) → m < 2 ^ left → Allows words left q m ↔ P m

nothing_ends : (xs : List ℕ) (r m : ℕ) → length xs ≡ 0 → Ends xs r m → ⊥
nothing_ends xs r m none h = let within : h.0 ≡ h.0 = refl in let c : Contains xs h.0 = h.1 in let at : c.0 < length xs = c.1 in omega (arith, none, at)

positive : (n : ℕ) → (n ≡ 0 → ⊥) → 0 < n
positive zero some = absurd (some refl)
positive (suc n) some = omega arith

less_from : (a b : ℕ) → a ≤ b → (a ≡ b → ⊥) → a < b
less_from a b le other =
    elim (cases_order a b) [
      | inl same ↦ absurd (other same)
      | inr (inl less) ↦ less
      | inr (inr more) ↦ absurd (omega (arith, le, more))
    ]

some_left : (words : List ℕ) (rest from to : ℕ) (d : Bool) → to ≤ length words → rest ≤ 64 → IsBranch rest (slice_range words from to) → (to - from == 2 ^ rest) ≡ d → (to - from ≡ 0 → ⊥)
    → Fits words rest (cond d Free (Within from to)) (Ends (slice_range words from to) rest)
some_left words rest from to true within narrow b is some = record {
  occurs = tt;
  allows = λ m small. (λ _. branch_full rest (slice_range words from to) b (length-part words from to within ∙ eqb-true (to - from) (2 ^ rest) is) m small, λ _. tt);
}
some_left words rest from to false within narrow b is some =
    let xs : List ℕ = slice_range words from to in
    let most : length xs ≤ 2 ^ rest = branch_count rest xs b in
    let long : length xs ≡ to - from = length-part words from to within in
    let apart : to - from ≡ 2 ^ rest → ⊥ = eqb-false (to - from) (2 ^ rest) is in
    let there : 0 < to - from = positive (to - from) some in
    record {
      occurs = record {
        some = omega (arith, there);
        few = less_from (to - from) (2 ^ rest) (omega (arith, most, long)) apart;
        within = within;
        narrow = narrow;
        ascending = λ k h. b.rises k (k + 1) (omega arith) h;
        alike = λ i j p q. b.alike i j (omega (arith, long, p)) (omega (arith, long, q));
      };
      allows = λ m small. (λ h. h, λ h. h);
    }

left_or_none : (words : List ℕ) (rest from to : ℕ) (d : Bool) → to ≤ length words → rest ≤ 64 → IsBranch rest (slice_range words from to) → (to - from == 0) ≡ d
    → Fits words rest (cond d Lost (cond (to - from == 2 ^ rest) Free (Within from to))) (Ends (slice_range words from to) rest)
left_or_none words rest from to true within narrow b is = record {
  occurs = tt;
  allows = λ m small. (λ no. absurd no, λ h. nothing_ends (slice_range words from to) rest m (length-part words from to within ∙ eqb-true (to - from) 0 is) h);
}
left_or_none words rest from to false within narrow b is = some_left words rest from to (to - from == 2 ^ rest) within narrow b refl (eqb-false (to - from) 0 is)

pub narrowed_fits : (words : List ℕ) (rest from to : ℕ) → to ≤ length words → rest ≤ 64 → IsBranch rest (slice_range words from to)
    → Fits words rest (narrowed rest from to) (Ends (slice_range words from to) rest)
narrowed_fits words rest from to within narrow b = left_or_none words rest from to (to - from == 0) within narrow b refl

-- ---- a half of a part

to_both : (words : List ℕ) (left : ℕ) (q : State) (P Q : ℕ → Type 0) → Fits words left q P → ((m : ℕ) → m < 2 ^ left → P m ↔ Q m) → Fits words left q Q
to_both words left q P Q f same = record {
  occurs = f.occurs;
  allows = λ m small. let a = f.allows m small in let b = same m small in (λ h. b.0 (a.0 h), λ h. a.1 (b.1 h));
}

pub half_fits : (words : List ℕ) (rest from to : ℕ) (v : Bool) → from ≤ to → to ≤ length words → suc rest ≤ 64 → IsBranch (suc rest) (slice_range words from to)
    → Fits words rest (half words rest from to v) (λ m. Ends (slice_range words from to) (suc rest) (worth rest v + m))
half_fits words rest from to true up within narrow b =
    let xs : List ℕ = slice_range words from to in
    let long : length xs ≡ to - from = length-part words from to within in
    let short : point rest xs ≤ length xs = point_within rest xs in
    let is : slice_range words (from + point rest xs) to ≡ side rest xs true = upper_part words from to (point rest xs) (omega (arith, long, short)) in
    let P : List ℕ → Type 0 = λ ys. IsBranch rest ys in
    let Q : List ℕ → Type 0 = λ ys. Fits words rest (narrowed rest (from + point rest xs) to) (Ends ys rest) in
    to_both words rest (narrowed rest (from + point rest xs) to) (Ends (side rest xs true) rest) (λ m. Ends xs (suc rest) (worth rest true + m))
    (subst Q is (narrowed_fits words rest (from + point rest xs) to within (omega (arith, narrow)) (subst P (sym is) (side_branch rest xs true short b))))
    (λ m small. side_ends rest xs true m short b small)
half_fits words rest from to false up within narrow b =
    let xs : List ℕ = slice_range words from to in
    let long : length xs ≡ to - from = length-part words from to within in
    let short : point rest xs ≤ length xs = point_within rest xs in
    let is : slice_range words from (from + point rest xs) ≡ side rest xs false = lower_part words from to (point rest xs) (omega (arith, long, short)) in
    let inside : from + point rest xs ≤ length words = omega (arith, long, short, up, within) in
    let P : List ℕ → Type 0 = λ ys. IsBranch rest ys in
    let Q : List ℕ → Type 0 = λ ys. Fits words rest (narrowed rest from (from + point rest xs)) (Ends ys rest) in
    to_both words rest (narrowed rest from (from + point rest xs)) (Ends (side rest xs false) rest) (λ m. Ends xs (suc rest) (worth rest false + m))
    (subst Q is (narrowed_fits words rest from (from + point rest xs) inside (omega (arith, narrow)) (subst P (sym is) (side_branch rest xs false short b))))
    (λ m small. side_ends rest xs false m short b small)

-- ---- states between words

-- where no bit of a word is to come, no part of the list is left
pub none_within : (words : List ℕ) (from to : ℕ) → IsPart words 0 from to → ⊥
none_within words from to p = let some : from < to = p.some in let few : to - from < 1 = p.few in omega (arith, some, few)

-- ---- what the machine asks and keeps at a place

pub can_read : (words : List ℕ) (left : ℕ) (reading : Reading) (readings : List Reading) (q : State) → AreReadFrom words left (reading ∷ readings) → Occurs words left q → CanRead words reading q
can_read words left Passed readings q read occurs = tt
can_read words zero (First from to rest) readings q read occurs =
    cut_from_branch words rest from to read.0.up read.0.within read.0.narrow (table_branch words from to (suc rest) read.0)
can_read words (suc left) (First from to rest) readings q read occurs = absurd read
can_read words zero (Next rest) readings q read occurs = absurd read
can_read words (suc left) (Next rest) readings Free read occurs = tt
can_read words (suc left) (Next rest) readings Lost read occurs = tt
can_read words (suc left) (Next rest) readings (Within from to) read occurs =
    let same : rest ≡ left = read.0 in
    let P : ℕ → Type 0 = λ n. IsCut words n from to in
    subst P (sym same) (cut_from_branch words left from to (let some : from < to = occurs.some in omega (arith, some)) occurs.within occurs.narrow (part_branch words (suc left) from to occurs))

-- how many bits of a word are to come after this one
abbrev pub left_after : ℕ → Reading → ℕ
left_after left Passed = left
left_after left (First from to rest) = rest
left_after left (Next rest) = rest

pub read_on : (words : List ℕ) (left : ℕ) (reading : Reading) (readings : List Reading) → AreReadFrom words left (reading ∷ readings) → AreReadFrom words (left_after left reading) readings
read_on words zero Passed readings read = read
read_on words (suc left) Passed readings read = read
read_on words zero (First from to rest) readings read = read.1
read_on words (suc left) (First from to rest) readings read = absurd read
read_on words zero (Next rest) readings read = absurd read
read_on words (suc left) (Next rest) readings read = let P : ℕ → Type 0 = λ n. AreReadFrom words n readings in subst P (sym read.0) read.1

pub occurs_after : (words : List ℕ) (left : ℕ) (reading : Reading) (readings : List Reading) (q : State) (v : Bool) → AreReadFrom words left (reading ∷ readings) → Occurs words left q
    → Occurs words (left_after left reading) (after words reading q v)
occurs_after words left Passed readings q v read occurs = occurs
occurs_after words zero (First from to rest) readings Free v read occurs =
    (half_fits words rest from to v read.0.up read.0.within read.0.narrow (table_branch words from to (suc rest) read.0)).occurs
occurs_after words zero (First from to rest) readings Lost v read occurs = tt
occurs_after words zero (First from to rest) readings (Within i j) v read occurs = tt
occurs_after words (suc left) (First from to rest) readings q v read occurs = absurd read
occurs_after words zero (Next rest) readings q v read occurs = absurd read
occurs_after words (suc left) (Next rest) readings Free v read occurs = tt
occurs_after words (suc left) (Next rest) readings Lost v read occurs = tt
occurs_after words (suc left) (Next rest) readings (Within from to) v read occurs =
    let same : rest ≡ left = read.0 in
    let P : ℕ → Type 0 = λ n. Occurs words n (half words n from to v) in
    subst P (sym same) (half_fits words left from to v (let some : from < to = occurs.some in omega (arith, some)) occurs.within occurs.narrow (part_branch words (suc left) from to occurs)).occurs

-- ---- at a place of the list of readings

pub reading_here : (readings : List Reading) (at : ℕ) (reading : Reading) → at < length readings → reading ≡ get_or readings at reading → drop at readings ≡ reading ∷ drop (at + 1) readings
reading_here readings at reading within is = drop_more readings at reading within ∙ ap (λ r. r ∷ drop (at + 1) readings) (sym is)

pub can_read_at : (t : Tables) (at : ℕ) (reading : Reading) (q : State) (words : List ℕ) → words ≡ t.words → at < length t.readings → reading ≡ get_or t.readings at reading → OccursAt t at q → CanRead words reading q
can_read_at t at reading q words same within is h =
    let P : List Reading → Type 0 = λ rs. AreReadFrom t.words h.0 rs in
    let Q : List ℕ → Type 0 = λ ws. CanRead ws reading q in
    subst Q (sym same) (can_read t.words h.0 reading (drop (at + 1) t.readings) q (subst P (reading_here t.readings at reading within is) h.1) h.2)

pub state_after : (t : Tables) (at : ℕ) (reading : Reading) (q r : State) (v : Bool) (words : List ℕ) → words ≡ t.words → at < length t.readings → reading ≡ get_or t.readings at reading → r ≡ after words reading q v
    → r ≡ (rules t).step at q v
state_after t at reading q r v words same within is e =
    let here : slice_get t.readings at ≡ Some reading = slice_get-get_or t.readings at reading within ∙ ap Some (sym is) in
    e ∙ ap (λ ws. after ws reading q v) same ∙ sym (ap (λ o. option_map_or (λ x. after t.words x q v) o q) here)

pub occurs_next : (t : Tables) (at : ℕ) (reading : Reading) (q r : State) (v : Bool) (words : List ℕ) → words ≡ t.words → at < length t.readings → reading ≡ get_or t.readings at reading → r ≡ after words reading q v
    → OccursAt t at q → OccursAt t (at + 1) r
occurs_next t at reading q r v words same within is e h =
    let P : List Reading → Type 0 = λ rs. AreReadFrom t.words h.0 rs in
    let read = subst P (reading_here t.readings at reading within is) h.1 in
    let Q : State → Type 0 = λ s. Occurs t.words (left_after h.0 reading) s in (
      left_after h.0 reading,
      read_on t.words h.0 reading (drop (at + 1) t.readings) read,
      subst Q (sym (e ∙ ap (λ ws. after ws reading q v) same)) (occurs_after t.words h.0 reading (drop (at + 1) t.readings) q v read h.2),
    )
