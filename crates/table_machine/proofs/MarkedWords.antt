-- The machine of one table.
use Rattle.std.proofs.Common.{◌≡◌, ℕ, zero, suc, ◌+◌, ◌-◌, ◌^◌, ◌<◌, ◌≤◌, ◌==◌, ◌↔◌, ◌&&◌, Bool, true, false, cond, eqb, List, [], ◌∷◌, ◌++◌, length, get_or, take, drop, refl, sym, ap, ◌∙◌, subst, arith, Contains, append_assoc}
use Rattle.std.specs.Prelude.{slice_range}
use Rattle.std.specs.Int.{from_bool}
use Rattle.std.specs.List.{dedup, All}
use Rattle.std.specs.List.Retain.{IsFiltered, DiffersFromLast}
use Rattle.std.specs.List.Sorted.{IsStrictlyIncreasing, IsPermutation, IsSorted}
use Rattle.std.specs.Ordering.{nat_cmp}
use Rattle.std.proofs.lemmas.Bool.{eq-eqb, ne_eqb}
use Rattle.std.proofs.lemmas.List.{drop_more, take_all}
use Rattle.std.proofs.lemmas.List.Elements.{All-contains, All-from_get_or, Contains-get_or}
use Rattle.std.proofs.lemmas.List.Filters.{dedup_is}
use Rattle.std.proofs.lemmas.List.Kept.{Contains-dedup_nat, Contains-from_dedup}
use Rattle.std.proofs.lemmas.List.Sorted.{IsPermutation-sym, Contains-permutation}
use Rattle.std.proofs.lemmas.Map.Keys.{IsStrictlyIncreasing-dedup}
use Rattle.diagram_arena.specs.Table.{Word}
use Rattle.bit_layout.specs.Words.{number}
use Rattle.bit_machine.specs.Rules.{accepts}
use Rattle.table_machine.specs.declared.states.State.{State}
use Rattle.table_machine.specs.declared.states.State.TheVariants.{Free, Lost, Within}
use Rattle.table_machine.specs.declared.states.Reading.{Reading}
use Rattle.table_machine.specs.declared.states.Reading.TheVariants.{Passed, First, Next}
use Rattle.table_machine.specs.Tables.{Tables, rules, AreTables, AreReadFrom, IsTable, Occurs, IsBetween}
use Rattle.table_machine.specs.Marked.{marks_in, at_marks, marked_reading, marked_readings, first_state}
use Rattle.table_machine.proofs.Numbers.{number_below}
use Rattle.table_machine.proofs.Branches.{Ends}
use Rattle.table_machine.proofs.Runs.{coming, Meets, Told, table_accepts}
use Rattle.table_machine.proofs.Domains.{small_rest}

-- ---- counting marks

pub marks_more : (mark : Bool) (marks : List Bool) → marks_in (mark ∷ marks) ≡ from_bool mark + marks_in marks
marks_more true marks = omega arith
marks_more false marks = omega arith

pub marks_left : (marks : List Bool) (i : ℕ) (d : Bool) → i < length marks → marks_in (drop i marks) ≡ from_bool (get_or marks i d) + marks_in (drop (i + 1) marks)
marks_left marks i d within = ap marks_in (drop_more marks i d within) ∙ marks_more (get_or marks i d) (drop (i + 1) marks)

-- steps of the loops over the marks: how many there are, and how many are left
pub counted : (marks : List Bool) (i n r : ℕ) (d : Bool) → i < length marks → r ≡ from_bool (get_or marks i d) → n + marks_in (drop i marks) ≡ marks_in marks → (n + r) + marks_in (drop (i + 1) marks) ≡ marks_in marks
counted marks i n r d within is so_far = let e = marks_left marks i d within in omega (arith, is, so_far, e)

pub counted_down : (marks : List Bool) (i n r : ℕ) (d : Bool) → i < length marks → r ≡ from_bool (get_or marks i d) → n ≡ marks_in (drop i marks) → n - r ≡ marks_in (drop (i + 1) marks)
counted_down marks i n r d within is left = let e = marks_left marks i d within in omega (arith, is, left, e)

pub counted_within : (marks : List Bool) (i n r : ℕ) (d : Bool) → i < length marks → r ≡ from_bool (get_or marks i d) → n ≡ marks_in (drop i marks) → r ≤ n
counted_within marks i n r d within is left = let e = marks_left marks i d within in omega (arith, is, left, e)

few_left : (marks : List Bool) (i : ℕ) → marks_in (drop i marks) ≤ marks_in marks
few_left marks zero = omega arith
few_left [] (suc i) = omega arith
few_left (mark ∷ marks) (suc i) = let e = few_left marks i in let f = marks_more mark marks in omega (arith, e, f)

pub counted_few : (marks : List Bool) (i n : ℕ) → n ≡ marks_in (drop i marks) → marks_in marks ≤ 64 → n ≤ 64
counted_few marks i n left few = let e = few_left marks i in omega (arith, e, left, few)

pub readings_more : (marks : List Bool) (total count : ℕ) (i rest : ℕ) (mark : Bool) (r : Reading) (readings pushed all : List Reading) → i < length marks → mark ≡ get_or marks i mark → rest ≡ marks_in (drop (i + 1) marks)
    → r ≡ marked_reading total count mark rest → pushed ≡ readings ++ r ∷ [] → readings ++ marked_readings total count (drop i marks) ≡ all → pushed ++ marked_readings total count (drop (i + 1) marks) ≡ all
readings_more marks total count i rest mark r readings pushed all within is left read push so_far =
    let later : List Reading = marked_readings total count (drop (i + 1) marks) in
    let split : marked_readings total count (drop i marks) ≡ marked_reading total count mark (marks_in (drop (i + 1) marks)) ∷ later =
    ap (marked_readings total count) (drop_more marks i mark within) ∙ ap (λ m. marked_reading total count m (marks_in (drop (i + 1) marks)) ∷ later) (sym is) in
    let here : r ≡ marked_reading total count mark (marks_in (drop (i + 1) marks)) = read ∙ ap (marked_reading total count mark) left in
    ap (λ rs. rs ++ later) push ∙ append_assoc readings (r ∷ []) later ∙ ap (λ x. readings ++ x ∷ later) here ∙ ap (λ rs. readings ++ rs) (sym split) ∙ so_far

-- ---- how the places are read

worded : (total count : ℕ) (rest : ℕ) → suc rest < total → marked_reading total count true rest ≡ Next rest
worded total count rest less = let other : eqb (rest + 1) total ≡ false = ne_eqb (rest + 1) total (λ e. omega (arith, e, less)) in ap (λ b. cond b (First 0 count rest) (Next rest)) other

first_word : (total count : ℕ) (rest : ℕ) → suc rest ≡ total → marked_reading total count true rest ≡ First 0 count rest
first_word total count rest is = let same : eqb (rest + 1) total ≡ true = eq-eqb (rest + 1) total (omega (arith, is)) in ap (λ b. cond b (First 0 count rest) (Next rest)) same

-- where some mark came before
later_read : (words : List ℕ) (total count : ℕ) (marks : List Bool) → marks_in marks < total → AreReadFrom words (marks_in marks) (marked_readings total count marks)
later_read words total count [] less = tt
later_read words total count (true ∷ marks) less =
    let P : Reading → Type 0 = λ r. AreReadFrom words (suc (marks_in marks)) (r ∷ marked_readings total count marks) in
    subst P (sym (worded total count (marks_in marks) less)) (refl, later_read words total count marks (omega (arith, less)))
later_read words total count (false ∷ marks) less = passed words (marks_in marks) (marked_readings total count marks) (later_read words total count marks less)
  where
    passed : (words : List ℕ) (left : ℕ) (readings : List Reading) → AreReadFrom words left readings → AreReadFrom words left (Passed ∷ readings)
    passed words zero readings h = h
    passed words (suc left) readings h = h

-- where none came before
all_read : (words : List ℕ) (total count : ℕ) (marks : List Bool) → marks_in marks ≡ total → (0 < total → IsTable words 0 count total) → AreReadFrom words 0 (marked_readings total count marks)
all_read words total count [] same table = tt
all_read words total count (true ∷ marks) same table =
    let e : suc (marks_in marks) ≡ total = same in
    let P : Reading → Type 0 = λ r. AreReadFrom words 0 (r ∷ marked_readings total count marks) in
    subst P (sym (first_word total count (marks_in marks) e)) (subst (IsTable words 0 count) (sym e) (table (omega (arith, e))), later_read words total count marks (omega (arith, e)))
all_read words total count (false ∷ marks) same table = all_read words total count marks same table

-- ---- what is read is what stands at the marks

coming_at : (total count : ℕ) (marks : List Bool) (bits : List ℕ) (w : Word) → length bits ≡ length marks → marks_in marks < total → coming (marks_in marks) (marked_readings total count marks) bits w ≡ at_marks marks bits w
coming_at total count [] [] w long less = refl
coming_at total count [] (b ∷ bits) w long less = absurd (omega (arith, long))
coming_at total count (mark ∷ marks) [] w long less = absurd (omega (arith, long))
coming_at total count (true ∷ marks) (b ∷ bits) w long less =
    ap (λ r. coming (suc (marks_in marks)) (r ∷ marked_readings total count marks) (b ∷ bits) w) (worded total count (marks_in marks) less)
    ∙ ap (λ bs. w b ∷ bs) (coming_at total count marks bits w (omega (arith, long)) (omega (arith, less)))
coming_at total count (false ∷ marks) (b ∷ bits) w long less =
    passed (marks_in marks) (marked_readings total count marks) b bits w ∙ coming_at total count marks bits w (omega (arith, long)) less
  where
    passed : (left : ℕ) (readings : List Reading) (b : ℕ) (bits : List ℕ) (w : Word) → coming left (Passed ∷ readings) (b ∷ bits) w ≡ coming left readings bits w
    passed zero readings b bits w = refl
    passed (suc left) readings b bits w = refl

-- no further word begins
none_begins : (words : List ℕ) (total count : ℕ) (marks : List Bool) (bits : List ℕ) (w : Word) → marks_in marks < total → Meets words (marked_readings total count marks) bits w
none_begins words total count [] bits w less = tt
none_begins words total count (mark ∷ marks) [] w less = tt
none_begins words total count (true ∷ marks) (b ∷ bits) w less =
    let P : Reading → Type 0 = λ r. Meets words (r ∷ marked_readings total count marks) (b ∷ bits) w in
    subst P (sym (worded total count (marks_in marks) less)) (none_begins words total count marks bits w (omega (arith, less)))
none_begins words total count (false ∷ marks) (b ∷ bits) w less = none_begins words total count marks bits w less

-- the word at the marks is to be listed, if there are marks
marks_meet : (words : List ℕ) (total count : ℕ) (marks : List Bool) (bits : List ℕ) (w : Word) → length bits ≡ length marks → marks_in marks ≡ total → 0 < total
    → Meets words (marked_readings total count marks) bits w ↔ Ends (slice_range words 0 count) total (number (at_marks marks bits w))
marks_meet words total count [] bits w long same some = absurd (omega (arith, same, some))
marks_meet words total count (mark ∷ marks) [] w long same some = absurd (omega (arith, long))
marks_meet words total count (true ∷ marks) (b ∷ bits) w long same some =
    let e : suc (marks_in marks) ≡ total = same in
    let rest : ℕ = marks_in marks in
    let xs : List ℕ = slice_range words 0 count in
    let read : coming rest (marked_readings total count marks) bits w ≡ at_marks marks bits w = coming_at total count marks bits w (omega (arith, long)) (omega (arith, e)) in
    let later : Meets words (marked_readings total count marks) bits w = none_begins words total count marks bits w (omega (arith, e)) in
    let P : Reading → Type 0 = λ r. Meets words (r ∷ marked_readings total count marks) (b ∷ bits) w ↔ Ends xs total (number (w b ∷ at_marks marks bits w)) in
    let Q : List Bool → Type 0 = λ c. (Ends xs (suc rest) (number (w b ∷ c)) × Meets words (marked_readings total count marks) bits w) ↔ Ends xs total (number (w b ∷ at_marks marks bits w)) in
    let R : ℕ → Type 0 = λ n. (Ends xs n (number (w b ∷ at_marks marks bits w)) × Meets words (marked_readings total count marks) bits w) ↔ Ends xs total (number (w b ∷ at_marks marks bits w)) in
    subst P (sym (first_word total count rest e)) (subst Q (sym read) (subst R (sym e) (λ h. h.0, λ h. (h, later))))
marks_meet words total count (false ∷ marks) (b ∷ bits) w long same some = marks_meet words total count marks bits w (omega (arith, long)) same some

-- with no marks nothing is to be listed
no_marks_meet : (words : List ℕ) (count : ℕ) (marks : List Bool) (bits : List ℕ) (w : Word) → marks_in marks ≡ 0 → Meets words (marked_readings 0 count marks) bits w
no_marks_meet words count [] bits w none = tt
no_marks_meet words count (mark ∷ marks) [] w none = tt
no_marks_meet words count (true ∷ marks) (b ∷ bits) w none = absurd (omega (arith, none))
no_marks_meet words count (false ∷ marks) (b ∷ bits) w none = no_marks_meet words count marks bits w none

length-at_marks : (marks : List Bool) (bits : List ℕ) (w : Word) → length bits ≡ length marks → length (at_marks marks bits w) ≡ marks_in marks
length-at_marks [] [] w long = refl
length-at_marks [] (b ∷ bits) w long = absurd (omega (arith, long))
length-at_marks (mark ∷ marks) [] w long = absurd (omega (arith, long))
length-at_marks (true ∷ marks) (b ∷ bits) w long = let e = length-at_marks marks bits w (omega (arith, long)) in omega (arith, e)
length-at_marks (false ∷ marks) (b ∷ bits) w long = length-at_marks marks bits w (omega (arith, long))

-- ---- the table

pub record IsOneOf (given words : List ℕ) (marks : List Bool) (t : Tables) : Type 0 where
  pub members : (n : ℕ) → Contains words n ↔ Contains given n
  pub ascending : IsStrictlyIncreasing words
  pub listed : t.words ≡ words
  pub readings : t.readings ≡ marked_readings (marks_in marks) (length words) marks
  pub start : t.start ≡ first_state (marks_in marks) (length words)

small_words : (given words : List ℕ) (total : ℕ) → ((n : ℕ) → Contains words n ↔ Contains given n) → All (λ n. n < 2 ^ total) given → All (λ n. n < 2 ^ total) words
small_words given words total same below =
    All-from_get_or (λ n. n < 2 ^ total) words 0 (λ i within. All-contains (λ n. n < 2 ^ total) given (get_or words i 0) below ((same (get_or words i 0)).0 (Contains-get_or words i 0 within)))

all_words : (words : List ℕ) → slice_range words 0 (length words) ≡ words
all_words words = let e : length words - 0 ≡ length words = omega arith in ap (λ n. take n words) e ∙ take_all (length words) words (omega arith)

table_of : (given words : List ℕ) (total : ℕ) → ((n : ℕ) → Contains words n ↔ Contains given n) → IsStrictlyIncreasing words → All (λ n. n < 2 ^ total) given → total ≤ 64 → IsTable words 0 (length words) total
table_of given words total same up below few =
    let P : List ℕ → Type 0 = λ xs. IsStrictlyIncreasing xs in
    let Q : List ℕ → Type 0 = λ xs. All (λ n. n < 2 ^ total) xs in
    record {
      up = omega arith;
      within = omega arith;
      narrow = few;
      ascending = subst P (sym (all_words words)) up;
      below = subst Q (sym (all_words words)) (small_words given words total same below);
    }

ends_is_in : (given words : List ℕ) (total m : ℕ) → ((n : ℕ) → Contains words n ↔ Contains given n) → All (λ n. n < 2 ^ total) given → m < 2 ^ total → Ends (slice_range words 0 (length words)) total m ↔ Contains given m
ends_is_in given words total m same below small =
    let P : List ℕ → Type 0 = λ xs. Ends xs total m ↔ Contains given m in
    subst P (sym (all_words words)) (
      λ h.
          let there : Contains given h.0 = (same h.0).0 h.1 in
          let below_here : h.0 < 2 ^ total = All-contains (λ n. n < 2 ^ total) given h.0 below there in
          subst (Contains given) (sym (small_rest h.0 total below_here) ∙ h.2) there,
      λ h. (m, (same m).1 h, small_rest m total small),
    )

first_between : (total count : ℕ) → IsBetween (first_state total count)
first_between total count = by_cases ((total == 0) && (count == 0))
  where
    by_cases : (d : Bool) → IsBetween (cond d Lost Free)
    by_cases true = tt
    by_cases false = tt

between_occurs : (words : List ℕ) (q : State) → IsBetween q → Occurs words 0 q
between_occurs words Free h = tt
between_occurs words Lost h = tt
between_occurs words (Within from to) h = absurd h

-- nothing but 0 is below 1
zero_is_in : (given : List ℕ) (n : ℕ) → All (λ n. n < 1) given → Contains given n → Contains given 0
zero_is_in given n below h =
    let small : n < 1 = All-contains (λ n. n < 1) given n below h in
    let e : n ≡ 0 = omega (arith, small) in subst (Contains given) e h

pub one_of_tables : (given words : List ℕ) (marks : List Bool) (t : Tables) → IsOneOf given words marks t → marks_in marks ≤ 64 → All (λ n. n < 2 ^ marks_in marks) given → AreTables t
one_of_tables given words marks t is few below =
    let total : ℕ = marks_in marks in
    let count : ℕ = length words in
    let table = table_of given words total is.members is.ascending below few in
    let P : List ℕ → Type 0 = λ ws. AreReadFrom ws 0 (marked_readings total count marks) in
    let Q : List Reading → Type 0 = λ rs. AreReadFrom t.words 0 rs in
    record {
      start = subst IsBetween (sym is.start) (first_between total count);
      whole = subst Q (sym is.readings) (subst P (sym is.listed) (all_read words total count marks refl (λ _. table)));
    }

length-marked : (total count : ℕ) (marks : List Bool) → length (marked_readings total count marks) ≡ length marks
length-marked total count [] = refl
length-marked total count (mark ∷ marks) = let e = length-marked total count marks in omega (arith, e)

pub one_of_places : (given words : List ℕ) (marks : List Bool) (t : Tables) → IsOneOf given words marks t → length t.readings ≡ length marks
one_of_places given words marks t is = ap length is.readings ∙ length-marked (marks_in marks) (length words) marks

-- with marks: the state at the start is free, and the word at the marks is to be listed
told_with_marks : (given words : List ℕ) (marks : List Bool) (bits : List ℕ) (w : Word) (total : ℕ) → marks_in marks ≡ total → 0 < total → ((n : ℕ) → Contains words n ↔ Contains given n) → All (λ n. n < 2 ^ total) given
    → length bits ≡ length marks → Told words 0 (first_state total (length words)) (marked_readings total (length words) marks) bits w ↔ Contains given (number (at_marks marks bits w))
told_with_marks given words marks bits w total same some members below long =
    let count : ℕ = length words in
    let some_marks : eqb total 0 ≡ false = ne_eqb total 0 (λ e. omega (arith, e, some)) in
    let free : first_state total count ≡ Free = ap (λ d. cond (d && (count == 0)) Lost Free) some_marks in
    let m : ℕ = number (at_marks marks bits w) in
    let small : m < 2 ^ total = let P : ℕ → Type 0 = λ n. m < 2 ^ n in subst P (length-at_marks marks bits w long ∙ same) (number_below (at_marks marks bits w)) in
    let meets = marks_meet words total count marks bits w long same some in
    let there = ends_is_in given words total m members below small in
    let P : State → Type 0 = λ q. Told words 0 q (marked_readings total count marks) bits w ↔ Contains given m in
    subst P (sym free) (λ h. there.0 (meets.0 h.1), λ h. (tt, meets.1 (there.1 h)))

no_length : (xs : List Bool) → length xs ≡ 0 → xs ≡ []
no_length [] e = refl
no_length (x ∷ xs) e = absurd (omega (arith, e))

-- without marks: some word is to be listed
told_without : (given words : List ℕ) (marks : List Bool) (bits : List ℕ) (w : Word) → marks_in marks ≡ 0 → ((n : ℕ) → Contains words n ↔ Contains given n) → All (λ n. n < 1) given
    → length bits ≡ length marks → Told words 0 (first_state 0 (length words)) (marked_readings 0 (length words) marks) bits w ↔ Contains given (number (at_marks marks bits w))
told_without given [] marks bits w none members below long =
    (λ h. absurd h.0, λ h. let there : Contains [] (number (at_marks marks bits w)) = (members (number (at_marks marks bits w))).1 h in let within : there.0 < 0 = there.1 in absurd (omega (arith, within)))
told_without given (x ∷ words) marks bits w none members below long =
    let empty : at_marks marks bits w ≡ [] = no_length (at_marks marks bits w) (length-at_marks marks bits w long ∙ none) in
    let there : Contains given x = (members x).0 (0, omega arith, refl) in
    let here : Contains given 0 = zero_is_in given x below there in
    let count : ℕ = length (x ∷ words) in
    let some : eqb count 0 ≡ false = ne_eqb count 0 (λ e. omega (arith, e)) in
    let free : first_state 0 count ≡ Free = ap (λ d. cond d Lost Free) some in
    let P : State → Type 0 = λ q. Told (x ∷ words) 0 q (marked_readings 0 count marks) bits w ↔ Contains given (number (at_marks marks bits w)) in
    subst P (sym free) (λ _. subst (Contains given) (sym (ap number empty)) here, λ _. (tt, no_marks_meet (x ∷ words) count marks bits w none))

pub one_of_accepts : (given words : List ℕ) (marks : List Bool) (t : Tables) (bits : List ℕ) (w : Word) → IsOneOf given words marks t → marks_in marks ≤ 64 → All (λ n. n < 2 ^ marks_in marks) given → length bits ≡ length marks
    → (accepts (rules t) bits w ≡ true) ↔ Contains given (number (at_marks marks bits w))
one_of_accepts given words marks t bits w is few below long =
    let tables = one_of_tables given words marks t is few below in
    let long_readings : length t.readings ≡ length bits = one_of_places given words marks t is ∙ sym long in
    let table = table_accepts t bits w long_readings tables.whole (between_occurs t.words t.start tables.start) in
    let P : List ℕ → Type 0 = λ ws. Told ws 0 t.start t.readings bits w ↔ Contains given (number (at_marks marks bits w)) in
    let Q : State → Type 0 = λ q. Told words 0 q t.readings bits w ↔ Contains given (number (at_marks marks bits w)) in
    let R : List Reading → Type 0 = λ rs. Told words 0 (first_state (marks_in marks) (length words)) rs bits w ↔ Contains given (number (at_marks marks bits w)) in
    let told = subst P (sym is.listed) (subst Q (sym is.start) (subst R (sym is.readings) (by_count (marks_in marks) refl below))) in
    (λ e. told.0 (table.0 e), λ h. table.1 (told.1 h))
  where
    by_count : (total : ℕ) → marks_in marks ≡ total → All (λ n. n < 2 ^ total) given → Told words 0 (first_state total (length words)) (marked_readings total (length words) marks) bits w ↔ Contains given (number (at_marks marks bits w))
    by_count zero same below = told_without given words marks bits w same is.members below long
    by_count (suc total) same below = told_with_marks given words marks bits w (suc total) same (omega arith) is.members below long

-- ---- sorted, each number once

pub sorted_once : (given sorted words : List ℕ) → IsPermutation given sorted → IsSorted nat_cmp sorted → IsFiltered (DiffersFromLast eqb) [] sorted words → ((n : ℕ) → Contains words n ↔ Contains given n) × IsStrictlyIncreasing words
sorted_once given sorted words moved up kept =
    let e : words ≡ dedup eqb sorted = dedup_is eqb sorted words kept in
    let P : List ℕ → Type 0 = λ s. ((n : ℕ) → Contains s n ↔ Contains given n) × IsStrictlyIncreasing s in
    subst P (sym e) (
      λ n. (
        λ h. Contains-permutation sorted given n (IsPermutation-sym given sorted moved) (Contains-from_dedup eqb sorted n h),
        λ h. Contains-dedup_nat sorted n (Contains-permutation given sorted n moved h),
      ),
      IsStrictlyIncreasing-dedup sorted up,
    )

pub one_of_is : (given sorted words : List ℕ) (marks : List Bool) (t : Tables) (total count : ℕ) (readings : List Reading) (start : State) → IsPermutation given sorted → IsSorted nat_cmp sorted → IsFiltered (DiffersFromLast eqb) [] sorted words
    → total ≡ marks_in marks → count ≡ length words → readings ≡ marked_readings total count marks → start ≡ first_state total count → t ≡ record { words = words; readings = readings; start = start } → IsOneOf given words marks t
one_of_is given sorted words marks t total count readings start moved up kept all long read first is =
    let once = sorted_once given sorted words moved up kept in
    record {
      members = once.0;
      ascending = once.1;
      listed = ap (λ (t : Tables). t.words) is;
      readings = ap (λ (t : Tables). t.readings) is ∙ read ∙ ap (λ n. marked_readings n count marks) all ∙ ap (λ n. marked_readings (marks_in marks) n marks) long;
      start = ap (λ (t : Tables). t.start) is ∙ first ∙ ap (λ n. first_state n count) all ∙ ap (first_state (marks_in marks)) long;
    }
