-- What the machine accepts: each of the words that it reads is listed.
use Rattle.std.proofs.Common.{◌≡◌, ℕ, zero, suc, ◌+◌, ◌^◌, ◌<◌, ◌≤◌, ◌↔◌, Bool, true, cond, List, [], ◌∷◌, length, get_or, drop, Some, refl, sym, ap, ◌∙◌, subst, arith}
use Rattle.std.specs.Prelude.{slice_range, slice_get, ⊤}
use Rattle.std.specs.Option.{option_map_or}
use Rattle.std.proofs.lemmas.List.{drop_more}
use Rattle.std.proofs.lemmas.Option.{slice_get-get_or}
use Rattle.diagram_arena.specs.Table.{Word}
use Rattle.bit_layout.specs.Words.{number}
use Rattle.bit_machine.specs.Rules.{run}
use Rattle.table_machine.specs.declared.states.State.{State}
use Rattle.table_machine.specs.declared.states.State.TheVariants.{Free, Lost, Within}
use Rattle.table_machine.specs.declared.states.Reading.{Reading}
use Rattle.table_machine.specs.declared.states.Reading.TheVariants.{Passed, First, Next}
use Rattle.table_machine.specs.Tables.{Tables, half, after, rules, is_free, AreReadFrom, Occurs}
use Rattle.table_machine.proofs.Numbers.{worth, number_below}
use Rattle.table_machine.proofs.Branches.{Ends}
use Rattle.table_machine.proofs.Steps.{Allows, Fits, part_branch, table_branch, half_fits, none_within}

-- ---- along the list of readings

abbrev pub reads : List ℕ → State → List Reading → List ℕ → Word → State
reads words q [] bs w = q
reads words q (r ∷ rs) [] w = q
reads words q (r ∷ rs) (b ∷ bs) w = reads words (after words r q (w b)) rs bs w

no_more : (words : List ℕ) (q : State) (rs : List Reading) (w : Word) → reads words q rs [] w ≡ q
no_more words q [] w = refl
no_more words q (r ∷ rs) w = refl

pub run_reads : (t : Tables) (at : ℕ) (q : State) (bs : List ℕ) (w : Word) → at + length bs ≤ length t.readings → run (rules t) at q bs w ≡ reads t.words q (drop at t.readings) bs w
run_reads t at q [] w within = sym (no_more t.words q (drop at t.readings) w)
run_reads t at q (b ∷ bs) w within =
    let here : at < length t.readings = omega (arith, within) in
    let r : Reading = get_or t.readings at Passed in
    let rest : List Reading = drop (at + 1) t.readings in
    let is : drop at t.readings ≡ r ∷ rest = drop_more t.readings at Passed here in
    let found : slice_get t.readings at ≡ Some r = slice_get-get_or t.readings at Passed here in
    run_reads t (at + 1) ((rules t).step at q (w b)) bs w (omega (arith, within))
    ∙ ap (λ o. reads t.words (option_map_or (λ x. after t.words x q (w b)) o q) rest bs w) found
    ∙ sym (ap (λ rs. reads t.words q rs (b ∷ bs) w) is)

-- ---- the words that are read

-- the bits of the word that are still to come
abbrev pub coming : ℕ → List Reading → List ℕ → Word → List Bool
coming zero rs bs w = []
coming (suc left) [] bs w = []
coming (suc left) (r ∷ rs) [] w = []
coming (suc left) (Passed ∷ rs) (b ∷ bs) w = coming (suc left) rs bs w
coming (suc left) (First from to rest ∷ rs) (b ∷ bs) w = []
coming (suc left) (Next rest ∷ rs) (b ∷ bs) w = w b ∷ coming left rs bs w

pub length-coming : (words : List ℕ) (left : ℕ) (rs : List Reading) (bs : List ℕ) (w : Word) → length rs ≡ length bs → AreReadFrom words left rs → length (coming left rs bs w) ≡ left
length-coming words zero rs bs w long read = refl
length-coming words (suc left) [] bs w long read = absurd read
length-coming words (suc left) (r ∷ rs) [] w long read = absurd (omega (arith, long))
length-coming words (suc left) (Passed ∷ rs) (b ∷ bs) w long read = length-coming words (suc left) rs bs w (omega (arith, long)) read
length-coming words (suc left) (First from to rest ∷ rs) (b ∷ bs) w long read = absurd read
length-coming words (suc left) (Next rest ∷ rs) (b ∷ bs) w long read =
    let e : length (coming left rs bs w) ≡ left = length-coming words left rs bs w (omega (arith, long)) read.1 in omega (arith, e)

-- each word that begins among these bits is listed
abbrev pub Meets : List ℕ → List Reading → List ℕ → Word → Type 0
Meets words [] bs w = ⊤
Meets words (r ∷ rs) [] w = ⊤
Meets words (Passed ∷ rs) (b ∷ bs) w = Meets words rs bs w
Meets words (First from to rest ∷ rs) (b ∷ bs) w = Ends (slice_range words from to) (suc rest) (number (w b ∷ coming rest rs bs w)) × Meets words rs bs w
Meets words (Next rest ∷ rs) (b ∷ bs) w = Meets words rs bs w

-- what is to come of this word leads to one that is listed, and each later word is listed
abbrev pub Told : List ℕ → ℕ → State → List Reading → List ℕ → Word → Type 0
Told words left q rs bs w = Allows words left q (number (coming left rs bs w)) × Meets words rs bs w

-- a half of a part, and the bits to come
half_told : (words : List ℕ) (left from to : ℕ) (v : Bool) (c : List Bool) → length c ≡ left → Fits words left (half words left from to v) (λ m. Ends (slice_range words from to) (suc left) (worth left v + m))
    → Allows words left (half words left from to v) (number c) ↔ Ends (slice_range words from to) (suc left) (number (v ∷ c))
half_told words left from to v c long fits =
    let small : number c < 2 ^ left = let P : ℕ → Type 0 = λ n. number c < 2 ^ n in subst P long (number_below c) in
    let same : worth left v + number c ≡ number (v ∷ c) = ap (λ n. cond v (2 ^ n) 0 + number c) (sym long) in
    let P : ℕ → Type 0 = λ n. Allows words left (half words left from to v) (number c) ↔ Ends (slice_range words from to) (suc left) n in
    subst P same (fits.allows (number c) small)

pub table_reads : (words : List ℕ) (left : ℕ) (q : State) (rs : List Reading) (bs : List ℕ) (w : Word) → length rs ≡ length bs → AreReadFrom words left rs → Occurs words left q
    → (is_free (reads words q rs bs w) ≡ true) ↔ Told words left q rs bs w
table_reads words zero Free [] bs w long read occurs = (λ _. (tt, tt), λ _. refl)
table_reads words zero Lost [] bs w long read occurs = (λ e. absurd (cc), λ h. absurd h.0)
table_reads words zero (Within from to) [] bs w long read occurs = absurd (none_within words from to occurs)
table_reads words (suc left) q [] bs w long read occurs = absurd read
table_reads words left q (r ∷ rs) [] w long read occurs = absurd (omega (arith, long))
table_reads words zero q (Passed ∷ rs) (b ∷ bs) w long read occurs = table_reads words zero q rs bs w (omega (arith, long)) read occurs
table_reads words (suc left) q (Passed ∷ rs) (b ∷ bs) w long read occurs = table_reads words (suc left) q rs bs w (omega (arith, long)) read occurs
table_reads words zero Free (First from to rest ∷ rs) (b ∷ bs) w long read occurs =
    let l : length rs ≡ length bs = omega (arith, long) in
    let t = read.0 in
    let c : List Bool = coming rest rs bs w in
    let fits = half_fits words rest from to (w b) t.up t.within t.narrow (table_branch words from to (suc rest) t) in
    let next = table_reads words rest (half words rest from to (w b)) rs bs w l read.1 fits.occurs in
    let told = half_told words rest from to (w b) c (length-coming words rest rs bs w l read.1) fits in
    (λ e. let h = next.0 e in (tt, (told.0 h.0, h.1)), λ h. next.1 (told.1 h.1.0, h.1.1))
table_reads words zero Lost (First from to rest ∷ rs) (b ∷ bs) w long read occurs =
    let next = table_reads words rest Lost rs bs w (omega (arith, long)) read.1 tt in
    (λ e. absurd (next.0 e).0, λ h. absurd h.0)
table_reads words zero (Within i j) (First from to rest ∷ rs) (b ∷ bs) w long read occurs = absurd (none_within words i j occurs)
table_reads words (suc left) q (First from to rest ∷ rs) (b ∷ bs) w long read occurs = absurd read
table_reads words zero q (Next rest ∷ rs) (b ∷ bs) w long read occurs = absurd read
table_reads words (suc left) Free (Next rest ∷ rs) (b ∷ bs) w long read occurs =
    let next = table_reads words left Free rs bs w (omega (arith, long)) read.1 tt in
    (λ e. (tt, (next.0 e).1), λ h. next.1 (tt, h.1))
table_reads words (suc left) Lost (Next rest ∷ rs) (b ∷ bs) w long read occurs =
    let next = table_reads words left Lost rs bs w (omega (arith, long)) read.1 tt in
    (λ e. absurd (next.0 e).0, λ h. absurd h.0)
table_reads words (suc left) (Within from to) (Next rest ∷ rs) (b ∷ bs) w long read occurs =
    let l : length rs ≡ length bs = omega (arith, long) in
    let c : List Bool = coming left rs bs w in
    let some : from < to = occurs.some in
    let fits = half_fits words left from to (w b) (omega (arith, some)) occurs.within occurs.narrow (part_branch words (suc left) from to occurs) in
    let next = table_reads words left (half words left from to (w b)) rs bs w l read.1 fits.occurs in
    let told = half_told words left from to (w b) c (length-coming words left rs bs w l read.1) fits in
    let P : ℕ → Type 0 = λ n. (is_free (reads words (half words n from to (w b)) rs bs w) ≡ true) ↔ (Ends (slice_range words from to) (suc left) (number (w b ∷ c)) × Meets words rs bs w) in
    subst P (sym read.0) (λ e. let h = next.0 e in (told.0 h.0, h.1), λ h. next.1 (told.1 h.0, h.1))

-- the whole machine, from its start
pub table_accepts : (t : Tables) (bs : List ℕ) (w : Word) → length t.readings ≡ length bs → AreReadFrom t.words 0 t.readings → Occurs t.words 0 t.start
    → (is_free (run (rules t) 0 t.start bs w) ≡ true) ↔ Told t.words 0 t.start t.readings bs w
table_accepts t bs w long read occurs =
    let e : run (rules t) 0 t.start bs w ≡ reads t.words t.start t.readings bs w = run_reads t 0 t.start bs w (omega (arith, long)) in
    let P : State → Type 0 = λ s. (is_free s ≡ true) ↔ Told t.words 0 t.start t.readings bs w in
    subst P (sym e) (table_reads t.words 0 t.start t.readings bs w long read occurs)
