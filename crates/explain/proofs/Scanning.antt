-- Entries one before another, and the side of an entry's variable.
use Rattle.std.proofs.Common.{◌≡◌, ◌≢◌, ℕ, suc, ◌+◌, ◌-◌, ◌<◌, ◌≤◌, Bool, true, false, List, [], ◌∷◌, length, take, drop, get_or, Some, refl, sym, ap, ◌∙◌, subst, inl, inr, arith, drop-cons}
use Rattle.std.specs.Prelude.{◌&&◌, not, slice_get, MatchBool}
use Rattle.std.proofs.lemmas.Bool.{cases_lt}
use Rattle.std.specs.List.{All, Any, AllPairs}
use Rattle.std.specs.Option.{option_map_or}
use Rattle.std.proofs.lemmas.List.{get_or-take, get_or-drop, length-take-le, length-drop, drop_all}
use Rattle.std.proofs.lemmas.List.Elements.{All-cons, All-same, All-nil, All-get_or, All-from_get_or}
use Rattle.std.proofs.lemmas.Option.{get_or_from_slice_get, slice_get_within, slice_get-get_or, same_Some}
use Rattle.set_meaning.specs.declared.kinds.Value.{Value}
use Rattle.set_meaning.specs.declared.problems.VarId.{VarId}
use Rattle.bit_layout.specs.Order.{LayoutState}
use Rattle.diagram_arena.specs.declared.nodes.Ref.{Ref}
use Rattle.diagram_arena.specs.declared.nodes.Ref.TheVariants.{Zero}
use Rattle.diagram_arena.specs.Table.{Table}
use Rattle.search_rules.specs.Family.{Lies, Leaves}
use Rattle.exact_steps.specs.Domains.{is_initial, values_in, family}
use Rattle.value_sets.specs.Sets.{IsValueSet}
use Rattle.propagators.specs.Compiled.{AreInitialDomains}
use Rattle.domain_trail.specs.declared.entries.Entry.{Entry}
use Rattle.running_boxes.specs.Running.{AreRunning}
use Rattle.explain.specs.Scans.{Matters, Passes, MattersOf, PassesOrIs, IsNoOther, IsOther}

-- ---- the side of a variable

abbrev pub side_of : List Ref → VarId → Ref
side_of running v = get_or running v.0 Zero

-- the family's set of a variable
pub family_of_ref : (l : LayoutState) (t : Table) (running : List Ref) (v : VarId) (r : Ref) → slice_get running v.0 ≡ Some r
    → family l t running v.0 ≡ values_in l t v r
family_of_ref l t running v r e = ap (λ o. λ x. option_map_or (λ q. values_in l t v q x) o true) e

first_true : (a b : Bool) → (a && b) ≡ true → a ≡ true
first_true true b e = refl
first_true false b e = e

module _ (l : LayoutState) (t : Table) (running : List Ref) (e : Entry) (are : AreRunning l t running) (known : e.var.0 < length l.kinds) where
  within : e.var.0 < length running
  within = let long = are.long in omega (arith, long, known)

  there : slice_get running e.var.0 ≡ Some (side_of running e.var)
  there = slice_get-get_or running e.var.0 Zero within

  pub side_is_set : IsValueSet l t e.var (side_of running e.var)
  side_is_set = are.each e.var (side_of running e.var) there

  pub side_values : family l t running e.var.0 ≡ values_in l t e.var (side_of running e.var)
  side_values = family_of_ref l t running e.var (side_of running e.var) there

  -- each value is an initial one, so it is in a side of all initial values
  pub whole_side_passes : (start : List Ref) → AreInitialDomains l t start → side_of running e.var ≡ side_of start e.var → Passes l t running e
  whole_side_passes start initial same x is =
      let long = initial.long in
      let inside : e.var.0 < length start = omega (arith, long, known) in
      let at : slice_get start e.var.0 ≡ Some (side_of running e.var) = slice_get-get_or start e.var.0 Zero inside ∙ ap (λ (r : Ref). Some r) (sym same) in
      ap (λ (s : Value → Bool). s x) side_values ∙ (initial.each e.var (side_of running e.var) at).all x (first_true (is_initial l e.var x) _ is)

  pub matters_from : (b : Bool)
      → MatchBool b (Lies (values_in l t e.var e.before) (values_in l t e.var (side_of running e.var))) (Leaves (values_in l t e.var e.before) (values_in l t e.var (side_of running e.var)))
      → MatchBool (not b) (Matters l t running e) (Passes l t running e)
  matters_from true h = subst (Lies (values_in l t e.var e.before)) (sym side_values) h
  matters_from false h = subst (Leaves (values_in l t e.var e.before)) (sym side_values) h

-- ---- one entry before another

module _ {X : Type 0} (P : X → Type 0) (xs : List X) (i : ℕ) (x : X) (at : slice_get xs i ≡ Some x) where
  pub value_at : get_or xs i x ≡ x
  value_at = get_or_from_slice_get xs i x x at

  pub one_more : P x → All P (drop (i + 1) xs) → All P (drop i xs)
  one_more here later =
      let next : suc i ≡ i + 1 = omega arith in
      let first : drop i xs ≡ x ∷ drop (i + 1) xs =
      drop-cons xs i x (slice_get_within xs i x at) ∙ ap (λ n. get_or xs i x ∷ drop n xs) next ∙ ap (λ y. y ∷ drop (i + 1) xs) value_at in
      All-same P (drop i xs) (x ∷ drop (i + 1) xs) first (All-cons P x (drop (i + 1) xs) here later)

pub scan_back : {X : Type 0} (P : X → Type 0) (xs : List X) (i : ℕ) (x : X) → 0 < i → slice_get xs (i - 1) ≡ Some x → P x → All P (drop i xs) → All P (drop (i - 1) xs)
scan_back P xs i x some at here later =
    let same : i ≡ i - 1 + 1 = omega (arith, some) in
    one_more P xs (i - 1) x at here (subst (λ n. All P (drop n xs)) same later)

pub later_of : {X : Type 0} (P : X → Type 0) (xs : List X) (i : ℕ) → 0 < i → All P (drop i xs) → All P (drop (i - 1 + 1) xs)
later_of P xs i some later =
    let same : i ≡ i - 1 + 1 = omega (arith, some) in
    subst (λ n. All P (drop n xs)) same later

pub scanned_all : {X : Type 0} (P : X → Type 0) (xs : List X) (i : ℕ) → i ≡ 0 → All P (drop i xs) → All P xs
scanned_all P xs i none h = subst (λ n. All P (drop n xs)) none h

-- ---- entries of another variable

pub other_place : (e : Entry) (v : VarId) → e.var ≢ v → e.var.0 ≢ v.0
other_place e v other same = other (ap (λ (n : ℕ). let w : VarId = record { 0 = n } in w) same)

other_or_no : (l : LayoutState) (t : Table) (running : List Ref) (v : VarId) (level : ℕ) (e : Entry) → PassesOrIs l t running v e → IsNoOther l t running level v e
other_or_no l t running v level e h at other = elim h [ inl same ↦ absurd (other same) | inr lies ↦ lies ]

slice_get_taken : {X : Type 0} (xs : List X) (n i : ℕ) (x : X) → n ≤ length xs → i < n → slice_get xs i ≡ Some x → slice_get (take n xs) i ≡ Some x
slice_get_taken xs n i x long below at =
    let taken : length (take n xs) ≡ n = length-take-le n xs long in
    let within : i < length (take n xs) = omega (arith, taken, below) in
    slice_get-get_or (take n xs) i x within ∙ ap (λ y. Some y) (get_or-take n xs i x below ∙ get_or_from_slice_get xs i x x at)

-- one entry stands before another, or it is the same
levels_rise : (xs : List Entry) → AllPairs (λ (a : Entry) (b : Entry). a.level ≤ b.level) xs → (i j : ℕ) (a b : Entry)
    → slice_get xs i ≡ Some a → slice_get xs j ≡ Some b → i ≤ j → a.level ≤ b.level
levels_rise xs levels i j a b first second order = elim (cases_lt i j) [
  | inl before ↦
      let long : j < length xs = slice_get_within xs j b second in
      let rise = levels i j a before long in
      let low : get_or xs i a ≡ a = get_or_from_slice_get xs i a a first in
      let high : get_or xs j a ≡ b = get_or_from_slice_get xs j b a second in
      let low_level = ap (λ (e : Entry). e.level) low in
      let high_level = ap (λ (e : Entry). e.level) high in
      omega (arith, rise, low_level, high_level)
  | inr not_before ↦
      let same : i ≡ j = omega (arith, order, not_before) in
      let equal : a ≡ b = same_Some a b (sym first ∙ ap (slice_get xs) same ∙ second) in
      let level = ap (λ (e : Entry). e.level) equal in
      omega (arith, level)
]

-- ---- a scan of the entries before a place, all of whose levels rise to that of `now`

module _ (l : LayoutState) (t : Table) (running : List Ref) (xs : List Entry) (levels : AllPairs (λ (a : Entry) (b : Entry). a.level ≤ b.level) xs)
    (place : ℕ) (now : Entry) (here : slice_get xs place ≡ Some now) where
  abbrev NoOther : Entry → Type 0
  NoOther = IsNoOther l t running now.level now.var

  long : place ≤ length xs
  long = let within = slice_get_within xs place now here in omega (arith, within)

  pub scan_starts : All (IsNoOther l t running now.level now.var) (drop place (take place xs))
  scan_starts =
      let taken : length (take place xs) ≡ place = length-take-le place xs long in
      All-same NoOther (drop place (take place xs)) [] (drop_all place (take place xs) (omega (arith, taken))) (All-nil NoOther)

  pub scan_goes_on : (i : ℕ) (x : Entry) → 0 < i → i ≤ place → slice_get xs (i - 1) ≡ Some x → PassesOrIs l t running now.var x
      → All (IsNoOther l t running now.level now.var) (drop i (take place xs))
      → All (IsNoOther l t running now.level now.var) (drop (i - 1) (take place xs))
  scan_goes_on i x some below at passes later =
      let less : i - 1 < place = omega (arith, some, below) in
      scan_back NoOther (take place xs) i x some (slice_get_taken xs place (i - 1) x long less at) (other_or_no l t running now.var now.level x passes) later

  pub scan_finds : (i : ℕ) (x : Entry) → 0 < i → i ≤ place → slice_get xs (i - 1) ≡ Some x → now.level ≤ x.level → MattersOf l t running now.var x
      → Any (IsOther l t running now.level now.var) (take place xs)
  scan_finds i x some below at level matters =
      let less : i - 1 < place = omega (arith, some, below) in
      let taken : slice_get (take place xs) (i - 1) ≡ Some x = slice_get_taken xs place (i - 1) x long less at in
      let order : i - 1 ≤ place = omega (arith, less) in
      let rise : x.level ≤ now.level = levels_rise xs levels (i - 1) place x now at here order in (
        i - 1,
        x,
        slice_get_within (take place xs) (i - 1) x taken,
        get_or_from_slice_get (take place xs) (i - 1) x x taken,
        record { level_is = omega (arith, level, rise); other = matters.0; matters = matters.1 },
      )

  pub scan_stops : (i : ℕ) (x : Entry) → 0 < i → i ≤ place → slice_get xs (i - 1) ≡ Some x → x.level < now.level
      → All (IsNoOther l t running now.level now.var) (drop i (take place xs))
      → All (IsNoOther l t running now.level now.var) (take place xs)
  scan_stops i x some below at lower later = All-from_get_or NoOther (take place xs) x (λ k within. each k within)
    where
      taken : length (take place xs) ≡ place
      taken = length-take-le place xs long

      each : (k : ℕ) → k < length (take place xs) → NoOther (get_or (take place xs) k x)
      each k within = elim (cases_lt k i) [
        | inl before ↦
            let inside : k < place = omega (arith, taken, within) in
            let order : k ≤ i - 1 = omega (arith, before) in
            let whole : slice_get xs k ≡ Some (get_or xs k x) = slice_get-get_or xs k x (omega (arith, inside, long)) in
            let rise : (get_or xs k x).level ≤ x.level = levels_rise xs levels k (i - 1) (get_or xs k x) x whole at order in
            let same : get_or (take place xs) k x ≡ get_or xs k x = get_or-take place xs k x inside in
            let apart : (get_or xs k x).level ≡ now.level → ⊥ = λ e. omega (arith, e, rise, lower) in
            subst NoOther (sym same) (λ e other. absurd (apart e))
        | inr after ↦
            let at_rest : i + (k - i) ≡ k = omega (arith, after) in
            let rest_long : length (drop i (take place xs)) ≡ length (take place xs) - i = length-drop i (take place xs) in
            let inside : k - i < length (drop i (take place xs)) = omega (arith, rest_long, within, after) in
            let of_rest : get_or (drop i (take place xs)) (k - i) x ≡ get_or (take place xs) k x =
            get_or-drop i (take place xs) (k - i) x ∙ ap (λ n. get_or (take place xs) n x) at_rest in
            subst NoOther of_rest (All-get_or NoOther (drop i (take place xs)) (k - i) x inside later)
      ]

pub old_at : {X : Type 0} (P : X → Type 0) (xs : List X) (i : ℕ) (x : X) → slice_get xs i ≡ Some x → All P xs → P x
old_at P xs i x at all = subst P (get_or_from_slice_get xs i x x at) (All-get_or P xs i x (slice_get_within xs i x at) all)
