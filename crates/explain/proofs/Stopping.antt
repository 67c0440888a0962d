-- Where the walk stops.
use Rattle.std.proofs.Common.{◌≡◌, ◌≢◌, ℕ, ◌+◌, ◌-◌, ◌<◌, ◌≤◌, Bool, List, [], ◌∷◌, ◌++◌, length, take, drop, map, reverse, Some, refl, sym, ap, ◌∙◌, subst, arith, true, false, inl, inr}
use Rattle.std.specs.Prelude.{slice_get, not, MatchBool, IsTrue, ◌↔◌}
use Rattle.std.specs.List.{All, Any, AllPairs}
use Rattle.std.proofs.lemmas.Bool.{cases_lt, both_ways}
use Rattle.std.proofs.lemmas.List.{reverse-reverse, reverse-append, length-reverse, get_or-reverse}
use Rattle.std.proofs.lemmas.List.Elements.{All-nil, All-cons, All-weaker, All-get_or}
use Rattle.std.proofs.lemmas.List.Quantifiers.{all_pairs_push}
use Rattle.std.proofs.lemmas.Option.{same_Some}
use Rattle.set_meaning.specs.declared.kinds.Value.{Value}
use Rattle.set_meaning.specs.declared.problems.Problem.{Problem}
use Rattle.set_meaning.specs.declared.problems.VarId.{VarId}
use Rattle.bit_layout.specs.Order.{LayoutState}
use Rattle.diagram_arena.specs.declared.nodes.Ref.{Ref}
use Rattle.diagram_arena.specs.Table.{Table}
use Rattle.search_rules.specs.Family.{Lies}
use Rattle.search_rules.specs.Trail as rules
use Rattle.search_rules.specs.Walk.{GoesOn, Stops, SomeMatters}
use Rattle.search_moves.specs.Scans.{NoneMatters}
use Rattle.exact_steps.specs.Domains.{values_in, family}
use Rattle.problem_rules.specs.Posed.{problem_of}
use Rattle.domain_trail.specs.declared.entries.Entry.{Entry}
use Rattle.domain_trail.specs.Trail.{TrailState, newest_first, top, HaveLevels}
use Rattle.box_clauses.specs.declared.store.StoredBox.{StoredBox}
use Rattle.search_state.specs.Readings.{boxes_of, entry_of, entries_of, IsEntry, IsTrailOf}
use Rattle.explain.specs.Scans.{IsOld, IsNewest, IsOther, IsNoOther}
use Rattle.explain.specs.Work.{IsStopAt}
use Rattle.explain.specs.WalkLaws.{StoppingLaws}

-- ---- levels by place

all_reversed : {X : Type 0} (P : X → Type 0) (xs : List X) → All P xs → All P (reverse xs)
all_reversed P xs all k d within =
    let long = length-reverse xs in
    let below : k < length xs = omega (arith, long, within) in
    let back : length xs - 1 - k < length xs = omega (arith, below) in
    subst P (sym (get_or-reverse xs k d below)) (all (length xs - 1 - k) d back)

pub top_reads : (l : LayoutState) (t : Table) (stored : List StoredBox) (es : List Entry) → rules.top (map (entry_of l t stored) es) ≡ top es
top_reads l t stored [] = refl
top_reads l t stored (e ∷ es) = refl

abbrev pub Rises : Entry → Entry → Type 0
Rises a b = a.level ≤ b.level

levels_read : (p : Problem) (l : LayoutState) (t : Table) (stored : List StoredBox) (es : List Entry) (f : ℕ → Value → Bool)
    → rules.Replays (problem_of p) (map (entry_of l t stored) es) f → HaveLevels es
levels_read p l t stored [] f replays = tt
levels_read p l t stored (e ∷ es) f (is, more) =
    let low = is.low in
    let same = top_reads l t stored es in
    (omega (arith, low, same), levels_read p l t stored es (rules.undo f (entry_of l t stored e)) more)

below_top : (es : List Entry) → HaveLevels es → All (λ (x : Entry). x.level ≤ top es) es
below_top [] levels = All-nil (λ (x : Entry). x.level ≤ 0)
below_top (e ∷ es) (low, levels) =
    All-cons (λ (x : Entry). x.level ≤ e.level) e es (omega arith)
    (All-weaker (λ (x : Entry). x.level ≤ top es) (λ (x : Entry). x.level ≤ e.level) (λ x below. omega (arith, below, low)) es (below_top es levels))

pairs_rise : (es : List Entry) → HaveLevels es → AllPairs Rises (reverse es)
pairs_rise [] levels = λ i j d before within. absurd (let none : j < 0 = within in omega (arith, none))
pairs_rise (e ∷ es) (low, levels) =
    subst (AllPairs Rises) (sym (reverse-append (e ∷ []) es))
    (all_pairs_push Rises (reverse es) e (pairs_rise es levels)
    (λ k d within.
    let below = All-get_or (λ (x : Entry). x.level ≤ top es) (reverse es) k d within (all_reversed (λ (x : Entry). x.level ≤ top es) es (below_top es levels)) in
    omega (arith, below, low)))

pub trail_rises : (p : Problem) (l : LayoutState) (t : Table) (stored : List StoredBox) (s : TrailState) → IsTrailOf p l t stored s
    → AllPairs (λ (a : Entry) (b : Entry). a.level ≤ b.level) s.entries
trail_rises p l t stored s is =
    subst (AllPairs Rises) (reverse-reverse s.entries)
    (pairs_rise (newest_first s) (levels_read p l t stored (newest_first s) (family l t s.domains) is.trail.replays))

pub trail_old : (p : Problem) (l : LayoutState) (t : Table) (stored : List StoredBox) (s : TrailState) → IsTrailOf p l t stored s
    → All (IsOld l t) s.entries
trail_old p l t stored s is =
    All-weaker (IsEntry l t stored) (IsOld l t) (λ e h. record { known = h.known; before = h.before }) s.entries is.readable.entries

-- ---- at the newest entry that matters

pub not_root : (r : Bool) (n : ℕ) → (IsTrue r ↔ n ≡ 0) → r ≡ false → n ≡ 0 → ⊥
not_root r n both no_root zero = both_ways r no_root (both.1 zero)

same_var : (v w : VarId) → v.0 ≡ w.0 → v ≡ w
same_var v w e = ap (λ (n : ℕ). let x : VarId = record { 0 = n } in x) e

module _ (p : Problem) (laws : StoppingLaws p) (l : LayoutState) (t : Table) (stored : List StoredBox) (s : TrailState) (running : List Ref) (place : ℕ)
    (is : IsTrailOf p l t stored s) (newest : IsNewest l t running s.entries place) where
  abbrev earlier : List Entry
  earlier = take place s.entries

  abbrev passed : List (rules.Entry Value)
  passed = entries_of l t stored (drop (place + 1) s.entries)

  abbrev rest : List (rules.Entry Value)
  rest = entries_of l t stored earlier

  abbrev here : rules.Entry Value
  here = entry_of l t stored newest.entry

  parts : entries_of l t stored s.entries ≡ passed ++ here ∷ rest
  parts = laws.split l t stored s.entries place newest.entry newest.there

  none_passed : NoneMatters passed (family l t running)
  none_passed = laws.none l t stored (drop (place + 1) s.entries) (family l t running) newest.later

  trail_parts : rules.IsTrail (problem_of p) (boxes_of l t stored) (passed ++ here ∷ rest) (family l t s.domains)
  trail_parts = subst (λ (xs : List (rules.Entry Value)). rules.IsTrail (problem_of p) (boxes_of l t stored) xs (family l t s.domains)) parts is.trail

  whole : GoesOn (passed ++ here ∷ rest) (family l t running) → GoesOn (entries_of l t stored s.entries) (family l t running)
  whole = subst (λ (xs : List (rules.Entry Value)). GoesOn xs (family l t running)) (sym parts)

  pub root_goes_on : (e : Entry) → slice_get s.entries place ≡ Some e → e.level ≡ 0 → GoesOn (entries_of l t stored s.entries) (family l t running)
  root_goes_on e at zero =
      let same : newest.entry.level ≡ 0 = ap (λ (x : Entry). x.level) (same_Some newest.entry e (sym newest.there ∙ at)) ∙ zero in
      whole (laws.root (boxes_of l t stored) here passed rest (family l t s.domains) (family l t running) trail_parts none_passed same)

  pub two_go_on : Any (IsOther l t running newest.entry.level newest.entry.var) (take place s.entries)
      → GoesOn (entries_of l t stored s.entries) (family l t running)
  two_go_on (k, x, within, at, other) =
      whole (laws.two (boxes_of l t stored) here passed rest (family l t s.domains) (family l t running) x.var.0 trail_parts none_passed newest.matters
      (subst (λ (n : ℕ). SomeMatters rest (family l t running) n x.var.0) other.level_is
      (laws.some l t stored earlier (family l t running) x (k, within, at) other.matters))
      (λ same. other.other (same_var x.var newest.entry.var same)))

  pub one_stops : (e : Entry) → slice_get s.entries place ≡ Some e → (e.level ≡ 0 → ⊥)
      → All (IsNoOther l t running newest.entry.level newest.entry.var) (take place s.entries) → IsStopAt l t stored s.entries place running
  one_stops e at some none =
      let same : newest.entry.level ≡ e.level = ap (λ (x : Entry). x.level) (same_Some newest.entry e (sym newest.there ∙ at)) in
      let above : 0 < newest.entry.level = elim (cases_lt 0 newest.entry.level) [ inl lt ↦ lt | inr le ↦ absurd (some (omega (arith, same, le))) ] in
      record {
        entry = newest.entry;
        there = newest.there;
        stops = subst (λ (xs : List (rules.Entry Value)). Stops xs (family l t running) newest.entry.level newest.entry.var.0) (sym parts)
            (laws.here (boxes_of l t stored) here passed rest (family l t s.domains) (family l t running) trail_parts none_passed newest.matters above
            (laws.no_other l t stored earlier (family l t running) newest.entry.level newest.entry.var.0
            (All-weaker (IsNoOther l t running newest.entry.level newest.entry.var)
            (λ (x : Entry). x.level ≡ newest.entry.level → x.var.0 ≢ newest.entry.var.0 → Lies (values_in l t x.var x.before) (family l t running x.var.0))
            (λ x h level other. h level (λ e. other (ap (λ (v : VarId). v.0) e))) earlier none)));
      }

  pub stop_or_on : (e : Entry) → slice_get s.entries place ≡ Some e → (e.level ≡ 0 → ⊥) → (other : Bool)
      → MatchBool other (Any (IsOther l t running e.level e.var) (take place s.entries)) (All (IsNoOther l t running e.level e.var) (take place s.entries))
      → MatchBool (not other) (IsStopAt l t stored s.entries place running) (GoesOn (entries_of l t stored s.entries) (family l t running))
  stop_or_on e at some true found =
      two_go_on (subst (λ (x : Entry). Any (IsOther l t running x.level x.var) (take place s.entries)) (same_Some e newest.entry (sym at ∙ newest.there)) found)
  stop_or_on e at some false none =
      one_stops e at some (subst (λ (x : Entry). All (IsNoOther l t running x.level x.var) (take place s.entries)) (same_Some e newest.entry (sym at ∙ newest.there)) none)
