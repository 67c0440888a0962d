-- Readable states, trails and legal states: what changes leave of them.
use Rattle.std.proofs.Common.{◌≡◌, ℕ, ◌+◌, ◌<◌, Bool, true, List, [], ◌∷◌, ◌++◌, length, get_or, map, refl, sym, ap, ◌∙◌, subst, arith}
use Rattle.std.specs.Prelude.{slice_get, All}
use Rattle.std.specs.Option.{option_map_or}
use Rattle.std.proofs.lemmas.List.{reverse-append, length-append}
use Rattle.std.proofs.lemmas.List.Elements.{All-push, All-from_recursion}
use Rattle.std.proofs.lemmas.Option.{slice_get-get_or}
use Rattle.set_meaning.specs.declared.kinds.Value.{Value}
use Rattle.set_meaning.specs.declared.problems.BoxId.{BoxId}
use Rattle.set_meaning.specs.declared.problems.VarId.{VarId}
use Rattle.set_meaning.specs.declared.problems.Problem.{Problem}
use Rattle.bit_layout.specs.Order.{LayoutState}
use Rattle.diagram_arena.specs.declared.nodes.Ref.{Ref}
use Rattle.diagram_arena.specs.declared.nodes.Ref.TheVariants.{Zero}
use Rattle.diagram_arena.specs.Table.{Table}
use Rattle.search_rules.specs.Family.{put, without}
use Rattle.search_rules.specs.Trail as rules
use Rattle.search_rules.specs.State.{IsLegal}
use Rattle.search_rules.specs.Measure.{measure}
use Rattle.search_rules.proofs.TrailLemmas.{trail_rest, cut_trail}
use Rattle.exact_steps.specs.Domains.{values_in, IsDomain, AreDomains, family}
use Rattle.problem_rules.specs.Posed.{problem_of}
use Rattle.domain_trail.specs.declared.entries.Entry.{Entry}
use Rattle.domain_trail.specs.declared.entries.Reason.{Reason}
use Rattle.domain_trail.specs.declared.entries.Reason.TheVariants as why
use Rattle.domain_trail.specs.Trail as trail
use Rattle.domain_trail.specs.Trail.{TrailState, newest_first, IsUndone, IsUndoneTo}
use Rattle.box_clauses.specs.declared.sides.Side.{Side}
use Rattle.box_clauses.specs.declared.store.StoredBox.{StoredBox}
use Rattle.box_clauses.specs.Boxes.{box_of, AreSides}
use Rattle.box_clauses.specs.Stored.{stored as stored_box}
use Rattle.search_state.specs.Readings.{sides_at, boxes_of, entry_of, entries_of, reason_of, IsKnown, IsEntry, AreReadable, IsTrailOf, IsLegalState}
use Rattle.search_state.specs.Turns.{measure_of}
use Rattle.search_state.proofs.Lists.{all_unreversed, get_end}
use Rattle.search_state.proofs.Changes.{DomainLaws, domains_with, family_with, top_reads, Entries, newest_are, undo_domains, undo_reads, cut_are, cut_reads, back_domains, back_reads, boxes_added, entries_among_more, narrowing_added}

-- a fact of entries and a family holds of what reads as them
pub reads_as : (P : List (rules.Entry Value) → (ℕ → Value → Bool) → Type 0) (es now : List (rules.Entry Value)) (f g : ℕ → Value → Bool) → now ≡ es → g ≡ f → P es f → P now g
reads_as P es now f g same_es same_f h = subst (λ xs. P xs g) (sym same_es) (subst (λ (x : ℕ → Value → Bool). P es x) (sym same_f) h)

-- the level is that of the newest entry, however it is read
pub level_reads : (l : LayoutState) (t : Table) (stored : List StoredBox) (s : TrailState) → s.level ≡ trail.top (newest_first s) → s.level ≡ rules.top (entries_of l t stored s.entries)
level_reads l t stored s level = level ∙ sym (top_reads l t stored (newest_first s))

-- ---- narrowings

pub not_decided : (l : LayoutState) (t : Table) (stored : List StoredBox) (reason : Reason) → (reason ≡ why.Decision → ⊥) → reason_of l t stored reason ≡ rules.Decision → ⊥
not_decided l t stored why.Decision made same = made refl
not_decided l t stored (why.Constraint c) made same = cc
not_decided l t stored (why.Box b) made same = cc

-- the entry of a narrowing is one of the trail's
entry_is : (l : LayoutState) (t : Table) (stored : List StoredBox) (s : TrailState) (v : VarId) (reason : Reason) → AreDomains l t s.domains → v.0 < length l.kinds → IsKnown stored reason
    → IsEntry l t stored (trail.entry_of s v reason)
entry_is l t stored s v reason are known names =
    let within : v.0 < length s.domains = subst (λ n. v.0 < n) (sym are.long) known in
    record {
      known = known;
      before = are.each v (get_or s.domains v.0 Zero) (slice_get-get_or s.domains v.0 Zero within);
      reason = names;
    }

pub readable_narrowed : (laws : DomainLaws) (l : LayoutState) (t : Table) (stored : List StoredBox) (s : TrailState) (v : VarId) (to : Ref) (reason : Reason)
    → AreReadable l t stored s → v.0 < length l.kinds → IsDomain l t v to → IsKnown stored reason → AreReadable l t stored (trail.narrowed s v to reason)
readable_narrowed laws l t stored s v to reason are known is names = record {
  domains = domains_with laws l t s.domains v to are.domains (subst (λ n. v.0 < n) (sym are.domains.long) known) is;
  entries = All-push (IsEntry l t stored) s.entries (trail.entry_of s v reason) are.entries (entry_is l t stored s v reason are.domains known names);
  boxes = are.boxes;
}

pub state_narrowed : (laws : DomainLaws) (p : Problem) (l : LayoutState) (t : Table) (answers : List (ℕ → Value)) (stored : List StoredBox) (s : TrailState) (v : VarId) (to : Ref) (reason : Reason)
    → AreReadable l t stored s → v.0 < length l.kinds → IsDomain l t v to → IsKnown stored reason
    → IsLegal (problem_of p) answers (boxes_of l t stored) (entries_of l t stored (trail.narrowed s v to reason).entries) (family l t (trail.narrowed s v to reason).domains)
    → IsLegalState p l t answers stored (trail.narrowed s v to reason)
state_narrowed laws p l t answers stored s v to reason are known is names legal = record {
  readable = readable_narrowed laws l t stored s v to reason are known is names;
  level = level_reads l t stored (trail.narrowed s v to reason) (sym (ap trail.top (reverse-append s.entries (trail.entry_of s v reason ∷ []))));
  legal = legal;
}

-- by an entry `e` of search_rules, as the readings are
pub after_narrowing : (laws : DomainLaws) (p : Problem) (l : LayoutState) (t : Table) (answers : List (ℕ → Value)) (stored : List StoredBox) (s : TrailState) (v : VarId) (to : Ref) (reason : Reason) (e : rules.Entry Value)
    → AreReadable l t stored s → v.0 < length l.kinds → IsDomain l t v to → IsKnown stored reason
    → entries_of l t stored (trail.narrowed s v to reason).entries ≡ e ∷ entries_of l t stored s.entries
    → IsLegal (problem_of p) answers (boxes_of l t stored) (e ∷ entries_of l t stored s.entries) (put (family l t s.domains) v.0 (values_in l t v to))
    → measure (problem_of p) (e ∷ entries_of l t stored s.entries) (put (family l t s.domains) v.0 (values_in l t v to)) < measure_of p l t stored s
    → IsLegalState p l t answers stored (trail.narrowed s v to reason) × (measure_of p l t stored (trail.narrowed s v to reason) < measure_of p l t stored s)
after_narrowing laws p l t answers stored s v to reason e are known is names entries legal falls =
    let now : List (rules.Entry Value) = entries_of l t stored (trail.narrowed s v to reason).entries in
    let es : List (rules.Entry Value) = e ∷ entries_of l t stored s.entries in
    let f : ℕ → Value → Bool = put (family l t s.domains) v.0 (values_in l t v to) in
    let g : ℕ → Value → Bool = family l t (trail.narrowed s v to reason).domains in
    let same : g ≡ f = family_with laws l t s.domains v to are.domains (subst (λ n. v.0 < n) (sym are.domains.long) known) in (
      state_narrowed laws p l t answers stored s v to reason are known is names
          (reads_as (IsLegal (problem_of p) answers (boxes_of l t stored)) es now f g entries same legal),
      reads_as (λ xs h. measure (problem_of p) xs h < measure_of p l t stored s) es now f g entries same falls,
    )

-- ---- the newest entry undone

entries_back : (l : LayoutState) (t : Table) (stored : List StoredBox) (s : TrailState) → Entries l t stored (newest_first s) → All (IsEntry l t stored) s.entries
entries_back l t stored s each = all_unreversed (IsEntry l t stored) s.entries (All-from_recursion (IsEntry l t stored) (newest_first s) each)

of_undone : (l : LayoutState) (t : Table) (stored : List StoredBox) (old new : TrailState) → (undone : IsUndone old new) → AreReadable l t stored old
    → Entries l t stored (undone.entry ∷ newest_first new)
of_undone l t stored old new undone are = subst (Entries l t stored) undone.newest (newest_are l t stored old are.entries)

pub entries_undone : (l : LayoutState) (t : Table) (stored : List StoredBox) (old new : TrailState) → (undone : IsUndone old new)
    → entries_of l t stored old.entries ≡ entry_of l t stored undone.entry ∷ entries_of l t stored new.entries
entries_undone l t stored old new undone = ap (map (entry_of l t stored)) undone.newest

pub family_undone : (laws : DomainLaws) (l : LayoutState) (t : Table) (stored : List StoredBox) (old new : TrailState) → (undone : IsUndone old new) → AreReadable l t stored old
    → family l t new.domains ≡ rules.undo (family l t old.domains) (entry_of l t stored undone.entry)
family_undone laws l t stored old new undone are =
    ap (family l t) undone.domains ∙ undo_reads laws l t stored old.domains undone.entry are.domains (of_undone l t stored old new undone are).0

pub readable_undone : (laws : DomainLaws) (l : LayoutState) (t : Table) (stored : List StoredBox) (old new : TrailState) → IsUndone old new → AreReadable l t stored old → AreReadable l t stored new
readable_undone laws l t stored old new undone are =
    let each : Entries l t stored (undone.entry ∷ newest_first new) = of_undone l t stored old new undone are in
    record {
      domains = subst (AreDomains l t) (sym undone.domains) (undo_domains laws l t stored old.domains undone.entry are.domains each.0);
      entries = entries_back l t stored new each.1;
      boxes = are.boxes;
    }

-- a fact that undoing keeps stays one of what is read
keeps_undone : (laws : DomainLaws) (l : LayoutState) (t : Table) (stored : List StoredBox) (old new : TrailState) (P : List (rules.Entry Value) → (ℕ → Value → Bool) → Type 0)
    → ((e : rules.Entry Value) (es : List (rules.Entry Value)) (f : ℕ → Value → Bool) → P (e ∷ es) f → P es (rules.undo f e))
    → IsUndone old new → AreReadable l t stored old → P (entries_of l t stored old.entries) (family l t old.domains) → P (entries_of l t stored new.entries) (family l t new.domains)
keeps_undone laws l t stored old new P law undone are h =
    subst (λ (f : ℕ → Value → Bool). P (entries_of l t stored new.entries) f) (sym (family_undone laws l t stored old new undone are))
    (law (entry_of l t stored undone.entry) (entries_of l t stored new.entries) (family l t old.domains)
    (subst (λ es. P es (family l t old.domains)) (entries_undone l t stored old new undone) h))

pub trail_undone : (laws : DomainLaws) (p : Problem) (l : LayoutState) (t : Table) (stored : List StoredBox) (old new : TrailState) → IsUndone old new → IsTrailOf p l t stored old → IsTrailOf p l t stored new
trail_undone laws p l t stored old new undone is = record {
  readable = readable_undone laws l t stored old new undone is.readable;
  level = level_reads l t stored new undone.level;
  trail = keeps_undone laws l t stored old new (rules.IsTrail (problem_of p) (boxes_of l t stored)) (λ e es f h. trail_rest h) undone is.readable is.trail;
}

pub state_undone : (laws : DomainLaws) (p : Problem) (l : LayoutState) (t : Table) (answers : List (ℕ → Value)) (stored : List StoredBox) (old new : TrailState)
    → ((e : rules.Entry Value) (es : List (rules.Entry Value)) (f : ℕ → Value → Bool) → IsLegal (problem_of p) answers (boxes_of l t stored) (e ∷ es) f
    → IsLegal (problem_of p) answers (boxes_of l t stored) es (rules.undo f e))
    → IsUndone old new → IsLegalState p l t answers stored old → IsLegalState p l t answers stored new
state_undone laws p l t answers stored old new law undone is = record {
  readable = readable_undone laws l t stored old new undone is.readable;
  level = level_reads l t stored new undone.level;
  legal = keeps_undone laws l t stored old new (IsLegal (problem_of p) answers (boxes_of l t stored)) law undone is.readable is.legal;
}

-- ---- undone to a level

pub entries_cut : (l : LayoutState) (t : Table) (stored : List StoredBox) (k : ℕ) (old new : TrailState) → IsUndoneTo k old new
    → entries_of l t stored new.entries ≡ rules.cut k (entries_of l t stored old.entries)
entries_cut l t stored k old new undone = ap (map (entry_of l t stored)) undone.entries ∙ cut_reads l t stored k (newest_first old)

pub family_back : (laws : DomainLaws) (l : LayoutState) (t : Table) (stored : List StoredBox) (k : ℕ) (old new : TrailState) → IsUndoneTo k old new → AreReadable l t stored old
    → family l t new.domains ≡ rules.back k (entries_of l t stored old.entries) (family l t old.domains)
family_back laws l t stored k old new undone are =
    ap (family l t) undone.domains ∙ back_reads laws l t stored k (newest_first old) old.domains are.domains (newest_are l t stored old are.entries)

pub readable_cut : (laws : DomainLaws) (l : LayoutState) (t : Table) (stored : List StoredBox) (k : ℕ) (old new : TrailState) → IsUndoneTo k old new → AreReadable l t stored old → AreReadable l t stored new
readable_cut laws l t stored k old new undone are =
    let each : Entries l t stored (newest_first old) = newest_are l t stored old are.entries in
    record {
      domains = subst (AreDomains l t) (sym undone.domains) (back_domains laws l t stored k (newest_first old) old.domains are.domains each);
      entries = entries_back l t stored new (subst (Entries l t stored) (sym undone.entries) (cut_are l t stored k (newest_first old) each));
      boxes = are.boxes;
    }

keeps_cut : (laws : DomainLaws) (l : LayoutState) (t : Table) (stored : List StoredBox) (k : ℕ) (old new : TrailState) (P : List (rules.Entry Value) → (ℕ → Value → Bool) → Type 0)
    → ((es : List (rules.Entry Value)) (f : ℕ → Value → Bool) → P es f → P (rules.cut k es) (rules.back k es f))
    → IsUndoneTo k old new → AreReadable l t stored old → P (entries_of l t stored old.entries) (family l t old.domains) → P (entries_of l t stored new.entries) (family l t new.domains)
keeps_cut laws l t stored k old new P law undone are h =
    let es : List (rules.Entry Value) = entries_of l t stored old.entries in
    let f : ℕ → Value → Bool = family l t old.domains in
    reads_as P (rules.cut k es) (entries_of l t stored new.entries) (rules.back k es f) (family l t new.domains) (entries_cut l t stored k old new undone) (family_back laws l t stored k old new undone are) (law es f h)

pub trail_cut : (laws : DomainLaws) (p : Problem) (l : LayoutState) (t : Table) (stored : List StoredBox) (k : ℕ) (old new : TrailState) → IsUndoneTo k old new → IsTrailOf p l t stored old → IsTrailOf p l t stored new
trail_cut laws p l t stored k old new undone is = record {
  readable = readable_cut laws l t stored k old new undone is.readable;
  level = level_reads l t stored new undone.level;
  trail = keeps_cut laws l t stored k old new (rules.IsTrail (problem_of p) (boxes_of l t stored)) (λ es f h. cut_trail k h) undone is.readable is.trail;
}

pub state_cut : (laws : DomainLaws) (p : Problem) (l : LayoutState) (t : Table) (answers : List (ℕ → Value)) (stored : List StoredBox) (k : ℕ) (old new : TrailState)
    → ((es : List (rules.Entry Value)) (f : ℕ → Value → Bool) → IsLegal (problem_of p) answers (boxes_of l t stored) es f
    → IsLegal (problem_of p) answers (boxes_of l t stored) (rules.cut k es) (rules.back k es f))
    → IsUndoneTo k old new → IsLegalState p l t answers stored old → IsLegalState p l t answers stored new
state_cut laws p l t answers stored k old new law undone is = record {
  readable = readable_cut laws l t stored k old new undone is.readable;
  level = level_reads l t stored new undone.level;
  legal = keeps_cut laws l t stored k old new (IsLegal (problem_of p) answers (boxes_of l t stored)) law undone is.readable is.legal;
}

-- ---- a longer store

known_more : (stored : List StoredBox) (added : StoredBox) (reason : Reason) → IsKnown stored reason → IsKnown (stored ++ added ∷ []) reason
known_more stored added why.Decision known = tt
known_more stored added (why.Constraint c) known = tt
known_more stored added (why.Box b) known =
    let long : length (stored ++ added ∷ []) ≡ length stored + 1 = length-append stored (added ∷ []) in
    let below : b.0 < length stored = known in
    omega (arith, long, below)

pub readable_with : (l : LayoutState) (t : Table) (stored : List StoredBox) (added : StoredBox) (s : TrailState) → AreReadable l t stored s → AreSides l t added.sides → AreReadable l t (stored ++ added ∷ []) s
readable_with l t stored added s are sides = record {
  domains = are.domains;
  entries = λ k d within.
      let e = get_or s.entries k d in
      let is : IsEntry l t stored e = are.entries k d within in
      record { known = is.known; before = is.before; reason = known_more stored added e.reason is.reason };
  boxes = All-push (λ (b : StoredBox). AreSides l t b.sides) stored added are.boxes sides;
}

-- where the trail `s` is read, the box is added, and what is read is legal
pub state_with : (p : Problem) (l : LayoutState) (t : Table) (answers : List (ℕ → Value)) (stored : List StoredBox) (s : TrailState) (sides : List Side) (line : ℕ) (learned : Bool)
    → AreReadable l t stored s → s.level ≡ rules.top (entries_of l t stored s.entries) → AreSides l t sides
    → IsLegal (problem_of p) answers (record { sides = box_of l t sides; learned = learned } ∷ boxes_of l t stored) (entries_of l t stored s.entries) (family l t s.domains)
    → IsLegalState p l t answers (stored ++ stored_box sides line learned ∷ []) s
state_with p l t answers stored s sides line learned are level each legal =
    let added : StoredBox = stored_box sides line learned in
    let same = entries_among_more l t stored added s.entries are.entries in
    record {
      readable = readable_with l t stored added s are each;
      level = subst (λ es. s.level ≡ rules.top es) (sym same) level;
      legal = subst (λ bs. IsLegal (problem_of p) answers bs (entries_of l t (stored ++ added ∷ []) s.entries) (family l t s.domains)) (sym (boxes_added l t stored added))
          (subst (λ es. IsLegal (problem_of p) answers (record { sides = box_of l t sides; learned = learned } ∷ boxes_of l t stored) es (family l t s.domains)) (sym same) legal);
    }

-- ---- the turn of a conflict

box_at_end : (l : LayoutState) (t : Table) (stored : List StoredBox) (added : StoredBox) (id : ℕ) → id ≡ length stored → box_of l t (sides_at (stored ++ added ∷ []) id) ≡ box_of l t added.sides
box_at_end l t stored added id is =
    ap (λ o. box_of l t (option_map_or (λ (s : StoredBox). s.sides) o [])) (ap (slice_get (stored ++ added ∷ [])) is ∙ get_end stored added)

known_at_end : (stored : List StoredBox) (added : StoredBox) (id : ℕ) → id ≡ length stored → id < length (stored ++ added ∷ [])
known_at_end stored added id is = let long : length (stored ++ added ∷ []) ≡ length stored + 1 = length-append stored (added ∷ []) in omega (arith, long, is)

-- the newest box narrows, where the trail `new` reads as the entries `es` and the family `f`
pub state_turned : (laws : DomainLaws) (p : Problem) (l : LayoutState) (t : Table) (answers : List (ℕ → Value)) (stored : List StoredBox) (new : TrailState) (sides : List Side) (line : ℕ) (v : VarId) (to : Ref) (id : BoxId)
    (es : List (rules.Entry Value)) (f : ℕ → Value → Bool) (m : ℕ)
    → IsLegalState p l t answers (stored ++ stored_box sides line true ∷ []) new → v.0 < length l.kinds → IsDomain l t v to → id.0 ≡ length stored
    → entries_of l t (stored ++ stored_box sides line true ∷ []) new.entries ≡ es → family l t new.domains ≡ f
    → values_in l t v to ≡ without (family l t new.domains v.0) (box_of l t sides v.0)
    → IsLegal (problem_of p) answers (record { sides = box_of l t sides; learned = true } ∷ boxes_of l t stored) (rules.narrowing_entry es f v.0 (rules.ByBox (box_of l t sides)) ∷ es)
    (put f v.0 (without (f v.0) (box_of l t sides v.0)))
    → measure (problem_of p) (rules.narrowing_entry es f v.0 (rules.ByBox (box_of l t sides)) ∷ es) (put f v.0 (without (f v.0) (box_of l t sides v.0))) < m
    → IsLegalState p l t answers (stored ++ stored_box sides line true ∷ []) (trail.narrowed new v to (why.Box id))
    × (measure_of p l t (stored ++ stored_box sides line true ∷ []) (trail.narrowed new v to (why.Box id)) < m)
state_turned laws p l t answers stored new sides line v to id es f m state known is last same_es same_f left legal falls = (
  state_narrowed laws p l t answers now new v to (why.Box id) state.readable known is (known_at_end stored (stored_box sides line true) id.0 last)
      (subst (λ bs. IsLegal (problem_of p) answers bs (entries_of l t now after.entries) (family l t after.domains)) (sym (boxes_added l t stored (stored_box sides line true)))
      (reads_as (IsLegal (problem_of p) answers (record { sides = b; learned = true } ∷ boxes_of l t stored)) (e ∷ es) (entries_of l t now after.entries) g (family l t after.domains) entries sets legal)),
  reads_as (λ xs h. measure (problem_of p) xs h < m) (e ∷ es) (entries_of l t now after.entries) g (family l t after.domains) entries sets falls,
)
  where
    now : List StoredBox
    now = stored ++ stored_box sides line true ∷ []

    after : TrailState
    after = trail.narrowed new v to (why.Box id)

    b : ℕ → Value → Bool
    b = box_of l t sides

    e : rules.Entry Value
    e = rules.narrowing_entry es f v.0 (rules.ByBox b)

    g : ℕ → Value → Bool
    g = put f v.0 (without (f v.0) (b v.0))

    within : v.0 < length new.domains
    within = subst (λ n. v.0 < n) (sym state.readable.domains.long) known

    entries : entries_of l t now after.entries ≡ e ∷ es
    entries =
        narrowing_added l t now new v to (why.Box id) within state.level
        ∙ ap (λ xs. rules.narrowing_entry xs (family l t new.domains) v.0 (rules.ByBox (box_of l t (sides_at now id.0))) ∷ xs) same_es
        ∙ ap (λ (h : ℕ → Value → Bool). rules.narrowing_entry es h v.0 (rules.ByBox (box_of l t (sides_at now id.0))) ∷ es) same_f
        ∙ ap (λ (h : ℕ → Value → Bool). rules.narrowing_entry es f v.0 (rules.ByBox h) ∷ es) (box_at_end l t stored (stored_box sides line true) id.0 last)

    sets : family l t after.domains ≡ g
    sets =
        family_with laws l t new.domains v to state.readable.domains within
        ∙ ap (λ (s : Value → Bool). put (family l t new.domains) v.0 s) left
        ∙ ap (λ (h : ℕ → Value → Bool). put h v.0 (without (h v.0) (b v.0))) same_f
