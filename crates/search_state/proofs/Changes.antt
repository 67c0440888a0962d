-- How a changed trail and a longer store are read.
use Rattle.std.proofs.Common.{◌≡◌, ℕ, ◌+◌, ◌<◌, ltb, Bool, true, false, cond, List, [], ◌∷◌, ◌++◌, length, get_or, map, reverse, refl, sym, ap, ◌∙◌, subst}
use Rattle.std.specs.Prelude.{All, slice_set}
use Rattle.std.specs.Option.{option_map_or}
use Rattle.std.specs.List.{AllByRecursion}
use Rattle.std.proofs.lemmas.Bool.{lt-ltb, cond-true}
use Rattle.std.proofs.lemmas.List.{reverse-append}
use Rattle.std.proofs.lemmas.List.Elements.{All-contains, recursion_from_All}
use Rattle.std.proofs.lemmas.Option.{slice_get-get_or}
use Rattle.set_meaning.specs.declared.kinds.Value.{Value}
use Rattle.set_meaning.specs.declared.problems.VarId.{VarId}
use Rattle.bit_layout.specs.Order.{LayoutState}
use Rattle.diagram_arena.specs.declared.nodes.Ref.{Ref}
use Rattle.diagram_arena.specs.declared.nodes.Ref.TheVariants.{Zero}
use Rattle.diagram_arena.specs.Table.{Table}
use Rattle.diagram_arena.specs.Arena.{Grows}
use Rattle.search_rules.specs.Family.{put}
use Rattle.search_rules.specs.Trail as rules
use Rattle.exact_steps.specs.Domains.{values_in, IsDomain, AreDomains, family}
use Rattle.domain_trail.specs.declared.entries.Entry.{Entry}
use Rattle.domain_trail.specs.declared.entries.Reason.{Reason}
use Rattle.domain_trail.specs.declared.entries.Reason.TheVariants as why
use Rattle.domain_trail.specs.Trail as trail
use Rattle.domain_trail.specs.Trail.{TrailState, newest_first, IsUndone, IsUndoneTo}
use Rattle.box_clauses.specs.declared.store.StoredBox.{StoredBox}
use Rattle.box_clauses.specs.Boxes.{box_of}
use Rattle.search_state.specs.Readings.{stored_of, boxes_of, reason_of, entry_of, entries_of, IsKnown, IsEntry}
use Rattle.search_state.proofs.Tables.{the_entry}
use Rattle.search_state.proofs.Lists.{all_reversed, in_reversed, map_alike, get_front}

-- ---- narrowed domains, as laws of exact_steps

-- one domain replaced, in tables that grow: there are domains again, and the family has just this set replaced
pub record DomainLaws : Type 0 where
  pub domains : (l : LayoutState) (t u : Table) (domains : List Ref) (v : VarId) (r : Ref) → Grows t u → AreDomains l t domains → v.0 < length domains → IsDomain l u v r → AreDomains l u (slice_set domains v.0 r)
  pub family : (l : LayoutState) (t u : Table) (domains : List Ref) (v : VarId) (r : Ref) → Grows t u → AreDomains l t domains → v.0 < length domains
      → family l u (slice_set domains v.0 r) ≡ put (family l t domains) v.0 (values_in l u v r)

grows_itself : (t : Table) → Grows t t
grows_itself t = record { kept = λ i n h. h; live = λ r h. h; depths = λ r h. refl; words = λ r h w. refl }

pub domains_with : (laws : DomainLaws) (l : LayoutState) (t : Table) (domains : List Ref) (v : VarId) (r : Ref) → AreDomains l t domains → v.0 < length domains → IsDomain l t v r
    → AreDomains l t (slice_set domains v.0 r)
domains_with laws l t domains v r are within is = laws.domains l t t domains v r (grows_itself t) are within is

pub family_with : (laws : DomainLaws) (l : LayoutState) (t : Table) (domains : List Ref) (v : VarId) (r : Ref) → AreDomains l t domains → v.0 < length domains
    → family l t (slice_set domains v.0 r) ≡ put (family l t domains) v.0 (values_in l t v r)
family_with laws l t domains v r are within = laws.family l t t domains v r (grows_itself t) are within

pub family_of : (l : LayoutState) (t : Table) (domains : List Ref) (v : VarId) → v.0 < length domains → family l t domains v.0 ≡ values_in l t v (get_or domains v.0 Zero)
family_of l t domains v within = ap (λ o. λ x. option_map_or (λ r. values_in l t v r x) o true) (slice_get-get_or domains v.0 Zero within)

-- ---- narrowings

pub top_reads : (l : LayoutState) (t : Table) (stored : List StoredBox) (es : List Entry) → rules.top (map (entry_of l t stored) es) ≡ trail.top es
top_reads l t stored [] = refl
top_reads l t stored (e ∷ es) = refl

-- one more entry, at the level `k`
pub entry_added : (l : LayoutState) (t : Table) (stored : List StoredBox) (s : TrailState) (v : VarId) (to : Ref) (reason : Reason) (k : ℕ) → v.0 < length s.domains → s.level ≡ k
    → entries_of l t stored (trail.narrowed s v to reason).entries
    ≡ record { var = v.0; before = family l t s.domains v.0; level = k; reason = reason_of l t stored reason } ∷ entries_of l t stored s.entries
entry_added l t stored s v to reason k within level =
    ap (map (entry_of l t stored)) (reverse-append s.entries (trail.entry_of s v reason ∷ []))
    ∙ ap (λ (x : Value → Bool). the_entry v.0 x s.level (reason_of l t stored reason) ∷ entries_of l t stored s.entries) (sym (family_of l t s.domains v within))
    ∙ ap (λ n. the_entry v.0 (family l t s.domains v.0) n (reason_of l t stored reason) ∷ entries_of l t stored s.entries) level

pub narrowing_added : (l : LayoutState) (t : Table) (stored : List StoredBox) (s : TrailState) (v : VarId) (to : Ref) (reason : Reason) → v.0 < length s.domains → s.level ≡ rules.top (entries_of l t stored s.entries)
    → entries_of l t stored (trail.narrowed s v to reason).entries
    ≡ rules.narrowing_entry (entries_of l t stored s.entries) (family l t s.domains) v.0 (reason_of l t stored reason) ∷ entries_of l t stored s.entries
narrowing_added l t stored s v to reason within level =
    entry_added l t stored s v to reason (rules.top (entries_of l t stored s.entries)) within level

pub decision_added : (l : LayoutState) (t : Table) (stored : List StoredBox) (s : TrailState) (v : VarId) (to : Ref) → v.0 < length s.domains → s.level ≡ rules.top (entries_of l t stored s.entries) + 1
    → entries_of l t stored (trail.narrowed s v to why.Decision).entries
    ≡ rules.decision_entry (entries_of l t stored s.entries) (family l t s.domains) v.0 ∷ entries_of l t stored s.entries
decision_added l t stored s v to within level =
    entry_added l t stored s v to why.Decision (rules.top (entries_of l t stored s.entries) + 1) within level

-- ---- undoing

abbrev pub Entries : LayoutState → Table → List StoredBox → List Entry → Type 0
Entries l t stored es = AllByRecursion (IsEntry l t stored) es

pub newest_are : (l : LayoutState) (t : Table) (stored : List StoredBox) (s : TrailState) → All (IsEntry l t stored) s.entries → Entries l t stored (newest_first s)
newest_are l t stored s all = recursion_from_All (IsEntry l t stored) (newest_first s) (all_reversed (IsEntry l t stored) s.entries all)

-- the entry's variable has a domain, as many as there are kinds
has_domain : (l : LayoutState) (t : Table) (stored : List StoredBox) (domains : List Ref) (e : Entry) → AreDomains l t domains → IsEntry l t stored e → e.var.0 < length domains
has_domain l t stored domains e are is = subst (λ n. e.var.0 < n) (sym are.long) is.known

pub undo_domains : (laws : DomainLaws) (l : LayoutState) (t : Table) (stored : List StoredBox) (domains : List Ref) (e : Entry) → AreDomains l t domains → IsEntry l t stored e
    → AreDomains l t (trail.undo domains e)
undo_domains laws l t stored domains e are is = domains_with laws l t domains e.var e.before are (has_domain l t stored domains e are is) is.before

pub undo_reads : (laws : DomainLaws) (l : LayoutState) (t : Table) (stored : List StoredBox) (domains : List Ref) (e : Entry) → AreDomains l t domains → IsEntry l t stored e
    → family l t (trail.undo domains e) ≡ rules.undo (family l t domains) (entry_of l t stored e)
undo_reads laws l t stored domains e are is = family_with laws l t domains e.var e.before are (has_domain l t stored domains e are is)

pub cut_reads : (l : LayoutState) (t : Table) (stored : List StoredBox) (k : ℕ) (es : List Entry) → map (entry_of l t stored) (trail.cut k es) ≡ rules.cut k (map (entry_of l t stored) es)
cut_reads l t stored k [] = refl
cut_reads l t stored k (e ∷ es) =
    let f : Entry → rules.Entry Value = entry_of l t stored in
    elim (ltb k e.level) as (λ b. map f (cond b (trail.cut k es) (e ∷ es)) ≡ cond b (rules.cut k (map f es)) (f e ∷ map f es)) [
      | true ↦ cut_reads l t stored k es
      | false ↦ refl
    ]

pub back_domains : (laws : DomainLaws) (l : LayoutState) (t : Table) (stored : List StoredBox) (k : ℕ) (es : List Entry) (domains : List Ref) → AreDomains l t domains → Entries l t stored es
    → AreDomains l t (trail.back k es domains)
back_domains laws l t stored k [] domains are all = are
back_domains laws l t stored k (e ∷ es) domains are all =
    elim (ltb k e.level) as (λ b. AreDomains l t (cond b (trail.back k es (trail.undo domains e)) domains)) [
      | true ↦ back_domains laws l t stored k es (trail.undo domains e) (undo_domains laws l t stored domains e are all.0) all.1
      | false ↦ are
    ]

pub back_reads : (laws : DomainLaws) (l : LayoutState) (t : Table) (stored : List StoredBox) (k : ℕ) (es : List Entry) (domains : List Ref) → AreDomains l t domains → Entries l t stored es
    → family l t (trail.back k es domains) ≡ rules.back k (map (entry_of l t stored) es) (family l t domains)
back_reads laws l t stored k [] domains are all = refl
back_reads laws l t stored k (e ∷ es) domains are all =
    let f : Entry → rules.Entry Value = entry_of l t stored in
    elim (ltb k e.level) as (λ b. family l t (cond b (trail.back k es (trail.undo domains e)) domains)
    ≡ cond b (rules.back k (map f es) (rules.undo (family l t domains) (f e))) (family l t domains)) [
      | true ↦
          back_reads laws l t stored k es (trail.undo domains e) (undo_domains laws l t stored domains e are all.0) all.1
          ∙ ap (rules.back k (map f es)) (undo_reads laws l t stored domains e are all.0)
      | false ↦ refl
    ]

pub cut_are : (l : LayoutState) (t : Table) (stored : List StoredBox) (k : ℕ) (es : List Entry) → Entries l t stored es → Entries l t stored (trail.cut k es)
cut_are l t stored k [] all = tt
cut_are l t stored k (e ∷ es) all =
    elim (ltb k e.level) as (λ b. Entries l t stored (cond b (trail.cut k es) (e ∷ es))) [
      | true ↦ cut_are l t stored k es all.1
      | false ↦ all
    ]

-- undone one entry above the level, and then to it
pub undone_again : (k : ℕ) (old now new : TrailState) → (undone : IsUndone old now) → k < undone.entry.level → IsUndoneTo k now new → IsUndoneTo k old new
undone_again k old now new undone above to = record {
  entries = to.entries ∙ sym (ap (trail.cut k) undone.newest ∙ cond-true over (trail.cut k (newest_first now)) (undone.entry ∷ newest_first now) is);
  domains = to.domains ∙ ap (trail.back k (newest_first now)) undone.domains
      ∙ sym (ap (λ es. trail.back k es old.domains) undone.newest ∙ cond-true over (trail.back k (newest_first now) (trail.undo old.domains undone.entry)) old.domains is);
  level = to.level;
}
  where
    over : Bool
    over = ltb k undone.entry.level

    is : ltb k undone.entry.level ≡ true
    is = lt-ltb k undone.entry.level above

-- ---- a longer store

pub boxes_added : (l : LayoutState) (t : Table) (stored : List StoredBox) (added : StoredBox) → boxes_of l t (stored ++ added ∷ []) ≡ stored_of l t added ∷ boxes_of l t stored
boxes_added l t stored added = ap (map (stored_of l t)) (reverse-append stored (added ∷ []))

pub reason_among_more : (l : LayoutState) (t : Table) (stored : List StoredBox) (added : StoredBox) (reason : Reason) → IsKnown stored reason
    → reason_of l t (stored ++ added ∷ []) reason ≡ reason_of l t stored reason
reason_among_more l t stored added why.Decision known = refl
reason_among_more l t stored added (why.Constraint c) known = refl
reason_among_more l t stored added (why.Box b) known =
    ap (λ o. rules.ByBox (box_of l t (option_map_or (λ (s : StoredBox). s.sides) o []))) (get_front stored (added ∷ []) b.0 known)

pub entries_among_more : (l : LayoutState) (t : Table) (stored : List StoredBox) (added : StoredBox) (entries : List Entry) → All (IsEntry l t stored) entries
    → entries_of l t (stored ++ added ∷ []) entries ≡ entries_of l t stored entries
entries_among_more l t stored added entries all = map_alike (entry_of l t (stored ++ added ∷ [])) (entry_of l t stored) (reverse entries) (λ e h.
    ap (the_entry e.var.0 (values_in l t e.var e.before) e.level)
    (reason_among_more l t stored added e.reason (All-contains (IsEntry l t stored) entries e all (in_reversed entries e h)).reason))
