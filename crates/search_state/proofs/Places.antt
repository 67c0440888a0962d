-- Entries by their places, and what matters among them.
use Rattle.std.proofs.Common.{◌≡◌, ℕ, ◌+◌, Bool, Some, List, [], ◌∷◌, ◌++◌, map, reverse, take, drop, inl, inr, sym, ap, ◌∙◌, subst, Contains}
use Rattle.std.specs.Prelude.{slice_get, All}
use Rattle.std.proofs.lemmas.List.{reverse-append, map-append, take_more, take-append-drop}
use Rattle.std.proofs.lemmas.List.Elements.{All-map}
use Rattle.std.proofs.lemmas.Option.{slice_get_within, get_or_from_slice_get}
use Rattle.set_meaning.specs.declared.kinds.Value.{Value}
use Rattle.bit_layout.specs.Order.{LayoutState}
use Rattle.diagram_arena.specs.Table.{Table}
use Rattle.search_rules.specs.Trail as rules
use Rattle.search_rules.specs.Walk.{Matters, SomeMatters}
use Rattle.domain_trail.specs.declared.entries.Entry.{Entry}
use Rattle.box_clauses.specs.declared.store.StoredBox.{StoredBox}
use Rattle.search_state.specs.Readings.{entry_of, entries_of}
use Rattle.search_state.proofs.Lists.{all_reversed, in_reverse, in_cons, nothing_in}

-- ---- places

take_next : {X : Type 0} (xs : List X) (i : ℕ) (x : X) → slice_get xs i ≡ Some x → take (i + 1) xs ≡ take i xs ++ x ∷ []
take_next xs i x at = take_more xs i x (slice_get_within xs i x at) ∙ ap (λ y. take i xs ++ y ∷ []) (get_or_from_slice_get xs i x x at)

pub read_next : (l : LayoutState) (t : Table) (stored : List StoredBox) (entries : List Entry) (i : ℕ) (e : Entry) → slice_get entries i ≡ Some e
    → entries_of l t stored (take (i + 1) entries) ≡ entry_of l t stored e ∷ entries_of l t stored (take i entries)
read_next l t stored entries i e at =
    ap (entries_of l t stored) (take_next entries i e at) ∙ ap (map (entry_of l t stored)) (reverse-append (take i entries) (e ∷ []))

pub read_split : (l : LayoutState) (t : Table) (stored : List StoredBox) (entries : List Entry) (i : ℕ) (e : Entry) → slice_get entries i ≡ Some e
    → entries_of l t stored entries ≡ entries_of l t stored (drop (i + 1) entries) ++ entry_of l t stored e ∷ entries_of l t stored (take i entries)
read_split l t stored entries i e at =
    let f : Entry → rules.Entry Value = entry_of l t stored in
    let front : List Entry = take (i + 1) entries in
    let later : List Entry = drop (i + 1) entries in
    ap (entries_of l t stored) (sym (take-append-drop (i + 1) entries))
    ∙ ap (map f) (reverse-append front later)
    ∙ map-append f (reverse later) (reverse front)
    ∙ ap (λ es. map f (reverse later) ++ es) (read_next l t stored entries i e at)

-- ---- what matters

-- what holds of each entry's reading holds of the entries that are read
pub all_read : (l : LayoutState) (t : Table) (stored : List StoredBox) (P : rules.Entry Value → Type 0) (es : List Entry) → All (λ e. P (entry_of l t stored e)) es → All P (entries_of l t stored es)
all_read l t stored P es all = All-map P (entry_of l t stored) (reverse es) (all_reversed (λ e. P (entry_of l t stored e)) es all)

some_read : (l : LayoutState) (t : Table) (stored : List StoredBox) (xs : List Entry) (b : ℕ → Value → Bool) (e : Entry) → Contains xs e → Matters (entry_of l t stored e) b
    → SomeMatters (map (entry_of l t stored) xs) b e.level e.var.0
some_read l t stored [] b e h matters = absurd (nothing_in e h)
some_read l t stored (x ∷ xs) b e h matters = elim (in_cons x xs e h) [
  | inl same ↦ inl (
    ap (λ (y : Entry). y.level) same,
    ap (λ (y : Entry). y.var.0) same,
    subst (λ (y : Entry). Matters (entry_of l t stored y) b) (sym same) matters,
  )
  | inr later ↦ inr (some_read l t stored xs b e later matters)
]

pub some_matters : (l : LayoutState) (t : Table) (stored : List StoredBox) (es : List Entry) (b : ℕ → Value → Bool) (e : Entry) → Contains es e → Matters (entry_of l t stored e) b
    → SomeMatters (entries_of l t stored es) b e.level e.var.0
some_matters l t stored es b e h matters = some_read l t stored (reverse es) b e (in_reverse es e h) matters
