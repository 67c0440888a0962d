-- What is read of refs in a table where they mean the same.
use Rattle.std.proofs.Common.{◌≡◌, ℕ, zero, suc, ◌==◌, Bool, true, false, cond, List, [], ◌∷◌, reverse, Option, Some, None, inl, inr, refl, sym, ap, ◌∙◌, subst, Contains, get_or}
use Rattle.std.specs.Prelude.{slice_get, find, All}
use Rattle.std.specs.Option.{option_map_or}
use Rattle.std.proofs.Math.Path.{fun_ext}
use Rattle.std.proofs.lemmas.List.Elements.{Contains-append_left, Contains-append_right, Contains-get_or, All-append, All-map, All-nil, All-head, All-tail, All-contains}
use Rattle.std.proofs.lemmas.Option.{slice_get-get_or}
use Rattle.set_meaning.specs.declared.kinds.Value.{Value}
use Rattle.set_meaning.specs.declared.problems.VarId.{VarId}
use Rattle.set_meaning.specs.declared.problems.Problem.{Problem}
use Rattle.bit_layout.specs.Order.{LayoutState}
use Rattle.diagram_arena.specs.declared.nodes.Ref.{Ref}
use Rattle.diagram_arena.specs.Table.{Word, Table, has, IsLive}
use Rattle.diagram_arena.specs.Arena.{Grows}
use Rattle.node_reclaim.specs.Holders.{MeansTheSame}
use Rattle.search_rules.specs.Family.{HasValue}
use Rattle.search_rules.specs.Trail as rules
use Rattle.search_rules.specs.State.{IsLegal}
use Rattle.exact_steps.specs.Domains.{variable, values_in, IsDomain, AreDomains, family}
use Rattle.problem_rules.specs.Parts.{initial_set}
use Rattle.problem_rules.specs.Posed.{problem_of}
use Rattle.domain_trail.specs.declared.entries.Entry.{Entry}
use Rattle.domain_trail.specs.declared.entries.Reason.{Reason}
use Rattle.domain_trail.specs.declared.entries.Reason.TheVariants as why
use Rattle.domain_trail.specs.Trail.{TrailState, befores, held}
use Rattle.box_clauses.specs.declared.sides.Side.{Side}
use Rattle.box_clauses.specs.declared.store.StoredBox.{StoredBox}
use Rattle.box_clauses.specs.Sides.{sets_of}
use Rattle.box_clauses.specs.Boxes.{box_of, IsSide, AreSides}
use Rattle.box_clauses.specs.Stored.{stored_sets}
use Rattle.search_state.specs.Readings.{sides_at, stored_of, boxes_of, reason_of, entry_of, entries_of, IsEntry, AreReadable, IsTrailOf, IsLegalState}
use Rattle.search_state.specs.Laws.{SetLaws}
use Rattle.search_state.proofs.Lists.{in_reversed, in_map, in_head, in_tail, in_cons, nothing_in, map_alike, get_at, listed_at}

-- ---- domains

domain_stays : (laws : SetLaws) (l : LayoutState) (t u : Table) (v : VarId) (r : Ref) → IsLive u r × ((w : Word) → has u r w ≡ has t r w) → IsDomain l t v r → IsDomain l u v r
domain_stays laws l t u v r means is =
    let parts = (laws.domains l t v r).0 is in
    (laws.domains l u v r).1 (laws.set l t u v r means.0 means.1 parts.0, subst HasValue (sym (laws.values l t u v r means.1)) parts.1)

pub domains_stay : (laws : SetLaws) (l : LayoutState) (t u : Table) (domains : List Ref) → MeansTheSame t u domains → AreDomains l t domains → AreDomains l u domains
domains_stay laws l t u domains means are = record {
  long = are.long;
  each = λ v r at. domain_stays laws l t u v r (means r (listed_at domains v.0 r at)) (are.each v r at);
}

pub family_stays : (laws : SetLaws) (l : LayoutState) (t u : Table) (domains : List Ref) → MeansTheSame t u domains → family l u domains ≡ family l t domains
family_stays laws l t u domains means = fun_ext (λ v. at v (slice_get domains v) refl)
  where
    reading : Table → ℕ → Option Ref → Value → Bool
    reading z v o = λ x. option_map_or (λ r. values_in l z (variable v) r x) o true

    at : (v : ℕ) (o : Option Ref) → slice_get domains v ≡ o → family l u domains v ≡ family l t domains v
    at v None is = ap (reading u v) is ∙ sym (ap (reading t v) is)
    at v (Some r) is = ap (reading u v) is ∙ laws.values l t u (variable v) r (means r (listed_at domains v r is)).1 ∙ sym (ap (reading t v) is)

-- ---- boxes

pub box_stays : (laws : SetLaws) (l : LayoutState) (t u : Table) (sides : List Side) → MeansTheSame t u (sets_of sides) → box_of l u sides ≡ box_of l t sides
box_stays laws l t u sides means = fun_ext (λ v. at v sides means)
  where
    reading : Table → ℕ → Option Side → Value → Bool
    reading z v o = λ x. option_map_or (λ (s : Side). values_in l z (variable v) s.set x) o (initial_set l.kinds v x)

    side_at : ℕ → List Side → Option Side
    side_at v ss = find (λ (s : Side). s.var.0 == v) ss

    at : (v : ℕ) (ss : List Side) → MeansTheSame t u (sets_of ss) → reading u v (side_at v ss) ≡ reading t v (side_at v ss)
    at v [] means = refl
    at v (s ∷ ss) means =
        elim (s.var.0 == v) as (λ b. reading u v (cond b (Some s) (side_at v ss)) ≡ reading t v (cond b (Some s) (side_at v ss))) [
          | true ↦ laws.values l t u (variable v) s.set (means s.set (in_head s.set (sets_of ss))).1
          | false ↦ at v ss (λ r h. means r (in_tail s.set (sets_of ss) r h))
        ]

pub sides_stay : (laws : SetLaws) (l : LayoutState) (t u : Table) (sides : List Side) → MeansTheSame t u (sets_of sides) → AreSides l t sides → AreSides l u sides
sides_stay laws l t u sides means are = record {
  ascending = are.ascending;
  each = λ k d within.
      let s : Side = get_or sides k d in
      let is : IsSide l t s = are.each k d within in
      let m = means s.set (in_map (λ (s : Side). s.set) sides s (Contains-get_or sides k d within)) in
      record { known = is.known; set = laws.set l t u s.var s.set m.0 m.1 is.set };
}

sets_at : (stored : List StoredBox) (s : StoredBox) → Contains stored s → (r : Ref) → Contains (sets_of s.sides) r → Contains (stored_sets stored) r
sets_at stored s h = below stored h.0 (get_at stored s h)
  where
    below : (boxes : List StoredBox) (i : ℕ) → slice_get boxes i ≡ Some s → (r : Ref) → Contains (sets_of s.sides) r → Contains (stored_sets boxes) r
    below [] i is r there = absurd (cc)
    below (b ∷ bs) zero is r there =
        let same : b ≡ s = cc in
        Contains-append_left (sets_of b.sides) (stored_sets bs) r (subst (λ (x : StoredBox). Contains (sets_of x.sides) r) (sym same) there)
    below (b ∷ bs) (suc i) is r there = Contains-append_right (sets_of b.sides) (stored_sets bs) r (below bs i is r there)

one_stays : (laws : SetLaws) (l : LayoutState) (t u : Table) (stored : List StoredBox) (s : StoredBox) → MeansTheSame t u (stored_sets stored) → Contains stored s → box_of l u s.sides ≡ box_of l t s.sides
one_stays laws l t u stored s means there = box_stays laws l t u s.sides (λ r h. means r (sets_at stored s there r h))

sets_under : (stored : List StoredBox) (id : ℕ) (r : Ref) → Contains (sets_of (sides_at stored id)) r → Contains (stored_sets stored) r
sets_under [] id r h = h
sets_under (b ∷ bs) zero r h = Contains-append_left (sets_of b.sides) (stored_sets bs) r h
sets_under (b ∷ bs) (suc id) r h = Contains-append_right (sets_of b.sides) (stored_sets bs) r (sets_under bs id r h)

pub under_stays : (laws : SetLaws) (l : LayoutState) (t u : Table) (stored : List StoredBox) (id : ℕ) → MeansTheSame t u (stored_sets stored)
    → box_of l u (sides_at stored id) ≡ box_of l t (sides_at stored id)
under_stays laws l t u stored id means = box_stays laws l t u (sides_at stored id) (λ r h. means r (sets_under stored id r h))

pub boxes_stay : (laws : SetLaws) (l : LayoutState) (t u : Table) (stored : List StoredBox) → MeansTheSame t u (stored_sets stored) → boxes_of l u stored ≡ boxes_of l t stored
boxes_stay laws l t u stored means = map_alike (stored_of l u) (stored_of l t) (reverse stored) (λ s h.
    ap (λ (b : ℕ → Value → Bool). the_box s b) (one_stays laws l t u stored s means (in_reversed stored s h)))
  where
    the_box : StoredBox → (ℕ → Value → Bool) → rules.Stored Value
    the_box s b = record { sides = b; learned = s.learned }

-- ---- entries

reason_stays : (laws : SetLaws) (l : LayoutState) (t u : Table) (stored : List StoredBox) (reason : Reason) → MeansTheSame t u (stored_sets stored) → reason_of l u stored reason ≡ reason_of l t stored reason
reason_stays laws l t u stored why.Decision means = refl
reason_stays laws l t u stored (why.Constraint c) means = refl
reason_stays laws l t u stored (why.Box b) means = ap rules.ByBox (under_stays laws l t u stored b.0 means)

abbrev pub the_entry : ℕ → (Value → Bool) → ℕ → rules.Reason Value → rules.Entry Value
the_entry v s level r = record { var = v; before = s; level = level; reason = r }

pub entry_stays : (laws : SetLaws) (l : LayoutState) (t u : Table) (stored : List StoredBox) (e : Entry) → MeansTheSame t u (e.before ∷ []) → MeansTheSame t u (stored_sets stored)
    → entry_of l u stored e ≡ entry_of l t stored e
entry_stays laws l t u stored e means sides =
    ap (λ (s : Value → Bool). the_entry e.var.0 s e.level (reason_of l u stored e.reason)) (laws.values l t u e.var e.before (means e.before (in_head e.before [])).1)
    ∙ ap (the_entry e.var.0 (values_in l t e.var e.before) e.level) (reason_stays laws l t u stored e.reason sides)

pub entries_stay : (laws : SetLaws) (l : LayoutState) (t u : Table) (stored : List StoredBox) (entries : List Entry) → MeansTheSame t u (befores entries) → MeansTheSame t u (stored_sets stored)
    → entries_of l u stored entries ≡ entries_of l t stored entries
entries_stay laws l t u stored entries means sides = map_alike (entry_of l u stored) (entry_of l t stored) (reverse entries) (λ e h.
    entry_stays laws l t u stored e (λ r one. means r (one_in e h r one)) sides)
  where
    one_in : (e : Entry) → Contains (reverse entries) e → (r : Ref) → Contains (e.before ∷ []) r → Contains (befores entries) r
    one_in e h r one = elim (in_cons e.before [] r one) [
      | inl same ↦ subst (Contains (befores entries)) same (in_map (λ (e : Entry). e.before) entries e (in_reversed entries e h))
      | inr none ↦ absurd (nothing_in r none)
    ]

-- ---- states

entries_are : (laws : SetLaws) (l : LayoutState) (t u : Table) (stored : List StoredBox) (entries : List Entry) → MeansTheSame t u (befores entries) → All (IsEntry l t stored) entries → All (IsEntry l u stored) entries
entries_are laws l t u stored entries means all k d within =
    let e : Entry = get_or entries k d in
    let is : IsEntry l t stored e = all k d within in
    record {
      known = is.known;
      before = domain_stays laws l t u e.var e.before (means e.before (in_map (λ (e : Entry). e.before) entries e (Contains-get_or entries k d within))) is.before;
      reason = is.reason;
    }

pub readable_stays : (laws : SetLaws) (l : LayoutState) (t u : Table) (stored : List StoredBox) (s : TrailState) → MeansTheSame t u (held s) → MeansTheSame t u (stored_sets stored)
    → AreReadable l t stored s → AreReadable l u stored s
readable_stays laws l t u stored s means sides are = record {
  domains = domains_stay laws l t u s.domains (λ r h. means r (Contains-append_left s.domains (befores s.entries) r h)) are.domains;
  entries = entries_are laws l t u stored s.entries (λ r h. means r (Contains-append_right s.domains (befores s.entries) r h)) are.entries;
  boxes = λ k d within.
      let b : StoredBox = get_or stored k d in
      sides_stay laws l t u b.sides (λ r h. sides r (sets_at stored b (Contains-get_or stored k d within) r h)) (are.boxes k d within);
}

-- a fact of boxes, entries and a family is one of what is read in the other table
alike : (laws : SetLaws) (l : LayoutState) (t u : Table) (stored : List StoredBox) (s : TrailState) (P : List (rules.Stored Value) → List (rules.Entry Value) → (ℕ → Value → Bool) → Type 0)
    → MeansTheSame t u (held s) → MeansTheSame t u (stored_sets stored) → P (boxes_of l t stored) (entries_of l t stored s.entries) (family l t s.domains)
    → P (boxes_of l u stored) (entries_of l u stored s.entries) (family l u s.domains)
alike laws l t u stored s P means sides h =
    subst (λ bs. P bs (entries_of l u stored s.entries) (family l u s.domains)) (sym (boxes_stay laws l t u stored sides))
    (subst (λ es. P (boxes_of l t stored) es (family l u s.domains)) (sym (entries_stay laws l t u stored s.entries (λ r m. means r (Contains-append_right s.domains (befores s.entries) r m)) sides))
    (subst (λ (f : ℕ → Value → Bool). P (boxes_of l t stored) (entries_of l t stored s.entries) f) (sym (family_stays laws l t u s.domains (λ r m. means r (Contains-append_left s.domains (befores s.entries) r m)))) h))

pub trail_stays : (laws : SetLaws) (p : Problem) (l : LayoutState) (t u : Table) (stored : List StoredBox) (s : TrailState) → MeansTheSame t u (held s) → MeansTheSame t u (stored_sets stored)
    → IsTrailOf p l t stored s → IsTrailOf p l u stored s
trail_stays laws p l t u stored s means sides is = record {
  readable = readable_stays laws l t u stored s means sides is.readable;
  level = alike laws l t u stored s (λ bs es f. s.level ≡ rules.top es) means sides is.level;
  trail = alike laws l t u stored s (rules.IsTrail (problem_of p)) means sides is.trail;
}

pub state_stays : (laws : SetLaws) (p : Problem) (l : LayoutState) (t u : Table) (answers : List (ℕ → Value)) (stored : List StoredBox) (s : TrailState) → MeansTheSame t u (held s) → MeansTheSame t u (stored_sets stored)
    → IsLegalState p l t answers stored s → IsLegalState p l u answers stored s
state_stays laws p l t u answers stored s means sides is = record {
  readable = readable_stays laws l t u stored s means sides is.readable;
  level = alike laws l t u stored s (λ bs es f. s.level ≡ rules.top es) means sides is.level;
  legal = alike laws l t u stored s (IsLegal (problem_of p) answers) means sides is.legal;
}

-- ---- live refs

pub readable_live : (l : LayoutState) (t : Table) (stored : List StoredBox) (s : TrailState) → AreReadable l t stored s → All (IsLive t) (held s) × All (IsLive t) (stored_sets stored)
readable_live l t stored s are = (All-append (IsLive t) s.domains (befores s.entries) of_domains of_befores, of_stored stored are.boxes)
  where
    of_domains : All (IsLive t) s.domains
    of_domains k d within = (are.domains.each (variable k) (get_or s.domains k d) (slice_get-get_or s.domains k d within)).diagram.live

    of_befores : All (IsLive t) (befores s.entries)
    of_befores = All-map (IsLive t) (λ (e : Entry). e.before) s.entries (λ k d within. (are.entries k d within).before.diagram.live)

    of_sides : (sides : List Side) → AreSides l t sides → All (IsLive t) (sets_of sides)
    of_sides sides each = All-map (IsLive t) (λ (s : Side). s.set) sides (λ k d within. (each.each k d within).set.live)

    of_stored : (boxes : List StoredBox) → All (λ (b : StoredBox). AreSides l t b.sides) boxes → All (IsLive t) (stored_sets boxes)
    of_stored [] all = All-nil (IsLive t)
    of_stored (b ∷ bs) all = All-append (IsLive t) (sets_of b.sides) (stored_sets bs) (of_sides b.sides (All-head (λ (b : StoredBox). AreSides l t b.sides) b bs all)) (of_stored bs (All-tail (λ (b : StoredBox). AreSides l t b.sides) b bs all))

pub grown_mean : (t u : Table) (refs : List Ref) → Grows t u → All (IsLive t) refs → MeansTheSame t u refs
grown_mean t u refs grows live r h = let lives : IsLive t r = All-contains (IsLive t) refs r live h in (grows.live r lives, grows.words r lives)
