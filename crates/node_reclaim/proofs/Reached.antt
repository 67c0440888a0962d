-- Marks on what is reached: the steps of the marking, and what a reclamation by them keeps.
use Rattle.std.proofs.Common.{◌≡◌, ◌≢◌, ◌⊎◌, ℕ, ◌+◌, ◌-◌, ◌<◌, Bool, true, false, cond, eqb, zero, suc, List, [], ◌∷◌, ◌++◌, length, Contains, Option, Some, None, refl, sym, ◌∙◌, ap, subst, inl, inr, arith}
use Rattle.std.specs.Prelude.{IsSome, get_or}
use Rattle.std.specs.Option.{option_map, option_map_or, unwrap_or}
use Rattle.std.specs.Ordering.{is_eq}
use Rattle.std.specs.Map.{keys_of}
use Rattle.std.specs.List.Sorted.{IsStrictlySortedBy}
use Rattle.std.specs.Cmp.{eq_by_cmp_equiv}
use Rattle.std.specs.FinMap as map
use Rattle.std.proofs.lemmas.Bool.{cases_Bool, eq-eqb}
use Rattle.std.proofs.lemmas.Option.{slice_get_read}
use Rattle.std.proofs.lemmas.Map.Entries.{lookup_from_place}
use Rattle.std.proofs.lemmas.Map.Keys.{IsDistinct-from_sorted}
use Rattle.diagram_arena.specs.declared.nodes.NodeId.{NodeId}
use Rattle.diagram_arena.specs.declared.nodes.Node.{Node as Stored}
use Rattle.diagram_arena.specs.declared.nodes.Ref.{Ref}
use Rattle.diagram_arena.specs.declared.nodes.Ref.TheVariants.{Zero, One, Node}
use Rattle.diagram_arena.specs.declared.nodes.Triple.{Triple}
use Rattle.diagram_arena.specs.Table.{Table, id_cmp, child, bit_end, depth, IsLive, IsReduced}
use Rattle.diagram_arena.specs.Reach.{step, follow}
use Rattle.diagram_arena.specs.Arena.{ArenaState, table, triple_of, has_mark, IsMarked, MarksReachDown, unmarked, if_marked, Stands, ChangesNode, Grows}
use Rattle.diagram_arena.proofs.Ids.{cases_id, same_id, id_cmp_total, tied_same, tied_other}
use Rattle.node_reclaim.specs.Pool.{PoolState, times}
use Rattle.node_reclaim.specs.Body.{IsPool}
use Rattle.node_reclaim.specs.Holders.{AreHeld, MeansTheSame}
use Rattle.node_reclaim.specs.Reclaim.{Reaches, Reclaims}
use Rattle.node_reclaim.specs.Marking.{count_of, ChangesMarks, MarksReached, MarksCounted}
use Rattle.node_reclaim.proofs.Counts.{Frame, derived, at, get-entries, state}

-- paths
follow-zero : (t : Table) (path : List Bool) → follow t Zero path ≡ Zero
follow-zero t [] = refl
follow-zero t (v ∷ vs) = follow-zero t vs

follow-one : (t : Table) (path : List Bool) → follow t One path ≡ One
follow-one t [] = refl
follow-one t (v ∷ vs) = follow-one t vs

step-at : (t : Table) (i : NodeId) (n : Triple) (v : Bool) → t i ≡ Some n → step t (Node i) v ≡ child n v
step-at t i n v is = ap (λ o. option_map_or (λ (m : Triple). child m v) o (Node i)) is

-- a node reaches what its children reach
reaches_child : (t : Table) (i j : NodeId) (n : Triple) (v : Bool) → t i ≡ Some n → Reaches t (child n v) j → Reaches t (Node i) j
reaches_child t i j n v is reach = (v ∷ reach.0, ap (λ r. follow t r reach.0) (step-at t i n v is) ∙ reach.1)

changes_self : (a : ArenaState) → ChangesMarks a a
changes_self a = record { nodes = λ i. refl; table = refl; limit = refl }

changes_then : (a b c : ArenaState) → ChangesMarks a b → ChangesMarks b c → ChangesMarks a c
changes_then a b c first second = record {
  nodes = λ i. second.nodes i ∙ first.nodes i;
  table = second.table ∙ first.table;
  limit = second.limit ∙ first.limit;
}

-- a ref with no mark to set
pub marks_none : (a : ArenaState) (r : Ref) → MarksReachDown a → IsMarked a r → MarksReached a a r
marks_none a r down here = record {
  changes = changes_self a;
  down = down;
  kept = λ i on. on;
  here = here;
  only = λ i on. inl on;
}

marked_kept : (a b : ArenaState) → ((i : NodeId) → has_mark a i ≡ true → has_mark b i ≡ true) → (r : Ref) → IsMarked a r → IsMarked b r
marked_kept a b kept Zero on = tt
marked_kept a b kept One on = tt
marked_kept a b kept (Node i) on = kept i on

pub mark_of : (a : ArenaState) (i : NodeId) (n : Stored) → map.get a.nodes i ≡ Some n → has_mark a i ≡ n.mark
mark_of a i n is = ap (λ o. option_map_or (λ (m : Stored). m.mark) o false) is

-- the mark of one node is set
pub record SetsMark (old new : ArenaState) (i : NodeId) : Type 0 where
  pub changes : ChangesMarks old new
  pub here : has_mark new i ≡ true
  pub others : (j : NodeId) → j ≢ i → has_mark new j ≡ has_mark old j

stored_there : (a : ArenaState) (i : NodeId) → IsSome (map.get a.nodes i) → (n : Stored) × (map.get a.nodes i ≡ Some n)
stored_there a i there =
    elim (map.get a.nodes i) as (λ o. map.get a.nodes i ≡ o → IsSome o → (n : Stored) × (map.get a.nodes i ≡ Some n)) [
      | None ↦ λ e s. cc
      | Some n ↦ λ e s. (n, e)
    ] refl there

pub sets_mark : (a b : ArenaState) (i : NodeId) (m : Stored) → map.get a.nodes i ≡ Some m → ChangesNode a b i (λ (n : Stored). record n { mark = true }) → table b ≡ table a → SetsMark a b i
sets_mark a b i m is changes same = record {
  changes = record {
    nodes = λ j. elim (cases_id j i) [
      | inl e ↦ subst (λ k. option_map unmarked (map.get b.nodes k) ≡ option_map unmarked (map.get a.nodes k)) (sym e)
          (ap (option_map unmarked) changes.changed ∙ alike (map.get a.nodes i))
      | inr ne ↦ ap (option_map unmarked) (changes.others j ne)
    ];
    table = same;
    limit = changes.limit;
  };
  here = ap (λ o. option_map_or (λ (n : Stored). n.mark) o false) (changes.changed ∙ ap (option_map (λ (n : Stored). record n { mark = true })) is);
  others = λ j ne. ap (λ o. option_map_or (λ (n : Stored). n.mark) o false) (changes.others j ne);
}
  where
    alike : (o : Option Stored) → option_map unmarked (option_map (λ (n : Stored). record n { mark = true }) o) ≡ option_map unmarked o
    alike None = refl
    alike (Some n) = refl

-- a node whose children were marked is marked
pub marks_node : (a b c d : ArenaState) (i : NodeId) (n : Triple) (r : Ref) → r ≡ Node i → table a i ≡ Some n
    → MarksReached a b n.lo → MarksReached b c n.hi → SetsMark c d i → MarksReached a d r
marks_node a b c d i n r is at low high set =
    let kept : (j : NodeId) → has_mark c j ≡ true → has_mark d j ≡ true = λ j on. elim (cases_id j i) [
      | inl e ↦ ap (has_mark d) e ∙ set.here
      | inr ne ↦ set.others j ne ∙ on
    ] in
    let changes : ChangesMarks a d = changes_then a b d low.changes (changes_then b c d high.changes set.changes) in
    let at_d : table d i ≡ Some n = ap (λ (t : Table). t i) changes.table ∙ at in
    let below : (v : Bool) → IsMarked d (child n v) = λ v. elim v as (λ x. IsMarked d (child n x)) [
      | false ↦ marked_kept c d kept n.lo (marked_kept b c high.kept n.lo low.here)
      | true ↦ marked_kept c d kept n.hi high.here
    ] in
    record {
      changes = changes;
      down = λ j m v there on. elim (cases_id j i) [
        | inl e ↦
            let same : Some n ≡ Some m = sym at_d ∙ sym (ap (table d) e) ∙ there in
            let same' : n ≡ m = (cc) in
            subst (λ (x : Triple). IsMarked d (child x v)) same' (below v)
        | inr ne ↦ marked_kept c d kept (child m v) (high.down j m v (ap (λ (t : Table). t j) (sym set.changes.table) ∙ there) (sym (set.others j ne) ∙ on))
      ];
      kept = λ j on. kept j (high.kept j (low.kept j on));
      here = subst (IsMarked d) (sym is) set.here;
      only = λ j on. subst (λ (x : Ref). (has_mark a j ≡ true) ⊎ Reaches (table a) x j) (sym is) (elim (cases_id j i) [
        | inl e ↦ inr ([], ap Node (sym e))
        | inr ne ↦ elim (high.only j (sym (set.others j ne) ∙ on)) [
          | inl before ↦ elim (low.only j before) [
            | inl first ↦ inl first
            | inr reach ↦ inr (reaches_child (table a) i j n false at reach)
          ]
          | inr reach ↦ inr (reaches_child (table a) i j n true at (subst (λ (t : Table). Reaches t n.hi j) low.changes.table reach))
        ]
      ]);
    }

-- the children of a node are deeper, also in a table that is the same
pub falls : (t u : Table) (i : NodeId) (n : Triple) (r : Ref) → Stands t i n → r ≡ Node i → u ≡ t → (v : Bool) → bit_end - depth u (child n v) < bit_end - depth t r
falls t u i n r stands is same v =
    let deeper = stands.deeper v in
    let level = stands.level in
    let small = stands.small in
    let at : depth t r ≡ n.bit = ap (depth t) is ∙ level in
    let there : depth u (child n v) ≡ depth t (child n v) = ap (λ (x : Table). depth x (child n v)) same in
    omega (arith, deeper, small, at, there)

-- the counts list the id i with n pins
abbrev pub HasCount : List (NodeId × ℕ) → NodeId → ℕ → Type 0
HasCount counts i n = Contains {X = NodeId × ℕ} counts (i, n)

in_head : (e : NodeId × ℕ) (es : List (NodeId × ℕ)) → HasCount (e ∷ es) e.0 e.1
in_head e es = (zero, omega arith, refl)

in_tail : (e : NodeId × ℕ) (es : List (NodeId × ℕ)) (i : NodeId) (n : ℕ) → HasCount es i n → HasCount (e ∷ es) i n
in_tail e es i n h = (suc h.0, omega (arith, h.1), h.2)

in_cons : (e : NodeId × ℕ) (es : List (NodeId × ℕ)) (i : NodeId) (n : ℕ) → HasCount (e ∷ es) i n → (e ≡ (i, n)) ⊎ HasCount es i n
in_cons e es i n h = by h.0 h.1 h.2
  where
    by : (k : ℕ) → k < length (e ∷ es) → get_or (e ∷ es) k (i, n) ≡ (i, n) → (e ≡ (i, n)) ⊎ HasCount es i n
    by zero within is = inl is
    by (suc k) within is = inr (k, omega arith, is)

pub none_in_empty : (i : NodeId) (n : ℕ) → HasCount [] i n → ⊥
none_in_empty i n h = let within = h.1 in omega (arith, within)

pub at_count : (es : List (NodeId × ℕ)) → IsStrictlySortedBy id_cmp (keys_of es) → (i : NodeId) (n : ℕ) → HasCount es i n → at i es ≡ Some n
at_count es up i n h =
    let place = slice_get_read es (length es) h.0 (i, n) refl h.1 (sym h.2) in
    lookup_from_place (eq_by_cmp_equiv id_cmp_total) es h.0 i n (IsDistinct-from_sorted id_cmp (keys_of es) up) place

pub count_at : (es : List (NodeId × ℕ)) (i : NodeId) (n : ℕ) → at i es ≡ Some n → HasCount es i n
count_at [] i n e = absurd (cc)
count_at (e ∷ es) i n is =
    elim (cases_id i e.0) [
      | inl same ↦
          let tie : is_eq (derived i e.0) ≡ true = tied_same i.0 e.0.0 (ap (λ (x : NodeId). x.0) same) in
          let found : Some e.1 ≡ Some n = sym (ap (λ b. cond b (Some e.1) (at i es)) tie) ∙ is in
          let value : e.1 ≡ n = (cc) in
          (zero, omega arith, λ k. (sym same k, value k))
      | inr other ↦
          let tie : is_eq (derived i e.0) ≡ false = tied_other i.0 e.0.0 (λ x. other (same_id i e.0 x)) in
          in_tail e es i n (count_at es i n (sym (ap (λ b. cond b (Some e.1) (at i es)) tie) ∙ is))
    ]

-- a marking has come so far: these counts are left
pub record Marking (old now : ArenaState) (all left : List (NodeId × ℕ)) : Type 0 where
  pub changes : ChangesMarks old now
  pub down : MarksReachDown now
  pub done : (i : NodeId) (n : ℕ) → HasCount all i n → 0 < n → (has_mark now i ≡ true) ⊎ HasCount left i n
  pub only : (i : NodeId) → has_mark now i ≡ true → (j : NodeId) × (n : ℕ) × HasCount all j n × (0 < n) × Reaches (table old) (Node j) i
  pub ahead : (i : NodeId) (n : ℕ) → HasCount left i n → HasCount all i n

pub marking_begins : (a : ArenaState) (all : List (NodeId × ℕ)) → ((i : NodeId) → has_mark a i ≡ false) → Marking a a all all
marking_begins a all clear = record {
  changes = changes_self a;
  down = λ i n v is on. let no : false ≡ true = sym (clear i) ∙ on in absurd (cc);
  done = λ i n h some. inr h;
  only = λ i on. let no : false ≡ true = sym (clear i) ∙ on in absurd (cc);
  ahead = λ i n h. h;
}

pub marking_skips : (a b : ArenaState) (all left rest : List (NodeId × ℕ)) (e : NodeId × ℕ) → left ≡ e ∷ rest → e.1 ≡ 0 → Marking a b all left → Marking a b all rest
marking_skips a b all left rest e is none m = record {
  changes = m.changes;
  down = m.down;
  done = λ i n h some. elim (m.done i n h some) [
    | inl on ↦ inl on
    | inr ahead ↦ elim (in_cons e rest i n (subst (λ es. HasCount es i n) is ahead)) [
      | inl here ↦ let same : e.1 ≡ n = ap (λ (x : NodeId × ℕ). x.1) here in absurd (omega (arith, same, none, some))
      | inr later ↦ inr later
    ]
  ];
  only = m.only;
  ahead = λ i n h. m.ahead i n (subst (λ es. HasCount es i n) (sym is) (in_tail e rest i n h));
}

pub marking_steps : (a b c : ArenaState) (all left rest : List (NodeId × ℕ)) (e : NodeId × ℕ) → left ≡ e ∷ rest → 0 < e.1
    → Marking a b all left → MarksReached b c (Node e.0) → Marking a c all rest
marking_steps a b c all left rest e is some m marks = record {
  changes = changes_then a b c m.changes marks.changes;
  down = marks.down;
  done = λ i n h more. elim (m.done i n h more) [
    | inl on ↦ inl (marks.kept i on)
    | inr ahead ↦ elim (in_cons e rest i n (subst (λ es. HasCount es i n) is ahead)) [
      | inl here ↦ inl (ap (has_mark c) (sym (ap (λ (x : NodeId × ℕ). x.0) here)) ∙ marks.here)
      | inr later ↦ inr later
    ]
  ];
  only = λ i on. elim (marks.only i on) [
    | inl before ↦ m.only i before
    | inr reach ↦ (e.0, e.1, m.ahead e.0 e.1 (subst (λ es. HasCount es e.0 e.1) (sym is) (in_head e rest)), some, subst (λ (t : Table). Reaches t (Node e.0) i) m.changes.table reach)
  ];
  ahead = λ i n h. m.ahead i n (subst (λ es. HasCount es i n) (sym is) (in_tail e rest i n h));
}

count_from : (es : List (NodeId × ℕ)) (i : NodeId) → count_of es i ≡ unwrap_or (at i es) 0
count_from es i = ap (λ o. unwrap_or o 0) (get-entries es i)

counted : (o : Option ℕ) → 0 < unwrap_or o 0 → (n : ℕ) × (o ≡ Some n) × (0 < n)
counted None some = absurd (omega arith)
counted (Some n) some = (n, refl, some)

pub has_count : (es : List (NodeId × ℕ)) (i : NodeId) → 0 < count_of es i → (n : ℕ) × HasCount es i n × (0 < n)
has_count es i some =
    let from = count_from es i in
    let found = counted (at i es) (omega (arith, from, some)) in
    (found.0, count_at es i found.0 found.1, found.2)

pub count_there : (es : List (NodeId × ℕ)) → IsStrictlySortedBy id_cmp (keys_of es) → (i : NodeId) (n : ℕ) → HasCount es i n → 0 < n → 0 < count_of es i
count_there es up i n h some =
    let is : count_of es i ≡ n = count_from es i ∙ ap (λ o. unwrap_or o 0) (at_count es up i n h) in
    omega (arith, is, some)

pub marking_ends : (a b : ArenaState) (all left : List (NodeId × ℕ)) → IsStrictlySortedBy id_cmp (keys_of all) → left ≡ [] → Marking a b all left → MarksCounted a b all
marking_ends a b all left up is m = record {
  changes = m.changes;
  down = m.down;
  every = λ i some. let h = has_count all i some in elim (m.done i h.0 h.1 h.2) [
    | inl on ↦ on
    | inr ahead ↦ absurd (none_in_empty i h.0 (subst (λ es. HasCount es i h.0) is ahead))
  ];
  only = λ i on. let from = m.only i on in (from.0, count_there all up from.0 from.1 from.2 from.3, from.4);
}

-- the node whose turn it is, is there
pub turn_live : (a b : ArenaState) (all left rest : List (NodeId × ℕ)) (e : NodeId × ℕ) → IsStrictlySortedBy id_cmp (keys_of all) → left ≡ e ∷ rest → 0 < e.1 → Marking a b all left
    → ((i : NodeId) → 0 < count_of all i → IsLive (table a) (Node i)) → IsLive (table b) (Node e.0)
turn_live a b all left rest e up is some m live =
    subst (λ (t : Table). IsLive t (Node e.0)) (sym m.changes.table)
    (live e.0 (count_there all up e.0 e.1 (m.ahead e.0 e.1 (subst (λ es. HasCount es e.0 e.1) (sym is) (in_head e rest))) some))

-- what was marked on the way is marked at the end of a path
follow_marked : (a : ArenaState) → MarksReachDown a → (path : List Bool) (r : Ref) → IsMarked a r → IsMarked a (follow (table a) r path)
follow_marked a down [] r on = on
follow_marked a down (v ∷ vs) Zero on = subst (IsMarked a) (sym (follow-zero (table a) vs)) tt
follow_marked a down (v ∷ vs) One on = subst (IsMarked a) (sym (follow-one (table a) vs)) tt
follow_marked a down (v ∷ vs) (Node i) on = follow_marked a down vs (step (table a) (Node i) v) (elim (table a i) as (λ o. table a i ≡ o → IsMarked a (step (table a) (Node i) v)) [
  | None ↦ λ e. subst (IsMarked a) (sym (ap (λ o. option_map_or (λ (m : Triple). child m v) o (Node i)) e)) on
  | Some n ↦ λ e. subst (IsMarked a) (sym (step-at (table a) i n v e)) (down i n v e on)
] refl)

pub live_stored : (a : ArenaState) (i : NodeId) → IsLive (table a) (Node i) → (n : Stored) × (map.get a.nodes i ≡ Some n)
unfolding table
live_stored a i live = stored_there a i (there (map.get a.nodes i) live)
  where
    there : (o : Option Stored) → IsSome (option_map triple_of o) → IsSome o
    there None s = s
    there (Some n) s = refl

stored_live : (a : ArenaState) (i : NodeId) (n : Stored) → map.get a.nodes i ≡ Some n → IsLive (table a) (Node i)
unfolding table
stored_live a i n is = rw is refl

mark_there : (a : ArenaState) (i : NodeId) → has_mark a i ≡ true → (n : Stored) × (map.get a.nodes i ≡ Some n) × (n.mark ≡ true)
mark_there a i on =
    elim (map.get a.nodes i) as (λ o. map.get a.nodes i ≡ o → option_map_or (λ (n : Stored). n.mark) o false ≡ true → (n : Stored) × (map.get a.nodes i ≡ Some n) × (n.mark ≡ true)) [
      | None ↦ λ e s. absurd (cc)
      | Some n ↦ λ e s. (n, e, s)
    ] refl on

sifted : (o : Option Stored) (n : Stored) → if_marked o ≡ Some n → option_map_or (λ (m : Stored). m.mark) o false ≡ true
sifted None n e = absurd (cc)
sifted (Some m) n e = elim (cases_Bool m.mark) [
  | inl on ↦ on
  | inr off ↦ let no : None ≡ Some n = sym (ap (λ b. cond b (Some m) None) off) ∙ e in absurd (cc)
]

unmarked_twice : (o : Option Stored) (m : Stored) → Some (unmarked m) ≡ option_map unmarked (option_map unmarked o) → (n : Stored) × (o ≡ Some n) × (unmarked n ≡ unmarked m)
unmarked_twice None m e = absurd (cc)
unmarked_twice (Some n) m e = (n, refl, let same : unmarked m ≡ unmarked n = ap (λ o. unwrap_or o (unmarked m)) e in sym same)

-- the marks are cleared
pub record Clears (old new : ArenaState) : Type 0 where
  pub nodes : (i : NodeId) → map.get new.nodes i ≡ option_map unmarked (map.get old.nodes i)
  pub table : table new ≡ table old
  pub limit : new.limit ≡ old.limit

pub cleared_mark : (a b : ArenaState) → Clears a b → (i : NodeId) → has_mark b i ≡ false
cleared_mark a b clears i = ap (λ o. option_map_or (λ (n : Stored). n.mark) o false) (clears.nodes i) ∙ none (map.get a.nodes i)
  where
    none : (o : Option Stored) → option_map_or (λ (n : Stored). n.mark) (option_map unmarked o) false ≡ false
    none None = refl
    none (Some n) = refl

-- the unmarked nodes are removed
pub record Removes (old new : ArenaState) : Type 0 where
  pub nodes : (i : NodeId) → map.get new.nodes i ≡ if_marked (map.get old.nodes i)
  pub limit : new.limit ≡ old.limit
  pub reduced : IsReduced (table new)
  pub means : Grows (table new) (table old)

abbrev pub begun : ArenaState → Frame
begun a = record { arena = a; units = 0; made = 0 }

-- clear, mark, remove, clear
pub reclaims : (f : Frame) (es : List (NodeId × ℕ)) (b c d e : ArenaState) → Clears f.arena b → MarksCounted b c es → Removes c d → Clears d e → Reclaims (state f es) (state (begun e) es)
reclaims f es b c d e first marks removes last =
    let same : table c ≡ table f.arena = marks.changes.table ∙ first.table in
    record {
      kept = λ i reach.
          let on_j : IsMarked c (Node reach.0) = marks.every reach.0 reach.1 in
          let end : follow (table c) (Node reach.0) reach.2.0 ≡ Node i = ap (λ (t : Table). follow t (Node reach.0) reach.2.0) same ∙ reach.2.1 in
          let on : has_mark c i ≡ true = subst (IsMarked c) end (follow_marked c marks.down reach.2.0 (Node reach.0) on_j) in
          let there = mark_there c i on in
          let m : Stored = there.0 in
          let stays : map.get d.nodes i ≡ Some m = removes.nodes i ∙ ap if_marked there.1 ∙ ap (λ b. cond b (Some m) None) there.2 in
          let back : Some (unmarked m) ≡ option_map unmarked (option_map unmarked (map.get f.arena.nodes i)) =
          sym (ap (option_map unmarked) there.1) ∙ marks.changes.nodes i ∙ ap (option_map unmarked) (first.nodes i) in
          let was = unmarked_twice (map.get f.arena.nodes i) m back in
          (was.0, was.1, last.nodes i ∙ ap (option_map unmarked) stays ∙ ap Some (sym was.2));
      only = λ i live.
          let there = live_stored d i (subst (λ (t : Table). IsLive t (Node i)) last.table live) in
          let on : has_mark c i ≡ true = sifted (map.get c.nodes i) there.0 (sym (removes.nodes i) ∙ there.1) in
          let from = marks.only i on in
          (from.0, from.1, subst (λ (t : Table). Reaches t (Node from.0) i) first.table from.2);
      means = subst (λ (t : Table). Grows (table e) t) same (subst (λ (t : Table). Grows t (table c)) (sym last.table) removes.means);
      reduced = subst IsReduced (sym last.table) removes.reduced;
      limit = last.limit ∙ removes.limit ∙ marks.changes.limit ∙ first.limit;
      counts = refl;
      units = refl;
      made = refl;
    }

pub reclaimed_pool : (f : Frame) (es : List (NodeId × ℕ)) (e : ArenaState) → Reclaims (state f es) (state (begun e) es) → IsPool (state (begun e) es)
reclaimed_pool f es e done = record {
  reduced = done.reduced;
  live = λ i some. let kept = done.kept i (i, some, ([], refl)) in stored_live e i (unmarked kept.0) kept.2;
  made = omega arith;
}

-- what is listed is counted
listed_once : (i : NodeId) (rs : List Ref) → Contains rs (Node i) → 0 < times i rs
listed_once i rs h = by rs h.0 h.1 h.2
  where
    by : (rs : List Ref) (k : ℕ) → k < length rs → get_or rs k (Node i) ≡ Node i → 0 < times i rs
    by [] k within is = absurd (omega (arith, within))
    by (r ∷ rs) zero within is = subst (λ (x : Ref). 0 < times i (x ∷ rs)) (sym is) (let once : eqb i.0 i.0 ≡ true = eq-eqb i.0 i.0 refl in rw once (omega arith))
    by (Zero ∷ rs) (suc k) within is = by rs k (omega (arith, within)) is
    by (One ∷ rs) (suc k) within is = by rs k (omega (arith, within)) is
    by (Node j ∷ rs) (suc k) within is = let rest = by rs k (omega (arith, within)) is in omega (arith, rest)

pub held_means : (old new : PoolState) (rs : List Ref) → Reclaims old new → AreHeld old rs → MeansTheSame (table old.arena) (table new.arena) rs
held_means old new rs done held Zero h = (tt, λ w. sym (done.means.words Zero tt w))
held_means old new rs done held One h = (tt, λ w. sym (done.means.words One tt w))
held_means old new rs done held (Node i) h =
    let once = listed_once i rs h in
    let enough = held i in
    let kept = done.kept i (i, omega (arith, once, enough), ([], refl)) in
    let live = stored_live new.arena i (unmarked kept.0) kept.2 in
    (live, λ w. sym (done.means.words (Node i) live w))

pub times-append : (i : NodeId) (rs qs : List Ref) → times i (rs ++ qs) ≡ times i rs + times i qs
times-append i [] qs = omega arith
times-append i (Zero ∷ rs) qs = times-append i rs qs
times-append i (One ∷ rs) qs = times-append i rs qs
times-append i (Node j ∷ rs) qs = let rest = times-append i rs qs in omega (arith, rest)
