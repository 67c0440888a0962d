-- The counts of pins as a finite map: what an ordered map gives at an id, and what a change of one count means.
use Rattle.std.proofs.Common.{◌≡◌, ◌≢◌, ℕ, ◌+◌, true, false, cond, eqb, List, [], ◌∷◌, ◌++◌, replicate, Option, Some, refl, sym, ◌∙◌, ap, subst, inl, inr, arith, zero, suc}
use Rattle.std.specs.Prelude.{T}
use Rattle.std.specs.Option.{unwrap_or}
use Rattle.std.specs.Ordering.{is_eq, nat_cmp}
use Rattle.std.specs.declared.cmp.Ordering.{Ordering}
use Rattle.std.specs.declared.cmp.Ordering.TheVariants.{Less}
use Rattle.std.specs.List.{flat_map, AllByRecursion}
use Rattle.std.specs.List.Sorted.{IsStrictlySortedBy}
use Rattle.std.specs.Map.{lookup, keys_of}
use Rattle.std.specs.FinMap as map
use Rattle.std.specs.FinMap.Entries.{find, is_sorted, below_all}
use Rattle.std.proofs.lemmas.List.{replicate-append-replicate}
use Rattle.std.proofs.lemmas.Bool.{cases_eq, ne_eqb, eq-eqb}
use Rattle.diagram_arena.specs.declared.nodes.NodeId.{NodeId}
use Rattle.diagram_arena.specs.declared.nodes.Ref.{Ref}
use Rattle.diagram_arena.specs.declared.nodes.Ref.TheVariants.{Node}
use Rattle.diagram_arena.specs.contracts.nodes.NodeIdOrd.TheImpl.{cmp-value}
use Rattle.diagram_arena.specs.Table.{id_cmp, IsLive, IsReduced}
use Rattle.diagram_arena.specs.Arena.{ArenaState, table}
use Rattle.diagram_arena.proofs.Ids.{same_id, id_cmp_total, id_cmp-IsAntisymmetric, tied_same, tied_other}
use Rattle.node_reclaim.specs.declared.pinning.Pool.TheInside.{Inside}
use Rattle.node_reclaim.specs.Pool.{PoolState, pins_of, times, Pins, Unpins, pinned_refs}
use Rattle.node_reclaim.specs.Body.{IsPool}

-- the derived `cmp`, under the name that the toolchain gives it
abbrev pub derived : NodeId → NodeId → Ordering
derived = cmp-value.it

-- the entry at an id
abbrev pub at : NodeId → List (NodeId × ℕ) → Option ℕ
at q es = lookup (λ k. is_eq (derived q k)) es

find-lookup : (q : NodeId) (es : List (NodeId × ℕ)) → find id_cmp q es ≡ at q es
find-lookup q [] = refl
find-lookup q (e ∷ es) = λ i. cond (is_eq (derived q e.0)) (Some e.1) (find-lookup q es i)

pub get-entries : (es : List (NodeId × ℕ)) (q : NodeId) → map.get (map.from_entries {R = id_cmp} es) q ≡ at q es
get-entries es q = map.get-from_entries id_cmp_total es q ∙ find-lookup q es

-- a pool but for its pins
pub record Frame : Type 0 where
  pub arena : ArenaState
  pub units : ℕ
  pub made : ℕ

abbrev pub frame : Inside → Frame
frame a = record { arena = a.arena; units = a.units; made = a.made }

-- the pool that has these entries
abbrev pub state : Frame → List (NodeId × ℕ) → PoolState
state a es = record { arena = a.arena; counts = map.from_entries es; units = a.units; made = a.made }

pub pins-state : (a : Frame) (es : List (NodeId × ℕ)) (q : NodeId) → pins_of (state a es) q ≡ unwrap_or (at q es) 0
pins-state a es q = ap (λ o. unwrap_or o 0) (get-entries es q)

-- the entries fs are es with w under the id i
abbrev pub Puts : NodeId → Option ℕ → List (NodeId × ℕ) → List (NodeId × ℕ) → Type 0
Puts i w es fs = (q : NodeId) → at q fs ≡ cond (is_eq (derived i q)) w (at q es)

put_here : (i q : NodeId) (w : Option ℕ) (es fs : List (NodeId × ℕ)) → Puts i w es fs → i.0 ≡ q.0 → at q fs ≡ w
put_here i q w es fs puts e = puts q ∙ ap (λ b. cond b w (at q es)) (tied_same i.0 q.0 e)

put_other : (i q : NodeId) (w : Option ℕ) (es fs : List (NodeId × ℕ)) → Puts i w es fs → i.0 ≢ q.0 → at q fs ≡ at q es
put_other i q w es fs puts ne = puts q ∙ ap (λ b. cond b w (at q es)) (tied_other i.0 q.0 ne)

times_here : (i q : NodeId) → i.0 ≡ q.0 → times q (Node i ∷ []) ≡ 1
times_here i q e = let b : eqb q.0 i.0 ≡ true = eq-eqb q.0 i.0 (sym e) in rw b refl

times_other : (i q : NodeId) → i.0 ≢ q.0 → times q (Node i ∷ []) ≡ 0
times_other i q ne = let b : eqb q.0 i.0 ≡ false = ne_eqb q.0 i.0 (λ e. ne (sym e)) in rw b refl

-- at each id, the second map has as much as the first and one more where the id is i
one_more : (i : NodeId) (es fs : List (NodeId × ℕ)) (w : Option ℕ) → Puts i w es fs → unwrap_or w 0 ≡ unwrap_or (at i es) 0 + 1
    → (q : NodeId) → unwrap_or (at q fs) 0 ≡ unwrap_or (at q es) 0 + times q (Node i ∷ [])
one_more i es fs w puts more q =
    elim (cases_eq i.0 q.0) [
      | inl e ↦
          let here = ap (λ o. unwrap_or o 0) (put_here i q w es fs puts e) in
          let same = ap (λ j. unwrap_or (at j es) 0) (same_id i q e) in
          let once = times_here i q e in
          here ∙ more ∙ omega (arith, same, once)
      | inr ne ↦
          let other = ap (λ o. unwrap_or o 0) (put_other i q w es fs puts ne) in
          let none = times_other i q ne in
          other ∙ omega (arith, none)
    ]

one_less : (i : NodeId) (es fs : List (NodeId × ℕ)) (w : Option ℕ) → Puts i w es fs → unwrap_or w 0 + 1 ≡ unwrap_or (at i es) 0
    → (q : NodeId) → unwrap_or (at q es) 0 ≡ unwrap_or (at q fs) 0 + times q (Node i ∷ [])
one_less i es fs w puts less q =
    elim (cases_eq i.0 q.0) [
      | inl e ↦
          let here = ap (λ o. unwrap_or o 0) (put_here i q w es fs puts e) in
          let same = ap (λ j. unwrap_or (at j es) 0) (same_id i q e) in
          let once = times_here i q e in
          omega (arith, here, less, same, once)
      | inr ne ↦
          let other = ap (λ o. unwrap_or o 0) (put_other i q w es fs puts ne) in
          let none = times_other i q ne in
          omega (arith, other, none)
    ]

pub pins_put : (a : Frame) (i : NodeId) (es fs : List (NodeId × ℕ)) (w : Option ℕ) → Puts i w es fs → unwrap_or w 0 ≡ pins_of (state a es) i + 1
    → Pins (state a es) (state a fs) (Node i ∷ [])
pins_put a i es fs w puts more = record {
  only = refl;
  gained = λ q. pins-state a fs q ∙ one_more i es fs w puts (more ∙ ap (λ n. n + 1) (pins-state a es i)) q
      ∙ ap (λ n. n + times q (Node i ∷ [])) (sym (pins-state a es q));
}

pub unpins_put : (a : Frame) (i : NodeId) (es fs : List (NodeId × ℕ)) (w : Option ℕ) → Puts i w es fs → unwrap_or w 0 + 1 ≡ pins_of (state a es) i
    → Unpins (state a es) (state a fs) (Node i ∷ [])
unpins_put a i es fs w puts less = record {
  only = refl;
  lost = λ q. pins-state a es q ∙ one_less i es fs w puts (less ∙ pins-state a es i) q
      ∙ ap (λ n. n + times q (Node i ∷ [])) (sym (pins-state a fs q));
}

-- what is pinned after a pin of a live node was there before, or is that node
pub kept_pin : (a : Frame) (i : NodeId) (es fs : List (NodeId × ℕ)) → IsPool (state a es) → Pins (state a es) (state a fs) (Node i ∷ []) → IsLive (table a.arena) (Node i) → IsPool (state a fs)
kept_pin a i es fs kept pins live = record {
  reduced = kept.reduced;
  live = λ q some. elim (cases_eq i.0 q.0) [
    | inl e ↦ subst (λ (j : NodeId). IsLive (table a.arena) (Node j)) (same_id i q e) live
    | inr ne ↦ let none = times_other i q ne in let gained = pins.gained q in kept.live q (omega (arith, some, none, gained))
  ];
  made = kept.made;
}

pub kept_unpin : (a : Frame) (i : NodeId) (es fs : List (NodeId × ℕ)) → IsPool (state a es) → Unpins (state a es) (state a fs) (Node i ∷ []) → IsPool (state a fs)
kept_unpin a i es fs kept unpins = record {
  reduced = kept.reduced;
  live = λ q some. let lost = unpins.lost q in kept.live q (omega (arith, some, lost));
  made = kept.made;
}

pub kept_new : (a : ArenaState) → IsReduced (table a) → IsPool (state (record { arena = a; units = 0; made = 0 }) [])
kept_new a ok = record {
  reduced = ok;
  live = λ q some. let none = pins-state (record { arena = a; units = 0; made = 0 }) [] q in absurd (omega (arith, some, none));
  made = omega arith;
}

-- an ordered map's entries are those of its finite map
below : (x : NodeId) (es : List (NodeId × ℕ)) → AllByRecursion (λ y. id_cmp x y ≡ Less) (keys_of es) → below_all id_cmp x es ≡ true
below x [] all = refl
below x (e ∷ es) all = let less : id_cmp x e.0 ≡ Less = all.0 in rw less (below x es all.1)

sorted_from : (es : List (NodeId × ℕ)) → IsStrictlySortedBy id_cmp (keys_of es) → is_sorted id_cmp es ≡ true
unfolding IsStrictlySortedBy
sorted_from [] up = refl
sorted_from (e ∷ es) up =
    let first = below e.0 es up.0 in
    let rest = sorted_from es up.1 in
    rw (first, rest) refl

pub entries-from_entries : (es : List (NodeId × ℕ)) → IsStrictlySortedBy id_cmp (keys_of es) → map.entries (map.from_entries {R = id_cmp} es) ≡ es
entries-from_entries es up =
    let sorted : T (is_sorted id_cmp es) = subst T (sym (sorted_from es up)) tt in
    let same : map.from_entries {R = id_cmp} es ≡ map.from_sorted es =
    map.same_map id_cmp_total id_cmp-IsAntisymmetric _ _ (λ q.
    map.get-from_entries id_cmp_total es q ∙ sym (map.get-from_sorted id_cmp es q sorted)) in
    ap map.entries same ∙ map.entries-from_sorted id_cmp es sorted

-- a node once for each of its pins
abbrev pub once : NodeId × ℕ → List Ref
once e = replicate e.1 (Node e.0)

pub pinned_refs-state : (a : Frame) (es : List (NodeId × ℕ)) → IsStrictlySortedBy id_cmp (keys_of es) → pinned_refs (state a es) ≡ flat_map once es
pinned_refs-state a es up = ap (flat_map once) (entries-from_entries es up)

pub replicate_more : (n : ℕ) (r : Ref) → replicate (n + 1) r ≡ replicate n r ++ r ∷ []
replicate_more n r = sym (replicate-append-replicate n 1 r)

times_here_more : (q i : NodeId) (n : ℕ) (rs : List Ref) → i.0 ≡ q.0 → times q (replicate n (Node i) ++ rs) ≡ n + times q rs
times_here_more q i zero rs e = omega arith
times_here_more q i (suc n) rs e =
    let b : eqb q.0 i.0 ≡ true = eq-eqb q.0 i.0 (sym e) in
    let rest = times_here_more q i n rs e in
    rw b (omega (arith, rest))

times_other_more : (q i : NodeId) (n : ℕ) (rs : List Ref) → i.0 ≢ q.0 → times q (replicate n (Node i) ++ rs) ≡ times q rs
times_other_more q i zero rs ne = refl
times_other_more q i (suc n) rs ne =
    let b : eqb q.0 i.0 ≡ false = ne_eqb q.0 i.0 (λ e. ne (sym e)) in
    let rest = times_other_more q i n rs ne in
    rw b (omega (arith, rest))

-- an id below all ids of the entries stands nowhere
none_below : (x : NodeId) (es : List (NodeId × ℕ)) → AllByRecursion (λ y. id_cmp x y ≡ Less) (keys_of es) → times x (flat_map once es) ≡ 0
none_below x [] all = refl
none_below x (e ∷ es) all =
    let less : id_cmp x e.0 ≡ Less = all.0 in
    let apart : e.0.0 ≢ x.0 = λ same. let tie = tied_same x.0 e.0.0 (sym same) in let no : is_eq Less ≡ true = sym (ap is_eq less) ∙ tie in cc in
    times_other_more x e.0 e.1 (flat_map once es) apart ∙ none_below x es all.1

-- each node stands as often as it has pins
pub times-once : (es : List (NodeId × ℕ)) → IsStrictlySortedBy id_cmp (keys_of es) → (q : NodeId) → times q (flat_map once es) ≡ unwrap_or (at q es) 0
unfolding IsStrictlySortedBy
times-once [] up q = refl
times-once (e ∷ es) up q =
    elim (cases_eq e.0.0 q.0) [
      | inl same ↦
          let tie : is_eq (nat_cmp q.0 e.0.0) ≡ true = tied_same q.0 e.0.0 (sym same) in
          let none = none_below e.0 es up.0 in
          let none' : times q (flat_map once es) ≡ 0 = ap (λ x. times x (flat_map once es)) (sym (same_id e.0 q same)) ∙ none in
          let here = times_here_more q e.0 e.1 (flat_map once es) same in
          let found : e.1 ≡ unwrap_or (at q (e ∷ es)) 0 = sym (ap (λ b. unwrap_or (cond b (Some e.1) (at q es)) 0) tie) in
          here ∙ omega (arith, none', found)
      | inr ne ↦
          let tie : is_eq (nat_cmp q.0 e.0.0) ≡ false = tied_other q.0 e.0.0 (λ x. ne (sym x)) in
          times_other_more q e.0 e.1 (flat_map once es) ne ∙ times-once es up.1 q ∙ sym (ap (λ b. unwrap_or (cond b (Some e.1) (at q es)) 0) tie)
    ]
