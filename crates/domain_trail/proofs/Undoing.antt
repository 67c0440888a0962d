-- Entries of a trail: what undoing leaves of them, and what they pin.
use Rattle.std.proofs.Common.{◌≡◌, ℕ, ◌+◌, ◌<◌, ◌≤◌, Bool, true, false, cond, ltb, leb, List, [], ◌∷◌, length, reverse, refl, sym, ap, ◌∙◌, subst, arith}
use Rattle.std.specs.List.{filter}
use Rattle.std.proofs.lemmas.Bool.{ltb-true, ltb-false, le-leb, lt-leb, lt-ltb, le-ltb}
use Rattle.std.proofs.lemmas.List.{length-reverse}
use Rattle.diagram_arena.specs.declared.nodes.Ref.{Ref}
use Rattle.domain_trail.specs.declared.entries.Entry.{Entry}
use Rattle.domain_trail.specs.Trail.{TrailState, newest_first, undo, top, back, cut, HaveLevels, IsUndone, IsUndoneTo}

-- ---- the entries up to a level

-- where the newest is of that level or below, all are
all_kept : (k : ℕ) (es : List Entry) → HaveLevels es → top es ≤ k → filter (λ (e : Entry). leb e.level k) es ≡ es
all_kept k [] h low = refl
all_kept k (e ∷ es) h low =
    let below : top es ≤ k = omega (arith, h.0, low) in
    ap (λ b. cond b (e ∷ filter (λ (x : Entry). leb x.level k) es) (filter (λ (x : Entry). leb x.level k) es)) (le-leb e.level k low)
    ∙ ap (λ xs. e ∷ xs) (all_kept k es h.1 below)

pub cut_is : (k : ℕ) (es : List Entry) → HaveLevels es → cut k es ≡ filter (λ (e : Entry). leb e.level k) es
cut_is k [] h = refl
cut_is k (e ∷ es) h =
    elim (ltb k e.level) as (λ b. ltb k e.level ≡ b → cond b (cut k es) (e ∷ es) ≡ filter (λ (x : Entry). leb x.level k) (e ∷ es)) [
      | true ↦ λ above. cut_is k es h.1
          ∙ sym (ap (λ b. cond b (e ∷ filter (λ (x : Entry). leb x.level k) es) (filter (λ (x : Entry). leb x.level k) es)) (lt-leb e.level k (ltb-true k e.level above)))
      | false ↦ λ low. sym (all_kept k (e ∷ es) h (ltb-false k e.level low))
    ] refl

-- ---- one entry less

pub some_entry : (k : ℕ) (es : List Entry) → k < top (reverse es) → 0 < length es
some_entry k [] above = absurd (let none : k < 0 = above in omega (arith, none))
some_entry k (e ∷ es) above = omega arith

pub shorter : (s t : TrailState) → IsUndone s t → length t.entries < length s.entries
shorter s t is =
    let all = ap length is.newest in
    let old = length-reverse s.entries in
    let new = length-reverse t.entries in
    omega (arith, all, old, new)

-- ---- undoing to a level

pub one_undone : (k : ℕ) (s t : TrailState) → IsUndone s t → k < top (newest_first s)
    → (cut k (newest_first s) ≡ cut k (newest_first t)) × (back k (newest_first s) s.domains ≡ back k (newest_first t) t.domains)
one_undone k s t is above =
    let e = is.entry in
    let high : k < e.level = subst (λ (es : List Entry). k < top es) is.newest above in
    let test : ltb k e.level ≡ true = lt-ltb k e.level high in (
      ap (cut k) is.newest ∙ ap (λ b. cond b (cut k (newest_first t)) (e ∷ newest_first t)) test,
      ap (λ es. back k es s.domains) is.newest ∙ ap (λ b. cond b (back k (newest_first t) (undo s.domains e)) s.domains) test ∙ ap (back k (newest_first t)) (sym is.domains),
    )

none_above : (k : ℕ) (es : List Entry) (ds : List Ref) → top es ≤ k → (cut k es ≡ es) × (back k es ds ≡ ds)
none_above k [] ds low = (refl, refl)
none_above k (e ∷ es) ds low =
    let test : ltb k e.level ≡ false = le-ltb k e.level low in
    (ap (λ b. cond b (cut k es) (e ∷ es)) test, ap (λ b. cond b (back k es (undo ds e)) ds) test)

pub all_undone : (k : ℕ) (s t u : TrailState) → cut k (newest_first t) ≡ cut k (newest_first s) → back k (newest_first t) t.domains ≡ back k (newest_first s) s.domains → top (newest_first t) ≤ k
    → u ≡ record t { level = top (newest_first t) } → IsUndoneTo k s u
all_undone k s t u entries domains low is =
    let none = none_above k (newest_first t) t.domains low in
    let there : IsUndoneTo k s (record t { level = top (newest_first t) }) = record { entries = sym none.0 ∙ entries; domains = sym none.1 ∙ domains; level = refl } in
    subst (IsUndoneTo k s) (sym is) there
