-- The stored boxes, newest first, and those under the ids.
use Rattle.std.proofs.Common.{◌≡◌, ℕ, ◌<◌, ◌≤◌, ◌==◌, Bool, true, List, [], ◌∷◌, length, map, reverse, Option, None, Some, inl, inr, refl, sym, ap, ◌∙◌, subst, arith, Contains}
use Rattle.std.specs.Prelude.{slice_get, find}
use Rattle.std.specs.Option.{option_map_or}
use Rattle.std.specs.List.{AllByRecursion}
use Rattle.std.proofs.lemmas.Bool.{ne_eqb, cond-false}
use Rattle.std.proofs.lemmas.List.Elements.{All-contains, recursion_from_All}
use Rattle.set_meaning.specs.declared.kinds.Value.{Value}
use Rattle.set_meaning.specs.declared.problems.Problem.{Problem}
use Rattle.bit_layout.specs.Order.{LayoutState}
use Rattle.diagram_arena.specs.Table.{Table}
use Rattle.search_rules.specs.Trail as rules
use Rattle.search_rules.specs.Trail.{IsStored, IsLearned}
use Rattle.search_moves.specs.Answers.{SpeaksOfVariables}
use Rattle.exact_steps.specs.Domains.{variable, values_in}
use Rattle.problem_rules.specs.Parts.{initial_set}
use Rattle.problem_rules.specs.Posed.{problem_of}
use Rattle.domain_trail.specs.Trail.{TrailState}
use Rattle.box_clauses.specs.declared.sides.Side.{Side}
use Rattle.box_clauses.specs.declared.store.StoredBox.{StoredBox}
use Rattle.box_clauses.specs.Boxes.{box_of, IsSide, AreSides}
use Rattle.search_state.specs.Readings.{sides_at, stored_of, boxes_of, AreReadable}
use Rattle.search_state.proofs.Lists.{in_reverse, in_reversed, in_head, in_tail, in_cons, get_at, some_at, listed_at}

-- ---- ids

read_stored : (l : LayoutState) (t : Table) (xs : List StoredBox) (s : StoredBox) → Contains xs s → IsStored (map (stored_of l t) xs) (box_of l t s.sides)
read_stored l t [] s (k, within, at) = absurd (omega (arith, within))
read_stored l t (x ∷ xs) s h = elim (in_cons x xs s h) [
  | inl same ↦ inl (ap (λ (y : StoredBox). box_of l t y.sides) same)
  | inr later ↦ inr (read_stored l t xs s later)
]

stored_read : (l : LayoutState) (t : Table) (xs : List StoredBox) (b : ℕ → Value → Bool) → IsStored (map (stored_of l t) xs) b → (s : StoredBox) × Contains xs s × (box_of l t s.sides ≡ b)
stored_read l t [] b h = absurd h
stored_read l t (x ∷ xs) b (inl same) = (x, in_head x xs, same)
stored_read l t (x ∷ xs) b (inr later) = let (s, there, same) = stored_read l t xs b later in (s, in_tail x xs s there, same)

under_is : (l : LayoutState) (t : Table) (stored : List StoredBox) (id : ℕ) (s : StoredBox) → slice_get stored id ≡ Some s → box_of l t (sides_at stored id) ≡ box_of l t s.sides
under_is l t stored id s at = ap (λ o. box_of l t (option_map_or (λ (x : StoredBox). x.sides) o [])) at

pub under_stored : (l : LayoutState) (t : Table) (stored : List StoredBox) (id : ℕ) → id < length stored → IsStored (boxes_of l t stored) (box_of l t (sides_at stored id))
under_stored l t stored id within =
    let (s, at) = some_at stored id within in
    subst (λ (b : ℕ → Value → Bool). IsStored (boxes_of l t stored) b) (sym (under_is l t stored id s at))
    (read_stored l t (reverse stored) s (in_reverse stored s (listed_at stored id s at)))

pub stored_under : (l : LayoutState) (t : Table) (stored : List StoredBox) (b : ℕ → Value → Bool) → IsStored (boxes_of l t stored) b
    → (id : ℕ) × (id < length stored) × (box_of l t (sides_at stored id) ≡ b)
stored_under l t stored b h =
    let (s, there, same) = stored_read l t (reverse stored) b h in
    let place = in_reversed stored s there in
    (place.0, place.1, under_is l t stored place.0 s (get_at stored s place) ∙ same)

pub learned_stored : {X : Type 0} (boxes : List (rules.Stored X)) (b : ℕ → X → Bool) → IsLearned boxes b → IsStored boxes b
learned_stored [] b h = h
learned_stored (s ∷ ss) b (inl here) = inl here.1
learned_stored (s ∷ ss) b (inr later) = inr (learned_stored ss b later)

-- ---- beyond the last variable

no_side : (l : LayoutState) (t : Table) (sides : List Side) (v : ℕ) → AllByRecursion (IsSide l t) sides → length l.kinds ≤ v → find (λ (s : Side). s.var.0 == v) sides ≡ None
no_side l t [] v all beyond = refl
no_side l t (s ∷ ss) v all beyond =
    let known : s.var.0 < length l.kinds = all.0.known in
    let rest : Option Side = find (λ (s : Side). s.var.0 == v) ss in
    cond-false (s.var.0 == v) (Some s) rest (ne_eqb s.var.0 v (λ same. omega (arith, known, beyond, same))) ∙ no_side l t ss v all.1 beyond

pub speaks : (p : Problem) (l : LayoutState) (t : Table) (stored : List StoredBox) (s : TrailState) (b : ℕ → Value → Bool) → l.kinds ≡ p.kinds → AreReadable l t stored s
    → IsStored (boxes_of l t stored) b → SpeaksOfVariables (problem_of p) b
speaks p l t stored s b kinds readable h v beyond x has =
    let (box, there, same) = stored_read l t (reverse stored) b h in
    let are : AreSides l t box.sides = All-contains (λ (b : StoredBox). AreSides l t b.sides) stored box readable.boxes (in_reversed stored box there) in
    let past : length l.kinds ≤ v = subst (λ n. n ≤ v) (sym (ap length kinds)) beyond in
    let none = no_side l t box.sides v (recursion_from_All (IsSide l t) box.sides are.each) past in
    subst (λ (c : ℕ → Value → Bool). c v x ≡ true) same
    (ap (λ o. option_map_or (λ (s : Side). values_in l t (variable v) s.set x) o (initial_set l.kinds v x)) none
    ∙ subst (λ ks. initial_set ks v x ≡ true) (sym kinds) has)
