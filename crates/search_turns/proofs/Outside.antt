-- A narrowing by a stored box, to what is outside its side.
use Rattle.std.proofs.Common.{◌≡◌, ℕ, ◌<◌, ◌==◌, Bool, true, false, cond, not, ◌&&◌, List, [], ◌∷◌, length, get_or, Option, Some, None, refl, sym, ap, ◌∙◌, subst, Contains}
use Rattle.std.specs.Prelude.{slice_get, find}
use Rattle.std.specs.List.{list_any}
use Rattle.std.specs.Option.{option_map, option_map_or}
use Rattle.std.proofs.lemmas.Bool.{both_ways, eqb-true}
use Rattle.std.proofs.lemmas.List.Elements.{All-contains}
use Rattle.std.proofs.lemmas.Option.{slice_get-get_or}
use Rattle.set_meaning.specs.declared.kinds.Kind.{Kind}
use Rattle.set_meaning.specs.declared.kinds.Value.{Value}
use Rattle.set_meaning.specs.declared.problems.BoxId.{BoxId}
use Rattle.set_meaning.specs.declared.problems.VarId.{VarId}
use Rattle.set_meaning.specs.Kinds.{initial_values}
use Rattle.bit_layout.specs.Order.{LayoutState}
use Rattle.bit_layout.proofs.Rising.{in_head, in_tail}
use Rattle.diagram_arena.specs.declared.nodes.Ref.{Ref}
use Rattle.diagram_arena.specs.declared.nodes.Ref.TheVariants.{Zero}
use Rattle.diagram_arena.specs.Table.{Table, has}
use Rattle.diagram_arena.specs.Arena.{ArenaState, table}
use Rattle.node_reclaim.specs.Pool.{PoolState}
use Rattle.node_reclaim.specs.Growth.{Stays, NewAre}
use Rattle.node_reclaim.specs.Holders.{AreHeld, MeansTheSame}
use Rattle.pin_lists.specs.Units.{PinnedAreLive}
use Rattle.pin_lists.proofs.Leaving.{means_grown}
use Rattle.search_rules.specs.Family.{HasValue, without}
use Rattle.search_rules.specs.Box.{IsBoxNarrowed}
use Rattle.exact_steps.specs.Domains.{variable, same_value, word_of_value, values_in, IsDomain, family}
use Rattle.problem_rules.specs.Parts.{initial_set}
use Rattle.value_sets.specs.Sets.{IsValueSet, IsSetOf, NewArePartsOfValues}
use Rattle.domain_trail.specs.declared.entries.Reason.TheVariants as why
use Rattle.domain_trail.specs.Trail.{TrailState, narrowed, befores, held}
use Rattle.box_clauses.specs.declared.sides.Side.{Side}
use Rattle.box_clauses.specs.declared.store.StoredBox.{StoredBox}
use Rattle.box_clauses.specs.Boxes.{box_of, IsSide, AreSides}
use Rattle.box_clauses.specs.Stored.{stored_sets}
use Rattle.search_state.specs.Readings.{sides_at}
use Rattle.running_boxes.specs.Nodes.{IsOfVariable}
use Rattle.running_boxes.proofs.Newest.{sides_in_store}
use Rattle.search_turns.specs.Laws.{LowerLaws}
use Rattle.search_turns.specs.States.{held_by_search}
use Rattle.search_turns.specs.Work.{set_of, IsNarrowedOutside, IsReadyToNarrow}
use Rattle.search_turns.proofs.Pins.{only_first, only_last}
use Rattle.search_turns.proofs.Units.{Keeps}

-- ---- sides

abbrev of_side : ℕ → Side → Bool
of_side v s = s.var.0 == v

-- the side that is found
pub record IsFoundSide (sides : List Side) (v : ℕ) (r : Ref) : Type 0 where
  pub side : Side
  pub listed : Contains sides side
  pub var : side.var.0 ≡ v
  pub found : find (λ (s : Side). s.var.0 == v) sides ≡ Some side
  pub set : side.set ≡ r

-- the same, where the first test is known
record IsFirst (s : Side) (ss : List Side) (v : ℕ) (r : Ref) (b : Bool) : Type 0 where
  pub side : Side
  pub listed : Contains (s ∷ ss) side
  pub var : side.var.0 ≡ v
  pub found : cond b (Some s) (find (λ (x : Side). x.var.0 == v) ss) ≡ Some side
  pub set : side.set ≡ r

same_set : (s : Side) (r : Ref) → option_map (λ (x : Side). x.set) (Some s) ≡ Some r → s.set ≡ r
same_set s r e = cc

pub side_found : (sides : List Side) (v : ℕ) (r : Ref) → set_of sides v ≡ Some r → IsFoundSide sides v r
side_found [] v r e = absurd (cc)
side_found (s ∷ ss) v r e =
    let first : IsFirst s ss v r (s.var.0 == v) =
    elim (s.var.0 == v) as (λ b. (s.var.0 == v) ≡ b → option_map (λ (x : Side). x.set) (cond b (Some s) (find (λ (x : Side). x.var.0 == v) ss)) ≡ Some r → IsFirst s ss v r b) [
      | true ↦ λ is h. record { side = s; listed = in_head s ss; var = eqb-true s.var.0 v is; found = refl; set = same_set s r h }
      | false ↦ λ is h. let later = side_found ss v r h in
          record { side = later.side; listed = in_tail s ss later.side later.listed; var = later.var; found = later.found; set = later.set }
    ] refl e in
    record { side = first.side; listed = first.listed; var = first.var; found = first.found; set = first.set }

none_found : (o : Option Side) → option_map (λ (x : Side). x.set) o ≡ None → o ≡ None
none_found None e = refl
none_found (Some s) e = absurd (cc)

box_where : (l : LayoutState) (t : Table) (sides : List Side) (v : VarId) (o : Option Side) → find (λ (s : Side). s.var.0 == v.0) sides ≡ o
    → box_of l t sides v.0 ≡ (λ x. option_map_or (λ (s : Side). values_in l t v s.set x) o (initial_set l.kinds v.0 x))
box_where l t sides v o is = ap (λ (q : Option Side). λ x. option_map_or (λ (s : Side). values_in l t v s.set x) q (initial_set l.kinds v.0 x)) is

pub box_side : (l : LayoutState) (t : Table) (sides : List Side) (v : VarId) (r : Ref) → IsFoundSide sides v.0 r → box_of l t sides v.0 ≡ values_in l t v r
box_side l t sides v r is = box_where l t sides v (Some is.side) is.found ∙ ap (λ q. values_in l t v q) is.set

pub side_set : (l : LayoutState) (t : Table) (sides : List Side) (v : VarId) (r : Ref) → AreSides l t sides → IsFoundSide sides v.0 r → IsValueSet l t v r
side_set l t sides v r are is =
    let one : IsSide l t is.side = All-contains (IsSide l t) sides is.side are.each is.listed in
    let same : is.side.var ≡ v = ap variable is.var in
    subst (IsValueSet l t v) is.set (subst (λ (w : VarId). IsValueSet l t w is.side.set) same one.set)

-- a value of a set is an initial value
initial_value : (l : LayoutState) (t : Table) (v : VarId) (r : Ref) (x : Value) → values_in l t v r x ≡ true → initial_set l.kinds v.0 x ≡ true
initial_value l t v r x h = at (slice_get l.kinds v.0) (has t r (word_of_value l v x)) h
  where
    first : (a b : Bool) → (a && b) ≡ true → a ≡ true
    first true b h = refl
    first false b h = h

    at : (o : Option Kind) (b : Bool) → (option_map_or (λ (k : Kind). list_any (same_value x) (initial_values k)) o false && b) ≡ true → option_map_or (λ (k : Kind). list_any (same_value x) (initial_values k)) o true ≡ true
    at None b h = refl
    at (Some k) b h = first (list_any (same_value x) (initial_values k)) b h

pub family_here : (l : LayoutState) (t : Table) (rs : List Ref) (v : VarId) (r : Ref) → slice_get rs v.0 ≡ Some r → family l t rs v.0 ≡ values_in l t v r
family_here l t rs v r e = ap (λ o. λ x. option_map_or (λ q. values_in l t v q x) o true) e

left_over : (p q : Bool) → p ≡ true → q ≡ false → (p && not q) ≡ true
left_over p q e f = subst (λ x. (x && not q) ≡ true) (sym e) (subst (λ y. (true && not y) ≡ true) (sym f) refl)

-- ---- one try

module _ (laws : LowerLaws) (l : LayoutState) (a : PoolState) (stored : List StoredBox) (trail : TrailState) (id : BoxId) (v : VarId) (ready : IsReadyToNarrow l a stored trail id v) where
  pub held_trail : AreHeld a (held trail)
  held_trail = only_first a (held trail) (stored_sets stored) ready.pinned

  held_domains : AreHeld a trail.domains
  held_domains = only_first a trail.domains (befores trail.entries) held_trail

  held_boxes : AreHeld a (stored_sets stored)
  held_boxes = only_last a (held trail) (stored_sets stored) ready.pinned

  pub within_domains : v.0 < length trail.domains
  within_domains = subst (λ n. v.0 < n) (sym ready.readable.domains.long) ready.within

  sides_are : AreSides l (table a.arena) (sides_at stored id.0)
  sides_are = sides_in_store l (table a.arena) stored id.0 ready.readable.boxes ready.known

  pub side_is_set : (r : Ref) → set_of (sides_at stored id.0) v.0 ≡ Some r → IsValueSet l (table a.arena) v r
  side_is_set r is = side_set l (table a.arena) (sides_at stored id.0) v r sides_are (side_found (sides_at stored id.0) v.0 r is)

  pub domain_is_set : (d : Ref) → slice_get trail.domains v.0 ≡ Some d → IsValueSet l (table a.arena) v d
  domain_is_set d at = (ready.readable.domains.each v d at).diagram

  -- the box has a side of the variable
  pub has_side : set_of (sides_at stored id.0) v.0 ≡ None → ⊥
  has_side none =
      let out = ready.narrows.outside in
      let d = slice_get-get_or trail.domains v.0 Zero within_domains in
      let inside : values_in l (table a.arena) v (get_or trail.domains v.0 Zero) out.0 ≡ true = subst (λ (s : Value → Bool). s out.0 ≡ true) (family_here l (table a.arena) trail.domains v (get_or trail.domains v.0 Zero) d) out.1 in
      let whole : box_of l (table a.arena) (sides_at stored id.0) v.0 ≡ initial_set l.kinds v.0 = box_where l (table a.arena) (sides_at stored id.0) v None (none_found (find (λ (s : Side). s.var.0 == v.0) (sides_at stored id.0)) none) in
      let other : initial_set l.kinds v.0 out.0 ≡ false = subst (λ (s : Value → Bool). s out.0 ≡ false) whole out.2 in
      both_ways (initial_set l.kinds v.0 out.0) other (initial_value l (table a.arena) v (get_or trail.domains v.0 Zero) out.0 inside)

  pub news : (s : Value → Bool) (u : Table) → NewArePartsOfValues l v s (table a.arena) u → NewAre (table a.arena) u (IsOfVariable l)
  news s u parts i fresh live = record { variable = v; known = ready.within; values = s; part = record { set = parts.0; words = parts.1; part = parts.2 i fresh live } }

  -- ---- the narrowing

  module _ (d r to : Ref) (at : slice_get trail.domains v.0 ≡ Some d) (side : set_of (sides_at stored id.0) v.0 ≡ Some r) (b : PoolState) (pinned : PinnedAreLive a) (stays : Stays a b)
      (is : IsSetOf l (table b.arena) v (without (values_in l (table a.arena) v d) (values_in l (table a.arena) v r)) to) where
    keeps : Keeps a b
    keeps rs h = means_grown a (table b.arena) rs pinned stays.grows h

    pub outside_values : values_in l (table b.arena) v to ≡ without (family l (table b.arena) trail.domains v.0) (box_of l (table b.arena) (sides_at stored id.0) v.0)
    outside_values =
        let fam : family l (table b.arena) trail.domains v.0 ≡ values_in l (table a.arena) v d =
        ap (λ (f : ℕ → Value → Bool). f v.0) (laws.family_stays l (table a.arena) (table b.arena) trail.domains (keeps trail.domains held_domains)) ∙ family_here l (table a.arena) trail.domains v d at in
        let box : box_of l (table b.arena) (sides_at stored id.0) v.0 ≡ values_in l (table a.arena) v r =
        ap (λ (f : ℕ → Value → Bool). f v.0) (laws.under_stays l (table a.arena) (table b.arena) stored id.0 (keeps (stored_sets stored) held_boxes))
        ∙ box_side l (table a.arena) (sides_at stored id.0) v r (side_found (sides_at stored id.0) v.0 r side) in
        is.values ∙ ap (λ (s : Value → Bool). without s (values_in l (table a.arena) v r)) (sym fam) ∙ ap (λ (s : Value → Bool). without (family l (table b.arena) trail.domains v.0) s) (sym box)

    pub outside_domain : IsDomain l (table b.arena) v to
    outside_domain =
        let out = ready.narrows.outside in
        let fam = family_here l (table a.arena) trail.domains v d at in
        let box = box_side l (table a.arena) (sides_at stored id.0) v r (side_found (sides_at stored id.0) v.0 r side) in
        let one : values_in l (table a.arena) v d out.0 ≡ true = subst (λ (s : Value → Bool). s out.0 ≡ true) fam out.1 in
        let two : values_in l (table a.arena) v r out.0 ≡ false = subst (λ (s : Value → Bool). s out.0 ≡ false) box out.2 in
        let some : HasValue (values_in l (table b.arena) v to) =
        (out.0, subst (λ (s : Value → Bool). s out.0 ≡ true) (sym is.values) (left_over (values_in l (table a.arena) v d out.0) (values_in l (table a.arena) v r out.0) one two)) in
        (laws.domain_is l (table b.arena) v to).1 (is.set, some)

    pub narrowed_outside : (z : PoolState) (new : TrailState) → z.arena ≡ b.arena → new ≡ narrowed trail v to (why.Box id) → IsNarrowedOutside l (table z.arena) stored id v trail new
    narrowed_outside z new same path = subst (λ (x : ArenaState). IsNarrowedOutside l (table x) stored id v trail new) (sym same) (record {
      to = to;
      is = path;
      domain = outside_domain;
      values = outside_values;
    })

-- ---- in a pool where what is pinned means the same

module _ (laws : LowerLaws) (l : LayoutState) (a b : PoolState) (stored : List StoredBox) (trail : TrailState) (id : BoxId) (v : VarId) (ready : IsReadyToNarrow l a stored trail id v) (keeps : Keeps a b)
    (still : (rs : List Ref) → AreHeld a rs → AreHeld b rs) where
  pub ready_still : (now : TrailState) → now ≡ trail → IsReadyToNarrow l b stored now id v
  ready_still now same =
      let t = table a.arena in
      let u = table b.arena in
      let of_trail : MeansTheSame t u (held trail) = keeps (held trail) (only_first a (held trail) (stored_sets stored) ready.pinned) in
      let of_boxes : MeansTheSame t u (stored_sets stored) = keeps (stored_sets stored) (only_last a (held trail) (stored_sets stored) ready.pinned) in
      let of_domains : MeansTheSame t u trail.domains = keeps trail.domains (only_first a trail.domains (befores trail.entries) (only_first a (held trail) (stored_sets stored) ready.pinned)) in
      subst (λ (s : TrailState). IsReadyToNarrow l b stored s id v) (sym same) (record {
        readable = laws.readable_stays l t u stored trail of_trail of_boxes ready.readable;
        known = ready.known;
        within = ready.within;
        narrows = subst (λ (f : ℕ → Value → Bool). IsBoxNarrowed (box_of l u (sides_at stored id.0)) f v.0 (without (f v.0) (box_of l u (sides_at stored id.0) v.0))) (sym (laws.family_stays l t u trail.domains of_domains))
            (subst (λ (b : ℕ → Value → Bool). IsBoxNarrowed b (family l t trail.domains) v.0 (without (family l t trail.domains v.0) (b v.0))) (sym (laws.under_stays l t u stored id.0 of_boxes)) ready.narrows);
        pinned = still (held_by_search trail stored) ready.pinned;
      })
