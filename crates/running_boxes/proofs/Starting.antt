-- The running box at the beginning: initial domains, and the sides of the conflict's box in their places.
use Rattle.std.proofs.Common.{◌≡◌, ℕ, ◌<◌, Bool, List, [], length, Some, sym, ap, ◌∙◌, subst, arith}
use Rattle.std.specs.Prelude.{slice_get, IsSomeAnd}
use Rattle.std.specs.List.{All}
use Rattle.std.proofs.lemmas.List.Elements.{All-weaker}
use Rattle.std.proofs.lemmas.Option.{slice_get-get_or}
use Rattle.set_meaning.specs.declared.kinds.Value.{Value}
use Rattle.set_meaning.specs.declared.problems.VarId.{VarId}
use Rattle.set_meaning.specs.declared.problems.ConId.{ConId}
use Rattle.set_meaning.specs.declared.problems.BoxId.{BoxId}
use Rattle.set_meaning.specs.declared.problems.Problem.{Problem}
use Rattle.set_meaning.specs.Relations.{IsScope}
use Rattle.bit_layout.specs.Order.{LayoutState}
use Rattle.diagram_arena.specs.declared.nodes.Ref.{Ref}
use Rattle.diagram_arena.specs.Table.{Table, IsLive}
use Rattle.node_reclaim.specs.Pool.{PoolState}
use Rattle.node_reclaim.specs.Holders.{AreHeld}
use Rattle.pin_lists.specs.Units.{Moves}
use Rattle.exact_steps.specs.Domains.{variable, family}
use Rattle.problem_rules.specs.Parts.{initial_set}
use Rattle.problem_rules.specs.Posed.{problem_of}
use Rattle.propagators.specs.Compiled.{CompiledState, IsCompiled}
use Rattle.domain_trail.specs.Trail.{TrailState}
use Rattle.box_clauses.specs.declared.sides.Side.{Side}
use Rattle.box_clauses.specs.declared.store.StoredBox.{StoredBox}
use Rattle.box_clauses.specs.Boxes.{IsSide, AreSides}
use Rattle.search_state.specs.Readings.{sides_at, AreReadable}
use Rattle.running_boxes.specs.declared.beginning.Conflict.TheVariants as conflict
use Rattle.running_boxes.specs.Running.{AreRunning, IsRunning, box_of_conflict}
use Rattle.running_boxes.specs.Work.{put_sides, domain_sides, AreSidesOf}
use Rattle.running_boxes.specs.Laws.{LowerLaws}
use Rattle.running_boxes.proofs.Lists.{all_from}
use Rattle.running_boxes.proofs.Places.{put_is, sides_put, only_sides}
use Rattle.running_boxes.proofs.Sides.{sides_of_box, sides_of_conflict}
use Rattle.running_boxes.proofs.Newest.{sides_in_store, sides_read}
use Rattle.running_boxes.proofs.Arms.{constraint_at, domains_run, zip_long}

-- ---- sets that are there

running_live : (l : LayoutState) (t : Table) (running : List Ref) → AreRunning l t running → All (IsLive t) running
running_live l t running are = all_from (IsLive t) running (λ r h. (are.each (variable h.0) r (slice_get-get_or running h.0 r h.1 ∙ ap Some h.2)).live)

pub held_first : (a b : PoolState) (first all : List Ref) → first ≡ [] → Moves a b first all → AreHeld b all
held_first a b first all none moved i = let m = subst (λ rs. Moves a b rs all) none moved i in omega (arith, m)

module _ (laws : LowerLaws) (p : Problem) (l : LayoutState) (t : Table) (k : CompiledState) (trail : TrailState) (stored : List StoredBox) (is : IsCompiled l p t k) (readable : AreReadable l t stored trail) where
  start_run : AreRunning l t k.start
  start_run = record { long = is.start.long; each = λ v r e. (is.start.each v r e).domain.diagram }

  pub start_live : All (IsLive t) k.start
  start_live = running_live l t k.start start_run

  pub domains_live : All (IsLive t) trail.domains
  domains_live = running_live l t trail.domains (domains_run l t trail.domains readable.domains)

  pub domains_long : length trail.domains ≡ length k.start
  domains_long = readable.domains.long ∙ sym is.start.long

  start_family : family l t k.start ≡ initial_set l.kinds
  start_family = laws.initial p l t k.start is.kinds is.start.long (λ v r e x h. (is.start.each v r e).all x h) ∙ ap initial_set (sym is.kinds)

  begun_from : (b : ℕ → Value → Bool) (sides : List Side) → AreSidesOf l t b sides → IsRunning l t b (put_sides sides k.start)
  begun_from b sides of = record {
    sets = sides_put l t sides k.start start_run (only_sides l t b sides of.each);
    values = put_is l t b sides k.start is.start.long of.each (λ w none. ap (λ (f : ℕ → Value → Bool). f w) start_family ∙ sym (of.others w none));
  }

  -- ---- a constraint

  pub scope_there : (c : ConId) → c.0 < length p.constraints → c.0 < length k.scopes
  scope_there c known = subst (λ n. c.0 < n) (sym (zip_long IsScope p.constraints k.scopes is.scopes)) known

  module _ (c : ConId) (scope : List VarId) (at : slice_get k.scopes c.0 ≡ Some scope) where
    pub begun_by_constraint : IsRunning l t (box_of_conflict p l t stored trail.domains (conflict.Constraint c)) (put_sides (domain_sides trail.domains scope) k.start)
    begun_by_constraint =
        let con = constraint_at laws p l t k c scope is at in
        begun_from (box_of_conflict p l t stored trail.domains (conflict.Constraint c)) (domain_sides trail.domains scope)
        (sides_of_conflict p l t c.0 con.0 scope trail.domains is.kinds con.1 (domains_run l t trail.domains readable.domains))

    pub scope_known : All (λ (v : VarId). v.0 < length k.start) scope
    scope_known = all_from (λ (v : VarId). v.0 < length k.start) scope (λ v h.
        let con = constraint_at laws p l t k c scope is at in
        subst (λ n. v.0 < n) (sym (is.start.long ∙ ap length is.kinds)) ((problem_of p).scoped c.0 v.0 ((con.1.scoped v.0).1 h)))

  -- ---- a box in store

  module _ (b : BoxId) (known : b.0 < length stored) (sides : List Side) (read : IsSomeAnd (slice_get stored b.0) (λ (x : StoredBox). x.sides ≡ sides)) where
    box_sides_are : AreSides l t sides
    box_sides_are = subst (AreSides l t) (sides_read stored b.0 sides read) (sides_in_store l t stored b.0 readable.boxes known)

    pub begun_by_box : IsRunning l t (box_of_conflict p l t stored trail.domains (conflict.Box b)) (put_sides sides k.start)
    begun_by_box =
        subst (λ xs. IsRunning l t (box_of_conflict p l t stored trail.domains (conflict.Box b)) (put_sides xs k.start)) (sides_read stored b.0 sides read)
        (begun_from (box_of_conflict p l t stored trail.domains (conflict.Box b)) (sides_at stored b.0) (sides_of_box l t (sides_at stored b.0) (sides_in_store l t stored b.0 readable.boxes known)))

    pub box_known : All (λ (s : Side). s.var.0 < length k.start) sides
    box_known = All-weaker (IsSide l t) (λ (s : Side). s.var.0 < length k.start) (λ s of. subst (λ n. s.var.0 < n) (sym is.start.long) of.known) sides box_sides_are.each

    pub box_live : All (λ (s : Side). IsLive t s.set) sides
    box_live = All-weaker (IsSide l t) (λ (s : Side). IsLive t s.set) (λ s of. of.set.live) sides box_sides_are.each
