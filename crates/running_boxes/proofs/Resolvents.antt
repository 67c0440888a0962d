-- The resolvent side by side, and as a family.
use Rattle.std.proofs.Common.{◌≡◌, ℕ, ◌<◌, ◌≤◌, ◌==◌, Bool, true, false, cond, ◌&&◌, ◌||◌, List, length, get_or, Option, Some, None, refl, sym, ap, ◌∙◌, subst, inl, inr}
use Rattle.std.specs.Prelude.{slice_get}
use Rattle.std.specs.List.{list_any}
use Rattle.std.specs.Option.{option_map_or}
use Rattle.std.proofs.Math.Path.{fun_ext}
use Rattle.std.proofs.lemmas.Bool.{ne_eqb}
use Rattle.std.proofs.lemmas.Option.{slice_get-get_or, slice_get_cases, slice_get_past}
use Rattle.set_meaning.specs.declared.kinds.Kind.{Kind}
use Rattle.set_meaning.specs.declared.kinds.Value.{Value}
use Rattle.set_meaning.specs.declared.problems.VarId.{VarId}
use Rattle.set_meaning.specs.Kinds.{initial_values}
use Rattle.bit_layout.specs.Order.{LayoutState}
use Rattle.diagram_arena.specs.declared.nodes.Ref.{Ref}
use Rattle.diagram_arena.specs.declared.nodes.Ref.TheVariants.{Zero}
use Rattle.diagram_arena.specs.Table.{Table, has}
use Rattle.search_rules.specs.Box.{resolvent}
use Rattle.exact_steps.specs.Domains.{variable, same_value, is_initial, word_of_value, values_in, family}
use Rattle.problem_rules.specs.Parts.{initial_set}
use Rattle.value_sets.specs.Sets.{both, either}
use Rattle.propagators.specs.Compiled.{IsInitialDomain}
use Rattle.box_clauses.specs.declared.sides.Side.{Side}
use Rattle.running_boxes.specs.Work.{IsSideOf, NoneIsOf, AreSidesOf, AreChanges, IsResolvedSide, AreResolved}
use Rattle.running_boxes.proofs.Lists.{none_of_same}

-- ---- truth values

and_again : (i h : Bool) → ((i && h) && i) ≡ (i && h)
and_again true true = refl
and_again true false = refl
and_again false h = refl

and_whole : (i h j : Bool) → ((i && h) && (i && j)) ≡ ((i && h) && j)
and_whole true h j = refl
and_whole false h j = refl

whole_test : (i h : Bool) → (i ≡ true → (i && h) ≡ true) → (i && h) ≡ i
whole_test true h all = all refl
whole_test false h all = refl

-- ---- initial values

-- a set of values lies within the initial values
within_whole : (l : LayoutState) (t : Table) (v : VarId) (r : Ref) → both (values_in l t v r) (is_initial l v) ≡ values_in l t v r
within_whole l t v r = fun_ext (λ x. and_again (is_initial l v x) (has t r (word_of_value l v x)))

pub whole_is : (l : LayoutState) (t : Table) (v : VarId) (r : Ref) → IsInitialDomain l t v r → values_in l t v r ≡ is_initial l v
whole_is l t v r is = fun_ext (λ x. whole_test (is_initial l v x) (has t r (word_of_value l v x)) (is.all x))

-- the intersection with all initial values
pub meets_whole : (l : LayoutState) (t : Table) (v : VarId) (own set whole : Ref) → IsInitialDomain l t v whole → set ≡ whole → both (values_in l t v own) (values_in l t v set) ≡ values_in l t v own
meets_whole l t v own set whole is same =
    ap (λ (r : Ref). both (values_in l t v own) (values_in l t v r)) same ∙ ap (both (values_in l t v own)) (whole_is l t v whole is) ∙ within_whole l t v own

both_turned : (f g : Value → Bool) → both f g ≡ both g f
both_turned f g = fun_ext (λ x. turned (f x) (g x))
  where
    turned : (a b : Bool) → (a && b) ≡ (b && a)
    turned true true = refl
    turned true false = refl
    turned false true = refl
    turned false false = refl

pub whole_meets : (l : LayoutState) (t : Table) (v : VarId) (own set whole : Ref) → IsInitialDomain l t v whole → own ≡ whole → both (values_in l t v own) (values_in l t v set) ≡ values_in l t v set
whole_meets l t v own set whole is same = both_turned (values_in l t v own) (values_in l t v set) ∙ meets_whole l t v set own whole is same

-- the running box lies within the initial family
module _ (l : LayoutState) (t : Table) (running : List Ref) (long : length running ≡ length l.kinds) (w : ℕ) (x : Value) where
  abbrev value_of : Option Ref → Option Kind → Bool
  value_of o q = option_map_or (λ (r : Ref). option_map_or (λ (k : Kind). list_any (same_value x) (initial_values k)) q false && has t r (word_of_value l (variable w) x)) o true

  abbrev initial_of : Option Kind → Bool
  initial_of q = option_map_or (λ (k : Kind). list_any (same_value x) (initial_values k)) q true

  abbrev Within : Option Ref → Option Kind → Type 0
  Within o q = (value_of o q && initial_of q) ≡ value_of o q

  at_kind : (k : Kind) (r : Ref) → slice_get l.kinds w ≡ Some k → slice_get running w ≡ Some r → Within (slice_get running w) (slice_get l.kinds w)
  at_kind k r kind there =
      subst (λ o. Within o (slice_get l.kinds w)) (sym there) (subst (λ q. Within (Some r) q) (sym kind) (and_again (list_any (same_value x) (initial_values k)) (has t r (word_of_value l (variable w) x))))

  past_last : slice_get l.kinds w ≡ None → slice_get running w ≡ None → Within (slice_get running w) (slice_get l.kinds w)
  past_last kind there = subst (λ o. Within o (slice_get l.kinds w)) (sym there) (subst (λ q. Within None q) (sym kind) refl)

  within_at : (family l t running w x && initial_set l.kinds w x) ≡ family l t running w x
  within_at = elim (slice_get_cases l.kinds w).1 [
    | inl is ↦ at_kind is.0 (get_or running w Zero) is.2 (slice_get-get_or running w Zero (subst (λ n. w < n) (sym long) is.1))
    | inr past ↦ past_last past.1 (slice_get_past running w (subst (λ n. n ≤ w) (sym long) past.0))
  ]

pub within_initial : (l : LayoutState) (t : Table) (running : List Ref) (w : ℕ) → length running ≡ length l.kinds → both (family l t running w) (initial_set l.kinds w) ≡ family l t running w
within_initial l t running w long = fun_ext (λ x. within_at l t running long w x)

-- ---- one side

by_case : (b : Bool) (f g : Value → Bool) → cond b (either f g) (both f g) ≡ (λ x. cond b (f x || g x) (f x && g x))
by_case true f g = refl
by_case false f g = refl

module _ (l : LayoutState) (t u : Table) (running : List Ref) (v : VarId) where
  pub side_resolved : (b : ℕ → Value → Bool) (s r : Side) → IsSideOf l t b s → IsResolvedSide l t u running v s r → IsSideOf l u (resolvent (family l t running) b v.0) r
  side_resolved b s r is made = record {
    side = made.side;
    values =
        let f : ℕ → Value → Bool = family l t running in
        made.values ∙ ap (λ (g : Value → Bool). cond (s.var.0 == v.0) (either (f s.var.0) g) (both (f s.var.0) g)) is.values ∙ by_case (s.var.0 == v.0) (f s.var.0) (b s.var.0)
        ∙ sym (ap (λ (z : VarId). resolvent f b v.0 z.0) made.same);
  }

  -- ---- all sides

  module _ (sides resolved : List Side) (are : AreResolved l t u running v sides resolved) (b : ℕ → Value → Bool) (of : AreSidesOf l t b sides) (listed : NoneIsOf v.0 sides → ⊥) (long : length running ≡ length l.kinds) where
    beside : (w : ℕ) → NoneIsOf w resolved → family l t running w ≡ resolvent (family l t running) b v.0 w
    beside w none =
        let out : NoneIsOf w sides = none_of_same sides resolved w are.variables none in
        let off : (w == v.0) ≡ false = ne_eqb w v.0 (λ e. listed (subst (λ n. NoneIsOf n sides) e out)) in
        sym (ap (λ q. λ x. cond q (family l t running w x || b w x) (family l t running w x && b w x)) off
        ∙ ap (both (family l t running w)) (of.others w out) ∙ within_initial l t running w long)

    pub resolved_changes : AreChanges l t u running (resolvent (family l t running) b v.0) resolved
    resolved_changes = record { each = are.each b of.each; others = beside }
