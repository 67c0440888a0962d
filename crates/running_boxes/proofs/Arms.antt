-- The two kinds of reasons: the sides of the resolvent, and which nodes are made.
use Rattle.std.proofs.Common.{◌≡◌, ℕ, zero, suc, ◌<◌, ◌==◌, Bool, true, cond, List, [], ◌∷◌, length, get_or, None, Some, refl, sym, ap, ◌∙◌, subst, inl, inr, Contains}
use Rattle.std.specs.Prelude.{slice_get, slice_index_or, IsSomeAnd}
use Rattle.std.specs.List.{All, AllZip}
use Rattle.std.proofs.lemmas.List.Elements.{All-contains, Contains-get_or}
use Rattle.std.proofs.lemmas.Option.{slice_get-get_or, slice_get_within}
use Rattle.set_meaning.specs.declared.kinds.Value.{Value}
use Rattle.set_meaning.specs.declared.problems.VarId.{VarId}
use Rattle.set_meaning.specs.declared.problems.ConId.{ConId}
use Rattle.set_meaning.specs.declared.problems.BoxId.{BoxId}
use Rattle.set_meaning.specs.declared.problems.Constraint.{Constraint}
use Rattle.set_meaning.specs.declared.problems.Problem.{Problem}
use Rattle.set_meaning.specs.Relations.{Holds, IsScope}
use Rattle.bit_layout.specs.Order.{LayoutState}
use Rattle.diagram_arena.specs.declared.nodes.Ref.{Ref}
use Rattle.diagram_arena.specs.declared.nodes.Ref.TheVariants.{Zero}
use Rattle.diagram_arena.specs.Table.{Table}
use Rattle.diagram_arena.specs.Arena.{table, Grows}
use Rattle.node_reclaim.specs.Pool.{PoolState, IsPinned}
use Rattle.node_reclaim.specs.Growth.{Stays, NewAre}
use Rattle.diagram_ops.proofs.Steps.{news_then}
use Rattle.search_rules.specs.Box.{resolvent}
use Rattle.search_rules.specs.Family.{without, HasValue}
use Rattle.search_rules.specs.Trail as rules
use Rattle.search_rules.specs.Walk.{reason_box, narrowing_box}
use Rattle.exact_steps.specs.Domains.{values_in, AreDomains, family}
use Rattle.exact_steps.specs.Rules.{IsConstraintOf}
use Rattle.problem_rules.specs.Posed.{problem_of}
use Rattle.value_sets.specs.Sets.{IsValueSet, IsSetOf, NewArePartsOfValues}
use Rattle.propagators.specs.Compiled.{CompiledState, IsCompiled, AreInitialDomains}
use Rattle.domain_trail.specs.declared.entries.Entry.{Entry}
use Rattle.domain_trail.specs.declared.entries.Reason.{Reason}
use Rattle.domain_trail.specs.declared.entries.Reason.TheVariants as why
use Rattle.domain_trail.specs.Trail.{TrailState}
use Rattle.box_clauses.specs.declared.sides.Side.{Side}
use Rattle.box_clauses.specs.declared.store.StoredBox.{StoredBox}
use Rattle.box_clauses.specs.Boxes.{box_of, IsSide, AreSides}
use Rattle.search_state.specs.Readings.{sides_at, reason_of, entry_of}
use Rattle.running_boxes.specs.Running.{AreRunning, IsNewest, resolvent_of}
use Rattle.running_boxes.specs.Nodes.{IsMade, IsMadeOf, IsPartOfValues}
use Rattle.running_boxes.specs.Nodes.IsMade.{pinned, difference}
use Rattle.running_boxes.specs.Work.{removed_sides, NoneIsOf, AreSidesOf, AreChanges, AreResolved, IsOfResolved, IsReady}
use Rattle.running_boxes.specs.Laws.{LowerLaws}
use Rattle.running_boxes.proofs.Lists.{all_from}
use Rattle.running_boxes.proofs.Places.{family_here, only_sides}
use Rattle.running_boxes.proofs.Sides.{sides_of_box, sides_of_reason, narrowed_listed, removed_cases}
use Rattle.running_boxes.proofs.Resolvents.{resolved_changes}
use Rattle.running_boxes.proofs.Moving.{listed_at, running_grows, running_family_grows}
use Rattle.running_boxes.proofs.Newest.{newest_entry, scoped_by, known_constraint, known_box, stored_sides, narrowed_side, running_pinned, domain_pinned, before_pinned, side_pinned, sides_read}
use Rattle.running_boxes.proofs.Made.{made_of, made_removed, new_also, parts_of_values}

-- ---- constraints of a compiled problem

-- the items at one place of two lists
zip_at : {A B : Type 0} (R : A → B → Type 0) (xs : List A) (ys : List B) (n : ℕ) (y : B) → AllZip R xs ys → slice_get ys n ≡ Some y → (x : A) × (slice_get xs n ≡ Some x) × R x y
zip_at R [] [] n y h e = absurd (let clash : None ≡ Some y = e in cc)
zip_at R [] (z ∷ ys) n y h e = absurd h
zip_at R (x ∷ xs) [] n y h e = absurd h
zip_at R (x ∷ xs) (z ∷ ys) zero y h e = (x, refl, subst (R x) (let same : Some z ≡ Some y = e in cc) h.0)
zip_at R (x ∷ xs) (z ∷ ys) (suc n) y h e = zip_at R xs ys n y h.1 e

pub zip_long : {A B : Type 0} (R : A → B → Type 0) (xs : List A) (ys : List B) → AllZip R xs ys → length ys ≡ length xs
zip_long R [] [] h = refl
zip_long R [] (y ∷ ys) h = absurd h
zip_long R (x ∷ xs) [] h = absurd h
zip_long R (x ∷ xs) (y ∷ ys) h = ap suc (zip_long R xs ys h.1)

module _ (laws : LowerLaws) (p : Problem) (l : LayoutState) (t : Table) (k : CompiledState) (c : ConId) (scope : List VarId) (is : IsCompiled l p t k) (at : slice_get k.scopes c.0 ≡ Some scope) where
  pub constraint_at : (con : Constraint) × IsConstraintOf (problem_of p) c.0 l scope (Holds con)
  constraint_at = let r = zip_at IsScope p.constraints k.scopes c.0 scope is.scopes at in (r.0, laws.posed p l c.0 r.0 scope is.legal is.kinds r.1 r.2)

pub domains_run : (l : LayoutState) (t : Table) (domains : List Ref) → AreDomains l t domains → AreRunning l t domains
domains_run l t domains are = record { long = are.long; each = λ v r e. (are.each v r e).diagram }

-- the sides that were made are those of this definition
pub sides_told : (made lent : List Side) (ds domains : List Ref) (v : VarId) (r : Ref) (scope : List VarId) → lent ≡ made → made ≡ removed_sides ds v r scope → ds ≡ domains → lent ≡ removed_sides domains v r scope
sides_told made lent ds domains v r scope read is same = read ∙ is ∙ ap (λ (xs : List Ref). removed_sides xs v r scope) same

-- ---- told from the table before

pub changes_from : (l : LayoutState) (t m u : Table) (running : List Ref) (g h : ℕ → Value → Bool) (sides : List Side) → family l m running ≡ family l t running → g ≡ h → AreChanges l m u running g sides
    → AreChanges l t u running h sides
changes_from l t m u running g h sides same target are = subst (λ h. AreChanges l t u running h sides) target (record { each = are.each; others = λ v none. sym (ap (λ (f : ℕ → Value → Bool). f v) same) ∙ are.others v none })

module _ (laws : LowerLaws) (p : Problem) (l : LayoutState) (s : PoolState) (k : CompiledState) (trail : TrailState) (stored : List StoredBox) (running : List Ref) (e : Entry) (ready : IsReady p l s k trail stored running)
    (newest : IsNewest trail e) where
  abbrev t : Table
  t = table s.arena

  own_made : (v : VarId) → v.0 < length l.kinds → IsMade l s v 1 (family l t running v.0)
  own_made v within =
      let at : slice_get running v.0 ≡ Some (get_or running v.0 Zero) = slice_get-get_or running v.0 Zero (subst (λ n. v.0 < n) (sym ready.sets.long) within) in
      let listed : Contains running (get_or running v.0 Zero) = Contains-get_or running v.0 Zero (slice_get_within running v.0 (get_or running v.0 Zero) at) in
      subst (IsMade l s v 1) (sym (family_here l t running v (get_or running v.0 Zero) at))
      (pinned (running_pinned p l s k trail stored running ready (get_or running v.0 Zero) listed) (ready.sets.each v (get_or running v.0 Zero) at))

  pub entry_within : e.var.0 < length trail.domains
  entry_within = subst (λ n. e.var.0 < n) (sym ready.legal.readable.domains.long) (newest_entry p l t stored trail e ready.legal newest).known

  pub within_entry : e.var.0 < length l.kinds
  within_entry = (newest_entry p l t stored trail e ready.legal newest).known

  pub entry_is_set : IsValueSet l t e.var e.before
  entry_is_set = (newest_entry p l t stored trail e ready.legal newest).before.diagram

  pub start_grown : (u : Table) → Grows t u → AreInitialDomains l u k.start
  start_grown u grows = record {
    long = ready.compiled.start.long;
    each = λ v r at.
        let is = ready.compiled.start.each v r at in
        let more = laws.grown l t u v r grows is.domain.diagram in
        record {
          domain = record { diagram = more.0; some = subst HasValue (sym more.1) is.domain.some };
          all = λ x h. subst (λ (f : Value → Bool). f x ≡ true) (sym more.1) (is.all x h);
        };
  }

  pub sets_grown : (u : Table) → Grows t u → AreRunning l u running
  sets_grown u grows = running_grows laws l t u running grows ready.sets

  module _ (domain : Ref) (domain_at : slice_get trail.domains e.var.0 ≡ Some domain) where
    pub domain_is_set : IsValueSet l t e.var domain
    domain_is_set = (ready.legal.readable.domains.each e.var domain domain_at).diagram

    pub domain_is_pinned : IsPinned s domain
    domain_is_pinned = domain_pinned p l s k trail stored running ready domain (listed_at trail.domains e.var.0 domain domain_at)

    pub early_removed : (n : Table) → NewArePartsOfValues l e.var (without (values_in l t e.var e.before) (values_in l t e.var domain)) t n → NewAre t n (IsMadeOf l s)
    early_removed n first =
        new_also t n (IsPartOfValues l e.var (without (values_in l t e.var e.before) (values_in l t e.var domain))) (IsMadeOf l s)
        (λ W part. made_removed l s e.var e.before domain W within_entry (before_pinned p l s k trail stored running ready e newest) domain_is_pinned entry_is_set domain_is_set part)
        (parts_of_values l e.var (without (values_in l t e.var e.before) (values_in l t e.var domain)) t n first)

  -- ---- made by a box

  module _ (b : BoxId) (by : e.reason ≡ why.Box b) (sides : List Side) (read : IsSomeAnd (slice_get stored b.0) (λ (x : StoredBox). x.sides ≡ sides)) where
    sides_are : sides_at stored b.0 ≡ sides
    sides_are = sides_read stored b.0 sides read

    pub box_sides : AreSides l t sides
    box_sides = subst (AreSides l t) sides_are (stored_sides p l t stored trail e ready.legal newest b by)

    box_target : resolvent (family l t running) (box_of l t sides) e.var.0 ≡ resolvent_of p l t stored trail e running
    box_target =
        ap (λ (xs : List Side). resolvent (family l t running) (box_of l t xs) e.var.0) (sym sides_are)
        ∙ ap (λ (r : Reason). resolvent (family l t running) (reason_box (problem_of p) (reason_of l t stored r) (rules.undo (family l t trail.domains) (entry_of l t stored e)) e.var.0 (family l t trail.domains e.var.0)) e.var.0) (sym by)

    pub box_changes : (u : Table) (resolved : List Side) → AreResolved l t u running e.var sides resolved → AreChanges l t u running (resolvent_of p l t stored trail e running) resolved
    box_changes u resolved are =
        changes_from l t t u running (resolvent (family l t running) (box_of l t sides) e.var.0) (resolvent_of p l t stored trail e running) resolved refl box_target
        (resolved_changes l t u running e.var sides resolved are (box_of l t sides) (sides_of_box l t sides box_sides)
        (λ none. narrowed_side p l t stored trail e ready.legal newest b by (subst (NoneIsOf e.var.0) (sym sides_are) none)) ready.sets.long)

    pub box_made : (u : Table) → NewAre t u (IsOfResolved l t running e.var sides) → NewAre t u (IsMadeOf l s)
    box_made u made = new_also t u (IsOfResolved l t running e.var sides) (IsMadeOf l s) (λ W is. made_of l s t running e.var sides W side_made is) made
      where
        side_made : (side : Side) → Contains sides side → (side.var.0 < length l.kinds) × IsMade l s side.var 1 (family l t running side.var.0) × IsMade l s side.var 1 (values_in l t side.var side.set)
        side_made side h =
            let of = All-contains (IsSide l t) sides side box_sides.each h in
            let within = known_box p l t stored trail e ready.legal newest b by in
            (of.known, own_made side.var of.known, pinned (side_pinned p l s k trail stored running ready b.0 side within (subst (λ xs. Contains xs side) (sym sides_are) h)) of.set)

  -- ---- made by a constraint

  pub scope_long : (c : ConId) → e.reason ≡ why.Constraint c → c.0 < length k.scopes
  scope_long c by = subst (λ n. c.0 < n) (sym (zip_long IsScope p.constraints k.scopes ready.compiled.scopes)) (known_constraint p l t stored trail e ready.legal newest c by)

  module _ (c : ConId) (by : e.reason ≡ why.Constraint c) (scope : List VarId) (at : slice_get k.scopes c.0 ≡ Some scope) (domain : Ref) (domain_at : slice_get trail.domains e.var.0 ≡ Some domain) where
    domains : AreRunning l t trail.domains
    domains = domains_run l t trail.domains ready.legal.readable.domains

    con : (con : Constraint) × IsConstraintOf (problem_of p) c.0 l scope (Holds con)
    con = constraint_at laws p l t k c scope ready.compiled at

    pub scope_within : All (λ (v : VarId). v.0 < length trail.domains) scope
    scope_within = all_from (λ (v : VarId). v.0 < length trail.domains) scope (λ v h.
        subst (λ n. v.0 < n) (sym (domains.long ∙ ap length ready.compiled.kinds)) ((problem_of p).scoped c.0 v.0 ((con.1.scoped v.0).1 h)))

    module _ (m : PoolState) (stays : Stays s m) (removed : Ref) (made : IsSetOf l (table m.arena) e.var (without (values_in l t e.var e.before) (values_in l t e.var domain)) removed) where
      abbrev n : Table
      n = table m.arena

      abbrev sides : List Side
      sides = removed_sides trail.domains e.var removed scope

      domains_grown : AreRunning l n trail.domains
      domains_grown = running_grows laws l t n trail.domains stays.grows domains

      same_domains : family l n trail.domains ≡ family l t trail.domains
      same_domains = running_family_grows laws l t n trail.domains stays.grows domains

      same_running : family l n running ≡ family l t running
      same_running = running_family_grows laws l t n running stays.grows ready.sets

      removed_is : IsSetOf l n e.var (without (values_in l t e.var e.before) (family l n trail.domains e.var.0)) removed
      removed_is = subst (λ (f : Value → Bool). IsSetOf l n e.var (without (values_in l t e.var e.before) f) removed)
          (sym (ap (λ (f : ℕ → Value → Bool). f e.var.0) same_domains ∙ family_here l t trail.domains e.var domain domain_at)) made

      scoped : (problem_of p).scope c.0 e.var.0 ≡ true
      scoped = scoped_by p l t stored trail e ready.legal newest c by

      abbrev reason : ℕ → Value → Bool
      reason = narrowing_box (problem_of p) c.0 (λ u. cond (u == e.var.0) (values_in l t e.var e.before) (family l n trail.domains u)) e.var.0 (family l n trail.domains e.var.0)

      reason_sides : AreSidesOf l n reason sides
      reason_sides = sides_of_reason p l n c.0 con.0 scope trail.domains ready.compiled.kinds con.1 domains_grown e.var (values_in l t e.var e.before) removed within_entry removed_is scoped

      pub constraint_sides : All (IsSide l n) sides
      constraint_sides = only_sides l n reason sides reason_sides.each

      target : resolvent (family l n running) reason e.var.0 ≡ resolvent_of p l t stored trail e running
      target =
          ap (λ (f : ℕ → Value → Bool). resolvent f reason e.var.0) same_running
          ∙ ap (λ (f : ℕ → Value → Bool). resolvent (family l t running) (narrowing_box (problem_of p) c.0 (λ u. cond (u == e.var.0) (values_in l t e.var e.before) (f u)) e.var.0 (f e.var.0)) e.var.0) same_domains
          ∙ ap (λ (r : Reason). resolvent (family l t running) (reason_box (problem_of p) (reason_of l t stored r) (rules.undo (family l t trail.domains) (entry_of l t stored e)) e.var.0 (family l t trail.domains e.var.0)) e.var.0) (sym by)

      pub constraint_changes : (u : Table) (resolved : List Side) → AreResolved l n u running e.var sides resolved → AreChanges l t u running (resolvent_of p l t stored trail e running) resolved
      constraint_changes u resolved are =
          changes_from l t n u running (resolvent (family l n running) reason e.var.0) (resolvent_of p l t stored trail e running) resolved same_running target
          (resolved_changes l n u running e.var sides resolved are reason reason_sides
          (narrowed_listed p l n c.0 con.0 scope trail.domains ready.compiled.kinds con.1 domains_grown e.var (values_in l t e.var e.before) removed within_entry removed_is scoped) ready.sets.long)

      -- ---- which nodes are made

      domain_listed : (v : VarId) → v.0 < length l.kinds → Contains trail.domains (slice_index_or trail.domains v.0 Zero)
      domain_listed v known = Contains-get_or trail.domains v.0 Zero (subst (λ k. v.0 < k) (sym domains.long) known)

      domain_set : (v : VarId) → v.0 < length l.kinds → IsValueSet l t v (slice_index_or trail.domains v.0 Zero)
      domain_set v known = domains.each v (slice_index_or trail.domains v.0 Zero) (slice_get-get_or trail.domains v.0 Zero (subst (λ k. v.0 < k) (sym domains.long) known))

      domain_pin : (v : VarId) → v.0 < length l.kinds → IsPinned s (slice_index_or trail.domains v.0 Zero)
      domain_pin v known = domain_pinned p l s k trail stored running ready (slice_index_or trail.domains v.0 Zero) (domain_listed v known)

      set_made : (v : VarId) → v.0 < length l.kinds → IsMade l s v 1 (values_in l n v (slice_index_or trail.domains v.0 Zero))
      set_made v known =
          subst (IsMade l s v 1) (sym (laws.grown l t n v (slice_index_or trail.domains v.0 Zero) stays.grows (domain_set v known)).1) (pinned (domain_pin v known) (domain_set v known))

      removed_made : IsMade l s e.var 1 (values_in l n e.var removed)
      removed_made =
          let first : IsMade l s e.var 0 (values_in l t e.var e.before) = pinned (before_pinned p l s k trail stored running ready e newest) entry_is_set in
          let second : IsMade l s e.var 0 (values_in l t e.var domain) = pinned (domain_is_pinned domain domain_at) (domain_is_set domain domain_at) in
          subst (IsMade l s e.var 1) (sym made.values) (difference first second)

      side_made : (side : Side) → Contains sides side → (side.var.0 < length l.kinds) × IsMade l s side.var 1 (family l n running side.var.0) × IsMade l s side.var 1 (values_in l n side.var side.set)
      side_made side h =
          let of = All-contains (IsSide l n) sides side constraint_sides h in (
            of.known,
            subst (λ (f : ℕ → Value → Bool). IsMade l s side.var 1 (f side.var.0)) (sym same_running) (own_made side.var of.known),
            elim (removed_cases trail.domains e.var removed scope side h) [
              | inl is ↦ subst (λ (z : Side). IsMade l s z.var 1 (values_in l n z.var z.set)) (sym is) removed_made
              | inr is ↦ subst (λ r. IsMade l s side.var 1 (values_in l n side.var r)) (sym is) (set_made side.var of.known)
            ],
          )

      pub constraint_made : (u : PoolState) → Stays m u → NewArePartsOfValues l e.var (without (values_in l t e.var e.before) (values_in l t e.var domain)) t n
          → NewAre n (table u.arena) (IsOfResolved l n running e.var sides) → NewAre t (table u.arena) (IsMadeOf l s)
      constraint_made u more first second =
          news_then t n (table u.arena) (IsMadeOf l s) more.grows (early_removed domain domain_at n first)
          (new_also n (table u.arena) (IsOfResolved l n running e.var sides) (IsMadeOf l s) (λ W is. made_of l s n running e.var sides W side_made is) second)
