-- Narrowings that are put onto the trail, one after another.
use Rattle.std.proofs.Common.{◌≡◌, ◌≢◌, ℕ, ◌+◌, ◌<◌, ◌≤◌, Bool, true, List, [], ◌∷◌, ◌++◌, length, get_or, drop, refl, sym, ap, ◌∙◌, subst, arith, Contains, append_assoc, append-nil}
use Rattle.std.specs.List.{All}
use Rattle.std.proofs.lemmas.List.{drop_more}
use Rattle.std.proofs.lemmas.List.Elements.{All-cons, Contains-append_left, Contains-append_right}
use Rattle.set_meaning.specs.declared.kinds.Value.{Value}
use Rattle.set_meaning.specs.declared.problems.VarId.{VarId}
use Rattle.set_meaning.specs.declared.problems.Problem.{Problem}
use Rattle.bit_layout.specs.Order.{LayoutState}
use Rattle.bit_layout.proofs.Rising.{in_head, in_tail}
use Rattle.diagram_arena.specs.declared.nodes.Ref.{Ref}
use Rattle.diagram_arena.specs.Table.{Table, IsLive}
use Rattle.node_reclaim.specs.Holders.{MeansTheSame}
use Rattle.search_rules.specs.Family.{Lies, AllLie, put}
use Rattle.search_rules.specs.Trail as rules
use Rattle.search_rules.specs.Measure.{measure, total, size_in}
use Rattle.search_rules.proofs.FamilyLemmas.{put-same, put-other, put_each}
use Rattle.search_rules.proofs.StateLemmas.{trail_narrowed}
use Rattle.search_rules.proofs.MeasureLemmas.{size_strict, sum_strict, total_mono}
use Rattle.exact_steps.specs.Domains.{variable, values_in, family}
use Rattle.exact_steps.specs.Steps.{narrowed_in}
use Rattle.problem_rules.specs.Posed.{problem_of}
use Rattle.domain_trail.specs.declared.entries.Reason.{Reason}
use Rattle.domain_trail.specs.declared.entries.Reason.TheVariants as why
use Rattle.domain_trail.specs.Trail.{TrailState, befores, held, narrowed}
use Rattle.domain_trail.specs.Trail as trail
use Rattle.box_clauses.specs.declared.store.StoredBox.{StoredBox}
use Rattle.box_clauses.specs.Stored.{stored_sets}
use Rattle.search_state.specs.Readings.{boxes_of, entries_of, reason_of, IsKnown, IsTrailOf, IsLegalState}
use Rattle.search_state.specs.Turns.{measure_of}
use Rattle.propagation.specs.Quiet.{HasNarrowed}
use Rattle.propagation.specs.Work.{CanPut, AreNarrowings, put_all, narrowed_by}
use Rattle.propagation.specs.Laws.{StayLaws, NarrowLaws}

-- ---- one narrowing

-- a fact of entries and a family holds of what reads as them
reads_as : (P : List (rules.Entry Value) → (ℕ → Value → Bool) → Type 0) (es now : List (rules.Entry Value)) (f g : ℕ → Value → Bool) → now ≡ es → g ≡ f → P es f → P now g
reads_as P es now f g same_es same_f h = subst (λ xs. P xs g) (sym same_es) (subst (λ (x : ℕ → Value → Bool). P es x) (sym same_f) h)

not_decided : (l : LayoutState) (t : Table) (stored : List StoredBox) (reason : Reason) → reason ≢ why.Decision → reason_of l t stored reason ≢ rules.Decision
not_decided l t stored why.Decision made same = made refl
not_decided l t stored (why.Constraint c) made same = cc
not_decided l t stored (why.Box b) made same = cc

pub put_lies : (f : ℕ → Value → Bool) (v : ℕ) (s : Value → Bool) → Lies s (f v) → AllLie (put f v s) f
put_lies f v s lies = λ u x has. put_each f v s (λ w z. Lies z (f w)) lies (λ w ne y here. here) u x has

module _ (p : Problem) (laws : NarrowLaws p) (l : LayoutState) (t : Table) (stored : List StoredBox) (reason : Reason) (kinds : l.kinds ≡ p.kinds) (known : IsKnown stored reason) (made : reason ≢ why.Decision) where
  pub within : (s : TrailState) (v : VarId) → IsTrailOf p l t stored s → v.0 < length l.kinds → v.0 < length s.domains
  within s v is inside = subst (λ n. v.0 < n) (sym is.readable.domains.long) inside

  pub one_narrowed : (s : TrailState) (v : VarId) (r : Ref) → IsTrailOf p l t stored s → CanPut p l t stored reason (family l t s.domains) v r
      → HasNarrowed p l t t stored s (narrowed s v r reason)
  one_narrowed s v r is can =
      let inside : v.0 < length s.domains = within s v is can.known in
      let entries = laws.entries l t stored s v r reason inside is.level in
      let same = laws.family l t s v r reason is.readable.domains inside in
      let state : (answers : List (ℕ → Value)) → IsLegalState p l t answers stored s
      → IsLegalState p l t answers stored (narrowed s v r reason) × (measure_of p l t stored (narrowed s v r reason) < measure_of p l t stored s)
      = λ answers h. laws.legal l t answers stored s v r reason kinds h (record { known = can.known; domain = can.domain; part = can.part }) known made can.made in
      record {
        trail = record {
          readable = laws.readable l t stored s v r reason is.readable can.known can.domain known;
          level = is.level ∙ sym (ap rules.top entries);
          trail = reads_as (rules.IsTrail (problem_of p) (boxes_of l t stored)) _ (entries_of l t stored (narrowed s v r reason).entries) _ (family l t (narrowed s v r reason).domains) entries same
              (trail_narrowed is.trail (subst (λ ks. v.0 < length ks) kinds can.known) can.part (not_decided l t stored reason made) can.made);
        };
        level = refl;
        older = (trail.entry_of s v reason ∷ [], refl);
        smaller = subst (λ g. AllLie g (family l t s.domains)) (sym same) (put_lies (family l t s.domains) v.0 (values_in l t v r) can.part.lies);
        legal = λ answers h. (state answers h).0;
        nearer = λ answers h. let less = (state answers h).1 in omega (arith, less);
      }

-- ---- one after another

pub narrowed_itself : (p : Problem) (l : LayoutState) (t : Table) (stored : List StoredBox) (s : TrailState) → IsTrailOf p l t stored s → HasNarrowed p l t t stored s s
narrowed_itself p l t stored s is = record {
  trail = is;
  level = refl;
  older = ([], sym (append-nil s.entries));
  smaller = λ v x h. h;
  legal = λ answers h. h;
  nearer = λ answers h. omega arith;
}

pub narrowed_then : (p : Problem) (l : LayoutState) (t u w : Table) (stored : List StoredBox) (a b c : TrailState) → HasNarrowed p l t u stored a b → HasNarrowed p l u w stored b c → HasNarrowed p l t w stored a c
narrowed_then p l t u w stored a b c first second = record {
  trail = second.trail;
  level = second.level ∙ first.level;
  older = (first.older.0 ++ second.older.0, second.older.1 ∙ ap (λ es. es ++ second.older.0) first.older.1 ∙ append_assoc a.entries first.older.0 second.older.0);
  smaller = λ v x h. first.smaller v x (second.smaller v x h);
  legal = λ answers h. second.legal answers (first.legal answers h);
  nearer = λ answers h. let one = first.nearer answers h in let two = second.nearer answers (first.legal answers h) in omega (arith, one, two);
}

-- the same trail, in a table where what is held means the same
pub narrowed_moved : (p : Problem) (laws : StayLaws) (l : LayoutState) (t u : Table) (stored : List StoredBox) (s : TrailState) → MeansTheSame t u (held s) → MeansTheSame t u (stored_sets stored)
    → IsTrailOf p l t stored s → HasNarrowed p l t u stored s s
narrowed_moved p laws l t u stored s means boxes is =
    let domains : MeansTheSame t u s.domains = λ r h. means r (Contains-append_left s.domains (befores s.entries) r h) in
    let before : MeansTheSame t u (befores s.entries) = λ r h. means r (Contains-append_right s.domains (befores s.entries) r h) in
    let same = laws.families l t u s.domains domains in
    let entries = laws.entries l t u stored s.entries before boxes in
    let measured : measure_of p l u stored s ≡ measure_of p l t stored s
    = ap (λ es. measure (problem_of p) es (family l u s.domains)) entries ∙ ap (measure (problem_of p) (entries_of l t stored s.entries)) same in
    record {
      trail = laws.trails p l t u stored s means boxes is;
      level = refl;
      older = ([], sym (append-nil s.entries));
      smaller = subst (λ g. AllLie g (family l t s.domains)) (sym same) (λ v x h. h);
      legal = λ answers h. laws.legal p l t u answers stored s means boxes h;
      nearer = λ answers h. omega (arith, measured);
    }

-- ---- the narrowings of a list

pub narrowings_head : (p : Problem) (l : LayoutState) (t : Table) (stored : List StoredBox) (reason : Reason) (f : ℕ → Value → Bool) (kept : List (VarId × Ref)) (e : VarId × Ref) (rest : List (VarId × Ref)) → kept ≡ e ∷ rest
    → AreNarrowings p l t stored reason f kept → CanPut p l t stored reason f e.0 e.1 × AreNarrowings p l t stored reason (put f e.0.0 (values_in l t e.0 e.1)) rest
narrowings_head p l t stored reason f kept e rest is h = subst (AreNarrowings p l t stored reason f) is h

pub family_by : (p : Problem) (laws : NarrowLaws p) (l : LayoutState) (t : Table) (stored : List StoredBox) (reason : Reason) → l.kinds ≡ p.kinds → IsKnown stored reason → reason ≢ why.Decision
    → (kept : List (VarId × Ref)) (s : TrailState) → IsTrailOf p l t stored s → AreNarrowings p l t stored reason (family l t s.domains) kept
    → family l t (narrowed_by reason kept s).domains ≡ put_all l t kept (family l t s.domains)
family_by p laws l t stored reason kinds known made [] s is h = refl
family_by p laws l t stored reason kinds known made ((v, r) ∷ kept) s is h =
    let same = laws.family l t s v r reason is.readable.domains (within p laws l t stored reason kinds known made s v is h.0.known) in
    let next = one_narrowed p laws l t stored reason kinds known made s v r is h.0 in
    family_by p laws l t stored reason kinds known made kept (narrowed s v r reason) next.trail (subst (λ g. AreNarrowings p l t stored reason g kept) (sym same) h.1)
    ∙ ap (put_all l t kept) same

-- each ref is live
pub narrowings_live : (p : Problem) (l : LayoutState) (t : Table) (stored : List StoredBox) (reason : Reason) (f : ℕ → Value → Bool) (kept : List (VarId × Ref)) → AreNarrowings p l t stored reason f kept
    → All (λ (e : VarId × Ref). IsLive t e.1) kept
narrowings_live p l t stored reason f [] h = λ i d lt. absurd (let none : i < 0 = lt in omega arith)
narrowings_live p l t stored reason f ((v, r) ∷ kept) h = All-cons (λ (e : VarId × Ref). IsLive t e.1) (v, r) kept h.0.domain.diagram.live (narrowings_live p l t stored reason (put f v.0 (values_in l t v r)) kept h.1)

-- ---- the values that are left

module _ (p : Problem) (l : LayoutState) (t : Table) (stored : List StoredBox) (reason : Reason) where
  all_lie : (kept : List (VarId × Ref)) (f : ℕ → Value → Bool) → AreNarrowings p l t stored reason f kept → AllLie (put_all l t kept f) f
  all_lie [] f h = λ v x has. has
  all_lie ((v, r) ∷ kept) f h = λ u x has. put_lies f v.0 (values_in l t v r) h.0.part.lies u x (all_lie kept (put f v.0 (values_in l t v r)) h.1 u x has)

  falls : (f : ℕ → Value → Bool) (v : ℕ) (s : Value → Bool) → AllLie f (problem_of p).initial → v < length p.kinds → rules.IsPart s (f v) → total (problem_of p) (put f v s) < total (problem_of p) f
  unfolding total
  falls f v s initial known part =
      let x : Value = part.proper.0 in
      let has : f v x ≡ true = part.proper.1 in
      let less : size_in s ((problem_of p).values v) < size_in (f v) ((problem_of p).values v) =
      size_strict s (f v) x ((problem_of p).values v) part.lies has part.proper.2 ((problem_of p).listed v x known (initial v x has)) in
      sum_strict (problem_of p) (put f v s) f v (length p.kinds) (put_lies f v s part.lies)
      (subst (λ z. size_in z ((problem_of p).values v) < size_in (f v) ((problem_of p).values v)) (sym (put-same f v s)) less) known

  pub fewer_left : l.kinds ≡ p.kinds → (kept : List (VarId × Ref)) (f : ℕ → Value → Bool) → kept ≢ [] → AllLie f (problem_of p).initial → AreNarrowings p l t stored reason f kept
      → total (problem_of p) (put_all l t kept f) < total (problem_of p) f
  fewer_left kinds [] f some initial h = absurd (some refl)
  fewer_left kinds ((v, r) ∷ kept) f some initial h =
      let g : ℕ → Value → Bool = put f v.0 (values_in l t v r) in
      let first : total (problem_of p) g < total (problem_of p) f = falls f v.0 (values_in l t v r) initial (subst (λ ks. v.0 < length ks) kinds h.0.known) h.0.part in
      let others : total (problem_of p) (put_all l t kept g) ≤ total (problem_of p) g = total_mono (problem_of p) (put_all l t kept g) g (all_lie kept g h.1) in
      omega (arith, first, others)

-- a variable that the list does not name keeps its set
pub others_stay : (l : LayoutState) (t : Table) (kept : List (VarId × Ref)) (f : ℕ → Value → Bool) (n : ℕ) → (Contains (narrowed_in kept) (variable n) → ⊥) → put_all l t kept f n ≡ f n
others_stay l t [] f n none = refl
others_stay l t ((v, r) ∷ kept) f n none =
    others_stay l t kept (put f v.0 (values_in l t v r)) n (λ h. none (in_tail v (narrowed_in kept) (variable n) h))
    ∙ put-other f v.0 (values_in l t v r) n (λ e. none (subst (λ w. Contains (v ∷ narrowed_in kept) w) (ap variable (sym e)) (in_head v (narrowed_in kept))))

-- ---- the next narrowing of the list

module _ (p : Problem) (laws : NarrowLaws p) (l : LayoutState) (t : Table) (stored : List StoredBox) (reason : Reason) (kinds : l.kinds ≡ p.kinds) (known : IsKnown stored reason) (made : reason ≢ why.Decision)
    (kept : List (VarId × Ref)) (i : ℕ) (d : VarId × Ref) (there : i < length kept) (first now : TrailState)
    (done : HasNarrowed p l t t stored first now) (rest : AreNarrowings p l t stored reason (family l t now.domains) (drop i kept)) where
  abbrev e : VarId × Ref
  e = get_or kept i d

  next_is : CanPut p l t stored reason (family l t now.domains) e.0 e.1 × AreNarrowings p l t stored reason (put (family l t now.domains) e.0.0 (values_in l t e.0 e.1)) (drop (i + 1) kept)
  next_is = narrowings_head p l t stored reason (family l t now.domains) (drop i kept) e (drop (i + 1) kept) (drop_more kept i d there) rest

  pub next_within : e.0.0 < length now.domains
  next_within = within p laws l t stored reason kinds known made now e.0 done.trail next_is.0.known

  pub next_live : IsLive t e.1
  next_live = next_is.0.domain.diagram.live

  pub next_done : (new : TrailState) → new ≡ narrowed now e.0 e.1 reason → HasNarrowed p l t t stored first new
  next_done new is = subst (HasNarrowed p l t t stored first) (sym is)
      (narrowed_then p l t t t stored first now (narrowed now e.0 e.1 reason) done (one_narrowed p laws l t stored reason kinds known made now e.0 e.1 done.trail next_is.0))

  pub next_rest : (new : TrailState) → new ≡ narrowed now e.0 e.1 reason → AreNarrowings p l t stored reason (family l t new.domains) (drop (i + 1) kept)
  next_rest new is = subst (λ (s : TrailState). AreNarrowings p l t stored reason (family l t s.domains) (drop (i + 1) kept)) (sym is)
      (subst (λ g. AreNarrowings p l t stored reason g (drop (i + 1) kept)) (sym (laws.family l t now e.0 e.1 reason done.trail.readable.domains next_within)) next_is.1)

  pub next_folded : (new : TrailState) → new ≡ narrowed now e.0 e.1 reason → narrowed_by reason (drop i kept) now ≡ narrowed_by reason kept first → narrowed_by reason (drop (i + 1) kept) new ≡ narrowed_by reason kept first
  next_folded new is folded = ap (narrowed_by reason (drop (i + 1) kept)) is ∙ sym (ap (λ es. narrowed_by reason es now) (drop_more kept i d there)) ∙ folded
