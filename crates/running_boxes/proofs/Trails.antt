-- The resolvent in a table where what is pinned means the same.
use Rattle.std.proofs.Common.{◌≡◌, ℕ, Bool, List, [], ◌∷◌, ap, ◌∙◌, subst, inl, inr}
use Rattle.std.proofs.lemmas.List.Elements.{Contains-append_left, Contains-append_right}
use Rattle.set_meaning.specs.declared.kinds.Value.{Value}
use Rattle.set_meaning.specs.declared.problems.Problem.{Problem}
use Rattle.bit_layout.specs.Order.{LayoutState}
use Rattle.bit_layout.proofs.Rising.{nothing_in_empty, in_cons}
use Rattle.diagram_arena.specs.declared.nodes.Ref.{Ref}
use Rattle.diagram_arena.specs.Table.{Word, Table, has, IsLive}
use Rattle.node_reclaim.specs.Holders.{MeansTheSame}
use Rattle.search_rules.specs.Trail as rules
use Rattle.search_rules.specs.Box.{resolvent}
use Rattle.search_rules.specs.Walk.{reason_box}
use Rattle.exact_steps.specs.Domains.{family}
use Rattle.problem_rules.specs.Posed.{problem_of}
use Rattle.domain_trail.specs.declared.entries.Entry.{Entry}
use Rattle.domain_trail.specs.Trail.{TrailState, befores, held}
use Rattle.box_clauses.specs.declared.store.StoredBox.{StoredBox}
use Rattle.box_clauses.specs.Stored.{stored_sets}
use Rattle.search_state.specs.Readings.{entry_of}
use Rattle.running_boxes.specs.Running.{IsNewest, resolvent_of}
use Rattle.running_boxes.specs.Laws.{LowerLaws}
use Rattle.running_boxes.proofs.Newest.{newest_listed, in_befores}

module _ (laws : LowerLaws) (l : LayoutState) (t u : Table) (stored : List StoredBox) (boxes : MeansTheSame t u (stored_sets stored)) (s : TrailState) (means : MeansTheSame t u (held s)) where
  domains_mean : MeansTheSame t u s.domains
  domains_mean r h = means r (Contains-append_left s.domains (befores s.entries) r h)

  before_means : (e : Entry) → IsNewest s e → MeansTheSame t u (e.before ∷ [])
  before_means e newest r h = elim (in_cons e.before [] r h) [
    | inl same ↦ subst (λ q. IsLive u q × ((w : Word) → has u q w ≡ has t q w)) same (means e.before (Contains-append_right s.domains (befores s.entries) e.before (in_befores s.entries e (newest_listed s e newest))))
    | inr none ↦ absurd (nothing_in_empty r none)
  ]

  pub resolvent_same : (p : Problem) (e : Entry) (running : List Ref) → IsNewest s e → MeansTheSame t u running → resolvent_of p l u stored s e running ≡ resolvent_of p l t stored s e running
  resolvent_same p e running newest same =
      let F : (ℕ → Value → Bool) → (ℕ → Value → Bool) → rules.Entry Value → ℕ → Value → Bool = λ f g x. resolvent f (reason_box (problem_of p) x.reason (rules.undo g x) x.var (g x.var)) x.var in
      ap (λ f. F f (family l u s.domains) (entry_of l u stored e)) (laws.families l t u running same)
      ∙ ap (λ g. F (family l t running) g (entry_of l u stored e)) (laws.families l t u s.domains domains_mean)
      ∙ ap (λ x. F (family l t running) (family l t s.domains) x) (laws.entries l t u stored e (before_means e newest) boxes)
