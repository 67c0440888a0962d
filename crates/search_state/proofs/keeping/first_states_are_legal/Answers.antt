use Rattle.std.proofs.Common.{ℕ, Bool, [], refl, sym, subst}
use Rattle.std.proofs.lemmas.List.Elements.{All-nil}
use Rattle.set_meaning.specs.declared.kinds.Value.{Value}
use Rattle.search_rules.specs.State.{IsLegal}
use Rattle.problem_rules.specs.Posed.{problem_of}
use Rattle.box_clauses.specs.declared.store.StoredBox.{StoredBox}
use Rattle.box_clauses.specs.Boxes.{AreSides}
use Rattle.search_state.specs.Readings.{IsEntry}
use Rattle.search_state.proofs.keeping.first_states_are_legal.Goals as goal

pub returns : goal.returns
returns c l t start are initial = record {
  readable = record {
    domains = are;
    entries = All-nil (IsEntry l t []);
    boxes = All-nil (λ (b : StoredBox). AreSides l t b.sides);
  };
  level = refl;
  legal = subst (λ (f : ℕ → Value → Bool). IsLegal (problem_of c.args.p.now) [] [] [] f) (sym initial) c.the_first_state_is_legal.ensures;
}
