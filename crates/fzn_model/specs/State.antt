-- What the items so far come to, where none of them has a fault. This project's own.
use Rattle.std.specs.Prelude.{◌≡◌, ◌↔◌, ℕ, ◌≤◌, nat_eq, IsTrue, List, [], length, count_by, sum_by, Option, Some, IsSome, Any}
use Rattle.std.specs.Option.{option_map}
use Rattle.std.specs.Cmp.Lexicographic.{pointwise}
use Rattle.indexmap.specs.IndexMap.{get_by}
use Rattle.fzn_parser.specs.declared.tree.Item.{Item}
use Rattle.bit_layout.specs.Limits.{AreWithinLimits, counted_bits}
use Rattle.fzn_model.specs.declared.known.Known.{Known}
use Rattle.fzn_model.specs.declared.declared.Declared.{Declared}
use Rattle.fzn_model.specs.declared.so_far.SoFar.{SoFar}
use Rattle.fzn_model.specs.Limits.{all_constant_sets_limit, value_limit, constraint_limit, term_limit}
use Rattle.fzn_model.specs.Lists.{sum_after}
use Rattle.fzn_model.specs.Items.{adds_constraint, declares}
use Rattle.fzn_model.specs.Entities.{Naming, count_variables, naming_after}
use Rattle.fzn_model.specs.Shared.{entity_in}
use Rattle.fzn_model.specs.ProblemOf.{kinds_of}
use Rattle.fzn_model.specs.FaultsOf.{constant_elements_after, integer_values, terms_after}

-- what the table has under a name
abbrev pub known_of : Declared → List ℕ → Option Known
known_of table name = get_by (λ key. pointwise nat_eq name key.items) table.names

abbrev pub naming_of : Declared → Naming
naming_of table name = option_map (λ known. entity_in known.entity) (known_of table name)

-- the state after these items: its names, kinds and counts are theirs, and no count is beyond its limit
pub record AreSoFar (before : List Item) (state : SoFar) : Type 0 where
  pub naming : (name : List ℕ) → naming_of state.declared name ≡ naming_after before name
  pub declared : (name : List ℕ) → IsSome (naming_after before name) ↔ Any (λ earlier. IsTrue (declares name earlier.form)) before
  pub known : kinds_of before ≡ Some state.kinds.items
  pub variables : length state.kinds.items ≡ count_variables before
  pub within : AreWithinLimits state.kinds.items
  pub bits : state.counts.bits ≡ sum_by counted_bits state.kinds.items
  pub values : state.counts.integer_values ≡ sum_by integer_values state.kinds.items
  pub values_within : state.counts.integer_values ≤ value_limit
  pub elements : state.counts.elements ≡ sum_after constant_elements_after [] before
  pub elements_within : state.counts.elements ≤ all_constant_sets_limit
  pub constraints : state.counts.constraints ≡ count_by (λ item. adds_constraint item.form) before
  pub constraints_within : state.counts.constraints ≤ constraint_limit
  pub terms : state.counts.terms ≡ sum_after terms_after [] before
  pub terms_within : state.counts.terms ≤ term_limit
