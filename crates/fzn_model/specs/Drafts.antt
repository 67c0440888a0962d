-- The problem so far, and what an item adds to it. This project's own.
use Rattle.std.specs.Prelude.{◌≡◌, ℕ, ◌+◌, ◌≤◌, ◌&&◌, List, [], ◌∷◌, ◌++◌, length, sum_by, if◌then◌else◌, option_to_list, Option, Some, None, is_some, All, IfSome, ⊤}
use Rattle.std.specs.List.{flat_map}
use Rattle.std.specs.Option.{option_map}
use Rattle.fzn_parser.specs.declared.tree.Form.{Form}
use Rattle.fzn_parser.specs.declared.tree.Item.{Item}
use Rattle.set_meaning.specs.declared.kinds.Kind.{Kind}
use Rattle.set_meaning.specs.declared.problems.Constraint.{Constraint}
use Rattle.set_meaning.specs.declared.problems.Term.{Term}
use Rattle.set_meaning.specs.declared.problems.Arg.{Arg}
use Rattle.set_meaning.specs.declared.problems.Arg.TheVariants.{One, Many}
use Rattle.set_meaning.specs.declared.problems.Goal.{Goal}
use Rattle.set_meaning.specs.declared.rows.Sort.{Sort}
use Rattle.set_meaning.specs.Problems.{IsKind}
use Rattle.set_meaning.specs.Rows.{HasSort}
use Rattle.bit_layout.specs.Limits.{IsNarrow, counted_bits}
use Rattle.fzn_model.specs.declared.declared.Declared.{Declared}
use Rattle.fzn_model.specs.declared.so_far.Counts.{Counts}
use Rattle.fzn_model.specs.declared.so_far.SoFar.{SoFar}
use Rattle.fzn_model.specs.declared.pieces.Pieces.{Pieces}
use Rattle.fzn_model.specs.declared.drafts.Draft.{Draft}
use Rattle.fzn_model.specs.Limits.{all_constant_sets_limit, bit_limit, value_limit, constraint_limit, term_limit}
use Rattle.fzn_model.specs.Lists.{each_after}
use Rattle.fzn_model.specs.Items.{declares}
use Rattle.fzn_model.specs.Entities.{Entity, Naming, entity_of, naming_after}
use Rattle.fzn_model.specs.Shared.{entity_in}
use Rattle.fzn_model.specs.ProblemOf.{constraints_after, constraints_in, goals_after, goals_in, kinds_in, names_in, shown_after, shown_in, terms_in}
use Rattle.fzn_model.specs.FaultsOf.{integer_values, set_size}
use Rattle.fzn_model.specs.State.{AreSoFar, naming_of}
use Rattle.fzn_model.specs.Meanings.{Gives, elements_in}

-- ---- what a constraint counts

abbrev pub elements_of_constraint : Constraint → ℕ
elements_of_constraint c = sum_by elements_in c.args + sum_by set_size (option_to_list c.reif)

abbrev pub terms_of_constraint : Constraint → ℕ
terms_of_constraint c = sum_by (λ arg. length (terms_in arg)) c.args + length (option_to_list c.reif)

-- ---- what an item adds

-- these are the pieces of the item, whose first variable has this number
pub record ArePieces (naming : Naming) (number : ℕ) (form : Form) (pieces : Pieces) : Type 0 where
  pub entities : option_map entity_in pieces.entity ≡ entity_of naming number form
  pub kinds : Gives (kinds_in form) pieces.kind
  pub names : names_in form ≡ option_to_list pieces.name
  pub constraints : Gives (constraints_in naming number form) pieces.constraint
  pub shows : Gives (shown_in naming number form) pieces.shown
  pub goals : Gives (goals_in naming number form) pieces.goal

-- a kind that can be counted behind others
pub record IsCountable (counts : Counts) (k : Kind) : Type 0 where
  pub legal : IsKind k
  pub narrow : IsNarrow k
  pub bits : counts.bits + counted_bits k ≤ bit_limit
  pub values : counts.integer_values + integer_values k ≤ value_limit

-- a constraint that can be counted behind others
pub record CanBeCounted (counts : Counts) (c : Constraint) : Type 0 where
  pub elements : counts.elements + elements_of_constraint c ≤ all_constant_sets_limit
  pub terms : counts.terms + terms_of_constraint c ≤ term_limit
  pub constraints : counts.constraints + 1 ≤ constraint_limit

pub record CanBePut (counts : Counts) (pieces : Pieces) : Type 0 where
  pub of_kind : IfSome pieces.kind (IsCountable counts)
  pub of_constraint : IfSome pieces.constraint (CanBeCounted counts)

-- the names of the item stand for the entity, and others for what they did
abbrev pub AreDeclared : Declared → Form → Option Entity → Declared → Type 0
AreDeclared old form entity new =
    (name : List ℕ) → naming_of new name ≡ (if declares name form && is_some entity then entity else naming_of old name)

-- the counts, with those of a kind and a constraint
pub record AreCounted (old : Counts) (added : Option Kind) (constraint : Option Constraint) (new : Counts) : Type 0 where
  pub bits : new.bits ≡ old.bits + sum_by counted_bits (option_to_list added)
  pub values : new.integer_values ≡ old.integer_values + sum_by integer_values (option_to_list added)
  pub elements : new.elements ≡ old.elements + sum_by elements_of_constraint (option_to_list constraint)
  pub terms : new.terms ≡ old.terms + sum_by terms_of_constraint (option_to_list constraint)
  pub constraints : new.constraints ≡ old.constraints + length (option_to_list constraint)

-- the draft with the pieces of the item
pub record IsPut (old : Draft) (form : Form) (pieces : Pieces) (new : Draft) : Type 0 where
  pub declared : AreDeclared old.so_far.declared form (option_map entity_in pieces.entity) new.so_far.declared
  pub kinds : new.so_far.kinds.items ≡ old.so_far.kinds.items ++ option_to_list pieces.kind
  pub counted : AreCounted old.so_far.counts pieces.kind pieces.constraint new.so_far.counts
  pub names : new.names.items ≡ old.names.items ++ option_to_list pieces.name
  pub constraints : new.constraints.items ≡ old.constraints.items ++ option_to_list pieces.constraint
  pub shown : new.shown.items ≡ old.shown.items ++ option_to_list pieces.shown
  pub goals : new.goals.items ≡ old.goals.items ++ option_to_list pieces.goal

-- ---- the draft after some items

-- the terms of an argument have the sort
abbrev pub IsOfSort : List Kind → Sort → Arg → Type 0
IsOfSort kinds sort (One t) = HasSort kinds sort t
IsOfSort kinds sort (Many ts) = All (HasSort kinds sort) ts

abbrev pub AreSorted : List Kind → Naming → Type 0
AreSorted kinds naming = (name : List ℕ) → IfSome (naming name) (λ e. IsOfSort kinds e.sort e.arg)

-- the draft is that of these items
pub record IsDraft (before : List Item) (draft : Draft) : Type 0 where
  pub state : AreSoFar before draft.so_far
  pub sorts : AreSorted draft.so_far.kinds.items (naming_after before)
  pub names : draft.names.items ≡ flat_map (λ item. names_in item.form) before
  pub constraints : each_after constraints_after [] before ≡ Some draft.constraints.items
  pub shown : each_after shown_after [] before ≡ Some draft.shown.items
  pub goals : each_after goals_after [] before ≡ Some draft.goals.items
