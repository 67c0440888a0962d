-- The output annotations. Source: the MiniZinc Handbook, FlatZinc, "Annotations" (output_var, output_array).
use Rattle.std.specs.Prelude.{ℕ, ◌*◌, ◌==◌, nat_le, Bool, ◌&&◌, ◌||◌, if◌then◌else◌, List, [], ◌∷◌, map, length, codes, Option, Some, None, option_and_then, is_none, ℤ}
use Rattle.std.specs.List.{find}
use Rattle.std.specs.Option.{option_map}
use Rattle.std.specs.Str.{bytes_eq}
use Rattle.fzn_parser.specs.declared.tree.SetForm.{SetForm}
use Rattle.fzn_parser.specs.declared.tree.SetForm.TheVariants as sets
use Rattle.fzn_parser.specs.declared.tree.Ann.{Ann}
use Rattle.fzn_parser.specs.declared.tree.AnnArg.{AnnArg}
use Rattle.fzn_parser.specs.declared.tree.AnnForm.TheOpen.{AnnForm-F, Ann-F, AnnArg-F}
use Rattle.fzn_parser.specs.declared.tree.AnnForm.TheFolds.{fold-Ann, fold-AnnArg}
use Rattle.set_meaning.specs.declared.problems.Dim.{Dim}
use Rattle.set_meaning.specs.declared.problems.Dim.TheVariants as dim
use Rattle.set_meaning.specs.Sets.{ascending_set, count_between}
use Rattle.fzn_model.specs.Lists.{each_of}
use Rattle.fzn_model.specs.Limits.{dimension_limit}
use Rattle.fzn_model.specs.Entities.{integer_of}

-- ---- dimensions

abbrev pub range_dim : Option ℤ → Option ℤ → Option Dim
range_dim (Some low) (Some high) = Some (dim.Range low high)
range_dim _ _ = None

-- a set literal, where it has neither a float nor an integer that is too large
abbrev pub dim_of_set : SetForm → Option Dim
dim_of_set (sets.Range low high) = range_dim (integer_of low) (integer_of high)
dim_of_set (sets.List numbers) = option_map (λ xs. dim.List (ascending_set xs)) (each_of integer_of numbers)

-- how many elements the dimension has
abbrev pub size_of_dim : Dim → ℕ
size_of_dim (dim.Range low high) = count_between low high
size_of_dim (dim.List elements) = length elements

-- how many items an array of these dimensions has
abbrev pub size_of : List Dim → ℕ
size_of [] = 1
size_of (d ∷ dims) = size_of_dim d * size_of dims

-- one to six dimensions, of as many items
abbrev pub fit : ℕ → List Dim → Bool
fit count dims = nat_le 1 (length dims) && nat_le (length dims) dimension_limit && (size_of dims == count)

abbrev pub if_fit : ℕ → List Dim → Option (List Dim)
if_fit count dims = if fit count dims then Some dims else None

-- ---- an annotation, so far as output annotations go

-- an argument: the dimension that it is, and the list of dimensions that it is
pub record Argument : Type 0 where
  pub dim : Option Dim
  pub dims : Option (List Dim)

-- its place, its name, and its arguments where a `(` follows the name
pub record Annotation : Type 0 where
  pub at : ℕ
  pub name : List ℕ
  pub args : Option (List Argument)

abbrev pub form_level : AnnForm-F Argument Annotation Argument → Argument
form_level (AnnForm-F.Set s) = record { dim = dim_of_set s; dims = None }
form_level (AnnForm-F.List args) = record { dim = None; dims = each_of (λ a. a.dim) args }
form_level _ = record { dim = None; dims = None }

abbrev pub ann_level : Ann-F Argument Annotation Argument → Annotation
ann_level a = record { at = a.at; name = a.name; args = a.args }

abbrev pub argument_level : AnnArg-F Argument Annotation Argument → Argument
argument_level a = a.form

abbrev pub annotation_of : Ann → Annotation
annotation_of = fold-Ann Argument Annotation Argument form_level ann_level argument_level

abbrev pub argument_of : AnnArg → Argument
argument_of = fold-AnnArg Argument Annotation Argument form_level ann_level argument_level

-- one argument, which is a list of dimensions
abbrev pub dims_in : Option (List Argument) → Option (List Dim)
dims_in (Some (a ∷ [])) = a.dims
dims_in _ = None

-- ---- the annotation that counts

abbrev pub is_output_var : Annotation → Bool
is_output_var a = bytes_eq a.name (codes "output_var")

abbrev pub is_output_array : Annotation → Bool
is_output_array a = bytes_eq a.name (codes "output_array")

-- the first output annotation
abbrev pub output_in : List Ann → Option Annotation
output_in anns = find (λ a. is_output_var a || is_output_array a) (map annotation_of anns)

-- the annotation shows a scalar: `output_var`, with no bracket behind it
abbrev pub shows_scalar : Annotation → Bool
shows_scalar a = is_output_var a && is_none a.args

-- the dimensions under which the annotation shows an array of this many items
abbrev pub dims_shown : ℕ → Annotation → Option (List Dim)
dims_shown count a = if is_output_array a then option_and_then (if_fit count) (dims_in a.args) else None
