use Rattle.std.proofs.Common.{[], ◌∷◌}
use Rattle.std.proofs.lemmas.List.Elements.{recursion_from_All}
use Rattle.search_rules.specs.Family.{Lies}
use Rattle.search_moves.proofs.Seeking.{stops_rest, stops_more, on_more, none_goes_on}
use Rattle.search_moves.proofs.scanning.passing_changes_nothing.Goals as goal

pub returns-clause-one : goal.returns-clause-one
returns-clause-one g c e rest b lies = (
  (λ on l v stops. on l v (stops_more (e ∷ []) rest b l v (lies, tt) stops)),
  on_more (e ∷ []) rest b (lies, tt),
)

pub returns-clause-on : goal.returns-clause-on
returns-clause-on g c passed rest b none =
    let each = recursion_from_All (λ e. Lies e.before (b e.var)) passed none in (
      (λ on l v stops. on l v (stops_more passed rest b l v each stops)),
      on_more passed rest b each,
    )

pub returns-clause-stops : goal.returns-clause-stops
returns-clause-stops g c passed rest b l v none =
    let each = recursion_from_All (λ e. Lies e.before (b e.var)) passed none in (
      stops_rest passed rest b l v each,
      stops_more passed rest b l v each,
    )

pub returns-clause-none : goal.returns-clause-none
returns-clause-none g c es b none = none_goes_on es b (recursion_from_All (λ e. Lies e.before (b e.var)) es none)
