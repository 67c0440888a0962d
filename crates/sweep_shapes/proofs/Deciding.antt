-- The variables of a constraint one after another, and the answer.
use Rattle.std.proofs.Common.{◌≡◌, ◌↔◌, ℕ, ◌+◌, ◌<◌, ◌≤◌, Bool, List, length, take, get_or, Contains, Some, IsTrue, sym, ap, ◌∙◌, subst}
use Rattle.std.specs.Prelude.{All}
use Rattle.std.specs.Ordering.{nat_cmp}
use Rattle.std.specs.List.Sorted.{IsStrictlySortedBy}
use Rattle.std.proofs.lemmas.List.Elements.{Contains-get_or}
use Rattle.std.proofs.lemmas.Option.{slice_get-get_or}
use Rattle.set_meaning.specs.declared.kinds.Kind.{Kind}
use Rattle.set_meaning.specs.declared.kinds.Value.{Value}
use Rattle.set_meaning.specs.declared.problems.VarId.{VarId}
use Rattle.set_meaning.specs.declared.problems.Constraint.{Constraint}
use Rattle.set_meaning.specs.Kinds.{InKind, IsAssignment}
use Rattle.set_meaning.specs.Rows.{FitsRow}
use Rattle.set_meaning.specs.Relations.{IsScope}
use Rattle.bit_layout.proofs.Listing.{all_zip_long}
use Rattle.log_rules.specs.declared.nodes.Node.{Node}
use Rattle.log_rules.specs.Boxes.{Sides, SomeSatisfy}
use Rattle.log_rules.specs.Rules.{StandsIn}
use Rattle.sweep_shapes.specs.declared.choices.Choice.{Choice}
use Rattle.sweep_shapes.specs.Trials.{IsAllowed, Opens, SomeChosen}
use Rattle.sweep_shapes.proofs.Known.{variable_known}
use Rattle.sweep_shapes.proofs.Opening.{Opened, opened_turn, opened_all, scope_apart}
use Rattle.sweep_shapes.proofs.Satisfying.{tried_is_satisfied}

-- an element within a list does not hang on what stands in for one beyond it
pub own_default : {X : Type 0} (xs : List X) (i : ℕ) (d e : X) → i < length xs → get_or xs i d ≡ get_or xs i e
own_default {X} xs i d e within = let both : Some (get_or xs i d) ≡ Some (get_or xs i e) = sym (slice_get-get_or xs i d within) ∙ slice_get-get_or xs i e within in cc

-- a variable of the scope is one of the problem's
pub scope_known : (kinds : List Kind) (c : Constraint) (scope : List VarId) (u : VarId) → IsScope c scope → FitsRow kinds c → Contains scope u → u.0 < length kinds
scope_known kinds c scope u is fits there = variable_known kinds c u fits ((is.members u).0 there)

pub listed_known : (kinds : List Kind) (c : Constraint) (scope listed : List VarId) (i : ℕ) (d : VarId) → IsScope c scope → FitsRow kinds c → listed ≡ scope → i < length listed → (get_or listed i d).0 < length kinds
listed_known kinds c scope listed i d is fits same within = scope_known kinds c scope (get_or listed i d) is fits (subst (λ vs. Contains vs (get_or listed i d)) same (Contains-get_or listed i d within))

-- the values have as many items as there are kinds
pub as_long : (kinds : List Kind) (first values : List Value) (n : ℕ) → IsAssignment kinds values → first ≡ values → n < length kinds → n < length first
as_long kinds first values n legal same within = subst (λ m. n < m) (all_zip_long InKind kinds values legal ∙ ap length (sym same)) within

pub variable_turn : (kinds : List Kind) (table : List Node) (sides : Sides) (c : Constraint) (scope listed : List VarId) (first values : List Value) (i : ℕ) (d : VarId) (own base base' : List Value)
    (choices choices' : List Choice) → IsScope c scope → FitsRow kinds c → listed ≡ scope → IsAssignment kinds values → first ≡ values → i < length listed
    → ((y : Value) → Contains own y ↔ IsAllowed kinds table sides (get_or listed i d).0 y) → Opens base choices (get_or listed i d) own base' choices'
    → Opened (IsAllowed kinds table sides) first base choices (take i listed) → Opened (IsAllowed kinds table sides) first base' choices' (take (i + 1) listed)
variable_turn kinds table sides c scope listed first values i d own base base' choices choices' is fits same legal begins within own_is opens so_far =
    let v = get_or listed i d in
    let at : v ≡ get_or listed i v = own_default listed i d v within in
    let up : IsStrictlySortedBy (λ u w. nat_cmp u.0 w.0) listed = subst (λ vs. IsStrictlySortedBy (λ u w. nat_cmp u.0 w.0) vs) (sym same) is.ascending in
    opened_turn (IsAllowed kinds table sides) first listed i v own base base' choices choices' within at (as_long kinds first values v.0 legal begins (listed_known kinds c scope listed i d is fits same within))
    (scope_apart listed i v up within at) own_is opens so_far

pub decided : (kinds : List Kind) (table : List Node) (sides : Sides) (c : Constraint) (scope listed : List VarId) (first values base : List Value) (choices tried : List Choice) (i : ℕ) (found : Bool) → IsScope c scope
    → FitsRow kinds c → listed ≡ scope → IsAssignment kinds values → first ≡ values → All (λ side. StandsIn c side.0) sides → length listed ≤ i
    → Opened (IsAllowed kinds table sides) first base choices (take i listed) → tried ≡ choices → IsTrue found ↔ SomeChosen base tried c → IsTrue found ↔ SomeSatisfy kinds table sides c
decided kinds table sides c scope listed first values base choices tried i found is fits same legal begins named all opened lent answer =
    let whole = subst (λ vs. Opened (IsAllowed kinds table sides) first base choices vs) same (opened_all (IsAllowed kinds table sides) first base choices listed i all opened) in
    let right = tried_is_satisfied kinds table sides c first base choices scope (subst (IsAssignment kinds) (sym begins) legal) is (λ u h. scope_known kinds c scope u is fits h) named whole in
    let moved = subst (λ cs. IsTrue found ↔ SomeChosen base cs c) lent answer in
    (λ h. right.0 (moved.0 h), λ h. moved.1 (right.1 h))
