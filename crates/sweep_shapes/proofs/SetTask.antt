-- What is known of a constraint over set variables, from what the calls say.
use Rattle.std.proofs.Common.{◌≡◌, ◌↔◌, ℕ, ◌<◌, ◌≤◌, Bool, true, ℤ, pos, List, [], ◌∷◌, length, map, get_or, Option, Some, refl, sym, ap, ◌∙◌, subst}
use Rattle.std.specs.Prelude.{slice_get, IsSome, All}
use Rattle.std.proofs.lemmas.List.Elements.{Contains-get_or, All-nil, All-cons}
use Rattle.std.proofs.lemmas.Option.{slice_get_within, slice_get-get_or}
use Rattle.set_meaning.specs.declared.kinds.Kind.{Kind}
use Rattle.set_meaning.specs.declared.kinds.Kind.TheVariants as kind
use Rattle.set_meaning.specs.declared.kinds.Value.{Value}
use Rattle.set_meaning.specs.declared.problems.VarId.{VarId}
use Rattle.set_meaning.specs.declared.problems.Term.{Term}
use Rattle.set_meaning.specs.declared.problems.Arg.{Arg}
use Rattle.set_meaning.specs.declared.problems.Constraint.{Constraint}
use Rattle.set_meaning.specs.Kinds.{IsAssignment}
use Rattle.set_meaning.specs.Problems.{IsKind}
use Rattle.set_meaning.specs.Rows.{FitsRow}
use Rattle.set_meaning.specs.Relations.{Holds, IsScope}
use Rattle.bit_layout.specs.declared.places.Place.{Place}
use Rattle.bit_layout.specs.Words.{width_of}
use Rattle.bit_layout.specs.Order.{element_at}
use Rattle.bit_layout.proofs.Finding.{kind_of_place}
use Rattle.log_rules.specs.declared.nodes.Node.{Node}
use Rattle.log_rules.specs.Boxes.{Sides, AreSides, SomeSatisfy}
use Rattle.log_rules.specs.Rules.{StandsIn}
use Rattle.sweep_rules.specs.Rules.{Rules, accepts}
use Rattle.sweep_rules.specs.SetPlaces.{AreSetPlaces, set_bit}
use Rattle.sweep_sets.specs.declared.shapes.SetShape.{SetShape}
use Rattle.sweep_sets.specs.Relations.{FitsRelation, IsShapeOf}
use Rattle.sweep_sets.specs.Shapes.{rules_of, IsSetAmong, IsShapeOfMember}
use Rattle.sweep_scopes.specs.declared.meeting.Slot.{Slot}
use Rattle.sweep_scopes.specs.Meetings.{Fits, Meets}
use Rattle.sweep_shapes.specs.Slots.{IsSlot, AreSetVariables, IsReading, IsMembership}
use Rattle.sweep_shapes.proofs.SetKinds.{set_among, member_holds}
use Rattle.sweep_shapes.proofs.SetSides.{AreCounted, slot_of, slot_fits, has_slot}
use Rattle.sweep_shapes.proofs.SetGlue.{HaveWords, AreOne, Task, legal_at, meets_is_satisfied}

pub known_sets : (layout_kinds kinds : List Kind) (variables : List VarId) → layout_kinds ≡ kinds → AreSetVariables kinds variables → All (λ (v : VarId). v.0 < length layout_kinds) variables
known_sets layout_kinds kinds variables same sets i d within =
    let v = get_or variables i d in
    let u = sets v (Contains-get_or variables i d within) in
    subst (λ ks. v.0 < length ks) (sym same) (slice_get_within kinds v.0 (kind.Set u.0) u.1)

-- the places as they are lent
pub places_lent : (layout_kinds kinds : List Kind) (variables : List VarId) (places listed : List Place) → layout_kinds ≡ kinds → listed ≡ places → AreSetPlaces layout_kinds variables places
    → AreSetPlaces kinds variables listed
places_lent layout_kinds kinds variables places listed same lent are = subst (λ ks. AreSetPlaces ks variables listed) same (subst (AreSetPlaces layout_kinds variables) (sym lent) are)

is_some : {X : Type 0} (o : Option X) (x : X) → o ≡ Some x → IsSome o
is_some o x e = subst IsSome (sym e) refl

pub elements_there : (kinds : List Kind) (variables : List VarId) (listed : List Place) → AreSetVariables kinds variables → AreSetPlaces kinds variables listed → All (λ p. IsSome p.element) listed
elements_there kinds variables listed sets are i d within =
    let p = get_or listed i d in
    let m = (are.members p).0 (Contains-get_or listed i d within) in
    let u = sets p.variable m.1 in
    let k = kind_of_place kinds p m.0 in
    let both : Some k.0 ≡ Some (kind.Set u.0) = sym k.1 ∙ u.1 in
    let same : k.0 ≡ kind.Set u.0 = cc in
    let short : p.position < length u.0 = subst (λ j. p.position < width_of j) same k.2 in
    let element : p.element ≡ slice_get u.0 p.position = k.3 ∙ ap (λ j. element_at j p.position) same in
    is_some p.element (get_or u.0 p.position (pos 0)) (element ∙ slice_get-get_or u.0 p.position (pos 0) short)

pub fits_relation : (kinds : List Kind) (c : Constraint) (args : List Arg) → args ≡ c.args → FitsRow kinds c → FitsRelation c.relation args
fits_relation kinds c args same fits = subst (FitsRelation c.relation) (sym same) (kinds, fits.args)

pub slot_ready : AreCounted → (kinds : List Kind) (table : List Node) (sides : Sides) (variables : List VarId) (listed : List Place) (i : ℕ) (slot : Slot) → All IsKind kinds → AreSetVariables kinds variables
    → AreSetPlaces kinds variables listed → AreSides kinds table sides → IsSlot sides variables i slot → Fits table listed slot
slot_ready law kinds table sides variables listed i slot legal sets are ok slot_is =
    let of = slot_of sides variables i slot slot_is in
    let u = sets slot.variable of.among in
    slot_fits law kinds table sides variables listed slot (kind.Set u.0) are ok of u.1 (legal_at kinds slot.variable.0 (kind.Set u.0) legal u.1)

-- ---- what shapes are exact

pub relation_exact : (kinds : List Kind) (c read : Constraint) (truth : Bool) (variables : List VarId) (listed : List Place) (args : List Arg) (shape : SetShape) → args ≡ read.args
    → IsReading kinds c variables read truth → AreSetPlaces kinds variables listed → IsShapeOf listed read.relation truth args shape → (values : List Value) → IsAssignment kinds values
    → (accepts (rules_of shape) (map (set_bit values) listed) ≡ true) ↔ Holds c values
relation_exact kinds c read truth variables listed args shape same reading are exact values assignment =
    let moved = subst (λ given. IsShapeOf listed read.relation truth given shape) same exact in
    let told = moved kinds variables values are reading.fits.args reading.among assignment in
    let holds = reading.same values assignment in
    (λ h. holds.0 (told.0 h), λ h. told.1 (holds.1 h))

pub member_exact : (kinds : List Kind) (c read : Constraint) (truth : Bool) (x : ℤ) (set : Term) (variables : List VarId) (listed : List Place) (shape : SetShape) → IsReading kinds c variables read truth
    → IsMembership read x set → AreSetPlaces kinds variables listed → IsShapeOfMember listed truth x set shape → (values : List Value) → IsAssignment kinds values
    → (accepts (rules_of shape) (map (set_bit values) listed) ≡ true) ↔ Holds c values
member_exact kinds c read truth x set variables listed shape reading is are exact values assignment =
    let one : All (IsSetAmong kinds variables) (set ∷ []) = All-cons (IsSetAmong kinds variables) set [] (set_among kinds c read truth x set variables reading is) (All-nil (IsSetAmong kinds variables)) in
    let told = exact kinds variables values are one assignment in
    let holds = reading.same values assignment in
    let says = member_holds read truth x set values is in
    (λ h. holds.0 (says.0 (told.0 h)), λ h. told.1 (says.1 (holds.1 h)))

-- ---- the answer

pub told : {Q : Type 0} (rules : Rules Q) → AreCounted → HaveWords → AreOne → (kinds : List Kind) (table : List Node) (sides : Sides) (c : Constraint) (variables : List VarId) (listed : List Place)
    (first second third : Slot) → All IsKind kinds → IsScope c variables → AreSetVariables kinds variables → length variables ≤ 3 → AreSetPlaces kinds variables listed → AreSides kinds table sides
    → All (λ side. StandsIn c side.0) sides → ((values : List Value) → IsAssignment kinds values → (accepts rules (map (set_bit values) listed) ≡ true) ↔ Holds c values)
    → IsSlot sides variables 0 first → IsSlot sides variables 1 second → IsSlot sides variables 2 third
    → (P : Type 0) → P ↔ Meets table listed rules first second third → P ↔ SomeSatisfy kinds table sides c
told rules counted words one kinds table sides c variables listed first second third legal scope sets few are ok named exact is_first is_second is_third P answer =
    let task : Task kinds table sides c variables listed first second third = record {
      counted = counted;
      words = words;
      one = one;
      legal = legal;
      scope = scope;
      are = are;
      ok = ok;
      named = named;
      sets = sets;
      slots = λ v h. has_slot sides variables first second third v few is_first is_second is_third h;
      of_first = slot_of sides variables 0 first is_first;
      of_second = slot_of sides variables 1 second is_second;
      of_third = slot_of sides variables 2 third is_third;
    } in
    let both = meets_is_satisfied rules kinds table sides c variables listed first second third task exact in
    (λ p. both.0 (answer.0 p), λ s. answer.1 (both.1 s))
