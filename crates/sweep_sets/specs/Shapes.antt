-- What a shape of sets accepts. This project's own.
use Rattle.std.specs.Prelude.{◌≡◌, ◌↔◌, Bool, true, false, ℤ, List, [], ◌∷◌, map, All, Contains, IsSomeAnd}
use Rattle.set_meaning.specs.declared.kinds.Kind.{Kind}
use Rattle.set_meaning.specs.declared.kinds.Value.{Value}
use Rattle.set_meaning.specs.declared.problems.VarId.{VarId}
use Rattle.set_meaning.specs.declared.problems.Term.{Term}
use Rattle.set_meaning.specs.declared.problems.Term.TheVariants.{Const, Var}
use Rattle.set_meaning.specs.declared.rows.Sort.TheVariants.{IntegerSet}
use Rattle.set_meaning.specs.Kinds.{IsAssignment}
use Rattle.set_meaning.specs.Rows.{HasSort, IsValueOf}
use Rattle.set_meaning.specs.Sets.{Has}
use Rattle.set_meaning.specs.Arguments.{set_of_term, OfTwo, OfThree}
use Rattle.bit_layout.specs.declared.places.Place.{Place}
use Rattle.sweep_rules.specs.Rules.{Rules, accepts}
use Rattle.sweep_rules.specs.SetPlaces.{set_bit, AreSetPlaces}
use Rattle.sweep_sets.specs.declared.rules.Rule.{Rule}
use Rattle.sweep_sets.specs.declared.reading.Seen.{Seen}
use Rattle.sweep_sets.specs.declared.shapes.SetShape.{SetShape}
use Rattle.sweep_sets.specs.Rules.{Relates}
use Rattle.sweep_sets.specs.Reading.{by_elements}

-- how a shape reads
abbrev pub rules_of : SetShape → Rules Seen
rules_of shape = by_elements shape.rule shape.truth shape.constants shape.entries

-- the fact is true, or it is false, as the truth value says
abbrev pub HasTruth : Bool → Type 0 → Type 0
HasTruth true P = P
HasTruth false P = P → ⊥

-- the two or three terms are sets in the relation, or the set of the term has x
abbrev pub RelatesTwo : Rule → Term → Term → List Value → Type 0
RelatesTwo rule a b values = OfTwo (λ s t. Relates rule s t []) (set_of_term values a) (set_of_term values b)

abbrev pub RelatesThree : Rule → Term → Term → Term → List Value → Type 0
RelatesThree rule a b c values =
    OfThree (Relates rule) (set_of_term values a) (set_of_term values b) (set_of_term values c)

abbrev pub HasMember : ℤ → Term → List Value → Type 0
HasMember x a values = IsSomeAnd (set_of_term values a) (λ s. Has s x)

-- a constant set, or a set variable that is listed
abbrev pub IsSetAmong : List Kind → List VarId → Term → Type 0
IsSetAmong kinds sets (Const v) = IsValueOf IntegerSet v
IsSetAmong kinds sets (Var y) = HasSort kinds IntegerSet (Var y) × Contains sets y

-- of the bits of set variables, those of these terms among them, the shape accepts just those of assignments that
-- satisfy R
abbrev pub IsExact : List Place → SetShape → List Term → (List Value → Type 0) → Type 0
IsExact places shape terms R = (kinds : List Kind) (sets : List VarId) (values : List Value)
    → AreSetPlaces kinds sets places → All (IsSetAmong kinds sets) terms → IsAssignment kinds values
    → (accepts (rules_of shape) (map (set_bit values) places) ≡ true) ↔ R values

-- the shape of a rule of two or three terms, or of a member, that is to have this truth value
abbrev pub IsShapeOfTwo : List Place → Rule → Bool → Term → Term → SetShape → Type 0
IsShapeOfTwo places rule truth a b shape =
    IsExact places shape (a ∷ b ∷ []) (λ values. HasTruth truth (RelatesTwo rule a b values))

abbrev pub IsShapeOfThree : List Place → Rule → Bool → Term → Term → Term → SetShape → Type 0
IsShapeOfThree places rule truth a b c shape =
    IsExact places shape (a ∷ b ∷ c ∷ []) (λ values. HasTruth truth (RelatesThree rule a b c values))

abbrev pub IsShapeOfMember : List Place → Bool → ℤ → Term → SetShape → Type 0
IsShapeOfMember places truth x a shape =
    IsExact places shape (a ∷ []) (λ values. HasTruth truth (HasMember x a values))
