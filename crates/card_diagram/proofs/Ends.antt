-- How the calls end: the machines that are made, and the diagram that is built.
use Rattle.std.proofs.Common.{◌≡◌, ◌↔◌, ◌&&◌, ℕ, ◌<◌, ◌≤◌, ◌^◌, true, false, ℤ, ◌+ℤ◌, unsigned_abs, List, length, get_or, map, Contains, Result, Ok, Err, None, refl, sym, ap, ◌∙◌, subst}
use Rattle.std.specs.Prelude.{IfOk}
use Rattle.std.specs.List.{All, AllPass, AllZip}
use Rattle.std.proofs.lemmas.List.{length-map, get_or-map}
use Rattle.std.proofs.lemmas.List.Elements.{All-map, Contains-get_or}
use Rattle.diagram_arena.specs.declared.nodes.Ref.{Ref}
use Rattle.diagram_arena.specs.declared.nodes.Stop.{Stop}
use Rattle.diagram_arena.specs.Table.{Word, Words, Table}
use Rattle.diagram_arena.specs.Reach.{Bits}
use Rattle.diagram_ops.specs.Words.{Denotes}
use Rattle.bit_machine.specs.Rules.{Rules, accepts, side_by_side}
use Rattle.set_meaning.specs.declared.kinds.Kind.{Kind}
use Rattle.set_meaning.specs.declared.kinds.Value.{Value}
use Rattle.set_meaning.specs.declared.problems.VarId.{VarId}
use Rattle.set_meaning.specs.declared.problems.Arg.{Arg}
use Rattle.set_meaning.specs.declared.problems.Constraint.{Constraint}
use Rattle.set_meaning.specs.declared.problems.Relation.{Relation}
use Rattle.set_meaning.specs.declared.problems.Relation.TheVariants.{SetCard}
use Rattle.set_meaning.specs.Relations.{Holds, HoldsOf}
use Rattle.set_meaning.specs.Rows.{HasShape, row_of, shapes_of}
use Rattle.bit_layout.specs.Order.{LayoutState, IsLayout}
use Rattle.scope_words.specs.Words.{variables_in, Gives, AreBitsOf, IsBitOf, AreWordsOf, IsDiagramOf}
use Rattle.table_machine.specs.declared.states.State.{State as TableState}
use Rattle.table_machine.specs.Tables.{Tables, AreTables, rules}
use Rattle.table_machine.specs.Values.{GivesInitialValues}
use Rattle.linear_machine.specs.declared.comparison.Comparison.TheVariants.{Equal}
use Rattle.linear_machine.specs.declared.state.State.{State as SumState}
use Rattle.linear_machine.specs.Sums.{Compares, LinearState}
use Rattle.linear_machine.specs.Steps.{rules_of}
use Rattle.linear_terms.specs.declared.terms.LinearTerm.{LinearTerm}
use Rattle.linear_terms.specs.Terms.{AreTermsSmall, HasBitsOf, linear_sum}
use Rattle.card_diagram.specs.Shapes.{is_shape}
use Rattle.card_diagram.specs.Sums.{card_terms, card_constant, IsMachineOf}
use Rattle.card_diagram.proofs.Cards.{FitsCard, variables_of_terms, card_scope, terms_known, terms_small}
use Rattle.card_diagram.proofs.Words.{sum_tells}

-- the law of table_machine on relations beside initial values
abbrev pub RelationsHaveWords : Type 0
RelationsHaveWords = (condition : Constraint) (l : LayoutState) (scope : List VarId) (bits : List ℕ) (initial : Rules TableState) (relation : Rules SumState) → IsLayout l
    → ((w : Word) → (accepts initial bits w ≡ true) ↔ GivesInitialValues l scope w)
    → ((values : List Value) (w : Word) → Gives l scope values w → (accepts relation bits w ≡ true) ↔ Holds condition values)
    → AreWordsOf l scope (Holds condition) (accepts (side_by_side ◌&&◌ initial relation) bits)

-- the constraint without a truth value
plain_card : List Arg → Constraint
plain_card args = record { relation = SetCard; args = args; reif = None }

own_words : RelationsHaveWords → (l : LayoutState) (args : List Arg) (bits : List ℕ) (initial : Rules TableState) (relation : Rules SumState) → IsLayout l
    → ((w : Word) → (accepts initial bits w ≡ true) ↔ GivesInitialValues l (variables_in args) w)
    → ((values : List Value) (w : Word) → Gives l (variables_in args) values w → (accepts relation bits w ≡ true) ↔ HoldsOf SetCard args values)
    → AreWordsOf l (variables_in args) (HoldsOf SetCard args) (accepts (side_by_side ◌&&◌ initial relation) bits)
unfolding Holds plain_card
own_words law l args bits initial relation ok first second =
    let words = law (plain_card args) l (variables_in args) bits initial relation ok first second in
    record { sound = words.sound; whole = words.whole }

pub scope_is : (kinds : List Kind) (args : List Arg) (terms : List LinearTerm) (scope slice : List VarId) → FitsCard kinds args → terms ≡ card_terms args → scope ≡ map (λ t. t.variable) terms → slice ≡ scope → slice ≡ variables_in args
scope_is kinds args terms scope slice fits e f g = g ∙ f ∙ ap variables_of_terms e ∙ card_scope kinds args fits

pub scope_known : (kinds : List Kind) (args : List Arg) → FitsCard kinds args → All (λ (v : VarId). v.0 < length kinds) (variables_in args)
scope_known kinds args fits =
    let P : VarId → Type 0 = λ v. v.0 < length kinds in
    subst (All P) (card_scope kinds args fits) (All-map P (λ (t : LinearTerm). t.variable) (card_terms args) (terms_known kinds args fits))

pub machine_made : RelationsHaveWords → (l : LayoutState) (args : List Arg) (terms lent : List LinearTerm) (constant : ℤ) (scope slice : List VarId) (bits first second : List ℕ) (initial : Tables) (sum : LinearState) → IsLayout l → FitsCard l.kinds args
    → terms ≡ card_terms args → constant ≡ card_constant args → scope ≡ map (λ t. t.variable) terms → slice ≡ scope → AreBitsOf l slice bits → first ≡ bits → second ≡ bits → lent ≡ terms
    → AreTables initial → length initial.readings ≡ length first
    → ((scope : List VarId) (w : Word) → AreBitsOf l scope first → All (λ v. v.0 < length l.kinds) scope → (accepts (rules initial) first w ≡ true) ↔ GivesInitialValues l scope w)
    → length sum.weights ≡ length second
    → ((values : List Value) (w : Word) → Gives l (map (λ t. t.variable) lent) values w → (accepts (rules_of sum) second w ≡ true) ↔ Compares Equal (constant +ℤ linear_sum lent values))
    → IsMachineOf l args bits initial sum
machine_made law l args terms lent constant scope slice bits first second initial sum ok fits e f g h of_slice i j k tables long reads wide sums =
    let are : AreBitsOf l (variables_in args) bits = subst (λ vs. AreBitsOf l vs bits) (scope_is l.kinds args terms scope slice fits e g h) of_slice in
    let starts : (w : Word) → (accepts (rules initial) bits w ≡ true) ↔ GivesInitialValues l (variables_in args) w
    = λ w. subst (λ bs. (accepts (rules initial) bs w ≡ true) ↔ GivesInitialValues l (variables_in args) w) i (reads (variables_in args) w (subst (AreBitsOf l (variables_in args)) (sym i) are) (scope_known l.kinds args fits)) in
    let own : (values : List Value) (w : Word) → Gives l (variables_of_terms (card_terms args)) values w → (accepts (rules_of sum) bits w ≡ true) ↔ Compares Equal (card_constant args +ℤ linear_sum (card_terms args) values)
    = λ values w. subst (λ ts. Gives l (variables_of_terms ts) values w → (accepts (rules_of sum) bits w ≡ true) ↔ Compares Equal (card_constant args +ℤ linear_sum ts values)) (k ∙ e)
    (subst (λ x. Gives l (variables_of_terms lent) values w → (accepts (rules_of sum) bits w ≡ true) ↔ Compares Equal (x +ℤ linear_sum lent values)) f
    (subst (λ bs. Gives l (variables_of_terms lent) values w → (accepts (rules_of sum) bs w ≡ true) ↔ Compares Equal (constant +ℤ linear_sum lent values)) j (sums values w))) in
    record {
      bits_are = are;
      tables = tables;
      readings_long = long ∙ ap length i;
      weights_long = wide ∙ ap length j;
      words = own_words law l args bits (rules initial) (rules_of sum) ok starts (λ values w given. sum_tells l args values w (accepts (rules_of sum) bits w ≡ true) fits given (own values w));
    }

-- ---- the diagram

diagram_of : (l : LayoutState) (scope : List VarId) (C : List Value → Type 0) (t : Table) (V : Words) (r : Ref) → AreWordsOf l scope C V → Denotes t V r → IsDiagramOf l scope C t r
diagram_of l scope C t V r words is = record {
  live = is.live;
  words = record {
    sound = λ w h. words.sound w (sym (is.words w) ∙ h);
    whole = λ w values given h. is.words w ∙ words.whole w values given h;
  };
}

pub diagram_made : (l : LayoutState) (scope : List VarId) (C : List Value → Type 0) (t : Table) (V : Words) (result : Result Ref Stop) → AreWordsOf l scope C V → IfOk result (Denotes t V) → IfOk result (IsDiagramOf l scope C t)
diagram_made l scope C t V (Ok r) words h = diagram_of l scope C t V r words h
diagram_made l scope C t V (Err e) words h = tt

pub bits_pass : (l : LayoutState) (scope : List VarId) (bits : List ℕ) (set : Bits) → AreBitsOf l scope bits → ((b : ℕ) → IsBitOf l scope b → set b ≡ true) → AllPass set bits
bits_pass l scope bits set are all i d within = all (get_or bits i d) ((are.members (get_or bits i d)).0 (Contains-get_or bits i d within))

-- ---- what the machine of the sum asks

pub lent_known : (kinds : List Kind) (args : List Arg) (terms lent : List LinearTerm) → FitsCard kinds args → terms ≡ card_terms args → lent ≡ terms → All (λ (t : LinearTerm). t.variable.0 < length kinds) lent
lent_known kinds args terms lent fits e f = subst (All (λ (t : LinearTerm). t.variable.0 < length kinds)) (sym (f ∙ e)) (terms_known kinds args fits)

pub lent_small : (kinds : List Kind) (args : List Arg) (terms lent : List LinearTerm) (constant : ℤ) → FitsCard kinds args → terms ≡ card_terms args → lent ≡ terms → unsigned_abs constant ≤ 2 ^ 100 → AreTermsSmall lent constant
lent_small kinds args terms lent constant fits e f size = subst (λ ts. AreTermsSmall ts constant) (sym (f ∙ e)) (terms_small kinds args constant fits size)

terms_in_scope : (terms : List LinearTerm) → All (λ (t : LinearTerm). Contains (variables_of_terms terms) t.variable) terms
terms_in_scope terms k d within =
    let long : k < length (variables_of_terms terms) = subst (λ n. k < n) (sym (length-map terms (λ (u : LinearTerm). u.variable))) within in
    let other = (get_or terms k d).variable in
    (k, long, get_or-map (λ (u : LinearTerm). u.variable) terms k d other within)

-- the law of linear_terms on the bits of a scope
abbrev pub ScopesHaveBits : Type 0
ScopesHaveBits = (l : LayoutState) (scope : List VarId) (bits : List ℕ) (terms : List LinearTerm) → IsLayout l → AreBitsOf l scope bits → All (λ t. Contains scope t.variable) terms → All (λ t. HasBitsOf l bits t.variable) terms

pub lent_listed : ScopesHaveBits → (l : LayoutState) (terms lent : List LinearTerm) (scope slice : List VarId) (bits first : List ℕ) → IsLayout l → scope ≡ map (λ t. t.variable) terms → slice ≡ scope → AreBitsOf l slice bits → first ≡ bits → lent ≡ terms
    → All (λ t. HasBitsOf l first t.variable) lent
lent_listed law l terms lent scope slice bits first ok e f are g h =
    let own : slice ≡ map (λ t. t.variable) lent = f ∙ e ∙ ap variables_of_terms (sym h) in
    law l slice first lent ok (subst (AreBitsOf l slice) (sym g) are) (subst (λ vs. All (λ (t : LinearTerm). Contains vs t.variable) lent) (sym own) (terms_in_scope lent))

-- ---- the constraint

only_card : (relation : Relation) → is_shape relation ≡ true → relation ≡ SetCard
only_card SetCard h = refl
only_card relation h = absurd (let e : false ≡ true = h in cc)

-- what is built for a constraint
pub record IsBuiltFor (l : LayoutState) (relation : Relation) (args : List Arg) (bits : List ℕ) (V : Words) : Type 0 where
  pub bits_are : AreBitsOf l (variables_in args) bits
  pub words : AreWordsOf l (variables_in args) (HoldsOf relation args) V

pub card_built : (l : LayoutState) (relation : Relation) (args lent : List Arg) (bits first : List ℕ) (initial : Tables) (sum : LinearState) → is_shape relation ≡ true → lent ≡ args → first ≡ bits → IsMachineOf l lent bits initial sum
    → IsBuiltFor l relation args first (accepts (side_by_side ◌&&◌ (rules initial) (rules_of sum)) first)
card_built l relation args lent bits first initial sum shape e f made =
    let V : List ℕ → Words = λ bs. accepts (side_by_side ◌&&◌ (rules initial) (rules_of sum)) bs in
    let own : IsBuiltFor l SetCard lent bits (V bits) = record { bits_are = made.bits_are; words = made.words } in
    subst (λ r. IsBuiltFor l r args first (V first)) (sym (only_card relation shape)) (subst (λ xs. IsBuiltFor l SetCard xs first (V first)) e (subst (λ bs. IsBuiltFor l SetCard lent bs (V bs)) (sym f) own))

abbrev pub CardinalitiesHaveWords : Type 0
CardinalitiesHaveWords = (l : LayoutState) (args : List Arg) → IsLayout l → FitsCard l.kinds args → (set : Words) × AreWordsOf l (variables_in args) (HoldsOf SetCard args) set

pub card_there : CardinalitiesHaveWords → (l : LayoutState) (kinds : List Kind) (relation : Relation) (args : List Arg) → IsLayout l → l.kinds ≡ kinds → is_shape relation ≡ true → AllZip (HasShape kinds) (shapes_of (row_of relation)) args
    → (set : Words) × AreWordsOf l (variables_in args) (HoldsOf relation args) set
card_there law l kinds relation args ok same shape fits =
    let is = only_card relation shape in
    let own : FitsCard l.kinds args = subst (λ ks. FitsCard ks args) (sym same) (subst (λ r. AllZip (HasShape kinds) (shapes_of (row_of r)) args) is fits) in
    subst (λ r. (set : Words) × AreWordsOf l (variables_in args) (HoldsOf r args) set) (sym is) (law l args ok own)
