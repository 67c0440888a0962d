-- How the calls for the element relation end.
use Rattle.std.proofs.Common.{◌≡◌, ◌↔◌, ℕ, ◌<◌, ◌≤◌, ◌&&◌, min, Bool, true, false, List, [], ◌∷◌, length, get_or, Option, Some, None, Result, Ok, Err, refl, sym, ap, ◌∙◌, subst, arith, Contains}
use Rattle.std.specs.Prelude.{IfOk, IfSome, Any}
use Rattle.std.specs.List.{All, AllZip, AllPass}
use Rattle.std.proofs.lemmas.List.Elements.{All-weaker, Contains-get_or}
use Rattle.diagram_arena.specs.declared.nodes.Ref.{Ref}
use Rattle.diagram_arena.specs.declared.nodes.Stop.{Stop}
use Rattle.diagram_arena.specs.Table.{Word, Words, Table}
use Rattle.diagram_arena.specs.Reach.{Bits}
use Rattle.diagram_ops.specs.Words.{Denotes}
use Rattle.bit_machine.specs.Rules.{accepts, side_by_side}
use Rattle.set_meaning.specs.declared.kinds.Kind.{Kind}
use Rattle.set_meaning.specs.declared.kinds.Value.{Value}
use Rattle.set_meaning.specs.declared.problems.VarId.{VarId}
use Rattle.set_meaning.specs.declared.problems.Term.{Term}
use Rattle.set_meaning.specs.declared.problems.Arg.{Arg}
use Rattle.set_meaning.specs.declared.problems.Arg.TheVariants.{One, Many}
use Rattle.set_meaning.specs.declared.problems.Relation.{Relation}
use Rattle.set_meaning.specs.declared.problems.Relation.TheVariants.{ArraySetElement}
use Rattle.set_meaning.specs.declared.rows.Sort.TheVariants.{Integer, IntegerSet}
use Rattle.set_meaning.specs.Rows.{HasSort, HasShape, row_of, shapes_of}
use Rattle.set_meaning.specs.Relations.{HoldsOf}
use Rattle.bit_layout.specs.Order.{LayoutState, IsLayout}
use Rattle.scope_words.specs.Words.{variables_in, AreBitsOf, IsBitOf, AreWordsOf, IsDiagramOf}
use Rattle.table_machine.specs.Tables.{Tables, AreTables, rules}
use Rattle.table_machine.specs.Values.{GivesInitialValues}
use Rattle.choice_machine.specs.Choices.{ChoiceState}
use Rattle.choice_machine.specs.Choices as choice
use Rattle.element_machine.specs.Reading.{AreGrouped}
use Rattle.set_shapes.specs.Shapes.{is_element}
use Rattle.set_shapes.specs.Elements.{AreBitsWith, Branch, IsBranchOver, Accepted, ArePlaceItemsAndSet, IsMachineOf}
use Rattle.set_shapes.proofs.KnownVariables.{scope_known}
use Rattle.set_shapes.proofs.AllBranches.{RelationsHaveWords, TellSome, the_args, args_mine, element_words}

-- ---- the arguments of the element relation

abbrev pub FitsElement : List Kind → List Arg → Type 0
FitsElement kinds args = AllZip (HasShape kinds) (shapes_of (row_of ArraySetElement)) args

pub element_fits : (kinds : List Kind) (args : List Arg) → FitsElement kinds args → ArePlaceItemsAndSet args
element_fits kinds [] h = absurd h
element_fits kinds (a ∷ []) h = absurd h.1
element_fits kinds (a ∷ b ∷ []) h = absurd h.1.1
element_fits kinds (One a ∷ Many b ∷ One c ∷ []) h = (tt, tt, tt)
element_fits kinds (One a ∷ Many b ∷ Many c ∷ []) h = absurd h.1.1.0
element_fits kinds (One a ∷ One b ∷ c ∷ []) h = absurd h.1.0
element_fits kinds (Many a ∷ b ∷ c ∷ []) h = absurd h.0
element_fits kinds (a ∷ b ∷ c ∷ d ∷ args) h = absurd h.1.1.1

pub element_sorts : (kinds : List Kind) (args : List Arg) (index set : Term) (items : List Term) → args ≡ the_args index items set → FitsElement kinds args
    → HasSort kinds Integer index × All (HasSort kinds IntegerSet) items × HasSort kinds IntegerSet set
element_sorts kinds args index set items e h = let own : FitsElement kinds (the_args index items set) = subst (FitsElement kinds) e h in (own.0, own.1.0, own.1.1.0)

pub element_scope : (kinds : List Kind) (args : List Arg) → FitsElement kinds args → All (λ (v : VarId). v.0 < length kinds) (variables_in args)
element_scope kinds args h = scope_known kinds (shapes_of (row_of ArraySetElement)) args h

pub element_bits : (l : LayoutState) (args : List Arg) (index set : Term) (items : List Term) (bits : List ℕ) → args ≡ the_args index items set → AreBitsOf l (variables_in args) bits → (scope : List VarId) × AreBitsWith l scope bits (index ∷ set ∷ items)
element_bits l args index set items bits e are = (variables_in (the_args index items set), (subst (λ xs. AreBitsOf l (variables_in xs) bits) e are, args_mine index set items))

-- ---- what the choice asks

pub branches_long : (n : ℕ) (ms lent : List Branch) → lent ≡ ms → All (IsBranchOver n) ms → All (λ (m : Branch). n ≤ min (length m.first.weights) (length m.second.places.items)) lent
branches_long n ms lent e over =
    let P : Branch → Type 0 = λ m. n ≤ min (length m.first.weights) (length m.second.places.items) in
    subst (All P) (sym e) (All-weaker (IsBranchOver n) P (λ m h. least n (length m.first.weights) (length m.second.places.items) h.0 h.1.long) ms over)
  where
    least : (n a b : ℕ) → a ≡ n → b ≡ n → n ≤ min a b
    least n a b e f = grind (arith, e, f)

abbrev IsReadable : Branch → Type 0
IsReadable m = Unit {0} × (AreGrouped (length m.second.table.constants.items) m.second.table.entries.items × All (λ (p : Option ℕ). IfSome p (λ place. place < length m.second.table.entries.items)) m.second.places.items)

pub branches_valid : (n : ℕ) (ms lent : List Branch) → lent ≡ ms → All (IsBranchOver n) ms → All IsReadable lent
branches_valid n ms lent e over = subst (All IsReadable) (sym e) (All-weaker (IsBranchOver n) IsReadable (λ m h. (tt, (h.1.grouped, h.1.below))) ms over)

-- ---- the machine

abbrev pub ReadsInitial : LayoutState → List ℕ → Tables → Type 0
ReadsInitial l bits initial = (scope : List VarId) (w : Word) → AreBitsOf l scope bits → All (λ (v : VarId). v.0 < length l.kinds) scope → (accepts (rules initial) bits w ≡ true) ↔ GivesInitialValues l scope w

pub element_made : RelationsHaveWords → (l : LayoutState) (kinds : List Kind) (args : List Arg) (index set : Term) (items : List Term) (bits : List ℕ) (initial : Tables) (ms lent : List Branch) (own : ChoiceState) → IsLayout l → l.kinds ≡ kinds
    → args ≡ the_args index items set → FitsElement kinds args → AreBitsOf l (variables_in args) bits → AreTables initial → length initial.readings ≡ length bits → ReadsInitial l bits initial
    → TellSome l bits index set items (length items) ms → lent ≡ ms → own.places ≡ length bits
    → ((w : Word) → (accepts (choice.rules_of own) bits w ≡ true) ↔ Any (Accepted bits w) lent)
    → IsMachineOf l args bits initial own
element_made law l kinds args index set items bits initial ms lent own ok same e fits are tables long reads tells f places chosen =
    let fitted : FitsElement l.kinds args = subst (λ ks. FitsElement ks args) (sym same) fits in
    let sorts = element_sorts l.kinds args index set items e fitted in
    let of_args = the_args index items set in
    let bits_are : AreBitsOf l (variables_in of_args) bits = subst (λ xs. AreBitsOf l (variables_in xs) bits) e are in
    let known : All (λ (v : VarId). v.0 < length l.kinds) (variables_in of_args) = subst (λ xs. All (λ (v : VarId). v.0 < length l.kinds) (variables_in xs)) e (element_scope l.kinds args fitted) in
    let made : IsMachineOf l of_args bits initial own = record {
      bits_are = bits_are;
      tables = tables;
      readings_long = long;
      places_long = places;
      words = element_words law l index set items bits initial ms lent own ok sorts.0 sorts.1 sorts.2 bits_are (λ w. reads (variables_in of_args) w bits_are known) tells f chosen;
    } in
    subst (λ xs. IsMachineOf l xs bits initial own) (sym e) made

pub element_lent : (l : LayoutState) (args : List Arg) (bits slice : List ℕ) (initial : Tables) (own : ChoiceState) → slice ≡ bits → IsMachineOf l args slice initial own → IsMachineOf l args bits initial own
element_lent l args bits slice initial own e made = subst (λ bs. IsMachineOf l args bs initial own) e made

-- ---- the constraint

only_element : (relation : Relation) → is_element relation ≡ true → relation ≡ ArraySetElement
only_element ArraySetElement h = refl
only_element relation h = absurd (let e : false ≡ true = h in cc)

pub element_fitted : (kinds given : List Kind) (relation : Relation) (args lent : List Arg) → given ≡ kinds → lent ≡ args → is_element relation ≡ true → AllZip (HasShape kinds) (shapes_of (row_of relation)) args → FitsElement given lent
element_fitted kinds given relation args lent e f shape fits =
    subst (λ ks. FitsElement ks lent) (sym e) (subst (FitsElement kinds) (sym f) (subst (λ r. AllZip (HasShape kinds) (shapes_of (row_of r)) args) (only_element relation shape) fits))

-- what is built for a constraint
pub record IsBuiltFor (l : LayoutState) (relation : Relation) (args : List Arg) (bits : List ℕ) (V : Words) : Type 0 where
  pub bits_are : AreBitsOf l (variables_in args) bits
  pub words : AreWordsOf l (variables_in args) (HoldsOf relation args) V

pub element_built : (l : LayoutState) (relation : Relation) (args lent : List Arg) (bits first : List ℕ) (initial : Tables) (own : ChoiceState) → is_element relation ≡ true → lent ≡ args → first ≡ bits → IsMachineOf l lent bits initial own
    → IsBuiltFor l relation args first (accepts (side_by_side ◌&&◌ (rules initial) (choice.rules_of own)) first)
element_built l relation args lent bits first initial own shape e f made =
    let V : List ℕ → Words = λ bs. accepts (side_by_side ◌&&◌ (rules initial) (choice.rules_of own)) bs in
    let plain : IsBuiltFor l ArraySetElement lent bits (V bits) = record { bits_are = made.bits_are; words = made.words } in
    subst (λ r. IsBuiltFor l r args first (V first)) (sym (only_element relation shape)) (subst (λ xs. IsBuiltFor l ArraySetElement xs first (V first)) e (subst (λ bs. IsBuiltFor l ArraySetElement lent bs (V bs)) (sym f) plain))

abbrev pub ElementsHaveWords : Type 0
ElementsHaveWords = (l : LayoutState) (args : List Arg) → IsLayout l → (set : Words) × AreWordsOf l (variables_in args) (HoldsOf ArraySetElement args) set

pub element_there : ElementsHaveWords → (l : LayoutState) (relation : Relation) (args : List Arg) → IsLayout l → is_element relation ≡ true → (set : Words) × AreWordsOf l (variables_in args) (HoldsOf relation args) set
element_there law l relation args ok shape = subst (λ r. (set : Words) × AreWordsOf l (variables_in args) (HoldsOf r args) set) (sym (only_element relation shape)) (law l args ok)

-- ---- the diagram

diagram_of : (l : LayoutState) (scope : List VarId) (C : List Value → Type 0) (t : Table) (V : Words) (r : Ref) → AreWordsOf l scope C V → Denotes t V r → IsDiagramOf l scope C t r
diagram_of l scope C t V r words is = record {
  live = is.live;
  words = record {
    sound = λ w h. words.sound w (sym (is.words w) ∙ h);
    whole = λ w values given h. is.words w ∙ words.whole w values given h;
  };
}

pub element_diagram : (l : LayoutState) (scope : List VarId) (C : List Value → Type 0) (t : Table) (V : Words) (result : Result Ref Stop) → AreWordsOf l scope C V → IfOk result (Denotes t V) → IfOk result (IsDiagramOf l scope C t)
element_diagram l scope C t V (Ok r) words h = diagram_of l scope C t V r words h
element_diagram l scope C t V (Err e) words h = tt

pub element_bits_pass : (l : LayoutState) (scope : List VarId) (bits : List ℕ) (set : Bits) → AreBitsOf l scope bits → ((b : ℕ) → IsBitOf l scope b → set b ≡ true) → AllPass set bits
element_bits_pass l scope bits set are all i d within = all (get_or bits i d) ((are.members (get_or bits i d)).0 (Contains-get_or bits i d within))

pub both_long : (a b c n : ℕ) → a ≡ n → b ≡ n → n ≤ min a b
both_long a b c n e f = grind (arith, e, f)
