-- How the calls end: the table that is made, and the diagram that is built over it.
use Rattle.std.proofs.Common.{◌≡◌, ℕ, ◌<◌, ◌≤◌, true, ℤ, List, length, get_or, map, Result, Ok, Err, sym, ap, ◌∙◌, subst, arith}
use Rattle.std.specs.Prelude.{IfOk, IsSomeAnd}
use Rattle.std.specs.List.{All, AllZip, AllPass}
use Rattle.std.proofs.lemmas.List.Elements.{Contains-get_or}
use Rattle.diagram_arena.specs.declared.nodes.Ref.{Ref}
use Rattle.diagram_arena.specs.declared.nodes.Stop.{Stop}
use Rattle.diagram_arena.specs.Table.{Words, Table}
use Rattle.diagram_arena.specs.Reach.{Bits}
use Rattle.node_reclaim.specs.Growth.{NewArePartsOf}
use Rattle.diagram_ops.specs.Words.{Denotes}
use Rattle.bit_machine.specs.Rules.{accepts, most_bits}
use Rattle.set_meaning.specs.declared.kinds.Kind.{Kind}
use Rattle.set_meaning.specs.declared.kinds.Value.{Value}
use Rattle.set_meaning.specs.declared.problems.VarId.{VarId}
use Rattle.set_meaning.specs.declared.problems.Arg.{Arg}
use Rattle.set_meaning.specs.declared.problems.Relation.{Relation}
use Rattle.set_meaning.specs.Rows.{HasShape, row_of, shapes_of}
use Rattle.set_meaning.specs.Relations.{HoldsOf}
use Rattle.set_meaning.specs.Sets.{Has, IsSetOf}
use Rattle.bit_layout.specs.declared.places.Place.{Place}
use Rattle.bit_layout.specs.Order.{LayoutState, IsLayout}
use Rattle.scope_words.specs.Words.{variables_in, AreBitsOf, IsBitOf, AreWordsOf, IsDiagramOf}
use Rattle.scope_words.specs.Places.{ArePlacesOf}
use Rattle.scope_words.proofs.Bits.{bits_once}
use Rattle.element_machine.specs.declared.marks.Marks.{Marks}
use Rattle.element_machine.specs.declared.marks.Entry.{Entry}
use Rattle.element_machine.specs.Rules.{ElementRules}
use Rattle.element_machine.specs.Reading.{AreGrouped, by_elements}
use Rattle.set_shapes.specs.declared.operands.Operands.{Operands}
use Rattle.set_shapes.specs.Operands.{operands_of, variables_of, constant_marks}
use Rattle.set_shapes.specs.Tables.{AreSets, IsTable, entries_of, all_elements}
use Rattle.set_shapes.specs.Shapes.{is_between_sets, machine_of, accepted_by}
use Rattle.set_shapes.specs.declared.machines.SetMachine.{SetMachine}
use Rattle.set_shapes.proofs.Scopes.{listed_elements, places_listed, scope_known}
use Rattle.set_shapes.proofs.Accepting.{table_grouped}
use Rattle.set_shapes.proofs.Fitting.{IsFit, fits}
use Rattle.set_shapes.proofs.Existing.{table_there}

-- ---- the table

pub listed_for : (l : LayoutState) (kinds : List Kind) (o : Operands) (elements given : List ℤ) (variables slice : List VarId) (bits bits' : List ℕ) (ps ps' : List Place) → IsLayout l → l.kinds ≡ kinds → AreSets kinds o
    → IsSetOf (all_elements kinds o) elements → given ≡ elements → slice ≡ variables → variables ≡ variables_of o → AreBitsOf l slice bits → bits' ≡ bits → ArePlacesOf l bits' ps → ps' ≡ ps → All (λ p. IsSomeAnd p.element (Has given)) ps'
listed_for l kinds o elements given variables slice bits bits' ps ps' ok same sets are e f g of_scope h stand k =
    let own : AreSets l.kinds o = subst (λ ks. AreSets ks o) (sym same) sets in
    let all : IsSetOf (all_elements l.kinds o) given = subst (λ ks. IsSetOf (all_elements ks o) given) (sym same) (subst (IsSetOf (all_elements kinds o)) (sym e) are) in
    let scope : AreBitsOf l (variables_of o) bits = subst (λ vs. AreBitsOf l vs bits) (f ∙ g) of_scope in
    let places : ArePlacesOf l bits ps = subst (λ bs. ArePlacesOf l bs ps) h stand in
    subst (λ qs. All (λ p. IsSomeAnd p.element (Has given)) qs) (sym k) (places_listed l given bits ps (listed_elements l o given bits ok own all scope) places)

pub table_made : (l : LayoutState) (kinds : List Kind) (o : Operands) (elements first second : List ℤ) (variables slice : List VarId) (bits bits' : List ℕ) (ps ps' : List Place) (constants : List Marks) (entries : List Entry)
    → l.kinds ≡ kinds → IsSetOf (all_elements kinds o) elements → first ≡ elements → second ≡ elements → slice ≡ variables → variables ≡ variables_of o → AreBitsOf l slice bits → bits' ≡ bits → ArePlacesOf l bits' ps → ps' ≡ ps
    → constants ≡ map (constant_marks o) first → entries ≡ entries_of o second ps' → IsTable l o bits constants entries
table_made l kinds o elements first second variables slice bits bits' ps ps' constants entries same are e f g h of_scope i stand j c d = record {
  elements = elements;
  places = ps;
  are_bits = subst (λ vs. AreBitsOf l vs bits) (g ∙ h) of_scope;
  are_places = subst (λ bs. ArePlacesOf l bs ps) i stand;
  are_elements = subst (λ ks. IsSetOf (all_elements ks o) elements) (sym same) are;
  are_constants = c ∙ ap (map (constant_marks o)) e;
  are_entries = d ∙ (λ k. entries_of o (f k) (j k));
}

-- ---- the arguments

own_shapes : (l : LayoutState) (kinds : List Kind) (relation : Relation) (args : List Arg) → l.kinds ≡ kinds → AllZip (HasShape kinds) (shapes_of (row_of relation)) args → AllZip (HasShape l.kinds) (shapes_of (row_of relation)) args
own_shapes l kinds relation args same zip = subst (λ ks. AllZip (HasShape ks) (shapes_of (row_of relation)) args) (sym same) zip

pub sets_for : (l : LayoutState) (kinds kinds' : List Kind) (relation : Relation) (args args' : List Arg) → IsLayout l → l.kinds ≡ kinds → kinds' ≡ kinds → args' ≡ args → is_between_sets relation ≡ true
    → AllZip (HasShape kinds) (shapes_of (row_of relation)) args → AreSets kinds' (operands_of args')
sets_for l kinds kinds' relation args args' ok same e f shape zip =
    let own : AreSets l.kinds (operands_of args) = (fits l relation args ok shape (own_shapes l kinds relation args same zip)).sets in
    subst (λ ks. AreSets ks (operands_of args')) (same ∙ sym e) (subst (λ xs. AreSets l.kinds (operands_of xs)) (sym f) own)

-- ---- the diagram

-- what the table of a constraint accepts
pub record IsShapeTable (l : LayoutState) (relation : Relation) (args : List Arg) (bits : List ℕ) (V : Words) : Type 0 where
  pub bits_are : AreBitsOf l (variables_in args) bits
  pub words : AreWordsOf l (variables_in args) (HoldsOf relation args) V

own_table : (l : LayoutState) (relation : Relation) (args : List Arg) (bits : List ℕ) (constants : List Marks) (entries : List Entry) → IsFit l relation args → IsTable l (operands_of args) bits constants entries
    → IsShapeTable l relation args bits (accepted_by (machine_of relation) constants entries bits)
own_table l relation args bits constants entries fit table = record {
  bits_are = subst (λ vs. AreBitsOf l vs bits) fit.scope table.are_bits;
  words = subst (λ vs. AreWordsOf l vs (HoldsOf relation args) (accepted_by (machine_of relation) constants entries bits)) fit.scope (fit.words bits constants entries table);
}

pub shape_table : (l : LayoutState) (kinds : List Kind) (relation : Relation) (args args' : List Arg) (machine : SetMachine) (bits : List ℕ) (constants : List Marks) (entries : List Entry) → IsLayout l → l.kinds ≡ kinds → args' ≡ args
    → machine ≡ machine_of relation → is_between_sets relation ≡ true → AllZip (HasShape kinds) (shapes_of (row_of relation)) args → IsTable l (operands_of args') bits constants entries
    → IsShapeTable l relation args bits (accepted_by machine constants entries bits)
shape_table l kinds relation args args' machine bits constants entries ok same f is shape zip table =
    subst (λ m. IsShapeTable l relation args bits (accepted_by m constants entries bits)) (sym is)
    (own_table l relation args bits constants entries (fits l relation args ok shape (own_shapes l kinds relation args same zip)) (subst (λ xs. IsTable l (operands_of xs) bits constants entries) f table))

pub grouped_for : (l : LayoutState) (kinds : List Kind) (relation : Relation) (args args' : List Arg) (bits : List ℕ) (constants : List Marks) (entries : List Entry) → IsLayout l → l.kinds ≡ kinds → args' ≡ args
    → is_between_sets relation ≡ true → AllZip (HasShape kinds) (shapes_of (row_of relation)) args → IsTable l (operands_of args') bits constants entries → AreGrouped (length constants) entries
grouped_for l kinds relation args args' bits constants entries ok same f shape zip table =
    let fit = fits l relation args ok shape (own_shapes l kinds relation args same zip) in
    table_grouped l (operands_of args) bits constants entries ok fit.sets (subst (λ xs. IsTable l (operands_of xs) bits constants entries) f table)

-- there is such a set, whether or not its table could be made
pub shape_there : (l : LayoutState) (kinds : List Kind) (relation : Relation) (args : List Arg) → IsLayout l → l.kinds ≡ kinds → is_between_sets relation ≡ true → AllZip (HasShape kinds) (shapes_of (row_of relation)) args
    → (V : Words) × AreWordsOf l (variables_in args) (HoldsOf relation args) V
shape_there l kinds relation args ok same shape zip =
    let fit = fits l relation args ok shape (own_shapes l kinds relation args same zip) in
    let t = table_there l (operands_of args) in
    let own = own_table l relation args t.0 t.1 t.2 fit t.3 in
    (accepted_by (machine_of relation) t.1 t.2 t.0, own.words)

diagram_of : (l : LayoutState) (scope : List VarId) (C : List Value → Type 0) (t : Table) (V : Words) (r : Ref) → AreWordsOf l scope C V → Denotes t V r → IsDiagramOf l scope C t r
diagram_of l scope C t V r words is = record {
  live = is.live;
  words = record {
    sound = λ w h. words.sound w (sym (is.words w) ∙ h);
    whole = λ w values given h. is.words w ∙ words.whole w values given h;
  };
}

pub diagram_made : (l : LayoutState) (relation : Relation) (args : List Arg) (bits : List ℕ) (t : Table) (V : Words) (result : Result Ref Stop) → IsShapeTable l relation args bits V → IfOk result (Denotes t V)
    → IfOk result (IsDiagramOf l (variables_in args) (HoldsOf relation args) t)
diagram_made l relation args bits t V (Ok r) is h = diagram_of l (variables_in args) (HoldsOf relation args) t V r is.words h
diagram_made l relation args bits t V (Err e) is h = tt

pub bits_pass : (l : LayoutState) (relation : Relation) (args : List Arg) (bits : List ℕ) (V : Words) (set : Bits) → IsShapeTable l relation args bits V → ((b : ℕ) → IsBitOf l (variables_in args) b → set b ≡ true) → AllPass set bits
bits_pass l relation args bits V set is all i d within = all (get_or bits i d) ((is.bits_are.members (get_or bits i d)).0 (Contains-get_or bits i d within))

-- ---- the same lists, lent

pub parts_lent : {Q : Type 0} (old new : Table) (rules : ElementRules Q) (c c' : List Marks) (e e' : List Entry) (b b' : List ℕ) → c ≡ c' → e ≡ e' → b ≡ b' → NewArePartsOf old new (accepts (by_elements rules c e) b) → NewArePartsOf old new (accepts (by_elements rules c' e') b')
parts_lent old new rules c c' e e' b b' p q r h =
    let P : Words → Type 0 = λ V. NewArePartsOf old new V in
    subst P (λ i. accepts (by_elements rules (p i) (q i)) (r i)) h
