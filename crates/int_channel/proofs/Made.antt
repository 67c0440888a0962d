-- The machines of a relation.
use Rattle.std.proofs.Common.{◌≡◌, ◌↔◌, ◌&&◌, ℕ, ◌<◌, ◌≤◌, min, Bool, true, false, List, [], ◌∷◌, ◌++◌, length, Contains, Option, Some, None, refl, sym, ap, ◌∙◌, subst, inl, inr, arith}
use Rattle.std.specs.Prelude.{Any}
use Rattle.std.specs.List.{All, AllZip}
use Rattle.std.proofs.lemmas.Bool.{and_parts}
use Rattle.std.proofs.lemmas.List.Elements.{All-cons, All-head, All-tail, All-nil, Contains-append_left, Contains-append_right}
use Rattle.diagram_arena.specs.Table.{Word}
use Rattle.bit_machine.specs.declared.combined.Both.{Both}
use Rattle.bit_machine.specs.Rules.{Rules, accepts, side_by_side}
use Rattle.set_meaning.specs.declared.kinds.Value.{Value}
use Rattle.set_meaning.specs.declared.problems.VarId.{VarId}
use Rattle.set_meaning.specs.declared.problems.Arg.{Arg}
use Rattle.set_meaning.specs.declared.problems.Constraint.{Constraint}
use Rattle.set_meaning.specs.declared.problems.Relation.{Relation}
use Rattle.set_meaning.specs.Relations.{Holds, HoldsOf}
use Rattle.bit_layout.specs.Order.{LayoutState, IsLayout}
use Rattle.bit_layout.proofs.Rising.{in_head, in_tail}
use Rattle.scope_words.specs.Words.{variables_in, Gives, AreBitsOf, AreWordsOf}
use Rattle.table_machine.specs.declared.states.State.{State as TableState}
use Rattle.table_machine.specs.Tables.{Tables, AreTables, rules}
use Rattle.table_machine.specs.Values.{GivesInitialValues}
use Rattle.linear_machine.specs.declared.state.State.{State as SumState}
use Rattle.linear_machine.specs.Sums.{LinearState}
use Rattle.linear_machine.specs.Steps.{rules_of}
use Rattle.int_channel.specs.declared.forms.LinearSum.{LinearSum}
use Rattle.int_channel.specs.declared.forms.Branch.{Branch}
use Rattle.int_channel.specs.Forms.{SumHolds, AtomHolds, BranchHolds, IsBranchOver, HaveValues, IsSumOf, AreBranchesOf}
use Rattle.int_channel.specs.Machines.{IsMachineOfBranch, IsMachineOf, variables_of_atom, variables_of_branch}
use Rattle.int_channel.proofs.Deciding.{any_none, any_here, any_later, any_cases}
use Rattle.int_channel.proofs.Scopes.{gives_terms, gives_branch, have_values}

-- ---- one branch

-- the law of bit_machine on machines side by side
abbrev pub SideBySide : Type 0
SideBySide = (join : Bool → Bool → Bool) (first : Rules SumState) (second : Rules SumState) (bits : List ℕ) (w : Word) → accepts (side_by_side join first second) bits w ≡ join (accepts first bits w) (accepts second bits w)

both_true : (a b : Bool) → a ≡ true → b ≡ true → (a && b) ≡ true
both_true a b p q = ap (λ x. x && b) p ∙ q

pub branch_made : SideBySide → (l : LayoutState) (bits : List ℕ) (b : Branch) (first second : LinearState) → length first.weights ≡ length bits → length second.weights ≡ length bits
    → ((values : List Value) (w : Word) → Gives l (variables_of_atom b.first) values w → (accepts (rules_of first) bits w ≡ true) ↔ AtomHolds values b.first)
    → ((values : List Value) (w : Word) → Gives l (variables_of_atom b.second) values w → (accepts (rules_of second) bits w ≡ true) ↔ AtomHolds values b.second)
    → IsMachineOfBranch l bits b first second
branch_made law l bits b first second long wide one two = record {
  first_long = long;
  second_long = wide;
  accepted = λ values w gives.
      let joined = law ◌&&◌ (rules_of first) (rules_of second) bits w in
      let front = one values w (λ v m. gives v (Contains-append_left (variables_of_atom b.first) (variables_of_atom b.second) v m)) in
      let back = two values w (λ v m. gives v (Contains-append_right (variables_of_atom b.first) (variables_of_atom b.second) v m)) in (
        λ h. let parts = and_parts (accepts (rules_of first) bits w) (accepts (rules_of second) bits w) (sym joined ∙ h) in (front.0 parts.0, back.0 parts.1),
        λ h. joined ∙ both_true (accepts (rules_of first) bits w) (accepts (rules_of second) bits w) (front.1 h.0) (back.1 h.1),
      );
}

-- ---- all branches

abbrev pub Pair : Type 0
Pair = Both LinearState LinearState

abbrev pub AreMachines : LayoutState → List ℕ → List Branch → List Pair → Type 0
AreMachines l bits branches machines = AllZip (λ (b : Branch) (m : Pair). IsMachineOfBranch l bits b m.first m.second) branches machines

abbrev pub Accepted : List ℕ → Word → Pair → Type 0
Accepted bits w m = accepts (side_by_side ◌&&◌ (rules_of m.first) (rules_of m.second)) bits w ≡ true

any_branch : (l : LayoutState) (bits : List ℕ) (branches : List Branch) (machines : List Pair) (values : List Value) (w : Word) → AreMachines l bits branches machines
    → ((b : Branch) → Contains branches b → Gives l (variables_of_branch b) values w) → Any (Accepted bits w) machines ↔ Any (BranchHolds values) branches
any_branch l bits [] [] values w made gives = (λ h. absurd (any_none (Accepted bits w) h), λ h. absurd (any_none (BranchHolds values) h))
any_branch l bits [] (m ∷ machines) values w made gives = absurd made
any_branch l bits (b ∷ branches) [] values w made gives = absurd made
any_branch l bits (b ∷ branches) (m ∷ machines) values w made gives =
    let here = made.0.accepted values w (gives b (in_head b branches)) in
    let rest = any_branch l bits branches machines values w made.1 (λ c h. gives c (in_tail b branches c h)) in (
      λ h. elim (any_cases (Accepted bits w) m machines h) [
        | inl first ↦ any_here (BranchHolds values) b branches (here.0 first)
        | inr later ↦ any_later (BranchHolds values) b branches (rest.0 later)
      ],
      λ h. elim (any_cases (BranchHolds values) b branches h) [
        | inl first ↦ any_here (Accepted bits w) m machines (here.1 first)
        | inr later ↦ any_later (Accepted bits w) m machines (rest.1 later)
      ],
    )

pub pairs_long : (l : LayoutState) (bits : List ℕ) (branches : List Branch) (machines : List Pair) → AreMachines l bits branches machines → All (λ (m : Pair). length bits ≤ min (length m.first.weights) (length m.second.weights)) machines
pairs_long l bits [] [] made = All-nil (λ (m : Pair). length bits ≤ min (length m.first.weights) (length m.second.weights))
pairs_long l bits [] (m ∷ machines) made = absurd made
pairs_long l bits (b ∷ branches) [] made = absurd made
pairs_long l bits (b ∷ branches) (m ∷ machines) made =
    let first = made.0.first_long in
    let second = made.0.second_long in
    All-cons (λ (m : Pair). length bits ≤ min (length m.first.weights) (length m.second.weights)) m machines (grind (arith, first, second)) (pairs_long l bits branches machines made.1)

-- ---- the relation

-- the law of table_machine on relations beside initial values
abbrev pub RelationsHaveWords : Type 0 → Type 0
RelationsHaveWords S = (condition : Constraint) (l : LayoutState) (scope : List VarId) (bits : List ℕ) (initial : Rules TableState) (relation : Rules S) → IsLayout l
    → ((w : Word) → (accepts initial bits w ≡ true) ↔ GivesInitialValues l scope w)
    → ((values : List Value) (w : Word) → Gives l scope values w → (accepts relation bits w ≡ true) ↔ Holds condition values)
    → AreWordsOf l scope (Holds condition) (accepts (side_by_side ◌&&◌ initial relation) bits)

-- the constraint without a truth value
plain : Relation → List Arg → Constraint
plain relation args = record { relation = relation; args = args; reif = None }

own_words : {S : Type 0} → RelationsHaveWords S → (l : LayoutState) (relation : Relation) (args : List Arg) (bits : List ℕ) (initial : Rules TableState) (own : Rules S) → IsLayout l
    → ((w : Word) → (accepts initial bits w ≡ true) ↔ GivesInitialValues l (variables_in args) w)
    → ((values : List Value) (w : Word) → Gives l (variables_in args) values w → (accepts own bits w ≡ true) ↔ HoldsOf relation args values)
    → AreWordsOf l (variables_in args) (HoldsOf relation args) (accepts (side_by_side ◌&&◌ initial own) bits)
unfolding Holds plain
own_words law l relation args bits initial own ok first second =
    let words = law (plain relation args) l (variables_in args) bits initial own ok first second in
    record { sound = words.sound; whole = words.whole }

abbrev pub ReadsInitial : LayoutState → List ℕ → Tables → Type 0
ReadsInitial l bits initial = (scope : List VarId) (w : Word) → AreBitsOf l scope bits → All (λ (v : VarId). v.0 < length l.kinds) scope → (accepts (rules initial) bits w ≡ true) ↔ GivesInitialValues l scope w

machine_made : {S : Type 0} → RelationsHaveWords S → (l : LayoutState) (relation : Relation) (args : List Arg) (bits : List ℕ) (initial : Tables) (own : Rules S) → IsLayout l → AreBitsOf l (variables_in args) bits
    → All (λ (v : VarId). v.0 < length l.kinds) (variables_in args) → AreTables initial → length initial.readings ≡ length bits → ReadsInitial l bits initial
    → ((values : List Value) (w : Word) → Gives l (variables_in args) values w → (accepts own bits w ≡ true) ↔ HoldsOf relation args values)
    → IsMachineOf l relation args bits initial own
machine_made law l relation args bits initial own ok are known tables long reads tells = record {
  bits_are = are;
  tables = tables;
  readings_long = long;
  words = own_words law l relation args bits (rules initial) own ok (λ w. reads (variables_in args) w are known) tells;
}

pub sum_made : RelationsHaveWords SumState → (l : LayoutState) (relation : Relation) (args : List Arg) (bits : List ℕ) (initial : Tables) (sum : LinearSum) (own : LinearState) → IsLayout l → AreBitsOf l (variables_in args) bits
    → All (λ (v : VarId). v.0 < length l.kinds) (variables_in args) → AreTables initial → length initial.readings ≡ length bits → ReadsInitial l bits initial
    → IsSumOf l.kinds relation args sum
    → ((values : List Value) (w : Word) → Gives l (Rattle.std.proofs.Common.map (λ t. t.variable) sum.terms) values w → (accepts (rules_of own) bits w ≡ true) ↔ SumHolds values sum)
    → IsMachineOf l relation args bits initial (rules_of own)
sum_made law l relation args bits initial sum own ok are known tables long reads means tells =
    machine_made law l relation args bits initial (rules_of own) ok are known tables long reads
    (λ values w gives.
    let said = tells values w (gives_terms l (variables_in args) sum.terms values w means.variables gives) in
    let meant = means.meaning values (have_values l (variables_in args) values w gives) in
    (λ h. meant.1 (said.0 h), λ h. said.1 (meant.0 h)))

pub choice_made : RelationsHaveWords ℕ → (l : LayoutState) (relation : Relation) (args : List Arg) (bits : List ℕ) (initial : Tables) (branches : List Branch) (machines : List Pair) (own : Rules ℕ) → IsLayout l
    → AreBitsOf l (variables_in args) bits → All (λ (v : VarId). v.0 < length l.kinds) (variables_in args) → AreTables initial → length initial.readings ≡ length bits → ReadsInitial l bits initial
    → AreBranchesOf l.kinds relation args branches → AreMachines l bits branches machines
    → ((w : Word) → (accepts own bits w ≡ true) ↔ Any (Accepted bits w) machines)
    → IsMachineOf l relation args bits initial own
choice_made law l relation args bits initial branches machines own ok are known tables long reads means made tells =
    machine_made law l relation args bits initial own ok are known tables long reads
    (λ values w gives.
    let said = tells w in
    let each = any_branch l bits branches machines values w made
    (λ b m. gives_branch l l.kinds (variables_in args) b values w (Rattle.std.proofs.lemmas.List.Elements.All-contains (IsBranchOver l.kinds (variables_in args)) branches b means.branches m) gives) in
    let meant = means.meaning values (have_values l (variables_in args) values w gives) in
    (λ h. meant.1 (each.0 (said.0 h)), λ h. said.1 (each.1 (meant.0 h))))
