-- The diagrams from which that of a constraint is built.
use Rattle.std.proofs.Common.{◌≡◌, ℕ, ◌<◌, Bool, true, false, List, [], ◌∷◌, length, Option, Some, None, Result, refl, sym, subst, arith, Contains}
use Rattle.std.specs.Prelude.{slice_get, IfOk, IfSome, IsTrue, option_map}
use Rattle.std.specs.List.{All}
use Rattle.std.specs.Option.{option_map_or}
use Rattle.std.proofs.lemmas.List.Elements.{All-contains_itself, All-weaker}
use Rattle.std.proofs.lemmas.Result.{IfOk-weaker}
use Rattle.set_meaning.specs.declared.kinds.Kind.{Kind}
use Rattle.set_meaning.specs.declared.kinds.Kind.TheVariants as kind
use Rattle.set_meaning.specs.declared.kinds.Value.{Value}
use Rattle.set_meaning.specs.declared.kinds.Value.TheVariants as value
use Rattle.set_meaning.specs.declared.problems.VarId.{VarId}
use Rattle.set_meaning.specs.declared.problems.Term.{Term}
use Rattle.set_meaning.specs.declared.problems.Term.TheVariants.{Const, Var}
use Rattle.set_meaning.specs.declared.problems.Constraint.{Constraint}
use Rattle.set_meaning.specs.declared.rows.Sort.TheVariants.{Boolean}
use Rattle.set_meaning.specs.Rows.{sort_of_kind, IsValueOf, HasSort, row_of, FitsRow}
use Rattle.set_meaning.specs.Arguments.{bool_of_term}
use Rattle.set_meaning.specs.Relations.{Holds, variables_of}
use Rattle.bit_layout.specs.Words.{width_of}
use Rattle.bit_layout.specs.Order.{LayoutState, IsLayout, bit_at, width_at}
use Rattle.diagram_arena.specs.declared.nodes.Ref.{Ref}
use Rattle.diagram_arena.specs.declared.nodes.Stop.{Stop}
use Rattle.diagram_arena.specs.Table.{Table, has}
use Rattle.diagram_arena.specs.Arena.{table}
use Rattle.node_reclaim.specs.Pool.{PoolState}
use Rattle.node_reclaim.specs.Growth.{words_of, Stays, NewArePartsOf}
use Rattle.diagram_ops.specs.Words.{both, either, without, words_with, Denotes}
use Rattle.scope_words.specs.Words.{variables_in, AreWordsOf, IsDiagramOf}
use Rattle.exact_steps.proofs.Wanted.{diagram_grows}
use Rattle.propagators.specs.Compiled.{IsDiagramOfConstraint}
use Rattle.propagators.specs.Units.{Anything, Relates, Fails, HasTruth, IsRelated, HasTruthOfRelation, truth_variables}
use Rattle.propagators.specs.Units.IsWantedBy.{initial, holding, failing, truth, truth_of_relation, satisfying}
use Rattle.propagators.specs.Work.{NewAreOfWords, LeavesFor, truth_of}
use Rattle.propagators.proofs.Scopes.{variable_known}
use Rattle.propagators.proofs.Narrow.{argument_variable}
use Rattle.propagators.proofs.Agreeing.{relation_is_of_values}
use Rattle.propagators.proofs.Truths.{ValuesFit, failing_words, other_words, related_true, true_related, related_false, false_related, literal_words, truth_words, case_words, constraint_words, plain_words, fixed_words}
use Rattle.propagators.proofs.Leaving.{diagram_of, diagram_made, parts_of_words, leaves_by, leaves_then}

pub arguments_known : (l : LayoutState) (kinds : List Kind) (c : Constraint) (vs : List VarId) → l.kinds ≡ kinds → FitsRow kinds c → vs ≡ variables_in c.args → All (λ (v : VarId). v.0 < length l.kinds) vs
arguments_known l kinds c vs same fits e =
    All-weaker (Contains vs) (λ (v : VarId). v.0 < length l.kinds)
    (λ v m. subst (λ (ks : List Kind). v.0 < length ks) (sym same) (variable_known kinds c v fits (argument_variable c v (subst (λ us. Contains us v) e m)))) vs (All-contains_itself vs)

-- ---- where the relation fails

pub failing_diagram : (l : LayoutState) (c : Constraint) (vs : List VarId) (a m b : PoolState) (d f : Ref) (result : Result Ref Stop) → IsLayout l → vs ≡ variables_in c.args → IsDiagramOf l vs Anything (table m.arena) d
    → IsDiagramOf l (variables_in c.args) (Relates c) (table a.arena) f → Stays a m → IfOk result (Denotes (table b.arena) (without (words_of m d) (words_of m f)))
    → IfOk result (IsDiagramOf l (variables_in c.args) (Fails c) (table b.arena))
failing_diagram l c vs a m b d f result ok e initial_is holding_is stays made =
    let whole = subst (λ us. IsDiagramOf l us Anything (table m.arena) d) e initial_is in
    let grown = diagram_grows l (variables_in c.args) (Relates c) (table a.arena) (table m.arena) f stays.grows holding_is in
    diagram_made l (variables_in c.args) (Fails c) (table b.arena) (without (words_of m d) (words_of m f)) result
    (failing_words l (variables_in c.args) (Relates c) (words_of m d) (words_of m f) ok (relation_is_of_values c.relation c.args) whole.words grown.words) made

pub initial_leaves : (l : LayoutState) (c : Constraint) (vs : List VarId) (a m : PoolState) → vs ≡ variables_in c.args → Stays a m → NewAreOfWords l vs Anything (table a.arena) (table m.arena) → LeavesFor l c a m
initial_leaves l c vs a m e stays parts =
    leaves_by l c (variables_in c.args) Anything a m (λ W p. initial p) stays (subst (λ us. NewAreOfWords l us Anything (table a.arena) (table m.arena)) e parts)

pub failing_leaves : (l : LayoutState) (c : Constraint) (vs : List VarId) (a m b : PoolState) (d f : Ref) → IsLayout l → vs ≡ variables_in c.args → IsDiagramOf l vs Anything (table m.arena) d
    → IsDiagramOf l (variables_in c.args) (Relates c) (table a.arena) f → Stays a m → NewAreOfWords l vs Anything (table a.arena) (table m.arena)
    → Stays m b → NewArePartsOf (table m.arena) (table b.arena) (without (words_of m d) (words_of m f)) → LeavesFor l c a b
failing_leaves l c vs a m b d f ok e initial_is holding_is stays parts later news =
    let whole = subst (λ us. IsDiagramOf l us Anything (table m.arena) d) e initial_is in
    let grown = diagram_grows l (variables_in c.args) (Relates c) (table a.arena) (table m.arena) f stays.grows holding_is in
    let words = failing_words l (variables_in c.args) (Relates c) (words_of m d) (words_of m f) ok (relation_is_of_values c.relation c.args) whole.words grown.words in
    leaves_then l c a m b (initial_leaves l c vs a m e stays parts)
    (leaves_by l c (variables_in c.args) (Fails c) m b (λ W p. failing p) later (parts_of_words l (variables_in c.args) (Fails c) (without (words_of m d) (words_of m f)) (table m.arena) (table b.arena) words news))

-- ---- the relation

pub relation_leaves : (l : LayoutState) (c : Constraint) (a b : PoolState) → Stays a b → NewAreOfWords l (variables_in c.args) (Relates c) (table a.arena) (table b.arena) → LeavesFor l c a b
relation_leaves l c a b stays parts = leaves_by l c (variables_in c.args) (Relates c) a b (λ W p. holding p) stays parts

pub plain_diagram : (l : LayoutState) (c : Constraint) (t : Table) (r : Ref) → c.reif ≡ None → IsDiagramOf l (variables_in c.args) (Relates c) t r → IsDiagramOfConstraint l t c r
plain_diagram l c t r e is = record { live = is.live; words = plain_words l c (has t r) e is.words }

-- ---- a truth value that is a constant

pub true_fixed : (l : LayoutState) (c : Constraint) (t : Table) (x : Value) (r : Ref) → c.reif ≡ Some (Const x) → truth_of x ≡ true → IsDiagramOf l (variables_in c.args) (Relates c) t r → IsDiagramOfConstraint l t c r
true_fixed l c t (value.Bool true) r e told is = record {
  live = is.live;
  words = fixed_words l c true (has t r) e (other_words l (variables_in c.args) (Relates c) (IsRelated c true) (has t r) (related_true c) (true_related c) is.words);
}
true_fixed l c t (value.Bool false) r e told is = absurd (cc)
true_fixed l c t (value.Int z) r e told is = absurd (cc)
true_fixed l c t (value.Set s) r e told is = absurd (cc)

false_fixed : (l : LayoutState) (kinds : List Kind) (c : Constraint) (t : Table) (x : Value) (r : Ref) → FitsRow kinds c → c.reif ≡ Some (Const x) → truth_of x ≡ false → IsDiagramOf l (variables_in c.args) (Fails c) t r → IsDiagramOfConstraint l t c r
false_fixed l kinds c t x r fits e told is = by x (sort c.reif e fits.reif) e told
  where
    sort : (o : Option Term) → o ≡ Some (Const x) → IfSome o (λ u. IsTrue (row_of c.relation).reifiable × HasSort kinds Boolean u) → IsValueOf Boolean x
    sort o q h = let P : Option Term → Type 0 = λ o. IfSome o (λ u. IsTrue (row_of c.relation).reifiable × HasSort kinds Boolean u) in (subst P q h).1

    by : (y : Value) → IsValueOf Boolean y → c.reif ≡ Some (Const y) → truth_of y ≡ false → IsDiagramOfConstraint l t c r
    by (value.Bool false) h q told = record {
      live = is.live;
      words = fixed_words l c false (has t r) q (other_words l (variables_in c.args) (Fails c) (IsRelated c false) (has t r) (related_false c) (false_related c) is.words);
    }
    by (value.Bool true) h q told = absurd (cc)
    by (value.Int z) h q told = absurd h
    by (value.Set s) h q told = absurd h

pub false_diagram_made : (l : LayoutState) (kinds : List Kind) (c : Constraint) (t : Table) (x : Value) (result : Result Ref Stop) → FitsRow kinds c → c.reif ≡ Some (Const x) → truth_of x ≡ false → IfOk result (IsDiagramOf l (variables_in c.args) (Fails c) t) → IfOk result (IsDiagramOfConstraint l t c)
false_diagram_made l kinds c t x result fits e told made =
    IfOk-weaker result (IsDiagramOf l (variables_in c.args) (Fails c) t) (IsDiagramOfConstraint l t c) (λ r is. false_fixed l kinds c t x r fits e told is) made

-- ---- a truth value that is a variable

boolean_kind : (o : Option Kind) → option_map sort_of_kind o ≡ Some Boolean → o ≡ Some kind.Bool
boolean_kind None e = absurd (cc)
boolean_kind (Some kind.Bool) e = refl
boolean_kind (Some (kind.Int numbers)) e = absurd (cc)
boolean_kind (Some (kind.Set universe)) e = absurd (cc)

pub truth_kind : (l : LayoutState) (kinds : List Kind) (c : Constraint) (v : VarId) → l.kinds ≡ kinds → FitsRow kinds c → c.reif ≡ Some (Var v) → slice_get l.kinds v.0 ≡ Some kind.Bool
truth_kind l kinds c v same fits e =
    let P : Option Term → Type 0 = λ o. IfSome o (λ u. IsTrue (row_of c.relation).reifiable × HasSort kinds Boolean u) in
    subst (λ (ks : List Kind). slice_get ks v.0 ≡ Some kind.Bool) (sym same) (boolean_kind (slice_get kinds v.0) (subst P e fits.reif).1)

pub truth_has_bit : (l : LayoutState) (v : VarId) → slice_get l.kinds v.0 ≡ Some kind.Bool → 0 < width_at l v
truth_has_bit l v e = let P : Option Kind → Type 0 = λ o. 0 < option_map_or width_of o 0 in subst P (sym e) (omega arith)

pub true_diagram : (l : LayoutState) (c : Constraint) (t : Table) (r : Ref) → IsDiagramOf l (variables_in c.args) (Relates c) t r → IsDiagramOf l (variables_in c.args) (IsRelated c true) t r
true_diagram l c t r is = record { live = is.live; words = other_words l (variables_in c.args) (Relates c) (IsRelated c true) (has t r) (related_true c) (true_related c) is.words }

pub false_diagram : (l : LayoutState) (c : Constraint) (t : Table) (r : Ref) → IsDiagramOf l (variables_in c.args) (Fails c) t r → IsDiagramOf l (variables_in c.args) (IsRelated c false) t r
false_diagram l c t r is = record { live = is.live; words = other_words l (variables_in c.args) (Fails c) (IsRelated c false) (has t r) (related_false c) (false_related c) is.words }

abbrev Truth : VarId → Bool → List Value → Type 0
Truth v b values = bool_of_term values (Var v) ≡ Some b

literal_set : ValuesFit → (l : LayoutState) (v : VarId) (bit : ℕ) (b : Bool) → IsLayout l → slice_get l.kinds v.0 ≡ Some kind.Bool → bit ≡ bit_at l v 0 → AreWordsOf l (v ∷ []) (Truth v b) (words_with bit b)
literal_set fit l v bit b ok k e = subst (λ n. AreWordsOf l (v ∷ []) (Truth v b) (words_with n b)) (sym e) (literal_words fit l v b ok k)

pub literal_leaves : ValuesFit → (l : LayoutState) (c : Constraint) (v : VarId) (bit : ℕ) (b : Bool) (a m : PoolState) → IsLayout l → c.reif ≡ Some (Var v) → slice_get l.kinds v.0 ≡ Some kind.Bool → bit ≡ bit_at l v 0 → Stays a m
    → NewArePartsOf (table a.arena) (table m.arena) (words_with bit b) → LeavesFor l c a m
literal_leaves fit l c v bit b a m ok e k at stays parts =
    leaves_by l c (truth_variables c) (HasTruth c b) a m (λ W p. truth b p) stays
    (parts_of_words l (truth_variables c) (HasTruth c b) (words_with bit b) (table a.arena) (table m.arena) (truth_words l c v b (words_with bit b) e (literal_set fit l v bit b ok k at)) parts)

case_set : ValuesFit → (l : LayoutState) (c : Constraint) (v : VarId) (bit : ℕ) (b : Bool) (a m : PoolState) (literal f : Ref) → IsLayout l → c.reif ≡ Some (Var v) → slice_get l.kinds v.0 ≡ Some kind.Bool → bit ≡ bit_at l v 0 → Stays a m
    → Denotes (table m.arena) (words_with bit b) literal → IsDiagramOf l (variables_in c.args) (IsRelated c b) (table a.arena) f
    → AreWordsOf l (variables_of c) (HasTruthOfRelation c b) (both (words_of m literal) (words_of m f))
case_set fit l c v bit b a m literal f ok e k at stays is related =
    let own = diagram_of l (v ∷ []) (Truth v b) (table m.arena) (words_with bit b) literal (literal_set fit l v bit b ok k at) is in
    let grown = diagram_grows l (variables_in c.args) (IsRelated c b) (table a.arena) (table m.arena) f stays.grows related in
    case_words fit l c v b (words_of m literal) (words_of m f) ok e own.words grown.words

pub case_diagram : ValuesFit → (l : LayoutState) (c : Constraint) (v : VarId) (bit : ℕ) (b : Bool) (a m n : PoolState) (literal f : Ref) (result : Result Ref Stop) → IsLayout l → c.reif ≡ Some (Var v) → slice_get l.kinds v.0 ≡ Some kind.Bool → bit ≡ bit_at l v 0
    → Stays a m → Denotes (table m.arena) (words_with bit b) literal → IsDiagramOf l (variables_in c.args) (IsRelated c b) (table a.arena) f
    → IfOk result (Denotes (table n.arena) (both (words_of m literal) (words_of m f))) → IfOk result (IsDiagramOf l (variables_of c) (HasTruthOfRelation c b) (table n.arena))
case_diagram fit l c v bit b a m n literal f result ok e k at stays is related made =
    diagram_made l (variables_of c) (HasTruthOfRelation c b) (table n.arena) (both (words_of m literal) (words_of m f)) result (case_set fit l c v bit b a m literal f ok e k at stays is related) made

pub case_leaves : ValuesFit → (l : LayoutState) (c : Constraint) (v : VarId) (bit : ℕ) (b : Bool) (a m n : PoolState) (literal f : Ref) → IsLayout l → c.reif ≡ Some (Var v) → slice_get l.kinds v.0 ≡ Some kind.Bool → bit ≡ bit_at l v 0
    → Stays a m → NewArePartsOf (table a.arena) (table m.arena) (words_with bit b) → Denotes (table m.arena) (words_with bit b) literal → IsDiagramOf l (variables_in c.args) (IsRelated c b) (table a.arena) f
    → Stays m n → NewArePartsOf (table m.arena) (table n.arena) (both (words_of m literal) (words_of m f)) → LeavesFor l c a n
case_leaves fit l c v bit b a m n literal f ok e k at stays parts is related later news =
    leaves_then l c a m n (literal_leaves fit l c v bit b a m ok e k at stays parts)
    (leaves_by l c (variables_of c) (HasTruthOfRelation c b) m n (λ W p. truth_of_relation b p) later
    (parts_of_words l (variables_of c) (HasTruthOfRelation c b) (both (words_of m literal) (words_of m f)) (table m.arena) (table n.arena) (case_set fit l c v bit b a m literal f ok e k at stays is related) news))

-- both cases

pub whole_diagram : (l : LayoutState) (c : Constraint) (v : VarId) (a m n : PoolState) (f g : Ref) (result : Result Ref Stop) → c.reif ≡ Some (Var v) → IsDiagramOf l (variables_of c) (HasTruthOfRelation c true) (table a.arena) f → Stays a m
    → IsDiagramOf l (variables_of c) (HasTruthOfRelation c false) (table m.arena) g → IfOk result (Denotes (table n.arena) (either (words_of m f) (words_of m g))) → IfOk result (IsDiagramOfConstraint l (table n.arena) c)
whole_diagram l c v a m n f g result e first stays second made =
    let grown = diagram_grows l (variables_of c) (HasTruthOfRelation c true) (table a.arena) (table m.arena) f stays.grows first in
    diagram_made l (variables_of c) (Holds c) (table n.arena) (either (words_of m f) (words_of m g)) result (constraint_words l c (Var v) (words_of m f) (words_of m g) e grown.words second.words) made

pub whole_leaves : (l : LayoutState) (c : Constraint) (v : VarId) (s a m n : PoolState) (f g : Ref) → c.reif ≡ Some (Var v) → LeavesFor l c s a → IsDiagramOf l (variables_of c) (HasTruthOfRelation c true) (table a.arena) f → LeavesFor l c a m
    → IsDiagramOf l (variables_of c) (HasTruthOfRelation c false) (table m.arena) g → Stays m n → NewArePartsOf (table m.arena) (table n.arena) (either (words_of m f) (words_of m g)) → LeavesFor l c s n
whole_leaves l c v s a m n f g e before first between second later news =
    let grown = diagram_grows l (variables_of c) (HasTruthOfRelation c true) (table a.arena) (table m.arena) f between.stays.grows first in
    let words = constraint_words l c (Var v) (words_of m f) (words_of m g) e grown.words second.words in
    leaves_then l c s m n (leaves_then l c s a m before between)
    (leaves_by l c (variables_of c) (Holds c) m n (λ W p. satisfying p) later (parts_of_words l (variables_of c) (Holds c) (either (words_of m f) (words_of m g)) (table m.arena) (table n.arena) words news))
