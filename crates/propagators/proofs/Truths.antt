-- The sets of words that make a constraint with a truth value.
use Rattle.std.proofs.Common.{◌≡◌, ◌↔◌, ◌⊎◌, Bool, true, false, ◌||◌, not, List, [], ◌∷◌, ◌++◌, Option, Some, None, refl, sym, ap, ◌∙◌, subst, inl, inr, map, Contains}
use Rattle.std.specs.Prelude.{slice_get, filter_map, option_to_list, option_and_then, IsSomeAnd, if◌then◌else◌}
use Rattle.std.specs.List.{flat_map, range_with_len}
use Rattle.std.specs.Option.{option_map_or}
use Rattle.std.proofs.lemmas.Bool.{cases_Bool}
use Rattle.std.proofs.lemmas.List.Elements.{Contains-append_cases, Contains-append_right}
use Rattle.set_meaning.specs.declared.kinds.Kind.{Kind}
use Rattle.set_meaning.specs.declared.kinds.Kind.TheVariants as kind
use Rattle.set_meaning.specs.declared.kinds.Value.{Value}
use Rattle.set_meaning.specs.declared.kinds.Value.TheVariants as value
use Rattle.set_meaning.specs.declared.problems.VarId.{VarId}
use Rattle.set_meaning.specs.declared.problems.Term.{Term}
use Rattle.set_meaning.specs.declared.problems.Term.TheVariants.{Const, Var}
use Rattle.set_meaning.specs.declared.problems.Constraint.{Constraint}
use Rattle.set_meaning.specs.Kinds.{InKind}
use Rattle.set_meaning.specs.Arguments.{bool_in, bool_of_term}
use Rattle.set_meaning.specs.Relations.{HoldsAs, Holds, IsTruthOf, terms_of, variable_of, variables_of}
use Rattle.bit_layout.specs.Words.{width_of, IsValueOf}
use Rattle.bit_layout.specs.Order.{LayoutState, IsLayout, bit_at, IsValueAt}
use Rattle.bit_layout.proofs.Rising.{nothing_in_empty, in_cons, in_head}
use Rattle.bit_layout.proofs.ValuesAt.{one_value_at}
use Rattle.diagram_arena.specs.Table.{Word, Words}
use Rattle.diagram_ops.specs.Words.{both, either, without, words_with}
use Rattle.scope_words.specs.Words.{variables_in, read, Gives, AreWordsOf}
use Rattle.scope_words.proofs.Words.{given_once}
use Rattle.table_machine.specs.Values.{GivesInitialValues}
use Rattle.exact_steps.proofs.Values.{both_are, both_from, or_left, or_right, some_and, some_and_from, same_some}
use Rattle.exact_steps.proofs.Readings.{given_at}
use Rattle.propagators.specs.Units.{Anything, Relates, Fails, HasTruth, IsRelated, HasTruthOfRelation, truth_variables}
use Rattle.propagators.proofs.Scopes.{in_variables, same_members_words}
use Rattle.propagators.proofs.Narrow.{term_variable, argument_variable}
use Rattle.propagators.proofs.Agreeing.{AgreeAt, IsOfValues, relation_is_of_values}

-- the law of table_machine on values that fit together
abbrev pub ValuesFit : Type 0
ValuesFit = (l : LayoutState) (scope : List VarId) (w : Word) → IsLayout l → ((v : VarId) → Contains scope v → (x : Value) × IsValueAt l v (read l v w) x) → GivesInitialValues l scope w

-- ---- sets of words

-- the words of initial values
pub initial_words : ValuesFit → (l : LayoutState) (vs : List VarId) (V : Words) → IsLayout l → ((w : Word) → (V w ≡ true) ↔ GivesInitialValues l vs w) → AreWordsOf l vs Anything V
initial_words fit l vs V ok law = record {
  sound = λ w h. let r = (law w).0 h in (r.0, r.1, r.2, tt);
  whole = λ w values given any. (law w).1 (fit l vs w ok (λ v m. let g = given_at l vs values w v given m in (g.0, g.2)));
}

agree : (l : LayoutState) (vs : List VarId) (xs ys : List Value) (w : Word) → IsLayout l → Gives l vs xs w → Gives l vs ys w → AgreeAt vs xs ys
agree l vs xs ys w ok first second v m = given_once l vs xs ys w v ok first second m

not_true : (b : Bool) → not b ≡ true → b ≡ false
not_true true h = absurd (cc)
not_true false h = refl

true_not : (b : Bool) → b ≡ false → not b ≡ true
true_not true h = absurd (cc)
true_not false h = refl

-- those of initial values on which a condition fails
pub failing_words : (l : LayoutState) (vs : List VarId) (C : List Value → Type 0) (D F : Words) → IsLayout l → IsOfValues vs C → AreWordsOf l vs Anything D → AreWordsOf l vs C F → AreWordsOf l vs (λ values. C values → ⊥) (without D F)
failing_words l vs C D F ok own d f = record {
  sound = λ w h.
      let parts = both_are (D w) (not (F w)) h in
      let r = d.sound w parts.0 in
      (r.0, r.1, r.2, λ holds. let yes = f.whole w r.0 r.2 holds in let no : false ≡ true = sym (not_true (F w) parts.1) ∙ yes in absurd (cc));
  whole = λ w values given fails.
      both_from (D w) (not (F w)) (d.whole w values given tt) (elim (cases_Bool (F w)) [
        | inl inside ↦ let r = f.sound w inside in absurd (fails (own r.0 values (agree l vs r.0 values w ok r.2 given) r.3))
        | inr outside ↦ true_not (F w) outside
      ]);
}

-- two conditions together
pub joined_words : ValuesFit → (l : LayoutState) (A B S : List VarId) (C D : List Value → Type 0) (V W : Words) → IsLayout l → IsOfValues A C → IsOfValues B D → ((v : VarId) → Contains S v → Contains A v ⊎ Contains B v)
    → ((v : VarId) → Contains A v → Contains S v) → ((v : VarId) → Contains B v → Contains S v) → AreWordsOf l A C V → AreWordsOf l B D W → AreWordsOf l S (λ values. C values × D values) (both V W)
joined_words fit l A B S C D V W ok of_a of_b cases a_in b_in first second = record {
  sound = λ w h.
      let parts = both_are (V w) (W w) h in
      let a = first.sound w parts.0 in
      let b = second.sound w parts.1 in
      let r = fit l S w ok (λ v m. elim (cases v m) [
        | inl x ↦ let g = given_at l A a.0 w v a.2 x in (g.0, g.2)
        | inr y ↦ let g = given_at l B b.0 w v b.2 y in (g.0, g.2)
      ]) in
      (r.0, r.1, r.2, (of_a a.0 r.0 (agree l A a.0 r.0 w ok a.2 (λ v m. r.2 v (a_in v m))) a.3, of_b b.0 r.0 (agree l B b.0 r.0 w ok b.2 (λ v m. r.2 v (b_in v m))) b.3));
  whole = λ w values given h. both_from (V w) (W w) (first.whole w values (λ v m. given v (a_in v m)) h.0) (second.whole w values (λ v m. given v (b_in v m)) h.1);
}

-- the same condition in other words
pub other_words : (l : LayoutState) (vs : List VarId) (C D : List Value → Type 0) (V : Words) → ((values : List Value) → C values → D values) → ((values : List Value) → D values → C values) → AreWordsOf l vs C V → AreWordsOf l vs D V
other_words l vs C D V to from is = record {
  sound = λ w h. let r = is.sound w h in (r.0, r.1, r.2, to r.0 r.3);
  whole = λ w values given h. is.whole w values given (from values h);
}

either_cases : (a b : Bool) → (a || b) ≡ true → (a ≡ true) ⊎ (b ≡ true)
either_cases true b h = inl refl
either_cases false b h = inr h

-- ---- the variables of a constraint

pub variable_cases : (c : Constraint) (v : VarId) → Contains (variables_of c) v → Contains (variables_in c.args) v ⊎ Contains (truth_variables c) v
variable_cases c v h =
    elim (Contains-append_cases (flat_map terms_of c.args) (option_to_list c.reif) (Var v) (in_variables (flat_map terms_of c.args ++ option_to_list c.reif) v h)) [
      | inl argument ↦ inl (term_variable (flat_map terms_of c.args) v argument)
      | inr truth ↦ inr (term_variable (option_to_list c.reif) v truth)
    ]

pub truth_variable : (c : Constraint) (v : VarId) → Contains (truth_variables c) v → Contains (variables_of c) v
truth_variable c v h =
    term_variable (flat_map terms_of c.args ++ option_to_list c.reif) v
    (Contains-append_right (flat_map terms_of c.args) (option_to_list c.reif) (Var v) (in_variables (option_to_list c.reif) v h))

-- a constraint whose truth value is no variable speaks of the arguments' variables alone
pub only_arguments : (l : LayoutState) (c : Constraint) (C : List Value → Type 0) (V : Words) → truth_variables c ≡ [] → AreWordsOf l (variables_in c.args) C V → AreWordsOf l (variables_of c) C V
only_arguments l c C V none is =
    same_members_words l (variables_in c.args) (variables_of c) C V (argument_variable c) (λ v m. elim (variable_cases c v m) [
      | inl x ↦ x
      | inr y ↦ absurd (nothing_in_empty v (subst (λ vs. Contains vs v) none y))
    ]) is

-- ---- the truth value

bool_reading : (l : LayoutState) (v : VarId) (w : Word) → slice_get l.kinds v.0 ≡ Some kind.Bool → read l v w ≡ w (bit_at l v 0) ∷ []
bool_reading l v w e =
    let P : Option Kind → Type 0 = λ o. map w (map (bit_at l v) (range_with_len 0 (option_map_or width_of o 0))) ≡ w (bit_at l v 0) ∷ [] in
    subst P (sym e) refl

bool_value : (b : Bool) → IsValueOf kind.Bool (b ∷ []) (value.Bool b)
unfolding InKind
bool_value b = record { in_kind = tt; is_word = refl }

pub with_bool : (l : LayoutState) (v : VarId) (w : Word) → slice_get l.kinds v.0 ≡ Some kind.Bool → IsValueAt l v (read l v w) (value.Bool (w (bit_at l v 0)))
with_bool l v w e =
    let P : List Bool → Type 0 = λ word. IsValueAt l v word (value.Bool (w (bit_at l v 0))) in
    subst P (sym (bool_reading l v w e)) (some_and_from (slice_get l.kinds v.0) (λ k. IsValueOf k (w (bit_at l v 0) ∷ []) (value.Bool (w (bit_at l v 0)))) kind.Bool e (bool_value (w (bit_at l v 0))))

with_true : (b a : Bool) → (if b then a else not a) ≡ true → a ≡ b
with_true true a h = h
with_true false a h = not_true a h

true_with : (b a : Bool) → a ≡ b → (if b then a else not a) ≡ true
true_with true a h = h
true_with false a h = true_not a h

some_bool : (x : Value) (b : Bool) → bool_in x ≡ Some b → x ≡ value.Bool b
some_bool (value.Bool a) b e = let same : a ≡ b = cc in ap (λ (z : Bool). value.Bool z) same
some_bool (value.Int n) b e = absurd (cc)
some_bool (value.Set s) b e = absurd (cc)

bool_inside : (a b : Bool) → value.Bool a ≡ value.Bool b → a ≡ b
bool_inside a b e = cc

pub literal_words : ValuesFit → (l : LayoutState) (v : VarId) (b : Bool) → IsLayout l → slice_get l.kinds v.0 ≡ Some kind.Bool → AreWordsOf l (v ∷ []) (λ values. bool_of_term values (Var v) ≡ Some b) (words_with (bit_at l v 0) b)
literal_words fit l v b ok e = record {
  sound = λ w h.
      let own = with_bool l v w e in
      let r = fit l (v ∷ []) w ok (λ u m. let same : v ≡ u = one_variable u m in (value.Bool (w (bit_at l v 0)), subst (λ z. IsValueAt l z (read l z w) (value.Bool (w (bit_at l v 0)))) same own)) in
      let g = given_at l (v ∷ []) r.0 w v r.2 (in_head v []) in
      let same : g.0 ≡ value.Bool (w (bit_at l v 0)) = one_value_at l v (read l v w) g.0 (value.Bool (w (bit_at l v 0))) ok g.2 own in
      let bit : w (bit_at l v 0) ≡ b = with_true b (w (bit_at l v 0)) h in
      (r.0, r.1, r.2, ap (λ o. option_and_then bool_in o) (g.1 ∙ ap Some same) ∙ ap Some bit);
  whole = λ w values given h.
      let g = given_at l (v ∷ []) values w v given (in_head v []) in
      let is : g.0 ≡ value.Bool b = some_bool g.0 b (sym (ap (λ o. option_and_then bool_in o) g.1) ∙ h) in
      let same : value.Bool (w (bit_at l v 0)) ≡ value.Bool b = one_value_at l v (read l v w) (value.Bool (w (bit_at l v 0))) g.0 ok (with_bool l v w e) g.2 ∙ is in
      true_with b (w (bit_at l v 0)) (bool_inside (w (bit_at l v 0)) b same);
}
  where
    one_variable : (u : VarId) → Contains (v ∷ []) u → v ≡ u
    one_variable u m = elim (in_cons v [] u m) [ inl same ↦ same | inr none ↦ absurd (nothing_in_empty u none) ]

truth_is_of_values : (v : VarId) (b : Bool) → IsOfValues (v ∷ []) (λ values. bool_of_term values (Var v) ≡ Some b)
truth_is_of_values v b xs ys same h = sym (ap (λ o. option_and_then bool_in o) (same v (in_head v []))) ∙ h

-- ---- the relation as a truth value says

pub related_true : (c : Constraint) (values : List Value) → Relates c values → IsRelated c true values
related_true c values h = (λ _. h, λ _. refl)

pub true_related : (c : Constraint) (values : List Value) → IsRelated c true values → Relates c values
true_related c values h = h.0 refl

pub related_false : (c : Constraint) (values : List Value) → Fails c values → IsRelated c false values
related_false c values h = (λ e. absurd (cc), λ holds. absurd (h holds))

pub false_related : (c : Constraint) (values : List Value) → IsRelated c false values → Fails c values
false_related c values h holds = let no : false ≡ true = h.1 holds in absurd (cc)

related_is_of_values : (c : Constraint) (b : Bool) → IsOfValues (variables_in c.args) (IsRelated c b)
related_is_of_values c b xs ys same h = (
  λ e. relation_is_of_values c.relation c.args xs ys same (h.0 e),
  λ holds. h.1 (relation_is_of_values c.relation c.args ys xs (λ v m. sym (same v m)) holds),
)

-- a truth value that is a variable's
pub truth_words : (l : LayoutState) (c : Constraint) (v : VarId) (b : Bool) (V : Words) → c.reif ≡ Some (Var v) → AreWordsOf l (v ∷ []) (λ values. bool_of_term values (Var v) ≡ Some b) V → AreWordsOf l (truth_variables c) (HasTruth c b) V
truth_words l c v b V e is =
    let truths : truth_variables c ≡ v ∷ [] = ap (λ o. filter_map variable_of (option_to_list o)) e in
    let own = other_words l (v ∷ []) (λ values. bool_of_term values (Var v) ≡ Some b) (HasTruth c b) V (λ values h. some_and_from c.reif (λ t. bool_of_term values t ≡ Some b) (Var v) e h)
    (λ values h. let t = some_and c.reif (λ t. bool_of_term values t ≡ Some b) h in subst (λ t. bool_of_term values t ≡ Some b) (same_some c.reif t.0 (Var v) t.1 e) t.2) is in
    subst (λ vs. AreWordsOf l vs (HasTruth c b) V) (sym truths) own

-- the truth value with the values on which the relation has it
pub case_words : ValuesFit → (l : LayoutState) (c : Constraint) (v : VarId) (b : Bool) (V F : Words) → IsLayout l → c.reif ≡ Some (Var v) → AreWordsOf l (v ∷ []) (λ values. bool_of_term values (Var v) ≡ Some b) V → AreWordsOf l (variables_in c.args) (IsRelated c b) F
    → AreWordsOf l (variables_of c) (HasTruthOfRelation c b) (both V F)
case_words fit l c v b V F ok e truth is =
    let truths : truth_variables c ≡ v ∷ [] = ap (λ o. filter_map variable_of (option_to_list o)) e in
    let inside : (u : VarId) → Contains (v ∷ []) u → Contains (variables_of c) u = λ u m. truth_variable c u (subst (λ vs. Contains vs u) (sym truths) m) in
    let cases : (u : VarId) → Contains (variables_of c) u → Contains (v ∷ []) u ⊎ Contains (variables_in c.args) u = λ u m. elim (variable_cases c u m) [
      | inl x ↦ inr x
      | inr y ↦ inl (subst (λ vs. Contains vs u) truths y)
    ] in
    other_words l (variables_of c) (λ values. (bool_of_term values (Var v) ≡ Some b) × IsRelated c b values) (HasTruthOfRelation c b) (both V F)
    (λ values h. (some_and_from c.reif (λ t. bool_of_term values t ≡ Some b) (Var v) e h.0, h.1))
    (λ values h. let t = some_and c.reif (λ t. bool_of_term values t ≡ Some b) h.0 in (subst (λ t. bool_of_term values t ≡ Some b) (same_some c.reif t.0 (Var v) t.1 e) t.2, h.1))
    (joined_words fit l (v ∷ []) (variables_in c.args) (variables_of c) (λ values. bool_of_term values (Var v) ≡ Some b) (IsRelated c b) V F ok (truth_is_of_values v b) (related_is_of_values c b) cases inside (argument_variable c) truth is)

-- ---- the constraint

holds_from : (o : Option Term) (values : List Value) (P : Type 0) (b : Bool) → IsSomeAnd o (λ t. bool_of_term values t ≡ Some b) → IsTruthOf (Some b) P → HoldsAs o values P
holds_from None values P b h is = absurd h
holds_from (Some t) values P b h is = subst (λ q. IsTruthOf q P) (sym h) is

pub holds_of_case : (c : Constraint) (b : Bool) (values : List Value) → HasTruthOfRelation c b values → Holds c values
unfolding Holds
holds_of_case c b values h = holds_from c.reif values (Relates c values) b h.0 h.1

truth_there : (o : Option Bool) (P : Type 0) → IsTruthOf o P → (b : Bool) × (o ≡ Some b) × IsTruthOf (Some b) P
truth_there None P h = absurd h
truth_there (Some b) P h = (b, refl, h)

holds_named : (o : Option Term) (t : Term) (values : List Value) (P : Type 0) → o ≡ Some t → HoldsAs o values P → IsTruthOf (bool_of_term values t) P
holds_named o t values P e h = subst (λ q. HoldsAs q values P) e h

pub case_of_holds : (c : Constraint) (t : Term) (values : List Value) → c.reif ≡ Some t → Holds c values → (b : Bool) × HasTruthOfRelation c b values
unfolding Holds
case_of_holds c t values e h =
    let r = truth_there (bool_of_term values t) (Relates c values) (holds_named c.reif t values (Relates c values) e h) in
    (r.0, (some_and_from c.reif (λ t. bool_of_term values t ≡ Some r.0) t e r.1, r.2))

-- both cases together
pub constraint_words : (l : LayoutState) (c : Constraint) (t : Term) (P N : Words) → c.reif ≡ Some t → AreWordsOf l (variables_of c) (HasTruthOfRelation c true) P → AreWordsOf l (variables_of c) (HasTruthOfRelation c false) N
    → AreWordsOf l (variables_of c) (Holds c) (either P N)
constraint_words l c t P N e positive negative = record {
  sound = λ w h. elim (either_cases (P w) (N w) h) [
    | inl p ↦ let r = positive.sound w p in (r.0, r.1, r.2, holds_of_case c true r.0 r.3)
    | inr n ↦ let r = negative.sound w n in (r.0, r.1, r.2, holds_of_case c false r.0 r.3)
  ];
  whole = λ w values given h. let k = case_of_holds c t values e h in by w values given k.0 k.1;
}
  where
    by : (w : Word) (values : List Value) → Gives l (variables_of c) values w → (b : Bool) → HasTruthOfRelation c b values → either P N w ≡ true
    by w values given true h = or_left (P w) (N w) (positive.whole w values given h)
    by w values given false h = or_right (P w) (N w) (negative.whole w values given h)

-- without a truth value, and with a constant one
holds_alone : (o : Option Term) (values : List Value) (P : Type 0) → o ≡ None → HoldsAs o values P → P
holds_alone o values P e h = subst (λ q. HoldsAs q values P) e h

alone_holds : (o : Option Term) (values : List Value) (P : Type 0) → o ≡ None → P → HoldsAs o values P
alone_holds o values P e h = subst (λ q. HoldsAs q values P) (sym e) h

pub plain_words : (l : LayoutState) (c : Constraint) (V : Words) → c.reif ≡ None → AreWordsOf l (variables_in c.args) (Relates c) V → AreWordsOf l (variables_of c) (Holds c) V
unfolding Holds
plain_words l c V e is =
    only_arguments l c (Holds c) V (ap (λ o. filter_map variable_of (option_to_list o)) e)
    (other_words l (variables_in c.args) (Relates c) (Holds c) V (λ values h. alone_holds c.reif values (Relates c values) e h) (λ values h. holds_alone c.reif values (Relates c values) e h) is)

pub fixed_words : (l : LayoutState) (c : Constraint) (b : Bool) (V : Words) → c.reif ≡ Some (Const (value.Bool b)) → AreWordsOf l (variables_in c.args) (IsRelated c b) V → AreWordsOf l (variables_of c) (Holds c) V
unfolding Holds
fixed_words l c b V e is =
    only_arguments l c (Holds c) V (ap (λ o. filter_map variable_of (option_to_list o)) e)
    (other_words l (variables_in c.args) (IsRelated c b) (Holds c) V (λ values h. holds_from c.reif values (Relates c values) b (some_and_from c.reif (λ t. bool_of_term values t ≡ Some b) (Const (value.Bool b)) e refl) h)
    (λ values h. holds_named c.reif (Const (value.Bool b)) values (Relates c values) e h) is)
