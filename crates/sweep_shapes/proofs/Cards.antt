-- What is known of a constraint that a set has so many elements.
use Rattle.std.proofs.Common.{◌≡◌, ◌↔◌, ℕ, suc, ◌==◌, Bool, true, cond, ℤ, pos, List, [], ◌∷◌, length, map, Contains, Option, Some, None, refl, sym, ap, ◌∙◌, subst, inl, inr, eq-eqb, arith}
use Rattle.std.specs.Prelude.{slice_get, option_and_then, IsSomeAnd, All, ◌<ℤ◌}
use Rattle.std.specs.List.{filter_map, flat_map}
use Rattle.std.proofs.lemmas.Int.{ints}
use Rattle.std.proofs.lemmas.Option.{slice_get_within}
use Rattle.set_meaning.specs.declared.kinds.Kind.{Kind}
use Rattle.set_meaning.specs.declared.kinds.Kind.TheVariants as kind
use Rattle.set_meaning.specs.declared.kinds.Value.{Value}
use Rattle.set_meaning.specs.declared.kinds.Value.TheVariants as value
use Rattle.set_meaning.specs.declared.problems.VarId.{VarId}
use Rattle.set_meaning.specs.declared.problems.Term.{Term}
use Rattle.set_meaning.specs.declared.problems.Term.TheVariants.{Const, Var}
use Rattle.set_meaning.specs.declared.problems.Arg.TheVariants.{One}
use Rattle.set_meaning.specs.declared.problems.Relation.TheVariants.{SetCard}
use Rattle.set_meaning.specs.declared.problems.Constraint.{Constraint}
use Rattle.set_meaning.specs.Kinds.{InKind, IsAssignment, IsSetWithin}
use Rattle.set_meaning.specs.Problems.{IsKind}
use Rattle.set_meaning.specs.Sets.{IsAscending}
use Rattle.set_meaning.specs.Arguments.{set_in, set_of_term, OfTwo}
use Rattle.set_meaning.specs.Relations.{HoldsOf, Holds, terms_of, variable_of}
use Rattle.bit_layout.specs.declared.places.Place.{Place}
use Rattle.bit_layout.specs.Words.{lists}
use Rattle.bit_layout.proofs.Rising.{nothing_in_empty, in_cons, in_head, in_tail}
use Rattle.log_rules.proofs.Inside.{is_initial, value_there}
use Rattle.sweep_rules.specs.Rules.{accepts}
use Rattle.sweep_rules.specs.SetPlaces.{AreSetPlaces, set_bit}
use Rattle.sweep_counts.specs.Counts.{count_rules}
use Rattle.sweep_table.specs.Sides.{own_bits}
use Rattle.sweep_scopes.specs.Meetings.{places_in}
use Rattle.sweep_shapes.specs.Slots.{AreSetVariables, IsReading, IsCardinality}
use Rattle.sweep_shapes.proofs.SetGlue.{HaveWords, legal_at, set_in_kind}

-- ---- the variable

pub only_variable : (variables : List VarId) (v : VarId) → length variables ≡ 1 → Contains variables v → (u : VarId) → Contains variables u → u ≡ v
only_variable [] v one h u k = absurd (omega (arith, one))
only_variable (w ∷ []) v one h u k = sym (first w u k) ∙ first w v h
  where
    first : (w u : VarId) → Contains (w ∷ []) u → w ≡ u
    first w u k = elim (in_cons w [] u k) [ inl e ↦ e | inr later ↦ absurd (nothing_in_empty u later) ]
only_variable (w ∷ x ∷ xs) v one h u k = absurd (omega (arith, one))

-- the set variable of a cardinality is listed
pub card_among : (kinds : List Kind) (c read : Constraint) (size : ℤ) (v : VarId) (variables : List VarId) → IsReading kinds c variables read true → IsCardinality read size (Var v) → Contains variables v
card_among kinds c read size v variables reading is =
    reading.among v (subst (λ args. Contains (filter_map variable_of (flat_map terms_of args)) v) (sym is.args) (in_head v []))

-- ---- what the bits say

-- bits of one variable are all its own
all_own : (v : VarId) (places : List Place) (bits : List Bool) → ((p : Place) → Contains places p → p.variable ≡ v) → length bits ≡ length places → own_bits (places_in places v) bits ≡ bits
all_own v [] [] only long = refl
all_own v [] (b ∷ bs) only long = absurd (omega (arith, long))
all_own v (p ∷ ps) [] only long = absurd (omega (arith, long))
all_own v (p ∷ ps) (b ∷ bs) only long =
    let same : (p.variable.0 == v.0) ≡ true = eq-eqb p.variable.0 v.0 (ap (λ (u : VarId). u.0) (only p (in_head p ps))) in
    ap (λ t. own_bits (cond t (Some p.position) None ∷ places_in ps v) (b ∷ bs)) same ∙ ap (λ rest. b ∷ rest) (all_own v ps bs (λ q h. only q (in_tail p ps q h)) (omega (arith, long)))

length-bits : (values : List Value) (places : List Place) → length (map (set_bit values) places) ≡ length places
length-bits values [] = refl
length-bits values (p ∷ ps) = ap suc (length-bits values ps)

card_says : (read : Constraint) (size : ℕ) (v : VarId) (set : List ℤ) (values : List Value) → IsCardinality read (pos size) (Var v) → slice_get values v.0 ≡ Some (value.Set set)
    → (length set ≡ size) ↔ HoldsOf read.relation read.args values
unfolding HoldsOf
card_says read size v set values is at =
    let same : HoldsOf read.relation read.args values ≡ HoldsOf SetCard (One (Var v) ∷ One (Const (value.Int (pos size))) ∷ []) values = ap (λ r. HoldsOf r read.args values) is.relation ∙ ap (λ args. HoldsOf SetCard args values) is.args in
    let given : set_of_term values (Var v) ≡ Some set = ap (λ o. option_and_then set_in o) at in
    let there : OfTwo (λ a n. n ≡ pos (length a)) (set_of_term values (Var v)) (Some (pos size)) ≡ (pos size ≡ pos (length set)) = ap (λ o. OfTwo (λ a n. n ≡ pos (length a)) o (Some (pos size))) given in (
      λ e. subst (λ (T : Type 0). T) (sym same) (subst (λ (T : Type 0). T) (sym there) (ap pos (sym e))),
      λ h. let e : pos size ≡ pos (length set) = subst (λ (T : Type 0). T) there (subst (λ (T : Type 0). T) same h) in let n : size ≡ length set = (cc) in sym n,
    )

-- the law of counts
abbrev pub CountLaw : Type 0
CountLaw = (size : ℕ) (universe set : List ℤ) → IsAscending universe → IsSetWithin universe set → (accepts (count_rules size) (map (lists set) universe) ≡ true) ↔ (length set ≡ size)

pub count_exact : CountLaw → HaveWords → (kinds : List Kind) (c read : Constraint) (size : ℕ) (v : VarId) (variables : List VarId) (places : List Place) → All IsKind kinds → AreSetVariables kinds variables
    → length variables ≡ 1 → IsReading kinds c variables read true → IsCardinality read (pos size) (Var v) → AreSetPlaces kinds variables places
    → (values : List Value) → IsAssignment kinds values → (accepts (count_rules size) (map (set_bit values) places) ≡ true) ↔ Holds c values
unfolding InKind
count_exact law words kinds c read size v variables places legal sets one reading is are values assignment =
    let among = card_among kinds c read (pos size) v variables reading is in
    let u = sets v among in
    let universe = u.0 in
    let x = value_there kinds values assignment v.0 (slice_get_within kinds v.0 (kind.Set universe) u.1) in
    let inside : InKind (kind.Set universe) x.0 = subst (λ o. IsSomeAnd o (λ k. InKind k x.0)) u.1 (is_initial kinds values assignment v.0 x.0 x.1) in
    let s = set_in_kind universe x.0 inside in
    let within : IsSetWithin universe s.0 = subst (InKind (kind.Set universe)) s.1 inside in
    let at : slice_get values v.0 ≡ Some (value.Set s.0) = x.1 ∙ ap Some s.1 in
    let up : IsKind (kind.Set universe) = legal_at kinds v.0 (kind.Set universe) legal u.1 in
    let bits : map (set_bit values) places ≡ map (lists s.0) universe =
    sym (all_own v places (map (set_bit values) places) (λ p h. only_variable variables v one among p.variable ((are.members p).0 h).1) (length-bits values places))
    ∙ words kinds variables places values v universe s.0 are among u.1 up at in
    let size_is = law size universe s.0 up within in
    let says = card_says read size v s.0 values is at in
    let holds = reading.same values assignment in (
      λ h. holds.0 (says.0 (size_is.0 (subst (λ w. accepts (count_rules size) w ≡ true) bits h))),
      λ h. subst (λ w. accepts (count_rules size) w ≡ true) (sym bits) (size_is.1 (says.1 (holds.1 h))),
    )

-- no set has less than no elements
pub none_of_fewer : (kinds : List Kind) (c read : Constraint) (variables : List VarId) (size : ℤ) (set : Term) (values : List Value) → IsReading kinds c variables read true → IsCardinality read size set
    → size <ℤ pos 0 → IsAssignment kinds values → Holds c values → ⊥
unfolding HoldsOf
none_of_fewer kinds c read variables size set values reading is negative assignment h =
    let holds : HoldsOf read.relation read.args values = (reading.same values assignment).1 h in
    let same : HoldsOf read.relation read.args values ≡ HoldsOf SetCard (One set ∷ One (Const (value.Int size)) ∷ []) values = ap (λ r. HoldsOf r read.args values) is.relation ∙ ap (λ args. HoldsOf SetCard args values) is.args in
    by (set_of_term values set) (subst (λ (T : Type 0). T) same holds)
  where
    by : (o : Option (List ℤ)) → OfTwo (λ a n. n ≡ pos (length a)) o (Some size) → ⊥
    by None k = k
    by (Some a) k = omega (arith, ints, k, negative)
