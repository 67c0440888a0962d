-- Values of the choices that satisfy a constraint, and assignments in the sides that do.
use Rattle.std.proofs.Common.{◌≡◌, ◌↔◌, ℕ, suc, ◌<◌, ◌==◌, true, false, not, ◌||◌, ◌&&◌, List, [], ◌∷◌, length, get_or, set, Contains, Some, refl, sym, ap, ◌∙◌, subst, inl, inr, arith}
use Rattle.std.specs.Prelude.{slice_get, IsSomeAnd, All}
use Rattle.std.specs.List.{AllZip, list_all}
use Rattle.std.proofs.lemmas.Bool.{ne_eqb}
use Rattle.std.proofs.lemmas.List.Elements.{All-head, All-tail}
use Rattle.std.proofs.lemmas.Option.{slice_get-get_or}
use Rattle.set_meaning.specs.declared.kinds.Kind.{Kind}
use Rattle.set_meaning.specs.declared.kinds.Value.{Value}
use Rattle.set_meaning.specs.declared.kinds.Value.TheVariants as value
use Rattle.set_meaning.specs.declared.problems.VarId.{VarId}
use Rattle.set_meaning.specs.declared.problems.Constraint.{Constraint}
use Rattle.set_meaning.specs.Kinds.{InKind, IsAssignment}
use Rattle.set_meaning.specs.Relations.{Holds, IsScope, variables_of}
use Rattle.bit_layout.proofs.Rising.{nothing_in_empty, in_cons, in_head, in_tail}
use Rattle.bit_layout.proofs.Listing.{all_zip_long}
use Rattle.log_rules.specs.declared.nodes.Node.{Node}
use Rattle.log_rules.specs.Tables.{walk}
use Rattle.log_rules.specs.Boxes.{Sides, IsInitial, word_at, side_of, IsWithin as IsInBox, SomeSatisfy}
use Rattle.log_rules.specs.Rules.{StandsIn}
use Rattle.log_rules.proofs.Inside.{is_initial}
use Rattle.sweep_shapes.specs.declared.choices.Choice.{Choice}
use Rattle.sweep_shapes.specs.Trials.{IsAllowed, SomeChosen}
use Rattle.sweep_shapes.proofs.Alike.{Each, holds_alike}
use Rattle.sweep_shapes.proofs.Lists.{at_put, beside_put, length_put, same_or_other}
use Rattle.sweep_shapes.proofs.Opening.{Beside, IsWithin, Opened, found_or_beside, chosen_is_within, within_is_chosen}

-- ---- two lists side by side

pub zip_each : {A B : Type 0} (R : A → B → Type 0) (xs : List A) (ys : List B) → length ys ≡ length xs → ((k : ℕ) (y : B) → slice_get ys k ≡ Some y → IsSomeAnd (slice_get xs k) (λ x. R x y)) → AllZip R xs ys
zip_each R [] [] long each = tt
zip_each R [] (y ∷ ys) long each = absurd (omega (arith, long))
zip_each R (x ∷ xs) [] long each = absurd (omega (arith, long))
zip_each R (x ∷ xs) (y ∷ ys) long each = (each 0 y refl, zip_each R xs ys (omega (arith, long)) (λ k. each (suc k)))

some_value : (values : List Value) (k : ℕ) (x : Value) (P : Value → Type 0) → slice_get values k ≡ Some x → IsSomeAnd (slice_get values k) P → P x
some_value values k x P is h = subst (λ o. IsSomeAnd o P) is h

-- ---- sides of other variables

-- a variable that no side names has every value in its side
pub unnamed : (kinds : List Kind) (table : List Node) (sides : Sides) (v : ℕ) (x : Value) → All (λ side. side.0 ≡ v → ⊥) sides → side_of kinds table sides v x ≡ true
unfolding side_of
unnamed kinds table [] v x others = refl
unnamed kinds table (s ∷ sides) v x others =
    let first : (s.0 == v) ≡ false = ne_eqb s.0 v (All-head (λ side. side.0 ≡ v → ⊥) s sides others) in
    let rest = unnamed kinds table sides v x (All-tail (λ side. side.0 ≡ v → ⊥) s sides others) in
    ap (λ b. (not b || walk table s.1 (word_at kinds v x)) && list_all (λ side. not (side.0 == v) || walk table side.1 (word_at kinds v x)) sides) first ∙ rest

-- ---- from values of the choices

pub within_legal : (kinds : List Kind) (table : List Node) (sides : Sides) (first : List Value) (scope : List VarId) (values : List Value) → IsAssignment kinds first
    → IsWithin (IsAllowed kinds table sides) first scope values → IsAssignment kinds values
within_legal kinds table sides first scope values legal within =
    zip_each InKind kinds values (within.long ∙ sym (all_zip_long InKind kinds first legal)) initial
  where
    initial : (k : ℕ) (x : Value) → slice_get values k ≡ Some x → IsSomeAnd (slice_get kinds k) (λ i. InKind i x)
    initial k x is = elim (found_or_beside scope k) [
      | inl f ↦ subst (λ j. IsInitial kinds j x) f.2 (some_value values f.0.0 x (IsAllowed kinds table sides f.0.0) (ap (slice_get values) f.2 ∙ is) (within.inside f.0 f.1)).0
      | inr beside ↦ is_initial kinds first legal k x (sym (within.others k beside) ∙ is)
    ]

pub within_satisfies : (kinds : List Kind) (table : List Node) (sides : Sides) (c : Constraint) (first : List Value) (scope : List VarId) (values : List Value) → IsAssignment kinds first → IsScope c scope
    → All (λ side. StandsIn c side.0) sides → IsWithin (IsAllowed kinds table sides) first scope values → Holds c values → SomeSatisfy kinds table sides c
unfolding IsInBox
within_satisfies kinds table sides c first scope values legal is_scope named within holds = record {
  values = values;
  assignment = zip_each InKind kinds values (within.long ∙ sym (all_zip_long InKind kinds first legal)) (λ k x is. (allowed k x is).0);
  inside = λ k x is. (allowed k x is).1;
  holds = holds;
} where
  beside_sides : (k : ℕ) → Beside scope k → All (λ side. side.0 ≡ k → ⊥) sides
  beside_sides k beside i d at e =
      let stands = named i d at in
      beside stands.1 ((is_scope.members stands.1).1 (stands.0, stands.2, stands.3)) (stands.4 ∙ e)

  allowed : (k : ℕ) (x : Value) → slice_get values k ≡ Some x → IsAllowed kinds table sides k x
  allowed k x is = elim (found_or_beside scope k) [
    | inl f ↦ subst (λ j. IsAllowed kinds table sides j x) f.2 (some_value values f.0.0 x (IsAllowed kinds table sides f.0.0) (ap (slice_get values) f.2 ∙ is) (within.inside f.0 f.1))
    | inr beside ↦ (is_initial kinds first legal k x (sym (within.others k beside) ∙ is), unnamed kinds table sides k x (beside_sides k beside))
  ]

-- ---- from an assignment

-- the first values, with others at the listed variables
abbrev merged : List Value → List Value → List VarId → List Value
merged first others [] = first
merged first others (v ∷ vs) = set (merged first others vs) v.0 (get_or others v.0 (value.Bool false))

length_merged : (first others : List Value) (vs : List VarId) → length (merged first others vs) ≡ length first
length_merged first others [] = refl
length_merged first others (v ∷ vs) = length_put (merged first others vs) v.0 (get_or others v.0 (value.Bool false)) ∙ length_merged first others vs

merged_at : (first others : List Value) (vs : List VarId) (u : VarId) → length others ≡ length first → u.0 < length first → Contains vs u → slice_get (merged first others vs) u.0 ≡ slice_get others u.0
merged_at first others [] u long known h = absurd (nothing_in_empty u h)
merged_at first others (v ∷ vs) u long known h =
    let d = value.Bool false in
    elim (same_or_other v.0 u.0) [
      | inl e ↦
          let there : v.0 < length (merged first others vs) = subst (λ n. v.0 < n) (sym (length_merged first others vs)) (subst (λ k. k < length first) (sym e) known) in
          let at : v.0 < length others = subst (λ n. v.0 < n) (sym long) (subst (λ k. k < length first) (sym e) known) in
          ap (slice_get (merged first others (v ∷ vs))) (sym e) ∙ at_put (merged first others vs) v.0 (get_or others v.0 d) there ∙ sym (slice_get-get_or others v.0 d at) ∙ ap (slice_get others) e
      | inr other ↦ elim (in_cons v vs u h) [
        | inl same ↦ absurd (other (ap (λ (w : VarId). w.0) same))
        | inr later ↦ beside_put (merged first others vs) v.0 u.0 (get_or others v.0 d) other ∙ merged_at first others vs u long known later
      ]
    ]

merged_beside : (first others : List Value) (vs : List VarId) (k : ℕ) → Beside vs k → slice_get (merged first others vs) k ≡ slice_get first k
merged_beside first others [] k beside = refl
merged_beside first others (v ∷ vs) k beside =
    beside_put (merged first others vs) v.0 k (get_or others v.0 (value.Bool false)) (λ e. beside v (in_head v vs) e)
    ∙ merged_beside first others vs k (λ u h e. beside u (in_tail v vs u h) e)

each_contained : {X : Type 0} (P : X → Type 0) (xs : List X) → ((x : X) → Contains xs x → P x) → Each P xs
each_contained P [] h = tt
each_contained P (x ∷ xs) h = (h x (in_head x xs), each_contained P xs (λ y there. h y (in_tail x xs y there)))

satisfies_within : (kinds : List Kind) (table : List Node) (sides : Sides) (c : Constraint) (first : List Value) (scope : List VarId) → IsAssignment kinds first → IsScope c scope
    → ((u : VarId) → Contains scope u → u.0 < length kinds) → SomeSatisfy kinds table sides c
    → (values : List Value) × IsWithin (IsAllowed kinds table sides) first scope values × Holds c values
unfolding IsInBox
satisfies_within kinds table sides c first scope legal is_scope known some = (values, within, holds)
  where
    values : List Value
    values = merged first some.values scope

    long : length some.values ≡ length first
    long = sym (all_zip_long InKind kinds some.values some.assignment) ∙ all_zip_long InKind kinds first legal

    there : (u : VarId) → Contains scope u → u.0 < length first
    there u h = subst (λ n. u.0 < n) (all_zip_long InKind kinds first legal) (known u h)

    at : (u : VarId) → Contains scope u → slice_get (merged first some.values scope) u.0 ≡ slice_get some.values u.0
    at u h = merged_at first some.values scope u long (there u h) h

    inside : (u : VarId) → Contains scope u → IsSomeAnd (slice_get some.values u.0) (IsAllowed kinds table sides u.0)
    inside u h =
        let is = slice_get-get_or some.values u.0 (value.Bool false) (subst (λ n. u.0 < n) (sym long) (there u h)) in
        let x = get_or some.values u.0 (value.Bool false) in
        subst (λ o. IsSomeAnd o (IsAllowed kinds table sides u.0)) (sym is) (is_initial kinds some.values some.assignment u.0 x is, some.inside u.0 x is)

    within : IsWithin (IsAllowed kinds table sides) first scope (merged first some.values scope)
    within = record {
      long = length_merged first some.values scope;
      inside = λ u h. subst (λ o. IsSomeAnd o (IsAllowed kinds table sides u.0)) (sym (at u h)) (inside u h);
      others = λ k beside. merged_beside first some.values scope k beside;
    }

    holds : Holds c (merged first some.values scope)
    holds = holds_alike c some.values (merged first some.values scope)
        (each_contained (λ u. slice_get some.values u.0 ≡ slice_get (merged first some.values scope) u.0) (variables_of c) (λ u h. sym (at u ((is_scope.members u).1 h)))) some.holds

-- what is tried is what satisfies the constraint in the sides
pub tried_is_satisfied : (kinds : List Kind) (table : List Node) (sides : Sides) (c : Constraint) (first base : List Value) (choices : List Choice) (scope : List VarId) → IsAssignment kinds first → IsScope c scope
    → ((u : VarId) → Contains scope u → u.0 < length kinds) → All (λ side. StandsIn c side.0) sides → Opened (IsAllowed kinds table sides) first base choices scope
    → SomeChosen base choices c ↔ SomeSatisfy kinds table sides c
tried_is_satisfied kinds table sides c first base choices scope legal is_scope known named opened = (
  λ h. within_satisfies kinds table sides c first scope h.values legal is_scope named (chosen_is_within (IsAllowed kinds table sides) first base choices scope h.values opened h.is_chosen) h.holds,
  λ h. let s = satisfies_within kinds table sides c first scope legal is_scope known h in
      record { values = s.0; is_chosen = within_is_chosen (IsAllowed kinds table sides) first base choices scope s.0 opened s.1; holds = s.2 },
)
