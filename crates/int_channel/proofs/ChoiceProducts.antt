-- Products, items and members as branches of the numbers that a term can be.
use Rattle.std.proofs.Common.{◌≡◌, ◌↔◌, ◌⊎◌, ◌<◌, ◌≤◌, ◌+◌, ◌-◌, ◌*◌, ℕ, zero, suc, ℤ, pos, negsuc, ◌+ℤ◌, ◌*ℤ◌, ◌≤ℤ◌, unsigned_abs, Bool, true, false, List, [], ◌∷◌, ◌++◌, map, length, get_or, Option, Some, None, refl, sym, ap, ◌∙◌, subst, inl, inr, arith, Contains}
use Rattle.std.specs.Prelude.{Any, slice_get, IsSomeAnd, option_map, option_and_then, filter_map, ⊤}
use Rattle.std.specs.Option.{option_map_or}
use Rattle.std.specs.List.{All, AllZip}
use Rattle.std.proofs.lemmas.Int.{ints}
use Rattle.std.proofs.lemmas.List.{length-map}
use Rattle.std.proofs.lemmas.List.Elements.{All-get_or, All-from_get_or, Contains-get_or}
use Rattle.std.proofs.lemmas.Option.{slice_get_within, slice_get-get_or}
use Rattle.set_meaning.specs.declared.kinds.Kind.{Kind}
use Rattle.set_meaning.specs.declared.kinds.Kind.TheVariants as kind
use Rattle.set_meaning.specs.declared.kinds.Value.{Value}
use Rattle.set_meaning.specs.declared.kinds.Value.TheVariants as value
use Rattle.set_meaning.specs.declared.problems.VarId.{VarId}
use Rattle.set_meaning.specs.declared.problems.Term.{Term}
use Rattle.set_meaning.specs.declared.problems.Term.TheVariants.{Const, Var}
use Rattle.set_meaning.specs.declared.problems.Arg.{Arg}
use Rattle.set_meaning.specs.declared.problems.Arg.TheVariants.{One, Many}
use Rattle.set_meaning.specs.declared.problems.Relation.{Relation}
use Rattle.set_meaning.specs.declared.problems.Relation.TheVariants.{IntTimes}
use Rattle.set_meaning.specs.declared.rows.Sort.TheVariants.{Integer}
use Rattle.set_meaning.specs.Kinds.{InKind, IsSetWithin}
use Rattle.set_meaning.specs.Sets.{Has}
use Rattle.set_meaning.specs.Arguments.{int_of_term, OfThree}
use Rattle.set_meaning.specs.Relations.{HoldsOf, variable_of}
use Rattle.set_meaning.specs.Rows.{HasSort, HasShape, row_of, shapes_of, sort_of_kind}
use Rattle.scope_words.specs.Words.{variables_in}
use Rattle.linear_terms.specs.Terms.{number_of, number_at}
use Rattle.problem_limits.specs.Limits.{IsSmallNumber, HasSmallNumbers, IsSmallTerm}
use Rattle.bit_layout.proofs.Rising.{in_head, in_tail}
use Rattle.int_channel.specs.declared.forms.Atom.{Atom}
use Rattle.int_channel.specs.declared.forms.Branch.{Branch}
use Rattle.int_channel.specs.Forms.{BranchHolds, IsInitialValue, HaveValues, AreBranchesOf}
use Rattle.int_channel.specs.Choices.{number_of_term, AreAmong, AreChoicesOf, IsAtomWhere, IsBranchWhere, IsOneOf, numbers_in, numbers_of, numbers_of_constant}
use Rattle.int_channel.proofs.ChoiceTerms.{IsKnown, known, int_known, value_there}
use Rattle.int_channel.proofs.ChoiceBranches.{branch}
use Rattle.int_channel.proofs.ChoiceIntegers.{of_three_known, at_first, at_second, at_third}
use Rattle.int_channel.proofs.ChoiceLoops.{is_one_of}

-- ---- the numbers that a term can be

number_in_kind : (o : Option Kind) (y : Value) → option_map sort_of_kind o ≡ Some Integer → IsSomeAnd o (λ k. InKind k y) → Contains (option_map_or numbers_in o []) (number_of y)
unfolding InKind Has
number_in_kind None y e h = absurd h
number_in_kind (Some kind.Bool) y e h = absurd (cc)
number_in_kind (Some (kind.Set u)) y e h = absurd (cc)
number_in_kind (Some (kind.Int numbers)) (value.Bool b) e h = absurd h
number_in_kind (Some (kind.Int numbers)) (value.Int n) e h = h
number_in_kind (Some (kind.Int numbers)) (value.Set s) e h = absurd h

pub number_listed : (kinds : List Kind) (values : List Value) (t : Term) → HasSort kinds Integer t → IsKnown kinds values t → Contains (numbers_of kinds t) (number_of_term values t)
number_listed kinds values (Const (value.Bool b)) sort h = absurd sort
number_listed kinds values (Const (value.Int n)) sort h = in_head n []
number_listed kinds values (Const (value.Set s)) sort h = absurd sort
number_listed kinds values (Var x) sort h =
    let y = value_there kinds x (slice_get values x.0) (h.value x refl) in
    let is : number_at values x ≡ number_of y.0 = ap (λ o. option_map_or number_of o (pos 0)) y.1 in
    subst (Contains (numbers_of kinds (Var x))) (sym is) (number_in_kind (slice_get kinds x.0) y.0 sort y.2)

-- numbers that are among small ones are small
pub all_among : (P : ℤ → Type 0) (numbers kept : List ℤ) → All P numbers → ((n : ℤ) → Contains kept n → Contains numbers n) → All P kept
all_among P numbers kept h among =
    All-from_get_or P kept (pos 0) (λ i within.
    let here = among (get_or kept i (pos 0)) (Contains-get_or kept i (pos 0) within) in
    let at : P (get_or numbers here.0 (get_or kept i (pos 0))) = h here.0 (get_or kept i (pos 0)) here.1 in
    subst P here.2 at)

-- ---- products

-- the branch of one number
pub factor_branch : (kinds : List Kind) (a b c : Term) (n : ℤ) (p q : Atom) → IsAtomWhere (a ∷ []) (λ values. number_of_term values a ≡ n) p
    → IsAtomWhere (b ∷ c ∷ []) (λ values. (n *ℤ number_of_term values b) ≡ number_of_term values c) q
    → IsBranchWhere kinds (a ∷ b ∷ c ∷ []) (λ values. (number_of_term values a ≡ n) × ((n *ℤ number_of_term values b) ≡ number_of_term values c)) (branch p q)
factor_branch kinds a b c n p q first second =
    record {
      meaning = λ values. (
        λ h. ((first.meaning values).0 h.0, (second.meaning values).0 h.1),
        λ h. ((first.meaning values).1 h.0, (second.meaning values).1 h.1),
      );
      over = λ terms among. (first.over kinds terms (among.0, tt), second.over kinds terms (among.1.0, (among.1.1.0, tt)));
    }

times_comm : (x y : ℤ) → x *ℤ y ≡ y *ℤ x
times_comm x y = grind (arith, ints)

pub iff_to : (A B C : Type 0) → A ↔ B → B ↔ C → A ↔ C
iff_to A B C f g = (λ a. g.0 (f.0 a), λ c. f.1 (g.1 c))

pub product_branches : (kinds : List Kind) (a b c : Term) (numbers : List ℤ) (bs : List Branch) → numbers ≡ numbers_of kinds a
    → AreChoicesOf kinds (a ∷ b ∷ c ∷ []) (IsOneOf a numbers (λ n values. (n *ℤ number_of_term values b) ≡ number_of_term values c)) bs
    → AllZip (HasShape kinds) (shapes_of (row_of IntTimes)) (One a ∷ One b ∷ One c ∷ []) → AreBranchesOf kinds IntTimes (One a ∷ One b ∷ One c ∷ []) bs
unfolding HoldsOf
product_branches kinds a b c numbers bs listed choices fits =
    let terms : List Term = a ∷ b ∷ c ∷ [] in
    let in_a = at_first a b c in
    let in_b = at_second a b c in
    let in_c = at_third a b c in
    let Q : ℤ → List Value → Type 0 = λ n values. (n *ℤ number_of_term values b) ≡ number_of_term values c in
    record {
      meaning = λ values have.
          let x = number_of_term values a in
          let y = number_of_term values b in
          let z = number_of_term values c in
          let there : Contains numbers x = subst (λ (xs : List ℤ). Contains xs x) (sym listed) (number_listed kinds values a fits.0 (known kinds terms values a have in_a)) in
          of_three_known (λ a b c. (a *ℤ b) ≡ c) (int_of_term values a) (int_of_term values b) (int_of_term values c) x y z
          (int_known kinds values a fits.0 (known kinds terms values a have in_a)) (int_known kinds values b fits.1.0 (known kinds terms values b have in_b))
          (int_known kinds values c fits.1.1.0 (known kinds terms values c have in_c)) (Any (BranchHolds values) bs)
          (iff_to ((x *ℤ y) ≡ z) (IsOneOf a numbers Q values) (Any (BranchHolds values) bs) (is_one_of a numbers Q values (λ q. there)) (choices.meaning values));
      branches = choices.over terms (in_a, (in_b, (in_c, tt)));
    }

pub product_branches_turned : (kinds : List Kind) (a b c : Term) (numbers : List ℤ) (bs : List Branch) → numbers ≡ numbers_of kinds b
    → AreChoicesOf kinds (b ∷ a ∷ c ∷ []) (IsOneOf b numbers (λ n values. (n *ℤ number_of_term values a) ≡ number_of_term values c)) bs
    → AllZip (HasShape kinds) (shapes_of (row_of IntTimes)) (One a ∷ One b ∷ One c ∷ []) → AreBranchesOf kinds IntTimes (One a ∷ One b ∷ One c ∷ []) bs
unfolding HoldsOf
product_branches_turned kinds a b c numbers bs listed choices fits =
    let terms : List Term = a ∷ b ∷ c ∷ [] in
    let in_a = at_first a b c in
    let in_b = at_second a b c in
    let in_c = at_third a b c in
    let Q : ℤ → List Value → Type 0 = λ n values. (n *ℤ number_of_term values a) ≡ number_of_term values c in
    record {
      meaning = λ values have.
          let x = number_of_term values a in
          let y = number_of_term values b in
          let z = number_of_term values c in
          let there : Contains numbers y = subst (λ (xs : List ℤ). Contains xs y) (sym listed) (number_listed kinds values b fits.1.0 (known kinds terms values b have in_b)) in
          let turned : ((x *ℤ y) ≡ z) ↔ ((y *ℤ x) ≡ z) = (λ e. times_comm y x ∙ e, λ e. times_comm x y ∙ e) in
          of_three_known (λ a b c. (a *ℤ b) ≡ c) (int_of_term values a) (int_of_term values b) (int_of_term values c) x y z
          (int_known kinds values a fits.0 (known kinds terms values a have in_a)) (int_known kinds values b fits.1.0 (known kinds terms values b have in_b))
          (int_known kinds values c fits.1.1.0 (known kinds terms values c have in_c)) (Any (BranchHolds values) bs)
          (iff_to ((x *ℤ y) ≡ z) ((y *ℤ x) ≡ z) (Any (BranchHolds values) bs) turned
          (iff_to ((y *ℤ x) ≡ z) (IsOneOf b numbers Q values) (Any (BranchHolds values) bs) (is_one_of b numbers Q values (λ q. there)) (choices.meaning values)));
      branches = choices.over terms (in_b, (in_a, (in_c, tt)));
    }
