-- Membership as branches of the numbers that a term can be.
use Rattle.std.proofs.Common.{◌≡◌, ◌↔◌, ◌<◌, ℕ, ℤ, pos, List, [], ◌∷◌, ◌++◌, length, get_or, Option, Some, None, refl, sym, ap, ◌∙◌, subst, inl, inr, arith, Contains}
use Rattle.std.specs.Prelude.{Any, slice_get, IsSomeAnd, option_map, option_and_then, filter_map, ⊤}
use Rattle.std.specs.Option.{option_map_or}
use Rattle.std.specs.List.{All, AllZip}
use Rattle.std.proofs.lemmas.List.Elements.{All-from_get_or, Contains-get_or}
use Rattle.set_meaning.specs.declared.kinds.Kind.{Kind}
use Rattle.set_meaning.specs.declared.kinds.Kind.TheVariants as kind
use Rattle.set_meaning.specs.declared.kinds.Value.{Value}
use Rattle.set_meaning.specs.declared.kinds.Value.TheVariants as value
use Rattle.set_meaning.specs.declared.problems.VarId.{VarId}
use Rattle.set_meaning.specs.declared.problems.Term.{Term}
use Rattle.set_meaning.specs.declared.problems.Term.TheVariants.{Const, Var}
use Rattle.set_meaning.specs.declared.problems.Arg.TheVariants.{One, Many}
use Rattle.set_meaning.specs.declared.problems.Relation.TheVariants.{SetIn}
use Rattle.set_meaning.specs.declared.rows.Sort.TheVariants.{IntegerSet}
use Rattle.set_meaning.specs.Kinds.{InKind, IsSetWithin}
use Rattle.set_meaning.specs.Sets.{Has, IsSubset}
use Rattle.set_meaning.specs.Arguments.{int_of_term, set_of_term, set_in, OfTwo}
use Rattle.set_meaning.specs.Relations.{HoldsOf, variable_of}
use Rattle.set_meaning.specs.Rows.{HasSort, HasShape, row_of, shapes_of, sort_of_kind}
use Rattle.scope_words.specs.Words.{IsSetKind}
use Rattle.bit_layout.proofs.Rising.{in_head, in_tail}
use Rattle.int_channel.specs.declared.forms.Atom.{Atom}
use Rattle.int_channel.specs.declared.forms.Atom.TheVariants.{Member}
use Rattle.int_channel.specs.declared.forms.Branch.{Branch}
use Rattle.int_channel.specs.Forms.{HasElement, BranchHolds, HaveValues, AreBranchesOf}
use Rattle.int_channel.specs.Choices.{number_of_term, AreChoicesOf, IsAtomWhere, IsBranchWhere, IsOneOf, MayHave, TermHas, elements_in, elements_of, numbers_of}
use Rattle.int_channel.proofs.ChoiceSums.{variables_have}
use Rattle.int_channel.proofs.ChoiceTerms.{IsKnown, known, int_known, value_there}
use Rattle.int_channel.proofs.ChoiceBranches.{branch}
use Rattle.int_channel.proofs.ChoiceIntegers.{of_two_known}
use Rattle.int_channel.proofs.ChoiceLoops.{is_one_of}
use Rattle.int_channel.proofs.ChoiceProducts.{number_listed, iff_to}

-- ---- one number

pub constant_branch : (kinds : List Kind) (t : Term) (v : Value) (n : ℤ) (p q : Atom) → MayHave kinds n (Const v) → IsAtomWhere (t ∷ []) (λ values. number_of_term values t ≡ n) p → IsAtomWhere [] (λ values. ⊤) q
    → IsBranchWhere kinds (t ∷ Const v ∷ []) (λ values. (number_of_term values t ≡ n) × TermHas values (Const v) n) (branch p q)
constant_branch kinds t v n p q may first second =
    record {
      meaning = λ values. (
        λ h. ((first.meaning values).0 h.0, (second.meaning values).0 tt),
        λ h. ((first.meaning values).1 h.0, may),
      );
      over = λ terms among. (first.over kinds terms (among.0, tt), second.over kinds terms tt);
    }

pub variable_branch : (kinds : List Kind) (t : Term) (x : VarId) (n : ℤ) (p : Atom) → MayHave kinds n (Var x) → IsAtomWhere (t ∷ []) (λ values. number_of_term values t ≡ n) p
    → IsBranchWhere kinds (t ∷ Var x ∷ []) (λ values. (number_of_term values t ≡ n) × TermHas values (Var x) n) (branch p (Member x n))
variable_branch kinds t x n p may first =
    record {
      meaning = λ values. (
        λ h. ((first.meaning values).0 h.0, h.1),
        λ h. ((first.meaning values).1 h.0, h.1),
      );
      over = λ terms among. (first.over kinds terms (among.0, tt), (variables_have terms x among.1.0, may));
    }

-- ---- what a set has

set_kind : (o : Option Kind) → option_map sort_of_kind o ≡ Some IntegerSet → IsSomeAnd o IsSetKind
set_kind None e = absurd (let never : None ≡ Some IntegerSet = e in cc)
set_kind (Some kind.Bool) e = absurd (cc)
set_kind (Some (kind.Int numbers)) e = absurd (cc)
set_kind (Some (kind.Set universe)) e = tt

pub may_have : (kinds : List Kind) (t : Term) (n : ℤ) → HasSort kinds IntegerSet t → Has (elements_of kinds t) n → MayHave kinds n t
may_have kinds (Const (value.Bool b)) n sort h = absurd sort
may_have kinds (Const (value.Int x)) n sort h = absurd sort
may_have kinds (Const (value.Set s)) n sort h = h
may_have kinds (Var x) n sort h = set_kind (slice_get kinds x.0) sort

pub all_may : (kinds : List Kind) (t : Term) (numbers kept : List ℤ) → HasSort kinds IntegerSet t → ((n : ℤ) → Contains kept n ↔ (Contains numbers n × Has (elements_of kinds t) n)) → All (λ n. MayHave kinds n t) kept
all_may kinds t numbers kept sort h =
    All-from_get_or (λ n. MayHave kinds n t) kept (pos 0) (λ i within. let n = get_or kept i (pos 0) in may_have kinds t n sort ((h n).0 (Contains-get_or kept i (pos 0) within)).1)

record SetKnown (kinds : List Kind) (values : List Value) (t : Term) (s : List ℤ) : Type 0 where
  pub is : set_of_term values t ≡ Some s
  pub has : (e : ℤ) → Has s e ↔ TermHas values t e
  pub within : (e : ℤ) → Has s e → Has (elements_of kinds t) e

set_in_kind : (o : Option Kind) (y : Value) → option_map sort_of_kind o ≡ Some IntegerSet → IsSomeAnd o (λ k. InKind k y) → (s : List ℤ) × (y ≡ value.Set s) × ((e : ℤ) → Has s e → Has (option_map_or elements_in o []) e)
unfolding InKind IsSubset
set_in_kind None y e h = absurd h
set_in_kind (Some kind.Bool) y e h = absurd (cc)
set_in_kind (Some (kind.Int numbers)) y e h = absurd (cc)
set_in_kind (Some (kind.Set u)) (value.Bool b) e h = absurd h
set_in_kind (Some (kind.Set u)) (value.Int n) e h = absurd h
set_in_kind (Some (kind.Set u)) (value.Set s) e h = (s, refl, h.within)

set_known : (kinds : List Kind) (values : List Value) (t : Term) → HasSort kinds IntegerSet t → IsKnown kinds values t → (s : List ℤ) × SetKnown kinds values t s
set_known kinds values (Const (value.Bool b)) sort h = absurd sort
set_known kinds values (Const (value.Int n)) sort h = absurd sort
set_known kinds values (Const (value.Set s)) sort h = (s, record { is = refl; has = λ e. (λ x. x, λ x. x); within = λ e x. x })
set_known kinds values (Var x) sort h =
    let y = value_there kinds x (slice_get values x.0) (h.value x refl) in
    let s = set_in_kind (slice_get kinds x.0) y.0 sort y.2 in
    let is : slice_get values x.0 ≡ Some (value.Set s.0) = y.1 ∙ ap Some s.1 in (
      s.0,
      record {
        is = ap (option_and_then set_in) is;
        has = λ e. (λ here. subst (λ o. IsSomeAnd o (HasElement e)) (sym is) here, λ there. subst (λ o. IsSomeAnd o (HasElement e)) is there);
        within = s.2;
      },
    )

pub member_branches : (kinds : List Kind) (a b : Term) (numbers shared : List ℤ) (bs : List Branch) → numbers ≡ numbers_of kinds a
    → ((n : ℤ) → Contains shared n ↔ (Contains numbers n × Has (elements_of kinds b) n)) → AreChoicesOf kinds (a ∷ b ∷ []) (IsOneOf a shared (λ n values. TermHas values b n)) bs
    → AllZip (HasShape kinds) (shapes_of (row_of SetIn)) (One a ∷ One b ∷ []) → AreBranchesOf kinds SetIn (One a ∷ One b ∷ []) bs
unfolding HoldsOf
member_branches kinds a b numbers shared bs listed kept choices fits =
    let terms : List Term = a ∷ b ∷ [] in
    let in_a : Contains terms a = in_head a (b ∷ []) in
    let in_b : Contains terms b = in_tail a (b ∷ []) b (in_head b []) in
    let Q : ℤ → List Value → Type 0 = λ n values. TermHas values b n in
    record {
      meaning = λ values have.
          let x = number_of_term values a in
          let a_known = known kinds terms values a have in_a in
          let s = set_known kinds values b fits.1.0 (known kinds terms values b have in_b) in
          let there : Contains numbers x = subst (λ (ns : List ℤ). Contains ns x) (sym listed) (number_listed kinds values a fits.0 a_known) in
          of_two_known (λ x a. Has a x) (int_of_term values a) (set_of_term values b) x s.0 (int_known kinds values a fits.0 a_known) s.1.is (Any (BranchHolds values) bs)
          (iff_to (Has s.0 x) (TermHas values b x) (Any (BranchHolds values) bs) (s.1.has x)
          (iff_to (TermHas values b x) (IsOneOf a shared Q values) (Any (BranchHolds values) bs)
          (is_one_of a shared Q values (λ q. (kept x).1 (there, s.1.within x ((s.1.has x).1 q)))) (choices.meaning values)));
      branches = choices.over terms (in_a, (in_b, tt));
    }
