-- The kinds of the variables of a text without faults are legal, narrow and small.
use Rattle.std.proofs.Common.{◌≡◌, ℕ, ◌≤◌, List, [], ◌∷◌, length, Option, Some, None, ℤ, refl, sym, ap, subst, ◌∙◌, inl, inr, arith}
use Rattle.std.proofs.lemmas.Int.{ints}
use Rattle.std.specs.Prelude.{All, IfSome, ⊤, ◌≤ℤ◌, unsigned_abs}
use Rattle.std.proofs.lemmas.Option.{none-some, same_Some}
use Rattle.std.proofs.lemmas.List.Elements.{All-cons, All-contains, All-head, All-nil, All-tail}
use Rattle.fzn_parser.specs.declared.tree.Num.{Num}
use Rattle.fzn_parser.specs.declared.tree.Num.TheVariants as nums
use Rattle.fzn_parser.specs.declared.tree.Number.{Number}
use Rattle.fzn_parser.specs.declared.tree.SetForm.{SetForm}
use Rattle.fzn_parser.specs.declared.tree.SetForm.TheVariants as sets
use Rattle.fzn_parser.specs.declared.tree.Expr.{Expr}
use Rattle.fzn_parser.specs.declared.tree.Ident.{Ident}
use Rattle.fzn_parser.specs.declared.tree.Ann.{Ann}
use Rattle.fzn_parser.specs.declared.tree.TypeExpr.{TypeExpr}
use Rattle.fzn_parser.specs.declared.tree.TypeForm.{TypeForm}
use Rattle.fzn_parser.specs.declared.tree.TypeForm.TheVariants as types
use Rattle.fzn_parser.specs.declared.tree.Form.TheVariants as forms
use Rattle.fzn_parser.specs.declared.tree.Item.{Item}
use Rattle.fzn_parser.specs.Places.{IsSmall, numbers_in_type, numbers_of}
use Rattle.set_meaning.specs.declared.kinds.Kind.{Kind}
use Rattle.set_meaning.specs.declared.kinds.Kind.TheVariants as kind
use Rattle.set_meaning.specs.Problems.{IsKind}
use Rattle.set_meaning.specs.Sets.{Has, IsAscending, ascending_set, integers_between}
use Rattle.set_meaning.proofs.Ascending.{IsSetOf-ascending_set}
use Rattle.set_meaning.proofs.Ranges.{IsAscending-integers_between, integers_between_members}
use Rattle.bit_layout.specs.Words.{IsLeastWidth, bit_width, span, width_of}
use Rattle.bit_layout.specs.Limits.{IsNarrow}
use Rattle.problem_limits.specs.Limits.{HasSmallNumbers, IsSmallNumber}
use Rattle.fzn_model.specs.declared.faults.ModelFault.TheVariants as faults
use Rattle.fzn_model.specs.Lists.{each_of}
use Rattle.fzn_model.specs.Entities.{elements_of, integer_in, integer_of, range_of}
use Rattle.fzn_model.specs.ProblemOf.{kind_of}
use Rattle.fzn_model.specs.FaultsOf.{IsFaultAfter}
use Rattle.fzn_model.specs.FirstFault.{AreNone}
use Rattle.fzn_model.proofs.Among.{all_from_members}
use Rattle.fzn_model.proofs.Sound.{le_unless}
use Rattle.model_limits.specs.SetLimits.{HasSmallUniverse, IsSmallElement}
use Rattle.model_limits.proofs.FineTerms.{IsSmallAt, both_there, small_number}
use Rattle.model_limits.proofs.FineConstraints.{map_some}

abbrev IsSmallInt : ℤ → Type 0
IsSmallInt x = IsSmall (nums.Int x)

-- ---- elements of a literal

integer_small : (n : Num) → IsSmall n → IfSome (integer_in n) IsSmallInt
integer_small (nums.Int x) h = h
integer_small nums.Large h = tt
integer_small nums.Float h = tt

between_small : (lo hi x : ℤ) → IsSmallInt lo → IsSmallInt hi → lo ≤ℤ x → x ≤ℤ hi → IsSmallInt x
between_small lo hi x a b p q = let c = a.0 in let d = b.1 in (omega (arith, ints), omega (arith, ints))

range_elements : (lo hi : ℤ) → IsSmallInt lo → IsSmallInt hi → All IsSmallNumber (integers_between lo hi)
unfolding Has
range_elements lo hi a b =
    all_from_members IsSmallNumber (integers_between lo hi) (λ x h.
    let m = (integers_between_members lo hi x).0 h in small_number x (between_small lo hi x a b m.0 m.1))

range_small : (o p : Option ℤ) (xs : List ℤ) → range_of o p ≡ Some xs → IfSome o IsSmallInt → IfSome p IsSmallInt → All IsSmallNumber xs × IsAscending xs
range_small None p xs e a b = absurd (none-some xs e)
range_small (Some lo) None xs e a b = absurd (none-some xs e)
range_small (Some lo) (Some hi) xs e a b =
    let is : integers_between lo hi ≡ xs = same_Some (integers_between lo hi) xs e in
    (subst (All IsSmallNumber) is (range_elements lo hi a b), subst IsAscending is (IsAscending-integers_between lo hi))

each_small : (ns : List Number) (ys : List ℤ) → each_of integer_of ns ≡ Some ys → All IsSmallAt ns → All IsSmallNumber ys
each_small [] ys e h = subst (All IsSmallNumber) (same_Some [] ys e) (All-nil IsSmallNumber)
each_small (n ∷ ns) ys e h =
    let both = both_there (integer_of n) (each_of integer_of ns) ys e in
    let own : IsSmallInt both.head = subst (λ (o : Option ℤ). IfSome o IsSmallInt) both.first (integer_small n.num (All-head IsSmallAt n ns h)) in
    subst (All IsSmallNumber) (sym both.all)
    (All-cons IsSmallNumber both.head both.tail (small_number both.head own) (each_small ns both.tail both.rest (All-tail IsSmallAt n ns h)))

set_small : (ys : List ℤ) → All IsSmallNumber ys → All IsSmallNumber (ascending_set ys)
unfolding Has
set_small ys h = all_from_members IsSmallNumber (ascending_set ys) (λ x k. All-contains IsSmallNumber ys x h (((IsSetOf-ascending_set ys).members x).0 k))

pub elements_small : (s : SetForm) (xs : List ℤ) → elements_of s ≡ Some xs → All IsSmallAt (numbers_of s) → All IsSmallNumber xs × IsAscending xs
elements_small (sets.Range low high) xs e h =
    range_small (integer_of low) (integer_of high) xs e
    (integer_small low.num (All-head IsSmallAt low (high ∷ []) h))
    (integer_small high.num (All-head IsSmallAt high [] (All-tail IsSmallAt low (high ∷ []) h)))
elements_small (sets.List ns) xs e h =
    let m = map_some (each_of integer_of ns) ascending_set xs e in
    (subst (All IsSmallNumber) m.2 (set_small m.0 (each_small ns m.0 m.1 h)), subst IsAscending m.2 (IsSetOf-ascending_set m.0).ascending)

-- ---- kinds

abbrev pub HasFewElements : Kind → Type 0
HasFewElements (kind.Set universe) = length universe ≤ 512
HasFewElements _ = ⊤

pub record IsGoodKind (k : Kind) : Type 0 where
  pub legal : IsKind k
  pub narrow : IsNarrow k
  pub numbers : HasSmallNumbers k
  pub few : HasFewElements k
  pub universe : HasSmallUniverse k

pub good_kind : (before : List Item) (at : ℕ) (t : TypeExpr) (ident : Ident) (anns : List Ann) (e : Option Expr)
    → AreNone (IsFaultAfter before (record { at = at; form = forms.Variable t ident anns e })) → All IsSmallAt (numbers_in_type t.form)
    → (form : TypeForm) → t.form ≡ form → (k : Kind) → kind_of form ≡ Some k → IsGoodKind k
good_kind before at t ident anns e none h types.Bool q k is =
    subst IsGoodKind (same_Some kind.Bool k is) (record { legal = tt; narrow = tt; numbers = tt; few = tt; universe = tt })
good_kind before at t ident anns e none h types.Int q k is = absurd (none-some k is)
good_kind before at t ident anns e none h types.Float q k is = absurd (none-some k is)
good_kind before at t ident anns e none h types.SetOfInt q k is = absurd (none-some k is)
good_kind before at t ident anns e none h (types.Within s) q k is =
    let m = map_some (elements_of s) kind.Int k is in
    let small = elements_small s m.0 m.1 (subst (λ (f : TypeForm). All IsSmallAt (numbers_in_type f)) q h) in
    subst IsGoodKind m.2 (record {
      legal = (small.1, λ z. none (faults.EmptyDomain t.at) (inr (inl (s, q, m.1 ∙ ap Some z, refl))));
      narrow = le_unless 65535 (span m.0) (λ w. none (faults.IntTooWide t.at) (inr (inl (m.0, (s, q, m.1, refl), w))));
      numbers = small.0;
      few = tt;
      universe = tt;
    })
good_kind before at t ident anns e none h (types.SetWithin s) q k is =
    let m = map_some (elements_of s) kind.Set k is in
    let small = elements_small s m.0 m.1 (subst (λ (f : TypeForm). All IsSmallAt (numbers_in_type f)) q h) in
    let few : length m.0 ≤ 512 = le_unless 512 (length m.0) (λ w. none (faults.SetTooWide t.at) (inr (inl (m.0, (s, q, m.1, refl), w)))) in
    subst IsGoodKind m.2 (record {
      legal = small.1;
      narrow = tt;
      numbers = tt;
      few = few;
      universe = (
        few,
        all_from_members IsSmallElement m.0 (λ x k. le_unless 1000000 (unsigned_abs x)
            (λ w. none (faults.ElementRange t.at) (inr (inl (m.0, (s, q, m.1, refl), (k.0, x, k.1, k.2, w)))))),
      );
    })

-- a good kind has few bits
pub thin : ((n : ℕ) → IsLeastWidth n (bit_width n)) → (k : Kind) → IsGoodKind k → width_of k ≤ 512
thin law kind.Bool h = omega arith
thin law (kind.Int numbers) h =
    let s : span numbers ≤ 65535 = h.narrow in
    let w : bit_width (span numbers) ≤ 16 = (law (span numbers)).least 16 (omega arith) in
    omega (arith, w)
thin law (kind.Set universe) h = let f : length universe ≤ 512 = h.few in omega (arith, f)
