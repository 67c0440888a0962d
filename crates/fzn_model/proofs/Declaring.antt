-- The rules on declarations together, and those of them that need more than a test.
use Rattle.std.proofs.Common.{◌≡◌, ◌⊎◌, ◌↔◌, ℕ, ◌+◌, ◌<◌, Bool, true, false, cond, IsTrue, List, [], ◌∷◌, ◌++◌, length, Option, Some, None, refl, sym, ap, ◌∙◌, subst, inl, inr, arith, Any}
use Rattle.std.specs.Prelude.{not, sum_by, Result, IfOk}
use Rattle.std.specs.Option.{option_map}
use Rattle.std.proofs.lemmas.List.Sums.{sum_by_push}
use Rattle.fzn_parser.specs.declared.tree.Form.{Form}
use Rattle.fzn_parser.specs.declared.tree.Form.TheVariants as forms
use Rattle.fzn_parser.specs.declared.tree.Item.{Item}
use Rattle.fzn_parser.specs.declared.tree.TypeExpr.{TypeExpr}
use Rattle.fzn_parser.specs.declared.tree.Ident.{Ident}
use Rattle.fzn_parser.specs.declared.tree.Ann.{Ann}
use Rattle.fzn_parser.specs.declared.tree.Basic.{Basic}
use Rattle.fzn_parser.specs.declared.tree.Number.{Number}
use Rattle.fzn_parser.specs.declared.tree.Expr.{Expr}
use Rattle.set_meaning.specs.declared.kinds.Kind.{Kind}
use Rattle.bit_layout.specs.Words.{span}
use Rattle.bit_layout.specs.Limits.{counted_bits}
use Rattle.fzn_model.specs.declared.faults.ModelFault.{ModelFault}
use Rattle.fzn_model.specs.declared.faults.ModelFault.TheVariants as faults
use Rattle.fzn_model.specs.declared.declarations.Bounds.{Bounds}
use Rattle.fzn_model.specs.declared.weights.Weight.{Weight}
use Rattle.fzn_model.specs.Limits.{bit_limit, span_limit, universe_limit, value_limit}
use Rattle.fzn_model.specs.Lists.{append_some}
use Rattle.fzn_model.specs.ProblemOf.{kind_of, kinds_of}
use Rattle.fzn_model.specs.FaultsOf.{AreTooManyBits, HasLargeUniverse, HaveTooManyBits, InDeclaration, IsBadOutput, IsDeclaredTwice, IsDomain, IsEmptyDomain, IsFloatType, IsLargeElement, IsLength, IsUnbounded, IsUniverse, IsWideDomain, IsWideUniverse, IsWrongLength, declared_numbers, integer_values, up_to}
use Rattle.fzn_model.specs.FirstFault.{AtPlaces, IsFirstOf, first_told}
use Rattle.fzn_model.specs.Weights.{HasWeight, IsWeight}
use Rattle.fzn_model.specs.DeclarationRules.{AreBounds, HasNumberFault, IsBounds, IsHidden}
use Rattle.fzn_model.specs.Outputs.{dims_shown, shows_scalar}
use Rattle.fzn_model.proofs.Firsts.{broken_nowhere, either_first, same_first}
use Rattle.fzn_model.proofs.MoreKinds.{kinds_more}
use Rattle.fzn_model.proofs.Rules.{FloatAmong, LargeAmong, float_fault, large_fault, number_rules, rule_is}

-- ---- all rules

module _ (before : List Item) (item : Item) where
  abbrev Names : ModelFault → Type 0
  Names f = AtPlaces faults.DeclaredTwice (IsDeclaredTwice before item) f ⊎ AtPlaces faults.TooManyBits (AreTooManyBits before item) f

  abbrev pub Domains : ModelFault → Type 0
  Domains f = AtPlaces faults.EmptyDomain (IsEmptyDomain item) f ⊎ AtPlaces faults.IntTooWide (IsWideDomain item) f

  abbrev pub Universes : ModelFault → Type 0
  Universes f = AtPlaces faults.SetTooWide (IsWideUniverse item) f ⊎ AtPlaces faults.ElementRange (HasLargeUniverse item) f

  abbrev Types : ModelFault → Type 0
  Types f = AtPlaces faults.Unbounded (IsUnbounded item.form) f ⊎ AtPlaces faults.Float (IsFloatType item) f

  abbrev Bounded : ModelFault → Type 0
  Bounded f = Domains f ⊎ Universes f

  abbrev Numbers : ModelFault → Type 0
  Numbers f = HasNumberFault (declared_numbers item.form) f ⊎ Bounded f

  abbrev Sorts : ModelFault → Type 0
  Sorts f = Types f ⊎ Numbers f

  abbrev Shapes : ModelFault → Type 0
  Shapes f = AtPlaces faults.WrongCount (IsWrongLength item.form) f ⊎ AtPlaces faults.BadOutput (IsBadOutput item.form) f

  abbrev Others : ModelFault → Type 0
  Others f = Sorts f ⊎ Shapes f

  abbrev All : ModelFault → Type 0
  All f = Names f ⊎ Others f

  to_all : (f : ModelFault) → InDeclaration before item f → All f
  to_all (faults.Undeclared at) h = absurd h
  to_all (faults.DeclaredTwice at) h = inl (inl (at, refl, h))
  to_all (faults.WrongType at) h = absurd h
  to_all (faults.UnknownConstraint at) h = absurd h
  to_all (faults.WrongCount at) h = inr (inr (inl (at, refl, h)))
  to_all (faults.Unbounded at) h = inr (inl (inl (inl (at, refl, h))))
  to_all (faults.Float at) h = elim h [ inl t ↦ inr (inl (inl (inr (at, refl, t)))) | inr n ↦ inr (inl (inr (inl (float_fault (declared_numbers item.form) at n)))) ]
  to_all (faults.NumberTooLarge at) h = inr (inl (inr (inl (large_fault (declared_numbers item.form) at h))))
  to_all (faults.EmptyDomain at) h = inr (inl (inr (inr (inl (inl (at, refl, h))))))
  to_all (faults.IntTooWide at) h = inr (inl (inr (inr (inl (inr (at, refl, h))))))
  to_all (faults.SetTooWide at) h = inr (inl (inr (inr (inr (inl (at, refl, h))))))
  to_all (faults.ElementRange at) h = inr (inl (inr (inr (inr (inr (at, refl, h))))))
  to_all (faults.ScopeTooWide at) h = absurd h
  to_all (faults.TooManyBits at) h = inl (inr (at, refl, h))
  to_all (faults.TooManyConstraints at) h = absurd h
  to_all (faults.BadOutput at) h = inr (inr (inr (at, refl, h)))
  to_all (faults.ObjectiveNotInt at) h = absurd h
  to_all faults.Memory h = absurd h

  back : (told : ℕ → ModelFault) (comes : ℕ → Type 0) (f : ModelFault) → ((at : ℕ) → comes at → InDeclaration before item (told at)) → AtPlaces told comes f
      → InDeclaration before item f
  back told comes f is h = subst (InDeclaration before item) (sym h.1) (is h.0 h.2)

  from_numbers : (f : ModelFault) → HasNumberFault (declared_numbers item.form) f → InDeclaration before item f
  from_numbers f h =
      elim (number_rules (declared_numbers item.form) f h) [
        | inl float ↦ back faults.Float (FloatAmong (declared_numbers item.form)) f (λ at c. inr c) float
        | inr large ↦ back faults.NumberTooLarge (LargeAmong (declared_numbers item.form)) f (λ at c. c) large
      ]

  from_names : (f : ModelFault) → Names f → InDeclaration before item f
  from_names f (inl h) = back faults.DeclaredTwice (IsDeclaredTwice before item) f (λ at c. c) h
  from_names f (inr h) = back faults.TooManyBits (AreTooManyBits before item) f (λ at c. c) h

  from_types : (f : ModelFault) → Types f → InDeclaration before item f
  from_types f (inl h) = back faults.Unbounded (IsUnbounded item.form) f (λ at c. c) h
  from_types f (inr h) = back faults.Float (IsFloatType item) f (λ at c. inl c) h

  from_bounded : (f : ModelFault) → Bounded f → InDeclaration before item f
  from_bounded f (inl (inl h)) = back faults.EmptyDomain (IsEmptyDomain item) f (λ at c. c) h
  from_bounded f (inl (inr h)) = back faults.IntTooWide (IsWideDomain item) f (λ at c. c) h
  from_bounded f (inr (inl h)) = back faults.SetTooWide (IsWideUniverse item) f (λ at c. c) h
  from_bounded f (inr (inr h)) = back faults.ElementRange (HasLargeUniverse item) f (λ at c. c) h

  from_sorts : (f : ModelFault) → Sorts f → InDeclaration before item f
  from_sorts f (inl h) = from_types f h
  from_sorts f (inr (inl h)) = from_numbers f h
  from_sorts f (inr (inr h)) = from_bounded f h

  from_shapes : (f : ModelFault) → Shapes f → InDeclaration before item f
  from_shapes f (inl h) = back faults.WrongCount (IsWrongLength item.form) f (λ at c. c) h
  from_shapes f (inr h) = back faults.BadOutput (IsBadOutput item.form) f (λ at c. c) h

  from_all : (f : ModelFault) → All f → InDeclaration before item f
  from_all f (inl h) = from_names f h
  from_all f (inr (inl h)) = from_sorts f h
  from_all f (inr (inr h)) = from_shapes f h

  pub all_first : (twice bits loose float number domain universe len output : Option ModelFault)
      → IsFirstOf (AtPlaces faults.DeclaredTwice (IsDeclaredTwice before item)) twice
      → IsFirstOf (AtPlaces faults.TooManyBits (AreTooManyBits before item)) bits
      → IsFirstOf (AtPlaces faults.Unbounded (IsUnbounded item.form)) loose
      → IsFirstOf (AtPlaces faults.Float (IsFloatType item)) float
      → IsFirstOf (HasNumberFault (declared_numbers item.form)) number
      → IsFirstOf Domains domain
      → IsFirstOf Universes universe
      → IsFirstOf (AtPlaces faults.WrongCount (IsWrongLength item.form)) len
      → IsFirstOf (AtPlaces faults.BadOutput (IsBadOutput item.form)) output
      → IsFirstOf (InDeclaration before item)
      (first_told (first_told twice bits)
      (first_told (first_told (first_told loose float) (first_told number (first_told domain universe))) (first_told len output)))
  all_first twice bits loose float number domain universe len output tw bi lo fl nu dom un le ou =
      let names : IsFirstOf Names (first_told twice bits) = either_first (AtPlaces faults.DeclaredTwice (IsDeclaredTwice before item)) (AtPlaces faults.TooManyBits (AreTooManyBits before item)) twice bits tw bi in
      let types : IsFirstOf Types (first_told loose float) = either_first (AtPlaces faults.Unbounded (IsUnbounded item.form)) (AtPlaces faults.Float (IsFloatType item)) loose float lo fl in
      let bounded : IsFirstOf Bounded (first_told domain universe) = either_first Domains Universes domain universe dom un in
      let numbers : IsFirstOf Numbers (first_told number (first_told domain universe)) = either_first (HasNumberFault (declared_numbers item.form)) Bounded number (first_told domain universe) nu bounded in
      let sorts : IsFirstOf Sorts (first_told (first_told loose float) (first_told number (first_told domain universe)))
      = either_first Types Numbers (first_told loose float) (first_told number (first_told domain universe)) types numbers in
      let shapes : IsFirstOf Shapes (first_told len output) = either_first (AtPlaces faults.WrongCount (IsWrongLength item.form)) (AtPlaces faults.BadOutput (IsBadOutput item.form)) len output le ou in
      let others : IsFirstOf Others (first_told (first_told (first_told loose float) (first_told number (first_told domain universe))) (first_told len output))
      = either_first Sorts Shapes (first_told (first_told loose float) (first_told number (first_told domain universe))) (first_told len output) sorts shapes in
      same_first {P = All} {Q = InDeclaration before item} from_all to_all _
      (either_first Names Others (first_told twice bits) (first_told (first_told (first_told loose float) (first_told number (first_told domain universe))) (first_told len output)) names others)

  pub all_joined : (twice bits loose float number domain universe len output name types bounded numbers sorts shapes others all : Option ModelFault)
      → name ≡ first_told twice bits → types ≡ first_told loose float → bounded ≡ first_told domain universe → numbers ≡ first_told number bounded
      → sorts ≡ first_told types numbers → shapes ≡ first_told len output → others ≡ first_told sorts shapes → all ≡ first_told name others
      → IsFirstOf (AtPlaces faults.DeclaredTwice (IsDeclaredTwice before item)) twice
      → IsFirstOf (AtPlaces faults.TooManyBits (AreTooManyBits before item)) bits
      → IsFirstOf (AtPlaces faults.Unbounded (IsUnbounded item.form)) loose
      → IsFirstOf (AtPlaces faults.Float (IsFloatType item)) float
      → IsFirstOf (HasNumberFault (declared_numbers item.form)) number
      → IsFirstOf Domains domain
      → IsFirstOf Universes universe
      → IsFirstOf (AtPlaces faults.WrongCount (IsWrongLength item.form)) len
      → IsFirstOf (AtPlaces faults.BadOutput (IsBadOutput item.form)) output
      → IsFirstOf (InDeclaration before item) all
  all_joined twice bits loose float number domain universe len output name types bounded numbers sorts shapes others all e1 e2 e3 e4 e5 e6 e7 e8 tw bi lo fl nu dom un le ou =
      let e : all ≡ first_told (first_told twice bits)
      (first_told (first_told (first_told loose float) (first_told number (first_told domain universe))) (first_told len output)) = cc in
      subst (IsFirstOf (InDeclaration before item)) (sym e) (all_first twice bits loose float number domain universe len output tw bi lo fl nu dom un le ou)

-- ---- bounds

module _ (item : Item) (b : Bounds) where
  no_elements : {X : Type 0} (xs : List X) → 0 ≡ length xs → xs ≡ []
  no_elements [] e = refl
  no_elements (x ∷ xs) e = absurd (omega arith)

  pub domain_first : (o : Option Bounds) → AreBounds (IsDomain item.form) o → o ≡ Some b → (some_empty some_wide some : Option ModelFault) (empty wide : Bool)
      → some_empty ≡ cond empty (Some (faults.EmptyDomain b.at)) None → (IsTrue empty ↔ (b.extent.count ≡ 0))
      → some_wide ≡ cond wide (Some (faults.IntTooWide b.at)) None → (IsTrue wide ↔ (span_limit < b.extent.span))
      → some ≡ first_told some_empty some_wide
      → IsFirstOf (λ f. AtPlaces faults.EmptyDomain (IsEmptyDomain item) f ⊎ AtPlaces faults.IntTooWide (IsWideDomain item) f) some
  domain_first o are is some_empty some_wide some empty wide e empty_is w wide_is joined =
      let h : IsBounds (IsDomain item.form) b = subst (AreBounds (IsDomain item.form)) is are in
      let counted : b.extent.count ≡ length h.elements = h.extent_is.counted in
      let spanned : b.extent.span ≡ span h.elements = h.extent_is.spanned in
      let first_empty : IsFirstOf (AtPlaces faults.EmptyDomain (IsEmptyDomain item)) some_empty
      = rule_is faults.EmptyDomain (IsEmptyDomain item) b.at empty some_empty e (
        λ t. subst (IsDomain item.form b.at) (no_elements h.elements (sym (empty_is.0 t) ∙ counted)) h.has,
        λ d. empty_is.1 (counted ∙ ap length (sym (h.only b.at [] d))),
      )
      (λ at d. h.only_at at [] d) in
      let first_wide : IsFirstOf (AtPlaces faults.IntTooWide (IsWideDomain item)) some_wide
      = rule_is faults.IntTooWide (IsWideDomain item) b.at wide some_wide w (
        λ t. (h.elements, h.has, let far : span_limit < b.extent.span = wide_is.0 t in subst (λ n. span_limit < n) spanned far),
        λ d. wide_is.1 (subst (λ n. span_limit < n) (ap span (h.only b.at d.0 d.1) ∙ sym spanned) d.2),
      )
      (λ at d. h.only_at at d.0 d.1) in
      subst (IsFirstOf (λ f. AtPlaces faults.EmptyDomain (IsEmptyDomain item) f ⊎ AtPlaces faults.IntTooWide (IsWideDomain item) f)) (sym joined)
      (either_first (AtPlaces faults.EmptyDomain (IsEmptyDomain item)) (AtPlaces faults.IntTooWide (IsWideDomain item)) some_empty some_wide first_empty first_wide)

  pub no_domain : (o : Option Bounds) → AreBounds (IsDomain item.form) o → o ≡ None
      → IsFirstOf (λ f. AtPlaces faults.EmptyDomain (IsEmptyDomain item) f ⊎ AtPlaces faults.IntTooWide (IsWideDomain item) f) None
  no_domain o are is =
      let none : AreBounds (IsDomain item.form) None = subst (AreBounds (IsDomain item.form)) is are in
      λ f h. elim h [ inl e ↦ none e.0 [] e.2 | inr w ↦ none w.0 w.2.0 w.2.1 ]

  pub universe_first : (o : Option Bounds) → AreBounds (IsUniverse item.form) o → o ≡ Some b → (some_wide some_large some : Option ModelFault) (wide large : Bool)
      → some_wide ≡ cond wide (Some (faults.SetTooWide b.at)) None → (IsTrue wide ↔ (universe_limit < b.extent.count))
      → some_large ≡ cond large (Some (faults.ElementRange b.at)) None → large ≡ b.extent.has_large
      → some ≡ first_told some_wide some_large
      → IsFirstOf (λ f. AtPlaces faults.SetTooWide (IsWideUniverse item) f ⊎ AtPlaces faults.ElementRange (HasLargeUniverse item) f) some
  universe_first o are is some_wide some_large some wide large w wide_is l large_is joined =
      let h : IsBounds (IsUniverse item.form) b = subst (AreBounds (IsUniverse item.form)) is are in
      let counted : b.extent.count ≡ length h.elements = h.extent_is.counted in
      let has : IsTrue b.extent.has_large ↔ Any IsLargeElement h.elements = h.extent_is.large in
      let first_wide : IsFirstOf (AtPlaces faults.SetTooWide (IsWideUniverse item)) some_wide
      = rule_is faults.SetTooWide (IsWideUniverse item) b.at wide some_wide w (
        λ t. (h.elements, h.has, subst (λ n. universe_limit < n) counted (wide_is.0 t)),
        λ d. wide_is.1 (subst (λ n. universe_limit < n) (ap length (h.only b.at d.0 d.1) ∙ sym counted) d.2),
      )
      (λ at d. h.only_at at d.0 d.1) in
      let first_large : IsFirstOf (AtPlaces faults.ElementRange (HasLargeUniverse item)) some_large
      = rule_is faults.ElementRange (HasLargeUniverse item) b.at large some_large l (
        λ t. (h.elements, h.has, has.0 (sym large_is ∙ t)),
        λ d. large_is ∙ has.1 (subst (Any IsLargeElement) (h.only b.at d.0 d.1) d.2),
      )
      (λ at d. h.only_at at d.0 d.1) in
      subst (IsFirstOf (λ f. AtPlaces faults.SetTooWide (IsWideUniverse item) f ⊎ AtPlaces faults.ElementRange (HasLargeUniverse item) f)) (sym joined)
      (either_first (AtPlaces faults.SetTooWide (IsWideUniverse item)) (AtPlaces faults.ElementRange (HasLargeUniverse item)) some_wide some_large first_wide first_large)

-- ---- bits

pub same_some : {A : Type 0} {x y : A} → Some x ≡ Some y → x ≡ y
same_some e = cc

module _ (ks : List Kind) (k : Kind) (w : Weight) (bits values : ℕ) (b : bits ≡ sum_by counted_bits ks) (v : values ≡ sum_by integer_values ks) (is : IsWeight k w) where
  bits_more : bits + w.bits ≡ sum_by counted_bits (ks ++ k ∷ [])
  bits_more = ap (λ n. n + w.bits) b ∙ ap (λ n. sum_by counted_bits ks + n) is.in_bits ∙ sym (sum_by_push counted_bits ks k)

  values_more : values + w.values ≡ sum_by integer_values (ks ++ k ∷ [])
  values_more = ap (λ n. n + w.values) v ∙ ap (λ n. sum_by integer_values ks + n) is.in_values ∙ sym (sum_by_push integer_values ks k)

  pub too_many_with : (bit_limit < bits + w.bits) ⊎ (value_limit < values + w.values) → HaveTooManyBits (ks ++ k ∷ [])
  too_many_with (inl h) = inl (subst (λ n. bit_limit < n) bits_more h)
  too_many_with (inr h) = inr (subst (λ n. value_limit < n) values_more h)

  pub too_much_for : HaveTooManyBits (ks ++ k ∷ []) → (bit_limit < bits + w.bits) ⊎ (value_limit < values + w.values)
  too_much_for (inl h) = inl (subst (λ n. bit_limit < n) (sym bits_more) h)
  too_much_for (inr h) = inr (subst (λ n. value_limit < n) (sym values_more) h)

module _ (before : List Item) (at : ℕ) (t : TypeExpr) (ident : Ident) (anns : List Ann) (e : Option Expr) (ks : List Kind) (known : kinds_of before ≡ Some ks) where
  abbrev variable : Item
  variable = record { at = at; form = forms.Variable t ident anns e }

  kinds_with : (k : Kind) → kind_of t.form ≡ Some k → kinds_of (up_to before variable) ≡ Some (ks ++ k ∷ [])
  kinds_with k is = kinds_more before variable ∙ ap (λ o. append_some o (option_map (λ j. j ∷ []) (kind_of t.form))) known ∙ ap (λ o. append_some (Some ks) (option_map (λ j. j ∷ []) o)) is

  kinds_without : kind_of t.form ≡ None → kinds_of (up_to before variable) ≡ None
  kinds_without is = kinds_more before variable ∙ ap (λ o. append_some o (option_map (λ j. j ∷ []) (kind_of t.form))) known ∙ ap (λ o. append_some (Some ks) (option_map (λ j. j ∷ []) o)) is

  pub bits_first : (bits values : ℕ) → bits ≡ sum_by counted_bits ks → values ≡ sum_by integer_values ks → (o : Option Weight) (w : Weight) → HasWeight (kind_of t.form) o → o ≡ Some w
      → (over : Bool) → (IsTrue over ↔ ((bit_limit < bits + w.bits) ⊎ (value_limit < values + w.values)))
      → (some : Option ModelFault) → some ≡ cond over (Some (faults.TooManyBits ident.at)) None
      → IsFirstOf (AtPlaces faults.TooManyBits (AreTooManyBits before variable)) some
  bits_first bits values b v o w has is over over_is some told =
      let h : HasWeight (kind_of t.form) (Some w) = subst (HasWeight (kind_of t.form)) is has in
      let with' : kinds_of (up_to before variable) ≡ Some (ks ++ h.0 ∷ []) = kinds_with h.0 h.1 in
      rule_is faults.TooManyBits (AreTooManyBits before variable) ident.at over some told (
        λ t. record { kinds = ks ++ h.0 ∷ []; known = with'; many = too_many_with ks h.0 w bits values b v h.2 (over_is.0 t); place = refl },
        λ m. over_is.1 (too_much_for ks h.0 w bits values b v h.2 (let same : m.kinds ≡ ks ++ h.0 ∷ [] = same_some (sym m.known ∙ with') in subst HaveTooManyBits same m.many)),
      )
      (λ at m. m.place)

  pub no_bits : (o : Option Weight) → HasWeight (kind_of t.form) o → o ≡ None → IsFirstOf (AtPlaces faults.TooManyBits (AreTooManyBits before variable)) None
  no_bits o has is =
      let none : kind_of t.form ≡ None = subst (HasWeight (kind_of t.form)) is has in
      broken_nowhere faults.TooManyBits (λ at m. let wrong : Some m.kinds ≡ None = sym m.known ∙ kinds_without none in absurd (cc))

-- the same of an item that says it
pub of_form : (P : Item → Type 0) (item : Item) (form : Form) → item.form ≡ form → P (record { at = item.at; form = form }) → P item
of_form P item form e h = subst (λ f. P (record { at = item.at; form = f })) (sym e) h

-- ---- output annotations and lengths

turned_on : (right wrong : Bool) → wrong ≡ not right → (right ≡ true → ⊥) → wrong ≡ true
turned_on true wrong e never = absurd (never refl)
turned_on false wrong e never = e

pub scalar_output : (form : Form) (t : TypeExpr) (ident : Ident) (anns xs : List Ann) (e : Option Expr) → form ≡ forms.Variable t ident anns e → xs ≡ anns → (r : Option ModelFault)
    → IsFirstOf (AtPlaces faults.BadOutput (IsHidden (λ a. shows_scalar a ≡ false) xs)) r → IsFirstOf (AtPlaces faults.BadOutput (IsBadOutput form)) r
scalar_output form t ident anns xs e is same r h =
    subst (λ f. IsFirstOf (AtPlaces faults.BadOutput (IsBadOutput f)) r) (sym is)
    (subst (λ ys. IsFirstOf (AtPlaces faults.BadOutput (IsHidden (λ a. shows_scalar a ≡ false) ys)) r) same h)

module _ (form : Form) (len : Number) (v : Bool) (t : TypeExpr) (ident : Ident) (anns : List Ann) (at : ℕ) (items : List Basic) (is : form ≡ forms.Array len v t ident anns at items) where
  pub array_output : v ≡ true → (xs : List Ann) (ys : List Basic) → xs ≡ anns → ys ≡ items → {E : Type 0} (r : Result (Option ModelFault) E)
      → IfOk r (IsFirstOf (AtPlaces faults.BadOutput (IsHidden (λ a. dims_shown (length ys) a ≡ None) xs))) → IfOk r (IsFirstOf (AtPlaces faults.BadOutput (IsBadOutput form)))
  array_output var xs ys same whole r h =
      let P : Form → Type 0 = λ f. IfOk r (IsFirstOf (AtPlaces faults.BadOutput (IsBadOutput f))) in
      let H : List Ann → List Basic → Type 0 = λ as' bs. IfOk r (IsFirstOf (AtPlaces faults.BadOutput (IsHidden (λ a. dims_shown (length bs) a ≡ None) as'))) in
      subst P (sym is)
      (subst (λ w. P (forms.Array len w t ident anns at items)) (sym var)
      (subst (λ bs. H anns bs) whole (subst (λ as'. H as' ys) same h)))

  pub no_array_output : v ≡ false → IsFirstOf (AtPlaces faults.BadOutput (IsBadOutput form)) None
  no_array_output constant =
      let P : Form → Type 0 = λ f. IsFirstOf (AtPlaces faults.BadOutput (IsBadOutput f)) None in
      subst P (sym is) (subst (λ w. P (forms.Array len w t ident anns at items)) (sym constant) (broken_nowhere faults.BadOutput (λ p h. h)))

  pub length_first : (ys : List Basic) → ys ≡ items → (right wrong : Bool) → (IsTrue right ↔ IsLength len (length ys)) → wrong ≡ not right
      → (r : Option ModelFault) → r ≡ cond wrong (Some (faults.WrongCount ident.at)) None → IsFirstOf (AtPlaces faults.WrongCount (IsWrongLength form)) r
  length_first ys whole right wrong right_is turned r told =
      let P : Form → Type 0 = λ f. IsFirstOf (AtPlaces faults.WrongCount (IsWrongLength f)) r in
      let fits : IsTrue right ↔ IsLength len (length items) = subst (λ bs. IsTrue right ↔ IsLength len (length bs)) whole right_is in
      subst P (sym is)
      (rule_is faults.WrongCount (IsWrongLength (forms.Array len v t ident anns at items)) ident.at wrong r told (
        λ w. (refl, λ h. let correct : right ≡ true = fits.1 h in let wrong_on : false ≡ true = sym (turned ∙ ap not correct) ∙ w in absurd (cc)),
        λ h. turned_on right wrong turned (λ correct. h.1 (fits.0 correct)),
      )
      (λ p h. h.0))
