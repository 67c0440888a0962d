-- The draft with the pieces of one more item that has no fault.
use Rattle.std.proofs.Common.{◌≡◌, ◌≢◌, ◌⊎◌, ◌↔◌, ℕ, ◌+◌, ◌<◌, ◌≤◌, ◌&&◌, Bool, true, false, max, List, [], ◌∷◌, ◌++◌, length, map, reverse, if◌then◌else◌, option_to_list, Option, Some, None, is_some, refl, sym, ap, subst, ◌∙◌, inl, inr, arith, append_assoc}
use Rattle.std.specs.Prelude.{sum_by, count_by, All, Any, Contains, IsTrue, IsSome, IfSome}
use Rattle.std.specs.List.{flat_map}
use Rattle.std.specs.Option.{option_map}
use Rattle.std.proofs.lemmas.Option.{none-some, same_Some}
use Rattle.std.proofs.lemmas.List.{append-nil, length-append, reverse-append}
use Rattle.std.proofs.lemmas.List.Concat.{flat_map-append}
use Rattle.std.proofs.lemmas.List.Sums.{sum_by-cons, sum_by-append, sum_by_push}
use Rattle.std.proofs.lemmas.List.Elements.{All-append, All-head, Contains-append_left, Contains-push_cases}
use Rattle.std.proofs.lemmas.List.Quantifiers.{Any-push}
use Rattle.fzn_parser.specs.declared.tree.Basic.{Basic}
use Rattle.fzn_parser.specs.declared.tree.Ident.{Ident}
use Rattle.fzn_parser.specs.declared.tree.Form.{Form}
use Rattle.fzn_parser.specs.declared.tree.Form.TheVariants as forms
use Rattle.fzn_parser.specs.declared.tree.Item.{Item}
use Rattle.set_meaning.specs.declared.kinds.Kind.{Kind}
use Rattle.set_meaning.specs.declared.problems.Constraint.{Constraint}
use Rattle.set_meaning.specs.Problems.{IsKind}
use Rattle.bit_layout.specs.Words.{width_of}
use Rattle.bit_layout.specs.Limits.{AreWithinLimits, IsNarrow, counted_bits}
use Rattle.fzn_model.specs.Entities.{Entity}
use Rattle.fzn_model.specs.declared.so_far.Counts.{Counts}
use Rattle.fzn_model.specs.declared.pieces.Pieces.{Pieces}
use Rattle.fzn_model.specs.declared.drafts.Draft.{Draft}
use Rattle.fzn_model.specs.declared.faults.ModelFault.TheVariants as faults
use Rattle.fzn_model.specs.Limits.{all_constant_sets_limit, bit_limit, constraint_limit, term_limit, value_limit}
use Rattle.fzn_model.specs.Lists.{append_some, each_after, sum_after}
use Rattle.fzn_model.specs.Items.{adds_constraint, declares, ident_in, is_ident_of, is_variable}
use Rattle.fzn_model.specs.Entities.{Naming, count_variables, entity_of, naming_after, stands_for}
use Rattle.fzn_model.specs.ProblemOf.{constraints_after, constraints_in, goals_after, goals_in, kinds_in, kinds_of, names_in, shown_after, shown_in}
use Rattle.fzn_model.specs.FaultsOf.{IsFaultAfter, constant_elements, constant_elements_after, constrained_parts, integer_values, terms_after}
use Rattle.fzn_model.specs.FirstFault.{AreNone}
use Rattle.fzn_model.specs.State.{AreSoFar, naming_of}
use Rattle.fzn_model.specs.Meanings.{Gives}
use Rattle.fzn_model.specs.Drafts.{AreCounted, ArePieces, AreSorted, CanBeCounted, CanBePut, IsCountable, IsDraft, IsOfSort, IsPut, elements_of_constraint, terms_of_constraint}
use Rattle.fzn_model.proofs.MoreKinds.{kinds_more}
use Rattle.fzn_model.proofs.Meant.{AreKnown}
use Rattle.fzn_model.proofs.Sound.{IsSound, arg_of_more, le_unless, sound}

-- ---- lists with one more item

module _ {A : Type 0} where
  none_behind : (a : Option (List A)) → append_some a (Some []) ≡ append_some (Some []) a
  none_behind None = refl
  none_behind (Some xs) = ap Some (append-nil xs)

  regroup : (a b c : Option (List A)) → append_some a (append_some b c) ≡ append_some (append_some a b) c
  regroup None b c = refl
  regroup (Some xs) None c = refl
  regroup (Some xs) (Some ys) None = refl
  regroup (Some xs) (Some ys) (Some zs) = ap Some (sym (append_assoc xs ys zs))

  pub each_more : {X : Type 0} (f : List X → X → Option (List A)) (done xs : List X) (x : X)
      → each_after f done (xs ++ x ∷ []) ≡ append_some (each_after f done xs) (f (done ++ xs) x)
  each_more f done [] x = none_behind (f done x) ∙ ap (λ ys. append_some (Some []) (f ys x)) (sym (append-nil done))
  each_more f done (y ∷ ys) x =
      ap (append_some (f done y)) (each_more f (done ++ y ∷ []) ys x)
      ∙ (regroup (f done y) (each_after f (done ++ y ∷ []) ys) (f ((done ++ y ∷ []) ++ ys) x)
      ∙ ap (λ zs. append_some (append_some (f done y) (each_after f (done ++ y ∷ []) ys)) (f zs x)) (append_assoc done (y ∷ []) ys))

  pub gives_is : (o : Option (List A)) (xs : List A) (m : Option A) → o ≡ Some xs → Gives o m → xs ≡ option_to_list m
  gives_is o xs m e g = subst (λ z. Gives z m) e g

  pub last_or_none : (xs : List A) → (xs ≡ []) ⊎ ((front : List A) × (x : A) × (xs ≡ front ++ x ∷ []))
  last_or_none [] = inl refl
  last_or_none (x ∷ xs) = elim (last_or_none xs) [
    | inl e ↦ inr ([], x, ap (λ ys. x ∷ ys) e)
    | inr h ↦ inr (x ∷ h.0, h.1, ap (λ ys. x ∷ ys) h.2)
  ]

  sum_more : (f : List A → A → ℕ) (done xs : List A) (x : A) → sum_after f done (xs ++ x ∷ []) ≡ sum_after f done xs + f (done ++ xs) x
  sum_more f done [] x = let e : f (done ++ []) x ≡ f done x = ap (λ ys. f ys x) (append-nil done) in omega (arith, e)
  sum_more f done (y ∷ ys) x =
      let rest : sum_after f (done ++ y ∷ []) (ys ++ x ∷ []) ≡ sum_after f (done ++ y ∷ []) ys + f ((done ++ y ∷ []) ++ ys) x = sum_more f (done ++ y ∷ []) ys x in
      let same : f ((done ++ y ∷ []) ++ ys) x ≡ f (done ++ y ∷ ys) x = ap (λ zs. f zs x) (append_assoc done (y ∷ []) ys) in
      omega (arith, rest, same)

  pub sum_of_reverse : (f : A → ℕ) (xs : List A) → sum_by f (reverse xs) ≡ sum_by f xs
  sum_of_reverse f [] = refl
  sum_of_reverse f (x ∷ xs) =
      let turned : sum_by f (reverse (x ∷ xs)) ≡ sum_by f (reverse xs ++ x ∷ []) = ap (sum_by f) (reverse-append (x ∷ []) xs) in
      let pushed : sum_by f (reverse xs ++ x ∷ []) ≡ sum_by f (reverse xs) + f x = sum_by_push f (reverse xs) x in
      let rest : sum_by f (reverse xs) ≡ sum_by f xs = sum_of_reverse f xs in
      let all : sum_by f (x ∷ xs) ≡ f x + sum_by f xs = sum_by-cons f x xs in
      omega (arith, turned, pushed, rest, all)

  pub any_more : (P : A → Type 0) (xs : List A) (y : A) → Any P xs → Any P (xs ++ y ∷ [])
  any_more P xs y h =
      let c = Contains-append_left xs (y ∷ []) h.1 (h.0, h.2, h.3) in
      (c.0, h.1, c.1, c.2, h.4)

  pub any_cases : (P : A → Type 0) (xs : List A) (y : A) → Any P (xs ++ y ∷ []) → Any P xs ⊎ P y
  any_cases P xs y h = elim (Contains-push_cases xs y h.1 (h.0, h.2, h.3)) [
    | inl c ↦ inl (c.0, h.1, c.1, c.2, h.4)
    | inr e ↦ inr (subst P (sym e) h.4)
  ]

abbrev one_if : Bool → ℕ
one_if b = if b then 1 else 0

-- each variable counts as at least one bit
few_kinds : (kinds : List Kind) → length kinds ≤ sum_by counted_bits kinds
few_kinds [] = omega arith
few_kinds (k ∷ ks) =
    let rest : length ks ≤ sum_by counted_bits ks = few_kinds ks in
    let all : sum_by counted_bits (k ∷ ks) ≡ counted_bits k + sum_by counted_bits ks = sum_by-cons counted_bits k ks in
    let one : 1 ≤ max 1 (width_of k) = omega arith in
    omega (arith, rest, all, one)

pub kinds_are_few : (before : List Item) (draft : Draft) → IsDraft before draft → length draft.so_far.kinds.items ≤ 1048576
kinds_are_few before draft d =
    let few : length draft.so_far.kinds.items ≤ sum_by counted_bits draft.so_far.kinds.items = few_kinds draft.so_far.kinds.items in
    let bound : sum_by counted_bits draft.so_far.kinds.items ≤ 1048576 = d.state.within.bits in
    omega (arith, few, bound)

-- ---- what may be counted

pub count_kind : (counts : Counts) (o : Option Kind) → All IsKind (option_to_list o) → All IsNarrow (option_to_list o)
    → counts.bits + sum_by counted_bits (option_to_list o) ≤ bit_limit → counts.integer_values + sum_by integer_values (option_to_list o) ≤ value_limit
    → IfSome o (IsCountable counts)
count_kind counts None legal narrow b v = tt
count_kind counts (Some k) legal narrow b v =
    record { legal = All-head IsKind k [] legal; narrow = All-head IsNarrow k [] narrow; bits = omega (arith, b); values = omega (arith, v) }

pub count_constraint : (counts : Counts) (o : Option Constraint) → counts.elements + sum_by elements_of_constraint (option_to_list o) ≤ all_constant_sets_limit
    → counts.terms + sum_by terms_of_constraint (option_to_list o) ≤ term_limit → counts.constraints + length (option_to_list o) ≤ constraint_limit
    → IfSome o (CanBeCounted counts)
count_constraint counts None e t n = tt
count_constraint counts (Some c) e t n = record { elements = omega (arith, e); terms = omega (arith, t); constraints = omega (arith, n) }

-- ---- one more item

module _ (before : List Item) (old : Draft) (d : IsDraft before old) (number : ℕ) (numbered : number ≡ length old.so_far.kinds.items)
    (at : ℕ) (form : Form) (none : AreNone (IsFaultAfter before (record { at = at; form = form })))
    (pieces : Pieces) (are : ArePieces (naming_of old.so_far.declared) number form pieces) where
  abbrev item : Item
  item = record { at = at; form = form }

  abbrev kinds : List Kind
  kinds = old.so_far.kinds.items

  pub known : AreKnown before kinds
  known = record { names = d.state.declared; sorts = d.sorts }

  pub same_naming : naming_of old.so_far.declared ≡ naming_after before
  same_naming = λ i name. d.state.naming name i

  pub its : ArePieces (naming_after before) number form pieces
  its = subst (λ (n : Naming). ArePieces n number form pieces) same_naming are

  pub s : IsSound kinds (naming_after before) number form
  s = sound before kinds known number numbered at form none

  pub new_kinds : s.new ≡ option_to_list pieces.kind
  new_kinds = gives_is (kinds_in form) s.new pieces.kind s.kinds_are its.kinds

  pub new_constraints : s.constraints.list ≡ option_to_list pieces.constraint
  new_constraints = gives_is (constraints_in (naming_after before) number form) s.constraints.list pieces.constraint s.constraints.are its.constraints

  pub the_number : number ≡ count_variables before
  the_number = numbered ∙ d.state.variables

  pub kinds_next : kinds_of (before ++ item ∷ []) ≡ Some (kinds ++ s.new)
  kinds_next = kinds_more before item ∙ (λ i. append_some (d.state.known i) (s.kinds_are i))

  -- ---- sums

  pub elements_next : sum_after constant_elements_after [] (before ++ item ∷ []) ≡ old.so_far.counts.elements + sum_by elements_of_constraint (option_to_list pieces.constraint)
  elements_next =
      let more : sum_after constant_elements_after [] (before ++ item ∷ []) ≡ sum_after constant_elements_after [] before + constant_elements_after before item = sum_more constant_elements_after [] before item in
      let own : constant_elements_after before item ≡ sum_by elements_of_constraint (option_to_list pieces.constraint) = sym s.constraints.elements ∙ ap (sum_by elements_of_constraint) new_constraints in
      let so : old.so_far.counts.elements ≡ sum_after constant_elements_after [] before = d.state.elements in
      omega (arith, more, own, so)

  pub terms_next : sum_after terms_after [] (before ++ item ∷ []) ≡ old.so_far.counts.terms + sum_by terms_of_constraint (option_to_list pieces.constraint)
  terms_next =
      let more : sum_after terms_after [] (before ++ item ∷ []) ≡ sum_after terms_after [] before + terms_after before item = sum_more terms_after [] before item in
      let own : terms_after before item ≡ sum_by terms_of_constraint (option_to_list pieces.constraint) = sym s.constraints.terms ∙ ap (sum_by terms_of_constraint) new_constraints in
      let so : old.so_far.counts.terms ≡ sum_after terms_after [] before = d.state.terms in
      omega (arith, more, own, so)

  pub constraints_next : count_by (λ i. adds_constraint i.form) (before ++ item ∷ []) ≡ old.so_far.counts.constraints + length (option_to_list pieces.constraint)
  constraints_next =
      let more : count_by (λ i. adds_constraint i.form) (before ++ item ∷ []) ≡ count_by (λ i. adds_constraint i.form) before + (if adds_constraint form then 1 else 0) =
      sum_by_push (λ (i : Item). if adds_constraint i.form then 1 else 0) before item in
      let own : length (option_to_list pieces.constraint) ≡ (if adds_constraint form then 1 else 0) = ap length (sym new_constraints) ∙ s.constraints.many in
      let so : old.so_far.counts.constraints ≡ count_by (λ i. adds_constraint i.form) before = d.state.constraints in
      omega (arith, more, own, so)

  pub variables_next : length (kinds ++ s.new) ≡ count_variables (before ++ item ∷ [])
  variables_next =
      let more : count_variables (before ++ item ∷ []) ≡ count_variables before + (if is_variable form then 1 else 0) =
      sum_by_push (λ (i : Item). if is_variable i.form then 1 else 0) before item in
      let both : length (kinds ++ s.new) ≡ length kinds + length s.new = length-append kinds s.new in
      let own : length s.new ≡ (if is_variable form then 1 else 0) = s.counted in
      let so : length kinds ≡ count_variables before = d.state.variables in
      omega (arith, more, both, own, so)

  -- ---- bounds

  pub elements_bound : sum_after constant_elements_after [] (before ++ item ∷ []) ≤ all_constant_sets_limit
  elements_bound =
      let more : sum_after constant_elements_after [] (before ++ item ∷ []) ≡ sum_after constant_elements_after [] before + constant_elements_after before item = sum_more constant_elements_after [] before item in
      elim (last_or_none (constrained_parts form)) [
        | inl e ↦
            (let own : constant_elements_after before item ≡ 0 = ap (sum_by (constant_elements (naming_after before))) e in
            let so : old.so_far.counts.elements ≡ sum_after constant_elements_after [] before = d.state.elements in
            let within : old.so_far.counts.elements ≤ all_constant_sets_limit = d.state.elements_within in
            omega (arith, more, own, so, within))
        | inr h ↦
            (let own : constant_elements_after before item ≡ sum_by (constant_elements (naming_after before)) (h.0 ++ h.1 ∷ []) = ap (sum_by (constant_elements (naming_after before))) h.2 in
            le_unless all_constant_sets_limit (sum_after constant_elements_after [] (before ++ item ∷ [])) (λ w.
            none (faults.SetTooWide h.1.at) (inl (inr (record {
              front = h.0;
              part = h.1;
              back = [];
              occurs = h.2;
              many = omega (arith, w, more, own);
              place = refl;
            })))))
      ]

pub bounds_of : (before : List Item) (old : Draft) → IsDraft before old → (at : ℕ) (form : Form) → AreNone (IsFaultAfter before (record { at = at; form = form }))
    → (sum_after terms_after [] (before ++ record { at = at; form = form } ∷ []) ≤ term_limit)
    × (count_by (λ (i : Item). adds_constraint i.form) (before ++ record { at = at; form = form } ∷ []) ≤ constraint_limit)
bounds_of before old d at form none = by form none
  where
    unmoved : (f : Form) → one_if (adds_constraint f) ≡ 0 → terms_after before (record { at = at; form = f }) ≡ 0
        → (sum_after terms_after [] (before ++ record { at = at; form = f } ∷ []) ≤ term_limit)
        × (count_by (λ (i : Item). adds_constraint i.form) (before ++ record { at = at; form = f } ∷ []) ≤ constraint_limit)
    unmoved f c t =
        let one : Item = record { at = at; form = f } in
        let more : sum_after terms_after [] (before ++ one ∷ []) ≡ sum_after terms_after [] before + terms_after before one = sum_more terms_after [] before one in
        let so : old.so_far.counts.terms ≡ sum_after terms_after [] before = d.state.terms in
        let within : old.so_far.counts.terms ≤ term_limit = d.state.terms_within in
        let counted : count_by (λ (i : Item). adds_constraint i.form) (before ++ one ∷ []) ≡ count_by (λ (i : Item). adds_constraint i.form) before + (if adds_constraint f then 1 else 0) =
        sum_by_push (λ (i : Item). if adds_constraint i.form then 1 else 0) before one in
        let cso : old.so_far.counts.constraints ≡ count_by (λ (i : Item). adds_constraint i.form) before = d.state.constraints in
        let cwithin : old.so_far.counts.constraints ≤ constraint_limit = d.state.constraints_within in
        (omega (arith, more, so, within, t), omega (arith, counted, cso, cwithin, c))

    by : (f : Form) → AreNone (IsFaultAfter before (record { at = at; form = f }))
        → (sum_after terms_after [] (before ++ record { at = at; form = f } ∷ []) ≤ term_limit)
        × (count_by (λ (i : Item). adds_constraint i.form) (before ++ record { at = at; form = f } ∷ []) ≤ constraint_limit)
    by forms.Predicate n = unmoved forms.Predicate refl refl
    by (forms.Param t ident anns e) n = unmoved (forms.Param t ident anns e) refl refl
    by (forms.Variable t ident anns None) n = unmoved (forms.Variable t ident anns None) refl refl
    by (forms.Variable t ident anns (Some e)) n = (
      le_unless term_limit (sum_after terms_after [] (before ++ record { at = at; form = forms.Variable t ident anns (Some e) } ∷ []))
          (λ w. n (faults.TooManyConstraints ident.at) (inr (inr (inl (refl, inr (record { good = λ g h. n g (inl h); many = w })))))),
      le_unless constraint_limit (count_by (λ (i : Item). adds_constraint i.form) (before ++ record { at = at; form = forms.Variable t ident anns (Some e) } ∷ []))
          (λ w. n (faults.TooManyConstraints ident.at) (inr (inr (inl (refl, inl w))))),
    )
    by (forms.Array len is_var t ident anns items_at items) n = unmoved (forms.Array len is_var t ident anns items_at items) refl refl
    by (forms.Constraint ident es anns) n = (
      le_unless term_limit (sum_after terms_after [] (before ++ record { at = at; form = forms.Constraint ident es anns } ∷ []))
          (λ w. n (faults.TooManyConstraints ident.at) (inr (inr (inl (refl, inr (record { good = λ g h. n g (inl h); many = w })))))),
      le_unless constraint_limit (count_by (λ (i : Item). adds_constraint i.form) (before ++ record { at = at; form = forms.Constraint ident es anns } ∷ []))
          (λ w. n (faults.TooManyConstraints ident.at) (inr (inr (inl (refl, inl w))))),
    )
    by (forms.Solve anns g) n = unmoved (forms.Solve anns g) refl refl
