-- What is put makes the draft of the items with one more.
use Rattle.std.proofs.Common.{◌≡◌, ◌≢◌, ◌⊎◌, ◌↔◌, ℕ, ◌+◌, ◌<◌, ◌≤◌, ◌&&◌, Bool, true, false, List, [], ◌∷◌, ◌++◌, length, map, reverse, if◌then◌else◌, option_to_list, Option, Some, None, is_some, refl, sym, ap, subst, ◌∙◌, inl, inr, arith}
use Rattle.std.specs.Option.{option_map}
use Rattle.std.specs.Prelude.{sum_by, count_by, All, Any, IsTrue, IsSome, IfSome}
use Rattle.std.specs.List.{flat_map}
use Rattle.std.proofs.lemmas.Option.{none-some, same_Some}
use Rattle.std.proofs.lemmas.List.{append-nil, reverse-append}
use Rattle.std.proofs.lemmas.List.Concat.{flat_map-append}
use Rattle.std.proofs.lemmas.List.Sums.{sum_by-append}
use Rattle.std.proofs.lemmas.List.Elements.{All-append}
use Rattle.std.proofs.lemmas.List.Quantifiers.{Any-push}
use Rattle.fzn_parser.specs.declared.tree.Ident.{Ident}
use Rattle.fzn_parser.specs.declared.tree.Form.{Form}
use Rattle.fzn_parser.specs.declared.tree.Form.TheVariants as forms
use Rattle.fzn_parser.specs.declared.tree.Item.{Item}
use Rattle.set_meaning.specs.declared.kinds.Kind.{Kind}
use Rattle.set_meaning.specs.declared.problems.Constraint.{Constraint}
use Rattle.set_meaning.specs.Problems.{IsKind}
use Rattle.bit_layout.specs.Limits.{IsNarrow, counted_bits}
use Rattle.fzn_model.specs.declared.pieces.Pieces.{Pieces}
use Rattle.fzn_model.specs.declared.drafts.Draft.{Draft}
use Rattle.fzn_model.specs.declared.faults.ModelFault.TheVariants as faults
use Rattle.fzn_model.specs.Limits.{all_constant_sets_limit, bit_limit, constraint_limit, term_limit, value_limit}
use Rattle.fzn_model.specs.Lists.{append_some, each_after, sum_after}
use Rattle.fzn_model.specs.Items.{adds_constraint, declares, ident_in, is_ident_of, is_variable}
use Rattle.fzn_model.specs.Entities.{Entity, Naming, count_variables, entity_of, naming_after, stands_for}
use Rattle.fzn_model.specs.Shared.{entity_in}
use Rattle.fzn_model.specs.ProblemOf.{constraints_after, constraints_in, goals_after, goals_in, kinds_in, kinds_of, names_in, shown_after, shown_in}
use Rattle.fzn_model.specs.FaultsOf.{IsFaultAfter, constant_elements_after, integer_values, terms_after}
use Rattle.fzn_model.specs.FirstFault.{AreNone}
use Rattle.fzn_model.specs.State.{AreSoFar, naming_of}
use Rattle.fzn_model.specs.Drafts.{ArePieces, AreSorted, CanBePut, IsDraft, IsOfSort, IsPut, elements_of_constraint, terms_of_constraint}
use Rattle.fzn_model.proofs.Sound.{IsSound, arg_of_more, le_unless, sound}
use Rattle.fzn_model.proofs.Steps.{any_cases, any_more, bounds_of, constraints_next, count_constraint, count_kind, each_more, elements_bound, elements_next, gives_is, its, kinds_next, known, new_constraints, new_kinds, same_naming, s, sum_of_reverse, terms_next, the_number, variables_next}

-- the variables so far are within their limits, with one more too
bits_of : (before : List Item) (old : Draft) → IsDraft before old → (at : ℕ) (form : Form) → AreNone (IsFaultAfter before (record { at = at; form = form }))
    → (new : List Kind) → kinds_in form ≡ Some new → kinds_of (before ++ record { at = at; form = form } ∷ []) ≡ Some (old.so_far.kinds.items ++ new)
    → (sum_by counted_bits (old.so_far.kinds.items ++ new) ≤ bit_limit) × (sum_by integer_values (old.so_far.kinds.items ++ new) ≤ value_limit)
bits_of before old d at form none new is all = by form none is all
  where
    unmoved : Some [] ≡ Some new → (sum_by counted_bits (old.so_far.kinds.items ++ new) ≤ bit_limit) × (sum_by integer_values (old.so_far.kinds.items ++ new) ≤ value_limit)
    unmoved e =
        let same : old.so_far.kinds.items ≡ old.so_far.kinds.items ++ new = sym (append-nil old.so_far.kinds.items) ∙ ap (λ ks. old.so_far.kinds.items ++ ks) (same_Some [] new e) in
        let bits : sum_by counted_bits old.so_far.kinds.items ≡ sum_by counted_bits (old.so_far.kinds.items ++ new) = ap (sum_by counted_bits) same in
        let values : sum_by integer_values old.so_far.kinds.items ≡ sum_by integer_values (old.so_far.kinds.items ++ new) = ap (sum_by integer_values) same in
        let bits_within : sum_by counted_bits old.so_far.kinds.items ≤ bit_limit = d.state.within.bits in
        let so : old.so_far.counts.integer_values ≡ sum_by integer_values old.so_far.kinds.items = d.state.values in
        let values_within : old.so_far.counts.integer_values ≤ value_limit = d.state.values_within in
        (omega (arith, bits, bits_within), omega (arith, values, so, values_within))

    by : (f : Form) → AreNone (IsFaultAfter before (record { at = at; form = f })) → kinds_in f ≡ Some new
        → kinds_of (before ++ record { at = at; form = f } ∷ []) ≡ Some (old.so_far.kinds.items ++ new)
        → (sum_by counted_bits (old.so_far.kinds.items ++ new) ≤ bit_limit) × (sum_by integer_values (old.so_far.kinds.items ++ new) ≤ value_limit)
    by forms.Predicate n e k = unmoved e
    by (forms.Param t ident anns x) n e k = unmoved e
    by (forms.Variable t ident anns x) n e k = (
      le_unless bit_limit (sum_by counted_bits (old.so_far.kinds.items ++ new))
          (λ w. n (faults.TooManyBits ident.at) (inr (inl (record { kinds = old.so_far.kinds.items ++ new; known = k; many = inl w; place = refl })))),
      le_unless value_limit (sum_by integer_values (old.so_far.kinds.items ++ new))
          (λ w. n (faults.TooManyBits ident.at) (inr (inl (record { kinds = old.so_far.kinds.items ++ new; known = k; many = inr w; place = refl })))),
    )
    by (forms.Array len is_var t ident anns items_at items) n e k = unmoved e
    by (forms.Constraint ident es anns) n e k = unmoved e
    by (forms.Solve anns g) n e k = unmoved e

module _ (before : List Item) (old : Draft) (d : IsDraft before old) (number : ℕ) (numbered : number ≡ length old.so_far.kinds.items)
    (at : ℕ) (form : Form) (none : AreNone (IsFaultAfter before (record { at = at; form = form })))
    (pieces : Pieces) (are : ArePieces (naming_of old.so_far.declared) number form pieces) where
  abbrev item : Item
  item = record { at = at; form = form }

  abbrev kinds : List Kind
  kinds = old.so_far.kinds.items

  abbrev naming : Naming
  naming = naming_after before

  abbrev new_entity : Option Entity
  new_entity = option_map entity_in pieces.entity

  abbrev it : IsSound kinds naming number form
  it = s before old d number numbered at form none pieces are

  abbrev here : ArePieces naming number form pieces
  here = its before old d number numbered at form none pieces are

  abbrev new_list : List Kind
  new_list = option_to_list pieces.kind

  new_is : it.new ≡ new_list
  new_is = gives_is (kinds_in form) it.new pieces.kind it.kinds_are here.kinds

  all_kinds : kinds_of (before ++ item ∷ []) ≡ Some (kinds ++ new_list)
  all_kinds = kinds_next before old d number numbered at form none pieces are ∙ ap (λ ks. Some (kinds ++ ks)) (new_kinds before old d number numbered at form none pieces are)

  kinds_are_in : kinds_in form ≡ Some new_list
  kinds_are_in = it.kinds_are ∙ ap Some new_is

  limits : (sum_by counted_bits (kinds ++ new_list) ≤ bit_limit) × (sum_by integer_values (kinds ++ new_list) ≤ value_limit)
  limits = bits_of before old d at form none new_list kinds_are_in all_kinds

  bits_counted : sum_by counted_bits (kinds ++ new_list) ≡ old.so_far.counts.bits + sum_by counted_bits new_list
  bits_counted =
      let both : sum_by counted_bits (kinds ++ new_list) ≡ sum_by counted_bits kinds + sum_by counted_bits new_list = sum_by-append counted_bits kinds new_list in
      let so : old.so_far.counts.bits ≡ sum_by counted_bits kinds = d.state.bits in
      omega (arith, both, so)

  values_counted : sum_by integer_values (kinds ++ new_list) ≡ old.so_far.counts.integer_values + sum_by integer_values new_list
  values_counted =
      let both : sum_by integer_values (kinds ++ new_list) ≡ sum_by integer_values kinds + sum_by integer_values new_list = sum_by-append integer_values kinds new_list in
      let so : old.so_far.counts.integer_values ≡ sum_by integer_values kinds = d.state.values in
      omega (arith, both, so)

  pub can_be_put : CanBePut old.so_far.counts pieces
  can_be_put =
      let bits : sum_by counted_bits (kinds ++ new_list) ≤ bit_limit = limits.0 in
      let values : sum_by integer_values (kinds ++ new_list) ≤ value_limit = limits.1 in
      let bs : sum_by counted_bits (kinds ++ new_list) ≡ old.so_far.counts.bits + sum_by counted_bits new_list = bits_counted in
      let vs : sum_by integer_values (kinds ++ new_list) ≡ old.so_far.counts.integer_values + sum_by integer_values new_list = values_counted in
      let elements = elements_bound before old d number numbered at form none pieces are in
      let es = elements_next before old d number numbered at form none pieces are in
      let both = bounds_of before old d at form none in
      let terms : sum_after terms_after [] (before ++ item ∷ []) ≤ term_limit = both.0 in
      let many : count_by (λ (i : Item). adds_constraint i.form) (before ++ item ∷ []) ≤ constraint_limit = both.1 in
      let ts = terms_next before old d number numbered at form none pieces are in
      let cs = constraints_next before old d number numbered at form none pieces are in
      record {
        of_kind = count_kind old.so_far.counts pieces.kind (subst (All IsKind) new_is it.legal) (subst (All IsNarrow) new_is it.narrow)
            (omega (arith, bits, bs)) (omega (arith, values, vs));
        of_constraint = count_constraint old.so_far.counts pieces.constraint (omega (arith, elements, es)) (omega (arith, terms, ts)) (omega (arith, many, cs));
      }

  -- ---- names

  variables_turned : count_variables (reverse before) ≡ number
  variables_turned = sum_of_reverse (λ (i : Item). if is_variable i.form then 1 else 0) before ∙ sym (the_number before old d number numbered at form none pieces are)

  next_name : (name : List ℕ) → naming_after (before ++ item ∷ []) name ≡ (if declares name form then entity_of naming number form else naming name)
  next_name name =
      ap (λ items. stands_for items name) (reverse-append before (item ∷ []))
      ∙ ap (λ n. if declares name form then entity_of naming n form else naming name) variables_turned

  -- the name that it declares
  the_entity : (name : List ℕ) → declares name form ≡ true
      → (e : Entity) × (entity_of naming number form ≡ Some e) × IsOfSort (kinds ++ it.new) e.sort e.arg
  the_entity name h = by (ident_in form) refl
    where
      by : (o : Option Ident) → ident_in form ≡ o → (e : Entity) × (entity_of naming number form ≡ Some e) × IsOfSort (kinds ++ it.new) e.sort e.arg
      by None q = let f = sym (ap (is_ident_of name) q) ∙ h in absurd (cc)
      by (Some ident) q =
          subst (λ (o : Option Ident). IfSome o (λ i. (e : Entity) × (entity_of naming number form ≡ Some e) × IsOfSort (kinds ++ it.new) e.sort e.arg)) q it.entities

  declared_name : (name : List ℕ) → declares name form ≡ true → (e : Entity) × (naming_after (before ++ item ∷ []) name ≡ Some e) × (option_map entity_in pieces.entity ≡ Some e) × IsOfSort (kinds ++ it.new) e.sort e.arg
  declared_name name h =
      let e = the_entity name h in
      (e.0, next_name name ∙ (ap (λ b. if b then entity_of naming number form else naming name) h ∙ e.1), here.entities ∙ e.1, e.2)

  other_name : (name : List ℕ) → declares name form ≡ false → naming_after (before ++ item ∷ []) name ≡ naming name
  other_name name h = next_name name ∙ ap (λ b. if b then entity_of naming number form else naming name) h

  abbrev Declares : List ℕ → Item → Type 0
  Declares name i = IsTrue (declares name i.form)

  next_declared : (name : List ℕ) → IsSome (naming_after (before ++ item ∷ []) name) ↔ Any (λ earlier. IsTrue (declares name earlier.form)) (before ++ item ∷ [])
  next_declared name = by (declares name form) refl
    where
      by : (b : Bool) → declares name form ≡ b → IsSome (naming_after (before ++ item ∷ []) name) ↔ Any (λ earlier. IsTrue (declares name earlier.form)) (before ++ item ∷ [])
      by true h = (
        (λ x. Any-push (λ (i : Item). IsTrue (declares name i.form)) before item h),
        (λ x. ap is_some (declared_name name h).1),
      )
      by false h = (
        (λ x. any_more (λ (i : Item). IsTrue (declares name i.form)) before item ((d.state.declared name).0 (sym (ap is_some (other_name name h)) ∙ x))),
        (λ x. elim (any_cases (λ (i : Item). IsTrue (declares name i.form)) before item x) [
          | inl y ↦ ap is_some (other_name name h) ∙ (d.state.declared name).1 y
          | inr y ↦ (let f : true ≡ false = sym y ∙ h in absurd (cc))
        ]),
      )

  next_sorts : (more : List Kind) → it.new ≡ more → AreSorted (kinds ++ more) (naming_after (before ++ item ∷ []))
  next_sorts more e name = by (declares name form) refl
    where
      by : (b : Bool) → declares name form ≡ b → IfSome (naming_after (before ++ item ∷ []) name) (λ e. IsOfSort (kinds ++ more) e.sort e.arg)
      by true h =
          let n = declared_name name h in
          subst (λ (o : Option Entity). IfSome o (λ z. IsOfSort (kinds ++ more) z.sort z.arg)) (sym n.1)
          (subst (λ ks. IsOfSort (kinds ++ ks) n.0.sort n.0.arg) e n.3)
      by false h = subst (λ (o : Option Entity). IfSome o (λ z. IsOfSort (kinds ++ more) z.sort z.arg)) (sym (other_name name h)) (weaker (naming name) (d.sorts name))
        where
          weaker : (o : Option Entity) → IfSome o (λ z. IsOfSort kinds z.sort z.arg) → IfSome o (λ z. IsOfSort (kinds ++ more) z.sort z.arg)
          weaker None g = tt
          weaker (Some z) g = arg_of_more kinds more z.sort z.arg g

  module _ (new : Draft) (put : IsPut old form pieces new) where
    next_naming : (name : List ℕ) → naming_of new.so_far.declared name ≡ naming_after (before ++ item ∷ []) name
    next_naming name = by (declares name form) refl
      where
        by : (b : Bool) → declares name form ≡ b → naming_of new.so_far.declared name ≡ naming_after (before ++ item ∷ []) name
        by true h =
            let n = declared_name name h in
            put.declared name
            ∙ (ap (λ b. if b && is_some new_entity then new_entity else naming_of old.so_far.declared name) h
            ∙ (ap (λ (o : Option Entity). if is_some o then o else naming_of old.so_far.declared name) n.2 ∙ sym n.1))
        by false h =
            put.declared name
            ∙ (ap (λ b. if b && is_some new_entity then new_entity else naming_of old.so_far.declared name) h
            ∙ (d.state.naming name ∙ sym (other_name name h)))

    same_kinds : kinds ++ new_list ≡ new.so_far.kinds.items
    same_kinds = sym put.kinds

    next_state : AreSoFar (before ++ item ∷ []) new.so_far
    next_state =
        let bits : sum_by counted_bits (kinds ++ new_list) ≤ bit_limit = limits.0 in
        let values : sum_by integer_values (kinds ++ new_list) ≤ value_limit = limits.1 in
        let bs : sum_by counted_bits (kinds ++ new_list) ≡ old.so_far.counts.bits + sum_by counted_bits new_list = bits_counted in
        let vs : sum_by integer_values (kinds ++ new_list) ≡ old.so_far.counts.integer_values + sum_by integer_values new_list = values_counted in
        let elements = elements_bound before old d number numbered at form none pieces are in
        let es = elements_next before old d number numbered at form none pieces are in
        let both = bounds_of before old d at form none in
        let terms : sum_after terms_after [] (before ++ item ∷ []) ≤ term_limit = both.0 in
        let many : count_by (λ (i : Item). adds_constraint i.form) (before ++ item ∷ []) ≤ constraint_limit = both.1 in
        let ts = terms_next before old d number numbered at form none pieces are in
        let cs = constraints_next before old d number numbered at form none pieces are in
        let pb = put.counted.bits in
        let pv = put.counted.values in
        let pe = put.counted.elements in
        let pt = put.counted.terms in
        let pc = put.counted.constraints in
        let kb : sum_by counted_bits (kinds ++ new_list) ≡ sum_by counted_bits new.so_far.kinds.items = ap (sum_by counted_bits) same_kinds in
        let kv : sum_by integer_values (kinds ++ new_list) ≡ sum_by integer_values new.so_far.kinds.items = ap (sum_by integer_values) same_kinds in
        record {
          naming = next_naming;
          declared = next_declared;
          known = all_kinds ∙ ap Some same_kinds;
          variables = ap length (put.kinds ∙ ap (λ ks. kinds ++ ks) (sym new_is)) ∙ variables_next before old d number numbered at form none pieces are;
          within = record {
            legal = subst (All IsKind) same_kinds (All-append IsKind kinds new_list d.state.within.legal (subst (All IsKind) new_is it.legal));
            narrow = subst (All IsNarrow) same_kinds (All-append IsNarrow kinds new_list d.state.within.narrow (subst (All IsNarrow) new_is it.narrow));
            bits = omega (arith, bits, kb);
          };
          bits = omega (arith, bs, pb, kb);
          values = omega (arith, vs, pv, kv);
          values_within = omega (arith, vs, pv, values);
          elements = omega (arith, es, pe);
          elements_within = omega (arith, es, pe, elements);
          constraints = omega (arith, cs, pc);
          constraints_within = omega (arith, cs, pc, many);
          terms = omega (arith, ts, pt);
          terms_within = omega (arith, ts, pt, terms);
        }

    pub next : IsDraft (before ++ item ∷ []) new
    next =
        let n = the_number before old d number numbered at form none pieces are in
        record {
          state = next_state;
          sorts = subst (λ ks. AreSorted ks (naming_after (before ++ item ∷ []))) same_kinds (next_sorts new_list new_is);
          names = put.names ∙ ((λ i. d.names i ++ sym here.names i)
              ∙ (ap (λ xs. flat_map (λ (j : Item). names_in j.form) before ++ xs) (sym (append-nil (names_in form))) ∙ sym (flat_map-append (λ (j : Item). names_in j.form) before (item ∷ []))));
          constraints = each_more constraints_after [] before item
              ∙ ((λ i. append_some (d.constraints i) (constraints_in naming (sym n i) form))
              ∙ (ap (append_some (Some old.constraints.items)) (it.constraints.are ∙ ap Some (new_constraints before old d number numbered at form none pieces are)) ∙ ap Some (sym put.constraints)));
          shown = each_more shown_after [] before item
              ∙ ((λ i. append_some (d.shown i) (shown_in naming (sym n i) form))
              ∙ (ap (append_some (Some old.shown.items)) (it.shows.1 ∙ ap Some (gives_is (shown_in naming number form) it.shows.0 pieces.shown it.shows.1 here.shows)) ∙ ap Some (sym put.shown)));
          goals = each_more goals_after [] before item
              ∙ ((λ i. append_some (d.goals i) (goals_in naming (sym n i) form))
              ∙ (ap (append_some (Some old.goals.items)) (it.goals_are.1 ∙ ap Some (gives_is (goals_in naming number form) it.goals_are.0 pieces.goal it.goals_are.1 here.goals)) ∙ ap Some (sym put.goals)));
        }
