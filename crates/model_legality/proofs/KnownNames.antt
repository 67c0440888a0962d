-- What is known of names, kinds and numbers of variables after items without faults.
use Rattle.std.proofs.Common.{◌≡◌, ◌↔◌, ℕ, ◌+◌, Bool, true, false, List, [], ◌∷◌, ◌++◌, length, if◌then◌else◌, Option, Some, None, is_some, refl, sym, ap, subst, ◌∙◌, inl, inr, arith, append_assoc}
use Rattle.std.specs.Prelude.{All, Any, IsTrue, IsSome, IfSome}
use Rattle.std.proofs.lemmas.List.{reverse-append, length-append}
use Rattle.std.proofs.lemmas.List.Sums.{sum_by_push}
use Rattle.std.proofs.lemmas.List.Elements.{All-append, All-nil}
use Rattle.std.proofs.lemmas.List.Quantifiers.{Any-push}
use Rattle.fzn_parser.specs.declared.tree.Ident.{Ident}
use Rattle.fzn_parser.specs.declared.tree.Form.{Form}
use Rattle.fzn_parser.specs.declared.tree.Item.{Item}
use Rattle.fzn_parser.specs.declared.tree.Tree.{Tree}
use Rattle.set_meaning.specs.declared.kinds.Kind.{Kind}
use Rattle.set_meaning.specs.Problems.{IsKind}
use Rattle.fzn_model.specs.Lists.{append_some}
use Rattle.fzn_model.specs.Items.{declares, ident_in, is_ident_of, is_variable}
use Rattle.fzn_model.specs.Entities.{Naming, count_variables, entity_of, naming_after, stands_for}
use Rattle.fzn_model.specs.ProblemOf.{kinds_of}
use Rattle.fzn_model.specs.FaultsOf.{HasNoFault, IsFaultAfter}
use Rattle.fzn_model.specs.FirstFault.{AreNone}
use Rattle.fzn_model.specs.Drafts.{AreSorted, IsOfSort}
use Rattle.fzn_model.proofs.Meant.{AreKnown}
use Rattle.fzn_model.proofs.MoreKinds.{kinds_more}
use Rattle.fzn_model.proofs.Sound.{IsSound, arg_of_more, sound}
use Rattle.fzn_model.proofs.Steps.{any_cases, any_more, sum_of_reverse}
use Rattle.model_legality.proofs.Splits.{by_prefixes}

-- the variables that the items declare have legal kinds, and it is known what names stand for
pub record IsKnown (before : List Item) : Type 0 where
  pub kinds : List Kind
  pub kinds_are : kinds_of before ≡ Some kinds
  pub counted : count_variables before ≡ length kinds
  pub legal : All IsKind kinds
  pub names : AreKnown before kinds

-- what f gives, where it gives something
abbrev Given : {A B : Type 0} → (A → Option B) → Type 0
Given {A} {B} f = B

-- what a name stands for
abbrev Entity : Type 0
Entity = Given (naming_after [])

abbrev one_if : Bool → ℕ
one_if b = if b then 1 else 0

known_of_none : IsKnown []
known_of_none = record {
  kinds = [];
  kinds_are = refl;
  counted = refl;
  legal = All-nil IsKind;
  names = record {
    names = λ name. ((λ x. absurd (cc)), (λ a. absurd (omega (arith, a.2))));
    sorts = λ name. tt;
  };
}

-- what is there has terms of its sort
abbrev IsSorted : List Kind → Option Entity → Type 0
IsSorted kinds o = IfSome o (λ e. IsOfSort kinds e.sort e.arg)

-- an earlier item declares the name
abbrev IsDeclaredIn : List Item → List ℕ → Type 0
IsDeclaredIn items name = Any (λ earlier. IsTrue (declares name earlier.form)) items

module _ (before : List Item) (at : ℕ) (form : Form) (none : AreNone (IsFaultAfter before (record { at = at; form = form })))
    (k : IsKnown before) where
  abbrev item : Item
  item = record { at = at; form = form }

  abbrev naming : Naming
  naming = naming_after before

  abbrev number : ℕ
  number = count_variables before

  it : IsSound k.kinds naming number form
  it = sound before k.kinds k.names number k.counted at form none

  -- what it stands for, where the item declares it, and what it stood for where not
  abbrev chosen : List ℕ → ℕ → Bool → Option Entity
  chosen name n b = if b then entity_of naming n form else naming name

  next_name : (name : List ℕ) → naming_after (before ++ item ∷ []) name ≡ chosen name number (declares name form)
  next_name name =
      ap (λ items. stands_for items name) (reverse-append before (item ∷ []))
      ∙ ap (λ n. chosen name n (declares name form)) (sum_of_reverse (λ (i : Item). one_if (is_variable i.form)) before)

  abbrev IsMade : Ident → Type 0
  IsMade ident = (e : Entity) × (entity_of naming number form ≡ Some e) × IsOfSort (k.kinds ++ it.new) e.sort e.arg

  the_entity : (name : List ℕ) → declares name form ≡ true
      → (e : Entity) × (entity_of naming number form ≡ Some e) × IsOfSort (k.kinds ++ it.new) e.sort e.arg
  the_entity name h = by (ident_in form) refl
    where
      by : (o : Option Ident) → ident_in form ≡ o
          → (e : Entity) × (entity_of naming number form ≡ Some e) × IsOfSort (k.kinds ++ it.new) e.sort e.arg
      by None q = let f : false ≡ true = sym (ap (is_ident_of name) q) ∙ h in absurd (cc)
      by (Some ident) q = subst (λ (o : Option Ident). IfSome o IsMade) q it.entities

  declared_name : (name : List ℕ) → declares name form ≡ true
      → (e : Entity) × (naming_after (before ++ item ∷ []) name ≡ Some e) × IsOfSort (k.kinds ++ it.new) e.sort e.arg
  declared_name name h =
      let e = the_entity name h in
      (e.0, next_name name ∙ (ap (chosen name number) h ∙ e.1), e.2)

  other_name : (name : List ℕ) → declares name form ≡ false → naming_after (before ++ item ∷ []) name ≡ naming name
  other_name name h = next_name name ∙ ap (chosen name number) h

  next_declared : (name : List ℕ) → IsSome (naming_after (before ++ item ∷ []) name) ↔ IsDeclaredIn (before ++ item ∷ []) name
  next_declared name = by (declares name form) refl
    where
      by : (b : Bool) → declares name form ≡ b → IsSome (naming_after (before ++ item ∷ []) name) ↔ IsDeclaredIn (before ++ item ∷ []) name
      by true h = (
        (λ x. Any-push (λ (i : Item). IsTrue (declares name i.form)) before item h),
        (λ x. ap is_some (declared_name name h).1),
      )
      by false h = (
        (λ x. any_more (λ (i : Item). IsTrue (declares name i.form)) before item
            ((k.names.names name).0 (sym (ap is_some (other_name name h)) ∙ x))),
        (λ x. elim (any_cases (λ (i : Item). IsTrue (declares name i.form)) before item x) [
          | inl y ↦ ap is_some (other_name name h) ∙ (k.names.names name).1 y
          | inr y ↦ (let f : true ≡ false = sym y ∙ h in absurd (cc))
        ]),
      )

  more_sorts : (o : Option Entity) → IsSorted k.kinds o → IsSorted (k.kinds ++ it.new) o
  more_sorts None g = tt
  more_sorts (Some z) g = arg_of_more k.kinds it.new z.sort z.arg g

  next_sorts : AreSorted (k.kinds ++ it.new) (naming_after (before ++ item ∷ []))
  next_sorts name = by (declares name form) refl
    where
      by : (b : Bool) → declares name form ≡ b → IsSorted (k.kinds ++ it.new) (naming_after (before ++ item ∷ []) name)
      by true h =
          let n = declared_name name h in
          subst (IsSorted (k.kinds ++ it.new)) (sym n.1) n.2
      by false h =
          subst (IsSorted (k.kinds ++ it.new)) (sym (other_name name h)) (more_sorts (naming name) (k.names.sorts name))

  next : IsKnown (before ++ item ∷ [])
  next = record {
    kinds = k.kinds ++ it.new;
    kinds_are = kinds_more before item ∙ (λ i. append_some (k.kinds_are i) (it.kinds_are i));
    counted =
        (let all : count_variables (before ++ item ∷ []) ≡ count_variables before + one_if (is_variable form) =
        sum_by_push (λ (i : Item). one_if (is_variable i.form)) before item in
        let both : length (k.kinds ++ it.new) ≡ length k.kinds + length it.new = length-append k.kinds it.new in
        let old : count_variables before ≡ length k.kinds = k.counted in
        let own : length it.new ≡ one_if (is_variable form) = it.counted in
        omega (arith, all, both, old, own));
    legal = All-append IsKind k.kinds it.new k.legal it.legal;
    names = record { names = next_declared; sorts = next_sorts };
  }

-- ---- of a tree

-- no item of a faultless tree has a fault
pub none_at : (tree : Tree) → HasNoFault tree → (front : List Item) (item : Item) (back : List Item) → tree.items ≡ front ++ item ∷ back
    → AreNone (IsFaultAfter front item)
none_at tree faultless front item back split fault h =
    faultless fault (record { before = front; item = item; behind = back; split = split; faulty = h })

-- the first items of a faultless tree
pub front_is_known : (tree : Tree) → HasNoFault tree → (front back : List Item) → tree.items ≡ front ++ back → IsKnown front
front_is_known tree faultless front back split =
    by_prefixes IsKnown front known_of_none
    (λ before item rest e k. next before item.at item.form
    (none_at tree faultless before item (rest ++ back) (split ∙ (ap (λ is. is ++ back) e ∙ append_assoc before (item ∷ rest) back))) k)
