-- The faults of a part of an expression, by its form.
use Rattle.std.proofs.Common.{Bor, ◌≡◌, ◌≢◌, ◌⊎◌, ℕ, List, [], ◌∷◌, Option, Some, None, ℤ, refl, sym, ap, ◌∙◌, subst, inl, inr, arith}
use Rattle.std.specs.Prelude.{sum_by}
use Rattle.std.specs.Option.{option_map}
use Rattle.std.proofs.lemmas.List.{append-nil}
use Rattle.std.proofs.lemmas.Option.{none-some, same_Some}
use Rattle.fzn_parser.specs.declared.tree.Num.{Num}
use Rattle.fzn_parser.specs.declared.tree.Num.TheVariants as nums
use Rattle.fzn_parser.specs.declared.tree.Number.{Number}
use Rattle.fzn_parser.specs.declared.tree.SetForm.{SetForm}
use Rattle.fzn_parser.specs.declared.tree.BasicForm.{BasicForm}
use Rattle.fzn_parser.specs.declared.tree.BasicForm.TheVariants as basics
use Rattle.set_meaning.specs.declared.kinds.Value.TheVariants as value
use Rattle.set_meaning.specs.declared.problems.Term.TheVariants.{Const}
use Rattle.set_meaning.specs.declared.problems.Arg.TheVariants.{One}
use Rattle.set_meaning.specs.declared.rows.Shape.{Shape}
use Rattle.set_meaning.specs.declared.rows.Sort.TheVariants.{Boolean, Integer, IntegerSet}
use Rattle.fzn_model.specs.declared.typing.Typing.{Typing}
use Rattle.fzn_model.specs.declared.known.Known.{Known}
use Rattle.fzn_model.specs.declared.expressions.Seen.{Seen}
use Rattle.fzn_model.specs.declared.faults.ModelFault.{ModelFault}
use Rattle.fzn_model.specs.declared.faults.ModelFault.TheVariants as faults
use Rattle.fzn_model.specs.Items.{numbers_at, numbers_of}
use Rattle.fzn_model.specs.Entities.{Naming, elements_of}
use Rattle.fzn_model.specs.Shared.{entity_in}
use Rattle.fzn_model.specs.Shapes.{HasTyping, constant, typing_of}
use Rattle.fzn_model.specs.DeclarationRules.{HasNumberFault}
use Rattle.fzn_model.specs.Measures.{number_fault}
use Rattle.fzn_model.specs.FaultsOf.{IsToldBefore, set_size, terms_of}
use Rattle.fzn_model.specs.FirstFault.{AreNone, IsFirstOf, first_told}
use Rattle.fzn_model.specs.PartFaults.{IsNotAsked, IsSeen, IsUnknownName, IsUnsuitedTo, OfElements, OfForm, OfNumber, OfSome, Told, elements_at, literal_elements, size_of}
use Rattle.fzn_model.proofs.Firsts.{either_first}
use Rattle.fzn_model.proofs.PartFirsts.{just, single, same_faults, some_last, some_none}

-- ---- types

unsuited_to : (naming : Naming) (shape : Option Shape) (form : BasicForm) (t : Typing)
    → typing_of naming form ≡ Some t → form ≢ basics.Num nums.Float → IsNotAsked shape t → IsUnsuitedTo naming shape form
unsuited_to naming None form t typed float h = absurd h
unsuited_to naming (Some s) form t typed float h =
    (float, λ suits. h (subst (HasTyping s) (same_Some suits.typing t (sym suits.typed ∙ typed)) suits.asked))

not_asked : (naming : Naming) (shape : Option Shape) (form : BasicForm) (t : Typing)
    → typing_of naming form ≡ Some t → IsUnsuitedTo naming shape form → IsNotAsked shape t
not_asked naming None form t typed h = absurd h
not_asked naming (Some s) form t typed h = λ has. h.1 (record { typing = t; typed = typed; asked = has })

-- ---- elements

pub no_elements : (at : ℕ) (f : ModelFault) → OfElements at None f → ⊥
no_elements at f h = elim h [ inl w ↦ none-some w.1.0 w.1.1 | inr w ↦ none-some w.1.0 w.1.1 ]

-- ---- a part with a typing

-- the faults of such a part but for those of its name
abbrev OfTyped : Option Shape → Typing → ℕ → List Number → Option (List ℤ) → ModelFault → Type 0
OfTyped shape t at numbers elements f =
    Told (faults.WrongType at) (IsNotAsked shape t) f ⊎ OfSome OfNumber numbers f ⊎ OfElements at elements f

typed_part : (naming : Naming) (shape : Option Shape) (at : ℕ) (form : BasicForm) (t : Typing) (r : Option ModelFault)
    → typing_of naming form ≡ Some t → form ≢ basics.Num nums.Float → (IsUnknownName naming form → ⊥)
    → IsFirstOf (OfTyped shape t at (numbers_at at form) (literal_elements form)) r → IsFirstOf (OfForm naming shape at form) r
typed_part naming shape at form t r typed float known =
    same_faults (OfTyped shape t at (numbers_at at form) (literal_elements form)) (OfForm naming shape at form) r
    (λ f h. elim h [ inl w ↦ inr (inl (w.0, unsuited_to naming shape form t typed float w.1)) | inr rest ↦ inr (inr rest) ])
    (λ f h. elim h [
      | inl u ↦ absurd (known u.1)
      | inr more ↦ elim more [ inl w ↦ inl (w.0, not_asked naming shape form t typed w.1) | inr rest ↦ inr rest ]
    ])

-- a part with no numbers and no elements
bare_part : (naming : Naming) (shape : Option Shape) (at : ℕ) (form : BasicForm) (t : Typing) (r : Option ModelFault)
    → typing_of naming form ≡ Some t → form ≢ basics.Num nums.Float → (IsUnknownName naming form → ⊥)
    → AreNone (OfSome OfNumber (numbers_at at form)) → literal_elements form ≡ None
    → IsFirstOf (Told (faults.WrongType at) (IsNotAsked shape t)) r → IsFirstOf (OfForm naming shape at form) r
bare_part naming shape at form t r typed float known none bare first =
    typed_part naming shape at form t r typed float known
    (same_faults (Told (faults.WrongType at) (IsNotAsked shape t)) (OfTyped shape t at (numbers_at at form) (literal_elements form)) r
    (λ f h. inl h)
    (λ f h. elim h [
      | inl w ↦ w
      | inr rest ↦ elim rest [
        | inl n ↦ absurd (none f n)
        | inr e ↦ absurd (no_elements at f (subst (λ known. OfElements at known f) bare e))
      ]
    ])
    first)

-- ---- by form

pub bool_part : (naming : Naming) (shape : Option Shape) (at : ℕ) (r : Option ModelFault) (b : _)
    → IsFirstOf (Told (faults.WrongType at) (IsNotAsked shape (constant Boolean))) r → IsFirstOf (OfForm naming shape at (basics.Bool b)) r
bool_part naming shape at r b first =
    bare_part naming shape at (basics.Bool b) (constant Boolean) r refl (λ e. (cc)) (λ h. h) (some_none OfNumber) refl first

pub int_part : (naming : Naming) (shape : Option Shape) (at : ℕ) (r : Option ModelFault) (x : ℤ)
    → IsFirstOf (Told (faults.WrongType at) (IsNotAsked shape (constant Integer))) r → IsFirstOf (OfForm naming shape at (basics.Num (nums.Int x))) r
int_part naming shape at r x first =
    bare_part naming shape at (basics.Num (nums.Int x)) (constant Integer) r refl (λ e. (cc)) (λ h. h)
    (λ f h. none-some f (single OfNumber _ f h)) refl first

pub large_part : (naming : Naming) (shape : Option Shape) (at : ℕ) (r : Option ModelFault)
    → IsFirstOf (Told (faults.WrongType at) (IsNotAsked shape (constant Integer))) r
    → IsFirstOf (OfForm naming shape at (basics.Num nums.Large)) (first_told r (Some (faults.NumberTooLarge at)))
large_part naming shape at r first =
    let n : Number = record { at = at; num = nums.Large } in
    let W : ModelFault → Type 0 = Told (faults.WrongType at) (IsNotAsked shape (constant Integer)) in
    typed_part naming shape at (basics.Num nums.Large) (constant Integer) _ refl (λ e. (cc)) (λ h. h)
    (same_faults (λ f. W f ⊎ OfNumber n f) (OfTyped shape (constant Integer) at (n ∷ []) None) _
    (λ f h. elim h [ inl w ↦ inl w | inr y ↦ inr (inl (some_last OfNumber [] n f y)) ])
    (λ f h. elim h [
      | inl w ↦ inl w
      | inr rest ↦ elim rest [ inl y ↦ inr (single OfNumber n f y) | inr e ↦ absurd (no_elements at f e) ]
    ])
    (either_first W (OfNumber n) r (number_fault n) first (just (number_fault n))))

not_float : (naming : Naming) (shape : Option Shape) → IsUnsuitedTo naming shape (basics.Num nums.Float) → ⊥
not_float naming None h = h
not_float naming (Some s) h = h.0 refl

pub float_part : (naming : Naming) (shape : Option Shape) (at : ℕ) → IsFirstOf (OfForm naming shape at (basics.Num nums.Float)) (Some (faults.Float at))
float_part naming shape at =
    let n : Number = record { at = at; num = nums.Float } in
    same_faults (OfNumber n) (OfForm naming shape at (basics.Num nums.Float)) (number_fault n)
    (λ f h. inr (inr (inl (some_last OfNumber [] n f h))))
    (λ f h. elim h [
      | inl u ↦ absurd u.1
      | inr more ↦ elim more [
        | inl w ↦ absurd (not_float naming shape w.1)
        | inr rest ↦ elim rest [ inl y ↦ single OfNumber n f y | inr e ↦ absurd (no_elements at f e) ]
      ]
    ])
    (just (number_fault n))

pub set_part : (naming : Naming) (shape : Option Shape) (at : ℕ) (literal : SetForm) (r a b : Option ModelFault)
    → IsFirstOf (Told (faults.WrongType at) (IsNotAsked shape (constant IntegerSet))) r
    → IsFirstOf (OfSome OfNumber (numbers_of literal)) a
    → IsFirstOf (OfElements at (elements_of literal)) b
    → IsFirstOf (OfForm naming shape at (basics.Set literal)) (first_told (first_told r a) b)
set_part naming shape at literal r a b typed numbers elements =
    let W : ModelFault → Type 0 = Told (faults.WrongType at) (IsNotAsked shape (constant IntegerSet)) in
    let N : ModelFault → Type 0 = OfSome OfNumber (numbers_of literal) in
    let E : ModelFault → Type 0 = OfElements at (elements_of literal) in
    typed_part naming shape at (basics.Set literal) (constant IntegerSet) _ refl (λ e. (cc)) (λ h. h)
    (same_faults (λ f. (W f ⊎ N f) ⊎ E f) (λ f. W f ⊎ N f ⊎ E f) _
    (λ f h. elim h [ inl x ↦ elim x [ inl w ↦ inl w | inr n ↦ inr (inl n) ] | inr e ↦ inr (inr e) ])
    (λ f h. elim h [ inl w ↦ inl (inl w) | inr x ↦ elim x [ inl n ↦ inl (inr n) | inr e ↦ inr e ] ])
    (either_first (λ f. W f ⊎ N f) E (first_told r a) b (either_first W N r a typed numbers) elements))

-- ---- names

undeclared_first : (naming : Naming) (shape : Option Shape) (at : ℕ) (name : List ℕ) (other : ModelFault)
    → OfForm naming shape at (basics.Name name) other → IsToldBefore (faults.Undeclared at) other
undeclared_first naming shape at name other (inl u) = subst (λ g. IsToldBefore (faults.Undeclared at) g) (sym u.0) (inr (refl, omega arith))
undeclared_first naming shape at name other (inr (inl w)) =
    subst (λ g. IsToldBefore (faults.Undeclared at) g) (sym w.0) (inr (refl, omega arith))
undeclared_first naming shape at name other (inr (inr (inl n))) = absurd (some_none OfNumber other n)
undeclared_first naming shape at name other (inr (inr (inr e))) = absurd (no_elements at other e)

pub unknown_name : (naming : Naming) (shape : Option Shape) (at : ℕ) (name : List ℕ) → naming name ≡ None
    → IsSeen (OfForm naming shape at (basics.Name name)) (elements_at naming (basics.Name name)) (record { fault = Some (faults.Undeclared at); elements = 0 })
unknown_name naming shape at name none = record {
  fault = record { among = inl (refl, none); first = undeclared_first naming shape at name };
  elements = rw none refl;
}

pub known_name : (naming : Naming) (shape : Option Shape) (at : ℕ) (name : List ℕ) (known : Known) (r : Option ModelFault)
    → naming name ≡ Some (entity_in known.entity)
    → IsFirstOf (Told (faults.WrongType at) (IsNotAsked shape known.typing)) r
    → IsSeen (OfForm naming shape at (basics.Name name)) (elements_at naming (basics.Name name)) (record { fault = r; elements = known.elements })
known_name naming shape at name known r is first = record {
  fault =
      bare_part naming shape at (basics.Name name) known.typing r
      (rw is (ap Some (sym known.typed))) (λ e. (cc)) (λ none. none-some _ (sym none ∙ is)) (some_none OfNumber) refl first;
  elements = rw (is, append-nil) known.counted;
}

-- ---- what is seen

size_known : (known : Option (List ℤ)) → size_of known ≡ sum_by set_size (terms_of (option_map (λ xs. One (Const (value.Set xs))) known))
size_known None = refl
size_known (Some xs) = omega arith

-- the first fault of some numbers
first_number : (numbers : List Number) (r : Option ModelFault) → IsFirstOf (HasNumberFault numbers) r → IsFirstOf (OfSome OfNumber numbers) r
first_number numbers r first =
    same_faults (HasNumberFault numbers) (OfSome OfNumber numbers) r
    (λ f h. record { part = h.1; used = (h.0, h.2, h.3); faulty = h.4 })
    (λ f h. (h.used.0, h.part, h.used.1, h.used.2, h.faulty))
    first

pub set_seen : (naming : Naming) (shape : Option Shape) (at : ℕ) (literal : SetForm) (r a : Option ModelFault) (seen : Seen)
    → IsFirstOf (Told (faults.WrongType at) (IsNotAsked shape (constant IntegerSet))) r
    → IsFirstOf (HasNumberFault (numbers_of literal)) a
    → IsSeen (OfElements at (elements_of literal)) (size_of (elements_of literal)) seen
    → IsSeen (OfForm naming shape at (basics.Set literal)) (elements_at naming (basics.Set literal))
    (record { fault = first_told (first_told r a) seen.fault; elements = seen.elements })
set_seen naming shape at literal r a seen typed numbers elements = record {
  fault = set_part naming shape at literal r a seen.fault typed (first_number (numbers_of literal) a numbers) elements.fault;
  elements = elements.elements ∙ size_known (elements_of literal);
}

pub number_elements : (naming : Naming) (num : Num) → 0 ≡ elements_at naming (basics.Num num)
number_elements naming (nums.Int x) = refl
number_elements naming nums.Large = refl
number_elements naming nums.Float = refl

pub entity_known : (r : Option (Bor Known)) (o : Option Known) → option_map (λ (k : Bor Known). k.now) r ≡ o
    → option_map (λ (k : Known). entity_in k.entity) o ≡ option_map (λ (k : Bor Known). entity_in k.now.entity) r
entity_known None o e = rw (← e) refl
entity_known (Some k) o e = rw (← e) refl
