-- Items of arrays as branches of the places that a term can be.
use Rattle.std.proofs.Common.{◌≡◌, ◌↔◌, ◌<◌, ◌≤◌, ◌+◌, ◌-◌, ℕ, zero, suc, ℤ, pos, negsuc, ◌≤ℤ◌, Bool, true, false, List, [], ◌∷◌, ◌++◌, map, length, get_or, Option, Some, None, refl, sym, ap, ◌∙◌, subst, inl, inr, arith, Contains}
use Rattle.std.specs.Prelude.{Any, slice_get, filter_map}
use Rattle.std.specs.List.{All, AllZip}
use Rattle.std.proofs.lemmas.Int.{ints}
use Rattle.std.proofs.lemmas.List.{length-map}
use Rattle.std.proofs.lemmas.List.Elements.{All-from_get_or, All-cons, Contains-get_or, Contains-append_left, Contains-append_right}
use Rattle.std.proofs.lemmas.Option.{slice_get_within, slice_get-get_or}
use Rattle.set_meaning.specs.declared.kinds.Kind.{Kind}
use Rattle.set_meaning.specs.declared.kinds.Value.{Value}
use Rattle.set_meaning.specs.declared.problems.Term.{Term}
use Rattle.set_meaning.specs.declared.problems.Arg.{Arg}
use Rattle.set_meaning.specs.declared.problems.Arg.TheVariants.{One, Many}
use Rattle.set_meaning.specs.declared.problems.Relation.TheVariants.{ArrayIntElement, ArrayBoolElement}
use Rattle.set_meaning.specs.declared.rows.Sort.TheVariants.{Boolean, Integer}
use Rattle.set_meaning.specs.Elements.{IsItem}
use Rattle.set_meaning.specs.Arguments.{int_of_term, bool_of_term, each_of, OfThree}
use Rattle.set_meaning.specs.Relations.{HoldsOf, variable_of}
use Rattle.set_meaning.specs.Rows.{HasSort, HasShape, row_of, shapes_of}
use Rattle.bit_layout.proofs.Rising.{in_head, in_tail}
use Rattle.int_channel.specs.declared.forms.Atom.{Atom}
use Rattle.int_channel.specs.declared.forms.Branch.{Branch}
use Rattle.int_channel.specs.Forms.{BranchHolds, HaveValues, AreBranchesOf}
use Rattle.int_channel.specs.Choices.{number_of_term, AreAmong, AreChoicesOf, IsAtomWhere, IsBranchWhere, IsOneOf, IsPlace, numbers_of}
use Rattle.int_channel.proofs.ChoiceTerms.{IsKnown, known, int_known, bool_known, ints_known, bools_known, bit}
use Rattle.int_channel.proofs.ChoiceBranches.{branch}
use Rattle.int_channel.proofs.ChoiceIntegers.{of_three_known}
use Rattle.int_channel.proofs.ChoiceLoops.{is_one_of}
use Rattle.int_channel.proofs.ChoiceProducts.{number_listed, iff_to}

-- ---- one place

-- the item at the index
pub item_at_index : (xs : List ℤ) (n : ℤ) (i : ℕ) (x y : ℤ) → n ≡ pos (suc i) → slice_get xs i ≡ Some x → (x ≡ y) ↔ IsItem n xs y
item_at_index xs n i x y place here = (
  λ e. record { index = i; counted = place; item = here ∙ ap Some e },
  λ h.
      let counted : n ≡ pos (suc h.index) = h.counted in
      let same : h.index ≡ i = omega (arith, ints) in
      let at : slice_get xs i ≡ Some y = subst (λ (k : ℕ). slice_get xs k ≡ Some y) same h.item in
      cc,
)

slice_get-map : {X Y : Type 0} (f : X → Y) (xs : List X) (i : ℕ) (x : X) → slice_get xs i ≡ Some x → slice_get (map f xs) i ≡ Some (f x)
slice_get-map f [] i x h = absurd (let none : None ≡ Some x = h in cc)
slice_get-map f (y ∷ ys) zero x h = ap Some (ap f (let same : Some y ≡ Some x = h in cc))
slice_get-map f (y ∷ ys) (suc i) x h = slice_get-map f ys i x h

-- the branch of one place
pub place_branch : (kinds : List Kind) (place : Term) (items : List Term) (item here : Term) (n : ℤ) (i : ℕ) (p q : Atom) → i < length items → n ≡ pos (suc i) → here ≡ get_or items i here
    → IsAtomWhere (place ∷ []) (λ values. number_of_term values place ≡ n) p → IsAtomWhere (here ∷ item ∷ []) (λ values. number_of_term values here ≡ number_of_term values item) q
    → IsBranchWhere kinds (place ∷ items ++ item ∷ []) (λ values. (number_of_term values place ≡ n) × IsItem n (map (number_of_term values) items) (number_of_term values item)) (branch p q)
place_branch kinds place items item here n i p q within counted at first second =
    record {
      meaning = λ values.
          let found : slice_get items i ≡ Some here = slice_get-get_or items i here within ∙ ap Some (sym at) in
          let same = item_at_index (map (number_of_term values) items) n i (number_of_term values here) (number_of_term values item) counted
          (slice_get-map (number_of_term values) items i here found) in (
            λ h. ((first.meaning values).0 h.0, (second.meaning values).0 (same.1 h.1)),
            λ h. ((first.meaning values).1 h.0, same.0 ((second.meaning values).1 h.1)),
          );
      over = λ terms among.
          let inside : Contains terms here = item_among terms items (item ∷ []) i here within at among.1 in
          let last : Contains terms item = last_among terms items item among.1 in
          (first.over kinds terms (among.0, tt), second.over kinds terms (inside, (last, tt)));
    }
  where
    item_among : (terms items rest : List Term) (i : ℕ) (t : Term) → i < length items → t ≡ get_or items i t → AreAmong terms (items ++ rest) → Contains terms t
    item_among terms [] rest i t within at h = absurd (omega (arith, within))
    item_among terms (x ∷ items) rest zero t within at h = subst (Contains terms) (sym at) h.0
    item_among terms (x ∷ items) rest (suc i) t within at h = item_among terms items rest i t (omega (arith, within)) at h.1

    last_among : (terms items : List Term) (t : Term) → AreAmong terms (items ++ t ∷ []) → Contains terms t
    last_among terms [] t h = h.0
    last_among terms (x ∷ items) t h = last_among terms items t h.1

-- ---- all places

-- each of the last terms of a list is among all
pub all_in : (terms front rest : List Term) → terms ≡ front ++ rest → AreAmong terms rest
all_in terms front [] is = tt
all_in terms front (t ∷ rest) is =
    let here : Contains (front ++ t ∷ rest) t = Contains-append_right front (t ∷ rest) t (in_head t rest) in
    let next : terms ≡ (front ++ t ∷ []) ++ rest = is ∙ shift front t rest in
    (subst (λ (ts : List Term). Contains ts t) (sym is) here, all_in terms (front ++ t ∷ []) rest next)
  where
    shift : (front : List Term) (t : Term) (rest : List Term) → front ++ t ∷ rest ≡ (front ++ t ∷ []) ++ rest
    shift [] t rest = refl
    shift (x ∷ front) t rest = ap (λ (ts : List Term). x ∷ ts) (shift front t rest)

all_known : (kinds : List Kind) (terms : List Term) (values : List Value) (ts : List Term) → HaveValues kinds (filter_map variable_of terms) values → AreAmong terms ts → All (IsKnown kinds values) ts
all_known kinds terms values [] have h = λ k d within. absurd (omega (arith, within))
all_known kinds terms values (t ∷ ts) have h = All-cons (IsKnown kinds values) t ts (known kinds terms values t have h.0) (all_known kinds terms values ts have h.1)

front_among : (terms ts rest : List Term) → AreAmong terms (ts ++ rest) → AreAmong terms ts
front_among terms [] rest h = tt
front_among terms (t ∷ ts) rest h = (h.0, front_among terms ts rest h.1)

back_among : (terms ts rest : List Term) → AreAmong terms (ts ++ rest) → AreAmong terms rest
back_among terms [] rest h = h
back_among terms (t ∷ ts) rest h = back_among terms ts rest h.1

-- an array's terms and one more, all of them known
pub items_known : (kinds : List Kind) (terms : List Term) (values : List Value) (items : List Term) (t : Term) → HaveValues kinds (filter_map variable_of terms) values → AreAmong terms (items ++ t ∷ [])
    → All (IsKnown kinds values) items × IsKnown kinds values t
items_known kinds terms values items t have among = (
  all_known kinds terms values items have (front_among terms items (t ∷ []) among),
  known kinds terms values t have (back_among terms items (t ∷ []) among).0,
)

item_is_place : (long : ℕ) (xs : List ℤ) (n y : ℤ) → length xs ≡ long → IsItem n xs y → IsPlace long n
item_is_place long xs n y is_long h =
    let within = slice_get_within xs h.index y h.item in
    let counted : n ≡ pos (suc h.index) = h.counted in
    (omega (arith, ints), omega (arith, ints, within, is_long))

pub int_elements : (kinds : List Kind) (place item : Term) (items : List Term) (numbers places : List ℤ) (bs : List Branch) → numbers ≡ numbers_of kinds place
    → ((n : ℤ) → Contains places n ↔ (Contains numbers n × IsPlace (length items) n))
    → AreChoicesOf kinds (place ∷ items ++ item ∷ []) (IsOneOf place places (λ n values. IsItem n (map (number_of_term values) items) (number_of_term values item))) bs
    → AllZip (HasShape kinds) (shapes_of (row_of ArrayIntElement)) (One place ∷ Many items ∷ One item ∷ []) → AreBranchesOf kinds ArrayIntElement (One place ∷ Many items ∷ One item ∷ []) bs
unfolding HoldsOf
int_elements kinds place item items numbers places bs listed kept choices fits =
    let terms : List Term = place ∷ items ++ item ∷ [] in
    let among : AreAmong terms terms = all_in terms [] terms refl in
    let Q : ℤ → List Value → Type 0 = λ n values. IsItem n (map (number_of_term values) items) (number_of_term values item) in
    record {
      meaning = λ values have.
          let x = number_of_term values place in
          let xs = map (number_of_term values) items in
          let y = number_of_term values item in
          let all = items_known kinds terms values items item have among.1 in
          let place_known = known kinds terms values place have among.0 in
          let there : Contains numbers x = subst (λ (ns : List ℤ). Contains ns x) (sym listed) (number_listed kinds values place fits.0 place_known) in
          let one : IsItem x xs y ↔ IsOneOf place places Q values =
          is_one_of place places Q values (λ q. (kept x).1 (there, item_is_place (length items) xs x y (length-map items (number_of_term values)) q)) in
          of_three_known IsItem (int_of_term values place) (each_of (int_of_term values) items) (int_of_term values item) x xs y
          (int_known kinds values place fits.0 place_known) (ints_known kinds values items fits.1.0 all.0) (int_known kinds values item fits.1.1.0 all.1) (Any (BranchHolds values) bs)
          (iff_to (IsItem x xs y) (IsOneOf place places Q values) (Any (BranchHolds values) bs) one (choices.meaning values));
      branches = choices.over terms among;
    }

-- ---- Booleans as numbers

bit_once : (a b : Bool) → bit a ≡ bit b → a ≡ b
bit_once true true e = refl
bit_once true false e = absurd (omega (arith, ints, e))
bit_once false true e = absurd (omega (arith, ints, e))
bit_once false false e = refl

bit_back : (bs : List Bool) (i : ℕ) (b : Bool) → slice_get (map bit bs) i ≡ Some (bit b) → slice_get bs i ≡ Some b
bit_back [] i b h = absurd (let none : None ≡ Some (bit b) = h in cc)
bit_back (x ∷ bs) zero b h = ap Some (bit_once x b (let same : Some (bit x) ≡ Some (bit b) = h in cc))
bit_back (x ∷ bs) (suc i) b h = bit_back bs i b h

same_items : (n : ℤ) (bs : List Bool) (b : Bool) (xs : List ℤ) (y : ℤ) → xs ≡ map bit bs → y ≡ bit b → IsItem n bs b ↔ IsItem n xs y
same_items n bs b xs y e f = (
  λ h. record { index = h.index; counted = h.counted; item = ap (λ (zs : List ℤ). slice_get zs h.index) e ∙ slice_get-map bit bs h.index b h.item ∙ ap Some (sym f) },
  λ h. record { index = h.index; counted = h.counted; item = bit_back bs h.index b (ap (λ (zs : List ℤ). slice_get zs h.index) (sym e) ∙ h.item ∙ ap Some f) },
)

pub bool_elements : (kinds : List Kind) (place item : Term) (items : List Term) (numbers places : List ℤ) (bs : List Branch) → numbers ≡ numbers_of kinds place
    → ((n : ℤ) → Contains places n ↔ (Contains numbers n × IsPlace (length items) n))
    → AreChoicesOf kinds (place ∷ items ++ item ∷ []) (IsOneOf place places (λ n values. IsItem n (map (number_of_term values) items) (number_of_term values item))) bs
    → AllZip (HasShape kinds) (shapes_of (row_of ArrayBoolElement)) (One place ∷ Many items ∷ One item ∷ []) → AreBranchesOf kinds ArrayBoolElement (One place ∷ Many items ∷ One item ∷ []) bs
unfolding HoldsOf
bool_elements kinds place item items numbers places bs listed kept choices fits =
    let terms : List Term = place ∷ items ++ item ∷ [] in
    let among : AreAmong terms terms = all_in terms [] terms refl in
    let Q : ℤ → List Value → Type 0 = λ n values. IsItem n (map (number_of_term values) items) (number_of_term values item) in
    record {
      meaning = λ values have.
          let x = number_of_term values place in
          let xs = map (number_of_term values) items in
          let y = number_of_term values item in
          let all = items_known kinds terms values items item have among.1 in
          let place_known = known kinds terms values place have among.0 in
          let truths = bools_known kinds values items fits.1.0 all.0 in
          let truth = bool_known kinds values item fits.1.1.0 all.1 in
          let there : Contains numbers x = subst (λ (ns : List ℤ). Contains ns x) (sym listed) (number_listed kinds values place fits.0 place_known) in
          let one : IsItem x xs y ↔ IsOneOf place places Q values =
          is_one_of place places Q values (λ q. (kept x).1 (there, item_is_place (length items) xs x y (length-map items (number_of_term values)) q)) in
          of_three_known IsItem (int_of_term values place) (each_of (bool_of_term values) items) (bool_of_term values item) x truths.0 truth.0
          (int_known kinds values place fits.0 place_known) truths.1 truth.1 (Any (BranchHolds values) bs)
          (iff_to (IsItem x truths.0 truth.0) (IsItem x xs y) (Any (BranchHolds values) bs) (same_items x truths.0 truth.0 xs y truths.2 truth.2)
          (iff_to (IsItem x xs y) (IsOneOf place places Q values) (Any (BranchHolds values) bs) one (choices.meaning values)));
      branches = choices.over terms among;
    }
