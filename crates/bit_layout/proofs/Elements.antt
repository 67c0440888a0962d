-- Ascending lists of integers as sets, and as domains with a least and a greatest number.
use Rattle.std.proofs.Common.{◌≡◌, ℕ, ◌-◌, ◌<◌, ◌≤◌, Bool, true, false, List, [], ◌∷◌, length, get_or, map, ℤ, pos, negsuc, ◌-ℤ◌, refl, sym, ap, ◌∙◌, subst, inl, inr, arith, Contains, ◌↔◌, IsTrue}
use Rattle.std.specs.Prelude.{◌≤ℤ◌, ◌<ℤ◌, unsigned_abs, filter}
use Rattle.std.specs.List.{zip}
use Rattle.std.specs.declared.cmp.Ordering.TheVariants.{Less}
use Rattle.std.specs.Ordering.{int_cmp, int_eq}
use Rattle.std.specs.Cmp.{int_cmp_total, int_ranked, signed_Decides}
use Rattle.std.proofs.lemmas.Int.{ints}
use Rattle.std.proofs.lemmas.Bool.{cases_order}
use Rattle.std.proofs.lemmas.List.{get_or_default, get_or-map}
use Rattle.std.proofs.lemmas.List.Elements.{Contains-get_or}
use Rattle.std.proofs.lemmas.List.Folds.{Any-from_list_any, list_any_at}
use Rattle.std.proofs.lemmas.Map.Keys.{Less-from_sorted, sorted_tail}
use Rattle.std.proofs.lemmas.Option.{unwrap_or-slice_get}
use Rattle.bit_layout.proofs.Rising.{nothing_in_empty, in_cons, in_head, in_tail, head_once, same_members}
use Rattle.set_meaning.specs.Sets.{Has, IsAscending, IsSubset}
use Rattle.bit_layout.specs.Words.{least, greatest, distance, span, lists}

-- ---- the test of a member

pub lists_true : (set : List ℤ) (x : ℤ) → Contains set x → lists set x ≡ true
lists_true set x h = list_any_at (λ y. int_eq y x) set h.0 x h.1 ((signed_Decides (get_or set h.0 x) x).1 h.2)

pub listed_is_in : (set : List ℤ) (x : ℤ) → lists set x ≡ true → Contains set x
listed_is_in set x h =
    let a = Any-from_list_any (λ y. int_eq y x) set h in
    let same : a.1 ≡ x = (signed_Decides a.1 x).0 a.4 in
    subst (Contains set) same (a.0, a.2, a.3)

same_truth : (a b : Bool) → (a ≡ true → b ≡ true) → (b ≡ true → a ≡ true) → a ≡ b
same_truth true b f g = sym (f refl)
same_truth false true f g = g refl
same_truth false false f g = refl

-- sets with the same members have the same tests
pub same_lists : (s t : List ℤ) (x : ℤ) → (Contains s x → Contains t x) → (Contains t x → Contains s x) → lists s x ≡ lists t x
same_lists s t x f g = same_truth (lists s x) (lists t x) (λ h. lists_true t x (f (listed_is_in s x h))) (λ h. lists_true s x (g (listed_is_in t x h)))

agree_at : (u : List ℤ) (f g : ℤ → Bool) (x : ℤ) → map f u ≡ map g u → Contains u x → f x ≡ g x
agree_at u f g x e h =
    let P : ℤ → Type 0 = λ y. f y ≡ g y in
    subst P h.2 (sym (get_or-map f u h.0 x true h.1) ∙ ap (λ bs. get_or bs h.0 true) e ∙ get_or-map g u h.0 x true h.1)

-- sets of one universe with the same bits are equal
pub sets_are_apart : (u s t : List ℤ) → IsAscending s → IsAscending t → IsSubset s u → IsSubset t u → map (lists s) u ≡ map (lists t) u → s ≡ t
unfolding IsSubset Has
sets_are_apart u s t p q within also e =
    same_members int_cmp int_cmp_total s t p q
    (λ z h. listed_is_in t z (sym (agree_at u (lists s) (lists t) z e (within z h)) ∙ lists_true s z h))
    (λ z h. listed_is_in s z (agree_at u (lists s) (lists t) z e (also z h) ∙ lists_true t z h))

-- ---- the set that a word chooses

-- the elements of the universe beside which the word is true
abbrev pub chosen : List ℤ → List Bool → List ℤ
chosen u word = map (λ p. p.0) (filter (λ p. p.1) (zip u word))

pub chosen_within : (u : List ℤ) (word : List Bool) (z : ℤ) → Contains (chosen u word) z → Contains u z
chosen_within [] word z h = absurd (nothing_in_empty z h)
chosen_within (x ∷ xs) [] z h = absurd (nothing_in_empty z h)
chosen_within (x ∷ xs) (true ∷ bs) z h =
    elim (in_cons x (chosen xs bs) z h) [
      | inl e ↦ subst (Contains (x ∷ xs)) e (in_head x xs)
      | inr later ↦ in_tail x xs z (chosen_within xs bs z later)
    ]
chosen_within (x ∷ xs) (false ∷ bs) z h = in_tail x xs z (chosen_within xs bs z h)

not_listed : (set : List ℤ) (x : ℤ) → (Contains set x → ⊥) → lists set x ≡ false
not_listed set x h = elim (lists set x) as (λ b. lists set x ≡ b → b ≡ false) [ true ↦ λ e. absurd (h (listed_is_in set x e)) | false ↦ λ _. refl ] refl

-- the head's bit
head_bit : (x : ℤ) (xs : List ℤ) (b : Bool) (bs : List Bool) → IsAscending (x ∷ xs) → lists (chosen (x ∷ xs) (b ∷ bs)) x ≡ b
head_bit x xs true bs up = lists_true (x ∷ chosen xs bs) x (in_head x (chosen xs bs))
head_bit x xs false bs up = not_listed (chosen xs bs) x (λ h. head_once int_cmp int_cmp_total x xs up (chosen_within xs bs x h))

-- the head's bit changes no other
other_bits : (x : ℤ) (xs : List ℤ) (b : Bool) (bs : List Bool) (z : ℤ) → IsAscending (x ∷ xs) → Contains xs z → lists (chosen (x ∷ xs) (b ∷ bs)) z ≡ lists (chosen xs bs) z
other_bits x xs true bs z up h =
    same_lists (x ∷ chosen xs bs) (chosen xs bs) z
    (λ k. elim (in_cons x (chosen xs bs) z k) [
      | inl e ↦ absurd (head_once int_cmp int_cmp_total x xs up (subst (Contains xs) (sym e) h))
      | inr later ↦ later
    ])
    (in_tail x (chosen xs bs) z)
other_bits x xs false bs z up h = refl

-- a test that agrees with the chosen set gives the word back
pub chosen_word : (u : List ℤ) (word : List Bool) (f : ℤ → Bool) → IsAscending u → length word ≡ length u → ((z : ℤ) → Contains u z → f z ≡ lists (chosen u word) z) → map f u ≡ word
chosen_word [] [] f up long agree = refl
chosen_word [] (b ∷ bs) f up long agree = absurd (omega (arith, long))
chosen_word (x ∷ xs) [] f up long agree = absurd (omega (arith, long))
chosen_word (x ∷ xs) (b ∷ bs) f up long agree =
    let head : f x ≡ b = agree x (in_head x xs) ∙ head_bit x xs b bs up in
    let rest : map f xs ≡ bs = chosen_word xs bs f (sorted_tail int_cmp x xs up) (omega (arith, long))
    (λ z h. agree z (in_tail x xs z h) ∙ other_bits x xs b bs z up h) in
    ap (λ c. c ∷ map f xs) head ∙ ap (λ cs. b ∷ cs) rest

-- ---- the least and the greatest of an ascending list

pos-unsigned_abs : (z : ℤ) → pos 0 ≤ℤ z → pos (unsigned_abs z) ≡ z
pos-unsigned_abs (pos n) h = refl
pos-unsigned_abs (negsuc n) h = absurd (omega (arith, ints))

pub distance_up : (x y : ℤ) → x ≤ℤ y → pos (distance x y) ≡ y -ℤ x
distance_up x y h = pos-unsigned_abs (y -ℤ x) (omega (arith, ints))

pub same_distance : (a x y : ℤ) → a ≤ℤ x → a ≤ℤ y → distance a x ≡ distance a y → x ≡ y
same_distance a x y p q e =
    let dx : pos (distance a x) ≡ x -ℤ a = distance_up a x p in
    let dy : pos (distance a y) ≡ y -ℤ a = distance_up a y q in
    let same : pos (distance a x) ≡ pos (distance a y) = ap pos e in
    omega (arith, ints, dx, dy, same)

pub nearer : (a x y : ℤ) → a ≤ℤ x → x ≤ℤ y → distance a x ≤ distance a y
nearer a x y p q =
    let dx : pos (distance a x) ≡ x -ℤ a = distance_up a x p in
    let dy : pos (distance a y) ≡ y -ℤ a = distance_up a y (omega (arith, ints)) in
    omega (arith, ints, dx, dy)

in_order : (xs : List ℤ) (i j : ℕ) (d : ℤ) → IsAscending xs → i ≤ j → j < length xs → get_or xs i d ≤ℤ get_or xs j d
in_order xs i j d up le within =
    elim (cases_order i j) [
      | inl e ↦ let P : ℕ → Type 0 = λ k. get_or xs i d ≤ℤ get_or xs k d in subst P e (omega (arith, ints))
      | inr (inl less) ↦ below (get_or xs i d) (get_or xs j d) (Less-from_sorted int_cmp xs i j d up less within)
      | inr (inr more) ↦ absurd (omega arith)
    ]
  where
    below : (x y : ℤ) → int_cmp x y ≡ Less → x ≤ℤ y
    below x y e = let less : x <ℤ y = int_ranked x y Less (sym e) in omega (arith, ints)

pub least_is_least : (xs : List ℤ) (x : ℤ) → IsAscending xs → Contains xs x → least xs ≤ℤ x
least_is_least xs x up h =
    let first : least xs ≡ get_or xs 0 x = unwrap_or-slice_get xs 0 (pos 0) ∙ get_or_default xs 0 (pos 0) x (let w : h.0 < length xs = h.1 in omega arith) in
    let below : get_or xs 0 x ≤ℤ get_or xs h.0 x = in_order xs 0 h.0 x up (omega arith) h.1 in
    let at : get_or xs h.0 x ≡ x = h.2 in
    let P : ℤ → Type 0 = λ y. y ≤ℤ x in
    subst P (sym first) (let Q : ℤ → Type 0 = λ y. get_or xs 0 x ≤ℤ y in subst Q at below)

pub greatest_is_greatest : (xs : List ℤ) (x : ℤ) → IsAscending xs → Contains xs x → x ≤ℤ greatest xs
greatest_is_greatest xs x up h =
    let w : h.0 < length xs = h.1 in
    let last : greatest xs ≡ get_or xs (length xs - 1) x = unwrap_or-slice_get xs (length xs - 1) (pos 0) ∙ get_or_default xs (length xs - 1) (pos 0) x (omega arith) in
    let below : get_or xs h.0 x ≤ℤ get_or xs (length xs - 1) x = in_order xs h.0 (length xs - 1) x up (omega arith) (omega arith) in
    let at : get_or xs h.0 x ≡ x = h.2 in
    let P : ℤ → Type 0 = λ y. x ≤ℤ y in
    subst P (sym last) (let Q : ℤ → Type 0 = λ y. y ≤ℤ get_or xs (length xs - 1) x in subst Q at below)

pub offset_within : (xs : List ℤ) (x : ℤ) → IsAscending xs → Contains xs x → distance (least xs) x ≤ span xs
offset_within xs x up h = nearer (least xs) x (greatest xs) (least_is_least xs x up h) (greatest_is_greatest xs x up h)

pub least_below_greatest : (xs : List ℤ) → IsAscending xs → 0 < length xs → least xs ≤ℤ greatest xs
least_below_greatest xs up some =
    let first : get_or xs 0 (pos 0) ≡ least xs = sym (unwrap_or-slice_get xs 0 (pos 0)) in
    least_to_greatest (least xs) first
  where
    least_to_greatest : (y : ℤ) → get_or xs 0 (pos 0) ≡ y → y ≤ℤ greatest xs
    least_to_greatest y e = let P : ℤ → Type 0 = λ z. z ≤ℤ greatest xs in subst P e (greatest_is_greatest xs (get_or xs 0 (pos 0)) up (Contains-get_or xs 0 (pos 0) some))

pub lists_by_test : (set : List ℤ) (x : ℤ) (r : Bool) → IsTrue r ↔ Has set x → r ≡ lists set x
unfolding Has
lists_by_test set x r h = same_truth r (lists set x) (λ t. lists_true set x (h.0 t)) (λ t. h.1 (listed_is_in set x t))

pub ends_in_order : (xs : List ℤ) → IsAscending xs → least xs ≤ℤ greatest xs
ends_in_order [] up = omega (arith, ints)
ends_in_order (x ∷ xs) up = least_below_greatest (x ∷ xs) up (omega arith)
