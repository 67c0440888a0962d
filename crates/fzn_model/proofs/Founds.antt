-- What is found in some parts of expressions, one after another.
use Rattle.std.proofs.Common.{◌≡◌, ◌⊎◌, ℕ, zero, suc, ◌+◌, ◌-◌, ◌^◌, ◌<◌, ◌≤◌, min, List, [], ◌∷◌, ◌++◌, length, get_or, take, Option, None, refl, sym, ap, ◌∙◌, subst, inl, inr, arith, append_assoc, length-append}
use Rattle.std.specs.Prelude.{sum_by, slice_get}
use Rattle.std.specs.List.{flat_map}
use Rattle.std.proofs.lemmas.List.{append-nil, take_all, take_more}
use Rattle.std.proofs.lemmas.List.Concat.{flat_map-append}
use Rattle.std.proofs.lemmas.List.Sums.{sum_by-append}
use Rattle.fzn_parser.specs.declared.tree.Basic.{Basic}
use Rattle.fzn_parser.specs.declared.tree.Expr.{Expr}
use Rattle.fzn_parser.specs.declared.tree.Form.{Form}
use Rattle.set_meaning.specs.declared.rows.Shape.{Shape}
use Rattle.fzn_model.specs.declared.expressions.Found.{Found}
use Rattle.fzn_model.specs.declared.expressions.Seen.{Seen}
use Rattle.fzn_model.specs.declared.faults.ModelFault.{ModelFault}
use Rattle.fzn_model.specs.declared.faults.ModelFault.TheVariants as faults
use Rattle.fzn_model.specs.Items.{parts_of}
use Rattle.fzn_model.specs.Entities.{Naming}
use Rattle.fzn_model.specs.FaultsOf.{constant_elements, constrained_parts}
use Rattle.fzn_model.specs.FirstFault.{AreNone, IsFirstOf, first_told}
use Rattle.fzn_model.specs.PartFaults.{IsFound, IsSeen, IsSingle, OfArray, OfAsked, OfExpression, OfItem, OfPart, OfPast, OfSome, Told, elements_at, found_then, held, item_shape, nothing_found, own_asked, with_shapes}
use Rattle.fzn_model.proofs.Firsts.{either_first}
use Rattle.fzn_model.proofs.PartFirsts.{first_single, push_cases, same_faults, some_last, some_left, some_none}

-- ---- numbers that are held

least_of : (m a t : ℕ) → min (min a m + t) m ≡ min (a + t) m
least_of m a t = omega arith

held_more : (a t : ℕ) → held (held a + t) ≡ held (a + t)
held_more a t = least_of (2 ^ 128 - 1) a t

over_least : (m a t : ℕ) → 16777216 < m → 16777216 < min a m + t → 16777216 < a + t
over_least m a t l h = omega arith

over_all : (m a t : ℕ) → 16777216 < m → 16777216 < a + t → 16777216 < min a m + t
over_all m a t l h = omega arith

is_wide : 16777216 < 2 ^ 128 - 1
is_wide = omega arith

-- ---- where a list is split

split_cases : {A : Type 0} (xs ys front : List A) (p : A) (back : List A) → xs ++ ys ≡ front ++ p ∷ back
    → ((mid : List A) × (xs ≡ front ++ p ∷ mid)) ⊎ ((mid : List A) × (front ≡ xs ++ mid) × (ys ≡ mid ++ p ∷ back))
split_cases [] ys front p back e = inr (front, refl, e)
split_cases (x ∷ xs) ys [] p back e = inl (xs, cc)
split_cases (x ∷ xs) ys (f ∷ front) p back e =
    let tails : xs ++ ys ≡ front ++ p ∷ back = cc in
    elim (split_cases xs ys front p back tails) [
      | inl w ↦ let s = w.1 in inl (w.0, cc)
      | inr w ↦ let s = w.1 in inr (w.0, cc, w.2)
    ]

no_split : {A : Type 0} (front : List A) (p : A) (back : List A) → [] ≡ front ++ p ∷ back → ⊥
no_split front p back e = let n = ap length e in let k = length-append front (p ∷ back) in omega arith

-- ---- where the limit is passed

past_none : (naming : Naming) (start : ℕ) → AreNone (OfPast naming start [])
past_none naming start f h = no_split h.2.front h.2.part h.2.back h.2.occurs

past_held_to : (naming : Naming) (start : ℕ) (parts : List Basic) (f : ModelFault) → OfPast naming (held start) parts f → OfPast naming start parts f
past_held_to naming start parts f h = (
  h.0,
  h.1,
  record {
    front = h.2.front;
    part = h.2.part;
    back = h.2.back;
    occurs = h.2.occurs;
    place = h.2.place;
    many = over_least (2 ^ 128 - 1) start (sum_by (constant_elements naming) (h.2.front ++ h.2.part ∷ [])) is_wide h.2.many;
  },
)

past_held_from : (naming : Naming) (start : ℕ) (parts : List Basic) (f : ModelFault) → OfPast naming start parts f → OfPast naming (held start) parts f
past_held_from naming start parts f h = (
  h.0,
  h.1,
  record {
    front = h.2.front;
    part = h.2.part;
    back = h.2.back;
    occurs = h.2.occurs;
    place = h.2.place;
    many = over_all (2 ^ 128 - 1) start (sum_by (constant_elements naming) (h.2.front ++ h.2.part ∷ [])) is_wide h.2.many;
  },
)

past_left : (naming : Naming) (start : ℕ) (xs ys : List Basic) (f : ModelFault) → OfPast naming start xs f → OfPast naming start (xs ++ ys) f
past_left naming start xs ys f h = (
  h.0,
  h.1,
  record {
    front = h.2.front;
    part = h.2.part;
    back = h.2.back ++ ys;
    place = h.2.place;
    many = h.2.many;
    occurs = ap (λ zs. zs ++ ys) h.2.occurs ∙ append_assoc h.2.front (h.2.part ∷ h.2.back) ys;
  },
)

moved : (naming : Naming) (start : ℕ) (xs mid : List Basic) (p : Basic)
    → start + sum_by (constant_elements naming) ((xs ++ mid) ++ p ∷ [])
    ≡ start + sum_by (constant_elements naming) xs + sum_by (constant_elements naming) (mid ++ p ∷ [])
moved naming start xs mid p =
    let c : Basic → ℕ = constant_elements naming in
    let e : sum_by c ((xs ++ mid) ++ p ∷ []) ≡ sum_by c xs + sum_by c (mid ++ p ∷ [])
    = ap (sum_by c) (append_assoc xs mid (p ∷ [])) ∙ sum_by-append c xs (mid ++ p ∷ []) in
    omega (arith, e)

past_right : (naming : Naming) (start : ℕ) (xs ys : List Basic) (f : ModelFault)
    → OfPast naming (start + sum_by (constant_elements naming) xs) ys f → OfPast naming start (xs ++ ys) f
past_right naming start xs ys f h = (
  h.0,
  h.1,
  record {
    front = xs ++ h.2.front;
    part = h.2.part;
    back = h.2.back;
    place = h.2.place;
    occurs = ap (λ zs. xs ++ zs) h.2.occurs ∙ sym (append_assoc xs h.2.front (h.2.part ∷ h.2.back));
    many = subst (λ n. 16777216 < n) (sym (moved naming start xs h.2.front h.2.part)) h.2.many;
  },
)

past_cases : (naming : Naming) (start : ℕ) (xs ys : List Basic) (f : ModelFault) → OfPast naming start (xs ++ ys) f
    → OfPast naming start xs f ⊎ OfPast naming (start + sum_by (constant_elements naming) xs) ys f
past_cases naming start xs ys f h =
    elim (split_cases xs ys h.2.front h.2.part h.2.back h.2.occurs) [
      | inl w ↦ inl (h.0, h.1, record { front = h.2.front; part = h.2.part; back = w.0; occurs = w.1; many = h.2.many; place = h.2.place })
      | inr w ↦ inr (
        h.0,
        h.1,
        record {
          front = w.0;
          part = h.2.part;
          back = h.2.back;
          occurs = w.2;
          place = h.2.place;
          many = subst (λ n. 16777216 < n) (moved naming start xs w.0 h.2.part)
              (subst (λ front. 16777216 < start + sum_by (constant_elements naming) (front ++ h.2.part ∷ [])) w.1 h.2.many);
        },
      )
    ]

-- ---- what is found

pub found_nothing : {A : Type 0} (Has : A → ModelFault → Type 0) (naming : Naming) (start : ℕ) → start < 2 ^ 128
    → IsFound (OfSome Has []) naming start [] (nothing_found start)
found_nothing Has naming start fits = record {
  fault = some_none Has;
  past = past_none naming start;
  elements = omega arith;
}

pub found_both : (P Q : ModelFault → Type 0) (naming : Naming) (start : ℕ) (xs ys : List Basic) (found next : Found)
    → IsFound P naming start xs found → IsFound Q naming found.elements ys next
    → IsFound (λ f. P f ⊎ Q f) naming start (xs ++ ys) (found_then found next)
found_both P Q naming start xs ys found next a b =
    let c : Basic → ℕ = constant_elements naming in
    let middle : ℕ = start + sum_by c xs in
    let past : IsFirstOf (OfPast naming (held middle) ys) next.past = subst (λ n. IsFirstOf (OfPast naming n ys) next.past) a.elements b.past in
    let elements : next.elements ≡ held (held middle + sum_by c ys) = b.elements ∙ ap (λ n. held (n + sum_by c ys)) a.elements in
    let all : start + sum_by c xs + sum_by c ys ≡ start + sum_by c (xs ++ ys) = let e = sum_by-append c xs ys in omega (arith, e) in
    record {
      fault = either_first P Q found.fault next.fault a.fault b.fault;
      past = same_faults (λ f. OfPast naming start xs f ⊎ OfPast naming (held middle) ys f) (OfPast naming start (xs ++ ys)) _
          (λ f h. elim h [ inl l ↦ past_left naming start xs ys f l | inr r ↦ past_right naming start xs ys f (past_held_to naming middle ys f r) ])
          (λ f h. elim (past_cases naming start xs ys f h) [ inl l ↦ inl l | inr r ↦ inr (past_held_from naming middle ys f r) ])
          (either_first (OfPast naming start xs) (OfPast naming (held middle) ys) found.past next.past a.past past);
      elements = elements ∙ (held_more middle (sum_by c ys) ∙ ap held all);
    }

-- the same with the faults in other words
pub found_same : (P Q : ModelFault → Type 0) (naming : Naming) (start : ℕ) (parts : List Basic) (found : Found)
    → ((f : ModelFault) → P f → Q f) → ((f : ModelFault) → Q f → P f) → IsFound P naming start parts found → IsFound Q naming start parts found
found_same P Q naming start parts found to from h = record {
  fault = same_faults P Q found.fault to from h.fault;
  past = h.past;
  elements = h.elements;
}

-- one more item
pub found_push : {A : Type 0} (Has : A → ModelFault → Type 0) (naming : Naming) (start : ℕ) (items : List A) (x : A) (xs ys : List Basic) (found next : Found)
    → IsFound (OfSome Has items) naming start xs found → IsFound (Has x) naming found.elements ys next
    → IsFound (OfSome Has (items ++ x ∷ [])) naming start (xs ++ ys) (found_then found next)
found_push Has naming start items x xs ys found next a b =
    found_same (λ f. OfSome Has items f ⊎ Has x f) (OfSome Has (items ++ x ∷ [])) naming start (xs ++ ys) (found_then found next)
    (λ f h. elim h [ inl l ↦ some_left Has items (x ∷ []) f l | inr r ↦ some_last Has items x f r ])
    (λ f h. push_cases Has items x f h)
    (found_both (OfSome Has items) (Has x) naming start xs ys found next a b)

-- ---- one part

one_split : {A : Type 0} (b : A) (front : List A) (p : A) (back : List A) → b ∷ [] ≡ front ++ p ∷ back → (front ≡ []) × (p ≡ b)
one_split b [] p back e = (refl, cc)
one_split b (f ∷ front) p back e = absurd (no_split front p back cc)

pub past_one : (naming : Naming) (start : ℕ) (b : Basic) (elements : ℕ) (r : Option ModelFault)
    → elements ≡ held (start + constant_elements naming b)
    → IsFirstOf (Told (faults.SetTooWide b.at) (16777216 < elements)) r → IsFirstOf (OfPast naming start (b ∷ [])) r
past_one naming start b elements r e first =
    same_faults (Told (faults.SetTooWide b.at) (16777216 < elements)) (OfPast naming start (b ∷ [])) r
    (λ f h.
    let many : 16777216 < held (start + constant_elements naming b) + 0 = let l = h.1 in omega (arith, e) in
    let all = over_least (2 ^ 128 - 1) (start + constant_elements naming b) 0 is_wide many in
    (b.at, h.0, record { front = []; part = b; back = []; occurs = refl; many = omega arith; place = refl }))
    (λ f h.
    let s = one_split b h.2.front h.2.part h.2.back h.2.occurs in
    let place : h.0 ≡ b.at = h.2.place ∙ ap (λ (x : Basic). x.at) s.1 in
    let many : 16777216 < start + sum_by (constant_elements naming) (b ∷ [])
    = subst (λ (x : Basic). 16777216 < start + sum_by (constant_elements naming) (x ∷ [])) s.1
    (subst (λ front. 16777216 < start + sum_by (constant_elements naming) (front ++ h.2.part ∷ [])) s.0 h.2.many) in
    let all : 16777216 < start + constant_elements naming b + 0 = omega arith in
    let over = over_all (2 ^ 128 - 1) (start + constant_elements naming b) 0 is_wide all in
    (h.1 ∙ ap faults.SetTooWide place, omega (arith, e)))
    first

pub found_one : (naming : Naming) (shape : Option Shape) (start : ℕ) (b : Basic) (seen : Seen) (r : Option ModelFault) (elements : ℕ)
    → IsSeen (OfPart naming shape b) (elements_at naming b.form) seen → elements ≡ held (start + seen.elements)
    → IsFirstOf (Told (faults.SetTooWide b.at) (16777216 < elements)) r
    → IsFound (OfPart naming shape b) naming start (b ∷ []) (record { fault = seen.fault; past = r; elements = elements })
found_one naming shape start b seen r elements h e first =
    let all : elements ≡ held (start + constant_elements naming b) = e ∙ ap (λ n. held (start + n)) h.elements in
    record {
      fault = h.fault;
      past = past_one naming start b elements r all first;
      elements = all ∙ ap (λ n. held (start + n)) (omega arith);
    }

-- ---- one more item of an array, one more argument

pub items_more : (Has : Basic → ModelFault → Type 0) (naming : Naming) (start : ℕ) (items : List Basic) (i : ℕ) (x : Basic) (found next : Found)
    → i < length items → IsFound (OfSome Has (take i items)) naming start (take i items) found
    → IsFound (Has (get_or items i x)) naming found.elements (get_or items i x ∷ []) next
    → IsFound (OfSome Has (take (i + 1) items)) naming start (take (i + 1) items) (found_then found next)
items_more Has naming start items i x found next within a b =
    subst (λ zs. IsFound (OfSome Has zs) naming start zs (found_then found next)) (sym (take_more items i x within))
    (found_push Has naming start (take i items) (get_or items i x) (take i items) (get_or items i x ∷ []) found next a b)

length_with_shapes : (shapes : List Shape) (args : List Expr) → length (with_shapes shapes args) ≡ length args
length_with_shapes shapes [] = refl
length_with_shapes [] (e ∷ es) = ap suc (length_with_shapes [] es)
length_with_shapes (s ∷ shapes) (e ∷ es) = ap suc (length_with_shapes shapes es)

get_with_shapes : (shapes : List Shape) (args : List Expr) (i : ℕ) (d : Option Shape × Expr) → i < length args
    → get_or (with_shapes shapes args) i d ≡ (slice_get shapes i, get_or args i d.1)
get_with_shapes shapes [] i d within = absurd (omega arith)
get_with_shapes [] (e ∷ es) zero d within = refl
get_with_shapes [] (e ∷ es) (suc i) d within = get_with_shapes [] es i d (omega arith)
get_with_shapes (s ∷ shapes) (e ∷ es) zero d within = refl
get_with_shapes (s ∷ shapes) (e ∷ es) (suc i) d within = get_with_shapes shapes es i d (omega arith)

take_with_shapes : (shapes : List Shape) (args : List Expr) (i : ℕ) (e : Expr) → i < length args
    → take (i + 1) (with_shapes shapes args) ≡ take i (with_shapes shapes args) ++ (slice_get shapes i, get_or args i e) ∷ []
take_with_shapes shapes args i e within =
    let d : Option Shape × Expr = (None, e) in
    let n = length_with_shapes shapes args in
    let l : i < length (with_shapes shapes args) = omega arith in
    take_more (with_shapes shapes args) i d l ∙ ap (λ a. take i (with_shapes shapes args) ++ a ∷ []) (get_with_shapes shapes args i d within)

parts_more : (args : List Expr) (i : ℕ) (e : Expr) → i < length args
    → flat_map parts_of (take (i + 1) args) ≡ flat_map parts_of (take i args) ++ parts_of (get_or args i e)
parts_more args i e within =
    ap (flat_map parts_of) (take_more args i e within)
    ∙ (flat_map-append parts_of (take i args) (get_or args i e ∷ []) ∙ ap (λ zs. flat_map parts_of (take i args) ++ zs) (append-nil (parts_of (get_or args i e))))

pub arguments_more : (naming : Naming) (start : ℕ) (shapes : List Shape) (args : List Expr) (i : ℕ) (e : Expr) (found next : Found)
    → i < length args
    → IsFound (OfSome (OfAsked naming) (take i (with_shapes shapes args))) naming start (flat_map parts_of (take i args)) found
    → IsFound (OfExpression naming (slice_get shapes i) (get_or args i e)) naming found.elements (parts_of (get_or args i e)) next
    → IsFound (OfSome (OfAsked naming) (take (i + 1) (with_shapes shapes args))) naming start (flat_map parts_of (take (i + 1) args)) (found_then found next)
arguments_more naming start shapes args i e found next within a b =
    subst (λ zs. IsFound (OfSome (OfAsked naming) zs) naming start (flat_map parts_of (take (i + 1) args)) (found_then found next)) (sym (take_with_shapes shapes args i e within))
    (subst (λ ps. IsFound (OfSome (OfAsked naming) (take i (with_shapes shapes args) ++ (slice_get shapes i, get_or args i e) ∷ [])) naming start ps (found_then found next)) (sym (parts_more args i e within))
    (found_push (OfAsked naming) naming start (take i (with_shapes shapes args)) (slice_get shapes i, get_or args i e) (flat_map parts_of (take i args)) (parts_of (get_or args i e)) found next a b))

-- ---- an array

pub found_array : (naming : Naming) (shape : Option Shape) (start at : ℕ) (items : List Basic) (r : Option ModelFault) (found : Found)
    → IsFirstOf (Told (faults.WrongType at) (IsSingle shape)) r
    → IsFound (OfSome (OfPart naming (item_shape shape)) items) naming start items found
    → IsFound (OfArray naming shape at items) naming start items
    (record { fault = first_told r found.fault; past = found.past; elements = found.elements })
found_array naming shape start at items r found single h = record {
  fault = either_first (Told (faults.WrongType at) (IsSingle shape)) (OfSome (OfPart naming (item_shape shape)) items) r found.fault single h.fault;
  past = h.past;
  elements = h.elements;
}

pub arguments_all : (naming : Naming) (start : ℕ) (shapes : List Shape) (args : List Expr) (i : ℕ) (found : Found) → length args ≤ i
    → IsFound (OfSome (OfAsked naming) (take i (with_shapes shapes args))) naming start (flat_map parts_of (take i args)) found
    → IsFound (OfSome (OfAsked naming) (with_shapes shapes args)) naming start (flat_map parts_of args) found
arguments_all naming start shapes args i found all h =
    let n = length_with_shapes shapes args in
    let l : length (with_shapes shapes args) ≤ i = omega arith in
    subst (λ zs. IsFound (OfSome (OfAsked naming) zs) naming start (flat_map parts_of args) found) (take_all i (with_shapes shapes args) l)
    (subst (λ es. IsFound (OfSome (OfAsked naming) (take i (with_shapes shapes args))) naming start (flat_map parts_of es) found) (take_all i args all) h)

-- ---- the first fault of what is found

pub first_found : (P : ModelFault → Type 0) (naming : Naming) (start : ℕ) (parts : List Basic) (found : Found) → IsFound P naming start parts found
    → IsFirstOf (λ f. P f ⊎ OfPast naming start parts f) (first_told found.fault found.past)
first_found P naming start parts found h = either_first P (OfPast naming start parts) found.fault found.past h.fault h.past

pub first_given : (naming : Naming) (shape : Option Shape) (e : Expr) (start : ℕ) (found : Found)
    → IsFound (OfExpression naming shape e) naming start (parts_of e) found
    → IsFirstOf (λ f. OfSome (OfAsked naming) ((shape, e) ∷ []) f ⊎ OfPast naming start (flat_map parts_of (e ∷ [])) f) (first_told found.fault found.past)
first_given naming shape e start found h =
    first_found (OfSome (OfAsked naming) ((shape, e) ∷ [])) naming start (flat_map parts_of (e ∷ [])) found
    (subst (λ ps. IsFound (OfSome (OfAsked naming) ((shape, e) ∷ [])) naming start ps found) (sym (append-nil (parts_of e)))
    (record { fault = first_single (OfAsked naming) (shape, e) found.fault h.fault; past = h.past; elements = h.elements }))

-- ---- items with one expression and no constraint

pub plain_item : (naming : Naming) (start : ℕ) (form : Form) (r : Option ModelFault) → constrained_parts form ≡ []
    → IsFirstOf (OfSome (OfAsked naming) (own_asked form)) r → IsFirstOf (OfItem naming start form) r
plain_item naming start form r none first =
    same_faults (OfSome (OfAsked naming) (own_asked form)) (OfItem naming start form) r
    (λ f h. inl h)
    (λ f h. elim h [ inl x ↦ x | inr past ↦ absurd (past_none naming start f (subst (λ ps. OfPast naming start ps f) none past)) ])
    first

-- a variable that is given no value
pub none_given : (naming : Naming) (start : ℕ) → AreNone (λ f. OfSome (OfAsked naming) [] f ⊎ OfPast naming start [] f)
none_given naming start f h = elim h [ inl x ↦ some_none (OfAsked naming) f x | inr past ↦ past_none naming start f past ]
