-- What is given for each item with those before it: cut in two, and item by item.
use Rattle.std.proofs.Common.{◌≡◌, ℕ, ◌≤◌, List, [], ◌∷◌, ◌++◌, Option, Some, None, refl, sym, ap, subst, ◌∙◌, arith, append_assoc}
use Rattle.std.specs.Prelude.{All}
use Rattle.std.proofs.lemmas.Option.{none-some, same_Some}
use Rattle.std.proofs.lemmas.List.{append-nil}
use Rattle.std.proofs.lemmas.List.Elements.{All-append, All-cons, All-head, All-nil, All-tail}
use Rattle.fzn_model.specs.Lists.{append_some, each_after, sum_after}

pub record AreTwo {B : Type 0} (o p : Option (List B)) (zs : List B) : Type 0 where
  pub front : List B
  pub back : List B
  pub first : o ≡ Some front
  pub second : p ≡ Some back
  pub all : zs ≡ front ++ back

pub two : {B : Type 0} (o p : Option (List B)) (zs : List B) → append_some o p ≡ Some zs → AreTwo o p zs
two None p zs e = absurd (none-some zs e)
two (Some a) None zs e = absurd (none-some zs e)
two (Some a) (Some b) zs e = record { front = a; back = b; first = refl; second = refl; all = sym (same_Some (a ++ b) zs e) }

pub cut : {A B : Type 0} (f : List A → A → Option (List B)) (done xs ys : List A) (zs : List B) → each_after f done (xs ++ ys) ≡ Some zs
    → AreTwo (each_after f done xs) (each_after f (done ++ xs) ys) zs
cut f done [] ys zs e = record { front = []; back = zs; first = refl; second = ap (λ d. each_after f d ys) (append-nil done) ∙ e; all = refl }
cut f done (x ∷ xs) ys zs e =
    let h = two (f done x) (each_after f (done ++ x ∷ []) (xs ++ ys)) zs e in
    let r = cut f (done ++ x ∷ []) xs ys h.back h.second in
    record {
      front = h.front ++ r.front;
      back = r.back;
      first = λ i. append_some (h.first i) (r.first i);
      second = ap (λ d. each_after f d ys) (sym (append_assoc done (x ∷ []) xs)) ∙ r.second;
      all = h.all ∙ (ap (λ w. h.front ++ w) r.all ∙ sym (append_assoc h.front r.front r.back));
    }

pub each_all : {A B : Type 0} (f : List A → A → Option (List B)) (P : B → Type 0) (done items : List A) (zs : List B) → each_after f done items ≡ Some zs
    → ((front : List A) (x : A) (back : List A) (ys : List B) → items ≡ front ++ x ∷ back → f (done ++ front) x ≡ Some ys → All P ys) → All P zs
each_all f P done [] zs e h = subst (All P) (same_Some [] zs e) (All-nil P)
each_all f P done (x ∷ xs) zs e h =
    let t = two (f done x) (each_after f (done ++ x ∷ []) xs) zs e in
    let first = h [] x xs t.front refl (ap (λ d. f d x) (append-nil done) ∙ t.first) in
    let rest = each_all f P (done ++ x ∷ []) xs t.back t.second
    (λ front y back ys split is. h (x ∷ front) y back ys (ap (λ zs. x ∷ zs) split) (ap (λ d. f d y) (sym (append_assoc done (x ∷ []) front)) ∙ is)) in
    subst (All P) (sym t.all) (All-append P t.front t.back first rest)

go : {A : Type 0} (P : List A → Type 0) (items done rest : List A) → items ≡ done ++ rest → P done
    → ((front : List A) (x : A) (back : List A) → items ≡ front ++ x ∷ back → P front → P (front ++ x ∷ [])) → P items
go P items done [] e p step = subst P (sym (e ∙ append-nil done)) p
go P items done (x ∷ xs) e p step = go P items (done ++ x ∷ []) xs (e ∙ sym (append_assoc done (x ∷ []) xs)) (step done x xs e p) step

-- item by item from the first on
pub by_prefixes : {A : Type 0} (P : List A → Type 0) (items : List A) → P []
    → ((front : List A) (x : A) (back : List A) → items ≡ front ++ x ∷ back → P front → P (front ++ x ∷ [])) → P items
by_prefixes P items none step = go P items [] items refl none step

-- what one item gives is at most the sum
pub part_of_sum : {A : Type 0} (f : List A → A → ℕ) (done front : List A) (x : A) (back : List A) → f (done ++ front) x ≤ sum_after f done (front ++ x ∷ back)
part_of_sum f done [] x back = let e : f (done ++ []) x ≡ f done x = ap (λ d. f d x) (append-nil done) in omega (arith, e)
part_of_sum f done (y ∷ front) x back =
    let r : f ((done ++ y ∷ []) ++ front) x ≤ sum_after f (done ++ y ∷ []) (front ++ x ∷ back) = part_of_sum f (done ++ y ∷ []) front x back in
    let e : f ((done ++ y ∷ []) ++ front) x ≡ f (done ++ y ∷ front) x = ap (λ d. f d x) (append_assoc done (y ∷ []) front) in
    omega (arith, r, e)

pub all_front : {A : Type 0} (P : A → Type 0) (xs ys : List A) → All P (xs ++ ys) → All P xs
all_front P [] ys h = All-nil P
all_front P (x ∷ xs) ys h = All-cons P x xs (All-head P x (xs ++ ys) h) (all_front P xs ys (All-tail P x (xs ++ ys) h))

pub all_back : {A : Type 0} (P : A → Type 0) (xs ys : List A) → All P (xs ++ ys) → All P ys
all_back P [] ys h = h
all_back P (x ∷ xs) ys h = all_back P xs ys (All-tail P x (xs ++ ys) h)
