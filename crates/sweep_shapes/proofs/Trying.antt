-- Values of choices that are tried one after another.
use Rattle.std.proofs.Common.{◌≡◌, ◌↔◌, ℕ, suc, ◌+◌, ◌-◌, ◌<◌, ◌≤◌, Bool, true, false, List, [], ◌∷◌, ◌++◌, length, take, drop, get_or, set, Contains, Option, Some, None, IsTrue, refl, sym, ap, ◌∙◌, subst, inl, inr, arith}
use Rattle.std.specs.Prelude.{slice_get, IsSomeAnd}
use Rattle.std.proofs.lemmas.List.{take_more, take_all}
use Rattle.std.proofs.lemmas.List.Elements.{Contains-push_cases, Contains-get_or}
use Rattle.set_meaning.specs.declared.kinds.Value.{Value}
use Rattle.set_meaning.specs.declared.problems.Constraint.{Constraint}
use Rattle.set_meaning.specs.Relations.{Holds}
use Rattle.sweep_shapes.specs.declared.choices.Choice.{Choice}
use Rattle.sweep_shapes.specs.Trials.{Avoids, AreApart, AreBelow, IsChosen, SomeChosen, AreSameBut}
use Rattle.sweep_shapes.proofs.Lists.{at_put, beside_put, length_put, same_or_other}

-- ---- one choice more

-- the base may change where the choices are
pub other_base : (a b : List Value) (choices : List Choice) (values : List Value) → AreSameBut choices a b → IsChosen b choices values → IsChosen a choices values
other_base a b choices values same h = record { long = h.long ∙ same.long; chosen = h.chosen; others = λ k avoids. h.others k avoids ∙ same.others k avoids }

same_sym : (choices : List Choice) (a b : List Value) → AreSameBut choices a b → AreSameBut choices b a
same_sym choices a b same = record { long = sym same.long; others = λ k avoids. sym (same.others k avoids) }

-- what was lost of the values so far comes back when the first choice's value is put in place
pub put_same : (first : Choice) (others : List Choice) (base now : List Value) (x : Value) → first.variable.0 < length base → AreSameBut (first ∷ others) base now
    → AreSameBut others (set base first.variable.0 x) (set now first.variable.0 x)
put_same first others base now x within same = record {
  long = length_put now first.variable.0 x ∙ same.long ∙ sym (length_put base first.variable.0 x);
  others = λ k avoids. elim (same_or_other first.variable.0 k) [
    | inl e ↦ subst (λ j. slice_get (set now first.variable.0 x) j ≡ slice_get (set base first.variable.0 x) j) e
        (at_put now first.variable.0 x (subst (λ n. first.variable.0 < n) (sym same.long) within) ∙ sym (at_put base first.variable.0 x within))
    | inr other ↦ beside_put now first.variable.0 k x other ∙ same.others k (other, avoids) ∙ sym (beside_put base first.variable.0 k x other)
  ];
}

-- a value of the first choice and values of the others are values of all
pub with_first : (first : Choice) (others : List Choice) (base values : List Value) (x : Value) → first.variable.0 < length base → Avoids others first.variable.0 → Contains first.values x
    → IsChosen (set base first.variable.0 x) others values → IsChosen base (first ∷ others) values
with_first first others base values x within apart there h =
    let here : slice_get values first.variable.0 ≡ Some x = h.others first.variable.0 apart ∙ at_put base first.variable.0 x within in
    record {
      long = h.long ∙ length_put base first.variable.0 x;
      chosen = (subst (λ o. IsSomeAnd o (Contains first.values)) (sym here) there, h.chosen);
      others = λ k avoids. h.others k avoids.1 ∙ beside_put base first.variable.0 k x avoids.0;
    }

-- values of all choices are a value of the first and values of the others
pub without_first : (first : Choice) (others : List Choice) (base values : List Value) (x : Value) → first.variable.0 < length base → slice_get values first.variable.0 ≡ Some x
    → IsChosen base (first ∷ others) values → IsChosen (set base first.variable.0 x) others values
without_first first others base values x within here h = record {
  long = h.long ∙ sym (length_put base first.variable.0 x);
  chosen = h.chosen.1;
  others = λ k avoids. elim (same_or_other first.variable.0 k) [
    | inl e ↦ subst (λ j. slice_get values j ≡ slice_get (set base first.variable.0 x) j) e (here ∙ sym (at_put base first.variable.0 x within))
    | inr other ↦ h.others k (other, avoids) ∙ sym (beside_put base first.variable.0 k x other)
  ];
}

-- ---- the loop over the values of the first choice

-- the values tried so far were tried in vain, and what was lost is of the choices
pub record TriedInVain (base now : List Value) (first : Choice) (others : List Choice) (done : List Value) (c : Constraint) : Type 0 where
  pub same : AreSameBut (first ∷ others) base now
  pub vain : (x : Value) → Contains done x → SomeChosen (set base first.variable.0 x) others c → ⊥

pub vain_at_first : (base : List Value) (first : Choice) (others : List Choice) (c : Constraint) → TriedInVain base base first others [] c
vain_at_first base first others c = record { same = record { long = refl; others = λ k avoids. refl }; vain = λ x h _. let none : h.0 < 0 = h.1 in absurd (omega arith) }

-- what a try answers is said of the values at the start
pub try_here : (base now tried : List Value) (first : Choice) (others : List Choice) (x : Value) (c : Constraint) (P : Type 0) → first.variable.0 < length base → AreSameBut (first ∷ others) base now
    → tried ≡ set now first.variable.0 x → P ↔ SomeChosen tried others c → P ↔ SomeChosen (set base first.variable.0 x) others c
try_here base now tried first others x c P within same put answer =
    let both = put_same first others base now x within same in
    let moved = subst (λ values. P ↔ SomeChosen values others c) put answer in (
      λ p. let h = moved.0 p in record { values = h.values; is_chosen = other_base (set base first.variable.0 x) (set now first.variable.0 x) others h.values both h.is_chosen; holds = h.holds },
      λ h. moved.1 (record {
        values = h.values;
        is_chosen = other_base (set now first.variable.0 x) (set base first.variable.0 x) others h.values
            (same_sym others (set base first.variable.0 x) (set now first.variable.0 x) both) h.is_chosen;
        holds = h.holds;
      }),
    )

-- after a try what was lost is of the choices
pub same_after : (base now tried new : List Value) (first : Choice) (others : List Choice) (x : Value) → AreSameBut (first ∷ others) base now → tried ≡ set now first.variable.0 x → AreSameBut others tried new
    → AreSameBut (first ∷ others) base new
same_after base now tried new first others x same put after =
    let moved = subst (λ values. AreSameBut others values new) put after in
    record {
      long = moved.long ∙ length_put now first.variable.0 x ∙ same.long;
      others = λ k avoids. moved.others k avoids.1 ∙ beside_put now first.variable.0 k x avoids.0 ∙ same.others k avoids;
    }

pub vain_turn : (base now tried new : List Value) (first : Choice) (others : List Choice) (items : List Value) (i : ℕ) (x copy : Value) (c : Constraint) (found : Bool) → first.variable.0 < length base → i < length items
    → x ≡ get_or items i x → copy ≡ x → tried ≡ set now first.variable.0 copy → IsTrue found ↔ SomeChosen tried others c → found ≡ false → AreSameBut others tried new
    → TriedInVain base now first others (take i items) c → TriedInVain base new first others (take (i + 1) items) c
vain_turn base now tried new first others items i x copy c found within here is copied put answer nothing after before =
    let e : take (i + 1) items ≡ take i items ++ x ∷ [] = take_more items i x here ∙ ap (λ y. take i items ++ y ∷ []) (sym is) in
    let put_x : tried ≡ set now first.variable.0 x = put ∙ ap (set now first.variable.0) copied in
    let right = try_here base now tried first others x c (IsTrue found) within before.same put_x answer in
    subst (λ done. TriedInVain base new first others done c) (sym e) (record {
      same = same_after base now tried new first others x before.same put_x after;
      vain = λ y h some. elim (Contains-push_cases (take i items) x y h) [
        | inl earlier ↦ before.vain y earlier some
        | inr e ↦ let yes = right.1 (subst (λ z. SomeChosen (set base first.variable.0 z) others c) (sym e) some) in let clash : false ≡ true = sym nothing ∙ yes in absurd (cc)
      ];
    })

-- a value with which others satisfy the constraint
pub found_here : (base now tried : List Value) (first : Choice) (others : List Choice) (items : List Value) (i : ℕ) (x copy : Value) (c : Constraint) → first.variable.0 < length base → Avoids others first.variable.0
    → items ≡ first.values → i < length items → x ≡ get_or items i x → copy ≡ x → tried ≡ set now first.variable.0 copy → AreSameBut (first ∷ others) base now → SomeChosen tried others c
    → SomeChosen base (first ∷ others) c
found_here base now tried first others items i x copy c within apart listed here is copied put same some =
    let put_x : tried ≡ set now first.variable.0 x = put ∙ ap (set now first.variable.0) copied in
    let h = (try_here base now tried first others x c (SomeChosen tried others c) within same put_x (λ p. p, λ p. p)).0 some in
    let there : Contains first.values x = subst (λ ys. Contains ys x) listed (subst (Contains items) (sym is) (Contains-get_or items i x here)) in
    record { values = h.values; is_chosen = with_first first others base h.values x within apart there h.is_chosen; holds = h.holds }

-- all were tried in vain
pub none_found : (base now : List Value) (first : Choice) (others : List Choice) (items : List Value) (i : ℕ) (c : Constraint) → first.variable.0 < length base → items ≡ first.values → length items ≤ i
    → TriedInVain base now first others (take i items) c → SomeChosen base (first ∷ others) c → ⊥
none_found base now first others items i c within listed all tried some = by (slice_get some.values first.variable.0) refl some.is_chosen.chosen.0
  where
    by : (o : Option Value) → slice_get some.values first.variable.0 ≡ o → IsSomeAnd o (Contains first.values) → ⊥
    by None e h = absurd h
    by (Some x) e h =
        let whole = subst (λ done. TriedInVain base now first others done c) listed (subst (λ done. TriedInVain base now first others done c) (take_all i items all) tried) in
        whole.vain x h (record { values = some.values; is_chosen = without_first first others base some.values x within e some.is_chosen; holds = some.holds })

-- ---- no choice

pub nothing_chosen : (base : List Value) (c : Constraint) → Holds c base ↔ SomeChosen base [] c
nothing_chosen base c = (
  λ h. record { values = base; is_chosen = record { long = refl; chosen = tt; others = λ k avoids. refl }; holds = h },
  λ h. subst (Holds c) (same_items h.values base h.is_chosen.long (λ k. h.is_chosen.others k tt)) h.holds,
)
  where
    same_items : (xs ys : List Value) → length xs ≡ length ys → ((k : ℕ) → slice_get xs k ≡ slice_get ys k) → xs ≡ ys
    same_items [] [] long each = refl
    same_items [] (y ∷ ys) long each = absurd (omega (arith, long))
    same_items (x ∷ xs) [] long each = absurd (omega (arith, long))
    same_items (x ∷ xs) (y ∷ ys) long each =
        let first : x ≡ y = let e = each 0 in cc in
        let rest = same_items xs ys (omega (arith, long)) (λ k. each (suc k)) in
        λ i. first i ∷ rest i

pub same_itself : (choices : List Choice) (values : List Value) → AreSameBut choices values values
same_itself choices values = record { long = refl; others = λ k avoids. refl }

-- no choices
pub empty_tried : (base : List Value) (choices : List Choice) (c : Constraint) (P : Type 0) → length choices ≡ 0 → P ↔ Holds c base → P ↔ SomeChosen base choices c
empty_tried base [] c P none h = let n = nothing_chosen base c in (λ p. n.0 (h.0 p), λ s. h.1 (n.1 s))
empty_tried base (d ∷ choices) c P none h = absurd (omega (arith, none))

-- the choices as their first and the others
pub cut : (choices : List Choice) (first : Choice) → 1 ≤ length choices → first ≡ get_or choices 0 first → choices ≡ first ∷ take (length choices - 1) (drop 1 choices)
cut [] first some is = absurd (omega (arith, some))
cut (d ∷ choices) first some is =
    let e : suc (length choices) - 1 ≡ length choices = omega arith in
    let rest : take (suc (length choices) - 1) choices ≡ choices = ap (λ k. take k choices) e ∙ take_all (length choices) choices (omega arith) in
    λ i. sym is i ∷ sym rest i

-- what is known of the first choice and the others
pub record IsCut (base : List Value) (choices : List Choice) (first : Choice) (others : List Choice) : Type 0 where
  pub whole : choices ≡ first ∷ others
  pub within : first.variable.0 < length base
  pub avoids : Avoids others first.variable.0

pub cut_known : (base : List Value) (choices : List Choice) (first : Choice) → 1 ≤ length choices → first ≡ get_or choices 0 first → AreBelow (length base) choices → AreApart choices
    → IsCut base choices first (take (length choices - 1) (drop 1 choices))
cut_known base choices first some is below apart =
    let e = cut choices first some is in
    record { whole = e; within = (subst (AreBelow (length base)) e below).0; avoids = (subst AreApart e apart).0 }

-- what is tried in vain for the first and the others is so for all
pub none_of_all : (base now : List Value) (choices : List Choice) (first : Choice) (others : List Choice) (items : List Value) (i : ℕ) (c : Constraint) → IsCut base choices first others → items ≡ first.values
    → length items ≤ i → TriedInVain base now first others (take i items) c → IsTrue false ↔ SomeChosen base choices c
none_of_all base now choices first others items i c is listed all tried = (
  λ yes. let clash : false ≡ true = yes in absurd (cc),
  λ some. absurd (none_found base now first others items i c is.within listed all tried (subst (λ cs. SomeChosen base cs c) is.whole some)),
)

pub found_of_all : (base now tried : List Value) (choices : List Choice) (first : Choice) (others : List Choice) (items : List Value) (i : ℕ) (x copy : Value) (c : Constraint) → IsCut base choices first others
    → items ≡ first.values → i < length items → x ≡ get_or items i x → copy ≡ x → tried ≡ set now first.variable.0 copy → AreSameBut (first ∷ others) base now → SomeChosen tried others c
    → IsTrue true ↔ SomeChosen base choices c
found_of_all base now tried choices first others items i x copy c is listed here at copied put same some =
    (λ yes. subst (λ cs. SomeChosen base cs c) (sym is.whole) (found_here base now tried first others items i x copy c is.within is.avoids listed here at copied put same some), λ s. refl)
