-- The variables of a scope, each settled or open, and what values of the choices are.
use Rattle.std.proofs.Common.{◌≡◌, ◌↔◌, ℕ, zero, suc, ◌+◌, ◌<◌, ◌≤◌, List, [], ◌∷◌, ◌++◌, length, take, get_or, set, Contains, Option, Some, None, refl, sym, ap, ◌∙◌, subst, inl, inr, arith}
use Rattle.std.specs.Prelude.{◌⊎◌, slice_get, IsSomeAnd}
use Rattle.std.proofs.lemmas.List.{take_more, take_all}
use Rattle.std.proofs.lemmas.List.Elements.{Contains-push, Contains-push_cases, Contains-append_left}
use Rattle.std.specs.declared.cmp.Ordering.TheVariants.{Less, Equal}
use Rattle.std.specs.Ordering.{nat_cmp}
use Rattle.std.specs.Cmp.{nat_cmp_total, tied_itself}
use Rattle.std.specs.List.Sorted.{IsStrictlySortedBy}
use Rattle.std.proofs.lemmas.List.Elements.{Contains-get_or, All-contains, All-from_recursion}
use Rattle.std.proofs.lemmas.Map.Keys.{sorted_head, sorted_tail}
use Rattle.set_meaning.specs.declared.kinds.Value.{Value}
use Rattle.set_meaning.specs.declared.problems.VarId.{VarId}
use Rattle.bit_layout.proofs.Rising.{nothing_in_empty, in_cons, in_head, in_tail}
use Rattle.sweep_shapes.specs.declared.choices.Choice.{Choice}
use Rattle.sweep_shapes.specs.Trials.{Avoids, AreApart, AreBelow, AreChosen, IsChosen, Opens}
use Rattle.sweep_shapes.proofs.Lists.{at_put, beside_put, length_put, same_or_other}

-- ---- lists of choices

avoids_push : (choices : List Choice) (c : Choice) (k : ℕ) → Avoids choices k → (c.variable.0 ≡ k → ⊥) → Avoids (choices ++ c ∷ []) k
avoids_push [] c k h other = (other, tt)
avoids_push (d ∷ choices) c k h other = (h.0, avoids_push choices c k h.1 other)

apart_push : (choices : List Choice) (c : Choice) → AreApart choices → Avoids choices c.variable.0 → AreApart (choices ++ c ∷ [])
apart_push [] c h avoids = (tt, tt)
apart_push (d ∷ choices) c h avoids = (avoids_push choices c d.variable.0 h.0 (λ e. avoids.0 (sym e)), apart_push choices c h.1 avoids.1)

below_push : (n : ℕ) (choices : List Choice) (c : Choice) → AreBelow n choices → c.variable.0 < n → AreBelow n (choices ++ c ∷ [])
below_push n [] c h within = (within, tt)
below_push n (d ∷ choices) c h within = (h.0, below_push n choices c h.1 within)

not_avoided : (choices : List Choice) (c : Choice) → Contains choices c → Avoids choices c.variable.0 → ⊥
not_avoided [] c h avoids = nothing_in_empty c h
not_avoided (d ∷ choices) c h avoids = elim (in_cons d choices c h) [
  | inl e ↦ avoids.0 (ap (λ (x : Choice). x.variable.0) e)
  | inr later ↦ not_avoided choices c later avoids.1
]

chosen_each : (choices : List Choice) (values : List Value) → ((c : Choice) → Contains choices c → IsSomeAnd (slice_get values c.variable.0) (Contains c.values)) → AreChosen choices values
chosen_each [] values h = tt
chosen_each (c ∷ choices) values h = (h c (in_head c choices), chosen_each choices values (λ d there. h d (in_tail c choices d there)))

chosen_at : (choices : List Choice) (values : List Value) (c : Choice) → Contains choices c → AreChosen choices values → IsSomeAnd (slice_get values c.variable.0) (Contains c.values)
chosen_at [] values c h all = absurd (nothing_in_empty c h)
chosen_at (d ∷ choices) values c h all = elim (in_cons d choices c h) [
  | inl e ↦ let P : Choice → Type 0 = λ x. IsSomeAnd (slice_get values x.variable.0) (Contains x.values) in subst P e all.0
  | inr later ↦ chosen_at choices values c later all.1
]

some_as : {X : Type 0} (o : Option X) (P Q : X → Type 0) → ((x : X) → P x → Q x) → IsSomeAnd o P → IsSomeAnd o Q
some_as None P Q f h = absurd h
some_as (Some x) P Q f h = f x h

-- ---- variables that are done

-- the variable is none of the listed
abbrev pub Beside : List VarId → ℕ → Type 0
Beside done k = (u : VarId) → Contains done u → u.0 ≡ k → ⊥

-- values of the listed variables that are allowed, and elsewhere the first ones
pub record IsWithin (allowed : ℕ → Value → Type 0) (first : List Value) (done : List VarId) (values : List Value) : Type 0 where
  pub long : length values ≡ length first
  pub inside : (u : VarId) → Contains done u → IsSomeAnd (slice_get values u.0) (allowed u.0)
  pub others : (k : ℕ) → Beside done k → slice_get values k ≡ slice_get first k

-- the variable has its one allowed value in place
pub record IsSettled (allowed : ℕ → Value → Type 0) (base : List Value) (choices : List Choice) (u : VarId) : Type 0 where
  pub avoided : Avoids choices u.0
  pub to : (o : Option Value) → o ≡ slice_get base u.0 → IsSomeAnd o (allowed u.0)
  pub from : (o : Option Value) → IsSomeAnd o (allowed u.0) → o ≡ slice_get base u.0

-- the choice is of the variable's allowed values
pub record IsChoiceOf (allowed : ℕ → Value → Type 0) (c : Choice) (u : VarId) : Type 0 where
  pub variable : c.variable.0 ≡ u.0
  pub values : (x : Value) → Contains c.values x ↔ allowed u.0 x

pub record IsOpen (allowed : ℕ → Value → Type 0) (choices : List Choice) (u : VarId) : Type 0 where
  pub choice : Choice
  pub among : Contains choices choice
  pub of : IsChoiceOf allowed choice u

pub record HasVariable (allowed : ℕ → Value → Type 0) (done : List VarId) (c : Choice) : Type 0 where
  pub variable : VarId
  pub among : Contains done variable
  pub of : IsChoiceOf allowed c variable

-- each variable that is done is settled or open
pub record Opened (allowed : ℕ → Value → Type 0) (first base : List Value) (choices : List Choice) (done : List VarId) : Type 0 where
  pub long : length base ≡ length first
  pub below : AreBelow (length first) choices
  pub apart : AreApart choices
  pub avoids : (k : ℕ) → Beside done k → Avoids choices k
  pub base_is : (k : ℕ) → Beside done k → slice_get base k ≡ slice_get first k
  pub each : (u : VarId) → Contains done u → IsSettled allowed base choices u ⊎ IsOpen allowed choices u
  pub only : (c : Choice) → Contains choices c → HasVariable allowed done c

pub opened_none : (allowed : ℕ → Value → Type 0) (first : List Value) → Opened allowed first first [] []
opened_none allowed first = record {
  long = refl;
  below = tt;
  apart = tt;
  avoids = λ k h. tt;
  base_is = λ k h. refl;
  each = λ u h. absurd (nothing_in_empty u h);
  only = λ c h. absurd (nothing_in_empty c h);
}

beside_before : (done : List VarId) (v : VarId) (k : ℕ) → Beside (done ++ v ∷ []) k → Beside done k
beside_before done v k h u there e = h u (Contains-append_left done (v ∷ []) u there) e

beside_last : (done : List VarId) (v : VarId) (k : ℕ) → Beside (done ++ v ∷ []) k → v.0 ≡ k → ⊥
beside_last done v k h e = h v (Contains-push done v) e

has_before : (allowed : ℕ → Value → Type 0) (done : List VarId) (v : VarId) (c : Choice) → HasVariable allowed done c → HasVariable allowed (done ++ v ∷ []) c
has_before allowed done v c h = record { variable = h.variable; among = Contains-append_left done (v ∷ []) h.variable h.among; of = h.of }

-- one value was put in place
settled_more : (allowed : ℕ → Value → Type 0) (first base : List Value) (choices : List Choice) (done : List VarId) (v : VarId) (x : Value) → v.0 < length first → Beside done v.0
    → ((y : Value) → Contains (x ∷ []) y ↔ allowed v.0 y) → Opened allowed first base choices done → Opened allowed first (set base v.0 x) choices (done ++ v ∷ [])
settled_more allowed first base choices done v x within new own h = record {
  long = length_put base v.0 x ∙ h.long;
  below = h.below;
  apart = h.apart;
  avoids = λ k beside. h.avoids k (beside_before done v k beside);
  base_is = λ k beside. beside_put base v.0 k x (beside_last done v k beside) ∙ h.base_is k (beside_before done v k beside);
  each = λ u there. elim (Contains-push_cases done v u there) [
    | inl before ↦ elim (h.each u before) [
      | inl settled ↦ inl (record {
        avoided = settled.avoided;
        to = λ o e. settled.to o (e ∙ beside_put base v.0 u.0 x (λ same. new u before (sym same)));
        from = λ o some. settled.from o some ∙ sym (beside_put base v.0 u.0 x (λ same. new u before (sym same)));
      })
      | inr chosen ↦ inr chosen
    ]
    | inr e ↦ let P : VarId → Type 0 = λ w. IsSettled allowed (set base v.0 x) choices w ⊎ IsOpen allowed choices w in subst P e (inl here)
  ];
  only = λ c there. has_before allowed done v c (h.only c there);
} where
  here_is : slice_get (set base v.0 x) v.0 ≡ Some x
  here_is = at_put base v.0 x (subst (λ n. v.0 < n) (sym h.long) within)

  from_some : (o : Option Value) → IsSomeAnd o (allowed v.0) → o ≡ Some x
  from_some None some = absurd some
  from_some (Some y) some = elim (in_cons x [] y ((own y).1 some)) [ inl e ↦ ap Some (sym e) | inr none ↦ absurd (nothing_in_empty y none) ]

  here : IsSettled allowed (set base v.0 x) choices v
  here = record {
    avoided = h.avoids v.0 new;
    to = λ o e. subst (λ p. IsSomeAnd p (allowed v.0)) (sym (e ∙ here_is)) ((own x).0 (in_head x []));
    from = λ o some. from_some o some ∙ sym here_is;
  }

-- the values became a choice
opened_more : (allowed : ℕ → Value → Type 0) (first base : List Value) (choices : List Choice) (done : List VarId) (v : VarId) (own : List Value) → v.0 < length first → Beside done v.0
    → ((y : Value) → Contains own y ↔ allowed v.0 y) → Opened allowed first base choices done
    → Opened allowed first base (choices ++ record { variable = v; values = own } ∷ []) (done ++ v ∷ [])
opened_more allowed first base choices done v own within new own_is h = record {
  long = h.long;
  below = below_push (length first) choices c h.below within;
  apart = apart_push choices c h.apart (h.avoids v.0 new);
  avoids = λ k beside. avoids_push choices c k (h.avoids k (beside_before done v k beside)) (beside_last done v k beside);
  base_is = λ k beside. h.base_is k (beside_before done v k beside);
  each = λ u there. elim (Contains-push_cases done v u there) [
    | inl before ↦ elim (h.each u before) [
      | inl settled ↦ inl (record { avoided = avoids_push choices c u.0 settled.avoided (λ same. new u before (sym same)); to = settled.to; from = settled.from })
      | inr chosen ↦ inr (record { choice = chosen.choice; among = Contains-append_left choices (c ∷ []) chosen.choice chosen.among; of = chosen.of })
    ]
    | inr e ↦ let P : VarId → Type 0 = λ w. IsSettled allowed base (choices ++ c ∷ []) w ⊎ IsOpen allowed (choices ++ c ∷ []) w in
        subst P e (inr (record { choice = c; among = Contains-push choices c; of = record { variable = refl; values = own_is } }))
  ];
  only = λ d there. elim (Contains-push_cases choices c d there) [
    | inl before ↦ has_before allowed done v d (h.only d before)
    | inr e ↦ let P : Choice → Type 0 = λ x. HasVariable allowed (done ++ v ∷ []) x in
        subst P e (record { variable = v; among = Contains-push done v; of = record { variable = refl; values = own_is } })
  ];
} where
  c : Choice
  c = record { variable = v; values = own }

pub opened_turn : (allowed : ℕ → Value → Type 0) (first : List Value) (scope : List VarId) (i : ℕ) (v : VarId) (own base base' : List Value) (choices choices' : List Choice) → i < length scope
    → v ≡ get_or scope i v → v.0 < length first → Beside (take i scope) v.0 → ((y : Value) → Contains own y ↔ allowed v.0 y) → Opens base choices v own base' choices'
    → Opened allowed first base choices (take i scope) → Opened allowed first base' choices' (take (i + 1) scope)
opened_turn allowed first scope i v own base base' choices choices' within is known new own_is opens h =
    let e : take (i + 1) scope ≡ take i scope ++ v ∷ [] = take_more scope i v within ∙ ap (λ u. take i scope ++ u ∷ []) (sym is) in
    subst (λ done. Opened allowed first base' choices' done) (sym e) (by opens)
  where
    by : Opens base choices v own base' choices' → Opened allowed first base' choices' (take i scope ++ v ∷ [])
    by (inl o) =
        let more = settled_more allowed first base choices (take i scope) v o.0 known new (subst (λ xs. (y : Value) → Contains xs y ↔ allowed v.0 y) o.1 own_is) h in
        subst (λ cs. Opened allowed first base' cs (take i scope ++ v ∷ [])) (sym o.3) (subst (λ b. Opened allowed first b choices (take i scope ++ v ∷ [])) (sym o.2) more)
    by (inr o) =
        let more = opened_more allowed first base choices (take i scope) v own known new own_is h in
        subst (λ cs. Opened allowed first base' cs (take i scope ++ v ∷ [])) (sym o.1)
        (subst (λ b. Opened allowed first b (choices ++ record { variable = v; values = own } ∷ []) (take i scope ++ v ∷ [])) (sym o.0) more)

-- ---- at the end

-- a number is that of a listed variable, or of none
pub found_or_beside : (done : List VarId) (k : ℕ) → ((u : VarId) × Contains done u × (u.0 ≡ k)) ⊎ Beside done k
found_or_beside [] k = inr (λ u h e. nothing_in_empty u h)
found_or_beside (v ∷ done) k = elim (same_or_other v.0 k) [
  | inl e ↦ inl (v, in_head v done, e)
  | inr other ↦ elim (found_or_beside done k) [
    | inl h ↦ inl (h.0, in_tail v done h.0 h.1, h.2)
    | inr beside ↦ inr (λ u h e. elim (in_cons v done u h) [ inl same ↦ other (ap (λ (w : VarId). w.0) same ∙ e) | inr later ↦ beside u later e ])
  ]
]

pub chosen_is_within : (allowed : ℕ → Value → Type 0) (first base : List Value) (choices : List Choice) (done : List VarId) (values : List Value) → Opened allowed first base choices done
    → IsChosen base choices values → IsWithin allowed first done values
chosen_is_within allowed first base choices done values h is = record {
  long = is.long ∙ h.long;
  inside = λ u there. elim (h.each u there) [
    | inl settled ↦ settled.to (slice_get values u.0) (is.others u.0 settled.avoided)
    | inr chosen ↦
        let here = chosen_at choices values chosen.choice chosen.among is.chosen in
        subst (λ k. IsSomeAnd (slice_get values k) (allowed u.0)) chosen.of.variable
        (some_as (slice_get values chosen.choice.variable.0) (Contains chosen.choice.values) (allowed u.0) (λ x. (chosen.of.values x).0) here)
  ];
  others = λ k beside. is.others k (h.avoids k beside) ∙ h.base_is k beside;
}

pub within_is_chosen : (allowed : ℕ → Value → Type 0) (first base : List Value) (choices : List Choice) (done : List VarId) (values : List Value) → Opened allowed first base choices done
    → IsWithin allowed first done values → IsChosen base choices values
within_is_chosen allowed first base choices done values h is = record {
  long = is.long ∙ sym h.long;
  chosen = chosen_each choices values (λ c there.
      let o = h.only c there in
      subst (λ k. IsSomeAnd (slice_get values k) (Contains c.values)) (sym o.of.variable)
      (some_as (slice_get values o.variable.0) (allowed o.variable.0) (Contains c.values) (λ x. (o.of.values x).1) (is.inside o.variable o.among)));
  others = λ k avoids. elim (found_or_beside done k) [
    | inl f ↦ subst (λ j. slice_get values j ≡ slice_get base j) f.2 (elim (h.each f.0 f.1) [
      | inl settled ↦ settled.from (slice_get values f.0.0) (is.inside f.0 f.1)
      | inr chosen ↦ absurd (not_avoided choices chosen.choice chosen.among (subst (Avoids choices) (sym (chosen.of.variable ∙ f.2)) avoids))
    ])
    | inr beside ↦ is.others k beside ∙ sym (h.base_is k beside)
  ];
}

pub opened_all : (allowed : ℕ → Value → Type 0) (first base : List Value) (choices : List Choice) (scope : List VarId) (i : ℕ) → length scope ≤ i → Opened allowed first base choices (take i scope)
    → Opened allowed first base choices scope
opened_all allowed first base choices scope i all h = subst (λ done. Opened allowed first base choices done) (take_all i scope all) h

pub not_less : (m n : ℕ) → m ≡ n → nat_cmp m n ≡ Less → ⊥
not_less m n e less = let clash : Equal ≡ Less = sym (tied_itself nat_cmp_total n) ∙ sym (ap (λ k. nat_cmp k n) e) ∙ less in cc

-- each variable of an ascending scope is none of those before it
pub scope_apart : (scope : List VarId) (i : ℕ) (v : VarId) → IsStrictlySortedBy (λ u w. nat_cmp u.0 w.0) scope → i < length scope → v ≡ get_or scope i v → Beside (take i scope) v.0
scope_apart [] i v up within is u h e = absurd (omega (arith, within))
scope_apart (w ∷ ws) zero v up within is u h e = nothing_in_empty u h
scope_apart (w ∷ ws) (suc i) v up within is u h e = elim (in_cons w (take i ws) u h) [
  | inl same ↦
      let later : Contains ws v = subst (Contains ws) (sym is) (Contains-get_or ws i v (omega (arith, within))) in
      let less = All-contains (λ (z : VarId). nat_cmp w.0 z.0 ≡ Less) ws v (All-from_recursion (λ (z : VarId). nat_cmp w.0 z.0 ≡ Less) ws (sorted_head (λ (a b : VarId). nat_cmp a.0 b.0) w ws up)) later in
      let tied : w.0 ≡ v.0 = ap (λ (z : VarId). z.0) same ∙ e in
      not_less w.0 v.0 tied less
  | inr before ↦ scope_apart ws i v (sorted_tail (λ (a b : VarId). nat_cmp a.0 b.0) w ws up) (omega (arith, within)) is u before e
]
