-- The first word of a diagram, in the order of words or in its reverse.
use Rattle.std.proofs.Common.{◌≡◌, ◌≢◌, ℕ, ◌+◌, ◌<◌, Bool, true, false, not, List, [], ◌∷◌, ◌++◌, length, take, drop, get_or, Some, ◌⊎◌, refl, sym, ◌∙◌, ap, subst, inl, inr, arith, append_assoc}
use Rattle.std.proofs.lemmas.Bool.{cases_eq, false≢true}
use Rattle.std.proofs.lemmas.List.{length_push, take_more, take_all, append-nil, drop_all}
use Rattle.diagram_arena.specs.declared.nodes.Ref.{Ref}
use Rattle.diagram_arena.specs.declared.nodes.Ref.TheVariants.{Zero, One, Node}
use Rattle.diagram_arena.specs.declared.nodes.Triple.{Triple}
use Rattle.diagram_arena.specs.Table.{Table, has, IsLive}
use Rattle.diagram_view.specs.Words.{word_over, ListWords, words_over, IsWord}
use Rattle.diagram_view.specs.Bounds.{IsAtMost}
use Rattle.diagram_view.specs.Steps.{Laws, side}
use Rattle.diagram_view.specs.Levels.{IsFirst, IsPreferred}
use Rattle.diagram_view.proofs.Over.{after, IsOver, list_words}
use Rattle.diagram_view.proofs.Stepping.{live_triple, side-there, side-below, over_after, after-push, over_nothing}
use Rattle.diagram_view.proofs.Passing.{after-nil, other_value, split_at, no-turn, rest_at, words_at_end}

-- the order of words, or its reverse
abbrev Comes : Bool → List Bool → List Bool → Type 0
Comes false vs us = IsAtMost vs us
Comes true vs us = IsAtMost us vs

at_most_behind : (x : Bool) (vs us : List Bool) → IsAtMost vs us → IsAtMost (x ∷ vs) (x ∷ us)
at_most_behind true vs us h = h
at_most_behind false vs us h = h

comes_behind : (wanted x : Bool) (vs us : List Bool) → Comes wanted vs us → Comes wanted (x ∷ vs) (x ∷ us)
comes_behind false x vs us h = at_most_behind x vs us h
comes_behind true x vs us h = at_most_behind x us vs h

comes_itself : (wanted : Bool) (vs : List Bool) → Comes wanted vs vs
comes_itself false [] = tt
comes_itself true [] = tt
comes_itself wanted (v ∷ vs) = comes_behind wanted v vs vs (comes_itself wanted vs)

-- where two words differ first, the wanted value comes first
comes_first : (wanted : Bool) (p q r : List Bool) → Comes wanted (p ++ wanted ∷ q) (p ++ not wanted ∷ r)
comes_first false [] q r = tt
comes_first true [] q r = tt
comes_first wanted (v ∷ vs) q r = comes_behind wanted v (vs ++ wanted ∷ q) (vs ++ not wanted ∷ r) (comes_first wanted vs q r)

-- p is the front of every word that does not come behind all words with this front
pub record IsTakenTo (t : Table) (f : Ref) (bits : List ℕ) (wanted : Bool) (p : List Bool) (at : Ref) : Type 0 where
  pub is : at ≡ after t f bits p
  pub goes : at ≢ Zero
  pub best : (us : List Bool) → IsWord (words_over t f bits) us → (take (length p) us ≡ p) ⊎ ((q : List Bool) → Comes wanted (p ++ q) us)

pub taken_start : (t : Table) (f : Ref) (bits : List ℕ) (wanted : Bool) (p : List Bool) → p ≡ [] → f ≢ Zero → IsTakenTo t f bits wanted p f
taken_start t f bits wanted p e ne = subst (λ q. IsTakenTo t f bits wanted q f) (sym e) (record { is = after-nil t bits f; goes = ne; best = λ us is. inl refl })

-- a ref with no word on either side has none
two_zeros : (t : Table) → Laws t → (r : Ref) (b : ℕ) → IsLive t r → ((v : Bool) → side t r b v ≡ Zero) → r ≡ Zero
two_zeros t ok Zero b live none = refl
two_zeros t ok One b live none = none true
two_zeros t ok (Node i) b live none =
    let found = live_triple t i live in
    let n : Triple = found.0 in
    let is : t i ≡ Some n = found.1 in
    elim (cases_eq n.bit b) [
      | inl same ↦ absurd (ok.reduced.differ i n is (sym (side-there t i n b false is same) ∙ none false ∙ sym (none true) ∙ side-there t i n b true is same))
      | inr other ↦ sym (side-below t i n b true is other) ∙ none true
    ]

both : (wanted : Bool) (P : Bool → Type 0) → P wanted → P (not wanted) → (v : Bool) → P v
both true P here there true = here
both true P here there false = there
both false P here there true = there
both false P here there false = here

same_or_other : (v x : Bool) → (x ≡ v) ⊎ (x ≡ not v)
same_or_other true true = inl refl
same_or_other true false = inr refl
same_or_other false true = inr refl
same_or_other false false = inl refl

pub taken_live : (t : Table) → Laws t → (f : Ref) (bits : List ℕ) (wanted : Bool) (p : List Bool) (at : Ref) → IsOver t f bits → IsTakenTo t f bits wanted p at → IsLive t at
taken_live t ok f bits wanted p at over so = subst (IsLive t) (sym so.is) (over_after t ok bits f p over).live

-- one value more
pub taken_more : (t : Table) → Laws t → (f : Ref) (bits : List ℕ) (wanted : Bool) (p : List Bool) (at : Ref) (b : ℕ) (v : Bool) → IsOver t f bits → IsTakenTo t f bits wanted p at
    → length p < length bits → b ≡ get_or bits (length p) 0 → IsPreferred t at b wanted v → IsTakenTo t f bits wanted (p ++ v ∷ []) (side t at b v)
taken_more t ok f bits wanted p at b v over so lt here preferred =
    let next = rest_at bits (length p) b lt here in
    let bs : List ℕ = drop (length p + 1) bits in record {
      is = ap (λ r. side t r b v) so.is ∙ sym (after-push t bits f p b bs v next);
      goes = λ e. elim preferred [
        | inl first ↦ first.1 (ap (side t at b) (sym first.0) ∙ e)
        | inr second ↦ so.goes (two_zeros t ok at b (taken_live t ok f bits wanted p at over so)
            (both wanted (λ x. side t at b x ≡ Zero) second.1 (ap (side t at b) (sym second.0) ∙ e)))
      ];
      best = λ us is. elim (so.best us is) [
        | inr behind ↦ inr (λ q. subst (λ xs. Comes wanted xs us) (sym (append_assoc p (v ∷ []) q)) (behind (v ∷ q)))
        | inl front ↦
            let long = is.long in
            let within : length p < length us = omega (arith, long, lt) in
            let x : Bool = get_or us (length p) false in
            let rest : List Bool = drop (length p + 1) us in
            let parts : us ≡ p ++ x ∷ rest = split_at us (length p) within ∙ ap (λ q. q ++ x ∷ rest) front in
            let longer : x ≡ v → take (length (p ++ v ∷ [])) us ≡ p ++ v ∷ [] = λ e.
            ap (λ k. take k us) (length_push p v) ∙ take_more us (length p) false within ∙ ap (λ q. q ++ x ∷ []) front ∙ ap (λ y. p ++ y ∷ []) e in
            elim preferred [
              | inl first ↦ elim (same_or_other v x) [
                | inl e ↦ inl (longer e)
                | inr e ↦ inr (λ q.
                    subst (λ xs. Comes wanted xs us) (ap (λ y. p ++ y ∷ q) (sym first.0) ∙ sym (append_assoc p (v ∷ []) q))
                    (subst (λ ys. Comes wanted (p ++ wanted ∷ q) ys) (ap (λ y. p ++ y ∷ rest) (sym (e ∙ ap not first.0)) ∙ sym parts) (comes_first wanted p q rest)))
              ]
              | inr second ↦ inl (longer (other_value wanted x (λ e.
                  let gone : side t (after t f bits p) b wanted ≡ Zero = ap (λ r. side t r b wanted) (sym so.is) ∙ second.1 in
                  false≢true (sym (ap (list_words t f bits) (parts ∙ ap (λ y. p ++ y ∷ rest) e) ∙ no-turn t ok bits f p b bs over next wanted gone rest) ∙ is.inside)) ∙ sym second.0))
            ]
      ];
    }

pub first_at_end : (t : Table) → Laws t → (f : Ref) (bits : List ℕ) (wanted : Bool) (p : List Bool) (at : Ref) → IsOver t f bits → IsTakenTo t f bits wanted p at → length p ≡ length bits
    → IsFirst wanted (words_over t f bits) p
first_at_end t ok f bits wanted p at over so long =
    let over' : IsOver t at [] = subst (λ cs. IsOver t at cs) (drop_all (length p) bits (omega (arith, long))) (subst (λ r. IsOver t r (drop (length p) bits)) (sym so.is) (over_after t ok bits f p over)) in
    let one_ : at ≡ One = elim (over_nothing t at over') [ inl z ↦ absurd (so.goes z) | inr o ↦ o ] in
    first wanted (words_over t f bits) p
    (record { long = long; inside = words_at_end t ok f bits p at over so.is long ∙ ap (λ r. has t r (word_over [] [])) one_ ∙ ok.one _ })
    (λ us is. elim (so.best us is) [
      | inl front ↦ let l = is.long in subst (Comes wanted p) (sym front ∙ take_all (length p) us (omega (arith, l, long))) (comes_itself wanted p)
      | inr behind ↦ subst (λ xs. Comes wanted xs us) (append-nil p) (behind [])
    ])
  where
    first : (wanted : Bool) (W : ListWords) (p : List Bool) → IsWord W p → ((us : List Bool) → IsWord W us → Comes wanted p us) → IsFirst wanted W p
    first false W p is all = record { is = is; least = all }
    first true W p is all = record { is = is; greatest = all }
