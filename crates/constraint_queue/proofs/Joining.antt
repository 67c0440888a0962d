-- Lists of readers, as constraints join them.
use Rattle.std.proofs.Common.{◌≡◌, ◌≢◌, ℕ, ◌+◌, ◌<◌, ◌≤◌, List, [], ◌∷◌, ◌++◌, length, get_or, set, take, refl, sym, ap, ◌∙◌, subst, inl, inr, arith, Contains}
use Rattle.std.specs.Prelude.{◌⊎◌}
use Rattle.std.proofs.lemmas.Bool.{cases_eq, cases_lt}
use Rattle.std.proofs.lemmas.List.{get_or-set_same, get_or-set_other, get_or_past, take_more}
use Rattle.std.proofs.lemmas.List.Elements.{Contains-push_cases, Contains-append_left, Contains-append_right, Contains-append_cases, Contains-push}
use Rattle.set_meaning.specs.declared.problems.VarId.{VarId}
use Rattle.set_meaning.specs.declared.problems.ConId.{ConId}
use Rattle.constraint_queue.specs.Waiting.{list_of, AreReadersOf, AreReaders, AreEmpty, HaveJoined}

pub nothing_in : {X : Type 0} (x : X) → Contains [] x → ⊥
nothing_in x h = let lt : h.0 < 0 = h.1 in absurd (omega arith)

pub in_one : {X : Type 0} (x y : X) → Contains (x ∷ []) y → x ≡ y
in_one x y h = elim (Contains-push_cases [] x y h) [ inl before ↦ absurd (nothing_in y before) | inr is ↦ is ]

abbrev pub the_variable : ℕ → VarId
the_variable n = record { 0 = n }

abbrev pub the_constraint : ℕ → ConId
the_constraint n = record { 0 = n }

module _ (c : ConId) (old : List (List ConId)) (w : VarId) (within : w.0 < length old) where
  after : List (List ConId)
  after = set old w.0 (list_of old w ++ c ∷ [])

  here : list_of after w ≡ list_of old w ++ c ∷ []
  unfolding after
  here = get_or-set_same old w.0 (list_of old w ++ c ∷ []) [] within

  joined_here : (d : ConId) → Contains (list_of after w) d → (Contains (list_of old w) d ⊎ ((c ≡ d) × Contains (w ∷ []) w))
  joined_here d h = elim (Contains-push_cases (list_of old w) c d (subst (λ l. Contains l d) here h)) [
    | inl before ↦ inl before
    | inr is ↦ inr (is, Contains-push [] w)
  ]

  from_here : (d : ConId) → (Contains (list_of old w) d ⊎ ((c ≡ d) × Contains (w ∷ []) w)) → Contains (list_of after w) d
  from_here d h = subst (λ l. Contains l d) (sym here) (elim h [
    | inl before ↦ Contains-append_left (list_of old w) (c ∷ []) d before
    | inr more ↦ subst (λ x. Contains (list_of old w ++ c ∷ []) x) more.0 (Contains-push (list_of old w) c)
  ])

  elsewhere : (v : VarId) → v.0 ≢ w.0 → list_of after v ≡ list_of old v
  unfolding after
  elsewhere v other = get_or-set_other old w.0 v.0 (list_of old w ++ c ∷ []) [] other

  joined_one : HaveJoined c (w ∷ []) old after
  joined_one v d = elim (cases_eq v.0 w.0) [
    | inl same ↦
        let is : w ≡ v = ap the_variable (sym same) in
        subst (λ (v : VarId). (Contains (list_of after v) d → (Contains (list_of old v) d ⊎ ((c ≡ d) × Contains (w ∷ []) v)))
        × ((Contains (list_of old v) d ⊎ ((c ≡ d) × Contains (w ∷ []) v)) → Contains (list_of after v) d)) is (joined_here d, from_here d)
    | inr other ↦ (
      (λ h. inl (subst (λ l. Contains l d) (elsewhere v other) h)),
      (λ h. subst (λ l. Contains l d) (sym (elsewhere v other)) (elim h [
        | inl before ↦ before
        | inr more ↦ absurd (other (sym (ap (λ (x : VarId). x.0) (in_one w v more.1))))
      ])),
    )
  ]

joined_then : (c : ConId) (xs ys : List VarId) (a b z : List (List ConId)) → HaveJoined c xs a b → HaveJoined c ys b z → HaveJoined c (xs ++ ys) a z
joined_then c xs ys a b z first second v d = (
  (λ h. elim ((second v d).0 h) [
    | inr more ↦ inr (more.0, Contains-append_right xs ys v more.1)
    | inl before ↦ elim ((first v d).0 before) [
      | inr more ↦ inr (more.0, Contains-append_left xs ys v more.1)
      | inl long_before ↦ inl long_before
    ]
  ]),
  (λ h. elim h [
    | inl long_before ↦ (second v d).1 (inl ((first v d).1 (inl long_before)))
    | inr more ↦ elim (Contains-append_cases xs ys v more.1) [
      | inl front ↦ (second v d).1 (inl ((first v d).1 (inr (more.0, front))))
      | inr back ↦ (second v d).1 (inr (more.0, back))
    ]
  ]),
)

-- before any has joined
pub none_joined : (c : ConId) (old : List (List ConId)) → HaveJoined c [] old old
none_joined c old v d = ((λ h. inl h), (λ h. elim h [ inl before ↦ before | inr more ↦ absurd (nothing_in v more.1) ]))

-- one more list has been joined
pub joined_more : (c : ConId) (vs : List VarId) (i : ℕ) (d : VarId) (old mid : List (List ConId)) (list : List ConId) → i < length vs → (get_or vs i d).0 < length mid → HaveJoined c (take i vs) old mid
    → list ≡ list_of mid (get_or vs i d) ++ c ∷ [] → HaveJoined c (take (i + 1) vs) old (set mid (get_or vs i d).0 list)
unfolding after
joined_more c vs i d old mid list less within before list_is =
    subst (λ (xs : List VarId). HaveJoined c xs old (set mid (get_or vs i d).0 list)) (sym (take_more vs i d less))
    (subst (λ (z : List ConId). HaveJoined c (take i vs ++ get_or vs i d ∷ []) old (set mid (get_or vs i d).0 z)) (sym list_is)
    (joined_then c (take i vs) (get_or vs i d ∷ []) old mid (set mid (get_or vs i d).0 (list_of mid (get_or vs i d) ++ c ∷ [])) before (joined_one c mid (get_or vs i d) within)))

-- ---- all constraints

pub no_readers : (scopes : List (List VarId)) (readers : List (List ConId)) → AreEmpty readers → AreReadersOf 0 scopes readers
no_readers scopes readers empty v c = (
  (λ h. absurd (nothing_in c (subst (λ l. Contains l c) (empty v) h))),
  (λ h. let lt : c.0 < 0 = h.0 in absurd (omega arith)),
)

pub readers_more : (count : ℕ) (scopes : List (List VarId)) (a b : List (List ConId)) (c : ConId) (scope : List VarId) → c.0 ≡ count → get_or scopes count [] ≡ scope → AreReadersOf count scopes a → HaveJoined c scope a b → AreReadersOf (count + 1) scopes b
readers_more count scopes a b c scope number scope_is are joined v d = (
  (λ h. elim ((joined v d).0 h) [
    | inl before ↦ let r = (are v d).0 before in let lt : d.0 < count = r.0 in (omega (arith, lt), r.1)
    | inr more ↦
        let at : count ≡ d.0 = sym number ∙ ap (λ (x : ConId). x.0) more.0 in (
          omega (arith, at),
          subst (λ n. Contains (get_or scopes n []) v) at (subst (λ s. Contains s v) (sym scope_is) more.1),
        )
  ]),
  (λ h. elim (cases_eq d.0 count) [
    | inl same ↦
        let is : c ≡ d = ap the_constraint (number ∙ sym same) in
        (joined v d).1 (inr (is, subst (λ s. Contains s v) scope_is (subst (λ n. Contains (get_or scopes n []) v) same h.1)))
    | inr other ↦ let lt : d.0 < count + 1 = h.0 in (joined v d).1 (inl ((are v d).1 (omega (arith, lt, other), h.1)))
  ]),
)

-- a constraint that speaks of a variable is one of those with scopes
pub reader_within : (scopes : List (List VarId)) (c : ℕ) (v : VarId) → Contains (get_or scopes c []) v → c < length scopes
reader_within scopes c v h = elim (cases_lt c (length scopes)) [
  | inl less ↦ less
  | inr past ↦ absurd (nothing_in v (subst (λ s. Contains s v) (get_or_past scopes c [] past) h))
]
