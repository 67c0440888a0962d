-- Where the entries that matter stand, one entry after another.
use Rattle.std.proofs.Common.{◌≡◌, ℕ, ◌<◌, ◌≤◌, Bool, List, [], ◌∷◌, ◌⊎◌, sym, ◌∙◌, inl, inr, arith}
use Rattle.search_rules.specs.Family.{Lies, Leaves}
use Rattle.search_rules.specs.Trail.{Entry}
use Rattle.search_rules.specs.Walk.{SomeMatters, OnlyMatters, GoesOn}
use Rattle.plain_search.specs.Moves.{NoneMatters, NoneAbove, AreSeveral, IsStanding}
use Rattle.plain_search.specs.declared.standing.Standing.{Standing}
use Rattle.plain_search.specs.declared.standing.Standing.TheVariants.{Nowhere, One, Several}

pub none_only : (es : List (Entry ℕ)) (b : ℕ → ℕ → Bool) (l v : ℕ) → NoneMatters es b → OnlyMatters es b l v
none_only [] b l v none = tt
none_only (e ∷ es) b l v none = (inl none.0, none_only es b l v none.1)

pub only_higher : (es : List (Entry ℕ)) (b : ℕ → ℕ → Bool) (h one l v : ℕ) → h < l → OnlyMatters es b h one → OnlyMatters es b l v
only_higher [] b h one l v lt only = tt
only_higher (e ∷ es) b h one l v lt only = (
  elim only.0 [
    | inl lies ↦ inl lies
    | inr (inl below) ↦ inr (inl (omega arith))
    | inr (inr (level, var)) ↦ inr (inl (omega arith))
  ],
  only_higher es b h one l v lt only.1,
)

pub only_above : (es : List (Entry ℕ)) (b : ℕ → ℕ → Bool) (h one : ℕ) → OnlyMatters es b h one → NoneAbove es b h
only_above [] b h one only = tt
only_above (e ∷ es) b h one only = (
  elim only.0 [
    | inl lies ↦ inl lies
    | inr (inl below) ↦ inr (omega arith)
    | inr (inr (level, var)) ↦ inr (omega arith)
  ],
  only_above es b h one only.1,
)

pub above_only : (es : List (Entry ℕ)) (b : ℕ → ℕ → Bool) (h l v : ℕ) → h < l → NoneAbove es b h → OnlyMatters es b l v
above_only [] b h l v lt none = tt
above_only (e ∷ es) b h l v lt none = (
  elim none.0 [ inl lies ↦ inl lies | inr below ↦ inr (inl (omega arith)) ],
  above_only es b h l v lt none.1,
)

pub lies_not_leaves : (s t : ℕ → Bool) → Lies s t → Leaves s t → ⊥
lies_not_leaves s t lies (x, here, there) = cc (lies x here)

-- an entry that matters is at most at the level above which none does
pub some_below : (es : List (Entry ℕ)) (b : ℕ → ℕ → Bool) (h l v : ℕ) → NoneAbove es b h → SomeMatters es b l v → l ≤ h
some_below [] b h l v none some = absurd some
some_below (e ∷ es) b h l v none (inl (level, var, matters)) = elim none.0 [
  | inl lies ↦ absurd (lies_not_leaves e.before (b e.var) lies matters)
  | inr below ↦ omega arith
]
some_below (e ∷ es) b h l v none (inr some) = some_below es b h l v none.1 some

pub none_some : (es : List (Entry ℕ)) (b : ℕ → ℕ → Bool) (l v : ℕ) → NoneMatters es b → SomeMatters es b l v → ⊥
none_some [] b l v none some = some
none_some (e ∷ es) b l v none (inl (level, var, matters)) = lies_not_leaves e.before (b e.var) none.0 matters
none_some (e ∷ es) b l v none (inr some) = none_some es b l v none.1 some

-- an entry that matters is below the level of the only variable, or is one of it
pub some_only : (es : List (Entry ℕ)) (b : ℕ → ℕ → Bool) (l v m w : ℕ) → SomeMatters es b l v → OnlyMatters es b m w
    → (l < m) ⊎ ((l ≡ m) × (v ≡ w))
some_only [] b l v m w some only = absurd some
some_only (e ∷ es) b l v m w (inl (level, var, matters)) (inl lies, only) = absurd (lies_not_leaves e.before (b e.var) lies matters)
some_only (e ∷ es) b l v m w (inl (level, var, matters)) (inr (inl lt), only) = inl (omega arith)
some_only (e ∷ es) b l v m w (inl (level, var, matters)) (inr (inr (here, there)), only) = inr (sym level ∙ here, sym var ∙ there)
some_only (e ∷ es) b l v m w (inr some) (first, only) = some_only es b l v m w some only

pub nowhere_goes_on : (es : List (Entry ℕ)) (b : ℕ → ℕ → Bool) → NoneMatters es b → GoesOn es b
nowhere_goes_on es b none l v stops = none_some es b l v none stops.some

-- at level 0 the walk goes on
pub root_goes_on : (es : List (Entry ℕ)) (b : ℕ → ℕ → Bool) (h one : ℕ) → h ≡ 0 → OnlyMatters es b h one → GoesOn es b
root_goes_on es b h one zero only l v stops =
    let low : l ≤ h = some_below es b h l v (only_above es b h one only) stops.some in
    let above : 0 < l = stops.above in
    omega arith

pub several_go_on : (es : List (Entry ℕ)) (b : ℕ → ℕ → Bool) (h : ℕ) → AreSeveral es b h → GoesOn es b
several_go_on es b h several l v stops =
    let low : l ≤ h = some_below es b h l v several.highest stops.some in
    elim (some_only es b h several.one l v several.one_matters stops.only) [
      | inl below ↦ absurd (omega arith)
      | inr (level, one) ↦ elim (some_only es b h several.other l v several.other_matters stops.only) [
        | inl below ↦ absurd (omega arith)
        | inr (same, other) ↦ several.apart (one ∙ sym other)
      ]
    ]

-- one more entry, which does not matter
pub standing_skip : (es : List (Entry ℕ)) (b : ℕ → ℕ → Bool) (e : Entry ℕ) (found : Standing) → Lies e.before (b e.var)
    → IsStanding es b found → IsStanding (e ∷ es) b found
standing_skip es b e Nowhere lies none = (lies, none)
standing_skip es b e (One l v) lies found = (inr found.0, (inl lies, found.1))
standing_skip es b e (Several l) lies found = record {
  one = found.one;
  other = found.other;
  apart = found.apart;
  one_matters = inr found.one_matters;
  other_matters = inr found.other_matters;
  highest = (inl lies, found.highest);
}
