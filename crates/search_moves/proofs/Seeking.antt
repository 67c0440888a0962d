-- Looking through the entries: where the walk goes on, and where it stops.
use Rattle.std.proofs.Common.{◌≡◌, ◌≢◌, ℕ, ◌<◌, ◌≤◌, Bool, List, [], ◌∷◌, ◌++◌, ◌⊎◌, refl, sym, ◌∙◌, inl, inr, arith}
use Rattle.std.specs.List.{AllByRecursion}
use Rattle.std.proofs.lemmas.Bool.{cases_lt, cases_eq}
use Rattle.search_rules.specs.Family.{Lies}
use Rattle.search_rules.specs.Problem.{Problem}
use Rattle.search_rules.specs.Trail.{Entry, Replays, undo, top}
use Rattle.search_rules.specs.Walk.{Matters, SomeMatters, OnlyMatters, Stops, GoesOn, IsNewestOther}
use Rattle.search_rules.proofs.FamilyLemmas.{lies_not_leaves}
use Rattle.search_rules.proofs.WalkLemmas.{some_only}
use Rattle.search_rules.proofs.LearnLemmas.{some_level}

-- ---- entries that do not matter

abbrev pub NonePass : {X : Type 0} → List (Entry X) → (ℕ → X → Bool) → Type 0
NonePass es b = AllByRecursion (λ e. Lies e.before (b e.var)) es

some_rest : {X : Type 0} (passed rest : List (Entry X)) (b : ℕ → X → Bool) (l v : ℕ) → NonePass passed b
    → SomeMatters (passed ++ rest) b l v → SomeMatters rest b l v
some_rest [] rest b l v none some = some
some_rest (e ∷ es) rest b l v none (inl (level, var, matters)) = absurd (lies_not_leaves e.before (b e.var) none.0 matters)
some_rest (e ∷ es) rest b l v none (inr some) = some_rest es rest b l v none.1 some

pub some_more : {X : Type 0} (passed rest : List (Entry X)) (b : ℕ → X → Bool) (l v : ℕ) → SomeMatters rest b l v
    → SomeMatters (passed ++ rest) b l v
some_more [] rest b l v some = some
some_more (e ∷ es) rest b l v some = inr (some_more es rest b l v some)

only_rest : {X : Type 0} (passed rest : List (Entry X)) (b : ℕ → X → Bool) (l v : ℕ) → OnlyMatters (passed ++ rest) b l v
    → OnlyMatters rest b l v
only_rest [] rest b l v only = only
only_rest (e ∷ es) rest b l v only = only_rest es rest b l v only.1

only_more : {X : Type 0} (passed rest : List (Entry X)) (b : ℕ → X → Bool) (l v : ℕ) → NonePass passed b
    → OnlyMatters rest b l v → OnlyMatters (passed ++ rest) b l v
only_more [] rest b l v none only = only
only_more (e ∷ es) rest b l v none only = (inl none.0, only_more es rest b l v none.1 only)

pub stops_rest : {X : Type 0} (passed rest : List (Entry X)) (b : ℕ → X → Bool) (l v : ℕ) → NonePass passed b
    → Stops (passed ++ rest) b l v → Stops rest b l v
stops_rest passed rest b l v none stops = record {
  above = stops.above;
  some = some_rest passed rest b l v none stops.some;
  only = only_rest passed rest b l v stops.only;
}

pub stops_more : {X : Type 0} (passed rest : List (Entry X)) (b : ℕ → X → Bool) (l v : ℕ) → NonePass passed b
    → Stops rest b l v → Stops (passed ++ rest) b l v
stops_more passed rest b l v none stops = record {
  above = stops.above;
  some = some_more passed rest b l v stops.some;
  only = only_more passed rest b l v none stops.only;
}

pub on_more : {X : Type 0} (passed rest : List (Entry X)) (b : ℕ → X → Bool) → NonePass passed b → GoesOn rest b
    → GoesOn (passed ++ rest) b
on_more passed rest b none on l v stops = on l v (stops_rest passed rest b l v none stops)

none_matters : {X : Type 0} (es : List (Entry X)) (b : ℕ → X → Bool) (l v : ℕ) → NonePass es b → SomeMatters es b l v → ⊥
none_matters [] b l v none some = some
none_matters (e ∷ es) b l v none (inl (level, var, matters)) = lies_not_leaves e.before (b e.var) none.0 matters
none_matters (e ∷ es) b l v none (inr some) = none_matters es b l v none.1 some

pub none_goes_on : {X : Type 0} (es : List (Entry X)) (b : ℕ → X → Bool) → NonePass es b → GoesOn es b
none_goes_on es b none l v stops = none_matters es b l v none stops.some

-- ---- the newest entry that matters

-- older entries of a trail are one
pub replays_rest : {X : Type 0} (p : Problem X) (passed rest : List (Entry X)) (f : ℕ → X → Bool) → Replays p (passed ++ rest) f
    → (g : ℕ → X → Bool) × Replays p rest g
replays_rest p [] rest f replays = (f, replays)
replays_rest p (e ∷ es) rest f replays = replays_rest p es rest (undo f e) replays.1

pub two_go_on : {X : Type 0} (p : Problem X) (e : Entry X) (rest : List (Entry X)) (f b : ℕ → X → Bool) (v : ℕ)
    → Replays p (e ∷ rest) f → Matters e b → SomeMatters rest b e.level v → v ≢ e.var → GoesOn (e ∷ rest) b
two_go_on p e rest f b v replays matters some apart l w stops =
    let high : l ≤ e.level = some_level p (e ∷ rest) f b l w replays stops.some in
    elim (some_only (e ∷ rest) b e.level e.var l w (inl (refl, refl, matters)) stops.only) [
      | inl lt ↦ absurd (omega arith)
      | inr here ↦ elim (some_only (e ∷ rest) b e.level v l w (inr some) stops.only) [
        | inl lt ↦ absurd (omega arith)
        | inr there ↦ apart (there.1 ∙ sym here.1)
      ]
    ]

pub root_goes_on : {X : Type 0} (p : Problem X) (e : Entry X) (rest : List (Entry X)) (f b : ℕ → X → Bool)
    → Replays p (e ∷ rest) f → e.level ≡ 0 → GoesOn (e ∷ rest) b
root_goes_on p e rest f b replays level l w stops =
    let high : l ≤ e.level = some_level p (e ∷ rest) f b l w replays stops.some in
    let above : 0 < l = stops.above in
    absurd (omega arith)

-- on a trail of at most level `l`
only_others : {X : Type 0} (p : Problem X) (es : List (Entry X)) (f b : ℕ → X → Bool) (l v : ℕ) → Replays p es f → top es ≤ l
    → AllByRecursion (λ e. e.level ≡ l → e.var ≢ v → Lies e.before (b e.var)) es → OnlyMatters es b l v
only_others p [] f b l v replays le none = tt
only_others {X} p (e ∷ es) f b l v replays le none =
    let low : top es ≤ e.level = replays.0.low in
    let lower : top es ≤ l = omega arith in
    (here, only_others p es (undo f e) b l v replays.1 lower none.1)
  where
    here : Lies e.before (b e.var) ⊎ ((e.level < l) ⊎ ((e.level ≡ l) × (e.var ≡ v)))
    here = elim (cases_lt e.level l) [
      | inl lt ↦ inr (inl lt)
      | inr ge ↦
          let level : e.level ≡ l = omega arith in
          elim (cases_eq e.var v) [
            | inl same ↦ inr (inr (level, same))
            | inr apart ↦ inl (none.0 level apart)
          ]
    ]

pub stops_here : {X : Type 0} (p : Problem X) (e : Entry X) (rest : List (Entry X)) (f b : ℕ → X → Bool) → Replays p (e ∷ rest) f
    → Matters e b → 0 < e.level
    → AllByRecursion (λ d. d.level ≡ e.level → d.var ≢ e.var → Lies d.before (b d.var)) rest
    → Stops (e ∷ rest) b e.level e.var
stops_here p e rest f b replays matters above none = record {
  above = above;
  some = inl (refl, refl, matters);
  only = (inr (inr (refl, refl)), only_others p rest (undo f e) b e.level e.var replays.1 replays.0.low none);
}

-- older entries below a level have none at it
pub below_others : {X : Type 0} (p : Problem X) (es : List (Entry X)) (f b : ℕ → X → Bool) (l v : ℕ) → Replays p es f → top es < l
    → AllByRecursion (λ e. e.level ≡ l → e.var ≢ v → Lies e.before (b e.var)) es
below_others p [] f b l v replays lt = tt
below_others p (e ∷ es) f b l v replays lt =
    let low : top es ≤ e.level = replays.0.low in
    let lower : top es < l = omega arith in
    ((λ level apart. absurd (omega arith)), below_others p es (undo f e) b l v replays.1 lower)

-- ---- the newest entry of another variable

pub newest_found : {X : Type 0} (seen rest : List (Entry X)) (e : Entry X) (b : ℕ → X → Bool) (v : ℕ)
    → AllByRecursion (λ d. (d.var ≡ v) ⊎ Lies d.before (b d.var)) seen → e.var ≢ v → Matters e b
    → IsNewestOther (seen ++ e ∷ rest) b v e.level
newest_found [] rest e b v only apart matters = inl (apart, matters, refl)
newest_found (d ∷ ds) rest e b v only apart matters = inr (only.0, newest_found ds rest e b v only.1 apart matters)

pub newest_none : {X : Type 0} (es : List (Entry X)) (b : ℕ → X → Bool) (v : ℕ)
    → AllByRecursion (λ d. (d.var ≡ v) ⊎ Lies d.before (b d.var)) es → IsNewestOther es b v 0
newest_none [] b v only = refl
newest_none (d ∷ ds) b v only = inr (only.0, newest_none ds b v only.1)
