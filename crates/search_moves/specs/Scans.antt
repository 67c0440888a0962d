-- What a walk looks for among the entries, over lists.
-- Source: this project's own.
use Rattle.std.specs.Prelude.{◌≡◌, ◌≢◌, ℕ, Bool, List, All, ◌⊎◌}
use Rattle.search_rules.specs.Family.{Lies}
use Rattle.search_rules.specs.Trail.{Entry, ByBox}

-- no entry matters
abbrev pub NoneMatters : {X : Type 0} → List (Entry X) → (ℕ → X → Bool) → Type 0
NoneMatters es b = All (λ e. Lies e.before (b e.var)) es

-- no entry of another variable than `v` at level `l` matters
abbrev pub NoOtherMatters : {X : Type 0} → List (Entry X) → (ℕ → X → Bool) → ℕ → ℕ → Type 0
NoOtherMatters es b l v = All (λ e. e.level ≡ l → e.var ≢ v → Lies e.before (b e.var)) es

-- no entry of another variable than `v` matters, at any level
abbrev pub OnlyOneMatters : {X : Type 0} → List (Entry X) → (ℕ → X → Bool) → ℕ → Type 0
OnlyOneMatters es b v = All (λ e. (e.var ≡ v) ⊎ Lies e.before (b e.var)) es

-- no entry was made by a box
abbrev pub NoneByBox : {X : Type 0} → List (Entry X) → Type 0
NoneByBox {X} es = All (λ e. (b : ℕ → X → Bool) → e.reason ≡ ByBox b → ⊥) es
