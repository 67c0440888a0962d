-- Joint states as the keys of a set in order.
use Rattle.std.proofs.Common.{◌≡◌, ℕ, Bool, true, false, eqb, List, [], ◌∷◌, ◌++◌, Vec, Global, append-nil, refl, sym, ◌∙◌, ap, subst}
use Rattle.std.specs.Prelude.{All, if◌then◌else◌}
use Rattle.std.specs.List.{list_any}
use Rattle.std.specs.Cmp.Lexicographic.{pointwise}
use Rattle.std.proofs.lemmas.Bool.{eqb-true}
use Rattle.std.proofs.lemmas.List.Elements.{All-push}
use Rattle.indexmap.specs.IndexSet.{insert_key}
use Rattle.bit_machine.specs.Built.{same_position}
use Rattle.bit_machine.specs.Comparisons.{pair_true}
use Rattle.choice_machine.proofs.Lists.{pointwise_true}

-- the comparison of joint states
abbrev pub same_joint : {Q : Type 0} → (Q → Q → Bool) → Vec (ℕ × Q) Global → Vec (ℕ × Q) Global → Bool
same_joint same x y = pointwise (same_position same) x.items y.items

pub same_joint_true : {Q : Type 0} (same : Q → Q → Bool) → ((p q : Q) → same p q ≡ true → p ≡ q) → (x y : Vec (ℕ × Q) Global) → same_joint same x y ≡ true → x.items ≡ y.items
same_joint_true {Q} same identical x y is =
    pointwise_true {A = ℕ × Q} (same_position same) (λ p q h. pair_true eqb same eqb-true identical p q h) x.items y.items is

-- the keys after one is inserted
module _ {T : Type 0} (eq : T → T → Bool) where
  pub first_key : (ks new : List T) (k : T) → ks ≡ [] → new ≡ insert_key eq ks k → new ≡ k ∷ []
  first_key ks new k none is = is ∙ ap (λ l. insert_key eq l k) none

  grown : (ks : List T) (k : T) (b : Bool) → (more : List T) × ((if b then ks else ks ++ k ∷ []) ≡ ks ++ more)
  grown ks k true = ([], sym (append-nil ks))
  grown ks k false = (k ∷ [], refl)

  pub keys_grow : (ks new : List T) (k : T) → new ≡ insert_key eq ks k → (more : List T) × (new ≡ ks ++ more)
  keys_grow ks new k is = let r = grown ks k (list_any (eq k) ks) in (r.0, is ∙ r.1)

  each : (P : T → Type 0) (ks : List T) (k : T) (b : Bool) → All P ks → P k → All P (if b then ks else ks ++ k ∷ [])
  each P ks k true all here = all
  each P ks k false all here = All-push P ks k all here

  pub keys_each : (P : T → Type 0) (ks new : List T) (k : T) → new ≡ insert_key eq ks k → All P ks → P k → All P new
  keys_each P ks new k is all here = subst (All P) (sym is) (each P ks k (list_any (eq k) ks) all here)
