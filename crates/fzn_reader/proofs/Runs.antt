-- Fronts of a list: how far a run of elements that pass a test goes.
use Rattle.std.proofs.Common.{◌≡◌, ℕ, ◌+◌, ◌-◌, ◌<◌, ◌≤◌, Bool, true, false, ◌&&◌, cond, List, [], ◌∷◌, length, take, drop, zero, suc, refl, subst, arith}
use Rattle.std.specs.List.{prefix_len, list_all}
use Rattle.std.proofs.lemmas.List.{drop-take}
use Rattle.fzn_reader.specs.Numbers.{is_digit_in, are_digits}

pub all_front : (p : ℕ → Bool) (xs : List ℕ) (m : ℕ) → m ≤ prefix_len p xs → list_all p (take m xs) ≡ true
all_front p xs zero h = refl
all_front p [] (suc m) h = refl
all_front p (x ∷ xs) (suc m) h =
    elim (p x) as (λ v. suc m ≤ cond v (1 + prefix_len p xs) 0 → (v && list_all p (take m xs)) ≡ true) [ true ↦ λ h'. all_front p xs m (omega arith) | false ↦ λ h'. absurd (omega arith) ] h

pub not_all_front : (p : ℕ → Bool) (xs : List ℕ) (m : ℕ) → prefix_len p xs < m → m ≤ length xs → list_all p (take m xs) ≡ false
not_all_front p xs zero h w = absurd (omega arith)
not_all_front p [] (suc m) h w = absurd (omega arith)
not_all_front p (x ∷ xs) (suc m) h w =
    elim (p x) as (λ v. cond v (1 + prefix_len p xs) 0 < suc m → (v && list_all p (take m xs)) ≡ false) [ true ↦ λ h'. not_all_front p xs m (omega arith) (omega arith) | false ↦ λ h'. refl ] h

-- a longer front has the same run
pub prefix_len-take : (p : ℕ → Bool) (xs : List ℕ) (m : ℕ) → prefix_len p xs ≤ m → prefix_len p (take m xs) ≡ prefix_len p xs
prefix_len-take p xs zero h = omega arith
prefix_len-take p [] (suc m) h = refl
prefix_len-take p (x ∷ xs) (suc m) h =
    elim (p x) as (λ v. cond v (1 + prefix_len p xs) 0 ≤ suc m → cond v (1 + prefix_len p (take m xs)) 0 ≡ cond v (1 + prefix_len p xs) 0) [ true ↦ λ h'. omega (arith, prefix_len-take p xs m (omega arith)) | false ↦ λ h'. refl ] h

-- a run is one throughout
pub prefix_len-front : (p : ℕ → Bool) (xs : List ℕ) (n : ℕ) → n ≡ prefix_len p xs → prefix_len p (take n xs) ≡ length (take n xs)
prefix_len-front p xs zero h = refl
prefix_len-front p [] (suc n) h = refl
prefix_len-front p (x ∷ xs) (suc n) h =
    elim (p x) as (λ v. suc n ≡ cond v (1 + prefix_len p xs) 0 → cond v (1 + prefix_len p (take n xs)) 0 ≡ suc (length (take n xs))) [ true ↦ λ h'. omega (arith, prefix_len-front p xs n (omega arith)) | false ↦ λ h'. absurd (omega arith) ] h

-- a part behind the first d elements of a front
pub drop-front : (d m : ℕ) (xs : List ℕ) → d ≤ m → drop d (take m xs) ≡ take (m - d) (drop d xs)
drop-front d m xs h =
    let e : d + (m - d) ≡ m = omega arith in subst (λ (k : ℕ). drop d (take k xs) ≡ take (m - d) (drop d xs)) e (drop-take d (m - d) xs)

-- ---- digits

pub are_digits-front : (base : ℕ) (bytes : List ℕ) (m : ℕ) → 0 < m → m ≤ prefix_len (is_digit_in base) bytes → are_digits base (take m bytes) ≡ true
are_digits-front base bytes zero some h = absurd (omega arith)
are_digits-front base [] (suc m) some h = absurd (omega arith)
are_digits-front base (b ∷ bytes) (suc m) some h = all_front (is_digit_in base) (b ∷ bytes) (suc m) h

pub are_digits-long : (base : ℕ) (bytes : List ℕ) (m : ℕ) → prefix_len (is_digit_in base) bytes < m → m ≤ length bytes → are_digits base (take m bytes) ≡ false
are_digits-long base bytes zero h w = absurd (omega arith)
are_digits-long base [] (suc m) h w = absurd (omega arith)
are_digits-long base (b ∷ bytes) (suc m) h w = not_all_front (is_digit_in base) (b ∷ bytes) (suc m) h w
