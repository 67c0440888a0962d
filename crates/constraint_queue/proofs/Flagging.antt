-- The constraints that wait, as flags come and go.
use Rattle.std.proofs.Common.{◌≡◌, ◌≢◌, ℕ, ◌+◌, ◌*◌, ◌<◌, ◌≤◌, eqb, Bool, true, false, cond, List, [], ◌∷◌, length, get_or, set, replicate, refl, sym, ap, ◌∙◌, subst, inl, inr, arith}
use Rattle.std.specs.List.{count_by, sum_by}
use Rattle.std.specs.List.Sorted.{IsPermutation}
use Rattle.std.proofs.lemmas.Bool.{cases_eq, cases_lt, cases_Bool, eq-eqb, ne_eqb, both_ways}
use Rattle.std.proofs.lemmas.List.{length-set, get_or-set_same, get_or-set_other, get_or_past, get_or-replicate, length-replicate}
use Rattle.std.proofs.lemmas.List.Sorted.{sum_by_pushed, sum_by_popped}
use Rattle.std.proofs.lemmas.List.Sums.{sum_by-set}
use Rattle.std.proofs.lemmas.List.Folds.{sum_by-replicate, sum_by-zero}
use Rattle.constraint_queue.specs.Waiting.{AreWaiting}

abbrev one : Bool → ℕ
one b = cond b 1 0

one_true : (b : Bool) → b ≡ true → one b ≡ 1
one_true b is = ap one is

one_false : (b : Bool) → b ≡ false → one b ≡ 0
one_false b is = ap one is

some_true : (b : Bool) → 0 < one b → b ≡ true
some_true true h = refl
some_true false h = absurd (let n : 0 < 0 = h in omega (arith, n))

-- a flag that is set is within the list
pub flag_within : (flags : List Bool) (c : ℕ) → get_or flags c false ≡ true → c < length flags
flag_within flags c is = elim (cases_lt c (length flags)) [
  | inl less ↦ less
  | inr past ↦ absurd (both_ways (get_or flags c false) (get_or_past flags c false past) is)
]

pub no_flags : (n c : ℕ) → get_or (replicate n false) c false ≡ false
no_flags n c = elim (cases_lt c n) [
  | inl less ↦ get_or-replicate n c false false less
  | inr past ↦ get_or_past (replicate n false) c false (let long = length-replicate n false in omega (arith, long, past))
]

module _ {X : Type 0} (number : X → ℕ) where
  abbrev is_of : ℕ → X → Bool
  is_of c e = eqb (number e) c

  -- nothing waits
  pub none_wait : (flags : List Bool) (n room : ℕ) (entries : List X) (len : ℕ) → flags ≡ replicate n false → entries ≡ [] → len ≡ 0 → n ≤ room → AreWaiting number flags entries len room
  none_wait flags n room entries len flags_are entries_are len_is enough = record {
    once = λ c. ap (count_by (is_of c)) entries_are ∙ sym (one_false (get_or flags c false) (ap (λ fs. get_or fs c false) flags_are ∙ no_flags n c));
    many = len_is ∙ sym (ap (count_by (λ b. b)) flags_are ∙ none n);
    enough = let long : length flags ≡ n = ap length flags_are ∙ length-replicate n false in omega (arith, long, enough);
  }
    where
      none : (n : ℕ) → count_by (λ b. b) (replicate n false) ≡ 0
      none n = let e = sum_by-replicate one n false in let z : n * one false ≡ 0 = omega arith in e ∙ z

  module _ (flags : List Bool) (items : List X) (len room : ℕ) (are : AreWaiting number flags items len room) where
    -- there is room for one more where a flag is not set
    pub room_left : (c : ℕ) → c < length flags → get_or flags c false ≡ false → len < room
    room_left c within off =
        let set_too : count_by (λ b. b) (set flags c true) + one (get_or flags c false) ≡ count_by (λ b. b) flags + one true = sum_by-set one flags c true false within in
        let most = count_most (set flags c true) in
        let long = length-set flags c true in
        let many = are.many in
        let enough = are.enough in
        let zero_is = one_false (get_or flags c false) off in
        omega (arith, set_too, most, long, many, enough, zero_is)
      where
        count_most : (bs : List Bool) → count_by (λ b. b) bs ≤ length bs
        count_most bs = Rattle.std.proofs.lemmas.List.Sums.count_by-le-length (λ b. b) bs

    -- one more flag
    pub more_wait : (e : X) (items2 : List X) (len2 room2 : ℕ) → number e < length flags → get_or flags (number e) false ≡ false → IsPermutation (e ∷ items) items2 → len2 ≡ len + 1 → room ≤ room2
        → AreWaiting number (set flags (number e) true) items2 len2 room2
    more_wait e items2 len2 room2 within off perm len_is wide = record {
      once = λ c. elim (cases_eq (number e) c) [
        | inl same ↦
            let pushed = sum_by_pushed (λ x. one (is_of c x)) e items items2 perm in
            let before = are.once c in
            let here : one (is_of c e) ≡ 1 = one_true (is_of c e) (eq-eqb (number e) c same) in
            let was : one (get_or flags c false) ≡ 0 = one_false (get_or flags c false) (subst (λ n. get_or flags n false ≡ false) same off) in
            let now : one (get_or (set flags (number e) true) c false) ≡ 1 =
            one_true (get_or (set flags (number e) true) c false) (subst (λ n. get_or (set flags (number e) true) n false ≡ true) same (get_or-set_same flags (number e) true false within)) in
            pushed ∙ omega (arith, here, before, was, now)
        | inr other ↦
            let pushed = sum_by_pushed (λ x. one (is_of c x)) e items items2 perm in
            let before = are.once c in
            let here : one (is_of c e) ≡ 0 = one_false (is_of c e) (ne_eqb (number e) c other) in
            let now : one (get_or (set flags (number e) true) c false) ≡ one (get_or flags c false) = ap one (get_or-set_other flags (number e) c true false (λ e. other (sym e))) in
            pushed ∙ omega (arith, here, before, now)
      ];
      many =
          let set_too = sum_by-set one flags (number e) true false within in
          let many = are.many in
          let zero_is = one_false (get_or flags (number e) false) off in
          omega (arith, set_too, many, zero_is, len_is);
      enough = let long = length-set flags (number e) true in let enough = are.enough in omega (arith, long, enough, wide);
    }

    module _ (e : X) (items2 : List X) (perm : IsPermutation items (e ∷ items2)) where
      popped : (c : ℕ) → count_by (is_of c) items2 + one (is_of c e) ≡ count_by (is_of c) items
      popped c = sum_by_popped (λ x. one (is_of c x)) e items items2 perm

      -- what is taken had its flag
      pub had_flag : get_or flags (number e) false ≡ true
      had_flag =
          let all = popped (number e) in
          let before = are.once (number e) in
          let here : one (is_of (number e) e) ≡ 1 = one_true (is_of (number e) e) (eq-eqb (number e) (number e) refl) in
          some_true (get_or flags (number e) false) (omega (arith, all, before, here))

      pub fewer_flags : count_by (λ b. b) (set flags (number e) false) + 1 ≡ count_by (λ b. b) flags
      fewer_flags =
          let set_too = sum_by-set one flags (number e) false false (flag_within flags (number e) had_flag) in
          let one_is = one_true (get_or flags (number e) false) had_flag in
          omega (arith, set_too, one_is)

      pub fewer_wait : (len2 : ℕ) → len2 + 1 ≡ len → AreWaiting number (set flags (number e) false) items2 len2 room
      fewer_wait len2 len_is = record {
        once = λ c. elim (cases_eq (number e) c) [
          | inl same ↦
              let all = popped c in
              let before = are.once c in
              let here : one (is_of c e) ≡ 1 = one_true (is_of c e) (eq-eqb (number e) c same) in
              let was : one (get_or flags c false) ≡ 1 = one_true (get_or flags c false) (subst (λ n. get_or flags n false ≡ true) same had_flag) in
              let now : one (get_or (set flags (number e) false) c false) ≡ 0 =
              one_false (get_or (set flags (number e) false) c false)
              (subst (λ n. get_or (set flags (number e) false) n false ≡ false) same (get_or-set_same flags (number e) false false (flag_within flags (number e) had_flag))) in
              omega (arith, all, before, here, was, now)
          | inr other ↦
              let all = popped c in
              let before = are.once c in
              let here : one (is_of c e) ≡ 0 = one_false (is_of c e) (ne_eqb (number e) c other) in
              let now : one (get_or (set flags (number e) false) c false) ≡ one (get_or flags c false) = ap one (get_or-set_other flags (number e) c false false (λ e. other (sym e))) in
              omega (arith, all, before, here, now)
        ];
        many = let fewer = fewer_flags in let many = are.many in omega (arith, fewer, many, len_is);
        enough = let long = length-set flags (number e) false in let enough = are.enough in omega (arith, long, enough);
      }

    -- where nothing waits no flag is set
    pub none_set : len ≡ 0 → (c : ℕ) → get_or flags c false ≡ false
    none_set empty c = elim (cases_Bool (get_or flags c false)) [
      | inr off ↦ off
      | inl on ↦
          let set_too = sum_by-set one flags c false false (flag_within flags c on) in
          let one_is = one_true (get_or flags c false) on in
          let many = are.many in
          absurd (omega (arith, set_too, one_is, many, empty))
    ]
