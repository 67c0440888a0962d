-- Where a string closes: what is known of its bytes up to a place, and whether a `\` stands right before that place.
use Rattle.std.proofs.Common.{◌≡◌, ℕ, ◌+◌, ◌-◌, ◌<◌, ◌≤◌, Bool, true, false, not, ◌&&◌, ◌||◌, cond, eqb, List, [], ◌∷◌, length, take, drop, get_or, zero, suc, Some, None, ⊎_elim, sym, refl, ap, ◌∙◌, subst, arith, drop-cons, length-drop}
use Rattle.std.proofs.lemmas.Bool.{cases_lt}
use Rattle.std.proofs.lemmas.List.{length-take-le}
use Rattle.fzn_reader.specs.declared.pieces.Piece.TheVariants as pieces
use Rattle.fzn_reader.specs.declared.tokens.TokenKind.TheVariants as kinds
use Rattle.fzn_reader.specs.Pieces.{closes, opened_piece, string_piece, NeverCloses, IsLongestBy, BeginsNoneBy}
use Rattle.fzn_reader.specs.Front.{IsClosing}

-- what closes a string right behind a `\`
abbrev pub closes_escaped : List ℕ → Bool
closes_escaped [] = false
closes_escaped (c ∷ bytes) = not (eqb c 10) && closes bytes

abbrev pub closes_from : Bool → List ℕ → Bool
closes_from true bytes = closes_escaped bytes
closes_from false bytes = closes bytes

-- a front closes where its rest does, and none so far does
pub record GoesOn (bytes : List ℕ) (i : ℕ) (escaped : Bool) : Type 0 where
  pub rest : (m : ℕ) → closes (take (i + m) bytes) ≡ closes_from escaped (take m (drop i bytes))
  pub none : (m : ℕ) → m ≤ i → closes (take m bytes) ≡ false

none_first : (bytes : List ℕ) (m : ℕ) → m ≤ 0 → closes (take m bytes) ≡ false
none_first bytes zero h = refl
none_first bytes (suc m) h = absurd (omega arith)

pub goes_on_first : (bytes : List ℕ) → GoesOn bytes 0 false
goes_on_first bytes = record {
  rest = λ m. let e : 0 + m ≡ m = omega arith in ap (λ k. closes (take k bytes)) e;
  none = none_first bytes;
}

-- the next byte, and what is behind it
next : (bytes : List ℕ) (i : ℕ) (escaped : Bool) (m : ℕ) → i < length bytes → GoesOn bytes i escaped → closes (take (i + suc m) bytes) ≡ closes_from escaped (get_or bytes i 0 ∷ take m (drop (i + 1) bytes))
next bytes i escaped m h so_far =
    let one : suc i ≡ i + 1 = omega arith in
    let behind : drop i bytes ≡ get_or bytes i 0 ∷ drop (i + 1) bytes = subst (λ (k : ℕ). drop i bytes ≡ get_or bytes i 0 ∷ drop k bytes) one (drop-cons bytes i 0 h) in
    so_far.rest (suc m) ∙ ap (λ xs. closes_from escaped (take (suc m) xs)) behind

-- a `\` takes any next byte but a newline with it
step_escaped : (b : ℕ) (xs : List ℕ) → eqb b 10 ≡ false → closes_from true (b ∷ xs) ≡ closes_from false xs
step_escaped b xs line = ap (λ v. not v && closes xs) line

step_plain : (b : ℕ) (xs : List ℕ) → eqb b 10 ≡ false → eqb b 34 ≡ false → closes_from false (b ∷ xs) ≡ closes_from (eqb b 92) xs
step_plain b [] line quote = quote ∙ sym (none_from (eqb b 92))
  where
    none_from : (v : Bool) → closes_from v [] ≡ false
    none_from true = refl
    none_from false = refl
step_plain b (c ∷ xs) line quote =
    elim (eqb b 92) as (λ v. cond v (not (eqb c 10) && closes xs) (not (eqb b 34 || eqb b 10) && closes (c ∷ xs)) ≡ closes_from v (c ∷ xs)) [
      | true ↦ refl
      | false ↦ λ k. not (quote k || line k) && closes (c ∷ xs)
    ]

pub goes_on : (bytes : List ℕ) (i : ℕ) (escaped next_escaped : Bool) → i < length bytes → GoesOn bytes i escaped → ((xs : List ℕ) → closes_from escaped (get_or bytes i 0 ∷ xs) ≡ closes_from next_escaped xs) → GoesOn bytes (i + 1) next_escaped
goes_on bytes i escaped next_escaped h so_far step = record {
  rest = rest;
  none = λ m w. ⊎_elim (λ before. so_far.none m (omega arith)) (λ after. let e : i + 1 + 0 ≡ m = omega arith in subst (λ (k : ℕ). closes (take k bytes) ≡ false) e (rest 0 ∙ nothing next_escaped)) (cases_lt m (i + 1));
}
  where
    rest : (m : ℕ) → closes (take (i + 1 + m) bytes) ≡ closes_from next_escaped (take m (drop (i + 1) bytes))
    rest m =
        let e : i + suc m ≡ i + 1 + m = omega arith in
        subst (λ (k : ℕ). closes (take k bytes) ≡ closes_from next_escaped (take m (drop (i + 1) bytes))) e (next bytes i escaped m h so_far ∙ step (take m (drop (i + 1) bytes)))

    nothing : (v : Bool) → closes_from v [] ≡ false
    nothing true = refl
    nothing false = refl

pub goes_on_escaped : (bytes : List ℕ) (i : ℕ) → i < length bytes → eqb (get_or bytes i 0) 10 ≡ false → GoesOn bytes i true → GoesOn bytes (i + 1) false
goes_on_escaped bytes i h line so_far = goes_on bytes i true false h so_far (λ xs. step_escaped (get_or bytes i 0) xs line)

pub goes_on_plain : (bytes : List ℕ) (i : ℕ) → i < length bytes → eqb (get_or bytes i 0) 10 ≡ false → eqb (get_or bytes i 0) 34 ≡ false → GoesOn bytes i false → GoesOn bytes (i + 1) (eqb (get_or bytes i 0) 92)
goes_on_plain bytes i h line quote so_far = goes_on bytes i false (eqb (get_or bytes i 0) 92) h so_far (λ xs. step_plain (get_or bytes i 0) xs line quote)

-- a newline ends the line with the string open
at_newline : (escaped : Bool) (xs : List ℕ) → closes_from escaped (10 ∷ xs) ≡ false
at_newline true xs = refl
at_newline false [] = refl
at_newline false (c ∷ xs) = refl

pub never_closes_newline : (bytes : List ℕ) (i : ℕ) (escaped : Bool) → i < length bytes → get_or bytes i 0 ≡ 10 → GoesOn bytes i escaped → NeverCloses bytes
never_closes_newline bytes i escaped h line so_far = record {
  none = λ m w. ⊎_elim (λ after. behind m after) (λ before. so_far.none m before) (cases_lt i m);
}
  where
    behind : (m : ℕ) → i < m → closes (take m bytes) ≡ false
    behind m after =
        let e : i + suc (m - i - 1) ≡ m = omega arith in
        subst (λ (k : ℕ). closes (take k bytes) ≡ false) e (next bytes i escaped (m - i - 1) h so_far ∙ ap (λ b. closes_from escaped (b ∷ take (m - i - 1) (drop (i + 1) bytes))) line ∙ at_newline escaped (take (m - i - 1) (drop (i + 1) bytes)))

pub never_closes_end : (bytes : List ℕ) (i : ℕ) (escaped : Bool) → length bytes ≤ i → GoesOn bytes i escaped → NeverCloses bytes
never_closes_end bytes i escaped h so_far = record { none = λ m w. so_far.none m (omega arith) }

-- a quote closes the string
behind_quote : (xs : List ℕ) → 0 < length xs → closes (34 ∷ xs) ≡ false
behind_quote [] some = absurd (omega arith)
behind_quote (c ∷ xs) some = refl

pub is_closing : (bytes : List ℕ) (i : ℕ) → i < length bytes → get_or bytes i 0 ≡ 34 → GoesOn bytes i false → IsClosing bytes (i + 1)
is_closing bytes i h quote so_far = record {
  within = omega arith;
  closed = let e : i + suc 0 ≡ i + 1 = omega arith in subst (λ (k : ℕ). closes (take k bytes) ≡ true) e (next bytes i false 0 h so_far ∙ ap (λ b. closes (b ∷ [])) quote);
  longest = longer;
}
  where
    longer : (m : ℕ) → i + 1 < m → m ≤ length bytes → closes (take m bytes) ≡ false
    longer m after w =
        let k : ℕ = m - i - 1 in
        let e : i + suc (m - i - 1) ≡ m = omega arith in
        let left : m - i - 1 ≤ length (drop (i + 1) bytes) = omega (arith, length-drop (i + 1) bytes) in
        let some : 0 < length (take (m - i - 1) (drop (i + 1) bytes)) = omega (arith, length-take-le (m - i - 1) (drop (i + 1) bytes) left) in
        subst (λ (k : ℕ). closes (take k bytes) ≡ false) e (next bytes i false (m - i - 1) h so_far ∙ ap (λ b. closes (b ∷ take (m - i - 1) (drop (i + 1) bytes))) quote ∙ behind_quote (take (m - i - 1) (drop (i + 1) bytes)) some)

-- ---- whole strings

opened_form : (bytes : List ℕ) (is : Bool) → 0 < length bytes → closes bytes ≡ is → opened_piece bytes ≡ cond is (Some (pieces.Token kinds.Text)) None
opened_form [] is some h = absurd (omega arith)
opened_form (b ∷ bytes) is some h = ap (λ v. cond v (Some (pieces.Token kinds.Text)) None) h

opened_front : (bytes : List ℕ) (m : ℕ) (is : Bool) → 0 < m → m ≤ length bytes → closes (take m bytes) ≡ is → opened_piece (take m bytes) ≡ cond is (Some (pieces.Token kinds.Text)) None
opened_front bytes m is some w h = opened_form (take m bytes) is (omega (arith, length-take-le m bytes w)) h

some_closing : (bytes : List ℕ) (n : ℕ) → IsClosing bytes n → 0 < n
some_closing bytes zero h = let e : false ≡ true = h.closed in absurd (cc)
some_closing bytes (suc n) h = omega arith

pub string_found : (text : List ℕ) (n : ℕ) → 0 < length text → get_or text 0 0 ≡ 34 → IsClosing (drop 1 text) n → IsLongestBy string_piece text (n + 1) (pieces.Token kinds.Text)
string_found [] n more quote h = absurd (omega arith)
string_found (b ∷ bytes) n more quote h =
    let one : suc n ≡ n + 1 = omega arith in
    let here : IsLongestBy string_piece (34 ∷ bytes) (suc n) (pieces.Token kinds.Text) = record {
      some = omega arith;
      within = omega (arith, h.within);
      form = opened_front bytes n true (some_closing bytes n h) h.within h.closed;
      longest = longer;
    } in
    subst (λ (k : ℕ). IsLongestBy string_piece (b ∷ bytes) k (pieces.Token kinds.Text)) one (subst (λ (x : ℕ). IsLongestBy string_piece (x ∷ bytes) (suc n) (pieces.Token kinds.Text)) (sym quote) here)
  where
    longer : (m : ℕ) → suc n < m → m ≤ suc (length bytes) → string_piece (take m (34 ∷ bytes)) ≡ None
    longer zero long w = absurd (omega arith)
    longer (suc m) long w = opened_front bytes m false (omega arith) (omega arith) (h.longest m (omega arith) (omega arith))

pub string_open : (text : List ℕ) → 0 < length text → get_or text 0 0 ≡ 34 → NeverCloses (drop 1 text) → IsLongestBy string_piece text 1 pieces.OpenQuote
string_open [] more quote h = absurd (omega arith)
string_open (b ∷ bytes) more quote h =
    subst (λ (x : ℕ). IsLongestBy string_piece (x ∷ bytes) 1 pieces.OpenQuote) (sym quote) (record {
      some = omega arith;
      within = omega arith;
      form = refl;
      longest = longer;
    })
  where
    longer : (m : ℕ) → 1 < m → m ≤ suc (length bytes) → string_piece (take m (34 ∷ bytes)) ≡ None
    longer zero long w = absurd (omega arith)
    longer (suc m) long w = opened_front bytes m false (omega arith) (omega arith) (h.none m (omega arith))

pub string_none : (text : List ℕ) → (0 < length text → eqb (get_or text 0 0) 34 ≡ false) → BeginsNoneBy string_piece text
string_none text other = record { none = none text other }
  where
    none : (text : List ℕ) → (0 < length text → eqb (get_or text 0 0) 34 ≡ false) → (m : ℕ) → 0 < m → m ≤ length text → string_piece (take m text) ≡ None
    none text other zero some w = absurd (omega arith)
    none [] other (suc m) some w = refl
    none (b ∷ text) other (suc m) some w = ap (λ v. cond v (opened_piece (take m text)) None) (other (omega arith))
