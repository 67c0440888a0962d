-- The longest word, symbol or gap at the front of a text.
use Rattle.std.proofs.Common.{◌≡◌, ℕ, ◌+◌, ◌<◌, ◌≤◌, Bool, true, false, ◌&&◌, cond, eqb, List, [], ◌∷◌, length, take, drop, get_or, zero, suc, Option, Some, None, ⊎_elim, sym, refl, ap, ◌∙◌, subst, arith}
use Rattle.std.specs.Prelude.{slice_get}
use Rattle.std.specs.Char.{is_ascii_alphabetic}
use Rattle.std.specs.List.{prefix_len, list_all}
use Rattle.std.specs.Option.{option_map}
use Rattle.std.proofs.lemmas.List.{take-take}
use Rattle.std.proofs.lemmas.List.Sums.{prefix_len-le-length}
use Rattle.std.proofs.lemmas.Bool.{false≢true, cases_lt}
use Rattle.fzn_reader.specs.declared.pieces.Piece.TheVariants as pieces
use Rattle.fzn_reader.specs.declared.tokens.TokenKind.TheVariants as kinds
use Rattle.fzn_reader.specs.declared.tokens.Symbol.{Symbol}
use Rattle.fzn_reader.specs.Pieces.{is_name_byte, leads_to_letter, is_word, word_of, word_kind, word_piece, symbol_of, symbol_piece, is_separator, separator_piece, is_within_line, comment_piece, IsLongestBy, BeginsNoneBy}
use Rattle.fzn_reader.specs.Front.{symbol_of_two}
use Rattle.fzn_reader.proofs.Runs.{all_front, not_all_front}

and_false : (x : Bool) → (x && false) ≡ false
and_false true = refl
and_false false = refl

-- ---- words

word_form : (bytes : List ℕ) (word : Bool) → is_word bytes ≡ word → word_piece bytes ≡ cond word (Some (pieces.Token (word_kind (word_of bytes)))) None
word_form bytes word h = ap (λ v. cond v (Some (pieces.Token (word_kind (word_of bytes)))) None) h

-- a longer word leads to a letter where a front of it does
leads_to_letter-front : (bytes : List ℕ) (m : ℕ) → leads_to_letter bytes ≡ false → leads_to_letter (take m bytes) ≡ false
leads_to_letter-front bytes zero h = refl
leads_to_letter-front [] (suc m) h = refl
leads_to_letter-front (b ∷ bytes) (suc m) h =
    elim (eqb b 95) as (λ v. cond v (leads_to_letter bytes) (is_ascii_alphabetic b) ≡ false → cond v (leads_to_letter (take m bytes)) (is_ascii_alphabetic b) ≡ false) [ true ↦ λ h'. leads_to_letter-front bytes m h' | false ↦ λ h'. h' ] h

word_long : (text : List ℕ) (m : ℕ) → prefix_len is_name_byte text < m → m ≤ length text → is_word (take m text) ≡ false
word_long text m long w =
    ap (λ x. leads_to_letter (take m text) && x) (not_all_front is_name_byte text m long w) ∙ and_false (leads_to_letter (take m text))

word_short : (text : List ℕ) (m : ℕ) → m ≤ prefix_len is_name_byte text → leads_to_letter (take (prefix_len is_name_byte text) text) ≡ false → is_word (take m text) ≡ false
word_short text m short leads =
    ap (λ x. x && list_all is_name_byte (take m text)) (ap leads_to_letter (sym (take-take m (prefix_len is_name_byte text) text short)) ∙ leads_to_letter-front (take (prefix_len is_name_byte text) text) m leads)

some_word : (text : List ℕ) (n : ℕ) → leads_to_letter (take n text) ≡ true → 0 < n
some_word text zero leads = absurd (false≢true leads)
some_word text (suc n) leads = omega arith

pub word_found : (text : List ℕ) (len : ℕ) → len ≡ prefix_len is_name_byte text → leads_to_letter (take len text) ≡ true → IsLongestBy word_piece text len (pieces.Token (word_kind (word_of (take len text))))
word_found text len run leads = record {
  some = some_word text len leads;
  within = omega (arith, prefix_len-le-length is_name_byte text);
  form = word_form (take len text) true (ap (λ x. x && list_all is_name_byte (take len text)) leads ∙ all_front is_name_byte text len (omega arith));
  longest = λ m long w. word_form (take m text) false (word_long text m (omega arith) w);
}

pub word_none : (text : List ℕ) (len : ℕ) → len ≡ prefix_len is_name_byte text → leads_to_letter (take len text) ≡ false → BeginsNoneBy word_piece text
word_none text len run leads = record { none = λ m some w. word_form (take m text) false (none m w) }
  where
    none : (m : ℕ) → m ≤ length text → is_word (take m text) ≡ false
    none m w =
        ⊎_elim
        (λ long. word_long text m long w)
        (λ short. word_short text m short (subst (λ (n : ℕ). leads_to_letter (take n text) ≡ false) run leads))
        (cases_lt (prefix_len is_name_byte text) m)

-- ---- symbols

symbol_form : (bytes : List ℕ) (s : Option Symbol) → symbol_of bytes ≡ s → symbol_piece bytes ≡ option_map (λ x. pieces.Token (kinds.Symbol x)) s
symbol_form bytes s h = ap (option_map (λ x. pieces.Token (kinds.Symbol x))) h

-- no symbol has three bytes
symbol_of-long : (a b c : ℕ) (bytes : List ℕ) → symbol_of (a ∷ b ∷ c ∷ bytes) ≡ None
symbol_of-long a b c bytes = simp and_false

symbol_long : (text : List ℕ) (m : ℕ) → 2 < m → m ≤ length text → symbol_of (take m text) ≡ None
symbol_long text zero long w = absurd (omega arith)
symbol_long text (suc zero) long w = absurd (omega arith)
symbol_long text (suc (suc zero)) long w = absurd (omega arith)
symbol_long [] (suc (suc (suc m))) long w = absurd (omega arith)
symbol_long (a ∷ []) (suc (suc (suc m))) long w = absurd (omega arith)
symbol_long (a ∷ b ∷ []) (suc (suc (suc m))) long w = absurd (omega arith)
symbol_long (a ∷ b ∷ c ∷ bytes) (suc (suc (suc m))) long w = symbol_of-long a b c (take m bytes)

symbol_pair : (text : List ℕ) (m : ℕ) → symbol_of_two (get_or text 0 0) (slice_get text 1) ≡ None → 1 < m → m ≤ length text → symbol_of (take m text) ≡ None
symbol_pair text zero alone long w = absurd (omega arith)
symbol_pair text (suc zero) alone long w = absurd (omega arith)
symbol_pair [] (suc (suc zero)) alone long w = absurd (omega arith)
symbol_pair (a ∷ []) (suc (suc zero)) alone long w = absurd (omega arith)
symbol_pair (a ∷ b ∷ bytes) (suc (suc zero)) alone long w = alone
symbol_pair text (suc (suc (suc m))) alone long w = symbol_long text (suc (suc (suc m))) (omega arith) w

pub two_found : (text : List ℕ) (s : Symbol) → 0 < length text → symbol_of_two (get_or text 0 0) (slice_get text 1) ≡ Some s → IsLongestBy symbol_piece text 2 (pieces.Token (kinds.Symbol s))
two_found [] s some h = absurd (omega arith)
two_found (a ∷ []) s some h = absurd (cc)
two_found (a ∷ b ∷ bytes) s some h = record {
  some = omega arith;
  within = omega arith;
  form = symbol_form (a ∷ b ∷ []) (Some s) h;
  longest = λ m long w. symbol_form (take m (a ∷ b ∷ bytes)) None (symbol_long (a ∷ b ∷ bytes) m long w);
}

pub one_found : (text : List ℕ) (s : Symbol) → 0 < length text → symbol_of_two (get_or text 0 0) (slice_get text 1) ≡ None → symbol_of (get_or text 0 0 ∷ []) ≡ Some s → IsLongestBy symbol_piece text 1 (pieces.Token (kinds.Symbol s))
one_found [] s some alone h = absurd (omega arith)
one_found (a ∷ bytes) s some alone h = record {
  some = omega arith;
  within = omega arith;
  form = symbol_form (a ∷ []) (Some s) h;
  longest = λ m long w. symbol_form (take m (a ∷ bytes)) None (symbol_pair (a ∷ bytes) m alone long w);
}

pub symbol_none : (text : List ℕ) → 0 < length text → symbol_of_two (get_or text 0 0) (slice_get text 1) ≡ None → symbol_of (get_or text 0 0 ∷ []) ≡ None → BeginsNoneBy symbol_piece text
symbol_none [] some alone h = absurd (omega arith)
symbol_none (a ∷ bytes) some alone h = record { none = λ m some' w. symbol_form (take m (a ∷ bytes)) None (none m some' w) }
  where
    none : (m : ℕ) → 0 < m → m ≤ suc (length bytes) → symbol_of (take m (a ∷ bytes)) ≡ None
    none zero some' w = absurd (omega arith)
    none (suc zero) some' w = h
    none (suc (suc m)) some' w = symbol_pair (a ∷ bytes) (suc (suc m)) alone (omega arith) w

-- ---- separators and comments

separators_front : (text : List ℕ) (m : ℕ) → 0 < m → m ≤ prefix_len is_separator text → separator_piece (take m text) ≡ Some pieces.Gap
separators_front text zero some h = absurd (omega arith)
separators_front [] (suc m) some h = absurd (omega arith)
separators_front (b ∷ text) (suc m) some h = ap (λ v. cond v (Some pieces.Gap) None) (all_front is_separator (b ∷ text) (suc m) h)

separators_long : (text : List ℕ) (m : ℕ) → prefix_len is_separator text < m → m ≤ length text → separator_piece (take m text) ≡ None
separators_long text zero h w = absurd (omega arith)
separators_long [] (suc m) h w = absurd (omega arith)
separators_long (b ∷ text) (suc m) h w = ap (λ v. cond v (Some pieces.Gap) None) (not_all_front is_separator (b ∷ text) (suc m) h w)

pub separators_found : (text : List ℕ) (len : ℕ) → len ≡ prefix_len is_separator text → 0 < len → IsLongestBy separator_piece text len pieces.Gap
separators_found text len run some = record {
  some = some;
  within = omega (arith, prefix_len-le-length is_separator text);
  form = separators_front text len some (omega arith);
  longest = λ m long w. separators_long text m (omega arith) w;
}

pub separators_none : (text : List ℕ) → prefix_len is_separator text ≡ 0 → BeginsNoneBy separator_piece text
separators_none text none = record { none = λ m some w. separators_long text m (omega arith) w }

comment_long : (line : List ℕ) (m : ℕ) → suc (prefix_len is_within_line line) < m → m ≤ suc (length line) → comment_piece (take m (37 ∷ line)) ≡ None
comment_long line zero h w = absurd (omega arith)
comment_long line (suc m) h w = ap (λ v. cond v (Some pieces.Gap) None) (not_all_front is_within_line line m (omega arith) (omega arith))

pub comment_found : (text : List ℕ) (len : ℕ) → 0 < length text → get_or text 0 0 ≡ 37 → len ≡ prefix_len is_within_line (drop 1 text) → IsLongestBy comment_piece text (len + 1) pieces.Gap
comment_found [] len more percent run = absurd (omega arith)
comment_found (b ∷ line) len more percent run =
    let one : suc len ≡ len + 1 = omega arith in
    let here : IsLongestBy comment_piece (37 ∷ line) (suc len) pieces.Gap = record {
      some = omega arith;
      within = omega (arith, prefix_len-le-length is_within_line line);
      form = ap (λ v. cond v (Some pieces.Gap) None) (all_front is_within_line line len (omega arith));
      longest = λ m long w. comment_long line m (omega arith) w;
    } in
    subst (λ (k : ℕ). IsLongestBy comment_piece (b ∷ line) k pieces.Gap) one (subst (λ (x : ℕ). IsLongestBy comment_piece (x ∷ line) (suc len) pieces.Gap) (sym percent) here)

pub comment_none : (text : List ℕ) → (0 < length text → eqb (get_or text 0 0) 37 ≡ false) → BeginsNoneBy comment_piece text
comment_none text other = record { none = none text other }
  where
    none : (text : List ℕ) → (0 < length text → eqb (get_or text 0 0) 37 ≡ false) → (m : ℕ) → 0 < m → m ≤ length text → comment_piece (take m text) ≡ None
    none text other zero some w = absurd (omega arith)
    none [] other (suc m) some w = refl
    none (b ∷ text) other (suc m) some w = ap (λ v. cond (v && list_all is_within_line (take m text)) (Some pieces.Gap) None) (other (omega arith))
