-- Newlines in what is left of a text: where the first of them stands, and what a call of `Lines` leaves.
use Rattle.std.proofs.Common.{◌≡◌, ◌≢◌, ℕ, ◌+◌, ◌-◌, ◌<◌, ◌≤◌, Bool, true, false, List, [], ◌∷◌, ◌++◌, length, take, drop, refl, ap, sym, ◌∙◌, subst, arith, append_assoc, append-nil, length-append, length-take, length-drop, ⊎_elim, cond}
use Rattle.std.specs.Prelude.{Option, None, Some, IfSome, IfNone, IsTrue, Ok, get_or}
use Rattle.std.specs.Option.{option_map}
use Rattle.std.specs.List.{position_or_len, before_first, after_first}
use Rattle.std.proofs.lemmas.List.{take_rest, get_or-drop, get_or-take, take-append-drop, take_all}
use Rattle.std.proofs.lemmas.List.Sums.{position_or_len_is, fails_before_first, passes_at_first, split_at_first, prefix_len-le-length}
use Rattle.std.proofs.lemmas.List.Folds.{prefix_len-append}
use Rattle.std.proofs.lemmas.List.Elements.{All-from_get_or}
use Rattle.std.proofs.lemmas.Bool.{false_from_ne_true, eqb-true, eq-eqb, true≢false, cases_lt}
use Rattle.memchr.specs.Find.{IsFirstByte, is_byte}
use Rattle.desk.specs.declared.outside.Slot.{Slot}
use Rattle.desk.specs.State.{State, reading, taken}
use Rattle.desk.specs.Lines.{line_limit, is_newline, IsLine, left_for, GivesLine, Gives, given_count, Passes, EndsAt, ReadsOn, RestEnd}
use Rattle.desk.specs.declared.lines.LineEnd.{LineEnd}
use Rattle.desk.specs.declared.lines.LineEnd.TheVariants as ends
use Rattle.desk.proofs.Moves.{reading-taken, taken-taken, taken-none}

-- the number of bytes before the first newline, or of all
abbrev pub newline_at : List ℕ → ℕ
newline_at xs = position_or_len is_newline xs

pub newline_at-le : (xs : List ℕ) → newline_at xs ≤ length xs
newline_at-le xs = prefix_len-le-length _ xs

-- ---- the search

no_newline_before : (u : List ℕ) (searched n : ℕ) → searched ≤ newline_at u
    → ((k : ℕ) → 0 ≤ k → k < n → (is_newline (get_or (drop searched u) k 0) ≡ true) → ⊥)
    → (k : ℕ) → k < searched + n → is_newline (get_or u k 0) ≡ false
no_newline_before u searched n passed none k lt = ⊎_elim
    (λ before. fails_before_first is_newline u k 0 (omega (arith, before, passed)))
    (λ behind. false_from_ne_true _ (λ yes. none (k - searched) (omega arith) (omega (arith, behind, lt))
    (ap is_newline (get_or-drop searched u (k - searched) 0 ∙ ap (λ i. get_or u i 0) (omega (arith, behind))) ∙ yes)))
    (cases_lt k searched)

pub found_behind : (u : List ℕ) (searched n : ℕ) → searched ≤ newline_at u → IsFirstByte (is_byte 10) (take (length u - searched) (drop searched u)) (Some n)
    → (searched + n ≡ newline_at u) × (searched + n < length u)
found_behind u searched n passed first =
    let there : IsFirstByte (is_byte 10) (drop searched u) (Some n) = rw (← take_rest u searched) first in
    let lt : searched + n < length u = omega (arith, there.0.high, length-drop searched u) in
    let hit : is_newline (get_or u (searched + n) 0) ≡ true = ap is_newline (sym (get_or-drop searched u n 0)) ∙ there.1 in
    (sym (position_or_len_is is_newline u (searched + n) 0 (omega (arith, lt)) (no_newline_before u searched n passed there.0.before) (λ _. hit)), lt)

pub none_behind : (u : List ℕ) (searched : ℕ) → searched ≤ newline_at u → IsFirstByte (is_byte 10) (take (length u - searched) (drop searched u)) None
    → newline_at u ≡ length u
none_behind u searched passed none =
    let there : IsFirstByte (is_byte 10) (drop searched u) None = rw (← take_rest u searched) none in
    let le : searched ≤ length u = omega (arith, passed, newline_at-le u) in
    let long : length u ≡ searched + length (drop searched u) = omega (arith, length-drop searched u, le) in
    position_or_len_is is_newline u (length u) 0 (omega arith)
    (λ k lt. no_newline_before u searched (length (drop searched u)) passed there k (omega (arith, lt, long)))
    (λ lt. absurd (omega (arith, lt)))

-- more behind a text does not bring its first newline nearer
pub newline_later : (xs ys : List ℕ) → newline_at xs ≤ newline_at (xs ++ ys)
newline_later xs ys = subst (λ n. newline_at xs ≤ n) (sym (prefix_len-append _ xs ys)) (at _ (newline_at xs) (length xs) _ (newline_at-le xs))
  where
    at : (b : Bool) (n l m : ℕ) → n ≤ l → n ≤ cond b (l + m) n
    at true n l m le = omega (arith, le)
    at false n l m le = omega arith

pub when_none : (o : Option ℕ) (P : Type 0) → ((n : ℕ) → o ≡ Some n → ⊥) → IfNone o P → P
when_none None P not p = p
when_none (Some n) P not p = absurd (not n refl)

-- ---- what was read and what is left

left_moved : (left : Option (List ℕ)) (before more : List ℕ) (n : ℕ) → IfSome left (λ xs. more ≡ take n xs)
    → option_map (λ xs. (before ++ more) ++ xs) (option_map (drop n) left) ≡ option_map (λ xs. before ++ xs) left
left_moved None before more n same = refl
left_moved (Some xs) before more n same =
    ap Some (append_assoc before more (drop n xs) ∙ ap (λ ys. before ++ (ys ++ drop n xs)) same ∙ ap (λ ys. before ++ ys) (take-append-drop n xs))

pub left_same : (slot : Slot) (old new : State) (before after : List ℕ) (n : ℕ) → ReadsOn slot old new before after n → left_for slot new after ≡ left_for slot old before
left_same slot old new before after n reads =
    let left : (reading slot new).left ≡ option_map (drop n) (reading slot old).left =
    ap (λ s. (reading slot s).left) reads.state ∙ ap (λ r. r.left) (reading-taken slot n old) in
    ap (λ l. option_map (λ xs. after ++ xs) l) left ∙ ap (λ a. option_map (λ xs. a ++ xs) (option_map (drop n) (reading slot old).left)) reads.came.1
    ∙ left_moved (reading slot old).left before reads.came.0 n reads.came.3

pub searched_more : (slot : Slot) (old new : State) (before after : List ℕ) (n : ℕ) → ReadsOn slot old new before after n → newline_at before ≡ length before → length before ≤ newline_at after
searched_more slot old new before after n reads none =
    omega (arith, none, newline_later before reads.came.0, ap newline_at reads.came.1)

pub length_more : (slot : Slot) (old new : State) (before after : List ℕ) (n : ℕ) → ReadsOn slot old new before after n → length after ≡ length before + n
length_more slot old new before after n reads = omega (arith, ap length reads.came.1, length-append before reads.came.0, reads.came.2)

-- the end of the text
pub ends_here : (slot : Slot) (old new : State) (before after : List ℕ) → ReadsOn slot old new before after 0 → newline_at before ≡ length before → length before ≤ line_limit
    → EndsAt None after (reading slot new).left
ends_here slot old new before after reads none short =
    let same : after ≡ before = reads.came.1 ∙ at reads.came.0 reads.came.2 in
    let P : List ℕ → Type 0 = λ xs. (newline_at xs ≡ length xs) × (length xs ≤ line_limit) in
    let there = subst P (sym same) (none, short) in
    let left : (reading slot new).left ≡ option_map (drop 0) (reading slot old).left =
    ap (λ s. (reading slot s).left) reads.state ∙ ap (λ r. r.left) (reading-taken slot 0 old) in
    (there.0, there.1, subst (λ l. IfSome l (λ xs. xs ≡ [])) (sym left) (still (reading slot old).left (reads.end refl)))
  where
    at : (more : List ℕ) → length more ≡ 0 → before ++ more ≡ before
    at [] e = append-nil before
    at (x ∷ more) e = absurd (omega (arith, e))

    still : (l : Option (List ℕ)) → IfSome l (λ xs. xs ≡ []) → IfSome (option_map (drop 0) l) (λ xs. xs ≡ [])
    still None e = tt
    still (Some xs) e = e

pub passes_more : (slot : Slot) (old now new : State) (first before n : ℕ) {after : ℕ} → Passes slot old now first before → new ≡ taken slot n now → after ≡ before + n → Passes slot old new first after
passes_more slot old now new first before n {after} passes e more = record {
  count = passes.count + n;
  state = e ∙ ap (taken slot n) passes.state ∙ taken-taken slot passes.count n old;
  bytes = omega (arith, passes.bytes, more);
}

pub passes_nothing : (slot : Slot) (old new : State) (n : ℕ) → new ≡ old → Passes slot old new n n
passes_nothing slot old new n e = record { count = 0; state = e ∙ sym (taken-none slot old); bytes = omega arith }

pub passes_still : (slot : Slot) (old now : State) (first n m : ℕ) → Passes slot old now first n → n ≡ m → Passes slot old now first m
passes_still slot old now first n m passes e = record { count = passes.count; state = passes.state; bytes = passes.bytes ∙ e }

pub passes_begun : (slot : Slot) (old new : State) (first after : ℕ) → Passes slot old new first after → IsTrue (reading slot old).begun → IsTrue (reading slot new).begun
passes_begun slot old new first after passes begun =
    let same : (reading slot new).begun ≡ (reading slot old).begun =
    ap (λ s. (reading slot s).begun) passes.state ∙ ap (λ r. r.begun) (reading-taken slot passes.count old) in
    subst (λ b. IsTrue b) (sym same) begun

-- the bytes of a line, of its newline and behind it
pub line_counts : (u line after : List ℕ) (n : ℕ) → n < length u → line ≡ take n u → after ≡ drop (n + 1) u → length u ≡ length line + 1 + length after
line_counts u line after n lt is_front is_rest =
    omega (arith, lt, ap length is_front, ap length is_rest, length-take n u, length-drop (n + 1) u)

pub rest_counts : (end : LineEnd) (u line after : List ℕ) → RestEnd end u → line ≡ u → after ≡ []
    → length u ≡ given_count (Ok end) line + length after
rest_counts ends.Line u line after rest is_all is_none = absurd rest
rest_counts ends.Unended u line after rest is_all is_none = omega (arith, ap length is_all, ap length is_none)
rest_counts ends.End u line after rest is_all is_none = omega (arith, ap length rest, ap length is_none)

-- a line that is too long
pub line_is_long : (slot : Slot) (old now : State) (before u : List ℕ) → left_for slot now u ≡ left_for slot old before → line_limit < newline_at u
    → IfSome (left_for slot old before) (λ xs. line_limit < length (before_first is_newline xs))
line_is_long slot old now before u same long = subst (λ l. IfSome l (λ xs. line_limit < length (before_first is_newline xs))) same (at (reading slot now).left)
  where
    at : (l : Option (List ℕ)) → IfSome (option_map (λ xs. u ++ xs) l) (λ xs. line_limit < length (before_first is_newline xs))
    at None = tt
    at (Some xs) = omega (arith, long, newline_later u xs, length-take (newline_at (u ++ xs)) (u ++ xs), newline_at-le (u ++ xs))

-- ---- what is given

is_line : (u : List ℕ) (n : ℕ) → n ≤ newline_at u → n ≤ line_limit → IsLine (take n u)
is_line u n before short = record {
  one = All-from_get_or (λ b. b ≢ 10) (take n u) 0 (λ i lt e.
      let behind : i < n = omega (arith, lt, length-take n u) in
      true≢false (sym (eq-eqb _ 10 (sym (get_or-take n u i 0 behind) ∙ e)) ∙ fails_before_first is_newline u i 0 (omega (arith, behind, before))));
  short = omega (arith, length-take n u, short);
}

cut_at_newline : (u : List ℕ) (n : ℕ) → n ≡ newline_at u → n < length u → u ≡ take n u ++ 10 ∷ drop (n + 1) u
cut_at_newline u n e lt =
    let there : newline_at u < length u = omega (arith, e, lt) in
    let byte : get_or u (newline_at u) 0 ≡ 10 = eqb-true _ 10 (passes_at_first is_newline u 0 there) in
    subst (λ m. u ≡ take m u ++ 10 ∷ drop (m + 1) u) (sym e)
    (split_at_first is_newline u 0 there ∙ ap (λ b. before_first is_newline u ++ b ∷ after_first is_newline u) byte)

pub gives_line : (slot : Slot) (old now : State) (before u line after : List ℕ) (n : ℕ) → left_for slot now u ≡ left_for slot old before
    → EndsAt (Some n) u (reading slot now).left → line ≡ take n u → after ≡ drop (n + 1) u
    → GivesLine (left_for slot old before) (left_for slot now after) line
gives_line slot old now before u line after n same ends is_front is_rest = record {
  whole = subst IsLine (sym is_front) (is_line u n (omega (arith, ends.0)) ends.2);
  left = sym same ∙ at (reading slot now).left;
}
  where
    at : (l : Option (List ℕ)) → option_map (λ xs. u ++ xs) l ≡ option_map (λ xs. line ++ 10 ∷ xs) (option_map (λ xs. after ++ xs) l)
    at None = refl
    at (Some xs) = ap Some (ap (λ ys. ys ++ xs) (cut_at_newline u n ends.0 ends.1) ∙ append_assoc (take n u) (10 ∷ drop (n + 1) u) xs
        ∙ ap (λ ys. ys ++ 10 ∷ (drop (n + 1) u ++ xs)) (sym is_front) ∙ ap (λ ys. line ++ 10 ∷ (ys ++ xs)) (sym is_rest))

all_given : (u : List ℕ) (l : Option (List ℕ)) → IfSome l (λ xs. xs ≡ []) → IfSome (option_map (λ xs. u ++ xs) l) (λ xs. xs ≡ u)
all_given u None none = tt
all_given u (Some xs) none = ap (λ ys. u ++ ys) none ∙ append-nil u

pub gives_rest : (end : LineEnd) (slot : Slot) (old now : State) (before u line after : List ℕ) → RestEnd end u → left_for slot now u ≡ left_for slot old before
    → EndsAt None u (reading slot now).left → line ≡ u → after ≡ []
    → Gives end (left_for slot old before) (left_for slot now after) line
gives_rest ends.Line slot old now before u line after rest same end is_all is_none = absurd rest
gives_rest ends.Unended slot old now before u line after rest same end is_all is_none = record {
  whole = subst IsLine (take_all (length u) u (omega arith) ∙ sym is_all) (is_line u (length u) (omega (arith, end.0)) end.1);
  some = omega (arith, rest, ap length is_all);
  left = subst (λ l. IfSome l (λ xs. xs ≡ line)) same (subst (λ ys. IfSome (option_map (λ xs. u ++ xs) (reading slot now).left) (λ xs. xs ≡ ys)) (sym is_all) (all_given u (reading slot now).left end.2));
  all = subst (λ ys. IfSome (option_map (λ xs. ys ++ xs) (reading slot now).left) (λ xs. xs ≡ [])) (sym is_none) (all_given [] (reading slot now).left end.2);
}
gives_rest ends.End slot old now before u line after rest same end is_all is_none = record {
  none = subst (λ l. IfSome l (λ xs. xs ≡ [])) same (subst (λ ys. IfSome (option_map (λ xs. u ++ xs) (reading slot now).left) (λ xs. xs ≡ ys)) rest (all_given u (reading slot now).left end.2));
  kept = ap (left_for slot now) (is_none ∙ sym rest) ∙ same;
  nothing = is_all ∙ rest;
}
