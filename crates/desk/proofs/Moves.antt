-- Two steps, one after the other, as one.
use Rattle.std.proofs.Common.{◌≡◌, ℕ, ◌+◌, ◌-◌, List, [], ◌++◌, length, take, drop, refl, ap, sym, ◌∙◌, arith, append_assoc, length-append, take-add, append-nil, length-drop}
use Rattle.std.proofs.lemmas.List.{take_all}
use Rattle.std.proofs.lemmas.List.{drop-drop}
use Rattle.std.specs.Prelude.{Option, None, Some}
use Rattle.std.specs.Option.{option_map}
use Rattle.desk.specs.declared.outside.Slot.{Slot}
use Rattle.desk.specs.declared.outside.Slot.TheVariants as slots
use Rattle.desk.specs.declared.outside.To.{To}
use Rattle.desk.specs.declared.outside.To.TheVariants as to
use Rattle.desk.specs.State.{State, Reading, reading, advanced, taken, written}

appended_twice : (text : Option (List ℕ)) (xs ys : List ℕ) → option_map (λ t. t ++ ys) (option_map (λ t. t ++ xs) text) ≡ option_map (λ t. t ++ (xs ++ ys)) text
appended_twice None xs ys = refl
appended_twice (Some t) xs ys = ap Some (append_assoc t xs ys)

dropped_twice : (left : Option (List ℕ)) (n m : ℕ) → option_map (drop m) (option_map (drop n) left) ≡ option_map (drop (n + m)) left
dropped_twice None n m = refl
dropped_twice (Some t) n m = ap Some (drop-drop m n t)

pub written-written : (w : To) (xs ys : List ℕ) (s : State) → written w ys (written w xs s) ≡ written w (xs ++ ys) s
written-written to.Out xs ys s = ap (λ t. record s { out = t }) (appended_twice s.out xs ys)
written-written to.Log xs ys s =
    let counts : s.log.logged + length xs + length ys ≡ s.log.logged + length (xs ++ ys) = omega (arith, length-append xs ys) in
    λ i. record s { log = record { begun = s.log.begun; logged = counts i; text = appended_twice s.log.text xs ys i } }

-- the next n bytes of the piece, behind those before them
pub written_more : (w : To) (piece : List ℕ) (at n : ℕ) (s : State) → written w (take n (drop at piece)) (written w (take at piece) s) ≡ written w (take (at + n) piece) s
written_more w piece at n s =
    written-written w (take at piece) (take n (drop at piece)) s ∙ ap (λ xs. written w xs s) (sym (take-add at n piece))

pub begun-written : (w : To) (xs : List ℕ) (s : State) → (written w xs s).log.begun ≡ s.log.begun
begun-written to.Out xs s = refl
begun-written to.Log xs s = refl

pub reading-taken : (slot : Slot) (n : ℕ) (s : State) → reading slot (taken slot n s) ≡ advanced n (reading slot s)
reading-taken slots.Model n s = refl
reading-taken slots.Log n s = refl

advanced_twice : (r : Reading) (n m : ℕ) → advanced m (advanced n r) ≡ advanced (n + m) r
advanced_twice r n m =
    let counts : r.given + n + m ≡ r.given + (n + m) = omega arith in
    λ i. record { begun = r.begun; given = counts i; left = dropped_twice r.left n m i }

pub taken-taken : (slot : Slot) (n m : ℕ) (s : State) → taken slot m (taken slot n s) ≡ taken slot (n + m) s
taken-taken slots.Model n m s = ap (λ r. record s { model = r }) (advanced_twice s.model n m)
taken-taken slots.Log n m s = ap (λ r. record s { log_read = r }) (advanced_twice s.log_read n m)

none_dropped : (left : Option (List ℕ)) → option_map (drop 0) left ≡ left
none_dropped None = refl
none_dropped (Some xs) = refl

advanced_none : (r : Reading) → advanced 0 r ≡ r
advanced_none r =
    let counts : r.given + 0 ≡ r.given = omega arith in
    λ i. record { begun = r.begun; given = counts i; left = none_dropped r.left i }

pub taken-none : (slot : Slot) (s : State) → taken slot 0 s ≡ s
taken-none slots.Model s = ap (λ r. record s { model = r }) (advanced_none s.model)
taken-none slots.Log s = ap (λ r. record s { log_read = r }) (advanced_none s.log_read)

none_appended : (text : Option (List ℕ)) → option_map (λ t. t ++ []) text ≡ text
none_appended None = refl
none_appended (Some t) = ap Some (append-nil t)

pub written-none : (w : To) (s : State) → written w [] s ≡ s
written-none to.Out s = ap (λ t. record s { out = t }) (none_appended s.out)
written-none to.Log s =
    let counts : s.log.logged + 0 ≡ s.log.logged = omega arith in
    λ i. record s { log = record { begun = s.log.begun; logged = counts i; text = none_appended s.log.text i } }

-- the rest of a slice, as `&xs[at..]` gives it
pub rest_is : (xs : List ℕ) (at : ℕ) → take (length xs - at) (drop at xs) ≡ drop at xs
rest_is xs at = take_all (length xs - at) (drop at xs) (omega (arith, length-drop at xs))
