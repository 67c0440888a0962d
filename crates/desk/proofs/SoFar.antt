-- What `read_text` has read so far.
use Rattle.std.proofs.Common.{◌≡◌, ℕ, ◌+◌, ◌≤◌, List, [], ◌++◌, length, take, drop, refl, ap, sym, ◌∙◌, subst, arith, length-append, length-drop, length-take, take-add, take_all}
use Rattle.std.specs.Prelude.{Option, None, Some, IfSome, Result, Ok, Err, OnErr}
use Rattle.std.specs.Option.{option_map}
use Rattle.desk.specs.declared.outside.Slot.{Slot}
use Rattle.desk.specs.State.{State, reading, taken}
use Rattle.desk.specs.Calls.{Reads}
use Rattle.desk.specs.Texts.{TakesAll, Takes, TakesUpTo}
use Rattle.desk.proofs.Moves.{reading-taken, taken-taken, taken-none}

-- The text is the front of what was left.
abbrev pub IsFront : Option (List ℕ) → List ℕ → Type 0
IsFront left text = IfSome left (λ xs. (length text ≤ length xs) × (text ≡ take (length text) xs))

pub record IsSoFar (slot : Slot) (old now : State) (text : List ℕ) : Type 0 where
  pub state : now ≡ taken slot (length text) old
  pub front : IsFront (reading slot old).left text

length_front : (n : ℕ) (xs : List ℕ) → n ≤ length xs → length (take n xs) ≡ n
length_front n xs le = omega (arith, length-take n xs)

front_more : (left : Option (List ℕ)) (text buffer : List ℕ) (n : ℕ) → n ≤ length buffer → IsFront left text → IfSome (option_map (drop (length text)) left) (λ xs. (n ≤ length xs) × (take n buffer ≡ take n xs)) → IsFront left (text ++ take n buffer)
front_more None text buffer n le front bytes = tt
front_more (Some xs) text buffer n le front bytes =
    let longer : length (text ++ take n buffer) ≡ length text + n = omega (arith, length-append text (take n buffer), length_front n buffer le) in
    let fits : length (text ++ take n buffer) ≤ length xs = omega (arith, bytes.0, longer, length-drop (length text) xs, front.0) in
    (fits, ap (λ t. t ++ take n buffer) front.1 ∙ ap (λ t. take (length text) xs ++ t) bytes.1 ∙ sym (take-add (length text) n xs) ∙ ap (λ m. take m xs) (sym longer))

front_all : (left : Option (List ℕ)) (text : List ℕ) → IsFront left text → IfSome (option_map (drop (length text)) left) (λ xs. xs ≡ []) → IfSome left (λ xs. text ≡ xs)
front_all None text front none = tt
front_all (Some xs) text front none =
    front.1 ∙ take_all (length text) xs (omega (arith, length-drop (length text) xs, ap length none))

-- what a call says of the slot now, said of the slot as it was
pub begun_still : (slot : Slot) (old now : State) (text : List ℕ) → IsSoFar slot old now text → (reading slot now).begun ≡ (reading slot old).begun
begun_still slot old now text so_far =
    ap (λ s. (reading slot s).begun) so_far.state ∙ ap (λ r. r.begun) (reading-taken slot (length text) old)

left_now : (slot : Slot) (old now : State) (text : List ℕ) → IsSoFar slot old now text → (reading slot now).left ≡ option_map (drop (length text)) (reading slot old).left
left_now slot old now text so_far =
    ap (λ s. (reading slot s).left) so_far.state ∙ ap (λ r. r.left) (reading-taken slot (length text) old)

front_none : (left : Option (List ℕ)) → IsFront left []
front_none None = tt
front_none (Some xs) = (omega arith, refl)

front_there : (left : Option (List ℕ)) (text : List ℕ) → IsFront left text → IfSome left (λ xs. length text ≤ length xs)
front_there None text front = tt
front_there (Some xs) text front = front.0

there_more : (left : Option (List ℕ)) (text : List ℕ) (n : ℕ) → IsFront left text → IfSome (option_map (drop (length text)) left) (λ xs. n ≤ length xs) → IfSome left (λ xs. length text + n ≤ length xs)
there_more None text n front there = tt
there_more (Some xs) text n front there = omega (arith, there, front.0, length-drop (length text) xs)

front_length : (left : Option (List ℕ)) (buffer : List ℕ) (n : ℕ) → IfSome left (λ xs. (n ≤ length xs) × (take n buffer ≡ take n xs)) → IfSome left (λ xs. n ≤ length xs)
front_length None buffer n bytes = tt
front_length (Some xs) buffer n bytes = bytes.0

none_there : (left : Option (List ℕ)) → IfSome left (λ xs. 0 ≤ length xs)
none_there None = tt
none_there (Some xs) = omega arith

pub so_far_none : (slot : Slot) (old : State) → IsSoFar slot old old []
so_far_none slot old =
    record { state = sym (taken-none slot old); front = front_none (reading slot old).left }

-- one more call
pub so_far_more : (slot : Slot) (old now new : State) (text buffer : List ℕ) (n : ℕ) → IsSoFar slot old now text → Reads slot now new buffer n → IsSoFar slot old new (text ++ take n buffer)
so_far_more slot old now new text buffer n so_far reads =
    let left = left_now slot old now text so_far in
    let bytes = subst (λ l. IfSome l (λ xs. (n ≤ length xs) × (take n buffer ≡ take n xs))) left reads.bytes in
    let longer : length (text ++ take n buffer) ≡ length text + n = omega (arith, length-append text (take n buffer), length_front n buffer reads.within) in
    record {
      state = reads.state ∙ ap (taken slot n) so_far.state ∙ taken-taken slot (length text) n old ∙ ap (λ m. taken slot m old) (sym longer);
      front = front_more (reading slot old).left text buffer n reads.within so_far.front bytes;
    }

-- the end of the file
pub so_far_all : (slot : Slot) (limit : ℕ) (old now new : State) (text buffer : List ℕ) → IsSoFar slot old now text → Reads slot now new buffer 0 → length text ≤ limit → TakesAll slot limit old new text
so_far_all slot limit old now new text buffer so_far reads le =
    let left = left_now slot old now text so_far in
    record {
      all = front_all (reading slot old).left text so_far.front (subst (λ l. IfSome l (λ xs. xs ≡ [])) left (reads.end refl));
      within = le;
      state = reads.state ∙ taken-none slot now ∙ so_far.state;
    }

pub so_far_taken : (slot : Slot) (old now : State) (text : List ℕ) → IsSoFar slot old now text → Takes slot (length text) old now
so_far_taken slot old now text so_far = record { there = front_there (reading slot old).left text so_far.front; state = so_far.state }

-- Where the next call gives up, at most as many bytes more are taken as it asked for.
pub so_far_up_to : (slot : Slot) (old now new : State) (text : List ℕ) (room most : ℕ) → IsSoFar slot old now text → TakesUpTo slot room now new → length text + room ≤ most → TakesUpTo slot most old new
so_far_up_to slot old now new text room most so_far takes le =
    let left = left_now slot old now text so_far in
    let there = subst (λ l. IfSome l (λ xs. takes.0 ≤ length xs)) left takes.2.there in
    let state = takes.2.state ∙ ap (taken slot takes.0) so_far.state ∙ taken-taken slot (length text) takes.0 old in
    (length text + takes.0, omega (arith, takes.1), record { there = there_more (reading slot old).left text takes.0 so_far.front there; state = state })

-- one call of the desk
pub reads_takes : (slot : Slot) (old new : State) (buffer : List ℕ) (n most : ℕ) → Reads slot old new buffer n → n ≤ most → TakesUpTo slot most old new
reads_takes slot old new buffer n most reads le =
    (n, le, record { there = front_length (reading slot old).left buffer n reads.bytes; state = reads.state })

pub takes_none : (slot : Slot) (most : ℕ) (old new : State) → new ≡ old → TakesUpTo slot most old new
takes_none slot most old new same =
    (0, omega arith, record { there = none_there (reading slot old).left; state = same ∙ sym (taken-none slot old) })

pub on_err : {T E P : Type 0} (r : Result T E) → P → OnErr r P
on_err (Ok x) p = tt
on_err (Err e) p = p
