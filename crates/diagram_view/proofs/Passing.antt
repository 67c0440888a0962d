-- Walks down a diagram, from the first bit to the last: of one word, and of the values that every word has.
use Rattle.std.proofs.Common.{◌≡◌, ◌≢◌, ℕ, ◌+◌, ◌<◌, ◌≤◌, Bool, true, false, not, zero, suc, List, [], ◌∷◌, ◌++◌, length, take, drop, get_or, Some, None, ◌↔◌, refl, sym, ◌∙◌, ap, subst, inl, inr, arith, length-append}
use Rattle.std.specs.List.{slice_get}
use Rattle.std.proofs.lemmas.List.{take-append-drop, drop_more, drop_all, length_push, take_more, take_all, append-nil}
use Rattle.std.proofs.lemmas.Bool.{cases_Bool, false≢true}
use Rattle.diagram_arena.specs.declared.nodes.Ref.{Ref}
use Rattle.diagram_arena.specs.declared.nodes.Ref.TheVariants.{Zero, One}
use Rattle.diagram_arena.specs.Table.{Table, has, IsLive}
use Rattle.diagram_view.specs.Words.{word_over, IsWord, SomeHas, IsOpen, IsSettled, IsFirstOpen, HasNoWord, IsOnlyWord, words_over}
use Rattle.diagram_view.proofs.Over.{list_words}
use Rattle.diagram_view.specs.Steps.{Laws, side, IsForced}
use Rattle.diagram_view.proofs.Over.{after, IsOver}
use Rattle.diagram_view.proofs.Stepping.{over_side, over_after, has-side, has-after, after-push, over_nothing}
use Rattle.diagram_view.proofs.Tell.{some_word}

-- ---- lists

pub get-at : {X : Type 0} → (p q : List X) (x : X) → slice_get (p ++ x ∷ q) (length p) ≡ Some x
get-at [] q x = refl
get-at (y ∷ p) q x = get-at p q x

pub get-take : {X : Type 0} → (k j : ℕ) (xs : List X) → j < k → slice_get (take k xs) j ≡ slice_get xs j
get-take zero j xs lt = absurd (omega arith)
get-take (suc k) j [] lt = refl
get-take (suc k) zero (x ∷ xs) lt = refl
get-take (suc k) (suc j) (x ∷ xs) lt = get-take k j xs (omega arith)

pub get-within : {X : Type 0} → (xs : List X) (j : ℕ) → j < length xs → (x : X) × (slice_get xs j ≡ Some x)
get-within [] j lt = absurd (omega arith)
get-within (x ∷ xs) zero lt = (x, refl)
get-within (x ∷ xs) (suc j) lt = get-within xs j (omega arith)

pub get-inside : {X : Type 0} → (xs : List X) (j : ℕ) (x : X) → slice_get xs j ≡ Some x → j < length xs
get-inside [] j x e = let no : None ≡ Some x = e in absurd (cc)
get-inside (y ∷ xs) zero x e = omega arith
get-inside (y ∷ xs) (suc j) x e = let below = get-inside xs j x e in omega (arith, below)

pub this_value : (v x : Bool) → (x ≡ not v → ⊥) → x ≡ v
this_value true true ne = refl
this_value true false ne = absurd (ne refl)
this_value false true ne = absurd (ne refl)
this_value false false ne = refl

pub other_value : (v x : Bool) → (x ≡ v → ⊥) → x ≡ not v
other_value true true ne = absurd (ne refl)
other_value true false ne = refl
other_value false true ne = refl
other_value false false ne = absurd (ne refl)

-- a list from its front, the item behind it and the rest
pub split_at : (xs : List Bool) (k : ℕ) → k < length xs → xs ≡ take k xs ++ get_or xs k false ∷ drop (k + 1) xs
split_at xs k lt = sym (take-append-drop k xs) ∙ ap (λ ys. take k xs ++ ys) (drop_more xs k false lt)

pub drop_length : {X : Type 0} → (xs : List X) (k : ℕ) (y : X) (ys : List X) → drop k xs ≡ y ∷ ys → length xs ≡ k + suc (length ys)
drop_length [] zero y ys e = let no : [] ≡ y ∷ ys = e in absurd (cc)
drop_length [] (suc k) y ys e = let no : [] ≡ y ∷ ys = e in absurd (cc)
drop_length (x ∷ xs) zero y ys e = let l : suc (length xs) ≡ suc (length ys) = ap length e in omega (arith, l)
drop_length (x ∷ xs) (suc k) y ys e = let l = drop_length xs k y ys e in omega (arith, l)

-- ---- the words that go on behind a prefix

pub words-turn : (t : Table) → Laws t → (bits : List ℕ) (f : Ref) (p : List Bool) (b : ℕ) (bs : List ℕ) → IsOver t f bits → drop (length p) bits ≡ b ∷ bs
    → (x : Bool) (q : List Bool) → list_words t f bits (p ++ x ∷ q) ≡ list_words t (side t (after t f bits p) b x) bs q
words-turn t ok bits f p b bs over at x q =
    let far = drop_length bits (length p) b bs at in
    has-after t ok bits f p (x ∷ q) over (omega (arith, far))
    ∙ ap (λ cs. has t (after t f bits p) (word_over cs (x ∷ q))) at
    ∙ has-side t ok (after t f bits p) b bs x q (subst (IsOver t (after t f bits p)) at (over_after t ok bits f p over))

-- a side that is not Zero has a word behind it
pub some-turn : (t : Table) → Laws t → (bits : List ℕ) (f : Ref) (p : List Bool) (b : ℕ) (bs : List ℕ) → IsOver t f bits → drop (length p) bits ≡ b ∷ bs
    → (x : Bool) → side t (after t f bits p) b x ≢ Zero → SomeHas (words_over t f bits) (length p) x
some-turn t ok bits f p b bs over at x ne =
    let over' = over_side t ok (after t f bits p) b bs x (subst (IsOver t (after t f bits p)) at (over_after t ok bits f p over)) in
    let w = some_word t ok bs (side t (after t f bits p) b x) over' ne in
    let far = drop_length bits (length p) b bs at in
    let long : length w.0 ≡ length bs = w.1 in
    let sum = length-append p (x ∷ w.0) in record {
      word = p ++ x ∷ w.0;
      is = record { long = omega (arith, far, long, sum); inside = words-turn t ok bits f p b bs over at x w.0 ∙ w.2 };
      at = get-at p w.0 x;
    }

-- a side that is Zero has none
pub no-turn : (t : Table) → Laws t → (bits : List ℕ) (f : Ref) (p : List Bool) (b : ℕ) (bs : List ℕ) → IsOver t f bits → drop (length p) bits ≡ b ∷ bs
    → (x : Bool) → side t (after t f bits p) b x ≡ Zero → (q : List Bool) → list_words t f bits (p ++ x ∷ q) ≡ false
no-turn t ok bits f p b bs over at x e q =
    words-turn t ok bits f p b bs over at x q ∙ ap (λ s. list_words t s bs q) e ∙ ok.zero (word_over bs q)

-- ---- one word

pub record IsReadTo (t : Table) (f : Ref) (bits : List ℕ) (word : List Bool) (i : ℕ) (at : Ref) : Type 0 where
  pub over : IsOver t at (drop i bits)
  pub same : list_words t at (drop i bits) (drop i word) ≡ list_words t f bits word

pub read_start : (t : Table) (f : Ref) (bits : List ℕ) (word : List Bool) → IsOver t f bits → IsReadTo t f bits word 0 f
read_start t f bits word over = record { over = over; same = refl }

pub read_more : (t : Table) → Laws t → (f : Ref) (bits : List ℕ) (word : List Bool) (i : ℕ) (at : Ref) (b : ℕ) (v : Bool) → i < length bits → length word ≡ length bits
    → b ≡ get_or bits i 0 → v ≡ get_or word i false → IsReadTo t f bits word i at → IsReadTo t f bits word (i + 1) (side t at b v)
read_more t ok f bits word i at b v lt long here value read =
    let bs : drop i bits ≡ b ∷ drop (i + 1) bits = drop_more bits i 0 lt ∙ ap (λ c. c ∷ drop (i + 1) bits) (sym here) in
    let vs : drop i word ≡ v ∷ drop (i + 1) word = drop_more word i false (omega arith) ∙ ap (λ c. c ∷ drop (i + 1) word) (sym value) in
    let over = subst (IsOver t at) bs read.over in record {
      over = over_side t ok at b (drop (i + 1) bits) v over;
      same = sym (has-side t ok at b (drop (i + 1) bits) v (drop (i + 1) word) over)
          ∙ sym (ap (λ cs. list_words t at cs (v ∷ drop (i + 1) word)) bs)
          ∙ sym (ap (λ cs. list_words t at (drop i bits) cs) vs)
          ∙ read.same;
    }

pub read_end : (t : Table) → Laws t → (f : Ref) (bits : List ℕ) (word : List Bool) (i : ℕ) (at : Ref) (answer : Bool) → length bits ≤ i
    → ((answer ≡ true) ↔ (at ≡ One)) → IsReadTo t f bits word i at → answer ≡ list_words t f bits word
read_end t ok f bits word i at answer all is read =
    let none = drop_all i bits all in
    elim (over_nothing t at (subst (IsOver t at) none read.over)) [
      | inl zero_ ↦
          let no : list_words t at (drop i bits) (drop i word) ≡ false = ap (λ r. list_words t r (drop i bits) (drop i word)) zero_ ∙ ok.zero _ in
          elim (cases_Bool answer) [
            | inl on ↦ let other : Zero ≡ One = sym zero_ ∙ is.0 on in absurd (cc)
            | inr off ↦ off ∙ sym no ∙ read.same
          ]
      | inr one_ ↦
          let yes_ : list_words t at (drop i bits) (drop i word) ≡ true = ap (λ r. list_words t r (drop i bits) (drop i word)) one_ ∙ ok.one _ in
          is.1 one_ ∙ sym yes_ ∙ read.same
    ]

-- ---- the values that every word has

-- the first values of every word of f are p, and at is what is left
pub record IsForcedTo (t : Table) (f : Ref) (bits : List ℕ) (p : List Bool) (at : Ref) : Type 0 where
  pub is : at ≡ after t f bits p
  pub only : (vs : List Bool) → IsWord (words_over t f bits) vs → take (length p) vs ≡ p

pub after-nil : (t : Table) (bs : List ℕ) (r : Ref) → r ≡ after t r bs []
after-nil t [] r = refl
after-nil t (b ∷ bs) r = refl

pub forced_start : (t : Table) (f : Ref) (bits : List ℕ) → IsForcedTo t f bits [] f
forced_start t f bits = record { is = after-nil t bits f; only = λ vs is. refl }

pub rest_at : (bits : List ℕ) (k b : ℕ) → k < length bits → b ≡ get_or bits k 0 → drop k bits ≡ b ∷ drop (k + 1) bits
rest_at bits k b lt here = drop_more bits k 0 lt ∙ ap (λ c. c ∷ drop (k + 1) bits) (sym here)

pub forced_live : (t : Table) → Laws t → (f : Ref) (bits : List ℕ) (p : List Bool) (at : Ref) → IsOver t f bits → IsForcedTo t f bits p at → IsLive t at
forced_live t ok f bits p at over so = subst (IsLive t) (sym so.is) (over_after t ok bits f p over).live

-- the value of a word behind the forced ones
turn_value : (t : Table) → Laws t → (f : Ref) (bits : List ℕ) (p : List Bool) (at : Ref) (b : ℕ) (v : Bool) → IsOver t f bits → IsForcedTo t f bits p at → length p < length bits
    → b ≡ get_or bits (length p) 0 → side t at b (not v) ≡ Zero → (vs : List Bool) → IsWord (words_over t f bits) vs → get_or vs (length p) false ≡ v
turn_value t ok f bits p at b v over so lt here zero_ vs is =
    let long = is.long in
    let parts : vs ≡ p ++ get_or vs (length p) false ∷ drop (length p + 1) vs =
    split_at vs (length p) (omega (arith, long, lt)) ∙ ap (λ q. q ++ get_or vs (length p) false ∷ drop (length p + 1) vs) (so.only vs is) in
    let gone : side t (after t f bits p) b (not v) ≡ Zero = sym (ap (λ r. side t r b (not v)) so.is) ∙ zero_ in
    this_value v (get_or vs (length p) false) (λ e.
    let no : list_words t f bits vs ≡ false =
    ap (list_words t f bits) (parts ∙ ap (λ x. p ++ x ∷ drop (length p + 1) vs) e)
    ∙ no-turn t ok bits f p b (drop (length p + 1) bits) over (rest_at bits (length p) b lt here) (not v) gone (drop (length p + 1) vs) in
    false≢true (sym no ∙ is.inside))

pub forced_more : (t : Table) → Laws t → (f : Ref) (bits : List ℕ) (p : List Bool) (at : Ref) (b : ℕ) (v : Bool) (s : Ref) → IsOver t f bits → IsForcedTo t f bits p at
    → length p < length bits → b ≡ get_or bits (length p) 0 → IsForced t at b (Some (v, s)) → IsForcedTo t f bits (p ++ v ∷ []) s
forced_more t ok f bits p at b v s over so lt here forced = record {
  is = forced.0 ∙ ap (λ r. side t r b v) so.is ∙ sym (after-push t bits f p b (drop (length p + 1) bits) v (rest_at bits (length p) b lt here));
  only = λ vs is.
      let long = is.long in
      let value = turn_value t ok f bits p at b v over so lt here forced.1 vs is in
      ap (λ k. take k vs) (length_push p v)
      ∙ take_more vs (length p) false (omega (arith, long, lt))
      ∙ ap (λ q. q ++ get_or vs (length p) false ∷ []) (so.only vs is)
      ∙ ap (λ x. p ++ x ∷ []) value;
}

-- what every word has at the positions that were passed
pub settled : (t : Table) (f : Ref) (bits : List ℕ) (p : List Bool) (at : Ref) → IsForcedTo t f bits p at → (j : ℕ) → j < length p → IsSettled (words_over t f bits) j
settled t f bits p at so j lt =
    let x = get-within p j lt in (x.0, λ vs is. sym (get-take (length p) j vs lt) ∙ ap (λ q. slice_get q j) (so.only vs is) ∙ x.1)

pub open_here : (t : Table) → Laws t → (f : Ref) (bits : List ℕ) (p : List Bool) (at : Ref) (b : ℕ) → IsOver t f bits → IsForcedTo t f bits p at
    → length p < length bits → b ≡ get_or bits (length p) 0 → IsForced t at b None → IsOpen (words_over t f bits) (length p)
open_here t ok f bits p at b over so lt here forced v =
    some-turn t ok bits f p b (drop (length p + 1) bits) over (rest_at bits (length p) b lt here) v (λ e. forced v (ap (λ r. side t r b v) so.is ∙ e))

pub first_open_here : (t : Table) → Laws t → (f : Ref) (bits : List ℕ) (p : List Bool) (at : Ref) (b : ℕ) → IsOver t f bits → IsForcedTo t f bits p at
    → length p < length bits → b ≡ get_or bits (length p) 0 → IsForced t at b None → IsFirstOpen (words_over t f bits) (length p)
first_open_here t ok f bits p at b over so lt here forced = record {
  here = open_here t ok f bits p at b over so lt here forced;
  before = λ j below. settled t f bits p at so j below;
}

-- all values are forced: f has no word where Zero is left, else the forced values are its one word
pub words_at_end : (t : Table) → Laws t → (f : Ref) (bits : List ℕ) (p : List Bool) (at : Ref) → IsOver t f bits → at ≡ after t f bits p → length p ≡ length bits
    → list_words t f bits p ≡ has t at (word_over [] [])
words_at_end t ok f bits p at over is long =
    ap (list_words t f bits) (sym (append-nil p))
    ∙ has-after t ok bits f p [] over (omega (arith, long))
    ∙ ap (λ r. has t r (word_over (drop (length p) bits) [])) (sym is)
    ∙ ap (λ cs. has t at (word_over cs [])) (drop_all (length p) bits (omega (arith, long)))

is_front : (t : Table) (f : Ref) (bits : List ℕ) (p : List Bool) (at : Ref) → IsForcedTo t f bits p at → length p ≡ length bits → (vs : List Bool) → IsWord (words_over t f bits) vs → vs ≡ p
is_front t f bits p at so long vs is = let l = is.long in sym (take_all (length p) vs (omega (arith, l, long))) ∙ so.only vs is

pub no_word : (t : Table) → Laws t → (f : Ref) (bits : List ℕ) (p : List Bool) (at : Ref) → IsOver t f bits → IsForcedTo t f bits p at → length p ≡ length bits → at ≡ Zero
    → HasNoWord (words_over t f bits)
no_word t ok f bits p at over so long zero_ vs l =
    elim (cases_Bool (list_words t f bits vs)) [
      | inl on ↦
          let e : vs ≡ p = is_front t f bits p at so long vs (record { long = l; inside = on }) in
          let no : list_words t f bits vs ≡ false = ap (list_words t f bits) e ∙ words_at_end t ok f bits p at over so.is long ∙ ap (λ r. has t r (word_over [] [])) zero_ ∙ ok.zero _ in no
      | inr off ↦ off
    ]

pub only_word : (t : Table) → Laws t → (f : Ref) (bits : List ℕ) (p : List Bool) (at : Ref) → IsOver t f bits → IsForcedTo t f bits p at → length p ≡ length bits → at ≢ Zero
    → IsOnlyWord (words_over t f bits) p
only_word t ok f bits p at over so long ne =
    let over' : IsOver t at [] = subst (λ cs. IsOver t at cs) (drop_all (length p) bits (omega (arith, long))) (subst (λ r. IsOver t r (drop (length p) bits)) (sym so.is) (over_after t ok bits f p over)) in
    let one_ : at ≡ One = elim (over_nothing t at over') [ inl z ↦ absurd (ne z) | inr o ↦ o ] in record {
      is = record { long = long; inside = words_at_end t ok f bits p at over so.is long ∙ ap (λ r. has t r (word_over [] [])) one_ ∙ ok.one _ };
      only = is_front t f bits p at so long;
    }
