-- Words of initial values that a node accepts and that pass a test.
use Rattle.std.proofs.Common.{◌≡◌, ◌↔◌, ℕ, zero, suc, ◌+◌, ◌<◌, ◌==◌, Bool, true, false, not, ◌&&◌, ◌||◌, cond, List, [], ◌∷◌, ◌++◌, map, length, Option, Some, None, refl, sym, ap, ◌∙◌, subst, inl, inr, arith, add-one, IsTrue}
use Rattle.std.specs.Prelude.{◌⊎◌, All, Contains, slice_index_or, min}
use Rattle.std.specs.List.{range_with_len}
use Rattle.std.specs.Option.{option_map_or}
use Rattle.std.proofs.Math.Seq.{get_or-append_seam}
use Rattle.std.proofs.lemmas.List.{append-nil, append_assoc, length-append}
use Rattle.std.proofs.lemmas.List.Elements.{All-contains}
use Rattle.set_meaning.specs.declared.kinds.Kind.{Kind}
use Rattle.set_meaning.specs.declared.kinds.Value.{Value}
use Rattle.set_meaning.specs.Kinds.{InKind}
use Rattle.bit_layout.specs.Words.{IsValueOf, width_of, word_of}
use Rattle.log_rules.specs.declared.nodes.Node.{Node}
use Rattle.log_rules.specs.Tables.{walk, IsTable, next_node}
use Rattle.log_rules.specs.Boxes.{FitsWidth}
use Rattle.sweep_rules.specs.Rules.{Rules, run, accepts}
use Rattle.sweep_states.specs.Sweeps.{SomePasses, SomeEnds, Each}
use Rattle.set_meaning.specs.Problems.{IsKind}
use Rattle.bit_layout.specs.Limits.{IsNarrow}
use Rattle.sweep_values.specs.Domains.{domain_rules, offsets_of, is_free}
use Rattle.sweep_table.specs.Sides.{side_rules, own_bits, own_count, CountFrom}
use Rattle.log_checker.specs.Shapes.{own_places, beyond_rules, other_rules, SomeValue}

-- ---- a sweep from one state

one_of_one : {X : Type 0} (x y : X) → Contains (x ∷ []) y → x ≡ y
one_of_one x y (zero, within, is) = is
one_of_one x y (suc k, within, is) = absurd (let e : suc k < 1 = within in omega arith)

pub record SomeWord (width : ℕ) (first second : List Bool → Bool) : Type 0 where
  pub word : List Bool
  pub long : length word ≡ width
  pub first_accepts : first word ≡ true
  pub second_accepts : second word ≡ true

pub passes_from : {P Q : Type 0} (rules : Rules P) (filter : Rules Q) (count : ℕ)
    → SomePasses (record { rules = rules; from = 0; filter = filter }) count [] (rules.start ∷ []) → SomeWord count (accepts filter) (accepts rules)
passes_from rules filter count h =
    let same : rules.start ≡ h.state = one_of_one rules.start h.state h.among in
    let ends : rules.accept (run rules 0 h.state (h.on.word ++ [])) ≡ true = h.on.ends in
    record {
      word = h.on.word;
      long = h.on.long;
      first_accepts = h.on.passes;
      second_accepts = subst (λ q. rules.accept (run rules 0 q h.on.word) ≡ true) (sym same) (subst (λ w. rules.accept (run rules 0 h.state w) ≡ true) (append-nil h.on.word) ends);
    }

pub passes_to : {P Q : Type 0} (rules : Rules P) (filter : Rules Q) (count : ℕ) → SomeWord count (accepts filter) (accepts rules)
    → SomePasses (record { rules = rules; from = 0; filter = filter }) count [] (rules.start ∷ [])
passes_to rules filter count h = record {
  state = rules.start;
  among = (0, (let e : 0 < 1 = omega arith in e), refl);
  on = record { word = h.word; long = h.long; passes = h.first_accepts; ends = subst (λ w. rules.accept (run rules 0 rules.start w) ≡ true) (sym (append-nil h.word)) h.second_accepts };
}

-- ---- places of a word

count_from : (a n : ℕ) → CountFrom a (map Some (range_with_len a n))
count_from a zero = tt
count_from a (suc n) = (refl, count_from (a + 1) n)

own_count_is : (a n : ℕ) → own_count (map Some (range_with_len a n)) ≡ n
own_count_is a zero = refl
own_count_is a (suc n) = ap (λ m. m + 1) (own_count_is (a + 1) n) ∙ add-one n

own_bits_are : (a n : ℕ) (bits : List Bool) → length bits ≡ n → own_bits (map Some (range_with_len a n)) bits ≡ bits
own_bits_are a zero [] long = refl
own_bits_are a zero (b ∷ bits) long = absurd (let e : suc (length bits) ≡ 0 = long in omega arith)
own_bits_are a (suc n) [] long = absurd (let e : 0 ≡ suc n = long in omega arith)
own_bits_are a (suc n) (b ∷ bits) long = ap (λ bs. b ∷ bs) (own_bits_are (a + 1) n bits (let e : suc (length bits) ≡ suc n = long in omega arith))

places_long : (a n : ℕ) → length (map Some (range_with_len a n)) ≡ n
places_long a zero = refl
places_long a (suc n) = ap suc (places_long (a + 1) n)

pub own_long : (n : ℕ) → length (own_places n) ≡ n
own_long n = places_long 0 n

range_more : (a n : ℕ) → range_with_len a (n + 1) ≡ range_with_len a n ++ (a + n) ∷ []
range_more a n = subst (λ m. range_with_len a m ≡ range_with_len a n ++ (a + n) ∷ []) (sym (add-one n)) (by a n)
  where
    by : (a n : ℕ) → range_with_len a (suc n) ≡ range_with_len a n ++ (a + n) ∷ []
    by a zero = ap (λ m. m ∷ []) (let e : a ≡ a + 0 = omega arith in e)
    by a (suc n) = ap (λ xs. a ∷ xs) (by (a + 1) n ∙ ap (λ m. range_with_len (a + 1) n ++ m ∷ []) (let e : a + 1 + n ≡ a + suc n = omega arith in e))

map_more : (xs : List ℕ) (n : ℕ) → map Some (xs ++ n ∷ []) ≡ map Some xs ++ Some n ∷ []
map_more [] n = refl
map_more (x ∷ xs) n = ap (λ ys. Some x ∷ ys) (map_more xs n)

pub one_place_more : (n m : ℕ) (before after : List (Option ℕ)) → before ≡ own_places n → after ≡ before ++ Some m ∷ [] → m ≡ n → after ≡ own_places (n + 1)
one_place_more n m before after is pushed same =
    pushed ∙ (λ i. is i ++ Some (same i) ∷ []) ∙ sym (ap (map Some) (range_more 0 n ∙ ap (λ k. range_with_len 0 n ++ k ∷ []) (let e : 0 + n ≡ n = omega arith in e)) ∙ map_more (range_with_len 0 n) n)

-- ---- states at the end

pub no_ends : {Q : Type 0} (rules : Rules Q) (at : ℕ) (states : List Q) → All (λ q. rules.accept q ≡ false) states → SomeEnds rules at [] states → ⊥
no_ends rules at states none h =
    let e : false ≡ true = sym (All-contains (λ q. rules.accept q ≡ false) states h.state none h.among) ∙ h.ends in absurd (cc)

-- the law of sides, at all places of a word
abbrev pub SideLaw : Type 0
SideLaw = (table : List Node) (root : ℕ) (places : List (Option ℕ)) (bits : List Bool) → IsTable table → root < next_node table → CountFrom 0 places
    → FitsWidth table root (own_count places) → length bits ≡ length places → accepts (side_rules table root places) bits ≡ walk table root (own_bits places bits)

pub side_walks : SideLaw → (table : List Node) (root width : ℕ) (bits : List Bool) → IsTable table → root < next_node table → FitsWidth table root width
    → length bits ≡ width → accepts (side_rules table root (own_places width)) bits ≡ walk table root bits
side_walks law table root width bits legal there fits long =
    law table root (own_places width) bits legal there (count_from 0 width) (subst (FitsWidth table root) (sym (own_count_is 0 width)) fits) (long ∙ sym (places_long 0 width))
    ∙ ap (walk table root) (own_bits_are 0 width bits long)

-- ---- words and values

and_true : (a b : Bool) → (a && b) ≡ true → (a ≡ true) × (b ≡ true)
and_true true b h = (refl, h)
and_true false b h = absurd (let e : false ≡ true = h in cc)

true_and : (a b : Bool) → a ≡ true → b ≡ true → (a && b) ≡ true
true_and true b h k = k
true_and false b h k = absurd (let e : false ≡ true = h in cc)

pub values_from : (k : Kind) (table : List Node) (n : ℕ) (side domain test whole : List Bool → Bool)
    → ((word : List Bool) → length word ≡ width_of k → (domain word ≡ true) ↔ ((x : Value) × IsValueOf k word x))
    → ((word : List Bool) → whole word ≡ (domain word && test word)) → ((word : List Bool) → length word ≡ width_of k → side word ≡ walk table n word)
    → SomeWord (width_of k) side whole → SomeValue k table n test
values_from k table n side domain test whole values both walks h =
    let parts = and_true (domain h.word) (test h.word) (sym (both h.word) ∙ h.second_accepts) in
    let x = (values h.word h.long).0 parts.0 in
    let is : word_of k x.0 ≡ h.word = x.1.is_word in
    record {
      value = x.0;
      initial = x.1.in_kind;
      inside = ap (walk table n) is ∙ sym (walks h.word h.long) ∙ h.first_accepts;
      passes = ap test is ∙ parts.1;
    }

pub values_to : (k : Kind) (table : List Node) (n : ℕ) (side domain test whole : List Bool → Bool)
    → ((word : List Bool) → length word ≡ width_of k → (domain word ≡ true) ↔ ((x : Value) × IsValueOf k word x))
    → ((word : List Bool) → whole word ≡ (domain word && test word)) → ((word : List Bool) → length word ≡ width_of k → side word ≡ walk table n word)
    → ((x : Value) → InKind k x → length (word_of k x) ≡ width_of k) → SomeValue k table n test → SomeWord (width_of k) side whole
values_to k table n side domain test whole values both walks long h =
    let w = word_of k h.value in
    let l = long h.value h.initial in
    record {
      word = w;
      long = l;
      first_accepts = walks w l ∙ h.inside;
      second_accepts = both w ∙ true_and (domain w) (test w) ((values w l).1 (h.value, record { in_kind = h.initial; is_word = refl })) h.passes;
    }

-- ---- what a node does not accept

alike : (table : List Node) (root : ℕ) (places : List (Option ℕ)) (at q : ℕ) (bits : List Bool)
    → run (beyond_rules table root places) at q bits ≡ run (side_rules table root places) at q bits
alike table root places at q [] = refl
alike table root places at q (b ∷ bits) = alike table root places (at + 1) ((side_rules table root places).step at q b) bits

pub beyond_accepts : (table : List Node) (root : ℕ) (places : List (Option ℕ)) (bits : List Bool)
    → accepts (beyond_rules table root places) bits ≡ not (accepts (side_rules table root places) bits)
beyond_accepts table root places bits = ap (λ n. not (n == 1)) (alike table root places 0 root bits)

-- from node 1 all is accepted
at_one : (table : List Node) (root : ℕ) (places : List (Option ℕ)) (at : ℕ) (b : Bool) → (side_rules table root places).step at 1 b ≡ 1
at_one table root places at b = by (slice_index_or places at None)
  where
    by : (o : Option ℕ) → option_map_or (λ place. Rattle.sweep_table.specs.Sides.descend table 1 place b) o 1 ≡ 1
    by None = refl
    by (Some place) = refl

from_one : (table : List Node) (root : ℕ) (places : List (Option ℕ)) (at : ℕ) (bits : List Bool) → run (beyond_rules table root places) at 1 bits ≡ 1
from_one table root places at [] = refl
from_one table root places at (b ∷ bits) =
    ap (λ q. run (beyond_rules table root places) (at + 1) q bits) (at_one table root places at b) ∙ from_one table root places (at + 1) bits

pub beyond_lost : (table : List Node) (root : ℕ) (places : List (Option ℕ)) (state at : ℕ) (bits : List Bool) → state ≡ 1
    → not (run (beyond_rules table root places) at state bits == 1) ≡ false
beyond_lost table root places state at bits is =
    ap (λ q. not (run (beyond_rules table root places) at q bits == 1)) is ∙ ap (λ q. not (q == 1)) (from_one table root places at bits)

neither : (a b : Bool) → (a || b) ≡ false → (not a && not b) ≡ true
neither true b h = absurd (let e : true ≡ false = h in cc)
neither false b h = ap not h

clash : (a b : Bool) → (not a && not b) ≡ true → (a || b) ≡ true → ⊥
clash true b h k = absurd (let e : false ≡ true = h in cc)
clash false true h k = absurd (let e : false ≡ true = h in cc)
clash false false h k = absurd (let e : false ≡ true = k in cc)

pub none_leaves : (k : Kind) (table : List Node) (inside first second : ℕ) (test : List Bool → Bool)
    → ((x : Value) → InKind k x → test (word_of k x) ≡ (not (walk table first (word_of k x)) && not (walk table second (word_of k x))))
    → (SomeValue k table inside test → ⊥)
    ↔ ((x : Value) → InKind k x → walk table inside (word_of k x) ≡ true → (walk table first (word_of k x) || walk table second (word_of k x)) ≡ true)
none_leaves k table inside first second test is = (
  (λ none x initial at. by none x initial at (walk table first (word_of k x) || walk table second (word_of k x)) refl),
  (λ all h. clash (walk table first (word_of k h.value)) (walk table second (word_of k h.value)) (sym (is h.value h.initial) ∙ h.passes) (all h.value h.initial h.inside)),
)
  where
    by : (SomeValue k table inside test → ⊥) → (x : Value) → InKind k x → walk table inside (word_of k x) ≡ true
        → (b : Bool) → (walk table first (word_of k x) || walk table second (word_of k x)) ≡ b → b ≡ true
    by none x initial at true e = refl
    by none x initial at false e =
        absurd (none (record { value = x; initial = initial; inside = at; passes = is x initial ∙ neither (walk table first (word_of k x)) (walk table second (word_of k x)) e }))

-- ---- words other than one

true_stays : (word : List Bool) (at : ℕ) (bits : List Bool) → run (other_rules word) at true bits ≡ true
true_stays word at [] = refl
true_stays word at (true ∷ bits) = true_stays word (at + 1) bits
true_stays word at (false ∷ bits) = true_stays word (at + 1) bits

step_one : (r b : Bool) → ((r ≡ b) × (cond b (false || not r) (false || r) ≡ false)) ⊎ (cond b (false || not r) (false || r) ≡ true)
step_one true true = inl (refl, refl)
step_one true false = inr refl
step_one false true = inr refl
step_one false false = inl (refl, refl)

seam : (front rest : List Bool) (r : Bool) → slice_index_or (front ++ r ∷ rest) (length front) false ≡ r
seam front rest r = get_or-append_seam front r rest false

onward : (front rest : List Bool) (r q : Bool) (bits : List Bool)
    → run (other_rules (front ++ r ∷ rest)) (length front + 1) q bits ≡ run (other_rules ((front ++ r ∷ []) ++ rest)) (length (front ++ r ∷ [])) q bits
onward front rest r q bits =
    λ i. run (other_rules (sym (append_assoc front (r ∷ []) rest) i)) (sym (length-append front (r ∷ [])) i) q bits

pub agrees : (front rest bits : List Bool) → length bits ≡ length rest → run (other_rules (front ++ rest)) (length front) false bits ≡ false → bits ≡ rest
agrees front [] [] long is = refl
agrees front [] (b ∷ bits) long is = absurd (let e : suc (length bits) ≡ 0 = long in omega arith)
agrees front (r ∷ rest) [] long is = absurd (let e : 0 ≡ suc (length rest) = long in omega arith)
agrees front (r ∷ rest) (b ∷ bits) long is =
    let stepped : run (other_rules (front ++ r ∷ rest)) (length front + 1) (cond b (false || not r) (false || r)) bits ≡ false =
    sym (ap (λ c. run (other_rules (front ++ r ∷ rest)) (length front + 1) (cond b (false || not c) (false || c)) bits) (seam front rest r)) ∙ is in
    elim (step_one r b) [
      | inl h ↦ (
          let on = sym (onward front rest r false bits) ∙ sym (ap (λ q. run (other_rules (front ++ r ∷ rest)) (length front + 1) q bits) h.1) ∙ stepped in
          let later = agrees (front ++ r ∷ []) rest bits (let e : suc (length bits) ≡ suc (length rest) = long in omega arith) on in
          λ i. sym h.0 i ∷ later i
          )
      | inr h ↦ absurd (
          let e : true ≡ false = sym (ap (λ q. run (other_rules (front ++ r ∷ rest)) (length front + 1) q bits) h ∙ true_stays (front ++ r ∷ rest) (length front + 1) bits) ∙ stepped in cc
          )
    ]

pub same_word : (front rest : List Bool) → run (other_rules (front ++ rest)) (length front) false rest ≡ false
same_word front [] = refl
same_word front (r ∷ rest) =
    ap (λ c. run (other_rules (front ++ r ∷ rest)) (length front + 1) (cond r (false || not c) (false || c)) rest) (seam front rest r)
    ∙ ap (λ q. run (other_rules (front ++ r ∷ rest)) (length front + 1) q rest) (still r) ∙ onward front rest r false rest ∙ same_word (front ++ r ∷ []) rest
  where
    still : (b : Bool) → cond b (false || not b) (false || b) ≡ false
    still true = refl
    still false = refl

pub none_other : (k : Kind) (table : List Node) (inside : ℕ) (word : List Bool) → length word ≡ width_of k → ((x : Value) → InKind k x → length (word_of k x) ≡ width_of k)
    → (SomeValue k table inside (accepts (other_rules word)) → ⊥) ↔ ((x : Value) → InKind k x → walk table inside (word_of k x) ≡ true → word_of k x ≡ word)
none_other k table inside word long longs = (
  (λ none x initial at. by none x initial at (accepts (other_rules word) (word_of k x)) refl),
  (λ all h. let e : true ≡ false = sym h.passes ∙ ap (λ w. accepts (other_rules word) w) (all h.value h.initial h.inside) ∙ same_word [] word in absurd (cc)),
)
  where
    by : (SomeValue k table inside (accepts (other_rules word)) → ⊥) → (x : Value) → InKind k x → walk table inside (word_of k x) ≡ true
        → (b : Bool) → accepts (other_rules word) (word_of k x) ≡ b → word_of k x ≡ word
    by none x initial at true e = absurd (none (record { value = x; initial = initial; inside = at; passes = e }))
    by none x initial at false e = agrees [] word (word_of k x) (longs x initial ∙ sym long) e

-- ---- what the tests answer

not_true : (b : Bool) (P : Type 0) → IsTrue b ↔ P → IsTrue (not b) ↔ (P → ⊥)
not_true true P h = ((λ f p. absurd (let e : false ≡ true = f in cc)), (λ f. absurd (f (h.0 refl))))
not_true false P h = ((λ t p. let e : false ≡ true = h.1 p in absurd (cc)), (λ f. refl))

pub only_word : (k : Kind) (table : List Node) (inside : ℕ) (word : List Bool) (leaves : Bool) → length word ≡ width_of k
    → ((x : Value) → InKind k x → length (word_of k x) ≡ width_of k) → IsTrue leaves ↔ SomeValue k table inside (accepts (other_rules word))
    → IsTrue (not leaves) ↔ ((x : Value) → InKind k x → walk table inside (word_of k x) ≡ true → word_of k x ≡ word)
only_word k table inside word leaves long longs is =
    let a = not_true leaves (SomeValue k table inside (accepts (other_rules word))) is in
    let b = none_other k table inside word long longs in
    ((λ h. b.0 (a.0 h)), (λ h. a.1 (b.1 h)))

pub min_long : (width : ℕ) (p q : List (Option ℕ)) → p ≡ own_places width → q ≡ own_places width → min (length p) (length q) ≡ width
min_long width p q e f =
    let a : length p ≡ width = ap length e ∙ own_long width in
    let b : length q ≡ width = ap length f ∙ own_long width in
    (λ i. min (a i) (b i)) ∙ (let m : min width width ≡ width = omega arith in m)

beyond_walk : SideLaw → (table t : List Node) (n r : ℕ) (places : List (Option ℕ)) (width : ℕ) (word : List Bool) → t ≡ table → r ≡ n → places ≡ own_places width
    → IsTable table → n < next_node table → FitsWidth table n width → length word ≡ width → accepts (beyond_rules t r places) word ≡ not (walk table n word)
beyond_walk law table t n r places width word e f g legal there fits long =
    (λ i. accepts (beyond_rules (e i) (f i) (g i)) word) ∙ beyond_accepts table n (own_places width) word ∙ ap not (side_walks law table n width word legal there fits long)

pub inside_answer : SideLaw → (k : Kind) (table : List Node) (inside first second : ℕ) (t u : List Node) (r s : ℕ) (p q : List (Option ℕ)) (test : List Bool → Bool) (leaves : Bool)
    → t ≡ table → r ≡ first → p ≡ own_places (width_of k) → u ≡ table → s ≡ second → q ≡ own_places (width_of k)
    → IsTable table → first < next_node table → second < next_node table → FitsWidth table first (width_of k) → FitsWidth table second (width_of k)
    → ((x : Value) → InKind k x → length (word_of k x) ≡ width_of k)
    → ((word : List Bool) → test word ≡ (accepts (beyond_rules t r p) word && accepts (beyond_rules u s q) word))
    → IsTrue leaves ↔ SomeValue k table inside test
    → IsTrue (not leaves) ↔ ((x : Value) → InKind k x → walk table inside (word_of k x) ≡ true → (walk table first (word_of k x) || walk table second (word_of k x)) ≡ true)
inside_answer law k table inside first second t u r s p q test leaves e f g e' f' g' legal there there' fits fits' longs both is =
    let a = not_true leaves (SomeValue k table inside test) is in
    let b = none_leaves k table inside first second test (λ x initial.
    both (word_of k x) ∙ (λ i. beyond_walk law table t first r p (width_of k) (word_of k x) e f g legal there fits (longs x initial) i
    && beyond_walk law table u second s q (width_of k) (word_of k x) e' f' g' legal there' fits' (longs x initial) i)) in
    ((λ h. b.0 (a.0 h)), (λ h. a.1 (b.1 h)))

-- ---- a whole sweep

pub occur_at : {X : Type 0} (O : ℕ → X → Type 0) (xs ys : List X) (m n : ℕ) → ys ≡ xs → m ≡ n → Each (O m) xs → Each (O n) ys
occur_at O xs ys m n e f each = subst (λ zs. Each (O n) zs) (sym e) (subst (λ k. Each (O k) xs) f each)

pub width_min : (w k a b : ℕ) → w ≡ k → a ≡ k → b ≡ k → 0 + w ≡ min a b
width_min w k a b e f g = omega arith

side_accepts : SideLaw → (table t : List Node) (n r : ℕ) (places : List (Option ℕ)) (width : ℕ) (word : List Bool) → t ≡ table → r ≡ n → places ≡ own_places width
    → IsTable table → n < next_node table → FitsWidth table n width → length word ≡ width → accepts (side_rules t r places) word ≡ walk table n word
side_accepts law table t n r places width word e f g legal there fits long =
    (λ i. accepts (side_rules (e i) (f i) (g i)) word) ∙ side_walks law table n width word legal there fits long

pub sweep_answer : {X : Type 0} → SideLaw → (k : Kind) (table : List Node) (n : ℕ) (R : Rules X) (t : List Node) (r : ℕ) (places : List (Option ℕ)) (w m : ℕ)
    (states ends slice : List X) (ok : Bool) (domain test : List Bool → Bool)
    → t ≡ table → r ≡ n → places ≡ own_places (width_of k) → IsTable table → n < next_node table → FitsWidth table n (width_of k)
    → w ≡ width_of k → states ≡ R.start ∷ [] → slice ≡ ends → m ≡ 0 + w → IsTrue ok ↔ SomeEnds R m [] slice
    → ((rest : List Bool) → SomePasses (record { rules = R; from = 0; filter = side_rules t r places }) w rest states ↔ SomeEnds R (0 + w) rest ends)
    → ((word : List Bool) → length word ≡ width_of k → (domain word ≡ true) ↔ ((x : Value) × IsValueOf k word x))
    → ((word : List Bool) → accepts R word ≡ (domain word && test word)) → ((x : Value) → InKind k x → length (word_of k x) ≡ width_of k)
    → IsTrue ok ↔ SomeValue k table n test
sweep_answer law k table n R t r places w m states ends slice ok domain test e f g legal there fits width began read at answer leads values both longs =
    let F = side_rules t r places in
    let walks : (word : List Bool) → length word ≡ width_of k → accepts F word ≡ walk table n word =
    λ word long. side_accepts law table t n r places (width_of k) word e f g legal there fits long in
    let here : IsTrue ok ↔ SomeEnds R (0 + w) [] ends = subst (λ z. IsTrue ok ↔ SomeEnds R (0 + w) [] z) read (subst (λ z. IsTrue ok ↔ SomeEnds R z [] slice) at answer) in
    let passes : SomePasses (record { rules = R; from = 0; filter = F }) w [] (R.start ∷ []) ↔ SomeEnds R (0 + w) [] ends =
    subst (λ z. SomePasses (record { rules = R; from = 0; filter = F }) w [] z ↔ SomeEnds R (0 + w) [] ends) began (leads []) in
    let whole : (word : List Bool) → accepts R word ≡ (domain word && test word) = both in (
      (λ on. values_from k table n (accepts F) domain test (accepts R) values whole walks
          (subst (λ z. SomeWord z (accepts F) (accepts R)) width (passes_from R F w (passes.1 (here.0 on))))),
      (λ some. here.1 (passes.0 (passes_to R F w (subst (λ z. SomeWord z (accepts F) (accepts R)) (sym width)
          (values_to k table n (accepts F) domain test (accepts R) values whole walks longs some))))),
    )

-- the law of domains, for a shape that is that of the kind
pub domain_values : ((kind : Kind) (word : List Bool) → IsKind kind → IsNarrow kind → length word ≡ width_of kind
    → (accepts (domain_rules (offsets_of kind) (width_of kind) (is_free kind)) word ≡ true) ↔ ((x : Value) × IsValueOf kind word x))
    → (kind : Kind) (offsets : List ℕ) (width : ℕ) (free : Bool) → offsets ≡ offsets_of kind → width ≡ width_of kind → free ≡ is_free kind → IsKind kind → IsNarrow kind
    → (word : List Bool) → length word ≡ width_of kind → (accepts (domain_rules offsets width free) word ≡ true) ↔ ((x : Value) × IsValueOf kind word x)
domain_values law kind offsets width free e f g legal narrow word long =
    let same : accepts (domain_rules offsets width free) word ≡ accepts (domain_rules (offsets_of kind) (width_of kind) (is_free kind)) word =
    λ i. accepts (domain_rules (e i) (f i) (g i)) word in
    let is = law kind word legal narrow long in
    ((λ h. is.0 (sym same ∙ h)), (λ x. same ∙ is.1 x))
