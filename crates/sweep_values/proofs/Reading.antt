-- What the shape of a domain accepts.
use Rattle.std.proofs.Common.{◌≡◌, ◌↔◌, ℕ, zero, suc, ◌+◌, ◌-◌, ◌*◌, ◌^◌, ◌<◌, ◌≤◌, ◌==◌, Bool, true, false, cond, ◌||◌, ℤ, List, [], ◌∷◌, map, length, get_or, Contains, refl, sym, ap, ◌∙◌, subst, inl, inr, arith}
use Rattle.std.specs.Prelude.{◌⊎◌}
use Rattle.std.proofs.lemmas.Bool.{or_cases, eqb-true, eqb-false, eq-eqb}
use Rattle.set_meaning.specs.declared.kinds.Kind.{Kind}
use Rattle.set_meaning.specs.declared.kinds.Kind.TheVariants as kind
use Rattle.set_meaning.specs.declared.kinds.Value.{Value}
use Rattle.set_meaning.specs.declared.kinds.Value.TheVariants as value
use Rattle.set_meaning.specs.Kinds.{InKind}
use Rattle.set_meaning.specs.Problems.{IsKind}
use Rattle.set_meaning.specs.Sets.{Has, IsAscending, ascending_set}
use Rattle.set_meaning.proofs.Ascending.{IsSetOf-ascending_set}
use Rattle.bit_layout.specs.Limits.{IsNarrow}
use Rattle.bit_layout.specs.Words.{IsValueOf, bit_width, binary, distance, least, number, span, width_of}
use Rattle.bit_layout.proofs.Numbers.{double, number-below, number-of_binary, binary-number}
use Rattle.bit_layout.proofs.Elements.{chosen}
use Rattle.bit_layout.proofs.KindWords.{bool_value, set_value, fits_width}
use Rattle.bit_layout.proofs.Rising.{nothing_in_empty, in_cons, in_head, in_tail}
use Rattle.sweep_rules.specs.Rules.{run, accepts}
use Rattle.sweep_values.specs.declared.part.Part.{Part}
use Rattle.sweep_values.specs.declared.part.Part.TheVariants.{Every, Partly, Nothing}
use Rattle.sweep_values.specs.Domains.{below, by_count, settle, is_every, domain_rules, Rises, offsets_of, is_free}
use Rattle.sweep_values.proofs.Counting.{has, Counts, counts}
use Rattle.sweep_values.proofs.Making.{offsets_rise}

-- ---- runs

run_every : (offsets : List ℕ) (width : ℕ) (free : Bool) (at : ℕ) (bits : List Bool) → is_every (run (domain_rules offsets width free) at Every bits) ≡ true
run_every offsets width free at [] = refl
run_every offsets width free at (b ∷ bits) = run_every offsets width free (at + 1) bits

run_nothing : (offsets : List ℕ) (width : ℕ) (free : Bool) (at : ℕ) (bits : List Bool) → is_every (run (domain_rules offsets width free) at Nothing bits) ≡ false
run_nothing offsets width free at [] = refl
run_nothing offsets width free at (b ∷ bits) = run_nothing offsets width free (at + 1) bits

-- one digit more
next_number : (prefix left n : ℕ) (b : Bool) → (2 * prefix + cond b 1 0) * 2 ^ left + n ≡ prefix * 2 ^ suc left + (cond b (2 ^ left) 0 + n)
next_number prefix left n true =
    let e : 2 ^ suc left ≡ 2 * 2 ^ left = double left in
    let f : prefix * 2 ^ suc left ≡ prefix * (2 * 2 ^ left) = ap (λ z. prefix * z) e in
    omega (arith, f)
next_number prefix left n false =
    let e : 2 ^ suc left ≡ 2 * 2 ^ left = double left in
    let f : prefix * 2 ^ suc left ≡ prefix * (2 * 2 ^ left) = ap (λ z. prefix * z) e in
    omega (arith, f)

-- what a state answers once the rest is read
abbrev answers : List ℕ → ℕ → Bool → ℕ → List Bool → Part → Bool
answers offsets width free at bits q = is_every (run (domain_rules offsets width free) at q bits)

-- where all or none are listed, and where some are, by what holds after one digit more
by_parts : (offsets : List ℕ) (width : ℕ) (free : Bool) (at left prefix n : ℕ) (bits : List Bool) → number bits < 2 ^ left → Counts offsets (prefix * 2 ^ left) (2 ^ left) n
    → ((n ≡ 2 ^ left → ⊥) → (n ≡ 0 → ⊥) → answers offsets width free at bits (Partly prefix) ≡ has offsets (prefix * 2 ^ left + number bits))
    → answers offsets width free at bits (by_count (2 ^ left) n prefix) ≡ has offsets (prefix * 2 ^ left + number bits)
by_parts offsets width free at left prefix n bits small facts some = all (n == 2 ^ left) refl
  where
    none : (v : Bool) → (n == 0) ≡ v → (n ≡ 2 ^ left → ⊥) → answers offsets width free at bits (cond v Nothing (Partly prefix)) ≡ has offsets (prefix * 2 ^ left + number bits)
    none true e other = run_nothing offsets width free at bits ∙ sym (facts.none (eqb-true n 0 e) (number bits) small)
    none false e other = some other (eqb-false n 0 e)

    all : (v : Bool) → (n == 2 ^ left) ≡ v → answers offsets width free at bits (cond v Every (cond (n == 0) Nothing (Partly prefix))) ≡ has offsets (prefix * 2 ^ left + number bits)
    all true e = run_every offsets width free at bits ∙ sym (facts.all (eqb-true n (2 ^ left) e) (number bits) small)
    all false e = none (n == 0) refl (eqb-false n (2 ^ left) e)

small_number : (bits : List Bool) (left : ℕ) → length bits ≡ left → number bits < 2 ^ left
small_number bits left long = subst (λ k. number bits < 2 ^ k) long (number-below bits)

reads : (offsets : List ℕ) (width : ℕ) (free : Bool) (left at prefix : ℕ) (bits : List Bool) → Rises offsets → at + left ≡ width → length bits ≡ left
    → answers offsets width free at bits (settle offsets left prefix) ≡ has offsets (prefix * 2 ^ left + number bits)
reads offsets width free zero at prefix [] up whole long =
    let n = below offsets (prefix * 2 ^ 0 + 2 ^ 0) - below offsets (prefix * 2 ^ 0) in
    let facts = counts offsets (prefix * 2 ^ 0) (2 ^ 0) up in
    let few : n ≤ 1 = facts.few in
    by_parts offsets width free at 0 prefix n [] (small_number [] 0 refl) facts (λ not_all not_none. absurd (one_or_none n few not_all not_none))
  where
    one_or_none : (n : ℕ) → n ≤ 1 → (n ≡ 1 → ⊥) → (n ≡ 0 → ⊥) → ⊥
    one_or_none zero few a b = b refl
    one_or_none (suc zero) few a b = a refl
    one_or_none (suc (suc n)) few a b = absurd (omega (arith, few))
reads offsets width free zero at prefix (b ∷ bits) up whole long = absurd (omega (arith, long))
reads offsets width free (suc left) at prefix [] up whole long = absurd (omega (arith, long))
reads offsets width free (suc left) at prefix (b ∷ bits) up whole long =
    let n = below offsets (prefix * 2 ^ suc left + 2 ^ suc left) - below offsets (prefix * 2 ^ suc left) in
    let tail : length bits ≡ left = omega (arith, long) in
    let rest : width - (at + 1) ≡ left = omega (arith, whole) in
    let later = reads offsets width free left (at + 1) (2 * prefix + cond b 1 0) bits up (omega (arith, whole)) tail in
    let here : answers offsets width free (at + 1) bits (settle offsets (width - (at + 1)) (2 * prefix + cond b 1 0)) ≡ answers offsets width free (at + 1) bits (settle offsets left (2 * prefix + cond b 1 0)) =
    ap (λ k. answers offsets width free (at + 1) bits (settle offsets k (2 * prefix + cond b 1 0))) rest in
    let same : (2 * prefix + cond b 1 0) * 2 ^ left + number bits ≡ prefix * 2 ^ suc left + number (b ∷ bits) =
    next_number prefix left (number bits) b ∙ ap (λ k. prefix * 2 ^ suc left + (cond b (2 ^ k) 0 + number bits)) (sym tail) in
    by_parts offsets width free at (suc left) prefix n (b ∷ bits) (small_number (b ∷ bits) (suc left) long) (counts offsets (prefix * 2 ^ suc left) (2 ^ suc left) up)
    (λ not_all not_none. here ∙ later ∙ ap (has offsets) same)

-- the words whose number is listed
listed_words : (offsets : List ℕ) (width : ℕ) (bits : List Bool) → Rises offsets → length bits ≡ width → accepts (domain_rules offsets width false) bits ≡ has offsets (number bits)
listed_words offsets width bits up long =
    let e : 0 * 2 ^ width + number bits ≡ number bits = omega arith in
    reads offsets width false width 0 0 bits up (omega arith) long ∙ ap (has offsets) e

-- ---- values

-- an offset that is listed is that of a number
number_there : (f : ℤ → ℕ) (numbers : List ℤ) (k : ℕ) → has (map f numbers) k ≡ true → (x : ℤ) × Contains numbers x × (f x ≡ k)
number_there f [] k h = absurd (let e : false ≡ true = h in cc)
number_there f (x ∷ xs) k h = elim (or_cases (f x == k) (has (map f xs) k) h) [
  | inl here ↦ (x, in_head x xs, eqb-true (f x) k here)
  | inr later ↦ let r = number_there f xs k later in (r.0, in_tail x xs r.0 r.1, r.2)
]

there_number : (f : ℤ → ℕ) (numbers : List ℤ) (x : ℤ) → Contains numbers x → has (map f numbers) (f x) ≡ true
there_number f [] x h = absurd (nothing_in_empty x h)
there_number f (y ∷ ys) x h = elim (in_cons y ys x h) [
  | inl e ↦ left_true (f y == f x) (has (map f ys) (f x)) (eq-eqb (f y) (f x) (ap f e))
  | inr later ↦ right_true (f y == f x) (has (map f ys) (f x)) (there_number f ys x later)
]
  where
    left_true : (a b : Bool) → a ≡ true → (a || b) ≡ true
    left_true a b e = ap (λ v. v || b) e

    right_true : (a b : Bool) → b ≡ true → (a || b) ≡ true
    right_true true b e = refl
    right_true false b e = e

int_words : (numbers : List ℤ) (word : List Bool) → IsAscending numbers → span numbers ≤ 65535 → length word ≡ bit_width (span numbers)
    → (accepts (domain_rules (map (distance (least numbers)) numbers) (bit_width (span numbers)) false) word ≡ true) ↔ ((x : Value) × IsValueOf (kind.Int numbers) word x)
unfolding InKind Has
int_words numbers word up narrow long = (to, from)
  where
    offsets : List ℕ
    offsets = map (distance (least numbers)) numbers

    is : accepts (domain_rules (map (distance (least numbers)) numbers) (bit_width (span numbers)) false) word ≡ has (map (distance (least numbers)) numbers) (number word)
    is = listed_words (map (distance (least numbers)) numbers) (bit_width (span numbers)) word (offsets_rise numbers up) long

    to : accepts (domain_rules (map (distance (least numbers)) numbers) (bit_width (span numbers)) false) word ≡ true → (x : Value) × IsValueOf (kind.Int numbers) word x
    to h =
        let r = number_there (distance (least numbers)) numbers (number word) (sym is ∙ h) in (
          value.Int r.0,
          record {
            in_kind = r.1;
            is_word = ap (binary (bit_width (span numbers))) r.2 ∙ ap (λ w. binary w (number word)) (sym long) ∙ binary-number word;
          },
        )

    from_value : (x : Value) → IsValueOf (kind.Int numbers) word x → has (map (distance (least numbers)) numbers) (number word) ≡ true
    from_value (value.Bool b) v = absurd v.in_kind
    from_value (value.Set s) v = absurd v.in_kind
    from_value (value.Int x) v =
        let e : number word ≡ distance (least numbers) x = ap number (sym v.is_word) ∙ number-of_binary (bit_width (span numbers)) (distance (least numbers) x) (fits_width numbers x up v.in_kind) in
        ap (has (map (distance (least numbers)) numbers)) e ∙ there_number (distance (least numbers)) numbers x v.in_kind

    from : (x : Value) × IsValueOf (kind.Int numbers) word x → accepts (domain_rules (map (distance (least numbers)) numbers) (bit_width (span numbers)) false) word ≡ true
    from v = is ∙ from_value v.0 v.1

pub domain_accepts : (k : Kind) (word : List Bool) → IsKind k → IsNarrow k → length word ≡ width_of k
    → (accepts (domain_rules (offsets_of k) (width_of k) (is_free k)) word ≡ true) ↔ ((x : Value) × IsValueOf k word x)
domain_accepts kind.Bool word legal narrow long = (λ h. (value.Bool (get_or word 0 false), bool_value word (get_or word 0 false) long refl), λ v. run_every [] 1 true 0 word)
domain_accepts (kind.Int numbers) word legal narrow long = int_words numbers word legal.0 narrow long
domain_accepts (kind.Set universe) word legal narrow long =
    let set = ascending_set (chosen universe word) in
    (λ h. (value.Set set, set_value universe word (chosen universe word) set legal long refl (IsSetOf-ascending_set (chosen universe word))), λ v. run_every [] (length universe) true 0 word)

-- a lost state
pub nothing_lost : (offsets : List ℕ) (width : ℕ) (free : Bool) (at : ℕ) (rest : List Bool) → is_every (run (domain_rules offsets width free) at Nothing rest) ≡ false
nothing_lost offsets width free at rest = run_nothing offsets width free at rest
