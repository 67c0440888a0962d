-- What the sweep through three sides answers.
use Rattle.std.proofs.Common.{◌≡◌, ◌↔◌, ℕ, zero, suc, ◌+◌, ◌<◌, ◌≤◌, Bool, true, false, ◌&&◌, List, [], ◌∷◌, ◌++◌, length, map, take, get_or, Contains, Option, IsTrue, refl, sym, ap, ◌∙◌, subst, inl, inr, arith}
use Rattle.std.proofs.lemmas.Bool.{and_parts}
use Rattle.std.proofs.lemmas.List.{take_more, take_all}
use Rattle.std.proofs.lemmas.List.Elements.{Contains-push_cases, Contains-get_or}
use Rattle.bit_layout.specs.declared.places.Place.{Place}
use Rattle.bit_layout.proofs.Rising.{nothing_in_empty, in_cons, in_head}
use Rattle.log_rules.specs.declared.nodes.Node.{Node}
use Rattle.log_rules.specs.Tables.{IsTable, next_node, walk}
use Rattle.log_rules.specs.Boxes.{FitsWidth}
use Rattle.sweep_rules.specs.Rules.{Rules, run, accepts, both}
use Rattle.sweep_rules.proofs.Reading.{accepts-both}
use Rattle.sweep_states.specs.Sweeps.{Each, Filtered, PassesOn, SomePasses, SomeEnds}
use Rattle.sweep_table.specs.Sides.{CountFrom, own_bits, own_count, side_rules}
use Rattle.sweep_scopes.specs.declared.meeting.Slot.{Slot}
use Rattle.sweep_scopes.specs.Meetings.{Accepts, Fits, Meets, Walks, places_in}

-- the law of a side
abbrev pub SidesAccept : Type 0
SidesAccept = (table : List Node) (root : ℕ) (places : List (Option ℕ)) (bits : List Bool) → IsTable table → root < next_node table → CountFrom 0 places
    → FitsWidth table root (own_count places) → length bits ≡ length places → accepts (side_rules table root places) bits ≡ walk table root (own_bits places bits)

-- the rules of a variable's side
abbrev pub slot_rules : List Node → List Place → Slot → Rules ℕ
slot_rules table places slot = side_rules table slot.root (places_in places slot.variable)

length-places_in : (places : List Place) (slot : Slot) → length (places_in places slot.variable) ≡ length places
length-places_in [] slot = refl
length-places_in (p ∷ places) slot = ap suc (length-places_in places slot)

slot_accepts : SidesAccept → (table : List Node) (places : List Place) (slot : Slot) (word : List Bool) → IsTable table → Fits table places slot → length word ≡ length places
    → accepts (slot_rules table places slot) word ≡ walk table slot.root (own_bits (places_in places slot.variable) word)
slot_accepts law table places slot word legal fits long =
    law table slot.root (places_in places slot.variable) word legal fits.there fits.counted fits.width (long ∙ sym (length-places_in places slot))

all_true : (a b c : Bool) → a ≡ true → b ≡ true → c ≡ true → (a && (b && c)) ≡ true
all_true a b c p q r = λ i. p i && (q i && r i)

module _ {Q : Type 0} (law : SidesAccept) (table : List Node) (places : List Place) (rules : Rules Q) (first second third : Slot) (legal : IsTable table)
    (fits_first : Fits table places first) (fits_second : Fits table places second) (fits_third : Fits table places third) where
  abbrev three : Rules (ℕ × (ℕ × ℕ))
  three = both (slot_rules table places first) (both (slot_rules table places second) (slot_rules table places third))

  three_is : (word : List Bool) → accepts three word ≡ (accepts (slot_rules table places first) word && (accepts (slot_rules table places second) word && accepts (slot_rules table places third) word))
  three_is word =
      accepts-both (slot_rules table places first) (both (slot_rules table places second) (slot_rules table places third)) word
      ∙ ap (λ b. accepts (slot_rules table places first) word && b) (accepts-both (slot_rules table places second) (slot_rules table places third) word)

  nothing_more : (word : List Bool) → word ++ [] ≡ word
  nothing_more [] = refl
  nothing_more (b ∷ word) = ap (λ bs. b ∷ bs) (nothing_more word)

  pub passes_is_meets : (start : Q) → start ≡ rules.start → SomePasses (record { rules = rules; from = 0; filter = three }) (length places) [] (start ∷ []) ↔ Meets table places rules first second third
  passes_is_meets start started = (to, from)
    where
      to : SomePasses (record { rules = rules; from = 0; filter = three }) (length places) [] (start ∷ []) → Meets table places rules first second third
      to h =
          let word = h.on.word in
          let long = h.on.long in
          let passed : accepts three word ≡ true = h.on.passes in
          let parts = and_parts (accepts (slot_rules table places first) word) (accepts (slot_rules table places second) word && accepts (slot_rules table places third) word) (sym (three_is word) ∙ passed) in
          let more = and_parts (accepts (slot_rules table places second) word) (accepts (slot_rules table places third) word) parts.1 in
          let is : h.state ≡ rules.start = only start h.state h.among ∙ started in
          record {
            word = word;
            long = long;
            accepted = subst (λ q. rules.accept (run rules 0 q word) ≡ true) is (subst (λ w. rules.accept (run rules 0 h.state w) ≡ true) (nothing_more word) h.on.ends);
            first_walks = sym (slot_accepts law table places first word legal fits_first long) ∙ parts.0;
            second_walks = sym (slot_accepts law table places second word legal fits_second long) ∙ more.0;
            third_walks = sym (slot_accepts law table places third word legal fits_third long) ∙ more.1;
          }
        where
          only : (x y : Q) → Contains (x ∷ []) y → y ≡ x
          only x y there = elim (in_cons x [] y there) [ inl e ↦ sym e | inr none ↦ absurd (nothing_in_empty y none) ]

      from : Meets table places rules first second third → SomePasses (record { rules = rules; from = 0; filter = three }) (length places) [] (start ∷ [])
      from h = record {
        state = start;
        among = in_head start [];
        on = record {
          word = h.word;
          long = h.long;
          passes = three_is h.word ∙ all_true (accepts (slot_rules table places first) h.word) (accepts (slot_rules table places second) h.word) (accepts (slot_rules table places third) h.word)
              (slot_accepts law table places first h.word legal fits_first h.long ∙ h.first_walks)
              (slot_accepts law table places second h.word legal fits_second h.long ∙ h.second_walks)
              (slot_accepts law table places third h.word legal fits_third h.long ∙ h.third_walks);
          ends = subst (λ w. rules.accept (run rules 0 start w) ≡ true) (sym (nothing_more h.word)) (subst (λ q. rules.accept (run rules 0 q h.word) ≡ true) (sym started) h.accepted);
        };
      }

-- the states at the end
pub ends_accept : {Q : Type 0} (rules : Rules Q) (at : ℕ) (states : List Q) → SomeEnds rules at [] states ↔ Accepts rules states
ends_accept rules at states = (λ h. record { state = h.state; among = h.among; accepted = h.ends }, λ h. record { state = h.state; among = h.among; ends = h.accepted })

-- ---- the loop over the states

pub none_accepts : {Q : Type 0} (rules : Rules Q) → Accepts rules [] → ⊥
none_accepts rules h = nothing_in_empty h.state h.among

pub still_none : {Q : Type 0} (rules : Rules Q) (states : List Q) (i : ℕ) (q : Q) → i < length states → q ≡ get_or states i q → rules.accept q ≡ false → (Accepts rules (take i states) → ⊥)
    → Accepts rules (take (i + 1) states) → ⊥
still_none {Q} rules states i q within is refuses none h =
    let e : take (i + 1) states ≡ take i states ++ q ∷ [] = take_more states i q within ∙ ap (λ p. take i states ++ p ∷ []) (sym is) in
    elim (Contains-push_cases (take i states) q h.state (subst (λ ys. Contains ys h.state) e h.among)) [
      | inl before ↦ none (record { state = h.state; among = before; accepted = h.accepted })
      | inr same ↦ let clash : false ≡ true = sym refuses ∙ ap rules.accept same ∙ h.accepted in absurd (cc)
    ]

pub none_at_all : {Q : Type 0} (rules : Rules Q) (states : List Q) (i : ℕ) → length states ≤ i → (Accepts rules (take i states) → ⊥) → IsTrue false ↔ Accepts rules states
none_at_all rules states i all none =
    (λ yes. let clash : false ≡ true = yes in absurd (cc), λ h. absurd (none (subst (λ ys. Accepts rules ys) (sym (take_all i states all)) h)))

pub one_accepts : {Q : Type 0} (rules : Rules Q) (states : List Q) (i : ℕ) (q : Q) → i < length states → q ≡ get_or states i q → rules.accept q ≡ true → IsTrue true ↔ Accepts rules states
one_accepts rules states i q within is accepted = (λ _. record { state = q; among = (i, within, sym is); accepted = accepted }, λ _. refl)

-- ---- the whole sweep

pub each_one : {X : Type 0} (R : X → Type 0) (lent states : List X) (x : X) → lent ≡ states → states ≡ x ∷ [] → R x → Each R lent
each_one R lent states x same one here y there =
    elim (in_cons x [] y (subst (λ ys. Contains ys y) one (subst (λ ys. Contains ys y) same there))) [
      | inl e ↦ subst R e here
      | inr none ↦ absurd (nothing_in_empty y none)
    ]

pub each_end : {X : Type 0} (occurs : ℕ → X → Type 0) (lent ends : List X) (count places : ℕ) → lent ≡ ends → places ≡ count → Each (occurs (0 + count)) ends → Each (occurs places) lent
each_end occurs lent ends count places same is each x there =
    let e : 0 + count ≡ places = omega (arith, is) in
    subst (λ n. occurs n x) e (each x (subst (λ ys. Contains ys x) same there))

pub met_is : {Q : Type 0} → SidesAccept → (table : List Node) (places : List Place) (rules : Rules Q) (first second third : Slot) → IsTable table → Fits table places first → Fits table places second
    → Fits table places third → (filter : Rules (ℕ × (ℕ × ℕ))) → filter ≡ both (slot_rules table places first) (both (slot_rules table places second) (slot_rules table places third))
    → (states lent ends lent_ends : List Q) (start : Q) → lent ≡ states → states ≡ start ∷ [] → start ≡ rules.start → lent_ends ≡ ends
    → ((rest : List Bool) → SomePasses (record { rules = rules; from = 0; filter = filter }) (length places) rest lent ↔ SomeEnds rules (0 + length places) rest ends)
    → (P : Type 0) → P ↔ Accepts rules lent_ends → P ↔ Meets table places rules first second third
met_is {Q} law table places rules first second third legal fits_first fits_second fits_third filter filter_is states lent ends lent_ends start same one started same_ends leads P answer =
    let three = both (slot_rules table places first) (both (slot_rules table places second) (slot_rules table places third)) in
    let moved = subst (λ f. (rest : List Bool) → SomePasses (record { rules = rules; from = 0; filter = f }) (length places) rest lent ↔ SomeEnds rules (0 + length places) rest ends) filter_is leads in
    let here = subst (λ (ys : List Q). SomePasses (record { rules = rules; from = 0; filter = three }) (length places) [] ys ↔ SomeEnds rules (0 + length places) [] ends) (same ∙ one) (moved []) in
    let meets = passes_is_meets law table places rules first second third legal fits_first fits_second fits_third start started in
    let accepts_at = ends_accept rules (0 + length places) ends in
    let told = subst (λ ys. P ↔ Accepts rules ys) same_ends answer in
    (λ p. meets.0 (here.1 (accepts_at.1 (told.0 p))), λ m. told.1 (accepts_at.0 (here.0 (meets.1 m))))
