-- What is in every set and in some set, by the bits of their words.
use Rattle.std.proofs.Common.{◌≡◌, ℕ, ◌<◌, Bool, true, false, List, length, map, get_or, ℤ, sym, ap, ◌∙◌, subst, Some, Contains}
use Rattle.std.specs.Prelude.{slice_get}
use Rattle.std.proofs.lemmas.List.{length-map, get_or-map}
use Rattle.std.proofs.lemmas.Option.{slice_get-get_or}
use Rattle.set_meaning.specs.declared.kinds.Value.{Value}
use Rattle.set_meaning.specs.declared.kinds.Value.TheVariants as value
use Rattle.set_meaning.specs.Kinds.{IsSetWithin}
use Rattle.set_meaning.specs.Sets.{Has, IsSubset}
use Rattle.bit_layout.specs.Words.{lists}
use Rattle.bit_layout.proofs.Elements.{lists_true, listed_is_in}
use Rattle.diagram_view.specs.Words.{ListWords, IsWord}
use Rattle.diagram_view.specs.Bounds.{AreInEvery, AreInSome}
use Rattle.value_bounds.specs.Bounds.{AreSetBounds}

-- the word is that of the set, over the universe u
pub record IsSetWord (u : List ℤ) (word : List Bool) (s : List ℤ) : Type 0 where
  pub lies : IsSetWithin u s
  pub bits : map (lists s) u ≡ word

-- the words of W are those of the sets over u that pass f
pub record HaveSets (u : List ℤ) (f : Value → Bool) (W : ListWords) : Type 0 where
  pub valued : (word : List Bool) → IsWord W word → (s : List ℤ) × (f (value.Set s) ≡ true) × IsSetWord u word s
  pub spelled : (s : List ℤ) → f (value.Set s) ≡ true → (word : List Bool) × IsWord W word × IsSetWord u word s

-- the place of an element in the universe
place_of : (u : List ℤ) (word : List Bool) (s : List ℤ) (x : ℤ) → IsSetWord u word s → Has s x → Contains u x
unfolding Has IsSubset
place_of u word s x is h = is.lies.within x h

-- the bit there
bit_there : (u : List ℤ) (word : List Bool) (s : List ℤ) (x : ℤ) (i : ℕ) → IsSetWord u word s → i < length u → get_or u i x ≡ x → slice_get word i ≡ Some (lists s x)
bit_there u word s x i is within at =
    let long : length (map (lists s) u) ≡ length u = length-map u (lists s) in
    let inside : i < length (map (lists s) u) = subst (λ n. i < n) (sym long) within in
    subst (λ ws. slice_get ws i ≡ Some (lists s x)) is.bits
    (slice_get-get_or (map (lists s) u) i true inside ∙ ap Some (get_or-map (lists s) u i x true within ∙ ap (lists s) at))

element_on : (u : List ℤ) (word : List Bool) (s : List ℤ) (x : ℤ) (i : ℕ) → IsSetWord u word s → i < length u → get_or u i x ≡ x → Has s x → slice_get word i ≡ Some true
unfolding Has
element_on u word s x i is within at h = bit_there u word s x i is within at ∙ ap Some (lists_true s x h)

on_element : (u : List ℤ) (word : List Bool) (s : List ℤ) (x : ℤ) (i : ℕ) → IsSetWord u word s → i < length u → get_or u i x ≡ x → slice_get word i ≡ Some true → Has s x
unfolding Has
on_element u word s x i is within at on =
    let e : Some (lists s x) ≡ Some true = sym (bit_there u word s x i is within at) ∙ on in
    let same : lists s x ≡ true = cc in
    listed_is_in s x same

not_both : (word : List Bool) (i : ℕ) → slice_get word i ≡ Some true → slice_get word i ≡ Some false → ⊥
not_both word i on off = let e : Some true ≡ Some false = sym on ∙ off in cc

-- an element of the universe is one of the set, where the bit cannot be false
unless_off : (u : List ℤ) (word : List Bool) (s : List ℤ) (x : ℤ) (i : ℕ) → IsSetWord u word s → i < length u → get_or u i x ≡ x → (slice_get word i ≡ Some false → ⊥) → Has s x
unless_off u word s x i is within at never =
    elim (lists s x) as (λ b. slice_get word i ≡ Some b → Has s x) [
      | true ↦ λ on. on_element u word s x i is within at on
      | false ↦ λ off. absurd (never off)
    ] (bit_there u word s x i is within at)

pub sets_bound : (u : List ℤ) (f : Value → Bool) (W : ListWords) (every_word some_word : List Bool) (every some : List ℤ) → HaveSets u f W
    → (s : List ℤ) × (f (value.Set s) ≡ true) → AreInEvery W every_word → AreInSome W some_word → IsSetWord u every_word every → IsSetWord u some_word some → AreSetBounds f every some
sets_bound u f W every_word some_word every some sets one in_all in_one every_is some_is = record {
  there = one;
  every_ascends = every_is.lies.ascending;
  some_ascends = some_is.lies.ascending;
  in_every = λ x. (
    λ h s passes.
        let i = place_of u every_word every x every_is h in
        let r = sets.spelled s passes in
        on_element u r.0 s x i.0 r.2 i.1 i.2 (in_all.on i.0 (element_on u every_word every x i.0 every_is i.1 i.2 h) r.0 r.1),
    λ all.
        let first = sets.spelled one.0 one.1 in
        let i = place_of u first.0 one.0 x first.2 (all one.0 one.1) in
        unless_off u every_word every x i.0 every_is i.1 i.2 (λ off.
        let other = in_all.off i.0 off in
        let r = sets.valued other.word other.is in
        not_both other.word i.0 (element_on u other.word r.0 x i.0 r.2 i.1 i.2 (all r.0 r.1)) other.at),
  );
  in_some = λ x. (
    λ h.
        let i = place_of u some_word some x some_is h in
        let other = in_one.on i.0 (element_on u some_word some x i.0 some_is i.1 i.2 h) in
        let r = sets.valued other.word other.is in
        (r.0, r.1, on_element u other.word r.0 x i.0 r.2 i.1 i.2 other.at),
    λ h.
        let r = sets.spelled h.0 h.1 in
        let i = place_of u r.0 h.0 x r.2 h.2 in
        unless_off u some_word some x i.0 some_is i.1 i.2 (λ off. not_both r.0 i.0 (element_on u r.0 h.0 x i.0 r.2 i.1 i.2 h.2) (in_one.off i.0 off r.0 r.1)),
  );
}
