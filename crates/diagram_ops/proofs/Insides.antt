-- Whether a question asks for some word, and whether a set lies in another: a word of their difference shows that it does not.
use Rattle.std.proofs.Common.{◌≡◌, ℕ, ◌+◌, arith, ap, Bool, true, false, not, ◌&&◌, IsTrue, refl, sym, ◌∙◌, inl, inr, ◌⊎◌}
use Rattle.std.specs.Prelude.{◌↔◌, MatchBool}
use Rattle.std.proofs.lemmas.Bool.{and_parts}
use Rattle.diagram_arena.specs.declared.nodes.Ref.{Ref}
use Rattle.diagram_arena.specs.declared.nodes.Ref.TheVariants.{Zero}
use Rattle.diagram_arena.specs.Table.{Word, Words, Table, has, IsLive, IsReduced}
use Rattle.diagram_arena.specs.Part.{with_bit, with_front}
use Rattle.diagram_arena.proofs.Meaning.{has-zero, has-one, depth-zero, induct}
use Rattle.diagram_arena.proofs.Canonical.{has-child}
use Rattle.diagram_ops.specs.declared.question.Question.{Question}
use Rattle.diagram_ops.specs.Words.{without, Lies, Leaves, HasNone, HasSome}
use Rattle.diagram_ops.specs.Steps.{side, asked, AreLive, IsAnswer, IsStep}
use Rattle.diagram_ops.proofs.Steps.{first_within}

-- each ref but Zero has a word
pub has_word : (t : Table) → IsReduced t → (r : Ref) → IsLive t r → (r ≡ Zero) ⊎ ((w : Word) × (has t r w ≡ true))
has_word t ok r live =
    induct t ok (λ s. (s ≡ Zero) ⊎ ((w : Word) × (has t s w ≡ true))) (inl refl) (inr ((λ _. true), has-one t (λ _. true)))
    (λ i n at sides. elim (sides false) [
      | inr (w, is) ↦ inr (with_bit w n.bit false, has-child t ok i n at w false ∙ is)
      | inl lo ↦ elim (sides true) [
        | inr (w, is) ↦ inr (with_bit w n.bit true, has-child t ok i n at w true ∙ is)
        | inl hi ↦ absurd (ok.differ i n at (lo ∙ sym hi))
      ]
    ]) r live

in_other : (a b : Bool) → a && not b ≡ false → a ≡ true → b ≡ true
in_other true true off is = refl
in_other true false off is = sym off
in_other false b off is = absurd (cc)

not_in : (b : Bool) → not b ≡ true → b ≡ false
not_in true off = sym off
not_in false off = refl

pub not_false : (b : Bool) → not b ≡ false → b ≡ true
not_false true e = refl
not_false false e = absurd (cc)

pub at_true : (b : Bool) (P Q : Type 0) → b ≡ true → MatchBool b P Q → P
at_true true P Q e is = is
at_true false P Q e is = absurd (cc)

pub at_false : (b : Bool) (P Q : Type 0) → b ≡ false → MatchBool b P Q → Q
at_false true P Q e is = absurd (cc)
at_false false P Q e is = is

-- whether some word is in the one set and not in the other
pub inside_case : (V W : Words) (some : Bool) → MatchBool some (HasSome (without V W)) (HasNone (without V W)) → MatchBool (not some) (Lies V W) (Leaves V W)
inside_case V W true found = let parts = and_parts (V found.0) (not (W found.0)) found.1 in (found.0, parts.0, not_in (W found.0) parts.1)
inside_case V W false none = λ w in_first. in_other (V w) (W w) (none w) in_first

-- an answer that is Zero says that no word is asked for, another that some is
pub answer_some : (t : Table) → IsReduced t → (q : Question) (r : Ref) (zero : Bool) → IsAnswer t q r → (IsTrue zero ↔ (r ≡ Zero))
    → MatchBool (not zero) (HasSome (asked t q)) (HasNone (asked t q))
answer_some t ok q r true is zero =
    let e : r ≡ Zero = zero.0 refl in
    λ w. sym (is.words w) ∙ ap (λ s. has t s w) e ∙ has-zero t w
answer_some t ok q r false is zero =
    elim (has_word t ok r is.live) [
      | inl e ↦ let wrong : false ≡ true = zero.1 e in absurd (cc)
      | inr (w, here) ↦ (w, sym (is.words w) ∙ here)
    ]

-- a word of a side is one of the whole, once its first bits are those of the side
pub side_some : (t : Table) (q : Question) (bit : ℕ) (lo hi : Question) → IsStep t q bit lo hi → (v : Bool) → HasSome (asked t (side lo hi v)) → HasSome (asked t q)
side_some t q bit lo hi is v found = (with_front (bit + 1) (λ _. v) found.0, sym (is.front v found.0) ∙ found.1)

none_at : (t : Table) (lo hi : Question) → HasNone (asked t lo) → HasNone (asked t hi) → (v : Bool) (w : Word) → asked t (side lo hi v) w ≡ false
none_at t lo hi los his true w = his w
none_at t lo hi los his false w = los w

pub sides_none : (t : Table) (q : Question) (bit : ℕ) (lo hi : Question) → IsStep t q bit lo hi → HasNone (asked t lo) → HasNone (asked t hi) → HasNone (asked t q)
sides_none t q bit lo hi is los his w = is.words w ∙ none_at t lo hi los his (w bit) w

-- Zero is the answer where no word is asked for
pub zero_answers : (t : Table) → IsReduced t → (q : Question) → AreLive t q → HasNone (asked t q) → IsAnswer t q Zero
zero_answers t ok q live none = record {
  given = live;
  live = tt;
  deep = let zero = depth-zero t in let within = first_within t ok q live in omega (arith, zero, within);
  words = λ w. has-zero t w ∙ sym (none w);
}
