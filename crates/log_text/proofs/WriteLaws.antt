-- What is written is what was there with more at its end, and the pieces that are written make the spelling.
use Rattle.std.proofs.Common.{ℕ, ◌≡◌, ◌≤◌, List, [], ◌∷◌, ◌++◌, map, length, take, refl, sym, ap, ◌∙◌, arith, length-append, append_assoc, append-nil}
use Rattle.std.specs.Prelude.{codes, Result, OnOk}
use Rattle.std.proofs.lemmas.Result.{on_ok_weaker}
use Rattle.log_text.specs.declared.line.Line.{Line}
use Rattle.log_text.specs.declared.line.Line.TheVariants as lines
use Rattle.std.specs.Fmt.{decimal}
use Rattle.std.specs.List.{flat_map, join_by}
use Rattle.std.proofs.lemmas.List.{take_at, take-take}
use Rattle.std.proofs.lemmas.List.Folds.{flat_map-map}
use Rattle.std.proofs.lemmas.Grind.{flat_map-append}
use Rattle.log_text.specs.declared.line.LogValue.{LogValue}
use Rattle.log_text.specs.Begins.{Begins}
use Rattle.log_text.specs.Spelling.{spelling, side_words, value_word}

pub begins_through : (xs more ys zs : List ℕ) → ys ≡ xs ++ more → Begins ys zs → Begins xs zs
begins_through xs more ys zs is begins = record {
  kept =
      let shorter : length xs ≤ length ys = omega (arith, ap length is, length-append xs more) in
      sym (take-take (length xs) (length ys) zs shorter) ∙ ap (take (length xs)) (begins.kept ∙ is) ∙ take_at xs more _ refl;
}

-- five pieces, one after another
pub grouped : (out0 out1 out2 out3 out4 a b c d e : List ℕ) → out1 ≡ out0 ++ a → out2 ≡ out1 ++ b → out3 ≡ out2 ++ c → out4 ≡ out3 ++ d → out4 ++ e ≡ out0 ++ (a ++ (b ++ (c ++ (d ++ e))))
grouped out0 out1 out2 out3 out4 a b c d e is1 is2 is3 is4 = simp (is4, is3, is2, is1, append_assoc)

-- the sides, word by word
pub sides_spaced : (sides : List (ℕ × ℕ)) → flat_map (λ side. (32 ∷ decimal side.0) ++ 32 ∷ decimal side.1) sides ≡ flat_map (λ w. 32 ∷ w) (flat_map side_words sides)
sides_spaced [] = refl
sides_spaced (s ∷ sides) = append_assoc (32 ∷ decimal s.0) (32 ∷ decimal s.1) _ ∙ ap (λ rest. (32 ∷ decimal s.0) ++ ((32 ∷ decimal s.1) ++ rest)) (sides_spaced sides)

-- a line that ends in numbers and sides
pub numbers_and_sides : (out0 out1 out2 letter numbers : List ℕ) (sides : List (ℕ × ℕ)) → out1 ≡ out0 ++ letter → out2 ≡ out1 ++ flat_map (λ n. 32 ∷ decimal n) numbers
    → out2 ++ flat_map (λ side. (32 ∷ decimal side.0) ++ 32 ∷ decimal side.1) sides ≡ out0 ++ join_by (λ w. w) (codes " ") (letter ∷ (map decimal numbers ++ flat_map side_words sides))
numbers_and_sides out0 out1 out2 letter numbers sides is1 is2 =
    simp (is2, is1, sides_spaced sides, flat_map-append (λ w. 32 ∷ w) (map decimal numbers) (flat_map side_words sides), flat_map-map (λ w. 32 ∷ w) decimal numbers, append_assoc)

pub axiom_written : {E : Type 0} (r : Result (Unit {0}) E) (out0 out1 out2 now : List ℕ) (line : Line) (number constraint : ℕ) (sides given : List (ℕ × ℕ)) → line ≡ lines.Axiom number constraint sides → given ≡ sides
    → out1 ≡ out0 ++ codes "a" → out2 ≡ out1 ++ flat_map (λ n. 32 ∷ decimal n) (number ∷ constraint ∷ [])
    → OnOk r (now ≡ out2 ++ flat_map (λ side. (32 ∷ decimal side.0) ++ 32 ∷ decimal side.1) given) → OnOk r (now ≡ out0 ++ spelling line)
axiom_written r out0 out1 out2 now line number constraint sides given is same is1 is2 ok =
    on_ok_weaker r (λ h. h ∙ ap (λ ss. out2 ++ flat_map (λ side. (32 ∷ decimal side.0) ++ 32 ∷ decimal side.1) ss) same
    ∙ numbers_and_sides out0 out1 out2 (codes "a") (number ∷ constraint ∷ []) sides is1 is2 ∙ ap (λ l. out0 ++ spelling l) (sym is)) ok

pub resolvent_written : {E : Type 0} (r : Result (Unit {0}) E) (out0 out1 out2 now : List ℕ) (line : Line) (number left right pivot : ℕ) (sides given : List (ℕ × ℕ)) → line ≡ lines.Resolvent number left right pivot sides → given ≡ sides
    → out1 ≡ out0 ++ codes "r" → out2 ≡ out1 ++ flat_map (λ n. 32 ∷ decimal n) (number ∷ left ∷ right ∷ pivot ∷ [])
    → OnOk r (now ≡ out2 ++ flat_map (λ side. (32 ∷ decimal side.0) ++ 32 ∷ decimal side.1) given) → OnOk r (now ≡ out0 ++ spelling line)
resolvent_written r out0 out1 out2 now line number left right pivot sides given is same is1 is2 ok =
    on_ok_weaker r (λ h. h ∙ ap (λ ss. out2 ++ flat_map (λ side. (32 ∷ decimal side.0) ++ 32 ∷ decimal side.1) ss) same
    ∙ numbers_and_sides out0 out1 out2 (codes "r") (number ∷ left ∷ right ∷ pivot ∷ []) sides is1 is2 ∙ ap (λ l. out0 ++ spelling l) (sym is)) ok

-- an answer
pub values_and_sides : (out0 out1 out2 out3 out4 : List ℕ) (number : ℕ) (values : List LogValue) (sides : List (ℕ × ℕ)) → out1 ≡ out0 ++ codes "s" → out2 ≡ out1 ++ flat_map (λ n. 32 ∷ decimal n) (number ∷ [])
    → out3 ≡ out2 ++ flat_map (λ value. 32 ∷ value_word value) values → out4 ≡ out3 ++ codes " |"
    → out4 ++ flat_map (λ side. (32 ∷ decimal side.0) ++ 32 ∷ decimal side.1) sides
    ≡ out0 ++ join_by (λ w. w) (codes " ") (codes "s" ∷ decimal number ∷ (map value_word values ++ codes "|" ∷ flat_map side_words sides))
values_and_sides out0 out1 out2 out3 out4 number values sides is1 is2 is3 is4 =
    let end : flat_map (λ w. 32 ∷ w) (map value_word values ++ codes "|" ∷ flat_map side_words sides)
    ≡ flat_map (λ value. 32 ∷ value_word value) values ++ (codes " |" ++ flat_map (λ side. (32 ∷ decimal side.0) ++ 32 ∷ decimal side.1) sides)
    = flat_map-append (λ w. 32 ∷ w) (map value_word values) (codes "|" ∷ flat_map side_words sides)
    ∙ ap (λ front. front ++ flat_map (λ w. 32 ∷ w) (codes "|" ∷ flat_map side_words sides)) (flat_map-map (λ w. 32 ∷ w) value_word values)
    ∙ ap (λ rest. flat_map (λ value. 32 ∷ value_word value) values ++ (codes " |" ++ rest)) (sym (sides_spaced sides)) in
    let joined : join_by (λ w. w) (codes " ") (codes "s" ∷ decimal number ∷ (map value_word values ++ codes "|" ∷ flat_map side_words sides))
    ≡ codes "s" ++ ((32 ∷ decimal number) ++ (flat_map (λ value. 32 ∷ value_word value) values ++ (codes " |" ++ flat_map (λ side. (32 ∷ decimal side.0) ++ 32 ∷ decimal side.1) sides)))
    = ap (λ rest. codes "s" ++ ((32 ∷ decimal number) ++ rest)) end in
    rw joined (grouped out0 out1 out2 out3 out4 (codes "s") (32 ∷ decimal number) _ (codes " |") _ is1 (is2 ∙ ap (λ n. out1 ++ n) (append-nil (32 ∷ decimal number))) is3 is4)

pub answer_written : {E : Type 0} (r : Result (Unit {0}) E) (out0 out1 out2 out3 out4 now : List ℕ) (line : Line) (number : ℕ) (values shown : List LogValue) (sides given : List (ℕ × ℕ)) → line ≡ lines.Answer number values sides
    → shown ≡ values → given ≡ sides → out1 ≡ out0 ++ codes "s" → out2 ≡ out1 ++ flat_map (λ n. 32 ∷ decimal n) (number ∷ []) → out3 ≡ out2 ++ flat_map (λ value. 32 ∷ value_word value) shown → out4 ≡ out3 ++ codes " |"
    → OnOk r (now ≡ out4 ++ flat_map (λ side. (32 ∷ decimal side.0) ++ 32 ∷ decimal side.1) given) → OnOk r (now ≡ out0 ++ spelling line)
answer_written r out0 out1 out2 out3 out4 now line number values shown sides given is same_values same is1 is2 is3 is4 ok =
    on_ok_weaker r (λ h. h ∙ ap (λ ss. out4 ++ flat_map (λ side. (32 ∷ decimal side.0) ++ 32 ∷ decimal side.1) ss) same
    ∙ values_and_sides out0 out1 out2 out3 out4 number values sides is1 is2 (is3 ∙ ap (λ vs. out2 ++ flat_map (λ value. 32 ∷ value_word value) vs) same_values) is4 ∙ ap (λ l. out0 ++ spelling l) (sym is)) ok
