-- Lists of arguments by the depth that is left, and annotations one after the other.
use Rattle.std.proofs.Common.{◌≡◌, ◌≢◌, ℕ, zero, suc, ◌-◌, ◌<◌, ◌≤◌, List, [], ◌∷◌, ◌++◌, length, Option, Some, None, Result, Ok, Err, sym, refl, ap, ◌∙◌, arith, append_assoc}
use Rattle.std.proofs.lemmas.List.{append-nil}
use Rattle.fzn_reader.specs.declared.tokens.Symbol.{Symbol}
use Rattle.fzn_reader.specs.declared.tokens.Symbol.TheVariants as symbols
use Rattle.fzn_parser.specs.declared.faults.What.{What}
use Rattle.fzn_parser.specs.declared.faults.SyntaxFault.{SyntaxFault}
use Rattle.fzn_parser.specs.declared.faults.SyntaxFault.TheVariants as faults
use Rattle.fzn_parser.specs.declared.tree.Ann.{Ann}
use Rattle.fzn_parser.specs.Grammar.{Sign}
use Rattle.fzn_parser.specs.Reading.{◌>>=◌, Reader, with_front, a_list, after_if, argument, nested, annotation, one_annotation, annotations_in, annotations}
use Rattle.fzn_parser.proofs.Readers.{bind_same}
use Rattle.fzn_parser.proofs.Leaves.{takes_shrinks, annotation_takes, after_if_less}

pub nested_none : (n depth : ℕ) (close : Symbol) (what : What) (at : ℕ) (xs : List Sign) → depth ≡ 0 → nested n depth close what at xs ≡ Err (faults.TooDeep at)
unfolding nested
nested_none n depth close what at xs is = ap (λ d. nested n d close what at xs) is

pub nested_some : (n depth : ℕ) (close : Symbol) (what : What) (at : ℕ) (xs : List Sign) → depth ≢ 0 → nested n depth close what at xs ≡ a_list n (argument n (nested n (depth - 1))) close what xs
unfolding nested
nested_some n zero close what at xs is = absurd (is refl)
nested_some n (suc d) close what at xs is = let same : suc d - 1 ≡ d = omega arith in ap (λ k. a_list n (argument n (nested n k)) close what xs) (sym same)

module _ (n depth : ℕ) where
  same_turn : (f g : Reader (List Ann)) (xs : List Sign) (o : Option (ℕ × List Sign)) → after_if symbols.ColonColon xs ≡ o → ((ys : List Sign) → length ys < length xs → f ys ≡ g ys) → one_annotation (annotation n depth) f xs o ≡ one_annotation (annotation n depth) g xs o
  same_turn f g xs None there same = refl
  same_turn f g xs (Some r) there same =
      bind_same (annotation n depth r.1) (λ a. f a.1 >>= (λ m. Ok (a.0 ∷ m.0, m.1))) (λ a. g a.1 >>= (λ m. Ok (a.0 ∷ m.0, m.1)))
      (λ a h. ap (λ (q : Result (List Ann × List Sign) SyntaxFault). q >>= (λ m. Ok (a.0 ∷ m.0, m.1)))
      (same a.1 (let one : length a.1 < length r.1 = (takes_shrinks (annotation n depth) (annotation_takes n depth)).less r.1 a.0 a.1 h in let two : length r.1 < length xs = after_if_less symbols.ColonColon xs r there in omega arith)))

  enough : (f g : ℕ) (xs : List Sign) → length xs ≤ f → length xs ≤ g → annotations_in n depth f xs ≡ annotations_in n depth g xs
  unfolding annotations_in after_if
  enough zero zero xs a b = refl
  enough zero (suc g) [] a b = refl
  enough zero (suc g) (x ∷ xs) a b = absurd (omega arith)
  enough (suc f) zero [] a b = refl
  enough (suc f) zero (x ∷ xs) a b = absurd (omega arith)
  enough (suc f) (suc g) xs a b =
      same_turn (annotations_in n depth f) (annotations_in n depth g) xs (after_if symbols.ColonColon xs) refl (λ ys less. enough f g ys (omega arith) (omega arith))

  turn : (xs : List Sign) → annotations n depth xs ≡ one_annotation (annotation n depth) (annotations n depth) xs (after_if symbols.ColonColon xs)
  unfolding annotations annotations_in after_if
  turn [] = refl
  turn (x ∷ xs) =
      same_turn (annotations_in n depth (length xs)) (annotations n depth) (x ∷ xs) (after_if symbols.ColonColon (x ∷ xs)) refl
      (λ ys less. enough (length xs) (length ys) ys (omega arith) (omega arith))

  pub no_more_annotations : (front : List Ann) (xs : List Sign) → after_if symbols.ColonColon xs ≡ None → with_front front (annotations n depth xs) ≡ Ok (front, xs)
  no_more_annotations front xs h =
      ap (with_front front) (turn xs ∙ ap (one_annotation (annotation n depth) (annotations n depth) xs) h) ∙ ap (λ (zs : List Ann). Ok (zs, xs)) (append-nil front)

  pub annotation_stops : (front : List Ann) (xs : List Sign) (r : ℕ × List Sign) (e : SyntaxFault) → after_if symbols.ColonColon xs ≡ Some r → annotation n depth r.1 ≡ Err e → with_front front (annotations n depth xs) ≡ Err e
  annotation_stops front xs r e h k =
      ap (with_front front) (turn xs ∙ ap (one_annotation (annotation n depth) (annotations n depth) xs) h ∙ ap (λ (q : Result (Ann × List Sign) SyntaxFault). q >>= (λ a. annotations n depth a.1 >>= (λ m. Ok (a.0 ∷ m.0, m.1)))) k)

  with_one : (front : List Ann) (x : Ann) (r : Result (List Ann × List Sign) SyntaxFault) → with_front front (r >>= (λ m. Ok (x ∷ m.0, m.1))) ≡ with_front (front ++ x ∷ []) r
  with_one front x (Ok rest) = ap (λ (zs : List Ann). Ok (zs, rest.1)) (sym (append_assoc front (x ∷ []) rest.0))
  with_one front x (Err e) = refl

  pub annotation_more : (front : List Ann) (xs : List Sign) (r : ℕ × List Sign) (a : Ann) (zs : List Sign) → after_if symbols.ColonColon xs ≡ Some r → annotation n depth r.1 ≡ Ok (a, zs)
      → with_front front (annotations n depth xs) ≡ with_front (front ++ a ∷ []) (annotations n depth zs)
  annotation_more front xs r a zs h k =
      ap (with_front front) (turn xs ∙ ap (one_annotation (annotation n depth) (annotations n depth) xs) h ∙ ap (λ (q : Result (Ann × List Sign) SyntaxFault). q >>= (λ a. annotations n depth a.1 >>= (λ m. Ok (a.0 ∷ m.0, m.1)))) k)
      ∙ with_one front a (annotations n depth zs)

  pub annotation_less : (xs : List Sign) (r : ℕ × List Sign) (a : Ann) (zs : List Sign) → after_if symbols.ColonColon xs ≡ Some r → annotation n depth r.1 ≡ Ok (a, zs) → length zs < length xs
  annotation_less xs r a zs h k =
      let one : length zs < length r.1 = (takes_shrinks (annotation n depth) (annotation_takes n depth)).less r.1 a zs k in
      let two : length r.1 < length xs = after_if_less symbols.ColonColon xs r h in omega arith
