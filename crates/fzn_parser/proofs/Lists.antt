-- Lists of parts with a comma between two: the turns of a loop over them.
use Rattle.std.proofs.Common.{◌≡◌, ℕ, zero, suc, ◌<◌, ◌≤◌, Bool, true, false, List, [], ◌∷◌, ◌++◌, length, Result, Ok, Err, sym, refl, ap, ◌∙◌, arith, append_assoc}
use Rattle.std.proofs.lemmas.List.{append-nil}
use Rattle.fzn_reader.specs.declared.tokens.Symbol.{Symbol}
use Rattle.fzn_parser.specs.declared.faults.What.{What}
use Rattle.fzn_parser.specs.declared.faults.SyntaxFault.{SyntaxFault}
use Rattle.fzn_parser.specs.Grammar.{Sign}
use Rattle.fzn_parser.specs.Reading.{◌>>=◌, Reader, first, goes_on, one_more, more_in, more, with_front}
use Rattle.fzn_parser.proofs.Readers.{Shrinks, bind_same, goes_on_less}

module _ {A : Type 0} (n : ℕ) (part : Reader A) (close : Symbol) (what : What) (shrinks : Shrinks part) where
  -- one turn is the same by readers that read the same from fewer tokens
  same_turn : (f g : Reader (List A)) (q : Bool × List Sign) → ((ys : List Sign) → length ys < length q.1 → f ys ≡ g ys) → one_more part f q ≡ one_more part g q
  same_turn f g (true, xs) same =
      bind_same (part xs) (λ x. f x.1 >>= (λ rest. Ok (x.0 ∷ rest.0, rest.1))) (λ x. g x.1 >>= (λ rest. Ok (x.0 ∷ rest.0, rest.1)))
      (λ x h. ap (λ (r : Result (List A × List Sign) SyntaxFault). r >>= (λ rest. Ok (x.0 ∷ rest.0, rest.1))) (same x.1 (shrinks.less xs x.0 x.1 h)))
  same_turn f g (false, xs) same = refl

  -- more turns than tokens make no difference
  enough : (f g : ℕ) (xs : List Sign) → length xs ≤ f → length xs ≤ g → more_in n part close what f xs ≡ more_in n part close what g xs
  unfolding more_in goes_on first
  enough zero zero xs a b = refl
  enough zero (suc g) [] a b = refl
  enough zero (suc g) (x ∷ xs) a b = absurd (omega arith)
  enough (suc f) zero [] a b = refl
  enough (suc f) zero (x ∷ xs) a b = absurd (omega arith)
  enough (suc f) (suc g) xs a b =
      bind_same (goes_on n close what xs) (one_more part (more_in n part close what f)) (one_more part (more_in n part close what g))
      (λ q h. same_turn (more_in n part close what f) (more_in n part close what g) q
      (λ ys less. enough f g ys (let taken : length q.1 < length xs = goes_on_less n close what xs q h in omega arith) (let taken : length q.1 < length xs = goes_on_less n close what xs q h in omega arith)))

  -- a turn
  turn : (xs : List Sign) → more n part close what xs ≡ (goes_on n close what xs >>= one_more part (more n part close what))
  unfolding more more_in goes_on first
  turn [] = refl
  turn (x ∷ xs) =
      bind_same (goes_on n close what (x ∷ xs)) (one_more part (more_in n part close what (length xs))) (one_more part (more n part close what))
      (λ q h. same_turn (more_in n part close what (length xs)) (more n part close what) q
      (λ ys less. enough (length xs) (length ys) ys (let taken : length q.1 < length (x ∷ xs) = goes_on_less n close what (x ∷ xs) q h in omega arith) (omega arith)))

  pub list_ends : (front : List A) (xs ys : List Sign) → goes_on n close what xs ≡ Ok (false, ys) → with_front front (more n part close what xs) ≡ Ok (front, ys)
  list_ends front xs ys h =
      ap (with_front front) (turn xs ∙ ap (λ r. r >>= one_more part (more n part close what)) h) ∙ ap (λ zs. Ok (zs, ys)) (append-nil front)

  pub list_stops : (front : List A) (xs : List Sign) (e : SyntaxFault) → goes_on n close what xs ≡ Err e → with_front front (more n part close what xs) ≡ Err e
  list_stops front xs e h = ap (with_front front) (turn xs ∙ ap (λ r. r >>= one_more part (more n part close what)) h)

  pub part_stops : (front : List A) (xs ys : List Sign) (e : SyntaxFault) → goes_on n close what xs ≡ Ok (true, ys) → part ys ≡ Err e → with_front front (more n part close what xs) ≡ Err e
  part_stops front xs ys e h k =
      ap (with_front front) (turn xs ∙ ap (λ r. r >>= one_more part (more n part close what)) h ∙ ap (λ r. r >>= (λ x. more n part close what x.1 >>= (λ rest. Ok (x.0 ∷ rest.0, rest.1)))) k)

  with_one : (front : List A) (x : A) (r : Result (List A × List Sign) SyntaxFault) → with_front front (r >>= (λ rest. Ok (x ∷ rest.0, rest.1))) ≡ with_front (front ++ x ∷ []) r
  with_one front x (Ok rest) = ap (λ zs. Ok (zs, rest.1)) (sym (append_assoc front (x ∷ []) rest.0))
  with_one front x (Err e) = refl

  pub list_takes : (front : List A) (xs ys : List Sign) (x : A) (zs : List Sign) → goes_on n close what xs ≡ Ok (true, ys) → part ys ≡ Ok (x, zs)
      → with_front front (more n part close what xs) ≡ with_front (front ++ x ∷ []) (more n part close what zs)
  list_takes front xs ys x zs h k =
      ap (with_front front) (turn xs ∙ ap (λ r. r >>= one_more part (more n part close what)) h ∙ ap (λ r. r >>= (λ x. more n part close what x.1 >>= (λ rest. Ok (x.0 ∷ rest.0, rest.1)))) k)
      ∙ with_one front x (more n part close what zs)

  -- a turn leaves fewer tokens
  pub turn_less : (xs ys : List Sign) (x : A) (zs : List Sign) → goes_on n close what xs ≡ Ok (true, ys) → part ys ≡ Ok (x, zs) → length zs < length xs
  turn_less xs ys x zs h k =
      let a : length ys < length xs = goes_on_less n close what xs (true, ys) h in
      let b : length zs < length ys = shrinks.less ys x zs k in omega arith
