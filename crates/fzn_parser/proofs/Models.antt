-- Items one after the other: the turns of the loop over them.
use Rattle.std.proofs.Common.{◌≡◌, ℕ, zero, suc, ◌<◌, ◌≤◌, true, false, cond, List, [], ◌∷◌, ◌++◌, length, Result, Ok, Err, sym, refl, ap, ◌∙◌, arith, append_assoc}
use Rattle.std.proofs.lemmas.Bool.{cond-true, cond-false}
use Rattle.fzn_parser.specs.declared.faults.SyntaxFault.{SyntaxFault}
use Rattle.fzn_parser.specs.declared.tree.Item.{Item}
use Rattle.fzn_parser.specs.Grammar.{Sign}
use Rattle.fzn_parser.specs.Reading.{◌>>=◌, first, item, is_solve, at_end, one_item, items_in, model, with_items}
use Rattle.fzn_parser.proofs.Readers.{bind_same}
use Rattle.fzn_parser.proofs.Leaves.{takes_shrinks, item_takes}

module _ (n depth : ℕ) where
  same_turn : (f g : List Sign → Result (List Item) SyntaxFault) (r : Item × List Sign) → f r.1 ≡ g r.1 → one_item f r ≡ one_item g r
  same_turn f g r same = ap (λ (q : Result (List Item) SyntaxFault). cond (is_solve r.0.form) (at_end r.1) q >>= (λ is. Ok (r.0 ∷ is))) same

  enough : (f g : ℕ) (xs : List Sign) → length xs ≤ f → length xs ≤ g → items_in n depth f xs ≡ items_in n depth g xs
  unfolding items_in item first
  enough zero zero xs a b = refl
  enough zero (suc g) [] a b = refl
  enough zero (suc g) (x ∷ xs) a b = absurd (omega arith)
  enough (suc f) zero [] a b = refl
  enough (suc f) zero (x ∷ xs) a b = absurd (omega arith)
  enough (suc f) (suc g) xs a b =
      bind_same (item n depth xs) (one_item (items_in n depth f)) (one_item (items_in n depth g))
      (λ r h. same_turn (items_in n depth f) (items_in n depth g) r
      (let less : length r.1 < length xs = (takes_shrinks (item n depth) (item_takes n depth)).less xs r.0 r.1 h in enough f g r.1 (omega arith) (omega arith)))

  turn : (xs : List Sign) → model n depth xs ≡ (item n depth xs >>= one_item (model n depth))
  unfolding model items_in item first
  turn [] = refl
  turn (x ∷ xs) =
      bind_same (item n depth (x ∷ xs)) (one_item (items_in n depth (length xs))) (one_item (model n depth))
      (λ r h. same_turn (items_in n depth (length xs)) (model n depth) r
      (let less : length r.1 < length (x ∷ xs) = (takes_shrinks (item n depth) (item_takes n depth)).less (x ∷ xs) r.0 r.1 h in enough (length xs) (length r.1) r.1 (omega arith) (omega arith)))

  pub item_stops : (front : List Item) (xs : List Sign) (e : SyntaxFault) → item n depth xs ≡ Err e → with_items front (model n depth xs) ≡ Err e
  item_stops front xs e h = ap (with_items front) (turn xs ∙ ap (λ (r : Result (Item × List Sign) SyntaxFault). r >>= one_item (model n depth)) h)

  with_one : (front : List Item) (x : Item) (r : Result (List Item) SyntaxFault) → with_items front (r >>= (λ is. Ok (x ∷ is))) ≡ with_items (front ++ x ∷ []) r
  with_one front x (Ok is) = ap (λ (zs : List Item). Ok zs) (sym (append_assoc front (x ∷ []) is))
  with_one front x (Err e) = refl

  -- the items so far with this one, and the end or the items after it
  pub item_ends : (front : List Item) (xs : List Sign) (x : Item) (ys : List Sign) → item n depth xs ≡ Ok (x, ys) → is_solve x.form ≡ true
      → with_items front (model n depth xs) ≡ with_items (front ++ x ∷ []) (at_end ys)
  item_ends front xs x ys h is =
      ap (with_items front) (turn xs ∙ ap (λ (r : Result (Item × List Sign) SyntaxFault). r >>= one_item (model n depth)) h ∙ ap (λ (q : Result (List Item) SyntaxFault). q >>= (λ is. Ok (x ∷ is))) (cond-true (is_solve x.form) (at_end ys) (model n depth ys) is))
      ∙ with_one front x (at_end ys)

  pub item_more : (front : List Item) (xs : List Sign) (x : Item) (ys : List Sign) → item n depth xs ≡ Ok (x, ys) → is_solve x.form ≡ false
      → with_items front (model n depth xs) ≡ with_items (front ++ x ∷ []) (model n depth ys)
  item_more front xs x ys h is =
      ap (with_items front) (turn xs ∙ ap (λ (r : Result (Item × List Sign) SyntaxFault). r >>= one_item (model n depth)) h ∙ ap (λ (q : Result (List Item) SyntaxFault). q >>= (λ is. Ok (x ∷ is))) (cond-false (is_solve x.form) (at_end ys) (model n depth ys) is))
      ∙ with_one front x (model n depth ys)

  pub item_less : (xs : List Sign) (x : Item) (ys : List Sign) → item n depth xs ≡ Ok (x, ys) → length ys < length xs
  item_less xs x ys h = (takes_shrinks (item n depth) (item_takes n depth)).less xs x ys h
