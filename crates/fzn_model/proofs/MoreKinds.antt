-- The kinds of one more item, and what they count.
use Rattle.std.proofs.Common.{◌≡◌, ◌+◌, List, [], ◌∷◌, ◌++◌, Option, Some, None, refl, sym, ap, ◌∙◌, append_assoc}
use Rattle.std.proofs.lemmas.List.{append-nil}
use Rattle.fzn_parser.specs.declared.tree.Item.{Item}
use Rattle.fzn_model.specs.Lists.{append_some, each_after}
use Rattle.fzn_model.specs.ProblemOf.{kinds_in, kinds_of}

module _ {A : Type 0} where
  none_behind : (a : Option (List A)) → append_some a (Some []) ≡ append_some (Some []) a
  none_behind None = refl
  none_behind (Some xs) = ap Some (append-nil xs)

  regroup : (a b c : Option (List A)) → append_some a (append_some b c) ≡ append_some (append_some a b) c
  regroup None b c = refl
  regroup (Some xs) None c = refl
  regroup (Some xs) (Some ys) None = refl
  regroup (Some xs) (Some ys) (Some zs) = ap Some (sym (append_assoc xs ys zs))

  more_after : {X : Type 0} (f : X → Option (List A)) (done xs : List X) (x : X)
      → each_after (λ before y. f y) done (xs ++ x ∷ []) ≡ append_some (each_after (λ before y. f y) done xs) (f x)
  more_after f done [] x = none_behind (f x)
  more_after f done (y ∷ ys) x =
      ap (append_some (f y)) (more_after f (done ++ y ∷ []) ys x) ∙ regroup (f y) (each_after (λ before z. f z) (done ++ y ∷ []) ys) (f x)

pub kinds_more : (before : List Item) (item : Item) → kinds_of (before ++ item ∷ []) ≡ append_some (kinds_of before) (kinds_in item.form)
kinds_more before item = more_after (λ i. kinds_in i.form) [] before item
