-- How many terms arrays stand for.
use Rattle.std.proofs.Common.{◌≡◌, suc, true, List, [], ◌∷◌, length, Option, Some, None, refl, sym, ap, ◌∙◌}
use Rattle.std.specs.Prelude.{is_some}
use Rattle.std.specs.Option.{option_map}
use Rattle.std.proofs.lemmas.List.{append-nil}
use Rattle.std.proofs.lemmas.Option.{none-some}
use Rattle.fzn_parser.specs.declared.tree.Basic.{Basic}
use Rattle.set_meaning.specs.Arguments.{cons_some}
use Rattle.set_meaning.specs.declared.problems.Term.{Term}
use Rattle.set_meaning.specs.declared.problems.Arg.TheVariants.{Many}
use Rattle.fzn_model.specs.Lists.{each_of}
use Rattle.fzn_model.specs.FaultsOf.{terms_of}

both_some : {B : Type 0} (o : Option B) (r : Option (List B)) (ys : List B) → cons_some o r ≡ Some ys
    → (y : B) × (zs : List B) × (r ≡ Some zs) × (ys ≡ y ∷ zs)
both_some (Some y) (Some zs) ys e = (y, zs, refl, cc)
both_some (Some y) None ys e = absurd (none-some ys e)
both_some None (Some zs) ys e = absurd (none-some ys e)
both_some None None ys e = absurd (none-some ys e)

length_each : (f : Basic → Option Term) (xs : List Basic) (ys : List Term) → each_of f xs ≡ Some ys → length ys ≡ length xs
length_each f [] ys e = let s : ys ≡ [] = cc in ap length s
length_each f (x ∷ xs) ys e =
    let w = both_some (f x) (each_of f xs) ys e in
    ap length w.3 ∙ ap suc (length_each f xs w.1 w.2)

some_is : {A : Type 0} (o : Option A) → is_some o ≡ true → (x : A) × (o ≡ Some x)
some_is (Some x) e = (x, refl)
some_is None e = absurd (cc)

pub count_of_all : (f : Basic → Option Term) (xs : List Basic) → is_some (each_of f xs) ≡ true
    → length xs ≡ length (terms_of (option_map Many (each_of f xs)))
count_of_all f xs e =
    let w = some_is (each_of f xs) e in
    rw w.1 (sym (length_each f xs w.0 w.1) ∙ ap length (sym (append-nil w.0)))
