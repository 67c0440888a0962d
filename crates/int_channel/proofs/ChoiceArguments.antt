-- The terms of arguments are small.
use Rattle.std.proofs.Common.{◌≡◌, ◌<◌, List, [], ◌∷◌, ◌++◌, length, subst, arith}
use Rattle.std.specs.List.{All, flat_map}
use Rattle.std.proofs.lemmas.List.Elements.{All-nil, All-cons, All-head, All-tail}
use Rattle.set_meaning.specs.declared.problems.Term.{Term}
use Rattle.set_meaning.specs.declared.problems.Arg.{Arg}
use Rattle.set_meaning.specs.declared.problems.Arg.TheVariants.{One, Many}
use Rattle.set_meaning.specs.Relations.{terms_of}
use Rattle.problem_limits.specs.Limits.{IsSmallTerm}

abbrev AreSmall : List Arg → Type 0
AreSmall args = All IsSmallTerm (flat_map terms_of args)

pub small_two : (args : List Arg) (a b : Term) → args ≡ One a ∷ One b ∷ [] → AreSmall args → IsSmallTerm a × IsSmallTerm b
small_two args a b is h =
    let all : All IsSmallTerm (a ∷ b ∷ []) = subst AreSmall is h in
    (All-head IsSmallTerm a (b ∷ []) all, All-head IsSmallTerm b [] (All-tail IsSmallTerm a (b ∷ []) all))

pub small_three : (args : List Arg) (a b c : Term) → args ≡ One a ∷ One b ∷ One c ∷ [] → AreSmall args → IsSmallTerm a × IsSmallTerm b × IsSmallTerm c
small_three args a b c is h =
    let all : All IsSmallTerm (a ∷ b ∷ c ∷ []) = subst AreSmall is h in
    let rest = All-tail IsSmallTerm a (b ∷ c ∷ []) all in
    (All-head IsSmallTerm a (b ∷ c ∷ []) all, All-head IsSmallTerm b (c ∷ []) rest, All-head IsSmallTerm c [] (All-tail IsSmallTerm b (c ∷ []) rest))

all_front : (xs ys : List Term) → All IsSmallTerm (xs ++ ys) → All IsSmallTerm xs
all_front [] ys h = All-nil IsSmallTerm
all_front (x ∷ xs) ys h = All-cons IsSmallTerm x xs (All-head IsSmallTerm x (xs ++ ys) h) (all_front xs ys (All-tail IsSmallTerm x (xs ++ ys) h))

all_back : (xs ys : List Term) → All IsSmallTerm (xs ++ ys) → All IsSmallTerm ys
all_back [] ys h = h
all_back (x ∷ xs) ys h = all_back xs ys (All-tail IsSmallTerm x (xs ++ ys) h)

pub small_place : (args : List Arg) (a c : Term) (bs : List Term) → args ≡ One a ∷ Many bs ∷ One c ∷ [] → AreSmall args → IsSmallTerm a × All IsSmallTerm bs × IsSmallTerm c
small_place args a c bs is h =
    let all : All IsSmallTerm (a ∷ bs ++ c ∷ []) = subst AreSmall is h in
    let rest = All-tail IsSmallTerm a (bs ++ c ∷ []) all in
    (All-head IsSmallTerm a (bs ++ c ∷ []) all, all_front bs (c ∷ []) rest, All-head IsSmallTerm c [] (all_back bs (c ∷ []) rest))
