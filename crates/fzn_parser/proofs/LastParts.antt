-- The last part that is to come may never be missing, so parts that may all be missing are none.
use Rattle.std.proofs.Common.{◌≡◌, Bool, true, false, cond, List, [], ◌∷◌, ◌++◌, Option, Some, None, refl, ap, ◌∙◌}
use Rattle.std.proofs.lemmas.List.{append-nil}
use Rattle.std.specs.Prelude.{option_and_then}
use Rattle.std.specs.Option.{option_map, option_or}
use Rattle.fzn_reader.specs.declared.tokens.TokenKind.{TokenKind}
use Rattle.fzn_reader.specs.declared.tokens.TokenKind.TheVariants as kinds
use Rattle.fzn_reader.specs.declared.tokens.Word.TheVariants as words
use Rattle.fzn_parser.specs.Grammar.{Sign}
use Rattle.fzn_parser.specs.ToCome as part
use Rattle.fzn_parser.specs.ToCome.{Part, same_kind, follows, may_be_missing, after_one, after_all}
use Rattle.fzn_parser.proofs.Tracks.{complete, cut, finish}

abbrev is_end : Part → Bool
is_end part.items = true
is_end (part.must kind what) = true
is_end _ = false

abbrev pub ends_well : List Part → Bool
ends_well [] = true
ends_well (p ∷ []) = is_end p
ends_well (p ∷ q ∷ rest) = ends_well (q ∷ rest)

abbrev pub Well : Option (List Part) → Type 0
Well None = Unit {0}
Well (Some ps) = ends_well ps ≡ true

well-append : (ps : List Part) (q : Part) (rest : List Part) → ends_well (q ∷ rest) ≡ true → ends_well (ps ++ q ∷ rest) ≡ true
well-append [] q rest h = h
well-append (p ∷ []) q rest h = h
well-append (p ∷ r ∷ ps) q rest h = well-append (r ∷ ps) q rest h

if_well : (b : Bool) → Well (cond b (Some []) None)
if_well true = refl
if_well false = tt

end_follows : (p : Part) (kind : TokenKind) → is_end p ≡ true → Well (follows p kind)
end_follows (part.must k what) kind h = if_well (same_kind k kind)
end_follows part.items (kinds.Word words.Predicate) h = refl
end_follows part.items (kinds.Word words.Bool) h = refl
end_follows part.items (kinds.Word words.Int) h = refl
end_follows part.items (kinds.Word words.Float) h = refl
end_follows part.items (kinds.Word words.Set) h = refl
end_follows part.items (kinds.Word words.Var) h = refl
end_follows part.items (kinds.Word words.Array) h = refl
end_follows part.items (kinds.Word words.Constraint) h = refl
end_follows part.items (kinds.Word words.Solve) h = refl
end_follows part.items _ h = tt
end_follows _ kind h = absurd (cc)

or_well : (a b : Option (List Part)) → Well a → Well b → Well (option_or a b)
or_well None b h k = k
or_well (Some ps) b h k = h

choose_well : (b : Bool) (o : Option (List Part)) → Well o → Well (cond b o None)
choose_well true o h = h
choose_well false o h = tt

with_none : (o : Option (List Part)) → Well o → Well (option_map (λ ps. ps ++ []) o)
with_none None h = tt
with_none (Some ps) h = ap ends_well (append-nil ps) ∙ h

with_rest : (o : Option (List Part)) (q : Part) (rest : List Part) → ends_well (q ∷ rest) ≡ true → Well (option_map (λ ps. ps ++ q ∷ rest) o)
with_rest None q rest h = tt
with_rest (Some ps) q rest h = well-append ps q rest h

one_well : (parts : List Part) (kind : TokenKind) → ends_well parts ≡ true → Well (after_one parts kind)
one_well [] kind u = tt
one_well (p ∷ []) kind u =
    or_well (option_map (λ ps. ps ++ []) (follows p kind)) (cond (may_be_missing p) None None) (with_none (follows p kind) (end_follows p kind u)) (choose_well (may_be_missing p) None tt)
one_well (p ∷ q ∷ rest) kind u =
    or_well (option_map (λ ps. ps ++ q ∷ rest) (follows p kind)) (cond (may_be_missing p) (after_one (q ∷ rest) kind) None) (with_rest (follows p kind) q rest u)
    (choose_well (may_be_missing p) (after_one (q ∷ rest) kind) (one_well (q ∷ rest) kind u))

all_of_one : (o : Option (List Part)) (xs : List Sign) → Well o → ((rest : List Part) → ends_well rest ≡ true → Well (after_all rest xs)) → Well (option_and_then (λ rest. after_all rest xs) o)
all_of_one None xs u f = tt
all_of_one (Some rest) xs u f = f rest u

pub all_well : (xs : List Sign) (parts : List Part) → ends_well parts ≡ true → Well (after_all parts xs)
all_well [] parts u = u
all_well (x ∷ xs) parts u = all_of_one (after_one parts x.kind) xs (one_well parts x.kind u) (λ rest h. all_well xs rest h)

end_cut : (p : Part) → is_end p ≡ true → cond (may_be_missing p) complete cut ≡ complete → ⊥
end_cut part.items u h = cc
end_cut (part.must kind what) u h = cc
end_cut _ u h = cc

pub finished : (parts : List Part) → ends_well parts ≡ true → finish parts ≡ complete → parts ≡ []
finished [] u h = refl
finished (p ∷ []) u h = absurd (end_cut p u h)
finished (p ∷ q ∷ rest) u h = by_missing (may_be_missing p) h (finished (q ∷ rest) u)
  where
    by_missing : (b : Bool) → cond b (finish (q ∷ rest)) cut ≡ complete → (finish (q ∷ rest) ≡ complete → q ∷ rest ≡ []) → p ∷ q ∷ rest ≡ []
    by_missing true k go = let bad : q ∷ rest ≡ [] = go k in absurd (cc)
    by_missing false k go = absurd (cc)
