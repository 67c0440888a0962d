-- The lists of the code as those of the rules.
use Rattle.std.proofs.Common.{◌≡◌, ℕ, ◌+◌, ◌<◌, List, [], ◌∷◌, ◌++◌, length, get_or, take, map, sym, ap, ◌∙◌}
use Rattle.std.proofs.lemmas.List.{reverse-append, take_more}
use Rattle.plain_search.specs.State.{entry_of, entries_of, stored_of, boxes_of}
use Rattle.plain_search.specs.declared.trail.Change.{Change}

pub entries-push : (es : List Change) (e : Change) → entries_of (es ++ e ∷ []) ≡ entry_of e ∷ entries_of es
entries-push es e = ap (map entry_of) (reverse-append es (e ∷ []))

pub boxes-push : (bs : List (List (List ℕ))) (b : List (List ℕ)) → boxes_of (bs ++ b ∷ []) ≡ stored_of b ∷ boxes_of bs
boxes-push bs b = ap (map stored_of) (reverse-append bs (b ∷ []))

-- one more change, from the oldest on
pub entries_more : (es : List Change) (i : ℕ) (e : Change) → i < length es → e ≡ get_or es i e
    → entries_of (take (i + 1) es) ≡ entry_of e ∷ entries_of (take i es)
entries_more es i e lt is =
    ap entries_of (take_more es i e lt ∙ ap (λ x. take i es ++ x ∷ []) (sym is)) ∙ entries-push (take i es) e
