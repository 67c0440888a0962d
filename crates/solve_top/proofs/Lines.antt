-- Lemmas of the lines of the root family, one by one.
use Rattle.std.proofs.Common.{◌≡◌, ◌∙◌, ℕ, List, [], ◌∷◌, ◌++◌, length, refl, sym, ap, ap₂, arith, append_assoc}
use Rattle.std.proofs.lemmas.List.{append-nil}
use Rattle.set_meaning.specs.declared.problems.Bounds.{Bounds}
use Rattle.fzn_printer.specs.RootLine.{root_line}
use Rattle.solve_top.specs.Roots.{named_line, root_lines}

-- a variable without a name has no line
pub no_line : (name : List ℕ) (row : Bounds × ℕ) (out : List ℕ) → length name ≡ 0 → out ≡ out ++ named_line name row
no_line [] row out none = sym (append-nil out)
no_line (c ∷ cs) row out none = absurd (omega (arith, none))

-- one with a name has
pub one_line : (name : List ℕ) (row : Bounds × ℕ) (line out new : List ℕ) → (length name ≡ 0 → ⊥) → line ≡ root_line name row.0 row.1
    → new ≡ out ++ line → new ≡ out ++ named_line name row
one_line [] row line out new some is grown = absurd (some refl)
one_line (c ∷ cs) row line out new some is grown = grown ∙ ap (λ l. out ++ l) is

-- one more variable
pub lines_go_on : (names : List (List ℕ)) (rows : List (Bounds × ℕ)) (n : List ℕ) (r : Bounds × ℕ) (a ns : List (List ℕ)) (b rs : List (Bounds × ℕ)) (out new : List ℕ)
    → a ≡ n ∷ ns → b ≡ r ∷ rs → new ≡ out ++ named_line n r → out ++ root_lines a b ≡ root_lines names rows → new ++ root_lines ns rs ≡ root_lines names rows
lines_go_on names rows n r a ns b rs out new p q grown before =
    ap (λ z. z ++ root_lines ns rs) grown ∙ append_assoc out (named_line n r) (root_lines ns rs)
    ∙ sym (ap₂ (λ x y. out ++ root_lines x y) p q) ∙ before

-- no further name, or no further row
pub no_more_names : (a : List (List ℕ)) (b : List (Bounds × ℕ)) (out whole : List ℕ) → length a ≡ 0 → out ++ root_lines a b ≡ whole → out ≡ whole
no_more_names [] b out whole none e = sym (append-nil out) ∙ e
no_more_names (n ∷ ns) b out whole none e = absurd (omega (arith, none))

pub no_more_rows : (a : List (List ℕ)) (b : List (Bounds × ℕ)) (out whole : List ℕ) → length b ≡ 0 → out ++ root_lines a b ≡ whole → out ≡ whole
no_more_rows [] b out whole none e = sym (append-nil out) ∙ e
no_more_rows (n ∷ ns) [] out whole none e = sym (append-nil out) ∙ e
no_more_rows (n ∷ ns) (r ∷ rs) out whole none e = absurd (omega (arith, none))
