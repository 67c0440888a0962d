-- The residual count of a set of words: the number of nodes of its reduced ordered decision diagram, said by the set alone
-- (Bryant, IEEE Transactions on Computers, 1986). The rest of a prefix is the set of the ends that make it a word of the set.
use Rattle.std.specs.Prelude.{◌≡◌, ◌≢◌, ℕ, ◌⊎◌, Bool, true, false, List, [], ◌∷◌, ◌++◌, length, All, Any, AllPairs}
use Rattle.std.specs.List.Sorted.{IsStrictlyIncreasing}
use Rattle.diagram_arena.specs.declared.nodes.Ref.{Ref}
use Rattle.diagram_arena.specs.Table.{Table}
use Rattle.diagram_arena.specs.Reach.{among, ReachesOnly}
use Rattle.diagram_view.specs.Words.{ListWords, words_over}

-- the rests of p and q, of one length, are the same
abbrev pub RestsAgree : ListWords → List Bool → List Bool → Type 0
RestsAgree W p q = (end : List Bool) → length (p ++ end) ≡ W.long → W.test (p ++ end) ≡ W.test (q ++ end)

-- some end is in one of the rests of p and q, and not in the other
pub record RestsDiffer (W : ListWords) (p q : List Bool) : Type 0 where
  pub end : List Bool
  pub long : length (p ++ end) ≡ W.long
  pub differ : W.test (p ++ end) ≢ W.test (q ++ end)

-- the next bit matters: the rest of p with false added is another than that of p with true added
abbrev pub NextMatters : ListWords → List Bool → Type 0
NextMatters W p = RestsDiffer W (p ++ false ∷ []) (p ++ true ∷ [])

-- the pairs (length, rest) of p and q are the same
pub record AreAlike (W : ListWords) (p q : List Bool) : Type 0 where
  pub lengths : length p ≡ length q
  pub rests : RestsAgree W p q

-- the pairs (length, rest) of p and q differ
abbrev pub AreApart : ListWords → List Bool → List Bool → Type 0
AreApart W p q = (length p ≢ length q) ⊎ RestsDiffer W p q

-- n is the number of different pairs (length of p, rest of p) over the prefixes p after which the next bit matters: there are
-- n such prefixes whose pairs differ, and every such prefix has the pair of one of them
pub record IsResidualCount (W : ListWords) (n : ℕ) : Type 0 where
  pub prefixes : List (List Bool)
  pub number : length prefixes ≡ n
  pub matter : All (NextMatters W) prefixes
  pub apart : AllPairs (AreApart W) prefixes
  pub complete : (p : List Bool) → NextMatters W p → Any (AreAlike W p) prefixes

-- n is the residual count of a ref's words over each list of bits that ascends and holds every bit under the ref
abbrev pub CountsResiduals : Table → Ref → ℕ → Type 0
CountsResiduals t f n = (bits : List ℕ) → IsStrictlyIncreasing bits → ReachesOnly t (among bits) f → IsResidualCount (words_over t f bits) n
