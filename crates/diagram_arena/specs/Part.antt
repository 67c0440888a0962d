-- The parts of a set of words: what is left of the set once its first bits have values. The residual words of
-- a decision diagram (Bryant, IEEE Transactions on Computers, 1986).
use Rattle.std.specs.Prelude.{◌≡◌, ◌==◌, ℕ, Bool, cond, nat_lt}
use Rattle.diagram_arena.specs.Table.{Word, Words}

-- the word w with the bit b set to v
abbrev pub with_bit : Word → ℕ → Bool → Word
with_bit w b v = λ c. cond (c == b) v (w c)

-- the word whose bits below i are those of `front`, and whose other bits are those of w
abbrev pub with_front : ℕ → Word → Word → Word
with_front i front w = λ b. cond (nat_lt b i) (front b) (w b)

-- for some values of the first bits, `part` has the words that lie in `whole` once these bits have these values
pub record IsPartOf (part whole : Words) : Type 0 where
  pub from : ℕ
  pub front : Word
  pub same : (w : Word) → part w ≡ whole (with_front from front w)
