-- What is the longest by one kind of piece is the longest by another, where fronts of the text are the same by both.
use Rattle.std.proofs.Common.{◌≡◌, ℕ, ◌<◌, List, take, Option, Some, None, ◌∙◌, arith}
use Rattle.std.specs.Prelude.{IfSome, IfNone}
use Rattle.fzn_reader.specs.declared.pieces.Piece.{Piece}
use Rattle.fzn_reader.specs.Pieces.{IsLongestBy, BeginsNoneBy}

pub found_by : (f g : List ℕ → Option Piece) (text : List ℕ) → ((m : ℕ) → 0 < m → g (take m text) ≡ f (take m text)) → (r : Option (Piece × ℕ)) → IfSome r (λ p. IsLongestBy f text p.1 p.0) → IfSome r (λ p. IsLongestBy g text p.1 p.0)
found_by f g text same None h = tt
found_by f g text same (Some p) h = record {
  some = h.some;
  within = h.within;
  form = same p.1 h.some ∙ h.form;
  longest = λ m long w. same m (omega (arith, h.some)) ∙ h.longest m long w;
}

pub none_by : (f g : List ℕ → Option Piece) (text : List ℕ) → ((m : ℕ) → 0 < m → g (take m text) ≡ f (take m text)) → (r : Option (Piece × ℕ)) → IfNone r (BeginsNoneBy f text) → IfNone r (BeginsNoneBy g text)
none_by f g text same None h = record { none = λ m some w. same m some ∙ h.none m some w }
none_by f g text same (Some p) h = tt
