-- From what the reader of all items gives to what a parse answers.
use Rattle.std.proofs.Common.{◌≡◌, ◌≢◌, ◌⊎◌, ℕ, List, [], Result, Ok, Err, refl, inl, inr}
use Rattle.fzn_parser.specs.declared.faults.SyntaxFault.{SyntaxFault}
use Rattle.fzn_parser.specs.declared.faults.SyntaxFault.TheVariants as faults
use Rattle.fzn_parser.specs.declared.tree.Item.{Item}
use Rattle.fzn_parser.specs.Grammar.{Sign}
use Rattle.fzn_parser.specs.Faults.{IsFirstSyntaxFault, IsTreeOf}
use Rattle.fzn_parser.specs.Reading.{model, with_items}
use Rattle.fzn_parser.proofs.Endings.{fault_read, tree_read}

-- no items before
bare : (r s : Result (List Item) SyntaxFault) → with_items [] r ≡ s → r ≡ s
bare (Ok items) s h = h
bare (Err e) s h = h

pub tree_given : (n : ℕ) (xs : List Sign) (items : List Item) → with_items [] (model n 100 xs) ≡ Ok items → IsTreeOf xs (record { items = items })
tree_given n xs items h = tree_read n xs items (bare (model n 100 xs) (Ok items) h)

pub fault_given : (n : ℕ) (xs : List Sign) (e : SyntaxFault) → (e ≢ faults.Memory → with_items [] (model n 100 xs) ≡ Err e) → (e ≡ faults.Memory) ⊎ IsFirstSyntaxFault n xs e
fault_given n xs (faults.Expected at what) h = inr (fault_read n xs (faults.Expected at what) (bare (model n 100 xs) (Err (faults.Expected at what)) (h (λ m. cc))))
fault_given n xs (faults.EndOfFile at) h = inr (fault_read n xs (faults.EndOfFile at) (bare (model n 100 xs) (Err (faults.EndOfFile at)) (h (λ m. cc))))
fault_given n xs (faults.TooDeep at) h = inr (fault_read n xs (faults.TooDeep at) (bare (model n 100 xs) (Err (faults.TooDeep at)) (h (λ m. cc))))
fault_given n xs faults.Memory h = inl refl
