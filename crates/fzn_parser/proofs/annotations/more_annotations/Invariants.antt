-- What is left to read, with the annotations so far before it, is what was to be read.
use Rattle.std.proofs.Common.{◌≡◌, length}
use Rattle.fzn_parser.specs.Grammar.{signs}
use Rattle.fzn_parser.specs.Reading.{with_front, annotations}
use Rattle.fzn_parser.proofs.annotations.more_annotations.Given as goal

abbrev pub invariant-annotations : goal.invariant-annotations
invariant-annotations l =
    with_front l.annotations.items (annotations (length l.text) 100 (signs l.text l.tokens))
    ≡ with_front l.initial.annotations.items (annotations (length l.text) 100 (signs l.text l.initial.tokens))

abbrev pub decreases-annotations : goal.decreases-annotations
decreases-annotations l = length l.tokens
