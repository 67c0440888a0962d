-- The fault of a stage is the fault of the text.
use Rattle.std.proofs.Common.{◌≡◌, ◌⊎◌, ◌<◌, ◌≤◌, ℕ, Bool, false, List, ◌∷◌, ◌++◌, length, Option, Some, refl, sym, ap, subst, inl, inr, arith, All, cond}
use Rattle.std.specs.Prelude.{Contains}
use Rattle.std.proofs.lemmas.List.Elements.{All-contains, Contains-append_right}
use Rattle.fzn_reader.specs.declared.tokens.Token.{Token}
use Rattle.fzn_reader.specs.declared.lexer.LexFault.{LexFault}
use Rattle.fzn_reader.specs.declared.lexer.LexFault.TheVariants as lexical
use Rattle.fzn_reader.specs.Scan.{AreTokensOf, IsFirstLexFault}
use Rattle.fzn_parser.specs.declared.tree.Item.{Item}
use Rattle.fzn_parser.specs.declared.tree.Tree.{Tree}
use Rattle.fzn_parser.specs.declared.faults.SyntaxFault.{SyntaxFault}
use Rattle.fzn_parser.specs.declared.faults.SyntaxFault.TheVariants as syntaxes
use Rattle.fzn_parser.specs.Grammar.{signs}
use Rattle.fzn_parser.specs.Faults.{IsFirstSyntaxFault}
use Rattle.fzn_parser.specs.Places.{LiesWithin, places_in}
use Rattle.fzn_model.specs.declared.faults.ModelFault.{ModelFault}
use Rattle.fzn_model.specs.declared.faults.ModelFault.TheVariants as models
use Rattle.fzn_model.specs.declared.faults.FileFault.TheVariants as faults
use Rattle.fzn_model.specs.Printed.{model_place}
use Rattle.fzn_model.specs.FaultsOf.{IsFaultAfter, IsFirstFault, place_of_fault}
use Rattle.fzn_model.specs.Files.{IsTreeOfText}
use Rattle.fzn_model.specs.Told.{IsTold, is_model_memory, of_lexical, of_model, of_syntax}
use Rattle.fzn_model.proofs.Among.{in_front}
use Rattle.fzn_model.proofs.FaultPlaces.{fault_place}

pub told_lexical : (text : List ℕ) (f : LexFault) → (f ≡ lexical.Memory) ⊎ IsFirstLexFault text f → IsTold text (of_lexical f)
told_lexical text f (inl e) = inl (ap of_lexical e)
told_lexical text (lexical.BadByte at) (inr first) = let inside = first.0.within in inr (first, (at, refl, omega arith))
told_lexical text (lexical.BadNumber at) (inr first) = let inside = first.0.within in inr (first, (at, refl, omega arith))
told_lexical text (lexical.OpenString at) (inr first) = let inside = first.0.within in inr (first, (at, refl, omega arith))
told_lexical text lexical.Memory (inr first) = absurd first

pub told_syntax : (text : List ℕ) (tokens : List Token) (f : SyntaxFault) → AreTokensOf text tokens
    → ((g : SyntaxFault) → IsFirstSyntaxFault (length text) (signs text tokens) g → LiesWithin (length text) g)
    → (f ≡ syntaxes.Memory) ⊎ IsFirstSyntaxFault (length text) (signs text tokens) f → IsTold text (of_syntax f)
told_syntax text tokens f scanned law (inl e) = inl (ap of_syntax e)
told_syntax text tokens (syntaxes.Expected at what) scanned law (inr first) =
    let inside = law (syntaxes.Expected at what) first in inr (record { tokens = tokens; scanned = scanned; first = first }, (at, refl, omega arith))
told_syntax text tokens (syntaxes.EndOfFile at) scanned law (inr first) =
    let inside = law (syntaxes.EndOfFile at) first in inr (record { tokens = tokens; scanned = scanned; first = first }, (at, refl, omega arith))
told_syntax text tokens (syntaxes.TooDeep at) scanned law (inr first) =
    let inside = law (syntaxes.TooDeep at) first in inr (record { tokens = tokens; scanned = scanned; first = first }, (at, refl, omega arith))
told_syntax text tokens syntaxes.Memory scanned law (inr first) = absurd first

-- want of memory is no fault of an item
no_memory : (before : List Item) (item : Item) → IsFaultAfter before item models.Memory → ⊥
no_memory before item (inl h) = absurd h
no_memory before item (inr (inl h)) = absurd h
no_memory before item (inr (inr (inl h))) = absurd h
no_memory before item (inr (inr (inr h))) = absurd h

-- a fault of an item has a place, and is told as it is
is_placed : (before : List Item) (item : Item) (f : ModelFault) → IsFaultAfter before item f → (is_model_memory f ≡ false) × (model_place f ≡ Some (place_of_fault f))
is_placed before item (models.Undeclared at) h = (refl, refl)
is_placed before item (models.DeclaredTwice at) h = (refl, refl)
is_placed before item (models.WrongType at) h = (refl, refl)
is_placed before item (models.UnknownConstraint at) h = (refl, refl)
is_placed before item (models.WrongCount at) h = (refl, refl)
is_placed before item (models.Unbounded at) h = (refl, refl)
is_placed before item (models.Float at) h = (refl, refl)
is_placed before item (models.NumberTooLarge at) h = (refl, refl)
is_placed before item (models.EmptyDomain at) h = (refl, refl)
is_placed before item (models.IntTooWide at) h = (refl, refl)
is_placed before item (models.SetTooWide at) h = (refl, refl)
is_placed before item (models.ElementRange at) h = (refl, refl)
is_placed before item (models.ScopeTooWide at) h = (refl, refl)
is_placed before item (models.TooManyBits at) h = (refl, refl)
is_placed before item (models.TooManyConstraints at) h = (refl, refl)
is_placed before item (models.BadOutput at) h = (refl, refl)
is_placed before item (models.ObjectiveNotInt at) h = (refl, refl)
is_placed before item models.Memory h = absurd (no_memory before item h)

pub told_model : (text : List ℕ) (tree : Tree) (f : ModelFault) → IsTreeOfText text tree
    → ((item : Item) → Contains tree.items item → All (λ p. p < length text) (places_in item.form))
    → (f ≡ models.Memory) ⊎ IsFirstFault tree f → IsTold text (of_model f)
told_model text tree f spelled within (inl e) = inl (ap of_model e)
told_model text tree f spelled within (inr first) =
    let here = first.has in
    let known = is_placed here.before here.item f here.faulty in
    let there : Contains tree.items here.item =
    subst (λ items. Contains items here.item) (sym here.split) (Contains-append_right here.before (here.item ∷ here.behind) here.item (in_front here.item here.behind)) in
    let inside : place_of_fault f < length text =
    All-contains (λ p. p < length text) (places_in here.item.form) (place_of_fault f) (within here.item there) (fault_place here.before here.item f here.faulty) in
    let told : IsTold text (faults.Model f) =
    inr (record { tree = tree; spelled = spelled; first = first }, (place_of_fault f, known.1, omega arith)) in
    subst (λ b. IsTold text (cond b faults.Memory (faults.Model f))) (sym known.0) told
