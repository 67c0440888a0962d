-- How the calls end: the diagram that is built.
use Rattle.std.proofs.Common.{◌≡◌, ℕ, ◌<◌, ◌≤◌, min, true, arith, List, length, get_or, Contains, Result, Ok, Err, sym, ◌∙◌, subst}
use Rattle.std.specs.Prelude.{IfOk}
use Rattle.std.specs.List.{AllPass}
use Rattle.std.proofs.lemmas.List.Elements.{Contains-get_or}
use Rattle.diagram_arena.specs.declared.nodes.Ref.{Ref}
use Rattle.diagram_arena.specs.declared.nodes.Stop.{Stop}
use Rattle.diagram_arena.specs.Table.{Words, Table}
use Rattle.diagram_arena.specs.Reach.{Bits}
use Rattle.diagram_ops.specs.Words.{Denotes}
use Rattle.set_meaning.specs.declared.kinds.Value.{Value}
use Rattle.set_meaning.specs.declared.problems.VarId.{VarId}
use Rattle.set_meaning.specs.declared.problems.Arg.{Arg}
use Rattle.set_meaning.specs.declared.problems.Relation.{Relation}
use Rattle.bit_machine.specs.Rules.{Rules}
use Rattle.table_machine.specs.Tables.{Tables}
use Rattle.int_channel.specs.Machines.{IsMachineOf}
use Rattle.bit_layout.specs.Order.{LayoutState}
use Rattle.scope_words.specs.Words.{AreBitsOf, IsBitOf, AreWordsOf, IsDiagramOf}

pub of_ok : {X E : Type 0} (P : X → Type 0) (r : Result X E) (x : X) → r ≡ Ok x → IfOk r P → P x
of_ok {X} {E} P r x e h = let Q : Result X E → Type 0 = λ s. IfOk s P in subst Q e h

diagram_of : (l : LayoutState) (scope : List VarId) (C : List Value → Type 0) (t : Table) (V : Words) (r : Ref) → AreWordsOf l scope C V → Denotes t V r → IsDiagramOf l scope C t r
diagram_of l scope C t V r words is = record {
  live = is.live;
  words = record {
    sound = λ w h. words.sound w (sym (is.words w) ∙ h);
    whole = λ w values given h. is.words w ∙ words.whole w values given h;
  };
}

pub diagram_made : (l : LayoutState) (scope : List VarId) (C : List Value → Type 0) (t : Table) (V : Words) (result : Result Ref Stop) → AreWordsOf l scope C V → IfOk result (Denotes t V) → IfOk result (IsDiagramOf l scope C t)
diagram_made l scope C t V (Ok r) words h = diagram_of l scope C t V r words h
diagram_made l scope C t V (Err e) words h = tt

pub bits_pass : (l : LayoutState) (scope : List VarId) (bits : List ℕ) (set : Bits) → AreBitsOf l scope bits → ((b : ℕ) → IsBitOf l scope b → set b ≡ true) → AllPass set bits
bits_pass l scope bits set are all i d within = all (get_or bits i d) ((are.members (get_or bits i d)).0 (Contains-get_or bits i d within))

pub own_made : {S : Type 0} (l : LayoutState) (relation : Relation) (args : List Arg) (bits slice : List ℕ) (initial : Tables) (own : Rules S) → slice ≡ bits → IsMachineOf l relation args bits initial own → IsMachineOf l relation args slice initial own
own_made l relation args bits slice initial own e made = subst (λ bs. IsMachineOf l relation args bs initial own) (sym e) made

pub least_of : (n a b : ℕ) → a ≡ n → b ≡ n → n ≤ min a b
least_of n a b e f = grind (arith, e, f)
