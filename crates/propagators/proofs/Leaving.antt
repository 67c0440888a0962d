-- What one call after another leaves of a constraint's compilation.
use Rattle.std.proofs.Common.{◌≡◌, ◌↔◌, ℕ, ◌<◌, true, List, length, Result, Ok, Err, sym, ◌∙◌, subst}
use Rattle.std.specs.Prelude.{IfOk}
use Rattle.std.specs.List.{All}
use Rattle.set_meaning.specs.declared.kinds.Value.{Value}
use Rattle.set_meaning.specs.declared.problems.VarId.{VarId}
use Rattle.set_meaning.specs.declared.problems.Constraint.{Constraint}
use Rattle.bit_layout.specs.Order.{LayoutState, IsLayout}
use Rattle.diagram_arena.specs.declared.nodes.Ref.{Ref}
use Rattle.diagram_arena.specs.declared.nodes.Stop.{Stop}
use Rattle.diagram_arena.specs.Table.{Word, Words, Table, IsReduced}
use Rattle.diagram_arena.specs.Arena.{table}
use Rattle.node_reclaim.specs.Pool.{PoolState}
use Rattle.node_reclaim.specs.Growth.{Stays, NewArePartsOf}
use Rattle.diagram_ops.specs.Words.{Denotes}
use Rattle.diagram_ops.proofs.Steps.{stays_self, stays_then, no_news, news_then}
use Rattle.bit_machine.specs.Rules.{accepts}
use Rattle.table_machine.specs.Tables.{Tables, AreTables, rules}
use Rattle.table_machine.specs.Values.{GivesInitialValues}
use Rattle.scope_words.specs.Words.{AreBitsOf, AreWordsOf, IsDiagramOf, NewArePartsOfWords}
use Rattle.propagators.specs.Units.{IsPartOfWords, IsWantedBy}
use Rattle.propagators.specs.Work.{NewAreOfWords, LeavesFor, AcceptsInitial}
use Rattle.propagators.proofs.Truths.{ValuesFit, initial_words}

-- ---- sets and diagrams

pub diagram_of : (l : LayoutState) (scope : List VarId) (C : List Value → Type 0) (t : Table) (V : Words) (r : Ref) → AreWordsOf l scope C V → Denotes t V r → IsDiagramOf l scope C t r
diagram_of l scope C t V r words is = record {
  live = is.live;
  words = record {
    sound = λ w h. words.sound w (sym (is.words w) ∙ h);
    whole = λ w values given h. is.words w ∙ words.whole w values given h;
  };
}

pub diagram_made : (l : LayoutState) (scope : List VarId) (C : List Value → Type 0) (t : Table) (V : Words) (result : Result Ref Stop) → AreWordsOf l scope C V → IfOk result (Denotes t V) → IfOk result (IsDiagramOf l scope C t)
diagram_made l scope C t V (Ok r) words h = diagram_of l scope C t V r words h
diagram_made l scope C t V (Err e) words h = tt

pub parts_of_words : (l : LayoutState) (vs : List VarId) (C : List Value → Type 0) (V : Words) (old new : Table) → AreWordsOf l vs C V → NewArePartsOf old new V → NewAreOfWords l vs C old new
parts_of_words l vs C V old new words parts i none live = record { set = V; words = words; part = parts i none live }

-- ---- the machine of initial values

pub at_slice : (l : LayoutState) (vs : List VarId) (bits slice : List ℕ) (m : Tables) → slice ≡ bits → AcceptsInitial l vs bits m → AcceptsInitial l vs slice m
at_slice l vs bits slice m same is = subst (λ bs. AcceptsInitial l vs bs m) (sym same) is

pub accepts_initial : ValuesFit → (l : LayoutState) (vs : List VarId) (bits slice : List ℕ) (m : Tables) → IsLayout l → All (λ v. v.0 < length l.kinds) vs → AreBitsOf l vs bits → slice ≡ bits → AreTables m → length m.readings ≡ length slice
    → ((scope : List VarId) (w : Word) → AreBitsOf l scope slice → All (λ v. v.0 < length l.kinds) scope → (accepts (rules m) slice w ≡ true) ↔ GivesInitialValues l scope w) → AcceptsInitial l vs bits m
accepts_initial fit l vs bits slice m ok known are same tables long law =
    let own : AreBitsOf l vs slice = subst (AreBitsOf l vs) (sym same) are in
    let whole : AcceptsInitial l vs slice m = record { bits_are = own; tables = tables; long = long; words = initial_words fit l vs (accepts (rules m) slice) ok (λ w. law vs w own known) } in
    subst (λ bs. AcceptsInitial l vs bs m) same whole

-- ---- one call after another

pub leaves_self : (l : LayoutState) (c : Constraint) (s : PoolState) → IsReduced (table s.arena) → LeavesFor l c s s
leaves_self l c s ok = record { stays = stays_self s ok; parts = no_news (table s.arena) (IsWantedBy l c) }

pub leaves_then : (l : LayoutState) (c : Constraint) (a b d : PoolState) → LeavesFor l c a b → LeavesFor l c b d → LeavesFor l c a d
leaves_then l c a b d first second = record {
  stays = stays_then a b d first.stays second.stays;
  parts = news_then (table a.arena) (table b.arena) (table d.arena) (IsWantedBy l c) second.stays.grows first.parts second.parts;
}

-- a call whose new nodes are parts of one set
pub leaves_by : (l : LayoutState) (c : Constraint) (vs : List VarId) (C : List Value → Type 0) (a b : PoolState) → ((W : Words) → IsPartOfWords l vs C W → IsWantedBy l c W) → Stays a b → NewAreOfWords l vs C (table a.arena) (table b.arena)
    → LeavesFor l c a b
leaves_by l c vs C a b wanted stays parts = record { stays = stays; parts = λ i none live. wanted _ (parts i none live) }

pub parts_of_set : (l : LayoutState) (vs : List VarId) (C : List Value → Type 0) (old new : Table) → NewArePartsOfWords l vs C old new → NewAreOfWords l vs C old new
parts_of_set l vs C old new h = parts_of_words l vs C h.0 old new h.1 h.2
