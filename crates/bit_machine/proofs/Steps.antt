-- One step of a build: the bit at a place, and the node over what both its values lead to.
use Rattle.std.proofs.Common.{◌≡◌, ℕ, ◌+◌, ◌<◌, ◌≤◌, ◌^◌, Bool, true, false, cond, List, [], ◌∷◌, length, get_or, drop, sym, ◌∙◌, ap, subst, arith, drop-cons, add-one}
use Rattle.std.specs.List.{All}
use Rattle.std.specs.List.Sorted.{IsStrictlyIncreasing}
use Rattle.std.proofs.lemmas.List.{get_or-drop, length-drop}
use Rattle.std.proofs.lemmas.List.Elements.{All-head, All-weaker, All-from_get_or}
use Rattle.std.proofs.lemmas.Map.Keys.{below_from_sorted, sorted_from_strictly_increasing}
use Rattle.diagram_arena.specs.declared.nodes.Ref.{Ref}
use Rattle.diagram_arena.specs.declared.nodes.Ref.TheVariants.{Zero, One}
use Rattle.diagram_arena.specs.Table.{Word, Table, bit_end, has, IsLive, depth}
use Rattle.diagram_arena.specs.Part.{IsPartOf}
use Rattle.diagram_arena.specs.Arena.{CanMake, Grows, Joins}
use Rattle.diagram_arena.proofs.Meaning.{bit_end_is, has-zero, has-one, depth-zero, depth-one}
use Rattle.bit_machine.specs.Rules.{Rules, run}
use Rattle.bit_machine.specs.Built.{AsksNoneBefore, accepts_from, IsBuilt}
use Rattle.bit_machine.proofs.Reading.{step_part}

-- the step from a place and a state: its bit, those behind it, and the state that each value leads to
pub record IsStep {Q : Type 0} (rules : Rules Q) (bits : List ℕ) (at : ℕ) (q : Q) (b : ℕ) (on_false on_true : Q) : Type 0 where
  pub rest : drop at bits ≡ b ∷ drop (at + 1) bits
  pub small : b < 2 ^ 32
  pub above : All (λ c. b < c) (drop (at + 1) bits)
  pub to_false : on_false ≡ rules.step at q false
  pub to_true : on_true ≡ rules.step at q true

pub step_at : {Q : Type 0} (rules : Rules Q) (bits : List ℕ) (at : ℕ) (q : Q) (b : ℕ) (on_false on_true : Q) → IsStrictlyIncreasing bits → at < length bits
    → b ≡ get_or bits at 0 → b < 2 ^ 32 → on_false ≡ rules.step at q false → on_true ≡ rules.step at q true → IsStep rules bits at q b on_false on_true
step_at rules bits at q b on_false on_true up within is small to_false to_true = record {
  rest = drop-cons bits at 0 within ∙ (λ i. sym is i ∷ drop (sym (add-one at) i) bits);
  small = small;
  above = All-from_get_or (λ c. b < c) (drop (at + 1) bits) 0 (λ i inside.
      let long = length-drop (at + 1) bits in
      let there : get_or (drop (at + 1) bits) i 0 ≡ get_or bits (at + 1 + i) 0 = get_or-drop (at + 1) bits i 0 in
      let rise = below_from_sorted bits at (at + 1 + i) 0 (sorted_from_strictly_increasing bits up) (omega arith) (omega (arith, long, inside)) in
      omega (arith, is, there, rise));
  to_false = to_false;
  to_true = to_true;
}

-- what is accepted after the step is a part of what is accepted before it
pub side_part : {Q : Type 0} (rules : Rules Q) (bits : List ℕ) (at : ℕ) (q : Q) (b : ℕ) (on_false on_true : Q) → IsStep rules bits at q b on_false on_true
    → (v : Bool) → IsPartOf (accepts_from rules bits (at + 1) (cond v on_true on_false)) (accepts_from rules bits at q)
side_part rules bits at q b on_false on_true step v =
    let whole : accepts_from rules bits at q ≡ (λ w. rules.accept (run rules at q (b ∷ drop (at + 1) bits) w)) = ap (λ bs. λ w. rules.accept (run rules at q bs w)) step.rest in
    let to : rules.step at q v ≡ cond v on_true on_false = elim v as (λ x. rules.step at q x ≡ cond x on_true on_false) [ true ↦ sym step.to_true | false ↦ sym step.to_false ] in
    subst (λ V. IsPartOf (accepts_from rules bits (at + 1) (cond v on_true on_false)) V) (sym whole)
    (subst (λ p. IsPartOf (accepts_from rules bits (at + 1) p) (λ w. rules.accept (run rules at q (b ∷ drop (at + 1) bits) w))) to
    (step_part rules at q b (drop (at + 1) bits) v step.above))

-- the diagrams of both sides may stand below a node of the bit
deeper : (t : Table) (b : ℕ) (bs : List ℕ) (r : Ref) → b < 2 ^ 32 → All (λ c. b < c) bs → AsksNoneBefore t bs r → b < depth t r
deeper t b bs r small above deep =
    let far = deep (b + 1) (omega (arith, small)) (All-weaker (λ c. b < c) (λ c. b + 1 ≤ c) (λ c less. omega (arith, less)) bs above) in
    omega (arith, far)

pub can_join : {Q : Type 0} (t : Table) (rules : Rules Q) (bits : List ℕ) (at : ℕ) (q : Q) (b : ℕ) (on_false on_true : Q) (lo hi : Ref) → IsStep rules bits at q b on_false on_true
    → IsBuilt t rules bits (at + 1) on_false lo → IsBuilt t rules bits (at + 1) on_true hi → CanMake t b lo hi
can_join t rules bits at q b on_false on_true lo hi step los his = record {
  lo_live = los.denotes.live;
  hi_live = his.denotes.live;
  lo_deeper = deeper t b _ lo step.small step.above los.deep;
  hi_deeper = deeper t b _ hi step.small step.above his.deep;
}

-- the words of the node over both sides
sides_words : {Q : Type 0} (rules : Rules Q) (at : ℕ) (q : Q) (bs : List ℕ) (on_false on_true : Q) → on_false ≡ rules.step at q false → on_true ≡ rules.step at q true
    → (v : Bool) (w : Word) → cond v (rules.accept (run rules (at + 1) on_true bs w)) (rules.accept (run rules (at + 1) on_false bs w)) ≡ rules.accept (run rules (at + 1) (rules.step at q v) bs w)
sides_words rules at q bs on_false on_true to_false to_true true w = ap (λ p. rules.accept (run rules (at + 1) p bs w)) to_true
sides_words rules at q bs on_false on_true to_false to_true false w = ap (λ p. rules.accept (run rules (at + 1) p bs w)) to_false

-- the node over both sides is the diagram before the step
pub joined_built : {Q : Type 0} (t u : Table) (rules : Rules Q) (bits : List ℕ) (at : ℕ) (q : Q) (b : ℕ) (on_false on_true : Q) (lo hi r : Ref) → IsStep rules bits at q b on_false on_true
    → IsBuilt t rules bits (at + 1) on_false lo → IsBuilt t rules bits (at + 1) on_true hi → Joins t u b lo hi r → IsBuilt u rules bits at q r
joined_built t u rules bits at q b on_false on_true lo hi r step los his joins = record {
  denotes = record {
    live = joins.live;
    words = λ w. joins.words w ∙ (λ i. cond (w b) (his.denotes.words w i) (los.denotes.words w i))
        ∙ sides_words rules at q (drop (at + 1) bits) on_false on_true step.to_false step.to_true (w b) w
        ∙ sym (ap (λ bs. rules.accept (run rules at q bs w)) step.rest);
  };
  deep = λ c within all.
      let first : c ≤ b = All-head (λ x. c ≤ x) b (drop (at + 1) bits) (subst (All (λ x. c ≤ x)) step.rest all) in
      let low = joins.deep in
      omega (arith, first, low);
}

-- a diagram stays one in a table that grows
pub built_grows : {Q : Type 0} (t u : Table) (rules : Rules Q) (bits : List ℕ) (at : ℕ) (q : Q) (r : Ref) → Grows t u → IsBuilt t rules bits at q r → IsBuilt u rules bits at q r
built_grows t u rules bits at q r grown is = record {
  denotes = record {
    live = grown.live r is.denotes.live;
    words = λ w. grown.words r is.denotes.live w ∙ is.denotes.words w;
  };
  deep = λ c within all. let same = grown.depths r is.denotes.live in let low = is.deep c within all in omega (arith, same, low);
}

-- once all bits are read, it is the ref of all words or of none
terminal_live : (t : Table) (holds : Bool) → IsLive t (cond holds One Zero)
terminal_live t true = tt
terminal_live t false = tt

terminal_words : (t : Table) (holds : Bool) (w : Word) → has t (cond holds One Zero) w ≡ holds
terminal_words t true w = has-one t w
terminal_words t false w = has-zero t w

terminal_depth : (t : Table) (holds : Bool) → depth t (cond holds One Zero) ≡ bit_end
terminal_depth t true = depth-one t
terminal_depth t false = depth-zero t

pub terminal_built : {Q : Type 0} (t : Table) (rules : Rules Q) (bits : List ℕ) (at : ℕ) (q : Q) (holds : Bool) (r : Ref) → drop at bits ≡ [] → holds ≡ rules.accept q → r ≡ cond holds One Zero
    → IsBuilt t rules bits at q r
terminal_built t rules bits at q holds r none is e = subst (IsBuilt t rules bits at q) (sym e) (record {
  denotes = record {
    live = terminal_live t holds;
    words = λ w. terminal_words t holds w ∙ is ∙ sym (ap (λ bs. rules.accept (run rules at q bs w)) none);
  };
  deep = λ c within all. let at_end = terminal_depth t holds in let end = bit_end_is in omega (arith, at_end, end, within);
})
