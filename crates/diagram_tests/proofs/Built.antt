-- For tests: what a diagram that is built node by node depends on.
use Rattle.std.proofs.Common.{◌≡◌, ℕ, true, false, cond, sym, ◌∙◌, ap}
use Rattle.diagram_arena.specs.declared.nodes.Ref.{Ref}
use Rattle.diagram_arena.specs.declared.nodes.Ref.TheVariants.{Zero, One, Node}
use Rattle.diagram_arena.specs.Table.{Word, Table, has, IsLive}
use Rattle.diagram_arena.specs.Reach.{Bits, ReachesOnly, DependsOn}
use Rattle.diagram_arena.specs.Arena.{Grows, Joins}
use Rattle.diagram_view.proofs.Stepping.{follow-zero, follow-one}

pub joined : (bits : Bits) (old new : Table) (bit : ℕ) (lo hi r : Ref) → Joins old new bit lo hi r → bits bit ≡ true → DependsOn bits (has old lo) → DependsOn bits (has old hi) → DependsOn bits (has new r)
joined bits old new bit lo hi r joins on low high w u agree =
    joins.words w
    ∙ ap (λ v. cond v (has old hi w) (has old lo w)) (agree bit on)
    ∙ ap (λ x. cond (u bit) x (has old lo w)) (high w u agree)
    ∙ ap (λ x. cond (u bit) (has old hi u) x) (low w u agree)
    ∙ sym (joins.words u)

pub grown : (bits : Bits) (old new : Table) (r : Ref) → Grows old new → IsLive old r → DependsOn bits (has old r) → DependsOn bits (has new r)
grown bits old new r grows live depends w u agree = grows.words r live w ∙ depends w u agree ∙ sym (grows.words r live u)

pub zero_depends : (bits : Bits) (t : Table) → ((s : Table) (w : Word) → has s Zero w ≡ false) → DependsOn bits (has t Zero)
zero_depends bits t zero w u agree = zero t w ∙ sym (zero t u)

pub one_depends : (bits : Bits) (t : Table) → ((s : Table) (w : Word) → has s One w ≡ true) → DependsOn bits (has t One)
one_depends bits t one w u agree = one t w ∙ sym (one t u)

pub zero_reaches : (t : Table) (bits : Bits) → ReachesOnly t bits Zero
zero_reaches t bits path i n at is = let other : Zero ≡ Node i = sym (follow-zero t path) ∙ at in absurd (cc)

pub one_reaches : (t : Table) (bits : Bits) → ReachesOnly t bits One
one_reaches t bits path i n at is = let other : One ≡ Node i = sym (follow-one t path) ∙ at in absurd (cc)
