-- Lists of sides by their variables, and lists of refs of which one is replaced.
use Rattle.std.proofs.Common.{◌≡◌, ◌≢◌, ℕ, zero, suc, ◌<◌, ◌==◌, Bool, true, false, cond, List, [], ◌∷◌, length, map, set, Option, Some, None, refl, sym, ap, ◌∙◌, subst, inl, inr, arith, Contains, eq-eqb}
use Rattle.std.specs.Prelude.{slice_get, find}
use Rattle.std.specs.List.{All}
use Rattle.std.specs.Ordering.{nat_cmp}
use Rattle.std.specs.List.Sorted.{IsStrictlySortedBy}
use Rattle.std.specs.declared.cmp.Ordering.{Ordering}
use Rattle.std.specs.declared.cmp.Ordering.TheVariants.{Less, Equal}
use Rattle.std.proofs.lemmas.Map.Keys.{sorted_tail}
use Rattle.std.proofs.lemmas.Map.Views.{All-after_first}
use Rattle.std.specs.Cmp.{nat_cmp_total, tied_itself}
use Rattle.std.proofs.lemmas.Bool.{ne_eqb}
use Rattle.std.proofs.lemmas.List.{length-set, get_or-set_same}
use Rattle.std.proofs.lemmas.List.Elements.{All-contains, All-contains_itself, All-weaker, All-head, All-tail, All-cons, All-nil}
use Rattle.std.proofs.lemmas.Option.{slice_get-get_or}
use Rattle.set_meaning.specs.declared.problems.VarId.{VarId}
use Rattle.bit_layout.proofs.Rising.{nothing_in_empty, in_cons}
use Rattle.diagram_arena.specs.declared.nodes.Ref.{Ref}
use Rattle.box_clauses.specs.declared.sides.Side.{Side}
use Rattle.running_boxes.specs.Work.{var_of, NoneIsOf}

-- ---- what holds of each

pub all_from : {X : Type 0} (P : X → Type 0) (xs : List X) → ((x : X) → Contains xs x → P x) → All P xs
all_from P xs each = All-weaker (Contains xs) P each xs (All-contains_itself xs)

pub same_some : {X : Type 0} (o : Option X) (x y : X) → o ≡ Some x → o ≡ Some y → x ≡ y
same_some o x y first second = let both : Some x ≡ Some y = sym first ∙ second in cc

-- ---- one ref replaced

pub set_other : (xs : List Ref) (i j : ℕ) (r : Ref) → (j ≡ i → ⊥) → slice_get (set xs i r) j ≡ slice_get xs j
set_other [] i j r ne = refl
set_other (x ∷ xs) zero zero r ne = absurd (ne refl)
set_other (x ∷ xs) zero (suc j) r ne = refl
set_other (x ∷ xs) (suc i) zero r ne = refl
set_other (x ∷ xs) (suc i) (suc j) r ne = set_other xs i j r (λ e. ne (ap suc e))

pub set_same : (xs : List Ref) (i : ℕ) (r : Ref) → i < length xs → slice_get (set xs i r) i ≡ Some r
set_same xs i r within =
    let long = length-set xs i r in
    slice_get-get_or (set xs i r) i r (omega (arith, long, within)) ∙ ap Some (get_or-set_same xs i r r within)

-- ---- sides of a variable

abbrev pub ascend : Side → Side → Ordering
ascend s u = nat_cmp s.var.0 u.var.0

less_apart : (m n : ℕ) → nat_cmp m n ≡ Less → (m ≡ n → ⊥)
less_apart m n is same =
    let less : nat_cmp n n ≡ Less = subst (λ k. nat_cmp k n ≡ Less) same is in
    let tied : nat_cmp n n ≡ Equal = tied_itself nat_cmp_total n in
    let both : Less ≡ Equal = sym less ∙ tied in cc

pub found : (sides : List Side) (s : Side) → IsStrictlySortedBy ascend sides → Contains sides s → find (λ (x : Side). x.var.0 == s.var.0) sides ≡ Some s
found [] s up h = absurd (nothing_in_empty s h)
found (x ∷ sides) s up h = elim (in_cons x sides s h) [
  | inl same ↦
      let on : (x.var.0 == s.var.0) ≡ true = eq-eqb x.var.0 s.var.0 (ap (λ (u : Side). u.var.0) same) in
      ap (λ (b : Bool). cond b (Some x) (find (λ (y : Side). y.var.0 == s.var.0) sides)) on ∙ ap Some same
  | inr later ↦
      let less : ascend x s ≡ Less = All-contains (λ (u : Side). ascend x u ≡ Less) sides s (All-after_first ascend x sides up) later in
      let off : (x.var.0 == s.var.0) ≡ false = ne_eqb x.var.0 s.var.0 (less_apart x.var.0 s.var.0 less) in
      ap (λ (b : Bool). cond b (Some x) (find (λ (y : Side). y.var.0 == s.var.0) sides)) off ∙ found sides s (sorted_tail ascend x sides up) later
]

pub found_none : (sides : List Side) (v : ℕ) → NoneIsOf v sides → find (λ (x : Side). x.var.0 == v) sides ≡ None
found_none [] v none = refl
found_none (x ∷ sides) v none =
    let off : (x.var.0 == v) ≡ false = ne_eqb x.var.0 v (All-head (λ (s : Side). s.var.0 ≢ v) x sides none) in
    ap (λ (b : Bool). cond b (Some x) (find (λ (y : Side). y.var.0 == v) sides)) off ∙ found_none sides v (All-tail (λ (s : Side). s.var.0 ≢ v) x sides none)

-- sides of the same variables
pub none_of_same : (sides others : List Side) (v : ℕ) → map var_of others ≡ map var_of sides → NoneIsOf v others → NoneIsOf v sides
none_of_same [] others v same none = All-nil (λ (s : Side). s.var.0 ≢ v)
none_of_same (s ∷ sides) [] v same none = absurd (cc)
none_of_same (s ∷ sides) (r ∷ others) v same none =
    let one : r.var ≡ s.var = cc in
    let rest : map var_of others ≡ map var_of sides = cc in
    All-cons (λ (s : Side). s.var.0 ≢ v) s sides (λ e. All-head (λ (s : Side). s.var.0 ≢ v) r others none (ap (λ (u : VarId). u.0) one ∙ e))
    (none_of_same sides others v rest (All-tail (λ (s : Side). s.var.0 ≢ v) r others none))

-- a listed side is one of its variable
pub none_of_listed : (sides : List Side) (s : Side) → Contains sides s → NoneIsOf s.var.0 sides → ⊥
none_of_listed sides s h none = All-contains (λ (u : Side). u.var.0 ≢ s.var.0) sides s none h refl
