-- Values read from a word: each set variable has the set of its bits.
use Rattle.std.proofs.Common.{◌≡◌, ℕ, zero, suc, ◌+◌, Bool, false, ℤ, List, [], ◌∷◌, get_or, Option, Some, None, refl, sym, ap, ◌∙◌, arith, Contains}
use Rattle.std.specs.Prelude.{slice_get, IsSomeAnd}
use Rattle.set_meaning.specs.declared.kinds.Kind.{Kind}
use Rattle.set_meaning.specs.declared.kinds.Kind.TheVariants as kind
use Rattle.set_meaning.specs.declared.kinds.Value.{Value}
use Rattle.set_meaning.specs.declared.kinds.Value.TheVariants as value
use Rattle.set_meaning.specs.declared.problems.VarId.{VarId}
use Rattle.set_meaning.specs.Kinds.{InKind, IsAssignment}
use Rattle.set_meaning.specs.Sets.{Has, ascending_set}
use Rattle.set_meaning.proofs.Ascending.{IsSetOf-ascending_set}
use Rattle.diagram_arena.specs.Table.{Word}
use Rattle.bit_layout.specs.Words.{least, IsValueOf}
use Rattle.bit_layout.specs.Order.{LayoutState, IsLayout}
use Rattle.bit_layout.proofs.Elements.{chosen}
use Rattle.bit_layout.proofs.KindWords.{set_value}
use Rattle.bit_layout.proofs.Finding.{legal_kind}
use Rattle.bit_layout.proofs.ValuesAt.{width_is}
use Rattle.scope_words.specs.Words.{read, Gives, IsSetKind}
use Rattle.scope_words.proofs.Words.{length-read, value_gives}

-- the set of the true bits, the first Boolean, and the least integer whatever the bits are
decoded : Kind → List Bool → Value
decoded kind.Bool word = value.Bool (get_or word 0 false)
decoded (kind.Int numbers) word = value.Int (least numbers)
decoded (kind.Set u) word = value.Set (ascending_set (chosen u word))

variable : ℕ → VarId
variable n = record { 0 = n }

abbrev values_read : LayoutState → Word → ℕ → List Kind → List Value
values_read l w n [] = []
values_read l w n (k ∷ ks) = decoded k (read l (variable n) w) ∷ values_read l w (n + 1) ks

decoded_set : (l : LayoutState) (v : VarId) (u : List ℤ) (w : Word) → IsLayout l → slice_get l.kinds v.0 ≡ Some (kind.Set u) → IsValueOf (kind.Set u) (read l v w) (decoded (kind.Set u) (read l v w))
unfolding decoded
decoded_set l v u w ok e =
    let word : List Bool = read l v w in
    set_value u word (chosen u word) (ascending_set (chosen u word)) (legal_kind l v.0 (kind.Set u) ok e) (length-read l v w ∙ width_is l v (kind.Set u) e) refl (IsSetOf-ascending_set (chosen u word))

some_number : (numbers : List ℤ) → (numbers ≡ [] → ⊥) → Has numbers (least numbers)
unfolding Has
some_number [] some = absurd (some refl)
some_number (x ∷ xs) some = (0, omega arith, refl)

decoded_in_kind : (l : LayoutState) (v : VarId) (k : Kind) (w : Word) → IsLayout l → slice_get l.kinds v.0 ≡ Some k → InKind k (decoded k (read l v w))
unfolding decoded InKind
decoded_in_kind l v kind.Bool w ok e = tt
decoded_in_kind l v (kind.Int numbers) w ok e = some_number numbers (legal_kind l v.0 (kind.Int numbers) ok e).1
decoded_in_kind l v (kind.Set u) w ok e = (decoded_set l v u w ok e).in_kind

values_in_kinds : (l : LayoutState) (w : Word) (n : ℕ) (ks : List Kind) → IsLayout l → ((i : ℕ) → slice_get l.kinds (n + i) ≡ slice_get ks i) → IsAssignment ks (values_read l w n ks)
unfolding variable
values_in_kinds l w n [] ok same = tt
values_in_kinds l w n (k ∷ ks) ok same =
    let at : n + 0 ≡ n = omega arith in
    let here : slice_get l.kinds n ≡ Some k = ap (slice_get l.kinds) (sym at) ∙ same 0 in
    (decoded_in_kind l (variable n) k w ok here, values_in_kinds l w (n + 1) ks ok (λ i. let next : (n + 1) + i ≡ n + suc i = omega arith in ap (slice_get l.kinds) next ∙ same (suc i)))

value_read : (l : LayoutState) (w : Word) (n i : ℕ) (ks : List Kind) (k : Kind) → slice_get ks i ≡ Some k → slice_get (values_read l w n ks) i ≡ Some (decoded k (read l (variable (n + i)) w))
value_read l w n i [] k e = absurd (let f : None ≡ Some k = e in cc)
value_read l w n zero (j ∷ ks) k e =
    let same : j ≡ k = let f : Some j ≡ Some k = e in cc in
    let at : n ≡ n + 0 = omega arith in
    ap (λ z. Some (decoded z (read l (variable n) w))) same ∙ ap (λ m. Some (decoded k (read l (variable m) w))) at
value_read l w n (suc i) (j ∷ ks) k e =
    let next : (n + 1) + i ≡ n + suc i = omega arith in
    value_read l w (n + 1) i ks k e ∙ ap (λ m. Some (decoded k (read l (variable m) w))) next

-- each word gives values to set variables
pub sets_given : (l : LayoutState) (scope : List VarId) (w : Word) → IsLayout l → ((v : VarId) → Contains scope v → IsSomeAnd (slice_get l.kinds v.0) IsSetKind) → (values : List Value) × IsAssignment l.kinds values × Gives l scope values w
unfolding variable
sets_given l scope w ok sets =
    let values : List Value = values_read l w 0 l.kinds in (
      values,
      values_in_kinds l w 0 l.kinds ok (λ i. let at : 0 + i ≡ i = omega arith in ap (slice_get l.kinds) at),
      λ v h.
          let s = set_kind_at (slice_get l.kinds v.0) (sets v h) in
          let at : 0 + v.0 ≡ v.0 = omega arith in
          value_gives l values v (read l v w) (decoded (kind.Set s.0) (read l v w)) (kind.Set s.0)
          (value_read l w 0 v.0 l.kinds (kind.Set s.0) s.1 ∙ ap (λ m. Some (decoded (kind.Set s.0) (read l (variable m) w))) at) s.1 (decoded_set l v s.0 w ok s.1),
    )
  where
    set_kind_at : (o : Option Kind) → IsSomeAnd o IsSetKind → (u : List ℤ) × (o ≡ Some (kind.Set u))
    set_kind_at None h = absurd h
    set_kind_at (Some kind.Bool) h = absurd h
    set_kind_at (Some (kind.Int numbers)) h = absurd h
    set_kind_at (Some (kind.Set u)) h = (u, refl)
