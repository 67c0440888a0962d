-- The domain of a variable's initial values.
use Rattle.std.proofs.Common.{◌≡◌, ℕ, ◌≤◌, true, false, List, [], ◌∷◌, length, Option, Some, Result, Ok, Err, ℤ, refl, sym, ap, ◌∙◌, subst, inl, inr, arith, Contains}
use Rattle.std.specs.Prelude.{slice_get, IfOk}
use Rattle.std.specs.Option.{option_map_or}
use Rattle.std.proofs.lemmas.List.Elements.{All-contains}
use Rattle.std.specs.List.Sorted.{IsStrictlySortedBy}
use Rattle.set_meaning.specs.declared.kinds.Kind.{Kind}
use Rattle.set_meaning.specs.declared.kinds.Kind.TheVariants as kind
use Rattle.set_meaning.specs.declared.kinds.Value.{Value}
use Rattle.set_meaning.specs.declared.kinds.Value.TheVariants as value
use Rattle.set_meaning.specs.declared.problems.VarId.{VarId}
use Rattle.set_meaning.specs.Sets.{Has, IsSubset}
use Rattle.set_meaning.specs.Kinds.{InKind}
use Rattle.set_meaning.specs.Problems.{IsKind}
use Rattle.bit_layout.specs.Limits.{IsNarrow}
use Rattle.bit_layout.specs.Words.{width_of}
use Rattle.bit_layout.specs.Order.{LayoutState, IsLayout, width_at, IsValueAt}
use Rattle.bit_layout.proofs.Finding.{legal_kind}
use Rattle.bit_layout.proofs.Numbers.{narrow_width}
use Rattle.bit_layout.proofs.Rising.{nothing_in_empty, in_cons, in_head}
use Rattle.bit_layout.proofs.ValuesAt.{set_at}
use Rattle.diagram_arena.specs.declared.nodes.Ref.{Ref}
use Rattle.diagram_arena.specs.declared.nodes.Ref.TheVariants.{One}
use Rattle.diagram_arena.specs.declared.nodes.Stop.{Stop}
use Rattle.diagram_arena.specs.Table.{Word, Table, has}
use Rattle.diagram_arena.proofs.Meaning.{has-one}
use Rattle.scope_words.specs.Words.{bits_at, read, AreBitsOf, IsDiagramOf}
use Rattle.scope_words.proofs.Bits.{bits_once, length-bits_at}
use Rattle.scope_words.proofs.Words.{length-read}
use Rattle.exact_steps.specs.Domains.{is_initial, word_of_value, values_in}
use Rattle.exact_steps.proofs.Values.{both_from, some_list, initial_from}
use Rattle.exact_steps.proofs.Sets.{value_whole, own_words}
use Rattle.exact_steps.proofs.Wanted.{bits_of_one}
use Rattle.propagators.specs.Compiled.{IsInitialDomain}
use Rattle.propagators.specs.Units.{Anything}
use Rattle.scope_words.specs.Words.{HaveFewBits}
use Rattle.propagators.proofs.Moving.{listed_at}
use Rattle.propagators.proofs.Truths.{ValuesFit, with_bool}

-- ---- a diagram of all initial values is the initial domain

some_value : (k : Kind) → IsKind k → (x : Value) × InKind k x
unfolding InKind Has IsSubset IsStrictlySortedBy
some_value kind.Bool legal = (value.Bool false, tt)
some_value (kind.Int []) legal = absurd (legal.1 refl)
some_value (kind.Int (x ∷ xs)) legal = (value.Int x, in_head x xs)
some_value (kind.Set universe) legal = (value.Set [], record { ascending = tt; within = λ x h. absurd (nothing_in_empty x h) })

pub initial_domain : (l : LayoutState) (t : Table) (v : VarId) (k : Kind) (r : Ref) → IsLayout l → slice_get l.kinds v.0 ≡ Some k → IsDiagramOf l (v ∷ []) Anything t r → IsInitialDomain l t v r
initial_domain l t v k r ok e is =
    let passes : (x : Value) → is_initial l v x ≡ true → values_in l t v r x ≡ true = λ x h.
    let values = some_list v.0 x in
    both_from (is_initial l v x) (has t r (word_of_value l v x)) h (value_whole l v Anything (has t r) values.0 x ok is.words h values.1 tt) in
    let x = some_value k (legal_kind l v.0 k ok e) in
    record {
      domain = record {
        diagram = record { live = is.live; words = own_words l v Anything (has t r) ok is.words };
        some = (x.0, passes x.0 (initial_from l v k x.0 ok e x.1));
      };
      all = passes;
    }

pub initial_made : (l : LayoutState) (t : Table) (v : VarId) (k : Kind) (result : Result Ref Stop) → IsLayout l → slice_get l.kinds v.0 ≡ Some k → IfOk result (IsDiagramOf l (v ∷ []) Anything t) → IfOk result (IsInitialDomain l t v)
initial_made l t v k (Ok r) ok e is = initial_domain l t v k r ok e is
initial_made l t v k (Err s) ok e is = tt

-- ---- Booleans and sets have all words

all_words : ValuesFit → (l : LayoutState) (v : VarId) → IsLayout l → ((w : Word) → (x : Value) × IsValueAt l v (read l v w) x) → (t : Table) → IsDiagramOf l (v ∷ []) Anything t One
all_words fit l v ok each t = record {
  live = tt;
  words = record {
    sound = λ w h. let r = fit l (v ∷ []) w ok (λ u m. subst (λ z. (x : Value) × IsValueAt l z (read l z w) x) (one u m) (each w)) in (r.0, r.1, r.2, tt);
    whole = λ w values given any. has-one t w;
  };
}
  where
    one : (u : VarId) → Contains (v ∷ []) u → v ≡ u
    one u m = elim (in_cons v [] u m) [ inl same ↦ same | inr none ↦ absurd (nothing_in_empty u none) ]

pub bool_domain : ValuesFit → (l : LayoutState) (t : Table) (v : VarId) → IsLayout l → slice_get l.kinds v.0 ≡ Some kind.Bool → IsInitialDomain l t v One
bool_domain fit l t v ok e = initial_domain l t v kind.Bool One ok e (all_words fit l v ok (λ w. (value.Bool _, with_bool l v w e)) t)

pub set_domain : ValuesFit → (l : LayoutState) (t : Table) (v : VarId) (universe : List ℤ) → IsLayout l → slice_get l.kinds v.0 ≡ Some (kind.Set universe) → IsInitialDomain l t v One
set_domain fit l t v universe ok e =
    let P : Option Kind → Type 0 = λ o. option_map_or width_of o 0 ≡ length universe in
    let wide : width_at l v ≡ length universe = subst P (sym e) refl in
    initial_domain l t v (kind.Set universe) One ok e (all_words fit l v ok (λ w. let s = set_at l v universe (read l v w) ok e (length-read l v w ∙ wide) in (value.Set s.0, s.1)) t)

-- ---- integers have few bits

narrow_kind : (l : LayoutState) (v : ℕ) (k : Kind) → IsLayout l → slice_get l.kinds v ≡ Some k → IsNarrow k
narrow_kind l v k ok e = All-contains IsNarrow l.kinds k ok.limits.narrow (listed_at l.kinds v k e)

pub int_narrow : (l : LayoutState) (v : VarId) (vs : List VarId) (numbers : List ℤ) → IsLayout l → slice_get l.kinds v.0 ≡ Some (kind.Int numbers) → vs ≡ v ∷ [] → HaveFewBits l vs
int_narrow l v vs numbers ok e same bits are =
    let own = subst (λ us. AreBitsOf l us bits) same are in
    let once : bits ≡ bits_at l v = bits_once l (v ∷ []) bits (bits_at l v) own (bits_of_one l v ok) in
    let P : Option Kind → Type 0 = λ o. option_map_or width_of o 0 ≡ width_of (kind.Int numbers) in
    let wide : width_at l v ≡ width_of (kind.Int numbers) = subst P (sym e) refl in
    let few : width_of (kind.Int numbers) ≤ 16 = narrow_width _ (narrow_kind l v.0 (kind.Int numbers) ok e) in
    let long = ap length once ∙ length-bits_at l v ∙ wide in
    omega (arith, long, few)
