-- Value sets of set variables, for the tests.
use Rattle.std.proofs.Common.{◌≡◌, ℕ, zero, suc, ◌<◌, Bool, true, false, not, ◌||◌, List, [], ◌∷◌, length, get_or, Some, None, refl, sym, ap, ◌∙◌, subst, arith, Contains, cond}
use Rattle.std.specs.Prelude.{slice_get, IsSomeAnd}
use Rattle.std.specs.List.{All}
use Rattle.std.specs.Ordering.{nat_cmp}
use Rattle.std.specs.List.Sorted.{IsStrictlySortedBy}
use Rattle.std.proofs.lemmas.List.Elements.{All-from_recursion, All-contains}
use Rattle.std.proofs.lemmas.Option.{slice_get-get_or}
use Rattle.set_meaning.specs.declared.kinds.Kind.{Kind}
use Rattle.set_meaning.specs.declared.kinds.Kind.TheVariants as kind
use Rattle.set_meaning.specs.declared.kinds.Value.{Value}
use Rattle.set_meaning.specs.declared.problems.VarId.{VarId}
use Rattle.bit_layout.specs.Order.{LayoutState, IsLayout}
use Rattle.diagram_arena.specs.declared.nodes.Ref.{Ref}
use Rattle.diagram_arena.specs.declared.nodes.Ref.TheVariants.{Zero, One}
use Rattle.diagram_arena.specs.Table.{Word, Words, Table, has, IsLive}
use Rattle.diagram_arena.specs.Reach.{Bits, DependsOn}
use Rattle.diagram_arena.proofs.Meaning.{has-zero, has-one}
use Rattle.diagram_ops.specs.Words.{words_with, either, Denotes}
use Rattle.scope_words.specs.Words.{IsSetKind, IsBitOf, Gives, word_of_values, IsDiagramOf}
use Rattle.scope_words.proofs.Words.{assignment_given, given_bits}
use Rattle.scope_words.proofs.Decoding.{sets_given}
use Rattle.scope_words.proofs.Bits.{place_of_bit, is_bit_of}
use Rattle.exact_steps.specs.Domains.{AtVariable}
use Rattle.value_sets.specs.Sets.{IsValueSet}
use Rattle.exact_steps.specs.Steps.{IsInDiagram}
use Rattle.exact_steps.proofs.Values.{some_and, some_and_from, same_some}
use Rattle.exact_steps.proofs.Readings.{one_of, gives_own}
use Rattle.exact_steps.proofs.Sets.{own_words}
use Rattle.exact_steps.proofs.Wanted.{Covers, words_depend}

-- ---- diagrams over set variables

agree : Bool → Bool → Bool
agree true b = b
agree false b = not b

agree_from : (a b : Bool) → a ≡ b → agree a b ≡ true
unfolding agree
agree_from true b e = sym e
agree_from false b e = ap not (sym e)

agree_to : (a b : Bool) → agree a b ≡ true → a ≡ b
unfolding agree
agree_to true b e = sym e
agree_to false false e = refl
agree_to false true e = e

-- a set of words that depends on the scope's bits alone
abbrev pub IsOver : LayoutState → List VarId → Words → Type 0
IsOver l scope V = (set : Bits) → Covers l scope set → DependsOn set V

pub set_diagram : (l : LayoutState) (scope : List VarId) (t : Table) (r : Ref) → IsLayout l → All IsSetKind l.kinds → All (λ v. v.0 < length l.kinds) scope → IsLive t r → IsOver l scope (has t r)
    → IsDiagramOf l scope (IsInDiagram l t r) t r
set_diagram l scope t r ok sets known live over = record {
  live = live;
  words = record {
    sound = λ w h.
        let s = sets_given l scope w ok set_at in
        let own = assignment_given l scope s.0 ok s.1 known in
        (s.0, s.1, s.2, sym (same s.0 w (word_of_values l s.0) s.2 own) ∙ h);
    whole = λ w values given h. same values w (word_of_values l values) given (gives_own l scope values w ok given) ∙ h;
  };
}
  where
    set_at : (v : VarId) → Contains scope v → IsSomeAnd (slice_get l.kinds v.0) IsSetKind
    set_at v h =
        let within : v.0 < length l.kinds = All-contains (λ (v : VarId). v.0 < length l.kinds) scope v known h in
        some_and_from (slice_get l.kinds v.0) IsSetKind (get_or l.kinds v.0 kind.Bool) (slice_get-get_or l.kinds v.0 kind.Bool within) (sets v.0 kind.Bool within)

    same : (values : List Value) (w u : Word) → Gives l scope values w → Gives l scope values u → has t r w ≡ has t r u
    same values w u first second =
        over (λ b. agree (w b) (u b))
        (λ b h. let p = place_of_bit l scope b h in agree_from (w b) (u b) (given_bits l scope values w u b ok first second p.0 p.1 p.2)) w u (λ b on. agree_to (w b) (u b) on)

pub set_values : (l : LayoutState) (t : Table) (v : VarId) (r : Ref) → IsLayout l → All IsSetKind l.kinds → v.0 < length l.kinds → IsLive t r → IsOver l (v ∷ []) (has t r) → IsValueSet l t v r
set_values l t v r ok sets known live over =
    let is = set_diagram l (v ∷ []) t r ok sets (All-from_recursion (λ (v : VarId). v.0 < length l.kinds) (v ∷ []) (known, tt)) live over in
    record { live = live; words = own_words l v (IsInDiagram l t r) (has t r) ok is.words }

pub one_values : (l : LayoutState) (t : Table) (v : VarId) → IsLayout l → All IsSetKind l.kinds → v.0 < length l.kinds → IsValueSet l t v One
one_values l t v ok sets known = set_values l t v One ok sets known tt (λ set covers w u same. has-one t w ∙ sym (has-one t u))

pub zero_values : (l : LayoutState) (t : Table) (v : VarId) → IsLayout l → All IsSetKind l.kinds → v.0 < length l.kinds → IsValueSet l t v Zero
zero_values l t v ok sets known = set_values l t v Zero ok sets known tt (λ set covers w u same. has-zero t w ∙ sym (has-zero t u))

with_depends : (b : ℕ) (value : Bool) (w u : Word) → w b ≡ u b → words_with b value w ≡ words_with b value u
with_depends b true w u e = e
with_depends b false w u e = ap not e

pub literal_values : (l : LayoutState) (t : Table) (v : VarId) (bit : ℕ) (value : Bool) (r : Ref) → IsLayout l → All IsSetKind l.kinds → v.0 < length l.kinds → IsBitOf l (v ∷ []) bit → Denotes t (words_with bit value) r → IsValueSet l t v r
literal_values l t v bit value r ok sets known of is =
    set_values l t v r ok sets known is.live (λ set covers w u same. is.words w ∙ with_depends bit value w u (same bit (covers bit of)) ∙ sym (is.words u))
