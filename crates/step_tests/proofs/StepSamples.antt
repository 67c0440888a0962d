-- Diagrams over set variables, for the tests.
use Rattle.std.proofs.Common.{◌≡◌, ℕ, zero, suc, ◌<◌, Bool, true, false, not, ◌||◌, List, [], ◌∷◌, length, get_or, Some, None, refl, sym, ap, ◌∙◌, subst, arith, Contains, cond}
use Rattle.std.specs.Prelude.{slice_get, IsSomeAnd}
use Rattle.std.specs.List.{All}
use Rattle.std.specs.Ordering.{nat_cmp}
use Rattle.std.specs.List.Sorted.{IsStrictlySortedBy}
use Rattle.std.proofs.lemmas.List.Elements.{All-from_recursion, All-contains}
use Rattle.std.proofs.lemmas.Option.{slice_get-get_or}
use Rattle.set_meaning.specs.declared.kinds.Kind.{Kind}
use Rattle.set_meaning.specs.declared.kinds.Kind.TheVariants as kind
use Rattle.set_meaning.specs.declared.kinds.Value.{Value}
use Rattle.set_meaning.specs.declared.problems.VarId.{VarId}
use Rattle.bit_layout.specs.Order.{LayoutState, IsLayout}
use Rattle.diagram_arena.specs.declared.nodes.Ref.{Ref}
use Rattle.diagram_arena.specs.declared.nodes.Ref.TheVariants.{Zero, One}
use Rattle.diagram_arena.specs.Table.{Word, Words, Table, has, IsLive}
use Rattle.diagram_arena.specs.Reach.{Bits, DependsOn}
use Rattle.diagram_arena.proofs.Meaning.{has-zero, has-one}
use Rattle.diagram_ops.specs.Words.{words_with, either, Denotes}
use Rattle.scope_words.specs.Words.{IsSetKind, IsBitOf, Gives, word_of_values, IsDiagramOf}
use Rattle.scope_words.proofs.Words.{assignment_given, given_bits}
use Rattle.scope_words.proofs.Decoding.{sets_given}
use Rattle.scope_words.proofs.Bits.{place_of_bit, is_bit_of}
use Rattle.exact_steps.specs.Domains.{variable, AtVariable, values_in, IsDomain, AreDomains}
use Rattle.exact_steps.specs.Steps.{IsInDiagram}
use Rattle.exact_steps.proofs.Values.{some_and, some_and_from, same_some}
use Rattle.exact_steps.proofs.Readings.{one_of, gives_own}
use Rattle.exact_steps.proofs.Sets.{own_words}
use Rattle.exact_steps.proofs.Wanted.{Covers, words_depend}

-- ---- diagrams over set variables

agree : Bool → Bool → Bool
agree true b = b
agree false b = not b

agree_from : (a b : Bool) → a ≡ b → agree a b ≡ true
unfolding agree
agree_from true b e = sym e
agree_from false b e = ap not (sym e)

agree_to : (a b : Bool) → agree a b ≡ true → a ≡ b
unfolding agree
agree_to true b e = sym e
agree_to false false e = refl
agree_to false true e = e

-- a set of words that depends on the scope's bits alone
abbrev pub IsOver : LayoutState → List VarId → Words → Type 0
IsOver l scope V = (set : Bits) → Covers l scope set → DependsOn set V

pub set_diagram : (l : LayoutState) (scope : List VarId) (t : Table) (r : Ref) → IsLayout l → All IsSetKind l.kinds → All (λ v. v.0 < length l.kinds) scope → IsLive t r → IsOver l scope (has t r)
    → IsDiagramOf l scope (IsInDiagram l t r) t r
set_diagram l scope t r ok sets known live over = record {
  live = live;
  words = record {
    sound = λ w h.
        let s = sets_given l scope w ok set_at in
        let own = assignment_given l scope s.0 ok s.1 known in
        (s.0, s.1, s.2, sym (same s.0 w (word_of_values l s.0) s.2 own) ∙ h);
    whole = λ w values given h. same values w (word_of_values l values) given (gives_own l scope values w ok given) ∙ h;
  };
}
  where
    set_at : (v : VarId) → Contains scope v → IsSomeAnd (slice_get l.kinds v.0) IsSetKind
    set_at v h =
        let within : v.0 < length l.kinds = All-contains (λ (v : VarId). v.0 < length l.kinds) scope v known h in
        some_and_from (slice_get l.kinds v.0) IsSetKind (get_or l.kinds v.0 kind.Bool) (slice_get-get_or l.kinds v.0 kind.Bool within) (sets v.0 kind.Bool within)

    same : (values : List Value) (w u : Word) → Gives l scope values w → Gives l scope values u → has t r w ≡ has t r u
    same values w u first second =
        over (λ b. agree (w b) (u b))
        (λ b h. let p = place_of_bit l scope b h in agree_from (w b) (u b) (given_bits l scope values w u b ok first second p.0 p.1 p.2)) w u (λ b on. agree_to (w b) (u b) on)

pub set_domain : (l : LayoutState) (t : Table) (v : VarId) (r : Ref) → IsLayout l → All IsSetKind l.kinds → v.0 < length l.kinds → IsLive t r → IsOver l (v ∷ []) (has t r) → (w : Word) → has t r w ≡ true → IsDomain l t v r
set_domain l t v r ok sets known live over w h =
    let is = set_diagram l (v ∷ []) t r ok sets (All-from_recursion (λ (v : VarId). v.0 < length l.kinds) (v ∷ []) (known, tt)) live over in
    let own = own_words l v (IsInDiagram l t r) (has t r) ok is.words in
    let s = own.sound w h in
    let at = some_and (slice_get s.0 v.0) (λ x. values_in l t v r x ≡ true) s.3 in
    record { diagram = record { live = live; words = own }; some = (at.0, at.2) }

pub one_domain : (l : LayoutState) (t : Table) (v : VarId) → IsLayout l → All IsSetKind l.kinds → v.0 < length l.kinds → IsDomain l t v One
one_domain l t v ok sets known = set_domain l t v One ok sets known tt (λ set covers w u same. has-one t w ∙ sym (has-one t u)) (λ _. true) (has-one t (λ _. true))

with_value : (b : ℕ) (value : Bool) → words_with b value (λ _. value) ≡ true
with_value b true = refl
with_value b false = refl

with_depends : (b : ℕ) (value : Bool) (w u : Word) → w b ≡ u b → words_with b value w ≡ words_with b value u
with_depends b true w u e = e
with_depends b false w u e = ap not e

pub literal_domain : (l : LayoutState) (t : Table) (v : VarId) (bit : ℕ) (value : Bool) (r : Ref) → IsLayout l → All IsSetKind l.kinds → v.0 < length l.kinds → IsBitOf l (v ∷ []) bit → Denotes t (words_with bit value) r → IsDomain l t v r
literal_domain l t v bit value r ok sets known of is =
    set_domain l t v r ok sets known is.live (λ set covers w u same. is.words w ∙ with_depends bit value w u (same bit (covers bit of)) ∙ sym (is.words u)) (λ _. value) (is.words (λ _. value) ∙ with_value bit value)

-- the union of two domains, each of a variable of the scope
pub clause_diagram : (l : LayoutState) (scope : List VarId) (t u : Table) (v w : VarId) (d e r : Ref) → IsLayout l → All IsSetKind l.kinds → All (λ v. v.0 < length l.kinds) scope → Contains scope v → Contains scope w
    → IsDomain l t v d → IsDomain l t w e → Denotes u (either (has t d) (has t e)) r → IsDiagramOf l scope (IsInDiagram l u r) u r
clause_diagram l scope t u v w d e r ok sets known at_v at_w first second is =
    set_diagram l scope u r ok sets known is.live (λ set covers x y same. is.words x
    ∙ ap (λ b. b || has t e x) (words_depend l (v ∷ []) (AtVariable v (λ x. values_in l t v d x ≡ true)) (has t d) set ok first.diagram.words (part v at_v set covers) x y same)
    ∙ ap (λ b. has t d y || b) (words_depend l (w ∷ []) (AtVariable w (λ x. values_in l t w e x ≡ true)) (has t e) set ok second.diagram.words (part w at_w set covers) x y same)
    ∙ sym (is.words y))
  where
    part : (z : VarId) → Contains scope z → (set : Bits) → Covers l scope set → Covers l (z ∷ []) set
    part z h set covers b of = let p = place_of_bit l (z ∷ []) b of in covers b (is_bit_of l scope b p.0 p.1 (subst (Contains scope) (one_of z p.0.variable p.2) h))

-- ---- two variables

pub two_known : (kinds : List Kind) → length kinds ≡ 2 → All (λ (v : VarId). v.0 < length kinds) (variable 0 ∷ variable 1 ∷ [])
two_known kinds two = All-from_recursion (λ (v : VarId). v.0 < length kinds) (variable 0 ∷ variable 1 ∷ []) (omega (arith, two), (omega (arith, two), tt))

pub two_domains : (l : LayoutState) (t : Table) (d e : Ref) → length l.kinds ≡ 2 → IsDomain l t (variable 0) d → IsDomain l t (variable 1) e → AreDomains l t (d ∷ e ∷ [])
two_domains l t d e two first second = record { long = sym two; each = λ v r. at v.0 r }
  where
    at : (n : ℕ) (r : Ref) → slice_get (d ∷ e ∷ []) n ≡ Some r → IsDomain l t (variable n) r
    at zero r h = let g : d ≡ r = same_some (Some d) d r refl h in subst (IsDomain l t (variable 0)) g first
    at (suc zero) r h = let g : e ≡ r = same_some (Some e) e r refl h in subst (IsDomain l t (variable 1)) g second
    at (suc (suc n)) r h = absurd (let g : None ≡ Some r = h in cc)

pub two_ascend : IsStrictlySortedBy (λ (v w : VarId). nat_cmp v.0 w.0) (variable 0 ∷ variable 1 ∷ [])
unfolding IsStrictlySortedBy
two_ascend = ((refl, tt), (tt, tt))

-- ---- no variables

pub constant_diagram : (l : LayoutState) (t : Table) (holds : Bool) (r : Ref) (scope : List VarId) → IsLayout l → All IsSetKind l.kinds → scope ≡ [] → r ≡ cond holds One Zero → IsDiagramOf l scope (IsInDiagram l t r) t r
constant_diagram l t holds r scope ok sets none is =
    subst (λ s. IsDiagramOf l s (IsInDiagram l t r) t r) (sym none) (subst (λ r. IsDiagramOf l [] (IsInDiagram l t r) t r) (sym is) (either_one holds))
  where
    either_one : (holds : Bool) → IsDiagramOf l [] (IsInDiagram l t (cond holds One Zero)) t (cond holds One Zero)
    either_one true = set_diagram l [] t One ok sets (All-from_recursion (λ (v : VarId). v.0 < length l.kinds) [] tt) tt (λ set covers w u same. has-one t w ∙ sym (has-one t u))
    either_one false = set_diagram l [] t Zero ok sets (All-from_recursion (λ (v : VarId). v.0 < length l.kinds) [] tt) tt (λ set covers w u same. has-zero t w ∙ sym (has-zero t u))

pub none_ascend : (scope : List VarId) → scope ≡ [] → IsStrictlySortedBy (λ (v w : VarId). nat_cmp v.0 w.0) scope
unfolding IsStrictlySortedBy
none_ascend scope none = subst (IsStrictlySortedBy (λ (v w : VarId). nat_cmp v.0 w.0)) (sym none) tt
