-- The step's sets: which bits their parts reach. Domains in tables that grow.
use Rattle.std.proofs.Common.{◌≡◌, ℕ, ◌+◌, ◌<◌, Bool, true, ◌&&◌, List, [], ◌∷◌, ◌++◌, length, get_or, Some, refl, sym, ap, ◌∙◌, subst, arith, Contains}
use Rattle.std.specs.Prelude.{slice_get, IsSomeAnd}
use Rattle.std.specs.List.Sorted.{IsStrictlyIncreasing}
use Rattle.std.specs.Option.{option_map_or}
use Rattle.std.proofs.Math.Path.{fun_ext}
use Rattle.std.proofs.lemmas.List.{take_more}
use Rattle.std.proofs.lemmas.List.Elements.{Contains-get_or}
use Rattle.set_meaning.specs.declared.kinds.Value.{Value}
use Rattle.set_meaning.specs.declared.problems.VarId.{VarId}
use Rattle.bit_layout.specs.Order.{LayoutState, IsLayout, bit_at, width_at, IsValueAt}
use Rattle.bit_layout.proofs.Finding.{bits_ascend}
use Rattle.bit_layout.proofs.Rising.{in_head}
use Rattle.diagram_arena.specs.declared.nodes.Ref.{Ref}
use Rattle.diagram_arena.specs.declared.nodes.Ref.TheVariants.{Node}
use Rattle.diagram_arena.specs.Table.{Word, Words, Table, has, IsLive, IsReduced}
use Rattle.diagram_arena.specs.Reach.{Bits, among, DependsOn}
use Rattle.diagram_arena.specs.Arena.{table, Grows}
use Rattle.diagram_arena.proofs.Reach.{reaches_only, part_depends}
use Rattle.diagram_ops.specs.Words.{both, Denotes, IsProjection}
use Rattle.search_rules.specs.Family.{HasValue}
use Rattle.scope_words.specs.Words.{bits_at, Gives, IsBitOf, AreBitsOf, AreWordsOf, IsDiagramOf, NewReachOnlyScope}
use Rattle.scope_words.proofs.Bits.{length-bits_at, bits_at-at, bits_at_has, in_bits_at, place_of_bit, place_within, is_bit_of, bit_is_of}
use Rattle.scope_words.proofs.Words.{same_reading}
use Rattle.exact_steps.specs.Domains.{is_initial, word_of_value, AtVariable, values_in, IsDomain, AreDomains, family}
use Rattle.exact_steps.specs.Steps.{IsInDiagram}
use Rattle.exact_steps.specs.Parts.{Within, IsWanted, NewAreWanted}
use Rattle.exact_steps.proofs.Values.{same_truth}
use Rattle.exact_steps.proofs.Readings.{one_of}
use Rattle.exact_steps.proofs.Sets.{among_contains}

-- ---- bits

-- these bits hold all those of the scope
abbrev pub Covers : LayoutState → List VarId → Bits → Type 0
Covers l scope set = (b : ℕ) → IsBitOf l scope b → set b ≡ true

gives_agree : (l : LayoutState) (scope : List VarId) (set : Bits) (values : List Value) (w u : Word) → IsLayout l → Covers l scope set → ((b : ℕ) → set b ≡ true → w b ≡ u b) → Gives l scope values w → Gives l scope values u
gives_agree l scope set values w u ok covers agree given v h =
    subst (λ word. IsSomeAnd (slice_get values v.0) (IsValueAt l v word))
    (same_reading l v w u (λ i within. agree (bit_at l v i) (covers (bit_at l v i) (bit_is_of l scope v i ok h within)))) (given v h)

-- a set of words of the scope depends on its bits
pub words_depend : (l : LayoutState) (scope : List VarId) (C : List Value → Type 0) (V : Words) (set : Bits) → IsLayout l → AreWordsOf l scope C V → Covers l scope set → DependsOn set V
words_depend l scope C V set ok words covers w u agree =
    same_truth (V w) (V u)
    (λ h. let r = words.sound w h in words.whole u r.0 (gives_agree l scope set r.0 w u ok covers agree r.2) r.3)
    (λ h. let r = words.sound u h in words.whole w r.0 (gives_agree l scope set r.0 u w ok covers (λ b on. sym (agree b on)) r.2) r.3)

projection_depends : (bits set : Bits) (V P : Words) → ((b : ℕ) → bits b ≡ true → set b ≡ true) → IsProjection bits V P → DependsOn set P
projection_depends bits set V P covers is w u agree =
    same_truth (P w) (P u)
    (λ h. let r = is.sound w h in is.whole u r.0 r.1 (λ b on. sym (agree b (covers b on)) ∙ r.2 b on))
    (λ h. let r = is.sound u h in is.whole w r.0 r.1 (λ b on. agree b (covers b on) ∙ r.2 b on))

-- the bits of one variable
bits_rise : (l : LayoutState) (v : VarId) → IsLayout l → IsStrictlyIncreasing (bits_at l v)
bits_rise l v ok k within =
    let long = length-bits_at l v in
    let next : k + 1 < width_at l v = omega (arith, long, within) in
    let here : k < width_at l v = omega (arith, next) in
    let less : bit_at l v k < bit_at l v (k + 1) = bits_ascend l v k (k + 1) ok (omega arith) next in
    let one = bits_at-at l v k 0 here in
    let two = bits_at-at l v (k + 1) 0 next in
    omega (arith, less, one, two)

pub bits_of_one : (l : LayoutState) (v : VarId) → IsLayout l → AreBitsOf l (v ∷ []) (bits_at l v)
bits_of_one l v ok = record {
  ascending = bits_rise l v ok;
  members = λ b. (
    λ h. let r = in_bits_at l v b h in subst (IsBitOf l (v ∷ [])) r.2 (bit_is_of l (v ∷ []) v r.0 ok (in_head v []) r.1),
    λ h.
        let r = place_of_bit l (v ∷ []) b h in
        let s = place_within l b r.0 ok r.1 in
        let same : v ≡ r.0.variable = one_of v r.0.variable r.2 in
        subst (λ u. Contains (bits_at l u) b) (sym same) (subst (Contains (bits_at l r.0.variable)) s.1 (bits_at_has l r.0.variable r.0.position s.0)),
  );
}

covers_one : (l : LayoutState) (scope : List VarId) (v : VarId) (bits : List ℕ) (set : Bits) → Contains scope v → AreBitsOf l (v ∷ []) bits → Covers l scope set → (b : ℕ) → among bits b ≡ true → set b ≡ true
covers_one l scope v bits set scoped are covers b on =
    let r = place_of_bit l (v ∷ []) b ((are.members b).0 (among_contains bits b on)) in
    covers b (is_bit_of l scope b r.0 r.1 (subst (Contains scope) (one_of v r.0.variable r.2) scoped))

-- ---- parts of the step's sets

pub wanted_depends : (l : LayoutState) (scope : List VarId) (C : List Value → Type 0) (f : ℕ → Value → Bool) (W : Words) (set : Bits) → IsLayout l → Covers l scope set → IsWanted l scope C f W → DependsOn set W
wanted_depends l scope C f W set ok covers is =
    part_depends set W is.part.projection is.part.within
    (projection_depends (among is.bits) set is.part.part is.part.projection (covers_one l scope is.variable is.bits set is.scoped is.bits_are covers) is.part.projects)

pub wanted_reach : (l : LayoutState) (scope : List VarId) (C : List Value → Type 0) (f : ℕ → Value → Bool) (old new : Table) → IsLayout l → IsReduced new → NewAreWanted l scope C f old new → NewReachOnlyScope l scope old new
wanted_reach l scope C f old new ok reduced news set covers i none live =
    reaches_only new reduced set (Node i) live (wanted_depends l scope C f (has new (Node i)) set ok covers (news i none live))

-- ---- domains in tables that grow

pub grows_itself : (t : Table) → Grows t t
grows_itself t = record { kept = λ i n h. h; live = λ r h. h; depths = λ r h. refl; words = λ r h w. refl }

pub words_grow : (t u : Table) → Grows t u → (r : Ref) → IsLive t r → has u r ≡ has t r
words_grow t u grows r live = fun_ext (grows.words r live)

-- a ref that is in another table with the same words
pub diagram_same : (l : LayoutState) (scope : List VarId) (C : List Value → Type 0) (t u : Table) (r : Ref) → IsLive u r → ((w : Word) → has u r w ≡ has t r w) → IsDiagramOf l scope C t r → IsDiagramOf l scope C u r
diagram_same l scope C t u r live same is = record { live = live; words = subst (AreWordsOf l scope C) (sym (fun_ext same)) is.words }

pub values_same : (l : LayoutState) (t u : Table) (v : VarId) (r : Ref) → ((w : Word) → has u r w ≡ has t r w) → values_in l u v r ≡ values_in l t v r
values_same l t u v r same = ap (λ (V : Words). λ x. is_initial l v x && V (word_of_value l v x)) (fun_ext same)

pub domain_same : (l : LayoutState) (t u : Table) (v : VarId) (r : Ref) → IsLive u r → ((w : Word) → has u r w ≡ has t r w) → IsDomain l t v r → IsDomain l u v r
domain_same l t u v r live words is =
    let same : values_in l t v r ≡ values_in l u v r = sym (values_same l t u v r words) in record {
      diagram = subst (λ D. IsDiagramOf l (v ∷ []) (AtVariable v (λ x. D x ≡ true)) u r) same (diagram_same l (v ∷ []) (AtVariable v (λ x. values_in l t v r x ≡ true)) t u r live words is.diagram);
      some = subst HasValue same is.some;
    }

pub diagram_grows : (l : LayoutState) (scope : List VarId) (C : List Value → Type 0) (t u : Table) (r : Ref) → Grows t u → IsDiagramOf l scope C t r → IsDiagramOf l scope C u r
diagram_grows l scope C t u r grows is = diagram_same l scope C t u r (grows.live r is.live) (grows.words r is.live) is

pub values_grow : (l : LayoutState) (t u : Table) (v : VarId) (r : Ref) → Grows t u → IsLive t r → values_in l u v r ≡ values_in l t v r
values_grow l t u v r grows live = values_same l t u v r (grows.words r live)

pub domain_grows : (l : LayoutState) (t u : Table) (v : VarId) (r : Ref) → Grows t u → IsDomain l t v r → IsDomain l u v r
domain_grows l t u v r grows is = domain_same l t u v r (grows.live r is.diagram.live) (grows.words r is.diagram.live) is

pub domains_grow : (l : LayoutState) (t u : Table) (domains : List Ref) → Grows t u → AreDomains l t domains → AreDomains l u domains
domains_grow l t u domains grows are = record { long = are.long; each = λ v r e. domain_grows l t u v r grows (are.each v r e) }

-- the values of a variable in the family of the domains
pub family_at : (l : LayoutState) (t : Table) (domains : List Ref) (v : VarId) (d : Ref) → slice_get domains v.0 ≡ Some d → family l t domains v.0 ≡ values_in l t v d
family_at l t domains v d e = ap (λ o. λ x. option_map_or (λ r. values_in l t v r x) o true) e

pub family_words : (l : LayoutState) (t u : Table) (domains : List Ref) (v : VarId) (d : Ref) → Grows t u → AreDomains l t domains → slice_get domains v.0 ≡ Some d
    → IsDiagramOf l (v ∷ []) (AtVariable v (λ x. family l t domains v.0 x ≡ true)) u d
family_words l t u domains v d grows are e =
    let one = are.each v d e in
    diagram_grows l (v ∷ []) (AtVariable v (λ x. family l t domains v.0 x ≡ true)) t u d grows
    (subst (λ D. IsDiagramOf l (v ∷ []) (AtVariable v (λ x. D x ≡ true)) t d) (sym (family_at l t domains v d e)) one.diagram)
