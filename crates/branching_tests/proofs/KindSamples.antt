-- For the tests: their kinds are within the limits, and the diagram of all initial values is a domain.
use Rattle.std.proofs.Common.{◌≡◌, ◌<◌, ◌≤◌, ◌↔◌, Contains, true, false, Bool, List, [], ◌∷◌, length, get_or, pos, negsuc, Some, Result, refl, sym, ◌∙◌, subst, lit≤}
use Rattle.std.specs.Prelude.{slice_get, IfOk}
use Rattle.std.specs.List.{sum_by, All}
use Rattle.std.specs.List.Sorted.{IsStrictlySortedBy}
use Rattle.std.proofs.lemmas.List.Elements.{All-from_recursion}
use Rattle.std.proofs.lemmas.Option.{slice_get-get_or}
use Rattle.std.proofs.lemmas.Result.{IfOk-weaker}
use Rattle.set_meaning.specs.declared.kinds.Kind.{Kind}
use Rattle.set_meaning.specs.declared.kinds.Kind.TheVariants as kind
use Rattle.set_meaning.specs.declared.kinds.Value.{Value}
use Rattle.set_meaning.specs.declared.kinds.Value.TheVariants as value
use Rattle.set_meaning.specs.declared.problems.VarId.{VarId}
use Rattle.set_meaning.specs.Kinds.{InKind}
use Rattle.set_meaning.specs.Problems.{IsKind}
use Rattle.set_meaning.specs.Sets.{Has, IsSubset}
use Rattle.bit_layout.specs.Words.{bit_width}
use Rattle.bit_layout.specs.Limits.{AreWithinLimits, IsNarrow, counted_bits}
use Rattle.bit_layout.specs.Order.{LayoutState, IsLayout, IsValueAt}
use Rattle.bit_layout.proofs.Finding.{legal_kind}
use Rattle.bit_layout.proofs.Rising.{nothing_in_empty, in_head}
use Rattle.diagram_arena.specs.declared.nodes.Ref.{Ref}
use Rattle.diagram_arena.specs.declared.nodes.Stop.{Stop}
use Rattle.diagram_arena.specs.Table.{Word, Words, Table, has}
use Rattle.diagram_ops.specs.Words.{Denotes}
use Rattle.scope_words.specs.Words.{read, AreWordsOf}
use Rattle.table_machine.specs.Values.{GivesInitialValues}
use Rattle.exact_steps.specs.Domains.{is_initial, word_of_value, IsDomain}
use Rattle.exact_steps.proofs.Values.{both_from, some_list, initial_from}
use Rattle.exact_steps.proofs.Readings.{given_at}
use Rattle.exact_steps.proofs.Sets.{value_whole, own_words}

-- ---- kinds

abbrev sample : List Kind
sample = kind.Set (pos 1 ∷ pos 2 ∷ pos 3 ∷ []) ∷ kind.Bool ∷ kind.Int (negsuc 2 ∷ pos 4 ∷ pos 5 ∷ pos 9 ∷ []) ∷ kind.Set [] ∷ []

sample_kinds : All IsKind sample
unfolding IsStrictlySortedBy
sample_kinds = All-from_recursion IsKind sample (((refl, (refl, tt)), ((refl, tt), (tt, tt))), (tt, ((((refl, (refl, (refl, tt))), ((refl, (refl, tt)), ((refl, tt), (tt, tt)))), λ e. cc), (tt, tt))))

sample_narrow : All IsNarrow sample
sample_narrow = All-from_recursion IsNarrow sample (tt, (tt, (lit≤ tt, (tt, tt))))

sample_bits : sum_by counted_bits sample ≤ 1048576
unfolding bit_width
sample_bits = lit≤ tt

pub sample_within : (kinds : List Kind) (a b c : Kind) → kinds ≡ a ∷ kind.Bool ∷ b ∷ c ∷ [] → a ≡ kind.Set (pos 1 ∷ pos 2 ∷ pos 3 ∷ []) → b ≡ kind.Int (negsuc 2 ∷ pos 4 ∷ pos 5 ∷ pos 9 ∷ []) → c ≡ kind.Set [] → AreWithinLimits kinds
sample_within kinds a b c are p q r =
    let same : kinds ≡ sample = cc in
    subst AreWithinLimits (sym same) record { legal = sample_kinds; narrow = sample_narrow; bits = sample_bits }

-- ---- the domain of all initial values

some_value : (k : Kind) → IsKind k → (x : Value) × InKind k x
unfolding InKind Has IsSubset IsStrictlySortedBy
some_value kind.Bool legal = (value.Bool false, tt)
some_value (kind.Int []) legal = absurd (legal.1 refl)
some_value (kind.Int (x ∷ xs)) legal = (value.Int x, in_head x xs)
some_value (kind.Set universe) legal = (value.Set [], record { ascending = tt; within = λ x h. absurd (nothing_in_empty x h) })

-- any values
abbrev Anything : List Value → Type 0
Anything values = Unit {0}

-- values fit together
abbrev pub Fit : Type 0
Fit = (l : LayoutState) (scope : List VarId) (w : Word) → IsLayout l → ((v : VarId) → Contains scope v → (x : Value) × IsValueAt l v (read l v w) x) → GivesInitialValues l scope w

initial_is_domain : Fit → (l : LayoutState) (t : Table) (v : VarId) (V : Words) (r : Ref) → IsLayout l → v.0 < length l.kinds → ((w : Word) → (V w ≡ true) ↔ GivesInitialValues l (v ∷ []) w) → Denotes t V r → IsDomain l t v r
initial_is_domain fit l t v V r ok known law is =
    let words : AreWordsOf l (v ∷ []) Anything (has t r) = record {
      sound = λ w h. let g = (law w).0 (sym (is.words w) ∙ h) in (g.0, g.1, g.2, tt);
      whole = λ w values given any. is.words w ∙ (law w).1 (fit l (v ∷ []) w ok (λ u m. let g = given_at l (v ∷ []) values w u given m in (g.0, g.2)));
    } in
    let k : Kind = get_or l.kinds v.0 kind.Bool in
    let e : slice_get l.kinds v.0 ≡ Some k = slice_get-get_or l.kinds v.0 kind.Bool known in
    let x = some_value k (legal_kind l v.0 k ok e) in
    let h : is_initial l v x.0 ≡ true = initial_from l v k x.0 ok e x.1 in
    let values = some_list v.0 x.0 in
    record {
      diagram = record { live = is.live; words = own_words l v Anything (has t r) ok words };
      some = (x.0, both_from (is_initial l v x.0) (has t r (word_of_value l v x.0)) h (value_whole l v Anything (has t r) values.0 x.0 ok words h values.1 tt));
    }

pub initial_made : Fit → (l : LayoutState) (t : Table) (v : VarId) (V : Words) (result : Result Ref Stop) → IsLayout l → v.0 < length l.kinds → ((w : Word) → (V w ≡ true) ↔ GivesInitialValues l (v ∷ []) w)
    → IfOk result (Denotes t V) → IfOk result (IsDomain l t v)
initial_made fit l t v V result ok known law h = IfOk-weaker result (Denotes t V) (IsDomain l t v) (λ r is. initial_is_domain fit l t v V r ok known law is) h
