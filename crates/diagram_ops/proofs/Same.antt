-- Equal keys are one, and what tables say of products once a key more stands in them.
use Rattle.std.proofs.Common.{◌≡◌, ℕ, Bool, true, eqb, cond, ◌&&◌, List, [], Some, None, Result, Ok, Err, refl, sym, ◌∙◌, ap, subst, inl, inr, arith}
use Rattle.std.specs.Prelude.{OnOk, OnErr}
use Rattle.std.specs.Map.{lookup}
use Rattle.std.proofs.lemmas.Bool.{cases_Bool, eqb-true, and_parts}
use Rattle.diagram_arena.specs.declared.nodes.Ref.{Ref}
use Rattle.diagram_arena.specs.Table.{Words, Table}
use Rattle.diagram_arena.specs.Arena.{Grows}
use Rattle.diagram_ops.specs.declared.product.Product.{Product}
use Rattle.diagram_ops.specs.declared.product.Product.TheVariants.{Single, Both}
use Rattle.diagram_ops.specs.declared.product.Pair.{Pair}
use Rattle.diagram_ops.specs.contracts.product.ProductPartialEq.TheImpl.{eq-value as of_products}
use Rattle.diagram_ops.specs.contracts.product.PairPartialEq.TheImpl.{eq-value as of_pairs}
use Rattle.diagram_ops.specs.declared.question.Question.{Question}
use Rattle.diagram_ops.specs.Words.{HasNone}
use Rattle.diagram_ops.specs.Steps.{AreAnswers}
use Rattle.diagram_ops.specs.Meanings.{Means, Extends, IsAt, IsIndex, AreEmpty, IsProjectionOf, AreProjections, IsKnown}
use Rattle.diagram_arena.specs.Reach.{among}
use Rattle.diagram_ops.proofs.Memos.{ref_true}
use Rattle.diagram_ops.proofs.Projections.{same_projection}
use Rattle.diagram_ops.proofs.Meant.{means_grows, means_more, first_grows, first_more, means_once}

pub product_true : (p q : Product) → of_products.it p q ≡ true → p ≡ q
product_true (Single r) (Single s) e = ap Single (ref_true r s e)
product_true (Single r) (Both j) e = cc
product_true (Both i) (Single s) e = cc
product_true (Both i) (Both j) e = ap Both (eqb-true i j e)

pub pair_true : (p q : Pair) → of_pairs.it p q ≡ true → p ≡ q
pair_true p q e =
    let first = and_parts (eqb p.bit q.bit) (of_products.it p.left q.left && of_products.it p.right q.right) e in
    let rest = and_parts (of_products.it p.left q.left) (of_products.it p.right q.right) first.1 in
    let bits : p.bit ≡ q.bit = eqb-true p.bit q.bit first.0 in
    let lefts : p.left ≡ q.left = product_true p.left q.left rest.0 in
    let rights : p.right ≡ q.right = product_true p.right q.right rest.1 in
    λ i. record { bit = bits i; left = lefts i; right = rights i }

-- the index of pairs
pub index_empty : (ps : List Pair) (es : List (Pair × ℕ)) → es ≡ [] → IsIndex ps es
index_empty ps es e = subst (IsIndex ps) (sym e) (λ p i is. let no : None ≡ Some i = is in absurd (cc))

pub at_more : (ps qs : List Pair) (p : Pair) (i : ℕ) → Extends ps qs → IsAt ps p i → IsAt qs p i
at_more ps qs p i more is = record { there = more i p is.there; left = is.left; right = is.right }

pub index_more : (ps qs : List Pair) (es : List (Pair × ℕ)) → Extends ps qs → IsIndex ps es → IsIndex qs es
index_more ps qs es more index p i is = at_more ps qs p i more (index p i is)

pub index_puts : (ps : List Pair) (es fs : List (Pair × ℕ)) (p : Pair) (i : ℕ) → IsIndex ps es → IsAt ps p i
    → ((q : Pair) → lookup (of_pairs.it q) fs ≡ cond (of_pairs.it p q) (Some i) (lookup (of_pairs.it q) es)) → IsIndex ps fs
index_puts ps es fs p i index at put q j is =
    elim (cases_Bool (of_pairs.it p q)) [
      | inl same ↦
          let here : lookup (of_pairs.it q) fs ≡ Some i = put q ∙ ap (λ b. cond b (Some i) (lookup (of_pairs.it q) es)) same in
          let e : Some j ≡ Some i = sym is ∙ here in
          let e' : i ≡ j = (cc) in
          subst (λ x. IsAt ps x j) (pair_true p q same) (subst (IsAt ps p) e' at)
      | inr other ↦
          let there : lookup (of_pairs.it q) fs ≡ lookup (of_pairs.it q) es = put q ∙ ap (λ b. cond b (Some i) (lookup (of_pairs.it q) es)) other in
          index q j (sym there ∙ is)
    ]

pub index_enter : {E : Type 0} (ps : List Pair) (es fs : List (Pair × ℕ)) (p : Pair) (i : ℕ) (o : Result (Unit {0}) E) → IsIndex ps es → IsAt ps p i
    → OnOk o ((q : Pair) → lookup (of_pairs.it q) fs ≡ cond (of_pairs.it p q) (Some i) (lookup (of_pairs.it q) es)) → OnErr o (fs ≡ es) → IsIndex ps fs
index_enter ps es fs p i (Ok u) index at put kept = index_puts ps es fs p i index at put
index_enter ps es fs p i (Err e) index at put kept = subst (IsIndex ps) (sym kept) index

pub on_ok_any : {A E : Type 0} (o : Result A E) (P : Type 0) → P → OnOk o P
on_ok_any (Ok x) P is = is
on_ok_any (Err e) P is = tt

-- products without words
pub empty_more : (t : Table) (ps qs : List Pair) (isin : Product → Bool) → Extends ps qs → AreEmpty t ps isin → AreEmpty t qs isin
empty_more t ps qs isin more known p on = let found = known p on in (found.0, means_more t ps qs more p found.0 found.1, found.2)

pub empty_grows : (t u : Table) (ps : List Pair) (isin : Product → Bool) → Grows t u → AreEmpty t ps isin → AreEmpty u ps isin
empty_grows t u ps isin grown known p on = let found = known p on in (found.0, means_grows t u grown ps p found.0 found.1, found.2)

pub empty_puts : (t : Table) (ps : List Pair) (old new : Product → Bool) (p : Product) (V : Words) → AreEmpty t ps old → Means t ps p V → HasNone V
    → ((q : Product) → new q ≡ cond (of_products.it p q) true (old q)) → AreEmpty t ps new
empty_puts t ps old new p V known means none put q on =
    elim (cases_Bool (of_products.it p q)) [
      | inl same ↦ let e = product_true p q same in (V, subst (λ x. Means t ps x V) e means, none)
      | inr other ↦ known q (sym (put q ∙ ap (λ b. cond b true (old q)) other) ∙ on)
    ]

pub known_none : (t : Table) (ps : List Pair) (isin : Product → Bool) (p : Product) (V : Words) → AreEmpty t ps isin → isin p ≡ true → Means t ps p V → HasNone V
known_none t ps isin p V known on means =
    let found = known p on in
    subst HasNone (means_once t ps p found.0 V found.1 means) found.2

-- projections
pub projection_more : (t : Table) (ps qs : List Pair) (keep : List ℕ) (p : Product) (r : Ref) → Extends ps qs → IsProjectionOf t ps keep p r → IsProjectionOf t qs keep p r
projection_more t ps qs keep p r more is = record {
  set = is.set;
  means = means_more t ps qs more p is.set is.means;
  live = is.live;
  deep = let same = first_more t ps qs more p is.set is.means in let deep = is.deep in omega (arith, same, deep);
  words = is.words;
}

pub projections_more : (t : Table) (ps qs : List Pair) (keep : List ℕ) (es : List (Product × Ref)) → Extends ps qs → AreProjections t ps keep es → AreProjections t qs keep es
projections_more t ps qs keep es more known p r is = projection_more t ps qs keep p r more (known p r is)

pub projections_put : (t : Table) (ps : List Pair) (keep : List ℕ) (es fs : List (Product × Ref)) (p : Product) (r : Ref) → AreProjections t ps keep es → IsProjectionOf t ps keep p r
    → ((q : Product) → lookup (of_products.it q) fs ≡ cond (of_products.it p q) (Some r) (lookup (of_products.it q) es)) → AreProjections t ps keep fs
projections_put t ps keep es fs p r known is put q s at =
    elim (cases_Bool (of_products.it p q)) [
      | inl same ↦
          let here : lookup (of_products.it q) fs ≡ Some r = put q ∙ ap (λ b. cond b (Some r) (lookup (of_products.it q) es)) same in
          let e : Some s ≡ Some r = sym at ∙ here in
          let e' : r ≡ s = (cc) in
          subst (λ x. IsProjectionOf t ps keep x s) (product_true p q same) (subst (IsProjectionOf t ps keep p) e' is)
      | inr other ↦
          let there : lookup (of_products.it q) fs ≡ lookup (of_products.it q) es = put q ∙ ap (λ b. cond b (Some r) (lookup (of_products.it q) es)) other in
          known q s (sym there ∙ at)
    ]

pub projections_grow : (t u : Table) (ps : List Pair) (keep : List ℕ) (es : List (Product × Ref)) → Grows t u → AreProjections t ps keep es → AreProjections u ps keep es
projections_grow t u ps keep es grown known p r at =
    let is = known p r at in
    record {
      set = is.set;
      means = means_grows t u grown ps p is.set is.means;
      live = grown.live r is.live;
      deep =
          let same = first_grows t u grown ps p is.set is.means in
          let level = grown.depths r is.live in
          let deep = is.deep in
          omega (arith, same, level, deep);
      words = same_projection (among keep) _ _ _ _ (λ w. refl) (grown.words r is.live) is.words;
    }

-- all that a projection knows
pub known_more : (t : Table) (ps qs : List Pair) (keep : List ℕ) (done : List (Product × Ref)) (isin : Product → Bool) (unions : List (Question × Ref)) → Extends ps qs
    → IsKnown t ps keep done isin unions → IsKnown t qs keep done isin unions
known_more t ps qs keep done isin unions more is = record {
  projections = projections_more t ps qs keep done more is.projections;
  without = empty_more t ps qs isin more is.without;
  joined = is.joined;
}

pub known_put : (t : Table) (ps : List Pair) (keep : List ℕ) (done after : List (Product × Ref)) (isin : Product → Bool) (unions : List (Question × Ref)) (p : Product) (r : Ref)
    → IsKnown t ps keep done isin unions → IsProjectionOf t ps keep p r
    → ((q : Product) → lookup (of_products.it q) after ≡ cond (of_products.it p q) (Some r) (lookup (of_products.it q) done)) → IsKnown t ps keep after isin unions
known_put t ps keep done after isin unions p r is here put = record {
  projections = projections_put t ps keep done after p r is.projections here put;
  without = is.without;
  joined = is.joined;
}

-- after unions were made
pub known_joined : (t u : Table) (ps : List Pair) (keep : List ℕ) (done : List (Product × Ref)) (isin : Product → Bool) (old new : List (Question × Ref)) → Grows t u
    → IsKnown t ps keep done isin old → AreAnswers u new → IsKnown u ps keep done isin new
known_joined t u ps keep done isin old new grown is answers = record {
  projections = projections_grow t u ps keep done grown is.projections;
  without = empty_grows t u ps isin grown is.without;
  joined = answers;
}
