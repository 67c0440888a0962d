-- The words of a domain's values, and the rows of the root family.
use Rattle.std.proofs.Common.{◌≡◌, ℕ, zero, suc, ◌+◌, ◌<◌, eqb, Bool, true, ◌↔◌, ◌⊎◌, List, [], ◌∷◌, ◌++◌, length, map, get_or, Some, None, refl, sym, ap, ◌∙◌, subst, inl, inr, arith}
use Rattle.std.specs.Prelude.{slice_get, IsSomeAnd}
use Rattle.std.specs.Option.{option_map_or}
use Rattle.std.proofs.lemmas.Bool.{or_left, eq-eqb}
use Rattle.std.proofs.lemmas.Option.{slice_get-get_or}
use Rattle.set_meaning.specs.declared.kinds.Kind.{Kind}
use Rattle.set_meaning.specs.declared.kinds.Kind.TheVariants as kind
use Rattle.set_meaning.specs.declared.kinds.Value.{Value}
use Rattle.set_meaning.specs.declared.problems.VarId.{VarId}
use Rattle.set_meaning.specs.declared.problems.Bounds.{Bounds}
use Rattle.set_meaning.specs.declared.problems.Problem.{Problem}
use Rattle.set_meaning.specs.Kinds.{InKind}
use Rattle.bit_layout.specs.Words.{width_of, word_of, IsValueOf}
use Rattle.bit_layout.specs.Order.{LayoutState, IsLayout, IsValueAt}
use Rattle.bit_layout.proofs.Rising.{in_head}
use Rattle.diagram_arena.specs.declared.nodes.Ref.{Ref}
use Rattle.diagram_arena.specs.declared.nodes.Ref.TheVariants.{Zero}
use Rattle.diagram_arena.specs.Table.{Word, Table, has, IsReduced}
use Rattle.diagram_arena.specs.Reach.{among, ReachesOnly}
use Rattle.diagram_arena.specs.Part.{with_bit}
use Rattle.diagram_arena.proofs.Reach.{reaches_only}
use Rattle.diagram_view.specs.Words.{word_over, words_over}
use Rattle.diagram_view.specs.Residuals.{CountsResiduals}
use Rattle.diagram_view.proofs.Over.{Rises}
use Rattle.diagram_view.proofs.Bits.{rises_from, with_bit-here, with_bit-other, among_tail}
use Rattle.search_rules.specs.Problem as rules
use Rattle.search_rules.proofs.StepLemmas.{steps_reach_root}
use Rattle.scope_words.specs.Words.{bits_at, read, AreBitsOf}
use Rattle.scope_words.proofs.Bits.{length-bits_at}
use Rattle.exact_steps.specs.Domains.{variable, AtVariable, is_initial, word_of_value, values_in, IsDomain, family}
use Rattle.exact_steps.proofs.Values.{some_and, some_and_from, same_some, both_are, some_list, initial_kind}
use Rattle.exact_steps.proofs.Readings.{gives_value, given_at}
use Rattle.exact_steps.proofs.Sets.{contains_among}
use Rattle.exact_steps.proofs.Wanted.{words_depend, bits_of_one, family_at}
use Rattle.problem_rules.specs.Posed.{problem_of}
use Rattle.learn_search.specs.Roots.{IsSizeOf, AreRowsOf}
use Rattle.learn_search.specs.Way.{IsRootFamily, IsRowAt, AreRowsAt}

-- ---- the values at rising bits of the word that they spell

map_agree : (f g : ℕ → Bool) (bs : List ℕ) → ((c : ℕ) → among bs c ≡ true → f c ≡ g c) → map f bs ≡ map g bs
map_agree f g [] same = refl
map_agree f g (b ∷ bs) same = ap (λ v. v ∷ map f bs) (same b (or_left (eqb b b) (among bs b) (eq-eqb b b refl)))
    ∙ ap (λ vs. g b ∷ vs) (map_agree f g bs (λ c on. same c (among_tail b bs c on)))

read_back : (bs : List ℕ) (vs : List Bool) → Rises bs → length vs ≡ length bs → map (word_over bs vs) bs ≡ vs
read_back [] [] up long = refl
read_back [] (v ∷ vs) up long = absurd (let e : suc (length vs) ≡ 0 = long in omega arith)
read_back (b ∷ bs) [] up long = absurd (let e : 0 ≡ suc (length bs) = long in omega arith)
read_back (b ∷ bs) (v ∷ vs) up long =
    let w : Word = word_over bs vs in
    ap (λ x. x ∷ map (with_bit w b v) bs) (with_bit-here w b v)
    ∙ ap (λ xs. v ∷ xs) (map_agree (with_bit w b v) w bs (λ c on. with_bit-other w b c v (λ e. let above : b < c = up.0 c on in omega (arith, e))) ∙ read_back bs vs up.1 (let e : suc (length vs) ≡ suc (length bs) = long in omega arith))

-- ---- the words of a domain

module _ (l : LayoutState) (t : Table) (v : VarId) (r : Ref) (k : Kind) (ok : IsLayout l) (at : slice_get l.kinds v.0 ≡ Some k) (is : IsDomain l t v r) where
  abbrev bits : List ℕ
  bits = bits_at l v

  are : AreBitsOf l (v ∷ []) bits
  are = bits_of_one l v ok

  spelt : (vs : List Bool) → length vs ≡ length bits → read l v (word_over bits vs) ≡ vs
  spelt vs long = read_back bits vs (rises_from bits are.ascending) long

  to_value : (vs : List Bool) → length vs ≡ length bits → has t r (word_over bits vs) ≡ true → (x : Value) × (values_in l t v r x ≡ true) × (word_of k x ≡ vs)
  to_value vs long h =
      let s = is.diagram.words.sound (word_over bits vs) h in
      let given = given_at l (v ∷ []) s.0 (word_over bits vs) v s.2 (in_head v []) in
      let there = some_and (slice_get s.0 v.0) (λ x. values_in l t v r x ≡ true) s.3 in
      let one : there.0 ≡ given.0 = same_some (slice_get s.0 v.0) there.0 given.0 there.1 given.1 in
      let word : IsValueOf k (read l v (word_over bits vs)) given.0 = subst (λ o. IsSomeAnd o (λ k. IsValueOf k (read l v (word_over bits vs)) given.0)) at given.2 in
      (given.0, subst (λ x. values_in l t v r x ≡ true) one there.2, word.is_word ∙ spelt vs long)

  from_value : (vs : List Bool) (x : Value) → length vs ≡ length bits → values_in l t v r x ≡ true → word_of k x ≡ vs → has t r (word_over bits vs) ≡ true
  from_value vs x long h word =
      let two = both_are (is_initial l v x) (has t r (word_of_value l v x)) h in
      let own = initial_kind l v x ok two.0 in
      let in_kind : InKind k x = subst (λ k. InKind k x) (same_some (slice_get l.kinds v.0) own.0 k own.1 at) own.2 in
      let stands : IsValueAt l v (read l v (word_over bits vs)) x =
      subst (λ o. IsSomeAnd o (λ k. IsValueOf k (read l v (word_over bits vs)) x)) (sym at) (record { in_kind = in_kind; is_word = word ∙ sym (spelt vs long) }) in
      let some = some_list v.0 x in
      is.diagram.words.whole (word_over bits vs) some.0 (gives_value l v some.0 x (word_over bits vs) some.1 stands)
      (some_and_from (slice_get some.0 v.0) (λ x. values_in l t v r x ≡ true) x some.1 h)

  width : length bits ≡ width_of k
  width = length-bits_at l v ∙ ap (λ o. option_map_or width_of o 0) at

  reaches : IsReduced t → ReachesOnly t (among bits) r
  reaches reduced = reaches_only t reduced (among bits) r is.diagram.live
      (words_depend l (v ∷ []) (AtVariable v (λ x. values_in l t v r x ≡ true)) (has t r) (among bits) ok is.diagram.words (λ b of. contains_among bits b ((are.members b).1 of)))

  pub sized : (n : ℕ) → IsReduced t → CountsResiduals t r n → IsSizeOf k (values_in l t v r) n
  sized n reduced counts = (
    words_over t r bits,
    record { width = width; words = λ vs long. (λ h. to_value vs long h, λ h. from_value vs h.0 long h.1 h.2) },
    counts bits are.ascending (reaches reduced),
  )

-- ---- rows, one after another

inside : {X : Type 0} (xs : List X) (v : ℕ) (x : X) → slice_get xs v ≡ Some x → v < length xs
inside [] v x h = absurd (let e : None ≡ Some x = h in cc)
inside (z ∷ xs) zero x h = omega arith
inside (z ∷ xs) (suc v) x h = let k = inside xs v x h in omega (arith, k)

at_more : {X : Type 0} (xs : List X) (x : X) (v : ℕ) (y : X) → slice_get (xs ++ x ∷ []) v ≡ Some y → (slice_get xs v ≡ Some y) ⊎ ((v ≡ length xs) × (x ≡ y))
at_more [] x zero y h = inr (refl, (let e : Some x ≡ Some y = h in cc))
at_more [] x (suc v) y h = absurd (let e : None ≡ Some y = h in cc)
at_more (z ∷ xs) x zero y h = inl h
at_more (z ∷ xs) x (suc v) y h = elim (at_more xs x v y h) [ inl before ↦ inl before | inr last ↦ inr (ap suc last.0, last.1) ]

long_more : {X : Type 0} (xs : List X) (x : X) → length (xs ++ x ∷ []) ≡ length xs + 1
long_more [] x = refl
long_more (z ∷ xs) x = let e = long_more xs x in omega (arith, e)

pub first_rows : (l : LayoutState) (t : Table) (domains : List Ref) → AreRowsAt l t domains 0 []
first_rows l t domains = record { long = refl; each = λ v row h. absurd (let e : None ≡ Some row = h in cc) }

pub more_rows : (l : LayoutState) (t : Table) (domains : List Ref) (i : ℕ) (rows : List (Bounds × ℕ)) (r : Ref) (row : Bounds × ℕ) → slice_get domains i ≡ Some r → IsRowAt l t i r row
    → AreRowsAt l t domains i rows → AreRowsAt l t domains (i + 1) (rows ++ row ∷ [])
more_rows l t domains i rows r row at is before = record {
  long = long_more rows row ∙ ap (λ n. n + 1) before.long;
  each = λ v other h. elim (at_more rows row v other h) [
    | inl there ↦ before.each v other there
    | inr last ↦
        let here : v ≡ i = last.0 ∙ before.long in
        (r, subst (λ n. slice_get domains n ≡ Some r) (sym here) at, subst (λ n. IsRowAt l t n r other) (sym here) (subst (λ row. IsRowAt l t i r row) last.1 is))
  ];
}

-- ---- the root family

module _ (p : Problem) (l : LayoutState) (t : Table) (domains : List Ref) (ok : IsLayout l) (same : l.kinds ≡ p.kinds) (root : IsRootFamily p l t domains) where
  in_root : (v : ℕ) (x : Value) → (family l t domains v x ≡ true) ↔ rules.InRootFamily (problem_of p) v x
  in_root v x = let both = steps_reach_root (problem_of p) root.way.constraints (family l t domains) root.way.steps (λ c known. (root.quiet c known).stays) v x in (both.0, both.1)

  pub rows_are : (rows : List (Bounds × ℕ)) → IsReduced t → AreRowsAt l t domains (length domains) rows → AreRowsOf p rows
  rows_are rows reduced are = record {
    long = are.long ∙ root.way.domains_are.long ∙ ap length same;
    each = λ v row h.
        let e = are.each v row h in
        let within : v < length l.kinds = subst (λ n. v < n) root.way.domains_are.long (inside domains v e.0 e.1) in
        let k : Kind = get_or l.kinds v kind.Bool in
        let at = slice_get-get_or l.kinds v kind.Bool within in
        let d = root.way.domains_are.each (variable v) e.0 e.1 in
        record {
          f = values_in l t (variable v) e.0;
          values = λ x. subst (λ (g : Value → Bool). (g x ≡ true) ↔ rules.InRootFamily (problem_of p) v x) (family_at l t domains (variable v) e.0 e.1) (in_root v x);
          kind = k;
          known = subst (λ kinds. slice_get kinds v ≡ Some k) same at;
          bounded = e.2.0;
          sized = sized l t (variable v) e.0 k ok at d row.1 reduced e.2.1;
        };
  }

  pub not_refuted : rules.IsRootRefuted (problem_of p) → ⊥
  not_refuted (inl some) =
      let within : some.0 < length domains = subst (λ n. some.0 < n) (sym (root.way.domains_are.long ∙ ap length same)) some.1 in
      let r : Ref = get_or domains some.0 Zero in
      let at = slice_get-get_or domains some.0 Zero within in
      let value = (root.way.domains_are.each (variable some.0) r at).some in
      some.2 value.0 ((in_root some.0 value.0).0 (subst (λ (g : Value → Bool). g value.0 ≡ true) (sym (family_at l t domains (variable some.0) r at)) value.1))
  not_refuted (inr false_one) = let q = root.quiet false_one.0 false_one.1 in false_one.3 q.values q.holds
