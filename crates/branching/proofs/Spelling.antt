-- The words of a domain over the bits of its variable are those of its values.
use Rattle.std.proofs.Common.{◌≡◌, ℕ, ◌<◌, Bool, true, List, [], ◌∷◌, length, map, refl, sym, ap, ◌∙◌, subst, arith}
use Rattle.std.specs.Prelude.{◌==◌, slice_get}
use Rattle.std.specs.List.Sorted.{IsStrictlyIncreasing}
use Rattle.std.proofs.lemmas.Bool.{eq-eqb, or_left}
use Rattle.std.proofs.lemmas.List.{length-map}
use Rattle.set_meaning.specs.declared.problems.VarId.{VarId}
use Rattle.bit_layout.specs.Order.{LayoutState, IsLayout, IsValueAt}
use Rattle.bit_layout.proofs.Rising.{in_head}
use Rattle.diagram_arena.specs.declared.nodes.Ref.{Ref}
use Rattle.diagram_arena.specs.Table.{Word, Table, has}
use Rattle.diagram_arena.specs.Reach.{Bits, among, ReachesOnly, DependsOn}
use Rattle.diagram_arena.specs.Part.{with_bit}
use Rattle.diagram_view.specs.Words.{word_over}
use Rattle.diagram_view.proofs.Over.{Rises}
use Rattle.diagram_view.proofs.Bits.{among_tail, rises_from, spelled, with_bit-here, with_bit-other}
use Rattle.scope_words.specs.Words.{bits_at, read}
use Rattle.exact_steps.specs.Domains.{AtVariable, is_initial, word_of_value, values_in, IsDomain}
use Rattle.exact_steps.proofs.Values.{some_and, same_some, both_are}
use Rattle.exact_steps.proofs.Readings.{value_in_word, given_at}
use Rattle.exact_steps.proofs.Sets.{contains_among}
use Rattle.exact_steps.proofs.Wanted.{bits_of_one, words_depend}
use Rattle.branching.specs.Work.{HaveValues, domain_words}

-- ---- what a word that is spelled over rising bits has there

same_map : (f g : ℕ → Bool) (bs : List ℕ) → ((c : ℕ) → among bs c ≡ true → f c ≡ g c) → map f bs ≡ map g bs
same_map f g [] agree = refl
same_map f g (b ∷ bs) agree =
    ap (λ x. x ∷ map f bs) (agree b (or_left (b == b) (among bs b) (eq-eqb b b refl))) ∙ ap (λ xs. g b ∷ xs) (same_map f g bs (λ c on. agree c (among_tail b bs c on)))

read_rising : (bs : List ℕ) (vs : List Bool) → Rises bs → length vs ≡ length bs → map (word_over bs vs) bs ≡ vs
read_rising [] [] up long = refl
read_rising [] (v ∷ vs) up long = absurd (omega (arith, long))
read_rising (b ∷ bs) [] up long = absurd (omega (arith, long))
read_rising (b ∷ bs) (v ∷ vs) up long =
    let w : Word = word_over bs vs in
    ap (λ x. x ∷ map (with_bit w b v) bs) (with_bit-here w b v)
    ∙ ap (λ xs. v ∷ xs)
    (same_map (with_bit w b v) w bs (λ c on. with_bit-other w b c v (λ e. let above : b < c = up.0 c on in omega (arith, above, e))) ∙ read_rising bs vs up.1 (omega (arith, long)))

read_over : (bs : List ℕ) (vs : List Bool) → IsStrictlyIncreasing bs → length vs ≡ length bs → map (word_over bs vs) bs ≡ vs
read_over bs vs up long = read_rising bs vs (rises_from bs up) long

-- ---- domains

-- the words of a domain depend on the bits of its variable alone
domain_depends : (l : LayoutState) (t : Table) (v : VarId) (r : Ref) → IsLayout l → IsDomain l t v r → DependsOn (among (bits_at l v)) (has t r)
domain_depends l t v r ok domain =
    words_depend l (v ∷ []) (AtVariable v (λ x. values_in l t v r x ≡ true)) (has t r) (among (bits_at l v)) ok domain.diagram.words
    (λ b of. contains_among (bits_at l v) b (((bits_of_one l v ok).members b).1 of))

pub have_values : (l : LayoutState) (t : Table) (v : VarId) (r : Ref) → IsLayout l → IsDomain l t v r → HaveValues l v (values_in l t v r) (domain_words l t v r)
have_values l t v r ok domain = record {
  valued = λ word is.
      let w : Word = word_over (bits_at l v) word in
      let s = domain.diagram.words.sound w is.inside in
      let at = some_and (slice_get s.0 v.0) (λ x. values_in l t v r x ≡ true) s.3 in
      let here = given_at l (v ∷ []) s.0 w v s.2 (in_head v []) in
      let same : here.0 ≡ at.0 = same_some (slice_get s.0 v.0) here.0 at.0 here.1 at.1 in
      let back : read l v w ≡ word = read_over (bits_at l v) word (bits_of_one l v ok).ascending is.long in
      (at.0, subst (λ u. IsValueAt l v u at.0) back (subst (IsValueAt l v (read l v w)) same here.2), at.2);
  spelled = λ x passes.
      let two = both_are (is_initial l v x) (has t r (word_of_value l v x)) passes in
      let w : Word = word_of_value l v x in
      (read l v w, record { long = length-map (bits_at l v) w; inside = sym (again w) ∙ two.1 }, value_in_word l v x ok two.0);
}
  where
    again : (w : Word) → has t r w ≡ has t r (word_over (bits_at l v) (map w (bits_at l v)))
    again w = domain_depends l t v r ok domain w (word_over (bits_at l v) (map w (bits_at l v))) (λ c on. sym (spelled w (bits_at l v) c on))

pub domain_reaches : (l : LayoutState) (t : Table) (v : VarId) (r : Ref) (bits : List ℕ) → IsLayout l → IsDomain l t v r → ((set : Bits) → (DependsOn set (has t r) → ReachesOnly t set r)) → bits ≡ bits_at l v
    → ReachesOnly t (among bits) r
domain_reaches l t v r bits ok domain reach same = subst (λ bs. ReachesOnly t (among bs) r) (sym same) (reach (among (bits_at l v)) (domain_depends l t v r ok domain))
