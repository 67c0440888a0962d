-- The words that are in the constraint and in all domains of its scope.
use Rattle.std.proofs.Common.{◌≡◌, ℕ, ◌+◌, ◌<◌, Bool, true, false, List, [], ◌∷◌, ◌++◌, length, get_or, take, map, Option, Some, None, refl, sym, ap, ◌∙◌, subst, inl, inr, arith, Contains}
use Rattle.std.specs.Prelude.{slice_get, IsSomeAnd, filter_map}
use Rattle.std.specs.List.{cons_option}
use Rattle.std.specs.List.{All, list_all}
use Rattle.std.proofs.Math.Path.{fun_ext}
use Rattle.std.proofs.lemmas.List.{length-map, get_or-map, take_more}
use Rattle.std.proofs.lemmas.List.Elements.{All-contains, Contains-get_or, filter_map-append}
use Rattle.std.proofs.lemmas.List.Sums.{AllPass-from_list_all, list_all-from_AllPass}
use Rattle.std.proofs.lemmas.Option.{slice_get-get_or}
use Rattle.set_meaning.specs.declared.kinds.Value.{Value}
use Rattle.set_meaning.specs.declared.problems.VarId.{VarId}
use Rattle.bit_layout.specs.Order.{LayoutState, IsLayout}
use Rattle.bit_layout.proofs.Rising.{nothing_in_empty, in_cons, in_head, in_tail}
use Rattle.diagram_arena.specs.declared.nodes.Ref.{Ref}
use Rattle.diagram_arena.specs.Table.{Word, Words, Table, has, IsLive, IsReduced}
use Rattle.diagram_arena.specs.Reach.{Bits, among, DependsOn, ReachesOnly}
use Rattle.diagram_arena.specs.Arena.{table, Grows}
use Rattle.diagram_arena.proofs.Reach.{reaches_only}
use Rattle.node_reclaim.specs.Pool.{PoolState}
use Rattle.diagram_ops.specs.Words.{product_of, Lies, HasSome, Agree, IsProjection}
use Rattle.diagram_view.specs.Words.{words_over, IsWord, AreSettled}
use Rattle.scope_words.specs.Words.{bits_at, Gives, IsBitOf, AreWordsOf, IsDiagramOf}
use Rattle.scope_words.proofs.Words.{given_once}
use Rattle.exact_steps.specs.Domains.{AtVariable, values_in, IsDomain, AreDomains}
use Rattle.exact_steps.specs.Steps.{IsInDiagram, AreWithin}
use Rattle.exact_steps.specs.Parts.{Within}
use Rattle.exact_steps.specs.Work.{stated, given, domains_at, HasOneReading}
use Rattle.exact_steps.proofs.Values.{both_are, both_from, same_truth}
use Rattle.exact_steps.proofs.Readings.{gives_one}
use Rattle.exact_steps.proofs.Sets.{among_contains, contains_among}
use Rattle.exact_steps.proofs.Wanted.{grows_itself, bits_of_one, words_depend, family_words}

-- ---- the domains of the scope

behind : (domains : List Ref) (v : VarId) (vs : List VarId) (d : Ref) → (u : VarId) × Contains vs u × (slice_get domains u.0 ≡ Some d) → (u : VarId) × Contains (v ∷ vs) u × (slice_get domains u.0 ≡ Some d)
behind domains v vs d r = (r.0, in_tail v vs r.0 r.1, r.2)

in_domains : (domains : List Ref) (scope : List VarId) (d : Ref) → Contains (domains_at domains scope) d → (v : VarId) × Contains scope v × (slice_get domains v.0 ≡ Some d)
in_domains domains [] d h = absurd (nothing_in_empty d h)
in_domains domains (v ∷ vs) d h =
    elim (slice_get domains v.0) as (λ o. slice_get domains v.0 ≡ o → Contains (cons_option o (domains_at domains vs)) d
    → (u : VarId) × Contains (v ∷ vs) u × (slice_get domains u.0 ≡ Some d)) [
      | None ↦ λ e h. behind domains v vs d (in_domains domains vs d h)
      | Some q ↦ λ e h. elim (in_cons q (domains_at domains vs) d h) [
        | inl here ↦ (v, in_head v vs, e ∙ ap Some here)
        | inr more ↦ behind domains v vs d (in_domains domains vs d more)
      ]
    ] refl h

pub domain_in : (domains : List Ref) (scope : List VarId) (v : VarId) (d : Ref) → Contains scope v → slice_get domains v.0 ≡ Some d → Contains (domains_at domains scope) d
domain_in domains [] v d h e = absurd (nothing_in_empty v h)
domain_in domains (u ∷ us) v d h e = elim (in_cons u us v h) [
  | inl here ↦
      let at : slice_get domains u.0 ≡ Some d = ap (λ (x : VarId). slice_get domains x.0) here ∙ e in
      subst (λ o. Contains (cons_option o (domains_at domains us)) d) (sym at) (in_head d (domains_at domains us))
  | inr more ↦ still (slice_get domains u.0) (domain_in domains us v d more e)
]
  where
    still : (o : Option Ref) → Contains (domains_at domains us) d → Contains (cons_option o (domains_at domains us)) d
    still None h = h
    still (Some q) h = in_tail q (domains_at domains us) d h

-- one more domain
pub domains_more : (domains : List Ref) (scope : List VarId) (i : ℕ) (v : VarId) (d : Ref) (before after : List Ref) → i < length scope → get_or scope i v ≡ v → slice_get domains v.0 ≡ Some d → before ≡ domains_at domains (take i scope)
    → after ≡ before ++ d ∷ [] → after ≡ domains_at domains (take (i + 1) scope)
domains_more domains scope i v d before after within at e is pushed =
    pushed
    ∙ ap (λ ds. ds ++ d ∷ []) is
    ∙ ap (λ o. domains_at domains (take i scope) ++ cons_option o []) (sym e)
    ∙ sym (filter_map-append (λ (u : VarId). slice_get domains u.0) (take i scope) (v ∷ []))
    ∙ ap (domains_at domains) (sym (take_more scope i v within ∙ ap (λ z. take i scope ++ z ∷ []) at))

pub live_domains : (l : LayoutState) (domains own : List Ref) (scope : List VarId) (t : Table) → AreDomains l t domains → own ≡ domains_at domains scope → All (IsLive t) own
live_domains l domains own scope t are is = subst (All (IsLive t)) (sym is) (λ i d within.
    let ds : List Ref = domains_at domains scope in
    let r = in_domains domains scope (get_or ds i d) (Contains-get_or ds i d within) in
    (are.each r.0 (get_or ds i d) r.2).diagram.live)

pub own_has : (domains own : List Ref) (scope : List VarId) (i : ℕ) (v : VarId) (d : Ref) → i < length scope → get_or scope i v ≡ v → slice_get domains v.0 ≡ Some d → own ≡ domains_at domains scope → Contains own d
own_has domains own scope i v d within at e is =
    subst (λ ds. Contains ds d) (sym is) (domain_in domains scope v d (subst (Contains scope) at (Contains-get_or scope i v within)) e)

-- ---- words in a ref and in all of others

pub in_product : (t : Table) (f : Ref) (gs : List Ref) (w : Word) → product_of t f gs w ≡ true → (has t f w ≡ true) × ((g : Ref) → Contains gs g → has t g w ≡ true)
in_product t f gs w h =
    let two = both_are (has t f w) (list_all (λ g. has t g w) gs) h in
    (two.0, λ g listed. All-contains (λ g. has t g w ≡ true) gs g (AllPass-from_list_all (λ g. has t g w) gs two.1) listed)

pub product_from : (t : Table) (f : Ref) (gs : List Ref) (w : Word) → has t f w ≡ true → ((g : Ref) → Contains gs g → has t g w ≡ true) → product_of t f gs w ≡ true
product_from t f gs w h all =
    both_from (has t f w) (list_all (λ g. has t g w) gs) h
    (list_all-from_AllPass (λ g. has t g w) gs (λ i d within. all (get_or gs i d) (Contains-get_or gs i d within)))

pub product_grows : (t u : Table) (f : Ref) (gs : List Ref) → Grows t u → IsLive t f → All (IsLive t) gs → product_of u f gs ≡ product_of t f gs
product_grows t u f gs grows live lives = fun_ext (λ w. same_truth (product_of u f gs w) (product_of t f gs w)
    (λ h.
    let r = in_product u f gs w h in
    product_from t f gs w (sym (grows.words f live w) ∙ r.0) (λ g m. sym (grows.words g (All-contains (IsLive t) gs g lives m) w) ∙ r.1 g m))
    (λ h.
    let r = in_product t f gs w h in
    product_from u f gs w (grows.words f live w ∙ r.0) (λ g m. grows.words g (All-contains (IsLive t) gs g lives m) w ∙ r.1 g m)))

pub product_lies : (t : Table) (f : Ref) (gs : List Ref) (g : Ref) → Contains gs g → Lies (product_of t f gs) (has t g)
product_lies t f gs g listed w h = (in_product t f gs w h).1 g listed

-- they are the words that satisfy the constraint with values in the domains
pub product_words : (l : LayoutState) (scope : List VarId) (constraint : Ref) (domains own : List Ref) (s : PoolState) → IsLayout l → ((v : VarId) → Contains scope v → (d : Ref) × (slice_get domains v.0 ≡ Some d))
    → IsDiagramOf l scope (stated l s constraint) (table s.arena) constraint → AreDomains l (table s.arena) domains → own ≡ domains_at domains scope
    → AreWordsOf l scope (Within (stated l s constraint) (given l s domains) scope) (product_of (table s.arena) constraint own)
product_words l scope constraint domains own s ok there is are listed = record {
  sound = λ w h.
      let two = in_product (table s.arena) constraint own w h in
      let r = is.words.sound w two.0 in
      let inside : AreWithin (given l s domains) scope r.0 = λ v scoped.
      let d = there v scoped in
      let q = (words_at v d.0 d.1).sound w (two.1 d.0 (subst (λ ds. Contains ds d.0) (sym listed) (domain_in domains scope v d.0 scoped d.1))) in
      let same : slice_get q.0 v.0 ≡ slice_get r.0 v.0 = given_once l (v ∷ []) q.0 r.0 w v ok q.2 (gives_one l scope r.0 w v r.2 scoped) (in_head v []) in
      subst (λ o. IsSomeAnd o (λ x. given l s domains v.0 x ≡ true)) same q.3 in
      (r.0, r.1, r.2, (r.3, inside));
  whole = λ w values gives h.
      product_from (table s.arena) constraint own w (is.words.whole w values gives h.0) (λ d m.
      let v = in_domains domains scope d (subst (λ ds. Contains ds d) listed m) in
      (words_at v.0 d v.2).whole w values (gives_one l scope values w v.0 gives v.1) (h.1 v.0 v.1));
}
  where
    words_at : (v : VarId) (d : Ref) → slice_get domains v.0 ≡ Some d → AreWordsOf l (v ∷ []) (AtVariable v (λ x. given l s domains v.0 x ≡ true)) (has (table s.arena) d)
    words_at v d e = (family_words l (table s.arena) (table s.arena) domains v d (grows_itself (table s.arena)) are e).words

-- ---- a domain whose words have one reading

-- each bit of the variable counts as its own
covers_own : (l : LayoutState) (v : VarId) (b : ℕ) → IsLayout l → IsBitOf l (v ∷ []) b → among (bits_at l v) b ≡ true
covers_own l v b ok h = contains_among (bits_at l v) b (((bits_of_one l v ok).members b).1 h)

pub domain_depends : (l : LayoutState) (v : VarId) (t : Table) (d : Ref) (bits : List ℕ) → IsLayout l → IsDomain l t v d → bits ≡ bits_at l v → DependsOn (among bits) (has t d)
domain_depends l v t d bits ok is same =
    subst (λ bs. DependsOn (among bs) (has t d)) (sym same)
    (words_depend l (v ∷ []) (AtVariable v (λ x. values_in l t v d x ≡ true)) (has t d) (among (bits_at l v)) ok is.diagram.words (λ b h. covers_own l v b ok h))

pub domain_reaches : (l : LayoutState) (v : VarId) (t : Table) (d : Ref) (bits : List ℕ) → IsLayout l → IsReduced t → IsDomain l t v d → bits ≡ bits_at l v → ReachesOnly t (among bits) d
domain_reaches l v t d bits ok reduced is same = reaches_only t reduced (among bits) d is.diagram.live (domain_depends l v t d bits ok is same)

-- it is the projection of each set of some of its words, if there is one
pub one_projection : (bits : List ℕ) (V D : Words) → HasSome V → Lies V D → DependsOn (among bits) D → HasOneReading bits D → IsProjection (among bits) V D
one_projection bits V D some lies depends one = record {
  sound = λ w h. (some.0, some.1, one w some.0 h (lies some.0 some.1));
  whole = λ w u inside agree. depends w u agree ∙ lies u inside;
}

-- where each position of its words is settled
pub one_reading : (t : Table) (r : Ref) (bits : List ℕ) → ((w : Word) → has t r w ≡ (words_over t r bits).test (map w bits)) → AreSettled (words_over t r bits) → HasOneReading bits (has t r)
one_reading t r bits values settled w u inw inu b on =
    let at = among_contains bits b on in
    let is = settled at.0 at.1 in
    let same : Some (w b) ≡ Some (u b) = sym (read_at w at) ∙ is.1 (map w bits) (word_is w inw) ∙ sym (is.1 (map u bits) (word_is u inu)) ∙ read_at u at in cc
  where
    word_is : (w : Word) → has t r w ≡ true → IsWord (words_over t r bits) (map w bits)
    word_is w h = record { long = length-map bits w; inside = sym (values w) ∙ h }

    read_at : (w : Word) (at : Contains bits b) → slice_get (map w bits) at.0 ≡ Some (w b)
    read_at w at =
        let long = length-map bits w in
        let within = at.1 in
        let short : at.0 < length (map w bits) = omega (arith, long, within) in
        slice_get-get_or (map w bits) at.0 false short ∙ ap Some (get_or-map w bits at.0 b false within ∙ ap w at.2)
