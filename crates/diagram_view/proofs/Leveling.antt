-- Levels of a diagram: what is left of a ref once its first bits have values, and what that says of its words.
use Rattle.std.proofs.Common.{◌≡◌, ◌≢◌, ℕ, ◌+◌, ◌<◌, Bool, true, false, not, zero, suc, List, [], ◌∷◌, ◌++◌, length, take, drop, get_or, Some, None, ◌⊎◌, refl, sym, ◌∙◌, ap, subst, inl, inr, arith}
use Rattle.std.specs.Prelude.{All, Any, Contains, MatchBool}
use Rattle.std.specs.List.{slice_get}
use Rattle.std.proofs.lemmas.Bool.{cases_eq, false≢true, not-true, not-false, MatchBool-at_true, MatchBool-at_false}
use Rattle.std.proofs.lemmas.List.{get_or_default, get_or_append_left, get_or_push, length_push, length-take-le, drop_all}
use Rattle.diagram_arena.specs.declared.nodes.Ref.{Ref}
use Rattle.diagram_arena.specs.declared.nodes.Ref.TheVariants.{Zero, One, Node}
use Rattle.diagram_arena.specs.Table.{Table, IsLive}
use Rattle.diagram_view.specs.Words.{ListWords, words_over, AllHave, SomeHas}
use Rattle.diagram_view.specs.Steps.{Laws, side}
use Rattle.diagram_view.specs.Levels.{Adds, IsNextLevel}
use Rattle.diagram_view.proofs.Over.{after, IsOver, list_words}
use Rattle.diagram_view.proofs.Stepping.{over_after, after-push}
use Rattle.diagram_view.proofs.Passing.{other_value, get-at, split_at, some-turn, no-turn, drop_length}

-- ---- lists

pub contains_left : {X : Type 0} → (xs : List X) (y x : X) → Contains xs x → Contains (xs ++ y ∷ []) x
contains_left xs y x h =
    let within = h.1 in
    let sum = length_push xs y in
    (h.0, omega (arith, within, sum), get_or_append_left xs (y ∷ []) x h.0 h.1 ∙ h.2)

pub contains_here : {X : Type 0} → (xs : List X) (y : X) → Contains (xs ++ y ∷ []) y
contains_here xs y = let sum = length_push xs y in (length xs, omega (arith, sum), get_or_push xs y y (length xs) refl)

pub contains_cases : {X : Type 0} → (xs : List X) (y x : X) → Contains (xs ++ y ∷ []) x → Contains xs x ⊎ (y ≡ x)
contains_cases xs y x h =
    let within = h.1 in
    let sum = length_push xs y in
    elim (cases_eq h.0 (length xs)) [
      | inl e ↦ inr (sym (get_or_push xs y x h.0 (sym e)) ∙ h.2)
      | inr ne ↦ let lt : h.0 < length xs = omega (arith, within, sum, ne) in inl (h.0, lt, sym (get_or_append_left xs (y ∷ []) x h.0 lt) ∙ h.2)
    ]

contains_none : {X : Type 0} → (x : X) → Contains [] x → ⊥
contains_none x h = let within = h.1 in omega (arith, within)

pub at_contained : {X : Type 0} → (P : X → Type 0) (xs : List X) → All P xs → (x : X) → Contains xs x → P x
at_contained P xs all x h = subst P h.2 (all h.0 x h.1)

get_push : {X : Type 0} → (xs : List X) (y : X) (i : ℕ) (x : X) → slice_get (xs ++ y ∷ []) i ≡ Some x → (slice_get xs i ≡ Some x) ⊎ ((i ≡ length xs) × (y ≡ x))
get_push [] y zero x e = inr (refl, cc)
get_push [] y (suc i) x e = let no : slice_get [] i ≡ Some x = e in absurd (cc)
get_push (z ∷ zs) y zero x e = inl e
get_push (z ∷ zs) y (suc i) x e =
    elim (get_push zs y i x e) [
      | inl before ↦ inl before
      | inr here ↦ inr (ap suc here.0, here.1)
    ]

-- ---- one level after another

-- refs are what is left of f once the first k bits have values, but for Zero
pub record IsLevel (t : Table) (f : Ref) (bits : List ℕ) (k : ℕ) (refs : List Ref) : Type 0 where
  pub sound : (r : Ref) → Contains refs r → (p : List Bool) × ((length p ≡ k) × (after t f bits p ≡ r))
  pub whole : (p : List Bool) → length p ≡ k → after t f bits p ≢ Zero → Contains refs (after t f bits p)

after-none : (t : Table) (f : Ref) (bits : List ℕ) (p : List Bool) → length p ≡ 0 → after t f bits p ≡ f
after-none t f [] p e = refl
after-none t f (b ∷ bs) [] e = refl
after-none t f (b ∷ bs) (v ∷ vs) e = absurd (omega arith)

pub level_start : (t : Table) (f : Ref) (bits : List ℕ) (refs : List Ref) → refs ≡ f ∷ [] → IsLevel t f bits 0 refs
level_start t f bits refs e = subst (IsLevel t f bits 0) (sym e) (record {
  sound = λ r h. ([], (refl, after-none t f bits [] refl ∙ only f r h));
  whole = λ p none ne. subst (Contains (f ∷ [])) (sym (after-none t f bits p none)) (contains_here [] f);
})
  where
    only : (f r : Ref) → Contains (f ∷ []) r → f ≡ r
    only f r h = elim (contains_cases [] f r h) [ inl before ↦ absurd (contains_none r before) | inr e ↦ e ]

pub level_live : (t : Table) → Laws t → (f : Ref) (bits : List ℕ) (k : ℕ) (refs : List Ref) → IsOver t f bits → IsLevel t f bits k refs → All (IsLive t) refs
level_live t ok f bits k refs over level i d lt =
    let p = level.sound (get_or refs i d) (i, lt, get_or_default refs i (get_or refs i d) d lt) in
    subst (IsLive t) p.1.1 (over_after t ok bits f p.0 over).live

pub level_more : (t : Table) (f : Ref) (bits : List ℕ) (k b : ℕ) (bs : List ℕ) (refs next : List Ref) → drop k bits ≡ b ∷ bs → IsLevel t f bits k refs → IsNextLevel t refs b next
    → IsLevel t f bits (k + 1) next
level_more t f bits k b bs refs next at level step = record {
  sound = λ s h.
      let from = step.sound s h in
      let r : Ref = from.1.0 in
      let v : Bool = from.1.2.0 in
      let p = level.sound r from.1.1 in
      let at' : drop (length p.0) bits ≡ b ∷ bs = ap (λ n. drop n bits) p.1.0 ∙ at in (
        p.0 ++ v ∷ [],
        (length_push p.0 v ∙ ap (λ n. n + 1) p.1.0, after-push t bits f p.0 b bs v at' ∙ ap (λ x. side t x b v) p.1.1 ∙ from.1.2.1),
      );
  whole = λ p long ne.
      let q : List Bool = take k p in
      let v : Bool = get_or p k false in
      let parts : p ≡ q ++ v ∷ [] = split_at p k (omega (arith, long)) ∙ ap (λ xs. q ++ v ∷ xs) (drop_all (k + 1) p (omega (arith, long))) in
      let short : length q ≡ k = (let l = ap length parts in let sum = length_push q v in omega (arith, l, sum, long)) in
      let at' : drop (length q) bits ≡ b ∷ bs = ap (λ n. drop n bits) short ∙ at in
      let is : after t f bits p ≡ side t (after t f bits q) b v = ap (after t f bits) parts ∙ after-push t bits f q b bs v at' in
      let before : after t f bits q ≢ Zero = λ e. ne (is ∙ ap (λ r. side t r b v) e) in
      subst (Contains next) (sym is) (step.whole (after t f bits q) v (level.whole q short before) (λ e. ne (is ∙ e)));
}

-- a ref more
pub next_start : (t : Table) (b : ℕ) (next : List Ref) → next ≡ [] → IsNextLevel t [] b next
next_start t b next e = record {
  sound = λ s h. absurd (contains_none s (subst (λ xs. Contains xs s) e h));
  whole = λ r v h. absurd (contains_none r h);
}

pub next_more : (t : Table) (refs : List Ref) (b : ℕ) (first second third : List Ref) (r : Ref) → IsNextLevel t refs b first → Adds first second (side t r b false) → Adds second third (side t r b true)
    → IsNextLevel t (refs ++ r ∷ []) b third
next_more t refs b first second third r level lo hi = record {
  sound = λ s h. elim (hi.from s h) [
    | inr new ↦ (λ e. new.1 (new.0 ∙ e), (r, contains_here refs r, (true, new.0)))
    | inl old ↦ elim (lo.from s old) [
      | inr new ↦ (λ e. new.1 (new.0 ∙ e), (r, contains_here refs r, (false, new.0)))
      | inl older ↦ let was = level.sound s older in (was.0, (was.1.0, contains_left refs r was.1.0 was.1.1, was.1.2))
    ]
  ];
  whole = λ q v h. elim (contains_cases refs r q h) [
    | inl before ↦ λ ne. hi.kept (side t q b v) (lo.kept (side t q b v) (level.whole q v before ne))
    | inr same ↦ λ ne. subst (λ x. Contains third (side t x b v)) same (added t b second third r lo.here hi v (λ e. ne (ap (λ x. side t x b v) (sym same) ∙ e)))
  ];
}
  where
    added : (t : Table) (b : ℕ) (second third : List Ref) (r : Ref) → (side t r b false ≢ Zero → Contains second (side t r b false)) → Adds second third (side t r b true)
        → (v : Bool) → side t r b v ≢ Zero → Contains third (side t r b v)
    added t b second third r lo hi true ne = hi.here ne
    added t b second third r lo hi false ne = hi.kept (side t r b false) (lo ne)

-- ---- what a level says of the words at a position

some_here : (t : Table) → Laws t → (f : Ref) (bits : List ℕ) (k b : ℕ) (bs : List ℕ) (refs : List Ref) (v : Bool) → IsOver t f bits → drop k bits ≡ b ∷ bs → IsLevel t f bits k refs
    → Any (λ r. side t r b v ≢ Zero) refs → SomeHas (words_over t f bits) k v
some_here t ok f bits k b bs refs v over at level any =
    let p = level.sound any.1 (any.0, any.2, any.3) in
    let at' : drop (length p.0) bits ≡ b ∷ bs = ap (λ n. drop n bits) p.1.0 ∙ at in
    subst (λ n. SomeHas (words_over t f bits) n v) p.1.0 (some-turn t ok bits f p.0 b bs over at' v (λ e. any.4 (ap (λ r. side t r b v) (sym p.1.1) ∙ e)))

all_here : (t : Table) → Laws t → (f : Ref) (bits : List ℕ) (k b : ℕ) (bs : List ℕ) (refs : List Ref) (v : Bool) → IsOver t f bits → drop k bits ≡ b ∷ bs → IsLevel t f bits k refs
    → All (λ r. side t r b v ≡ Zero) refs → AllHave (words_over t f bits) k (not v)
all_here t ok f bits k b bs refs v over at level all vs is =
    let far = drop_length bits k b bs at in
    let long = is.long in
    let q : List Bool = take k vs in
    let x : Bool = get_or vs k false in
    let rest : List Bool = drop (k + 1) vs in
    let parts : vs ≡ q ++ x ∷ rest = split_at vs k (omega (arith, far, long)) in
    let short : length q ≡ k = length-take-le k vs (omega (arith, far, long)) in
    let at' : drop (length q) bits ≡ b ∷ bs = ap (λ n. drop n bits) short ∙ at in
    let here : slice_get vs k ≡ Some x = ap (λ n. slice_get vs n) (sym short) ∙ ap (λ ys. slice_get ys (length q)) parts ∙ get-at q rest x in
    let gone : side t (after t f bits q) b v ≡ Zero = elim (zero_or_not (after t f bits q)) [
      | inl e ↦ ap (λ r. side t r b v) e
      | inr ne ↦ at_contained (λ r. side t r b v ≡ Zero) refs all (after t f bits q) (level.whole q short ne)
    ] in
    here ∙ ap Some (other_value v x (λ e.
    false≢true (sym (ap (list_words t f bits) (parts ∙ ap (λ y. q ++ y ∷ rest) e) ∙ no-turn t ok bits f q b bs over at' v gone rest) ∙ is.inside)))
  where
    zero_or_not : (r : Ref) → (r ≡ Zero) ⊎ (r ≢ Zero)
    zero_or_not Zero = inl refl
    zero_or_not One = inr (λ e. cc)
    zero_or_not (Node i) = inr (λ e. cc)

-- the marks of the positions that were passed
pub record EverySoFar (W : ListWords) (vs : List Bool) : Type 0 where
  pub on : (i : ℕ) → slice_get vs i ≡ Some true → AllHave W i true
  pub off : (i : ℕ) → slice_get vs i ≡ Some false → SomeHas W i false

pub record SomeSoFar (W : ListWords) (vs : List Bool) : Type 0 where
  pub on : (i : ℕ) → slice_get vs i ≡ Some true → SomeHas W i true
  pub off : (i : ℕ) → slice_get vs i ≡ Some false → AllHave W i false

pub every_start : (W : ListWords) (vs : List Bool) → vs ≡ [] → EverySoFar W vs
every_start W vs e = subst (EverySoFar W) (sym e) (record {
  on = λ i h. let none : None ≡ Some true = h in absurd (cc);
  off = λ i h. let none : None ≡ Some false = h in absurd (cc);
})

pub some_start : (W : ListWords) (vs : List Bool) → vs ≡ [] → SomeSoFar W vs
some_start W vs e = subst (SomeSoFar W) (sym e) (record {
  on = λ i h. let none : None ≡ Some true = h in absurd (cc);
  off = λ i h. let none : None ≡ Some false = h in absurd (cc);
})

-- whether some word has the value v at position k
abbrev pub GoesOn : Table → List Ref → ℕ → Bool → Bool → Type 0
GoesOn t refs b v g = MatchBool g (Any (λ r. side t r b v ≢ Zero) refs) (All (λ r. side t r b v ≡ Zero) refs)

pub every_more : (t : Table) → Laws t → (f : Ref) (bits : List ℕ) (k b : ℕ) (bs : List ℕ) (refs : List Ref) (vs : List Bool) (g : Bool) → IsOver t f bits → drop k bits ≡ b ∷ bs → IsLevel t f bits k refs
    → length vs ≡ k → GoesOn t refs b false g → EverySoFar (words_over t f bits) vs → EverySoFar (words_over t f bits) (vs ++ not g ∷ [])
every_more t ok f bits k b bs refs vs g over at level long goes so = record {
  on = λ i h. elim (get_push vs (not g) i true h) [
    | inl before ↦ so.on i before
    | inr here ↦ subst (λ n. AllHave (words_over t f bits) n true) (sym (here.0 ∙ long))
        (all_here t ok f bits k b bs refs false over at level (MatchBool-at_false _ _ (not-true g here.1) goes))
  ];
  off = λ i h. elim (get_push vs (not g) i false h) [
    | inl before ↦ so.off i before
    | inr here ↦ subst (λ n. SomeHas (words_over t f bits) n false) (sym (here.0 ∙ long))
        (some_here t ok f bits k b bs refs false over at level (MatchBool-at_true _ _ (not-false g here.1) goes))
  ];
}

pub some_more : (t : Table) → Laws t → (f : Ref) (bits : List ℕ) (k b : ℕ) (bs : List ℕ) (refs : List Ref) (vs : List Bool) (g : Bool) → IsOver t f bits → drop k bits ≡ b ∷ bs → IsLevel t f bits k refs
    → length vs ≡ k → GoesOn t refs b true g → SomeSoFar (words_over t f bits) vs → SomeSoFar (words_over t f bits) (vs ++ g ∷ [])
some_more t ok f bits k b bs refs vs g over at level long goes so = record {
  on = λ i h. elim (get_push vs g i true h) [
    | inl before ↦ so.on i before
    | inr here ↦ subst (λ n. SomeHas (words_over t f bits) n true) (sym (here.0 ∙ long))
        (some_here t ok f bits k b bs refs true over at level (MatchBool-at_true _ _ here.1 goes))
  ];
  off = λ i h. elim (get_push vs g i false h) [
    | inl before ↦ so.off i before
    | inr here ↦ subst (λ n. AllHave (words_over t f bits) n false) (sym (here.0 ∙ long))
        (all_here t ok f bits k b bs refs true over at level (MatchBool-at_false _ _ here.1 goes))
  ];
}
