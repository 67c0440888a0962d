-- Trying the values of one variable after another.
use Rattle.std.proofs.Common.{◌≡◌, ◌≢◌, ℕ, ◌+◌, ◌<◌, ◌≤◌, eqb, ltb, Bool, true, false, not, ◌&&◌, List, [], ◌∷◌, length, get_or, ◌++◌, ◌||◌, refl, sym, ap, ◌∙◌, subst, inl, inr, arith}
use Rattle.std.proofs.lemmas.Bool.{cases_Bool, cases_eq, cases_lt, cond-true, cond-false, ne_eqb, both_ways, and_parts, and_from, ltb-true, lt-ltb, le-ltb, and_right, or_left, or_right, or_cases, eq-eqb, eqb-true}
use Rattle.std.proofs.Common.{set}
use Rattle.std.specs.Prelude.{MatchBool}
use Rattle.std.proofs.lemmas.List.{length-set, get_or_past, get_or-set_other, get_or-set_same}
use Rattle.plain_steps.proofs.SetLemmas.{has_at, has_place, has-append, has-filter, has-united}
use Rattle.std.proofs.Math.Path.{fun_ext}
use Rattle.plain_steps.specs.Sets.{has, family}
use Rattle.plain_steps.specs.Task.{Plain, is_scoped, masked, masked_same, problem_of, Completes, IsSatisfiable, IsExtending}
use Rattle.search_rules.specs.Problem.{Extends, IsNarrowed}
use Rattle.search_rules.specs.Family.{Lies, Leaves, Meets, AllLie, put, without}
use Rattle.search_rules.specs.Box.{IsBoxNarrowed, IsBoxSame}
use Rattle.search_rules.specs.Trail.{IsPart}
use Rattle.search_rules.specs.Walk.{conflict_box, narrowing_box}
use Rattle.search_rules.specs.Box.{resolvent}
use Rattle.plain_steps.specs.Sets.{IsTable, united, resolved}
use Rattle.plain_steps.specs.Steps.{conflict_sides, IsBox}
use Rattle.std.specs.List.{filter}

pub not_scoped : (p : Plain) (c v : ℕ) → p.scope c v ≡ false → is_scoped p c v ≡ false
not_scoped p c v out = ap (λ b. b && ltb v (length p.sets)) out

pub scoped : (p : Plain) (c v : ℕ) → p.scope c v ≡ true → v < length p.sets → is_scoped p c v ≡ true
scoped p c v in_scope lt = and_from (p.scope c v) (ltb v (length p.sets)) in_scope (lt-ltb v (length p.sets) lt)

pub scoped_below : (p : Plain) (c v : ℕ) → is_scoped p c v ≡ true → v < length p.sets
scoped_below p c v is = ltb-true v (length p.sets) (and_parts (p.scope c v) (ltb v (length p.sets)) is).1

pub completes_more : (p : Plain) (c : ℕ) (f : List (List ℕ)) (values now : List ℕ) (depth : ℕ) (a : ℕ → ℕ)
    → ((u : ℕ) → u < depth → get_or now u 0 ≡ get_or values u 0) → (is_scoped p c depth ≡ true → a depth ≡ get_or now depth 0)
    → Completes p c f values depth a → Completes p c f now (depth + 1) a
completes_more p c f values now depth a agree here done = record {
  front = λ u lt in_scope. elim (cases_eq u depth) [
    | inl same ↦ subst (λ w. is_scoped p c w ≡ true → a w ≡ get_or now w 0) (sym same) here in_scope
    | inr apart ↦ let below : u < depth = omega arith in done.front u below in_scope ∙ sym (agree u below)
  ];
  rest = λ u out in_scope. done.rest u (λ lt. out (omega arith)) in_scope;
  holds = done.holds;
}

pub completes_less : (p : Plain) (c : ℕ) (f : List (List ℕ)) (values now : List ℕ) (depth : ℕ) (a : ℕ → ℕ)
    → ((u : ℕ) → u < depth → get_or now u 0 ≡ get_or values u 0) → (is_scoped p c depth ≡ true → family f depth (a depth) ≡ true)
    → Completes p c f now (depth + 1) a → Completes p c f values depth a
completes_less p c f values now depth a agree here done = record {
  front = λ u lt in_scope. let below : u < depth + 1 = omega arith in done.front u below in_scope ∙ agree u lt;
  rest = λ u out in_scope. elim (cases_eq u depth) [
    | inl same ↦ subst (λ w. is_scoped p c w ≡ true → family f w (a w) ≡ true) (sym same) here in_scope
    | inr apart ↦ done.rest u (λ lt. out (omega arith)) in_scope
  ];
  holds = done.holds;
}

-- where every variable has its value
pub masked-values : (p : Plain) (c : ℕ) (values : List ℕ) → length values ≡ length p.sets
    → ((u : ℕ) → u < length p.sets → is_scoped p c u ≡ false → get_or values u 0 ≡ 0)
    → masked p c (λ v. get_or values v 0) ≡ (λ v. get_or values v 0)
masked-values p c values long zeros = fun_ext (λ v. elim (cases_Bool (is_scoped p c v)) [
  | inl in_scope ↦ cond-true (is_scoped p c v) (get_or values v 0) 0 in_scope
  | inr out ↦ cond-false (is_scoped p c v) (get_or values v 0) 0 out ∙ elim (cases_lt v (length p.sets)) [
    | inl lt ↦ sym (zeros v lt out)
    | inr past ↦ sym (get_or_past values v 0 (omega arith))
  ]
])

pub all_found : (p : Plain) (c : ℕ) (f : List (List ℕ)) (values : List ℕ) (depth : ℕ) → length values ≡ length p.sets → depth ≡ length p.sets
    → ((u : ℕ) → u < depth → is_scoped p c u ≡ false → get_or values u 0 ≡ 0)
    → p.holds c (λ v. get_or values v 0) ≡ true → Completes p c f values depth (λ v. get_or values v 0)
all_found p c f values depth long all zeros is = record {
  front = λ u lt in_scope. refl;
  rest = λ u out in_scope. let below : u < length p.sets = scoped_below p c u in_scope in absurd (out (omega arith));
  holds = subst (λ (m : ℕ → ℕ). p.holds c m ≡ true)
      (sym (masked-values p c values long (λ u lt. zeros u (omega arith)))) is;
}

pub all_none : (p : Plain) (c : ℕ) (f : List (List ℕ)) (values : List ℕ) (depth : ℕ) → length values ≡ length p.sets → depth ≡ length p.sets
    → ((u : ℕ) → u < depth → is_scoped p c u ≡ false → get_or values u 0 ≡ 0)
    → p.holds c (λ v. get_or values v 0) ≡ false → (a : ℕ → ℕ) → Completes p c f values depth a → ⊥
all_none p c f values depth long all zeros is a done =
    both_ways (p.holds c (λ v. get_or values v 0)) is
    (subst (λ (m : ℕ → ℕ). p.holds c m ≡ true)
    (masked_same p c a (λ v. get_or values v 0)
    (λ u in_scope. let below : u < length p.sets = scoped_below p c u in_scope in done.front u (omega arith) in_scope)
    ∙ masked-values p c values long (λ u lt. zeros u (omega arith)))
    done.holds)

pub family-at : (sets : List (List ℕ)) (v x : ℕ) → v < length sets → family sets v x ≡ has (get_or sets v []) x
family-at sets v x lt = cond-true (ltb v (length sets)) (has (get_or sets v []) x) true (lt-ltb v (length sets) lt)

pub all_answer : (p : Plain) (c : ℕ) (f : List (List ℕ)) (values : List ℕ) (depth : ℕ) → length values ≡ length p.sets → depth ≡ length p.sets
    → ((u : ℕ) → u < depth → is_scoped p c u ≡ false → get_or values u 0 ≡ 0)
    → (b : Bool) → b ≡ p.holds c (λ v. get_or values v 0)
    → MatchBool b ((a : ℕ → ℕ) × Completes p c f values depth a) ((a : ℕ → ℕ) → Completes p c f values depth a → ⊥)
all_answer p c f values depth long all zeros true is = ((λ v. get_or values v 0), all_found p c f values depth long all zeros (sym is))
all_answer p c f values depth long all zeros false is = all_none p c f values depth long all zeros (sym is)

-- one value of the variable at `depth` can be completed
pub try_found : (p : Plain) (c : ℕ) (f : List (List ℕ)) (values now items : List ℕ) (depth k : ℕ) (a : ℕ → ℕ) → items ≡ get_or f depth []
    → depth < length f → depth < length now → ((u : ℕ) → u < depth → get_or now u 0 ≡ get_or values u 0) → k < length items
    → Completes p c f (set now depth (get_or items k 0)) (depth + 1) a → Completes p c f values depth a
try_found p c f values now items depth k a is lt long agree in_items done =
    completes_less p c f values (set now depth (get_or items k 0)) depth a
    (λ u below. get_or-set_other now depth u (get_or items k 0) 0 (omega arith) ∙ agree u below)
    (λ in_scope.
    let here : depth < depth + 1 = omega arith in
    let at : a depth ≡ get_or items k 0 =
    done.front depth here in_scope ∙ get_or-set_same now depth (get_or items k 0) 0 long in
    family-at f depth (a depth) lt ∙ (ap (λ xs. has xs (a depth)) (sym is) ∙ has_at items k (a depth) in_items at))
    done

-- no value of the variable at `depth` can be completed
pub try_none : (p : Plain) (c : ℕ) (f : List (List ℕ)) (values items : List ℕ) (depth n : ℕ) (a : ℕ → ℕ) → items ≡ get_or f depth []
    → depth < length f → length items ≤ n → is_scoped p c depth ≡ true
    → ((k : ℕ) → k < n → a depth ≡ get_or items k 0 → ⊥) → Completes p c f values depth a → ⊥
try_none p c f values items depth n a is lt long in_scope none done =
    let inside : has items (a depth) ≡ true =
    ap (λ xs. has xs (a depth)) is ∙ (sym (family-at f depth (a depth) lt) ∙ done.rest depth (λ below. omega arith) in_scope) in
    let (k, below, same) = has_place items (a depth) inside in
    none k (omega arith) same

pub extending_push : (p : Plain) (c : ℕ) (f : List (List ℕ)) (v n : ℕ) (kept : List ℕ) (x : ℕ) → IsExtending p c f v n kept
    → x ≡ get_or (get_or f v []) n 0 → Extends (problem_of p) c (family f) v x → IsExtending p c f v (n + 1) (kept ++ x ∷ [])
extending_push p c f v n kept x so_far here extends = record {
  sound = λ y is. elim (or_cases (has kept y) (has (x ∷ []) y) (sym (has-append kept (x ∷ []) y) ∙ is)) [
    | inl before ↦ so_far.sound y before
    | inr now ↦ elim (or_cases (eqb y x) false now) [
      | inl same ↦ subst (λ z. Extends (problem_of p) c (family f) v z) (sym (eqb-true y x same)) extends
      | inr never ↦ absurd (both_ways false refl never)
    ]
  ];
  whole = λ k lt does. elim (cases_eq k n) [
    | inl same ↦
        let at : get_or (get_or f v []) k 0 ≡ x = ap (λ j. get_or (get_or f v []) j 0) same ∙ sym here in
        has-append kept (x ∷ []) (get_or (get_or f v []) k 0)
        ∙ or_right (has kept (get_or (get_or f v []) k 0)) (has (x ∷ []) (get_or (get_or f v []) k 0))
        (or_left (eqb (get_or (get_or f v []) k 0) x) false (eq-eqb (get_or (get_or f v []) k 0) x at))
    | inr apart ↦
        let below : k < n = omega arith in
        has-append kept (x ∷ []) (get_or (get_or f v []) k 0)
        ∙ or_left (has kept (get_or (get_or f v []) k 0)) (has (x ∷ []) (get_or (get_or f v []) k 0)) (so_far.whole k below does)
  ];
}

pub extending_skip : (p : Plain) (c : ℕ) (f : List (List ℕ)) (v n : ℕ) (kept : List ℕ) (x : ℕ) → IsExtending p c f v n kept
    → x ≡ get_or (get_or f v []) n 0 → (Extends (problem_of p) c (family f) v x → ⊥) → IsExtending p c f v (n + 1) kept
extending_skip p c f v n kept x so_far here not = record {
  sound = so_far.sound;
  whole = λ k lt does. elim (cases_eq k n) [
    | inl same ↦
        let at : get_or (get_or f v []) k 0 ≡ x = ap (λ j. get_or (get_or f v []) j 0) same ∙ sym here in
        absurd (not (subst (λ z. Extends (problem_of p) c (family f) v z) at does))
    | inr apart ↦ let below : k < n = omega arith in so_far.whole k below does
  ];
}

pub in_family : (p : Plain) (c : ℕ) (f : List (List ℕ)) (v x : ℕ) → v < length f → Extends (problem_of p) c (family f) v x
    → has (get_or f v []) x ≡ true
in_family p c f v x lt does =
    sym (family-at f v x lt) ∙ subst (λ y. family f v y ≡ true) does.at (does.inside v does.scoped)

pub extending_all : (p : Plain) (c : ℕ) (f : List (List ℕ)) (v n : ℕ) (kept : List ℕ) → IsExtending p c f v n kept
    → length f ≡ length p.sets → is_scoped p c v ≡ true → length (get_or f v []) ≤ n
    → IsNarrowed (problem_of p) c (family f) v (has kept)
extending_all p c f v n kept so_far sets in_scope all =
    let lt : v < length p.sets = scoped_below p c v in_scope in
    record {
      scoped = in_scope;
      sound = so_far.sound;
      whole = λ x does.
          let (k, below, same) = has_place (get_or f v []) x (in_family p c f v x (omega arith) does) in
          subst (λ y. has kept y ≡ true) (sym same)
          (so_far.whole k (omega arith) (subst (λ y. Extends (problem_of p) c (family f) v y) same does));
    }

pub family-is : (sets : List (List ℕ)) (v : ℕ) → v < length sets → family sets v ≡ has (get_or sets v [])
family-is sets v lt = fun_ext (λ x. family-at sets v x lt)

pub family-past : (sets : List (List ℕ)) (v x : ℕ) → length sets ≤ v → family sets v x ≡ true
family-past sets v x past = cond-false (ltb v (length sets)) (has (get_or sets v []) x) true (le-ltb v (length sets) past)

-- the sets of the variables lie in their sides, and so do all others
pub others_lie : (f b : List (List ℕ)) (v : ℕ) → length f ≡ length b
    → ((u : ℕ) → u ≢ v → u < length f → Lies (has (get_or f u [])) (has (get_or b u [])))
    → (u : ℕ) → u ≢ v → Lies (family f u) (family b u)
others_lie f b v long each u apart x is = elim (cases_lt u (length f)) [
  | inl lt ↦ family-at b u x (omega arith) ∙ each u apart lt x (sym (family-at f u x lt) ∙ is)
  | inr past ↦ family-past b u x (omega arith)
]

pub all_lie : (f b : List (List ℕ)) → length f ≡ length b
    → ((u : ℕ) → u < length f → Lies (has (get_or f u [])) (has (get_or b u []))) → AllLie (family f) (family b)
all_lie f b long each u = others_lie f b (u + 1) long (λ w _. each w) u (λ same. omega arith)

pub leaves_at : (f b : List (List ℕ)) (v : ℕ) → length f ≡ length b → v < length f → Leaves (has (get_or f v [])) (has (get_or b v []))
    → Leaves (family f v) (family b v)
leaves_at f b v long lt (x, is, out) = (x, family-at f v x lt ∙ is, family-at b v x (omega arith) ∙ out)

pub two_outside : (f b : List (List ℕ)) (v w : ℕ) → length f ≡ length b → v < w → w < length f
    → Leaves (has (get_or f v [])) (has (get_or b v [])) → Leaves (has (get_or f w [])) (has (get_or b w []))
    → IsBoxSame (family b) (family f)
two_outside f b v w long less lt one other = inl (record {
  one = v;
  other = w;
  apart = omega arith;
  one_outside = leaves_at f b v long (omega arith) one;
  other_outside = leaves_at f b w long lt other;
})

pub one_apart : (f b : List (List ℕ)) (v : ℕ) → length f ≡ length b → v < length f
    → Leaves (has (get_or f v [])) (has (get_or b v [])) → ((x : ℕ) → has (get_or f v []) x ≡ true → has (get_or b v []) x ≡ false)
    → IsBoxSame (family b) (family f)
one_apart f b v long lt outside misses = inr (record {
  one = v;
  outside = leaves_at f b v long lt outside;
  misses = λ x is. family-at b v x (omega arith) ∙ misses x (sym (family-at f v x lt) ∙ is);
})

pub has-without : (a b : List ℕ) → has (filter (λ x. not (has b x)) a) ≡ without (has a) (has b)
has-without a b = fun_ext (λ x. has-filter (λ y. not (has b y)) a x)

-- the box step narrows: what it leaves is a part
pub box_narrows : (f b : List (List ℕ)) (v : ℕ) (s : List ℕ) → length f ≡ length b → v < length f
    → Leaves (has (get_or f v [])) (has (get_or b v [])) → Meets (has (get_or f v [])) (has (get_or b v []))
    → ((u : ℕ) → u ≢ v → u < length f → Lies (has (get_or f u [])) (has (get_or b u [])))
    → s ≡ filter (λ x. not (has (get_or b v []) x)) (get_or f v [])
    → (v < length f) × IsPart (has s) (family f v) × IsBoxNarrowed (family b) (family f) v (has s)
box_narrows f b v s long lt outside inside others is = (
  lt,
  part,
  record {
    others = others_lie f b v long others;
    outside = leaves_at f b v long lt outside;
    inside = (inside.0, family-at f v inside.0 lt ∙ inside.1, family-at b v inside.0 (omega arith) ∙ inside.2);
    stays = same;
  },
)
  where
    same : has s ≡ without (family f v) (family b v)
    same = ap has is ∙ (has-without (get_or f v []) (get_or b v [])
        ∙ (ap (λ (t : ℕ → Bool). without t (has (get_or b v []))) (sym (family-is f v lt))
        ∙ ap (λ (t : ℕ → Bool). without (family f v) t) (sym (family-is b v (omega arith)))))

    at : (x : ℕ) → has s x ≡ (has (get_or f v []) x && not (has (get_or b v []) x))
    at x = ap (λ xs. has xs x) is ∙ has-filter (λ y. not (has (get_or b v []) y)) (get_or f v []) x

    part : IsPart (has s) (family f v)
    part = record {
      lies = λ x in_s. family-at f v x lt ∙ (and_parts (has (get_or f v []) x) (not (has (get_or b v []) x)) (sym (at x) ∙ in_s)).0;
      proper = (
        inside.0,
        family-at f v inside.0 lt ∙ inside.1,
        at inside.0 ∙ and_right (has (get_or f v []) inside.0) (not (has (get_or b v []) inside.0)) (ap not inside.2),
      );
      has_value = (
        outside.0,
        at outside.0
            ∙ and_from (has (get_or f v []) outside.0) (not (has (get_or b v []) outside.0)) outside.1 (ap not outside.2),
      );
    }

-- the exact step narrows: what it leaves is a part, where the constraint can be satisfied
pub step_narrows : (p : Plain) (c : ℕ) (f : List (List ℕ)) (v : ℕ) (s : List ℕ) → v < length f → is_scoped p c v ≡ true
    → IsSatisfiable p c f → IsNarrowed (problem_of p) c (family f) v (has s) → Leaves (has (get_or f v [])) (has s)
    → (v < length f) × IsPart (has s) (family f v) × IsNarrowed (problem_of p) c (family f) v (has s)
step_narrows p c f v s lt in_scope can narrowed (x, is, out) = (
  lt,
  record {
    lies = λ y in_s. family-at f v y lt ∙ in_family p c f v y lt (narrowed.sound y in_s);
    proper = (x, family-at f v x lt ∙ is, out);
    has_value = (
      can.values v,
      narrowed.whole (can.values v)
          (record { values = can.values; scoped = in_scope; at = refl; inside = can.inside; holds = can.holds }),
    );
  },
  narrowed,
)

-- the sides of a table, as a box
pub family_table : (f : ℕ → List ℕ) (n : ℕ) (sets : List (List ℕ)) (v x : ℕ) → IsTable f n sets → v < n → family sets v x ≡ has (f v) x
family_table f n sets v x table lt = family-at sets v x (omega (arith, table.long)) ∙ ap (λ xs. has xs x) (table.at v lt)

pub conflict_is : (p : Plain) (c : ℕ) (f sides : List (List ℕ)) (n : ℕ) → IsTable (conflict_sides p c f) n sides → n ≡ length f
    → length f ≡ length p.sets → IsBox sides (length p.sets) (conflict_box (problem_of p) c (family f))
conflict_is p c f sides n table count long = record {
  long = table.long ∙ (count ∙ long);
  same = fun_ext (λ v. fun_ext (λ x. elim (cases_lt v n) [
    | inl lt ↦ family_table (conflict_sides p c f) n sides v x table lt ∙ elim (cases_Bool (p.scope c v)) [
      | inl in_scope ↦
          ap (λ xs. has xs x) (cond-true (p.scope c v) (get_or f v []) (get_or p.sets v []) in_scope)
          ∙ (sym (family-at f v x (omega arith))
          ∙ sym (cond-true (is_scoped p c v) (family f v x) (family p.sets v x) (scoped p c v in_scope (omega arith))))
      | inr out ↦
          ap (λ xs. has xs x) (cond-false (p.scope c v) (get_or f v []) (get_or p.sets v []) out)
          ∙ (sym (family-at p.sets v x (omega arith))
          ∙ sym (cond-false (is_scoped p c v) (family f v x) (family p.sets v x) (not_scoped p c v out)))
    ]
    | inr past ↦
        family-past sides v x (omega (arith, table.long))
        ∙ (sym (family-past p.sets v x (omega arith))
        ∙ sym (cond-false (is_scoped p c v) (family f v x) (family p.sets v x) (past_scope v past)))
  ]));
}
  where
    past_scope : (v : ℕ) → n ≤ v → is_scoped p c v ≡ false
    past_scope v past = and_right (p.scope c v) (ltb v (length p.sets)) (le-ltb v (length p.sets) (omega arith))

pub family-set : (sets : List (List ℕ)) (v : ℕ) (s : List ℕ) → v < length sets → family (set sets v s) ≡ put (family sets) v (has s)
family-set sets v s lt = fun_ext (λ u. fun_ext (λ x. elim (cases_eq u v) [
  | inl same ↦
      subst (λ w. family (set sets v s) w x ≡ put (family sets) v (has s) w x) (sym same)
      (family-at (set sets v s) v x (omega (arith, length-set sets v s))
      ∙ (ap (λ xs. has xs x) (get_or-set_same sets v s [] lt)
      ∙ sym (ap (λ (t : ℕ → Bool). t x) (cond-true (eqb v v) (has s) (family sets v) (eq-eqb v v refl)))))
  | inr apart ↦
      elim (cases_lt u (length sets)) [
        | inl below ↦
            family-at (set sets v s) u x (omega (arith, length-set sets v s))
            ∙ (ap (λ xs. has xs x) (get_or-set_other sets v u s [] apart)
            ∙ sym (family-at sets u x below))
        | inr past ↦
            family-past (set sets v s) u x (omega (arith, length-set sets v s)) ∙ sym (family-past sets u x past)
      ]
      ∙ sym (ap (λ (t : ℕ → Bool). t x) (cond-false (eqb u v) (has s) (family sets u) (ne_eqb u v apart)))
]))

pub narrowing_is : (p : Plain) (c : ℕ) (f sides : List (List ℕ)) (v : ℕ) (kept side : List ℕ)
    → IsBox sides (length p.sets) (conflict_box (problem_of p) c (family f)) → v < length f → length f ≡ length p.sets
    → side ≡ filter (λ x. not (has kept x)) (get_or f v [])
    → IsBox (set sides v side) (length p.sets) (narrowing_box (problem_of p) c (family f) v (has kept))
narrowing_is p c f sides v kept side conflict lt long is = record {
  long = length-set sides v side ∙ conflict.long;
  same = family-set sides v side (omega (arith, conflict.long)) ∙ fun_ext (λ u. fun_ext (λ x. elim (cases_eq u v) [
    | inl same ↦
        subst (λ w. put (family sides) v (has side) w x ≡ narrowing_box (problem_of p) c (family f) v (has kept) w x) (sym same)
        (ap (λ (t : ℕ → Bool). t x) (cond-true (eqb v v) (has side) (family sides v) (eq-eqb v v refl))
        ∙ (ap (λ xs. has xs x) is ∙ (has-filter (λ y. not (has kept y)) (get_or f v []) x
        ∙ (ap (λ b. b && not (has kept x)) (sym (family-at f v x lt))
        ∙ sym (cond-true (eqb v v) (family f v x && not (has kept x)) (conflict_box (problem_of p) c (family f) v x) (eq-eqb v v refl))))))
    | inr apart ↦
        ap (λ (t : ℕ → Bool). t x) (cond-false (eqb u v) (has side) (family sides u) (ne_eqb u v apart))
        ∙ (ap (λ (t : ℕ → ℕ → Bool). t u x) conflict.same
        ∙ sym (cond-false (eqb u v) (family f u x && not (has kept x)) (conflict_box (problem_of p) c (family f) u x) (ne_eqb u v apart)))
  ]));
}

pub resolvent_is : (a b sides : List (List ℕ)) (v n : ℕ) → IsTable (resolved a b v) n sides → n ≡ length a → length a ≡ length b
    → v < length a → IsBox sides (length a) (resolvent (family a) (family b) v)
resolvent_is a b sides v n table count long lt = record {
  long = table.long ∙ count;
  same = fun_ext (λ u. fun_ext (λ x. elim (cases_lt u n) [
    | inl below ↦ family_table (resolved a b v) n sides u x table below ∙ elim (cases_eq u v) [
      | inl same ↦
          ap (λ xs. has xs x) (cond-true (eqb u v) (united (get_or a u []) (get_or b u [])) (filter (λ y. has (get_or b u []) y) (get_or a u [])) (eq-eqb u v same))
          ∙ (has-united (get_or a u []) (get_or b u []) x
          ∙ (ap (λ t. t || has (get_or b u []) x) (sym (family-at a u x (omega arith)))
          ∙ (ap (λ t. family a u x || t) (sym (family-at b u x (omega arith)))
          ∙ sym (cond-true (eqb u v) (family a u x || family b u x) (family a u x && family b u x) (eq-eqb u v same)))))
      | inr apart ↦
          ap (λ xs. has xs x) (cond-false (eqb u v) (united (get_or a u []) (get_or b u [])) (filter (λ y. has (get_or b u []) y) (get_or a u [])) (ne_eqb u v apart))
          ∙ (has-filter (λ y. has (get_or b u []) y) (get_or a u []) x
          ∙ (ap (λ t. t && has (get_or b u []) x) (sym (family-at a u x (omega arith)))
          ∙ (ap (λ t. family a u x && t) (sym (family-at b u x (omega arith)))
          ∙ sym (cond-false (eqb u v) (family a u x || family b u x) (family a u x && family b u x) (ne_eqb u v apart)))))
    ]
    | inr past ↦
        family-past sides u x (omega (arith, table.long))
        ∙ (sym (and_from (family a u x) (family b u x) (family-past a u x (omega arith)) (family-past b u x (omega arith)))
        ∙ sym (cond-false (eqb u v) (family a u x || family b u x) (family a u x && family b u x) (ne_eqb u v (λ same. omega arith))))
  ]));
}
