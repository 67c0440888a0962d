-- Answers that are seen at once are right in every table.
use Rattle.std.proofs.Common.{◌≡◌, ℕ, ◌<◌, ◌≤◌, min, Bool, true, false, not, ◌&&◌, ◌||◌, eqb, cond, Option, Some, None, refl, sym, ◌∙◌, ap, subst, inl, inr, ◌⊎◌, arith}
use Rattle.std.specs.Prelude.{if◌then◌else◌, IfSome, IfNone}
use Rattle.std.proofs.lemmas.Bool.{cases_Bool, eqb-true}
use Rattle.diagram_arena.specs.declared.nodes.NodeId.{NodeId}
use Rattle.diagram_arena.specs.declared.nodes.Ref.{Ref}
use Rattle.diagram_arena.specs.declared.nodes.Ref.TheVariants as ref
use Rattle.diagram_arena.specs.declared.nodes.Triple.{Triple}
use Rattle.diagram_arena.specs.Table.{Word, Table, child, has, IsLive, depth, IsReduced}
use Rattle.diagram_arena.specs.Part.{with_bit}
use Rattle.diagram_arena.proofs.Meaning.{has-zero, has-one, depth-zero, depth-one, depth-at, depth_within, live_from}
use Rattle.diagram_arena.proofs.Canonical.{has-above, has-child}
use Rattle.diagram_arena.proofs.Ids.{same_id}
use Rattle.diagram_ops.specs.declared.question.Op.{Op}
use Rattle.diagram_ops.specs.declared.question.Op.TheVariants.{And, Or, Diff}
use Rattle.diagram_ops.specs.declared.question.Question.TheVariants.{Combine, Restrict}
use Rattle.diagram_ops.specs.Steps.{combine, shortcut_of, HasNode, IsAnswer}

-- r is Zero, One, f or g
abbrev pub IsAmong : Ref → Ref → Ref → Type 0
IsAmong f g r = ((r ≡ ref.Zero) ⊎ (r ≡ ref.One)) ⊎ ((r ≡ f) ⊎ (r ≡ g))

pub record IsShort (op : Op) (f g r : Ref) : Type 0 where
  pub among : IsAmong f g r
  pub words : (t : Table) (w : Word) → has t r w ≡ combine op (has t f w) (has t g w)

zero_among : (f g : Ref) → IsAmong f g ref.Zero
zero_among f g = inl (inl refl)

one_among : (f g : Ref) → IsAmong f g ref.One
one_among f g = inl (inr refl)

first_among : (f g : Ref) → IsAmong f g f
first_among f g = inr (inl refl)

second_among : (f g : Ref) → IsAmong f g g
second_among f g = inr (inr refl)

-- laws of the tests at one word
and_false : (a : Bool) → false ≡ a && false
and_false true = refl
and_false false = refl

and_true : (a : Bool) → a ≡ a && true
and_true true = refl
and_true false = refl

and_self : (a : Bool) → a ≡ a && a
and_self true = refl
and_self false = refl

or_false : (a : Bool) → a ≡ a || false
or_false true = refl
or_false false = refl

or_true : (a : Bool) → true ≡ a || true
or_true true = refl
or_true false = refl

or_self : (a : Bool) → a ≡ a || a
or_self true = refl
or_self false = refl

diff_self : (a : Bool) → false ≡ a && not a
diff_self true = refl
diff_self false = refl

short : (op : Op) (f g r s : Ref) → Some s ≡ Some r → IsShort op f g s → IsShort op f g r
short op f g r s e is = let same : s ≡ r = (cc) in subst (IsShort op f g) same is

-- a node and itself
short_same : (op : Op) (i j : NodeId) (r s : Ref) → (if eqb i.0 j.0 then Some s else None) ≡ Some r → (i ≡ j → IsShort op (ref.Node i) (ref.Node j) s) → IsShort op (ref.Node i) (ref.Node j) r
short_same op i j r s e is =
    elim (cases_Bool (eqb i.0 j.0)) [
      | inl on ↦
          let there : Some s ≡ Some r = sym (ap (λ b. cond b (Some s) None) on) ∙ e in
          short op _ _ r s there (is (same_id i j (eqb-true i.0 j.0 on)))
      | inr off ↦ let no : None ≡ Some r = sym (ap (λ b. cond b (Some s) None) off) ∙ e in absurd (cc)
    ]

same_words : (op : Op) (i j : NodeId) (s : Ref) → IsAmong (ref.Node i) (ref.Node j) s → i ≡ j → ((t : Table) (w : Word) → has t s w ≡ combine op (has t (ref.Node i) w) (has t (ref.Node i) w)) → IsShort op (ref.Node i) (ref.Node j) s
same_words op i j s among e words = record {
  among = among;
  words = λ t w. words t w ∙ ap (λ k. combine op (has t (ref.Node i) w) (has t (ref.Node k) w)) e;
}

pub short_is : (op : Op) (f g r : Ref) → shortcut_of op f g ≡ Some r → IsShort op f g r
short_is And ref.Zero g r e = short And ref.Zero g r ref.Zero e (record {
  among = zero_among _ _;
  words = λ t w. has-zero t w ∙ ap (λ a. a && has t g w) (sym (has-zero t w));
})
short_is And ref.One g r e = short And ref.One g r g e (record {
  among = second_among _ _;
  words = λ t w. ap (λ a. a && has t g w) (sym (has-one t w));
})
short_is And (ref.Node i) ref.Zero r e = short And (ref.Node i) ref.Zero r ref.Zero e (record {
  among = zero_among _ _;
  words = λ t w. has-zero t w ∙ and_false (has t (ref.Node i) w) ∙ ap (λ a. has t (ref.Node i) w && a) (sym (has-zero t w));
})
short_is And (ref.Node i) ref.One r e = short And (ref.Node i) ref.One r (ref.Node i) e (record {
  among = first_among _ _;
  words = λ t w. and_true (has t (ref.Node i) w) ∙ ap (λ a. has t (ref.Node i) w && a) (sym (has-one t w));
})
short_is And (ref.Node i) (ref.Node j) r e = short_same And i j r (ref.Node i) e (λ same.
    same_words And i j (ref.Node i) (first_among _ _) same (λ t w. and_self (has t (ref.Node i) w)))
short_is Or ref.Zero g r e = short Or ref.Zero g r g e (record {
  among = second_among _ _;
  words = λ t w. ap (λ a. a || has t g w) (sym (has-zero t w));
})
short_is Or ref.One g r e = short Or ref.One g r ref.One e (record {
  among = one_among _ _;
  words = λ t w. has-one t w ∙ ap (λ a. a || has t g w) (sym (has-one t w));
})
short_is Or (ref.Node i) ref.Zero r e = short Or (ref.Node i) ref.Zero r (ref.Node i) e (record {
  among = first_among _ _;
  words = λ t w. or_false (has t (ref.Node i) w) ∙ ap (λ a. has t (ref.Node i) w || a) (sym (has-zero t w));
})
short_is Or (ref.Node i) ref.One r e = short Or (ref.Node i) ref.One r ref.One e (record {
  among = one_among _ _;
  words = λ t w. has-one t w ∙ or_true (has t (ref.Node i) w) ∙ ap (λ a. has t (ref.Node i) w || a) (sym (has-one t w));
})
short_is Or (ref.Node i) (ref.Node j) r e = short_same Or i j r (ref.Node i) e (λ same.
    same_words Or i j (ref.Node i) (first_among _ _) same (λ t w. or_self (has t (ref.Node i) w)))
short_is Diff ref.Zero g r e = short Diff ref.Zero g r ref.Zero e (record {
  among = zero_among _ _;
  words = λ t w. has-zero t w ∙ ap (λ a. a && not (has t g w)) (sym (has-zero t w));
})
short_is Diff ref.One ref.Zero r e = short Diff ref.One ref.Zero r ref.One e (record {
  among = one_among _ _;
  words = λ t w. has-one t w ∙ (λ k. sym (has-one t w) k && not (sym (has-zero t w) k));
})
short_is Diff ref.One ref.One r e = short Diff ref.One ref.One r ref.Zero e (record {
  among = zero_among _ _;
  words = λ t w. has-zero t w ∙ (λ k. sym (has-one t w) k && not (sym (has-one t w) k));
})
short_is Diff ref.One (ref.Node j) r e = absurd (cc)
short_is Diff (ref.Node i) ref.Zero r e = short Diff (ref.Node i) ref.Zero r (ref.Node i) e (record {
  among = first_among _ _;
  words = λ t w. and_true (has t (ref.Node i) w) ∙ ap (λ a. has t (ref.Node i) w && not a) (sym (has-zero t w));
})
short_is Diff (ref.Node i) ref.One r e = short Diff (ref.Node i) ref.One r ref.Zero e (record {
  among = zero_among _ _;
  words = λ t w. has-zero t w ∙ and_false (has t (ref.Node i) w) ∙ ap (λ a. has t (ref.Node i) w && not a) (sym (has-one t w));
})
short_is Diff (ref.Node i) (ref.Node j) r e = short_same Diff i j r ref.Zero e (λ same.
    same_words Diff i j ref.Zero (zero_among _ _) same (λ t w. has-zero t w ∙ diff_self (has t (ref.Node i) w)))

-- with no shortcut there is a node to look at
pub short_none : (op : Op) (f g : Ref) → shortcut_of op f g ≡ None → HasNode f g
short_none And ref.Zero g e = absurd (cc)
short_none And ref.One g e = absurd (cc)
short_none And (ref.Node i) g e = tt
short_none Or ref.Zero g e = absurd (cc)
short_none Or ref.One g e = absurd (cc)
short_none Or (ref.Node i) g e = tt
short_none Diff ref.Zero g e = absurd (cc)
short_none Diff ref.One ref.Zero e = absurd (cc)
short_none Diff ref.One ref.One e = absurd (cc)
short_none Diff ref.One (ref.Node j) e = tt
short_none Diff (ref.Node i) g e = tt

among_live : (t : Table) (f g r : Ref) → IsLive t f → IsLive t g → IsAmong f g r → IsLive t r
among_live t f g r f_live g_live among =
    elim among [
      | inl ends ↦ elim ends [ inl e ↦ subst (IsLive t) (sym e) tt | inr e ↦ subst (IsLive t) (sym e) tt ]
      | inr one ↦ elim one [ inl e ↦ subst (IsLive t) (sym e) f_live | inr e ↦ subst (IsLive t) (sym e) g_live ]
    ]

among_deep : (t : Table) → IsReduced t → (f g r : Ref) → IsLive t f → IsAmong f g r → min (depth t f) (depth t g) ≤ depth t r
among_deep t ok f g r f_live among =
    let within = depth_within t ok f f_live in
    elim among [
      | inl ends ↦ elim ends [
        | inl e ↦ let deep = ap (depth t) e ∙ depth-zero t in omega (arith, deep, within)
        | inr e ↦ let deep = ap (depth t) e ∙ depth-one t in omega (arith, deep, within)
      ]
      | inr one ↦ elim one [
        | inl e ↦ let same = ap (depth t) e in omega (arith, same)
        | inr e ↦ let same = ap (depth t) e in omega (arith, same)
      ]
    ]

pub short_answer : (t : Table) → IsReduced t → (op : Op) (f g r : Ref) → IsLive t f → IsLive t g → IsShort op f g r → IsAnswer t (Combine op f g) r
short_answer t ok op f g r f_live g_live is = record {
  given = (f_live, g_live);
  live = among_live t f g r f_live g_live is.among;
  deep = among_deep t ok f g r f_live is.among;
  words = is.words t;
}

-- a shortcut that is taken is an answer, and without one there is a node to look at
pub short_found : (t : Table) → IsReduced t → (op : Op) (f g : Ref) (o : Option Ref) → IsLive t f → IsLive t g → o ≡ shortcut_of op f g → IfSome o (IsAnswer t (Combine op f g))
short_found t ok op f g None f_live g_live e = tt
short_found t ok op f g (Some r) f_live g_live e = short_answer t ok op f g r f_live g_live (short_is op f g r (sym e))

pub short_step : (op : Op) (f g : Ref) (o : Option Ref) → o ≡ shortcut_of op f g → IfNone o (HasNode f g)
short_step op f g None e = short_none op f g (sym e)
short_step op f g (Some r) e = tt

-- a ref that asks no bit up to this one is its own restriction
pub restricts_above : (t : Table) → IsReduced t → (f : Ref) → IsLive t f → (bit : ℕ) (v : Bool) → bit < depth t f → IsAnswer t (Restrict f bit v) f
restricts_above t ok f live bit v above = record {
  given = live;
  live = live;
  deep = omega arith;
  words = λ w. sym (has-above t ok f live bit above w v);
}

pub restricts_zero : (t : Table) (f : Ref) (bit : ℕ) (v : Bool) → f ≡ ref.Zero → IsAnswer t (Restrict f bit v) f
restricts_zero t f bit v e = subst (λ s. IsAnswer t (Restrict s bit v) s) (sym e) (record {
  given = tt;
  live = tt;
  deep = omega arith;
  words = λ w. has-zero t w ∙ sym (has-zero t (with_bit w bit v));
})

pub restricts_one : (t : Table) (f : Ref) (bit : ℕ) (v : Bool) → f ≡ ref.One → IsAnswer t (Restrict f bit v) f
restricts_one t f bit v e = subst (λ s. IsAnswer t (Restrict s bit v) s) (sym e) (record {
  given = tt;
  live = tt;
  deep = omega arith;
  words = λ w. has-one t w ∙ sym (has-one t (with_bit w bit v));
})

pub restricts_below : (t : Table) → IsReduced t → (f : Ref) (i : NodeId) (n : Triple) (bit : ℕ) (v : Bool) → f ≡ ref.Node i → t i ≡ Some n → bit < n.bit → IsAnswer t (Restrict f bit v) (ref.Node i)
restricts_below t ok f i n bit v e is below =
    let at = depth-at t i n is in
    subst (λ s. IsAnswer t (Restrict s bit v) (ref.Node i)) (sym e) (restricts_above t ok (ref.Node i) (live_from t i n is) bit v (omega (arith, at, below)))

-- a node that asks this bit has its child as its restriction
pub restricts_there : (t : Table) → IsReduced t → (f : Ref) (i : NodeId) (n : Triple) (bit : ℕ) (v : Bool) → f ≡ ref.Node i → t i ≡ Some n → n.bit ≡ bit → IsAnswer t (Restrict f bit v) (child n v)
restricts_there t ok f i n bit v e is same =
    let at = depth-at t i n is in
    let deeper = ok.deeper i n v is in
    subst (λ s. IsAnswer t (Restrict s bit v) (child n v)) (sym e) (subst (λ b. IsAnswer t (Restrict (ref.Node i) b v) (child n v)) same (record {
      given = live_from t i n is;
      live = ok.live i n v is;
      deep = omega (arith, at, deeper);
      words = λ w. sym (has-child t ok i n is w v);
    }))
