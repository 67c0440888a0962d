-- Which lists of sides are known.
use Rattle.std.proofs.Common.{◌≡◌, ◌≢◌, ◌==◌, Bool, true, false, not, ◌&&◌, ◌||◌, List, [], ◌∷◌, ◌++◌, Vec, Global, refl, sym, ap, ◌∙◌, subst, inl, inr, Contains, eq-eqb}
use Rattle.std.specs.Prelude.{if◌then◌else◌, IsTrue, ◌↔◌}
use Rattle.std.specs.Bool.{Decides}
use Rattle.std.specs.List.{list_any}
use Rattle.std.specs.Cmp.Lexicographic.{pointwise}
use Rattle.std.proofs.lemmas.Bool.{eqb-true, or_cases}
use Rattle.std.proofs.lemmas.List.Folds.{list_any-append}
use Rattle.std.proofs.lemmas.Slice.Eq.{slice_eq-Decides}
use Rattle.bit_layout.proofs.Rising.{nothing_in_empty, in_cons, in_head, in_tail}
use Rattle.diagram_arena.specs.declared.nodes.NodeId.{NodeId}
use Rattle.diagram_arena.specs.declared.nodes.Ref.{Ref}
use Rattle.diagram_arena.specs.declared.nodes.Ref.TheVariants.{Zero, One, Node}
use Rattle.diagram_arena.specs.contracts.nodes.RefPartialEq.TheImpl.{eq-value as of_refs}
use Rattle.diagram_arena.specs.Body.{id}
use Rattle.set_meaning.specs.declared.problems.VarId.{VarId}
use Rattle.exact_steps.proofs.Values.{both_are, both_from}
use Rattle.exact_steps.specs.Domains.{variable}
use Rattle.box_clauses.specs.declared.sides.Side.{Side}
use Rattle.box_clauses.specs.declared.index.BoxIndex.{BoxIndex}
use Rattle.box_clauses.specs.declared.store.StoredBox.{StoredBox}
use Rattle.box_clauses.specs.Index.{same_side, same_sides, knows, is_stored, IsIndexed}

-- ---- sides that compare as equal are one

refs_equal : (r s : Ref) → of_refs.it r s ≡ true → r ≡ s
refs_equal Zero Zero h = refl
refs_equal Zero One h = absurd (let e : false ≡ true = h in cc)
refs_equal Zero (Node j) h = absurd (let e : false ≡ true = h in cc)
refs_equal One Zero h = absurd (let e : false ≡ true = h in cc)
refs_equal One One h = refl
refs_equal One (Node j) h = absurd (let e : false ≡ true = h in cc)
refs_equal (Node i) Zero h = absurd (let e : false ≡ true = h in cc)
refs_equal (Node i) One h = absurd (let e : false ≡ true = h in cc)
refs_equal (Node i) (Node j) h = ap (λ k. Node (id k)) (eqb-true i.0 j.0 h)

ref_itself : (r : Ref) → of_refs.it r r ≡ true
ref_itself Zero = refl
ref_itself One = refl
ref_itself (Node i) = eq-eqb i.0 i.0 refl

side : VarId → Ref → Side
side v r = record { var = v; set = r }

sides_equal : (s u : Side) → same_side s u ≡ true → s ≡ u
unfolding side
sides_equal s u h =
    let two = both_are (s.var.0 == u.var.0) (of_refs.it s.set u.set) h in
    let P : s ≡ side u.var s.set = ap (λ n. side (variable n) s.set) (eqb-true s.var.0 u.var.0 two.0) in
    P ∙ ap (side u.var) (refs_equal s.set u.set two.1)

pub side_Decides : (s u : Side) → Decides (same_side s u) (s ≡ u)
side_Decides s u = (
  sides_equal s u,
  λ e. subst (λ x. same_side s x ≡ true) e (both_from (s.var.0 == s.var.0) (of_refs.it s.set s.set) (eq-eqb s.var.0 s.var.0 refl) (ref_itself s.set)),
)

pub lists_Decide : (xs ys : List Side) → Decides (same_sides xs ys) (xs ≡ ys)
lists_Decide xs ys = slice_eq-Decides side_Decides xs ys (same_sides xs ys) refl

-- ---- lists that are put into the index

module _ (xs : List Side) where
  abbrev here : Vec Side Global → Bool
  here k = same_sides xs k.items

  other_way : (a b : Bool) → (a || (b || false)) ≡ (b || a)
  other_way true true = refl
  other_way true false = refl
  other_way false true = refl
  other_way false false = refl

  there : (b c : Bool) → (b ≡ true → c ≡ true) → c ≡ (b || c)
  there true c h = h refl
  there false c h = refl

  put_in : (ks : List (Vec Side Global)) (k : Vec Side Global) (b : Bool) → b ≡ list_any (λ (x : Vec Side Global). same_sides k.items x.items) ks
      → list_any here (if b then ks else ks ++ k ∷ []) ≡ (same_sides xs k.items || list_any here ks)
  put_in ks k true e = there (same_sides xs k.items) (list_any here ks) (λ h.
      subst (λ ys. list_any (λ (x : Vec Side Global). same_sides ys x.items) ks ≡ true) (sym ((lists_Decide xs k.items).0 h)) (sym e))
  put_in ks k false e = list_any-append here ks (k ∷ []) ∙ other_way (list_any here ks) (same_sides xs k.items)

  pub known_after : (ks new : List (Vec Side Global)) (k : Vec Side Global) → new ≡ (if list_any (λ (x : Vec Side Global). same_sides k.items x.items) ks then ks else ks ++ k ∷ [])
      → list_any here new ≡ (same_sides xs k.items || list_any here ks)
  known_after ks new k e = ap (list_any here) e ∙ put_in ks k (list_any (λ (x : Vec Side Global). same_sides k.items x.items) ks) refl

  stored_after : (boxes : List StoredBox) (b : StoredBox) → is_stored (boxes ++ b ∷ []) xs ≡ (same_sides xs b.sides || is_stored boxes xs)
  stored_after boxes b =
      list_any-append (λ (x : StoredBox). same_sides xs x.sides) boxes (b ∷ []) ∙ other_way (is_stored boxes xs) (same_sides xs b.sides)

-- a box and its list are added
pub indexed_after : (boxes new : List StoredBox) (old now : BoxIndex) (b : StoredBox) (key : List Side) → key ≡ b.sides → new ≡ boxes ++ b ∷ [] → IsIndexed boxes old
    → ((xs : List Side) → knows now xs ≡ (same_sides xs key || knows old xs)) → IsIndexed new now
indexed_after boxes new old now b key same more is added = record {
  same = λ xs.
      added xs ∙ ap (λ ys. same_sides xs ys || knows old xs) same ∙ ap (λ t. same_sides xs b.sides || t) (is.same xs) ∙ sym (stored_after xs boxes b) ∙ ap (λ bs. is_stored bs xs) (sym more);
}

pub indexed_still : (boxes new : List StoredBox) (old now : BoxIndex) → new ≡ boxes → IsIndexed boxes old → ((xs : List Side) → knows now xs ≡ knows old xs) → IsIndexed new now
indexed_still boxes new old now same is stays = record { same = λ xs. stays xs ∙ is.same xs ∙ ap (λ bs. is_stored bs xs) (sym same) }

-- ---- which boxes there are

stored_in : (boxes : List StoredBox) (xs : List Side) → is_stored boxes xs ≡ true → (b : StoredBox) × Contains boxes b × (b.sides ≡ xs)
stored_in [] xs h = absurd (let e : false ≡ true = h in cc)
stored_in (b ∷ bs) xs h = elim (or_cases (same_sides xs b.sides) (is_stored bs xs) h) [
  | inl first ↦ (b, in_head b bs, sym ((lists_Decide xs b.sides).0 first))
  | inr later ↦ let r = stored_in bs xs later in (r.0, in_tail b bs r.0 r.1, r.2)
]

or_first : (a b : Bool) → a ≡ true → (a || b) ≡ true
or_first true b h = refl
or_first false b h = absurd (let e : false ≡ true = h in cc)

or_second : (a b : Bool) → b ≡ true → (a || b) ≡ true
or_second true b h = refl
or_second false b h = h

in_stored : (boxes : List StoredBox) (xs : List Side) (b : StoredBox) → Contains boxes b → b.sides ≡ xs → is_stored boxes xs ≡ true
in_stored [] xs b h e = absurd (nothing_in_empty b h)
in_stored (a ∷ more) xs b h e = elim (in_cons a more b h) [
  | inl first ↦ or_first (same_sides xs a.sides) (is_stored more xs) ((lists_Decide xs a.sides).1 (sym e ∙ ap (λ (x : StoredBox). x.sides) (sym first)))
  | inr later ↦ or_second (same_sides xs a.sides) (is_stored more xs) (in_stored more xs b later e)
]

pub new_where : (boxes : List StoredBox) (xs : List Side) (known fresh : Bool) → known ≡ is_stored boxes xs → fresh ≡ not known → IsTrue fresh ↔ ((b : StoredBox) → Contains boxes b → b.sides ≢ xs)
new_where boxes xs true fresh is e = (
  λ on. absurd (let f : false ≡ true = sym e ∙ on in cc),
  λ none. let r = stored_in boxes xs (sym is) in absurd (none r.0 r.1 r.2),
)
new_where boxes xs false fresh is e = (
  λ on b h same. let f : false ≡ true = is ∙ in_stored boxes xs b h same in cc,
  λ none. e,
)
