-- The first fault of the first faulty item is that of the tree.
use Rattle.std.proofs.Common.{◌≡◌, ◌⊎◌, ℕ, suc, ◌+◌, ◌<◌, List, [], ◌∷◌, ◌++◌, length, take, refl, sym, ap, subst, ◌∙◌, inl, inr, arith, append_assoc}
use Rattle.std.specs.Prelude.{Contains}
use Rattle.std.proofs.lemmas.List.{append-nil}
use Rattle.fzn_parser.specs.declared.tree.Item.{Item}
use Rattle.fzn_parser.specs.declared.tree.Tree.{Tree}
use Rattle.fzn_parser.specs.Places.{AreInOrder}
use Rattle.fzn_model.specs.declared.faults.ModelFault.{ModelFault}
use Rattle.fzn_model.specs.FaultsOf.{HasFault, HasNoFault, IsFaultAfter, IsFirstFault, IsToldBefore, place_of_fault}
use Rattle.fzn_model.specs.FirstFault.{AreNone, IsFirst}
use Rattle.fzn_model.specs.Builds.{AreFaultless}
use Rattle.fzn_model.proofs.FaultPlaces.{fault_place}

-- two splits of one list: the one item is before the other, it is the other, or behind it
record IsEarlier {A : Type 0} (front : List A) (x : A) (back : List A) (before : List A) (y : A) (behind : List A) : Type 0 where
  between : List A
  split : before ≡ front ++ x ∷ between
  rest : back ≡ between ++ y ∷ behind

record IsSame {A : Type 0} (front : List A) (x : A) (before : List A) (y : A) : Type 0 where
  fronts : front ≡ before
  items : x ≡ y

splits : {A : Type 0} (front : List A) (x : A) (back before : List A) (y : A) (behind : List A) → front ++ x ∷ back ≡ before ++ y ∷ behind
    → IsEarlier front x back before y behind ⊎ IsSame front x before y ⊎ IsEarlier before y behind front x back
splits [] x back [] y behind e = inr (inl (record { fronts = refl; items = cc }))
splits [] x back (z ∷ before) y behind e = inl (record { between = before; split = (let a : x ≡ z = cc in ap (λ u. u ∷ before) (sym a)); rest = cc })
splits (w ∷ front) x back [] y behind e = inr (inr (record { between = front; split = (let a : w ≡ y = cc in ap (λ u. u ∷ front) a); rest = (let b : front ++ x ∷ back ≡ behind = cc in sym b) }))
splits (w ∷ front) x back (z ∷ before) y behind e =
    let head : w ≡ z = cc in
    let tail : front ++ x ∷ back ≡ before ++ y ∷ behind = cc in
    elim (splits front x back before y behind tail) [
      | inl a ↦ inl (record { between = a.between; split = (λ i. sym head i ∷ a.split i); rest = a.rest })
      | inr o ↦ elim o [
        | inl s ↦ inr (inl (record { fronts = (λ i. head i ∷ s.fronts i); items = s.items }))
        | inr a ↦ inr (inr (record { between = a.between; split = (λ i. head i ∷ a.split i); rest = a.rest }))
      ]
    ]

pub first_of_tree : (tree : Tree) → AreInOrder tree → (before : List Item) (item : Item) (behind : List Item) → tree.items ≡ before ++ item ∷ behind
    → AreFaultless before → (fault : ModelFault) → IsFirst (IsFaultAfter before item) fault → IsFirstFault tree fault
first_of_tree tree order before item behind split faultless fault first = record {
  has = record { before = before; item = item; behind = behind; split = split; faulty = first.among };
  first = λ other o. by other o;
}
  where
    by : (other : ModelFault) → HasFault tree other → IsToldBefore fault other
    by other o = elim (splits before item behind o.before o.item o.behind (sym split ∙ o.split)) [
      | inl a ↦ inl (order.apart before item a.between o.item o.behind (split ∙ ap (λ r. before ++ item ∷ r) a.rest)
          (place_of_fault fault) (place_of_fault other) (fault_place before item fault first.among) (fault_place o.before o.item other o.faulty))
      | inr r ↦ elim r [
        | inl s ↦ first.first other (subst (λ (b : List Item). IsFaultAfter b item other) (sym s.fronts) (subst (λ (i : Item). IsFaultAfter o.before i other) (sym s.items) o.faulty))
        | inr a ↦ absurd (faultless o.before o.item a.between a.split other o.faulty)
      ]
    ]

pub none_before : AreFaultless []
none_before front item back e fault h = by front e
  where
    by : (f : List Item) → [] ≡ f ++ item ∷ back → ⊥
    by [] q = cc
    by (x ∷ f) q = cc

pub one_more : (before : List Item) (item : Item) → AreFaultless before → AreNone (IsFaultAfter before item) → AreFaultless (before ++ item ∷ [])
one_more before item faultless none front other back e fault h = elim (splits before item [] front other back e) [
  | inl a ↦ by a.between a.rest
  | inr r ↦ elim r [
    | inl s ↦ none fault (subst (λ (b : List Item). IsFaultAfter b item fault) (sym s.fronts) (subst (λ (i : Item). IsFaultAfter front i fault) (sym s.items) h))
    | inr a ↦ faultless front other a.between a.split fault h
  ]
]
  where
    by : (b : List Item) → [] ≡ b ++ other ∷ back → ⊥
    by [] q = cc
    by (x ∷ b) q = cc

pub none_in_tree : (tree : Tree) → AreFaultless tree.items → HasNoFault tree
none_in_tree tree faultless fault h = faultless h.before h.item h.behind h.split fault h.faulty
