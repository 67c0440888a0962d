-- Only a reifiable relation has a reified name.
use Rattle.std.proofs.Common.{◌≡◌, ℕ, Bool, true, false, cond, List, [], ◌∷◌, Option, Some, None, is_some, refl, sym, ap, subst, ◌∙◌}
use Rattle.std.specs.Prelude.{IsTrue, ◌&&◌}
use Rattle.std.specs.List.{find, list_all}
use Rattle.std.specs.Option.{option_map, option_or}
use Rattle.std.proofs.lemmas.Option.{none-some, same_Some}
use Rattle.set_meaning.specs.declared.problems.Relation.{Relation}
use Rattle.set_meaning.specs.Rows.{row_of}
use Rattle.fzn_model.specs.declared.names.ConstraintName.{ConstraintName}
use Rattle.fzn_model.specs.Names.{all_relations, is_called_reified, is_some_name, named, plain, reified, reified_name_of, relation_called, relation_called_reified}

-- ---- what a search finds passes the test, and has what all have

both_true : (a b : Bool) → (a && b) ≡ true → (a ≡ true) × (b ≡ true)
both_true true true e = (refl, refl)
both_true true false e = absurd (cc)
both_true false b e = absurd (cc)

one_step : {A : Type 0} (p q : A → Bool) (y x : A) (b : Bool) (rest : Option A) → p y ≡ b → q y ≡ true
    → (rest ≡ Some x → (p x ≡ true) × (q x ≡ true)) → cond b (Some y) rest ≡ Some x → (p x ≡ true) × (q x ≡ true)
one_step p q y x true rest is h k e =
    let same : y ≡ x = same_Some y x e in (subst (λ z. p z ≡ true) same is, subst (λ z. q z ≡ true) same h)
one_step p q y x false rest is h k e = k e

found : {A : Type 0} (p q : A → Bool) (xs : List A) (x : A) → list_all q xs ≡ true → find p xs ≡ Some x → (p x ≡ true) × (q x ≡ true)
found p q [] x h e = absurd (none-some x e)
found p q (y ∷ ys) x h e =
    let both = both_true (q y) (list_all q ys) h in
    one_step p q y x (p y) (find p ys) refl both.0 (λ k. found p q ys x both.1 k) e

-- ---- relations

-- a relation with a reified name is reifiable
abbrev is_right : Relation → Bool
is_right r = cond (is_some (reified_name_of r)) (row_of r).reifiable true

all_right : list_all is_right all_relations ≡ true
all_right = refl

has_name : (name : List ℕ) (o : Option (List ℕ)) → is_some_name name o ≡ true → is_some o ≡ true
has_name name None e = absurd (cc)
has_name name (Some other) e = refl

called_reified : (name : List ℕ) (r : Relation) → relation_called_reified name ≡ Some r → IsTrue (row_of r).reifiable
unfolding relation_called_reified
called_reified name r e =
    let f = found (is_called_reified name) is_right all_relations r all_right e in
    let s : is_some (reified_name_of r) ≡ true = has_name name (reified_name_of r) f.0 in
    sym (ap (λ b. cond b (row_of r).reifiable true) s) ∙ f.1

of_two : (a b : Option Relation) (n : ConstraintName) → option_or (option_map plain a) (option_map reified b) ≡ Some n → n.is_reified ≡ true
    → b ≡ Some n.relation
of_two (Some r) b n e t =
    let f : false ≡ n.is_reified = ap (λ (m : ConstraintName). m.is_reified) (same_Some (plain r) n e) in absurd (cc)
of_two None None n e t = absurd (none-some n e)
of_two None (Some r) n e t = ap (λ (m : ConstraintName). Some m.relation) (same_Some (reified r) n e)

-- a name that says that its relation is reified is that of a reifiable one
pub reified_is_reifiable : (name : List ℕ) (n : ConstraintName) → named name ≡ Some n → n.is_reified ≡ true → IsTrue (row_of n.relation).reifiable
reified_is_reifiable name n e t =
    called_reified name n.relation (of_two (relation_called name) (relation_called_reified name) n e t)
