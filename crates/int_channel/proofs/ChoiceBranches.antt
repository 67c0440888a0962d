-- Lists of branches.
use Rattle.std.proofs.Common.{◌≡◌, ◌↔◌, ◌⊎◌, ◌<◌, ◌≤◌, ◌+◌, ℕ, zero, suc, List, [], ◌∷◌, ◌++◌, length, get_or, Vec, Global, refl, sym, ap, ◌∙◌, subst, inl, inr, arith, Contains}
use Rattle.std.specs.Prelude.{Any, filter_map, IfOk, Result}
use Rattle.std.specs.declared.alloc.AllocError.{AllocError}
use Rattle.std.proofs.lemmas.Result.{IfOk-weaker}
use Rattle.std.specs.List.{All, AllZip}
use Rattle.std.proofs.lemmas.List.Elements.{All-nil, All-cons}
use Rattle.set_meaning.specs.declared.kinds.Kind.{Kind}
use Rattle.set_meaning.specs.declared.kinds.Value.{Value}
use Rattle.set_meaning.specs.declared.problems.VarId.{VarId}
use Rattle.set_meaning.specs.declared.problems.Term.{Term}
use Rattle.set_meaning.specs.declared.problems.Arg.{Arg}
use Rattle.set_meaning.specs.declared.problems.Relation.{Relation}
use Rattle.set_meaning.specs.Relations.{HoldsOf, terms_of, variable_of}
use Rattle.set_meaning.specs.Rows.{HasShape, row_of, shapes_of}
use Rattle.scope_words.specs.Words.{variables_in}
use Rattle.bit_layout.proofs.Rising.{in_head, in_tail}
use Rattle.int_channel.specs.declared.forms.Atom.{Atom}
use Rattle.int_channel.specs.declared.forms.Branch.{Branch}
use Rattle.int_channel.specs.Forms.{AtomHolds, BranchHolds, IsAtomOver, IsBranchOver, HaveValues, AreBranchesOf}
use Rattle.int_channel.specs.Choices.{AreAmong, IsAtomWhere, AreBranchesFor}

-- ---- some item of a short list

pub any_head : {X : Type 0} (P : X → Type 0) (x : X) (xs : List X) → P x → Any P (x ∷ xs)
any_head P x xs h = (0, x, omega arith, refl, h)

pub any_tail : {X : Type 0} (P : X → Type 0) (x : X) (xs : List X) → Any P xs → Any P (x ∷ xs)
any_tail P x xs h = (suc h.0, h.1, let within : h.0 < length xs = h.2 in omega arith, h.3, h.4)

any_cases_at : {X : Type 0} (P : X → Type 0) (x : X) (xs : List X) (k : ℕ) (y : X) → k < length (x ∷ xs) → get_or (x ∷ xs) k y ≡ y → P y → P x ⊎ Any P xs
any_cases_at P x xs zero y within at h = inl (subst P (sym at) h)
any_cases_at P x xs (suc k) y within at h = inr (k, y, omega arith, at, h)

pub any_cases : {X : Type 0} (P : X → Type 0) (x : X) (xs : List X) → Any P (x ∷ xs) → P x ⊎ Any P xs
any_cases P x xs h = any_cases_at P x xs h.0 h.1 h.2 h.3 h.4

pub none : {X : Type 0} (P : X → Type 0) → Any P [] → ⊥
none P h = let within : h.0 < 0 = h.2 in omega arith

-- ---- branches of atoms

abbrev pub branch : Atom → Atom → Branch
branch p q = record { first = p; second = q }

-- one branch
pub one_branch : (kinds : List Kind) (relation : Relation) (args : List Arg) (terms : List Term) (ps qs : List Term) (P Q : List Value → Type 0) (p q : Atom)
    → variables_in args ≡ filter_map variable_of terms → IsAtomWhere ps P p → IsAtomWhere qs Q q → AreAmong terms ps → AreAmong terms qs
    → ((values : List Value) → HaveValues kinds (filter_map variable_of terms) values → HoldsOf relation args values ↔ (P values × Q values))
    → AreBranchesOf kinds relation args (branch p q ∷ [])
one_branch kinds relation args terms ps qs P Q p q scope first second ps_in qs_in says =
    record {
      meaning = λ values have.
          let h = says values (subst (λ (vs : List VarId). HaveValues kinds vs values) scope have) in (
            λ holds. let both = h.0 holds in any_head (BranchHolds values) (branch p q) [] ((first.meaning values).0 both.0, (second.meaning values).0 both.1),
            λ some. elim (any_cases (BranchHolds values) (branch p q) [] some) [
              | inl b ↦ h.1 ((first.meaning values).1 b.0, (second.meaning values).1 b.1)
              | inr other ↦ absurd (none (BranchHolds values) other)
            ],
          );
      branches = subst (λ (vs : List VarId). All (IsBranchOver kinds vs) (branch p q ∷ [])) (sym scope)
          (All-cons (IsBranchOver kinds (filter_map variable_of terms)) (branch p q) [] (first.over kinds terms ps_in, second.over kinds terms qs_in) (All-nil (IsBranchOver kinds (filter_map variable_of terms))));
    }

-- two branches
pub two_branches : (kinds : List Kind) (relation : Relation) (args : List Arg) (terms : List Term) (ps qs rs ss : List Term) (P Q R S : List Value → Type 0) (p q r s : Atom)
    → variables_in args ≡ filter_map variable_of terms → IsAtomWhere ps P p → IsAtomWhere qs Q q → IsAtomWhere rs R r → IsAtomWhere ss S s
    → AreAmong terms ps → AreAmong terms qs → AreAmong terms rs → AreAmong terms ss
    → ((values : List Value) → HaveValues kinds (filter_map variable_of terms) values → HoldsOf relation args values ↔ ((P values × Q values) ⊎ (R values × S values)))
    → AreBranchesOf kinds relation args (branch p q ∷ branch r s ∷ [])
two_branches kinds relation args terms ps qs rs ss P Q R S p q r s scope first second third fourth ps_in qs_in rs_in ss_in says =
    record {
      meaning = λ values have.
          let h = says values (subst (λ (vs : List VarId). HaveValues kinds vs values) scope have) in (
            λ holds. elim (h.0 holds) [
              | inl both ↦ any_head (BranchHolds values) (branch p q) (branch r s ∷ []) ((first.meaning values).0 both.0, (second.meaning values).0 both.1)
              | inr both ↦ any_tail (BranchHolds values) (branch p q) (branch r s ∷ [])
                  (any_head (BranchHolds values) (branch r s) [] ((third.meaning values).0 both.0, (fourth.meaning values).0 both.1))
            ],
            λ some. elim (any_cases (BranchHolds values) (branch p q) (branch r s ∷ []) some) [
              | inl b ↦ h.1 (inl ((first.meaning values).1 b.0, (second.meaning values).1 b.1))
              | inr later ↦ elim (any_cases (BranchHolds values) (branch r s) [] later) [
                | inl b ↦ h.1 (inr ((third.meaning values).1 b.0, (fourth.meaning values).1 b.1))
                | inr other ↦ absurd (none (BranchHolds values) other)
              ]
            ],
          );
      branches = subst (λ (vs : List VarId). All (IsBranchOver kinds vs) (branch p q ∷ branch r s ∷ [])) (sym scope)
          (All-cons (IsBranchOver kinds (filter_map variable_of terms)) (branch p q) (branch r s ∷ []) (first.over kinds terms ps_in, second.over kinds terms qs_in)
          (All-cons (IsBranchOver kinds (filter_map variable_of terms)) (branch r s) [] (third.over kinds terms rs_in, fourth.over kinds terms ss_in) (All-nil (IsBranchOver kinds (filter_map variable_of terms)))));
    }

pub for_arguments : (relation : Relation) (args read : List Arg) (bs made : List Branch) → args ≡ read → bs ≡ made → AreBranchesFor relation read made → AreBranchesFor relation args bs
for_arguments relation args read bs made args_are bs_are h =
    subst (λ (xs : List Arg). AreBranchesFor relation xs bs) (sym args_are) (subst (λ (xs : List Branch). AreBranchesFor relation read xs) (sym bs_are) h)

pub of_arguments : (kinds : List Kind) (relation : Relation) (args read : List Arg) (bs : List Branch) → args ≡ read
    → (AllZip (HasShape kinds) (shapes_of (row_of relation)) read → AreBranchesOf kinds relation read bs) → AllZip (HasShape kinds) (shapes_of (row_of relation)) args → AreBranchesOf kinds relation args bs
of_arguments kinds relation args read bs is h fits =
    subst (λ (xs : List Arg). AreBranchesOf kinds relation xs bs) (sym is) (h (subst (λ (xs : List Arg). AllZip (HasShape kinds) (shapes_of (row_of relation)) xs) is fits))

pub at_kinds : (kinds : List Kind) (made relation : Relation) (args : List Arg) (r : Result (Vec Branch Global) AllocError) → relation ≡ made → AllZip (HasShape kinds) (shapes_of (row_of relation)) args
    → IfOk r (λ bs. AreBranchesFor made args bs.items) → IfOk r (λ bs. AreBranchesOf kinds relation args bs.items)
at_kinds kinds made relation args r is fits =
    IfOk-weaker r (λ bs. AreBranchesFor made args bs.items) (λ bs. AreBranchesOf kinds relation args bs.items)
    (λ (bs : Vec Branch Global) h. subst (λ (rel : Relation). AreBranchesOf kinds rel args bs.items) (sym is) (h kinds (subst (λ (rel : Relation). AllZip (HasShape kinds) (shapes_of (row_of rel)) args) is fits)))
