-- The variables of arguments and of what is made of them.
use Rattle.std.proofs.Common.{◌≡◌, ℕ, ◌<◌, Bool, true, List, [], ◌∷◌, ◌++◌, map, length, Option, Some, None, refl, sym, ap, ◌∙◌, subst, inl, inr, Contains}
use Rattle.std.specs.Prelude.{slice_get, IsSomeAnd, option_map, filter_map, ⊤}
use Rattle.std.specs.List.{All, AllZip, flat_map}
use Rattle.std.proofs.lemmas.Option.{slice_get_within}
use Rattle.std.proofs.lemmas.List.Elements.{All-cons, All-head, All-tail, All-nil, All-append, All-map, All-contains, All-weaker, Contains-append_left, Contains-append_right, Contains-append_cases}
use Rattle.set_meaning.specs.declared.kinds.Kind.{Kind}
use Rattle.set_meaning.specs.declared.kinds.Value.{Value}
use Rattle.set_meaning.specs.declared.problems.VarId.{VarId}
use Rattle.set_meaning.specs.declared.problems.Term.{Term}
use Rattle.set_meaning.specs.declared.problems.Term.TheVariants.{Const, Var}
use Rattle.set_meaning.specs.declared.problems.Arg.{Arg}
use Rattle.set_meaning.specs.declared.problems.Arg.TheVariants.{One, Many}
use Rattle.set_meaning.specs.declared.rows.Sort.{Sort}
use Rattle.set_meaning.specs.declared.rows.Shape.{Shape}
use Rattle.set_meaning.specs.declared.rows.Shape.TheVariants.{OneOf, ManyOf, ConstantOf, ConstantsOf}
use Rattle.set_meaning.specs.Kinds.{InKind}
use Rattle.set_meaning.specs.Rows.{HasSort, HasShape, IsConstantOf, sort_of_kind}
use Rattle.set_meaning.specs.Relations.{terms_of, variable_of}
use Rattle.diagram_arena.specs.Table.{Word}
use Rattle.bit_layout.specs.Words.{IsValueOf}
use Rattle.bit_layout.specs.Order.{LayoutState, IsLayout, IsValueAt, width_at}
use Rattle.bit_layout.proofs.Rising.{in_head}
use Rattle.scope_words.specs.Words.{read, Gives, variables_in, AreBitsOf}
use Rattle.scope_words.proofs.Bits.{bit_is_of}
use Rattle.linear_terms.specs.declared.terms.LinearTerm.{LinearTerm}
use Rattle.linear_terms.specs.Terms.{HasBitsOf}
use Rattle.int_channel.specs.declared.forms.LinearSum.{LinearSum}
use Rattle.int_channel.specs.declared.forms.Atom.{Atom}
use Rattle.int_channel.specs.declared.forms.Atom.TheVariants.{Sum, Member}
use Rattle.int_channel.specs.declared.forms.Branch.{Branch}
use Rattle.int_channel.specs.Forms.{IsSmallSum, IsAtomOver, IsBranchOver, HaveValues, IsInitialValue}
use Rattle.int_channel.specs.Machines.{IsReadBy, IsBranchReadBy, variables_of_atom, variables_of_branch}

-- ---- the variables of arguments are known

-- the term's variable, where it is one, is one of the problem's
abbrev IsKnown : List Kind → Term → Type 0
IsKnown kinds (Const v) = ⊤
IsKnown kinds (Var x) = x.0 < length kinds

sort_known : (kinds : List Kind) (sort : Sort) (t : Term) → HasSort kinds sort t → IsKnown kinds t
sort_known kinds sort (Const v) h = tt
sort_known kinds sort (Var x) h =
    elim (slice_get kinds x.0) as (λ o. slice_get kinds x.0 ≡ o → option_map sort_of_kind o ≡ Some sort → x.0 < length kinds) [
      | None ↦ λ e h. absurd (let f : None ≡ Some sort = h in cc)
      | Some k ↦ λ e h. slice_get_within kinds x.0 k e
    ] refl h

constant_known : (kinds : List Kind) (sort : Sort) (t : Term) → IsConstantOf sort t → IsKnown kinds t
constant_known kinds sort (Const v) h = tt
constant_known kinds sort (Var x) h = absurd h

arg_known : (kinds : List Kind) (shape : Shape) (a : Arg) → HasShape kinds shape a → All (IsKnown kinds) (terms_of a)
arg_known kinds (OneOf sort) (One t) h = All-cons (IsKnown kinds) t [] (sort_known kinds sort t h) (All-nil (IsKnown kinds))
arg_known kinds (ManyOf sort) (Many ts) h = All-weaker (HasSort kinds sort) (IsKnown kinds) (sort_known kinds sort) ts h
arg_known kinds (ConstantOf sort) (One t) h = All-cons (IsKnown kinds) t [] (constant_known kinds sort t h) (All-nil (IsKnown kinds))
arg_known kinds (ConstantsOf sort) (Many ts) h = All-weaker (IsConstantOf sort) (IsKnown kinds) (constant_known kinds sort) ts h
arg_known kinds (OneOf sort) (Many ts) h = absurd h
arg_known kinds (ManyOf sort) (One t) h = absurd h
arg_known kinds (ConstantOf sort) (Many ts) h = absurd h
arg_known kinds (ConstantsOf sort) (One t) h = absurd h

args_known : (kinds : List Kind) (shapes : List Shape) (args : List Arg) → AllZip (HasShape kinds) shapes args → All (IsKnown kinds) (flat_map terms_of args)
args_known kinds [] [] h = All-nil (IsKnown kinds)
args_known kinds [] (a ∷ args) h = absurd h
args_known kinds (shape ∷ shapes) [] h = absurd h
args_known kinds (shape ∷ shapes) (a ∷ args) h = All-append (IsKnown kinds) (terms_of a) (flat_map terms_of args) (arg_known kinds shape a h.0) (args_known kinds shapes args h.1)

variables_known : (kinds : List Kind) (ts : List Term) → All (IsKnown kinds) ts → All (λ (v : VarId). v.0 < length kinds) (filter_map variable_of ts)
variables_known kinds [] h = All-nil (λ (v : VarId). v.0 < length kinds)
variables_known kinds (Const v ∷ ts) h = variables_known kinds ts (All-tail (IsKnown kinds) (Const v) ts h)
variables_known kinds (Var x ∷ ts) h =
    All-cons (λ (v : VarId). v.0 < length kinds) x (filter_map variable_of ts) (All-head (IsKnown kinds) (Var x) ts h) (variables_known kinds ts (All-tail (IsKnown kinds) (Var x) ts h))

pub scope_known : (kinds : List Kind) (shapes : List Shape) (args : List Arg) → AllZip (HasShape kinds) shapes args → All (λ (v : VarId). v.0 < length kinds) (variables_in args)
scope_known kinds shapes args h = variables_known kinds (flat_map terms_of args) (args_known kinds shapes args h)

-- ---- what is made of them is read by the bits of the scope

pub terms_known : (kinds : List Kind) (scope : List VarId) (terms : List LinearTerm) → All (λ (v : VarId). v.0 < length kinds) scope → All (λ (t : LinearTerm). Contains scope t.variable) terms → All (λ (t : LinearTerm). t.variable.0 < length kinds) terms
terms_known kinds scope terms known over =
    let P : VarId → Type 0 = λ v. v.0 < length kinds in
    All-weaker (λ (t : LinearTerm). Contains scope t.variable) (λ (t : LinearTerm). t.variable.0 < length kinds) (λ t h. All-contains P scope t.variable known h) terms over

has_bits : (l : LayoutState) (scope : List VarId) (bits : List ℕ) (v : VarId) → IsLayout l → AreBitsOf l scope bits → Contains scope v → HasBitsOf l bits v
has_bits l scope bits v ok are over i within = (are.members _).1 (bit_is_of l scope v i ok over within)

pub terms_listed : (l : LayoutState) (scope : List VarId) (bits : List ℕ) (terms : List LinearTerm) → IsLayout l → AreBitsOf l scope bits → All (λ (t : LinearTerm). Contains scope t.variable) terms → All (λ (t : LinearTerm). HasBitsOf l bits t.variable) terms
terms_listed l scope bits terms ok are over =
    All-weaker (λ (t : LinearTerm). Contains scope t.variable) (λ (t : LinearTerm). HasBitsOf l bits t.variable) (λ t h. has_bits l scope bits t.variable ok are h) terms over

atom_read : (l : LayoutState) (scope : List VarId) (bits : List ℕ) (a : Atom) → IsLayout l → AreBitsOf l scope bits → All (λ (v : VarId). v.0 < length l.kinds) scope → IsAtomOver l.kinds scope a → IsReadBy l bits a
atom_read l scope bits (Sum s) ok are known h = (terms_known l.kinds scope s.terms known h.0, terms_listed l scope bits s.terms ok are h.0, h.1)
atom_read l scope bits (Member v e) ok are known h = (has_bits l scope bits v ok are h.0, h.1)

pub branches_read : (l : LayoutState) (scope : List VarId) (bits : List ℕ) (branches : List Branch) → IsLayout l → AreBitsOf l scope bits → All (λ (v : VarId). v.0 < length l.kinds) scope → All (IsBranchOver l.kinds scope) branches → All (IsBranchReadBy l bits) branches
branches_read l scope bits branches ok are known over =
    All-weaker (IsBranchOver l.kinds scope) (IsBranchReadBy l bits) (λ b h. (atom_read l scope bits b.first ok are known h.0, atom_read l scope bits b.second ok are known h.1)) branches over

-- ---- values of the scope are values of what is made

pub gives_terms : (l : LayoutState) (scope : List VarId) (terms : List LinearTerm) (values : List Value) (w : Word) → All (λ (t : LinearTerm). Contains scope t.variable) terms → Gives l scope values w → Gives l (map (λ t. t.variable) terms) values w
gives_terms l scope terms values w over gives v m =
    gives v (All-contains (Contains scope) (map (λ (t : LinearTerm). t.variable) terms) v (All-map (Contains scope) (λ (t : LinearTerm). t.variable) terms over) m)

gives_atom : (l : LayoutState) (kinds : List Kind) (scope : List VarId) (a : Atom) (values : List Value) (w : Word) → IsAtomOver kinds scope a → Gives l scope values w → Gives l (variables_of_atom a) values w
gives_atom l kinds scope (Sum s) values w over gives u m = gives_terms l scope s.terms values w over.0 gives u m
gives_atom l kinds scope (Member v e) values w over gives u m = gives u (All-contains (Contains scope) (v ∷ []) u (All-cons (Contains scope) v [] over.0 (All-nil (Contains scope))) m)

pub gives_branch : (l : LayoutState) (kinds : List Kind) (scope : List VarId) (b : Branch) (values : List Value) (w : Word) → IsBranchOver kinds scope b → Gives l scope values w → Gives l (variables_of_branch b) values w
gives_branch l kinds scope b values w over gives v m =
    elim (Contains-append_cases (variables_of_atom b.first) (variables_of_atom b.second) v m) [
      | inl first ↦ gives_atom l kinds scope b.first values w over.0 gives v first
      | inr second ↦ gives_atom l kinds scope b.second values w over.1 gives v second
    ]

-- what a word gives are values of the variables' kinds
kind_in : (o : Option Kind) (word : List Bool) (x : Value) → IsSomeAnd o (λ k. IsValueOf k word x) → IsSomeAnd o (λ k. InKind k x)
kind_in None word x h = absurd h
kind_in (Some k) word x h = h.in_kind

value_in : (l : LayoutState) (v : VarId) (word : List Bool) (o : Option Value) → IsSomeAnd o (IsValueAt l v word) → IsSomeAnd o (IsInitialValue l.kinds v)
value_in l v word None h = absurd h
value_in l v word (Some x) h = kind_in (slice_get l.kinds v.0) word x h

pub have_values : (l : LayoutState) (scope : List VarId) (values : List Value) (w : Word) → Gives l scope values w → HaveValues l.kinds scope values
have_values l scope values w gives v m = value_in l v (read l v w) (slice_get values v.0) (gives v m)
