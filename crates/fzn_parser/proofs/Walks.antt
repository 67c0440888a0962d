-- How the tokens that are followed end: where, with which tokens before, and what was to come there.
use Rattle.std.proofs.Common.{◌≡◌, ℕ, ◌≤◌, Bool, true, false, cond, List, [], ◌∷◌, ◌++◌, Option, Some, None, sym, refl, ap, ◌∙◌, subst, ltb}
use Rattle.std.proofs.lemmas.Bool.{ltb-false}
use Rattle.std.specs.Prelude.{option_and_then}
use Rattle.fzn_parser.specs.declared.faults.What.{What}
use Rattle.fzn_parser.specs.Grammar.{Sign}
use Rattle.fzn_parser.specs.ToCome.{Part, may_be_missing, after_one, after_all, expected, brackets, brackets_in}
use Rattle.fzn_parser.proofs.Tracks.{Outcome, complete, cut, unexpected, deep, finish, on_next, scan}

-- no more brackets than this are ever open
abbrev pub Low : ℕ → List Part → List Sign → Type 0
Low limit parts xs = (front back : List Sign) → xs ≡ front ++ back → brackets_in (after_all parts front) ≤ limit

pub record Through (limit : ℕ) (parts : List Part) (xs : List Sign) (o : Outcome) : Type 0 where
  pub rest : List Part
  pub is : after_all parts xs ≡ Some rest
  pub end : finish rest ≡ o
  pub low : Low limit parts xs

pub record Stuck (limit : ℕ) (parts : List Part) (xs : List Sign) (at : ℕ) (what : What) : Type 0 where
  pub before : List Sign
  pub x : Sign
  pub behind : List Sign
  pub rest : List Part
  pub split : xs ≡ before ++ x ∷ behind
  pub place : at ≡ x.at
  pub is : after_all parts before ≡ Some rest
  pub none : after_one rest x.kind ≡ None
  pub named : what ≡ expected rest
  pub low : Low limit parts before

pub record Deep (limit : ℕ) (parts : List Part) (xs : List Sign) (at : ℕ) : Type 0 where
  pub before : List Sign
  pub x : Sign
  pub behind : List Sign
  pub rest : List Part
  pub next : List Part
  pub split : xs ≡ before ++ x ∷ behind
  pub place : at ≡ x.at
  pub is : after_all parts before ≡ Some rest
  pub one : after_one rest x.kind ≡ Some next
  pub high : ltb limit (brackets next) ≡ true
  pub low : Low limit parts before

abbrev pub Walked : ℕ → List Part → List Sign → Outcome → Type 0
Walked limit parts xs complete = Through limit parts xs complete
Walked limit parts xs cut = Through limit parts xs cut
Walked limit parts xs (unexpected at what) = Stuck limit parts xs at what
Walked limit parts xs (deep at) = Deep limit parts xs at

finish_ends : (parts : List Part) (at : ℕ) (what : What) → finish parts ≡ unexpected at what → ⊥
finish_ends [] at what h = cc
finish_ends (p ∷ rest) at what h = by_missing (may_be_missing p) h (finish_ends rest at what)
  where
    by_missing : (b : Bool) → cond b (finish rest) cut ≡ unexpected at what → (finish rest ≡ unexpected at what → ⊥) → ⊥
    by_missing true k go = go k
    by_missing false k go = cc

finish_shallow : (parts : List Part) (at : ℕ) → finish parts ≡ deep at → ⊥
finish_shallow [] at h = cc
finish_shallow (p ∷ rest) at h = by_missing (may_be_missing p) h (finish_shallow rest at)
  where
    by_missing : (b : Bool) → cond b (finish rest) cut ≡ deep at → (finish rest ≡ deep at → ⊥) → ⊥
    by_missing true k go = go k
    by_missing false k go = cc

low_none : (limit : ℕ) (parts : List Part) → brackets parts ≤ limit → Low limit parts []
low_none limit parts l [] back e = l
low_none limit parts l (y ∷ ys) back e = absurd (cc)

low_one : (limit : ℕ) (parts : List Part) (x : Sign) (xs : List Sign) (rest : List Part) → brackets parts ≤ limit → after_one parts x.kind ≡ Some rest → Low limit rest xs → Low limit parts (x ∷ xs)
low_one limit parts x xs rest l is low [] back e = l
low_one limit parts x xs rest l is low (y ∷ ys) back e =
    let same : x ≡ y = cc in let tails : xs ≡ ys ++ back = cc in
    subst (λ o. brackets_in (option_and_then (λ r. after_all r ys) o) ≤ limit) (sym (sym (ap (λ (z : Sign). after_one parts z.kind) same) ∙ is)) (low ys back tails)

onto : (parts : List Part) (x : Sign) (xs : List Sign) (rest : List Part) (o : Option (List Part)) → after_one parts x.kind ≡ Some rest → after_all rest xs ≡ o → after_all parts (x ∷ xs) ≡ o
onto parts x xs rest o is h = ap (λ q. option_and_then (λ r. after_all r xs) q) is ∙ h

extend : (limit : ℕ) (parts : List Part) (x : Sign) (xs : List Sign) (rest : List Part) (o : Outcome) → brackets parts ≤ limit → after_one parts x.kind ≡ Some rest → Walked limit rest xs o → Walked limit parts (x ∷ xs) o
extend limit parts x xs rest complete l is w = record { rest = w.rest; is = onto parts x xs rest (Some w.rest) is w.is; end = w.end; low = low_one limit parts x xs rest l is w.low }
extend limit parts x xs rest cut l is w = record { rest = w.rest; is = onto parts x xs rest (Some w.rest) is w.is; end = w.end; low = low_one limit parts x xs rest l is w.low }
extend limit parts x xs rest (unexpected at what) l is w = record {
  before = x ∷ w.before;
  x = w.x;
  behind = w.behind;
  rest = w.rest;
  split = ap (λ zs. x ∷ zs) w.split;
  place = w.place;
  is = onto parts x w.before rest (Some w.rest) is w.is;
  none = w.none;
  named = w.named;
  low = low_one limit parts x w.before rest l is w.low;
}
extend limit parts x xs rest (deep at) l is w = record {
  before = x ∷ w.before;
  x = w.x;
  behind = w.behind;
  rest = w.rest;
  next = w.next;
  split = ap (λ zs. x ∷ zs) w.split;
  place = w.place;
  is = onto parts x w.before rest (Some w.rest) is w.is;
  one = w.one;
  high = w.high;
  low = low_one limit parts x w.before rest l is w.low;
}

at_last : (limit : ℕ) (parts : List Part) (o : Outcome) → brackets parts ≤ limit → finish parts ≡ o → Walked limit parts [] o
at_last limit parts complete l e = record { rest = parts; is = refl; end = e; low = low_none limit parts l }
at_last limit parts cut l e = record { rest = parts; is = refl; end = e; low = low_none limit parts l }
at_last limit parts (unexpected at what) l e = absurd (finish_ends parts at what e)
at_last limit parts (deep at) l e = absurd (finish_shallow parts at e)

choose : (limit : ℕ) (parts : List Part) (x : Sign) (xs : List Sign) (rest : List Part) (b : Bool) → brackets parts ≤ limit → after_one parts x.kind ≡ Some rest → ltb limit (brackets rest) ≡ b
    → (brackets rest ≤ limit → Walked limit rest xs (scan limit rest xs)) → Walked limit parts (x ∷ xs) (cond b (deep x.at) (scan limit rest xs))
choose limit parts x xs rest true l is e go = record {
  before = [];
  x = x;
  behind = xs;
  rest = parts;
  next = rest;
  split = refl;
  place = refl;
  is = refl;
  one = is;
  high = e;
  low = low_none limit parts l;
}
choose limit parts x xs rest false l is e go = extend limit parts x xs rest (scan limit rest xs) l is (go (ltb-false limit (brackets rest) e))

step : (limit : ℕ) (parts : List Part) (x : Sign) (xs : List Sign) (o : Option (List Part)) → brackets parts ≤ limit → after_one parts x.kind ≡ o
    → ((rest : List Part) → brackets rest ≤ limit → Walked limit rest xs (scan limit rest xs)) → Walked limit parts (x ∷ xs) (on_next (λ rest. scan limit rest xs) limit x.at parts o)
step limit parts x xs None l is go = record { before = []; x = x; behind = xs; rest = parts; split = refl; place = refl; is = refl; none = is; named = refl; low = low_none limit parts l }
step limit parts x xs (Some rest) l is go = choose limit parts x xs rest (ltb limit (brackets rest)) l is refl (go rest)

pub walk : (limit : ℕ) (parts : List Part) (xs : List Sign) → brackets parts ≤ limit → Walked limit parts xs (scan limit parts xs)
walk limit parts [] l = at_last limit parts (finish parts) l refl
walk limit parts (x ∷ xs) l = step limit parts x xs (after_one parts x.kind) l refl (λ rest k. walk limit rest xs k)
