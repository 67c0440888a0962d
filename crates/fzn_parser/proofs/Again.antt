-- What is spelled so is read again, and what follows it is left.
use Rattle.std.proofs.Common.{◌≡◌, ℕ, zero, suc, ◌<◌, ◌≤◌, true, false, cond, List, [], ◌∷◌, ◌++◌, length, Some, None, Result, Ok, Err, sym, refl, ap, ◌∙◌, subst, append_assoc, arith}
use Rattle.std.specs.List.{flat_map}
use Rattle.std.proofs.lemmas.Bool.{cond-true, cond-false}
use Rattle.fzn_reader.specs.declared.tokens.TokenKind.{TokenKind}
use Rattle.fzn_reader.specs.declared.tokens.TokenKind.TheVariants as kinds
use Rattle.fzn_reader.specs.declared.tokens.Symbol.{Symbol}
use Rattle.fzn_reader.specs.declared.tokens.Symbol.TheVariants as symbols
use Rattle.fzn_parser.specs.declared.faults.What.{What}
use Rattle.fzn_parser.specs.declared.faults.SyntaxFault.{SyntaxFault}
use Rattle.fzn_parser.specs.declared.faults.SyntaxFault.TheVariants as faults
use Rattle.fzn_parser.specs.declared.tree.Num.TheVariants as nums
use Rattle.fzn_parser.specs.declared.tree.Number.{Number}
use Rattle.fzn_parser.specs.declared.tree.Ident.{Ident}
use Rattle.fzn_parser.specs.Grammar as spell
use Rattle.fzn_parser.specs.Grammar.{Sign, Pattern, token, named, placed, Match, Fits, closed}
use Rattle.fzn_parser.specs.ToCome.{same_kind, is_symbol}
use Rattle.fzn_parser.specs.Reading.{◌>>=◌, Reader, first, after, number_by, number, ident_by, ident, behind, after_if, goes_on, one_more, more_in, more, from_first, a_list}
use Rattle.fzn_parser.proofs.Leaves.{Keeps, Leaves}
use Rattle.fzn_parser.proofs.Completions.{same_kind-refl}

-- this was read, and the tokens that are left fit these patterns
pub record Again {A : Type 0} (r : Result (A × List Sign) SyntaxFault) (x : A) (qs : List Pattern) : Type 0 where
  pub ys : List Sign
  pub read : r ≡ Ok (x, ys)
  pub fits : Match qs ys

pub again_bind : {A B : Type 0} (r : Result (A × List Sign) SyntaxFault) (f : A × List Sign → Result (B × List Sign) SyntaxFault) (x : A) (b : B) (ps qs : List Pattern)
    → Again r x ps → ((ys : List Sign) → r ≡ Ok (x, ys) → Match ps ys → Again (f (x, ys)) b qs) → Again (r >>= f) b qs
again_bind r f x b ps qs h g =
    let next : Again (f (x, h.ys)) b qs = g h.ys h.read h.fits in
    record { ys = next.ys; read = ap (λ q. q >>= f) h.read ∙ next.read; fits = next.fits }

-- a token of this kind, whose place may be told
pub kind_again : (n : ℕ) (kind : TokenKind) (what : What) (x : Sign) (xs : List Sign) (qs : List Pattern) → x.kind ≡ kind → Match qs xs → Again (after n kind what (x ∷ xs)) x.at qs
unfolding after first
kind_again n kind what x xs qs is m = record {
  ys = xs;
  read = cond-true (same_kind kind x.kind) (Ok (x.at, xs)) (Err (faults.Expected x.at what)) (ap (same_kind kind) is ∙ same_kind-refl kind);
  fits = m;
}

number_read : (v : Number) (x : Sign) → Fits (placed v.at (spell.num v.num)) x → number_by x.kind x.at ≡ Ok v
number_read v x fits = by_num v.at v.num fits
  where
    by_num : (at : ℕ) (num : nums.the_data) → Fits (placed at (spell.num num)) x → number_by x.kind x.at ≡ (let w : Number = record { at = at; num = num } in Ok w)
    by_num at (nums.Int z) f = ap (λ k. number_by k x.at) f.1 ∙ ap (λ p. let w : Number = record { at = p; num = nums.Int z } in Ok w) f.0
    by_num at nums.Large f = ap (λ k. number_by k x.at) f.1 ∙ ap (λ p. let w : Number = record { at = p; num = nums.Large } in Ok w) f.0
    by_num at nums.Float f = ap (λ k. number_by k x.at) f.1 ∙ ap (λ p. let w : Number = record { at = p; num = nums.Float } in Ok w) f.0

pub number_again : (n : ℕ) (v : Number) (qs : List Pattern) (xs : List Sign) → Match (spell.number v ++ qs) xs → Again (number n xs) v qs
unfolding number first
number_again n v qs [] m = absurd m
number_again n v qs (x ∷ xs) m = record { ys = xs; read = ap (λ (r : Result Number SyntaxFault). r >>= (λ w. Ok (w, xs))) (number_read v x m.0); fits = m.1 }

pub ident_again : (n : ℕ) (what : What) (v : Ident) (qs : List Pattern) (xs : List Sign) → Match (spell.ident v ++ qs) xs → Again (ident n what xs) v qs
unfolding ident first
ident_again n what v qs [] m = absurd m
ident_again n what v qs (x ∷ xs) m = record {
  ys = xs;
  read = ap (λ (r : Result Ident SyntaxFault). r >>= (λ w. Ok (w, xs)))
      (ap (λ k. ident_by what k x.at x.bytes) m.0.1.0 ∙ (ap (λ p. let w : Ident = record { at = p; name = x.bytes } in Ok w) m.0.0 ∙ ap (λ b. let w : Ident = record { at = v.at; name = b } in Ok w) m.0.1.1));
  fits = m.1;
}

-- ---- what may be missing

-- no tokens that fit these patterns begin with this symbol
abbrev pub Avoids : Symbol → List Pattern → Type 0
Avoids s qs = (y : Sign) (ys : List Sign) → Match qs (y ∷ ys) → is_symbol s y.kind ≡ false

pub behind_none : {A : Type 0} (s : Symbol) (part : ℕ → Reader A) (qs : List Pattern) (xs : List Sign) → Avoids s qs → Match qs xs → Again (behind part xs (after_if s xs)) None qs
unfolding after_if
behind_none s part qs [] avoids m = record { ys = []; read = refl; fits = m }
behind_none s part qs (x ∷ xs) avoids m = record { ys = x ∷ xs; read = ap (behind part (x ∷ xs)) (cond-false (is_symbol s x.kind) (Some (x.at, xs)) None (avoids x xs m)); fits = m }

pub behind_some : {A : Type 0} (s : Symbol) (part : ℕ → Reader A) (v : A) (ps qs : List Pattern) (xs : List Sign) → ((at : ℕ) (ys : List Sign) → length ys < length xs → Match (ps ++ qs) ys → Again (part at ys) v qs)
    → Match (spell.symbol s ∷ (ps ++ qs)) xs → Again (behind part xs (after_if s xs)) (Some v) qs
unfolding after_if
behind_some s part v ps qs [] again m = absurd m
behind_some s part v ps qs (x ∷ xs) again m =
    let r = again x.at xs (omega arith) m.1 in
    let here : is_symbol s x.kind ≡ true = ap (is_symbol s) m.0 ∙ same_kind-refl (kinds.Symbol s) in
    record {
      ys = r.ys;
      read = ap (behind part (x ∷ xs)) (cond-true (is_symbol s x.kind) (Some (x.at, xs)) None here) ∙ ap (λ q. q >>= (λ r. Ok (Some r.0, r.1))) r.read;
      fits = r.fits;
    }

-- ---- lists

module _ {A : Type 0} (n : ℕ) (read : Reader A) (close : Symbol) (what : What) (spelled : A → List Pattern) (keeps : Keeps read) (bound : ℕ) (Follow : List Pattern → Type 0)
    (again : (v : A) (qs : List Pattern) (xs : List Sign) → length xs ≤ bound → Follow qs → Match (spelled v ++ qs) xs → Again (read xs) v qs)
    (apart : is_symbol close (kinds.Symbol symbols.Comma) ≡ false)
    (follow : (ys : List A) (qs : List Pattern) → Follow ((flat_map (λ y. spell.symbol symbols.Comma ∷ spelled y) ys ++ spell.symbol close ∷ []) ++ qs)) where
  abbrev further : List A → List Pattern
  further ys = flat_map (λ y. spell.symbol symbols.Comma ∷ spelled y) ys ++ spell.symbol close ∷ []

  ends : (x : Sign) (xs : List Sign) → x.kind ≡ kinds.Symbol close → goes_on n close what (x ∷ xs) ≡ Ok (false, xs)
  unfolding goes_on first
  ends x xs is =
      cond-true (is_symbol close x.kind) (Ok (false, xs)) (cond (is_symbol symbols.Comma x.kind) (Ok (true, xs)) (Err (faults.Expected x.at what))) (ap (is_symbol close) is ∙ same_kind-refl (kinds.Symbol close))

  onward : (x : Sign) (xs : List Sign) → x.kind ≡ kinds.Symbol symbols.Comma → goes_on n close what (x ∷ xs) ≡ Ok (true, xs)
  unfolding goes_on first
  onward x xs is =
      cond-false (is_symbol close x.kind) (Ok (false, xs)) (cond (is_symbol symbols.Comma x.kind) (Ok (true, xs)) (Err (faults.Expected x.at what))) (ap (is_symbol close) is ∙ apart)
      ∙ cond-true (is_symbol symbols.Comma x.kind) (Ok (true, xs)) (Err (faults.Expected x.at what)) (ap (is_symbol symbols.Comma) is)

  kept : (k : ℕ) (xs : List Sign) (q : A × List Sign) → read xs ≡ Ok q → length xs ≤ k → length q.1 ≤ k
  kept k xs q h l = subst (Leaves k) h (keeps k xs l)

  regroup : (y : A) (ys : List A) (qs : List Pattern) → ((spelled y ++ flat_map (λ y. spell.symbol symbols.Comma ∷ spelled y) ys) ++ spell.symbol close ∷ []) ++ qs ≡ spelled y ++ (further ys ++ qs)
  regroup y ys qs =
      ap (λ ps. ps ++ qs) (append_assoc (spelled y) (flat_map (λ y. spell.symbol symbols.Comma ∷ spelled y) ys) (spell.symbol close ∷ [])) ∙ append_assoc (spelled y) (further ys) qs

  more_again : (ys : List A) (turns : ℕ) (xs : List Sign) (qs : List Pattern) → length xs ≤ turns → length xs ≤ bound → Match (further ys ++ qs) xs → Again (more_in n read close what turns xs) ys qs
  unfolding more_in
  more_again [] turns [] qs l b m = absurd m
  more_again [] zero (x ∷ xs) qs l b m = absurd (omega arith)
  more_again [] (suc turns) (x ∷ xs) qs l b m = record { ys = xs; read = ap (λ q. q >>= one_more read (more_in n read close what turns)) (ends x xs m.0); fits = m.1 }
  more_again (y ∷ ys) turns [] qs l b m = absurd m
  more_again (y ∷ ys) zero (x ∷ xs) qs l b m = absurd (omega arith)
  more_again (y ∷ ys) (suc turns) (x ∷ xs) qs l b m =
      let one = again y (further ys ++ qs) xs (omega arith) (follow ys qs) (subst (λ ps. Match ps xs) (regroup y ys qs) m.1) in
      let rest = more_again ys turns one.ys qs (kept turns xs (y, one.ys) one.read (omega arith)) (kept bound xs (y, one.ys) one.read (omega arith)) one.fits in
      record {
        ys = rest.ys;
        read = ap (λ q. q >>= one_more read (more_in n read close what turns)) (onward x xs m.0)
            ∙ (ap (λ q. q >>= (λ z. more_in n read close what turns z.1 >>= (λ r. Ok (z.0 ∷ r.0, r.1)))) one.read ∙ ap (λ q. q >>= (λ r. Ok (y ∷ r.0, r.1))) rest.read);
        fits = rest.fits;
      }

  first_again : (y : A) (ys : List A) (xs : List Sign) (qs : List Pattern) → length xs ≤ bound → Match (closed spelled (y ∷ ys) close ++ qs) xs → Again (from_first n read close what xs) (y ∷ ys) qs
  unfolding from_first more
  first_again y ys xs qs b m =
      let one = again y (further ys ++ qs) xs b (follow ys qs) (subst (λ ps. Match ps xs) (regroup y ys qs) m) in
      let rest = more_again ys (length one.ys) one.ys qs (omega arith) (kept bound xs (y, one.ys) one.read b) one.fits in
      record {
        ys = rest.ys;
        read = ap (λ q. q >>= (λ z. more n read close what z.1 >>= (λ r. Ok (z.0 ∷ r.0, r.1)))) one.read ∙ ap (λ q. q >>= (λ r. Ok (y ∷ r.0, r.1))) rest.read;
        fits = rest.fits;
      }

  -- a list is read again whose parts do not begin with its closing bracket
  pub list_again : (ys : List A) (xs : List Sign) (qs : List Pattern) → length xs ≤ bound → ((y : A) (ps : List Pattern) (zs : List Sign) → Match (spelled y ++ ps) zs → (x : Sign) × (rest : List Sign) × (zs ≡ x ∷ rest) × (is_symbol close x.kind ≡ false))
      → Match (closed spelled ys close ++ qs) xs → Again (a_list n read close what xs) ys qs
  unfolding a_list first
  list_again [] [] qs l begins m = absurd m
  list_again [] (x ∷ xs) qs l begins m = record {
    ys = xs;
    read = cond-true (is_symbol close x.kind) (Ok ([], xs)) (from_first n read close what (x ∷ xs)) (ap (is_symbol close) m.0 ∙ same_kind-refl (kinds.Symbol close));
    fits = m.1;
  }
  list_again (y ∷ ys) xs qs l begins m = begun (begins y (further ys ++ qs) xs (subst (λ ps. Match ps xs) (regroup y ys qs) m))
    where
      begun : ((x : Sign) × (rest : List Sign) × (xs ≡ x ∷ rest) × (is_symbol close x.kind ≡ false)) → Again (a_list n read close what xs) (y ∷ ys) qs
      begun b =
          let it = first_again y ys xs qs l m in
          record {
            ys = it.ys;
            read = ap (a_list n read close what) b.2
                ∙ (cond-false (is_symbol close b.0.kind) (Ok ([], b.1)) (from_first n read close what (b.0 ∷ b.1)) b.3 ∙ (ap (from_first n read close what) (sym b.2) ∙ it.read));
            fits = it.fits;
          }
