-- Readers one after the other, and how many tokens they leave.
use Rattle.std.proofs.Common.{◌≡◌, ◌≢◌, ℕ, ◌<◌, ◌⊎◌, Bool, true, false, cond, List, [], ◌∷◌, length, Result, Ok, Err, sym, refl, ap, ◌∙◌, inl, inr, arith}
use Rattle.std.proofs.lemmas.List.{length-map}
use Rattle.fzn_reader.specs.declared.tokens.Symbol.{Symbol}
use Rattle.fzn_reader.specs.declared.tokens.Symbol.TheVariants as symbols
use Rattle.fzn_parser.specs.declared.faults.What.{What}
use Rattle.fzn_parser.specs.declared.faults.SyntaxFault.{SyntaxFault}
use Rattle.fzn_parser.specs.declared.faults.SyntaxFault.TheVariants as faults
use Rattle.fzn_reader.specs.declared.tokens.Token.{Token}
use Rattle.fzn_parser.specs.Grammar.{Sign, sign_of, signs}
use Rattle.fzn_parser.specs.ToCome.{is_symbol}
use Rattle.fzn_parser.specs.Reading.{◌>>=◌, Reader, Gives, first, goes_on}

-- ---- one reader after another

pub bind_ok : {A B : Type 0} (r : Result A SyntaxFault) (f : A → Result B SyntaxFault) (y : B) → (r >>= f) ≡ Ok y → (x : A) × (r ≡ Ok x) × (f x ≡ Ok y)
bind_ok (Ok x) f y h = (x, refl, h)
bind_ok (Err e) f y h = absurd cc

pub bind_same : {A B : Type 0} (r : Result A SyntaxFault) (f g : A → Result B SyntaxFault) → ((x : A) → r ≡ Ok x → f x ≡ g x) → (r >>= f) ≡ (r >>= g)
bind_same (Ok x) f g same = same x refl
bind_same (Err e) f g same = refl

pub chosen : {A : Type 0} (b : Bool) (x y z : A) → cond b x y ≡ z → ((b ≡ true) × (x ≡ z)) ⊎ ((b ≡ false) × (y ≡ z))
chosen true x y z h = inl (refl, h)
chosen false x y z h = inr (refl, h)

pub ok_is : {A : Type 0} (x y : A) → ◌≡◌ {A = Result A SyntaxFault} (Ok x) (Ok y) → x ≡ y
ok_is x y h = cc

-- ---- how many tokens are left

-- a reader takes a token at least
pub record Shrinks {A : Type 0} (part : Reader A) : Type 0 where
  pub less : (xs : List Sign) (x : A) (ys : List Sign) → part xs ≡ Ok (x, ys) → length ys < length xs

pub first_less : (n : ℕ) (xs : List Sign) (r : Sign × List Sign) → first n xs ≡ Ok r → length r.1 < length xs
unfolding first
first_less n [] r h = absurd cc
first_less n (x ∷ xs) r h = let e = ok_is (x, xs) r h in omega (arith, ap (λ q. length q.1) e)

pub goes_on_less : (n : ℕ) (close : Symbol) (what : What) (xs : List Sign) (q : Bool × List Sign) → goes_on n close what xs ≡ Ok q → length q.1 < length xs
unfolding goes_on
goes_on_less n close what xs q h = ends r.0 r.1 r.2
  where
    r : (x : Sign × List Sign) × (first n xs ≡ Ok x) × (cond (is_symbol close x.0.kind) (Ok (false, x.1)) (cond (is_symbol symbols.Comma x.0.kind) (Ok (true, x.1)) (Err (faults.Expected x.0.at what))) ≡ Ok q)
    r = bind_ok (first n xs) (λ x. cond (is_symbol close x.0.kind) (Ok (false, x.1)) (cond (is_symbol symbols.Comma x.0.kind) (Ok (true, x.1)) (Err (faults.Expected x.0.at what)))) q h

    ends : (x : Sign × List Sign) → first n xs ≡ Ok x → cond (is_symbol close x.0.kind) (Ok (false, x.1)) (cond (is_symbol symbols.Comma x.0.kind) (Ok (true, x.1)) (Err (faults.Expected x.0.at what))) ≡ Ok q → length q.1 < length xs
    ends x there e = elim (chosen (is_symbol close x.0.kind) (Ok (false, x.1)) (cond (is_symbol symbols.Comma x.0.kind) (Ok (true, x.1)) (Err (faults.Expected x.0.at what))) (Ok q) e) [
      | inl a ↦ omega (arith, first_less n xs x there, ap (λ (p : Bool × List Sign). length p.1) (ok_is (false, x.1) q a.1))
      | inr b ↦ elim (chosen (is_symbol symbols.Comma x.0.kind) (Ok (true, x.1)) (Err (faults.Expected x.0.at what)) (Ok q) b.1) [
        | inl c ↦ omega (arith, first_less n xs x there, ap (λ (p : Bool × List Sign). length p.1) (ok_is (true, x.1) q c.1))
        | inr d ↦ absurd (let bad : ◌≡◌ {A = Result (Bool × List Sign) SyntaxFault} (Err (faults.Expected x.0.at what)) (Ok q) = d.1 in cc)
      ]
    ]

-- ---- the exit of a call that failed

pub stopped : {X Y : Type 0} (view : X → Y) (result : Result X SyntaxFault) (read : Result Y SyntaxFault) (e f : SyntaxFault)
    → result ≡ Err f → f ≡ e → (e ≢ faults.Memory → read ≡ Err e) → Gives view result read
stopped view (Ok x) read e f h k stops = absurd cc
stopped view (Err y) read e f h k stops = λ keep. let same : y ≡ e = cc in stops (λ m. keep (same ∙ m)) ∙ ap (λ z. Err z) (sym same)

pub signs_less : (text : List ℕ) (a b : List Token) → length (signs text a) < length (signs text b) → length a < length b
signs_less text a b h = omega (arith, h, length-map a (sign_of text), length-map b (sign_of text))
