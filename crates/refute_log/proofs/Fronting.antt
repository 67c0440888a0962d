-- Bytes that are appended to a log in parts, and fronts of them.
use Rattle.std.proofs.Common.{◌≡◌, ℕ, ◌+◌, ◌<◌, zero, suc, List, [], ◌∷◌, ◌++◌, length, take, Option, Some, None, Ok, Err, refl, sym, ap, ◌∙◌, arith}
use Rattle.std.specs.Prelude.{Result, OnErr}
use Rattle.std.specs.Option.{option_map}
use Rattle.std.proofs.lemmas.List.{append_assoc, length-append}
use Rattle.desk.specs.State.{State, written}
use Rattle.desk.specs.Texts.{WritesFront}
use Rattle.desk.specs.declared.outside.To.TheVariants as to

take_second : (a b : List ℕ) (n : ℕ) → take (length a + n) (a ++ b) ≡ a ++ take n b
take_second [] b n = ap (λ k. take k b) (let e : 0 + n ≡ n = omega arith in e)
take_second (x ∷ a) b n = ap (λ k. take k (x ∷ (a ++ b))) (let e : suc (length a) + n ≡ suc (length a + n) = omega arith in e) ∙ ap (λ xs. x ∷ xs) (take_second a b n)

take_first : (a b : List ℕ) (n : ℕ) → n < length a → take n (a ++ b) ≡ take n a
take_first [] b n within = absurd (omega (arith, within))
take_first (x ∷ a) b zero within = refl
take_first (x ∷ a) b (suc n) within = ap (λ xs. x ∷ xs) (take_first a b n (omega (arith, within)))

written_then : (a b : List ℕ) (s : State) → written to.Log b (written to.Log a s) ≡ written to.Log (a ++ b) s
written_then a b s = λ i. record s { log = record { begun = s.log.begun; logged = counts i; text = texts s.log.text i } }
  where
    counts : s.log.logged + length a + length b ≡ s.log.logged + length (a ++ b)
    counts = let long = length-append a b in omega (arith, long)

    texts : (o : Option (List ℕ)) → option_map (λ xs. xs ++ b) (option_map (λ xs. xs ++ a) o) ≡ option_map (λ xs. xs ++ (a ++ b)) o
    texts None = refl
    texts (Some xs) = ap Some (append_assoc xs a b)

pub written_second : (s t u : State) (a b : List ℕ) → t ≡ written to.Log a s → u ≡ written to.Log b t → u ≡ written to.Log (a ++ b) s
written_second s t u a b first second = second ∙ ap (λ x. written to.Log b x) first ∙ written_then a b s

pub front_first : (s u : State) (a b : List ℕ) → WritesFront to.Log a s u → WritesFront to.Log (a ++ b) s u
front_first s u a b front =
    let long = length-append a b in
    let within : front.0 < length a = front.1 in
    (front.0, (let e : front.0 < length (a ++ b) = omega arith in e), front.2 ∙ ap (λ xs. written to.Log xs s) (sym (take_first a b front.0 within)))

pub front_second : (s t u : State) (a b : List ℕ) → t ≡ written to.Log a s → WritesFront to.Log b t u → WritesFront to.Log (a ++ b) s u
front_second s t u a b first front =
    let long = length-append a b in
    let within : front.0 < length b = front.1 in (
      length a + front.0,
      (let e : length a + front.0 < length (a ++ b) = omega arith in e),
      front.2 ∙ ap (λ x. written to.Log (take front.0 b) x) first ∙ written_then a (take front.0 b) s ∙ ap (λ xs. written to.Log xs s) (sym (take_second a b front.0)),
    )

pub on_err : {T E : Type 0} (r : Result T E) (P : Type 0) → P → OnErr r P
on_err (Ok x) P h = tt
on_err (Err e) P h = h

pub err_as : {T E : Type 0} (r : Result T E) (P Q : Type 0) → (P → Q) → OnErr r P → OnErr r Q
err_as (Ok x) P Q f h = tt
err_as (Err e) P Q f h = f h
