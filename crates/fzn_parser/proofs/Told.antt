-- What patterns tell of the tokens that fit them: a fact on their places, and one on their kinds.
use Rattle.std.proofs.Common.{◌≡◌, ℕ, List, [], ◌∷◌, ◌++◌, map, sym, refl, ap, ◌∙◌, subst, append_assoc}
use Rattle.std.specs.List.{flat_map}
use Rattle.fzn_reader.specs.declared.tokens.TokenKind.{TokenKind}
use Rattle.fzn_reader.specs.declared.tokens.Symbol.{Symbol}
use Rattle.fzn_reader.specs.declared.tokens.Symbol.TheVariants as symbols
use Rattle.fzn_parser.specs.Grammar as spell
use Rattle.fzn_parser.specs.Grammar.{Sign, Pattern, token, named, placed, none, skipped, Fits, Match, separated, closed}

-- ---- every item of a list

abbrev pub Each : {A : Type 0} → (A → Type 0) → List A → Type 0
Each P [] = Unit {0}
Each P (x ∷ xs) = P x × Each P xs

pub each_append : {A : Type 0} (P : A → Type 0) (xs ys : List A) → Each P xs → Each P ys → Each P (xs ++ ys)
each_append P [] ys h k = k
each_append P (x ∷ xs) ys h k = (h.0, each_append P xs ys h.1 k)

pub each_back : {A : Type 0} (P : A → Type 0) (xs ys : List A) → Each P (xs ++ ys) → Each P ys
each_back P [] ys h = h
each_back P (x ∷ xs) ys h = each_back P xs ys h.1

pub each_weaker : {A : Type 0} (P Q : A → Type 0) → ((x : A) → P x → Q x) → (xs : List A) → Each P xs → Each Q xs
each_weaker P Q f [] h = tt
each_weaker P Q f (x ∷ xs) h = (f x h.0, each_weaker P Q f xs h.1)

pub each_map : {A B : Type 0} (P : B → Type 0) (f : A → B) (xs : List A) → Each (λ x. P (f x)) xs → Each P (map f xs)
each_map P f [] h = tt
each_map P f (x ∷ xs) h = (h.0, each_map P f xs h.1)

pub each_flat_map : {A B : Type 0} (P : B → Type 0) (f : A → List B) (xs : List A) → Each (λ x. Each P (f x)) xs → Each P (flat_map f xs)
each_flat_map P f [] h = tt
each_flat_map P f (x ∷ xs) h = each_append P (f x) (flat_map f xs) h.0 (each_flat_map P f xs h.1)

-- ---- patterns one after the other

-- the tokens that fit the first patterns, and those that fit the others
pub record IsCutIn (ps qs : List Pattern) (xs : List Sign) : Type 0 where
  pub front : List Sign
  pub back : List Sign
  pub is : xs ≡ front ++ back
  pub fits : Match ps front
  pub rest : Match qs back

pub cut_in : (ps qs : List Pattern) (xs : List Sign) → Match (ps ++ qs) xs → IsCutIn ps qs xs
cut_in [] qs xs m = record { front = []; back = xs; is = refl; fits = refl; rest = m }
cut_in (skipped ∷ ps) qs xs m =
    let c : IsCutIn ps qs m.1 = cut_in ps qs m.1 m.4 in
    record {
      front = m.0 ++ c.front;
      back = c.back;
      is = m.2 ∙ (ap (λ zs. m.0 ++ zs) c.is ∙ sym (append_assoc m.0 c.front c.back));
      fits = (m.0, c.front, refl, m.3, c.fits);
      rest = c.rest;
    }
cut_in (p ∷ ps) qs [] m = absurd m
cut_in (p ∷ ps) qs (x ∷ xs) m =
    let c : IsCutIn ps qs xs = cut_in ps qs xs m.1 in
    record { front = x ∷ c.front; back = c.back; is = ap (λ zs. x ∷ zs) c.is; fits = (m.0, c.fits); rest = c.rest }

-- ---- what patterns tell

module _ (P : ℕ → Type 0) (Q : TokenKind → Type 0) where
  abbrev pub Tells : Pattern → Type 0
  Tells (token kind) = Q kind
  Tells (named bytes) = Unit {0}
  Tells (placed at p) = P at × Tells p
  Tells none = ⊥
  Tells skipped = Unit {0}

  abbrev pub Told : List Pattern → Type 0
  Told ps = Each Tells ps

  abbrev pub Holds : Sign → Type 0
  Holds x = P x.at × Q x.kind

  tells : (p : Pattern) (x : Sign) → Fits p x → Holds x → Tells p
  tells (token kind) x f h = subst Q f h.1
  tells (named bytes) x f h = tt
  tells (placed at p) x f h = (subst P f.0 h.0, tells p x f.1 h)
  tells none x f h = absurd f
  tells skipped x f h = tt

  pub told : (ps : List Pattern) (xs : List Sign) → Match ps xs → Each Holds xs → Told ps
  told [] xs m h = tt
  told (skipped ∷ ps) xs m h = (tt, told ps m.1 m.4 (each_back Holds m.0 m.1 (subst (Each Holds) m.2 h)))
  told (p ∷ ps) [] m h = absurd m
  told (p ∷ ps) (x ∷ xs) m h = (tells p x m.0 h.0, told ps xs m.1 h.1)

  pub told_front : (ps qs : List Pattern) → Told (ps ++ qs) → Told ps
  told_front [] qs h = tt
  told_front (p ∷ ps) qs h = (h.0, told_front ps qs h.1)

  pub told_back : (ps qs : List Pattern) → Told (ps ++ qs) → Told qs
  told_back ps qs h = each_back Tells ps qs h

  told_further : {A : Type 0} (f : A → List Pattern) (xs : List A) → Told (flat_map (λ y. spell.symbol symbols.Comma ∷ f y) xs) → Each (λ x. Told (f x)) xs
  told_further f [] h = tt
  told_further f (x ∷ xs) h =
      (told_front (f x) (flat_map (λ y. spell.symbol symbols.Comma ∷ f y) xs) h.1, told_further f xs (told_back (f x) (flat_map (λ y. spell.symbol symbols.Comma ∷ f y) xs) h.1))

  told_separated : {A : Type 0} (f : A → List Pattern) (xs : List A) → Told (separated f xs) → Each (λ x. Told (f x)) xs
  told_separated f [] h = tt
  told_separated f (x ∷ xs) h =
      (told_front (f x) (flat_map (λ y. spell.symbol symbols.Comma ∷ f y) xs) h, told_further f xs (told_back (f x) (flat_map (λ y. spell.symbol symbols.Comma ∷ f y) xs) h))

  pub told_closed : {A : Type 0} (f : A → List Pattern) (xs : List A) (close : Symbol) → Told (closed f xs close) → Each (λ x. Told (f x)) xs
  told_closed f xs close h = told_separated f xs (told_front (separated f xs) (spell.symbol close ∷ []) h)
