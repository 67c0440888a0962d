-- The items of a model lie one after another.
use Rattle.std.proofs.Common.{◌≡◌, ℕ, suc, ◌<◌, ◌≤◌, List, [], ◌∷◌, ◌++◌, length, All, Contains, sym, refl, ap, ◌∙◌, subst, arith}
use Rattle.std.proofs.lemmas.List.Elements.{All-from_recursion, All-nil, All-cons, All-contains}
use Rattle.fzn_reader.specs.declared.tokens.Token.{Token}
use Rattle.fzn_reader.specs.declared.tokens.TokenKind.{TokenKind}
use Rattle.fzn_reader.specs.Scan.{LieBetween}
use Rattle.fzn_parser.specs.declared.faults.SyntaxFault.{SyntaxFault}
use Rattle.fzn_parser.specs.declared.faults.SyntaxFault.TheVariants as faults
use Rattle.fzn_parser.specs.declared.tree.Form.{Form}
use Rattle.fzn_parser.specs.declared.tree.Form.TheVariants as forms
use Rattle.fzn_parser.specs.declared.tree.Item.{Item}
use Rattle.fzn_parser.specs.declared.tree.Tree.{Tree}
use Rattle.fzn_parser.specs.Grammar as spell
use Rattle.fzn_parser.specs.Grammar.{Sign, signs, Pattern, Match, Spells, begun_at}
use Rattle.fzn_parser.specs.Faults.{IsFirstSyntaxFault}
use Rattle.fzn_parser.specs.Places.{places_in, AreInOrder, IsSolve, EndsInSolve, LiesWithin}
use Rattle.fzn_parser.proofs.Told.{Each, each_weaker, IsCutIn, cut_in, Told, Holds, told, told_front, told_back}
use Rattle.fzn_parser.proofs.ToldItems.{OfItem, of_item, of_solve}

-- ---- tokens

-- from this place on each token lies before the next, and the last before n
abbrev pub Rise : ℕ → List Sign → ℕ → Type 0
Rise at [] n = at ≤ n
Rise at (x ∷ xs) n = (at ≤ x.at) × Rise (suc x.at) xs n

rise_from : (a b : ℕ) (xs : List Sign) (n : ℕ) → a ≤ b → Rise b xs n → Rise a xs n
rise_from a b [] n l h = omega arith
rise_from a b (x ∷ xs) n l h = (omega (arith, h.0), h.1)

pub rise : (text : List ℕ) (at : ℕ) (ts : List Token) (n : ℕ) → LieBetween at ts n → Rise at (signs text ts) n
rise text at [] n h = h
rise text at (t ∷ ts) n h = (h.0, rise_from (suc t.from) t.to (signs text ts) n (omega (arith, h.1)) (rise text t.to ts n h.2))

rise_end : (at : ℕ) (xs : List Sign) (n : ℕ) → Rise at xs n → at ≤ n
rise_end at [] n h = h
rise_end at (x ∷ xs) n h = let rest : suc x.at ≤ n = rise_end (suc x.at) xs n h.1 in omega (arith, h.0)

rise_cut : (at : ℕ) (front back : List Sign) (n : ℕ) → Rise at (front ++ back) n → (mid : ℕ) × Rise at front mid × Rise mid back n
rise_cut at [] back n h = (at, omega arith, h)
rise_cut at (x ∷ front) back n h = let c = rise_cut (suc x.at) front back n h.1 in (c.0, (h.0, c.1), c.2)

-- nothing is asked of kinds
abbrev AnyKind : TokenKind → Type 0
AnyKind kind = Unit {0}

abbrev Between : ℕ → ℕ → ℕ → Type 0
Between low high p = (low ≤ p) × (p < high)

all_between : (low at : ℕ) (xs : List Sign) (n : ℕ) → low ≤ at → Rise at xs n → Each (Holds (Between low n) AnyKind) xs
all_between low at [] n l h = tt
all_between low at (x ∷ xs) n l h =
    let rest : suc x.at ≤ n = rise_end (suc x.at) xs n h.1 in
    (((omega (arith, h.0), omega arith), tt), all_between low (suc x.at) xs n (omega (arith, h.0)) h.1)

-- ---- items in order

abbrev Placed : ℕ → ℕ → Item → Type 0
Placed low high item = Each (Between low high) (places_in item.form)

abbrev pub Laid : ℕ → List Item → ℕ → Type 0
Laid low [] high = low ≤ high
Laid low (item ∷ items) high = (mid : ℕ) × (low ≤ mid) × Placed low mid item × Laid mid items high

one_laid : (low high : ℕ) (at : ℕ) (ps : List Pattern) (form : Form) (xs : List Sign) → (Told (Between low high) AnyKind ps → OfItem (Between low high) AnyKind form) → Match ps xs → Rise low xs high → Each (Between low high) (places_in form)
one_laid low high at ps form xs of m h = (of (told (Between low high) AnyKind ps xs m (all_between low low xs high (omega arith) h))).0

pub laid : (low : ℕ) (items : List Item) (xs : List Sign) (high : ℕ) → Match (spell.model items) xs → Rise low xs high → Laid low items high
laid low [] [] high m h = absurd m
laid low [] (x ∷ xs) high m h = absurd m.0
laid low (item ∷ []) xs high m h =
    (high, rise_end low xs high h, one_laid low high item.at (begun_at item.at (spell.solve_form item.form)) item.form xs (of_solve (Between low high) AnyKind item.at item.form) m h, omega arith)
laid low (item ∷ next ∷ items) xs high m h =
    let c : IsCutIn (begun_at item.at (spell.item_form item.form)) (spell.model (next ∷ items)) xs = cut_in (begun_at item.at (spell.item_form item.form)) (spell.model (next ∷ items)) xs m in
    let r = rise_cut low c.front c.back high (subst (λ zs. Rise low zs high) c.is h) in
    (r.0, rise_end low c.front r.0 r.1, one_laid low r.0 item.at (begun_at item.at (spell.item_form item.form)) item.form c.front (of_item (Between low r.0) AnyKind item.at item.form) c.fits r.1, laid r.0 (next ∷ items) c.back high c.rest r.2)

-- an item among others, between two places
laid_at : (low : ℕ) (before : List Item) (item : Item) (behind : List Item) (high : ℕ) → Laid low (before ++ item ∷ behind) high
    → (from to : ℕ) × (low ≤ from) × Placed from to item × Laid to behind high
laid_at low [] item behind high h = (low, h.0, omega arith, h.2, h.3)
laid_at low (x ∷ before) item behind high h =
    let r = laid_at h.0 before item behind high h.3 in (r.0, r.1, omega (arith, h.1, r.2), r.3, r.4)

each_of : {A : Type 0} (P : A → Type 0) (xs : List A) (x : A) → Each P xs → Contains xs x → P x
each_of P xs x h k = All-contains P xs x (All-from_recursion P xs h) k

apart : (low : ℕ) (items : List Item) (high : ℕ) → Laid low items high → (before : List Item) (item : Item) (between : List Item) (other : Item) (behind : List Item)
    → items ≡ before ++ item ∷ (between ++ other ∷ behind) → (p q : ℕ) → Contains (places_in item.form) p → Contains (places_in other.form) q → p < q
apart low items high h before item between other behind is p q a b =
    let one = laid_at low before item (between ++ other ∷ behind) high (subst (λ zs. Laid low zs high) is h) in
    let two = laid_at one.1 between other behind high one.4 in
    let left : p < one.1 = (each_of (Between one.0 one.1) (places_in item.form) p one.3 a).1 in
    let right : two.0 ≤ q = (each_of (Between two.0 two.1) (places_in other.form) q two.3 b).0 in
    omega (arith, two.2)

pub in_order : (text : List ℕ) (tokens : List Token) (tree : Tree) → LieBetween 0 tokens (length text) → Spells (signs text tokens) tree → AreInOrder tree
in_order text tokens tree h m = record {
  apart = apart 0 tree.items (length text) (laid 0 tree.items (signs text tokens) (length text) m (rise text 0 tokens (length text) h));
}

-- ---- what is told of all items

module _ (P : ℕ → Type 0) (Q : TokenKind → Type 0) where
  pub items_told : (items : List Item) → Told P Q (spell.model items) → Each (λ item. OfItem P Q item.form) items
  items_told [] h = tt
  items_told (item ∷ []) h = (of_solve P Q item.at item.form h, tt)
  items_told (item ∷ next ∷ items) h = (
    of_item P Q item.at item.form (told_front P Q (begun_at item.at (spell.item_form item.form)) (spell.model (next ∷ items)) h),
    items_told (next ∷ items) (told_back P Q (begun_at item.at (spell.item_form item.form)) (spell.model (next ∷ items)) h),
  )

  pub item_told : (xs : List Sign) (tree : Tree) (item : Item) → Spells xs tree → Each (Holds P Q) xs → Contains tree.items item → OfItem P Q item.form
  item_told xs tree item m h k = each_of (λ i. OfItem P Q i.form) tree.items item (items_told tree.items (told P Q (spell.model tree.items) xs m h)) k

-- ---- places within the text

abbrev Below : ℕ → ℕ → Type 0
Below n p = p < n

all_below : (xs : List Sign) (n : ℕ) → Rise 0 xs n → Each (Holds (Below n) AnyKind) xs
all_below xs n h = each_weaker (Holds (Between 0 n) AnyKind) (Holds (Below n) AnyKind) (λ x k. (k.0.1, tt)) xs (all_between 0 0 xs n (omega arith) h)

pub within : (text : List ℕ) (tokens : List Token) (tree : Tree) → LieBetween 0 tokens (length text) → Spells (signs text tokens) tree → (item : Item) → Contains tree.items item → All (λ p. p < length text) (places_in item.form)
within text tokens tree h m item k =
    All-from_recursion (λ p. p < length text) (places_in item.form)
    (item_told (Below (length text)) AnyKind (signs text tokens) tree item m (all_below (signs text tokens) (length text) (rise text 0 tokens (length text) h)) k).0

sign_below : (n : ℕ) (front : List Sign) (x : Sign) (back : List Sign) → Each (Holds (Below n) AnyKind) (front ++ x ∷ back) → x.at < n
sign_below n [] x back h = h.0.0
sign_below n (y ∷ front) x back h = sign_below n front x back h.1

pub fault_within : (text : List ℕ) (tokens : List Token) (fault : SyntaxFault) → LieBetween 0 tokens (length text) → IsFirstSyntaxFault (length text) (signs text tokens) fault → LiesWithin (length text) fault
fault_within text tokens fault h = of_fault fault
  where
    below : (xs : List Sign) (before : List Sign) (x : Sign) (behind : List Sign) → xs ≡ before ++ x ∷ behind → xs ≡ signs text tokens → (at : ℕ) → at ≡ x.at → at < length text
    below xs before x behind is are at place =
        let l : x.at < length text = sign_below (length text) before x behind (subst (Each (Holds (Below (length text)) AnyKind)) (sym are ∙ is) (all_below (signs text tokens) (length text) (rise text 0 tokens (length text) h))) in
        omega (arith, place)

    of_fault : (f : SyntaxFault) → IsFirstSyntaxFault (length text) (signs text tokens) f → LiesWithin (length text) f
    of_fault (faults.Expected at what) u = below (signs text tokens) u.before u.x u.split.behind u.split.is refl at u.place
    of_fault (faults.EndOfFile at) u = u.0
    of_fault (faults.TooDeep at) u = below (signs text tokens) u.before u.x u.split.behind u.split.is refl at u.place
    of_fault faults.Memory u = absurd u

-- ---- the solve item

ends : (item : Item) (xs : List Sign) (form : Form) → Match (begun_at item.at (spell.solve_form form)) xs → IsSolve form
ends item xs (forms.Solve anns goal) m = tt
ends item [] _ m = absurd m
ends item (x ∷ xs) _ m = absurd m.0.1

others : (item : Item) (qs : List Pattern) (xs : List Sign) (form : Form) → Match (begun_at item.at (spell.item_form form) ++ qs) xs → IsSolve form → ⊥
others item qs [] (forms.Solve anns goal) m s = m
others item qs (x ∷ xs) (forms.Solve anns goal) m s = m.0.1
others item qs xs _ m s = absurd s

Ending : List Item → Type 0
Ending items = (front : List Item) × (last : Item) × (items ≡ front ++ last ∷ []) × IsSolve last.form × All (λ item. IsSolve item.form → ⊥) front

ending : (items : List Item) (xs : List Sign) → Match (spell.model items) xs → Ending items
unfolding Ending
ending [] [] m = absurd m
ending [] (x ∷ xs) m = absurd m.0
ending (item ∷ []) xs m = ([], item, refl, ends item xs item.form m, All-nil (λ i. IsSolve i.form → ⊥))
ending (item ∷ next ∷ items) xs m =
    let c : IsCutIn (begun_at item.at (spell.item_form item.form)) (spell.model (next ∷ items)) xs = cut_in (begun_at item.at (spell.item_form item.form)) (spell.model (next ∷ items)) xs m in
    let e = ending (next ∷ items) c.back c.rest in
    (item ∷ e.0, e.1, ap (λ zs. item ∷ zs) e.2, e.3, All-cons (λ i. IsSolve i.form → ⊥) item e.0 (others item (spell.model (next ∷ items)) xs item.form m) e.4)

pub solves_last : (xs : List Sign) (tree : Tree) → Spells xs tree → EndsInSolve tree
unfolding Ending
solves_last xs tree m = let e = ending tree.items xs m in record { front = e.0; last = e.1; items_are = e.2; solve = e.3; others = e.4 }
