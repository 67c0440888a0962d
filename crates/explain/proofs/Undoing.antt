-- Entries that were taken back one after another.
use Rattle.std.proofs.Common.{◌≡◌, ℕ, ◌+◌, List, [], ◌∷◌, ◌++◌, length, take, drop, reverse, refl, sym, ap, ◌∙◌, subst, append-nil}
use Rattle.std.proofs.lemmas.List.{append_assoc, reverse-reverse, reverse-append, length-append, take_at, drop_at}
use Rattle.domain_trail.specs.declared.entries.Entry.{Entry}
use Rattle.domain_trail.specs.Trail.{TrailState, newest_first, IsUndone}
use Rattle.explain.specs.Work.{AreUndone}

pub one_taken : (mid new : TrailState) (e : Entry) → (undone : IsUndone mid new) → undone.entry ≡ e → mid.entries ≡ new.entries ++ e ∷ []
one_taken mid new e undone is =
    sym (reverse-reverse mid.entries) ∙ ap reverse undone.newest ∙ reverse-append (undone.entry ∷ []) (newest_first new)
    ∙ ap (λ (xs : List Entry). xs ++ undone.entry ∷ []) (reverse-reverse new.entries) ∙ ap (λ (x : Entry). new.entries ++ x ∷ []) is

-- what is left, and what was taken back
pub left_and_taken : (es : List Entry) (old new : TrailState) → AreUndone es old new → old.entries ≡ new.entries ++ es
left_and_taken [] old new same = ap (λ (s : TrailState). s.entries) same ∙ sym (append-nil new.entries)
left_and_taken (e ∷ es) old new (mid, chain, undone, is) =
    left_and_taken es old mid chain ∙ ap (λ (xs : List Entry). xs ++ es) (one_taken mid new e undone is)
    ∙ append_assoc new.entries (e ∷ []) es

-- down to a length
module _ (es : List Entry) (old new : TrailState) (chain : AreUndone es old new) (n : ℕ) (long : length new.entries ≡ n) where
  whole : old.entries ≡ new.entries ++ es
  whole = left_and_taken es old new chain

  pub left_are : new.entries ≡ take n old.entries
  left_are = sym (ap (take n) whole ∙ take_at new.entries es n long)

  pub taken_are : AreUndone (drop n old.entries) old new
  taken_are = subst (λ (xs : List Entry). AreUndone xs old new) (sym (ap (drop n) whole ∙ drop_at new.entries es n long)) chain

-- one more
pub one_more_undone : (es : List Entry) (old mid new : TrailState) → AreUndone es old mid → (undone : IsUndone mid new) → AreUndone (undone.entry ∷ es) old new
one_more_undone es old mid new chain undone = (mid, chain, undone, refl)

pub one_less : (mid new : TrailState) → IsUndone mid new → length mid.entries ≡ length new.entries + 1
one_less mid new undone =
    ap length (one_taken mid new undone.entry undone refl) ∙ length-append new.entries (undone.entry ∷ [])
