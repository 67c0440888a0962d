-- Flags of listed constraints, as they are set one after another.
use Rattle.std.proofs.Common.{◌≡◌, ◌≢◌, ℕ, ◌+◌, ◌<◌, ◌≤◌, Bool, true, false, List, [], ◌∷◌, ◌++◌, length, get_or, set, take, Option, None, Some, refl, sym, ap, ◌∙◌, subst, inl, inr, arith, Contains}
use Rattle.std.specs.Prelude.{◌⊎◌}
use Rattle.std.specs.List.{All}
use Rattle.std.proofs.lemmas.Bool.{cases_eq}
use Rattle.std.proofs.lemmas.List.{length-set, get_or-set_same, get_or-set_other, take_more}
use Rattle.std.proofs.lemmas.List.Elements.{Contains-append_left, Contains-append_right, Contains-append_cases, Contains-push, Contains-get_or}
use Rattle.set_meaning.specs.declared.problems.VarId.{VarId}
use Rattle.set_meaning.specs.declared.problems.ConId.{ConId}
use Rattle.constraint_queue.specs.Queue.{QueueState, HasFlag, Reads, HasFlaggedReaders}
use Rattle.constraint_queue.specs.Waiting.{list_of, AreReaders, AreParts, HaveFlags}
use Rattle.constraint_queue.proofs.Joining.{nothing_in, in_one, the_constraint, reader_within}

pub named_cases : (but : Option ConId) (c : ConId) → (but ≡ Some c) ⊎ (but ≢ Some c)
named_cases None c = inr (λ e. cc)
named_cases (Some d) c = elim (cases_eq d.0 c.0) [
  | inl same ↦ inl (let is : d ≡ c = ap the_constraint same in ap (λ (x : ConId). Some x) is)
  | inr other ↦ inr (λ e. other (let is : d ≡ c = cc in ap (λ (x : ConId). x.0) is))
]

module _ (but : Option ConId) where
  flags_then : (xs ys : List ConId) (a b z : List Bool) → HaveFlags xs but a b → HaveFlags ys but b z → HaveFlags (xs ++ ys) but a z
  flags_then xs ys a b z first second c = (
    (λ h. elim ((second c).0 h) [
      | inr more ↦ inr (Contains-append_right xs ys c more.0, more.1)
      | inl before ↦ elim ((first c).0 before) [
        | inr more ↦ inr (Contains-append_left xs ys c more.0, more.1)
        | inl long_before ↦ inl long_before
      ]
    ]),
    (λ h. elim h [
      | inl long_before ↦ (second c).1 (inl ((first c).1 (inl long_before)))
      | inr more ↦ elim (Contains-append_cases xs ys c more.0) [
        | inl front ↦ (second c).1 (inl ((first c).1 (inr (front, more.1))))
        | inr back ↦ (second c).1 (inr (back, more.1))
      ]
    ]),
  )

  pub no_more : (flags : List Bool) → HaveFlags [] but flags flags
  no_more flags c = ((λ h. inl h), (λ h. elim h [ inl before ↦ before | inr more ↦ absurd (nothing_in c more.0) ]))

  named_stays : (c : ConId) (flags : List Bool) → but ≡ Some c → HaveFlags (c ∷ []) but flags flags
  named_stays c flags named d = (
    (λ h. inl h),
    (λ h. elim h [
      | inl before ↦ before
      | inr more ↦ absurd (more.1 (named ∙ ap (λ (x : ConId). Some x) (in_one c d more.0)))
    ]),
  )

  other_is_set : (c : ConId) (flags : List Bool) → but ≢ Some c → c.0 < length flags → HaveFlags (c ∷ []) but flags (set flags c.0 true)
  other_is_set c flags apart within d = elim (cases_eq d.0 c.0) [
    | inl same ↦
        let is : c ≡ d = ap the_constraint (sym same) in (
          (λ h. inr (subst (λ (x : ConId). Contains (c ∷ []) x) is (Contains-push [] c), subst (λ (x : ConId). but ≢ Some x) is apart)),
          (λ h. subst (λ n. get_or (set flags c.0 true) n false ≡ true) (sym same) (get_or-set_same flags c.0 true false within)),
        )
    | inr other ↦
        let stays : get_or (set flags c.0 true) d.0 false ≡ get_or flags d.0 false = get_or-set_other flags c.0 d.0 true false other in (
          (λ h. inl (sym stays ∙ h)),
          (λ h. elim h [
            | inl before ↦ stays ∙ before
            | inr more ↦ absurd (other (sym (ap (λ (x : ConId). x.0) (in_one c d more.0))))
          ]),
        )
  ]

  -- one more constraint of the list
  pub flags_more : (listed : List ConId) (i : ℕ) (d : ConId) (old mid new : List Bool) → i < length listed → (get_or listed i d).0 < length mid → HaveFlags (take i listed) but old mid
      → (but ≡ Some (get_or listed i d) → new ≡ mid) → (but ≢ Some (get_or listed i d) → new ≡ set mid (get_or listed i d).0 true) → HaveFlags (take (i + 1) listed) but old new
  flags_more listed i d old mid new less within before named others =
      subst (λ xs. HaveFlags xs but old new) (sym (take_more listed i d less))
      (flags_then (take i listed) (get_or listed i d ∷ []) old mid new before (elim (named_cases but (get_or listed i d)) [
        | inl is ↦ subst (λ fs. HaveFlags (get_or listed i d ∷ []) but mid fs) (sym (named is)) (named_stays (get_or listed i d) mid is)
        | inr apart ↦ subst (λ fs. HaveFlags (get_or listed i d ∷ []) but mid fs) (sym (others apart)) (other_is_set (get_or listed i d) mid apart within)
      ]))

  pub long_still : (listed : List ConId) (i : ℕ) (d : ConId) (mid new : List Bool) → (but ≡ Some (get_or listed i d) → new ≡ mid) → (but ≢ Some (get_or listed i d) → new ≡ set mid (get_or listed i d).0 true) → length new ≡ length mid
  long_still listed i d mid new named others = elim (named_cases but (get_or listed i d)) [
    | inl is ↦ ap length (named is)
    | inr apart ↦ ap length (others apart) ∙ length-set mid (get_or listed i d).0 true
  ]

  module _ (scopes : List (List VarId)) (lists : List (List ConId)) (flags new : List Bool) (v : VarId) (are : AreParts scopes lists flags) where
    -- the flags of the readers of a variable
    pub readers_flagged : length new ≡ length flags → HaveFlags (list_of lists v) but flags new → HasFlaggedReaders (record { scopes = scopes; flags = flags }) (record { scopes = scopes; flags = new }) v but
    readers_flagged long have = record {
      scopes = refl;
      long = long;
      flags = λ c. (
        (λ h. elim ((have c).0 h) [ inl before ↦ inl before | inr more ↦ inr (((are.readers v c).0 more.0).1, more.1) ]),
        (λ h. (have c).1 (elim h [ inl before ↦ inl before | inr more ↦ inr ((are.readers v c).1 (reader_within scopes c.0 v more.0, more.0), more.1) ])),
      );
    }

    -- where the variable has no list, nothing reads it
    pub no_readers_flagged : list_of lists v ≡ [] → HasFlaggedReaders (record { scopes = scopes; flags = flags }) (record { scopes = scopes; flags = flags }) v but
    no_readers_flagged none = record {
      scopes = refl;
      long = refl;
      flags = λ c. (
        (λ h. inl h),
        (λ h. elim h [
          | inl before ↦ before
          | inr more ↦ absurd (nothing_in c (subst (λ l. Contains l c) none ((are.readers v c).1 (reader_within scopes c.0 v more.0, more.0))))
        ]),
      );
    }

-- the constraints of a list of readers are those with scopes
pub readers_known : (scopes : List (List VarId)) (lists : List (List ConId)) (flags : List Bool) (v : VarId) → AreParts scopes lists flags → All (λ (c : ConId). c.0 < length scopes) (list_of lists v)
readers_known scopes lists flags v are i d within = ((are.readers v (get_or (list_of lists v) i d)).0 (Contains-get_or (list_of lists v) i d within)).0
