-- The draft of no items, and of one more.
use Rattle.std.proofs.Common.{◌≡◌, ◌⊎◌, ℕ, zero, suc, ◌+◌, ◌<◌, ◌≤◌, List, [], ◌∷◌, ◌++◌, length, take, drop, get_or, Option, Some, None, refl, sym, ap, subst, ◌∙◌, inl, inr, arith}
use Rattle.std.specs.Prelude.{sum_by, All}
use Rattle.std.specs.Option.{option_map}
use Rattle.std.proofs.lemmas.List.Elements.{All-nil}
use Rattle.fzn_parser.specs.declared.tree.Item.{Item}
use Rattle.set_meaning.specs.Problems.{IsKind}
use Rattle.bit_layout.specs.Limits.{IsNarrow, counted_bits}
use Rattle.fzn_model.specs.declared.drafts.Draft.{Draft}
use Rattle.fzn_model.specs.declared.known.Known.{Known}
use Rattle.fzn_model.specs.declared.faults.ModelFault.{ModelFault}
use Rattle.fzn_model.specs.FaultsOf.{IsFaultAfter, integer_values}
use Rattle.fzn_model.specs.FirstFault.{IsFirst}
use Rattle.fzn_model.specs.State.{known_of}
use Rattle.fzn_model.specs.Shared.{entity_in}
use Rattle.fzn_model.specs.Builds.{AreFaultless, IsBuilt, IsFirstFaulty}
use Rattle.fzn_model.proofs.FirstOfTree.{none_before}

pub empty_draft : (d : Draft) → ((name : List ℕ) → known_of d.so_far.declared name ≡ None) → d.so_far.kinds.items ≡ []
    → d.so_far.counts.bits ≡ 0 → d.so_far.counts.integer_values ≡ 0 → d.so_far.counts.elements ≡ 0 → d.so_far.counts.constraints ≡ 0 → d.so_far.counts.terms ≡ 0
    → d.names.items ≡ [] → d.constraints.items ≡ [] → d.shown.items ≡ [] → d.goals.items ≡ [] → IsBuilt [] d
empty_draft d none k b v e c t n cs ss gs =
    let bits : sum_by counted_bits d.so_far.kinds.items ≡ 0 = ap (sum_by counted_bits) k in
    let values : sum_by integer_values d.so_far.kinds.items ≡ 0 = ap (sum_by integer_values) k in
    record {
      draft_is = record {
        state = record {
          naming = λ name. ap (λ o. option_map (λ (x : Known). entity_in x.entity) o) (none name);
          declared = λ name. ((λ x. absurd (cc)), (λ a. absurd (omega (arith, a.2))));
          known = ap Some (sym k);
          variables = ap length k;
          within = record {
            legal = subst (All IsKind) (sym k) (All-nil IsKind);
            narrow = subst (All IsNarrow) (sym k) (All-nil IsNarrow);
            bits = omega (arith, bits);
          };
          bits = b ∙ sym bits;
          values = v ∙ sym values;
          values_within = omega (arith, v);
          elements = e;
          elements_within = omega (arith, e);
          constraints = c;
          constraints_within = omega (arith, c);
          terms = t;
          terms_within = omega (arith, t);
        };
        sorts = λ name. tt;
        names = n;
        constraints = ap Some (sym cs);
        shown = ap Some (sym ss);
        goals = ap Some (sym gs);
      };
      faultless = none_before;
    }

split_at : {A : Type 0} (xs : List A) (i : ℕ) (x : A) → i < length xs → x ≡ get_or xs i x → xs ≡ take i xs ++ x ∷ drop (suc i) xs
split_at [] i x l e = absurd (omega arith)
split_at (y ∷ ys) zero x l e = ap (λ z. z ∷ ys) (sym e)
split_at (y ∷ ys) (suc i) x l e = ap (λ zs. y ∷ zs) (split_at ys i x (omega arith) e)

pub faulty_at : (items : List Item) (i : ℕ) (x : Item) (fault : ModelFault) → i < length items → x ≡ get_or items i x → AreFaultless (take i items)
    → IsFirst (IsFaultAfter (take i items) x) fault → IsFirstFaulty items fault
faulty_at items i x fault l e faultless first =
    record { before = take i items; item = x; behind = drop (suc i) items; split = split_at items i x l e; faultless = faultless; first = first }
