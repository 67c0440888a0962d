-- One more domain after those of the first variables.
use Rattle.std.proofs.Common.{◌≡◌, ℕ, ◌+◌, ◌<◌, ◌≤◌, List, [], ◌∷◌, ◌++◌, Option, Some, length, get_or, refl, sym, ◌∙◌, ap, subst, arith, inl, inr, ◌⊎◌}
use Rattle.std.specs.Prelude.{slice_get, IfSome}
use Rattle.std.proofs.lemmas.List.{get_or_append_left, length-append}
use Rattle.std.proofs.Math.Seq.{get_or-append_seam}
use Rattle.std.proofs.lemmas.Option.{slice_get-get_or, get_or_from_slice_get, slice_get_within}
use Rattle.set_meaning.specs.declared.problems.VarId.{VarId}
use Rattle.bit_layout.specs.Order.{LayoutState}
use Rattle.diagram_arena.specs.declared.nodes.Ref.{Ref}
use Rattle.diagram_arena.specs.declared.nodes.Ref.TheVariants.{Zero}
use Rattle.diagram_arena.specs.Table.{Table}
use Rattle.diagram_arena.specs.Arena.{Grows}
use Rattle.exact_steps.specs.Domains.{IsDomain, AreDomains}
use Rattle.exact_steps.proofs.Wanted.{domain_grows}
use Rattle.branching_tests.specs.Gathered.{AreFirstDomains}

pub none_yet : (l : LayoutState) (t : Table) (domains : List Ref) → domains ≡ [] → AreFirstDomains l t 0 domains
none_yet l t domains e = subst (λ (ds : List Ref). AreFirstDomains l t 0 ds) (sym e) (record {
  long = refl;
  each = λ v r h. let inside = slice_get_within {A = Ref} [] v.0 r h in absurd (omega (arith, inside));
})

here_or_before : (u n : ℕ) → u < n + 1 → (u < n) ⊎ (u ≡ n)
here_or_before u n below = grind arith

pub one_more : (l : LayoutState) (t u : Table) (n m : ℕ) (domains more : List Ref) (v : VarId) (r : Ref) → Grows t u → AreFirstDomains l t n domains → v.0 ≡ n → IsDomain l u v r → more ≡ domains ++ r ∷ [] → m ≡ n + 1
    → AreFirstDomains l u m more
one_more l t u n m domains more v r grows are is domain e next =
    let long = are.long in
    let added = length-append domains (r ∷ []) in
    let count = ap length e in
    record {
      long = omega (arith, long, added, count, next);
      each = λ w q h.
          let h' : slice_get (domains ++ r ∷ []) w.0 ≡ Some q = subst (λ (ds : List Ref). slice_get ds w.0 ≡ Some q) e h in
          let within = slice_get_within (domains ++ r ∷ []) w.0 q h' in
          elim (here_or_before w.0 n (omega (arith, within, added, long))) [
            | inl before ↦
                let inside : w.0 < length domains = omega (arith, before, long) in
                let at : slice_get domains w.0 ≡ Some q =
                slice_get-get_or domains w.0 Zero inside ∙ ap Some (sym (get_or_append_left domains (r ∷ []) Zero w.0 inside) ∙ get_or_from_slice_get (domains ++ r ∷ []) w.0 q Zero h') in
                domain_grows l t u w q grows (are.each w q at)
            | inr last ↦
                let same : w ≡ v = ap (λ (k : ℕ). record { 0 = k }) (last ∙ sym is) in
                let here : r ≡ q =
                sym (get_or-append_seam domains r [] Zero) ∙ ap (λ (k : ℕ). get_or (domains ++ r ∷ []) k Zero) (long ∙ sym last) ∙ get_or_from_slice_get (domains ++ r ∷ []) w.0 q Zero h' in
                subst (λ (q : Ref). IsDomain l u w q) here (subst (λ (w : VarId). IsDomain l u w r) (sym same) domain)
          ];
    }

pub all_there : (l : LayoutState) (t : Table) (n : ℕ) (domains : List Ref) → AreFirstDomains l t n domains → n ≡ length l.kinds → AreDomains l t domains
all_there l t n domains are all = record { long = are.long ∙ all; each = are.each }

pub from_some : {X : Type 0} (o : Option X) (P : X → Type 0) (x : X) → o ≡ Some x → IfSome o P → P x
from_some {X} o P x e h = subst (λ (o : Option X). IfSome o P) e h
