use Rattle.std.proofs.Common.{rules, ◌≡◌, false, true, subst, sym, ◌∙◌, Contains}
use Rattle.std.proofs.lemmas.Int.{to_z-of_z}
use Rattle.std.specs.Prelude.{FitsSigned}
use mir.Syntax.{w64}
use Rattle.set_meaning.specs.Sets.{Has, IsAscending}
use Rattle.set_meaning.proofs.Ascending.{not_found}
use Rattle.set_meaning.proofs.sets.SetValue.has.Goals as goal

pub returns-in-Err : goal.returns-in-Err
unfolding Has
returns-in-Err c =
    let same = sym (c.deref.ensures.value ∙ c.self.view_is) in
    let up = subst IsAscending same (subst IsAscending c.self.view_is c.self.invariant) in
    let fits : FitsSigned w64 c.args.x = c.ranges.x in
    let parts = simp to_z-of_z at c.in-Err.ensures.position in
    (λ no. let e : false ≡ true = no in cc, λ h. absurd (not_found c.deref.result.now c.args.x c.in-Err.field-0 up parts (subst (λ s. Contains s c.args.x) same h)))

pub returns-in-Ok : goal.returns-in-Ok
unfolding Has
returns-in-Ok c = search rules
