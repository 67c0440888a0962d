use Rattle.std.proofs.Common.{◌≡◌, ℕ, ◌<◌, ◌≤◌, true, false, length, get_or, take, refl, sym, ◌∙◌, subst, arith}
use Rattle.std.specs.Prelude.{All}
use Rattle.std.proofs.lemmas.Bool.{false≢true}
use Rattle.std.proofs.lemmas.List.{take_all}
use Rattle.std.proofs.lemmas.Option.{slice_get_within, slice_get_read}
use Rattle.std.proofs.lemmas.List.Elements.{All-more}
use Rattle.choice_machine.specs.Building.{IsNumbered}
use Rattle.choice_machine.proofs.Lists.{all_at}
use Rattle.choice_machine.proofs.Joints.{numbered_one, none_accepts}
use Rattle.choice_machine.proofs.building.some_accepts.Goals as goal

pub offset_bounds-machines-number : goal.offset_bounds-machines-number
offset_bounds-machines-number g c =
    let here = all_at (λ p. IsNumbered c.args.machines.now p.0 (λ m. g.M.Machine.occurs m c.args.places p.1)) c.args.joint.now c.loop-member.member-index c.member-item.result c.loop-member-test.true c.member-item.is c.requires.from in
    let low = slice_get_within c.args.machines.now c.member-item.result.0 here.0 here.1 in
    omega (arith, low)

pub bounds-machines-number : goal.bounds-machines-number
bounds-machines-number g c =
    let here = all_at (λ p. IsNumbered c.args.machines.now p.0 (λ m. g.M.Machine.occurs m c.args.places p.1)) c.args.joint.now c.loop-member.member-index c.member-item.result c.loop-member-test.true c.member-item.is c.requires.from in
    slice_get_within c.args.machines.now c.member-item.result.0 here.0 here.1

pub accepts-requires-clause-valid : goal.accepts-requires-clause-valid
accepts-requires-clause-valid g c =
    let here = all_at (λ p. IsNumbered c.args.machines.now p.0 (λ m. g.M.Machine.occurs m c.args.places p.1)) c.args.joint.now c.loop-member.member-index c.member-item.result c.loop-member-test.true c.member-item.is c.requires.from in
    all_at g.M.Machine.valid c.args.machines.now c.member-item.result.0 c.index-machines-number.result (slice_get_within c.args.machines.now c.member-item.result.0 here.0 here.1) c.index-machines-number.is c.requires.valid

pub accepts-requires-clause-from : goal.accepts-requires-clause-from
accepts-requires-clause-from g c =
    let ms = c.args.machines.now in
    let p = c.member-item.result in
    let m = c.index-machines-number.result in
    let here = all_at (λ p. IsNumbered ms p.0 (λ m. g.M.Machine.occurs m c.args.places p.1)) c.args.joint.now c.loop-member.member-index p c.loop-member-test.true c.member-item.is c.requires.from in
    let low = slice_get_within ms p.0 here.0 here.1 in (
      c.args.places,
      all_at (λ m. c.args.places ≤ g.M.Machine.places m) ms p.0 m low c.index-machines-number.is c.requires.places,
      numbered_one ms p.0 m (λ m. g.M.Machine.occurs m c.args.places p.1) (slice_get_read ms (length ms) p.0 m refl low c.index-machines-number.is) here,
    )

pub returns-then-accepts : goal.returns-then-accepts
returns-then-accepts g c =
    let ms = c.args.machines.now in
    let p = c.member-item.result in
    let m = c.index-machines-number.result in
    let here = all_at (λ p. IsNumbered ms p.0 (λ m. g.M.Machine.occurs m c.args.places p.1)) c.args.joint.now c.loop-member.member-index p c.loop-member-test.true c.member-item.is c.requires.from in
    let low = slice_get_within ms p.0 here.0 here.1 in (
      λ h. (
        c.loop-member.member-index,
        p,
        c.loop-member-test.true,
        sym c.member-item.is,
        (m, slice_get_read ms (length ms) p.0 m refl low c.index-machines-number.is, sym c.accepts.ensures ∙ c.if-accepts.true),
      ),
      λ h. refl,
    )

pub loop-member-preserved : goal.loop-member-preserved
loop-member-preserved g c =
    let ms = c.args.machines.now in
    let p = c.member-item.result in
    let m = c.index-machines-number.result in
    let here = all_at (λ p. IsNumbered ms p.0 (λ m. g.M.Machine.occurs m c.args.places p.1)) c.args.joint.now c.loop-member.member-index p c.loop-member-test.true c.member-item.is c.requires.from in
    let low = slice_get_within ms p.0 here.0 here.1 in
    All-more (λ p. IsNumbered ms p.0 (λ m. (g.M.Machine.rules m).accept p.1 ≡ false)) c.args.joint.now c.loop-member.member-index p c.loop-member-test.true c.loop-member.invariant
    (subst (λ p. IsNumbered ms p.0 (λ m. (g.M.Machine.rules m).accept p.1 ≡ false)) c.member-item.is
    (m, slice_get_read ms (length ms) p.0 m refl low c.index-machines-number.is, sym c.accepts.ensures ∙ c.if-accepts.false))

pub returns : goal.returns
returns g c = (
  λ e. absurd (false≢true e),
  λ any. absurd (none_accepts g.M.Machine.rules c.args.machines.now c.args.joint.now
      (subst (All (λ p. IsNumbered c.args.machines.now p.0 (λ m. (g.M.Machine.rules m).accept p.1 ≡ false))) (take_all c.loop-member.member-index c.args.joint.now c.loop-member-test.false) c.loop-member.invariant) any),
)
