use Rattle.std.proofs.Common.{ℕ, Ok, Err, sym, ap, subst, arith, false, true}
use Rattle.diagram_arena.specs.Arena.{table}
use Rattle.diagram_ops.specs.Meanings.{first_of, front_of, ProjectsWords}
use Rattle.diagram_ops.proofs.Exits.{sofar_self, passed_on, not_full}
use Rattle.diagram_ops.proofs.Meant.{first_more, means_more, there_more, extends_then}
use Rattle.diagram_ops.proofs.Same.{known_more, known_put, known_joined}
use Rattle.diagram_ops.proofs.Projecting.{lo_call, hi_call, both_calls, join_call, ends_err, joined_ends, covered_ends, found_ends, is_projection, at_some}
use Rattle.diagram_ops.proofs.Going.{sides_at, lo_falls, second_at, bounded_more}
use Rattle.diagram_ops.proofs.operations.Ops.+project_below.Goals as goal

pub returns-in_err-r-clause-left : goal.returns-in_err-r-clause-left
returns-in_err-r-clause-left t c V means =
    ends_err c.args.self.now c.args.self.now c.args.keep.now V (first_of (table c.args.self.now.arena) c.args.work.now.pairs.pairs.items c.args.p) c.from_residual.result c.from_residual.ensures.0 (sofar_self c.args.self.now _ c.seen.ensures.reduced) (not_full c.from_residual.result _ c.from_residual.ensures.1)

pub returns-in-Some-clause-left : goal.returns-in-Some-clause-left
returns-in-Some-clause-left t c V means =
    found_ends c.args.self.now c.seen.ensures.reduced c.args.work.now.pairs.pairs.items c.seen.new.work.pairs.pairs.items c.args.keep.now c.args.p V (first_of (table c.args.self.now.arena) c.args.work.now.pairs.pairs.items c.args.p) c.in-Some.r (means_more (table c.args.self.now.arena) c.args.work.now.pairs.pairs.items c.seen.new.work.pairs.pairs.items c.in_ok-r.ensures.extends c.args.p V means)
    (sym (first_more (table c.args.self.now.arena) c.args.work.now.pairs.pairs.items c.seen.new.work.pairs.pairs.items c.in_ok-r.ensures.extends c.args.p V means)) (at_some c.in_ok-r.field-0 c.in-Some.r _ c.in-Some.is c.in_ok-r.ensures.found)

pub step-requires-clause-there : goal.step-requires-clause-there
step-requires-clause-there t c = there_more (table c.args.self.now.arena) c.args.work.now.pairs.pairs.items c.seen.new.work.pairs.pairs.items c.in_ok-r.ensures.extends c.args.p c.requires.there

pub step-requires-clause-bounded : goal.step-requires-clause-bounded
step-requires-clause-bounded t c V means = bounded_more (table c.args.self.now.arena) c.args.work.now.pairs.pairs.items c.seen.new.work.pairs.pairs.items c.args.p _ c.requires.there c.in_ok-r.ensures.extends c.requires.bounded V means

pub returns-in_err-step-in-None-clause-left : goal.returns-in_err-step-in-None-clause-left
returns-in_err-step-in-None-clause-left t c V means =
    ends_err c.args.self.now c.args.self.now c.args.keep.now V (first_of (table c.args.self.now.arena) c.args.work.now.pairs.pairs.items c.args.p) c.from_residual-in_err-step-in-None.result c.from_residual-in_err-step-in-None.ensures.0 (sofar_self c.args.self.now _ c.seen.ensures.reduced)
    (not_full c.from_residual-in_err-step-in-None.result _ c.from_residual-in_err-step-in-None.ensures.1)

pub project_below-requires : goal.project_below-requires
project_below-requires t c =
    let is = sides_at (table c.args.self.now.arena) c.args.work.now.pairs.pairs.items c.seen.new.work.pairs.pairs.items c.step.new.pairs.pairs.items c.args.p c.in_ok-step-in-None.step c.requires.there.0 c.requires.there.1 c.in_ok-r.ensures.extends c.in_ok-step-in-None.ensures.step in
    let down = lo_falls (table c.args.self.now.arena) c.seen.ensures.reduced c.args.work.now.pairs.pairs.items c.step.new.pairs.pairs.items c.args.p c.in_ok-step-in-None.step c.requires.there.0 is in (
      omega (arith, down, c.decreases),
      (
        (_, is.lo_means),
        (
          c.requires.ascends,
          (
            is.lo_live,
            (
              c.in_ok-step-in-None.ensures.step.lo_bounded,
              known_more (table c.args.self.now.arena) c.seen.new.work.pairs.pairs.items c.step.new.pairs.pairs.items c.args.keep.now _ _ _ c.in_ok-step-in-None.ensures.extends c.in_ok-r.ensures.work,
            ),
          ),
        ),
      ),
    )

pub returns-in_err-lo-in-None-clause-left : goal.returns-in_err-lo-in-None-clause-left
returns-in_err-lo-in-None-clause-left t c V means =
    let is = sides_at (table c.args.self.now.arena) c.args.work.now.pairs.pairs.items c.seen.new.work.pairs.pairs.items c.step.new.pairs.pairs.items c.args.p c.in_ok-step-in-None.step V means c.in_ok-r.ensures.extends c.in_ok-step-in-None.ensures.step in
    ends_err c.args.self.now c.project_below.new.self c.args.keep.now V (first_of (table c.args.self.now.arena) c.args.work.now.pairs.pairs.items c.args.p) c.from_residual-in_err-lo-in-None.result c.from_residual-in_err-lo-in-None.ensures.0
    (lo_call c.args.self.now c.project_below.new.self c.args.keep.now V c.in_ok-step-in-None.step.bit (first_of (table c.args.self.now.arena) c.step.new.pairs.pairs.items c.in_ok-step-in-None.step.lo) c.project_below.result (c.project_below.ensures.left (front_of V c.in_ok-step-in-None.step.bit false) is.lo_means))
    (passed_on c.from_residual-in_err-lo-in-None.result c.in_err-lo-in-None.field-0.0 _ c.from_residual-in_err-lo-in-None.ensures.1
    (λ e. (c.in_err-lo-in-None.ensures.left (front_of V c.in_ok-step-in-None.step.bit false) is.lo_means).full (ap Err e)))

pub returns-in_err-remember-in-None-clause-left : goal.returns-in_err-remember-in-None-clause-left
returns-in_err-remember-in-None-clause-left t c V means =
    let is = sides_at (table c.args.self.now.arena) c.args.work.now.pairs.pairs.items c.seen.new.work.pairs.pairs.items c.step.new.pairs.pairs.items c.args.p c.in_ok-step-in-None.step V means c.in_ok-r.ensures.extends c.in_ok-step-in-None.ensures.step in
    ends_err c.args.self.now c.project_below.new.self c.args.keep.now V (first_of (table c.args.self.now.arena) c.args.work.now.pairs.pairs.items c.args.p) c.from_residual-in_err-remember-in-None.result c.from_residual-in_err-remember-in-None.ensures.0
    (lo_call c.args.self.now c.project_below.new.self c.args.keep.now V c.in_ok-step-in-None.step.bit (first_of (table c.args.self.now.arena) c.step.new.pairs.pairs.items c.in_ok-step-in-None.step.lo) c.project_below.result (c.project_below.ensures.left (front_of V c.in_ok-step-in-None.step.bit false) is.lo_means))
    (not_full c.from_residual-in_err-remember-in-None.result _ c.from_residual-in_err-remember-in-None.ensures.1)

pub returns-then-is_covered-clause-left : goal.returns-then-is_covered-clause-left
returns-then-is_covered-clause-left t c V means =
    let is = sides_at (table c.args.self.now.arena) c.args.work.now.pairs.pairs.items c.seen.new.work.pairs.pairs.items c.step.new.pairs.pairs.items c.args.p c.in_ok-step-in-None.step V means c.in_ok-r.ensures.extends c.in_ok-step-in-None.ensures.step in
    let over = c.is_covered.ensures c.if-is_covered.true in
    subst (λ (d : ℕ). ProjectsWords c.args.self.now c.project_below.new.self c.args.keep.now V d (Ok c.in_ok-lo-in-None.lo)) is.at
    (covered_ends c.args.self.now c.project_below.new.self c.args.keep.now V c.in_ok-step-in-None.step.bit (first_of (table c.args.self.now.arena) c.step.new.pairs.pairs.items c.in_ok-step-in-None.step.lo) c.in_ok-lo-in-None.lo c.in_ok-step-in-None.step.bound_hi is.words is.lo_far (c.in_ok-lo-in-None.ensures.left (front_of V c.in_ok-step-in-None.step.bit false) is.lo_means) is.over is.hi_live over.0 over.1)

pub returns-then-is_covered-clause-work : goal.returns-then-is_covered-clause-work
returns-then-is_covered-clause-work t c =
    let is = sides_at (table c.args.self.now.arena) c.args.work.now.pairs.pairs.items c.seen.new.work.pairs.pairs.items c.step.new.pairs.pairs.items c.args.p c.in_ok-step-in-None.step c.requires.there.0 c.requires.there.1 c.in_ok-r.ensures.extends c.in_ok-step-in-None.ensures.step in
    let over = c.is_covered.ensures c.if-is_covered.true in
    let done = subst (λ (d : ℕ). ProjectsWords c.args.self.now c.project_below.new.self c.args.keep.now c.requires.there.0 d (Ok c.in_ok-lo-in-None.lo)) is.at
    (covered_ends c.args.self.now c.project_below.new.self c.args.keep.now c.requires.there.0 c.in_ok-step-in-None.step.bit (first_of (table c.args.self.now.arena) c.step.new.pairs.pairs.items c.in_ok-step-in-None.step.lo) c.in_ok-lo-in-None.lo c.in_ok-step-in-None.step.bound_hi is.words is.lo_far (c.in_ok-lo-in-None.ensures.left (front_of c.requires.there.0 c.in_ok-step-in-None.step.bit false) is.lo_means) is.over is.hi_live over.0 over.1) in
    known_put (table c.project_below.new.self.arena) c.project_below.new.work.pairs.pairs.items c.args.keep.now _ c.remember.new.done.entries _ _ c.args.p c.in_ok-lo-in-None.lo c.in_ok-lo-in-None.ensures.work
    (is_projection c.args.self.now c.project_below.new.self c.args.work.now.pairs.pairs.items c.project_below.new.work.pairs.pairs.items c.args.keep.now c.args.p c.requires.there.0 c.in_ok-lo-in-None.lo c.requires.there.1 (extends_then c.args.work.now.pairs.pairs.items c.seen.new.work.pairs.pairs.items c.project_below.new.work.pairs.pairs.items c.in_ok-r.ensures.extends (extends_then c.seen.new.work.pairs.pairs.items c.step.new.pairs.pairs.items c.project_below.new.work.pairs.pairs.items c.in_ok-step-in-None.ensures.extends c.in_ok-lo-in-None.ensures.extends)) done) c.in_ok-remember-in-None.ensures

pub project_below-requires-in-None : goal.project_below-requires-in-None
project_below-requires-in-None t c =
    let is = sides_at (table c.args.self.now.arena) c.args.work.now.pairs.pairs.items c.seen.new.work.pairs.pairs.items c.step.new.pairs.pairs.items c.args.p c.in_ok-step-in-None.step c.requires.there.0 c.requires.there.1 c.in_ok-r.ensures.extends c.in_ok-step-in-None.ensures.step in
    let lo_done = c.in_ok-lo-in-None.ensures.left (front_of c.requires.there.0 c.in_ok-step-in-None.step.bit false) is.lo_means in
    let second = second_at (table c.args.self.now.arena) (table c.project_below.new.self.arena) c.seen.ensures.reduced lo_done.stays.grows c.args.work.now.pairs.pairs.items c.step.new.pairs.pairs.items c.project_below.new.work.pairs.pairs.items c.args.p c.in_ok-step-in-None.step c.requires.there.0 is c.in_ok-lo-in-None.ensures.extends in
    let down = second.falls in
    (omega (arith, down, c.decreases), ((_, second.means), (c.requires.ascends, (second.live, (second.bounded, c.in_ok-lo-in-None.ensures.work)))))

pub returns-in_err-hi-in-None-clause-left : goal.returns-in_err-hi-in-None-clause-left
returns-in_err-hi-in-None-clause-left t c V means =
    let is = sides_at (table c.args.self.now.arena) c.args.work.now.pairs.pairs.items c.seen.new.work.pairs.pairs.items c.step.new.pairs.pairs.items c.args.p c.in_ok-step-in-None.step V means c.in_ok-r.ensures.extends c.in_ok-step-in-None.ensures.step in
    let lo_done = c.in_ok-lo-in-None.ensures.left (front_of V c.in_ok-step-in-None.step.bit false) is.lo_means in
    let second = second_at (table c.args.self.now.arena) (table c.project_below.new.self.arena) c.seen.ensures.reduced lo_done.stays.grows c.args.work.now.pairs.pairs.items c.step.new.pairs.pairs.items c.project_below.new.work.pairs.pairs.items c.args.p c.in_ok-step-in-None.step V is c.in_ok-lo-in-None.ensures.extends in
    ends_err c.args.self.now c.project_below-in-None.new.self c.args.keep.now V (first_of (table c.args.self.now.arena) c.args.work.now.pairs.pairs.items c.args.p) c.from_residual-in_err-hi-in-None.result c.from_residual-in_err-hi-in-None.ensures.0
    (hi_call c.args.self.now c.project_below.new.self c.project_below-in-None.new.self c.args.keep.now V c.in_ok-step-in-None.step.bit (first_of (table c.args.self.now.arena) c.step.new.pairs.pairs.items c.in_ok-step-in-None.step.lo) (first_of (table c.project_below.new.self.arena) c.project_below.new.work.pairs.pairs.items c.in_ok-step-in-None.step.hi) c.in_ok-lo-in-None.lo c.project_below-in-None.result lo_done (c.project_below-in-None.ensures.left (front_of V c.in_ok-step-in-None.step.bit true) second.means))
    (passed_on c.from_residual-in_err-hi-in-None.result c.in_err-hi-in-None.field-0.0 _ c.from_residual-in_err-hi-in-None.ensures.1
    (λ e. (c.in_err-hi-in-None.ensures.left (front_of V c.in_ok-step-in-None.step.bit true) second.means).full (ap Err e)))

pub join_sides-requires-clause-can : goal.join_sides-requires-clause-can
join_sides-requires-clause-can t c =
    let is = sides_at (table c.args.self.now.arena) c.args.work.now.pairs.pairs.items c.seen.new.work.pairs.pairs.items c.step.new.pairs.pairs.items c.args.p c.in_ok-step-in-None.step c.requires.there.0 c.requires.there.1 c.in_ok-r.ensures.extends c.in_ok-step-in-None.ensures.step in
    let lo_done = c.in_ok-lo-in-None.ensures.left (front_of c.requires.there.0 c.in_ok-step-in-None.step.bit false) is.lo_means in
    let second = second_at (table c.args.self.now.arena) (table c.project_below.new.self.arena) c.seen.ensures.reduced lo_done.stays.grows c.args.work.now.pairs.pairs.items c.step.new.pairs.pairs.items c.project_below.new.work.pairs.pairs.items c.args.p c.in_ok-step-in-None.step c.requires.there.0 is c.in_ok-lo-in-None.ensures.extends in
    let hi_done = c.in_ok-hi-in-None.ensures.left (front_of c.requires.there.0 c.in_ok-step-in-None.step.bit true) second.means in
    let both = both_calls c.args.self.now c.project_below.new.self c.project_below-in-None.new.self c.args.keep.now c.requires.there.0 c.in_ok-step-in-None.step.bit (first_of (table c.args.self.now.arena) c.step.new.pairs.pairs.items c.in_ok-step-in-None.step.lo) (first_of (table c.project_below.new.self.arena) c.project_below.new.work.pairs.pairs.items c.in_ok-step-in-None.step.hi) c.in_ok-lo-in-None.lo c.in_ok-hi-in-None.hi is.words is.lo_far second.far lo_done hi_done in
    both.can

pub returns-in_err-r-in-None-clause-left : goal.returns-in_err-r-in-None-clause-left
returns-in_err-r-in-None-clause-left t c V means =
    let is = sides_at (table c.args.self.now.arena) c.args.work.now.pairs.pairs.items c.seen.new.work.pairs.pairs.items c.step.new.pairs.pairs.items c.args.p c.in_ok-step-in-None.step V means c.in_ok-r.ensures.extends c.in_ok-step-in-None.ensures.step in
    let lo_done = c.in_ok-lo-in-None.ensures.left (front_of V c.in_ok-step-in-None.step.bit false) is.lo_means in
    let second = second_at (table c.args.self.now.arena) (table c.project_below.new.self.arena) c.seen.ensures.reduced lo_done.stays.grows c.args.work.now.pairs.pairs.items c.step.new.pairs.pairs.items c.project_below.new.work.pairs.pairs.items c.args.p c.in_ok-step-in-None.step V is c.in_ok-lo-in-None.ensures.extends in
    let hi_done = c.in_ok-hi-in-None.ensures.left (front_of V c.in_ok-step-in-None.step.bit true) second.means in
    let both = both_calls c.args.self.now c.project_below.new.self c.project_below-in-None.new.self c.args.keep.now V c.in_ok-step-in-None.step.bit (first_of (table c.args.self.now.arena) c.step.new.pairs.pairs.items c.in_ok-step-in-None.step.lo) (first_of (table c.project_below.new.self.arena) c.project_below.new.work.pairs.pairs.items c.in_ok-step-in-None.step.hi) c.in_ok-lo-in-None.lo c.in_ok-hi-in-None.hi is.words is.lo_far second.far lo_done hi_done in
    ends_err c.args.self.now c.join_sides.new.self c.args.keep.now V (first_of (table c.args.self.now.arena) c.args.work.now.pairs.pairs.items c.args.p) c.from_residual-in_err-r-in-None.result c.from_residual-in_err-r-in-None.ensures.0
    (join_call c.args.self.now c.project_below-in-None.new.self c.join_sides.new.self c.args.keep.now V c.in_ok-step-in-None.step.bit c.in_ok-lo-in-None.lo c.in_ok-hi-in-None.hi c.join_sides.result both c.join_sides.ensures.joined)
    (passed_on c.from_residual-in_err-r-in-None.result c.in_err-r-in-None.field-0.0 _ c.from_residual-in_err-r-in-None.ensures.1 (λ e. c.in_err-r-in-None.ensures.joined.full (ap Err e)))

pub returns-in_err-remember-in-None-2-clause-left : goal.returns-in_err-remember-in-None-2-clause-left
returns-in_err-remember-in-None-2-clause-left t c V means =
    let is = sides_at (table c.args.self.now.arena) c.args.work.now.pairs.pairs.items c.seen.new.work.pairs.pairs.items c.step.new.pairs.pairs.items c.args.p c.in_ok-step-in-None.step V means c.in_ok-r.ensures.extends c.in_ok-step-in-None.ensures.step in
    let lo_done = c.in_ok-lo-in-None.ensures.left (front_of V c.in_ok-step-in-None.step.bit false) is.lo_means in
    let second = second_at (table c.args.self.now.arena) (table c.project_below.new.self.arena) c.seen.ensures.reduced lo_done.stays.grows c.args.work.now.pairs.pairs.items c.step.new.pairs.pairs.items c.project_below.new.work.pairs.pairs.items c.args.p c.in_ok-step-in-None.step V is c.in_ok-lo-in-None.ensures.extends in
    let hi_done = c.in_ok-hi-in-None.ensures.left (front_of V c.in_ok-step-in-None.step.bit true) second.means in
    let both = both_calls c.args.self.now c.project_below.new.self c.project_below-in-None.new.self c.args.keep.now V c.in_ok-step-in-None.step.bit (first_of (table c.args.self.now.arena) c.step.new.pairs.pairs.items c.in_ok-step-in-None.step.lo) (first_of (table c.project_below.new.self.arena) c.project_below.new.work.pairs.pairs.items c.in_ok-step-in-None.step.hi) c.in_ok-lo-in-None.lo c.in_ok-hi-in-None.hi is.words is.lo_far second.far lo_done hi_done in
    ends_err c.args.self.now c.join_sides.new.self c.args.keep.now V (first_of (table c.args.self.now.arena) c.args.work.now.pairs.pairs.items c.args.p) c.from_residual-in_err-remember-in-None-2.result c.from_residual-in_err-remember-in-None-2.ensures.0
    (join_call c.args.self.now c.project_below-in-None.new.self c.join_sides.new.self c.args.keep.now V c.in_ok-step-in-None.step.bit c.in_ok-lo-in-None.lo c.in_ok-hi-in-None.hi c.join_sides.result both c.join_sides.ensures.joined)
    (not_full c.from_residual-in_err-remember-in-None-2.result _ c.from_residual-in_err-remember-in-None-2.ensures.1)

pub returns-in_ok-remember-in-None-2-clause-left : goal.returns-in_ok-remember-in-None-2-clause-left
returns-in_ok-remember-in-None-2-clause-left t c V means =
    let is = sides_at (table c.args.self.now.arena) c.args.work.now.pairs.pairs.items c.seen.new.work.pairs.pairs.items c.step.new.pairs.pairs.items c.args.p c.in_ok-step-in-None.step V means c.in_ok-r.ensures.extends c.in_ok-step-in-None.ensures.step in
    let lo_done = c.in_ok-lo-in-None.ensures.left (front_of V c.in_ok-step-in-None.step.bit false) is.lo_means in
    let second = second_at (table c.args.self.now.arena) (table c.project_below.new.self.arena) c.seen.ensures.reduced lo_done.stays.grows c.args.work.now.pairs.pairs.items c.step.new.pairs.pairs.items c.project_below.new.work.pairs.pairs.items c.args.p c.in_ok-step-in-None.step V is c.in_ok-lo-in-None.ensures.extends in
    let hi_done = c.in_ok-hi-in-None.ensures.left (front_of V c.in_ok-step-in-None.step.bit true) second.means in
    let both = both_calls c.args.self.now c.project_below.new.self c.project_below-in-None.new.self c.args.keep.now V c.in_ok-step-in-None.step.bit (first_of (table c.args.self.now.arena) c.step.new.pairs.pairs.items c.in_ok-step-in-None.step.lo) (first_of (table c.project_below.new.self.arena) c.project_below.new.work.pairs.pairs.items c.in_ok-step-in-None.step.hi) c.in_ok-lo-in-None.lo c.in_ok-hi-in-None.hi is.words is.lo_far second.far lo_done hi_done in
    subst (λ (d : ℕ). ProjectsWords c.args.self.now c.join_sides.new.self c.args.keep.now V d (Ok c.in_ok-r-in-None.r)) is.at
    (joined_ends c.args.self.now c.project_below-in-None.new.self c.join_sides.new.self c.args.keep.now V c.in_ok-step-in-None.step.bit c.in_ok-lo-in-None.lo c.in_ok-hi-in-None.hi c.in_ok-r-in-None.r both c.in_ok-r-in-None.ensures.joined)

pub returns-in_ok-remember-in-None-2-clause-work : goal.returns-in_ok-remember-in-None-2-clause-work
returns-in_ok-remember-in-None-2-clause-work t c =
    let is = sides_at (table c.args.self.now.arena) c.args.work.now.pairs.pairs.items c.seen.new.work.pairs.pairs.items c.step.new.pairs.pairs.items c.args.p c.in_ok-step-in-None.step c.requires.there.0 c.requires.there.1 c.in_ok-r.ensures.extends c.in_ok-step-in-None.ensures.step in
    let lo_done = c.in_ok-lo-in-None.ensures.left (front_of c.requires.there.0 c.in_ok-step-in-None.step.bit false) is.lo_means in
    let second = second_at (table c.args.self.now.arena) (table c.project_below.new.self.arena) c.seen.ensures.reduced lo_done.stays.grows c.args.work.now.pairs.pairs.items c.step.new.pairs.pairs.items c.project_below.new.work.pairs.pairs.items c.args.p c.in_ok-step-in-None.step c.requires.there.0 is c.in_ok-lo-in-None.ensures.extends in
    let hi_done = c.in_ok-hi-in-None.ensures.left (front_of c.requires.there.0 c.in_ok-step-in-None.step.bit true) second.means in
    let both = both_calls c.args.self.now c.project_below.new.self c.project_below-in-None.new.self c.args.keep.now c.requires.there.0 c.in_ok-step-in-None.step.bit (first_of (table c.args.self.now.arena) c.step.new.pairs.pairs.items c.in_ok-step-in-None.step.lo) (first_of (table c.project_below.new.self.arena) c.project_below.new.work.pairs.pairs.items c.in_ok-step-in-None.step.hi) c.in_ok-lo-in-None.lo c.in_ok-hi-in-None.hi is.words is.lo_far second.far lo_done hi_done in
    let done = subst (λ (d : ℕ). ProjectsWords c.args.self.now c.join_sides.new.self c.args.keep.now c.requires.there.0 d (Ok c.in_ok-r-in-None.r)) is.at
    (joined_ends c.args.self.now c.project_below-in-None.new.self c.join_sides.new.self c.args.keep.now c.requires.there.0 c.in_ok-step-in-None.step.bit c.in_ok-lo-in-None.lo c.in_ok-hi-in-None.hi c.in_ok-r-in-None.r both c.in_ok-r-in-None.ensures.joined) in
    known_put (table c.join_sides.new.self.arena) c.project_below-in-None.new.work.pairs.pairs.items c.args.keep.now _ c.remember-in-None.new.done.entries _ _ c.args.p c.in_ok-r-in-None.r
    (known_joined (table c.project_below-in-None.new.self.arena) (table c.join_sides.new.self.arena) c.project_below-in-None.new.work.pairs.pairs.items c.args.keep.now _ _ _ _ c.in_ok-r-in-None.ensures.joined.stays.grows c.in_ok-hi-in-None.ensures.work c.in_ok-r-in-None.ensures.known)
    (is_projection c.args.self.now c.join_sides.new.self c.args.work.now.pairs.pairs.items c.project_below-in-None.new.work.pairs.pairs.items c.args.keep.now c.args.p c.requires.there.0 c.in_ok-r-in-None.r c.requires.there.1 (extends_then c.args.work.now.pairs.pairs.items c.project_below.new.work.pairs.pairs.items c.project_below-in-None.new.work.pairs.pairs.items (extends_then c.args.work.now.pairs.pairs.items c.seen.new.work.pairs.pairs.items c.project_below.new.work.pairs.pairs.items c.in_ok-r.ensures.extends (extends_then c.seen.new.work.pairs.pairs.items c.step.new.pairs.pairs.items c.project_below.new.work.pairs.pairs.items c.in_ok-step-in-None.ensures.extends c.in_ok-lo-in-None.ensures.extends)) c.in_ok-hi-in-None.ensures.extends) done) c.in_ok-remember-in-None-2.ensures
