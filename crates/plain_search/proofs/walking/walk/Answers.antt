use Rattle.std.proofs.Common.{refl}
use Rattle.search_rules.specs.Walk.{begin}
use Rattle.plain_search.proofs.WalkLemmas.{way_on}
use Rattle.plain_search.proofs.walking.walk.Goals as goal

pub loop-var-init : goal.loop-var-init
loop-var-init g c = record { walk = begin; sets = refl; fits = c.requires.fits; long = c.requires.first }

pub loop-var-preserved-in_ok-running : goal.loop-var-preserved-in_ok-running
loop-var-preserved-in_ok-running g c =
    way_on (g.T.Task.plain c.args.task.now) c.args.trail.now c.args.first.items c.loop-var.trail c.undo.new.self c.in-Some-undo.undone
    c.loop-var.running.items c.in_ok-running.running.items c.deref.result.now c.deref-in-loop-var.result.now c.deref-in-loop-var-2.result.now
    c.deref.ensures.value c.deref-in-loop-var.ensures.value c.deref-in-loop-var-2.ensures.value c.loop-var.invariant
    c.in_default.ensures c.in-Some-undo.ensures.undone c.in_ok-running.ensures c.undo.ensures.sets c.undo.ensures.fit c.requires.sets

pub loop-var-preserved : goal.loop-var-preserved
loop-var-preserved g c =
    way_on (g.T.Task.plain c.args.task.now) c.args.trail.now c.args.first.items c.loop-var.trail c.undo.new.self c.in-Some-undo.undone
    c.loop-var.running.items c.in_ok-running.running.items c.deref.result.now c.deref-in-loop-var.result.now c.deref-in-loop-var-2.result.now
    c.deref.ensures.value c.deref-in-loop-var.ensures.value c.deref-in-loop-var-2.ensures.value c.loop-var.invariant
    c.in_default.ensures c.in-Some-undo.ensures.undone c.in_ok-running.ensures c.undo.ensures.sets c.undo.ensures.fit c.requires.sets
