use Rattle.std.proofs.Common.{sym, subst, take, get_or}
use Rattle.std.proofs.lemmas.List.{take_more}
use Rattle.diagram_arena.specs.declared.nodes.Ref.{Ref}
use Rattle.diagram_arena.specs.declared.nodes.Ref.TheVariants.{Zero}
use Rattle.diagram_arena.specs.Arena.{table}
use Rattle.diagram_view.specs.Levels.{Adds, IsNextLevel}
use Rattle.diagram_view.proofs.Leveling.{next_more}
use Rattle.diagram_view.proofs.levels.next_level.Goals as goal

pub loop-r-preserved : goal.loop-r-preserved
loop-r-preserved c =
    let r : Ref = get_or c.args.refs.now c.loop-r.r-index Zero in
    let lo = subst (Adds c.loop-r.next.items c.keep.new.next.items) c.side.ensures c.in_ok-keep.ensures.adds in
    let hi = subst (Adds c.keep.new.next.items c.keep-in-loop-r.new.next.items) c.side-in-loop-r.ensures c.in_ok-keep-2.ensures.adds in record {
      level = subst (λ refs. IsNextLevel (table c.args.arena.now) refs c.args.bit c.keep-in-loop-r.new.next.items) (sym (take_more c.args.refs.now c.loop-r.r-index Zero c.loop-r-test.true))
          (next_more _ (take c.loop-r.r-index c.args.refs.now) c.args.bit c.loop-r.next.items c.keep.new.next.items c.keep-in-loop-r.new.next.items r c.loop-r.invariant.level lo hi);
      seen = c.in_ok-keep-2.ensures.seen;
    }
