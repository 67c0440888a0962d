use Rattle.std.proofs.Common.{sym, subst, List}
use Rattle.std.specs.Prelude.{IfOk}
use Rattle.std.proofs.lemmas.Result.{IfOk-weaker}
use Rattle.diagram_arena.specs.declared.nodes.Ref.{Ref}
use Rattle.diagram_arena.specs.Arena.{table}
use Rattle.diagram_ops.specs.Meanings.{IsAllOf}
use Rattle.diagram_ops.proofs.Meant.{means_more}
use Rattle.diagram_ops.proofs.Moves.{all_halves}
use Rattle.diagram_ops.proofs.pairs.Pairs.+all.Goals as goal

pub returns-then-refs-lt2-clause-all : goal.returns-then-refs-lt2-clause-all
returns-then-refs-lt2-clause-all t c = c.first_or_one.ensures _ _ c.requires

pub join-requires-clause-left_there : goal.join-requires-clause-left_there
join-requires-clause-left_there t c =
    (_, means_more _ c.all.new.self.pairs.items c.all-2.new.self.pairs.items c.in_ok-right.ensures.extends c.in_ok-left.left _ c.in_ok-left.ensures.all.means)

pub returns-clause-all : goal.returns-clause-all
returns-clause-all t c =
    subst (λ (rs : List Ref). IfOk c.join.result (IsAllOf (table c.args.arena.now) c.join.new.self.pairs.items rs)) (sym c.split_at.ensures.by_index.0)
    (IfOk-weaker c.join.result _ _ (λ p is. all_halves _ c.all.new.self.pairs.items c.all-2.new.self.pairs.items c.join.new.self.pairs.items _ _ c.in_ok-left.left c.in_ok-right.right p
    c.in_ok-left.ensures.all c.in_ok-right.ensures.extends c.in_ok-right.ensures.all is) c.join.ensures.joined)
