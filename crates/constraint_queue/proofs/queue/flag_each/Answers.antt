use Rattle.std.proofs.Common.{◌≡◌, ◌≤◌, ◌<◌, List, length, get_or, take, subst, sym, ◌∙◌, arith}
use Rattle.set_meaning.specs.declared.problems.ConId.{ConId}
use Rattle.constraint_queue.specs.Waiting.{HaveFlags}
use Rattle.std.proofs.lemmas.List.{take_all}
use Rattle.constraint_queue.proofs.Setting.{flags_more, long_still}
use Rattle.constraint_queue.proofs.queue.flag_each.Goals as goal

pub loop-c-preserved : goal.loop-c-preserved
loop-c-preserved c =
    let d : ConId = record { 0 = 0 } in
    let known : (get_or c.args.listed.now c.loop-c.c-index d).0 < length c.args.scopes.now = c.requires.known c.loop-c.c-index d c.loop-c-test.true in
    let long : length c.loop-c.flags ≡ length c.args.flags.now = c.loop-c.invariant.long in
    let scopes : length c.args.flags.now ≡ length c.args.scopes.now = c.requires.long in
    record {
      long = long_still c.args.but c.args.listed.now c.loop-c.c-index d c.loop-c.flags c.flag_unless_named.new.flags c.flag_unless_named.ensures.named c.flag_unless_named.ensures.others ∙ long;
      flagged = flags_more c.args.but c.args.listed.now c.loop-c.c-index d c.args.flags.now c.loop-c.flags c.flag_unless_named.new.flags c.loop-c-test.true (omega (arith, known, long, scopes))
          c.loop-c.invariant.flagged c.flag_unless_named.ensures.named c.flag_unless_named.ensures.others;
    }

pub returns-clause-flags : goal.returns-clause-flags
returns-clause-flags c =
    let past : length c.args.listed.now ≤ c.loop-c.c-index = c.loop-c-test.false in
    subst (λ (xs : List ConId). HaveFlags xs c.args.but c.args.flags.now c.loop-c.flags) (take_all c.loop-c.c-index c.args.listed.now past) c.loop-c.invariant.flagged
