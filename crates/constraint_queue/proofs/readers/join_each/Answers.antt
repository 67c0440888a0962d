use Rattle.std.proofs.Common.{◌≡◌, ◌≤◌, ◌<◌, List, [], ◌∷◌, ◌++◌, length, get_or, take, subst, sym, ap, ◌∙◌, arith}
use Rattle.std.proofs.lemmas.List.{length-set, get_or_default, take_all}
use Rattle.set_meaning.specs.declared.problems.VarId.{VarId}
use Rattle.set_meaning.specs.declared.problems.ConId.{ConId}
use Rattle.constraint_queue.specs.Waiting.{HaveJoined}
use Rattle.constraint_queue.proofs.Joining.{joined_more}
use Rattle.constraint_queue.proofs.readers.join_each.Goals as goal

pub loop-v-preserved : goal.loop-v-preserved
loop-v-preserved c =
    let d : VarId = record { 0 = 0 } in
    let readers = c.loop-v.readers.items in
    let at = (get_or c.args.scope.now c.loop-v.v-index d).0 in
    let known : at < length c.args.readers.now.items = c.requires c.loop-v.v-index d c.loop-v-test.true in
    let long : length readers ≡ length c.args.readers.now.items = c.loop-v.invariant.long in
    let within : at < length readers = omega (arith, known, long) in
    record {
      long = length-set readers at c.push.new.self ∙ long;
      joined = joined_more c.args.c c.args.scope.now c.loop-v.v-index d c.args.readers.now.items readers c.push.new.self c.loop-v-test.true within c.loop-v.invariant.joined
          (c.in_ok-push.ensures.more ∙ ap (λ (l : List ConId). l ++ c.args.c ∷ []) (c.index_mut-list.ensures.value ∙ get_or_default readers at c.index_mut-list.result.now [] within));
    }

pub returns-clause-joined : goal.returns-clause-joined
returns-clause-joined c =
    let past : length c.args.scope.now ≤ c.loop-v.v-index = c.loop-v-test.false in
    subst (λ (xs : List VarId). HaveJoined c.args.c xs c.args.readers.now.items c.loop-v.readers.items) (take_all c.loop-v.v-index c.args.scope.now past) c.loop-v.invariant.joined
