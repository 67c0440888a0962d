use Rattle.std.proofs.Common.{◌≡◌, ◌≤◌, ◌<◌, List, [], length, get_or, refl, subst, sym, ◌∙◌, arith}
use Rattle.std.proofs.lemmas.List.{get_or_default}
use Rattle.constraint_queue.specs.Waiting.{AreReadersOf}
use Rattle.constraint_queue.proofs.Joining.{readers_more, no_readers}
use Rattle.constraint_queue.proofs.readers.readers_of.Goals as goal

pub loop-c-preserved : goal.loop-c-preserved
loop-c-preserved c = record {
  long = c.in_ok-join_each.ensures.long ∙ c.loop-c.invariant.long;
  readers = readers_more c.loop-c.c c.args.scopes.now c.loop-c.readers.items c.join_each.new.readers.items (record { 0 = c.loop-c.c }) c.items.result.now refl
      (get_or_default c.args.scopes.now c.loop-c.c [] c.index-scopes-c.result c.loop-c-test.true ∙ sym c.index-scopes-c.is ∙ sym c.items.ensures)
      c.loop-c.invariant.readers c.in_ok-join_each.ensures.joined;
}

pub returns : goal.returns
returns c =
    let past : length c.args.scopes.now ≤ c.loop-c.c = c.loop-c-test.false in
    let end = c.loop-c.auto.c-end in
    subst (λ n. AreReadersOf n c.args.scopes.now c.loop-c.readers.items) (let e : c.loop-c.c ≡ length c.args.scopes.now = omega (arith, past, end) in e) c.loop-c.invariant.readers
