use Rattle.std.proofs.Common.{◌≡◌, ◌<◌, true, false, List, Bool, length, get_or, sym, ◌∙◌, subst}
use Rattle.std.specs.BinaryHeap.{heap_items, heap_len, heap_capacity}
use Rattle.std.proofs.lemmas.List.{get_or_default}
use Rattle.constraint_queue.proofs.Flagging.{room_left, more_wait}
use Rattle.constraint_queue.proofs.flags.Flags.set.Goals as goal

pub invariant_of-self : goal.invariant_of-self
invariant_of-self c =
    let flags = c.self.inside.set.items in
    let within : c.args.c < length flags = subst (λ (fs : List Bool). c.args.c < length fs) (sym c.self.view_is) c.requires in
    let off : get_or flags c.args.c false ≡ false = get_or_default flags c.args.c false c.index.result.now within ∙ sym c.index.ensures ∙ c.if-index.false in
    more_wait (λ e. e.0.constraint) flags (heap_items c.self.inside.waiting) (heap_len c.self.inside.waiting) (heap_capacity c.self.inside.waiting) c.self.invariant _
    (heap_items c.push.new.self) (heap_len c.push.new.self) (heap_capacity c.push.new.self) within off c.in-Ok.ensures.permutation c.in-Ok.ensures.len c.push.ensures.capacity

pub returns-in-Err : goal.returns-in-Err
returns-in-Err c =
    let flags = c.self.inside.set.items in
    let within : c.args.c < length flags = subst (λ (fs : List Bool). c.args.c < length fs) (sym c.self.view_is) c.requires in
    let off : get_or flags c.args.c false ≡ false = get_or_default flags c.args.c false c.index.result.now within ∙ sym c.index.ensures ∙ c.if-index.false in
    let said : false ≡ true = c.in-Err.ensures.succeeds
    (room_left (λ e. e.0.constraint) flags (heap_items c.self.inside.waiting) (heap_len c.self.inside.waiting) (heap_capacity c.self.inside.waiting) c.self.invariant c.args.c within off) in
    absurd (cc)
