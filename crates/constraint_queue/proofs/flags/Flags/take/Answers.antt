use Rattle.std.proofs.Common.{◌≡◌, ◌<◌, ◌+◌, Bool, List, length, false, set, subst, sym, arith}
use Rattle.std.specs.Prelude.{count_by}
use Rattle.std.specs.BinaryHeap.{heap_items, heap_len, heap_capacity}
use Rattle.constraint_queue.proofs.Flagging.{had_flag, fewer_flags, fewer_wait, flag_within}
use Rattle.constraint_queue.proofs.flags.Flags.take.Goals as goal

pub index_mut-requires : goal.index_mut-requires
index_mut-requires c =
    let within = flag_within c.self.inside.set.items c.in-Some.entry.0.constraint
    (had_flag (λ e. e.0.constraint) c.self.inside.set.items (heap_items c.self.inside.waiting) (heap_len c.self.inside.waiting) (heap_capacity c.self.inside.waiting) c.self.invariant c.in-Some.entry
    (heap_items c.pop.new.self) c.in-Some.ensures.permutation) in
    let same = c.self.inside.set.ok in
    omega (arith, within, same)

pub invariant_of-self : goal.invariant_of-self
invariant_of-self c =
    subst (λ room. Rattle.constraint_queue.specs.Waiting.AreWaiting (λ e. e.0.constraint) (set c.self.inside.set.items c.in-Some.entry.0.constraint false) (heap_items c.pop.new.self) (heap_len c.pop.new.self) room)
    (sym c.pop.ensures.capacity)
    (fewer_wait (λ e. e.0.constraint) c.self.inside.set.items (heap_items c.self.inside.waiting) (heap_len c.self.inside.waiting) (heap_capacity c.self.inside.waiting) c.self.invariant c.in-Some.entry
    (heap_items c.pop.new.self) c.in-Some.ensures.permutation (heap_len c.pop.new.self) c.in-Some.ensures.len)

pub returns-in-Some-clause-fewer : goal.returns-in-Some-clause-fewer
returns-in-Some-clause-fewer c =
    subst (λ (fs : List Bool). count_by (λ b. b) (set c.self.inside.set.items c.in-Some.entry.0.constraint false) + 1 ≡ count_by (λ b. b) fs) c.self.view_is
    (fewer_flags (λ e. e.0.constraint) c.self.inside.set.items (heap_items c.self.inside.waiting) (heap_len c.self.inside.waiting) (heap_capacity c.self.inside.waiting) c.self.invariant c.in-Some.entry
    (heap_items c.pop.new.self) c.in-Some.ensures.permutation)
