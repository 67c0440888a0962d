use Rattle.std.proofs.Common.{◌≡◌, ◌<◌, List, [], Bool, length, get_or, sym, ap, ◌∙◌, subst}
use Rattle.std.specs.List.{All}
use Rattle.std.proofs.lemmas.List.{get_or_default, get_or_past}
use Rattle.set_meaning.specs.declared.problems.VarId.{VarId}
use Rattle.set_meaning.specs.declared.problems.ConId.{ConId}
use Rattle.constraint_queue.specs.Queue.{QueueState, HasFlaggedReaders}
use Rattle.constraint_queue.specs.Waiting.{list_of, HaveFlags}
use Rattle.constraint_queue.proofs.Setting.{readers_flagged, no_readers_flagged, readers_known}
use Rattle.constraint_queue.proofs.queue.ConstraintQueue.flag_readers.Goals as goal

pub flag_each-requires-clause-known : goal.flag_each-requires-clause-known
flag_each-requires-clause-known c =
    let lists = c.self.inside.readers.items in
    let lookup = c.in-Some.ensures.lookup in
    let found : c.in-Some.readers.now ≡ get_or lists c.args.v.0 [] =
    lookup.1 ∙ get_or_default c.deref.result.now c.args.v.0 c.in-Some.readers.now [] lookup.3.0 ∙ ap (λ (ls : List (List ConId)). get_or ls c.args.v.0 []) c.deref.ensures.value in
    subst (λ (l : List ConId). All (λ (d : ConId). d.0 < length c.as_slice.result.now) l) (sym (c.list.ensures ∙ found))
    (subst (λ (ss : List (List VarId)). All (λ (d : ConId). d.0 < length ss) (list_of lists c.args.v)) (sym c.as_slice.ensures.value)
    (readers_known c.self.inside.scopes.items lists c.self.inside.flags c.args.v c.self.invariant))

pub returns-in-Some : goal.returns-in-Some
returns-in-Some c =
    let lists = c.self.inside.readers.items in
    let lookup = c.in-Some.ensures.lookup in
    let found : c.in-Some.readers.now ≡ get_or lists c.args.v.0 [] =
    lookup.1 ∙ get_or_default c.deref.result.now c.args.v.0 c.in-Some.readers.now [] lookup.3.0 ∙ ap (λ (ls : List (List ConId)). get_or ls c.args.v.0 []) c.deref.ensures.value in
    subst (λ (q : QueueState). HasFlaggedReaders q (record { scopes = c.self.inside.scopes.items; flags = c.flag_each.new.flags }) c.args.v c.args.but) c.self.view_is
    (readers_flagged c.args.but c.self.inside.scopes.items lists c.self.inside.flags c.flag_each.new.flags c.args.v c.self.invariant c.flag_each.ensures.long
    (subst (λ (l : List ConId). HaveFlags l c.args.but c.self.inside.flags c.flag_each.new.flags) (c.list.ensures ∙ found) c.flag_each.ensures.flags))

pub returns-in-None : goal.returns-in-None
returns-in-None c =
    let lists = c.self.inside.readers.items in
    let past = c.in-None.ensures.lookup.3 in
    let none : get_or lists c.args.v.0 [] ≡ [] = sym (ap (λ (ls : List (List ConId)). get_or ls c.args.v.0 []) c.deref.ensures.value) ∙ get_or_past c.deref.result.now c.args.v.0 [] past in
    subst (λ (q : QueueState). HasFlaggedReaders q q c.args.v c.args.but) c.self.view_is
    (no_readers_flagged c.args.but c.self.inside.scopes.items lists c.self.inside.flags c.self.inside.flags c.args.v c.self.invariant none)
