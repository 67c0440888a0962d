use Rattle.std.proofs.Common.{◌∙◌, ap, get_or}
use Rattle.table_machine.specs.Tables.{Tables}
use Rattle.table_machine.proofs.Steps.{can_read_at, state_after, occurs_next}
use Rattle.table_machine.proofs.machine.TableMachineMachine.step.Goals as goal

pub after-requires : goal.after-requires
after-requires c =
    let same = c.as_slice.ensures.value ∙ ap (λ (t : Tables). t.words) c.self.view_is in
    let here = c.index.ensures ∙ ap (λ (t : Tables). get_or t.readings c.args.at c.index.result.now) c.self.view_is in
    can_read_at c.args.self.now c.args.at c.index.result.now c.args.state c.as_slice.result.now same c.requires.within here c.requires.from

pub returns-clause-state : goal.returns-clause-state
returns-clause-state c =
    let same = c.as_slice.ensures.value ∙ ap (λ (t : Tables). t.words) c.self.view_is in
    let here = c.index.ensures ∙ ap (λ (t : Tables). get_or t.readings c.args.at c.index.result.now) c.self.view_is in
    state_after c.args.self.now c.args.at c.index.result.now c.args.state c.after.result c.args.value c.as_slice.result.now same c.requires.within here c.after.ensures

pub returns-clause-to : goal.returns-clause-to
returns-clause-to c =
    let same = c.as_slice.ensures.value ∙ ap (λ (t : Tables). t.words) c.self.view_is in
    let here = c.index.ensures ∙ ap (λ (t : Tables). get_or t.readings c.args.at c.index.result.now) c.self.view_is in
    occurs_next c.args.self.now c.args.at c.index.result.now c.args.state c.after.result c.args.value c.as_slice.result.now same c.requires.within here c.after.ensures c.requires.from
