use Rattle.std.proofs.Common.{◌≡◌, length}
use Rattle.std.proofs.lemmas.Result.{IfOk-weaker}
use Rattle.std.proofs.lemmas.Slice.Zip.{AllZip-long}
use Rattle.table_machine.specs.declared.states.State.TheVariants.{Free}
use Rattle.table_machine.specs.Tables.{Tables, AreTables}
use Rattle.table_machine.specs.Values.{AreReadingsOf, IsReadingOf}
use Rattle.table_machine.proofs.Fitting.{initial_tables, initial_accepts, if_both}
use Rattle.table_machine.proofs.machine.TableMachine.initial_values.Goals as goal

pub read_initial_values-requires-clause-bits : goal.read_initial_values-requires-clause-bits
read_initial_values-requires-clause-bits c =
    c.bits_of_a_scope_are_one.ensures.known c.args.layout.now c.requires.bits.0 c.args.bits.now c.requires.bits.1

pub returns-clause-valid : goal.returns-clause-valid
returns-clause-valid c =
    if_both (λ (m : Tables). AreReadingsOf c.args.layout.now m.words c.args.bits.now m.readings) (λ (m : Tables). m.start ≡ Free) AreTables c.read_initial_values.result
    (λ m zip free. initial_tables c.word_laws.ensures c.args.layout.now c.args.bits.now m c.obeys_order.ensures c.requires.bits zip free)
    c.read_initial_values.ensures.readings c.read_initial_values.ensures.start

pub returns-clause-places : goal.returns-clause-places
returns-clause-places c =
    IfOk-weaker c.read_initial_values.result (λ (m : Tables). AreReadingsOf c.args.layout.now m.words c.args.bits.now m.readings) (λ (m : Tables). length m.readings ≡ length c.args.bits.now)
    (λ m zip. AllZip-long (IsReadingOf c.args.layout.now m.words) c.args.bits.now m.readings zip) c.read_initial_values.ensures.readings

pub returns-clause-accepts : goal.returns-clause-accepts
returns-clause-accepts c =
    if_both (λ (m : Tables). AreReadingsOf c.args.layout.now m.words c.args.bits.now m.readings) (λ (m : Tables). m.start ≡ Free) _ c.read_initial_values.result
    (λ m zip free scope w are known. initial_accepts c.word_laws.ensures c.args.layout.now scope c.args.bits.now m w c.obeys_order.ensures are known zip free)
    c.read_initial_values.ensures.readings c.read_initial_values.ensures.start
