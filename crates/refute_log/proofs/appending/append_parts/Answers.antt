use Rattle.refute_log.proofs.Fronting.{written_second, front_first, front_second, on_err, err_as}
use Rattle.refute_log.proofs.appending.append_parts.Goals as goal

pub returns-in_err-write_text-2-clause-err : goal.returns-in_err-write_text-2-clause-err
returns-in_err-write_text-2-clause-err g c =
    on_err c.from_residual-in_err-write_text-2.result _
    (front_first _ _ _ c.args.third.now (front_second _ _ _ c.args.first.now c.args.second.now c.in_ok-write_text.ensures.ok c.in_err-write_text-2.ensures.err))

pub returns-clause-err : goal.returns-clause-err
returns-clause-err g c =
    err_as c.write_text-3.result _ _
    (λ front. front_second _ _ _ _ c.args.third.now (written_second _ _ _ c.args.first.now c.args.second.now c.in_ok-write_text.ensures.ok c.in_ok-write_text-2.ensures.ok) front)
    c.write_text-3.ensures.err
