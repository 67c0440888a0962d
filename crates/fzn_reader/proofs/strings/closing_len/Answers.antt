-- A newline, an escaped byte, a quote, or another byte.
use Rattle.std.proofs.Common.{subst, Bool, arith}
use Rattle.std.proofs.lemmas.Bool.{ne_eqb}
use Rattle.fzn_reader.proofs.Closings.{GoesOn, goes_on_first, goes_on_escaped, goes_on_plain, never_closes_newline, is_closing}
use Rattle.fzn_reader.proofs.strings.closing_len.Goals as goal
use Rattle.fzn_reader.proofs.strings.closing_len.Goals.{then-escaped, else-escaped+else-byte-eq34}

pub loop-i-init : goal.loop-i-init
loop-i-init c = goes_on_first c.args.bytes.now

pub returns-then-byte-eq10-clause-none : goal.returns-then-byte-eq10-clause-none
returns-then-byte-eq10-clause-none c =
    never_closes_newline c.args.bytes.now c.loop-i.i c.loop-i.escaped (omega arith) c.if-byte-eq10.true c.loop-i.invariant

pub returns-then-byte-eq34-clause-found : goal.returns-then-byte-eq34-clause-found
returns-then-byte-eq34-clause-found c =
    is_closing c.args.bytes.now c.loop-i.i (omega arith) c.if-byte-eq34.true (subst (λ (v : Bool). GoesOn c.args.bytes.now c.loop-i.i v) c.if-escaped.false c.loop-i.invariant)

pub loop-i-preserved : goal.loop-i-preserved
loop-i-preserved c =
    elim c.if-escaped.branch [
      | then-escaped w ↦ rw w.escaped-is (goes_on_escaped c.args.bytes.now c.loop-i.i (omega arith) (ne_eqb _ 10 c.if-byte-eq10.false) (subst (λ (v : Bool). GoesOn c.args.bytes.now c.loop-i.i v) w.if-escaped.true c.loop-i.invariant))
      | else-escaped+else-byte-eq34 w ↦ rw w.escaped-is (goes_on_plain c.args.bytes.now c.loop-i.i (omega arith) (ne_eqb _ 10 c.if-byte-eq10.false) (ne_eqb _ 34 w.if-byte-eq34.false) (subst (λ (v : Bool). GoesOn c.args.bytes.now c.loop-i.i v) w.if-escaped.false c.loop-i.invariant))
    ]
