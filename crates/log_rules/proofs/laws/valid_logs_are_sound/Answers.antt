use Rattle.log_rules.proofs.Sound.{valid_table, valid_sides, valid_answers, valid_boxes}
use Rattle.log_rules.proofs.laws.valid_logs_are_sound.Goals as goal

pub returns-clause-table : goal.returns-clause-table
returns-clause-table c log all = valid_table c.args.p.now c.requires log all

pub returns-clause-sides : goal.returns-clause-sides
returns-clause-sides c log k box all is = valid_sides c.args.p.now c.requires log all k box is

pub returns-clause-answers : goal.returns-clause-answers
returns-clause-answers c log all = valid_answers c.args.p.now c.requires log all

pub returns-clause-boxes : goal.returns-clause-boxes
returns-clause-boxes c log k box values all is solution inside = valid_boxes c.args.p.now c.requires log all k box is values solution inside
