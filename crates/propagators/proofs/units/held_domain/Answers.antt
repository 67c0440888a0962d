use Rattle.propagators.proofs.Holding.{held_again, refused_again}
use Rattle.propagators.proofs.units.held_domain.Goals as goal

pub returns-in-Err-Full-clause-held : goal.returns-in-Err-Full-clause-held
returns-in-Err-Full-clause-held c = held_again c.args.layout.now c.args.p.now c.args.ops.now c.made_domain.new.ops c.collect.new.ops c.made_domain-in-Err-Full.new.ops c.args.pins.now c.made_domain.new.pins c.made_domain-in-Err-Full.new.pins c.made_domain-in-Err-Full.result c.in-Err-Full.ensures.refused c.collect.ensures c.made_domain-in-Err-Full.ensures.held

pub returns-in-Err-Full-clause-refused : goal.returns-in-Err-Full-clause-refused
returns-in-Err-Full-clause-refused c = refused_again c.args.layout.now c.args.p.now c.args.ops.now c.made_domain.new.ops c.collect.new.ops c.made_domain-in-Err-Full.new.ops c.args.pins.now c.made_domain.new.pins c.made_domain-in-Err-Full.new.pins c.made_domain-in-Err-Full.result c.in-Err-Full.ensures.refused c.collect.ensures c.made_domain-in-Err-Full.ensures.refused
