use Rattle.propagators.proofs.Holding.{held_again, refused_again}
use Rattle.propagators.proofs.units.held_diagram.Goals as goal

pub returns-in-Err-Full-clause-held : goal.returns-in-Err-Full-clause-held
returns-in-Err-Full-clause-held c = held_again c.args.layout.now c.args.p.now c.args.ops.now c.made_diagram.new.ops c.collect.new.ops c.made_diagram-in-Err-Full.new.ops c.args.pins.now c.made_diagram.new.pins c.made_diagram-in-Err-Full.new.pins c.made_diagram-in-Err-Full.result c.in-Err-Full.ensures.refused c.collect.ensures c.made_diagram-in-Err-Full.ensures.held

pub returns-in-Err-Full-clause-refused : goal.returns-in-Err-Full-clause-refused
returns-in-Err-Full-clause-refused c = refused_again c.args.layout.now c.args.p.now c.args.ops.now c.made_diagram.new.ops c.collect.new.ops c.made_diagram-in-Err-Full.new.ops c.args.pins.now c.made_diagram.new.pins c.made_diagram-in-Err-Full.new.pins c.made_diagram-in-Err-Full.result c.in-Err-Full.ensures.refused c.collect.ensures c.made_diagram-in-Err-Full.ensures.refused
