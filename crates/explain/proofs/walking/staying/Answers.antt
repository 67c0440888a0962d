use Rattle.explain.proofs.walking.staying.Goals as goal

pub returns : goal.returns
returns c = record {
  families = c.readings_stay.ensures.family;
  entries = c.readings_stay.ensures.entries;
  boxes = c.readings_stay.ensures.boxes;
  trail = c.states_stay.ensures.trail c.args.p.now;
  compiled = λ l t u k. c.compiled_stays.ensures.pinned l c.args.p.now t u k;
}
