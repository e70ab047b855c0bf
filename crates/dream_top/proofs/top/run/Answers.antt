use Rattle.dream_top.proofs.top.run.Goals as goal

pub returns-clause-ok : goal.returns-clause-ok
returns-clause-ok g c = record {
  m = c.in_ok-found.found.image;
  r = c.in_ok-found.found.range;
  loads = c.in_ok-found.ensures.ok;
  holds = c.in_ok-run_text.ensures.ok;
}
