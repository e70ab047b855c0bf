use Rattle.dream_top.proofs.runs.run_text.Goals as goal

pub returns-clause-ok : goal.returns-clause-ok
returns-clause-ok c = record {
  function = c.in_ok-f.f;
  is_function = c.in_ok-f.ensures.ok;
  start = c.in_ok-begun.begun;
  is_start = c.in_ok-begun.ensures;
  lines = c.in_ok-text.ensures;
}
