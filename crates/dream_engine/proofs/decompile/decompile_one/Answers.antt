use Rattle.std.proofs.Common.{sym, subst}
use Rattle.c_syntax.specs.Stands.{StandsFor}
use Rattle.dream_engine.proofs.decompile.decompile_one.Goals as goal

pub returns-clause-ok : goal.returns-clause-ok
returns-clause-ok c =
    let f = c.in_ok-f.f in
    record {
      function = f;
      is_function = c.in_ok-f.ensures.ok;
      is_canonical = c.in_ok-text.ensures;
      stands = subst (λ t. StandsFor t f) (sym c.in_ok-text.ensures) (c.canonical_stands.ensures f c.in_ok-f.ensures.ok.formed);
    }
