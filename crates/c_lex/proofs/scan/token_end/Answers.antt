use Rattle.std.proofs.Common.{◌∷◌, ap, sym, ◌∙◌, arith}
use Rattle.c_lex.proofs.Scanning.{more_tokens, more_places}
use Rattle.c_lex.proofs.scan.token_end.Goals as goal

pub loop-end-preserved : goal.loop-end-preserved
loop-end-preserved c =
    let e = sym c.extends.ensures ∙ c.if-not-extends.false in
    record {
      long = omega arith;
      inside = omega arith;
      tokens = c.loop-end.invariant.tokens ∙ more_tokens c.args.text.now c.args.at c.loop-end.end (omega arith) (omega arith) e;
      places = c.loop-end.invariant.places ∙ ap (λ r. c.args.at ∷ r) (more_places c.args.text.now c.args.at c.loop-end.end (omega arith) (omega arith) e);
    }
