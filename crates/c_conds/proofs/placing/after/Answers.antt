use Rattle.std.proofs.Common.{◌∙◌, sym}
use Rattle.c_syntax.specs.declared.syntax.CStmt.TheVariants as stmt
use Rattle.c_conds.proofs.Tests.{after_if}
use Rattle.c_conds.proofs.placing.after.Goals as goal

pub returns-in-B : goal.returns-in-B
returns-in-B c = after_if c.args.before.now c.in-Set.n c.in-B.k c.in-Set.e c.args.t.now c.after_set.result (c.in-Set.is ∙ sym (stmt.rolls-Set c.in-Set.n c.in-Set.e)) c.in-B.is c.after_set.ensures
