-- A Word or a Cond that may stand for another and is plain.
use Rattle.std.specs.Prelude.{IsTrue}
use Rattle.c_syntax.specs.declared.syntax.CExpr.{CExpr}
use Rattle.c_syntax.specs.declared.syntax.CCond.{CCond}
use Rattle.word_rules.specs.Standing.{ForWord, ForCond}
use Rattle.word_rules.specs.Plain.{is_plain, is_plain_cond, has_plain_parts, cond_has_plain_parts}

-- it may stand for the Word, and is plain where the parts of that are
pub record Settles (e f : CExpr) : Type 0 where
  pub stands : ForWord e f
  pub plain : IsTrue (has_plain_parts e) → IsTrue (is_plain f)

pub record SettlesCond (t u : CCond) : Type 0 where
  pub stands : ForCond t u
  pub plain : IsTrue (cond_has_plain_parts t) → IsTrue (is_plain_cond u)

-- it may stand for the Word, and has plain parts where that has
pub record Becomes (e f : CExpr) : Type 0 where
  pub stands : ForWord e f
  pub plain : IsTrue (has_plain_parts e) → IsTrue (has_plain_parts f)

-- it may stand for the Word, and is plain
pub record IsPlainFor (e f : CExpr) : Type 0 where
  pub stands : ForWord e f
  pub plain : IsTrue (is_plain f)

pub record IsPlainForCond (t u : CCond) : Type 0 where
  pub stands : ForCond t u
  pub plain : IsTrue (is_plain_cond u)
