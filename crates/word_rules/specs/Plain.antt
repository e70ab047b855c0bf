-- Plain Words and Conds: nowhere in them stands an operation on two numbers, a sum with 0 or the like, a complement of a number
-- or of a complement, or a negation of a negation.
use Rattle.std.specs.Prelude.{Bool, true, false, not, ◌&&◌, nat_eq, if◌then◌else◌}
use Rattle.c_syntax.specs.declared.syntax.CBin.{CBin}
use Rattle.c_syntax.specs.declared.syntax.CBin.TheVariants as bin
use Rattle.c_syntax.specs.declared.syntax.CExpr.{CExpr, CExpr-F, fold-CExpr}
use Rattle.c_syntax.specs.declared.syntax.CCond.{CCond, CCond-F, fold-CCond}

-- what a part is to the whole around it
pub data Kind : Type 0 where
  nought : Kind
  number : Kind
  complement : Kind
  other : Kind

abbrev pub is_nought : Kind → Bool
is_nought nought = true
is_nought number = false
is_nought complement = false
is_nought other = false

abbrev pub is_numeric : Kind → Bool
is_numeric nought = true
is_numeric number = true
is_numeric complement = false
is_numeric other = false

abbrev pub is_complement : Kind → Bool
is_complement nought = false
is_complement number = false
is_complement complement = true
is_complement other = false

-- an operator that a second part 0 leaves without effect
abbrev pub drops_nought : CBin → Bool
drops_nought bin.Add = true
drops_nought bin.Sub = true
drops_nought bin.Mul = false
drops_nought bin.And = false
drops_nought bin.Or = true
drops_nought bin.Xor = true
drops_nought bin.Shl = true
drops_nought bin.Shr = true

-- a Word or a Cond, its kind, whether its parts are plain, and whether it is
pub record Look : Type 0 where
  pub kind : Kind
  pub parts : Bool
  pub whole : Bool

-- whether an operator stays between parts of these kinds
abbrev pub stays : CBin → Kind → Kind → Bool
stays op a b = not (is_numeric a && is_numeric b) && not (drops_nought op && is_nought b)

abbrev pub look : Kind → Bool → Bool → Look
look k parts top = record { kind = k; parts = parts; whole = parts && top }

abbrev pub word_look_at : CExpr-F Look Look → Look
word_look_at (CExpr-F.Num n) = look (if nat_eq n 0 then nought else number) true true
word_look_at (CExpr-F.Name n) = look other true true
word_look_at (CExpr-F.«CExpr::Not» a) = look complement a.whole (not (is_numeric a.kind) && not (is_complement a.kind))
word_look_at (CExpr-F.Bin op a b) = look other (a.whole && b.whole) (stays op a.kind b.kind)
word_look_at (CExpr-F.Fn1 g a) = look other a.whole true
word_look_at (CExpr-F.Fn2 g a b) = look other (a.whole && b.whole) true
word_look_at (CExpr-F.Fn3 g a b c) = look other (a.whole && (b.whole && c.whole)) true
word_look_at (CExpr-F.Pick t a b) = look other (t.whole && (a.whole && b.whole)) true

abbrev pub cond_look_at : CCond-F Look Look → Look
cond_look_at (CCond-F.Cmp op a b) = look other (a.whole && b.whole) true
cond_look_at (CCond-F.«CCond::Not» t) = look complement t.whole (not (is_complement t.kind))
cond_look_at (CCond-F.And t u) = look other (t.whole && u.whole) true
cond_look_at (CCond-F.Or t u) = look other (t.whole && u.whole) true

abbrev pub word_look : CExpr → Look
word_look = fold-CExpr Look Look cond_look_at word_look_at

abbrev pub cond_look : CCond → Look
cond_look = fold-CCond Look Look cond_look_at word_look_at

-- a plain Word, and a plain Cond
abbrev pub is_plain : CExpr → Bool
is_plain e = (word_look e).whole

abbrev pub is_plain_cond : CCond → Bool
is_plain_cond t = (cond_look t).whole

-- the parts of a Word, and of a Cond, are plain
abbrev pub has_plain_parts : CExpr → Bool
has_plain_parts e = (word_look e).parts

abbrev pub cond_has_plain_parts : CCond → Bool
cond_has_plain_parts t = (cond_look t).parts
