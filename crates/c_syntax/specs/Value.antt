-- The value of a Word and the truth of a Cond, where names stand for words. None where they are stuck: where a shift by
-- 32 or more is evaluated.
use Rattle.std.specs.Prelude.{ℕ, ◌-◌, ◌^◌, Bool, true, false, not, Option, Some, None}
use Rattle.run_parts.specs.World.{Names}
use Rattle.c_syntax.specs.declared.syntax.CExpr.{CExpr, CExpr-F, fold-CExpr}
use Rattle.c_syntax.specs.declared.syntax.CCond.{CCond, CCond-F, fold-CCond}
use Rattle.c_syntax.specs.Words.{bin_of, cmp_of, fn1_of, fn2_of, fn3_of}

-- what one part gives, unless it is stuck
abbrev pub each : {A B : Type 0} → (A → B) → Option A → Option B
each f None = None
each f (Some x) = Some (f x)

-- what two parts give, unless one of them is stuck
abbrev pub both : {A B C : Type 0} → (A → B → Option C) → Option A → Option B → Option C
both f None b = None
both f (Some x) None = None
both f (Some x) (Some y) = f x y

-- what three parts give, unless one of them is stuck
abbrev pub all_three : (ℕ → ℕ → ℕ → ℕ) → Option ℕ → Option ℕ → Option ℕ → Option ℕ
all_three f a b c = both (λ p z. Some (p z)) (both (λ x y. Some (f x y)) a b) c

-- one of two parts, by a test; the other isn't evaluated
abbrev pub picked : {A : Type 0} → Option Bool → Option A → Option A → Option A
picked None a b = None
picked (Some true) a b = a
picked (Some false) a b = b

-- a Word and a Cond by what names stand for
abbrev pub Word : Type 0
Word = Names → Option ℕ

abbrev pub Truth : Type 0
Truth = Names → Option Bool

-- A Word, by its parts: a constant, a name, the complement (C99 6.5.3.3), an operator, a function of one, two or three
-- words, and the conditional operator, which evaluates just one of its last two parts (C99 6.5.15).
abbrev pub word_at : CExpr-F Truth Word → Word
word_at (CExpr-F.Num n) v = Some n
word_at (CExpr-F.Name n) v = Some (v n)
word_at (CExpr-F.«CExpr::Not» a) v = each (λ x. 2 ^ 32 - 1 - x) (a v)
word_at (CExpr-F.Bin op a b) v = both (bin_of op) (a v) (b v)
word_at (CExpr-F.Fn1 f a) v = each (fn1_of f) (a v)
word_at (CExpr-F.Fn2 f a b) v = both (λ x y. Some (fn2_of f x y)) (a v) (b v)
word_at (CExpr-F.Fn3 f a b c) v = all_three (fn3_of f) (a v) (b v) (c v)
word_at (CExpr-F.Pick t a b) v = picked (t v) (a v) (b v)

-- A Cond, by its parts: a comparison, `!` (C99 6.5.3.3), and `&&` and `||`, which evaluate the second part only where
-- the first leaves it open (C99 6.5.13, 6.5.14).
abbrev pub truth_at : CCond-F Truth Word → Truth
truth_at (CCond-F.Cmp op a b) v = both (λ x y. Some (cmp_of op x y)) (a v) (b v)
truth_at (CCond-F.«CCond::Not» t) v = each not (t v)
truth_at (CCond-F.And t u) v = picked (t v) (u v) (Some false)
truth_at (CCond-F.Or t u) v = picked (t v) (Some true) (u v)

-- the value of a Word
abbrev pub word_of : CExpr → Word
word_of = fold-CExpr Truth Word truth_at word_at

-- the truth of a Cond
abbrev pub truth_of : CCond → Truth
truth_of = fold-CCond Truth Word truth_at word_at
