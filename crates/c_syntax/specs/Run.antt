-- The run of a function: each statement is a part of it.
use Rattle.std.specs.Prelude.{ℕ, List, Option, Some, None, map}
use Rattle.dream_words.specs.declared.machine.Name.{Name}
use Rattle.dream_words.specs.declared.machine.Width.{Width}
use Rattle.dream_words.specs.declared.outcome.Start.{Start}
use Rattle.dream_words.specs.declared.outcome.Answer.{Answer}
use Rattle.dream_words.specs.declared.outcome.Outcome.{Outcome}
use Rattle.run_parts.specs.Parts.{Part as AnyPart, Test as AnyTest, skip, leave_loop, in_turn, first_arm, switch, repeat, always}
use Rattle.run_parts.specs.Steps.{Halt, having, simply}
use Rattle.run_parts.specs.World.{World, returned, start_world, outcome_of}
use Rattle.run_parts.specs.Effects.{Doing, setting, loading, storing, calling, trapping}
use Rattle.c_syntax.specs.declared.syntax.CExpr.{CExpr}
use Rattle.c_syntax.specs.declared.syntax.CCond.{CCond}
use Rattle.c_syntax.specs.declared.syntax.CStmt.{CStmt, CStmt-F, fold-CStmt}
use Rattle.c_syntax.specs.declared.syntax.CArm.{CArm, CArm-F, fold-CArm}
use Rattle.c_syntax.specs.declared.syntax.CGroup.{CGroup, CGroup-F, fold-CGroup}
use Rattle.c_syntax.specs.declared.syntax.CFun.{CFun}
use Rattle.c_syntax.specs.Value.{word_of, truth_of}

-- parts and tests of a run of C
abbrev pub Part : Type 0
Part = AnyPart World Outcome

abbrev pub Test : Type 0
Test = AnyTest World

-- the value of a Word in a world
abbrev pub word_in : CExpr → World → Option ℕ
word_in e w = word_of e w.names

-- a Cond as a test
abbrev pub holds : CCond → Test
holds t w = truth_of t w.names

-- What each simple statement does in a world: its Words are evaluated, and then it has its effect.
abbrev pub does_set : Name → CExpr → World → Doing
does_set n e w = having (word_in e w) (λ x. setting n x w)

abbrev pub does_load : Name → Width → CExpr → World → Doing
does_load n width e w = having (word_in e w) (λ at. loading n width at w)

abbrev pub does_store : Width → CExpr → CExpr → World → Doing
does_store width e f w = having (word_in e w) (λ at. having (word_in f w) (λ x. storing width at x w))

abbrev pub does_ext : CExpr → World → Doing
does_ext e w = having (word_in e w) (λ target. calling target w)

abbrev pub does_trap : ℕ → CExpr → World → Doing
does_trap vector e w = having (word_in e w) (λ x. trapping vector x w)

-- the body of an `else`, which may be missing
abbrev pub or_skip : Option (List Part) → Part
or_skip None = skip
or_skip (Some parts) = in_turn parts

-- A statement, by its parts: assignment (C99 6.5.16.1), the accesses to memory, a call, a fault, `if` (6.8.4.1),
-- `switch` (6.8.4.2), `while` (6.8.5.1), `do` (6.8.5.2), `break` (6.8.6.3) and `return` (6.8.6.4).
abbrev pub stmt_at : CStmt-F Part (Test × Part) (List ℕ × Part) → Part
stmt_at (CStmt-F.Set n e) = simply (does_set n e)
stmt_at (CStmt-F.Load n width e) = simply (does_load n width e)
stmt_at (CStmt-F.Store width e f) = simply (does_store width e f)
stmt_at (CStmt-F.Ext e) = simply (does_ext e)
stmt_at (CStmt-F.Trap vector e) = simply (does_trap vector e)
stmt_at (CStmt-F.If arms last) = first_arm arms (or_skip last)
stmt_at (CStmt-F.Switch e groups last) = switch (word_in e) groups (in_turn last)
stmt_at (CStmt-F.Loop body) = repeat always (in_turn body) always
stmt_at (CStmt-F.While t body) = repeat (holds t) (in_turn body) always
stmt_at (CStmt-F.DoWhile body t) = repeat always (in_turn body) (holds t)
stmt_at CStmt-F.Break = leave_loop
stmt_at CStmt-F.Return = simply (λ w. Halt (returned w))

-- an arm of an `if`: its test and its body
abbrev pub arm_at : CArm-F Part (Test × Part) (List ℕ × Part) → Test × Part
arm_at a = (holds a.test, in_turn a.body)

-- a group of a switch: its values and its body
abbrev pub group_at : CGroup-F Part (Test × Part) (List ℕ × Part) → List ℕ × Part
group_at g = (g.values, in_turn g.body)

-- what a statement does
abbrev pub run : CStmt → Part
run = fold-CStmt Part (Test × Part) (List ℕ × Part) stmt_at arm_at group_at

abbrev pub run_arm : CArm → Test × Part
run_arm = fold-CArm Part (Test × Part) (List ℕ × Part) stmt_at arm_at group_at

abbrev pub run_group : CGroup → List ℕ × Part
run_group = fold-CGroup Part (Test × Part) (List ℕ × Part) stmt_at arm_at group_at

-- what statements do, one after another
abbrev pub run_all : List CStmt → Part
run_all body = in_turn (map run body)

-- The run of a function with at most m loop turns in all, a turn being one entry into a loop's body. It goes on exactly
-- where one more turn was needed.
abbrev pub c_run : CFun → Start → List Answer → ℕ → Outcome
c_run f start answers m = outcome_of (run_all f.body m (start_world start answers))
