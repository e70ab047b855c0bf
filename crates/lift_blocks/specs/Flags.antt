-- The statements that set flags to the words of an operation, and that keep its result meanwhile.
use Rattle.std.specs.Prelude.{List, [], ◌∷◌, ◌++◌}
use Rattle.dream_words.specs.declared.machine.Name.TheVariants.{Flag, T}
use Rattle.x86_inst.specs.declared.Size.{Size}
use Rattle.x86_inst.specs.declared.Operand.{Operand}
use Rattle.c_syntax.specs.declared.syntax.CExpr.{CExpr}
use Rattle.micro_ir.specs.declared.flow.Stmt.{Stmt}
use Rattle.micro_ir.specs.declared.flow.Stmt.TheVariants as stmt
use Rattle.lift_parts.specs.Parts.{temp, writes}
use Rattle.lift_alu.specs.declared.alu.AluLift.{AluLift}

-- OF, SF, ZF and PF are set
abbrev pub sets_but_carry : AluLift → List Stmt
sets_but_carry l = stmt.Set (Flag 4) l.o ∷ stmt.Set (Flag 3) l.s ∷ stmt.Set (Flag 2) l.z ∷ stmt.Set (Flag 1) l.p ∷ []

-- all flags are set; CF, which the other words may read, comes last
abbrev pub sets_flags : AluLift → List Stmt
sets_flags l = sets_but_carry l ++ stmt.Set (Flag 0) l.c ∷ []

-- a result is kept, the flags are set, and the result is written
abbrev pub computes : Size → Operand → List Stmt → CExpr → List Stmt
computes size d flags result = stmt.Set (T 2) result ∷ (flags ++ writes size d (temp 2))
