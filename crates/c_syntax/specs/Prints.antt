-- Two functions and their canonical texts, letter by letter. No law on tokens says where blanks and line ends stand.
use Rattle.std.specs.Prelude.{◌≡◌, ℕ, [], ◌∷◌, ◌++◌, ◌≤◌, replicate, Some, codes, length}
use Rattle.dream_words.specs.declared.machine.Width.TheVariants as width
use Rattle.dream_words.specs.declared.machine.Name.TheVariants as name
use Rattle.c_syntax.specs.declared.syntax.CBin.TheVariants as bin
use Rattle.c_syntax.specs.declared.syntax.CCmp.TheVariants as cmp
use Rattle.c_syntax.specs.declared.syntax.CFn1.TheVariants as fn1
use Rattle.c_syntax.specs.declared.syntax.CFn2.TheVariants as fn2
use Rattle.c_syntax.specs.declared.syntax.CFn3.TheVariants as fn3
use Rattle.c_syntax.specs.declared.syntax.CExpr.{CExpr, CExpr-F, roll-CExpr}
use Rattle.c_syntax.specs.declared.syntax.CCond.{CCond-F, roll-CCond}
use Rattle.c_syntax.specs.declared.syntax.CStmt.{CStmt, CStmt-F, roll-CStmt}
use Rattle.c_syntax.specs.declared.syntax.CArm.{roll-CArm}
use Rattle.c_syntax.specs.declared.syntax.CGroup.{roll-CGroup}
use Rattle.c_syntax.specs.declared.syntax.CFun.{CFun}
use Rattle.c_syntax.specs.Text.{Text, include_line, indent, canonical_text}

-- ---- a function is built of these

abbrev pub num : ℕ → CExpr
num n = roll-CExpr (CExpr-F.Num n)

abbrev pub reg : ℕ → CExpr
reg n = roll-CExpr (CExpr-F.Name (name.Reg n))

abbrev pub flag : ℕ → CExpr
flag n = roll-CExpr (CExpr-F.Name (name.Flag n))

abbrev pub t : ℕ → CExpr
t n = roll-CExpr (CExpr-F.Name (name.T n))

abbrev pub b : ℕ → CExpr
b n = roll-CExpr (CExpr-F.Name (name.B n))

abbrev pub s : ℕ → CExpr
s n = roll-CExpr (CExpr-F.Name (name.S n))

-- ---- returns 5

abbrev pub returns_five : CFun
returns_five = record {
  address = 0x08048100;
  temps = 0;
  bools = 0;
  selectors = 0;
  body =
      roll-CStmt (CStmt-F.Set (name.Reg 0) (num 5))
      ∷ roll-CStmt (CStmt-F.Set (name.Reg 4) (roll-CExpr (CExpr-F.Bin bin.Add (reg 4) (num 4))))
      ∷ roll-CStmt CStmt-F.Return
      ∷ [];
}

abbrev pub text_of_five : Text
text_of_five = codes "#include \"dream386.h\"\n\nvoid f_08048100(void)\n{\n  eax = 0x5u;\n  esp = (esp + 0x4u);\n  return;\n}\n"

-- ---- one of each statement

-- `b1 = ((t0 <= 0x3u) ? sar(eax, 0x1u) : (~par(ecx)));`
abbrev pub a_choice : CStmt
a_choice = roll-CStmt (CStmt-F.Set (name.B 1) (roll-CExpr (CExpr-F.Pick
    (roll-CCond (CCond-F.Cmp cmp.Le (t 0) (num 3)))
    (roll-CExpr (CExpr-F.Fn2 fn2.Sar (reg 0) (num 1)))
    (roll-CExpr (CExpr-F.«CExpr::Not» (roll-CExpr (CExpr-F.Fn1 fn1.Par (reg 1))))))))

-- `if` with an `else if` and an `else`
abbrev pub arms : CStmt
arms = roll-CStmt (CStmt-F.If
    (roll-CArm (record {
      test = roll-CCond (CCond-F.Cmp cmp.Lt (t 0) (num 2));
      body = roll-CStmt (CStmt-F.Store width.W (reg 4) (roll-CExpr (CExpr-F.«CExpr::Not» (t 0)))) ∷ [];
    })
    ∷ roll-CArm (record {
      test = roll-CCond (CCond-F.«CCond::Not» (roll-CCond (CCond-F.Or
          (roll-CCond (CCond-F.Cmp cmp.Eq (flag 0) (num 0)))
          (roll-CCond (CCond-F.Cmp cmp.Ne (flag 2) (num 0))))));
      body = roll-CStmt (CStmt-F.Ext (num 0x08049000)) ∷ [];
    })
    ∷ [])
    (Some (roll-CStmt (CStmt-F.Trap 0 (roll-CExpr (CExpr-F.Fn3 fn3.Divubad (reg 2) (reg 0) (reg 1)))) ∷ [])))

-- a switch with a group of two values that has an endless loop, a group of one value, and an empty default
abbrev pub groups : CStmt
groups = roll-CStmt (CStmt-F.Switch (s 0)
    (roll-CGroup (record { values = 1 ∷ 10 ∷ []; body = roll-CStmt (CStmt-F.Loop (roll-CStmt CStmt-F.Break ∷ [])) ∷ [] })
    ∷ roll-CGroup (record { values = 2 ∷ []; body = roll-CStmt (CStmt-F.Set (name.S 0) (num 0)) ∷ [] })
    ∷ [])
    [])

abbrev pub each_statement : CFun
each_statement = record {
  address = 0xbeef;
  temps = 1;
  bools = 2;
  selectors = 1;
  body =
      roll-CStmt (CStmt-F.Load (name.T 0) width.H (roll-CExpr (CExpr-F.Bin bin.Sub (reg 5) (num 16))))
      ∷ arms
      ∷ roll-CStmt (CStmt-F.DoWhile (a_choice ∷ groups ∷ [])
      (roll-CCond (CCond-F.And (roll-CCond (CCond-F.Cmp cmp.Ne (b 1) (num 0))) (roll-CCond (CCond-F.Cmp cmp.Lt (t 0) (num 16))))))
      ∷ roll-CStmt (CStmt-F.While (roll-CCond (CCond-F.Cmp cmp.Eq (roll-CExpr (CExpr-F.Name name.Fs)) (roll-CExpr (CExpr-F.Bin bin.Shr (roll-CExpr (CExpr-F.Name name.Gs)) (num 31))))) [])
      ∷ roll-CStmt CStmt-F.Return
      ∷ [];
}

abbrev pub text_of_each_statement : Text
text_of_each_statement =
    codes "#include \"dream386.h\"\n"
    ++ codes "\n"
    ++ codes "void f_0000beef(void)\n"
    ++ codes "{\n"
    ++ codes "  uint32_t t0 = 0u;\n"
    ++ codes "  uint32_t b0 = 0u;\n"
    ++ codes "  uint32_t b1 = 0u;\n"
    ++ codes "  uint32_t s0 = 0u;\n"
    ++ codes "  t0 = ld2((ebp - 0x10u));\n"
    ++ codes "  if ((t0 < 0x2u)) {\n"
    ++ codes "    st4(esp, (~t0));\n"
    ++ codes "  } else if ((!((cf == 0x0u) || (zf != 0x0u)))) {\n"
    ++ codes "    ext(0x8049000u);\n"
    ++ codes "  } else {\n"
    ++ codes "    trap(0x0u, divubad(edx, eax, ecx));\n"
    ++ codes "  }\n"
    ++ codes "  do {\n"
    ++ codes "    b1 = ((t0 <= 0x3u) ? sar(eax, 0x1u) : (~par(ecx)));\n"
    ++ codes "    switch (s0) {\n"
    ++ codes "    case 0x1u: case 0xau: {\n"
    ++ codes "      while (1) {\n"
    ++ codes "        break;\n"
    ++ codes "      }\n"
    ++ codes "    } break;\n"
    ++ codes "    case 0x2u: {\n"
    ++ codes "      s0 = 0x0u;\n"
    ++ codes "    } break;\n"
    ++ codes "    default: {\n"
    ++ codes "    } break;\n"
    ++ codes "    }\n"
    ++ codes "  } while (((b1 != 0x0u) && (t0 < 0x10u)));\n"
    ++ codes "  while ((fsbase == (gsbase >> 0x1fu))) {\n"
    ++ codes "  }\n"
    ++ codes "  return;\n"
    ++ codes "}\n"

-- ---- the claims
pub record PrintsSo : Type 0 where
  pub include_has_22_bytes : length include_line ≡ 22
  pub returns_five_is : canonical_text returns_five ≡ text_of_five
  pub five_has_95_bytes : length text_of_five ≡ 95
  -- levels past 32 are indented as 32, by 64 spaces
  pub deep_levels : (level : ℕ) → 32 ≤ level → indent level ≡ replicate 64 32
  pub each_statement_is : canonical_text each_statement ≡ text_of_each_statement
