-- When words are those of an operation's result and flags, and when a condition is that of the flags.
use Rattle.std.specs.Prelude.{◌≡◌, ℕ, ◌^◌, ◌<◌, Bool, Option, Some, None, IsSome}
use Rattle.dream_words.specs.Words.{low_part, bit_of}
use Rattle.dream_words.specs.declared.machine.Bit.{Bit}
use Rattle.dream_words.specs.declared.machine.Bit.TheVariants.{Zero, One, Undefined}
use Rattle.dream_words.specs.declared.machine.Flags.{Flags}
use Rattle.dream_words.specs.declared.machine.Name.TheVariants.{Flag}
use Rattle.x86_inst.specs.declared.AluOp.{AluOp}
use Rattle.x86_inst.specs.declared.AluOp.TheVariants.{Adc, Sbb}
use Rattle.x86_model.specs.Arithmetic.{alu_value, alu_flags}
use Rattle.x86_model.specs.Effects.{condition_of}
use Rattle.run_parts.specs.World.{Names}
use Rattle.c_syntax.specs.declared.syntax.CExpr.{CExpr}
use Rattle.c_syntax.specs.declared.syntax.CCond.{CCond}
use Rattle.c_syntax.specs.Value.{word_of, truth_of}
use Rattle.lift_parts.specs.Stands.{FlagsStand}
use Rattle.lift_alu.specs.declared.alu.AluLift.{AluLift}

-- what a word gives for a flag: 0 or 1; where the flag is undefined, any word, but one
abbrev pub Shows : Bit → Option ℕ → Type 0
Shows Zero w = w ≡ Some 0
Shows One w = w ≡ Some 1
Shows Undefined w = IsSome w

-- the six words give this result and these flags
pub record Lifts (v : Names) (l : AluLift) (value : ℕ) (f : Flags) : Type 0 where
  pub result : word_of l.result v ≡ Some value
  pub c : Shows f.c (word_of l.c v)
  pub p : Shows f.p (word_of l.p v)
  pub z : Shows f.z (word_of l.z v)
  pub s : Shows f.s (word_of l.s v)
  pub o : Shows f.o (word_of l.o v)

-- none of the six words is stuck
pub record AllGive (v : Names) (l : AluLift) : Type 0 where
  pub result : IsSome (word_of l.result v)
  pub c : IsSome (word_of l.c v)
  pub p : IsSome (word_of l.p v)
  pub z : IsSome (word_of l.z v)
  pub s : IsSome (word_of l.s v)
  pub o : IsSome (word_of l.o v)

-- the word of CF is the carry, where the operation reads it
abbrev pub CarryIs : AluOp → Bool → ℕ → Type 0
CarryIs Adc c w = w ≡ bit_of c
CarryIs Sbb c w = w ≡ bit_of c
CarryIs _ c w = Unit {0}

-- The six words are those of an operation on the low parts of the words of a and b.
pub record LiftsAlu (op : AluOp) (bits : ℕ) (a b : CExpr) (l : AluLift) : Type 0 where
  -- they give its result and its flags
  pub effect : (v : Names) (x y : ℕ) (c : Bool) → word_of a v ≡ Some x → word_of b v ≡ Some y → x < 2 ^ 32 → y < 2 ^ 32 → CarryIs op c (v (Flag 0))
      → Lifts v l (alu_value op bits (low_part bits x) (low_part bits y) c) (alu_flags op bits (low_part bits x) (low_part bits y) c)
  -- they are stuck nowhere, whatever word CF has
  pub never_stuck : (v : Names) (x y : ℕ) → word_of a v ≡ Some x → word_of b v ≡ Some y → AllGive v l

-- a truth is what is known of a condition, if anything is
abbrev pub IsKnownAs : Option Bool → Bool → Type 0
IsKnownAs None p = Unit {0}
IsKnownAs (Some b) p = p ≡ b

-- The Cond is the condition of this number: it is stuck nowhere, and has its truth where the flags that it reads are
-- defined.
pub record HasTruth (n : ℕ) (t : CCond) : Type 0 where
  pub truth : (v : Names) (f : Flags) → FlagsStand f v → (p : Bool) × (truth_of t v ≡ Some p) × IsKnownAs (condition_of n f) p
