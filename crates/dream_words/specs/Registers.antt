-- Registers and flags by their numbers (Intel SDM vol. 2, 2.1.5, table 2-2).
use Rattle.std.specs.Prelude.{ℕ, nat_eq, if◌then◌else◌}
use Rattle.dream_words.specs.declared.machine.Regs.{Regs}
use Rattle.dream_words.specs.declared.machine.Bit.{Bit}
use Rattle.dream_words.specs.declared.machine.Bit.TheVariants.{Zero, One, Undefined}
use Rattle.dream_words.specs.declared.machine.Flags.{Flags}

-- the register of a number; one that doesn't exist is 0
abbrev pub reg_of : Regs → ℕ → ℕ
reg_of r n =
    if nat_eq n 0 then r.eax else
    if nat_eq n 1 then r.ecx else
    if nat_eq n 2 then r.edx else
    if nat_eq n 3 then r.ebx else
    if nat_eq n 4 then r.esp else
    if nat_eq n 5 then r.ebp else
    if nat_eq n 6 then r.esi else
    if nat_eq n 7 then r.edi else 0

-- the registers after one is set; one that doesn't exist isn't set
abbrev pub with_reg : Regs → ℕ → ℕ → Regs
with_reg r n v = record {
  eax = if nat_eq n 0 then v else r.eax;
  ecx = if nat_eq n 1 then v else r.ecx;
  edx = if nat_eq n 2 then v else r.edx;
  ebx = if nat_eq n 3 then v else r.ebx;
  esp = if nat_eq n 4 then v else r.esp;
  ebp = if nat_eq n 5 then v else r.ebp;
  esi = if nat_eq n 6 then v else r.esi;
  edi = if nat_eq n 7 then v else r.edi;
}

-- in a run of C an undefined flag is 0
abbrev pub word_of_bit : Bit → ℕ
word_of_bit Zero = 0
word_of_bit One = 1
word_of_bit Undefined = 0

-- the flag of a number, as a word; one that doesn't exist is 0
abbrev pub flag_of : Flags → ℕ → ℕ
flag_of f n =
    if nat_eq n 0 then word_of_bit f.c else
    if nat_eq n 1 then word_of_bit f.p else
    if nat_eq n 2 then word_of_bit f.z else
    if nat_eq n 3 then word_of_bit f.s else
    if nat_eq n 4 then word_of_bit f.o else 0
