use Rattle.std.proofs.Common.{◌≡◌, drop}
use Rattle.std.specs.Prelude.{map, string_bytes}
use Rattle.run_lines.specs.StartWords.{registers_in}
use Rattle.run_lines.specs.Starts.{first_regs, with_registers}
use Rattle.run_lines.proofs.starts.registers.Given as goal

-- The words that are left lead to the registers of all.
abbrev pub invariant-loop-word : goal.invariant-loop-word
invariant-loop-word l =
    with_registers l.regs (registers_in (map string_bytes (drop l.word-index l.words))) ≡ with_registers first_regs (registers_in (map string_bytes l.words))
