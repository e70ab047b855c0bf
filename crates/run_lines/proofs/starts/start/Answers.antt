use Rattle.std.proofs.Common.{ap, ◌∙◌}
use Rattle.std.specs.Prelude.{map, string_bytes}
use Rattle.run_lines.specs.StartWords.{arguments_in}
use Rattle.run_lines.specs.Starts.{with_arguments, start_with}
use Rattle.run_lines.proofs.starts.start.Goals as goal

pub returns : goal.returns
returns c =
    let m = c.args.image.now in
    let before = c.in_ok-mem.mem in
    let arguments = arguments_in (map string_bytes c.args.words.now) in
    record {
      before = before;
      image = record { backed = c.in_ok-mem.ensures.backed; frozen = c.in_ok-mem.ensures.frozen };
      is =
          ap (λ mem. record (start_with c.registers-regs.result mem) { pages = c.in_ok-pages.pages }) c.in_ok-put_arguments.ensures
          ∙ ap (λ pages. record (start_with c.registers-regs.result (with_arguments m before c.registers-regs.result.esp arguments)) { pages = pages }) c.in_ok-pages.ensures
          ∙ ap (λ regs. start_with regs (with_arguments m before regs.esp arguments)) c.registers-regs.ensures;
    }
