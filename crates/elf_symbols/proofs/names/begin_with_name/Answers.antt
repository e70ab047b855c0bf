use Rattle.std.proofs.Common.{sym}
use Rattle.elf_symbols.proofs.EndedNames.{too_short}
use Rattle.elf_symbols.proofs.names.begin_with_name.Goals as goal

pub returns-then-bytes-name : goal.returns-then-bytes-name
returns-then-bytes-name c = sym (too_short c.args.bytes.now c.args.name.now c.if-bytes-name.true)
