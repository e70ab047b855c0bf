use Rattle.std.proofs.Common.{◌≡◌, ◌<◌, ◌≤◌, ◌+◌, ◌-◌, ◌*◌, ◌/◌, ℕ, None, length, drop, sym, ap, subst, ◌∙◌, arith, ltb-false, slice_index_or}
use Rattle.elf_symbols.specs.Sections.{section_offset, section_size, section_bytes}
use Rattle.elf_symbols.specs.Symbols.{ended}
use Rattle.elf_symbols.specs.Zeros.{after_zero, zeros_below}
use Rattle.elf_symbols.proofs.LastZeros.{length_zeros, zeros_at, no_names, step_within}
use Rattle.elf_symbols.proofs.zeros.end_of_names.Goals as goal

pub bounds-zeros-step : goal.bounds-zeros-step
bounds-zeros-step c =
    let bytes = c.args.bytes.now in
    let whole : section_offset bytes c.args.k + section_size bytes c.args.k ≤ length bytes = ltb-false (length bytes) (section_offset bytes c.args.k + section_size bytes c.args.k) c.requires.inside in
    let within : c.section_offset-offset.result + c.section_size.result ≤ length bytes = omega (arith, whole, c.section_offset-offset.ensures.value, c.section_size.ensures.value) in
    let long : length c.args.zeros.now ≡ length bytes / 256 + 1 = ap (λ z. length z) c.requires.zeros ∙ length_zeros bytes (length bytes / 256 + 1) in
    subst (λ n. (c.section_offset-offset.result + c.section_size.result) / 256 < n) (sym long) (step_within (c.section_offset-offset.result + c.section_size.result) (length bytes) within)

pub after_zero-requires-clause-known : goal.after_zero-requires-clause-known
after_zero-requires-clause-known c =
    let bytes = c.args.bytes.now in
    let end : ℕ = c.section_offset-offset.result + c.section_size.result in
    let whole : section_offset bytes c.args.k + section_size bytes c.args.k ≤ length bytes = ltb-false (length bytes) (section_offset bytes c.args.k + section_size bytes c.args.k) c.requires.inside in
    let within : end ≤ length bytes = omega (arith, whole, c.section_offset-offset.ensures.value, c.section_size.ensures.value) in
    ap (λ z. slice_index_or z (end / 256) 0) c.requires.zeros ∙ zeros_at bytes (length bytes / 256 + 1) (end / 256) 0 (step_within end (length bytes) within)

pub returns : goal.returns
returns c =
    let bytes = c.args.bytes.now in
    let o : ℕ = section_offset bytes c.args.k in
    let s : ℕ = section_size bytes c.args.k in
    let is : c.saturating_sub.result ≡ after_zero bytes (o + s) - o =
    c.saturating_sub.ensures ∙ ap (λ n. n - c.section_offset-offset.result) c.after_zero.ensures
    ∙ ap (λ n. after_zero bytes (n + c.section_size.result) - n) c.section_offset-offset.ensures.value
    ∙ ap (λ n. after_zero bytes (o + n) - o) c.section_size.ensures.value in
    subst (λ n. ended (drop n (section_bytes bytes c.args.k)) ≡ None) (sym is) (no_names bytes o s)
