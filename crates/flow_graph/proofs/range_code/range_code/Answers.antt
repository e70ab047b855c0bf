use Rattle.std.proofs.Common.{◌≡◌, length, ap, ◌∙◌, arith}
use Rattle.elf_image.specs.Range.{bytes_to_end}
use Rattle.flow_graph.proofs.Frozen.{short_place, no_range_place, whole_fits, code_at_most}
use Rattle.flow_graph.proofs.range_code.range_code.Goals as goal

pub returns-then-len-r-clause-err : goal.returns-then-len-r-clause-err
returns-then-len-r-clause-err c =
    rw c.refused-then-len-r.ensures
    (short_place c.args.m.now c.args.r.now c.len.result c.min.result (omega (arith, c.if-r-eq0.false)) c.if-r-gt65536.false c.fits-r.0.1 (c.len.ensures ∙ c.in-Ok.code.ok.0 ∙ ap length (c.in-Ok.ensures {u = tt})) c.if-len-r.true (grind (arith, c.min.ensures, c.from.ensures, c.len.ensures, c.len-then-len-r.ensures)))

pub returns-clause-frozen : goal.returns-clause-frozen
returns-clause-frozen c =
    no_range_place c.args.m.now c.args.r.now c.len.result (omega (arith, c.if-r-eq0.false)) c.if-r-gt65536.false c.fits-r.0.1 (c.len.ensures ∙ c.in-Ok.code.ok.0 ∙ ap length (c.in-Ok.ensures {u = tt})) c.if-len-r.false

pub returns-clause-len : goal.returns-clause-len
returns-clause-len c =
    let e : length c.in-Ok.code.items ≡ length (bytes_to_end c.args.m.now c.args.r.now c.args.r.now.entry) = ap length (c.in-Ok.ensures {u = tt}) in
    omega (arith, e, code_at_most c.args.m.now c.args.r.now (omega (arith, c.if-r-eq0.false)), c.if-len-r.false, c.len.ensures)

pub returns-clause-fits : goal.returns-clause-fits
returns-clause-fits c =
    let e : length c.in-Ok.code.items ≡ length (bytes_to_end c.args.m.now c.args.r.now c.args.r.now.entry) = ap length (c.in-Ok.ensures {u = tt}) in
    whole_fits c.args.m.now c.args.r.now (omega (arith, c.if-r-eq0.false)) c.fits-r.0.1 (omega (arith, e, c.if-len-r.false, c.len.ensures))
