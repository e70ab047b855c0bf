use Rattle.std.proofs.Common.{◌≡◌, List, length, subst, arith}
use Rattle.std.specs.Prelude.{map}
use Rattle.x86_inst.specs.Table.{table}
use Rattle.x86_decode.specs.declared.rows.Row.{Row}
use Rattle.x86_decode.specs.View.{row_of}
use Rattle.x86_encode.proofs.Best.{Reached, sound_of, reached_more}
use Rattle.x86_encode.proofs.Every.{encodes}
use Rattle.x86_encode.proofs.encoder.encode.Goals as goal

pub loop-row-preserved : goal.loop-row-preserved
loop-row-preserved c = (
  sound_of c.args.i.now c.loop-row.best c.spelling_by.result c.first_of-best.result c.first_of-best.ensures c.loop-row.invariant.0 c.spelling_by.ensures.sound,
  reached_more c.args.i.now c.all_rows-row-items.result.now c.loop-row.row-index _ c.loop-row.best c.spelling_by.result c.first_of-best.result c.loop-row-test.true c.first_of-best.ensures c.spelling_by.ensures.complete c.loop-row.invariant.1,
)

pub returns-clause-least : goal.returns-clause-least
returns-clause-least c =
    let rows = c.all_rows-row-items.ensures.rows in
    let n : c.loop-row.row-index ≡ length c.all_rows-row-items.result.now = omega arith in
    let whole : Reached c.args.i.now c.all_rows-row-items.result.now (length c.all_rows-row-items.result.now) c.loop-row.best =
    subst (λ n. Reached c.args.i.now c.all_rows-row-items.result.now n c.loop-row.best) n c.loop-row.invariant.1 in
    encodes (subst (λ (z : List Row). map row_of z ≡ table) rows c.all_rows-row-items.ensures.table) c.args.i.now c.loop-row.best c.loop-row.invariant.0
    (subst (λ (z : List Row). Reached c.args.i.now z (length z) c.loop-row.best) rows whole)
