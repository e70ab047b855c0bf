use Rattle.std.proofs.Common.{ℕ, suc, List, [], take, drop, get_or, subst, arith, Bor}
use Rattle.std.specs.List.{flat_map}
use Rattle.dream_top.specs.Answers.{writing_of, StopsIn}
use Rattle.dream_top.proofs.Streams.{stops_within, on_err, flat_map_around}
use Rattle.dream_top.proofs.writing.put_pieces.Goals as goal

pub returns-in_err-put_all-clause-err : goal.returns-in_err-put_all-clause-err
returns-in_err-put_all-clause-err g c =
    let sink = g.K.Sink in
    let text = λ (p : Bor (List ℕ)). p.now in
    let none : Bor (List ℕ) = record { ref_ptr = (0, 0); now = [] } in
    let pieces = c.args.pieces.now in
    let at = c.loop-piece.piece-index in
    let o = writing_of (sink.taken c.args.sink.now) (sink.taken c.put_all.new.sink) (sink.faults c.args.sink.now) (sink.faults c.put_all.new.sink) in
    on_err c.from_residual.result (StopsIn o (flat_map text pieces))
    (subst (λ t. StopsIn o t) (flat_map_around text pieces at none (omega arith))
    (stops_within (sink.taken c.args.sink.now) (sink.taken c.loop-piece.sink) (sink.taken c.put_all.new.sink)
    (sink.faults c.args.sink.now) (sink.faults c.loop-piece.sink) (sink.faults c.put_all.new.sink)
    (flat_map text (take at pieces)) (get_or pieces at none).now (flat_map text (drop (suc at) pieces))
    c.loop-piece.invariant.taken c.loop-piece.invariant.later c.in_err-put_all.ensures.err))
