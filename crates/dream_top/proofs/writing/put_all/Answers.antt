use Rattle.std.proofs.Common.{◌≤◌, length, take, drop, sym, subst, arith, length-drop}
use Rattle.std.proofs.lemmas.List.{take_rest}
use Rattle.std.proofs.Math.Seq.{take-add}
use Rattle.std.specs.Io.KnownBytes.{Appends}
use Rattle.dream_top.specs.Answers.{writing_of, StopsIn}
use Rattle.dream_top.proofs.Streams.{appends_more, stops_after, on_err}
use Rattle.dream_top.proofs.writing.put_all.Goals as goal

pub returns-in_err-at-clause-err : goal.returns-in_err-at-clause-err
returns-in_err-at-clause-err g c =
    let sink = g.K.Sink in
    on_err c.from_residual.result (StopsIn (writing_of (sink.taken c.args.sink.now) (sink.taken c.put.new.self) (sink.faults c.args.sink.now) (sink.faults c.put.new.self)) c.args.piece.now)
    (stops_after (sink.taken c.args.sink.now) (sink.taken c.loop-at.sink) (sink.taken c.put.new.self)
    (sink.faults c.args.sink.now) (sink.faults c.loop-at.sink) (sink.faults c.put.new.self) c.args.piece.now c.loop-at.at
    c.loop-at.invariant.taken c.loop-at.invariant.later c.in_err-at.ensures.bytes c.in_err-at.ensures.cause.failed)

pub loop-at-preserved : goal.loop-at-preserved
loop-at-preserved g c =
    let sink = g.K.Sink in
    let at = c.loop-at.at in
    let n = c.in_ok-at.field-0 in
    let piece = c.args.piece.now in
    let rest = take_rest piece at in
    let old = sink.taken c.args.sink.now in
    let mid = sink.taken c.loop-at.sink in
    let new = sink.taken c.put.new.self in
    let put : Appends mid new (take n (drop at piece)) = subst (λ xs. Appends mid new (take n xs)) rest c.in_ok-at.ensures.bytes in
    let most : n ≤ length (drop at piece) = subst (λ xs. n ≤ length xs) rest c.in_ok-at.ensures.bound.0 in
    record {
      within = omega (arith, length-drop at piece);
      taken = subst (λ xs. Appends old new xs) (sym (take-add at n piece)) (appends_more old mid new (take at piece) (take n (drop at piece)) c.loop-at.invariant.taken put);
      later = omega (arith, c.loop-at.invariant.later, c.in_ok-at.ensures.cause.later);
    }
