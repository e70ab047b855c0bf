use Rattle.std.proofs.Common.{◌≡◌, ◌++◌, codes, subst, ◌∙◌}
use Rattle.dream_top.specs.Answers.{writing_of, Tells}
use Rattle.dream_top.specs.Notes.{cause_name}
use Rattle.dream_top.proofs.Streams.{tells, regrouped}
use Rattle.dream_top.proofs.notes.tell_place.Goals as goal

pub returns : goal.returns
returns g c =
    let sink = g.E.Sink in
    let o = writing_of (sink.taken c.args.notes.now) (sink.taken c.put_pieces.new.sink) (sink.faults c.args.notes.now) (sink.faults c.put_pieces.new.sink) in
    let cause : c.as_bytes.result.now ≡ cause_name c.args.place.cause = c.as_bytes.ensures.value ∙ c.cause_name.ensures in
    let told : Tells o (codes "dream: outside the profile: " ++ c.as_bytes.result.now ++ codes " at 0x" ++ c.eight_digits.result ++ codes "\n") =
    subst (λ t. Tells o t) (regrouped (codes "dream: outside the profile: ") c.as_bytes.result.now (codes " at 0x") c.eight_digits.result (codes "\n"))
    (tells o _ c.put_pieces.result c.put_pieces.ensures.ok c.put_pieces.ensures.err) in
    rw (cause, c.eight_digits.ensures.value) at told
