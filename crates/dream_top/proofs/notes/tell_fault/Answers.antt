use Rattle.std.proofs.Common.{◌≡◌, ◌++◌, codes, subst, ◌∙◌}
use Rattle.std.specs.Fmt.{decimal}
use Rattle.dream_top.specs.Answers.{writing_of, Tells}
use Rattle.dream_top.specs.Notes.{kind_name}
use Rattle.dream_top.proofs.Streams.{tells, regrouped}
use Rattle.dream_top.proofs.notes.tell_fault.Goals as goal

pub returns : goal.returns
returns g c =
    let sink = g.E.Sink in
    let o = writing_of (sink.taken c.args.notes.now) (sink.taken c.put_pieces.new.sink) (sink.faults c.args.notes.now) (sink.faults c.put_pieces.new.sink) in
    let kind : c.as_bytes.result.now ≡ kind_name c.args.fault.kind = c.as_bytes.ensures.value ∙ c.kind_name.ensures in
    let at : c.as_bytes-2.result.now ≡ decimal c.args.fault.at = c.as_bytes-2.ensures.value ∙ c.format.ensures.text in
    let told : Tells o (codes "dream: not an accepted ELF file: " ++ c.as_bytes.result.now ++ codes " at " ++ c.as_bytes-2.result.now ++ codes "\n") =
    subst (λ t. Tells o t) (regrouped (codes "dream: not an accepted ELF file: ") c.as_bytes.result.now (codes " at ") c.as_bytes-2.result.now (codes "\n"))
    (tells o _ c.put_pieces.result c.put_pieces.ensures.ok c.put_pieces.ensures.err) in
    rw (kind, at) at told
