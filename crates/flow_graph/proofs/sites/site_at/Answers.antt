use Rattle.std.proofs.Common.{◌≡◌, ℕ, ◌-◌, IfOk, Result, Ok, Err, List, None, length, take, drop, filter, length-drop, arith}
use Rattle.std.proofs.lemmas.List.{take_all}
use Rattle.std.specs.declared.alloc.AllocError.{AllocError}
use Rattle.elf_image.specs.declared.image.Segment.{Segment}
use Rattle.elf_image.specs.declared.range.Range.{Range}
use Rattle.elf_image.specs.Range.{is_inside, bytes_to_end}
use Rattle.x86_decode.specs.Decodes.{Decodes}
use Rattle.x86_decode.specs.declared.decoder.Decoded.{Decoded}
use Rattle.jump_tables.specs.declared.table.TableWindow.{TableWindow}
use Rattle.jump_tables.specs.Window.{IsWindow, HasNoWindow, window_successors}
use Rattle.flow_graph.specs.declared.sites.Site.{Site}
use Rattle.flow_graph.specs.Sites.{found_successors, found_cause, IsSite}
use Rattle.flow_graph.proofs.Frozen.{inside_bounds}
use Rattle.flow_graph.proofs.Reading.{decoded_at, window_stands, instruction_stands}
use Rattle.flow_graph.proofs.sites.site_at.Goals as goal

window_by : (m : List Segment) (r : Range) (a : ℕ) (w : TableWindow) → IsWindow m r a w → (res : Result Site AllocError)
    → IfOk res (λ s. s.successors.items ≡ filter (is_inside r) (window_successors m w)) → IfOk res (λ s. s.cause ≡ None) → IfOk res (λ s. IsSite m r a s.successors.items s.cause)
window_by m r a w h (Ok s) is why = window_stands m r a w s.successors.items s.cause h is why
window_by m r a w h (Err e) is why = tt

instruction_by : (m : List Segment) (r : Range) (a : ℕ) (d : Decoded) → HasNoWindow m r a → Decodes (bytes_to_end m r a) d → (res : Result Site AllocError)
    → IfOk res (λ s. s.successors.items ≡ found_successors r a d) → IfOk res (λ s. s.cause ≡ found_cause r a d) → IfOk res (λ s. IsSite m r a s.successors.items s.cause)
instruction_by m r a d none h (Ok s) is why = instruction_stands m r a d s.successors.items s.cause none h is why
instruction_by m r a d none h (Err e) is why = tt

same_rest : (code : List ℕ) (k : ℕ) → take (length code - k) (drop k code) ≡ drop k code
same_rest code k = take_all (length code - k) (drop k code) (omega (arith, length-drop k code))

pub returns-in-Some : goal.returns-in-Some
returns-in-Some c =
    window_by c.args.m.now c.args.r.now c.args.at c.in-Some.w (c.in-Some.ensures {u = tt}) c.window_site.result c.window_site.ensures.successors c.window_site.ensures.cause

pub returns-in-None : goal.returns-in-None
returns-in-None c =
    let m = c.args.m.now in
    let r = c.args.r.now in
    let at = c.args.at in
    let b = inside_bounds r at c.requires.inside in
    let d = decoded_at m r c.args.code.now _ at c.decode-decoded.result c.requires.code b.0 b.1 (same_rest c.args.code.now (at - r.entry)) c.decode-decoded.ensures in
    instruction_by m r at c.decode-decoded.result (c.in-None.ensures {u = tt}) d c.instruction_site.result c.instruction_site.ensures.successors c.instruction_site.ensures.cause
