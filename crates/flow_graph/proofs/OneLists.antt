-- An address has one list of successors.
use Rattle.std.proofs.Common.{◌≡◌, ℕ, List, filter, sym, ap, ◌∙◌}
use Rattle.elf_image.specs.declared.image.Segment.{Segment}
use Rattle.elf_image.specs.declared.range.Range.{Range}
use Rattle.elf_image.specs.Range.{is_inside, bytes_to_end}
use Rattle.x86_inst.specs.declared.Inst.{Inst}
use Rattle.x86_inst.specs.declared.Inst.TheVariants as inst
use Rattle.x86_inst.specs.declared.Operand.TheVariants as o
use Rattle.x86_inst.specs.declared.AluOp.TheVariants.{Cmp}
use Rattle.x86_decode.specs.Decodes.{NoneBegins}
use Rattle.x86_model.specs.Successors.{successors_of}
use Rattle.jump_tables.specs.Window.{next_of, window_successors}
use Rattle.jump_tables.proofs.Standing.{one_window}
use Rattle.flow_graph.specs.Reach as reach
use Rattle.flow_graph.specs.Reach.{AreSuccessors}
use Rattle.flow_graph.specs.Discovery as list
use Rattle.flow_graph.specs.Discovery.{HasSuccessors}
use Rattle.flow_graph.proofs.OnePlaces.{some_begins, one_at}

-- an address has one list of all its successors
pub one_list : (m : List Segment) (r : Range) (a : ℕ) (xs ys : List ℕ) → AreSuccessors m r a xs → AreSuccessors m r a ys → xs ≡ ys
one_list m r a xs ys (reach.of_window w h e) (reach.of_window v k f) = e ∙ ap (window_successors m) (one_window m r a w v h k) ∙ sym f
one_list m r a xs ys (reach.of_window w h e) (reach.of_instruction j k c none f) = absurd (none.none w h)
one_list m r a xs ys (reach.of_instruction i n b none e) (reach.of_window v k f) = absurd (none.none v k)
one_list m r a xs ys (reach.of_instruction i n b none e) (reach.of_instruction j k c other f) =
    let p = one_at m r a i j n k b c in
    let same : successors_of i a (next_of a n) ≡ successors_of j a (next_of a k) = ap (λ x. successors_of x a (next_of a n)) p.1 ∙ ap (λ x. successors_of j a (next_of a x)) p.0 in
    e ∙ same ∙ sym f

-- where there are successors, an instruction begins
pub leads_begins : (m : List Segment) (r : Range) (a : ℕ) (xs : List ℕ) → AreSuccessors m r a xs → NoneBegins (bytes_to_end m r a) → ⊥
leads_begins m r a xs (reach.of_window w h e) none = some_begins m r a (inst.Alu Cmp h.index.size h.index.operand (o.Imm h.bound)) h.compare_size h.compares none
leads_begins m r a xs (reach.of_instruction i n b no_window e) none = some_begins m r a i n b none

-- and one list of those that are inside
pub one_inside : (m : List Segment) (r : Range) (a : ℕ) (xs ys : List ℕ) → HasSuccessors m r a xs → HasSuccessors m r a ys → xs ≡ ys
one_inside m r a xs ys (list.begins all b e) (list.begins other c f) = e ∙ ap (filter (is_inside r)) (one_list m r a all other b c) ∙ sym f
one_inside m r a xs ys (list.begins all b e) (list.none none f) = absurd (leads_begins m r a all b none)
one_inside m r a xs ys (list.none none e) (list.begins other c f) = absurd (leads_begins m r a other c none)
one_inside m r a xs ys (list.none none e) (list.none other f) = e ∙ sym f
