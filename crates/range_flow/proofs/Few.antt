-- An instruction, and a window, have few blocks, successors and named nodes.
use Rattle.std.proofs.Common.{◌≡◌, inl, inr, ℕ, zero, suc, ◌+◌, ◌≤◌, Bool, true, false, if◌then◌else◌, List, [], ◌∷◌, ◌++◌, length, refl, sym, ap, ◌∙◌, subst, arith, length-append}
use Rattle.std.specs.Prelude.{MatchBool}
use Rattle.std.proofs.lemmas.List.{length-map}
use Rattle.elf_image.specs.declared.image.Segment.{Segment}
use Rattle.x86_inst.specs.declared.Inst.{Inst}
use Rattle.x86_inst.specs.declared.Inst.TheVariants as i
use Rattle.x86_inst.specs.declared.Rep.{Rep}
use Rattle.x86_inst.specs.declared.Rep.TheVariants as rep
use Rattle.x86_model.specs.Successors.{successors_of}
use Rattle.x86_model.specs.WideRows.{repeats}
use Rattle.micro_ir.specs.declared.flow.Block.{Block}
use Rattle.micro_ir.specs.declared.flow.End.{End as BlockEnd}
use Rattle.micro_ir.specs.declared.flow.End.TheVariants as end
use Rattle.micro_ir.specs.Checked.{nodes_of}
use Rattle.micro_ir.specs.Rule.{nodes_in}
use Rattle.lift_parts.specs.Lifted.{block_count, IsBranch, IsPlain, OneEnds, TwoEnd, EndsRound, EndAs}
use Rattle.jump_tables.specs.declared.table.TableWindow.{TableWindow}
use Rattle.jump_tables.specs.Window.{target_of, targets_of, window_successors}
use Rattle.lift_window.specs.Window.{entry_cases, EndsFirst, EndsSecond, EndAsWindow}

-- ---- nodes

plain_few : (e : BlockEnd) → IsPlain e → length (nodes_of e) ≤ 2
plain_few (end.Go n) h = omega arith
plain_few end.Return h = omega arith
plain_few (end.Leave e) h = omega arith
plain_few (end.Branch t a b) h = absurd h
plain_few (end.Switch e cases) h = absurd h

branch_few : (x y : ℕ) (e : BlockEnd) → IsBranch x y e → length (nodes_of e) ≤ 2
branch_few x y (end.Branch t a b) h = omega arith
branch_few x y (end.Go n) h = absurd h
branch_few x y (end.Switch e cases) h = absurd h
branch_few x y end.Return h = absurd h
branch_few x y (end.Leave e) h = absurd h

round_few : (r : Rep) (e : BlockEnd) → EndsRound r e → length (nodes_of e) ≤ 2
round_few rep.No e h = absurd h
round_few rep.Rep e h = subst (λ x. length (nodes_of x) ≤ 2) (sym h) (omega arith)
round_few rep.Repe e h = branch_few 2 3 e h
round_few rep.Repne e h = branch_few 2 3 e h

one_few : (P : BlockEnd → Type 0) → ((e : BlockEnd) → P e → length (nodes_of e) ≤ 2) → (blocks : List Block) → OneEnds P blocks → length (nodes_in blocks) ≤ 4
one_few P few [] h = absurd h
one_few P few (b ∷ []) h = omega (arith, few b.end h, length-append (nodes_of b.end) [])
one_few P few (a ∷ b ∷ rest) h = absurd h

two_few : (P Q : BlockEnd → Type 0) → ((e : BlockEnd) → P e → length (nodes_of e) ≤ 2) → ((e : BlockEnd) → Q e → length (nodes_of e) ≤ 2) → (blocks : List Block) → TwoEnd P Q blocks → length (nodes_in blocks) ≤ 4
two_few P Q few more [] h = absurd h
two_few P Q few more (a ∷ []) h = absurd h
two_few P Q few more (a ∷ b ∷ []) h =
    omega (arith, few a.end h.0, more b.end h.1, length-append (nodes_of a.end) (nodes_of b.end ++ []), length-append (nodes_of b.end) [])
two_few P Q few more (a ∷ b ∷ c ∷ rest) h = absurd h

string_few : (t : Bool) (r : Rep) (blocks : List Block) → MatchBool t (TwoEnd (IsBranch 1 3) (EndsRound r) blocks) (OneEnds IsPlain blocks) → length (nodes_in blocks) ≤ 4
string_few true r blocks h = two_few (IsBranch 1 3) (EndsRound r) (branch_few 1 3) (round_few r) blocks h
string_few false r blocks h = one_few IsPlain plain_few blocks h

-- the blocks of an instruction name at most four nodes
pub ends_few : (x : Inst) (blocks : List Block) → EndAs x blocks → length (nodes_in blocks) ≤ 4
ends_few (i.Jcc c d) blocks h = one_few (IsBranch 1 2) (branch_few 1 2) blocks h
ends_few (i.Loop d) blocks h = one_few (IsBranch 1 2) (branch_few 1 2) blocks h
ends_few (i.Jecxz d) blocks h = one_few (IsBranch 1 2) (branch_few 1 2) blocks h
ends_few (i.Str op size r s) blocks h = string_few (repeats r) r blocks h
ends_few x blocks h = one_few IsPlain plain_few blocks h

-- ---- blocks

at_most_two : (t : Bool) → (if t then 2 else 1) ≤ 2
at_most_two true = omega arith
at_most_two false = omega arith

pub few_blocks : (x : Inst) → block_count x ≤ 2
few_blocks (i.Str op size r s) = at_most_two (repeats r)
few_blocks x = omega arith

-- ---- successors

either_few : (t : Bool) (at next : ℕ) → length (if t then at ∷ next ∷ [] else next ∷ []) ≤ 2
either_few true at next = omega arith
either_few false at next = omega arith

pub few_successors : (x : Inst) (at next : ℕ) → length (successors_of x at next) ≤ 2
few_successors (i.Str op size r s) at next = either_few (repeats r) at next
few_successors x at next = omega arith

-- ---- of a window

cases_count : (n : ℕ) → length (entry_cases n) ≡ n
cases_count zero = refl
cases_count (suc n) = omega (arith, length-append (entry_cases n) (record { value = n; to = 3 + n } ∷ []), cases_count n)

first_few : (e : BlockEnd) → EndsFirst e → length (nodes_of e) ≤ 2
first_few e (inl h) = branch_few 2 1 e h
first_few e (inr h) = branch_few 1 2 e h

second_few : (w : TableWindow) (e : BlockEnd) → EndsSecond w e → length (nodes_of e) ≡ w.count
second_few w e h = ap (λ x. length (nodes_of x)) h.switches ∙ (length-map (entry_cases w.count) (λ c. c.to) ∙ cases_count w.count)

pub window_blocks_few : (w : TableWindow) (blocks : List Block) → EndAsWindow w blocks → length blocks ≡ 2
window_blocks_few w [] h = absurd h
window_blocks_few w (a ∷ []) h = absurd h
window_blocks_few w (a ∷ b ∷ []) h = refl
window_blocks_few w (a ∷ b ∷ c ∷ rest) h = absurd h

pub window_nodes_few : (w : TableWindow) (blocks : List Block) → EndAsWindow w blocks → length (nodes_in blocks) ≤ 2 + w.count
window_nodes_few w [] h = absurd h
window_nodes_few w (a ∷ []) h = absurd h
window_nodes_few w (a ∷ b ∷ []) h =
    omega (arith, first_few a.end h.0, second_few w b.end h.1, length-append (nodes_of a.end) (nodes_of b.end ++ []), length-append (nodes_of b.end) [])
window_nodes_few w (a ∷ b ∷ c ∷ rest) h = absurd h

targets_count : (m : List Segment) (w : TableWindow) (n : ℕ) → length (targets_of m w n) ≡ n
targets_count m w zero = refl
targets_count m w (suc n) = omega (arith, length-append (targets_of m w n) (target_of m w n ∷ []), targets_count m w n)

pub window_successors_few : (m : List Segment) (w : TableWindow) → length (window_successors m w) ≡ 1 + w.count
window_successors_few m w = omega (arith, targets_count m w w.count)
