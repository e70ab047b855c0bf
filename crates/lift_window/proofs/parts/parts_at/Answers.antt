use Rattle.std.proofs.Common.{◌≡◌, ℕ, ◌+◌, ◌%◌, ◌^◌, Some, ap, subst, ◌∙◌}
use Rattle.x86_inst.specs.declared.Inst.TheVariants as i
use Rattle.x86_inst.specs.declared.AluOp.TheVariants.{Cmp}
use Rattle.x86_inst.specs.declared.Operand.TheVariants as o
use Rattle.jump_tables.specs.Window.{IsInstAt, next_of}
use Rattle.lift_window.specs.Parts.{parts_in, parts_of}
use Rattle.lift_window.proofs.Walking.{found_as, never_none}
use Rattle.lift_window.proofs.parts.parts_at.Goals as goal

pub returns-in_err-compare : goal.returns-in_err-compare
returns-in_err-compare c = λ win.
    absurd (never_none c.args.m.now c.args.r.now c.args.at (i.Alu Cmp win.index.size win.index.operand (o.Imm win.bound)) win.compare_size c.inst_at.result c.inst_at.ensures win.compares c.in_err-compare.was)

pub returns-in_err-branch : goal.returns-in_err-branch
returns-in_err-branch c = λ win.
    let m = c.args.m.now in
    let r = c.args.r.now in
    let first = found_as m r c.args.at (i.Alu Cmp win.index.size win.index.operand (o.Imm win.bound)) c.in_ok-compare.compare win.compare_size c.in_ok-compare.size c.inst_at.result c.inst_at.ensures win.compares c.in_ok-compare.was in
    let second = subst (λ k. IsInstAt m r ((c.args.at + k) % 2 ^ 32) c.inst_at-2.result) (c.from.ensures ∙ first.0) c.inst_at-2.ensures in
    absurd (never_none m r (next_of c.args.at win.compare_size) (i.Jcc win.condition win.distance) win.branch_size c.inst_at-2.result second win.branches c.in_err-branch.was)

pub returns-in_err-jump : goal.returns-in_err-jump
returns-in_err-jump c = λ win.
    absurd (never_none c.args.m.now c.args.r.now c.args.w.now.jump (i.JmpTo win.goal) win.jump_size c.inst_at-3.result c.inst_at-3.ensures win.jumps c.in_err-jump.was)

pub returns : goal.returns
returns c = λ win.
    let m = c.args.m.now in
    let r = c.args.r.now in
    let compare = i.Alu Cmp win.index.size win.index.operand (o.Imm win.bound) in
    let branch = i.Jcc win.condition win.distance in
    let first = found_as m r c.args.at compare c.in_ok-compare.compare win.compare_size c.in_ok-compare.size c.inst_at.result c.inst_at.ensures win.compares c.in_ok-compare.was in
    let second = subst (λ k. IsInstAt m r ((c.args.at + k) % 2 ^ 32) c.inst_at-2.result) (c.from.ensures ∙ first.0) c.inst_at-2.ensures in
    let middle = found_as m r (next_of c.args.at win.compare_size) branch c.in_ok-branch.branch win.branch_size c.in_ok-branch.field-0-1 c.inst_at-2.result second win.branches c.in_ok-branch.was in
    let last = found_as m r c.args.w.now.jump (i.JmpTo win.goal) c.in_ok-jump.jump win.jump_size c.in_ok-jump.field-0-1 c.inst_at-3.result c.inst_at-3.ensures win.jumps c.in_ok-jump.was in
    c.in_three.ensures ∙ ap (λ x. parts_in x c.in_ok-branch.branch c.in_ok-jump.jump) first.1 ∙ ap (λ x. parts_in compare x c.in_ok-jump.jump) middle.1 ∙ ap (λ x. parts_in compare branch x) last.1
