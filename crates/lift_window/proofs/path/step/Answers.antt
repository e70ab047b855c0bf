use Rattle.std.proofs.Common.{◌≡◌, ℕ, ◌+◌, ◌%◌, ◌^◌, sym, ap, subst, ◌∙◌}
use Rattle.jump_tables.specs.Window.{next_of}
use Rattle.lift_window.specs.Walk.{IsPut, IsStepped}
use Rattle.lift_window.proofs.Walking.{not_word_jump, step_jump, step_more, step_none}
use Rattle.lift_window.proofs.path.step.Goals as goal

pub returns-then-is_word_jump : goal.returns-then-is_word_jump
returns-then-is_word_jump c =
    step_jump c.args.m.now c.args.r.now c.args.at c.args.stmts.now c.in-Some.i c.in-Some.size (c.in-Some.ensures {u = tt}) (sym (c.if-is_word_jump.ensures {u = tt}))

pub put-requires : goal.put-requires
put-requires c = not_word_jump c.in-Some.i (sym (c.if-is_word_jump.ensures {u = tt}))

pub returns-in-None : goal.returns-in-None
returns-in-None c = step_none c.args.m.now c.args.r.now c.args.at c.args.stmts.now (c.in-None.ensures {u = tt})

pub returns-in_ok-put-in-Some : goal.returns-in_ok-put-in-Some
returns-in_ok-put-in-Some c =
    let put = c.in_ok-put-in-Some.ensures {u = tt} in
    let same = c.from.ensures in
    let put_there = subst (λ k. IsPut c.in-Some.i c.args.at ((c.args.at + k) % 2 ^ 32) c.args.stmts.now c.put.new.stmts) same put in
    subst (λ k. IsStepped c.args.m.now c.args.r.now c.args.at c.args.stmts.now c.put.new.stmts ((c.args.at + k) % 2 ^ 32)) (sym same)
    (step_more c.args.m.now c.args.r.now c.args.at c.args.stmts.now c.in-Some.i c.in-Some.size c.put.new.stmts (c.in-Some.ensures {u = tt}) (sym (c.if-is_word_jump.ensures {u = tt})) put_there)
