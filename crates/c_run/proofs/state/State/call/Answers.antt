use Rattle.std.proofs.Common.{rules, ◌≡◌, ap, ◌+◌, ◌∷◌, drop, subst}
use Rattle.dream_words.specs.declared.outcome.Call.{Call}
use Rattle.c_run.proofs.States.{answered_parts, drop_here}
use Rattle.c_run.proofs.state.State.call.Goals as goal

pub returns-in_ok-self-in-Some : goal.returns-in_ok-self-in-Some
returns-in_ok-self-in-Some c = λ m.
    let s = c.args.self.now in let answers = c.args.answers.now in let a = c.in-Some.a.now in
    let call : Call = record { target = c.args.target; regs = s.env.regs; mem = c.in_ok-mem.mem } in
    let found = (c.in-Some.ensures {u = tt}).lookup in
    let here = drop_here c.len-k.result answers a found.3.0 found.1 in
    answered_parts answers c.args.target m s a c.flag_words-self.result c.in_ok-self-in-Some.field-0 call c.push.new.self
    (subst (λ k. drop k answers ≡ a ∷ drop (k + 1) answers) c.len-k.ensures here) c.flag_words-self.ensures (c.in_ok-self-in-Some.ensures {u = tt}) (search rules)
    (ap (λ x. record { target = c.args.target; regs = s.env.regs; mem = x }) (c.in_ok-mem.ensures {u = tt}))
