use Rattle.std.proofs.Common.{◌≡◌, ℕ, Option, sym, ◌∙◌}
use Rattle.std.proofs.lemmas.Result.{IfOk-weaker}
use Rattle.x86_inst.specs.declared.Inst.{Inst}
use Rattle.x86_model.specs.Leads.{leads, after}
use Rattle.machine.specs.Run.{acts}
use Rattle.machine.specs.Coded.{state_of, onward, scene_in}
use Rattle.machine.proofs.Acting.{strayed, faulted, went_on}
use Rattle.machine.proofs.states.Machine.act.Goals as goal

pub returns-then-strays : goal.returns-then-strays
returns-then-strays c = λ decoded.
    let s = c.args.setting.now in
    sym (strayed (scene_in s decoded) c.args.inst.now c.args.at c.args.next (state_of s c.args.self.now) c.effect-effect.result (c.effect-effect.ensures s.pages.now s.answers.now) (sym (c.strays.ensures decoded) ∙ c.if-strays.true))

pub returns-in-Some : goal.returns-in-Some
returns-in-Some c = λ decoded.
    let s = c.args.setting.now in
    sym (faulted (scene_in s decoded) c.args.inst.now c.args.at c.args.next (state_of s c.args.self.now) c.effect-effect.result (c.effect-effect.ensures s.pages.now s.answers.now) c.in-Some.bad
    (sym (c.strays.ensures decoded) ∙ c.if-strays.false) (sym c.refused.ensures ∙ c.in-Some.is))

pub returns-in-None : goal.returns-in-None
returns-in-None c =
    let s = c.args.setting.now in
    let i = c.args.inst.now in
    let at = c.args.at in
    let next = c.args.next in
    let m = state_of s c.args.self.now in
    let e = c.effect-effect.result in
    IfOk-weaker c.take.result
    (λ led. onward led (state_of s c.take.new.self) ≡ leads e.go at next (after e m))
    (λ led. (decoded : ℕ → Option (Inst × ℕ)) → onward led (state_of s c.take.new.self) ≡ acts (scene_in s decoded) i at next m)
    (λ led h decoded.
    h ∙ sym (went_on (scene_in s decoded) i at next m e (c.effect-effect.ensures s.pages.now s.answers.now) (sym (c.strays.ensures decoded) ∙ c.if-strays.false) (sym c.refused.ensures ∙ c.in-None.is)))
    c.take.ensures
