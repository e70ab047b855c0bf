use Rattle.std.proofs.Common.{sym, subst}
use Rattle.std.specs.Prelude.{IsTrue, IfOk}
use Rattle.expr_fold.specs.Follows.{Takes}
use Rattle.expr_fold.proofs.folding.Folding.take.Goals as goal

pub returns-in-Set : goal.returns-in-Set
returns-in-Set c =
    subst (λ s. IfOk c.take_set.result (λ b. IsTrue b → Takes s c.args.self.now.done c.args.self.now.delayed.items c.take_set.new.self.done c.take_set.new.self.delayed.items)) (sym c.in-Set.is) c.take_set.ensures

pub returns-in-Load : goal.returns-in-Load
returns-in-Load c =
    subst (λ s. IfOk c.take_load.result (λ b. IsTrue b → Takes s c.args.self.now.done c.args.self.now.delayed.items c.take_load.new.self.done c.take_load.new.self.delayed.items)) (sym c.in-Load.is) c.take_load.ensures

pub returns-in-Store : goal.returns-in-Store
returns-in-Store c =
    subst (λ s. IfOk c.take_store.result (λ b. IsTrue b → Takes s c.args.self.now.done c.args.self.now.delayed.items c.take_store.new.self.done c.take_store.new.self.delayed.items)) (sym c.in-Store.is) c.take_store.ensures

pub returns-in-Ext : goal.returns-in-Ext
returns-in-Ext c =
    subst (λ s. IfOk c.take_call.result (λ b. IsTrue b → Takes s c.args.self.now.done c.args.self.now.delayed.items c.take_call.new.self.done c.take_call.new.self.delayed.items)) (sym c.in-Ext.is) c.take_call.ensures

pub returns-in-Trap : goal.returns-in-Trap
returns-in-Trap c =
    subst (λ s. IfOk c.take_trap.result (λ b. IsTrue b → Takes s c.args.self.now.done c.args.self.now.delayed.items c.take_trap.new.self.done c.take_trap.new.self.delayed.items)) (sym c.in-Trap.is) c.take_trap.ensures
