-- What an instruction does, once it is known whether it strays and which access of it isn't allowed.
use Rattle.std.proofs.Common.{◌≡◌, ℕ, Bool, true, false, Option, Some, None, refl, sym, ap, ◌∙◌}
use Rattle.x86_inst.specs.declared.Inst.{Inst}
use Rattle.x86_model.specs.declared.effect.Effect.{Effect}
use Rattle.x86_model.specs.Machine.{Onward, Finished, Strays, State, Ending, Faulted}
use Rattle.x86_model.specs.Leads.{leads, after, first_of, refused_read, refused_store, allowed, instruction_does, effect_in}
use Rattle.machine.specs.Steps.{judged}
use Rattle.machine.specs.Run.{Scene, strays, acts}

-- two accesses in their order are one
allowed_both : (a b : Option ℕ) (m : State) (next : Onward State Ending) → allowed a m (allowed b m next) ≡ allowed (first_of a b) m next
allowed_both None b m next = refl
allowed_both (Some bad) b m next = refl

module _ (sc : Scene) (i : Inst) (at next : ℕ) (m : State) (e : Effect) (is : e ≡ effect_in i next m) where
  judged_as : (t : Bool) → strays sc i m e ≡ t → acts sc i at next m ≡ judged t (instruction_does i at next m)
  judged_as t h = ap (λ b. judged b (instruction_does i at next m)) (sym (ap (strays sc i m) is) ∙ h)

  pub strayed : strays sc i m e ≡ true → acts sc i at next m ≡ Strays
  strayed h = judged_as true h

  does : (o : Option ℕ) → strays sc i m e ≡ false → first_of (refused_read i m) (refused_store e m) ≡ o → acts sc i at next m ≡ allowed o m (leads e.go at next (after e m))
  does o h r =
      judged_as false h
      ∙ ap (λ x. allowed (refused_read i m) m (allowed (refused_store x m) m (leads x.go at next (after x m)))) (sym is)
      ∙ allowed_both (refused_read i m) (refused_store e m) m (leads e.go at next (after e m))
      ∙ ap (λ x. allowed x m (leads e.go at next (after e m))) r

  pub faulted : (bad : ℕ) → strays sc i m e ≡ false → first_of (refused_read i m) (refused_store e m) ≡ Some bad → acts sc i at next m ≡ Finished (Faulted 14 bad m.mem m.calls)
  faulted bad h r = does (Some bad) h r

  pub went_on : strays sc i m e ≡ false → first_of (refused_read i m) (refused_store e m) ≡ None → acts sc i at next m ≡ leads e.go at next (after e m)
  went_on h r = does None h r
