-- Laws of outcomes that are the same, and of calls that are the front of others.
use Rattle.std.proofs.Common.{List, [], ◌∷◌, ◌++◌, refl, sym, ◌∙◌}
use Rattle.dream_words.specs.declared.outcome.Call.{Call}
use Rattle.dream_words.specs.declared.outcome.Outcome.{Outcome}
use Rattle.dream_words.specs.declared.outcome.Outcome.TheVariants.{Returned, Faulted, Asking, Strayed, Undecoded, Stuck, Going}
use Rattle.dream_words.proofs.Memories.{SameMemory_sym, SameMemory_trans}
use Rattle.dream_words.specs.Same.{Same, SameCall, SameCalls, IsEnded, calls_of, AreFront}

pub SameCall_refl : (c : Call) → SameCall c c
SameCall_refl c = record { target = refl; regs = refl; mem = λ a h. refl }

pub SameCall_sym : (c d : Call) → SameCall c d → SameCall d c
SameCall_sym c d p = record { target = sym p.target; regs = sym p.regs; mem = SameMemory_sym c.mem d.mem p.mem }

pub SameCall_trans : (b c d : Call) → SameCall b c → SameCall c d → SameCall b d
SameCall_trans b c d p q =
    record { target = p.target ∙ q.target; regs = p.regs ∙ q.regs; mem = SameMemory_trans b.mem c.mem d.mem p.mem q.mem }

pub SameCalls_refl : (cs : List Call) → SameCalls cs cs
SameCalls_refl [] = tt
SameCalls_refl (c ∷ cs) = (SameCall_refl c, SameCalls_refl cs)

pub SameCalls_sym : (cs ds : List Call) → SameCalls cs ds → SameCalls ds cs
SameCalls_sym [] [] p = tt
SameCalls_sym (c ∷ cs) (d ∷ ds) p = (SameCall_sym c d p.0, SameCalls_sym cs ds p.1)
SameCalls_sym [] (d ∷ ds) p = absurd p
SameCalls_sym (c ∷ cs) [] p = absurd p

pub SameCalls_trans : (bs cs ds : List Call) → SameCalls bs cs → SameCalls cs ds → SameCalls bs ds
SameCalls_trans [] [] [] p q = tt
SameCalls_trans (b ∷ bs) (c ∷ cs) (d ∷ ds) p q = (SameCall_trans b c d p.0 q.0, SameCalls_trans bs cs ds p.1 q.1)
SameCalls_trans [] [] (d ∷ ds) p q = absurd q
SameCalls_trans (b ∷ bs) (c ∷ cs) [] p q = absurd q
SameCalls_trans [] (c ∷ cs) ds p q = absurd p
SameCalls_trans (b ∷ bs) [] ds p q = absurd p

-- ---- outcomes

pub Same_refl : (o : Outcome) → Same o o
Same_refl (Returned r m cs) = (refl, (λ a h. refl), SameCalls_refl cs)
Same_refl (Faulted v at m cs) = (refl, refl, (λ a h. refl), SameCalls_refl cs)
Same_refl (Asking cs) = SameCalls_refl cs
Same_refl Strayed = tt
Same_refl Undecoded = tt
Same_refl Stuck = tt
Same_refl (Going cs) = SameCalls_refl cs

pub Same_sym : (a b : Outcome) → Same a b → Same b a
Same_sym (Returned r m cs) (Returned s n ds) p = (sym p.0, SameMemory_sym m n p.1, SameCalls_sym cs ds p.2)
Same_sym (Faulted v a m cs) (Faulted w b n ds) p = (sym p.0, sym p.1, SameMemory_sym m n p.2, SameCalls_sym cs ds p.3)
Same_sym (Asking cs) (Asking ds) p = SameCalls_sym cs ds p
Same_sym Strayed Strayed p = tt
Same_sym Undecoded Undecoded p = tt
Same_sym Stuck Stuck p = tt
Same_sym (Going cs) (Going ds) p = SameCalls_sym cs ds p
Same_sym a b p = absurd p

pub Same_trans : (a b c : Outcome) → Same a b → Same b c → Same a c
Same_trans (Returned q k bs) (Returned r m cs) (Returned s n ds) p h = (p.0 ∙ h.0, SameMemory_trans k m n p.1 h.1, SameCalls_trans bs cs ds p.2 h.2)
Same_trans (Returned q k bs) (Returned r m cs) c p h = absurd h
Same_trans (Faulted q a k bs) (Faulted r b m cs) (Faulted s c n ds) p h = (p.0 ∙ h.0, p.1 ∙ h.1, SameMemory_trans k m n p.2 h.2, SameCalls_trans bs cs ds p.3 h.3)
Same_trans (Faulted q a k bs) (Faulted r b m cs) c p h = absurd h
Same_trans (Asking bs) (Asking cs) (Asking ds) p h = SameCalls_trans bs cs ds p h
Same_trans (Asking bs) (Asking cs) c p h = absurd h
Same_trans Strayed Strayed c p h = h
Same_trans Undecoded Undecoded c p h = h
Same_trans Stuck Stuck c p h = h
Same_trans (Going bs) (Going cs) (Going ds) p h = SameCalls_trans bs cs ds p h
Same_trans (Going bs) (Going cs) c p h = absurd h
Same_trans a b c p h = absurd p

-- what is the same as an outcome that has ended has ended
pub Same-IsEnded : (a b : Outcome) → Same a b → IsEnded a → IsEnded b
Same-IsEnded (Returned r m cs) (Returned s n ds) p h = tt
Same-IsEnded (Faulted v a m cs) (Faulted w b n ds) p h = tt
Same-IsEnded (Asking cs) (Asking ds) p h = tt
Same-IsEnded Strayed Strayed p h = absurd h
Same-IsEnded Undecoded Undecoded p h = absurd h
Same-IsEnded Stuck Stuck p h = absurd h
Same-IsEnded (Going cs) (Going ds) p h = absurd h
Same-IsEnded a b p h = absurd p

-- ---- fronts

pub AreFront_refl : (cs : List Call) → AreFront cs cs
AreFront_refl [] = tt
AreFront_refl (c ∷ cs) = (SameCall_refl c, AreFront_refl cs)

pub AreFront_trans : (bs cs ds : List Call) → AreFront bs cs → AreFront cs ds → AreFront bs ds
AreFront_trans [] cs ds p q = tt
AreFront_trans (b ∷ bs) [] ds p q = absurd p
AreFront_trans (b ∷ bs) (c ∷ cs) [] p q = absurd q
AreFront_trans (b ∷ bs) (c ∷ cs) (d ∷ ds) p q = (SameCall_trans b c d p.0 q.0, AreFront_trans bs cs ds p.1 q.1)

-- the same calls are a front
pub AreFront-SameCalls : (cs ds : List Call) → SameCalls cs ds → AreFront cs ds
AreFront-SameCalls [] ds p = tt
AreFront-SameCalls (c ∷ cs) [] p = absurd p
AreFront-SameCalls (c ∷ cs) (d ∷ ds) p = (p.0, AreFront-SameCalls cs ds p.1)

-- calls are the front of those calls and more
pub AreFront-append : (cs ds : List Call) → AreFront cs (cs ++ ds)
AreFront-append [] ds = tt
AreFront-append (c ∷ cs) ds = (SameCall_refl c, AreFront-append cs ds)

-- the calls of an outcome that is the same
pub AreFront-Same : (a b : Outcome) → Same a b → AreFront (calls_of a) (calls_of b)
AreFront-Same (Returned r m cs) (Returned s n ds) p = AreFront-SameCalls cs ds p.2
AreFront-Same (Faulted v a m cs) (Faulted w b n ds) p = AreFront-SameCalls cs ds p.3
AreFront-Same (Asking cs) (Asking ds) p = AreFront-SameCalls cs ds p
AreFront-Same Strayed Strayed p = tt
AreFront-Same Undecoded Undecoded p = tt
AreFront-Same Stuck Stuck p = tt
AreFront-Same (Going cs) (Going ds) p = AreFront-SameCalls cs ds p
AreFront-Same a b p = absurd p
