-- A simple statement with new names does alike, and so does nothing in the place of a Set of a name that isn't kept.
use Rattle.std.proofs.Common.{◌≡◌, ℕ, nat_eq, Bool, true, false, if◌then◌else◌, List, [], ◌∷◌, ◌++◌, Option, Some, None, refl, sym, ap, subst}
use Rattle.dream_words.specs.Memory.{load, bytes_of}
use Rattle.dream_words.specs.Pages.{first_bad}
use Rattle.dream_words.specs.declared.machine.Regs.{Regs}
use Rattle.dream_words.specs.declared.machine.Name.{Name}
use Rattle.dream_words.specs.declared.machine.Width.{Width}
use Rattle.dream_words.specs.declared.outcome.Answer.{Answer}
use Rattle.dream_words.specs.declared.outcome.Call.{Call}
use Rattle.dream_words.specs.declared.outcome.Outcome.{Outcome}
use Rattle.dream_words.specs.declared.outcome.Outcome.TheVariants as outcome
use Rattle.run_parts.specs.Parts.{skip}
use Rattle.run_parts.specs.Steps.{Next, Halt, having, simply, done}
use Rattle.run_parts.specs.World.{Names, World, with_name, regs_in, answered, returned}
use Rattle.run_parts.specs.Effects.{Doing, set_word, setting, allowing, calling, answered_by}
use Rattle.c_syntax.specs.declared.syntax.CExpr.{CExpr}
use Rattle.c_syntax.specs.declared.syntax.CCond.{CCond}
use Rattle.c_syntax.specs.Run.{word_in, holds, does_set, does_load, does_store, does_ext, does_trap}
use Rattle.c_locals.specs.Marks.{Marks}
use Rattle.c_locals.specs.Settled.{new_name, is_kept, renamed_word, renamed_cond}
use Rattle.c_locals.proofs.ReadNames.{word_reads, cond_reads, Knows}
use Rattle.c_locals.proofs.Agreeing.{Agree, agree_set, agree_drop, agree_regs, agree_answer}
use Rattle.c_locals.proofs.Renamed.{word_kept, cond_kept}
use Rattle.c_locals.proofs.PartsAlike.{in_names, RunAlike, DidAlike, PartAlike, TestAlike, simply_alike}

module _ (m : Marks) where
  abbrev Did : Doing → Doing → Type 0
  Did d e = DidAlike (Agree m) d e

  abbrev pub Alike_ : (World → Doing) → (World → Doing) → Type 0
  Alike_ f g = PartAlike (Agree m) (simply f) (simply g)

  abbrev new : CExpr → CExpr
  new = renamed_word (new_name m)

  pub value_alike : (a : CExpr) → Knows m (word_reads a) → (w : World) (v : Names) → Agree m w.names v → word_in (new a) (in_names w v) ≡ word_in a w
  value_alike a h w v s = word_kept m a h w.names v s

  pub test_alike : (t : CCond) → Knows m (cond_reads t) → TestAlike (Agree m) (holds t) (holds (renamed_cond (new_name m) t))
  test_alike t h w v s = cond_kept m t h w.names v s

  having_alike : (o p : Option ℕ) (k j : ℕ → Doing) → p ≡ o → ((x : ℕ) → Did (k x) (j x)) → Did (having o k) (having p j)
  having_alike None p k j e h = tt
  having_alike (Some x) p k j e h = subst (λ q. Did (k x) (having q j)) (sym e) (h x)

  -- the world after a name is set
  set_alike : (n : Name) (x : ℕ) (w : World) (v : Names) → is_kept m n ≡ true → Agree m w.names v → Did (Next (set_word n x w)) (Next (set_word (new_name m n) x (in_names w v)))
  set_alike n x w v h s = (with_name v (new_name m n) x, refl, agree_set m w.names v n x h s)

  allowed_alike : (bad : Option ℕ) (w : World) (v : Names) (d e : Doing) → Did d e → Did (allowing bad w d) (allowing bad (in_names w v) e)
  allowed_alike None w v d e h = h
  allowed_alike (Some a) w v d e h = refl

  answer_alike : (left : List Answer) (calls : List Call) (w : World) (v : Names) → Agree m w.names v → Did (answered_by left calls w) (answered_by left calls (in_names w v))
  answer_alike [] calls w v s = refl
  answer_alike (a ∷ rest) calls w v s = (answered a v, refl, agree_answer m a w.names v s)

  call_alike : (target : ℕ) (w : World) (v : Names) → Agree m w.names v → Did (calling target w) (calling target (in_names w v))
  call_alike target w v s =
      subst (λ (q : Regs). Did (calling target w) (answered_by w.left (w.calls ++ (record { target = target; regs = q; mem = w.mem }) ∷ []) (in_names w v))) (sym (agree_regs m w.names v s))
      (answer_alike w.left (w.calls ++ (record { target = target; regs = regs_in w.names; mem = w.mem }) ∷ []) w v s)

  trap_alike : (b : Bool) (o : Outcome) (w : World) (v : Names) → Agree m w.names v → Did (if b then Next w else Halt o) (if b then Next (in_names w v) else Halt o)
  trap_alike true o w v s = (v, refl, s)
  trap_alike false o w v s = refl

  pub set_does : (n : Name) (a : CExpr) → is_kept m n ≡ true → Knows m (word_reads a) → Alike_ (does_set n a) (does_set (new_name m n) (new a))
  set_does n a i h = simply_alike (Agree m) (does_set n a) (does_set (new_name m n) (new a)) (λ w v s. having_alike _ _ _ _ (value_alike a h w v s) (λ x. set_alike n x w v i s))

  -- a Set of a name that isn't kept leads on, or is stuck
  dropped : (n : Name) (o : Option ℕ) (k : ℕ) (w : World) (v : Names) → is_kept m n ≡ false → Agree m w.names v
      → RunAlike (Agree m) (done (having o (λ x. setting n x w)) k) (skip k (in_names w v))
  dropped n None k w v i s = tt
  dropped n (Some x) k w v i s = (v, refl, agree_drop m w.names v n x i s)

  pub drop_does : (n : Name) (a : CExpr) → is_kept m n ≡ false → PartAlike (Agree m) (simply (does_set n a)) skip
  drop_does n a i = record { by = λ k w v s. dropped n (word_in a w) k w v i s }

  pub load_does : (n : Name) (width : Width) (a : CExpr) → is_kept m n ≡ true → Knows m (word_reads a) → Alike_ (does_load n width a) (does_load (new_name m n) width (new a))
  load_does n width a i h = simply_alike (Agree m) (does_load n width a) (does_load (new_name m n) width (new a)) (λ w v s. having_alike _ _ _ _ (value_alike a h w v s)
      (λ at. allowed_alike (first_bad w.pages.read at (bytes_of width)) w v _ _ (set_alike n (load w.mem at (bytes_of width)) w v i s)))

  pub store_does : (width : Width) (a b : CExpr) → Knows m (word_reads a) → Knows m (word_reads b) → Alike_ (does_store width a b) (does_store width (new a) (new b))
  store_does width a b h k = simply_alike (Agree m) (does_store width a b) (does_store width (new a) (new b)) (λ w v s. having_alike _ _ _ _ (value_alike a h w v s)
      (λ at. having_alike _ _ _ _ (value_alike b k w v s)
      (λ x. allowed_alike (first_bad w.pages.write at (bytes_of width)) w v _ _ (v, refl, s))))

  pub ext_does : (a : CExpr) → Knows m (word_reads a) → Alike_ (does_ext a) (does_ext (new a))
  ext_does a h = simply_alike (Agree m) (does_ext a) (does_ext (new a)) (λ w v s. having_alike _ _ _ _ (value_alike a h w v s) (λ target. call_alike target w v s))

  pub trap_does : (vector : ℕ) (a : CExpr) → Knows m (word_reads a) → Alike_ (does_trap vector a) (does_trap vector (new a))
  trap_does vector a h = simply_alike (Agree m) (does_trap vector a) (does_trap vector (new a)) (λ w v s. having_alike _ _ _ _ (value_alike a h w v s)
      (λ x. trap_alike (nat_eq x 0) (outcome.Faulted vector 0 w.mem w.calls) w v s))

  pub returns_same : (w : World) (v : Names) → Agree m w.names v → returned (in_names w v) ≡ returned w
  returns_same w v s = ap (λ (r : Regs). outcome.Returned r w.mem w.calls) (agree_regs m w.names v s)

  pub return_does : Alike_ (λ w. Halt (returned w)) (λ w. Halt (returned w))
  return_does = simply_alike (Agree m) (λ w. Halt (returned w)) (λ w. Halt (returned w)) (λ w v s. ap (λ o. Halt o) (returns_same w v s))
