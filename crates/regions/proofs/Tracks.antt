-- A part of a tree goes along a flow: it enters the flow's blocks in the flow's order and worlds.
use Rattle.std.proofs.Common.{◌≡◌, ℕ, zero, suc, ◌+◌, ◌≤◌, Bool, true, false, cond, List, Some, refl, sym, ap, ◌∙◌, subst, arith}
use Rattle.std.specs.Prelude.{slice_get}
use Rattle.dream_words.specs.declared.outcome.Outcome.{Outcome}
use Rattle.run_parts.specs.Parts.{Past, Broke, Over, Stuck, Run, Ends, Goes, on, skip, after, seq, decide, choose, caught, catch_break, round, rounds, repeat, always}
use Rattle.run_parts.specs.Steps.{To, End, Nowhere}
use Rattle.run_parts.specs.World.{World}
use Rattle.c_syntax.specs.Run.{Part}
use Rattle.micro_ir.specs.declared.flow.Block.{Block}
use Rattle.micro_ir.specs.Run.{enter, onward, walk}
use Rattle.micro_ir.proofs.More.{more_from}
use Rattle.regions.proofs.Core.{core}
use Rattle.regions.proofs.Entries.{count_on, entries, entries_more}

-- Where a run stands: how many turns it owes, which are begun before their heads are entered, the block that is entered
-- next, and the world of the tree.
abbrev pub Place : Type 1
Place = ℕ → ℕ → World → Type 0

-- with no turn owed, and with one
abbrev pub Clear : (ℕ → World → Type 0) → Place
Clear P d n s = (d ≡ 0) × P n s

abbrev pub Owed : (ℕ → World → Type 0) → Place
Owed P d n s = (d ≡ 1) × P n s

module _ (blocks : List Block) (head : ℕ → Bool) where
  -- no run from a block is stuck
  abbrev pub Sound : ℕ → World → Type 0
  Sound n w = (k : ℕ) → walk blocks k n w ≡ Nowhere → ⊥

  pub sound_on : (j n m : ℕ) (w u : World) → Sound n w → walk blocks j n w ≡ To m u → Sound m u
  sound_on j n m w u s p k e = s (j + k) (more_from blocks j k n w (To m u) p ∙ e)

  -- The flow goes from the block n, in s, to a block of which P holds in t. Of m turns f are left over: each turn that was
  -- used is paid by a head.
  pub record Walk (P : Place) (d n : ℕ) (s : World) (m : ℕ) (t : World) (f : ℕ) : Type 0 where
    pub steps : ℕ
    pub debt : ℕ
    pub node : ℕ
    pub path : walk blocks steps n (core s) ≡ To node (core t)
    pub paid : m + d ≤ entries blocks head steps n (core s) + debt + f
    pub left : f ≤ m
    pub holds : P debt node t

  -- the run waits for a turn, before a head
  abbrev pub Waits : Place
  Waits d n s = (d ≡ 0) × (head n ≡ true)

  -- what a run of a part says of the flow
  abbrev pub Kept : Place → Place → ℕ → ℕ → World → ℕ → Run World Outcome → Type 0
  Kept Out Brk d n s m (Ends (Past t) f) = Walk Out d n s m t f
  Kept Out Brk d n s m (Ends (Broke t) f) = Walk Brk d n s m t f
  Kept Out Brk d n s m (Ends (Over o) f) = (k : ℕ) × (walk blocks k n (core s) ≡ End o)
  Kept Out Brk d n s m (Ends Stuck f) = ⊥
  Kept Out Brk d n s m (Goes t) = Walk Waits d n s m t 0

  -- from a debt, a block and a world of which In holds the part goes along the flow, if that is never stuck from there
  pub record Tracks (In : Place) (a : Part) (Out Brk : Place) : Type 0 where
    pub by : (d n : ℕ) (s : World) (m : ℕ) → In d n s → Sound n (core s) → Kept Out Brk d n s m (a m s)

  -- a walk, and then what a run from its end says
  pub walk_on : (P Q : Place) (d n : ℕ) (s : World) (m : ℕ) (t : World) (f : ℕ) (u : World) (g : ℕ) → (w : Walk P d n s m t f) → Walk Q w.debt w.node t f u g → Walk Q d n s m u g
  walk_on P Q d n s m t f u g w v =
      let e = more_from blocks w.steps v.steps n (core s) (To w.node (core t)) w.path ∙ v.path in
      let c = entries_more blocks head w.steps v.steps n (core s) ∙ ap (λ a. entries blocks head w.steps n (core s) + count_on a (entries blocks head v.steps)) w.path in
      record { steps = w.steps + v.steps; debt = v.debt; node = v.node; path = e; paid = omega (arith, c, w.paid, v.paid); left = omega (arith, w.left, v.left); holds = v.holds }

  pub kept_on : (P Out Brk : Place) (d n : ℕ) (s : World) (m : ℕ) (t : World) (f : ℕ) → (w : Walk P d n s m t f) → (r : Run World Outcome) → Kept Out Brk w.debt w.node t f r → Kept Out Brk d n s m r
  kept_on P Out Brk d n s m t f w (Ends (Past u) g) k = walk_on P Out d n s m t f u g w k
  kept_on P Out Brk d n s m t f w (Ends (Broke u) g) k = walk_on P Brk d n s m t f u g w k
  kept_on P Out Brk d n s m t f w (Ends (Over o) g) k = (w.steps + k.0, more_from blocks w.steps k.0 n (core s) (To w.node (core t)) w.path ∙ k.1)
  kept_on P Out Brk d n s m t f w (Ends Stuck g) k = k
  kept_on P Out Brk d n s m t f w (Goes u) k = walk_on P Waits d n s m t f u 0 w k

  -- ---- one after another

  seq_kept : (Mid Out Brk : Place) (b : Part) → Tracks Mid b Out Brk → (d n : ℕ) (s : World) (m : ℕ) → Sound n (core s) → (r : Run World Outcome) → Kept Mid Brk d n s m r → Kept Out Brk d n s m (on r (after b))
  seq_kept Mid Out Brk b h d n s m o (Ends (Past t) f) w =
      kept_on Mid Out Brk d n s m t f w (b f t) (h.by w.debt w.node t f w.holds (sound_on w.steps n w.node (core s) (core t) o w.path))
  seq_kept Mid Out Brk b h d n s m o (Ends (Broke t) f) w = w
  seq_kept Mid Out Brk b h d n s m o (Ends (Over e) f) w = w
  seq_kept Mid Out Brk b h d n s m o (Ends Stuck f) w = w
  seq_kept Mid Out Brk b h d n s m o (Goes t) w = w

  pub seq_tracks : (In Mid Out Brk : Place) (a b : Part) → Tracks In a Mid Brk → Tracks Mid b Out Brk → Tracks In (seq a b) Out Brk
  seq_tracks In Mid Out Brk a b ha hb =
      record { by = λ d n s m i o. seq_kept Mid Out Brk b hb d n s m o (a m s) (ha.by d n s m i o) }

  -- nothing
  pub stay : (P : Place) (d n : ℕ) (s : World) (m : ℕ) → P d n s → Walk P d n s m s m
  stay P d n s m i = record { steps = 0; debt = d; node = n; path = refl; paid = omega arith; left = omega arith; holds = i }

  pub skip_tracks : (P Brk : Place) → Tracks P skip P Brk
  skip_tracks P Brk = record { by = λ d n s m i o. stay P d n s m i }

  -- ---- one of two

  choose_kept : (Out Brk : Place) (d n : ℕ) (s : World) (m : ℕ) (a b : Part) (v : Bool) → (v ≡ true → Kept Out Brk d n s m (a m s)) → (v ≡ false → Kept Out Brk d n s m (b m s)) → Kept Out Brk d n s m (decide (Some v) a b m s)
  choose_kept Out Brk d n s m a b true h k = h refl
  choose_kept Out Brk d n s m a b false h k = k refl

  -- a test that is never stuck
  pub choose_tracks : (In Out Brk : Place) (c : World → Bool) (a b : Part) → Tracks (λ d n s. In d n s × (c s ≡ true)) a Out Brk → Tracks (λ d n s. In d n s × (c s ≡ false)) b Out Brk → Tracks In (choose (λ s. Some (c s)) a b) Out Brk
  choose_tracks In Out Brk c a b ha hb =
      record { by = λ d n s m i o. choose_kept Out Brk d n s m a b (c s) (λ e. ha.by d n s m (i, e) o) (λ e. hb.by d n s m (i, e) o) }

  -- ---- stronger premises, weaker ends

  pub from_tracks : (In In' Out Brk : Place) (a : Part) → ((d n : ℕ) (s : World) → In' d n s → In d n s) → Tracks In a Out Brk → Tracks In' a Out Brk
  from_tracks In In' Out Brk a f h = record { by = λ d n s m i o. h.by d n s m (f d n s i) o }

  walk_to : (P Q : Place) → ((d n : ℕ) (s : World) → P d n s → Q d n s) → (d n : ℕ) (s : World) (m : ℕ) (t : World) (f : ℕ) → Walk P d n s m t f → Walk Q d n s m t f
  walk_to P Q h d n s m t f w = record { steps = w.steps; debt = w.debt; node = w.node; path = w.path; paid = w.paid; left = w.left; holds = h w.debt w.node t w.holds }

  kept_to : (Out Brk Out' Brk' : Place) → ((d n : ℕ) (s : World) → Out d n s → Out' d n s) → ((d n : ℕ) (s : World) → Brk d n s → Brk' d n s) → (d n : ℕ) (s : World) (m : ℕ) (r : Run World Outcome) → Kept Out Brk d n s m r → Kept Out' Brk' d n s m r
  kept_to Out Brk Out' Brk' f g d n s m (Ends (Past t) e) w = walk_to Out Out' f d n s m t e w
  kept_to Out Brk Out' Brk' f g d n s m (Ends (Broke t) e) w = walk_to Brk Brk' g d n s m t e w
  kept_to Out Brk Out' Brk' f g d n s m (Ends (Over o) e) w = w
  kept_to Out Brk Out' Brk' f g d n s m (Ends Stuck e) w = w
  kept_to Out Brk Out' Brk' f g d n s m (Goes t) w = w

  pub to_tracks : (In Out Brk Out' Brk' : Place) (a : Part) → ((d n : ℕ) (s : World) → Out d n s → Out' d n s) → ((d n : ℕ) (s : World) → Brk d n s → Brk' d n s) → Tracks In a Out Brk → Tracks In a Out' Brk'
  to_tracks In Out Brk Out' Brk' a f g h = record { by = λ d n s m i o. kept_to Out Brk Out' Brk' f g d n s m (a m s) (h.by d n s m i o) }

  -- ---- a switch takes the breaks

  pub catch_kept : (Out Brk : Place) (d n : ℕ) (s : World) (m : ℕ) (r : Run World Outcome) → Kept Out Out d n s m r → Kept Out Brk d n s m (on r caught)
  catch_kept Out Brk d n s m (Ends (Past t) f) w = w
  catch_kept Out Brk d n s m (Ends (Broke t) f) w = w
  catch_kept Out Brk d n s m (Ends (Over o) f) w = w
  catch_kept Out Brk d n s m (Ends Stuck f) w = w
  catch_kept Out Brk d n s m (Goes t) w = w

  pub catch_tracks : (In Out Brk : Place) (a : Part) → Tracks In a Out Out → Tracks In (catch_break a) Out Brk
  catch_tracks In Out Brk a h = record { by = λ d n s m i o. catch_kept Out Brk d n s m (a m s) (h.by d n s m i o) }

  -- ---- a loop: each turn begins before a head

  wants_turn : (Inv : ℕ → World → Type 0) (Out Brk : Place) → ((n : ℕ) (s : World) → Inv n s → head n ≡ true) → (n : ℕ) (s : World) (m : ℕ) → m ≡ 0 → Inv n s → Kept Out Brk 0 n s m (Goes s)
  wants_turn Inv Out Brk at_head n s m e i =
      record { steps = 0; debt = 0; node = n; path = refl; paid = omega arith; left = omega arith; holds = (refl, at_head n s i) }

  -- a turn is over
  round_kept : (Inv Br : ℕ → World → Type 0) (Brk : Place) (next : Part) (m : ℕ) → ((n : ℕ) (t : World) (f : ℕ) → f ≤ m → Inv n t → Sound n (core t) → Kept (Clear Br) Brk 0 n t f (next f t)) → (n : ℕ) (s : World) → Sound n (core s) → (r : Run World Outcome) → Kept (Clear Inv) (Clear Br) 1 n s m r → Kept (Clear Br) Brk 0 n s (suc m) (on r (round always next))
  round_kept Inv Br Brk next m h n s o (Ends (Past t) f) w =
      let zero_debt = w.holds.0 in
      let first : Walk (λ d n t. (d ≡ 0) × Inv n t) 0 n s (suc m) t f = record { steps = w.steps; debt = w.debt; node = w.node; path = w.path; paid = omega (arith, w.paid); left = omega (arith, w.left); holds = w.holds } in
      let sound = sound_on w.steps n w.node (core s) (core t) o w.path in
      let rest : Kept (Clear Br) Brk w.debt w.node t f (next f t) = subst (λ d. Kept (Clear Br) Brk d w.node t f (next f t)) (sym zero_debt) (h w.node t f w.left w.holds.1 sound) in
      kept_on (Clear Inv) (Clear Br) Brk 0 n s (suc m) t f first (next f t) rest
  round_kept Inv Br Brk next m h n s o (Ends (Broke t) f) w =
      record { steps = w.steps; debt = w.debt; node = w.node; path = w.path; paid = omega (arith, w.paid); left = omega (arith, w.left); holds = w.holds }
  round_kept Inv Br Brk next m h n s o (Ends (Over e) f) w = w
  round_kept Inv Br Brk next m h n s o (Ends Stuck f) w = w
  round_kept Inv Br Brk next m h n s o (Goes t) w =
      record { steps = w.steps; debt = w.debt; node = w.node; path = w.path; paid = omega (arith, w.paid); left = omega arith; holds = w.holds }

  rounds_kept : (Inv Br : ℕ → World → Type 0) (Brk : Place) (body : Part) → ((n : ℕ) (s : World) → Inv n s → head n ≡ true) → Tracks (Owed Inv) body (Clear Inv) (Clear Br) → (g n : ℕ) (s : World) (m : ℕ) → m ≤ g → Inv n s → Sound n (core s) → Kept (Clear Br) Brk 0 n s m (rounds g always body always m s)
  rounds_kept Inv Br Brk body at_head h zero n s m le i o = wants_turn Inv (Clear Br) Brk at_head n s m (omega arith) i
  rounds_kept Inv Br Brk body at_head h (suc g) n s zero le i o = wants_turn Inv (Clear Br) Brk at_head n s 0 refl i
  rounds_kept Inv Br Brk body at_head h (suc g) n s (suc m) le i o =
      round_kept Inv Br Brk (rounds g always body always) m
      (λ n' t f lf j p. rounds_kept Inv Br Brk body at_head h g n' t f (omega arith) j p)
      n s o (body m s) (h.by 1 n s m (refl, i) o)

  -- each turn is paid by the head that it begins with
  pub loop_tracks : (Inv Br : ℕ → World → Type 0) (Brk : Place) (body : Part) → ((n : ℕ) (s : World) → Inv n s → head n ≡ true) → Tracks (Owed Inv) body (Clear Inv) (Clear Br) → Tracks (Clear Inv) (repeat always body always) (Clear Br) Brk
  loop_tracks Inv Br Brk body at_head h =
      record { by = λ d n s m i o. subst (λ d. Kept (Clear Br) Brk d n s m (repeat always body always m s)) (sym i.0) (rounds_kept Inv Br Brk body at_head h m n s m (omega arith) i.1 o) }

  -- ---- one block

  one_step : (P : ℕ → World → Type 0) (d n : ℕ) (s : World) (m n' : ℕ) (t : World) → d ≤ cond (head n) 1 0 → enter (slice_get blocks n) (core s) ≡ To n' (core t) → P n' t → Walk (Clear P) d n s m t m
  one_step P d n s m n' t h e p = record { steps = 1; debt = 0; node = n'; path = ap (λ a. onward a (walk blocks 0)) e; paid = omega arith; left = omega arith; holds = (refl, p) }

  pub past_kept : (P : ℕ → World → Type 0) (Brk : Place) (d n : ℕ) (s : World) (m n' : ℕ) (t : World) → d ≤ cond (head n) 1 0 → enter (slice_get blocks n) (core s) ≡ To n' (core t) → P n' t → Kept (Clear P) Brk d n s m (Ends (Past t) m)
  past_kept P Brk d n s m n' t h e p = one_step P d n s m n' t h e p

  pub over_kept : (Out Brk : Place) (d n : ℕ) (s : World) (m : ℕ) (o : Outcome) → enter (slice_get blocks n) (core s) ≡ End o → Kept Out Brk d n s m (Ends (Over o) m)
  over_kept Out Brk d n s m o h = (1, ap (λ a. onward a (walk blocks 0)) h)

  -- a block that leads nowhere can't be come to
  pub not_nowhere : (n : ℕ) (w : World) → Sound n w → enter (slice_get blocks n) w ≡ Nowhere → ⊥
  not_nowhere n w o h = o 1 (ap (λ a. onward a (walk blocks 0)) h)
