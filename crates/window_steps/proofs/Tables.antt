-- The jump at the end of a window goes to the word of its table.
use Rattle.std.proofs.Common.{◌≡◌, ℕ, ◌+◌, ◌*◌, ◌%◌, ◌^◌, ◌<◌, true, false, nat_eq, if◌then◌else◌, List, Option, Some, None, refl, sym, ap, ◌∙◌, subst, arith}
use Rattle.std.specs.Prelude.{unwrap_or}
use Rattle.std.proofs.Math.Nat.{mod-eq_of_lt}
use Rattle.std.proofs.lemmas.Bool.{ltb-true}
use Rattle.elf_image.specs.declared.image.Segment.{Segment}
use Rattle.elf_image.specs.declared.range.Range.{Range}
use Rattle.elf_image.specs.Image.{frozen_byte}
use Rattle.dream_words.specs.declared.outcome.Start.{Start}
use Rattle.dream_words.specs.Memory.{Mem, byte_at, load}
use Rattle.dream_words.specs.Ranges.{AreBytes}
use Rattle.dream_words.specs.Registers.{reg_of}
use Rattle.x86_inst.specs.declared.Inst.{Inst}
use Rattle.x86_inst.specs.declared.Inst.TheVariants as i
use Rattle.x86_inst.specs.declared.Mem.{Mem as Address}
use Rattle.x86_inst.specs.declared.Operand.{Operand}
use Rattle.x86_inst.specs.declared.Operand.TheVariants as o
use Rattle.x86_inst.specs.declared.Seg.{Seg}
use Rattle.x86_inst.specs.declared.Seg.TheVariants as seg
use Rattle.x86_inst.specs.declared.Size.TheVariants.{W}
use Rattle.x86_formed.specs.Formed.{is_formed_operand}
use Rattle.x86_model.specs.declared.effect.Effect.{Effect}
use Rattle.x86_model.specs.declared.effect.Go.TheVariants as go
use Rattle.x86_model.specs.Effects.{goes}
use Rattle.x86_model.specs.Leads.{allowed, effect_in, refused_read, step_of}
use Rattle.x86_model.specs.Machine.{At, State}
use Rattle.x86_model.specs.Operands.{address_of, value_of}
use Rattle.x86_model.specs.Rows.{is_bare}
use Rattle.machine.specs.Code.{BeginsAt, Decodes}
use Rattle.machine.specs.Run.{step_at}
use Rattle.jump_tables.specs.Forms.{Forms, Index, Known, memory_table, table_of}
use Rattle.jump_tables.specs.Window.{frozen_at, frozen_word}
use Rattle.jump_tables.specs.declared.forms.Form.{Form}
use Rattle.jump_tables.specs.declared.forms.Form.TheVariants as form
use Rattle.window_steps.specs.Knowledge.{Holds, Says, value_in}
use Rattle.window_steps.proofs.Moves.{word_fits}
use Rattle.window_steps.proofs.Operands.{table_address, with_regs}
use Rattle.window_steps.proofs.Paths.{begins_formed}
use Rattle.window_steps.proofs.Quiet.{scene, step_to}

-- ---- frozen words

-- memory has the frozen bytes of an image
abbrev pub Frozen : List Segment → Mem → Type 0
Frozen m mem = (a b : ℕ) → frozen_byte m a ≡ Some b → byte_at mem a ≡ b

-- so many entries of four bytes are frozen
abbrev pub Entries : List Segment → ℕ → ℕ → Type 0
Entries m t count = (k : ℕ) → k < 4 * count → (b : ℕ) × (frozen_byte m ((t + k) % 2 ^ 32) ≡ Some b)

module _ (m : List Segment) (mem : Mem) (frozen : Frozen m mem) (t count : ℕ) (entries : Entries m t count) where
  byte_is : (k a z : ℕ) → k < 4 * count → a % 2 ^ 32 ≡ (t + k) % 2 ^ 32 → z % 2 ^ 32 ≡ (t + k) % 2 ^ 32 → byte_at mem (a % 2 ^ 32) ≡ frozen_at m z
  byte_is k a z l p q =
      let e = entries k l in
      ap (byte_at mem) p ∙ frozen ((t + k) % 2 ^ 32) e.0 e.1 ∙ sym (ap (λ n. unwrap_or (frozen_byte m n) 0) q ∙ ap (λ o. unwrap_or o 0) e.1)

  sums : (a b c d p q r s : ℕ) → a ≡ p → b ≡ q → c ≡ r → d ≡ s → a + 256 * (b + 256 * (c + 256 * (d + 256 * 0))) ≡ p + 2 ^ 8 * q + 2 ^ 16 * r + 2 ^ 24 * s
  sums a b c d p q r s h k l n = omega (arith, h, k, l, n)

  small : (i j : ℕ) → i < count → j < 4 → 4 * i + j < 4 * count
  small i j h k = omega (arith, h, k)

  first_at : (z : ℕ) → (z % 2 ^ 32) % 2 ^ 32 ≡ z % 2 ^ 32
  first_at z = omega arith

  -- the j-th byte of an entry, however its address is written
  pub word_is : (i : ℕ) → i < count → load mem ((t + 4 * i) % 2 ^ 32) 4 ≡ frozen_word m (t + 4 * i)
  word_is i h =
      let z : ℕ = t + 4 * i in
      let a : ℕ = z % 2 ^ 32 in
      sums (byte_at mem (a % 2 ^ 32)) (byte_at mem ((a + 1) % 2 ^ 32)) (byte_at mem ((a + 1 + 1) % 2 ^ 32)) (byte_at mem ((a + 1 + 1 + 1) % 2 ^ 32))
      (frozen_at m z) (frozen_at m (z + 1)) (frozen_at m (z + 2)) (frozen_at m (z + 3))
      (byte_is (4 * i + 0) a z (small i 0 h (omega arith)) (omega arith) (omega arith))
      (byte_is (4 * i + 1) (a + 1) (z + 1) (small i 1 h (omega arith)) (omega arith) (omega arith))
      (byte_is (4 * i + 2) (a + 1 + 1) (z + 2) (small i 2 h (omega arith)) (omega arith) (omega arith))
      (byte_is (4 * i + 3) (a + 1 + 1 + 1) (z + 3) (small i 3 h (omega arith)) (omega arith) (omega arith))

-- ---- the operand of the jump

-- an address without registers leads through no table
zero_times : (scale : ℕ) → (0 + 0 * scale % 2 ^ 32) % 2 ^ 32 ≡ 0
zero_times scale = omega arith

bare_table : (forms : Forms) (scale disp : ℕ) → memory_table forms (record { base = None; index = None; scale = scale; disp = disp; seg = seg.None }) ≡ None
bare_table forms scale disp = ap (λ n. if nat_eq n 4 then Some (((0 + 0 * scale % 2 ^ 32) % 2 ^ 32 + disp) % 2 ^ 32) else None) (zero_times scale)

memory_loose : (forms : Forms) (m : Address) (t : ℕ) → memory_table forms m ≡ Some t → is_bare (o.Mem m) ≡ false
memory_loose forms m t h = loose m.base m.index m.scale m.disp m.seg h
  where
    loose : (base index : Option ℕ) (scale disp : ℕ) (g : Seg) → memory_table forms (record { base = base; index = index; scale = scale; disp = disp; seg = g }) ≡ Some t
        → is_bare (o.Mem (record { base = base; index = index; scale = scale; disp = disp; seg = g })) ≡ false
    loose (Some b) index scale disp g h = refl
    loose None (Some b) scale disp g h = refl
    loose None None scale disp seg.Fs h = refl
    loose None None scale disp seg.Gs h = refl
    loose None None scale disp seg.None h = absurd (let e : ◌≡◌ {A = Option ℕ} None (Some t) = sym (bare_table forms scale disp) ∙ h in cc)

pub loose : (forms : Forms) (p : Operand) (t : ℕ) → table_of forms p ≡ Some t → is_bare p ≡ false
loose forms (o.Reg n) t h = refl
loose forms (o.Mem m) t h = memory_loose forms m t h
loose forms (o.Imm k) t h = absurd (let z : ⊥ = cc in z)

-- the form of the register that a jump goes by
reg_table : (forms : Forms) (n t : ℕ) → table_of forms (o.Reg n) ≡ Some t → forms n ≡ form.Entry t
reg_table forms n t h = by_form (forms n) h
  where
    by_form : (f : Form) → table_of (λ k. f) (o.Reg n) ≡ Some t → f ≡ form.Entry t
    by_form (form.Scaled a c) h = absurd (let z : ⊥ = cc in z)
    by_form (form.Entry d) h = let same : d ≡ t = cc in ap (λ k. form.Entry k) same
    by_form form.Unknown h = absurd (let z : ⊥ = cc in z)

-- the operand is the word at four times the index from the table
goal_is : (x : Index) (k : Known) (i t : ℕ) (p : Operand) (s : State) → Holds x i k s → AreBytes s.mem → is_formed_operand p ≡ true → table_of k.forms p ≡ Some t
    → value_in W p s ≡ load s.mem ((t + 4 * i) % 2 ^ 32) 4
goal_is x k i t (o.Reg n) s h bytes e g = subst (λ f. Says s.mem i f (reg_of s.regs n)) (reg_table k.forms n t g) (h.forms n (ltb-true n 8 e))
goal_is x k i t (o.Mem m) s h bytes e g =
    mod-eq_of_lt (word_fits s.mem bytes (address_of m s.regs s.fs s.gs)) ∙ ap (λ a. load s.mem a 4) (table_address s.mem i k.forms s.regs h.forms m s.fs s.gs t e g)
goal_is x k i t (o.Imm v) s h bytes e g = absurd (let z : ⊥ = cc in z)

-- a jump by a word, whatever word it reads
jump_value : (p : Operand) (next : ℕ) (s : State) → value_of W p (step_of (i.JmpTo p) next s) ≡ value_in W p s
jump_value (o.Reg n) next s = refl
jump_value (o.Mem m) next s = refl
jump_value (o.Imm k) next s = refl

-- ---- the step

module _ (m : List Segment) (r : Range) (decoded : ℕ → Option (Inst × ℕ)) (decodes : Decodes m r decoded) (start : Start) where
  pub jump_step : (x : Index) (k : Known) (n at size count t : ℕ) (p : Operand) (s : State) → BeginsAt m r at (i.JmpTo p) size → table_of k.forms p ≡ Some t
      → Holds x n k s → AreBytes s.mem → Frozen m s.mem → Entries m t count → n < count
      → step_at (scene m r decoded decodes start) at s ≡ allowed (refused_read (i.JmpTo p) s) s (At (frozen_word m (t + 4 * n)) s)
  jump_step x k n at size count t p s b g h bytes frozen entries l =
      let next : ℕ = (at + size) % 2 ^ 32 in
      let a = step_of (i.JmpTo p) next s in
      let value : value_of W p a ≡ frozen_word m (t + 4 * n) = jump_value p next s ∙ goal_is x k n t p s h bytes (begins_formed m r at (i.JmpTo p) size b) g ∙ word_is m s.mem frozen t count entries n l in
      let e : effect_in (i.JmpTo p) next s ≡ goes (go.To (frozen_word m (t + 4 * n))) a =
      ap (λ q. goes (if q then go.LeaveTo (value_of W p a) else go.To (value_of W p a)) a) (loose k.forms p t g) ∙ ap (λ v. goes (go.To v) a) value in
      step_to m r decoded decodes start at (i.JmpTo p) size (frozen_word m (t + 4 * n)) s b (ap (λ f. f.store) e) (ap (λ f. f.go) e) refl
      ∙ ap (λ (f : Effect). allowed (refused_read (i.JmpTo p) s) s (At (frozen_word m (t + 4 * n)) (with_regs s f.regs f.flags))) e
