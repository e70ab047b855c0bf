-- What each instruction of a path does: which register it writes, and what its form says of the word.
use Rattle.std.proofs.Common.{◌≡◌, ℕ, ◌+◌, ◌*◌, ◌%◌, ◌^◌, ◌<◌, Bool, true, false, nat_eq, if◌then◌else◌, Option, Some, None, refl, sym, ap, ◌∙◌, subst, arith}
use Rattle.std.specs.Prelude.{◌&&◌, ◌||◌, not, ◌==◌}
use Rattle.std.proofs.Math.Nat.{mod-eq_of_lt, mul-one}
use Rattle.std.proofs.lemmas.Bool.{and_parts, ltb-true, eqb-true}
use Rattle.dream_words.specs.declared.machine.Regs.{Regs}
use Rattle.dream_words.specs.declared.machine.Flags.{Flags}
use Rattle.dream_words.specs.Memory.{Mem, load, byte_at}
use Rattle.dream_words.specs.Ranges.{AreBytes}
use Rattle.dream_words.specs.Registers.{reg_of, with_reg}
use Rattle.dream_words.specs.Words.{low_part}
use Rattle.x86_inst.specs.declared.AluOp.TheVariants.{Add}
use Rattle.x86_inst.specs.declared.Count.TheVariants as count
use Rattle.x86_inst.specs.declared.Inst.{Inst}
use Rattle.x86_inst.specs.declared.Inst.TheVariants as i
use Rattle.x86_inst.specs.declared.Mem.{Mem as Address}
use Rattle.x86_inst.specs.declared.Operand.{Operand}
use Rattle.x86_inst.specs.declared.Operand.TheVariants as o
use Rattle.x86_inst.specs.declared.Seg.{Seg}
use Rattle.x86_inst.specs.declared.Seg.TheVariants as seg
use Rattle.x86_inst.specs.declared.ShiftOp.TheVariants.{Shl}
use Rattle.x86_inst.specs.declared.Size.{Size}
use Rattle.x86_inst.specs.declared.Size.TheVariants.{B, H, W}
use Rattle.x86_formed.specs.Formed.{is_formed_mem, is_formed_operand}
use Rattle.x86_model.specs.declared.effect.Effect.{Effect}
use Rattle.x86_model.specs.declared.effect.Go.TheVariants as go
use Rattle.x86_model.specs.declared.effect.Step.{Step}
use Rattle.x86_model.specs.Arithmetic.{alu_flags, sum_of}
use Rattle.x86_model.specs.Effects.{done, put}
use Rattle.x86_model.specs.Leads.{effect_in, step_of}
use Rattle.x86_model.specs.Machine.{State}
use Rattle.x86_model.specs.Operands.{address_of, base_of, bits_of, value_of, with_part}
use Rattle.x86_model.specs.WideRows.{shift_flags, shift_none, shift_value}
use Rattle.x86_model.specs.Successors.{is_memory}
use Rattle.jump_tables.specs.Forms.{Index, Known, entry_of, form_after, memory_table, moved_form, reads_again, same_operand, same_register, same_size, times, whole, written}
use Rattle.jump_tables.specs.declared.forms.Form.{Form}
use Rattle.jump_tables.specs.declared.forms.Form.TheVariants as form
use Rattle.window_steps.specs.Knowledge.{Holds, Says, value_in}
use Rattle.window_steps.proofs.Forms.{plus_same, plus_says, same_is, times_same, times_says}
use Rattle.window_steps.proofs.Operands.{Keeps, address_says, entry_says}
use Rattle.window_steps.proofs.Registers.{part_other, reg_same}

-- ---- words

-- each register is a word
abbrev pub RegsFit : Regs → Type 0
RegsFit r = (n : ℕ) → reg_of r n < 2 ^ 32

-- a word of four bytes is one
pub word_fits : (mem : Mem) → AreBytes mem → (a : ℕ) → load mem a 4 < 2 ^ 32
word_fits mem h a =
    let p = h (a % 2 ^ 32) in
    let q = h ((a + 1) % 2 ^ 32) in
    let r = h ((a + 1 + 1) % 2 ^ 32) in
    let s = h ((a + 1 + 1 + 1) % 2 ^ 32) in
    fits (byte_at mem (a % 2 ^ 32)) (byte_at mem ((a + 1) % 2 ^ 32)) (byte_at mem ((a + 1 + 1) % 2 ^ 32)) (byte_at mem ((a + 1 + 1 + 1) % 2 ^ 32)) p q r s
  where
    fits : (p q r s : ℕ) → p < 256 → q < 256 → r < 256 → s < 256 → p + 256 * (q + 256 * (r + 256 * (s + 256 * 0))) < 2 ^ 32
    fits p q r s a b c d = omega (arith, a, b, c, d)

-- ---- an effect

-- An instruction of a path has this effect: the run goes on, nothing is stored, and of the registers only the written one may
-- change, of which its form holds.
pub record Sets (x : Index) (k : Known) (n : ℕ) (inst : Inst) (s : State) (e : Effect) : Type 0 where
  pub goes : e.go ≡ go.Next
  pub stores : e.store ≡ None
  pub keeps : Keeps (written inst) s.regs e.regs
  pub gives : (r : ℕ) → written inst ≡ Some r → r < 8 → Says s.mem n (form_after x k inst) (reg_of e.regs r)

-- a register is written, whose form is a given one
module _ (x : Index) (k : Known) (n : ℕ) (inst : Inst) (s : State) where
  put_sets : (size : Size) (d v : ℕ) (a : Step) (f : Flags) → a.regs ≡ s.regs → written inst ≡ Some (whole size d)
      → ((r : ℕ) → Some (whole size d) ≡ Some r → r < 8 → Says s.mem n (form_after x k inst) (reg_of (with_part size s.regs d v) r)) → Sets x k n inst s (put size (o.Reg d) v a (done a f))
  put_sets size d v a f same w g = record {
    goes = refl;
    stores = refl;
    keeps = λ j h. let t : nat_eq (whole size d) j ≡ false = subst (λ p. same_register p (Some j) ≡ false) w h in
        ap (λ r. reg_of (with_part size r d v) j) same ∙ part_other size s.regs d j v t;
    gives = λ r e l. subst (λ q. Says s.mem n (form_after x k inst) (reg_of (with_part size q d v) r)) (sym same) (g r (sym w ∙ e) l);
  }

-- a whole register has the word
whole_gives : (mem : Mem) (n d v : ℕ) (f : Form) (r : Regs) → Says mem n f (low_part 32 v) → (j : ℕ) → ◌≡◌ {A = Option ℕ} (Some d) (Some j) → j < 8 → Says mem n f (reg_of (with_reg r d (low_part 32 v)) j)
whole_gives mem n d v f r h j e l =
    let same : d ≡ j = cc in
    subst (λ k. Says mem n f (reg_of (with_reg r d (low_part 32 v)) k)) same
    (subst (λ y. Says mem n f y) (sym (reg_same r d (low_part 32 v) (subst (λ k. k < 8) (sym same) l))) h)

low_low : (v : ℕ) → low_part 32 (low_part 32 v) ≡ low_part 32 v
low_low v = omega arith

-- ---- the index, read again

-- an operand that is tested to be the index again has its value
again : (x : Index) (k : Known) (n : ℕ) (s : State) (size : Size) (p : Operand) → Holds x n k s → reads_again x k size p ≡ true → value_in size p s ≡ n
again x k n s size p h e =
    let a = and_parts k.is_kept (same_size size x.size && same_operand p x.operand) e in
    let b = same_is size x.size p x.operand a.1 in
    ap (λ z. value_in z p s) b.0 ∙ ap (λ q. value_in x.size q s) b.1 ∙ h.kept a.0

index_says : (mem : Mem) (n v : ℕ) → v ≡ n → Says mem n (form.Scaled 1 0) (low_part 32 v)
index_says mem n v e = omega (arith, e)

-- ---- MOV

module _ (x : Index) (k : Known) (n : ℕ) (s : State) (h : Holds x n k s) (fit : RegsFit s.regs) (bytes : AreBytes s.mem) where
  memory_moved : (b : Bool) (m : Address) → is_formed_mem m ≡ true → b ≡ reads_again x k W (o.Mem m)
      → Says s.mem n (if b then form.Scaled 1 0 else entry_of (memory_table k.forms m)) (low_part 32 (value_in W (o.Mem m) s))
  memory_moved true m e g = index_says s.mem n (value_in W (o.Mem m) s) (again x k n s W (o.Mem m) h (sym g))
  memory_moved false m e g =
      let a : ℕ = address_of m s.regs s.fs s.gs in
      let low : low_part 32 (low_part 32 (load s.mem a 4)) ≡ load s.mem a 4 = low_low (load s.mem a 4) ∙ mod-eq_of_lt (word_fits s.mem bytes a) in
      subst (λ v. Says s.mem n (entry_of (memory_table k.forms m)) v) (sym low) (entry_says s.mem n k.forms s.regs h.forms m s.fs s.gs e)

  moved : (p : Operand) → is_formed_operand p ≡ true → Says s.mem n (moved_form x k p) (low_part 32 (value_in W p s))
  moved (o.Imm v) e = imm_says n v
    where
      imm_says : (n v : ℕ) → low_part 32 (low_part 32 v) % 2 ^ 32 ≡ (0 * n + v) % 2 ^ 32
      imm_says n v = omega arith
  moved (o.Reg d) e = subst (λ v. Says s.mem n (k.forms d) v) (sym (mod-eq_of_lt (fit d))) (h.forms d (ltb-true d 8 e))
  moved (o.Mem m) e = memory_moved (reads_again x k W (o.Mem m)) m e refl

  -- what is known of the operand of an instruction
  pub mov_sets : (size : Size) (d : ℕ) (p : Operand) (next : ℕ) → is_formed_operand p ≡ true → Sets x k n (i.Mov size (o.Reg d) p) s (effect_in (i.Mov size (o.Reg d) p) next s)
  mov_sets B d p next e = put_sets x k n (i.Mov B (o.Reg d) p) s B d (value_of B p (step_of (i.Mov B (o.Reg d) p) next s)) (step_of (i.Mov B (o.Reg d) p) next s) s.flags refl refl (λ r w l. tt)
  mov_sets H d p next e = put_sets x k n (i.Mov H (o.Reg d) p) s H d (value_of H p (step_of (i.Mov H (o.Reg d) p) next s)) (step_of (i.Mov H (o.Reg d) p) next s) s.flags refl refl (λ r w l. tt)
  mov_sets W d (o.Reg c) next e = let inst = i.Mov W (o.Reg d) (o.Reg c) in
      put_sets x k n inst s W d (value_in W (o.Reg c) s) (step_of inst next s) s.flags refl refl
      (whole_gives s.mem n d (value_in W (o.Reg c) s) (moved_form x k (o.Reg c)) s.regs (moved (o.Reg c) e))
  mov_sets W d (o.Mem m) next e = let inst = i.Mov W (o.Reg d) (o.Mem m) in
      put_sets x k n inst s W d (value_in W (o.Mem m) s) (step_of inst next s) s.flags refl refl
      (whole_gives s.mem n d (value_in W (o.Mem m) s) (moved_form x k (o.Mem m)) s.regs (moved (o.Mem m) e))
  mov_sets W d (o.Imm v) next e = let inst = i.Mov W (o.Reg d) (o.Imm v) in
      put_sets x k n inst s W d (value_in W (o.Imm v) s) (step_of inst next s) s.flags refl refl
      (whole_gives s.mem n d (value_in W (o.Imm v) s) (moved_form x k (o.Imm v)) s.regs (moved (o.Imm v) e))

  -- ---- MOVZX

  extended : (b : Bool) (from : Size) (p : Operand) → b ≡ reads_again x k from p → Says s.mem n (if b then form.Scaled 1 0 else form.Unknown) (low_part 32 (value_in from p s))
  extended true from p g = index_says s.mem n (value_in from p s) (again x k n s from p h (sym g))
  extended false from p g = tt

  pub movzx_sets : (from to : Size) (d : ℕ) (p : Operand) (next : ℕ) → Sets x k n (i.Movx false from to d p) s (effect_in (i.Movx false from to d p) next s)
  movzx_sets from B d p next = let inst = i.Movx false from B d p in
      put_sets x k n inst s B d (value_of from p (step_of inst next s)) (step_of inst next s) s.flags refl refl (λ r w l. tt)
  movzx_sets from H d p next = let inst = i.Movx false from H d p in
      put_sets x k n inst s H d (value_of from p (step_of inst next s)) (step_of inst next s) s.flags refl refl (λ r w l. tt)
  movzx_sets from W d (o.Reg c) next = let inst = i.Movx false from W d (o.Reg c) in
      put_sets x k n inst s W d (value_in from (o.Reg c) s) (step_of inst next s) s.flags refl refl
      (whole_gives s.mem n d (value_in from (o.Reg c) s) (form_after x k inst) s.regs (extended (reads_again x k from (o.Reg c)) from (o.Reg c) refl))
  movzx_sets from W d (o.Mem m) next = let inst = i.Movx false from W d (o.Mem m) in
      put_sets x k n inst s W d (value_in from (o.Mem m) s) (step_of inst next s) s.flags refl refl
      (whole_gives s.mem n d (value_in from (o.Mem m) s) (form_after x k inst) s.regs (extended (reads_again x k from (o.Mem m)) from (o.Mem m) refl))
  movzx_sets from W d (o.Imm v) next = let inst = i.Movx false from W d (o.Imm v) in
      put_sets x k n inst s W d (value_in from (o.Imm v) s) (step_of inst next s) s.flags refl refl
      (whole_gives s.mem n d (value_in from (o.Imm v) s) (form_after x k inst) s.regs (extended (reads_again x k from (o.Imm v)) from (o.Imm v) refl))

  -- ---- LEA

  no_bases : (g : Seg) → base_of g 0 0 ≡ 0
  no_bases seg.None = refl
  no_bases seg.Fs = refl
  no_bases seg.Gs = refl

  pub lea_sets : (size : Size) (d : ℕ) (m : Address) (next : ℕ) → is_formed_mem m ≡ true → Sets x k n (i.Lea size d m) s (effect_in (i.Lea size d m) next s)
  lea_sets B d m next e = put_sets x k n (i.Lea B d m) s B d (address_of m s.regs 0 0) (step_of (i.Lea B d m) next s) s.flags refl refl (λ r w l. tt)
  lea_sets H d m next e = put_sets x k n (i.Lea H d m) s H d (address_of m s.regs 0 0) (step_of (i.Lea H d m) next s) s.flags refl refl (λ r w l. tt)
  lea_sets W d m next e =
      put_sets x k n (i.Lea W d m) s W d (address_of m s.regs 0 0) (step_of (i.Lea W d m) next s) s.flags refl refl
      (whole_gives s.mem n d (address_of m s.regs 0 0) (form_after x k (i.Lea W d m)) s.regs
      (address_says s.mem n k.forms s.regs h.forms m 0 0 (low_part 32 (address_of m s.regs 0 0)) e (no_bases m.seg) (low_low (address_of m s.regs 0 0))))

  -- ---- ADD of a number

  added : (u v : ℕ) → low_part 32 (low_part 32 (u + low_part 32 v + 0)) % 2 ^ 32 ≡ (u + v) % 2 ^ 32
  added u v = omega arith

  pub add_sets : (size : Size) (d v next : ℕ) → d < 8 → Sets x k n (i.Alu Add size (o.Reg d) (o.Imm v)) s (effect_in (i.Alu Add size (o.Reg d) (o.Imm v)) next s)
  add_sets B d v next e = let inst = i.Alu Add B (o.Reg d) (o.Imm v) in let a = step_of inst next s in
      put_sets x k n inst s B d (sum_of 8 (value_of B (o.Reg d) a) (low_part 8 v) false) a (alu_flags Add 8 (value_of B (o.Reg d) a) (low_part 8 v) false) refl refl (λ r w l. tt)
  add_sets H d v next e = let inst = i.Alu Add H (o.Reg d) (o.Imm v) in let a = step_of inst next s in
      put_sets x k n inst s H d (sum_of 16 (value_of H (o.Reg d) a) (low_part 16 v) false) a (alu_flags Add 16 (value_of H (o.Reg d) a) (low_part 16 v) false) refl refl (λ r w l. tt)
  add_sets W d v next e = let inst = i.Alu Add W (o.Reg d) (o.Imm v) in let a = step_of inst next s in
      put_sets x k n inst s W d (sum_of 32 (reg_of s.regs d) (low_part 32 v) false) a (alu_flags Add 32 (reg_of s.regs d) (low_part 32 v) false) refl refl
      (whole_gives s.mem n d (sum_of 32 (reg_of s.regs d) (low_part 32 v) false) (form_after x k inst) s.regs
      (plus_same s.mem n (k.forms d) v (reg_of s.regs d + v) (low_part 32 (sum_of 32 (reg_of s.regs d) (low_part 32 v) false)) (added (reg_of s.regs d) v)
      (plus_says s.mem n (k.forms d) (reg_of s.regs d) v (h.forms d e))))

  -- ---- SHL by a number

  none_set : (inst : Inst) (a : Step) → a.regs ≡ s.regs → ((r : ℕ) → written inst ≡ Some r → r < 8 → Says s.mem n (form_after x k inst) (reg_of s.regs r)) → Sets x k n inst s (done a a.flags)
  none_set inst a same g = record {
    goes = refl;
    stores = refl;
    keeps = λ j t. ap (λ r. reg_of r j) same;
    gives = λ r e l. subst (λ q. Says s.mem n (form_after x k inst) (reg_of q r)) (sym same) (g r e l);
  }

  once : (c v : ℕ) → c ≡ 0 → v * 2 ^ c ≡ v
  once c v e = ap (λ j. v * 2 ^ j) e ∙ mul-one v

  -- nothing is shifted
  none_says : (d c : ℕ) → c % 32 ≡ 0 → d < 8 → Says s.mem n (times (2 ^ (c % 32)) (k.forms d)) (reg_of s.regs d)
  none_says d c e l = subst (λ v. Says s.mem n (times (2 ^ (c % 32)) (k.forms d)) v) (once (c % 32) (reg_of s.regs d) e) (times_says s.mem n (k.forms d) (reg_of s.regs d) (2 ^ (c % 32)) (h.forms d l))

  shifted : (u w : ℕ) → low_part 32 (u * w % 2 ^ 32) % 2 ^ 32 ≡ u * w % 2 ^ 32
  shifted u w = thrice (u * w)
    where
      thrice : (z : ℕ) → low_part 32 (z % 2 ^ 32) % 2 ^ 32 ≡ z % 2 ^ 32
      thrice z = omega arith

  shl_reg : (b : Bool) (size : Size) (d c next : ℕ) → b ≡ (c % 32 == 0) → d < 8 → let inst = i.Shift Shl size (o.Reg d) (count.Imm c) in let a = step_of inst next s in
      Sets x k n inst s (if b then shift_none (count.Imm c) size (o.Reg d) (value_of size (o.Reg d) a) a
      else put size (o.Reg d) (shift_value Shl (bits_of size) (value_of size (o.Reg d) a) (c % 32)) a (done a (shift_flags Shl (bits_of size) (value_of size (o.Reg d) a) (c % 32) a.flags)))
  shl_reg true B d c next e l = none_set (i.Shift Shl B (o.Reg d) (count.Imm c)) (step_of (i.Shift Shl B (o.Reg d) (count.Imm c)) next s) refl (λ r w b. tt)
  shl_reg true H d c next e l = none_set (i.Shift Shl H (o.Reg d) (count.Imm c)) (step_of (i.Shift Shl H (o.Reg d) (count.Imm c)) next s) refl (λ r w b. tt)
  shl_reg true W d c next e l = none_set (i.Shift Shl W (o.Reg d) (count.Imm c)) (step_of (i.Shift Shl W (o.Reg d) (count.Imm c)) next s) refl
      (λ r w b. let same : d ≡ r = cc in subst (λ j. Says s.mem n (times (2 ^ (c % 32)) (k.forms d)) (reg_of s.regs j)) same (none_says d c (eqb-true (c % 32) 0 (sym e)) l))
  shl_reg false B d c next e l = let inst = i.Shift Shl B (o.Reg d) (count.Imm c) in let a = step_of inst next s in
      put_sets x k n inst s B d (shift_value Shl 8 (value_of B (o.Reg d) a) (c % 32)) a (shift_flags Shl 8 (value_of B (o.Reg d) a) (c % 32) a.flags) refl refl (λ r w l. tt)
  shl_reg false H d c next e l = let inst = i.Shift Shl H (o.Reg d) (count.Imm c) in let a = step_of inst next s in
      put_sets x k n inst s H d (shift_value Shl 16 (value_of H (o.Reg d) a) (c % 32)) a (shift_flags Shl 16 (value_of H (o.Reg d) a) (c % 32) a.flags) refl refl (λ r w l. tt)
  shl_reg false W d c next e l = let inst = i.Shift Shl W (o.Reg d) (count.Imm c) in let a = step_of inst next s in
      put_sets x k n inst s W d (shift_value Shl 32 (reg_of s.regs d) (c % 32)) a (shift_flags Shl 32 (reg_of s.regs d) (c % 32) a.flags) refl refl
      (whole_gives s.mem n d (shift_value Shl 32 (reg_of s.regs d) (c % 32)) (times (2 ^ (c % 32)) (k.forms d)) s.regs
      (times_same s.mem n (k.forms d) (2 ^ (c % 32)) (reg_of s.regs d * 2 ^ (c % 32)) (low_part 32 (reg_of s.regs d * 2 ^ (c % 32) % 2 ^ 32)) (shifted (reg_of s.regs d) (2 ^ (c % 32)))
      (times_says s.mem n (k.forms d) (reg_of s.regs d) (2 ^ (c % 32)) (h.forms d l))))

  -- of memory or a number nothing is shifted
  shl_memory : (b : Bool) (size : Size) (m : Address) (c next : ℕ) → b ≡ true → let inst = i.Shift Shl size (o.Mem m) (count.Imm c) in let a = step_of inst next s in
      Sets x k n inst s (if b then shift_none (count.Imm c) size (o.Mem m) (value_of size (o.Mem m) a) a
      else put size (o.Mem m) (shift_value Shl (bits_of size) (value_of size (o.Mem m) a) (c % 32)) a (done a (shift_flags Shl (bits_of size) (value_of size (o.Mem m) a) (c % 32) a.flags)))
  shl_memory true size m c next e = none_set (i.Shift Shl size (o.Mem m) (count.Imm c)) (step_of (i.Shift Shl size (o.Mem m) (count.Imm c)) next s) refl (λ r w b. absurd (let z : ⊥ = cc in z))
  shl_memory false size m c next e = absurd (let z : ⊥ = cc in z)

  shl_number : (b : Bool) (size : Size) (v c next : ℕ) → let inst = i.Shift Shl size (o.Imm v) (count.Imm c) in let a = step_of inst next s in
      Sets x k n inst s (if b then shift_none (count.Imm c) size (o.Imm v) (value_of size (o.Imm v) a) a
      else put size (o.Imm v) (shift_value Shl (bits_of size) (value_of size (o.Imm v) a) (c % 32)) a (done a (shift_flags Shl (bits_of size) (value_of size (o.Imm v) a) (c % 32) a.flags)))
  shl_number true size v c next = record { goes = refl; stores = refl; keeps = λ j t. refl; gives = λ r w b. absurd (let z : ⊥ = cc in z) }
  shl_number false size v c next = record { goes = refl; stores = refl; keeps = λ j t. refl; gives = λ r w b. absurd (let z : ⊥ = cc in z) }

  pub shl_sets : (size : Size) (d : Operand) (c next : ℕ) → is_formed_operand d ≡ true → (not (is_memory d) || c % 32 == 0) ≡ true
      → Sets x k n (i.Shift Shl size d (count.Imm c)) s (effect_in (i.Shift Shl size d (count.Imm c)) next s)
  shl_sets size (o.Reg d) c next e g = shl_reg (c % 32 == 0) size d c next refl (ltb-true d 8 e)
  shl_sets size (o.Mem m) c next e g = shl_memory (c % 32 == 0) size m c next g
  shl_sets size (o.Imm v) c next e g = shl_number (c % 32 == 0) size v c next
