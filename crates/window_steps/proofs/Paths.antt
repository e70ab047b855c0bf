-- A step along the path of a window: what is known after it holds of the state after it.
use Rattle.std.proofs.Common.{◌≡◌, ℕ, ◌%◌, ◌<◌, Bool, true, false, nat_eq, if◌then◌else◌, List, take, Option, Some, None, refl, sym, ap, ◌∙◌, subst, arith}
use Rattle.std.specs.Prelude.{◌&&◌, ◌||◌, not, ◌==◌}
use Rattle.std.proofs.lemmas.Bool.Decides.{nat_tests}
use Rattle.std.proofs.lemmas.Bool.{and_parts, not-true, eqb-true, ltb-true}
use Rattle.elf_image.specs.declared.image.Segment.{Segment}
use Rattle.elf_image.specs.declared.range.Range.{Range}
use Rattle.elf_image.specs.Range.{bytes_to_end}
use Rattle.dream_words.specs.declared.machine.Flags.{Flags}
use Rattle.dream_words.specs.declared.outcome.Start.{Start}
use Rattle.dream_words.specs.Ranges.{AreBytes}
use Rattle.dream_words.specs.Registers.{reg_of}
use Rattle.x86_inst.specs.declared.AluOp.TheVariants as alu
use Rattle.x86_inst.specs.declared.Count.TheVariants as count
use Rattle.x86_inst.specs.declared.Inst.{Inst}
use Rattle.x86_inst.specs.declared.Inst.TheVariants as i
use Rattle.x86_inst.specs.declared.Mem.{Mem as Address}
use Rattle.x86_inst.specs.declared.Operand.{Operand}
use Rattle.x86_inst.specs.declared.Operand.TheVariants as o
use Rattle.x86_inst.specs.declared.ShiftOp.TheVariants as shift
use Rattle.x86_inst.specs.declared.Size.{Size}
use Rattle.x86_formed.specs.Formed.{is_formed, is_formed_mem, is_formed_operand, is_memory as is_memory_operand, is_register}
use Rattle.x86_formed.proofs.Spelled.{spelled_is_formed}
use Rattle.x86_model.specs.declared.effect.Effect.{Effect}
use Rattle.x86_model.specs.declared.effect.Go.TheVariants as go
use Rattle.x86_model.specs.Undefined.{reads_undefined}
use Rattle.x86_model.specs.Leads.{allowed, effect_in, refused_read}
use Rattle.x86_model.specs.Machine.{At, State}
use Rattle.x86_model.specs.Successors.{is_memory}
use Rattle.machine.specs.Code.{BeginsAt, Decodes}
use Rattle.machine.specs.Run.{Scene, step_at}
use Rattle.jump_tables.specs.Forms.{Index, Known, after, form_after, is_on_path, is_part_of, same_register, with_form, written}
use Rattle.jump_tables.specs.Window.{next_of}
use Rattle.window_steps.specs.Knowledge.{Holds, Says}
use Rattle.window_steps.proofs.Moves.{RegsFit, Sets, add_sets, lea_sets, mov_sets, movzx_sets, shl_sets}
use Rattle.window_steps.proofs.Operands.{value_stays, with_regs}
use Rattle.window_steps.proofs.Quiet.{scene, step_next}

-- ---- which instructions these are

pub data Move : Inst → Type 0 where
  mov : (size : Size) (d : ℕ) (s : Operand) → Move (i.Mov size (o.Reg d) s)
  movzx : (from to : Size) (d : ℕ) (s : Operand) → Move (i.Movx false from to d s)
  lea : (size : Size) (d : ℕ) (m : Address) → Move (i.Lea size d m)
  shl : (size : Size) (d : Operand) (c : ℕ) → (not (is_memory d) || c % 32 == 0) ≡ true → Move (i.Shift shift.Shl size d (count.Imm c))
  add : (size : Size) (d v : ℕ) → Move (i.Alu alu.Add size (o.Reg d) (o.Imm v))

pub path_move : (inst : Inst) → is_on_path inst ≡ true → Move inst
path_move (i.Alu alu.Add size (o.Reg d) (o.Imm v)) h = add size d v
path_move (i.Alu alu.Add size (o.Reg d) (o.Reg c)) h = absurd (let z : ⊥ = cc in z)
path_move (i.Alu alu.Add size (o.Reg d) (o.Mem m)) h = absurd (let z : ⊥ = cc in z)
path_move (i.Alu alu.Add size (o.Mem m) s) h = absurd (let z : ⊥ = cc in z)
path_move (i.Alu alu.Add size (o.Imm k) s) h = absurd (let z : ⊥ = cc in z)
path_move (i.Alu alu.Or size d s) h = absurd (let z : ⊥ = cc in z)
path_move (i.Alu alu.Adc size d s) h = absurd (let z : ⊥ = cc in z)
path_move (i.Alu alu.Sbb size d s) h = absurd (let z : ⊥ = cc in z)
path_move (i.Alu alu.And size d s) h = absurd (let z : ⊥ = cc in z)
path_move (i.Alu alu.Sub size d s) h = absurd (let z : ⊥ = cc in z)
path_move (i.Alu alu.Xor size d s) h = absurd (let z : ⊥ = cc in z)
path_move (i.Alu alu.Cmp size d s) h = absurd (let z : ⊥ = cc in z)
path_move (i.Inc size d) h = absurd (let z : ⊥ = cc in z)
path_move (i.Dec size d) h = absurd (let z : ⊥ = cc in z)
path_move (i.Push s) h = absurd (let z : ⊥ = cc in z)
path_move (i.Pop d) h = absurd (let z : ⊥ = cc in z)
path_move (i.Imul3 size d s k) h = absurd (let z : ⊥ = cc in z)
path_move (i.Jcc c t) h = absurd (let z : ⊥ = cc in z)
path_move (i.Test size d s) h = absurd (let z : ⊥ = cc in z)
path_move (i.Xchg size d s) h = absurd (let z : ⊥ = cc in z)
path_move (i.Mov size (o.Reg d) s) h = mov size d s
path_move (i.Mov size (o.Mem m) s) h = absurd (let z : ⊥ = cc in z)
path_move (i.Mov size (o.Imm k) s) h = absurd (let z : ⊥ = cc in z)
path_move (i.Lea size d m) h = lea size d m
path_move i.Nop h = absurd (let z : ⊥ = cc in z)
path_move (i.Widen size) h = absurd (let z : ⊥ = cc in z)
path_move (i.Spread size) h = absurd (let z : ⊥ = cc in z)
path_move (i.Str op size r g) h = absurd (let z : ⊥ = cc in z)
path_move (i.Shift shift.Rol size d n) h = absurd (let z : ⊥ = cc in z)
path_move (i.Shift shift.Ror size d n) h = absurd (let z : ⊥ = cc in z)
path_move (i.Shift shift.Shl size d count.One) h = absurd (let z : ⊥ = cc in z)
path_move (i.Shift shift.Shl size d count.Cl) h = absurd (let z : ⊥ = cc in z)
path_move (i.Shift shift.Shl size d (count.Imm c)) h = shl size d c h
path_move (i.Shift shift.Shr size d n) h = absurd (let z : ⊥ = cc in z)
path_move (i.Shift shift.Sar size d n) h = absurd (let z : ⊥ = cc in z)
path_move (i.Ret n) h = absurd (let z : ⊥ = cc in z)
path_move i.Leave h = absurd (let z : ⊥ = cc in z)
path_move (i.Trap v) h = absurd (let z : ⊥ = cc in z)
path_move (i.Loop t) h = absurd (let z : ⊥ = cc in z)
path_move (i.Jecxz t) h = absurd (let z : ⊥ = cc in z)
path_move (i.Call t) h = absurd (let z : ⊥ = cc in z)
path_move (i.Jmp t) h = absurd (let z : ⊥ = cc in z)
path_move (i.Carry op) h = absurd (let z : ⊥ = cc in z)
path_move (i.Not size d) h = absurd (let z : ⊥ = cc in z)
path_move (i.Neg size d) h = absurd (let z : ⊥ = cc in z)
path_move (i.Mul size s) h = absurd (let z : ⊥ = cc in z)
path_move (i.ImulWide size s) h = absurd (let z : ⊥ = cc in z)
path_move (i.Div size s) h = absurd (let z : ⊥ = cc in z)
path_move (i.Idiv size s) h = absurd (let z : ⊥ = cc in z)
path_move (i.CallTo s) h = absurd (let z : ⊥ = cc in z)
path_move (i.JmpTo s) h = absurd (let z : ⊥ = cc in z)
path_move (i.Cmov c size d s) h = absurd (let z : ⊥ = cc in z)
path_move (i.Set c d) h = absurd (let z : ⊥ = cc in z)
path_move (i.Bit op size d s) h = absurd (let z : ⊥ = cc in z)
path_move (i.DShift left d g n) h = absurd (let z : ⊥ = cc in z)
path_move (i.Imul2 size d s) h = absurd (let z : ⊥ = cc in z)
path_move (i.Movx false from to d s) h = movzx from to d s
path_move (i.Movx true from to d s) h = absurd (let z : ⊥ = cc in z)
path_move (i.Scan up size d s t) h = absurd (let z : ⊥ = cc in z)
path_move (i.Bswap n) h = absurd (let z : ⊥ = cc in z)

-- ---- what they do

-- an instruction that is spelled is formed
pub begins_formed : (m : List Segment) (r : Range) (a : ℕ) (inst : Inst) (n : ℕ) → BeginsAt m r a inst n → is_formed inst ≡ true
begins_formed m r a inst n b = spelled_is_formed inst (take n (bytes_to_end m r a), b.spelled)

module _ (x : Index) (k : Known) (n : ℕ) (s : State) (h : Holds x n k s) where
  move_sets : RegsFit s.regs → AreBytes s.mem → (inst : Inst) (next : ℕ) → Move inst → is_formed inst ≡ true → Sets x k n inst s (effect_in inst next s)
  move_sets fit bytes _ next (mov size d p) e =
      let a = and_parts (is_formed_operand (o.Reg d)) (is_formed_operand p && not (is_memory_operand (o.Reg d) && is_memory_operand p)) e in
      let b = and_parts (is_formed_operand p) (not (is_memory_operand (o.Reg d) && is_memory_operand p)) a.1 in
      mov_sets x k n s h fit bytes size d p next b.0
  move_sets fit bytes _ next (movzx from to d p) e = movzx_sets x k n s h fit bytes from to d p next
  move_sets fit bytes _ next (lea size d m) e = let a = and_parts (is_register d) (is_formed_mem m) e in lea_sets x k n s h fit bytes size d m next a.1
  move_sets fit bytes _ next (shl size d c g) e = shl_sets x k n s h fit bytes size d c next e g
  move_sets fit bytes _ next (add size d v) e =
      let a = and_parts (is_formed_operand (o.Reg d)) (is_formed_operand (o.Imm v) && not (is_memory_operand (o.Reg d) && is_memory_operand (o.Imm v))) e in
      add_sets x k n s h fit bytes size d v next (ltb-true d 8 a.0)

  -- ---- what is known after it

  module _ (inst : Inst) (e : Effect) (t : Sets x k n inst s e) where
    form_if : (b : Bool) (j r : ℕ) → b ≡ nat_eq j r → written inst ≡ Some r → j < 8 → Says s.mem n (if b then form_after x k inst else k.forms j) (reg_of e.regs j)
    form_if true j r c w l =
        let same : j ≡ r = eqb-true j r (sym c) in
        subst (λ q. Says s.mem n (form_after x k inst) (reg_of e.regs q)) (sym same) (t.gives r w (subst (λ q. q < 8) same l))
    form_if false j r c w l =
        let other : same_register (written inst) (Some j) ≡ false = ap (λ p. same_register p (Some j)) w ∙ turned r j (sym c) in
        subst (λ v. Says s.mem n (k.forms j) v) (sym (t.keeps j other)) (h.forms j l)
      where
        turned : (r j : ℕ) → nat_eq j r ≡ false → nat_eq r j ≡ false
        turned r j h = grind (arith, nat_tests)

    form_by : (w : Option ℕ) (j : ℕ) → written inst ≡ w → j < 8 → Says s.mem n (with_form k.forms w (form_after x k inst) j) (reg_of e.regs j)
    form_by None j w l = subst (λ v. Says s.mem n (k.forms j) v) (sym (t.keeps j (ap (λ p. same_register p (Some j)) w))) (h.forms j l)
    form_by (Some r) j w l = form_if (nat_eq j r) j r refl w l

    after_holds : Holds x n (after x k inst) (with_regs s e.regs e.flags)
    after_holds = record {
      forms = λ j l. form_by (written inst) j refl l;
      kept = λ c. let p = and_parts k.is_kept (not (is_part_of x.size x.operand (written inst))) c in
          value_stays x.size x.operand (written inst) s e.regs e.flags (not-true (is_part_of x.size x.operand (written inst)) p.1) t.keeps ∙ h.kept p.0;
    }

-- ---- the step

-- no instruction of a path reads a flag
pub move_calm : (inst : Inst) (f : Flags) → Move inst → reads_undefined inst f ≡ false
move_calm _ f (mov size d p) = refl
move_calm _ f (movzx from to d p) = refl
move_calm _ f (lea size d m) = refl
move_calm _ f (shl size d c g) = refl
move_calm _ f (add size d v) = refl

-- the state after an instruction
abbrev pub state_after : Inst → ℕ → State → State
state_after inst next s = with_regs s (effect_in inst next s).regs (effect_in inst next s).flags

-- What a step does at an instruction of a path: it stores nothing and goes on, unless its read is refused, and what is known after
-- it holds.
pub record Steps (sc : Scene) (x : Index) (k : Known) (n at next : ℕ) (inst : Inst) (s : State) : Type 0 where
  pub step : step_at sc at s ≡ allowed (refused_read inst s) s (At next (state_after inst next s))
  pub stores : (effect_in inst next s).store ≡ None
  pub goes : (effect_in inst next s).go ≡ go.Next
  pub holds : Holds x n (after x k inst) (state_after inst next s)

module _ (m : List Segment) (r : Range) (decoded : ℕ → Option (Inst × ℕ)) (decodes : Decodes m r decoded) (start : Start) where
  pub path_step : (x : Index) (k : Known) (n at size : ℕ) (inst : Inst) (s : State) → BeginsAt m r at inst size → is_on_path inst ≡ true → Holds x n k s → RegsFit s.regs → AreBytes s.mem
      → Steps (scene m r decoded decodes start) x k n at (next_of at size) inst s
  path_step x k n at size inst s b on h fit bytes =
      let move = path_move inst on in
      let t = move_sets x k n s h fit bytes inst (next_of at size) move (begins_formed m r at inst size b) in
      record {
        step = step_next m r decoded decodes start at inst size s b t.stores t.goes (move_calm inst s.flags move);
        stores = t.stores;
        goes = t.goes;
        holds = after_holds x k n s h inst (effect_in inst (next_of at size) s) t;
      }
