-- Each block keeps the rule of flows, is stuck in no world, stores and calls as its instruction does, and ends as it does.
use Rattle.std.proofs.Common.{◌≡◌, ℕ, ◌+◌, ◌%◌, ◌^◌, ◌<◌, ◌≤◌, Bool, true, false, nat_lt, ◌&&◌, ◌||◌, not, List, [], ◌∷◌, ◌++◌, length, refl, sym, ap, ◌∙◌, subst, lit<, lit≤, arith}
use Rattle.std.specs.Prelude.{IsTrue, if◌then◌else◌}
use Rattle.std.proofs.lemmas.Bool.Decides.{nat_tests}
use Rattle.dream_words.specs.declared.machine.Name.TheVariants as name
use Rattle.run_parts.specs.World.{World}
use Rattle.c_syntax.specs.declared.syntax.CBin.TheVariants as op
use Rattle.c_syntax.specs.declared.syntax.CCmp.TheVariants as test
use Rattle.c_syntax.specs.declared.syntax.CFn1.TheVariants.{Sx1, Sx2}
use Rattle.c_syntax.specs.declared.syntax.CFn2.TheVariants.{Sar}
use Rattle.c_syntax.specs.declared.syntax.CExpr.{CExpr}
use Rattle.c_syntax.specs.declared.syntax.CCond.{CCond}
use Rattle.c_words.specs.Built.{num, bin, pick, cmp, word_not, word_if}
use Rattle.micro_ir.specs.declared.flow.Block.{Block}
use Rattle.micro_ir.specs.declared.flow.Stmt.{Stmt}
use Rattle.micro_ir.specs.declared.flow.Stmt.TheVariants as stmt
use Rattle.micro_ir.specs.Counts.{stores_of_stmts, calls_of_stmts, calls_of_end}
use Rattle.micro_ir.specs.Rule.{is_flow_end, is_flow_block}
use Rattle.micro_ir.specs.Run.{end_leads, block_leads}
use Rattle.micro_ir.specs.World.{IsWorld}
use Rattle.x86_inst.specs.declared.AluOp.{AluOp}
use Rattle.x86_inst.specs.declared.AluOp.TheVariants as alu
use Rattle.x86_inst.specs.declared.CarryOp.{CarryOp}
use Rattle.x86_inst.specs.declared.CarryOp.TheVariants.{Flip, Clear, Put}
use Rattle.x86_inst.specs.declared.Inst.{Inst}
use Rattle.x86_inst.specs.declared.Inst.TheVariants as i
use Rattle.x86_inst.specs.declared.Mem.{Mem}
use Rattle.x86_inst.specs.declared.Operand.{Operand}
use Rattle.x86_inst.specs.declared.Operand.TheVariants as o
use Rattle.x86_inst.specs.declared.Seg.TheVariants as seg
use Rattle.x86_inst.specs.declared.Size.{Size}
use Rattle.x86_inst.specs.declared.Size.TheVariants.{B, H, W}
use Rattle.x86_formed.specs.Formed as formed
use Rattle.x86_formed.specs.Formed.{is_register, is_formed_mem, is_formed_operand, are_formed, is_formed}
use Rattle.x86_model.specs.Operands.{bits_of, width_of}
use Rattle.x86_model.specs.Rows.{is_bare}
use Rattle.x86_model.specs.Successors.{successors_of, is_memory, writes as writes_operand, stores, asks}
use Rattle.lift_parts.specs.Lifted.{Stays, EndAs, once}
use Rattle.lift_parts.specs.Parts.{reg, temp, address_word, raw_word, value_word, writes, pushes}
use Rattle.lift_alu.specs.declared.alu.AluLift.{AluLift}
use Rattle.lift_alu.specs.Words.{alu_words, cond_words, flag_clear}
use Rattle.lift_alu.proofs.Shapes.{flow_word, flow_cond}
use Rattle.lift_blocks.specs.Ends.{goes_on, branches, returns}
use Rattle.lift.specs.Blocks.{target, alu_stmts, test_stmts, step_stmts, neg_stmts, carry_word, mov_stmts, lea_stmts, not_stmts, xchg_stmts, movx_stmts, widen_word, spread_word, swapped_word, set_stmts, cmov_stmts, push_stmts, pops, pop_stmts, leave_stmts, counts_down, call_stmts, call_to_stmts, block_of, is_plain}
use Rattle.lift_blocks.specs.Flags.{sets_but_carry, sets_flags, computes}
use Rattle.lift_blocks.specs.Extended.{extended}
use Rattle.lift.specs.Given.{leaves_bare, has_words}
use Rattle.lift.proofs.Sound.{IsSound, IsSoundCond, AreSoundWords, both_true, num_sound, name_sound, reg_sound, temp_sound, deeper_sound, bin_sound, shift_sound, and_mask_sound, fn1_sound, fn2_sound, not_sound, pick_sound, cmp_sound, cond_sound, raw_sound, value_sound, address_sound, alu_sound}
use Rattle.lift.proofs.Steady.{AreSteady, LeadsBelow, none_steady, set_steady, load_steady, ext_steady, trap_steady, reads_steady, reads_end, pair_reads_steady, writes_steady, write_steady, pushes_steady, branch_below, leave_below, block_rule, block_steady}

-- what the block of an instruction keeps
pub record IsKept (x : Inst) (at next : ℕ) (b : Block) : Type 0 where
  pub steady : (w : World) → IsWorld w → Stays (1 + length (successors_of x at next)) (block_leads b w)
  pub rule : IsTrue (is_flow_block b)
  pub stores : stores_of_stmts b.stmts ≡ once (stores x)
  pub calls : calls_of_stmts b.stmts + calls_of_end b.end ≡ once (asks x)
  pub ends : EndAs x (b ∷ [])
  pub place : b.at ≡ at

-- by its statements and its end
kept_by : (x : Inst) (at next : ℕ) (b : Block) (s c : ℕ) → AreSteady s c b.stmts → IsTrue (is_flow_end b.end)
    → ((w : World) → LeadsBelow (1 + length (successors_of x at next)) (end_leads b.end w))
    → s ≡ once (stores x) → c + calls_of_end b.end ≡ once (asks x) → EndAs x (b ∷ []) → b.at ≡ at → IsKept x at next b
kept_by x at next b s c r t g e f h k = record {
  steady = block_steady (1 + length (successors_of x at next)) b s c r t g;
  rule = block_rule b s c r t;
  stores = r.stores ∙ e;
  calls = ap (λ n. n + calls_of_end b.end) r.calls ∙ f;
  ends = h;
  place = k;
}

-- a block that goes on to the one successor, and doesn't call
goes_kept : (x : Inst) (at next : ℕ) (ss : List Stmt) (s : ℕ) → AreSteady s 0 ss → 1 < 1 + length (successors_of x at next) → s ≡ once (stores x) → 0 ≡ once (asks x)
    → EndAs x (goes_on at ss ∷ []) → IsKept x at next (goes_on at ss)
goes_kept x at next ss s r l e f h = kept_by x at next (goes_on at ss) s 0 r refl (λ w. l) e f h refl

-- operands of an instruction that is formed
two_formed : (d s : Operand) → are_formed d s ≡ true → (is_formed_operand d ≡ true) × (is_formed_operand s ≡ true)
two_formed d s t = let p = both_true (is_formed_operand d) _ t in (p.0, (both_true (is_formed_operand s) _ p.1).0)

-- ---- arithmetic

t2_sound : IsSound 10 (temp 2)
t2_sound = deeper_sound 1 10 (temp 2) (lit≤ tt) (temp_sound 2 refl)

-- flags are set
flags_steady : (l : AluLift) (rest : List Stmt) (a b : ℕ) → AreSoundWords 10 l → AreSteady a b rest → AreSteady a b (sets_but_carry l ++ rest)
flags_steady l rest a b h r =
    set_steady (name.Flag 4) 10 l.o _ a b refl (lit≤ tt) h.o
    (set_steady (name.Flag 3) 10 l.s _ a b refl (lit≤ tt) h.s
    (set_steady (name.Flag 2) 10 l.z _ a b refl (lit≤ tt) h.z
    (set_steady (name.Flag 1) 10 l.p rest a b refl (lit≤ tt) h.p r)))

all_flags_steady : (l : AluLift) (rest : List Stmt) (a b : ℕ) → AreSoundWords 10 l → AreSteady a b rest → AreSteady a b (sets_flags l ++ rest)
all_flags_steady l rest a b h r = flags_steady l (stmt.Set (name.Flag 0) l.c ∷ rest) a b h (set_steady (name.Flag 0) 10 l.c rest a b refl (lit≤ tt) h.c r)

-- the flags and then the result
computes_steady : (size : Size) (d : Operand) (l : AluLift) → is_formed_operand d ≡ true → AreSoundWords 10 l → AreSteady (once (is_memory d)) 0 (computes size d (sets_flags l) l.result)
computes_steady size d l t h =
    set_steady (name.T 2) 10 l.result _ (once (is_memory d)) 0 refl (lit≤ tt) h.result
    (all_flags_steady l (writes size d (temp 2)) (once (is_memory d)) 0 h (write_steady size d (temp 2) t t2_sound))

steps_steady : (size : Size) (d : Operand) (l : AluLift) → is_formed_operand d ≡ true → AreSoundWords 10 l → AreSteady (once (is_memory d)) 0 (computes size d (sets_but_carry l) l.result)
steps_steady size d l t h =
    set_steady (name.T 2) 10 l.result _ (once (is_memory d)) 0 refl (lit≤ tt) h.result
    (flags_steady l (writes size d (temp 2)) (once (is_memory d)) 0 h (write_steady size d (temp 2) t t2_sound))

-- by whether the operation writes
alu_by : (c : Bool) (size : Size) (d : Operand) (l : AluLift) → is_formed_operand d ≡ true → AreSoundWords 10 l
    → AreSteady (once (if c then is_memory d else false)) 0 (if c then computes size d (sets_flags l) l.result else sets_flags l)
alu_by true size d l t h = computes_steady size d l t h
alu_by false size d l t h = all_flags_steady l [] 0 0 h none_steady

alu_kept : (f : AluOp) (size : Size) (d s : Operand) (at next : ℕ) → are_formed d s ≡ true → IsKept (i.Alu f size d s) at next (block_of (i.Alu f size d s) at next)
alu_kept f size d s at next t =
    let p = two_formed d s t in
    let l = alu_words f (bits_of size) (raw_word size d) (raw_word size s) in
    let h = alu_sound f size (raw_word size d) (raw_word size s) (raw_sound size d p.0) (raw_sound size s p.1) in
    goes_kept (i.Alu f size d s) at next (alu_stmts f size d s) (once (stores (i.Alu f size d s)))
    (pair_reads_steady size d s _ (once (stores (i.Alu f size d s))) 0 p.0 p.1 (alu_by (writes_operand f) size d l p.0 h)) (lit< tt) refl refl tt

test_kept : (size : Size) (d s : Operand) (at next : ℕ) → are_formed d s ≡ true → IsKept (i.Test size d s) at next (block_of (i.Test size d s) at next)
test_kept size d s at next t =
    let p = two_formed d s t in
    let l = alu_words alu.And (bits_of size) (raw_word size d) (raw_word size s) in
    let h = alu_sound alu.And size (raw_word size d) (raw_word size s) (raw_sound size d p.0) (raw_sound size s p.1) in
    goes_kept (i.Test size d s) at next (test_stmts size d s) 0 (pair_reads_steady size d s _ 0 0 p.0 p.1 (all_flags_steady l [] 0 0 h none_steady)) (lit< tt) refl refl tt

step_steady : (f : AluOp) (size : Size) (d : Operand) → is_formed_operand d ≡ true → AreSteady (once (is_memory d)) 0 (step_stmts f size d)
step_steady f size d t =
    let l = alu_words f (bits_of size) (raw_word size d) (num 1) in
    let h = alu_sound f size (raw_word size d) (num 1) (raw_sound size d t) (deeper_sound 1 2 (num 1) (lit≤ tt) (num_sound 1 (lit< tt))) in
    reads_steady size d _ (once (is_memory d)) 0 t (steps_steady size d l t h)

neg_steady : (size : Size) (d : Operand) → is_formed_operand d ≡ true → AreSteady (once (is_memory d)) 0 (neg_stmts size d)
neg_steady size d t =
    let l = alu_words alu.Sub (bits_of size) (num 0) (raw_word size d) in
    let h = alu_sound alu.Sub size (num 0) (raw_word size d) (deeper_sound 1 2 (num 0) (lit≤ tt) (num_sound 0 (lit< tt))) (raw_sound size d t) in
    reads_steady size d _ (once (is_memory d)) 0 t (computes_steady size d l t h)

flag_clear_sound : (n : ℕ) → nat_lt n 5 ≡ true → IsSoundCond 2 (flag_clear n)
flag_clear_sound n t = cmp_sound 1 test.Eq _ (num 0) (name_sound (name.Flag n) t) (num_sound 0 (lit< tt))

word_if_sound : (d : ℕ) (t : CCond) → 1 ≤ d → IsSoundCond d t → IsSound (d + 1) (word_if t)
word_if_sound d t l h = pick_sound d t (num 1) (num 0) h (deeper_sound 1 d (num 1) l (num_sound 1 (lit< tt))) (deeper_sound 1 d (num 0) l (num_sound 0 (lit< tt)))

carry_sound : (f : CarryOp) → IsSound 3 (carry_word f)
carry_sound Flip = word_if_sound 2 (flag_clear 0) (lit≤ tt) (flag_clear_sound 0 refl)
carry_sound Clear = deeper_sound 1 3 (num 0) (lit≤ tt) (num_sound 0 (lit< tt))
carry_sound Put = deeper_sound 1 3 (num 1) (lit≤ tt) (num_sound 1 (lit< tt))

-- ---- moves

raw_ten : (size : Size) (p : Operand) → is_formed_operand p ≡ true → IsSound 10 (raw_word size p)
raw_ten size p t = deeper_sound 2 10 (raw_word size p) (lit≤ tt) (raw_sound size p t)

mov_steady : (size : Size) (d s : Operand) → is_formed_operand d ≡ true → is_formed_operand s ≡ true → AreSteady (once (is_memory d)) 0 (mov_stmts size d s)
mov_steady size d s t u = reads_steady size s _ (once (is_memory d)) 0 u (write_steady size d (raw_word size s) t (raw_ten size s u))

lea_steady : (size : Size) (d : ℕ) (m : Mem) → is_register d ≡ true → is_formed_mem m ≡ true → AreSteady 0 0 (lea_stmts size d m)
lea_steady size d m t u =
    let e = address_word (record m { seg = seg.None }) in
    write_steady size (o.Reg d) e t (deeper_sound 5 10 e (lit≤ tt) (address_sound (record m { seg = seg.None }) u))

not_steady : (size : Size) (d : Operand) → is_formed_operand d ≡ true → AreSteady (once (is_memory d)) 0 (not_stmts size d)
not_steady size d t =
    reads_steady size d _ (once (is_memory d)) 0 t
    (write_steady size d (word_not (raw_word size d)) t (deeper_sound 3 10 (word_not (raw_word size d)) (lit≤ tt) (not_sound 2 (raw_word size d) (raw_sound size d t))))

-- at most one of two operands is memory
one_store : (a b : Bool) → not (a && b) ≡ true → once a + once b ≡ once (a || b)
one_store true true t = absurd cc
one_store true false t = refl
one_store false true t = refl
one_store false false t = refl

same_memory : (p : Operand) → formed.is_memory p ≡ is_memory p
same_memory (o.Reg n) = refl
same_memory (o.Mem m) = refl
same_memory (o.Imm k) = refl

t3_sound : IsSound 10 (temp 3)
t3_sound = deeper_sound 1 10 (temp 3) (lit≤ tt) (temp_sound 3 refl)

-- two operands are written, in either order
exchange_by : (c : Bool) (size : Size) (d s : Operand) → is_formed_operand d ≡ true → is_formed_operand s ≡ true
    → AreSteady (once (is_memory d) + once (is_memory s)) 0 (if c then writes size d (temp 3) ++ writes size s (temp 2) else writes size s (temp 2) ++ writes size d (temp 3))
exchange_by true size d s t u = writes_steady size d (temp 3) (writes size s (temp 2)) (once (is_memory s)) 0 t t3_sound (write_steady size s (temp 2) u t2_sound)
exchange_by false size d s t u =
    let e : once (is_memory s) + once (is_memory d) ≡ once (is_memory d) + once (is_memory s) = omega arith in
    subst (λ k. AreSteady k 0 (writes size s (temp 2) ++ writes size d (temp 3))) e
    (writes_steady size s (temp 2) (writes size d (temp 3)) (once (is_memory d)) 0 u t2_sound (write_steady size d (temp 3) t t3_sound))

xchg_kept : (size : Size) (d s : Operand) (at next : ℕ) → are_formed d s ≡ true → IsKept (i.Xchg size d s) at next (block_of (i.Xchg size d s) at next)
xchg_kept size d s at next t =
    let p = two_formed d s t in
    let q = (both_true (is_formed_operand s) _ (both_true (is_formed_operand d) _ t).1).1 in
    let n : not (is_memory d && is_memory s) ≡ true = rw (← same_memory d, ← same_memory s) q in
    let k = once (is_memory d) + once (is_memory s) in
    goes_kept (i.Xchg size d s) at next (xchg_stmts size d s) k
    (pair_reads_steady size d s _ k 0 p.0 p.1
    (set_steady (name.T 2) 10 (raw_word size d) _ k 0 refl (lit≤ tt) (raw_ten size d p.0)
    (set_steady (name.T 3) 10 (raw_word size s) _ k 0 refl (lit≤ tt) (raw_ten size s p.1) (exchange_by (is_memory d) size d s p.0 p.1))))
    (lit< tt) (one_store (is_memory d) (is_memory s) n) refl tt

extended_sound : (size : Size) (e : CExpr) → IsSound 2 e → IsSound 3 (extended size e)
extended_sound B e h = fn1_sound 2 Sx1 e h
extended_sound H e h = fn1_sound 2 Sx2 e h
extended_sound W e h = deeper_sound 2 3 e (lit≤ tt) h

movx_by : (c : Bool) (from : Size) (s : Operand) → is_formed_operand s ≡ true → IsSound 3 (if c then extended from (raw_word from s) else value_word from s)
movx_by true from s t = extended_sound from (raw_word from s) (raw_sound from s t)
movx_by false from s t = value_sound from s t

movx_steady : (signed : Bool) (from to : Size) (d : ℕ) (s : Operand) → is_register d ≡ true → is_formed_operand s ≡ true → AreSteady 0 0 (movx_stmts signed from to d s)
movx_steady signed from to d s t u =
    let e = if signed then extended from (raw_word from s) else value_word from s in
    reads_steady from s _ 0 0 u (write_steady to (o.Reg d) e t (deeper_sound 3 10 e (lit≤ tt) (movx_by signed from s u)))

eax_sound : IsSound 2 (reg 0)
eax_sound = deeper_sound 1 2 (reg 0) (lit≤ tt) (reg_sound 0 refl)

widen_sound : (size : Size) → IsSound 3 (widen_word size)
widen_sound B = extended_sound B (reg 0) eax_sound
widen_sound H = extended_sound B (reg 0) eax_sound
widen_sound W = extended_sound H (reg 0) eax_sound

spread_sound : (size : Size) → IsSound 4 (spread_word size)
spread_sound size = fn2_sound 3 Sar (extended size (reg 0)) (num 31) (extended_sound size (reg 0) eax_sound) (deeper_sound 1 3 (num 31) (lit≤ tt) (num_sound 31 (lit< tt)))

swapped_sound : (n : ℕ) → is_register n ≡ true → IsSound 6 (swapped_word (reg n))
swapped_sound n t =
    let r = reg_sound n t in
    bin_sound 5 op.Or _ _ refl (deeper_sound 2 5 _ (lit≤ tt) (shift_sound 1 op.Shl (reg n) 24 (lit≤ tt) refl r))
    (bin_sound 4 op.Or _ _ refl (deeper_sound 3 4 _ (lit≤ tt) (and_mask_sound 2 (bin op.Shl (reg n) (num 8)) 0xff0000 (lit≤ tt) (lit< tt) (shift_sound 1 op.Shl (reg n) 8 (lit≤ tt) refl r)))
    (bin_sound 3 op.Or _ _ refl (and_mask_sound 2 (bin op.Shr (reg n) (num 8)) 0xff00 (lit≤ tt) (lit< tt) (shift_sound 1 op.Shr (reg n) 8 (lit≤ tt) refl r))
    (deeper_sound 2 3 _ (lit≤ tt) (shift_sound 1 op.Shr (reg n) 24 (lit≤ tt) refl r))))

set_condition_steady : (c : ℕ) (d : Operand) → is_formed_operand d ≡ true → AreSteady (once (is_memory d)) 0 (set_stmts c d)
set_condition_steady c d t =
    write_steady B d (word_if (cond_words c)) t (deeper_sound 4 10 (word_if (cond_words c)) (lit≤ tt) (word_if_sound 3 (cond_words c) (lit≤ tt) (cond_sound c)))

cmov_steady : (c : ℕ) (size : Size) (d : ℕ) (s : Operand) → is_register d ≡ true → is_formed_operand s ≡ true → AreSteady 0 0 (cmov_stmts c size d s)
cmov_steady c size d s t u =
    let e = pick (cond_words c) (raw_word size s) (raw_word size (o.Reg d)) in
    let h = pick_sound 3 (cond_words c) (raw_word size s) (raw_word size (o.Reg d)) (cond_sound c)
    (deeper_sound 2 3 (raw_word size s) (lit≤ tt) (raw_sound size s u)) (deeper_sound 2 3 (raw_word size (o.Reg d)) (lit≤ tt) (raw_sound size (o.Reg d) t)) in
    reads_steady size s _ 0 0 u (write_steady size (o.Reg d) e t (deeper_sound 4 10 e (lit≤ tt) h))

-- ---- the stack

pops_steady : (k : ℕ) (rest : List Stmt) (a b : ℕ) → k < 2 ^ 32 → AreSteady a b rest → AreSteady a b (pops k ∷ rest)
pops_steady k rest a b l r = set_steady (name.Reg 4) 2 (bin op.Add (reg 4) (num k)) rest a b refl (lit≤ tt) (bin_sound 1 op.Add (reg 4) (num k) refl (reg_sound 4 refl) (num_sound k l)) r

push_steady : (s : Operand) → is_formed_operand s ≡ true → AreSteady 1 0 (push_stmts s)
push_steady s t =
    reads_steady W s _ 1 0 t (set_steady (name.T 2) 10 (raw_word W s) (pushes (temp 2)) 1 0 refl (lit≤ tt) (raw_ten W s t) (pushes_steady 10 (temp 2) [] 0 0 (lit≤ tt) t2_sound none_steady))

pop_steady : (d : Operand) → is_formed_operand d ≡ true → AreSteady (once (is_memory d)) 0 (pop_stmts d)
pop_steady d t =
    load_steady (name.T 0) (width_of W) 1 (reg 4) _ (once (is_memory d)) 0 refl (lit≤ tt) (reg_sound 4 refl)
    (pops_steady 4 _ (once (is_memory d)) 0 (lit< tt) (write_steady W d (temp 0) t (deeper_sound 1 10 (temp 0) (lit≤ tt) (temp_sound 0 refl))))

leave_steady : AreSteady 0 0 leave_stmts
leave_steady =
    load_steady (name.T 0) (width_of W) 1 (reg 5) _ 0 0 refl (lit≤ tt) (reg_sound 5 refl)
    (set_steady (name.Reg 4) 2 (bin op.Add (reg 5) (num 4)) _ 0 0 refl (lit≤ tt) (bin_sound 1 op.Add (reg 5) (num 4) refl (reg_sound 5 refl) (num_sound 4 (lit< tt)))
    (set_steady (name.Reg 5) 1 (temp 0) [] 0 0 refl (lit≤ tt) (temp_sound 0 refl) none_steady))

-- ---- jumps and calls

-- a block that ends in a branch between the target and the next address
branch_kept : (x : Inst) (at next : ℕ) (ss : List Stmt) (t : CCond) → 2 < 1 + length (successors_of x at next) → AreSteady 0 0 ss → IsSoundCond 3 t → 0 ≡ once (stores x) → 0 ≡ once (asks x)
    → EndAs x (branches at ss t ∷ []) → IsKept x at next (branches at ss t)
branch_kept x at next ss t l r h e f g =
    let one : 1 < 1 + length (successors_of x at next) = omega (arith, l) in
    kept_by x at next (branches at ss t) 0 0 r (flow_cond 3 t (lit≤ tt) h.within) (λ w. branch_below _ 1 2 _ w (h.gives w.names) one l) e f g refl

ecx_sound : IsSound 2 (reg 1)
ecx_sound = deeper_sound 1 2 (reg 1) (lit≤ tt) (reg_sound 1 refl)

zero_sound : IsSound 2 (num 0)
zero_sound = deeper_sound 1 2 (num 0) (lit≤ tt) (num_sound 0 (lit< tt))

counts_steady : AreSteady 0 0 (counts_down ∷ [])
counts_steady = set_steady (name.Reg 1) 2 (bin op.Sub (reg 1) (num 1)) [] 0 0 refl (lit≤ tt) (bin_sound 1 op.Sub (reg 1) (num 1) refl (reg_sound 1 refl) (num_sound 1 (lit< tt))) none_steady

call_steady : (next d : ℕ) (e : CExpr) → next < 2 ^ 32 → d ≤ 64 → IsSound d e → AreSteady 1 1 (call_stmts next e)
call_steady next d e l m h = pushes_steady 1 (num next) (stmt.Ext e ∷ []) 0 1 (lit≤ tt) (num_sound next l) (ext_steady d e [] 0 0 m h none_steady)

call_to_steady : (next : ℕ) (s : Operand) → next < 2 ^ 32 → is_formed_operand s ≡ true → AreSteady 1 1 (call_to_stmts next s)
call_to_steady next s l t =
    reads_steady W s _ 1 1 t (set_steady (name.T 2) 10 (raw_word W s) (call_stmts next (temp 2)) 1 1 refl (lit≤ tt) (raw_ten W s t) (call_steady next 10 (temp 2) l (lit≤ tt) t2_sound))

calls_kept : (x : Inst) (at next : ℕ) (ss : List Stmt) → AreSteady 1 1 ss → 1 < 1 + length (successors_of x at next) → 1 ≡ once (stores x) → 1 ≡ once (asks x) → EndAs x (goes_on at ss ∷ [])
    → IsKept x at next (goes_on at ss)
calls_kept x at next ss r l e f h = kept_by x at next (goes_on at ss) 1 1 r refl (λ w. l) e f h refl

jmp_to_kept : (s : Operand) (at next : ℕ) → is_formed_operand s ≡ true → is_bare s ≡ true → IsKept (i.JmpTo s) at next (block_of (i.JmpTo s) at next)
jmp_to_kept s at next t e =
    kept_by (i.JmpTo s) at next (block_of (i.JmpTo s) at next) 0 0 (subst (λ ss. AreSteady 0 0 ss) (reads_end W s) (reads_steady W s [] 0 0 t none_steady))
    (flow_word 2 (raw_word W s) (lit≤ tt) (raw_sound W s t).within) (λ w. leave_below _ 2 (raw_word W s) w (raw_sound W s t)) refl (sym (ap once e)) tt refl

-- ---- the table

below_by : (n k : ℕ) → nat_lt n k ≡ true → n < k
below_by n k t = grind (arith, nat_tests)

target_sound : (next distance : ℕ) → IsSound 1 (target next distance)
target_sound next distance = let l : (next + distance) % 2 ^ 32 < 2 ^ 32 = omega arith in num_sound ((next + distance) % 2 ^ 32) l

-- each block of a plain instruction is kept
pub block_kept : (x : Inst) (at next : ℕ) → next < 2 ^ 32 → is_plain x ≡ true → is_formed x ≡ true → leaves_bare x ≡ true → has_words x ≡ true → IsKept x at next (block_of x at next)
block_kept (i.Alu f size d s) at next l p t e u = alu_kept f size d s at next t
block_kept (i.Neg size d) at next l p t e u = goes_kept (i.Neg size d) at next (neg_stmts size d) (once (is_memory d)) (neg_steady size d t) (lit< tt) refl refl tt
block_kept (i.Inc size d) at next l p t e u = goes_kept (i.Inc size d) at next (step_stmts alu.Add size d) (once (is_memory d)) (step_steady alu.Add size d t) (lit< tt) refl refl tt
block_kept (i.Dec size d) at next l p t e u = goes_kept (i.Dec size d) at next (step_stmts alu.Sub size d) (once (is_memory d)) (step_steady alu.Sub size d t) (lit< tt) refl refl tt
block_kept (i.Test size d s) at next l p t e u = test_kept size d s at next t
block_kept (i.Mov size d s) at next l p t e u =
    let q = two_formed d s t in goes_kept (i.Mov size d s) at next (mov_stmts size d s) (once (is_memory d)) (mov_steady size d s q.0 q.1) (lit< tt) refl refl tt
block_kept (i.Lea size d m) at next l p t e u =
    let q = both_true (is_register d) (is_formed_mem m) t in goes_kept (i.Lea size d m) at next (lea_stmts size d m) 0 (lea_steady size d m q.0 q.1) (lit< tt) refl refl tt
block_kept (i.Push s) at next l p t e u = goes_kept (i.Push s) at next (push_stmts s) 1 (push_steady s t) (lit< tt) refl refl tt
block_kept (i.Pop d) at next l p t e u = goes_kept (i.Pop d) at next (pop_stmts d) (once (is_memory d)) (pop_steady d t) (lit< tt) refl refl tt
block_kept (i.Xchg size d s) at next l p t e u = xchg_kept size d s at next t
block_kept (i.Not size d) at next l p t e u = goes_kept (i.Not size d) at next (not_stmts size d) (once (is_memory d)) (not_steady size d t) (lit< tt) refl refl tt
block_kept (i.Movx signed from to d s) at next l p t e u =
    let q = both_true (is_register d) (is_formed_operand s) t in goes_kept (i.Movx signed from to d s) at next (movx_stmts signed from to d s) 0 (movx_steady signed from to d s q.0 q.1) (lit< tt) refl refl tt
block_kept (i.Widen size) at next l p t e u =
    goes_kept (i.Widen size) at next (writes size (o.Reg 0) (widen_word size)) 0 (write_steady size (o.Reg 0) (widen_word size) refl (deeper_sound 3 10 (widen_word size) (lit≤ tt) (widen_sound size))) (lit< tt) refl refl tt
block_kept (i.Spread size) at next l p t e u =
    goes_kept (i.Spread size) at next (writes size (o.Reg 2) (spread_word size)) 0 (write_steady size (o.Reg 2) (spread_word size) refl (deeper_sound 4 10 (spread_word size) (lit≤ tt) (spread_sound size))) (lit< tt) refl refl tt
block_kept (i.Bswap n) at next l p t e u =
    goes_kept (i.Bswap n) at next (writes W (o.Reg n) (swapped_word (reg n))) 0 (write_steady W (o.Reg n) (swapped_word (reg n)) t (deeper_sound 6 10 (swapped_word (reg n)) (lit≤ tt) (swapped_sound n t))) (lit< tt) refl refl tt
block_kept (i.Set c d) at next l p t e u = goes_kept (i.Set c d) at next (set_stmts c.0 d) (once (is_memory d)) (set_condition_steady c.0 d t) (lit< tt) refl refl tt
block_kept (i.Cmov c size d s) at next l p t e u =
    let q = both_true (is_register d) (is_formed_operand s) t in goes_kept (i.Cmov c size d s) at next (cmov_stmts c.0 size d s) 0 (cmov_steady c.0 size d s q.0 q.1) (lit< tt) refl refl tt
block_kept i.Leave at next l p t e u = goes_kept i.Leave at next leave_stmts 0 leave_steady (lit< tt) refl refl tt
block_kept i.Nop at next l p t e u = goes_kept i.Nop at next [] 0 none_steady (lit< tt) refl refl tt
block_kept (i.Loop distance) at next l p t e u =
    branch_kept (i.Loop distance) at next (counts_down ∷ []) (cmp test.Ne (reg 1) (num 0)) (lit< tt) counts_steady (cmp_sound 2 test.Ne (reg 1) (num 0) ecx_sound zero_sound) refl refl (refl, refl)
block_kept (i.Jecxz distance) at next l p t e u =
    branch_kept (i.Jecxz distance) at next [] (cmp test.Eq (reg 1) (num 0)) (lit< tt) none_steady (cmp_sound 2 test.Eq (reg 1) (num 0) ecx_sound zero_sound) refl refl (refl, refl)
block_kept (i.Jcc c distance) at next l p t e u = branch_kept (i.Jcc c distance) at next [] (cond_words c.0) (lit< tt) none_steady (cond_sound c.0) refl refl (refl, refl)
block_kept (i.Jmp distance) at next l p t e u = goes_kept (i.Jmp distance) at next [] 0 none_steady (lit< tt) refl refl tt
block_kept (i.JmpTo s) at next l p t e u = jmp_to_kept s at next t e
block_kept (i.Call distance) at next l p t e u =
    calls_kept (i.Call distance) at next (call_stmts next (target next distance)) (call_steady next 1 (target next distance) l (lit≤ tt) (target_sound next distance)) (lit< tt) refl refl tt
block_kept (i.CallTo s) at next l p t e u = calls_kept (i.CallTo s) at next (call_to_stmts next s) (call_to_steady next s l t) (lit< tt) refl refl tt
block_kept (i.Ret n) at next l p t e u =
    kept_by (i.Ret n) at next (returns at (pops (4 + n) ∷ [])) 0 0 (pops_steady (4 + n) [] 0 0 (below_by (4 + n) (2 ^ 32) u) none_steady) refl (λ w. tt) refl refl tt refl
block_kept (i.Trap v) at next l p t e u =
    kept_by (i.Trap v) at next (returns at (stmt.Trap v (num 1) ∷ [])) 0 0 (trap_steady v 1 (num 1) [] 0 0 u (lit≤ tt) (num_sound 1 (lit< tt)) none_steady) refl (λ w. tt) refl refl tt refl
block_kept (i.Carry f) at next l p t e u =
    goes_kept (i.Carry f) at next (stmt.Set (name.Flag 0) (carry_word f) ∷ []) 0 (set_steady (name.Flag 0) 3 (carry_word f) [] 0 0 refl (lit≤ tt) (carry_sound f) none_steady) (lit< tt) refl refl tt
block_kept (i.Mul size s) at next l p t e u = absurd cc
block_kept (i.ImulWide size s) at next l p t e u = absurd cc
block_kept (i.Imul2 size d s) at next l p t e u = absurd cc
block_kept (i.Imul3 size d s k) at next l p t e u = absurd cc
block_kept (i.Div size s) at next l p t e u = absurd cc
block_kept (i.Idiv size s) at next l p t e u = absurd cc
block_kept (i.Shift f size d n) at next l p t e u = absurd cc
block_kept (i.DShift left d g n) at next l p t e u = absurd cc
block_kept (i.Bit f size d s) at next l p t e u = absurd cc
block_kept (i.Scan up size d s tz) at next l p t e u = absurd cc
block_kept (i.Str f size r s) at next l p t e u = absurd cc
