-- The statements that write operands keep the rule of flows, and are safe; a write to memory stores once.
use Rattle.std.proofs.Common.{◌≡◌, ℕ, ◌+◌, ◌-◌, ◌^◌, ◌<◌, ◌≤◌, nat_lt, Bool, true, false, if◌then◌else◌, [], ◌∷◌, refl, lit≤, lit<, arith}
use Rattle.std.specs.Prelude.{IsTrue}
use Rattle.std.proofs.lemmas.Bool.{ltb-true}
use Rattle.std.proofs.lemmas.Bool.Decides.{nat_tests}
use Rattle.dream_words.specs.declared.machine.Name.TheVariants as name
use Rattle.c_syntax.specs.declared.syntax.CBin.TheVariants as op
use Rattle.c_syntax.specs.declared.syntax.CExpr.{CExpr}
use Rattle.c_words.specs.Built.{num, bin}
use Rattle.micro_ir.specs.declared.flow.Stmt.{Stmt}
use Rattle.micro_ir.specs.declared.flow.Stmt.TheVariants as stmt
use Rattle.micro_ir.specs.Rule.{is_flow_word, is_flow_target}
use Rattle.x86_inst.specs.declared.Size.{Size}
use Rattle.x86_inst.specs.declared.Size.TheVariants as size
use Rattle.x86_inst.specs.declared.Operand.{Operand}
use Rattle.x86_inst.specs.declared.Operand.TheVariants as o
use Rattle.x86_formed.specs.Formed.{is_formed_operand}
use Rattle.x86_model.specs.Operands.{width_of}
use Rattle.x86_model.specs.Successors.{is_memory}
use Rattle.lift_parts.specs.Lifted.{once}
use Rattle.lift_parts.specs.Parts.{reg, address_word, with_low_word, with_second_word, set_part, writes, pushes}
use Rattle.lift_parts.specs.Safe.{is_safe}
use Rattle.lift_parts.proofs.Fit.{IsFit, AreFit, none_fit, more_fit, both_hold, fit_word, deeper, num_fit, reg_fit, masked_fit, bin_fit, shl_fit, address_fit, less_four}

below_test : (n k : ℕ) → n < k → nat_lt n k ≡ true
below_test n k h = grind (arith, nat_tests)

one_more : (d : ℕ) → d ≤ d + 1
one_more d = omega arith

two_more : (d : ℕ) → d ≤ d + 1 + 1
two_more d = omega arith

some_more : (d k : ℕ) → 1 ≤ d → 1 ≤ d + k
some_more d k h = omega arith

low_word_fit : (d keep mask n : ℕ) (x : CExpr) → 1 ≤ d → keep < 2 ^ 32 → mask < 2 ^ 32 → n < 8 → IsFit d x → IsFit (d + 1 + 1) (with_low_word keep mask n x)
low_word_fit d keep mask n x h k m l f = bin_fit (d + 1) op.Or _ _ refl (masked_fit d (reg n) keep h k (reg_fit d n h l)) (masked_fit d x mask h m f)

second_word_fit : (d n : ℕ) (x : CExpr) → 1 ≤ d → n < 8 → IsFit d x → IsFit (d + 1 + 1 + 1 + 1) (with_second_word n x)
second_word_fit d n x h l f =
    bin_fit (d + 1 + 1 + 1) op.Or _ _ refl
    (deeper (d + 1) (d + 1 + 1 + 1) _ (two_more (d + 1)) (masked_fit d (reg n) 0xffff0000 h (lit< tt) (reg_fit d n h l)))
    (bin_fit (d + 1 + 1) op.Or _ _ refl
    (shl_fit (d + 1) _ 8 (some_more d 1 h) (lit< tt) (masked_fit d x 0xff h (lit< tt) f))
    (deeper (d + 1) (d + 1 + 1) _ (one_more (d + 1)) (masked_fit d (reg n) 0xff h (lit< tt) (reg_fit d n h l))))

-- one register is set
pub set_fit : (d n : ℕ) (x : CExpr) → d ≤ 64 → n < 8 → IsFit d x → AreFit 0 (stmt.Set (name.Reg n) x ∷ [])
set_fit d n x h l f =
    more_fit (stmt.Set (name.Reg n) x) [] 0 0 (both_hold (is_flow_target (name.Reg n)) (is_flow_word x) (both_hold (nat_lt n 8) true (below_test n 8 l) refl) (fit_word d x h f)) f.safe refl refl none_fit

chosen_set : (b : Bool) (s t : Stmt) → AreFit 0 (s ∷ []) → AreFit 0 (t ∷ []) → AreFit 0 ((if b then s else t) ∷ [])
chosen_set true s t h k = h
chosen_set false s t h k = k

pub set_part_fit : (d : ℕ) (size : Size) (n : ℕ) (x : CExpr) → 1 ≤ d → d ≤ 60 → n < 8 → IsFit d x → AreFit 0 (set_part size n x ∷ [])
set_part_fit d size.B n x h k l f =
    chosen_set (nat_lt n 4) _ _ (set_fit (d + 1 + 1) n _ (omega arith) l (low_word_fit d 0xffffff00 0xff n x h (lit< tt) (lit< tt) l f))
    (set_fit (d + 1 + 1 + 1 + 1) (n - 4) _ (omega arith) (less_four n l) (second_word_fit d (n - 4) x h (less_four n l) f))
set_part_fit d size.H n x h k l f = set_fit (d + 1 + 1) n _ (omega arith) l (low_word_fit d 0xffff0000 0xffff n x h (lit< tt) (lit< tt) l f)
set_part_fit d size.W n x h k l f = set_fit d n x (omega arith) l f

-- a store
pub store_fit : (d k : ℕ) (size : Size) (a x : CExpr) → d ≤ 64 → k ≤ 64 → IsFit d a → IsFit k x → AreFit 1 (stmt.Store (width_of size) a x ∷ [])
store_fit d k size a x h l f g =
    more_fit (stmt.Store (width_of size) a x) [] 0 1 (both_hold (is_flow_word a) (is_flow_word x) (fit_word d a h f) (fit_word k x l g)) (both_hold (is_safe a) (is_safe x) f.safe g.safe) refl refl none_fit

-- a write of a word at most 60 deep
pub writes_fit : (d : ℕ) (size : Size) (o : Operand) (x : CExpr) → 1 ≤ d → d ≤ 60 → IsTrue (is_formed_operand o) → IsFit d x → AreFit (once (is_memory o)) (writes size o x)
writes_fit d size (o.Reg n) x h k t f = set_part_fit d size n x h k (ltb-true n 8 t) f
writes_fit d size (o.Mem m) x h k t f = store_fit 5 d size (address_word m) x (lit≤ tt) (omega arith) (address_fit m t) f
writes_fit d size (o.Imm i) x h k t f = none_fit

-- a push stores once
pub pushes_fit : (d : ℕ) (x : CExpr) → d ≤ 64 → IsFit d x → AreFit 1 (pushes x)
pushes_fit d x h f =
    let sp = bin_fit 1 op.Sub (reg 4) (num 4) refl (reg_fit 1 4 (lit≤ tt) (lit< tt)) (num_fit 1 4 (lit≤ tt) (lit< tt)) in
    more_fit (stmt.Set (name.Reg 4) (bin op.Sub (reg 4) (num 4))) _ 1 0 (fit_word 2 (bin op.Sub (reg 4) (num 4)) (lit≤ tt) sp) sp.safe refl refl
    (store_fit 1 d size.W (reg 4) x (lit≤ tt) h (reg_fit 1 4 (lit≤ tt) (lit< tt)) f)
