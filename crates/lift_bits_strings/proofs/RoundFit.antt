-- The statements of a round, and its tests of ZF, keep the rule of flows and are safe.
use Rattle.std.proofs.Common.{ℕ, ◌^◌, ◌<◌, Bool, true, false, [], ◌∷◌, ◌++◌, List, refl, lit<, lit≤, arith}
use Rattle.std.specs.Prelude.{IsTrue}
use Rattle.dream_words.specs.declared.machine.Name.TheVariants as name
use Rattle.dream_words.specs.Memory.{bytes_of}
use Rattle.x86_inst.specs.declared.Rep.{Rep}
use Rattle.x86_inst.specs.declared.Seg.{Seg}
use Rattle.x86_inst.specs.declared.Seg.TheVariants as seg
use Rattle.x86_inst.specs.declared.Size.{Size}
use Rattle.x86_inst.specs.declared.Size.TheVariants as size
use Rattle.x86_inst.specs.declared.StrOp.{StrOp}
use Rattle.x86_inst.specs.declared.StrOp.TheVariants.{Movs, Cmps, Stos, Lods, Scas}
use Rattle.x86_model.specs.Operands.{width_of}
use Rattle.x86_model.specs.Successors.{writes_string}
use Rattle.x86_model.specs.WideRows.{repeats, steps_source, steps_target}
use Rattle.c_syntax.specs.declared.syntax.CBin.TheVariants as op
use Rattle.c_syntax.specs.declared.syntax.CCmp.TheVariants.{Eq, Ne}
use Rattle.c_words.specs.Built.{bin, num}
use Rattle.micro_ir.specs.declared.flow.Stmt.{Stmt}
use Rattle.micro_ir.specs.declared.flow.Stmt.TheVariants as stmt
use Rattle.micro_ir.specs.Rule.{is_flow_target, is_flow_word}
use Rattle.lift_parts.specs.Lifted.{once}
use Rattle.lift_parts.specs.Parts.{flag, reg, temp}
use Rattle.lift_parts.proofs.Fit.{AreFit, IsFit, bin_fit, both_hold, fit_word, name_fit, none_fit, num_fit, reg_fit, temp_fit}
use Rattle.lift_parts.proofs.FitShapes.{IsFitCond, cmp_fit}
use Rattle.lift_parts.proofs.FitWrites.{set_fit, set_part_fit, store_fit}
use Rattle.lift_alu.specs.Words.{flag_clear, flag_set}
use Rattle.lift_bits_strings.specs.Rounds.{body_stmts, counts_down, raises, source_word, step_stmts, where_so}
use Rattle.lift_bits_strings.proofs.Comparing.{compared_fit}
use Rattle.lift_bits_strings.proofs.Fitting.{after_fit, before_fit, then_fit}

source_fit : (s : Seg) → IsFit 2 (source_word s)
source_fit seg.None = reg_fit 2 6 (lit≤ tt) (lit< tt)
source_fit seg.Fs = bin_fit 1 op.Add _ _ refl (reg_fit 1 6 (lit≤ tt) (lit< tt)) (name_fit 1 name.Fs (lit≤ tt) refl)
source_fit seg.Gs = bin_fit 1 op.Add _ _ refl (reg_fit 1 6 (lit≤ tt) (lit< tt)) (name_fit 1 name.Gs (lit≤ tt) refl)

target_fit : IsFit 1 (reg 7)
target_fit = reg_fit 1 7 (lit≤ tt) (lit< tt)

temp_is_fit : (n : ℕ) → n < 2 → IsFit 1 (temp n)
temp_is_fit n h = temp_fit 1 n (lit≤ tt) (omega arith)

-- a read of the source or the target before others
source_load_fit : (size : Size) (s : Seg) (ss : List Stmt) (stores : ℕ) → AreFit stores ss → AreFit stores (stmt.Load (name.T 0) (width_of size) (source_word s) ∷ ss)
source_load_fit size s ss stores h = let f = source_fit s in before_fit (stmt.Load (name.T 0) (width_of size) (source_word s)) ss stores (fit_word 2 (source_word s) (lit≤ tt) f) f.safe refl refl h

target_load_fit : (size : Size) (n : ℕ) (ss : List Stmt) → IsTrue (is_flow_target (name.T n)) → AreFit 0 ss → AreFit 0 (stmt.Load (name.T n) (width_of size) (reg 7) ∷ ss)
target_load_fit size n ss t h =
    before_fit (stmt.Load (name.T n) (width_of size) (reg 7)) ss 0 (both_hold (is_flow_target (name.T n)) (is_flow_word (reg 7)) t (fit_word 1 (reg 7) (lit≤ tt) target_fit)) target_fit.safe refl refl h

body_fit : (f : StrOp) (size : Size) (s : Seg) → AreFit (once (writes_string f)) (body_stmts f size s)
body_fit Movs size s = source_load_fit size s _ 1 (store_fit 1 1 size (reg 7) (temp 0) (lit≤ tt) (lit≤ tt) target_fit (temp_is_fit 0 (lit< tt)))
body_fit Stos size s = store_fit 1 1 size (reg 7) (reg 0) (lit≤ tt) (lit≤ tt) target_fit (reg_fit 1 0 (lit≤ tt) (lit< tt))
body_fit Lods size s = source_load_fit size s _ 0 (set_part_fit 1 size 0 (temp 0) (lit≤ tt) (lit≤ tt) (lit< tt) (temp_is_fit 0 (lit< tt)))
body_fit Cmps size s = source_load_fit size s _ 0 (target_load_fit size 1 _ refl (compared_fit size (temp 0) (temp 1) (temp_is_fit 0 (lit< tt)) (temp_is_fit 1 (lit< tt))))
body_fit Scas size s = target_load_fit size 0 _ refl (compared_fit size (reg 0) (temp 0) (reg_fit 1 0 (lit≤ tt) (lit< tt)) (temp_is_fit 0 (lit< tt)))

bytes_word : (size : Size) → bytes_of (width_of size) < 2 ^ 32
bytes_word size.B = lit< tt
bytes_word size.H = lit< tt
bytes_word size.W = lit< tt

where_fit : (b : Bool) (s : Stmt) → AreFit 0 (s ∷ []) → AreFit 0 (where_so b s)
where_fit true s h = h
where_fit false s h = none_fit

raises_fit : (size : Size) (n : ℕ) → n < 8 → AreFit 0 (raises size n ∷ [])
raises_fit size n h =
    set_fit 2 n (bin op.Add (reg n) (num (bytes_of (width_of size)))) (lit≤ tt) h
    (bin_fit 1 op.Add (reg n) (num (bytes_of (width_of size))) refl (reg_fit 1 n (lit≤ tt) h) (num_fit 1 (bytes_of (width_of size)) (lit≤ tt) (bytes_word size)))

counts_fit : AreFit 0 (counts_down ∷ [])
counts_fit = set_fit 2 1 (bin op.Sub (reg 1) (num 1)) (lit≤ tt) (lit< tt) (bin_fit 1 op.Sub (reg 1) (num 1) refl (reg_fit 1 1 (lit≤ tt) (lit< tt)) (num_fit 1 1 (lit≤ tt) (lit< tt)))

step_fit : (f : StrOp) (size : Size) (r : Rep) → AreFit 0 (step_stmts f size r)
step_fit f size r =
    after_fit (where_so (steps_source f) (raises size 6)) _ 0 (where_fit (steps_source f) (raises size 6) (raises_fit size 6 (lit< tt)))
    (after_fit (where_so (steps_target f) (raises size 7)) _ 0 (where_fit (steps_target f) (raises size 7) (raises_fit size 7 (lit< tt)))
    (where_fit (repeats r) counts_down counts_fit))

pub round_fit : (f : StrOp) (size : Size) (r : Rep) (s : Seg) → AreFit (once (writes_string f)) (body_stmts f size s ++ step_stmts f size r)
round_fit f size r s =
    then_fit (body_stmts f size s) (step_stmts f size r) (once (writes_string f)) (body_fit f size s) (step_fit f size r)

-- the tests of ZF
pub set_cond_fit : IsFitCond 2 (flag_set 2)
set_cond_fit = cmp_fit 1 Ne (flag 2) (num 0) (name_fit 1 (name.Flag 2) (lit≤ tt) refl) (num_fit 1 0 (lit≤ tt) (lit< tt))

pub clear_cond_fit : IsFitCond 2 (flag_clear 2)
clear_cond_fit = cmp_fit 1 Eq (flag 2) (num 0) (name_fit 1 (name.Flag 2) (lit≤ tt) refl) (num_fit 1 0 (lit≤ tt) (lit< tt))
