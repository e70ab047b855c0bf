-- The blocks of quotients are those of their instructions.
use Rattle.std.proofs.Common.{ℕ, Bool, true, false, List, [], ◌∷◌, refl, sym, lit≤, lit<}
use Rattle.std.specs.Prelude.{IsTrue}
use Rattle.dream_words.specs.declared.machine.Name.TheVariants as name
use Rattle.x86_inst.specs.declared.Inst.TheVariants as i
use Rattle.x86_inst.specs.declared.Size.{Size}
use Rattle.x86_inst.specs.declared.Size.TheVariants.{B, H, W}
use Rattle.x86_inst.specs.declared.Operand.{Operand}
use Rattle.x86_formed.specs.Formed.{HasSpelling, is_formed_operand}
use Rattle.x86_formed.proofs.Spelled.{spelled_is_formed}
use Rattle.x86_model.specs.Leads.{refused_read, step_of}
use Rattle.c_syntax.specs.declared.syntax.CBin.TheVariants as op
use Rattle.c_syntax.specs.declared.syntax.CCmp.TheVariants as test
use Rattle.c_syntax.specs.declared.syntax.CExpr.{CExpr}
use Rattle.c_syntax.specs.declared.syntax.CFn2.TheVariants.{Sar}
use Rattle.c_syntax.specs.declared.syntax.CFn3.{CFn3}
use Rattle.c_syntax.specs.Formed.{is_word}
use Rattle.c_words.specs.Built.{num}
use Rattle.micro_ir.specs.declared.flow.Stmt.{Stmt}
use Rattle.micro_ir.specs.declared.flow.Stmt.TheVariants as stmt
use Rattle.micro_ir.specs.Rule.{is_flow_word}
use Rattle.lift_parts.specs.Lifted.{AreBlocksOf}
use Rattle.lift_parts.specs.Parts.{low_word, reads, reg, temp}
use Rattle.lift_parts.specs.Stands.{state_in}
use Rattle.lift_parts.proofs.Chains.{first_of_none, runs_by}
use Rattle.lift_parts.proofs.Fit.{AreFit, IsFit, bin_fit, both_hold, deeper, fit_append, fit_word, masked_fit, more_fit, num_fit, reads_fit, reg_fit, shl_fit}
use Rattle.lift_parts.proofs.FitShapes.{cmp_fit, fn2_fit, fn3_fit, word_if_fit}
use Rattle.lift_parts.proofs.Kept.{reads_run}
use Rattle.lift_parts.proofs.Values.{names_of_world}
use Rattle.lift_blocks.specs.Effects.{HasEffect}
use Rattle.lift_blocks.specs.Ends.{goes_on}
use Rattle.lift_blocks.proofs.OneBlock.{fit_blocks}
use Rattle.lift_products.specs.Quotients.{bad_function, bad_word, divide_stmts, divided_word, high_dividend, high_extension, low_dividend, quotient_function, remainder_function, unfit, unfit_unsigned}
use Rattle.lift_products.proofs.DivisionRuns.{divides_after}
use Rattle.lift_products.proofs.WordsFit.{extended_fit, factor_fit, pair_fit, set_more, t_fit, unfit_signed_fit}

-- ---- effects

pub div_effect : (size : Size) (s : Operand) (at next : ℕ) → HasEffect (i.Div size s) at next (goes_on at (divide_stmts false size s))
div_effect size s at next = record {
  effect = λ w f is h.
      let a = step_of (i.Div size s) next (state_in w f) in
      let (u, runs, read, shown) = reads_run size s a w (names_of_world w is) is.bytes (record { regs = refl; fs = refl; gs = refl }) refl in
      divides_after (refused_read (i.Div size s) (state_in w f)) false size s a w u (runs_by _ _ (sym (first_of_none _)) runs) read (record { names = read.names; shows = read.shows; first = shown; second = shown }) at next;
}

pub idiv_effect : (size : Size) (s : Operand) (at next : ℕ) → HasEffect (i.Idiv size s) at next (goes_on at (divide_stmts true size s))
idiv_effect size s at next = record {
  effect = λ w f is h.
      let a = step_of (i.Idiv size s) next (state_in w f) in
      let (u, runs, read, shown) = reads_run size s a w (names_of_world w is) is.bytes (record { regs = refl; fs = refl; gs = refl }) refl in
      divides_after (refused_read (i.Idiv size s) (state_in w f)) true size s a w u (runs_by _ _ (sym (first_of_none _)) runs) read (record { names = read.names; shows = read.shows; first = shown; second = shown }) at next;
}

-- ---- words are fit

ax_fit : IsFit 2 (low_word H (reg 0))
ax_fit = masked_fit 1 (reg 0) 0xffff (lit≤ tt) (lit< tt) (reg_fit 1 0 (lit≤ tt) (lit< tt))

low_dividend_fit : (signed : Bool) (size : Size) → IsFit 3 (low_dividend signed size)
low_dividend_fit true B = deeper 2 3 (low_dividend true B) (lit≤ tt) (extended_fit 1 H (reg 0) (reg_fit 1 0 (lit≤ tt) (lit< tt)))
low_dividend_fit false B = deeper 2 3 (low_word H (reg 0)) (lit≤ tt) ax_fit
low_dividend_fit signed H = bin_fit 2 op.Or _ (low_word H (reg 0)) refl (shl_fit 1 (reg 2) 16 (lit≤ tt) (lit< tt) (reg_fit 1 2 (lit≤ tt) (lit< tt))) ax_fit
low_dividend_fit signed W = reg_fit 3 0 (lit≤ tt) (lit< tt)

extension_fit : (signed : Bool) (x : CExpr) → IsFit 3 x → IsFit 4 (high_extension signed x)
extension_fit true x f = fn2_fit 3 Sar x (num 31) f (num_fit 3 31 (lit≤ tt) (lit< tt))
extension_fit false x f = num_fit 4 0 (lit≤ tt) (lit< tt)

high_dividend_fit : (signed : Bool) (size : Size) → IsFit 4 (high_dividend signed size)
high_dividend_fit signed B = extension_fit signed (low_dividend signed B) (low_dividend_fit signed B)
high_dividend_fit signed H = extension_fit signed (low_dividend signed H) (low_dividend_fit signed H)
high_dividend_fit signed W = reg_fit 4 2 (lit≤ tt) (lit< tt)

divided_fit : (f : CFn3) (signed : Bool) (size : Size) (s : Operand) → IsTrue (is_formed_operand s) → IsFit 5 (divided_word f signed size s)
divided_fit f signed size s h =
    fn3_fit 4 f _ _ _ (high_dividend_fit signed size) (deeper 3 4 (low_dividend signed size) (lit≤ tt) (low_dividend_fit signed size)) (deeper 3 4 _ (lit≤ tt) (factor_fit signed size s h))

unfit_fit : (signed : Bool) (size : Size) (greatest : ℕ) → IsFit 1 (num greatest) → IsFit 5 (unfit signed size greatest)
unfit_fit true size greatest f = deeper 4 5 _ (lit≤ tt) (unfit_signed_fit size)
unfit_fit false size greatest f = deeper 3 5 (unfit_unsigned greatest) (lit≤ tt) (word_if_fit 2 _ (lit≤ tt) (cmp_fit 1 test.Lt (num greatest) (temp 1) f (t_fit 1 1 (lit≤ tt) (lit≤ tt))))

bad_fit : (signed : Bool) (size : Size) (s : Operand) → IsTrue (is_formed_operand s) → IsFit 6 (bad_word signed size s)
bad_fit signed B s h = bin_fit 5 op.Or _ _ refl (divided_fit (bad_function signed) signed B s h) (unfit_fit signed B 0xff (num_fit 1 0xff (lit≤ tt) (lit< tt)))
bad_fit signed H s h = bin_fit 5 op.Or _ _ refl (divided_fit (bad_function signed) signed H s h) (unfit_fit signed H 0xffff (num_fit 1 0xffff (lit≤ tt) (lit< tt)))
bad_fit signed W s h = deeper 5 6 (bad_word signed W s) (lit≤ tt) (divided_fit (bad_function signed) signed W s h)

trap_more : (d : ℕ) (x : CExpr) (rest : List Stmt) → IsTrue (is_flow_word x) → IsFit d x → AreFit 0 rest → AreFit 0 (stmt.Trap 0 x ∷ rest)
trap_more d x rest t f r = more_fit (stmt.Trap 0 x) rest 0 0 (both_hold (is_word 0) (is_flow_word x) refl t) f.safe refl refl r

divide_fit : (signed : Bool) (size : Size) (s : Operand) → IsTrue (is_formed_operand s) → AreFit 0 (divide_stmts signed size s)
divide_fit signed size s h =
    let bad = bad_fit signed size s h in
    fit_append (reads size s) _ 0 0 (reads_fit size s h)
    (set_more 5 (name.T 1) (divided_word (quotient_function signed) signed size s) _ refl (lit≤ tt) (divided_fit (quotient_function signed) signed size s h)
    (trap_more 6 (bad_word signed size s) _ (fit_word 6 (bad_word signed size s) (lit≤ tt) bad) bad
    (set_more 5 (name.T 2) (divided_word (remainder_function signed) signed size s) _ refl (lit≤ tt) (divided_fit (remainder_function signed) signed size s h) (pair_fit size))))

-- ---- blocks

-- DIV
pub div_blocks : (size : Size) (s : Operand) (at next : ℕ) → HasSpelling (i.Div size s) → AreBlocksOf (i.Div size s) at next (goes_on at (divide_stmts false size s) ∷ [])
div_blocks size s at next h =
    fit_blocks (i.Div size s) at next (goes_on at (divide_stmts false size s)) refl (divide_fit false size s (spelled_is_formed (i.Div size s) h)) refl refl refl refl tt refl (div_effect size s at next)

-- IDIV
pub idiv_blocks : (size : Size) (s : Operand) (at next : ℕ) → HasSpelling (i.Idiv size s) → AreBlocksOf (i.Idiv size s) at next (goes_on at (divide_stmts true size s) ∷ [])
idiv_blocks size s at next h =
    fit_blocks (i.Idiv size s) at next (goes_on at (divide_stmts true size s)) refl (divide_fit true size s (spelled_is_formed (i.Idiv size s) h)) refl refl refl refl tt refl (idiv_effect size s at next)
