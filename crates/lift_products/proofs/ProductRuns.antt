-- The statements of products lead to the product and its overflow.
use Rattle.std.proofs.Common.{◌≡◌, ℕ, ◌*◌, ◌/◌, ◌%◌, ◌^◌, Bool, true, false, not, nat_eq, Option, Some, None, refl, sym, ap, ◌∙◌, subst}
use Rattle.dream_words.specs.declared.machine.Name.TheVariants as name
use Rattle.dream_words.specs.Words.{bit_of, sign_extended, shifted_signed}
use Rattle.run_parts.specs.Effects.{set_word}
use Rattle.run_parts.specs.World.{Names, World}
use Rattle.x86_inst.specs.declared.Inst.TheVariants as i
use Rattle.x86_inst.specs.declared.Size.{Size}
use Rattle.x86_inst.specs.declared.Size.TheVariants.{B, H, W}
use Rattle.x86_inst.specs.declared.Operand.{Operand}
use Rattle.x86_inst.specs.declared.Operand.TheVariants as o
use Rattle.x86_model.specs.declared.effect.Effect.{Effect}
use Rattle.x86_model.specs.declared.effect.Step.{Step}
use Rattle.x86_model.specs.Arithmetic.{flag_if, product_overflows}
use Rattle.x86_model.specs.Effects.{done}
use Rattle.x86_model.specs.Leads.{first_of}
use Rattle.x86_model.specs.Operands.{bits_of, value_of, with_part}
use Rattle.x86_model.specs.WideRows.{times_row, undefined_result, with_pair}
use Rattle.c_syntax.specs.declared.syntax.CBin.TheVariants as op
use Rattle.c_syntax.specs.declared.syntax.CCmp.TheVariants as test
use Rattle.c_syntax.specs.declared.syntax.CExpr.{CExpr}
use Rattle.c_syntax.specs.declared.syntax.CFn2.TheVariants.{Sar}
use Rattle.c_syntax.specs.Value.{word_of}
use Rattle.c_words.specs.Built.{num, fn2}
use Rattle.lift_parts.specs.Parts.{temp, reads}
use Rattle.lift_parts.specs.Shown.{AreNames, RunsTo}
use Rattle.lift_parts.specs.Stands.{FlagsStand, StandsFor, state_in}
use Rattle.lift_parts.proofs.Chains.{first_of_none, runs_by, set_runs, then_runs}
use Rattle.lift_parts.proofs.Kept.{AfterRead, reads_run}
use Rattle.lift_parts.proofs.Values.{value_fits}
use Rattle.lift_parts.proofs.Writes.{part_runs}
use Rattle.lift_blocks.specs.Effects.{GoesOn, LeadsOn}
use Rattle.lift_blocks.specs.Extended.{extended}
use Rattle.lift_blocks.proofs.Common.{by_step}
use Rattle.lift_blocks.proofs.MoveWords.{bin_value, extended_value, fn2_value, name_value, num_value}
use Rattle.lift_products.specs.Parts.{factor, unfit_signed}
use Rattle.lift_products.specs.Products.{high_function, high_product_word, high_word, imul2_stmts, imul3_stmts, product_word, times_overflow, times_stmts, unfit_high, wide_overflow, wide_stmts}
use Rattle.lift_products.proofs.Factors.{IsProduct, factor_of, high_part, high_value, overflow_value, overflows, product_of}
use Rattle.lift_products.proofs.FactorWords.{Sees, bit_word, factor_value, flag_stands, sees_flag, sees_temp, test_value}
use Rattle.lift_products.proofs.PairWords.{pair_runs}
use Rattle.lift_products.proofs.ProductNumbers.{high_word_below, product_is, product_word_below}

-- ---- words

-- whether t1 fits, as a signed number
pub unfit_signed_value : (size : Size) (v : Names) (x : ℕ) → AreNames v → v (name.T 1) ≡ x → word_of (unfit_signed size) v ≡ Some (bit_of (not (nat_eq (sign_extended (bits_of size) x) x)))
unfit_signed_value size v x h e =
    let t : ℕ = v (name.T 1) in
    test_value v test.Ne (extended size (temp 1)) (temp 1) (sign_extended (bits_of size) t) t (extended_value v size (temp 1) t (name_value v (name.T 1)) (h.words (name.T 1))) (name_value v (name.T 1))
    ∙ ap (λ n. Some (bit_of (not (nat_eq (sign_extended (bits_of size) n) n)))) e

-- whether a high word is other than copies of the top bit of t1
unfit_high_value : (v : Names) (e : CExpr) (low high : ℕ) → v (name.T 1) ≡ low → word_of e v ≡ Some high → word_of (unfit_high e) v ≡ Some (bit_of (not (nat_eq high (shifted_signed low 31))))
unfit_high_value v e low high h k =
    let t : ℕ = v (name.T 1) in
    test_value v test.Ne e (fn2 Sar (temp 1) (num 31)) high (shifted_signed t 31) k (fn2_value v Sar (temp 1) (num 31) t 31 (name_value v (name.T 1)) (num_value v 31))
    ∙ ap (λ n. Some (bit_of (not (nat_eq high (shifted_signed n 31))))) h

module _ (signed : Bool) (size : Size) (p q : Operand) (a : Step) where
  product_value : (v : Names) → Sees size p q a v → word_of (product_word signed size p q) v ≡ Some (product_of signed size (value_of size p a) (value_of size q a))
  product_value v h =
      bin_value v op.Mul (factor signed size p) (factor signed size q) (factor_of signed size (value_of size p a)) (factor_of signed size (value_of size q a))
      (factor_value signed size p a v h.names h.shows h.first) (factor_value signed size q a v h.names h.shows h.second)

-- the high word of a product of 32 bits
whole_high : (signed : Bool) (p q : Operand) (a : Step) (v : Names) → Sees W p q a v → word_of (high_product_word signed p q) v ≡ Some (high_value signed W (value_of W p a) (value_of W q a))
whole_high signed p q a v h =
    fn2_value v (high_function signed) (factor signed W p) (factor signed W q) (factor_of signed W (value_of W p a)) (factor_of signed W (value_of W q a))
    (factor_value signed W p a v h.names h.shows h.first) (factor_value signed W q a v h.names h.shows h.second)

-- the word of the high part, where t1 is the product
high_is : (signed : Bool) (size : Size) (p q : Operand) (a : Step) (v : Names) → Sees size p q a v → v (name.T 1) ≡ product_of signed size (value_of size p a) (value_of size q a)
    → word_of (high_word signed size p q) v ≡ Some (high_value signed size (value_of size p a) (value_of size q a))
high_is signed B p q a v h e = bin_value v op.Shr (temp 1) (num 8) (v (name.T 1)) 8 (name_value v (name.T 1)) (num_value v 8) ∙ ap (λ n. Some (n / 2 ^ 8)) e
high_is signed H p q a v h e = bin_value v op.Shr (temp 1) (num 16) (v (name.T 1)) 16 (name_value v (name.T 1)) (num_value v 16) ∙ ap (λ n. Some (n / 2 ^ 16)) e
high_is signed W p q a v h e = whole_high signed p q a v h

-- the words of CF and OF
wide_overflow_is : (signed : Bool) (size : Size) (v : Names) (low high : ℕ) → AreNames v → v (name.T 1) ≡ low → v (name.T 2) ≡ high
    → word_of (wide_overflow signed size) v ≡ Some (bit_of (overflow_value signed size low high))
wide_overflow_is false size v low high h e f =
    test_value v test.Ne (temp 2) (num 0) (v (name.T 2)) 0 (name_value v (name.T 2)) (num_value v 0) ∙ ap (λ n. Some (bit_of (not (nat_eq n 0)))) f
wide_overflow_is true B v low high h e f = unfit_signed_value B v low h e
wide_overflow_is true H v low high h e f = unfit_signed_value H v low h e
wide_overflow_is true W v low high h e f = unfit_high_value v (temp 2) low high e (name_value v (name.T 2) ∙ ap Some f)

times_overflow_is : (size : Size) (p q : Operand) (a : Step) (v : Names) (low : ℕ) → Sees size p q a v → v (name.T 1) ≡ low
    → word_of (times_overflow size p q) v ≡ Some (bit_of (overflow_value true size low (high_value true size (value_of size p a) (value_of size q a))))
times_overflow_is B p q a v low h e = unfit_signed_value B v low h.names e
times_overflow_is H p q a v low h e = unfit_signed_value H v low h.names e
times_overflow_is W p q a v low h e = unfit_high_value v (high_product_word true p q) low (high_value true W (value_of W p a) (value_of W q a)) e (whole_high true p q a v h)

-- ---- MUL, and IMUL of one operand

-- CF and OF stand for a truth, and the other flags for undefined ones
overflow_stands : (b : Bool) (v : Names) → v (name.Flag 0) ≡ bit_of b → v (name.Flag 4) ≡ bit_of b → FlagsStand (undefined_result (flag_if b) (flag_if b)) v
overflow_stands b v c o = record {
  c = subst (StandsFor (flag_if b)) (sym c) (flag_stands b);
  p = tt;
  z = tt;
  s = tt;
  o = subst (StandsFor (flag_if b)) (sym o) (flag_stands b);
}

-- the effect of both
abbrev wide_row : Bool → Size → Operand → Step → Effect
wide_row signed size s a =
    let x : ℕ = value_of size (o.Reg 0) a in
    let y : ℕ = value_of size s a in
    let over = flag_if (overflows signed size x y) in
    record (done a (undefined_result over over)) { regs = with_pair size a.regs (high_part signed size x y) (x * y % 2 ^ bits_of size) }

wide_leads : (bad : Option ℕ) (signed : Bool) (size : Size) (s : Operand) (a : Step) (w u : World) → RunsTo bad (reads size s) w u → AfterRead a w u → Sees size (o.Reg 0) s a u.names
    → LeadsOn bad (wide_row signed size s a).go (wide_row signed size s a) (state_in w a.flags) (wide_stmts signed size s) w
wide_leads bad signed size s a w u r read h0 =
    let x : ℕ = value_of size (o.Reg 0) a in
    let y : ℕ = value_of size s a in
    let is : IsProduct signed size x y = product_is signed size x y (value_fits a u.names h0.names h0.shows size (o.Reg 0)) (value_fits a u.names h0.names h0.shows size s) in
    let low : ℕ = product_of signed size x y in
    let high : ℕ = high_value signed size x y in
    let b : Bool = overflows signed size x y in
    let u1 : World = set_word (name.T 1) low u in
    let h1 : Sees size (o.Reg 0) s a u1.names = sees_temp size (o.Reg 0) s a u.names 1 low refl (product_word_below signed size x y) h0 in
    let u2 : World = set_word (name.T 2) high u1 in
    let h2 : Sees size (o.Reg 0) s a u2.names = sees_temp size (o.Reg 0) s a u1.names 2 high refl (high_word_below signed size x y) h1 in
    let u3 : World = set_word (name.Flag 4) (bit_of b) u2 in
    let h3 : Sees size (o.Reg 0) s a u3.names = sees_flag size (o.Reg 0) s a u2.names 4 (bit_of b) (bit_word b) h2 in
    let u4 : World = set_word (name.Flag 0) (bit_of b) u3 in
    let h4 : Sees size (o.Reg 0) s a u4.names = sees_flag size (o.Reg 0) s a u3.names 0 (bit_of b) (bit_word b) h3 in
    let (t, runs, sets) = pair_runs size (high_part signed size x y) (x * y % 2 ^ bits_of size) u4 h4.names is.low is.high in (
      t,
      runs_by bad (first_of bad None) (sym (first_of_none bad)) (then_runs bad (reads size s) _ r
          (set_runs (name.T 1) (product_word signed size (o.Reg 0) s) low (product_value signed size (o.Reg 0) s a u.names h0)
          (set_runs (name.T 2) (high_word signed size (o.Reg 0) s) high (high_is signed size (o.Reg 0) s a u1.names h1 refl)
          (set_runs (name.Flag 4) (wide_overflow signed size) (bit_of b) (wide_overflow_is signed size u2.names low high h2.names refl refl ∙ ap (λ c. Some (bit_of c)) is.overflow)
          (set_runs (name.Flag 0) (wide_overflow signed size) (bit_of b) (wide_overflow_is signed size u3.names low high h3.names refl refl ∙ ap (λ c. Some (bit_of c)) is.overflow) runs))))),
      record {
        regs = sym (sets.regs ∙ ap (λ r. with_pair size r (high_part signed size x y) (x * y % 2 ^ bits_of size)) read.shows.regs);
        flags = overflow_stands b t.names (sets.flags 0) (sets.flags 4);
        fs = sym (sets.fs ∙ read.fs);
        gs = sym (sets.gs ∙ read.gs);
        mem = sym (sets.mem ∙ read.mem);
        pages = sym (sets.pages ∙ read.pages);
        left = sym (sets.left ∙ read.left);
        calls = sym (sets.calls ∙ read.calls);
      },
    )

-- MUL
pub mul_goes : (size : Size) (s : Operand) (next : ℕ) → GoesOn (i.Mul size s) next (wide_stmts false size s)
mul_goes size s next = by_step (i.Mul size s) next (wide_stmts false size s) (λ a. refl) (λ a w b.
    let (u, runs, read, shown) = reads_run size s a w b.names b.bytes b.shows b.first in
    wide_leads _ false size s a w u runs read (record { names = read.names; shows = read.shows; first = record { read = λ e. absurd cc }; second = shown }))

-- IMUL of one operand
pub imul_wide_goes : (size : Size) (s : Operand) (next : ℕ) → GoesOn (i.ImulWide size s) next (wide_stmts true size s)
imul_wide_goes size s next = by_step (i.ImulWide size s) next (wide_stmts true size s) (λ a. refl) (λ a w b.
    let (u, runs, read, shown) = reads_run size s a w b.names b.bytes b.shows b.first in
    wide_leads _ true size s a w u runs read (record { names = read.names; shows = read.shows; first = record { read = λ e. absurd cc }; second = shown }))

-- ---- IMUL of two and of three operands

times_leads : (bad : Option ℕ) (size : Size) (d : ℕ) (p q s : Operand) (a : Step) (w u : World) → RunsTo bad (reads size s) w u → AfterRead a w u → Sees size p q a u.names
    → let e : Effect = times_row size d (value_of size p a) (value_of size q a) a in LeadsOn bad e.go e (state_in w a.flags) (times_stmts size d p q s) w
times_leads bad size d p q s a w u r read h0 =
    let x : ℕ = value_of size p a in
    let y : ℕ = value_of size q a in
    let is : IsProduct true size x y = product_is true size x y (value_fits a u.names h0.names h0.shows size p) (value_fits a u.names h0.names h0.shows size q) in
    let low : ℕ = product_of true size x y in
    let value : ℕ = x * y % 2 ^ bits_of size in
    let b : Bool = product_overflows (bits_of size) x y in
    let u1 : World = set_word (name.T 1) low u in
    let h1 : Sees size p q a u1.names = sees_temp size p q a u.names 1 low refl (product_word_below true size x y) h0 in
    let u2 : World = set_word (name.Flag 4) (bit_of b) u1 in
    let h2 : Sees size p q a u2.names = sees_flag size p q a u1.names 4 (bit_of b) (bit_word b) h1 in
    let u3 : World = set_word (name.Flag 0) (bit_of b) u2 in
    let h3 : Sees size p q a u3.names = sees_flag size p q a u2.names 0 (bit_of b) (bit_word b) h2 in
    let (t, runs, sets) = part_runs size d (temp 1) low value u3 h3.names (name_value u3.names (name.T 1)) (product_word_below true size x y) is.low in (
      t,
      runs_by bad (first_of bad None) (sym (first_of_none bad)) (then_runs bad (reads size s) _ r
          (set_runs (name.T 1) (product_word true size p q) low (product_value true size p q a u.names h0)
          (set_runs (name.Flag 4) (times_overflow size p q) (bit_of b) (times_overflow_is size p q a u1.names low h1 refl ∙ ap (λ c. Some (bit_of c)) is.overflow)
          (set_runs (name.Flag 0) (times_overflow size p q) (bit_of b) (times_overflow_is size p q a u2.names low h2 refl ∙ ap (λ c. Some (bit_of c)) is.overflow) runs)))),
      record {
        regs = sym (sets.regs ∙ ap (λ r. with_part size r d value) read.shows.regs);
        flags = overflow_stands b t.names (sets.flags 0) (sets.flags 4);
        fs = sym (sets.fs ∙ read.fs);
        gs = sym (sets.gs ∙ read.gs);
        mem = sym (sets.mem ∙ read.mem);
        pages = sym (sets.pages ∙ read.pages);
        left = sym (sets.left ∙ read.left);
        calls = sym (sets.calls ∙ read.calls);
      },
    )

pub imul2_goes : (size : Size) (d : ℕ) (s : Operand) (next : ℕ) → GoesOn (i.Imul2 size d s) next (imul2_stmts size d s)
imul2_goes size d s next = by_step (i.Imul2 size d s) next (imul2_stmts size d s) (λ a. refl) (λ a w b.
    let (u, runs, read, shown) = reads_run size s a w b.names b.bytes b.shows b.first in
    times_leads _ size d (o.Reg d) s s a w u runs read (record { names = read.names; shows = read.shows; first = record { read = λ e. absurd cc }; second = shown }))

pub imul3_goes : (size : Size) (d : ℕ) (s : Operand) (k next : ℕ) → GoesOn (i.Imul3 size d s k) next (imul3_stmts size d s k)
imul3_goes size d s k next = by_step (i.Imul3 size d s k) next (imul3_stmts size d s k) (λ a. refl) (λ a w b.
    let (u, runs, read, shown) = reads_run size s a w b.names b.bytes b.shows b.first in
    times_leads _ size d s (o.Imm k) s a w u runs read (record { names = read.names; shows = read.shows; first = shown; second = record { read = λ e. absurd cc } }))
