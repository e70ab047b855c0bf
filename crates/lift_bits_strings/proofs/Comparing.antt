-- Flags are set to the words of a comparison.
use Rattle.std.proofs.Common.{◌≡◌, ℕ, ◌+◌, ◌^◌, ◌<◌, ◌≤◌, Bool, true, false, List, [], ◌∷◌, Option, Some, refl, lit<, lit≤, inl, inr, arith}
use Rattle.std.specs.Prelude.{IsSome, IsTrue}
use Rattle.dream_words.specs.declared.machine.Bit.{Bit}
use Rattle.dream_words.specs.declared.machine.Bit.TheVariants.{Zero, One, Undefined}
use Rattle.dream_words.specs.declared.machine.Flags.{Flags}
use Rattle.dream_words.specs.declared.machine.Name.TheVariants as name
use Rattle.dream_words.specs.Words.{IsSize, low_part}
use Rattle.run_parts.specs.Effects.{set_word}
use Rattle.run_parts.specs.World.{Names, World, regs_in, with_name}
use Rattle.x86_inst.specs.declared.AluOp.TheVariants as alu
use Rattle.x86_inst.specs.declared.Size.{Size}
use Rattle.x86_inst.specs.declared.Size.TheVariants as size
use Rattle.x86_model.specs.Arithmetic.{difference_flags, difference_of, flag_if}
use Rattle.x86_model.specs.Effects.{known}
use Rattle.x86_model.specs.Operands.{bits_of}
use Rattle.c_syntax.specs.declared.syntax.CBin.TheVariants as op
use Rattle.c_syntax.specs.declared.syntax.CCmp.TheVariants.{Eq, Lt}
use Rattle.c_syntax.specs.declared.syntax.CFn1.TheVariants.{Par}
use Rattle.c_syntax.specs.declared.syntax.CExpr.{CExpr}
use Rattle.c_syntax.specs.Value.{word_of}
use Rattle.c_words.specs.Built.{bin, cmp, num}
use Rattle.micro_ir.specs.declared.flow.Stmt.{Stmt}
use Rattle.micro_ir.specs.declared.flow.Stmt.TheVariants as stmt
use Rattle.micro_ir.specs.Rule.{is_flow_target, is_flow_word}
use Rattle.lift_parts.specs.Shown.{AreNames}
use Rattle.lift_parts.specs.Stands.{FlagsStand, StandsFor}
use Rattle.lift_parts.proofs.Chains.{none_run, set_runs}
use Rattle.lift_parts.proofs.Fit.{AreFit, IsFit, bin_fit, both_hold, deeper, fit_word, masked_fit, more_fit, none_fit, num_fit, shr_fit}
use Rattle.lift_parts.proofs.FitShapes.{cmp_fit, fn1_fit, word_if_fit}
use Rattle.lift_parts.proofs.Writes.{names_set}
use Rattle.lift_alu.specs.declared.alu.AluLift.{AluLift}
use Rattle.lift_alu.specs.Lifts.{Lifts, Shows as IsShownBy}
use Rattle.lift_alu.specs.Words.{alu_words, low_word, top_word}
use Rattle.lift_alu.proofs.Operations.{alu_lifts}
use Rattle.lift_blocks.specs.Flags.{sets_flags}
use Rattle.lift_blocks.proofs.FlagWords.{Leading}

-- ---- one flag

-- a word that stands for a flag
abbrev HasWord : Bit → Option ℕ → Type 0
HasWord b o = (x : ℕ) × (o ≡ Some x) × (x < 2 ^ 32) × StandsFor b x

word_shown : (b : Bit) (o : Option ℕ) → IsSome (known b) → IsShownBy b o → HasWord b o
word_shown Zero o k h = (0, h, lit< tt, refl)
word_shown One o k h = (1, h, lit< tt, refl)
word_shown Undefined o k h = absurd cc

-- a flag by a test is known
is_known : (b : Bool) → IsSome (known (flag_if b))
is_known true = refl
is_known false = refl

-- a flag is set, and the rest leads on from there
sets_flag : (Q : World → Type 0) (n : ℕ) (e : CExpr) (b : Bit) (rest : List Stmt) (w : World) → IsSome (known b) → IsShownBy b (word_of e w.names) → AreNames w.names
    → ((x : ℕ) → StandsFor b x → AreNames (with_name w.names (name.Flag n) x) → Leading Q rest (set_word (name.Flag n) x w)) → Leading Q (stmt.Set (name.Flag n) e ∷ rest) w
sets_flag Q n e b rest w g i h on =
    let x = word_shown b (word_of e w.names) g i in
    let t = on x.0 x.3 (names_set w.names (name.Flag n) x.0 h x.2) in
    (t.0, set_runs (name.Flag n) e x.0 x.1 t.1, t.2)

-- ---- all flags

-- flags are these, and all else but locals is as before
pub record Compared (f : Flags) (w u : World) : Type 0 where
  pub names : AreNames u.names
  pub flags : FlagsStand f u.names
  pub regs : regs_in u.names ≡ regs_in w.names
  pub fs : u.names name.Fs ≡ w.names name.Fs
  pub gs : u.names name.Gs ≡ w.names name.Gs
  pub mem : u.mem ≡ w.mem
  pub pages : u.pages ≡ w.pages
  pub left : u.left ≡ w.left
  pub calls : u.calls ≡ w.calls

is_size : (s : Size) → IsSize (bits_of s)
is_size size.B = inl refl
is_size size.H = inr (inl refl)
is_size size.W = inr (inr refl)

-- Two words have values in all names of which something holds that flags don't touch.
module _ (s : Size) (e g : CExpr) (x y : ℕ) (x_fits : x < 2 ^ 32) (y_fits : y < 2 ^ 32) (P : Names → Type 0) (stable : (v : Names) (n k : ℕ) → P v → P (with_name v (name.Flag n) k))
    (first : (v : Names) → P v → word_of e v ≡ Some x) (second : (v : Names) → P v → word_of g v ≡ Some y) where
  abbrev words : AluLift
  words = alu_words alu.Cmp (bits_of s) e g

  abbrev result : ℕ
  result = difference_of (bits_of s) (low_part (bits_of s) x) (low_part (bits_of s) y) false

  abbrev flags_of : Flags
  flags_of = difference_flags (bits_of s) (low_part (bits_of s) x) (low_part (bits_of s) y) false

  lifts : (v : Names) → P v → Lifts v words result flags_of
  lifts v p = (alu_lifts alu.Cmp (bits_of s) e g (is_size s)).effect v x y false (first v p) (second v p) x_fits y_fits tt

  pub compared : (w : World) → AreNames w.names → P w.names → Leading (Compared flags_of w) (sets_flags words) w
  compared w h p =
      let Q : World → Type 0 = Compared flags_of w in
      sets_flag Q 4 words.o flags_of.o _ w (is_known _) (lifts w.names p).o h (λ overflow is_overflow h4.
      let p4 = stable w.names 4 overflow p in
      let w4 : World = set_word (name.Flag 4) overflow w in
      sets_flag Q 3 words.s flags_of.s _ w4 (is_known _) (lifts w4.names p4).s h4 (λ sign is_sign h3.
      let p3 = stable w4.names 3 sign p4 in
      let w3 : World = set_word (name.Flag 3) sign w4 in
      sets_flag Q 2 words.z flags_of.z _ w3 (is_known _) (lifts w3.names p3).z h3 (λ zero is_zero h2.
      let p2 = stable w3.names 2 zero p3 in
      let w2 : World = set_word (name.Flag 2) zero w3 in
      sets_flag Q 1 words.p flags_of.p _ w2 (is_known _) (lifts w2.names p2).p h2 (λ parity is_parity h1.
      let p1 = stable w2.names 1 parity p2 in
      let w1 : World = set_word (name.Flag 1) parity w2 in
      sets_flag Q 0 words.c flags_of.c [] w1 (is_known _) (lifts w1.names p1).c h1 (λ carry is_carry h0.
      let w0 : World = set_word (name.Flag 0) carry w1 in (
        w0,
        none_run w0,
        record {
          names = h0;
          flags = record { c = is_carry; p = is_parity; z = is_zero; s = is_sign; o = is_overflow };
          regs = refl;
          fs = refl;
          gs = refl;
          mem = refl;
          pages = refl;
          left = refl;
          calls = refl;
        },
      ))))))

-- ---- the words of a comparison keep the rule of flows, and are safe

low_fit : (s : Size) (d : ℕ) (e : CExpr) → 1 ≤ d → IsFit d e → IsFit (d + 1) (low_word (bits_of s) e)
low_fit size.B d e h f = masked_fit d e 0xff h (lit< tt) f
low_fit size.H d e h f = masked_fit d e 0xffff h (lit< tt) f
low_fit size.W d e h f = deeper d (d + 1) e (omega arith) f

top_fit : (s : Size) (d : ℕ) (e : CExpr) → 1 ≤ d → IsFit d e → IsFit (d + 1) (top_word (bits_of s) e)
top_fit size.B d e h f = shr_fit d e 7 h (lit< tt) f
top_fit size.H d e h f = shr_fit d e 15 h (lit< tt) f
top_fit size.W d e h f = shr_fit d e 31 h (lit< tt) f

flag_fit : (n : ℕ) (e : CExpr) (ss : List Stmt) → IsTrue (is_flow_target (name.Flag n)) → IsFit 8 e → AreFit 0 ss → AreFit 0 (stmt.Set (name.Flag n) e ∷ ss)
flag_fit n e ss t f r = more_fit (stmt.Set (name.Flag n) e) ss 0 0 (both_hold (is_flow_target (name.Flag n)) (is_flow_word e) t (fit_word 8 e (lit≤ tt) f)) f.safe refl refl r

-- the flags of a comparison of two words that are names
pub compared_fit : (s : Size) (e g : CExpr) → IsFit 1 e → IsFit 1 g → AreFit 0 (sets_flags (alu_words alu.Cmp (bits_of s) e g))
compared_fit s e g h k =
    let x : CExpr = low_word (bits_of s) e in
    let y : CExpr = low_word (bits_of s) g in
    let r : CExpr = low_word (bits_of s) (bin op.Sub x y) in
    let x_fit : IsFit 2 x = low_fit s 1 e (lit≤ tt) h in
    let y_fit : IsFit 2 y = low_fit s 1 g (lit≤ tt) k in
    let r_fit : IsFit 4 r = low_fit s 3 (bin op.Sub x y) (lit≤ tt) (bin_fit 2 op.Sub x y refl x_fit y_fit) in
    let zero_fit : IsFit 4 (num 0) = num_fit 4 0 (lit≤ tt) (lit< tt) in
    let differ : IsFit 3 (bin op.Xor x y) = bin_fit 2 op.Xor x y refl x_fit y_fit in
    let changed : IsFit 5 (bin op.Xor x r) = bin_fit 4 op.Xor x r refl (deeper 2 4 x (lit≤ tt) x_fit) r_fit in
    let both : IsFit 6 (bin op.And (bin op.Xor x y) (bin op.Xor x r)) = bin_fit 5 op.And _ _ refl (deeper 3 5 _ (lit≤ tt) differ) changed in
    flag_fit 4 _ _ refl (deeper 7 8 _ (lit≤ tt) (top_fit s 6 _ (lit≤ tt) both))
    (flag_fit 3 _ _ refl (deeper 5 8 _ (lit≤ tt) (top_fit s 4 r (lit≤ tt) r_fit))
    (flag_fit 2 _ _ refl (deeper 6 8 _ (lit≤ tt) (word_if_fit 5 (cmp Eq r (num 0)) (lit≤ tt) (cmp_fit 4 Eq r (num 0) r_fit zero_fit)))
    (flag_fit 1 _ _ refl (deeper 5 8 _ (lit≤ tt) (fn1_fit 4 Par r r_fit))
    (flag_fit 0 _ [] refl (deeper 4 8 _ (lit≤ tt) (word_if_fit 3 (cmp Lt x y) (lit≤ tt) (cmp_fit 2 Lt x y x_fit y_fit))) none_fit))))
