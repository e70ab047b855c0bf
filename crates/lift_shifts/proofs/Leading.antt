-- The statements of shifts lead where their instructions do.
use Rattle.std.proofs.Common.{◌≡◌, ℕ, ◌^◌, ◌<◌, nat_eq, Bool, true, false, List, ◌++◌, Option, Some, refl, sym, ap, ◌∙◌, subst, arith}
use Rattle.std.specs.Prelude.{if◌then◌else◌}
use Rattle.std.proofs.lemmas.Bool.Decides.{nat_tests}
use Rattle.dream_words.specs.declared.machine.Bit.TheVariants.{Undefined}
use Rattle.dream_words.specs.declared.machine.Flags.{Flags}
use Rattle.run_parts.specs.World.{Names, World}
use Rattle.x86_inst.specs.declared.Count.{Count}
use Rattle.x86_inst.specs.declared.Count.TheVariants as n
use Rattle.x86_inst.specs.declared.Inst.{Inst}
use Rattle.x86_inst.specs.declared.Inst.TheVariants as i
use Rattle.x86_inst.specs.declared.Operand.{Operand}
use Rattle.x86_inst.specs.declared.ShiftOp.{ShiftOp}
use Rattle.x86_inst.specs.declared.ShiftOp.TheVariants.{Rol, Ror, Shl, Shr, Sar}
use Rattle.x86_inst.specs.declared.Size.{Size}
use Rattle.x86_inst.specs.declared.Size.TheVariants.{B, H, W}
use Rattle.x86_model.specs.declared.effect.Effect.{Effect}
use Rattle.x86_model.specs.declared.effect.Step.{Step}
use Rattle.x86_model.specs.Effects.{done, put}
use Rattle.x86_model.specs.Leads.{read_by, refused}
use Rattle.x86_model.specs.Operands.{bits_of, count_of, value_of}
use Rattle.x86_model.specs.Reads.{operand_read}
use Rattle.x86_model.specs.Successors.{is_none}
use Rattle.x86_model.specs.WideRows.{shift_flags, shift_none, shift_value}
use Rattle.c_syntax.specs.declared.syntax.CExpr.{CExpr}
use Rattle.c_syntax.specs.Value.{word_of}
use Rattle.micro_ir.specs.declared.flow.Stmt.{Stmt}
use Rattle.lift_parts.specs.Stands.{state_in}
use Rattle.lift_parts.specs.Parts.{reads}
use Rattle.lift_parts.proofs.Chains.{first_of_none, runs_by}
use Rattle.lift_parts.proofs.Kept.{flags_stay, reads_run}
use Rattle.lift_parts.proofs.Values.{value_fits}
use Rattle.lift_blocks.specs.Effects.{GoesOn, LeadsOn}
use Rattle.lift_blocks.specs.Flags.{computes}
use Rattle.lift_blocks.proofs.Common.{Begins, by_step, leads_next}
use Rattle.lift_shifts.specs.Shifts.{carry_word, over_word, rotates, sets_shifted, shift_stmts, shift_word, takes}
use Rattle.lift_shifts.proofs.CountWords.{by_cl}
use Rattle.lift_shifts.proofs.Given.{over_undefined, shift_gives, shift_word_is}
use Rattle.lift_shifts.proofs.Shifted.{shift_fits, shift_none_is}
use Rattle.lift_shifts.proofs.Setting.{GiveFlags, all_set, flags_after}
use Rattle.lift_shifts.proofs.Taken.{Taken, computes_to}

-- ---- counts

pub is_zero : (k : ℕ) → nat_eq k 0 ≡ true → k ≡ 0
is_zero k e = grind (arith, nat_tests)

pub not_zero : (k : ℕ) → nat_eq k 0 ≡ false → 0 < k
not_zero k e = grind (arith, nat_tests)

-- what a step does that reads its operand and has nothing more to do
read_leads : (a : Step) (w : World) (x : Inst) (size : Size) (d : Operand) → Begins x a w → a.first ≡ read_by (operand_read size d a.regs a.fs a.gs) w.mem
    → LeadsOn (refused w.pages.read (operand_read size d a.regs a.fs a.gs)) (done a a.flags).go (done a a.flags) (state_in w a.flags) (reads size d) w
read_leads a w x size d b first =
    let (u, runs, read, shown) = reads_run size d a w b.names b.bytes b.shows first in
    let bad : Option ℕ = refused w.pages.read (operand_read size d a.regs a.fs a.gs) in
    leads_next bad (done a a.flags) (state_in w a.flags) (reads size d) w u refl (runs_by bad _ (sym (first_of_none bad)) runs) (record {
      regs = sym read.shows.regs;
      flags = flags_stay a.flags w.names u.names read.flags b.flags;
      fs = sym read.fs;
      gs = sym read.gs;
      mem = sym read.mem;
      pages = sym read.pages;
      left = sym read.left;
      calls = sym read.calls;
    })

-- a value is put, with the flags after a count that is 0 or isn't
abbrev pub counted : Bool → Count → Size → Operand → ℕ → ℕ → Flags → Step → Effect
counted z c size d x v f a = if z then shift_none c size d x a else put size d v a (done a f)

-- by a number that is 0 nothing is done
none_counted : (c : Count) (size : Size) (d : Operand) (x v : ℕ) (f : Flags) (a : Step) → is_none c ≡ true → counted (nat_eq (count_of c a) 0) c size d x v f a ≡ done a a.flags
none_counted n.One size d x v f a e = absurd cc
none_counted (n.Imm k) size d x v f a e = ap (λ z. counted z (n.Imm k) size d x v f a) e
none_counted n.Cl size d x v f a e = absurd cc

-- What is given of the words of a shift: the result, and, where the count isn't 0, the flags.
pub record GiveShift (a : Step) (x v : ℕ) (rotates : Bool) (size : Size) (c : Count) (word carry over : CExpr) (f : Flags) : Type 0 where
  pub result : (u : Names) → Taken a x u → word_of word u ≡ Some v
  pub fits : v < 2 ^ bits_of size
  pub none : nat_eq (count_of c a) 0 ≡ true → v ≡ x
  pub flags : nat_eq (count_of c a) 0 ≡ false → GiveFlags a x v rotates size c carry over f
  pub only_one : nat_eq (count_of c a) 1 ≡ false → f.o ≡ Undefined
  pub kept : rotates ≡ true → (f.p ≡ a.flags.p) × (f.z ≡ a.flags.z) × (f.s ≡ a.flags.s)

-- a result is a word
fits_word : (size : Size) (v : ℕ) → v < 2 ^ bits_of size → v < 2 ^ 32
fits_word B v h = omega arith
fits_word H v h = omega arith
fits_word W v h = h

-- the flags that are set are those of the instruction
flags_none : (rotates : Bool) (f g : Flags) → flags_after rotates true f g ≡ f
flags_none true f g = refl
flags_none false f g = refl

flags_some : (rotates : Bool) (f g : Flags) → (rotates ≡ true → (g.p ≡ f.p) × (g.z ≡ f.z) × (g.s ≡ f.s)) → flags_after rotates false f g ≡ g
flags_some true f g h =
    ap (λ k. record { c = g.c; p = k; z = f.z; s = f.s; o = g.o }) (sym (h refl).0)
    ∙ ap (λ k. record { c = g.c; p = g.p; z = k; s = f.s; o = g.o }) (sym (h refl).1)
    ∙ ap (λ k. record { c = g.c; p = g.p; z = g.z; s = k; o = g.o }) (sym (h refl).2)
flags_some false f g h = refl

module _ (x : Inst) (a : Step) (w : World) (b : Begins x a w) (rotates : Bool) (size : Size) (d : Operand) (c : Count) (result carry over : CExpr) (v : ℕ) (f : Flags)
    (first : a.first ≡ read_by (operand_read size d a.regs a.fs a.gs) w.mem) (give : GiveShift a (value_of size d a) v rotates size c result carry over f) where
  abbrev pub bad : Option ℕ
  bad = refused w.pages.read (operand_read size d a.regs a.fs a.gs)

  abbrev pub flag_stmts : List Stmt
  flag_stmts = sets_shifted rotates size c carry over

  -- the statements of a count that isn't a number that is 0
  some_leads : is_none c ≡ false → (z : Bool) → nat_eq (count_of c a) 0 ≡ z → (value : ℕ) → v ≡ value
      → let e : Effect = put size d value a (done a (flags_after rotates z a.flags f)) in LeadsOn bad e.go e (state_in w a.flags) (takes size d ++ computes size d flag_stmts result) w
  some_leads some z counted value same =
      computes_to size d result v value a (flags_after rotates z a.flags f) flag_stmts w b.names b.bytes b.shows b.flags first give.result (fits_word size v give.fits) same
      (λ u k. all_set a (value_of size d a) v size c z some counted rotates carry over f (λ e. give.flags (counted ∙ e)) give.only_one u k)

  -- by CL, where it is 0
  zero_leads : (k : Count) → k ≡ n.Cl → is_none c ≡ false → nat_eq (count_of c a) 0 ≡ true
      → let e : Effect = shift_none k size d (value_of size d a) a in LeadsOn bad e.go e (state_in w a.flags) (takes size d ++ computes size d flag_stmts result) w
  zero_leads n.Cl q some z =
      subst (λ g. let e : Effect = put size d (value_of size d a) a (done a g) in LeadsOn bad e.go e (state_in w a.flags) (takes size d ++ computes size d flag_stmts result) w)
      (flags_none rotates a.flags f) (some_leads some true z (value_of size d a) (give.none z))
  zero_leads n.One q some z = absurd cc
  zero_leads (n.Imm k) q some z = absurd cc

  some_counted : is_none c ≡ false → (z : Bool) → nat_eq (count_of c a) 0 ≡ z
      → let e : Effect = counted z c size d (value_of size d a) v f a in LeadsOn bad e.go e (state_in w a.flags) (takes size d ++ computes size d flag_stmts result) w
  some_counted some true z = zero_leads c (by_cl c a some z) some z
  some_counted some false z =
      subst (λ g. let e : Effect = put size d v a (done a g) in LeadsOn bad e.go e (state_in w a.flags) (takes size d ++ computes size d flag_stmts result) w)
      (flags_some rotates a.flags f give.kept) (some_leads some false z v refl)

  pub all_counted : (m : Bool) → is_none c ≡ m
      → let e : Effect = counted (nat_eq (count_of c a) 0) c size d (value_of size d a) v f a in
      LeadsOn bad e.go e (state_in w a.flags) (if m then reads size d else takes size d ++ computes size d flag_stmts result) w
  all_counted true m =
      subst (λ e. LeadsOn bad e.go e (state_in w a.flags) (reads size d) w) (sym (none_counted c size d (value_of size d a) v f a m)) (read_leads a w x size d b first)
  all_counted false m = some_counted m (nat_eq (count_of c a) 0) refl

-- ---- shifts and rotations

rotation_keeps : (f : ShiftOp) (bits x k : ℕ) (g : Flags) → rotates f ≡ true
    → ((shift_flags f bits x k g).p ≡ g.p) × ((shift_flags f bits x k g).z ≡ g.z) × ((shift_flags f bits x k g).s ≡ g.s)
rotation_keeps Rol bits x k g e = (refl, refl, refl)
rotation_keeps Ror bits x k g e = (refl, refl, refl)
rotation_keeps Shl bits x k g e = absurd cc
rotation_keeps Shr bits x k g e = absurd cc
rotation_keeps Sar bits x k g e = absurd cc

shift_given : (f : ShiftOp) (size : Size) (a : Step) (x : ℕ) (c : Count) → x < 2 ^ bits_of size
    → GiveShift a x (shift_value f (bits_of size) x (count_of c a)) (rotates f) size c (shift_word f size c) (carry_word f size c) (over_word f size)
    (shift_flags f (bits_of size) x (count_of c a) a.flags)
shift_given f size a x c h = record {
  result = λ u t. shift_word_is size a x c h f u t;
  fits = shift_fits f (bits_of size) x (count_of c a) h;
  none = λ z. ap (shift_value f (bits_of size) x) (is_zero (count_of c a) z) ∙ shift_none_is f size x h;
  flags = λ z. shift_gives size a x c h f a.flags (not_zero (count_of c a) z);
  only_one = over_undefined size a x c h f a.flags;
  kept = rotation_keeps f (bits_of size) x (count_of c a) a.flags;
}

-- SHL, SHR, SAR, ROL and ROR
pub shift_goes : (f : ShiftOp) (size : Size) (d : Operand) (c : Count) (next : ℕ) → GoesOn (i.Shift f size d c) next (shift_stmts f size d c)
shift_goes f size d c next = by_step (i.Shift f size d c) next (shift_stmts f size d c) (λ a. refl) (λ a w b.
    all_counted (i.Shift f size d c) a w b (rotates f) size d c (shift_word f size c) (carry_word f size c) (over_word f size)
    (shift_value f (bits_of size) (value_of size d a) (count_of c a)) (shift_flags f (bits_of size) (value_of size d a) (count_of c a) a.flags) b.first
    (shift_given f size a (value_of size d a) c (value_fits a w.names b.names b.shows size d)) (is_none c) refl)
