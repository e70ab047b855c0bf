-- The blocks of arithmetic and of the carry have their effects.
use Rattle.std.proofs.Common.{◌≡◌, ℕ, ◌^◌, ◌<◌, Bool, true, false, not, if◌then◌else◌, List, [], ◌∷◌, ◌++◌, Option, Some, None, refl, sym, ap, subst, arith, lit<, inl, inr}
use Rattle.std.specs.Prelude.{IsSome}
use Rattle.std.proofs.lemmas.Nat.{and_le_l, or_lt, xor_lt}
use Rattle.std.proofs.Math.Nat.{mod-eq_of_lt}
use Rattle.dream_words.specs.declared.machine.Bit.{Bit}
use Rattle.dream_words.specs.declared.machine.Bit.TheVariants.{Zero, One, Undefined}
use Rattle.dream_words.specs.declared.machine.Flags.{Flags}
use Rattle.dream_words.specs.declared.machine.Name.TheVariants as name
use Rattle.dream_words.specs.Words.{IsSize, low_part, bit_of, sign_bit, has_even_ones}
use Rattle.run_parts.specs.Effects.{set_word}
use Rattle.run_parts.specs.World.{Names, World}
use Rattle.x86_inst.specs.declared.AluOp.{AluOp}
use Rattle.x86_inst.specs.declared.AluOp.TheVariants as op
use Rattle.x86_inst.specs.declared.CarryOp.{CarryOp}
use Rattle.x86_inst.specs.declared.CarryOp.TheVariants.{Flip, Clear, Put}
use Rattle.x86_inst.specs.declared.Inst.TheVariants as i
use Rattle.x86_inst.specs.declared.Size.{Size}
use Rattle.x86_inst.specs.declared.Size.TheVariants.{B, H, W}
use Rattle.x86_inst.specs.declared.Operand.{Operand}
use Rattle.x86_model.specs.declared.effect.Effect.{Effect}
use Rattle.x86_model.specs.declared.effect.Step.{Step}
use Rattle.x86_model.specs.Arithmetic.{flag_if, by_result, alu_value, alu_flags}
use Rattle.x86_model.specs.Effects.{done, put, known, opposite, reading}
use Rattle.x86_model.specs.Operands.{bits_of, value_of}
use Rattle.x86_model.specs.Rows.{alu_written, alu_done, alu_carry, keeping_carry}
use Rattle.x86_model.specs.Successors.{writes as writes_operand}
use Rattle.c_syntax.specs.declared.syntax.CExpr.{CExpr}
use Rattle.c_syntax.specs.Value.{word_of, picked, truth_of}
use Rattle.c_words.specs.Built.{num, word_if}
use Rattle.c_words.proofs.Layers.{word_layer}
use Rattle.micro_ir.specs.declared.flow.Stmt.{Stmt}
use Rattle.micro_ir.specs.declared.flow.Stmt.TheVariants as stmt
use Rattle.lift_parts.specs.Parts.{raw_word, reads, pair_reads}
use Rattle.lift_parts.specs.Shown.{RunsTo, Shows, ShowsRead}
use Rattle.lift_parts.specs.Stands.{FlagsStand, StandsFor, state_in}
use Rattle.lift_parts.proofs.Chains.{faults_append, none_run, runs_allowed, set_runs}
use Rattle.lift_parts.proofs.Kept.{AfterRead, reads_run, pair_reads_run}
use Rattle.lift_parts.proofs.Values.{IsRaw, low_fits, raw_is, value_fits, word_fits}
use Rattle.lift_alu.specs.declared.alu.AluLift.{AluLift}
use Rattle.lift_alu.specs.Lifts.{CarryIs, IsKnownAs, Lifts}
use Rattle.lift_alu.specs.Words.{alu_words, flag_clear}
use Rattle.lift_alu.proofs.Operations.{alu_lifts}
use Rattle.lift_alu.proofs.Truths.{cond_truth}
use Rattle.lift.specs.Blocks.{alu_stmts, carry_word, neg_stmts, step_stmts, test_stmts}
use Rattle.lift_blocks.specs.Flags.{computes, sets_but_carry, sets_flags}
use Rattle.lift_blocks.specs.Effects.{GoesOn, LeadsOn}
use Rattle.lift_blocks.proofs.Common.{by_step, leads_astray}
use Rattle.lift_blocks.proofs.FlagWords.{AreKnown, Give, Sees, all_but_carry_set, all_set, computes_on, flags_on}

-- ---- the flags and the result of an operation

-- none of the flags of a result is undefined
is_known : (b : Bool) → IsSome (known (flag_if b))
is_known true = refl
is_known false = refl

result_known : (bits v : ℕ) (c o : Bit) → IsSome (known c) → IsSome (known o) → AreKnown (by_result bits v c o)
result_known bits v c o h k = record {
  c = h;
  p = is_known (has_even_ones v);
  z = is_known _;
  s = is_known (sign_bit bits v);
  o = k;
}

alu_known : (op : AluOp) (bits x y : ℕ) (c : Bool) → AreKnown (alu_flags op bits x y c)
alu_known op.Add bits x y c = result_known bits _ _ _ (is_known _) (is_known _)
alu_known op.Or bits x y c = result_known bits _ _ _ refl refl
alu_known op.Adc bits x y c = result_known bits _ _ _ (is_known _) (is_known _)
alu_known op.Sbb bits x y c = result_known bits _ _ _ (is_known _) (is_known _)
alu_known op.And bits x y c = result_known bits _ _ _ refl refl
alu_known op.Sub bits x y c = result_known bits _ _ _ (is_known _) (is_known _)
alu_known op.Xor bits x y c = result_known bits _ _ _ refl refl
alu_known op.Cmp bits x y c = result_known bits _ _ _ (is_known _) (is_known _)

-- a result fits the size of its operands
alu_fits : (op : AluOp) (size : Size) (x y : ℕ) (c : Bool) → x < 2 ^ bits_of size → y < 2 ^ bits_of size → alu_value op (bits_of size) x y c < 2 ^ bits_of size
alu_fits op.Add size x y c h k = low_fits size _
alu_fits op.Or size x y c h k = or_lt (bits_of size) x y h k
alu_fits op.Adc size x y c h k = low_fits size _
alu_fits op.Sbb size x y c h k = low_fits size _
alu_fits op.And size x y c h k = omega (arith, and_le_l x y)
alu_fits op.Sub size x y c h k = low_fits size _
alu_fits op.Xor size x y c h k = xor_lt (bits_of size) x y h k
alu_fits op.Cmp size x y c h k = low_fits size _

-- each size is one that words may have
is_size : (size : Size) → IsSize (bits_of size)
is_size B = inl refl
is_size H = inr (inl refl)
is_size W = inr (inr refl)

-- 0 and 1 as operands
small_fits : (size : Size) (n : ℕ) → n < 2 → n < 2 ^ bits_of size
small_fits B n h = omega arith
small_fits H n h = omega arith
small_fits W n h = omega arith

small_raw : (size : Size) (n : ℕ) → n < 2 → (v : Names) → IsRaw size (num n) v n
small_raw size n h v = (n, simp word_layer refl, word_fits size n (small_fits size n h), mod-eq_of_lt (small_fits size n h))

-- the words of an operation on two operands whose words are seen give its result and its flags
module _ (size : Size) (d s : Operand) (a : Step) (k : ℕ) where
  alu_gives : (op : AluOp) (e g : CExpr) (x y : ℕ) (c : Bool) → CarryIs op c k → x < 2 ^ bits_of size → y < 2 ^ bits_of size
      → ((v : Names) → Sees size d s a k v → IsRaw size e v x) → ((v : Names) → Sees size d s a k v → IsRaw size g v y)
      → Give size d s a k (alu_words op (bits_of size) e g) (alu_value op (bits_of size) x y c) (alu_flags op (bits_of size) x y c)
  alu_gives op e g x y c carry h j first second = record {
    lifts = λ v sees.
        let (p, p_is, p_word, p_low) = first v sees in
        let (q, q_is, q_word, q_low) = second v sees in
        let bits : ℕ = bits_of size in
        subst (λ y. Lifts v (alu_words op bits e g) (alu_value op bits x y c) (alu_flags op bits x y c)) q_low
        (subst (λ x. Lifts v (alu_words op bits e g) (alu_value op bits x (low_part bits q) c) (alu_flags op bits x (low_part bits q) c)) p_low
        ((alu_lifts op bits e g (is_size size)).effect v p q c p_is q_is p_word q_word (subst (CarryIs op c) (sym sees.carry) carry)));
    known = alu_known op (bits_of size) x y c;
    fits = word_fits size _ (alu_fits op size x y c h j);
  }

  -- the words of the operands themselves
  first_raw : (v : Names) → Sees size d s a k v → IsRaw size (raw_word size d) v (value_of size d a)
  first_raw v h = raw_is a v h.names h.shows size d h.first

  second_raw : (v : Names) → Sees size d s a k v → IsRaw size (raw_word size s) v (value_of size s a)
  second_raw v h = raw_is a v h.names h.shows size s h.second

-- ---- operations on two operands

-- what is known of the carry that an operation reads, if anything is
abbrev IsCarry : AluOp → Option Bool → ℕ → Type 0
IsCarry op None k = Unit {0}
IsCarry op (Some c) k = CarryIs op c k

-- where CF is known, its name is the carry that ADC and SBB read
known_carry : (b : Bit) (k : ℕ) → StandsFor b k → IsCarry op.Adc (known b) k × IsCarry op.Sbb (known b) k
known_carry Zero k h = (h, h)
known_carry One k h = (h, h)
known_carry Undefined k h = (tt, tt)

-- what each operation knows of the carry that it reads; the others read none
carry_read : (op : AluOp) (a : Step) (k : ℕ) → StandsFor a.flags.c k → IsCarry op (alu_carry op a) k
carry_read op.Add a k h = tt
carry_read op.Or a k h = tt
carry_read op.Adc a k h = (known_carry a.flags.c k h).0
carry_read op.Sbb a k h = (known_carry a.flags.c k h).1
carry_read op.And a k h = tt
carry_read op.Sub a k h = tt
carry_read op.Xor a k h = tt
carry_read op.Cmp a k h = tt

-- the result is written, but for Cmp
written_is : (op : AluOp) (size : Size) (d : Operand) (v : ℕ) (a : Step) (e : Effect) → alu_written op size d v a e ≡ (if writes_operand op then put size d v a e else e)
written_is op.Add size d v a e = refl
written_is op.Or size d v a e = refl
written_is op.Adc size d v a e = refl
written_is op.Sbb size d v a e = refl
written_is op.And size d v a e = refl
written_is op.Sub size d v a e = refl
written_is op.Xor size d v a e = refl
written_is op.Cmp size d v a e = refl

-- what the words see after the operands were read
seen : (size : Size) (d s : Operand) (a : Step) (w u : World) → AfterRead a w u → ShowsRead size d a u.names → ShowsRead size s a u.names
    → Sees size d s a (w.names (name.Flag 0)) u.names
seen size d s a w u read first second = record { names = read.names; shows = read.shows; first = first; second = second; carry = read.flags 0 }

module _ (bad : Option ℕ) (size : Size) (d s : Operand) (a : Step) (w u : World) (read : AfterRead a w u) (sees : Sees size d s a (w.names (name.Flag 0)) u.names) where
  abbrev Given : AluLift → ℕ → Flags → Type 0
  Given l value f = Give size d s a (w.names (name.Flag 0)) l value f

  -- what six words lead to, with and without a write
  words_on : (b : Bool) (l : AluLift) (value : ℕ) (f : Flags) (before : List Stmt) → RunsTo bad before w u → Given l value f
      → let e : Effect = if b then put size d value a (done a f) else done a f in
      LeadsOn bad e.go e (state_in w a.flags) (before ++ (if b then computes size d (sets_flags l) l.result else sets_flags l)) w
  words_on true l value f before runs give =
      computes_on size d s a (w.names (name.Flag 0)) f (sets_flags l) (all_set size d s a (w.names (name.Flag 0)) l value f give)
      bad l.result value give.fits before w u runs read sees (give.lifts u.names sees).result
  words_on false l value f before runs give =
      flags_on size d s a (w.names (name.Flag 0)) f (sets_flags l) (all_set size d s a (w.names (name.Flag 0)) l value f give) bad before w u runs read sees

  -- the same, where CF is kept
  words_keep_carry : (l : AluLift) (value : ℕ) (f : Flags) (before : List Stmt) → RunsTo bad before w u → StandsFor a.flags.c (w.names (name.Flag 0)) → Given l value f
      → let e : Effect = put size d value a (done a (keeping_carry a.flags f)) in
      LeadsOn bad e.go e (state_in w a.flags) (before ++ computes size d (sets_but_carry l) l.result) w
  words_keep_carry l value f before runs carry give =
      computes_on size d s a (w.names (name.Flag 0)) (keeping_carry a.flags f) (sets_but_carry l)
      (all_but_carry_set size d s a (w.names (name.Flag 0)) l value f give a.flags.c carry)
      bad l.result value give.fits before w u runs read sees (give.lifts u.names sees).result

  -- the words of an operation on both operands give its result and its flags
  pair_gives : (op : AluOp) (c : Bool) → CarryIs op c (w.names (name.Flag 0))
      → let bits : ℕ = bits_of size in
      let x : ℕ = value_of size d a in
      let y : ℕ = value_of size s a in
      Given (alu_words op bits (raw_word size d) (raw_word size s)) (alu_value op bits x y c) (alu_flags op bits x y c)
  pair_gives op c carry =
      alu_gives size d s a (w.names (name.Flag 0)) op (raw_word size d) (raw_word size s) (value_of size d a) (value_of size s a) c carry
      (value_fits a u.names read.names read.shows size d) (value_fits a u.names read.names read.shows size s)
      (first_raw size d s a (w.names (name.Flag 0))) (second_raw size d s a (w.names (name.Flag 0)))

  -- an operation, whatever is known of its carry
  alu_leads : (op : AluOp) (o : Option Bool) → IsCarry op o (w.names (name.Flag 0)) → RunsTo bad (pair_reads size d s) w u
      → let e : Effect = reading o a (λ c. alu_done op size d (value_of size d a) (value_of size s a) c a) in LeadsOn bad e.go e (state_in w a.flags) (alu_stmts op size d s) w
  alu_leads op None h runs = leads_astray bad a (state_in w a.flags) (alu_stmts op size d s) w (faults_append bad (pair_reads size d s) _ runs)
  alu_leads op (Some c) h runs =
      let bits : ℕ = bits_of size in
      let v : ℕ = alu_value op bits (value_of size d a) (value_of size s a) c in
      let f : Flags = alu_flags op bits (value_of size d a) (value_of size s a) c in
      subst (λ e. LeadsOn bad e.go e (state_in w a.flags) (alu_stmts op size d s) w) (sym (written_is op size d v a (done a f)))
      (words_on (writes_operand op) (alu_words op bits (raw_word size d) (raw_word size s)) v f (pair_reads size d s) runs (pair_gives op c h))

-- ADD, OR, ADC, SBB, AND, SUB, XOR and CMP
pub alu_goes : (op : AluOp) (size : Size) (d s : Operand) (next : ℕ) → GoesOn (i.Alu op size d s) next (alu_stmts op size d s)
alu_goes op size d s next = by_step (i.Alu op size d s) next (alu_stmts op size d s) (λ a. refl) (λ a w b.
    let (u, runs, read, first, second) = pair_reads_run size d s a w b.names b.bytes b.shows b.first in
    alu_leads _ size d s a w u read (seen size d s a w u read first second) op (alu_carry op a)
    (carry_read op a (w.names (name.Flag 0)) b.flags.c) runs)

-- TEST
pub test_goes : (size : Size) (d s : Operand) (next : ℕ) → GoesOn (i.Test size d s) next (test_stmts size d s)
test_goes size d s next = by_step (i.Test size d s) next (test_stmts size d s) (λ a. refl) (λ a w b.
    let (u, runs, read, first, second) = pair_reads_run size d s a w b.names b.bytes b.shows b.first in
    let bits : ℕ = bits_of size in
    let x : ℕ = value_of size d a in
    let y : ℕ = value_of size s a in
    let sees = seen size d s a w u read first second in
    words_on _ size d s a w u read sees false (alu_words op.And bits (raw_word size d) (raw_word size s)) (alu_value op.And bits x y false) (alu_flags op.And bits x y false)
    (pair_reads size d s) runs (pair_gives None size d s a w u read sees op.And false tt))

-- ---- operations on one operand

-- what an operation on the operand and 1 leads to, where CF is kept
step_leads : (bad : Option ℕ) (op : AluOp) (size : Size) (d : Operand) (a : Step) (w u : World) → ((k : ℕ) → CarryIs op false k) → StandsFor a.flags.c (w.names (name.Flag 0))
    → RunsTo bad (reads size d) w u → AfterRead a w u → ShowsRead size d a u.names
    → let x : ℕ = value_of size d a in
    let e : Effect = put size d (alu_value op (bits_of size) x 1 false) a (done a (keeping_carry a.flags (alu_flags op (bits_of size) x 1 false))) in
    LeadsOn bad e.go e (state_in w a.flags) (step_stmts op size d) w
step_leads bad op size d a w u carry kept runs read shown =
    let k : ℕ = w.names (name.Flag 0) in
    let x : ℕ = value_of size d a in
    words_keep_carry bad size d d a w u read (seen size d d a w u read shown shown)
    (alu_words op (bits_of size) (raw_word size d) (num 1)) (alu_value op (bits_of size) x 1 false) (alu_flags op (bits_of size) x 1 false) (reads size d) runs kept
    (alu_gives size d d a k op (raw_word size d) (num 1) x 1 false (carry k) (value_fits a u.names read.names read.shows size d) (small_fits size 1 (lit< tt))
    (first_raw size d d a k) (λ v h. small_raw size 1 (lit< tt) v))

-- INC and DEC
pub inc_goes : (size : Size) (d : Operand) (next : ℕ) → GoesOn (i.Inc size d) next (step_stmts op.Add size d)
inc_goes size d next = by_step (i.Inc size d) next (step_stmts op.Add size d) (λ a. refl) (λ a w b.
    let (u, runs, read, shown) = reads_run size d a w b.names b.bytes b.shows b.first in
    step_leads _ op.Add size d a w u (λ k. tt) b.flags.c runs read shown)

pub dec_goes : (size : Size) (d : Operand) (next : ℕ) → GoesOn (i.Dec size d) next (step_stmts op.Sub size d)
dec_goes size d next = by_step (i.Dec size d) next (step_stmts op.Sub size d) (λ a. refl) (λ a w b.
    let (u, runs, read, shown) = reads_run size d a w b.names b.bytes b.shows b.first in
    step_leads _ op.Sub size d a w u (λ k. tt) b.flags.c runs read shown)

-- NEG
pub neg_goes : (size : Size) (d : Operand) (next : ℕ) → GoesOn (i.Neg size d) next (neg_stmts size d)
neg_goes size d next = by_step (i.Neg size d) next (neg_stmts size d) (λ a. refl) (λ a w b.
    let (u, runs, read, shown) = reads_run size d a w b.names b.bytes b.shows b.first in
    let k : ℕ = w.names (name.Flag 0) in
    let x : ℕ = value_of size d a in
    words_on _ size d d a w u read (seen size d d a w u read shown shown) true
    (alu_words op.Sub (bits_of size) (num 0) (raw_word size d)) (alu_value op.Sub (bits_of size) 0 x false) (alu_flags op.Sub (bits_of size) 0 x false) (reads size d) runs
    (alu_gives size d d a k op.Sub (num 0) (raw_word size d) 0 x false tt (small_fits size 0 (lit< tt)) (value_fits a u.names read.names read.shows size d)
    (λ v h. small_raw size 0 (lit< tt) v) (first_raw size d d a k)))

-- ---- CF alone

-- CF is set to a word that stands for it
carry_set : (a : Step) (w : World) (e : CExpr) (x : ℕ) (b : Bit) → Shows a w.names → FlagsStand a.flags w.names → word_of e w.names ≡ Some x → StandsFor b x
    → let f : Effect = done a (record a.flags { c = b }) in LeadsOn None f.go f (state_in w a.flags) (stmt.Set (name.Flag 0) e ∷ []) w
carry_set a w e x b shows flags is stands = (
  set_word (name.Flag 0) x w,
  runs_allowed (set_runs (name.Flag 0) e x is (none_run _)),
  record {
    regs = sym shows.regs;
    flags = record { c = stands; p = flags.p; z = flags.z; s = flags.s; o = flags.o };
    fs = refl;
    gs = refl;
    mem = refl;
    pages = refl;
    left = refl;
    calls = refl;
  },
)

-- the word of a condition
word_if_is : (v : Names) (p : Bool) → truth_of (flag_clear 0) v ≡ Some p → word_of (word_if (flag_clear 0)) v ≡ Some (bit_of p)
word_if_is v true h = simp word_layer (ap (λ t. picked t (Some 1) (Some 0)) h)
word_if_is v false h = simp word_layer (ap (λ t. picked t (Some 1) (Some 0)) h)

-- CMC, by what the carry is
flip_leads : (c : Bit) (p : Bool) (a : Step) (w : World) → Shows a w.names → FlagsStand a.flags w.names → word_of (word_if (flag_clear 0)) w.names ≡ Some (bit_of p) → IsKnownAs (opposite (known c)) p
    → let e : Effect = reading (known c) a (λ c. done a (record a.flags { c = flag_if (not c) })) in LeadsOn None e.go e (state_in w a.flags) (stmt.Set (name.Flag 0) (word_if (flag_clear 0)) ∷ []) w
flip_leads Zero p a w shows flags is h = carry_set a w (word_if (flag_clear 0)) (bit_of p) One shows flags is (ap bit_of h)
flip_leads One p a w shows flags is h = carry_set a w (word_if (flag_clear 0)) (bit_of p) Zero shows flags is (ap bit_of h)
flip_leads Undefined p a w shows flags is h = tt

-- CMC, CLC and STC. The condition of the number 3 is that CF is clear.
pub carry_goes : (op : CarryOp) (next : ℕ) → GoesOn (i.Carry op) next (stmt.Set (name.Flag 0) (carry_word op) ∷ [])
carry_goes Flip next = by_step (i.Carry Flip) next (stmt.Set (name.Flag 0) (carry_word Flip) ∷ []) (λ a. refl) (λ a w b.
    let (p, truth, is_known_as) = (cond_truth 3).truth w.names a.flags b.flags in
    flip_leads a.flags.c p a w b.shows b.flags (word_if_is w.names p truth) is_known_as)
carry_goes Clear next = by_step (i.Carry Clear) next (stmt.Set (name.Flag 0) (carry_word Clear) ∷ []) (λ a. refl) (λ a w b.
    carry_set a w (num 0) 0 Zero b.shows b.flags (simp word_layer refl) refl)
carry_goes Put next = by_step (i.Carry Put) next (stmt.Set (name.Flag 0) (carry_word Put) ∷ []) (λ a. refl) (λ a w b.
    carry_set a w (num 1) 1 One b.shows b.flags (simp word_layer refl) refl)
