-- Values of operands: which registers they read, and what forms say of the addresses and words of memory.
use Rattle.std.proofs.Common.{◌≡◌, ℕ, ◌+◌, ◌*◌, ◌%◌, ◌^◌, ◌<◌, Bool, true, false, nat_eq, if◌then◌else◌, Option, Some, None, refl, sym, ap, ◌∙◌, arith}
use Rattle.std.proofs.lemmas.Bool.{and_parts, or_parts, ltb-true, eqb-false, ne_eqb}
use Rattle.dream_words.specs.declared.machine.Regs.{Regs}
use Rattle.dream_words.specs.declared.machine.Flags.{Flags}
use Rattle.dream_words.specs.Memory.{Mem, load, bytes_of}
use Rattle.dream_words.specs.Registers.{reg_of}
use Rattle.dream_words.specs.Words.{low_part}
use Rattle.x86_inst.specs.declared.Size.{Size}
use Rattle.x86_inst.specs.declared.Seg.{Seg}
use Rattle.x86_inst.specs.declared.Seg.TheVariants as seg
use Rattle.x86_inst.specs.declared.Mem.{Mem as Address}
use Rattle.x86_inst.specs.declared.Operand.{Operand}
use Rattle.x86_inst.specs.declared.Operand.TheVariants as o
use Rattle.x86_formed.specs.Formed.{is_formed_mem, is_register_or_none}
use Rattle.x86_model.specs.Machine.{State}
use Rattle.x86_model.specs.Operands.{address_of, base_of, bits_of, reg_or_zero, width_of}
use Rattle.jump_tables.specs.Forms.{Forms, address_form, both, entry_of, form_or_zero, is_part_of, is_plain, memory_table, same_register, table_at, times, whole}
use Rattle.window_steps.specs.Knowledge.{Says, value_in}
use Rattle.window_steps.proofs.Forms.{both_says, plus_same, plus_says, table_says, times_says}
use Rattle.window_steps.proofs.Registers.{part_same}

-- ---- values that stay

-- the state with other registers and flags
abbrev pub with_regs : State → Regs → Flags → State
with_regs s r f = record s { regs = r; flags = f }

-- registers that are not the written one are as before
abbrev pub Keeps : Option ℕ → Regs → Regs → Type 0
Keeps written r q = (n : ℕ) → same_register written (Some n) ≡ false → reg_of q n ≡ reg_of r n

turned : (a b : ℕ) → nat_eq a b ≡ false → nat_eq b a ≡ false
turned a b h = ne_eqb b a (λ e. eqb-false a b h (sym e))

-- a part of an address that isn't written stays
part_stays : (p : Option ℕ) (w : ℕ) (r q : Regs) → Keeps (Some w) r q → same_register p (Some w) ≡ false → reg_or_zero p q ≡ reg_or_zero p r
part_stays None w r q k h = refl
part_stays (Some n) w r q k h = k n (turned n w h)

zero_stays : (p : Option ℕ) (r q : Regs) → Keeps None r q → reg_or_zero p q ≡ reg_or_zero p r
zero_stays None r q k = refl
zero_stays (Some n) r q k = k n refl

address_stays : (m : Address) (r q : Regs) (fs gs : ℕ) → reg_or_zero m.base q ≡ reg_or_zero m.base r → reg_or_zero m.index q ≡ reg_or_zero m.index r → address_of m q fs gs ≡ address_of m r fs gs
address_stays m r q fs gs h k =
    ap (λ x. (x + reg_or_zero m.index q * m.scale + m.disp + base_of m.seg fs gs) % 2 ^ 32) h
    ∙ ap (λ x. (reg_or_zero m.base r + x * m.scale + m.disp + base_of m.seg fs gs) % 2 ^ 32) k

-- an operand of which no part is written has its value again
pub value_stays : (size : Size) (x : Operand) (written : Option ℕ) (s : State) (q : Regs) (f : Flags) → is_part_of size x written ≡ false → Keeps written s.regs q
    → value_in size x (with_regs s q f) ≡ value_in size x s
value_stays size (o.Reg n) None s q f h k = part_same size q s.regs n (k (whole size n) refl)
value_stays size (o.Reg n) (Some w) s q f h k = part_same size q s.regs n (k (whole size n) (turned (whole size n) w h))
value_stays size (o.Mem m) None s q f h k =
    ap (λ a. low_part (bits_of size) (load s.mem a (bytes_of (width_of size)))) (address_stays m s.regs q s.fs s.gs (zero_stays m.base s.regs q k) (zero_stays m.index s.regs q k))
value_stays size (o.Mem m) (Some w) s q f h k =
    let p = or_parts (same_register m.base (Some w)) (same_register m.index (Some w)) h in
    ap (λ a. low_part (bits_of size) (load s.mem a (bytes_of (width_of size)))) (address_stays m s.regs q s.fs s.gs (part_stays m.base w s.regs q k p.0) (part_stays m.index w s.regs q k p.1))
value_stays size (o.Imm j) written s q f h k = refl

-- ---- addresses

-- the forms of registers hold of them
abbrev pub Hold : Mem → ℕ → Forms → Regs → Type 0
Hold mem i forms r = (n : ℕ) → n < 8 → Says mem i (forms n) (reg_of r n)

-- an address without the base of its segment, before it is taken modulo 2^32
abbrev pub sum_of : Address → Regs → ℕ
sum_of m r = reg_or_zero m.base r + reg_or_zero m.index r * m.scale + m.disp

module _ (mem : Mem) (i : ℕ) (forms : Forms) (r : Regs) (h : Hold mem i forms r) where
  part_says : (p : Option ℕ) → is_register_or_none p ≡ true → Says mem i (form_or_zero forms p) (reg_or_zero p r)
  part_says None e = zero_says i
    where
      zero_says : (i : ℕ) → 0 % 2 ^ 32 ≡ (0 * i + 0) % 2 ^ 32
      zero_says i = omega arith
  part_says (Some n) e = h n (ltb-true n 8 e)

  sum_says : (m : Address) → is_formed_mem m ≡ true → Says mem i (address_form forms m) (sum_of m r)
  sum_says m e =
      let p = and_parts (is_register_or_none m.base) (is_register_or_none m.index) e in
      plus_says mem i (both (form_or_zero forms m.base) (times m.scale (form_or_zero forms m.index))) (reg_or_zero m.base r + reg_or_zero m.index r * m.scale) m.disp
      (both_says mem i (form_or_zero forms m.base) (times m.scale (form_or_zero forms m.index)) (reg_or_zero m.base r) (reg_or_zero m.index r * m.scale)
      (part_says m.base p.0) (times_says mem i (form_or_zero forms m.index) (reg_or_zero m.index r) m.scale (part_says m.index p.1)))

  -- what is said of an address without a base of a segment, and of a word that is it modulo 2^32
  pub address_says : (m : Address) (fs gs v : ℕ) → is_formed_mem m ≡ true → base_of m.seg fs gs ≡ 0 → v % 2 ^ 32 ≡ address_of m r fs gs % 2 ^ 32 → Says mem i (address_form forms m) v
  address_says m fs gs v e z same =
      let n : sum_of m r + base_of m.seg fs gs ≡ sum_of m r = omega (arith, z) in
      let q : address_of m r fs gs ≡ sum_of m r % 2 ^ 32 = ap (λ k. k % 2 ^ 32) n in
      let t : v % 2 ^ 32 ≡ sum_of m r % 2 ^ 32 = omega (arith, same, q) in
      plus_same mem i (both (form_or_zero forms m.base) (times m.scale (form_or_zero forms m.index))) m.disp (sum_of m r) v t (sum_says m e)

  no_base : (g : Seg) (fs gs : ℕ) → is_plain g ≡ true → base_of g fs gs ≡ 0
  no_base seg.None fs gs e = refl
  no_base seg.Fs fs gs e = absurd (let z : ⊥ = cc in z)
  no_base seg.Gs fs gs e = absurd (let z : ⊥ = cc in z)

  below : (n : ℕ) → n % 2 ^ 32 < 2 ^ 32
  below n = omega arith

  -- an address that leads through a table is four times the index from it
  table_by : (b : Bool) (m : Address) (fs gs t : ℕ) → is_formed_mem m ≡ true → b ≡ is_plain m.seg → (if b then table_at (address_form forms m) else None) ≡ Some t
      → address_of m r fs gs ≡ (t + 4 * i) % 2 ^ 32
  table_by true m fs gs t e p g =
      table_says mem i (address_form forms m) t (address_of m r fs gs) g (below (sum_of m r + base_of m.seg fs gs))
      (address_says m fs gs (address_of m r fs gs) e (no_base m.seg fs gs (sym p)) refl)
  table_by false m fs gs t e p g = absurd (let z : ⊥ = cc in z)

  pub table_address : (m : Address) (fs gs t : ℕ) → is_formed_mem m ≡ true → memory_table forms m ≡ Some t → address_of m r fs gs ≡ (t + 4 * i) % 2 ^ 32
  table_address m fs gs t e g = table_by (is_plain m.seg) m fs gs t e refl g

  -- the form of the word at an address
  entry_by : (found : Option ℕ) (m : Address) (fs gs : ℕ) → is_formed_mem m ≡ true → memory_table forms m ≡ found → Says mem i (entry_of found) (load mem (address_of m r fs gs) 4)
  entry_by None m fs gs e g = tt
  entry_by (Some t) m fs gs e g = ap (λ a. load mem a 4) (table_address m fs gs t e g)

  pub entry_says : (m : Address) (fs gs : ℕ) → is_formed_mem m ≡ true → Says mem i (entry_of (memory_table forms m)) (load mem (address_of m r fs gs) 4)
  entry_says m fs gs e = entry_by (memory_table forms m) m fs gs e refl
