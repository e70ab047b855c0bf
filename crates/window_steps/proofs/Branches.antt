-- The comparison of the index, and the branch by it.
use Rattle.std.proofs.Common.{◌≡◌, ℕ, ◌+◌, ◌-◌, ◌%◌, ◌/◌, ◌^◌, ◌<◌, inl, inr, Bool, true, false, nat_eq, nat_lt, if◌then◌else◌, List, [], ◌∷◌, Option, Some, None, refl, sym, ap, ◌∙◌, subst, arith, add-zero}
use Rattle.std.specs.Prelude.{◌||◌, not, ◌==◌, unwrap_or}
use Rattle.std.proofs.Math.Nat.{mod-eq_of_lt}
use Rattle.std.proofs.lemmas.Bool.{cases_eq, eq-eqb, eqb-true, ne_eqb}
use Rattle.std.proofs.lemmas.Bool.Decides.{nat_tests}
use Rattle.std.proofs.lemmas.Nat.{mod_below, pow_pos}
use Rattle.elf_image.specs.declared.image.Segment.{Segment}
use Rattle.elf_image.specs.declared.range.Range.{Range}
use Rattle.dream_words.specs.declared.machine.Flags.{Flags}
use Rattle.dream_words.specs.declared.outcome.Start.{Start}
use Rattle.dream_words.specs.Memory.{load, bytes_of}
use Rattle.dream_words.specs.Registers.{reg_of}
use Rattle.dream_words.specs.Words.{borrows, low_part}
use Rattle.x86_inst.specs.declared.AluOp.TheVariants.{Cmp}
use Rattle.x86_inst.specs.declared.Cond.{Cond}
use Rattle.x86_inst.specs.declared.Inst.{Inst}
use Rattle.x86_inst.specs.declared.Inst.TheVariants as i
use Rattle.x86_inst.specs.declared.Operand.{Operand}
use Rattle.x86_inst.specs.declared.Operand.TheVariants as o
use Rattle.x86_inst.specs.declared.Size.{Size}
use Rattle.x86_inst.specs.declared.Size.TheVariants.{B, H, W}
use Rattle.x86_model.specs.declared.effect.Effect.{Effect}
use Rattle.x86_model.specs.declared.effect.Go.TheVariants as go
use Rattle.x86_model.specs.Arithmetic.{difference_flags, difference_of, flag_if}
use Rattle.x86_model.specs.Effects.{both, condition_of, done, either, goes, known, opposite, reading}
use Rattle.x86_model.specs.Leads.{allowed, effect_in, refused_read, step_of}
use Rattle.x86_model.specs.Undefined.{condition_flags, some_undefined}
use Rattle.x86_model.specs.Machine.{At, State}
use Rattle.x86_model.specs.Operands.{address_of, bits_of, width_of}
use Rattle.x86_model.specs.Rows.{target_at}
use Rattle.machine.specs.Code.{BeginsAt, Decodes}
use Rattle.machine.specs.Run.{step_at}
use Rattle.jump_tables.specs.Window.{Split, is_place, next_of, split, split_of}
use Rattle.window_steps.specs.Knowledge.{is_above, value_in}
use Rattle.window_steps.proofs.Moves.{RegsFit}
use Rattle.window_steps.proofs.Operands.{with_regs}
use Rattle.window_steps.proofs.Quiet.{scene, step_next, step_to}

-- ---- flags of a difference

-- the value of an operand fits its size
byte_below : (b : Bool) (p q : ℕ) → (if b then p % 2 ^ 8 else q / 2 ^ 8 % 2 ^ 8) < 2 ^ 8
byte_below true p q = omega arith
byte_below false p q = omega arith

pub value_below : (size : Size) (x : Operand) (s : State) → RegsFit s.regs → value_in size x s < 2 ^ bits_of size
value_below B (o.Reg n) s h = byte_below (nat_lt n 4) (reg_of s.regs n) (reg_of s.regs (n - 4))
value_below H (o.Reg n) s h = mod_below (reg_of s.regs n) (2 ^ 16) (pow_pos 16)
value_below W (o.Reg n) s h = h n
value_below size (o.Mem m) s h = mod_below (load s.mem (address_of m s.regs s.fs s.gs) (bytes_of (width_of size))) (2 ^ bits_of size) (pow_pos (bits_of size))
value_below size (o.Imm k) s h = mod_below k (2 ^ bits_of size) (pow_pos (bits_of size))

-- the borrow is the test below
borrow_is : (bits x y : ℕ) → x < 2 ^ bits → y < 2 ^ bits → borrows bits x y false ≡ nat_lt x y
borrow_is bits x y h k = ap (λ a. nat_lt a (y % 2 ^ bits + 0)) (mod-eq_of_lt h) ∙ ap (λ b. nat_lt x b) (add-zero (y % 2 ^ bits) ∙ mod-eq_of_lt k)

-- the difference is 0 for equal words
zero_of : (size : Size) (x y : ℕ) → x < 2 ^ bits_of size → y < 2 ^ bits_of size → x ≡ y → low_part (bits_of size) (difference_of (bits_of size) x y false) ≡ 0
zero_of B x y h k e = let p : x < 256 = h in let q : y < 256 = k in omega (arith, p, q, e)
zero_of H x y h k e = let p : x < 65536 = h in let q : y < 65536 = k in omega (arith, p, q, e)
zero_of W x y h k e = let p : x < 4294967296 = h in let q : y < 4294967296 = k in omega (arith, p, q, e)

of_zero : (size : Size) (x y : ℕ) → x < 2 ^ bits_of size → y < 2 ^ bits_of size → low_part (bits_of size) (difference_of (bits_of size) x y false) ≡ 0 → x ≡ y
of_zero B x y h k e = let p : x < 256 = h in let q : y < 256 = k in omega (arith, p, q, e)
of_zero H x y h k e = let p : x < 65536 = h in let q : y < 65536 = k in omega (arith, p, q, e)
of_zero W x y h k e = let p : x < 4294967296 = h in let q : y < 4294967296 = k in omega (arith, p, q, e)

zero_is : (size : Size) (x y : ℕ) → x < 2 ^ bits_of size → y < 2 ^ bits_of size → (low_part (bits_of size) (difference_of (bits_of size) x y false) == 0) ≡ nat_eq x y
zero_is size x y h k =
    let d : ℕ = low_part (bits_of size) (difference_of (bits_of size) x y false) in
    elim (cases_eq x y) [
      | inl e ↦ eq-eqb d 0 (zero_of size x y h k e) ∙ sym (eq-eqb x y e)
      | inr ne ↦ ne_eqb d 0 (λ z. ne (of_zero size x y h k z)) ∙ sym (ne_eqb x y ne)
    ]

-- ---- conditions

known_if : (p : Bool) → known (flag_if p) ≡ Some p
known_if true = refl
known_if false = refl

either_if : (p q : Bool) → both either (known (flag_if p)) (known (flag_if q)) ≡ Some (p || q)
either_if true true = refl
either_if true false = refl
either_if false true = refl
either_if false false = refl

-- a flag that is 1 or 0 isn't undefined
one_defined : (p : Bool) → some_undefined (flag_if p ∷ []) ≡ false
one_defined true = refl
one_defined false = refl

two_defined : (p q : Bool) → some_undefined (flag_if p ∷ flag_if q ∷ []) ≡ false
two_defined true true = refl
two_defined true false = refl
two_defined false true = refl
two_defined false false = refl

at_most : (x y : ℕ) → (nat_lt x y || nat_eq x y) ≡ nat_lt x (y + 1)
at_most x y = grind (arith, nat_tests)

module _ (size : Size) (x y : ℕ) (h : x < 2 ^ bits_of size) (k : y < 2 ^ bits_of size) where
  abbrev flags : Flags
  flags = difference_flags (bits_of size) x y false

  carry_is : known flags.c ≡ Some (nat_lt x y)
  carry_is = known_if (borrows (bits_of size) x y false) ∙ ap (λ b. Some b) (borrow_is (bits_of size) x y h k)

  most_is : both either (known flags.c) (known flags.z) ≡ Some (nat_lt x (y + 1))
  most_is =
      either_if (borrows (bits_of size) x y false) (low_part (bits_of size) (difference_of (bits_of size) x y false) == 0)
      ∙ ap (λ b. Some (b || (low_part (bits_of size) (difference_of (bits_of size) x y false) == 0))) (borrow_is (bits_of size) x y h k)
      ∙ ap (λ b. Some (nat_lt x y || b)) (zero_is size x y h k)
      ∙ ap (λ b. Some b) (at_most x y)

  -- which way a branch goes, and to which of its two addresses
  pub record Turns (c target next default path n : ℕ) : Type 0 where
    -- no flag that the condition reads is undefined
    pub calm : some_undefined (condition_flags c flags) ≡ false
    pub truth : condition_of c flags ≡ Some (if is_above c then not (nat_lt x n) else nat_lt x n)
    pub above : is_above c ≡ true → (target ≡ default) × (next ≡ path)
    pub below : is_above c ≡ false → (next ≡ default) × (target ≡ path)

  first_of : (o : Option Split) → Split
  first_of o = unwrap_or o (split 0 0 0)

  same_split : (a b c d e f : ℕ) → Some (split a b c) ≡ Some (split d e f) → (a ≡ d) × (b ≡ e) × (c ≡ f)
  same_split a b c d e f h = (ap (λ o. (unwrap_or o (split 0 0 0)).default) h, ap (λ o. (unwrap_or o (split 0 0 0)).path) h, ap (λ o. (unwrap_or o (split 0 0 0)).count) h)

  turns_by : (b7 b3 b6 b2 : Bool) (c target next default path n : ℕ) → b7 ≡ nat_eq c 7 → b3 ≡ nat_eq c 3 → b6 ≡ nat_eq c 6 → b2 ≡ nat_eq c 2
      → (if b7 then Some (split target next (y + 1)) else (if b3 then Some (split target next y) else (if b6 then Some (split next target (y + 1)) else (if b2 then Some (split next target y) else None))))
      ≡ Some (split default path n) → Turns c target next default path n
  turns_by true b3 b6 b2 c target next default path n p q r s e =
      let t = same_split target next (y + 1) default path n e in
      let is : c ≡ 7 = eqb-true c 7 (sym p) in
      subst (λ c. Turns c target next default path n) (sym is) (record {
        calm = two_defined (borrows (bits_of size) x y false) (low_part (bits_of size) (difference_of (bits_of size) x y false) == 0);
        truth = ap opposite most_is ∙ ap (λ m. Some (not (nat_lt x m))) t.2;
        above = λ a. (t.0, t.1);
        below = λ a. absurd (let z : ⊥ = cc in z);
      })
  turns_by false true b6 b2 c target next default path n p q r s e =
      let t = same_split target next y default path n e in
      let is : c ≡ 3 = eqb-true c 3 (sym q) in
      subst (λ c. Turns c target next default path n) (sym is) (record {
        calm = one_defined (borrows (bits_of size) x y false);
        truth = ap opposite carry_is ∙ ap (λ m. Some (not (nat_lt x m))) t.2;
        above = λ a. (t.0, t.1);
        below = λ a. absurd (let z : ⊥ = cc in z);
      })
  turns_by false false true b2 c target next default path n p q r s e =
      let t = same_split next target (y + 1) default path n e in
      let is : c ≡ 6 = eqb-true c 6 (sym r) in
      subst (λ c. Turns c target next default path n) (sym is) (record {
        calm = two_defined (borrows (bits_of size) x y false) (low_part (bits_of size) (difference_of (bits_of size) x y false) == 0);
        truth = most_is ∙ ap (λ m. Some (nat_lt x m)) t.2;
        above = λ a. absurd (let z : ⊥ = cc in z);
        below = λ a. (t.0, t.1);
      })
  turns_by false false false true c target next default path n p q r s e =
      let t = same_split next target y default path n e in
      let is : c ≡ 2 = eqb-true c 2 (sym s) in
      subst (λ c. Turns c target next default path n) (sym is) (record {
        calm = one_defined (borrows (bits_of size) x y false);
        truth = carry_is ∙ ap (λ m. Some (nat_lt x m)) t.2;
        above = λ a. absurd (let z : ⊥ = cc in z);
        below = λ a. (t.0, t.1);
      })
  turns_by false false false false c target next default path n p q r s e = absurd (let z : ⊥ = cc in z)

  pub turns : (c target next default path n : ℕ) → split_of c y target next ≡ Some (split default path n) → Turns c target next default path n
  turns c target next default path n e = turns_by (nat_eq c 7) (nat_eq c 3) (nat_eq c 6) (nat_eq c 2) c target next default path n refl refl refl refl e

  -- where the branch leads
  pub taken : (c target next default path n : ℕ) → Turns c target next default path n
      → (if (if is_above c then not (nat_lt x n) else nat_lt x n) then target else next) ≡ (if nat_lt x n then path else default)
  taken c target next default path n t = taken_by (is_above c) (nat_lt x n) target next default path t.above t.below
    where
      taken_by : (a b : Bool) (target next default path : ℕ) → (a ≡ true → (target ≡ default) × (next ≡ path)) → (a ≡ false → (next ≡ default) × (target ≡ path))
          → (if (if a then not b else b) then target else next) ≡ (if b then path else default)
      taken_by true true target next default path p q = (p refl).1
      taken_by true false target next default path p q = (p refl).0
      taken_by false true target next default path p q = (q refl).1
      taken_by false false target next default path p q = (q refl).0

-- ---- the two steps

module _ (m : List Segment) (r : Range) (decoded : ℕ → Option (Inst × ℕ)) (decodes : Decodes m r decoded) (start : Start) where
  -- CMP sets the flags of a difference, unless its read is refused
  pub compare_step : (a size_of : ℕ) (size : Size) (x : Operand) (k : ℕ) (s : State) → BeginsAt m r a (i.Alu Cmp size x (o.Imm k)) size_of → is_place x ≡ true
      → step_at (scene m r decoded decodes start) a s
      ≡ allowed (refused_read (i.Alu Cmp size x (o.Imm k)) s) s (At (next_of a size_of) (with_regs s s.regs (difference_flags (bits_of size) (value_in size x s) (low_part (bits_of size) k) false)))
  compare_step a size_of size (o.Reg n) k s b e = step_next m r decoded decodes start a (i.Alu Cmp size (o.Reg n) (o.Imm k)) size_of s b refl refl refl
  compare_step a size_of size (o.Mem n) k s b e = step_next m r decoded decodes start a (i.Alu Cmp size (o.Mem n) (o.Imm k)) size_of s b refl refl refl
  compare_step a size_of size (o.Imm n) k s b e = absurd (let z : ⊥ = cc in z)

  -- Jcc goes to its target or on, as its condition is known
  branch_effect : (c : Cond) (distance next : ℕ) (s : State) (p : Bool) → condition_of c.0 s.flags ≡ Some p
      → let a = step_of (i.Jcc c distance) next s in effect_in (i.Jcc c distance) next s ≡ (if p then goes (go.To ((next + distance) % 2 ^ 32)) a else done a s.flags)
  branch_effect c distance next s p h =
      let a = step_of (i.Jcc c distance) next s in
      ap (λ o. reading o a (λ b. if b then goes (go.To (target_at distance a)) a else done a a.flags)) h

  pub branch_step : (a n : ℕ) (c : Cond) (distance : ℕ) (s : State) (p : Bool) → BeginsAt m r a (i.Jcc c distance) n → condition_of c.0 s.flags ≡ Some p → some_undefined (condition_flags c.0 s.flags) ≡ false
      → step_at (scene m r decoded decodes start) a s ≡ At (if p then (next_of a n + distance) % 2 ^ 32 else next_of a n) s
  branch_step a n c distance s true b h u =
      let e = branch_effect c distance (next_of a n) s true h in
      step_to m r decoded decodes start a (i.Jcc c distance) n ((next_of a n + distance) % 2 ^ 32) s b (ap (λ f. f.store) e) (ap (λ f. f.go) e) u
      ∙ ap (λ (f : Effect). At ((next_of a n + distance) % 2 ^ 32) (with_regs s f.regs f.flags)) e
  branch_step a n c distance s false b h u =
      let e = branch_effect c distance (next_of a n) s false h in
      step_next m r decoded decodes start a (i.Jcc c distance) n s b (ap (λ f. f.store) e) (ap (λ f. f.go) e) u
      ∙ ap (λ (f : Effect). At (next_of a n) (with_regs s f.regs f.flags)) e
