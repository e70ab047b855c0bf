-- The blocks of moves have their effects.
use Rattle.std.proofs.Common.{◌≡◌, ℕ, ◌+◌, ◌-◌, ◌*◌, ◌%◌, ◌^◌, ◌<◌, ◌&&◌, Bool, true, false, [], ◌++◌, Option, Some, None, refl, sym, ap, ◌∙◌, subst, arith}
use Rattle.std.specs.Prelude.{if◌then◌else◌}
use Rattle.std.proofs.Math.Nat.{mod-eq_of_lt}
use Rattle.std.proofs.lemmas.Nat.{mod_below}
use Rattle.dream_words.specs.declared.machine.Name.TheVariants as name
use Rattle.dream_words.specs.Words.{bit_of, low_part, sign_bit, sign_extended}
use Rattle.dream_words.specs.Registers.{reg_of}
use Rattle.run_parts.specs.World.{Names, World, with_name}
use Rattle.x86_inst.specs.declared.Inst.TheVariants as i
use Rattle.x86_inst.specs.declared.Cond.{Cond}
use Rattle.x86_inst.specs.declared.Size.{Size}
use Rattle.x86_inst.specs.declared.Size.TheVariants.{B, H, W}
use Rattle.x86_inst.specs.declared.Seg.{Seg}
use Rattle.x86_inst.specs.declared.Seg.TheVariants as seg
use Rattle.x86_inst.specs.declared.Mem.{Mem}
use Rattle.x86_inst.specs.declared.Operand.{Operand}
use Rattle.x86_inst.specs.declared.Operand.TheVariants as o
use Rattle.x86_model.specs.declared.effect.Effect.{Effect}
use Rattle.x86_model.specs.declared.effect.Go.TheVariants as go
use Rattle.x86_model.specs.declared.effect.Step.{Step}
use Rattle.x86_model.specs.declared.effect.Stored.{Stored}
use Rattle.x86_model.specs.Effects.{condition_of, done, put}
use Rattle.x86_model.specs.Operands.{address_of, base_of, bits_of, part_of, reg_or_zero, value_of, with_part}
use Rattle.x86_model.specs.Successors.{is_memory}
use Rattle.x86_model.specs.Leads.{after, refused_word, stored}
use Rattle.x86_formed.specs.Formed.{are_formed, is_formed_mem}
use Rattle.x86_model.specs.Rows.{half_of, swapped, xchg_row}
use Rattle.c_syntax.specs.declared.syntax.CFn2.TheVariants.{Sar}
use Rattle.c_syntax.specs.Value.{truth_of, word_of}
use Rattle.c_words.specs.Built.{num, pick, word_if, word_not}
use Rattle.lift_parts.specs.Parts.{address_word, pair_reads, raw_word, reads, reg, temp, value_word, writes}
use Rattle.lift_parts.specs.Shown.{AreNames, RunsTo, Shows, ShowsRead}
use Rattle.lift_parts.specs.Stands.{FlagsStand, Stands, state_in}
use Rattle.lift_alu.specs.Words.{cond_words}
use Rattle.lift_alu.proofs.Truths.{cond_truth}
use Rattle.lift.specs.Blocks.{cmov_stmts, exchanges, lea_stmts, mov_stmts, movx_stmts, not_stmts, set_stmts, spread_word, swapped_word, widen_word, xchg_stmts}
use Rattle.lift_blocks.specs.Extended.{extended}
use Rattle.lift_blocks.specs.Effects.{GoesOn, LeadsOn}
use Rattle.lift_parts.proofs.Chains.{faults_append, none_run, runs_allowed, set_runs_to, then_runs}
use Rattle.lift_parts.proofs.Kept.{AfterRead, flags_stay, pair_reads_run, reads_run}
use Rattle.lift_blocks.proofs.Common.{KeepsRest, by_step, leads_next, local_kept, put_flags, put_go, puts_after_read, puts_at_once, read_keeps, reads_flags, written_stands}
use Rattle.lift_parts.proofs.Writes.{part_again, names_set, part_runs, shows_temp, write_after, writes_run}
use Rattle.lift_blocks.proofs.MoveWords.{extended_again, extended_below, extended_value, fn2_value, same_low, low_not, low_ones, name_value, not_value, num_value, ones_below, pick_value, sign_again, spread_is, word_if_value}
use Rattle.lift.proofs.SwappedWords.{swapped_below, swapped_value}
use Rattle.lift_parts.proofs.Values.{address_is, raw_is, reg_is, value_is, value_is_word}

-- NOP
pub nop_goes : (next : ℕ) → GoesOn i.Nop next []
nop_goes next = by_step i.Nop next [] (λ a. refl) (λ a w b. leads_next None (done a a.flags) (state_in w a.flags) [] w w refl (runs_allowed (none_run w)) (record {
  regs = sym b.shows.regs;
  flags = b.flags;
  fs = refl;
  gs = refl;
  mem = refl;
  pages = refl;
  left = refl;
  calls = refl;
}))

-- MOV
pub mov_goes : (size : Size) (d s : Operand) (next : ℕ) → GoesOn (i.Mov size d s) next (mov_stmts size d s)
mov_goes size d s next = by_step (i.Mov size d s) next (mov_stmts size d s) (λ a. refl) (λ a w b.
    let (u, runs, after, shown) = reads_run size s a w b.names b.bytes b.shows b.first in
    let (x, is, fits, low) = raw_is a u.names after.names after.shows size s shown in
    puts_after_read _ size d (raw_word size s) x (value_of size s a) a (reads size s) w u b.flags runs after is fits (same_low size x (value_of size s a) low))

-- without a segment the bases add nothing
base_zero : (s : Seg) → base_of s 0 0 ≡ 0
base_zero seg.None = refl
base_zero seg.Fs = refl
base_zero seg.Gs = refl

-- the address that LEA gives
offset_is : (m : Mem) (a : Step) → address_of (record m { seg = seg.None }) a.regs a.fs a.gs ≡ address_of m a.regs 0 0
offset_is m a = ap (λ k. (reg_or_zero m.base a.regs + reg_or_zero m.index a.regs * m.scale + m.disp + k) % 2 ^ 32) (sym (base_zero m.seg))

-- LEA
pub lea_goes : (size : Size) (d : ℕ) (m : Mem) (next : ℕ) → GoesOn (i.Lea size d m) next (lea_stmts size d m)
lea_goes size d m next = by_step (i.Lea size d m) next (lea_stmts size d m) (λ a. refl) (λ a w b.
    let x = address_is a w.names b.names b.shows (record m { seg = seg.None }) ∙ ap Some (offset_is m a) in
    puts_at_once size (o.Reg d) (address_word (record m { seg = seg.None })) (address_of m a.regs 0 0) (address_of m a.regs 0 0) a w b.flags b.names b.shows x
    (mod_below _ (2 ^ 32) (omega arith)) refl)

-- NOT
pub not_goes : (size : Size) (d : Operand) (next : ℕ) → GoesOn (i.Not size d) next (not_stmts size d)
not_goes size d next = by_step (i.Not size d) next (not_stmts size d) (λ a. refl) (λ a w b.
    let (u, runs, after, shown) = reads_run size d a w b.names b.bytes b.shows b.first in
    let (x, is, fits, low) = raw_is a u.names after.names after.shows size d shown in
    puts_after_read _ size d (word_not (raw_word size d)) (2 ^ 32 - 1 - x) (2 ^ bits_of size - 1 - value_of size d a) a (reads size d) w u b.flags runs after
    (not_value u.names (raw_word size d) x is) (omega arith) (low_not size x (value_of size d a) fits low))

-- MOVSX and MOVZX
pub movx_goes : (signed : Bool) (from to : Size) (d : ℕ) (s : Operand) (next : ℕ) → GoesOn (i.Movx signed from to d s) next (movx_stmts signed from to d s)
movx_goes true from to d s next = by_step (i.Movx true from to d s) next (movx_stmts true from to d s) (λ a. refl) (λ a w b.
    let (u, runs, after, shown) = reads_run from s a w b.names b.bytes b.shows b.first in
    let (x, is, fits, low) = raw_is a u.names after.names after.shows from s shown in
    puts_after_read _ to (o.Reg d) (extended from (raw_word from s)) (sign_extended (bits_of from) x) (sign_extended (bits_of from) (value_of from s a)) a (reads from s) w u b.flags runs
    after (extended_value u.names from (raw_word from s) x is fits) (extended_below from x) (ap (low_part (bits_of to)) (extended_again from x (value_of from s a) low)))
movx_goes false from to d s next = by_step (i.Movx false from to d s) next (movx_stmts false from to d s) (λ a. refl) (λ a w b.
    let (u, runs, after, shown) = reads_run from s a w b.names b.bytes b.shows b.first in
    puts_after_read _ to (o.Reg d) (value_word from s) (value_of from s a) (value_of from s a) a (reads from s) w u b.flags runs after
    (value_is a u.names after.names after.shows from s shown) (value_is_word a u.names after.names after.shows from s) refl)

-- the accumulator's low part
accumulator : (size : Size) (a : Step) (v : Names) → AreNames v → Shows a v → low_part (bits_of size) (v (name.Reg 0)) ≡ part_of size a.regs 0
accumulator B a v h s = ap (λ r. part_of B r 0) s.regs
accumulator H a v h s = ap (λ r. part_of H r 0) s.regs
accumulator W a v h s = mod-eq_of_lt (h.words (name.Reg 0)) ∙ ap (λ r. part_of W r 0) s.regs

-- the accumulator's half, extended by its sign
widen_is : (size : Size) → widen_word size ≡ extended (half_of size) (reg 0)
widen_is B = refl
widen_is H = refl
widen_is W = refl

-- CBW and CWDE
pub widen_goes : (size : Size) (next : ℕ) → GoesOn (i.Widen size) next (writes size (o.Reg 0) (widen_word size))
widen_goes size next = by_step (i.Widen size) next (writes size (o.Reg 0) (widen_word size)) (λ a. refl) (λ a w b.
    let e = extended_value w.names (half_of size) (reg 0) (w.names (name.Reg 0)) (name_value w.names (name.Reg 0)) (b.names.words (name.Reg 0)) in
    puts_at_once size (o.Reg 0) (widen_word size) (sign_extended (bits_of (half_of size)) (w.names (name.Reg 0))) (sign_extended (bits_of (half_of size)) (part_of (half_of size) a.regs 0))
    a w b.flags b.names b.shows (ap (λ x. word_of x w.names) (widen_is size) ∙ e) (extended_below (half_of size) (w.names (name.Reg 0)))
    (ap (low_part (bits_of size)) (extended_again (half_of size) (w.names (name.Reg 0)) (part_of (half_of size) a.regs 0) (accumulator (half_of size) a w.names b.names b.shows))))

-- CWD and CDQ
pub spread_goes : (size : Size) (next : ℕ) → GoesOn (i.Spread size) next (writes size (o.Reg 2) (spread_word size))
spread_goes size next = by_step (i.Spread size) next (writes size (o.Reg 2) (spread_word size)) (λ a. refl) (λ a w b.
    let e = extended_value w.names size (reg 0) (w.names (name.Reg 0)) (name_value w.names (name.Reg 0)) (b.names.words (name.Reg 0)) in
    let f = fn2_value w.names Sar (extended size (reg 0)) (num 31) (sign_extended (bits_of size) (w.names (name.Reg 0))) 31 e (num_value w.names 31) in
    puts_at_once size (o.Reg 2) (spread_word size) (if sign_bit (bits_of size) (w.names (name.Reg 0)) then 2 ^ 32 - 1 else 0)
    (if sign_bit (bits_of size) (part_of size a.regs 0) then 2 ^ bits_of size - 1 else 0) a w b.flags b.names b.shows (f ∙ ap Some (spread_is size (w.names (name.Reg 0))))
    (ones_below (sign_bit (bits_of size) (w.names (name.Reg 0))))
    (low_ones size (sign_bit (bits_of size) (w.names (name.Reg 0)))
    ∙ ap (λ s. low_part (bits_of size) (if s then 2 ^ bits_of size - 1 else 0)) (sign_again size (w.names (name.Reg 0)) (part_of size a.regs 0) (accumulator size a w.names b.names b.shows))))

-- BSWAP
pub bswap_goes : (n next : ℕ) → GoesOn (i.Bswap n) next (writes W (o.Reg n) (swapped_word (reg n)))
bswap_goes n next = by_step (i.Bswap n) next (writes W (o.Reg n) (swapped_word (reg n))) (λ a. refl) (λ a w b.
    let e : w.names (name.Reg n) ≡ reg_of a.regs n = reg_is w.names b.names n ∙ ap (λ r. reg_of r n) b.shows.regs in
    puts_at_once W (o.Reg n) (swapped_word (reg n)) (swapped (w.names (name.Reg n))) (swapped (reg_of a.regs n)) a w b.flags b.names b.shows
    (swapped_value w.names (reg n) (w.names (name.Reg n)) (name_value w.names (name.Reg n)) (b.names.words (name.Reg n))) (swapped_below (w.names (name.Reg n)))
    (ap (λ x. low_part 32 (swapped x)) e))

-- a truth as a word
bit_below : (p : Bool) → bit_of p < 2 ^ 32
bit_below true = omega arith
bit_below false = omega arith

-- SETcc
pub set_goes : (c : Cond) (d : Operand) (next : ℕ) → GoesOn (i.Set c d) next (set_stmts c.0 d)
set_goes c d next = by_step (i.Set c d) next (set_stmts c.0 d) (λ a. refl) (λ a w b.
    let (p, truth, known) = (cond_truth c.0).truth w.names a.flags b.flags in
    reads_flags None (condition_of c.0 a.flags) p a (λ p. put B d (bit_of p) a (done a a.flags)) (state_in w a.flags) (set_stmts c.0 d) w known tt
    (puts_at_once B d (word_if (cond_words c.0)) (bit_of p) (bit_of p) a w b.flags b.names b.shows (word_if_value w.names (cond_words c.0) p truth) (bit_below p) refl))

-- what CMOVcc does by its condition
abbrev moved_if : Bool → Size → ℕ → Operand → Step → Effect
moved_if p size d s a = if p then put size (o.Reg d) (value_of size s a) a (done a a.flags) else done a a.flags

-- a register that is put its own value stays
put_again : (size : Size) (d : ℕ) (a : Step) (v : Names) → AreNames v → Shows a v → put size (o.Reg d) (value_of size (o.Reg d) a) a (done a a.flags) ≡ done a a.flags
put_again size d a v h s =
    ap (λ r. record { regs = r; flags = a.flags; store = None; go = go.Next })
    (subst (λ r. with_part size r d (part_of size r d) ≡ r) s.regs (part_again size v h d))

-- by the truth of the condition, the second operand or the register's own value is put
moves_if : (bad : Option ℕ) (c : Cond) (size : Size) (d : ℕ) (s : Operand) (a : Step) (w u : World) → FlagsStand a.flags w.names → RunsTo bad (reads size s) w u → AfterRead a w u → ShowsRead size s a u.names
    → (p : Bool) → truth_of (cond_words c.0) u.names ≡ Some p
    → LeadsOn bad (moved_if p size d s a).go (moved_if p size d s a) (state_in w a.flags) (cmov_stmts c.0 size d s) w
moves_if bad c size d s a w u h r k read true t =
    let (x, xis, xl, xv) = raw_is a u.names k.names k.shows size s read in
    let (y, yis, yl, yv) = raw_is a u.names k.names k.shows size (o.Reg d) (record { read = λ e. absurd cc }) in
    puts_after_read _ size (o.Reg d) (pick (cond_words c.0) (raw_word size s) (raw_word size (o.Reg d))) x (value_of size s a) a (reads size s) w u h r k
    (pick_value u.names (cond_words c.0) (raw_word size s) (raw_word size (o.Reg d)) x y true t xis yis) xl (same_low size x (value_of size s a) xv)
moves_if bad c size d s a w u h r k read false t =
    let (x, xis, xl, xv) = raw_is a u.names k.names k.shows size s read in
    let (y, yis, yl, yv) = raw_is a u.names k.names k.shows size (o.Reg d) (record { read = λ e. absurd cc }) in
    subst (λ e. LeadsOn bad e.go e (state_in w a.flags) (cmov_stmts c.0 size d s) w) (put_again size d a u.names k.names k.shows)
    (puts_after_read _ size (o.Reg d) (pick (cond_words c.0) (raw_word size s) (raw_word size (o.Reg d))) y (value_of size (o.Reg d) a) a (reads size s) w u h r k
    (pick_value u.names (cond_words c.0) (raw_word size s) (raw_word size (o.Reg d)) x y false t xis yis) yl (same_low size y (value_of size (o.Reg d) a) yv))

-- CMOVcc
pub cmov_goes : (c : Cond) (size : Size) (d : ℕ) (s : Operand) (next : ℕ) → GoesOn (i.Cmov c size d s) next (cmov_stmts c.0 size d s)
cmov_goes c size d s next = by_step (i.Cmov c size d s) next (cmov_stmts c.0 size d s) (λ a. refl) (λ a w b.
    let (u, runs, after, shown) = reads_run size s a w b.names b.bytes b.shows b.first in
    let (p, truth, known) = (cond_truth c.0).truth u.names a.flags (flags_stay a.flags w.names u.names after.flags b.flags) in
    reads_flags _ (condition_of c.0 a.flags) p a (λ p. moved_if p size d s a) (state_in w a.flags) (cmov_stmts c.0 size d s) w known (faults_append _ (reads size s) _ runs)
    (moves_if _ c size d s a w u b.flags runs after shown p truth))

-- Two operands are written, one after the other, with words that were kept. The second is no memory, so that what the first
-- write changes is not read again.
exchanged : (size : Size) (p q : Operand) (i j x y : ℕ) (a : Step) (w u : World) → is_memory q ≡ false → FlagsStand a.flags w.names → KeepsRest w u
    → AreNames u.names → Shows a u.names → low_part (bits_of size) (u.names (name.T i)) ≡ low_part (bits_of size) x → low_part (bits_of size) (u.names (name.T j)) ≡ low_part (bits_of size) y
    → (t : World) × RunsTo (refused_word u.pages.write (put size p x a (done a a.flags)).store) (writes size p (temp i) ++ writes size q (temp j)) u t × Stands (after (put size q y a (put size p x a (done a a.flags))) (state_in w a.flags)) t
exchanged size p (o.Mem m) i j x y a w u q h k names shows e f = absurd cc
exchanged size p (o.Imm n) i j x y a w u q h k names shows e f =
    let (t, runs, written) = writes_run size p (temp i) (u.names (name.T i)) x a (done a a.flags) u names shows shows.regs refl (name_value u.names (name.T i)) (names.words (name.T i)) e in
    (t, then_runs (refused_word u.pages.write (put size p x a (done a a.flags)).store) (writes size p (temp i)) [] runs (none_run t), written_stands size p x a a.flags (done a a.flags) w u t refl h k written)
exchanged size p (o.Reg n) i j x y a w u q h k names shows e f =
    let (t, runs, written) = writes_run size p (temp i) (u.names (name.T i)) x a (done a a.flags) u names shows shows.regs refl (name_value u.names (name.T i)) (names.words (name.T i)) e in
    let (z, more, sets) = part_runs size n (temp j) (u.names (name.T j)) y t written.names (name_value t.names (name.T j) ∙ ap Some (written.temps j)) (names.words (name.T j)) f in (
      z,
      then_runs (refused_word u.pages.write (put size p x a (done a a.flags)).store) (writes size p (temp i)) (writes size (o.Reg n) (temp j)) runs more,
      record {
        regs = sym (sets.regs ∙ ap (λ r. with_part size r n y) written.regs);
        flags = subst (λ f. FlagsStand f z.names) (sym (put_flags size p x a (done a a.flags)))
            (flags_stay a.flags w.names z.names (λ n. sets.flags n ∙ written.flags n ∙ k.flags n) h);
        fs = sym (sets.fs ∙ written.fs ∙ k.fs);
        gs = sym (sets.gs ∙ written.gs ∙ k.gs);
        mem = sym (sets.mem ∙ written.mem ∙ ap (λ m. stored m (put size p x a (done a a.flags)).store) k.mem);
        pages = sym (sets.pages ∙ written.pages ∙ k.pages);
        left = sym (sets.left ∙ written.left ∙ k.left);
        calls = sym (sets.calls ∙ written.calls ∙ k.calls);
      },
    )

-- x is the first operand's value, and y the second's
exchanges_lead : (size : Size) (d s : Operand) (x y : ℕ) (a : Step) (w u : World) → (is_memory d ≡ true → is_memory s ≡ false) → FlagsStand a.flags w.names → KeepsRest w u
    → AreNames u.names → Shows a u.names → low_part (bits_of size) (u.names (name.T 2)) ≡ low_part (bits_of size) x → low_part (bits_of size) (u.names (name.T 3)) ≡ low_part (bits_of size) y
    → (t : World) × RunsTo (refused_word u.pages.write (put size d y a (put size s x a (done a a.flags))).store) (exchanges size d s) u t × Stands (after (put size d y a (put size s x a (done a a.flags))) (state_in w a.flags)) t
exchanges_lead size (o.Reg n) s x y a w u q h k names shows e f = exchanged size s (o.Reg n) 2 3 x y a w u refl h k names shows e f
exchanges_lead size (o.Imm n) s x y a w u q h k names shows e f = exchanged size s (o.Imm n) 2 3 x y a w u refl h k names shows e f
exchanges_lead size (o.Mem m) (o.Reg n) x y a w u q h k names shows e f = exchanged size (o.Mem m) (o.Reg n) 3 2 y x a w u refl h k names shows f e
exchanges_lead size (o.Mem m) (o.Imm n) x y a w u q h k names shows e f = exchanged size (o.Mem m) (o.Imm n) 3 2 y x a w u refl h k names shows f e
exchanges_lead size (o.Mem m) (o.Mem n) x y a w u q h k names shows e f = let never : true ≡ false = q refl in absurd cc

-- the names after both words were kept
abbrev both_kept : Names → ℕ → ℕ → Names
both_kept v x y = with_name (with_name v (name.T 2) x) (name.T 3) y

-- both words are kept, and then written
exchanges_on : (bad : Option ℕ) (size : Size) (d s : Operand) (x y : ℕ) (a : Step) (w u : World) → (is_memory d ≡ true → is_memory s ≡ false) → FlagsStand a.flags w.names
    → RunsTo bad (pair_reads size d s) w u → AfterRead a w u
    → word_of (raw_word size d) u.names ≡ Some x → x < 2 ^ 32 → low_part (bits_of size) x ≡ value_of size d a
    → word_of (raw_word size s) (with_name u.names (name.T 2) x) ≡ Some y → y < 2 ^ 32 → low_part (bits_of size) y ≡ value_of size s a
    → LeadsOn bad (xchg_row size d s a).go (xchg_row size d s a) (state_in w a.flags) (xchg_stmts size d s) w
exchanges_on bad size d s x y a w u q h r k dx dl dv sx sl sv =
    let v : Names = with_name u.names (name.T 2) x in
    let (t, runs, stands) = exchanges_lead size d s (value_of size d a) (value_of size s a) a w (record u { names = both_kept u.names x y }) q h
    (local_kept w (record u { names = v }) 3 y (local_kept w u 2 x (read_keeps a w u k))) (names_set v (name.T 3) y (names_set u.names (name.T 2) x k.names dl) sl)
    (shows_temp a v 3 y (shows_temp a u.names 2 x k.shows)) (same_low size x (value_of size d a) dv) (same_low size y (value_of size s a) sv) in
    let store : Option Stored = (xchg_row size d s a).store in
    leads_next bad (xchg_row size d s a) (state_in w a.flags) (xchg_stmts size d s) w t
    (put_go size d (value_of size s a) a (put size s (value_of size d a) a (done a a.flags)) ∙ put_go size s (value_of size d a) a (done a a.flags))
    (write_after bad store (pair_reads size d s) _ k.mem k.pages k.calls r (set_runs_to _ (name.T 2) (raw_word size d) x dx (set_runs_to _ (name.T 3) (raw_word size s) y sx runs))) stands

-- of two operands that are formed at most one is memory
never_both : (b c : Bool) → (b && (c && false)) ≡ true → ⊥
never_both true true h = cc
never_both true false h = cc
never_both false c h = cc

one_memory : (d s : Operand) → are_formed d s ≡ true → is_memory d ≡ true → is_memory s ≡ false
one_memory (o.Reg n) s f e = absurd cc
one_memory (o.Imm n) s f e = absurd cc
one_memory (o.Mem m) (o.Reg n) f e = refl
one_memory (o.Mem m) (o.Imm n) f e = refl
one_memory (o.Mem m) (o.Mem n) f e = absurd (never_both (is_formed_mem m) (is_formed_mem n) f)

-- XCHG
pub xchg_goes : (size : Size) (d s : Operand) (next : ℕ) → are_formed d s ≡ true → GoesOn (i.Xchg size d s) next (xchg_stmts size d s)
xchg_goes size d s next f = by_step (i.Xchg size d s) next (xchg_stmts size d s) (λ a. refl) (λ a w b.
    let (u, runs, after, first, second) = pair_reads_run size d s a w b.names b.bytes b.shows b.first in
    let (x, xis, xl, xv) = raw_is a u.names after.names after.shows size d first in
    let (y, yis, yl, yv) = raw_is a (with_name u.names (name.T 2) x) (names_set u.names (name.T 2) x after.names xl) (shows_temp a u.names 2 x after.shows) size s
    (record { read = second.read }) in
    exchanges_on _ size d s x y a w u (one_memory d s f) b.flags runs after xis xl xv yis yl yv)
