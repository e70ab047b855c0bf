-- BT, BTS, BTR, BTC, BSF and BSR lead on as their steps do.
use Rattle.std.proofs.Common.{◌≡◌, ℕ, zero, suc, ◌+◌, ◌/◌, ◌%◌, ◌^◌, ◌<◌, ◌≤◌, ◌==◌, ◌&&◌, nat_eq, nat_le, nat_lt, Bool, true, false, List, ◌++◌, Option, Some, None, refl, sym, ap, subst, arith, lit<}
use Rattle.std.specs.Prelude.{if◌then◌else◌}
use Rattle.std.proofs.lemmas.List.{append_assoc}
use Rattle.std.proofs.lemmas.Nat.{mod_below}
use Rattle.dream_words.specs.declared.machine.Flags.{Flags}
use Rattle.dream_words.specs.declared.machine.Name.TheVariants as name
use Rattle.dream_words.specs.Words.{low_part, lowest_one, highest_one}
use Rattle.run_parts.specs.Effects.{set_word}
use Rattle.run_parts.specs.World.{Names, World, with_name}
use Rattle.x86_inst.specs.declared.BitOp.{BitOp}
use Rattle.x86_inst.specs.declared.BitOp.TheVariants.{Bt, Bts, Btr, Btc}
use Rattle.x86_inst.specs.declared.Inst.TheVariants as i
use Rattle.x86_inst.specs.declared.Size.{Size}
use Rattle.x86_inst.specs.declared.Operand.{Operand}
use Rattle.x86_inst.specs.declared.Operand.TheVariants as o
use Rattle.x86_model.specs.declared.effect.Effect.{Effect}
use Rattle.x86_model.specs.declared.effect.Step.{Step}
use Rattle.x86_model.specs.Effects.{done, put, stray}
use Rattle.x86_model.specs.Leads.{after, first_of, refused, refused_store, refused_word}
use Rattle.x86_model.specs.Operands.{bits_of, value_of}
use Rattle.x86_model.specs.Reads.{operand_read, pair_read}
use Rattle.x86_model.specs.Successors.{writes_bit}
use Rattle.x86_model.specs.WideRows.{bit_flags, bit_value, bit_written, place_of, scan_flags}
use Rattle.c_syntax.specs.declared.syntax.CExpr.{CExpr}
use Rattle.c_syntax.specs.Value.{word_of}
use Rattle.c_words.specs.Built.{num}
use Rattle.c_words.proofs.Layers.{word_layer}
use Rattle.micro_ir.specs.declared.flow.Stmt.{Stmt}
use Rattle.lift_parts.specs.Parts.{pair_reads, reads, value_word, writes}
use Rattle.lift_parts.specs.Shown.{AreNames, Runs, RunsTo, Shows, ShowsRead}
use Rattle.lift_parts.specs.Stands.{FlagsStand, Stands, state_in}
use Rattle.lift_parts.proofs.Chains.{faults_append, first_of_none, none_run, runs_by, set_runs, then_runs}
use Rattle.lift_parts.proofs.Kept.{AfterRead, flags_stay, pair_reads_run, reads_run}
use Rattle.lift_parts.proofs.Values.{value_is}
use Rattle.lift_parts.proofs.Writes.{names_set, shows_flag, write_after, writes_run}
use Rattle.lift_blocks.specs.Effects.{GoesOn, LeadsOn}
use Rattle.lift_blocks.proofs.Common.{KeepsRest, by_step, leads_astray, leads_next, put_go, read_keeps, written_stands}
use Rattle.lift_blocks.proofs.MoveWords.{num_value}
use Rattle.lift_bits_strings.specs.BitForms.{bit_stmts, bit_word, keeps_bit, old_bit, place_word, scan_flag, scan_stmts}
use Rattle.lift_bits_strings.proofs.BitValues.{bit_is, bit_stands, old_is}

-- ---- a flag is set, and then an operand is written

-- where a flag was set before and after a read, all else is as before the read
keeps_set : (a : Step) (w u : World) (n x : ℕ) → AfterRead a w u → KeepsRest (set_word (name.Flag n) x w) (set_word (name.Flag n) x u)
keeps_set a w u n x r = record {
  flags = λ k. ap (λ y. if nat_eq k n && nat_lt n 5 then x else y) (r.flags k);
  fs = r.fs;
  gs = r.gs;
  mem = r.mem;
  pages = r.pages;
  left = r.left;
  calls = r.calls;
}

-- An operand is written after flags were set. The names v, which have these flags, are otherwise as before.
puts_with : (bad : Option ℕ) (size : Size) (d : Operand) (x : CExpr) (word value : ℕ) (a : Step) (f : Flags) (before : List Stmt) (w : World) (v : Names) (u : World)
    → FlagsStand f v → RunsTo bad before w u → KeepsRest (record w { names = v }) u → AreNames u.names → Shows a u.names
    → word_of x u.names ≡ Some word → word < 2 ^ 32 → low_part (bits_of size) word ≡ low_part (bits_of size) value
    → (t : World) × RunsTo (first_of bad (refused_word w.pages.write (put size d value a (done a f)).store)) (before ++ writes size d x) w t
    × Stands (after (put size d value a (done a f)) (state_in (record w { names = v }) f)) t
puts_with bad size d x word value a f before w v u h r k names shows e l q =
    let (t, runs, written) = writes_run size d x word value a (done a f) u names shows shows.regs refl e l q in (
      t,
      write_after bad (put size d value a (done a f)).store before (writes size d x) k.mem k.pages k.calls r runs,
      written_stands size d value a f (done a f) (record w { names = v }) u t refl h k written,
    )

-- ---- tests of bits

-- every test of a bit but BT writes its operand
written_is : (f : BitOp) (size : Size) (d : Operand) (v : ℕ) (a : Step) (e : Effect) → bit_written f size d v a e ≡ (if writes_bit f then put size d v a e else e)
written_is Bt size d v a e = refl
written_is Bts size d v a e = refl
written_is Btr size d v a e = refl
written_is Btc size d v a e = refl

module _ (bad : Option ℕ) (f : BitOp) (size : Size) (d s : Operand) (a : Step) (w u : World) (runs : RunsTo bad (pair_reads size d s) w u) (read : AfterRead a w u) (first : ShowsRead size d a u.names)
    (second : ShowsRead size s a u.names) (flags : FlagsStand a.flags w.names) where
  abbrev index : ℕ
  index = value_of size s a % bits_of size

  abbrev old : ℕ
  old = value_of size d a / 2 ^ index % 2

  -- the flags after the step
  abbrev new_flags : Flags
  new_flags = bit_flags (old == 1) a.flags

  -- the worlds with CF set, before the read and after it
  abbrev before : World
  before = set_word (name.Flag 0) old w

  abbrev kept : World
  kept = set_word (name.Flag 0) old u

  old_below : old < 2
  old_below = mod_below (value_of size d a / 2 ^ index) 2 (lit< tt)

  old_word : old < 2 ^ 32
  old_word = let l = old_below in omega arith

  -- CF is set
  set_runs_on : RunsTo bad (pair_reads size d s ++ keeps_bit size d s) w kept
  set_runs_on =
      then_runs bad (pair_reads size d s) (keeps_bit size d s) runs
      (set_runs (name.Flag 0) (old_bit size d s) old (old_is size d s a u.names read.names read.shows first second) (none_run kept))

  flags_before : FlagsStand new_flags before.names
  flags_before = record { c = bit_stands old old_below; p = tt; z = flags.z; s = tt; o = tt }

  flags_kept : FlagsStand new_flags kept.names
  flags_kept = flags_stay new_flags before.names kept.names (keeps_set a w u 0 old read).flags flags_before

  kept_names : AreNames kept.names
  kept_names = names_set u.names (name.Flag 0) old read.names old_word

  kept_shows : Shows a kept.names
  kept_shows = shows_flag a u.names 0 old read.shows

  -- the effect, by whether the operand is written
  abbrev effect : Bool → Effect
  effect b = if b then put size d (bit_value f (bits_of size) (value_of size d a) index) a (done a new_flags) else done a new_flags

  bit_leads : (b : Bool) → LeadsOn bad (effect b).go (effect b) (state_in w a.flags) (pair_reads size d s ++ (if b then keeps_bit size d s ++ writes size d (bit_word f size d s) else keeps_bit size d s)) w
  bit_leads false = (
    kept,
    runs_by bad (first_of bad None) (sym (first_of_none bad)) set_runs_on,
    record {
      regs = sym kept_shows.regs;
      flags = flags_kept;
      fs = sym read.fs;
      gs = sym read.gs;
      mem = sym read.mem;
      pages = sym read.pages;
      left = sym read.left;
      calls = sym read.calls;
    },
  )
  bit_leads true =
      let (x, is, fits, low) = bit_is size d s a kept.names kept_names kept_shows (record { read = first.read }) (record { read = second.read }) f in
      let value : ℕ = bit_value f (bits_of size) (value_of size d a) index in
      let (t, all, stands) = puts_with bad size d (bit_word f size d s) x value a new_flags (pair_reads size d s ++ keeps_bit size d s) w before.names kept
      flags_before set_runs_on (keeps_set a w u 0 old read) kept_names kept_shows is fits low in
      leads_next bad (effect true) (state_in w a.flags) (pair_reads size d s ++ (keeps_bit size d s ++ writes size d (bit_word f size d s))) w t (put_go size d value a (done a new_flags))
      (subst (λ xs. RunsTo (first_of bad (refused_store (effect true) (state_in w a.flags))) xs w t) (append_assoc (pair_reads size d s) (keeps_bit size d s) (writes size d (bit_word f size d s))) all) stands

-- BT, BTS, BTR and BTC
pub bit_goes : (f : BitOp) (size : Size) (d s : Operand) (next : ℕ) → GoesOn (i.Bit f size d s) next (bit_stmts f size d s)
bit_goes f size d s next = by_step (i.Bit f size d s) next (bit_stmts f size d s) (λ a. refl) (λ a w b.
    let (u, runs, read, first, second) = pair_reads_run size d s a w b.names b.bytes b.shows b.first in
    let bad : Option ℕ = refused w.pages.read (pair_read size d s a.regs a.fs a.gs) in
    subst (λ e. LeadsOn bad e.go e (state_in w a.flags) (bit_stmts f size d s) w) (sym (written_is f size d _ a _))
    (bit_leads bad f size d s a w u runs read first second b.flags (writes_bit f)))

-- ---- places of bits

-- a place is a word
lowest_le : (k v : ℕ) → lowest_one k v ≤ k
unfolding lowest_one
lowest_le zero v = omega arith
lowest_le (suc k) v = at (v % 2 == 1) (lowest_le k (v / 2))
  where
    at : (b : Bool) → lowest_one k (v / 2) ≤ k → (if b then 0 else lowest_one k (v / 2) + 1) ≤ suc k
    at true h = omega arith
    at false h = omega (arith, h)

highest_le : (k v : ℕ) → highest_one k v ≤ k
unfolding highest_one
highest_le zero v = omega arith
highest_le (suc k) v = at (nat_le (2 ^ k) v) (highest_le k v)
  where
    at : (b : Bool) → highest_one k v ≤ k → (if b then k else highest_one k v) ≤ suc k
    at true h = omega arith
    at false h = omega (arith, h)

place_below : (up : Bool) (x : ℕ) → place_of up x < 2 ^ 32
place_below true x = let l = lowest_le 31 x in omega (arith, l)
place_below false x = let l = highest_le 32 x in omega (arith, l)

place_is : (up : Bool) (e : CExpr) (v : Names) (x : ℕ) → word_of e v ≡ Some x → word_of (place_word up e) v ≡ Some (place_of up x)
place_is true e v x h = simp (word_layer, h)
place_is false e v x h = simp (word_layer, h)

-- the names with the flag of a scan
abbrev scanned_names : Bool → Names → Names
scanned_names true v = v
scanned_names false v = with_name v (name.Flag 2) 0

abbrev scanned : Bool → World → World
scanned tz w = record w { names = scanned_names tz w.names }

scan_runs : (tz : Bool) (u : World) → Runs (scan_flag tz) u (scanned tz u)
scan_runs true u = none_run u
scan_runs false u = set_runs (name.Flag 2) (num 0) 0 (num_value u.names 0) (none_run (scanned false u))

scan_flags_stand : (tz : Bool) (w : World) → FlagsStand (scan_flags tz) (scanned tz w).names
scan_flags_stand true w = record { c = tt; p = tt; z = tt; s = tt; o = tt }
scan_flags_stand false w = record { c = tt; p = tt; z = refl; s = tt; o = tt }

scan_keeps : (tz : Bool) (a : Step) (w u : World) → AfterRead a w u → KeepsRest (scanned tz w) (scanned tz u)
scan_keeps true a w u r = read_keeps a w u r
scan_keeps false a w u r = keeps_set a w u 2 0 r

scan_names : (tz : Bool) (u : World) → AreNames u.names → AreNames (scanned tz u).names
scan_names true u h = h
scan_names false u h = names_set u.names (name.Flag 2) 0 h (lit< tt)

scan_shows : (tz : Bool) (a : Step) (u : World) → Shows a u.names → Shows a (scanned tz u).names
scan_shows true a u h = h
scan_shows false a u h = shows_flag a u.names 2 0 h

scan_read : (tz : Bool) (size : Size) (s : Operand) (a : Step) (u : World) → ShowsRead size s a u.names → ShowsRead size s a (scanned tz u).names
scan_read true size s a u h = h
scan_read false size s a u h = record { read = h.read }

-- with or without the flag the state is otherwise the same
scan_stands : (tz : Bool) (e : Effect) (w t : World) (f g : Flags) → Stands (after e (state_in (scanned tz w) f)) t → Stands (after e (state_in w g)) t
scan_stands true e w t f g h = h
scan_stands false e w t f g h = h

module _ (up : Bool) (size : Size) (d : ℕ) (s : Operand) (tz : Bool) (a : Step) (bad : Option ℕ) (w u : World) (runs : RunsTo bad (reads size s) w u) (read : AfterRead a w u) (shown : ShowsRead size s a u.names) where
  abbrev place : ℕ
  place = place_of up (value_of size s a)

  -- the effect, by whether no bit is set
  abbrev found : Bool → Effect
  found none = if none then stray a else put size (o.Reg d) place a (done a (scan_flags tz))

  scan_leads : (none : Bool) → LeadsOn bad (found none).go (found none) (state_in w a.flags) (scan_stmts up size d s tz) w
  scan_leads true = leads_astray bad a (state_in w a.flags) (scan_stmts up size d s tz) w (faults_append bad (reads size s) _ runs)
  scan_leads false =
      let v : World = scanned tz u in
      let names = scan_names tz u read.names in
      let shows = scan_shows tz a u read.shows in
      let is = place_is up (value_word size s) v.names (value_of size s a) (value_is a v.names names shows size s (scan_read tz size s a u shown)) in
      let set = then_runs bad (reads size s) (scan_flag tz) runs (scan_runs tz u) in
      let (t, all, stands) = puts_with bad size (o.Reg d) (place_word up (value_word size s)) place place a (scan_flags tz) (reads size s ++ scan_flag tz) w (scanned tz w).names v
      (scan_flags_stand tz w) set (scan_keeps tz a w u read) names shows is (place_below up (value_of size s a)) refl in (
        t,
        subst (λ xs. RunsTo (first_of bad None) xs w t) (append_assoc (reads size s) (scan_flag tz) (writes size (o.Reg d) (place_word up (value_word size s)))) all,
        scan_stands tz (found false) w t (scan_flags tz) a.flags stands,
      )

-- BSF and BSR
pub scan_goes : (up : Bool) (size : Size) (d : ℕ) (s : Operand) (tz : Bool) (next : ℕ) → GoesOn (i.Scan up size d s tz) next (scan_stmts up size d s tz)
scan_goes up size d s tz next = by_step (i.Scan up size d s tz) next (scan_stmts up size d s tz) (λ a. refl) (λ a w b.
    let (u, runs, read, shown) = reads_run size s a w b.names b.bytes b.shows b.first in
    scan_leads up size d s tz a (refused w.pages.read (operand_read size s a.regs a.fs a.gs)) w u runs read shown (value_of size s a == 0))
