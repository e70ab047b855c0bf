-- What a round reads, stores and compares reaches the state after its effect, before ESI, EDI and ECX step.
use Rattle.std.proofs.Common.{◌≡◌, ℕ, ◌+◌, ◌%◌, ◌^◌, ◌<◌, false, List, [], ◌∷◌, Option, Some, None, refl, sym, ap, ◌∙◌, subst, arith}
use Rattle.std.proofs.Math.Nat.{mod-eq_of_lt}
use Rattle.dream_words.specs.declared.machine.Flags.{Flags}
use Rattle.dream_words.specs.declared.machine.Name.TheVariants as name
use Rattle.dream_words.specs.Memory.{bytes_of, load, store}
use Rattle.dream_words.specs.Pages.{first_bad}
use Rattle.dream_words.specs.Ranges.{AreBytes}
use Rattle.dream_words.specs.Words.{low_part}
use Rattle.run_parts.specs.Effects.{set_word}
use Rattle.run_parts.specs.World.{Names, World, regs_in}
use Rattle.x86_inst.specs.declared.Seg.{Seg}
use Rattle.x86_inst.specs.declared.Seg.TheVariants as seg
use Rattle.x86_inst.specs.declared.Size.{Size}
use Rattle.x86_inst.specs.declared.Size.TheVariants.{B, H, W}
use Rattle.x86_inst.specs.declared.StrOp.{StrOp}
use Rattle.x86_inst.specs.declared.StrOp.TheVariants.{Movs, Cmps, Stos, Lods, Scas}
use Rattle.x86_model.specs.declared.effect.Effect.{Effect}
use Rattle.x86_model.specs.declared.effect.Reads.{Reads}
use Rattle.x86_model.specs.declared.effect.Step.{Step}
use Rattle.x86_model.specs.Arithmetic.{difference_flags}
use Rattle.x86_model.specs.Effects.{done}
use Rattle.x86_model.specs.Leads.{first_of, read_by, refused, refused_store}
use Rattle.x86_model.specs.Operands.{base_of, bits_of, part_of, width_of}
use Rattle.x86_model.specs.Reads.{round_reads}
use Rattle.x86_model.specs.WideRows.{round_of}
use Rattle.c_syntax.specs.declared.syntax.CBin.TheVariants as op
use Rattle.c_syntax.specs.Value.{word_of}
use Rattle.c_words.specs.Built.{name as named}
use Rattle.micro_ir.specs.declared.flow.Stmt.{Stmt}
use Rattle.micro_ir.specs.declared.flow.Stmt.TheVariants as stmt
use Rattle.lift_parts.specs.Parts.{reg, temp}
use Rattle.lift_parts.specs.Shown.{AreNames, RunsTo}
use Rattle.lift_parts.specs.Stands.{FlagsStand, state_in}
use Rattle.lift_parts.proofs.Chains.{first_of_none, load_runs, none_run, runs_by, runs_to_append, store_runs}
use Rattle.lift_parts.proofs.Kept.{flags_stay, flags_temp}
use Rattle.lift_parts.proofs.Values.{load_fits, load_low, low_again, word_fits}
use Rattle.lift_parts.proofs.Writes.{names_set, part_runs, store_low}
use Rattle.lift_blocks.proofs.MoveWords.{bin_value, name_value}
use Rattle.lift_bits_strings.specs.Rounds.{body_stmts, source_word}
use Rattle.lift_bits_strings.proofs.Comparing.{Compared, compared}
use Rattle.lift_bits_strings.proofs.Reaching.{Reaches}

-- what a round begins with in a world
abbrev pub round_step : StrOp → Size → Seg → ℕ → World → Flags → Step
round_step f size s next w flags = let r = round_reads f size s (regs_in w.names) (w.names name.Fs) (w.names name.Gs) in record {
  regs = regs_in w.names;
  flags = flags;
  fs = w.names name.Fs;
  gs = w.names name.Gs;
  first = read_by r.first w.mem;
  second = read_by r.second w.mem;
  next = next;
}

-- the first byte that a world may not read, of two reads in their order
abbrev pub refused_reads : Reads → World → Option ℕ
refused_reads r w = first_of (refused w.pages.read r.first) (refused w.pages.read r.second)

-- ---- the source

whole : (x : ℕ) → x < 2 ^ 32 → x ≡ (x + 0) % 2 ^ 32
whole x h = omega arith

source_is : (s : Seg) (v : Names) → AreNames v → word_of (source_word s) v ≡ Some ((v (name.Reg 6) + base_of s (v name.Fs) (v name.Gs)) % 2 ^ 32)
source_is seg.None v h = name_value v (name.Reg 6) ∙ ap Some (whole (v (name.Reg 6)) (h.words (name.Reg 6)))
source_is seg.Fs v h = bin_value v op.Add (reg 6) (named name.Fs) (v (name.Reg 6)) (v name.Fs) (name_value v (name.Reg 6)) (name_value v name.Fs)
source_is seg.Gs v h = bin_value v op.Add (reg 6) (named name.Gs) (v (name.Reg 6)) (v name.Gs) (name_value v (name.Reg 6)) (name_value v name.Gs)

-- ---- each operation

module _ (size : Size) (s : Seg) (next : ℕ) (w : World) (flags : Flags) (names : AreNames w.names) (bytes : AreBytes w.mem) (stand : FlagsStand flags w.names) where
  -- what is read at an address
  abbrev loaded : ℕ → ℕ
  loaded at = load w.mem at (bytes_of (width_of size))

  loaded_word : (at : ℕ) → loaded at < 2 ^ 32
  loaded_word at = word_fits size (loaded at) (load_fits w.mem bytes at size)

  loaded_low : (at : ℕ) → low_part (bits_of size) (loaded at) ≡ loaded at
  loaded_low at = sym (load_low w.mem bytes at size)

  abbrev source : ℕ
  source = (w.names (name.Reg 6) + base_of s (w.names name.Fs) (w.names name.Gs)) % 2 ^ 32

  abbrev target : ℕ
  target = w.names (name.Reg 7)

  abbrev effect : StrOp → Effect
  effect f = round_of f size (round_step f size s next w flags)

  -- the world in which t0 has the word at the source, and the one in which it has that at the target
  abbrev with_source : World
  with_source = set_word (name.T 0) (loaded source) w

  abbrev with_target : World
  with_target = set_word (name.T 0) (loaded target) w

  source_names : AreNames with_source.names
  source_names = names_set w.names (name.T 0) (loaded source) names (loaded_word source)

  -- only the low part is stored
  stored_low : (x : ℕ) → store w.mem target (bytes_of (width_of size)) x ≡ store w.mem target (bytes_of (width_of size)) (low_part (bits_of size) x)
  stored_low x = store_low w.mem target size x (low_part (bits_of size) x) (sym (low_again size x))

  -- the first byte that the body may not read, and the first one that it may not access
  abbrev unread : StrOp → Option ℕ
  unread f = refused_reads (round_reads f size s (regs_in w.names) (w.names name.Fs) (w.names name.Gs)) w

  abbrev refused_first : StrOp → Option ℕ
  refused_first f = first_of (unread f) (refused_store (effect f) (state_in w flags))

  abbrev Body : StrOp → Type 0
  Body f = (u : World) × RunsTo (refused_first f) (body_stmts f size s) w u × Reaches (effect f) w u

  -- the reads that are refused at the source and at the target
  abbrev no_source : Option ℕ
  no_source = first_bad w.pages.read source (bytes_of (width_of size))

  abbrev no_target : Option ℕ
  no_target = first_bad w.pages.read target (bytes_of (width_of size))

  -- a read alone
  read_alone : (xs : List Stmt) (u : World) (bad : Option ℕ) → RunsTo bad xs w u → RunsTo (first_of (first_of bad None) None) xs w u
  read_alone xs u bad r = runs_by bad (first_of (first_of bad None) None) (sym (first_of_none (first_of bad None) ∙ first_of_none bad)) r

  movs_body : Body Movs
  movs_body =
      let u : World = with_source in
      let x : ℕ = loaded source in
      let no_store : Option ℕ = first_bad w.pages.write target (bytes_of (width_of size)) in (
        record u { mem = store w.mem target (bytes_of (width_of size)) x },
        runs_by (first_of no_source no_store) (refused_first Movs) (ap (λ o. first_of o no_store) (sym (first_of_none no_source)))
            (runs_to_append {w = w} {u = with_source} no_source no_store (stmt.Load (name.T 0) (width_of size) (source_word s) ∷ []) (stmt.Store (width_of size) (reg 7) (temp 0) ∷ []) refl refl
            (load_runs (name.T 0) (width_of size) (source_word s) source (source_is s w.names names) (none_run u))
            (store_runs (width_of size) (reg 7) (temp 0) target x (name_value u.names (name.Reg 7)) (name_value u.names (name.T 0)) (none_run _))),
        record {
          names = source_names;
          regs = refl;
          flags = flags_temp flags w.names 0 x stand;
          fs = refl;
          gs = refl;
          mem = stored_low x;
          pages = refl;
          left = refl;
          calls = refl;
        },
      )

  stos_body : Body Stos
  stos_body =
      let x : ℕ = w.names (name.Reg 0) in (
        record w { mem = store w.mem target (bytes_of (width_of size)) x },
        store_runs (width_of size) (reg 7) (reg 0) target x (name_value w.names (name.Reg 7)) (name_value w.names (name.Reg 0)) (none_run _),
        record {
          names = names;
          regs = refl;
          flags = stand;
          fs = refl;
          gs = refl;
          mem = stored_low x;
          pages = refl;
          left = refl;
          calls = refl;
        },
      )

  lods_body : Body Lods
  lods_body =
      let u : World = with_source in
      let x : ℕ = loaded source in
      let (t, runs, sets) = part_runs size 0 (temp 0) x x u source_names (name_value u.names (name.T 0)) (loaded_word source) refl in (
        t,
        read_alone (body_stmts Lods size s) t no_source (load_runs (name.T 0) (width_of size) (source_word s) source (source_is s w.names names) runs),
        record {
          names = sets.names;
          regs = sets.regs;
          flags = flags_stay flags u.names t.names sets.flags (flags_temp flags w.names 0 x stand);
          fs = sets.fs;
          gs = sets.gs;
          mem = sets.mem;
          pages = sets.pages;
          left = sets.left;
          calls = sets.calls;
        },
      )

  -- a comparison of the low parts of two words reaches that of the words that they are
  reached : (x y k l : ℕ) (u t : World) → low_part (bits_of size) x ≡ k → low_part (bits_of size) y ≡ l
      → regs_in u.names ≡ regs_in w.names → u.names name.Fs ≡ w.names name.Fs → u.names name.Gs ≡ w.names name.Gs → u.mem ≡ w.mem → u.pages ≡ w.pages → u.left ≡ w.left → u.calls ≡ w.calls
      → Compared (difference_flags (bits_of size) (low_part (bits_of size) x) (low_part (bits_of size) y) false) u t
      → (a : Step) → a.regs ≡ regs_in w.names → Reaches (done a (difference_flags (bits_of size) k l false)) w t
  reached x y k l u t h g regs fs gs mem pages left calls c a e = record {
    names = c.names;
    regs = c.regs ∙ regs ∙ sym e;
    flags = subst (λ k. FlagsStand (difference_flags (bits_of size) k l false) t.names) h
        (subst (λ l. FlagsStand (difference_flags (bits_of size) (low_part (bits_of size) x) l false) t.names) g c.flags);
    fs = c.fs ∙ fs;
    gs = c.gs ∙ gs;
    mem = c.mem ∙ mem;
    pages = c.pages ∙ pages;
    left = c.left ∙ left;
    calls = c.calls ∙ calls;
  }

  cmps_body : Body Cmps
  cmps_body =
      let x : ℕ = loaded source in
      let y : ℕ = loaded target in
      let u : World = set_word (name.T 1) y with_source in
      let (t, runs, c) = compared size (temp 0) (temp 1) x y (loaded_word source) (loaded_word target) (λ v. (v (name.T 0) ≡ x) × (v (name.T 1) ≡ y)) (λ v n k h. h)
      (λ v h. name_value v (name.T 0) ∙ ap Some h.0) (λ v h. name_value v (name.T 1) ∙ ap Some h.1) u
      (names_set with_source.names (name.T 1) y source_names (loaded_word target)) (refl, refl) in (
        t,
        runs_by (first_of no_source no_target) (refused_first Cmps) (sym (first_of_none (first_of no_source no_target)))
            (runs_to_append {w = w} {u = with_source} no_source no_target (stmt.Load (name.T 0) (width_of size) (source_word s) ∷ []) _ refl refl
            (load_runs (name.T 0) (width_of size) (source_word s) source (source_is s w.names names) (none_run with_source))
            (load_runs (name.T 1) (width_of size) (reg 7) target (name_value with_source.names (name.Reg 7)) runs)),
        reached x y x y u t (loaded_low source) (loaded_low target) refl refl refl refl refl refl refl c (round_step Cmps size s next w flags) refl,
      )

  -- the accumulator's low part
  accumulator : (size : Size) → low_part (bits_of size) (w.names (name.Reg 0)) ≡ part_of size (regs_in w.names) 0
  accumulator B = refl
  accumulator H = refl
  accumulator W = mod-eq_of_lt (names.words (name.Reg 0))

  scas_body : Body Scas
  scas_body =
      let x : ℕ = w.names (name.Reg 0) in
      let y : ℕ = loaded target in
      let u : World = with_target in
      let (t, runs, c) = compared size (reg 0) (temp 0) x y (names.words (name.Reg 0)) (loaded_word target) (λ v. (v (name.Reg 0) ≡ x) × (v (name.T 0) ≡ y)) (λ v n k h. h)
      (λ v h. name_value v (name.Reg 0) ∙ ap Some h.0) (λ v h. name_value v (name.T 0) ∙ ap Some h.1) u
      (names_set w.names (name.T 0) y names (loaded_word target)) (refl, refl) in (
        t,
        read_alone (body_stmts Scas size s) t no_target (load_runs (name.T 0) (width_of size) (reg 7) target (name_value w.names (name.Reg 7)) runs),
        reached x y (part_of size (regs_in w.names) 0) y u t (accumulator size) (loaded_low target) refl refl refl refl refl refl refl c (round_step Scas size s next w flags) refl,
      )

  pub body_reaches : (f : StrOp) → Body f
  body_reaches Movs = movs_body
  body_reaches Stos = stos_body
  body_reaches Lods = lods_body
  body_reaches Cmps = cmps_body
  body_reaches Scas = scas_body
