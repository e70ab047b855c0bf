-- What a read of an operand leads to, and the flags that stay and that are set.
use Rattle.std.proofs.Common.{◌≡◌, ℕ, refl, ap, ◌∙◌, sym, subst}
use Rattle.dream_words.specs.declared.machine.Flags.{Flags}
use Rattle.dream_words.specs.declared.machine.Name.TheVariants as name
use Rattle.dream_words.specs.Memory.{load, bytes_of}
use Rattle.dream_words.specs.Ranges.{AreBytes}
use Rattle.dream_words.specs.Words.{low_part}
use Rattle.run_parts.specs.World.{Names, World, with_name, regs_in}
use Rattle.x86_inst.specs.declared.Size.{Size}
use Rattle.x86_inst.specs.declared.Operand.{Operand}
use Rattle.x86_inst.specs.declared.Operand.TheVariants as o
use Rattle.x86_model.specs.declared.effect.Step.{Step}
use Rattle.x86_model.specs.Operands.{bits_of, width_of, address_of}
use Rattle.x86_model.specs.Reads.{operand_read, pair_read}
use Rattle.x86_model.specs.Leads.{read_by, refused}
use Rattle.lift_parts.specs.Parts.{address_word, reads, pair_reads}
use Rattle.lift_parts.specs.Shown.{AreNames, Shows, ShowsRead, RunsTo}
use Rattle.lift_parts.specs.Stands.{StandsFor, FlagsStand}
use Rattle.lift_parts.proofs.Chains.{none_run, load_runs, runs_allowed}
use Rattle.lift_parts.proofs.Values.{address_is, load_fits, load_low, word_fits}
use Rattle.lift_parts.proofs.Writes.{names_set}

-- ---- flags

-- flags that are not set stay
pub flags_stay : (f : Flags) (v u : Names) → ((n : ℕ) → u (name.Flag n) ≡ v (name.Flag n)) → FlagsStand f v → FlagsStand f u
flags_stay f v u h s = record {
  c = subst (StandsFor f.c) (sym (h 0)) s.c;
  p = subst (StandsFor f.p) (sym (h 1)) s.p;
  z = subst (StandsFor f.z) (sym (h 2)) s.z;
  s = subst (StandsFor f.s) (sym (h 3)) s.s;
  o = subst (StandsFor f.o) (sym (h 4)) s.o;
}

pub flags_temp : (f : Flags) (v : Names) (n x : ℕ) → FlagsStand f v → FlagsStand f (with_name v (name.T n) x)
flags_temp f v n x s = flags_stay f v _ (λ k. refl) s

pub flags_reg : (f : Flags) (v : Names) (n x : ℕ) → FlagsStand f v → FlagsStand f (with_name v (name.Reg n) x)
flags_reg f v n x s = flags_stay f v _ (λ k. refl) s

-- OF, SF, ZF and PF are set, and CF stays
pub four_set : (f : Flags) (v : Names) (o s z p : ℕ) → StandsFor f.o o → StandsFor f.s s → StandsFor f.z z → StandsFor f.p p → StandsFor f.c (v (name.Flag 0))
    → FlagsStand f (with_name (with_name (with_name (with_name v (name.Flag 4) o) (name.Flag 3) s) (name.Flag 2) z) (name.Flag 1) p)
four_set f v o s z p ho hs hz hp hc = record { c = hc; p = hp; z = hz; s = hs; o = ho }

-- all five flags are set, CF last
pub flags_set : (f : Flags) (v : Names) (o s z p c : ℕ) → StandsFor f.o o → StandsFor f.s s → StandsFor f.z z → StandsFor f.p p → StandsFor f.c c
    → FlagsStand f (with_name (with_name (with_name (with_name (with_name v (name.Flag 4) o) (name.Flag 3) s) (name.Flag 2) z) (name.Flag 1) p) (name.Flag 0) c)
flags_set f v o s z p c ho hs hz hp hc = record { c = hc; p = hp; z = hz; s = hs; o = ho }

-- ---- reads

-- What is known after a read: t0 may have changed, and all else is as before.
pub record AfterRead (a : Step) (w u : World) : Type 0 where
  pub shows : Shows a u.names
  pub names : AreNames u.names
  pub regs : regs_in u.names ≡ regs_in w.names
  pub flags : (n : ℕ) → u.names (name.Flag n) ≡ w.names (name.Flag n)
  pub fs : u.names name.Fs ≡ w.names name.Fs
  pub gs : u.names name.Gs ≡ w.names name.Gs
  pub mem : u.mem ≡ w.mem
  pub pages : u.pages ≡ w.pages
  pub left : u.left ≡ w.left
  pub calls : u.calls ≡ w.calls

-- nothing is read
nothing_read : (a : Step) (w : World) → AreNames w.names → Shows a w.names → AfterRead a w w
nothing_read a w h s = record {
  shows = s;
  names = h;
  regs = refl;
  flags = λ n. refl;
  fs = refl;
  gs = refl;
  mem = refl;
  pages = refl;
  left = refl;
  calls = refl;
}

-- the word that an operand reads is the first of the step
pub reads_run : (size : Size) (o : Operand) (a : Step) (w : World) → AreNames w.names → AreBytes w.mem → Shows a w.names
    → a.first ≡ read_by (operand_read size o a.regs a.fs a.gs) w.mem
    → (u : World) × RunsTo (refused w.pages.read (operand_read size o a.regs a.fs a.gs)) (reads size o) w u × AfterRead a w u × ShowsRead size o a u.names
reads_run size (o.Reg n) a w h b s r = (w, runs_allowed (none_run w), nothing_read a w h s, record { read = λ e. let no : ⊥ = cc in absurd no })
reads_run size (o.Imm k) a w h b s r = (w, runs_allowed (none_run w), nothing_read a w h s, record { read = λ e. let no : ⊥ = cc in absurd no })
reads_run size (o.Mem m) a w h b s r =
    let at : ℕ = address_of m a.regs a.fs a.gs in
    let x : ℕ = load w.mem at (bytes_of (width_of size)) in (
      record w { names = with_name w.names (name.T 0) x },
      load_runs (name.T 0) (width_of size) (address_word m) at (address_is a w.names h s m) (none_run _),
      record {
        shows = record { regs = s.regs; fs = s.fs; gs = s.gs };
        names = names_set w.names (name.T 0) x h (word_fits size x (load_fits w.mem b at size));
        regs = refl;
        flags = λ n. refl;
        fs = refl;
        gs = refl;
        mem = refl;
        pages = refl;
        left = refl;
        calls = refl;
      },
      record { read = λ e. load_low w.mem b at size ∙ ap (low_part (bits_of size)) (sym r) },
    )

-- of two operands the one that is memory is read
pub pair_reads_run : (size : Size) (d s : Operand) (a : Step) (w : World) → AreNames w.names → AreBytes w.mem → Shows a w.names
    → a.first ≡ read_by (pair_read size d s a.regs a.fs a.gs) w.mem
    → (u : World) × RunsTo (refused w.pages.read (pair_read size d s a.regs a.fs a.gs)) (pair_reads size d s) w u × AfterRead a w u × ShowsRead size d a u.names × ShowsRead size s a u.names
pair_reads_run size (o.Mem m) s a w h b k r =
    let (u, runs, after, shown) = reads_run size (o.Mem m) a w h b k r in
    (u, runs, after, shown, record { read = λ e. shown.read refl })
pair_reads_run size (o.Reg n) s a w h b k r =
    let (u, runs, after, shown) = reads_run size s a w h b k r in
    (u, runs, after, record { read = λ e. let no : ⊥ = cc in absurd no }, shown)
pair_reads_run size (o.Imm n) s a w h b k r =
    let (u, runs, after, shown) = reads_run size s a w h b k r in
    (u, runs, after, record { read = λ e. let no : ⊥ = cc in absurd no }, shown)
