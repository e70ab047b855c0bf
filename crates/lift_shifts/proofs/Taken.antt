-- What is known while a shift runs: t0 has the operand, t2 the result, and flags are set one after another.
use Rattle.std.proofs.Common.{◌≡◌, ℕ, ◌^◌, ◌<◌, List, [], ◌∷◌, ◌++◌, Option, Some, None, refl, sym, ap, ◌∙◌, subst}
use Rattle.dream_words.specs.declared.machine.Bit.{Bit}
use Rattle.dream_words.specs.declared.machine.Flags.{Flags}
use Rattle.dream_words.specs.declared.machine.Name.TheVariants as name
use Rattle.run_parts.specs.Effects.{set_word}
use Rattle.run_parts.specs.World.{Names, World, with_name}
use Rattle.x86_inst.specs.declared.Size.{Size}
use Rattle.x86_inst.specs.declared.Operand.{Operand}
use Rattle.x86_inst.specs.declared.Operand.TheVariants as o
use Rattle.x86_model.specs.declared.effect.Step.{Step}
use Rattle.x86_model.specs.declared.effect.Stored.{Stored}
use Rattle.x86_model.specs.Effects.{done, put}
use Rattle.x86_model.specs.Leads.{after, read_by, refused, stored}
use Rattle.x86_model.specs.Operands.{bits_of, value_of}
use Rattle.x86_model.specs.Reads.{operand_read}
use Rattle.dream_words.specs.Ranges.{AreBytes}
use Rattle.dream_words.specs.Words.{low_part}
use Rattle.c_syntax.specs.declared.syntax.CExpr.{CExpr}
use Rattle.c_syntax.specs.Value.{word_of}
use Rattle.micro_ir.specs.declared.flow.Stmt.{Stmt}
use Rattle.micro_ir.specs.declared.flow.Stmt.TheVariants as stmt
use Rattle.lift_parts.specs.Parts.{temp, value_word, writes}
use Rattle.lift_parts.specs.Shown.{AreNames, Runs, RunsTo, Shows, ShowsRead}
use Rattle.lift_parts.specs.Stands.{FlagsStand, Stands, StandsFor, state_in}
use Rattle.lift_parts.proofs.Chains.{none_run, runs_allowed, set_runs, set_runs_to}
use Rattle.lift_parts.proofs.Kept.{flags_stay, reads_run}
use Rattle.lift_parts.proofs.Values.{value_is, value_is_word}
use Rattle.lift_parts.proofs.Writes.{Written, names_set, shows_flag, shows_temp, write_after, writes_run}
use Rattle.lift_blocks.specs.Effects.{LeadsOn}
use Rattle.lift_blocks.specs.Flags.{computes}
use Rattle.lift_blocks.proofs.Common.{leads_next, put_flags, put_go}
use Rattle.lift_blocks.proofs.MoveWords.{name_value}
use Rattle.lift_shifts.specs.Shifts.{takes}

-- the names show the step, and t0 has the operand
pub record Taken (a : Step) (x : ℕ) (v : Names) : Type 0 where
  pub names : AreNames v
  pub shows : Shows a v
  pub operand : v (name.T 0) ≡ x

-- t2 has the result besides
pub record Seen (a : Step) (x r : ℕ) (v : Names) : Type 0 where
  pub taken : Taken a x v
  pub result : v (name.T 2) ≡ r

-- and the flags are these
pub record Known (a : Step) (x r : ℕ) (f : Flags) (v : Names) : Type 0 where
  pub seen : Seen a x r v
  pub flags : FlagsStand f v

-- memory, pages, answers and calls are as before
pub record Same (w u : World) : Type 0 where
  pub mem : u.mem ≡ w.mem
  pub pages : u.pages ≡ w.pages
  pub left : u.left ≡ w.left
  pub calls : u.calls ≡ w.calls

-- statements lead to names of which this is known
abbrev pub Sets : Step → ℕ → ℕ → Flags → List Stmt → World → Type 0
Sets a x r f stmts w = (u : World) × Runs stmts w u × Known a x r f u.names × Same w u

-- a word that stands for a flag
abbrev pub Gives : Bit → CExpr → Names → Type 0
Gives b e v = (y : ℕ) × (word_of e v ≡ Some y) × (y < 2 ^ 32) × StandsFor b y

-- ---- one flag

seen_flag : (a : Step) (x r : ℕ) (v : Names) (n y : ℕ) → y < 2 ^ 32 → Seen a x r v → Seen a x r (with_name v (name.Flag n) y)
seen_flag a x r v n y l h = record {
  taken = record { names = names_set v (name.Flag n) y h.taken.names l; shows = shows_flag a v n y h.taken.shows; operand = h.taken.operand };
  result = h.result;
}

-- a flag is set, and the rest leads on from there
sets_one : (a : Step) (x r : ℕ) (f g : Flags) (n : ℕ) (b : Bit) (e : CExpr) (rest : List Stmt) (w : World) → Gives b e w.names → Seen a x r w.names
    → ((y : ℕ) → StandsFor b y → FlagsStand f (with_name w.names (name.Flag n) y))
    → ((u : World) → Known a x r f u.names → Sets a x r g rest u) → Sets a x r g (stmt.Set (name.Flag n) e ∷ rest) w
sets_one a x r f g n b e rest w gives seen stands on =
    let (y, is, small, for_bit) = gives in
    let (u, runs, known, same) = on (set_word (name.Flag n) y w) (record { seen = seen_flag a x r w.names n y small seen; flags = stands y for_bit }) in
    (u, set_runs (name.Flag n) e y is runs, known, record { mem = same.mem; pages = same.pages; left = same.left; calls = same.calls })

pub sets_carry : (a : Step) (x r : ℕ) (f g : Flags) (b : Bit) (e : CExpr) (rest : List Stmt) (w : World) → Gives b e w.names → Known a x r f w.names
    → ((u : World) → Known a x r (record f { c = b }) u.names → Sets a x r g rest u) → Sets a x r g (stmt.Set (name.Flag 0) e ∷ rest) w
sets_carry a x r f g b e rest w gives k on =
    sets_one a x r (record f { c = b }) g 0 b e rest w gives k.seen (λ y h. record { c = h; p = k.flags.p; z = k.flags.z; s = k.flags.s; o = k.flags.o }) on

pub sets_parity : (a : Step) (x r : ℕ) (f g : Flags) (b : Bit) (e : CExpr) (rest : List Stmt) (w : World) → Gives b e w.names → Known a x r f w.names
    → ((u : World) → Known a x r (record f { p = b }) u.names → Sets a x r g rest u) → Sets a x r g (stmt.Set (name.Flag 1) e ∷ rest) w
sets_parity a x r f g b e rest w gives k on =
    sets_one a x r (record f { p = b }) g 1 b e rest w gives k.seen (λ y h. record { c = k.flags.c; p = h; z = k.flags.z; s = k.flags.s; o = k.flags.o }) on

pub sets_zero : (a : Step) (x r : ℕ) (f g : Flags) (b : Bit) (e : CExpr) (rest : List Stmt) (w : World) → Gives b e w.names → Known a x r f w.names
    → ((u : World) → Known a x r (record f { z = b }) u.names → Sets a x r g rest u) → Sets a x r g (stmt.Set (name.Flag 2) e ∷ rest) w
sets_zero a x r f g b e rest w gives k on =
    sets_one a x r (record f { z = b }) g 2 b e rest w gives k.seen (λ y h. record { c = k.flags.c; p = k.flags.p; z = h; s = k.flags.s; o = k.flags.o }) on

pub sets_sign : (a : Step) (x r : ℕ) (f g : Flags) (b : Bit) (e : CExpr) (rest : List Stmt) (w : World) → Gives b e w.names → Known a x r f w.names
    → ((u : World) → Known a x r (record f { s = b }) u.names → Sets a x r g rest u) → Sets a x r g (stmt.Set (name.Flag 3) e ∷ rest) w
sets_sign a x r f g b e rest w gives k on =
    sets_one a x r (record f { s = b }) g 3 b e rest w gives k.seen (λ y h. record { c = k.flags.c; p = k.flags.p; z = k.flags.z; s = h; o = k.flags.o }) on

pub sets_over : (a : Step) (x r : ℕ) (f g : Flags) (b : Bit) (e : CExpr) (rest : List Stmt) (w : World) → Gives b e w.names → Known a x r f w.names
    → ((u : World) → Known a x r (record f { o = b }) u.names → Sets a x r g rest u) → Sets a x r g (stmt.Set (name.Flag 4) e ∷ rest) w
sets_over a x r f g b e rest w gives k on =
    sets_one a x r (record f { o = b }) g 4 b e rest w gives k.seen (λ y h. record { c = k.flags.c; p = k.flags.p; z = k.flags.z; s = k.flags.s; o = h }) on

-- where OF isn't set, it is what may stand there
pub leaves_over : (a : Step) (x r : ℕ) (f : Flags) (b : Bit) (v : Names) → StandsFor b (v (name.Flag 4)) → Known a x r f v → Known a x r (record f { o = b }) v
leaves_over a x r f b v h k = record { seen = k.seen; flags = record { c = k.flags.c; p = k.flags.p; z = k.flags.z; s = k.flags.s; o = h } }

-- nothing more is set
pub sets_nothing : (a : Step) (x r : ℕ) (f : Flags) (w : World) → Known a x r f w.names → Sets a x r f [] w
sets_nothing a x r f w k = (w, none_run w, k, record { mem = refl; pages = refl; left = refl; calls = refl })

-- ---- the operand is taken

-- what is known on
pub record TakenFrom (a : Step) (x : ℕ) (w u : World) : Type 0 where
  pub taken : Taken a x u.names
  pub flags : FlagsStand a.flags u.names
  pub same : Same w u

sets_operand : (size : Size) (d : Operand) (a : Step) (w : World) → AreNames w.names → Shows a w.names → FlagsStand a.flags w.names → ShowsRead size d a w.names
    → (u : World) × Runs (stmt.Set (name.T 0) (value_word size d) ∷ []) w u × TakenFrom a (value_of size d a) w u
sets_operand size d a w names shows flags r =
    let x : ℕ = value_of size d a in (
      set_word (name.T 0) x w,
      set_runs (name.T 0) (value_word size d) x (value_is a w.names names shows size d r) (none_run _),
      record {
        taken = record { names = names_set w.names (name.T 0) x names (value_is_word a w.names names shows size d); shows = shows_temp a w.names 0 x shows; operand = refl };
        flags = record { c = flags.c; p = flags.p; z = flags.z; s = flags.s; o = flags.o };
        same = record { mem = refl; pages = refl; left = refl; calls = refl };
      },
    )

takes_run : (size : Size) (d : Operand) (a : Step) (w : World) → AreNames w.names → AreBytes w.mem → Shows a w.names → FlagsStand a.flags w.names
    → a.first ≡ read_by (operand_read size d a.regs a.fs a.gs) w.mem
    → (u : World) × RunsTo (refused w.pages.read (operand_read size d a.regs a.fs a.gs)) (takes size d) w u × TakenFrom a (value_of size d a) w u
takes_run size (o.Reg n) a w names bytes shows flags first =
    let (u, runs, from) = sets_operand size (o.Reg n) a w names shows flags (record { read = λ e. absurd cc }) in (u, runs_allowed runs, from)
takes_run size (o.Imm k) a w names bytes shows flags first =
    let (u, runs, from) = sets_operand size (o.Imm k) a w names shows flags (record { read = λ e. absurd cc }) in (u, runs_allowed runs, from)
takes_run size (o.Mem m) a w names bytes shows flags first =
    let (u, runs, read, shown) = reads_run size (o.Mem m) a w names bytes shows first in (
      u,
      runs,
      record {
        taken = record { names = read.names; shows = read.shows; operand = shown.read refl };
        flags = flags_stay a.flags w.names u.names read.flags flags;
        same = record { mem = read.mem; pages = read.pages; left = read.left; calls = read.calls };
      },
    )

-- ---- the whole

-- the result is kept
kept_result : (a : Step) (x r : ℕ) (v : Names) → r < 2 ^ 32 → Taken a x v → FlagsStand a.flags v → Known a x r a.flags (with_name v (name.T 2) r)
kept_result a x r v l h f = record {
  seen = record {
    taken = record { names = names_set v (name.T 2) r h.names l; shows = shows_temp a v 2 r h.shows; operand = h.operand };
    result = refl;
  };
  flags = record { c = f.c; p = f.p; z = f.z; s = f.s; o = f.o };
}

-- the world after the result is written stands for the state after it
ends_stand : (size : Size) (d : Operand) (value : ℕ) (a : Step) (x r : ℕ) (f : Flags) (w u t last : World) → Shows a w.names → Same w u → Same u t → Known a x r f t.names
    → Written size d value a (done a f) t last → Stands (after (put size d value a (done a f)) (state_in w a.flags)) last
ends_stand size d value a x r f w u t last shows one two known written = record {
  regs = sym written.regs;
  flags = subst (λ y. FlagsStand y last.names) (sym (put_flags size d value a (done a f))) (flags_stay f t.names last.names written.flags known.flags);
  fs = shows.fs ∙ sym (written.fs ∙ known.seen.taken.shows.fs);
  gs = shows.gs ∙ sym (written.gs ∙ known.seen.taken.shows.gs);
  mem = sym (written.mem ∙ ap (λ m. stored m (put size d value a (done a f)).store) (two.mem ∙ one.mem));
  pages = sym (written.pages ∙ two.pages ∙ one.pages);
  left = sym (written.left ∙ two.left ∙ one.left);
  calls = sym (written.calls ∙ two.calls ∙ one.calls);
}

-- The operand is taken, the result kept, flags are set, and the result is written.
pub computes_to : (size : Size) (d : Operand) (e : CExpr) (r value : ℕ) (a : Step) (f : Flags) (flags : List Stmt) (w : World)
    → AreNames w.names → AreBytes w.mem → Shows a w.names → FlagsStand a.flags w.names → a.first ≡ read_by (operand_read size d a.regs a.fs a.gs) w.mem
    → ((v : Names) → Taken a (value_of size d a) v → word_of e v ≡ Some r) → r < 2 ^ 32 → r ≡ value
    → ((u : World) → Known a (value_of size d a) r a.flags u.names → Sets a (value_of size d a) r f flags u)
    → LeadsOn (refused w.pages.read (operand_read size d a.regs a.fs a.gs)) (put size d value a (done a f)).go (put size d value a (done a f)) (state_in w a.flags) (takes size d ++ computes size d flags e) w
computes_to size d e r value a f flags w names bytes shows stand first word fits is sets =
    let x : ℕ = value_of size d a in
    let (u, runs, from) = takes_run size d a w names bytes shows stand first in
    let v : World = set_word (name.T 2) r u in
    let (t, more, known, same) = sets v (kept_result a x r u.names fits from.taken from.flags) in
    let (last, ends, written) = writes_run size d (temp 2) (t.names (name.T 2)) value a (done a f) t known.seen.taken.names known.seen.taken.shows known.seen.taken.shows.regs refl
    (name_value t.names (name.T 2)) (known.seen.taken.names.words (name.T 2)) (ap (low_part (bits_of size)) (known.seen.result ∙ is)) in
    let bad : Option ℕ = refused w.pages.read (operand_read size d a.regs a.fs a.gs) in
    let o : Option Stored = (put size d value a (done a f)).store in
    leads_next bad (put size d value a (done a f)) (state_in w a.flags) (takes size d ++ computes size d flags e) w last (put_go size d value a (done a f))
    (write_after {t = last} bad o (takes size d) (computes size d flags e) from.same.mem from.same.pages from.same.calls runs
    (set_runs_to {u = last} _ (name.T 2) e r (word u.names from.taken)
    (write_after {t = last} None o flags (writes size d (temp 2)) same.mem same.pages same.calls (runs_allowed more) ends)))
    (ends_stand size d value a x r f w u t last shows from.same (record { mem = same.mem; pages = same.pages; left = same.left; calls = same.calls }) known written)
