-- Worlds that are reached while a round runs: they stand for the state after its effect so far.
use Rattle.std.proofs.Common.{◌≡◌, ℕ, ◌+◌, ◌-◌, ◌%◌, ◌^◌, ◌<◌, Bool, true, false, [], ◌∷◌, Some, sym, ap, ◌∙◌, lit<}
use Rattle.std.specs.Prelude.{if◌then◌else◌}
use Rattle.std.proofs.lemmas.Nat.{mod_below, pow_pos}
use Rattle.dream_words.specs.declared.machine.Flags.{Flags}
use Rattle.dream_words.specs.declared.machine.Name.TheVariants as name
use Rattle.dream_words.specs.declared.machine.Regs.{Regs}
use Rattle.dream_words.specs.Memory.{bytes_of}
use Rattle.dream_words.specs.Registers.{with_reg}
use Rattle.dream_words.specs.Words.{low_part}
use Rattle.run_parts.specs.Effects.{set_word}
use Rattle.run_parts.specs.World.{Names, World, regs_in, with_name}
use Rattle.x86_inst.specs.declared.Size.{Size}
use Rattle.x86_model.specs.declared.effect.Effect.{Effect}
use Rattle.x86_model.specs.declared.effect.Go.{Go}
use Rattle.x86_model.specs.Arithmetic.{minus_of}
use Rattle.x86_model.specs.Leads.{after, stored}
use Rattle.x86_model.specs.Operands.{width_of}
use Rattle.c_syntax.specs.declared.syntax.CBin.TheVariants as op
use Rattle.c_syntax.specs.Value.{word_of}
use Rattle.c_words.specs.Built.{bin, num}
use Rattle.lift_parts.specs.Parts.{reg}
use Rattle.lift_parts.specs.Shown.{AreNames, Runs}
use Rattle.lift_parts.specs.Stands.{FlagsStand, Stands, state_in}
use Rattle.lift_parts.proofs.Chains.{none_run, set_runs}
use Rattle.lift_parts.proofs.Kept.{flags_reg}
use Rattle.lift_parts.proofs.Writes.{names_set}
use Rattle.lift_blocks.proofs.Does.{minus_is}
use Rattle.lift_blocks.proofs.MoveWords.{bin_value, name_value, num_value}
use Rattle.lift_bits_strings.specs.Rounds.{counts_down, raises, where_so}

-- From the world w a world is reached that stands for the state after an effect.
pub record Reaches (e : Effect) (w u : World) : Type 0 where
  pub names : AreNames u.names
  pub regs : regs_in u.names ≡ e.regs
  pub flags : FlagsStand e.flags u.names
  pub fs : u.names name.Fs ≡ w.names name.Fs
  pub gs : u.names name.Gs ≡ w.names name.Gs
  pub mem : u.mem ≡ stored w.mem e.store
  pub pages : u.pages ≡ w.pages
  pub left : u.left ≡ w.left
  pub calls : u.calls ≡ w.calls

pub reached_stands : (e : Effect) (w u : World) (f : Flags) → Reaches e w u → Stands (after e (state_in w f)) u
reached_stands e w u f r = record {
  regs = sym r.regs;
  flags = r.flags;
  fs = sym r.fs;
  gs = sym r.gs;
  mem = sym r.mem;
  pages = sym r.pages;
  left = sym r.left;
  calls = sym r.calls;
}

-- the effect with other registers, and another way to go on
abbrev pub with_regs : Effect → Regs → Go → Effect
with_regs e q g = record e { regs = q; go = g }

-- a register is set
reg_reached : (e : Effect) (w u : World) (n x : ℕ) (q : Regs) (g : Go) → x < 2 ^ 32 → regs_in (with_name u.names (name.Reg n) x) ≡ q → Reaches e w u
    → Reaches (with_regs e q g) w (set_word (name.Reg n) x u)
reg_reached e w u n x q g l h r = record {
  names = names_set u.names (name.Reg n) x r.names l;
  regs = h;
  flags = flags_reg e.flags u.names n x r.flags;
  fs = r.fs;
  gs = r.gs;
  mem = r.mem;
  pages = r.pages;
  left = r.left;
  calls = r.calls;
}

-- ---- ESI and EDI

-- a word that grows by the bytes of a size
abbrev pub grown : Size → ℕ → ℕ
grown size x = (x + bytes_of (width_of size)) % 2 ^ 32

grown_below : (size : Size) (x : ℕ) → grown size x < 2 ^ 32
grown_below size x = mod_below (x + bytes_of (width_of size)) (2 ^ 32) (pow_pos 32)

raised_is : (size : Size) (n : ℕ) (v : Names) → word_of (bin op.Add (reg n) (num (bytes_of (width_of size)))) v ≡ Some (grown size (v (name.Reg n)))
raised_is size n v = bin_value v op.Add (reg n) (num (bytes_of (width_of size))) (v (name.Reg n)) (bytes_of (width_of size)) (name_value v (name.Reg n)) (num_value v (bytes_of (width_of size)))

-- the registers with ESI or EDI stepped, where it steps
abbrev pub source_stepped : Bool → Size → Regs → Regs
source_stepped b size r = record r { esi = if b then grown size r.esi else r.esi }

abbrev pub target_stepped : Bool → Size → Regs → Regs
target_stepped b size r = record r { edi = if b then grown size r.edi else r.edi }

pub source_steps : (b : Bool) (size : Size) (e : Effect) (w u : World) → Reaches e w u
    → (t : World) × Runs (where_so b (raises size 6)) u t × Reaches (with_regs e (source_stepped b size e.regs) e.go) w t
source_steps true size e w u r =
    let x : ℕ = grown size (u.names (name.Reg 6)) in (
      set_word (name.Reg 6) x u,
      set_runs (name.Reg 6) _ x (raised_is size 6 u.names) (none_run _),
      reg_reached e w u 6 x (source_stepped true size e.regs) e.go (grown_below size (u.names (name.Reg 6))) (ap (source_stepped true size) r.regs) r,
    )
source_steps false size e w u r = (u, none_run u, r)

pub target_steps : (b : Bool) (size : Size) (e : Effect) (w u : World) → Reaches e w u
    → (t : World) × Runs (where_so b (raises size 7)) u t × Reaches (with_regs e (target_stepped b size e.regs) e.go) w t
target_steps true size e w u r =
    let x : ℕ = grown size (u.names (name.Reg 7)) in (
      set_word (name.Reg 7) x u,
      set_runs (name.Reg 7) _ x (raised_is size 7 u.names) (none_run _),
      reg_reached e w u 7 x (target_stepped true size e.regs) e.go (grown_below size (u.names (name.Reg 7))) (ap (target_stepped true size) r.regs) r,
    )
target_steps false size e w u r = (u, none_run u, r)

-- ---- ECX

abbrev pub counted : Regs → Regs
counted r = with_reg r 1 (minus_of 32 r.ecx 1)

pub counts : (e : Effect) (g : Go) (w u : World) → Reaches e w u → (t : World) × Runs (counts_down ∷ []) u t × Reaches (with_regs e (counted e.regs) g) w t
counts e g w u r =
    let ecx : ℕ = u.names (name.Reg 1) in
    let x : ℕ = minus_of 32 ecx 1 in
    let is = bin_value u.names op.Sub (reg 1) (num 1) ecx 1 (name_value u.names (name.Reg 1)) (num_value u.names 1) ∙ ap Some (minus_is ecx 1 (r.names.words (name.Reg 1)) (lit< tt)) in (
      set_word (name.Reg 1) x u,
      set_runs (name.Reg 1) (bin op.Sub (reg 1) (num 1)) x is (none_run _),
      reg_reached e w u 1 x (counted e.regs) g (mod_below (low_part 32 ecx + 2 ^ 32 - low_part 32 1) (2 ^ 32) (pow_pos 32)) (ap counted r.regs) r,
    )
