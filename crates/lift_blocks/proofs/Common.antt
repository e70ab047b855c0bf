-- What the lemmas of all instructions stand on: how a step begins, that an operand is read, and that a value is written.
use Rattle.std.proofs.Common.{◌≡◌, ℕ, ◌^◌, ◌<◌, Bool, List, [], ◌++◌, Option, Some, None, refl, sym, ap, ◌∙◌, subst}
use Rattle.dream_words.specs.declared.machine.Flags.{Flags}
use Rattle.dream_words.specs.declared.machine.Name.TheVariants as name
use Rattle.dream_words.specs.Ranges.{AreBytes}
use Rattle.dream_words.specs.Words.{low_part}
use Rattle.run_parts.specs.World.{World, with_name}
use Rattle.x86_inst.specs.declared.Inst.{Inst}
use Rattle.x86_inst.specs.declared.Size.{Size}
use Rattle.x86_inst.specs.declared.Operand.{Operand}
use Rattle.x86_inst.specs.declared.Operand.TheVariants as o
use Rattle.x86_model.specs.declared.effect.Effect.{Effect}
use Rattle.x86_model.specs.declared.effect.Go.TheVariants as go
use Rattle.x86_model.specs.declared.effect.Step.{Step}
use Rattle.dream_words.specs.declared.pages.PageRun.{PageRun}
use Rattle.x86_model.specs.declared.effect.Reads.{Reads}
use Rattle.x86_model.specs.Effects.{done, put, reading, stray}
use Rattle.x86_model.specs.Leads.{after, first_of, read_by, refused, refused_store, step_of, stored}
use Rattle.x86_model.specs.Machine.{State}
use Rattle.x86_model.specs.Meaning.{effect_of}
use Rattle.x86_model.specs.Operands.{bits_of}
use Rattle.x86_model.specs.Reads.{reads_of}
use Rattle.c_syntax.specs.declared.syntax.CExpr.{CExpr}
use Rattle.c_syntax.specs.Value.{word_of}
use Rattle.micro_ir.specs.declared.flow.Stmt.{Stmt}
use Rattle.lift_parts.specs.Parts.{writes}
use Rattle.lift_parts.specs.Shown.{AreNames, Faults, RunsTo, Shows}
use Rattle.lift_parts.specs.Stands.{FlagsStand, Stands, state_in}
use Rattle.lift_alu.specs.Lifts.{IsKnownAs}
use Rattle.lift_blocks.specs.Effects.{GoesOn, LeadsOn}
use Rattle.lift_parts.proofs.Kept.{AfterRead, flags_stay}
use Rattle.lift_parts.proofs.Chains.{first_of_none, none_run, runs_allowed}
use Rattle.lift_parts.proofs.Values.{names_of_world}
use Rattle.lift_parts.proofs.Writes.{Written, write_after, writes_run}

-- ---- how a step begins

-- what is known where the step of an instruction begins
pub record Begins (x : Inst) (a : Step) (w : World) : Type 0 where
  pub names : AreNames w.names
  pub bytes : AreBytes w.mem
  pub shows : Shows a w.names
  pub flags : FlagsStand a.flags w.names
  pub first : a.first ≡ read_by (reads_of x a.regs a.fs a.gs).first w.mem

-- of one read, the first byte that may not be read is that of the step
pub one_refused : (runs : List PageRun) (r : Reads) → r.second ≡ None → refused runs r.first ≡ first_of (refused runs r.first) (refused runs r.second)
one_refused runs r e = sym (ap (λ s. first_of (refused runs r.first) (refused runs s)) e ∙ first_of_none (refused runs r.first))

-- what leads on from every such beginning, goes on; the instruction reads at most once
pub by_step : (x : Inst) (next : ℕ) (stmts : List Stmt) → ((a : Step) → (reads_of x a.regs a.fs a.gs).second ≡ None)
    → ((a : Step) (w : World) → Begins x a w
    → LeadsOn (refused w.pages.read (reads_of x a.regs a.fs a.gs).first) (effect_of x a).go (effect_of x a) (state_in w a.flags) stmts w)
    → GoesOn x next stmts
by_step x next stmts one k = record {
  leads = λ w f i h.
      let a : Step = step_of x next (state_in w f) in
      subst (λ bad. LeadsOn bad (effect_of x a).go (effect_of x a) (state_in w f) stmts w) (one_refused w.pages.read (reads_of x a.regs a.fs a.gs) (one a)) (k a w (record {
        names = names_of_world w i;
        bytes = i.bytes;
        shows = record { regs = refl; fs = refl; gs = refl };
        flags = h;
        first = refl;
      }));
}

-- ---- what stays

-- flags, bases, memory, pages and calls are as before; registers and locals may differ
pub record KeepsRest (w u : World) : Type 0 where
  pub flags : (n : ℕ) → u.names (name.Flag n) ≡ w.names (name.Flag n)
  pub fs : u.names name.Fs ≡ w.names name.Fs
  pub gs : u.names name.Gs ≡ w.names name.Gs
  pub mem : u.mem ≡ w.mem
  pub pages : u.pages ≡ w.pages
  pub left : u.left ≡ w.left
  pub calls : u.calls ≡ w.calls

pub kept : (w : World) → KeepsRest w w
kept w = record { flags = λ n. refl; fs = refl; gs = refl; mem = refl; pages = refl; left = refl; calls = refl }

-- a local or a register is set
pub local_kept : (w u : World) (n x : ℕ) → KeepsRest w u → KeepsRest w (record u { names = with_name u.names (name.T n) x })
local_kept w u n x k = record { flags = k.flags; fs = k.fs; gs = k.gs; mem = k.mem; pages = k.pages; left = k.left; calls = k.calls }

pub reg_kept : (w u : World) (n x : ℕ) → KeepsRest w u → KeepsRest w (record u { names = with_name u.names (name.Reg n) x })
reg_kept w u n x k = record { flags = k.flags; fs = k.fs; gs = k.gs; mem = k.mem; pages = k.pages; left = k.left; calls = k.calls }

-- an operand was read
pub read_keeps : (a : Step) (w u : World) → AfterRead a w u → KeepsRest w u
read_keeps a w u r = record { flags = r.flags; fs = r.fs; gs = r.gs; mem = r.mem; pages = r.pages; left = r.left; calls = r.calls }

-- ---- writes

-- what is written besides changes neither flags nor where the run goes
pub put_flags : (size : Size) (d : Operand) (value : ℕ) (a : Step) (e : Effect) → (put size d value a e).flags ≡ e.flags
put_flags size (o.Reg n) value a e = refl
put_flags size (o.Mem m) value a e = refl
put_flags size (o.Imm k) value a e = refl

pub put_go : (size : Size) (d : Operand) (value : ℕ) (a : Step) (e : Effect) → (put size d value a e).go ≡ e.go
put_go size (o.Reg n) value a e = refl
put_go size (o.Mem m) value a e = refl
put_go size (o.Imm k) value a e = refl

-- an effect after which the run goes on
pub leads_next : (bad : Option ℕ) (e : Effect) (m : State) (stmts : List Stmt) (w u : World) → e.go ≡ go.Next → RunsTo (first_of bad (refused_store e m)) stmts w u
    → Stands (after e m) u → LeadsOn bad e.go e m stmts w
leads_next bad e m stmts w u g r s = subst (λ k. LeadsOn bad k e m stmts w) (sym g) (u, r, s)

-- a step that strays, once its read is made
pub leads_astray : (bad : Option ℕ) (a : Step) (m : State) (stmts : List Stmt) (w : World) → Faults bad stmts w → LeadsOn bad (stray a).go (stray a) m stmts w
leads_astray bad a m stmts w h = subst (λ o. Faults o stmts w) (sym (first_of_none bad)) h

-- the world after a write stands for the state after it
pub written_stands : (size : Size) (d : Operand) (value : ℕ) (a : Step) (f : Flags) (e : Effect) (w u t : World) → e.flags ≡ f → FlagsStand f w.names → KeepsRest w u
    → Written size d value a e u t → Stands (after (put size d value a e) (state_in w f)) t
written_stands size d value a f e w u t g h k r = record {
  regs = sym r.regs;
  flags = subst (λ x. FlagsStand x t.names) (sym (put_flags size d value a e ∙ g)) (flags_stay f w.names t.names (λ n. r.flags n ∙ k.flags n) h);
  fs = sym (r.fs ∙ k.fs);
  gs = sym (r.gs ∙ k.gs);
  mem = sym (r.mem ∙ ap (λ m. stored m (put size d value a e).store) k.mem);
  pages = sym (r.pages ∙ k.pages);
  left = sym (r.left ∙ k.left);
  calls = sym (r.calls ∙ k.calls);
}

-- from where a value is written to an operand after some statements, the run goes on
pub puts_from : (bad : Option ℕ) (size : Size) (d : Operand) (x : CExpr) (word value : ℕ) (a c : Step) (before : List Stmt) (w u : World) → FlagsStand a.flags w.names
    → RunsTo bad before w u → KeepsRest w u → AreNames u.names → Shows c u.names → word_of x u.names ≡ Some word → word < 2 ^ 32
    → low_part (bits_of size) word ≡ low_part (bits_of size) value
    → LeadsOn bad (put size d value c (done c a.flags)).go (put size d value c (done c a.flags)) (state_in w a.flags) (before ++ writes size d x) w
puts_from bad size d x word value a c before w u h r k names shows e l q =
    let put_there : Effect = put size d value c (done c a.flags) in
    let t = writes_run size d x word value c (done c a.flags) u names shows shows.regs refl e l q in
    leads_next bad put_there (state_in w a.flags) (before ++ writes size d x) w t.0 (put_go size d value c (done c a.flags))
    (write_after bad put_there.store before (writes size d x) k.mem k.pages k.calls r t.1) (written_stands size d value c a.flags (done c a.flags) w u t.0 refl h k t.2)

-- the same, where operands were read
pub puts_after_read : (bad : Option ℕ) (size : Size) (d : Operand) (x : CExpr) (word value : ℕ) (a : Step) (before : List Stmt) (w u : World) → FlagsStand a.flags w.names
    → RunsTo bad before w u → AfterRead a w u → word_of x u.names ≡ Some word → word < 2 ^ 32 → low_part (bits_of size) word ≡ low_part (bits_of size) value
    → LeadsOn bad (put size d value a (done a a.flags)).go (put size d value a (done a a.flags)) (state_in w a.flags) (before ++ writes size d x) w
puts_after_read bad size d x word value a before w u h r k e l q = puts_from bad size d x word value a a before w u h r (read_keeps a w u k) k.names k.shows e l q

-- the same, where no operand is read
pub puts_at_once : (size : Size) (d : Operand) (x : CExpr) (word value : ℕ) (a : Step) (w : World) → FlagsStand a.flags w.names
    → AreNames w.names → Shows a w.names → word_of x w.names ≡ Some word → word < 2 ^ 32 → low_part (bits_of size) word ≡ low_part (bits_of size) value
    → LeadsOn None (put size d value a (done a a.flags)).go (put size d value a (done a a.flags)) (state_in w a.flags) (writes size d x) w
puts_at_once size d x word value a w h names shows e l q = puts_from None size d x word value a a [] w w h (runs_allowed (none_run w)) (kept w) names shows e l q

-- ---- conditions

-- a step that reads flags strays once its read is made, or it does what it does with what they are known to be
pub reads_flags : (bad : Option ℕ) (known : Option Bool) (p : Bool) (a : Step) (k : Bool → Effect) (m : State) (stmts : List Stmt) (w : World) → IsKnownAs known p → Faults bad stmts w
    → LeadsOn bad (k p).go (k p) m stmts w → LeadsOn bad (reading known a k).go (reading known a k) m stmts w
reads_flags bad None p a k m stmts w h f l = leads_astray bad a m stmts w f
reads_flags bad (Some b) p a k m stmts w h f l = subst (λ b. LeadsOn bad (k b).go (k b) m stmts w) h l
