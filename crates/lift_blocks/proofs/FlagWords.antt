-- What statements lead to that set flags to the six words of an operation, and write its result after them.
use Rattle.std.proofs.Common.{◌≡◌, ℕ, ◌^◌, ◌<◌, List, [], ◌∷◌, ◌++◌, Option, Some, None, refl, sym, ap, ◌∙◌, subst, lit<}
use Rattle.std.specs.Prelude.{IsSome}
use Rattle.dream_words.specs.declared.machine.Bit.{Bit}
use Rattle.dream_words.specs.declared.machine.Bit.TheVariants.{Zero, One, Undefined}
use Rattle.dream_words.specs.declared.machine.Flags.{Flags}
use Rattle.dream_words.specs.declared.machine.Name.TheVariants as name
use Rattle.dream_words.specs.Words.{low_part}
use Rattle.run_parts.specs.Effects.{set_word}
use Rattle.run_parts.specs.World.{Names, World, regs_in, with_name}
use Rattle.x86_inst.specs.declared.Size.{Size}
use Rattle.x86_inst.specs.declared.Operand.{Operand}
use Rattle.x86_model.specs.declared.effect.Step.{Step}
use Rattle.x86_model.specs.declared.effect.Stored.{Stored}
use Rattle.x86_model.specs.Effects.{done, put, known}
use Rattle.x86_model.specs.Leads.{after, stored}
use Rattle.x86_model.specs.Operands.{bits_of}
use Rattle.c_syntax.specs.declared.syntax.CExpr.{CExpr}
use Rattle.c_syntax.specs.Value.{word_of}
use Rattle.c_words.proofs.Layers.{word_layer}
use Rattle.micro_ir.specs.declared.flow.Stmt.{Stmt}
use Rattle.micro_ir.specs.declared.flow.Stmt.TheVariants as stmt
use Rattle.lift_parts.specs.Parts.{temp, writes}
use Rattle.lift_parts.specs.Shown.{AreNames, Runs, RunsTo, Shows, ShowsRead}
use Rattle.lift_parts.specs.Stands.{FlagsStand, Stands, StandsFor, state_in}
use Rattle.lift_parts.proofs.Chains.{none_run, runs_allowed, runs_append, runs_to_append, set_runs, set_runs_to}
use Rattle.lift_parts.proofs.Kept.{AfterRead, flags_stay}
use Rattle.lift_parts.proofs.Writes.{Written, names_set, shows_flag, shows_temp, write_after, writes_run}
use Rattle.lift_alu.specs.declared.alu.AluLift.{AluLift}
use Rattle.lift_alu.specs.Lifts.{Lifts, Shows as IsShownBy}
use Rattle.lift_blocks.specs.Flags.{computes, sets_but_carry, sets_flags}
use Rattle.lift_blocks.specs.Effects.{LeadsOn}
use Rattle.lift_blocks.proofs.Common.{leads_next, put_flags, put_go}

-- ---- what is known while flags are set

-- What the words of an operation see: the names show its step, its operands were read, and CF is a word.
pub record Sees (size : Size) (d s : Operand) (a : Step) (k : ℕ) (v : Names) : Type 0 where
  pub names : AreNames v
  pub shows : Shows a v
  pub first : ShowsRead size d a v
  pub second : ShowsRead size s a v
  pub carry : v (name.Flag 0) ≡ k

-- registers, bases, t2, memory, the pages, the answers and the calls are as before
pub record Stays (w u : World) : Type 0 where
  pub regs : regs_in u.names ≡ regs_in w.names
  pub fs : u.names name.Fs ≡ w.names name.Fs
  pub gs : u.names name.Gs ≡ w.names name.Gs
  pub result : u.names (name.T 2) ≡ w.names (name.T 2)
  pub mem : u.mem ≡ w.mem
  pub pages : u.pages ≡ w.pages
  pub left : u.left ≡ w.left
  pub calls : u.calls ≡ w.calls

-- no flag is undefined
pub record AreKnown (f : Flags) : Type 0 where
  pub c : IsSome (known f.c)
  pub p : IsSome (known f.p)
  pub z : IsSome (known f.z)
  pub s : IsSome (known f.s)
  pub o : IsSome (known f.o)

-- six words give a result and flags to all names that see so
pub record Give (size : Size) (d s : Operand) (a : Step) (k : ℕ) (l : AluLift) (value : ℕ) (f : Flags) : Type 0 where
  pub lifts : (v : Names) → Sees size d s a k v → Lifts v l value f
  pub known : AreKnown f
  pub fits : value < 2 ^ 32

-- What is known once OF, SF, ZF and PF are set, and once all flags are.
pub record FourSet (size : Size) (d s : Operand) (a : Step) (k : ℕ) (f : Flags) (w u : World) : Type 0 where
  pub sees : Sees size d s a k u.names
  pub stays : Stays w u
  pub parity : StandsFor f.p (u.names (name.Flag 1))
  pub zero : StandsFor f.z (u.names (name.Flag 2))
  pub sign : StandsFor f.s (u.names (name.Flag 3))
  pub overflow : StandsFor f.o (u.names (name.Flag 4))

pub record AllSet (a : Step) (f : Flags) (w u : World) : Type 0 where
  pub names : AreNames u.names
  pub shows : Shows a u.names
  pub flags : FlagsStand f u.names
  pub stays : Stays w u

-- statements lead from a world to one of which something is known
abbrev pub Leading : (World → Type 0) → List Stmt → World → Type 0
Leading P stmts w = (u : World) × Runs stmts w u × P u

-- a word that stands for a flag
abbrev HasWord : Bit → Option ℕ → Type 0
HasWord b o = (x : ℕ) × (o ≡ Some x) × (x < 2 ^ 32) × StandsFor b x

word_shown : (b : Bit) (o : Option ℕ) → IsSome (known b) → IsShownBy b o → HasWord b o
word_shown Zero o k h = (0, h, lit< tt, refl)
word_shown One o k h = (1, h, lit< tt, refl)
word_shown Undefined o k h = absurd cc

temp_is : (v : Names) (n : ℕ) → word_of (temp n) v ≡ Some (v (name.T n))
temp_is v n = simp word_layer refl

module _ (size : Size) (d s : Operand) (a : Step) (k : ℕ) where
  abbrev See : Names → Type 0
  See v = Sees size d s a k v

  -- ---- one flag

  -- t2 is seen by none of the words, and of the flags they see CF alone
  sees_result : (v : Names) (x : ℕ) → x < 2 ^ 32 → See v → See (with_name v (name.T 2) x)
  sees_result v x l h = record {
    names = names_set v (name.T 2) x h.names l;
    shows = shows_temp a v 2 x h.shows;
    first = record { read = h.first.read };
    second = record { read = h.second.read };
    carry = h.carry;
  }

  sees_flag : (v : Names) (n x : ℕ) → x < 2 ^ 32 → with_name v (name.Flag n) x (name.Flag 0) ≡ v (name.Flag 0) → See v → See (with_name v (name.Flag n) x)
  sees_flag v n x l e h = record {
    names = names_set v (name.Flag n) x h.names l;
    shows = shows_flag a v n x h.shows;
    first = record { read = h.first.read };
    second = record { read = h.second.read };
    carry = e ∙ h.carry;
  }

  -- a flag other than CF is set, and the rest leads on from there
  sets_flag : (P : World → Type 0) (n : ℕ) (e : CExpr) (b : Bit) (rest : List Stmt) (w : World)
      → ((x : ℕ) → with_name w.names (name.Flag n) x (name.Flag 0) ≡ w.names (name.Flag 0)) → IsSome (known b) → IsShownBy b (word_of e w.names) → See w.names
      → ((x : ℕ) → StandsFor b x → See (with_name w.names (name.Flag n) x) → Leading P rest (set_word (name.Flag n) x w)) → Leading P (stmt.Set (name.Flag n) e ∷ rest) w
  sets_flag P n e b rest w apart g i h then =
      let x = word_shown b (word_of e w.names) g i in
      let t = then x.0 x.3 (sees_flag w.names n x.0 x.2 (apart x.0) h) in
      (t.0, set_runs (name.Flag n) e x.0 x.1 t.1, t.2)

  -- ---- all flags

  module _ (l : AluLift) (value : ℕ) (f : Flags) (give : Give size d s a k l value f) where
    four_set : (w : World) → See w.names → Leading (FourSet size d s a k f w) (sets_but_carry l) w
    four_set w h =
        let P : World → Type 0 = FourSet size d s a k f w in
        sets_flag P 4 l.o f.o _ w (λ x. refl) give.known.o (give.lifts w.names h).o h (λ overflow is_overflow sees4.
        let w4 : World = set_word (name.Flag 4) overflow w in
        sets_flag P 3 l.s f.s _ w4 (λ x. refl) give.known.s (give.lifts w4.names sees4).s sees4 (λ sign is_sign sees3.
        let w3 : World = set_word (name.Flag 3) sign w4 in
        sets_flag P 2 l.z f.z _ w3 (λ x. refl) give.known.z (give.lifts w3.names sees3).z sees3 (λ zero is_zero sees2.
        let w2 : World = set_word (name.Flag 2) zero w3 in
        sets_flag P 1 l.p f.p [] w2 (λ x. refl) give.known.p (give.lifts w2.names sees2).p sees2 (λ parity is_parity sees1.
        let w1 : World = set_word (name.Flag 1) parity w2 in (
          w1,
          none_run w1,
          record {
            sees = sees1;
            stays = record { regs = refl; fs = refl; gs = refl; result = refl; mem = refl; pages = refl; left = refl; calls = refl };
            parity = is_parity;
            zero = is_zero;
            sign = is_sign;
            overflow = is_overflow;
          },
        )))))

    pub all_set : (w : World) → See w.names → Leading (AllSet a f w) (sets_flags l) w
    all_set w h =
        let (u, runs, four) = four_set w h in
        let x = word_shown f.c (word_of l.c u.names) give.known.c (give.lifts u.names four.sees).c in (
          set_word (name.Flag 0) x.0 u,
          runs_append (sets_but_carry l) (stmt.Set (name.Flag 0) l.c ∷ []) runs (set_runs (name.Flag 0) l.c x.0 x.1 (none_run _)),
          record {
            names = names_set u.names (name.Flag 0) x.0 four.sees.names x.2;
            shows = shows_flag a u.names 0 x.0 four.sees.shows;
            flags = record { c = x.3; p = four.parity; z = four.zero; s = four.sign; o = four.overflow };
            stays = record {
              regs = four.stays.regs;
              fs = four.stays.fs;
              gs = four.stays.gs;
              result = four.stays.result;
              mem = four.stays.mem;
              pages = four.stays.pages;
              left = four.stays.left;
              calls = four.stays.calls;
            };
          },
        )

    -- the same, where CF is kept
    pub all_but_carry_set : (b : Bit) → StandsFor b k → (w : World) → See w.names → Leading (AllSet a (record f { c = b }) w) (sets_but_carry l) w
    all_but_carry_set b c w h =
        let (u, runs, four) = four_set w h in (
          u,
          runs,
          record {
            names = four.sees.names;
            shows = four.sees.shows;
            flags = record { c = subst (StandsFor b) (sym four.sees.carry) c; p = four.parity; z = four.zero; s = four.sign; o = four.overflow };
            stays = four.stays;
          },
        )

  -- ---- the whole

  module _ (f : Flags) (flags : List Stmt) (sets : (w : World) → See w.names → Leading (AllSet a f w) flags w) where
    -- after the reads the flags are set, and the run goes on
    pub flags_on : (bad : Option ℕ) (before : List Stmt) (w u : World) → RunsTo bad before w u → AfterRead a w u → See u.names
        → LeadsOn bad (done a f).go (done a f) (state_in w a.flags) (before ++ flags) w
    flags_on bad before w u r after_read h =
        let (t, runs, all) = sets u h in (
          t,
          runs_to_append bad None before flags after_read.mem after_read.calls r (runs_allowed runs),
          record {
            regs = sym all.shows.regs;
            flags = all.flags;
            fs = sym (all.stays.fs ∙ after_read.fs);
            gs = sym (all.stays.gs ∙ after_read.gs);
            mem = sym (all.stays.mem ∙ after_read.mem);
            pages = sym (all.stays.pages ∙ after_read.pages);
            left = sym (all.stays.left ∙ after_read.left);
            calls = sym (all.stays.calls ∙ after_read.calls);
          },
        )

    -- the world after a result is written stands for the state after it
    result_stands : (value : ℕ) (w u t r : World) → AfterRead a w u → AllSet a f u t → Written size d value a (done a f) t r
        → Stands (after (put size d value a (done a f)) (state_in w a.flags)) r
    result_stands value w u t r read all written = record {
      regs = sym written.regs;
      flags = subst (λ x. FlagsStand x r.names) (sym (put_flags size d value a (done a f))) (flags_stay f t.names r.names written.flags all.flags);
      fs = sym (written.fs ∙ all.stays.fs ∙ read.fs);
      gs = sym (written.gs ∙ all.stays.gs ∙ read.gs);
      mem = sym (written.mem ∙ ap (λ m. stored m (put size d value a (done a f)).store) (all.stays.mem ∙ read.mem));
      pages = sym (written.pages ∙ all.stays.pages ∙ read.pages);
      left = sym (written.left ∙ all.stays.left ∙ read.left);
      calls = sym (written.calls ∙ all.stays.calls ∙ read.calls);
    }

    -- after the reads the result is kept, the flags are set, and the result is written
    pub computes_on : (bad : Option ℕ) (result : CExpr) (value : ℕ) → value < 2 ^ 32 → (before : List Stmt) (w u : World) → RunsTo bad before w u → AfterRead a w u → See u.names
        → word_of result u.names ≡ Some value
        → LeadsOn bad (put size d value a (done a f)).go (put size d value a (done a f)) (state_in w a.flags) (before ++ computes size d flags result) w
    computes_on bad result value fits before w u r read h e =
        let v : World = set_word (name.T 2) value u in
        let (t, runs, all) = sets v (sees_result u.names value fits h) in
        let (last, ends, written) = writes_run size d (temp 2) (t.names (name.T 2)) value a (done a f) t all.names all.shows all.shows.regs refl
        (temp_is t.names 2) (all.names.words (name.T 2)) (ap (low_part (bits_of size)) all.stays.result) in
        let o : Option Stored = (put size d value a (done a f)).store in
        leads_next bad (put size d value a (done a f)) (state_in w a.flags) (before ++ computes size d flags result) w last (put_go size d value a (done a f))
        (write_after bad o before (computes size d flags result) read.mem read.pages read.calls r
        (set_runs_to _ (name.T 2) result value e (write_after None o flags (writes size d (temp 2)) all.stays.mem all.stays.pages all.stays.calls (runs_allowed runs) ends)))
        (result_stands value w v t last (record {
          shows = shows_temp a u.names 2 value read.shows;
          names = names_set u.names (name.T 2) value read.names fits;
          regs = read.regs;
          flags = read.flags;
          fs = read.fs;
          gs = read.gs;
          mem = read.mem;
          pages = read.pages;
          left = read.left;
          calls = read.calls;
        }) all written)
