-- The headline: when a function of C means what a range of machine code means.
use Rattle.std.specs.Prelude.{◌≡◌, ◌⊎◌, ℕ, Bool, List, Option}
use Rattle.elf_image.specs.declared.image.Segment.{Segment}
use Rattle.elf_image.specs.declared.range.Range.{Range}
use Rattle.dream_words.specs.declared.outcome.Start.{Start}
use Rattle.dream_words.specs.declared.outcome.Answer.{Answer}
use Rattle.dream_words.specs.Ranges.{AreAnswers}
use Rattle.dream_words.specs.Agreement.{Agreeing}
use Rattle.dream_words.specs.Same.{IsEnded}
use Rattle.x86_inst.specs.declared.Inst.{Inst}
use Rattle.machine.specs.Code.{Decodes}
use Rattle.machine.specs.Run.{IsStart, machine_run}
use Rattle.run_parts.specs.World.{start_world}
use Rattle.c_syntax.specs.declared.syntax.CFun.{CFun}
use Rattle.c_syntax.specs.Formed.{IsWellFormed}
use Rattle.c_syntax.specs.Run.{c_run}
use Rattle.c_syntax.specs.Text.{canonical_text}
use Rattle.c_syntax.specs.Stands.{StandsFor}
use Rattle.micro_ir.specs.declared.flow.Flow.{Flow}
use Rattle.micro_ir.specs.Run.{flow_run}
use Rattle.flow_passes.specs.Along.{NeverStuck}
use Rattle.flow_plans.specs.Laws.{heads_entered}
use Rattle.guarded.specs.Counts.{loops_in, tests_in, selectors_in}
use Rattle.flow_graph.specs.Place.{HasNoPlace}
use Rattle.dream_engine.specs.declared.form.Form.{Form}
use Rattle.dream_engine.specs.declared.form.Form.TheVariants.{Structured, Plain}

-- The function has the range's address, and from every start, with every list of answers, it agrees with the machine.
pub record Agrees (m : List Segment) (r : Range) (f : CFun) : Type 0 where
  pub address : f.address ≡ r.entry
  pub runs : (decoded : ℕ → Option (Inst × ℕ)) → Decodes m r decoded → (start : Start) → IsStart m start → (answers : List Answer) → AreAnswers answers
      → Agreeing (machine_run m r decoded start answers) (c_run f start answers)

-- one loop, and one selector
abbrev pub IsSelectorLoop : CFun → Type 0
IsSelectorLoop f = (loops_in f ≡ 1) × (selectors_in f ≡ 1)

-- no loop, no test and no selector
abbrev pub IsStraightLine : CFun → Type 0
IsStraightLine f = (loops_in f ≡ 0) × (tests_in f ≡ 0) × (selectors_in f ≡ 0)

-- No loop turn is made but where a head is entered: there are a flow that agrees with the machine, and heads among its blocks,
-- such that where a run of the flow has ended the function has ended so in as many loop turns as heads were entered.
pub record HasTurnsAtHeads (m : List Segment) (r : Range) (f : CFun) : Type 0 where
  pub flow : Flow
  pub head : ℕ → Bool
  pub agrees : (decoded : ℕ → Option (Inst × ℕ)) → Decodes m r decoded → (start : Start) → IsStart m start → (answers : List Answer) → AreAnswers answers
      → Agreeing (machine_run m r decoded start answers) (flow_run flow start answers)
  pub turns : (start : Start) (answers : List Answer) → NeverStuck (flow_run flow start answers) → (k : ℕ) → IsEnded (flow_run flow start answers k)
      → c_run f start answers (heads_entered flow.blocks head k flow.entry (start_world start answers)) ≡ flow_run flow start answers k

-- What a form is: the plain one is one loop with one selector. The structured one is a straight line, or has loop turns at heads
-- alone, or is the plain one.
abbrev pub HasForm : Form → List Segment → Range → CFun → Type 0
HasForm Plain m r f = IsSelectorLoop f
HasForm Structured m r f = IsStraightLine f ⊎ (HasTurnsAtHeads m r f ⊎ IsSelectorLoop f)

-- The function of a range: no place is named, it is well formed, it has its form, and it agrees with the range.
pub record IsFunctionOf (form : Form) (m : List Segment) (r : Range) (f : CFun) : Type 0 where
  pub no_place : HasNoPlace m r
  pub formed : IsWellFormed f
  pub in_form : HasForm form m r f
  pub agrees : Agrees m r f

-- The text is the canonical one of a function of the range, and it stands for that function.
pub record IsDecompiled (form : Form) (m : List Segment) (r : Range) (text : List ℕ) : Type 0 where
  pub function : CFun
  pub is_function : IsFunctionOf form m r function
  pub is_canonical : text ≡ canonical_text function
  pub stands : StandsFor text function
