-- The function of a tree that follows the flow of a range is a function of the range.
use Rattle.std.proofs.Common.{◌≡◌, ◌⊎◌, inl, inr, ℕ, List, Option, Ok, Err, sym, ap, subst, ◌∙◌}
use Rattle.std.specs.Prelude.{IfOk, Result}
use Rattle.std.specs.declared.alloc.AllocError.{AllocError}
use Rattle.c_emit.specs.Emitted.{emitted}
use Rattle.std.proofs.Math.Path.{fun_ext}
use Rattle.elf_image.specs.declared.image.Segment.{Segment}
use Rattle.elf_image.specs.declared.range.Range.{Range}
use Rattle.dream_words.specs.declared.outcome.Outcome.{Outcome}
use Rattle.dream_words.specs.Agreement.{Agreeing}
use Rattle.dream_words.specs.declared.outcome.Start.{Start}
use Rattle.dream_words.specs.declared.outcome.Answer.{Answer}
use Rattle.dream_words.specs.Ranges.{AreAnswers}
use Rattle.x86_inst.specs.declared.Inst.{Inst}
use Rattle.machine.specs.Code.{Decodes}
use Rattle.machine.specs.Run.{IsStart, machine_run}
use Rattle.micro_ir.specs.declared.flow.Flow.{Flow}
use Rattle.micro_ir.specs.Rule.{IsGiven}
use Rattle.micro_ir.specs.Run.{flow_run}
use Rattle.guarded.specs.declared.tree.Tree.{Tree}
use Rattle.guarded.specs.Formed.{IsWellFormed as TreeIsWellFormed}
use Rattle.c_syntax.specs.declared.syntax.CFun.{CFun}
use Rattle.c_emit.specs.Laws.{IsTreeOf}
use Rattle.flow_graph.specs.Place.{HasNoPlace}
use Rattle.range_flow.specs.Flow.{AreCovering, IsFlowOf}
use Rattle.range_flow.proofs.RangePlan.{flows_agree}
use Rattle.flow_passes.specs.Keeps.{Keeps, JoinsRuns}
use Rattle.flow_passes.proofs.Agreed.{changed_agree}
use Rattle.regions.specs.Follows.{Follows}
use Rattle.regions.proofs.Agreed.{following}
use Rattle.regions.specs.Laws.{IsPlainOf, IsStraightOf}
use Rattle.dream_engine.specs.declared.form.Form.{Form}
use Rattle.dream_engine.specs.declared.form.Form.TheVariants.{Structured, Plain}
use Rattle.dream_engine.specs.Agreement.{Agrees, HasTurnsAtHeads, HasForm, IsSelectorLoop, IsStraightLine, IsFunctionOf}
use Rattle.dream_engine.specs.Short.{IsShortOf}
use Rattle.dream_engine.specs.Tree.{IsPlannedOf, IsTreeIn}

-- a flow that keeps what joins another is short for that
pub short_of : (f joined short : Flow) → IsGiven short → JoinsRuns f joined → Keeps joined short → IsShortOf f short
short_of f joined short given joins keeps = record {
  given = given;
  agrees = λ machine start answers r a.
      changed_agree.kept machine joined short start answers r keeps.runs (changed_agree.joined machine f joined start answers joins a);
}

-- the machine agrees with a flow that is short for that of the range
short_agrees : (m : List Segment) (r : Range) (places : List ℕ) (flow short : Flow) → AreCovering m r places → IsFlowOf m r places flow → IsShortOf flow short
    → (decoded : ℕ → Option (Inst × ℕ)) → Decodes m r decoded → (start : Start) → IsStart m start → (answers : List Answer) → AreAnswers answers
    → Agreeing (machine_run m r decoded start answers) (flow_run short start answers)
short_agrees m r places flow short covering is for decoded d start s answers a =
    for.agrees (machine_run m r decoded start answers) start answers (record { regs = s.regs; fs = s.fs; gs = s.gs; mem = s.bytes; answered = a })
    (flows_agree m r decoded places flow start answers d covering is s a)

-- what the tree's function agrees with
agrees_by : (m : List Segment) (r : Range) (places : List ℕ) (flow short : Flow) (t : Tree) (f : CFun) → AreCovering m r places → IsFlowOf m r places flow → IsShortOf flow short
    → Follows short t → IsTreeOf t f → f.address ≡ r.entry → Agrees m r f
agrees_by m r places flow short t f covering is for follows of e = record {
  address = e;
  runs = λ decoded d start s answers a. subst (λ run. Agreeing (machine_run m r decoded start answers) run) (sym (fun_ext (λ k. of.runs start answers k)))
      (following (machine_run m r decoded start answers) short t start answers (short_agrees m r places flow short covering is for decoded d start s answers a) follows);
}

plain_form : (flow : Flow) (t : Tree) (f : CFun) → IsPlainOf flow t → IsTreeOf t f → IsSelectorLoop f
plain_form flow t f p of = (of.loops ∙ p.loops, of.selectors p.formed ∙ p.selectors)

straight_form : (flow : Flow) (t : Tree) (f : CFun) → IsStraightOf flow t → IsTreeOf t f → IsStraightLine f
straight_form flow t f p of = (of.loops ∙ p.loops, of.tests ∙ p.tests, of.selectors p.formed ∙ p.selectors)

-- the turns of a planned tree are those of its function
planned_form : (m : List Segment) (r : Range) (places : List ℕ) (flow short : Flow) (t : Tree) (f : CFun) → AreCovering m r places → IsFlowOf m r places flow → IsShortOf flow short
    → IsPlannedOf short t → IsTreeOf t f → HasTurnsAtHeads m r f
planned_form m r places flow short t f covering is for p of = record {
  flow = short;
  head = p.0;
  agrees = short_agrees m r places flow short covering is for;
  turns = λ start answers never k ended. of.runs start answers _ ∙ p.1.turns start answers never k ended;
}

has_form : (form : Form) (m : List Segment) (r : Range) (places : List ℕ) (flow short : Flow) (t : Tree) (f : CFun) → AreCovering m r places → IsFlowOf m r places flow
    → IsShortOf flow short → IsTreeIn form short t → IsTreeOf t f → HasForm form m r f
has_form Plain m r places flow short t f covering is for p of = plain_form short t f p of
has_form Structured m r places flow short t f covering is for (inl p) of = inl (straight_form short t f p of)
has_form Structured m r places flow short t f covering is for (inr (inl p)) of = inr (inl (planned_form m r places flow short t f covering is for p of))
has_form Structured m r places flow short t f covering is for (inr (inr p)) of = inr (inr (plain_form short t f p of))

tree_formed : (form : Form) (flow : Flow) (t : Tree) → IsTreeIn form flow t → TreeIsWellFormed t
tree_formed Plain flow t p = p.formed
tree_formed Structured flow t (inl p) = p.formed
tree_formed Structured flow t (inr (inl p)) = p.1.formed
tree_formed Structured flow t (inr (inr p)) = p.formed

tree_follows : (form : Form) (flow : Flow) (t : Tree) → IsTreeIn form flow t → Follows flow t
tree_follows Plain flow t p = p.follows
tree_follows Structured flow t (inl p) = p.follows
tree_follows Structured flow t (inr (inl p)) = p.1.follows
tree_follows Structured flow t (inr (inr p)) = p.follows

-- all of it
pub composed : (form : Form) (m : List Segment) (r : Range) (places : List ℕ) (flow short : Flow) (t : Tree) (f : CFun) → HasNoPlace m r → AreCovering m r places
    → IsFlowOf m r places flow → IsShortOf flow short → IsTreeIn form short t → IsTreeOf t f → f.address ≡ r.entry → IsFunctionOf form m r f
composed form m r places flow short t f none covering is for p of e = record {
  no_place = none;
  formed = of.formed (tree_formed form short t p);
  in_form = has_form form m r places flow short t f covering is for p of;
  agrees = agrees_by m r places flow short t f covering is for (tree_follows form short t p) of e;
}

-- the function that is made of the tree, where one is
pub composed_result : (form : Form) (m : List Segment) (r : Range) (places : List ℕ) (flow short : Flow) (t : Tree) (o : Result CFun AllocError) → HasNoPlace m r → AreCovering m r places
    → IsFlowOf m r places flow → IsShortOf flow short → IsTreeIn form short t → IfOk o (λ f. f ≡ emitted t r.entry) → IfOk o (λ f. IsTreeOf t f) → IfOk o (IsFunctionOf form m r)
composed_result form m r places flow short t (Ok f) none covering is for p e of = composed form m r places flow short t f none covering is for p of (ap (λ g. g.address) e)
composed_result form m r places flow short t (Err x) none covering is for p e of = tt
