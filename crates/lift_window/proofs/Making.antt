-- The two blocks are those of the window.
use Rattle.std.proofs.Common.{◌≡◌, inl, inr, ℕ, zero, suc, ◌+◌, ◌%◌, ◌^◌, ◌<◌, ◌≤◌, Bool, true, false, nat_eq, nat_lt, if◌then◌else◌, List, [], ◌∷◌, ◌++◌, take, Option, Some, None, refl, sym, ap, ◌∙◌, subst, arith, append_assoc}
use Rattle.std.specs.Prelude.{◌&&◌, IsTrue, unwrap_or}
use Rattle.std.specs.List.{list_any}
use Rattle.std.proofs.lemmas.Bool.{cases_eq, eq-eqb, ne_eqb}
use Rattle.std.proofs.lemmas.Nat.{mod_below, pow_pos}
use Rattle.elf_image.specs.declared.image.Segment.{Segment}
use Rattle.elf_image.specs.declared.range.Range.{Range}
use Rattle.elf_image.specs.Range.{bytes_to_end}
use Rattle.dream_words.specs.declared.machine.Name.TheVariants as name
use Rattle.x86_inst.specs.declared.AluOp.TheVariants.{Cmp}
use Rattle.x86_inst.specs.declared.Inst.{Inst}
use Rattle.x86_inst.specs.declared.Inst.TheVariants as i
use Rattle.x86_inst.specs.declared.Operand.TheVariants as o
use Rattle.x86_model.specs.Operands.{bits_of}
use Rattle.run_parts.specs.Steps.{Nowhere, To}
use Rattle.run_parts.specs.World.{World}
use Rattle.c_syntax.specs.declared.syntax.CCond.{CCond}
use Rattle.micro_ir.specs.declared.flow.Block.{Block}
use Rattle.micro_ir.specs.declared.flow.Case.{Case}
use Rattle.micro_ir.specs.declared.flow.Stmt.{Stmt}
use Rattle.micro_ir.specs.Rule.{are_flow_stmts, have_words, is_flow_block, is_flow_cond, is_flow_end}
use Rattle.micro_ir.specs.Run.{Arrive, first_case}
use Rattle.lift_parts.specs.Parts.{raw_word}
use Rattle.lift_parts.proofs.Fit.{below_test, both_hold}
use Rattle.lift_parts.proofs.Sureness.{both_true}
use Rattle.lift_alu.specs.Lifts.{IsKnownAs}
use Rattle.lift_alu.specs.Words.{alu_words, cond_words}
use Rattle.lift_alu.proofs.Truths.{cond_truth}
use Rattle.lift_blocks.specs.Ends.{branches, goes_on}
use Rattle.lift_blocks.specs.Flags.{sets_flags}
use Rattle.lift.specs.Blocks.{alu_stmts, block_of}
use Rattle.lift.proofs.All.{blocks_are}
use Rattle.jump_tables.specs.declared.table.TableWindow.{TableWindow}
use Rattle.jump_tables.specs.Window.{IsWindow, next_of}
use Rattle.window_steps.specs.Knowledge.{is_above}
use Rattle.window_blocks.specs.Locals.{sets}
use Rattle.window_blocks.specs.Path.{LiftedPath}
use Rattle.window_blocks.specs.Shapes.{first_end, first_of, last_of, last_stmts}
use Rattle.window_blocks.proofs.First.{Tells}
use Rattle.window_blocks.proofs.Second.{CasesLead}
use Rattle.window_blocks.proofs.Straight.{IsStraight}
use Rattle.window_blocks.proofs.Whole.{AreParts, window_calls, window_covered, window_rule, window_stores}
use Rattle.lift_window.specs.Window.{AreWindowBlocks, EndsFirst, entry_cases}
use Rattle.lift_window.specs.Parts.{parts_of}
use Rattle.lift_window.specs.Walk.{IsPathLifted}
use Rattle.lift_window.specs.declared.parts.Parts.{Parts}
use Rattle.c_words.specs.Built.{name as named}
use Rattle.micro_ir.specs.declared.flow.End.TheVariants as end

-- ---- the cases

case_left_by : (b : Bool) (c : Case) (xs ys : List Case) (x k : ℕ) (w : World) → (first_case xs x w ≡ To k w → first_case (xs ++ ys) x w ≡ To k w)
    → ◌≡◌ {A = Arrive} (if b then To c.to w else first_case xs x w) (To k w) → ◌≡◌ {A = Arrive} (if b then To c.to w else first_case (xs ++ ys) x w) (To k w)
case_left_by true c xs ys x k w rest h = h
case_left_by false c xs ys x k w rest h = rest h

case_left : (xs ys : List Case) (x k : ℕ) (w : World) → first_case xs x w ≡ To k w → first_case (xs ++ ys) x w ≡ To k w
case_left [] ys x k w h = absurd (let e : ◌≡◌ {A = Arrive} Nowhere (To k w) = h in let z : ⊥ = cc in z)
case_left (c ∷ xs) ys x k w h = case_left_by (nat_eq x c.value) c xs ys x k w (case_left xs ys x k w) h

-- what has none of the values passes them
case_passed : (n : ℕ) (ys : List Case) (x : ℕ) (w : World) → n ≤ x → first_case (entry_cases n ++ ys) x w ≡ first_case ys x w
case_passed zero ys x w h = refl
case_passed (suc n) ys x w h =
    let c : Case = record { value = n; to = 3 + n } in
    let other : nat_eq x n ≡ false = ne_eqb x n (λ e. omega (arith, e, h)) in
    ap (λ cs. first_case cs x w) (append_assoc (entry_cases n) (c ∷ []) ys)
    ∙ case_passed n (c ∷ ys) x w (omega (arith, h))
    ∙ ap (λ b. if b then To (3 + n) w else first_case ys x w) other

case_found : (n x : ℕ) (w : World) → x < n → first_case (entry_cases n) x w ≡ To (3 + x) w
case_found zero x w h = absurd (let z : ⊥ = omega (arith, h) in z)
case_found (suc n) x w h =
    let c : Case = record { value = n; to = 3 + n } in
    elim (cases_eq x n) [
      | inl e ↦ case_passed n (c ∷ []) x w (omega (arith, e)) ∙ ap (λ b. if b then To (3 + n) w else Nowhere) (eq-eqb x n e) ∙ ap (λ k. To (3 + k) w) (sym e)
      | inr ne ↦ case_left (entry_cases n) (c ∷ []) x (3 + x) w (case_found n x w (omega (arith, h, ne)))
    ]

words_append : (xs ys : List Case) → IsTrue (have_words xs) → IsTrue (have_words ys) → IsTrue (have_words (xs ++ ys))
words_append [] ys h k = k
words_append (c ∷ xs) ys h k = let p = both_true (nat_lt c.value (2 ^ 32)) (have_words xs) h in both_hold (nat_lt c.value (2 ^ 32)) (have_words (xs ++ ys)) p.0 (words_append xs ys p.1 k)

cases_words : (n : ℕ) → n ≤ 1024 → IsTrue (have_words (entry_cases n))
cases_words zero h = refl
cases_words (suc n) h =
    words_append (entry_cases n) (record { value = n; to = 3 + n } ∷ []) (cases_words n (omega (arith, h))) (both_hold (nat_lt n (2 ^ 32)) true (below_test n (2 ^ 32) (omega (arith, h))) refl)

-- ---- the comparison and the condition

next_below : (a n : ℕ) → next_of a n < 2 ^ 32
next_below a n = mod_below (a + n) (2 ^ 32) (pow_pos 32)

tells_is : (c : ℕ) → Tells c (cond_words c)
tells_is c = record { tells = λ v f h. let (p, t, k) = (cond_truth c).truth v f h in (p, t, λ b e. subst (λ q. IsKnownAs q p) e k) }

module _ (m : List Segment) (r : Range) (a : ℕ) (w : TableWindow) (win : IsWindow m r a w) where
  abbrev compare : Inst
  compare = i.Alu Cmp win.index.size win.index.operand (o.Imm win.bound)

  abbrev compare_stmts : List Stmt
  compare_stmts = alu_stmts Cmp win.index.size win.index.operand (o.Imm win.bound)

  abbrev compare_block : Block
  compare_block = goes_on a (alu_stmts Cmp win.index.size win.index.operand (o.Imm win.bound))

  compare_straight : IsStraight (i.Alu Cmp win.index.size win.index.operand (o.Imm win.bound)) a (next_of a win.compare_size) (goes_on a (alu_stmts Cmp win.index.size win.index.operand (o.Imm win.bound)))
  compare_straight = record {
    blocks = blocks_are (i.Alu Cmp win.index.size win.index.operand (o.Imm win.bound)) a (next_of a win.compare_size) (goes_on a (alu_stmts Cmp win.index.size win.index.operand (o.Imm win.bound)))
        (next_below a win.compare_size) refl refl refl refl (take win.compare_size (bytes_to_end m r a), win.compares.spelled);
    one = refl;
    goes = refl;
    no_store = refl;
    no_ask = refl;
    plain = tt;
  }

  branch_flow : IsTrue (is_flow_cond (cond_words win.condition.0))
  branch_flow =
      let at : ℕ = next_of a win.compare_size in
      let next : ℕ = next_of (next_of a win.compare_size) win.branch_size in
      let block : Block = branches at [] (cond_words win.condition.0) in
      let blocks = blocks_are (i.Jcc win.condition win.distance) at next block (next_below at win.branch_size) refl refl refl refl (take win.branch_size (bytes_to_end m r at), win.branches.spelled) in
      (both_true (are_flow_stmts []) (is_flow_cond (cond_words win.condition.0)) (both_true (is_flow_block block) true blocks.rule).0).1

  ends_first : (above : Bool) (t : CCond) → EndsFirst (first_end above t)
  ends_first true t = inl (refl, refl)
  ends_first false t = inr (refl, refl)

  module _ (saved : ℕ) (path : List Stmt) (local : saved < 2 ^ 31) (unset : list_any (sets saved) (last_stmts win.goal path) ≡ false) (lifted : LiftedPath m r w.path w.jump win.insts path) where
    abbrev flags : List Stmt
    flags = sets_flags (alu_words Cmp (bits_of win.index.size) (raw_word win.index.size win.index.operand) (raw_word win.index.size (o.Imm win.bound)))

    parts : AreParts m r a w win saved (cond_words win.condition.0) compare_block flags path (entry_cases w.count)
    parts = record {
      compare = compare_straight;
      shape = refl;
      flags_keep = refl;
      tells = tells_is win.condition.0;
      lifted = lifted;
      keeps = unset;
      case_leads = record { leads = λ x u l. case_found w.count x u l };
    }

    pub made : AreWindowBlocks m r a w
        (first_of a win.index.size win.index.operand win.condition.0 saved (cond_words win.condition.0) (alu_stmts Cmp win.index.size win.index.operand (o.Imm win.bound))
        ∷ last_of w.path win.goal saved path (entry_cases w.count) ∷ [])
    made = record {
      covered = λ decoded start d. window_covered m r a w win saved (cond_words win.condition.0) compare_block flags path (entry_cases w.count) parts decoded d start;
      ends = (ends_first (is_above win.condition.0) (cond_words win.condition.0), record { saved = saved; switches = refl });
      rule = window_rule m r a w win saved (cond_words win.condition.0) compare_block flags path (entry_cases w.count) parts local branch_flow (cases_words w.count win.most);
      stores = window_stores m r a w win saved (cond_words win.condition.0) compare_block flags path (entry_cases w.count) parts;
      calls = window_calls m r a w win saved (cond_words win.condition.0) compare_block flags path (entry_cases w.count) parts;
    }

  -- ---- as the code makes them

  pub made_by : (blocks : List Block) (first last : Block) (p : Parts) (saved : ℕ) (path stmts : List Stmt) → p ≡ parts_of win → IsPathLifted m r w path → stmts ≡ last_stmts p.goal path → saved < 2 ^ 31
      → list_any (sets saved) stmts ≡ false
      → first ≡ first_of a p.compared.size p.compared.index p.condition.0 saved (cond_words p.condition.0) (alu_stmts Cmp p.compared.size p.compared.index (o.Imm p.compared.bound))
      → last ≡ record { at = w.path; stmts = stmts; end = end.Switch (named (name.T saved)) (entry_cases w.count) }
      → blocks ≡ first ∷ last ∷ [] → AreWindowBlocks m r a w blocks
  made_by blocks first last p saved path stmts same lifted s local unset f l e =
      let s1 : stmts ≡ last_stmts win.goal path = s ∙ ap (λ (q : Parts). last_stmts q.goal path) same in
      let f1 = f ∙ ap (λ (q : Parts). first_of a q.compared.size q.compared.index q.condition.0 saved (cond_words q.condition.0) (alu_stmts Cmp q.compared.size q.compared.index (o.Imm q.compared.bound))) same in
      let l1 : last ≡ last_of w.path win.goal saved path (entry_cases w.count) = l ∙ ap (λ ss. record { at = w.path; stmts = ss; end = end.Switch (named (name.T saved)) (entry_cases w.count) }) s1 in
      let e1 = e ∙ ap (λ b. b ∷ last ∷ []) f1
      ∙ ap (λ b. first_of a win.index.size win.index.operand win.condition.0 saved (cond_words win.condition.0) (alu_stmts Cmp win.index.size win.index.operand (o.Imm win.bound)) ∷ b ∷ []) l1 in
      subst (λ bs. AreWindowBlocks m r a w bs) (sym e1) (made saved path local (subst (λ ss. list_any (sets saved) ss ≡ false) s1 unset) (lifted a win))

-- the parts that are found are those of the window
pub never_none : (p : Parts) (d : Option Parts) → d ≡ None → d ≡ Some p → ⊥
never_none p d e f = let g : ◌≡◌ {A = Option Parts} None (Some p) = sym e ∙ f in let z : ⊥ = cc in z

pub same_parts : (p q : Parts) (d : Option Parts) → d ≡ Some p → d ≡ Some q → p ≡ q
same_parts p q d e f = let g : ◌≡◌ {A = Option Parts} (Some p) (Some q) = sym e ∙ f in ap (λ (o : Option Parts). unwrap_or o p) g
