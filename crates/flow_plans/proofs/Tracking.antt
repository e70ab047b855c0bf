-- Each plan that the check lets through goes along its flow.
use Rattle.std.proofs.Common.{◌≡◌, ℕ, ◌≤◌, ◌⊎◌, inl, inr, ⊎_elim, nat_eq, Bool, true, false, cond, ◌&&◌, if◌then◌else◌, List, [], ◌∷◌, ◌++◌, map, Option, Some, None, refl, sym, ap, ◌∙◌, subst, arith}
use Rattle.std.specs.Prelude.{slice_get, IsTrue}
use Rattle.dream_words.specs.declared.machine.Name.{Name}
use Rattle.dream_words.specs.declared.outcome.Outcome.{Outcome}
use Rattle.run_parts.specs.Parts.{Run, Ends, Goes, Past, Broke, Over, Stuck, skip, on, after, seq, choose, repeat, always, leave_loop}
use Rattle.run_parts.specs.Steps.{Next, Halt, Jam, To, Nowhere, done, then_do, arrive, having}
use Rattle.run_parts.specs.World.{World}
use Rattle.run_parts.specs.Effects.{Doing, set_word, setting}
use Rattle.c_syntax.specs.declared.syntax.CExpr.{CExpr}
use Rattle.c_syntax.specs.declared.syntax.CCond.{CCond}
use Rattle.c_syntax.specs.Value.{picked}
use Rattle.c_syntax.specs.Run.{Part, word_in, holds}
use Rattle.micro_ir.specs.declared.flow.Case.{Case}
use Rattle.micro_ir.specs.declared.flow.End.{End as BlockEnd}
use Rattle.micro_ir.specs.declared.flow.End.TheVariants as end
use Rattle.micro_ir.specs.declared.flow.Block.{Block}
use Rattle.micro_ir.specs.Rule.{are_flow_stmts, are_flow_blocks, is_flow_word, have_words, is_flow_end, is_flow_block}
use Rattle.micro_ir.specs.Run.{stmts_do, branch, first_case, by_value, end_leads, enter, onward, walk}
use Rattle.micro_ir.proofs.Values.{both_true}
use Rattle.c_words.specs.Built as built
use Rattle.guarded.specs.declared.tree.SetTo.{SetTo}
use Rattle.guarded.specs.declared.tree.SetTo.TheVariants as to
use Rattle.guarded.specs.declared.tree.Tree.{Tree, Tree-F, roll-Tree}
use Rattle.guarded.specs.Run.{word_to, end_does, tree_does}
use Rattle.guarded.proofs.Layers.{does_layer}
use Rattle.guarded.proofs.Induct.{Each}
use Rattle.regions.specs.Plain.{tree_end, block_tree}
use Rattle.regions.proofs.Standing.{number_is}
use Rattle.regions.proofs.Core.{core, core_did, stmts_bare, word_bare, cond_bare}
use Rattle.regions.proofs.Tracks.{Place, Clear, Owed, Sound, Walk, Kept, Tracks, seq_tracks, skip_tracks, choose_tracks, from_tracks, to_tracks, loop_tracks, stay, over_kept, not_nowhere}
use Rattle.regions.proofs.Blocks.{num_in, block_rule, block_is, return_kept, leave_kept}
use Rattle.flow_plans.specs.declared.plan.Value.{Value}
use Rattle.flow_plans.specs.declared.plan.Way.{Way}
use Rattle.flow_plans.specs.declared.plan.Entry.{Entry}
use Rattle.flow_plans.specs.declared.plan.Plan as plan
use Rattle.flow_plans.specs.declared.plan.Plan.{Plan, Plan-F, roll-Plan}
use Rattle.flow_plans.specs.Known.{is_added, are_tests, told, allows_any, none_known, known_in, only, put_all, fade_all, pick_all, owing, behind}
use Rattle.flow_plans.specs.Checked.{case_ways, ways, all_are, all_covered, all_clear, all_heads, is_loop, Pass, where_true, then_pass, either_pass, block_pass, all_pass, loop_pass, pass_at, checked}
use Rattle.flow_plans.specs.Emitted.{gathered, sets, way_word, way_trees, block_trees, joined, test_tree, picked_word, trees_at, trees_of}
use Rattle.flow_plans.proofs.Adding.{word_at, set_bare, stmts_keep}
use Rattle.flow_plans.proofs.Holding.{Hold, Among, hold_same, hold_told, is_any, any_allowed, none_is_known, in_behind, in_known, in_only, in_left, in_right, in_covered, are, heads_are, are_clear, in_fade, in_owing, in_put, in_pick}
use Rattle.flow_plans.proofs.Emitting.{all_do, one_does, gathered_is, both_do, any_holds, test_is, sets_is, sets_does, way_word_is, picked_word_is}
use Rattle.flow_plans.proofs.Induct.{checked_layer, trees_layer, PlanCases, every_plan}

-- ---- what the pass says

some_same : (x fs : List Entry) → ◌≡◌ {A = Option (List Entry)} (Some x) (Some fs) → x ≡ fs
some_same x fs h = cc

where_some : (b : Bool) (x fs : List Entry) → where_true b x ≡ Some fs → (b ≡ true) × (x ≡ fs)
where_some true x fs h = (refl, some_same x fs h)
where_some false x fs h = absurd (let z : ⊥ = cc in z)

then_some : (o : Option (List Entry)) (f : List Entry → Option (List Entry)) (fs : List Entry) → then_pass o f ≡ Some fs → (m : List Entry) × (o ≡ Some m) × (f m ≡ Some fs)
then_some None f fs h = absurd (let z : ⊥ = cc in z)
then_some (Some m) f fs h = (m, refl, h)

either_some : (o q : Option (List Entry)) (fs : List Entry) → either_pass o q ≡ Some fs → (a : List Entry) × (b : List Entry) × (o ≡ Some a) × (q ≡ Some b) × (a ++ b ≡ fs)
either_some None q fs h = absurd (let z : ⊥ = cc in z)
either_some (Some a) None fs h = absurd (let z : ⊥ = cc in z)
either_some (Some a) (Some b) fs h = (a, b, refl, refl, some_same (a ++ b) fs h)

if_some : (b : Bool) (o : Option (List Entry)) (fs : List Entry) → (if b then o else None) ≡ Some fs → (b ≡ true) × (o ≡ Some fs)
if_some true o fs h = (refl, h)
if_some false o fs h = absurd (let z : ⊥ = cc in z)

module _ (blocks : List Block) (head : ℕ → Bool) where
  -- ---- one step of the flow

  -- a walk to a stronger place
  walk_to : (P Q : Place) → ((d n : ℕ) (s : World) → P d n s → Q d n s) → (d n : ℕ) (s : World) (m : ℕ) (t : World) (f : ℕ) → Walk blocks head P d n s m t f → Walk blocks head Q d n s m t f
  walk_to P Q h d n s m t f w = record { steps = w.steps; debt = w.debt; node = w.node; path = w.path; paid = w.paid; left = w.left; holds = h w.debt w.node t w.holds }

  kept_to : (P Q Brk : Place) → ((d n : ℕ) (s : World) → P d n s → Q d n s) → (d n : ℕ) (s : World) (m : ℕ) (r : Run World Outcome) → Kept blocks head P Brk d n s m r → Kept blocks head Q Brk d n s m r
  kept_to P Q Brk h d n s m (Ends (Past t) f) w = walk_to P Q h d n s m t f w
  kept_to P Q Brk h d n s m (Ends (Broke t) f) w = w
  kept_to P Q Brk h d n s m (Ends (Over o) f) w = w
  kept_to P Q Brk h d n s m (Ends Stuck f) w = w
  kept_to P Q Brk h d n s m (Goes t) w = w

  -- the block n leads to x, in the world t of the tree
  to_block : (fs : List Entry) (Brk : Place) (d n : ℕ) (s : World) (m x : ℕ) (t : World) → d ≤ cond (head n) 1 0 → enter (slice_get blocks n) (core s) ≡ To x (core t) → Among fs 0 x t → Kept blocks head (Among fs) Brk d n s m (Ends (Past t) m)
  to_block fs Brk d n s m x t h e p = record { steps = 1; debt = 0; node = x; path = ap (λ a. onward a (walk blocks 0)) e; paid = omega arith; left = omega arith; holds = p }

  -- the flow stays where it is, while an added variable is set
  set_kept : (P Brk : Place) (d n : ℕ) (s : World) (m : ℕ) (v : Name) (x : ℕ) → IsTrue (is_added v) → P d n (set_word v x s) → Kept blocks head P Brk d n s m (Ends (Past (set_word v x s)) m)
  set_kept P Brk d n s m v x g i = record { steps = 0; debt = d; node = n; path = ap (λ t. To n t) (sym (set_bare v x s g)); paid = omega arith; left = omega arith; holds = i }

  -- ---- blocks

  module _ (w : Way) (added : IsTrue (is_added w.name)) (known : List Value) (n : ℕ) (Brk : Place) (d : ℕ) (s : World) (m : ℕ) (fits : d ≤ cond (head n) 1 0) (sound : Sound blocks head n (core s)) where
    -- what is left of the block, in a world that its statements lead to
    abbrev LeftOf : BlockEnd → World → Type 0
    LeftOf e t = Kept blocks head (Among (ways w known e)) Brk d n s m (on (done (end_does (tree_end e) t) m) (after (all_do (way_trees w e))))

    -- after the variable is set
    set_and_on : (fs : List Entry) (x y : ℕ) (t : World) → enter (slice_get blocks n) (core s) ≡ To y (core t) → Among fs 0 y (set_word w.name x t) → Kept blocks head (Among fs) Brk d n s m (Ends (Past (set_word w.name x t)) m)
    set_and_on fs x y t e i = to_block fs Brk d n s m y (set_word w.name x t) fits (e ∙ ap (λ u. To y u) (sym (set_bare w.name x t added))) i

    branch_kept : (t : World) (c : CCond) (x y : ℕ) (o : Option Bool) → Hold known t → enter (slice_get blocks n) (core s) ≡ branch o x y (core t)
        → Kept blocks head (Among (ways w known (end.Branch c x y))) Brk d n s m (done (having (picked o (Some w.on_true) (Some w.on_false)) (λ z. setting w.name z t)) m)
    branch_kept t c x y None h e = absurd (not_nowhere blocks head n (core s) sound e)
    branch_kept t c x y (Some true) h e = set_and_on (ways w known (end.Branch c x y)) w.on_true x t e (inl (refl, refl, hold_told w.name w.on_true known t added h))
    branch_kept t c x y (Some false) h e = set_and_on (ways w known (end.Branch c x y)) w.on_false y t e (inr (inl (refl, refl, hold_told w.name w.on_false known t added h)))

    -- a case has the value, or the flow is stuck
    abbrev FoundOrNone : List Case → ℕ → World → Type 0
    FoundOrNone cases x t = (first_case cases x (core t) ≡ Nowhere) ⊎ ((y : ℕ) × (first_case cases x (core t) ≡ To y (core t)) × Among (case_ways w.name known cases) 0 y (set_word w.name x t))

    case_found : (cases : List Case) (x : ℕ) (t : World) → Hold known t → FoundOrNone cases x t
    case_found [] x t h = inl refl
    case_found (c ∷ cases) x t h = at (nat_eq x c.value) refl (case_found cases x t h)
      where
        at : (r : Bool) → nat_eq x c.value ≡ r → FoundOrNone cases x t → FoundOrNone (c ∷ cases) x t
        at true e k =
            let here : Hold (told w.name c.value known) (set_word w.name x t) = subst (λ i. Hold (told w.name i known) (set_word w.name x t)) (number_is x c.value e) (hold_told w.name x known t added h) in
            inr (c.to, ap (λ r. if r then To c.to (core t) else first_case cases x (core t)) e, inl (refl, refl, here))
        at false e (inl k) = inl (ap (λ r. if r then To c.to (core t) else first_case cases x (core t)) e ∙ k)
        at false e (inr k) = inr (k.0, ap (λ r. if r then To c.to (core t) else first_case cases x (core t)) e ∙ k.1, inr k.2)

    switch_kept : (t : World) (f : CExpr) (cases : List Case) (o : Option ℕ) → Hold known t → enter (slice_get blocks n) (core s) ≡ by_value o cases (core t)
        → Kept blocks head (Among (case_ways w.name known cases)) Brk d n s m (done (having o (λ z. setting w.name z t)) m)
    switch_kept t f cases None h e = absurd (not_nowhere blocks head n (core s) sound e)
    switch_kept t f cases (Some x) h e =
        ⊎_elim
        (λ k. absurd (not_nowhere blocks head n (core s) sound (e ∙ k)))
        (λ k. set_and_on (case_ways w.name known cases) x k.0 t (e ∙ k.1) k.2)
        (case_found cases x t h)

    one_set : (P : Place) (to : SetTo) (t : World) (r : Run World Outcome) → done (having (word_to to t) (λ x. setting w.name x t)) m ≡ r → Kept blocks head P Brk d n s m r → Kept blocks head P Brk d n s m (all_do (sets w.name to ∷ []) m t)
    one_set P to t r e k = subst (Kept blocks head P Brk d n s m) (sym (ap (λ (p : Part). p m t) (one_does (sets w.name to)) ∙ sets_is w.name to m t ∙ e)) k

    end_kept : (e : BlockEnd) (t : World) → IsTrue (is_flow_end e) → Hold known t → enter (slice_get blocks n) (core s) ≡ end_leads e (core t) → LeftOf e t
    end_kept (end.Go x) t g h e = to_block (ways w known (end.Go x)) Brk d n s m x t fits e (inl (refl, refl, h))
    end_kept (end.Branch c x y) t g h e =
        one_set (Among (ways w known (end.Branch c x y))) (way_word c w.on_true w.on_false) t _
        (ap (λ (o : Option ℕ). done (having o (λ z. setting w.name z t)) m) (way_word_is c w.on_true w.on_false t))
        (branch_kept t c x y (holds c t) h (e ∙ ap (λ r. branch r x y (core t)) (cond_bare c t g)))
    end_kept (end.Switch f cases) t g h e =
        one_set (Among (ways w known (end.Switch f cases))) (to.Expr f) t _ refl
        (switch_kept t f cases (word_in f t) h (e ∙ ap (λ r. by_value r cases (core t)) (word_bare f t (both_true (is_flow_word f) (have_words cases) g).0)))
    end_kept end.Return t g h e = return_kept blocks head (Among (ways w known end.Return)) Brk d n s m t e
    end_kept (end.Leave f) t g h e = leave_kept blocks head (Among (ways w known (end.Leave f))) Brk d n s m f (all_do (way_trees w (end.Leave f))) t g sound e

    stmts_kept : (k : Block) → IsTrue (is_flow_block k) → Hold known s → (r : Doing) → stmts_do k.stmts s ≡ r → enter (slice_get blocks n) (core s) ≡ arrive (core_did r) (end_leads k.end)
        → Kept blocks head (Among (ways w known k.end)) Brk d n s m (on (done (then_do r (end_does (tree_end k.end))) m) (after (all_do (way_trees w k.end))))
    stmts_kept k rule h (Next t) e l =
        let p = both_true (are_flow_stmts k.stmts) (is_flow_end k.end) rule in
        end_kept k.end t p.1 (hold_same known s t (λ u. stmts_keep u k.stmts s t p.0 e) h) l
    stmts_kept k rule h (Halt o) e l = over_kept blocks head (Among (ways w known k.end)) Brk d n s m o l
    stmts_kept k rule h Jam e l = absurd (not_nowhere blocks head n (core s) sound l)

    block_kept : (k : Block) → slice_get blocks n ≡ Some k → IsTrue (is_flow_block k) → Hold known s → Kept blocks head (Among (ways w known k.end)) Brk d n s m (all_do (block_trees w (Some k)) m s)
    block_kept k at rule h =
        let bare = stmts_bare k.stmts s (both_true (are_flow_stmts k.stmts) (is_flow_end k.end) rule).0 in
        let leads : enter (slice_get blocks n) (core s) ≡ arrive (core_did (stmts_do k.stmts s)) (end_leads k.end) =
        ap (λ x. enter x (core s)) at ∙ ap (λ r. arrive r (end_leads k.end)) bare in
        subst (λ r. Kept blocks head (Among (ways w known k.end)) Brk d n s m (on r (after (all_do (way_trees w k.end))))) (sym (block_is k m s))
        (stmts_kept k rule h (stmts_do k.stmts s) refl leads)

  module _ (rule : IsTrue (are_flow_blocks blocks)) where
    -- trees that go along wherever a pass answers
    abbrev Along : Pass → List Tree → Type 0
    Along p ts = (out es fs : List Entry) → p out es ≡ Some fs → Tracks blocks head (Among es) (all_do ts) (Among fs) (Among out)

    block_along : (n : ℕ) (w : Way) (o : Option Block) → slice_get blocks n ≡ o → Along (λ out es. block_pass (head n) n w o es) (block_trees w o)
    block_along n w None at out es fs h = absurd (let z : ⊥ = cc in z)
    block_along n w (Some k) at out es fs h =
        let q = where_some (is_added w.name && all_are (head n) n es) (behind es (ways w (known_in es) k.end)) fs h in
        let p = both_true (is_added w.name) (all_are (head n) n es) q.0 in
        record {
          by = λ d n' s m i o.
              let r = are (head n) n es d n' s p.1 i in
              let here : Among es d n s = subst (λ x. Among es d x s) r.0 i in
              let sound : Sound blocks head n (core s) = subst (λ x. Sound blocks head x (core s)) r.0 o in
              let kept = block_kept w p.0 (known_in es) n (Among out) d s m r.1 sound k at (block_rule blocks n k at rule) (in_known es d n s here) in
              let behind_it = kept_to (Among (ways w (known_in es) k.end)) (Among fs) (Among out)
              (λ d' x t i. subst (λ gs. Among gs d' x t) q.1 (in_behind es (ways w (known_in es) k.end) d n s d' x t here i))
              d n s m (all_do (block_trees w (Some k)) m s) kept in
              subst (λ x. Kept blocks head (Among fs) (Among out) d x s m (all_do (block_trees w (Some k)) m s)) (sym r.0) behind_it;
        }

    set_along : (v : Name) (to : SetTo) (x : World → ℕ) (es fs : List Entry) (Brk : Place) → IsTrue (is_added v) → ((s : World) → word_to to s ≡ Some (x s))
        → ((d n : ℕ) (s : World) → Among es d n s → Among fs d n (set_word v (x s) s)) → Tracks blocks head (Among es) (all_do (sets v to ∷ [])) (Among fs) Brk
    set_along v to x es fs Brk g e h = record {
      by = λ d n s m i o.
          subst (Kept blocks head (Among fs) Brk d n s m) (sym (ap (λ (p : Part). p m s) (one_does (sets v to)) ∙ sets_does v to (x s) m s (e s)))
          (set_kept (Among fs) Brk d n s m v (x s) g (h d n s i));
    }

    put_along : (a : Value) → Along (λ out es. where_true (is_added a.name) (put_all a.name a.value es)) (sets a.name (to.Expr (built.num a.value)) ∷ [])
    put_along a out es fs h =
        let w = where_some (is_added a.name) (put_all a.name a.value es) fs h in
        set_along a.name (to.Expr (built.num a.value)) (λ s. a.value) es fs (Among out) w.0 (λ s. num_in a.value s)
        (λ d n s i. subst (λ gs. Among gs d n (set_word a.name a.value s)) w.1 (in_put a.name a.value es d n s w.0 i))

    pick_along : (w : Way) (u : Value) → Along (λ out es. where_true (is_added w.name && is_added u.name) (pick_all w u es)) (sets w.name (picked_word u w.on_true w.on_false) ∷ [])
    pick_along w u out es fs h =
        let q = where_some (is_added w.name && is_added u.name) (pick_all w u es) fs h in
        let p = both_true (is_added w.name) (is_added u.name) q.0 in
        set_along w.name (picked_word u w.on_true w.on_false) (λ s. if nat_eq (word_at u.name s) u.value then w.on_true else w.on_false) es fs (Among out) p.0 (λ s. picked_word_is u w.on_true w.on_false s p.1)
        (λ d n s i. subst (λ gs. Among gs d n (set_word w.name (if nat_eq (word_at u.name s) u.value then w.on_true else w.on_false) s)) q.1 (in_pick w u es d n s p.0 i))

    -- nothing is done, and less is known
    less_along : (es fs : List Entry) (Brk : Place) → ((d n : ℕ) (s : World) → Among es d n s → Among fs d n s) → Tracks blocks head (Among es) skip (Among fs) Brk
    less_along es fs Brk h = to_tracks blocks head (Among es) (Among es) Brk (Among fs) Brk skip h (λ d n s i. i) (skip_tracks blocks head (Among es) Brk)

    forget_along : (gs : List Entry) → Along (λ out es. where_true (all_covered es gs) (behind es gs)) []
    forget_along gs out es fs h =
        let w = where_some (all_covered es gs) (behind es gs) fs h in
        less_along es fs (Among out) (λ d n s i. subst (λ gs. Among gs d n s) w.1 (in_behind es gs d n s d n s i (in_covered es gs d n s w.0 i)))

    fade_along : (v : Name) → Along (λ out es. Some (fade_all v es)) []
    fade_along v out es fs h = less_along es fs (Among out) (λ d n s i. subst (λ gs. Among gs d n s) (some_same (fade_all v es) fs h) (in_fade v es d n s i))

    leave_along : Along (λ out es. where_true (all_covered es out) []) (roll-Tree Tree-F.Break ∷ [])
    leave_along out es fs h =
        let w = where_some (all_covered es out) [] fs h in
        record {
          by = λ d n s m i o.
              subst (Kept blocks head (Among fs) (Among out) d n s m) (sym (ap (λ (p : Part). p m s) (one_does (roll-Tree Tree-F.Break) ∙ does_layer Tree-F.Break)))
              (stay blocks head (Among out) d n s m (in_covered es out d n s w.0 i));
        }

    test_along : (c : List Value) (p q : Pass) (ts us : List Tree) → Along p ts → Along q us
        → Along (λ out es. if are_tests c then either_pass (p out (only (allows_any c) es)) (q out (only (none_known c) es)) else None) (test_tree c ts us ∷ [])
    test_along c p q ts us hp hq out es fs h =
        let w = if_some (are_tests c) (either_pass (p out (only (allows_any c) es)) (q out (only (none_known c) es))) fs h in
        let there = only (allows_any c) es in
        let else_there = only (none_known c) es in
        let r = either_some (p out there) (q out else_there) fs w.1 in
        subst (λ a. Tracks blocks head (Among es) a (Among fs) (Among out)) (sym (one_does (test_tree c ts us) ∙ test_is c ts us w.0))
        (choose_tracks blocks head (Among es) (Among fs) (Among out) (is_any c) (all_do ts) (all_do us)
        (from_tracks blocks head (Among there) _ (Among fs) (Among out) (all_do ts)
        (λ d n s i. in_only (allows_any c) es d n s (λ known k. any_allowed c known s i.1 k) i.0)
        (to_tracks blocks head (Among there) (Among r.0) (Among out) (Among fs) (Among out) (all_do ts)
        (λ d n s i. subst (λ gs. Among gs d n s) r.4 (in_left r.0 r.1 d n s i)) (λ d n s i. i) (hp out there r.0 r.2)))
        (from_tracks blocks head (Among else_there) _ (Among fs) (Among out) (all_do us)
        (λ d n s i. in_only (none_known c) es d n s (λ known k. none_is_known c known s i.1 k) i.0)
        (to_tracks blocks head (Among else_there) (Among r.1) (Among out) (Among fs) (Among out) (all_do us)
        (λ d n s i. subst (λ gs. Among gs d n s) r.4 (in_right r.0 r.1 d n s i)) (λ d n s i. i) (hq out else_there r.1 r.3))))

    loop_is : (ts : List Tree) → all_do (roll-Tree (Tree-F.Loop (gathered ts)) ∷ []) ≡ repeat always (all_do ts) always
    loop_is ts = one_does (roll-Tree (Tree-F.Loop (gathered ts))) ∙ does_layer (Tree-F.Loop (gathered ts)) ∙ ap (λ a. repeat always a always) (gathered_is ts)

    loop_along : (begins ends : List Entry) (p : Pass) (ts : List Tree) → Along p ts → Along (loop_pass head begins ends p) (roll-Tree (Tree-F.Loop (gathered ts)) ∷ [])
    loop_along begins ends p ts hp out es fs h =
        let w = if_some (is_loop head begins ends es)
        (then_pass (p ends (owing begins)) (λ fs. where_true (all_covered fs begins) (behind es ends))) fs h in
        let a = both_true (all_covered es begins) (all_heads head begins && (all_clear begins && all_clear ends)) w.0 in
        let b = both_true (all_heads head begins) (all_clear begins && all_clear ends) a.1 in
        let c = both_true (all_clear begins) (all_clear ends) b.1 in
        let r = then_some (p ends (owing begins)) (λ fs. where_true (all_covered fs begins) (behind es ends)) fs w.1 in
        let k = where_some (all_covered r.0 begins) (behind es ends) fs r.2 in
        let inv = λ (n : ℕ) (s : World). Among begins 0 n s in
        let br = λ (n : ℕ) (s : World). Among ends 0 n s in
        let whole = repeat always (all_do ts) always in
        let bare : (d n : ℕ) (s : World) → Among begins d n s → Clear inv d n s =
        λ d n s i. let z = are_clear begins d n s c.0 i in (z, subst (λ d. Among begins d n s) z i) in
        let body = from_tracks blocks head (Among (owing begins)) (Owed inv) (Clear inv) (Clear br) (all_do ts)
        (λ d n s i. subst (λ d. Among (owing begins) d n s) (sym i.0) (in_owing begins 0 n s i.1))
        (to_tracks blocks head (Among (owing begins)) (Among r.0) (Among ends) (Clear inv) (Clear br) (all_do ts)
        (λ d n s i. bare d n s (in_covered r.0 begins d n s k.0 i))
        (λ d n s i. let z = are_clear ends d n s c.1 i in (z, subst (λ d. Among ends d n s) z i))
        (hp ends (owing begins) r.0 r.1)) in
        let loops = loop_tracks blocks head inv br (Among out) (all_do ts) (λ n s i. heads_are head begins 0 n s b.0 i) body in
        subst (λ a. Tracks blocks head (Among es) a (Among fs) (Among out)) (sym (loop_is ts))
        (record {
          by = λ d0 n0 s0 m0 i0 o0.
              (from_tracks blocks head (Clear inv) (Among es) (Among fs) (Among out) whole (λ d n s i. bare d n s (in_covered es begins d n s a.0 i))
              (to_tracks blocks head (Clear inv) (Clear br) (Among out) (Among fs) (Among out) whole
              (λ d n s i. subst (λ gs. Among gs d n s) k.1 (in_behind es ends d0 n0 s0 d n s i0 (subst (λ d. Among ends d n s) (sym i.0) i.1))) (λ d n s i. i)
              loops)).by d0 n0 s0 m0 i0 o0;
        })

    -- ---- plans

    -- a plan goes along wherever its check answers
    abbrev pub GoesAlong : Plan → Type 0
    GoesAlong p = Along (checked blocks head p) (trees_of blocks p)

    by_layer : (y : Plan-F Plan) → Along (pass_at blocks head (plan.map-Plan Plan Pass (checked blocks head) y)) (trees_at blocks (plan.map-Plan Plan (List Tree) (trees_of blocks) y)) → GoesAlong (roll-Plan y)
    by_layer y h =
        subst (λ p. Along p (trees_of blocks (roll-Plan y))) (sym (checked_layer blocks head y))
        (subst (λ ts. Along (pass_at blocks head (plan.map-Plan Plan Pass (checked blocks head) y)) ts) (sym (trees_layer blocks y)) h)

    all_along : (ps : List Plan) → Each GoesAlong ps → Along (all_pass (map (checked blocks head) ps)) (joined (map (trees_of blocks) ps))
    all_along [] h out es fs e = subst (λ gs. Tracks blocks head (Among es) skip (Among gs) (Among out)) (some_same es fs e) (skip_tracks blocks head (Among es) (Among out))
    all_along (p ∷ ps) h out es fs e =
        let w = then_some (checked blocks head p out es) (all_pass (map (checked blocks head) ps) out) fs e in
        subst (λ a. Tracks blocks head (Among es) a (Among fs) (Among out)) (sym (both_do (trees_of blocks p) (joined (map (trees_of blocks) ps))))
        (seq_tracks blocks head (Among es) (Among w.0) (Among fs) (Among out) (all_do (trees_of blocks p)) (all_do (joined (map (trees_of blocks) ps)))
        (h.0 out es w.0 w.1) (all_along ps h.1 out w.0 fs w.2))

    cases : PlanCases GoesAlong
    cases = record {
      block = λ n w. by_layer (Plan-F.Block n w) (block_along n w (slice_get blocks n) refl);
      seq = λ ps h. by_layer (Plan-F.Seq ps) (all_along ps h);
      test = λ c p q hp hq. by_layer (Plan-F.Test c p q) (test_along c (checked blocks head p) (checked blocks head q) (trees_of blocks p) (trees_of blocks q) hp hq);
      put = λ a. by_layer (Plan-F.Put a) (put_along a);
      pick = λ w u. by_layer (Plan-F.Pick w u) (pick_along w u);
      forget = λ gs. by_layer (Plan-F.Forget gs) (forget_along gs);
      fade = λ v. by_layer (Plan-F.Fade v) (fade_along v);
      leave = by_layer Plan-F.Leave leave_along;
      loop = λ begins ends p h. by_layer (Plan-F.Loop begins ends p) (loop_along begins ends (checked blocks head p) (trees_of blocks p) h);
    }

    -- one induction over the plan
    pub plan_tracks : (p : Plan) → GoesAlong p
    plan_tracks p = every_plan cases p
