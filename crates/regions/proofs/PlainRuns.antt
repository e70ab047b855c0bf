-- The plain tree follows its flow.
use Rattle.std.proofs.Common.{◌≡◌, ◌⊎◌, inl, inr, ℕ, zero, suc, ◌+◌, ◌≤◌, nat_eq, Bool, true, false, if◌then◌else◌, List, [], ◌∷◌, ◌++◌, Option, Some, None, refl, sym, ap, ◌∙◌, subst, map, arith}
use Rattle.std.specs.Prelude.{slice_get, IsTrue}
use Rattle.dream_words.specs.declared.outcome.Outcome.{Outcome}
use Rattle.run_parts.specs.Parts.{Run, Ends, Past, on, after, seq, skip, in_turn, caught, has, group_of, switch, repeat, always}
use Rattle.run_parts.specs.Steps.{To, Nowhere, done}
use Rattle.run_parts.specs.World.{World}
use Rattle.run_parts.specs.Effects.{set_word}
use Rattle.c_syntax.specs.declared.syntax.CExpr.{CExpr}
use Rattle.c_syntax.specs.declared.syntax.CCond.{CCond}
use Rattle.c_syntax.specs.Value.{picked}
use Rattle.c_syntax.specs.Run.{Part, word_in, holds}
use Rattle.c_words.specs.Built as built
use Rattle.micro_ir.specs.declared.flow.Case.{Case}
use Rattle.micro_ir.specs.declared.flow.End.{End as BlockEnd}
use Rattle.micro_ir.specs.declared.flow.End.TheVariants as end
use Rattle.micro_ir.specs.declared.flow.Block.{Block}
use Rattle.micro_ir.specs.declared.flow.Flow.{Flow}
use Rattle.micro_ir.specs.Rule.{are_flow_stmts, are_flow_blocks, is_flow_word, have_words, is_flow_end, KeepsRule}
use Rattle.micro_ir.specs.Run.{branch, first_case, by_value, end_leads, enter}
use Rattle.micro_ir.proofs.Values.{both_true}
use Rattle.guarded.specs.declared.tree.Tree.{Tree, Tree-F, roll-Tree}
use Rattle.guarded.specs.Run.{end_does, tree_does, case_does}
use Rattle.guarded.proofs.Layers.{does_layer, case_does_layer}
use Rattle.regions.specs.Follows.{Follows}
use Rattle.regions.specs.Plain.{selector, goes_to, nothing, value_case, value_cases, value_switch, next_trees, tree_end, block_tree, block_case, block_cases, selector_loop, plain_tree}
use Rattle.regions.proofs.Standing.{same_number, other_number, not_seen, has_more}
use Rattle.regions.proofs.Core.{core, selector_apart, selector_set, word_bare, cond_bare}
use Rattle.regions.proofs.Tracks.{Clear, Owed, Sound, Kept, Tracks, seq_tracks, skip_tracks, catch_kept, loop_tracks, past_kept, not_nowhere}
use Rattle.regions.proofs.Following.{None_such, Starts, follows}
use Rattle.regions.proofs.Blocks.{block_rule, num_in, pick_in, selects_does, goes_does, block_kept, return_kept, leave_kept}

-- ---- the case of a number

one_value : (b : Bool) (r q : Run World Outcome) → (if (if b then true else false) then r else q) ≡ (if b then r else q)
one_value true r q = refl
one_value false r q = refl

-- a group of one value, and those after it
group_step : (g : List ℕ × Part) (v : ℕ) (p : Part) (gs : List (List ℕ × Part)) (last : Part) (x m : ℕ) (s : World) → g ≡ (v ∷ [], p)
    → group_of (g ∷ gs) last x m s ≡ (if nat_eq x v then p m s else group_of gs last x m s)
group_step g v p gs last x m s e =
    ap (λ (h : List ℕ × Part). group_of (h ∷ gs) last x m s) e ∙ one_value (nat_eq x v) (p m s) (group_of gs last x m s)

abbrev block_body : Block → Tree
block_body b = roll-Tree (Tree-F.Seq (block_tree b ∷ next_trees b.end))

case_is : (n : ℕ) (b : Block) → case_does (block_case n b) ≡ (n ∷ [], tree_does (block_body b))
case_is n b = case_does_layer (record { values = n ∷ []; body = block_body b })

case_found : (bs : List Block) (k j x : ℕ) (b : Block) (last : Part) (m : ℕ) (s : World) → slice_get bs j ≡ Some b → x ≡ k + j
    → group_of (map case_does (block_cases k bs)) last x m s ≡ tree_does (block_body b) m s
case_found [] k j x b last m s e h = absurd (let z : ⊥ = cc in z)
case_found (c ∷ bs) k zero x b last m s e h =
    let same : c ≡ b = cc in
    let here : x ≡ k = omega (arith, h) in
    group_step (case_does (block_case k c)) k (tree_does (block_body c)) (map case_does (block_cases (k + 1) bs)) last x m s (case_is k c)
    ∙ ap (λ v. if v then tree_does (block_body c) m s else group_of (map case_does (block_cases (k + 1) bs)) last x m s) (ap (λ i. nat_eq i k) here ∙ same_number k)
    ∙ ap (λ d. tree_does (block_body d) m s) same
case_found (c ∷ bs) k (suc j) x b last m s e h =
    let other : x ≡ k → ⊥ = λ (i : x ≡ k). let z : ⊥ = omega (arith, h, i) in z in
    group_step (case_does (block_case k c)) k (tree_does (block_body c)) (map case_does (block_cases (k + 1) bs)) last x m s (case_is k c)
    ∙ ap (λ v. if v then tree_does (block_body c) m s else group_of (map case_does (block_cases (k + 1) bs)) last x m s) (other_number x k other)
    ∙ case_found bs (k + 1) j x b last m s e (omega (arith, h))

-- ---- the case of a value

value_is : (c : Case) → case_does (value_case c) ≡ (c.value ∷ [], tree_does (goes_to c.to))
value_is c = case_does_layer (record { values = c.value ∷ []; body = goes_to c.to })

-- what the cases of a Switch end do for a value, beside what the flow does
record Found (cases : List Case) (x : ℕ) (w : World) (r : Run World Outcome) (m : ℕ) (u : World) : Type 0 where
  node : ℕ
  leads : first_case cases x w ≡ To node w
  does : r ≡ Ends (Past (set_word selector node u)) m

abbrev FoundOrNone : List Case → ℕ → World → Run World Outcome → ℕ → World → Type 0
FoundOrNone cases x w r m u = (first_case cases x w ≡ Nowhere) ⊎ Found cases x w r m u

-- a case that isn't the value's
pass : (c : Case) (cases : List Case) (x m : ℕ) (u w : World) (r q : Run World Outcome) → nat_eq x c.value ≡ false → q ≡ r → FoundOrNone cases x w r m u → FoundOrNone (c ∷ cases) x w q m u
pass c cases x m u w r q e g (inl n) = inl (ap (λ b. if b then To c.to w else first_case cases x w) e ∙ n)
pass c cases x m u w r q e g (inr f) = inr (record { node = f.node; leads = ap (λ b. if b then To c.to w else first_case cases x w) e ∙ f.leads; does = g ∙ f.does })

-- the case of the value, or another one
take_case : (c : Case) (cases : List Case) (x m : ℕ) (u w : World) (gs : List (List ℕ × Part)) (last : Part) (b : Bool) → nat_eq x c.value ≡ b
    → (nat_eq x c.value ≡ false → FoundOrNone cases x w (group_of gs last x m u) m u)
    → FoundOrNone (c ∷ cases) x w (group_of (case_does (value_case c) ∷ gs) last x m u) m u
take_case c cases x m u w gs last true e h = inr (record {
  node = c.to;
  leads = ap (λ b. if b then To c.to w else first_case cases x w) e;
  does = group_step (case_does (value_case c)) c.value (tree_does (goes_to c.to)) gs last x m u (value_is c)
      ∙ ap (λ b. if b then tree_does (goes_to c.to) m u else group_of gs last x m u) e ∙ goes_does c.to m u;
})
take_case c cases x m u w gs last false e h =
    pass c cases x m u w (group_of gs last x m u) (group_of (case_does (value_case c) ∷ gs) last x m u) e
    (group_step (case_does (value_case c)) c.value (tree_does (goes_to c.to)) gs last x m u (value_is c)
    ∙ ap (λ b. if b then tree_does (goes_to c.to) m u else group_of gs last x m u) e)
    (h e)

value_next : (seen : List ℕ) (c : Case) (cases : List Case) (x m : ℕ) (u w : World) (last : Part) (b : Bool) → has seen c.value ≡ b → has seen x ≡ false
    → ((more : List ℕ) → has more x ≡ false → FoundOrNone cases x w (group_of (map case_does (value_cases more cases)) last x m u) m u)
    → FoundOrNone (c ∷ cases) x w (group_of (map case_does (if b then value_cases seen cases else value_case c ∷ value_cases (seen ++ c.value ∷ []) cases)) last x m u) m u
value_next seen c cases x m u w last true e h k =
    pass c cases x m u w (group_of (map case_does (value_cases seen cases)) last x m u) (group_of (map case_does (value_cases seen cases)) last x m u) (not_seen seen x c.value h e) refl (k seen h)
value_next seen c cases x m u w last false e h k =
    take_case c cases x m u w (map case_does (value_cases (seen ++ c.value ∷ []) cases)) last (nat_eq x c.value) refl (λ g. k (seen ++ c.value ∷ []) (has_more seen x c.value h g))

value_found : (seen : List ℕ) (cases : List Case) (x m : ℕ) (u w : World) (last : Part) → has seen x ≡ false
    → FoundOrNone cases x w (group_of (map case_does (value_cases seen cases)) last x m u) m u
value_found seen [] x m u w last h = inl refl
value_found seen (c ∷ cases) x m u w last h =
    value_next seen c cases x m u w last (has seen c.value) refl h (λ more g. value_found more cases x m u w last g)

-- ---- the loop

-- before a turn the selector has the number of the block that comes next
abbrev Selected : ℕ → World → Type 0
Selected n s = s.names selector ≡ n

-- each block is a head
abbrev every : ℕ → Bool
every n = true

module _ (blocks : List Block) (rule : IsTrue (are_flow_blocks blocks)) where
  abbrev KeptHere : ℕ → ℕ → World → ℕ → Run World Outcome → Type 0
  KeptHere d n s m r = Kept blocks every (Clear Selected) (Clear Selected) d n s m r

  set_kept : (d n : ℕ) (s : World) (m x : ℕ) (t u : World) → d ≤ 1 → core u ≡ core t → enter (slice_get blocks n) (core s) ≡ To x (core t)
      → KeptHere d n s m (Ends (Past (set_word selector x u)) m)
  set_kept d n s m x t u h c e =
      past_kept blocks every Selected (Clear Selected) d n s m x (set_word selector x u) h
      (e ∙ ap (λ v. To x v) (sym (selector_apart 0 x u ∙ c))) (selector_set 0 x u)

  goes_kept : (d n : ℕ) (s : World) (m a : ℕ) (t : World) → d ≤ 1 → enter (slice_get blocks n) (core s) ≡ To a (core t)
      → KeptHere d n s m (in_turn (map tree_does (goes_to a ∷ [])) m t)
  goes_kept d n s m a t h e =
      subst (λ r. KeptHere d n s m (on r (after skip))) (sym (goes_does a m t)) (set_kept d n s m a t t h refl e)

  branch_kept : (d n : ℕ) (s : World) (m : ℕ) (c : CCond) (a b : ℕ) (t : World) (o : Option Bool) → d ≤ 1 → Sound blocks every n (core s) → holds c t ≡ o
      → enter (slice_get blocks n) (core s) ≡ branch o a b (core t)
      → KeptHere d n s m (in_turn (map tree_does (next_trees (end.Branch c a b))) m t)
  branch_kept d n s m c a b t None h o g e = absurd (not_nowhere blocks every n (core s) o e)
  branch_kept d n s m c a b t (Some true) h o g e =
      let p = pick_in c (built.num a) (built.num b) t ∙ ap (λ v. picked v (word_in (built.num a) t) (word_in (built.num b) t)) g ∙ num_in a t in
      subst (λ r. KeptHere d n s m (on r (after skip))) (sym (selects_does (built.pick c (built.num a) (built.num b)) a m t p)) (set_kept d n s m a t t h refl e)
  branch_kept d n s m c a b t (Some false) h o g e =
      let p = pick_in c (built.num a) (built.num b) t ∙ ap (λ v. picked v (word_in (built.num a) t) (word_in (built.num b) t)) g ∙ num_in b t in
      subst (λ r. KeptHere d n s m (on r (after skip))) (sym (selects_does (built.pick c (built.num a) (built.num b)) b m t p)) (set_kept d n s m b t t h refl e)

  -- the switch over the values
  switch_is : (cases : List Case) (m : ℕ) (u : World) → tree_does (value_switch cases) m u ≡ on (group_of (map case_does (value_cases [] cases)) (tree_does nothing) (u.names selector) m u) caught
  switch_is cases m u = ap (λ (a : Part). a m u) (does_layer (Tree-F.Switch selector (value_cases [] cases) nothing))

  value_kept : (d n : ℕ) (s : World) (m x : ℕ) (cases : List Case) (t : World) (r : Run World Outcome) → d ≤ 1 → Sound blocks every n (core s)
      → enter (slice_get blocks n) (core s) ≡ first_case cases x (core t) → FoundOrNone cases x (core t) r m (set_word selector x t)
      → KeptHere d n s m (on (on r caught) (after skip))
  value_kept d n s m x cases t r h o e (inl none) = absurd (not_nowhere blocks every n (core s) o (e ∙ none))
  value_kept d n s m x cases t r h o e (inr f) =
      subst (λ q. KeptHere d n s m (on (on q caught) (after skip))) (sym f.does)
      (set_kept d n s m f.node t (set_word selector x t) h (selector_apart 0 x t) (e ∙ f.leads))

  by_value_kept : (d n : ℕ) (s : World) (m : ℕ) (e : CExpr) (cases : List Case) (t : World) (o : Option ℕ) → d ≤ 1 → Sound blocks every n (core s) → word_in e t ≡ o
      → enter (slice_get blocks n) (core s) ≡ by_value o cases (core t)
      → KeptHere d n s m (in_turn (map tree_does (next_trees (end.Switch e cases))) m t)
  by_value_kept d n s m e cases t None h o g k = absurd (not_nowhere blocks every n (core s) o k)
  by_value_kept d n s m e cases t (Some x) h o g k =
      let u = set_word selector x t in
      let found : FoundOrNone cases x (core t) (group_of (map case_does (value_cases [] cases)) (tree_does nothing) (u.names selector) m u) m u =
      subst (λ y. FoundOrNone cases x (core t) (group_of (map case_does (value_cases [] cases)) (tree_does nothing) y m u) m u) (sym (selector_set 0 x t))
      (value_found [] cases x m u (core t) (tree_does nothing) refl) in
      subst (λ r. KeptHere d n s m (on r (after (seq (tree_does (value_switch cases)) skip)))) (sym (selects_does e x m t g))
      (subst (λ r. KeptHere d n s m (on r (after skip))) (sym (switch_is cases m u))
      (value_kept d n s m x cases t _ h o k found))

  next_kept : (e : BlockEnd) (d n : ℕ) (s : World) (m : ℕ) (t : World) → d ≤ 1 → IsTrue (is_flow_end e) → Sound blocks every n (core s)
      → enter (slice_get blocks n) (core s) ≡ end_leads e (core t)
      → KeptHere d n s m (on (done (end_does (tree_end e) t) m) (after (in_turn (map tree_does (next_trees e)))))
  next_kept (end.Go a) d n s m t h g o e = goes_kept d n s m a t h e
  next_kept (end.Branch c a b) d n s m t h g o e =
      branch_kept d n s m c a b t (holds c t) h o refl (e ∙ ap (λ v. branch v a b (core t)) (cond_bare c t g))
  next_kept (end.Switch w cases) d n s m t h g o e =
      by_value_kept d n s m w cases t (word_in w t) h o refl (e ∙ ap (λ v. by_value v cases (core t)) (word_bare w t (both_true (is_flow_word w) (have_words cases) g).0))
  next_kept end.Return d n s m t h g o e = return_kept blocks every (Clear Selected) (Clear Selected) d n s m t e
  next_kept (end.Leave w) d n s m t h g o e = leave_kept blocks every (Clear Selected) (Clear Selected) d n s m w (in_turn (map tree_does (next_trees (end.Leave w)))) t g o e

  body_is : (b : Block) → tree_does (block_body b) ≡ seq (tree_does (block_tree b)) (in_turn (map tree_does (next_trees b.end)))
  body_is b = does_layer (Tree-F.Seq (block_tree b ∷ next_trees b.end))

  case_kept : (b : Option Block) (d n : ℕ) (s : World) (m : ℕ) → slice_get blocks n ≡ b → d ≤ 1 → s.names selector ≡ n → Sound blocks every n (core s)
      → KeptHere d n s m (group_of (map case_does (block_cases 0 blocks)) (tree_does nothing) (s.names selector) m s)
  case_kept None d n s m e h i o = absurd (not_nowhere blocks every n (core s) o (ap (λ x. enter x (core s)) e))
  case_kept (Some b) d n s m e h i o =
      let r = block_rule blocks n b e rule in
      let found = case_found blocks 0 n (s.names selector) b (tree_does nothing) m s e (omega (arith, i)) ∙ ap (λ (a : Part). a m s) (body_is b) in
      subst (λ r. KeptHere d n s m r) (sym found)
      (block_kept blocks every (Clear Selected) (Clear Selected) d n s m b (in_turn (map tree_does (next_trees b.end))) e r o
      (λ t k. next_kept b.end d n s m t h (both_true (are_flow_stmts b.stmts) (is_flow_end b.end) r).1 o k))

  abbrev turn_tree : Tree
  turn_tree = roll-Tree (Tree-F.Switch selector (block_cases 0 blocks) nothing)

  turn_is : tree_does turn_tree ≡ switch (λ w. Some (w.names selector)) (map case_does (block_cases 0 blocks)) (tree_does nothing)
  turn_is = does_layer (Tree-F.Switch selector (block_cases 0 blocks) nothing)

  body_tracks : Tracks blocks every (Owed Selected) (tree_does turn_tree) (Clear Selected) (Clear None_such)
  body_tracks = record {
    by = λ d n s m i o.
        subst (λ (a : Part). Kept blocks every (Clear Selected) (Clear None_such) d n s m (a m s)) (sym turn_is)
        (catch_kept blocks every (Clear Selected) (Clear None_such) d n s m _ (case_kept (slice_get blocks n) d n s m refl (omega (arith, i.0)) i.1 o));
  }

  loop_is : tree_does (selector_loop blocks) ≡ repeat always (tree_does turn_tree) always
  loop_is = does_layer (Tree-F.Loop turn_tree)

  loop_follows : Tracks blocks every (Clear Selected) (tree_does (selector_loop blocks)) (Clear None_such) (Clear None_such)
  loop_follows = subst (λ (a : Part). Tracks blocks every (Clear Selected) a (Clear None_such) (Clear None_such)) (sym loop_is)
      (loop_tracks blocks every Selected None_such (Clear None_such) (tree_does turn_tree) (λ n s i. refl) body_tracks)

  start_kept : (entry : ℕ) (s : World) (d n : ℕ) (u : World) (m : ℕ) → Starts entry s d n u → Kept blocks every (Clear Selected) (Clear None_such) d n u m (Ends (Past (set_word selector entry u)) m)
  start_kept entry s d n u m i = record {
    steps = 0;
    debt = 0;
    node = entry;
    path = ap (λ k. To k (core u)) i.1 ∙ ap (λ v. To entry v) (sym (selector_apart 0 entry u));
    paid = omega (arith, i.0);
    left = omega arith;
    holds = (refl, selector_set 0 entry u);
  }

  start_tracks : (entry : ℕ) (s : World) → Tracks blocks every (Starts entry s) (tree_does (goes_to entry)) (Clear Selected) (Clear None_such)
  start_tracks entry s = record {
    by = λ d n u m i o.
        subst (λ r. Kept blocks every (Clear Selected) (Clear None_such) d n u m r) (sym (goes_does entry m u)) (start_kept entry s d n u m i);
  }

pub plain_follows : (f : Flow) → KeepsRule f → Follows f (plain_tree f)
plain_follows f rule = follows f every (plain_tree f) (λ s.
    subst (λ (a : Part). Tracks f.blocks every (Starts f.entry s) a (Clear None_such) (Clear None_such))
    (sym (does_layer (Tree-F.Seq (goes_to f.entry ∷ selector_loop f.blocks ∷ []))))
    (seq_tracks f.blocks every (Starts f.entry s) (Clear Selected) (Clear None_such) (Clear None_such) (tree_does (goes_to f.entry)) (seq (tree_does (selector_loop f.blocks)) skip)
    (start_tracks f.blocks rule f.entry s)
    (seq_tracks f.blocks every (Clear Selected) (Clear None_such) (Clear None_such) (Clear None_such) (tree_does (selector_loop f.blocks)) skip
    (loop_follows f.blocks rule)
    (skip_tracks f.blocks every (Clear None_such) (Clear None_such)))))
