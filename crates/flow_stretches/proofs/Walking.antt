-- The runs of joined blocks are runs of the blocks.
use Rattle.std.proofs.Common.{◌≡◌, inl, inr, ℕ, zero, suc, ◌+◌, ◌≤◌, List, [], ◌∷◌, ◌++◌, length, Some, refl, sym, ap, ◌∙◌, subst, arith, append-nil}
use Rattle.std.specs.Prelude.{slice_get}
use Rattle.std.specs.List.{flat_map}
use Rattle.std.proofs.lemmas.List.Elements.{All-contains}
use Rattle.run_parts.specs.Steps.{Did, Next, Halt, Jam, To, End, Nowhere, then_do, arrive}
use Rattle.run_parts.specs.World.{World, start_world}
use Rattle.run_parts.specs.Effects.{Doing}
use Rattle.graph_order.specs.Graph.{IsReached}
use Rattle.micro_ir.specs.declared.flow.Stmt.{Stmt}
use Rattle.micro_ir.specs.declared.flow.End.{End as BlockEnd}
use Rattle.micro_ir.specs.declared.flow.Block.{Block}
use Rattle.micro_ir.specs.declared.flow.Flow.{Flow}
use Rattle.micro_ir.specs.Rule.{IsGiven}
use Rattle.micro_ir.specs.Run.{Arrive, stmt_does, stmts_do, end_leads, block_leads, enter, onward, walk, outcome_of}
use Rattle.micro_ir.specs.Laws.{relocate}
use Rattle.micro_ir.proofs.More.{more_from, end_stays}
use Rattle.micro_ir.proofs.Moves.{blocks_move}
use Rattle.flow_stretches.specs.Ends.{only_target, straight}
use Rattle.flow_stretches.specs.Joined.{graph_of, block_at, IsFollowed, IsFirst, last_from, Path, IsStretch, join_of, IsJoined}
use Rattle.flow_stretches.specs.Laws.{JoinedRuns}
use Rattle.flow_stretches.proofs.Members.{contains_got, at_mapped}
use Rattle.flow_stretches.proofs.Straight.{LeadsOr, straight_leads, straight_names, only_leads, arrive_to}
use Rattle.flow_stretches.proofs.Reached.{block_found, reached_inside, entry_first, named_edge, follows_reached, target_first}

-- ---- statements one after another

do_twice : {S E : Type 0} (d : Did S E) (f g k : S → Did S E) → ((w : S) → f w ≡ then_do (g w) k) → then_do d f ≡ then_do (then_do d g) k
do_twice (Next w) f g k e = e w
do_twice (Halt o) f g k e = refl
do_twice Jam f g k e = refl

append_does : (xs ys : List Stmt) (w : World) → stmts_do (xs ++ ys) w ≡ then_do (stmts_do xs w) (stmts_do ys)
append_does [] ys w = refl
append_does (s ∷ xs) ys w = do_twice (stmt_does s w) (stmts_do (xs ++ ys)) (stmts_do xs) (stmts_do ys) (append_does xs ys)

-- ---- arrivals

onward_stays : (blocks : List Block) (a : Arrive) → onward a (walk blocks zero) ≡ a
onward_stays blocks (To n w) = refl
onward_stays blocks (End o) = refl
onward_stays blocks Nowhere = refl

same_outcome : (name : ℕ → ℕ) (a : Arrive) → outcome_of (relocate name a) ≡ outcome_of a
same_outcome name (To n w) = refl
same_outcome name (End o) = refl
same_outcome name Nowhere = refl

after_straight : (d : Doing) (e : BlockEnd) → LeadsOr (arrive d (end_leads e)) (arrive d (end_leads (straight e)))
after_straight (Next w) e = straight_leads e w
after_straight (Halt o) e = inr refl
after_straight Jam e = inl refl

-- ---- along a path

module _ (f : Flow) (given : IsGiven f) where
  abbrev stmts_at : ℕ → List Stmt
  stmts_at n = (block_at f.blocks n).stmts

  -- where the joined block of a path leads, before nodes are named anew
  abbrev pub path_joined : ℕ → List ℕ → World → Arrive
  path_joined n ms w = arrive (stmts_do (flat_map stmts_at (n ∷ ms)) w) (end_leads (straight (block_at f.blocks (last_from n ms)).end))

  -- one block of a reached node
  one_block : (k n : ℕ) (w : World) → IsReached (graph_of f) n → walk f.blocks (suc k) n w ≡ onward (block_leads (block_at f.blocks n) w) (walk f.blocks k)
  one_block k n w r = ap (λ o. onward (enter o w) (walk f.blocks k)) (block_found f n (reached_inside f n given.checked r))

  step_on : (k n m : ℕ) (ms : List ℕ) (d : Doing) → only_target (block_at f.blocks n).end ≡ Some m → ((w : World) → LeadsOr (walk f.blocks k m w) (path_joined m ms w))
      → LeadsOr (onward (arrive d (end_leads (block_at f.blocks n).end)) (walk f.blocks k))
      (arrive (then_do d (stmts_do (flat_map stmts_at (m ∷ ms)))) (end_leads (straight (block_at f.blocks (last_from m ms)).end)))
  step_on k n m ms (Next u) only h = elim (only_leads (block_at f.blocks n).end m u only) [
    | inl e ↦ inl (ap (λ a. onward a (walk f.blocks k)) e)
    | inr e ↦ subst (λ a. LeadsOr (onward a (walk f.blocks k)) (path_joined m ms u)) (sym e) (h u)
  ]
  step_on k n m ms (Halt o) only h = inr refl
  step_on k n m ms Jam only h = inl refl

  -- the blocks of a path one after another lead where the joined block does
  pub path_leads : (ms : List ℕ) (n : ℕ) (w : World) → IsReached (graph_of f) n → Path (IsFollowed f) n ms → LeadsOr (walk f.blocks (suc (length ms)) n w) (path_joined n ms w)
  path_leads [] n w r p =
      let e = (block_at f.blocks n).end in
      let one : walk f.blocks (suc zero) n w ≡ block_leads (block_at f.blocks n) w = one_block zero n w r ∙ onward_stays f.blocks (block_leads (block_at f.blocks n) w) in
      subst (λ a. LeadsOr a (path_joined n [] w)) (sym one)
      (subst (λ ss. LeadsOr (arrive (stmts_do (stmts_at n) w) (end_leads e)) (arrive (stmts_do ss w) (end_leads (straight e)))) (sym (append-nil (stmts_at n)))
      (after_straight (stmts_do (stmts_at n) w) e))
  path_leads (m ∷ ms) n w r p =
      let rest = flat_map stmts_at (m ∷ ms) in
      let k = suc (length ms) in
      subst (λ a. LeadsOr a (path_joined n (m ∷ ms) w)) (sym (one_block k n w r))
      (subst (λ d. LeadsOr (onward (block_leads (block_at f.blocks n) w) (walk f.blocks k)) (arrive d (end_leads (straight (block_at f.blocks (last_from m ms)).end)))) (sym (append_does (stmts_at n) rest w))
      (step_on k n m ms (stmts_do (stmts_at n) w) p.0.only (λ u. path_leads ms m u (follows_reached f n m p.0) p.1)))

  pub path_reached : (ms : List ℕ) (n : ℕ) → IsReached (graph_of f) n → Path (IsFollowed f) n ms → IsReached (graph_of f) (last_from n ms)
  path_reached [] n r p = r
  path_reached (m ∷ ms) n r p = path_reached ms m (follows_reached f n m p.0) p.1

-- a stretch by its first node and the others
pub record StretchFrom (f : Flow) (n : ℕ) (ms : List ℕ) : Type 0 where
  pub begins : IsFirst f n
  pub path : Path (IsFollowed f) n ms
  pub ends : (m : ℕ) → IsFollowed f (last_from n ms) m → ⊥

pub stretch_from : (f : Flow) (n : ℕ) (ms : List ℕ) → IsStretch f (n ∷ ms) → StretchFrom f n ms
stretch_from f n ms s =
    let first : s.first ≡ n = cc in
    let others : s.others ≡ ms = cc in
    subst (λ k. StretchFrom f k ms) first (subst (λ ks. StretchFrom f s.first ks) others (record { begins = s.begins; path = s.path; ends = s.ends }))

-- ---- the joined flow

module _ (f g : Flow) (given : IsGiven f) (j : IsJoined f g) where
  -- the stretch of a first node
  pub stretch_at : (n : ℕ) → IsFirst f n → (ms : List ℕ) × (slice_get j.stretches (j.name n) ≡ Some (n ∷ ms)) × StretchFrom f n ms
  stretch_at n h =
      let s = j.are.named n h in
      (s.0, s.1, stretch_from f n s.0 (All-contains (IsStretch f) j.stretches (n ∷ s.0) j.are.each (contains_got j.stretches (j.name n) (n ∷ s.0) s.1)))

  -- what its new block does
  new_block : (n : ℕ) (ms : List ℕ) (w : World) → slice_get j.stretches (j.name n) ≡ Some (n ∷ ms) → enter (slice_get g.blocks (j.name n)) w ≡ relocate j.name (path_joined f given n ms w)
  new_block n ms w e =
      let block = join_of f.blocks j.name (n ∷ ms) in
      let plain : Block = record { at = 0; stmts = flat_map (stmts_at f given) (n ∷ ms); end = straight (block_at f.blocks (last_from n ms)).end } in
      ap (λ bs. enter (slice_get bs (j.name n)) w) j.blocks
      ∙ ap (λ o. enter o w) (at_mapped (join_of f.blocks j.name) j.stretches (j.name n) (n ∷ ms) e)
      ∙ blocks_move j.name plain block w refl refl

  -- where a stretch leads is a first node
  next_first : (n : ℕ) (ms : List ℕ) (w u : World) (t : ℕ) → StretchFrom f n ms → path_joined f given n ms w ≡ To t u → IsFirst f t
  next_first n ms w u t s e =
      let last = last_from n ms in
      target_first f last t (path_reached f given ms n s.begins.reached s.path) s.ends
      (named_edge f last t (straight_names (block_at f.blocks last).end t (arrive_to (stmts_do (flat_map (stmts_at f given) (n ∷ ms)) w) (straight (block_at f.blocks last).end) t u e)))

  -- how far the old walk has come that the new one of k blocks stands for
  record Reaches (k n : ℕ) (w : World) : Type 0 where
    blocks : ℕ
    more : k ≤ blocks
    same : walk g.blocks k (j.name n) w ≡ relocate j.name (walk f.blocks blocks n w)

  abbrev Somewhere : ℕ → World → Type 0
  Somewhere n w = (m : ℕ) → walk f.blocks m n w ≡ Nowhere → ⊥

  further : (k n l : ℕ) (w : World) (a : Arrive) → walk f.blocks (suc l) n w ≡ a → walk g.blocks (suc k) (j.name n) w ≡ onward (relocate j.name a) (walk g.blocks k)
      → ((t : ℕ) (u : World) → a ≡ To t u → Somewhere t u → Reaches k t u) → Somewhere n w → Reaches (suc k) n w
  further k n l w (To t u) e new h some =
      let r = h t u refl (λ m z. some (suc l + m) (more_from f.blocks (suc l) m n w (To t u) e ∙ z)) in
      record {
        blocks = suc l + r.blocks;
        more = omega (arith, r.more);
        same = new ∙ r.same ∙ ap (relocate j.name) (sym (more_from f.blocks (suc l) r.blocks n w (To t u) e));
      }
  further k n l w (End o) e new h some = record {
    blocks = suc l + k;
    more = omega arith;
    same = new ∙ ap (relocate j.name) (sym (end_stays f.blocks (suc l) k n w o e));
  }
  further k n l w Nowhere e new h some = absurd (some (suc l) e)

  reaches : (k n : ℕ) (w : World) → IsFirst f n → Somewhere n w → Reaches k n w
  reaches zero n w h some = record { blocks = 0; more = omega arith; same = refl }
  reaches (suc k) n w h some =
      let s = stretch_at n h in
      let ms = s.0 in
      elim (path_leads f given ms n w h.reached s.2.path) [
        | inl e ↦ absurd (some (suc (length ms)) e)
        | inr e ↦
            further k n (length ms) w (path_joined f given n ms w) (sym e)
            (ap (λ a. onward a (walk g.blocks k)) (new_block n ms w s.1))
            (λ t u i. reaches k t u (next_first n ms w u t s.2 i))
            some
      ]

pub joined_runs : JoinedRuns
joined_runs f g given j = record {
  runs = λ start answers never k.
      let w = start_world start answers in
      let r = reaches f g given j k f.entry w (entry_first f) (λ m e. never m (ap outcome_of e)) in
      (r.blocks, r.more, ap (λ n. outcome_of (walk g.blocks k n w)) j.entry ∙ ap outcome_of r.same ∙ same_outcome j.name (walk f.blocks r.blocks f.entry w));
}
