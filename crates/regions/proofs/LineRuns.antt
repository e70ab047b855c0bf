-- The tree of a flow that is one line follows it.
use Rattle.std.proofs.Common.{◌≡◌, ℕ, nat_eq, Bool, true, false, if◌then◌else◌, List, [], ◌∷◌, length, Option, Some, None, refl, sym, ap, ◌∙◌, subst, map, arith}
use Rattle.std.specs.Prelude.{slice_get, IsTrue}
use Rattle.std.proofs.lemmas.Bool.Decides.{nat_tests}
use Rattle.dream_words.specs.declared.outcome.Outcome.{Outcome}
use Rattle.run_parts.specs.Parts.{Run, on, after, skip, in_turn}
use Rattle.run_parts.specs.Steps.{To, done}
use Rattle.run_parts.specs.World.{World}
use Rattle.c_syntax.specs.Run.{Part, holds}
use Rattle.micro_ir.specs.declared.flow.End.{End as BlockEnd}
use Rattle.micro_ir.specs.declared.flow.End.TheVariants as end
use Rattle.micro_ir.specs.declared.flow.Block.{Block}
use Rattle.micro_ir.specs.declared.flow.Flow.{Flow}
use Rattle.micro_ir.specs.Rule.{are_flow_stmts, are_flow_blocks, is_flow_end, KeepsRule}
use Rattle.micro_ir.specs.Run.{branch, end_leads, enter}
use Rattle.micro_ir.proofs.Values.{both_true}
use Rattle.guarded.specs.declared.tree.Tree.{Tree, Tree-F, roll-Tree}
use Rattle.guarded.specs.Run.{end_does, tree_does}
use Rattle.guarded.proofs.Layers.{does_layer}
use Rattle.regions.specs.Follows.{Follows}
use Rattle.regions.specs.Plain.{tree_end, block_tree}
use Rattle.regions.specs.declared.one_line.Way.TheVariants.{On, Over, Splits}
use Rattle.regions.specs.Straight.{way_of, line, straight_tree}
use Rattle.regions.proofs.Lines.{every_line, line_tree}
use Rattle.regions.proofs.Core.{core}
use Rattle.regions.proofs.Tracks.{Place, Clear, Sound, Walk, Kept, Tracks, past_kept, kept_on, sound_on, not_nowhere, from_tracks}
use Rattle.regions.proofs.Following.{None_such, Starts, follows}
use Rattle.regions.proofs.Blocks.{block_rule, block_kept, return_kept, leave_kept}

-- no block is a head: no turn is made
abbrev nowhere : ℕ → Bool
nowhere n = false

-- before a block
abbrev Before : ℕ → ℕ → World → Type 0
Before a n s = n ≡ a

-- ---- the way of an end

-- an end that splits, where its nodes are others
on_or_splits : (b : Bool) (a c : ℕ) → (if b then On a else Splits) ≡ On c → (b ≡ true) × (a ≡ c)
on_or_splits true a c h = (refl, cc)
on_or_splits false a c h = absurd (let z : ⊥ = cc in z)

never_over : (b : Bool) (a : ℕ) → (if b then On a else Splits) ≡ Over → ⊥
never_over true a h = let z : ⊥ = cc in z
never_over false a h = let z : ⊥ = cc in z

same_nodes : (a b : ℕ) → nat_eq a b ≡ true → a ≡ b
same_nodes a b h = grind (arith, nat_tests)

module _ (blocks : List Block) (rule : IsTrue (are_flow_blocks blocks)) where
  abbrev KeptHere : Place → ℕ → ℕ → World → ℕ → Run World Outcome → Type 0
  KeptHere Out d n s m r = Kept blocks nowhere Out (Clear None_such) d n s m r

  to_kept : (d n : ℕ) (s : World) (m a : ℕ) (t : World) → d ≡ 0 → enter (slice_get blocks n) (core s) ≡ To a (core t) → Walk blocks nowhere (Clear (Before a)) d n s m t m
  to_kept d n s m a t h e = past_kept blocks nowhere (Before a) (Clear None_such) d n s m a t (omega (arith, h)) e refl

  -- a branch between one and the same node
  branch_walk : (d n : ℕ) (s : World) (m a b : ℕ) (t : World) (o : Option Bool) → d ≡ 0 → a ≡ b → Sound blocks nowhere n (core s)
      → enter (slice_get blocks n) (core s) ≡ branch o a b (core t) → Walk blocks nowhere (Clear (Before a)) d n s m t m
  branch_walk d n s m a b t None h k o e = absurd (not_nowhere blocks nowhere n (core s) o e)
  branch_walk d n s m a b t (Some true) h k o e = to_kept d n s m a t h e
  branch_walk d n s m a b t (Some false) h k o e = to_kept d n s m a t h (e ∙ ap (λ i. To i (core t)) (sym k))

  -- an end that goes on
  on_walk : (e : BlockEnd) (c d n : ℕ) (s : World) (m : ℕ) (t : World) → d ≡ 0 → way_of e ≡ On c → Sound blocks nowhere n (core s)
      → enter (slice_get blocks n) (core s) ≡ end_leads e (core t) → Walk blocks nowhere (Clear (Before c)) d n s m t m
  on_walk (end.Go a) c d n s m t h w o e =
      let same : a ≡ c = cc in
      subst (λ i. Walk blocks nowhere (Clear (Before i)) d n s m t m) same (to_kept d n s m a t h e)
  on_walk (end.Branch g a b) c d n s m t h w o e =
      let p = on_or_splits (nat_eq a b) a c w in
      subst (λ i. Walk blocks nowhere (Clear (Before i)) d n s m t m) p.1 (branch_walk d n s m a b t (holds g (core t)) h (same_nodes a b p.0) o e)
  on_walk (end.Switch v cases) c d n s m t h w o e = absurd (let z : ⊥ = cc in z)
  on_walk end.Return c d n s m t h w o e = absurd (let z : ⊥ = cc in z)
  on_walk (end.Leave v) c d n s m t h w o e = absurd (let z : ⊥ = cc in z)

  -- in the tree it goes on
  on_does : (e : BlockEnd) (c m : ℕ) (t : World) (rest : Part) → way_of e ≡ On c → on (done (end_does (tree_end e) t) m) (after rest) ≡ rest m t
  on_does (end.Go a) c m t rest w = refl
  on_does (end.Branch g a b) c m t rest w = refl
  on_does (end.Switch v cases) c m t rest w = absurd (let z : ⊥ = cc in z)
  on_does end.Return c m t rest w = absurd (let z : ⊥ = cc in z)
  on_does (end.Leave v) c m t rest w = absurd (let z : ⊥ = cc in z)

  -- an end with which the run is over
  over_end : (e : BlockEnd) (Out : Place) (d n : ℕ) (s : World) (m : ℕ) (t : World) (rest : Part) → way_of e ≡ Over → IsTrue (is_flow_end e) → Sound blocks nowhere n (core s)
      → enter (slice_get blocks n) (core s) ≡ end_leads e (core t) → KeptHere Out d n s m (on (done (end_does (tree_end e) t) m) (after rest))
  over_end (end.Go a) Out d n s m t rest w g o e = absurd (let z : ⊥ = cc in z)
  over_end (end.Branch c a b) Out d n s m t rest w g o e = absurd (never_over (nat_eq a b) a w)
  over_end (end.Switch v cases) Out d n s m t rest w g o e = absurd (let z : ⊥ = cc in z)
  over_end end.Return Out d n s m t rest w g o e = return_kept blocks nowhere Out (Clear None_such) d n s m t e
  over_end (end.Leave v) Out d n s m t rest w g o e = leave_kept blocks nowhere Out (Clear None_such) d n s m v rest t g o e

  -- ---- the line

  abbrev IsLine : ℕ → List Tree → Type 0
  IsLine n ts = Tracks blocks nowhere (Clear (Before n)) (in_turn (map tree_does ts)) (Clear None_such) (Clear None_such)

  -- a line that goes on
  longer : (n c : ℕ) (b : Block) (ts : List Tree) → slice_get blocks n ≡ Some b → way_of b.end ≡ On c → IsLine c ts → IsLine n (block_tree b ∷ ts)
  longer n c b ts e w h = record {
    by = λ d k s m i o.
        let at : slice_get blocks k ≡ Some b = ap (λ j. slice_get blocks j) i.1 ∙ e in
        let rest = in_turn (map tree_does ts) in
        block_kept blocks nowhere (Clear None_such) (Clear None_such) d k s m b rest at (block_rule blocks k b at rule) o (λ t g.
        let walk = on_walk b.end c d k s m t i.0 w o g in
        subst (λ r. KeptHere (Clear None_such) d k s m r) (sym (on_does b.end c m t rest w))
        (kept_on blocks nowhere (Clear (Before c)) (Clear None_such) (Clear None_such) d k s m t m walk (rest m t)
        (h.by walk.debt walk.node t m walk.holds (sound_on blocks nowhere walk.steps k walk.node (core s) (core t) o walk.path))));
  }

  -- the last block of a line
  last_one : (n : ℕ) (b : Block) → slice_get blocks n ≡ Some b → way_of b.end ≡ Over → IsLine n (block_tree b ∷ [])
  last_one n b e w = record {
    by = λ d k s m i o.
        let at : slice_get blocks k ≡ Some b = ap (λ j. slice_get blocks j) i.1 ∙ e in
        let r = block_rule blocks k b at rule in
        block_kept blocks nowhere (Clear None_such) (Clear None_such) d k s m b skip at r o
        (λ t g. over_end b.end (Clear None_such) d k s m t skip w (both_true (are_flow_stmts b.stmts) (is_flow_end b.end) r).1 o g);
  }

  line_is : (k n : ℕ) (ts : List Tree) → line blocks k n ≡ Some ts → IsLine n ts
  line_is = every_line blocks IsLine last_one longer

line_follows : (f : Flow) (ts : List Tree) → KeepsRule f → line f.blocks (length f.blocks) f.entry ≡ Some ts → Follows f (roll-Tree (Tree-F.Seq ts))
line_follows f ts rule e = follows f nowhere (roll-Tree (Tree-F.Seq ts)) (λ s.
    subst (λ (a : Part). Tracks f.blocks nowhere (Starts f.entry s) a (Clear None_such) (Clear None_such)) (sym (does_layer (Tree-F.Seq ts)))
    (from_tracks f.blocks nowhere (Clear (Before f.entry)) (Starts f.entry s) (Clear None_such) (Clear None_such) (in_turn (map tree_does ts)) (λ d n u i. (i.0, i.1))
    (line_is f.blocks rule (length f.blocks) f.entry ts e)))

pub straight_follows : (f : Flow) (t : Tree) → KeepsRule f → straight_tree f ≡ Some t → Follows f t
straight_follows f t rule h =
    let l = line_tree (line f.blocks (length f.blocks) f.entry) t h in
    subst (Follows f) l.seq (line_follows f l.trees rule l.line_is)
