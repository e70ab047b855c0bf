-- A block in a tree does what the flow's block does, up to its end.
use Rattle.std.proofs.Common.{◌≡◌, ℕ, zero, suc, Bool, List, [], ◌∷◌, Option, Some, sym, ap, ◌∙◌, subst}
use Rattle.std.specs.Prelude.{slice_get, IsTrue}
use Rattle.run_parts.specs.Parts.{Ends, Past, Over, on, after, seq}
use Rattle.run_parts.specs.Steps.{Next, Halt, Jam, arrive, then_do, done, having}
use Rattle.run_parts.specs.World.{World, returned}
use Rattle.run_parts.specs.Effects.{Doing, set_word, setting}
use Rattle.c_syntax.specs.declared.syntax.CExpr.{CExpr, CExpr-F}
use Rattle.c_syntax.specs.declared.syntax.CCond.{CCond}
use Rattle.c_syntax.specs.Value.{picked}
use Rattle.c_syntax.specs.Run.{Part, word_in, holds, does_ext}
use Rattle.c_syntax.proofs.Layers.{word_of_layer}
use Rattle.c_words.specs.Built as built
use Rattle.micro_ir.specs.declared.flow.End.TheVariants as end
use Rattle.micro_ir.specs.declared.flow.Block.{Block}
use Rattle.micro_ir.specs.Rule.{are_flow_stmts, is_flow_end, is_flow_block, are_flow_blocks, is_flow_word}
use Rattle.micro_ir.specs.Run.{stmts_do, left_by, end_leads, enter}
use Rattle.micro_ir.proofs.Values.{both_true}
use Rattle.guarded.specs.declared.tree.SetTo.TheVariants as to
use Rattle.guarded.specs.declared.tree.Tree.{Tree-F}
use Rattle.guarded.specs.Run.{end_does, tree_does}
use Rattle.guarded.proofs.Layers.{does_layer}
use Rattle.regions.specs.Plain.{selector, selects, goes_to, tree_end, block_tree}
use Rattle.regions.proofs.Core.{core, core_did, stmts_bare, ext_bare}
use Rattle.regions.proofs.Tracks.{Place, Sound, Kept, over_kept, not_nowhere}

-- a block of a flow that keeps the rule keeps it
pub block_rule : (blocks : List Block) (n : ℕ) (b : Block) → slice_get blocks n ≡ Some b → IsTrue (are_flow_blocks blocks) → IsTrue (is_flow_block b)
block_rule [] n b e h = absurd (let z : ⊥ = cc in z)
block_rule (c ∷ bs) zero b e h =
    let same : c ≡ b = cc in
    subst (λ x. IsTrue (is_flow_block x)) same (both_true (is_flow_block c) (are_flow_blocks bs) h).0
block_rule (c ∷ bs) (suc n) b e h = block_rule bs n b e (both_true (is_flow_block c) (are_flow_blocks bs) h).1

-- ---- the selector is set

pub num_in : (n : ℕ) (w : World) → word_in (built.num n) w ≡ Some n
num_in n w = ap (λ g. g w.names) (word_of_layer (CExpr-F.Num n))

pub pick_in : (t : CCond) (a b : CExpr) (w : World) → word_in (built.pick t a b) w ≡ picked (holds t w) (word_in a w) (word_in b w)
pick_in t a b w = ap (λ g. g w.names) (word_of_layer (CExpr-F.Pick t a b))

pub selects_does : (e : CExpr) (x m : ℕ) (w : World) → word_in e w ≡ Some x → tree_does (selects e) m w ≡ Ends (Past (set_word selector x w)) m
selects_does e x m w h =
    ap (λ (a : Part). a m w) (does_layer (Tree-F.Set selector (to.Expr e)))
    ∙ ap (λ (o : Option ℕ). done (having o (λ v. setting selector v w)) m) h

pub goes_does : (n m : ℕ) (w : World) → tree_does (goes_to n) m w ≡ Ends (Past (set_word selector n w)) m
goes_does n m w = selects_does (built.num n) n m w (num_in n w)

-- ---- blocks

-- a block in a tree
pub block_is : (b : Block) (m : ℕ) (w : World) → tree_does (block_tree b) m w ≡ done (then_do (stmts_do b.stmts w) (end_does (tree_end b.end))) m
block_is b m w = ap (λ (a : Part). a m w) (does_layer (Tree-F.Block (record { at = b.at; stmts = b.stmts; «end» = tree_end b.end })))

module _ (blocks : List Block) (head : ℕ → Bool) where
  -- what is left of a block, after its statements
  abbrev pub At_end : Place → Place → ℕ → ℕ → World → ℕ → Block → Part → World → Type 0
  At_end Out Brk d n s m b rest t =
      enter (slice_get blocks n) (core s) ≡ end_leads b.end (core t) → Kept blocks head Out Brk d n s m (on (done (end_does (tree_end b.end) t) m) (after rest))

  stmts_kept : (Out Brk : Place) (d n : ℕ) (s : World) (m : ℕ) (b : Block) (rest : Part) → Sound blocks head n (core s)
      → ((t : World) → At_end Out Brk d n s m b rest t) → (r : Doing) → enter (slice_get blocks n) (core s) ≡ arrive (core_did r) (end_leads b.end)
      → Kept blocks head Out Brk d n s m (on (done (then_do r (end_does (tree_end b.end))) m) (after rest))
  stmts_kept Out Brk d n s m b rest o h (Next t) e = h t e
  stmts_kept Out Brk d n s m b rest o h (Halt p) e = over_kept blocks head Out Brk d n s m p e
  stmts_kept Out Brk d n s m b rest o h Jam e = absurd (not_nowhere blocks head n (core s) o e)

  -- a block, and what follows it
  pub block_kept : (Out Brk : Place) (d n : ℕ) (s : World) (m : ℕ) (b : Block) (rest : Part) → slice_get blocks n ≡ Some b → IsTrue (is_flow_block b) → Sound blocks head n (core s)
      → ((t : World) → At_end Out Brk d n s m b rest t) → Kept blocks head Out Brk d n s m (seq (tree_does (block_tree b)) rest m s)
  block_kept Out Brk d n s m b rest e rule o h =
      let bare = stmts_bare b.stmts s (both_true (are_flow_stmts b.stmts) (is_flow_end b.end) rule).0 in
      let leads : enter (slice_get blocks n) (core s) ≡ arrive (core_did (stmts_do b.stmts s)) (end_leads b.end) =
      ap (λ x. enter x (core s)) e ∙ ap (λ r. arrive r (end_leads b.end)) bare in
      subst (λ r. Kept blocks head Out Brk d n s m (on r (after rest))) (sym (block_is b m s)) (stmts_kept Out Brk d n s m b rest o h (stmts_do b.stmts s) leads)

  -- ---- the ends of the run

  pub return_kept : (Out Brk : Place) (d n : ℕ) (s : World) (m : ℕ) (t : World) → enter (slice_get blocks n) (core s) ≡ end_leads end.Return (core t)
      → Kept blocks head Out Brk d n s m (Ends (Over (returned t)) m)
  return_kept Out Brk d n s m t e = over_kept blocks head Out Brk d n s m (returned t) e

  left_kept : (Out Brk : Place) (d n : ℕ) (s : World) (m : ℕ) (rest : Part) → Sound blocks head n (core s) → (r : Doing) → enter (slice_get blocks n) (core s) ≡ left_by (core_did r)
      → Kept blocks head Out Brk d n s m (on (done (then_do r (λ v. Halt (returned v))) m) (after rest))
  left_kept Out Brk d n s m rest o (Next t) e = over_kept blocks head Out Brk d n s m (returned t) e
  left_kept Out Brk d n s m rest o (Halt p) e = over_kept blocks head Out Brk d n s m p e
  left_kept Out Brk d n s m rest o Jam e = absurd (not_nowhere blocks head n (core s) o e)

  pub leave_kept : (Out Brk : Place) (d n : ℕ) (s : World) (m : ℕ) (e : CExpr) (rest : Part) (t : World) → IsTrue (is_flow_word e) → Sound blocks head n (core s)
      → enter (slice_get blocks n) (core s) ≡ end_leads (end.Leave e) (core t)
      → Kept blocks head Out Brk d n s m (on (done (end_does (end.Leave e) t) m) (after rest))
  leave_kept Out Brk d n s m e rest t rule o h =
      left_kept Out Brk d n s m rest o (does_ext e t) (h ∙ ap left_by (ext_bare e t rule))
