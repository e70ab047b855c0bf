-- What the code makes of blocks and flows.
use Rattle.std.proofs.Common.{◌≡◌, ℕ, zero, suc, ◌+◌, ◌<◌, ◌≤◌, List, [], ◌∷◌, ◌++◌, length, take, drop, get_or, Some, refl, sym, ap, ◌∙◌, subst, arith}
use Rattle.std.specs.Prelude.{IsTrue, slice_get}
use Rattle.std.proofs.lemmas.List.{take_more}
use Rattle.std.proofs.Math.Seq.{take-length}
use Rattle.micro_ir.specs.declared.flow.Stmt.{Stmt}
use Rattle.micro_ir.specs.declared.flow.Block.{Block}
use Rattle.micro_ir.specs.declared.flow.Flow.{Flow}
use Rattle.micro_ir.specs.Rule.{is_flow_block, are_flow_blocks, IsGiven}
use Rattle.flow_passes.specs.Keeps.{Keeps}
use Rattle.micro_ir.proofs.Values.{both_true}
use Rattle.flow_passes.specs.Uses.{NameSet}
use Rattle.flag_liveness.specs.Before.{AreLive, live_before_all, live_at}
use Rattle.flag_liveness.specs.Clean.{cleaned_flow}
use Rattle.flag_liveness.proofs.Keeping.{cleaning_keeps}
use Rattle.expr_fold.specs.declared.delayed.Delayed.{Delayed}
use Rattle.expr_fold.specs.Placed.{placed_end}
use Rattle.expr_fold.specs.Follows.{Waits, FollowsFirst}
use Rattle.expr_fold.specs.Ends.{end_fits, none_seen_after}
use Rattle.expr_fold.specs.Folds.{LivesAt, LivesIn, FoldsBlock, FoldsBlocks}
use Rattle.expr_fold.specs.Adds.{AddsFolded}
use Rattle.expr_fold.proofs.Ending.{ends_well}
use Rattle.expr_fold.proofs.Folded.{block_folds, folds_more, cleaned_lives}

-- what is done while sets wait follows too
pub follows_waiting : (last : NameSet) (all : List Stmt) (i : ℕ) (a : List Stmt) (p : List Delayed) (b : List Stmt) (q : List Delayed) → FollowsFirst last all i a p → Waits a p b q → FollowsFirst last all i b q
follows_waiting last all i a p b q h w seen t = w (live_before_all all last) (live_before_all (drop i all) last) (take i all) (h seen t)

-- a block of new statements and the end with delayed words in place
pub block_made : (live : ℕ → NameSet) (b c : Block) (p : List Delayed) → IsTrue (is_flow_block b) → FollowsFirst (live_at b.end live) b.stmts (length b.stmts) c.stmts p
    → c.at ≡ b.at → c.end ≡ placed_end p b.end → IsTrue (end_fits c.end) → IsTrue (none_seen_after b.end live p) → (k : ℕ) → LivesAt live k b → FoldsBlock live k b c
block_made live b c p rule follows at e fits unseen k lives = block_folds live k b c p rule lives follows (ends_well live p b.end unseen) at e fits

-- each block keeps the rule
pub rule_at : (all : List Block) (i : ℕ) (b : Block) → i < length all → b ≡ get_or all i b → IsTrue (are_flow_blocks all) → IsTrue (is_flow_block b)
rule_at [] i b l e h = absurd (omega (arith, l))
rule_at (x ∷ xs) zero b l e h = subst (λ y. IsTrue (is_flow_block y)) (sym e) (both_true (is_flow_block x) (are_flow_blocks xs) h).0
rule_at (x ∷ xs) (suc i) b l e h = rule_at xs i b (omega (arith, l)) e (both_true (is_flow_block x) (are_flow_blocks xs) h).1

-- the block of a number
here_at : (all : List Block) (i : ℕ) (b : Block) → i < length all → b ≡ get_or all i b → slice_get all i ≡ Some b
here_at [] i b l e = absurd (omega (arith, l))
here_at (x ∷ xs) zero b l e = ap (λ y. Some y) (sym e)
here_at (x ∷ xs) (suc i) b l e = here_at xs i b (omega (arith, l)) e

taken_length : (all : List Block) (i : ℕ) → i < length all → length (take i all) ≡ i
taken_length [] i l = absurd (omega (arith, l))
taken_length (x ∷ xs) zero l = refl
taken_length (x ∷ xs) (suc i) l = ap suc (taken_length xs i (omega (arith, l)))

-- one block more
pub blocks_more : (live : ℕ → NameSet) (all : List Block) (i : ℕ) (b : Block) (made made' : List Block) → i < length all → b ≡ get_or all i b → LivesIn live all → AddsFolded live b made made'
    → FoldsBlocks live 0 (take i all) made → FoldsBlocks live 0 (take (i + 1) all) made'
blocks_more live all i b made made' l g lives (c, e, each) h =
    let n : 0 + length (take i all) ≡ i = let m = taken_length all i l in omega (arith, m) in
    subst (λ x. FoldsBlocks live 0 (take (i + 1) all) x) (sym e)
    (subst (λ y. FoldsBlocks live 0 y (made ++ c ∷ [])) (sym (take_more all i b l ∙ ap (λ x. take i all ++ x ∷ []) (sym g)))
    (folds_more live 0 (take i all) made b c h (each (0 + length (take i all)) (subst (λ j. LivesAt live j b) (sym n) (lives i b (here_at all i b l g))))))

-- all blocks
pub blocks_all : (live : ℕ → NameSet) (all : List Block) (i : ℕ) (made : List Block) → length all ≤ i → i ≤ length all → FoldsBlocks live 0 (take i all) made → FoldsBlocks live 0 all made
blocks_all live all i made a b h =
    let e : i ≡ length all = omega arith in
    subst (λ y. FoldsBlocks live 0 y made) (ap (λ n. take n all) e ∙ take-length all) h

-- ---- a flow without what nobody sees

pub seen_given : (f g : Flow) (live : ℕ → NameSet) → IsGiven f → AreLive f live → g ≡ cleaned_flow live f → IsGiven g
seen_given f g live h l e = subst IsGiven (sym e) (cleaning_keeps f live h l).0

pub seen_keeps : (f g : Flow) (live : ℕ → NameSet) → IsGiven f → AreLive f live → g ≡ cleaned_flow live f → Keeps f g
seen_keeps f g live h l e = subst (Keeps f) (sym e) (cleaning_keeps f live h l).1

pub seen_lives : (f g : Flow) (live : ℕ → NameSet) → AreLive f live → g ≡ cleaned_flow live f → LivesIn live g.blocks
seen_lives f g live l e = subst (λ x. LivesIn live x.blocks) (sym e) (cleaned_lives f live l)
