-- What is made from the end on.
use Rattle.std.proofs.Common.{◌≡◌, ℕ, Bool, true, false, cond, not, ◌&&◌, ◌||◌, List, [], ◌∷◌, ◌++◌, reverse, map, refl, sym, ap, subst, ◌∙◌}
use Rattle.std.proofs.lemmas.Bool.{false≢true}
use Rattle.std.proofs.lemmas.List.{append_assoc, append-nil, reverse-append}
use Rattle.std.specs.Prelude.{IsTrue}
use Rattle.micro_ir.specs.declared.flow.Stmt.{Stmt}
use Rattle.micro_ir.specs.declared.flow.Stmt.TheVariants as stmt
use Rattle.micro_ir.specs.declared.flow.Block.{Block}
use Rattle.micro_ir.specs.Rule.{is_flow_target, is_flow_word, is_flow_stmt, are_flow_stmts, is_flow_block, are_flow_blocks}
use Rattle.micro_ir.proofs.Values.{both_true}
use Rattle.flow_passes.specs.Uses.{NameSet, stmt_reads, stmt_sets}
use Rattle.flag_liveness.specs.declared.seen.Seen.{Seen}
use Rattle.flag_liveness.specs.Before.{is_itself, is_unseen, live_before, live_before_all}
use Rattle.flag_liveness.specs.Clean.{cleaned, cleaned_block}
use Rattle.flag_liveness.specs.Within.{names_within, Agree}

-- ---- sets that agree

pub same_unseen : (s : Stmt) (a b : NameSet) → IsTrue (is_flow_stmt s) → Agree a b → is_unseen s a ≡ is_unseen s b
same_unseen (stmt.Set m e) a b t h = ap (λ x. not x || is_itself m e) (h m (both_true (is_flow_target m) (is_flow_word e) t).0)
same_unseen (stmt.Load m width e) a b t h = refl
same_unseen (stmt.Store width e f) a b t h = refl
same_unseen (stmt.Ext e) a b t h = refl
same_unseen (stmt.Trap vector e) a b t h = refl

pub same_before : (s : Stmt) (a b : NameSet) → IsTrue (is_flow_stmt s) → Agree a b → Agree (live_before s a) (live_before s b)
same_before s a b t h = λ n g.
    ap (λ x. cond x (a n) (stmt_reads s n || (a n && not (stmt_sets s n)))) (same_unseen s a b t h)
    ∙ ap (λ x. cond (is_unseen s b) x (stmt_reads s n || (x && not (stmt_sets s n)))) (h n g)

-- ---- statements

kept_step : (b d : Bool) (s : Stmt) (kept more all : List Stmt) → b ≡ d → more ≡ cond b kept (kept ++ s ∷ []) → reverse kept ≡ all → reverse more ≡ cond d all (s ∷ all)
kept_step true true s kept more all e m r = ap reverse m ∙ r
kept_step false false s kept more all e m r = ap reverse m ∙ reverse-append kept (s ∷ []) ∙ ap (λ x. s ∷ x) r
kept_step true false s kept more all e m r = absurd (false≢true (sym e))
kept_step false true s kept more all e m r = absurd (false≢true e)

flow_at : (xs ys : List Stmt) (s : Stmt) → IsTrue (are_flow_stmts (xs ++ s ∷ ys)) → IsTrue (is_flow_stmt s)
flow_at [] ys s t = (both_true (is_flow_stmt s) (are_flow_stmts ys) t).0
flow_at (x ∷ xs) ys s t = flow_at xs ys s (both_true (is_flow_stmt x) (are_flow_stmts (xs ++ s ∷ ys)) t).1

-- Of statements those from some place on were gone over: what somebody sees of them is kept, the last first, and what is
-- live before them is known.
pub record Cleans (across : ℕ → Bool) (stmts rest kept : List Stmt) (first now : Seen) : Type 0 where
  pub done : List Stmt
  pub split : stmts ≡ rest ++ done
  pub kept_is : (after : NameSet) → Agree (names_within across first) after → reverse kept ≡ cleaned done after
  pub live_is : (after : NameSet) → Agree (names_within across first) after → Agree (names_within across now) (live_before_all done after)

pub cleans_none : (across : ℕ → Bool) (stmts : List Stmt) (x : Seen) → Cleans across stmts stmts [] x x
cleans_none across stmts x = record { done = []; split = sym (append-nil stmts); kept_is = λ after h. refl; live_is = λ after h. h }

moved : (stmts rest less done : List Stmt) (s : Stmt) → stmts ≡ rest ++ done → rest ≡ less ++ s ∷ [] → stmts ≡ less ++ s ∷ done
moved stmts rest less done s p q = p ∙ ap (λ t. t ++ done) q ∙ append_assoc less (s ∷ []) done

pub cleans_more : (across : ℕ → Bool) (stmts rest less kept more : List Stmt) (first x y : Seen) (s : Stmt) → IsTrue (are_flow_stmts stmts) → Cleans across stmts rest kept first x → rest ≡ less ++ s ∷ []
    → more ≡ cond (is_unseen s (names_within across x)) kept (kept ++ s ∷ []) → Agree (names_within across y) (live_before s (names_within across x)) → Cleans across stmts less more first y
cleans_more across stmts rest less kept more first x y s t h e m b =
    let split : stmts ≡ less ++ s ∷ h.done = moved stmts rest less h.done s h.split e in
    let flow : IsTrue (is_flow_stmt s) = flow_at less h.done s (subst (λ ss. IsTrue (are_flow_stmts ss)) split t) in
    record {
      done = s ∷ h.done;
      split = split;
      kept_is = λ after a. kept_step (is_unseen s (names_within across x)) (is_unseen s (live_before_all h.done after)) s kept more (cleaned h.done after) (same_unseen s (names_within across x) (live_before_all h.done after) flow (h.live_is after a)) m (h.kept_is after a);
      live_is = λ after a n g. b n g ∙ same_before s (names_within across x) (live_before_all h.done after) flow (h.live_is after a) n g;
    }

pub cleans_all : (across : ℕ → Bool) (stmts rest kept : List Stmt) (first now : Seen) → Cleans across stmts rest kept first now → rest ≡ [] → (after : NameSet) → Agree (names_within across first) after → reverse kept ≡ cleaned stmts after
cleans_all across stmts rest kept first now h e after a = h.kept_is after a ∙ ap (λ t. cleaned t after) (sym (h.split ∙ ap (λ t. t ++ h.done) e))

-- ---- blocks

block_at : (xs ys : List Block) (b : Block) → IsTrue (are_flow_blocks (xs ++ b ∷ ys)) → IsTrue (is_flow_block b)
block_at [] ys b t = (both_true (is_flow_block b) (are_flow_blocks ys) t).0
block_at (x ∷ xs) ys b t = block_at xs ys b (both_true (is_flow_block x) (are_flow_blocks (xs ++ b ∷ ys)) t).1

-- Of blocks those from some place on were made, the last first.
pub record Makes (live : ℕ → NameSet) (blocks rest made : List Block) : Type 0 where
  pub done : List Block
  pub split : blocks ≡ rest ++ done
  pub made_is : reverse made ≡ map (cleaned_block live) done

pub makes_none : (live : ℕ → NameSet) (blocks : List Block) → Makes live blocks blocks []
makes_none live blocks = record { done = []; split = sym (append-nil blocks); made_is = refl }

moved_block : (blocks rest less done : List Block) (b : Block) → blocks ≡ rest ++ done → rest ≡ less ++ b ∷ [] → blocks ≡ less ++ b ∷ done
moved_block blocks rest less done b p q = p ∙ ap (λ t. t ++ done) q ∙ append_assoc less (b ∷ []) done

pub next_is_flow : (live : ℕ → NameSet) (blocks rest less made : List Block) (b : Block) → IsTrue (are_flow_blocks blocks) → Makes live blocks rest made → rest ≡ less ++ b ∷ [] → IsTrue (is_flow_block b)
next_is_flow live blocks rest less made b t h e = block_at less h.done b (subst (λ bs. IsTrue (are_flow_blocks bs)) (moved_block blocks rest less h.done b h.split e) t)

pub makes_more : (live : ℕ → NameSet) (blocks rest less made more : List Block) (b c : Block) → Makes live blocks rest made → rest ≡ less ++ b ∷ [] → c ≡ cleaned_block live b → more ≡ made ++ c ∷ [] → Makes live blocks less more
makes_more live blocks rest less made more b c h e i m = record {
  done = b ∷ h.done;
  split = moved_block blocks rest less h.done b h.split e;
  made_is = ap reverse m ∙ reverse-append made (c ∷ []) ∙ ap (λ x. x ∷ reverse made) i ∙ ap (λ t. cleaned_block live b ∷ t) h.made_is;
}

pub makes_all : (live : ℕ → NameSet) (blocks rest made : List Block) → Makes live blocks rest made → rest ≡ [] → reverse made ≡ map (cleaned_block live) blocks
makes_all live blocks rest made h e = h.made_is ∙ ap (map (cleaned_block live)) (sym (h.split ∙ ap (λ t. t ++ h.done) e))
