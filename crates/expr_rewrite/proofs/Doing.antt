-- What statements and blocks do that stand for others: what those do, unless those are stuck.
use Rattle.std.proofs.Common.{◌≡◌, ◌⊎◌, inl, inr, ℕ, Bool, List, [], ◌∷◌, Option, Some, None, refl, sym, ap, ◌∙◌, subst}
use Rattle.std.specs.Prelude.{IsTrue}
use Rattle.run_parts.specs.Steps.{Next, Halt, Jam, To, Nowhere, having, then_do, arrive}
use Rattle.run_parts.specs.World.{World}
use Rattle.run_parts.specs.Effects.{Doing, setting, loading, storing, calling, trapping}
use Rattle.c_syntax.specs.declared.syntax.CExpr.{CExpr}
use Rattle.c_syntax.specs.declared.syntax.CCond.{CCond}
use Rattle.c_syntax.specs.Run.{word_in, holds}
use Rattle.micro_ir.specs.declared.flow.Stmt.{Stmt}
use Rattle.micro_ir.specs.declared.flow.Stmt.TheVariants as stmt
use Rattle.micro_ir.specs.declared.flow.End.{End as BlockEnd}
use Rattle.micro_ir.specs.declared.flow.End.TheVariants as end
use Rattle.micro_ir.specs.declared.flow.Block.{Block}
use Rattle.micro_ir.specs.Rule.{is_flow_target, is_flow_word, is_flow_cond, is_flow_stmt, are_flow_stmts, have_words, is_flow_end, is_flow_block}
use Rattle.micro_ir.specs.Run.{stmt_does, stmts_do, branch, by_value, left_by, end_leads, block_leads}
use Rattle.micro_ir.specs.World.{IsWorld}
use Rattle.micro_ir.specs.Laws.{DidStays}
use Rattle.micro_ir.proofs.Values.{both_true}
use Rattle.micro_ir.proofs.Worlds.{stmt_stays, stmts_stay}
use Rattle.expr_rewrite.specs.Pairs.{Pairs}
use Rattle.expr_rewrite.specs.Rewritten.{StandsForWord, StandsForCond, StandsForStmt, StandsForEnd, StandsForBlock}

-- the second is the first, unless that is stuck
abbrev pub Unless : {A : Type 0} → A → A → A → Type 0
Unless stuck a b = (a ≡ stuck) ⊎ (b ≡ a)

-- where the first has a word, the second has it
abbrev Gives : {A : Type 0} → Option A → Option A → Type 0
Gives {A} o p = (x : A) → o ≡ Some x → p ≡ Some x

having_unless : {A : Type 0} (o p : Option A) (k : A → Doing) → Gives o p → Unless Jam (having o k) (having p k)
having_unless None p k h = inl refl
having_unless (Some x) p k h = inr (ap (λ q. having q k) (h x refl))

-- two words
having_two : (o p q r : Option ℕ) (k : ℕ → ℕ → Doing) → Gives o p → Gives q r → Unless Jam (having o (λ x. having q (k x))) (having p (λ x. having r (k x)))
having_two None p q r k h g = inl refl
having_two (Some x) p None r k h g = inl refl
having_two (Some x) p (Some y) r k h g = inr (ap (λ o. having o (λ x. having r (k x))) (h x refl) ∙ ap (λ o. having o (k x)) (g y refl))

gives : (e f : CExpr) (w : World) → StandsForWord e f → IsTrue (is_flow_word e) → IsWorld w → Gives (word_in e w) (word_in f w)
gives e f w s t i x h = s.value t w.names i.words x h

gives_truth : (t u : CCond) (w : World) → StandsForCond t u → IsTrue (is_flow_cond t) → IsWorld w → Gives (holds t w) (holds u w)
gives_truth t u w s r i x h = s.truth r w.names i.words x h

stmt_unless : (s t : Stmt) (w : World) → StandsForStmt s t → IsTrue (is_flow_stmt s) → IsWorld w → Unless Jam (stmt_does s w) (stmt_does t w)
stmt_unless (stmt.Set n e) (stmt.Set m f) w (h, s) r i =
    subst (λ k. Unless Jam (stmt_does (stmt.Set n e) w) (stmt_does (stmt.Set k f) w)) (sym h)
    (having_unless (word_in e w) (word_in f w) (λ x. setting n x w) (gives e f w s (both_true (is_flow_target n) (is_flow_word e) r).1 i))
stmt_unless (stmt.Load n width e) (stmt.Load m wide f) w (h, g, s) r i =
    subst (λ k. Unless Jam (stmt_does (stmt.Load n width e) w) (stmt_does (stmt.Load k wide f) w)) (sym h)
    (subst (λ b. Unless Jam (stmt_does (stmt.Load n width e) w) (stmt_does (stmt.Load n b f) w)) (sym g)
    (having_unless (word_in e w) (word_in f w) (λ x. loading n width x w) (gives e f w s (both_true (is_flow_target n) (is_flow_word e) r).1 i)))
stmt_unless (stmt.Store width e a) (stmt.Store wide f b) w (h, s, t) r i =
    let q = both_true (is_flow_word e) (is_flow_word a) r in
    subst (λ k. Unless Jam (stmt_does (stmt.Store width e a) w) (stmt_does (stmt.Store k f b) w)) (sym h)
    (having_two (word_in e w) (word_in f w) (word_in a w) (word_in b w) (λ x y. storing width x y w) (gives e f w s q.0 i) (gives a b w t q.1 i))
stmt_unless (stmt.Ext e) (stmt.Ext f) w s r i = having_unless (word_in e w) (word_in f w) (λ x. calling x w) (gives e f w s r i)
stmt_unless (stmt.Trap vector e) (stmt.Trap other f) w (h, s) r i =
    subst (λ k. Unless Jam (stmt_does (stmt.Trap vector e) w) (stmt_does (stmt.Trap k f) w)) (sym h)
    (having_unless (word_in e w) (word_in f w) (λ x. trapping vector x w) (gives e f w s (both_true _ (is_flow_word e) r).1 i))
stmt_unless s t w h r i = absurd h

then_unless : (d e : Doing) (j k : World → Doing) → Unless Jam d e → ((w : World) → d ≡ Next w → Unless Jam (j w) (k w)) → Unless Jam (then_do d j) (then_do e k)
then_unless d e j k (inl h) g = inl (ap (λ x. then_do x j) h)
then_unless (Next w) e j k (inr h) g = subst (λ x. Unless Jam (j w) (then_do x k)) (sym h) (g w refl)
then_unless (Halt o) e j k (inr h) g = inr (ap (λ x. then_do x k) h)
then_unless Jam e j k (inr h) g = inl refl

next_is_world : (d : Doing) (w : World) → d ≡ Next w → DidStays d → IsWorld w
next_is_world d w e h = subst DidStays e h

stmts_unless : (ss ts : List Stmt) (w : World) → Pairs StandsForStmt ss ts → IsTrue (are_flow_stmts ss) → IsWorld w → Unless Jam (stmts_do ss w) (stmts_do ts w)
stmts_unless [] [] w h r i = inr refl
stmts_unless [] (t ∷ ts) w h r i = absurd h
stmts_unless (s ∷ ss) [] w h r i = absurd h
stmts_unless (s ∷ ss) (t ∷ ts) w h r i =
    let q = both_true (is_flow_stmt s) (are_flow_stmts ss) r in
    then_unless (stmt_does s w) (stmt_does t w) (stmts_do ss) (stmts_do ts) (stmt_unless s t w h.0 q.0 i)
    (λ u e. stmts_unless ss ts u h.1 q.1 (next_is_world (stmt_does s w) u e (stmt_stays s w q.0 i)))

-- ---- ends

branch_unless : (o p : Option Bool) (a b : ℕ) (w : World) → Gives o p → Unless Nowhere (branch o a b w) (branch p a b w)
branch_unless None p a b w h = inl refl
branch_unless (Some x) p a b w h = inr (ap (λ q. branch q a b w) (h x refl))

value_unless : (o p : Option ℕ) (cases : List _) (w : World) → Gives o p → Unless Nowhere (by_value o cases w) (by_value p cases w)
value_unless None p cases w h = inl refl
value_unless (Some x) p cases w h = inr (ap (λ q. by_value q cases w) (h x refl))

left_unless : (d e : Doing) → Unless Jam d e → Unless Nowhere (left_by d) (left_by e)
left_unless d e (inl h) = inl (ap left_by h)
left_unless d e (inr h) = inr (ap left_by h)

end_unless : (e f : BlockEnd) (w : World) → StandsForEnd e f → IsTrue (is_flow_end e) → IsWorld w → Unless Nowhere (end_leads e w) (end_leads f w)
end_unless (end.Go a) (end.Go b) w h r i = inr (ap (λ n. To n w) h)
end_unless (end.Branch t a b) (end.Branch u c d) w (h, g, s) r i =
    subst (λ k. Unless Nowhere (branch (holds t w) a b w) (branch (holds u w) k d w)) (sym h)
    (subst (λ k. Unless Nowhere (branch (holds t w) a b w) (branch (holds u w) a k w)) (sym g)
    (branch_unless (holds t w) (holds u w) a b w (gives_truth t u w s r i)))
end_unless (end.Switch e cases) (end.Switch f others) w (h, s) r i =
    subst (λ k. Unless Nowhere (by_value (word_in e w) cases w) (by_value (word_in f w) k w)) (sym h)
    (value_unless (word_in e w) (word_in f w) cases w (gives e f w s (both_true (is_flow_word e) (have_words cases) r).0 i))
end_unless end.Return end.Return w h r i = inr refl
end_unless (end.Leave e) (end.Leave f) w s r i =
    left_unless _ _ (having_unless (word_in e w) (word_in f w) (λ x. calling x w) (gives e f w s r i))
end_unless e f w h r i = absurd h

arrive_unless : (d e : Doing) (a b : BlockEnd) → Unless Jam d e → ((w : World) → d ≡ Next w → Unless Nowhere (end_leads a w) (end_leads b w)) → Unless Nowhere (arrive d (end_leads a)) (arrive e (end_leads b))
arrive_unless d e a b (inl h) g = inl (ap (λ x. arrive x (end_leads a)) h)
arrive_unless (Next w) e a b (inr h) g = subst (λ x. Unless Nowhere (end_leads a w) (arrive x (end_leads b))) (sym h) (g w refl)
arrive_unless (Halt o) e a b (inr h) g = inr (ap (λ x. arrive x (end_leads b)) h)
arrive_unless Jam e a b (inr h) g = inl refl

pub block_unless : (b c : Block) (w : World) → StandsForBlock b c → IsTrue (is_flow_block b) → IsWorld w → Unless Nowhere (block_leads b w) (block_leads c w)
block_unless b c w h r i =
    let q = both_true (are_flow_stmts b.stmts) (is_flow_end b.end) r in
    arrive_unless (stmts_do b.stmts w) (stmts_do c.stmts w) b.end c.end (stmts_unless b.stmts c.stmts w h.stmts q.0 i)
    (λ u e. end_unless b.end c.end u h.end q.1 (next_is_world (stmts_do b.stmts w) u e (stmts_stay b.stmts w q.0 i)))
