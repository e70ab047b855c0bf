-- A flow with rewritten Words keeps the given one.
use Rattle.std.proofs.Common.{◌≡◌, true, inl, inr, ℕ, suc, ◌+◌, ◌&&◌, List, [], ◌∷◌, refl, sym, ap, ◌∙◌, subst}
use Rattle.std.specs.Prelude.{IsTrue}
use Rattle.std.proofs.Math.Path.{fun_ext}
use Rattle.run_parts.specs.Steps.{To, End, Nowhere}
use Rattle.run_parts.specs.World.{World}
use Rattle.micro_ir.specs.declared.flow.Stmt.{Stmt}
use Rattle.micro_ir.specs.declared.flow.Stmt.TheVariants as stmt
use Rattle.micro_ir.specs.declared.flow.End.{End as BlockEnd}
use Rattle.micro_ir.specs.declared.flow.End.TheVariants as end
use Rattle.micro_ir.specs.declared.flow.Block.{Block}
use Rattle.micro_ir.specs.Rule.{is_flow_target, is_flow_word, is_flow_stmt, are_flow_stmts, have_words, is_flow_end, is_flow_block, are_flow_blocks}
use Rattle.micro_ir.specs.Run.{Arrive, block_leads}
use Rattle.micro_ir.specs.Counts.{stores_of_stmts, calls_of_stmts}
use Rattle.micro_ir.proofs.Values.{both_true}
use Rattle.flow_passes.specs.Alike.{Alike, ArrivesAlike}
use Rattle.flow_passes.specs.Keeps.{EndsAlike, loads_of_stmts}
use Rattle.flow_passes.proofs.Names.{but_names, alike_self}
use Rattle.word_rules.proofs.Congruence.{and_true}
use Rattle.flow_passes.specs.Uses.{NameSet}
use Rattle.expr_fold.specs.Folds.{FoldsBlock, FoldsBlocks}
use Rattle.expr_rewrite.specs.Pairs.{Pairs}
use Rattle.expr_rewrite.specs.Rewritten.{StandsForStmt, StandsForEnd, StandsForBlock}
use Rattle.expr_rewrite.proofs.Doing.{Unless, block_unless}

-- every name
abbrev pub everything : NameSet
everything n = true

-- ---- what stays

stmt_rule : (s t : Stmt) → StandsForStmt s t → IsTrue (is_flow_stmt s) → IsTrue (is_flow_stmt t)
stmt_rule (stmt.Set n e) (stmt.Set m f) (h, s) r =
    let q = both_true (is_flow_target n) (is_flow_word e) r in
    subst (λ k. IsTrue (is_flow_target k && is_flow_word f)) (sym h) (and_true (is_flow_target n) (is_flow_word f) q.0 (s.rule q.1))
stmt_rule (stmt.Load n width e) (stmt.Load m wide f) (h, g, s) r =
    let q = both_true (is_flow_target n) (is_flow_word e) r in
    subst (λ k. IsTrue (is_flow_target k && is_flow_word f)) (sym h) (and_true (is_flow_target n) (is_flow_word f) q.0 (s.rule q.1))
stmt_rule (stmt.Store width e a) (stmt.Store wide f b) (h, s, t) r =
    let q = both_true (is_flow_word e) (is_flow_word a) r in and_true (is_flow_word f) (is_flow_word b) (s.rule q.0) (t.rule q.1)
stmt_rule (stmt.Ext e) (stmt.Ext f) s r = s.rule r
stmt_rule (stmt.Trap vector e) (stmt.Trap other f) (h, s) r =
    let q = both_true _ (is_flow_word e) r in subst (λ k. IsTrue (is_flow_stmt (stmt.Trap k f))) (sym h) (and_true _ (is_flow_word f) q.0 (s.rule q.1))
stmt_rule s t h r = absurd h

stmts_rule : (ss ts : List Stmt) → Pairs StandsForStmt ss ts → IsTrue (are_flow_stmts ss) → IsTrue (are_flow_stmts ts)
stmts_rule [] [] h r = refl
stmts_rule [] (t ∷ ts) h r = absurd h
stmts_rule (s ∷ ss) [] h r = absurd h
stmts_rule (s ∷ ss) (t ∷ ts) h r =
    let q = both_true (is_flow_stmt s) (are_flow_stmts ss) r in and_true (is_flow_stmt t) (are_flow_stmts ts) (stmt_rule s t h.0 q.0) (stmts_rule ss ts h.1 q.1)

end_rule : (e f : BlockEnd) → StandsForEnd e f → IsTrue (is_flow_end e) → IsTrue (is_flow_end f)
end_rule (end.Go a) (end.Go b) h r = refl
end_rule (end.Branch t a b) (end.Branch u c d) (h, g, s) r = s.rule r
end_rule (end.Switch e cases) (end.Switch f others) (h, s) r =
    let q = both_true (is_flow_word e) (have_words cases) r in
    subst (λ k. IsTrue (is_flow_word f && have_words k)) (sym h) (and_true (is_flow_word f) (have_words cases) (s.rule q.0) q.1)
end_rule end.Return end.Return h r = refl
end_rule (end.Leave e) (end.Leave f) s r = s.rule r
end_rule e f h r = absurd h

ends_alike : (e f : BlockEnd) → StandsForEnd e f → EndsAlike e f
ends_alike (end.Go a) (end.Go b) h = h
ends_alike (end.Branch t a b) (end.Branch u c d) (h, g, s) = (h, g)
ends_alike (end.Switch e cases) (end.Switch f others) (h, s) = h
ends_alike end.Return end.Return h = tt
ends_alike (end.Leave e) (end.Leave f) s = tt
ends_alike e f h = absurd h

loads_same : (ss ts : List Stmt) → Pairs StandsForStmt ss ts → loads_of_stmts ts ≡ loads_of_stmts ss
loads_same [] [] h = refl
loads_same [] (t ∷ ts) h = absurd h
loads_same (s ∷ ss) [] h = absurd h
loads_same (stmt.Set n e ∷ ss) (stmt.Set m f ∷ ts) h = ap (λ k. 0 + k) (loads_same ss ts h.1)
loads_same (stmt.Load n w e ∷ ss) (stmt.Load m v f ∷ ts) h = ap (λ k. 1 + k) (loads_same ss ts h.1)
loads_same (stmt.Store w e a ∷ ss) (stmt.Store v f b ∷ ts) h = ap (λ k. 0 + k) (loads_same ss ts h.1)
loads_same (stmt.Ext e ∷ ss) (stmt.Ext f ∷ ts) h = ap (λ k. 0 + k) (loads_same ss ts h.1)
loads_same (stmt.Trap v e ∷ ss) (stmt.Trap u f ∷ ts) h = ap (λ k. 0 + k) (loads_same ss ts h.1)
loads_same (s ∷ ss) (t ∷ ts) h = absurd h.0

stores_same : (ss ts : List Stmt) → Pairs StandsForStmt ss ts → stores_of_stmts ts ≡ stores_of_stmts ss
stores_same [] [] h = refl
stores_same [] (t ∷ ts) h = absurd h
stores_same (s ∷ ss) [] h = absurd h
stores_same (stmt.Set n e ∷ ss) (stmt.Set m f ∷ ts) h = ap (λ k. 0 + k) (stores_same ss ts h.1)
stores_same (stmt.Load n w e ∷ ss) (stmt.Load m v f ∷ ts) h = ap (λ k. 0 + k) (stores_same ss ts h.1)
stores_same (stmt.Store w e a ∷ ss) (stmt.Store v f b ∷ ts) h = ap (λ k. 1 + k) (stores_same ss ts h.1)
stores_same (stmt.Ext e ∷ ss) (stmt.Ext f ∷ ts) h = ap (λ k. 0 + k) (stores_same ss ts h.1)
stores_same (stmt.Trap v e ∷ ss) (stmt.Trap u f ∷ ts) h = ap (λ k. 0 + k) (stores_same ss ts h.1)
stores_same (s ∷ ss) (t ∷ ts) h = absurd h.0

calls_same : (ss ts : List Stmt) → Pairs StandsForStmt ss ts → calls_of_stmts ts ≡ calls_of_stmts ss
calls_same [] [] h = refl
calls_same [] (t ∷ ts) h = absurd h
calls_same (s ∷ ss) [] h = absurd h
calls_same (stmt.Set n e ∷ ss) (stmt.Set m f ∷ ts) h = ap (λ k. 0 + k) (calls_same ss ts h.1)
calls_same (stmt.Load n w e ∷ ss) (stmt.Load m v f ∷ ts) h = ap (λ k. 0 + k) (calls_same ss ts h.1)
calls_same (stmt.Store w e a ∷ ss) (stmt.Store v f b ∷ ts) h = ap (λ k. 0 + k) (calls_same ss ts h.1)
calls_same (stmt.Ext e ∷ ss) (stmt.Ext f ∷ ts) h = ap (λ k. 1 + k) (calls_same ss ts h.1)
calls_same (stmt.Trap v e ∷ ss) (stmt.Trap u f ∷ ts) h = ap (λ k. 0 + k) (calls_same ss ts h.1)
calls_same (s ∷ ss) (t ∷ ts) h = absurd h.0

-- ---- blocks

-- worlds that are alike in every name are one
one_world : (w u : World) → Alike everything w u → u ≡ w
one_world w u a = but_names everything w u a ∙ ap (λ v. record w { names = v }) (fun_ext (λ n. a.names n refl))

arrives : (a b : Arrive) → Unless Nowhere a b → ArrivesAlike (λ j. everything) a b
arrives (To n w) b (inl h) = absurd (let z : ⊥ = cc in z)
arrives (End o) b (inl h) = absurd (let z : ⊥ = cc in z)
arrives Nowhere b (inl h) = tt
arrives (To n w) b (inr h) = (w, h, alike_self everything w)
arrives (End o) b (inr h) = h
arrives Nowhere b (inr h) = tt

block_folds : (k : ℕ) (b c : Block) → StandsForBlock b c → IsTrue (is_flow_block b) → FoldsBlock (λ j. everything) k b c
block_folds k b c h r =
    let q = both_true (are_flow_stmts b.stmts) (is_flow_end b.end) r in
    record {
      keeps = record {
        at = h.at;
        end = ends_alike b.end c.end h.end;
        loads = loads_same b.stmts c.stmts h.stmts;
        stores = stores_same b.stmts c.stmts h.stmts;
        calls = calls_same b.stmts c.stmts h.stmts;
      };
      rule = and_true (are_flow_stmts c.stmts) (is_flow_end c.end) (stmts_rule b.stmts c.stmts h.stmts q.0) (end_rule b.end c.end h.end q.1);
      leads = λ w u iw iu al. subst (λ x. ArrivesAlike (λ j. everything) (block_leads b w) (block_leads c x)) (sym (one_world w u al))
          (arrives (block_leads b w) (block_leads c w) (block_unless b c w h r iw));
    }

pub blocks_fold : (k : ℕ) (bs cs : List Block) → Pairs StandsForBlock bs cs → IsTrue (are_flow_blocks bs) → FoldsBlocks (λ j. everything) k bs cs
blocks_fold k [] [] h r = tt
blocks_fold k [] (c ∷ cs) h r = absurd h
blocks_fold k (b ∷ bs) [] h r = absurd h
blocks_fold k (b ∷ bs) (c ∷ cs) h r =
    let q = both_true (is_flow_block b) (are_flow_blocks bs) r in (block_folds k b c h.0 q.0, blocks_fold (suc k) bs cs h.1 q.1)
