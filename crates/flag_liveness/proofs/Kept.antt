-- What is kept of statements and blocks.
use Rattle.std.proofs.Common.{◌≡◌, ℕ, zero, suc, ◌+◌, Bool, true, false, cond, ◌&&◌, List, [], ◌∷◌, ◌++◌, Some, map, refl, sym, ap, ◌∙◌, zero-add}
use Rattle.std.proofs.lemmas.Bool.{false≢true}
use Rattle.std.specs.Prelude.{IsTrue, slice_get}
use Rattle.micro_ir.specs.declared.flow.Stmt.{Stmt}
use Rattle.micro_ir.specs.declared.flow.Stmt.TheVariants as stmt
use Rattle.micro_ir.specs.declared.flow.End.{End as BlockEnd}
use Rattle.micro_ir.specs.declared.flow.End.TheVariants as end
use Rattle.micro_ir.specs.declared.flow.Block.{Block}
use Rattle.micro_ir.specs.Checked.{nodes_of}
use Rattle.micro_ir.specs.Counts.{stores_of_stmt, stores_of_stmts, calls_of_stmt, calls_of_stmts}
use Rattle.micro_ir.specs.Rule.{is_flow_stmt, are_flow_stmts, is_flow_end, is_flow_block, are_flow_blocks, nodes_in}
use Rattle.micro_ir.proofs.Values.{both_true}
use Rattle.flow_passes.specs.Uses.{NameSet}
use Rattle.flow_passes.specs.Keeps.{loads_of_stmt, loads_of_stmts, EndsAlike, KeepsBlock}
use Rattle.flag_liveness.specs.Before.{is_unseen, live_before_all, live_at}
use Rattle.flag_liveness.specs.Clean.{cleaned, cleaned_block}

-- what is counted of no Set isn't counted of what nobody sees
none_unseen : (one : Stmt → ℕ) (s : Stmt) (after : NameSet) → ((m : _) (e : _) → one (stmt.Set m e) ≡ 0) → is_unseen s after ≡ true → one s ≡ 0
none_unseen one (stmt.Set m e) after h t = h m e
none_unseen one (stmt.Load m width e) after h t = absurd (false≢true t)
none_unseen one (stmt.Store width e f) after h t = absurd (false≢true t)
none_unseen one (stmt.Ext e) after h t = absurd (false≢true t)
none_unseen one (stmt.Trap vector e) after h t = absurd (false≢true t)

module _ (one : Stmt → ℕ) (all : List Stmt → ℕ) (more : (s : Stmt) (ss : List Stmt) → all (s ∷ ss) ≡ one s + all ss) (none : (m : _) (e : _) → one (stmt.Set m e) ≡ 0) where
  count_step : (b : Bool) (s : Stmt) (ss : List Stmt) (after : NameSet) → is_unseen s (live_before_all ss after) ≡ b → all (cleaned ss after) ≡ all ss → all (cond b (cleaned ss after) (s ∷ cleaned ss after)) ≡ all (s ∷ ss)
  count_step true s ss after e h = h ∙ sym (more s ss ∙ ap (λ x. x + all ss) (none_unseen one s (live_before_all ss after) none e) ∙ zero-add (all ss))
  count_step false s ss after e h = more s (cleaned ss after) ∙ ap (λ x. one s + x) h ∙ sym (more s ss)

  count_kept : (ss : List Stmt) (after : NameSet) → all (cleaned ss after) ≡ all ss
  count_kept [] after = refl
  count_kept (s ∷ ss) after = count_step (is_unseen s (live_before_all ss after)) s ss after refl (count_kept ss after)

ends_self : (e : BlockEnd) → EndsAlike e e
ends_self (end.Go a) = refl
ends_self (end.Branch t a b) = (refl, refl)
ends_self (end.Switch e cases) = refl
ends_self end.Return = tt
ends_self (end.Leave e) = tt

-- a block keeps what is counted
pub keeps_block : (live : ℕ → NameSet) (b : Block) → KeepsBlock b (cleaned_block live b)
keeps_block live b = record {
  at = refl;
  end = ends_self b.end;
  loads = count_kept loads_of_stmt loads_of_stmts (λ s ss. refl) (λ m e. refl) b.stmts (live_at b.end live);
  stores = count_kept stores_of_stmt stores_of_stmts (λ s ss. refl) (λ m e. refl) b.stmts (live_at b.end live);
  calls = count_kept calls_of_stmt calls_of_stmts (λ s ss. refl) (λ m e. refl) b.stmts (live_at b.end live);
}

-- ---- the rule

both : (a b : Bool) → IsTrue a → IsTrue b → IsTrue (a && b)
both true b p q = q
both false b p q = p

rule_step : (c : Bool) (s : Stmt) (ss : List Stmt) → IsTrue (is_flow_stmt s) → IsTrue (are_flow_stmts ss) → IsTrue (are_flow_stmts (cond c ss (s ∷ ss)))
rule_step true s ss p q = q
rule_step false s ss p q = both (is_flow_stmt s) (are_flow_stmts ss) p q

pub stmts_rule : (ss : List Stmt) (after : NameSet) → IsTrue (are_flow_stmts ss) → IsTrue (are_flow_stmts (cleaned ss after))
stmts_rule [] after t = t
stmts_rule (s ∷ ss) after t =
    let p = both_true (is_flow_stmt s) (are_flow_stmts ss) t in
    rule_step (is_unseen s (live_before_all ss after)) s (cleaned ss after) p.0 (stmts_rule ss after p.1)

pub blocks_rule : (live : ℕ → NameSet) (bs : List Block) → IsTrue (are_flow_blocks bs) → IsTrue (are_flow_blocks (map (cleaned_block live) bs))
blocks_rule live [] t = t
blocks_rule live (b ∷ bs) t =
    let p = both_true (is_flow_block b) (are_flow_blocks bs) t in
    let q = both_true (are_flow_stmts b.stmts) (is_flow_end b.end) p.0 in
    both (is_flow_block (cleaned_block live b)) (are_flow_blocks (map (cleaned_block live) bs)) (both (are_flow_stmts (cleaned b.stmts (live_at b.end live))) (is_flow_end b.end) (stmts_rule b.stmts (live_at b.end live) q.0) q.1) (blocks_rule live bs p.1)

pub same_nodes : (live : ℕ → NameSet) (bs : List Block) → nodes_in (map (cleaned_block live) bs) ≡ nodes_in bs
same_nodes live [] = refl
same_nodes live (b ∷ bs) = ap (λ t. nodes_of b.end ++ t) (same_nodes live bs)

-- ---- the block of a number

pub block_rule : (bs : List Block) (n : ℕ) (b : Block) → slice_get bs n ≡ Some b → IsTrue (are_flow_blocks bs) → IsTrue (are_flow_stmts b.stmts)
block_rule [] n b e t = absurd (let z : ⊥ = cc in z)
block_rule (x ∷ bs) zero b e t =
    let i : x ≡ b = cc in
    ap (λ y. are_flow_stmts y.stmts) (sym i) ∙ (both_true (are_flow_stmts x.stmts) (is_flow_end x.end) (both_true (is_flow_block x) (are_flow_blocks bs) t).0).0
block_rule (x ∷ bs) (suc n) b e t = block_rule bs n b e (both_true (is_flow_block x) (are_flow_blocks bs) t).1

pub mapped_is : (f : Block → Block) (bs : List Block) (n : ℕ) (b c : Block) → slice_get bs n ≡ Some b → slice_get (map f bs) n ≡ Some c → c ≡ f b
mapped_is f [] n b c e h = absurd (let z : ⊥ = cc in z)
mapped_is f (x ∷ bs) zero b c e h =
    let i : x ≡ b = cc in
    let j : f x ≡ c = cc in
    sym j ∙ ap f i
mapped_is f (x ∷ bs) (suc n) b c e h = mapped_is f bs n b c e h

pub unmapped : (f : Block → Block) (bs : List Block) (n : ℕ) (c : Block) → slice_get (map f bs) n ≡ Some c → (b : Block) × (slice_get bs n ≡ Some b) × (c ≡ f b)
unmapped f [] n c h = absurd (let z : ⊥ = cc in z)
unmapped f (x ∷ bs) zero c h =
    let j : f x ≡ c = cc in
    (x, refl, sym j)
unmapped f (x ∷ bs) (suc n) c h = unmapped f bs n c h
