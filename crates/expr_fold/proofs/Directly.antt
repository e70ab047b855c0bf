-- A flow in which words are put into what follows directly keeps the flow, and no set stands directly before its only read.
use Rattle.std.proofs.Common.{◌≡◌, ◌⊎◌, inl, inr, ℕ, zero, suc, ◌+◌, ◌<◌, ◌≤◌, Bool, true, false, not, ◌&&◌, nat_le, List, [], ◌∷◌, length, Some, map, refl, sym, ap, ◌∙◌, subst, arith}
use Rattle.std.specs.Prelude.{IsTrue, slice_get}
use Rattle.std.specs.Ordering.{nat_cmp}
use Rattle.std.specs.BTreeSet as set
use Rattle.dream_words.specs.declared.machine.Name.{Name}
use Rattle.dream_words.specs.declared.machine.Name.TheVariants as name
use Rattle.c_syntax.specs.declared.syntax.CExpr.{CExpr}
use Rattle.micro_ir.specs.declared.flow.Stmt.{Stmt}
use Rattle.micro_ir.specs.declared.flow.Stmt.TheVariants as stmt
use Rattle.micro_ir.specs.declared.flow.End.{End as BlockEnd}
use Rattle.micro_ir.specs.declared.flow.Block.{Block}
use Rattle.micro_ir.specs.declared.flow.Flow.{Flow}
use Rattle.micro_ir.specs.Rule.{are_flow_stmts, is_flow_end, is_flow_block, are_flow_blocks, IsGiven}
use Rattle.micro_ir.proofs.Values.{both_true}
use Rattle.flow_passes.specs.Uses.{NameSet, is_register, stmt_reads, end_reads}
use Rattle.flow_passes.specs.Keeps.{Keeps}
use Rattle.flow_passes.specs.Laws.{Within}
use Rattle.flag_liveness.proofs.Kept.{unmapped}
use Rattle.expr_fold.specs.declared.counts.Reads.{Reads}
use Rattle.expr_fold.specs.Counts.{reads_of_stmt, reads_of_end, reads_of_rest, reads_of}
use Rattle.expr_fold.specs.Counted.{Counted, once_of}
use Rattle.expr_fold.specs.Moved.{Rest, moved, moved_block}
use Rattle.expr_fold.specs.Folds.{FoldsBlock, FoldsBlocks}
use Rattle.expr_fold.specs.Direct.{NoneStandsDirectlyBefore}
use Rattle.expr_fold.proofs.Named.{true_or_false, and_true, not_both}
use Rattle.expr_fold.proofs.Folded.{flow_given, flow_keeps}
use Rattle.expr_fold.proofs.Moving.{Bounded, NoRegisters, Loses, loses_none, AllApart, some_read, stmt_read, end_read, moved_loses, moved_apart, apart_at, apart_end, unfit_stmt, unfit_end}
use Rattle.expr_fold.proofs.Keeping.{IsRuled, moved_ruled, moved_alike}
use Rattle.expr_fold.proofs.Unseen.{ReadsWithin, Hidden, arrives_twice, leads, leads_alike, moved_leads}

-- ---- names that are read once

-- Some temporaries are read at most once in blocks, and the others more often.
pub record IsOnce (once : NameSet) (bs : List Block) : Type 0 where
  pub temps : NoRegisters once
  pub few : (n : Name) → IsTrue (once n) → reads_of bs n ≤ 1
  pub more : (t : ℕ) → once (name.T t) ≡ false → 2 ≤ reads_of bs (name.T t)

not_more : (b : Bool) (k : ℕ) → b ≡ nat_le 2 k → IsTrue (not b) → k ≤ 1
not_more true k e t = absurd (let z : ⊥ = cc in z)
not_more false k e t = grind (arith, e)

some_more : (b : Bool) (k : ℕ) → b ≡ nat_le 2 k → not b ≡ false → 2 ≤ k
some_more true k e t = grind (arith, e)
some_more false k e t = absurd (let z : ⊥ = cc in z)

pub counted_once : (r : Reads) (bs : List Block) → Counted r (reads_of bs) → IsOnce (once_of r) bs
counted_once r bs h = record {
  temps = no_register r;
  few = few_once r bs h;
  more = λ t f. some_more (set.contains nat_cmp r.more t) (reads_of bs (name.T t)) (h.more t) f;
} where
  no_register : (r : Reads) → NoRegisters (once_of r)
  no_register r (name.T t) i = refl
  no_register r n i = absurd (let z : ⊥ = cc in z)

  few_once : (r : Reads) (bs : List Block) → Counted r (reads_of bs) → (n : Name) → IsTrue (once_of r n) → reads_of bs n ≤ 1
  few_once r bs h (name.T t) i = not_more (set.contains nat_cmp r.more t) (reads_of bs (name.T t)) (h.more t) i
  few_once r bs h n i = absurd (let z : ⊥ = cc in z)

-- ---- blocks

-- so many reads in all
abbrev Few : NameSet → List Block → Type 0
Few once bs = (n : Name) → IsTrue (once n) → reads_of bs n ≤ 1

block_few : (once : NameSet) (b : Block) (bs : List Block) → Few once (b ∷ bs) → Bounded once b.stmts b.end
block_few once b bs h n t = let x = h n t in omega (arith, x)

rest_few : (once : NameSet) (b : Block) (bs : List Block) → Few once (b ∷ bs) → Few once bs
rest_few once b bs h n t = let x = h n t in omega (arith, x)

few_at : (once : NameSet) (bs : List Block) (k : ℕ) (b : Block) → Few once bs → slice_get bs k ≡ Some b → Bounded once b.stmts b.end
few_at once [] k b h e = absurd (let z : ⊥ = cc in z)
few_at once (x ∷ xs) zero b h e = subst (λ (y : Block). Bounded once y.stmts y.end) (let z : x ≡ b = cc in z) (block_few once x xs h)
few_at once (x ∷ xs) (suc k) b h e = few_at once xs k b (rest_few once x xs h) e

two_lose : (once : NameSet) (n : Name) (a b c d : ℕ) → Loses once n a b → Loses once n c d → Loses once n (a + c) (b + d)
two_lose once n a b c d h g =
    let x = h.is in
    let y = g.is in
    record { lost = h.lost + g.lost; is = omega (arith, x, y); only = λ f. let x = h.only f in let y = g.only f in omega (arith, x, y) }

blocks_lose : (once : NameSet) → NoRegisters once → (bs : List Block) → Few once bs → (n : Name) → Loses once n (reads_of bs n) (reads_of (map (moved_block once) bs) n)
blocks_lose once regs [] h n = loses_none once n 0
blocks_lose once regs (b ∷ bs) h n = two_lose once n _ _ _ _ (moved_loses once regs b.stmts b.end (block_few once b bs h) n) (blocks_lose once regs bs (rest_few once b bs h) n)

abbrev reads_of_block : Block → Name → ℕ
reads_of_block b n = reads_of_rest b.stmts b.end n

-- where one block has fewer reads all have
less_at : (once : NameSet) → NoRegisters once → (bs : List Block) → Few once bs → (n : Name) (k : ℕ) (b : Block) → slice_get bs k ≡ Some b → reads_of_block (moved_block once b) n < reads_of_block b n
    → reads_of (map (moved_block once) bs) n < reads_of bs n
less_at once regs [] h n k b e l = absurd (let z : ⊥ = cc in z)
less_at once regs (x ∷ xs) h n zero b e l =
    let rest = (blocks_lose once regs xs (rest_few once x xs h) n).is in
    let less = subst (λ y. reads_of_block (moved_block once y) n < reads_of_block y n) (let z : b ≡ x = cc in z) l in
    omega (arith, rest, less)
less_at once regs (x ∷ xs) h n (suc k) b e l =
    let first = (moved_loses once regs x.stmts x.end (block_few once x xs h) n).is in
    let less = less_at once regs xs (rest_few once x xs h) n k b e l in
    omega (arith, first, less)

-- a block has no more reads than all
at_most : (bs : List Block) (k : ℕ) (b : Block) (n : Name) → slice_get bs k ≡ Some b → reads_of_block b n ≤ reads_of bs n
at_most [] k b n e = absurd (let z : ⊥ = cc in z)
at_most (x ∷ xs) zero b n e = subst (λ y. reads_of_block y n ≤ reads_of (x ∷ xs) n) (let z : x ≡ b = cc in z) (omega arith)
at_most (x ∷ xs) (suc k) b n e = let h = at_most xs k b n e in omega (arith, h)

also_mapped : (once : NameSet) (bs : List Block) (k : ℕ) (b : Block) → slice_get bs k ≡ Some b → slice_get (map (moved_block once) bs) k ≡ Some (moved_block once b)
also_mapped once [] k b e = absurd (let z : ⊥ = cc in z)
also_mapped once (x ∷ xs) zero b e = ap (λ y. Some (moved_block once y)) (let z : x ≡ b = cc in z)
also_mapped once (x ∷ xs) (suc k) b e = also_mapped once xs k b e

-- ---- what is seen

-- A name is seen but where it is among those that are read at most once, and isn't read at all.
abbrev seen_by : NameSet → (Name → ℕ) → NameSet
seen_by once reads n = not (once n && nat_le (reads n) 0)

not_seen : (a : Bool) (k : ℕ) → IsTrue a → k ≡ 0 → not (a && nat_le k 0) ≡ false
not_seen a k t e = ap (λ b. not (b && nat_le k 0)) t ∙ ap (λ j. not (nat_le j 0)) e

is_seen : (a : Bool) (k : ℕ) → (IsTrue a → 1 ≤ k) → IsTrue (not (a && nat_le k 0))
is_seen true k h = let l = h refl in grind (arith, l)
is_seen false k h = refl

reads_seen : (once : NameSet) (reads : Name → ℕ) → NoRegisters once → (ss : List Stmt) (e : BlockEnd) → ((n : Name) → reads_of_rest ss e n ≤ reads n) → ReadsWithin (seen_by once reads) ss e
reads_seen once reads regs [] e l = λ n t. is_seen (once n) (reads n) (λ o. let x = some_read (end_reads e n) (reads_of_end e n) (end_read e n (regs n o)) t in let y = l n in omega (arith, x, y))
reads_seen once reads regs (s ∷ ss) e l =
    (λ n t. is_seen (once n) (reads n) (λ o. let x = some_read (stmt_reads s n) (reads_of_stmt s n) (stmt_read s n (regs n o)) t in let y = l n in omega (arith, x, y)), reads_seen once reads regs ss e (λ n. let y = l n in omega (arith, y)))

-- ---- a block, and blocks

none_left : (a b : ℕ) → a < b → b ≤ 1 → a ≡ 0
none_left a b h l = omega (arith, h, l)

block_keeps : (once : NameSet) (bs : List Block) → IsOnce once bs → (j : ℕ) (b : Block) → slice_get bs j ≡ Some b → IsTrue (is_flow_block b) → (k : ℕ) → FoldsBlock (λ k. seen_by once (reads_of (map (moved_block once) bs))) k b (moved_block once b)
block_keeps once bs h j b at t k =
    let reads = reads_of (map (moved_block once) bs) in
    let seen = seen_by once reads in
    let c = moved_block once b in
    let ruled = both_true (are_flow_stmts b.stmts) (is_flow_end b.end) t in
    let rule = moved_ruled once b.stmts b.end (ruled.0, ruled.1) in
    let alike = moved_alike once b.stmts b.end in
    let hidden : Hidden once seen b.stmts b.end (moved once b.stmts ([], b.end)) = λ n o l. not_seen (once n) (reads n) o (none_left (reads n) (reads_of bs n) (less_at once h.temps bs h.few n j b at l) (h.few n o)) in
    let within = reads_seen once reads h.temps c.stmts c.end (λ n. at_most (map (moved_block once) bs) j c n (also_mapped once bs j b at)) in
    record {
      keeps = record { at = refl; end = alike.end; loads = alike.loads; stores = alike.stores; calls = alike.calls };
      rule = and_true (are_flow_stmts c.stmts) (is_flow_end c.end) rule.0 rule.1;
      leads = λ w u iw iu al. arrives_twice seen seen seen (λ n i. i) (λ n i. i) (leads b.stmts b.end w) (leads c.stmts c.end w) (leads c.stmts c.end u)
          (moved_leads once seen h.temps b.stmts b.end (few_at once bs j b h.few at) (ruled.0, ruled.1) hidden w iw) (leads_alike seen c.stmts c.end within rule.0 w u iw iu al);
    }

each_keeps : (once seen : NameSet) (bs : List Block) (k : ℕ) → ((j : ℕ) (b : Block) → slice_get bs j ≡ Some b → IsTrue (is_flow_block b) → (i : ℕ) → FoldsBlock (λ k. seen) i b (moved_block once b)) → IsTrue (are_flow_blocks bs)
    → FoldsBlocks (λ k. seen) k bs (map (moved_block once) bs)
each_keeps once seen [] k h t = tt
each_keeps once seen (b ∷ bs) k h t =
    let r = both_true (is_flow_block b) (are_flow_blocks bs) t in
    (h 0 b refl r.0 k, each_keeps once seen bs (suc k) (λ j c e u i. h (suc j) c e u i) r.1)

-- ---- the flow

pub flow_folds : (once : NameSet) (bs : List Block) → IsOnce once bs → IsTrue (are_flow_blocks bs) → FoldsBlocks (λ k. seen_by once (reads_of (map (moved_block once) bs))) 0 bs (map (moved_block once) bs)
flow_folds once bs h t = each_keeps once (seen_by once (reads_of (map (moved_block once) bs))) bs 0 (block_keeps once bs h) t

pub moved_given : (once : NameSet) (f g : Flow) → IsOnce once f.blocks → IsGiven f → g.blocks ≡ map (moved_block once) f.blocks → g.entry ≡ f.entry → IsGiven g
moved_given once f g h i e n = flow_given (λ k. seen_by once (reads_of (map (moved_block once) f.blocks))) f g i (subst (FoldsBlocks (λ k. seen_by once (reads_of (map (moved_block once) f.blocks))) 0 f.blocks) (sym e) (flow_folds once f.blocks h i.rule)) n

pub moved_keeps : (once : NameSet) (f g : Flow) → IsOnce once f.blocks → IsGiven f → g.blocks ≡ map (moved_block once) f.blocks → g.entry ≡ f.entry → Keeps f g
moved_keeps once f g h i e n = flow_keeps (λ k. seen_by once (reads_of (map (moved_block once) f.blocks))) f g i (subst (FoldsBlocks (λ k. seen_by once (reads_of (map (moved_block once) f.blocks))) 0 f.blocks) (sym e) (flow_folds once f.blocks h i.rule)) n

-- a temporary that is read once afterwards was read once before
still_once : (once : NameSet) (bs : List Block) → IsOnce once bs → (t : ℕ) → reads_of (map (moved_block once) bs) (name.T t) ≡ 1 → IsTrue (once (name.T t))
still_once once bs h t e = by_case (true_or_false (once (name.T t))) where
  by_case : (once (name.T t) ≡ true) ⊎ (once (name.T t) ≡ false) → IsTrue (once (name.T t))
  by_case (inl i) = i
  by_case (inr f) = absurd (let x = blocks_lose once h.temps bs h.few (name.T t) in let y = x.is in let z = x.only f in let m = h.more t f in omega (arith, e, y, z, m))

block_apart : (once : NameSet) (bs : List Block) (k : ℕ) (c : Block) → slice_get (map (moved_block once) bs) k ≡ Some c → AllApart once c.stmts c.end
block_apart once bs k c at =
    let b = unmapped (moved_block once) bs k c at in
    subst (λ (x : Block). AllApart once x.stmts x.end) (sym b.2) (moved_apart once b.0.stmts b.0.end)

pub moved_direct : (once : NameSet) (bs : List Block) (g : Flow) → IsOnce once bs → g.blocks ≡ map (moved_block once) bs → NoneStandsDirectlyBefore g
moved_direct once bs g h e = record {
  before_stmt = λ k i t b a s at p q r o.
      let once_read = still_once once bs h t (subst (λ x. reads_of x (name.T t) ≡ 1) e o) in
      let apart = block_apart once bs k b (subst (λ x. slice_get x k ≡ Some b) e at) in
      unfit_stmt (record { name = name.T t; word = a }) s (apart_at once b.stmts b.end i (name.T t) a s apart p q once_read) ((stmt_read s (name.T t) refl).is ∙ ap (nat_le 1) r);
  before_end = λ k i t b a at p q r o.
      let once_read = still_once once bs h t (subst (λ x. reads_of x (name.T t) ≡ 1) e o) in
      let apart = block_apart once bs k b (subst (λ x. slice_get x k ≡ Some b) e at) in
      unfit_end (record { name = name.T t; word = a }) b.end (apart_end once b.stmts b.end i (name.T t) a apart p q once_read) ((end_read b.end (name.T t) refl).is ∙ ap (nat_le 1) r);
}
