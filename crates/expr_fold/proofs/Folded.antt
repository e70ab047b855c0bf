-- Blocks with words in place.
use Rattle.std.proofs.Common.{◌≡◌, ◌⊎◌, inl, inr, ℕ, zero, suc, ◌+◌, ◌<◌, ◌≤◌, ◌^◌, Bool, true, false, cond, not, ◌&&◌, ◌||◌, nat_le, List, [], ◌∷◌, ◌++◌, length, take, drop, get_or, Some, map, refl, sym, ap, ◌∙◌, subst, arith}
use Rattle.std.specs.Prelude.{IsTrue, Contains, slice_get}
use Rattle.std.proofs.lemmas.List.{take_more}
use Rattle.std.proofs.Math.Seq.{take-length, drop-length}
use Rattle.dream_words.specs.declared.machine.Name.{Name}
use Rattle.run_parts.specs.Steps.{Next, Halt, Jam, arrive}
use Rattle.run_parts.specs.Effects.{Doing}
use Rattle.c_syntax.specs.Depth.{word_depth, cond_depth}
use Rattle.micro_ir.specs.declared.flow.Stmt.{Stmt}
use Rattle.micro_ir.specs.declared.flow.End.{End as BlockEnd}
use Rattle.micro_ir.specs.declared.flow.End.TheVariants as end
use Rattle.micro_ir.specs.declared.flow.Block.{Block}
use Rattle.micro_ir.specs.declared.flow.Flow.{Flow}
use Rattle.micro_ir.specs.Checked.{nodes_of}
use Rattle.micro_ir.specs.Rule.{has_flow_names, cond_has_flow_names, is_flow_word, is_flow_stmt, are_flow_stmts, have_words, is_flow_end, is_flow_block, are_flow_blocks, nodes_in, IsGiven}
use Rattle.micro_ir.specs.Run.{stmts_do, end_leads, block_leads}
use Rattle.micro_ir.proofs.Values.{both_true}
use Rattle.flow_passes.specs.Uses.{NameSet, stmt_reads, stmt_sets}
use Rattle.flow_passes.specs.Laws.{Within}
use Rattle.flow_passes.proofs.Names.{or_left, alike_within}
use Rattle.flag_liveness.specs.Before.{AreLive, is_unseen, live_before, live_before_all, live_at, live_in}
use Rattle.flag_liveness.specs.Clean.{cleaned, cleaned_block, cleaned_flow}
use Rattle.flag_liveness.proofs.Kept.{unmapped}
use Rattle.flow_passes.specs.Alike.{ArrivesAlike}
use Rattle.flow_passes.specs.Keeps.{EndsAlike, Keeps}
use Rattle.flow_passes.proofs.Walking.{going_alike_keeps_runs}
use Rattle.expr_fold.specs.declared.delayed.Delayed.{Delayed}
use Rattle.expr_fold.specs.Delayed.{are_flow_delayed}
use Rattle.expr_fold.specs.Placed.{placed_word, placed_cond, placed_end}
use Rattle.expr_fold.specs.Follows.{DoesBehind, Follows, Sees, Takes, TakesInto, Waits, AllSeen, FollowsFirst, IsLost}
use Rattle.expr_fold.specs.Folds.{LivesAt, LivesIn, FoldsBlock, FoldsBlocks}
use Rattle.expr_fold.proofs.Named.{and_true}
use Rattle.expr_fold.proofs.Placing.{word_named, cond_named}
use Rattle.expr_fold.specs.Ends.{EndsWell, end_fits}
use Rattle.expr_fold.proofs.Ending.{end_behind}

-- ---- what is live

seen_before : (b x y : Bool) → b ≡ false → cond b x y ≡ y
seen_before true x y e = ap (λ t. cond t x y) e
seen_before false x y e = refl

-- what is seen after a statement is set by it, or is seen before it
set_or_seen : (r x s : Bool) → x ≡ true → (s ≡ true) ⊎ ((r || (x && not s)) ≡ true)
set_or_seen r x true h = inl refl
set_or_seen true x false h = inr refl
set_or_seen false true false h = inr refl
set_or_seen false false false h = inr h

on_right : (a b c : Bool) → b ≡ c → (a ≡ true) ⊎ (c ≡ true) → (a ≡ true) ⊎ (b ≡ true)
on_right a b c e (inl h) = inl h
on_right a b c e (inr h) = inr (e ∙ h)

sees_one : (s : Stmt) (after : NameSet) → is_unseen s after ≡ false → Sees s (live_before s after) after
sees_one s after e = record {
  reads = λ n t. seen_before (is_unseen s after) (after n) (stmt_reads s n || (after n && not (stmt_sets s n))) e ∙ or_left (stmt_reads s n) _ t;
  after_it = λ n t. on_right (stmt_sets s n) _ _ (seen_before (is_unseen s after) (after n) (stmt_reads s n || (after n && not (stmt_sets s n))) e) (set_or_seen (stmt_reads s n) (after n) (stmt_sets s n) t);
}

-- each of the statements sees what is live
sees_each : (ss : List Stmt) (after : NameSet) → AllSeen ss after → (i : ℕ) (s : Stmt) → i < length ss → s ≡ get_or ss i s → Sees s (live_before_all (drop i ss) after) (live_before_all (drop (i + 1) ss) after)
sees_each [] after h i s l e = absurd (omega (arith, l))
sees_each (x ∷ xs) after h zero s l e = subst (λ y. Sees y (live_before x (live_before_all xs after)) (live_before_all xs after)) (sym e) (sees_one x (live_before_all xs after) h.0)
sees_each (x ∷ xs) after h (suc i) s l e =
    subst (λ n. Sees s (live_before_all (drop i xs) after) (live_before_all (drop n (x ∷ xs)) after)) (let g : suc (i + 1) ≡ suc i + 1 = omega arith in g) (sees_each xs after h.1 i s (omega (arith, l)) e)

-- ---- statements one after another

pub follows_none : (before : NameSet) (new : List Stmt) (p : List Delayed) → new ≡ [] → p ≡ [] → Follows before before [] new p
follows_none before new p e f =
    subst (λ x. Follows before before [] x p) (sym e) (subst (λ y. Follows before before [] [] y) (sym f)
    (record {
      does = λ w u iw iu al. (u, refl, record { names = record { held = tt; others = λ n i g. al.names n i }; mem = al.mem; pages = al.pages; left = al.left; calls = al.calls });
      rule = refl;
      delayed_rule = refl;
      loads = refl;
      stores = refl;
      calls = refl;
    }))

rule_less : (ss : List Stmt) (s : Stmt) → IsTrue (are_flow_stmts (ss ++ s ∷ [])) → IsTrue (are_flow_stmts ss) × IsTrue (is_flow_stmt s)
rule_less [] s h = (refl, (both_true (is_flow_stmt s) true h).0)
rule_less (r ∷ rs) s h =
    let k = both_true (is_flow_stmt r) (are_flow_stmts (rs ++ s ∷ [])) h in
    let j = rule_less rs s k.1 in
    (and_true (is_flow_stmt r) (are_flow_stmts rs) k.0 j.0, j.1)

one_taken : (all : List Stmt) (i : ℕ) (s : Stmt) → i < length all → s ≡ get_or all i s → take (i + 1) all ≡ take i all ++ s ∷ []
one_taken all i s l e = take_more all i s l ∙ ap (λ x. take i all ++ x ∷ []) (sym e)

pub follows_more : (last : NameSet) (all : List Stmt) (i : ℕ) (s : Stmt) (new : List Stmt) (p : List Delayed) (new' : List Stmt) (p' : List Delayed) → i < length all → s ≡ get_or all i s
    → Takes s new p new' p' → FollowsFirst last all i new p → FollowsFirst last all (i + 1) new' p'
follows_more last all i s new p new' p' l e t h seen =
    let first = live_before_all all last in
    let next = live_before_all (drop (i + 1) all) last in
    subst (λ x. IsTrue (are_flow_stmts x) → Follows first next x new' p') (sym (one_taken all i s l e))
    (λ r. let k = rule_less (take i all) s r in t first (live_before_all (drop i all) last) next (take i all) k.1 (sees_each all last seen i s l e) (h seen k.0))

rest_seen : (all : List Stmt) (last : NameSet) (i : ℕ) → AllSeen all last → AllSeen (drop i all) last
rest_seen all last zero h = h
rest_seen [] last (suc i) h = h
rest_seen (x ∷ xs) last (suc i) h = rest_seen xs last i h.1

-- one more, taken into another name
pub follows_into : (last : NameSet) (all : List Stmt) (i : ℕ) (s : Stmt) (r : Name) (new : List Stmt) (p : List Delayed) (new' : List Stmt) (p' : List Delayed) → i < length all → s ≡ get_or all i s
    → IsLost last (drop (i + 1) all) r → TakesInto s r new p new' p' → FollowsFirst last all i new p → FollowsFirst last all (i + 1) new' p'
follows_into last all i s r new p new' p' l e lost t h seen =
    let first = live_before_all all last in
    let next = live_before_all (drop (i + 1) all) last in
    subst (λ x. IsTrue (are_flow_stmts x) → Follows first next x new' p') (sym (one_taken all i s l e))
    (λ rule. let k = rule_less (take i all) s rule in
    t first (live_before_all (drop i all) last) next (take i all) k.1 (sees_each all last seen i s l e) (lost (rest_seen all last (i + 1) seen)) (h seen k.0))

-- all statements
pub follows_all : (last : NameSet) (all : List Stmt) (i : ℕ) (new : List Stmt) (p : List Delayed) → length all ≤ i → i ≤ length all → FollowsFirst last all i new p → FollowsFirst last all (length all) new p
follows_all last all i new p a b h = subst (λ n. FollowsFirst last all n new p) (let e : i ≡ length all = omega arith in e) h

-- steps before and after a statement
pub takes_between : (s : Stmt) (a : List Stmt) (p : List Delayed) (b : List Stmt) (q : List Delayed) (c : List Stmt) (r : List Delayed) (d : List Stmt) (t : List Delayed)
    → Waits a p b q → Takes s b q c r → Waits c r d t → Takes s a p d t
takes_between s a p b q c r d t f g h before seen after old rule sees x = h before after (old ++ s ∷ []) (g before seen after old rule sees (f before seen old x))

pub takes_into_after : (s : Stmt) (r : Name) (a : List Stmt) (p : List Delayed) (b : List Stmt) (q : List Delayed) (c : List Stmt) (o : List Delayed) → Waits a p b q → TakesInto s r b q c o → TakesInto s r a p c o
takes_into_after s r a p b q c o f g before seen after old rule sees lost x = g before seen after old rule sees lost (f before seen old x)

-- ---- ends

pub end_rule : (p : List Delayed) (e : BlockEnd) → IsTrue (are_flow_delayed p) → IsTrue (is_flow_end e) → IsTrue (end_fits (placed_end p e)) → IsTrue (is_flow_end (placed_end p e))
end_rule p (end.Go a) r t f = t
end_rule p (end.Branch c a b) r t f = and_true (cond_has_flow_names (placed_cond p c)) (nat_le (cond_depth (placed_cond p c)) 64) (cond_named p r c (both_true (cond_has_flow_names c) (nat_le (cond_depth c) 64) t).0) f
end_rule p (end.Switch a cases) r t f =
    let k = both_true (is_flow_word a) (have_words cases) t in
    and_true (is_flow_word (placed_word p a)) (have_words cases)
    (and_true (has_flow_names (placed_word p a)) (nat_le (word_depth (placed_word p a)) 64) (word_named p r a (both_true (has_flow_names a) (nat_le (word_depth a) 64) k.0).0) f) k.1
end_rule p end.Return r t f = t
end_rule p (end.Leave a) r t f = and_true (has_flow_names (placed_word p a)) (nat_le (word_depth (placed_word p a)) 64) (word_named p r a (both_true (has_flow_names a) (nat_le (word_depth a) 64) t).0) f

ends_alike : (p : List Delayed) (e : BlockEnd) → EndsAlike e (placed_end p e)
ends_alike p (end.Go a) = refl
ends_alike p (end.Branch t a b) = (refl, refl)
ends_alike p (end.Switch a cases) = refl
ends_alike p end.Return = tt
ends_alike p (end.Leave a) = tt

-- ---- a block

leads_by : (live : ℕ → NameSet) (seen : NameSet) (p : List Delayed) (e : BlockEnd) (d f : Doing) → DoesBehind seen p d f → EndsWell live seen p e → ArrivesAlike live (arrive d (end_leads e)) (arrive f (end_leads (placed_end p e)))
leads_by live seen p e Jam f h g = tt
leads_by live seen p e (Halt o) f h g = ap (λ x. arrive x (end_leads (placed_end p e))) h
leads_by live seen p e (Next w) f (u, r, b) g = subst (λ x. ArrivesAlike live (end_leads e w) (arrive x (end_leads (placed_end p e)))) (sym r) (end_behind live seen p e w u g b)

-- ---- without what nobody sees

cleaned_step : (b : Bool) (s : Stmt) (cs : List Stmt) (after x : NameSet) → is_unseen s x ≡ b → live_before_all cs after ≡ x → live_before_all (cond b cs (s ∷ cs)) after ≡ live_before s x
cleaned_step true s cs after x e h = h ∙ sym (ap (λ c. λ (n : Name). cond c (x n) (stmt_reads s n || (x n && not (stmt_sets s n)))) e)
cleaned_step false s cs after x e h = ap (live_before s) h

-- the same is live before
cleaned_live : (ss : List Stmt) (after : NameSet) → live_before_all (cleaned ss after) after ≡ live_before_all ss after
cleaned_live [] after = refl
cleaned_live (s ∷ ss) after = cleaned_step (is_unseen s (live_before_all ss after)) s (cleaned ss after) after (live_before_all ss after) refl (cleaned_live ss after)

seen_step : (b : Bool) (s : Stmt) (cs : List Stmt) (after x : NameSet) → is_unseen s x ≡ b → live_before_all cs after ≡ x → AllSeen cs after → AllSeen (cond b cs (s ∷ cs)) after
seen_step true s cs after x e h a = a
seen_step false s cs after x e h a = (ap (is_unseen s) h ∙ e, a)

-- and somebody sees each statement
cleaned_seen : (ss : List Stmt) (after : NameSet) → AllSeen (cleaned ss after) after
cleaned_seen [] after = tt
cleaned_seen (s ∷ ss) after = seen_step (is_unseen s (live_before_all ss after)) s (cleaned ss after) after (live_before_all ss after) refl (cleaned_live ss after) (cleaned_seen ss after)

pub cleaned_lives : (f : Flow) (live : ℕ → NameSet) → AreLive f live → LivesIn live (cleaned_flow live f).blocks
cleaned_lives f live h k c at =
    let b = unmapped (cleaned_block live) f.blocks k c at in
    subst (LivesAt live k) (sym b.2)
    (record {
      seen = cleaned_seen b.0.stmts (live_at b.0.end live);
      start = subst (λ x. Within x (live k)) (sym (cleaned_live b.0.stmts (live_at b.0.end live))) (h k b.0 b.1);
    })

-- ---- a block folds

pub block_folds : (live : ℕ → NameSet) (k : ℕ) (b c : Block) (p : List Delayed) → IsTrue (is_flow_block b) → LivesAt live k b → FollowsFirst (live_at b.end live) b.stmts (length b.stmts) c.stmts p → EndsWell live (live_at b.end live) p b.end
    → c.at ≡ b.at → c.end ≡ placed_end p b.end → IsTrue (end_fits c.end) → FoldsBlock live k b c
block_folds live k b c p rule lives follows well at e fits =
    let last : NameSet = live_at b.end live in
    let t = both_true (are_flow_stmts b.stmts) (is_flow_end b.end) rule in
    let h = follows lives.seen (subst (λ x. IsTrue (are_flow_stmts x)) (sym (take-length b.stmts)) t.0) in
    let h2 : Follows (live_in b live) last b.stmts c.stmts p =
    subst (λ x. Follows (live_in b live) (live_before_all x last) b.stmts c.stmts p) (drop-length b.stmts)
    (subst (λ x. Follows (live_in b live) (live_before_all (drop (length b.stmts) b.stmts) last) x c.stmts p) (take-length b.stmts) h) in
    record {
      keeps = record { at = at; end = subst (EndsAlike b.end) (sym e) (ends_alike p b.end); loads = h2.loads; stores = h2.stores; calls = h2.calls };
      rule = and_true (are_flow_stmts c.stmts) (is_flow_end c.end) h2.rule (subst (λ x. IsTrue (is_flow_end x)) (sym e) (end_rule p b.end h2.delayed_rule t.1 (subst (λ x. IsTrue (end_fits x)) e fits)));
      leads = λ w u iw iu al. subst (λ x. ArrivesAlike live (block_leads b w) (arrive (stmts_do c.stmts u) (end_leads x))) (sym e)
          (leads_by live last p b.end (stmts_do b.stmts w) (stmts_do c.stmts u) (h2.does w u iw iu (alike_within (live_in b live) (live k) w u lives.start al)) well);
    }

-- ---- blocks

pub folds_more : (live : ℕ → NameSet) (k : ℕ) (bs cs : List Block) (b c : Block) → FoldsBlocks live k bs cs → FoldsBlock live (k + length bs) b c → FoldsBlocks live k (bs ++ b ∷ []) (cs ++ c ∷ [])
folds_more live k [] [] b c h g = (subst (λ n. FoldsBlock live n b c) (let e : k + 0 ≡ k = omega arith in e) g, tt)
folds_more live k [] (y ∷ ys) b c h g = absurd h
folds_more live k (x ∷ xs) [] b c h g = absurd h
folds_more live k (x ∷ xs) (y ∷ ys) b c h g = (h.0, folds_more live (suc k) xs ys b c h.1 (subst (λ n. FoldsBlock live n b c) (let e : k + suc (length xs) ≡ suc k + length xs = omega arith in e) g))

folds_count : (live : ℕ → NameSet) (k : ℕ) (bs cs : List Block) → FoldsBlocks live k bs cs → length cs ≡ length bs
folds_count live k [] [] h = refl
folds_count live k [] (y ∷ ys) h = absurd h
folds_count live k (x ∷ xs) [] h = absurd h
folds_count live k (x ∷ xs) (y ∷ ys) h = ap suc (folds_count live (suc k) xs ys h.1)

folds_at : (live : ℕ → NameSet) (k n : ℕ) (bs cs : List Block) (b c : Block) → FoldsBlocks live k bs cs → slice_get bs n ≡ Some b → slice_get cs n ≡ Some c → FoldsBlock live (k + n) b c
folds_at live k n [] cs b c h e f = absurd (let z : ⊥ = cc in z)
folds_at live k n (x ∷ xs) [] b c h e f = absurd h
folds_at live k zero (x ∷ xs) (y ∷ ys) b c h e f =
    let s : x ≡ b = cc in
    let t : y ≡ c = cc in
    subst (λ n. FoldsBlock live n b c) (let g : k ≡ k + 0 = omega arith in g) (subst (λ z. FoldsBlock live k z c) s (subst (λ z. FoldsBlock live k x z) t h.0))
folds_at live k (suc n) (x ∷ xs) (y ∷ ys) b c h e f = subst (λ m. FoldsBlock live m b c) (let g : suc k + n ≡ k + suc n = omega arith in g) (folds_at live (suc k) n xs ys b c h.1 e f)

folds_rule : (live : ℕ → NameSet) (k : ℕ) (bs cs : List Block) → FoldsBlocks live k bs cs → IsTrue (are_flow_blocks cs)
folds_rule live k [] [] h = refl
folds_rule live k [] (y ∷ ys) h = absurd h
folds_rule live k (x ∷ xs) [] h = absurd h
folds_rule live k (x ∷ xs) (y ∷ ys) h = and_true (is_flow_block y) (are_flow_blocks ys) h.0.rule (folds_rule live (suc k) xs ys h.1)

-- ends that are alike have the same nodes
nodes_same : (a b : BlockEnd) → EndsAlike a b → nodes_of b ≡ nodes_of a
nodes_same (end.Go a) (end.Go b) h = ap (λ n. n ∷ []) h
nodes_same (end.Branch t a b) (end.Branch u c d) h = ap (λ n. n ∷ d ∷ []) h.0 ∙ ap (λ n. a ∷ n ∷ []) h.1
nodes_same (end.Switch e cases) (end.Switch f others) h = ap (λ x. map (λ c. c.to) x) h
nodes_same end.Return end.Return h = refl
nodes_same (end.Leave e) (end.Leave f) h = refl
nodes_same a b h = absurd h

folds_nodes : (live : ℕ → NameSet) (k : ℕ) (bs cs : List Block) → FoldsBlocks live k bs cs → nodes_in cs ≡ nodes_in bs
folds_nodes live k [] [] h = refl
folds_nodes live k [] (y ∷ ys) h = absurd h
folds_nodes live k (x ∷ xs) [] h = absurd h
folds_nodes live k (x ∷ xs) (y ∷ ys) h = ap (λ n. n ++ nodes_in ys) (nodes_same x.end y.end h.0.keeps.end) ∙ ap (λ n. nodes_of x.end ++ n) (folds_nodes live (suc k) xs ys h.1)

-- ---- a flow

-- where one list has an element, another of its length has one
also_at : (bs cs : List Block) (n : ℕ) (c : Block) → length cs ≡ length bs → slice_get cs n ≡ Some c → (b : Block) × (slice_get bs n ≡ Some b)
also_at [] [] n c e f = absurd (let z : ⊥ = cc in z)
also_at [] (y ∷ ys) n c e f = absurd (omega (arith, e))
also_at (x ∷ xs) [] n c e f = absurd (let z : ⊥ = cc in z)
also_at (x ∷ xs) (y ∷ ys) zero c e f = (x, refl)
also_at (x ∷ xs) (y ∷ ys) (suc n) c e f = also_at xs ys n c (omega (arith, e)) f

from_zero : (live : ℕ → NameSet) (n : ℕ) (b c : Block) → FoldsBlock live (0 + n) b c → FoldsBlock live n b c
from_zero live n b c h = subst (λ m. FoldsBlock live m b c) (let g : 0 + n ≡ n = omega arith in g) h

pub flow_given : (live : ℕ → NameSet) (f g : Flow) → IsGiven f → FoldsBlocks live 0 f.blocks g.blocks → g.entry ≡ f.entry → IsGiven g
flow_given live f g h r e =
    let count = folds_count live 0 f.blocks g.blocks r in
    let nodes = folds_nodes live 0 f.blocks g.blocks r in
    record {
      checked = record {
        entry_inside = let x = h.checked.entry_inside in omega (arith, x, e, count);
        nodes_inside = λ n a c at t.
            let b = also_at f.blocks g.blocks n c count at in
            let k = from_zero live n b.0 c (folds_at live 0 n f.blocks g.blocks b.0 c r b.1 at) in
            let x = h.checked.nodes_inside n a b.0 b.1 (subst (λ y. Contains y a) (nodes_same b.0.end c.end k.keeps.end) t) in
            omega (arith, x, count);
      };
      rule = folds_rule live 0 f.blocks g.blocks r;
      few_blocks = let x = h.few_blocks in omega (arith, x, count);
      few_nodes = subst (λ y. length y < 2 ^ 30) (sym nodes) h.few_nodes;
    }

pub flow_keeps : (live : ℕ → NameSet) (f g : Flow) → IsGiven f → FoldsBlocks live 0 f.blocks g.blocks → g.entry ≡ f.entry → Keeps f g
flow_keeps live f g h r e = record {
  entry = e;
  count = folds_count live 0 f.blocks g.blocks r;
  blocks = λ n b c at t. (folds_at live 0 n f.blocks g.blocks b c r at t).keeps;
  runs = going_alike_keeps_runs f g live h.rule (folds_rule live 0 f.blocks g.blocks r) e
      (record { count = folds_count live 0 f.blocks g.blocks r; blocks = λ n b c at t. (from_zero live n b c (folds_at live 0 n f.blocks g.blocks b c r at t)).leads });
}
