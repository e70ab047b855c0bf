-- What keeps a flow that keeps another keeps that one, and has its stores and calls.
use Rattle.std.proofs.Common.{◌≡◌, ℕ, suc, ◌+◌, length, List, [], ◌∷◌, Option, Some, refl, sym, ◌∙◌, subst, arith}
use Rattle.std.specs.Prelude.{slice_get}
use Rattle.c_syntax.specs.declared.syntax.CExpr.{CExpr}
use Rattle.c_syntax.specs.declared.syntax.CCond.{CCond}
use Rattle.micro_ir.specs.declared.flow.Case.{Case}
use Rattle.micro_ir.specs.declared.flow.End.{End as BlockEnd}
use Rattle.micro_ir.specs.declared.flow.End.TheVariants as end
use Rattle.micro_ir.specs.declared.flow.Block.{Block}
use Rattle.micro_ir.specs.declared.flow.Flow.{Flow}
use Rattle.micro_ir.specs.Counts.{stores_of_stmts, stores_of, calls_of_stmts, calls_of_end, calls_of}
use Rattle.flow_passes.specs.Keeps.{EndsAlike, KeepsBlock, KeepsRuns, Keeps}
use Rattle.flow_passes.specs.Laws.{KeepingComposes, KeepingCounts}
use Rattle.flow_passes.proofs.Walking.{also_there}

-- ---- ends

ends_self : (e : BlockEnd) → EndsAlike e e
ends_self (end.Go a) = refl
ends_self (end.Branch t a b) = (refl, refl)
ends_self (end.Switch e cases) = refl
ends_self end.Return = tt
ends_self (end.Leave e) = tt

-- the same by the kind of the first two
go_twice : (m n : ℕ) (c : BlockEnd) → n ≡ m → EndsAlike (end.Go n) c → EndsAlike (end.Go m) c
go_twice m n (end.Go o) h g = g ∙ h
go_twice m n c h g = absurd g

branch_twice : (t u : CCond) (a b c d : ℕ) (e : BlockEnd) → c ≡ a → d ≡ b → EndsAlike (end.Branch u c d) e → EndsAlike (end.Branch t a b) e
branch_twice t u a b c d (end.Branch x i j) h k (g, f) = (g ∙ h, f ∙ k)
branch_twice t u a b c d e h k g = absurd g

switch_twice : (x y : CExpr) (cs ds : List Case) (e : BlockEnd) → ds ≡ cs → EndsAlike (end.Switch y ds) e → EndsAlike (end.Switch x cs) e
switch_twice x y cs ds (end.Switch z es) h g = g ∙ h
switch_twice x y cs ds e h g = absurd g

leave_twice : (x y : CExpr) (e : BlockEnd) → EndsAlike (end.Leave y) e → EndsAlike (end.Leave x) e
leave_twice x y (end.Leave z) g = tt
leave_twice x y e g = absurd g

ends_twice : (a b c : BlockEnd) → EndsAlike a b → EndsAlike b c → EndsAlike a c
ends_twice (end.Go m) (end.Go n) c h g = go_twice m n c h g
ends_twice (end.Branch t a b) (end.Branch u c d) e (h, i) g = branch_twice t u a b c d e h i g
ends_twice (end.Switch x cs) (end.Switch y ds) e h g = switch_twice x y cs ds e h g
ends_twice end.Return end.Return c h g = g
ends_twice (end.Leave x) (end.Leave y) c h g = leave_twice x y c g
ends_twice a b c h g = absurd h

ends_calls : (a b : BlockEnd) → EndsAlike a b → calls_of_end b ≡ calls_of_end a
ends_calls (end.Go m) (end.Go n) h = refl
ends_calls (end.Branch t a b) (end.Branch u c d) h = refl
ends_calls (end.Switch e cs) (end.Switch f ds) h = refl
ends_calls end.Return end.Return h = refl
ends_calls (end.Leave e) (end.Leave f) h = refl
ends_calls a b h = absurd h

-- ---- blocks

block_self : (b : Block) → KeepsBlock b b
block_self b = record { at = refl; end = ends_self b.end; loads = refl; stores = refl; calls = refl }

block_twice : (a b c : Block) → KeepsBlock a b → KeepsBlock b c → KeepsBlock a c
block_twice a b c h g = record {
  at = g.at ∙ h.at;
  end = ends_twice a.end b.end c.end h.end g.end;
  loads = g.loads ∙ h.loads;
  stores = g.stores ∙ h.stores;
  calls = g.calls ∙ h.calls;
}

-- the one element of a place
one_there : {A : Type 0} (x y : A) → Some x ≡ Some y → y ≡ x
one_there x y e = cc

self_at : (o : Option Block) (b c : Block) → o ≡ Some b → o ≡ Some c → KeepsBlock b c
self_at o b c e f = subst (KeepsBlock b) (sym (one_there b c (sym e ∙ f))) (block_self b)

-- ---- flows

runs_self : (f : Flow) → KeepsRuns f f
runs_self f = record { runs = λ start answers k r s. refl; enters = λ start answers k r s. refl }

runs_twice : (f g h : Flow) → KeepsRuns f g → KeepsRuns g h → KeepsRuns f h
runs_twice f g h a b = record {
  runs = λ start answers k r s. let e = a.runs start answers k r s in b.runs start answers k r (λ z. s (sym e ∙ z)) ∙ e;
  enters = λ start answers k r s. b.enters start answers k r (λ z. s (sym (a.runs start answers k r s) ∙ z)) ∙ a.enters start answers k r s;
}

blocks_twice : (f g h : Flow) → Keeps f g → Keeps g h → (n : ℕ) (b c : Block) → slice_get f.blocks n ≡ Some b → slice_get h.blocks n ≡ Some c → KeepsBlock b c
blocks_twice f g h a i n b c e d =
    let t = also_there f.blocks g.blocks n b a.count e in
    block_twice b t.0 c (a.blocks n b t.0 e t.1) (i.blocks n t.0 c t.1 d)

pub keeping_composes : KeepingComposes
keeping_composes = record {
  same = λ f. record { entry = refl; count = refl; blocks = λ n b c e d. self_at (slice_get f.blocks n) b c e d; runs = runs_self f };
  twice = λ f g h a b. record {
    entry = b.entry ∙ a.entry;
    count = b.count ∙ a.count;
    blocks = blocks_twice f g h a b;
    runs = runs_twice f g h a.runs b.runs;
  };
}

-- ---- counts

abbrev EachKeeps : List Block → List Block → Type 0
EachKeeps bs cs = (n : ℕ) (b c : Block) → slice_get bs n ≡ Some b → slice_get cs n ≡ Some c → KeepsBlock b c

sums : (x y a b : ℕ) → x ≡ y → a ≡ b → x + a ≡ y + b
sums x y a b e f = omega (arith, e, f)

same_stores : (bs cs : List Block) → length cs ≡ length bs → EachKeeps bs cs → stores_of cs ≡ stores_of bs
same_stores [] [] e h = refl
same_stores [] (c ∷ cs) e h = absurd (let z : ⊥ = omega (arith, e) in z)
same_stores (b ∷ bs) [] e h = absurd (let z : ⊥ = omega (arith, e) in z)
same_stores (b ∷ bs) (c ∷ cs) e h =
    sums (stores_of_stmts c.stmts) (stores_of_stmts b.stmts) (stores_of cs) (stores_of bs) (let k = h 0 b c refl refl in k.stores)
    (same_stores bs cs (let s : length cs ≡ length bs = omega (arith, e) in s) (λ n. h (suc n)))

same_calls : (bs cs : List Block) → length cs ≡ length bs → EachKeeps bs cs → calls_of cs ≡ calls_of bs
same_calls [] [] e h = refl
same_calls [] (c ∷ cs) e h = absurd (let z : ⊥ = omega (arith, e) in z)
same_calls (b ∷ bs) [] e h = absurd (let z : ⊥ = omega (arith, e) in z)
same_calls (b ∷ bs) (c ∷ cs) e h =
    let k = h 0 b c refl refl in
    sums (calls_of_stmts c.stmts) (calls_of_stmts b.stmts) _ _ k.calls
    (sums (calls_of_end c.end) (calls_of_end b.end) (calls_of cs) (calls_of bs) (ends_calls b.end c.end k.end)
    (same_calls bs cs (let s : length cs ≡ length bs = omega (arith, e) in s) (λ n. h (suc n))))

pub keeping_counts : KeepingCounts
keeping_counts f g k = (same_stores f.blocks g.blocks k.count k.blocks, same_calls f.blocks g.blocks k.count k.blocks)
