-- A block whose words are safe is never stuck.
use Rattle.std.proofs.Common.{ℕ, ◌<◌, nat_lt, nat_eq, Bool, true, false, if◌then◌else◌, List, [], ◌∷◌, Option, Some, None, sym, subst}
use Rattle.std.specs.Prelude.{IsTrue}
use Rattle.std.proofs.lemmas.Bool.{false≢true, ltb-true}
use Rattle.dream_words.specs.declared.outcome.Answer.{Answer}
use Rattle.dream_words.specs.declared.outcome.Call.{Call}
use Rattle.dream_words.specs.declared.outcome.Outcome.{Outcome}
use Rattle.dream_words.specs.Memory.{bytes_of}
use Rattle.dream_words.specs.Pages.{first_bad}
use Rattle.run_parts.specs.World.{World}
use Rattle.run_parts.specs.Effects.{Doing, allowing, answered_by, calling}
use Rattle.run_parts.specs.Steps.{Next, Halt, Jam, having, then_do, To, End, Nowhere, arrive}
use Rattle.c_syntax.specs.declared.syntax.CExpr.{CExpr}
use Rattle.c_syntax.specs.Run.{word_in, does_ext}
use Rattle.micro_ir.specs.declared.flow.Stmt.{Stmt}
use Rattle.micro_ir.specs.declared.flow.Stmt.TheVariants as stmt
use Rattle.micro_ir.specs.declared.flow.End.{End as BlockEnd}
use Rattle.micro_ir.specs.declared.flow.End.TheVariants as end
use Rattle.micro_ir.specs.declared.flow.Block.{Block}
use Rattle.micro_ir.specs.Run.{Arrive, stmt_does, stmts_do, branch, left_by, end_leads, block_leads}
use Rattle.micro_ir.specs.World.{IsWorld}
use Rattle.micro_ir.specs.Rule.{is_flow_block}
use Rattle.micro_ir.specs.Laws.{ArriveStays}
use Rattle.micro_ir.proofs.Worlds.{block_stays}
use Rattle.lift_parts.specs.Lifted.{Stays}
use Rattle.lift_parts.specs.Safe.{is_safe, is_safe_stmt, are_safe_stmts, is_safe_end, is_safe_block, leads_below}
use Rattle.lift_parts.proofs.Sureness.{both_true, safe_value, safe_truth}

-- what is done isn't stuck
abbrev pub IsDone : Doing → Type 0
IsDone (Next w) = Unit {0}
IsDone (Halt o) = Unit {0}
IsDone Jam = ⊥

-- a block led to a node below a bound, or to an end
abbrev pub IsWithin : ℕ → Arrive → Type 0
IsWithin nodes (To n w) = n < nodes
IsWithin nodes (End o) = Unit {0}
IsWithin nodes Nowhere = ⊥

pub answered_done : (left : List Answer) (calls : List Call) (w : World) → IsDone (answered_by left calls w)
answered_done [] calls w = tt
answered_done (a ∷ rest) calls w = tt

calling_done : (target : ℕ) (w : World) → IsDone (calling target w)
calling_done target w = answered_done w.left _ w

pub trap_done : (b : Bool) (w : World) (o : Outcome) → IsDone (if b then Next w else Halt o)
trap_done true w o = tt
trap_done false w o = tt

pub allowing_done : (bad : Option ℕ) (w : World) (d : Doing) → IsDone d → IsDone (allowing bad w d)
allowing_done None w d h = h
allowing_done (Some at) w d h = tt

having_done : (e : CExpr) (w : World) (k : ℕ → Doing) → IsTrue (is_safe e) → ((x : ℕ) → IsDone (k x)) → IsDone (having (word_in e w) k)
having_done e w k t h = let (x, g) = safe_value e w.names t in subst (λ o. IsDone (having o k)) (sym g) (h x)

stmt_done : (s : Stmt) (w : World) → IsTrue (is_safe_stmt s) → IsDone (stmt_does s w)
stmt_done (stmt.Set n e) w t = having_done e w _ t (λ x. tt)
stmt_done (stmt.Load n width e) w t = having_done e w _ t (λ x. allowing_done (first_bad w.pages.read x (bytes_of width)) w _ tt)
stmt_done (stmt.Store width e f) w t = let (s, r) = both_true (is_safe e) (is_safe f) t in having_done e w _ s (λ x. having_done f w _ r (λ y. allowing_done (first_bad w.pages.write x (bytes_of width)) w _ tt))
stmt_done (stmt.Ext e) w t = having_done e w _ t (λ x. calling_done x w)
stmt_done (stmt.Trap vector e) w t = having_done e w _ t (λ x. trap_done (nat_eq x 0) w _)

pub then_done : (d : Doing) (k : World → Doing) → IsDone d → ((u : World) → IsDone (k u)) → IsDone (then_do d k)
then_done (Next u) k h g = g u
then_done (Halt o) k h g = tt
then_done Jam k h g = h

stmts_done : (ss : List Stmt) (w : World) → IsTrue (are_safe_stmts ss) → IsDone (stmts_do ss w)
stmts_done [] w t = tt
stmts_done (s ∷ ss) w t = let (p, q) = both_true (is_safe_stmt s) (are_safe_stmts ss) t in then_done (stmt_does s w) (stmts_do ss) (stmt_done s w p) (λ u. stmts_done ss u q)

left_within : (nodes : ℕ) (d : Doing) → IsDone d → IsWithin nodes (left_by d)
left_within nodes (Next w) h = tt
left_within nodes (Halt o) h = tt
left_within nodes Jam h = h

branch_within : (nodes : ℕ) (p : Bool) (a b : ℕ) (w : World) → a < nodes → b < nodes → IsWithin nodes (branch (Some p) a b w)
branch_within nodes true a b w h g = h
branch_within nodes false a b w h g = g

end_within : (nodes : ℕ) (e : BlockEnd) (w : World) → IsTrue (is_safe_end e) → IsTrue (leads_below nodes e) → IsWithin nodes (end_leads e w)
end_within nodes (end.Go a) w t h = ltb-true a nodes h
end_within nodes (end.Branch c a b) w t h =
    let (p, q) = both_true (nat_lt a nodes) (nat_lt b nodes) h in
    let (x, g) = safe_truth c w.names t in
    subst (λ o. IsWithin nodes (branch o a b w)) (sym g) (branch_within nodes x a b w (ltb-true a nodes p) (ltb-true b nodes q))
end_within nodes (end.Switch e cases) w t h = absurd (false≢true t)
end_within nodes end.Return w t h = tt
end_within nodes (end.Leave e) w t h = left_within nodes (does_ext e w) (having_done e w _ t (λ x. calling_done x w))

arrive_within : (nodes : ℕ) (d : Doing) (e : BlockEnd) → IsDone d → IsTrue (is_safe_end e) → IsTrue (leads_below nodes e) → IsWithin nodes (arrive d (end_leads e))
arrive_within nodes (Next w) e h t g = end_within nodes e w t g
arrive_within nodes (Halt o) e h t g = tt
arrive_within nodes Jam e h t g = h

-- A safe block leads, from every world, to an end or to a node that its end names.
pub never_stuck : (nodes : ℕ) (b : Block) (w : World) → IsTrue (is_safe_block b) → IsTrue (leads_below nodes b.end) → IsWithin nodes (block_leads b w)
never_stuck nodes b w t h =
    let (p, q) = both_true (are_safe_stmts b.stmts) (is_safe_end b.end) t in
    arrive_within nodes (stmts_do b.stmts w) b.end (stmts_done b.stmts w p) q h

-- both that it stays within a bound and that it leads to a world
stays_both : (nodes : ℕ) (r : Arrive) → IsWithin nodes r → ArriveStays r → Stays nodes r
stays_both nodes (To n w) h g = (h, g)
stays_both nodes (End o) h g = tt
stays_both nodes Nowhere h g = h

-- A safe block that keeps the rule of flows leads, from every world, to an end or to a world at a node that its end names.
pub safe_stays : (nodes : ℕ) (b : Block) (w : World) → IsTrue (is_safe_block b) → IsTrue (is_flow_block b) → IsTrue (leads_below nodes b.end) → IsWorld w → Stays nodes (block_leads b w)
safe_stays nodes b w t r h i = stays_both nodes (block_leads b w) (never_stuck nodes b w t h) (block_stays b w r i)
