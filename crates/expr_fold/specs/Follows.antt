-- How the new statements of a block follow the old ones while some sets are delayed.
use Rattle.std.specs.Prelude.{◌≡◌, ◌⊎◌, ℕ, ◌++◌, false, List, [], ◌∷◌, take, drop, IsTrue}
use Rattle.dream_words.specs.declared.machine.Name.{Name}
use Rattle.run_parts.specs.Steps.{Next, Halt, Jam}
use Rattle.run_parts.specs.World.{World, Names}
use Rattle.run_parts.specs.Effects.{Doing}
use Rattle.micro_ir.specs.declared.flow.Stmt.{Stmt}
use Rattle.micro_ir.specs.Rule.{is_flow_stmt, are_flow_stmts}
use Rattle.micro_ir.specs.Run.{stmts_do}
use Rattle.micro_ir.specs.World.{IsWorld}
use Rattle.micro_ir.specs.Counts.{stores_of_stmts, calls_of_stmts}
use Rattle.flow_passes.specs.Uses.{NameSet, stmt_reads, stmt_sets}
use Rattle.flow_passes.specs.Alike.{Alike}
use Rattle.flow_passes.specs.Keeps.{loads_of_stmts}
use Rattle.flow_passes.specs.Laws.{Within}
use Rattle.flag_liveness.specs.Before.{is_unseen, live_before_all}
use Rattle.expr_fold.specs.declared.delayed.Delayed.{Delayed}
use Rattle.expr_fold.specs.Delayed.{is_delayed, are_flow_delayed, AreHeld}

-- The new names u lag behind the old ones v by the delayed sets: their words have the values of their names, and what else is
-- seen is the same.
pub record Lags (seen : NameSet) (delayed : List Delayed) (v u : Names) : Type 0 where
  pub held : AreHeld delayed v u
  pub others : (n : Name) → IsTrue (seen n) → is_delayed delayed n ≡ false → u n ≡ v n

-- The new world is behind the old one: its names lag.
pub record Behind (seen : NameSet) (delayed : List Delayed) (w u : World) : Type 0 where
  pub names : Lags seen delayed w.names u.names
  pub mem : u.mem ≡ w.mem
  pub pages : u.pages ≡ w.pages
  pub left : u.left ≡ w.left
  pub calls : u.calls ≡ w.calls

-- What is done second is behind what is done first, where that isn't stuck.
abbrev pub DoesBehind : NameSet → List Delayed → Doing → Doing → Type 0
DoesBehind seen delayed Jam d = Unit {0}
DoesBehind seen delayed (Halt o) d = d ≡ Halt o
DoesBehind seen delayed (Next w) d = (u : World) × (d ≡ Next u) × Behind seen delayed w u

-- New statements follow old ones: from worlds that are alike in what is seen before, they lead to a world that is behind.
-- They keep the rule of flows, and have as many loads, stores and calls.
pub record Follows (before seen : NameSet) (old new : List Stmt) (delayed : List Delayed) : Type 0 where
  pub does : (w u : World) → IsWorld w → IsWorld u → Alike before w u → DoesBehind seen delayed (stmts_do old w) (stmts_do new u)
  pub rule : IsTrue (are_flow_stmts new)
  pub delayed_rule : IsTrue (are_flow_delayed delayed)
  pub loads : loads_of_stmts new ≡ loads_of_stmts old
  pub stores : stores_of_stmts new ≡ stores_of_stmts old
  pub calls : calls_of_stmts new ≡ calls_of_stmts old

-- Between two statements: what follows before follows after.
abbrev pub Waits : List Stmt → List Delayed → List Stmt → List Delayed → Type 0
Waits new p new' p' = (before seen : NameSet) (old : List Stmt) → Follows before seen old new p → Follows before seen old new' p'

-- what may be seen after a statement, where it reads what is seen before
pub record Sees (s : Stmt) (seen after : NameSet) : Type 0 where
  pub reads : Within (stmt_reads s) seen
  pub after_it : (n : Name) → IsTrue (after n) → IsTrue (stmt_sets s n) ⊎ IsTrue (seen n)

-- A statement is taken: what follows those before it follows it too.
abbrev pub Takes : Stmt → List Stmt → List Delayed → List Stmt → List Delayed → Type 0
Takes s new p new' p' = (before seen after : NameSet) (old : List Stmt) → IsTrue (is_flow_stmt s) → Sees s seen after
    → Follows before seen old new p → Follows before after (old ++ s ∷ []) new' p'

-- A statement that sets a name is taken by setting another one, which isn't seen after it, and by which the name is said.
abbrev pub TakesInto : Stmt → Name → List Stmt → List Delayed → List Stmt → List Delayed → Type 0
TakesInto s r new p new' p' = (before seen after : NameSet) (old : List Stmt) → IsTrue (is_flow_stmt s) → Sees s seen after → after r ≡ false
    → Follows before seen old new p → Follows before after (old ++ s ∷ []) new' p'

-- somebody sees each of the statements, given what is live after them
abbrev pub AllSeen : List Stmt → NameSet → Type 0
AllSeen [] after = Unit {0}
AllSeen (s ∷ ss) after = (is_unseen s (live_before_all ss after) ≡ false) × AllSeen ss after

-- What follows the first i statements of a list, where somebody sees each: what is live is seen.
abbrev pub FollowsFirst : NameSet → List Stmt → ℕ → List Stmt → List Delayed → Type 0
FollowsFirst last all i new p = AllSeen all last → IsTrue (are_flow_stmts (take i all)) → Follows (live_before_all all last) (live_before_all (drop i all) last) (take i all) new p

-- a name isn't seen again in statements and after them, where somebody sees each
abbrev pub IsLost : NameSet → List Stmt → Name → Type 0
IsLost last ss t = AllSeen ss last → live_before_all ss last t ≡ false
