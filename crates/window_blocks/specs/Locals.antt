-- Which locals statements set.
use Rattle.std.specs.Prelude.{ℕ, nat_eq, Bool, false}
use Rattle.dream_words.specs.declared.machine.Name.{Name}
use Rattle.dream_words.specs.declared.machine.Name.TheVariants as name
use Rattle.micro_ir.specs.declared.flow.Stmt.{Stmt}
use Rattle.micro_ir.specs.declared.flow.Stmt.TheVariants as stmt

-- the name is the local of a number
abbrev pub is_local : ℕ → Name → Bool
is_local k (name.T n) = nat_eq n k
is_local k (name.Reg n) = false
is_local k (name.Flag n) = false
is_local k name.Fs = false
is_local k name.Gs = false
is_local k (name.B n) = false
is_local k (name.S n) = false

-- the statement sets that local
abbrev pub sets : ℕ → Stmt → Bool
sets k (stmt.Set n e) = is_local k n
sets k (stmt.Load n width e) = is_local k n
sets k (stmt.Store width e f) = false
sets k (stmt.Ext e) = false
sets k (stmt.Trap vector e) = false
