-- The rule of flows: which names, numbers and depths they have. Every flow that is given keeps it.
use Rattle.std.specs.Prelude.{ℕ, ◌^◌, ◌<◌, ◌++◌, length, Bool, true, false, not, ◌&&◌, nat_lt, nat_le, List, [], ◌∷◌, IsTrue}
use Rattle.dream_words.specs.declared.machine.Name.{Name}
use Rattle.dream_words.specs.declared.machine.Name.TheVariants as name
use Rattle.c_syntax.specs.declared.syntax.CExpr.{CExpr, CExpr-F, fold-CExpr}
use Rattle.c_syntax.specs.declared.syntax.CCond.{CCond, fold-CCond}
use Rattle.c_syntax.specs.Depth.{word_depth, cond_depth}
use Rattle.c_syntax.specs.Formed.{is_word, is_base, cond_names}
use Rattle.micro_ir.specs.declared.flow.Case.{Case}
use Rattle.micro_ir.specs.declared.flow.Stmt.{Stmt}
use Rattle.micro_ir.specs.declared.flow.Stmt.TheVariants as stmt
use Rattle.micro_ir.specs.declared.flow.End.{End as BlockEnd}
use Rattle.micro_ir.specs.declared.flow.End.TheVariants as end
use Rattle.micro_ir.specs.declared.flow.Block.{Block}
use Rattle.micro_ir.specs.declared.flow.Flow.{Flow}
use Rattle.micro_ir.specs.Checked.{nodes_of, IsChecked}

-- A name that a flow may have: a register, a flag or a base that exists, or a local for words below 2^31.
abbrev pub is_flow_name : Name → Bool
is_flow_name (name.Reg n) = nat_lt n 8
is_flow_name (name.Flag n) = nat_lt n 5
is_flow_name name.Fs = true
is_flow_name name.Gs = true
is_flow_name (name.T n) = nat_lt n (2 ^ 31)
is_flow_name (name.B n) = false
is_flow_name (name.S n) = false

-- a name that a flow may set: no base is set
abbrev pub is_flow_target : Name → Bool
is_flow_target n = is_flow_name n && not (is_base n)

-- every number of a Word is a word, and every name one of a flow
abbrev pub word_names : CExpr-F Bool Bool → Bool
word_names (CExpr-F.Num n) = is_word n
word_names (CExpr-F.Name n) = is_flow_name n
word_names (CExpr-F.«CExpr::Not» a) = a
word_names (CExpr-F.Bin op a b) = a && b
word_names (CExpr-F.Fn1 g a) = a
word_names (CExpr-F.Fn2 g a b) = a && b
word_names (CExpr-F.Fn3 g a b c) = a && (b && c)
word_names (CExpr-F.Pick c a b) = c && (a && b)

abbrev pub has_flow_names : CExpr → Bool
has_flow_names = fold-CExpr Bool Bool cond_names word_names

abbrev pub cond_has_flow_names : CCond → Bool
cond_has_flow_names = fold-CCond Bool Bool cond_names word_names

-- a Word and a Cond of a flow, at most 64 deep
abbrev pub is_flow_word : CExpr → Bool
is_flow_word e = has_flow_names e && nat_le (word_depth e) 64

abbrev pub is_flow_cond : CCond → Bool
is_flow_cond c = cond_has_flow_names c && nat_le (cond_depth c) 64

abbrev pub is_flow_stmt : Stmt → Bool
is_flow_stmt (stmt.Set n e) = is_flow_target n && is_flow_word e
is_flow_stmt (stmt.Load n width e) = is_flow_target n && is_flow_word e
is_flow_stmt (stmt.Store width e f) = is_flow_word e && is_flow_word f
is_flow_stmt (stmt.Ext e) = is_flow_word e
is_flow_stmt (stmt.Trap vector e) = is_word vector && is_flow_word e

abbrev pub are_flow_stmts : List Stmt → Bool
are_flow_stmts [] = true
are_flow_stmts (s ∷ ss) = is_flow_stmt s && are_flow_stmts ss

-- the values of a switch are words
abbrev pub have_words : List Case → Bool
have_words [] = true
have_words (c ∷ cases) = is_word c.value && have_words cases

abbrev pub is_flow_end : BlockEnd → Bool
is_flow_end (end.Go a) = true
is_flow_end (end.Branch t a b) = is_flow_cond t
is_flow_end (end.Switch e cases) = is_flow_word e && have_words cases
is_flow_end end.Return = true
is_flow_end (end.Leave e) = is_flow_word e

abbrev pub is_flow_block : Block → Bool
is_flow_block b = are_flow_stmts b.stmts && is_flow_end b.end

abbrev pub are_flow_blocks : List Block → Bool
are_flow_blocks [] = true
are_flow_blocks (b ∷ bs) = is_flow_block b && are_flow_blocks bs

-- a flow keeps the rule
abbrev pub KeepsRule : Flow → Type 0
KeepsRule f = IsTrue (are_flow_blocks f.blocks)

-- the nodes that blocks name, in reading order
abbrev pub nodes_in : List Block → List ℕ
nodes_in [] = []
nodes_in (b ∷ bs) = nodes_of b.end ++ nodes_in bs

-- A flow that may be given: each node that it names is one of its blocks, it keeps the rule, and it has and names fewer
-- than 2^30 blocks.
pub record IsGiven (f : Flow) : Type 0 where
  pub checked : IsChecked f
  pub rule : KeepsRule f
  pub few_blocks : length f.blocks < 2 ^ 30
  pub few_nodes : length (nodes_in f.blocks) < 2 ^ 30
