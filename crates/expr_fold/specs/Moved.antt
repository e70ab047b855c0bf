-- Blocks in which words are put into what follows them directly.
use Rattle.std.specs.Prelude.{List, [], ◌∷◌, ◌&&◌, Option, Some, None, reverse, if◌then◌else◌}
use Rattle.micro_ir.specs.declared.flow.Stmt.{Stmt}
use Rattle.micro_ir.specs.declared.flow.Stmt.TheVariants as stmt
use Rattle.micro_ir.specs.declared.flow.End.{End as BlockEnd}
use Rattle.micro_ir.specs.declared.flow.Block.{Block}
use Rattle.flow_passes.specs.Uses.{NameSet, stmt_reads, end_reads}
use Rattle.expr_fold.specs.declared.delayed.Delayed.{Delayed}
use Rattle.expr_fold.specs.declared.moves.Tail.{Tail}
use Rattle.expr_fold.specs.Placed.{placed_stmt, placed_end}
use Rattle.expr_fold.specs.Fits.{stmt_fits}
use Rattle.expr_fold.specs.Ends.{end_fits}

-- a statement with a delayed word in place; none where it doesn't read the name, or would nest too deep
abbrev pub stmt_with : Delayed → Stmt → Option Stmt
stmt_with d s = if stmt_reads s d.name && stmt_fits (placed_stmt (d ∷ []) s) then Some (placed_stmt (d ∷ []) s) else None

-- so an end
abbrev pub end_with : Delayed → BlockEnd → Option BlockEnd
end_with d e = if end_reads e d.name && end_fits (placed_end (d ∷ []) e) then Some (placed_end (d ∷ []) e) else None

-- what stands from a place of a block on: statements and the end
abbrev pub Rest : Type 0
Rest = List Stmt × BlockEnd

-- of a tail the statements are in order
abbrev pub rest_of : Tail → Rest
rest_of t = (reverse t.back.items, t.end)

abbrev pub with_end : Option BlockEnd → Option Rest
with_end None = None
with_end (Some e) = Some ([], e)

abbrev pub with_first : Option Stmt → List Stmt → BlockEnd → Option Rest
with_first None ss e = None
with_first (Some s) ss e = Some (s ∷ ss, e)

-- the rest with a delayed word in place in what comes first
abbrev pub first_with : Delayed → List Stmt → BlockEnd → Option Rest
first_with d [] e = with_end (end_with d e)
first_with d (s ∷ ss) e = with_first (stmt_with d s) ss e

-- the rest with one statement more
abbrev pub one_more : Stmt → Rest → Rest
one_more s r = (s ∷ r.0, r.1)

abbrev pub placed_or : Option Rest → Rest → Rest
placed_or None r = r
placed_or (Some q) r = q

-- A set before the rest: its word is put in place there, where that can be and its name is among some.
abbrev pub set_before : NameSet → Delayed → Rest → Rest
set_before once d r = if once d.name then placed_or (first_with d r.0 r.1) (one_more (stmt.Set d.name d.word) r) else one_more (stmt.Set d.name d.word) r

-- a statement before the rest
abbrev pub stmt_before : NameSet → Stmt → Rest → Rest
stmt_before once (stmt.Set n e) r = set_before once (record { name = n; word = e }) r
stmt_before once (stmt.Load n width e) r = one_more (stmt.Load n width e) r
stmt_before once (stmt.Store width e f) r = one_more (stmt.Store width e f) r
stmt_before once (stmt.Ext e) r = one_more (stmt.Ext e) r
stmt_before once (stmt.Trap vector e) r = one_more (stmt.Trap vector e) r

-- statements before the rest, the last of them first
abbrev pub moved : NameSet → List Stmt → Rest → Rest
moved once [] r = r
moved once (s ∷ ss) r = stmt_before once s (moved once ss r)

-- a block
abbrev pub moved_block : NameSet → Block → Block
moved_block once b = let r = moved once b.stmts ([], b.end) in record { at = b.at; stmts = r.0; end = r.1 }
