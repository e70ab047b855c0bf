-- What the code makes of blocks from their ends on.
use Rattle.std.proofs.Common.{◌≡◌, ℕ, List, [], ◌∷◌, ◌++◌, reverse, map, refl, sym, ap, ◌∙◌}
use Rattle.std.proofs.lemmas.List.{append_assoc, reverse-append}
use Rattle.micro_ir.specs.declared.flow.Stmt.{Stmt}
use Rattle.micro_ir.specs.declared.flow.End.{End as BlockEnd}
use Rattle.micro_ir.specs.declared.flow.Block.{Block}
use Rattle.flow_passes.specs.Uses.{NameSet}
use Rattle.expr_fold.specs.declared.moves.Tail.{Tail}
use Rattle.expr_fold.specs.Moved.{Rest, rest_of, stmt_before, moved, moved_block}

-- ---- a block

-- the last statement is taken first
pub moved_last : (once : NameSet) (ss : List Stmt) (s : Stmt) (r : Rest) → moved once (ss ++ s ∷ []) r ≡ moved once ss (stmt_before once s r)
moved_last once [] s r = refl
moved_last once (x ∷ xs) s r = ap (stmt_before once x) (moved_last once xs s r)

-- So far a block's last statements were taken.
pub record Takes (once : NameSet) (all rest : List Stmt) (first now : Tail) : Type 0 where
  pub is : moved once rest (rest_of now) ≡ moved once all (rest_of first)

pub takes_one : (once : NameSet) (all rest less : List Stmt) (s : Stmt) (first now next : Tail) → Takes once all rest first now → rest ≡ less ++ s ∷ [] → rest_of next ≡ stmt_before once s (rest_of now) → Takes once all less first next
takes_one once all rest less s first now next h e n = record { is = ap (moved once less) n ∙ sym (moved_last once less s (rest_of now)) ∙ sym (ap (λ x. moved once x (rest_of now)) e) ∙ h.is }

pub takes_all : (once : NameSet) (all rest : List Stmt) (first now : Tail) → Takes once all rest first now → rest ≡ [] → rest_of now ≡ moved once all (rest_of first)
takes_all once all rest first now h e = sym (ap (λ x. moved once x (rest_of now)) e) ∙ h.is

abbrev block_by : ℕ → List Stmt → BlockEnd → Block
block_by n ss e = record { at = n; stmts = ss; end = e }

pub block_is : (once : NameSet) (b c : Block) (r : Rest) → c.at ≡ b.at → (c.stmts, c.end) ≡ r → r ≡ moved once b.stmts ([], b.end) → c ≡ moved_block once b
block_is once b c r a e m = ap (λ n. block_by n c.stmts c.end) a ∙ ap (λ (x : Rest). block_by b.at x.0 x.1) (e ∙ m)

-- ---- blocks

-- So far the last blocks were made, the last one first.
pub record Makes (once : NameSet) (all rest made : List Block) : Type 0 where
  pub is : map (moved_block once) rest ++ reverse made ≡ map (moved_block once) all

map_append : (f : Block → Block) (xs ys : List Block) → map f (xs ++ ys) ≡ map f xs ++ map f ys
map_append f [] ys = refl
map_append f (x ∷ xs) ys = ap (λ z. f x ∷ z) (map_append f xs ys)

pub makes_one : (once : NameSet) (all rest less made more : List Block) (b c : Block) → Makes once all rest made → rest ≡ less ++ b ∷ [] → c ≡ moved_block once b → more ≡ made ++ c ∷ [] → Makes once all less more
makes_one once all rest less made more b c h e i m = record {
  is = ap (λ x. map (moved_block once) less ++ x) (ap reverse m ∙ reverse-append made (c ∷ []) ∙ ap (λ x. x ∷ reverse made) i)
      ∙ sym (append_assoc (map (moved_block once) less) (moved_block once b ∷ []) (reverse made)) ∙ ap (λ x. x ++ reverse made) (sym (map_append (moved_block once) less (b ∷ []))) ∙ sym (ap (λ x. map (moved_block once) x ++ reverse made) e) ∙ h.is;
}

pub makes_all : (once : NameSet) (all rest made : List Block) → Makes once all rest made → rest ≡ [] → reverse made ≡ map (moved_block once) all
makes_all once all rest made h e = sym (ap (λ x. map (moved_block once) x ++ reverse made) e) ∙ h.is
