-- What a reader expects of trees.
use Rattle.std.specs.Prelude.{◌≡◌, ℕ, suc, ◌+◌, List, [], ◌∷◌, Some, None}
use Rattle.dream_words.specs.declared.outcome.Start.{Start}
use Rattle.dream_words.specs.declared.outcome.Answer.{Answer}
use Rattle.run_parts.specs.Parts.{Ends, Goes, Past, skip, seq}
use Rattle.run_parts.specs.World.{World}
use Rattle.run_parts.specs.Laws.{IsRun}
use Rattle.c_syntax.specs.RunLaws.{Continues}
use Rattle.cond_terms.specs.declared.term.Term.{Term-F, roll-Term}
use Rattle.guarded.specs.declared.tree.Tree.{Tree, Tree-F, roll-Tree}
use Rattle.guarded.specs.Run.{tree_does, tree_run}

-- in more turns a run only continues
abbrev pub MoreTurnsContinue : Type 0
MoreTurnsContinue = (t : Tree) (start : Start) (answers : List Answer) (m k : ℕ)
    → Continues (tree_run t start answers m) (tree_run t start answers (m + k))

-- what a tree does is a run
abbrev pub TreesAreRuns : Type 0
TreesAreRuns = (t : Tree) → IsRun (tree_does t)

pub record TreesMeanSo : Type 0 where
  -- no members do nothing, and the first of several is done before the others
  pub empty_is_skip : tree_does (roll-Tree (Tree-F.Seq [])) ≡ skip
  pub seq_is_seq : (t : Tree) (ts : List Tree) → tree_does (roll-Tree (Tree-F.Seq (t ∷ ts))) ≡ seq (tree_does t) (tree_does (roll-Tree (Tree-F.Seq ts)))
  -- an If on True is its first tree, and on False its other one
  pub if_true : (t : Tree) → tree_does (roll-Tree (Tree-F.If (roll-Term Term-F.True) t None)) ≡ tree_does t
  pub if_false : (t u : Tree) → tree_does (roll-Tree (Tree-F.If (roll-Term Term-F.False) t (Some u))) ≡ tree_does u
  -- a While on False does nothing, and makes no turn
  pub while_false : (t : Tree) (m : ℕ) (w : World) → tree_does (roll-Tree (Tree-F.While (roll-Term Term-F.False) t)) m w ≡ Ends (Past w) m
  -- a Break leaves its Loop; an empty Loop goes on in any number of turns
  pub break_leaves : (m : ℕ) (w : World) → tree_does (roll-Tree (Tree-F.Loop (roll-Tree Tree-F.Break))) (suc m) w ≡ Ends (Past w) m
  pub empty_goes_on : (m : ℕ) (w : World) → tree_does (roll-Tree (Tree-F.Loop (roll-Tree (Tree-F.Seq [])))) m w ≡ Goes w
